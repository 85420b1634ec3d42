-- The bytes of blocks of which those from a mark on show zeros.
use Rattle.std.proofs.Common.{◌≡◌, ◌∙◌, ◌+◌, ◌-◌, ◌*◌, ◌≤◌, ℕ, zero, suc, Bool, true, false, List, ◌++◌, length, take, refl, sym, ap, inl, inr, arith, append-nil}
use Rattle.std.specs.Prelude.{◌==◌, min, if◌then◌else◌, replicate}
use Rattle.std.specs.List.{flat_map}
use Rattle.std.proofs.lemmas.Bool.{cases_lt}
use Rattle.std.proofs.lemmas.List.{take_all, length-take-le, replicate-append-replicate}
use Rattle.std.proofs.lemmas.List.Concat.{flat_map-cons, flat_map-append}
use Rattle.base_words.specs.Fields.{Block}
use Rattle.base_words.specs.Tables.{zeros}
use Rattle.vol_records.specs.Streams.{shown_blocks, blocks_below}

-- the bytes of blocks, one block behind the other
abbrev pub bytes_of : List Block → List ℕ
bytes_of bs = flat_map (λ b. b) bs

-- so many blocks of zeros are so many bytes of zeros
zeros-bytes : (k : ℕ) → bytes_of (replicate k zeros) ≡ replicate (k * 512) 0
unfolding zeros
zeros-bytes zero = refl
zeros-bytes (suc k) =
    let more : 512 + k * 512 ≡ suc k * 512 = omega arith in
    flat_map-cons (λ (b : Block). b) zeros (replicate k zeros) ∙ ap (λ bytes. zeros ++ bytes) (zeros-bytes k)
    ∙ replicate-append-replicate 512 (k * 512) 0 ∙ ap (λ n. replicate n 0) more

-- the first of blocks and zeros for the others
split : (bs : List Block) (w : ℕ) (front : List ℕ) (room : ℕ) → w ≤ length bs → front ≡ bytes_of (take w bs) → length front ≡ length (take w bs) * 512
    → room ≡ length bs * 512 → bytes_of (take w bs ++ replicate (length bs - w) zeros) ≡ take room front ++ replicate (room - length front) 0
split bs w front room low is long size =
    let len : length (take w bs) ≡ w = length-take-le w bs low in
    let fits : length front ≤ room = omega arith in
    let rest : (length bs - w) * 512 ≡ room - length front = omega arith in
    flat_map-append (λ (b : Block). b) (take w bs) (replicate (length bs - w) zeros)
    ∙ ap (λ x. x ++ bytes_of (replicate (length bs - w) zeros)) (sym is)
    ∙ ap (λ x. front ++ x) (zeros-bytes (length bs - w) ∙ ap (λ n. replicate n 0) rest)
    ∙ ap (λ x. x ++ replicate (room - length front) 0) (sym (take_all room front fits))

-- no block is from the mark on
all-first : (bs : List Block) → bs ≡ take (length bs) bs ++ replicate (length bs - length bs) zeros
all-first bs =
    let none : length bs - length bs ≡ 0 = omega arith in
    rw none (sym (append-nil (take (length bs) bs) ∙ take_all (length bs) bs (omega arith)))

-- a mark beyond the blocks is as one behind them
at-most : (m : ℕ) (bs : List Block)
    → take m bs ++ replicate (length bs - m) zeros ≡ take (min m (length bs)) bs ++ replicate (length bs - min m (length bs)) zeros
at-most m bs = elim (cases_lt m (length bs)) [
  | inl less ↦ let e : min m (length bs) ≡ m = omega arith in rw e refl
  | inr more ↦
      let e : min m (length bs) ≡ length bs = omega arith in
      let rest : length bs - m ≡ length bs - length bs = omega arith in
      rw (e, rest) (ap (λ x. x ++ replicate (length bs - length bs) zeros) (take_all m bs more ∙ sym (take_all (length bs) bs (omega arith))))
]

shown-split : (mark : ℕ) (bs : List Block)
    → (shown_blocks mark bs ≡ take (blocks_below mark (length bs)) bs ++ replicate (length bs - blocks_below mark (length bs)) zeros) × (blocks_below mark (length bs) ≤ length bs)
unfolding shown_blocks blocks_below
shown-split mark bs = by_mark (mark == 0) where
  by_mark : (t : Bool)
      → ((if t then bs else take (mark - 1) bs ++ replicate (length bs - (mark - 1)) zeros)
      ≡ take (if t then length bs else min (mark - 1) (length bs)) bs ++ replicate (length bs - (if t then length bs else min (mark - 1) (length bs))) zeros)
      × ((if t then length bs else min (mark - 1) (length bs)) ≤ length bs)
  by_mark true = (all-first bs, omega arith)
  by_mark false = (at-most (mark - 1) bs, omega arith)

-- the bytes of the blocks below the mark, and zeros for the others
pub shown-bytes : (mark : ℕ) (bs : List Block) (front : List ℕ) (room : ℕ)
    → front ≡ bytes_of (take (blocks_below mark (length bs)) bs) → length front ≡ length (take (blocks_below mark (length bs)) bs) * 512 → room ≡ length bs * 512
    → bytes_of (shown_blocks mark bs) ≡ take room front ++ replicate (room - length front) 0
shown-bytes mark bs front room is long size =
    let s = shown-split mark bs in
    ap bytes_of s.0 ∙ split bs (blocks_below mark (length bs)) front room s.1 is long size
