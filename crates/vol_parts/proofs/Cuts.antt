-- The first blocks of runs.
use Rattle.std.proofs.Common.{◌≡◌, ◌∙◌, ◌+◌, ◌-◌, ◌*◌, ◌/◌, ◌%◌, ◌<◌, ◌≤◌, ◌==◌, ◌&&◌, nat_le, ℕ, zero, suc, min, false, List, [], ◌∷◌, ◌++◌, All, length, take, refl, sym, ap, inl, inr, arith, length-take, append-nil}
use Rattle.std.specs.List.{range_with_len, list_any}
use Rattle.std.proofs.lemmas.Bool.{cases_lt, le-leb, lt-leb, leb-true, and_parts, and_from, or_parts, or_from, not-false, eqb-true, eq-eqb, not_from_true}
use Rattle.std.proofs.lemmas.List.{take-append-le}
use Rattle.std.proofs.lemmas.List.FromFn.{length-range_with_len}
use Rattle.std.proofs.lemmas.List.Sums.{sum_by-cons}
use Rattle.std.proofs.lemmas.List.Elements.{All-nil, All-cons, All-head, All-tail}
use Rattle.std.proofs.Math.Nat.{mul-mod_right, mul-sub, div-add-mod}
use Rattle.fx_header.specs.declared.run.Run.{Run}
use Rattle.fx_header.specs.Pointers.{blocks_in, lbns_in}
use Rattle.vol_parts.specs.Volumes.{Volume, factor, total}
use Rattle.vol_parts.specs.Fatal.{is_off_bounds}
use Rattle.vol_parts.specs.Chains.{cut, front_of}
use Rattle.vol_parts.specs.ChainLaws.{HasBlocks}
use Rattle.vol_parts.proofs.Runs.{length-lbns_in}

-- ---- how a cut goes on

pub cut-none : (rs : List Run) → cut 0 rs ≡ []
unfolding cut
cut-none rs = refl

pub cut-nil : (k : ℕ) → cut k [] ≡ []
unfolding cut
cut-nil zero = refl
cut-nil (suc k) = refl

pub cut-within : (k : ℕ) (r : Run) (rs : List Run) → 1 ≤ k → k ≤ r.count → cut k (r ∷ rs) ≡ front_of r k ∷ []
unfolding cut
cut-within zero r rs some h = absurd (omega arith)
cut-within (suc k) r rs some h = rw (le-leb (suc k) r.count h) refl

pub cut-past : (k : ℕ) (r : Run) (rs : List Run) → r.count < k → cut k (r ∷ rs) ≡ r ∷ cut (k - r.count) rs
unfolding cut
cut-past zero r rs h = absurd (omega arith)
cut-past (suc k) r rs h = rw (lt-leb (suc k) r.count h) refl

-- ---- its blocks

range-take : (a n k : ℕ) → k ≤ n → take k (range_with_len a n) ≡ range_with_len a k
range-take a n zero h = refl
range-take a zero (suc k) h = absurd (omega arith)
range-take a (suc n) (suc k) h = ap (λ ns. a ∷ ns) (range-take (a + 1) n k (omega arith))

take-past : (xs ys : List ℕ) (k : ℕ) → length xs ≤ k → take k (xs ++ ys) ≡ xs ++ take (k - length xs) ys
take-past [] ys k h = let e : k - 0 ≡ k = omega arith in rw e refl
take-past (x ∷ xs) ys zero h = absurd (omega arith)
take-past (x ∷ xs) ys (suc k) h =
    let e : suc k - suc (length xs) ≡ k - length xs = omega arith in
    rw e (ap (λ ns. x ∷ ns) (take-past xs ys k (omega arith)))

pub cut-takes : (k : ℕ) (rs : List Run) → lbns_in (cut k rs) ≡ take k (lbns_in rs)
cut-takes zero rs = ap lbns_in (cut-none rs)
cut-takes (suc k) [] = ap lbns_in (cut-nil (suc k))
cut-takes (suc k) (r ∷ rs) =
    let range = range_with_len r.lbn r.count in
    let long : length range ≡ r.count = length-range_with_len r.lbn r.count in
    elim (cases_lt r.count (suc k)) [
      | inl l ↦
          let behind : take (suc k) (range ++ lbns_in rs) ≡ range ++ take (suc k - length range) (lbns_in rs) = take-past range (lbns_in rs) (suc k) (omega (arith, long)) in
          let rest : take (suc k - length range) (lbns_in rs) ≡ lbns_in (cut (suc k - r.count) rs) = ap (λ n. take (suc k - n) (lbns_in rs)) long ∙ sym (cut-takes (suc k - r.count) rs) in
          ap lbns_in (cut-past (suc k) r rs l) ∙ ap (λ ns. range ++ ns) (sym rest) ∙ sym behind
      | inr g ↦
          let front : take (suc k) (range ++ lbns_in rs) ≡ take (suc k) range = take-append-le (suc k) range (lbns_in rs) (omega (arith, long)) in
          ap lbns_in (cut-within (suc k) r rs (omega arith) g) ∙ one (front_of r (suc k)) ∙ sym (range-take r.lbn r.count (suc k) g) ∙ sym front
    ]
  where
    one : (s : Run) → lbns_in (s ∷ []) ≡ range_with_len s.lbn s.count
    one s = append-nil _

pub cut-counts : (k : ℕ) (rs : List Run) → blocks_in (cut k rs) ≡ min k (blocks_in rs)
cut-counts k rs = sym (length-lbns_in (cut k rs)) ∙ ap length (cut-takes k rs) ∙ length-take k (lbns_in rs) ∙ ap (min k) (length-lbns_in rs)

-- ---- where it leaves the runs

pub blocks-cons : (r : Run) (rs : List Run) → blocks_in (r ∷ rs) ≡ r.count + blocks_in rs
blocks-cons r rs = sum_by-cons (λ (s : Run). s.count) r rs

-- runs that end before the cut stay
pub cut_behind : (k : ℕ) (rs ss : List Run) → blocks_in rs < k → cut k (rs ++ ss) ≡ rs ++ cut (k - blocks_in rs) ss
cut_behind k [] ss lt = let e : k ≡ k - 0 = omega arith in ap (λ n. cut n ss) e
cut_behind k (r ∷ rs) ss lt =
    let sum = blocks-cons r rs in
    let rest = cut_behind (k - r.count) rs ss (omega (arith, lt, sum)) in
    let same : k - r.count - blocks_in rs ≡ k - blocks_in (r ∷ rs) = omega (arith, lt, sum) in
    cut-past k r (rs ++ ss) (omega (arith, lt, sum)) ∙ (ap (λ xs. r ∷ xs) rest ∙ ap (λ n. r ∷ (rs ++ cut n ss)) same)

no-runs : (rs : List Run) → All HasBlocks rs → blocks_in rs ≤ 0 → rs ≡ []
no-runs [] all h = refl
no-runs (r ∷ rs) all h =
    let some : 1 ≤ r.count = All-head HasBlocks r rs all in
    absurd (omega (arith, blocks-cons r rs))

pub cut-leaves : (k : ℕ) (rs : List Run) → All HasBlocks rs → blocks_in rs ≤ k → cut k rs ≡ rs
cut-leaves k [] all h = cut-nil k
cut-leaves k (r ∷ rs) all h =
    let some : 1 ≤ r.count = All-head HasBlocks r rs all in
    let others = All-tail HasBlocks r rs all in
    let sum = blocks-cons r rs in
    elim (cases_lt r.count k) [
      | inl l ↦ cut-past k r rs l ∙ ap (λ xs. r ∷ xs) (cut-leaves (k - r.count) rs others (omega arith))
      | inr g ↦
          let same : k ≡ r.count = omega arith in
          let none : rs ≡ [] = no-runs rs others (omega arith) in
          cut-within k r rs (omega arith) g ∙ ap (λ n. front_of r n ∷ []) same ∙ ap (λ xs. r ∷ xs) (sym none)
    ]

pub cut-some : (k : ℕ) (rs : List Run) → All HasBlocks rs → All HasBlocks (cut k rs)
cut-some zero rs all = rw (cut-none rs) (All-nil HasBlocks)
cut-some (suc k) [] all = rw (cut-nil (suc k)) (All-nil HasBlocks)
cut-some (suc k) (r ∷ rs) all =
    elim (cases_lt r.count (suc k)) [
      | inl l ↦ rw (cut-past (suc k) r rs l) (All-cons HasBlocks r _ (All-head HasBlocks r rs all) (cut-some (suc k - r.count) rs (All-tail HasBlocks r rs all)))
      | inr g ↦ rw (cut-within (suc k) r rs (omega arith) g) (All-cons HasBlocks (front_of r (suc k)) [] (omega arith) (All-nil HasBlocks))
    ]

-- ---- bounds of clusters

pub difference : (a b m : ℕ) → a % m ≡ 0 → b % m ≡ 0 → (a - b) % m ≡ 0
difference a b m ha hb =
    let wa : m * (a / m) ≡ a = omega (arith, div-add-mod a m) in
    let wb : m * (b / m) ≡ b = omega (arith, div-add-mod b m) in
    let both : m * (a / m - b / m) ≡ a - b = mul-sub m (a / m) (b / m) ∙ ap (λ x. x - m * (b / m)) wa ∙ ap (λ y. a - y) wb in
    ap (λ x. x % m) (sym both) ∙ mul-mod_right m (a / m - b / m)

-- a run that is not off bounds, by its parts
record OnBounds (v : Volume) (r : Run) : Type 0 where
  begins : r.lbn % factor v ≡ 0
  whole : r.count % factor v ≡ 0
  ends : r.lbn + r.count ≤ factor v * total v

on-bounds : (v : Volume) (r : Run) → is_off_bounds v r ≡ false → OnBounds v r
unfolding is_off_bounds
on-bounds v r e =
    let ends = nat_le (r.lbn + r.count) (factor v * total v) in
    let all = and_parts (r.lbn % factor v == 0) ((r.count % factor v == 0) && ends) (not-false _ e) in
    let last = and_parts (r.count % factor v == 0) ends all.1 in
    record { begins = eqb-true _ _ all.0; whole = eqb-true _ _ last.0; ends = leb-true _ _ last.1 }

from-bounds : (v : Volume) (r : Run) → OnBounds v r → is_off_bounds v r ≡ false
unfolding is_off_bounds
from-bounds v r on =
    not_from_true _ (and_from _ _ (eq-eqb _ _ on.begins) (and_from _ _ (eq-eqb _ _ on.whole) (le-leb _ _ on.ends)))

pub cut-inside : (v : Volume) (k : ℕ) (rs : List Run) → k % factor v ≡ 0 → list_any (is_off_bounds v) rs ≡ false
    → list_any (is_off_bounds v) (cut k rs) ≡ false
cut-inside v zero rs m on = ap (list_any (is_off_bounds v)) (cut-none rs)
cut-inside v (suc k) [] m on = ap (list_any (is_off_bounds v)) (cut-nil (suc k))
cut-inside v (suc k) (r ∷ rs) m on =
    let parts = or_parts (is_off_bounds v r) (list_any (is_off_bounds v) rs) on in
    let first = on-bounds v r parts.0 in
    elim (cases_lt r.count (suc k)) [
      | inl l ↦ rw (cut-past (suc k) r rs l) (or_from _ _ parts.0 (cut-inside v (suc k - r.count) rs (difference (suc k) r.count (factor v) m first.whole) parts.1))
      | inr g ↦
          let ends = first.ends in
          rw (cut-within (suc k) r rs (omega arith) g) (or_from _ _ (from-bounds v (front_of r (suc k)) (record { begins = first.begins; whole = m; ends = omega arith })) refl)
    ]
