-- The blocks of a file, one by one.
use Rattle.std.proofs.Common.{◌≡◌, ◌+◌, ◌<◌, ◌≤◌, ℕ, zero, suc, List, [], ◌∷◌, length, map, flat_map, slice_get, Some, refl, ap, arith, append-nil}
use Rattle.std.specs.List.{range_with_len}
use Rattle.std.proofs.lemmas.Option.{same_Some}
use Rattle.base_words.specs.Fields.{Block}
use Rattle.fx_quota.specs.declared.types.Row.{Row}
use Rattle.fx_header.specs.declared.run.Run.{Run}
use Rattle.vol_parts.specs.Volumes.{Volume, block_at, rows_in, runs, body}

-- the blocks from a first one on are these
pub picked : (f : ℕ → Block) (xs : List Block) (a : ℕ) → ((i : ℕ) → i < length xs → slice_get xs i ≡ Some (f (a + i))) → map f (range_with_len a (length xs)) ≡ xs
picked f [] a h = refl
picked f (x ∷ xs) a h =
    let zeroth : a + 0 ≡ a = omega arith in
    let first : x ≡ f a = same_Some x (f a) (rw zeroth at (h 0 (omega arith))) in
    let others = picked f xs (a + 1) (λ i inside.
    let next : a + 1 + i ≡ a + suc i = omega arith in
    rw next (h (suc i) (omega arith))) in
    rw (← first, others) refl

none-of : (f : ℕ → Block) (a n : ℕ) → ((j : ℕ) → a ≤ j → j < a + n → rows_in (f j) ≡ []) → flat_map rows_in (map f (range_with_len a n)) ≡ []
none-of f a zero h = refl
none-of f a (suc n) h =
    let first : rows_in (f a) ≡ [] = h a (omega arith) (omega arith) in
    rw first (none-of f (a + 1) n (λ j low high. h j (omega arith) (omega arith)))

-- the rows of a file whose first block has all of them
pub rows-first : (f : ℕ → Block) (rows : List Row) (a n : ℕ) → 1 ≤ n → rows_in (f a) ≡ rows → ((j : ℕ) → a < j → j < a + n → rows_in (f j) ≡ [])
    → flat_map rows_in (map f (range_with_len a n)) ≡ rows
rows-first f rows a zero some e h = absurd (omega arith)
rows-first f rows a (suc n) some e h =
    rw (e, none-of f (a + 1) n (λ j low high. h j (omega arith) (omega arith))) (append-nil rows)

-- the blocks of a file of one run
pub body-run : (v : Volume) (n : ℕ) (r : Run) → runs v n ≡ r ∷ [] → body v n ≡ map (block_at v) (range_with_len r.lbn r.count)
unfolding body
body-run v n r e = rw e (ap (map (block_at v)) (append-nil (range_with_len r.lbn r.count)))
