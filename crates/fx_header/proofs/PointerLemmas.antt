-- How the runs of a list of bytes, and what is left behind them, go on behind the first pointer.
use Rattle.std.proofs.Common.{◌≡◌, ◌∙◌, ◌+◌, ◌-◌, ◌*◌, ◌<◌, ◌≤◌, ℕ, zero, suc, List, [], length, take, drop, refl, sym, ap, inl, inr, arith, length-take, length-drop, Option, Some, None}
use Rattle.std.proofs.lemmas.Bool.{cases_lt, le-leb, lt-leb}
use Rattle.std.proofs.lemmas.List.{take_rest}
use Rattle.fx_header.specs.declared.run.Run.{Run}
use Rattle.fx_header.specs.Headers.{map_offset, map_in_use, map_bytes, runs_in}
use Rattle.fx_header.specs.Pointers.{pointer_size, pointer_run, before, spelt, unspelt, runs_of, rest_of}

spelt-cut : (n : ℕ) (p : List ℕ) → length p < pointer_size p → spelt n p ≡ []
unfolding spelt
spelt-cut zero p h = refl
spelt-cut (suc n) p h = rw (lt-leb (pointer_size p) (length p) h) refl

spelt-whole : (n : ℕ) (p : List ℕ) → pointer_size p ≤ length p → spelt (suc n) p ≡ before (pointer_run p) (spelt n (drop (pointer_size p) p))
unfolding spelt
spelt-whole n p h = rw (le-leb (pointer_size p) (length p) h) refl

-- any number of pointers from the bytes' length on tells the same
spelt-enough : (m n : ℕ) (p : List ℕ) → length p ≤ m → length p ≤ n → spelt m p ≡ spelt n p
unfolding spelt
spelt-enough zero zero p h k = refl
spelt-enough zero (suc n) p h k = sym (spelt-cut (suc n) p (omega arith))
spelt-enough (suc m) zero p h k = spelt-cut (suc m) p (omega arith)
spelt-enough (suc m) (suc n) p h k =
    elim (cases_lt (length p) (pointer_size p)) [
      | inl l ↦ spelt-cut (suc m) p l ∙ sym (spelt-cut (suc n) p l)
      | inr g ↦ spelt-whole m p g
          ∙ ap (before (pointer_run p)) (spelt-enough m n (drop (pointer_size p) p) (omega (arith, length-drop (pointer_size p) p)) (omega (arith, length-drop (pointer_size p) p)))
          ∙ sym (spelt-whole n p g)
    ]

pub runs_of-whole : (p : List ℕ) → pointer_size p ≤ length p → runs_of p ≡ before (pointer_run p) (runs_of (drop (pointer_size p) p))
unfolding runs_of
runs_of-whole p h =
    spelt-enough (length p) (suc (length p)) p (omega arith) (omega arith) ∙ spelt-whole (length p) p h
    ∙ ap (before (pointer_run p)) (spelt-enough (length p) (length (drop (pointer_size p) p)) (drop (pointer_size p) p) (omega (arith, length-drop (pointer_size p) p)) (omega arith))

runs_of-cut : (p : List ℕ) → length p < pointer_size p → runs_of p ≡ []
unfolding runs_of
runs_of-cut p h = spelt-cut (length p) p h

unspelt-cut : (n : ℕ) (p : List ℕ) → length p < pointer_size p → unspelt n p ≡ p
unfolding unspelt
unspelt-cut zero p h = refl
unspelt-cut (suc n) p h = rw (lt-leb (pointer_size p) (length p) h) refl

unspelt-whole : (n : ℕ) (p : List ℕ) → pointer_size p ≤ length p → unspelt (suc n) p ≡ unspelt n (drop (pointer_size p) p)
unfolding unspelt
unspelt-whole n p h = rw (le-leb (pointer_size p) (length p) h) refl

unspelt-enough : (m n : ℕ) (p : List ℕ) → length p ≤ m → length p ≤ n → unspelt m p ≡ unspelt n p
unfolding unspelt
unspelt-enough zero zero p h k = refl
unspelt-enough zero (suc n) p h k = sym (unspelt-cut (suc n) p (omega arith))
unspelt-enough (suc m) zero p h k = unspelt-cut (suc m) p (omega arith)
unspelt-enough (suc m) (suc n) p h k =
    elim (cases_lt (length p) (pointer_size p)) [
      | inl l ↦ unspelt-cut (suc m) p l ∙ sym (unspelt-cut (suc n) p l)
      | inr g ↦ unspelt-whole m p g
          ∙ unspelt-enough m n (drop (pointer_size p) p) (omega (arith, length-drop (pointer_size p) p)) (omega (arith, length-drop (pointer_size p) p))
          ∙ sym (unspelt-whole n p g)
    ]

pub rest_of-whole : (p : List ℕ) → pointer_size p ≤ length p → rest_of p ≡ rest_of (drop (pointer_size p) p)
unfolding rest_of
rest_of-whole p h =
    unspelt-enough (length p) (suc (length p)) p (omega arith) (omega arith) ∙ unspelt-whole (length p) p h
    ∙ unspelt-enough (length p) (length (drop (pointer_size p) p)) (drop (pointer_size p) p) (omega (arith, length-drop (pointer_size p) p)) (omega arith)

rest_of-cut : (p : List ℕ) → length p < pointer_size p → rest_of p ≡ p
unfolding rest_of
rest_of-cut p h = unspelt-cut (length p) p h

-- there are at most as many runs as pointers
length-before : (r : Option Run) (runs : List Run) → length (before r runs) ≤ length runs + 1
length-before None runs = omega arith
length-before (Some r) runs = omega arith

length-spelt : (n : ℕ) (p : List ℕ) → length (spelt n p) ≤ n
unfolding spelt
length-spelt zero p = omega arith
length-spelt (suc n) p =
    elim (cases_lt (length p) (pointer_size p)) [
      | inl l ↦ let e : spelt (suc n) p ≡ [] = spelt-cut (suc n) p l in rw e (omega arith)
      | inr g ↦ let e = spelt-whole n p g in
          rw e (omega (arith, length-before (pointer_run p) (spelt n (drop (pointer_size p) p)), length-spelt n (drop (pointer_size p) p)))
    ]

pub length-runs_in : (b : List ℕ) → length b ≡ 512 → length (runs_in b) ≤ 512
unfolding runs_of
length-runs_in b l =
    let front = length-take (2 * (map_offset b + map_in_use b) - 2 * map_offset b) (drop (2 * map_offset b) b) in
    omega (arith, length-spelt (length (map_bytes b)) (map_bytes b), front, length-drop (2 * map_offset b) b)

-- a whole pointer at the front splits off
pub splits-whole : (p : List ℕ) (n : ℕ) (run : Option Run) → n ≡ pointer_size p → run ≡ pointer_run p → n ≤ length p
    → (runs_of p ≡ before run (runs_of (take (length p - n) (drop n p)))) × (rest_of p ≡ rest_of (take (length p - n) (drop n p)))
    × (length (take (length p - n) (drop n p)) < length p)
splits-whole p n run e r h =
    let whole : pointer_size p ≤ length p = omega arith in
    let shorter : length (drop n p) < length p = omega (arith, length-drop n p) in
    rw (take_rest p n) (rw (r, e) (runs_of-whole p whole), rw e (rest_of-whole p whole), shorter)

-- and a cut one does not
pub splits-cut : (p : List ℕ) → length p < pointer_size p → (runs_of p ≡ []) × (rest_of p ≡ p)
splits-cut p h = (runs_of-cut p h, rest_of-cut p h)

-- no bytes have no runs
pub runs_of-nil : runs_of [] ≡ []
unfolding runs_of
runs_of-nil = spelt-cut 0 [] (omega arith)

pub rest_of-nil : rest_of [] ≡ []
unfolding rest_of
rest_of-nil = unspelt-cut 0 [] (omega arith)
