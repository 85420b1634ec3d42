-- Counts of the runs that a cluster is in.
use Rattle.std.proofs.Common.{◌≡◌, ◌∙◌, ◌+◌, ◌-◌, ◌*◌, ◌/◌, ◌%◌, ◌≤◌, ℕ, zero, suc, Bool, true, false, cond, List, [], ◌∷◌, ◌++◌, min, refl, ap, arith, add-zero}
use Rattle.std.specs.Prelude.{◌&&◌, nat_le, nat_lt, if◌then◌else◌}
use Rattle.std.specs.List.{count_by, sum_by, list_any, range_with_len}
use Rattle.std.proofs.lemmas.Bool.{and_parts, or_parts, not-false, leb-true, eqb-true}
use Rattle.std.proofs.lemmas.List.Sums.{sum_by-cons, sum_by_push}
use Rattle.std.proofs.Math.Nat.{mul-div_cancel_left, div-le_of_le-mul}
use Rattle.fx_header.specs.declared.run.Run.{Run}
use Rattle.vol_parts.specs.Volumes.{Volume, factor, total, is_in_run}
use Rattle.vol_parts.specs.Fatal.{is_off_bounds}
use Rattle.vol_faults.specs.Counts.{times_in}
use Rattle.base_words.proofs.Numbers.{from-first, to-last}

-- a range with one more number
pub range_more : (a k : ℕ) → range_with_len a (suc k) ≡ range_with_len a k ++ (a + k) ∷ []
range_more a zero = rw (add-zero) refl
range_more a (suc k) =
    let rest = range_more (a + 1) k in
    let same : a + 1 + k ≡ a + suc k = omega arith in
    ap (λ (xs : List ℕ). a ∷ xs) (rest ∙ rw same refl)

-- the clusters of a run that is not off, in front of runs that are not
pub record IsNext (v : Volume) (r : Run) (rs : List Run) : Type 0 where
  pub order : r.lbn / factor v ≤ (r.lbn + r.count) / factor v
  pub inside : (r.lbn + r.count) / factor v ≤ total v
  pub rest : list_any (is_off_bounds v) rs ≡ false
  pub within : (q : ℕ) → is_in_run (factor v) q r ≡ (nat_le (r.lbn / factor v) q && nat_lt q ((r.lbn + r.count) / factor v))

within-run : (f q a b : ℕ) (r : Run) → 1 ≤ f → r.lbn ≡ f * a → r.lbn + r.count ≡ f * b → is_in_run f q r ≡ (nat_le a q && nat_lt q b)
unfolding is_in_run
within-run f q a b r some first last = rw (last, first, from-first f a q some, to-last f b q some) refl

pub on-bounds : (v : Volume) (r : Run) → is_off_bounds v r ≡ false
    → (r.lbn % factor v ≡ 0) × (r.count % factor v ≡ 0) × (r.lbn + r.count ≤ factor v * total v)
unfolding is_off_bounds
on-bounds v r e =
    let parts = and_parts _ _ (not-false _ e) in
    let later = and_parts _ _ parts.1 in
    (eqb-true _ _ parts.0, eqb-true _ _ later.0, leb-true _ _ later.1)

pub is-next : (v : Volume) (r : Run) (rs : List Run) → 1 ≤ factor v → list_any (is_off_bounds v) (r ∷ rs) ≡ false → IsNext v r rs
is-next v r rs some e =
    let parts = or_parts (is_off_bounds v r) (list_any (is_off_bounds v) rs) e in
    let on = on-bounds v r parts.0 in
    let f : ℕ = factor v in
    let a : ℕ = r.lbn / f in
    let b : ℕ = a + r.count / f in
    let first : r.lbn ≡ f * a = omega (arith, on.0) in
    let last : r.lbn + r.count ≡ f * b = omega (arith, on.0, on.1) in
    let end : (r.lbn + r.count) / f ≡ b = rw last (mul-div_cancel_left b some) in
    record {
      order = rw end (omega arith);
      inside = div-le_of_le-mul f on.2;
      rest = parts.1;
      within = λ q. rw end (within-run f q a b r some first last);
    }

count-step : (t : Bool) (old c : ℕ) → min 2 ((if t then min 2 (old + 1) else old) + c) ≡ min 2 (old + (cond t 1 0 + c))
count-step true old c = omega arith
count-step false old c = omega arith

-- one more run counts for a cluster in it
pub count_by-next : (v : Volume) (q old : ℕ) (r : Run) (rs : List Run) → IsNext v r rs
    → min 2 ((if nat_le (r.lbn / factor v) q && nat_lt q ((r.lbn + r.count) / factor v) then min 2 (old + 1) else old) + count_by (is_in_run (factor v) q) rs)
    ≡ min 2 (old + count_by (is_in_run (factor v) q) (r ∷ rs))
count_by-next v q old r rs next =
    let more = sum_by-cons (λ (x : Run). cond (is_in_run (factor v) q x) 1 0) r rs in
    rw (more, next.within q) (count-step (nat_le (r.lbn / factor v) q && nat_lt q ((r.lbn + r.count) / factor v)) old (count_by (is_in_run (factor v) q) rs))

pub count-small : (t : Bool) (old : ℕ) → old ≤ 2 → (if t then min 2 (old + 1) else old) ≤ 2
count-small true old small = omega arith
count-small false old small = small

-- one more file counts
times-more : (v : Volume) (q n : ℕ) → min 2 (min 2 (sum_by (times_in v q) (range_with_len 1 n)) + times_in v q (suc n)) ≡ min 2 (sum_by (times_in v q) (range_with_len 1 (suc n)))
times-more v q n =
    let more : sum_by (times_in v q) (range_with_len 1 (suc n)) ≡ sum_by (times_in v q) (range_with_len 1 n) + times_in v q (1 + n) =
    ap (sum_by (times_in v q)) (range_more 1 n) ∙ sum_by_push (times_in v q) (range_with_len 1 n) (1 + n) in
    let same : 1 + n ≡ suc n = omega arith in
    rw (more, same) (omega arith)

pub times-next : (v : Volume) (q n : ℕ) → 1 ≤ n
    → min 2 (min 2 (sum_by (times_in v q) (range_with_len 1 (n - 1))) + times_in v q n) ≡ min 2 (sum_by (times_in v q) (range_with_len 1 (n + 1 - 1)))
times-next v q zero some = absurd (omega arith)
times-next v q (suc m) some =
    let here : suc m - 1 ≡ m = omega arith in
    let next : suc m + 1 - 1 ≡ suc m = omega arith in
    rw (here, next) (times-more v q m)
