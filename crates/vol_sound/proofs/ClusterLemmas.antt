-- The clusters of a run, as far as the volume goes, and counts of them.
use Rattle.std.proofs.Common.{◌≡◌, ◌∙◌, ◌+◌, ◌-◌, ◌*◌, ◌/◌, ◌<◌, ◌≤◌, ℕ, zero, suc, Bool, true, false, cond, List, ◌∷◌, min, refl, ap, arith, ⊎_elim}
use Rattle.std.specs.Prelude.{◌&&◌, nat_le, nat_lt, if◌then◌else◌}
use Rattle.std.specs.List.{count_by, sum_by, range_with_len}
use Rattle.std.proofs.lemmas.Bool.{cases_lt, le-leb, lt-leb, le-ltb, lt-ltb}
use Rattle.std.proofs.lemmas.List.Sums.{sum_by-cons, sum_by_push}
use Rattle.std.proofs.Math.Nat.{mul-le-mul_left}
use Rattle.fx_header.specs.declared.run.Run.{Run}
use Rattle.vol_parts.specs.Volumes.{Volume, factor, total, is_in_run}
use Rattle.vol_faults.proofs.CountLemmas.{range_more}
use Rattle.vol_sound.specs.Clusters.{AreOfRun}

-- ---- where the clusters of a run lie

-- a cluster of the volume is at or behind the one in which a run begins
from-first : (f lbn all q : ℕ) → 1 ≤ f → q < all → nat_lt lbn (f * (q + 1)) ≡ nat_le (min (lbn / f) all) q
from-first f lbn all q some inside =
    ⊎_elim (λ (h : q < lbn / f).
    let m : f * (q + 1) ≤ f * (lbn / f) = mul-le-mul_left f (omega arith) in
    rw (le-ltb lbn (f * (q + 1)) (omega arith), lt-leb (min (lbn / f) all) q (omega arith)) refl)
    (λ (h : lbn / f ≤ q).
    let m : f * (lbn / f) ≤ f * q = mul-le-mul_left f h in
    rw (lt-ltb lbn (f * (q + 1)) (omega arith), le-leb (min (lbn / f) all) q (omega arith)) refl)
    (cases_lt q (lbn / f))

-- and it is before the end of a run
to-last : (f end all q : ℕ) → 1 ≤ f → q < all → nat_lt (f * q) end ≡ nat_lt q (min ((end + f - 1) / f) all)
to-last f end all q some inside =
    ⊎_elim (λ (h : q < (end + f - 1) / f).
    let m : f * (q + 1) ≤ f * ((end + f - 1) / f) = mul-le-mul_left f (omega arith) in
    rw (lt-ltb (f * q) end (omega arith), lt-ltb q (min ((end + f - 1) / f) all) (omega arith)) refl)
    (λ (h : (end + f - 1) / f ≤ q).
    let m : f * ((end + f - 1) / f) ≤ f * q = mul-le-mul_left f h in
    rw (le-ltb (f * q) end (omega arith), le-ltb q (min ((end + f - 1) / f) all) (omega arith)) refl)
    (cases_lt q ((end + f - 1) / f))

in-order : (f lbn count all : ℕ) → 1 ≤ f → min (lbn / f) all ≤ min ((lbn + count + f - 1) / f) all
in-order f lbn count all some =
    ⊎_elim (λ (h : (lbn + count + f - 1) / f < lbn / f).
    let m : f * ((lbn + count + f - 1) / f + 1) ≤ f * (lbn / f) = mul-le-mul_left f (omega arith) in
    absurd (omega arith))
    (λ (h : lbn / f ≤ (lbn + count + f - 1) / f). omega arith)
    (cases_lt ((lbn + count + f - 1) / f) (lbn / f))

pub are-of-run : (v : Volume) (r : Run) → 1 ≤ factor v
    → AreOfRun v r (min (r.lbn / factor v) (total v)) (min ((r.lbn + r.count + factor v - 1) / factor v) (total v))
unfolding is_in_run
are-of-run v r some = record {
  order = in-order (factor v) r.lbn r.count (total v) some;
  inside = omega arith;
  within = λ q inside. rw (from-first (factor v) r.lbn (total v) q some inside, to-last (factor v) (r.lbn + r.count) (total v) q some inside) refl;
}

-- and so of a span that is these
pub span-of-run : (v : Volume) (r : Run) (from to : ℕ) → 1 ≤ factor v → from ≡ min (r.lbn / factor v) (total v)
    → to ≡ min ((r.lbn + r.count + factor v - 1) / factor v) (total v) → AreOfRun v r from to
span-of-run v r from to some first last = rw (first, last) (are-of-run v r some)

-- ---- counts

count-step : (t : Bool) (old c : ℕ) → min 2 ((if t then min 2 (old + 1) else old) + c) ≡ min 2 (old + (cond t 1 0 + c))
count-step true old c = omega arith
count-step false old c = omega arith

-- one more run counts for a cluster in it
pub one-more-run : (v : Volume) (q old from to : ℕ) (r : Run) (rs : List Run) → AreOfRun v r from to → q < total v
    → min 2 ((if nat_le from q && nat_lt q to then min 2 (old + 1) else old) + count_by (is_in_run (factor v) q) rs)
    ≡ min 2 (old + count_by (is_in_run (factor v) q) (r ∷ rs))
one-more-run v q old from to r rs are inside =
    let more = sum_by-cons (λ (x : Run). cond (is_in_run (factor v) q x) 1 0) r rs in
    rw (more, are.within q inside) (count-step (nat_le from q && nat_lt q to) old (count_by (is_in_run (factor v) q) rs))

pub stays-small : (t : Bool) (old : ℕ) → old ≤ 2 → (if t then min 2 (old + 1) else old) ≤ 2
stays-small true old small = omega arith
stays-small false old small = small

-- one more file counts
times-more : (f : ℕ → ℕ) (n : ℕ) → min 2 (min 2 (sum_by f (range_with_len 1 n)) + f (suc n)) ≡ min 2 (sum_by f (range_with_len 1 (suc n)))
times-more f n =
    let more : sum_by f (range_with_len 1 (suc n)) ≡ sum_by f (range_with_len 1 n) + f (1 + n) =
    ap (sum_by f) (range_more 1 n) ∙ sum_by_push f (range_with_len 1 n) (1 + n) in
    let same : 1 + n ≡ suc n = omega arith in
    rw (more, same) (omega arith)

pub times-next : (f : ℕ → ℕ) (n : ℕ) → 1 ≤ n
    → min 2 (min 2 (sum_by f (range_with_len 1 (n - 1))) + f n) ≡ min 2 (sum_by f (range_with_len 1 (n + 1 - 1)))
times-next f zero some = absurd (omega arith)
times-next f (suc m) some =
    let here : suc m - 1 ≡ m = omega arith in
    let next : suc m + 1 - 1 ≡ suc m = omega arith in
    rw (here, next) (times-more f m)
