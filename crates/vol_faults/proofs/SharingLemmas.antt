-- A cluster is in two runs where its count is two or more, and in a file where it is one or more.
use Rattle.std.proofs.Common.{◌≡◌, ◌∙◌, ◌+◌, ◌*◌, ◌<◌, ◌≤◌, ◌≢◌, ◌⊎◌, ℕ, suc, Bool, true, false, cond, List, [], ◌∷◌, ◌++◌, min, refl, sym, ap, subst, arith, inl, inr, ⊎_elim}
use Rattle.std.specs.Prelude.{◌&&◌, not, nat_le, nat_lt, slice_index}
use Rattle.std.specs.List.{count_by, range_with_len}
use Rattle.std.proofs.lemmas.Bool.{and_parts, and_from, le-leb, lt-leb, ltb-true, cases_lt, cases_order}
use Rattle.std.proofs.lemmas.List.Sums.{sum_by_push}
use Rattle.std.proofs.Math.Nat.{mul-le-mul_left}
use Rattle.fx_header.specs.declared.run.Run.{Run}
use Rattle.vol_parts.specs.declared.finding.Finding.{Finding}
use Rattle.vol_parts.specs.declared.finding.Finding.TheVariants as finding
use Rattle.vol_parts.specs.Volumes.{Volume, IsNumber, factor, total, numbers, runs, is_in_run, is_in_file, is_in_files, is_free_cluster}
use Rattle.vol_parts.specs.Catalogues.{is_outside_cluster}
use Rattle.vol_parts.specs.Conditions.{HasAllRunsInside}
use Rattle.vol_parts.specs.Fatal.{IsFatalIn, IsInRun, IsShared, is_off_bounds}
use Rattle.vol_parts.specs.Findings.{rank, subject}
use Rattle.vol_faults.specs.Counts.{times_in, times, AreCounts}
use Rattle.vol_faults.proofs.CountLemmas.{on-bounds, range_more}
use Rattle.vol_faults.proofs.FirstLemmas.{AreFound}
use Rattle.vol_faults.proofs.PlaceLemmas.{some-sum, some-count, HasPlace, one-place, two-places, place-count, places-count, any-none, HasTerm, HasTwoTerms, two-terms, term-sum, terms-sum}

-- a cluster's count is not zero where it is in a file
pub some-times : (v : Volume) (q : ℕ) → nat_le 1 (times v q) ≡ is_in_files v q
unfolding times times_in is_in_files
some-times v q = some-sum (times_in v q) (is_in_file v q) (λ n. some-count (is_in_run (factor v) q) (runs v n)) (numbers v)

in-run-place : (v : Volume) (q n i : ℕ) → IsInRun v q n i → HasPlace (is_in_run (factor v) q) (runs v n) i
in-run-place v q n i h = record { value = h.run; there = h.there; passes = h.inside }

place-in-run : (v : Volume) (q n i : ℕ) → IsNumber v n → HasPlace (is_in_run (factor v) q) (runs v n) i → IsInRun v q n i
place-in-run v q n i number h = record { number = number; run = h.value; there = h.there; inside = h.passes }

-- a count of two is two runs
pub times-shared : (v : Volume) (q : ℕ) → 2 ≤ times v q → IsShared v q
unfolding times times_in
times-shared v q h =
    ⊎_elim (λ (w : HasTerm (times_in v q) 1 v.home.files 2).
    let number : IsNumber v w.n = record { from = w.from; to = omega (arith, w.to) } in
    let two = two-places (is_in_run (factor v) q) (runs v w.n) w.high in
    record {
      n = w.n;
      i = two.i;
      m = w.n;
      j = two.j;
      one = place-in-run v q w.n two.i number two.one;
      other = place-in-run v q w.n two.j number two.other;
      apart = inr two.apart;
    })
    (λ (w : HasTwoTerms (times_in v q) 1 v.home.files).
    let one = one-place (is_in_run (factor v) q) (runs v w.n) w.one in
    let other = one-place (is_in_run (factor v) q) (runs v w.m) w.other in
    record {
      n = w.n;
      i = one.0;
      m = w.m;
      j = other.0;
      one = place-in-run v q w.n one.0 (record { from = w.from; to = omega (arith, w.to, w.below) }) one.1;
      other = place-in-run v q w.m other.0 (record { from = omega (arith, w.from, w.below); to = omega (arith, w.to) }) other.1;
      apart = inl (λ e. omega (arith, w.below));
    })
    (two-terms (times_in v q) 1 v.home.files h)

in-run-times : (v : Volume) (q n i : ℕ) → IsInRun v q n i → 1 ≤ times_in v q n
unfolding times_in
in-run-times v q n i h = place-count (is_in_run (factor v) q) (runs v n) i (in-run-place v q n i h)

apart-times : (v : Volume) (q n m : ℕ) → IsNumber v n → IsNumber v m → 1 ≤ times_in v q n → 1 ≤ times_in v q m → n < m → 2 ≤ times v q
unfolding times
apart-times v q n m hn hm one other below =
    let sum = terms-sum (times_in v q) 1 v.home.files n m hn.from below (omega (arith, hm.to)) in
    omega (arith, sum)

same-times : (v : Volume) (q n m i j : ℕ) → n ≡ m → i ≢ j → IsInRun v q n i → IsInRun v q m j → 2 ≤ times v q
unfolding times times_in
same-times v q n m i j e apart one other =
    let P : ℕ → Type 0 = λ k. IsInRun v q k j in
    let beside : IsInRun v q n j = subst P (sym e) other in
    let two = places-count (is_in_run (factor v) q) (runs v n) i j (in-run-place v q n i one) (in-run-place v q n j beside) apart in
    let sum = term-sum (times_in v q) 1 v.home.files n one.number.from (omega (arith, one.number.to)) in
    omega (arith, sum, two)

-- two runs are a count of two
pub shared-times : (v : Volume) (q : ℕ) → IsShared v q → 2 ≤ times v q
shared-times v q s =
    let one = in-run-times v q s.n s.i s.one in
    let other = in-run-times v q s.m s.j s.other in
    ⊎_elim (λ (e : s.n ≡ s.m).
    let apart : s.i ≢ s.j = ⊎_elim (λ (ne : s.n ≢ s.m). absurd (ne e)) (λ (ne : s.i ≢ s.j). ne) s.apart in
    same-times v q s.n s.m s.i s.j e apart s.one s.other)
    (λ (ne : (s.n < s.m) ⊎ (s.m < s.n)).
    ⊎_elim (λ (h : s.n < s.m). apart-times v q s.n s.m s.one.number s.other.number one other h)
    (λ (h : s.m < s.n). apart-times v q s.m s.n s.other.number s.one.number other one h) ne)
    (cases_order s.n s.m)

-- a cluster in a run that is not off is one of the volume's
in-run-inside : (v : Volume) (q : ℕ) (r : Run) → is_off_bounds v r ≡ false → is_in_run (factor v) q r ≡ true → q < total v
unfolding is_in_run
in-run-inside v q r on inside =
    let end = (on-bounds v r on).2 in
    let before : factor v * q < r.lbn + r.count =
    ltb-true (factor v * q) (r.lbn + r.count) (and_parts (nat_lt r.lbn (factor v * (q + 1))) (nat_lt (factor v * q) (r.lbn + r.count)) inside).1 in
    ⊎_elim (λ (h : q < total v). h)
    (λ (h : total v ≤ q). let more : factor v * total v ≤ factor v * q = mul-le-mul_left (factor v) h in absurd (omega arith))
    (cases_lt q (total v))

shared-inside : (v : Volume) (q : ℕ) → HasAllRunsInside v → IsShared v q → q < total v
shared-inside v q have s =
    let h = s.one in
    in-run-inside v q h.run (any-none (is_off_bounds v) (runs v s.n) s.i h.run (have.inside s.n h.number).inside h.there) h.inside

abbrev IsBelow : (ℕ → Bool) → ℕ → Finding → Type 0
IsBelow test count g = (0 ≤ subject g) × (subject g < 0 + count) × (test (subject g) ≡ true)

shared-cluster : (v : Volume) → HasAllRunsInside v → (g : Finding) → rank g ≡ 7 → IsFatalIn v g → IsBelow (λ q. nat_le 2 (times v q)) (total v) g
shared-cluster v have (finding.SharedCluster q) e h =
    (omega arith, let inside = shared-inside v q have h in omega arith, le-leb 2 (times v q) (shared-times v q h))
shared-cluster v have g e h = absurd (omega arith)

-- the shared clusters are those whose count is two
pub shared-found : (v : Volume) → HasAllRunsInside v → AreFound v 7 (λ q. nat_le 2 (times v q)) 0 (total v)
shared-found v have = record { only = shared-cluster v have }

free-cluster : (v : Volume) (g : Finding) → rank g ≡ 11 → IsFatalIn v g → IsBelow (λ q. is_free_cluster v q && nat_le 1 (times v q)) (total v) g
free-cluster v (finding.FreeCluster q) e h = (omega arith, let inside = h.0 in omega arith, and_from _ _ h.1 (some-times v q ∙ h.2))
free-cluster v g e h = absurd (omega arith)

-- the free clusters of files are those that are free and whose count is not zero
pub free-found : (v : Volume) → AreFound v 11 (λ q. is_free_cluster v q && nat_le 1 (times v q)) 0 (total v)
free-found v = record { only = free-cluster v }

capped : (t : ℕ) → nat_le 1 (min 2 t) ≡ nat_le 1 t
capped t =
    ⊎_elim (λ (h : 0 < t). rw (le-leb 1 (min 2 t) (omega arith), le-leb 1 t (omega arith)) refl)
    (λ (h : t ≤ 0). rw (lt-leb 1 (min 2 t) (omega arith), lt-leb 1 t (omega arith)) refl)
    (cases_lt 0 t)

counted : (v : Volume) (counts : List ℕ) (q : ℕ) → AreCounts v counts → q < total v → nat_le 1 (slice_index counts q) ≡ nat_le 1 (times v q)
counted v counts q are small = rw (are.each q small) (capped (times v q))

-- the tests of a cluster by its bit and its count
pub free-test : (v : Volume) (counts : List ℕ) (q : ℕ) → AreCounts v counts → q < total v
    → (is_free_cluster v q && nat_le 1 (slice_index counts q)) ≡ (is_free_cluster v q && nat_le 1 (times v q))
free-test v counts q are small = rw (counted v counts q are small) refl

pub outside-test : (v : Volume) (counts : List ℕ) (q : ℕ) → AreCounts v counts → q < total v
    → (not (is_free_cluster v q) && not (nat_le 1 (slice_index counts q))) ≡ is_outside_cluster v q
unfolding is_outside_cluster
outside-test v counts q are small = rw (counted v counts q are small, some-times v q) refl

-- one more cluster
pub outside-more : (v : Volume) (q : ℕ) → count_by (is_outside_cluster v) (range_with_len 0 (suc q)) ≡ count_by (is_outside_cluster v) (range_with_len 0 q) + cond (is_outside_cluster v q) 1 0
outside-more v q =
    let same : 0 + q ≡ q = omega arith in
    let more : range_with_len 0 (suc q) ≡ range_with_len 0 q ++ q ∷ [] = range_more 0 q ∙ ap (λ (n : ℕ). range_with_len 0 q ++ n ∷ []) same in
    ap (count_by (is_outside_cluster v)) more ∙ sum_by_push (λ x. cond (is_outside_cluster v x) 1 0) (range_with_len 0 q) q
