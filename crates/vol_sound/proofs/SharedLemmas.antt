-- A cluster is in two runs of system files where its count is two.
use Rattle.std.proofs.Common.{◌≡◌, ◌+◌, ◌*◌, ◌<◌, ◌≤◌, ◌≢◌, ◌⊎◌, ℕ, true, false, None, Some, refl, sym, subst, arith, inl, inr, ⊎_elim}
use Rattle.std.specs.Prelude.{nat_le, nat_lt}
use Rattle.std.specs.List.{list_any}
use Rattle.std.proofs.lemmas.Bool.{both_ways, and_parts, le-leb, leb-true, ltb-true, cases_lt, cases_order, cases_Bool}
use Rattle.std.proofs.Math.Nat.{mul-le-mul_left}
use Rattle.fx_header.specs.declared.run.Run.{Run}
use Rattle.vol_parts.specs.declared.finding.Finding.{Finding}
use Rattle.vol_parts.specs.declared.finding.Finding.TheVariants as finding
use Rattle.vol_parts.specs.Volumes.{Volume, IsNumber, factor, total, runs, is_in_run}
use Rattle.vol_parts.specs.Fatal.{IsInRun, is_off_bounds}
use Rattle.vol_parts.specs.Findings.{rank, subject}
use Rattle.vol_parts.specs.Lowest.{IsLowest}
use Rattle.vol_faults.specs.Counts.{times_in}
use Rattle.vol_faults.proofs.CountLemmas.{on-bounds}
use Rattle.vol_faults.proofs.PlaceLemmas.{HasPlace, one-place, two-places, place-count, places-count, any-none, HasTerm, HasTwoTerms, two-terms, term-sum, terms-sum}
use Rattle.vol_sound.specs.Beyond.{IsSharedBySystem, IsBeyondIn}
use Rattle.vol_sound.specs.Clusters.{system_times}
use Rattle.vol_sound.specs.Ranks.{IsBeyondOf, IsLeastBeyond, NoneBeyond}

in-run-place : (v : Volume) (q n i : ℕ) → IsInRun v q n i → HasPlace (is_in_run (factor v) q) (runs v n) i
in-run-place v q n i h = record { value = h.run; there = h.there; passes = h.inside }

place-in-run : (v : Volume) (q n i : ℕ) → IsNumber v n → HasPlace (is_in_run (factor v) q) (runs v n) i → IsInRun v q n i
place-in-run v q n i number h = record { number = number; run = h.value; there = h.there; inside = h.passes }

-- a system file's number is one of the volume's
number : (v : Volume) (n : ℕ) → 11 ≤ v.home.files → 1 ≤ n → n < 1 + 11 → IsNumber v n
number v n most from to = record { from = from; to = omega arith }

-- a count of two is two runs
pub times-shared : (v : Volume) (q : ℕ) → 11 ≤ v.home.files → 2 ≤ system_times v q → IsSharedBySystem v q
unfolding system_times times_in
times-shared v q most h =
    ⊎_elim (λ (w : HasTerm (times_in v q) 1 11 2).
    let is = number v w.n most w.from w.to in
    let two = two-places (is_in_run (factor v) q) (runs v w.n) w.high in
    record {
      shared = record {
        n = w.n;
        i = two.i;
        m = w.n;
        j = two.j;
        one = place-in-run v q w.n two.i is two.one;
        other = place-in-run v q w.n two.j is two.other;
        apart = inr two.apart;
      };
      one = omega (arith, w.to);
      other = omega (arith, w.to);
    })
    (λ (w : HasTwoTerms (times_in v q) 1 11).
    let one = one-place (is_in_run (factor v) q) (runs v w.n) w.one in
    let other = one-place (is_in_run (factor v) q) (runs v w.m) w.other in
    record {
      shared = record {
        n = w.n;
        i = one.0;
        m = w.m;
        j = other.0;
        one = place-in-run v q w.n one.0 (number v w.n most w.from (omega (arith, w.to, w.below))) one.1;
        other = place-in-run v q w.m other.0 (number v w.m most (omega (arith, w.from, w.below)) w.to) other.1;
        apart = inl (λ e. omega (arith, w.below));
      };
      one = omega (arith, w.to, w.below);
      other = omega (arith, w.to);
    })
    (two-terms (times_in v q) 1 11 h)

in-run-times : (v : Volume) (q n i : ℕ) → IsInRun v q n i → 1 ≤ times_in v q n
unfolding times_in
in-run-times v q n i h = place-count (is_in_run (factor v) q) (runs v n) i (in-run-place v q n i h)

apart-times : (v : Volume) (q n m : ℕ) → 1 ≤ n → m ≤ 11 → 1 ≤ times_in v q n → 1 ≤ times_in v q m → n < m → 2 ≤ system_times v q
unfolding system_times
apart-times v q n m from to one other below =
    let sum = terms-sum (times_in v q) 1 11 n m from below (omega arith) in
    omega (arith, sum)

same-times : (v : Volume) (q n m i j : ℕ) → n ≡ m → n ≤ 11 → i ≢ j → IsInRun v q n i → IsInRun v q m j → 2 ≤ system_times v q
unfolding system_times times_in
same-times v q n m i j e to apart one other =
    let P : ℕ → Type 0 = λ k. IsInRun v q k j in
    let beside : IsInRun v q n j = subst P (sym e) other in
    let two = places-count (is_in_run (factor v) q) (runs v n) i j (in-run-place v q n i one) (in-run-place v q n j beside) apart in
    let sum = term-sum (times_in v q) 1 11 n one.number.from (omega arith) in
    omega (arith, sum, two)

-- two runs are a count of two
shared-times : (v : Volume) (q : ℕ) → IsSharedBySystem v q → 2 ≤ system_times v q
shared-times v q h =
    let s = h.shared in
    let one = in-run-times v q s.n s.i s.one in
    let other = in-run-times v q s.m s.j s.other in
    ⊎_elim (λ (e : s.n ≡ s.m).
    let apart : s.i ≢ s.j = ⊎_elim (λ (ne : s.n ≢ s.m). absurd (ne e)) (λ (ne : s.i ≢ s.j). ne) s.apart in
    same-times v q s.n s.m s.i s.j e h.one apart s.one s.other)
    (λ (ne : (s.n < s.m) ⊎ (s.m < s.n)).
    ⊎_elim (λ (x : s.n < s.m). apart-times v q s.n s.m s.one.number.from h.other one other x)
    (λ (x : s.m < s.n). apart-times v q s.m s.n s.other.number.from h.one other one x) ne)
    (cases_order s.n s.m)

-- ---- clusters of runs inside the volume

-- a cluster in a run that is not off is one of the volume's
in-run-inside : (v : Volume) (q : ℕ) (r : Run) → is_off_bounds v r ≡ false → is_in_run (factor v) q r ≡ true → q < total v
unfolding is_in_run
in-run-inside v q r on inside =
    let end = (on-bounds v r on).2 in
    let before : factor v * q < r.lbn + r.count =
    ltb-true (factor v * q) (r.lbn + r.count) (and_parts (nat_lt r.lbn (factor v * (q + 1))) (nat_lt (factor v * q) (r.lbn + r.count)) inside).1 in
    ⊎_elim (λ (h : q < total v). h)
    (λ (h : total v ≤ q). let more : factor v * total v ≤ factor v * q = mul-le-mul_left (factor v) h in absurd (omega arith))
    (cases_lt q (total v))

-- the runs of a system file are inside where nothing beyond repair was found of them
runs-inside : (v : Volume) (n : ℕ) → NoneBeyond v 7 → IsNumber v n → n ≤ 11 → list_any (is_off_bounds v) (runs v n) ≡ false
runs-inside v n none is low =
    ⊎_elim (λ (e : list_any (is_off_bounds v) (runs v n) ≡ true).
    absurd (none (finding.Runs n) (omega arith) (record { fatal = (is, e); fixed = low })))
    (λ (e : list_any (is_off_bounds v) (runs v n) ≡ false). e)
    (cases_Bool (list_any (is_off_bounds v) (runs v n)))

shared-inside : (v : Volume) (q : ℕ) → NoneBeyond v 7 → IsSharedBySystem v q → q < total v
shared-inside v q none h =
    let s = h.shared in
    let r = s.one in
    in-run-inside v q r.run (any-none (is_off_bounds v) (runs v s.n) s.i r.run (runs-inside v s.n none r.number h.one) r.there) r.inside

-- ---- the first

shared-high : (v : Volume) (g : Finding) → rank g ≡ 7 → NoneBeyond v 7 → IsBeyondIn v g → (subject g < total v) × (nat_le 2 (system_times v (subject g)) ≡ true)
shared-high v (finding.SharedCluster q) r none b = (shared-inside v q none b.fixed, le-leb 2 (system_times v q) (shared-times v q b.fixed))
shared-high v g r none b = absurd (omega arith)

pub none-shared : (v : Volume) → NoneBeyond v 7 → IsLowest (λ q. nat_le 2 (system_times v q)) 0 (total v) None → IsBeyondOf v 7 None
none-shared v none low = λ g r b.
    let h = shared-high v g r none b in
    both_ways (nat_le 2 (system_times v (subject g))) (low (subject g) (omega arith) (omega (arith, h.0))) h.1

pub first-shared : (v : Volume) (q : ℕ) → 11 ≤ v.home.files → NoneBeyond v 7 → IsLowest (λ k. nat_le 2 (system_times v k)) 0 (total v) (Some q)
    → IsLeastBeyond v 7 (finding.SharedCluster q)
first-shared v q most none low =
    let by = times-shared v q most (leb-true 2 (system_times v q) low.2) in
    record {
      rank_is = refl;
      beyond = record { fatal = by.shared; fixed = by };
      least = λ g r b.
          let h = shared-high v g r none b in
          ⊎_elim (λ (below : subject g < q). absurd (both_ways (nat_le 2 (system_times v (subject g))) (low.3 (subject g) (omega arith) below) h.1))
          (λ (x : q ≤ subject g). x)
          (cases_lt (subject g) q);
    }
