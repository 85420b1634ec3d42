-- The first finding of a kind, by the lowest number that passes a test.
use Rattle.std.proofs.Common.{◌≡◌, ◌+◌, ◌<◌, ◌≤◌, ◌≢◌, ℕ, Bool, true, Some, None, Result, Ok, Err, refl, sym, subst, arith, ⊎_elim}
use Rattle.std.proofs.lemmas.Bool.{both_ways, cases_lt, eq-eqb, ne_eqb, not-true, not_from_false, and_from}
use Rattle.std.specs.Prelude.{◌==◌}
use Rattle.fx_header.specs.declared.slot.Slot.{Slot}
use Rattle.fx_header.specs.declared.slot.Slot.TheVariants.{Free, Used}
use Rattle.fx_header.specs.declared.slot.Hdr.{Hdr}
use Rattle.fx_header.specs.declared.slot.HeaderFault.{HeaderFault}
use Rattle.vol_parts.specs.declared.finding.Finding.{Finding}
use Rattle.vol_parts.specs.declared.finding.Finding.TheVariants as finding
use Rattle.vol_parts.specs.Volumes.{Volume, IsNumber, head, fields_in, is_used_number}
use Rattle.vol_parts.specs.Fatal.{IsFatalIn}
use Rattle.vol_parts.specs.Findings.{rank, subject}
use Rattle.vol_parts.specs.Firsts.{IsFirstOf, IsLeastOf}
use Rattle.vol_parts.specs.Lowest.{IsLowest}
use Rattle.vol_faults.specs.Conditions.{is_bad_slot, is_bad_header, is_free_in_use}

-- the findings of a kind are those of the numbers that pass a test
pub record AreFound (v : Volume) (k : ℕ) (test : ℕ → Bool) (from count : ℕ) : Type 0 where
  pub only : (g : Finding) → rank g ≡ k → IsFatalIn v g → (from ≤ subject g) × (subject g < from + count) × (test (subject g) ≡ true)

-- none of a kind is found
pub none-found : (v : Volume) (k : ℕ) (test : ℕ → Bool) (from count : ℕ) → AreFound v k test from count → IsLowest test from count None → IsFirstOf v k None
none-found v k test from count a none g is fatal =
    let h = a.only g is fatal in
    both_ways (test (subject g)) (none (subject g) h.0 h.1) h.2

-- the finding of the lowest number is the first
pub least-found : (v : Volume) (k : ℕ) (test : ℕ → Bool) (from count n : ℕ) (f : Finding) → AreFound v k test from count → IsLowest test from count (Some n)
    → rank f ≡ k → subject f ≡ n → IsFatalIn v f → IsFirstOf v k (Some f)
least-found v k test from count n f a low is at fatal = record {
  rank_is = is;
  fatal = fatal;
  least = λ g e h.
      let w = a.only g e h in
      let no_less : n ≤ subject g = ⊎_elim (λ (below : subject g < n). absurd (both_ways (test (subject g)) (low.3 (subject g) w.0 below) w.2)) (λ (x : n ≤ subject g). x) (cases_lt (subject g) n) in
      omega arith;
}

-- ---- headers

wrong-slot : (n : ℕ) (r : Result Slot HeaderFault) (f : Hdr) → fields_in r ≡ Some f → f.num ≢ n → is_bad_slot n r ≡ true
wrong-slot n (Ok (Used g)) f e ne =
    let same : g ≡ f = cc in
    let other : g.num ≢ n = subst (λ (h : Hdr). h.num ≢ n) (sym same) ne in
    not_from_false (g.num == n) (ne_eqb g.num n other)
wrong-slot n (Ok (Free seq)) f e ne = absurd (cc)
wrong-slot n (Err fault) f e ne = absurd (cc)

faulty-slot : (n : ℕ) (r : Result Slot HeaderFault) (fault : HeaderFault) → r ≡ Err fault → is_bad_slot n r ≡ true
faulty-slot n r fault e = rw e refl

abbrev IsAmong : Volume → (ℕ → Bool) → ℕ → ℕ → Finding → Type 0
IsAmong v test from count g = (from ≤ subject g) × (subject g < from + count) × (test (subject g) ≡ true)

among : (v : Volume) (test : ℕ → Bool) (g : Finding) → IsNumber v (subject g) → test (subject g) ≡ true → IsAmong v test 1 v.home.files g
among v test g number passes = (number.from, omega arith, passes)

bad-header : (v : Volume) (g : Finding) → rank g ≡ 1 → IsFatalIn v g → IsAmong v (is_bad_header v) 1 v.home.files g
unfolding is_bad_header
bad-header v (finding.Header n fault) e h = among v (is_bad_header v) (finding.Header n fault) h.0 (faulty-slot n (head v n) fault h.1)
bad-header v (finding.WrongNumber n) e h = among v (is_bad_header v) (finding.WrongNumber n) h.0 (wrong-slot n (head v n) h.1.0 h.1.1 h.1.2)
bad-header v g e h = absurd (omega arith)

pub headers-found : (v : Volume) → AreFound v 1 (is_bad_header v) 1 v.home.files
headers-found v = record { only = bad-header v }

pub header-faulty : (v : Volume) (n : ℕ) (fault : HeaderFault) → IsLowest (is_bad_header v) 1 v.home.files (Some n) → head v n ≡ Err fault
    → IsLeastOf v 1 (finding.Header n fault)
header-faulty v n fault low e =
    least-found v 1 (is_bad_header v) 1 v.home.files n (finding.Header n fault) (headers-found v) low refl refl (record { from = low.0; to = omega arith }, e)

pub wrong-number : (n : ℕ) (r : Result Slot HeaderFault) (s : Slot) → r ≡ Ok s → is_bad_slot n r ≡ true → (f : Hdr) × (fields_in r ≡ Some f) × (f.num ≢ n)
wrong-number n (Ok (Used f)) s e bad = (f, refl, λ same. both_ways (f.num == n) (not-true (f.num == n) bad) (eq-eqb f.num n same))
wrong-number n (Ok (Free seq)) s e bad = absurd (cc)
wrong-number n (Err fault) s e bad = absurd (cc)

pub header-wrong : (v : Volume) (n : ℕ) (s : Slot) → IsLowest (is_bad_header v) 1 v.home.files (Some n) → head v n ≡ Ok s
    → IsLeastOf v 1 (finding.WrongNumber n)
unfolding is_bad_header
header-wrong v n s low e =
    least-found v 1 (is_bad_header v) 1 v.home.files n (finding.WrongNumber n) (headers-found v) low refl refl
    (record { from = low.0; to = omega arith }, wrong-number n (head v n) s e low.2)

-- ---- file numbers

free-number : (v : Volume) (g : Finding) → rank g ≡ 12 → IsFatalIn v g → IsAmong v (is_free_in_use v) 1 v.home.files g
unfolding is_free_in_use
free-number v (finding.FreeNumber n) e h = among v (is_free_in_use v) (finding.FreeNumber n) h.0 (and_from _ _ (not_from_false (is_used_number v n) h.1) h.2)
free-number v g e h = absurd (omega arith)

pub free-number-found : (v : Volume) → AreFound v 12 (is_free_in_use v) 1 v.home.files
free-number-found v = record { only = free-number v }
