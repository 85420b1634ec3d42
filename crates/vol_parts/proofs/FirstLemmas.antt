-- The first findings of directories and of quota rows.
use Rattle.std.proofs.Common.{◌≡◌, ◌∙◌, ◌⊎◌, ℕ, Bool, true, false, not, Option, Some, None, Result, Ok, Err, List, refl, ap, inl, inr, arith}
use Rattle.std.specs.Prelude.{if◌then◌else◌, ◌&&◌, option_map}
use Rattle.std.proofs.lemmas.Bool.{both_ways, cases_lt}
use Rattle.fx_header.specs.declared.slot.Hdr.{Hdr}
use Rattle.fx_dir.specs.declared.RawEnt.{RawEnt}
use Rattle.fx_dir.specs.declared.DirFault.{DirFault}
use Rattle.fx_dir.specs.declared.DirFault.TheVariants as dir
use Rattle.fx_dir.specs.Directory.{directory}
use Rattle.plain_cat.specs.declared.ids.Uic.{Uic}
use Rattle.vol_parts.specs.declared.finding.Finding.{Finding}
use Rattle.vol_parts.specs.declared.finding.Finding.TheVariants as finding
use Rattle.vol_parts.specs.Volumes.{Volume, IsNumber, factor, fields, told, runs, body, active_rows}
use Rattle.vol_parts.specs.Fatal.{IsFatalIn, is_one_header, has_dir_size, found_in, dir_test, dir_fault, has_two_rows, is_rowless}
use Rattle.vol_parts.specs.Findings.{rank, subject}
use Rattle.vol_parts.specs.Firsts.{IsFirstOf}
use Rattle.vol_parts.specs.Lowest.{IsLowest}
use Rattle.vol_parts.specs.Conditions.{IsFirstDirFault, IsLowestTwice}

-- ---- directories

-- a finding of the directory of this number
abbrev IsOfDir : ℕ → Finding → Type 0
IsOfDir n f = (f ≡ finding.DirSize n) ⊎ ((f ≡ finding.DirRecord n) ⊎ ((f ≡ finding.DirOrder n) ⊎ (f ≡ finding.DirClash n)))

found-of : (n : ℕ) (r : Result (List RawEnt) DirFault) (f : Finding) → found_in n r ≡ Some f → IsOfDir n f
found-of n (Ok es) f e = absurd (cc)
found-of n (Err (dir.BadRecord vbn)) f e = inr (inl cc)
found-of n (Err dir.BadOrder) f e = inr (inr (inl cc))
found-of n (Err dir.Clash) f e = inr (inr (inr cc))
found-of n (Err dir.NoMemory) f e = absurd (cc)

sized-of : (n : ℕ) (is_dir sized : Bool) (r : Result (List RawEnt) DirFault) (f : Finding)
    → (if not is_dir then None else if sized then found_in n r else Some (finding.DirSize n)) ≡ Some f → IsOfDir n f
sized-of n true true r f e = found-of n r f e
sized-of n true false r f e = inl cc
sized-of n false sized r f e = absurd (cc)

test-of : (v : Volume) (n : ℕ) (o : Option Hdr) (f : Finding) → dir_test v n o ≡ Some f → IsOfDir n f
test-of v n None f e = absurd (cc)
test-of v n (Some h) f e = sized-of n h.dir (is_one_header h (told v n) && has_dir_size (factor v) h (runs v n)) (directory (body v n)) f e

fault-of : (v : Volume) (n : ℕ) (f : Finding) → dir_fault v n ≡ Some f → IsOfDir n f
unfolding dir_fault
fault-of v n f e = test-of v n (fields v n) f e

record IsDirFinding (v : Volume) (n : ℕ) (f : Finding) : Type 0 where
  ranked : rank f ≡ 8
  about : subject f ≡ n
  fatal : IsFatalIn v f

dir-finding : (v : Volume) (n : ℕ) (f : Finding) → IsNumber v n → dir_fault v n ≡ Some f → IsOfDir n f → IsDirFinding v n f
dir-finding v n f number e (inl s) = rw s (record { ranked = refl; about = refl; fatal = (number, e ∙ ap Some s) })
dir-finding v n f number e (inr (inl s)) = rw s (record { ranked = refl; about = refl; fatal = (number, e ∙ ap Some s) })
dir-finding v n f number e (inr (inr (inl s))) = rw s (record { ranked = refl; about = refl; fatal = (number, e ∙ ap Some s) })
dir-finding v n f number e (inr (inr (inr s))) = rw s (record { ranked = refl; about = refl; fatal = (number, e ∙ ap Some s) })

-- each finding of this rank is the fault of a directory
record HasFault (v : Volume) (g : Finding) : Type 0 where
  number : IsNumber v (subject g)
  fault : dir_fault v (subject g) ≡ Some g

of-rank : (v : Volume) (g : Finding) → rank g ≡ 8 → IsFatalIn v g → HasFault v g
of-rank v (finding.DirSize n) e h = record { number = h.0; fault = h.1 }
of-rank v (finding.DirRecord n) e h = record { number = h.0; fault = h.1 }
of-rank v (finding.DirOrder n) e h = record { number = h.0; fault = h.1 }
of-rank v (finding.DirClash n) e h = record { number = h.0; fault = h.1 }
of-rank v g e h = absurd (omega arith)

pub first-directory : (v : Volume) (o : Option Finding) → IsFirstDirFault v o → IsFirstOf v 8 o
first-directory v None none = λ g e h.
    let w = of-rank v g e h in
    let no_fault = none (subject g) w.number in
    absurd (cc (no_fault, w.fault))
first-directory v (Some f) (n, number, fault, lower) =
    let d = dir-finding v n f number fault (fault-of v n f fault) in
    record {
      rank_is = d.ranked;
      fatal = d.fatal;
      least = λ g e h.
          let w = of-rank v g e h in
          elim (cases_lt (subject g) n) [
            | inl less ↦ let no_fault = lower (subject g) w.number.from less in absurd (cc (no_fault, w.fault))
            | inr more ↦ let about = d.about in omega arith
          ];
    }

-- ---- quota rows

of-owners : (v : Volume) (g : Finding) → rank g ≡ 9 → IsFatalIn v g → has_two_rows (active_rows v) (subject g) ≡ true
of-owners v (finding.QuotaRow owner) e h = h
of-owners v g e h = absurd (omega arith)

pub first-double : (v : Volume) (o : Option Uic) → IsLowestTwice (active_rows v) o → IsFirstOf v 9 (option_map finding.QuotaRow o)
first-double v None none = λ g e h. both_ways _ (none (subject g)) (of-owners v g e h)
first-double v (Some owner) low = record {
  rank_is = refl;
  fatal = low.0;
  least = λ g e h. low.1 (subject g) (of-owners v g e h);
}

record IsRowless (v : Volume) (g : Finding) : Type 0 where
  number : IsNumber v (subject g)
  rowless : is_rowless (active_rows v) (fields v (subject g)) ≡ true

of-files : (v : Volume) (g : Finding) → rank g ≡ 10 → IsFatalIn v g → IsRowless v g
of-files v (finding.NoQuotaRow n) e h = record { number = h.0; rowless = h.1 }
of-files v g e h = absurd (omega arith)

pub first-rowless : (v : Volume) (o : Option ℕ) → IsLowest (λ n. is_rowless (active_rows v) (fields v n)) 1 v.home.files o
    → IsFirstOf v 10 (option_map finding.NoQuotaRow o)
first-rowless v None none = λ g e h.
    let w = of-files v g e h in
    let last = w.number.to in
    both_ways _ (none (subject g) w.number.from (omega arith)) w.rowless
first-rowless v (Some n) low = record {
  rank_is = refl;
  fatal = (record { from = low.0; to = omega arith }, low.2);
  least = λ g e h.
      let w = of-files v g e h in
      elim (cases_lt (subject g) n) [
        | inl less ↦ absurd (both_ways _ (low.3 (subject g) w.number.from less) w.rowless)
        | inr more ↦ more
      ];
}
