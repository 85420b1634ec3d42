-- What a catalogue tells of a volume: the findings of four kinds are the same.
use Rattle.std.proofs.Common.{◌≡◌, ◌≤◌, ℕ, Option, Some, None, length, arith}
use Rattle.std.proofs.lemmas.List.FromFn.{length-map-range_with_len}
use Rattle.vol_parts.specs.declared.finding.Finding.{Finding}
use Rattle.vol_parts.specs.declared.finding.Finding.TheVariants as finding
use Rattle.vol_parts.specs.Catalogues.{catalogue, files_of, slot_of}
use Rattle.vol_parts.specs.Fatal.{IsFatalIn}
use Rattle.vol_parts.specs.Findings.{rank}
use Rattle.vol_parts.specs.Firsts.{IsFirstOf}
use Rattle.vol_parts.specs.Volumes.{Volume}
use Rattle.vol_faults.specs.CatFindings.{IsFatalOf, IsFirstIn}
use Rattle.vol_faults.proofs.CatLemmas.{marked-number}

pub catalogue-numbers : (v : Volume) → length (catalogue v).files ≡ v.home.files
unfolding catalogue files_of
catalogue-numbers v = length-map-range_with_len (slot_of v) 1 v.home.files

of-volume : (v : Volume) (g : Finding) → 13 ≤ rank g → rank g ≤ 16 → IsFatalIn v g → IsFatalOf (catalogue v) g
of-volume v (finding.SystemEntry n) low high h = h
of-volume v (finding.MarkedDir n) low high h = h.1
of-volume v (finding.DirLoop n) low high h = h
of-volume v (finding.NoRoom n) low high h = h
of-volume v g low high h = absurd (omega arith)

of-catalogue : (v : Volume) (g : Finding) → 13 ≤ rank g → rank g ≤ 16 → IsFatalOf (catalogue v) g → IsFatalIn v g
of-catalogue v (finding.SystemEntry n) low high h = h
of-catalogue v (finding.MarkedDir n) low high h =
    let w = marked-number (catalogue v) n h in
    let all = catalogue-numbers v in
    (record { from = w.0; to = omega (arith, w.1, all) }, h)
of-catalogue v (finding.DirLoop n) low high h = h
of-catalogue v (finding.NoRoom n) low high h = h
of-catalogue v g low high h = absurd (omega arith)

pub first-of-volume : (v : Volume) (k : ℕ) (r : Option Finding) → 13 ≤ k → k ≤ 16 → IsFirstIn (catalogue v) k r → IsFirstOf v k r
first-of-volume v k None low high none = λ g is h. none g is (of-volume v g (omega arith) (omega arith) h)
first-of-volume v k (Some f) low high first = record {
  rank_is = first.rank_is;
  fatal = of-catalogue v f (omega (arith, first.rank_is)) (omega (arith, first.rank_is)) first.fatal;
  least = λ g is h. first.least g is (of-volume v g (omega arith) (omega arith) h);
}
