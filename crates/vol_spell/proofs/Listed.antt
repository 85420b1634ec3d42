-- The runs of the files of a volume that can be read lie on it.
use Rattle.std.proofs.Common.{ℕ, arith}
use Rattle.std.specs.List.{list_any}
use Rattle.std.proofs.lemmas.Bool.{false_from_ne_true}
use Rattle.vol_parts.specs.declared.finding.Finding.TheVariants as finding
use Rattle.vol_parts.specs.Conditions.{HasRunsInside}
use Rattle.vol_parts.specs.Fatal.{is_off_bounds}
use Rattle.vol_parts.specs.Volumes.{Volume, IsNumber, runs}
use Rattle.vol_faults.specs.Whole.{NoneBelow}

pub runs_inside : (v : Volume) (n : ℕ) → NoneBelow v 16 → IsNumber v n → HasRunsInside v n
runs_inside v n none number = record {
  inside = false_from_ne_true (list_any (is_off_bounds v) (runs v n)) (λ e. none (finding.Runs n) (omega arith) (number, e));
}
