use Rattle.std.proofs.Common.{◌∙◌, sym, refl, arith}
use Rattle.std.specs.Prelude.{◌&&◌, nat_le}
use Rattle.std.proofs.lemmas.Bool.{and_parts}
use Rattle.vol_parts.specs.declared.finding.Finding.TheVariants.{FreeCluster}
use Rattle.vol_parts.specs.Volumes.{volume, total, is_free_cluster}
use Rattle.vol_faults.specs.Counts.{times}
use Rattle.vol_faults.proofs.FirstLemmas.{none-found, least-found}
use Rattle.vol_faults.proofs.SharingLemmas.{free-found, some-times}
use Rattle.vol_faults.proofs.clusters.first_free_cluster.Goals as goal

pub returns-in_err-lowest_free_in_file : goal.returns-in_err-lowest_free_in_file
returns-in_err-lowest_free_in_file c =
    let v = volume c.args.home.now c.args.blocks.now in
    rw c.from_residual.ensures (none-found v 11 (λ q. is_free_cluster v q && nat_le 1 (times v q)) 0 (total v) (free-found v) c.in_err-lowest_free_in_file.ensures)

pub returns : goal.returns
returns c =
    let v = volume c.args.home.now c.args.blocks.now in
    let q = c.in_ok-lowest_free_in_file.field-0 in
    let low = c.in_ok-lowest_free_in_file.ensures in
    let parts = and_parts _ _ low.2 in
    least-found v 11 (λ q. is_free_cluster v q && nat_le 1 (times v q)) 0 (total v) q (FreeCluster q) (free-found v) low refl refl
    (omega (arith, low.1), parts.0, sym (some-times v q) ∙ parts.1)
