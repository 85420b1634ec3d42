use Rattle.std.proofs.Common.{refl}
use Rattle.std.specs.Prelude.{nat_le}
use Rattle.std.proofs.lemmas.Bool.{leb-true}
use Rattle.vol_parts.specs.declared.finding.Finding.TheVariants.{SharedCluster}
use Rattle.vol_parts.specs.Volumes.{volume, total}
use Rattle.vol_faults.specs.Counts.{times}
use Rattle.vol_faults.proofs.FirstLemmas.{none-found, least-found}
use Rattle.vol_faults.proofs.SharingLemmas.{shared-found, times-shared}
use Rattle.vol_faults.proofs.clusters.first_shared_cluster.Goals as goal

pub returns-in_err-lowest_shared : goal.returns-in_err-lowest_shared
returns-in_err-lowest_shared c =
    let v = volume c.args.home.now c.args.blocks.now in
    rw c.from_residual.ensures (none-found v 7 (λ q. nat_le 2 (times v q)) 0 (total v) (shared-found v c.requires.runs) c.in_err-lowest_shared.ensures)

pub returns : goal.returns
returns c =
    let v = volume c.args.home.now c.args.blocks.now in
    let q = c.in_ok-lowest_shared.field-0 in
    let low = c.in_ok-lowest_shared.ensures in
    least-found v 7 (λ q. nat_le 2 (times v q)) 0 (total v) q (SharedCluster q) (shared-found v c.requires.runs) low refl refl (times-shared v q (leb-true _ _ low.2))
