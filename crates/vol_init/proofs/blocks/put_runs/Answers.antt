use Rattle.std.proofs.Common.{◌≡◌, ◌*◌, ◌≤◌, [], ◌∷◌, refl, subst, arith}
use Rattle.fx_header.specs.declared.run.Run.{Run}
use Rattle.fx_header.specs.Pointers.{AreRuns}
use Rattle.vol_init.specs.Layouts.{clusters_of}
use Rattle.vol_init.specs.Parts.{first_block}
use Rattle.vol_init.proofs.HeaderLemmas.{few-blocks, fit-one, run-written}
use Rattle.vol_init.proofs.blocks.put_runs.Goals as goal

pub set_runs-requires-2-clause-runs : goal.set_runs-requires-2-clause-runs
set_runs-requires-2-clause-runs c =
    let l = c.args.layout.now in
    let n = c.args.n in
    let some : 1 ≤ clusters_of l n = omega (arith, c.clusters_of-clusters.ensures.value) in
    let run : Run = record { lbn = l.cluster * c.first_cluster.result; count = l.cluster * c.clusters_of-clusters.result } in
    let same : record { lbn = first_block l n; count = l.cluster * clusters_of l n } ≡ run = rw (c.first_cluster.ensures.value, c.clusters_of-clusters.ensures.value) refl in
    let P : Run → Type 0 = λ r. AreRuns (r ∷ []) in
    subst P same ((fit-one l n c.requires.layout c.requires.room some).are)

pub set_runs-requires-2-clause-blocks : goal.set_runs-requires-2-clause-blocks
set_runs-requires-2-clause-blocks c =
    let few = few-blocks c.args.layout.now c.args.n c.requires.layout c.requires.room in
    rw c.clusters_of-clusters.ensures.value (omega (arith, few))

pub returns : goal.returns
returns c =
    let l = c.args.layout.now in
    let n = c.args.n in
    let some : 1 ≤ clusters_of l n = omega (arith, c.clusters_of-clusters.ensures.value) in
    let run : Run = record { lbn = l.cluster * c.first_cluster.result; count = l.cluster * c.clusters_of-clusters.result } in
    let same : run ≡ record { lbn = first_block l n; count = l.cluster * clusters_of l n } = rw (c.first_cluster.ensures.value, c.clusters_of-clusters.ensures.value) refl in
    run-written l n c.args.b.now c.set_runs-2.new.b c.set_runs-2.result run c.requires.layout c.requires.room some same c.requires.area c.set_runs-2.ensures.fits c.set_runs-2.ensures.written
