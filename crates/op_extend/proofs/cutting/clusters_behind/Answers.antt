use Rattle.std.proofs.Common.{◌∙◌, ◌/◌, drop, map, ap}
use Rattle.fx_header.specs.declared.run.Run.{Run}
use Rattle.op_law.specs.Freeing.{rising}
use Rattle.op_law.specs.SeenFiles.{file_clusters}
use Rattle.op_steps.specs.Seeing.{file_seen}
use Rattle.op_extend.proofs.FileClusters.{first_ones, dropped}
use Rattle.op_extend.proofs.cutting.clusters_behind.Goals as goal

pub returns : goal.returns
returns c =
    let g = c.args.g.now in
    let f = c.args.f.now in
    let k = c.args.k in
    let cs = file_clusters g (file_seen g f) in
    let runs = c.runs_behind.ensures ∙ ap (drop k) (c.as_slice.ensures.value ∙ c.in_ok-all.ensures) ∙ dropped g k cs in
    let first = ap (map (λ (r : Run). r.lbn / g.cluster)) runs ∙ first_ones g (drop k cs) c.requires.geometry.cluster_from in
    c.in_ok-gone.ensures
    ∙ ap (rising g) (c.as_slice-2.ensures.value ∙ c.in_ok-first.ensures ∙ first)
