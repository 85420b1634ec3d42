use Rattle.std.proofs.Common.{◌≡◌, ◌∙◌, List, drop, take, ap, subst}
use Rattle.std.specs.Prelude.{◌*◌, IfOk}
use Rattle.fx_header.specs.declared.run.Run.{Run}
use Rattle.plain_rules.specs.Lookups.{header_most, extra}
use Rattle.op_law.specs.SeenFiles.{file_clusters}
use Rattle.op_steps.specs.Seeing.{file_seen}
use Rattle.op_extend.proofs.FileClusters.{taken, dropped}
use Rattle.op_extend.proofs.runs.tail_runs.Goals as goal

pub returns : goal.returns
returns c =
    let g = c.args.g.now in
    let k = c.args.k in
    let cs = file_clusters g (file_seen g c.args.f.now) in
    let first = c.first_runs-kept.ensures ∙ ap (take k) (c.as_slice.ensures.value ∙ c.in_ok-all.ensures) ∙ taken g k cs in
    let last = c.runs_behind.ensures ∙ ap (λ e. drop (header_most * e) c.first_runs-kept.result.now) c.extra.ensures
    ∙ ap (drop (header_most * extra k)) first ∙ dropped g (header_most * extra k) (take k cs) in
    subst (λ (rs : List Run). IfOk c.from_slice.result (λ v. v.items ≡ rs)) last c.from_slice.ensures.items
