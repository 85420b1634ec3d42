use Rattle.std.proofs.Common.{◌≡◌, ◌+◌, ◌%◌, ◌∙◌, ◌++◌, [], ◌∷◌, ap, sym, subst}
use Rattle.std.specs.Prelude.{OnOk}
use Rattle.fx_quota.specs.declared.types.Row.{Row}
use Rattle.fx_quota.specs.Rows.{row_in, row_put}
use Rattle.plain_cat.specs.declared.history.Stage.TheVariants as stage
use Rattle.op_law.specs.Writing.{holding}
use Rattle.op_law.specs.Quotas.{row_write, row_charged}
use Rattle.vol_spell.specs.Rows.{block_with}
use Rattle.op_law.specs.Behind.{blocks_alone}
use Rattle.op_steps.proofs.Charges.{charged_so, owner_has}
use Rattle.op_steps.proofs.quotas.push_charge.Goals as goal

pub returns-clause-ok : goal.returns-clause-ok
returns-clause-ok c =
    let g = c.args.g.now in
    let qs = blocks_alone c.args.quota.now in
    let j = c.in-Some.j in
    let k = c.args.k in
    let b = block_with qs j in
    let r : Row = c.row_there-r.result in
    let charged : Row = record r { usage = (r.usage + k) % 4294967296 } in
    let same : row_put b (j % 16) charged ≡ row_put b (j % 16) (row_charged k (row_in b (j % 16))) =
    charged_so b (j % 16) k r ∙ ap (λ (x : Row). row_put b (j % 16) (row_charged k x)) c.row_there-r.ensures in
    let held = holding c.args.clusters.now c.args.number in
    let outside : row_write g qs j charged stage.Charged (holding c.in_ok-outside.outside c.args.number) ≡ row_write g qs j charged stage.Charged held =
    ap (λ cs. row_write g qs j charged stage.Charged (holding cs c.args.number)) c.in_ok-outside.ensures in
    let is = ap (λ w. w ∷ []) outside ∙ owner_has g qs c.args.owner (row_charged k) stage.Charged held j charged (sym c.in-Some.ensures.place) same in
    subst (λ ws. OnOk c.push_row.result (c.push_row.new.writes ≡ c.args.writes.now ++ ws)) is c.push_row.ensures.ok
