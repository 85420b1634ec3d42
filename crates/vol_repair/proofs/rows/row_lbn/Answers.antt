use Rattle.std.proofs.Common.{◌∙◌, ◌+◌, ◌/◌, ap, arith}
use Rattle.vol_parts.specs.Volumes.{volume, runs, first_lbn}
use Rattle.vol_repair.proofs.RowWrites.{row_inside}
use Rattle.vol_repair.proofs.rows.row_lbn.Goals as goal

pub overflow_add-result : goal.overflow_add-result
overflow_add-result g c =
    let at = row_inside c.args.home.now c.requires.before.0 c.requires.limits c.args.m.now.blocks c.requires.before.1 c.args.j c.first_lbn.result c.requires.row
    (c.first_lbn.ensures ∙ ap (λ bs. first_lbn (runs (volume c.args.home.now bs) 10)) c.all.ensures) in
    let to = c.requires.size.to in
    omega (arith, at, to)

pub returns-clause-inside : goal.returns-clause-inside
returns-clause-inside g c =
    row_inside c.args.home.now c.requires.before.0 c.requires.limits c.args.m.now.blocks c.requires.before.1 c.args.j c.first_lbn.result c.requires.row
    (c.first_lbn.ensures ∙ ap (λ bs. first_lbn (runs (volume c.args.home.now bs) 10)) c.all.ensures)

pub returns-clause-place : goal.returns-clause-place
returns-clause-place g c = ap (λ q. q + c.args.j / 16) (c.first_lbn.ensures ∙ ap (λ bs. first_lbn (runs (volume c.args.home.now bs) 10)) c.all.ensures)
