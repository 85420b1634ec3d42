use Rattle.std.proofs.Common.{List, sym, subst}
use Rattle.std.proofs.lemmas.Result.{on_ok_weaker}
use Rattle.base_words.specs.Fields.{Block}
use Rattle.vol_repair.specs.Aims.{Touching}
use Rattle.vol_repair.specs.Rows.{IsRowSet}
use Rattle.vol_repair.proofs.RowWrites.{row_touched, row_set}
use Rattle.vol_repair.proofs.rows.write_row.Goals as goal

pub returns-clause-step : goal.returns-clause-step
returns-clause-step g c first ground =
    c.make_other.ensures.step (Touching c.args.home.now first) ground.touched
    (row_touched c.args.home.now first c.requires.limits c.args.m.now.blocks ground c.args.j c.row_lbn-lbn.result c.read.result.now c.requires.row c.row_lbn-lbn.ensures.place c.read.ensures
    c.touching_is_easy.ensures c.with_row-b.result c.args.new c.block_is_whole.ensures c.with_row-b.ensures)

pub returns-clause-ok : goal.returns-clause-ok
returns-clause-ok g c first ground =
    let set = row_set c.args.home.now first c.requires.limits c.args.m.now.blocks ground c.args.j c.row_lbn-lbn.result c.read.result.now c.requires.row c.row_lbn-lbn.ensures.place c.read.ensures
    c.touching_is_easy.ensures c.with_row-b.result c.args.new c.block_is_whole.ensures c.with_row-b.ensures in
    on_ok_weaker c.make_other.result (λ e. subst (λ (bs : List Block). IsRowSet c.args.home.now first c.args.m.now.blocks bs c.args.j c.args.new) (sym e) set) c.make_other.ensures.ok
