use Rattle.std.proofs.Common.{List, sym, subst, arith}
use Rattle.std.proofs.lemmas.Result.{on_ok_weaker}
use Rattle.base_words.specs.Fields.{Block}
use Rattle.vol_rebuild.specs.Tails.{IsFileCut}
use Rattle.vol_rebuild.proofs.Reading.{header_on}
use Rattle.vol_rebuild.proofs.Surpluses.{cut_slot, cut_at, file_cut}
use Rattle.vol_rebuild.proofs.surplus.cut_file.Goals as goal

pub overflow_add-g : goal.overflow_add-g
overflow_add-g g c =
    let is = cut_slot c.args.g.now c.args.m.now.blocks c.all.result.now c.requires.told.0 c.args.n _ c.in-Some.cut c.all.ensures c.in-Some.is c.in_ok-cut.ensures c.requires.told.1 in
    let to = is.to in
    let files = c.requires.geometry.files_to in
    let cluster = c.requires.geometry.cluster_to in
    omega (arith, to, files, cluster)

pub make-requires-clause-inside : goal.make-requires-clause-inside
make-requires-clause-inside g c =
    header_on c.args.g.now c.args.m.now.blocks c.requires.told.0 c.requires.told.1 c.in-Some.cut.slot
    (cut_slot c.args.g.now c.args.m.now.blocks c.all.result.now c.requires.told.0 c.args.n _ c.in-Some.cut c.all.ensures c.in-Some.is c.in_ok-cut.ensures c.requires.told.1)

pub make-requires-clause-mends : goal.make-requires-clause-mends
make-requires-clause-mends g c =
    (cut_at c.args.g.now c.args.m.now.blocks c.all.result.now c.requires.told.0 c.args.n _ c.in-Some.cut c.all.ensures c.in-Some.is c.in_ok-cut.ensures c.requires.told.1).leads.mends

pub returns-in-Some-clause-ok : goal.returns-in-Some-clause-ok
returns-in-Some-clause-ok g c x t =
    let cut = file_cut c.args.g.now c.args.m.now.blocks _ x c.args.n (cut_at c.args.g.now c.args.m.now.blocks c.all.result.now x c.args.n _ c.in-Some.cut c.all.ensures c.in-Some.is c.in_ok-cut.ensures t) in
    on_ok_weaker c.make.result (λ e. subst (λ (bs : List Block). IsFileCut c.args.g.now x c.args.m.now.blocks bs c.args.n) (sym e) cut) c.make.ensures.ok
