use Rattle.std.proofs.Common.{List, sym, subst}
use Rattle.std.proofs.lemmas.Result.{on_ok_weaker}
use Rattle.base_words.specs.Fields.{Block}
use Rattle.vol_mends.proofs.Summing.{rows_are_summed}
use Rattle.vol_rebuild.specs.Sums.{IsQuotaSet}
use Rattle.vol_rebuild.proofs.Usages.{few_of, sizes_of, quota_leads, quota_set, rows_seen}
use Rattle.vol_rebuild.proofs.rows.set_quota.Goals as goal

pub read-requires : goal.read-requires
read-requires g c = rows_are_summed.within c.args.g.now c.args.m.now.blocks c.requires.told.0 c.args.k c.requires.told.2 c.requires.block

pub summed_block-b-requires-clause-numbers : goal.summed_block-b-requires-clause-numbers
summed_block-b-requires-clause-numbers g c = few_of c.args.g.now c.args.m.now.blocks c.args.cat.now c.requires.told.0 c.requires.told.1 c.requires.told.2

pub summed_block-b-requires-clause-sizes : goal.summed_block-b-requires-clause-sizes
summed_block-b-requires-clause-sizes g c = sizes_of c.args.g.now c.args.m.now.blocks c.args.cat.now c.requires.told.0 c.requires.told.1 c.requires.told.2

pub make_other-requires-clause-inside : goal.make_other-requires-clause-inside
make_other-requires-clause-inside g c = rows_are_summed.within c.args.g.now c.args.m.now.blocks c.requires.told.0 c.args.k c.requires.told.2 c.requires.block

pub make_other-requires-clause-mends : goal.make_other-requires-clause-mends
make_other-requires-clause-mends g c =
    (quota_leads c.args.g.now c.args.m.now.blocks c.args.cat.now c.requires.told.0 c.args.k c.summed_block-b.result c.requires.told.1 c.requires.told.2 c.requires.block c.block_is_whole.ensures
    (rows_seen c.args.g.now c.args.m.now.blocks c.args.cat.now c.args.k c.summed_block-b.result c.read.result.now c.read.ensures c.summed_block-b.ensures)).mends

pub returns-clause-ok : goal.returns-clause-ok
returns-clause-ok g c x files told =
    let set = quota_set c.args.g.now c.args.m.now.blocks c.args.cat.now x c.args.k c.summed_block-b.result files told c.requires.block c.block_is_whole.ensures
    (rows_seen c.args.g.now c.args.m.now.blocks c.args.cat.now c.args.k c.summed_block-b.result c.read.result.now c.read.ensures c.summed_block-b.ensures) in
    on_ok_weaker c.make_other.result (λ e. subst (λ (bs : List Block). IsQuotaSet c.args.g.now c.args.m.now.blocks bs x c.args.k) (sym e) set) c.make_other.ensures.ok
