use Rattle.std.proofs.Common.{List, sym, subst}
use Rattle.std.proofs.lemmas.Result.{on_ok_weaker}
use Rattle.base_words.specs.Fields.{Block}
use Rattle.vol_rebuild.specs.Space.{IsSpaceSet}
use Rattle.vol_rebuild.proofs.Spacing.{space_leads, space_set, storage_on}
use Rattle.vol_rebuild.proofs.bits.set_storage.Goals as goal

pub read-requires : goal.read-requires
read-requires g c = storage_on c.args.g.now c.args.home.now c.args.counts.now c.args.m.now.blocks c.requires.counted.0 c.args.k c.requires.counted.1 c.requires.block

pub make_other-requires-clause-inside : goal.make_other-requires-clause-inside
make_other-requires-clause-inside g c = storage_on c.args.g.now c.args.home.now c.args.counts.now c.args.m.now.blocks c.requires.counted.0 c.args.k c.requires.counted.1 c.requires.block

pub make_other-requires-clause-mends : goal.make_other-requires-clause-mends
make_other-requires-clause-mends g c =
    (space_leads c.args.g.now c.args.home.now c.args.counts.now c.args.m.now.blocks c.requires.counted.0 c.args.k c.storage_block-b.result c.requires.counted.1 c.requires.block c.block_is_whole.ensures c.storage_block-b.ensures).mends

pub returns-clause-ok : goal.returns-clause-ok
returns-clause-ok g c x counted =
    let set = space_set c.args.g.now c.args.home.now c.args.counts.now c.args.m.now.blocks x c.args.k c.storage_block-b.result counted c.requires.block c.block_is_whole.ensures c.storage_block-b.ensures in
    on_ok_weaker c.make_other.result (λ e. subst (λ (bs : List Block). IsSpaceSet c.args.g.now c.args.home.now c.args.counts.now c.args.m.now.blocks bs x c.args.k) (sym e) set) c.make_other.ensures.ok
