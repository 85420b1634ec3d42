use Rattle.std.proofs.Common.{◌≤◌, List, Bool, length, sym, subst, arith}
use Rattle.std.proofs.lemmas.Result.{on_ok_weaker}
use Rattle.base_words.specs.Fields.{Block}
use Rattle.vol_mends.specs.Told.{IsTold}
use Rattle.vol_mends.proofs.Bitmaps.{numbers_are_set}
use Rattle.vol_rebuild.specs.Space.{AreFlagged}
use Rattle.vol_rebuild.specs.Steps.{AreNumbersSet}
use Rattle.vol_rebuild.proofs.Flagging.{index_leads, index_set}
use Rattle.vol_rebuild.proofs.bits.set_index.Goals as goal

pub flagged-requires : goal.flagged-requires
flagged-requires g c = (c.args.g.now, c.requires.told.0, subst (λ (bs : List Block). IsTold c.args.g.now bs c.requires.told.0) (sym c.all.ensures) c.requires.told.1)

pub read-requires : goal.read-requires
read-requires g c = numbers_are_set.within c.args.g.now c.args.m.now.blocks c.requires.told.0 c.requires.told.1

pub index_block-b-requires : goal.index_block-b-requires
index_block-b-requires g c =
    let x = c.requires.told.0 in
    let are = c.in_ok-flags.ensures c.args.g.now x (subst (λ (bs : List Block). IsTold c.args.g.now bs x) (sym c.all.ensures) c.requires.told.1) in
    subst (λ (fs : List Bool). length fs ≤ 4096) (sym c.items.ensures) (let all = are.all in let to = c.requires.geometry.files_to in omega (arith, all, to))

pub make_other-requires-clause-inside : goal.make_other-requires-clause-inside
make_other-requires-clause-inside g c = numbers_are_set.within c.args.g.now c.args.m.now.blocks c.requires.told.0 c.requires.told.1

pub make_other-requires-clause-mends : goal.make_other-requires-clause-mends
make_other-requires-clause-mends g c =
    let x = c.requires.told.0 in
    let seen = c.in_ok-flags.ensures c.args.g.now x (subst (λ (bs : List Block). IsTold c.args.g.now bs x) (sym c.all.ensures) c.requires.told.1) in
    let are = subst (λ (bs : List Block). AreFlagged c.args.g.now bs c.items.result.now) c.all.ensures (subst (λ (fs : List Bool). AreFlagged c.args.g.now c.all.result.now fs) (sym c.items.ensures) seen) in
    (index_leads c.args.g.now c.args.m.now.blocks x c.items.result.now c.index_block-b.result c.requires.told.1 c.requires.clean c.block_is_whole.ensures are c.index_block-b.ensures).mends

pub returns-clause-ok : goal.returns-clause-ok
returns-clause-ok g c x t =
    let seen = c.in_ok-flags.ensures c.args.g.now x (subst (λ (bs : List Block). IsTold c.args.g.now bs x) (sym c.all.ensures) t) in
    let are = subst (λ (bs : List Block). AreFlagged c.args.g.now bs c.items.result.now) c.all.ensures (subst (λ (fs : List Bool). AreFlagged c.args.g.now c.all.result.now fs) (sym c.items.ensures) seen) in
    let set = index_set c.args.g.now c.args.m.now.blocks x c.items.result.now c.index_block-b.result t c.requires.clean c.block_is_whole.ensures are c.index_block-b.ensures in
    on_ok_weaker c.make_other.result (λ e. subst (λ (bs : List Block). AreNumbersSet c.args.g.now c.args.m.now.blocks bs x) (sym e) set) c.make_other.ensures.ok
