use Rattle.std.proofs.Common.{◌+◌, List, sym, subst, arith}
use Rattle.std.proofs.lemmas.Result.{on_ok_weaker}
use Rattle.base_words.specs.Fields.{Block}
use Rattle.vol_repair.specs.Aims.{Touching}
use Rattle.vol_repair.specs.BitSteps.{IsBitTurn}
use Rattle.vol_repair.proofs.ClusterBits.{storage_on, storage_touched, next_turn}
use Rattle.vol_repair.proofs.bits.set_storage.Goals as goal

pub overflow_add-lbn : goal.overflow_add-lbn
overflow_add-lbn g c =
    let on = storage_on c.touching_is_easy.ensures c.args.home.now c.requires.turn.0 c.requires.turn.1 c.args.m.now.blocks c.args.counts.now c.args.control c.args.k c.requires.limits c.requires.turn.2 c.requires.block in
    let to = c.requires.size.to in
    omega (arith, on, to)

pub overflow_add-lbn-2 : goal.overflow_add-lbn-2
overflow_add-lbn-2 g c =
    let on = storage_on c.touching_is_easy.ensures c.args.home.now c.requires.turn.0 c.requires.turn.1 c.args.m.now.blocks c.args.counts.now c.args.control c.args.k c.requires.limits c.requires.turn.2 c.requires.block in
    let to = c.requires.size.to in
    omega (arith, on, to)

pub read-requires : goal.read-requires
read-requires g c = storage_on c.touching_is_easy.ensures c.args.home.now c.requires.turn.0 c.requires.turn.1 c.args.m.now.blocks c.args.counts.now c.args.control c.args.k c.requires.limits c.requires.turn.2 c.requires.block

pub make_other-requires : goal.make_other-requires
make_other-requires g c =
    record { inside = storage_on c.touching_is_easy.ensures c.args.home.now c.requires.turn.0 c.requires.turn.1 c.args.m.now.blocks c.args.counts.now c.args.control c.args.k c.requires.limits c.requires.turn.2 c.requires.block }

pub returns-clause-step : goal.returns-clause-step
returns-clause-step g c first old turn =
    c.make_other.ensures.step (Touching c.args.home.now first) turn.bits.ground.touched
    (storage_touched c.touching_is_easy.ensures c.args.home.now first old c.args.m.now.blocks c.args.counts.now c.args.control c.args.k c.requires.limits turn c.requires.block c.storage_block-b.result)

pub returns-clause-ok : goal.returns-clause-ok
returns-clause-ok g c first old turn =
    let set = next_turn c.touching_is_easy.ensures c.args.home.now first old c.args.m.now.blocks c.args.counts.now c.args.control c.args.k c.requires.limits turn c.requires.block
    c.read.result.now c.storage_block-b.result c.block_is_whole.ensures c.read.ensures c.storage_block-b.ensures in
    on_ok_weaker c.make_other.result (λ e. subst (λ (bs : List Block). IsBitTurn c.args.home.now first old bs c.args.counts.now c.args.control (c.args.k + 1)) (sym e) set) c.make_other.ensures.ok
