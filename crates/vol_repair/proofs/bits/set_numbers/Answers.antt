use Rattle.std.proofs.Common.{◌≡◌, ◌*◌, List, sym, subst, arith}
use Rattle.std.proofs.lemmas.Result.{on_ok_weaker}
use Rattle.base_words.specs.Fields.{Block}
use Rattle.vol_repair.specs.Aims.{Touching}
use Rattle.vol_repair.specs.BitSteps.{AreBitsSet}
use Rattle.vol_repair.proofs.NumberBits.{index_on, index_touched, flags_few, numbers_set}
use Rattle.vol_repair.proofs.bits.set_numbers.Goals as goal

pub read-requires : goal.read-requires
read-requires g c =
    let at : 4 * c.from-lbn.result ≡ 4 * c.args.home.now.cluster = omega (arith, c.from-lbn.ensures) in
    index_on c.touching_is_easy.ensures c.args.home.now c.requires.before.0 c.args.m.now.blocks c.args.kept.now (4 * c.from-lbn.result) c.requires.limits c.requires.before.1 at

pub index_block-b-requires : goal.index_block-b-requires
index_block-b-requires g c =
    let at : 4 * c.from-lbn.result ≡ 4 * c.args.home.now.cluster = omega (arith, c.from-lbn.ensures) in
    flags_few c.touching_is_easy.ensures c.args.home.now c.requires.before.0 c.args.m.now.blocks c.args.kept.now (4 * c.from-lbn.result) c.requires.limits c.requires.before.1 at

pub make_other-requires : goal.make_other-requires
make_other-requires g c =
    let at : 4 * c.from-lbn.result ≡ 4 * c.args.home.now.cluster = omega (arith, c.from-lbn.ensures) in
    record { inside = index_on c.touching_is_easy.ensures c.args.home.now c.requires.before.0 c.args.m.now.blocks c.args.kept.now (4 * c.from-lbn.result) c.requires.limits c.requires.before.1 at }

pub returns-clause-step : goal.returns-clause-step
returns-clause-step g c first before =
    let at : 4 * c.from-lbn.result ≡ 4 * c.args.home.now.cluster = omega (arith, c.from-lbn.ensures) in
    c.make_other.ensures.step (Touching c.args.home.now first) before.ground.touched
    (index_touched c.touching_is_easy.ensures c.args.home.now first c.args.m.now.blocks c.args.kept.now (4 * c.from-lbn.result) c.requires.limits before at c.index_block-b.result)

pub returns-clause-ok : goal.returns-clause-ok
returns-clause-ok g c first before =
    let at : 4 * c.from-lbn.result ≡ 4 * c.args.home.now.cluster = omega (arith, c.from-lbn.ensures) in
    let set = numbers_set c.touching_is_easy.ensures c.args.home.now first c.args.m.now.blocks c.args.kept.now (4 * c.from-lbn.result) c.requires.limits before at
    c.read.result.now c.index_block-b.result c.block_is_whole.ensures c.read.ensures c.index_block-b.ensures in
    on_ok_weaker c.make_other.result (λ e. subst (λ (bs : List Block). AreBitsSet c.args.home.now first c.args.m.now.blocks bs 0) (sym e) set) c.make_other.ensures.ok
