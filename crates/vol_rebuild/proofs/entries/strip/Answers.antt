use Rattle.std.proofs.Common.{◌∙◌, refl, arith}
use Rattle.std.proofs.lemmas.Result.{err_from_is_err_and}
use Rattle.vol_rebuild.specs.Leaving.{place_from}
use Rattle.vol_rebuild.proofs.Stepping.{next_well, next_out}
use Rattle.vol_rebuild.proofs.Reading.{few_files}
use Rattle.vol_rebuild.proofs.Removing.{first_goes}
use Rattle.vol_rebuild.proofs.Stripping.{item_first, items_done, one_less, all_stripped}
use Rattle.vol_rebuild.proofs.entries.strip.Goals as goal

pub leavers-requires : goal.leavers-requires
leavers-requires g c = few_files c.args.g.now c.args.m.now.blocks c.args.cat.now c.requires

pub remove-requires-clause-goes : goal.remove-requires-clause-goes
remove-requires-clause-goes g c =
    first_goes c.loop-l.cat (place_from c.l-item.result) _ (item_first c.loop-l.cat c.deref-l-items.result.now c.loop-l.l-index c.l-item.result c.loop-l-test.true c.l-item.is c.loop-l.invariant.left)

pub returns-in_err-remove-clause-step : goal.returns-in_err-remove-clause-step
returns-in_err-remove-clause-step g c =
    let p = err_from_is_err_and c.from_residual-in_err-remove.result c.from_residual-in_err-remove.ensures.1 in
    next_out _ _ _ _ _ _ _ _ _ _ _ _ _ refl p.1 p.2 c.loop-l.invariant.step c.in_err-remove.ensures.step

pub loop-l-preserved : goal.loop-l-preserved
loop-l-preserved g c =
    let first = item_first c.loop-l.cat c.deref-l-items.result.now c.loop-l.l-index c.l-item.result c.loop-l-test.true c.l-item.is c.loop-l.invariant.left in
    let one = one_less c.args.g.now c.loop-l.m.blocks c.loop-l.cat c.remove.new.cat (place_from c.l-item.result) _ c.loop-l.invariant.told first c.in_ok-remove.ensures.less in
    record {
      step = next_well _ _ _ _ _ _ _ _ _ _ _ refl c.loop-l.invariant.step c.in_ok-remove.ensures.step;
      told = c.in_ok-remove.ensures.told;
      left = one.left;
      first = one.first ∙ c.loop-l.invariant.first;
      counted = (let a = one.counted in let b = c.loop-l.invariant.counted in omega (arith, a, b));
      files = one.files ∙ c.loop-l.invariant.files;
    }

pub returns-clause-ok : goal.returns-clause-ok
returns-clause-ok g c =
    let none = items_done c.loop-l.cat c.deref-l-items.result.now c.loop-l.l-index c.loop-l-test.false c.loop-l.invariant.left in
    record {
      told = c.loop-l.invariant.told;
      first = all_stripped c.args.g.now c.loop-l.m.blocks c.loop-l.cat c.loop-l.invariant.told none ∙ c.loop-l.invariant.first;
      counted = (let b = c.loop-l.invariant.counted in let end = c.loop-l.auto.l-index-end in let over = c.loop-l-test.false in let count = c.in-Ok.ensures.1 in let all = c.len.ensures in let len = c.deref-l-items.ensures.len in omega (arith, b, end, over, count, all, len));
      files = c.loop-l.invariant.files;
    }
