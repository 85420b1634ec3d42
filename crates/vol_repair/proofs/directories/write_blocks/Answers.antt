-- Blocks, one behind another.
use Rattle.std.proofs.Common.{◌∙◌, ◌+◌, [], length, take, get_or, slice_set, refl, sym, ap, subst, arith}
use Rattle.std.proofs.lemmas.Result.{err_from_is_err_and}
use Rattle.base_words.specs.Lists.{written}
use Rattle.base_words.proofs.ListWrites.{length-written}
use Rattle.vol_repair.specs.Aims.{Holds}
use Rattle.vol_repair.specs.Remaking.{laid}
use Rattle.vol_repair.proofs.Stepping.{step_none, next_well, next_out, ends_well}
use Rattle.vol_repair.proofs.Laying.{laid_next, laid_made, laid_all}
use Rattle.vol_repair.proofs.directories.write_blocks.Goals as goal

pub loop-i-init : goal.loop-i-init
loop-i-init g c = record { blocks = refl; step = λ a holds. step_none _ _ _ _ (λ n. n) (holds 0) }

pub make_other-requires : goal.make_other-requires
make_other-requires g c =
    let count = ap length c.loop-i.invariant.blocks ∙ length-written (take c.loop-i.i (laid c.args.lbn c.args.blocks.now)) c.args.m.now.blocks in
    record { inside = omega (arith, count, c.requires.inside, c.loop-i-test.true) }

pub returns-in_err-make_other-clause-step : goal.returns-in_err-make_other-clause-step
returns-in_err-make_other-clause-step g c a holds =
    let p = err_from_is_err_and c.from_residual.result c.from_residual.ensures.1 in
    let i = c.loop-i.i in
    let bs = c.args.blocks.now in
    let made = laid_next c.args.lbn i bs c.args.m.now.blocks c.loop-i.m.blocks c.loop-i-test.true c.loop-i.invariant.blocks in
    let here : Holds a c.loop-i.m.blocks = subst (Holds a) (sym c.loop-i.invariant.blocks) (holds i) in
    let there : Holds a (slice_set c.loop-i.m.blocks (c.args.lbn + i) (get_or bs i [])) = subst (Holds a) (sym made) (holds (i + 1)) in
    next_out _ _ _ _ _ _ _ _ _ _ _ _ _ refl p.1 p.2 (c.loop-i.invariant.step a holds) (c.in_err-make_other.ensures.step a here there)

pub loop-i-preserved : goal.loop-i-preserved
loop-i-preserved g c =
    let i = c.loop-i.i in
    let bs = c.args.blocks.now in
    let made = laid_next c.args.lbn i bs c.args.m.now.blocks c.loop-i.m.blocks c.loop-i-test.true c.loop-i.invariant.blocks in
    record {
      blocks = laid_made c.args.lbn i bs c.args.m.now.blocks c.loop-i.m.blocks c.make_other.new.m.blocks c.loop-i-test.true c.loop-i.invariant.blocks c.in_ok-make_other.ensures.ok;
      step = λ a holds.
          let here : Holds a c.loop-i.m.blocks = subst (Holds a) (sym c.loop-i.invariant.blocks) (holds i) in
          let there : Holds a (slice_set c.loop-i.m.blocks (c.args.lbn + i) (get_or bs i [])) = subst (Holds a) (sym made) (holds (i + 1)) in
          next_well _ _ _ _ _ _ _ _ _ _ _ refl (c.loop-i.invariant.step a holds) (c.in_ok-make_other.ensures.step a here there);
    }

pub returns-clause-step : goal.returns-clause-step
returns-clause-step g c a holds = ends_well _ _ _ _ _ _ _ _ refl (c.loop-i.invariant.step a holds)

pub returns-clause-ok : goal.returns-clause-ok
returns-clause-ok g c = c.loop-i.invariant.blocks ∙ ap (λ ws. written ws c.args.m.now.blocks) (laid_all c.args.lbn c.loop-i.i c.args.blocks.now (omega (arith, c.loop-i-test.false)))
