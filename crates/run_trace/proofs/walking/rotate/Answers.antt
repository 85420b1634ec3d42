use Rattle.std.proofs.Common.{◌+◌, sym, subst, arith}
use Rattle.run_engine.specs.Walks.{Stays}
use Rattle.run_engine.proofs.Staying.{step_stays}
use Rattle.run_engine.proofs.Rotating.{rotation_none, rotation_more}
use Rattle.run_engine.proofs.Enough.{enough_at_first, enough_after, over_at_last}
use Rattle.run_trace.proofs.Lines.{appended, turns_first, turns_more, has_turned}
use Rattle.run_trace.proofs.walking.rotate.Goals as goal

pub loop-turns-init : goal.loop-turns-init
loop-turns-init g c = record {
  at = rotation_none (record { world = c.args.w.now.world; from = 1 });
  text = turns_first c.args.out.now.items (c.args.made + 1) (record { world = c.args.w.now.world; from = 1 });
  drive = λ told. told;
  low = omega arith;
  high = omega arith;
  good = c.keeps_the_rules.ensures.good;
  enough = enough_at_first c.args.w.now.world c.args.budget c.requires.budget c.keeps_the_rules.ensures.good c.keeps_the_rules.ensures.accepted;
}

pub loop-turns-preserved : goal.loop-turns-preserved
loop-turns-preserved g c =
    let stays : Stays c.loop-turns.w.world c.step.new.w.world =
    subst (λ v. Stays c.loop-turns.w.world v) (sym c.in_ok-step-in-Some.ensures.moved) (step_stays c.loop-turns.w.world c.in-Some.node) in
    record {
      at = rotation_more c.loop-turns.turns (record { world = c.args.w.now.world; from = 1 }) c.loop-turns.w.world c.loop-turns.from c.in-Some.node c.step.new.w.world c.loop-turns.invariant.at c.in-Some.ensures.next c.in_ok-step-in-Some.ensures.moved;
      text = appended _ _ _ _ _ _ c.loop-turns.invariant.text c.in_ok-step-in-Some.ensures.text
          (turns_more (c.args.made + 1) c.loop-turns.turns (record { world = c.args.w.now.world; from = 1 }) c.loop-turns.w.world c.loop-turns.from c.in-Some.node c.loop-turns.invariant.at c.in-Some.ensures.next);
      drive = λ told. c.in_ok-step-in-Some.ensures.drive (c.loop-turns.invariant.drive told);
      low = omega arith;
      high = omega (arith, c.in-Some.ensures.of_world.to, stays.count);
      good = c.keeps_the_rules-in-Some.ensures.good;
      enough = enough_after c.args.budget c.loop-turns.turns c.loop-turns.w.world c.loop-turns.from c.in-Some.node c.step.new.w.world (omega arith)
          c.loop-turns.invariant.low c.loop-turns.invariant.high c.in-Some.ensures.next c.in_ok-step-in-Some.ensures.moved
          c.loop-turns.invariant.good c.keeps_the_rules-in-Some.ensures.good c.keeps_the_rules-in-Some.ensures.accepted c.loop-turns.invariant.enough;
    }

pub returns-in-None-clause-turned : goal.returns-in-None-clause-turned
returns-in-None-clause-turned g c = has_turned c.args.budget (c.args.made + 1) c.args.w.now.world c.loop-turns.w.world c.args.out.now.items c.loop-turns.out.items c.loop-turns.turns c.loop-turns.from (omega arith) c.loop-turns.invariant.at c.loop-turns.invariant.text

pub returns-clause-turned : goal.returns-clause-turned
returns-clause-turned g c = has_turned c.args.budget (c.args.made + 1) c.args.w.now.world c.loop-turns.w.world c.args.out.now.items c.loop-turns.out.items c.loop-turns.turns c.loop-turns.from (omega arith) c.loop-turns.invariant.at c.loop-turns.invariant.text

pub returns-clause-over : goal.returns-clause-over
returns-clause-over g c = over_at_last c.args.budget c.loop-turns.turns c.loop-turns.w.world c.loop-turns.from (omega arith) c.loop-turns.invariant.enough

pub returns-in-None-clause-over : goal.returns-in-None-clause-over
returns-in-None-clause-over g c = c.next_node.ensures.over c.in-None.is
