use Rattle.std.proofs.Common.{◌≡◌, ◌∙◌, Err, ap, sym, subst, arith, inl, inr}
use Rattle.std.proofs.lemmas.Result.{err_from_is_err_and}
use Rattle.core_step.specs.declared.turns.TurnFault.TheVariants as turn
use Rattle.run_engine.specs.Faults.{run_fault}
use Rattle.run_engine.specs.Walks.{Stays}
use Rattle.run_engine.proofs.Staying.{step_stays}
use Rattle.run_engine.proofs.Driving.{told_same, told_on, told_well}
use Rattle.run_engine.proofs.Rotating.{rotation_none, rotation_more}
use Rattle.run_engine.proofs.Enough.{enough_at_first, enough_after, over_at_last}
use Rattle.run_engine.proofs.rotation.rotate.Goals as goal

pub loop-turns-init : goal.loop-turns-init
loop-turns-init g c = record {
  at = rotation_none (record { world = c.args.w.now.world; from = 1 });
  low = omega arith;
  high = omega arith;
  good = c.keeps_the_rules.ensures.good;
  enough = enough_at_first c.args.w.now.world c.args.budget c.requires c.keeps_the_rules.ensures.good c.keeps_the_rules.ensures.accepted;
  drive = λ told. told_same _ _ told;
  later = omega arith;
}

pub loop-turns-preserved : goal.loop-turns-preserved
loop-turns-preserved g c =
    let stays : Stays c.loop-turns.w.world c.seat_event.new.w.world =
    subst (λ v. Stays c.loop-turns.w.world v) (sym c.in_ok-seat_event-in-Some.ensures.moved) (step_stays c.loop-turns.w.world c.in-Some.node) in
    record {
      at = rotation_more c.loop-turns._turns (record { world = c.args.w.now.world; from = 1 }) c.loop-turns.w.world c.loop-turns.from c.in-Some.node c.seat_event.new.w.world c.loop-turns.invariant.at c.in-Some.ensures.next c.in_ok-seat_event-in-Some.ensures.moved;
      low = omega arith;
      high = omega (arith, c.in-Some.ensures.of_world.to, stays.count);
      good = c.keeps_the_rules-in-Some.ensures.good;
      enough = enough_after c.args.budget c.loop-turns._turns c.loop-turns.w.world c.loop-turns.from c.in-Some.node c.seat_event.new.w.world (omega arith)
          c.loop-turns.invariant.low c.loop-turns.invariant.high c.in-Some.ensures.next c.in_ok-seat_event-in-Some.ensures.moved
          c.loop-turns.invariant.good c.keeps_the_rules-in-Some.ensures.good c.keeps_the_rules-in-Some.ensures.accepted c.loop-turns.invariant.enough;
      drive = λ told. told_well _ _ _ (told_on _ _ _ _ _ _ (c.loop-turns.invariant.drive told) c.in_ok-seat_event-in-Some.ensures.drive) (λ p. cc);
      later = omega (arith, c.seat_event.ensures.later, c.loop-turns.invariant.later);
    }

pub returns-in_err-seat_event-in-Some-clause-drive : goal.returns-in_err-seat_event-in-Some-clause-drive
returns-in_err-seat_event-in-Some-clause-drive g c = λ told.
    elim (told_on _ _ _ _ _ _ (c.loop-turns.invariant.drive told) c.in_err-seat_event-in-Some.ensures.drive) [
      | inl e ↦ inl e
      | inr q ↦
          let same : c.in_err-seat_event-in-Some.field-0.0 ≡ turn.ImageFault = cc in
          let p = err_from_is_err_and c.from_residual.result c.from_residual.ensures.1 in
          inr (p.1 ∙ ap Err (p.2 ∙ ap run_fault same))
    ]

pub returns-in-None-clause-drive : goal.returns-in-None-clause-drive
returns-in-None-clause-drive g c = λ told. inl (c.loop-turns.invariant.drive told)

pub returns-clause-drive : goal.returns-clause-drive
returns-clause-drive g c = λ told. inl (c.loop-turns.invariant.drive told)

pub returns-clause-over : goal.returns-clause-over
returns-clause-over g c = over_at_last c.args.budget c.loop-turns._turns c.loop-turns.w.world c.loop-turns.from (omega arith) c.loop-turns.invariant.enough
