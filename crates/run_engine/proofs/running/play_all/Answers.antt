use Rattle.std.proofs.Common.{◌≡◌, ◌∙◌, Err, ap, inr, arith, inl}
use Rattle.std.proofs.lemmas.Result.{err_from_is_err_and}
use Rattle.core_step.specs.declared.turns.TurnFault.TheVariants as turn
use Rattle.run_engine.proofs.Staying.{played_stays, still_of_world}
use Rattle.run_engine.proofs.Driving.{told_on, told_well}
use Rattle.run_engine.proofs.Playing.{play_more}
use Rattle.run_engine.proofs.running.play_all.Goals as goal

pub play-requires : goal.play-requires
play-requires g c =
    let stays = played_stays c.args.w.now.world c.args.plays.now c.loop-node.w.world (c.loop-node.node-index, c.loop-node.invariant.at) in
    still_of_world c.args.w.now.world c.loop-node.w.world _ stays (c.requires c.loop-node.node-index 0 (omega arith))

pub loop-node-preserved : goal.loop-node-preserved
loop-node-preserved g c = record {
  at = play_more c.args.plays.now c.loop-node.node-index 0 c.args.w.now.world c.loop-node.w.world c.play.new.w.world (omega arith) c.loop-node.invariant.at c.in_ok-play.ensures.played;
  drive = λ told. told_well _ _ _ (told_on _ _ _ _ _ _ (c.loop-node.invariant.drive told) c.in_ok-play.ensures.drive) (λ p. cc);
  later = omega (arith, c.play.ensures.later, c.loop-node.invariant.later);
}

pub returns-in_err-play-clause-drive : goal.returns-in_err-play-clause-drive
returns-in_err-play-clause-drive g c = λ told.
    elim (told_on _ _ _ _ _ _ (c.loop-node.invariant.drive told) c.in_err-play.ensures.drive) [
      | inl e ↦ inl e
      | inr q ↦
          let same : c.in_err-play.field-0.0 ≡ turn.ImageFault = cc in
          let p = err_from_is_err_and c.from_residual.result c.from_residual.ensures.1 in
          inr (p.1 ∙ ap Err (p.2 ∙ same))
    ]

pub returns-clause-drive : goal.returns-clause-drive
returns-clause-drive g c = λ told. inl (c.loop-node.invariant.drive told)
