use Rattle.std.proofs.Common.{arith}
use Rattle.std.proofs.lemmas.Grind.{common_steps}
use Rattle.fx_text.proofs.Streams.{Appends-more}
use Rattle.fx_text.proofs.whole.write_all.Goals as goal

pub loop-at-preserved : goal.loop-at-preserved
loop-at-preserved g c =
    record { begun = Appends-more _ _ _ c.args.bytes.now c.loop-at.at c.in-Ok.n c.loop-at.invariant.begun c.in-Ok.ensures.bytes; later = omega (arith, c.loop-at.invariant.later, c.in-Ok.ensures.cause.later); within = grind (arith, common_steps, c.in-Ok.ensures.count) }
