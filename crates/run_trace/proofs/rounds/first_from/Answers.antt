use Rattle.std.proofs.Common.{◌∙◌, sym, arith}
use Rattle.run_engine.proofs.Rotating.{search_passes, search_finds, search_ends}
use Rattle.run_trace.proofs.rounds.first_from.Goals as goal

pub returns-then-not-is_over : goal.returns-then-not-is_over
returns-then-not-is_over g c =
    sym (c.loop-node.invariant ∙ search_finds c.args.w.now.world c.loop-node.node c.args.last (omega arith) (sym c.is_over.ensures ∙ c.if-not-is_over.true))

pub loop-node-preserved : goal.loop-node-preserved
loop-node-preserved g c =
    c.loop-node.invariant ∙ search_passes c.args.w.now.world c.loop-node.node c.args.last (omega arith) (sym c.is_over.ensures ∙ c.if-not-is_over.false)

pub returns : goal.returns
returns g c = sym (c.loop-node.invariant ∙ search_ends c.args.w.now.world c.loop-node.node c.args.last (omega arith))
