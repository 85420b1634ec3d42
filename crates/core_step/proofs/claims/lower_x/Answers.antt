use Rattle.std.proofs.Common.{refl, ap, arith, ◌∙◌}
use Rattle.core_state.specs.Worlds.{state_of, plain_of}
use Rattle.core_state.proofs.Nodes.{told_at}
use Rattle.core_state.specs.Events.{x_lowered}
use Rattle.core_step.proofs.Steps.{drained_so}
use Rattle.core_step.proofs.Lists.{x_stands}
use Rattle.core_step.proofs.claims.lower_x.Goals as goal

pub lower_stocks-requires : goal.lower_stocks-requires
lower_stocks-requires g c = record { lock = x_stands c.args.node _ c.args.core.now.locks c.lower_bitmaps.new.locks c.lower_bitmaps.ensures c.requires.stocks }

pub keep_drained-requires : goal.keep_drained-requires
keep_drained-requires g c = let few = c.requires.few (state_of g.O.Operation.cmd_is c.index_mut-at.result.now) (told_at (state_of g.O.Operation.cmd_is) c.args.core.now.nodes.items c.args.node c.index_mut-at.result.now c.requires.node.from c.requires.node.to c.index_mut-at.ensures.value) in record { kept = omega (arith, few) }

pub returns-clause-world : goal.returns-clause-world
returns-clause-world g c = drained_so (state_of g.O.Operation.cmd_is) c.args.core.now.nodes.items (plain_of g.O.Operation.cmd_is c.args.core.now) c.args.node c.index_mut-at.result.now c.keep_drained.new.node c.requires.node.from c.requires.node.to c.index_mut-at.ensures.value refl
    c.lower_stocks.new.locks (c.lower_stocks.ensures ∙ ap (x_lowered c.args.node) c.lower_bitmaps.ensures) c.keep_drained.ensures
