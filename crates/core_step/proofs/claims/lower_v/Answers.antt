use Rattle.std.proofs.Common.{refl, arith}
use Rattle.core_state.specs.Worlds.{state_of, plain_of}
use Rattle.core_state.proofs.Nodes.{told_at}
use Rattle.core_step.proofs.Steps.{lowered_so}
use Rattle.core_step.proofs.claims.lower_v.Goals as goal

pub keep_filled-requires : goal.keep_filled-requires
keep_filled-requires g c = let few = c.requires.few (state_of g.O.Operation.cmd_is c.index_mut-at.result.now) (told_at (state_of g.O.Operation.cmd_is) c.args.core.now.nodes.items c.args.node c.index_mut-at.result.now c.requires.node.from c.requires.node.to c.index_mut-at.ensures.value) in record { kept = omega (arith, few) }

pub returns-clause-world : goal.returns-clause-world
returns-clause-world g c = lowered_so (state_of g.O.Operation.cmd_is) c.args.core.now.nodes.items (plain_of g.O.Operation.cmd_is c.args.core.now) c.args.node c.index_mut-at.result.now c.keep_filled.new.node c.requires.node.from c.requires.node.to c.index_mut-at.ensures.value refl
    c.lower_bitmaps.new.locks c.lower_bitmaps.ensures c.keep_filled.ensures
