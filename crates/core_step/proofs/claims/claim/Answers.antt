use Rattle.std.proofs.Common.{refl}
use Rattle.core_state.specs.Worlds.{state_of, plain_of}
use Rattle.core_state.proofs.Nodes.{told_at}
use Rattle.core_step.proofs.Steps.{claimed_so}
use Rattle.core_step.proofs.claims.claim.Goals as goal

pub keep_claim-requires-clause-kept : goal.keep_claim-requires-clause-kept
keep_claim-requires-clause-kept g c = (c.requires.few (state_of g.O.Operation.cmd_is c.index_mut.result.now) (told_at (state_of g.O.Operation.cmd_is) c.args.core.now.nodes.items c.args.node c.index_mut.result.now c.requires.node.from c.requires.node.to c.index_mut.ensures.value)).0

pub keep_claim-requires-clause-claims : goal.keep_claim-requires-clause-claims
keep_claim-requires-clause-claims g c = (c.requires.few (state_of g.O.Operation.cmd_is c.index_mut.result.now) (told_at (state_of g.O.Operation.cmd_is) c.args.core.now.nodes.items c.args.node c.index_mut.result.now c.requires.node.from c.requires.node.to c.index_mut.ensures.value)).1

pub returns-clause-world : goal.returns-clause-world
returns-clause-world g c = claimed_so (state_of g.O.Operation.cmd_is) c.args.core.now.nodes.items (plain_of g.O.Operation.cmd_is c.args.core.now) c.args.node c.index_mut.result.now c.keep_claim.new.node c.requires.node.from c.requires.node.to c.index_mut.ensures.value refl
    c.args.phase c.args.name c.args.mode c.take.new.db c.in_ok-asked.ensures.ok c.keep_claim.ensures
