use Rattle.std.proofs.Common.{refl, sym, ◌∙◌, slice_set}
use Rattle.core_state.specs.Worlds.{state_of, plain_of}
use Rattle.core_state.proofs.Nodes.{told_at}
use Rattle.core_step.proofs.Caching.{wrote_so}
use Rattle.core_step.proofs.answers.write.Goals as goal

pub keep_write-requires : goal.keep_write-requires
keep_write-requires g c =
    c.requires.more (state_of g.O.Operation.cmd_is c.index_mut-at.result.now) (told_at (state_of g.O.Operation.cmd_is) c.args.core.now.nodes.items c.args.node c.index_mut-at.result.now c.requires.node.from c.requires.node.to c.index_mut-at.ensures.value)

pub returns-clause-world : goal.returns-clause-world
returns-clause-world g c v lock lbn block = wrote_so (state_of g.O.Operation.cmd_is) c.args.core.now.nodes.items (plain_of g.O.Operation.cmd_is c.args.core.now) c.args.node c.index_mut-at.result.now c.keep_write.new.node
    c.requires.node.from c.requires.node.to c.index_mut-at.ensures.value refl v c.write.new.self.blocks c.rewrite.new.cache (c.in_ok-write.ensures.ok ∙ (λ i. slice_set c.args.core.now.mirror.blocks (sym lbn i) (sym block i)))
    (c.rewrite.ensures v lock lbn block) c.keep_write.ensures
