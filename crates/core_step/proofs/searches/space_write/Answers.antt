use Rattle.std.proofs.Common.{refl, sym, ap, subst, ◌∙◌, slice_set}
use Rattle.std.specs.Prelude.{IsSome}
use Rattle.core_state.specs.Worlds.{state_of, plain_of}
use Rattle.core_state.proofs.Nodes.{told_at}
use Rattle.core_step.specs.Spaces.{write_of}
use Rattle.core_step.proofs.Caching.{space_wrote_so, can_take_cached}
use Rattle.core_state.proofs.SmallBegun.{there_within}
use Rattle.core_step.proofs.searches.space_write.Goals as goal

pub next_lock-name-requires : goal.next_lock-name-requires
next_lock-name-requires g c =
    let at = told_at (state_of g.O.Operation.cmd_is) c.args.core.now.nodes.items c.args.node c.index_mut-at.result.now c.requires.node.from c.requires.node.to c.index_mut-at.ensures.value in
    there_within c.index_mut-at.result.now.run.writes c.index_mut-at.result.now.run.made (subst (λ o. IsSome o) (ap write_of at) c.requires.next)

pub keep_space_write-requires-clause-next : goal.keep_space_write-requires-clause-next
keep_space_write-requires-clause-next g c =
    let at = told_at (state_of g.O.Operation.cmd_is) c.args.core.now.nodes.items c.args.node c.index_mut-at.result.now c.requires.node.from c.requires.node.to c.index_mut-at.ensures.value in
    there_within c.index_mut-at.result.now.run.writes c.index_mut-at.result.now.run.made (subst (λ o. IsSome o) (ap write_of at) c.requires.next)

pub keep_space_write-requires-clause-can : goal.keep_space_write-requires-clause-can
keep_space_write-requires-clause-can g c v next =
    let s = state_of g.O.Operation.cmd_is c.index_mut-at.result.now in
    can_take_cached s c.rewrite.new.cache v (c.requires.can s v (told_at (state_of g.O.Operation.cmd_is) c.args.core.now.nodes.items c.args.node c.index_mut-at.result.now c.requires.node.from c.requires.node.to c.index_mut-at.ensures.value) next)

pub returns-clause-world : goal.returns-clause-world
returns-clause-world g c v next lbn block =
    let at = told_at (state_of g.O.Operation.cmd_is) c.args.core.now.nodes.items c.args.node c.index_mut-at.result.now c.requires.node.from c.requires.node.to c.index_mut-at.ensures.value in
    let there = sym (ap write_of at) ∙ next in
    space_wrote_so (state_of g.O.Operation.cmd_is) c.args.core.now.nodes.items (plain_of g.O.Operation.cmd_is c.args.core.now) c.args.node c.index_mut-at.result.now c.keep_space_write.new.node
    c.requires.node.from c.requires.node.to c.index_mut-at.ensures.value refl v c.write.new.self.blocks c.rewrite.new.cache (c.in_ok-write.ensures.ok ∙ (λ i. slice_set c.args.core.now.mirror.blocks (sym lbn i) (sym block i)))
    (c.rewrite.ensures v (sym (c.next_lock-name.ensures v there)) lbn block) (c.keep_space_write.ensures v there)
