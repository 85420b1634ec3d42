use Rattle.std.proofs.Common.{ap, ◌∙◌}
use Rattle.core_state.specs.Worlds.{plain_of}
use Rattle.core_state.specs.Events.{is_over}
use Rattle.core_death.proofs.Ending.{dies_so, has_place, has_list, world_died, fewer_lists}
use Rattle.core_death.proofs.killing.kill.Goals as goal

pub take-numbers-requires : goal.take-numbers-requires
take-numbers-requires g c = has_list (plain_of g.O.Operation.cmd_is c.w.inside.core) c.w.invariant.0.good c.args.node (ap (λ v. is_over v.world c.args.node) c.w.view_is ∙ c.requires.alive) c.w.inside.lists c.w.invariant.1

pub die-requires-clause-state : goal.die-requires-clause-state
die-requires-clause-state g c = dies_so (plain_of g.O.Operation.cmd_is c.w.inside.core) c.w.invariant.0.good c.args.node (ap (λ v. is_over v.world c.args.node) c.w.view_is ∙ c.requires.alive)

pub die-requires-clause-place : goal.die-requires-clause-place
die-requires-clause-place g c = has_place (plain_of g.O.Operation.cmd_is c.w.inside.core) c.w.invariant.0.good c.args.node (ap (λ v. is_over v.world c.args.node) c.w.view_is ∙ c.requires.alive) c.w.inside.core.history.room c.w.invariant.0.room

pub invariant_of-w : goal.invariant_of-w
invariant_of-w g c = (
  world_died (plain_of g.O.Operation.cmd_is c.w.inside.core) c.w.invariant.0.good c.args.node (ap (λ v. is_over v.world c.args.node) c.w.view_is ∙ c.requires.alive) g.O.Operation.takes (plain_of g.O.Operation.cmd_is c.die.new.core) c.w.inside.core.history.room c.die.new.core.history.room c.w.invariant.0 c.die.ensures.world c.die.ensures.room,
  fewer_lists (plain_of g.O.Operation.cmd_is c.w.inside.core) c.w.invariant.0.good c.args.node (ap (λ v. is_over v.world c.args.node) c.w.view_is ∙ c.requires.alive) (plain_of g.O.Operation.cmd_is c.die.new.core) c.w.inside.lists c.take-numbers.new.self c.w.invariant.1 c.die.ensures.world c.take-numbers.ensures.left,
)
