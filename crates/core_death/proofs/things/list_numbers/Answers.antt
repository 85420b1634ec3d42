use Rattle.std.proofs.Common.{◌+◌, ◌∙◌, sym, arith}
use Rattle.core_state.specs.Worlds.{state_of}
use Rattle.core_death.specs.Lasts.{number_told}
use Rattle.std.proofs.Common.{ℕ, subst}
use Rattle.plain_cat.specs.Spared.{Spared}
use Rattle.core_death.proofs.Listing.{AreListed, listed_first, listed_below, listed_room, listed_more, listed_less, listed_last}
use Rattle.core_death.proofs.things.list_numbers.Goals as goal
use Rattle.core_death.proofs.things.list_numbers.Goals.{then-has_number, else-has_number}

pub loop-n-init : goal.loop-n-init
loop-n-init g c = listed_first (number_told (state_of g.O.Operation.cmd_is c.args.node.now)) c.args.list.now.items c.args.list.now.room c.requires.empty c.requires.room

pub append-requires-clause-room : goal.append-requires-clause-room
append-requires-clause-room g c = let lt = c.loop-n-test.true in listed_room (number_told (state_of g.O.Operation.cmd_is c.args.node.now)) c.loop-n.list.items c.loop-n.list.room c.loop-n.n c.loop-n.invariant (omega arith)

pub append-requires-clause-above : goal.append-requires-clause-above
append-requires-clause-above g c = listed_below (number_told (state_of g.O.Operation.cmd_is c.args.node.now)) c.loop-n.list.items c.loop-n.list.room c.loop-n.n c.loop-n.invariant

pub loop-n-preserved : goal.loop-n-preserved
loop-n-preserved g c = elim c.if-has_number.branch [
  | then-has_number w ↦ subst (λ (l : Spared ℕ). AreListed (number_told (state_of g.O.Operation.cmd_is c.args.node.now)) l.items l.room (c.loop-n.n + 1)) (sym w.list-is) (listed_more (number_told (state_of g.O.Operation.cmd_is c.args.node.now)) c.loop-n.list.items w.append.new.self.items c.loop-n.list.room w.append.new.self.room c.loop-n.n c.loop-n.invariant (sym c.has_number.ensures ∙ w.if-has_number.true) w.append.ensures.items w.append.ensures.room)
  | else-has_number w ↦ subst (λ (l : Spared ℕ). AreListed (number_told (state_of g.O.Operation.cmd_is c.args.node.now)) l.items l.room (c.loop-n.n + 1)) (sym w.list-is) (listed_less (number_told (state_of g.O.Operation.cmd_is c.args.node.now)) c.loop-n.list.items c.loop-n.list.room c.loop-n.n c.loop-n.invariant (sym c.has_number.ensures ∙ w.if-has_number.false))
]

pub returns : goal.returns
returns g c = listed_last (number_told (state_of g.O.Operation.cmd_is c.args.node.now)) c.loop-n.list.items c.loop-n.list.room c.loop-n.n c.loop-n.invariant (let lt = c.loop-n-test.false in let most = c.loop-n.auto.n-end in omega arith)
