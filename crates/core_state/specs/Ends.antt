-- Worlds in which all nodes are over, and nodes that go on by the law of a command.
use Rattle.core_state.specs.Worlds.{Plain, NodeState, current, node_at}
use Rattle.core_state.specs.Events.{is_over, is_held_up}
use Rattle.std.specs.Prelude.{true, ◌≡◌, ℕ, Some, false}
use Rattle.plain_cat.specs.declared.command.Cmd.{Cmd}
use Rattle.op_law.specs.Laws.{Lawful}

-- every node is over
abbrev pub AllOver : Plain → Type 0
AllOver w = (n : ℕ) → is_over w n ≡ true

-- the command that a node goes on with, or begins, obeys the law
abbrev pub GoesLawfully : Plain → ℕ → Type 0
GoesLawfully w n = (s : NodeState) (x : Cmd) → node_at w.nodes n ≡ Some s → is_held_up w n s ≡ false → current w n s ≡ Some x → Lawful x
