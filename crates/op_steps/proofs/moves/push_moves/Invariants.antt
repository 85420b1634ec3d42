use Rattle.std.proofs.Common.{◌≡◌, ◌++◌, take}
use Rattle.op_law.specs.Moving.{moves_at}
use Rattle.op_steps.specs.Names.{dir_seen}
use Rattle.op_steps.proofs.moves.push_moves.Given as goal

abbrev pub invariant-loop-i : goal.invariant-loop-i
invariant-loop-i l = l.writes ≡ l.fn.writes ++ take l.i (moves_at (dir_seen l.d) l.before l.after l.first l.moves)
