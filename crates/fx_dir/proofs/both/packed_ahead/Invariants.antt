use Rattle.std.proofs.Common.{◌-◌, length}
use Rattle.fx_dir.proofs.Ahead.{Fills}
use Rattle.fx_dir.proofs.both.packed_ahead.Given as goal

abbrev pub invariant-loop-rest : goal.invariant-loop-rest
invariant-loop-rest l = Fills l.count l.front l.blocks.items l.entries

abbrev pub decreases-loop-rest : goal.decreases-loop-rest
decreases-loop-rest l = l.count - length l.blocks.items
