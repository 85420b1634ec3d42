use Rattle.std.proofs.Common.{◌≡◌, ◌++◌, take, map}
use Rattle.op_law.specs.Writing.{with_numbers}
use Rattle.core_space.proofs.filling.put_behind.Given as goal

abbrev pub invariant-loop-write : goal.invariant-loop-write
invariant-loop-write l = l.writes ≡ l.fn.writes ++ map (with_numbers l.numbers) (take l.write-index l.list)
