use Rattle.std.proofs.Common.{◌≡◌, ◌*◌, map}
use Rattle.std.specs.List.{range_with_len}
use Rattle.run_script.specs.Soaks.{state_after, soak_line}
use Rattle.run_script.proofs.soaks.soak.Given as goal

-- four draws for each command, and the commands so far
abbrev pub invariant-loop-i : goal.invariant-loop-i
invariant-loop-i l = record { drawn : l.draws.state ≡ state_after l.n (4 * l.i); made : l.lines ≡ map (soak_line l.n) (range_with_len 0 l.i) }
