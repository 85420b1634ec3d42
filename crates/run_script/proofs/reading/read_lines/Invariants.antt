use Rattle.std.proofs.Common.{◌≡◌, None, length}
use Rattle.run_script.specs.Lines.{lines_of}
use Rattle.run_script.specs.Steps.{read_from}
use Rattle.run_script.proofs.reading.read_lines.Given as goal

abbrev pub invariant-loop-split : goal.invariant-loop-split
invariant-loop-split l = read_from None 1 (lines_of l.bytes) ≡ read_from l.state l.number (lines_of l.rest)

abbrev pub decreases-loop-split : goal.decreases-loop-split
decreases-loop-split l = length l.rest
