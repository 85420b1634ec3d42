use Rattle.std.proofs.Common.{length}
use Rattle.vol_records.proofs.TextLines.{AreTaken}
use Rattle.vol_records.proofs.lines.Lines8.of_text.Given as goal

abbrev pub invariant-loop-split : goal.invariant-loop-split
invariant-loop-split l = AreTaken l.text l.rest l.lines

abbrev pub decreases-loop-split : goal.decreases-loop-split
decreases-loop-split l = length l.rest
