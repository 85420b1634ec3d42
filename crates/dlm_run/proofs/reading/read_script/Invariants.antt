use Rattle.std.proofs.Common.{◌≡◌, length}
use Rattle.run_script.specs.Lines.{lines_of}
use Rattle.dlm_run.specs.Reading.{read_from, nothing_read}
use Rattle.dlm_run.proofs.reading.read_script.Given as goal

abbrev pub invariant-loop-split : goal.invariant-loop-split
invariant-loop-split l = read_from 1 (lines_of l.bytes) nothing_read ≡ read_from l.number (lines_of l.rest) l.reader

abbrev pub decreases-loop-split : goal.decreases-loop-split
decreases-loop-split l = length l.rest
