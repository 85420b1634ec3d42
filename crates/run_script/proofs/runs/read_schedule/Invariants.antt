use Rattle.std.proofs.Common.{◌≡◌, ◌++◌, drop, length}
use Rattle.run_script.specs.Lines.{words_of}
use Rattle.run_script.specs.Steps.{runs_of, with1}
use Rattle.run_script.proofs.runs.read_schedule.Given as goal

abbrev pub invariant-loop-word : goal.invariant-loop-word
invariant-loop-word l = with1 (runs_of (drop (length l.yielded) (drop 1 (words_of l.line)))) (λ rs. l.runs ++ rs) ≡ runs_of (drop 1 (words_of l.line))
