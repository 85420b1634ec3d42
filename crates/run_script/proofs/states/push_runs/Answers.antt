use Rattle.std.proofs.Common.{◌≡◌, ◌∙◌, ◌+◌, ◌++◌, ◌<◌, ℕ, List, length, drop, get_or, replicate, sym, ap, append_assoc, arith}
use Rattle.run_script.specs.declared.items.Run.{Run}
use Rattle.run_script.specs.Spelling.{plays_of}
use Rattle.run_script.proofs.Played.{plays-drop}
use Rattle.run_script.proofs.states.push_runs.Goals as goal

one_more : (plays more all : List ℕ) (runs : List Run) (i : ℕ) (d : Run) → i < length runs → plays ++ plays_of (drop i runs) ≡ all
    → more ≡ plays ++ replicate (get_or runs i d).count (get_or runs i d).node → more ++ plays_of (drop (i + 1) runs) ≡ all
one_more plays more all runs i d h before e =
    ap (λ l. l ++ plays_of (drop (i + 1) runs)) e ∙ append_assoc plays (replicate (get_or runs i d).count (get_or runs i d).node) (plays_of (drop (i + 1) runs))
    ∙ ap (λ l. plays ++ l) (sym (plays-drop runs i d h)) ∙ before

pub loop-run-preserved : goal.loop-run-preserved
loop-run-preserved c =
    one_more c.loop-run.plays c.push_run.new.plays _ c.args.runs.now c.loop-run.run-index record { node = 0; count = 0 } (omega arith) c.loop-run.invariant c.in_ok-push_run.ensures
