-- The plays of runs, one run after the other.
use Rattle.std.proofs.Common.{◌≡◌, ◌∙◌, ◌+◌, ◌<◌, ◌++◌, ℕ, List, length, drop, get_or, replicate, ap, length-append}
use Rattle.std.proofs.lemmas.List.{at_drop_more, length-replicate}
use Rattle.run_script.specs.declared.items.Run.{Run}
use Rattle.run_script.specs.Spelling.{plays_of}

pub plays-drop : (runs : List Run) (i : ℕ) (d : Run) → i < length runs → plays_of (drop i runs) ≡ replicate (get_or runs i d).count (get_or runs i d).node ++ plays_of (drop (i + 1) runs)
plays-drop runs i d h = at_drop_more plays_of runs i d h

pub length_plays-drop : (runs : List Run) (i : ℕ) (d : Run) → i < length runs → length (plays_of (drop i runs)) ≡ (get_or runs i d).count + length (plays_of (drop (i + 1) runs))
length_plays-drop runs i d h =
    ap length (plays-drop runs i d h) ∙ length-append (replicate (get_or runs i d).count (get_or runs i d).node) (plays_of (drop (i + 1) runs))
    ∙ ap (λ n. n + length (plays_of (drop (i + 1) runs))) (length-replicate (get_or runs i d).count (get_or runs i d).node)
