-- A schedule is read run by run.
use Rattle.std.proofs.Common.{◌≡◌, ◌∙◌, ◌+◌, ◌≤◌, ◌<◌, ◌++◌, ℕ, List, [], ◌∷◌, Option, Some, None, Err, length, drop, get_or, refl, sym, ap, cond, arith, append_assoc}
use Rattle.std.proofs.lemmas.Bool.{le-leb}
use Rattle.std.proofs.lemmas.List.{at_drop_more, at_drop_all, append-nil}
use Rattle.run_script.specs.declared.fault.LineFault.{LineFault}
use Rattle.run_script.specs.declared.fault.LineFault.TheVariants.{Bad, TooMany, NoMemory}
use Rattle.run_script.specs.declared.items.Run.{Run}
use Rattle.run_script.specs.Steps.{Gives, run_of, runs_of, schedule_of, with1, with2}

-- runs in front of those that the words spell
abbrev pub onto : List Run → Option (List Run) → Option (List Run)
onto runs rest = with1 rest (λ rs. runs ++ rs)

enough : (ws : List (List ℕ)) → 2 ≤ length ws → schedule_of ws ≡ runs_of (drop 1 ws)
unfolding schedule_of
enough ws h = ap (λ t. cond t (runs_of (drop 1 ws)) None) (le-leb 2 (length ws) h)

-- where the next word is no run, they spell none
none_next : (words : List (List ℕ)) (runs : List Run) (k : ℕ) (w : List ℕ) → onto runs (runs_of (drop k words)) ≡ runs_of words → k < length words → w ≡ get_or words k w
    → run_of w ≡ None → runs_of words ≡ None
none_next words runs k w so_far inside is none =
    sym so_far ∙ ap (onto runs) (at_drop_more runs_of words k w inside)
    ∙ ap (λ x. onto runs (with2 (run_of x) (runs_of (drop (k + 1) words)) (λ r rs. r ∷ rs))) (sym is)
    ∙ ap (λ o. onto runs (with2 o (runs_of (drop (k + 1) words)) (λ r rs. r ∷ rs))) none

pub stops : (ws : List (List ℕ)) (runs : List Run) (k : ℕ) (w : List ℕ) (e : LineFault) → 2 ≤ length ws → onto runs (runs_of (drop k (drop 1 ws))) ≡ runs_of (drop 1 ws)
    → (k < length (drop 1 ws)) × (w ≡ get_or (drop 1 ws) k w) → Gives (run_of w) (Err e) → Gives (schedule_of ws) (Err e)
stops ws runs k w Bad two so_far at none = enough ws two ∙ none_next (drop 1 ws) runs k w so_far at.0 at.1 none
stops ws runs k w TooMany two so_far at none = none
stops ws runs k w NoMemory two so_far at none = tt

pub goes_on : (words : List (List ℕ)) (runs more : List Run) (k n : ℕ) (w : List ℕ) (r : Run) → onto runs (runs_of (drop k words)) ≡ runs_of words → (k < length words) × (w ≡ get_or words k w)
    → run_of w ≡ Some r → more ≡ runs ++ r ∷ [] → n ≡ k + 1 → onto more (runs_of (drop n words)) ≡ runs_of words
goes_on words runs more k n w r so_far at found e is =
    ap (λ m. onto more (runs_of (drop m words))) is ∙ moved (runs_of (drop (k + 1) words)) ∙ sym (
    ap (onto runs) (at_drop_more runs_of words k w at.0)
    ∙ ap (λ x. onto runs (with2 (run_of x) (runs_of (drop (k + 1) words)) (λ r rs. r ∷ rs))) (sym at.1)
    ∙ ap (λ o. onto runs (with2 o (runs_of (drop (k + 1) words)) (λ r rs. r ∷ rs))) found
    ) ∙ so_far
  where
    moved : (o : Option (List Run)) → onto more o ≡ onto runs (with1 o (λ rs. r ∷ rs))
    moved None = refl
    moved (Some rs) = ap (λ l. Some (l ++ rs)) e ∙ ap Some (append_assoc runs (r ∷ []) rs)

pub ends : (ws : List (List ℕ)) (runs : List Run) (k : ℕ) → 2 ≤ length ws → onto runs (runs_of (drop k (drop 1 ws))) ≡ runs_of (drop 1 ws) → k ≡ length (drop 1 ws) → schedule_of ws ≡ Some runs
ends ws runs k two so_far all =
    enough ws two ∙ sym so_far ∙ ap (onto runs) (at_drop_all runs_of (drop 1 ws) k (omega (arith, all))) ∙ ap Some (append-nil runs)
