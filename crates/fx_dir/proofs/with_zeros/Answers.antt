use Rattle.std.proofs.Common.{◌≡◌, ◌-◌, ◌++◌, List, ℕ, length, drop, replicate, ap, ◌∙◌}
use Rattle.std.proofs.lemmas.List.{drop-replicate}
use Rattle.fx_dir.proofs.with_zeros.Goals as goal

zeros_behind : (xs ys : List ℕ) → xs ≡ ys → xs ++ drop (length ys) (replicate 79 0) ≡ ys ++ replicate (79 - length ys) 0
zeros_behind xs ys e = ap (λ l. l ++ drop (length ys) (replicate 79 0)) e ∙ ap (λ l. ys ++ l) (drop-replicate (length ys) 79 0)

pub returns : goal.returns
returns c = zeros_behind _ _ c.copy_from_slice.ensures.after
