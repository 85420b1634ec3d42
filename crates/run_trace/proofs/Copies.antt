-- What was read of a copy in memory.
use Rattle.std.proofs.Common.{◌≡◌, ◌≤◌, ◌<◌, ◌+◌, ℕ, List, [], ◌∷◌, ◌++◌, length, get_or, sym, ap, ◌∙◌, append_assoc, append-nil}
use Rattle.std.specs.Prelude.{slice_range}
use Rattle.std.proofs.lemmas.List.Edits.{between_none, between_more}
use Rattle.base_words.specs.Fields.{Block}

-- the blocks from `lbn` to `at` are appended, and those of the copy stay
pub record HasRead (bs bs' : List Block) (lbn at : ℕ) (old all : List Block) (len len' capacity capacity' : ℕ) : Type 0 where
  pub items : all ≡ old ++ slice_range bs lbn at
  pub count : len' + lbn ≡ len + at
  pub room : capacity' ≡ capacity
  pub same : bs' ≡ bs

pub read-none : (bs : List Block) (lbn : ℕ) (old : List Block) → old ≡ old ++ slice_range bs lbn lbn
read-none bs lbn old = sym (ap (λ xs. old ++ xs) (between_none bs lbn) ∙ append-nil old)

-- one block more is read
pub read-more : (bs cs : List Block) (lbn at : ℕ) (old all new : List Block) (b : Block) → lbn ≤ at → at < length bs → all ≡ old ++ slice_range bs lbn at
    → cs ≡ bs → b ≡ get_or cs at b → new ≡ all ++ b ∷ [] → new ≡ old ++ slice_range bs lbn (at + 1)
read-more bs cs lbn at old all new b low within h same e pushed =
    let here : get_or bs at b ≡ b = sym (e ∙ ap (λ xs. get_or xs at b) same) in
    let step : slice_range bs lbn (at + 1) ≡ slice_range bs lbn at ++ b ∷ [] =
    between_more bs lbn at b low within ∙ ap (λ x. slice_range bs lbn at ++ x ∷ []) here in
    pushed ∙ ap (λ xs. xs ++ b ∷ []) h ∙ append_assoc old (slice_range bs lbn at) (b ∷ []) ∙ sym (ap (λ xs. old ++ xs) step)
