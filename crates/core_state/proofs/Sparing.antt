-- So many lists for deaths.
use Rattle.std.proofs.Common.{◌≡◌, ◌≤◌, ◌+◌, ◌++◌, ℕ, List, [], ◌∷◌, length, refl, arith}
use Rattle.std.proofs.lemmas.List.{length-append}
use Rattle.std.proofs.lemmas.List.Elements.{All-push}
use Rattle.plain_cat.specs.Spared.{Spared}
use Rattle.core_state.specs.Spare.{IsSpare, AreSpare}

-- so many lists are made so far
pub record AreMade (ls : List (Spared ℕ)) (count : ℕ) : Type 0 where
  pub spare : AreSpare ls
  pub many : length ls ≡ count

pub none_made : (ls : List (Spared ℕ)) → ls ≡ [] → AreMade ls 0
none_made ls e = rw e (record { spare = λ k d lt. absurd (omega arith); many = refl })

pub one_more : (ls new : List (Spared ℕ)) (l : Spared ℕ) (count : ℕ) → AreMade ls count → new ≡ ls ++ l ∷ [] → l.items ≡ [] → 4096 ≤ l.room → AreMade new (count + 1)
one_more ls new l count made is empty room = rw is (record {
  spare = All-push IsSpare ls l made.spare (record { empty = empty; room = room });
  many = (let a = length-append ls (l ∷ []) in let b = made.many in omega arith);
})
