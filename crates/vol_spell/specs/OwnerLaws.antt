-- Laws of owners that move.
use Rattle.std.specs.Prelude.{◌≡◌, ◌≢◌, ◌↔◌, ◌++◌, ℕ, List, [], Option, Some, slice_get}
use Rattle.vol_spell.specs.declared.owner.Owner.{Owner}
use Rattle.vol_spell.specs.declared.owner.Owner.TheVariants.{Free, InFile, Outside, Leaked}
use Rattle.base_words.specs.Lists.{Once, Parts}
use Rattle.vol_spell.specs.Owners.{Owners, Moves, OwnersMove, AreOut}
use Rattle.vol_spell.specs.Hands.{handed, AreOf, AreHanded}

-- an owner that P does not allow has what it had
abbrev pub OwnerStays : (Option Owner → Type 0) → Type 0
OwnerStays P = (xs ys : List Owner) (o : Option Owner) → Moves P xs ys → (P o → ⊥) → (q : ℕ) → (slice_get ys q ≡ o) ↔ (slice_get xs q ≡ o)

-- two moves in a row are one, and none is one
pub record MovesCompose (P : Option Owner → Type 0) : Type 0 where
  pub still : (own : Owners) → OwnersMove P own own
  pub chain : (own mid new : Owners) → OwnersMove P own mid → OwnersMove P mid new → OwnersMove P own new

-- a move that P allows is one that any wider R allows
abbrev pub MovesGrow : (P R : Option Owner → Type 0) → Type 0
MovesGrow P R = ((o : Option Owner) → P o → R o) → (own new : Owners) → OwnersMove P own new → OwnersMove R own new

-- what was handed over from one owner to another is all that changed hands
abbrev pub HandsOver : Type 0
HandsOver = (qs : List ℕ) (a o : Owner) (xs : List Owner) → o ≢ a → AreOf qs a xs → AreHanded qs a o xs (handed qs o xs)

-- handing over is a move between the two owners
abbrev pub HandingMoves : (Option Owner → Type 0) → Type 0
HandingMoves P = (qs : List ℕ) (a o : Owner) (xs : List Owner) → P (Some a) → P (Some o) → AreOf qs a xs → Moves P xs (handed qs o xs)

-- a move that leaves a node's things leaves what it holds
abbrev pub OutStays : (Option Owner → Type 0) → Type 0
OutStays P = (m : ℕ) (xs ys : List Owner) (took stock : List ℕ) → Moves P xs ys → (P (Some (Outside m)) → ⊥) → AreOut m xs took stock → AreOut m ys took stock

-- what a command took and the stock may change places
abbrev pub OutSwaps : Type 0
OutSwaps = (n : ℕ) (xs : List Owner) (took stock : List ℕ) → AreOut n xs took stock → AreOut n xs stock took

-- things of the stock may be what the command took, and the other way round
abbrev pub OutRegroups : Type 0
OutRegroups = (n : ℕ) (xs : List Owner) (took some stock : List ℕ) → AreOut n xs took (some ++ stock) ↔ AreOut n xs (took ++ some) stock

-- what a command took goes into a file, and the stock is left outside
abbrev pub OutsideToFile : Type 0
OutsideToFile = (n i : ℕ) (qs stock : List ℕ) (xs : List Owner) → AreOut n xs qs stock → AreOut n (handed qs (InFile i) xs) [] stock

-- things of a file go outside, and count to what the command took
abbrev pub FileToOutside : Type 0
FileToOutside = (n i : ℕ) (qs took stock : List ℕ) (xs : List Owner) → Once qs → AreOf qs (InFile i) xs → AreOut n xs took stock → AreOut n (handed qs (Outside n) xs) (took ++ qs) stock

-- a part of what a command took becomes free, and the rest stays outside
abbrev pub OutsideToFree : Type 0
OutsideToFree = (n : ℕ) (qs rest took stock : List ℕ) (xs : List Owner) → Parts took qs rest → Once rest → AreOut n xs took stock → AreOut n (handed qs Free xs) rest stock

-- free things go outside, and count to the stock
abbrev pub FreeToStock : Type 0
FreeToStock = (n : ℕ) (qs took stock : List ℕ) (xs : List Owner) → Once qs → AreOf qs Free xs → AreOut n xs took stock → AreOut n (handed qs (Outside n) xs) took (stock ++ qs)

-- all that a node held leaks, and nothing of it is left outside
abbrev pub OutsideToLeaked : Type 0
OutsideToLeaked = (n : ℕ) (took stock : List ℕ) (xs : List Owner) → AreOut n xs took stock → AreOut n (handed (took ++ stock) Leaked xs) [] []
