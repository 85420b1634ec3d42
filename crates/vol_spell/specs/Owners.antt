-- The owners of a volume's clusters and file numbers, and what nodes hold outside files and bitmaps.
use Rattle.std.specs.Prelude.{◌≡◌, ◌⊎◌, ◌↔◌, ◌++◌, ℕ, List, [], Option, Some, None, length, slice_get}
use Rattle.vol_spell.specs.declared.owner.Owner.{Owner}
use Rattle.vol_spell.specs.declared.owner.Owner.TheVariants.{Free, InFile, Outside, Leaked}
use Rattle.base_words.specs.Lists.{Has, Once}

-- the owner of each cluster, from cluster 0 on, and of each file number, from number 1 on
pub record Owners : Type 0 where
  pub clusters : List Owner
  pub numbers : List Owner

-- owners change among those that P allows, and no others
pub record Moves (P : Option Owner → Type 0) (xs ys : List Owner) : Type 0 where
  pub count : length ys ≡ length xs
  pub each : (q : ℕ) → (slice_get ys q ≡ slice_get xs q) ⊎ (P (slice_get xs q) × P (slice_get ys q))

-- both the owners of clusters and those of numbers move so
pub record OwnersMove (P : Option Owner → Type 0) (own new : Owners) : Type 0 where
  pub clusters : Moves P own.clusters new.clusters
  pub numbers : Moves P own.numbers new.numbers

-- what a write of file i's header by node n may move: what is in this file, or outside at this node
abbrev pub IsFileMove : ℕ → ℕ → Option Owner → Type 0
IsFileMove n i None = ⊥
IsFileMove n i (Some Free) = ⊥
IsFileMove n i (Some (InFile j)) = j ≡ i
IsFileMove n i (Some (Outside m)) = m ≡ n
IsFileMove n i (Some Leaked) = ⊥

-- what a write of a bitmap by node n may move: what is free, or outside at this node
abbrev pub IsSpaceMove : ℕ → Option Owner → Type 0
IsSpaceMove n None = ⊥
IsSpaceMove n (Some Free) = Unit {0}
IsSpaceMove n (Some (InFile i)) = ⊥
IsSpaceMove n (Some (Outside m)) = m ≡ n
IsSpaceMove n (Some Leaked) = ⊥

-- what the death of node n may move: what is outside at this node, or leaked
abbrev pub IsDeathMove : ℕ → Option Owner → Type 0
IsDeathMove n None = ⊥
IsDeathMove n (Some Free) = ⊥
IsDeathMove n (Some (InFile i)) = ⊥
IsDeathMove n (Some (Outside m)) = m ≡ n
IsDeathMove n (Some Leaked) = Unit {0}

-- some clusters and some file numbers, each by its place among the owners, so that a number stands as one less
pub record Things : Type 0 where
  pub clusters : List ℕ
  pub numbers : List ℕ

-- no cluster and no number
abbrev pub nothing : Things
nothing = record { clusters = []; numbers = [] }

-- what is outside at node n is what its command took and its stock, and nothing is there twice
pub record AreOut (n : ℕ) (xs : List Owner) (took stock : List ℕ) : Type 0 where
  pub all : (q : ℕ) → (slice_get xs q ≡ Some (Outside n)) ↔ (Has took q ⊎ Has stock q)
  pub once : Once (took ++ stock)

-- the same of clusters and of numbers
pub record Outs (n : ℕ) (own : Owners) (took stock : Things) : Type 0 where
  pub clusters : AreOut n own.clusters took.clusters stock.clusters
  pub numbers : AreOut n own.numbers took.numbers stock.numbers
