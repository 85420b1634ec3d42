-- A stock of free clusters and file numbers.
use Rattle.std.specs.Prelude.{◌≡◌, ◌+◌, ◌-◌, ◌/◌, ◌≤◌, ◌<◌, ◌==◌, ◌&&◌, ◌++◌, nat_le, nat_lt, not, false, ℕ, Bool, List, [], ◌∷◌, All, filter, length, take, drop, Option, Some, None, if◌then◌else◌}
use Rattle.std.specs.List.{range_with_len, list_any}
use Rattle.std.specs.List.Sorted.{IsStrictlyIncreasing}

-- the clusters and the file numbers that are held, and how many more of each go in without taking memory
pub record Stock : Type 0 where
  pub clusters : List ℕ
  pub numbers : List ℕ
  pub cluster_room : ℕ
  pub number_room : ℕ

-- numbers that rise, none twice, from a lowest one to below a limit
pub record RisesWithin (low limit : ℕ) (xs : List ℕ) : Type 0 where
  pub rises : IsStrictlyIncreasing xs
  pub within : All (λ x. (low ≤ x) × (x < limit)) xs

-- what every stock is: clusters below 65,536 and file numbers from 1 to 4,096, both rising
pub record IsStock (s : Stock) : Type 0 where
  pub clusters : RisesWithin 0 65536 s.clusters
  pub numbers : RisesWithin 1 4097 s.numbers

-- x is one of the n from a first one on
abbrev pub is_among : ℕ → ℕ → ℕ → Bool
is_among from n x = nat_le from x && nat_lt x (from + n)

-- none of the n from a first one on is held
abbrev pub AreNew : ℕ → ℕ → List ℕ → Type 0
AreNew from n held = All (λ x. is_among from n x ≡ false) held

-- with the n from a first one on in their place: behind those below, and before those above
abbrev pub put_in : ℕ → ℕ → List ℕ → List ℕ
put_in from n held = filter (λ x. nat_lt x from) held ++ (range_with_len from n ++ filter (λ x. nat_le from x) held)

-- whether a list holds a number
abbrev pub holds : ℕ → List ℕ → Bool
holds x xs = list_any (λ y. x == y) xs

-- with one more number in its place, if it was not held
abbrev pub with_one : ℕ → List ℕ → List ℕ
with_one x held = if holds x held then held else put_in x 1 held

-- with each of these numbers
abbrev pub merged : List ℕ → List ℕ → List ℕ
merged [] held = held
merged (x ∷ xs) held = merged xs (with_one x held)

-- those below a number stand before this place of a list, and the others from there on
pub record IsPlace (from : ℕ) (xs : List ℕ) (place : ℕ) : Type 0 where
  pub within : place ≤ length xs
  pub below : filter (λ x. nat_lt x from) xs ≡ take place xs
  pub above : filter (λ x. nat_le from x) xs ≡ drop place xs

-- the stock with n clusters more, which use up spare room
abbrev pub with_clusters : ℕ → ℕ → Stock → Stock
with_clusters from n s = record s { clusters = put_in from n s.clusters; cluster_room = s.cluster_room - n }

-- the stock with a file number more, which uses up spare room
abbrev pub with_number : ℕ → Stock → Stock
with_number n s = record s { numbers = put_in n 1 s.numbers; number_room = s.number_room - 1 }

-- no spare room was lost
pub record KeepsRoom (old new : Stock) : Type 0 where
  pub clusters : old.cluster_room ≤ new.cluster_room
  pub numbers : old.number_room ≤ new.number_room

-- the stock holds these clusters and file numbers now, and no spare room was lost
pub record Holds (cs ns : List ℕ) (old new : Stock) : Type 0 where
  pub clusters : new.clusters ≡ cs
  pub numbers : new.numbers ≡ ns
  pub room : KeepsRoom old new

-- a storage bitmap block covers 4,096 clusters
abbrev pub is_covered : ℕ → ℕ → Bool
is_covered block c = c / 4096 == block

-- the clusters that stay where the clusters of one storage bitmap block go; all, where the file numbers go
abbrev pub clusters_kept : Option ℕ → List ℕ → List ℕ
clusters_kept None cs = cs
clusters_kept (Some block) cs = filter (λ c. not (is_covered block c)) cs

-- the file numbers that stay: all, where the clusters of a storage bitmap block go
abbrev pub numbers_kept : Option ℕ → List ℕ → List ℕ
numbers_kept None ns = []
numbers_kept (Some block) ns = ns
