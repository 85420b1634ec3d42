-- How many things an owner has.
use Rattle.std.specs.Prelude.{◌≡◌, ◌==◌, ◌+◌, ◌++◌, ◌↔◌, ℕ, Bool, true, false, List, Some, length, count_by, slice_get, if◌then◌else◌}
use Rattle.vol_spell.specs.declared.owner.Owner.{Owner}
use Rattle.vol_spell.specs.declared.owner.Owner.TheVariants.{Free, InFile, Outside, Leaked}
use Rattle.base_words.specs.Lists.{Has, Once}
use Rattle.vol_spell.specs.Owners.{AreOut}
use Rattle.vol_spell.specs.Hands.{handed, AreOf}

-- whether two owners are the same
unfoldable pub is_same_owner : Owner → Owner → Bool
is_same_owner Free Free = true
is_same_owner (InFile i) (InFile j) = i == j
is_same_owner (Outside n) (Outside m) = n == m
is_same_owner Leaked Leaked = true
is_same_owner _ _ = false

-- each thing that is handed over counts with its new owner, and no longer with its old one
abbrev pub HandingCounts : Type 0
HandingCounts = (p : Owner → Bool) (qs : List ℕ) (a o : Owner) (xs : List Owner) → Once qs → AreOf qs a xs
    → count_by p (handed qs o xs) + (if p a then length qs else 0) ≡ count_by p xs + (if p o then length qs else 0)

-- an owner has as many things as a list has that names each of them once
abbrev pub CountsList : Type 0
CountsList = (a : Owner) (qs : List ℕ) (xs : List Owner) → Once qs → ((q : ℕ) → Has qs q ↔ (slice_get xs q ≡ Some a)) → count_by (is_same_owner a) xs ≡ length qs

-- a node has as many things outside as its command took and its stock has
abbrev pub OutCounts : Type 0
OutCounts = (n : ℕ) (took stock : List ℕ) (xs : List Owner) → AreOut n xs took stock → count_by (is_same_owner (Outside n)) xs ≡ length (took ++ stock)
