-- Owners, and the lists from which one is taken.
use Rattle.std.proofs.Common.{◌≡◌, ◌<◌, ◌≤◌, true, not, List, [], ◌∷◌, IsSome, length, arith, Bool, Option, Some, ◌⊎◌}
use Rattle.std.proofs.lemmas.List.Sums.{length-filter, count_by-le-length}
use Rattle.lock_db.specs.declared.name.Owner.{Owner}
use Rattle.lock_db.specs.declared.askers.Asker.{Asker}
use Rattle.lock_db.specs.Names.{same_owner}
use Rattle.lock_db.specs.Queues.{without, standing_of, is_queued, wanted}
use Rattle.lock_db.specs.declared.askers.Standing.TheVariants.{Granted}
use Rattle.lock_db.specs.declared.askers.Standing.{Standing}

pub same_owner-refl : (a : Owner) → same_owner a a ≡ true
same_owner-refl a = grind arith

pub same_owner-same : (a b : Owner) → same_owner a b ≡ true → a ≡ b
same_owner-same a b e = grind arith

pub length-without_le : (owner : Owner) (xs : List Asker) → length (without owner xs) ≤ length xs
length-without_le owner xs = omega (arith, length-filter (λ (a : Asker). not (same_owner a.owner owner)) xs, count_by-le-length (λ (a : Asker). not (same_owner a.owner owner)) xs)

-- a list has room for one more once an owner is taken out
pub length-without : (owner : Owner) (xs : List Asker) → IsSome (standing_of owner xs) → length (without owner xs) < length xs
length-without owner [] e = cc
length-without owner (a ∷ xs) e =
    let le = length-without_le owner xs in
    let t = length-without owner xs in
    grind arith

-- the asker of an owner
abbrev pub owned : Owner → Asker → Bool
owned owner a = same_owner a.owner owner

-- what a call may make of the standing of another owner: nothing, or a lock in the mode that it waits for
abbrev pub Served : Option Standing → Option Standing → Type 0
Served before after = (after ≡ before) ⊎ ((s : Standing) × (before ≡ Some s) × (is_queued s ≡ true) × (after ≡ Some (Granted (wanted s))))
