-- The table: the resources that somebody asks for, in order of name. Each call makes of it the table that stands here.
use Rattle.std.specs.Prelude.{◌≡◌, ◌&&◌, not, ℕ, Bool, true, List, [], ◌∷◌, ◌++◌, Option, Some, None, ◌<◌, ◌≤◌, length, slice_index_or, map, filter, find, if◌then◌else◌, unwrap_or}
use Rattle.std.specs.List.{list_all, AllByRecursion}
use Rattle.plain_cat.specs.declared.mode.Mode.{Mode}
use Rattle.lock_db.specs.declared.name.LockName.{LockName}
use Rattle.lock_db.specs.declared.name.Owner.{Owner}
use Rattle.lock_db.specs.declared.askers.Asker.{Asker}
use Rattle.lock_db.specs.declared.resource.Resource.{Resource}
use Rattle.lock_db.specs.Names.{is_same, is_before, same_owner}
use Rattle.lock_db.specs.Queues.{held, goes_beside, one_grant}
use Rattle.lock_db.specs.Resources.{fresh, is_used, goes_at_once, converts_at_once, mode_held, asked_of, regranted, converted_of, released_of, dropped_of, recovered_of}

-- a resource of this name stands at place i
pub record IsAt (name : LockName) (t : List Resource) (i : ℕ) : Type 0 where
  pub within : i < length t
  pub named : (d : Resource) → (slice_index_or t i d).name ≡ name

-- none does, and one would go at place i, behind all earlier names and before all later ones
pub record IsGap (name : LockName) (t : List Resource) (i : ℕ) : Type 0 where
  pub within : i ≤ length t
  pub earlier : (j : ℕ) (d : Resource) → j < i → is_before (slice_index_or t j d).name name ≡ true
  pub later : (j : ℕ) (d : Resource) → i ≤ j → j < length t → is_before name (slice_index_or t j d).name ≡ true

-- the resource of a name
abbrev pub resource_at : LockName → List Resource → Resource
resource_at name t = unwrap_or (find (λ r. is_same r.name name) t) (fresh name)

-- a resource that nobody asks for vanishes
abbrev pub kept : Resource → List Resource
kept r = if is_used r then r ∷ [] else []

-- the table with this resource in the place of its name: behind all earlier names and before all later ones
abbrev pub placed : Resource → List Resource → List Resource
placed r t = filter (λ s. is_before s.name r.name) t ++ (kept r ++ filter (λ s. is_before r.name s.name) t)

-- after a request: the resource with one more asker
unfoldable pub asked : LockName → Owner → Mode → List Resource → List Resource
asked name owner mode t = placed (asked_of owner mode (resource_at name t)) t

-- after a request that does not wait: the same where it is granted at once, and otherwise no change
unfoldable pub tried : LockName → Owner → Mode → List Resource → List Resource
tried name owner mode t = if goes_at_once owner mode (resource_at name t).askers then asked name owner mode t else t

-- after a conversion
unfoldable pub converted : LockName → Owner → Mode → List ℕ → List Resource → List Resource
converted name owner mode value t = placed (converted_of owner mode value (resource_at name t)) t

-- whether a conversion is granted at once
abbrev pub converts_now : LockName → Owner → Mode → List Resource → Bool
converts_now name owner mode t =
    converts_at_once owner (mode_held owner (resource_at name t)) mode (resource_at name t).askers

-- after a conversion that does not wait: no change where it is not granted at once
unfoldable pub try_converted : LockName → Owner → Mode → List Resource → List Resource
try_converted name owner mode t =
    if converts_now name owner mode t then placed (regranted owner mode (resource_at name t)) t else t

-- after a release: a resource at which nobody is left vanishes
unfoldable pub released : LockName → Owner → List ℕ → List Resource → List Resource
released name owner value t = placed (released_of owner value (resource_at name t)) t

-- after a node's death: each resource without the node, and those at which nobody is left vanish
unfoldable pub dropped : ℕ → List Resource → List Resource
dropped node t = filter is_used (map (dropped_of node) t)

-- after a recovery of the value block of a name
unfoldable pub recovered : LockName → List ℕ → Bool → List Resource → List Resource
recovered name value valid t = placed (recovered_of value valid (resource_at name t)) t

-- what two askers hold goes together: the modes are compatible where both have a lock
abbrev pub go_together : Option Mode → Option Mode → Bool
go_together None h = true
go_together (Some m) h = goes_beside m h

-- two askers of one resource stand together: they are two owners, and what they hold goes together
abbrev pub stand_together : Asker → Asker → Bool
stand_together a b = not (same_owner a.owner b.owner) && go_together (held a.standing) (held b.standing)

-- each asker stands together with each that comes after it
abbrev pub all_together : List Asker → Bool
all_together [] = true
all_together (a ∷ rest) = list_all (stand_together a) rest && all_together rest

-- what holds of a resource's askers after each call: all stand together, and no head of a queue can be granted.
pub record IsSettled (xs : List Asker) : Type 0 where
  pub together : all_together xs ≡ true
  pub idle : one_grant xs ≡ None

-- the names are in order
abbrev pub is_ordered : List Resource → Bool
is_ordered [] = true
is_ordered (r ∷ rest) = list_all (λ s. is_before r.name s.name) rest && is_ordered rest

-- what holds of the table after each call: its names are in order, somebody asks for each resource, and each is settled.
pub record IsTable (t : List Resource) : Type 0 where
  pub ordered : is_ordered t ≡ true
  pub used : list_all is_used t ≡ true
  pub settled_all : AllByRecursion (λ r. IsSettled r.askers) t
