-- One resource's locks and requests, in one list in order of asking: the modes, the two queues and what a grant is.
use Rattle.std.specs.Prelude.{◌==◌, ◌&&◌, ◌||◌, not, nat_lt, ℕ, zero, suc, Bool, true, false, List, Option, Some, None, map, filter, find, length, if◌then◌else◌, option_map, option_and_then, unwrap_or}
use Rattle.std.specs.List.{list_all, list_any}
use Rattle.plain_cat.specs.declared.mode.Mode.{Mode}
use Rattle.plain_cat.specs.declared.mode.Mode.TheVariants.{NL, CR, CW, PR, PW, EX}
use Rattle.lock_db.specs.declared.name.Owner.{Owner}
use Rattle.lock_db.specs.declared.askers.Standing.{Standing}
use Rattle.lock_db.specs.declared.askers.Standing.TheVariants.{Granted, Converting, Waiting}
use Rattle.lock_db.specs.declared.askers.Asker.{Asker}
use Rattle.plain_cat.specs.Modes.{compatible_modes, rank}
use Rattle.lock_db.specs.Names.{same_owner}

-- upward means to a mode of a greater number
abbrev pub is_upward : Mode → Mode → Bool
is_upward old new = nat_lt (rank old) (rank new)

-- the modes whose holders write the value block
abbrev pub is_writing : Mode → Bool
is_writing NL = false
is_writing CR = false
is_writing CW = false
is_writing PR = false
is_writing PW = true
is_writing EX = true

-- the mode in which a lock is granted: a converting one keeps its old mode, and a waiting request has none
abbrev pub held : Standing → Option Mode
held (Granted m) = Some m
held (Converting old new) = Some old
held (Waiting m) = None

-- the mode that is asked for
abbrev pub wanted : Standing → Mode
wanted (Granted m) = m
wanted (Converting old new) = new
wanted (Waiting m) = m

-- a lock whose conversion stands in the conversion queue
abbrev pub converts : Standing → Bool
converts (Granted m) = false
converts (Converting old new) = true
converts (Waiting m) = false

-- a request that stands in the waiting queue
abbrev pub waits : Standing → Bool
waits (Granted m) = false
waits (Converting old new) = false
waits (Waiting m) = true

-- the same of an asker
abbrev pub is_converting : Asker → Bool
is_converting a = converts a.standing

-- likewise
abbrev pub is_waiting : Asker → Bool
is_waiting a = waits a.standing

-- a mode goes with what another owner holds
abbrev pub goes_beside : Mode → Option Mode → Bool
goes_beside m None = true
goes_beside m (Some h) = compatible_modes m h

-- a mode for this owner goes with the granted locks of all others
abbrev pub goes : Owner → Mode → List Asker → Bool
goes owner m xs = list_all (λ a. same_owner a.owner owner || goes_beside m (held a.standing)) xs

-- the first, and where there is none, the second
abbrev pub or_else : {A : Type 0} → Option A → Option A → Option A
or_else None b = b
or_else (Some a) b = Some a

-- who is served next: the first conversion, and where there is none, the first waiting request
abbrev pub head_of : List Asker → Option Asker
head_of xs = or_else (find is_converting xs) (find is_waiting xs)

-- an asker that stands so now, where it is this owner
abbrev pub standing_so : Owner → Standing → Asker → Asker
standing_so owner s a = if same_owner a.owner owner then record a { standing = s } else a

-- the list in which this owner stands so
abbrev pub with_standing : Owner → Standing → List Asker → List Asker
with_standing owner s xs = map (standing_so owner s) xs

-- the list without this owner
abbrev pub without : Owner → List Asker → List Asker
without owner xs = filter (λ a. not (same_owner a.owner owner)) xs

-- the list without the owners of a node
abbrev pub without_node : ℕ → List Asker → List Asker
without_node node xs = filter (λ a. not (a.owner.node == node)) xs

-- an asker is granted what it wants, where that goes with the granted locks of the others
abbrev pub grant_to : List Asker → Asker → Option (List Asker)
grant_to xs a =
    if goes a.owner (wanted a.standing) xs
    then Some (with_standing a.owner (Granted (wanted a.standing)) xs)
    else None

-- the list after the grant to who is served next, where that grant can be made
abbrev pub one_grant : List Asker → Option (List Asker)
one_grant xs = option_and_then (grant_to xs) (head_of xs)

-- heads are granted while they can be, at most k
unfoldable pub granted_upto : ℕ → List Asker → List Asker
granted_upto zero xs = xs
granted_upto (suc k) xs = unwrap_or (option_map (granted_upto k) (one_grant xs)) xs

-- the list after all grants that can be made; as many as there are askers suffice
abbrev pub settled : List Asker → List Asker
settled xs = granted_upto (length xs) xs

-- how an owner stands, where it has a lock or a request
abbrev pub standing_of : Owner → List Asker → Option Standing
standing_of owner xs = option_map (λ a. a.standing) (find (λ a. same_owner a.owner owner) xs)

-- the mode in which an owner has a lock
abbrev pub mode_of : Owner → List Asker → Option Mode
mode_of owner xs = option_and_then held (standing_of owner xs)

-- the mode of a lock of which no conversion is queued
abbrev pub settled_mode : Standing → Option Mode
settled_mode (Granted m) = Some m
settled_mode (Converting old new) = None
settled_mode (Waiting m) = None

-- the mode of an owner's lock, where it has one of which no conversion is queued
abbrev pub lock_of : Owner → List Asker → Option Mode
lock_of owner xs = option_and_then settled_mode (standing_of owner xs)

-- a request or a conversion stands in its queue
abbrev pub is_queued : Standing → Bool
is_queued s = converts s || waits s

-- whether an owner waits
abbrev pub queues : Owner → List Asker → Bool
queues owner xs = unwrap_or (option_map is_queued (standing_of owner xs)) false

-- an owner's lock does not go with what another node waits for
abbrev pub holds_up : Owner → List Asker → Bool
holds_up owner xs = list_any (λ a. is_queued a.standing && (not (a.owner.node == owner.node) && not (goes_beside (wanted a.standing) (mode_of owner xs)))) xs
