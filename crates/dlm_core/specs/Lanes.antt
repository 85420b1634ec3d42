-- What holds of the state after every list of events. A lane is all that stands of one owner and one name: how the owner stands in
-- the table of the name's master, its calls that are on their way there, the grants that are on their way back, what of it waits at the
-- master, and what it believes.
use Rattle.std.specs.Prelude.{◌≡◌, ◌≢◌, ◌==◌, ◌&&◌, not, ℕ, ◌≤◌, Bool, true, false, List, [], ◌∷◌, ◌++◌, Option, Some, None, filter, map, if◌then◌else◌, is_some, length, IsTrue, option_and_then}
use Rattle.std.specs.List.{list_all, list_any}
use Rattle.plain_cat.specs.declared.mode.Mode.{Mode}
use Rattle.plain_cat.specs.Modes.{compatible_modes}
use Rattle.lock_db.specs.declared.name.LockName.{LockName}
use Rattle.lock_db.specs.declared.name.Owner.{Owner}
use Rattle.lock_db.specs.declared.askers.Standing.{Standing}
use Rattle.lock_db.specs.declared.askers.Standing.TheVariants.{Granted, Converting, Waiting}
use Rattle.lock_db.specs.Names.{is_same, same_owner}
use Rattle.lock_db.specs.Queues.{standing_of}
use Rattle.lock_db.specs.Tables.{IsTable}
use Rattle.dlm_core.specs.declared.messages.Letter.{Letter}
use Rattle.dlm_core.specs.declared.messages.Letter.TheVariants.{Ask, Drop, Grant, Claim}
use Rattle.dlm_core.specs.declared.messages.Message.{Message}
use Rattle.dlm_core.specs.declared.holds.Hold.{Hold}
use Rattle.dlm_core.specs.declared.queue.Waiter.{Waiter}
use Rattle.dlm_core.specs.Modes.{is_lowering, lowers, crosses}
use Rattle.dlm_core.specs.Steps.{stands_as, is_grant, is_call}
use Rattle.dlm_core.specs.States.{State, master, recovery, home_at, table_at, told_at, is_at, hold_at}

-- a message about this owner's lock on this name
abbrev pub is_about : Owner → LockName → Message → Bool
is_about owner name m = same_owner m.owner owner && is_same m.name name

-- a grant, or an ask or a drop
abbrev pub has_kind : Bool → Letter → Bool
has_kind true l = is_grant l
has_kind false l = is_call l

-- such a message about this owner's lock on this name
abbrev pub is_kind : Bool → Owner → LockName → Message → Bool
is_kind grant owner name m = has_kind grant m.letter && is_about owner name m

-- the letters about this owner and name that are on their way: the calls, or the grants
abbrev pub letters_of : Bool → Owner → LockName → List Message → List Letter
letters_of grant owner name ms = map (λ m. m.letter) (filter (is_kind grant owner name) ms)

-- the ask of this owner on this name that waits
abbrev pub is_of : Owner → LockName → Waiter → Bool
is_of owner name w = same_owner w.owner owner && is_same w.name name

abbrev pub waiters_of : Owner → LockName → List Waiter → List Waiter
waiters_of owner name q = filter (is_of owner name) q

-- an ask that is queued: the lock that is there is kept
abbrev pub queued_as : Option Mode → Mode → Standing
queued_as None w = Waiting w
queued_as (Some m) w = Converting m w

-- what a call makes of a lock: of asks, only one that lowers it
abbrev pub lowered_one : Option Mode → Letter → Option (Option Mode)
lowered_one None l = None
lowered_one (Some m) (Ask w) = if is_lowering m w then Some (Some w) else None
lowered_one (Some m) Drop = Some None
lowered_one (Some m) (Grant w v) = None
lowered_one (Some m) (Claim d) = None

-- what calls make of a lock, one after the other
abbrev pub lowered : Option Mode → List Letter → Option (Option Mode)
lowered t [] = Some t
lowered t (l ∷ ls) = option_and_then (λ u. lowered u ls) (lowered_one t l)

-- the ask that is waited for
abbrev pub last_ask : Option Mode → List Letter
last_ask None = []
last_ask (Some w) = Ask w ∷ []

-- what is waited for is neither a lowering nor between CW and PR
abbrev pub raises : Option Mode → Mode → Bool
raises belief w = not (crosses belief w) && not (lowers belief w)

abbrev pub MayWait : Option Mode → Option Mode → Type 0
MayWait belief None = Unit {0}
MayWait belief (Some w) = IsTrue (raises belief w)

-- the grants that are on their way are one, of this mode
abbrev pub IsGrantOf : Mode → List Letter → Type 0
IsGrantOf w [] = ⊥
IsGrantOf w (Ask m ∷ ls) = ⊥
IsGrantOf w (Drop ∷ ls) = ⊥
IsGrantOf w (Grant m v ∷ ls) = (m ≡ w) × (ls ≡ [])
IsGrantOf w (Claim d ∷ ls) = ⊥

-- The lane of an owner and a name.
pub data IsLane (owner : Owner) (name : LockName) (standing : Option Standing) (calls grants : List Letter) (queued : List Waiter) (belief wait : Option Mode) : Type 0 where
  -- No grant is on its way and nothing waits at the master. The calls lower the lock that the table has to what is believed, and then
  -- ask for what is waited for.
  Sends : (lock : Option Mode) (before : List Letter) → standing ≡ stands_as lock → grants ≡ [] → queued ≡ []
      → calls ≡ before ++ last_ask wait → lowered lock before ≡ Some belief → MayWait belief wait → IsLane owner name standing calls grants queued belief wait
  -- The ask stands in a queue at the master, and the table has what is believed.
  Stands : (w : Mode) → wait ≡ Some w → standing ≡ Some (queued_as belief w) → calls ≡ [] → grants ≡ []
      → queued ≡ record { owner = owner; name = name; mode = w; converts = is_some belief } ∷ [] → IsTrue (raises belief w) → IsLane owner name standing calls grants queued belief wait
  -- The table has granted it, and the grant is on its way.
  Comes : (w : Mode) → wait ≡ Some w → standing ≡ Some (Granted w) → calls ≡ [] → IsGrantOf w grants
      → queued ≡ [] → IsTrue (raises belief w) → IsLane owner name standing calls grants queued belief wait

-- how an owner stands at a name
abbrev pub standing_at : Owner → LockName → State → Option Standing
standing_at owner name s = standing_of owner (told_at name s).askers

-- While a name is being recovered, no table has anything of it, no grant on it is on its way, and nobody waits for it at its master.
-- What its owner has claimed takes the place of the table. A claimed ask is as good as sent again, and what is kept back comes
-- behind it.
pub record IsClaimed (owner : Owner) (name : LockName) (claim : Hold) (kept calls grants : List Letter) (queued : List Waiter) (belief wait : Option Mode) : Type 0 where
  pub lane : IsLane owner name (stands_as claim.belief) (last_ask claim.wait ++ (kept ++ calls)) [] [] belief wait
  pub no_grants : grants ≡ []
  pub no_waiters : queued ≡ []

-- the lane as it stands in a state, by whether its name is being recovered
abbrev pub LaneOf : Option ℕ → Owner → LockName → State → Type 0
LaneOf None owner name s =
    IsLane owner name (standing_at owner name s) (letters_of false owner name s.mail) (letters_of true owner name s.mail)
    (waiters_of owner name s.queue) (hold_at owner name s.holds).belief (hold_at owner name s.holds).wait
LaneOf (Some dead) owner name s =
    IsClaimed owner name (hold_at owner name s.claims) (letters_of false owner name s.kept) (letters_of false owner name s.mail) (letters_of true owner name s.mail)
    (waiters_of owner name s.queue) (hold_at owner name s.holds).belief (hold_at owner name s.holds).wait

abbrev pub LaneAt : Owner → LockName → State → Type 0
LaneAt owner name s = LaneOf (recovery name s) owner name s

-- a call is on its way from its owner to the master of its name, and a grant the other way
abbrev pub goes_between : Letter → ℕ → Message → Bool
goes_between (Ask w) at m = (m.from == m.owner.node) && (m.to == at)
goes_between Drop at m = (m.from == m.owner.node) && (m.to == at)
goes_between (Grant w v) at m = (m.from == at) && (m.to == m.owner.node)
goes_between (Claim d) at m = true

abbrev pub is_addressed : State → Message → Bool
is_addressed s m = goes_between m.letter (master m.name s) m

-- a call that is kept back
abbrev pub is_kept : State → Message → Bool
is_kept s m = is_call m.letter && is_addressed s m

-- at most one belief of an owner stands for a name
abbrev pub each_once : List Hold → Bool
each_once [] = true
each_once (h ∷ hs) = not (list_any (is_at h.owner h.name) hs) && each_once hs

-- what any two owners believe of one name goes together
abbrev pub GoTogether : List Hold → Type 0
GoTogether hs =
    (a b : Owner) (name : LockName) (m n : Mode) → a ≢ b
    → (hold_at a name hs).belief ≡ Some m → (hold_at b name hs).belief ≡ Some n → IsTrue (compatible_modes m n)

-- what holds of the state at all times
pub record IsSound (s : State) : Type 0 where
  pub some_node : 1 ≤ s.nodes
  pub each_has_one : length s.tables ≡ s.nodes
  pub each_has_master : length s.homes ≡ s.nodes
  pub tables_are : (node : ℕ) → IsTable (table_at node s.tables)
  pub lost : (node : ℕ) → IsTrue (is_some (home_at node s.homes).recovers) → table_at node s.tables ≡ []
  pub addressed : list_all (is_addressed s) s.mail ≡ true
  pub kept_back : list_all (is_kept s) s.kept ≡ true
  pub once : each_once s.holds ≡ true
  pub claimed_once : each_once s.claims ≡ true
  pub claimed_together : GoTogether s.claims
  pub lanes : (owner : Owner) (name : LockName) → LaneAt owner name s

-- what two owners believe of one name goes together
abbrev pub BeliefsGoTogether : State → Type 0
BeliefsGoTogether s =
    (a b : Owner) (name : LockName) (m n : Mode) → a ≢ b
    → (hold_at a name s.holds).belief ≡ Some m → (hold_at b name s.holds).belief ≡ Some n → IsTrue (compatible_modes m n)
