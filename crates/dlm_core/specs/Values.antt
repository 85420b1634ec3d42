-- What the holders of a name may read of its value block, over lists of events and deaths.
use Rattle.std.specs.Prelude.{◌≡◌, ◌≤◌, ◌&&◌, ◌||◌, not, ℕ, Bool, true, false, List, [], ◌∷◌, Option, Some, None, Contains, is_some, if◌then◌else◌, replicate}
use Rattle.plain_cat.specs.declared.mode.Mode.{Mode}
use Rattle.lock_db.specs.declared.name.LockName.{LockName}
use Rattle.lock_db.specs.declared.name.Owner.{Owner}
use Rattle.lock_db.specs.Names.{is_same}
use Rattle.lock_db.specs.Resources.{is_used}
use Rattle.dlm_core.specs.declared.messages.Letter.{Letter}
use Rattle.dlm_core.specs.declared.messages.Letter.TheVariants.{Ask, Drop}
use Rattle.dlm_core.specs.declared.holds.Hold.{Hold}
use Rattle.dlm_core.specs.declared.events.Event.{Event}
use Rattle.dlm_core.specs.declared.events.Event.TheVariants as event
use Rattle.dlm_core.specs.declared.events.Told.TheVariants as told
use Rattle.dlm_core.specs.declared.rules.BlockRule.TheVariants.{OfHolders}
use Rattle.dlm_core.specs.Modes.{writes}
use Rattle.dlm_core.specs.States.{State, lives, recovery, told_at, hold_at, start}
use Rattle.dlm_core.specs.Recoveries.{is_strong}
use Rattle.dlm_core.specs.Restored.{has_lock}
use Rattle.dlm_core.specs.Deaths.{was_master}
use Rattle.dlm_core.specs.Events.{after, told_of}
use Rattle.dlm_core.specs.Runs.{after_all}

-- an owner that believes PW or EX and does not wait writes by such a call
abbrev pub call_writes : Hold → Letter → Bool
call_writes h l = not (is_some h.wait) && writes h.belief l

abbrev pub bytes_if : Bool → ℕ → Option (List ℕ)
bytes_if b fill = if b then Some (replicate 16 fill) else None

-- what an event writes under a name, if it does
abbrev pub write_of : Event → LockName → State → Option (List ℕ)
write_of (event.Ask owner name mode fill) x s = bytes_if (is_same name x && (lives owner.node s && call_writes (hold_at owner name s.holds) (Ask mode))) fill
write_of (event.Drop owner name fill) x s = bytes_if (is_same name x && (lives owner.node s && call_writes (hold_at owner name s.holds) Drop)) fill
write_of (event.Pass from to) x s = None
write_of (event.Kill node) x s = None

-- nobody has a lock or a request on a name at its master
abbrev pub is_gone : LockName → State → Bool
is_gone x s = not (is_some (recovery x s)) && not (is_used (told_at x s))

-- the death of its master
abbrev pub loses_master : Event → LockName → State → Bool
loses_master (event.Ask owner name mode fill) x s = false
loses_master (event.Drop owner name fill) x s = false
loses_master (event.Pass from to) x s = false
loses_master (event.Kill node) x s = lives node s && was_master node s x

-- A name was being recovered before an event, or loses its master by it, and then nobody believes a lock on it.
abbrev pub may_be_gone : Event → LockName → State → State → Bool
may_be_gone e x before now = (is_some (recovery x before) || loses_master e x before) && not (has_lock x now.holds)

-- What may be read after an event: the bytes that it writes, or what could be read before. Once nobody has a lock or a request on a
-- name it begins again, with zeros. That may also be while it is recovered, when nobody believes a lock on it.
abbrev pub read_after : Option (List ℕ) → Bool → Bool → List (List ℕ) → List (List ℕ)
read_after (Some v) gone may old = v ∷ []
read_after None gone may old = if gone then replicate 16 0 ∷ [] else if may then replicate 16 0 ∷ old else old

-- what may be read of a name after a list of events: its last write, and zeros if it may have begun again since
abbrev pub readable : LockName → State → List Event → List (List ℕ) → List (List ℕ)
readable x s [] vs = vs
readable x s (e ∷ es) vs = readable x (after e s) es (read_after (write_of e x s) (is_gone x (after e s)) (may_be_gone e x s (after e s)) vs)

-- The same from the start, where every name has zeros.
abbrev pub readable_of : LockName → ℕ → List Event → List (List ℕ)
readable_of x nodes es = readable x (start OfHolders nodes) es (replicate 16 0 ∷ [])

-- Who gets a lock above CR reads what was written last, if the block is valid. So has every holder in such a mode.
pub record HoldersHaveTheLastWrite : Type 0 where
  pub reads : (nodes : ℕ) (es : List Event) (e : Event) (owner : Owner) (name : LockName) (mode : Mode) (value : List ℕ) → 1 ≤ nodes → is_strong (Some mode) ≡ true
      → told_of e (after_all (start OfHolders nodes) es) ≡ told.Granted owner name mode value true → Contains (readable_of name nodes es) value
  pub holds : (nodes : ℕ) (es : List Event) (owner : Owner) (name : LockName) → 1 ≤ nodes → is_strong (hold_at owner name (after_all (start OfHolders nodes) es).holds).belief ≡ true
      → (hold_at owner name (after_all (start OfHolders nodes) es).holds).seen.valid ≡ true → Contains (readable_of name nodes es) (hold_at owner name (after_all (start OfHolders nodes) es).holds).seen.value
