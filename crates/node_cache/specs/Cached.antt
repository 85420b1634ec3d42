-- A node's cache, as a list of entries in order of use, the one that was used last in front.
use Rattle.std.specs.Prelude.{◌≤◌, ◌==◌, ◌&&◌, nat_eq, nat_le, not, ℕ, Bool, List, [], ◌∷◌, ◌++◌, length, map, take, filter, find, Option, if◌then◌else◌}
use Rattle.std.specs.Option.{option_map_or}
use Rattle.std.specs.List.{IsDistinct, list_any}
use Rattle.base_words.specs.Fields.{Block}
use Rattle.lock_db.specs.declared.name.LockName.{LockName}
use Rattle.lock_db.specs.Names.{is_same}

-- a block as the node knows it: its number, the lock under which it was looked at, the sequence that the lock's value
-- block had for it then, and its bytes
pub record Cached : Type 0 where
  pub lbn : ℕ
  pub lock : LockName
  pub seq : ℕ
  pub block : Block

abbrev pub cached : ℕ → LockName → ℕ → Block → Cached
cached lbn lock seq block = record { lbn = lbn; lock = lock; seq = seq; block = block }

-- the entry of the block with this number
abbrev pub is_for : ℕ → Cached → Bool
is_for lbn e = lbn == e.lbn

-- an entry under this lock
abbrev pub is_under : LockName → Cached → Bool
is_under lock e = is_same lock e.lock

-- the entry of the block, under this lock
abbrev pub is_of : ℕ → LockName → Cached → Bool
is_of lbn lock e = is_for lbn e && is_under lock e

-- what every cache is: at most 64 entries, and no block twice
pub record IsCache (es : List Cached) : Type 0 where
  pub fits : length es ≤ 64
  pub apart : IsDistinct nat_eq (map (λ (e : Cached). e.lbn) es)

-- the entry of the block under this lock, where it has this sequence
abbrev pub found : ℕ → LockName → ℕ → List Cached → Option Cached
found lbn lock seq es = find (λ e. is_of lbn lock e && (seq == e.seq)) es

-- an entry of the block, under this lock, with this sequence or a later one
abbrev pub is_since : ℕ → LockName → ℕ → Cached → Bool
is_since lbn lock seq e = is_of lbn lock e && nat_le seq e.seq

-- all entries but that of the block
abbrev pub without : ℕ → List Cached → List Cached
without lbn es = filter (λ e. not (is_for lbn e)) es

-- with this entry in front
abbrev pub moved_to_front : Cached → List Cached → List Cached
moved_to_front e es = e ∷ without e.lbn es

-- after a look for the block: the entry that was found is in front
abbrev pub used : ℕ → LockName → ℕ → List Cached → List Cached
used lbn lock seq es = option_map_or (λ e. moved_to_front e es) (found lbn lock seq es) es

-- with a new entry in front, which takes the place of the block's old one; of 64 others the last one goes
abbrev pub kept : Cached → List Cached → List Cached
kept e es = e ∷ take 63 (without e.lbn es)

-- with a new entry in the very place of the one of its block and lock
abbrev pub replaced : Cached → List Cached → List Cached
replaced new es = map (λ e. if is_of new.lbn new.lock e then new else e) es

-- all entries but those under this lock
abbrev pub without_lock : LockName → List Cached → List Cached
without_lock lock es = filter (λ e. not (is_under lock e)) es

-- the locks of the entries, each once, by the order of their first entries
abbrev pub locks_of : List Cached → List LockName
locks_of [] = []
locks_of (e ∷ es) = e.lock ∷ filter (λ lock. not (is_same e.lock lock)) (locks_of es)

-- with this lock at the end, where it is not among them
abbrev pub joined : LockName → List LockName → List LockName
joined lock locks = if list_any (λ one. is_same one lock) locks then locks else locks ++ lock ∷ []
