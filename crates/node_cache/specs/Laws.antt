-- What the definitions of a cache mean.
use Rattle.std.specs.Prelude.{◌≡◌, ℕ, List, Some}
use Rattle.std.specs.List.{list_any}
use Rattle.lock_db.specs.declared.name.LockName.{LockName}
use Rattle.lock_db.specs.Names.{is_same}
use Rattle.node_cache.specs.Cached.{Cached, IsCache, is_under, found, used, kept, replaced, without_lock, locks_of}

-- a block that was just kept is found under its lock and with its sequence
abbrev pub KeptIsFound : Type 0
KeptIsFound = (e : Cached) (es : List Cached) → found e.lbn e.lock e.seq (kept e es) ≡ Some e

-- each change of a list leaves a cache
pub record StaysCache (es : List Cached) : Type 0 where
  pub after_use : (lbn : ℕ) (lock : LockName) (seq : ℕ) → IsCache (used lbn lock seq es)
  pub after_keep : (e : Cached) → IsCache (kept e es)
  pub after_replace : (e : Cached) → IsCache (replaced e es)
  pub after_forget : (lock : LockName) → IsCache (without_lock lock es)

-- of a cache every change makes a cache again
abbrev pub CachesStay : Type 0
CachesStay = (es : List Cached) → IsCache es → StaysCache es

-- the locks that are listed are just those with an entry under them
abbrev pub LocksAreThoseUsed : Type 0
LocksAreThoseUsed = (lock : LockName) (es : List Cached) → list_any (is_same lock) (locks_of es) ≡ list_any (is_under lock) es
