-- The entries that stand for the pairs of the map underneath.
use Rattle.std.specs.Prelude.{ℕ, List, map, if◌then◌else◌}
use Rattle.base_words.specs.Fields.{Block}
use Rattle.lock_db.specs.declared.name.LockName.{LockName}
use Rattle.lock_db.specs.Names.{is_same}
use Rattle.node_cache.specs.Cached.{Cached}
use Rattle.node_cache.specs.declared.held.Held.{Held}

-- the entry of a block's number and what is held for it
abbrev pub entry_of : ℕ × Held → Cached
entry_of p = record { lbn = p.0; lock = p.1.lock; seq = p.1.seq; block = p.1.block }

-- the entries of all of them
abbrev pub entries_of : List (ℕ × Held) → List Cached
entries_of ps = map entry_of ps

-- what is held for a block, renewed where it was looked at under the lock
abbrev pub renewed : LockName → ℕ → Block → Held → Held
renewed lock seq block h = if is_same lock h.lock then record h { seq = seq; block = block } else h
