-- Which of the locks that a node keeps stay behind an answer.
use Rattle.std.specs.Prelude.{Bool, List, [], ◌∷◌, Option, Some, None, if◌then◌else◌}
use Rattle.std.specs.List.{list_any}
use Rattle.lock_db.specs.declared.name.LockName.{LockName}
use Rattle.lock_db.specs.declared.name.LockName.TheVariants.{X}
use Rattle.lock_db.specs.Names.{is_same}
use Rattle.plain_cat.specs.declared.mode.Mode.{Mode}
use Rattle.node_cache.specs.Cached.{Cached, is_under}

-- X stays where the node has a stock, and any other lock where a cached block is under it
abbrev pub stays_by : Bool → List Cached → LockName × Mode → Bool
stays_by stocked es l = if is_same l.0 X then stocked else list_any (is_under l.0) es

-- the mode of the first lock of this name
abbrev pub mode_on : LockName → List (LockName × Mode) → Option Mode
mode_on name [] = None
mode_on name (l ∷ ls) = if is_same l.0 name then Some l.1 else mode_on name ls

-- the same, with one more lock behind those that have it so
abbrev pub noted : LockName → LockName × Mode → Option Mode → Option Mode
noted name l (Some mode) = Some mode
noted name l None = if is_same l.0 name then Some l.1 else None
