-- When a block that a node has cached may be used.
use Rattle.std.specs.Prelude.{◌≡◌, ℕ, true, Some}
use Rattle.base_words.specs.Fields.{Block}
use Rattle.lock_db.specs.declared.name.LockName.{LockName}
use Rattle.core_state.specs.Worlds.{NodeState, Plain, node_at}
use Rattle.core_state.specs.Events.{block_used, has_current}

-- node n has a current entry of the block, under this lock, and these are its bytes
abbrev pub IsCurrent : Plain → ℕ → LockName → ℕ → Block → Type 0
IsCurrent w n name lbn b = (s : NodeState) → node_at w.nodes n ≡ Some s → (b ≡ block_used w s name lbn) × (has_current w s name lbn ≡ true)
