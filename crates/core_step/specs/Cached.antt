-- The part of a lock's value block that guards a block, and what a cache has under it.
use Rattle.std.specs.Prelude.{ℕ, List, Option, None, if◌then◌else◌}
use Rattle.lock_db.specs.declared.name.LockName.{LockName}
use Rattle.lock_db.specs.declared.resource.Resource.{Resource}
use Rattle.lock_db.specs.Tables.{resource_at}
use Rattle.vol_parts.specs.declared.geometry.Geometry.{Geometry}
use Rattle.node_cache.specs.Cached.{Cached, found}
use Rattle.core_state.specs.Caches.{sequence_now}
use Rattle.core_step.specs.declared.caches.PartNow.{PartNow}

-- the part to which a block belongs, as it is now
abbrev pub part_now : Geometry → List Resource → LockName → ℕ → PartNow
part_now g t name lbn = record { seq = sequence_now g t name lbn; valid = (resource_at name t).valid }

-- the entry of a block under a lock that is current by this part
abbrev pub entry_in : PartNow → LockName → ℕ → List Cached → Option Cached
entry_in p name lbn es = if p.valid then found lbn name p.seq es else None
