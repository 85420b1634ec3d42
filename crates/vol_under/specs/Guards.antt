-- What guards a block, and what a command may move under its locks.
use Rattle.std.specs.Prelude.{◌≡◌, ℕ, List, Option, Some, None}
use Rattle.lock_db.specs.declared.name.LockName.{LockName}
use Rattle.lock_db.specs.declared.name.LockName.TheVariants.{S, Q, V}
use Rattle.vol_spell.specs.declared.owner.Owner.{Owner}
use Rattle.vol_spell.specs.declared.owner.Owner.TheVariants.{Free, InFile, Outside, Leaked}
use Rattle.base_words.specs.Lists.{Has}
use Rattle.vol_spell.specs.Owners.{Owners}
use Rattle.vol_parts.specs.declared.geometry.Geometry.{Geometry}
use Rattle.vol_parts.specs.declared.geometry.Part.{Part}
use Rattle.vol_parts.specs.declared.geometry.Part.TheVariants.{Header, IndexBitmap, Storage, Quota}
use Rattle.vol_parts.specs.Parts.{part_of}
use Rattle.vol_spell.specs.Reading.{owner_at}

-- what guards a block: the lock of a name, or that a node has it outside, where no other looks for it
pub data Guard : Type 0 where
  Lock : LockName → Guard
  Stock : ℕ → Guard

-- the lock of a part of the volume: of a header that of its own number, of both bitmaps V, of the quota blocks Q
abbrev pub lock_of_part : Part → LockName
lock_of_part (Header n) = S n
lock_of_part IndexBitmap = V
lock_of_part (Storage k) = V
lock_of_part (Quota k) = Q

-- a cluster of a file is guarded by the file's lock, and one outside at a node by the node; no other is guarded
abbrev pub guard_by_owner : Option Owner → Option Guard
guard_by_owner None = None
guard_by_owner (Some Free) = None
guard_by_owner (Some (InFile n)) = Some (Lock (S n))
guard_by_owner (Some (Outside node)) = Some (Stock node)
guard_by_owner (Some Leaked) = None

abbrev pub guard_by : Option Part → Option Owner → Option Guard
guard_by (Some p) o = Some (Lock (lock_of_part p))
guard_by None o = guard_by_owner o

-- what guards a block: the lock of the part that it is, else what guards its cluster
abbrev pub guard_of : Geometry → Owners → ℕ → Option Guard
guard_of g own l = guard_by (part_of g l) (owner_at g own l)

-- a node that holds these locks in PW may write to a block that is so guarded
abbrev pub MayWrite : ℕ → List LockName → Option Guard → Type 0
MayWrite node locks None = ⊥
MayWrite node locks (Some (Lock name)) = Has locks name
MayWrite node locks (Some (Stock m)) = m ≡ node

-- a node that holds these locks in PR or more may look at a block that is so guarded
abbrev pub MayLook : List LockName → Option Guard → Type 0
MayLook locks None = ⊥
MayLook locks (Some (Lock name)) = Has locks name
MayLook locks (Some (Stock m)) = ⊥

-- what a command of node n that holds these locks in PW may move: what is free, what is outside at this node, and what is in
-- a file whose lock is one of these
abbrev pub IsCommandMove : ℕ → List LockName → Option Owner → Type 0
IsCommandMove n locks None = ⊥
IsCommandMove n locks (Some Free) = Unit {0}
IsCommandMove n locks (Some (InFile i)) = Has locks (S i)
IsCommandMove n locks (Some (Outside m)) = m ≡ n
IsCommandMove n locks (Some Leaked) = ⊥
