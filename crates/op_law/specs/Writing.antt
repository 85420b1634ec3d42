-- The writes of a plan: the lock that guards each, the stage after it, and what the command has outside then.
use Rattle.std.specs.Prelude.{◌+◌, ◌-◌, ◌*◌, ◌/◌, ℕ, List, [], Option, Some, None, map, slice_index_or}
use Rattle.base_words.specs.Fields.{Block}
use Rattle.fx_header.specs.declared.run.Run.{Run}
use Rattle.lock_db.specs.declared.name.LockName.{LockName}
use Rattle.lock_db.specs.declared.name.LockName.TheVariants.{S}
use Rattle.plain_cat.specs.declared.history.Stage.{Stage}
use Rattle.plain_cat.specs.declared.reply.Reply.{Reply}
use Rattle.vol_parts.specs.declared.geometry.Geometry.{Geometry}
use Rattle.vol_spell.specs.Reading.{header_place}
use Rattle.op_law.specs.declared.need.Plan.{Plan}
use Rattle.op_law.specs.declared.need.PlanWrite.{PlanWrite}
use Rattle.op_law.specs.declared.need.Ask.{Ask}
use Rattle.vol_spell.specs.Entries.{places_in}

-- what a command has outside files and bitmaps: clusters, from 0, and a file number, from 1, or none
pub record Held : Type 0 where
  pub clusters : List ℕ
  pub number : Option ℕ

abbrev pub holding : List ℕ → Option ℕ → Held
holding clusters number = record { clusters = clusters; number = number }

abbrev pub empty_handed : Held
empty_handed = holding [] None

-- a write under a lock, with the stage after it and what is outside then
abbrev pub write_at : LockName → ℕ → Block → Stage → Held → PlanWrite
write_at name lbn b s out = record { lock = name; lbn = lbn; block = b; stage = s; clusters = out.clusters; numbers = []; number = out.number }

-- the same with these file numbers outside too
abbrev pub with_numbers : List ℕ → PlanWrite → PlanWrite
with_numbers ns w = record w { numbers = ns }

-- the write of the header in the slot of number n
abbrev pub header_write : Geometry → ℕ → Block → Stage → Held → PlanWrite
header_write g n b s out = write_at (S n) (header_place g n) b s out

-- where the virtual block of a directory stands, by the block of its header; the first is 1
abbrev pub block_place : Block → ℕ → ℕ
block_place head vbn = slice_index_or (places_in head) (vbn - 1) 0

-- the write of a virtual block of directory n, which leaves nothing outside
abbrev pub body_write : ℕ → Block → ℕ → Block → Stage → PlanWrite
body_write n head vbn b s = write_at (S n) (block_place head vbn) b s empty_handed

-- these writes, and a reply
abbrev pub plan_of : List PlanWrite → Reply → Plan
plan_of ws r = record { writes = ws; ask = None; reply = r }

-- these writes with an ask among them, and a reply
abbrev pub asking_plan : List PlanWrite → Ask → Reply → Plan
asking_plan ws a r = record { writes = ws; ask = Some a; reply = r }

-- ---- clusters

-- blocks rounded up to clusters
abbrev pub clusters_for : Geometry → ℕ → ℕ
clusters_for g blocks = (blocks + (g.cluster - 1)) / g.cluster

-- the runs of clusters, one for each
abbrev pub runs_for : Geometry → List ℕ → List Run
runs_for g qs = map (λ q. record { lbn = q * g.cluster; count = g.cluster }) qs
