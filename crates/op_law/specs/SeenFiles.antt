-- A file as a command has seen it, opened: its runs, its clusters, where its blocks stand, and the writes to them. Nothing else reads
-- the runs of a file; those of a directory whose entries a command looks for are read where its blocks are.
use Rattle.std.specs.Prelude.{◌++◌, ◌-◌, ℕ, List, slice_index_or}
use Rattle.std.specs.List.{flat_map}
use Rattle.base_words.specs.Fields.{Block}
use Rattle.fx_header.specs.declared.run.Run.{Run}
use Rattle.fx_header.specs.Headers.{header_read}
use Rattle.fx_header.specs.Pointers.{lbns_in}
use Rattle.lock_db.specs.declared.name.LockName.TheVariants.{S}
use Rattle.plain_cat.specs.declared.history.Stage.{Stage}
use Rattle.vol_parts.specs.declared.geometry.Geometry.{Geometry}
use Rattle.vol_parts.specs.Chains.{cut}
use Rattle.vol_parts.specs.Volumes.{fields_in, runs_with}
use Rattle.vol_spell.specs.Reading.{clusters_of}
use Rattle.op_law.specs.declared.need.PlanWrite.{PlanWrite}
use Rattle.op_law.specs.Refusing.{SeenFile}
use Rattle.op_law.specs.Writing.{write_at, empty_handed}

-- the runs that a header lists, be it a file's first one or another: none where the slot is not used
abbrev pub runs_listed : Block → List Run
runs_listed b = runs_with (fields_in (header_read b)) b

-- the runs of a file of so many blocks, by its first header and the others that were seen, each with its place: what they list behind
-- the last of the blocks counts for nothing
abbrev pub runs_by : ℕ → Block → List (ℕ × Block) → List Run
runs_by blocks head rest = cut blocks (runs_listed head ++ flat_map (λ x. runs_listed x.1) rest)

-- its runs
abbrev pub runs_seen : SeenFile → List Run
runs_seen f = runs_by f.blocks f.head f.rest

-- its clusters, in the file's order
abbrev pub file_clusters : Geometry → SeenFile → List ℕ
file_clusters g f = clusters_of g.cluster (runs_seen f)

-- where its blocks stand, in order
abbrev pub file_places : SeenFile → List ℕ
file_places f = lbns_in (runs_seen f)

-- where a virtual block of it stands; the first is 1
abbrev pub file_place : SeenFile → ℕ → ℕ
file_place f vbn = slice_index_or (file_places f) (vbn - 1) 0

-- the write of a virtual block of it, which leaves nothing outside
abbrev pub file_write : SeenFile → ℕ → Block → Stage → PlanWrite
file_write f vbn b s = write_at (S f.num) (file_place f vbn) b s empty_handed
