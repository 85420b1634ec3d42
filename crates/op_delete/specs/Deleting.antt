-- An entry that can go from its directory, and how its file goes.
use Rattle.std.specs.Prelude.{◌≡◌, ◌≤◌, true, Option, Some, None, length}
use Rattle.std.specs.Result.{ForOk}
use Rattle.fx_dir.specs.Entries.{has}
use Rattle.fx_dir.specs.Directory.{directory}
use Rattle.fx_dir.specs.Moves.{key}
use Rattle.plain_cat.specs.declared.entries.DirEnt.{DirEnt}
use Rattle.plain_cat.specs.declared.mode.Mode.TheVariants.{PW}
use Rattle.plain_cat.specs.declared.reply.Reply.TheVariants as reply
use Rattle.plain_cat.specs.declared.reply.Refusal.TheVariants as refusal
use Rattle.vol_parts.specs.declared.geometry.Geometry.{Geometry}
use Rattle.op_law.specs.declared.need.Plan.{Plan}
use Rattle.op_law.specs.Events.{Events, Make}
use Rattle.op_law.specs.Rows.{plain_plan}
use Rattle.op_law.specs.Refusing.{SeenFile}
use Rattle.op_law.specs.Moving.{SeenDir}
use Rattle.op_law.specs.Freeing.{through_space}
use Rattle.op_law.specs.Headers.{through_chain}
use Rattle.op_law.specs.Removing.{if_empty, delete_plan}
use Rattle.op_law.specs.Behind.{blocks_alone}
use Rattle.op_law.specs.Readable.{IsRead}
use Rattle.op_steps.specs.declared.names.DirSeen.{DirSeen}
use Rattle.op_steps.specs.Names.{IsReadable}

-- the directory is read without a fault, has at most 16 blocks, and has the entry
pub record CanGo (d : DirSeen) (e : DirEnt) : Type 0 where
  pub readable : IsReadable d
  pub read : IsRead d.blocks.now
  pub few : length d.blocks.now ≤ 16
  pub there : ForOk (directory (blocks_alone d.blocks.now)) (λ es. has es (key e.name e.ver) ≡ true)

-- the plan by the entry that is looked for, where it is there
abbrev pub plan_by : (DirEnt → Plan) → Option DirEnt → Plan
plan_by plan None = plain_plan (reply.Refused refusal.NoSuchFile)
plan_by plan (Some e) = plan e

-- behind all headers of its file: the blocks of a directory, the space that becomes free, and the plan
abbrev pub whole_goes : Geometry → SeenDir → Option DirEnt → SeenFile → Events
whole_goes g d o f = if_empty f (through_space g f (λ s. Make (plan_by (λ e. delete_plan g d e f s) o)))

-- behind the first of them: the others, and what comes there
abbrev pub file_goes : Geometry → SeenDir → Option DirEnt → SeenFile → Events
file_goes g d o f = through_chain g PW f (whole_goes g d o)
