-- What the rules of deaths say of one volume, one script and one history.
use Rattle.std.specs.Prelude.{◌≡◌, List, [], ◌∷◌, Option, Some, None, codes, false, true, slice_set, replicate}
use Rattle.plain_cat.specs.declared.mode.Mode.TheVariants.{EX}
use Rattle.plain_cat.specs.declared.entries.DirEnt.{DirEnt}
use Rattle.plain_cat.specs.declared.command.Cmd.{Cmd}
use Rattle.plain_cat.specs.declared.command.Cmd.TheVariants as cmd
use Rattle.plain_cat.specs.declared.reply.Reply.TheVariants as reply
use Rattle.plain_cat.specs.declared.reply.Refusal.TheVariants as refusal
use Rattle.plain_cat.specs.declared.history.Stage.TheVariants as stage
use Rattle.plain_cat.specs.declared.history.Entry.{Entry}
use Rattle.plain_cat.specs.declared.history.Entry.TheVariants.{Done, Died}
use Rattle.plain_cat.specs.declared.script.Script.{Script}
use Rattle.plain_cat.specs.declared.script.LineCmd.TheVariants as line
use Rattle.plain_cat.specs.declared.script.FileRef.TheVariants.{Fixed}
use Rattle.plain_cat.specs.declared.script.KillAt.TheVariants.{Write}
use Rattle.plain_cat.specs.declared.cat.File.{File}
use Rattle.plain_cat.specs.declared.cat.Slot.{Slot}
use Rattle.plain_cat.specs.declared.cat.Slot.TheVariants.{Used}
use Rattle.plain_cat.specs.declared.cat.QuotaRow.{QuotaRow}
use Rattle.plain_cat.specs.declared.cat.Cat.{Cat}
use Rattle.plain_rules.specs.Lookups.{file_at, channel_at}
use Rattle.plain_rules.specs.Directories.{inserted}
use Rattle.plain_rules.specs.Answers.{outcome}
use Rattle.plain_rules.specs.Stages.{staged}
use Rattle.plain_rules.specs.Own.{Own, Killed}
use Rattle.plain_rules.specs.Replaying.{dead}
use Rattle.rows_sample.specs.Fresh.{fresh, system_owner, user_owner}
use Rattle.plain_cat.specs.Names.{main_dir}

-- a file of ten blocks, in clusters of four
abbrev pub making : Cmd
making = cmd.Create 1 main_dir (codes "A.TXT") 0 10 user_owner

abbrev pub made : Slot
made = Used (record { seq = 1; owner = user_owner; dir = false; clusters = 3; mark = 1; end = 1; byte = 0; marked = false; written = []; entries = [] })

-- its owner is charged twelve blocks, and one for the file
abbrev pub charged_rows : List QuotaRow
charged_rows =
    record { owner = system_owner; usage = 111; quota = 1088; over = 0 }
    ∷ record { owner = user_owner; usage = 13; quota = 1088; over = 0 }
    ∷ []

-- the volume with the file
abbrev pub filled_volume : Cat
filled_volume = (outcome fresh 1 making (Some 12)).after

abbrev pub renaming : Cmd
renaming = cmd.Rename main_dir (codes "A.TXT") 1 (codes "B.TXT") 0

-- the new name of the file
abbrev pub second : DirEnt
second = record { name = codes "B.TXT"; ver = 1; fid = record { num = 12; seq = 1 } }

-- the volume with the file open at node 1
abbrev pub open_volume : Cat
open_volume = (outcome filled_volume 1 (cmd.OpenFile 1 (record { num = 12; seq = 1 }) EX) None).after

abbrev pub entries_at : Option File → List DirEnt
entries_at None = []
entries_at (Some f) = f.entries

abbrev pub main_entries_of : Option Cat → List DirEnt
main_entries_of None = []
main_entries_of (Some c) = entries_at (file_at c 4)

-- ---- stages

-- before its header a CREATE has charged the owner, and nothing else shows
abbrev pub CreateIsCharged : Type 0
CreateIsCharged = staged fresh 1 (Some making) stage.Charged (Some 12) ≡ Some (record fresh { quota = charged_rows })

-- before its entry the file is there too
abbrev pub CreateIsLost : Type 0
CreateIsLost = staged fresh 1 (Some making) stage.Lost (Some 12) ≡ Some (record fresh { quota = charged_rows; files = slice_set fresh.files 11 made })

-- between its two writes a RENAME has both names
abbrev pub RenameHasBoth : Type 0
RenameHasBoth = main_entries_of (staged filled_volume 1 (Some renaming) stage.Both None) ≡ inserted second (entries_at (file_at filled_volume 4))

-- a command that is refused has no stage that shows
abbrev pub RefusedShowsNothing : Type 0
RefusedShowsNothing = (staged fresh 1 (Some renaming) stage.Both None ≡ None) × (staged fresh 1 (Some renaming) stage.Nothing None ≡ Some fresh)

-- ---- a death

-- the open of the dead node is gone, and what it had outside files is leaked
abbrev pub DeathClosesAndLeaks : Type 0
DeathClosesAndLeaks =
    (channel_at open_volume 1 1 ≡ Some (record { file = 12; mode = EX }))
    × (dead open_volume 1 2 (13 ∷ []) ≡ record filled_volume { leaked = 2; leaked_numbers = slice_set (replicate 64 false) 12 true })

-- ---- whose commands, and who is killed

-- two nodes, of which the first is killed
abbrev pub script : Script
script = record {
  nodes = 2;
  lines = record { node = 1; cmd = line.Create 1 (Fixed main_dir) (codes "A.TXT") 0 10 user_owner }
      ∷ record { node = 2; cmd = line.Lookup 1 (Fixed main_dir) (codes "A.TXT") 0 }
      ∷ record { node = 2; cmd = line.List (Fixed main_dir) } ∷ [];
  plays = [];
  kills = record { node = 1; at = Write 5 } ∷ [];
}

abbrev pub death : Entry
death = Died 1 stage.Lost 0 (record { items = []; room = 0 })

abbrev pub absent : Entry
absent = Done 2 (cmd.Lookup 1 main_dir (codes "A.TXT") 0) (reply.Refused refusal.NoSuchFile)

-- an answer of the dead node, and one of the other's second command before its first
abbrev pub by_the_dead : Entry
by_the_dead = Done 1 making (reply.Refused refusal.DirFull)

abbrev pub out_of_order : Entry
out_of_order = Done 2 (cmd.List main_dir) (reply.Refused refusal.NotDir)

-- a death is a node's last entry, and each node's commands come in the order of its lines
abbrev pub OwnByNodes : Type 0
OwnByNodes = Own script (death ∷ absent ∷ []) × (Own script (death ∷ by_the_dead ∷ []) → ⊥) × (Own script (death ∷ out_of_order ∷ []) → ⊥)

-- a node dies only if the script kills it
abbrev pub KilledByScript : Type 0
KilledByScript = Killed script (death ∷ absent ∷ []) × (Killed (record script { kills = [] }) (death ∷ absent ∷ []) → ⊥)
