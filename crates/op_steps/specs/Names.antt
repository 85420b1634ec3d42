-- A directory as a command has seen it, in order to enter a name there.
use Rattle.std.specs.Prelude.{◌≡◌, ◌≤◌, ◌<◌, ◌^◌, length}
use Rattle.plain_cat.specs.declared.ids.Fid.{Fid}
use Rattle.vol_parts.specs.declared.geometry.Geometry.{Geometry}
use Rattle.op_law.specs.declared.need.Need.{Need}
use Rattle.op_law.specs.Events.{Events, Space}
use Rattle.op_law.specs.Moving.{SeenDir}
use Rattle.op_law.specs.Behind.{goes_on_by, blocks_alone, FollowsBy}
use Rattle.op_law.specs.Readable.{HasMap, ListsInside, IsRead}
use Rattle.op_steps.specs.declared.names.DirSeen.{DirSeen}
use Rattle.op_steps.specs.declared.names.Names.{Names}
use Rattle.op_steps.specs.declared.names.Names.TheVariants as names

-- the directory as the row of events has it
abbrev pub dir_seen : DirSeen → SeenDir
dir_seen d = record { fid = d.fid; head = d.head.now; blocks = blocks_alone d.blocks.now }

-- behind a directory
abbrev pub behind_names : (SeenDir → Events) → Space → Names → Need
behind_names next space (names.All d rest) = goes_on_by (next (dir_seen d)) rest space
behind_names next space (names.Next need) = need

-- what was seen behind it follows what comes there
abbrev pub FollowsNames : (SeenDir → Events) → Space → Names → Type 0
FollowsNames next space (names.All d rest) = FollowsBy (next (dir_seen d)) rest space
FollowsNames next space (names.Next need) = Unit {0}

-- all runs of its header can be read, and end at or before LBN 65,536
pub record IsReadable (d : DirSeen) : Type 0 where
  pub map : HasMap d.head.now
  pub inside : ListsInside d.head.now
  pub few : length d.blocks.now < 2 ^ 32

-- those of the directory that was seen
abbrev pub ShowsReadable : Names → Type 0
ShowsReadable (names.All d rest) = IsReadable d
ShowsReadable (names.Next need) = Unit {0}

-- its blocks are read without a fault
abbrev pub ShowsRead : Names → Type 0
ShowsRead (names.All d rest) = IsRead d.blocks.now
ShowsRead (names.Next need) = Unit {0}

-- the directory that was seen is that of this identifier
abbrev pub IsDirectory : Fid → Names → Type 0
IsDirectory dir (names.All d rest) = d.fid ≡ dir
IsDirectory dir (names.Next need) = Unit {0}

-- its number is one of the volume's
abbrev pub IsNumbered : Geometry → Names → Type 0
IsNumbered g (names.All d rest) = d.fid.num ≤ g.files
IsNumbered g (names.Next need) = Unit {0}
