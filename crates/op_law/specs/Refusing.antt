-- How a command goes on: where no refusal holds, where its file is there, where its entry is, where space was given.
use Rattle.std.specs.Prelude.{◌==◌, nat_le, ℕ, List, [], Option, Some, None, option_map, if◌then◌else◌}
use Rattle.base_words.specs.Fields.{Block}
use Rattle.fx_header.specs.declared.slot.Hdr.{Hdr}
use Rattle.plain_cat.specs.declared.ids.Fid.{Fid}
use Rattle.plain_cat.specs.declared.mode.Mode.{Mode}
use Rattle.plain_cat.specs.declared.entries.DirEnt.{DirEnt}
use Rattle.plain_cat.specs.declared.reply.Refusal.{Refusal}
use Rattle.plain_cat.specs.declared.reply.Refusal.TheVariants as refusal
use Rattle.plain_cat.specs.declared.cat.File.{File}
use Rattle.vol_parts.specs.declared.geometry.Geometry.{Geometry}
use Rattle.vol_parts.specs.Catalogues.{file_of}
use Rattle.vol_spell.specs.Reading.{fields_told}
use Rattle.op_law.specs.Events.{Events}
use Rattle.op_law.specs.Rows.{refuses, live_in, through_header}

-- refused, or else these events
abbrev pub unless_refused : Option Refusal → Events → Events
unless_refused None next = next
unless_refused (Some r) next = refuses r

-- ---- a file

-- A file as a command sees it: its number, the block of its first header, the other headers that were seen, in order, each with its
-- place, the blocks that the first one says, and what that tells of the file, without its blocks.
pub record SeenFile : Type 0 where
  pub num : ℕ
  pub head : Block
  pub rest : List (ℕ × Block)
  pub blocks : ℕ
  pub file : File

-- a file of which one header was seen
abbrev pub seen_file : Geometry → ℕ → Block → Hdr → SeenFile
seen_file g n b h = record { num = n; head = b; rest = []; blocks = h.blocks; file = file_of g.cluster n h [] }

abbrev pub header_of_seq : ℕ → Option Hdr → Option Hdr
header_of_seq seq None = None
header_of_seq seq (Some h) = if h.seq == seq then Some h else None

-- the header of the file in use of this sequence, which may be marked for delete, by its block
abbrev pub used_in : ℕ → Block → Option Hdr
used_in seq b = header_of_seq seq (fields_told b)

-- what comes next with a file, or else without one
abbrev pub if_file : Events → (SeenFile → Events) → Option SeenFile → Events
if_file otherwise next None = otherwise
if_file otherwise next (Some f) = next f

-- the lock of a live file, its header, and what comes next
abbrev pub through_live : Geometry → Fid → Mode → (SeenFile → Events) → Events
through_live g file mode next =
    through_header g file mode (λ b. if_file (refuses refusal.NoSuchFile) next (option_map (seen_file g file.num b) (live_in file.seq b)))

-- the same of a file in use, which a channel has open; `otherwise` where there is none
abbrev pub through_open : Geometry → Fid → Mode → Events → (SeenFile → Events) → Events
through_open g file mode otherwise next =
    through_header g file mode (λ b. if_file otherwise next (option_map (seen_file g file.num b) (used_in file.seq b)))

-- ---- an entry

-- what comes next with the entry that is looked for, which names no system file
abbrev pub if_entry : Option DirEnt → (DirEnt → Events) → Events
if_entry None next = refuses refusal.NoSuchFile
if_entry (Some e) next = if nat_le e.fid.num 11 then refuses refusal.NoPriv else next e

-- ---- space

-- what comes next with the clusters that were searched for, and the number, if one was
abbrev pub if_given : (List ℕ → Option ℕ → Events) → List ℕ → Option ℕ → Option Refusal → Events
if_given next given number None = next given number
if_given next given number (Some r) = refuses r

-- what comes next with the clusters and the number that were searched for
abbrev pub if_space : (List ℕ → ℕ → Events) → List ℕ → Option ℕ → Option Refusal → Events
if_space next given number (Some r) = refuses r
if_space next given None None = refuses refusal.IndexFull
if_space next given (Some n) None = next given n
