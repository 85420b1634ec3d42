-- What commands have in common: a file's lock and its header, and the blocks of a directory.
use Rattle.std.specs.Prelude.{◌==◌, ◌&&◌, not, nat_le, ℕ, Bool, List, [], ◌∷◌, Option, Some, None, Result, Ok, Err, if◌then◌else◌}
use Rattle.base_words.specs.Fields.{Block}
use Rattle.fx_dir.specs.Directory.{directory}
use Rattle.fx_header.specs.declared.slot.Hdr.{Hdr}
use Rattle.fx_header.specs.declared.slot.Slot.{Slot}
use Rattle.fx_header.specs.declared.slot.Slot.TheVariants.{Free, Used}
use Rattle.fx_header.specs.declared.slot.HeaderFault.{HeaderFault}
use Rattle.lock_db.specs.declared.name.LockName.{LockName}
use Rattle.lock_db.specs.declared.name.LockName.TheVariants.{S}
use Rattle.plain_cat.specs.declared.ids.Fid.{Fid}
use Rattle.plain_cat.specs.declared.mode.Mode.{Mode}
use Rattle.plain_cat.specs.declared.entries.DirEnt.{DirEnt}
use Rattle.plain_cat.specs.declared.reply.Reply.{Reply}
use Rattle.plain_cat.specs.declared.reply.Reply.TheVariants as reply
use Rattle.plain_cat.specs.declared.reply.Refusal.{Refusal}
use Rattle.plain_cat.specs.declared.reply.Refusal.TheVariants as refusal
use Rattle.vol_parts.specs.declared.geometry.Geometry.{Geometry}
use Rattle.vol_parts.specs.Catalogues.{plain_entries}
use Rattle.vol_spell.specs.Reading.{header_place, head_told}
use Rattle.op_law.specs.declared.need.Need.{Need}
use Rattle.op_law.specs.declared.need.Need.TheVariants as need
use Rattle.op_law.specs.declared.need.Plan.{Plan}
use Rattle.op_law.specs.Events.{Events, Take, Look, Make}
use Rattle.vol_spell.specs.Entries.{places_in}

-- a plan that writes nothing and asks for nothing
abbrev pub plain_plan : Reply → Plan
plain_plan r = record { writes = []; ask = None; reply = r }

-- nothing more is needed, and nothing is written
abbrev pub answered : Reply → Need
answered r = need.Ready (plain_plan r)

abbrev pub refused : Refusal → Need
refused r = answered (reply.Refused r)

-- the same as the last of a command's events
abbrev pub answers : Reply → Events
answers r = Make (plain_plan r)

abbrev pub refuses : Refusal → Events
refuses r = answers (reply.Refused r)

-- the number of an identifier is one of the volume's
abbrev pub is_number : Geometry → Fid → Bool
is_number g fid = nat_le 1 fid.num && nat_le fid.num g.files

-- what a slot says as a file's first header, where it is that of the live file of this sequence
abbrev pub live_header : ℕ → Result Slot HeaderFault → Option Hdr
live_header seq (Ok (Used h)) = if (h.seq == seq) && not h.marked then Some h else None
live_header seq (Ok (Free last)) = None
live_header seq (Err fault) = None

-- the first header of the live file of this sequence, by its block
abbrev pub live_in : ℕ → Block → Option Hdr
live_in seq b = live_header seq (head_told b)

-- looks at all of these blocks, in order, and what comes next by them
abbrev pub look_all : LockName → List ℕ → (List Block → Events) → Events
look_all name [] next = next []
look_all name (l ∷ ls) next = Look name l (λ b. look_all name ls (λ bs. next (b ∷ bs)))

-- A file's lock in this mode, its header, and what comes next by it. A number out of range is refused at once.
abbrev pub through_header : Geometry → Fid → Mode → (Block → Events) → Events
through_header g fid mode next =
    if is_number g fid then Take (S fid.num) mode (Look (S fid.num) (header_place g fid.num) next) else refuses refusal.NoSuchFile

-- in a live directory all of its blocks, and what comes next by them
abbrev pub in_directory : Fid → Block → (List Block → Events) → Option Hdr → Events
in_directory dir b next None = refuses refusal.NoSuchFile
in_directory dir b next (Some h) = if h.dir then look_all (S dir.num) (places_in b) next else refuses refusal.NotDir

-- a directory's lock in this mode, its header, all of its blocks, and what comes next by header and blocks
abbrev pub through_directory : Geometry → Fid → Mode → (Block → List Block → Events) → Events
through_directory g dir mode next = through_header g dir mode (λ b. in_directory dir b (next b) (live_in dir.seq b))

-- the entries that a directory's blocks tell
abbrev pub entries_seen : List Block → List DirEnt
entries_seen bs = plain_entries (directory bs)
