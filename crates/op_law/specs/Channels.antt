-- The commands on channels: to open and close a file, and to read and write its blocks.
use Rattle.std.specs.Prelude.{◌==◌, ◌||◌, ◌-◌, ◌*◌, ◌++◌, nat_lt, nat_le, ℕ, Bool, true, false, List, [], ◌∷◌, Option, Some, None, map, if◌then◌else◌}
use Rattle.std.specs.List.{range_with_len}
use Rattle.base_words.specs.Fields.{Block}
use Rattle.base_words.specs.Tables.{zeros}
use Rattle.plain_cat.specs.declared.ids.Fid.{Fid}
use Rattle.plain_cat.specs.declared.mode.Mode.{Mode}
use Rattle.plain_cat.specs.declared.mode.Mode.TheVariants.{PR, PW, EX}
use Rattle.plain_cat.specs.declared.history.Stage.TheVariants as stage
use Rattle.plain_cat.specs.declared.reply.Reply.TheVariants as reply
use Rattle.plain_cat.specs.declared.reply.Refusal.TheVariants as refusal
use Rattle.plain_cat.specs.declared.cat.File.{File}
use Rattle.plain_rules.specs.Changes.{is_past_mark, text_block, ended, marked_up}
use Rattle.plain_rules.specs.Answers.{first_refusal, is_kept, is_reading}
use Rattle.vol_parts.specs.declared.geometry.Geometry.{Geometry}
use Rattle.vol_spell.specs.Files.{with_sizes}
use Rattle.op_law.specs.declared.need.PlanWrite.{PlanWrite}
use Rattle.op_law.specs.declared.need.Plan.{Plan}
use Rattle.op_law.specs.declared.need.Ask.{Ask}
use Rattle.op_law.specs.declared.seen.Chan.{Chan}
use Rattle.op_law.specs.Events.{Events, Fetch, Make}
use Rattle.op_law.specs.Rows.{answers, refuses}
use Rattle.op_law.specs.Refusing.{SeenFile, unless_refused, through_live, through_open}
use Rattle.op_law.specs.Writing.{empty_handed, header_write, plan_of, asking_plan}
use Rattle.op_law.specs.SeenFiles.{file_place, file_write}
use Rattle.op_law.specs.Freeing.{through_space, freeing_writes}
use Rattle.op_law.specs.Headers.{through_chain, through_part}

-- an ask of a channel before all writes, with its reply where it is not granted
abbrev pub first_ask : ℕ → ℕ → Mode → Ask
first_ask n chan mode = record { at = 0; file = n; chan = chan; mode = mode; refused = reply.Refused refusal.AccConflict }

-- ---- OPEN

abbrev pub open_in : ℕ → Mode → SeenFile → Events
open_in chan mode f =
    unless_refused (first_refusal ((is_kept f.num f.file, refusal.NoPriv) ∷ [])) (Make (asking_plan [] (first_ask f.num chan mode) reply.Opened))

abbrev pub open_on : Geometry → Option Chan → ℕ → Fid → Mode → Events
open_on g (Some p) chan file mode = refuses refusal.ChanBusy
open_on g None chan file mode = through_live g file PW (open_in chan mode)

unfoldable pub open_events : Geometry → Option Chan → ℕ → Fid → Mode → Events
open_events g channel chan file mode = open_on g channel chan file mode

-- ---- CLOSE

-- the channel asks whether no other has the file open
abbrev pub close_ask : ℕ → ℕ → Ask
close_ask n chan = record { at = 0; file = n; chan = chan; mode = EX; refused = reply.Closed false }

-- no ask where the channel has the file open in EX, since no other open goes with it
abbrev pub close_plan : ℕ → ℕ → Mode → List PlanWrite → Plan
close_plan n chan EX ws = plan_of ws (reply.Closed true)
close_plan n chan other ws = asking_plan ws (close_ask n chan) (reply.Closed true)

-- a file that is marked goes with the last of its opens
abbrev pub close_in : Geometry → ℕ → Mode → SeenFile → Events
close_in g chan mode f =
    if f.file.marked then through_chain g PW f (λ whole. through_space g whole (λ s. Make (close_plan whole.num chan mode (freeing_writes g whole s))))
    else answers (reply.Closed false)

abbrev pub close_on : Geometry → Option Chan → ℕ → Events
close_on g None chan = refuses refusal.NotOpen
close_on g (Some p) chan = through_open g p.file PW (answers (reply.Closed false)) (close_in g chan p.mode)

unfoldable pub close_events : Geometry → Option Chan → ℕ → Events
close_events g channel chan = close_on g channel chan

-- ---- READ

-- a virtual block is 0 or past the allocated blocks
abbrev pub is_outside_file : Geometry → File → ℕ → Bool
is_outside_file g f vbn = (vbn == 0) || nat_lt (g.cluster * f.clusters) vbn

-- what comes next with a virtual block of a file, which is one of its blocks
abbrev pub within : Geometry → ℕ → (SeenFile → Events) → SeenFile → Events
within g vbn next f = if is_outside_file g f.file vbn then refuses refusal.EndOfFile else next f

-- a block at or above the mark is zeros, and is not looked at
abbrev pub read_in : ℕ → SeenFile → Events
read_in vbn f =
    if is_past_mark f.file vbn then answers (reply.Bytes zeros) else Fetch (file_place f vbn) (λ b. answers (reply.Bytes b))

abbrev pub read_on : Geometry → Option Chan → ℕ → Events
read_on g None vbn = refuses refusal.NotOpen
read_on g (Some p) vbn = through_open g p.file PR (refuses refusal.EndOfFile) (within g vbn (λ f. through_part g PR vbn f (read_in vbn)))

unfoldable pub read_events : Geometry → Option Chan → ℕ → Events
read_events g channel vbn = read_on g channel vbn

-- ---- WRITE

-- the header of a file whose mark and end come behind a virtual block that is written at or past them
unfoldable pub written_header : SeenFile → ℕ → Block
written_header f vbn = with_sizes f.head (ended (marked_up f.file vbn) vbn)

-- zeros from the mark to in front of a virtual block
abbrev pub zero_writes : SeenFile → ℕ → List PlanWrite
zero_writes f vbn = map (λ v. file_write f v zeros stage.Nothing) (range_with_len f.file.mark (vbn - f.file.mark))

-- the write of the first header with the mark and the end of the file
abbrev pub sizes_write : Geometry → SeenFile → ℕ → PlanWrite
sizes_write g f vbn = header_write g f.num (written_header f vbn) stage.Done empty_handed

-- At or above a mark the block shows once the header is written. Below it, or where there is none, it shows at once, and the
-- header follows where the end changes.
unfoldable pub block_writes : Geometry → SeenFile → ℕ → Block → List PlanWrite
block_writes g f vbn b =
    if is_past_mark f.file vbn then zero_writes f vbn ++ file_write f vbn b stage.Nothing ∷ sizes_write g f vbn ∷ []
    else if nat_le f.file.end vbn then file_write f vbn b stage.DataOnly ∷ sizes_write g f vbn ∷ []
    else file_write f vbn b stage.Done ∷ []

abbrev pub write_in : Geometry → ℕ → List ℕ → SeenFile → Events
write_in g vbn text f = Make (plan_of (block_writes g f vbn (text_block text)) reply.Written)

abbrev pub write_on : Geometry → Option Chan → ℕ → List ℕ → Events
write_on g None vbn text = refuses refusal.NotOpen
write_on g (Some p) vbn text =
    if is_reading p.mode then refuses refusal.NoPriv
    else through_open g p.file PW (refuses refusal.EndOfFile) (within g vbn (λ f. through_part g PW vbn f (write_in g vbn text)))

unfoldable pub write_events : Geometry → Option Chan → ℕ → List ℕ → Events
write_events g channel vbn text = write_on g channel vbn text
