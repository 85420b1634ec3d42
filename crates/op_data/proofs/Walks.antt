-- What holds of the events of READ and WRITE where it holds at their ends: no space is searched for, a refusal writes nothing, nothing
-- is asked, and nothing is left outside.
use Rattle.std.proofs.Common.{◌≡◌, ◌-◌, ◌*◌, ◌/◌, ◌++◌, ℕ, Bool, true, false, cond, List, [], ◌∷◌, Option, Some, None, map, refl}
use Rattle.std.specs.Prelude.{option_map, nat_le}
use Rattle.base_words.specs.Fields.{Block}
use Rattle.base_words.specs.Tables.{zeros}
use Rattle.fx_header.specs.declared.slot.Hdr.{Hdr}
use Rattle.lock_db.specs.declared.name.LockName.{LockName}
use Rattle.plain_cat.specs.declared.mode.Mode.{Mode}
use Rattle.plain_cat.specs.declared.mode.Mode.TheVariants.{PR, PW}
use Rattle.plain_cat.specs.declared.command.Cmd.TheVariants as cmd
use Rattle.plain_cat.specs.declared.history.Stage.{Stage}
use Rattle.plain_cat.specs.declared.history.Stage.TheVariants as stage
use Rattle.plain_cat.specs.declared.reply.Reply.TheVariants as reply
use Rattle.plain_cat.specs.declared.reply.Refusal.{Refusal}
use Rattle.plain_cat.specs.declared.reply.Refusal.TheVariants as refusal
use Rattle.plain_rules.specs.Changes.{is_past_mark, text_block}
use Rattle.plain_rules.specs.Lookups.{header_most}
use Rattle.plain_rules.specs.Answers.{is_reading}
use Rattle.vol_spell.specs.Owners.{Things, nothing}
use Rattle.vol_parts.specs.declared.geometry.Geometry.{Geometry}
use Rattle.vol_under.specs.UnderWay.{stage_after, outs_after}
use Rattle.op_law.specs.declared.seen.Chan.{Chan}
use Rattle.op_law.specs.Channels.{is_outside_file, within, read_in, read_on, read_events, zero_writes, sizes_write, block_writes, write_in, write_on, write_events}
use Rattle.op_law.specs.Events.{Events, Take, Look, Fetch, Make, Space, HasNoSpace, HasNoSearch}
use Rattle.op_law.specs.Fits.{things}
use Rattle.op_law.specs.Headers.{through_part}
use Rattle.op_law.specs.Laws.{planned}
use Rattle.op_law.specs.Needs.{events_of}
use Rattle.op_law.specs.Refusing.{SeenFile, seen_file, used_in, if_file, through_open}
use Rattle.op_law.specs.Rows.{answers, refuses}
use Rattle.op_law.specs.SeenFiles.{file_place, file_write}
use Rattle.op_law.specs.Writing.{plan_of}
use Rattle.op_law.proofs.Doing.{IsShaped}
use Rattle.op_law.proofs.Links.{links_so}
use Rattle.op_law.proofs.Ends.{EndsBy, nothing_given, outs_behind, stage_behind}
use Rattle.op_law.proofs.Through.{header_so}
use Rattle.op_law.proofs.Walking.{EveryPlan}

-- ---- the writes

-- after them nothing is outside
pub write_outs : (g : Geometry) (f : SeenFile) (vbn : ℕ) (b : Block) (o : Things) → outs_after o (map planned (block_writes g f vbn b)) ≡ nothing
unfolding block_writes
write_outs g f vbn b o = by_past (is_past_mark f.file vbn) where
  by_end : (t : Bool) → outs_after o (map planned (cond t (file_write f vbn b stage.DataOnly ∷ sizes_write g f vbn ∷ []) (file_write f vbn b stage.Done ∷ []))) ≡ nothing
  by_end true = refl
  by_end false = refl

  by_past : (t : Bool) → outs_after o (map planned (cond t (zero_writes f vbn ++ file_write f vbn b stage.Nothing ∷ sizes_write g f vbn ∷ [])
      (cond (nat_le f.file.end vbn) (file_write f vbn b stage.DataOnly ∷ sizes_write g f vbn ∷ []) (file_write f vbn b stage.Done ∷ [])))) ≡ nothing
  by_past true = outs_behind (zero_writes f vbn) (file_write f vbn b stage.Nothing ∷ sizes_write g f vbn ∷ []) o nothing (λ p. refl)
  by_past false = by_end (nat_le f.file.end vbn)

-- and the stage is the last one
pub write_stage : (g : Geometry) (f : SeenFile) (vbn : ℕ) (b : Block) (s : Stage) → stage_after s (map planned (block_writes g f vbn b)) ≡ stage.Done
unfolding block_writes
write_stage g f vbn b s = by_past (is_past_mark f.file vbn) where
  by_end : (t : Bool) → stage_after s (map planned (cond t (file_write f vbn b stage.DataOnly ∷ sizes_write g f vbn ∷ []) (file_write f vbn b stage.Done ∷ []))) ≡ stage.Done
  by_end true = refl
  by_end false = refl

  by_past : (t : Bool) → stage_after s (map planned (cond t (zero_writes f vbn ++ file_write f vbn b stage.Nothing ∷ sizes_write g f vbn ∷ [])
      (cond (nat_le f.file.end vbn) (file_write f vbn b stage.DataOnly ∷ sizes_write g f vbn ∷ []) (file_write f vbn b stage.Done ∷ [])))) ≡ stage.Done
  by_past true = stage_behind (zero_writes f vbn) (file_write f vbn b stage.Nothing ∷ sizes_write g f vbn ∷ []) s stage.Done (λ p. refl)
  by_past false = by_end (nat_le f.file.end vbn)

-- ---- the events

module _ (T : Events → Type 0) (take : (name : LockName) (mode : Mode) (next : Events) → T next → T (Take name mode next))
    (look : (name : LockName) (lbn : ℕ) (next : Block → Events) → ((b : Block) → T (next b)) → T (Look name lbn next)) (refused : (r : Refusal) → T (refuses r)) where
  -- behind the file of a channel, and its headers up to that of a virtual block
  open_so : (g : Geometry) (p : Chan) (mode : Mode) (vbn : ℕ) (next : SeenFile → Events) → ((f : SeenFile) → T (next f)) → T (through_open g p.file mode (refuses refusal.EndOfFile) (within g vbn (λ f. through_part g mode vbn f next)))
  open_so g p mode vbn next so = header_so T take look g p.file mode (λ b. if_file (refuses refusal.EndOfFile) (within g vbn (λ f. through_part g mode vbn f next)) (option_map (seen_file g p.file.num b) (used_in p.file.seq b)))
      (refused refusal.NoSuchFile) (λ b. by_used b (used_in p.file.seq b)) where
        by_outside : (f : SeenFile) (t : Bool) → T (cond t (refuses refusal.EndOfFile) (through_part g mode vbn f next))
        by_outside f true = refused refusal.EndOfFile
        by_outside f false = links_so T take look g mode ((vbn - 1) / (header_most * g.cluster)) f.head f next (λ rest len. so (record f { rest = rest }))

        by_used : (b : Block) (o : Option Hdr) → T (if_file (refuses refusal.EndOfFile) (within g vbn (λ f. through_part g mode vbn f next)) (option_map (seen_file g p.file.num b) o))
        by_used b None = refused refusal.EndOfFile
        by_used b (Some h) = by_outside (seen_file g p.file.num b h) (is_outside_file g (seen_file g p.file.num b h).file vbn)

  pub read_so : ((lbn : ℕ) (next : Block → Events) → ((b : Block) → T (next b)) → T (Fetch lbn next)) → ((b : Block) → T (answers (reply.Bytes b)))
      → (chan vbn : ℕ) (g : Geometry) (channel : Option Chan) → T (events_of g channel (cmd.ReadBlock chan vbn))
  unfolding events_of read_events
  read_so fetch bytes chan vbn g channel = by_channel channel where
    by_past : (f : SeenFile) (t : Bool) → T (cond t (answers (reply.Bytes zeros)) (Fetch (file_place f vbn) (λ b. answers (reply.Bytes b))))
    by_past f true = bytes zeros
    by_past f false = fetch (file_place f vbn) (λ b. answers (reply.Bytes b)) bytes

    by_channel : (o : Option Chan) → T (read_on g o vbn)
    by_channel None = refused refusal.NotOpen
    by_channel (Some p) = open_so g p PR vbn (read_in vbn) (λ f. by_past f (is_past_mark f.file vbn))

  pub write_so : ((g : Geometry) (f : SeenFile) (vbn : ℕ) (b : Block) → T (Make (plan_of (block_writes g f vbn b) reply.Written)))
      → (chan vbn : ℕ) (text : List ℕ) (g : Geometry) (channel : Option Chan) → T (events_of g channel (cmd.WriteBlock chan vbn text))
  unfolding events_of write_events
  write_so writes chan vbn text g channel = by_channel channel where
    by_reading : (p : Chan) (t : Bool) → T (cond t (refuses refusal.NoPriv) (through_open g p.file PW (refuses refusal.EndOfFile) (within g vbn (λ f. through_part g PW vbn f (write_in g vbn text)))))
    by_reading p true = refused refusal.NoPriv
    by_reading p false = open_so g p PW vbn (write_in g vbn text) (λ f. writes g f vbn (text_block text))

    by_channel : (o : Option Chan) → T (write_on g o vbn text)
    by_channel None = refused refusal.NotOpen
    by_channel (Some p) = by_reading p (is_reading p.mode)

-- ---- READ

pub read_no_search : (chan vbn : ℕ) (g : Geometry) (channel : Option Chan) → HasNoSearch (events_of g channel (cmd.ReadBlock chan vbn))
read_no_search = read_so HasNoSearch (λ name mode next h. h) (λ name lbn next h. h) (λ r. tt) (λ lbn next h. h) (λ b. tt)

-- a plan asks for nothing, and where it is refused it writes nothing
pub read_shaped : (chan vbn : ℕ) (g : Geometry) (channel : Option Chan) → EveryPlan IsShaped (events_of g channel (cmd.ReadBlock chan vbn))
read_shaped = read_so (EveryPlan IsShaped) (λ name mode next h. h) (λ name lbn next h. h) (λ r. record { ask = refl; refused = (refl, refl) }) (λ lbn next h. h) (λ b. record { ask = refl; refused = tt })

-- the command has nothing outside
pub read_end : (chan vbn : ℕ) (g : Geometry) (channel : Option Chan) (space : Space) → EndsBy (things space.clusters space.number) (HasNoSpace space) (events_of g channel (cmd.ReadBlock chan vbn))
read_end chan vbn g channel space = read_so (EndsBy (things space.clusters space.number) (HasNoSpace space)) (λ name mode next h. h) (λ name lbn next h. h) (λ r. nothing_given space) (λ lbn next h. h) (λ b. nothing_given space) chan vbn g channel

-- ---- WRITE

pub write_no_search : (chan vbn : ℕ) (text : List ℕ) (g : Geometry) (channel : Option Chan) → HasNoSearch (events_of g channel (cmd.WriteBlock chan vbn text))
write_no_search = write_so HasNoSearch (λ name mode next h. h) (λ name lbn next h. h) (λ r. tt) (λ g f vbn b. tt)

pub write_shaped : (chan vbn : ℕ) (text : List ℕ) (g : Geometry) (channel : Option Chan) → EveryPlan IsShaped (events_of g channel (cmd.WriteBlock chan vbn text))
write_shaped = write_so (EveryPlan IsShaped) (λ name mode next h. h) (λ name lbn next h. h) (λ r. record { ask = refl; refused = (refl, refl) }) (λ g f vbn b. record { ask = refl; refused = tt })

pub write_end : (chan vbn : ℕ) (text : List ℕ) (g : Geometry) (channel : Option Chan) (space : Space) → EndsBy (things space.clusters space.number) (HasNoSpace space) (events_of g channel (cmd.WriteBlock chan vbn text))
write_end chan vbn text g channel space = write_so (EndsBy (things space.clusters space.number) (HasNoSpace space)) (λ name mode next h. h) (λ name lbn next h. h) (λ r. nothing_given space)
    (λ g f vbn b none. write_outs g f vbn b (things space.clusters space.number)) chan vbn text g channel
