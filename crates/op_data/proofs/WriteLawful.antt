-- The law of WRITE.
use Rattle.std.proofs.Common.{◌≡◌, ◌∙◌, ◌-◌, ◌*◌, ◌/◌, inl, inr, ℕ, Bool, true, false, cond, List, [], ◌∷◌, Option, Some, None, take, refl, sym, subst}
use Rattle.base_words.specs.Fields.{Block}
use Rattle.fx_header.specs.declared.slot.Hdr.{Hdr}
use Rattle.lock_db.specs.declared.name.LockName.{LockName}
use Rattle.lock_db.specs.declared.name.LockName.TheVariants.{S}
use Rattle.plain_cat.specs.InForm.{is_count, is_text}
use Rattle.plain_cat.specs.declared.mode.Mode.{Mode}
use Rattle.plain_cat.specs.declared.mode.Mode.TheVariants.{PW}
use Rattle.plain_cat.specs.declared.command.Cmd.{Cmd}
use Rattle.plain_cat.specs.declared.command.Cmd.TheVariants as cmd
use Rattle.plain_cat.specs.declared.history.Stage.TheVariants as stage
use Rattle.plain_cat.specs.declared.reply.Reply.TheVariants as reply
use Rattle.plain_cat.specs.declared.reply.Refusal.{Refusal}
use Rattle.plain_cat.specs.declared.reply.Refusal.TheVariants as refusal
use Rattle.plain_cat.specs.declared.cat.Cat.{Cat}
use Rattle.plain_cat.specs.declared.cat.File.{File}
use Rattle.plain_rules.specs.Lookups.{file_at, channel_at, header_most}
use Rattle.plain_rules.specs.Changes.{with_file, text_block, written}
use Rattle.plain_rules.specs.Answers.{is_outside, is_reading, Answer}
use Rattle.vol_spell.specs.Owners.{Owners, Things, nothing, Outs}
use Rattle.vol_parts.specs.declared.geometry.Geometry.{Geometry}
use Rattle.vol_spell.specs.Reading.{header_block}
use Rattle.vol_spell.specs.Spelling.{Spells}
use Rattle.vol_under.specs.Chains.{End, Replied}
use Rattle.vol_under.specs.UnderWay.{StandsAt}
use Rattle.vol_under.proofs.Steps.{stands_first}
use Rattle.op_law.specs.declared.need.Plan.{Plan}
use Rattle.op_law.specs.declared.need.PlanWrite.{PlanWrite}
use Rattle.op_law.specs.declared.seen.Seen.{Seen}
use Rattle.op_law.specs.declared.seen.Chan.{Chan}
use Rattle.op_law.specs.Channels.{is_outside_file, within, block_writes, write_in, write_on, write_events}
use Rattle.op_law.specs.Events.{Events}
use Rattle.op_law.specs.Fits.{things}
use Rattle.op_law.specs.Headers.{through_part, locks_behind, part_file}
use Rattle.op_law.specs.Knows.{has_channel, knows}
use Rattle.op_law.specs.Laws.{held_in, planned, under_way, Lawful}
use Rattle.op_law.specs.Needs.{events_of}
use Rattle.op_law.specs.Refusing.{SeenFile, seen_file, through_open}
use Rattle.op_law.specs.Rows.{plain_plan, refuses}
use Rattle.op_law.specs.Writing.{empty_handed, plan_of}
use Rattle.op_law.proofs.Doing.{IsDone, refusal_done}
use Rattle.op_law.proofs.Spaceless.{spaceless_lawful}
use Rattle.op_law.proofs.Walking.{ObeysBy}
use Rattle.op_steps.specs.Chained.{Chain, StandsOn, StepsOf}
use Rattle.op_steps.specs.Files.{file_in}
use Rattle.vol_spell.specs.Files.{IsFileThere}
use Rattle.op_steps.specs.BlockWrites.{HasBlock}
use Rattle.op_steps.proofs.WriteGuards.{each_write, write_guards, write_leaves, write_fills}
use Rattle.op_steps.proofs.WriteSteps.{write_steps}
use Rattle.op_data.specs.Kinds.{IsWrite}
use Rattle.op_data.proofs.Channel.{HasOpen, both_hold, open_as}
use Rattle.op_data.proofs.OpenWalk.{open_file, open_used, part_open_obeys}
use Rattle.op_data.proofs.PartWrites.{writes_so}
use Rattle.op_data.proofs.Ranges.{is_within}
use Rattle.op_data.proofs.Texts.{whole_text}
use Rattle.op_data.proofs.Walks.{write_no_search, write_shaped, write_end, write_outs, write_stage}
use Rattle.op_data.proofs.Brief.{write_brief}
use Rattle.op_data.proofs.ReadLawful.{same_outside, has_block}
use Rattle.op_data.proofs.WriteReplies.{write_closed, write_reading, write_outside, write_answer, stands_data, stands_written}
use Rattle.op_law.proofs.Opens.{none_is}

module _ (chan vbn : ℕ) (text : List ℕ) (form : is_text text ≡ true) (node : ℕ) (seen : Seen) (bs : List Block) (own : Owners) (c : Cat) (stock : Things) (s : Spells seen.geometry bs own c)
    (given : things seen.clusters seen.number ≡ nothing) (outs : Outs node own nothing stock) where
  abbrev g : Geometry
  g = seen.geometry

  abbrev x : Cmd
  x = cmd.WriteBlock chan vbn text

  abbrev Done : List (LockName × Mode) → Plan → Type 0
  Done held p = IsDone (cmd.WriteBlock chan vbn text) node seen bs own c stock held p

  abbrev O : Events → List (LockName × Mode) → Type 0
  O es held = ObeysBy (cmd.WriteBlock chan vbn text) seen.geometry bs own c seen Done es held

  before : Outs node own (things seen.clusters seen.number) stock
  before = subst (λ t. Outs node own t stock) (sym given) outs

  no : (r : Refusal) → Answer c node (cmd.WriteBlock chan vbn text) (reply.Refused r) c → (held : List (LockName × Mode)) → Done held (plain_plan (reply.Refused r))
  no r answer held = refusal_done x node seen bs own c stock s before r answer held

  module _ (p : Chan) (opened : HasOpen c node chan p) (reads : is_reading p.mode ≡ false) (h : Hdr) (there : IsFileThere seen.geometry c bs p.file.num h opened.file) where
    abbrev n : ℕ
    n = p.file.num

    abbrev sf : SeenFile
    sf = file_in seen.geometry bs p.file.num h

    at_file : file_at c p.file.num ≡ Some opened.file
    at_file = open_file c node chan p opened

    writes_it : is_reading opened.mode ≡ false
    writes_it = opened.same ∙ reads

    outside : is_outside_file seen.geometry (seen_file seen.geometry p.file.num (header_block seen.geometry bs p.file.num) h).file vbn ≡ true → Done ((S p.file.num, PW) ∷ []) (plain_plan (reply.Refused refusal.EndOfFile))
    outside e = no refusal.EndOfFile (write_outside c node chan vbn text n opened.mode opened.file opened.at at_file writes_it (same_outside g bs own c n h opened.file vbn s there ∙ e)) ((S n, PW) ∷ [])

    module _ (inside : is_outside_file seen.geometry (seen_file seen.geometry p.file.num (header_block seen.geometry bs p.file.num) h).file vbn ≡ false) where
      -- the file by the headers up to that which lists the block, and the locks that are held then
      abbrev pf : SeenFile
      pf = part_file seen.geometry bs p.file.num h ((vbn - 1) / (header_most * seen.geometry.cluster))

      abbrev held : List (LockName × Mode)
      held = (S p.file.num, PW) ∷ take ((vbn - 1) / (header_most * seen.geometry.cluster)) (locks_behind seen.geometry bs p.file.num PW)

      abbrev names : List LockName
      names = held_in PW held

      abbrev f : File
      f = opened.file

      has : HasBlock seen.geometry c bs p.file.num h opened.file vbn
      has = has_block g bs own c n h opened.file vbn s there opened.flat inside

      inside_so : is_outside c opened.file vbn ≡ false
      inside_so = same_outside g bs own c n h opened.file vbn s there ∙ inside

      abbrev writes : List PlanWrite
      writes = block_writes seen.geometry (file_in seen.geometry bs p.file.num h) vbn (text_block text)

      abbrev k : Chain
      k = record { geometry = seen.geometry; node = node; cmd = Some (cmd.WriteBlock chan vbn text); locks = names; cat = c; stock = stock }

      abbrev last_cat : Cat
      last_cat = with_file c p.file.num (written opened.file vbn text)

      abbrev end : End
      end = Replied seen.geometry node (under_way x seen writes (knows node x seen)) x reply.Written c stock

      done_stage : StandsAt c node (Some (cmd.WriteBlock chan vbn text)) stage.Done last_cat
      done_stage = stands_written c node chan vbn text n opened.mode opened.file opened.at at_file writes_it inside_so

      last_end : (after : List Block) → StandsOn k empty_handed last_cat after own → end after own
      last_end after on = (
        last_cat,
        subst (λ st. StandsAt c node (Some (cmd.WriteBlock chan vbn text)) st last_cat) (sym (write_stage g sf vbn (text_block text) stage.Nothing)) done_stage,
        on.spelt,
        subst (λ t. Outs node own t stock) (sym (write_outs g sf vbn (text_block text) (things seen.clusters seen.number))) outs,
        c.opens,
        write_answer c node chan vbn text n opened.mode opened.file opened.at at_file writes_it inside_so,
      )

      steps : StepsOf end k writes bs own
      steps =
          write_steps end k n h opened.file vbn (text_block text) c bs own (record { spelt = s; outs = outs }) has (whole_text text form) (inl refl)
          (stands_first c node (Some x))
          (λ shows. stands_data c node chan vbn text n opened.mode opened.file opened.at at_file writes_it inside_so shows)
          done_stage last_end

      whole_done : Done held (plan_of writes reply.Written)
      whole_done = record {
        named = write_guards g n h opened.file vbn (text_block text) c bs own node names s has (inl refl);
        dirs = write_leaves g n h opened.file vbn (text_block text) c bs own s has;
        slots = write_fills g n h opened.file vbn (text_block text) c bs own (things seen.clusters seen.number) s has;
        kept_out = λ w t. inl (each_write (λ v. (planned v).outs ≡ nothing) g sf vbn (text_block text) has.from (λ v from to b st. refl) refl w t);
        steps = steps;
      }

      -- the writes are those by all headers of the file
      write_done : Done held (plan_of (block_writes seen.geometry pf vbn (text_block text)) reply.Written)
      write_done =
          let within = is_within g n (header_block g bs n) h vbn inside in
          subst (λ ws. Done held (plan_of ws reply.Written))
          (sym (writes_so g bs own c s n h there.number (open_used g bs own c s node chan p opened h there) opened.above vbn within.0 within.1 (text_block text))) whole_done

  by_reading : (p : Chan) → HasOpen c node chan p → (t : Bool) → is_reading p.mode ≡ t
      → O (cond t (refuses refusal.NoPriv) (through_open seen.geometry p.file PW (refuses refusal.EndOfFile) (within seen.geometry vbn (λ f. through_part seen.geometry PW vbn f (write_in seen.geometry vbn text))))) []
  by_reading p opened true e = no refusal.NoPriv (write_reading c node chan vbn text p.file.num opened.mode opened.file opened.at (open_file c node chan p opened) (opened.same ∙ e)) []
  by_reading p opened false e = part_open_obeys g bs own c s node chan p opened x seen Done PW (inr (inl refl)) vbn (write_in g vbn text) (outside p opened e) (write_done p opened e)

  by_channel : (o : Option Chan) → has_channel c node (Some chan) o ≡ true → O (write_on seen.geometry o vbn text) []
  by_channel None e = no refusal.NotOpen (write_closed c node chan vbn text (none_is (channel_at c node chan) e)) []
  by_channel (Some p) e = by_reading p (open_as c node chan p (channel_at c node chan) refl e) (is_reading p.mode) refl

  -- on these blocks the command needs what it may, and its plan is done
  pub write_obeys : knows node (cmd.WriteBlock chan vbn text) seen c ≡ true → O (events_of seen.geometry seen.channel (cmd.WriteBlock chan vbn text)) []
  unfolding events_of write_events
  write_obeys known = by_channel seen.channel (both_hold (has_channel c node (Some chan) seen.channel) _ known).0

-- WRITE is lawful
pub write_lawful : (x : Cmd) → IsWrite x → Lawful x
write_lawful (cmd.WriteBlock chan vbn text) is = spaceless_lawful (cmd.WriteBlock chan vbn text) (record {
  searches = write_no_search chan vbn text;
  shaped = write_shaped chan vbn text;
  ends = write_end chan vbn text;
  obeys = λ node seen bs own c stock s given outs known. write_obeys chan vbn text (both_hold (is_count vbn) (is_text text) is).1 node seen bs own c stock s given outs known;
  brief = write_brief chan vbn text;
})
write_lawful other is = absurd is
