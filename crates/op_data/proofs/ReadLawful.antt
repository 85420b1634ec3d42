-- The law of READ.
use Rattle.std.proofs.Common.{◌≡◌, ◌*◌, ◌/◌, ◌∙◌, inl, ℕ, Bool, true, false, cond, List, [], ◌∷◌, Option, Some, None, take, slice_get, refl, sym, ap, subst, arith}
use Rattle.std.specs.Prelude.{◌==◌, ◌||◌, ◌-◌, nat_lt, slice_index_or}
use Rattle.base_words.specs.Fields.{Block}
use Rattle.base_words.specs.Tables.{zeros}
use Rattle.fx_header.specs.declared.slot.Hdr.{Hdr}
use Rattle.lock_db.specs.declared.name.LockName.{LockName}
use Rattle.lock_db.specs.declared.name.LockName.TheVariants.{S}
use Rattle.plain_cat.specs.declared.mode.Mode.{Mode}
use Rattle.plain_cat.specs.declared.mode.Mode.TheVariants.{PR}
use Rattle.plain_cat.specs.declared.command.Cmd.{Cmd}
use Rattle.plain_cat.specs.declared.command.Cmd.TheVariants as cmd
use Rattle.plain_cat.specs.declared.reply.Reply.{Reply}
use Rattle.plain_cat.specs.declared.reply.Reply.TheVariants as reply
use Rattle.plain_cat.specs.declared.reply.Refusal.TheVariants as refusal
use Rattle.plain_cat.specs.declared.cat.Cat.{Cat}
use Rattle.plain_cat.specs.declared.cat.File.{File}
use Rattle.plain_rules.specs.Lookups.{file_at, channel_at, header_most}
use Rattle.plain_rules.specs.Changes.{is_past_mark, block_of}
use Rattle.plain_rules.specs.Answers.{is_outside, Answer}
use Rattle.vol_spell.specs.Owners.{Owners, Things, nothing, Outs}
use Rattle.vol_parts.specs.declared.geometry.Geometry.{Geometry}
use Rattle.vol_parts.specs.Catalogues.{file_of}
use Rattle.vol_spell.specs.Reading.{header_block}
use Rattle.vol_spell.specs.Spelling.{Spells}
use Rattle.vol_under.specs.Guards.{MayLook}
use Rattle.vol_under.proofs.Steps.{stands_first}
use Rattle.op_law.specs.declared.need.Plan.{Plan}
use Rattle.op_law.specs.declared.seen.Seen.{Seen}
use Rattle.op_law.specs.declared.seen.Chan.{Chan}
use Rattle.op_law.specs.Channels.{is_outside_file, read_in, read_on, read_events}
use Rattle.op_law.specs.Events.{Events, Fetch}
use Rattle.op_law.specs.Fits.{things}
use Rattle.op_law.specs.Headers.{locks_behind, part_file}
use Rattle.op_law.specs.Knows.{has_channel, knows}
use Rattle.op_law.specs.Laws.{held_in, IsGuardedLook, Lawful}
use Rattle.op_law.specs.Needs.{events_of}
use Rattle.op_law.specs.Refusing.{SeenFile, seen_file}
use Rattle.op_law.specs.Rows.{plain_plan, answers}
use Rattle.op_law.specs.SeenFiles.{file_place}
use Rattle.op_law.proofs.Doing.{IsDone}
use Rattle.op_law.proofs.Spaceless.{spaceless_lawful}
use Rattle.op_law.proofs.Walking.{ObeysBy}
use Rattle.op_steps.specs.Files.{file_in}
use Rattle.vol_spell.specs.Files.{IsFileThere}
use Rattle.op_steps.specs.BlockWrites.{HasBlock}
use Rattle.vol_spell.specs.Files.{blocks_told as blocks_in}
use Rattle.op_steps.proofs.Places.{guard, lies}
use Rattle.vol_spell.proofs.FilePlaces.{file}
use Rattle.op_data.specs.Kinds.{IsRead}
use Rattle.op_data.proofs.Channel.{HasOpen, both_hold, open_as}
use Rattle.op_data.proofs.Shows.{block_shows}
use Rattle.op_data.proofs.OpenWalk.{open_file, open_used, part_open_obeys}
use Rattle.op_data.proofs.PartWrites.{place_so}
use Rattle.op_data.proofs.Ranges.{in_range, is_within}
use Rattle.op_data.proofs.Walks.{read_no_search, read_shaped, read_end}
use Rattle.op_data.proofs.Brief.{read_brief}
use Rattle.op_data.proofs.ReadReplies.{read_closed, read_outside, read_bytes}
use Rattle.op_law.proofs.Opens.{none_is}

-- a virtual block is one of the file's blocks, by the blocks as by the catalogue
pub same_outside : (g : Geometry) (bs : List Block) (own : Owners) (c : Cat) (n : ℕ) (h : Hdr) (f : File) (vbn : ℕ) → Spells g bs own c → IsFileThere g c bs n h f → is_outside c f vbn ≡ is_outside_file g (file_in g bs n h).file vbn
same_outside g bs own c n h f vbn s there =
    ap (λ w. (vbn == 0) || nat_lt (w * f.clusters) vbn) s.constants.factor
    ∙ ap (λ (y : File). (vbn == 0) || nat_lt (g.cluster * y.clusters) vbn) (file g bs own c n h f s there)

pub has_block : (g : Geometry) (bs : List Block) (own : Owners) (c : Cat) (n : ℕ) (h : Hdr) (f : File) (vbn : ℕ) → Spells g bs own c → IsFileThere g c bs n h f → f.dir ≡ false → is_outside_file g (file_in g bs n h).file vbn ≡ false → HasBlock g c bs n h f vbn
has_block g bs own c n h f vbn s there flat inside =
    let e : (vbn == 0) || nat_lt (g.cluster * f.clusters) vbn ≡ false = ap (λ (y : File). (vbn == 0) || nat_lt (g.cluster * y.clusters) vbn) (file g bs own c n h f s there) ∙ inside in
    let low = in_range vbn (g.cluster * f.clusters) e in
    record { there = there; flat = flat; from = low.0; to = low.1 }

module _ (chan vbn : ℕ) (node : ℕ) (seen : Seen) (bs : List Block) (own : Owners) (c : Cat) (stock : Things) (s : Spells seen.geometry bs own c)
    (given : things seen.clusters seen.number ≡ nothing) (outs : Outs node own nothing stock) where
  abbrev g : Geometry
  g = seen.geometry

  abbrev x : Cmd
  x = cmd.ReadBlock chan vbn

  abbrev Done : List (LockName × Mode) → Plan → Type 0
  Done held p = IsDone (cmd.ReadBlock chan vbn) node seen bs own c stock held p

  abbrev O : Events → List (LockName × Mode) → Type 0
  O es held = ObeysBy (cmd.ReadBlock chan vbn) seen.geometry bs own c seen Done es held

  before : Outs node own (things seen.clusters seen.number) stock
  before = subst (λ t. Outs node own t stock) (sym given) outs

  -- an answer writes nothing
  unchanged : (r : Reply) → Answer c node (cmd.ReadBlock chan vbn) r c → (held : List (LockName × Mode)) → Done held (plain_plan r)
  unchanged r answer held = record { named = λ w t. absurd t; dirs = λ w t. absurd t; slots = λ w t. absurd t; kept_out = λ w t. absurd t; steps = (c, stands_first c node (Some x), s, before, c.opens, answer) }

  module _ (p : Chan) (opened : HasOpen c node chan p) (h : Hdr) (there : IsFileThere seen.geometry c bs p.file.num h opened.file) where
    abbrev n : ℕ
    n = p.file.num

    abbrev sf : SeenFile
    sf = file_in seen.geometry bs p.file.num h

    at_file : file_at c p.file.num ≡ Some opened.file
    at_file = open_file c node chan p opened

    told : opened.file ≡ file_of seen.geometry.cluster p.file.num h (blocks_in seen.geometry bs p.file.num)
    told = file g bs own c n h opened.file s there

    outside : is_outside_file seen.geometry (seen_file seen.geometry p.file.num (header_block seen.geometry bs p.file.num) h).file vbn ≡ true → Done ((S p.file.num, PR) ∷ []) (plain_plan (reply.Refused refusal.EndOfFile))
    outside e = unchanged (reply.Refused refusal.EndOfFile) (read_outside c node chan vbn n opened.mode opened.file opened.at at_file (same_outside g bs own c n h opened.file vbn s there ∙ e)) ((S n, PR) ∷ [])

    module _ (inside : is_outside_file seen.geometry (seen_file seen.geometry p.file.num (header_block seen.geometry bs p.file.num) h).file vbn ≡ false) where
      has : HasBlock seen.geometry c bs p.file.num h opened.file vbn
      has = has_block g bs own c n h opened.file vbn s there opened.flat inside

      -- the file by the headers up to that which lists the block, and the locks that are held then
      abbrev pf : SeenFile
      pf = part_file seen.geometry bs p.file.num h ((vbn - 1) / (header_most * seen.geometry.cluster))

      abbrev all : List (LockName × Mode)
      all = (S p.file.num, PR) ∷ take ((vbn - 1) / (header_most * seen.geometry.cluster)) (locks_behind seen.geometry bs p.file.num PR)

      same_place : file_place pf vbn ≡ file_place (file_in seen.geometry bs p.file.num h) vbn
      same_place =
          let within = is_within g n (header_block g bs n) h vbn inside in
          place_so g bs own c s n h there.number (open_used g bs own c s node chan p opened h there) opened.above vbn within.0 within.1 vbn within.0 (omega arith)

      bytes : (b : Block) → block_of opened.file vbn ≡ b → Done all (plain_plan (reply.Bytes b))
      bytes b shows = unchanged (reply.Bytes b) (read_bytes c node chan vbn n opened.mode opened.file opened.at at_file (same_outside g bs own c n h opened.file vbn s there ∙ inside) b shows) all

      -- the block is under the file's lock
      look : IsGuardedLook seen.geometry bs own all (file_place pf vbn)
      look = subst (IsGuardedLook seen.geometry bs own all) (sym same_place) (record {
        guard = subst (MayLook (held_in PR all)) (sym (guard g bs own c n h opened.file s there vbn has.from has.to)) (inl refl);
        within = (lies g bs own c n h opened.file s there vbn has.from has.to).within;
      })

      by_past : (t : Bool) → is_past_mark (file_in seen.geometry bs p.file.num h).file vbn ≡ t → O (cond t (answers (reply.Bytes zeros)) (Fetch (file_place pf vbn) (λ b. answers (reply.Bytes b)))) all
      by_past true e =
          let past : is_past_mark opened.file vbn ≡ true = ap (λ (y : File). is_past_mark y vbn) told ∙ e in
          bytes zeros (ap (λ (t : Bool). cond t zeros (slice_index_or opened.file.written (vbn - 1) zeros)) past)
      by_past false e =
          let past : is_past_mark opened.file vbn ≡ false = ap (λ (y : File). is_past_mark y vbn) told ∙ e in
          (look, λ b at. bytes b (block_shows g bs own c n h opened.file vbn b s has past (subst (λ l. slice_get bs l ≡ Some b) same_place at)))

      shown : O (read_in vbn pf) all
      shown = by_past (is_past_mark sf.file vbn) refl

  by_channel : (o : Option Chan) → has_channel c node (Some chan) o ≡ true → O (read_on seen.geometry o vbn) []
  by_channel None e = unchanged (reply.Refused refusal.NotOpen) (read_closed c node chan vbn (none_is (channel_at c node chan) e)) []
  by_channel (Some p) e =
      let opened = open_as c node chan p (channel_at c node chan) refl e in
      part_open_obeys g bs own c s node chan p opened x seen Done PR (inl refl) vbn (read_in vbn) (outside p opened) (shown p opened)

  -- on these blocks the command needs what it may, and its plan is done
  pub read_obeys : knows node (cmd.ReadBlock chan vbn) seen c ≡ true → O (events_of seen.geometry seen.channel (cmd.ReadBlock chan vbn)) []
  unfolding events_of read_events
  read_obeys known = by_channel seen.channel (both_hold (has_channel c node (Some chan) seen.channel) _ known).0

-- READ is lawful
pub read_lawful : (x : Cmd) → IsRead x → Lawful x
read_lawful (cmd.ReadBlock chan vbn) is = spaceless_lawful (cmd.ReadBlock chan vbn) (record {
  searches = read_no_search chan vbn;
  shaped = read_shaped chan vbn;
  ends = read_end chan vbn;
  obeys = λ node seen bs own c stock s given outs known. read_obeys chan vbn node seen bs own c stock s given outs known;
  brief = read_brief chan vbn;
})
read_lawful other is = absurd is
