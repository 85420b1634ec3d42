-- The law of CREATE and MKDIR.
use Rattle.std.proofs.Common.{◌≡◌, ◌≤◌, ◌∙◌, ℕ, List, [], ◌∷◌, Option, Some, None, length, sym, ap, subst}
use Rattle.base_words.specs.Fields.{Block}
use Rattle.fx_header.specs.declared.slot.Hdr.{Hdr}
use Rattle.fx_header.specs.Headers.{header_read}
use Rattle.lock_db.specs.declared.name.LockName.{LockName}
use Rattle.lock_db.specs.declared.name.LockName.TheVariants.{S, Q}
use Rattle.plain_cat.specs.declared.mode.Mode.{Mode}
use Rattle.plain_cat.specs.declared.mode.Mode.TheVariants.{PW}
use Rattle.plain_cat.specs.declared.entries.DirEnt.{DirEnt}
use Rattle.plain_cat.specs.declared.command.Cmd.{Cmd}
use Rattle.plain_cat.specs.declared.history.Stage.TheVariants as stage
use Rattle.plain_cat.specs.declared.reply.Reply.TheVariants as reply
use Rattle.plain_cat.specs.declared.reply.Refusal.{Refusal}
use Rattle.plain_cat.specs.declared.cat.Cat.{Cat}
use Rattle.plain_cat.specs.declared.cat.File.{File}
use Rattle.plain_cat.specs.declared.reply.Refusal.TheVariants as refusal
use Rattle.plain_rules.specs.Lookups.{free_clusters}
use Rattle.plain_rules.specs.Changes.{next_seq}
use Rattle.plain_rules.specs.Answers.{first_refusal, shown, Answer}
use Rattle.vol_spell.specs.Owners.{Owners, Things, nothing, Outs}
use Rattle.vol_spell.specs.Spread.{blocks_at}
use Rattle.vol_parts.specs.declared.geometry.Geometry.{Geometry}
use Rattle.vol_spell.specs.Reading.{header_block, quota_places}
use Rattle.vol_spell.specs.Spelling.{Spells}
use Rattle.vol_under.specs.Chains.{Replied}
use Rattle.vol_under.specs.UnderWay.{StandsAt}
use Rattle.op_law.specs.declared.need.Plan.{Plan}
use Rattle.op_law.specs.declared.seen.Seen.{Seen}
use Rattle.op_law.specs.Needs.{events_of}
use Rattle.op_law.specs.Fits.{things}
use Rattle.op_law.specs.Rows.{plain_plan, entries_seen}
use Rattle.op_law.specs.Writing.{plan_of}
use Rattle.op_law.specs.Entering.{NewEntry, numbered, entry_for, making_writes, slot_seq, quota_refusals}
use Rattle.op_law.specs.Laws.{held_in, LeavesSlots, KeepsOut, Lawful}
use Rattle.op_law.proofs.Walking.{ObeysBy}
use Rattle.op_law.proofs.Through.{file_told, listed_blocks, IsListed}
use Rattle.op_steps.specs.EntryWrites.{dir_in}
use Rattle.op_law.proofs.Doing.{busy, IsDone, refusal_done, does_lawful}
use Rattle.op_create.specs.Kinds.{IsMake}
use Rattle.op_create.proofs.Makers.{Maker, to_make, maker, events_are}
use Rattle.op_create.proofs.Searches.{makes_once, makes_shaped}
use Rattle.op_create.proofs.Ends.{making_outs, making_stage_is, making_kept, makes_end}
use Rattle.op_create.proofs.Forms.{file_of_seq}
use Rattle.op_create.proofs.Sequences.{sequence_is}
use Rattle.op_law.proofs.Spaces.{IsSpace, IsKnown, known_space}
use Rattle.op_create.proofs.Replies.{after_for, refuses_none, refuses_plain, refuses_shown, refuses_unpaid, refuses_short, stands_done, makes_answer}
use Rattle.op_create.proofs.Making.{made, making_steps, making_named, making_leaves, making_fills, making_moved}
use Rattle.op_create.proofs.Walks.{makes_obey}
use Rattle.op_create.proofs.Brief.{makes_brief}

things_are : (cs qs : List ℕ) (m n : Option ℕ) → cs ≡ qs → m ≡ n → things cs m ≡ things qs n
things_are cs qs m n e f = ap (λ y. things cs y) f ∙ ap (λ ys. things ys n) e

module _ (x : Cmd) (is : IsMake x) (node : ℕ) (seen : Seen) where
  abbrev g : Geometry
  g = seen.geometry

  abbrev m : Maker
  m = maker g x is

  module _ (bs : List Block) (own : Owners) (c : Cat) (stock : Things) (s : Spells g bs own c) (outs : Outs node own (things seen.clusters seen.number) stock) where
    abbrev Done : List (LockName × Mode) → Plan → Type 0
    Done held p = IsDone x node seen bs own c stock held p

    no : (r : Refusal) → Answer c node x (reply.Refused r) c → (held : List (LockName × Mode)) → Done held (plain_plan (reply.Refused r))
    no r answer held = refusal_done x node seen bs own c stock s outs r answer held

    module _ (f : Hdr) (dir : IsListed g bs c m.dir f) where
      abbrev d : File
      d = file_told bs g m.dir f

      abbrev es : List DirEnt
      es = entries_seen (listed_blocks bs g m.dir)

      -- what the entries that were seen refuse, the catalogue's refuse
      alike : (o : Option Refusal) → first_refusal (m.refusals es) ≡ o → first_refusal (m.refusals d.entries) ≡ o
      alike o h = ap (λ y. first_refusal (m.refusals y)) dir.entries ∙ h

      module _ (order : first_refusal (m.refusals es) ≡ None) (paid : first_refusal (quota_refusals g (to_make m []) c.quota) ≡ None) (n : ℕ) (qs : List ℕ) (space : IsSpace g c qs n) (out : Outs node own (things qs (Some n)) stock)
          (count : length qs ≡ m.file.clusters) (given : things seen.clusters seen.number ≡ things qs (Some n)) where
        abbrev order_at : first_refusal (m.refusals d.entries) ≡ None
        order_at = alike None order

        abbrev new : NewEntry
        new = made x is node g bs own c s stock f dir order_at paid n qs space out count

        -- the plan with what is made under its number
        abbrev made_plan : NewEntry → Plan
        made_plan y = plan_of (making_writes g (dir_in g bs m.dir) (blocks_at bs (quota_places g)) y n qs) (shown (entry_for n y))

        same_new : new ≡ numbered (header_block g bs n) (to_make m es)
        same_new =
            ap (λ (q : ℕ). made_with (m.ver d.entries) q) (sym (sequence_is g bs own c s n space.number))
            ∙ ap (λ y. made_with (m.ver y) (next_seq (slot_seq (header_read (header_block g bs n))))) dir.entries where
              made_with : ℕ → ℕ → NewEntry
              made_with ver seq = record { name = m.name; ver = ver; file = file_of_seq m seq }

        abbrev k_locks : List (LockName × Mode)
        k_locks = (S m.dir.num, PW) ∷ (Q, PW) ∷ (S n, PW) ∷ []

        finish : (bs' : List Block) (own' : Owners) → Spells g bs' own' (after_for g c m d n) → Outs node own' nothing stock → Replied g node (busy x node seen (made_plan new)) x (shown (entry_for n new)) c stock bs' own'
        finish bs' own' spelt outs' =
            let moved = making_moved x is node g bs own c s stock f dir order_at paid n qs space out count in
            let stage_is = making_stage_is g (dir_in g bs m.dir) (blocks_at bs (quota_places g)) new n qs stage.Nothing moved in
            let outs_are = making_outs g (dir_in g bs m.dir) (blocks_at bs (quota_places g)) new n qs (things seen.clusters seen.number) in
            let enough : m.file.clusters ≤ free_clusters c = subst (λ j. j ≤ free_clusters c) count space.enough in (
              after_for g c m d n,
              subst (λ st. StandsAt c node (Some x) st (after_for g c m d n)) (sym stage_is) (stands_done g c s.constants.factor node x is d dir.live dir.dir order_at paid n enough space.pick),
              spelt,
              subst (λ t. Outs node own' t stock) (sym outs_are) outs',
              c.opens,
              makes_answer g c s.constants.factor node x is d dir.live dir.dir order_at paid n enough space.pick,
            )

        made_done : Done k_locks (made_plan (numbered (header_block g bs n) (to_make m es)))
        made_done = subst (λ y. Done k_locks (made_plan y)) same_new (record {
          named = making_named x is node g bs own c s stock f dir order_at paid n qs space out count;
          dirs = making_leaves x is node g bs own c s stock f dir order_at paid n qs space out count;
          slots = subst (λ (t : Things). LeavesSlots g own t (making_writes g (dir_in g bs m.dir) (blocks_at bs (quota_places g)) new n qs)) (sym given)
              (making_fills x is node g bs own c s stock f dir order_at paid n qs space out count);
          kept_out = subst (λ (t : Things). KeepsOut t (held_in PW k_locks) (making_writes g (dir_in g bs m.dir) (blocks_at bs (quota_places g)) new n qs)) (sym given)
              (making_kept (held_in PW k_locks) g (dir_in g bs m.dir) (blocks_at bs (quota_places g)) new n qs);
          steps = making_steps x is node g bs own c s stock f dir order_at paid n qs space out count (Replied g node (busy x node seen (made_plan new)) x (shown (entry_for n new)) c stock) finish;
        })

    -- on these blocks the command needs what it may, and its plan is done
    obeys : IsKnown node x seen own c stock → ObeysBy x g bs own c seen Done (events_of g seen.channel x) []
    obeys known =
        let f = s.constants.factor in
        subst (λ es. ObeysBy x g bs own c seen Done es []) (sym (events_are x is g seen.channel))
        (makes_obey x is node seen bs own c s stock known Done
        (λ none. no refusal.NoSuchFile (refuses_none g c f node x is none))
        (λ h lives plain. no refusal.NotDir (refuses_plain g c f node x is (file_told bs g m.dir h) lives plain))
        (λ h dir r shows. no r (refuses_shown g c f node x is (file_told bs g m.dir h) dir.live dir.dir r (alike h dir (Some r) shows)))
        (λ h dir order r paid. no r (refuses_unpaid g c f node x is (file_told bs g m.dir h) dir.live dir.dir (alike h dir None order) r paid))
        (λ h dir order r paid short. no r (refuses_short g c f node x is (file_told bs g m.dir h) dir.live dir.dir (alike h dir None order) paid r short))
        (λ h dir order n qs paid space out count of_space. made_done h dir order paid n qs space out count (things_are seen.clusters qs seen.number (Some n) of_space.clusters of_space.number)))

-- CREATE and MKDIR are lawful
pub create_lawful : (x : Cmd) → IsMake x → Lawful x
create_lawful x is = does_lawful x (record {
  searches = makes_once x is;
  shaped = makes_shaped x is;
  ends = makes_end x is;
  obeys = λ node seen bs own c stock s outs known. obeys x is node seen bs own c stock s outs (known_space node x seen own c stock outs known);
  brief = makes_brief x is;
})
