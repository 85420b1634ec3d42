-- The writes of EXTEND as a chain of steps, and what guards them.
use Rattle.std.proofs.Common.{◌≡◌, ◌≤◌, ◌<◌, ◌+◌, ◌*◌, ◌∙◌, inl, ℕ, Bool, true, false, List, [], Option, Some, None, length, refl, sym, ap, subst, arith, append-nil}
use Rattle.std.specs.Prelude.{Ok, ◌||◌, ◌&&◌, nat_le, is_some, is_none, option_map, IfSome}
use Rattle.std.specs.List.{list_all}
use Rattle.std.proofs.lemmas.Bool.Decides.{nat_tests}
use Rattle.base_words.specs.Fields.{Block}
use Rattle.base_words.specs.Lists.{Has}
use Rattle.fx_header.specs.declared.slot.Hdr.{Hdr}
use Rattle.fx_header.specs.declared.slot.Slot.TheVariants as head
use Rattle.fx_header.specs.Headers.{header_read}
use Rattle.lock_db.specs.declared.name.LockName.{LockName}
use Rattle.lock_db.specs.declared.name.LockName.TheVariants.{S, Q}
use Rattle.plain_cat.specs.declared.ids.Fid.{Fid}
use Rattle.plain_cat.specs.declared.command.Cmd.TheVariants as cmd
use Rattle.plain_cat.specs.declared.history.Stage.TheVariants as stage
use Rattle.plain_cat.specs.declared.cat.Cat.{Cat}
use Rattle.plain_cat.specs.declared.cat.File.{File}
use Rattle.plain_cat.specs.declared.cat.QuotaRow.{QuotaRow}
use Rattle.plain_rules.specs.Lookups.{live, row_of, free_clusters, header_most, file_most, needs_header}
use Rattle.plain_rules.specs.Changes.{with_file, grown}
use Rattle.plain_rules.specs.Answers.{first_refusal, IsPick}
use Rattle.vol_spell.specs.Owners.{Owners, Things, nothing, Outs}
use Rattle.vol_spell.specs.Spread.{blocks_at}
use Rattle.vol_parts.specs.declared.geometry.Geometry.{Geometry}
use Rattle.vol_spell.specs.Reading.{IsFileNumber, header_block, quota_places, head_told, fields_told}
use Rattle.vol_spell.specs.Spelling.{Spells}
use Rattle.vol_spell.specs.Files.{IsFileThere}
use Rattle.vol_spell.specs.Rows.{IsInRange, row_for}
use Rattle.vol_under.specs.Chains.{End}
use Rattle.vol_under.specs.UnderWay.{StandsAt}
use Rattle.op_law.specs.declared.need.PlanWrite.{PlanWrite}
use Rattle.op_law.specs.Entering.{slot_seq}
use Rattle.op_law.specs.Fits.{things}
use Rattle.op_law.specs.Headers.{headers_grown}
use Rattle.op_law.specs.Knows.{is_charged}
use Rattle.op_law.specs.Laws.{AreNamed, LeavesDirs, LeavesSlots}
use Rattle.op_law.specs.Refusing.{SeenFile}
use Rattle.op_law.specs.Rows.{live_in}
use Rattle.op_law.specs.Sizes.{growing_writes}
use Rattle.op_law.specs.Writing.{holding, clusters_for}
use Rattle.op_law.specs.Quotas.{row_charged, owner_write}
use Rattle.op_law.proofs.Chains.{other_number}
use Rattle.op_law.proofs.Naming.{both_named, both_leave, no_header_leaves, both_fill, no_header_fills}
use Rattle.op_law.proofs.Refusals.{passed}
use Rattle.op_law.proofs.Telling.{live_reads}
use Rattle.op_law.proofs.Through.{file_told}
use Rattle.vol_spell.proofs.HeadSlots.{reads_fields}
use Rattle.op_steps.specs.Chained.{Chain, StepsOf, after_writes, StandsOn, FilesStay}
use Rattle.op_steps.specs.Files.{file_in}
use Rattle.op_steps.specs.GrownWrites.{IsNewSlot, CanGrow, grown_numbers}
use Rattle.op_steps.proofs.Chaining.{live_at}
use Rattle.op_steps.proofs.RowSteps.{row_steps, row_guards, row_no_header}
use Rattle.op_steps.proofs.WholeFiles.{whole_same}
use Rattle.op_steps.proofs.GrownSteps.{grown_steps}
use Rattle.op_steps.proofs.HeaderWrites.{grown_guards, grown_leaves, grown_fills}
use Rattle.op_extend.proofs.Ranges.{drawn_in}
use Rattle.op_extend.proofs.Replies.{head_checks, draft_checks, within, charged_for, after_for, stands_charged, stands_done}

-- a live file, by its header
pub record IsLive (g : Geometry) (bs : List Block) (c : Cat) (file : Fid) (h : Hdr) : Type 0 where
  pub number : IsFileNumber g file.num
  pub header : live_in file.seq (header_block g bs file.num) ≡ Some h
  pub live : live c file ≡ Some (file_told bs g file h)

pub reads_live : (g : Geometry) (bs : List Block) (c : Cat) (file : Fid) (h : Hdr) → IsLive g bs c file h → head_told (header_block g bs file.num) ≡ Ok (head.Used h)
reads_live g bs c file h lives = live_reads file.seq (head_told (header_block g bs file.num)) h lives.header

-- no system file, and no directory
pub kept_out : (n : ℕ) (d : Bool) → (nat_le n 11 || d) ≡ false → (11 < n) × (d ≡ false)
kept_out n d e = by_tests (nat_le n 11) refl e where
  by_tests : (t : Bool) → nat_le n 11 ≡ t → (t || d) ≡ false → (11 < n) × (d ≡ false)
  by_tests true is e = absurd (let z : true ≡ false = e in cc)
  by_tests false is e = (grind (arith, nat_tests), e)

module _ (node : ℕ) (file : Fid) (blocks : ℕ) (g : Geometry) (bs : List Block) (own : Owners) (c : Cat) (s : Spells g bs own c) (stock : Things) (h : Hdr) (lives : IsLive g bs c file h)
    (order : first_refusal (head_checks file.num (file_told bs g file h) (clusters_for g blocks)) ≡ None) (paid : first_refusal (draft_checks g c (file_told bs g file h) (clusters_for g blocks)) ≡ None)
    (fits : list_all (is_charged c) c.quota ≡ true) (qs : List ℕ) (new : Option (ℕ × ℕ)) (outs : Outs node own (things qs (option_map (λ p. p.0) new)) stock) (count : length qs ≡ clusters_for g blocks)
    (enough : clusters_for g blocks ≤ free_clusters c) (slot : IfSome new (IsNewSlot g bs)) (needs : is_some new ≡ needs_header (file_told bs g file h).clusters (clusters_for g blocks)) (number : Option ℕ) (pick : IsPick c number)
    (suits : (needs_header (file_told bs g file h).clusters (clusters_for g blocks) && is_none number) ≡ false) (locks : List LockName)
    (held : (m : ℕ) → Has (grown_numbers g (file_in g bs file.num h) new) m → Has locks (S m)) (held_q : Has locks Q) where
  abbrev n : ℕ
  n = file.num

  abbrev j : ℕ
  j = clusters_for g blocks

  abbrev f : File
  f = file_told bs g file h

  abbrev seen : SeenFile
  seen = file_in g bs file.num h

  abbrev quota : List Block
  quota = blocks_at bs (quota_places g)

  abbrev k : Chain
  k = record { geometry = g; node = node; cmd = Some (cmd.Extend file blocks); locks = locks; cat = c; stock = stock }

  abbrev raise : QuotaRow → QuotaRow
  raise r = record r { usage = r.usage + g.cluster * clusters_for g blocks }

  abbrev row_part : List PlanWrite
  row_part = owner_write g (blocks_at bs (quota_places g)) (file_told bs g file h).owner (row_charged (g.cluster * clusters_for g blocks)) stage.Charged (holding qs (option_map (λ p. p.0) new))

  abbrev heads : List PlanWrite
  heads = headers_grown g (file_in g bs file.num h) qs new

  reads : head_told (header_block g bs file.num) ≡ Ok (head.Used h)
  reads = reads_live g bs c file h lives

  used : fields_told (header_block g bs file.num) ≡ Some h
  used = reads_fields (header_block g bs file.num) h reads

  apart : (11 < file.num) × (h.dir ≡ false)
  apart = kept_out file.num h.dir (passed (head_checks file.num f j) order).0

  can : (bs' : List Block) → IfSome new (IsNewSlot g bs') → CanGrow g bs' (file_told bs g file h) qs new
  can bs' slot' =
      let w = within file.num f j order in
      record {
        flat = apart.1;
        file = subst (λ z. f.clusters + z ≤ file_most) (sym count) w.file;
        most = subst (λ z. z ≤ header_most) (sym count) w.growth;
        needs = needs ∙ ap (needs_header f.clusters) (sym count);
        slot = slot';
      }

  ranged : (r : QuotaRow) → row_of (file_told bs g file h).owner c.quota ≡ Some r → IsInRange (row_charged (g.cluster * clusters_for g blocks) (row_for r))
  ranged r at = drawn_in g bs own c s f.owner j r (within file.num f j order).growth fits at

  charged_at : StandsAt c node (Some (cmd.Extend file blocks)) stage.Charged (charged_for g c f j)
  charged_at = stands_charged g c s.constants.factor node file blocks f lives.live order paid enough number pick suits

  done_at : StandsAt c node (Some (cmd.Extend file blocks)) stage.Done (after_for g c n f j)
  done_at = stands_done g c s.constants.factor node file blocks f lives.live order paid enough number pick suits

  -- the file is still there behind the row
  there : (bs' : List Block) → header_block g bs' file.num ≡ header_block g bs file.num → IsFileThere g (charged_for g c f j) bs' file.num h f
  there bs' same = record { number = lives.number; above = apart.0; reads = ap head_told same ∙ reads; file = live_at c file f lives.live }

  -- as it was seen, with all of its headers
  seen_same : (bs' : List Block) → FilesStay g bs bs' → file_in g bs' file.num h ≡ file_in g bs file.num h
  seen_same bs' same =
      let at = same n lives.number in
      whole_same g bs bs' n h at.told at.header (λ m t. (same m (other_number g bs own c s n h lives.number used m t)).header)

  -- and so is the slot of the new header
  slot_stays : (bs' : List Block) → FilesStay g bs bs' → (o : Option (ℕ × ℕ)) → IfSome o (IsNewSlot g bs) → IfSome o (IsNewSlot g bs')
  slot_stays bs' same None is = tt
  slot_stays bs' same (Some m) is = record { number = is.number; above = is.above; seq = ap (λ (b : Block). slot_seq (header_read b)) (same m.0 is.number).header ∙ is.seq }

  -- ---- the steps

  module _ (end : End) (finish : (bs' : List Block) (next : Owners) → Spells g bs' next (after_for g c file.num (file_told bs g file h) (clusters_for g blocks)) → Outs node next nothing stock → end bs' next) where
    behind_row : (bs' : List Block) → StandsOn k (holding qs (option_map (λ p. p.0) new)) (charged_for g c f j) bs' own → FilesStay g bs bs' → StepsOf end k (headers_grown g (file_in g bs file.num h) qs new) bs' own
    behind_row bs' on same =
        let done : StandsAt c node (Some (cmd.Extend file blocks)) stage.Done (with_file (charged_for g c f j) n (grown c f (length qs))) =
        subst (λ z. StandsAt c node (Some (cmd.Extend file blocks)) stage.Done (with_file (charged_for g c f j) n (grown c f z))) (sym count) done_at in
        let at : header_block g bs' n ≡ header_block g bs n = (same n lives.number).header in
        let all : List PlanWrite = headers_grown g (file_in g bs' n h) qs new in
        subst (λ (z : SeenFile). StepsOf end k (headers_grown g z qs new) bs' own) (seen_same bs' same)
        (subst (λ (ws : List PlanWrite). StepsOf end k ws bs' own) (append-nil all)
        (grown_steps end k n h f qs new [] (charged_for g c f j) bs' own on (there bs' at) (can bs' (slot_stays bs' same new slot)) (held n (first_number new)) charged_at done
        (λ next w. finish (after_writes all bs') next (subst (λ z. Spells g (after_writes all bs') next (with_file (charged_for g c f j) n (grown c f z))) count w.spelt) w.outs))) where
          first_number : (o : Option (ℕ × ℕ)) → Has (grown_numbers g (file_in g bs n h) o) n
          first_number None = inl refl
          first_number (Some m) = inl refl

    pub growing_steps : StepsOf end k (growing_writes g seen quota qs j new) bs own
    unfolding growing_writes
    growing_steps =
        row_steps end k f.owner (row_charged (g.cluster * j)) raise stage.Charged (holding qs (option_map (λ p. p.0) new)) heads c bs own
        (record { spelt = s; outs = outs }) (record { owner = λ r. refl; same = λ r. refl }) ranged charged_at
        (λ on same. behind_row (after_writes row_part bs) on same)

  -- ---- what guards them

  there_first : IsFileThere g c bs file.num h f
  there_first = record { number = lives.number; above = apart.0; reads = reads; file = live_at c file f lives.live }

  pub growing_named : AreNamed node locks g own (growing_writes g seen quota qs j new)
  unfolding growing_writes
  growing_named =
      both_named node locks g own row_part heads
      (row_guards g bs bs own c f.owner (row_charged (g.cluster * j)) stage.Charged (holding qs (option_map (λ p. p.0) new)) node locks s held_q)
      (grown_guards g n h f qs new c bs own node locks s there_first slot held)

  -- each leaves the runs of directories
  pub growing_leaves : LeavesDirs g bs (growing_writes g seen quota qs j new)
  unfolding growing_writes
  growing_leaves =
      both_leave g bs row_part heads
      (no_header_leaves g bs row_part (row_no_header g bs bs own c f.owner (row_charged (g.cluster * j)) stage.Charged (holding qs (option_map (λ p. p.0) new)) s))
      (grown_leaves k n h f qs new c bs own (record { spelt = s; outs = outs }) there_first apart.1 slot)

  -- and is to the slot of a number that is the file's, or was given
  pub growing_fills : LeavesSlots g own (things qs (option_map (λ p. p.0) new)) (growing_writes g seen quota qs j new)
  unfolding growing_writes
  growing_fills =
      let took : Things = things qs (option_map (λ p. p.0) new) in
      both_fill g own took row_part heads
      (no_header_fills g own took row_part (row_no_header g bs bs own c f.owner (row_charged (g.cluster * j)) stage.Charged (holding qs (option_map (λ p. p.0) new)) s))
      (grown_fills g n h f qs new c bs own s there_first slot)
