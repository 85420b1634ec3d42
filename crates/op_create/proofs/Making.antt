-- The writes of a new file as a chain of steps, and what guards them.
use Rattle.std.proofs.Common.{◌≡◌, ◌≤◌, ◌<◌, ◌-◌, ◌+◌, ◌∙◌, inl, inr, ℕ, false, List, [], ◌∷◌, ◌++◌, Some, None, length, is_some, slice_get, append_assoc, refl, sym, ap, subst, arith}
use Rattle.std.proofs.lemmas.List.{append-nil}
use Rattle.base_words.specs.Fields.{Block}
use Rattle.fx_header.specs.declared.slot.Hdr.{Hdr}
use Rattle.lock_db.specs.declared.name.LockName.TheVariants.{S, Q}
use Rattle.plain_cat.specs.declared.command.Cmd.{Cmd}
use Rattle.plain_cat.specs.declared.history.Stage.TheVariants as stage
use Rattle.plain_cat.specs.declared.cat.Cat.{Cat}
use Rattle.plain_cat.specs.declared.cat.File.{File}
use Rattle.plain_cat.specs.declared.cat.QuotaRow.{QuotaRow}
use Rattle.plain_rules.specs.Lookups.{file_at, live, row_of, free_clusters}
use Rattle.plain_rules.specs.Directories.{nowhere}
use Rattle.plain_rules.specs.Changes.{new_fid, charged}
use Rattle.plain_rules.specs.Answers.{first_refusal, over_quota}
use Rattle.base_words.specs.Lists.{Has}
use Rattle.vol_spell.specs.declared.owner.Owner.TheVariants.{InFile}
use Rattle.vol_spell.specs.Owners.{Owners, Things, nothing, Outs}
use Rattle.vol_spell.specs.Spread.{blocks_at}
use Rattle.vol_parts.specs.declared.geometry.Geometry.{Geometry}
use Rattle.vol_spell.specs.Reading.{owner_at, header_block, head_told, quota_places}
use Rattle.vol_spell.specs.Spelling.{Spells}
use Rattle.vol_spell.specs.Views.{IsSameFile}
use Rattle.vol_spell.proofs.HeadSlots.{reads_fields}
use Rattle.vol_spell.proofs.Parts.{in_use}
use Rattle.vol_under.specs.Guards.{Lock, Stock, guard_by, guard_of}
use Rattle.vol_under.specs.Chains.{End}
use Rattle.vol_under.specs.UnderWay.{StandsAt}
use Rattle.op_law.specs.declared.need.PlanWrite.{PlanWrite}
use Rattle.op_law.specs.Fits.{things}
use Rattle.op_law.specs.Laws.{AreNamed, LeavesDirs, MayFill, OfFile, Given, LeavesSlots}
use Rattle.op_law.specs.Writing.{holding, empty_handed, header_write}
use Rattle.op_law.specs.Quotas.{row_charged, owner_write}
use Rattle.op_law.specs.Moving.{SeenDir, insertion_moves, insertion_writes}
use Rattle.op_law.specs.Entering.{NewEntry, cost_of, new_header, body_writes, entry_for, making_writes, quota_refusals}
use Rattle.op_law.proofs.Telling.{live_reads}
use Rattle.op_law.proofs.Through.{file_told, IsListed}
use Rattle.op_law.proofs.Naming.{both_named, both_leave, no_header_leaves}
use Rattle.op_steps.specs.Chained.{Chain, StepsOf, after_writes, StandsOn, FilesStay}
use Rattle.vol_spell.specs.Rows.{IsInRange, row_for}
use Rattle.op_steps.specs.FileWrites.{CanBeMade, file_writes}
use Rattle.vol_spell.specs.Entries.{CanBeEntered}
use Rattle.op_steps.specs.EntryWrites.{dir_in}
use Rattle.op_steps.proofs.RowSteps.{row_steps, row_guards, row_no_header}
use Rattle.op_steps.proofs.FileSteps.{same_on, file_steps}
use Rattle.op_steps.proofs.FileGuards.{file_guards, file_leaves}
use Rattle.op_steps.proofs.EntrySteps.{entry_steps, entry_moved, entry_guards, entry_no_header}
use Rattle.op_steps.proofs.RowRanges.{charged_in}
use Rattle.plain_rules.proofs.Rooms.{room_of_any}
use Rattle.op_steps.proofs.Chaining.{live_at, other_slot, same_dir}
use Rattle.op_law.proofs.Refusals.{passed}
use Rattle.op_law.proofs.Spaces.{not_live_number, IsSpace}
use Rattle.op_create.specs.Kinds.{IsMake}
use Rattle.op_create.proofs.Makers.{Maker, to_make, maker}
use Rattle.op_create.proofs.Forms.{IsInOrder, in_order, is_new}
use Rattle.op_create.proofs.Sequences.{sequence_within}
use Rattle.op_create.proofs.Replies.{file_for, lost_for, after_for, stands_charged, stands_lost, stands_done}

-- ---- the chain

module _ (x : Cmd) (is : IsMake x) (node : ℕ) (g : Geometry) (bs : List Block) (own : Owners) (c : Cat) (s : Spells g bs own c) (stock : Things)
    (f : Hdr) (dir : IsListed g bs c (maker g x is).dir f) (order : first_refusal ((maker g x is).refusals (file_told bs g (maker g x is).dir f).entries) ≡ None)
    (paid : first_refusal (quota_refusals g (to_make (maker g x is) []) c.quota) ≡ None) (n : ℕ) (qs : List ℕ) (space : IsSpace g c qs n) (outs : Outs node own (things qs (Some n)) stock)
    (count : length qs ≡ (maker g x is).file.clusters) where
  abbrev m : Maker
  m = maker g x is

  abbrev d : File
  d = file_told bs g m.dir f

  abbrev dd : SeenDir
  dd = dir_in g bs m.dir

  abbrev quota : List Block
  quota = blocks_at bs (quota_places g)

  -- what is made, under its number
  abbrev pub made : NewEntry
  made = record { name = m.name; ver = m.ver d.entries; file = file_for c m n }

  abbrev k : Chain
  k = record { geometry = g; node = node; cmd = Some x; locks = S m.dir.num ∷ Q ∷ S n ∷ []; cat = c; stock = stock }

  abbrev cost : ℕ
  cost = cost_of g m.file

  abbrev raise : QuotaRow → QuotaRow
  raise r = record r { usage = r.usage + cost }

  abbrev row_part : List PlanWrite
  row_part = owner_write g quota m.file.owner (row_charged cost) stage.Charged (holding qs (Some n))

  abbrev body_part : List PlanWrite
  body_part = body_writes g n made.file qs

  abbrev head_part : List PlanWrite
  head_part = header_write g n (new_header g m.dir n made qs) stage.Lost empty_handed ∷ []

  abbrev entry_part : List PlanWrite
  entry_part = insertion_writes dd (entry_for n made) stage.Lost stage.Done

  form : IsInOrder g m d.entries
  form = in_order g x is d.entries order

  enough : m.file.clusters ≤ free_clusters c
  enough = subst (λ j. j ≤ free_clusters c) count space.enough

  lives : live c m.dir ≡ Some d
  lives = dir.live

  apart : n ≡ m.dir.num → ⊥
  apart h = not_live_number c m.dir d n space.free lives h

  charged_at : StandsAt c node (Some x) stage.Charged (charged c m.file.owner cost)
  charged_at = stands_charged g c s.constants.factor node x is d lives dir.dir order paid n enough space.pick

  lost_at : StandsAt c node (Some x) stage.Lost (lost_for g c m n)
  lost_at = stands_lost g c s.constants.factor node x is d lives dir.dir order paid n enough space.pick

  done_at : StandsAt c node (Some x) stage.Done (after_for g c m d n)
  done_at = stands_done g c s.constants.factor node x is d lives dir.dir order paid n enough space.pick

  -- the row that is charged stays in range
  within : over_quota (row_of m.file.owner c.quota) cost ≡ false
  within = (passed (quota_refusals g (to_make m []) c.quota) paid).1.0

  ranged : (r : QuotaRow) → row_of m.file.owner c.quota ≡ Some r → IsInRange (row_charged cost (row_for r))
  ranged r at = charged_in g bs own c s m.file.owner cost r within at

  can_make : CanBeMade g n made qs
  can_make =
      record {
        number = space.number;
        above = space.above;
        kind = is_new g x is (new_fid c n).seq (length qs) count;
        few = (let h = form.few in omega arith);
        seq = sequence_within g bs own c s n space.number;
        owner = form.owner;
        name = form.name;
        ver = form.ver_to;
      }

  can_enter : (y : Cat) → file_at y m.dir.num ≡ Some d → CanBeEntered g y m.dir.num d (entry_for n made)
  can_enter y at =
      let top = space.number.to in
      let files = s.counts.geometry.files_to in
      record {
        number = dir.number;
        file = at;
        dir = dir.dir;
        name = form.name;
        ver_from = form.ver_from;
        ver_to = form.ver_to;
        num = omega arith;
        seq = sequence_within g bs own c s n space.number;
        new = form.new;
        room = room_of_any g.cluster m.name (m.ver d.entries) (new_fid c n) nowhere d.entries ∙ form.room;
      }

  enters : CanBeEntered g c m.dir.num d (entry_for n made)
  enters = can_enter c (live_at c m.dir d lives)

  -- the directory is still there once the file is
  still : file_at (lost_for g c m n) m.dir.num ≡ Some d
  still = other_slot (charged c m.file.owner cost) n m.dir.num _ space.number.from dir.number.from apart ∙ live_at c m.dir d lives

  -- ---- the steps

  module _ (end : End) (finish : (bs' : List Block) (new : Owners) → Spells g bs' new (after_for g c m d n) → Outs node new nothing stock → end bs' new) where
    behind_file : (bs' : List Block) (new : Owners) → StandsOn k empty_handed (lost_for g c m n) bs' new → IsSameFile g bs bs' m.dir.num → StepsOf end k entry_part bs' new
    behind_file bs' new on same =
        let steps = entry_steps end k m.dir d (entry_for n made) stage.Lost stage.Done [] (lost_for g c m n) bs' new on (can_enter (lost_for g c m n) still) lost_at done_at
        (λ last stays. finish _ new last.spelt last.outs) in
        subst (λ y. StepsOf end k (insertion_writes y (entry_for n made) stage.Lost stage.Done) bs' new) (same_dir g bs own c s m.dir f dir bs' same)
        (subst (λ ws. StepsOf end k ws bs' new) (append-nil (insertion_writes (dir_in g bs' m.dir) (entry_for n made) stage.Lost stage.Done)) steps)

    behind_row : (bs' : List Block) → StandsOn k (holding qs (Some n)) (charged c m.file.owner cost) bs' own → FilesStay g bs bs' → StepsOf end k (body_part ++ (head_part ++ entry_part)) bs' own
    behind_row bs' on same =
        subst (λ ws. StepsOf end k ws bs' own) (append_assoc body_part head_part entry_part)
        (file_steps end k m.dir n made qs entry_part (charged c m.file.owner cost) bs' own on can_make (inr (inr (inl refl))) charged_at lost_at
        (λ new lost stays. behind_file (after_writes (file_writes g m.dir n made qs) bs') new lost
        (same_on g bs bs' (after_writes (file_writes g m.dir n made qs) bs') m.dir.num (same m.dir.num dir.number) (stays m.dir.num dir.number (λ h. apart (sym h))))))

    pub making_steps : StepsOf end k (making_writes g dd quota made n qs) bs own
    unfolding making_writes
    making_steps =
        row_steps end k m.file.owner (row_charged cost) raise stage.Charged (holding qs (Some n)) (body_part ++ (head_part ++ entry_part)) c bs own
        (record { spelt = s; outs = outs }) (record { owner = λ r. refl; same = λ r. refl }) ranged charged_at
        (λ on same. behind_row (after_writes row_part bs) on same)

  -- ---- what guards them

  pub making_named : AreNamed node (S m.dir.num ∷ Q ∷ S n ∷ []) g own (making_writes g dd quota made n qs)
  unfolding making_writes
  making_named =
      both_named node k.locks g own row_part (body_part ++ (head_part ++ entry_part))
      (row_guards g bs bs own c m.file.owner (row_charged cost) stage.Charged (holding qs (Some n)) node k.locks s (inr (inl refl)))
      (subst (λ ws. AreNamed node k.locks g own ws) (append_assoc body_part head_part entry_part)
      (both_named node k.locks g own (body_part ++ head_part) entry_part
      (file_guards k m.dir n made qs c bs own (record { spelt = s; outs = outs }) space.number (inr (inr (inl refl))))
      (entry_guards g m.dir d (entry_for n made) stage.Lost stage.Done c bs own node k.locks s enters (inl refl))))

  -- each leaves the runs of directories
  pub making_leaves : LeavesDirs g bs (making_writes g dd quota made n qs)
  unfolding making_writes
  making_leaves =
      both_leave g bs row_part (body_part ++ (head_part ++ entry_part))
      (no_header_leaves g bs row_part (row_no_header g bs bs own c m.file.owner (row_charged cost) stage.Charged (holding qs (Some n)) s))
      (subst (λ ws. LeavesDirs g bs ws) (append_assoc body_part head_part entry_part)
      (both_leave g bs (body_part ++ head_part) entry_part
      (file_leaves k m.dir n made qs c bs own (record { spelt = s; outs = outs }) space.number)
      (no_header_leaves g bs entry_part (entry_no_header g m.dir d (entry_for n made) stage.Lost stage.Done c bs own s enters))))

  -- the number of the directory is its file's
  dir_owned : slice_get own.numbers (m.dir.num - 1) ≡ Some (InFile m.dir.num)
  dir_owned =
      let b : Block = header_block g bs m.dir.num in
      (in_use g bs own c s m.dir.num dir.number).0 (ap is_some (reads_fields b f (live_reads m.dir.seq (head_told b) f dir.header)))

  -- a header is written under the lock of its number, which is the directory's, or was given
  pub making_fills : LeavesSlots g own (things qs (Some n)) (making_writes g dd quota made n qs)
  making_fills w t i at =
      let named = making_named w t in
      let guard : guard_of g own w.lbn ≡ Some (Lock (S i)) = ap (λ p. guard_by p (owner_at g own w.lbn)) at in
      elim named.guards [
        | inl e ↦
            let both : Some (Lock (S i)) ≡ Some (Lock w.lock) = sym guard ∙ e in
            let same : w.lock ≡ S i = cc in
            by_lock (subst (λ l. Has k.locks l) same named.held)
        | inr e ↦ let both : Some (Lock (S i)) ≡ Some (Stock node) = sym guard ∙ e in absurd (cc)
      ] where
        by_lock : Has k.locks (S i) → MayFill own (things qs (Some n)) i w.block
        by_lock (inl h) = let same : m.dir.num ≡ i = cc in OfFile m.dir.num (subst (λ j. slice_get own.numbers (j - 1) ≡ Some (InFile m.dir.num)) same dir_owned)
        by_lock (inr (inl h)) = absurd (cc)
        by_lock (inr (inr (inl h))) = let same : n ≡ i = cc in Given (inl (ap (λ j. j - 1) same))
        by_lock (inr (inr (inr none))) = absurd none

  -- the insertion has a write
  pub making_moved : length (insertion_moves dd (entry_for n made)) - 1 < length (insertion_moves dd (entry_for n made))
  making_moved = entry_moved g m.dir d (entry_for n made) c bs own s enters
