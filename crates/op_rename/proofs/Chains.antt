-- The writes of a RENAME as a chain of steps, and what guards them.
use Rattle.std.proofs.Common.{◌≡◌, ◌≤◌, ◌<◌, ◌-◌, ◌^◌, ◌∙◌, inl, ℕ, Bool, true, false, cond, List, [], ◌∷◌, Some, None, length, map, slice_get, slice_set, refl, sym, ap, subst, arith}
use Rattle.std.specs.Prelude.{◌==◌, ◌&&◌, nat_le}
use Rattle.std.proofs.lemmas.Bool.{and_parts, leb-true}
use Rattle.std.proofs.lemmas.Bool.Decides.{nat_tests}
use Rattle.std.proofs.lemmas.List.{append-nil}
use Rattle.std.proofs.lemmas.Option.{slice_get_within}
use Rattle.base_words.specs.Fields.{Block}
use Rattle.base_words.specs.Names.{is_name}
use Rattle.fx_header.specs.declared.slot.Hdr.{Hdr}
use Rattle.fx_dir.specs.declared.RawEnt.{RawEnt}
use Rattle.fx_dir.specs.Lists.{Each}
use Rattle.fx_dir.specs.Writing.{IsInForm, IsRanged}
use Rattle.fx_dir.specs.Moves.{removal, packing_writes}
use Rattle.fx_dir.proofs.Based.{read-order}
use Rattle.vol_parts.proofs.WholeRanges.{read-sound}
use Rattle.lock_db.specs.declared.name.LockName.{LockName}
use Rattle.lock_db.specs.declared.name.LockName.TheVariants.{S}
use Rattle.plain_cat.specs.InForm.{is_version}
use Rattle.plain_cat.specs.declared.ids.Fid.{Fid}
use Rattle.plain_cat.specs.declared.entries.DirEnt.{DirEnt}
use Rattle.plain_cat.specs.declared.command.Cmd.{Cmd}
use Rattle.plain_cat.specs.declared.command.Cmd.TheVariants as cmd
use Rattle.plain_cat.specs.declared.history.Stage.{Stage}
use Rattle.plain_cat.specs.declared.history.Stage.TheVariants as stage
use Rattle.plain_cat.specs.declared.cat.Cat.{Cat}
use Rattle.plain_cat.specs.declared.cat.File.{File}
use Rattle.plain_cat.specs.declared.cat.Slot.{Slot}
use Rattle.plain_cat.specs.declared.cat.Slot.TheVariants as slot
use Rattle.plain_rules.specs.Lookups.{file_at, file_in, versions, entry_of}
use Rattle.plain_rules.specs.Directories.{inserted, without, fits, nowhere, entry, new_version, is_taken}
use Rattle.plain_rules.specs.Changes.{with_slot, with_entries}
use Rattle.plain_rules.specs.Answers.{first_refusal}
use Rattle.base_words.specs.Lists.{written}
use Rattle.vol_spell.specs.Owners.{Owners, Things, nothing, Outs}
use Rattle.base_words.proofs.ListWrites.{get-set_here}
use Rattle.vol_parts.specs.declared.geometry.Geometry.{Geometry}
use Rattle.vol_parts.specs.Catalogues.{plain_entry}
use Rattle.vol_spell.specs.Spelling.{Spells}
use Rattle.vol_under.specs.Chains.{End, Steps}
use Rattle.vol_under.specs.UnderWay.{PlannedWrite, bare, StandsAt, stage_after, outs_after}
use Rattle.vol_under.proofs.Steps.{stands_first}
use Rattle.op_law.specs.declared.need.PlanWrite.{PlanWrite}
use Rattle.op_law.specs.Laws.{planned, AreNamed, LeavesDirs, LeavesSlots}
use Rattle.op_law.specs.Writing.{empty_handed}
use Rattle.op_law.specs.Moving.{SeenDir, is_full, insertion_writes, removal_writes, with_new, rename_refusals, rename_writes}
use Rattle.op_law.proofs.Through.{file_told, IsListed}
use Rattle.op_law.proofs.Naming.{both_named, TouchesNoHeader, both_leave, no_header_leaves, both_fill, no_header_fills}
use Rattle.op_law.proofs.Refusals.{passed}
use Rattle.op_law.proofs.Ends.{outs_behind, stage_behind}
use Rattle.op_law.proofs.RemovalEnds.{removal_outs, removal_stage}
use Rattle.op_steps.specs.Chained.{Chain, StepsOf, after_writes, StandsOn}
use Rattle.vol_spell.specs.Entries.{blocks_of, CanBeEntered, CanBeRemoved}
use Rattle.op_steps.specs.EntryWrites.{dir_in}
use Rattle.op_steps.proofs.Chaining.{live_at}
use Rattle.vol_spell.proofs.EntryDirs.{IsDirAt, dir_at, dir_lists, used_at}
use Rattle.plain_rules.proofs.Rooms.{room_of_any}
use Rattle.op_steps.proofs.EntrySteps.{entry_steps, entry_leaves, entry_guards, entry_no_header}
use Rattle.vol_spell.proofs.RemovalLists.{found_there, found_so}
use Rattle.op_steps.proofs.RemovalSteps.{removal_steps, removal_moved, removal_guards, removal_no_header}
use Rattle.op_rename.specs.Kinds.{IsRename}
use Rattle.op_rename.proofs.Orders.{still_there, is_other, one_out_one_in}
use Rattle.op_rename.proofs.Outcomes.{new_in, both_for, after_for, stands_both, stands_done}
use Rattle.op_law.proofs.Versions.{version_from, version_to}
use Rattle.base_words.proofs.Booleans.{not_false}
use Rattle.vol_spell.proofs.EntryMoves.{set_again}

-- a directory whose entries change twice
entries_twice : (c : Cat) (n : ℕ) (d : File) (es fs : List DirEnt) → with_entries (with_entries c n d es) n (record d { entries = es }) fs ≡ with_entries c n d fs
entries_twice c n d es fs = ap (λ (ss : List Slot). record c { files = ss }) (set_again c.files (n - 1) (slot.Used (record d { entries = es })) (slot.Used (record d { entries = fs })))

-- the file of a slot that was written
file_there : (c : Cat) (n : ℕ) (d f : File) → 1 ≤ n → file_at c n ≡ Some d → file_at (with_slot c n (slot.Used f)) n ≡ Some f
file_there c n d f from at = by_zero (n == 0) refl where
  by_zero : (t : Bool) → (n == 0) ≡ t → file_in (cond t None (slice_get (slice_set c.files (n - 1) (slot.Used f)) (n - 1))) ≡ Some f
  by_zero true e = absurd (let z : n ≡ 0 = grind (arith, nat_tests) in omega arith)
  by_zero false e = ap file_in (get-set_here c.files (n - 1) (slot.Used f) (slice_get_within c.files (n - 1) (slot.Used d) (used_at c n d at)))

-- a new name and version within the limits of the format, which is not there and has room
pub record IsInOrder (g : Geometry) (to : List ℕ) (v : ℕ) (es : List DirEnt) : Type 0 where
  pub name : is_name to ≡ true
  pub ver_from : 1 ≤ v
  pub ver_to : v ≤ 32767
  pub new : is_taken v (versions to es) ≡ false
  pub room : fits g.cluster (inserted (entry to v nowhere) es) ≡ true

pub in_order : (g : Geometry) (to : List ℕ) (to_ver : ℕ) (es : List DirEnt) → (is_name to && is_version to_ver) ≡ true → first_refusal (rename_refusals g es to to_ver) ≡ None
    → IsInOrder g to (new_version to_ver (versions to es)) es
unfolding is_full
in_order g to to_ver es is order =
    let a = and_parts (is_name to) (is_version to_ver) is in
    let p = passed (rename_refusals g es to to_ver) order in
    record {
      name = a.0;
      ver_from = version_from to_ver (versions to es);
      ver_to = version_to to_ver (versions to es) (leb-true to_ver 32767 a.1) p.0;
      new = p.1.0;
      room = not_false (fits g.cluster (inserted (entry to (new_version to_ver (versions to es)) nowhere) es)) p.1.1.0;
    }

-- ---- what a chain ends with

steps_end : (end : End) (g : Geometry) (n : ℕ) (x : Cmd) (locks : List LockName) (c : Cat) (stock : Things) (ws : List PlannedWrite) (bs : List Block) (own : Owners)
    → Steps end g n (Some x) locks c stock ws bs own → (new : Owners) × end (written (bare ws) bs) new
steps_end end g n x locks c stock [] bs own h = (own, h)
steps_end end g n x locks c stock (w ∷ ws) bs own h = steps_end end g n x locks c stock ws (slice_set bs w.lbn w.block) h.0 h.3

-- ---- the chain

module _ (node : ℕ) (g : Geometry) (bs : List Block) (own : Owners) (c : Cat) (s : Spells g bs own c) (stock : Things) (outs : Outs node own nothing stock)
    (dir : Fid) (name : List ℕ) (ver : ℕ) (to : List ℕ) (to_ver : ℕ) (is : IsRename (cmd.Rename dir name ver to to_ver)) (f : Hdr) (listed : IsListed g bs c dir f) where
  abbrev x : Cmd
  x = cmd.Rename dir name ver to to_ver

  abbrev d : File
  d = file_told bs g dir f

  abbrev dd : SeenDir
  dd = dir_in g bs dir

  abbrev k : Chain
  k = record { geometry = g; node = node; cmd = Some x; locks = S dir.num ∷ []; cat = c; stock = stock }

  module _ (e : DirEnt) (found : entry_of (versions name d.entries) ver ≡ Some e) (free : nat_le e.fid.num 11 ≡ false) (order : first_refusal (rename_refusals g d.entries to to_ver) ≡ None) where
    abbrev pub new : DirEnt
    new = new_in g c s.constants.factor node dir name ver to to_ver d.entries e

    abbrev both : Cat
    both = both_for g c s.constants.factor node dir name ver to to_ver d e

    abbrev after : Cat
    after = after_for g c s.constants.factor node dir name ver to to_ver d e

    abbrev entry_part : List PlanWrite
    entry_part = insertion_writes dd new stage.Nothing stage.Both

    abbrev removal_part : List PlanWrite
    removal_part = removal_writes (with_new dd new) e stage.Both stage.Done

    -- the blocks with both entries
    abbrev next : List Block
    next = after_writes entry_part bs

    at_dir : file_at c dir.num ≡ Some d
    at_dir = live_at c dir d listed.live

    abbrev at : IsDirAt g bs dir.num d
    at = dir_at g bs own c s dir.num listed.number d at_dir listed.dir

    lists : d.entries ≡ map plain_entry at.entries
    lists = dir_lists g bs dir.num d at

    form : IsInOrder g to (new_version to_ver (versions to d.entries)) d.entries
    form = in_order g to to_ver d.entries is order

    found_raw : entry_of (versions name (map plain_entry at.entries)) ver ≡ Some e
    found_raw = ap (λ es. entry_of (versions name es) ver) (sym lists) ∙ found

    numbered : e.fid.num ≤ 16777215
    numbered = found_so (λ y. y.fid.num ≤ 16777215) name ver at.entries e (each_num at.entries (read-sound (blocks_of g bs dir.num) at.entries at.whole at.read).form) found_raw where
      each_num : (es : List RawEnt) → Each IsInForm es → Each (λ y. y.num ≤ 16777215) es
      each_num [] h = tt
      each_num (y ∷ es) h = (h.0.numbered, each_num es h.1)

    sequence : e.fid.seq < 2 ^ 16
    sequence = found_so (λ y. y.fid.seq < 2 ^ 16) name ver at.entries e (each_seq at.entries (read-sound (blocks_of g bs dir.num) at.entries at.whole at.read).ranged) found_raw where
      each_seq : (es : List RawEnt) → Each IsRanged es → Each (λ y. y.seq < 2 ^ 16) es
      each_seq [] h = tt
      each_seq (y ∷ es) h = (h.0.seq, each_seq es h.1)

    can_enter : CanBeEntered g c dir.num d new
    can_enter = record {
      number = listed.number;
      file = at_dir;
      dir = listed.dir;
      name = form.name;
      ver_from = form.ver_from;
      ver_to = form.ver_to;
      num = numbered;
      seq = sequence;
      new = form.new;
      room = room_of_any g.cluster to (new_version to_ver (versions to d.entries)) e.fid nowhere d.entries ∙ form.room;
    }

    -- the directory with both entries
    abbrev d_both : File
    d_both = record d { entries = inserted new d.entries }

    there : is_taken e.ver (versions e.name d.entries) ≡ true
    there = found_there name ver d.entries e found

    can_remove : CanBeRemoved g both dir.num d_both e
    can_remove = record {
      number = listed.number;
      file = file_there c dir.num d d_both listed.number.from at_dir;
      dir = listed.dir;
      there = still_there e.ver e.name new d.entries there;
    }

    -- what the removal leaves is the catalogue behind the command
    ends_as : with_entries both dir.num d_both (without e.name e.ver d_both.entries) ≡ after
    ends_as =
        entries_twice c dir.num d (inserted new d.entries) (without e.name e.ver (inserted new d.entries))
        ∙ ap (with_entries c dir.num d) (one_out_one_in e.name e.ver new d.entries at.entries lists (read-order (blocks_of g bs dir.num) at.entries at.read) (is_other e new d.entries there form.new))

    both_at : StandsAt c node (Some x) stage.Both both
    both_at = stands_both g c s.constants.factor node dir name ver to to_ver d listed.live listed.dir e found free order

    done_at : StandsAt c node (Some x) stage.Done after
    done_at = stands_done g c s.constants.factor node dir name ver to to_ver d listed.live listed.dir e found free order

    started : StandsOn k empty_handed c bs own
    started = record { spelt = s; outs = outs }

    first_at : StandsAt c node (Some x) stage.Nothing c
    first_at = stands_first c node (Some x)

    -- the blocks behind the insertion spell both
    spelt_both : Spells g next own both
    spelt_both =
        let end : End = λ b o. Spells g b own both in
        let steps = entry_steps end k dir d new stage.Nothing stage.Both [] c bs own started can_enter first_at both_at (λ on stays. on.spelt) in
        let short : StepsOf end k entry_part bs own = subst (λ ws. StepsOf end k ws bs own) (append-nil entry_part) steps in
        (steps_end end g node x k.locks c stock (map planned entry_part) bs own short).1

    -- and show the directory with both
    shows_both : dir_in g next dir ≡ with_new dd new
    shows_both = entry_leaves g dir d new stage.Nothing stage.Both c bs own s can_enter

    module _ (end : End) (finish : (bs' : List Block) → Spells g bs' own after → end bs' own) where
      behind : StandsOn k empty_handed both next own → StepsOf end k removal_part next own
      behind on =
          let done : StandsAt c node (Some x) stage.Done (with_entries both dir.num d_both (without e.name e.ver d_both.entries)) = subst (λ y. StandsAt c node (Some x) stage.Done y) (sym ends_as) done_at in
          let steps = removal_steps end k dir d_both e stage.Both stage.Done [] both next own on can_remove both_at done
          (λ last stays. finish _ (subst (λ y. Spells g (after_writes (removal_writes (dir_in g next dir) e stage.Both stage.Done) next) own y) ends_as last.spelt)) in
          subst (λ y. StepsOf end k (removal_writes y e stage.Both stage.Done) next own) shows_both
          (subst (λ ws. StepsOf end k ws next own) (append-nil (removal_writes (dir_in g next dir) e stage.Both stage.Done)) steps)

      pub renaming_steps : StepsOf end k (rename_writes dd e new) bs own
      unfolding rename_writes
      renaming_steps = entry_steps end k dir d new stage.Nothing stage.Both removal_part c bs own started can_enter first_at both_at (λ on stays. behind on)

    -- ---- what guards them

    pub renaming_named : AreNamed node (S dir.num ∷ []) g own (rename_writes dd e new)
    unfolding rename_writes
    renaming_named =
        both_named node k.locks g own entry_part removal_part
        (entry_guards g dir d new stage.Nothing stage.Both c bs own node k.locks s can_enter (inl refl))
        (subst (λ y. AreNamed node k.locks g own (removal_writes y e stage.Both stage.Done)) shows_both
        (removal_guards g dir d_both e stage.Both stage.Done both next own node k.locks spelt_both can_remove (inl refl)))

    -- none is to a header
    entry_none : TouchesNoHeader g entry_part
    entry_none = entry_no_header g dir d new stage.Nothing stage.Both c bs own s can_enter

    removal_none : TouchesNoHeader g removal_part
    removal_none = subst (λ y. TouchesNoHeader g (removal_writes y e stage.Both stage.Done)) shows_both (removal_no_header g dir d_both e stage.Both stage.Done both next own spelt_both can_remove)

    pub renaming_leaves : LeavesDirs g bs (rename_writes dd e new)
    unfolding rename_writes
    renaming_leaves = both_leave g bs entry_part removal_part (no_header_leaves g bs entry_part entry_none) (no_header_leaves g bs removal_part removal_none)

    pub renaming_fills : (took : Things) → LeavesSlots g own took (rename_writes dd e new)
    unfolding rename_writes
    renaming_fills took = both_fill g own took entry_part removal_part (no_header_fills g own took entry_part entry_none) (no_header_fills g own took removal_part removal_none)

    -- ---- what they end with

    decides : packing_writes (with_new dd new).blocks < length (removal (with_new dd new).blocks e.name e.ver)
    decides = subst (λ (y : SeenDir). packing_writes y.blocks < length (removal y.blocks e.name e.ver)) shows_both (removal_moved g dir d_both e both next own spelt_both can_remove)

    pub renaming_outs : (o : Things) → outs_after o (map planned (rename_writes dd e new)) ≡ nothing
    unfolding rename_writes
    renaming_outs o = outs_behind entry_part removal_part o nothing (λ o. removal_outs (with_new dd new) e stage.Both stage.Done o decides)

    pub renaming_stage_is : (t : Stage) → stage_after t (map planned (rename_writes dd e new)) ≡ stage.Done
    unfolding rename_writes
    renaming_stage_is t = stage_behind entry_part removal_part t stage.Done (λ t. removal_stage (with_new dd new) e t stage.Both stage.Done decides)
