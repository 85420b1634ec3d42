-- The whole plan of a DELETE, and the writes before its ask, as they are done on the blocks of a volume.
use Rattle.std.proofs.Common.{◌≡◌, ◌<◌, ◌+◌, ◌-◌, ◌*◌, ◌∙◌, inl, inr, ℕ, Bool, true, false, cond, List, [], ◌∷◌, ◌++◌, Some, None, is_some, map, length, slice_get, refl, sym, ap, subst}
use Rattle.std.specs.Prelude.{nat_le, Ok}
use Rattle.std.proofs.lemmas.List.{append-nil, length-map}
use Rattle.base_words.specs.Fields.{Block, IsWholeBlock}
use Rattle.fx_header.specs.declared.slot.Hdr.{Hdr}
use Rattle.fx_header.specs.declared.slot.Slot.TheVariants as head
use Rattle.fx_header.specs.Headers.{marked}
use Rattle.fx_header.proofs.SetterLemmas.{marked-reads}
use Rattle.fx_dir.specs.Moves.{removal, packing_writes}
use Rattle.lock_db.specs.declared.name.LockName.{LockName}
use Rattle.lock_db.specs.declared.name.LockName.TheVariants.{S, Q, V}
use Rattle.plain_cat.specs.declared.ids.Fid.{Fid}
use Rattle.plain_cat.specs.declared.entries.DirEnt.{DirEnt}
use Rattle.plain_cat.specs.declared.mode.Mode.{Mode}
use Rattle.plain_cat.specs.declared.mode.Mode.TheVariants.{PW}
use Rattle.plain_cat.specs.declared.command.Cmd.{Cmd}
use Rattle.plain_cat.specs.declared.command.Cmd.TheVariants as cmd
use Rattle.plain_cat.specs.declared.history.Stage.{Stage}
use Rattle.plain_cat.specs.declared.history.Stage.TheVariants as stage
use Rattle.plain_cat.specs.declared.reply.Reply.TheVariants as reply
use Rattle.plain_cat.specs.declared.cat.Cat.{Cat}
use Rattle.plain_cat.specs.declared.cat.File.{File}
use Rattle.plain_cat.specs.declared.cat.Slot.TheVariants as slot
use Rattle.plain_rules.specs.Lookups.{in_use, versions, entry_of, is_open}
use Rattle.plain_rules.specs.Changes.{discharged, freed}
use Rattle.plain_rules.specs.Answers.{has_entries}
use Rattle.base_words.specs.Lists.{Has}
use Rattle.vol_spell.specs.Owners.{Owners, Things, nothing, Outs}
use Rattle.vol_spell.specs.declared.owner.Owner.TheVariants.{InFile}
use Rattle.vol_parts.specs.declared.geometry.Geometry.{Geometry}
use Rattle.vol_parts.specs.declared.geometry.Part.TheVariants.{Header, Storage}
use Rattle.vol_parts.specs.Chains.{cut}
use Rattle.vol_spell.specs.Reading.{IsFileNumber, header_block, head_told, fields_told, clusters_of}
use Rattle.vol_spell.specs.Places.{place_of}
use Rattle.vol_spell.specs.Spelling.{Spells}
use Rattle.vol_spell.proofs.Parts.{part_there}
use Rattle.vol_spell.proofs.Parts as parts
use Rattle.vol_spell.proofs.Placing.{length-blocks_at}
use Rattle.vol_under.specs.Chains.{End, Replied}
use Rattle.vol_under.specs.UnderWay.{StandsAt, stage_after, outs_after}
use Rattle.op_law.specs.declared.need.PlanWrite.{PlanWrite}
use Rattle.op_law.specs.declared.seen.Seen.{Seen}
use Rattle.op_law.specs.Fits.{things}
use Rattle.op_law.specs.Knows.{knows}
use Rattle.op_law.specs.Laws.{planned, under_way, held_in, AreNamed, LeaveFew, LeavesDirs, LeavesSlots, KeepsRuns, NoDir, Same, is_dir_told}
use Rattle.op_law.specs.Writing.{empty_handed}
use Rattle.op_law.specs.Refusing.{SeenFile}
use Rattle.op_law.specs.SeenFiles.{file_clusters}
use Rattle.op_law.specs.Headers.{slots_seen, others_told, headers_behind}
use Rattle.op_law.specs.Moving.{SeenDir, removal_writes}
use Rattle.op_law.specs.Freeing.{blocks_for, all_clusters}
use Rattle.op_law.specs.Removing.{unnaming_writes}
use Rattle.vol_spell.proofs.Heads.{first_reads, first_segment, reads_first}
use Rattle.vol_spell.proofs.HeadSlots.{reads_fields, reads_runs}
use Rattle.vol_spell.proofs.HeadFiles.{head_whole}
use Rattle.vol_spell.proofs.HeadRuns.{marked_runs}
use Rattle.vol_spell.proofs.Slots.{slot_twice}
use Rattle.vol_spell.specs.Entries.{CanBeRemoved}
use Rattle.vol_spell.specs.Files.{IsFileThere, blocks_told}
use Rattle.op_law.proofs.Chains.{others_apart, other_owned}
use Rattle.op_law.proofs.SeenRuns.{seen_clusters}
use Rattle.op_law.proofs.Through.{IsListed}
use Rattle.op_law.proofs.Naming.{both_named, both_leave, no_header_leaves, both_fill, no_header_fills, file_fills}
use Rattle.op_law.proofs.Ends.{outs_behind, stage_behind}
use Rattle.op_law.proofs.RemovalEnds.{LeaveNothing, both_leave_nothing, nothing_kept, nothing_few, both_few, removal_outs, removal_stage, removal_leaves_nothing}
use Rattle.op_law.proofs.Doing.{AreDone}
use Rattle.op_law.proofs.Telling.{live_reads}
use Rattle.op_steps.specs.Chained.{Chain, StepsOf, after_writes, StandsOn}
use Rattle.op_steps.proofs.RemovalSteps.{removal_guards, removal_no_header, removal_moved}
use Rattle.op_steps.specs.Files.{file_in}
use Rattle.op_steps.specs.MarkWrites.{marked_write}
use Rattle.op_steps.proofs.HeadSteps.{head_guards, head_leaves}
use Rattle.op_steps.specs.BitmapWrites.{storage_places}
use Rattle.op_steps.specs.FreeingGoneWrites.{HaveLocks, space_at, gone_writes}
use Rattle.op_steps.specs.FreeingGoneWrites as freeing
use Rattle.op_steps.specs.Standing.{AreUnder, AreBeside}
use Rattle.op_steps.proofs.Named.{under_locks, under_joined}
use Rattle.op_steps.proofs.Endings.{stage_both, held_keeps_out}
use Rattle.op_steps.proofs.GoneSteps.{gone_steps, gone_guards, gone_leaves, gone_fills, gone_leaves_few}
use Rattle.op_steps.proofs.GoneStands.{rest_stands, gone_stands, gone_stage}
use Rattle.op_delete.proofs.Outcomes.{less, unlinked, without_file, gone, removes_answer, stands_removed, marks_answer, deletes_answer, stands_unlinked, stands_freed, stands_gone}
use Rattle.op_delete.proofs.Chains.{can, lone_steps, IsUnlinked, unnaming_steps}
use Rattle.op_delete.proofs.Chains as chain
use Rattle.op_delete.proofs.Walks.{whole_outs}

module _ (node : ℕ) (seen : Seen) (bs : List Block) (own : Owners) (c : Cat) (s : Spells seen.geometry bs own c) (stock : Things) (outs : Outs node own nothing stock)
    (dir : Fid) (name : List ℕ) (ver : ℕ) (fh : Hdr) (listed : IsListed seen.geometry bs c dir fh) where
  abbrev g : Geometry
  g = seen.geometry

  abbrev x : Cmd
  x = cmd.Delete dir name ver

  abbrev d : File
  d = chain.d node g bs own c s stock outs dir name ver fh listed []

  abbrev dd : SeenDir
  dd = chain.dd node g bs own c s stock outs dir name ver fh listed []

  module _ (e : DirEnt) (found : entry_of (versions name d.entries) ver ≡ Some e) (free : nat_le e.fid.num 11 ≡ false) where
    can_go : CanBeRemoved g c dir.num d e
    can_go = can node g bs own c s stock outs dir name ver fh listed [] e found free

    decides : packing_writes dd.blocks < length (removal dd.blocks e.name e.ver)
    decides = removal_moved g dir d e c bs own s can_go

    -- ---- an entry without a file

    module _ (held : List (LockName × Mode)) (in_dir : Has (held_in PW held) (S dir.num)) (none : in_use c e.fid ≡ None) where
      abbrev lone : List PlanWrite
      lone = removal_writes dd e stage.Nothing stage.Done

      lone_end : (bs' : List Block) → Spells g bs' own (less c node dir name ver d e) → Replied g node (under_way x seen lone (knows node x seen)) x reply.EntryRemoved c stock bs' own
      lone_end bs' spelt = (
        less c node dir name ver d e,
        subst (λ st. StandsAt c node (Some x) st (less c node dir name ver d e)) (sym (removal_stage dd e stage.Nothing stage.Nothing stage.Done decides)) (stands_removed c node dir name ver d listed.live listed.dir e found free none),
        spelt,
        subst (λ t. Outs node own t stock) (sym (removal_outs dd e stage.Nothing stage.Done (things seen.clusters seen.number) decides)) outs,
        c.opens,
        removes_answer c node dir name ver d listed.live listed.dir e found free none,
      )

      pub lone_done : AreDone x node seen bs own c stock held lone reply.EntryRemoved
      lone_done = record {
        named = removal_guards g dir d e stage.Nothing stage.Done c bs own node (held_in PW held) s can_go in_dir;
        dirs = no_header_leaves g bs lone (removal_no_header g dir d e stage.Nothing stage.Done c bs own s can_go);
        slots = no_header_fills g own (things seen.clusters seen.number) lone (removal_no_header g dir d e stage.Nothing stage.Done c bs own s can_go);
        kept_out = nothing_kept (things seen.clusters seen.number) (held_in PW held) lone (removal_leaves_nothing dd e stage.Nothing stage.Done);
        steps = lone_steps node g bs own c s stock outs dir name ver fh listed (held_in PW held) e found free none (Replied g node (under_way x seen lone (knows node x seen)) x reply.EntryRemoved c stock) lone_end;
      }

    -- ---- a file

    module _ (h : Hdr) (number : IsFileNumber g e.fid.num) (reads : head_told (header_block g bs e.fid.num) ≡ Ok (head.Used h)) where
      abbrev hb : Block
      hb = header_block g bs e.fid.num

      abbrev f : File
      f = chain.f node g bs own c s stock outs dir name ver fh listed [] e found free h number reads

      abbrev sf : SeenFile
      sf = file_in g bs e.fid.num h

      abbrev fm : File
      fm = record f { marked = true }

      abbrev hm : Hdr
      hm = record h { marked = true }

      abbrev fewer : ℕ
      fewer = g.cluster * f.clusters + 1

      abbrev body : List Block
      body = blocks_told g bs e.fid.num

      -- the writes before the ask, those by which the file goes, and all
      abbrev us : List PlanWrite
      us = unnaming_writes g dd e sf

      abbrev last_ones : List PlanWrite
      last_ones = gone_writes g bs e.fid.num h

      abbrev all : List PlanWrite
      all = unnaming_writes g dd e sf ++ gone_writes g bs e.fid.num h

      abbrev took : Things
      took = things seen.clusters seen.number

      file_there : IsFileThere g c bs e.fid.num h f
      file_there = chain.there node g bs own c s stock outs dir name ver fh listed [] e found free h number reads

      used : fields_told (header_block g bs e.fid.num) ≡ Some h
      used = reads_fields hb h reads

      whole : IsWholeBlock hb
      whole = head_whole g bs own c e.fid.num h s number reads

      mark_reads : head_told (marked hb) ≡ Ok (head.Used hm)
      mark_reads = reads_first (marked hb) hm (marked-reads hb h whole.long whole.bytes (first_reads hb h reads)) (first_segment hb h reads)

      owned_by : (m : ℕ) (y : Hdr) → IsFileNumber g m → head_told (header_block g bs m) ≡ Ok (head.Used y) → slice_get own.numbers (m - 1) ≡ Some (InFile m)
      owned_by m y is reads_so = (parts.in_use g bs own c s m is).0 (ap is_some (reads_fields (header_block g bs m) y reads_so))

      dir_owned : slice_get own.numbers (dir.num - 1) ≡ Some (InFile dir.num)
      dir_owned = owned_by dir.num fh listed.number (live_reads dir.seq (head_told (header_block g bs dir.num)) fh listed.header)

      abbrev mark_by : Bool → List PlanWrite
      mark_by t = cond t [] (marked_write g sf stage.Marked ∷ [])

      abbrev removal_by : Bool → List PlanWrite
      removal_by t = removal_writes dd e (cond t stage.Nothing stage.Marked) stage.Unlinked

      -- ---- the runs of directories, and the slots

      mark_keeps : KeepsRuns hb (marked hb)
      mark_keeps = by_dir h.dir refl where
        by_dir : (t : Bool) → h.dir ≡ t → KeepsRuns hb (marked hb)
        by_dir false is = NoDir (ap is_dir_told (reads_fields hb h reads) ∙ is)
        by_dir true is = Same (ap is_dir_told (reads_fields (marked hb) hm mark_reads) ∙ is) (reads_runs (marked hb) hm mark_reads ∙ ap (cut h.blocks) (marked_runs hb h whole.long (first_reads hb h reads)) ∙ sym (reads_runs hb h reads))

      mark_leaves : (t : Bool) → LeavesDirs g bs (mark_by t)
      mark_leaves true = λ w t. absurd t
      mark_leaves false = head_leaves g e.fid.num (marked_write g sf stage.Marked) c bs own s number refl mark_keeps

      us_leaves : LeavesDirs g bs us
      unfolding unnaming_writes
      us_leaves =
          both_leave g bs (mark_by h.marked) (removal_by h.marked) (mark_leaves h.marked)
          (no_header_leaves g bs (removal_by h.marked) (removal_no_header g dir d e (cond h.marked stage.Nothing stage.Marked) stage.Unlinked c bs own s can_go))

      mark_fills : (t : Bool) → LeavesSlots g own took (mark_by t)
      mark_fills true = λ w t. absurd t
      mark_fills false = file_fills g own took e.fid.num e.fid.num (marked_write g sf stage.Marked) (part_there g bs own c s (Header e.fid.num) number) (owned_by e.fid.num h number reads)

      us_fills : LeavesSlots g own took us
      unfolding unnaming_writes
      us_fills =
          both_fill g own took (mark_by h.marked) (removal_by h.marked) (mark_fills h.marked)
          (no_header_fills g own took (removal_by h.marked) (removal_no_header g dir d e (cond h.marked stage.Nothing stage.Marked) stage.Unlinked c bs own s can_go))

      -- ---- what the writes before the ask end with

      us_stage : (t : Stage) → stage_after t (map planned us) ≡ stage.Unlinked
      unfolding unnaming_writes
      us_stage t = stage_behind (mark_by h.marked) (removal_by h.marked) t stage.Unlinked (λ t. removal_stage dd e t (cond h.marked stage.Nothing stage.Marked) stage.Unlinked decides)

      us_outs : (o : Things) → outs_after o (map planned us) ≡ nothing
      unfolding unnaming_writes
      us_outs o = outs_behind (mark_by h.marked) (removal_by h.marked) o nothing (λ o. removal_outs dd e (cond h.marked stage.Nothing stage.Marked) stage.Unlinked o decides)

      mark_few : (t : Bool) → LeaveNothing (mark_by t)
      mark_few true w t = absurd t
      mark_few false w (inl e) = ap (λ (v : PlanWrite). (planned v).outs) (sym e)
      mark_few false w (inr t) = absurd t

      us_few : LeaveFew us
      unfolding unnaming_writes
      us_few =
          nothing_few (mark_by h.marked ++ removal_by h.marked)
          (both_leave_nothing (mark_by h.marked) (removal_by h.marked) (mark_few h.marked) (removal_leaves_nothing dd e (cond h.marked stage.Nothing stage.Marked) stage.Unlinked))

      -- ---- these locks are held: the directory's, those of all headers of the file, Q and V

      module _ (held : List (LockName × Mode)) (in_dir : Has (held_in PW held) (S dir.num)) (in_all : HaveLocks seen.geometry (file_in seen.geometry bs e.fid.num h) (held_in PW held)) (in_q : Has (held_in PW held) Q)
          (in_v : Has (held_in PW held) V) where
        abbrev names : List LockName
        names = held_in PW held

        in_file : Has names (S e.fid.num)
        in_file = in_all e.fid.num (inl refl)

        mark_named : (t : Bool) → AreNamed node names g own (mark_by t)
        mark_named true = λ w t. absurd t
        mark_named false = head_guards g e.fid.num (marked_write g sf stage.Marked) c bs own node names s number refl refl in_file

        us_named : AreNamed node names g own us
        unfolding unnaming_writes
        us_named =
            both_named node names g own (mark_by h.marked) (removal_by h.marked) (mark_named h.marked)
            (removal_guards g dir d e (cond h.marked stage.Nothing stage.Marked) stage.Unlinked c bs own node names s can_go in_dir)

        -- ---- what the last ones go by stands

        mark_under : (t : Bool) → AreUnder (S e.fid.num ∷ []) (mark_by t)
        mark_under true = λ w t. absurd t
        mark_under false = under_locks.header g e.fid.num (marked hb) stage.Marked empty_handed

        us_under : AreUnder (S e.fid.num ∷ S dir.num ∷ []) us
        unfolding unnaming_writes
        us_under = under_joined (S e.fid.num ∷ []) (S dir.num ∷ []) (mark_by h.marked) (removal_by h.marked) (mark_under h.marked) (under_locks.removed dd e (cond h.marked stage.Nothing stage.Marked) stage.Unlinked)

        beside : (lock : LockName) → (Has (S e.fid.num ∷ S dir.num ∷ []) lock → ⊥) → AreBeside node names g own us lock
        beside lock apart = record { named = us_named; names = S e.fid.num ∷ S dir.num ∷ []; under = us_under; beside = apart }

        not_v : Has (S e.fid.num ∷ S dir.num ∷ []) V → ⊥
        not_v (inl is) = cc
        not_v (inr (inl is)) = cc
        not_v (inr (inr t)) = t

        not_q : Has (S e.fid.num ∷ S dir.num ∷ []) Q → ⊥
        not_q (inl is) = cc
        not_q (inr (inl is)) = cc
        not_q (inr (inr t)) = t

        module _ (uses : in_use c e.fid ≡ Some f) (bare : has_entries (Some f) ≡ false) (apart : dir.num ≡ e.fid.num → ⊥) where
          -- another header of the file stands in neither number
          not_other : (m : ℕ) → Has (others_told g bs e.fid.num) m → Has (S e.fid.num ∷ S dir.num ∷ []) (S m) → ⊥
          not_other m t (inl is) =
              let same : e.fid.num ≡ m = (let l : S e.fid.num ≡ S m = is in cc) in
              others_apart g bs e.fid.num h used (subst (λ i. Has (others_told g bs e.fid.num) i) (sym same) t)
          not_other m t (inr (inl is)) =
              let same : dir.num ≡ m = (let l : S dir.num ≡ S m = is in cc) in
              let both : Some (InFile dir.num) ≡ Some (InFile e.fid.num) = sym dir_owned ∙ ap (λ i. slice_get own.numbers (i - 1)) same ∙ other_owned g bs own c s e.fid.num h number used m t in
              apart (cc)
          not_other m t (inr (inr none)) = none

          abbrev bare_cat : Cat
          bare_cat = unlinked c node dir name ver d e f

          abbrev free_cat : Cat
          free_cat = without_file c node dir name ver d e f

          abbrev last_cat : Cat
          last_cat = gone c node dir name ver d e f

          abbrev k : Chain
          k = chain.k node g bs own c s stock outs dir name ver fh listed (held_in PW held)

          -- ---- refused

          abbrev Unlinked : List Block → Type 0
          Unlinked bs' = IsUnlinked node g bs own c s stock outs dir name ver fh listed (held_in PW held) e found free h number reads bs'

          first_steps : (end : End) (ws : List PlanWrite) → (Unlinked (after_writes us bs) → StepsOf end k ws (after_writes us bs) own) → StepsOf end k (us ++ ws) bs own
          first_steps = unnaming_steps node g bs own c s stock outs dir name ver fh listed (held_in PW held) e found free h number reads uses bare apart in_dir in_file

          module _ (opened : is_open c e.fid.num ≡ true) where
            abbrev refused_end : End
            refused_end = Replied g node (under_way x seen us (knows node x seen)) x reply.Marked c stock

            marked_end : (bs' : List Block) → Spells g bs' own bare_cat → refused_end bs' own
            marked_end bs' spelt = (
              bare_cat,
              subst (λ st. StandsAt c node (Some x) st bare_cat) (sym (us_stage stage.Nothing)) (stands_unlinked c node dir name ver d listed.live listed.dir e found free f uses bare),
              spelt,
              subst (λ t. Outs node own t stock) (sym (us_outs (things seen.clusters seen.number))) outs,
              c.opens,
              marks_answer c node dir name ver d listed.live listed.dir e found free f uses bare opened,
            )

            pub refused_done : AreDone x node seen bs own c stock held us reply.Marked
            refused_done = record {
              named = us_named;
              dirs = us_leaves;
              slots = us_fills;
              kept_out = held_keeps_out (things seen.clusters seen.number) names us in_v us_few;
              steps = subst (λ ws. StepsOf refused_end k ws bs own) (append-nil us) (first_steps refused_end [] (λ un. marked_end _ un.spelt));
            }

          -- ---- granted

          module _ (shut : is_open c e.fid.num ≡ false) where
            abbrev granted_end : End
            granted_end = Replied g node (under_way x seen all (knows node x seen)) x reply.Deleted c stock

            free_stage : StandsAt c node (Some x) stage.Freed free_cat
            free_stage = stands_freed c node dir name ver d listed.live listed.dir e found free f uses bare shut

            last_stage : StandsAt c node (Some x) stage.Done last_cat
            last_stage = stands_gone c node dir name ver d listed.live listed.dir e found free f uses bare shut

            abbrev second : List Block
            second = after_writes us bs

            -- the slot that was marked is free
            slots : freed bare_cat e.fid.num fm ≡ free_cat
            slots = slot_twice (less c node dir name ver d e) e.fid.num (slot.Used fm) (slot.Free f.seq)

            -- the file's cost by the geometry
            last_is : freeing.gone g bare_cat e.fid.num fm ≡ last_cat
            last_is = ap (λ (y : Cat). discharged y f.owner fewer) slots ∙ ap (λ w. discharged free_cat f.owner (w * f.clusters + 1)) (sym s.constants.factor)

            -- the last writes are those of the file as it stood
            module _ (un : Unlinked second) where
              clusters : file_clusters g (file_in g second e.fid.num hm) ≡ file_clusters g sf
              clusters =
                  seen_clusters g second e.fid.num hm (reads_fields (header_block g second e.fid.num) hm un.file.reads)
                  ∙ ap (clusters_of g.cluster) un.runs ∙ sym (seen_clusters g bs e.fid.num h used)

              others : headers_behind g second e.fid.num ≡ headers_behind g bs e.fid.num
              others = rest_stands node names g e.fid.num h hm bs own c s number us (beside V not_v) (beside Q not_q) (λ m t. beside (S m) (not_other m t)) un.slots clusters

              same : gone_writes g second e.fid.num hm ≡ last_ones
              same = gone_stands node names g e.fid.num h hm bs own c s number us (beside V not_v) (beside Q not_q) (λ m t. beside (S m) (not_other m t)) un.slots clusters refl refl refl

              locks : HaveLocks g (file_in g second e.fid.num hm) names
              locks = subst (λ (xs : List (ℕ × Block)). (m : ℕ) → Has (e.fid.num ∷ slots_seen g xs) m → Has names (S m)) (sym others) in_all

              all_stage : stage_after stage.Nothing (map planned all) ≡ stage_after stage.Nothing (map planned (gone_writes g second e.fid.num hm))
              all_stage =
                  stage_both us last_ones stage.Nothing ∙ ap (λ st. stage_after st (map planned last_ones)) (us_stage stage.Nothing)
                  ∙ gone_stage g sf (space_at g bs e.fid.num h) stage.Unlinked ∙ ap (λ (ws : List PlanWrite). stage_after stage.Nothing (map planned ws)) (sym same)

              nothing_left : outs_after (things seen.clusters seen.number) (map planned all) ≡ nothing
              nothing_left =
                  let count = length-blocks_at bs (storage_places g (all_clusters g sf)) in
                  whole_outs g dd e sf (space_at g bs e.fid.num h) (count ∙ length-map (blocks_for g (all_clusters g sf)) (λ b. place_of g (Storage b))) (things seen.clusters seen.number)

              finish : (bs' : List Block) (new : Owners) → StandsOn k empty_handed (freeing.gone g bare_cat e.fid.num fm) bs' new
                  → StandsAt c node (Some x) (stage_after stage.Nothing (map planned (gone_writes g second e.fid.num hm))) (freeing.gone g bare_cat e.fid.num fm) → granted_end bs' new
              finish bs' new on at = (
                last_cat,
                subst (λ st. StandsAt c node (Some x) st last_cat) (sym all_stage) (subst (λ y. StandsAt c node (Some x) (stage_after stage.Nothing (map planned (gone_writes g second e.fid.num hm))) y) last_is at),
                subst (λ y. Spells g bs' new y) last_is on.spelt,
                subst (λ t. Outs node new t stock) (sym nothing_left) on.outs,
                c.opens,
                deletes_answer c node dir name ver d listed.live listed.dir e found free f uses bare shut,
              )

              last_steps : StepsOf granted_end k last_ones second own
              last_steps =
                  subst (λ (ws : List PlanWrite). StepsOf granted_end k ws second own) same
                  (gone_steps granted_end k e.fid.num hm body bare_cat second own (record { spelt = un.spelt; outs = outs }) un.file locks in_q in_v
                  (subst (λ y. StandsAt c node (Some x) stage.Freed y) (sym slots) free_stage) (subst (λ y. StandsAt c node (Some x) stage.Done y) (sym last_is) last_stage) finish)

            pub granted_done : AreDone x node seen bs own c stock held all reply.Deleted
            granted_done = record {
              named = both_named node names g own us last_ones us_named (gone_guards g e.fid.num h f c bs own node names s file_there in_all in_q in_v);
              dirs = both_leave g bs us last_ones us_leaves (gone_leaves g e.fid.num h f c bs own s file_there);
              slots = both_fill g own took us last_ones us_fills (gone_fills g e.fid.num h f c bs own took s file_there);
              kept_out = held_keeps_out (things seen.clusters seen.number) names all in_v (both_few us last_ones us_few (gone_leaves_few g e.fid.num h f c bs own s file_there));
              steps = first_steps granted_end last_ones last_steps;
            }
