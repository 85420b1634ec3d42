-- The writes of a DELETE as a chain of steps. Those before the ask are one chain, with an end that is a parameter.
use Rattle.std.proofs.Common.{◌≡◌, ◌<◌, ◌∙◌, ℕ, Bool, true, false, cond, List, [], ◌∷◌, ◌++◌, Some, None, refl, sym, ap, subst, arith}
use Rattle.std.specs.Prelude.{nat_le, Ok}
use Rattle.std.proofs.lemmas.Bool.Decides.{nat_tests}
use Rattle.std.proofs.lemmas.List.{append-nil}
use Rattle.base_words.specs.Fields.{Block, IsWholeBlock}
use Rattle.fx_header.specs.declared.slot.Hdr.{Hdr}
use Rattle.fx_header.specs.declared.slot.Slot.TheVariants as head
use Rattle.fx_header.specs.Headers.{marked}
use Rattle.fx_header.proofs.SetterLemmas.{marked-reads}
use Rattle.lock_db.specs.declared.name.LockName.{LockName}
use Rattle.lock_db.specs.declared.name.LockName.TheVariants.{S}
use Rattle.plain_cat.specs.declared.ids.Fid.{Fid}
use Rattle.plain_cat.specs.declared.entries.DirEnt.{DirEnt}
use Rattle.plain_cat.specs.declared.command.Cmd.{Cmd}
use Rattle.plain_cat.specs.declared.command.Cmd.TheVariants as cmd
use Rattle.plain_cat.specs.declared.history.Stage.TheVariants as stage
use Rattle.plain_cat.specs.declared.cat.Cat.{Cat}
use Rattle.plain_cat.specs.declared.cat.File.{File}
use Rattle.plain_cat.specs.declared.cat.Slot.TheVariants as slot
use Rattle.plain_rules.specs.Lookups.{file_at, in_use, versions, entry_of}
use Rattle.plain_rules.specs.Directories.{without}
use Rattle.plain_rules.specs.Changes.{with_file, with_entries}
use Rattle.plain_rules.specs.Answers.{has_entries}
use Rattle.base_words.specs.Lists.{Has}
use Rattle.vol_spell.specs.Owners.{Owners, Things, nothing, Outs}
use Rattle.vol_parts.specs.declared.geometry.Geometry.{Geometry}
use Rattle.vol_parts.specs.Volumes.{Told}
use Rattle.vol_spell.specs.Reading.{IsFileNumber, header_block, head_told, told_of}
use Rattle.vol_spell.specs.Spelling.{Spells}
use Rattle.vol_under.specs.Chains.{End}
use Rattle.vol_under.specs.UnderWay.{StandsAt}
use Rattle.vol_under.proofs.Steps.{stands_first}
use Rattle.op_law.specs.declared.need.PlanWrite.{PlanWrite}
use Rattle.op_law.specs.Writing.{empty_handed}
use Rattle.vol_spell.specs.Files.{IsFileThere}
use Rattle.op_law.specs.Refusing.{SeenFile}
use Rattle.op_law.specs.Moving.{SeenDir, removal_writes}
use Rattle.op_law.specs.Removing.{unnaming_writes}
use Rattle.vol_spell.proofs.Heads.{first_reads, first_segment, reads_first}
use Rattle.vol_spell.proofs.HeadSlots.{file_told_at}
use Rattle.op_law.proofs.Through.{file_told, IsListed}
use Rattle.op_steps.specs.Chained.{Chain, StepsOf, after_writes, StandsOn}
use Rattle.op_steps.specs.EntryWrites.{dir_in}
use Rattle.vol_spell.specs.Entries.{CanBeRemoved}
use Rattle.op_steps.proofs.Chaining.{live_at, other_slot, same_dir}
use Rattle.vol_spell.proofs.RemovalLists.{found_there}
use Rattle.op_steps.proofs.RemovalSteps.{removal_steps}
use Rattle.op_steps.specs.Files.{file_in}
use Rattle.op_steps.specs.HeadWrites.{IsHeadWritten}
use Rattle.op_steps.specs.MarkWrites.{IsSameChain, marked_write}
use Rattle.vol_spell.proofs.HeadFiles.{head_whole}
use Rattle.op_steps.proofs.Kept.{marked_steps}
use Rattle.op_delete.proofs.Slots.{slots_apart, slot_same}
use Rattle.vol_spell.proofs.Slots.{file_there}
use Rattle.op_delete.proofs.Outcomes.{less, unlinked, stands_removed, stands_marked, stands_unlinked}

module _ (node : ℕ) (g : Geometry) (bs : List Block) (own : Owners) (c : Cat) (s : Spells g bs own c) (stock : Things) (outs : Outs node own nothing stock)
    (dir : Fid) (name : List ℕ) (ver : ℕ) (fh : Hdr) (listed : IsListed g bs c dir fh) (locks : List LockName) where
  abbrev pub x : Cmd
  x = cmd.Delete dir name ver

  abbrev pub d : File
  d = file_told bs g dir fh

  abbrev pub dd : SeenDir
  dd = dir_in g bs dir

  abbrev pub k : Chain
  k = record { geometry = g; node = node; cmd = Some x; locks = locks; cat = c; stock = stock }

  module _ (e : DirEnt) (found : entry_of (versions name d.entries) ver ≡ Some e) (free : nat_le e.fid.num 11 ≡ false) where
    abbrev n : ℕ
    n = e.fid.num

    abbrev lesser : Cat
    lesser = less c node dir name ver d e

    at_dir : file_at c dir.num ≡ Some d
    at_dir = live_at c dir d listed.live

    pub can : CanBeRemoved g c dir.num d e
    can = record { number = listed.number; file = at_dir; dir = listed.dir; there = found_there name ver d.entries e found }

    started : StandsOn k empty_handed c bs own
    started = record { spelt = s; outs = outs }

    first_at : StandsAt c node (Some x) stage.Nothing c
    first_at = stands_first c node (Some x)

    -- ---- an entry without a file

    module _ (none : in_use c e.fid ≡ None) (end : End) (finish : (bs' : List Block) → Spells g bs' own lesser → end bs' own) where
      pub lone_steps : StepsOf end k (removal_writes dd e stage.Nothing stage.Done) bs own
      lone_steps =
          let steps = removal_steps end k dir d e stage.Nothing stage.Done [] c bs own started can first_at (stands_removed c node dir name ver d listed.live listed.dir e found free none) (λ on stays. finish _ on.spelt) in
          subst (λ ws. StepsOf end k ws bs own) (append-nil (removal_writes dd e stage.Nothing stage.Done)) steps

    -- ---- a file

    module _ (h : Hdr) (number : IsFileNumber g e.fid.num) (reads : head_told (header_block g bs e.fid.num) ≡ Ok (head.Used h)) where
      abbrev pub f : File
      f = file_told bs g e.fid h

      abbrev pub sf : SeenFile
      sf = file_in g bs e.fid.num h

      abbrev hb : Block
      hb = header_block g bs e.fid.num

      -- the file once it is marked
      abbrev fm : File
      fm = record f { marked = true }

      abbrev hm : Hdr
      hm = record h { marked = true }

      abbrev bare_cat : Cat
      bare_cat = unlinked c node dir name ver d e f

      above : 11 < e.fid.num
      above = grind (arith, nat_tests)

      at_file : file_at c e.fid.num ≡ Some f
      at_file = file_told_at g bs own c s e.fid.num h number reads

      pub there : IsFileThere g c bs e.fid.num h f
      there = record { number = number; above = above; reads = reads; file = at_file }

      -- Blocks that spell the catalogue without the entry, with the file marked: it has the headers and the runs that it had.
      pub record IsUnlinked (bs' : List Block) : Type 0 where
        pub spelt : Spells g bs' own bare_cat
        pub file : IsFileThere g bare_cat bs' e.fid.num hm fm
        pub slots : (told_of g bs' e.fid.num).slots ≡ (told_of g bs e.fid.num).slots
        pub runs : (told_of g bs' e.fid.num).runs ≡ (told_of g bs e.fid.num).runs

      module _ (uses : in_use c e.fid ≡ Some f) (bare : has_entries (Some f) ≡ false) (apart : dir.num ≡ e.fid.num → ⊥) (in_dir : Has locks (S dir.num)) (in_file : Has locks (S e.fid.num)) where
        at_less : file_at lesser e.fid.num ≡ Some f
        at_less = other_slot c dir.num e.fid.num _ listed.number.from number.from apart ∙ at_file

        marked_there : file_at bare_cat e.fid.num ≡ Some fm
        marked_there = file_there lesser e.fid.num f fm number.from at_less

        -- blocks with this header of the file, of which the same is told, are so
        unlinked_at : (bs' : List Block) (b : Block) (t : Told) → Spells g bs' own bare_cat → header_block g bs' e.fid.num ≡ b → head_told b ≡ Ok (head.Used hm)
            → told_of g bs' e.fid.num ≡ t → t.slots ≡ (told_of g bs e.fid.num).slots → t.runs ≡ (told_of g bs e.fid.num).runs → IsUnlinked bs'
        unlinked_at bs' b t spelt is marked_reads same slots runs = record {
          spelt = spelt;
          file = record { number = number; above = above; reads = ap head_told is ∙ marked_reads; file = marked_there };
          slots = ap (λ (y : Told). y.slots) same ∙ slots;
          runs = ap (λ (y : Told). y.runs) same ∙ runs;
        }

        abbrev Unlinked : Cat → Type 0
        Unlinked y = StandsAt c node (Some x) stage.Unlinked y

        unlinked_stage : Unlinked bare_cat
        unlinked_stage = stands_unlinked c node dir name ver d listed.live listed.dir e found free f uses bare

        -- ---- the writes before the ask

        -- by whether the file is marked already
        abbrev writes_by : Bool → List PlanWrite
        writes_by t = (cond t [] (marked_write g sf stage.Marked ∷ [])) ++ removal_writes dd e (cond t stage.Nothing stage.Marked) stage.Unlinked

        abbrev Rest : End → List PlanWrite → List PlanWrite → Type 0
        Rest end vs ws = IsUnlinked (after_writes vs bs) → StepsOf end k ws (after_writes vs bs) own

        -- the file is marked: it stands as the removal leaves it
        module _ (end : End) (ws : List PlanWrite) (was : h.marked ≡ true) (rest : Rest end (writes_by true) ws) where
          same_file : fm ≡ f
          same_file = ap (λ (t : Bool). record f { marked = t }) (sym was)

          same_cat : bare_cat ≡ lesser
          same_cat = ap (λ (y : File). with_file lesser e.fid.num y) same_file ∙ slot_same lesser e.fid.num f at_less

          marked_reads : head_told hb ≡ Ok (head.Used hm)
          marked_reads = reads ∙ ap (λ (t : Bool). Ok (head.Used (record h { marked = t }))) was

          marked_chain : StepsOf end k (writes_by true ++ ws) bs own
          marked_chain =
              removal_steps end k dir d e stage.Nothing stage.Unlinked ws c bs own started can first_at (subst Unlinked same_cat unlinked_stage)
              (λ on stays. let at = stays e.fid.num number (λ q. apart (sym q)) in
              rest (unlinked_at _ hb (told_of g bs e.fid.num) (subst (λ y. Spells g (after_writes (writes_by true) bs) own y) (sym same_cat) on.spelt) at.header marked_reads at.told refl refl))

        -- it is not: the mark comes first
        module _ (end : End) (ws : List PlanWrite) (was : h.marked ≡ false) (rest : Rest end (writes_by false) ws) where
          abbrev mark : List PlanWrite
          mark = marked_write g sf stage.Marked ∷ []

          abbrev next : List Block
          next = after_writes mark bs

          abbrev with_mark : Cat
          with_mark = with_file c e.fid.num fm

          -- the slots in the order of the writes
          order : with_entries with_mark dir.num d (without e.name e.ver d.entries) ≡ bare_cat
          order = slots_apart c e.fid.num dir.num (slot.Used fm) (slot.Used (record d { entries = without e.name e.ver d.entries })) number.from listed.number.from (λ q. apart (sym q))

          can_then : CanBeRemoved g with_mark dir.num d e
          can_then = record {
            number = listed.number;
            file = other_slot c e.fid.num dir.num (slot.Used fm) number.from listed.number.from (λ q. apart (sym q)) ∙ at_dir;
            dir = listed.dir;
            there = found_there name ver d.entries e found;
          }

          whole : IsWholeBlock hb
          whole = head_whole g bs own c e.fid.num h s number reads

          mark_reads : head_told (marked hb) ≡ Ok (head.Used hm)
          mark_reads = reads_first (marked hb) hm (marked-reads hb h whole.long whole.bytes (first_reads hb h reads)) (first_segment hb h reads)

          marked_stage : StandsAt c node (Some x) stage.Marked with_mark
          marked_stage = stands_marked c node dir name ver d listed.live listed.dir e found free f uses bare was

          module _ (w : IsHeadWritten k e.fid.num (marked hb) nothing with_mark bs next own) (same : IsSameChain g e.fid.num bs next) where
            abbrev removal_in : SeenDir → List PlanWrite
            removal_in y = removal_writes y e stage.Marked stage.Unlinked

            abbrev Goes : SeenDir → Type 0
            Goes y = (IsUnlinked (after_writes (removal_in y) next) → StepsOf end k ws (after_writes (removal_in y) next) own) → StepsOf end k (removal_in y ++ ws) next own

            same_names : dir_in g next dir ≡ dd
            same_names = same_dir g bs own c s dir fh listed next (w.others dir.num listed.number apart)

            goes : Goes (dir_in g next dir)
            goes more =
                removal_steps end k dir d e stage.Marked stage.Unlinked ws with_mark next own (record { spelt = w.spelt; outs = w.outs }) can_then marked_stage (subst Unlinked (sym order) unlinked_stage)
                (λ on stays. let at = stays e.fid.num number (λ q. apart (sym q)) in
                more (unlinked_at _ (marked hb) (told_of g next e.fid.num) (subst (λ y. Spells g (after_writes (removal_in (dir_in g next dir)) next) own y) order on.spelt)
                (at.header ∙ w.file.header) mark_reads at.told same.slots same.runs))

            behind_mark : StepsOf end k (removal_in dd ++ ws) next own
            behind_mark = subst Goes same_names goes rest

          fresh_chain : StepsOf end k (writes_by false ++ ws) bs own
          fresh_chain = marked_steps end k e.fid.num h f stage.Marked (removal_writes dd e stage.Marked stage.Unlinked ++ ws) c bs own started there in_file marked_stage behind_mark

        pub unnaming_steps : (end : End) (ws : List PlanWrite) → (IsUnlinked (after_writes (unnaming_writes g dd e sf) bs) → StepsOf end k ws (after_writes (unnaming_writes g dd e sf) bs) own)
            → StepsOf end k (unnaming_writes g dd e sf ++ ws) bs own
        unfolding unnaming_writes
        unnaming_steps end ws rest = by_mark h.marked refl rest where
          by_mark : (t : Bool) → h.marked ≡ t → Rest end (writes_by t) ws → StepsOf end k (writes_by t ++ ws) bs own
          by_mark true was rest = marked_chain end ws was rest
          by_mark false was rest = fresh_chain end ws was rest
