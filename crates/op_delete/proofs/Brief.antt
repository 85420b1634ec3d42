-- How much a DELETE needs and writes.
use Rattle.fx_header.specs.Pointers.{lbns_in}
use Rattle.fx_header.specs.declared.run.Run.{Run}
use Rattle.op_law.proofs.SeenRuns.{first_runs}
use Rattle.op_law.specs.SeenFiles.{runs_by, runs_seen, file_places}
use Rattle.op_law.specs.Headers.{through_chain}
use Rattle.std.proofs.Common.{◌≡◌, ◌≤◌, ◌<◌, ◌+◌, ◌/◌, ◌∙◌, ℕ, Bool, true, false, cond, List, [], ◌∷◌, ◌++◌, Option, Some, None, length, refl, sym, ap, subst, arith, length-append}
use Rattle.std.specs.Prelude.{◌==◌, nat_le, option_map, Ok}
use Rattle.std.proofs.lemmas.Bool.Decides.{nat_tests}
use Rattle.base_words.specs.Fields.{Block}
use Rattle.fx_header.specs.declared.slot.Hdr.{Hdr}
use Rattle.fx_header.specs.declared.slot.Slot.TheVariants as head
use Rattle.fx_header.specs.Headers.{runs_in, marked}
use Rattle.lock_db.specs.declared.name.LockName.TheVariants.{S}
use Rattle.plain_cat.specs.declared.ids.Fid.{Fid}
use Rattle.plain_cat.specs.declared.mode.Mode.TheVariants.{PW}
use Rattle.plain_cat.specs.declared.entries.DirEnt.{DirEnt}
use Rattle.plain_cat.specs.declared.command.Cmd.TheVariants as cmd
use Rattle.plain_cat.specs.declared.history.Stage.TheVariants as stage
use Rattle.plain_cat.specs.declared.reply.Refusal.TheVariants as refusal
use Rattle.plain_cat.specs.declared.cat.Cat.{Cat}
use Rattle.plain_rules.specs.Lookups.{versions, entry_of, extra}
use Rattle.plain_rules.specs.Directories.{is_nil}
use Rattle.vol_spell.specs.Owners.{Owners}
use Rattle.vol_parts.specs.declared.geometry.Geometry.{Geometry}
use Rattle.vol_spell.specs.Reading.{IsFileNumber, header_place, header_block, head_told}
use Rattle.vol_spell.specs.Spelling.{Spells}
use Rattle.op_law.specs.declared.seen.Seen.{Seen}
use Rattle.op_law.specs.Events.{Events, Take, Look, Make, Space, space_of}
use Rattle.op_law.specs.Needs.{events_of}
use Rattle.op_law.specs.Rows.{refuses, is_number, look_all, entries_seen}
use Rattle.op_law.specs.Refusing.{SeenFile, seen_file, used_in, if_file, if_entry}
use Rattle.op_law.specs.Writing.{empty_handed, header_write}
use Rattle.op_law.specs.Moving.{SeenDir, entries_of, removal_writes}
use Rattle.op_law.specs.Freeing.{SeenSpace, through_space, freeing_writes}
use Rattle.op_law.specs.Removing.{under_lock, if_empty, marking_writes, unnaming_writes, delete_plan, entry_removed, delete_in}
use Rattle.op_law.proofs.Brief.{BriefBy, Briefs, brief_more}
use Rattle.op_law.proofs.Chains.{extra_few}
use Rattle.op_law.proofs.Links.{links_brief}
use Rattle.vol_spell.proofs.HeadSlots.{reads_fields}
use Rattle.op_law.proofs.Heads.{header_is, listed_inside}
use Rattle.op_law.proofs.Telling.{number_is}
use Rattle.op_law.proofs.Counting.{few_places, all_brief, number_brief, directory_brief, removal_few, freeing_few}
use Rattle.op_steps.proofs.Uses.{used_reads}
use Rattle.op_steps.proofs.Looks.{space_brief}
use Rattle.op_delete.proofs.Walks.{behind, events_are}
use Rattle.op_delete.proofs.Behind.{dir_lone}

none_there : (xs : List (ℕ × Block)) → length xs ≡ 0 → xs ≡ []
none_there [] e = refl
none_there (x ∷ xs) e = absurd (omega arith)

mark_few : (g : Geometry) (f : SeenFile) → length (marking_writes g f) ≤ 1
mark_few g f = by_mark f.file.marked where
  by_mark : (t : Bool) → length (cond t [] (header_write g f.num (marked f.head) stage.Marked empty_handed ∷ [])) ≤ 1
  by_mark true = omega arith
  by_mark false = omega arith

pub first_few : (g : Geometry) (d : SeenDir) (e : DirEnt) (f : SeenFile) → length d.blocks ≤ 16 → length (unnaming_writes g d e f) ≤ 34
unfolding unnaming_writes
first_few g d e f few =
    let n = length-append (marking_writes g f) (removal_writes d e (cond f.file.marked stage.Nothing stage.Marked) stage.Unlinked) in
    omega (arith, mark_few g f, removal_few d e (cond f.file.marked stage.Nothing stage.Marked) stage.Unlinked few)

module _ (g : Geometry) (bs : List Block) (own : Owners) (c : Cat) (s : Spells g bs own c) (space : Space) (dir : Fid) (name : List ℕ) (ver : ℕ) where
  abbrev Within : Events → ℕ → ℕ → Type 0
  Within es locks looks = BriefBy bs space 120 es locks looks

  module _ (d : SeenDir) (few : length d.blocks ≤ 16) (e : DirEnt) where
    lone_brief : (locks looks : ℕ) → Within (entry_removed d e) locks looks
    lone_brief locks looks = omega (arith, removal_few d e stage.Nothing stage.Done few)

    plan_few : (f : SeenFile) (sp : SeenSpace) → length f.rest ≤ 15 → length (unnaming_writes g d e f ++ freeing_writes g f sp) ≤ 120
    plan_few f sp least =
        let n = length-append (unnaming_writes g d e f) (freeing_writes g f sp) in
        omega (arith, first_few g d e f few, freeing_few g f sp s.counts.geometry)

    abbrev next : SeenFile → Events
    next f = through_space g f (λ sp. Make (delete_plan g d e f sp))

    abbrev goes : SeenFile → Events
    goes f = if_empty f (next f)

    module _ (number : IsFileNumber g e.fid.num) (above : 11 < e.fid.num) where
      abbrev hb : Block
      hb = header_block g bs e.fid.num

      abbrev looking : Block → Events
      looking b = if_file (entry_removed d e) (λ first. through_chain g PW first goes) (option_map (seen_file g e.fid.num b) (used_in e.fid.seq b))

      module _ (h : Hdr) (reads : head_told hb ≡ Ok (head.Used h)) where
        -- a directory's blocks are looked at, and it has no other header; of another file the other headers are
        dir_places : (f : SeenFile) → f.head ≡ hb → f.rest ≡ [] → f.blocks ≡ h.blocks → h.dir ≡ true → length (file_places f) ≤ 16
        dir_places f head none blocks is =
            let runs : runs_seen f ≡ runs_in hb =
            ap (λ (xs : List (ℕ × Block)). runs_by f.blocks f.head xs) none ∙ (λ i. runs_by (blocks i) (head i) []) ∙ first_runs hb h reads
            ∙ (listed_inside g bs own c s e.fid.num number).dir h (reads_fields hb h reads) is in
            subst (λ (rs : List Run). length (lbns_in rs) ≤ 16) (sym runs) (few_places g bs own c s e.fid.num number h reads is)

        whole_brief : (f : SeenFile) → length f.rest ≤ 15 → (looks : ℕ) → 33 ≤ looks → Within (next f) 2 looks
        whole_brief f few looks fits = space_brief g bs own c s space 120 f (λ sp. delete_plan g d e f sp) 2 looks (omega arith) fits (λ sp. plan_few f sp few)

        others_few : extra (h.blocks / g.cluster) ≤ 15
        others_few = extra_few g bs own c s e.fid.num h number (reads_fields hb h reads) above

        file_brief : (locks : ℕ) → 17 ≤ locks → Within (through_chain g PW (seen_file g e.fid.num hb h) goes) locks 52
        file_brief locks enough = by_dir h.dir refl where
          f : SeenFile
          f = seen_file g e.fid.num hb h

          by_nil : (y : SeenFile) → length y.rest ≤ 15 → (t : Bool) → Within (cond t (next y) (refuses refusal.DirNotEmpty)) 2 33
          by_nil y least true = whole_brief y least 33 (omega arith)
          by_nil y least false = omega arith

          by_dir : (t : Bool) → h.dir ≡ t → Within (through_chain g PW f goes) locks 52
          by_dir true is =
              let none : extra (h.blocks / g.cluster) ≡ 0 = dir_lone g bs own c e.fid.num h s number reads is in
              brief_more bs space 120 (through_chain g PW f goes) (extra (h.blocks / g.cluster) + 2) (extra (h.blocks / g.cluster) + 49) locks 52 (omega arith) (omega arith)
              (links_brief bs space 120 g PW (extra (h.blocks / g.cluster)) hb f goes 2 49 (λ rest len.
              let empty : rest ≡ [] = none_there rest (omega arith) in
              let y : SeenFile = record f { rest = rest } in
              subst (λ t. Within (cond t (look_all (S e.fid.num) (file_places y) (λ bs. cond (is_nil (entries_seen bs)) (next y) (refuses refusal.DirNotEmpty))) (next y)) 2 49) (sym is)
              (all_brief bs space 120 (S e.fid.num) (file_places y) _ 16 2 49 (dir_places y refl empty refl is) (omega arith) (λ seen same. by_nil y (omega arith) (is_nil (entries_seen seen))))))
          by_dir false is =
              let most = others_few in
              brief_more bs space 120 (through_chain g PW f goes) (extra (h.blocks / g.cluster) + 2) (extra (h.blocks / g.cluster) + 33) locks 52 (omega arith) (omega arith)
              (links_brief bs space 120 g PW (extra (h.blocks / g.cluster)) hb f goes 2 33 (λ rest len.
              let y : SeenFile = record f { rest = rest } in
              subst (λ t. Within (cond t (look_all (S e.fid.num) (file_places y) (λ bs. cond (is_nil (entries_seen bs)) (next y) (refuses refusal.DirNotEmpty))) (next y)) 2 33) (sym is)
              (whole_brief y (omega arith) 33 (omega arith))))

      used_brief : (locks : ℕ) → 17 ≤ locks → Within (looking hb) locks 52
      used_brief locks enough = by_used (used_in e.fid.seq hb) refl where
        by_used : (o : Option Hdr) → used_in e.fid.seq hb ≡ o → Within (if_file (entry_removed d e) (λ first. through_chain g PW first goes) (option_map (seen_file g e.fid.num hb) o)) locks 52
        by_used None is = lone_brief locks 52
        by_used (Some h) is = file_brief h (used_reads e.fid.seq hb h is) locks enough

      lock_brief : (t : Bool) → Within (cond t (Look (S e.fid.num) (header_place g e.fid.num) looking) (Take (S e.fid.num) PW (Look (S e.fid.num) (header_place g e.fid.num) looking))) 18 53
      lock_brief true = (omega arith, λ b at. subst (λ y. Within (looking y) 18 52) (header_is g bs e.fid.num (header_place g e.fid.num) b refl at) (used_brief 18 (omega arith)))
      lock_brief false = number_brief bs space 120 g own c s e.fid.num PW looking 18 53 (omega arith) (omega arith) (used_brief 17 (omega arith))

    named_brief : 11 < e.fid.num → (t : Bool) → is_number g e.fid ≡ t
        → Within (cond t (under_lock g d.fid.num e.fid.num (λ b. if_file (entry_removed d e) (λ first. through_chain g PW first goes) (option_map (seen_file g e.fid.num b) (used_in e.fid.seq b)))) (entry_removed d e)) 18 53
    named_brief above true is = lock_brief (number_is g e.fid is) above (e.fid.num == d.fid.num)
    named_brief above false is = lone_brief 18 53

  behind_brief : (d : SeenDir) → length d.blocks ≤ 16 → Within (behind dir name ver g d) 18 53
  behind_brief d few = by_entry (entry_of (versions name (entries_of d)) ver) where
    by_kept : (e : DirEnt) (t : Bool) → nat_le e.fid.num 11 ≡ t → Within (cond t (refuses refusal.NoPriv) (delete_in g d e)) 18 53
    by_kept e true kept = omega arith
    by_kept e false free = named_brief d few e (grind (arith, nat_tests)) (is_number g e.fid) refl

    by_entry : (o : Option DirEnt) → Within (if_entry o (delete_in g d)) 18 53
    by_entry None = omega arith
    by_entry (Some e) = by_kept e (nat_le e.fid.num 11) refl

  names_brief : (seen : Seen) → seen.geometry ≡ g → Within (events_of g seen.channel (cmd.Delete dir name ver)) 19 70
  names_brief seen is = subst (λ es. Within es 19 70) (sym (events_are dir name ver g seen.channel))
      (directory_brief bs space 120 g own c s dir PW 19 70 (omega arith) _ (omega arith)
      (λ blocks few. behind_brief (record { fid = dir; head = header_block g bs dir.num; blocks = blocks }) few))

pub delete_brief : (dir : Fid) (name : List ℕ) (ver : ℕ) → Briefs (cmd.Delete dir name ver)
delete_brief dir name ver node seen bs own c on = names_brief seen.geometry bs own c on.spelt (space_of seen) dir name ver seen refl
