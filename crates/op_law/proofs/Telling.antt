-- What a header tells of the live file of an identifier.
use Rattle.std.proofs.Common.{◌≡◌, ◌≤◌, ◌-◌, ◌∙◌, ℕ, Bool, true, false, cond, List, Some, None, length, slice_get, All, refl, sym, ap, subst, arith}
use Rattle.std.specs.Prelude.{◌==◌, ◌&&◌, not, option_map, Result, Ok, Err}
use Rattle.std.proofs.lemmas.Bool.Decides.{nat_tests}
use Rattle.std.proofs.lemmas.Option.{slice_get_past}
use Rattle.base_words.specs.Fields.{Block}
use Rattle.fx_header.specs.declared.run.Run.{Run}
use Rattle.fx_header.specs.declared.slot.Hdr.{Hdr}
use Rattle.fx_header.specs.declared.slot.Slot.{Slot as Head}
use Rattle.fx_header.specs.declared.slot.Slot.TheVariants as head
use Rattle.fx_header.specs.declared.slot.HeaderFault.{HeaderFault}
use Rattle.fx_header.specs.Headers.{header_read, runs_in}
use Rattle.fx_header.specs.Pointers.{blocks_in}
use Rattle.fx_header.proofs.SoundLemmas.{reads-sound}
use Rattle.plain_cat.specs.declared.ids.Fid.{Fid}
use Rattle.plain_cat.specs.declared.cat.Cat.{Cat}
use Rattle.plain_rules.specs.Lookups.{slot_at, file_in, of_seq, unmarked, live}
use Rattle.vol_spell.specs.Owners.{Owners}
use Rattle.vol_parts.specs.declared.geometry.Geometry.{Geometry}
use Rattle.vol_parts.specs.Catalogues.{slot_with, file_of}
use Rattle.vol_spell.specs.Reading.{IsFileNumber, header_block, head_told}
use Rattle.vol_spell.specs.Spelling.{Spells}
use Rattle.vol_spell.specs.Entries.{places_in}
use Rattle.vol_parts.specs.Chains.{cut}
use Rattle.vol_parts.proofs.Sizes.{length-lbns_in}
use Rattle.vol_spell.specs.Files.{blocks_told}
use Rattle.vol_spell.proofs.HeadSlots.{reads_fields, reads_runs, slot_is}
use Rattle.vol_spell.proofs.OneHeader.{alone_size}
use Rattle.op_law.specs.Readable.{HasMap, EndsInside, ListsInside, AreInside}
use Rattle.op_law.specs.Rows.{is_number, live_header, live_in}

-- ---- the header of a live file

pub live_reads : (seq : ℕ) (r : Result Head HeaderFault) (h : Hdr) → live_header seq r ≡ Some h → r ≡ Ok (head.Used h)
live_reads seq (Ok (head.Used f)) h e = by_test ((f.seq == seq) && not f.marked) e where
  by_test : (t : Bool) → cond t (Some f) None ≡ Some h → ◌≡◌ {A = Result Head HeaderFault} (Ok (head.Used f)) (Ok (head.Used h))
  by_test true k = cc
  by_test false k = absurd (cc)
live_reads seq (Ok (head.Free last)) h e = absurd (let f : None ≡ Some h = e in cc)
live_reads seq (Err fault) h e = absurd (let f : None ≡ Some h = e in cc)

-- the runs of a header that can be read can be read
pub reads_map : (b : Block) (h : Hdr) → header_read b ≡ Ok (head.Used h) → HasMap b
reads_map b h e = let s = reads-sound b h e in record { offsets = s.offsets; map = s.map }

-- the live file that a slot with this header tells
live_slot : (factor n seq : ℕ) (r : Result Head HeaderFault) (body : List Block)
    → unmarked (of_seq seq (file_in (Some (slot_with factor n r body)))) ≡ option_map (λ h. file_of factor n h body) (live_header seq r)
live_slot factor n seq (Ok (head.Used f)) body = by_tests (f.seq == seq) where
  by_mark : (m : Bool) → cond m None (Some (file_of factor n f body)) ≡ option_map (λ h. file_of factor n h body) (cond (not m) (Some f) None)
  by_mark true = refl
  by_mark false = refl

  by_tests : (t : Bool) → unmarked (cond t (Some (file_of factor n f body)) None) ≡ option_map (λ h. file_of factor n h body) (cond (t && not f.marked) (Some f) None)
  by_tests true = by_mark f.marked
  by_tests false = refl
live_slot factor n seq (Ok (head.Free last)) body = refl
live_slot factor n seq (Err fault) body = refl

-- a number out of range has no slot
no_slot : (g : Geometry) (c : Cat) (fid : Fid) → length c.files ≡ g.files → is_number g fid ≡ false → slot_at c fid.num ≡ None
no_slot g c fid len out = by_zero (fid.num == 0) refl where
  by_zero : (t : Bool) → (fid.num == 0) ≡ t → cond t None (slice_get c.files (fid.num - 1)) ≡ None
  by_zero true e = refl
  by_zero false e = slice_get_past c.files (fid.num - 1) (let h : g.files ≤ fid.num - 1 = grind (arith, nat_tests) in omega arith)

pub number_is : (g : Geometry) (fid : Fid) → is_number g fid ≡ true → IsFileNumber g fid.num
number_is g fid e = record { from = grind (arith, nat_tests); to = grind (arith, nat_tests) }

module _ (g : Geometry) (bs : List Block) (own : Owners) (c : Cat) (s : Spells g bs own c) where
  -- the live file under an identifier, by the header of its number
  pub live_is : (fid : Fid) → IsFileNumber g fid.num
      → live c fid ≡ option_map (λ h. file_of g.cluster fid.num h (blocks_told g bs fid.num)) (live_in fid.seq (header_block g bs fid.num))
  live_is fid is =
      ap (λ x. unmarked (of_seq fid.seq (file_in x))) (slot_is g bs own c s fid.num is)
      ∙ live_slot g.cluster fid.num fid.seq (head_told (header_block g bs fid.num)) (blocks_told g bs fid.num)

  -- and none, where the number is out of range
  pub not_live : (fid : Fid) → is_number g fid ≡ false → live c fid ≡ None
  not_live fid out = ap (λ x. unmarked (of_seq fid.seq (file_in x))) (no_slot g c fid s.counts.slots out)

-- ---- the header of a directory

module _ (b : Block) (h : Hdr) (reads : head_told b ≡ Ok (head.Used h)) (dir : h.dir ≡ true) (inside : AreInside b) where
  -- it lists as many blocks as it says
  pub directory_count : length (places_in b) ≡ h.blocks
  directory_count =
      let told = reads_fields b h reads in
      let whole : cut h.blocks (runs_in b) ≡ runs_in b = sym (reads_runs b h reads) ∙ inside.dir h told dir in
      length-lbns_in (runs_in b) ∙ ap blocks_in (sym whole) ∙ alone_size h b (inside.enough h told dir)

  -- and all of its runs are inside
  pub directory_inside : ListsInside b
  directory_inside = subst (λ (rs : List Run). All EndsInside rs) (inside.dir h (reads_fields b h reads) dir) inside.runs
