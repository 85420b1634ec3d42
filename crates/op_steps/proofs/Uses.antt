-- The file in use under an identifier, by the header of its number.
use Rattle.std.proofs.Common.{◌≡◌, ◌<◌, ◌-◌, ◌∙◌, ℕ, Bool, true, false, cond, List, Some, None, slice_get, refl, ap, arith}
use Rattle.std.specs.Prelude.{◌==◌, option_map, Result, Ok, Err}
use Rattle.std.proofs.lemmas.Bool.Decides.{nat_tests}
use Rattle.std.proofs.lemmas.Option.{slice_get_past}
use Rattle.base_words.specs.Fields.{Block}
use Rattle.fx_header.specs.declared.slot.Hdr.{Hdr}
use Rattle.fx_header.specs.declared.slot.Slot.{Slot as Head}
use Rattle.fx_header.specs.declared.slot.Slot.TheVariants as head
use Rattle.fx_header.specs.declared.slot.HeaderFault.{HeaderFault}
use Rattle.plain_cat.specs.declared.ids.Fid.{Fid}
use Rattle.plain_cat.specs.declared.cat.Cat.{Cat}
use Rattle.plain_rules.specs.Lookups.{file_in, of_seq, in_use}
use Rattle.vol_spell.specs.Files.{blocks_told}
use Rattle.vol_spell.specs.Owners.{Owners}
use Rattle.vol_parts.specs.declared.geometry.Geometry.{Geometry}
use Rattle.vol_parts.specs.Volumes.{fields_in}
use Rattle.vol_parts.specs.Catalogues.{slot_with, file_of}
use Rattle.vol_spell.specs.Reading.{IsFileNumber, header_block, head_told}
use Rattle.vol_spell.specs.Spelling.{Spells}
use Rattle.op_law.specs.Rows.{is_number}
use Rattle.op_law.specs.Refusing.{header_of_seq, used_in}
use Rattle.vol_spell.proofs.HeadSlots.{slot_is}

-- the file of this sequence that a slot with this header tells
used_slot : (factor n seq : ℕ) (r : Result Head HeaderFault) (body : List Block)
    → of_seq seq (file_in (Some (slot_with factor n r body))) ≡ option_map (λ h. file_of factor n h body) (header_of_seq seq (fields_in r))
used_slot factor n seq (Ok (head.Used f)) body = by_seq (f.seq == seq) where
  by_seq : (t : Bool) → cond t (Some (file_of factor n f body)) None ≡ option_map (λ h. file_of factor n h body) (cond t (Some f) None)
  by_seq true = refl
  by_seq false = refl
used_slot factor n seq (Ok (head.Free last)) body = refl
used_slot factor n seq (Err fault) body = refl

-- a header in use can be read
used_of_seq : (seq : ℕ) (r : Result Head HeaderFault) (h : Hdr) → header_of_seq seq (fields_in r) ≡ Some h → r ≡ Ok (head.Used h)
used_of_seq seq (Ok (head.Used f)) h e = by_test (f.seq == seq) e where
  by_test : (t : Bool) → cond t (Some f) None ≡ Some h → ◌≡◌ {A = Result Head HeaderFault} (Ok (head.Used f)) (Ok (head.Used h))
  by_test true k = cc
  by_test false k = absurd (cc)
used_of_seq seq (Ok (head.Free last)) h e = absurd (let f : None ≡ Some h = e in cc)
used_of_seq seq (Err fault) h e = absurd (let f : None ≡ Some h = e in cc)

pub used_reads : (seq : ℕ) (b : Block) (h : Hdr) → used_in seq b ≡ Some h → head_told b ≡ Ok (head.Used h)
used_reads seq b h e = used_of_seq seq (head_told b) h e

module _ (g : Geometry) (bs : List Block) (own : Owners) (c : Cat) (s : Spells g bs own c) (fid : Fid) where
  pub used_is : IsFileNumber g fid.num
      → in_use c fid ≡ option_map (λ h. file_of g.cluster fid.num h (blocks_told g bs fid.num)) (used_in fid.seq (header_block g bs fid.num))
  used_is is =
      ap (λ x. of_seq fid.seq (file_in x)) (slot_is g bs own c s fid.num is)
      ∙ used_slot g.cluster fid.num fid.seq (head_told (header_block g bs fid.num)) (blocks_told g bs fid.num)

  -- a number out of range has none
  pub not_used : is_number g fid ≡ false → in_use c fid ≡ None
  not_used out = by_zero (fid.num == 0) refl where
    by_zero : (t : Bool) → (fid.num == 0) ≡ t → of_seq fid.seq (file_in (cond t None (slice_get c.files (fid.num - 1)))) ≡ None
    by_zero true e = refl
    by_zero false e =
        let slots = s.counts.slots in
        let past : g.files < fid.num = grind (arith, nat_tests) in
        ap (λ o. of_seq fid.seq (file_in o)) (slice_get_past c.files (fid.num - 1) (omega arith))
