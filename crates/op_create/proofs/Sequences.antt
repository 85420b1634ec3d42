-- The sequence behind that which a header's block tells is of 16 bits.
use Rattle.std.proofs.Common.{◌≡◌, ◌<◌, ◌+◌, ◌^◌, ◌∙◌, ℕ, Bool, true, false, cond, List, Some, refl, sym, ap, subst, arith}
use Rattle.std.specs.Prelude.{◌==◌, not, Result, Ok, Err}
use Rattle.std.proofs.lemmas.Bool.Decides.{nat_tests}
use Rattle.std.proofs.lemmas.Option.{slice_get-get_or}
use Rattle.base_words.specs.Fields.{Block, IsBytes}
use Rattle.fx_header.specs.declared.slot.Hdr.{Hdr}
use Rattle.fx_header.specs.declared.slot.Slot.{Slot as Head}
use Rattle.fx_header.specs.declared.slot.Slot.TheVariants as head
use Rattle.fx_header.specs.declared.slot.HeaderFault.{HeaderFault}
use Rattle.fx_header.specs.Headers.{header_read}
use Rattle.plain_cat.specs.declared.cat.Cat.{Cat}
use Rattle.plain_rules.specs.Lookups.{last_seq}
use Rattle.plain_rules.specs.Changes.{next_seq, new_fid}
use Rattle.vol_spell.specs.Files.{blocks_told}
use Rattle.vol_spell.specs.Owners.{Owners}
use Rattle.vol_parts.specs.declared.geometry.Geometry.{Geometry}
use Rattle.vol_parts.specs.Chains.{as_first}
use Rattle.vol_parts.specs.Catalogues.{slot_with}
use Rattle.vol_spell.specs.Reading.{IsFileNumber, header_place, header_block, head_told}
use Rattle.vol_spell.specs.Spelling.{Spells}
use Rattle.op_law.specs.Entering.{slot_seq}
use Rattle.op_law.proofs.Looks.{header_under}
use Rattle.op_steps.proofs.Sequences.{sequence_low}
use Rattle.vol_spell.proofs.HeadSlots.{slot_is}

-- ---- the next one

pub next_low : (seq : ℕ) → seq < 2 ^ 16 → next_seq seq < 2 ^ 16
next_low seq lt = by_test (seq == 65535) refl where
  by_test : (t : Bool) → (seq == 65535) ≡ t → cond t 1 (seq + 1) < 2 ^ 16
  by_test true e = omega arith
  by_test false e = grind (arith, nat_tests)

-- ---- on a volume

-- what a slot with this header tells
slot_last : (factor n : ℕ) (r : Result Head HeaderFault) (body : List Block) → slot_seq r ≡ last_seq (Some (slot_with factor n r body))
slot_last factor n (Ok (head.Used f)) body = refl
slot_last factor n (Ok (head.Free seq)) body = refl
slot_last factor n (Err fault) body = refl

-- as the first header of a file it gives the same sequence
first_last : (r : Result Head HeaderFault) → slot_seq r ≡ slot_seq (as_first r)
first_last (Ok (head.Used f)) = by_place (f.seg == 0) where
  by_place : (t : Bool) → f.seq ≡ slot_seq (cond t (Ok (head.Used f)) (Ok (head.Free f.seq)))
  by_place true = refl
  by_place false = refl
first_last (Ok (head.Free seq)) = refl
first_last (Err fault) = refl

module _ (g : Geometry) (bs : List Block) (own : Owners) (c : Cat) (s : Spells g bs own c) where
  header_bytes : (n : ℕ) → IsFileNumber g n → IsBytes (header_block g bs n)
  header_bytes n is = let u = header_under g bs own c s n is in (s.whole (header_place g n) (header_block g bs n) (slice_get-get_or bs (header_place g n) _ u.within)).bytes

  -- the sequence that a slot gives is that of the catalogue
  pub sequence_is : (n : ℕ) → IsFileNumber g n → next_seq (slot_seq (header_read (header_block g bs n))) ≡ (new_fid c n).seq
  sequence_is n is = ap next_seq (first_last (header_read (header_block g bs n)) ∙ slot_last g.cluster n (head_told (header_block g bs n)) (blocks_told g bs n) ∙ ap last_seq (sym (slot_is g bs own c s n is)))

  pub sequence_within : (n : ℕ) → IsFileNumber g n → (new_fid c n).seq < 2 ^ 16
  sequence_within n is =
      subst (λ k. k < 2 ^ 16) (sequence_is n is) (next_low (slot_seq (header_read (header_block g bs n))) (sequence_low (header_block g bs n) (header_bytes n is)))
