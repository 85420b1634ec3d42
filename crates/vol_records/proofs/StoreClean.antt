-- A header that says another mark and another end leaves the blocks clean.
use Rattle.std.proofs.Common.{◌≡◌, ◌∙◌, ◌≤◌, ◌⊎◌, inl, inr, ℕ, false, is_some, List, length, slice_set, sym, ap, subst, arith}
use Rattle.std.proofs.Math.Nat.{mul-le-mul_right}
use Rattle.base_words.specs.Fields.{Block}
use Rattle.base_words.specs.Lists.{Has}
use Rattle.base_words.proofs.Listing.{same_or_not}
use Rattle.fx_header.specs.declared.slot.Hdr.{Hdr}
use Rattle.plain_cat.specs.declared.cat.Cat.{Cat}
use Rattle.plain_cat.specs.declared.cat.File.{File}
use Rattle.plain_cat.specs.declared.cat.Slot.TheVariants as slot
use Rattle.vol_parts.specs.declared.geometry.Geometry.{Geometry}
use Rattle.vol_parts.specs.Volumes.{Told}
use Rattle.vol_spell.specs.Owners.{Owners}
use Rattle.vol_spell.specs.Reading.{IsFileNumber, header_place, header_block, told_of, clusters_told}
use Rattle.vol_spell.specs.Spelling.{IsBlank, Spells}
use Rattle.vol_spell.specs.Views.{IsHeaderSet}
use Rattle.vol_spell.specs.Files.{with_sizes, IsFileThere, IsResized}
use Rattle.vol_spell.proofs.HeadFiles.{few, sized}
use Rattle.vol_spell.proofs.HeadKept.{sized_for, sized_told}
use Rattle.vol_spell.proofs.HeadSame.{with_head}
use Rattle.vol_spell.proofs.HeadSlots.{reads_fields}
use Rattle.vol_spell.proofs.Heads.{first_there}
use Rattle.vol_spell.proofs.Viewing.{header_set}
use Rattle.vol_mends.specs.Clean.{KeepsClean, IsNoSlot}

module _ (g : Geometry) (own : Owners) (c : Cat) (n : ℕ) (h : Hdr) (f : File) (bs : List Block) (s : Spells g bs own c) (there : IsFileThere g c bs n h f) where
  -- a file has no more blocks than a volume
  pub low_blocks : h.blocks ≤ 65536
  low_blocks =
      let top = few g bs own c n h s there.number there.reads there.above in
      let same = sized g bs own c n h s there.number there.reads in
      let up = s.counts.geometry.cluster_to in
      let most = mul-le-mul_right (length (clusters_told g (told_of g bs n))) up in
      omega (arith, top, same, most)

  module _ (new : File) (flat : f.dir ≡ false) (sizes : IsResized g bs n h f new) where
    abbrev fields : Hdr
    fields = record h { mark = new.mark; end = new.end; byte = new.byte }

    abbrev after : List Block
    after = slice_set bs (header_place g n) (with_sizes (header_block g bs n) new)

    set : IsHeaderSet g bs after n n (with_sizes (header_block g bs n) new)
    set = header_set g bs own own c 1 n n (with_sizes (header_block g bs n) new) (slot.Used new) s (sized_for g 1 n h f c bs own s there new flat sizes)

    -- the file has the slots that it had, and nothing more is listed
    now : told_of g after n ≡ with_head (told_of g bs n) fields
    now = sized_told g 1 n h f c bs own s there new flat sizes

    slots : (told_of g after n).slots ≡ (told_of g bs n).slots
    slots = ap (λ (t : Told). t.slots) now

    surplus : (told_of g after n).surplus ≡ (told_of g bs n).surplus
    surplus = ap (λ (t : Told). t.surplus) now

    -- its own slot is among them
    own_slot : Has (told_of g after n).slots n
    own_slot = subst (λ (ns : List ℕ). Has ns n) (sym slots) (first_there g bs n (ap is_some (reads_fields (header_block g bs n) h there.reads)))

    pub sizes_clean : KeepsClean g bs after
    sizes_clean k = record { surplus = λ i is. no_more i is (same_or_not i n); strays = λ m is none. blank m is none (same_or_not m n) } where
      no_more : (i : ℕ) → IsFileNumber g i → (i ≡ n) ⊎ (i ≡ n → ⊥) → (told_of g after i).surplus ≡ false
      no_more i is (inl here) = subst (λ (j : ℕ). (told_of g after j).surplus ≡ false) (sym here) (surplus ∙ k.surplus n there.number)
      no_more i is (inr other) = ap (λ (t : Told). t.surplus) (set.others i is other other).told ∙ k.surplus i is

      same_slots : (i : ℕ) → IsFileNumber g i → (i ≡ n) ⊎ (i ≡ n → ⊥) → (told_of g after i).slots ≡ (told_of g bs i).slots
      same_slots i is (inl here) = subst (λ (j : ℕ). (told_of g after j).slots ≡ (told_of g bs j).slots) (sym here) slots
      same_slots i is (inr other) = ap (λ (t : Told). t.slots) (set.others i is other other).told

      blank : (m : ℕ) → IsFileNumber g m → IsNoSlot g after m → (m ≡ n) ⊎ (m ≡ n → ⊥) → IsBlank (header_block g after m)
      blank m is none (inl here) = absurd (none n there.number (subst (λ (i : ℕ). Has (told_of g after n).slots i) (sym here) own_slot))
      blank m is none (inr other) =
          subst IsBlank (sym (set.others m is other other).header)
          (k.strays m is (λ i number t. none i number (subst (λ (ns : List ℕ). Has ns m) (sym (same_slots i number (same_or_not i n))) t)))
