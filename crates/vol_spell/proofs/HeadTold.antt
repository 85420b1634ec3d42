-- A block that reads as a file's header, with these clusters.
use Rattle.std.proofs.Common.{◌≡◌, ◌∙◌, ◌≤◌, ◌<◌, ◌+◌, ◌-◌, ℕ, true, false, List, [], ◌∷◌, Some, None, length, slice_get, is_some, refl, sym, ap, subst, arith, cond, inl, inr}
use Rattle.std.specs.Prelude.{◌↔◌, Ok}
use Rattle.base_words.specs.Fields.{Block, IsWholeBlock}
use Rattle.fx_header.specs.declared.slot.Hdr.{Hdr}
use Rattle.fx_header.specs.declared.slot.Slot.TheVariants as head
use Rattle.fx_header.specs.Headers.{runs_in}
use Rattle.fx_header.specs.Pointers.{blocks_in, lbns_in}
use Rattle.plain_cat.specs.declared.cat.Cat.{Cat}
use Rattle.plain_cat.specs.declared.cat.File.{File}
use Rattle.plain_cat.specs.declared.cat.Slot.{Slot}
use Rattle.plain_cat.specs.declared.cat.Slot.TheVariants as slot
use Rattle.plain_rules.specs.Lookups.{clusters_in, header_most}
use Rattle.vol_spell.specs.declared.owner.Owner.TheVariants.{InFile}
use Rattle.base_words.specs.Lists.{Has, Once}
use Rattle.vol_spell.specs.Owners.{Owners, OwnersMove, IsFileMove}
use Rattle.vol_spell.specs.Spread.{blocks_at, spread}
use Rattle.vol_parts.specs.declared.geometry.Geometry.{Geometry}
use Rattle.vol_parts.specs.declared.geometry.Part.TheVariants.{Header}
use Rattle.vol_parts.specs.Chains.{cut}
use Rattle.vol_parts.specs.Fatal.{is_one_header}
use Rattle.vol_parts.specs.Volumes.{Told}
use Rattle.vol_parts.specs.Catalogues.{is_structure, file_of}
use Rattle.vol_spell.specs.Reading.{IsFileNumber, header_place, header_block, head_told, told_of, alone, clusters_of, body_places, body_blocks}
use Rattle.vol_spell.specs.Spelling.{IsHead, AreWhole, Tells, dir_found, Spells}
use Rattle.vol_spell.specs.Kinds.{IsHeaderFor}
use Rattle.vol_spell.proofs.Heads.{first_reads}
use Rattle.vol_spell.proofs.OneHeader.{within_file, alone_size, alone_split}
use Rattle.vol_spell.proofs.Frames.{on_volume}
use Rattle.vol_spell.proofs.Parts.{low, part_owned, in_use, own_number}
use Rattle.vol_spell.proofs.Runs.{lbns_spread}
use Rattle.vol_spell.proofs.Viewing.{alone_set}
use Rattle.vol_spell.proofs.HeadSlots.{reads_fields, no_parts}

-- The block reads as a first header of number n with these fields, and lists all blocks of the file, which are these clusters.
pub record IsHeadWith (g : Geometry) (n : ℕ) (b : Block) (h : Hdr) (ds : List ℕ) : Type 0 where
  pub whole : IsWholeBlock b
  pub reads : head_told b ≡ Ok (head.Used h)
  pub num : h.num ≡ n
  pub enough : h.blocks ≤ blocks_in (runs_in b)
  pub runs : AreWhole g (cut h.blocks (runs_in b))
  pub clusters : clusters_of g.cluster (cut h.blocks (runs_in b)) ≡ ds

-- File n, which is there, has these clusters after a write of its header, the block b, each once, and its number. With them the
-- header tells the file f, a directory can be read, and that of a system file lists just its blocks.
pub record IsFileWith (g : Geometry) (bs : List Block) (own new : Owners) (x : Cat) (node n : ℕ) (b : Block) (h : Hdr) (ds : List ℕ) (f : File) : Type 0 where
  pub moves : OwnersMove (IsFileMove node n) own new
  pub once : Once ds
  pub clusters : (q : ℕ) → Has ds q ↔ (slice_get new.clusters q ≡ Some (InFile n))
  pub numbers : (i : ℕ) → (slice_get new.numbers i ≡ Some (InFile n)) ↔ (slice_get own.numbers i ≡ Some (InFile n))
  pub few : 11 < n → length ds ≤ header_most
  pub system : n ≤ 11 → is_one_header h (alone n h b) ≡ true
  pub dir : dir_found g n (Some h) (alone n h b) (blocks_at bs (spread g.cluster ds)) ≡ None
  pub file : file_of g.cluster n h (blocks_at bs (spread g.cluster ds)) ≡ f
  pub reserved : (old : Slot) → n ≤ 11 → slice_get x.files (n - 1) ≡ Some old → clusters_in (slot.Used f) ≡ clusters_in old

module _ (g : Geometry) (bs : List Block) (own new : Owners) (x : Cat) (node n : ℕ) (b : Block) (h : Hdr) (ds : List ℕ) (f : File) (spelt : Spells g bs own x) (is : IsFileNumber g n) (plain : is_structure n ≡ false)
    (old : Hdr) (was : head_told (header_block g bs n) ≡ Ok (head.Used old)) (one : (told_of g bs n).slots ≡ n ∷ []) (at : IsHeadWith g n b h ds) (with : IsFileWith g bs own new x node n b h ds f) where
  places_eq : body_places n (alone n h b) ≡ spread g.cluster ds
  places_eq = ap (λ t. cond t [] (lbns_in (cut h.blocks (runs_in b)))) plain ∙ lbns_spread g (cut h.blocks (runs_in b)) (low g bs own x spelt) at.runs ∙ ap (spread g.cluster) at.clusters

  body_eq : body_blocks bs n (alone n h b) ≡ blocks_at bs (spread g.cluster ds)
  body_eq = ap (blocks_at bs) places_eq

  -- its number is the file's, and the file, which has one header, has no other
  numbered : slice_get own.numbers (n - 1) ≡ Some (InFile n)
  numbered = (in_use g bs own x spelt n is).0 (ap is_some (reads_fields (header_block g bs n) old was))

  only_number : (m : ℕ) → IsFileNumber g m → slice_get new.numbers (m - 1) ≡ Some (InFile n) → n ≡ m
  only_number m number e =
      let low = number.from in
      let back : m - 1 + 1 ≡ m = omega arith in
      own_number g bs own x spelt (m - 1) n one ((with.numbers (m - 1)).0 e) ∙ back

  few_listed : 11 < n → length (clusters_of g.cluster (cut h.blocks (runs_in b))) ≤ header_most
  few_listed above = subst (λ (ls : List ℕ). length ls ≤ header_most) (sym at.clusters) (with.few above)

  tells : Tells g new n (alone n h b) (body_blocks bs n (alone n h b)) (slot.Used f)
  tells = record {
    reads = at.num;
    whole = at.runs;
    once = subst (λ (ls : List ℕ). Once ls) (sym at.clusters) with.once;
    runs = λ q. (
      (λ u. (with.clusters q).0 (subst (λ (ls : List ℕ). Has ls q) at.clusters u)),
      (λ u. subst (λ (ls : List ℕ). Has ls q) (sym at.clusters) ((with.clusters q).1 u)),
    );
    few = λ above. within_file (length (clusters_of g.cluster (cut h.blocks (runs_in b)))) (few_listed above);
    system = with.system;
    split = λ above. alone_split g n h b (low g bs own x spelt) at.runs (few_listed above);
    slots = λ m. (
      (λ u. elim u [ inl e ↦ subst (λ (i : ℕ). IsFileNumber g i × (slice_get new.numbers (i - 1) ≡ Some (InFile n))) e (is, (with.numbers (n - 1)).1 numbered) | inr none ↦ absurd none ]),
      (λ u. inl (only_number m u.0 u.1)),
    );
    size = alone_size h b at.enough;
    dir = ap (dir_found g n (Some h) (alone n h b)) body_eq ∙ with.dir;
    slot = ap (λ (body : List Block). slot.Used (file_of g.cluster n h body)) body_eq ∙ ap (λ (y : File). slot.Used y) with.file;
  }

  pub head_for : IsHeaderFor g bs node n n own new x b (slot.Used f)
  head_for =
      let len = on_volume g bs own x spelt (header_place g n) (InFile 1) (part_owned g bs own x spelt (Header n) is) in
      record {
        whole = at.whole;
        number = is;
        slot = inl refl;
        owned = subst (IsFileMove node n) (sym numbered) refl;
        head = subst (IsHead n) (sym (first_reads b h at.reads)) at.num;
        alike = λ ne. absurd (ne refl);
        parts = no_parts n plain;
        moves = with.moves;
        tells = subst (λ (z : Told). Tells g new n z (body_blocks bs n z) (slot.Used f)) (sym (alone_set g bs n b h len at.reads at.enough)) tells;
        reserved = with.reserved;
      }
