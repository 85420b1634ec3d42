-- Which lock guards a header and the blocks of a directory.
use Rattle.std.proofs.Common.{◌≡◌, ◌∙◌, inl, inr, ℕ, Bool, true, false, cond, List, [], Some, None, refl, sym, ap, subst}
use Rattle.std.specs.Prelude.{◌<◌, length, Ok}
use Rattle.base_words.specs.Fields.{Block}
use Rattle.fx_header.specs.declared.run.Run.{Run}
use Rattle.fx_header.specs.declared.slot.Hdr.{Hdr}
use Rattle.fx_header.specs.declared.slot.Slot.TheVariants as head
use Rattle.fx_header.specs.Pointers.{lbns_in}
use Rattle.lock_db.specs.declared.name.LockName.TheVariants.{S}
use Rattle.plain_cat.specs.declared.cat.Cat.{Cat}
use Rattle.vol_spell.specs.declared.owner.Owner.TheVariants.{InFile}
use Rattle.base_words.specs.Lists.{Has}
use Rattle.vol_spell.specs.Owners.{Owners}
use Rattle.vol_parts.specs.declared.geometry.Geometry.{Geometry}
use Rattle.vol_parts.specs.declared.geometry.Part.TheVariants.{Header}
use Rattle.vol_parts.specs.Volumes.{fields_in}
use Rattle.vol_parts.specs.Catalogues.{is_structure, file_of}
use Rattle.vol_parts.specs.Fatal.{is_system_header}
use Rattle.vol_spell.specs.Reading.{IsFileNumber, owner_at, header_place, header_block, head_told, told_of, runs_told}
use Rattle.vol_spell.specs.Bodies.{IsOfBody}
use Rattle.vol_spell.specs.Spelling.{Spells}
use Rattle.vol_spell.proofs.Parts.{part_there, part_owned}
use Rattle.vol_spell.proofs.Frames.{of_body, on_volume}
use Rattle.vol_spell.proofs.Told.{no_dir, no_directory, which_structure}
use Rattle.vol_under.specs.Guards.{Lock, guard_by, guard_of}
use Rattle.op_law.specs.Laws.{IsCacheable, Fixed, OfDirectory}
use Rattle.vol_spell.specs.Files.{blocks_told}
use Rattle.vol_spell.proofs.HeadSlots.{file_told_at, dir_runs}
use Rattle.op_law.proofs.Heads.{dir_told}

-- a block of the volume that the lock of a file guards, and that may be cached
pub record IsUnder (g : Geometry) (bs : List Block) (own : Owners) (c : Cat) (n l : ℕ) : Type 0 where
  pub kind : IsCacheable g own c l
  pub guard : guard_of g own l ≡ Some (Lock (S n))
  pub within : l < length bs

module _ (g : Geometry) (bs : List Block) (own : Owners) (c : Cat) (s : Spells g bs own c) where
  pub header_under : (n : ℕ) → IsFileNumber g n → IsUnder g bs own c n (header_place g n)
  header_under n is = record {
    kind = Fixed (Header n) (part_there g bs own c s (Header n) is);
    guard = ap (λ p. guard_by p (owner_at g own (header_place g n))) (part_there g bs own c s (Header n) is);
    within = on_volume g bs own c s (header_place g n) (InFile 1) (part_owned g bs own c s (Header n) is);
  }

  system : (n : ℕ) → is_structure n ≡ true → is_system_header n (fields_in (told_of g bs n).head) ≡ true
  system n e =
      let P : ℕ → Type 0 = λ k. is_system_header k (fields_in (told_of g bs k).head) ≡ true in
      elim (which_structure n e) [
        | inl one ↦ subst P (sym one) s.structures.index.header
        | inr more ↦ elim more [ inl two ↦ subst P (sym two) s.structures.bitmap.header | inr ten ↦ subst P (sym ten) s.structures.quota.header ]
      ]

  -- a directory is none of the files that hold the volume's own structures
  pub plain_directory : (n : ℕ) (h : Hdr) → head_told (header_block g bs n) ≡ Ok (head.Used h) → h.dir ≡ true → is_structure n ≡ false
  plain_directory n h e d = by_kind (is_structure n) refl where
    by_kind : (k : Bool) → is_structure n ≡ k → is_structure n ≡ false
    by_kind false k = k
    by_kind true k =
        let t : is_system_header n (Some h) ≡ true = ap (λ r. is_system_header n (fields_in r)) (sym e) ∙ system n k in
        let f : true ≡ false = sym d ∙ no_dir n h (no_directory n k) t in
        absurd (cc)

  pub block_under : (n l : ℕ) (h : Hdr) → IsFileNumber g n → head_told (header_block g bs n) ≡ Ok (head.Used h) → h.dir ≡ true
      → Has (lbns_in (runs_told (header_block g bs n))) l → IsUnder g bs own c n l
  block_under n l h is e d t =
      let P : Bool → Type 0 = λ k. Has (cond k [] (lbns_in (told_of g bs n).runs)) l in
      let there : Has (lbns_in (told_of g bs n).runs) l = subst (λ (rs : List Run). Has (lbns_in rs) l) (dir_told g bs own c s n h is e d ∙ sym (dir_runs g bs own c s n h is e d)) t in
      let o : IsOfBody g bs own n l = of_body g bs own c s n l is (subst P (sym (plain_directory n h e d)) there) in
      record {
        kind = OfDirectory n (file_of g.cluster n h (blocks_told g bs n)) (file_told_at g bs own c s n h is e) d o.owned;
        guard = ap (λ p. guard_by p (owner_at g own l)) o.no_part ∙ ap (λ x. guard_by None x) o.owned;
        within = o.within;
      }
