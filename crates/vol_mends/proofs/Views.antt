-- What the blocks tell as a volume, whatever its label.
use Rattle.std.proofs.Common.{◌≡◌, ◌<◌, ◌+◌, ◌-◌, ◌/◌, ◌∙◌, ℕ, true, List, Some, slice_get, refl, sym, ap, subst, arith, append-nil, ◌⊎◌, inl, inr}
use Rattle.base_words.specs.Fields.{Block}
use Rattle.fx_header.specs.Headers.{header_read}
use Rattle.fx_header.specs.Pointers.{lbns_in}
use Rattle.plain_cat.specs.declared.cat.Cat.{Cat}
use Rattle.vol_spell.specs.declared.owner.Owner.TheVariants.{InFile}
use Rattle.vol_spell.specs.Owners.{Owners}
use Rattle.vol_spell.specs.Spread.{blocks_at}
use Rattle.vol_parts.specs.declared.geometry.Geometry.{Geometry}
use Rattle.vol_parts.specs.declared.geometry.Part.TheVariants.{Header}
use Rattle.vol_parts.specs.Volumes.{Volume, Told, volume, total, head as head_of, fields_in, fields, told as told_in, runs, body, first_lbn, bitmap_lbn, is_free_cluster, is_used_number, active_rows}
use Rattle.vol_parts.specs.Catalogues.{is_structure, slot_of, files_of}
use Rattle.vol_parts.specs.Fatal.{is_system_header}
use Rattle.vol_spell.specs.Reading.{IsFileNumber, total_of, header_place, header_block, told_of, cluster_bit, number_bit, quota_places, rows_told}
use Rattle.vol_spell.specs.Spelling.{Spells}
use Rattle.vol_spell.proofs.Parts.{slot_there, told, part_owned}
use Rattle.vol_spell.proofs.Frames.{on_volume, structure_number}
use Rattle.vol_spell.proofs.Told.{map_range_is, head_there, volume_tells, runs_there, body_there, free_cluster_at, rows_there, slot_there_of, which_structure, seen}

module _ (label : List ℕ) (g : Geometry) (bs : List Block) (own : Owners) (c : Cat) (s : Spells g bs own c) where
  abbrev pub v : Volume
  v = volume (record { cluster = g.cluster; files = g.files; label = label }) bs

  pub v_head : (n : ℕ) → IsFileNumber g n → head_of v n ≡ header_read (header_block g bs n)
  v_head n is = head_there v n (on_volume g bs own c s (header_place g n) (InFile 1) (part_owned g bs own c s (Header n) is))

  pub v_told : (n : ℕ) → IsFileNumber g n → told_in v n ≡ told_of g bs n
  unfolding head_of
  v_told n is = (volume_tells g bs own c s).told n is

  pub v_fields : (n : ℕ) → IsFileNumber g n → fields v n ≡ fields_in (told_of g bs n).head
  v_fields n is = ap (λ (t : Told). fields_in t.head) (v_told n is)

  pub v_runs : (n : ℕ) → IsFileNumber g n → runs v n ≡ (told_of g bs n).runs
  v_runs n is = runs_there v n (told_of g bs n) (v_told n is)

  pub v_body : (n : ℕ) → IsFileNumber g n → body v n ≡ blocks_at bs (lbns_in (told_of g bs n).runs)
  v_body n is = body_there v n _ (v_runs n is)

  pub v_bitmap : bitmap_lbn v ≡ g.bitmap_lbn
  v_bitmap = ap first_lbn (v_runs 2 (structure_number g bs own c s 2 refl) ∙ s.structures.bitmap.run)

  pub v_quota_body : body v 10 ≡ blocks_at bs (quota_places g)
  v_quota_body =
      v_body 10 (structure_number g bs own c s 10 refl) ∙ (ap (λ rs. blocks_at bs (lbns_in rs)) s.structures.quota.run ∙ ap (λ ls. blocks_at bs ls) (append-nil (quota_places g)))

  pub v_rows : active_rows v ≡ rows_told g bs
  v_rows = rows_there v (blocks_at bs (quota_places g)) v_quota_body

  pub v_total : total v ≡ total_of g
  v_total = ap (λ k. k / g.cluster) s.counts.blocks

  pub v_cluster_bit : (q : ℕ) → is_free_cluster v q ≡ cluster_bit g bs q
  v_cluster_bit q = free_cluster_at v q g.bitmap_lbn v_bitmap

  pub v_number_bit : (n : ℕ) → is_used_number v n ≡ number_bit g bs n
  unfolding is_used_number
  v_number_bit n = refl

  pub system : (n : ℕ) → is_structure n ≡ true → is_system_header n (fields_in (told_of g bs n).head) ≡ true
  system n e = by_case (which_structure n e) where
    P : ℕ → Type 0
    P k = is_system_header k (fields_in (told_of g bs k).head) ≡ true

    by_case : (n ≡ 1) ⊎ ((n ≡ 2) ⊎ (n ≡ 10)) → P n
    by_case (inl one) = subst P (sym one) s.structures.index.header
    by_case (inr (inl two)) = subst P (sym two) s.structures.bitmap.header
    by_case (inr (inr ten)) = subst P (sym ten) s.structures.quota.header

  pub v_files : c.files ≡ files_of v
  unfolding files_of
  v_files = map_range_is (slot_of v) 1 g.files c.files s.counts.slots each where
    each : (i : ℕ) → i < g.files → slice_get c.files i ≡ Some (slot_of v (1 + i))
    each i lt =
        let is : IsFileNumber g (1 + i) = record { from = omega arith; to = omega (arith, lt) } in
        let z : 1 + i - 1 ≡ i = omega arith in
        let t = told g bs own c s (1 + i) is in
        ap (slice_get c.files) (sym z) ∙ (slot_there g bs own c s (1 + i) is
        ∙ ap (λ x. Some x) (sym (slot_there_of v (1 + i) (told_of g bs (1 + i)) _ (v_told (1 + i) is) (v_body (1 + i) is)
        ∙ (seen g bs (1 + i) (told_of g bs (1 + i)) (system (1 + i)) ∙ t.slot))))
