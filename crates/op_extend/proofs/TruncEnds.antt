-- What TRUNC has outside after its writes, and how many these are.
use Rattle.std.proofs.Common.{◌≡◌, ◌∙◌, ◌≤◌, ◌+◌, ◌-◌, ◌*◌, ◌++◌, ℕ, List, [], ◌∷◌, None, length, map, drop, refl, ap, arith, length-append, length-drop}
use Rattle.std.proofs.lemmas.List.{length-map}
use Rattle.base_words.specs.Fields.{Block}
use Rattle.plain_cat.specs.declared.history.Stage.TheVariants as stage
use Rattle.plain_rules.specs.Lookups.{extra}
use Rattle.vol_spell.specs.Owners.{Things, nothing}
use Rattle.vol_parts.specs.declared.geometry.Geometry.{Geometry}
use Rattle.vol_parts.specs.Parts.{IsGeometry}
use Rattle.vol_under.specs.UnderWay.{outs_after}
use Rattle.op_law.specs.Fits.{things}
use Rattle.op_law.specs.Freeing.{SeenSpace, blocks_for, freeing_tail}
use Rattle.op_law.specs.Headers.{kept_headers, gone_headers, slots_freed}
use Rattle.op_law.specs.Laws.{numbers_before, planned}
use Rattle.op_law.specs.Refusing.{SeenFile}
use Rattle.op_law.specs.SeenFiles.{file_clusters}
use Rattle.op_law.specs.Sizes.{cut_last_writes, cut_clusters, cut_numbers, headers_cut, cutting_writes}
use Rattle.op_law.specs.Quotas.{owner_write, row_discharged}
use Rattle.op_law.specs.Writing.{empty_handed}
use Rattle.op_law.proofs.Counting.{owner_few, tail_few}
use Rattle.op_steps.specs.BitmapWrites.{brought}
use Rattle.op_steps.proofs.Endings.{rising_clusters, outs_both}
use Rattle.op_steps.proofs.HeaderSlots.{slots_outs}
use Rattle.op_steps.proofs.Tails.{tail_ends}
use Rattle.op_steps.proofs.Turns.{brought_is}

module _ (g : Geometry) (f : SeenFile) (k : ℕ) where
  abbrev qs : List ℕ
  qs = cut_clusters g f k

  abbrev ns : List ℕ
  ns = cut_numbers g f k

  -- what goes is outside after each write of a header
  abbrev gone : Things
  gone = numbers_before (cut_numbers g f k) (things (cut_clusters g f k) None)

  last_outs : (kept : List (ℕ × Block)) → outs_after gone (map planned (cut_last_writes g f k (cut_clusters g f k) (cut_numbers g f k) kept)) ≡ gone
  last_outs [] = refl
  last_outs (x ∷ kept) = refl

  heads_outs : (o : Things) → outs_after o (map planned (headers_cut g f k)) ≡ brought (cut_clusters g f k) (cut_numbers g f k)
  unfolding headers_cut
  heads_outs o =
      let last = cut_last_writes g f k qs ns (kept_headers f k) in
      let slots = slots_freed g stage.Shortened qs ns (gone_headers f k) in
      outs_both last slots gone ∙ ap (λ (t : Things). outs_after t (map planned slots)) (last_outs (kept_headers f k))
      ∙ slots_outs g stage.Shortened qs ns (gone_headers f k) gone (brought_is qs ns)

  -- after its writes nothing is outside, whatever was seen, where as many blocks were seen as have bits of the clusters that go
  pub cutting_outs : (s : SeenSpace) → length s.storage ≡ length (blocks_for g (cut_clusters g f k)) → (o : Things) → outs_after o (map planned (cutting_writes g f k s)) ≡ nothing
  unfolding cutting_writes
  cutting_outs s len o =
      let less = g.cluster * (f.file.clusters - k) in
      let tail = freeing_tail g stage.Shortened qs ns s.storage s.index ++ owner_write g s.quota f.file.owner (row_discharged less) stage.Done empty_handed in
      outs_both (headers_cut g f k) tail o ∙ ap (λ (t : Things). outs_after t (map planned tail)) (heads_outs o)
      ∙ tail_ends g stage.Shortened qs ns s.storage s.index s.quota f.file.owner less stage.Done (rising_clusters g (drop k (file_clusters g f))).0 len

  -- ---- how many writes

  last_few : (kept : List (ℕ × Block)) → length (cut_last_writes g f k (cut_clusters g f k) (cut_numbers g f k) kept) ≤ 1
  last_few [] = omega arith
  last_few (x ∷ kept) = omega arith

  heads_few : length (headers_cut g f k) ≤ 2 + length f.rest
  unfolding headers_cut
  heads_few =
      let last = cut_last_writes g f k qs ns (kept_headers f k) in
      let slots = slots_freed g stage.Shortened qs ns (gone_headers f k) in
      let a = length-append last slots in
      let many : length slots ≡ length (gone_headers f k) = length-map (gone_headers f k) _ in
      let less = length-drop (extra k) f.rest in
      omega (arith, last_few (kept_headers f k))

  pub cutting_few : (s : SeenSpace) → IsGeometry g → length (cutting_writes g f k s) ≤ 20 + length f.rest
  unfolding cutting_writes
  cutting_few s geometry =
      let tail = freeing_tail g stage.Shortened qs ns s.storage s.index in
      let row = owner_write g s.quota f.file.owner (row_discharged (g.cluster * (f.file.clusters - k))) stage.Done empty_handed in
      let a = length-append tail row in
      let b = length-append (headers_cut g f k) (tail ++ row) in
      omega (arith, heads_few, tail_few g stage.Shortened qs ns s.storage s.index geometry, owner_few g s.quota f.file.owner (row_discharged (g.cluster * (f.file.clusters - k))) stage.Done empty_handed)
