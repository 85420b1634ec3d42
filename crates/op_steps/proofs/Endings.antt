-- What the writes of the bitmaps leave: bits that are set, nothing outside, and the stage.
use Rattle.std.proofs.Common.{◌≡◌, ◌<◌, ◌+◌, ◌/◌, ◌%◌, ℕ, Bool, true, List, [], ◌∷◌, ◌++◌, length, map, slice_set, refl, sym, ap, subst, ◌∙◌, inl, inr, arith, length-set}
use Rattle.std.specs.Prelude.{◌==◌, slice_index_or, filter}
use Rattle.std.specs.List.{range_with_len, list_any}
use Rattle.std.proofs.lemmas.Bool.{eq-eqb}
use Rattle.std.proofs.lemmas.Bool.Decides.{nat_tests}
use Rattle.base_words.specs.Fields.{Block}
use Rattle.fx_bitmap.specs.Bits.{bit_at}
use Rattle.plain_cat.specs.declared.history.Stage.{Stage}
use Rattle.base_words.specs.Lists.{Has}
use Rattle.vol_spell.specs.Owners.{Things, nothing}
use Rattle.vol_spell.proofs.Placing.{has_ranged, ranged_has, blocks_kept, index-set_here, length-blocks_at}
use Rattle.vol_parts.specs.declared.geometry.Geometry.{Geometry}
use Rattle.vol_parts.specs.declared.geometry.Part.TheVariants.{Storage}
use Rattle.vol_spell.specs.Reading.{total_of, cluster_bit}
use Rattle.vol_spell.specs.Places.{place_of}
use Rattle.vol_under.specs.UnderWay.{bare, stage_after, outs_after}
use Rattle.op_law.specs.declared.need.PlanWrite.{PlanWrite}
use Rattle.op_law.specs.Laws.{planned}
use Rattle.op_law.specs.Freeing.{rising, lies_in, behind, blocks_for, with_free, storage_writes, index_write, freeing_tail}
use Rattle.op_steps.specs.Chained.{after_writes}
use Rattle.op_steps.specs.BitmapWrites.{AreClusters, RisingClusters, storage_places, storage_seen, brought, ClustersFree, HeldKeepsOut, FreeingEndsSo}
use Rattle.op_steps.proofs.Filters.{any_has, has_any, Rise, ranged_rise, rise_once, has_mapped, length_mapped}
use Rattle.base_words.proofs.Listing.{has_passed as passed}
use Rattle.base_words.proofs.Listing.{has_filtered as let_through}
use Rattle.op_steps.proofs.Bits.{is_put}
use Rattle.op_steps.proofs.Turns.{AreBlocks, AreLeft, blocks_are, all_left, blocks_next, left_next, none_left, brought_is, place_apart, places_for, HaveStorage}
use Rattle.op_steps.proofs.Named.{of_storage, touched_by}
use Rattle.op_steps.proofs.Steps.{have_storage}

-- ---- clusters in rising order

is_one : (p q : ℕ) → (p == q) ≡ true → p ≡ q
is_one p q e = grind (arith, nat_tests)

pub rising_clusters : RisingClusters
unfolding rising
rising_clusters g qs =
    let p : ℕ → Bool = λ q. list_any (λ r. r == q) qs in
    let n : ℕ = total_of g in (
      record {
        inside = λ q t. let h = (has_ranged 0 n q (let_through p (range_with_len 0 n) q t).0).1 in let e : q < total_of g = omega arith in e;
        once = rise_once (rising g qs) (ranged_rise p 0 n);
      },
      (λ q. (
        (λ t.
            let h = let_through p (range_with_len 0 n) q t in
            let some = any_has (λ r. r == q) qs h.1 in
            let lt = (has_ranged 0 n q h.0).1 in
            let e : q < total_of g = omega arith in
            (subst (λ (x : ℕ). Has qs x) (is_one some.0 q some.2) some.1, e)),
        (λ h. let lt = h.1 in passed p (range_with_len 0 n) q (ranged_has 0 n q (omega arith) (let e : q < 0 + total_of g = omega arith in e)) (has_any (λ r. r == q) qs q h.0 (eq-eqb q q refl))),
      )),
    )

-- ---- bits

bit_set : (b : Block) (qs : List ℕ) (q : ℕ) → Has qs q → bit_at (with_free b qs) (q % 4096) ≡ true
unfolding with_free
bit_set b qs q t = is_put true (λ p. p % 4096) qs b q (omega arith) t

module _ (g : Geometry) (s : Stage) (qs ns : List ℕ) where
  -- writes to later blocks leave this one
  later_leave : (ks : List ℕ) (seen bs : List Block) (k : ℕ) → ((i : ℕ) → Has ks i → k < i)
      → slice_index_or (after_writes (storage_writes g s qs ns ks seen) bs) (place_of g (Storage k)) [] ≡ slice_index_or bs (place_of g (Storage k)) []
  later_leave ks seen bs k rise =
      ap (λ (ys : List Block). slice_index_or ys 0 []) (blocks_kept (bare (map planned (storage_writes g s qs ns ks seen))) bs (place_of g (Storage k) ∷ []) (λ l t u.
      let r = touched_by (storage_writes g s qs ns ks seen) l t in
      let o = of_storage g s qs ns ks seen r.0 r.1 in
      elim u [
        | inl e ↦ place_apart g ks k rise (subst (λ (y : ℕ). Has (places_for g ks) y) (o.place ∙ r.2 ∙ sym e) (has_mapped (λ i. place_of g (Storage i)) ks o.block o.among))
        | inr f ↦ f
      ]))

  set_after : (ks : List ℕ) (seen bs : List Block) (q : ℕ) → Rise ks → length seen ≡ length ks → ((k : ℕ) → Has ks k → place_of g (Storage k) < length bs) → Has qs q → Has ks (q / 4096)
      → cluster_bit g (after_writes (storage_writes g s qs ns ks seen) bs) q ≡ true
  set_after [] seen bs q rise len within t u = absurd u
  set_after (k ∷ ks) [] bs q rise len within t u = absurd (omega arith)
  set_after (k ∷ ks) (b ∷ seen) bs q rise len within t (inr u) =
      let l : ℕ = place_of g (Storage k) in
      let new : Block = with_free b (filter (lies_in k) qs) in
      set_after ks seen (slice_set bs l new) q rise.1 (omega arith) (λ i v. let lt = within i (inr v) in let e = length-set bs l new in omega arith) t u
  set_after (k ∷ ks) (b ∷ seen) bs q rise len within t (inl e) =
      let l : ℕ = place_of g (Storage k) in
      let new : Block = with_free b (filter (lies_in k) qs) in
      let here : slice_index_or (after_writes (storage_writes g s qs ns ks seen) (slice_set bs l new)) l [] ≡ new =
      later_leave ks seen (slice_set bs l new) k rise.0 ∙ index-set_here bs l new (within k (inl refl)) in
      ap (λ i. bit_at (slice_index_or (after_writes (storage_writes g s qs ns ks seen) (slice_set bs l new)) (place_of g (Storage i)) []) (q % 4096)) (sym e)
      ∙ ap (λ (c : Block). bit_at c (q % 4096)) here ∙ bit_set b (filter (lies_in k) qs) q (passed (lies_in k) qs q t (eq-eqb (q / 4096) k (sym e)))

pub clusters_free : ClustersFree
clusters_free g st qs ns bs own c q s are t =
    let blocks : AreBlocks g qs (blocks_for g qs) 0 = blocks_are g qs are.inside in
    let have : HaveStorage g bs = have_storage g bs own c s in
    set_after g st qs ns (blocks_for g qs) (storage_seen g bs qs) bs q blocks.rise (length-blocks_at bs (storage_places g qs) ∙ length_mapped (λ k. place_of g (Storage k)) (blocks_for g qs))
    (λ k u. have.within k (blocks.parts k u)) t (blocks.all q t (omega arith))

-- ---- what is outside, and the stage

pub held_keeps_out : HeldKeepsOut
held_keeps_out given locks ws held few w t = inr (inr (held, few w t))

pub outs_both : (vs ws : List PlanWrite) (o : Things) → outs_after o (map planned (vs ++ ws)) ≡ outs_after (outs_after o (map planned vs)) (map planned ws)
outs_both [] ws o = refl
outs_both (v ∷ vs) ws o = outs_both vs ws (planned v).outs

pub stage_both : (vs ws : List PlanWrite) (s : Stage) → stage_after s (map planned (vs ++ ws)) ≡ stage_after (stage_after s (map planned vs)) (map planned ws)
stage_both [] ws s = refl
stage_both (v ∷ vs) ws s = stage_both vs ws v.stage

module _ (g : Geometry) (s : Stage) (qs ns : List ℕ) where
  outs_end : (ks left : List ℕ) (seen : List Block) (j : ℕ) → length seen ≡ length ks → AreBlocks g qs ks j → AreLeft qs left j → outs_after (brought left ns) (map planned (storage_writes g s qs ns ks seen)) ≡ brought [] ns
  outs_end [] left seen j len are is = ap (λ (ls : List ℕ). brought ls ns) (none_left g qs left j are is)
  outs_end (k ∷ ks) left [] j len are is = absurd (omega arith)
  outs_end (k ∷ ks) left (b ∷ seen) j len are is =
      ap (λ (o : Things). outs_after o (map planned (storage_writes g s qs ns ks seen))) (brought_is (behind k qs) ns)
      ∙ outs_end ks (behind k qs) seen (k + 1) (omega arith) (blocks_next g qs ks k j are) (left_next qs k)

  index_outs : (ns : List ℕ) (b : Block) → outs_after (brought [] ns) (map planned (index_write g s ns b)) ≡ nothing
  index_outs [] b = refl
  index_outs (n ∷ ns) b = refl

  stage_end : (ks : List ℕ) (seen : List Block) → stage_after s (map planned (storage_writes g s qs ns ks seen)) ≡ s
  stage_end [] seen = refl
  stage_end (k ∷ ks) [] = refl
  stage_end (k ∷ ks) (b ∷ seen) = stage_end ks seen

  index_stage : (ns : List ℕ) (b : Block) → stage_after s (map planned (index_write g s ns b)) ≡ s
  index_stage [] b = refl
  index_stage (n ∷ ns) b = refl

  pub freeing_stage : (storage : List Block) (index : Block) → stage_after s (map planned (freeing_tail g s qs ns storage index)) ≡ s
  freeing_stage storage index =
      stage_both (storage_writes g s qs ns (blocks_for g qs) storage) (index_write g s ns index) s
      ∙ ap (λ (t : Stage). stage_after t (map planned (index_write g s ns index))) (stage_end (blocks_for g qs) storage) ∙ index_stage ns index

  pub freeing_outs : (storage : List Block) (index : Block) → AreClusters g qs → length storage ≡ length (blocks_for g qs) → outs_after (brought qs ns) (map planned (freeing_tail g s qs ns storage index)) ≡ nothing
  freeing_outs storage index are len =
      outs_both (storage_writes g s qs ns (blocks_for g qs) storage) (index_write g s ns index) (brought qs ns)
      ∙ ap (λ (o : Things). outs_after o (map planned (index_write g s ns index))) (outs_end (blocks_for g qs) qs storage 0 len (blocks_are g qs are.inside) (all_left qs)) ∙ index_outs ns index

pub freeing_ends : FreeingEndsSo
freeing_ends g s qs ns storage index are len = record { outs = freeing_outs g s qs ns storage index are len; stage = freeing_stage g s qs ns storage index }
