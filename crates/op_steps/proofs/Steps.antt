-- The writes of both bitmaps as steps.
use Rattle.std.proofs.Common.{◌≡◌, ◌+◌, ◌-◌, ℕ, List, [], ◌∷◌, ◌++◌, Some, map, slice_get, refl, sym, ap, subst, ◌∙◌, inl, inr, arith, append_assoc}
use Rattle.std.specs.Prelude.{slice_index_or}
use Rattle.std.proofs.lemmas.List.{map-append}
use Rattle.std.proofs.lemmas.Option.{slice_get-get_or, slice_get_within}
use Rattle.base_words.specs.Fields.{Block}
use Rattle.lock_db.specs.declared.name.LockName.TheVariants.{S, V}
use Rattle.plain_cat.specs.declared.history.Stage.{Stage}
use Rattle.plain_cat.specs.declared.cat.Cat.{Cat}
use Rattle.vol_spell.specs.declared.owner.Owner.TheVariants.{InFile, Outside}
use Rattle.base_words.specs.Lists.{Has, Touches, written}
use Rattle.vol_spell.specs.Owners.{Owners, Things, nothing, Outs}
use Rattle.base_words.proofs.Listing.{once_first}
use Rattle.base_words.proofs.ListWrites.{get-written_else, written_joined}
use Rattle.vol_spell.proofs.Handing.{whole as all_of_it}
use Rattle.vol_parts.specs.declared.geometry.Geometry.{Geometry}
use Rattle.vol_parts.specs.declared.geometry.Part.{Part}
use Rattle.vol_parts.specs.declared.geometry.Part.TheVariants.{Header, IndexBitmap, Storage}
use Rattle.vol_spell.specs.Places.{place_of, IsPart}
use Rattle.vol_spell.specs.Reading.{IsFileNumber, header_place, header_block}
use Rattle.vol_spell.specs.Spelling.{IsBlank, Spells}
use Rattle.vol_spell.proofs.Placing.{blocks_kept}
use Rattle.vol_spell.proofs.Frames.{on_volume}
use Rattle.vol_spell.proofs.Parts.{are_parts, part_there, part_owned}
use Rattle.vol_under.specs.UnderWay.{PlannedWrite, bare}
use Rattle.vol_under.specs.Chains.{End, Steps}
use Rattle.vol_under.specs.Refilling.{HaveBlankSlots}
use Rattle.vol_under.proofs.Refills.{gives_numbers}
use Rattle.vol_under.proofs.Frees.{refill_step, free_series, swapped}
use Rattle.op_law.specs.declared.need.PlanWrite.{PlanWrite}
use Rattle.op_law.specs.Laws.{planned}
use Rattle.op_law.specs.Writing.{write_at, empty_handed}
use Rattle.op_law.specs.Freeing.{blocks_for, storage_writes, without_numbers, index_write}
use Rattle.op_steps.specs.Chained.{Chain, StepsOf, StageOf, after_writes, StandsOn, FilesStay}
use Rattle.op_steps.specs.BitmapWrites.{AreClusters, brought, storage_seen, index_seen, StorageFrees, storage_freed, bitmaps_freed, FreeingSteps}
use Rattle.op_steps.proofs.Given.{numbers_given}
use Rattle.op_steps.proofs.Turns.{HaveStorage, blocks_are, all_left, frees}
use Rattle.op_steps.proofs.Named.{for_part, of_storage, touched_by, under_locks, freeing_guards}
use Rattle.op_steps.proofs.Still.{other_files_stand}

pub have_storage : (g : Geometry) (bs : List Block) (own : Owners) (c : Cat) → Spells g bs own c → HaveStorage g bs
have_storage g bs own c s = record {
  whole = s.whole;
  within = λ k is. on_volume g bs own c s (place_of g (Storage k)) (InFile 2) (part_owned g bs own c s (Storage k) is);
  part = λ k is. part_there g bs own c s (Storage k) is;
}

pub storage_frees : StorageFrees
storage_frees g st qs ns bs own c s are = frees g st qs ns are.inside are.once (blocks_for g qs) qs 0 bs (have_storage g bs own c s) (blocks_are g qs are.inside) (all_left qs)

-- clusters that a command has outside are the volume's
pub are_clusters : (g : Geometry) (bs : List Block) (own : Owners) (c : Cat) (node : ℕ) (qs ns : List ℕ) (stock : Things) → Spells g bs own c → Outs node own (brought qs ns) stock → AreClusters g qs
are_clusters g bs own c node qs ns stock s outs = record {
  inside = λ q t.
      let at : slice_get own.clusters q ≡ Some (Outside node) = (outs.clusters.all q).1 (inl t) in
      let lt = slice_get_within own.clusters q (Outside node) at in
      let e = s.counts.clusters in
      omega arith;
  once = once_first qs stock.clusters outs.clusters.once;
}

-- they are as many as its slots, so their numbers are those of slots
number_there : (g : Geometry) (bs : List Block) (own : Owners) (c : Cat) (node : ℕ) (qs ns : List ℕ) (stock : Things) → Spells g bs own c → Outs node own (brought qs ns) stock
    → (i : ℕ) → Has (brought qs ns).numbers i → IsFileNumber g (i + 1)
number_there g bs own c node qs ns stock s outs i t =
    let at : slice_get own.numbers i ≡ Some (Outside node) = (outs.numbers.all i).1 (inl t) in
    let lt = slice_get_within own.numbers i (Outside node) at in
    let count = s.counts.numbers in
    record { from = omega arith; to = omega arith }

-- another part of the volume is none of the blocks of the storage bitmap
module _ (g : Geometry) (st : Stage) (qs ns : List ℕ) (seen bs : List Block) (own : Owners) (c : Cat) (s : Spells g bs own c) where
  part_apart : (p : Part) → IsPart g p → ((k : ℕ) → Storage k ≡ p → ⊥) → Touches (bare (map planned (storage_writes g st qs ns (blocks_for g qs) seen))) (place_of g p) → ⊥
  part_apart p is other t =
      let r = touched_by (storage_writes g st qs ns (blocks_for g qs) seen) (place_of g p) t in
      let o = of_storage g st qs ns (blocks_for g qs) seen r.0 r.1 in
      other o.block ((are_parts g bs own c s).apart (Storage o.block) p (for_part g qs o.block o.among) is (o.place ∙ r.2))

  -- so the slots of numbers are what they were
  slots_stand : (m : ℕ) → IsFileNumber g m → header_block g (after_writes (storage_writes g st qs ns (blocks_for g qs) seen) bs) m ≡ header_block g bs m
  slots_stand m is =
      ap (λ (ys : List Block). slice_index_or ys 0 [])
      (blocks_kept (bare (map planned (storage_writes g st qs ns (blocks_for g qs) seen))) bs (header_place g m ∷ []) (λ l t u. elim u [
        | inl e ↦ part_apart (Header m) is (λ k f. absurd (cc)) (subst (λ (y : ℕ). Touches (bare (map planned (storage_writes g st qs ns (blocks_for g qs) seen))) y) (sym e) t)
        | inr none ↦ none
      ]))

pub after_both : (vs ws : List PlanWrite) (bs : List Block) → after_writes (vs ++ ws) bs ≡ after_writes ws (after_writes vs bs)
after_both vs ws bs = ap (λ (us : List PlannedWrite). written (bare us) bs) (map-append planned vs ws) ∙ ap (λ (us : List (ℕ × Block)). written us bs) (map-append (λ (w : PlannedWrite). (w.lbn, w.block)) (map planned vs) (map planned ws))
    ∙ written_joined (bare (map planned vs)) (bare (map planned ws)) bs

pub planned_both : (vs us ws : List PlanWrite) → map planned ((vs ++ us) ++ ws) ≡ map planned vs ++ map planned (us ++ ws)
planned_both vs us ws = ap (map planned) (append_assoc vs us ws) ∙ map-append planned vs (us ++ ws)

module _ (end : End) (k : Chain) (s : Stage) (ws : List PlanWrite) (x : Cat) where
  abbrev g : Geometry
  g = k.geometry

  -- what follows behind writes
  abbrev Rest : List Block → Type 0
  Rest bs = (new : Owners) → StandsOn k empty_handed x bs new → StepsOf end k ws bs new

  -- the write of the index-file bitmap, where there are numbers
  index_steps : (ns : List ℕ) (b : Block) (bs : List Block) (own : Owners) → Spells g bs own x → Outs k.node own (brought [] ns) k.stock → HaveBlankSlots g bs (brought [] ns).numbers → StageOf k s x → slice_get bs (place_of g IndexBitmap) ≡ Some b
      → Rest (after_writes (index_write g s ns b) bs) → StepsOf end k (index_write g s ns b ++ ws) bs own
  index_steps [] b bs own spelt outs blank stage at rest = rest own (record { spelt = spelt; outs = outs })
  index_steps (n ∷ ns) b bs own spelt outs blank stage at rest =
      let l : ℕ = place_of g IndexBitmap in
      let took : Things = brought [] (n ∷ ns) in
      let ps : List ℕ = map (λ m. m - 1) (n ∷ ns) in
      let given = numbers_given g b (n ∷ ns) spelt.counts.geometry.files_to (spelt.whole l b at) in
      let w : PlannedWrite = planned (write_at V (place_of g IndexBitmap) (without_numbers b (n ∷ ns)) s empty_handed) in
      let r = gives_numbers g k.node k.stock took l ps [] b w.block bs own x spelt (swapped k.node own took k.stock outs) (part_there g bs own x spelt IndexBitmap tt) at (all_of_it ps) tt given blank in
      let step = refill_step g k.node k.cmd k.locks k.cat x k.stock nothing w bs own r stage refl in
      (r.new, x, step, rest r.new (record { spelt = r.spelt; outs = swapped k.node r.new k.stock nothing r.outs }))

  all_steps : (qs ns : List ℕ) (bs : List Block) (own : Owners) → Spells g bs own x → Outs k.node own (brought qs ns) k.stock → HaveBlankSlots g bs (brought qs ns).numbers → StageOf k s x
      → Rest (after_writes (bitmaps_freed g s qs ns bs) bs) → StepsOf end k (bitmaps_freed g s qs ns bs ++ ws) bs own
  all_steps qs ns bs own spelt outs blank stage rest =
      let vs : List PlanWrite = storage_freed g s qs ns bs in
      let us : List PlanWrite = index_write g s ns (index_seen g bs) in
      let mid : List Block = after_writes vs bs in
      let l : ℕ = place_of g IndexBitmap in
      let at : slice_get mid l ≡ Some (index_seen g bs) =
      get-written_else (bare (map planned vs)) bs l (part_apart g s qs ns (storage_seen g bs qs) bs own x spelt IndexBitmap tt (λ i e. absurd (cc)))
      ∙ slice_get-get_or bs l [] (on_volume g bs own x spelt l (InFile 1) (part_owned g bs own x spelt IndexBitmap tt)) in
      let blank_then : HaveBlankSlots g mid (brought [] ns).numbers =
      λ i t. subst (λ (b : Block). IsBlank b) (sym (slots_stand g s qs ns (storage_seen g bs qs) bs own x spelt (i + 1) (number_there g bs own x k.node qs ns k.stock spelt outs i t))) (blank i t) in
      let turns = storage_frees g s qs ns bs own x spelt (are_clusters g bs own x k.node qs ns k.stock spelt outs) in
      subst (λ (ps : List PlannedWrite). Steps end g k.node k.cmd k.locks k.cat k.stock ps bs own) (sym (planned_both vs us ws))
      (free_series end g k.node k.cmd k.locks k.cat x k.stock s (map (λ n. n - 1) ns) qs [] (map planned vs) (map planned (us ++ ws)) bs own spelt stage outs turns
      (λ new told left. index_steps ns (index_seen g bs) mid new told left blank_then stage at (subst Rest (after_both vs us bs) rest)))

-- only V is among the locks of these writes
only_v : (n : ℕ) → Has (V ∷ []) (S n) → ⊥
only_v n (inl e) = absurd (let f : V ≡ S n = e in cc)
only_v n (inr t) = t

pub freeing_leaves : (g : Geometry) (s : Stage) (qs ns : List ℕ) (bs : List Block) (own : Owners) (x : Cat) → Spells g bs own x → FilesStay g bs (after_writes (bitmaps_freed g s qs ns bs) bs)
freeing_leaves g s qs ns bs own x spelt i is = other_files_stand 1 (V ∷ []) g bs own x (bitmaps_freed g s qs ns bs) i spelt is (λ m t. record {
  named = freeing_guards g s qs ns (storage_seen g bs qs) (index_seen g bs) bs own x 1 (V ∷ []) spelt (inl refl);
  names = V ∷ [];
  under = under_locks.bitmaps g s qs ns (storage_seen g bs qs) (index_seen g bs);
  beside = only_v m;
})

pub freeing_steps : (end : End) → FreeingSteps end
freeing_steps end k s qs ns ws x bs own spelt outs blank stage rest =
    all_steps end k s ws x qs ns bs own spelt outs blank stage (λ new on. rest new on (freeing_leaves k.geometry s qs ns bs own x spelt))
