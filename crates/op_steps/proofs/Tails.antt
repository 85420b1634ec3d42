-- The row of the owner as a step, and all writes of the tail.
use Rattle.std.proofs.Common.{◌≡◌, ◌≤◌, ◌-◌, ℕ, List, [], ◌∷◌, ◌++◌, Option, Some, None, length, map, refl, sym, ap, subst, ◌∙◌, inl, inr, arith, append_assoc}
use Rattle.std.specs.Prelude.{flat_map, slice_index_or}
use Rattle.base_words.specs.Fields.{Block}
use Rattle.fx_quota.specs.declared.types.Row.{Row}
use Rattle.lock_db.specs.declared.name.LockName.TheVariants.{S, Q, V}
use Rattle.plain_cat.specs.declared.ids.Uic.{Uic}
use Rattle.plain_cat.specs.declared.history.Stage.{Stage}
use Rattle.plain_cat.specs.declared.cat.Cat.{Cat}
use Rattle.plain_cat.specs.declared.cat.QuotaRow.{QuotaRow}
use Rattle.plain_rules.specs.Changes.{discharged}
use Rattle.base_words.specs.Lists.{Has}
use Rattle.vol_spell.specs.Owners.{Owners, Things, nothing}
use Rattle.vol_spell.specs.Spread.{blocks_at}
use Rattle.base_words.proofs.Listing.{has_parted}
use Rattle.vol_parts.specs.declared.geometry.Geometry.{Geometry}
use Rattle.vol_parts.specs.declared.geometry.Part.TheVariants.{IndexBitmap}
use Rattle.vol_parts.specs.Volumes.{rows_in}
use Rattle.vol_parts.specs.Catalogues.{rows_sorted}
use Rattle.vol_spell.specs.Reading.{quota_places}
use Rattle.vol_spell.specs.Places.{place_of}
use Rattle.vol_spell.specs.Spelling.{Spells}
use Rattle.vol_under.specs.Guards.{guard_of}
use Rattle.vol_under.specs.UnderWay.{stage_after, outs_after}
use Rattle.vol_under.specs.Chains.{End}
use Rattle.op_law.specs.declared.need.PlanWrite.{PlanWrite}
use Rattle.op_law.specs.Fits.{things}
use Rattle.op_law.specs.Laws.{numbers_before, planned, most_outside, LeaveFew}
use Rattle.op_law.specs.Writing.{empty_handed}
use Rattle.op_law.specs.Quotas.{changed_write, owner_write, row_place, row_discharged}
use Rattle.vol_spell.specs.Rows.{is_row_of}
use Rattle.op_law.specs.Freeing.{behind, blocks_for, storage_writes, index_write, freeing_tail}
use Rattle.op_law.proofs.RemovalEnds.{LeaveNothing, nothing_few, both_few}
use Rattle.op_law.proofs.Naming.{both_named, TouchesNoHeader}
use Rattle.op_steps.specs.Chained.{Chain, StepsOf, StageOf, after_writes, StandsOn, FilesStay}
use Rattle.vol_spell.specs.Rows.{IsRowChange}
use Rattle.vol_spell.proofs.RowOrder.{quota_changed, unchanged, sorted-changed}
use Rattle.op_steps.proofs.RowPlaces.{no_row}
use Rattle.op_steps.proofs.RowSteps.{row_steps, row_guards, row_no_header}
use Rattle.op_steps.specs.BitmapWrites.{storage_places, storage_seen, index_seen, brought, bitmaps_freed}
use Rattle.op_steps.specs.TailWrites.{row_freed, DischargeSteps, tail_writes, TailSteps, TailGuards, TailStage, TailLeavesFew, TailStands, TailEnds}
use Rattle.op_steps.proofs.Named.{guarded, freeing_guards, freeing_no_header, under_locks, under_joined}
use Rattle.op_steps.proofs.Still.{other_locks_stand, other_files_stand}
use Rattle.op_steps.proofs.Steps.{after_both, freeing_steps}
use Rattle.op_steps.proofs.Endings.{outs_both, stage_both, freeing_stage, freeing_outs}
use Rattle.op_steps.proofs.RowRange.{discharged_in}

-- ---- the row

-- the row on the volume and the catalogue's are changed alike
is_discharge : (less : ℕ) → IsRowChange (row_discharged less) (λ (r : QuotaRow). record r { usage = r.usage - less })
is_discharge less = record { owner = λ r. refl; same = λ r. refl }

pub discharge_steps : (end : End) → DischargeSteps end
discharge_steps end k owner less s ws x bs own on stage rest =
    row_steps end k owner (row_discharged less) (λ (r : QuotaRow). record r { usage = r.usage - less }) s empty_handed ws x bs own on (is_discharge less)
    (λ r at. discharged_in k.geometry bs own x on.spelt owner less r at) stage rest

-- ---- the tail

pub tail_guards : TailGuards
tail_guards g s qs ns owner less last bs base own x node locks spelt v q =
    both_named node locks g own (bitmaps_freed g s qs ns bs) (row_freed g owner less last bs)
    (freeing_guards g s qs ns (storage_seen g bs qs) (index_seen g bs) base own x node locks spelt v)
    (row_guards g bs base own x owner (row_discharged less) last empty_handed node locks spelt q)

-- of these locks none is a file's, and Q is not V
no_file : (n : ℕ) → Has (V ∷ Q ∷ []) (S n) → ⊥
no_file n (inl e) = absurd (let f : V ≡ S n = e in cc)
no_file n (inr (inl e)) = absurd (let f : Q ≡ S n = e in cc)
no_file n (inr (inr t)) = t

not_q : Has (V ∷ []) Q → ⊥
not_q (inl e) = absurd (let f : V ≡ Q = e in cc)
not_q (inr t) = t

tail_leaves : (g : Geometry) (s : Stage) (qs ns : List ℕ) (owner : Uic) (less : ℕ) (last : Stage) (bs : List Block) (own : Owners) (x : Cat) → Spells g bs own x → FilesStay g bs (after_writes (tail_writes g s qs ns owner less last bs) bs)
tail_leaves g s qs ns owner less last bs own x spelt i is = other_files_stand 1 (V ∷ Q ∷ []) g bs own x (tail_writes g s qs ns owner less last bs) i spelt is (λ m t. record {
  named = tail_guards g s qs ns owner less last bs bs own x 1 (V ∷ Q ∷ []) spelt (inl refl) (inr (inl refl));
  names = V ∷ Q ∷ [];
  under = under_joined (V ∷ []) (Q ∷ []) (bitmaps_freed g s qs ns bs) (row_freed g owner less last bs) (under_locks.bitmaps g s qs ns (storage_seen g bs qs) (index_seen g bs))
      (under_locks.row g (blocks_at bs (quota_places g)) owner (row_discharged less) last empty_handed);
  beside = no_file m;
})

-- the writes of the bitmaps leave the quota blocks
quota_stays : (g : Geometry) (s : Stage) (qs ns : List ℕ) (bs : List Block) (own : Owners) (x : Cat) → Spells g bs own x → blocks_at (after_writes (bitmaps_freed g s qs ns bs) bs) (quota_places g) ≡ blocks_at bs (quota_places g)
quota_stays g s qs ns bs own x spelt =
    (other_locks_stand 1 (V ∷ []) g own (bitmaps_freed g s qs ns bs) Q (record {
      named = freeing_guards g s qs ns (storage_seen g bs qs) (index_seen g bs) bs own x 1 (V ∷ []) spelt (inl refl);
      names = V ∷ [];
      under = under_locks.bitmaps g s qs ns (storage_seen g bs qs) (index_seen g bs);
      beside = not_q;
    })).many bs (quota_places g) ((guarded g bs own x spelt).quota)

pub tail_steps : (end : End) → TailSteps end
tail_steps end k s qs ns owner less last ws x bs own spelt outs blank stage done rest =
    let g : Geometry = k.geometry in
    let vs : List PlanWrite = bitmaps_freed g s qs ns bs in
    let us : List PlanWrite = row_freed g owner less last bs in
    let mid : List Block = after_writes vs bs in
    let same : row_freed g owner less last mid ≡ us = ap (λ (quota : List Block). owner_write g quota owner (row_discharged less) last empty_handed) (quota_stays g s qs ns bs own x spelt) in
    let files = tail_leaves g s qs ns owner less last bs own x spelt in
    subst (λ (ps : List PlanWrite). StepsOf end k ps bs own) (sym (append_assoc vs us ws))
    (freeing_steps end k s qs ns (us ++ ws) x bs own spelt outs blank stage (λ new on stays.
    subst (λ (ps : List PlanWrite). StepsOf end k (ps ++ ws) mid new) same
    (discharge_steps end k owner less last ws x mid new on done (λ on' stays'.
    let to : after_writes (row_freed g owner less last mid) mid ≡ after_writes (vs ++ us) bs = ap (λ (ps : List PlanWrite). after_writes ps mid) same ∙ sym (after_both vs us bs) in
    subst (λ (bs' : List Block). StepsOf end k ws bs' new) (sym to)
    (rest new (subst (λ (bs' : List Block). StandsOn k empty_handed (discharged x owner less) bs' new) to on') files)))))

-- what they go by stands behind writes under other locks
pub tail_stands : TailStands
tail_stands node locks g s qs ns owner less last vs base own x spelt v q =
    let by = guarded g base own x spelt in
    let after : List Block = after_writes vs base in
    let on_v = other_locks_stand node locks g own vs V v in
    let on_q = other_locks_stand node locks g own vs Q q in
    let storage : storage_seen g after qs ≡ storage_seen g base qs = on_v.many base (storage_places g qs) (by.storage qs) in
    let index : index_seen g after ≡ index_seen g base = ap (λ (ys : List Block). slice_index_or ys 0 [])
    (on_v.many base (place_of g IndexBitmap ∷ []) (λ l t. elim t [ inl e ↦ ap (guard_of g own) (sym e) ∙ by.index | inr f ↦ absurd f ])) in
    let quota : blocks_at after (quota_places g) ≡ blocks_at base (quota_places g) = on_q.many base (quota_places g) by.quota in
    ap (λ (bs : List Block). freeing_tail g s qs ns bs (index_seen g after) ++ row_freed g owner less last after) storage
    ∙ ap (λ (b : Block). freeing_tail g s qs ns (storage_seen g base qs) b ++ row_freed g owner less last after) index
    ∙ ap (λ (bs : List Block). bitmaps_freed g s qs ns base ++ owner_write g bs owner (row_discharged less) last empty_handed) quota

-- none of them is to a header
pub tail_no_header : (g : Geometry) (s : Stage) (qs ns : List ℕ) (owner : Uic) (less : ℕ) (last : Stage) (bs base : List Block) (own : Owners) (x : Cat) → Spells g base own x
    → TouchesNoHeader g (tail_writes g s qs ns owner less last bs)
tail_no_header g s qs ns owner less last bs base own x spelt w t i at =
    elim (has_parted (bitmaps_freed g s qs ns bs) (row_freed g owner less last bs) w t) [
      | inl u ↦ freeing_no_header g s qs ns (storage_seen g bs qs) (index_seen g bs) base own x spelt w u i at
      | inr u ↦ row_no_header g bs base own x owner (row_discharged less) last empty_handed spelt w u i at
    ]

-- ---- the end

-- where the owner has no row, the catalogue is the same
same_rows : (owner : Uic) (less : ℕ) (x : Cat) (rs : List Row) → x.quota ≡ rows_sorted rs → (Has (map (λ r. r.uic) rs) owner.0 → ⊥) → x ≡ discharged x owner less
same_rows owner less x rs e away =
    let rows : QuotaRow → QuotaRow = λ r. record r { usage = r.usage - less } in
    let is = is_discharge less in
    sym (ap (λ (q : List QuotaRow). record x { quota = q }) (ap (map (quota_changed owner rows)) e ∙ sym (sorted-changed owner (row_discharged less) rows is rs) ∙ ap rows_sorted (unchanged owner (row_discharged less) rows is rs away) ∙ sym e))

row_stage : (k : Chain) (owner : Uic) (less : ℕ) (s last : Stage) (x : Cat) (bs : List Block) (own : Owners) → Spells k.geometry bs own x → StageOf k s x → StageOf k last (discharged x owner less)
    → StageOf k (stage_after s (map planned (row_freed k.geometry owner less last bs))) (discharged x owner less)
unfolding owner_write
row_stage k owner less s last x bs own spelt at done = by_place (row_place (is_row_of owner) (blocks_at bs (quota_places k.geometry))) refl where
  by_place : (o : Option ℕ) → row_place (is_row_of owner) (blocks_at bs (quota_places k.geometry)) ≡ o
      → StageOf k (stage_after s (map planned (changed_write k.geometry (blocks_at bs (quota_places k.geometry)) (row_discharged less) last empty_handed o))) (discharged x owner less)
  by_place None e = subst (λ (y : Cat). StageOf k s y) (same_rows owner less x (flat_map rows_in (blocks_at bs (quota_places k.geometry))) spelt.rows.quota (no_row owner (blocks_at bs (quota_places k.geometry)) e)) at
  by_place (Some j) e = done

pub tail_stage : TailStage
tail_stage k s qs ns owner less last x bs own spelt at done =
    let vs : List PlanWrite = bitmaps_freed k.geometry s qs ns bs in
    let us : List PlanWrite = row_freed k.geometry owner less last bs in
    subst (λ (t : Stage). StageOf k t (discharged x owner less))
    (sym (stage_both vs us s ∙ ap (λ (t : Stage). stage_after t (map planned us)) (freeing_stage k.geometry s qs ns (storage_seen k.geometry bs qs) (index_seen k.geometry bs))))
    (row_stage k owner less s last x bs own spelt at done)

row_outs : (g : Geometry) (quota : List Block) (change : Row → Row) (s : Stage) (o : Option ℕ) → outs_after nothing (map planned (changed_write g quota change s empty_handed o)) ≡ nothing
row_outs g quota change s None = refl
row_outs g quota change s (Some j) = refl

owner_outs : (g : Geometry) (quota : List Block) (owner : Uic) (change : Row → Row) (s : Stage) → outs_after nothing (map planned (owner_write g quota owner change s empty_handed)) ≡ nothing
unfolding owner_write
owner_outs g quota owner change s = row_outs g quota change s (row_place (is_row_of owner) quota)

pub tail_ends : TailEnds
tail_ends g s qs ns storage index quota owner less last are len =
    outs_both (freeing_tail g s qs ns storage index) (owner_write g quota owner (row_discharged less) last empty_handed) (brought qs ns)
    ∙ ap (λ (o : Things). outs_after o (map planned (owner_write g quota owner (row_discharged less) last empty_handed))) (freeing_outs g s qs ns storage index are len)
    ∙ owner_outs g quota owner (row_discharged less) last

-- ---- how many file numbers are outside between them

pub brought_count : (ns qs : List ℕ) → length (numbers_before ns (things qs None)).numbers ≡ length ns
brought_count [] qs = refl
brought_count (n ∷ ns) qs = let h = brought_count ns qs in omega arith

module _ (g : Geometry) (s : Stage) (qs ns : List ℕ) (few : length ns ≤ most_outside) where
  storage_leaves_few : (ks : List ℕ) (bs : List Block) → LeaveFew (storage_writes g s qs ns ks bs)
  storage_leaves_few [] bs w t = absurd t
  storage_leaves_few (k ∷ ks) [] w t = absurd t
  storage_leaves_few (k ∷ ks) (b ∷ bs) w (inl e) = subst (λ (v : PlanWrite). length (planned v).outs.numbers ≤ most_outside) e (let c = brought_count ns (behind k qs) in omega arith)
  storage_leaves_few (k ∷ ks) (b ∷ bs) w (inr t) = storage_leaves_few ks bs w t

index_leaves_nothing : (g : Geometry) (s : Stage) (ns : List ℕ) (b : Block) → LeaveNothing (index_write g s ns b)
index_leaves_nothing g s [] b w t = absurd t
index_leaves_nothing g s (n ∷ ns) b w (inl e) = ap (λ (v : PlanWrite). (planned v).outs) (sym e)
index_leaves_nothing g s (n ∷ ns) b w (inr t) = absurd t

row_leaves_nothing : (g : Geometry) (quota : List Block) (owner : Uic) (change : Row → Row) (s : Stage) → LeaveNothing (owner_write g quota owner change s empty_handed)
unfolding owner_write
row_leaves_nothing g quota owner change s = by_place (row_place (is_row_of owner) quota) where
  by_place : (o : Option ℕ) → LeaveNothing (changed_write g quota change s empty_handed o)
  by_place None w t = absurd t
  by_place (Some j) w (inl e) = ap (λ (v : PlanWrite). (planned v).outs) (sym e)
  by_place (Some j) w (inr t) = absurd t

pub tail_few : (g : Geometry) (s : Stage) (qs ns : List ℕ) (storage : List Block) (index : Block) (quota : List Block) (owner : Uic) (less : ℕ) (last : Stage) → length ns ≤ most_outside
    → LeaveFew (freeing_tail g s qs ns storage index ++ owner_write g quota owner (row_discharged less) last empty_handed)
tail_few g s qs ns storage index quota owner less last few =
    both_few (freeing_tail g s qs ns storage index) (owner_write g quota owner (row_discharged less) last empty_handed)
    (both_few (storage_writes g s qs ns (blocks_for g qs) storage) (index_write g s ns index) (storage_leaves_few g s qs ns few (blocks_for g qs) storage)
    (nothing_few (index_write g s ns index) (index_leaves_nothing g s ns index)))
    (nothing_few (owner_write g quota owner (row_discharged less) last empty_handed) (row_leaves_nothing g quota owner (row_discharged less) last))

pub tail_leaves_few : TailLeavesFew
tail_leaves_few g s qs ns owner less last bs few = tail_few g s qs ns (storage_seen g bs qs) (index_seen g bs) (blocks_at bs (quota_places g)) owner less last few
