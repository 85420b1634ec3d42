-- The writes by which a file goes are the same behind writes that leave what they go by: the file's clusters, its other headers, and
-- the blocks under V and Q.
use Rattle.std.proofs.Common.{◌≡◌, ◌+◌, ◌*◌, ◌/◌, ◌∙◌, inl, inr, ℕ, List, [], ◌∷◌, ◌++◌, Some, None, map, drop, refl, sym, ap}
use Rattle.std.specs.Prelude.{slice_index_or}
use Rattle.base_words.specs.Fields.{Block}
use Rattle.base_words.specs.Lists.{Has}
use Rattle.fx_header.specs.declared.slot.Hdr.{Hdr}
use Rattle.fx_header.specs.Headers.{freed}
use Rattle.lock_db.specs.declared.name.LockName.{LockName}
use Rattle.lock_db.specs.declared.name.LockName.TheVariants.{S, Q, V}
use Rattle.plain_cat.specs.declared.ids.Uic.{Uic}
use Rattle.plain_cat.specs.declared.cat.Cat.{Cat}
use Rattle.plain_cat.specs.declared.history.Stage.{Stage}
use Rattle.plain_cat.specs.declared.history.Stage.TheVariants as stage
use Rattle.vol_parts.specs.declared.geometry.Geometry.{Geometry}
use Rattle.vol_parts.specs.declared.geometry.Part.TheVariants.{IndexBitmap}
use Rattle.vol_spell.specs.Owners.{Owners}
use Rattle.vol_spell.specs.Places.{place_of}
use Rattle.vol_spell.specs.Reading.{IsFileNumber, header_place, header_block, told_of, quota_places}
use Rattle.vol_spell.specs.Spelling.{Spells}
use Rattle.vol_spell.specs.Spread.{blocks_at}
use Rattle.vol_spell.proofs.Parts.{slot_number}
use Rattle.vol_under.specs.Guards.{guard_of}
use Rattle.vol_under.specs.UnderWay.{stage_after}
use Rattle.op_law.specs.declared.need.PlanWrite.{PlanWrite}
use Rattle.op_law.specs.Freeing.{SeenSpace, rising, all_clusters, freeing_tail, headers_freed, freeing_writes}
use Rattle.op_law.specs.Headers.{slots_seen, slots_freed, placed, others_told, headers_behind}
use Rattle.op_law.specs.Laws.{planned}
use Rattle.op_law.specs.Quotas.{owner_write, row_discharged}
use Rattle.op_law.specs.Refusing.{SeenFile}
use Rattle.op_law.specs.SeenFiles.{file_clusters}
use Rattle.op_law.specs.Writing.{holding, empty_handed, with_numbers, header_write}
use Rattle.op_steps.specs.Chained.{after_writes}
use Rattle.op_steps.specs.Files.{file_in}
use Rattle.op_steps.specs.BitmapWrites.{storage_places, storage_seen, index_seen}
use Rattle.op_steps.specs.FreeingGoneWrites.{space_at, gone_writes}
use Rattle.op_steps.specs.Standing.{AreBeside}
use Rattle.op_steps.proofs.HeaderSlots.{has_dropped}
use Rattle.op_steps.proofs.Named.{guarded}
use Rattle.op_steps.proofs.Still.{other_locks_stand}

-- the writes by what they go by
abbrev gone_by : Geometry → ℕ → ℕ → Uic → ℕ → SeenSpace → List ℕ → List (ℕ × Block) → List PlanWrite
gone_by g n seq owner clusters s qs rest =
    let ns = n ∷ slots_seen g rest in
    (with_numbers ns (header_write g n (freed seq) stage.Freed (holding qs None)) ∷ slots_freed g stage.Freed qs ns rest)
    ++ (freeing_tail g stage.Freed qs ns s.storage s.index ++ owner_write g s.quota owner (row_discharged (g.cluster * clusters + 1)) stage.Done empty_handed)

gone_is : (g : Geometry) (f : SeenFile) (s : SeenSpace) → freeing_writes g f s ≡ gone_by g f.num f.file.seq f.file.owner f.file.clusters s (all_clusters g f) f.rest
unfolding freeing_writes headers_freed
gone_is g f s = refl

module _ (node : ℕ) (locks : List LockName) (g : Geometry) (n : ℕ) (h then : Hdr) (base : List Block) (own : Owners) (x : Cat) (s : Spells g base own x) (number : IsFileNumber g n) (ws : List PlanWrite) (v : AreBeside node locks g own ws V)
    (q : AreBeside node locks g own ws Q) (others : (m : ℕ) → Has (others_told g base n) m → AreBeside node locks g own ws (S m)) where
  abbrev after : List Block
  after = after_writes ws base

  header_stands : (m : ℕ) → Has (others_told g base n) m → header_block g (after_writes ws base) m ≡ header_block g base m
  header_stands m t =
      let is : IsFileNumber g m = slot_number g base own x s n m number (has_dropped (told_of g base n).slots m t) in
      let still = other_locks_stand node locks g own ws (S m) (others m t) in
      ap (λ (ys : List Block). slice_index_or ys 0 [])
      (still.many base (header_place g m ∷ []) (λ l u. elim u [ inl e ↦ ap (guard_of g own) (sym e) ∙ (guarded g base own x s).header m is | inr none ↦ absurd none ]))

  all_stand : (ms : List ℕ) → ((m : ℕ) → Has ms m → Has (others_told g base n) m) → map (placed g (after_writes ws base)) ms ≡ map (placed g base) ms
  all_stand [] there = refl
  all_stand (m ∷ ms) there =
      let here = header_stands m (there m (inl refl)) in
      let rest = all_stand ms (λ i t. there i (inr t)) in
      λ i. (header_place g m, here i) ∷ rest i

  module _ (slots : (told_of g (after_writes ws base) n).slots ≡ (told_of g base n).slots) (clusters : file_clusters g (file_in g (after_writes ws base) n then) ≡ file_clusters g (file_in g base n h)) where
    pub rest_stands : headers_behind g (after_writes ws base) n ≡ headers_behind g base n
    rest_stands = ap (λ (ms : List ℕ). map (placed g after) (drop 1 ms)) slots ∙ all_stand (others_told g base n) (λ m t. t)

    space_stands : space_at g (after_writes ws base) n then ≡ space_at g base n h
    space_stands =
        let by = guarded g base own x s in
        let qs = all_clusters g (file_in g base n h) in
        let on_v = other_locks_stand node locks g own ws V v in
        let on_q = other_locks_stand node locks g own ws Q q in
        let same : all_clusters g (file_in g after n then) ≡ qs = ap (rising g) clusters in
        let storage : storage_seen g after (all_clusters g (file_in g after n then)) ≡ storage_seen g base qs = ap (storage_seen g after) same ∙ on_v.many base (storage_places g qs) (by.storage qs) in
        let index : index_seen g after ≡ index_seen g base = ap (λ (ys : List Block). slice_index_or ys 0 [])
        (on_v.many base (place_of g IndexBitmap ∷ []) (λ l t. elim t [ inl e ↦ ap (guard_of g own) (sym e) ∙ by.index | inr f ↦ absurd f ])) in
        let quota : blocks_at after (quota_places g) ≡ blocks_at base (quota_places g) = on_q.many base (quota_places g) by.quota in
        λ i. record { quota = quota i; index = index i; storage = storage i }

    -- they are the same where the first header has the sequence, the owner and the blocks that it had
    pub gone_stands : then.seq ≡ h.seq → then.owner ≡ h.owner → then.blocks ≡ h.blocks → gone_writes g (after_writes ws base) n then ≡ gone_writes g base n h
    gone_stands seq owner blocks =
        let same : all_clusters g (file_in g after n then) ≡ all_clusters g (file_in g base n h) = ap (rising g) clusters in
        let by : gone_by g n then.seq (record { 0 = then.owner }) (then.blocks / g.cluster) (space_at g after n then) (all_clusters g (file_in g after n then)) (headers_behind g after n)
        ≡ gone_by g n h.seq (record { 0 = h.owner }) (h.blocks / g.cluster) (space_at g base n h) (all_clusters g (file_in g base n h)) (headers_behind g base n) =
        λ i. gone_by g n (seq i) (record { 0 = owner i }) (blocks i / g.cluster) (space_stands i) (same i) (rest_stands i) in
        gone_is g (file_in g after n then) (space_at g after n then) ∙ by ∙ sym (gone_is g (file_in g base n h) (space_at g base n h))

-- the stage after them is the same, whatever it was before
pub gone_stage : (g : Geometry) (f : SeenFile) (s : SeenSpace) (t : Stage) → stage_after t (map planned (freeing_writes g f s)) ≡ stage_after stage.Nothing (map planned (freeing_writes g f s))
unfolding freeing_writes headers_freed
gone_stage g f s t = refl
