-- The locks that the writes are under, and the blocks that they touch.
use Rattle.std.proofs.Common.{◌≡◌, ◌<◌, ◌≤◌, ◌+◌, ◌-◌, ℕ, List, [], ◌∷◌, Option, Some, None, map, take, drop, refl, sym, ap, ◌∙◌, inl, inr, arith}
use Rattle.std.specs.List.{range_with_len, list_any}
use Rattle.base_words.specs.Fields.{Block}
use Rattle.fx_dir.specs.declared.Move.{Move}
use Rattle.fx_quota.specs.declared.types.Row.{Row}
use Rattle.lock_db.specs.declared.name.LockName.TheVariants.{S, Q, V}
use Rattle.plain_cat.specs.declared.history.Stage.{Stage}
use Rattle.plain_cat.specs.declared.history.Stage.TheVariants as stage
use Rattle.plain_cat.specs.declared.cat.Cat.{Cat}
use Rattle.base_words.specs.Lists.{Has, Touches}
use Rattle.vol_spell.specs.Owners.{Owners}
use Rattle.base_words.proofs.Listing.{has_parted, has_first, has_second}
use Rattle.vol_spell.proofs.Placing.{has_ranged}
use Rattle.vol_parts.specs.declared.geometry.Geometry.{Geometry}
use Rattle.vol_parts.specs.declared.geometry.Part.{Part}
use Rattle.vol_parts.specs.declared.geometry.Part.TheVariants.{Header, IndexBitmap, Storage, Quota}
use Rattle.vol_parts.specs.Parts.{storage_blocks, part_of}
use Rattle.vol_spell.specs.Bodies.{IsOfBody}
use Rattle.vol_spell.specs.Reading.{total_of, owner_at}
use Rattle.vol_spell.specs.Places.{place_of, IsPart}
use Rattle.vol_spell.specs.Spelling.{Spells}
use Rattle.vol_spell.proofs.Parts.{part_there}
use Rattle.vol_spell.proofs.Frames.{of_body}
use Rattle.vol_under.specs.Guards.{Lock, lock_of_part, guard_by, guard_of}
use Rattle.vol_under.specs.UnderWay.{bare}
use Rattle.op_law.specs.declared.need.PlanWrite.{PlanWrite}
use Rattle.op_law.specs.Laws.{planned}
use Rattle.op_law.specs.Writing.{Held}
use Rattle.op_law.specs.Quotas.{changed_write, owner_write, row_place}
use Rattle.vol_spell.specs.Rows.{is_row_of}
use Rattle.op_law.specs.Moving.{SeenDir, move_write, moves_at, insertion_moves, insertion_writes, removal_writes}
use Rattle.op_law.specs.Freeing.{lies_in, blocks_for, storage_writes, index_write, freeing_tail, all_clusters, headers_freed}
use Rattle.op_law.specs.Headers.{slots_seen, numbers_of, slots_freed}
use Rattle.op_law.specs.Refusing.{SeenFile}
use Rattle.op_law.proofs.Naming.{both_named, under_lock, TouchesNoHeader}
use Rattle.op_steps.specs.BitmapWrites.{FreeingGuards}
use Rattle.op_steps.specs.Standing.{AreUnder, UnderLocks, UnderJoined, Guarded}
use Rattle.op_steps.proofs.Filters.{mapped}
use Rattle.base_words.proofs.Listing.{has_filtered as let_through}

-- ---- the writes of the bitmaps

pub for_part : (g : Geometry) (qs : List ℕ) (k : ℕ) → Has (blocks_for g qs) k → IsPart g (Storage k)
unfolding blocks_for
for_part g qs k t =
    let n : ℕ = storage_blocks (total_of g) in
    let h = (has_ranged 0 n k (let_through (λ i. list_any (lies_in i) qs) (range_with_len 0 n) k t).0).1 in
    let e : k < storage_blocks (total_of g) = omega arith in e

-- a write of the storage bitmap is to one of its blocks, under V
pub record IsOfStorage (g : Geometry) (ks : List ℕ) (w : PlanWrite) : Type 0 where
  pub block : ℕ
  pub among : Has ks block
  pub place : place_of g (Storage block) ≡ w.lbn
  pub lock : V ≡ w.lock

pub of_storage : (g : Geometry) (s : Stage) (qs ns ks : List ℕ) (bs : List Block) (w : PlanWrite) → Has (storage_writes g s qs ns ks bs) w → IsOfStorage g ks w
of_storage g s qs ns [] bs w t = absurd t
of_storage g s qs ns (k ∷ ks) [] w t = absurd t
of_storage g s qs ns (k ∷ ks) (b ∷ bs) w (inl e) = record { block = k; among = inl refl; place = ap (λ (v : PlanWrite). v.lbn) e; lock = ap (λ (v : PlanWrite). v.lock) e }
of_storage g s qs ns (k ∷ ks) (b ∷ bs) w (inr t) = let o = of_storage g s qs ns ks bs w t in record { block = o.block; among = inr o.among; place = o.place; lock = o.lock }

of_index : (g : Geometry) (s : Stage) (ns : List ℕ) (b : Block) (w : PlanWrite) → Has (index_write g s ns b) w → (place_of g IndexBitmap ≡ w.lbn) × (V ≡ w.lock)
of_index g s [] b w t = absurd t
of_index g s (n ∷ ns) b w (inl e) = (ap (λ (v : PlanWrite). v.lbn) e, ap (λ (v : PlanWrite). v.lock) e)
of_index g s (n ∷ ns) b w (inr t) = absurd t

-- a write among others that touches a block
pub touched_by : (ws : List PlanWrite) (l : ℕ) → Touches (bare (map planned ws)) l → (w : PlanWrite) × Has ws w × (w.lbn ≡ l)
touched_by [] l t = absurd t
touched_by (w ∷ ws) l (inl e) = (w, inl refl, e)
touched_by (w ∷ ws) l (inr t) = let r = touched_by ws l t in (r.0, inr r.1, r.2)

-- ---- which lock guards a block

part_guards : (g : Geometry) (own : Owners) (l : ℕ) (p : Part) → part_of g l ≡ Some p → guard_of g own l ≡ Some (Lock (lock_of_part p))
part_guards g own l p e = ap (λ o. guard_by o (owner_at g own l)) e

module _ (g : Geometry) (base : List Block) (own : Owners) (c : Cat) (s : Spells g base own c) where
  pub at_part : (l : ℕ) (p : Part) → IsPart g p → place_of g p ≡ l → guard_of g own l ≡ Some (Lock (lock_of_part p))
  at_part l p is e = part_guards g own l p (ap (part_of g) (sym e) ∙ part_there g base own c s p is)

  at_quota : (l : ℕ) → Has (range_with_len g.quota_lbn g.cluster) l → guard_of g own l ≡ Some (Lock Q)
  at_quota l t =
      let h = has_ranged g.quota_lbn g.cluster l t in
      let lo : g.quota_lbn ≤ l = h.0 in
      let hi : l < g.quota_lbn + g.cluster = h.1 in
      at_part l (Quota (l - g.quota_lbn)) (let e : l - g.quota_lbn < g.cluster = omega arith in e) (let e : g.quota_lbn + (l - g.quota_lbn) ≡ l = omega arith in e)

  at_storage : (qs : List ℕ) (l : ℕ) → Has (map (λ k. place_of g (Storage k)) (blocks_for g qs)) l → guard_of g own l ≡ Some (Lock V)
  at_storage qs l t = let m = mapped (λ k. place_of g (Storage k)) (blocks_for g qs) l t in at_part l (Storage m.0) (for_part g qs m.0 m.1) m.2

pub guarded : Guarded
guarded g base own c s = record {
  quota = at_quota g base own c s;
  storage = at_storage g base own c s;
  index = at_part g base own c s (place_of g IndexBitmap) IndexBitmap tt refl;
  header = λ n is. at_part g base own c s (place_of g (Header n)) (Header n) is refl;
  body = λ n l is t. let o : IsOfBody g base own n l = of_body g base own c s n l is t in ap (λ p. guard_by p (owner_at g own l)) o.no_part ∙ ap (λ y. guard_by None y) o.owned;
}

pub freeing_guards : FreeingGuards
freeing_guards g st qs ns storage index base own x node locks s held =
    both_named node locks g own (storage_writes g st qs ns (blocks_for g qs) storage) (index_write g st ns index)
    (λ w t. let o = of_storage g st qs ns (blocks_for g qs) storage w t in
    under_lock node locks g own V w held (sym o.lock) (at_part g base own x s w.lbn (Storage o.block) (for_part g qs o.block o.among) o.place))
    (λ w t. let o = of_index g st ns index w t in under_lock node locks g own V w held (sym o.1) (at_part g base own x s w.lbn IndexBitmap tt o.0))

-- none of them is to a header
pub freeing_no_header : (g : Geometry) (s : Stage) (qs ns : List ℕ) (storage : List Block) (index : Block) (base : List Block) (own : Owners) (x : Cat) → Spells g base own x → TouchesNoHeader g (freeing_tail g s qs ns storage index)
freeing_no_header g st qs ns storage index base own x s w t i at = elim (has_parted (storage_writes g st qs ns (blocks_for g qs) storage) (index_write g st ns index) w t) [
  | inl u ↦
      let o = of_storage g st qs ns (blocks_for g qs) storage w u in
      no_header w (Storage o.block) i (for_part g qs o.block o.among) o.place (λ e. absurd (cc)) at
  | inr u ↦ no_header w IndexBitmap i tt (of_index g st ns index w u).0 (λ e. absurd (cc)) at
] where
  no_header : (w : PlanWrite) (p : Part) (i : ℕ) → IsPart g p → place_of g p ≡ w.lbn → (p ≡ Header i → ⊥) → part_of g w.lbn ≡ Some (Header i) → ⊥
  no_header w p i is place ne at = ne (let both : Some p ≡ Some (Header i) = sym (part_there g base own x s p is) ∙ ap (part_of g) place ∙ at in cc)

-- ---- which locks the writes are under

changed_under : (g : Geometry) (quota : List Block) (change : Row → Row) (s : Stage) (out : Held) (o : Option ℕ) → AreUnder (Q ∷ []) (changed_write g quota change s out o)
changed_under g quota change s out None w t = absurd t
changed_under g quota change s out (Some j) w (inl e) = inl (ap (λ (v : PlanWrite). v.lock) e)
changed_under g quota change s out (Some j) w (inr t) = absurd t

moves_under : (d : SeenDir) (before after : Stage) (k : ℕ) (ms : List Move) → AreUnder (S d.fid.num ∷ []) (moves_at d before after k ms)
moves_under d before after k ms w t = elim (has_parted (map (move_write d before) (take k ms)) (map (move_write d after) (drop k ms)) w t) [
  | inl h ↦ each before (take k ms) h
  | inr h ↦ each after (drop k ms) h
] where
  each : (s : Stage) (ns : List Move) → Has (map (move_write d s) ns) w → Has (S d.fid.num ∷ []) w.lock
  each s [] t = absurd t
  each s (m ∷ ns) (inl e) = inl (ap (λ (v : PlanWrite). v.lock) e)
  each s (m ∷ ns) (inr t) = each s ns t

slots_under : (g : Geometry) (s : Stage) (qs ns : List ℕ) (slots : List (ℕ × Block)) → AreUnder (map S (slots_seen g slots)) (slots_freed g s qs ns slots)
slots_under g s qs ns [] w t = absurd t
slots_under g s qs ns (y ∷ slots) w (inl e) = inl (ap (λ (v : PlanWrite). v.lock) e)
slots_under g s qs ns (y ∷ slots) w (inr t) = inr (slots_under g s qs ns slots w t)

pub under_locks : UnderLocks
unfolding owner_write insertion_writes removal_writes headers_freed
under_locks = record {
  row = λ g quota owner change s out. changed_under g quota change s out (row_place (is_row_of owner) quota);
  bitmaps = λ g s qs ns storage index w t. elim (has_parted (storage_writes g s qs ns (blocks_for g qs) storage) (index_write g s ns index) w t) [
    | inl u ↦ inl (of_storage g s qs ns (blocks_for g qs) storage w u).lock
    | inr u ↦ inl (of_index g s ns index w u).1
  ];
  header = λ g n b s out w t. elim t [ inl e ↦ inl (ap (λ (v : PlanWrite). v.lock) e) | inr f ↦ absurd f ];
  slots = slots_under;
  freed = λ g f w t. elim t [ inl e ↦ inl (ap (λ (v : PlanWrite). v.lock) e) | inr u ↦ inr (slots_under g stage.Freed (all_clusters g f) (numbers_of g f) f.rest w u) ];
  entered = λ d e before after. moves_under d before after _ (insertion_moves d e);
  removed = λ d e before after. moves_under d before after _ _;
}

pub under_joined : UnderJoined
under_joined names others vs ws a b w t = elim (has_parted vs ws w t) [ inl u ↦ has_first names others w.lock (a w u) | inr u ↦ has_second names others w.lock (b w u) ]
