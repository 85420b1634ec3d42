-- A header slot that is not kept becomes free.
use Rattle.std.proofs.Common.{◌≡◌, ◌≢◌, ◌∙◌, ◌<◌, ◌≤◌, ◌+◌, ◌^◌, ℕ, zero, suc, Bool, true, false, not, List, [], ◌∷◌, Some, length, slice_get, slice_set, get_or-set_other, refl, sym, ap, subst, inl, inr, arith, cond}
use Rattle.std.specs.Prelude.{nat_lt, slice_index_or, Ok, Err}
use Rattle.std.proofs.lemmas.Bool.{and_from, lt-ltb, le-leb, both_ways}
use Rattle.std.proofs.Math.ListN.{length-set}
use Rattle.base_words.specs.Fields.{Block, AreWholeBlocks, field, has_sum}
use Rattle.base_words.proofs.Puts.{field-lt}
use Rattle.base_words.proofs.Listing.{same_or_not}
use Rattle.fx_home.specs.declared.home.Home.{Home}
use Rattle.fx_home.specs.Homes.{IsWithinLimits}
use Rattle.fx_header.specs.declared.slot.Slot.TheVariants.{Used, Free}
use Rattle.fx_header.specs.declared.slot.HeaderFault.TheVariants.{BadSum, BadLevel, BadOffsets, BadRvn, BadExtension, BadMap, BadEnd}
use Rattle.fx_header.specs.Headers.{is_free, has_level, has_offsets, is_on_this_volume, has_segment, has_map, has_end, header_read, fields_of, freed as free_block}
use Rattle.fx_header.proofs.NewLemmas.{freed-reads}
use Rattle.vol_parts.specs.Volumes.{Volume, volume, IsNumber, header_lbn, header_at, head}
use Rattle.vol_sound.specs.Sound.{is_kept}
use Rattle.vol_sound.specs.Freeing.{HasSystem, seq_at, IsSlotLeft, HasSlotsFreed, is_header_place, LeavesOthers, IsOneFreed}
use Rattle.vol_sound.proofs.Freed.{head_by}
use Rattle.vol_sound.proofs.Bodies.{header_on}

-- a free slot says the sequence that stands in it
pub free_seq : (b : Block) (seq : ℕ) → header_read b ≡ Ok (Free seq) → field b 10 2 ≡ seq
unfolding header_read
free_seq b seq e =
    by_tests (is_free b) (has_sum b) (has_level b) (has_offsets b) (is_on_this_volume b) (has_segment b) (has_map b) (has_end b) e
  where
    by_tests : (free sum level offsets volume segment map ends : Bool)
        → cond free (Ok (Free (field b 10 2))) (cond (not sum) (Err BadSum) (cond (not level) (Err BadLevel) (cond (not offsets) (Err BadOffsets) (cond (not volume) (Err BadRvn)
        (cond (not segment) (Err BadExtension) (cond (not map) (Err BadMap) (cond (not ends) (Err BadEnd) (Ok (Used (fields_of b)))))))))) ≡ Ok (Free seq)
        → field b 10 2 ≡ seq
    by_tests true sum level offsets volume segment map ends e = let z : Ok (Free (field b 10 2)) ≡ Ok (Free seq) = e in cc
    by_tests false false level offsets volume segment map ends e = absurd (cc)
    by_tests false true false offsets volume segment map ends e = absurd (cc)
    by_tests false true true false volume segment map ends e = absurd (cc)
    by_tests false true true true false segment map ends e = absurd (cc)
    by_tests false true true true true false map ends e = absurd (cc)
    by_tests false true true true true true false ends e = absurd (cc)
    by_tests false true true true true true true false e = absurd (cc)
    by_tests false true true true true true true true e = absurd (cc)

head_seq : (v : Volume) (m seq : ℕ) → head v m ≡ Ok (Free seq) → seq_at v m ≡ seq
unfolding head
head_seq v m seq e = by_place (nat_lt (header_lbn v m) (length v.blocks)) e where
  by_place : (b : Bool) → cond b (header_read (header_at v m)) (Err BadSum) ≡ Ok (Free seq) → seq_at v m ≡ seq
  by_place true t = free_seq (header_at v m) seq t
  by_place false t = absurd (cc)

set_here : (bs : List Block) (l : ℕ) (b : Block) → l < length bs → slice_index_or (slice_set bs l b) l [] ≡ b
set_here [] l b lt = absurd (omega arith)
set_here (x ∷ bs) zero b lt = refl
set_here (x ∷ bs) (suc l) b lt = set_here bs l b (omega arith)

get_here : (bs : List Block) (l : ℕ) → l < length bs → slice_get bs l ≡ Some (slice_index_or bs l [])
get_here [] l lt = absurd (omega arith)
get_here (x ∷ bs) zero lt = refl
get_here (x ∷ bs) (suc l) lt = get_here bs l (omega arith)

head_there : (v : Volume) (m : ℕ) → header_lbn v m < length v.blocks → head v m ≡ header_read (header_at v m)
unfolding head
head_there v m lt = rw (lt-ltb (header_lbn v m) (length v.blocks) lt) refl

module _ (home : Home) (old mid : List Block) (m : ℕ) (within : IsWithinLimits home) (system : HasSystem (volume home old)) (whole : AreWholeBlocks mid) (freed : HasSlotsFreed home old mid) (is : IsNumber (volume home old) m) (lost : is_kept (volume home old) m ≡ false) where
  abbrev v : Volume
  v = volume home old

  abbrev p : Volume
  p = volume home mid

  abbrev new : List Block
  new = slice_set mid (header_lbn v m) (free_block (seq_at p m))

  -- what stands there is what stood there at first
  same_seq : seq_at p m ≡ seq_at v m
  same_seq = elim (freed.slots m is) [
    | inl same ↦ ap (λ x. field x 10 2) same
    | inr gone ↦ head_seq p m (seq_at v m) gone.1
  ]

  on : header_lbn v m < length mid
  on = let n = freed.count in let lt = header_on home old within system m is in omega arith

  low : seq_at p m < 2 ^ 16
  low = field-lt (header_at p m) 10 2 (whole (header_lbn v m) (header_at p m) (get_here mid (header_lbn v m) on)).bytes

  long : length new ≡ length old
  long = length-set mid (header_lbn v m) (free_block (seq_at p m)) ∙ freed.count

  now_free : head (volume home new) m ≡ Ok (Free (seq_at v m))
  now_free =
      let at : header_lbn v m < length new = (let n = long in let lt = on in let k = freed.count in omega arith) in
      head_there (volume home new) m at ∙ ap header_read (set_here mid (header_lbn v m) (free_block (seq_at p m)) on)
      ∙ freed-reads (seq_at p m) low ∙ ap (λ k. Ok (Free k)) same_seq

  left : (k : ℕ) → IsNumber v k → IsSlotLeft v (volume home new) k
  left k is_k = elim (same_or_not k m) [
    | inl e ↦ subst (λ (j : ℕ). IsSlotLeft v (volume home new) j) (sym e) (inr (lost, now_free))
    | inr ne ↦ other ne (freed.slots k is_k)
  ] where
    kept_block : k ≢ m → header_at (volume home new) k ≡ header_at p k
    kept_block ne = get_or-set_other mid (header_lbn v m) (header_lbn v k) (free_block (seq_at p m)) [] (λ e. ne (omega arith))

    other : k ≢ m → IsSlotLeft v p k → IsSlotLeft v (volume home new) k
    other ne (inl same) = inl (kept_block ne ∙ same)
    other ne (inr gone) = inr (gone.0, head_by home mid new (length-set mid (header_lbn v m) (free_block (seq_at p m))) k (kept_block ne) ∙ gone.1)

  slots_left : HasSlotsFreed home old new
  slots_left = record { count = long; slots = left }

  others_left : LeavesOthers home old mid → LeavesOthers home old new
  others_left o = record { others = λ l apart. get_or-set_other mid (header_lbn v m) l (free_block (seq_at p m)) [] (λ e. away l apart e) ∙ o.others l apart } where
    away : (l : ℕ) → is_header_place v l ≡ false → l ≡ header_lbn v m → ⊥
    away l apart e =
        let a = is.from in
        let c : m ≤ home.files = is.to in
        both_ways (is_header_place v l) apart (and_from _ _ (le-leb (header_lbn v 1) l (omega arith)) (lt-ltb l (header_lbn v 1 + home.files) (omega arith)))

  pub one_freed : IsOneFreed home old mid m
  one_freed = record { slots = slots_left; others = others_left; free = now_free }
