-- Header slots become free, one after another.
use Rattle.std.proofs.Common.{◌≡◌, ◌≢◌, ◌∙◌, ◌⊎◌, ◌<◌, ◌≤◌, ◌+◌, ◌-◌, ℕ, Bool, true, false, not, List, [], length, get_or-set_other, refl, sym, ap, subst, inl, inr, arith, cond}
use Rattle.std.specs.Prelude.{◌&&◌, Result, Ok, Err, map, nat_lt, slice_index_or}
use Rattle.std.proofs.lemmas.Bool.{cases_lt}
use Rattle.std.proofs.Math.ListN.{length-set}
use Rattle.base_words.specs.Fields.{Block, AreWholeBlocks, field}
use Rattle.base_words.proofs.Listing.{same_or_not}
use Rattle.fx_home.specs.declared.home.Home.{Home}
use Rattle.fx_home.specs.Homes.{IsWithinLimits}
use Rattle.fx_header.specs.declared.slot.Slot.{Slot}
use Rattle.fx_header.specs.declared.slot.Slot.TheVariants.{Used, Free}
use Rattle.fx_header.specs.declared.slot.HeaderFault.{HeaderFault}
use Rattle.fx_header.specs.declared.slot.HeaderFault.TheVariants.{BadSum}
use Rattle.fx_header.specs.Headers.{header_read, freed as free_block}
use Rattle.vol_parts.specs.Volumes.{Volume, volume, IsNumber, numbers, header_lbn, header_at, head}
use Rattle.vol_sound.specs.Sound.{is_kept, is_free_slot}
use Rattle.vol_sound.specs.Freeing.{HasSystem, seq_at, IsSlotLeft, HasSlotsFreed, LeavesOthers, with_freed, IsOneFreed}
use Rattle.vol_sound.proofs.Freed.{head_by}
use Rattle.vol_sound.proofs.OneSlot.{one_freed}
use Rattle.vol_sound.proofs.Bodies.{header_on}
use Rattle.vol_sound.proofs.KeptLemmas.{flag-at}
use Rattle.vol_repair.specs.Touched.{IsTouched, IsGround}
use Rattle.vol_sound.proofs.OneSlot.{free_seq}

head_seq : (v : Volume) (m seq : ℕ) → head v m ≡ Ok (Free seq) → seq_at v m ≡ seq
unfolding head
head_seq v m seq e = by_place (nat_lt (header_lbn v m) (length v.blocks)) e where
  by_place : (b : Bool) → cond b (header_read (header_at v m)) (Err BadSum) ≡ Ok (Free seq) → seq_at v m ≡ seq
  by_place true t = free_seq (header_at v m) seq t
  by_place false t = absurd (cc)

-- so it is told with that
free_with : (v : Volume) (m : ℕ) → is_free_slot (head v m) ≡ true → head v m ≡ Ok (Free (seq_at v m))
free_with v m e = by_head (head v m) refl e where
  by_head : (r : Result Slot HeaderFault) → head v m ≡ r → is_free_slot r ≡ true → head v m ≡ Ok (Free (seq_at v m))
  by_head (Ok (Free seq)) is t = is ∙ ap (λ k. Ok (Free k)) (sym (head_seq v m seq is))
  by_head (Ok (Used f)) is t = absurd (cc)
  by_head (Err fault) is t = absurd (cc)

below : (k n : ℕ) → k < n + 1 → k ≢ n → k < n
below k n lt ne = elim (cases_lt k n) [
  | inl less ↦ less
  | inr more ↦ absurd (ne (omega (arith, lt, more)))
]

-- The slots of all numbers below n that are not kept are free, with the sequences that stood there at first.
pub record AreFreeBelow (home : Home) (first now : List Block) (n : ℕ) : Type 0 where
  pub slots : HasSlotsFreed home first now
  pub others : LeavesOthers home first now
  pub whole : AreWholeBlocks now
  pub all : (k : ℕ) → IsNumber (volume home first) k → k < n → is_kept (volume home first) k ≡ false → head (volume home now) k ≡ Ok (Free (seq_at (volume home first) k))

pub none_free : (home : Home) (first : List Block) → AreWholeBlocks first → AreFreeBelow home first first 1
none_free home first whole = record {
  slots = record { count = refl; slots = λ m is. inl refl };
  others = record { others = λ l apart. refl };
  whole = whole;
  all = λ k is lt lost. (let a = is.from in absurd (omega arith));
}

pub touched : (home : Home) (first now : List Block) → HasSlotsFreed home first now → LeavesOthers home first now → IsTouched home first now
touched home first now slots others = record { freed = slots; others = λ l apart none. others.others l apart }

-- the same of the same blocks
pub below_as : (home : Home) (first now new : List Block) (n : ℕ) → AreFreeBelow home first now n → new ≡ now → AreFreeBelow home first new n
below_as home first now new n b same = subst (λ (x : List Block). AreFreeBelow home first x n) (sym same) b

-- all are free
pub all_free : (home : Home) (first now : List Block) (n : ℕ) → HasSystem (volume home first) → home.files < n → AreFreeBelow home first now n → IsGround home first now
all_free home first now n system past b = record {
  system = system;
  touched = touched home first now b.slots b.others;
  freed = record { freed = b.slots; all = λ m is lost. (let to : m ≤ home.files = is.to in b.all m is (omega arith) lost) };
  whole = b.whole;
}

module _ (home : Home) (first now : List Block) (n : ℕ) (b : AreFreeBelow home first now n) where
  abbrev v : Volume
  v = volume home first

  abbrev p : Volume
  p = volume home now

  -- the slot of the next number is kept, or free already
  pub one_skipped : (is_kept v n ≡ true) ⊎ (is_free_slot (head p n) ≡ true) → AreFreeBelow home first now (n + 1)
  one_skipped left = record { slots = b.slots; others = b.others; whole = b.whole; all = each } where
    by_slot : (k : ℕ) → is_free_slot (head p k) ≡ true → IsSlotLeft v p k → head p k ≡ Ok (Free (seq_at v k))
    by_slot k free (inl same) = free_with p k free ∙ ap (λ (x : Block). Ok (Free (field x 10 2))) same
    by_slot k free (inr gone) = gone.1

    here : (k : ℕ) → IsNumber v k → k ≡ n → is_kept v k ≡ false → (is_kept v n ≡ true) ⊎ (is_free_slot (head p n) ≡ true) → head p k ≡ Ok (Free (seq_at v k))
    here k is e lost (inl kept) = absurd (let z : is_kept v k ≡ true = ap (is_kept v) e ∙ kept in cc)
    here k is e lost (inr free) = by_slot k (ap (λ j. is_free_slot (head p j)) e ∙ free) (b.slots.slots k is)

    each : (k : ℕ) → IsNumber v k → k < n + 1 → is_kept v k ≡ false → head p k ≡ Ok (Free (seq_at v k))
    each k is lt lost = elim (same_or_not k n) [
      | inl e ↦ here k is e lost left
      | inr ne ↦ b.all k is (below k n lt ne) lost
    ]

  module _ (within : IsWithinLimits home) (system : HasSystem (volume home first)) (is : IsNumber (volume home first) n) (lost : is_kept (volume home first) n ≡ false) where
    one : IsOneFreed home first now n
    one = one_freed home first now n within system b.whole b.slots is lost

    stays : (k : ℕ) → k ≢ n → head (volume home (with_freed home now n)) k ≡ head p k
    stays k ne = head_by home now (with_freed home now n) (length-set now (header_lbn v n) (free_block (seq_at p n))) k
        (get_or-set_other now (header_lbn v n) (header_lbn v k) (free_block (seq_at p n)) [] (λ e. ne (omega arith)))

    -- the slot of the next number becomes free
    pub one_more : AreWholeBlocks (with_freed home now n) → AreFreeBelow home first (with_freed home now n) (n + 1)
    one_more whole = record { slots = one.slots; others = one.others b.others; whole = whole; all = each } where
      each : (k : ℕ) → IsNumber v k → k < n + 1 → is_kept v k ≡ false → head (volume home (with_freed home now n)) k ≡ Ok (Free (seq_at v k))
      each k is_k lt lost_k = elim (same_or_not k n) [
        | inl e ↦ subst (λ (j : ℕ). head (volume home (with_freed home now n)) j ≡ Ok (Free (seq_at v j))) (sym e) one.free
        | inr ne ↦ stays k ne ∙ b.all k is_k (below k n lt ne) lost_k
      ]

-- the slot of a number is on the volume still
pub slot_on : (home : Home) (first now : List Block) (n : ℕ) → IsWithinLimits home → HasSystem (volume home first) → HasSlotsFreed home first now → IsNumber (volume home first) n → header_lbn (volume home now) n < length now
slot_on home first now n within system slots is = let a = header_on home first within system n is in let e = slots.count in omega (arith, a, e)

-- ---- by the flags

lost_by : (k f : Bool) → (not k && not f) ≡ true → k ≡ false
lost_by false f e = refl
lost_by true f e = absurd (let z : false ≡ true = e in cc)

left_by : (k f : Bool) → (not k && not f) ≡ false → (k ≡ true) ⊎ (f ≡ true)
left_by true f e = inl refl
left_by false true e = inr refl
left_by false false e = absurd (let z : true ≡ false = e in cc)

module _ (home : Home) (first seen : List Block) (kept : List Bool) (n : ℕ) (flags : kept ≡ map (is_kept (volume home first)) (numbers (volume home first))) (is : IsNumber (volume home first) n) where
  at : slice_index_or kept (n - 1) false ≡ is_kept (volume home first) n
  at = flag-at (is_kept (volume home first)) kept home.files n flags is.from is.to

  -- a slot that is to become free is not kept
  pub is_lost : true ≡ (not (slice_index_or kept (n - 1) false) && not (is_free_slot (head (volume home seen) n))) → is_kept (volume home first) n ≡ false
  is_lost e = sym at ∙ lost_by (slice_index_or kept (n - 1) false) (is_free_slot (head (volume home seen) n)) (sym e)

  -- and one that is not is kept, or free already
  pub is_left : false ≡ (not (slice_index_or kept (n - 1) false) && not (is_free_slot (head (volume home seen) n)))
      → (is_kept (volume home first) n ≡ true) ⊎ (is_free_slot (head (volume home seen) n) ≡ true)
  is_left e = elim (left_by (slice_index_or kept (n - 1) false) (is_free_slot (head (volume home seen) n)) (sym e)) [
    | inl k ↦ inl (sym at ∙ k)
    | inr f ↦ inr f
  ]

-- no more is touched where one more becomes free
pub touched_next : (home : Home) (first now : List Block) (n : ℕ) → AreFreeBelow home first now n → IsTouched home first now
touched_next home first now n b = touched home first now b.slots b.others
