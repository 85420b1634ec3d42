-- The writes of header slots that are no file's, and of those that become free.
use Rattle.std.proofs.Common.{◌≡◌, ◌≢◌, ◌∙◌, ◌<◌, ◌^◌, ◌-◌, ◌+◌, ◌*◌, ◌++◌, ◌==◌, ℕ, Bool, true, false, List, [], ◌∷◌, Some, None, slice_get, slice_set, get_or, refl, sym, ap, subst, inl, inr, arith}
use Rattle.std.specs.Prelude.{Result, Ok, Err, is_some, if◌then◌else◌}
use Rattle.base_words.specs.Fields.{Block, IsWholeBlock}
use Rattle.base_words.specs.Lists.{Has, Once}
use Rattle.base_words.proofs.Listing.{has_or_not}
use Rattle.fx_header.specs.declared.slot.Slot.{Slot as Head}
use Rattle.fx_header.specs.declared.slot.Slot.TheVariants as head
use Rattle.fx_header.specs.declared.slot.HeaderFault.{HeaderFault}
use Rattle.fx_header.specs.Headers.{header_read, freed}
use Rattle.fx_header.proofs.NewLemmas.{freed-reads}
use Rattle.plain_cat.specs.declared.cat.Cat.{Cat}
use Rattle.plain_cat.specs.declared.cat.Slot.{Slot}
use Rattle.plain_cat.specs.declared.cat.Slot.TheVariants as slot
use Rattle.plain_cat.specs.declared.history.Stage.{Stage}
use Rattle.vol_parts.specs.declared.geometry.Geometry.{Geometry}
use Rattle.vol_parts.specs.Catalogues.{slot_with}
use Rattle.vol_parts.specs.Chains.{as_first}
use Rattle.vol_parts.specs.Volumes.{fields_in}
use Rattle.vol_parts.proofs.WholeHeaders.{whole_freed}
use Rattle.vol_spell.specs.declared.owner.Owner.TheVariants.{Free, InFile, Outside}
use Rattle.vol_spell.specs.Kinds.{IsSlotFor}
use Rattle.vol_spell.specs.Owners.{Owners, Outs}
use Rattle.vol_spell.specs.Reading.{IsFileNumber, header_place, header_block, head_told, told_of, body_blocks}
use Rattle.vol_spell.specs.Spelling.{IsHead, IsBlank, Tells, Spells}
use Rattle.vol_spell.specs.Views.{IsSameFile, IsSlotSet}
use Rattle.vol_spell.proofs.Parts.{told, slot_there, in_use}
use Rattle.vol_spell.proofs.Viewing.{slot_set}
use Rattle.vol_under.specs.Chains.{End, IsStep}
use Rattle.vol_under.proofs.Reach.{step_kinds}
use Rattle.op_law.specs.declared.need.PlanWrite.{PlanWrite}
use Rattle.op_law.specs.Entering.{slot_seq}
use Rattle.op_law.specs.Fits.{things}
use Rattle.op_law.specs.Headers.{slot_at, slots_freed}
use Rattle.op_law.specs.Laws.{planned, numbers_before}
use Rattle.op_law.specs.Writing.{holding, with_numbers, header_write}
use Rattle.op_steps.specs.Chained.{Chain, StepsOf, StageOf, after_writes}
use Rattle.op_steps.specs.SlotWrites.{SlotSteps, AreFreed}
use Rattle.op_steps.proofs.ChainFiles.{slot_whole, slot_kept}
use Rattle.op_steps.proofs.Sequences.{sequence_low}
use Rattle.op_steps.proofs.WholeFiles.{placed}

-- the blocks after writes in a row
pub after_both : (vs us : List PlanWrite) (bs : List Block) → after_writes (vs ++ us) bs ≡ after_writes us (after_writes vs bs)
after_both [] us bs = refl
after_both (v ∷ vs) us bs = after_both vs us (after_writes (v ∷ []) bs)

-- ---- one slot

pub slot_steps : (end : End) → SlotSteps end
slot_steps end k m w ws x bs own spelt place is outs stage rest =
    let g : Geometry = k.geometry in
    let step : IsStep g k.node k.cmd k.locks k.cat k.stock (planned w) bs own own x = (step_kinds g k.node k.cmd k.locks k.cat k.stock).slot (planned w) bs own x m spelt place is stage outs in
    let set : IsSlotSet g bs (slice_set bs w.lbn w.block) m w.block =
    subst (λ (l : ℕ). IsSlotSet g bs (slice_set bs l w.block) m w.block) (sym place) (slot_set g bs own x m w.block spelt is) in
    (own, x, step, rest (record { spelt = step.spelt; outs = outs; set = set }))

-- ---- a number that a node has outside

-- its slot is told as a free one, with a sequence of 16 bits
pub record IsSpare (g : Geometry) (bs : List Block) (c : Cat) (m : ℕ) : Type 0 where
  pub told : head_told (header_block g bs m) ≡ Ok (head.Free (slot_seq (header_read (header_block g bs m))))
  pub slot : slice_get c.files (m - 1) ≡ Some (slot.Free (slot_seq (header_read (header_block g bs m))))
  pub low : slot_seq (header_read (header_block g bs m)) < 2 ^ 16

-- a slot that can be read and is no file's first header
spare_read : (m : ℕ) (r : Result Head HeaderFault) → IsHead m r → (is_some (fields_in (as_first r)) ≡ true → ⊥) → as_first r ≡ Ok (head.Free (slot_seq r))
spare_read m (Ok (head.Free seq)) is none = refl
spare_read m (Err fault) is none = absurd is
spare_read m (Ok (head.Used f)) is none = by_segment (f.seg == 0) none where
  by_segment : (t : Bool) → (is_some (fields_in (if t then Ok (head.Used f) else Ok (head.Free f.seq))) ≡ true → ⊥) → ◌≡◌ {A = Result Head HeaderFault} (if t then Ok (head.Used f) else Ok (head.Free f.seq)) (Ok (head.Free f.seq))
  by_segment true h = absurd (h refl)
  by_segment false h = refl

pub outside_slot : (g : Geometry) (bs : List Block) (own : Owners) (c : Cat) (m node : ℕ) → Spells g bs own c → IsFileNumber g m → slice_get own.numbers (m - 1) ≡ Some (Outside node) → IsSpare g bs c m
outside_slot g bs own c m node s is at =
    let b : Block = header_block g bs m in
    let none : is_some (fields_in (head_told b)) ≡ true → ⊥ =
    λ used. let mine = (in_use g bs own c s m is).0 used in let both : Some (InFile m) ≡ Some (Outside node) = sym mine ∙ at in cc in
    let reads : head_told b ≡ Ok (head.Free (slot_seq (header_read b))) = spare_read m (header_read b) (s.slots.heads m is) none in
    let t : Tells g own m (told_of g bs m) (body_blocks bs m (told_of g bs m)) (get_or c.files (m - 1) (slot.Free 0)) = told g bs own c s m is in
    let told_slot : slot.Free (slot_seq (header_read b)) ≡ get_or c.files (m - 1) (slot.Free 0) = ap (λ r. slot_with g.cluster m r (body_blocks bs m (told_of g bs m))) (sym reads) ∙ t.slot in
    record {
      told = reads;
      slot = slot_there g bs own c s m is ∙ ap (λ (z : Slot). Some z) (sym told_slot);
      low = sequence_low b (slot_whole g bs own c m s is).bytes;
    }

-- a block for it that is told as free, with the same sequence
pub spare_for : (g : Geometry) (bs : List Block) (own : Owners) (c : Cat) (m node : ℕ) (b : Block) → Spells g bs own c → IsFileNumber g m → slice_get own.numbers (m - 1) ≡ Some (Outside node)
    → IsWholeBlock b → head_told b ≡ Ok (head.Free (slot_seq (header_read (header_block g bs m)))) → IsHead m (header_read b) → IsSlotFor g bs m own c b
spare_for g bs own c m node b s is at whole reads head = record {
  whole = whole;
  number = is;
  no_file = λ n mine. let both : Some (Outside node) ≡ Some (InFile n) = sym at ∙ mine in cc;
  seq = slot_seq (header_read (header_block g bs m));
  reads = reads;
  slot = (outside_slot g bs own c m node s is at).slot;
  head = head;
  blank = λ free. let both : Some (Outside node) ≡ Some Free = sym at ∙ free in absurd (cc both);
}

-- ---- slots that become free

-- one after another
pub same_then : (g : Geometry) (a b c : List Block) (i : ℕ) → IsSameFile g a b i → IsSameFile g b c i → IsSameFile g a c i
same_then g a b c i first behind = record {
  header = behind.header ∙ first.header;
  told = behind.told ∙ first.told;
  body = behind.body ∙ first.body;
}

pub same_here : (g : Geometry) (bs : List Block) (i : ℕ) → IsSameFile g bs bs i
same_here g bs i = record { header = refl; told = refl; body = refl }

-- The slots of these numbers are free: from `bs` to `after`, which spell the same.
pub record AreSpared (k : Chain) (is : List ℕ) (x : Cat) (bs after : List Block) (own : Owners) : Type 0 where
  pub spelt : Spells k.geometry after own x
  pub blank : AreFreed k.geometry after is
  pub kept : (i : ℕ) → (Has is i → ⊥) → header_block k.geometry after i ≡ header_block k.geometry bs i
  pub others : (i : ℕ) → IsFileNumber k.geometry i → (Has is i → ⊥) → IsSameFile k.geometry bs after i

-- the writes of these slots, by the headers that stood there
abbrev pub spare_writes : Chain → Stage → List ℕ → List ℕ → List Block → List ℕ → List PlanWrite
spare_writes k s qs ns base is = slots_freed k.geometry s qs ns (placed k.geometry base is)

module _ (end : End) (k : Chain) (s : Stage) (qs ns : List ℕ) (base : List Block) (ws : List PlanWrite) (x : Cat) (own : Owners) (outs : Outs k.node own (numbers_before ns (things qs None)) k.stock) (stage : StageOf k s x) where
  -- each of these numbers is outside, and its slot has the block that stood there
  pub record AreStill (bs : List Block) (is : List ℕ) : Type 0 where
    pub spelt : Spells k.geometry bs own x
    pub once : Once is
    pub number : (m : ℕ) → Has is m → IsFileNumber k.geometry m
    pub outside : (m : ℕ) → Has is m → slice_get own.numbers (m - 1) ≡ Some (Outside k.node)
    pub same : (m : ℕ) → Has is m → header_block k.geometry bs m ≡ header_block k.geometry base m

  pub spare_steps : (is : List ℕ) (bs : List Block) → AreStill bs is
      → (AreSpared k is x bs (after_writes (spare_writes k s qs ns base is) bs) own → StepsOf end k ws (after_writes (spare_writes k s qs ns base is) bs) own)
      → StepsOf end k (spare_writes k s qs ns base is ++ ws) bs own
  spare_steps [] bs still rest = rest (record {
    spelt = still.spelt;
    blank = λ m t. absurd t;
    kept = λ i none. refl;
    others = λ i is none. same_here k.geometry bs i;
  })
  spare_steps (m ∷ is) bs still rest =
      let g : Geometry = k.geometry in
      let hb : Block = header_block g base m in
      let w : PlanWrite = with_numbers ns (header_write g (slot_at g (header_place g m)) (freed (slot_seq (header_read hb))) s (holding qs None)) in
      let number : IsFileNumber g m = still.number m (inl refl) in
      let out = still.outside m (inl refl) in
      let there : header_block g bs m ≡ hb = still.same m (inl refl) in
      let spare : IsSpare g bs x m = outside_slot g bs own x m k.node still.spelt number out in
      let low : slot_seq (header_read hb) < 2 ^ 16 = subst (λ (b : Block). slot_seq (header_read b) < 2 ^ 16) there spare.low in
      let reads : header_read (freed (slot_seq (header_read hb))) ≡ Ok (head.Free (slot_seq (header_read hb))) = freed-reads (slot_seq (header_read hb)) low in
      let told_free : head_told (freed (slot_seq (header_read hb))) ≡ Ok (head.Free (slot_seq (header_read (header_block g bs m)))) =
      ap as_first reads ∙ ap (λ (b : Block). Ok (head.Free (slot_seq (header_read b)))) (sym there) in
      let back : 4 * g.cluster + m - 4 * g.cluster ≡ m = omega arith in
      let place : w.lbn ≡ header_place g m = ap (header_place g) back in
      let for : IsSlotFor g bs m own x w.block = spare_for g bs own x m k.node w.block still.spelt number out (whole_freed (slot_seq (header_read hb))) told_free (subst (IsHead m) (sym reads) tt) in
      slot_steps end k m w (spare_writes k s qs ns base is ++ ws) x bs own still.spelt place for outs stage
      (λ written.
      let next : List Block = after_writes (w ∷ []) bs in
      let other : (i : ℕ) → i ≢ m → header_block g next i ≡ header_block g bs i =
      λ i ne. ap (λ (l : ℕ). header_block g (slice_set bs l w.block) i) place ∙ slot_kept g bs m i w.block ne in
      let apart : (i : ℕ) → Has is i → i ≢ m = λ i t e. still.once.0 (subst (λ (j : ℕ). Has is j) e t) in
      spare_steps is next (record {
        spelt = written.spelt;
        once = still.once.1;
        number = λ i t. still.number i (inr t);
        outside = λ i t. still.outside i (inr t);
        same = λ i t. other i (apart i t) ∙ still.same i (inr t);
      })
      (λ spared. rest (record {
        spelt = spared.spelt;
        blank = λ i t. by_item is next spared (freed_blank next written.set.header reads) i t;
        kept = λ i none. spared.kept i (λ t. none (inr t)) ∙ other i (λ e. none (inl (sym e)));
        others = λ i at none. same_then g bs next (after_writes (spare_writes k s qs ns base is) next) i (written.set.others i at (λ e. none (inl (sym e)))) (spared.others i at (λ t. none (inr t)));
      })))
    where
      freed_blank : (next : List Block) {b : Block} {seq : ℕ} → header_block k.geometry next m ≡ b → header_read b ≡ Ok (head.Free seq) → IsBlank (header_block k.geometry next m)
      freed_blank next {b} {seq} here reads = ap (λ (y : Block). fields_in (header_read y)) here ∙ ap fields_in reads

      by_item : (is' : List ℕ) (next : List Block) → AreSpared k is' x next (after_writes (spare_writes k s qs ns base is') next) own → IsBlank (header_block k.geometry next m) → (i : ℕ) → Has (m ∷ is') i
          → IsBlank (header_block k.geometry (after_writes (spare_writes k s qs ns base is') next) i)
      by_item is' next spared here i (inr t) = spared.blank i t
      by_item is' next spared here i (inl e) = elim (has_or_not is' i) [
        | inl t ↦ spared.blank i t
        | inr none ↦ subst (λ (b : Block). IsBlank b) (sym (spared.kept i none)) (subst (λ (j : ℕ). IsBlank (header_block k.geometry next j)) e here)
      ]
