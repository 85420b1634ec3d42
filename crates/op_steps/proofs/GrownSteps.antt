-- The headers of a file that gets clusters are steps.
use Rattle.std.proofs.Common.{◌≡◌, ◌≢◌, ◌∙◌, ◌++◌, ℕ, List, [], ◌∷◌, Option, Some, None, length, refl, sym, ap, subst, inl, inr, append_assoc}
use Rattle.base_words.specs.Fields.{Block}
use Rattle.base_words.specs.Lists.{Has}
use Rattle.base_words.proofs.Listing.{has_first, has_second}
use Rattle.fx_header.specs.declared.slot.Hdr.{Hdr}
use Rattle.lock_db.specs.declared.name.LockName.TheVariants.{S}
use Rattle.plain_cat.specs.declared.cat.Cat.{Cat}
use Rattle.plain_cat.specs.declared.cat.File.{File}
use Rattle.plain_cat.specs.declared.history.Stage.TheVariants as stage
use Rattle.plain_rules.specs.Changes.{with_file, grown}
use Rattle.vol_parts.specs.declared.geometry.Geometry.{Geometry}
use Rattle.vol_spell.specs.Owners.{Owners, nothing}
use Rattle.vol_spell.specs.Reading.{header_place, header_block, headers_at}
use Rattle.vol_under.specs.Chains.{End}
use Rattle.op_law.specs.declared.need.PlanWrite.{PlanWrite}
use Rattle.op_law.specs.Headers.{slot_at, numbers_of, last_header, grown_first, grown_last, new_header_writes, old_header_writes, headers_grown}
use Rattle.op_law.specs.Refusing.{SeenFile}
use Rattle.op_law.specs.Writing.{holding, header_write}
use Rattle.op_steps.specs.Chained.{Chain, StepsOf, StageOf, StandsOn, after_writes}
use Rattle.op_steps.specs.GrownWrites.{number_of, CanGrow, with_new, grown_numbers, GrownSteps}
use Rattle.op_steps.specs.SlotWrites.{AreHeadsWritten}
use Rattle.op_steps.proofs.ChainFiles.{heads}
use Rattle.op_steps.proofs.GrownFacts.{seen, seen_is, IsReady, new_steps}
use Rattle.op_steps.proofs.GrownFirst.{short}
use Rattle.op_steps.proofs.GrownLast.{two_steps, one_step}
use Rattle.op_steps.proofs.FileNow.{IsNow, now_has}
use Rattle.op_steps.proofs.GrownOwners.{grown_owners}
use Rattle.op_steps.proofs.LeadMoves.{lead_behind, lead_slot}
use Rattle.op_steps.proofs.SlotSteps.{same_then, after_both}
use Rattle.op_steps.proofs.WholeFiles.{placed, slots_placed, last_placed}

-- what is none of these numbers and not the new one
away : (ns : List ℕ) (o : Option (ℕ × ℕ)) (j : ℕ) → (Has (with_new ns o) j → ⊥) → (Has ns j → ⊥) × (Has (with_new [] o) j → ⊥)
away ns None j none = (none, λ t. t)
away ns (Some p) j none = ((λ t. none (has_first ns (p.0 ∷ []) j t)), (λ t. none (has_second ns (p.0 ∷ []) j t)))

-- what the whole of the writes leaves, for a file that is seen so
abbrev Goes : End → (k : Chain) (n : ℕ) (f : File) (qs : List ℕ) (new : Option (ℕ × ℕ)) (ws : List PlanWrite) (x : Cat) (bs : List Block) (own : Owners) → SeenFile → Type 0
Goes end k n f qs new ws x bs own s =
    ((next : Owners) → AreHeadsWritten k (grown_numbers k.geometry s new) nothing (with_file x n (grown x f (length qs))) bs (after_writes (headers_grown k.geometry s qs new) bs) next → StepsOf end k ws (after_writes (headers_grown k.geometry s qs new) bs) next)
    → StepsOf end k (headers_grown k.geometry s qs new ++ ws) bs own

module _ (end : End) (k : Chain) (n : ℕ) (h : Hdr) (f : File) (qs : List ℕ) (new : Option (ℕ × ℕ)) (ws : List PlanWrite) (x : Cat) (bs : List Block) (own : Owners) (on : StandsOn k (holding qs (number_of new)) x bs own) (can : CanGrow k.geometry bs f qs new)
    (lock : Has k.locks (S n)) (charged : StageOf k stage.Charged x) (done : StageOf k stage.Done (with_file x n (grown x f (length qs)))) where
  -- the file of this number without others of these
  none_of : (is : List ℕ) (s : SeenFile) (j : ℕ) → numbers_of k.geometry s ≡ n ∷ is → (Has (grown_numbers k.geometry s new) j → ⊥) → (Has (n ∷ is) j → ⊥) × (Has (with_new [] new) j → ⊥)
  none_of is s j numbers none = away (n ∷ is) new j (subst (λ ns. Has (with_new ns new) j → ⊥) numbers none)

  abbrev X : Cat
  X = with_file x n (grown x f (length qs))

  -- the writes of the old headers, on the blocks behind the new one
  abbrev Behind : (s : SeenFile) (us : List PlanWrite) → Type 0
  Behind s us =
      ((next : Owners) → AreHeadsWritten k (grown_numbers k.geometry s new) nothing X bs (after_writes us (after_writes (new_header_writes k.geometry s qs new) bs)) next
      → StepsOf end k ws (after_writes us (after_writes (new_header_writes k.geometry s qs new) bs)) next)
      → StepsOf end k (us ++ ws) (after_writes (new_header_writes k.geometry s qs new) bs) own

  one_behind : (m : ℕ) (y : Hdr) (cs ds : List ℕ) (now : IsNow k.geometry own x n h f bs [] m y cs ds)
      → (let s = seen k n h f qs new x bs own on [] m y cs ds now can.slot in IsReady k n h f qs new x bs own on [] m y cs ds now can.slot (after_writes (new_header_writes k.geometry s qs new) bs) → Behind s (old_header_writes k.geometry s qs new []))
  one_behind m y cs ds now ready rest =
      let s = seen k n h f qs new x bs own on [] m y cs ds now can.slot in
      let bs1 = after_writes (new_header_writes k.geometry s qs new) bs in
      one_step k n h f qs new x bs own on can m y cs ds now bs1 ready end ws lock done
      (λ w. rest (grown_owners k n h f qs new x bs own on [] m y cs ds now can.slot) (record {
        spelt = w.spelt;
        outs = w.outs;
        others = λ j number none.
            let apart = none_of [] s j refl none in
            same_then k.geometry bs bs1 _ j (ready.others j number apart.1) (w.others j number (λ e. apart.0 (inl (sym e))) (λ e. apart.0 (inl (sym e))));
      }))

  two_behind : (i : ℕ) (is : List ℕ) (m : ℕ) (y : Hdr) (cs ds : List ℕ) (now : IsNow k.geometry own x n h f bs (i ∷ is) m y cs ds)
      → (let s = seen k n h f qs new x bs own on (i ∷ is) m y cs ds now can.slot in IsReady k n h f qs new x bs own on (i ∷ is) m y cs ds now can.slot (after_writes (new_header_writes k.geometry s qs new) bs)
      → Behind s (old_header_writes k.geometry s qs new (placed k.geometry bs (i ∷ is))))
  two_behind i is m y cs ds now ready =
      let g : Geometry = k.geometry in
      let s = seen k n h f qs new x bs own on (i ∷ is) m y cs ds now can.slot in
      let bs1 = after_writes (new_header_writes g s qs new) bs in
      let two : ℕ × Block → List PlanWrite =
      λ l.
      header_write g l.0 (grown_last g s l.1 qs new) stage.Charged (holding qs (number_of new)) ∷ header_write g n (grown_first g s.file (header_block g bs n) (length qs)) stage.Done (holding [] None) ∷ [] in
      let at : last_header g (slot_at g (header_place g i)) (header_block g bs i) (placed g bs is) ≡ (m, header_block g bs m) =
      last_placed g bs i is ∙ ap (λ j. (j, header_block g bs j)) (lead_slot g (headers_at g bs) n h (i ∷ is) m y cs now.are.lead) in
      let has : Has (i ∷ is) m = lead_behind g (headers_at g bs) n h i is m y cs now.are.lead in
      subst (λ l. Behind s (two l)) (sym at)
      (λ rest.
      two_steps k n h f qs new x bs own on can i is m y cs ds now bs1 ready end ws lock charged done
      (λ first w. rest (grown_owners k n h f qs new x bs own on (i ∷ is) m y cs ds now can.slot) (record {
        spelt = w.spelt;
        outs = w.outs;
        others = λ j number none.
            let apart = none_of (i ∷ is) s j (ap (λ ns. n ∷ ns) (slots_placed g bs (i ∷ is))) none in
            let not_n : j ≢ n = λ e. apart.0 (inl (sym e)) in
            let not_m : j ≢ m = λ e. apart.0 (inr (subst (λ z. Has (i ∷ is) z) (sym e) has)) in
            same_then g bs bs1 _ j (ready.others j number apart.1) (same_then g bs1 _ _ j (first.others j number not_n not_m) (w.others j number not_n not_n));
      })))

  -- all of them
  all_steps : (is : List ℕ) (m : ℕ) (y : Hdr) (cs ds : List ℕ) (now : IsNow k.geometry own x n h f bs is m y cs ds) → Goes end k n f qs new ws x bs own (seen k n h f qs new x bs own on is m y cs ds now can.slot)
  unfolding headers_grown
  all_steps is m y cs ds now rest = by_slots is m y cs ds now rest where
    joined : (s : SeenFile) (us : List PlanWrite)
        → ((next : Owners) → AreHeadsWritten k (grown_numbers k.geometry s new) nothing X bs (after_writes (new_header_writes k.geometry s qs new ++ us) bs) next → StepsOf end k ws (after_writes (new_header_writes k.geometry s qs new ++ us) bs) next)
        → (next : Owners) → AreHeadsWritten k (grown_numbers k.geometry s new) nothing X bs (after_writes us (after_writes (new_header_writes k.geometry s qs new) bs)) next
        → StepsOf end k ws (after_writes us (after_writes (new_header_writes k.geometry s qs new) bs)) next
    joined s us go = subst (λ z. (next : Owners) → AreHeadsWritten k (grown_numbers k.geometry s new) nothing X bs z next → StepsOf end k ws z next) (after_both (new_header_writes k.geometry s qs new) us bs) go

    by_slots : (is' : List ℕ) (m' : ℕ) (y' : Hdr) (cs' ds' : List ℕ) (now' : IsNow k.geometry own x n h f bs is' m' y' cs' ds') → Goes end k n f qs new ws x bs own (seen k n h f qs new x bs own on is' m' y' cs' ds' now' can.slot)
    by_slots [] m' y' cs' ds' now' go =
        let s = seen k n h f qs new x bs own on [] m' y' cs' ds' now' can.slot in
        let us = old_header_writes k.geometry s qs new [] in
        subst (λ vs. StepsOf end k vs bs own) (sym (append_assoc (new_header_writes k.geometry s qs new) us ws))
        (new_steps end k n h f qs new x bs own on [] m' y' cs' ds' now' can.slot (us ++ ws) can.most (short k n h f qs new x bs own on can [] m' y' cs' ds' now') charged (λ ready. one_behind m' y' cs' ds' now' ready (joined s us go)))
    by_slots (i ∷ is') m' y' cs' ds' now' go =
        let s = seen k n h f qs new x bs own on (i ∷ is') m' y' cs' ds' now' can.slot in
        let us = old_header_writes k.geometry s qs new (placed k.geometry bs (i ∷ is')) in
        subst (λ vs. StepsOf end k vs bs own) (sym (append_assoc (new_header_writes k.geometry s qs new) us ws))
        (new_steps end k n h f qs new x bs own on (i ∷ is') m' y' cs' ds' now' can.slot (us ++ ws) can.most (short k n h f qs new x bs own on can (i ∷ is') m' y' cs' ds' now') charged (λ ready. two_behind i is' m' y' cs' ds' now' ready (joined s us go)))

pub grown_steps : (end : End) → GrownSteps end
grown_steps end k n h f qs new ws x bs own on there can lock charged done rest =
    let g : Geometry = k.geometry in
    let now = now_has g own x n h f bs on.spelt there in
    let hs = heads g bs own x n h on.spelt there.number there.above there.reads in
    subst (Goes end k n f qs new ws x bs own) (sym (seen_is k n h f qs new x bs own on hs.is hs.m hs.x hs.cs hs.ds now can.slot))
    (all_steps end k n h f qs new ws x bs own on can lock charged done hs.is hs.m hs.x hs.cs hs.ds now) rest
