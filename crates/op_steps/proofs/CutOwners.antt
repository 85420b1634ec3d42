-- What a file owns that loses clusters, and headers with them.
use Rattle.std.proofs.Common.{◌≡◌, ◌∙◌, ◌<◌, ◌≤◌, ◌-◌, ◌++◌, ℕ, List, ◌∷◌, Some, take, drop, length, slice_get, sym, ap, subst, inl, inr, arith, length-take}
use Rattle.std.specs.Prelude.{◌↔◌}
use Rattle.std.proofs.lemmas.List.{take-append-drop}
use Rattle.base_words.specs.Fields.{Block}
use Rattle.base_words.specs.Lists.{Has, Once}
use Rattle.base_words.proofs.Listing.{has_parted, has_first, has_second, has_mapped, once_first, once_second, once_apart}
use Rattle.fx_header.specs.declared.slot.Hdr.{Hdr}
use Rattle.plain_cat.specs.declared.cat.Cat.{Cat}
use Rattle.plain_cat.specs.declared.cat.File.{File}
use Rattle.vol_parts.specs.declared.geometry.Geometry.{Geometry}
use Rattle.vol_spell.specs.declared.owner.Owner.TheVariants.{InFile, Outside}
use Rattle.vol_spell.specs.Owners.{Owners, Things, nothing, Outs}
use Rattle.vol_spell.specs.Reading.{IsFileNumber, total_of}
use Rattle.vol_under.specs.Filing.{brought_out, AreFiled, Gives}
use Rattle.vol_under.proofs.Files.{file_gives}
use Rattle.op_law.specs.Freeing.{rising}
use Rattle.op_law.specs.Headers.{slots_seen, gone_headers}
use Rattle.op_law.specs.Sizes.{cut_clusters, cut_numbers}
use Rattle.op_law.specs.Writing.{empty_handed}
use Rattle.op_steps.specs.Chained.{Chain, StandsOn}
use Rattle.op_steps.specs.GoneWrites.{cut_things}
use Rattle.op_steps.proofs.ChainFiles.{chain_once, chain_owned, chain_within}
use Rattle.op_steps.proofs.ChainNumbers.{places_for, before_are, once_places, of_place, to_place, numbers_once}
use Rattle.op_steps.proofs.FileNow.{IsNow, now_owned, seen_with, clusters_now}
use Rattle.op_steps.proofs.Ascending.{rising_has, has_rising, once_rising}
use Rattle.op_steps.proofs.WholeFiles.{placed, slots_placed}

-- The headers in the slots ks stay behind the first one, and those in the slots gs go; the first `kept` clusters stay.
module _ (k : Chain) (n : ℕ) (h : Hdr) (f : File) (kept : ℕ) (x : Cat) (bs : List Block) (own : Owners) (on : StandsOn k empty_handed x bs own) (is : List ℕ) (m : ℕ) (y : Hdr) (cs ds : List ℕ) (now : IsNow k.geometry own x n h f bs is m y cs ds)
    (ks gs : List ℕ) (split : ks ++ gs ≡ is) where
  abbrev g : Geometry
  g = k.geometry

  abbrev front : List ℕ
  front = take kept (cs ++ ds)

  abbrev back : List ℕ
  back = drop kept (cs ++ ds)

  parts : take kept (cs ++ ds) ++ drop kept (cs ++ ds) ≡ cs ++ ds
  parts = take-append-drop kept (cs ++ ds)

  -- what goes
  abbrev pub gone : Things
  gone = record { clusters = rising k.geometry (drop kept (cs ++ ds)); numbers = places_for gs }

  abbrev pub left : Owners
  left = brought_out k.node gone own

  owned : (q : ℕ) → Has (cs ++ ds) q ↔ (slice_get own.clusters q ≡ Some (InFile n))
  owned q = subst (λ (rs : List ℕ). Has rs q ↔ (slice_get own.clusters q ≡ Some (InFile n))) now.clusters (chain_owned g bs own x n h on.spelt now.there.number now.there.above now.there.reads q)

  pub within : (q : ℕ) → Has (cs ++ ds) q → q < total_of k.geometry
  within q t = chain_within g bs own x n h on.spelt now.there.number now.there.above now.there.reads q (subst (λ (rs : List ℕ). Has rs q) (sym now.clusters) t)

  once : Once (cs ++ ds)
  once = subst (λ (rs : List ℕ). Once rs) now.clusters (chain_once g bs own x n h on.spelt now.there.number now.there.above now.there.reads)

  in_front : (q : ℕ) → Has front q → Has (cs ++ ds) q
  in_front q t = subst (λ (rs : List ℕ). Has rs q) parts (has_first front back q t)

  in_back : (q : ℕ) → Has back q → Has (cs ++ ds) q
  in_back q t = subst (λ (rs : List ℕ). Has rs q) parts (has_second front back q t)

  -- ---- its numbers

  slots : n ∷ is ≡ (n ∷ ks) ++ gs
  slots = ap (λ ns. n ∷ ns) (sym split)

  number_of_slot : (i : ℕ) → Has (n ∷ is) i ↔ (IsFileNumber k.geometry i × (slice_get own.numbers (i - 1) ≡ Some (InFile n)))
  number_of_slot i = now_owned g own x n h f bs is m y cs ds now i

  slots_once : Once ((n ∷ ks) ++ gs)
  slots_once = subst (λ (ns : List ℕ). Once ns) slots (subst (λ (ns : List ℕ). Once ns) now.slots (numbers_once g bs own x n h on.spelt now.there.number now.there.reads))

  pub kept_slot : (i : ℕ) → Has (n ∷ ks) i → IsFileNumber k.geometry i × (slice_get own.numbers (i - 1) ≡ Some (InFile n))
  kept_slot i t = (number_of_slot i).0 (subst (λ (ns : List ℕ). Has ns i) (sym slots) (has_first (n ∷ ks) gs i t))

  pub gone_slot : (i : ℕ) → Has gs i → IsFileNumber k.geometry i × (slice_get own.numbers (i - 1) ≡ Some (InFile n))
  gone_slot i t = (number_of_slot i).0 (subst (λ (ns : List ℕ). Has ns i) (sym slots) (has_second (n ∷ ks) gs i t))

  pub apart : (i : ℕ) → Has (n ∷ ks) i → Has gs i → ⊥
  apart i t u = once_apart (n ∷ ks) gs slots_once i t u

  pub gone_once : Once gs
  gone_once = once_second (n ∷ ks) gs slots_once

  gone_low : (i : ℕ) → Has gs i → 1 ≤ i
  gone_low i t = (gone_slot i t).0.from

  -- ---- the owners

  filed : AreFiled n own gone
  filed = record {
    clusters = λ q t. (owned q).0 (in_back q (rising_has g back q t));
    numbers = λ i t. let j = has_mapped (λ z. z - 1) gs i t in subst (λ z. slice_get own.numbers z ≡ Some (InFile n)) j.2 (gone_slot j.0 j.1).1;
    clusters_once = once_rising g back;
    numbers_once = once_places gs gone_low gone_once;
  }

  pub gives : Gives k.node n own left nothing gone k.stock
  gives = file_gives k.node n own nothing gone k.stock filed on.outs

  pub front_once : Once front
  front_once = once_first front back (subst (λ (rs : List ℕ). Once rs) (sym parts) once)

  pub front_mine : (q : ℕ) → Has front q ↔ (slice_get left.clusters q ≡ Some (InFile n))
  front_mine q = (
    (λ t. (gives.clusters q).1 ((owned q).0 (in_front q t), (λ u. once_apart front back (subst (λ (rs : List ℕ). Once rs) (sym parts) once) q t (rising_has g back q u)))),
    (λ e.
        let held = (gives.clusters q).0 e in
        let t = (owned q).1 held.0 in
        elim (has_parted front back q (subst (λ (rs : List ℕ). Has rs q) (sym parts) t)) [
          | inl u ↦ u
          | inr u ↦ absurd (held.1 (has_rising g back q u (within q t)))
        ]),
  )

  pub kept_numbers : (i : ℕ) → Has (n ∷ ks) i ↔ (IsFileNumber k.geometry i × (slice_get left.numbers (i - 1) ≡ Some (InFile n)))
  kept_numbers i = (
    (λ t. let at = kept_slot i t in (at.0, (gives.numbers (i - 1)).1 (at.1, (λ u. apart i t (of_place gs i gone_low at.0.from u))))),
    (λ e.
        let held = (gives.numbers (i - 1)).0 e.1 in
        let t = (number_of_slot i).1 (e.0, held.0) in
        elim (has_parted (n ∷ ks) gs i (subst (λ (ns : List ℕ). Has ns i) slots t)) [
          | inl u ↦ u
          | inr u ↦ absurd (held.1 (to_place gs i u))
        ]),
  )

  -- the numbers that go are outside then
  pub gone_outside : (i : ℕ) → Has gs i → slice_get left.numbers (i - 1) ≡ Some (Outside k.node)
  gone_outside i t = (gives.outs.numbers.all (i - 1)).1 (inl (to_place gs i t))

  pub front_few : length front ≤ length (cs ++ ds)
  front_few = let a = length-take kept (cs ++ ds) in omega arith

  -- ---- as the plan has it

  module _ (gone_is : gone_headers (seen_with k.geometry bs n h is) kept ≡ placed k.geometry bs gs) where
    pub numbers_are_gone : cut_numbers k.geometry (seen_with k.geometry bs n h is) kept ≡ gs
    numbers_are_gone = ap (slots_seen g) gone_is ∙ slots_placed g bs gs

    pub things_are : cut_things k.geometry (seen_with k.geometry bs n h is) kept ≡ gone
    things_are =
        let s = seen_with g bs n h is in
        before_are (cut_numbers g s kept) (cut_clusters g s kept)
        ∙ ap (λ (ns : List ℕ). record { clusters = cut_clusters g s kept; numbers = places_for ns }) numbers_are_gone
        ∙ ap (λ (qs : List ℕ). record { clusters = rising g (drop kept qs); numbers = places_for gs }) (clusters_now g own x n h f bs is m y cs ds now)

    pub outs_then : Outs k.node left (cut_things k.geometry (seen_with k.geometry bs n h is) kept) k.stock
    outs_then = subst (λ (t : Things). Outs k.node left t k.stock) (sym things_are) gives.outs
