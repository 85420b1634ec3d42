-- The numbers of a file's headers: where they come from, and how they go outside.
use Rattle.std.proofs.Common.{◌≡◌, ◌∙◌, ◌<◌, ◌≤◌, ◌+◌, ◌-◌, ℕ, List, [], ◌∷◌, Some, Ok, map, length, drop, slice_get, refl, sym, ap, subst, inl, inr, arith}
use Rattle.std.specs.Prelude.{◌↔◌}
use Rattle.base_words.specs.Fields.{Block}
use Rattle.base_words.specs.Lists.{Has, Once}
use Rattle.base_words.proofs.Listing.{has_map, has_mapped}
use Rattle.fx_header.specs.declared.slot.Hdr.{Hdr}
use Rattle.fx_header.specs.declared.slot.Slot.TheVariants.{Used}
use Rattle.plain_cat.specs.declared.cat.Cat.{Cat}
use Rattle.vol_parts.specs.declared.geometry.Geometry.{Geometry}
use Rattle.vol_parts.specs.Chains.{chain_of}
use Rattle.vol_parts.specs.Volumes.{fields_in, Told, told_by}
use Rattle.vol_parts.proofs.Walks.{slots-few, slots-once}
use Rattle.vol_spell.specs.declared.owner.Owner.TheVariants.{InFile}
use Rattle.vol_spell.specs.Owners.{Owners, Things}
use Rattle.vol_spell.specs.Reading.{IsFileNumber, header_block, headers_at, head_told, told_of}
use Rattle.vol_spell.specs.Spelling.{Spells}
use Rattle.vol_spell.proofs.Heads.{first_reads}
use Rattle.vol_spell.proofs.Parts.{told}
use Rattle.op_law.specs.Laws.{numbers_before}
use Rattle.op_steps.proofs.WholeFiles.{begins}

-- ---- numbers by their places

-- the places of numbers among the owners
abbrev pub places_for : List ℕ → List ℕ
places_for ns = map (λ n. n - 1) ns

-- numbers before others, as things
pub before_are : (ns qs : List ℕ) → numbers_before ns (record { clusters = qs; numbers = [] }) ≡ record { clusters = qs; numbers = places_for ns }
before_are [] qs = refl
before_are (n ∷ ns) qs = ap (λ (t : Things). record t { numbers = (n - 1) ∷ t.numbers }) (before_are ns qs)

-- numbers that stand once have places that do
pub once_places : (ns : List ℕ) → ((m : ℕ) → Has ns m → 1 ≤ m) → Once ns → Once (places_for ns)
once_places [] low once = tt
once_places (n ∷ ns) low once = (
  (λ t.
      let m = has_mapped (λ i. i - 1) ns (n - 1) t in
      let a = low n (inl refl) in
      let b = low m.0 (inr m.1) in
      let e = m.2 in
      let same : m.0 ≡ n = omega arith in
      once.0 (subst (λ (j : ℕ). Has ns j) same m.1)),
  once_places ns (λ m t. low m (inr t)) once.1,
)

-- a number is one of these where its place is one of theirs
pub of_place : (ns : List ℕ) (m : ℕ) → ((i : ℕ) → Has ns i → 1 ≤ i) → 1 ≤ m → Has (places_for ns) (m - 1) → Has ns m
of_place ns m low from t =
    let i = has_mapped (λ j. j - 1) ns (m - 1) t in
    let a = low i.0 i.1 in
    let e = i.2 in
    let same : i.0 ≡ m = omega arith in
    subst (λ (j : ℕ). Has ns j) same i.1

pub to_place : (ns : List ℕ) (m : ℕ) → Has ns m → Has (places_for ns) (m - 1)
to_place ns m t = has_map (λ j. j - 1) ns m t

-- ---- those of a file

module _ (g : Geometry) (bs : List Block) (own : Owners) (x : Cat) (n : ℕ) (h : Hdr) (spelt : Spells g bs own x) (is : IsFileNumber g n) (reads : head_told (header_block g bs n) ≡ Ok (Used h)) where
  -- its other numbers
  abbrev pub behind : List ℕ
  behind = drop 1 (told_of g bs n).slots

  slots_walk : (told_of g bs n).slots ≡ (chain_of (headers_at g bs) n h).slots
  slots_walk = ap (λ (t : Told). t.slots) (ap (told_by (headers_at g bs) n) reads)

  pub numbers_once : Once (told_of g bs n).slots
  numbers_once = subst (λ (ns : List ℕ). Once ns) (sym slots_walk) (slots-once (headers_at g bs) 16 n h h.blocks (ap fields_in (first_reads (header_block g bs n) h reads)))

  pub numbers_few : length (told_of g bs n).slots ≤ 16
  numbers_few = subst (λ (ns : List ℕ). length ns ≤ 16) (sym slots_walk) (slots-few (headers_at g bs) 16 n h h.blocks)

  pub numbers_owned : (m : ℕ) → Has (told_of g bs n).slots m ↔ (IsFileNumber g m × (slice_get own.numbers (m - 1) ≡ Some (InFile n)))
  numbers_owned m = (told g bs own x spelt n is).slots m

  pub behind_has : (m : ℕ) → Has (drop 1 (told_of g bs n).slots) m → Has (told_of g bs n).slots m
  behind_has m t = subst (λ (ns : List ℕ). Has ns m) (sym (begins g bs n h reads)) (inr t)

  pub behind_once : (Has (drop 1 (told_of g bs n).slots) n → ⊥) × Once (drop 1 (told_of g bs n).slots)
  behind_once = subst (λ (ns : List ℕ). Once ns) (begins g bs n h reads) numbers_once

  pub numbers_low : (m : ℕ) → Has (told_of g bs n).slots m → 1 ≤ m
  numbers_low m t = ((numbers_owned m).0 t).0.from

  -- a place among the owners that is the file's is that of one of them
  pub place_has : (i : ℕ) → i < g.files → slice_get own.numbers i ≡ Some (InFile n) → Has (places_for (told_of g bs n).slots) i
  place_has i lt at =
      let back : i + 1 - 1 ≡ i = omega arith in
      let t : Has (told_of g bs n).slots (i + 1) = (numbers_owned (i + 1)).1 (record { from = omega arith; to = omega arith }, ap (slice_get own.numbers) back ∙ at) in
      subst (λ (j : ℕ). Has (places_for (told_of g bs n).slots) j) back (to_place (told_of g bs n).slots (i + 1) t)
