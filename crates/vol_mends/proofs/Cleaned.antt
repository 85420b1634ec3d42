-- Blocks in which no header lists more than its file has, and no header slot is used but by a file.
use Rattle.std.proofs.Common.{◌≡◌, ◌∙◌, ℕ, true, List, refl, sym, ap, subst, arith}
use Rattle.std.proofs.lemmas.Bool.{eqb-true, eq-eqb}
use Rattle.std.specs.Prelude.{◌==◌}
use Rattle.base_words.specs.Fields.{Block}
use Rattle.base_words.specs.Lists.{Has}
use Rattle.base_words.proofs.Listing.{any_has, has_any}
use Rattle.plain_cat.specs.declared.cat.Cat.{Cat}
use Rattle.vol_parts.specs.declared.geometry.Geometry.{Geometry}
use Rattle.vol_parts.specs.Volumes.{Volume, Told, told, numbers, is_slot_of, is_in_slots}
use Rattle.vol_spell.specs.Owners.{Owners}
use Rattle.vol_spell.specs.Reading.{IsFileNumber, header_block, told_of}
use Rattle.vol_spell.specs.Spelling.{IsBlank, Spells}
use Rattle.vol_spell.specs.Views.{IsSameFile}
use Rattle.vol_spell.proofs.Placing.{has_ranged, ranged_has}
use Rattle.vol_mends.specs.Clean.{KeepsClean}
use Rattle.vol_mends.proofs.Views.{v, v_told}

-- ---- what keeps blocks clean

-- blocks in which each header slot and what is told of each file stay
pub clean_kept : (g : Geometry) (bs new : List Block) → ((n : ℕ) → IsFileNumber g n → told_of g new n ≡ told_of g bs n) → ((n : ℕ) → IsFileNumber g n → header_block g new n ≡ header_block g bs n) → KeepsClean g bs new
clean_kept g bs new told heads k = record {
  surplus = λ n is. ap (λ (t : Told). t.surplus) (told n is) ∙ k.surplus n is;
  strays = λ m is none. subst IsBlank (sym (heads m is)) (k.strays m is (λ n number t. none n number (subst (λ (x : Told). Has x.slots m) (sym (told n number)) t)));
}

pub clean_same : (g : Geometry) (bs new : List Block) → ((n : ℕ) → IsFileNumber g n → IsSameFile g bs new n) → KeepsClean g bs new
clean_same g bs new same = clean_kept g bs new (λ n is. (same n is).told) (λ n is. (same n is).header)

-- ---- the slots of files

-- a number that is among the slots of files is one of a file's slots
pub record IsInSlots (g : Geometry) (bs : List Block) (m : ℕ) : Type 0 where
  pub file : ℕ
  pub number : IsFileNumber g file
  pub slot : Has (told_of g bs file).slots m

has_slot : (v : Volume) (m : ℕ) → is_in_slots v m ≡ true → (n : ℕ) × Has (numbers v) n × Has (told v n).slots m
unfolding is_in_slots
has_slot v m e =
    let r = any_has (is_slot_of v m) (numbers v) e in
    let s = any_has (λ k. k == m) (told v r.0).slots r.2 in
    (r.0, r.1, subst (λ (k : ℕ). Has (told v r.0).slots k) (eqb-true s.0 m s.2) s.1)

slot_in : (v : Volume) (m n : ℕ) → Has (numbers v) n → Has (told v n).slots m → is_in_slots v m ≡ true
unfolding is_in_slots
slot_in v m n is t = has_any (is_slot_of v m) (numbers v) n is (has_any (λ k. k == m) (told v n).slots m t (eq-eqb m m refl))

module _ (label : List ℕ) (g : Geometry) (bs : List Block) (own : Owners) (c : Cat) (s : Spells g bs own c) where
  pub in_slots : (m : ℕ) → is_in_slots (v label g bs own c s) m ≡ true → IsInSlots g bs m
  in_slots m e =
      let r = has_slot (v label g bs own c s) m e in
      let k = has_ranged 1 g.files r.0 r.1 in
      let from = k.0 in
      let to = k.1 in
      let is : IsFileNumber g r.0 = record { from = from; to = omega (arith, to) } in
      record { file = r.0; number = is; slot = subst (λ (t : Told). Has t.slots m) (v_told label g bs own c s r.0 is) r.2 }

  pub slots_in : (m n : ℕ) → IsFileNumber g n → Has (told_of g bs n).slots m → is_in_slots (v label g bs own c s) m ≡ true
  slots_in m n is t =
      let from = is.from in
      let to = is.to in
      slot_in (v label g bs own c s) m n (ranged_has 1 g.files n from (omega (arith, to))) (subst (λ (t : Told). Has t.slots m) (sym (v_told label g bs own c s n is)) t)
