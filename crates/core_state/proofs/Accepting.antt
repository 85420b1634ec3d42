-- The catalogue of a volume that is accepted has all system files, nothing open, exact usages and small files.
use Rattle.std.proofs.Common.{◌≡◌, ◌≤◌, ◌<◌, ◌+◌, ◌-◌, ◌*◌, ◌/◌, ◌&&◌, ℕ, Bool, true, false, cond, List, [], ◌∷◌, Option, Some, None, Result, Ok, Err, length, map, slice_get, nat_lt, refl, sym, ap, subst, ◌∙◌, inl, inr, arith}
use Rattle.std.specs.Prelude.{◌==◌, All, not, filter, replicate}
use Rattle.std.specs.List.{range_with_len}
use Rattle.std.proofs.lemmas.Bool.{cases_Bool}
use Rattle.std.proofs.lemmas.Bool.Decides.{nat_tests}
use Rattle.std.proofs.lemmas.List.Elements.{All-cons}
use Rattle.base_words.specs.Fields.{Block, AreWholeBlocks}
use Rattle.fx_header.specs.declared.slot.Slot.{Slot as Head}
use Rattle.fx_header.specs.declared.slot.Slot.TheVariants as head
use Rattle.fx_header.specs.declared.slot.HeaderFault.{HeaderFault}
use Rattle.plain_cat.specs.declared.cat.Cat.{Cat}
use Rattle.plain_cat.specs.declared.cat.QuotaRow.{QuotaRow}
use Rattle.plain_cat.specs.declared.cat.Slot.{Slot}
use Rattle.plain_rules.specs.Lookups.{is_free_slot, is_leaked, is_free_number, file_most}
use Rattle.plain_rules.specs.Accounts.{charge}
use Rattle.vol_parts.specs.declared.finding.Finding.TheVariants as finding
use Rattle.vol_parts.specs.Volumes.{Volume, volume, IsNumber, factor, body, first_head, fields, fields_in}
use Rattle.vol_parts.specs.Catalogues.{file_of, slot_of, slot_with, files_of, catalogue}
use Rattle.vol_parts.specs.Fatal.{is_too_large, is_system_header, is_system_file}
use Rattle.vol_parts.specs.Warnings.{is_miscounted}
use Rattle.vol_parts.specs.Findings.{Accepts, CatOf}
use Rattle.vol_spell.proofs.Accepted.{catalogue_is_spelt}
use Rattle.vol_analyze.proofs.Weakly.{cat-told, IsWeak, weak-volume}
use Rattle.vol_analyze.proofs.Accepting.{mapped_range, none_miscounted, no_warnings, files_are}
use Rattle.core_state.specs.Goods.{HasSystemNumbers}
use Rattle.plain_histories.specs.Usages.{IsNear, AreNear, HasSmallFiles}
use Rattle.plain_rules.specs.Accounts.{death_cost}
use Rattle.plain_rules.proofs.Standing.{stands_at}
use Rattle.plain_cat.specs.declared.cat.File.{File}
use Rattle.plain_cat.specs.declared.cat.Slot.TheVariants.{Used, Free}

-- ---- system files

module _ (v : Volume) (weak : IsWeak v) where
  first_true : (a b : Bool) → (a && b) ≡ true → a ≡ true
  first_true true b e = refl
  first_true false b e = e

  system_there : (n : ℕ) → 1 ≤ n → n ≤ 11 → is_system_header n (fields v n) ≡ true
  unfolding is_system_file
  system_there n from to = elim (cases_Bool (is_system_file v n)) [
    | inl is ↦ first_true (is_system_header n (fields v n)) _ is
    | inr none ↦ absurd (weak.none (finding.SystemFile n) (from, to, none))
  ]

  system_used : (n : ℕ) → 1 ≤ n → n ≤ 11 → is_free_slot (Some (slot_of v n)) ≡ false
  unfolding slot_of
  system_used n from to = by_head (first_head v n) refl where
    by_head : (r : Result Head HeaderFault) → first_head v n ≡ r → is_free_slot (Some (slot_with (factor v) n r (body v n))) ≡ false
    by_head (Ok (head.Used f)) e = refl
    by_head (Ok (head.Free seq)) e = absurd (let f : false ≡ true = ap (λ r. is_system_header n (fields_in r)) (sym e) ∙ system_there n from to in cc)
    by_head (Err fault) e = absurd (let f : false ≡ true = ap (λ r. is_system_header n (fields_in r)) (sym e) ∙ system_there n from to in cc)

  system_at : (n : ℕ) → 1 ≤ n → n ≤ 11 → is_free_slot (slice_get (files_of v) (n - 1)) ≡ false
  unfolding files_of
  system_at n from to = by_slot (slice_get (files_of v) (n - 1)) refl where
    by_slot : (o : Option Slot) → slice_get (map (slot_of v) (range_with_len 1 v.home.files)) (n - 1) ≡ o → is_free_slot o ≡ false
    by_slot None e = refl
    by_slot (Some s) e =
        let r = mapped_range (slot_of v) 1 v.home.files (n - 1) s e in
        let number : 1 + (n - 1) ≡ n = omega arith in
        ap (λ (y : Slot). is_free_slot (Some y)) (r.0 ∙ ap (slot_of v) number) ∙ system_used n from to

  no_free : (n : ℕ) → n ≤ 11 → is_free_number (catalogue v) n ≡ false
  unfolding catalogue
  no_free n le = by_zero (n == 0) refl where
    above : (n : ℕ) → (n == 0) ≡ false → 1 ≤ n
    above n e = grind (arith, nat_tests)

    by_zero : (b : Bool) → (n == 0) ≡ b → (is_free_slot (cond b None (slice_get (files_of v) (n - 1))) && not (is_leaked (catalogue v) n)) ≡ false
    by_zero true e = refl
    by_zero false e = ap (λ b. b && not (is_leaked (catalogue v) n)) (system_at n (above n e) le)

pub accepted_system : (bs : List Block) (c : Cat) → 64 ≤ length bs → length bs ≤ 65536 → AreWholeBlocks bs → CatOf bs c → HasSystemNumbers c
accepted_system bs c from to whole told =
    let s = catalogue_is_spelt bs c from to whole told in
    let v = volume s.home bs in
    let is : c ≡ catalogue v = cat-told bs c s.home told s.read in
    λ n le. ap (λ d. is_free_number d n) is ∙ no_free v (weak-volume bs c s.home told s.read) n le

none_open : (v : Volume) → (catalogue v).opens ≡ replicate 64 None
unfolding catalogue
none_open v = refl

-- and no channel has anything open
pub told_opens : (bs : List Block) (c : Cat) → 64 ≤ length bs → length bs ≤ 65536 → AreWholeBlocks bs → CatOf bs c → c.opens ≡ replicate 64 None
told_opens bs c from to whole told =
    let s = catalogue_is_spelt bs c from to whole told in
    let is : c ≡ catalogue (volume s.home bs) = cat-told bs c s.home told s.read in
    ap (λ d. d.opens) is ∙ none_open (volume s.home bs)

-- ---- usages are exact, and files are small

all_exact : (c : Cat) (rows : List QuotaRow) → filter (is_miscounted c) rows ≡ [] → All (IsNear c 0) rows
all_exact c [] e = λ i d lt. absurd (omega arith)
all_exact c (r ∷ rs) e = by_test (is_miscounted c r) refl e (all_exact c rs) where
  is_charge : (a b : ℕ) → not (a == b) ≡ false → a ≤ b + death_cost * 0
  is_charge a b e = let f : a ≡ b = grind (arith, nat_tests) in omega arith

  by_test : (b : Bool) → is_miscounted c r ≡ b → cond b (r ∷ filter (is_miscounted c) rs) (filter (is_miscounted c) rs) ≡ [] → (filter (is_miscounted c) rs ≡ [] → All (IsNear c 0) rs) → All (IsNear c 0) (r ∷ rs)
  by_test true f e rest = absurd (let g : r ∷ filter (is_miscounted c) rs ≡ [] = e in cc)
  by_test false f e rest = All-cons (IsNear c 0) r rs (is_charge r.usage (charge c r.owner) f) (rest e)

pub accepted_near : (bs : List Block) (c : Cat) → 64 ≤ length bs → length bs ≤ 65536 → AreWholeBlocks bs → Accepts bs → CatOf bs c → AreNear c 0
accepted_near bs c from to whole accepts told =
    let s = catalogue_is_spelt bs c from to whole told in
    let v = volume s.home bs in
    let is : c ≡ catalogue v = cat-told bs c s.home told s.read in
    subst (λ (d : Cat). AreNear d 0) (sym is) (all_exact (catalogue v) (catalogue v).quota (none_miscounted v (no_warnings bs s.home accepts s.read)))

module _ (v : Volume) (weak : IsWeak v) where
  small_by : (n : ℕ) → IsNumber v n → 11 < n → (r : Result Head HeaderFault) → first_head v n ≡ r → (f : File) → slot_with (factor v) n r (body v n) ≡ Used f → f.clusters ≤ file_most
  small_by n number above (Ok (head.Used h)) e f is =
      let same : file_of (factor v) n h (body v n) ≡ f = (let g : Used (file_of (factor v) n h (body v n)) ≡ Used f = is in cc) in
      subst (λ (x : File). x.clusters ≤ file_most) same (few (h.blocks / factor v) (by_size (is_too_large v (fields v n)) refl)) where
        told : fields v n ≡ Some h
        told = ap fields_in e

        few : (k : ℕ) → nat_lt file_most k ≡ false → k ≤ file_most
        few k e = grind (arith, nat_tests)

        by_size : (b : Bool) → is_too_large v (fields v n) ≡ b → nat_lt file_most (h.blocks / factor v) ≡ false
        by_size true large = absurd (weak.none (finding.Clusters n) (number, above, large))
        by_size false fits = sym (ap (is_too_large v) told) ∙ fits
  small_by n number above (Ok (head.Free seq)) e f is = absurd (let g : Free seq ≡ Used f = is in cc)
  small_by n number above (Err fault) e f is = absurd (let g : Free 0 ≡ Used f = is in cc)

  small_slot : (n : ℕ) → IsNumber v n → 11 < n → (f : File) → slot_of v n ≡ Used f → f.clusters ≤ file_most
  unfolding slot_of
  small_slot n number above f is = small_by n number above (first_head v n) refl f is

  small_at : (n : ℕ) (f : File) → 11 < n → slice_get (files_of v) (n - 1) ≡ Some (Used f) → f.clusters ≤ file_most
  unfolding files_of
  small_at n f above at =
      let r = mapped_range (slot_of v) 1 v.home.files (n - 1) (Used f) at in
      let lt = r.1 in
      let number : 1 + (n - 1) ≡ n = omega arith in
      small_slot n (record { from = omega arith; to = omega arith }) above f (sym (ap (slot_of v) number) ∙ sym r.0)

pub accepted_sized : (bs : List Block) (c : Cat) → 64 ≤ length bs → length bs ≤ 65536 → AreWholeBlocks bs → CatOf bs c → HasSmallFiles c
accepted_sized bs c from to whole told =
    let s = catalogue_is_spelt bs c from to whole told in
    let v = volume s.home bs in
    let is : c ≡ catalogue v = cat-told bs c s.home told s.read in
    let weak = weak-volume bs c s.home told s.read in
    let g = s.spelt.counts.geometry in
    let factor = s.spelt.constants.factor in
    let high = g.cluster_to in
    record {
      factor = omega arith;
      files = λ n f above at. small_at v weak n f above (sym (ap (λ (fs : List Slot). slice_get fs (n - 1)) (ap (λ (d : Cat). d.files) is ∙ files_are v weak)) ∙ stands_at c n f at);
    }
