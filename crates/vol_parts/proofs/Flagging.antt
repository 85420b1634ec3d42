-- Flags of numbers that are set one after another.
use Rattle.std.proofs.Common.{◌≡◌, ◌∙◌, ◌+◌, ◌-◌, ◌<◌, ◌≤◌, ◌⊎◌, ◌≢◌, ℕ, zero, suc, Bool, true, false, List, [], ◌∷◌, ◌++◌, Option, Some, None, map, length, get_or, replicate, flat_map, refl, sym, ap, subst, inl, inr, arith, append-nil}
use Rattle.std.specs.Prelude.{◌==◌, ◌||◌, slice_set}
use Rattle.std.specs.List.{range_with_len, list_any}
use Rattle.std.proofs.lemmas.Bool.{cases_Bool, eqb-true}
use Rattle.std.proofs.lemmas.Bool.Decides.{nat_tests}
use Rattle.std.proofs.lemmas.List.{ext_get_or, length-set, length-replicate, get_or-replicate, get_or-set_same, get_or-set_other}
use Rattle.std.proofs.lemmas.Grind.{flat_map-append}
use Rattle.std.proofs.lemmas.List.Folds.{list_any-append}
use Rattle.std.proofs.lemmas.List.FromFn.{length-map-range_with_len, get_or-map-range_with_len}
use Rattle.base_words.specs.Lists.{Has}
use Rattle.fx_header.specs.declared.slot.Hdr.{Hdr}
use Rattle.vol_parts.specs.Catalogues.{flagged}
use Rattle.vol_parts.specs.Chains.{slots_from, most_headers}
use Rattle.vol_parts.specs.Volumes.{Volume, IsNumber, numbers, fields, headers_of, Told, told, is_in_slots}
use Rattle.vol_parts.proofs.Alone.{file_told, none_told}
use Rattle.vol_parts.proofs.Ranges.{range-more}
use Rattle.vol_parts.proofs.Walks.{slots-numbers}

pub flagged-append : (ns ms : List ℕ) (flags : List Bool) → flagged (ns ++ ms) flags ≡ flagged ms (flagged ns flags)
flagged-append [] ms flags = refl
flagged-append (n ∷ ns) ms flags = flagged-append ns ms (slice_set flags (n - 1) true)

pub length-flagged : (ns : List ℕ) (flags : List Bool) → length (flagged ns flags) ≡ length flags
length-flagged [] flags = refl
length-flagged (n ∷ ns) flags = length-flagged ns (slice_set flags (n - 1) true) ∙ length-set flags (n - 1) true

-- ---- which flags are set

or_true : (t : Bool) → (t || true) ≡ true
or_true true = refl
or_true false = refl

true_or : (a b : Bool) → ((a || true) || b) ≡ (a || (true || b))
true_or true b = refl
true_or false b = refl

set_at : (flags : List Bool) (n i : ℕ) → 1 ≤ n → i < length flags
    → get_or (slice_set flags (n - 1) true) i false ≡ (get_or flags i false || (n == i + 1))
set_at flags n i from inside =
    elim (cases_Bool (n == i + 1)) [
      | inl here ↦
          let e : n ≡ i + 1 = eqb-true n (i + 1) here in
          let place : n - 1 ≡ i = omega arith in
          rw (here, place) (get_or-set_same flags i true false inside ∙ sym (or_true (get_or flags i false)))
      | inr other ↦
          let apart : i ≢ n - 1 = grind (arith, nat_tests) in
          rw other (get_or-set_other flags (n - 1) i true false apart ∙ sym (or_false (get_or flags i false)))
    ]
  where
    or_false : (t : Bool) → (t || false) ≡ t
    or_false true = refl
    or_false false = refl

or_or : (a b c : Bool) → ((a || b) || c) ≡ (a || (b || c))
or_or true b c = refl
or_or false b c = refl

pub flagged-at : (ns : List ℕ) (flags : List Bool) (i : ℕ) → ((m : ℕ) → Has ns m → 1 ≤ m) → i < length flags
    → get_or (flagged ns flags) i false ≡ (get_or flags i false || list_any (λ k. k == i + 1) ns)
flagged-at [] flags i from inside = sym (or_false (get_or flags i false)) where
  or_false : (t : Bool) → (t || false) ≡ t
  or_false true = refl
  or_false false = refl
flagged-at (n ∷ ns) flags i from inside =
    flagged-at ns (slice_set flags (n - 1) true) i (λ m has. from m (inr has)) (rw (length-set flags (n - 1) true) inside)
    ∙ ap (λ t. t || list_any (λ k. k == i + 1) ns) (set_at flags n i (from n (inl refl)) inside)
    ∙ or_or (get_or flags i false) (n == i + 1) (list_any (λ k. k == i + 1) ns)

-- ---- the slots of files

any-flat : (p : ℕ → Bool) (f : ℕ → List ℕ) (ns : List ℕ) → list_any p (flat_map f ns) ≡ list_any (λ n. list_any p (f n)) ns
any-flat p f [] = refl
any-flat p f (n ∷ ns) = list_any-append p (f n) (flat_map f ns) ∙ ap (λ t. list_any p (f n) || t) (any-flat p f ns)

-- each is a number
slots-from-one : (v : Volume) (n m : ℕ) → IsNumber v n → Has (told v n).slots m → 1 ≤ m
slots-from-one v n m is has = by_fields (fields v n) refl where
  by_fields : (o : Option Hdr) → fields v n ≡ o → 1 ≤ m
  by_fields (Some f) e =
      let there : Has (slots_from (headers_of v) most_headers n f f.blocks) m = subst (λ (t : Told). Has t.slots m) (file_told v n f e) has in
      (slots-numbers (headers_of v) most_headers n f f.blocks m (record { from = is.from; to = is.to }) there).from
  by_fields None e =
      let none : Has {A = ℕ} [] m = subst (λ (t : Told). Has t.slots m) (none_told v n e) has in
      absurd none

has-either : (ns ms : List ℕ) (m : ℕ) → Has (ns ++ ms) m → Has ns m ⊎ Has ms m
has-either [] ms m has = inr has
has-either (n ∷ ns) ms m (inl same) = inl (inl same)
has-either (n ∷ ns) ms m (inr later) =
    elim (has-either ns ms m later) [
      | inl first ↦ inl (inr first)
      | inr second ↦ inr second
    ]

has-flat : (f : ℕ → List ℕ) (a k m : ℕ) → ((n : ℕ) → a ≤ n → n < a + k → Has (f n) m → 1 ≤ m) → Has (flat_map f (range_with_len a k)) m → 1 ≤ m
has-flat f a zero m each has = absurd has
has-flat f a (suc k) m each has =
    elim (has-either (f a) (flat_map f (range_with_len (a + 1) k)) m has) [
      | inl here ↦ each a (omega arith) (omega arith) here
      | inr later ↦ has-flat f (a + 1) k m (λ n low high h. each n (omega arith) (omega arith) h) later
    ]

-- the flags of the slots of all files are those of the numbers that belong to files
pub all-flagged : (v : Volume) → flagged (flat_map (λ n. (told v n).slots) (numbers v)) (replicate v.home.files false) ≡ map (is_in_slots v) (numbers v)
unfolding is_in_slots
all-flagged v =
    let files = v.home.files in
    let slots : List ℕ = flat_map (λ n. (told v n).slots) (numbers v) in
    let none : List Bool = replicate files false in
    let few : length none ≡ files = length-replicate files false in
    let count = length-flagged slots none in
    ext_get_or false (flagged slots none) (map (is_in_slots v) (numbers v)) (count ∙ few ∙ sym (length-map-range_with_len (is_in_slots v) 1 files)) (λ i less.
    let inside : i < files = omega arith in
    let from : (m : ℕ) → Has slots m → 1 ≤ m =
    λ m has. has-flat (λ n. (told v n).slots) 1 files m (λ n low high h. slots-from-one v n m (record { from = low; to = omega arith }) h) has in
    flagged-at slots none i from (omega arith)
    ∙ ap (λ t. t || list_any (λ k. k == i + 1) slots) (get_or-replicate files i false false inside)
    ∙ any-flat (λ k. k == i + 1) (λ n. (told v n).slots) (numbers v)
    ∙ sym (get_or-map-range_with_len (is_in_slots v) 1 files i (i + 1) false inside (omega arith)))

-- ---- the files, one further

pub flags-more : (f : ℕ → List ℕ) (n : ℕ) (flags none : List Bool) → 1 ≤ n → flags ≡ flagged (flat_map f (range_with_len 1 (n - 1))) none
    → flagged (f n) flags ≡ flagged (flat_map f (range_with_len 1 (n + 1 - 1))) none
flags-more f n flags none from so_far =
    let count : n + 1 - 1 ≡ n - 1 + 1 = omega arith in
    let more = range-more 1 (n - 1) n (omega arith) in
    let last : flat_map f (n ∷ []) ≡ f n = append-nil (f n) in
    rw (count, more, so_far)
    (sym (ap (λ ns. flagged ns none) (flat_map-append f (range_with_len 1 (n - 1)) (n ∷ []) ∙ ap (λ ns. flat_map f (range_with_len 1 (n - 1)) ++ ns) last)
    ∙ flagged-append (flat_map f (range_with_len 1 (n - 1))) (f n) none))
