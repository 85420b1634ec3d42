-- The flags of the header slots that stay.
use Rattle.std.proofs.Common.{◌≡◌, ◌∙◌, ◌+◌, ◌-◌, ◌<◌, ◌≤◌, ◌⊎◌, ℕ, zero, suc, Bool, true, false, cond, List, [], ◌∷◌, ◌++◌, Option, Some, None, map, length, get_or, flat_map, refl, sym, ap, subst, inl, inr, arith}
use Rattle.std.specs.Prelude.{◌==◌, ◌&&◌, ◌||◌, not, nat_le, if◌then◌else◌}
use Rattle.std.specs.List.{range_with_len, list_any, count_by}
use Rattle.std.proofs.lemmas.List.{ext_get_or}
use Rattle.std.proofs.lemmas.List.Folds.{list_any-append}
use Rattle.std.proofs.lemmas.List.FromFn.{length-map-range_with_len, get_or-map-range_with_len}
use Rattle.base_words.specs.Lists.{Has}
use Rattle.fx_header.specs.declared.slot.Hdr.{Hdr}
use Rattle.vol_parts.specs.Catalogues.{flagged}
use Rattle.vol_parts.specs.Chains.{slots_from, most_headers}
use Rattle.vol_parts.specs.Volumes.{Volume, IsNumber, numbers, head, fields, headers_of, Told, told, is_slot_of}
use Rattle.vol_parts.proofs.Alone.{file_told, none_told}
use Rattle.vol_parts.proofs.Flagging.{length-flagged, flagged-at}
use Rattle.vol_parts.proofs.Ranges.{range-more, map-next}
use Rattle.vol_parts.proofs.Walks.{slots-numbers}
use Rattle.std.proofs.lemmas.List.Sums.{sum_by_push}
use Rattle.vol_sound.specs.Slots.{sound_slots, system_slots}
use Rattle.vol_sound.specs.Sound.{is_sound, is_sound_slot, is_kept, is_free_slot, is_freed}

-- ---- slots are numbers

told-from-one : (v : Volume) (n m : ℕ) → IsNumber v n → Has (told v n).slots m → 1 ≤ m
told-from-one v n m is has = by_fields (fields v n) refl where
  by_fields : (o : Option Hdr) → fields v n ≡ o → 1 ≤ m
  by_fields (Some f) e =
      let there : Has (slots_from (headers_of v) most_headers n f f.blocks) m = subst (λ (t : Told). Has t.slots m) (file_told v n f e) has in
      (slots-numbers (headers_of v) most_headers n f f.blocks m (record { from = is.from; to = is.to }) there).from
  by_fields None e =
      let none : Has {A = ℕ} [] m = subst (λ (t : Told). Has t.slots m) (none_told v n e) has in
      absurd none

sound-from-one : (v : Volume) (n m : ℕ) → IsNumber v n → Has (sound_slots v n) m → 1 ≤ m
unfolding sound_slots
sound-from-one v n m is has = by_test (is_sound v n) has where
  by_test : (t : Bool) → Has (if t then (told v n).slots else []) m → 1 ≤ m
  by_test true h = told-from-one v n m is h
  by_test false h = absurd h

has-either : (ns ms : List ℕ) (m : ℕ) → Has (ns ++ ms) m → Has ns m ⊎ Has ms m
has-either [] ms m has = inr has
has-either (n ∷ ns) ms m (inl same) = inl (inl same)
has-either (n ∷ ns) ms m (inr later) =
    elim (has-either ns ms m later) [
      | inl first ↦ inl (inr first)
      | inr second ↦ inr second
    ]

has-flat : (f : ℕ → List ℕ) (a k m : ℕ) → ((n : ℕ) → a ≤ n → n < a + k → Has (f n) m → 1 ≤ m) → Has (flat_map f (range_with_len a k)) m → 1 ≤ m
has-flat f a zero m each has = absurd has
has-flat f a (suc k) m each has =
    elim (has-either (f a) (flat_map f (range_with_len (a + 1) k)) m has) [
      | inl here ↦ each a (omega arith) (omega arith) here
      | inr later ↦ has-flat f (a + 1) k m (λ n low high h. each n (omega arith) (omega arith) h) later
    ]

-- ---- which flags are set

any-flat : (p : ℕ → Bool) (f : ℕ → List ℕ) (ns : List ℕ) → list_any p (flat_map f ns) ≡ list_any (λ n. list_any p (f n)) ns
any-flat p f [] = refl
any-flat p f (n ∷ ns) = list_any-append p (f n) (flat_map f ns) ∙ ap (λ t. list_any p (f n) || t) (any-flat p f ns)

any-same : (p r : ℕ → Bool) (ns : List ℕ) → ((n : ℕ) → p n ≡ r n) → list_any p ns ≡ list_any r ns
any-same p r [] each = refl
any-same p r (n ∷ ns) each = rw (each n, any-same p r ns each) refl

-- a slot of a sound file
slot-test : (v : Volume) (m n : ℕ) → list_any (λ k. k == m) (sound_slots v n) ≡ is_sound_slot v m n
unfolding sound_slots is_sound_slot
slot-test v m n = by_test (is_sound v n) where
  by_test : (t : Bool) → list_any (λ k. k == m) (if t then (told v n).slots else []) ≡ (t && is_slot_of v m n)
  by_test true = refl
  by_test false = refl

-- the flags of the system files and of the slots of sound files are those of the slots that stay
pub all-kept : (v : Volume) → flagged (flat_map (sound_slots v) (numbers v)) (system_slots v.home.files) ≡ map (is_kept v) (numbers v)
unfolding is_kept system_slots
all-kept v =
    let files = v.home.files in
    let slots : List ℕ = flat_map (sound_slots v) (numbers v) in
    let first : List Bool = system_slots files in
    let few : length first ≡ files = length-map-range_with_len (λ n. nat_le n 11) 1 files in
    let count = length-flagged slots first in
    ext_get_or false (flagged slots first) (map (is_kept v) (numbers v)) (count ∙ few ∙ sym (length-map-range_with_len (is_kept v) 1 files)) (λ i less.
    let inside : i < files = omega arith in
    let from : (m : ℕ) → Has slots m → 1 ≤ m =
    λ m has. has-flat (sound_slots v) 1 files m (λ n low high h. sound-from-one v n m (record { from = low; to = omega arith }) h) has in
    flagged-at slots first i from (omega arith)
    ∙ ap (λ t. t || list_any (λ k. k == i + 1) slots) (get_or-map-range_with_len (λ n. nat_le n 11) 1 files i (i + 1) false inside (omega arith))
    ∙ ap (λ t. nat_le (i + 1) 11 || t)
    (any-flat (λ k. k == i + 1) (sound_slots v) (numbers v)
    ∙ any-same (λ n. list_any (λ k. k == i + 1) (sound_slots v n)) (is_sound_slot v (i + 1)) (numbers v) (λ n. slot-test v (i + 1) n))
    ∙ sym (get_or-map-range_with_len (is_kept v) 1 files i (i + 1) false inside (omega arith)))

-- a flag of such a list
pub flag-at : (f : ℕ → Bool) (flags : List Bool) (files n : ℕ) → flags ≡ map f (range_with_len 1 files) → 1 ≤ n → n ≤ files → get_or flags (n - 1) false ≡ f n
flag-at f flags files n are from to =
    ap (λ (fs : List Bool). get_or fs (n - 1) false) are ∙ get_or-map-range_with_len f 1 files (n - 1) n false (omega arith) (omega arith)

pub flags-count : (f : ℕ → Bool) (flags : List Bool) (files : ℕ) → flags ≡ map f (range_with_len 1 files) → length flags ≡ files
flags-count f flags files are = ap length are ∙ length-map-range_with_len f 1 files

-- ---- slots that are freed

pub freed-kept : (v : Volume) (n : ℕ) → is_kept v n ≡ true → is_freed v n ≡ false
unfolding is_freed
freed-kept v n e = rw e refl

pub freed-other : (v : Volume) (n : ℕ) → is_kept v n ≡ false → is_freed v n ≡ not (is_free_slot (head v n))
unfolding is_freed
freed-other v n e = rw e refl

-- ---- file by file

pub slots-sound : (v : Volume) (n : ℕ) → is_sound v n ≡ true → sound_slots v n ≡ (told v n).slots
unfolding sound_slots
slots-sound v n e = rw e refl

pub slots-none : (v : Volume) (n : ℕ) → is_sound v n ≡ false → sound_slots v n ≡ []
unfolding sound_slots
slots-none v n e = rw e refl

-- ---- one number more

-- the flags so far, from number 1 on
pub one-flag-more : (flags : List Bool) (n : ℕ) → 1 ≤ n → flags ≡ system_slots (n - 1) → flags ++ nat_le n 11 ∷ [] ≡ system_slots (n + 1 - 1)
unfolding system_slots
one-flag-more flags n from are = ap (λ (fs : List Bool). fs ++ nat_le n 11 ∷ []) are ∙ sym (map-next (λ (k : ℕ). nat_le k 11) n from)

-- one more slot is looked at
pub one-slot-more : (v : Volume) (n : ℕ) → 1 ≤ n
    → count_by (is_freed v) (range_with_len 1 (n + 1 - 1)) ≡ count_by (is_freed v) (range_with_len 1 (n - 1)) + cond (is_freed v n) 1 0
one-slot-more v n from =
    let count : n + 1 - 1 ≡ n - 1 + 1 = omega arith in
    let more = range-more 1 (n - 1) n (omega arith) in
    rw (count, more) (sum_by_push (λ (k : ℕ). cond (is_freed v k) 1 0) (range_with_len 1 (n - 1)) n)
