-- Where the parts of a volume lie.
use Rattle.std.proofs.Common.{◌≡◌, ◌≢◌, ◌<◌, ◌≤◌, ◌+◌, ◌*◌, ◌-◌, ◌/◌, ℕ, Bool, true, false, List, [], ◌∷◌, Option, Some, None, slice_get, get_or, refl, sym, ap, subst, ◌∙◌, inl, inr, arith, cond}
use Rattle.std.specs.Prelude.{◌==◌, ◌↔◌, is_some}
use Rattle.std.proofs.lemmas.Bool.Decides.{nat_tests}
use Rattle.std.proofs.lemmas.Option.{slice_get-get_or, slice_get_within}
use Rattle.base_words.specs.Fields.{Block}
use Rattle.fx_header.specs.declared.run.Run.{Run}
use Rattle.fx_header.specs.Pointers.{lbns_in}
use Rattle.plain_cat.specs.declared.cat.Cat.{Cat}
use Rattle.plain_cat.specs.declared.cat.Slot.{Slot}
use Rattle.plain_cat.specs.declared.cat.Slot.TheVariants as slot
use Rattle.vol_spell.specs.declared.owner.Owner.TheVariants.{InFile}
use Rattle.base_words.specs.Lists.{Has}
use Rattle.vol_spell.specs.Owners.{Owners}
use Rattle.vol_parts.specs.declared.geometry.Geometry.{Geometry}
use Rattle.vol_parts.specs.declared.geometry.Part.{Part}
use Rattle.vol_parts.specs.declared.geometry.Part.TheVariants.{Header, IndexBitmap, Storage, Quota}
use Rattle.vol_parts.specs.Parts.{part_of, is_among, storage_blocks}
use Rattle.vol_parts.specs.Fatal.{in_whole_clusters}
use Rattle.vol_spell.specs.Reading.{IsFileNumber, total_of, owner_at, header_block, fields_told, told_of, body_blocks}
use Rattle.vol_spell.specs.Places.{place_of, IsPart, file_of_part, ArePartsOf}
use Rattle.vol_spell.specs.Spelling.{Tells, IsStructure, Spells}
use Rattle.vol_spell.proofs.Runs.{has_cluster, in_one_run}
use Rattle.vol_spell.proofs.Heads.{first_there, slots_used}

-- a block is a part, or none
data Which (g : Geometry) (l : ℕ) (o : Option Part) : Type 0 where
  Is : (p : Part) → IsPart g p → place_of g p ≡ l → o ≡ Some p → Which g l o
  Neither : o ≡ None → ((p : Part) → IsPart g p → place_of g p ≢ l) → Which g l o

among : (first n l : ℕ) → is_among first n l ≡ true → (first ≤ l) × (l < first + n)
among first n l e = (grind (arith, nat_tests), grind (arith, nat_tests))

not_among : (first n l : ℕ) → is_among first n l ≡ false → first ≤ l → l < first + n → ⊥
not_among first n l e lo hi = grind (arith, nat_tests)

by_tests : (g : Geometry) (l : ℕ) (t u v w : Bool) → (l == 4 * g.cluster) ≡ t → is_among (4 * g.cluster + 1) g.files l ≡ u
    → is_among (g.bitmap_lbn + 1) (storage_blocks (g.blocks / g.cluster)) l ≡ v → is_among g.quota_lbn g.cluster l ≡ w
    → Which g l (cond t (Some IndexBitmap) (cond u (Some (Header (l - 4 * g.cluster))) (cond v (Some (Storage (l - (g.bitmap_lbn + 1)))) (cond w (Some (Quota (l - g.quota_lbn))) None))))
by_tests g l true u v w a b c d = Is IndexBitmap tt (let e : 4 * g.cluster ≡ l = grind (arith, nat_tests) in e) refl
by_tests g l false true v w a b c d =
    let h = among (4 * g.cluster + 1) g.files l b in
    let lo : 4 * g.cluster + 1 ≤ l = h.0 in
    let hi : l < 4 * g.cluster + 1 + g.files = h.1 in
    Is (Header (l - 4 * g.cluster)) (record { from = omega arith; to = omega arith }) (let e : 4 * g.cluster + (l - 4 * g.cluster) ≡ l = omega arith in e) refl
by_tests g l false false true w a b c d =
    let h = among (g.bitmap_lbn + 1) (storage_blocks (g.blocks / g.cluster)) l c in
    let lo : g.bitmap_lbn + 1 ≤ l = h.0 in
    let hi : l < g.bitmap_lbn + 1 + storage_blocks (g.blocks / g.cluster) = h.1 in
    Is (Storage (l - (g.bitmap_lbn + 1))) (let e : l - (g.bitmap_lbn + 1) < storage_blocks (g.blocks / g.cluster) = omega arith in e) (let e : g.bitmap_lbn + 1 + (l - (g.bitmap_lbn + 1)) ≡ l = omega arith in e) refl
by_tests g l false false false true a b c d =
    let h = among g.quota_lbn g.cluster l d in
    let lo : g.quota_lbn ≤ l = h.0 in
    let hi : l < g.quota_lbn + g.cluster = h.1 in
    Is (Quota (l - g.quota_lbn)) (let e : l - g.quota_lbn < g.cluster = omega arith in e) (let e : g.quota_lbn + (l - g.quota_lbn) ≡ l = omega arith in e) refl
by_tests g l false false false false a b c d = Neither refl none where
  none : (p : Part) → IsPart g p → place_of g p ≢ l
  none IndexBitmap is e = let f : 4 * g.cluster ≡ l = e in absurd (grind (arith, nat_tests))
  none (Header n) is e =
      let f : 4 * g.cluster + n ≡ l = e in
      let lo = is.from in
      let hi = is.to in
      absurd (not_among (4 * g.cluster + 1) g.files l b (omega arith) (omega arith))
  none (Storage k) is e =
      let f : g.bitmap_lbn + 1 + k ≡ l = e in
      let hi : k < storage_blocks (g.blocks / g.cluster) = is in
      absurd (not_among (g.bitmap_lbn + 1) (storage_blocks (g.blocks / g.cluster)) l c (omega arith) (omega arith))
  none (Quota k) is e =
      let f : g.quota_lbn + k ≡ l = e in
      let hi : k < g.cluster = is in
      absurd (not_among g.quota_lbn g.cluster l d (omega arith) (omega arith))

which : (g : Geometry) (l : ℕ) → Which g l (part_of g l)
unfolding part_of
which g l = by_tests g l (l == 4 * g.cluster) (is_among (4 * g.cluster + 1) g.files l) (is_among (g.bitmap_lbn + 1) (storage_blocks (g.blocks / g.cluster)) l) (is_among g.quota_lbn g.cluster l) refl refl refl refl

pub differ : (a b : ℕ) → (a == b) ≡ false → a ≡ b → ⊥
differ a b e f = grind (arith, nat_tests)

-- so many clusters have room for so many blocks
pub room : (f k x : ℕ) → 1 ≤ f → x < k → x < f * in_whole_clusters f k
room f k x low lt = omega arith

-- ---- header slots

-- the number is the file's where the header is in use
pub used_of : (g : Geometry) (own : Owners) (bs : List Block) (n : ℕ) (blocks : List Block) (s : Slot) → IsFileNumber g n → Tells g own n (told_of g bs n) blocks s
    → (is_some (fields_told (header_block g bs n)) ≡ true) ↔ (slice_get own.numbers (n - 1) ≡ Some (InFile n))
used_of g own bs n blocks s is t = (
  (λ used. ((t.slots n).0 (first_there g bs n used)).1),
  (λ e. slots_used g bs n n ((t.slots n).1 (is, e))),
)

module _ (g : Geometry) (bs : List Block) (own : Owners) (c : Cat) (s : Spells g bs own c) where
  pub low : 1 ≤ g.cluster
  low = s.counts.geometry.cluster_from

  -- a number has a slot, and what is told of its file tells it
  pub slot_there : (n : ℕ) → IsFileNumber g n → slice_get c.files (n - 1) ≡ Some (get_or c.files (n - 1) (slot.Free 0))
  slot_there n is = let a = is.from in let b = is.to in let e = s.counts.slots in slice_get-get_or c.files (n - 1) (slot.Free 0) (omega arith)

  pub told : (n : ℕ) → IsFileNumber g n → Tells g own n (told_of g bs n) (body_blocks bs n (told_of g bs n)) (get_or c.files (n - 1) (slot.Free 0))
  told n is = s.files n (get_or c.files (n - 1) (slot.Free 0)) is (slot_there n is)

  -- the blocks of a file lie in its clusters
  pub in_file : (n l : ℕ) → IsFileNumber g n → Has (lbns_in (told_of g bs n).runs) l → owner_at g own l ≡ Some (InFile n)
  in_file n l is t = let h = told n is in (h.runs (l / g.cluster)).0 (has_cluster g (told_of g bs n) l low h.whole t)

  -- a header slot of a file has a number
  pub slot_number : (n m : ℕ) → IsFileNumber g n → Has (told_of g bs n).slots m → IsFileNumber g m
  slot_number n m is t = (((told n is).slots m).0 t).0

  -- a number that is not a file's is none of its header slots
  pub not_slot : (n m : ℕ) → IsFileNumber g n → n ≢ m → slice_get own.numbers (m - 1) ≢ Some (InFile n) → (j : ℕ) → Has (n ∷ (told_of g bs n).slots) j → j ≢ m
  not_slot n m is ne other j (inl e) f = ne (e ∙ f)
  not_slot n m is ne other j (inr u) f = other (subst (λ (k : ℕ). slice_get own.numbers (k - 1) ≡ Some (InFile n)) f (((told n is).slots j).0 u).1)

  -- a number is that of a file exactly where its header is in use
  pub in_use : (n : ℕ) → IsFileNumber g n → (is_some (fields_told (header_block g bs n)) ≡ true) ↔ (slice_get own.numbers (n - 1) ≡ Some (InFile n))
  in_use n is = let t = told n is in used_of g own bs n (body_blocks bs n (told_of g bs n)) (get_or c.files (n - 1) (slot.Free 0)) is t

  -- a number that is a file's is that of one of its header slots
  pub number_slot : (i n : ℕ) → slice_get own.numbers i ≡ Some (InFile n) → IsFileNumber g n × Has (told_of g bs n).slots (i + 1)
  number_slot i n e =
      let is = s.owners.known_numbers i n e in
      let lt = slice_get_within own.numbers i (InFile n) e in
      let len = s.counts.numbers in
      let m : IsFileNumber g (i + 1) = record { from = omega arith; to = omega arith } in
      let back : i + 1 - 1 ≡ i = omega arith in
      (is, ((told n is).slots (i + 1)).1 (m, ap (slice_get own.numbers) back ∙ e))

  -- a file that has not the number of its own has none
  pub numberless : (i n : ℕ) → slice_get own.numbers (n - 1) ≢ Some (InFile n) → slice_get own.numbers i ≢ Some (InFile n)
  numberless i n none e = let h = number_slot i n e in none ((in_use n h.0).0 (slots_used g bs n (i + 1) h.1))

  -- and one that has one header has no number but its own
  pub own_number : (i n : ℕ) → (told_of g bs n).slots ≡ n ∷ [] → slice_get own.numbers i ≡ Some (InFile n) → n ≡ i + 1
  own_number i n one e = elim (subst (λ (ns : List ℕ). Has ns (i + 1)) one (number_slot i n e).1) [ inl same ↦ same | inr none ↦ absurd none ]

  pub in_structure : (n : ℕ) (r : Run) → IsFileNumber g n → IsStructure g bs n r → (l : ℕ) → r.lbn ≤ l → l < r.lbn + r.count → owner_at g own l ≡ Some (InFile n)
  in_structure n r is st l lo hi = in_file n l is (let P : List Run → Type 0 = λ rs. Has (lbns_in rs) l in subst P (sym st.run) (in_one_run r l lo hi))

  number : (n : ℕ) → 1 ≤ n → n ≤ 11 → IsFileNumber g n
  number n a b = let f = s.counts.geometry.files_from in record { from = a; to = omega arith }

  in_index : (l : ℕ) → l < 4 * g.cluster + 1 + g.files → owner_at g own l ≡ Some (InFile 1)
  in_index l lt =
      let k = 4 * g.cluster + 1 + g.files in
      let e : l < g.cluster * in_whole_clusters g.cluster k = room g.cluster (4 * g.cluster + 1 + g.files) l low lt in
      in_structure 1 _ (number 1 (omega arith) (omega arith)) s.structures.index l (omega arith) (let f : l < 0 + g.cluster * in_whole_clusters g.cluster k = omega arith in f)

  in_bitmap : (k : ℕ) → k < 1 + storage_blocks (total_of g) → owner_at g own (g.bitmap_lbn + k) ≡ Some (InFile 2)
  in_bitmap k lt =
      let e : k < g.cluster * in_whole_clusters g.cluster (1 + storage_blocks (total_of g)) = room g.cluster (1 + storage_blocks (total_of g)) k low lt in
      in_structure 2 _ (number 2 (omega arith) (omega arith)) s.structures.bitmap (g.bitmap_lbn + k) (omega arith)
      (let f : g.bitmap_lbn + k < g.bitmap_lbn + g.cluster * in_whole_clusters g.cluster (1 + storage_blocks (total_of g)) = omega arith in f)

  pub home_owned : owner_at g own 1 ≡ Some (InFile 1)
  home_owned = in_index 1 (let a = low in omega arith)

  pub control_owned : owner_at g own g.bitmap_lbn ≡ Some (InFile 2)
  control_owned =
      let P : ℕ → Type 0 = λ l. owner_at g own l ≡ Some (InFile 2) in
      let e : g.bitmap_lbn + 0 ≡ g.bitmap_lbn = omega arith in
      subst P e (in_bitmap 0 (omega arith))

  pub part_owned : (p : Part) → IsPart g p → owner_at g own (place_of g p) ≡ Some (InFile (file_of_part p))
  part_owned IndexBitmap is = in_index (4 * g.cluster) (omega arith)
  part_owned (Header n) is = let a = is.to in in_index (4 * g.cluster + n) (omega arith)
  part_owned (Storage k) is =
      let lt : k < storage_blocks (total_of g) = is in
      let P : ℕ → Type 0 = λ l. owner_at g own l ≡ Some (InFile 2) in
      let e : g.bitmap_lbn + (1 + k) ≡ g.bitmap_lbn + 1 + k = omega arith in
      subst P e (in_bitmap (1 + k) (omega arith))
  part_owned (Quota k) is =
      let lt : k < g.cluster = is in
      in_structure 10 _ (number 10 (omega arith) (omega arith)) s.structures.quota (g.quota_lbn + k) (omega arith) (let f : g.quota_lbn + k < g.quota_lbn + g.cluster = omega arith in f)

  -- two parts at one place lie in one file
  same_file : (p r : Part) → IsPart g p → IsPart g r → place_of g p ≡ place_of g r → file_of_part p ≡ file_of_part r
  same_file p r a b e =
      let f : owner_at g own (place_of g p) ≡ owner_at g own (place_of g r) = ap (λ l. owner_at g own l) e in
      let h : Some (InFile (file_of_part p)) ≡ Some (InFile (file_of_part r)) = sym (part_owned p a) ∙ f ∙ part_owned r b in
      cc

  pub parts_apart : (p r : Part) → IsPart g p → IsPart g r → place_of g p ≡ place_of g r → p ≡ r
  parts_apart p r a b e = by_kind p r a b e (same_file p r a b e) where
    by_kind : (p r : Part) → IsPart g p → IsPart g r → place_of g p ≡ place_of g r → file_of_part p ≡ file_of_part r → p ≡ r
    by_kind IndexBitmap IndexBitmap a b e f = refl
    by_kind IndexBitmap (Header m) a b e f = let h : 4 * g.cluster ≡ 4 * g.cluster + m = e in let lo = b.from in absurd (omega arith)
    by_kind IndexBitmap (Storage m) a b e f = absurd (differ 1 2 refl f)
    by_kind IndexBitmap (Quota m) a b e f = absurd (differ 1 10 refl f)
    by_kind (Header n) IndexBitmap a b e f = let h : 4 * g.cluster + n ≡ 4 * g.cluster = e in let lo = a.from in absurd (omega arith)
    by_kind (Header n) (Header m) a b e f = ap Header (let h : 4 * g.cluster + n ≡ 4 * g.cluster + m = e in omega arith)
    by_kind (Header n) (Storage m) a b e f = absurd (differ 1 2 refl f)
    by_kind (Header n) (Quota m) a b e f = absurd (differ 1 10 refl f)
    by_kind (Storage n) IndexBitmap a b e f = absurd (differ 2 1 refl f)
    by_kind (Storage n) (Header m) a b e f = absurd (differ 2 1 refl f)
    by_kind (Storage n) (Storage m) a b e f = ap Storage (let h : g.bitmap_lbn + 1 + n ≡ g.bitmap_lbn + 1 + m = e in omega arith)
    by_kind (Storage n) (Quota m) a b e f = absurd (differ 2 10 refl f)
    by_kind (Quota n) IndexBitmap a b e f = absurd (differ 10 1 refl f)
    by_kind (Quota n) (Header m) a b e f = absurd (differ 10 1 refl f)
    by_kind (Quota n) (Storage m) a b e f = absurd (differ 10 2 refl f)
    by_kind (Quota n) (Quota m) a b e f = ap Quota (let h : g.quota_lbn + n ≡ g.quota_lbn + m = e in omega arith)

  pub part_there : (p : Part) → IsPart g p → part_of g (place_of g p) ≡ Some p
  part_there p is = elim (which g (place_of g p)) [
    | Is r ir e o ↦ o ∙ ap (λ x. Some x) (parts_apart r p ir is e)
    | Neither o none ↦ absurd (none p is refl)
  ]

  pub part_only : (l : ℕ) (p : Part) → part_of g l ≡ Some p → IsPart g p × (place_of g p ≡ l)
  part_only l p at = elim (which g l) [
    | Is r ir e o ↦ (let same : r ≡ p = (let h : Some r ≡ Some p = sym o ∙ at in cc) in let P : Part → Type 0 = λ x. IsPart g x × (place_of g x ≡ l) in subst P same (ir, e))
    | Neither o none ↦ absurd (let h : None ≡ Some p = sym o ∙ at in cc)
  ]

  pub part_owner : (l : ℕ) (p : Part) → part_of g l ≡ Some p → owner_at g own l ≡ Some (InFile (file_of_part p))
  part_owner l p at =
      let h = part_only l p at in
      let P : ℕ → Type 0 = λ x. owner_at g own x ≡ Some (InFile (file_of_part p)) in
      subst P h.1 (part_owned p h.0)

  pub are_parts : ArePartsOf g own
  are_parts = record { there = part_there; only = part_only; apart = parts_apart; owned = part_owner }
