-- The file numbers add up.
use Rattle.std.proofs.Common.{◌≡◌, ◌∙◌, ◌<◌, ◌≤◌, ◌+◌, ◌-◌, ◌⊎◌, ◌&&◌, ℕ, zero, suc, Bool, true, false, not, cond, List, [], ◌∷◌, Option, Some, None, length, map, take, drop, slice_get, get_or, refl, sym, ap, subst, inl, inr, arith, take_all}
use Rattle.std.specs.Prelude.{◌==◌, nat_lt, if◌then◌else◌, option_map, is_some, count_by, sum_by, Result, Ok, Err}
use Rattle.std.specs.List.{range_with_len}
use Rattle.std.proofs.lemmas.Bool.{cases_lt}
use Rattle.std.proofs.lemmas.Bool.Decides.{nat_tests}
use Rattle.std.proofs.lemmas.List.{get_or-drop, length-drop, length-map}
use Rattle.std.proofs.lemmas.List.Sums.{sum_by-cons, sum_by_more}
use Rattle.std.proofs.lemmas.Option.{slice_get-get_or, slice_get-map}
use Rattle.base_words.specs.Fields.{Block}
use Rattle.base_words.specs.Lists.{Has, Once}
use Rattle.base_words.proofs.Listing.{has_at, has_map, has_mapped}
use Rattle.fx_header.specs.declared.slot.Hdr.{Hdr}
use Rattle.fx_header.specs.declared.slot.Slot.{Slot as Head}
use Rattle.fx_header.specs.declared.slot.Slot.TheVariants as head
use Rattle.fx_header.specs.declared.slot.HeaderFault.{HeaderFault}
use Rattle.plain_cat.specs.declared.cat.Cat.{Cat}
use Rattle.plain_cat.specs.declared.cat.File.{File}
use Rattle.plain_cat.specs.declared.cat.Slot.{Slot}
use Rattle.plain_cat.specs.declared.cat.Slot.TheVariants as slot
use Rattle.plain_rules.specs.Lookups.{clusters_in, slot_at, is_free_slot, is_set, is_leaked, is_free_number, extra, extra_in, free_count}
use Rattle.vol_parts.specs.declared.geometry.Geometry.{Geometry}
use Rattle.vol_parts.specs.Volumes.{fields_in, chain_from}
use Rattle.vol_parts.specs.Catalogues.{slot_with, file_of}
use Rattle.vol_parts.proofs.Walks.{slots-rise}
use Rattle.vol_spell.specs.declared.owner.Owner.{Owner}
use Rattle.vol_spell.specs.declared.owner.Owner.TheVariants.{Free, InFile, Leaked}
use Rattle.vol_spell.specs.Owners.{Owners}
use Rattle.vol_spell.specs.Counts.{is_same_owner}
use Rattle.vol_spell.specs.Adding.{is_outside, NumbersAddUp}
use Rattle.vol_spell.specs.Reading.{IsFileNumber, header_block, headers_at, fields_told, told_of, clusters_told, body_blocks}
use Rattle.vol_spell.specs.Spelling.{IsHead, Tells, Spells}
use Rattle.vol_spell.proofs.Adds.{below, below_more, below_none, sum_add, all_each, size_told}
use Rattle.vol_spell.proofs.Counting.{counts_list}
use Rattle.vol_spell.proofs.Heads.{used_reads}
use Rattle.vol_spell.proofs.OneHeader.{one_slot, split_slots}
use Rattle.vol_spell.proofs.Parts.{low, told, in_use, number_slot}
use Rattle.vol_spell.proofs.Picking.{once_by_place}

-- 1 where the slot has a file
abbrev used_in : Slot → ℕ
used_in (slot.Used f) = 1
used_in (slot.Free seq) = 0

-- what is a file's is not leaked
of_file : (n : ℕ) → is_same_owner Leaked (InFile n) ≡ false
unfolding is_same_owner
of_file n = refl

-- ---- the header slots of a file

-- the places of a file's header slots stand once
places_once : (g : Geometry) (bs : List Block) (n : ℕ) → ((m : ℕ) → Has (told_of g bs n).slots m → 1 ≤ m) → Once (map (λ (m : ℕ). m - 1) (told_of g bs n).slots)
places_once g bs n from = once_by_place (λ (m : ℕ). m - 1) (told_of g bs n).slots (λ i j a b s t e. by_fields (fields_told (header_block g bs n)) refl i j a b s t (back a b (from a (has_at (told_of g bs n).slots i a s)) (from b (has_at (told_of g bs n).slots j b t)) e)) where
  back : (a b : ℕ) → 1 ≤ a → 1 ≤ b → a - 1 ≡ b - 1 → a ≡ b
  back a b low high e = omega arith

  by_fields : (o : Option Hdr) → fields_told (header_block g bs n) ≡ o → (i j a b : ℕ) → slice_get (chain_from (headers_at g bs) n o).slots i ≡ Some a → slice_get (chain_from (headers_at g bs) n o).slots j ≡ Some b → a ≡ b → i ≡ j
  by_fields None e i j a b s t same = absurd (let f : None ≡ Some a = s in cc)
  by_fields (Some f) e i j a b s t same =
      let says = ap fields_in (used_reads (header_block g bs n) f e) in
      let first = slots-rise (headers_at g bs) 16 n f f.blocks i a says s in
      let second = slots-rise (headers_at g bs) 16 n f f.blocks j b says t in
      let both : Some first.header ≡ Some second.header = sym first.says ∙ ap (headers_at g bs).says same ∙ second.says in
      let one : first.header ≡ second.header = cc in
      let seg : first.header.seg ≡ second.header.seg = ap (λ (x : Hdr). x.seg) one in
      omega (arith, first.segment, second.segment, seg)

-- so many header slots has the file of a slot, by its place from 0 on
abbrev headers_at_place : ℕ → Slot → ℕ
headers_at_place k s = used_in s + (if nat_lt k 11 then 0 else extra_in s)

counted_slots : (g : Geometry) (own : Owners) (bs : List Block) (n : ℕ) (blocks : List Block) (s : Slot) → 1 ≤ g.cluster → 1 ≤ n → Tells g own n (told_of g bs n) blocks s → length (told_of g bs n).slots ≡ used_in s + (if nat_lt (n - 1) 11 then 0 else extra_in s)
counted_slots g own bs n blocks s low from t = by_head (told_of g bs n).head refl (cases_lt 11 n) where
  by_head : (r : Result Head HeaderFault) → (told_of g bs n).head ≡ r → (11 < n) ⊎ (n ≤ 11) → length (told_of g bs n).slots ≡ used_in s + (if nat_lt (n - 1) 11 then 0 else extra_in s)
  by_head (Err fault) e kind = absurd (subst (λ (r : Result Head HeaderFault). IsHead n r) e t.reads)
  by_head (Ok (head.Free seq)) e kind =
      let free : s ≡ slot.Free seq = sym t.slot ∙ ap (λ r. slot_with g.cluster n r blocks) e in
      ap (λ o. length (chain_from (headers_at g bs) n o).slots) (ap fields_in e) ∙ sym (ap (λ x. used_in x + (if nat_lt (n - 1) 11 then 0 else extra_in x)) free ∙ none (nat_lt (n - 1) 11)) where
        none : (b : Bool) → 0 + cond b 0 0 ≡ 0
        none true = refl
        none false = refl
  by_head (Ok (head.Used f)) e (inr system) =
      let used : s ≡ slot.Used (file_of g.cluster n f blocks) = sym t.slot ∙ ap (λ r. slot_with g.cluster n r blocks) e in
      let first : nat_lt (n - 1) 11 ≡ true = grind (arith, nat_tests) in
      ap length (one_slot g bs n f (ap fields_in e) (t.system system))
      ∙ sym (ap (λ x. used_in x + (if nat_lt (n - 1) 11 then 0 else extra_in x)) used ∙ ap (λ b. 1 + cond b 0 (extra_in (slot.Used (file_of g.cluster n f blocks)))) first)
  by_head (Ok (head.Used f)) e (inl above) =
      let used : s ≡ slot.Used (file_of g.cluster n f blocks) = sym t.slot ∙ ap (λ r. slot_with g.cluster n r blocks) e in
      let later : nat_lt (n - 1) 11 ≡ false = grind (arith, nat_tests) in
      let size : clusters_in s ≡ length (clusters_told g (told_of g bs n)) = size_told g own n (told_of g bs n) blocks s low t in
      let slots : length (told_of g bs n).slots ≡ suc (extra (length (clusters_told g (told_of g bs n)))) = split_slots g bs n f (ap fields_in e) low t.whole t.size (t.split above) in
      let more : extra_in s ≡ extra (length (clusters_told g (told_of g bs n))) = ap extra size in
      let one : used_in s ≡ 1 = ap used_in used in
      let sum : length (told_of g bs n).slots ≡ used_in s + extra_in s = together _ _ _ _ slots more one in
      sum ∙ sym (ap (λ b. used_in s + cond b 0 (extra_in s)) later)
    where
      together : (l u x k : ℕ) → l ≡ suc k → x ≡ k → u ≡ 1 → l ≡ u + x
      together l u x k a b c = omega arith

-- ---- numbers to take

-- a test along a range, with what is leaked and what has a file, passes each once
one_each : (p : ℕ → Bool) (xs : List Owner) (ys : List Slot) (a : ℕ) → length ys ≡ length xs
    → ((i : ℕ) → i < length xs → cond (p (a + i)) 1 0 + cond (is_same_owner Leaked (get_or xs i Free)) 1 0 + used_in (get_or ys i (slot.Free 0)) ≡ 1)
    → count_by p (range_with_len a (length xs)) + count_by (is_same_owner Leaked) xs + sum_by used_in ys ≡ length xs
one_each p [] [] a len one = refl
one_each p [] (y ∷ ys) a len one = absurd (omega arith)
one_each p (x ∷ xs) [] a len one = absurd (omega arith)
one_each p (x ∷ xs) (y ∷ ys) a len one =
    let f : ℕ → ℕ = λ i. cond (p i) 1 0 in
    let h : Owner → ℕ = λ o. cond (is_same_owner Leaked o) 1 0 in
    let zero_at : a + 0 ≡ a = omega arith in
    let here : f a + h x + used_in y ≡ 1 = ap (λ k. f k + h x + used_in y) (sym zero_at) ∙ one 0 (omega arith) in
    let rest : count_by p (range_with_len (a + 1) (length xs)) + count_by (is_same_owner Leaked) xs + sum_by used_in ys ≡ length xs =
    one_each p xs ys (a + 1) (omega arith) (λ i lt. let e : a + 1 + i ≡ a + suc i = omega arith in ap (λ k. f k + h (get_or xs i Free) + used_in (get_or ys i (slot.Free 0))) e ∙ one (suc i) (omega arith)) in
    three _ _ _ _ _ _ _ _ _ (length xs) (sum_by-cons f a (range_with_len (a + 1) (length xs))) (sum_by-cons h x xs) (sum_by-cons used_in y ys) here rest where
      three : (P Q R p q r u v w n : ℕ) → P ≡ p + u → Q ≡ q + v → R ≡ r + w → p + q + r ≡ 1 → u + v + w ≡ n → P + Q + R ≡ suc n
      three P Q R p q r u v w n e1 e2 e3 e4 e5 = omega arith

module _ (g : Geometry) (bs : List Block) (own : Owners) (c : Cat) (s : Spells g bs own c) where
  -- a file has as many numbers as header slots
  file_headers : (k : ℕ) → k < g.files → count_by (is_same_owner (InFile (k + 1))) own.numbers ≡ headers_at_place k (get_or c.files k (slot.Free 0))
  file_headers k lt =
      let is : IsFileNumber g (k + 1) = record { from = omega arith; to = omega arith } in
      let t = told g bs own c s (k + 1) is in
      let slots : List ℕ = (told_of g bs (k + 1)).slots in
      let back : k + 1 - 1 ≡ k = omega arith in
      counts_list (InFile (k + 1)) (map (λ (m : ℕ). m - 1) (told_of g bs (k + 1)).slots) own.numbers (places_once g bs (k + 1) (λ m has. ((t.slots m).0 has).0.from)) (λ q. (there q t, here q))
      ∙ length-map (told_of g bs (k + 1)).slots (λ (m : ℕ). m - 1)
      ∙ counted_slots g own bs (k + 1) (body_blocks bs (k + 1) (told_of g bs (k + 1))) (get_or c.files (k + 1 - 1) (slot.Free 0)) (low g bs own c s) (omega arith) t
      ∙ ap (λ j. headers_at_place j (get_or c.files j (slot.Free 0))) back
    where
      there : (q : ℕ) → Tells g own (k + 1) (told_of g bs (k + 1)) (body_blocks bs (k + 1) (told_of g bs (k + 1))) (get_or c.files (k + 1 - 1) (slot.Free 0))
          → Has (map (λ (m : ℕ). m - 1) (told_of g bs (k + 1)).slots) q → slice_get own.numbers q ≡ Some (InFile (k + 1))
      there q t has =
          let m = has_mapped (λ (m : ℕ). m - 1) (told_of g bs (k + 1)).slots q has in
          ap (slice_get own.numbers) (sym m.2) ∙ ((t.slots m.0).0 m.1).1

      here : (q : ℕ) → slice_get own.numbers q ≡ Some (InFile (k + 1)) → Has (map (λ (m : ℕ). m - 1) (told_of g bs (k + 1)).slots) q
      here q e =
          let back : q + 1 - 1 ≡ q = omega arith in
          subst (λ (j : ℕ). Has (map (λ (m : ℕ). m - 1) (told_of g bs (k + 1)).slots) j) back (has_map (λ (m : ℕ). m - 1) (told_of g bs (k + 1)).slots (q + 1) (number_slot g bs own c s q (k + 1) e).1)

  -- the numbers of the files 1 to 11 are theirs alone
  first_belows : (k : ℕ) → k ≤ 11 → sum_by (below k) own.numbers ≡ sum_by used_in (take k c.files)
  first_belows zero le = below_none own.numbers
  first_belows (suc k) le =
      let from = s.counts.geometry.files_from in
      let slots = s.counts.slots in
      let next : suc k ≡ k + 1 = omega arith in
      let all = sum_add (below (k + 1)) (below k) (λ o. cond (is_same_owner (InFile (k + 1)) o) 1 0) (below_more k) own.numbers in
      let first : nat_lt k 11 ≡ true = grind (arith, nat_tests) in
      let x = get_or c.files k (slot.Free 0) in
      let mine : count_by (is_same_owner (InFile (k + 1))) own.numbers ≡ used_in x + 0 = file_headers k (omega arith) ∙ ap (λ b. used_in x + cond b 0 (extra_in x)) first in
      let before = first_belows k (omega arith) in
      let more : sum_by used_in (take (k + 1) c.files) ≡ sum_by used_in (take k c.files) + used_in x = sum_by_more used_in c.files k (slot.Free 0) (omega arith) in
      rw next (omega (arith, all, mine, before, more))

  -- and those of the others are one for each, and those of their extension headers
  belows : (j : ℕ) → 11 + j ≤ g.files → sum_by (below (11 + j)) own.numbers ≡ sum_by used_in (take (11 + j) c.files) + sum_by extra_in (take j (drop 11 c.files))
  belows zero le = let e = first_belows 11 (omega arith) in omega (arith, e)
  belows (suc j) le =
      let slots = s.counts.slots in
      let k : ℕ = 11 + j in
      let next : 11 + suc j ≡ 11 + j + 1 = omega arith in
      let step : suc j ≡ j + 1 = omega arith in
      let all = sum_add (below (11 + j + 1)) (below (11 + j)) (λ o. cond (is_same_owner (InFile (11 + j + 1)) o) 1 0) (below_more (11 + j)) own.numbers in
      let later : nat_lt (11 + j) 11 ≡ false = grind (arith, nat_tests) in
      let x = get_or c.files (11 + j) (slot.Free 0) in
      let mine : count_by (is_same_owner (InFile (11 + j + 1))) own.numbers ≡ used_in x + extra_in x = file_headers (11 + j) (omega arith) ∙ ap (λ b. used_in x + cond b 0 (extra_in x)) later in
      let before = belows j (omega arith) in
      let more : sum_by used_in (take (11 + j + 1) c.files) ≡ sum_by used_in (take (11 + j) c.files) + used_in x = sum_by_more used_in c.files (11 + j) (slot.Free 0) (omega arith) in
      let long : length (drop 11 c.files) ≡ length c.files - 11 = length-drop 11 c.files in
      let extras : sum_by extra_in (take (j + 1) (drop 11 c.files)) ≡ sum_by extra_in (take j (drop 11 c.files)) + extra_in x =
      sum_by_more extra_in (drop 11 c.files) j (slot.Free 0) (omega arith) ∙ ap (λ y. sum_by extra_in (take j (drop 11 c.files)) + extra_in y) (get_or-drop 11 c.files j (slot.Free 0)) in
      rw (next, step) (omega (arith, all, mine, before, more, extras))

  -- a number is free, leaked or has a first header
  number_kind : (i : ℕ) → i < length own.numbers → cond (is_free_number c (1 + i)) 1 0 + cond (is_same_owner Leaked (get_or own.numbers i Free)) 1 0 + used_in (get_or c.files i (slot.Free 0)) ≡ 1
  number_kind i lt = by_slot (get_or c.files i (slot.Free 0)) refl where
    is : IsFileNumber g (1 + i)
    is = let n = s.counts.numbers in record { from = omega arith; to = omega arith }

    at : slice_get c.files i ≡ Some (get_or c.files i (slot.Free 0))
    at = let n = s.counts.numbers in let m = s.counts.slots in slice_get-get_or c.files i (slot.Free 0) (omega arith)

    back : 1 + i - 1 ≡ i
    back = omega arith

    slot_is : slot_at c (1 + i) ≡ Some (get_or c.files i (slot.Free 0))
    slot_is = let z : (1 + i == 0) ≡ false = grind (arith, nat_tests) in ap (λ b. cond b None (slice_get c.files (1 + i - 1))) z ∙ ap (slice_get c.files) back ∙ at

    leaked : is_leaked c (1 + i) ≡ is_same_owner Leaked (get_or own.numbers i Free)
    leaked =
        ap (λ ls. is_set (slice_get ls (1 + i - 1))) s.owners.leaked_numbers ∙ ap (λ k. is_set (slice_get (map (is_same_owner Leaked) own.numbers) k)) back
        ∙ ap is_set (slice_get-map (is_same_owner Leaked) own.numbers i ∙ ap (option_map (is_same_owner Leaked)) (slice_get-get_or own.numbers i Free lt))

    by_leaked : (b : Bool) → cond (true && not b) 1 0 + cond b 1 0 + 0 ≡ 1
    by_leaked true = refl
    by_leaked false = refl

    used : (f : File) → get_or c.files i (slot.Free 0) ≡ slot.Used f → is_same_owner Leaked (get_or own.numbers i Free) ≡ false
    used f e =
        let t = told g bs own c s (1 + i) is in
        let there : slot_with g.cluster (1 + i) (told_of g bs (1 + i)).head (body_blocks bs (1 + i) (told_of g bs (1 + i))) ≡ slot.Used f = t.slot ∙ ap (λ k. get_or c.files k (slot.Free 0)) back ∙ e in
        let mine = (in_use g bs own c s (1 + i) is).0 (has_fields (1 + i) (told_of g bs (1 + i)).head (body_blocks bs (1 + i) (told_of g bs (1 + i))) f there) in
        let owner : Some (get_or own.numbers i Free) ≡ Some (InFile (1 + i)) = sym (slice_get-get_or own.numbers i Free lt) ∙ ap (slice_get own.numbers) (sym back) ∙ mine in
        ap (is_same_owner Leaked) (let same : get_or own.numbers i Free ≡ InFile (1 + i) = cc in same) ∙ of_file (1 + i)
      where
        has_fields : (n : ℕ) (r : Result Head HeaderFault) (blocks : List Block) (f : File) → slot_with g.cluster n r blocks ≡ slot.Used f → is_some (fields_in r) ≡ true
        has_fields n (Ok (head.Used h)) blocks f e = refl
        has_fields n (Ok (head.Free seq)) blocks f e = absurd (cc)
        has_fields n (Err fault) blocks f e = absurd (cc)

    by_slot : (x : Slot) → get_or c.files i (slot.Free 0) ≡ x → cond (is_free_number c (1 + i)) 1 0 + cond (is_same_owner Leaked (get_or own.numbers i Free)) 1 0 + used_in (get_or c.files i (slot.Free 0)) ≡ 1
    by_slot (slot.Used f) e =
        let no : is_free_slot (slot_at c (1 + i)) ≡ false = ap is_free_slot (slot_is ∙ ap (λ x. Some x) e) in
        rw (no, used f e, e) refl
    by_slot (slot.Free seq) e =
        let yes : is_free_slot (slot_at c (1 + i)) ≡ true = ap is_free_slot (slot_is ∙ ap (λ x. Some x) e) in
        rw (yes, leaked, e) (by_leaked (is_same_owner Leaked (get_or own.numbers i Free)))

  pub adds : free_count c ≡ count_by (is_same_owner Free) own.numbers + count_by is_outside own.numbers
  adds =
      let from = s.counts.geometry.files_from in
      let slots = s.counts.slots in
      let numbers = s.counts.numbers in
      let same : length c.files ≡ length own.numbers = omega arith in
      let whole : 11 + (g.files - 11) ≡ g.files = omega arith in
      let long : length (drop 11 c.files) ≡ length c.files - 11 = length-drop 11 c.files in
      let owners = all_each (11 + (g.files - 11)) own.numbers (λ q n at. let k = s.owners.known_numbers q n at in (k.from, subst (λ (j : ℕ). n ≤ j) (sym whole) k.to)) in
      let files = belows (g.files - 11) (omega arith) in
      let front : take (11 + (g.files - 11)) c.files ≡ c.files = take_all (11 + (g.files - 11)) c.files (omega arith) in
      let back : take (g.files - 11) (drop 11 c.files) ≡ drop 11 c.files = take_all (g.files - 11) (drop 11 c.files) (omega arith) in
      let free = one_each (is_free_number c) own.numbers c.files 1 same number_kind in
      let range : count_by (is_free_number c) (range_with_len 1 (length c.files)) ≡ count_by (is_free_number c) (range_with_len 1 (length own.numbers)) = ap (λ k. count_by (is_free_number c) (range_with_len 1 k)) same in
      taken _ _ _ _ _ _ _ _ _ range free owners (files ∙ ap (λ xs. sum_by used_in xs + sum_by extra_in (take (g.files - 11) (drop 11 c.files))) front ∙ ap (λ xs. sum_by used_in c.files + sum_by extra_in xs) back) where
        taken : (n a b f o l u h v : ℕ) → a ≡ b → b + l + u ≡ n → n ≡ f + o + l + v → v ≡ u + h → a - h ≡ f + o
        taken n a b f o l u h v e1 e2 e3 e4 = omega arith

pub numbers_add_up : NumbersAddUp
numbers_add_up g bs own c s = adds g bs own c s
