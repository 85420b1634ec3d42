-- What is outside at a node, and what leaks.
use Rattle.std.proofs.Common.{suc, length-set, ◌≡◌, ◌≤◌, ◌+◌, ◌-◌, ◌==◌, ◌&&◌, ℕ, Bool, true, false, List, [], ◌∷◌, ◌++◌, Option, Some, None, length, map, slice_get, slice_set, get_or, refl, sym, ap, subst, ◌∙◌, inl, inr, arith, cond}
use Rattle.std.specs.Prelude.{◌↔◌, count_by, Result, Ok, Err, is_some, option_map, not}
use Rattle.std.specs.List.{list_all}
use Rattle.std.proofs.lemmas.Bool.Decides.{nat_tests}
use Rattle.std.proofs.lemmas.List.{map-set, length-map}
use Rattle.std.proofs.lemmas.List.Sums.{sum_by-cons}
use Rattle.std.proofs.lemmas.Option.{slice_get_within, slice_get-get_or, slice_get-map}
use Rattle.base_words.specs.Fields.{Block}
use Rattle.fx_header.specs.declared.slot.Slot.{Slot as Head}
use Rattle.fx_header.specs.declared.slot.Slot.TheVariants as head
use Rattle.fx_header.specs.declared.slot.HeaderFault.{HeaderFault}
use Rattle.plain_cat.specs.declared.cat.Cat.{Cat}
use Rattle.plain_cat.specs.declared.cat.Slot.{Slot}
use Rattle.plain_cat.specs.declared.cat.Slot.TheVariants as slot
use Rattle.plain_rules.specs.Lookups.{is_free_slot, is_set, is_free_number, free_clusters, free_count}
use Rattle.plain_rules.specs.Replaying.{flagged}
use Rattle.vol_spell.specs.declared.owner.Owner.{Owner}
use Rattle.vol_spell.specs.declared.owner.Owner.TheVariants.{Free, InFile, Outside, Leaked}
use Rattle.base_words.specs.Lists.{Has, Once, written, Touches}
use Rattle.vol_spell.specs.Owners.{Owners, Things, Outs}
use Rattle.vol_spell.specs.Hands.{handed, AreOf}
use Rattle.vol_spell.specs.Counts.{is_same_owner}
use Rattle.base_words.proofs.Listing.{has_parted, has_first, has_second, has_map, has_mapped}
use Rattle.base_words.proofs.ListWrites.{touches_or_not, touched_alike, get-written_else, length-written}
use Rattle.vol_spell.proofs.Counting.{handing_counts, counts_list, out_counts}
use Rattle.vol_parts.specs.declared.geometry.Geometry.{Geometry}
use Rattle.vol_parts.specs.Volumes.{fields_in}
use Rattle.vol_parts.specs.Catalogues.{slot_with}
use Rattle.vol_spell.specs.Reading.{IsFileNumber, header_block, head_told, told_of, body_blocks}
use Rattle.vol_spell.specs.Spelling.{IsHead, Spells}
use Rattle.vol_spell.specs.Adding.{is_outside}
use Rattle.vol_spell.proofs.NumberAdds.{numbers_add_up}
use Rattle.vol_spell.proofs.Adds.{clusters_add_up}
use Rattle.vol_spell.proofs.Parts.{used_of}
use Rattle.vol_under.specs.Ending.{file_numbers, AreNumbersOf, OutsideMayLeak}
use Rattle.vol_under.specs.UnderWay.{together}

-- a header that is not in use tells a free slot
free_slot : (n factor : ℕ) (r : Result Head HeaderFault) (blocks : List Block) (s : Slot) → IsHead n r → (is_some (fields_in r) ≡ true → ⊥) → slot_with factor n r blocks ≡ s → is_free_slot (Some s) ≡ true
free_slot n factor (Ok (head.Used f)) blocks s h none e = absurd (none refl)
free_slot n factor (Ok (head.Free seq)) blocks s h none e = ap (λ (x : Slot). is_free_slot (Some x)) (sym e)
free_slot n factor (Err fault) blocks s h none e = absurd h

not_leaked : (o : Owner) (x : Option Owner) → is_same_owner Leaked o ≡ false → x ≡ Some o → is_set (option_map (is_same_owner Leaked) x) ≡ false
not_leaked o x never e = ap (λ (y : Option Owner). is_set (option_map (is_same_owner Leaked) y)) e ∙ never

both : (a b : Bool) → a ≡ true → b ≡ false → a && not b ≡ true
both true false e f = refl
both true true e f = absurd (let h : true ≡ false = f in cc)
both false b e f = absurd (let h : false ≡ true = e in cc)

-- a number that is no file's and is not leaked is a free number of the catalogue
pub number_free_of : (g : Geometry) (bs : List Block) (own : Owners) (c : Cat) (o : Owner) (i : ℕ) → ((m : ℕ) → o ≡ InFile m → ⊥) → is_same_owner Leaked o ≡ false → Spells g bs own c → slice_get own.numbers i ≡ Some o → is_free_number c (i + 1) ≡ true
number_free_of g bs own c o i no_file no_leak s at =
    let lt = slice_get_within own.numbers i o at in
    let owners : length own.numbers ≡ g.files = s.counts.numbers in
    let slots : length c.files ≡ g.files = s.counts.slots in
    let back : i + 1 - 1 ≡ i = omega arith in
    let some : (i + 1 == 0) ≡ false = grind (arith, nat_tests) in
    let number : IsFileNumber g (i + 1) = record { from = omega arith; to = omega arith } in
    let here : slice_get c.files i ≡ Some (get_or c.files i (slot.Free 0)) = slice_get-get_or c.files i (slot.Free 0) (omega arith) in
    let t = s.files (i + 1) (get_or c.files i (slot.Free 0)) number (ap (λ k. slice_get c.files k) back ∙ here) in
    let free : is_free_slot (Some (get_or c.files i (slot.Free 0))) ≡ true = free_slot (i + 1) g.cluster (head_told (header_block g bs (i + 1))) (body_blocks bs (i + 1) (told_of g bs (i + 1))) (get_or c.files i (slot.Free 0)) t.reads
    (λ used. no_file (i + 1) (let e : Some o ≡ Some (InFile (i + 1)) = sym at ∙ ap (λ k. slice_get own.numbers k) (sym back) ∙ (used_of g own bs (i + 1) (body_blocks bs (i + 1) (told_of g bs (i + 1))) (get_or c.files i (slot.Free 0)) number t).0 used in cc)) t.slot in
    let leaked : is_set (slice_get c.leaked_numbers i) ≡ false =
    ap (λ (xs : List Bool). is_set (slice_get xs i)) s.owners.leaked_numbers ∙ ap is_set (slice_get-map (is_same_owner Leaked) own.numbers i) ∙ not_leaked o (slice_get own.numbers i) no_leak at in
    both _ _ (ap (λ (b : Bool). is_free_slot (cond b None (slice_get c.files (i + 1 - 1)))) some ∙ ap (λ k. is_free_slot (slice_get c.files k)) back ∙ ap is_free_slot here ∙ free)
    (ap (λ k. is_set (slice_get c.leaked_numbers k)) back ∙ leaked)

-- so is one that is outside at a node
pub number_free : (g : Geometry) (bs : List Block) (own : Owners) (c : Cat) (n i : ℕ) → Spells g bs own c → slice_get own.numbers i ≡ Some (Outside n) → is_free_number c (i + 1) ≡ true
unfolding is_same_owner
number_free g bs own c n i s at = number_free_of g bs own c (Outside n) i (λ m e. absurd (cc)) refl s at

all_free : (c : Cat) (ns : List ℕ) → ((n : ℕ) → Has ns n → is_free_number c n ≡ true) → list_all (is_free_number c) ns ≡ true
all_free c [] h = refl
all_free c (n ∷ ns) h = ap (λ (b : Bool). b && list_all (is_free_number c) ns) (h n (inl refl)) ∙ all_free c ns (λ m t. h m (inr t))

adds_less : (a b s t x y : ℕ) → x ≡ a + s → y ≡ b + t → a ≤ b → s ≤ t → x ≤ y
adds_less a b s t x y e f h k = omega arith

count_less : (p q : Owner → Bool) (xs : List Owner) → ((o : Owner) → p o ≡ true → q o ≡ true) → count_by p xs ≤ count_by q xs
count_less p q [] h = omega arith
count_less p q (x ∷ xs) h =
    let f : Owner → ℕ = λ o. cond (p o) 1 0 in
    let k : Owner → ℕ = λ o. cond (q o) 1 0 in
    adds_less (f x) (k x) (count_by p xs) (count_by q xs) _ _ (sum_by-cons f x xs) (sum_by-cons k x xs) (by_test (p x) refl) (count_less p q xs h) where
      by_test : (b : Bool) → p x ≡ b → cond {A = ℕ} (p x) 1 0 ≤ cond {A = ℕ} (q x) 1 0
      by_test true e = rw (e, h x e) (omega arith)
      by_test false e = rw e (omega arith)

outside_is : (n : ℕ) (o : Owner) → is_same_owner (Outside n) o ≡ true → is_outside o ≡ true
unfolding is_same_owner is_outside
outside_is n Free e = e
outside_is n (InFile i) e = e
outside_is n (Outside m) e = refl
outside_is n Leaked e = e

some_of : (k f a b : ℕ) → f ≡ a + b → k ≤ b → k ≤ f
some_of k f a b e h = omega arith

-- ---- as many numbers

-- the numbers outside at a node are no more than there are to take
pub numbers_out : (g : Geometry) (bs : List Block) (own : Owners) (c : Cat) (n : ℕ) → Spells g bs own c → count_by (is_same_owner (Outside n)) own.numbers ≤ free_count c
numbers_out g bs own c n s =
    some_of (count_by (is_same_owner (Outside n)) own.numbers) (free_count c) (count_by (is_same_owner Free) own.numbers) (count_by is_outside own.numbers)
    (numbers_add_up g bs own c s) (count_less (is_same_owner (Outside n)) is_outside own.numbers (outside_is n))

-- the places of numbers that stand once stand once
places_once : (ns : List ℕ) → Once ns → ((n : ℕ) → Has ns n → 1 ≤ n) → Once (map (λ n. n - 1) ns)
places_once [] once low = tt
places_once (n ∷ ns) once low = (
  (λ t.
      let h = has_mapped (λ m. m - 1) ns (n - 1) t in
      let back : h.0 - 1 ≡ n - 1 = h.2 in
      let a = low n (inl refl) in
      let b = low h.0 (inr h.1) in
      let same : h.0 ≡ n = omega arith in
      once.0 (subst (λ (k : ℕ). Has ns k) same h.1)),
  places_once ns once.1 (λ m t. low m (inr t)),
)

numbers_once : (ps : List ℕ) → Once ps → Once (map (λ i. i + 1) ps)
numbers_once [] once = tt
numbers_once (p ∷ ps) once = (
  (λ t.
      let h = has_mapped (λ i. i + 1) ps (p + 1) t in
      let next : h.0 + 1 ≡ p + 1 = h.2 in
      let same : h.0 ≡ p = omega arith in
      once.0 (subst (λ (k : ℕ). Has ps k) same h.1)),
  numbers_once ps once.1,
)

-- the file numbers among things, as they stand there
pub numbers_all : (t : Things) → Once t.numbers → AreNumbersOf (file_numbers t) t
numbers_all t once = record { same = λ n. ((λ h. h), (λ h. h)); once = numbers_once t.numbers once }

-- as many numbers as are outside at a node
numbers_long : (own : Owners) (n : ℕ) (took stock : Things) (ns : List ℕ) → Outs n own took stock → AreNumbersOf ns (together took stock) → length ns ≡ count_by (is_same_owner (Outside n)) own.numbers
numbers_long own n took stock ns outs are = sym (counts_list (Outside n) (map (λ m. m - 1) ns) own.numbers (places_once ns are.once above) at ∙ length-map ns (λ m. m - 1)) where
  all : List ℕ
  all = took.numbers ++ stock.numbers

  above : (m : ℕ) → Has ns m → 1 ≤ m
  above m t = let h = has_mapped (λ i. i + 1) all m ((are.same m).0 t) in let e = h.2 in omega arith

  out : (i : ℕ) → Has all i → slice_get own.numbers i ≡ Some (Outside n)
  out i t = (outs.numbers.all i).1 (has_parted took.numbers stock.numbers i t)

  among : (i : ℕ) → slice_get own.numbers i ≡ Some (Outside n) → Has all i
  among i e = elim ((outs.numbers.all i).0 e) [ inl t ↦ has_first took.numbers stock.numbers i t | inr t ↦ has_second took.numbers stock.numbers i t ]

  at : (q : ℕ) → Has (map (λ m. m - 1) ns) q ↔ (slice_get own.numbers q ≡ Some (Outside n))
  at q = (
    (λ t.
        let h = has_mapped (λ m. m - 1) ns q t in
        let k = has_mapped (λ i. i + 1) all h.0 ((are.same h.0).0 h.1) in
        let e : h.0 - 1 ≡ q = h.2 in
        let f : k.0 + 1 ≡ h.0 = k.2 in
        let same : k.0 ≡ q = omega arith in
        subst (λ (i : ℕ). slice_get own.numbers i ≡ Some (Outside n)) same (out k.0 k.1)),
    (λ e.
        let back : q + 1 - 1 ≡ q = omega arith in
        subst (λ (i : ℕ). Has (map (λ m. m - 1) ns) i) back (has_map (λ m. m - 1) ns (q + 1) ((are.same (q + 1)).1 (has_map (λ i. i + 1) all q (among q e))))),
  )

pub outside_may_leak : OutsideMayLeak
outside_may_leak g bs own c n took stock ns s outs are =
    let counted : count_by (is_same_owner (Outside n)) own.clusters ≡ length (took.clusters ++ stock.clusters) = out_counts n took.clusters stock.clusters own.clusters outs.clusters in
    let less : count_by (is_same_owner (Outside n)) own.clusters ≤ count_by is_outside own.clusters = count_less (is_same_owner (Outside n)) is_outside own.clusters (outside_is n) in
    let all = (clusters_add_up g bs own c s).free in (
      some_of (length (took.clusters ++ stock.clusters)) (free_clusters c) _ (count_by is_outside own.clusters) all (subst (λ (k : ℕ). k ≤ count_by is_outside own.clusters) counted less),
      all_free c ns (λ m t.
          let h = has_mapped (λ i. i + 1) (took.numbers ++ stock.numbers) m ((are.same m).0 t) in
          subst (λ (k : ℕ). is_free_number c k ≡ true) h.2 (number_free g bs own c n h.0 s ((outs.numbers.all h.0).1 (has_parted took.numbers stock.numbers h.0 h.1)))),
      subst (λ (k : ℕ). k ≤ free_count c) (sym (numbers_long own n took stock ns outs are)) (numbers_out g bs own c n s),
    )

-- each thing that goes to the leaks counts one more
pub leaks_count : (n : ℕ) (qs : List ℕ) (xs : List Owner) → Once qs → AreOf qs (Outside n) xs → count_by (is_same_owner Leaked) (handed qs Leaked xs) ≡ count_by (is_same_owner Leaked) xs + length qs
unfolding is_same_owner
leaks_count n qs xs once at =
    let e : count_by (is_same_owner Leaked) (handed qs Leaked xs) + 0 ≡ count_by (is_same_owner Leaked) xs + length qs = handing_counts (is_same_owner Leaked) qs (Outside n) Leaked xs once at in
    plain _ _ e where
      plain : (a b : ℕ) → a + 0 ≡ b → a ≡ b
      plain a b e = omega arith

-- a number's flag is set
flag_writes : List ℕ → List (ℕ × Bool)
flag_writes ns = map (λ n. (n - 1, true)) ns

flagged_is : (ns : List ℕ) (flags : List Bool) → flagged flags ns ≡ written (flag_writes ns) flags
unfolding flag_writes
flagged_is [] flags = refl
flagged_is (n ∷ ns) flags = flagged_is ns (slice_set flags (n - 1) true)

flag_touched : (ns : List ℕ) (l : ℕ) → Touches (flag_writes ns) l → (n : ℕ) × Has ns n × (n - 1 ≡ l)
unfolding flag_writes
flag_touched [] l t = absurd t
flag_touched (n ∷ ns) l (inl e) = (n, inl refl, e)
flag_touched (n ∷ ns) l (inr t) = let h = flag_touched ns l t in (h.0, inr h.1, h.2)

flag_touches : (ns : List ℕ) (n : ℕ) → Has ns n → Touches (flag_writes ns) (n - 1)
unfolding flag_writes
flag_touches [] n t = absurd t
flag_touches (m ∷ ns) n (inl e) = inl (ap (λ k. k - 1) e)
flag_touches (m ∷ ns) n (inr t) = inr (flag_touches ns n t)

flag_here : (ns : List ℕ) (flags : List Bool) (l : ℕ) → Touches (flag_writes ns) l → slice_get (written (flag_writes ns) flags) l ≡ slice_get (slice_set flags l true) l
unfolding flag_writes
flag_here [] flags l t = absurd t
flag_here (n ∷ ns) flags l t = elim (touches_or_not (flag_writes ns) l) [
  | inl u ↦ flag_here ns (slice_set flags (n - 1) true) l u ∙ touched_alike ((l, true) ∷ []) (slice_set flags (n - 1) true) flags l (length-set flags (n - 1) true) (inl refl)
  | inr f ↦ get-written_else (flag_writes ns) (slice_set flags (n - 1) true) l f ∙ here (elim t [ inl e ↦ e | inr u ↦ absurd (f u) ])
] where
  here : n - 1 ≡ l → slice_get (slice_set flags (n - 1) true) l ≡ slice_get (slice_set flags l true) l
  here e = ap (λ k. slice_get (slice_set flags k true) l) e

pub lists_same : {A : Type 0} (xs ys : List A) → length xs ≡ length ys → ((l : ℕ) → slice_get xs l ≡ slice_get ys l) → xs ≡ ys
lists_same [] [] len h = refl
lists_same [] (y ∷ ys) len h = absurd (omega arith)
lists_same (x ∷ xs) [] len h = absurd (omega arith)
lists_same (x ∷ xs) (y ∷ ys) len h =
    let first : x ≡ y = (let e : Some x ≡ Some y = h 0 in cc) in
    let rest : xs ≡ ys = lists_same xs ys (omega arith) (λ l. h (suc l)) in
    λ i. first i ∷ rest i

-- the same numbers in another order have the same flags
pub flagged_alike : (ns ms : List ℕ) (flags : List Bool) → ((n : ℕ) → Has ns n ↔ Has ms n) → flagged flags ns ≡ flagged flags ms
flagged_alike ns ms flags same =
    flagged_is ns flags ∙ lists_same (written (flag_writes ns) flags) (written (flag_writes ms) flags) (length-written (flag_writes ns) flags ∙ sym (length-written (flag_writes ms) flags)) at ∙ sym (flagged_is ms flags) where
      there : (l : ℕ) → Touches (flag_writes ns) l → Touches (flag_writes ms) l
      there l t = let h = flag_touched ns l t in subst (λ (k : ℕ). Touches (flag_writes ms) k) h.2 (flag_touches ms h.0 ((same h.0).0 h.1))

      back : (l : ℕ) → Touches (flag_writes ms) l → Touches (flag_writes ns) l
      back l t = let h = flag_touched ms l t in subst (λ (k : ℕ). Touches (flag_writes ns) k) h.2 (flag_touches ns h.0 ((same h.0).1 h.1))

      at : (l : ℕ) → slice_get (written (flag_writes ns) flags) l ≡ slice_get (written (flag_writes ms) flags) l
      at l = elim (touches_or_not (flag_writes ns) l) [
        | inl t ↦ flag_here ns flags l t ∙ sym (flag_here ms flags l (there l t))
        | inr f ↦ get-written_else (flag_writes ns) flags l f ∙ sym (get-written_else (flag_writes ms) flags l (λ t. f (back l t)))
      ]

flag_set : (xs : List Owner) (q : ℕ) → map (is_same_owner Leaked) (slice_set xs q Leaked) ≡ slice_set (map (is_same_owner Leaked) xs) (q + 1 - 1) true
unfolding is_same_owner
flag_set xs q = let back : q + 1 - 1 ≡ q = omega arith in rw back (map-set (is_same_owner Leaked) xs q Leaked)

-- and is flagged
pub leaks_flagged : (qs : List ℕ) (xs : List Owner) → map (is_same_owner Leaked) (handed qs Leaked xs) ≡ flagged (map (is_same_owner Leaked) xs) (map (λ i. i + 1) qs)
leaks_flagged [] xs = refl
leaks_flagged (q ∷ qs) xs = leaks_flagged qs (slice_set xs q Leaked) ∙ ap (λ (fs : List Bool). flagged fs (map (λ i. i + 1) qs)) (flag_set xs q)
