-- What a write of one block leaves.
use Rattle.std.proofs.Common.{◌≡◌, ◌≢◌, ◌<◌, ◌≤◌, ◌+◌, ◌*◌, ◌-◌, ◌/◌, ◌%◌, ◌⊎◌, ℕ, zero, suc, Bool, true, false, List, [], ◌∷◌, Option, Some, None, length, take, slice_get, slice_set, refl, sym, ap, subst, ◌∙◌, inl, inr, arith, get_or-set_other, mul-le-mul_left, cond}
use Rattle.std.proofs.lemmas.Bool.Decides.{nat_tests}
use Rattle.fx_home.specs.Homes.{home_read, scb_read}
use Rattle.fx_bitmap.specs.Bits.{bit_at}
use Rattle.vol_parts.specs.Fatal.{is_system_header}
use Rattle.std.specs.Prelude.{Ok, ◌↔◌, flat_map, sum_by}
use Rattle.std.proofs.lemmas.Option.{slice_get_within}
use Rattle.std.proofs.lemmas.List.Sums.{sum_by-cons}
use Rattle.base_words.specs.Fields.{Block}
use Rattle.fx_header.specs.declared.run.Run.{Run}
use Rattle.fx_header.specs.Headers.{header_read}
use Rattle.fx_header.specs.Pointers.{blocks_in, lbns_in}
use Rattle.plain_cat.specs.declared.cat.Cat.{Cat}
use Rattle.plain_cat.specs.declared.cat.Slot.{Slot}
use Rattle.plain_rules.specs.Lookups.{clusters_in}
use Rattle.vol_spell.specs.declared.owner.Owner.{Owner}
use Rattle.vol_spell.specs.declared.owner.Owner.TheVariants.{Free, InFile}
use Rattle.base_words.specs.Lists.{Has, Once, Touches, written}
use Rattle.vol_spell.specs.Owners.{Owners}
use Rattle.base_words.proofs.Listing.{same_or_not}
use Rattle.base_words.proofs.ListWrites.{get-set_else, get-set_here}
use Rattle.vol_spell.proofs.Placing.{blocks_stay, has_ranged, index-set_here}
use Rattle.vol_parts.specs.declared.geometry.Geometry.{Geometry}
use Rattle.vol_parts.specs.declared.geometry.Part.{Part}
use Rattle.vol_parts.specs.declared.geometry.Part.TheVariants.{Header, IndexBitmap, Storage, Quota}
use Rattle.vol_parts.specs.Parts.{part_of, storage_blocks}
use Rattle.vol_parts.specs.Volumes.{fields_in, Told, rows_in}
use Rattle.vol_parts.specs.Catalogues.{is_structure}
use Rattle.vol_spell.specs.Reading.{IsFileNumber, total_of, owner_at, header_place, header_block, told_of, body_places, body_blocks, cluster_bit, number_bit, quota_places, rows_told}
use Rattle.vol_spell.specs.Places.{file_of_part}
use Rattle.vol_spell.specs.Spelling.{size_in, Tells, IsStructure, HasStructures, IsHead, IsBlank, HasSlots, Spells, IsHomeOf}
use Rattle.vol_spell.specs.Bodies.{IsOfBody}
use Rattle.vol_spell.proofs.Runs.{lbns_once}
use Rattle.vol_spell.proofs.Heads.{told_stays}
use Rattle.vol_spell.proofs.Parts.{low, told, in_file, slot_number, not_slot, home_owned, control_owned, part_owned, part_owner}

structure_file : (p : Part) → is_structure (file_of_part p) ≡ true
structure_file (Header n) = refl
structure_file IndexBitmap = refl
structure_file (Storage k) = refl
structure_file (Quota k) = refl

-- ---- one file

-- and so where blocks are set, none of them in its header slots
pub told_kept : (g : Geometry) (ws : List (ℕ × Block)) (bs : List Block) (n : ℕ) → blocks_in (told_of g bs n).runs ≡ size_in (fields_in (told_of g bs n).head)
    → ((l : ℕ) → Touches ws l → (m : ℕ) → Has (n ∷ (told_of g bs n).slots) m → header_place g m ≢ l) → told_of g (written ws bs) n ≡ told_of g bs n
told_kept g [] bs n size away = refl
told_kept g (w ∷ ws) bs n size away =
    let one : told_of g (slice_set bs w.0 w.1) n ≡ told_of g bs n = told_stays g bs n w.0 w.1 size (away w.0 (inl refl)) in
    told_kept g ws (slice_set bs w.0 w.1) n (subst (λ (t : Told). blocks_in t.runs ≡ size_in (fields_in t.head)) (sym one) size)
    (λ l t m u. away l (inr t) m (subst (λ (x : Told). Has (n ∷ x.slots) m) one u)) ∙ one

-- a block that is set elsewhere leaves a file of which the same is told
pub file_kept : (g : Geometry) (own : Owners) (bs : List Block) (l : ℕ) (b : Block) (n : ℕ) (s : Slot) → told_of g (slice_set bs l b) n ≡ told_of g bs n → (Has (body_places n (told_of g bs n)) l → ⊥)
    → Tells g own n (told_of g bs n) (body_blocks bs n (told_of g bs n)) s
    → Tells g own n (told_of g (slice_set bs l b) n) (body_blocks (slice_set bs l b) n (told_of g (slice_set bs l b) n)) s
file_kept g own bs l b n s h away t =
    let P : Told → Type 0 = λ x. Tells g own n x (body_blocks (slice_set bs l b) n x) s in
    let R : List Block → Type 0 = λ xs. Tells g own n (told_of g bs n) xs s in
    subst P (sym h) (subst R (sym (blocks_stay bs l b (body_places n (told_of g bs n)) away)) t)

-- and what is told of a file, and its blocks, where it is set in none of its header slots
pub file_stays : (g : Geometry) (own : Owners) (bs : List Block) (l : ℕ) (b : Block) (n : ℕ) (s : Slot) → ((m : ℕ) → Has (n ∷ (told_of g bs n).slots) m → header_place g m ≢ l)
    → (Has (body_places n (told_of g bs n)) l → ⊥)
    → Tells g own n (told_of g bs n) (body_blocks bs n (told_of g bs n)) s
    → Tells g own n (told_of g (slice_set bs l b) n) (body_blocks (slice_set bs l b) n (told_of g (slice_set bs l b) n)) s
file_stays g own bs l b n s other away t = file_kept g own bs l b n s (told_stays g bs n l b t.size other) away t

-- what a file tells stays where what it owns stays
pub tells_on : (g : Geometry) (own new : Owners) (n : ℕ) (h : Told) (blocks : List Block) (s : Slot)
    → ((q : ℕ) → (slice_get new.clusters q ≡ Some (InFile n)) ↔ (slice_get own.clusters q ≡ Some (InFile n)))
    → ((i : ℕ) → (slice_get new.numbers i ≡ Some (InFile n)) ↔ (slice_get own.numbers i ≡ Some (InFile n)))
    → Tells g own n h blocks s → Tells g new n h blocks s
tells_on g own new n h blocks s cs ns t = record {
  reads = t.reads;
  whole = t.whole;
  once = t.once;
  runs = λ q. ((λ u. (cs q).1 ((t.runs q).0 u)), (λ e. (t.runs q).1 ((cs q).0 e)));
  few = t.few;
  split = t.split;
  system = t.system;
  slots = λ m. ((λ u. let x = (t.slots m).0 u in (x.0, (ns (m - 1)).1 x.1)), (λ x. (t.slots m).1 (x.0, (ns (m - 1)).0 x.1)));
  size = t.size;
  dir = t.dir;
  slot = t.slot;
}

pub structure_stays : (g : Geometry) (bs bs' : List Block) (n : ℕ) (r : Run) → told_of g bs' n ≡ told_of g bs n → IsStructure g bs n r → IsStructure g bs' n r
structure_stays g bs bs' n r h st = record { header = ap (λ (t : Told). is_system_header n (fields_in t.head)) h ∙ st.header; run = ap (λ (t : Told). t.runs) h ∙ st.run }

-- the whole is there after a write elsewhere than to the home block and the storage control block, where each of the files is
pub structures_set : (g : Geometry) (bs : List Block) (l : ℕ) (b : Block) → 1 ≢ l → g.bitmap_lbn ≢ l → ((n : ℕ) (r : Run) → is_structure n ≡ true → IsStructure g bs n r → IsStructure g (slice_set bs l b) n r)
    → HasStructures g bs → HasStructures g (slice_set bs l b)
structures_set g bs l b home control each st =
    let P : Block → Type 0 = λ x. IsHomeOf g (home_read x) in
    let R : Block → Type 0 = λ x. scb_read x ≡ Ok (record { cluster = g.cluster; blocks = g.blocks }) in
    record {
      home = subst P (sym (get_or-set_other bs l 1 b [] home)) st.home;
      control = subst R (sym (get_or-set_other bs l g.bitmap_lbn b [] control)) st.control;
      index = each 1 _ refl st.index;
      bitmap = each 2 _ refl st.bitmap;
      quota = each 10 _ refl st.quota;
    }

pub structures_stay : (g : Geometry) (bs : List Block) (l : ℕ) (b : Block) → 1 ≢ l → g.bitmap_lbn ≢ l → ((n : ℕ) → is_structure n ≡ true → told_of g (slice_set bs l b) n ≡ told_of g bs n) → HasStructures g bs → HasStructures g (slice_set bs l b)
structures_stay g bs l b home control told st = structures_set g bs l b home control (λ n r is s. structure_stays g bs (slice_set bs l b) n r (told n is) s) st

-- ---- header slots

-- a block that is set in no header slot leaves them, where the slots of the numbers that are free then are free
pub slots_stay : (g : Geometry) (bs : List Block) (own new : Owners) (l : ℕ) (b : Block) → ((m : ℕ) → IsFileNumber g m → header_place g m ≢ l)
    → ((m : ℕ) → IsFileNumber g m → slice_get new.numbers (m - 1) ≡ Some Free → IsBlank (header_block g bs m)) → HasSlots g bs own → HasSlots g (slice_set bs l b) new
slots_stay g bs own new l b apart blank h =
    let same : (m : ℕ) → IsFileNumber g m → header_block g (slice_set bs l b) m ≡ header_block g bs m = λ m is. get_or-set_other bs l (header_place g m) b [] (apart m is) in
    record {
      heads = λ m is. subst (λ (x : Block). IsHead m (header_read x)) (sym (same m is)) (h.heads m is);
      blank = λ m is e. subst (λ (x : Block). IsBlank x) (sym (same m is)) (blank m is e);
    }

-- one that is set in a header slot is the header of its number, and free where the number is free
pub slots_set : (g : Geometry) (bs : List Block) (own new : Owners) (m : ℕ) (b : Block) → header_place g m < length bs → IsHead m (header_read b) → (slice_get new.numbers (m - 1) ≡ Some Free → IsBlank b)
    → ((k : ℕ) → slice_get new.numbers k ≡ Some Free → slice_get own.numbers k ≡ Some Free)
    → HasSlots g bs own → HasSlots g (slice_set bs (header_place g m) b) new
slots_set g bs own new m b lt head free old h = record {
  heads = λ k is. at k (λ (x : Block). IsHead k (header_read x)) (λ e. subst (λ (j : ℕ). IsHead j (header_read b)) (sym e) head) (λ ne. h.heads k is);
  blank = λ k is e. at k (λ (x : Block). IsBlank x) (λ same. free (ap (λ j. slice_get new.numbers (j - 1)) (sym same) ∙ e)) (λ ne. h.blank k is (old (k - 1) e));
} where
  at : (k : ℕ) (P : Block → Type 0) → (k ≡ m → P b) → (k ≢ m → P (header_block g bs k)) → P (header_block g (slice_set bs (header_place g m) b) k)
  at k P here there = elim (same_or_not k m) [
    | inl e ↦ subst P (sym (ap (λ j. header_block g (slice_set bs (header_place g m) b) j) e ∙ index-set_here bs (header_place g m) b lt)) (here e)
    | inr ne ↦ subst P (sym (get_or-set_other bs (header_place g m) (header_place g k) b [] (let f : header_place g k ≢ header_place g m = (λ e. ne (omega arith)) in f))) (there ne)
  ]

-- ---- owners and places

-- places of different owners are not one
pub apart_by : (g : Geometry) (own : Owners) (k l : ℕ) (o p : Owner) → owner_at g own k ≡ Some o → owner_at g own l ≡ Some p → o ≢ p → k ≢ l
apart_by g own k l o p a b ne e =
    let h : owner_at g own k ≡ owner_at g own l = ap (λ x. owner_at g own x) e in
    ne (let f : Some o ≡ Some p = sym a ∙ h ∙ b in cc)

module _ (g : Geometry) (bs : List Block) (own : Owners) (c : Cat) (s : Spells g bs own c) where
  -- a place with an owner is on the volume
  pub on_volume : (l : ℕ) (o : Owner) → owner_at g own l ≡ Some o → l < length bs
  on_volume l o at =
      let a : l / g.cluster < length own.clusters = slice_get_within own.clusters (l / g.cluster) o at in
      let b = s.counts.clusters in
      let e = s.counts.blocks in
      let d = low g bs own c s in
      within l g.cluster g.blocks (length own.clusters) (length bs) d a b e where
        within : (l f k t n : ℕ) → 1 ≤ f → l / f < t → t ≡ k / f → n ≡ k → l < n
        within l f k t n d a b e =
            let h : l / f < k / f = omega arith in
            let m : f * (l / f + 1) ≤ f * (k / f) = mul-le-mul_left f (omega arith) in
            omega arith

  -- a block of a file's slot lies in its clusters
  pub body_owned : (n l : ℕ) → IsFileNumber g n → Has (body_places n (told_of g bs n)) l → (is_structure n ≡ false) × (owner_at g own l ≡ Some (InFile n))
  body_owned n l is t = by_kind (is_structure n) refl where
    by_kind : (k : Bool) → is_structure n ≡ k → (is_structure n ≡ false) × (owner_at g own l ≡ Some (InFile n))
    by_kind true e = let R : Bool → Type 0 = λ x. Has (cond x [] (lbns_in (told_of g bs n).runs)) l in absurd (subst R e t)
    by_kind false e = let R : Bool → Type 0 = λ x. Has (cond x [] (lbns_in (told_of g bs n).runs)) l in (e, in_file g bs own c s n l is (subst R e t))

  -- and is no part of the volume
  pub body_no_part : (n l : ℕ) (p : Part) → IsFileNumber g n → Has (body_places n (told_of g bs n)) l → part_of g l ≢ Some p
  body_no_part n l p is t at =
      let o = body_owned n l is t in
      let e : file_of_part p ≡ n = (let h : Some (InFile (file_of_part p)) ≡ Some (InFile n) = sym (part_owner g bs own c s l p at) ∙ o.1 in cc) in
      let f : true ≡ false = sym (structure_file p) ∙ ap is_structure e ∙ o.0 in
      absurd (cc)

  pub body_once : (n : ℕ) → IsFileNumber g n → Once (body_places n (told_of g bs n))
  body_once n is = by_kind (is_structure n) where
    by_kind : (k : Bool) → Once {A = ℕ} (cond k [] (lbns_in (told_of g bs n).runs))
    by_kind true = tt
    by_kind false = let t = told g bs own c s n is in lbns_once g (told_of g bs n) (low g bs own c s) t.whole t.once

  pub of_body : (n l : ℕ) → IsFileNumber g n → Has (body_places n (told_of g bs n)) l → IsOfBody g bs own n l
  of_body n l is t =
      let o = body_owned n l is t in
      record {
        plain = o.0;
        owned = o.1;
        no_part = clear (part_of g l) (λ p. body_no_part n l p is t);
        within = on_volume l (InFile n) o.1;
      } where
        clear : (x : Option Part) → ((p : Part) → x ≢ Some p) → x ≡ None
        clear None h = refl
        clear (Some p) h = absurd (h p refl)

  -- ---- what a write to a place of another owner leaves

  -- the bits of clusters, where the place is not file 2's
  pub cluster_bits_stay : (l : ℕ) (b : Block) (o : Owner) → owner_at g own l ≡ Some o → InFile 2 ≢ o → (q : ℕ) → q < total_of g → cluster_bit g (slice_set bs l b) q ≡ cluster_bit g bs q
  cluster_bits_stay l b o at ne q lt =
      let k : q / 4096 < storage_blocks (total_of g) = omega arith in
      let other : g.bitmap_lbn + 1 + q / 4096 ≢ l = apart_by g own (g.bitmap_lbn + 1 + q / 4096) l (InFile 2) o (part_owned g bs own c s (Storage (q / 4096)) k) at ne in
      ap (λ x. bit_at x (q % 4096)) (get_or-set_other bs l (g.bitmap_lbn + 1 + q / 4096) b [] other)

  -- the rows, where the place is not file 10's
  pub rows_stay : (l : ℕ) (b : Block) (o : Owner) → owner_at g own l ≡ Some o → InFile 10 ≢ o → rows_told g (slice_set bs l b) ≡ rows_told g bs
  rows_stay l b o at ne = ap (λ xs. flat_map rows_in xs) (blocks_stay bs l b (quota_places g) away) where
    away : Has (quota_places g) l → ⊥
    away t =
        let h = has_ranged g.quota_lbn g.cluster l t in
        let lo : g.quota_lbn ≤ l = h.0 in
        let hi : l < g.quota_lbn + g.cluster = h.1 in
        let e : g.quota_lbn + (l - g.quota_lbn) ≡ l = omega arith in
        let lt : l - g.quota_lbn < g.cluster = omega arith in
        apart_by g own (g.quota_lbn + (l - g.quota_lbn)) l (InFile 10) o (part_owned g bs own c s (Quota (l - g.quota_lbn)) lt) at ne e

  -- headers and the bits of numbers, where the place is not file 1's
  pub header_apart : (l : ℕ) (o : Owner) → owner_at g own l ≡ Some o → InFile 1 ≢ o → (n : ℕ) → IsFileNumber g n → header_place g n ≢ l
  header_apart l o at ne n is = apart_by g own (header_place g n) l (InFile 1) o (part_owned g bs own c s (Header n) is) at ne

  -- so the blocks in the header slots of a file stay where those of all numbers do
  pub heads_apart : (n l : ℕ) → IsFileNumber g n → ((m : ℕ) → IsFileNumber g m → header_place g m ≢ l) → (m : ℕ) → Has (n ∷ (told_of g bs n).slots) m → header_place g m ≢ l
  heads_apart n l is apart m t = elim t [ inl e ↦ apart m (subst (λ k. IsFileNumber g k) e is) | inr u ↦ apart m (slot_number g bs own c s n m is u) ]

  -- and with them what is told of it
  pub told_apart : (l : ℕ) (b : Block) → ((m : ℕ) → IsFileNumber g m → header_place g m ≢ l) → (n : ℕ) → IsFileNumber g n → told_of g (slice_set bs l b) n ≡ told_of g bs n
  told_apart l b apart n is = told_stays g bs n l b (told g bs own c s n is).size (heads_apart n l is apart)

  -- the slot of a number that is not the file's lies apart from all of its slots
  pub slots_apart : (n m : ℕ) → IsFileNumber g n → n ≢ m → slice_get own.numbers (m - 1) ≢ Some (InFile n) → (j : ℕ) → Has (n ∷ (told_of g bs n).slots) j → header_place g j ≢ header_place g m
  slots_apart n m is ne other j t e = not_slot g bs own c s n m is ne other j t (omega arith)

  pub index_apart : (l : ℕ) (o : Owner) → owner_at g own l ≡ Some o → InFile 1 ≢ o → 4 * g.cluster ≢ l
  index_apart l o at ne = apart_by g own (4 * g.cluster) l (InFile 1) o (part_owned g bs own c s IndexBitmap tt) at ne

  pub home_apart : (l : ℕ) (o : Owner) → owner_at g own l ≡ Some o → InFile 1 ≢ o → 1 ≢ l
  home_apart l o at ne = apart_by g own 1 l (InFile 1) o (home_owned g bs own c s) at ne

  pub control_apart : (l : ℕ) (o : Owner) → owner_at g own l ≡ Some o → InFile 2 ≢ o → g.bitmap_lbn ≢ l
  control_apart l o at ne = apart_by g own g.bitmap_lbn l (InFile 2) o (control_owned g bs own c s) at ne

  -- a file that holds parts has a number
  pub structure_number : (n : ℕ) → is_structure n ≡ true → IsFileNumber g n
  structure_number n e =
      let f = s.counts.geometry.files_from in
      record { from = grind (arith, nat_tests); to = (let h : n ≤ 10 = grind (arith, nat_tests) in omega arith) }

  pub away_by : (n l : ℕ) (o : Owner) → IsFileNumber g n → owner_at g own l ≡ Some o → (is_structure n ≡ false → InFile n ≢ o) → Has (body_places n (told_of g bs n)) l → ⊥
  away_by n l o is at ne t =
      let h = body_owned n l is t in
      ne h.0 (let f : Some (InFile n) ≡ Some o = sym h.1 ∙ at in cc)

pub number_bits_stay : (g : Geometry) (bs : List Block) (l : ℕ) (b : Block) (n : ℕ) → 4 * g.cluster ≢ l → number_bit g (slice_set bs l b) n ≡ number_bit g bs n
number_bits_stay g bs l b n other = ap (λ x. bit_at x (n - 1)) (get_or-set_other bs l (4 * g.cluster) b [] other)

-- an item of a list after a set: the one there, or an old one
pub set_case : {A : Type 0} (xs : List A) (i j : ℕ) (x y : A) → i < length xs → slice_get (slice_set xs i x) j ≡ Some y → ((i ≡ j) × (x ≡ y)) ⊎ ((i ≢ j) × (slice_get xs j ≡ Some y))
set_case xs i j x y lt at = elim (same_or_not i j) [
  | inl e ↦ inl (e, let h : Some x ≡ Some y = sym (get-set_here xs i x lt) ∙ ap (λ k. slice_get (slice_set xs i x) k) e ∙ at in cc)
  | inr ne ↦ inr (ne, sym (get-set_else xs i j x ne) ∙ at)
]

-- the first k of a list have the same clusters after one is set that has as many, or that is behind them
pub reserved_stays : (k : ℕ) (xs : List Slot) (i : ℕ) (x : Slot) → ((old : Slot) → i < k → slice_get xs i ≡ Some old → clusters_in x ≡ clusters_in old) → sum_by clusters_in (take k (slice_set xs i x)) ≡ sum_by clusters_in (take k xs)
reserved_stays zero xs i x same = refl
reserved_stays (suc k) [] i x same = refl
reserved_stays (suc k) (y ∷ xs) zero x same =
    let e : clusters_in x ≡ clusters_in y = same y (omega arith) refl in
    sum_by-cons clusters_in x (take k xs) ∙ ap (λ z. z + sum_by clusters_in (take k xs)) e ∙ sym (sum_by-cons clusters_in y (take k xs))
reserved_stays (suc k) (y ∷ xs) (suc i) x same =
    let e = reserved_stays k xs i x (λ old lt at. same old (omega arith) at) in
    sum_by-cons clusters_in y (take k (slice_set xs i x)) ∙ ap (λ z. clusters_in y + z) e ∙ sym (sum_by-cons clusters_in y (take k xs))
