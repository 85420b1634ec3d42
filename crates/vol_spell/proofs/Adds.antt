-- The clusters add up.
use Rattle.std.proofs.Common.{◌≡◌, ◌<◌, ◌≤◌, ◌+◌, ◌-◌, ◌*◌, ◌/◌, ℕ, zero, suc, List, [], ◌∷◌, Some, length, take, slice_get, get_or, refl, sym, ap, ◌∙◌, arith, cond}
use Rattle.std.specs.Prelude.{◌==◌, ◌&&◌, nat_lt, count_by, sum_by, Result, Ok, Err}
use Rattle.std.proofs.lemmas.Bool.Decides.{nat_tests}
use Rattle.std.proofs.lemmas.List.{take_all}
use Rattle.std.proofs.lemmas.List.Sums.{sum_by-cons, sum_by_more, sum_by-take-drop}
use Rattle.std.proofs.lemmas.Nat.{div-mul-add}
use Rattle.base_words.specs.Fields.{Block}
use Rattle.fx_header.specs.declared.run.Run.{Run}
use Rattle.fx_header.specs.declared.slot.Slot.{Slot as Head}
use Rattle.fx_header.specs.declared.slot.Slot.TheVariants as head
use Rattle.fx_header.specs.declared.slot.HeaderFault.{HeaderFault}
use Rattle.fx_header.specs.Pointers.{blocks_in}
use Rattle.plain_cat.specs.declared.cat.Cat.{Cat}
use Rattle.plain_cat.specs.declared.cat.Slot.{Slot}
use Rattle.plain_cat.specs.declared.cat.Slot.TheVariants as slot
use Rattle.plain_rules.specs.Lookups.{clusters_in}
use Rattle.vol_spell.specs.declared.owner.Owner.{Owner}
use Rattle.vol_spell.specs.declared.owner.Owner.TheVariants.{Free, InFile, Outside, Leaked}
use Rattle.vol_spell.specs.Owners.{Owners}
use Rattle.vol_spell.specs.Counts.{is_same_owner}
use Rattle.vol_spell.proofs.Counting.{counts_list}
use Rattle.vol_parts.specs.declared.geometry.Geometry.{Geometry}
use Rattle.vol_parts.specs.Volumes.{fields_in, Told}
use Rattle.vol_parts.specs.Catalogues.{slot_with}
use Rattle.vol_spell.specs.Reading.{IsFileNumber, total_of, told_of, clusters_of, clusters_told}
use Rattle.vol_spell.specs.Spelling.{AreWhole, IsHead, size_in, Tells, Spells}
use Rattle.vol_spell.specs.Adding.{is_outside, CountsAdd, ClustersAddUp}
use Rattle.vol_spell.proofs.Parts.{low, told}
use Rattle.vol_spell.proofs.Runs.{size_of_runs}

-- ---- the size of a file

none_by : (k f : ℕ) → 1 ≤ f → k * f ≡ 0 → 0 ≡ k
none_by zero f low e = refl
none_by (suc k) f low e = let h : suc k * f ≡ f + k * f = omega arith in absurd (omega arith)

pub size_by : (g : Geometry) (n : ℕ) (r : Result Head HeaderFault) (rs : List Run) (blocks : List Block) (s : Slot) → 1 ≤ g.cluster → IsHead n r → AreWhole g rs → blocks_in rs ≡ size_in (fields_in r)
    → slot_with g.cluster n r blocks ≡ s → clusters_in s ≡ length (clusters_of g.cluster rs)
size_by g n (Ok (head.Used f)) rs blocks s low is w size at =
    let k = length (clusters_of g.cluster rs) in
    let h : k * g.cluster ≡ f.blocks = size_of_runs g rs low w ∙ size in
    let d : f.blocks / g.cluster ≡ k = ap (λ x. x / g.cluster) (sym h ∙ (let z : k * g.cluster ≡ k * g.cluster + 0 = omega arith in z)) ∙ div-mul-add k g.cluster 0 (omega arith) in
    ap clusters_in (sym at) ∙ d
size_by g n (Ok (head.Free seq)) rs blocks s low is w size at = ap clusters_in (sym at) ∙ none_by (length (clusters_of g.cluster rs)) g.cluster low (size_of_runs g rs low w ∙ size)
size_by g n (Err fault) rs blocks s low is w size at = absurd is

-- a file has as many clusters as are told of it
pub size_told : (g : Geometry) (own : Owners) (n : ℕ) (t : Told) (blocks : List Block) (s : Slot) → 1 ≤ g.cluster → Tells g own n t blocks s → clusters_in s ≡ length (clusters_told g t)
size_told g own n t blocks s low tells = size_by g n t.head t.runs blocks s low tells.reads tells.whole tells.size tells.slot

-- ---- counting by owner

-- 1 where the owner is one of the files 1 to k
pub below : ℕ → Owner → ℕ
below k Free = 0
below k (InFile j) = cond (nat_lt 0 j && nat_lt j (k + 1)) 1 0
below k (Outside node) = 0
below k Leaked = 0

pub below_more : (k : ℕ) (o : Owner) → below (k + 1) o ≡ below k o + cond (is_same_owner (InFile (k + 1)) o) 1 0
unfolding below is_same_owner
below_more k Free = refl
below_more k (InFile j) = one k j where
  one : (k j : ℕ) → cond {A = ℕ} (nat_lt 0 j && nat_lt j (k + 1 + 1)) 1 0 ≡ cond (nat_lt 0 j && nat_lt j (k + 1)) 1 0 + cond (k + 1 == j) 1 0
  one k j = grind (arith, nat_tests)
below_more k (Outside node) = refl
below_more k Leaked = refl

below_zero : (o : Owner) → below 0 o ≡ 0
unfolding below
below_zero Free = refl
below_zero (InFile j) = one j where
  one : (j : ℕ) → cond {A = ℕ} (nat_lt 0 j && nat_lt j (0 + 1)) 1 0 ≡ 0
  one j = grind (arith, nat_tests)
below_zero (Outside node) = refl
below_zero Leaked = refl

pub below_none : (xs : List Owner) → sum_by (below 0) xs ≡ 0
below_none [] = refl
below_none (x ∷ xs) =
    let a : below 0 x ≡ 0 = below_zero x in
    let b : sum_by (below 0) xs ≡ 0 = below_none xs in
    sum_by-cons (below 0) x xs ∙ (let e : below 0 x + sum_by (below 0) xs ≡ 0 = omega arith in e)

pub sum_add : (f h k : Owner → ℕ) → ((o : Owner) → f o ≡ h o + k o) → (xs : List Owner) → sum_by f xs ≡ sum_by h xs + sum_by k xs
sum_add f h k e [] = refl
sum_add f h k e (x ∷ xs) =
    let a : f x ≡ h x + k x = e x in
    let b : sum_by f xs ≡ sum_by h xs + sum_by k xs = sum_add f h k e xs in
    let c : f x + sum_by f xs ≡ (h x + sum_by h xs) + (k x + sum_by k xs) = omega arith in
    sum_by-cons f x xs ∙ c ∙ sym (let d : sum_by h (x ∷ xs) + sum_by k (x ∷ xs) ≡ (h x + sum_by h xs) + (k x + sum_by k xs) = rw (sum_by-cons h x xs, sum_by-cons k x xs) refl in d)

-- each owner is counted once
one_each : (k : ℕ) (o : Owner) → ((n : ℕ) → o ≡ InFile n → (1 ≤ n) × (n ≤ k)) → 1 ≡ cond (is_same_owner Free o) 1 0 + cond (is_outside o) 1 0 + cond (is_same_owner Leaked o) 1 0 + below k o
unfolding below is_same_owner is_outside
one_each k Free known = refl
one_each k (InFile j) known = let h = known j refl in one k j h.0 h.1 where
  one : (k j : ℕ) → 1 ≤ j → j ≤ k → 1 ≡ 0 + 0 + 0 + cond (nat_lt 0 j && nat_lt j (k + 1)) 1 0
  one k j a b = grind (arith, nat_tests)
one_each k (Outside node) known = refl
one_each k Leaked known = refl

pub all_each : (k : ℕ) (xs : List Owner) → ((q n : ℕ) → slice_get xs q ≡ Some (InFile n) → (1 ≤ n) × (n ≤ k))
    → length xs ≡ count_by (is_same_owner Free) xs + count_by is_outside xs + count_by (is_same_owner Leaked) xs + sum_by (below k) xs
all_each k [] known = refl
all_each k (x ∷ xs) known =
    let f : Owner → ℕ = λ o. cond (is_same_owner Free o) 1 0 in
    let h : Owner → ℕ = λ o. cond (is_outside o) 1 0 in
    let j : Owner → ℕ = λ o. cond (is_same_owner Leaked o) 1 0 in
    let a : 1 ≡ f x + h x + j x + below k x = one_each k x (λ n e. known 0 n (ap (λ o. Some o) e)) in
    let b : length xs ≡ sum_by f xs + sum_by h xs + sum_by j xs + sum_by (below k) xs = all_each k xs (λ q n e. known (suc q) n e) in
    four (length xs) _ _ _ _ _ _ _ _ _ _ _ _ a b (sum_by-cons f x xs) (sum_by-cons h x xs) (sum_by-cons j x xs) (sum_by-cons (below k) x xs) where
      four : (n a b c d p q r s P Q R S : ℕ) → 1 ≡ a + b + c + d → n ≡ p + q + r + s → P ≡ a + p → Q ≡ b + q → R ≡ c + r → S ≡ d + s → suc n ≡ P + Q + R + S
      four n a b c d p q r s P Q R S e1 e2 e3 e4 e5 e6 = omega arith

module _ (g : Geometry) (bs : List Block) (own : Owners) (c : Cat) (s : Spells g bs own c) where
  file_size : (k : ℕ) → k < g.files → count_by (is_same_owner (InFile (k + 1))) own.clusters ≡ clusters_in (get_or c.files k (slot.Free 0))
  file_size k lt =
      let is : IsFileNumber g (k + 1) = record { from = omega arith; to = omega arith } in
      let t = told g bs own c s (k + 1) is in
      let e : k + 1 - 1 ≡ k = omega arith in
      counts_list (InFile (k + 1)) (clusters_told g (told_of g bs (k + 1))) own.clusters t.once t.runs
      ∙ sym (size_told g own (k + 1) (told_of g bs (k + 1)) _ _ (low g bs own c s) t) ∙ ap (λ i. clusters_in (get_or c.files i (slot.Free 0))) e

  belows : (k : ℕ) → k ≤ g.files → sum_by (below k) own.clusters ≡ sum_by clusters_in (take k c.files)
  belows zero le = below_none own.clusters
  belows (suc k) le =
      let n : suc k ≡ k + 1 = omega arith in
      let lt : k < g.files = omega arith in
      let len : k < length c.files = (let e = s.counts.slots in omega arith) in
      let e1 = sum_add (below (k + 1)) (below k) (λ o. cond (is_same_owner (InFile (k + 1)) o) 1 0) (below_more k) own.clusters in
      let e2 : sum_by clusters_in (take (k + 1) c.files) ≡ sum_by clusters_in (take k c.files) + clusters_in (get_or c.files k (slot.Free 0)) = sum_by_more clusters_in c.files k (slot.Free 0) len in
      let e3 : sum_by (below k) own.clusters ≡ sum_by clusters_in (take k c.files) = belows k (omega arith) in
      rw n (e1 ∙ sums _ _ _ _ e3 (file_size k lt) ∙ sym e2) where
        sums : (a b x y : ℕ) → a ≡ b → x ≡ y → a + x ≡ b + y
        sums a b x y e f = omega arith

  all_add : total_of g ≡ count_by (is_same_owner Free) own.clusters + count_by is_outside own.clusters + c.leaked + sum_by clusters_in c.files
  all_add =
      let e : sum_by (below g.files) own.clusters ≡ sum_by clusters_in c.files = belows g.files (omega arith) ∙ ap (sum_by clusters_in) (take_all g.files c.files (let a = s.counts.slots in omega arith)) in
      let h = all_each g.files own.clusters (λ q n at. let k = s.owners.known q n at in (k.from, k.to)) in
      sum5 _ _ _ _ _ _ _ _ s.counts.clusters h s.owners.leaked e where
        sum5 : (l t f o k x b y : ℕ) → l ≡ t → l ≡ f + o + k + b → x ≡ k → b ≡ y → t ≡ f + o + x + y
        sum5 l t f o k x b y e1 e2 e3 e4 = omega arith

  pub adds : CountsAdd g own c
  adds = record { all = all_add; free = free_is _ _ _ _ _ _ _ _ _ s.constants.total s.constants.reserved all_add (sum_by-take-drop clusters_in c.files 11) } where
    free_is : (t total r a x f b y d : ℕ) → total ≡ t → r ≡ a → t ≡ f + y + x + b → a + d ≡ b → total - r - x - d ≡ f + y
    free_is t total r a x f b y d e1 e2 e3 e4 = omega arith

pub clusters_add_up : ClustersAddUp
clusters_add_up g bs own c s = adds g bs own c s
