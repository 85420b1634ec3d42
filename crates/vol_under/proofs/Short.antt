-- What is free by the catalogue is free by the bits, where nothing is outside at any node.
use Rattle.std.proofs.Common.{◌≡◌, ◌+◌, ◌-◌, ℕ, suc, Bool, true, false, List, [], ◌∷◌, Some, length, slice_get, refl, sym, ap, subst, ◌∙◌, inl, inr, arith, cond}
use Rattle.std.specs.Prelude.{count_by, not}
use Rattle.std.specs.List.{range_with_len}
use Rattle.std.proofs.lemmas.List.Sums.{sum_by-cons}
use Rattle.std.proofs.lemmas.Option.{slice_get_within}
use Rattle.base_words.specs.Fields.{Block}
use Rattle.plain_cat.specs.declared.cat.Cat.{Cat}
use Rattle.plain_rules.specs.Lookups.{is_free_number, free_clusters, free_count}
use Rattle.vol_spell.specs.declared.owner.Owner.{Owner}
use Rattle.vol_spell.specs.declared.owner.Owner.TheVariants.{Free, InFile, Outside, Leaked}
use Rattle.vol_spell.specs.Owners.{Owners, nothing, Outs}
use Rattle.vol_spell.specs.Counts.{is_same_owner}
use Rattle.base_words.proofs.Listing.{has_parted, has_first, has_second}
use Rattle.vol_parts.specs.declared.geometry.Geometry.{Geometry}
use Rattle.vol_spell.specs.Reading.{IsFileNumber, total_of, cluster_bit, number_bit}
use Rattle.vol_spell.specs.Spelling.{Spells}
use Rattle.vol_spell.specs.Adding.{is_outside}
use Rattle.vol_spell.proofs.Adds.{clusters_add_up}
use Rattle.vol_spell.proofs.NumberAdds.{numbers_add_up}
use Rattle.vol_spell.proofs.Owned.{each_is_owned}
use Rattle.vol_under.specs.Shortage.{OutAlike, IsFreeByBits, FreeByBits}
use Rattle.vol_under.proofs.Leaking.{number_free_of}

pub out_alike : OutAlike
out_alike n xs took stock took' stock' once same out = record {
  all = λ q. (
    (λ e. has_parted took' stock' q ((same q).0 (elim ((out.all q).0 e) [ inl t ↦ has_first took stock q t | inr t ↦ has_second took stock q t ]))),
    (λ t. (out.all q).1 (has_parted took stock q ((same q).1 (elim t [ inl u ↦ has_first took' stock' q u | inr u ↦ has_second took' stock' q u ])))),
  );
  once = once;
}

sum_is : (a b x y s t : ℕ) → s ≡ a + x → t ≡ b + y → a ≡ b → x ≡ y → s ≡ t
sum_is a b x y s t e f h k = omega arith

-- owners that no node is among
no_node : (xs : List Owner) → ((n q : ℕ) → slice_get xs q ≡ Some (Outside n) → ⊥) → count_by is_outside xs ≡ 0
unfolding is_outside
no_node [] none = refl
no_node (x ∷ xs) none = sum_is (cond (is_outside x) 1 0) 0 (count_by is_outside xs) 0 _ _ (sum_by-cons (λ o. cond (is_outside o) 1 0) x xs) (omega arith) (by_owner x refl) (no_node xs (λ n q e. none n (suc q) e)) where
  by_owner : (o : Owner) → x ≡ o → cond {A = ℕ} (is_outside x) 1 0 ≡ 0
  by_owner Free e = ap (λ (y : Owner). cond {A = ℕ} (is_outside y) 1 0) e
  by_owner (InFile m) e = ap (λ (y : Owner). cond {A = ℕ} (is_outside y) 1 0) e
  by_owner (Outside n) e = absurd (none n 0 (ap (λ (y : Owner). Some y) e))
  by_owner Leaked e = ap (λ (y : Owner). cond {A = ℕ} (is_outside y) 1 0) e

-- a test along a range that is a test of what stands there counts the same
count_along : (r : ℕ → Bool) (p : Owner → Bool) (xs : List Owner) (a : ℕ) → ((i : ℕ) (o : Owner) → slice_get xs i ≡ Some o → r (a + i) ≡ p o) → count_by r (range_with_len a (length xs)) ≡ count_by p xs
count_along r p [] a h = refl
count_along r p (x ∷ xs) a h =
    let first : r a ≡ p x = ap r (let e : a ≡ a + 0 = omega arith in e) ∙ h 0 x refl in
    let rest : count_by r (range_with_len (a + 1) (length xs)) ≡ count_by p xs = count_along r p xs (a + 1) (λ i o e. ap r (let f : a + 1 + i ≡ a + suc i = omega arith in f) ∙ h (suc i) o e) in
    sum_is (cond (r a) 1 0) (cond (p x) 1 0) (count_by r (range_with_len (a + 1) (length xs))) (count_by p xs) _ _
    (sum_by-cons (λ k. cond (r k) 1 0) a (range_with_len (a + 1) (length xs))) (sum_by-cons (λ o. cond (p o) 1 0) x xs) (ap (λ (b : Bool). cond {A = ℕ} b 1 0) first) rest

plain : (f a b d : ℕ) → f ≡ a + b → b ≡ 0 → d ≡ a → f ≡ d
plain f a b d e z h = omega arith

module _ (g : Geometry) (bs : List Block) (own : Owners) (c : Cat) (s : Spells g bs own c) (none : (n : ℕ) → Outs n own nothing nothing) where
  no_cluster : (n q : ℕ) → slice_get own.clusters q ≡ Some (Outside n) → ⊥
  no_cluster n q e = elim (((none n).clusters.all q).0 e) [ inl t ↦ t | inr t ↦ t ]

  no_number : (n i : ℕ) → slice_get own.numbers i ≡ Some (Outside n) → ⊥
  no_number n i e = elim (((none n).numbers.all i).0 e) [ inl t ↦ t | inr t ↦ t ]

  bit_is : (q : ℕ) (o : Owner) → slice_get own.clusters q ≡ Some o → cluster_bit g bs (0 + q) ≡ is_same_owner Free o
  bit_is q o at =
      let e : length own.clusters ≡ total_of g = s.counts.clusters in
      let lt = slice_get_within own.clusters q o at in
      let h = each_is_owned.clusters g bs own c q s (omega arith) in
      let same : h.0 ≡ o = (let f : Some h.0 ≡ Some o = sym h.1 ∙ at in cc) in
      let zero_is : 0 + q ≡ q = omega arith in
      ap (λ k. cluster_bit g bs k) zero_is ∙ h.2.bit ∙ ap (λ (x : Owner). is_same_owner Free x) same

  counted : count_by (cluster_bit g bs) (range_with_len 0 (total_of g)) ≡ count_by (is_same_owner Free) own.clusters
  counted =
      let e : length own.clusters ≡ total_of g = s.counts.clusters in
      ap (λ k. count_by (cluster_bit g bs) (range_with_len 0 k)) (sym e) ∙ count_along (cluster_bit g bs) (is_same_owner Free) own.clusters 0 bit_is

  number_is : (i : ℕ) (o : Owner) → slice_get own.numbers i ≡ Some o → not (number_bit g bs (1 + i)) ≡ is_same_owner Free o
  number_is i o at =
      let e : length own.numbers ≡ g.files = s.counts.numbers in
      let lt = slice_get_within own.numbers i o at in
      let is : IsFileNumber g (1 + i) = record { from = omega arith; to = omega arith } in
      let back : 1 + i - 1 ≡ i = omega arith in
      let h = each_is_owned.numbers g bs own c (1 + i) s is in
      let same : h.0 ≡ o = (let f : Some h.0 ≡ Some o = sym h.1 ∙ ap (slice_get own.numbers) back ∙ at in cc) in
      ap not h.2.bit ∙ twice (is_same_owner Free h.0) ∙ ap (λ (x : Owner). is_same_owner Free x) same
    where
      twice : (b : Bool) → not (not b) ≡ b
      twice true = refl
      twice false = refl

  clear_bits : count_by (λ n. not (number_bit g bs n)) (range_with_len 1 g.files) ≡ count_by (is_same_owner Free) own.numbers
  clear_bits =
      let e : length own.numbers ≡ g.files = s.counts.numbers in
      ap (λ k. count_by (λ n. not (number_bit g bs n)) (range_with_len 1 k)) (sym e) ∙ count_along (λ n. not (number_bit g bs n)) (is_same_owner Free) own.numbers 1 number_is

  free_if : (n : ℕ) → IsFileNumber g n → number_bit g bs n ≡ false → is_free_number c n ≡ true
  unfolding is_same_owner
  free_if n is bit =
      let a = is.from in
      let back : n - 1 + 1 ≡ n = omega arith in
      subst (λ (k : ℕ). is_free_number c k ≡ true) back (number_free_of g bs own c Free (n - 1) (λ m e. absurd (cc)) refl s ((s.owners.number_bits n is).0 bit))

  pub are_free_by_bits : IsFreeByBits g bs c
  are_free_by_bits = record {
    clusters = plain (free_clusters c) _ (count_by is_outside own.clusters) _ (clusters_add_up g bs own c s).free (no_node own.clusters no_cluster) counted;
    numbers = plain (free_count c) _ (count_by is_outside own.numbers) _ (numbers_add_up g bs own c s) (no_node own.numbers no_number) clear_bits;
    spare = free_if;
  }

pub free_by_bits : FreeByBits
free_by_bits g bs own c s none = are_free_by_bits g bs own c s none
