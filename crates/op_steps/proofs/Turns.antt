-- The blocks of the storage bitmap in turn: which clusters are left, and the writes.
use Rattle.std.proofs.Common.{◌≡◌, ◌<◌, ◌≤◌, ◌+◌, ◌-◌, ◌/◌, ℕ, Bool, true, List, [], ◌∷◌, Some, None, length, map, slice_get, slice_set, refl, sym, ap, subst, inl, inr, arith, nat_lt, length-set}
use Rattle.std.specs.Prelude.{◌==◌, filter, slice_index_or}
use Rattle.std.specs.List.{range_with_len, list_any}
use Rattle.std.proofs.lemmas.Option.{slice_get-get_or}
use Rattle.std.proofs.lemmas.Bool.{eq-eqb}
use Rattle.std.proofs.lemmas.Bool.Decides.{nat_tests}
use Rattle.base_words.specs.Fields.{Block, AreWholeBlocks}
use Rattle.plain_cat.specs.declared.history.Stage.{Stage}
use Rattle.base_words.specs.Lists.{Has, Once, Parts}
use Rattle.vol_spell.specs.Owners.{Things}
use Rattle.vol_spell.specs.Spread.{blocks_at}
use Rattle.base_words.proofs.Listing.{filtered}
use Rattle.vol_spell.proofs.Placing.{has_ranged, ranged_has, blocks_stay}
use Rattle.vol_parts.specs.declared.geometry.Geometry.{Geometry}
use Rattle.vol_parts.specs.declared.geometry.Part.TheVariants.{Storage}
use Rattle.vol_parts.specs.Parts.{storage_blocks, part_of}
use Rattle.vol_spell.specs.Reading.{total_of}
use Rattle.vol_spell.specs.Places.{place_of, IsPart}
use Rattle.vol_spell.proofs.Keeping.{whole_set}
use Rattle.vol_under.specs.Freeing.{IsFreeing, FreesInTurn}
use Rattle.op_law.specs.Fits.{things}
use Rattle.op_law.specs.Laws.{numbers_before, planned}
use Rattle.op_law.specs.Freeing.{lies_in, behind, blocks_for, with_free, storage_write, storage_writes}
use Rattle.op_steps.specs.BitmapWrites.{brought}
use Rattle.op_steps.proofs.Filters.{has_any, Rise, ranged_rise}
use Rattle.base_words.proofs.Listing.{has_passed as passed}
use Rattle.base_words.proofs.Listing.{has_filtered as let_through}
use Rattle.op_steps.proofs.Given.{are_given}

-- ---- blocks and clusters

-- blocks of the storage bitmap that rise, from block j on, and have all bits of the clusters from there on
pub record AreBlocks (g : Geometry) (qs ks : List ℕ) (j : ℕ) : Type 0 where
  pub rise : Rise ks
  pub from : (k : ℕ) → Has ks k → j ≤ k
  pub parts : (k : ℕ) → Has ks k → IsPart g (Storage k)
  pub all : (q : ℕ) → Has qs q → j ≤ q / 4096 → Has ks (q / 4096)

-- those of the clusters that have their bits in block j or behind it
pub record AreLeft (qs left : List ℕ) (j : ℕ) : Type 0 where
  pub from : (q : ℕ) → Has left q → Has qs q × (j ≤ q / 4096)
  pub to : (q : ℕ) → Has qs q → j ≤ q / 4096 → Has left q

has_bits : (qs : List ℕ) (q : ℕ) → Has qs q → list_any (lies_in (q / 4096)) qs ≡ true
has_bits qs q t = has_any (lies_in (q / 4096)) qs q t (eq-eqb (q / 4096) (q / 4096) refl)

pub blocks_are : (g : Geometry) (qs : List ℕ) → ((q : ℕ) → Has qs q → q < total_of g) → AreBlocks g qs (blocks_for g qs) 0
unfolding blocks_for
blocks_are g qs inside =
    let p : ℕ → Bool = λ k. list_any (lies_in k) qs in
    let n : ℕ = storage_blocks (total_of g) in record {
      rise = ranged_rise p 0 n;
      from = λ k t. omega arith;
      parts = λ k t. let h = (has_ranged 0 n k (let_through p (range_with_len 0 n) k t).0).1 in let e : k < storage_blocks (total_of g) = omega arith in e;
      all = λ q t le. let lt = inside q t in passed p (range_with_len 0 n) (q / 4096) (ranged_has 0 n (q / 4096) (omega arith) (let e : q / 4096 < 0 + (total_of g + 4095) / 4096 = omega arith in e)) (has_bits qs q t);
    }

pub all_left : (qs : List ℕ) → AreLeft qs qs 0
all_left qs = record { from = λ q t. (t, omega arith); to = λ q t le. t }

-- behind the first of the blocks
pub blocks_next : (g : Geometry) (qs ks : List ℕ) (k j : ℕ) → AreBlocks g qs (k ∷ ks) j → AreBlocks g qs ks (k + 1)
blocks_next g qs ks k j are = record {
  rise = are.rise.1;
  from = λ i t. let lt = are.rise.0 i t in omega arith;
  parts = λ i t. are.parts i (inr t);
  all = λ q t le. let low = are.from k (inl refl) in elim (are.all q t (omega arith)) [ inl e ↦ absurd (let f : k ≡ q / 4096 = e in omega arith) | inr u ↦ u ];
}

is_behind : (k q : ℕ) → k < q / 4096 → nat_lt k (q / 4096) ≡ true
is_behind k q lt = grind (arith, nat_tests)

not_before : (k x : ℕ) → nat_lt k x ≡ true → k + 1 ≤ x
not_before k x e = grind (arith, nat_tests)

pub left_next : (qs : List ℕ) (k : ℕ) → AreLeft qs (behind k qs) (k + 1)
left_next qs k = record {
  from = λ q t. let h = let_through (λ (x : ℕ). nat_lt k (x / 4096)) qs q t in (h.0, not_before k (q / 4096) h.1);
  to = λ q t le. passed (λ (x : ℕ). nat_lt k (x / 4096)) qs q t (is_behind k q (omega arith));
}

-- the clusters of the first block, and those behind it, are what is left
in_block : (k q : ℕ) → (q / 4096 == k) ≡ true → q / 4096 ≡ k
in_block k q e = grind (arith, nat_tests)

pub in_this : (qs : List ℕ) (k q : ℕ) → Has (filter (lies_in k) qs) q → Has qs q × (q / 4096 ≡ k)
in_this qs k q t = let h = let_through (lies_in k) qs q t in (h.0, in_block k q h.1)

pub left_parts : (g : Geometry) (qs ks left : List ℕ) (k j : ℕ) → AreBlocks g qs (k ∷ ks) j → AreLeft qs left j → Parts left (filter (lies_in k) qs) (behind k qs)
left_parts g qs ks left k j are is =
    let low = are.from k (inl refl) in record {
      each = λ q t. let h = is.from q t in elim (are.all q h.0 h.1) [
        | inl e ↦ inl (passed (lies_in k) qs q h.0 (eq-eqb (q / 4096) k (sym e)))
        | inr u ↦ inr (passed (λ (x : ℕ). nat_lt k (x / 4096)) qs q h.0 (is_behind k q (are.rise.0 (q / 4096) u)))
      ];
      part_in = λ q t. let h = in_this qs k q t in let e = h.1 in is.to q h.0 (omega arith);
      rest_in = λ q t. let h = (left_next qs k).from q t in let e = h.1 in is.to q h.0 (omega arith);
      apart = λ q t u. let e = (in_this qs k q t).1 in let f = ((left_next qs k).from q u).1 in absurd (omega arith);
    }

pub none_left : (g : Geometry) (qs left : List ℕ) (j : ℕ) → AreBlocks g qs [] j → AreLeft qs left j → left ≡ []
none_left g qs [] j are is = refl
none_left g qs (q ∷ left) j are is = let h = is.from q (inl refl) in absurd (are.all q h.0 h.1)

-- what a write says is outside
pub brought_is : (qs ns : List ℕ) → numbers_before ns (things qs None) ≡ brought qs ns
brought_is qs [] = refl
brought_is qs (n ∷ ns) = ap (λ (t : Things). record t { numbers = (n - 1) ∷ t.numbers }) (brought_is qs ns)

-- ---- the writes

-- whole blocks, among which are those of the storage bitmap
pub record HaveStorage (g : Geometry) (bs : List Block) : Type 0 where
  pub whole : AreWholeBlocks bs
  pub within : (k : ℕ) → IsPart g (Storage k) → place_of g (Storage k) < length bs
  pub part : (k : ℕ) → IsPart g (Storage k) → part_of g (place_of g (Storage k)) ≡ Some (Storage k)

abbrev pub places_for : Geometry → List ℕ → List ℕ
places_for g ks = map (λ k. place_of g (Storage k)) ks

-- a block lies apart from those behind it
pub place_apart : (g : Geometry) (ks : List ℕ) (k : ℕ) → ((i : ℕ) → Has ks i → k < i) → Has (places_for g ks) (place_of g (Storage k)) → ⊥
place_apart g [] k rise t = t
place_apart g (i ∷ ks) k rise (inl e) = let f : g.bitmap_lbn + 1 + i ≡ g.bitmap_lbn + 1 + k = e in let lt = rise i (inl refl) in absurd (omega arith)
place_apart g (i ∷ ks) k rise (inr t) = place_apart g ks k (λ j u. rise j (inr u)) t

module _ (g : Geometry) (s : Stage) (qs ns : List ℕ) (inside : (q : ℕ) → Has qs q → q < total_of g) (once : Once qs) where
  pub frees : (ks left : List ℕ) (j : ℕ) (bs : List Block) → HaveStorage g bs → AreBlocks g qs ks j → AreLeft qs left j
      → FreesInTurn g s (map (λ n. n - 1) ns) [] (map planned (storage_writes g s qs ns ks (blocks_at bs (places_for g ks)))) bs left
  frees [] left j bs have are is = none_left g qs left j are is
  frees (k ∷ ks) left j bs have are is =
      let l : ℕ = place_of g (Storage k) in
      let old : Block = slice_index_or bs l [] in
      let part = are.parts k (inl refl) in
      let at : slice_get bs l ≡ Some old = slice_get-get_or bs l [] (have.within k part) in
      let given = are_given g k old (filter (lies_in k) qs) (have.whole l old at) (λ q t. let h = in_this qs k q t in (inside q h.0, h.1)) in
      let new : Block = with_free old (filter (lies_in k) qs) in
      let freeing : IsFreeing g s (map (λ n. n - 1) ns) left (behind k qs) bs (planned (storage_write g s qs ns k old)) = record {
        place = k;
        freed = filter (lies_in k) qs;
        old = old;
        part = have.part k part;
        at = at;
        parts = left_parts g qs ks left k j are is;
        once = filtered.once (λ q. nat_lt k (q / 4096)) qs once;
        given = given;
        stage = refl;
        outs = brought_is (behind k qs) ns;
      } in
      let after : HaveStorage g (slice_set bs l new) = record {
        whole = whole_set bs l new have.whole given.whole;
        within = λ i p. let lt = have.within i p in let e = length-set bs l new in omega arith;
        part = have.part;
      } in
      let rest = frees ks (behind k qs) (k + 1) (slice_set bs l new) after (blocks_next g qs ks k j are) (left_next qs k) in
      let seen : blocks_at (slice_set bs l new) (places_for g ks) ≡ blocks_at bs (places_for g ks) = blocks_stay bs l new (places_for g ks) (place_apart g ks k are.rise.0) in
      (behind k qs, freeing, subst (λ (bs' : List Block). FreesInTurn g s (map (λ n. n - 1) ns) [] (map planned (storage_writes g s qs ns ks bs')) (slice_set bs l new) (behind k qs)) seen rest)
