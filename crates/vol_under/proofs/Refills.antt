-- The bitmap writes of the space rule.
use Rattle.std.proofs.Common.{◌≡◌, ◌≢◌, ◌<◌, ◌+◌, ◌-◌, ◌*◌, ◌/◌, ◌%◌, ◌⊎◌, ℕ, true, false, List, [], Some, slice_get, slice_set, refl, sym, ap, subst, ◌∙◌, inl, inr, arith}
use Rattle.std.specs.Prelude.{◌↔◌, slice_index_or}
use Rattle.std.proofs.lemmas.Option.{get_or_from_slice_get, slice_get_within}
use Rattle.base_words.specs.Fields.{Block}
use Rattle.fx_bitmap.specs.Bits.{bit_at}
use Rattle.plain_cat.specs.declared.cat.Cat.{Cat}
use Rattle.vol_spell.specs.declared.owner.Owner.{Owner}
use Rattle.vol_spell.specs.declared.owner.Owner.TheVariants.{Free, Outside}
use Rattle.base_words.specs.Lists.{Once, Parts}
use Rattle.vol_spell.specs.Owners.{Owners, Moves, IsSpaceMove, AreOut, Things, Outs}
use Rattle.vol_spell.specs.Hands.{handed, AreOf}
use Rattle.base_words.proofs.Listing.{same_or_not}
use Rattle.vol_spell.proofs.Moving.{still}
use Rattle.vol_spell.proofs.Handing.{handed_moves, are_handed, out_swaps, outside_to_free, free_to_stock}
use Rattle.vol_parts.specs.declared.geometry.Geometry.{Geometry}
use Rattle.vol_parts.specs.declared.geometry.Part.TheVariants.{IndexBitmap, Storage}
use Rattle.vol_parts.specs.Parts.{part_of}
use Rattle.vol_spell.specs.Reading.{IsFileNumber, total_of, header_block, cluster_bit, number_bit}
use Rattle.vol_spell.specs.Spelling.{IsBlank, AreBlank, Spells}
use Rattle.vol_spell.proofs.Parts.{part_only}
use Rattle.vol_spell.proofs.Viewing.{storage_set, index_set}
use Rattle.vol_spell.proofs.Keeping.{storage_write, index_write}
use Rattle.vol_under.specs.Refilling.{HaveBlankSlots, TakesClusters, GivesClusters, TakesNumbers, GivesNumbers}

-- things of the stock become free
stock_to_free : (n : ℕ) (qs rest took stock : List ℕ) (xs : List Owner) → Parts stock qs rest → Once rest → AreOut n xs took stock → AreOut n (handed qs Free xs) took rest
stock_to_free n qs rest took stock xs parts once out = out_swaps n (handed qs Free xs) rest took (outside_to_free n qs rest stock took xs parts once (out_swaps n xs took stock out))

module _ (g : Geometry) (base : List Block) (own : Owners) (c : Cat) (s : Spells g base own c) (l : ℕ) (old : Block) (at : slice_get base l ≡ Some old) where
  cluster_was : (k q : ℕ) → part_of g l ≡ Some (Storage k) → q / 4096 ≡ k → cluster_bit g base q ≡ bit_at old (q % 4096)
  cluster_was k q part e =
      let place : g.bitmap_lbn + 1 + k ≡ l = (part_only g base own c s l (Storage k) part).1 in
      ap (λ j. bit_at (slice_index_or base (g.bitmap_lbn + 1 + j) []) (q % 4096)) e ∙ ap (λ j. bit_at (slice_index_or base j []) (q % 4096)) place ∙ ap (λ (b : Block). bit_at b (q % 4096)) (get_or_from_slice_get base l old [] at)

  number_was : (m : ℕ) → part_of g l ≡ Some IndexBitmap → number_bit g base m ≡ bit_at old (m - 1)
  number_was m part =
      let place : 4 * g.cluster ≡ l = (part_only g base own c s l IndexBitmap part).1 in
      ap (λ j. bit_at (slice_index_or base j []) (m - 1)) place ∙ ap (λ (b : Block). bit_at b (m - 1)) (get_or_from_slice_get base l old [] at)

pub takes_clusters : TakesClusters
takes_clusters g n took stock k l qs old b base own c s outs part at taken =
    record {
      new = new;
      spelt = storage_write g base own new c n k l b s taken.whole part moves refl (λ q lt. bits q lt (same_or_not (q / 4096) k));
      moves = record { clusters = moves; numbers = still (IsSpaceMove n) own.numbers };
      outs = record { clusters = free_to_stock n qs took.clusters stock.clusters own.clusters taken.once were outs.clusters; numbers = outs.numbers };
    } where
      was : (q : ℕ) → q / 4096 ≡ k → cluster_bit g base q ≡ bit_at old (q % 4096)
      was q e = cluster_was g base own c s l old at k q part e

      were : AreOf qs Free own.clusters
      were q t = let h = taken.inside q t in (s.owners.cluster_bits q h.0).0 (was q h.1 ∙ taken.free q t)

      new : Owners
      new = record { clusters = handed qs (Outside n) own.clusters; numbers = own.numbers }

      moves : Moves (IsSpaceMove n) own.clusters new.clusters
      moves = handed_moves qs Free (Outside n) own.clusters were (IsSpaceMove n) tt refl

      bits : (q : ℕ) → q < total_of g → (q / 4096 ≡ k) ⊎ (q / 4096 ≢ k) → (cluster_bit g (slice_set base l b) q ≡ true) ↔ (slice_get new.clusters q ≡ Some Free)
      bits q lt (inl e) =
          let h = are_handed qs Free (Outside n) own.clusters were (λ f. absurd (cc)) in
          let v = storage_set g base own c k l b s part in
          let i = s.owners.cluster_bits q lt in (
            (λ x. let y = (taken.bits q lt e).0 (sym (v.here q e) ∙ x) in (h.from q).1 (i.0 (was q e ∙ y.0), y.1)),
            (λ x. let y = (h.from q).0 x in v.here q e ∙ (taken.bits q lt e).1 (sym (was q e) ∙ i.1 y.0, y.1)),
          )
      bits q lt (inr ne) =
          let h = are_handed qs Free (Outside n) own.clusters were (λ f. absurd (cc)) in
          let v = storage_set g base own c k l b s part in
          let i = s.owners.cluster_bits q lt in (
            (λ x. (h.from q).1 (i.0 (sym (v.elsewhere q ne) ∙ x), λ t. ne (taken.inside q t).1)),
            (λ x. v.elsewhere q ne ∙ i.1 ((h.from q).0 x).0),
          )

pub gives_clusters : GivesClusters
gives_clusters g n took stock k l qs rest old b base own c s outs part at parts once given =
    record {
      new = new;
      spelt = storage_write g base own new c n k l b s given.whole part moves refl (λ q lt. bits q lt (same_or_not (q / 4096) k));
      moves = record { clusters = moves; numbers = still (IsSpaceMove n) own.numbers };
      outs = record { clusters = stock_to_free n qs rest took.clusters stock.clusters own.clusters parts once outs.clusters; numbers = outs.numbers };
    } where
      was : (q : ℕ) → q / 4096 ≡ k → cluster_bit g base q ≡ bit_at old (q % 4096)
      was q e = cluster_was g base own c s l old at k q part e

      were : AreOf qs (Outside n) own.clusters
      were q t = (outs.clusters.all q).1 (inr (parts.part_in q t))

      new : Owners
      new = record { clusters = handed qs Free own.clusters; numbers = own.numbers }

      moves : Moves (IsSpaceMove n) own.clusters new.clusters
      moves = handed_moves qs (Outside n) Free own.clusters were (IsSpaceMove n) refl tt

      bits : (q : ℕ) → q < total_of g → (q / 4096 ≡ k) ⊎ (q / 4096 ≢ k) → (cluster_bit g (slice_set base l b) q ≡ true) ↔ (slice_get new.clusters q ≡ Some Free)
      bits q lt (inl e) =
          let h = are_handed qs (Outside n) Free own.clusters were (λ f. absurd (cc)) in
          let v = storage_set g base own c k l b s part in
          let i = s.owners.cluster_bits q lt in (
            (λ x. (h.to q).1 (elim ((given.bits q lt e).0 (sym (v.here q e) ∙ x)) [ inl y ↦ inr (i.0 (was q e ∙ y)) | inr t ↦ inl t ])),
            (λ x. v.here q e ∙ (given.bits q lt e).1 (elim ((h.to q).0 x) [ inl t ↦ inr t | inr y ↦ inl (sym (was q e) ∙ i.1 y) ])),
          )
      bits q lt (inr ne) =
          let h = are_handed qs (Outside n) Free own.clusters were (λ f. absurd (cc)) in
          let v = storage_set g base own c k l b s part in
          let i = s.owners.cluster_bits q lt in (
            (λ x. (h.to q).1 (inr (i.0 (sym (v.elsewhere q ne) ∙ x)))),
            (λ x. elim ((h.to q).0 x) [ inl t ↦ absurd (ne (given.inside q t).1) | inr y ↦ v.elsewhere q ne ∙ i.1 y ]),
          )

-- the place of a file number
place_in : (g : Geometry) (m : ℕ) → IsFileNumber g m → m - 1 < g.files
place_in g m is = let a = is.from in let b = is.to in omega arith

pub takes_numbers : TakesNumbers
takes_numbers g n took stock l ps old b base own c s outs part at taken =
    record {
      new = new;
      spelt = index_write g base own new c n l b s taken.whole part refl moves bits blank;
      moves = record { clusters = still (IsSpaceMove n) own.clusters; numbers = moves };
      outs = record { clusters = outs.clusters; numbers = free_to_stock n ps took.numbers stock.numbers own.numbers taken.once were outs.numbers };
    } where
      was : (m : ℕ) → number_bit g base m ≡ bit_at old (m - 1)
      was m = number_was g base own c s l old at m part

      were : AreOf ps Free own.numbers
      were i t =
          let lt = taken.inside i t in
          let back : i + 1 - 1 ≡ i = omega arith in
          let is : IsFileNumber g (i + 1) = record { from = omega arith; to = omega arith } in
          ap (λ j. slice_get own.numbers j) (sym back) ∙ (s.owners.number_bits (i + 1) is).0 (was (i + 1) ∙ ap (λ j. bit_at old j) back ∙ taken.free i t)

      new : Owners
      new = record { clusters = own.clusters; numbers = handed ps (Outside n) own.numbers }

      moves : Moves (IsSpaceMove n) own.numbers new.numbers
      moves = handed_moves ps Free (Outside n) own.numbers were (IsSpaceMove n) tt refl

      bits : (m : ℕ) → IsFileNumber g m → (number_bit g (slice_set base l b) m ≡ false) ↔ (slice_get new.numbers (m - 1) ≡ Some Free)
      bits m is =
          let h = are_handed ps Free (Outside n) own.numbers were (λ f. absurd (cc)) in
          let v = index_set g base own c l b s part m in
          let lt = place_in g m is in
          let i = s.owners.number_bits m is in (
            (λ x. let y = (taken.bits (m - 1) lt).0 (sym v ∙ x) in (h.from (m - 1)).1 (i.0 (was m ∙ y.0), y.1)),
            (λ x. let y = (h.from (m - 1)).0 x in v ∙ (taken.bits (m - 1) lt).1 (sym (was m) ∙ i.1 y.0, y.1)),
          )

      blank : (m : ℕ) → IsFileNumber g m → slice_get own.numbers (m - 1) ≢ Some Free → slice_get new.numbers (m - 1) ≡ Some Free → IsBlank (header_block g base m)
      blank m is other now = absurd (other (((are_handed ps Free (Outside n) own.numbers were (λ f. absurd (cc))).from (m - 1)).0 now).0)

-- the numbers of a stock have free slots, where those of all numbers outside are free
pub stock_blank : (g : Geometry) (base : List Block) (own : Owners) (c : Cat) (n : ℕ) (took stock : Things) (ps rest : List ℕ) → Spells g base own c → AreBlank g base own → Outs n own took stock → Parts stock.numbers ps rest
    → HaveBlankSlots g base ps
stock_blank g base own c n took stock ps rest s blank outs parts i t =
    let out : slice_get own.numbers i ≡ Some (Outside n) = (outs.numbers.all i).1 (inr (parts.part_in i t)) in
    let lt = slice_get_within own.numbers i (Outside n) out in
    let count = s.counts.numbers in
    let back : i + 1 - 1 ≡ i = omega arith in
    blank (i + 1) n (record { from = omega arith; to = omega arith }) (ap (slice_get own.numbers) back ∙ out)

pub gives_numbers : GivesNumbers
gives_numbers g n took stock l ps rest old b base own c s outs part at parts once given slots =
    record {
      new = new;
      spelt = index_write g base own new c n l b s given.whole part refl moves bits freed;
      moves = record { clusters = still (IsSpaceMove n) own.clusters; numbers = moves };
      outs = record { clusters = outs.clusters; numbers = stock_to_free n ps rest took.numbers stock.numbers own.numbers parts once outs.numbers };
    } where
      was : (m : ℕ) → number_bit g base m ≡ bit_at old (m - 1)
      was m = number_was g base own c s l old at m part

      were : AreOf ps (Outside n) own.numbers
      were i t = (outs.numbers.all i).1 (inr (parts.part_in i t))

      new : Owners
      new = record { clusters = own.clusters; numbers = handed ps Free own.numbers }

      moves : Moves (IsSpaceMove n) own.numbers new.numbers
      moves = handed_moves ps (Outside n) Free own.numbers were (IsSpaceMove n) refl tt

      bits : (m : ℕ) → IsFileNumber g m → (number_bit g (slice_set base l b) m ≡ false) ↔ (slice_get new.numbers (m - 1) ≡ Some Free)
      bits m is =
          let h = are_handed ps (Outside n) Free own.numbers were (λ f. absurd (cc)) in
          let v = index_set g base own c l b s part m in
          let lt = place_in g m is in
          let i = s.owners.number_bits m is in (
            (λ x. (h.to (m - 1)).1 (elim ((given.bits (m - 1) lt).0 (sym v ∙ x)) [ inl y ↦ inr (i.0 (was m ∙ y)) | inr t ↦ inl t ])),
            (λ x. v ∙ (given.bits (m - 1) lt).1 (elim ((h.to (m - 1)).0 x) [ inl t ↦ inr t | inr y ↦ inl (sym (was m) ∙ i.1 y) ])),
          )

      freed : (m : ℕ) → IsFileNumber g m → slice_get own.numbers (m - 1) ≢ Some Free → slice_get new.numbers (m - 1) ≡ Some Free → IsBlank (header_block g base m)
      freed m is other now =
          let a = is.from in
          let back : m - 1 + 1 ≡ m = omega arith in
          elim (((are_handed ps (Outside n) Free own.numbers were (λ f. absurd (cc))).to (m - 1)).0 now) [ inl t ↦ subst (λ (k : ℕ). IsBlank (header_block g base k)) back (slots (m - 1) t) | inr y ↦ absurd (other y) ]
