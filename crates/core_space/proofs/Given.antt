-- The writes of a give-back.
use Rattle.std.proofs.Common.{◌≡◌, ◌<◌, ◌/◌, ℕ, true, List, [], ◌∷◌, inr, arith}
use Rattle.std.specs.Prelude.{filter, not}
use Rattle.std.proofs.lemmas.Bool.Decides.{nat_tests}
use Rattle.std.proofs.lemmas.Option.{slice_get_within}
use Rattle.base_words.specs.Fields.{Block}
use Rattle.plain_cat.specs.declared.cat.Cat.{Cat}
use Rattle.base_words.proofs.Listing.{has_filtered, has_passed, any_has}
use Rattle.extent_cache.specs.Stock.{is_covered}
use Rattle.base_words.specs.Lists.{Has}
use Rattle.vol_spell.specs.Owners.{Owners, Things, Outs}
use Rattle.base_words.proofs.Listing.{once_second, filtered}
use Rattle.vol_parts.specs.declared.geometry.Geometry.{Geometry}
use Rattle.vol_parts.specs.declared.geometry.Part.TheVariants.{IndexBitmap, Storage}
use Rattle.vol_spell.specs.Reading.{total_of}
use Rattle.vol_spell.specs.Places.{place_of}
use Rattle.vol_spell.specs.Spelling.{Spells}
use Rattle.vol_spell.proofs.Parts.{part_there}
use Rattle.vol_under.specs.Refilling.{LieIn, AreGiven}
use Rattle.vol_under.proofs.Refills.{stock_blank, gives_clusters, gives_numbers}
use Rattle.op_law.specs.Freeing.{with_free}
use Rattle.core_space.specs.Giving.{block_seen, numbers_back, clusters_back}
use Rattle.core_space.specs.Laws.{places_of, things_of, NumbersGoBack, ClustersGoBack}
use Rattle.core_space.proofs.Setting.{are_numbers_given, are_given}
use Rattle.vol_spell.proofs.Handing.{whole}

pub numbers_go_back : NumbersGoBack
numbers_go_back g cs [] looked n took base own c some s blank outs at = absurd (omega arith)
numbers_go_back g cs (m ∷ ns) looked n took base own c some s blank outs at =
    let old : Block = block_seen looked (place_of g IndexBitmap) in
    let fit = s.counts.geometry.files_to in
    let all = whole (places_of (m ∷ ns)) in
    gives_numbers g n took (things_of cs (m ∷ ns)) (place_of g IndexBitmap) (places_of (m ∷ ns)) [] old (numbers_back g (m ∷ ns) looked).block base own c s outs
    (part_there g base own c s IndexBitmap tt) at all tt (are_numbers_given g old m ns fit)
    (stock_blank g base own c n took (things_of cs (m ∷ ns)) (places_of (m ∷ ns)) [] s blank outs all)

pub covered_is : (k q : ℕ) → is_covered k q ≡ true → q / 4096 ≡ k
covered_is k q e = grind (arith, nat_tests)

-- what is outside at a node is of the volume
pub outside_within : (g : Geometry) (n : ℕ) (took : Things) (cs ns : List ℕ) (base : List Block) (own : Owners) (c : Cat) (q : ℕ) → Spells g base own c → Outs n own took (things_of cs ns) → Has cs q → q < total_of g
outside_within g n took cs ns base own c q s outs t =
    let count = s.counts.clusters in
    let lt = slice_get_within own.clusters q _ ((outs.clusters.all q).1 (inr t)) in
    omega (arith, count)

lie_in : (g : Geometry) (n k : ℕ) (took : Things) (cs ns : List ℕ) (base : List Block) (own : Owners) (c : Cat) → Spells g base own c → Outs n own took (things_of cs ns) → LieIn g k (filter (λ q. is_covered k q) cs)
lie_in g n k took cs ns base own c s outs q t =
    let h = has_filtered (λ x. is_covered k x) cs q t in
    (outside_within g n took cs ns base own c q s outs h.0, covered_is k q h.1)

some_given : (g : Geometry) (k : ℕ) (b : Block) (qs : List ℕ) (q : ℕ) → Has qs q → LieIn g k qs → AreGiven g k qs b (with_free b qs)
some_given g k b [] q t inside = absurd t
some_given g k b (p ∷ qs) q t inside = are_given g k b p qs inside

pub clusters_go_back : ClustersGoBack
clusters_go_back g cs ns looked k n took base own c is some s outs at =
    let old : Block = block_seen looked (place_of g (Storage k)) in
    let q = any_has (λ x. is_covered k x) cs some in
    gives_clusters g n took (things_of cs ns) k (place_of g (Storage k)) (filter (λ x. is_covered k x) cs) (filter (λ x. not (is_covered k x)) cs) old (clusters_back g cs looked k).block base own c s outs
    (part_there g base own c s (Storage k) is) at
    (filtered.parts (λ x. is_covered k x) cs)
    (filtered.once (λ x. not (is_covered k x)) cs (once_second took.clusters cs outs.clusters.once))
    (some_given g k old (filter (λ x. is_covered k x) cs) q.0 (has_passed (λ x. is_covered k x) cs q.0 q.1 q.2) (lie_in g n k took cs ns base own c s outs))
