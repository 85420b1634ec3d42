-- What a search found, by its tests; and that it ends.
use Rattle.std.proofs.Common.{◌≡◌, ◌≤◌, ◌<◌, ◌++◌, ℕ, zero, suc, Bool, true, false, List, [], ◌∷◌, Option, Some, None, length, refl, arith, cond, nat_le, nat_lt}
use Rattle.std.proofs.lemmas.Bool.Decides.{nat_tests}
use Rattle.std.proofs.lemmas.List.FromFn.{length-map-range_with_len}
use Rattle.base_words.specs.Fields.{Block}
use Rattle.plain_cat.specs.declared.reply.Refusal.{Refusal}
use Rattle.plain_cat.specs.declared.reply.Refusal.TheVariants.{IndexFull, DeviceFull}
use Rattle.vol_parts.specs.declared.geometry.Geometry.{Geometry}
use Rattle.vol_parts.specs.declared.geometry.Part.TheVariants.{Storage}
use Rattle.vol_parts.specs.Parts.{storage_blocks}
use Rattle.vol_spell.specs.Reading.{total_of}
use Rattle.vol_spell.specs.Places.{place_of}
use Rattle.op_law.specs.declared.need.PlanWrite.{PlanWrite}
use Rattle.core_space.specs.Searching.{More, Short, Enough, cluster_places, free_number, free_from, number_write, cluster_writes, found_clusters, found_number}
use Rattle.core_space.specs.Taking.{SearchEnds}

-- the three ways of a search for clusters, by its two tests
more_tests : (t u : Bool) (ws : List PlanWrite) → cond t (Enough ws) (cond u More (Short DeviceFull)) ≡ More → (t ≡ false) × (u ≡ true)
more_tests true u ws e = absurd (let f : Enough ws ≡ More = e in cc)
more_tests false true ws e = (refl, refl)
more_tests false false ws e = absurd (let f : Short DeviceFull ≡ More = e in cc)

short_tests : (t u : Bool) (ws : List PlanWrite) (r : Refusal) → cond t (Enough ws) (cond u More (Short DeviceFull)) ≡ Short r → (t ≡ false) × (u ≡ false) × (r ≡ DeviceFull)
short_tests true u ws r e = absurd (let f : Enough ws ≡ Short r = e in cc)
short_tests false true ws r e = absurd (let f : More ≡ Short r = e in cc)
short_tests false false ws r e = (refl, refl, let f : Short DeviceFull ≡ Short r = e in cc)

enough_tests : (t u : Bool) (ws vs : List PlanWrite) → cond t (Enough ws) (cond u More (Short DeviceFull)) ≡ Enough vs → (t ≡ true) × (vs ≡ ws)
enough_tests true u ws vs e = (refl, let f : Enough ws ≡ Enough vs = e in cc)
enough_tests false true ws vs e = absurd (let f : More ≡ Enough vs = e in cc)
enough_tests false false ws vs e = absurd (let f : Short DeviceFull ≡ Enough vs = e in cc)

is_above : (a b : ℕ) → nat_le a b ≡ false → b < a
is_above a b e = grind (arith, nat_tests)

pub is_at_most : (a b : ℕ) → nat_le a b ≡ true → a ≤ b
is_at_most a b e = grind (arith, nat_tests)

pub is_below : (a b : ℕ) → nat_lt a b ≡ true → a < b
is_below a b e = grind (arith, nat_tests)

is_not_below : (a b : ℕ) → nat_lt a b ≡ false → b ≤ a
is_not_below a b e = grind (arith, nat_tests)

pub more_of : (g : Geometry) (clusters : ℕ) (number : Option ℕ) (first : List PlanWrite) (bs : List Block) → found_clusters g clusters number first bs ≡ More
    → (length (free_from g 0 bs) < clusters) × (length bs < storage_blocks (total_of g))
unfolding found_clusters
more_of g clusters number first bs e =
    let t = more_tests (nat_le clusters (length (free_from g 0 bs))) (nat_lt (length bs) (storage_blocks (total_of g))) (first ++ cluster_writes g clusters number [] 0 bs) e in
    (is_above clusters (length (free_from g 0 bs)) t.0, is_below (length bs) (storage_blocks (total_of g)) t.1)

pub short_of : (g : Geometry) (clusters : ℕ) (number : Option ℕ) (first : List PlanWrite) (bs : List Block) (r : Refusal) → found_clusters g clusters number first bs ≡ Short r
    → (length (free_from g 0 bs) < clusters) × (storage_blocks (total_of g) ≤ length bs) × (r ≡ DeviceFull)
unfolding found_clusters
short_of g clusters number first bs r e =
    let t = short_tests (nat_le clusters (length (free_from g 0 bs))) (nat_lt (length bs) (storage_blocks (total_of g))) (first ++ cluster_writes g clusters number [] 0 bs) r e in
    (is_above clusters (length (free_from g 0 bs)) t.0, is_not_below (length bs) (storage_blocks (total_of g)) t.1, t.2)

pub enough_of : (g : Geometry) (clusters : ℕ) (number : Option ℕ) (first : List PlanWrite) (bs : List Block) (ws : List PlanWrite) → found_clusters g clusters number first bs ≡ Enough ws
    → (clusters ≤ length (free_from g 0 bs)) × (ws ≡ first ++ cluster_writes g clusters number [] 0 bs)
unfolding found_clusters
enough_of g clusters number first bs ws e =
    let t = enough_tests (nat_le clusters (length (free_from g 0 bs))) (nat_lt (length bs) (storage_blocks (total_of g))) (first ++ cluster_writes g clusters number [] 0 bs) ws e in
    (is_at_most clusters (length (free_from g 0 bs)) t.0, t.1)

-- ---- the end

clusters_end : (g : Geometry) (clusters : ℕ) (number : Option ℕ) (first : List PlanWrite) (bs : List Block) → length (cluster_places g clusters) ≤ length bs → found_clusters g clusters number first bs ≡ More → ⊥
clusters_end g zero number first bs h e = let t = more_of g zero number first bs e in let none : length (free_from g 0 bs) < 0 = t.0 in absurd (omega arith)
clusters_end g (suc more) number first bs h e =
    let t = more_of g (suc more) number first bs e in
    let count = length-map-range_with_len (λ j. place_of g (Storage j)) 0 (storage_blocks (total_of g)) in
    let all : storage_blocks (total_of g) ≤ length bs = omega (arith, count) in
    let some : length bs < storage_blocks (total_of g) = t.1 in
    absurd (omega arith)

number_end : (g : Geometry) (clusters : ℕ) (index : Block) (n : Option ℕ) (bs : List Block) → length (cluster_places g clusters) ≤ length bs → found_number g clusters index n bs ≡ More → ⊥
number_end g clusters index None bs h e = absurd (let f : Short IndexFull ≡ More = e in cc)
number_end g clusters index (Some n) bs h e = clusters_end g clusters (Some n) (number_write g n index ∷ []) bs h e

pub search_ends : SearchEnds
search_ends g clusters false bs h e = clusters_end g clusters None [] bs h e
search_ends g clusters true [] h e = absurd (let f : suc (length (cluster_places g clusters)) ≤ 0 = h in omega arith)
search_ends g clusters true (index ∷ bs) h e =
    let f : suc (length (cluster_places g clusters)) ≤ suc (length bs) = h in
    number_end g clusters index (free_number g index) bs (omega arith) e
