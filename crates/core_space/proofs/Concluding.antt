-- What a search comes to by its tests.
use Rattle.std.proofs.Common.{◌≡◌, ◌≤◌, ◌<◌, ◌+◌, ◌-◌, ◌/◌, ◌++◌, ℕ, zero, suc, Bool, true, false, List, [], ◌∷◌, Option, Some, None, length, get_or, refl, sym, ap, ◌∙◌, inl, arith, cond, nat_le, nat_lt}
use Rattle.std.specs.Prelude.{min, take, drop}
use Rattle.std.proofs.Math.Nat.{div-le_self}
use Rattle.std.proofs.Math.Seq.{take-length}
use Rattle.std.proofs.lemmas.Bool.Decides.{nat_tests}
use Rattle.std.proofs.lemmas.List.FromFn.{get_or-map-range_with_len}
use Rattle.std.proofs.lemmas.List.{length-map, length-take, take-map}
use Rattle.base_words.specs.Fields.{Block}
use Rattle.plain_cat.specs.declared.reply.Refusal.TheVariants.{DeviceFull}
use Rattle.base_words.specs.Lists.{Has}
use Rattle.vol_parts.specs.declared.geometry.Geometry.{Geometry}
use Rattle.vol_parts.specs.declared.geometry.Part.TheVariants.{Storage}
use Rattle.vol_parts.specs.Parts.{IsGeometry, storage_blocks}
use Rattle.vol_spell.specs.Reading.{total_of}
use Rattle.vol_spell.specs.Places.{place_of}
use Rattle.op_law.specs.declared.need.PlanWrite.{PlanWrite}
use Rattle.core_space.specs.Searching.{Found, More, Short, Enough, cluster_places, free_number, free_in, free_from, number_write, taken_in, cluster_write, cluster_writes, found_clusters, found_number}
use Rattle.core_space.specs.declared.outcome.Search.{Search}
use Rattle.core_space.specs.Answering.{answered, answer, blocks_alone}
use Rattle.core_space.proofs.Ways.{more_of}
use Rattle.core_space.proofs.Chosen.{LiesIn, has_free, has_taken_in, free_number_clear}

-- ---- blocks behind the bitmap

pub no_item : (xs : List ℕ) → ((x : ℕ) → Has xs x → ⊥) → xs ≡ []
no_item [] none = refl
no_item (x ∷ xs) none = absurd (none x (inl refl))

-- no cluster of the volume has its bit behind the bitmap
pub behind_bitmap : (g : Geometry) (k q : ℕ) → storage_blocks (total_of g) ≤ k → LiesIn g k q → ⊥
behind_bitmap g k q h l = let lt = l.inside in let e = l.block in let behind : (total_of g + 4095) / 4096 ≤ k = h in absurd (omega arith)

pub free_none : (g : Geometry) (k : ℕ) (bs : List Block) → storage_blocks (total_of g) ≤ k → free_from g k bs ≡ []
unfolding free_from
free_none g k [] h = refl
free_none g k (b ∷ bs) h =
    ap (λ (xs : List ℕ). xs ++ free_from g (k + 1) bs) (no_item (free_in g k b) (λ q t. behind_bitmap g k q h (has_free g k b q t).0)) ∙ free_none g (k + 1) bs (omega arith)

writes_none : (g : Geometry) (wanted : ℕ) (number : Option ℕ) (before : List ℕ) (k : ℕ) (bs : List Block) → storage_blocks (total_of g) ≤ k → cluster_writes g wanted number before k bs ≡ []
unfolding cluster_writes
writes_none g wanted number before k [] h = refl
writes_none g wanted number before k (b ∷ bs) h =
    let rest = cluster_writes g wanted number (before ++ taken_in g wanted before k b) (k + 1) bs in
    ap (λ (qs : List ℕ). cluster_write g number before k b qs ++ rest) (no_item (taken_in g wanted before k b) (λ q t. behind_bitmap g k q h (has_taken_in g wanted before k b q t).0))
    ∙ writes_none g wanted number (before ++ taken_in g wanted before k b) (k + 1) bs (omega arith)

-- the first blocks say all, where those left out are behind the bitmap
pub free_first : (g : Geometry) (k n : ℕ) (bs : List Block) → (n < length bs → storage_blocks (total_of g) ≤ k + n) → free_from g k (take n bs) ≡ free_from g k bs
unfolding free_from
free_first g k zero [] h = refl
free_first g k zero (b ∷ bs) h = let behind = h (omega arith) in sym (free_none g k (b ∷ bs) (omega arith))
free_first g k (suc n) [] h = refl
free_first g k (suc n) (b ∷ bs) h = ap (λ (xs : List ℕ). free_in g k b ++ xs) (free_first g (k + 1) n bs (λ lt. let behind = h (omega arith) in omega arith))

writes_first : (g : Geometry) (wanted : ℕ) (number : Option ℕ) (before : List ℕ) (k n : ℕ) (bs : List Block) → (n < length bs → storage_blocks (total_of g) ≤ k + n) → cluster_writes g wanted number before k (take n bs) ≡ cluster_writes g wanted number before k bs
unfolding cluster_writes
writes_first g wanted number before k zero [] h = refl
writes_first g wanted number before k zero (b ∷ bs) h = let behind = h (omega arith) in sym (writes_none g wanted number before k (b ∷ bs) (omega arith))
writes_first g wanted number before k (suc n) [] h = refl
writes_first g wanted number before k (suc n) (b ∷ bs) h =
    let qs = taken_in g wanted before k b in
    ap (λ (ws : List PlanWrite). cluster_write g number before k b qs ++ ws) (writes_first g wanted number (before ++ qs) (k + 1) n bs (λ lt. let behind = h (omega arith) in omega arith))

-- ---- the tests

-- the storage bitmap has at most 16 blocks
pub at_most_16 : (g : Geometry) → IsGeometry g → storage_blocks (total_of g) ≤ 16
at_most_16 g is = let most = is.blocks_to in let less = div-le_self g.blocks g.cluster in omega arith

-- what was collected of the first 16 blocks
pub record Collected (g : Geometry) (clusters : ℕ) (number : Option ℕ) (first : List PlanWrite) (bs : List Block) (taken : List ℕ) (writes : List PlanWrite) : Type 0 where
  pub taken_is : taken ≡ take clusters (free_from g 0 bs)
  pub writes_is : writes ≡ first ++ cluster_writes g clusters number [] 0 bs

collected : (g : Geometry) (clusters : ℕ) (number : Option ℕ) (first : List PlanWrite) (bs : List Block) (taken : List ℕ) (writes : List PlanWrite) (n : ℕ) → IsGeometry g → n ≡ min (length bs) 16
    → taken ≡ take clusters (free_from g 0 (take n bs)) → writes ≡ first ++ cluster_writes g clusters number [] 0 (take n bs) → Collected g clusters number first bs taken writes
collected g clusters number first bs taken writes n is e t w =
    let most = at_most_16 g is in
    let behind : n < length bs → storage_blocks (total_of g) ≤ 0 + n = (λ lt. omega arith) in
    record {
      taken_is = t ∙ ap (take clusters) (free_first g 0 n bs behind);
      writes_is = w ∙ ap (λ (ws : List PlanWrite). first ++ ws) (writes_first g clusters number [] 0 n bs behind);
    }

by_tests : (t u : Bool) (ws : List PlanWrite) (a b : Bool) → t ≡ a → u ≡ b → cond t (Enough ws) (cond u More (Short DeviceFull)) ≡ cond a (Enough ws) (cond b More (Short DeviceFull))
by_tests t u ws a b e f = ap (λ x. cond x (Enough ws) (cond u More (Short DeviceFull))) e ∙ ap (λ x. cond a (Enough ws) (cond x More (Short DeviceFull))) f

is_enough : (n : ℕ) (free taken : List ℕ) → taken ≡ take n free → n ≤ length taken → nat_le n (length free) ≡ true
is_enough n free taken e le =
    let count = ap (λ (xs : List ℕ). length xs) e ∙ length-take n free in
    let all : n ≤ length free = omega (arith, count) in
    grind (arith, nat_tests)

is_few : (n : ℕ) (free taken : List ℕ) → taken ≡ take n free → length taken < n → nat_le n (length free) ≡ false
is_few n free taken e lt =
    let count = ap (λ (xs : List ℕ). length xs) e ∙ length-take n free in
    let few : length free < n = omega (arith, count) in
    grind (arith, nat_tests)

pub finds_enough : (g : Geometry) (clusters : ℕ) (number : Option ℕ) (first : List PlanWrite) (bs : List Block) (taken : List ℕ) (writes : List PlanWrite) → Collected g clusters number first bs taken writes → clusters ≤ length taken
    → found_clusters g clusters number first bs ≡ Enough writes
unfolding found_clusters
finds_enough g clusters number first bs taken writes t le =
    ap (λ x. cond x (Enough (first ++ cluster_writes g clusters number [] 0 bs)) (cond (nat_lt (length bs) (storage_blocks (total_of g))) More (Short DeviceFull))) (is_enough clusters (free_from g 0 bs) taken t.taken_is le)
    ∙ ap Enough (sym t.writes_is)

pub finds_more : (g : Geometry) (clusters : ℕ) (number : Option ℕ) (first : List PlanWrite) (bs : List Block) (taken : List ℕ) (writes : List PlanWrite) → Collected g clusters number first bs taken writes → length taken < clusters
    → length bs < storage_blocks (total_of g) → found_clusters g clusters number first bs ≡ More
unfolding found_clusters
finds_more g clusters number first bs taken writes t lt some =
    let left : nat_lt (length bs) (storage_blocks (total_of g)) ≡ true = grind (arith, nat_tests) in
    by_tests (nat_le clusters (length (free_from g 0 bs))) (nat_lt (length bs) (storage_blocks (total_of g))) (first ++ cluster_writes g clusters number [] 0 bs) false true (is_few clusters (free_from g 0 bs) taken t.taken_is lt) left

pub finds_short : (g : Geometry) (clusters : ℕ) (number : Option ℕ) (first : List PlanWrite) (bs : List Block) (taken : List ℕ) (writes : List PlanWrite) → Collected g clusters number first bs taken writes → length taken < clusters
    → storage_blocks (total_of g) ≤ length bs → found_clusters g clusters number first bs ≡ Short DeviceFull
unfolding found_clusters
finds_short g clusters number first bs taken writes t lt all =
    let left : nat_lt (length bs) (storage_blocks (total_of g)) ≡ false = grind (arith, nat_tests) in
    by_tests (nat_le clusters (length (free_from g 0 bs))) (nat_lt (length bs) (storage_blocks (total_of g))) (first ++ cluster_writes g clusters number [] 0 bs) false false (is_few clusters (free_from g 0 bs) taken t.taken_is lt) left

pub collected_of : (g : Geometry) (clusters : ℕ) (number : Option ℕ) (first : List PlanWrite) (looked : List (ℕ × Block)) (taken : List ℕ) (writes : List PlanWrite) (n : ℕ) → IsGeometry g → n ≡ min (length looked) 16
    → taken ≡ take clusters (free_from g 0 (blocks_alone (take n looked))) → writes ≡ first ++ cluster_writes g clusters number [] 0 (blocks_alone (take n looked)) → Collected g clusters number first (blocks_alone looked) taken writes
collected_of g clusters number first looked taken writes n is e t w =
    let count = length-map looked (λ (x : ℕ × Block). x.1) in
    let same : blocks_alone (take n looked) ≡ take n (blocks_alone looked) = sym (take-map (λ (x : ℕ × Block). x.1) n looked) in
    collected g clusters number first (blocks_alone looked) taken writes n is (e ∙ ap (λ k. min k 16) (sym count))
    (t ∙ ap (λ (bs : List Block). take clusters (free_from g 0 bs)) same) (w ∙ ap (λ (bs : List Block). first ++ cluster_writes g clusters number [] 0 bs) same)

-- ---- the next block

answers_alike : (a b : ℕ) (f : Found) → (f ≡ More → a ≡ b) → answered a f ≡ answered b f
answers_alike a b More same = ap (λ l. answered l More) (same refl)
answers_alike a b (Short r) same = refl
answers_alike a b (Enough ws) same = refl

next_place : (g : Geometry) (clusters : ℕ) (number : Option ℕ) (first : List PlanWrite) (bs : List Block) → found_clusters g clusters number first bs ≡ More → get_or (cluster_places g clusters) (length bs) 0 ≡ g.bitmap_lbn + 1 + length bs
next_place g zero number first bs e = let t = more_of g zero number first bs e in absurd (let none : length (free_from g 0 bs) < 0 = t.0 in omega arith)
next_place g (suc more) number first bs e =
    let t = more_of g (suc more) number first bs e in
    get_or-map-range_with_len (λ j. place_of g (Storage j)) 0 (storage_blocks (total_of g)) (length bs) (length bs) 0 t.1 (omega arith)

next_answer : (g : Geometry) (clusters : ℕ) (number : Option ℕ) (first : List PlanWrite) (bs : List Block) (n : ℕ) → n ≡ length bs
    → answered (g.bitmap_lbn + 1 + n) (found_clusters g clusters number first bs) ≡ answered (get_or (cluster_places g clusters) (length bs) 0) (found_clusters g clusters number first bs)
next_answer g clusters number first bs n e =
    answers_alike (g.bitmap_lbn + 1 + n) (get_or (cluster_places g clusters) (length bs) 0) (found_clusters g clusters number first bs)
    (λ more. ap (λ k. g.bitmap_lbn + 1 + k) e ∙ sym (next_place g clusters number first bs more))

-- the answer without a number
pub answer_without : (g : Geometry) (clusters : ℕ) (looked : List (ℕ × Block)) (ws : List PlanWrite) (s : Search) → ws ≡ [] → s ≡ answered (g.bitmap_lbn + 1 + length looked) (found_clusters g clusters None ws (blocks_alone looked))
    → s ≡ answer g clusters false (blocks_alone looked)
answer_without g clusters looked ws s e h =
    let count = length-map looked (λ (x : ℕ × Block). x.1) in
    h ∙ ap (λ (vs : List PlanWrite). answered (g.bitmap_lbn + 1 + length looked) (found_clusters g clusters None vs (blocks_alone looked))) e
    ∙ next_answer g clusters None [] (blocks_alone looked) (length looked) (sym count)

answer_behind : (g : Geometry) (clusters n : ℕ) (x : ℕ × Block) (looked : List (ℕ × Block)) (ws : List PlanWrite) (s : Search) → Some n ≡ free_number g x.1 → ws ≡ number_write g n x.1 ∷ []
    → s ≡ answered (g.bitmap_lbn + 1 + length looked) (found_clusters g clusters (Some n) ws (blocks_alone looked)) → s ≡ answer g clusters true (blocks_alone (x ∷ looked))
answer_behind g clusters n x looked ws s is e h =
    let bs = blocks_alone looked in
    let count = length-map looked (λ (y : ℕ × Block). y.1) in
    h ∙ ap (λ (vs : List PlanWrite). answered (g.bitmap_lbn + 1 + length looked) (found_clusters g clusters (Some n) vs bs)) e
    ∙ next_answer g clusters (Some n) (number_write g n x.1 ∷ []) bs (length looked) (sym count)
    ∙ ap (λ (o : Option ℕ). answered (get_or (cluster_places g clusters) (length bs) 0) (found_number g clusters x.1 o bs)) is

-- the answer with a number
pub answer_with : (g : Geometry) (clusters n : ℕ) (looked : List (ℕ × Block)) (ws : List PlanWrite) (s : Search) → 1 ≤ length looked → Some n ≡ free_number g (get_or looked 0 (0, [])).1 → ws ≡ number_write g n (get_or looked 0 (0, [])).1 ∷ []
    → s ≡ answered (g.bitmap_lbn + 1 + length (take (length looked - 1) (drop 1 looked))) (found_clusters g clusters (Some n) ws (blocks_alone (take (length looked - 1) (drop 1 looked)))) → s ≡ answer g clusters true (blocks_alone looked)
answer_with g clusters n [] ws s some is e h = absurd (omega arith)
answer_with g clusters n (x ∷ looked) ws s some is e h =
    let all : suc (length looked) - 1 ≡ length looked = omega arith in
    let rest : take (suc (length looked) - 1) looked ≡ looked = ap (λ k. take k looked) all ∙ take-length looked in
    answer_behind g clusters n x looked ws s is e
    (h ∙ ap (λ (xs : List (ℕ × Block)). answered (g.bitmap_lbn + 1 + length xs) (found_clusters g clusters (Some n) ws (blocks_alone xs))) rest)

-- a number that was found is one of the volume
pub found_number_is : (g : Geometry) (b : Block) (n : ℕ) → Some n ≡ free_number g b → (1 ≤ n) × (n ≤ g.files)
found_number_is g b n e = let h = free_number_clear g b n (sym e) in (h.from, h.to)
