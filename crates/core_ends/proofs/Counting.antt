-- How many blocks the rules for space look at, and how many writes they make.
use Rattle.std.proofs.Common.{◌≡◌, ◌≤◌, ◌<◌, ◌+◌, ◌-◌, ◌++◌, ◌==◌, ◌&&◌, ◌||◌, not, nat_lt, ℕ, zero, suc, Bool, true, false, cond, List, [], ◌∷◌, Option, Some, None, length, map, filter, find, option_map, slice_get, refl, sym, ap, subst, ◌∙◌, arith}
use Rattle.std.specs.List.{range_with_len}
use Rattle.std.proofs.lemmas.Bool.Decides.{nat_tests}
use Rattle.std.proofs.lemmas.List.{length-append, length-map, length-drop}
use Rattle.std.proofs.lemmas.List.FromFn.{length-range_with_len}
use Rattle.std.proofs.lemmas.Slice.Zip.{length-zip}
use Rattle.base_words.specs.Fields.{Block}
use Rattle.plain_cat.specs.declared.reply.Refusal.TheVariants.{IndexFull}
use Rattle.vol_parts.specs.declared.geometry.Geometry.{Geometry}
use Rattle.vol_parts.specs.declared.geometry.Part.TheVariants.{IndexBitmap, Storage}
use Rattle.vol_parts.specs.Parts.{IsGeometry, storage_blocks}
use Rattle.vol_spell.specs.Reading.{total_of}
use Rattle.vol_spell.specs.Places.{place_of}
use Rattle.op_law.specs.declared.need.PlanWrite.{PlanWrite}
use Rattle.op_law.specs.Writing.{with_numbers}
use Rattle.core_space.specs.Searching.{places, cluster_places, taken_in, cluster_write, cluster_writes, free_number, number_write, More, Short, Enough, found_number, found}
use Rattle.core_space.specs.Taking.{looked}
use Rattle.core_space.specs.Answering.{blocks_alone}
use Rattle.core_space.proofs.Ways.{enough_of}
use Rattle.core_space.specs.declared.run.SpaceRun.{SpaceRun}
use Rattle.core_space.specs.Filling.{clusters_to_take, storage_part, numbers_taken, clusters_taken, index_writes, storage_writes, fill_writes, suffices, filled}
use Rattle.core_space.specs.Giving.{is_seen, has_covered, is_wanting, storage_range, clusters_place, give_place, index_back, clusters_back, numbers_back, give_writes}
use Rattle.core_state.specs.Worlds.{Stock}
use Rattle.core_ends.specs.Measure.{one_if, looks_left, give_left_by}
use Rattle.op_law.proofs.Counting.{few_storage}

-- ---- lists

filter_few : {T : Type 0} (p : T → Bool) (xs : List T) → length (filter p xs) ≤ length xs
filter_few p [] = omega arith
filter_few p (x ∷ xs) = by_test (p x) (filter_few p xs) where
  by_test : (t : Bool) → length (filter p xs) ≤ length xs → length (cond t (x ∷ filter p xs) (filter p xs)) ≤ length (x ∷ xs)
  by_test true le = omega arith
  by_test false le = omega arith

-- fewer pass a test that is stricter, and one less where one fails it that passes the other
filter_less : (p q : ℕ → Bool) (xs : List ℕ) → ((x : ℕ) → q x ≡ true → p x ≡ true) → length (filter q xs) ≤ length (filter p xs)
filter_less p q [] goes = omega arith
filter_less p q (x ∷ xs) goes = by_tests (q x) (p x) (goes x) (filter_less p q xs goes) where
  by_tests : (a b : Bool) → (a ≡ true → b ≡ true) → length (filter q xs) ≤ length (filter p xs) → length (cond a (x ∷ filter q xs) (filter q xs)) ≤ length (cond b (x ∷ filter p xs) (filter p xs))
  by_tests true true f le = omega arith
  by_tests true false f le = absurd (let z : false ≡ true = f refl in cc)
  by_tests false true f le = omega arith
  by_tests false false f le = le

filter_one : (p q : ℕ → Bool) (xs : List ℕ) (k : ℕ) → ((x : ℕ) → q x ≡ true → p x ≡ true) → find p xs ≡ Some k → q k ≡ false → length (filter q xs) < length (filter p xs)
filter_one p q [] k goes e out = absurd (let f : None ≡ Some k = e in cc)
filter_one p q (x ∷ xs) k goes e out = by_tests (q x) (p x) refl (goes x) e (filter_one p q xs k goes) (filter_less p q xs goes) where
  by_tests : (a b : Bool) → q x ≡ a → (a ≡ true → b ≡ true) → cond b (Some x) (find p xs) ≡ Some k → (find p xs ≡ Some k → q k ≡ false → length (filter q xs) < length (filter p xs)) → length (filter q xs) ≤ length (filter p xs)
      → length (cond a (x ∷ filter q xs) (filter q xs)) < length (cond b (x ∷ filter p xs) (filter p xs))
  by_tests true true is f e rest le =
      let g : Some x ≡ Some k = e in
      let same : x ≡ k = cc in
      absurd (let z : true ≡ false = sym is ∙ ap q same ∙ out in cc)
  by_tests true false is f e rest le = absurd (let z : false ≡ true = f refl in cc)
  by_tests false true is f e rest le = omega arith
  by_tests false false is f e rest le = rest e out

-- ---- the looks of a give-back

seen_still : (xs ys : List (ℕ × Block)) (l : ℕ) → is_seen xs l ≡ true → is_seen (xs ++ ys) l ≡ true
seen_still [] ys l e = absurd (let f : false ≡ true = e in cc)
seen_still (x ∷ xs) ys l e = by_test (x.0 == l) e (seen_still xs ys l) where
  by_test : (b : Bool) → (b || is_seen xs l) ≡ true → (is_seen xs l ≡ true → is_seen (xs ++ ys) l ≡ true) → (b || is_seen (xs ++ ys) l) ≡ true
  by_test true f rest = refl
  by_test false f rest = rest f

same_itself : (l : ℕ) → (l == l) ≡ true
same_itself l = grind (arith, nat_tests)

seen_now : (xs : List (ℕ × Block)) (l : ℕ) (b : Block) → is_seen (xs ++ (l, b) ∷ []) l ≡ true
seen_now [] l b = ap (λ t. t || false) (same_itself l)
seen_now (x ∷ xs) l b = by_test (x.0 == l) (seen_now xs l b) where
  by_test : (t : Bool) → is_seen (xs ++ (l, b) ∷ []) l ≡ true → (t || is_seen (xs ++ (l, b) ∷ []) l) ≡ true
  by_test true e = refl
  by_test false e = e

module _ (g : Geometry) (stock : Stock) (looked : List (ℕ × Block)) (lbn : ℕ) (b : Block) where
  abbrev more : List (ℕ × Block)
  more = looked ++ (lbn, b) ∷ []

  not_seen : (t u : Bool) → (t ≡ true → u ≡ true) → (a : Bool) → (a && not u) ≡ true → (a && not t) ≡ true
  not_seen true true f a e = e
  not_seen true false f a e = absurd (let z : false ≡ true = f refl in cc)
  not_seen false true f true e = refl
  not_seen false true f false e = e
  not_seen false false f a e = e

  wants_less : (k : ℕ) → is_wanting g stock.clusters more k ≡ true → is_wanting g stock.clusters looked k ≡ true
  wants_less k = not_seen (is_seen looked (place_of g (Storage k))) (is_seen more (place_of g (Storage k))) (seen_still looked ((lbn, b) ∷ []) (place_of g (Storage k))) (has_covered stock.clusters k)

  abbrev index_by : List (ℕ × Block) → Bool
  index_by bs = nat_lt 0 (length stock.numbers) && not (is_seen bs (place_of g IndexBitmap))

  one_less : (t u : Bool) → (u ≡ true → t ≡ true) → one_if u ≤ one_if t
  one_less true true f = omega arith
  one_less true false f = omega arith
  one_less false true f = absurd (let z : false ≡ true = f refl in cc)
  one_less false false f = omega arith

  index_less : one_if (index_by more) ≤ one_if (index_by looked)
  index_less = one_less (index_by looked) (index_by more) (not_seen (is_seen looked (place_of g IndexBitmap)) (is_seen more (place_of g IndexBitmap)) (seen_still looked ((lbn, b) ∷ []) (place_of g IndexBitmap)) (nat_lt 0 (length stock.numbers)))

  no_and : (a : Bool) → (a && false) ≡ false
  no_and true = refl
  no_and false = refl

  clusters_less : length (filter (is_wanting g stock.clusters more) (storage_range g)) ≤ length (filter (is_wanting g stock.clusters looked) (storage_range g))
  clusters_less = filter_less (is_wanting g stock.clusters looked) (is_wanting g stock.clusters more) (storage_range g) wants_less

  -- a look leaves less to look at
  pub looks_less : give_place g stock.clusters stock.numbers looked ≡ Some lbn → looks_left g stock more < looks_left g stock looked
  unfolding give_place
  looks_less next = by_index (index_by looked) refl next where
    by_place : (o : Option ℕ) → find (is_wanting g stock.clusters looked) (storage_range g) ≡ o → option_map (λ k. place_of g (Storage k)) o ≡ Some lbn → looks_left g stock more < looks_left g stock looked
    by_place None e f = absurd (let z : None ≡ Some lbn = f in cc)
    by_place (Some k) e f =
        let z : Some (place_of g (Storage k)) ≡ Some lbn = f in
        let is : place_of g (Storage k) ≡ lbn = cc in
        let seen : is_seen more (place_of g (Storage k)) ≡ true = subst (λ (l : ℕ). is_seen more l ≡ true) (sym is) (seen_now looked lbn b) in
        let out : is_wanting g stock.clusters more k ≡ false = ap (λ t. has_covered stock.clusters k && not t) seen ∙ no_and (has_covered stock.clusters k) in
        let less = filter_one (is_wanting g stock.clusters looked) (is_wanting g stock.clusters more) (storage_range g) k wants_less e out in
        let le = index_less in
        omega arith

    by_index : (t : Bool) → index_by looked ≡ t → cond t (Some (place_of g IndexBitmap)) (clusters_place g stock.clusters looked) ≡ Some lbn → looks_left g stock more < looks_left g stock looked
    by_index true e f =
        let z : Some (place_of g IndexBitmap) ≡ Some lbn = f in
        let is : place_of g IndexBitmap ≡ lbn = cc in
        let seen : is_seen more (place_of g IndexBitmap) ≡ true = subst (λ (l : ℕ). is_seen more l ≡ true) (sym is) (seen_now looked lbn b) in
        let none : index_by more ≡ false = ap (λ t. nat_lt 0 (length stock.numbers) && not t) seen ∙ no_and (nat_lt 0 (length stock.numbers)) in
        let a : one_if (index_by more) ≡ 0 = ap one_if none in
        let c : one_if (index_by looked) ≡ 1 = ap one_if e in
        let le = clusters_less in
        omega arith
    by_index false e f = by_place (find (is_wanting g stock.clusters looked) (storage_range g)) refl f

one_few : (t : Bool) → one_if t ≤ 1
one_few true = omega arith
one_few false = omega arith

pub looks_few : (g : Geometry) (stock : Stock) (bs : List (ℕ × Block)) → IsGeometry g → looks_left g stock bs ≤ 17
looks_few g stock bs geo =
    let a = one_few (nat_lt 0 (length stock.numbers) && not (is_seen bs (place_of g IndexBitmap))) in
    let f = filter_few (is_wanting g stock.clusters bs) (storage_range g) in
    let e = length-range_with_len 0 (storage_blocks (total_of g)) in
    let top = few_storage g geo in
    omega arith

pub back_few : (g : Geometry) (cs ns : List ℕ) (bs : List (ℕ × Block)) → IsGeometry g → length (give_writes g cs ns bs) ≤ 17
unfolding give_writes
back_few g cs ns bs geo =
    let a = length-append (index_back g ns bs) (map (clusters_back g cs bs) (filter (has_covered cs) (storage_range g))) in
    let i = by_test (nat_lt 0 (length ns)) in
    let m = length-map (filter (has_covered cs) (storage_range g)) (clusters_back g cs bs) in
    let f = filter_few (has_covered cs) (storage_range g) in
    let e = length-range_with_len 0 (storage_blocks (total_of g)) in
    let top = few_storage g geo in
    omega arith where
      by_test : (t : Bool) → length (cond t (numbers_back g ns bs ∷ []) []) ≤ 1
      by_test true = omega arith
      by_test false = omega arith

-- ---- those of a filling, and of a search

places_few : (g : Geometry) (k : ℕ) (t : Bool) → IsGeometry g → length (places g k t) ≤ 17
places_few g k t geo = by_number t (by_clusters k) where
  by_clusters : (j : ℕ) → length (cluster_places g j) ≤ 16
  by_clusters zero = omega arith
  by_clusters (suc j) =
      let m = length-map (range_with_len 0 (storage_blocks (total_of g))) (λ i. place_of g (Storage i)) in
      let e = length-range_with_len 0 (storage_blocks (total_of g)) in
      let top = few_storage g geo in
      omega arith

  by_number : (b : Bool) → length (cluster_places g k) ≤ 16 → length (places g k b) ≤ 17
  by_number true le = omega arith
  by_number false le = omega arith

pub looked_few : (g : Geometry) (k : ℕ) (t : Bool) (ls : List (ℕ × Block)) → IsGeometry g → ls ≡ looked g k t (blocks_alone ls) → length ls ≤ 17
looked_few g k t ls geo e =
    let z = length-zip (places g k t) (blocks_alone ls) in
    let few = places_few g k t geo in
    let same = ap (λ (bs : List (ℕ × Block)). length bs) e in
    omega arith

cluster_few : (g : Geometry) (wanted : ℕ) (number : Option ℕ) (before : List ℕ) (k : ℕ) (bs : List Block) → length (cluster_writes g wanted number before k bs) ≤ length bs
unfolding cluster_writes
cluster_few g wanted number before k [] = omega arith
cluster_few g wanted number before k (b ∷ bs) =
    let a = length-append (cluster_write g number before k b (taken_in g wanted before k b)) (cluster_writes g wanted number (before ++ taken_in g wanted before k b) (k + 1) bs) in
    let one = by_taken (taken_in g wanted before k b) in
    let rest = cluster_few g wanted number (before ++ taken_in g wanted before k b) (k + 1) bs in
    omega arith where
      by_taken : (qs : List ℕ) → length (cluster_write g number before k b qs) ≤ 1
      by_taken [] = omega arith
      by_taken (q ∷ qs) = omega arith

found_few_by : (g : Geometry) (clusters : ℕ) (index : Block) (n : Option ℕ) (bs : List Block) (ws : List PlanWrite) → found_number g clusters index n bs ≡ Enough ws → length ws ≤ 1 + length bs
found_few_by g clusters index None bs ws e = absurd (let f : Short IndexFull ≡ Enough ws = e in cc)
found_few_by g clusters index (Some n) bs ws e =
    let h = (enough_of g clusters (Some n) (number_write g n index ∷ []) bs ws e).1 in
    let l = ap (λ (vs : List PlanWrite). length vs) h in
    let c = cluster_few g clusters (Some n) [] 0 bs in
    omega arith

pub found_few : (g : Geometry) (clusters : ℕ) (t : Bool) (bs : List Block) (ws : List PlanWrite) → found g clusters t bs ≡ Enough ws → length ws ≤ 1 + length bs
found_few g clusters false bs ws e =
    let h = (enough_of g clusters None [] bs ws e).1 in
    let l = ap (λ (vs : List PlanWrite). length vs) h in
    let c = cluster_few g clusters None [] 0 bs in
    omega arith
found_few g clusters true [] ws e = absurd (let f : More ≡ Enough ws = e in cc)
found_few g clusters true (index ∷ bs) ws e = let h = found_few_by g clusters index (free_number g index) bs ws e in omega arith

index_few : (g : Geometry) (lacks : Bool) (bs : List Block) → length (index_writes g lacks bs) ≤ 1
index_few g true [] = omega arith
index_few g true (b ∷ bs) = omega arith
index_few g false [] = omega arith
index_few g false (b ∷ bs) = omega arith

part_few : (lacks : Bool) (bs : List Block) → length (storage_part lacks bs) ≤ length bs
part_few true bs = let e = length-drop 1 bs in omega arith
part_few false bs = omega arith

fill_few : (g : Geometry) (wanted : ℕ) (lacks : Bool) (bs : List Block) → length (fill_writes g wanted lacks bs) ≤ 1 + length bs
unfolding fill_writes
fill_few g wanted lacks bs =
    let count : ℕ = clusters_taken g wanted (storage_part lacks bs) in
    let a = length-append (index_writes g lacks bs) (storage_writes g count (numbers_taken g lacks bs) (storage_part lacks bs)) in
    let i = index_few g lacks bs in
    let m = length-map (cluster_writes g count None [] 0 (storage_part lacks bs)) (with_numbers (numbers_taken g lacks bs)) in
    let c = cluster_few g count None [] 0 (storage_part lacks bs) in
    let p = part_few lacks bs in
    omega arith

pub filled_few : (g : Geometry) (need held : ℕ) (lacks : Bool) (bs : List Block) (ws : List PlanWrite) → filled g need held lacks bs ≡ Some ws → length ws ≤ 1 + length bs
unfolding filled
filled_few g need held lacks bs ws e = by_test (suffices g need held lacks bs) e where
  by_test : (t : Bool) → cond t (Some (fill_writes g (clusters_to_take need held) lacks bs)) None ≡ Some ws → length ws ≤ 1 + length bs
  by_test true f =
      let z : Some (fill_writes g (clusters_to_take need held) lacks bs) ≡ Some ws = f in
      let is : fill_writes g (clusters_to_take need held) lacks bs ≡ ws = cc in
      let l = ap (λ (vs : List PlanWrite). length vs) is in
      let c = fill_few g (clusters_to_take need held) lacks bs in
      omega arith
  by_test false f = absurd (let z : None ≡ Some ws = f in cc)

-- ---- what a give-back has left

-- with writes, as many as are not made
pub writes_left : (g : Geometry) (stock : Stock) (run : SpaceRun) (ws : List PlanWrite) (k : ℕ) (v : PlanWrite) → slice_get ws k ≡ Some v → give_left_by g stock run ws ≡ length run.writes - run.made
writes_left g stock run [] k v e = absurd (let f : None ≡ Some v = e in cc)
writes_left g stock run (y ∷ ws) k v e = refl

pub write_within : (ws : List PlanWrite) (k : ℕ) (v : PlanWrite) → slice_get ws k ≡ Some v → k < length ws
write_within [] k v e = absurd (let f : None ≡ Some v = e in cc)
write_within (y ∷ ws) zero v e = omega arith
write_within (y ∷ ws) (suc k) v e = let h = write_within ws k v e in omega arith

pub blocks_few : (ls : List (ℕ × Block)) → length (blocks_alone ls) ≡ length ls
blocks_few ls = length-map ls (λ l. l.1)
