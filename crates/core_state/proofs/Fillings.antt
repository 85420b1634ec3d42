-- What the writes of a filling, and those of a give-back, come to.
use Rattle.std.proofs.Common.{◌≡◌, ◌≤◌, ◌<◌, ◌+◌, ◌-◌, ◌/◌, ◌++◌, ◌&&◌, ◌||◌, not, ℕ, zero, suc, Bool, true, false, cond, List, [], ◌∷◌, Option, Some, None, is_some, filter, length, map, slice_get, nat_le, nat_lt, min, refl, sym, ap, subst, ◌∙◌, inl, inr, arith}
use Rattle.std.specs.List.{range_with_len}
use Rattle.std.proofs.lemmas.Bool.{and_parts}
use Rattle.std.proofs.lemmas.List.{length-map}
use Rattle.std.proofs.lemmas.Bool.Decides.{nat_tests}
use Rattle.std.proofs.lemmas.List.Filters.{length-filter_both}
use Rattle.base_words.specs.Fields.{Block}
use Rattle.plain_cat.specs.declared.cat.Cat.{Cat}
use Rattle.plain_cat.specs.declared.command.Cmd.{Cmd}
use Rattle.base_words.specs.Lists.{Has, Once, AreApart}
use Rattle.vol_spell.specs.Owners.{Owners, Things}
use Rattle.base_words.proofs.Listing.{has_first, has_second, once_in_a_row, once_first, once_second, once_apart}
use Rattle.vol_parts.specs.declared.geometry.Geometry.{Geometry}
use Rattle.vol_parts.specs.declared.geometry.Part.TheVariants.{IndexBitmap, Storage}
use Rattle.vol_parts.specs.Parts.{IsGeometry, storage_blocks}
use Rattle.vol_spell.specs.Reading.{total_of}
use Rattle.vol_spell.specs.Places.{place_of, IsPart}
use Rattle.vol_spell.specs.Spelling.{Spells}
use Rattle.vol_spell.proofs.Parts.{are_parts}
use Rattle.op_law.specs.declared.need.Need.TheVariants as need
use Rattle.op_law.specs.declared.need.PlanWrite.{PlanWrite}
use Rattle.op_law.specs.declared.seen.Seen.{Seen}
use Rattle.op_law.specs.Needs.{IsNext}
use Rattle.op_law.specs.Writing.{with_numbers}
use Rattle.extent_cache.specs.Stock.{put_in, with_one, merged}
use Rattle.extent_cache.specs.Takings.{holds_enough}
use Rattle.core_space.specs.Searching.{cluster_places, places, free_from, taken_in, cluster_write, cluster_writes}
use Rattle.core_space.proofs.Chosen.{LiesIn, has_taken_in}
use Rattle.core_space.specs.Filling.{spare_numbers, clusters_to_take, lacks_number, storage_part, storage_place, fill_place, lowest_numbers, numbers_taken, clusters_taken, fill_writes, filled}
use Rattle.core_space.specs.Laws.{taken_with, taken_before, IsEnough}
use Rattle.core_space.proofs.Filled.{filled_is, fills_enough, last_clusters, last_taken, taken_by, writes_fill}
use Rattle.core_space.proofs.Merged.{not_held, put_in_has, put_in_once, stocks_take_all}
use Rattle.core_state.specs.Worlds.{Stock, NodeState}
use Rattle.core_state.specs.Stocks.{roomless, filled_by}
use Rattle.core_state.specs.Searches.{AreUnderV, wanted_by, numbered_by, lacks_by}
use Rattle.core_state.specs.Stores.{HasFewNumbers}
use Rattle.core_state.proofs.Seeking.{some_quotient}
use Rattle.core_state.proofs.Serving.{length_taken}
use Rattle.core_state.proofs.StockSizes.{few_same}
use Rattle.core_space.proofs.Apart.{lbns}
use Rattle.core_space.proofs.Ways.{is_below}

-- ---- the writes of a filling are to blocks that lie apart

-- a block of the storage bitmap from block k on
record IsFrom (g : Geometry) (k l : ℕ) : Type 0 where
  block : ℕ
  behind : k ≤ block
  inside : IsPart g (Storage block)
  place : l ≡ place_of g (Storage block)

further : (g : Geometry) (k l : ℕ) → IsFrom g (k + 1) l → IsFrom g k l
further g k l f = let h = f.behind in record { block = f.block; behind = omega arith; inside = f.inside; place = f.place }

one_from : (g : Geometry) (before : List ℕ) (k : ℕ) (b : Block) (qs : List ℕ) (rest : List PlanWrite) (l : ℕ) → ((q : ℕ) → Has qs q → LiesIn g k q) → (Has (lbns rest) l → IsFrom g (k + 1) l)
    → Has (lbns (cluster_write g None before k b qs ++ rest)) l → IsFrom g k l
one_from g before k b [] rest l lies next t = further g k l (next t)
one_from g before k b (q ∷ qs) rest l lies next (inl e) =
    let h = lies q (inl refl) in
    let lt = h.inside in
    let block = h.block in
    let in_bitmap : k < (total_of g + 4095) / 4096 = omega arith in
    record { block = k; behind = omega arith; inside = in_bitmap; place = sym e }
one_from g before k b (q ∷ qs) rest l lies next (inr t) = further g k l (next t)

all_from : (g : Geometry) (wanted : ℕ) (before : List ℕ) (k : ℕ) (bs : List Block) (l : ℕ) → Has (lbns (cluster_writes g wanted None before k bs)) l → IsFrom g k l
unfolding cluster_writes
all_from g wanted before k [] l t = absurd t
all_from g wanted before k (b ∷ bs) l t =
    let qs = taken_in g wanted before k b in
    one_from g before k b qs (cluster_writes g wanted None (before ++ qs) (k + 1) bs) l (λ q u. (has_taken_in g wanted before k b q u).0) (all_from g wanted (before ++ qs) (k + 1) bs l) t

one_once : (g : Geometry) (before : List ℕ) (k : ℕ) (b : Block) (qs : List ℕ) (rest : List PlanWrite) → ((l : ℕ) → Has (lbns rest) l → IsFrom g (k + 1) l) → Once (lbns rest) → Once (lbns (cluster_write g None before k b qs ++ rest))
one_once g before k b [] rest next once = once
one_once g before k b (q ∷ qs) rest next once = (
  (λ t.
      let f = next (place_of g (Storage k)) t in
      let h = f.behind in
      let same : g.bitmap_lbn + 1 + k ≡ g.bitmap_lbn + 1 + f.block = f.place in
      absurd (omega arith)),
  once,
)

all_once : (g : Geometry) (wanted : ℕ) (before : List ℕ) (k : ℕ) (bs : List Block) → Once (lbns (cluster_writes g wanted None before k bs))
unfolding cluster_writes
all_once g wanted before k [] = tt
all_once g wanted before k (b ∷ bs) =
    let qs = taken_in g wanted before k b in
    one_once g before k b qs (cluster_writes g wanted None (before ++ qs) (k + 1) bs) (all_from g wanted (before ++ qs) (k + 1) bs) (all_once g wanted (before ++ qs) (k + 1) bs)

lbns_with : (ns : List ℕ) (ws : List PlanWrite) → lbns (map (with_numbers ns) ws) ≡ lbns ws
lbns_with ns [] = refl
lbns_with ns (w ∷ ws) = ap (λ ls. w.lbn ∷ ls) (lbns_with ns ws)

with_once : (g : Geometry) (wanted : ℕ) (ns : List ℕ) (bs : List Block) → Once (lbns (map (with_numbers ns) (cluster_writes g wanted None [] 0 bs)))
with_once g wanted ns bs = subst Once (sym (lbns_with ns (cluster_writes g wanted None [] 0 bs))) (all_once g wanted [] 0 bs)

fills_once : (g : Geometry) (wanted : ℕ) (lacks : Bool) (bs : List Block) (base : List Block) (own : Owners) (c : Cat) → Spells g base own c → Once (lbns (fill_writes g wanted lacks bs))
unfolding fill_writes
fills_once g wanted false bs base own c s = with_once g (clusters_taken g wanted bs) [] bs
fills_once g wanted true [] base own c s = with_once g (clusters_taken g wanted []) [] []
fills_once g wanted true (index ∷ bs) base own c s = (
  (λ t.
      let ns = lowest_numbers g index in
      let f = all_from g (clusters_taken g wanted bs) [] 0 bs (place_of g IndexBitmap) (subst (λ (ls : List ℕ). Has ls (place_of g IndexBitmap)) (lbns_with ns (cluster_writes g (clusters_taken g wanted bs) None [] 0 bs)) t) in
      let parts = are_parts g base own c s in
      absurd (let same : IndexBitmap ≡ Storage f.block = parts.apart IndexBitmap (Storage f.block) tt f.inside f.place in cc)),
  with_once g (clusters_taken g wanted bs) (lowest_numbers g index) bs,
)

pub fill_once : (g : Geometry) (need held : ℕ) (lacks : Bool) (bs : List Block) (ws : List PlanWrite) (base : List Block) (own : Owners) (c : Cat) → filled g need held lacks bs ≡ Some ws → Spells g base own c → Once (map (λ w. w.lbn) ws)
fill_once g need held lacks bs ws base own c e s = subst (λ (vs : List PlanWrite). Once (lbns vs)) (sym (filled_is g need held lacks bs ws e).1) (fills_once g (clusters_to_take need held) lacks bs base own c s)

-- ---- its looks are in order

get_range : (f : ℕ → ℕ) (a c k : ℕ) → k < c → slice_get (map f (range_with_len a c)) k ≡ Some (f (a + k))
get_range f a zero k lt = absurd (omega arith)
get_range f a (suc c) zero lt = ap (λ j. Some (f j)) (let e : a ≡ a + 0 = omega arith in e)
get_range f a (suc c) (suc k) lt = get_range f (a + 1) c k (omega arith) ∙ ap (λ j. Some (f j)) (let e : a + 1 + k ≡ a + suc k = omega arith in e)

storage_at : (g : Geometry) (wanted : ℕ) (bs : List Block) (l : ℕ) → storage_place g wanted bs ≡ Some l → slice_get (cluster_places g 1) (length bs) ≡ Some l
storage_at g wanted bs l e = by_test (nat_lt (length (free_from g 0 bs)) wanted && nat_lt (length bs) (storage_blocks (total_of g))) refl e where
  by_test : (b : Bool) → (nat_lt (length (free_from g 0 bs)) wanted && nat_lt (length bs) (storage_blocks (total_of g))) ≡ b → cond b (Some (place_of g (Storage (length bs)))) None ≡ Some l → slice_get (cluster_places g 1) (length bs) ≡ Some l
  by_test true t f =
      let lt = is_below (length bs) (storage_blocks (total_of g)) (and_parts (nat_lt (length (free_from g 0 bs)) wanted) (nat_lt (length bs) (storage_blocks (total_of g))) t).1 in
      get_range (λ j. place_of g (Storage j)) 0 (storage_blocks (total_of g)) (length bs) lt ∙ ap (λ j. Some (place_of g (Storage j))) (let z : 0 + length bs ≡ length bs = omega arith in z) ∙ f
  by_test false t f = absurd (let h : None ≡ Some l = f in cc)

pub fill_at : (g : Geometry) (wanted : ℕ) (lacks : Bool) (bs : List Block) (l : ℕ) → fill_place g wanted lacks bs ≡ Some l → slice_get (places g 1 lacks) (length bs) ≡ Some l
fill_at g wanted false bs l e = storage_at g wanted bs l e
fill_at g wanted true [] l e = e
fill_at g wanted true (index ∷ bs) l e = storage_at g wanted bs l e

some_blocks : (t : ℕ) → 1 ≤ t → nat_lt 0 ((t + 4095) / 4096) ≡ true
some_blocks t le = let a : 1 ≤ (t + 4095) / 4096 = omega arith in grind (arith, nat_tests)

-- a filling of a stock that is not enough looks first
pub fill_first : (g : Geometry) (need : ℕ) (numbered : Bool) (stock : Stock) → IsGeometry g → holds_enough need numbered (roomless stock) ≡ false
    → is_some (fill_place g (clusters_to_take need (length stock.clusters)) (lacks_number numbered stock.numbers) []) ≡ true
unfolding free_from
fill_first g need numbered stock is short = by_lacks (lacks_number numbered stock.numbers) refl where
  takes_some : (a b : ℕ) → nat_le a b ≡ false → nat_lt 0 (cond (nat_le a b) 0 (a + 16 - b)) ≡ true
  takes_some a b e = grind (arith, nat_tests)

  no_more : (a b c : Bool) → (a && (not b || c)) ≡ false → (b && not c) ≡ false → a ≡ false
  no_more true true true e f = absurd (let z : true ≡ false = e in cc)
  no_more true true false e f = absurd (let z : true ≡ false = f in cc)
  no_more true false c e f = absurd (let z : true ≡ false = e in cc)
  no_more false b c e f = refl

  there : nat_lt 0 (storage_blocks (total_of g)) ≡ true
  there = some_blocks (total_of g) (some_quotient g.blocks g.cluster (g.blocks / g.cluster) refl is.cluster_from is.cluster_to is.blocks_from)

  by_tests : (t u : Bool) → t ≡ true → u ≡ true → is_some (cond (t && u) (Some (place_of g (Storage 0))) None) ≡ true
  by_tests t u e f = (λ i. is_some (cond (e i && f i) (Some (place_of g (Storage 0))) None))

  by_lacks : (b : Bool) → lacks_number numbered stock.numbers ≡ b → is_some (fill_place g (clusters_to_take need (length stock.clusters)) b []) ≡ true
  by_lacks true e = refl
  by_lacks false e =
      let less = no_more (nat_le need (length stock.clusters)) numbered (nat_lt 0 (length stock.numbers)) short e in
      by_tests (nat_lt 0 (clusters_to_take need (length stock.clusters))) (nat_lt 0 (storage_blocks (total_of g))) (takes_some need (length stock.clusters) less) there

-- and of one that is enough it does not look
pub fill_over : (g : Geometry) (need : ℕ) (numbered : Bool) (stock : Stock) (bs : List Block) → holds_enough need numbered (roomless stock) ≡ true → fill_place g (clusters_to_take need (length stock.clusters)) (lacks_number numbered stock.numbers) bs ≡ None
fill_over g need numbered stock bs e = (λ i. fill_place g (cond (tests.0 i) 0 (need + 16 - length stock.clusters)) (no_lack numbered (nat_lt 0 (length stock.numbers)) tests.1 i) bs) ∙ none_at where
  tests : (nat_le need (length stock.clusters) ≡ true) × ((not numbered || nat_lt 0 (length stock.numbers)) ≡ true)
  tests = and_parts (nat_le need (length stock.clusters)) (not numbered || nat_lt 0 (length stock.numbers)) e

  no_lack : (b c : Bool) → (not b || c) ≡ true → (b && not c) ≡ false
  no_lack true true f = refl
  no_lack true false f = absurd (let z : false ≡ true = f in cc)
  no_lack false c f = refl

  never : (k : ℕ) → nat_lt k 0 ≡ false
  never k = grind (arith, nat_tests)

  none_at : storage_place g 0 bs ≡ None
  none_at = ap (λ b. cond (b && nat_lt (length bs) (storage_blocks (total_of g))) (Some (place_of g (Storage (length bs)))) None) (never (length (free_from g 0 bs)))

-- ---- what it takes

with_numbers_is : (ns : List ℕ) (ws : List PlanWrite) (w : PlanWrite) → Has (map (with_numbers ns) ws) w → w.numbers ≡ ns
with_numbers_is ns [] w h = absurd h
with_numbers_is ns (v ∷ ws) w (inl e) = ap (λ (x : PlanWrite). x.numbers) (sym e)
with_numbers_is ns (v ∷ ws) w (inr h) = with_numbers_is ns ws w h

-- a write of a filling says all the numbers that are taken
fill_numbers : (g : Geometry) (wanted : ℕ) (lacks : Bool) (bs : List Block) (w : PlanWrite) → Has (fill_writes g wanted lacks bs) w → w.numbers ≡ numbers_taken g lacks bs
unfolding fill_writes
fill_numbers g wanted false bs w h = with_numbers_is [] (cluster_writes g (clusters_taken g wanted bs) None [] 0 bs) w h
fill_numbers g wanted true [] w h = with_numbers_is [] (cluster_writes g (clusters_taken g wanted []) None [] 0 []) w h
fill_numbers g wanted true (index ∷ bs) w (inl e) = ap (λ (x : PlanWrite). x.numbers) (sym e)
fill_numbers g wanted true (index ∷ bs) w (inr h) = with_numbers_is (lowest_numbers g index) (cluster_writes g (clusters_taken g wanted bs) None [] 0 bs) w h

pub get_has : (ws : List PlanWrite) (k : ℕ) (w : PlanWrite) → slice_get ws k ≡ Some w → Has ws w
get_has [] k w e = absurd (let f : None ≡ Some w = e in cc)
get_has (v ∷ ws) zero w e = inl (let f : Some v ≡ Some w = e in cc)
get_has (v ∷ ws) (suc k) w e = inr (get_has ws k w e)

has_get : (ws : List PlanWrite) (w : PlanWrite) → Has ws w → (k : ℕ) × (slice_get ws k ≡ Some w)
has_get [] w h = absurd h
has_get (v ∷ ws) w (inl e) = (0, ap Some e)
has_get (v ∷ ws) w (inr h) = let r = has_get ws w h in (suc r.0, r.1)

-- all writes of a filling are under V
pub fill_under : (g : Geometry) (need held : ℕ) (lacks : Bool) (bs : List Block) (ws : List PlanWrite) → IsGeometry g → filled g need held lacks bs ≡ Some ws → AreUnderV ws
fill_under g need held lacks bs ws is enough w h = let k = has_get ws w h in (writes_fill g need held lacks bs ws k.0 w is enough k.1).lock

-- what the last write of a filling has taken
pub record TakesSoMuch (g : Geometry) (need held : ℕ) (lacks : Bool) (bs : List Block) (w : PlanWrite) : Type 0 where
  pub clusters : need ≤ held + length w.clusters
  pub numbers : lacks ≡ true → 1 ≤ length w.numbers

taken_length : (g : Geometry) (need held : ℕ) (lacks : Bool) (bs : List Block) (ws : List PlanWrite) → filled g need held lacks bs ≡ Some ws → length (last_clusters [] ws) ≡ clusters_taken g (clusters_to_take need held) (storage_part lacks bs)
taken_length g need held lacks bs ws e =
    let n = clusters_taken g (clusters_to_take need held) (storage_part lacks bs) in
    ap (λ vs. length (last_clusters [] vs)) (filled_is g need held lacks bs ws e).1 ∙ ap length (taken_by g (clusters_to_take need held) lacks bs)
    ∙ length_taken n (free_from g 0 (storage_part lacks bs)) (smaller (clusters_to_take need held) (length (free_from g 0 (storage_part lacks bs)))) where
      smaller : (a b : ℕ) → min a b ≤ b
      smaller a b = omega arith

pub fill_last : (g : Geometry) (need held : ℕ) (lacks : Bool) (bs : List Block) (ws : List PlanWrite) (k : ℕ) (w : PlanWrite) → filled g need held lacks bs ≡ Some ws → slice_get ws k ≡ Some w → k + 1 ≡ length ws → TakesSoMuch g need held lacks bs w
fill_last g need held lacks bs ws k w e at last =
    let enough : IsEnough g need held lacks bs = fills_enough g need held lacks bs ws e in
    let there : taken_before ws (length ws) ≡ taken_before ws (suc k) = ap (taken_before ws) (sym last ∙ (let z : k + 1 ≡ suc k = omega arith in z)) in
    let clusters : last_clusters [] ws ≡ w.clusters = sym (last_taken ws) ∙ ap (λ (t : Things). t.clusters) there ∙ ap (λ (o : Option PlanWrite). (taken_with o).clusters) at in
    let count : length w.clusters ≡ clusters_taken g (clusters_to_take need held) (storage_part lacks bs) = ap length (sym clusters) ∙ taken_length g need held lacks bs ws e in
    let numbers : w.numbers ≡ numbers_taken g lacks bs = fill_numbers g (clusters_to_take need held) lacks bs w (subst (λ (vs : List PlanWrite). Has vs w) (filled_is g need held lacks bs ws e).1 (get_has ws k w at)) in
    record {
      clusters = (let a = enough.clusters in omega arith);
      numbers = λ l. let a = enough.number l in let b : length w.numbers ≡ length (numbers_taken g lacks bs) = ap length numbers in omega arith;
    }

-- ---- a stock that takes it

length_put : (x : ℕ) (held : List ℕ) → length (put_in x 1 held) ≡ suc (length held)
length_put x held =
    let both : length (filter (λ y. nat_lt y x) held) + length (filter (λ y. nat_le x y) held) ≡ length held = length-filter_both (λ y. nat_lt y x) (λ y. nat_le x y) (λ y. not_less x y) held in
    joined (filter (λ y. nat_lt y x) held) (filter (λ y. nat_le x y) held) ∙ ap suc both where
      not_less : (a b : ℕ) → nat_le a b ≡ not (nat_lt b a)
      not_less a b = grind (arith, nat_tests)

      joined : (xs ys : List ℕ) → length (xs ++ (x ∷ ys)) ≡ suc (length xs + length ys)
      joined [] ys = omega arith
      joined (z ∷ xs) ys = let e = joined xs ys in omega arith

length_merged : (xs held : List ℕ) → Once (xs ++ held) → length (merged xs held) ≡ length xs + length held
length_merged [] held once = omega arith
length_merged (x ∷ xs) held once =
    let out : Has held x → ⊥ = λ t. once.0 (has_second xs held x t) in
    let next = put_in x 1 held in
    let same : with_one x held ≡ next = ap (λ b. cond b held next) (not_held x held out) in
    let apart : AreApart xs next = λ q t u. elim ((put_in_has x held q).0 u) [
      | inl e ↦ once.0 (has_first xs held x (subst (λ (k : ℕ). Has xs k) (sym e) t))
      | inr v ↦ once_apart xs held once.1 q t v
    ] in
    let rest : length (merged xs next) ≡ length xs + length next = length_merged xs next (once_in_a_row xs next (once_first xs held once.1) (put_in_once x held out (once_second xs held once.1)) apart) in
    let more : length next ≡ suc (length held) = length_put x held in
    ap (λ (l : List ℕ). length (merged xs l)) same ∙ rest ∙ (let e : length xs + length next ≡ suc (length xs) + length held = omega arith in e)

not_empty : (xs : List ℕ) (q : ℕ) → Has xs q → nat_lt 0 (length xs) ≡ true
not_empty [] q h = absurd h
not_empty (x ∷ xs) q h = some (length xs) where
  some : (k : ℕ) → nat_lt 0 (suc k) ≡ true
  some k = grind (arith, nat_tests)

some_in : (xs : List ℕ) → 1 ≤ length xs → (q : ℕ) × Has xs q
some_in [] le = absurd (omega arith)
some_in (x ∷ xs) le = (x, inl refl)

-- with what a filling takes it has enough
pub filled_enough : (g : Geometry) (need : ℕ) (numbered : Bool) (stock : Stock) (bs : List Block) (w : PlanWrite) → TakesSoMuch g need (length stock.clusters) (lacks_number numbered stock.numbers) bs w
    → Once (w.clusters ++ stock.clusters) → Once (w.numbers ++ stock.numbers) → holds_enough need numbered (roomless (filled_by w stock)) ≡ true
filled_enough g need numbered stock bs w takes once once_numbers = both (clusters_there (length (merged w.clusters stock.clusters)) (length_merged w.clusters stock.clusters once)) (by_wanted numbered refl) where
  both : {a b : Bool} → a ≡ true → b ≡ true → (a && b) ≡ true
  both e f = λ i. e i && f i

  clusters_there : (k : ℕ) → k ≡ length w.clusters + length stock.clusters → nat_le need k ≡ true
  clusters_there k e = let a = takes.clusters in is_le need k (omega arith) where
    is_le : (a b : ℕ) → a ≤ b → nat_le a b ≡ true
    is_le a b le = grind (arith, nat_tests)

  there : (q : ℕ) → Has (w.numbers ++ stock.numbers) q → nat_lt 0 (length (merged w.numbers stock.numbers)) ≡ true
  there q h = not_empty (merged w.numbers stock.numbers) q (((stocks_take_all w.numbers stock.numbers once_numbers).1 q).1 h)

  by_lacks : (b : Bool) → nat_lt 0 (length stock.numbers) ≡ b → numbered ≡ true → nat_lt 0 (length (merged w.numbers stock.numbers)) ≡ true
  by_lacks true e f = let q = some_in stock.numbers (from_one (length stock.numbers) e) in there q.0 (has_second w.numbers stock.numbers q.0 q.1) where
    from_one : (k : ℕ) → nat_lt 0 k ≡ true → 1 ≤ k
    from_one k e = grind (arith, nat_tests)
  by_lacks false e f = let q = some_in w.numbers (takes.numbers (λ i. f i && not (e i))) in there q.0 (has_first w.numbers stock.numbers q.0 q.1)

  by_wanted : (b : Bool) → numbered ≡ b → (not numbered || nat_lt 0 (length (merged w.numbers stock.numbers))) ≡ true
  by_wanted true e = ap (λ b. not b || nat_lt 0 (length (merged w.numbers stock.numbers))) e ∙ by_lacks (nat_lt 0 (length stock.numbers)) refl e
  by_wanted false e = ap (λ b. not b || nat_lt 0 (length (merged w.numbers stock.numbers))) e

-- where numbers are taken there is a write
some_index : (g : Geometry) (wanted : ℕ) (bs : List Block) → 1 ≤ length (numbers_taken g true bs) → fill_writes g wanted true bs ≡ [] → ⊥
unfolding fill_writes
some_index g wanted [] le e = absurd (omega arith)
some_index g wanted (index ∷ bs) le e = absurd (let f : suc (length (map (with_numbers (lowest_numbers g index)) (cluster_writes g (clusters_taken g wanted bs) None [] 0 bs))) ≡ 0 = ap length e in omega arith)

none_last : 0 ≡ length (last_clusters [] [])
none_last = ap length (last_taken [])

-- a stock that is not enough is filled by some writes
pub fill_some : (g : Geometry) (need : ℕ) (numbered : Bool) (stock : Stock) (bs : List Block) (ws : List PlanWrite) → holds_enough need numbered (roomless stock) ≡ false
    → filled g need (length stock.clusters) (lacks_number numbered stock.numbers) bs ≡ Some ws → 0 < length ws
fill_some g need numbered stock bs (w ∷ ws) short e = omega arith
fill_some g need numbered stock bs [] short e =
    let enough : IsEnough g need (length stock.clusters) (lacks_number numbered stock.numbers) bs = fills_enough g need (length stock.clusters) (lacks_number numbered stock.numbers) bs [] e in
    let none : 0 ≡ clusters_taken g (clusters_to_take need (length stock.clusters)) (storage_part (lacks_number numbered stock.numbers) bs) = none_last ∙ taken_length g need (length stock.clusters) (lacks_number numbered stock.numbers) bs [] e in
    let count : need ≤ length stock.clusters = (let a = enough.clusters in omega arith) in
    absurd (let z : true ≡ false = sym (λ i. is_le need (length stock.clusters) count i && (by_lacks (lacks_number numbered stock.numbers) refl) i) ∙ short in cc) where
      is_le : (a b : ℕ) → a ≤ b → nat_le a b ≡ true
      is_le a b le = grind (arith, nat_tests)

      not_lacking : (b c : Bool) → (b && not c) ≡ false → (not b || c) ≡ true
      not_lacking true true f = refl
      not_lacking true false f = absurd (let z : true ≡ false = f in cc)
      not_lacking false c f = refl

      by_lacks : (b : Bool) → lacks_number numbered stock.numbers ≡ b → (not numbered || nat_lt 0 (length stock.numbers)) ≡ true
      by_lacks false f = not_lacking numbered (nat_lt 0 (length stock.numbers)) f
      by_lacks true f = absurd (no_index f) where
        no_index : lacks_number numbered stock.numbers ≡ true → ⊥
        no_index f = some_index g (clusters_to_take need (length stock.clusters)) bs
            (subst (λ (b : Bool). 1 ≤ length (numbers_taken g b bs)) f ((fills_enough g need (length stock.clusters) (lacks_number numbered stock.numbers) bs [] e).number f))
            (sym ((filled_is g need (length stock.clusters) (lacks_number numbered stock.numbers) bs [] e).1 ∙ ap (λ b. fill_writes g (clusters_to_take need (length stock.clusters)) b bs) f))

-- ---- how many file numbers the stock has then: its last write puts into it all that was taken

pub few_filled : (s r : NodeState) (x : Cmd) → s.cmd ≡ Some x → (g : Geometry) (wanted held : ℕ) (bs : List Block) (ws : List PlanWrite) (v : PlanWrite) → filled g wanted held (lacks_by x s.seen s.stock) bs ≡ Some ws → Has ws v → Once (v.numbers ++ s.stock.numbers)
    → r.cmd ≡ s.cmd → r.seen ≡ s.seen → r.stock ≡ filled_by v s.stock → IsNext x s.seen (need.Space (wanted_by x s.seen) (numbered_by x s.seen)) → HasFewNumbers s → HasFewNumbers r
few_filled s r x is g wanted held bs ws v enough among once cmd seen stock next few = by_lacks (numbered_by x s.seen) refl (nat_lt 0 (length s.stock.numbers)) refl where
  count : length r.stock.numbers ≡ length (merged v.numbers s.stock.numbers)
  count = λ i. length (stock i).numbers

  most : length (merged v.numbers s.stock.numbers) ≡ length v.numbers + length s.stock.numbers
  most = length_merged v.numbers s.stock.numbers once

  taken : v.numbers ≡ numbers_taken g (lacks_by x s.seen s.stock) bs
  taken = fill_numbers g (clusters_to_take wanted held) (lacks_by x s.seen s.stock) bs v (subst (λ (vs : List PlanWrite). Has vs v) (filled_is g wanted held (lacks_by x s.seen s.stock) bs ws enough).1 among)

  none_lacks : lacks_by x s.seen s.stock ≡ false → HasFewNumbers r
  none_lacks e =
      let none : v.numbers ≡ [] = taken ∙ ap (λ b. numbers_taken g b bs) e in
      let zero : length v.numbers ≡ 0 = ap (λ (ns : List ℕ). length ns) none in
      few_same s r cmd seen (omega (arith, count, most, zero)) few

  by_lacks : (b : Bool) → numbered_by x s.seen ≡ b → (t : Bool) → nat_lt 0 (length s.stock.numbers) ≡ t → HasFewNumbers r
  by_lacks false e t f = none_lacks (ap (λ c. c && not (nat_lt 0 (length s.stock.numbers))) e)
  by_lacks true e true f = none_lacks (λ i. e i && not (f i))
  by_lacks true e false f = inr (record {
    command = x;
    is = cmd ∙ is;
    clusters = wanted_by x s.seen;
    next = subst (λ (k : Seen). IsNext x k (need.Space (wanted_by x s.seen) true)) (sym seen) (next ∙ ap (need.Space (wanted_by x s.seen)) e);
    most =
        let empty : length s.stock.numbers ≡ 0 = grind (arith, nat_tests) in
        let nine : length v.numbers ≤ 9 = subst (λ (ns : List ℕ). length ns ≤ 9) (sym taken) (fills_enough g wanted held (lacks_by x s.seen s.stock) bs ws enough).few in
        omega (arith, count, most, empty, nine);
  })

-- a filling has taken at most one number and the spare ones
pub fill_few : (g : Geometry) (need held : ℕ) (lacks : Bool) (bs : List Block) (ws : List PlanWrite) (k : ℕ) → filled g need held lacks bs ≡ Some ws → length (taken_before ws k).numbers ≤ 1 + spare_numbers
fill_few g need held lacks bs ws zero e = omega arith
fill_few g need held lacks bs ws (suc k) e = by_write (slice_get ws k) refl where
  by_write : (o : Option PlanWrite) → slice_get ws k ≡ o → length (taken_with o).numbers ≤ 9
  by_write None at = omega arith
  by_write (Some v) at =
      let is : v.numbers ≡ numbers_taken g lacks bs = fill_numbers g (clusters_to_take need held) lacks bs v (subst (λ (vs : List PlanWrite). Has vs v) (filled_is g need held lacks bs ws e).1 (get_has ws k v at)) in
      let few : length v.numbers ≤ 9 = subst (λ (ns : List ℕ). length ns ≤ 9) (sym is) (fills_enough g need held lacks bs ws e).few in
      let same = length-map v.numbers (λ n. n - 1) in
      omega (arith, few, same)
