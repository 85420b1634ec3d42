-- A search that was refused was refused for its reason.
use Rattle.std.proofs.Common.{◌≡◌, ◌≤◌, ◌<◌, ◌+◌, ◌-◌, ◌*◌, ◌/◌, ◌%◌, ◌++◌, ◌&&◌, ℕ, zero, suc, Bool, true, false, List, [], ◌∷◌, Option, Some, None, length, slice_get, refl, sym, ap, subst, ◌∙◌, inl, inr, arith, cond, nat_lt, length-append}
use Rattle.std.specs.Prelude.{min, not, find, filter, count_by}
use Rattle.std.specs.List.{range_with_len, zip}
use Rattle.std.proofs.lemmas.Bool.Decides.{nat_tests}
use Rattle.std.proofs.lemmas.List.Elements.{filter-append}
use Rattle.std.proofs.lemmas.List.Sums.{length-filter, sum_by-cons}
use Rattle.std.proofs.lemmas.Option.{get_or_from_slice_get}
use Rattle.base_words.specs.Fields.{Block}
use Rattle.fx_bitmap.specs.Bits.{bit_at}
use Rattle.plain_cat.specs.declared.reply.Refusal.{Refusal}
use Rattle.plain_cat.specs.declared.reply.Refusal.TheVariants.{IndexFull, DeviceFull}
use Rattle.plain_cat.specs.declared.cat.Cat.{Cat}
use Rattle.plain_rules.specs.Lookups.{free_clusters, has_free_number}
use Rattle.base_words.specs.Lists.{Has, StandsIn}
use Rattle.vol_spell.specs.Owners.{Owners}
use Rattle.vol_parts.specs.declared.geometry.Geometry.{Geometry}
use Rattle.vol_parts.specs.Parts.{storage_blocks}
use Rattle.vol_spell.specs.Reading.{total_of, cluster_bit, number_bit}
use Rattle.vol_spell.specs.Spelling.{Spells}
use Rattle.vol_under.specs.Shortage.{IsFreeByBits}
use Rattle.vol_under.proofs.Short.{free_by_bits}
use Rattle.core_space.specs.Searching.{More, Short, storage_places, cluster_places, free_number, clusters_in, free_in, free_from, number_write, found_number}
use Rattle.core_space.specs.Taking.{looked, IsTooLittle, ShortageIsExact, CommandIsShort}
use Rattle.core_space.proofs.Ways.{short_of}
use Rattle.core_space.proofs.Ranges.{range_parts}
use Rattle.core_space.proofs.Chosen.{lies_in}
use Rattle.core_space.proofs.Taken.{number_bit_seen, number_there}

-- ---- lists

filter_same : (p q : ℕ → Bool) (xs : List ℕ) → ((x : ℕ) → Has xs x → p x ≡ q x) → filter p xs ≡ filter q xs
filter_same p q [] same = refl
filter_same p q (x ∷ xs) same =
    ap (λ b. cond b (x ∷ filter p xs) (filter p xs)) (same x (inl refl))
    ∙ ap (λ ys. cond (q x) (x ∷ ys) ys) (filter_same p q xs (λ y t. same y (inr t)))

not_found : (p : ℕ → Bool) (xs : List ℕ) (x : ℕ) → find p xs ≡ None → Has xs x → p x ≡ false
not_found p [] x e t = absurd t
not_found p (y ∷ xs) x e t = by_test (p y) refl e t (λ f u. not_found p xs x f u) where
  by_test : (b : Bool) → p y ≡ b → cond b (Some y) (find p xs) ≡ None → Has (y ∷ xs) x → (find p xs ≡ None → Has xs x → p x ≡ false) → p x ≡ false
  by_test true f e t rest = absurd (let g : Some y ≡ None = e in cc)
  by_test false f e t rest = elim t [ inl same ↦ ap p (sym same) ∙ f | inr u ↦ rest e u ]

-- ---- clusters

module _ (g : Geometry) (base : List Block) where
  in_block : (k : ℕ) (b : Block) → slice_get base (g.bitmap_lbn + 1 + k) ≡ Some b → length (filter (cluster_bit g base) (clusters_in g k)) ≡ length (free_in g k b)
  unfolding free_in
  in_block k b at = ap (λ (xs : List ℕ). length xs) (filter_same (cluster_bit g base) (λ q. bit_at b (q % 4096)) (clusters_in g k) (λ q t.
      let l = lies_in g k q t in
      let e : g.bitmap_lbn + 1 + q / 4096 ≡ g.bitmap_lbn + 1 + k = ap (λ j. g.bitmap_lbn + 1 + j) l.block in
      ap (λ (x : Block). bit_at x (q % 4096)) (get_or_from_slice_get base (g.bitmap_lbn + 1 + q / 4096) b [] (ap (λ j. slice_get base j) e ∙ at))))

  -- the clusters from block k on are those of the block and those behind it
  behind_rest : (k n : ℕ) → n ≡ total_of g - 4096 * (k + 1) → range_with_len (4096 * k + (min (4096 * k + 4096) (total_of g) - 4096 * k)) n ≡ range_with_len (4096 * (k + 1)) n
  behind_rest k zero e = refl
  behind_rest k (suc n) e = ap (λ a. range_with_len a (suc n)) (let f : 4096 * k + (min (4096 * k + 4096) (total_of g) - 4096 * k) ≡ 4096 * (k + 1) = omega arith in f)

  from_block : (k : ℕ) → range_with_len (4096 * k) (total_of g - 4096 * k) ≡ clusters_in g k ++ range_with_len (4096 * (k + 1)) (total_of g - 4096 * (k + 1))
  from_block k =
      let m = min (4096 * k + 4096) (total_of g) - 4096 * k in
      let n = total_of g - 4096 * (k + 1) in
      let e : total_of g - 4096 * k ≡ m + n = omega arith in
      ap (λ i. range_with_len (4096 * k) i) e ∙ range_parts (4096 * k) m n ∙ ap (λ (xs : List ℕ). range_with_len (4096 * k) m ++ xs) (behind_rest k n refl)

  free_behind : (k count : ℕ) (bs : List Block) → total_of g ≤ 4096 * (k + count) → count ≤ length bs → StandsIn base (zip (storage_places g k count) bs)
      → length (filter (cluster_bit g base) (range_with_len (4096 * k) (total_of g - 4096 * k))) ≤ length (free_from g k bs)
  unfolding free_from
  free_behind k zero bs fit le stood =
      let none : 0 ≡ total_of g - 4096 * k = omega arith in
      subst (λ (n : ℕ). length (filter (cluster_bit g base) (range_with_len (4096 * k) n)) ≤ length (free_from g k bs)) none (omega arith)
  free_behind k (suc count) [] fit le stood = absurd (omega arith)
  free_behind k (suc count) (b ∷ bs) fit le stood =
      let rest = free_behind (k + 1) count bs (omega arith) (omega arith) stood.1 in
      let here = in_block k b stood.0 in
      let split = ap (λ (xs : List ℕ). length (filter (cluster_bit g base) xs)) (from_block k) ∙ ap (λ (xs : List ℕ). length xs) (filter-append (cluster_bit g base) (clusters_in g k) (range_with_len (4096 * (k + 1)) (total_of g - 4096 * (k + 1))))
      ∙ length-append (filter (cluster_bit g base) (clusters_in g k)) (filter (cluster_bit g base) (range_with_len (4096 * (k + 1)) (total_of g - 4096 * (k + 1)))) in
      let long = length-append (free_in g k b) (free_from g (k + 1) bs) in
      omega (arith, split, long, here, rest)

few_clusters : (g : Geometry) (clusters : ℕ) (bs base : List Block) (c : Cat) → IsFreeByBits g base c → length (free_from g 0 bs) < clusters → storage_blocks (total_of g) ≤ length bs → StandsIn base (zip (cluster_places g clusters) bs) → free_clusters c < clusters
few_clusters g zero bs base c free few all stood = absurd (omega arith)
few_clusters g (suc more) bs base c free few all stood =
    let fit : total_of g ≤ 4096 * (0 + (total_of g + 4095) / 4096) = omega arith in
    let h = free_behind g base 0 (storage_blocks (total_of g)) bs fit all stood in
    let count = free.clusters ∙ sym (length-filter (cluster_bit g base) (range_with_len 0 (total_of g))) in
    let same : length (filter (cluster_bit g base) (range_with_len (4096 * 0) (total_of g - 4096 * 0))) ≡ length (filter (cluster_bit g base) (range_with_len 0 (total_of g))) = ap (λ n. length (filter (cluster_bit g base) (range_with_len 0 n))) (let e : total_of g - 0 ≡ total_of g = omega arith in e) in
    omega (arith, h, count, same)

-- ---- numbers

-- a test that fails everywhere counts none
none_counted : (p : ℕ → Bool) (xs : List ℕ) → ((x : ℕ) → Has xs x → p x ≡ false) → count_by p xs ≡ 0
none_counted p [] none = refl
none_counted p (x ∷ xs) none =
    let sum = sum_by-cons (λ k. cond (p k) 1 0) x xs in
    let here : cond {A = ℕ} (p x) 1 0 ≡ 0 = ap (λ (b : Bool). cond {A = ℕ} b 1 0) (none x (inl refl)) in
    let rest = none_counted p xs (λ y t. none y (inr t)) in
    omega (arith, sum, here, rest)

no_number : (g : Geometry) (index : Block) (base : List Block) (c : Cat) → free_number g index ≡ None → IsFreeByBits g base c → slice_get base (4 * g.cluster) ≡ Some index → has_free_number c ≡ false
unfolding free_number
no_number g index base c e free at =
    ap (nat_lt 0) (free.numbers ∙ none_counted (λ n. not (number_bit g base n)) (range_with_len 1 g.files) (λ n t.
    ap not (number_bit_seen g base index n at) ∙ not_found (λ m. not (bit_at index (m - 1))) (range_with_len 1 g.files) n e t))

-- ---- the refusals

by_number : (g : Geometry) (clusters : ℕ) (index : Block) (n : Option ℕ) (bs : List Block) (r : Refusal) (base : List Block) (own : Owners) (c : Cat) → free_number g index ≡ n → found_number g clusters index n bs ≡ Short r
    → Spells g base own c → IsFreeByBits g base c → StandsIn base (looked g clusters true (index ∷ bs)) → IsTooLittle clusters true c r
by_number g clusters index None bs r base own c is e s free stood =
    let same : IndexFull ≡ r = (let f : Short IndexFull ≡ Short r = e in cc) in
    subst (λ (x : Refusal). IsTooLittle clusters true c x) same (refl, no_number g index base c is free stood.0)
by_number g clusters index (Some n) bs r base own c is e s free stood =
    let t = short_of g clusters (Some n) (number_write g n index ∷ []) bs r e in
    subst (λ (x : Refusal). IsTooLittle clusters true c x) (sym t.2) ((λ y. number_there g index n base own c is s stood.0), few_clusters g clusters bs base c free t.0 t.1 stood.1)

pub shortage_is_exact : ShortageIsExact
shortage_is_exact g clusters false bs r base own c e s none stood =
    let t = short_of g clusters None [] bs r e in
    subst (λ (x : Refusal). IsTooLittle clusters false c x) (sym t.2) ((λ y. absurd (let f : false ≡ true = y in cc)), few_clusters g clusters bs base c (free_by_bits g base own c s none) t.0 t.1 stood)
shortage_is_exact g clusters true [] r base own c e s none stood = absurd (let f : More ≡ Short r = e in cc)
shortage_is_exact g clusters true (index ∷ bs) r base own c e s none stood = by_number g clusters index (free_number g index) bs r base own c refl e s (free_by_bits g base own c s none) stood

-- ---- a command

full_index : (w h : Bool) → w ≡ true → h ≡ false → w && not h ≡ true
full_index true false e f = refl
full_index true true e f = absurd (cc)
full_index false h e f = absurd (cc)

full_device : (w h : Bool) (a b : ℕ) → (w ≡ true → h ≡ true) → a < b → not (w && not h) && nat_lt a b ≡ true
full_device true true a b e lt = grind (arith, nat_tests)
full_device true false a b e lt = absurd (let f : false ≡ true = e refl in cc)
full_device false h a b e lt = grind (arith, nat_tests)

pub command_is_short : CommandIsShort
command_is_short c k IndexFull t = full_index k.number (has_free_number c) t.0 t.1
command_is_short c k DeviceFull t = full_device k.number (has_free_number c) (free_clusters c) k.clusters t.0 t.1
command_is_short c k other t = absurd t
