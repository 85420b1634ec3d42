-- What the loops over bits, blocks and numbers have worked out after each turn.
use Rattle.std.proofs.Common.{◌≡◌, ◌<◌, ◌≤◌, ◌+◌, ◌-◌, ◌*◌, ◌%◌, ◌&&◌, ◌||◌, ◌++◌, ℕ, zero, suc, Bool, true, false, List, [], ◌∷◌, Some, None, length, get_or, refl, sym, ap, ◌∙◌, arith, append-nil, append_assoc, length-append, cond, nat_le, nat_lt}
use Rattle.std.specs.Prelude.{min, not, take, filter, find, map, option_map, slice_index_or}
use Rattle.std.specs.List.{range_with_len, All}
use Rattle.std.proofs.lemmas.Bool.Decides.{nat_tests}
use Rattle.std.proofs.lemmas.List.{take_more, length-take, length-map, take-map, map-append}
use Rattle.std.proofs.lemmas.List.Elements.{All-append}
use Rattle.base_words.specs.Fields.{Block}
use Rattle.fx_bitmap.specs.Bits.{bit_at, count_below, count_set}
use Rattle.plain_cat.specs.declared.reply.Refusal.TheVariants.{DeviceFull}
use Rattle.vol_parts.specs.declared.geometry.Geometry.{Geometry}
use Rattle.vol_parts.specs.declared.geometry.Part.TheVariants.{Storage}
use Rattle.vol_parts.specs.Parts.{IsGeometry, storage_blocks}
use Rattle.vol_spell.specs.Reading.{total_of}
use Rattle.vol_spell.specs.Places.{place_of}
use Rattle.op_law.specs.declared.need.PlanWrite.{PlanWrite}
use Rattle.op_law.specs.Freeing.{with_free}
use Rattle.core_space.specs.declared.outcome.Search.TheVariants as search
use Rattle.core_space.specs.Searching.{More, Short, Enough, places, free_in, free_from, cluster_writes, found_clusters}
use Rattle.core_space.specs.Answering.{answered, answer, blocks_alone}
use Rattle.core_space.proofs.Concluding.{at_most_16, free_first}
use Rattle.core_space.proofs.Ranges.{filter_passed, filter_failed, find_here, find_on}
use Rattle.core_space.proofs.Taken.{take_none, take_parts}
use Rattle.core_space.specs.Filling.{clusters_to_take, storage_part, free_numbers, lowest_numbers, numbers_taken, index_writes, storage_writes, fill_writes, suffices, filled}
use Rattle.core_space.specs.Giving.{has_covered, is_seen, is_wanting, clusters_place, clusters_back}
use Rattle.core_space.proofs.Gathering.{free_more}

-- ---- counting

-- the clusters whose bits are set, of those from a first one on up to another one
abbrev pub counted_to : Block → ℕ → ℕ → ℕ
counted_to b first q = length (filter (λ x. bit_at b (x % 4096)) (range_with_len first (q - first)))

pub counts_more : (b : Block) (first q count : ℕ) → first ≤ q → count ≡ counted_to b first q → bit_at b (q % 4096) ≡ true → count + 1 ≡ counted_to b first (q + 1)
counts_more b first q count le e set =
    let more = filter_passed (λ x. bit_at b (x % 4096)) first (q - first) (q + 1 - first) q (omega arith) (omega arith) set in
    let long = length-append (filter (λ x. bit_at b (x % 4096)) (range_with_len first (q - first))) (q ∷ []) in
    ap (λ n. n + 1) e ∙ sym long ∙ sym (ap (λ (xs : List ℕ). length xs) more)

pub counts_same : (b : Block) (first q count : ℕ) → first ≤ q → count ≡ counted_to b first q → bit_at b (q % 4096) ≡ false → count ≡ counted_to b first (q + 1)
counts_same b first q count le e clear =
    e ∙ sym (ap (λ (xs : List ℕ). length xs) (filter_failed (λ x. bit_at b (x % 4096)) first (q - first) (q + 1 - first) q (omega arith) (omega arith) clear))

pub counts_all : (g : Geometry) (k q : ℕ) (b : Block) → q - 4096 * k ≡ min (4096 * k + 4096) (total_of g) - 4096 * k → counted_to b (4096 * k) q ≡ length (free_in g k b)
unfolding free_in
counts_all g k q b e = ap (λ n. length (filter (λ x. bit_at b (x % 4096)) (range_with_len (4096 * k) n))) e

-- where all bits of the block are clusters', they are counted as bits
counted_set : (b : Block) (k n : ℕ) → n ≤ 4096 → counted_to b (4096 * k) (4096 * k + n) ≡ count_below (bit_at b) n
unfolding count_below
counted_set b k zero h = let none : 4096 * k + 0 - 4096 * k ≡ 0 = omega arith in ap (λ m. length (filter (λ x. bit_at b (x % 4096)) (range_with_len (4096 * k) m))) none
counted_set b k (suc n) h = by_bit (bit_at b n) refl (counted_set b k n (omega arith)) where
  place : (4096 * k + n) % 4096 ≡ n
  place = omega arith

  next : 4096 * k + n + 1 ≡ 4096 * k + suc n
  next = omega arith

  by_bit : (t : Bool) → bit_at b n ≡ t → counted_to b (4096 * k) (4096 * k + n) ≡ count_below (bit_at b) n → counted_to b (4096 * k) (4096 * k + suc n) ≡ count_below (bit_at b) n + (cond t 1 0)
  by_bit true set so_far = sym (counts_more b (4096 * k) (4096 * k + n) (count_below (bit_at b) n) (omega arith) (sym so_far) (ap (bit_at b) place ∙ set) ∙ ap (counted_to b (4096 * k)) next)
  by_bit false clear so_far = sym (counts_same b (4096 * k) (4096 * k + n) (count_below (bit_at b) n) (omega arith) (sym so_far) (ap (bit_at b) place ∙ clear) ∙ ap (counted_to b (4096 * k)) next) ∙ omega arith

pub counts_whole : (g : Geometry) (k : ℕ) (b : Block) → min (4096 * k + 4096) (total_of g) - 4096 * k ≡ 4096 → count_set b ≡ length (free_in g k b)
unfolding count_set
counts_whole g k b e = sym (counted_set b k 4096 (omega arith)) ∙ counts_all g k (4096 * k + 4096) b (omega (arith, e))

pub none_free : (g : Geometry) (k : ℕ) → 0 ≡ length (free_from g k [])
unfolding free_from
none_free g k = refl

-- one block more
pub frees_more : (g : Geometry) (bs : List Block) (k : ℕ) (b : Block) → k < length bs → get_or bs k [] ≡ b → length (free_from g 0 (take k bs)) + length (free_in g k b) ≡ length (free_from g 0 (take (k + 1) bs))
frees_more g bs k b lt at =
    let next = take_more bs k [] lt ∙ ap (λ (x : Block). take k bs ++ x ∷ []) at in
    let count = length-take k bs in
    let place : k ≡ 0 + length (take k bs) = omega (arith, count) in
    let more = free_more g 0 (take k bs) b k place in
    sym (length-append (free_from g 0 (take k bs)) (free_in g k b)) ∙ sym (ap (λ (xs : List ℕ). length xs) more) ∙ sym (ap (λ (xs : List Block). length (free_from g 0 xs)) next)

-- the first 16 blocks say all
pub first_say_all : (g : Geometry) (looked : List (ℕ × Block)) (n : ℕ) → IsGeometry g → n ≡ min (length looked) 16 → length (free_from g 0 (blocks_alone (take n looked))) ≡ length (free_from g 0 (blocks_alone looked))
first_say_all g looked n is e =
    let count = length-map looked (λ (x : ℕ × Block). x.1) in
    let most = at_most_16 g is in
    let behind : n < length (blocks_alone looked) → storage_blocks (total_of g) ≤ 0 + n = (λ lt. omega (arith, count)) in
    let same : blocks_alone (take n looked) ≡ take n (blocks_alone looked) = sym (take-map (λ (x : ℕ × Block). x.1) n looked) in
    ap (λ (bs : List Block). length (free_from g 0 bs)) same ∙ ap (λ (xs : List ℕ). length xs) (free_first g 0 n (blocks_alone looked) behind)

-- ---- the lowest numbers

-- the numbers whose bits are clear, of those below another one
abbrev pub clear_to : Block → ℕ → List ℕ
clear_to b n = filter (λ x. not (bit_at b (x - 1))) (range_with_len 1 (n - 1))

first_of : (n m : ℕ) (k x : ℕ) → m + k ≡ n → 0 < k → take (n - m) (x ∷ []) ≡ x ∷ []
first_of n m k x e lt = by_left (n - m) (omega arith) where
  by_left : (j : ℕ) → 0 < j → take j (x ∷ []) ≡ x ∷ []
  by_left zero h = absurd (omega arith)
  by_left (suc j) h = ap (λ (ys : List ℕ). x ∷ ys) (take_none j)

pub takes_one : (b : Block) (n : ℕ) (ns : List ℕ) → 1 ≤ n → ns ≡ take 9 (clear_to b n) → length ns < 9 → bit_at b (n - 1) ≡ false → ns ++ n ∷ [] ≡ take 9 (clear_to b (n + 1))
takes_one b n ns from e few clear =
    let xs = clear_to b n in
    let more : clear_to b (n + 1) ≡ xs ++ n ∷ [] = filter_passed (λ x. not (bit_at b (x - 1))) 1 (n - 1) (n + 1 - 1) n (omega arith) (omega arith) (ap not clear) in
    let len = ap (λ (ys : List ℕ). length ys) e in
    let left = first_of 9 (length (take 9 xs)) (9 - length (take 9 xs)) n (omega (arith, len)) (omega (arith, len)) in
    ap (λ (ys : List ℕ). ys ++ n ∷ []) e ∙ sym (take_parts 9 xs (n ∷ []) ∙ ap (λ (ys : List ℕ). take 9 xs ++ ys) left) ∙ sym (ap (take 9) more)

pub takes_none : (b : Block) (n : ℕ) (ns : List ℕ) → 1 ≤ n → ns ≡ take 9 (clear_to b n) → bit_at b (n - 1) ≡ true → ns ≡ take 9 (clear_to b (n + 1))
takes_none b n ns from e used =
    e ∙ sym (ap (take 9) (filter_failed (λ x. not (bit_at b (x - 1))) 1 (n - 1) (n + 1 - 1) n (omega arith) (omega arith) (ap not used)))

full_stays : (xs : List ℕ) (n : ℕ) → 9 ≤ length (take 9 xs) → take 9 (xs ++ n ∷ []) ≡ take 9 xs
full_stays xs n full =
    let none : 9 - length (take 9 xs) ≡ 0 = omega arith in
    take_parts 9 xs (n ∷ []) ∙ ap (λ j. take 9 xs ++ take j (n ∷ [])) none ∙ append-nil (take 9 xs)

pub takes_enough : (b : Block) (n : ℕ) (ns : List ℕ) → 1 ≤ n → ns ≡ take 9 (clear_to b n) → 9 ≤ length ns → ns ≡ take 9 (clear_to b (n + 1))
takes_enough b n ns from e full = by_bit (bit_at b (n - 1)) refl where
  by_bit : (t : Bool) → bit_at b (n - 1) ≡ t → ns ≡ take 9 (clear_to b (n + 1))
  by_bit true h = takes_none b n ns from e h
  by_bit false h =
      let xs = clear_to b n in
      let more : clear_to b (n + 1) ≡ xs ++ n ∷ [] = filter_passed (λ x. not (bit_at b (x - 1))) 1 (n - 1) (n + 1 - 1) n (omega arith) (omega arith) (ap not h) in
      let len = ap (λ (ys : List ℕ). length ys) e in
      e ∙ sym (full_stays xs n (omega (arith, len))) ∙ sym (ap (take 9) more)

pub takes_all : (g : Geometry) (b : Block) (n : ℕ) (ns : List ℕ) → ns ≡ take 9 (clear_to b n) → n ≡ g.files + 1 → ns ≡ lowest_numbers g b
unfolding free_numbers
takes_all g b n ns e last =
    let all : n - 1 ≡ g.files = omega arith in
    e ∙ ap (λ k. take 9 (filter (λ x. not (bit_at b (x - 1))) (range_with_len 1 k))) all

abbrev pub IsNumber : ℕ → Type 0
IsNumber n = (1 ≤ n) × (n ≤ 4096)

pub one_number_more : (ns : List ℕ) (n : ℕ) → All IsNumber ns → 1 ≤ n → n ≤ 4096 → All IsNumber (ns ++ n ∷ [])
one_number_more ns n all from to = All-append IsNumber ns (n ∷ []) all single where
  single : All IsNumber (n ∷ [])
  single zero d lt = (from, to)
  single (suc k) d lt = absurd (let h : suc k < 1 = lt in omega arith)

pub none_freed : (b : Block) → b ≡ with_free b []
unfolding with_free
none_freed b = refl

-- ---- the blocks of a stock

both_hold : (a b : Bool) → a ≡ true → b ≡ false → a && not b ≡ true
both_hold a b e f = ap (λ x. x && not b) e ∙ ap not f

pub is_next : (g : Geometry) (cs : List ℕ) (looked : List (ℕ × Block)) (k : ℕ) → find (is_wanting g cs looked) (range_with_len 0 k) ≡ None → k < storage_blocks (total_of g) → has_covered cs k ≡ true → is_seen looked (g.bitmap_lbn + 1 + k) ≡ false
    → Some (g.bitmap_lbn + 1 + k) ≡ clusters_place g cs looked
is_next g cs looked k none lt some unseen =
    let here = find_here (is_wanting g cs looked) 0 k (storage_blocks (total_of g)) k none (omega arith) lt (both_hold (has_covered cs k) (is_seen looked (g.bitmap_lbn + 1 + k)) some unseen) in
    sym (ap (option_map (λ j. place_of g (Storage j))) here)

pub seen_passes : (g : Geometry) (cs : List ℕ) (looked : List (ℕ × Block)) (k : ℕ) → find (is_wanting g cs looked) (range_with_len 0 k) ≡ None → is_seen looked (g.bitmap_lbn + 1 + k) ≡ true → find (is_wanting g cs looked) (range_with_len 0 (k + 1)) ≡ None
seen_passes g cs looked k none seen = find_on (is_wanting g cs looked) 0 k (k + 1) k none (omega arith) (omega arith) (by_some (has_covered cs k)) where
  by_some : (a : Bool) → a && not (is_seen looked (g.bitmap_lbn + 1 + k)) ≡ false
  by_some true = ap not seen
  by_some false = refl

pub none_passes : (g : Geometry) (cs : List ℕ) (looked : List (ℕ × Block)) (k : ℕ) → find (is_wanting g cs looked) (range_with_len 0 k) ≡ None → has_covered cs k ≡ false → find (is_wanting g cs looked) (range_with_len 0 (k + 1)) ≡ None
none_passes g cs looked k none few = find_on (is_wanting g cs looked) 0 k (k + 1) k none (omega arith) (omega arith) (ap (λ a. a && not (is_seen looked (g.bitmap_lbn + 1 + k))) few)

-- ---- the search for as many clusters as there are

pub there_are : (g : Geometry) (count : ℕ) (bs : List Block) → count ≤ length (free_from g 0 bs) → answer g count false bs ≡ search.Take (cluster_writes g count None [] 0 bs)
unfolding found_clusters
there_are g count bs le =
    let enough : nat_le count (length (free_from g 0 bs)) ≡ true = grind (arith, nat_tests) in
    ap (λ t. answered (slice_index_or (places g count false) (length bs) 0) (cond t (Enough (cluster_writes g count None [] 0 bs)) (cond (nat_lt (length bs) (storage_blocks (total_of g))) More (Short DeviceFull)))) enough

-- ---- the block of an LBN

none_before : (p : (ℕ × Block) → Bool) (x : ℕ × Block) (xs : List (ℕ × Block)) → cond (p x) (Some x) (find p xs) ≡ None → (p x ≡ false) × (find p xs ≡ None)
none_before p x xs e = by_test (p x) refl e where
  by_test : (b : Bool) → p x ≡ b → cond b (Some x) (find p xs) ≡ None → (p x ≡ false) × (find p xs ≡ None)
  by_test true t f = absurd (let g : Some x ≡ None = f in cc)
  by_test false t f = (t, f)

pub found_at : (p : (ℕ × Block) → Bool) (xs : List (ℕ × Block)) (i : ℕ) (d : ℕ × Block) → find p (take i xs) ≡ None → i < length xs → p (get_or xs i d) ≡ true → find p xs ≡ Some (get_or xs i d)
found_at p [] i d none lt e = absurd (omega arith)
found_at p (x ∷ xs) zero d none lt e = ap (λ b. cond b (Some x) (find p xs)) e
found_at p (x ∷ xs) (suc i) d none lt e =
    let n = none_before p x (take i xs) none in
    ap (λ b. cond b (Some x) (find p xs)) n.0 ∙ found_at p xs i d n.1 (omega arith) e

pub none_to : (p : (ℕ × Block) → Bool) (xs : List (ℕ × Block)) (i : ℕ) (d : ℕ × Block) → find p (take i xs) ≡ None → i < length xs → p (get_or xs i d) ≡ false → find p (take (i + 1) xs) ≡ None
none_to p [] i d none lt e = absurd (omega arith)
none_to p (x ∷ xs) zero d none lt e = ap (λ b. cond b (Some x) None) e
none_to p (x ∷ xs) (suc i) d none lt e =
    let n = none_before p x (take i xs) none in
    let next : suc i + 1 ≡ suc (i + 1) = omega arith in
    ap (λ k. find p (take k (x ∷ xs))) next ∙ ap (λ b. cond b (Some x) (find p (take (i + 1) xs))) n.0 ∙ none_to p xs i d n.1 (omega arith) e

-- ---- one more write of a give-back

pub gives_more : (g : Geometry) (cs : List ℕ) (looked : List (ℕ × Block)) (first ws : List PlanWrite) (k : ℕ) → ws ≡ first ++ map (clusters_back g cs looked) (filter (has_covered cs) (range_with_len 0 k)) → has_covered cs k ≡ true
    → ws ++ clusters_back g cs looked k ∷ [] ≡ first ++ map (clusters_back g cs looked) (filter (has_covered cs) (range_with_len 0 (k + 1)))
gives_more g cs looked first ws k e some =
    let f = clusters_back g cs looked in
    let ks = filter (has_covered cs) (range_with_len 0 k) in
    let next : filter (has_covered cs) (range_with_len 0 (k + 1)) ≡ ks ++ k ∷ [] = filter_passed (has_covered cs) 0 k (k + 1) k (omega arith) (omega arith) some in
    ap (λ (vs : List PlanWrite). vs ++ f k ∷ []) e ∙ append_assoc first (map f ks) (f k ∷ [])
    ∙ ap (λ (vs : List PlanWrite). first ++ vs) (sym (map-append f ks (k ∷ [])) ∙ sym (ap (map f) next))

pub gives_same : (g : Geometry) (cs : List ℕ) (looked : List (ℕ × Block)) (first ws : List PlanWrite) (k : ℕ) → ws ≡ first ++ map (clusters_back g cs looked) (filter (has_covered cs) (range_with_len 0 k)) → has_covered cs k ≡ false
    → ws ≡ first ++ map (clusters_back g cs looked) (filter (has_covered cs) (range_with_len 0 (k + 1)))
gives_same g cs looked first ws k e none =
    e ∙ ap (λ (ks : List ℕ). first ++ map (clusters_back g cs looked) ks) (sym (filter_failed (has_covered cs) 0 k (k + 1) k (omega arith) (omega arith) none))

-- ---- where a stock is filled

pub filled_none : (g : Geometry) (need held : ℕ) (lacks : Bool) (bs : List Block) (found : List ℕ) (free : ℕ) → found ≡ numbers_taken g lacks bs → free ≡ length (free_from g 0 (storage_part lacks bs))
    → (not lacks || nat_lt 0 (length found)) && nat_le need (held + free) ≡ false → None ≡ filled g need held lacks bs
unfolding filled
filled_none g need held lacks bs found free e f few =
    let test : suffices g need held lacks bs ≡ false =
    sym (ap (λ (xs : List ℕ). (not lacks || nat_lt 0 (length xs)) && nat_le need (held + free)) e ∙ ap (λ n. (not lacks || nat_lt 0 (length (numbers_taken g lacks bs))) && nat_le need (held + n)) f) ∙ few in
    sym (ap (λ t. cond t (Some (fill_writes g (clusters_to_take need held) lacks bs)) None) test)

pub filled_some : (g : Geometry) (need held : ℕ) (lacks : Bool) (bs : List Block) (found : List ℕ) (free count : ℕ) (first ws : List PlanWrite) (storage : List Block) → found ≡ numbers_taken g lacks bs → storage ≡ storage_part lacks bs → free ≡ length (free_from g 0 storage)
    → count ≡ min (clusters_to_take need held) free → (not lacks || nat_lt 0 (length found)) && nat_le need (held + free) ≡ true → first ≡ index_writes g lacks bs → ws ≡ first ++ storage_writes g count found storage → Some ws ≡ filled g need held lacks bs
unfolding filled fill_writes
filled_some g need held lacks bs found free count first ws storage e s f n enough i w =
    let here : free ≡ length (free_from g 0 (storage_part lacks bs)) = f ∙ ap (λ (xs : List Block). length (free_from g 0 xs)) s in
    let test : suffices g need held lacks bs ≡ true =
    sym (ap (λ (xs : List ℕ). (not lacks || nat_lt 0 (length xs)) && nat_le need (held + free)) e ∙ ap (λ n. (not lacks || nat_lt 0 (length (numbers_taken g lacks bs))) && nat_le need (held + n)) here) ∙ enough in
    let all : ws ≡ fill_writes g (clusters_to_take need held) lacks bs =
    w ∙ ap (λ (vs : List PlanWrite). vs ++ storage_writes g count found storage) i
    ∙ ap (λ (xs : List ℕ). index_writes g lacks bs ++ storage_writes g count xs storage) e
    ∙ ap (λ (xs : List Block). index_writes g lacks bs ++ storage_writes g count (numbers_taken g lacks bs) xs) s
    ∙ ap (λ m. index_writes g lacks bs ++ storage_writes g m (numbers_taken g lacks bs) (storage_part lacks bs)) (n ∙ ap (min (clusters_to_take need held)) here) in
    ap Some all ∙ sym (ap (λ t. cond t (Some (fill_writes g (clusters_to_take need held) lacks bs)) None) test)
