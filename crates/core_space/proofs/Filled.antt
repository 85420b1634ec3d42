-- The writes of a filling, one after another.
use Rattle.std.proofs.Common.{◌≡◌, ◌<◌, ◌≤◌, ◌+◌, ◌-◌, ◌*◌, ◌/◌, ◌%◌, ◌⊎◌, ◌&&◌, ◌||◌, ◌++◌, ℕ, zero, suc, Bool, true, false, List, [], ◌∷◌, Option, Some, None, length, slice_get, refl, sym, ap, subst, ◌∙◌, inl, inr, arith, append-nil, append_assoc, cond, nat_le, nat_lt}
use Rattle.std.specs.Prelude.{take, filter, map, not, min}
use Rattle.std.specs.List.{range_with_len, zip}
use Rattle.std.proofs.lemmas.Bool.Decides.{nat_tests}
use Rattle.std.proofs.lemmas.List.{length-take}
use Rattle.base_words.specs.Fields.{Block}
use Rattle.fx_bitmap.specs.Bits.{bit_at}
use Rattle.plain_cat.specs.declared.cat.Cat.{Cat}
use Rattle.base_words.proofs.Listing.{has_filtered, has_mapped}
use Rattle.base_words.specs.Lists.{Has, Once}
use Rattle.vol_spell.specs.Owners.{Owners, Things, nothing, Outs}
use Rattle.base_words.proofs.Listing.{filtered, has_parted}
use Rattle.vol_spell.proofs.Placing.{has_ranged}
use Rattle.vol_parts.specs.declared.geometry.Geometry.{Geometry}
use Rattle.vol_parts.specs.declared.geometry.Part.TheVariants.{IndexBitmap, Storage}
use Rattle.vol_parts.specs.Parts.{IsGeometry, storage_blocks, part_of}
use Rattle.vol_spell.specs.Reading.{total_of}
use Rattle.vol_spell.specs.Places.{place_of, IsPart}
use Rattle.vol_spell.specs.Spelling.{Spells}
use Rattle.vol_spell.proofs.Clusters.{once_range}
use Rattle.vol_spell.proofs.Parts.{part_there}
use Rattle.vol_under.specs.UnderWay.{together}
use Rattle.vol_under.specs.Keeping.{Refills, IsBitmap}
use Rattle.vol_under.specs.Refilling.{AreTaken}
use Rattle.vol_under.proofs.Refills.{takes_clusters, takes_numbers}
use Rattle.op_law.specs.declared.need.PlanWrite.{PlanWrite}
use Rattle.op_law.specs.Writing.{with_numbers}
use Rattle.core_space.specs.Searching.{storage_places, clusters_in, free_in, free_from, with_taken, taken_in, cluster_write, cluster_writes}
use Rattle.core_space.specs.Taking.{looked}
use Rattle.core_space.proofs.BitRuns.{cleared, kept, set_before, whole_taken}
use Rattle.core_space.proofs.Chosen.{LiesIn, has_free, has_taken, once_taken, has_taken_in, once_taken_in}
use Rattle.core_space.proofs.Taken.{take_none, taken_parts, behind}
use Rattle.core_space.specs.Filling.{clusters_to_take, storage_part, free_numbers, lowest_numbers, numbers_taken, clusters_taken, numbers_write, storage_writes, fill_writes, suffices, filled}
use Rattle.core_space.specs.Laws.{places_of, things_of, taken_with, taken_before, TakesNumbersOf, TakesClustersOf, IsFilling, WritesFill, FillingsRefill, FillsEnough, AreLowest, TakesLowest}
use Rattle.core_space.proofs.Setting.{are_numbers_taken}
use Rattle.op_law.proofs.Asking.{not_so}
use Rattle.base_words.proofs.Numbers.{same_cluster}

-- ---- where a filling is decided

pub filled_is : (g : Geometry) (need held : ℕ) (lacks : Bool) (bs : List Block) (ws : List PlanWrite) → filled g need held lacks bs ≡ Some ws → (suffices g need held lacks bs ≡ true) × (ws ≡ fill_writes g (clusters_to_take need held) lacks bs)
unfolding filled
filled_is g need held lacks bs ws h = by_test (suffices g need held lacks bs) h where
  by_test : (b : Bool) → cond b (Some (fill_writes g (clusters_to_take need held) lacks bs)) None ≡ Some ws → (b ≡ true) × (ws ≡ fill_writes g (clusters_to_take need held) lacks bs)
  by_test true e = (refl, let f : Some (fill_writes g (clusters_to_take need held) lacks bs) ≡ Some ws = e in cc)
  by_test false e = absurd (let f : None ≡ Some ws = e in cc)

both : (a b : Bool) → a && b ≡ true → (a ≡ true) × (b ≡ true)
both true b e = (refl, e)
both false b e = absurd (let f : false ≡ true = e in cc)

enough_clusters : (need held free : ℕ) → nat_le need (held + free) ≡ true → need ≤ held + min (clusters_to_take need held) free
enough_clusters need held free e = grind (arith, nat_tests)

spare_clusters_only : (need held free : ℕ) → (min (clusters_to_take need held) free ≡ 0) ⊎ (held + min (clusters_to_take need held) free ≤ need + 16)
spare_clusters_only need held free = by_held (nat_le need held) refl where
  by_held : (b : Bool) → nat_le need held ≡ b → (min (cond b 0 (need + 16 - held)) free ≡ 0) ⊎ (held + min (cond b 0 (need + 16 - held)) free ≤ need + 16)
  by_held true e = inl (omega arith)
  by_held false e = let lt : held < need = grind (arith, nat_tests) in inr (omega arith)

some_number : (lacks : Bool) (n : ℕ) → not lacks || nat_lt 0 n ≡ true → lacks ≡ true → 1 ≤ n
some_number true n e f = let h : nat_lt 0 n ≡ true = e in grind (arith, nat_tests)
some_number false n e f = absurd (let h : false ≡ true = f in cc)

few_numbers : (g : Geometry) (lacks : Bool) (bs : List Block) → length (numbers_taken g lacks bs) ≤ 9
few_numbers g false bs = omega arith
few_numbers g true [] = omega arith
few_numbers g true (index ∷ bs) = let h = length-take 9 (free_numbers g index) in omega (arith, h)

pub fills_enough : FillsEnough
fills_enough g need held lacks bs ws h =
    let t = both (not lacks || nat_lt 0 (length (numbers_taken g lacks bs))) (nat_le need (held + length (free_from g 0 (storage_part lacks bs)))) (filled_is g need held lacks bs ws h).0 in
    record {
      clusters = enough_clusters need held (length (free_from g 0 (storage_part lacks bs))) t.1;
      spare = spare_clusters_only need held (length (free_from g 0 (storage_part lacks bs)));
      number = some_number lacks (length (numbers_taken g lacks bs)) t.0;
      few = few_numbers g lacks bs;
    }

pub are_taken : (g : Geometry) (k : ℕ) (b : Block) (q : ℕ) (qs : List ℕ) → Once (q ∷ qs) → ((p : ℕ) → Has (q ∷ qs) p → LiesIn g k p × (bit_at b (p % 4096) ≡ true)) → AreTaken g k (q ∷ qs) b (with_taken b (q ∷ qs))
are_taken g k b q qs once free = record {
  whole = whole_taken qs q b;
  once = once;
  inside = λ p t. let l = (free p t).0 in (l.inside, l.block);
  free = λ p t. (free p t).1;
  bits = λ p lt e. (
    (λ set. (set_before (q ∷ qs) b (p % 4096) (omega arith) set, λ t. absurd (let f : true ≡ false = sym set ∙ cleared (q ∷ qs) b p t in cc))),
    (λ was. kept (q ∷ qs) b (p % 4096) (omega arith) (λ r t same. was.1 (
        let l = (free r t).0 in
        let P : ℕ → Type 0 = λ x. Has (q ∷ qs) x in
        subst P (sym (same_cluster k p r e l.block same)) t)) ∙ was.0),
  );
}

-- ---- the numbers

pub record IsFreeNumber (g : Geometry) (b : Block) (n : ℕ) : Type 0 where
  pub from : 1 ≤ n
  pub to : n ≤ g.files
  pub clear : bit_at b (n - 1) ≡ false

free_is : (g : Geometry) (b : Block) (n : ℕ) → Has (free_numbers g b) n → IsFreeNumber g b n
unfolding free_numbers
free_is g b n t =
    let h = has_filtered (λ n. not (bit_at b (n - 1))) (range_with_len 1 g.files) n t in
    let r = has_ranged 1 g.files n h.0 in
    let hi : n < 1 + g.files = r.1 in
    record { from = r.0; to = omega arith; clear = not_so (bit_at b (n - 1)) h.1 }

once_free_numbers : (g : Geometry) (b : Block) → Once (free_numbers g b)
unfolding free_numbers
once_free_numbers g b = filtered.once (λ n. not (bit_at b (n - 1))) (range_with_len 1 g.files) (once_range 1 g.files)

-- numbers from 1 on stand at places of their own
once_places : (ns : List ℕ) → ((n : ℕ) → Has ns n → 1 ≤ n) → Once ns → Once (places_of ns)
once_places [] from o = tt
once_places (n ∷ ns) from o = (
  (λ t. let m = has_mapped (λ x. x - 1) ns (n - 1) t in
      let a = from n (inl refl) in
      let b = from m.0 (inr m.1) in
      let e = m.2 in
      let same : m.0 ≡ n = omega arith in
      o.0 (subst (λ (x : ℕ). Has ns x) same m.1)),
  once_places ns (λ x t. from x (inr t)) o.1,
)

numbers_free : (g : Geometry) (b : Block) (ns : List ℕ) → ((n : ℕ) → Has ns n → IsFreeNumber g b n) → (i : ℕ) → Has (places_of ns) i → (i < g.files) × (bit_at b i ≡ false)
numbers_free g b ns free i t =
    let m = has_mapped (λ x. x - 1) ns i t in
    let h = free m.0 m.1 in
    let e = m.2 in
    let lo = h.from in
    let hi = h.to in
    (omega arith, ap (λ j. bit_at b j) (sym e) ∙ h.clear)

number_takes : (g : Geometry) (seen : List (ℕ × Block)) (index : Block) (ns : List ℕ) → g.files ≤ 4096 → 0 < length ns → Has seen (place_of g IndexBitmap, index) → Once ns → ((n : ℕ) → Has ns n → IsFreeNumber g index n)
    → IsFilling g seen nothing (numbers_write g index ns)
number_takes g seen index [] fit some among once free = absurd (omega arith)
number_takes g seen index (n ∷ ns) fit some among once free = record {
  lock = refl;
  stage = refl;
  old = index;
  among = among;
  takes = inl (record {
    taken = places_of (n ∷ ns);
    place = refl;
    free = are_numbers_taken g index n ns fit (once_places (n ∷ ns) (λ x t. (free x t).from) once) (numbers_free g index (n ∷ ns) free);
    numbers = refl;
    clusters = refl;
  });
}

-- ---- writes in a row

abbrev AreFillings : Geometry → List (ℕ × Block) → Things → List PlanWrite → Type 0
AreFillings g seen out [] = Unit {0}
AreFillings g seen out (w ∷ ws) = IsFilling g seen out w × AreFillings g seen (things_of w.clusters w.numbers) ws

-- what was taken before write k, where this was taken before the first
abbrev taken_from : Things → List PlanWrite → ℕ → Things
taken_from out ws zero = out
taken_from out ws (suc k) = taken_with (slice_get ws k)

filling_at : (g : Geometry) (seen : List (ℕ × Block)) (out : Things) (ws : List PlanWrite) (k : ℕ) (w : PlanWrite) → AreFillings g seen out ws → slice_get ws k ≡ Some w → IsFilling g seen (taken_from out ws k) w
filling_at g seen out [] k w t e = absurd (let f : None ≡ Some w = e in cc)
filling_at g seen out (v ∷ ws) zero w t e = let same : v ≡ w = (let f : Some v ≡ Some w = e in cc) in subst (λ (x : PlanWrite). IsFilling g seen out x) same t.0
filling_at g seen out (v ∷ ws) (suc zero) w t e = filling_at g seen (things_of v.clusters v.numbers) ws zero w t.1 e
filling_at g seen out (v ∷ ws) (suc (suc k)) w t e = filling_at g seen (things_of v.clusters v.numbers) ws (suc k) w t.1 e

from_nothing : (g : Geometry) (seen : List (ℕ × Block)) (ws : List PlanWrite) (k : ℕ) (w : PlanWrite) → IsFilling g seen (taken_from nothing ws k) w → IsFilling g seen (taken_before ws k) w
from_nothing g seen ws zero w t = t
from_nothing g seen ws (suc k) w t = t

one_block : (g : Geometry) (seen : List (ℕ × Block)) (ns before : List ℕ) (k : ℕ) (b : Block) (qs : List ℕ) (rest : List PlanWrite) → ((p : ℕ) → Has qs p → IsPart g (Storage k) → Has seen (place_of g (Storage k), b)) → Once qs
    → ((p : ℕ) → Has qs p → LiesIn g k p × (bit_at b (p % 4096) ≡ true)) → AreFillings g seen (things_of (before ++ qs) ns) (map (with_numbers ns) rest)
    → AreFillings g seen (things_of before ns) (map (with_numbers ns) (cluster_write g None before k b qs ++ rest))
one_block g seen ns before k b [] rest stood once free t = subst (λ (xs : List ℕ). AreFillings g seen (things_of xs ns) (map (with_numbers ns) rest)) (append-nil before) t
one_block g seen ns before k b (q ∷ qs) rest stood once free t =
    let l = (free q (inl refl)).0 in
    let lt = l.inside in
    let block = l.block in
    let in_volume : k < (total_of g + 4095) / 4096 = omega arith in (
      record {
        lock = refl;
        stage = refl;
        old = b;
        among = stood q (inl refl) in_volume;
        takes = inr (record { part = k; taken = q ∷ qs; inside = in_volume; place = refl; free = are_taken g k b q qs once free; numbers = refl; clusters = refl });
      },
      t,
    )

-- blocks behind the last one of the bitmap give nothing
blocks_none : (g : Geometry) (seen : List (ℕ × Block)) (wanted : ℕ) (ns before : List ℕ) (k : ℕ) (bs : List Block) → storage_blocks (total_of g) ≤ k
    → AreFillings g seen (things_of before ns) (map (with_numbers ns) (cluster_writes g wanted None before k bs))
unfolding cluster_writes
blocks_none g seen wanted ns before k [] h = tt
blocks_none g seen wanted ns before k (b ∷ bs) h =
    let qs = taken_in g wanted before k b in
    one_block g seen ns before k b qs (cluster_writes g wanted None (before ++ qs) (k + 1) bs)
    (λ p t is. absurd (let lt : k < storage_blocks (total_of g) = is in omega arith))
    (once_taken_in g wanted before k b) (has_taken_in g wanted before k b)
    (blocks_none g seen wanted ns (before ++ qs) (k + 1) bs (omega arith))

blocks_take : (g : Geometry) (seen : List (ℕ × Block)) (wanted : ℕ) (ns before : List ℕ) (k count : ℕ) (bs : List Block) → k + count ≡ storage_blocks (total_of g)
    → ((x : ℕ × Block) → Has (zip (storage_places g k count) bs) x → Has seen x) → AreFillings g seen (things_of before ns) (map (with_numbers ns) (cluster_writes g wanted None before k bs))
unfolding cluster_writes
blocks_take g seen wanted ns before k count [] e stood = tt
blocks_take g seen wanted ns before k zero (b ∷ bs) e stood = blocks_none g seen wanted ns before k (b ∷ bs) (omega arith)
blocks_take g seen wanted ns before k (suc count) (b ∷ bs) e stood =
    let qs = taken_in g wanted before k b in
    one_block g seen ns before k b qs (cluster_writes g wanted None (before ++ qs) (k + 1) bs)
    (λ p t is. stood (place_of g (Storage k), b) (inl refl))
    (once_taken_in g wanted before k b) (has_taken_in g wanted before k b)
    (blocks_take g seen wanted ns (before ++ qs) (k + 1) count bs (omega arith) (λ x t. stood x (inr t)))

storage_fills : (g : Geometry) (seen : List (ℕ × Block)) (count : ℕ) (ns : List ℕ) (bs : List Block) → ((x : ℕ × Block) → Has (zip (storage_places g 0 (storage_blocks (total_of g))) bs) x → Has seen x)
    → AreFillings g seen (things_of [] ns) (storage_writes g count ns bs)
storage_fills g seen count ns bs stood = blocks_take g seen count ns [] 0 (storage_blocks (total_of g)) bs (omega arith) stood

above_none : (n : ℕ) → nat_lt 0 n ≡ true → 0 < n
above_none n e = grind (arith, nat_tests)

fills_by : (g : Geometry) (need held : ℕ) (lacks : Bool) (bs : List Block) → IsGeometry g → suffices g need held lacks bs ≡ true → AreFillings g (looked g 1 lacks bs) nothing (fill_writes g (clusters_to_take need held) lacks bs)
unfolding fill_writes
fills_by g need held false bs is e = storage_fills g (looked g 1 false bs) (clusters_taken g (clusters_to_take need held) bs) [] bs (λ x t. t)
fills_by g need held true [] is e = absurd (let f : false ≡ true = e in cc)
fills_by g need held true (index ∷ bs) is e =
    let seen = looked g 1 true (index ∷ bs) in
    let ns = lowest_numbers g index in
    let t = both (nat_lt 0 (length ns)) (nat_le need (held + length (free_from g 0 bs))) e in
    let fit = is.files_to in (
      number_takes g seen index ns fit (above_none (length ns) t.0) (inl refl) (once_taken 9 (free_numbers g index) (once_free_numbers g index)) (λ n h. free_is g index n (has_taken 9 (free_numbers g index) n h)),
      storage_fills g seen (clusters_taken g (clusters_to_take need held) bs) ns bs (λ x t. inr t),
    )

pub writes_fill : WritesFill
writes_fill g need held lacks bs ws k w is h at =
    let f = filled_is g need held lacks bs ws h in
    let seen = looked g 1 lacks bs in
    let all : AreFillings g seen nothing ws = subst (λ (vs : List PlanWrite). AreFillings g seen nothing vs) (sym f.1) (fills_by g need held lacks bs is f.0) in
    from_nothing g seen ws k w (filling_at g seen nothing ws k w all at)

-- ---- what they leave

numbers_refill : (g : Geometry) (out : Things) (old : Block) (w : PlanWrite) → TakesNumbersOf g out old w → (n : ℕ) (took stock : Things) (base : List Block) (own : Owners) (c : Cat) → Spells g base own c → Outs n own took (together stock out)
    → slice_get base w.lbn ≡ Some old → IsBitmap g w.lbn × Refills g n took (together stock (things_of w.clusters w.numbers)) w.lbn w.block base own c
numbers_refill g out old w t n took stock base own c s outs at =
    let part : part_of g w.lbn ≡ Some IndexBitmap = ap (part_of g) t.place ∙ part_there g base own c s IndexBitmap tt in
    let r = takes_numbers g n took (together stock out) w.lbn t.taken old w.block base own c s outs part at t.free in
    let numbers : (stock.numbers ++ out.numbers) ++ t.taken ≡ stock.numbers ++ places_of w.numbers = append_assoc stock.numbers out.numbers t.taken ∙ ap (λ (xs : List ℕ). stock.numbers ++ xs) (sym t.numbers) in
    let clusters : stock.clusters ++ out.clusters ≡ stock.clusters ++ w.clusters = ap (λ (xs : List ℕ). stock.clusters ++ xs) (sym t.clusters) in
    let P : List ℕ → List ℕ → Type 0 = λ xs ys. Refills g n took (record { clusters = xs; numbers = ys }) w.lbn w.block base own c in
    (inl part, subst (λ (ys : List ℕ). P (stock.clusters ++ w.clusters) ys) numbers (subst (λ (xs : List ℕ). P xs ((stock.numbers ++ out.numbers) ++ t.taken)) clusters r))

clusters_refill : (g : Geometry) (out : Things) (old : Block) (w : PlanWrite) → TakesClustersOf g out old w → (n : ℕ) (took stock : Things) (base : List Block) (own : Owners) (c : Cat) → Spells g base own c → Outs n own took (together stock out)
    → slice_get base w.lbn ≡ Some old → IsBitmap g w.lbn × Refills g n took (together stock (things_of w.clusters w.numbers)) w.lbn w.block base own c
clusters_refill g out old w t n took stock base own c s outs at =
    let part : part_of g w.lbn ≡ Some (Storage t.part) = ap (part_of g) t.place ∙ part_there g base own c s (Storage t.part) t.inside in
    let r = takes_clusters g n took (together stock out) t.part w.lbn t.taken old w.block base own c s outs part at t.free in
    let clusters : (stock.clusters ++ out.clusters) ++ t.taken ≡ stock.clusters ++ w.clusters = append_assoc stock.clusters out.clusters t.taken ∙ ap (λ (xs : List ℕ). stock.clusters ++ xs) (sym t.clusters) in
    let numbers : stock.numbers ++ out.numbers ≡ stock.numbers ++ places_of w.numbers = ap (λ (xs : List ℕ). stock.numbers ++ xs) (sym t.numbers) in
    let P : List ℕ → List ℕ → Type 0 = λ xs ys. Refills g n took (record { clusters = xs; numbers = ys }) w.lbn w.block base own c in
    (inr (t.part, part), subst (λ (ys : List ℕ). P (stock.clusters ++ w.clusters) ys) numbers (subst (λ (xs : List ℕ). P xs (stock.numbers ++ out.numbers)) clusters r))

pub fillings_refill : FillingsRefill
fillings_refill g seen out w t n took stock base own c s outs at = elim t.takes [
  | inl a ↦ numbers_refill g out t.old w a n took stock base own c s outs at
  | inr a ↦ clusters_refill g out t.old w a n took stock base own c s outs at
]

-- ---- the lowest

-- each is below all that follow it
abbrev Rises : List ℕ → Type 0
Rises [] = Unit {0}
Rises (x ∷ xs) = ((y : ℕ) → Has xs y → x < y) × Rises xs

rises_range : (a n : ℕ) → Rises (range_with_len a n)
rises_range a zero = tt
rises_range a (suc n) = ((λ y t. let h = (has_ranged (a + 1) n y t).0 in omega arith), rises_range (a + 1) n)

rises_filter : (p : ℕ → Bool) (xs : List ℕ) → Rises xs → Rises (filter p xs)
rises_filter p [] r = tt
rises_filter p (x ∷ xs) r = by_test (p x) refl (rises_filter p xs r.1) where
  by_test : (b : Bool) → p x ≡ b → Rises (filter p xs) → Rises (filter p (x ∷ xs))
  by_test true f ih = rw f ((λ y t. r.0 y (has_filtered p xs y t).0), ih)
  by_test false f ih = rw f ih

rises_joined : (xs ys : List ℕ) → Rises xs → Rises ys → ((x y : ℕ) → Has xs x → Has ys y → x < y) → Rises (xs ++ ys)
rises_joined [] ys r s lt = s
rises_joined (x ∷ xs) ys r s lt = (
  (λ y t. elim (has_parted xs ys y t) [ inl u ↦ r.0 y u | inr u ↦ lt x y (inl refl) u ]),
  rises_joined xs ys r.1 s (λ a b t u. lt a b (inr t) u),
)

rises_in : (g : Geometry) (k : ℕ) (b : Block) → Rises (free_in g k b)
unfolding free_in
rises_in g k b = rises_filter (λ q. bit_at b (q % 4096)) (clusters_in g k) (rises_range (4096 * k) (min (4096 * k + 4096) (total_of g) - 4096 * k))

rises_from : (g : Geometry) (k : ℕ) (bs : List Block) → Rises (free_from g k bs)
unfolding free_from
rises_from g k [] = tt
rises_from g k (b ∷ bs) =
    rises_joined (free_in g k b) (free_from g (k + 1) bs) (rises_in g k b) (rises_from g (k + 1) bs)
    (λ x y t u. let l = (has_free g k b x t).0 in let e = l.block in let h = behind g (k + 1) bs y u in omega arith)

first_lowest : (n : ℕ) (xs : List ℕ) → Rises xs → AreLowest (take n xs) xs
first_lowest zero xs r p q t u away = absurd t
first_lowest (suc n) [] r p q t u away = absurd t
first_lowest (suc n) (x ∷ xs) r p q (inl e) u away = elim u [
  | inl f ↦ absurd (away (inl f))
  | inr v ↦ let h = r.0 q v in omega arith
]
first_lowest (suc n) (x ∷ xs) r p q (inr t) u away = elim u [
  | inl f ↦ absurd (away (inl f))
  | inr v ↦ first_lowest n xs r.1 p q t v (λ w. away (inr w))
]

-- the clusters that were taken by all of these writes, where these were taken before
pub last_clusters : List ℕ → List PlanWrite → List ℕ
last_clusters before [] = before
last_clusters before (w ∷ ws) = last_clusters w.clusters ws

last_of : (w : PlanWrite) (ws : List PlanWrite) (before : List ℕ) → (taken_with (slice_get (w ∷ ws) (length ws))).clusters ≡ last_clusters before (w ∷ ws)
unfolding last_clusters
last_of w [] before = refl
last_of w (v ∷ ws) before = last_of v ws w.clusters

pub last_taken : (ws : List PlanWrite) → (taken_before ws (length ws)).clusters ≡ last_clusters [] ws
unfolding last_clusters
last_taken [] = refl
last_taken (w ∷ ws) = last_of w ws []

one_taken : (g : Geometry) (ns before : List ℕ) (k : ℕ) (b : Block) (qs : List ℕ) (rest : List PlanWrite)
    → last_clusters before (map (with_numbers ns) (cluster_write g None before k b qs ++ rest)) ≡ last_clusters (before ++ qs) (map (with_numbers ns) rest)
unfolding last_clusters
one_taken g ns before k b [] rest = ap (λ (xs : List ℕ). last_clusters xs (map (with_numbers ns) rest)) (sym (append-nil before))
one_taken g ns before k b (q ∷ qs) rest = refl

all_taken : (g : Geometry) (wanted : ℕ) (ns before : List ℕ) (k : ℕ) (bs : List Block)
    → last_clusters before (map (with_numbers ns) (cluster_writes g wanted None before k bs)) ≡ before ++ take (wanted - length before) (free_from g k bs)
unfolding last_clusters cluster_writes free_from taken_in
all_taken g wanted ns before k [] = sym (append-nil before) ∙ ap (λ (xs : List ℕ). before ++ xs) (sym (take_none (wanted - length before)))
all_taken g wanted ns before k (b ∷ bs) =
    let qs = take (wanted - length before) (free_in g k b) in
    one_taken g ns before k b qs (cluster_writes g wanted None (before ++ qs) (k + 1) bs)
    ∙ all_taken g wanted ns (before ++ qs) (k + 1) bs
    ∙ taken_parts wanted before (free_in g k b) (free_from g (k + 1) bs)

storage_taken : (g : Geometry) (count : ℕ) (ns : List ℕ) (bs : List Block) → last_clusters [] (storage_writes g count ns bs) ≡ take count (free_from g 0 bs)
storage_taken g count ns bs = all_taken g count ns [] 0 bs ∙ ap (λ n. take n (free_from g 0 bs)) (let e : count - 0 ≡ count = omega arith in e)

pub taken_by : (g : Geometry) (wanted : ℕ) (lacks : Bool) (bs : List Block) → last_clusters [] (fill_writes g wanted lacks bs) ≡ take (clusters_taken g wanted (storage_part lacks bs)) (free_from g 0 (storage_part lacks bs))
unfolding fill_writes last_clusters
taken_by g wanted false bs = storage_taken g (clusters_taken g wanted bs) [] bs
taken_by g wanted true [] = storage_taken g (clusters_taken g wanted []) [] []
taken_by g wanted true (index ∷ bs) = storage_taken g (clusters_taken g wanted bs) (lowest_numbers g index) bs

pub takes_lowest : TakesLowest
takes_lowest g need held lacks bs ws h =
    let f = filled_is g need held lacks bs ws h in
    let part = storage_part lacks bs in
    let n = clusters_taken g (clusters_to_take need held) part in
    let e : (taken_before ws (length ws)).clusters ≡ take n (free_from g 0 part) = last_taken ws ∙ ap (λ (vs : List PlanWrite). last_clusters [] vs) f.1 ∙ taken_by g (clusters_to_take need held) lacks bs in
    subst (λ (xs : List ℕ). AreLowest xs (free_from g 0 part)) (sym e) (first_lowest n (free_from g 0 part) (rises_from g 0 part))

-- ---- the numbers that a filling takes

numbers_taken_within : (g : Geometry) (lacks : Bool) (bs : List Block) (n : ℕ) → Has (numbers_taken g lacks bs) n → (1 ≤ n) × (n ≤ g.files)
numbers_taken_within g false bs n h = absurd h
numbers_taken_within g true [] n h = absurd h
numbers_taken_within g true (index ∷ bs) n h = let f = free_is g index n (has_taken 9 (free_numbers g index) n h) in (f.from, f.to)

one_of_all : (ns : List ℕ) (ws : List PlanWrite) (k : ℕ) (w : PlanWrite) → slice_get (map (with_numbers ns) ws) k ≡ Some w → w.numbers ≡ ns
one_of_all ns [] k w e = absurd (let f : None ≡ Some w = e in cc)
one_of_all ns (v ∷ ws) zero w e = let f : Some (with_numbers ns v) ≡ Some w = e in let h : with_numbers ns v ≡ w = cc in ap (λ (x : PlanWrite). x.numbers) (sym h)
one_of_all ns (v ∷ ws) (suc k) w e = one_of_all ns ws k w e

-- each write says the numbers that are taken
all_numbers : (g : Geometry) (wanted : ℕ) (lacks : Bool) (bs : List Block) (k : ℕ) (w : PlanWrite) → slice_get (fill_writes g wanted lacks bs) k ≡ Some w → w.numbers ≡ numbers_taken g lacks bs
unfolding fill_writes
all_numbers g wanted false bs k w e = one_of_all [] (cluster_writes g (clusters_taken g wanted bs) None [] 0 bs) k w e
all_numbers g wanted true [] k w e = one_of_all [] (cluster_writes g (clusters_taken g wanted []) None [] 0 []) k w e
all_numbers g wanted true (index ∷ bs) zero w e =
    let f : Some (numbers_write g index (lowest_numbers g index)) ≡ Some w = e in
    let h : numbers_write g index (lowest_numbers g index) ≡ w = cc in
    ap (λ (x : PlanWrite). x.numbers) (sym h)
all_numbers g wanted true (index ∷ bs) (suc k) w e = one_of_all (lowest_numbers g index) (cluster_writes g (clusters_taken g wanted bs) None [] 0 bs) k w e

-- they are numbers of the volume
pub numbers_within : (g : Geometry) (need held : ℕ) (lacks : Bool) (bs : List Block) (ws : List PlanWrite) (k : ℕ) (w : PlanWrite) → filled g need held lacks bs ≡ Some ws → slice_get ws k ≡ Some w → (n : ℕ) → Has w.numbers n → (1 ≤ n) × (n ≤ g.files)
numbers_within g need held lacks bs ws k w h at n t =
    let f = filled_is g need held lacks bs ws h in
    let same : w.numbers ≡ numbers_taken g lacks bs = all_numbers g (clusters_to_take need held) lacks bs k w (ap (λ vs. slice_get vs k) (sym f.1) ∙ at) in
    numbers_taken_within g lacks bs n (subst (λ (ns : List ℕ). Has ns n) same t)

-- and the clusters are those of the volume
clusters_before : (g : Geometry) (need held : ℕ) (lacks : Bool) (bs : List Block) (ws : List PlanWrite) → IsGeometry g → filled g need held lacks bs ≡ Some ws → (k : ℕ) (q : ℕ) → Has (taken_before ws k).clusters q → q < total_of g
clusters_before g need held lacks bs ws is h zero q t = absurd t
clusters_before g need held lacks bs ws is h (suc k) q t = by_write (clusters_before g need held lacks bs ws is h k) (slice_get ws k) refl t where
  by_write : ((p : ℕ) → Has (taken_before ws k).clusters p → p < total_of g) → (o : Option PlanWrite) → slice_get ws k ≡ o → Has (taken_with o).clusters q → q < total_of g
  by_write before None e i = absurd i
  by_write before (Some w) e i = elim (writes_fill g need held lacks bs ws k w is h e).takes [
    | inl a ↦ before q (subst (λ (cs : List ℕ). Has cs q) a.clusters i)
    | inr a ↦ elim (has_parted (taken_before ws k).clusters a.taken q (subst (λ (cs : List ℕ). Has cs q) a.clusters i)) [
      | inl b ↦ before q b
      | inr b ↦ (a.free.inside q b).0
    ]
  ]

pub clusters_within : (g : Geometry) (need held : ℕ) (lacks : Bool) (bs : List Block) (ws : List PlanWrite) (k : ℕ) (w : PlanWrite) → IsGeometry g → filled g need held lacks bs ≡ Some ws → slice_get ws k ≡ Some w → (q : ℕ) → Has w.clusters q → q < total_of g
clusters_within g need held lacks bs ws k w is h at q t = clusters_before g need held lacks bs ws is h (suc k) q (subst (λ (o : Option PlanWrite). Has (taken_with o).clusters q) (sym at) t)
