-- The writes of a search, one after another.
use Rattle.std.proofs.Common.{◌≡◌, ◌≢◌, ◌<◌, ◌≤◌, ◌+◌, ◌-◌, ◌/◌, ◌%◌, ◌⊎◌, ◌++◌, ℕ, zero, suc, Bool, true, false, List, [], ◌∷◌, Option, Some, None, length, slice_get, refl, sym, ap, subst, ◌∙◌, inl, inr, arith, append-nil}
use Rattle.std.specs.Prelude.{◌↔◌, take}
use Rattle.std.specs.List.{zip}
use Rattle.base_words.specs.Fields.{Block}
use Rattle.fx_bitmap.specs.Bits.{bit_at, bits_put}
use Rattle.vol_parts.proofs.Tables.{whole_bits}
use Rattle.plain_cat.specs.declared.cat.Cat.{Cat}
use Rattle.plain_cat.specs.declared.reply.Refusal.TheVariants.{IndexFull}
use Rattle.base_words.specs.Lists.{Has, Once}
use Rattle.vol_spell.specs.Owners.{Owners, Things, Outs}
use Rattle.base_words.proofs.Listing.{same_or_not}
use Rattle.vol_parts.specs.declared.geometry.Geometry.{Geometry}
use Rattle.vol_parts.specs.declared.geometry.Part.TheVariants.{IndexBitmap, Storage}
use Rattle.vol_parts.specs.Parts.{IsGeometry, storage_blocks, part_of}
use Rattle.vol_spell.specs.Reading.{total_of}
use Rattle.vol_spell.specs.Places.{place_of, IsPart}
use Rattle.vol_spell.specs.Spelling.{Spells}
use Rattle.vol_spell.proofs.Parts.{part_there}
use Rattle.vol_under.specs.Keeping.{Refills, IsBitmap}
use Rattle.vol_under.specs.Refilling.{AreNumbersTaken}
use Rattle.vol_under.proofs.Refills.{takes_clusters, takes_numbers}
use Rattle.op_law.specs.declared.need.PlanWrite.{PlanWrite}
use Rattle.op_law.specs.Fits.{things}
use Rattle.op_law.specs.Writing.{Held, holding, empty_handed}
use Rattle.core_space.specs.Searching.{More, Short, Enough, storage_places, cluster_places, free_number, number_write, free_in, taken_in, cluster_write, cluster_writes, found_number, found}
use Rattle.core_space.specs.Taking.{looked, out_of, out_after, TakesNumber, TakesClustersOf, IsTaking, WritesTake, TakingsRefill}
use Rattle.core_space.proofs.Ways.{enough_of}
use Rattle.core_space.proofs.BitRuns.{put_here, put_there}
use Rattle.core_space.proofs.Chosen.{LiesIn, has_taken_in, once_taken_in, IsClearNumber, free_number_clear}
use Rattle.core_space.proofs.Filled.{are_taken}

are_numbers_taken : (g : Geometry) (b : Block) (n : ℕ) → g.files ≤ 4096 → IsClearNumber g b n → AreNumbersTaken g ((n - 1) ∷ []) b (bits_put b (n - 1) 1 true)
are_numbers_taken g b n fit clear =
    let lo = clear.from in
    let hi = clear.to in
    let low : n - 1 < 4096 = omega arith in record {
      whole = whole_bits b (n - 1) 1 true;
      once = ((λ t. t), tt);
      inside = λ i t. elim t [ inl e ↦ omega arith | inr f ↦ absurd f ];
      free = λ i t. elim t [ inl e ↦ ap (λ j. bit_at b j) (sym e) ∙ clear.clear | inr f ↦ absurd f ];
      bits = λ i lt. bits i (omega arith) (same_or_not i (n - 1)) low;
    } where
      bits : (i : ℕ) → i < 4096 → (i ≡ n - 1) ⊎ (i ≢ n - 1) → n - 1 < 4096 → (bit_at (bits_put b (n - 1) 1 true) i ≡ false) ↔ ((bit_at b i ≡ false) × (Has ((n - 1) ∷ []) i → ⊥))
      bits i lt (inl e) low = (
        (λ f. absurd (let g : true ≡ false = sym (put_here b (n - 1) true low) ∙ ap (λ j. bit_at (bits_put b (n - 1) 1 true) j) (sym e) ∙ f in cc)),
        (λ p. absurd (p.1 (inl (sym e)))),
      )
      bits i lt (inr ne) low = (
        (λ f. (sym (put_there b (n - 1) i true lt ne) ∙ f, λ t. elim t [ inl e ↦ ne (sym e) | inr u ↦ u ])),
        (λ p. put_there b (n - 1) i true lt ne ∙ p.0),
      )

-- ---- writes in a row

-- these writes, one after another from being this outside
abbrev pub AreTakings : Geometry → List (ℕ × Block) → Held → List PlanWrite → Type 0
AreTakings g seen out [] = Unit {0}
AreTakings g seen out (w ∷ ws) = IsTaking g seen out w × AreTakings g seen (holding w.clusters w.number) ws

-- what is outside before write k
abbrev out_from : Held → List PlanWrite → ℕ → Held
out_from out ws zero = out
out_from out ws (suc k) = out_of (slice_get ws k)

taking_at : (g : Geometry) (seen : List (ℕ × Block)) (out : Held) (ws : List PlanWrite) (k : ℕ) (w : PlanWrite) → AreTakings g seen out ws → slice_get ws k ≡ Some w → IsTaking g seen (out_from out ws k) w
taking_at g seen out [] k w t e = absurd (let f : None ≡ Some w = e in cc)
taking_at g seen out (v ∷ ws) zero w t e = let same : v ≡ w = (let f : Some v ≡ Some w = e in cc) in subst (λ (x : PlanWrite). IsTaking g seen out x) same t.0
taking_at g seen out (v ∷ ws) (suc zero) w t e = taking_at g seen (holding v.clusters v.number) ws zero w t.1 e
taking_at g seen out (v ∷ ws) (suc (suc k)) w t e = taking_at g seen (holding v.clusters v.number) ws (suc k) w t.1 e

from_none : (g : Geometry) (seen : List (ℕ × Block)) (ws : List PlanWrite) (k : ℕ) (w : PlanWrite) → IsTaking g seen (out_from empty_handed ws k) w → IsTaking g seen (out_after ws k) w
from_none g seen ws zero w t = t
from_none g seen ws (suc k) w t = t

-- the write of one block of the storage bitmap, or none, and what comes next
one_block : (g : Geometry) (seen : List (ℕ × Block)) (number : Option ℕ) (before : List ℕ) (k : ℕ) (b : Block) (qs : List ℕ) (rest : List PlanWrite) → ((p : ℕ) → Has qs p → IsPart g (Storage k) → Has seen (place_of g (Storage k), b)) → Once qs
    → ((p : ℕ) → Has qs p → LiesIn g k p × (bit_at b (p % 4096) ≡ true)) → AreTakings g seen (holding (before ++ qs) number) rest → AreTakings g seen (holding before number) (cluster_write g number before k b qs ++ rest)
one_block g seen number before k b [] rest stood once free t = subst (λ (xs : List ℕ). AreTakings g seen (holding xs number) rest) (append-nil before) t
one_block g seen number before k b (q ∷ qs) rest stood once free t =
    let l = (free q (inl refl)).0 in
    let lt = l.inside in
    let block = l.block in
    let in_volume : k < (total_of g + 4095) / 4096 = omega arith in (
      record {
        lock = refl;
        stage = refl;
        old = b;
        among = stood q (inl refl) in_volume;
        takes = inr (record { part = k; taken = q ∷ qs; inside = in_volume; place = refl; free = are_taken g k b q qs once free; number = refl; clusters = refl });
      },
      t,
    )

-- blocks behind the last one of the bitmap give nothing
blocks_none : (g : Geometry) (seen : List (ℕ × Block)) (wanted : ℕ) (number : Option ℕ) (before : List ℕ) (k : ℕ) (bs : List Block) → storage_blocks (total_of g) ≤ k
    → AreTakings g seen (holding before number) (cluster_writes g wanted number before k bs)
unfolding cluster_writes
blocks_none g seen wanted number before k [] h = tt
blocks_none g seen wanted number before k (b ∷ bs) h =
    let qs = taken_in g wanted before k b in
    one_block g seen number before k b qs (cluster_writes g wanted number (before ++ qs) (k + 1) bs)
    (λ p t is. absurd (let lt : k < storage_blocks (total_of g) = is in omega arith))
    (once_taken_in g wanted before k b) (has_taken_in g wanted before k b)
    (blocks_none g seen wanted number (before ++ qs) (k + 1) bs (omega arith))

blocks_take : (g : Geometry) (seen : List (ℕ × Block)) (wanted : ℕ) (number : Option ℕ) (before : List ℕ) (k count : ℕ) (bs : List Block) → k + count ≡ storage_blocks (total_of g)
    → ((x : ℕ × Block) → Has (zip (storage_places g k count) bs) x → Has seen x) → AreTakings g seen (holding before number) (cluster_writes g wanted number before k bs)
unfolding cluster_writes
blocks_take g seen wanted number before k count [] e stood = tt
blocks_take g seen wanted number before k zero (b ∷ bs) e stood = blocks_none g seen wanted number before k (b ∷ bs) (omega arith)
blocks_take g seen wanted number before k (suc count) (b ∷ bs) e stood =
    let qs = taken_in g wanted before k b in
    one_block g seen number before k b qs (cluster_writes g wanted number (before ++ qs) (k + 1) bs)
    (λ p t is. stood (place_of g (Storage k), b) (inl refl))
    (once_taken_in g wanted before k b) (has_taken_in g wanted before k b)
    (blocks_take g seen wanted number (before ++ qs) (k + 1) count bs (omega arith) (λ x t. stood x (inr t)))

-- where nothing is wanted nothing is taken
none_taken : (g : Geometry) (before : List ℕ) (k : ℕ) (b : Block) (p : ℕ) → Has (taken_in g 0 before k b) p → ⊥
unfolding taken_in
none_taken g before k b p t =
    let none : 0 - length before ≡ 0 = omega arith in
    let u : Has (take (0 - length before) (free_in g k b)) p = t in
    subst (λ (n : ℕ). Has (take n (free_in g k b)) p) none u

nothing_wanted : (g : Geometry) (seen : List (ℕ × Block)) (number : Option ℕ) (before : List ℕ) (k : ℕ) (bs : List Block) → AreTakings g seen (holding before number) (cluster_writes g 0 number before k bs)
unfolding cluster_writes
nothing_wanted g seen number before k [] = tt
nothing_wanted g seen number before k (b ∷ bs) =
    let qs = taken_in g 0 before k b in
    one_block g seen number before k b qs (cluster_writes g 0 number (before ++ qs) (k + 1) bs)
    (λ p t is. absurd (none_taken g before k b p t)) (once_taken_in g 0 before k b) (has_taken_in g 0 before k b)
    (nothing_wanted g seen number (before ++ qs) (k + 1) bs)

-- ---- the writes of a search

clusters_take : (g : Geometry) (seen : List (ℕ × Block)) (clusters : ℕ) (number : Option ℕ) (bs : List Block) → ((x : ℕ × Block) → Has (zip (cluster_places g clusters) bs) x → Has seen x)
    → AreTakings g seen (holding [] number) (cluster_writes g clusters number [] 0 bs)
clusters_take g seen zero number bs stood = nothing_wanted g seen number [] 0 bs
clusters_take g seen (suc more) number bs stood = blocks_take g seen (suc more) number [] 0 (storage_blocks (total_of g)) bs (omega arith) stood

number_takes : (g : Geometry) (clusters : ℕ) (index : Block) (n : Option ℕ) (bs : List Block) (ws : List PlanWrite) → IsGeometry g → free_number g index ≡ n → found_number g clusters index n bs ≡ Enough ws
    → AreTakings g (looked g clusters true (index ∷ bs)) empty_handed ws
number_takes g clusters index None bs ws is free e = absurd (let f : Short IndexFull ≡ Enough ws = e in cc)
number_takes g clusters index (Some n) bs ws is free e =
    let seen = looked g clusters true (index ∷ bs) in
    let enough = enough_of g clusters (Some n) (number_write g n index ∷ []) bs ws e in
    let fit = is.files_to in
    let t : AreTakings g seen empty_handed (number_write g n index ∷ cluster_writes g clusters (Some n) [] 0 bs) = (
      record {
        lock = refl;
        stage = refl;
        old = index;
        among = inl refl;
        takes = inl (record { taken = n; place = refl; free = are_numbers_taken g index n fit (free_number_clear g index n free); none = refl; number = refl; clusters = refl });
      },
      clusters_take g seen clusters (Some n) bs (λ x t. inr t),
    ) in
    subst (λ (vs : List PlanWrite). AreTakings g seen empty_handed vs) (sym enough.1) t

search_takes : (g : Geometry) (clusters : ℕ) (number : Bool) (bs : List Block) (ws : List PlanWrite) → IsGeometry g → found g clusters number bs ≡ Enough ws → AreTakings g (looked g clusters number bs) empty_handed ws
search_takes g clusters false bs ws is e =
    let seen = looked g clusters false bs in
    let enough = enough_of g clusters None [] bs ws e in
    subst (λ (vs : List PlanWrite). AreTakings g seen empty_handed vs) (sym enough.1) (clusters_take g seen clusters None bs (λ x t. t))
search_takes g clusters true [] ws is e = absurd (let f : More ≡ Enough ws = e in cc)
search_takes g clusters true (index ∷ bs) ws is e = number_takes g clusters index (free_number g index) bs ws is refl e

pub writes_take : WritesTake
writes_take g clusters number bs ws k w is e at =
    let seen = looked g clusters number bs in
    from_none g seen ws k w (taking_at g seen empty_handed ws k w (search_takes g clusters number bs ws is e) at)

-- ---- what they leave

number_refills : (g : Geometry) (out : Held) (old : Block) (w : PlanWrite) → TakesNumber g out old w → (n : ℕ) (took : Things) (base : List Block) (own : Owners) (c : Cat) → Spells g base own c → Outs n own took (things out.clusters out.number)
    → slice_get base w.lbn ≡ Some old → IsBitmap g w.lbn × Refills g n took (things w.clusters w.number) w.lbn w.block base own c
number_refills g out old w t n took base own c s outs at =
    let part : part_of g w.lbn ≡ Some IndexBitmap = ap (part_of g) t.place ∙ part_there g base own c s IndexBitmap tt in
    let stood : Outs n own took (things out.clusters None) = subst (λ (o : Option ℕ). Outs n own took (things out.clusters o)) t.none outs in
    let r = takes_numbers g n took (things out.clusters None) w.lbn ((t.taken - 1) ∷ []) old w.block base own c s stood part at t.free in
    let after : things out.clusters (Some t.taken) ≡ things w.clusters w.number = ap (λ (qs : List ℕ). things qs (Some t.taken)) (sym t.clusters) ∙ ap (λ (o : Option ℕ). things w.clusters o) (sym t.number) in
    (inl part, subst (λ (stock : Things). Refills g n took stock w.lbn w.block base own c) after r)

with_more : (qs ps : List ℕ) (o : Option ℕ) → record (things qs o) { clusters = (things qs o).clusters ++ ps } ≡ things (qs ++ ps) o
with_more qs ps None = refl
with_more qs ps (Some n) = refl

clusters_refill : (g : Geometry) (out : Held) (old : Block) (w : PlanWrite) → TakesClustersOf g out old w → (n : ℕ) (took : Things) (base : List Block) (own : Owners) (c : Cat) → Spells g base own c → Outs n own took (things out.clusters out.number)
    → slice_get base w.lbn ≡ Some old → IsBitmap g w.lbn × Refills g n took (things w.clusters w.number) w.lbn w.block base own c
clusters_refill g out old w t n took base own c s outs at =
    let part : part_of g w.lbn ≡ Some (Storage t.part) = ap (part_of g) t.place ∙ part_there g base own c s (Storage t.part) t.inside in
    let r = takes_clusters g n took (things out.clusters out.number) t.part w.lbn t.taken old w.block base own c s outs part at t.free in
    let after = with_more out.clusters t.taken out.number ∙ ap (λ (qs : List ℕ). things qs out.number) (sym t.clusters) ∙ ap (λ (o : Option ℕ). things w.clusters o) (sym t.number) in
    (inr (t.part, part), subst (λ (stock : Things). Refills g n took stock w.lbn w.block base own c) after r)

pub takings_refill : TakingsRefill
takings_refill g seen out w t n took base own c s outs at = elim t.takes [
  | inl a ↦ number_refills g out t.old w a n took base own c s outs at
  | inr a ↦ clusters_refill g out t.old w a n took base own c s outs at
]
