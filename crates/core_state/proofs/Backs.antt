-- A write of a give-back: what it makes free, and what is left then.
use Rattle.std.proofs.Common.{◌≡◌, ◌<◌, ◌+◌, ◌⊎◌, ℕ, zero, suc, List, [], ◌∷◌, Some, None, length, map, drop, slice_get, refl, sym, ap, subst, ◌∙◌, inl, inr, arith}
use Rattle.std.proofs.lemmas.Option.{slice_get_within}
use Rattle.base_words.specs.Fields.{Block}
use Rattle.plain_cat.specs.declared.cat.Cat.{Cat}
use Rattle.base_words.specs.Lists.{Has, Once}
use Rattle.vol_spell.specs.Owners.{Owners, Things, Outs}
use Rattle.vol_parts.specs.declared.geometry.Geometry.{Geometry}
use Rattle.lock_db.specs.declared.name.LockName.TheVariants.{V}
use Rattle.vol_parts.specs.declared.geometry.Part.TheVariants.{IndexBitmap, Storage}
use Rattle.vol_spell.specs.Reading.{total_of}
use Rattle.vol_spell.specs.Places.{place_of}
use Rattle.vol_spell.specs.Spelling.{AreBlank, Spells}
use Rattle.vol_spell.proofs.Parts.{are_parts}
use Rattle.vol_under.specs.Keeping.{Refills, IsBitmap}
use Rattle.op_law.specs.declared.need.PlanWrite.{PlanWrite}
use Rattle.core_space.specs.declared.run.SpaceRun.{SpaceRun}
use Rattle.core_space.specs.Giving.{block_seen, give_place, give_writes}
use Rattle.core_space.specs.Laws.{things_of}
use Rattle.core_space.proofs.Given.{numbers_go_back, clusters_go_back, outside_within}
use Rattle.core_state.specs.Worlds.{Stock, empty_stock}
use Rattle.core_state.specs.Stocks.{things_in, left_by}
use Rattle.core_state.specs.Searches.{AreUnderV, IsWritingBack, IsGoingBack, WritesBack}
use Rattle.core_state.proofs.Givings.{without_block, NumbersFirst, ClustersNext, give_step, give_nothing, AllSeen, all_seen, seen_has, covered_seen, less_seen, no_numbers_seen, numbers_leave, clusters_leave}

-- the next write, and what comes behind it
pub drop_at : (ws : List PlanWrite) (k : ℕ) (w : PlanWrite) → slice_get ws k ≡ Some w → drop k ws ≡ w ∷ drop (k + 1) ws
drop_at [] k w e = absurd (let f : None ≡ Some w = e in cc)
drop_at (v ∷ ws) zero w e = let f : Some v ≡ Some w = e in let h : v ≡ w = cc in ap (λ x. x ∷ ws) h
drop_at (v ∷ ws) (suc k) w e = drop_at ws k w e ∙ ap (λ j. w ∷ drop j (v ∷ ws)) (let z : suc (k + 1) ≡ suc k + 1 = omega arith in z)

pub drop_end : (ws : List PlanWrite) (k : ℕ) → slice_get ws k ≡ None → drop k ws ≡ []
drop_end [] zero e = refl
drop_end [] (suc k) e = refl
drop_end (v ∷ ws) zero e = absurd (let f : Some v ≡ None = e in cc)
drop_end (v ∷ ws) (suc k) e = drop_end ws k e

-- a write of a give-back of this stock, by a node whose command was given this
pub record IsBackWrite (g : Geometry) (n : ℕ) (took : Things) (cat : Cat) (stock : Stock) (run after : SpaceRun) (w : PlanWrite) : Type 0 where
  pub lock : w.lock ≡ V
  pub old : Block
  pub among : Has run.looked (w.lbn, old)
  pub bitmap : IsBitmap g w.lbn
  pub refill : (base : List Block) (own : Owners) → Spells g base own cat → AreBlank g base own → Outs n own took (things_in stock) → slice_get base w.lbn ≡ Some old → Refills g n took (things_in (left_by g w.lbn stock)) w.lbn w.block base own cat
  pub goes : IsGoingBack g (left_by g w.lbn stock) after

module _ (g : Geometry) (n : ℕ) (took : Things) (cat : Cat) (stock : Stock) (run after : SpaceRun) (w : PlanWrite) (base : List Block) (own : Owners) (spelt : Spells g base own cat) (outs : Outs n own took (things_in stock))
    (back : IsWritingBack g stock run) (next : slice_get run.writes run.made ≡ Some w) (same_looked : after.looked ≡ run.looked) (same_writes : after.writes ≡ run.writes) (made : after.made ≡ run.made + 1) where
  inside : (q : ℕ) → Has stock.clusters q → q < total_of g
  inside q h = outside_within g n took stock.clusters stock.numbers base own cat q spelt outs h

  step : NumbersFirst g stock.clusters stock.numbers run.looked w (drop (run.made + 1) run.writes) ⊎ ClustersNext g stock.clusters stock.numbers run.looked w (drop (run.made + 1) run.writes)
  step = give_step g stock.clusters stock.numbers run.looked w (drop (run.made + 1) run.writes) (sym back.rest ∙ drop_at run.writes run.made w next)

  seen : AllSeen g stock.clusters stock.numbers run.looked
  seen = all_seen g stock.clusters stock.numbers run.looked back.all

  -- what is left goes on to go back
  goes_on : (left : Stock) → left_by g w.lbn stock ≡ left → drop (run.made + 1) run.writes ≡ give_writes g left.clusters left.numbers run.looked → give_place g left.clusters left.numbers run.looked ≡ None → IsGoingBack g (left_by g w.lbn stock) after
  goes_on left is rest none = WritesBack (record {
    rest = (λ i. drop (made i) (same_writes i)) ∙ rest ∙ (λ i. give_writes g (sym is i).clusters (sym is i).numbers (sym same_looked i));
    within = (let lt : run.made < length run.writes = slice_get_within run.writes run.made w next in let e : length after.writes ≡ length run.writes = ap length same_writes in let m = made in omega arith);
    all = (λ i. give_place g (is i).clusters (is i).numbers (same_looked i)) ∙ none;
    once = subst (λ (ws : List PlanWrite). Once (map (λ v. v.lbn) ws)) (sym same_writes) back.once;
    locks = subst AreUnderV (sym same_writes) back.locks;
  })

  by_numbers : NumbersFirst g stock.clusters stock.numbers run.looked w (drop (run.made + 1) run.writes) → IsBackWrite g n took cat stock run after w
  by_numbers h =
      let place : w.lbn ≡ place_of g IndexBitmap = ap (λ (v : PlanWrite). v.lbn) h.is in
      let parts = are_parts g base own cat spelt in
      record {
        lock = ap (λ (v : PlanWrite). v.lock) h.is;
        old = block_seen run.looked (place_of g IndexBitmap);
        among = subst (λ (l : ℕ). Has run.looked (l, block_seen run.looked (place_of g IndexBitmap))) (sym place) (seen_has run.looked (place_of g IndexBitmap) (seen.index h.some));
        bitmap = subst (IsBitmap g) (sym place) (inl (parts.there IndexBitmap tt));
        refill = λ b o s blank out at.
            let left = numbers_leave g b o cat stock w s (λ q i. outside_within g n took stock.clusters stock.numbers b o cat q s out i) place in
            subst (λ (k : Stock). Refills g n took (things_in k) w.lbn w.block b o cat) (sym left)
            (subst (λ (v : PlanWrite). Refills g n took (things_of stock.clusters []) v.lbn v.block b o cat) (sym h.is)
            (numbers_go_back g stock.clusters stock.numbers run.looked n took b o cat h.some s blank out (ap (slice_get b) (sym place) ∙ at)));
        goes = goes_on (record { clusters = stock.clusters; numbers = [] }) (numbers_leave g base own cat stock w spelt inside place) h.rest (no_numbers_seen g stock.clusters run.looked seen.clusters);
      }

  by_clusters : ClustersNext g stock.clusters stock.numbers run.looked w (drop (run.made + 1) run.writes) → IsBackWrite g n took cat stock run after w
  by_clusters h =
      let k = h.block in
      let place : w.lbn ≡ place_of g (Storage k) = ap (λ (v : PlanWrite). v.lbn) h.is in
      let parts = are_parts g base own cat spelt in
      record {
        lock = ap (λ (v : PlanWrite). v.lock) h.is;
        old = block_seen run.looked (place_of g (Storage k));
        among = subst (λ (l : ℕ). Has run.looked (l, block_seen run.looked (place_of g (Storage k)))) (sym place) (seen_has run.looked (place_of g (Storage k)) (covered_seen g stock.clusters stock.numbers run.looked k seen h.inside h.covered));
        bitmap = subst (IsBitmap g) (sym place) (inr (k, parts.there (Storage k) h.inside));
        refill = λ b o s blank out at.
            let left = clusters_leave g b o cat stock w k s h.inside place in
            subst (λ (j : Stock). Refills g n took (things_in j) w.lbn w.block b o cat) (sym left)
            (subst (λ (v : PlanWrite). Refills g n took (things_of (without_block k stock.clusters) stock.numbers) v.lbn v.block b o cat) (sym h.is)
            (clusters_go_back g stock.clusters stock.numbers run.looked k n took b o cat h.inside h.covered s out (ap (slice_get b) (sym place) ∙ at)));
        goes = goes_on (record { clusters = without_block k stock.clusters; numbers = stock.numbers }) (clusters_leave g base own cat stock w k spelt h.inside place)
            (h.rest ∙ ap (λ ns. give_writes g (without_block k stock.clusters) ns run.looked) (sym h.none)) (ap (λ ns. give_place g (without_block k stock.clusters) ns run.looked) h.none ∙ less_seen g stock.clusters run.looked k seen.clusters);
      }

  pub back_write : IsBackWrite g n took cat stock run after w
  back_write = elim step [ inl h ↦ by_numbers h | inr h ↦ by_clusters h ]

-- once all is written, the stock is empty
pub back_over : (g : Geometry) (n : ℕ) (took : Things) (cat : Cat) (stock : Stock) (run : SpaceRun) (base : List Block) (own : Owners) → Spells g base own cat → Outs n own took (things_in stock)
    → IsWritingBack g stock run → slice_get run.writes run.made ≡ None → stock ≡ empty_stock
back_over g n took cat stock run base own spelt outs back none =
    let e = give_nothing g stock.clusters stock.numbers run.looked (sym back.rest ∙ drop_end run.writes run.made none) (λ q h. outside_within g n took stock.clusters stock.numbers base own cat q spelt outs h) in
    λ i. record { clusters = e.0 i; numbers = e.1 i }
