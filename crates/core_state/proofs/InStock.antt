-- What a stock has outside, with all that a filling has taken.
use Rattle.std.proofs.Common.{◌≡◌, ◌-◌, ◌++◌, ◌↔◌, ℕ, List, [], ◌∷◌, refl, sym, ap, subst, ◌∙◌, inl, inr}
use Rattle.std.proofs.lemmas.List.{append-nil}
use Rattle.base_words.specs.Lists.{Has, Once}
use Rattle.vol_spell.specs.Owners.{Owners, nothing, Outs}
use Rattle.base_words.proofs.Listing.{has_parted, has_first, has_second, once_in_a_row, once_first, once_second, once_apart}
use Rattle.vol_under.specs.UnderWay.{together}
use Rattle.vol_under.proofs.Short.{out_alike}
use Rattle.op_law.specs.declared.need.PlanWrite.{PlanWrite}
use Rattle.extent_cache.specs.Stock.{merged}
use Rattle.core_space.specs.Laws.{places_of, things_of}
use Rattle.core_space.proofs.Merged.{stocks_take_all}
use Rattle.core_state.specs.Worlds.{Stock}
use Rattle.core_state.specs.Stocks.{things_in, filled_by}

-- ---- lists

once_turned : (xs ys : List ℕ) → Once (xs ++ ys) → Once (ys ++ xs)
once_turned xs ys once = once_in_a_row ys xs (once_second xs ys once) (once_first xs ys once) (λ q t u. once_apart xs ys once q u t)

has_turned : (xs ys : List ℕ) (q : ℕ) → Has (xs ++ ys) q → Has (ys ++ xs) q
has_turned xs ys q h = elim (has_parted xs ys q h) [ inl t ↦ has_second ys xs q t | inr t ↦ has_first ys xs q t ]

placed : (ns : List ℕ) (n : ℕ) → Has ns n → Has (places_of ns) (n - 1)
placed [] n h = absurd h
placed (m ∷ ns) n (inl e) = inl (ap (λ (k : ℕ). k - 1) e)
placed (m ∷ ns) n (inr h) = inr (placed ns n h)

-- a number of which this is the place
record IsPlaced (ns : List ℕ) (q : ℕ) : Type 0 where
  number : ℕ
  has : Has ns number
  place : number - 1 ≡ q

from_placed : (ns : List ℕ) (q : ℕ) → Has (places_of ns) q → IsPlaced ns q
from_placed [] q h = absurd h
from_placed (m ∷ ns) q (inl e) = record { number = m; has = inl refl; place = e }
from_placed (m ∷ ns) q (inr h) = let r = from_placed ns q h in record { number = r.number; has = inr r.has; place = r.place }

-- numbers at places that are different, are different
once_placed : (ns : List ℕ) → Once (places_of ns) → Once ns
once_placed [] once = tt
once_placed (n ∷ ns) once = ((λ h. once.0 (placed ns n h)), once_placed ns once.1)

-- and each has its own place
own_place : (ns : List ℕ) (a b : ℕ) → Once (places_of ns) → Has ns a → Has ns b → a - 1 ≡ b - 1 → a ≡ b
own_place [] a b once h k e = absurd h
own_place (n ∷ ns) a b once (inl f) (inl g) e = sym f ∙ g
own_place (n ∷ ns) a b once (inl f) (inr k) e = absurd (once.0 (subst (Has (places_of ns)) (sym e ∙ ap (λ (m : ℕ). m - 1) (sym f)) (placed ns b k)))
own_place (n ∷ ns) a b once (inr h) (inl g) e = absurd (once.0 (subst (Has (places_of ns)) (e ∙ ap (λ (m : ℕ). m - 1) (sym g)) (placed ns a h)))
own_place (n ∷ ns) a b once (inr h) (inr k) e = own_place ns a b once.1 h k e

-- numbers among those, each once, are at different places
places_once : (all ns : List ℕ) → Once (places_of all) → ((q : ℕ) → Has ns q → Has all q) → Once ns → Once (places_of ns)
places_once all [] placed_once among once = tt
places_once all (n ∷ ns) placed_once among once = (
  (λ h.
      let r = from_placed ns (n - 1) h in
      let same : r.number ≡ n = own_place all r.number n placed_once (among r.number (inr r.has)) (among n (inl refl)) r.place in
      once.0 (subst (Has ns) same r.has)),
  places_once all ns placed_once (λ q t. among q (inr t)) once.1,
)

places_joined : (ms ns : List ℕ) → places_of (ms ++ ns) ≡ places_of ms ++ places_of ns
places_joined [] ns = refl
places_joined (m ∷ ms) ns = ap (λ qs. (m - 1) ∷ qs) (places_joined ms ns)

-- ---- what is outside

-- a stock and what was taken, each once
pub record IsOnce (v : PlanWrite) (stock : Stock) : Type 0 where
  pub clusters : Once (v.clusters ++ stock.clusters)
  pub numbers : Once (v.numbers ++ stock.numbers)

module _ (n : ℕ) (own : Owners) (v : PlanWrite) (stock : Stock) (outs : Outs n own nothing (together (things_in stock) (things_of v.clusters v.numbers))) where
  places : Once (places_of (v.numbers ++ stock.numbers))
  places = subst Once (sym (places_joined v.numbers stock.numbers)) (once_turned (places_of stock.numbers) (places_of v.numbers) outs.numbers.once)

  pub is_once : IsOnce v stock
  is_once = record { clusters = once_turned stock.clusters v.clusters outs.clusters.once; numbers = once_placed (v.numbers ++ stock.numbers) places }

  all_clusters : Once (merged v.clusters stock.clusters) × ((q : ℕ) → Has (merged v.clusters stock.clusters) q ↔ Has (v.clusters ++ stock.clusters) q)
  all_clusters = stocks_take_all v.clusters stock.clusters is_once.clusters

  all_numbers : Once (merged v.numbers stock.numbers) × ((q : ℕ) → Has (merged v.numbers stock.numbers) q ↔ Has (v.numbers ++ stock.numbers) q)
  all_numbers = stocks_take_all v.numbers stock.numbers is_once.numbers

  -- the places are of the same numbers
  to_places : (q : ℕ) → Has (places_of stock.numbers ++ places_of v.numbers) q → Has (places_of (merged v.numbers stock.numbers)) q
  to_places q h =
      let r = from_placed (v.numbers ++ stock.numbers) q (subst (λ (ns : List ℕ). Has ns q) (sym (places_joined v.numbers stock.numbers)) (has_turned (places_of stock.numbers) (places_of v.numbers) q h)) in
      subst (Has (places_of (merged v.numbers stock.numbers))) r.place (placed (merged v.numbers stock.numbers) r.number ((all_numbers.1 r.number).1 r.has))

  from_places : (q : ℕ) → Has (places_of (merged v.numbers stock.numbers)) q → Has (places_of stock.numbers ++ places_of v.numbers) q
  from_places q h =
      let r = from_placed (merged v.numbers stock.numbers) q h in
      has_turned (places_of v.numbers) (places_of stock.numbers) q (subst (λ (ns : List ℕ). Has ns q) (places_joined v.numbers stock.numbers)
      (subst (Has (places_of (v.numbers ++ stock.numbers))) r.place (placed (v.numbers ++ stock.numbers) r.number ((all_numbers.1 r.number).0 r.has))))

  -- all of it is in the stock then
  pub in_stock : Outs n own nothing (together (things_in (filled_by v stock)) nothing)
  in_stock = record {
    clusters = out_alike n own.clusters [] (stock.clusters ++ v.clusters) [] (merged v.clusters stock.clusters ++ [])
        (subst Once (sym (append-nil (merged v.clusters stock.clusters))) all_clusters.0)
        (λ q. (
          (λ h. subst (λ (cs : List ℕ). Has cs q) (sym (append-nil (merged v.clusters stock.clusters))) ((all_clusters.1 q).1 (has_turned stock.clusters v.clusters q h))),
          (λ h. has_turned v.clusters stock.clusters q ((all_clusters.1 q).0 (subst (λ (cs : List ℕ). Has cs q) (append-nil (merged v.clusters stock.clusters)) h))),
        )) outs.clusters;
    numbers = out_alike n own.numbers [] (places_of stock.numbers ++ places_of v.numbers) [] (places_of (merged v.numbers stock.numbers) ++ [])
        (subst Once (sym (append-nil (places_of (merged v.numbers stock.numbers)))) (places_once (v.numbers ++ stock.numbers) (merged v.numbers stock.numbers) places (λ q. (all_numbers.1 q).0) all_numbers.0))
        (λ q. (
          (λ h. subst (λ (cs : List ℕ). Has cs q) (sym (append-nil (places_of (merged v.numbers stock.numbers)))) (to_places q h)),
          (λ h. from_places q (subst (λ (cs : List ℕ). Has cs q) (append-nil (places_of (merged v.numbers stock.numbers))) h)),
        )) outs.numbers;
  }
