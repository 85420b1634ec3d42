-- The first row of each owner, with one row more behind, and with the row of [1,1].
use Rattle.std.proofs.Common.{◌≡◌, ◌∙◌, ◌≤◌, ◌++◌, ℕ, Bool, true, false, not, List, [], ◌∷◌, Option, Some, None, length, map, cond, refl, sym, ap, subst, inl, inr, arith, append-nil, eq-eqb, ne_eqb}
use Rattle.std.specs.Prelude.{◌==◌, ◌||◌, filter, nat_le}
use Rattle.std.specs.List.{list_any, count_by, cons_option}
use Rattle.std.proofs.lemmas.Bool.Decides.{nat_tests}
use Rattle.std.proofs.lemmas.Bool.{eqb-true}
use Rattle.std.proofs.lemmas.List.Elements.{filter-append}
use Rattle.std.proofs.lemmas.List.Sums.{length-filter}
use Rattle.fx_quota.specs.declared.types.Row.{Row}
use Rattle.vol_parts.specs.Fatal.{has_two_rows}
use Rattle.base_words.specs.Lists.{Has, Once}
use Rattle.base_words.proofs.Listing.{has_filtered, has_mapped, has_map, has_any}
use Rattle.vol_sound.specs.Begun.{first_rows}
use Rattle.vol_repair.specs.Rows.{settled}

-- the owners of rows
abbrev pub owners : List Row → List ℕ
owners rs = map (λ r. r.uic) rs

-- ---- one row more behind

abbrev others : ℕ → List Row → List Row
others u rs = filter (λ (x : Row). not (x.uic == u)) rs

-- of a row that comes last: none, where its owner is among these
abbrev last : List Row → Row → List Row
last fs r = cons_option (settled (owners fs) (Some r)) []

-- rows of one owner are left out: another owner is among those of the others or not, as before
any_others : (u w : ℕ) (rs : List Row) → (u == w) ≡ false → list_any (λ n. n == w) (owners (others u rs)) ≡ list_any (λ n. n == w) (owners rs)
any_others u w [] ne = refl
any_others u w (x ∷ rs) ne = by_owner (x.uic == u) refl (any_others u w rs ne) where
  by_owner : (t : Bool) → (x.uic == u) ≡ t → list_any (λ n. n == w) (owners (others u rs)) ≡ list_any (λ n. n == w) (owners rs)
      → list_any (λ n. n == w) (owners (cond (not t) (x ∷ others u rs) (others u rs))) ≡ ((x.uic == w) || list_any (λ n. n == w) (owners rs))
  by_owner true e ih =
      let away : (x.uic == w) ≡ false = grind (arith, nat_tests) in
      ih ∙ ap (λ t. t || list_any (λ n. n == w) (owners rs)) (sym away)
  by_owner false e ih = ap (λ t. (x.uic == w) || t) ih

last_filtered : (x r : Row) (fs : List Row) → others x.uic (last fs r) ≡ last (x ∷ others x.uic fs) r
last_filtered x r fs = by_owner (x.uic == r.uic) refl where
  one : (t : Bool) → (r.uic == x.uic) ≡ t → (s : Bool) → others x.uic (cons_option (cond s None (Some r)) []) ≡ cons_option (cond (t || s) None (Some r)) []
  one true e true = refl
  one true e false = ap (λ t. cond (not t) (r ∷ []) []) e
  one false e true = refl
  one false e false = ap (λ t. cond (not t) (r ∷ []) []) e

  by_owner : (t : Bool) → (x.uic == r.uic) ≡ t → others x.uic (last fs r) ≡ last (x ∷ others x.uic fs) r
  by_owner true e =
      let back : (r.uic == x.uic) ≡ true = grind (arith, nat_tests) in
      one true back (list_any (λ n. n == r.uic) (owners fs)) ∙ ap (λ t. cons_option (cond (t || list_any (λ n. n == r.uic) (owners (others x.uic fs))) None (Some r)) []) (sym e)
  by_owner false e =
      let back : (r.uic == x.uic) ≡ false = grind (arith, nat_tests) in
      one false back (list_any (λ n. n == r.uic) (owners fs))
      ∙ ap (λ t. cons_option (cond t None (Some r)) []) (sym (any_others x.uic r.uic fs e))
      ∙ ap (λ t. cons_option (cond (t || list_any (λ n. n == r.uic) (owners (others x.uic fs))) None (Some r)) []) (sym e)

first_last : (rs : List Row) (r : Row) → first_rows (rs ++ r ∷ []) ≡ first_rows rs ++ last (first_rows rs) r
first_last [] r = refl
first_last (x ∷ rs) r =
    ap (λ fs. x ∷ others x.uic fs) (first_last rs r)
    ∙ ap (λ fs. x ∷ fs) (filter-append (λ (y : Row). not (y.uic == x.uic)) (first_rows rs) (last (first_rows rs) r)
    ∙ ap (λ fs. others x.uic (first_rows rs) ++ fs) (last_filtered x r (first_rows rs)))

-- one row more, or none
pub first_more : (rs : List Row) (o : Option Row) → first_rows (rs ++ cons_option o []) ≡ first_rows rs ++ cons_option (settled (owners (first_rows rs)) o) []
first_more rs None = ap first_rows (append-nil rs) ∙ sym (append-nil (first_rows rs))
first_more rs (Some r) = first_last rs r

-- ---- no owner twice

-- fewer rows have fewer owners
has_others : (u n : ℕ) (rs : List Row) → Has (owners (others u rs)) n → Has (owners rs) n
has_others u n rs t =
    let m = has_mapped (λ (r : Row). r.uic) (others u rs) n t in
    let h = has_filtered (λ (x : Row). not (x.uic == u)) rs m.0 m.1 in
    subst (λ (k : ℕ). Has (owners rs) k) m.2 (has_map (λ (r : Row). r.uic) rs m.0 h.0)

not_others : (u : ℕ) (rs : List Row) → Has (owners (others u rs)) u → ⊥
not_others u rs t =
    let m = has_mapped (λ (r : Row). r.uic) (others u rs) u t in
    let h = has_filtered (λ (x : Row). not (x.uic == u)) rs m.0 m.1 in
    let z : false ≡ true = ap not (sym (eq-eqb m.0.uic u m.2)) ∙ h.1 in
    cc

once_others : (u : ℕ) (rs : List Row) → Once (owners rs) → Once (owners (others u rs))
once_others u [] o = tt
once_others u (x ∷ rs) o = by_owner (x.uic == u) (once_others u rs o.1) where
  by_owner : (t : Bool) → Once (owners (others u rs)) → Once (owners (cond (not t) (x ∷ others u rs) (others u rs)))
  by_owner true ih = ih
  by_owner false ih = ((λ h. o.0 (has_others u x.uic rs h)), ih)

pub first_once : (rs : List Row) → Once (owners (first_rows rs))
first_once [] = tt
first_once (r ∷ rs) = (not_others r.uic (first_rows rs), once_others r.uic (first_rows rs) (first_once rs))

-- ---- counts of rows

abbrev of_owner : ℕ → List Row → List Row
of_owner u rs = filter (λ (r : Row). r.uic == u) rs

none_counted : (u : ℕ) (rs : List Row) → (Has (owners rs) u → ⊥) → length (of_owner u rs) ≡ 0
none_counted u [] away = refl
none_counted u (x ∷ rs) away = ap (λ t. length (cond t (x ∷ of_owner u rs) (of_owner u rs))) (ne_eqb x.uic u (λ e. away (inl e))) ∙ none_counted u rs (λ t. away (inr t))

once_counted : (u : ℕ) (rs : List Row) → Once (owners rs) → length (of_owner u rs) ≤ 1
once_counted u [] o = omega arith
once_counted u (x ∷ rs) o = by_owner (x.uic == u) refl (once_counted u rs o.1) where
  by_owner : (t : Bool) → (x.uic == u) ≡ t → length (of_owner u rs) ≤ 1 → length (cond t (x ∷ of_owner u rs) (of_owner u rs)) ≤ 1
  by_owner true e ih =
      let is : x.uic ≡ u = eqb-true x.uic u e in
      let none = none_counted u rs (subst (λ (n : ℕ). Has (owners rs) n → ⊥) is o.0) in
      omega arith
  by_owner false e ih = ih

pub once_rowed : (u : ℕ) (rs : List Row) → Once (owners rs) → has_two_rows rs u ≡ false
once_rowed u rs o =
    let few = once_counted u rs o in
    let same = length-filter (λ (r : Row). r.uic == u) rs in
    few_enough (count_by (λ (r : Row). r.uic == u) rs) (omega arith)
  where
    few_enough : (k : ℕ) → k ≤ 1 → nat_le 2 k ≡ false
    few_enough k le = grind (arith, nat_tests)

-- ---- an owner among them

pub any_owner : (u : ℕ) (rs : List Row) → list_any (λ n. n == u) (owners rs) ≡ list_any (λ (r : Row). r.uic == u) rs
any_owner u [] = refl
any_owner u (r ∷ rs) = ap (λ t. (r.uic == u) || t) (any_owner u rs)

pub not_any : (u : ℕ) (rs : List Row) → list_any (λ n. n == u) (owners rs) ≡ false → Has (owners rs) u → ⊥
not_any u rs none t =
    let z : true ≡ false = sym (has_any (λ n. n == u) (owners rs) u t (eq-eqb u u refl)) ∙ none in
    cc
