-- Entries seen through a function that keeps their name, version and file identifier.
use Rattle.std.proofs.Common.{◌≡◌, ◌∙◌, ◌+◌, ◌&&◌, ◌||◌, not, Bool, true, false, ℕ, zero, suc, List, [], ◌∷◌, ◌++◌, Option, Some, None, map, refl, sym, ap, subst, cond, leb, if◌then◌else◌}
use Rattle.std.specs.List.{list_all}
use Rattle.std.specs.Str.{bytes_eq}
use Rattle.base_words.specs.Packing.{cost, size, filled, unfilled, pack, over}
use Rattle.fx_dir.specs.declared.RawEnt.{RawEnt}
use Rattle.fx_dir.specs.Entries.{same, before, rises, has, fresh, plain}
use Rattle.fx_dir.specs.Writing.{name_of, under, marked}
use Rattle.fx_dir.proofs.Meeting.{met}
use Rattle.fx_dir.proofs.Finding.{map-join}

pub record IsView (v : RawEnt → RawEnt) : Type 0 where
  pub name : (e : RawEnt) → (v e).name ≡ e.name
  pub ver : (e : RawEnt) → (v e).ver ≡ e.ver
  pub num : (e : RawEnt) → (v e).num ≡ e.num
  pub seq : (e : RawEnt) → (v e).seq ≡ e.seq

pub plain-view : IsView plain
plain-view = record { name = λ e. refl; ver = λ e. refl; num = λ e. refl; seq = λ e. refl }

pub own-view : IsView (λ e. e)
own-view = record { name = λ e. refl; ver = λ e. refl; num = λ e. refl; seq = λ e. refl }

module _ (v : RawEnt → RawEnt) (view : IsView v) where
  pub same-view : (a b : RawEnt) → same (v a) (v b) ≡ same a b
  unfolding same
  same-view a b = rw (view.name a, view.name b, view.ver a, view.ver b) refl

  pub before-view : (a b : RawEnt) → before (v a) (v b) ≡ before a b
  unfolding before
  before-view a b = rw (view.name a, view.name b, view.ver a, view.ver b) refl

  pub has-view : (es : List RawEnt) (e : RawEnt) → has (map v es) (v e) ≡ has es e
  has-view [] e = refl
  has-view (x ∷ es) e = λ i. same-view e x i || has-view es e i

  pub fresh-view : (es fs : List RawEnt) → fresh (map v es) (map v fs) ≡ map v (fresh es fs)
  fresh-view es [] = refl
  fresh-view es (e ∷ fs) = rw (has-view es e, fresh-view es fs) (step (not (has es e))) where
    step : (q : Bool) → cond q (v e ∷ map v (fresh es fs)) (map v (fresh es fs)) ≡ map v (cond q (e ∷ fresh es fs) (fresh es fs))
    step true = refl
    step false = refl

  pub met-view : (d : List RawEnt) (bs : List (List RawEnt)) → met (map v d) (map (map v) bs) ≡ map v (met d bs)
  met-view d [] = refl
  met-view d (b ∷ bs) =
      let e : map v d ++ fresh (map v d) (map v b) ≡ map v (d ++ fresh d b) = ap (λ (t : List RawEnt). map v d ++ t) (fresh-view d b) ∙ sym (map-join v d (fresh d b)) in
      ap (λ (t : List RawEnt). met t (map (map v) bs)) e ∙ met-view (d ++ fresh d b) bs

  all-view : (a : RawEnt) (es : List RawEnt) → list_all (before (v a)) (map v es) ≡ list_all (before a) es
  all-view a [] = refl
  all-view a (e ∷ es) = λ i. before-view a e i && all-view a es i

  pub rises-view : (es : List RawEnt) → rises (map v es) ≡ rises es
  rises-view [] = refl
  rises-view (e ∷ es) = λ i. all-view e es i && rises-view es i

  pub size-view : (last : Option (List ℕ)) (es : List RawEnt) → size name_of last (map v es) ≡ size name_of last es
  size-view last [] = refl
  size-view last (e ∷ es) = rw (view.name e) (λ i. cost last e.name + size-view (Some e.name) es i)

  filled-view : (last : Option (List ℕ)) (used : ℕ) (es : List RawEnt) → filled name_of last used (map v es) ≡ map v (filled name_of last used es)
  filled-view last used [] = refl
  filled-view last used (e ∷ es) =
      subst (λ (n : List ℕ). (if leb (used + cost last n) 510 then v e ∷ filled name_of (Some n) (used + cost last n) (map v es) else []) ≡ map v (filled name_of last used (e ∷ es))) (sym (view.name e))
      (ap (λ (t : List RawEnt). if leb (used + cost last e.name) 510 then v e ∷ t else []) (filled-view (Some e.name) (used + cost last e.name) es) ∙ step (leb (used + cost last e.name) 510)) where
        step : (q : Bool) → (if q then v e ∷ map v (filled name_of (Some e.name) (used + cost last e.name) es) else []) ≡ map v (if q then e ∷ filled name_of (Some e.name) (used + cost last e.name) es else [])
        step true = refl
        step false = refl

  unfilled-view : (last : Option (List ℕ)) (used : ℕ) (es : List RawEnt) → unfilled name_of last used (map v es) ≡ map v (unfilled name_of last used es)
  unfilled-view last used [] = refl
  unfilled-view last used (e ∷ es) =
      subst (λ (n : List ℕ). (if leb (used + cost last n) 510 then unfilled name_of (Some n) (used + cost last n) (map v es) else v e ∷ map v es) ≡ map v (unfilled name_of last used (e ∷ es))) (sym (view.name e))
      (ap (λ (t : List RawEnt). if leb (used + cost last e.name) 510 then t else v e ∷ map v es) (unfilled-view (Some e.name) (used + cost last e.name) es) ∙ step (leb (used + cost last e.name) 510)) where
        step : (q : Bool) → (if q then map v (unfilled name_of (Some e.name) (used + cost last e.name) es) else v e ∷ map v es) ≡ map v (if q then unfilled name_of (Some e.name) (used + cost last e.name) es else e ∷ es)
        step true = refl
        step false = refl

  pub pack-view : (k : ℕ) (es : List RawEnt) → pack name_of k (map v es) ≡ map (map v) (pack name_of k es)
  pack-view zero es = refl
  pack-view (suc k) es = rw (unfilled-view None 0 es) (λ i. filled-view None 0 es i ∷ pack-view k (unfilled name_of None 0 es) i)

  pub over-view : (k : ℕ) (es : List RawEnt) → over name_of k (map v es) ≡ map v (over name_of k es)
  over-view zero es = refl
  over-view (suc k) es = rw (unfilled-view None 0 es) (over-view k (unfilled name_of None 0 es))

-- limits and flags apart, what is read is what was written
pub plain-marked : (o : Option RawEnt) (es : List RawEnt) → map plain (marked o es) ≡ map plain es
plain-marked None [] = refl
plain-marked (Some f) [] = refl
plain-marked None (e ∷ es) = λ i. plain e ∷ plain-marked (Some e) es i
plain-marked (Some f) (e ∷ es) = step (bytes_eq f.name e.name) (plain-marked (Some f) es) (plain-marked (Some e) es) where
  step : (q : Bool) → map plain (marked (Some f) es) ≡ map plain es → map plain (marked (Some e) es) ≡ map plain es → map plain (if q then under f e ∷ marked (Some f) es else e ∷ marked (Some e) es) ≡ plain e ∷ map plain es
  step true h k = λ i. plain e ∷ h i
  step false h k = λ i. plain e ∷ k i

pub rises-marked : (o : Option RawEnt) (es : List RawEnt) → rises (marked o es) ≡ rises es
rises-marked o es = sym (rises-view plain plain-view (marked o es)) ∙ ap rises (plain-marked o es) ∙ rises-view plain plain-view es
