-- Going through the blocks of a directory takes in its entries, each once and in order.
use Rattle.std.proofs.Common.{◌≡◌, ◌∙◌, ◌&&◌, ◌||◌, Bool, true, false, cond, List, [], ◌∷◌, ◌++◌, Option, Some, None, Ok, not, map, refl, sym, ap, subst, inl, inr, append_assoc}
use Rattle.std.specs.List.{list_all}
use Rattle.base_words.specs.Fields.{Block}
use Rattle.fx_dir.specs.declared.RawEnt.{RawEnt}
use Rattle.fx_dir.specs.Lists.{Each, joined}
use Rattle.fx_dir.specs.Entries.{same, before, rises, has, fresh}
use Rattle.fx_dir.specs.Directory.{directory, entries_at, all_entries}
use Rattle.fx_dir.specs.Moves.{key}
use Rattle.fx_dir.proofs.Meeting.{met}
use Rattle.fx_dir.proofs.Finding.{went}
use Rattle.fx_dir.proofs.Merging.{same-sym}
use Rattle.fx_dir.proofs.Order.{and_cases, both, is_true_or, not_both, before-other, before-trans}
use Rattle.fx_dir.specs.Filling.{Tried, taken_in}
use Rattle.fx_dir.specs.Walk.{Walked, is_behind, taken_on, walked}
use Rattle.fx_dir.proofs.Counting.{ends, taken}

module _ (e : RawEnt) where
  -- ---- entries that are taken in one after the other

  abbrev pub fed : Tried → List RawEnt → Tried
  fed t [] = t
  fed t (x ∷ xs) = fed (taken_in e t x) xs

  fed-more : (t : Tried) (xs ys : List RawEnt) → fed t (xs ++ ys) ≡ fed (fed t xs) ys
  fed-more t [] ys = refl
  fed-more t (x ∷ xs) ys = fed-more (taken_in e t x) xs ys

  -- what they leave is what they fill
  pub fed-ends : (t : Tried) (xs : List RawEnt) → ends e (fed t xs) [] ≡ ends e t xs
  fed-ends t [] = refl
  fed-ends t (x ∷ xs) = fed-ends (taken_in e t x) xs ∙ taken e t x xs

  pub walked-more : (w : Walked) (xs ys : List RawEnt) → walked e w (xs ++ ys) ≡ walked e (walked e w xs) ys
  walked-more w [] ys = refl
  walked-more w (x ∷ xs) ys = walked-more (taken_on e w x) xs ys

  -- ---- the last one that was met

  abbrev pub last : List RawEnt → Option RawEnt
  last [] = None
  last (x ∷ []) = Some (key x.name x.ver)
  last (x ∷ y ∷ ys) = last (y ∷ ys)

  last-more : (xs : List RawEnt) (f : RawEnt) → last (xs ++ f ∷ []) ≡ Some (key f.name f.ver)
  last-more [] f = refl
  last-more (x ∷ []) f = refl
  last-more (x ∷ y ∷ ys) f = last-more (y ∷ ys) f

  -- each of these is before an entry
  abbrev all_before : List RawEnt → RawEnt → Bool
  all_before [] f = true
  all_before (x ∷ xs) f = before x f && all_before xs f

  key-before : (x f : RawEnt) → before (key x.name x.ver) f ≡ before x f
  unfolding before
  key-before x f = refl

  and-true : (t : Bool) → (t && true) ≡ t
  and-true true = refl
  and-true false = refl

  -- in order the last one tells
  last-tells : (d : List RawEnt) (f : RawEnt) → rises d ≡ true → is_behind (last d) f ≡ all_before d f
  last-tells [] f r = refl
  last-tells (x ∷ []) f r = key-before x f ∙ sym (and-true (before x f))
  last-tells (x ∷ y ∷ ys) f r =
      let p = and_cases _ _ r in
      let q = and_cases _ _ p.0 in
      last-tells (y ∷ ys) f p.1 ∙ by_all (all_before (y ∷ ys) f) refl q.0 where
        by_all : (t : Bool) → all_before (y ∷ ys) f ≡ t → before x y ≡ true → t ≡ (before x f && t)
        by_all false h b = sym (and-false (before x f)) where
          and-false : (u : Bool) → (u && false) ≡ false
          and-false true = refl
          and-false false = refl
        by_all true h b = sym (and-true (before x f) ∙ before-trans x y f b (and_cases _ _ h).0)

  -- one that was met is not behind all
  met-not : (d : List RawEnt) (f : RawEnt) → has d f ≡ true → all_before d f ≡ false
  met-not [] f h = absurd (let g : false ≡ true = h in cc)
  met-not (x ∷ d) f h = by_same (same f x) refl h (met-not d f) where
    by_same : (t : Bool) → same f x ≡ t → (t || has d f) ≡ true → (has d f ≡ true → all_before d f ≡ false) → (before x f && all_before d f) ≡ false
    by_same true s k more = ap (λ b. b && all_before d f) (not-before x f (same-sym f x s)) where
      not-before : (a b : RawEnt) → same a b ≡ true → before a b ≡ false
      not-before a b s = elim (is_true_or (before a b)) [
        | inl h ↦ absurd (not_both (same b a) (same-sym a b s) (before-other a b h))
        | inr h ↦ h
      ]
    by_same false s k more = ap (λ b. before x f && b) (more k) ∙ and-false (before x f) where
      and-false : (u : Bool) → (u && false) ≡ false
      and-false true = refl
      and-false false = refl

  -- ---- in order, without one among them

  all-mid : (p : RawEnt → Bool) (xs ys : List RawEnt) (f : RawEnt) → list_all p (xs ++ f ∷ ys) ≡ true → (p f ≡ true) × (list_all p (xs ++ ys) ≡ true)
  all-mid p [] ys f h = and_cases _ _ h
  all-mid p (x ∷ xs) ys f h = let c = and_cases _ _ h in let m = all-mid p xs ys f c.1 in (m.0, both _ _ c.0 m.1)

  middle : (d g : List RawEnt) (f : RawEnt) → rises (d ++ f ∷ g) ≡ true → (all_before d f ≡ true) × (rises (d ++ g) ≡ true)
  middle [] g f h = (refl, (and_cases _ _ h).1)
  middle (x ∷ d) g f h =
      let c = and_cases _ _ h in
      let m = all-mid (before x) d g f c.0 in
      let r = middle d g f c.1 in
      (both _ _ m.0 r.0, both _ _ m.1 r.1)

  front-rises : (d g : List RawEnt) → rises (d ++ g) ≡ true → rises d ≡ true
  front-rises d [] h = subst (λ l. rises l ≡ true) (append-none d) h where
    append-none : (l : List RawEnt) → l ++ [] ≡ l
    append-none [] = refl
    append-none (x ∷ l) = λ i. x ∷ append-none l i
  front-rises d (f ∷ g) h = front-rises d g (middle d g f h).1

  -- an entry in front of all of these is none of them
  fresh-more : (d fs : List RawEnt) (f : RawEnt) → list_all (before f) fs ≡ true → fresh (d ++ f ∷ []) fs ≡ fresh d fs
  fresh-more d [] f h = refl
  fresh-more d (x ∷ fs) f h =
      let c = and_cases _ _ h in
      λ i. cond (not (has-more d i)) (x ∷ fresh-more d fs f c.1 i) (fresh-more d fs f c.1 i)
    where
      has-more : (l : List RawEnt) → has (l ++ f ∷ []) x ≡ has l x
      has-more [] = ap (λ b. b || false) (before-other f x (and_cases _ _ h).0)
      has-more (y ∷ l) = ap (λ b. same x y || b) (has-more l)

  -- ---- a block, and blocks

  -- what is known where all of d was met
  abbrev at : Tried → List RawEnt → Walked
  at t d = record { tried = fed t d; met = last d }

  one : (t : Tried) (d : List RawEnt) (f : RawEnt) → all_before d f ≡ true → rises d ≡ true → taken_on e (at t d) f ≡ at t (d ++ f ∷ [])
  unfolding taken_on taken_in
  one t d f all r =
      ap (λ b. cond b (record { tried = taken_in e (fed t d) f; met = Some (key f.name f.ver) }) (at t d)) (last-tells d f r ∙ all)
      ∙ λ i. record { tried = sym (fed-more t d (f ∷ [])) i; met = sym (last-more d f) i }

  old : (t : Tried) (d : List RawEnt) (f : RawEnt) → has d f ≡ true → rises d ≡ true → taken_on e (at t d) f ≡ at t d
  unfolding taken_on
  old t d f h r = ap (λ b. cond b (record { tried = taken_in e (fed t d) f; met = Some (key f.name f.ver) }) (at t d)) (last-tells d f r ∙ met-not d f h)

  block : (fs d : List RawEnt) (t : Tried) → rises fs ≡ true → rises (d ++ fresh d fs) ≡ true → walked e (at t d) fs ≡ at t (d ++ fresh d fs)
  block [] d t r s = ap (at t) (sym (append-none d)) where
    append-none : (l : List RawEnt) → l ++ [] ≡ l
    append-none [] = refl
    append-none (x ∷ l) = λ i. x ∷ append-none l i
  block (f ∷ fs) d t r s = by_has (has d f) refl s (block fs d t (and_cases _ _ r).1) (block fs (d ++ f ∷ []) t (and_cases _ _ r).1) where
    by_has : (b : Bool) → has d f ≡ b → rises (d ++ cond (not b) (f ∷ fresh d fs) (fresh d fs)) ≡ true
        → (rises (d ++ fresh d fs) ≡ true → walked e (at t d) fs ≡ at t (d ++ fresh d fs))
        → (rises ((d ++ f ∷ []) ++ fresh (d ++ f ∷ []) fs) ≡ true → walked e (at t (d ++ f ∷ [])) fs ≡ at t ((d ++ f ∷ []) ++ fresh (d ++ f ∷ []) fs))
        → walked e (taken_on e (at t d) f) fs ≡ at t (d ++ cond (not b) (f ∷ fresh d fs) (fresh d fs))
    by_has true h k same_here more = ap (λ w. walked e w fs) (old t d f h (front-rises d (fresh d fs) k)) ∙ same_here k
    by_has false h k same_here more =
        let m = middle d (fresh d fs) f k in
        let is : (d ++ f ∷ []) ++ fresh (d ++ f ∷ []) fs ≡ d ++ f ∷ fresh d fs = append_assoc d (f ∷ []) (fresh (d ++ f ∷ []) fs) ∙ ap (λ l. d ++ f ∷ l) (fresh-more d fs f (and_cases _ _ r).0) in
        ap (λ w. walked e w fs) (one t d f m.0 (front-rises d (fresh d fs) m.1)) ∙ more (subst (λ l. rises l ≡ true) (sym is) k) ∙ ap (at t) is

  met-front : (gs : List (List RawEnt)) (d : List RawEnt) → rises (met d gs) ≡ true → rises d ≡ true
  met-front [] d h = h
  met-front (g ∷ gs) d h = front-rises d (fresh d g) (met-front gs (d ++ fresh d g) h)

  blocks : (gs : List (List RawEnt)) (d : List RawEnt) (t : Tried) → Each (λ g. rises g ≡ true) gs → rises (met d gs) ≡ true → walked e (at t d) (joined gs) ≡ at t (met d gs)
  blocks [] d t each r = refl
  blocks (g ∷ gs) d t each r =
      walked-more (at t d) g (joined gs) ∙ ap (λ w. walked e w (joined gs)) (block g d t each.0 (met-front gs (d ++ fresh d g) r)) ∙ blocks gs (d ++ fresh d g) t each.1 r

  -- all blocks of a directory that is read without a fault
  pub all_walked : (t : Tried) (bs : List Block) (es : List RawEnt) → directory bs ≡ Ok es → walked e (record { tried = t; met = None }) (all_entries bs) ≡ record { tried = fed t es; met = last es }
  all_walked t bs es h =
      let w = went 1 [] bs es refl h in
      blocks (map entries_at bs) [] t w.blocks (subst (λ l. rises l ≡ true) (sym w.entries) w.order) ∙ ap (at t) w.entries
