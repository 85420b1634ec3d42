-- Entries met in blocks: a list of blocks may be mixed of two.
use Rattle.std.proofs.Common.{◌≡◌, ◌⊎◌, ◌||◌, not, Bool, true, false, List, [], ◌∷◌, ◌++◌, refl, sym, ap, subst, ◌∙◌, inl, inr, cond, append_assoc, append-nil}
use Rattle.std.specs.List.{list_all}
use Rattle.std.proofs.lemmas.List.Elements.{filter-append}
use Rattle.fx_dir.specs.declared.RawEnt.{RawEnt}
use Rattle.fx_dir.specs.Lists.{Each}
use Rattle.fx_dir.specs.Entries.{same, before, rises, has, fresh}
use Rattle.fx_dir.proofs.Meeting.{met}
use Rattle.fx_dir.proofs.Order.{same-self, before-other, and_cases, both, no_or}

pub all-left : {X : Type 0} (p : X → Bool) (z w : List X) → list_all p (z ++ w) ≡ true → list_all p z ≡ true
all-left p [] w h = refl
all-left p (a ∷ z) w h = let r = and_cases _ _ h in both _ _ r.0 (all-left p z w r.1)

pub all-right : {X : Type 0} (p : X → Bool) (z w : List X) → list_all p (z ++ w) ≡ true → list_all p w ≡ true
all-right p [] w h = h
all-right p (a ∷ z) w h = all-right p z w (and_cases _ _ h).1

-- two divisions of one list: one ends within the other
pub division : {X : Type 0} (x y z w : List X) → x ++ y ≡ z ++ w → ((u : List X) × (x ≡ z ++ u) × (w ≡ u ++ y)) ⊎ ((u : List X) × (z ≡ x ++ u) × (y ≡ u ++ w))
division [] y z w e = inr (z, refl, e)
division (a ∷ x) y [] w e = inl (a ∷ x, refl, sym e)
division (a ∷ x) y (b ∷ z) w e =
    let h : a ≡ b = cc in
    let t : x ++ y ≡ z ++ w = cc in
    elim (division x y z w t) [
      | inl r ↦ inl (r.0, (let k : x ≡ z ++ r.0 = r.1 in cc), r.2)
      | inr r ↦ inr (r.0, (let k : z ≡ x ++ r.0 = r.1 in cc), r.2)
    ]

pub has-append : (es fs : List RawEnt) (e : RawEnt) → has (es ++ fs) e ≡ (has es e || has fs e)
has-append [] fs e = refl
has-append (x ∷ es) fs e = elim (same e x) as (λ b. (b || has (es ++ fs) e) ≡ ((b || has es e) || has fs e)) [ true ↦ refl | false ↦ has-append es fs e ]

-- those new after two lists are new after the second among those new after the first
pub fresh-append : (es fs b : List RawEnt) → fresh (es ++ fs) b ≡ fresh fs (fresh es b)
fresh-append es fs [] = refl
fresh-append es fs (e ∷ b) = rw (has-append es fs e) (step (fresh-append es fs b) (has es e) (has fs e) refl refl) where
  step : fresh (es ++ fs) b ≡ fresh fs (fresh es b) → (p q : Bool) → p ≡ has es e → q ≡ has fs e → cond (not (p || q)) (e ∷ fresh (es ++ fs) b) (fresh (es ++ fs) b) ≡ fresh fs (cond (not p) (e ∷ fresh es b) (fresh es b))
  step ih true q hp hq = ih
  step ih false true hp hq = rw (← hq) ih
  step ih false false hp hq = rw (← hq) (λ i. e ∷ ih i)

pub fresh-all : (z b : List RawEnt) → Each (λ e. has z e ≡ false) b → fresh z b ≡ b
fresh-all z [] n = refl
fresh-all z (e ∷ b) n = rw (n.0) (λ i. e ∷ fresh-all z b n.1 i)

fresh-none : (z b : List RawEnt) → Each (λ e. has z e ≡ true) b → fresh z b ≡ []
fresh-none z [] n = refl
fresh-none z (e ∷ b) n = rw (n.0) (fresh-none z b n.1)

pub each-imp : {X : Type 0} (P Q : X → Type 0) (xs : List X) → ((x : X) → P x → Q x) → Each P xs → Each Q xs
each-imp P Q [] f n = tt
each-imp P Q (x ∷ xs) f n = (f x n.0, each-imp P Q xs f n.1)

pub each-append : {X : Type 0} (P : X → Type 0) (xs ys : List X) → Each P xs → Each P ys → Each P (xs ++ ys)
each-append P [] ys n m = m
each-append P (x ∷ xs) ys n m = (n.0, each-append P xs ys n.1 m)

pub each-left : {X : Type 0} (P : X → Type 0) (xs ys : List X) → Each P (xs ++ ys) → Each P xs
each-left P [] ys n = tt
each-left P (x ∷ xs) ys n = (n.0, each-left P xs ys n.1)

pub each-right : {X : Type 0} (P : X → Type 0) (xs ys : List X) → Each P (xs ++ ys) → Each P ys
each-right P [] ys n = n
each-right P (x ∷ xs) ys n = each-right P xs ys n.1

-- a list has each of its own
has-own : (a : RawEnt) (z : List RawEnt) (e : RawEnt) → has z e ≡ true → has (a ∷ z) e ≡ true
has-own a z e h = elim (same e a) as (λ b. (b || has z e) ≡ true) [ true ↦ refl | false ↦ h ]

pub own : (z w : List RawEnt) → Each (λ e. has (z ++ w) e ≡ true) z
own [] w = tt
own (a ∷ z) w = (rw (same-self a), each-imp (λ e. has (z ++ w) e ≡ true) (λ e. has (a ∷ z ++ w) e ≡ true) z (λ e. has-own a (z ++ w) e) (own z w))

-- what comes after in order is new
later-one : (a : RawEnt) (w : List RawEnt) → list_all (before a) w ≡ true → Each (λ e. same e a ≡ false) w
later-one a [] h = tt
later-one a (e ∷ w) h = let p = and_cases _ _ h in (before-other a e p.0, later-one a w p.1)

pub rises-left : (z w : List RawEnt) → rises (z ++ w) ≡ true → rises z ≡ true
rises-left [] w h = refl
rises-left (a ∷ z) w h = let p = and_cases _ _ h in both _ _ (all-left (before a) z w p.0) (rises-left z w p.1)

pub rises-right : (z w : List RawEnt) → rises (z ++ w) ≡ true → rises w ≡ true
rises-right [] w h = h
rises-right (a ∷ z) w h = rises-right z w (and_cases _ _ h).1

each-or : (a : RawEnt) (z w : List RawEnt) → Each (λ e. same e a ≡ false) w → Each (λ e. has z e ≡ false) w → Each (λ e. has (a ∷ z) e ≡ false) w
each-or a z [] n m = tt
each-or a z (e ∷ w) n m = (no_or _ _ n.0 m.0, each-or a z w n.1 m.1)

no-entry : (w : List RawEnt) → Each (λ e. has [] e ≡ false) w
no-entry [] = tt
no-entry (e ∷ w) = (refl, no-entry w)

pub later : (z w : List RawEnt) → rises (z ++ w) ≡ true → Each (λ e. has z e ≡ false) w
later [] w h = no-entry w
later (a ∷ z) w h = let p = and_cases _ _ h in each-or a z w (later-one a w (all-right (before a) z w p.0)) (later z w p.1)

-- what comes after in order is what is new
pub fresh-after : (z w : List RawEnt) → rises (z ++ w) ≡ true → fresh z (z ++ w) ≡ w
fresh-after z w h = filter-append (λ e. not (has z e)) z w ∙ ap2 (fresh-none z z (subst (λ (v : List RawEnt). Each (λ e. has v e ≡ true) z) (append-nil z) (own z []))) (fresh-all z w (later z w h)) where
  ap2 : {a b c d : List RawEnt} → a ≡ b → c ≡ d → a ++ c ≡ b ++ d
  ap2 e f = λ i. e i ++ f i

pub fresh-within : (x u : List RawEnt) → fresh (x ++ u) x ≡ []
fresh-within x u = fresh-none (x ++ u) x (own x u)

-- blocks only add entries
pub met-more : (d : List RawEnt) (bs : List (List RawEnt)) → (y : List RawEnt) × (met d bs ≡ d ++ y)
met-more d [] = ([], sym (append-nil d))
met-more d (b ∷ bs) = let r = met-more (d ++ fresh d b) bs in (fresh d b ++ r.0, r.1 ∙ append_assoc d (fresh d b) r.0)

pub append-same : {X : Type 0} (d x y : List X) → d ++ x ≡ d ++ y → x ≡ y
append-same [] x y e = e
append-same (a ∷ d) x y e = append-same d x y (cc)

pub append-is_nil : {X : Type 0} (d x : List X) → d ≡ d ++ x → x ≡ []
append-is_nil [] x e = sym e
append-is_nil (a ∷ d) x e = append-is_nil d x (cc)

pub append-nils : {X : Type 0} (x y : List X) → x ++ y ≡ [] → (x ≡ []) × (y ≡ [])
append-nils [] y e = (refl, e)
append-nils (a ∷ x) y e = absurd (cc)

further-in : (d z u y b : List RawEnt) → fresh d b ≡ z ++ u → rises (d ++ (z ++ (u ++ y))) ≡ true → (d ++ z) ++ fresh (d ++ z) b ≡ d ++ fresh d b
further-in d z u y b e r =
    let r1 : rises (z ++ (u ++ y)) ≡ true = rises-right d (z ++ (u ++ y)) r in
    let r2 : rises ((z ++ u) ++ y) ≡ true = rw append_assoc r1 in
    let r3 : rises (z ++ u) ≡ true = rises-left (z ++ u) y r2 in
    let f : fresh (d ++ z) b ≡ u = fresh-append d z b ∙ ap (fresh z) e ∙ fresh-after z u r3 in
    rw (f, e) (append_assoc d z u)

further-past : (d x u b : List RawEnt) → fresh d b ≡ x → (d ++ (x ++ u)) ++ fresh (d ++ (x ++ u)) b ≡ (d ++ x) ++ u
further-past d x u b e =
    let f : fresh (d ++ (x ++ u)) b ≡ [] = fresh-append d (x ++ u) b ∙ ap (fresh (x ++ u)) e ∙ fresh-within x u in
    rw (f, append-nil (d ++ (x ++ u))) (sym (append_assoc d x u))

-- blocks that lead to these entries lead to them from further ahead too
pub ahead : (d z w : List RawEnt) (bs : List (List RawEnt)) → rises (d ++ (z ++ w)) ≡ true → met d bs ≡ d ++ (z ++ w) → met (d ++ z) bs ≡ d ++ (z ++ w)
ahead d z w [] r h =
    let n = append-nils z w (append-is_nil d (z ++ w) h) in
    let e : w ≡ [] = n.1 in
    rw (e, append-nil z) refl
ahead d z w (b ∷ bs) r h =
    let x = fresh d b in
    let m = met-more (d ++ x) bs in
    let y = m.0 in
    let e : x ++ y ≡ z ++ w = append-same d (x ++ y) (z ++ w) (sym (append_assoc d x y) ∙ sym m.1 ∙ h) in
    elim (division x y z w e) [
      | inl s ↦ (
          let u = s.0 in
          let rr : rises (d ++ (z ++ (u ++ y))) ≡ true = subst (λ (v : List RawEnt). rises (d ++ (z ++ v)) ≡ true) s.2 r in
          subst (λ (v : List RawEnt). met v bs ≡ d ++ (z ++ w)) (sym (further-in d z u y b s.1 rr)) h
          )
      | inr s ↦ (
          let u = s.0 in
          let f : (d ++ z) ++ fresh (d ++ z) b ≡ (d ++ x) ++ u = subst (λ (v : List RawEnt). (d ++ v) ++ fresh (d ++ v) b ≡ (d ++ x) ++ u) (sym s.1) (further-past d x u b refl) in
          let g : d ++ (z ++ w) ≡ (d ++ x) ++ (u ++ w) = subst (λ (v : List RawEnt). d ++ (v ++ w) ≡ (d ++ x) ++ (u ++ w)) (sym s.1) (simp append_assoc) in
          subst (λ (v : List RawEnt). met v bs ≡ d ++ (z ++ w)) (sym f) (subst (λ (v : List RawEnt). met ((d ++ x) ++ u) bs ≡ v) (sym g) (ahead (d ++ x) u w bs (subst (λ (v : List RawEnt). rises v ≡ true) g r) (h ∙ g)))
          )
    ]
