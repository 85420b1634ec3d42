-- Tests over lists.
use Rattle.std.proofs.Common.{◌≡◌, ◌&&◌, ◌||◌, ◌++◌, Bool, true, false, not, List, [], ◌∷◌, Some, None, filter, find, refl, arith, cond, ap, ◌∙◌, sym, ℕ, zero, suc, ◌<◌, ◌≤◌, length, get_or, take, drop}
use Rattle.std.specs.List.{list_all, list_any}
use Rattle.std.proofs.lemmas.List.Folds.{list_all-append}
use Rattle.lock_db.specs.Queues.{or_else}

pub and-left : (a b : Bool) → (a && b) ≡ true → a ≡ true
and-left true b e = refl
and-left false b e = e

pub and-right : (a b : Bool) → (a && b) ≡ true → b ≡ true
and-right true b e = e
and-right false b e = cc

pub and-both : (a b : Bool) → a ≡ true → b ≡ true → (a && b) ≡ true
and-both a b e f = rw e f

pub or-right : (a b : Bool) → (a || b) ≡ true → a ≡ false → b ≡ true
or-right true b e n = cc
or-right false b e n = e

pub not-true : (a : Bool) → not a ≡ true → a ≡ false
not-true true e = cc
not-true false e = refl

pub or-if_right : (a b : Bool) → b ≡ true → (a || b) ≡ true
or-if_right true b e = refl
or-if_right false b e = e

pub true-and_not : (a : Bool) → a ≡ true → not a ≡ true → ⊥
true-and_not true e f = cc
true-and_not false e f = cc

pub not-false : (a : Bool) → not a ≡ false → a ≡ true
not-false true e = refl
not-false false e = cc

pub and-false : (a b : Bool) → a ≡ true → (a && b) ≡ false → b ≡ false
and-false true b e f = f
and-false false b e f = cc

pub or-false_left : (a b : Bool) → (a || b) ≡ false → a ≡ false
or-false_left true b e = e
or-false_left false b e = refl

pub or-false_right : (a b : Bool) → (a || b) ≡ false → b ≡ false
or-false_right true b e = cc
or-false_right false b e = e

pub contrapositive : (a b : Bool) → (a ≡ true → b ≡ true) → b ≡ false → a ≡ false
contrapositive true b f e = let t = f refl in cc
contrapositive false b f e = refl

module _ {X : Type 0} where
  pub list_all-head : (p : X → Bool) (x : X) (xs : List X) → list_all p (x ∷ xs) ≡ true → p x ≡ true
  list_all-head p x xs e = grind arith

  pub list_all-tail : (p : X → Bool) (x : X) (xs : List X) → list_all p (x ∷ xs) ≡ true → list_all p xs ≡ true
  list_all-tail p x xs e = grind arith

  pub list_all-filter : (p q : X → Bool) (xs : List X) → list_all p xs ≡ true → list_all p (filter q xs) ≡ true
  list_all-filter p q [] e = refl
  list_all-filter p q (x ∷ xs) e =
      let h = list_all-head p x xs e in
      let t = list_all-filter p q xs (list_all-tail p x xs e) in
      elim (q x) as (λ b. list_all p (cond b (x ∷ filter q xs) (filter q xs)) ≡ true) [ true ↦ cc | false ↦ t ]

  pub list_all-find : (p q : X → Bool) (xs : List X) (a : X) → list_all p xs ≡ true → find q xs ≡ Some a → p a ≡ true
  list_all-find p q [] a e f = cc
  list_all-find p q (x ∷ xs) a e f =
      let h : p x ≡ true = list_all-head p x xs e in
      let t : find q xs ≡ Some a → p a ≡ true = list_all-find p q xs a (list_all-tail p x xs e) in
      elim (q x) as (λ b. cond b (Some x) (find q xs) ≡ Some a → p a ≡ true) [ true ↦ λ g. cc | false ↦ t ] f

  pub list_all-weaker : (p q : X → Bool) (xs : List X) → ((x : X) → p x ≡ true → q x ≡ true) → list_all p xs ≡ true → list_all q xs ≡ true
  list_all-weaker p q [] w e = refl
  list_all-weaker p q (x ∷ xs) w e =
      let h = w x (list_all-head p x xs e) in
      let t = list_all-weaker p q xs w (list_all-tail p x xs e) in
      grind arith

  -- what passes a filter, and what all of the list passes
  pub list_all-kept : (p q r : X → Bool) (xs : List X) → ((x : X) → p x ≡ true → q x ≡ true → r x ≡ true) → list_all p xs ≡ true → list_all r (filter q xs) ≡ true
  list_all-kept p q r [] w e = refl
  list_all-kept p q r (x ∷ xs) w e =
      let h = w x (list_all-head p x xs e) in
      let t = list_all-kept p q r xs w (list_all-tail p x xs e) in
      elim (q x) as (λ b. (b ≡ true → r x ≡ true) → list_all r (cond b (x ∷ filter q xs) (filter q xs)) ≡ true) [ true ↦ λ g. let k = g refl in grind arith | false ↦ λ g. t ] h

  -- two tests that all of the list passes
  pub list_all-both : (p q r : X → Bool) (xs : List X) → ((x : X) → p x ≡ true → q x ≡ true → r x ≡ true) → list_all p xs ≡ true → list_all q xs ≡ true → list_all r xs ≡ true
  list_all-both p q r [] w e f = refl
  list_all-both p q r (x ∷ xs) w e f =
      let h = w x (list_all-head p x xs e) (list_all-head q x xs f) in
      let t = list_all-both p q r xs w (list_all-tail p x xs e) (list_all-tail q x xs f) in
      grind arith

  -- no element passes where none is found
  pub list_all-absent : (q : X → Bool) (xs : List X) → find q xs ≡ None → list_all (λ x. not (q x)) xs ≡ true
  list_all-absent q [] e = refl
  list_all-absent q (x ∷ xs) e =
      let t : find q xs ≡ None → list_all (λ y. not (q y)) xs ≡ true = list_all-absent q xs in
      grind arith

  -- what the kept pass, all pass that the filter keeps
  pub list_all-unfilter : (q r : X → Bool) (xs : List X) → list_all r (filter q xs) ≡ true → list_all (λ x. not (q x) || r x) xs ≡ true
  list_all-unfilter q r [] e = refl
  list_all-unfilter q r (x ∷ xs) e =
      let t = list_all-unfilter q r xs in
      (elim (q x) as (λ b. list_all r (cond b (x ∷ filter q xs) (filter q xs)) ≡ true → ((not b || r x) && list_all (λ y. not (q y) || r y) xs) ≡ true)
      [ true ↦ λ g. and-both (r x) _ (list_all-head r x (filter q xs) g) (t (list_all-tail r x (filter q xs) g)) | false ↦ λ g. t g ]) e

  pub list_any-none : (p : X → Bool) (xs : List X) → find p xs ≡ None → list_any p xs ≡ false
  list_any-none p [] e = refl
  list_any-none p (x ∷ xs) e =
      let t : find p xs ≡ None → list_any p xs ≡ false = list_any-none p xs in
      grind arith

  pub find-none : (p : X → Bool) (xs : List X) → list_any p xs ≡ false → find p xs ≡ None
  find-none p [] e = refl
  find-none p (x ∷ xs) e =
      let t : list_any p xs ≡ false → find p xs ≡ None = find-none p xs in
      grind arith

  pub find-passes : (p : X → Bool) (xs : List X) (a : X) → find p xs ≡ Some a → p a ≡ true
  find-passes p [] a e = cc
  find-passes p (x ∷ xs) a e =
      let t : find p xs ≡ Some a → p a ≡ true = find-passes p xs a in
      (elim (p x) as (λ b. p x ≡ b → cond b (Some x) (find p xs) ≡ Some a → p a ≡ true) [ true ↦ λ h g. cc | false ↦ λ h g. t g ]) refl e

  -- a search in a list with one more at its end
  pub find-push_yes : (p : X → Bool) (xs : List X) (b : X) → p b ≡ true → find p xs ≡ None → find p (xs ++ b ∷ []) ≡ Some b
  find-push_yes p [] b e n = rw e refl
  find-push_yes p (x ∷ xs) b e n =
      let t : find p xs ≡ None → find p (xs ++ b ∷ []) ≡ Some b = find-push_yes p xs b e in
      (elim (p x) as (λ c. cond c (Some x) (find p xs) ≡ None → cond c (Some x) (find p (xs ++ b ∷ [])) ≡ Some b) [ true ↦ λ g. cc | false ↦ t ]) n

  pub find-push_no : (p : X → Bool) (xs : List X) (b : X) → p b ≡ false → find p (xs ++ b ∷ []) ≡ find p xs
  find-push_no p [] b e = rw e refl
  find-push_no p (x ∷ xs) b e = ap (λ o. cond (p x) (Some x) o) (find-push_no p xs b e)

  pub find-push_found : (p : X → Bool) (xs : List X) (b a : X) → find p xs ≡ Some a → find p (xs ++ b ∷ []) ≡ Some a
  find-push_found p [] b a e = cc
  find-push_found p (x ∷ xs) b a e =
      let t : find p xs ≡ Some a → find p (xs ++ b ∷ []) ≡ Some a = find-push_found p xs b a in
      (elim (p x) as (λ c. cond c (Some x) (find p xs) ≡ Some a → cond c (Some x) (find p (xs ++ b ∷ [])) ≡ Some a) [ true ↦ λ g. g | false ↦ t ]) e

  -- a search for what a filter keeps
  pub find-filter : (p q : X → Bool) (xs : List X) → list_all (λ x. q x || not (p x)) xs ≡ true → find p (filter q xs) ≡ find p xs
  find-filter p q [] e = refl
  find-filter p q (x ∷ xs) e =
      let t = find-filter p q xs (list_all-tail (λ y. q y || not (p y)) x xs e) in
      let h = list_all-head (λ y. q y || not (p y)) x xs e in
      (elim (q x) as (λ b. (b || not (p x)) ≡ true → find p (cond b (x ∷ filter q xs) (filter q xs)) ≡ cond (p x) (Some x) (find p xs))
      [ true ↦ λ g. ap (λ o. cond (p x) (Some x) o) t | false ↦ λ g. let n : p x ≡ false = not-true (p x) g in rw n t ]) h

  pub list_all-every : (p : X → Bool) (xs : List X) → ((x : X) → p x ≡ true) → list_all p xs ≡ true
  list_all-every p [] h = refl
  list_all-every p (x ∷ xs) h = and-both (p x) (list_all p xs) (h x) (list_all-every p xs h)

  pub list_all-passing : (p : X → Bool) (xs : List X) → list_all p (filter p xs) ≡ true
  list_all-passing p [] = refl
  list_all-passing p (x ∷ xs) =
      (elim (p x) as (λ b. p x ≡ b → list_all p (cond b (x ∷ filter p xs) (filter p xs)) ≡ true)
      [ true ↦ λ e. and-both (p x) (list_all p (filter p xs)) e (list_all-passing p xs) | false ↦ λ e. list_all-passing p xs ]) refl

  pub list_all-joined : (p : X → Bool) (xs ys : List X) → list_all p xs ≡ true → list_all p ys ≡ true → list_all p (xs ++ ys) ≡ true
  list_all-joined p xs ys e f = list_all-append p xs ys ∙ and-both (list_all p xs) (list_all p ys) e f

  pub filter-all : (p : X → Bool) (xs : List X) → list_all p xs ≡ true → filter p xs ≡ xs
  filter-all p [] e = refl
  filter-all p (x ∷ xs) e = rw (list_all-head p x xs e) (ap (λ ys. x ∷ ys) (filter-all p xs (list_all-tail p x xs e)))

  pub filter-none : (p : X → Bool) (xs : List X) → list_all (λ x. not (p x)) xs ≡ true → filter p xs ≡ []
  filter-none p [] e = refl
  filter-none p (x ∷ xs) e = rw (not-true (p x) (list_all-head (λ y. not (p y)) x xs e)) (filter-none p xs (list_all-tail (λ y. not (p y)) x xs e))

  pub find-absent : (p : X → Bool) (xs : List X) → list_all (λ x. not (p x)) xs ≡ true → find p xs ≡ None
  find-absent p [] e = refl
  find-absent p (x ∷ xs) e = rw (not-true (p x) (list_all-head (λ y. not (p y)) x xs e)) (find-absent p xs (list_all-tail (λ y. not (p y)) x xs e))

  pub find-append : (p : X → Bool) (xs ys : List X) → find p (xs ++ ys) ≡ or_else (find p xs) (find p ys)
  find-append p [] ys = refl
  find-append p (x ∷ xs) ys =
      let t = find-append p xs ys in
      (elim (p x) as (λ b. cond b (Some x) (find p (xs ++ ys)) ≡ or_else (cond b (Some x) (find p xs)) (find p ys)) [ true ↦ refl | false ↦ t ])

  pub list_any-some : (p : X → Bool) (xs : List X) (a : X) → find p xs ≡ Some a → list_any p xs ≡ true
  list_any-some p [] a e = cc
  list_any-some p (x ∷ xs) a e =
      let t : find p xs ≡ Some a → list_any p xs ≡ true = list_any-some p xs a in
      (elim (p x) as (λ b. cond b (Some x) (find p xs) ≡ Some a → (b || list_any p xs) ≡ true) [ true ↦ λ g. refl | false ↦ t ]) e

  pub list_all-parts : (p : X → Bool) (xs ys : List X) → list_all p (xs ++ ys) ≡ true → (list_all p xs ≡ true) × (list_all p ys ≡ true)
  list_all-parts p xs ys e =
      let k : (list_all p xs && list_all p ys) ≡ true = sym (list_all-append p xs ys) ∙ e in
      (and-left (list_all p xs) (list_all p ys) k, and-right (list_all p xs) (list_all p ys) k)

  -- what all places below i, or from i on, pass
  pub list_all-take : (p : X → Bool) (xs : List X) (i : ℕ) → i ≤ length xs → (d : X) → ((j : ℕ) → j < i → p (get_or xs j d) ≡ true) → list_all p (take i xs) ≡ true
  list_all-take p xs zero l d h = refl
  list_all-take p [] (suc i) l d h = absurd (omega arith)
  list_all-take p (x ∷ xs) (suc i) l d h = and-both (p x) (list_all p (take i xs)) (h 0 (omega arith)) (list_all-take p xs i (omega arith) d (λ j k. h (suc j) (omega arith)))

  pub list_all-drop : (p : X → Bool) (xs : List X) (i : ℕ) (d : X) → ((j : ℕ) → i ≤ j → j < length xs → p (get_or xs j d) ≡ true) → list_all p (drop i xs) ≡ true
  list_all-drop p [] zero d h = refl
  list_all-drop p (x ∷ xs) zero d h = and-both (p x) (list_all p xs) (h 0 (omega arith) (omega arith)) (list_all-drop p xs zero d (λ j k l. h (suc j) (omega arith) (omega arith)))
  list_all-drop p [] (suc i) d h = refl
  list_all-drop p (x ∷ xs) (suc i) d h = list_all-drop p xs i d (λ j k l. h (suc j) (omega arith) (omega arith))
