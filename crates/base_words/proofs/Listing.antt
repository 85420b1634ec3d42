-- What is in a list, and what stands in it once.
use Rattle.std.proofs.Common.{◌≡◌, ◌≢◌, ◌⊎◌, ◌<◌, ℕ, Bool, true, false, cond, List, [], ◌∷◌, ◌++◌, length, map, Some, None, slice_get, All, zero, suc, refl, sym, ap, subst, ◌∙◌, inl, inr, arith, get_or, ◌+◌, append-nil, Option, unwrap_or, drop, slice_set}
use Rattle.std.specs.Prelude.{filter, not, take}
use Rattle.std.specs.List.{list_any, Contains}
use Rattle.std.proofs.lemmas.Bool.{or_cases, or_left, or_right, cases_lt}
use Rattle.base_words.specs.Lists.{Has, Once, AreApart}
use Rattle.base_words.specs.ListLaws.{HasJoined, HasPlace, OnceJoined, Filtered}
use Rattle.std.proofs.lemmas.List.Elements.{filter_more}
use Rattle.std.specs.List.Sorted.{IsStrictlyIncreasing}
use Rattle.std.specs.Option.{option_map}
use Rattle.std.proofs.lemmas.Option.{unwrap_or-slice_get, slice_get-get_or, slice_get_within}

-- two numbers are the same or not
pub same_or_not : (a b : ℕ) → (a ≡ b) ⊎ (a ≢ b)
same_or_not zero zero = inl refl
same_or_not zero (suc b) = inr (λ e. absurd (omega arith))
same_or_not (suc a) zero = inr (λ e. absurd (omega arith))
same_or_not (suc a) (suc b) = elim (same_or_not a b) [ inl e ↦ inl (ap suc e) | inr ne ↦ inr (λ e. ne (omega arith)) ]

-- a number is in a list or not
pub has_or_not : (xs : List ℕ) (x : ℕ) → Has xs x ⊎ (Has xs x → ⊥)
has_or_not [] x = inr (λ t. t)
has_or_not (y ∷ xs) x = elim (same_or_not y x) [
  | inl e ↦ inl (inl e)
  | inr ne ↦ elim (has_or_not xs x) [ inl t ↦ inl (inr t) | inr f ↦ inr (λ t. elim t [ inl e ↦ ne e | inr u ↦ f u ]) ]
]

pub has_parted : {A : Type 0} (xs ys : List A) (x : A) → Has (xs ++ ys) x → Has xs x ⊎ Has ys x
has_parted [] ys x t = inr t
has_parted (y ∷ xs) ys x (inl e) = inl (inl e)
has_parted (y ∷ xs) ys x (inr t) = elim (has_parted xs ys x t) [ inl u ↦ inl (inr u) | inr u ↦ inr u ]

pub has_first : {A : Type 0} (xs ys : List A) (x : A) → Has xs x → Has (xs ++ ys) x
has_first [] ys x t = absurd t
has_first (y ∷ xs) ys x (inl e) = inl e
has_first (y ∷ xs) ys x (inr t) = inr (has_first xs ys x t)

pub has_second : {A : Type 0} (xs ys : List A) (x : A) → Has ys x → Has (xs ++ ys) x
has_second [] ys x t = t
has_second (y ∷ xs) ys x t = inr (has_second xs ys x t)

pub has_joined : {A : Type 0} → HasJoined A
has_joined xs ys x = ((λ t. has_parted xs ys x t), (λ t. elim t [ inl u ↦ has_first xs ys x u | inr u ↦ has_second xs ys x u ]))

pub place_of : {A : Type 0} (xs : List A) (x : A) → Has xs x → (k : ℕ) × (slice_get xs k ≡ Some x)
place_of [] x t = absurd t
place_of (y ∷ xs) x (inl e) = (0, ap (λ z. Some z) e)
place_of (y ∷ xs) x (inr t) = let p = place_of xs x t in (suc p.0, p.1)

pub has_at : {A : Type 0} (xs : List A) (k : ℕ) (x : A) → slice_get xs k ≡ Some x → Has xs x
has_at [] k x e = absurd (let f : None ≡ Some x = e in cc)
has_at (y ∷ xs) zero x e = inl (let f : Some y ≡ Some x = e in cc)
has_at (y ∷ xs) (suc k) x e = inr (has_at xs k x e)

pub has_place : {A : Type 0} → HasPlace A
has_place xs x = ((λ t. place_of xs x t), (λ p. has_at xs p.0 x p.1))

pub once_in_a_row : {A : Type 0} (xs ys : List A) → Once xs → Once ys → AreApart xs ys → Once (xs ++ ys)
once_in_a_row [] ys a b apart = b
once_in_a_row (x ∷ xs) ys a b apart =
    ((λ t. elim (has_parted xs ys x t) [ inl u ↦ a.0 u | inr u ↦ apart x (inl refl) u ]), once_in_a_row xs ys a.1 b (λ y t u. apart y (inr t) u))

pub once_first : {A : Type 0} (xs ys : List A) → Once (xs ++ ys) → Once xs
once_first [] ys o = tt
once_first (x ∷ xs) ys o = ((λ t. o.0 (has_first xs ys x t)), once_first xs ys o.1)

pub once_second : {A : Type 0} (xs ys : List A) → Once (xs ++ ys) → Once ys
once_second [] ys o = o
once_second (x ∷ xs) ys o = once_second xs ys o.1

pub once_apart : {A : Type 0} (xs ys : List A) → Once (xs ++ ys) → AreApart xs ys
once_apart [] ys o x t u = t
once_apart {A} (y ∷ xs) ys o x (inl e) u = o.0 (has_second xs ys y (subst (λ (k : A). Has ys k) (sym e) u))
once_apart (y ∷ xs) ys o x (inr t) u = once_apart xs ys o.1 x t u

pub once_joined : {A : Type 0} → OnceJoined A
once_joined xs ys = ((λ o. (once_first xs ys o, once_second xs ys o, once_apart xs ys o)), (λ p. once_in_a_row xs ys p.0 p.1 p.2))

-- an item that passes a test is in what it lets through
pub has_passed : {A : Type 0} (p : A → Bool) (xs : List A) (x : A) → Has xs x → p x ≡ true → Has (filter p xs) x
has_passed p [] x t e = t
has_passed {A} p (y ∷ xs) x t e = by_test (p y) refl (λ u. has_passed p xs x u e) where
  by_test : (b : Bool) → p y ≡ b → (Has xs x → Has (filter p xs) x) → Has (filter p (y ∷ xs)) x
  by_test true f ih = rw f (elim t [ inl same ↦ inl same | inr u ↦ inr (ih u) ])
  by_test false f ih = rw f (elim t [ inl same ↦ absurd (let g : true ≡ false = sym e ∙ ap p (sym same) ∙ f in cc) | inr u ↦ ih u ])

-- what a test lets through is in the list, and passes
pub has_filtered : {A : Type 0} (p : A → Bool) (xs : List A) (x : A) → Has (filter p xs) x → Has xs x × (p x ≡ true)
has_filtered p [] x t = absurd t
has_filtered p (y ∷ xs) x t = by_test (p y) refl (λ u. has_filtered p xs x u) t where
  by_test : (b : Bool) → p y ≡ b → (Has (filter p xs) x → Has xs x × (p x ≡ true)) → Has (filter p (y ∷ xs)) x → Has (y ∷ xs) x × (p x ≡ true)
  by_test true f ih t =
      let u : Has (y ∷ filter p xs) x = rw f at t in
      elim u [ inl same ↦ (inl same, ap p (sym same) ∙ f) | inr v ↦ let r = ih v in (inr r.0, r.1) ]
  by_test false f ih t = let u : Has (filter p xs) x = rw f at t in let r = ih u in (inr r.0, r.1)

once_filtered : {A : Type 0} (p : A → Bool) (xs : List A) → Once xs → Once (filter p xs)
once_filtered p [] o = tt
once_filtered p (y ∷ xs) o = by_test (p y) refl (once_filtered p xs o.1) where
  by_test : (b : Bool) → p y ≡ b → Once (filter p xs) → Once (filter p (y ∷ xs))
  by_test true f ih = rw f ((λ t. o.0 (has_filtered p xs y t).0), ih)
  by_test false f ih = rw f ih

pub filtered : {A : Type 0} → Filtered A
filtered {A} = record {
  parts = λ p xs. record {
    each = λ x t. by_test p xs x t (p x) refl;
    part_in = λ x t. (has_filtered p xs x t).0;
    rest_in = λ x t. (has_filtered (λ y. not (p y)) xs x t).0;
    apart = λ x t u. both (p x) (has_filtered p xs x t).1 (has_filtered (λ y. not (p y)) xs x u).1;
  };
  once = λ p xs o. once_filtered p xs o;
} where
  by_test : (p : A → Bool) (xs : List A) (x : A) → Has xs x → (b : Bool) → p x ≡ b → Has (filter p xs) x ⊎ Has (filter (λ y. not (p y)) xs) x
  by_test p xs x t true e = inl (has_passed p xs x t e)
  by_test p xs x t false e = inr (has_passed (λ y. not (p y)) xs x t (ap not e))

  both : (b : Bool) → b ≡ true → not b ≡ true → ⊥
  both true e f = let g : false ≡ true = f in cc
  both false e f = cc

pub has_from : {A : Type 0} (xs : List A) (x : A) → Contains xs x → Has xs x
has_from [] x (k, lt, e) = absurd (omega (arith, lt))
has_from (y ∷ ys) x (zero, lt, e) = inl e
has_from (y ∷ ys) x (suc k, lt, e) = let lt' : k < length ys = omega (arith, lt) in inr (has_from ys x (k, lt', e))

pub has_to : {A : Type 0} (xs : List A) (x : A) → Has xs x → Contains xs x
has_to [] x h = absurd h
has_to (y ∷ ys) x (inl e) = (0, omega arith, e)
has_to (y ∷ ys) x (inr h) = let r = has_to ys x h in let lt = r.1 in (suc r.0, omega (arith, lt), r.2)

pub has_map : {A B : Type 0} (f : A → B) (xs : List A) (x : A) → Has xs x → Has (map f xs) (f x)
has_map f [] x h = absurd h
has_map f (z ∷ zs) x (inl e) = inl (ap f e)
has_map f (z ∷ zs) x (inr h) = inr (has_map f zs x h)

pub has_mapped : {A B : Type 0} (f : A → B) (xs : List A) (y : B) → Has (map f xs) y → (x : A) × Has xs x × (f x ≡ y)
has_mapped f [] y h = absurd h
has_mapped f (z ∷ zs) y (inl e) = (z, inl refl, e)
has_mapped f (z ∷ zs) y (inr h) = let r = has_mapped f zs y h in (r.0, inr r.1, r.2)

-- a filter that all pass
pub filter_all : {A : Type 0} (p : A → Bool) (xs : List A) → ((x : A) → Has xs x → p x ≡ true) → filter p xs ≡ xs
filter_all p [] h = refl
filter_all p (z ∷ zs) h =
    ap (λ b. cond b (z ∷ filter p zs) (filter p zs)) (h z (inl refl)) ∙ ap (λ ys. z ∷ ys) (filter_all p zs (λ x k. h x (inr k)))

pub any_has : {A : Type 0} (p : A → Bool) (xs : List A) → list_any p xs ≡ true → (x : A) × Has xs x × (p x ≡ true)
any_has p [] h = absurd (cc h)
any_has {A} p (z ∷ zs) h = by_case (or_cases (p z) (list_any p zs) h) (λ k. any_has p zs k) where
  by_case : (p z ≡ true) ⊎ (list_any p zs ≡ true) → (list_any p zs ≡ true → (x : A) × Has zs x × (p x ≡ true)) → (x : A) × Has (z ∷ zs) x × (p x ≡ true)
  by_case (inl k) rest = (z, inl refl, k)
  by_case (inr k) rest = let r = rest k in (r.0, inr r.1, r.2)

pub has_any : {A : Type 0} (p : A → Bool) (xs : List A) (x : A) → Has xs x → p x ≡ true → list_any p xs ≡ true
has_any p [] x h k = absurd h
has_any p (z ∷ zs) x (inl e) k = or_left (p z) (list_any p zs) (ap p e ∙ k)
has_any p (z ∷ zs) x (inr h) k = or_right (p z) (list_any p zs) (has_any p zs x h k)

pub passes : (p : ℕ → Bool) (xs : List ℕ) (i : ℕ) → i < length xs → p (get_or xs i 0) ≡ true → filter p (take (i + 1) xs) ≡ filter p (take i xs) ++ get_or xs i 0 ∷ []
passes p xs i lt e = filter_more p xs i 0 lt ∙ ap (λ (t : Bool). filter p (take i xs) ++ cond t (get_or xs i 0 ∷ []) []) e

pub fails : (p : ℕ → Bool) (xs : List ℕ) (i : ℕ) → i < length xs → p (get_or xs i 0) ≡ false → filter p (take (i + 1) xs) ≡ filter p (take i xs)
fails p xs i lt e = filter_more p xs i 0 lt ∙ ap (λ (t : Bool). filter p (take i xs) ++ cond t (get_or xs i 0 ∷ []) []) e ∙ append-nil (filter p (take i xs))

pub rises : (xs : List ℕ) → IsStrictlyIncreasing xs → (i j : ℕ) → i < j → j < length xs → get_or xs i 0 < get_or xs j 0
rises xs up i zero lt in_list = absurd (omega arith)
rises xs up i (suc j) lt in_list =
    let next : j + 1 < length xs = omega arith in
    let step : get_or xs j 0 < get_or xs (j + 1) 0 = up j next in
    let same : suc j ≡ j + 1 = omega arith in
    let here : get_or xs j 0 < get_or xs (suc j) 0 = subst (λ (n : ℕ). get_or xs j 0 < get_or xs n 0) (sym same) step in
    elim (cases_lt i j) [
      | inl below ↦ let rest = rises xs up i j below (omega arith) in omega arith
      | inr above ↦ let last : i ≡ j = omega arith in subst (λ (n : ℕ). get_or xs n 0 < get_or xs (suc j) 0) (sym last) here
    ]

pub viewed : {A : Type 0} (v : A → List ℕ) (r : Option A) (d : A) → v d ≡ [] → v (unwrap_or r d) ≡ unwrap_or (option_map v r) []
viewed v None d h = h
viewed v (Some x) d h = refl

pub unwrapped : {A : Type 0} (v : A → List ℕ) (r : Option A) (d x : A) (all : List (List ℕ)) (n : ℕ) → option_map v r ≡ slice_get all n → x ≡ unwrap_or r d → v d ≡ [] → v x ≡ get_or all n []
unwrapped v r d x all n is e h = ap v e ∙ viewed v r d h ∙ ap (λ o. unwrap_or o []) is ∙ unwrap_or-slice_get all n []

pub behind_front : (text tail : List ℕ) → drop (length text) (text ++ tail) ≡ tail
behind_front [] tail = refl
behind_front (a ∷ text) tail = behind_front text tail

pub set_same : {A : Type 0} (xs : List A) (k : ℕ) (a : A) → slice_get xs k ≡ Some a → slice_set xs k a ≡ xs
set_same [] k a at = refl
set_same (x ∷ xs) zero a at = let e : x ≡ a = cc in ap (λ y. y ∷ xs) (sym e)
set_same (x ∷ xs) (suc k) a at = ap (λ ys. x ∷ ys) (set_same xs k a at)

-- what all have, the one at a place has
pub all_at : {A : Type 0} (P : A → Type 0) (xs : List A) → All P xs → (k : ℕ) (x : A) → slice_get xs k ≡ Some x → P x
all_at P xs all k x at =
    let lt = slice_get_within xs k x at in
    let both : Some (get_or xs k x) ≡ Some x = sym (slice_get-get_or xs k x lt) ∙ at in
    subst P (cc both) (all k x lt)

-- what the one at each place has, all have
pub all_from : {A : Type 0} (P : A → Type 0) (xs : List A) → ((k : ℕ) (x : A) → slice_get xs k ≡ Some x → P x) → All P xs
all_from P xs each k x lt = each k (get_or xs k x) (slice_get-get_or xs k x lt)

-- nothing is in the parts of a list in which nothing is
pub none_left : {A : Type 0} (xs ys : List A) → [] ≡ xs ++ ys → [] ≡ xs
none_left [] ys e = refl
none_left (x ∷ xs) ys e = absurd (cc e)

pub none_right : {A : Type 0} (xs ys : List A) → [] ≡ xs ++ ys → [] ≡ ys
none_right [] ys e = e
none_right (x ∷ xs) ys e = absurd (cc e)
