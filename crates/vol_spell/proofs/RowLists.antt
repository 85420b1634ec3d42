-- What a function gives of the items of a list, where it gives something of some of them alone.
use Rattle.std.proofs.Common.{◌≡◌, ◌+◌, ◌<◌, ◌≤◌, ◌++◌, ℕ, zero, suc, Bool, true, false, List, [], ◌∷◌, Option, Some, None, length, map, get_or, ltb, cond, refl, sym, ap, subst, ◌∙◌, inl, inr, arith}
use Rattle.std.specs.Option.{option_map}
use Rattle.std.specs.List.{range_with_len, filter_map, cons_option, position, position_or_len}
use Rattle.std.proofs.lemmas.Bool.Decides.{nat_tests}
use Rattle.std.proofs.lemmas.List.Sums.{fails_before_first}
use Rattle.std.proofs.lemmas.List.Quantifiers.{position-Some}
use Rattle.std.proofs.lemmas.List.FromFn.{length-range_with_len, get_or-range_with_len}
use Rattle.base_words.specs.Lists.{Has, Once}

-- ---- ranges

pub range_joined : (a m n : ℕ) → range_with_len a (m + n) ≡ range_with_len a m ++ range_with_len (a + m) n
range_joined a zero n =
    let none : zero + n ≡ n = omega arith in
    let same : a + zero ≡ a = omega arith in
    rw (none, same) refl
range_joined a (suc m) n =
    let next : suc m + n ≡ suc (m + n) = omega arith in
    let same : a + 1 + m ≡ a + suc m = omega arith in
    ap (range_with_len a) next ∙ ap (λ ns. a ∷ ns) (range_joined (a + 1) m n ∙ ap (λ b. range_with_len (a + 1) m ++ range_with_len b n) same)

-- the same function on the numbers of a range and on those s below them
pub filter_map-moved : {Y : Type 0} (h k : ℕ → Option Y) (s : ℕ) → ((j : ℕ) → k (j + s) ≡ h j) → (a n : ℕ) → filter_map k (range_with_len (a + s) n) ≡ filter_map h (range_with_len a n)
filter_map-moved h k s same a zero = refl
filter_map-moved h k s same a (suc n) =
    let next : a + s + 1 ≡ a + 1 + s = omega arith in
    let rest : filter_map k (range_with_len (a + s + 1) n) ≡ filter_map h (range_with_len (a + 1) n) = ap (λ b. filter_map k (range_with_len b n)) next ∙ filter_map-moved h k s same (a + 1) n in
    ap (λ o. cons_option o (filter_map k (range_with_len (a + s + 1) n))) (same a) ∙ ap (cons_option (h a)) rest

-- the place that passes a test, or none
pub place_passes : (test : ℕ → Bool) (n j : ℕ) → position test (range_with_len 0 n) ≡ Some j → (j < n) × (test j ≡ true)
place_passes test n j e =
    let p = position-Some test (range_with_len 0 n) j 0 e in
    let long = length-range_with_len 0 n in
    let inside : j < n = let lt = p.0 in omega arith in
    let at : get_or (range_with_len 0 n) j 0 ≡ j = get_or-range_with_len 0 n j 0 inside ∙ omega arith in
    (inside, ap test (sym at) ∙ p.1)

pub none_passes : (test : ℕ → Bool) (n j : ℕ) → position test (range_with_len 0 n) ≡ None → j < n → test j ≡ false
none_passes test n j e inside =
    let ns = range_with_len 0 n in
    let at : get_or ns j 0 ≡ j = get_or-range_with_len 0 n j 0 inside ∙ omega arith in
    let all : length ns ≤ position_or_len test ns = none (position_or_len test ns) (length ns) (ltb (position_or_len test ns) (length ns)) refl e in
    let long = length-range_with_len 0 n in
    ap test (sym at) ∙ fails_before_first test ns j 0 (omega arith) where
      none : (p l : ℕ) (b : Bool) → ltb p l ≡ b → cond (ltb p l) (Some p) None ≡ None → l ≤ p
      none p l true t e = absurd (let f : Some p ≡ None = ap (λ c. cond c (Some p) None) (sym t) ∙ e in cc)
      none p l false t e = grind (arith, nat_tests)

-- ---- what is given

-- what is given of each item is changed so in the list
pub filter_map-changed : {X Y : Type 0} (f : Y → Y) (h k : X → Option Y) (xs : List X) → ((x : X) → Has xs x → k x ≡ option_map f (h x)) → filter_map k xs ≡ map f (filter_map h xs)
filter_map-changed f h k [] same = refl
filter_map-changed {X} {Y} f h k (x ∷ xs) same =
    ap (λ o. cons_option o (filter_map k xs)) (same x (inl refl)) ∙ cons (h x) (filter_map k xs) (filter_map h xs) (filter_map-changed f h k xs (λ y t. same y (inr t))) where
      cons : (o : Option Y) (ys zs : List Y) → ys ≡ map f zs → cons_option (option_map f o) ys ≡ map f (cons_option o zs)
      cons None ys zs e = e
      cons (Some y) ys zs e = ap (λ l. f y ∷ l) e

module _ {X Y : Type 0} (key : Y → ℕ) (h : X → Option Y) where
  has_cons : (o : Option Y) (ys : List Y) (n : ℕ) → Has (map key ys) n → Has (map key (cons_option o ys)) n
  has_cons None ys n t = t
  has_cons (Some y) ys n t = inr t

  once_cons : (o : Option Y) (ys : List Y) → Once (map key (cons_option o ys)) → Once (map key ys)
  once_cons None ys o = o
  once_cons (Some y) ys o = o.1

  pub has_given : (xs : List X) (x : X) (y : Y) → Has xs x → h x ≡ Some y → Has (map key (filter_map h xs)) (key y)
  has_given [] x y t e = absurd t
  has_given (z ∷ xs) x y (inl same) e =
      let at : h z ≡ Some y = ap h same ∙ e in
      subst (λ (o : Option Y). Has (map key (cons_option o (filter_map h xs))) (key y)) (sym at) (inl refl)
  has_given (z ∷ xs) x y (inr t) e = has_cons (h z) (filter_map h xs) (key y) (has_given xs x y t e)

  pub has_item : (xs : List X) (x : X) (y : Y) → Has xs x → h x ≡ Some y → Has (filter_map h xs) y
  has_item [] x y t e = absurd t
  has_item (z ∷ xs) x y (inl same) e =
      let at : h z ≡ Some y = ap h same ∙ e in
      subst (λ (o : Option Y). Has (cons_option o (filter_map h xs)) y) (sym at) (inl refl)
  has_item (z ∷ xs) x y (inr t) e = more (h z) (has_item xs x y t e) where
    more : (o : Option Y) → Has (filter_map h xs) y → Has (cons_option o (filter_map h xs)) y
    more None u = u
    more (Some w) u = inr u

  pub item_given : (xs : List X) (y : Y) → Has (filter_map h xs) y → (x : X) × Has xs x × (h x ≡ Some y)
  item_given [] y t = absurd t
  item_given (z ∷ xs) y t = by (h z) refl t (item_given xs y) where
    by : (o : Option Y) → h z ≡ o → Has (cons_option o (filter_map h xs)) y → (Has (filter_map h xs) y → (x : X) × Has xs x × (h x ≡ Some y)) → (x : X) × Has (z ∷ xs) x × (h x ≡ Some y)
    by None e u ih = let r = ih u in (r.0, inr r.1, r.2)
    by (Some w) e (inl same) ih = (z, inl refl, e ∙ ap (λ v. Some v) same)
    by (Some w) e (inr u) ih = let r = ih u in (r.0, inr r.1, r.2)

  -- where what is given has each key once, a key is given of one item alone
  first_alone : (xs : List X) (z y : X) (a b : Y) → Once (map key (filter_map h (z ∷ xs))) → h z ≡ Some a → Has xs y → h y ≡ Some b → key a ≡ key b → ⊥
  first_alone xs z y a b once ea t eb same =
      let o : Once (key a ∷ map key (filter_map h xs)) = subst (λ (o : Option Y). Once (map key (cons_option o (filter_map h xs)))) ea once in
      o.0 (subst (λ (n : ℕ). Has (map key (filter_map h xs)) n) (sym same) (has_given xs y b t eb))

  pub given_once : (xs : List X) (x y : X) (a b : Y) → Once (map key (filter_map h xs)) → Has xs x → Has xs y → h x ≡ Some a → h y ≡ Some b → key a ≡ key b → x ≡ y
  given_once [] x y a b once t u ea eb same = absurd t
  given_once (z ∷ xs) x y a b once (inl e) (inl f) ea eb same = sym e ∙ f
  given_once (z ∷ xs) x y a b once (inl e) (inr u) ea eb same = absurd (first_alone xs z y a b once (ap h e ∙ ea) u eb same)
  given_once (z ∷ xs) x y a b once (inr t) (inl f) ea eb same = absurd (first_alone xs z x b a once (ap h f ∙ eb) t ea (sym same))
  given_once (z ∷ xs) x y a b once (inr t) (inr u) ea eb same = given_once xs x y a b (once_cons (h z) (filter_map h xs) once) t u ea eb same
