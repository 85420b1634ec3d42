-- A lost file without room has none once another one is entered.
use Rattle.std.proofs.Common.{◌≡◌, ◌==◌, ◌&&◌, ◌||◌, ◌+◌, ◌*◌, ◌/◌, ◌%◌, ◌<◌, ◌⊎◌, inl, inr, ◌∙◌, ℕ, Bool, true, false, cond, List, [], ◌∷◌, Some, None, nat_le, nat_lt, refl, sym, ap, subst, arith}
use Rattle.std.specs.Str.{bytes_eq}
use Rattle.std.proofs.lemmas.Bool.{and_parts, and_from, or_cases}
use Rattle.std.proofs.lemmas.Slice.Eq.{bytes_eq-Decides}
use Rattle.plain_cat.specs.declared.entries.DirEnt.{DirEnt}
use Rattle.plain_rules.specs.Lookups.{versions, highest}
use Rattle.plain_rules.specs.Directories.{lower, before, inserted, fits, is_nil}
use Rattle.plain_rules.specs.Mending.{digit, lost_name, lost_entry, if_room, with_lost_entry}
use Rattle.plain_mends.proofs.Fewer.{Among, fewer_fit, among_same, among_inserted, nil_is}
use Rattle.plain_rules.proofs.Ordered.{lt_trans, eq_is, eq_refl}

-- ---- names tell the number

digits : (n : ℕ) → n < 100000 → n ≡ 10000 * (n / 10000 % 10) + (1000 * (n / 1000 % 10) + (100 * (n / 100 % 10) + (10 * (n / 10 % 10) + n / 1 % 10)))
digits n lt = omega arith

digit_is : (n k unit : ℕ) → digit n unit ≡ digit k unit → n / unit % 10 ≡ k / unit % 10
digit_is n k unit e = omega (arith, e)

pub names_differ : (n k : ℕ) → n < 100000 → k < 100000 → lost_name n ≡ lost_name k → n ≡ k
unfolding lost_name
names_differ n k small few e =
    let a : digit n 10000 ≡ digit k 10000 = cc in
    let b : digit n 1000 ≡ digit k 1000 = cc in
    let c : digit n 100 ≡ digit k 100 = cc in
    let d : digit n 10 ≡ digit k 10 = cc in
    let f : digit n 1 ≡ digit k 1 = cc in
    let a1 = digit_is n k 10000 a in
    let b1 = digit_is n k 1000 b in
    let c1 = digit_is n k 100 c in
    let d1 = digit_is n k 10 d in
    let f1 = digit_is n k 1 f in
    let x = digits n small in
    let y = digits k few in
    omega (arith, a1, b1, c1, d1, f1, x, y)

-- ---- an entry of another name

other_name : (e : DirEnt) (name : List ℕ) (es : List DirEnt) → bytes_eq e.name name ≡ false → versions name (inserted e es) ≡ versions name es
other_name e name [] h = ap (λ b. cond b (e ∷ []) []) h
other_name e name (x ∷ xs) h = by (before e x) (other_name e name xs h) where
  rest : List DirEnt
  rest = versions name (x ∷ xs)

  by : (b : Bool) → versions name (inserted e xs) ≡ versions name xs → versions name (cond b (e ∷ x ∷ xs) (x ∷ inserted e xs)) ≡ versions name (x ∷ xs)
  by true ih = ap (λ b. cond b (e ∷ rest) rest) h
  by false ih = ap (λ vs. cond (bytes_eq x.name name) (x ∷ vs) vs) ih

-- what comes in beside it
module _ (f e : DirEnt) (trans : (x : DirEnt) → before f e ≡ true → before e x ≡ true → before f x ≡ true) where
  among_both : (es : List DirEnt) → Among (inserted f es) (inserted f (inserted e es))
  among_both [] = by (before f e) where
    by : (b : Bool) → Among (f ∷ []) (cond b (f ∷ e ∷ []) (e ∷ f ∷ []))
    by true = inr ([], refl, inl refl)
    by false = inl (among_same (f ∷ []))
  among_both (x ∷ xs) = by_e (before e x) refl (among_both xs) where
    inner : (b : Bool) → Among (inserted f xs) (inserted f (inserted e xs)) → Among (cond b (f ∷ x ∷ xs) (x ∷ inserted f xs)) (cond b (f ∷ x ∷ inserted e xs) (x ∷ inserted f (inserted e xs)))
    inner true ih = inr (x ∷ xs, refl, inr (xs, refl, among_inserted e xs))
    inner false ih = inr (inserted f xs, refl, ih)

    outer : (b : Bool) → before f e ≡ b → before e x ≡ true → Among (inserted f (x ∷ xs)) (cond b (f ∷ e ∷ x ∷ xs) (e ∷ inserted f (x ∷ xs)))
    outer false g h = inl (among_same (inserted f (x ∷ xs)))
    outer true g h = subst (λ c. Among (cond c (f ∷ x ∷ xs) (x ∷ inserted f xs)) (f ∷ e ∷ x ∷ xs)) (sym (trans x g h)) (inr (x ∷ xs, refl, inl (among_same (x ∷ xs))))

    by_e : (b : Bool) → before e x ≡ b → Among (inserted f xs) (inserted f (inserted e xs)) → Among (inserted f (x ∷ xs)) (inserted f (cond b (e ∷ x ∷ xs) (x ∷ inserted e xs)))
    by_e true h ih = outer (before f e) refl h
    by_e false h ih = inner (before f x) ih

  fits_still : (k : ℕ) (es : List DirEnt) → fits k (inserted f (inserted e es)) ≡ true → fits k (inserted f es) ≡ true
  unfolding fits
  fits_still k es h = ap is_nil (fewer_fit (λ (x : DirEnt). x.name) k (inserted f es) (inserted f (inserted e es)) (among_both es) (nil_is _ h))

  full_still : (k : ℕ) (es : List DirEnt) → if_room k es f ≡ None → if_room k (inserted e es) f ≡ None
  full_still k es h = by (nat_le f.ver 32767) (fits k (inserted f (inserted e es))) refl h where
    by : (b c : Bool) → fits k (inserted f (inserted e es)) ≡ c → cond (b && fits k (inserted f es)) (Some (inserted f es)) None ≡ None
        → cond (b && c) (Some (inserted f (inserted e es))) None ≡ None
    by false c g n = refl
    by true false g n = refl
    by true true g n = let t = fits_still k es g in absurd (let u : cond (fits k (inserted f es)) (Some (inserted f es)) None ≡ None = n in let v : Some (inserted f es) ≡ None = ap (λ b. cond b (Some (inserted f es)) None) (sym t) ∙ u in cc v)

bytes_refl : (n : List ℕ) → bytes_eq n n ≡ true
bytes_refl n = (bytes_eq-Decides n n).1 refl

bytes_is : (n m : List ℕ) → bytes_eq n m ≡ true → n ≡ m
bytes_is n m e = (bytes_eq-Decides n m).0 e

or_left : (a b : Bool) → a ≡ true → a || b ≡ true
or_left true b h = refl
or_left false b h = absurd (cc h)

pub or_right : (a b : Bool) → b ≡ true → a || b ≡ true
or_right true b h = refl
or_right false b h = h

lower_trans : (a b c : List ℕ) → lower a b ≡ true → lower b c ≡ true → lower a c ≡ true
lower_trans [] [] c e f = absurd (cc e)
lower_trans [] (y ∷ ys) [] e f = absurd (cc f)
lower_trans [] (y ∷ ys) (z ∷ zs) e f = refl
lower_trans (x ∷ xs) [] c e f = absurd (cc e)
lower_trans (x ∷ xs) (y ∷ ys) [] e f = absurd (cc f)
lower_trans (x ∷ xs) (y ∷ ys) (z ∷ zs) e f = by_first (or_cases (nat_lt x y) _ e) (or_cases (nat_lt y z) _ f) (lower_trans xs ys zs) where
  by_first : (nat_lt x y ≡ true) ⊎ ((x == y) && lower xs ys ≡ true) → (nat_lt y z ≡ true) ⊎ ((y == z) && lower ys zs ≡ true)
      → (lower xs ys ≡ true → lower ys zs ≡ true → lower xs zs ≡ true) → nat_lt x z || ((x == z) && lower xs zs) ≡ true
  by_first (inl h) (inl k) ih = or_left (nat_lt x z) _ (lt_trans x y z h k)
  by_first (inl h) (inr k) ih = or_left (nat_lt x z) _ (subst (λ (q : ℕ). nat_lt x q ≡ true) (eq_is y z (and_parts _ _ k).0) h)
  by_first (inr h) (inl k) ih = or_left (nat_lt x z) _ (subst (λ (q : ℕ). nat_lt q z ≡ true) (sym (eq_is x y (and_parts _ _ h).0)) k)
  by_first (inr h) (inr k) ih =
      or_right (nat_lt x z) _ (and_from _ _ (subst (λ (q : ℕ). (x == q) ≡ true) (eq_is x y (and_parts _ _ h).0 ∙ eq_is y z (and_parts _ _ k).0) (eq_refl x)) (ih (and_parts _ _ h).1 (and_parts _ _ k).1))

before_trans : (a b c : DirEnt) → before a b ≡ true → before b c ≡ true → before a c ≡ true
unfolding before
before_trans a b c e f = by_first (or_cases (lower a.name b.name) _ e) (or_cases (lower b.name c.name) _ f) where
  by_first : (lower a.name b.name ≡ true) ⊎ (bytes_eq a.name b.name && nat_lt b.ver a.ver ≡ true) → (lower b.name c.name ≡ true) ⊎ (bytes_eq b.name c.name && nat_lt c.ver b.ver ≡ true)
      → lower a.name c.name || (bytes_eq a.name c.name && nat_lt c.ver a.ver) ≡ true
  by_first (inl h) (inl k) = or_left (lower a.name c.name) _ (lower_trans a.name b.name c.name h k)
  by_first (inl h) (inr k) = or_left (lower a.name c.name) _ (subst (λ (q : List ℕ). lower a.name q ≡ true) (bytes_is b.name c.name (and_parts _ _ k).0) h)
  by_first (inr h) (inl k) = or_left (lower a.name c.name) _ (subst (λ (q : List ℕ). lower q c.name ≡ true) (sym (bytes_is a.name b.name (and_parts _ _ h).0)) k)
  by_first (inr h) (inr k) =
      or_right (lower a.name c.name) _ (and_from _ _ (subst (λ (q : List ℕ). bytes_eq a.name q ≡ true) (bytes_is a.name b.name (and_parts _ _ h).0 ∙ bytes_is b.name c.name (and_parts _ _ k).0) (bytes_refl a.name)) (lt_trans c.ver b.ver a.ver (and_parts _ _ k).1 (and_parts _ _ h).1))

-- no room for n, once an entry of another name is there
pub still_full : (factor : ℕ) (es : List DirEnt) (e : DirEnt) (n seq : ℕ) → bytes_eq e.name (lost_name n) ≡ false
    → with_lost_entry factor es n seq ≡ None → with_lost_entry factor (inserted e es) n seq ≡ None
unfolding with_lost_entry
still_full factor es e n seq other h =
    let same : lost_entry (inserted e es) n seq ≡ lost_entry es n seq = ap (λ vs. record { name = lost_name n; ver = highest vs + 1; fid = record { num = n; seq = seq } }) (other_name e (lost_name n) es other) in
    ap (if_room factor (inserted e es)) same ∙ full_still (lost_entry es n seq) e (λ x. before_trans (lost_entry es n seq) e x) factor es h
