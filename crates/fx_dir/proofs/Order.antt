-- The order of entries, and what one name and version means. The other files know no more of either than this.
use Rattle.std.proofs.Common.{◌≡◌, ◌⊎◌, ◌&&◌, ◌||◌, Bool, true, false, ℕ, List, [], ◌∷◌, refl, sym, subst, ◌∙◌, inl, inr, arith, eqb, ltb}
use Rattle.std.proofs.lemmas.Bool.Decides.{nat_tests}
use Rattle.std.specs.Str.{bytes_eq}
use Rattle.std.proofs.lemmas.Slice.Eq.{bytes_eq-Decides}
use Rattle.fx_dir.specs.declared.RawEnt.{RawEnt}
use Rattle.fx_dir.specs.Entries.{same, before, lower}

pub and_cases : (a b : Bool) → (a && b) ≡ true → (a ≡ true) × (b ≡ true)
and_cases true true e = (refl, refl)
and_cases true false e = absurd (cc)
and_cases false b e = absurd (cc)

pub both : (a b : Bool) → a ≡ true → b ≡ true → (a && b) ≡ true
both true true e f = refl
both true false e f = f
both false b e f = e

pub is_true_or : (b : Bool) → (b ≡ true) ⊎ (b ≡ false)
is_true_or true = inl refl
is_true_or false = inr refl

pub not_both : (b : Bool) → b ≡ true → b ≡ false → ⊥
not_both b e f = cc

pub eqb_refl : (n : ℕ) → eqb n n ≡ true
eqb_refl n = grind (arith, nat_tests)

pub eqb_eq : (n m : ℕ) → eqb n m ≡ true → n ≡ m
eqb_eq n m e = grind (arith, nat_tests)

pub bytes_refl : (n : List ℕ) → bytes_eq n n ≡ true
bytes_refl n = grind (arith, bytes_eq-Decides)

pub bytes_is : (n m : List ℕ) → bytes_eq n m ≡ true → n ≡ m
bytes_is n m e = grind (arith, bytes_eq-Decides)

pub same-self : (a : RawEnt) → same a a ≡ true
unfolding same
same-self a = both _ _ (bytes_refl a.name) (eqb_refl a.ver)

pub same-both : (a b c : RawEnt) → same a b ≡ true → same a c ≡ true → same c b ≡ true
unfolding same
same-both a b c e f =
    let p = and_cases _ _ e in
    let q = and_cases _ _ f in
    let ab : a.name ≡ b.name = bytes_is a.name b.name p.0 in
    let ac : a.name ≡ c.name = bytes_is a.name c.name q.0 in
    let vb : a.ver ≡ b.ver = eqb_eq a.ver b.ver p.1 in
    let vc : a.ver ≡ c.ver = eqb_eq a.ver c.ver q.1 in
    let n : c.name ≡ b.name = sym ac ∙ ab in
    let v : c.ver ≡ b.ver = sym vc ∙ vb in
    both _ _ (subst (λ (m : List ℕ). bytes_eq c.name m ≡ true) n (bytes_refl c.name)) (subst (λ (m : ℕ). eqb c.ver m ≡ true) v (eqb_refl c.ver))

ltb_no : (n : ℕ) → ltb n n ≡ false
ltb_no n = grind (arith, nat_tests)

pub no_or : (a b : Bool) → a ≡ false → b ≡ false → (a || b) ≡ false
no_or true b e f = e
no_or false b e f = f

pub no_and : (a b : Bool) → b ≡ false → (a && b) ≡ false
no_and true b f = f
no_and false b f = refl

pub lower_no : (n : List ℕ) → lower n n ≡ false
lower_no [] = refl
lower_no (x ∷ xs) = no_or _ _ (ltb_no x) (no_and (eqb x x) _ (lower_no xs))

-- what is before an entry is another
pub before-other : (a b : RawEnt) → before a b ≡ true → same b a ≡ false
unfolding same before
before-other a b e = elim (is_true_or (same b a)) [ inl t ↦ absurd (clash t) | inr f ↦ f ] where
  clash : same b a ≡ true → ⊥
  clash t =
      let p = and_cases _ _ t in
      let n : b.name ≡ a.name = bytes_is b.name a.name p.0 in
      let v : b.ver ≡ a.ver = eqb_eq b.ver a.ver p.1 in
      let l : lower a.name b.name ≡ false = subst (λ (m : List ℕ). lower a.name m ≡ false) (sym n) (lower_no a.name) in
      let w : ltb b.ver a.ver ≡ false = subst (λ (m : ℕ). ltb b.ver m ≡ false) v (ltb_no b.ver) in
      not_both _ e (no_or _ _ l (no_and _ _ w))

pub or_cases : (a b : Bool) → (a || b) ≡ true → (a ≡ true) ⊎ (b ≡ true)
or_cases true b e = inl refl
or_cases false b e = inr e

pub or_left : (a b : Bool) → a ≡ true → (a || b) ≡ true
or_left true b e = refl
or_left false b e = absurd (cc)

pub or_right : (a b : Bool) → b ≡ true → (a || b) ≡ true
or_right true b e = refl
or_right false b e = e

or_false : (a b : Bool) → (a || b) ≡ false → (a ≡ false) × (b ≡ false)
or_false true b e = absurd (cc)
or_false false b e = (refl, e)

three : (x y : ℕ) → ltb x y ≡ false → eqb x y ≡ false → ltb y x ≡ true
three x y e f = grind (arith, nat_tests)

ltb_trans : (x y z : ℕ) → ltb x y ≡ true → ltb y z ≡ true → ltb x z ≡ true
ltb_trans x y z e f = grind (arith, nat_tests)

lower-total : (n m : List ℕ) → bytes_eq n m ≡ false → lower n m ≡ false → lower m n ≡ true
lower-total [] [] e f = absurd (let g : true ≡ false = e in cc)
lower-total [] (y ∷ ys) e f = absurd (cc)
lower-total (x ∷ xs) [] e f = refl
lower-total (x ∷ xs) (y ∷ ys) e f =
    let p = or_false (ltb x y) (eqb x y && lower xs ys) f in
    elim (is_true_or (eqb x y)) [
      | inr ne ↦ or_left (ltb y x) _ (three x y p.0 ne)
      | inl h ↦ (
          let xy : x ≡ y = eqb_eq x y h in
          let e2 : bytes_eq xs ys ≡ false = subst (λ (q : Bool). (q && bytes_eq xs ys) ≡ false) h e in
          let f2 : lower xs ys ≡ false = subst (λ (q : Bool). (q && lower xs ys) ≡ false) h p.1 in
          or_right (ltb y x) _ (both _ _ (subst (λ (q : ℕ). eqb q x ≡ true) xy (eqb_refl x)) (lower-total xs ys e2 f2))
          )
    ]

lower-trans : (a b c : List ℕ) → lower a b ≡ true → lower b c ≡ true → lower a c ≡ true
lower-trans [] [] c e f = absurd (cc)
lower-trans [] (y ∷ ys) [] e f = absurd (cc)
lower-trans [] (y ∷ ys) (z ∷ zs) e f = refl
lower-trans (x ∷ xs) [] c e f = absurd (cc)
lower-trans (x ∷ xs) (y ∷ ys) [] e f = absurd (cc)
lower-trans (x ∷ xs) (y ∷ ys) (z ∷ zs) e f = elim (or_cases (ltb x y) _ e) [
  | inl h ↦ elim (or_cases (ltb y z) _ f) [
    | inl k ↦ or_left (ltb x z) _ (ltb_trans x y z h k)
    | inr k ↦ or_left (ltb x z) _ (subst (λ (q : ℕ). ltb x q ≡ true) (eqb_eq y z (and_cases _ _ k).0) h)
  ]
  | inr h ↦ elim (or_cases (ltb y z) _ f) [
    | inl k ↦ or_left (ltb x z) _ (subst (λ (q : ℕ). ltb q z ≡ true) (sym (eqb_eq x y (and_cases _ _ h).0)) k)
    | inr k ↦ or_right (ltb x z) _ (both _ _ (subst (λ (q : ℕ). eqb x q ≡ true) (eqb_eq x y (and_cases _ _ h).0 ∙ eqb_eq y z (and_cases _ _ k).0) (eqb_refl x)) (lower-trans xs ys zs (and_cases _ _ h).1 (and_cases _ _ k).1))
  ]
]

-- of two entries that are not of one name and version, one is before the other
pub before-total : (a b : RawEnt) → same a b ≡ false → before a b ≡ false → before b a ≡ true
unfolding same before
before-total a b e f =
    let p = or_false (lower a.name b.name) _ f in
    elim (is_true_or (bytes_eq a.name b.name)) [
      | inr ne ↦ or_left (lower b.name a.name) _ (lower-total a.name b.name ne p.0)
      | inl h ↦ (
          let n : a.name ≡ b.name = bytes_is a.name b.name h in
          let e2 : eqb a.ver b.ver ≡ false = subst (λ (q : Bool). (q && eqb a.ver b.ver) ≡ false) h e in
          let f2 : ltb b.ver a.ver ≡ false = subst (λ (q : Bool). (q && ltb b.ver a.ver) ≡ false) h p.1 in
          or_right (lower b.name a.name) _ (both _ _ (subst (λ (q : List ℕ). bytes_eq q a.name ≡ true) n (bytes_refl a.name)) (less a.ver b.ver e2 f2))
          )
    ] where
      less : (x y : ℕ) → eqb x y ≡ false → ltb y x ≡ false → ltb x y ≡ true
      less x y e f = grind (arith, nat_tests)

pub before-trans : (a b c : RawEnt) → before a b ≡ true → before b c ≡ true → before a c ≡ true
unfolding before
before-trans a b c e f = elim (or_cases (lower a.name b.name) _ e) [
  | inl h ↦ elim (or_cases (lower b.name c.name) _ f) [
    | inl k ↦ or_left (lower a.name c.name) _ (lower-trans a.name b.name c.name h k)
    | inr k ↦ or_left (lower a.name c.name) _ (subst (λ (q : List ℕ). lower a.name q ≡ true) (bytes_is b.name c.name (and_cases _ _ k).0) h)
  ]
  | inr h ↦ elim (or_cases (lower b.name c.name) _ f) [
    | inl k ↦ or_left (lower a.name c.name) _ (subst (λ (q : List ℕ). lower q c.name ≡ true) (sym (bytes_is a.name b.name (and_cases _ _ h).0)) k)
    | inr k ↦ or_right (lower a.name c.name) _ (both _ _ (subst (λ (q : List ℕ). bytes_eq a.name q ≡ true) (bytes_is a.name b.name (and_cases _ _ h).0 ∙ bytes_is b.name c.name (and_cases _ _ k).0) (bytes_refl a.name)) (ltb_trans c.ver b.ver a.ver (and_cases _ _ k).1 (and_cases _ _ h).1))
  ]
]
