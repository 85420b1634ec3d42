-- What a stock holds that has taken more.
use Rattle.std.proofs.Common.{◌≡◌, ◌⊎◌, ◌==◌, ◌↔◌, ℕ, Bool, true, false, List, [], ◌∷◌, ◌++◌, refl, sym, ap, subst, inl, inr, arith, cond, nat_lt}
use Rattle.std.specs.Prelude.{filter, not}
use Rattle.std.proofs.lemmas.Bool.{or_from}
use Rattle.std.proofs.lemmas.Bool.Decides.{nat_tests}
use Rattle.extent_cache.specs.Stock.{holds, put_in, with_one, merged}
use Rattle.extent_cache.proofs.RisingLists.{le-not_lt}
use Rattle.base_words.specs.Lists.{Has, Once, AreApart}
use Rattle.base_words.proofs.Listing.{has_parted, has_first, has_second, once_in_a_row, once_first, once_second, once_apart, filtered}
use Rattle.core_space.specs.Laws.{StocksTakeAll}

-- ---- one number

not_same : (x y : ℕ) → (y ≡ x → ⊥) → (x == y) ≡ false
not_same x y other = by_test (x == y) refl where
  by_test : (b : Bool) → (x == y) ≡ b → (x == y) ≡ false
  by_test true e = absurd (other (grind (arith, nat_tests)))
  by_test false e = e

pub not_held : (x : ℕ) (held : List ℕ) → (Has held x → ⊥) → holds x held ≡ false
not_held x [] out = refl
not_held x (y ∷ ys) out = or_from (x == y) (holds x ys) (not_same x y (λ e. out (inl e))) (not_held x ys (λ t. out (inr t)))

abbrev below : ℕ → ℕ → Bool
below x y = nat_lt y x

-- a number in its place stands between those below it and the others
between : (x : ℕ) (held : List ℕ) → put_in x 1 held ≡ filter (below x) held ++ (x ∷ filter (λ y. not (below x y)) held)
between x held = ap (λ (p : ℕ → Bool). filter (below x) held ++ (x ∷ filter p held)) (λ i y. le-not_lt x y i)

pub put_in_has : (x : ℕ) (held : List ℕ) (q : ℕ) → Has (put_in x 1 held) q ↔ ((x ≡ q) ⊎ Has held q)
put_in_has x held q =
    let p = filtered.parts (below x) held in
    let low = filter (below x) held in
    let high = filter (λ y. not (below x y)) held in (
      (λ t. elim (has_parted low (x ∷ high) q (subst (λ (l : List ℕ). Has l q) (between x held) t)) [
        | inl u ↦ inr (p.part_in q u)
        | inr u ↦ elim u [ inl e ↦ inl e | inr v ↦ inr (p.rest_in q v) ]
      ]),
      (λ t. subst (λ (l : List ℕ). Has l q) (sym (between x held)) (elim t [
        | inl e ↦ has_second low (x ∷ high) q (inl e)
        | inr u ↦ elim (p.each q u) [ inl v ↦ has_first low (x ∷ high) q v | inr v ↦ has_second low (x ∷ high) q (inr v) ]
      ])),
    )

pub put_in_once : (x : ℕ) (held : List ℕ) → (Has held x → ⊥) → Once held → Once (put_in x 1 held)
put_in_once x held out once =
    let p = filtered.parts (below x) held in
    let low = filter (below x) held in
    let high = filter (λ y. not (below x y)) held in
    let last : Once (x ∷ high) = ((λ t. out (p.rest_in x t)), filtered.once (λ y. not (below x y)) held once) in
    let apart : AreApart low (x ∷ high) = λ q t u. elim u [ inl e ↦ out (subst (λ (k : ℕ). Has held k) (sym e) (p.part_in q t)) | inr v ↦ p.apart q t v ] in
    subst (λ (l : List ℕ). Once l) (sym (between x held)) (once_in_a_row low (x ∷ high) (filtered.once (below x) held once) last apart)

-- ---- all of them

pub stocks_take_all : StocksTakeAll
stocks_take_all [] held once = (once, λ q. ((λ t. t), (λ t. t)))
stocks_take_all (x ∷ xs) held once =
    let out : Has held x → ⊥ = λ t. once.0 (has_second xs held x t) in
    let next = put_in x 1 held in
    let same : with_one x held ≡ next = ap (λ b. cond b held next) (not_held x held out) in
    let apart : AreApart xs next = λ q t u. elim ((put_in_has x held q).0 u) [
      | inl e ↦ once.0 (has_first xs held x (subst (λ (k : ℕ). Has xs k) (sym e) t))
      | inr v ↦ once_apart xs held once.1 q t v
    ] in
    let rest = stocks_take_all xs next (once_in_a_row xs next (once_first xs held once.1) (put_in_once x held out (once_second xs held once.1)) apart) in
    subst (λ (l : List ℕ). Once (merged xs l) × ((q : ℕ) → Has (merged xs l) q ↔ Has ((x ∷ xs) ++ held) q)) (sym same) (
      rest.0,
      λ q. (
        (λ t. elim (has_parted xs next q ((rest.1 q).0 t)) [
          | inl u ↦ inr (has_first xs held q u)
          | inr u ↦ elim ((put_in_has x held q).0 u) [ inl e ↦ inl e | inr v ↦ inr (has_second xs held q v) ]
        ]),
        (λ t. (rest.1 q).1 (elim t [
          | inl e ↦ has_second xs next q ((put_in_has x held q).1 (inl e))
          | inr u ↦ elim (has_parted xs held q u) [ inl v ↦ has_first xs next q v | inr v ↦ has_second xs next q ((put_in_has x held q).1 (inr v)) ]
        ])),
      ),
    )
