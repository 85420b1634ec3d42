-- The numbers of a range that pass a test, listed one after the other.
use Rattle.std.proofs.Common.{◌≡◌, ◌≤◌, ◌<◌, ◌+◌, ◌-◌, ◌++◌, ◌∙◌, ℕ, zero, suc, Bool, true, false, cond, List, [], ◌∷◌, refl, sym, ap, subst, arith}
use Rattle.std.specs.Prelude.{All, filter}
use Rattle.std.specs.List.{range_with_len}
use Rattle.core_state.specs.Deaths.{numbers_that}
use Rattle.std.proofs.lemmas.List.{append-nil}
use Rattle.std.proofs.lemmas.List.Elements.{All-cons}

abbrev one_if : Bool → ℕ → List ℕ
one_if b x = cond b (x ∷ []) []

-- one number more
filter_more : (p : ℕ → Bool) (a k : ℕ) → filter p (range_with_len a (suc k)) ≡ filter p (range_with_len a k) ++ one_if (p (a + k)) (a + k)
filter_more p a zero = by_test (p a) ∙ ap (λ x. one_if (p x) x) (let e : a ≡ a + 0 = omega arith in e) where
  by_test : (b : Bool) → cond b (a ∷ []) [] ≡ one_if b a
  by_test true = refl
  by_test false = refl
filter_more p a (suc k) = by_test (p a) (filter_more p (a + 1) k ∙ ap (λ x. filter p (range_with_len (a + 1) k) ++ one_if (p x) x) (let e : a + 1 + k ≡ a + suc k = omega arith in e)) where
  by_test : (b : Bool) → filter p (range_with_len (a + 1) (suc k)) ≡ filter p (range_with_len (a + 1) k) ++ one_if (p (a + suc k)) (a + suc k)
      → cond b (a ∷ filter p (range_with_len (a + 1) (suc k))) (filter p (range_with_len (a + 1) (suc k))) ≡ cond b (a ∷ filter p (range_with_len (a + 1) k)) (filter p (range_with_len (a + 1) k)) ++ one_if (p (a + suc k)) (a + suc k)
  by_test true e = ap (λ xs. a ∷ xs) e
  by_test false e = e

all_below : (p : ℕ → Bool) (a k m : ℕ) → a + k ≤ m → All (λ x. x < m) (filter p (range_with_len a k))
all_below p a zero m le = λ i d lt. absurd (omega arith)
all_below p a (suc k) m le = by_test (p a) (all_below p (a + 1) k m (omega arith)) where
  by_test : (b : Bool) → All (λ x. x < m) (filter p (range_with_len (a + 1) k)) → All (λ x. x < m) (cond b (a ∷ filter p (range_with_len (a + 1) k)) (filter p (range_with_len (a + 1) k)))
  by_test true all = All-cons (λ x. x < m) a (filter p (range_with_len (a + 1) k)) (omega arith) all
  by_test false all = all

-- the numbers below n are listed, and there is room for the others
pub record AreListed (p : ℕ → Bool) (items : List ℕ) (room n : ℕ) : Type 0 where
  pub from : 1 ≤ n
  pub is : items ≡ numbers_that p (n - 1)
  pub wide : 4096 ≤ room + (n - 1)

pub listed_first : (p : ℕ → Bool) (items : List ℕ) (room : ℕ) → items ≡ [] → 4096 ≤ room → AreListed p items room 1
unfolding numbers_that
listed_first p items room e wide = record { from = omega arith; is = e; wide = omega arith }

pub listed_below : (p : ℕ → Bool) (items : List ℕ) (room n : ℕ) → AreListed p items room n → All (λ x. x < n) items
unfolding numbers_that
listed_below p items room n l = let from = l.from in subst (λ (xs : List ℕ). All (λ x. x < n) xs) (sym l.is) (all_below p 1 (n - 1) n (omega arith))

pub listed_room : (p : ℕ → Bool) (items : List ℕ) (room n : ℕ) → AreListed p items room n → n ≤ 4096 → 0 < room
listed_room p items room n l le = let wide = l.wide in omega arith

next_range : (p : ℕ → Bool) (items : List ℕ) (n : ℕ) → 1 ≤ n → items ≡ numbers_that p (n - 1) → items ++ one_if (p n) n ≡ numbers_that p (n + 1 - 1)
unfolding numbers_that
next_range p items n from e =
    let a : 1 + (n - 1) ≡ n = omega arith in
    let b : suc (n - 1) ≡ n + 1 - 1 = omega arith in
    (λ i. e i ++ one_if (p (sym a i)) (sym a i)) ∙ sym (filter_more p 1 (n - 1)) ∙ ap (λ k. filter p (range_with_len 1 k)) b

pub listed_more : (p : ℕ → Bool) (items new : List ℕ) (room room' n : ℕ) → AreListed p items room n → p n ≡ true → new ≡ items ++ n ∷ [] → room' + 1 ≡ room → AreListed p new room' (n + 1)
listed_more p items new room room' n l passes is less = record {
  from = omega arith;
  is = is ∙ ap (λ b. items ++ one_if b n) (sym passes) ∙ next_range p items n l.from l.is;
  wide = (let wide = l.wide in let from = l.from in omega arith);
}

pub listed_less : (p : ℕ → Bool) (items : List ℕ) (room n : ℕ) → AreListed p items room n → p n ≡ false → AreListed p items room (n + 1)
listed_less p items room n l fails = record {
  from = omega arith;
  is = sym (append-nil items) ∙ ap (λ b. items ++ one_if b n) (sym fails) ∙ next_range p items n l.from l.is;
  wide = (let wide = l.wide in let from = l.from in omega arith);
}

pub listed_last : (p : ℕ → Bool) (items : List ℕ) (room n : ℕ) → AreListed p items room n → n ≡ 4097 → items ≡ numbers_that p 4096
listed_last p items room n l e = l.is ∙ ap (numbers_that p) (let f : n - 1 ≡ 4096 = omega arith in f)
