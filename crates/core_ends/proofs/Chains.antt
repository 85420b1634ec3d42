-- A chain of those who wait ends at one who moves.
use Rattle.std.proofs.Common.{◌≡◌, ◌⊎◌, ℕ, zero, suc, List, [], ◌∷◌, length, sym, refl, ap, subst, inl, inr, arith}

-- among these
pub data In (x : ℕ) : List ℕ → Type 0 where
  Here : {ys : List ℕ} → In x (x ∷ ys)
  There : {y : ℕ} {ys : List ℕ} → In x ys → In x (y ∷ ys)

-- the list without one that is among it
abbrev gone : (x : ℕ) (ys : List ℕ) → In x ys → List ℕ
gone x [] i = elim i [ ]
gone x (y ∷ ys) Here = ys
gone x (y ∷ ys) (There i) = y ∷ gone x ys i

shorter : (x : ℕ) (ys : List ℕ) (i : In x ys) → length ys ≡ suc (length (gone x ys i))
shorter x [] i = elim i [ ]
shorter x (y ∷ ys) Here = refl
shorter x (y ∷ ys) (There i) = ap suc (shorter x ys i)

still : (x z : ℕ) (ys : List ℕ) (i : In x ys) → In z ys → (z ≡ x) ⊎ In z (gone x ys i)
still x z [] i _ = elim i [ ]
still x z (y ∷ ys) Here Here = inl refl
still x z (y ∷ ys) Here (There k) = inr k
still x z (y ∷ ys) (There i) Here = inr Here
still x z (y ∷ ys) (There i) (There k) = elim (still x z ys i k) [ inl e ↦ inl e | inr l ↦ inr (There l) ]

module _ {A : Type 0} (Before : A → A → Type 0) (then : (a b c : A) → Before a b → Before b c → Before a c) (never : (a : A) → Before a a → ⊥)
    (Node : ℕ → Type 0) (Stuck : ℕ → A → Type 0) (one : (n : ℕ) (a b : A) → Stuck n a → Stuck n b → a ≡ b) (Moves : ℕ → Type 0)
    (held : (n : ℕ) (a : A) → Node n → Stuck n a → (m : ℕ) × Node m × (Moves m ⊎ ((b : A) × Stuck m b × Before a b))) where
  -- it was met before, at an earlier name
  abbrev Met : A → ℕ → Type 0
  Met a m = (b : A) × Stuck m b × Before b a

  -- a node that was met, or is the one that stands at a now, does not come again
  again : (n m : ℕ) (a b : A) → Stuck n a → Stuck m b → Before a b → (m ≡ n) ⊎ Met a m → ⊥
  again n m a b s t up (inl e) = let P : ℕ → Type 0 = λ k. Stuck k b in never b (subst (λ x. Before x b) (one n a b s (subst P e t)) up)
  again n m a b s t up (inr met) = never b (subst (λ x. Before x b) (one m met.0 b met.1 t) (then met.0 a b met.2 up))

  chain : (k : ℕ) (left : List ℕ) → length left ≡ k → (n : ℕ) (a : A) → Node n → Stuck n a → ((m : ℕ) → Node m → In m left ⊎ ((m ≡ n) ⊎ Met a m)) → (m : ℕ) × Moves m
  chain zero left len n a here s all = by (held n a here s) where
    by : (m : ℕ) × Node m × (Moves m ⊎ ((b : A) × Stuck m b × Before a b)) → (m : ℕ) × Moves m
    by (m, is, inl moves) = (m, moves)
    by (m, is, inr (b, t, up)) = elim (all m is) [ inl i ↦ absurd (let h = shorter m left i in omega arith) | inr met ↦ absurd (again n m a b s t up met) ]
  chain (suc k) left len n a here s all = by (chain k) (held n a here s) where
    earlier : (b : A) → Before a b → (z : ℕ) → (z ≡ n) ⊎ Met a z → Met b z
    earlier b up z (inl q) = let P : ℕ → Type 0 = λ x. Stuck x a in (a, subst P (sym q) s, up)
    earlier b up z (inr met) = (met.0, met.1, then met.0 a b met.2 up)

    by : ((l : List ℕ) → length l ≡ k → (m : ℕ) (b : A) → Node m → Stuck m b → ((z : ℕ) → Node z → In z l ⊎ ((z ≡ m) ⊎ Met b z)) → (m : ℕ) × Moves m)
        → (m : ℕ) × Node m × (Moves m ⊎ ((b : A) × Stuck m b × Before a b)) → (m : ℕ) × Moves m
    by rest (m, is, inl moves) = (m, moves)
    by rest (m, is, inr (b, t, up)) = elim (all m is) [
      | inl i ↦ rest (gone m left i) (let h = shorter m left i in omega arith) m b is t (λ z at. elim (all z at) [
        | inl j ↦ elim (still m z left i j) [ inl q ↦ inr (inl q) | inr l ↦ inl l ]
        | inr met ↦ inr (inr (earlier b up z met))
      ])
      | inr met ↦ absurd (again n m a b s t up met)
    ]

  pub somebody : (nodes : List ℕ) → ((m : ℕ) → Node m → In m nodes) → (n : ℕ) (a : A) → Node n → Stuck n a → (m : ℕ) × Moves m
  somebody nodes all n a here s = chain (length nodes) nodes refl n a here s (λ m at. inl (all m at))
