-- The numbers of the slots of a list that pass a test: none, exactly if no slot passes.
use Rattle.std.proofs.Common.{◌≡◌, ◌∙◌, ◌+◌, ℕ, zero, suc, Bool, true, false, cond, List, [], ◌∷◌, Some, slice_get, refl, sym, ap, arith}
use Rattle.plain_cat.specs.declared.cat.Slot.{Slot}
use Rattle.plain_rules.specs.Mending.{numbers_from}

pub no_numbers : (p : ℕ → Slot → Bool) (n : ℕ) (ss : List Slot) → ((k : ℕ) (s : Slot) → slice_get ss k ≡ Some s → p (n + k) s ≡ false) → numbers_from p n ss ≡ []
no_numbers p n [] never = refl
no_numbers p n (s ∷ ss) never =
    let first : p n s ≡ false = ap (λ m. p m s) (let e : n ≡ n + 0 = omega arith in e) ∙ never 0 s refl in
    ap (λ b. cond b (n ∷ numbers_from p (n + 1) ss) (numbers_from p (n + 1) ss)) first
    ∙ no_numbers p (n + 1) ss (λ k t at. ap (λ m. p m t) (let e : n + 1 + k ≡ n + suc k = omega arith in e) ∙ never (suc k) t at)

pub none_passes : (p : ℕ → Slot → Bool) (n : ℕ) (ss : List Slot) → numbers_from p n ss ≡ [] → (k : ℕ) (s : Slot) → slice_get ss k ≡ Some s → p (n + k) s ≡ false
none_passes p n [] none k s at = absurd (cc at)
none_passes p n (x ∷ ss) none k s at = by (p n x) refl none k at (λ h j. none_passes p (n + 1) ss h j s) where
  by : (b : Bool) → p n x ≡ b → cond b (n ∷ numbers_from p (n + 1) ss) (numbers_from p (n + 1) ss) ≡ [] → (k : ℕ) → slice_get (x ∷ ss) k ≡ Some s
      → (numbers_from p (n + 1) ss ≡ [] → (j : ℕ) → slice_get ss j ≡ Some s → p (n + 1 + j) s ≡ false) → p (n + k) s ≡ false
  by true e h k at rest = absurd (cc h)
  by false e h zero at rest = let same : x ≡ s = cc at in ap (λ m. p m s) (let z : n + 0 ≡ n = omega arith in z) ∙ (ap (p n) (sym same) ∙ e)
  by false e h (suc k) at rest = ap (λ m. p m s) (let z : n + suc k ≡ n + 1 + k = omega arith in z) ∙ rest h k at
