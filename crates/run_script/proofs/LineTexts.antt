-- The first line of a text.
use Rattle.std.proofs.Common.{◌≡◌, ◌∙◌, ◌+◌, ◌-◌, ◌<◌, ℕ, zero, suc, true, false, List, [], ◌∷◌, length, take, drop, refl, sym, ap, cond, eqb, arith}
use Rattle.std.proofs.lemmas.List.{take_rest, drop_all}
use Rattle.run_script.specs.Lines.{front, onto_line, lines_of}

-- a text with a line feed: the first line ends in front of it
lines-fed : (bytes : List ℕ) → front bytes < length bytes → lines_of bytes ≡ take (front bytes) bytes ∷ lines_of (drop (front bytes + 1) bytes)
lines-fed [] h = absurd (omega arith)
lines-fed (b ∷ bs) h =
    elim (eqb b 10) as (λ t. cond t 0 (suc (front bs)) < suc (length bs)
    → cond t ([] ∷ lines_of bs) (onto_line b (lines_of bs)) ≡ take (cond t 0 (suc (front bs))) (b ∷ bs) ∷ lines_of (drop (cond t 0 (suc (front bs)) + 1) (b ∷ bs))) [
      | true ↦ λ g. refl
      | false ↦ λ g.
          let e : suc (front bs) + 1 ≡ suc (front bs + 1) = omega arith in
          rw e (ap (onto_line b) (lines-fed bs (omega arith)))
    ] h

-- a text without one is one line
lines-last : (bytes : List ℕ) → 0 < length bytes → front bytes ≡ length bytes → lines_of bytes ≡ bytes ∷ []
lines-last [] h e = absurd (omega arith)
lines-last (b ∷ []) h e =
    elim (eqb b 10) as (λ t. cond t zero (suc zero) ≡ suc zero → cond t ([] ∷ []) ((b ∷ []) ∷ []) ≡ (b ∷ []) ∷ []) [
      | true ↦ λ (g : zero ≡ suc zero). absurd (let no_way : ⊥ = omega (arith, g) in no_way)
      | false ↦ λ g. refl
    ] e
lines-last (b ∷ c ∷ bs) h e =
    elim (eqb b 10) as (λ t. cond t 0 (suc (front (c ∷ bs))) ≡ suc (length (c ∷ bs)) → cond t ([] ∷ lines_of (c ∷ bs)) (onto_line b (lines_of (c ∷ bs))) ≡ (b ∷ c ∷ bs) ∷ []) [
      | true ↦ λ (g : zero ≡ suc (length (c ∷ bs))). absurd (let no_way : ⊥ = omega (arith, g) in no_way)
      | false ↦ λ (g : suc (front (c ∷ bs)) ≡ suc (length (c ∷ bs))). ap (onto_line b) (lines-last (c ∷ bs) (omega arith) (omega arith))
    ] e

pub last_line : (bytes : List ℕ) (end : ℕ) → 0 < length bytes → end ≡ front bytes → end ≡ length bytes → lines_of bytes ≡ bytes ∷ lines_of (take (length bytes - end) (drop end bytes))
last_line bytes end h e whole =
    rw (take_rest bytes end) (lines-last bytes h (sym e ∙ whole) ∙ ap (λ rest. bytes ∷ lines_of rest) (sym (drop_all end bytes (omega arith))))

pub fed_line : (bytes : List ℕ) (end : ℕ) → end ≡ front bytes → end < length bytes → lines_of bytes ≡ take end bytes ∷ lines_of (take (length bytes - (end + 1)) (drop (end + 1) bytes))
fed_line bytes end e h = rw (take_rest bytes (end + 1), e) (lines-fed bytes (omega arith))
