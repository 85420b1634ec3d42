-- Runs that are merged one after the other.
use Rattle.std.proofs.Common.{◌≡◌, ◌∙◌, ◌+◌, ◌≤◌, ◌<◌, ℕ, List, [], ◌∷◌, ◌++◌, take, length, length-append, refl, sym, ap, subst, inl, inr, arith}
use Rattle.std.specs.Prelude.{flat_map}
use Rattle.std.proofs.lemmas.List.Elements.{All-head, All-tail}
use Rattle.std.proofs.lemmas.Bool.{eq-eqb, ne_eqb, cases_eq}
use Rattle.fx_header.specs.declared.run.Run.{Run}
use Rattle.std.proofs.lemmas.List.{length-take-le, append-nil}
use Rattle.fx_header.specs.Pointers.{IsRun, AreRuns, joined, merged, pointer_bytes, map_words}

-- the first of a list of runs and the others
pub first-of : (runs : List Run) (r : Run) (behind : List Run) → runs ≡ r ∷ behind → AreRuns runs → IsRun r × AreRuns behind
first-of runs r behind e all =
    let at : AreRuns (r ∷ behind) = subst AreRuns e all in
    (All-head IsRun r behind at, All-tail IsRun r behind at)

-- a run that goes on with the next takes it in
pub joined-on : (r s : Run) (others : List Run) → r.lbn + r.count ≡ s.lbn → joined r (joined s others) ≡ joined (record { lbn = r.lbn; count = r.count + s.count }) others
joined-on r s [] e = rw (eq-eqb (r.lbn + r.count) s.lbn e) refl
joined-on r s (t ∷ others) e =
    elim (cases_eq (s.lbn + s.count) t.lbn) [
      | inl touch ↦ let far : r.lbn + (r.count + s.count) ≡ t.lbn = omega arith in
          let sum : r.count + (s.count + t.count) ≡ r.count + s.count + t.count = omega arith in
          rw (eq-eqb (s.lbn + s.count) t.lbn touch, eq-eqb (r.lbn + (r.count + s.count)) t.lbn far, eq-eqb (r.lbn + r.count) s.lbn e, sum) refl
      | inr apart ↦ let far : r.lbn + (r.count + s.count) ≡ t.lbn → ⊥ = λ h. apart (omega arith) in
          rw (ne_eqb (s.lbn + s.count) t.lbn apart, ne_eqb (r.lbn + (r.count + s.count)) t.lbn far, eq-eqb (r.lbn + r.count) s.lbn e) refl
    ]

-- and else stands in front of it
pub joined-apart : (r : Run) (s : Run) (others : List Run) → (r.lbn + r.count ≡ s.lbn → ⊥) → joined r (joined s others) ≡ r ∷ joined s others
joined-apart r s [] apart = rw (ne_eqb (r.lbn + r.count) s.lbn apart) refl
joined-apart r s (t ∷ others) apart =
    elim (cases_eq (s.lbn + s.count) t.lbn) [
      | inl touch ↦ rw (eq-eqb (s.lbn + s.count) t.lbn touch, ne_eqb (r.lbn + r.count) s.lbn apart) refl
      | inr far ↦ rw (ne_eqb (s.lbn + s.count) t.lbn far, ne_eqb (r.lbn + r.count) s.lbn apart) refl
    ]

-- the pointers of what is left of a list of runs, behind those that are written
pub words-full : (room used : ℕ) (map : List ℕ) (runs left : List Run) (r : Run) (behind : List Run)
    → used ≤ length map → take used map ++ map_words left ≡ map_words runs → merged left ≡ r ∷ merged behind
    → room < used + length (pointer_bytes r) → room < length (map_words runs)
words-full room used map runs left r behind within all next full =
    let len : length (take used map) ≡ used = length-take-le used map within in
    let words : map_words left ≡ pointer_bytes r ++ map_words behind = ap (flat_map pointer_bytes) next in
    omega (arith, ap length all, length-append (take used map) (map_words left), ap length words, length-append (pointer_bytes r) (map_words behind))

pub words-done : (used : ℕ) (map : List ℕ) (runs left : List Run)
    → used ≤ length map → take used map ++ map_words left ≡ map_words runs → left ≡ []
    → (used ≡ length (map_words runs)) × (take used map ≡ map_words runs)
words-done used map runs left within all none =
    let len : length (take used map) ≡ used = length-take-le used map within in
    let words : map_words left ≡ [] = ap map_words none in
    let whole : take used map ≡ map_words runs = sym (append-nil (take used map)) ∙ ap (λ w. take used map ++ w) (sym words) ∙ all in
    (omega (arith, ap length whole), whole)
