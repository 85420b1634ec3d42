-- The first blocks of runs, run by run.
use Rattle.std.proofs.Common.{◌≡◌, ◌∙◌, ◌≤◌, ◌<◌, ◌-◌, ℕ, Bool, true, false, List, [], ◌∷◌, refl, sym, ap, arith}
use Rattle.std.specs.Prelude.{min, nat_le}
use Rattle.std.proofs.lemmas.Bool.Decides.{nat_tests}
use Rattle.fx_header.specs.declared.run.Run.{Run}
use Rattle.vol_parts.specs.Chains.{cut}
use Rattle.vol_parts.proofs.Cuts.{cut-none, cut-within, cut-past}

-- the first run with so many blocks, and the rest of the cut
abbrev shortened : ℕ → Run → List Run → ℕ → List Run
shortened k r rs c = record { lbn = r.lbn; count = c } ∷ cut (k - c) rs

-- the first run comes first, shortened where the blocks end in it
pub cut_first : (k : ℕ) (r : Run) (rs : List Run) → 1 ≤ k → cut k (r ∷ rs) ≡ record { lbn = r.lbn; count = min r.count k } ∷ cut (k - min r.count k) rs
cut_first k r rs some = by_test (nat_le k r.count) refl where
  by_test : (t : Bool) → nat_le k r.count ≡ t → cut k (r ∷ rs) ≡ shortened k r rs (min r.count k)
  by_test true e =
      let le : k ≤ r.count = grind (arith, nat_tests) in
      let all : min r.count k ≡ k = omega arith in
      let left : k - k ≡ 0 = omega arith in
      let behind : shortened k r rs k ≡ record { lbn = r.lbn; count = k } ∷ [] = ap (λ j. record { lbn = r.lbn; count = k } ∷ cut j rs) left ∙ ap (λ xs. record { lbn = r.lbn; count = k } ∷ xs) (cut-none rs) in
      cut-within k r rs some le ∙ sym behind ∙ ap (shortened k r rs) (sym all)
  by_test false e =
      let lt : r.count < k = grind (arith, nat_tests) in
      let all : min r.count k ≡ r.count = omega arith in
      cut-past k r rs lt ∙ ap (shortened k r rs) (sym all)
