-- How long names are.
use Rattle.std.proofs.Common.{◌≡◌, ◌≤◌, true, ℕ, List, [], ◌∷◌, length, inl, inr, sym, subst}
use Rattle.fx_dir.specs.declared.RawEnt.{RawEnt}
use Rattle.fx_dir.specs.Lists.{Each}
use Rattle.fx_dir.specs.Entries.{same, has}
use Rattle.fx_dir.specs.Moves.{key}
use Rattle.fx_dir.specs.Writing.{IsInForm}
use Rattle.fx_dir.proofs.Order.{and_cases, or_cases, bytes_is}
use Rattle.fx_dir.proofs.Steps.{name-short}

same-name : (a b : RawEnt) → same a b ≡ true → a.name ≡ b.name
unfolding same
same-name a b h = bytes_is a.name b.name (and_cases _ _ h).0

-- a name that one of these has is as short as theirs
pub has-short : (name : List ℕ) (ver : ℕ) (es : List RawEnt) → Each IsInForm es → has es (key name ver) ≡ true → length name ≤ 79
has-short name ver [] f h = absurd (cc)
has-short name ver (e ∷ es) f h = elim (or_cases _ _ h) [
  | inl k ↦ subst (λ (t : List ℕ). length t ≤ 79) (sym (same-name (key name ver) e k)) (name-short e.name f.0.named)
  | inr k ↦ has-short name ver es f.1 k
]
