-- The first fatal finding of one rank.
use Rattle.std.specs.Prelude.{◌≡◌, ◌≤◌, ℕ, Option, Some, None}
use Rattle.vol_parts.specs.declared.finding.Finding.{Finding}
use Rattle.vol_parts.specs.Volumes.{Volume}
use Rattle.vol_parts.specs.Fatal.{IsFatalIn}
use Rattle.vol_parts.specs.Findings.{rank, subject}

-- a fatal finding of this rank holds, and none that holds has a lower number, cluster or owner
pub record IsLeastOf (v : Volume) (k : ℕ) (f : Finding) : Type 0 where
  pub rank_is : rank f ≡ k
  pub fatal : IsFatalIn v f
  pub least : (g : Finding) → rank g ≡ k → IsFatalIn v g → subject f ≤ subject g

-- the first fatal finding of a rank that holds, or none where none holds
abbrev pub IsFirstOf : Volume → ℕ → Option Finding → Type 0
IsFirstOf v k None = (g : Finding) → rank g ≡ k → IsFatalIn v g → ⊥
IsFirstOf v k (Some f) = IsLeastOf v k f
