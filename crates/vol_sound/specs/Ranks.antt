-- The first finding beyond repair, rank by rank.
use Rattle.std.specs.Prelude.{◌≡◌, ◌≤◌, ◌<◌, ◌+◌, ◌==◌, ◌&&◌, nat_le, ℕ, Bool, true, false, Option, Some, None, if◌then◌else◌}
use Rattle.fx_header.specs.declared.slot.Hdr.{Hdr}
use Rattle.vol_parts.specs.declared.finding.Finding.{Finding}
use Rattle.vol_parts.specs.declared.finding.Finding.TheVariants as finding
use Rattle.vol_parts.specs.Volumes.{Volume}
use Rattle.vol_parts.specs.Findings.{rank, subject, is_no_later}
use Rattle.vol_sound.specs.Beyond.{IsBeyondIn}

-- a finding of a header or of runs is one of a system file
abbrev pub is_of_system : Finding → Bool
is_of_system (finding.Header n fault) = nat_le n 11
is_of_system (finding.WrongNumber n) = nat_le n 11
is_of_system (finding.Runs n) = nat_le n 11
is_of_system f = false

abbrev pub only_of_system : Option Finding → Option Finding
only_of_system None = None
only_of_system (Some f) = if is_of_system f then Some f else None

-- the end of a file is after the last block of one cluster, and it has no mark
abbrev pub ends_after_cluster : ℕ → Hdr → Bool
ends_after_cluster factor f = (f.mark == 0) && ((f.end == factor + 1) && (f.byte == 0))

-- a finding beyond repair of this rank holds, and none that holds has a lower number or cluster
pub record IsLeastBeyond (v : Volume) (k : ℕ) (f : Finding) : Type 0 where
  pub rank_is : rank f ≡ k
  pub beyond : IsBeyondIn v f
  pub least : (g : Finding) → rank g ≡ k → IsBeyondIn v g → subject f ≤ subject g

-- the first finding beyond repair of a rank, or none where none holds
abbrev pub IsBeyondOf : Volume → ℕ → Option Finding → Type 0
IsBeyondOf v k None = (g : Finding) → rank g ≡ k → IsBeyondIn v g → ⊥
IsBeyondOf v k (Some f) = IsLeastBeyond v k f

-- no finding beyond repair of a rank below this one holds
abbrev pub NoneBeyond : Volume → ℕ → Type 0
NoneBeyond v k = (g : Finding) → rank g < k → IsBeyondIn v g → ⊥

-- a finding beyond repair holds, and none that holds comes before it
pub record IsFirstOfBeyond (v : Volume) (f : Finding) : Type 0 where
  pub beyond : IsBeyondIn v f
  pub first : (g : Finding) → IsBeyondIn v g → is_no_later f g ≡ true

-- the first finding beyond repair, where it was found in the ranks below this one, or none where none of those ranks holds
abbrev pub IsFoundBelow : Volume → ℕ → Option Finding → Type 0
IsFoundBelow v k None = NoneBeyond v k
IsFoundBelow v k (Some f) = IsFirstOfBeyond v f
