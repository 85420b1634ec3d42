-- The findings that repair cannot mend: those of the home block, of the storage control block, and of the system files,
-- numbers 1 to 11, in which the fixed parts of a volume lie.
use Rattle.std.specs.Prelude.{◌≡◌, ◌≤◌, ◌⊎◌, ℕ, true, List, Option, Some, None, Result, Ok, Err}
use Rattle.base_words.specs.Fields.{Block}
use Rattle.fx_home.specs.declared.home.Home.{Home}
use Rattle.fx_home.specs.declared.home.HomeFault.{HomeFault}
use Rattle.fx_home.specs.Homes.{home_read}
use Rattle.vol_parts.specs.declared.finding.Finding.{Finding}
use Rattle.vol_parts.specs.declared.finding.Finding.TheVariants as finding
use Rattle.vol_parts.specs.Volumes.{Volume, volume}
use Rattle.vol_parts.specs.Fatal.{IsShared, IsFatalIn}
use Rattle.vol_parts.specs.Findings.{home_at, is_no_later}

-- a cluster is in two runs of system files
pub record IsSharedBySystem (v : Volume) (q : ℕ) : Type 0 where
  pub shared : IsShared v q
  pub one : shared.n ≤ 11
  pub other : shared.m ≤ 11

-- a finding is one of the fixed parts; of directories, their size alone
abbrev pub IsOfFixedParts : Volume → Finding → Type 0
IsOfFixedParts v (finding.Home fault) = Unit {0}
IsOfFixedParts v (finding.Header n fault) = n ≤ 11
IsOfFixedParts v (finding.WrongNumber n) = n ≤ 11
IsOfFixedParts v (finding.SystemFile n) = Unit {0}
IsOfFixedParts v (finding.Scb fault) = Unit {0}
IsOfFixedParts v (finding.Runs n) = n ≤ 11
IsOfFixedParts v (finding.SharedCluster q) = IsSharedBySystem v q
IsOfFixedParts v (finding.DirSize n) = (n ≡ 4) ⊎ (n ≡ 11)
IsOfFixedParts v f = ⊥

-- a fatal finding of a volume whose home block is read is beyond repair
pub record IsBeyondIn (v : Volume) (f : Finding) : Type 0 where
  pub fatal : IsFatalIn v f
  pub fixed : IsOfFixedParts v f

abbrev pub IsBeyondBy : List Block → Result Home HomeFault → Finding → Type 0
IsBeyondBy bs (Err fault) f = f ≡ finding.Home fault
IsBeyondBy bs (Ok home) f = IsBeyondIn (volume home bs) f

-- a finding beyond repair holds: that of the home block, or, where that is read, one of the fixed parts
abbrev pub IsBeyond : List Block → Finding → Type 0
IsBeyond bs f = IsBeyondBy bs (home_read (home_at bs)) f

-- the first finding beyond repair, in the order in which fatal findings are looked for
pub record IsFirstBeyond (bs : List Block) (f : Finding) : Type 0 where
  pub beyond : IsBeyond bs f
  pub first : (g : Finding) → IsBeyond bs g → is_no_later f g ≡ true

-- what is found beyond repair: the first such finding, or none where none holds
abbrev pub IsFoundBeyond : List Block → Option Finding → Type 0
IsFoundBeyond bs None = (f : Finding) → IsBeyond bs f → ⊥
IsFoundBeyond bs (Some f) = IsFirstBeyond bs f
