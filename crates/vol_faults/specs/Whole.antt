-- What is read of a volume: its catalogue, or the first fatal finding.
use Rattle.std.specs.Prelude.{◌≡◌, ◌<◌, ℕ, true, List, Option, Some, None, Result, Ok, Err}
use Rattle.base_words.specs.Fields.{Block}
use Rattle.fx_home.specs.Homes.{home_read}
use Rattle.plain_cat.specs.declared.cat.Cat.{Cat}
use Rattle.vol_parts.specs.declared.finding.Finding.{Finding}
use Rattle.vol_parts.specs.Volumes.{Volume}
use Rattle.vol_parts.specs.Catalogues.{catalogue}
use Rattle.vol_parts.specs.Fatal.{IsFatalIn}
use Rattle.vol_parts.specs.Findings.{home_at, rank, is_no_later, IsFirstFatal, IsReadable, IsCatalogueBy}

-- no fatal finding of a rank below this one holds
abbrev pub NoneBelow : Volume → ℕ → Type 0
NoneBelow v k = (g : Finding) → rank g < k → IsFatalIn v g → ⊥

-- a finding of a rank below this one holds, and no fatal finding that holds comes before it
pub record IsFirstThere (v : Volume) (k : ℕ) (f : Finding) : Type 0 where
  pub below : rank f < k
  pub fatal : IsFatalIn v f
  pub first : (g : Finding) → IsFatalIn v g → is_no_later f g ≡ true

-- the first fatal finding, where its rank is below this one, or none where none of those ranks holds
abbrev pub IsFirstBelow : Volume → ℕ → Option Finding → Type 0
IsFirstBelow v k None = NoneBelow v k
IsFirstBelow v k (Some f) = IsFirstThere v k f

-- what is read of a volume whose home block is read: [SYSLOST] may lack room, which is rank 16
abbrev pub IsReadOf : Volume → Result Cat Finding → Type 0
IsReadOf v (Err f) = IsFirstThere v 16 f
IsReadOf v (Ok c) = NoneBelow v 16 × (c ≡ catalogue v)

-- What is read of a volume's blocks: the first fatal finding, where that is another one than that [SYSLOST] lacks room for
-- a lost file; else the catalogue.
abbrev pub IsRead : List Block → Result Cat Finding → Type 0
IsRead bs (Err f) = (rank f < 16) × IsFirstFatal bs f
IsRead bs (Ok c) = IsReadable bs × IsCatalogueBy bs (home_read (home_at bs)) c
