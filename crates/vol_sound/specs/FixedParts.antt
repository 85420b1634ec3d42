-- What holds of the fixed parts of a volume in which nothing is beyond repair.
use Rattle.std.specs.Prelude.{List}
use Rattle.base_words.specs.Fields.{Block}
use Rattle.fx_home.specs.declared.home.Home.{Home}
use Rattle.fx_home.specs.Homes.{IsWithinLimits}
use Rattle.vol_parts.specs.declared.finding.Finding.{Finding}
use Rattle.vol_parts.specs.Volumes.{volume}
use Rattle.vol_sound.specs.Beyond.{IsBeyondIn}
use Rattle.vol_sound.specs.Freeing.{HasSystem}

-- where nothing is beyond repair, the system files and the storage control block are as the structure of a volume asks
abbrev pub FixedPartsAreRight : Type 0
FixedPartsAreRight = (home : Home) (bs : List Block) → IsWithinLimits home → ((f : Finding) → IsBeyondIn (volume home bs) f → ⊥) → HasSystem (volume home bs)
