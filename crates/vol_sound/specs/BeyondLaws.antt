-- What holds of the findings beyond repair.
use Rattle.std.specs.Prelude.{◌≡◌, List}
use Rattle.base_words.specs.Fields.{Block}
use Rattle.vol_parts.specs.declared.finding.Finding.{Finding}
use Rattle.vol_parts.specs.Findings.{IsFatal}
use Rattle.vol_sound.specs.Beyond.{IsBeyond, IsFirstBeyond}

-- each is a fatal finding
abbrev pub BeyondIsFatal : Type 0
BeyondIsFatal = (bs : List Block) (f : Finding) → IsBeyond bs f → IsFatal bs f

-- one alone is the first
abbrev pub FirstIsOne : Type 0
FirstIsOne = (bs : List Block) (f g : Finding) → IsFirstBeyond bs f → IsFirstBeyond bs g → f ≡ g
