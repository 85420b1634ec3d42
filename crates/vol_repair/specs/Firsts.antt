-- That of any blocks it is settled what is beyond repair.
use Rattle.std.specs.Prelude.{List, Option}
use Rattle.base_words.specs.Fields.{Block}
use Rattle.vol_parts.specs.declared.finding.Finding.{Finding}
use Rattle.vol_sound.specs.Beyond.{IsFoundBeyond}

-- there is a first finding beyond repair, or there is none
abbrev pub FirstBeyondIsThere : Type 0
FirstBeyondIsThere = (bs : List Block) → (first : Option Finding) × IsFoundBeyond bs first
