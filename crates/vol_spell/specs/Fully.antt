-- What is read of a volume: its catalogue, or the first of all fatal findings.
use Rattle.std.specs.Prelude.{List, Option, Some, None, Result, Ok, Err}
use Rattle.base_words.specs.Fields.{Block}
use Rattle.plain_cat.specs.declared.cat.Cat.{Cat}
use Rattle.vol_parts.specs.declared.finding.Finding.{Finding}
use Rattle.vol_parts.specs.Findings.{IsFatal, IsFirstFatal, CatOf}

-- the catalogue that the blocks tell where no fatal finding holds, else the first fatal finding
abbrev pub IsReadFully : List Block → Result Cat Finding → Type 0
IsReadFully bs (Err f) = IsFirstFatal bs f
IsReadFully bs (Ok c) = CatOf bs c

-- the catalogue that the blocks tell, or none where a fatal finding holds
abbrev pub IsCatOrNone : List Block → Option Cat → Type 0
IsCatOrNone bs (Some c) = CatOf bs c
IsCatOrNone bs None = (f : Finding) × IsFatal bs f
