-- What is told of a volume that has to be accepted.
use Rattle.std.specs.Prelude.{◌≡◌, List, ◌∷◌, Option, Result, Ok, Err, slice_get}
use Rattle.base_words.specs.Fields.{Block}
use Rattle.fx_home.specs.declared.home.Home.{Home}
use Rattle.fx_home.specs.declared.home.HomeFault.{HomeFault}
use Rattle.plain_cat.specs.declared.cat.Cat.{Cat}
use Rattle.vol_parts.specs.declared.finding.Finding.{Finding}
use Rattle.vol_parts.specs.Findings.{AreWarningsBy, AreFindings, Accepts, CatOf}

-- the first of the findings that are not fatal, or none where there is none
abbrev pub IsFirstWarning : List Block → Result Home HomeFault → Option Finding → Type 0
IsFirstWarning bs read first = (fs : List Finding) × AreWarningsBy bs read fs × (first ≡ slice_get fs 0)

-- something is found in the blocks, and this is the first of it
abbrev pub IsFirstFound : List Block → Finding → Type 0
IsFirstFound bs f = (fs : List Finding) × AreFindings bs (f ∷ fs)

-- the catalogue of blocks in which nothing is found, else the first of what is found
abbrev pub IsJudged : List Block → Result Cat Finding → Type 0
IsJudged bs (Ok c) = Accepts bs × CatOf bs c
IsJudged bs (Err f) = IsFirstFound bs f
