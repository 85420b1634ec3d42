-- What the catalogue of blocks with no fatal finding has, and that of an accepted volume.
use Rattle.std.specs.Prelude.{List}
use Rattle.base_words.specs.Fields.{Block}
use Rattle.plain_cat.specs.declared.cat.Cat.{Cat}
use Rattle.plain_mends.specs.Resuming.{AreKeyed}
use Rattle.plain_mends.specs.Sound.{IsSound}
use Rattle.vol_parts.specs.Findings.{Accepts, CatOf}
use Rattle.vol_mends.specs.Weak.{CanMend}

-- the catalogue of blocks with no fatal finding can be mended, and each of its directories has a name and version once
abbrev pub WeakCanMend : Type 0
WeakCanMend = (bs : List Block) (c : Cat) → CatOf bs c → CanMend c × AreKeyed c

-- the catalogue of an accepted volume is in order
abbrev pub AcceptedIsSound : Type 0
AcceptedIsSound = (bs : List Block) (c : Cat) → Accepts bs → CatOf bs c → IsSound c
