-- What mending leaves.
use Rattle.std.specs.Prelude.{◌≡◌, List, Result, Ok, Err, Some}
use Rattle.base_words.specs.Fields.{Block}
use Rattle.plain_cat.specs.declared.cat.Cat.{Cat}
use Rattle.plain_cat.specs.declared.history.Mended.{Mended}
use Rattle.plain_rules.specs.Mending.{mended}
use Rattle.vol_parts.specs.Findings.{Accepts, CatOf}
use Rattle.vol_rebuild.specs.declared.fault.RebuildFault.{RebuildFault}
use Rattle.vol_rebuild.specs.declared.fault.RebuildFault.TheVariants.{NotMendable, ImageFault, NoMemory}

-- the new blocks are accepted, and tell the catalogue to which that of the old ones is mended, by what was done
pub record IsRebuilt (old new : List Block) (done : Mended) : Type 0 where
  pub cat : Cat
  pub after : Cat
  pub told : CatOf old cat
  pub mends : mended cat ≡ Some (after, done)
  pub accepted : Accepts new
  pub left : CatOf new after

-- an answer that comes where a fatal finding holds: it is told, or memory ran out
abbrev pub IsRefusal : Result Mended RebuildFault → Type 0
IsRefusal (Ok done) = ⊥
IsRefusal (Err (NotMendable f)) = Unit {0}
IsRefusal (Err ImageFault) = ⊥
IsRefusal (Err NoMemory) = Unit {0}
