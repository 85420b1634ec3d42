-- What a repair leaves, by its answer.
use Rattle.std.specs.Prelude.{◌≡◌, ℕ, List, Some, Result, Ok, Err}
use Rattle.base_words.specs.Fields.{Block}
use Rattle.fx_home.specs.declared.home.Home.{Home}
use Rattle.fx_home.specs.Homes.{home_read}
use Rattle.plain_cat.specs.declared.cat.Cat.{Cat}
use Rattle.plain_rules.specs.Mending.{mended}
use Rattle.vol_parts.specs.declared.finding.Finding.{Finding}
use Rattle.vol_parts.specs.declared.finding.Finding.TheVariants.{NoRoom as NoRoomFor}
use Rattle.vol_parts.specs.Volumes.{volume, geometry_of}
use Rattle.vol_parts.specs.Fatal.{HasNoRoom}
use Rattle.vol_parts.specs.Findings.{home_at, IsFirstFatal, Accepts, CatOf}
use Rattle.vol_sound.specs.Sound.{freed_slots}
use Rattle.vol_sound.specs.Begun.{patched}
use Rattle.vol_repair.specs.declared.fault.Repaired.{Repaired}
use Rattle.vol_repair.specs.declared.fault.RepairFault.{RepairFault}
use Rattle.vol_repair.specs.declared.fault.RepairFault.TheVariants.{NotRepairable, NoRoom, ImageFault, NoMemory}
use Rattle.vol_repair.specs.Alike.{IsSpeltAs}

-- The new blocks are accepted, and tell the catalogue to which the patched one of the old blocks is mended, by what was done. So many
-- header slots became free as were not kept and not free.
pub record IsRepaired (old new : List Block) (done : Repaired) : Type 0 where
  pub home : Home
  pub read : home_read (home_at old) ≡ Ok home
  pub after : Cat
  pub mends : mended (patched (volume home old)) ≡ Some (after, done.mended)
  pub slots : done.slots ≡ freed_slots (volume home old)
  pub accepted : Accepts new
  pub left : CatOf new after

-- In the patched catalogue a lost file that is not empty has no room, and this is the finding: so mending gives up on it. The new blocks
-- spell that catalogue, and the finding is what is found first of them.
pub record IsRoomless (old new : List Block) (f : Finding) : Type 0 where
  pub home : Home
  pub read : home_read (home_at old) ≡ Ok home
  pub number : ℕ
  pub found : f ≡ NoRoomFor number
  pub lacks : HasNoRoom (patched (volume home old)) number
  pub left : IsSpeltAs (geometry_of (volume home new)) new (patched (volume home old))
  pub first : IsFirstFatal new f

-- an answer that comes where something is beyond repair: it is told, or memory ran out
abbrev pub IsRefusal : Result Repaired RepairFault → Type 0
IsRefusal (Ok done) = ⊥
IsRefusal (Err (NotRepairable f)) = Unit {0}
IsRefusal (Err (NoRoom f)) = ⊥
IsRefusal (Err ImageFault) = ⊥
IsRefusal (Err NoMemory) = Unit {0}
