-- What a repair keeps of a damaged volume, wherever it stops.
use Rattle.std.specs.Prelude.{◌≡◌, ◌⊎◌, ℕ, true, false, List, None, Some, Result, Ok, Err}
use Rattle.base_words.specs.Fields.{Block}
use Rattle.base_words.specs.Lists.{Has}
use Rattle.fx_home.specs.declared.home.Home.{Home}
use Rattle.fx_home.specs.declared.home.HomeFault.{HomeFault}
use Rattle.fx_home.specs.Homes.{home_read}
use Rattle.plain_cat.specs.declared.cat.Cat.{Cat}
use Rattle.plain_cat.specs.declared.cat.File.{File}
use Rattle.plain_cat.specs.declared.cat.Slot.TheVariants.{Used}
use Rattle.plain_cat.specs.declared.history.Mended.{Mended}
use Rattle.plain_rules.specs.Lookups.{file_at}
use Rattle.plain_rules.specs.Mending.{lost, stripped, mended}
use Rattle.vol_parts.specs.declared.finding.Finding.{Finding}
use Rattle.vol_parts.specs.Volumes.{Volume, volume, IsNumber}
use Rattle.vol_parts.specs.Catalogues.{slot_of}
use Rattle.vol_parts.specs.Findings.{home_at}
use Rattle.vol_sound.specs.Sound.{is_sound}
use Rattle.vol_sound.specs.Begun.{patched}
use Rattle.vol_sound.specs.Beyond.{IsBeyond}
use Rattle.vol_repair.specs.Alike.{bare}

-- nothing of these blocks is beyond repair
abbrev pub NoneIsBeyond : List Block → Type 0
NoneIsBeyond bs = (f : Finding) → IsBeyond bs f → ⊥

-- The file of number n, which was f, is sound, and the same: its sequence, kind, clusters, mark, end, contents, and that it is not
-- marked for delete. Its owner, and the entries of a directory, may be others.
pub record IsStill (p : Volume) (n : ℕ) (f : File) : Type 0 where
  pub sound : is_sound p n ≡ true
  pub same : bare (slot_of p n) ≡ bare (Used f)

-- The one exception: in the catalogue that mending gets from the repair the file is empty and in no directory, and [SYSLOST] has no
-- room for it, so mending leaves it out.
pub record IsLeftOut (v : Volume) (n : ℕ) : Type 0 where
  pub lost : Has (lost (stripped (patched v)) true) n
  pub after : Cat
  pub done : Mended
  pub mends : mended (patched v) ≡ Some (after, done)
  pub out : file_at after n ≡ None

-- Nothing is beyond repair, and each file that was sound and not marked for delete is so still, or left out. The home block says the
-- same of clusters and numbers.
pub record KeepsSound (v : Volume) (now : List Block) : Type 0 where
  pub home : Home
  pub read : home_read (home_at now) ≡ Ok home
  pub cluster : home.cluster ≡ v.home.cluster
  pub numbers : home.files ≡ v.home.files
  pub none : NoneIsBeyond now
  pub files : (n : ℕ) (f : File) → IsNumber v n → is_sound v n ≡ true → slot_of v n ≡ Used f → f.marked ≡ false → IsStill (volume home now) n f ⊎ IsLeftOut v n

abbrev pub KeepsBy : Result Home HomeFault → List Block → List Block → Type 0
KeepsBy (Ok home) first now = KeepsSound (volume home first) now
KeepsBy (Err fault) first now = Unit {0}

-- so it is, if nothing of the first blocks is beyond repair
abbrev pub Keeps : List Block → List Block → Type 0
Keeps first now = NoneIsBeyond first → KeepsBy (home_read (home_at first)) first now
