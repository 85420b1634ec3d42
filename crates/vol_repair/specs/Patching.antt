-- What the parts of a repair hand on to one another.
use Rattle.std.specs.Prelude.{◌≡◌, ℕ, List, Some, Ok, length}
use Rattle.base_words.specs.Fields.{Block, AreWholeBlocks}
use Rattle.fx_home.specs.declared.home.Home.{Home}
use Rattle.fx_home.specs.Homes.{home_read, IsWithinLimits}
use Rattle.plain_cat.specs.declared.cat.Cat.{Cat}
use Rattle.plain_cat.specs.declared.history.Mended.{Mended}
use Rattle.plain_rules.specs.Mending.{mended}
use Rattle.vol_faults.specs.Conditions.{IsSize}
use Rattle.vol_parts.specs.declared.finding.Finding.{Finding}
use Rattle.vol_parts.specs.declared.finding.Finding.TheVariants.{NoRoom}
use Rattle.vol_parts.specs.Volumes.{Volume, volume, geometry_of}
use Rattle.vol_parts.specs.Catalogues.{catalogue}
use Rattle.vol_parts.specs.Fatal.{IsFatalIn, HasNoRoom}
use Rattle.vol_parts.specs.Findings.{home_at, IsFirstFatal, Accepts, CatOf}
use Rattle.vol_spell.specs.Accepting.{IsBeside}
use Rattle.vol_sound.specs.Begun.{begun, patched}
use Rattle.vol_repair.specs.Alike.{IsSpeltAs}
use Rattle.vol_repair.specs.Laws.{IsMendable}

-- the whole blocks of a volume with this home block, in which no fatal finding holds on which the spelling of a catalogue rests
pub record IsSpellable (home : Home) (bs : List Block) : Type 0 where
  pub read : home_read (home_at bs) ≡ Ok home
  pub within : IsWithinLimits home
  pub size : IsSize (length bs)
  pub whole : AreWholeBlocks bs
  pub findings : (f : Finding) → IsFatalIn (volume home bs) f → IsBeside f

-- they tell the catalogue that a repair of the first blocks begins with
pub record IsReady (home : Home) (first now : List Block) : Type 0 where
  pub spellable : IsSpellable home now
  pub told : catalogue (volume home now) ≡ begun (volume home first)

-- nothing was beyond repair in the first blocks, and the blocks spell the catalogue that mending is to get
pub record IsPatched (home : Home) (first now : List Block) : Type 0 where
  pub mendable : IsMendable home first
  pub left : IsSpeltAs (geometry_of (volume home now)) now (patched (volume home first))

-- the catalogue that mending is to get of blocks in which nothing is beyond repair
pub record IsPatchedCat (bs : List Block) (c : Cat) : Type 0 where
  pub home : Home
  pub mendable : IsMendable home bs
  pub same : c ≡ patched (volume home bs)

-- the blocks are accepted, and tell what mending gets from the patched catalogue of a volume
pub record IsFinished (v : Volume) (new : List Block) (done : Mended) : Type 0 where
  pub after : Cat
  pub mends : mended (patched v) ≡ Some (after, done)
  pub accepted : Accepts new
  pub left : CatOf new after

-- nothing was written, and what is found first is that a lost file that is not empty has no room in the patched catalogue
pub record IsStuck (v : Volume) (old new : List Block) (f : Finding) : Type 0 where
  pub number : ℕ
  pub found : f ≡ NoRoom number
  pub lacks : HasNoRoom (patched v) number
  pub same : new ≡ old
  pub first : IsFirstFatal new f
