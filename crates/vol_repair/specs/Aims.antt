-- What holds of the blocks after each write of a repair: before they spell a catalogue, and from then on.
use Rattle.std.specs.Prelude.{List}
use Rattle.base_words.specs.Fields.{Block}
use Rattle.fx_home.specs.declared.home.Home.{Home}
use Rattle.plain_cat.specs.declared.cat.Cat.{Cat}
use Rattle.vol_parts.specs.declared.geometry.Geometry.{Geometry}
use Rattle.vol_repair.specs.Touched.{IsTouched}
use Rattle.vol_repair.specs.Alike.{TellsAlike}

pub data Aim : Type 0 where
  -- No more of the first blocks is touched than a repair may touch.
  Touching : Home → List Block → Aim
  -- The blocks spell a catalogue with these files, but for their owners and their entries.
  Telling : Geometry → Cat → Aim

abbrev pub Holds : Aim → List Block → Type 0
Holds (Touching home first) bs = IsTouched home first bs
Holds (Telling g c) bs = TellsAlike g c bs
