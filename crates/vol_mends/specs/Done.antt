-- Where nothing is left to mend.
use Rattle.std.specs.Prelude.{◌≡◌, ℕ, List, Some}
use Rattle.base_words.specs.Fields.{Block}
use Rattle.plain_cat.specs.declared.cat.Cat.{Cat}
use Rattle.plain_rules.specs.Mending.{mended}
use Rattle.plain_laws.specs.Clearing.{nothing_done}
use Rattle.plain_mends.specs.Waiting.{IsDone}
use Rattle.vol_parts.specs.declared.geometry.Geometry.{Geometry}
use Rattle.vol_parts.specs.Findings.{Accepts}
use Rattle.vol_spell.specs.Reading.{IsFileNumber}
use Rattle.vol_mends.specs.Mends.{Mends}
use Rattle.vol_mends.specs.Told.{IsTold, IsSingle}
use Rattle.vol_mends.specs.Clean.{IsClean}

-- Blocks that tell a catalogue in which nothing is left to mend mend to it alone, and are accepted where they are clean and no entry
-- stands in two blocks.
pub record DoneIsAccepted : Type 0 where
  pub still : (g : Geometry) (bs : List Block) (c : Cat) → IsTold g bs c → IsDone c → mended c ≡ Some (c, nothing_done)
  pub ends : (g : Geometry) (bs : List Block) (c z : Cat) → IsTold g bs c → IsDone c → Mends bs z → z ≡ c
  pub accepted : (g : Geometry) (bs : List Block) (c : Cat) → IsTold g bs c → IsDone c → IsClean g bs → ((n : ℕ) → IsFileNumber g n → IsSingle g bs n) → Accepts bs
