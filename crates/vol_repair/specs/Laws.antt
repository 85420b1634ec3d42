-- Laws of a repair, each a statement for every value that it speaks of.
use Rattle.std.specs.Prelude.{◌≡◌, ◌<◌, ℕ, Bool, true, List, Some, Ok, length, map, slice_set}
use Rattle.base_words.specs.Fields.{Block, IsWholeBlock}
use Rattle.fx_home.specs.declared.home.Home.{Home}
use Rattle.fx_home.specs.Homes.{home_read, IsWithinLimits}
use Rattle.plain_cat.specs.declared.cat.Cat.{Cat}
use Rattle.plain_cat.specs.declared.cat.File.{File}
use Rattle.plain_cat.specs.declared.cat.Slot.TheVariants.{Used}
use Rattle.plain_cat.specs.declared.history.Mended.{Mended}
use Rattle.plain_rules.specs.Mending.{mended}
use Rattle.vol_faults.specs.Conditions.{IsSize}
use Rattle.vol_parts.specs.declared.finding.Finding.{Finding}
use Rattle.vol_parts.specs.declared.geometry.Geometry.{Geometry}
use Rattle.vol_parts.specs.Volumes.{volume, IsNumber, numbers}
use Rattle.vol_parts.specs.Catalogues.{slot_of}
use Rattle.vol_parts.specs.Fatal.{IsFatalIn}
use Rattle.vol_parts.specs.Findings.{home_at}
use Rattle.vol_spell.specs.Accepting.{IsBeside}
use Rattle.vol_mends.specs.Mends.{Mends}
use Rattle.vol_sound.specs.Sound.{is_sound, is_kept}
use Rattle.vol_sound.specs.Freeing.{HasSystem, LeavesOthers}
use Rattle.vol_sound.specs.Begun.{begun, patched}
use Rattle.vol_sound.specs.Kept.{IsBegun}
use Rattle.vol_repair.specs.Touched.{IsTouchable, IsTouched, IsGround}
use Rattle.vol_repair.specs.Phases.{IsAfterDirs, IsBeforeRows, IsAfterRows, IsBeforeBits, IsAfterBits}
use Rattle.vol_repair.specs.Alike.{TellsAlike}
use Rattle.vol_repair.specs.Keeping.{NoneIsBeyond, KeepsSound}

-- a damaged volume in which nothing is beyond repair
pub record IsMendable (home : Home) (first : List Block) : Type 0 where
  pub read : home_read (home_at first) ≡ Ok home
  pub within : IsWithinLimits home
  pub size : IsSize (length first)
  pub system : HasSystem (volume home first)

-- ---- before the blocks spell a catalogue

-- a write to such a place touches no more
pub record TouchingIsEasy : Type 0 where
  pub on : (home : Home) (first : List Block) (l : ℕ) → IsWithinLimits home → HasSystem (volume home first) → IsTouchable (volume home first) l → l < length first
  pub touch : (home : Home) (first now : List Block) (l : ℕ) (b : Block) → IsWithinLimits home → HasSystem (volume home first) → IsTouched home first now → IsTouchable (volume home first) l → IsTouched home first (slice_set now l b)
  pub ground : (home : Home) (first now : List Block) (l : ℕ) (b : Block) → IsWithinLimits home → IsGround home first now → IsTouchable (volume home first) l → IsWholeBlock b → IsGround home first (slice_set now l b)

-- what is touched so keeps what was sound
abbrev pub TouchedKeeps : Type 0
TouchedKeeps = (home : Home) (first now : List Block) → IsMendable home first → IsTouched home first now → KeepsSound (volume home first) now

-- the parts of a repair, one after another, lead to blocks with which it begins
pub record PhasesLead : Type 0 where
  pub home_block : (home : Home) (first now : List Block) → IsWithinLimits home → HasSystem (volume home first) → IsTouched home first now → home_at now ≡ home_at first
  pub rows : (home : Home) (first a b : List Block) → IsWithinLimits home → LeavesOthers home first a → IsAfterDirs home first a b → IsBeforeRows home first b
  pub bits : (home : Home) (first a b c : List Block) (kept : List Bool) → IsWithinLimits home → LeavesOthers home first a → IsAfterDirs home first a b → IsAfterRows home first b c
      → kept ≡ map (is_kept (volume home first)) (numbers (volume home first)) → IsBeforeBits home first kept c
  pub begun : (home : Home) (first a b c d : List Block) → IsWithinLimits home → LeavesOthers home first a → IsAfterDirs home first a b → IsAfterRows home first b c → IsAfterBits home first c d → IsBegun home first d

-- ---- from then on

-- Where the only fatal findings are those on which the spelling does not rest, nothing is beyond repair, and each file above number 11
-- is sound.
pub record BesideIsSound : Type 0 where
  pub none : (home : Home) (bs : List Block) → home_read (home_at bs) ≡ Ok home → ((f : Finding) → IsFatalIn (volume home bs) f → IsBeside f) → NoneIsBeyond bs
  pub sound : (home : Home) (bs : List Block) (n : ℕ) (f : File) → IsWithinLimits home → ((g : Finding) → IsFatalIn (volume home bs) g → IsBeside g) → IsNumber (volume home bs) n → 11 < n
      → slot_of (volume home bs) n ≡ Used f → is_sound (volume home bs) n ≡ true

-- blocks that spell the files that the repair begins with, but for owners and entries, keep what was sound
abbrev pub AlikeKeeps : Type 0
AlikeKeeps = (home : Home) (first now : List Block) (g : Geometry) → IsMendable home first → g.cluster ≡ home.cluster → g.files ≡ home.files → TellsAlike g (begun (volume home first)) now → KeepsSound (volume home first) now

-- and so do those that mend to what the patched catalogue mends to
abbrev pub MendingKeeps : Type 0
MendingKeeps = (home : Home) (first now : List Block) (z : Cat) (done : Mended) → IsMendable home first → mended (patched (volume home first)) ≡ Some (z, done) → Mends now z → KeepsSound (volume home first) now
