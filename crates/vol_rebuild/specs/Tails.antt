-- The header slots while files lose their surplus, file by file, and then those that are no file's become free, one by one.
use Rattle.std.specs.Prelude.{◌≡◌, ◌≢◌, ℕ, false, List, Option, Some, None}
use Rattle.base_words.specs.Fields.{Block}
use Rattle.fx_header.specs.declared.slot.Hdr.{Hdr}
use Rattle.plain_cat.specs.declared.cat.Cat.{Cat}
use Rattle.vol_parts.specs.declared.geometry.Geometry.{Geometry}
use Rattle.vol_spell.specs.Reading.{IsFileNumber, header_block, told_of}
use Rattle.vol_spell.specs.Spelling.{IsBlank}
use Rattle.vol_mends.specs.Told.{IsTold, KeepsSingles}
use Rattle.vol_mends.specs.Clean.{IsNoSlot, IsClean}
use Rattle.vol_parts.specs.Chains.{Headers}
use Rattle.vol_mends.specs.Surplus.{EndsAt}
use Rattle.vol_mends.specs.Tails.{IsForSurplus}
use Rattle.vol_rebuild.specs.declared.surplus.CutHeader.{CutHeader}

-- ---- surplus

-- no header of this file lists or links more than the file has
abbrev pub HasNoSurplus : Geometry → List Block → ℕ → Type 0
HasNoSurplus g bs n = (told_of g bs n).surplus ≡ false

-- nor does one of another file
abbrev pub NoneHasSurplus : Geometry → List Block → Type 0
NoneHasSurplus g bs = (n : ℕ) → IsFileNumber g n → HasNoSurplus g bs n

-- Of so many blocks from the slot n on, whose header is f, along the links, the last `rest` ones lie in the slot m, whose header is x;
-- k slots at most.
pub record IsLast (h : Headers) (k n : ℕ) (f : Hdr) (left m : ℕ) (x : Hdr) (rest : ℕ) : Type 0 where
  pub ends : EndsAt h k n f left m x rest

-- a block for the slot of the last header of the file n, without the surplus that the file has; none where it has none
abbrev pub IsCutFor : Geometry → List Block → Cat → ℕ → Option CutHeader → Type 0
IsCutFor g bs c n None = HasNoSurplus g bs n
IsCutFor g bs c n (Some cut) = (f : Hdr) × (x : Hdr) × (rest : ℕ) × IsForSurplus g bs c n f cut.slot x rest cut.block

-- the file n has no surplus, and the other files are as before
pub record IsFileCut (g : Geometry) (c : Cat) (old new : List Block) (n : ℕ) : Type 0 where
  pub told : IsTold g new c
  pub singles : KeepsSingles g old new
  pub cut : HasNoSurplus g new n
  pub others : (i : ℕ) → IsFileNumber g i → i ≢ n → told_of g new i ≡ told_of g old i

-- no file has surplus
pub record AreFilesCut (g : Geometry) (c : Cat) (old new : List Block) : Type 0 where
  pub told : IsTold g new c
  pub singles : KeepsSingles g old new
  pub cut : NoneHasSurplus g new

-- ---- strays

-- the same is told of each file
abbrev pub AreFilesKept : Geometry → List Block → List Block → Type 0
AreFilesKept g old new = (n : ℕ) → IsFileNumber g n → told_of g new n ≡ told_of g old n

-- the slot n is a file's or free, and the other slots are as before
pub record IsSlotClear (g : Geometry) (c : Cat) (old new : List Block) (n : ℕ) : Type 0 where
  pub told : IsTold g new c
  pub singles : KeepsSingles g old new
  pub files : AreFilesKept g old new
  pub clear : IsNoSlot g old n → IsBlank (header_block g new n)
  pub others : (i : ℕ) → i ≢ n → header_block g new i ≡ header_block g old i

-- no header lists more than its file has, and each slot that is no file's is free
pub record AreTailsClear (g : Geometry) (c : Cat) (old new : List Block) : Type 0 where
  pub told : IsTold g new c
  pub singles : KeepsSingles g old new
  pub clean : IsClean g new
