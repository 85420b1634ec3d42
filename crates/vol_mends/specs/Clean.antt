-- Blocks in which nothing is left of a change of headers that was not ended.
use Rattle.std.specs.Prelude.{◌≡◌, ℕ, false, List}
use Rattle.base_words.specs.Fields.{Block}
use Rattle.base_words.specs.Lists.{Has}
use Rattle.plain_cat.specs.declared.cat.Cat.{Cat}
use Rattle.vol_parts.specs.declared.geometry.Geometry.{Geometry}
use Rattle.vol_parts.specs.Findings.{Accepts}
use Rattle.vol_spell.specs.Reading.{IsFileNumber, header_block, told_of}
use Rattle.vol_spell.specs.Spelling.{IsBlank}
use Rattle.vol_mends.specs.Told.{IsTold}

-- the header slot m is one of this file's
abbrev pub IsSlotOf : Geometry → List Block → ℕ → ℕ → Type 0
IsSlotOf g bs m n = Has (told_of g bs n).slots m

-- the header slot m is no file's
abbrev pub IsNoSlot : Geometry → List Block → ℕ → Type 0
IsNoSlot g bs m = (n : ℕ) → IsFileNumber g n → IsSlotOf g bs m n → ⊥

pub record IsClean (g : Geometry) (bs : List Block) : Type 0 where
  -- no header of a file lists or links more than the file has
  pub surplus : (n : ℕ) → IsFileNumber g n → (told_of g bs n).surplus ≡ false
  -- a header slot that is no file's is free
  pub strays : (m : ℕ) → IsFileNumber g m → IsNoSlot g bs m → IsBlank (header_block g bs m)

-- clean blocks stay clean
abbrev pub KeepsClean : Geometry → List Block → List Block → Type 0
KeepsClean g bs new = IsClean g bs → IsClean g new

-- the blocks of an accepted volume are clean
abbrev pub AcceptedIsClean : Type 0
AcceptedIsClean = (g : Geometry) (bs : List Block) (c : Cat) → IsTold g bs c → Accepts bs → IsClean g bs
