-- The write by which the slot of a file becomes free.
use Rattle.std.specs.Prelude.{◌≡◌, ◌<◌, ℕ, true, false, List, [], Some, Ok, length, slice_set}
use Rattle.base_words.specs.Fields.{Block, IsWholeBlock}
use Rattle.fx_header.specs.declared.slot.Slot.TheVariants.{Free}
use Rattle.fx_header.specs.Headers.{header_read}
use Rattle.plain_cat.specs.declared.cat.Cat.{Cat}
use Rattle.plain_cat.specs.declared.cat.File.{File}
use Rattle.plain_rules.specs.Lookups.{file_at}
use Rattle.plain_rules.specs.Mending.{lost, is_gone}
use Rattle.plain_mends.specs.Resuming.{leaving}
use Rattle.plain_mends.specs.Waiting.{Settled, AreFull}
use Rattle.vol_parts.specs.declared.geometry.Geometry.{Geometry}
use Rattle.vol_parts.specs.Catalogues.{flagged}
use Rattle.vol_spell.specs.Reading.{header_place, told_of}
use Rattle.vol_mends.specs.Told.{IsTold, LeadsTo, KeepsSingles}

-- a file that is gone, where no lost file can be entered, and a block for its slot that says it is free with the same sequence
pub record CanBeFreed (g : Geometry) (bs : List Block) (c : Cat) (n : ℕ) (f : File) (b : Block) : Type 0 where
  pub told : IsTold g bs c
  pub settled : Settled c
  pub entered : lost c false ≡ []
  pub full : AreFull c (lost c true)
  pub file : file_at c n ≡ Some f
  pub gone : is_gone c n f ≡ true
  pub whole : IsWholeBlock b
  pub free : header_read b ≡ Ok (Free f.seq)

-- the catalogue once the first header of file n is free: its clusters are leaked, and so are the numbers of its header slots
abbrev pub leaving_slots : Cat → ℕ → File → List ℕ → Cat
leaving_slots c n f slots = record (leaving c n f) { leaked_numbers = flagged slots c.leaked_numbers }

-- with it the file is gone, and its clusters and the numbers of all of its headers are leaked
pub record SlotIsFreed : Type 0 where
  pub leads : (g : Geometry) (bs : List Block) (c : Cat) (n : ℕ) (f : File) (b : Block) → CanBeFreed g bs c n f b
      → LeadsTo g bs c (leaving_slots c n f (told_of g bs n).slots) (slice_set bs (header_place g n) b)
  pub singles : (g : Geometry) (bs : List Block) (c : Cat) (n : ℕ) (f : File) (b : Block) → CanBeFreed g bs c n f b → KeepsSingles g bs (slice_set bs (header_place g n) b)
  pub within : (g : Geometry) (bs : List Block) (c : Cat) (n : ℕ) (f : File) (b : Block) → CanBeFreed g bs c n f b → header_place g n < length bs
