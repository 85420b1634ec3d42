-- The writes by which mending cuts the last header of a file, and frees a header slot that is no file's.
use Rattle.std.specs.Prelude.{◌≡◌, ◌≢◌, ◌<◌, ℕ, true, false, List, Ok, length, slice_set}
use Rattle.base_words.specs.Fields.{Block, IsWholeBlock}
use Rattle.fx_header.specs.declared.slot.Hdr.{Hdr}
use Rattle.fx_header.specs.declared.slot.Slot.TheVariants.{Free, Used}
use Rattle.fx_header.specs.Headers.{header_read, runs_in}
use Rattle.fx_header.specs.Pointers.{merged}
use Rattle.plain_cat.specs.declared.cat.Cat.{Cat}
use Rattle.vol_parts.specs.declared.geometry.Geometry.{Geometry}
use Rattle.vol_parts.specs.Chains.{cut, most_headers}
use Rattle.vol_spell.specs.Reading.{IsFileNumber, header_place, header_block, headers_at, head_told, told_of}
use Rattle.vol_spell.specs.Spelling.{IsBlank}
use Rattle.vol_mends.specs.Told.{IsTold, LeadsTo, KeepsSingles}
use Rattle.vol_mends.specs.Clean.{IsNoSlot}
use Rattle.vol_mends.specs.Surplus.{unlinked, EndsAt}

-- the header f is in use in the slot m, which is no file's
pub record IsStray (g : Geometry) (bs : List Block) (m : ℕ) (f : Hdr) : Type 0 where
  pub number : IsFileNumber g m
  pub used : header_read (header_block g bs m) ≡ Ok (Used f)
  pub none : IsNoSlot g bs m

-- such a header, and a block for its slot that says it is free with the same sequence
pub record IsForStray (g : Geometry) (bs : List Block) (c : Cat) (m : ℕ) (f : Hdr) (b : Block) : Type 0 where
  pub told : IsTold g bs c
  pub stray : IsStray g bs m f
  pub whole : IsWholeBlock b
  pub free : header_read b ≡ Ok (Free f.seq)

-- The blocks after it: the slot is free, the other slots stay, and what is told of each file stays.
pub record IsStrayFreed (g : Geometry) (bs : List Block) (c : Cat) (m : ℕ) (new : List Block) : Type 0 where
  pub leads : LeadsTo g bs c c new
  pub singles : KeepsSingles g bs new
  pub blank : IsBlank (header_block g new m)
  pub others : (i : ℕ) → i ≢ m → header_block g new i ≡ header_block g bs i
  pub files : (n : ℕ) → IsFileNumber g n → told_of g new n ≡ told_of g bs n

-- with it the header is no more in use, and the catalogue stays
pub record StrayIsFreed : Type 0 where
  pub leads : (g : Geometry) (bs : List Block) (c : Cat) (m : ℕ) (f : Hdr) (b : Block) → IsForStray g bs c m f b → IsStrayFreed g bs c m (slice_set bs (header_place g m) b)
  pub within : (g : Geometry) (bs : List Block) (c : Cat) (m : ℕ) → IsTold g bs c → IsFileNumber g m → header_place g m < length bs

-- The file n, no system file, has the first header f and surplus, and its last `rest` blocks lie in the slot m, whose header is x; and
-- a block for this slot lists these blocks alone, with adjacent runs merged, and has no link.
pub record IsForSurplus (g : Geometry) (bs : List Block) (c : Cat) (n : ℕ) (f : Hdr) (m : ℕ) (x : Hdr) (rest : ℕ) (b : Block) : Type 0 where
  pub told : IsTold g bs c
  pub number : IsFileNumber g n
  pub above : 11 < n
  pub first : head_told (header_block g bs n) ≡ Ok (Used f)
  pub surplus : (told_of g bs n).surplus ≡ true
  pub ends : EndsAt (headers_at g bs) most_headers n f f.blocks m x rest
  pub whole : IsWholeBlock b
  pub reads : header_read b ≡ Ok (Used (unlinked x))
  pub runs : runs_in b ≡ merged (cut rest (runs_in (header_block g bs m)))

-- The blocks after it: nothing is listed behind the file, which keeps its slots, and of each other file the same is told.
pub record IsSurplusCut (g : Geometry) (bs : List Block) (c : Cat) (n : ℕ) (new : List Block) : Type 0 where
  pub leads : LeadsTo g bs c c new
  pub singles : KeepsSingles g bs new
  pub surplus : (told_of g new n).surplus ≡ false
  pub slots : (told_of g new n).slots ≡ (told_of g bs n).slots
  pub others : (i : ℕ) → IsFileNumber g i → i ≢ n → told_of g new i ≡ told_of g bs i

-- with it the file has no surplus, and the catalogue stays
abbrev pub SurplusIsCut : Type 0
SurplusIsCut = (g : Geometry) (bs : List Block) (c : Cat) (n : ℕ) (f : Hdr) (m : ℕ) (x : Hdr) (rest : ℕ) (b : Block) → IsForSurplus g bs c n f m x rest b → IsSurplusCut g bs c n (slice_set bs (header_place g m) b)
