-- What each writer of a format makes is a whole block, and what is made of a whole block is one.
use Rattle.std.specs.Prelude.{◌≡◌, ◌+◌, ◌*◌, ◌≤◌, ◌<◌, ℕ, Bool, List, Some, None, length, IsTrue}
use Rattle.base_words.specs.Fields.{Block, IsBytes, IsWholeBlock, AreWholeBlocks, put, put_field, summed}
use Rattle.base_words.specs.Tables.{zeros}
use Rattle.base_words.specs.Packing.{size}
use Rattle.fx_quota.specs.declared.types.Row.{Row}
use Rattle.fx_quota.specs.Rows.{row_put, row_cleared}
use Rattle.fx_bitmap.specs.Bits.{bits_put}
use Rattle.fx_header.specs.declared.run.Run.{Run}
use Rattle.fx_header.specs.declared.slot.Hdr.{Hdr}
use Rattle.fx_header.specs.Pointers.{map_words}
use Rattle.fx_header.specs.Headers.{has_offsets, map_area, header_bytes, with_runs, with_map, with_blocks, with_link, with_mark, with_owner, with_end, marked, scattered, freed}
use Rattle.fx_dir.specs.declared.RawEnt.{RawEnt}
use Rattle.fx_dir.specs.declared.Move.{Move}
use Rattle.fx_dir.specs.Lists.{Each}
use Rattle.fx_dir.specs.Writing.{IsInForm, IsRanged, name_of, block_of}
use Rattle.fx_dir.specs.Moves.{insertion, removal}

-- ---- fields

-- a block of zeros
abbrev pub WholeZeros : Type 0
WholeZeros = IsWholeBlock zeros

-- bytes that are put within the block
abbrev pub WholePut : Type 0
WholePut = (b : Block) (o : ℕ) (bytes : List ℕ) → IsWholeBlock b → IsBytes bytes → o + length bytes ≤ 512 → IsWholeBlock (put b o bytes)

-- a number, of which a field takes the lowest bytes
abbrev pub WholeField : Type 0
WholeField = (b : Block) (o w n : ℕ) → IsWholeBlock b → o + w ≤ 512 → IsWholeBlock (put_field b o w n)

-- the checksum
abbrev pub WholeSummed : Type 0
WholeSummed = (b : Block) → IsWholeBlock b → IsWholeBlock (summed b)

-- ---- the quota file and the bitmaps

-- a row of a quota block
abbrev pub WholeRow : Type 0
WholeRow = (b : Block) (i : ℕ) (r : Row) → IsWholeBlock b → i < 16 → IsWholeBlock (row_put b i r)

-- a row that is not active any more
abbrev pub WholeCleared : Type 0
WholeCleared = (b : Block) (i : ℕ) → IsWholeBlock b → i < 16 → IsWholeBlock (row_cleared b i)

-- bits of a bitmap
abbrev pub WholeBits : Type 0
WholeBits = (b : Block) (from n : ℕ) (value : Bool) → IsWholeBlock (bits_put b from n value)

-- ---- headers

-- a new header, where the name is one of bytes
abbrev pub WholeHeader : Type 0
WholeHeader = (h : Hdr) (text : List ℕ) (parent : ℕ × ℕ) → IsBytes text → IsWholeBlock (header_bytes h text parent)

-- runs whose pointers have room in the map area
abbrev pub WholeRuns : Type 0
WholeRuns =
    (b : Block) (runs : List Run) → IsWholeBlock b → IsTrue (has_offsets b) → length (map_words runs) ≤ 2 * map_area b
    → IsWholeBlock (with_runs b runs)

-- the same runs alone, the blocks alone, and the next header
abbrev pub WholeMap : Type 0
WholeMap =
    (b : Block) (runs : List Run) → IsWholeBlock b → IsTrue (has_offsets b) → length (map_words runs) ≤ 2 * map_area b
    → IsWholeBlock (with_map b runs)

abbrev pub WholeBlocks : Type 0
WholeBlocks = (b : Block) (blocks : ℕ) → IsWholeBlock b → IsWholeBlock (with_blocks b blocks)

abbrev pub WholeLink : Type 0
WholeLink = (b : Block) (num seq : ℕ) → IsWholeBlock b → IsWholeBlock (with_link b num seq)

abbrev pub WholeMark : Type 0
WholeMark = (b : Block) (mark : ℕ) → IsWholeBlock b → IsWholeBlock (with_mark b mark)

abbrev pub WholeOwner : Type 0
WholeOwner = (b : Block) (owner : ℕ) → IsWholeBlock b → IsWholeBlock (with_owner b owner)

abbrev pub WholeEnd : Type 0
WholeEnd = (b : Block) (end byte : ℕ) → IsWholeBlock b → IsWholeBlock (with_end b end byte)

abbrev pub WholeMarked : Type 0
WholeMarked = (b : Block) → IsWholeBlock b → IsWholeBlock (marked b)

abbrev pub WholeScattered : Type 0
WholeScattered = (b : Block) → IsWholeBlock b → IsWholeBlock (scattered b)

-- a free slot
abbrev pub WholeFreed : Type 0
WholeFreed = (seq : ℕ) → IsWholeBlock (freed seq)

-- ---- directories

-- entries that have room in a block
abbrev pub WholeEntries : Type 0
WholeEntries = (es : List RawEnt) → Each IsInForm es → Each IsRanged es → size name_of None es ≤ 510 → IsWholeBlock (block_of es)

-- each of these moves writes a whole block
abbrev pub WriteWholeBlocks : List Move → Type 0
WriteWholeBlocks ws = Each (λ w. IsWholeBlock w.block) ws

-- an insertion into whole blocks
abbrev pub WholeInsertion : Type 0
WholeInsertion =
    (old : List Block) (e : RawEnt) (ws : List Move) → AreWholeBlocks old → IsInForm e → insertion old e ≡ Some ws → WriteWholeBlocks ws

-- a removal from whole blocks
abbrev pub WholeRemoval : Type 0
WholeRemoval = (old : List Block) (name : List ℕ) (ver : ℕ) → AreWholeBlocks old → WriteWholeBlocks (removal old name ver)
