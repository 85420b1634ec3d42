-- A file that is there and no system file, as the blocks have it, and the same with other data.
use Rattle.std.specs.Prelude.{◌≡◌, ◌<◌, ◌≤◌, ◌+◌, ◌-◌, ◌*◌, ℕ, List, Some, Ok, slice_set, if◌then◌else◌}
use Rattle.base_words.specs.Fields.{Block}
use Rattle.fx_header.specs.declared.slot.Hdr.{Hdr}
use Rattle.fx_header.specs.declared.slot.Slot.TheVariants.{Used}
use Rattle.fx_header.specs.Headers.{with_mark, with_end}
use Rattle.fx_header.specs.Pointers.{lbns_in}
use Rattle.plain_cat.specs.declared.cat.Cat.{Cat}
use Rattle.plain_cat.specs.declared.cat.File.{File}
use Rattle.plain_rules.specs.Lookups.{file_at}
use Rattle.plain_rules.specs.Changes.{is_past_mark}
use Rattle.vol_parts.specs.declared.geometry.Geometry.{Geometry}
use Rattle.vol_parts.specs.Catalogues.{written_blocks}
use Rattle.vol_spell.specs.Reading.{IsFileNumber, header_block, head_told, told_of}
use Rattle.vol_spell.specs.Spread.{blocks_at}

-- the blocks of file n, in order, by what is told of it
abbrev pub blocks_told : Geometry → List Block → ℕ → List Block
blocks_told g bs n = blocks_at bs (lbns_in (told_of g bs n).runs)

-- a file that is no system file: its first header has these fields, and the catalogue has it so
pub record IsFileThere (g : Geometry) (x : Cat) (bs : List Block) (n : ℕ) (h : Hdr) (f : File) : Type 0 where
  pub number : IsFileNumber g n
  pub above : 11 < n
  pub reads : head_told (header_block g bs n) ≡ Ok (Used h)
  pub file : file_at x n ≡ Some f

-- the file with a virtual block written, its mark and its end as they were
abbrev pub showing : File → ℕ → Block → File
showing f vbn b = if is_past_mark f vbn then f else record f { written = slice_set f.written (vbn - 1) b }

-- the header of a file with the mark and the end of another
abbrev pub with_sizes : Block → File → Block
with_sizes head f = with_end (with_mark head f.mark) f.end f.byte

-- the file as f, but for its mark, its end and what shows by the mark: its blocks that are written on these blocks
pub record IsResized (g : Geometry) (bs : List Block) (n : ℕ) (h : Hdr) (f new : File) : Type 0 where
  pub same : record f { mark = new.mark; end = new.end; byte = new.byte; written = new.written } ≡ new
  pub mark : new.mark ≤ g.cluster * f.clusters + 1
  pub end : new.end ≤ g.cluster * f.clusters + 1
  pub byte : new.byte ≤ 511
  pub written : written_blocks n (record h { mark = new.mark }) (blocks_told g bs n) ≡ new.written
