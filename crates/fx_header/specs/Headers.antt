-- File headers: what each field of a header's block says, and the faults that a header can have.
use Rattle.std.specs.Prelude.{◌≡◌, ◌≤◌, ◌+◌, ◌-◌, ◌*◌, ◌/◌, ◌%◌, ◌^◌, ◌==◌, ◌&&◌, not, nat_le, ℕ, List, [], ◌∷◌, ◌++◌, take, drop, replicate, length, slice_index, slice_range, Bool, true, false, Result, Ok, Err, if◌then◌else◌, bit_and, bit_or, IsTrue, ⊤}
use Rattle.bitflags.specs.Sets.{without}
use Rattle.base_words.specs.Fields.{Block, field, put, put_field, summed, has_sum}
use Rattle.base_words.specs.Tables.{Table, zeros, laid}
use Rattle.fx_header.specs.declared.run.Run.{Run}
use Rattle.fx_header.specs.declared.slot.Slot.{Slot}
use Rattle.fx_header.specs.declared.slot.Slot.TheVariants.{Free, Used}
use Rattle.fx_header.specs.declared.slot.Hdr.{Hdr}
use Rattle.fx_header.specs.declared.slot.HeaderFault.{HeaderFault}
use Rattle.fx_header.specs.declared.slot.HeaderFault.TheVariants.{BadSum, BadLevel, BadOffsets, BadRvn, BadExtension, BadMap, BadEnd}
use Rattle.fx_header.specs.Pointers.{runs_of, rest_of, AreRuns, merged, map_words, blocks_in}

-- the number of four bytes whose high word stands first
abbrev pub high_first : Block → ℕ → ℕ
high_first b o = field b o 2 * 2 ^ 16 + field b (o + 2) 2

-- the file number, whose high byte stands apart
abbrev pub number_of : Block → ℕ
number_of b = slice_index b 13 * 2 ^ 16 + field b 8 2

-- the offsets of the ident, map, access control and reserved areas, in words
abbrev pub ident_offset : Block → ℕ
ident_offset b = slice_index b 0

abbrev pub map_offset : Block → ℕ
map_offset b = slice_index b 1

abbrev pub access_offset : Block → ℕ
access_offset b = slice_index b 2

abbrev pub reserved_offset : Block → ℕ
reserved_offset b = slice_index b 3

-- the words of the map area, and those of them in use
abbrev pub map_area : Block → ℕ
map_area b = access_offset b - map_offset b

abbrev pub map_in_use : Block → ℕ
map_in_use b = slice_index b 58

-- the bytes of the words in use
abbrev pub map_bytes : Block → List ℕ
map_bytes b = slice_range b (2 * map_offset b) (2 * (map_offset b + map_in_use b))

-- the runs that they spell
abbrev pub runs_in : Block → List Run
runs_in b = runs_of (map_bytes b)

-- the blocks that the file has (HIBLK), its end (EFBLK and the first free byte) and its mark (HIGHWATER)
abbrev pub blocks_of : Block → ℕ
blocks_of b = high_first b 24

abbrev pub end_of : Block → ℕ
end_of b = high_first b 28

abbrev pub byte_of : Block → ℕ
byte_of b = field b 32 2

abbrev pub mark_of : Block → ℕ
mark_of b = field b 76 4

-- which header of the file it is (SEG_NUM), and the number and the sequence number of the next one (EXT_FID)
abbrev pub segment_of : Block → ℕ
segment_of b = field b 4 2

abbrev pub link_of : Block → ℕ
link_of b = slice_index b 19 * 2 ^ 16 + field b 14 2

abbrev pub link_seq_of : Block → ℕ
link_seq_of b = field b 16 2

-- the file characteristics have all bits of the mask
abbrev pub has_flag : Block → ℕ → Bool
has_flag b mask = bit_and (field b 52 4) mask == mask

-- ---- what a reader tests, in its order

-- a slot is free where its file number is zero
unfoldable pub is_free : Block → Bool
is_free b = number_of b == 0

-- the structure level, in the high byte of its word, is 2
unfoldable pub has_level : Block → Bool
has_level b = slice_index b 7 == 2

-- the areas follow one another behind the fields and end within the block, and the map area has 154 words at least
unfoldable pub has_offsets : Block → Bool
has_offsets b =
    nat_le 40 (ident_offset b) && nat_le (ident_offset b) (map_offset b) && nat_le (map_offset b) (access_offset b)
    && nat_le (access_offset b) (reserved_offset b) && nat_le (reserved_offset b) 255 && nat_le 154 (map_area b)

-- the relative volume number is 0
unfoldable pub is_on_this_volume : Block → Bool
is_on_this_volume b = slice_index b 12 == 0

-- it is one of the 16 headers that a file may have (SEG_NUM)
unfoldable pub has_segment : Block → Bool
has_segment b = nat_le (segment_of b) 15

-- the words in use are within the map area, and the last pointer ends at the last of them
unfoldable pub has_map : Block → Bool
has_map b = nat_le (map_in_use b) (map_area b) && (length (rest_of (map_bytes b)) == 0)

-- In the first header of a file, the end of file and the mark are at most one block behind the blocks, and the first free byte is
-- at most 511. What another header has in these fields says nothing.
unfoldable pub has_end : Block → Bool
has_end b =
    if segment_of b == 0 then nat_le (end_of b) (blocks_of b + 1) && nat_le (byte_of b) 511 && nat_le (mark_of b) (blocks_of b + 1)
    else true

-- the fields that a header in use tells
unfoldable pub fields_of : Block → Hdr
fields_of b =
    record {
      num = number_of b;
      seq = field b 10 2;
      owner = field b 60 4;
      dir = has_flag b (2 ^ 13);
      marked = has_flag b (2 ^ 15);
      blocks = blocks_of b;
      mark = mark_of b;
      end = end_of b;
      byte = byte_of b;
      seg = segment_of b;
      ext = link_of b;
      ext_seq = link_seq_of b;
    }

-- What a header slot says: it is free with the sequence of its last use, or it is in use and none of the tests fails;
-- otherwise the fault is the first that fails.
unfoldable pub header_read : Block → Result Slot HeaderFault
header_read b =
    if is_free b then Ok (Free (field b 10 2))
    else if not (has_sum b) then Err BadSum
    else if not (has_level b) then Err BadLevel
    else if not (has_offsets b) then Err BadOffsets
    else if not (is_on_this_volume b) then Err BadRvn
    else if not (has_segment b) then Err BadExtension
    else if not (has_map b) then Err BadMap
    else if not (has_end b) then Err BadEnd
    else Ok (Used (fields_of b))

-- the runs of a header in use can be read
abbrev pub HasRuns : Block → Slot → Type 0
HasRuns b (Free seq) = ⊤
HasRuns b (Used h) = IsTrue (has_offsets b) × IsTrue (has_map b)

-- ---- what the writers leave

-- the rows of a number whose high word stands first
abbrev pub high_first_rows : ℕ → ℕ → Table
high_first_rows o n = (o, 2, n / 2 ^ 16) ∷ (o + 2, 2, n % 2 ^ 16) ∷ []

-- the rows of a file identifier: the number, the sequence number, volume 0, and the number's high byte
abbrev pub id_rows : ℕ → ℕ → ℕ → Table
id_rows o num seq = (o, 2, num % 2 ^ 16) ∷ (o + 2, 2, seq) ∷ (o + 4, 1, 0) ∷ (o + 5, 1, num / 2 ^ 16) ∷ []

-- the file characteristics
abbrev pub flags_of : Hdr → ℕ
flags_of h = (if h.dir then 2 ^ 13 else 0) + (if h.marked then 2 ^ 15 else 0)

-- the rows of a new header: where its areas begin, which header of the file it is, and version 1 of structure level 2
unfoldable pub area_rows : ℕ → Table
area_rows seg = (0, 1, 40) ∷ (1, 1, 100) ∷ (2, 1, 255) ∷ (3, 1, 255) ∷ (4, 2, seg) ∷ (6, 1, 1) ∷ (7, 1, 2) ∷ []

-- its blocks and its end of file
unfoldable pub size_rows : ℕ → ℕ → ℕ → Table
size_rows blocks end byte = high_first_rows 24 blocks ++ high_first_rows 28 end ++ (32, 2, byte) ∷ []

-- its characteristics, its owner, its directory and its mark
unfoldable pub owner_rows : ℕ → ℕ → ℕ × ℕ → ℕ → Table
owner_rows flags owner parent mark = (52, 4, flags) ∷ (60, 4, owner) ∷ id_rows 66 parent.0 parent.1 ++ (76, 4, mark) ∷ []

-- all of its fields; those that are not named are zero
abbrev pub new_rows : Hdr → ℕ × ℕ → Table
new_rows h parent =
    area_rows h.seg
    ++ (id_rows 8 h.num h.seq
    ++ (id_rows 14 h.ext h.ext_seq ++ (size_rows h.blocks h.end h.byte ++ owner_rows (flags_of h) h.owner parent h.mark)))

-- the first n characters of a text, filled with spaces
abbrev pub filled : ℕ → List ℕ → List ℕ
filled n text = take n text ++ replicate (n - length text) 32

-- the ident area with the name of a file: its first 20 characters, and 66 further ones behind 34 bytes
abbrev pub with_name : Block → List ℕ → Block
with_name b text = put (put b 80 (filled 20 text)) 134 (filled 66 (drop 20 text))

-- a new header
unfoldable pub header_bytes : Hdr → List ℕ → ℕ × ℕ → Block
header_bytes h text parent = summed (with_name (laid (new_rows h parent) zeros) text)

-- a free slot with this sequence number
unfoldable pub freed : ℕ → Block
freed seq = summed (put_field zeros 10 2 seq)

-- a header with other file characteristics
abbrev pub with_flags : Block → ℕ → Block
with_flags b flags = summed (put_field b 52 4 flags)

-- a header that is marked for delete
unfoldable pub marked : Block → Block
marked b = with_flags b (bit_or (field b 52 4) (2 ^ 15))

-- a header of a file that is not said to be contiguous
unfoldable pub scattered : Block → Block
scattered b = with_flags b (without 32 (field b 52 4) (2 ^ 7))

-- a header with another mark
unfoldable pub with_mark : Block → ℕ → Block
with_mark b mark = summed (put_field b 76 4 mark)

-- a header with another owner
unfoldable pub with_owner : Block → ℕ → Block
with_owner b owner = summed (put_field b 60 4 owner)

-- a header with another end of file
unfoldable pub with_end : Block → ℕ → ℕ → Block
with_end b end byte = summed (put_field (laid (high_first_rows 28 end) b) 32 2 byte)

-- a header with other words in use in its map area; those behind them stay
abbrev pub with_words : Block → List ℕ → Block
with_words b words = put_field (put b (2 * map_offset b) words) 58 1 (length words / 2)

-- a header with other runs, and their blocks
unfoldable pub with_runs : Block → List Run → Block
with_runs b runs = summed (laid (high_first_rows 24 (blocks_in runs)) (with_words b (map_words runs)))

-- a header with other runs alone: its blocks stay
unfoldable pub with_map : Block → List Run → Block
with_map b runs = summed (with_words b (map_words runs))

-- a header with other blocks alone: its runs stay
unfoldable pub with_blocks : Block → ℕ → Block
with_blocks b blocks = summed (laid (high_first_rows 24 blocks) b)

-- a header with another next header
unfoldable pub with_link : Block → ℕ → ℕ → Block
with_link b num seq = summed (laid (id_rows 14 num seq) b)

-- ---- what they leave

-- The new block has its checksum, and the tests that look at neither the runs nor the end of file answer as before. The
-- map area keeps its size.
pub record KeepsTests (old : Block) (new : Block) : Type 0 where
  pub used : is_free new ≡ is_free old
  pub sum : IsTrue (has_sum new)
  pub level : has_level new ≡ has_level old
  pub offsets : has_offsets new ≡ has_offsets old
  pub volume : is_on_this_volume new ≡ is_on_this_volume old
  pub segment : has_segment new ≡ has_segment old
  pub area : map_area new ≡ map_area old

-- runs that can be read stay
abbrev pub LeavesRuns : Block → Block → Type 0
LeavesRuns old new = IsTrue (has_offsets old) → IsTrue (has_map old) → (runs_in new ≡ runs_in old) × IsTrue (has_map new)

-- the tests of a header in use that look at neither the runs nor the end of file
pub record IsMade (b : Block) : Type 0 where
  pub used : is_free b ≡ false
  pub sum : IsTrue (has_sum b)
  pub level : IsTrue (has_level b)
  pub offsets : IsTrue (has_offsets b)
  pub volume : IsTrue (is_on_this_volume b)
  pub segment : IsTrue (has_segment b)

-- the end of file and the mark of a first header are at most one block behind its blocks
abbrev pub EndsWithin : Hdr → Type 0
EndsWithin h = h.seg ≡ 0 → (h.end ≤ h.blocks + 1) × (h.mark ≤ h.blocks + 1)

-- Runs that have room in a header's map area.
abbrev pub HasRoom : Block → List Run → Type 0
HasRoom b runs = AreRuns runs × (length (map_words runs) ≤ 2 * map_area b)

-- A new header reads as the fields that it was made of: as it is, which is without runs; with any runs that have room, which
-- leave its blocks; and with runs and their blocks, if its end lies within these.
pub record ReadsBack (b : Block) (h : Hdr) : Type 0 where
  pub empty : (header_read b ≡ Ok (Used h)) × (runs_in b ≡ [])
  pub map : (runs : List Run) → HasRoom b runs → (header_read (with_map b runs) ≡ Ok (Used h)) × (runs_in (with_map b runs) ≡ merged runs)
  pub runs :
      (runs : List Run) → HasRoom b runs → EndsWithin (record h { blocks = blocks_in runs })
      → (header_read (with_runs b runs) ≡ Ok (Used (record h { blocks = blocks_in runs }))) × (runs_in (with_runs b runs) ≡ merged runs)
