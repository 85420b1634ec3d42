-- The stream of a file of a volume: its bytes up to its end, as a user may see them.
use Rattle.std.specs.Prelude.{◌+◌, ◌*◌, ◌-◌, ◌==◌, ◌&&◌, ◌≡◌, not, min, nat_lt, nat_le, ℕ, false, List, ◌++◌, length, take, replicate, flat_map, Option, Some, None, option_map, Result, Ok, Err, if◌then◌else◌}
use Rattle.base_words.specs.Fields.{Block}
use Rattle.base_words.specs.Tables.{zeros}
use Rattle.fx_home.specs.declared.home.Home.{Home}
use Rattle.fx_home.specs.declared.home.HomeFault.{HomeFault}
use Rattle.fx_home.specs.Homes.{home_read}
use Rattle.fx_header.specs.declared.slot.Hdr.{Hdr}
use Rattle.plain_cat.specs.declared.cat.Cat.{Cat}
use Rattle.plain_cat.specs.declared.cat.File.{File}
use Rattle.plain_rules.specs.Lookups.{in_use}
use Rattle.vol_parts.specs.Volumes.{Volume, volume, fields, body}
use Rattle.vol_parts.specs.Catalogues.{is_structure}
use Rattle.vol_parts.specs.Findings.{home_at, CatOf}

-- the blocks of a file as they read: those from its mark on show zeros, and where the mark is 0 none does
unfoldable pub shown_blocks : ℕ → List Block → List Block
shown_blocks mark blocks =
    if mark == 0 then blocks else take (mark - 1) blocks ++ replicate (length blocks - (mark - 1)) zeros

-- how many of so many blocks stand before a mark
unfoldable pub blocks_below : ℕ → ℕ → ℕ
blocks_below mark count = if mark == 0 then count else min (mark - 1) count

-- how many bytes stand before the end of a file, which is in this virtual block at this byte
unfoldable pub end_at : ℕ → ℕ → ℕ
end_at end byte = if end == 0 then 0 else 512 * (end - 1) + byte

-- the bytes of blocks before an end: a block that is not there gives none
abbrev pub bytes_before : ℕ → ℕ → List Block → List ℕ
bytes_before end byte blocks = take (end_at end byte) (flat_map (λ b. b) blocks)

-- the stream of a file, by its header and its blocks
unfoldable pub stream_in : Hdr → List Block → List ℕ
stream_in f blocks = bytes_before f.end f.byte (shown_blocks f.mark blocks)

-- a file that has this sequence and is no directory
abbrev pub plain_fields : ℕ → Option Hdr → Option Hdr
plain_fields seq None = None
plain_fields seq (Some f) = if (f.seq == seq) && not f.dir then Some f else None

-- the fields of the file in use under a number and a sequence, where it is no directory
unfoldable pub plain_file : Volume → ℕ → ℕ → Option Hdr
plain_file v n seq = if nat_lt 0 n && nat_le n v.home.files then plain_fields seq (fields v n) else None

-- its stream
abbrev pub stream_of : Volume → ℕ → ℕ → Option (List ℕ)
stream_of v n seq = option_map (λ f. stream_in f (body v n)) (plain_file v n seq)

abbrev pub stream_by : List Block → Result Home HomeFault → ℕ → ℕ → Option (List ℕ)
stream_by bs (Err fault) n seq = None
stream_by bs (Ok home) n seq = stream_of (volume home bs) n seq

-- the stream of a file of these blocks; none where the home block has a fault
abbrev pub stream_at : List Block → ℕ → ℕ → Option (List ℕ)
stream_at bs n seq = stream_by bs (home_read (home_at bs)) n seq

-- ---- the same by the catalogue

abbrev pub plain_only : Option File → Option File
plain_only None = None
plain_only (Some f) = if f.dir then None else Some f

-- all blocks of a file of a catalogue, zeros behind those that count as written
abbrev pub all_blocks : ℕ → File → List Block
all_blocks factor f = f.written ++ replicate (f.clusters * factor - length f.written) zeros

-- the stream that a catalogue shows of a file
unfoldable pub shown_stream : ℕ → File → List ℕ
shown_stream factor f = bytes_before f.end f.byte (all_blocks factor f)

-- A catalogue shows the streams of a volume: of each file but those that hold the volume's own structures, by its number and
-- its sequence.
abbrev pub ShowsStreams : Type 0
ShowsStreams =
    (bs : List Block) (c : Cat) (n seq : ℕ) → CatOf bs c → is_structure n ≡ false
    → stream_at bs n seq ≡ option_map (shown_stream c.factor) (plain_only (in_use c (record { num = n; seq = seq })))
