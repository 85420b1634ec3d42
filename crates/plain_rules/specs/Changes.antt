-- How a command changes a catalogue, part by part.
use Rattle.std.specs.Prelude.{◌==◌, ◌&&◌, ◌-◌, ◌+◌, ◌*◌, ◌/◌, not, nat_lt, nat_le, min, ℕ, Bool, true, false, List, [], ◌∷◌, ◌++◌, Option, take, map, replicate, slice_set, slice_index_or, if◌then◌else◌}
use Rattle.base_words.specs.Fields.{Block, put}
use Rattle.base_words.specs.Tables.{zeros}
use Rattle.plain_cat.specs.declared.ids.Fid.{Fid}
use Rattle.plain_cat.specs.declared.ids.Uic.{Uic}
use Rattle.plain_cat.specs.declared.entries.DirEnt.{DirEnt}
use Rattle.plain_cat.specs.declared.cat.Cat.{Cat}
use Rattle.plain_cat.specs.declared.cat.File.{File}
use Rattle.plain_cat.specs.declared.cat.Slot.{Slot}
use Rattle.plain_cat.specs.declared.cat.Slot.TheVariants.{Used, Free}
use Rattle.plain_cat.specs.declared.cat.Open.{Open}
use Rattle.plain_cat.specs.declared.cat.QuotaRow.{QuotaRow}
use Rattle.plain_rules.specs.Lookups.{slot_at, last_seq, place}

-- blocks rounded up to clusters
abbrev pub in_clusters : Cat → ℕ → ℕ
in_clusters c blocks = (blocks + (c.factor - 1)) / c.factor

-- the allocated blocks of a file
abbrev pub blocks_of : Cat → File → ℕ
blocks_of c f = c.factor * f.clusters

-- what so many clusters of a file cost its owner: their blocks, and one for the file
abbrev pub cost : Cat → ℕ → ℕ
cost c clusters = c.factor * clusters + 1

abbrev pub with_slot : Cat → ℕ → Slot → Cat
with_slot c n s = record c { files = slice_set c.files (n - 1) s }

abbrev pub with_file : Cat → ℕ → File → Cat
with_file c n f = with_slot c n (Used f)

-- the file of this number is gone, and the number keeps its last sequence
abbrev pub freed : Cat → ℕ → File → Cat
freed c n f = with_slot c n (Free f.seq)

-- the directory of this number has these entries
abbrev pub with_entries : Cat → ℕ → File → List DirEnt → Cat
with_entries c n d es = with_file c n (record d { entries = es })

abbrev pub raised : Uic → ℕ → QuotaRow → QuotaRow
raised owner k r = if r.owner.0 == owner.0 then record r { usage = r.usage + k } else r

abbrev pub lowered : Uic → ℕ → QuotaRow → QuotaRow
lowered owner k r = if r.owner.0 == owner.0 then record r { usage = r.usage - k } else r

-- the usage of an owner is k more
abbrev pub charged : Cat → Uic → ℕ → Cat
charged c owner k = record c { quota = map (raised owner k) c.quota }

-- the usage of an owner is k less
abbrev pub discharged : Cat → Uic → ℕ → Cat
discharged c owner k = record c { quota = map (lowered owner k) c.quota }

-- the sequence after this one
abbrev pub next_seq : ℕ → ℕ
next_seq seq = if seq == 65535 then 1 else seq + 1

-- the identifier of a new file of this number
abbrev pub new_fid : Cat → ℕ → Fid
new_fid c n = record { num = n; seq = next_seq (last_seq (slot_at c n)) }

-- a new file, with nothing written
abbrev pub new_file : ℕ → Uic → ℕ → File
new_file seq owner clusters =
    record { seq = seq; owner = owner; dir = false; clusters = clusters; mark = 1; end = 1; byte = 0; marked = false; written = []; entries = [] }

-- a new directory of one cluster, which ends after its last block
abbrev pub new_dir : ℕ → Uic → ℕ → File
new_dir seq owner factor =
    record { seq = seq; owner = owner; dir = true; clusters = 1; mark = 0; end = factor + 1; byte = 0; marked = false; written = []; entries = [] }

-- A file with k clusters more. Where it had no mark, the blocks that it had stay written.
abbrev pub grown : Cat → File → ℕ → File
grown c f k = record f { clusters = f.clusters + k; mark = if f.mark == 0 then blocks_of c f + 1 else f.mark }

-- A file cut to k clusters. A mark or an end past them comes down to the block after them.
abbrev pub cut : Cat → File → ℕ → File
cut c f k = record f {
  clusters = k;
  mark = min f.mark (c.factor * k + 1);
  end = min f.end (c.factor * k + 1);
  byte = if nat_lt (c.factor * k + 1) f.end then 0 else f.byte;
  written = take (c.factor * k) f.written;
}

-- the block at or above a mark has not been written
abbrev pub is_past_mark : File → ℕ → Bool
is_past_mark f vbn = not (f.mark == 0) && nat_le f.mark vbn

-- what is read of a virtual block
abbrev pub block_of : File → ℕ → Block
block_of f vbn = if is_past_mark f vbn then zeros else slice_index_or f.written (vbn - 1) zeros

-- a text, and zeros after it
abbrev pub text_block : List ℕ → Block
text_block text = put zeros 0 text

-- the visible blocks after a write: those from the mark on are zeros up to it
abbrev pub with_block : File → ℕ → Block → List Block
with_block f vbn b =
    if is_past_mark f vbn then f.written ++ (replicate (vbn - f.mark) zeros ++ b ∷ []) else slice_set f.written (vbn - 1) b

-- the end comes after a block that is written at or past it
abbrev pub ended : File → ℕ → File
ended f vbn = if nat_le f.end vbn then record f { end = vbn + 1; byte = 0 } else f

-- the mark comes after a block that is written at or past it
abbrev pub marked_up : File → ℕ → File
marked_up f vbn = if is_past_mark f vbn then record f { mark = vbn + 1 } else f

-- the file with a virtual block written
abbrev pub written : File → ℕ → List ℕ → File
written f vbn text = record (ended (marked_up f vbn) vbn) { written = with_block f vbn (text_block text) }

-- what a node's channel has open
abbrev pub with_channel : Cat → ℕ → ℕ → Option Open → Cat
with_channel c node chan o = record c { opens = slice_set c.opens (place node chan) o }

-- the rows with one more, in order of owner
abbrev pub with_row : QuotaRow → List QuotaRow → List QuotaRow
with_row row [] = row ∷ []
with_row row (r ∷ rs) = if nat_lt row.owner.0 r.owner.0 then row ∷ r ∷ rs else r ∷ with_row row rs

-- a row with another quota and overdraft
abbrev pub allowed : Uic → ℕ → ℕ → QuotaRow → QuotaRow
allowed owner quota over r = if r.owner.0 == owner.0 then record r { quota = quota; over = over } else r
