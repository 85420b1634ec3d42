-- The records of a file of a volume: whether it has them, and what is printed of them.
use Rattle.std.specs.Prelude.{◌≡◌, ℕ, List, Some, Result, Ok, Err}
use Rattle.base_words.specs.Fields.{Block}
use Rattle.vol_records.specs.declared.types.Rec.{Rec}
use Rattle.vol_records.specs.declared.types.RecFault.{RecFault}
use Rattle.vol_records.specs.declared.types.RecFault.TheVariants as fault
use Rattle.vol_records.specs.Records.{records_of}
use Rattle.vol_records.specs.Streams.{stream_at}
use Rattle.vol_records.specs.Texts.{records_text}

-- the file of this number and sequence is in use and no directory, and its stream is records, which stand at these places
pub record HasRecords (n seq : ℕ) (bs : List Block) : Type 0 where
  pub stream : List ℕ
  pub there : stream_at bs n seq ≡ Some stream
  pub places : List Rec
  pub read : records_of stream ≡ Ok places

-- the text of the records of the file
pub record IsRecordsText (n seq : ℕ) (bs : List Block) (text : List ℕ) : Type 0 where
  pub records : HasRecords n seq bs
  pub written : text ≡ records_text records.stream records.places

-- of a stream that is not records: at this byte its first bad record begins
abbrev pub IsBadAt : ℕ → Result (List Rec) RecFault → Type 0
IsBadAt at (Ok places) = ⊥
IsBadAt at (Err (fault.BadCount byte)) = at ≡ byte
IsBadAt at (Err (fault.Truncated byte)) = at ≡ byte
IsBadAt at (Err fault.NoMemory) = ⊥

-- there is such a file, and its stream is not records: this is the byte at which the first bad one begins
pub record HasBadRecord (n seq : ℕ) (bs : List Block) (at : ℕ) : Type 0 where
  pub stream : List ℕ
  pub there : stream_at bs n seq ≡ Some stream
  pub bad : IsBadAt at (records_of stream)
