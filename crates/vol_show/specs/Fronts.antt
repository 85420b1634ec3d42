-- The records of a stream as lines of raw bytes, the good ones in front of a bad one too.
use Rattle.std.specs.Prelude.{◌≡◌, ◌++◌, ℕ, List, [], take, flat_map, Option, Some, None, Result, Ok, Err}
use Rattle.plain_texts.specs.Reports.{newline}
use Rattle.vol_records.specs.declared.types.Rec.{Rec}
use Rattle.vol_records.specs.declared.types.RecFault.{RecFault}
use Rattle.vol_records.specs.declared.types.RecFault.TheVariants.{BadCount, Truncated, NoMemory}
use Rattle.vol_records.specs.Records.{records_of, data_at, ReadsAs, HasFault}

-- a record as a line
unfoldable pub raw_line : List ℕ → Rec → List ℕ
raw_line stream r = data_at stream r ++ newline

-- the lines of records
abbrev pub raw_lines : List ℕ → Result (List Rec) RecFault → List ℕ
raw_lines stream (Ok places) = flat_map (raw_line stream) places
raw_lines stream (Err fault) = []

-- the byte of the first bad record
abbrev pub bad_at : Result (List Rec) RecFault → Option ℕ
bad_at (Ok places) = None
bad_at (Err (BadCount at)) = Some at
bad_at (Err (Truncated at)) = Some at
bad_at (Err NoMemory) = None

abbrev pub bad_record : List ℕ → Option ℕ
bad_record stream = bad_at (records_of stream)

-- what stands in front of the first bad record, if there is one
abbrev pub good_part : List ℕ → Option ℕ → List ℕ
good_part stream None = stream
good_part stream (Some at) = take at stream

-- The lines of the records of a stream, and where one is bad, of those in front of it.
abbrev pub front_text : List ℕ → List ℕ
front_text stream = raw_lines (good_part stream (bad_record stream)) (records_of (good_part stream (bad_record stream)))

-- lines, each with a line feed behind it
abbrev pub ended : List (List ℕ) → List ℕ
ended lines = flat_map (λ line. line ++ newline) lines

-- All lines come out of a stream that is their records, and all lines in front of a bad record.
pub record GoodLinesComeOut : Type 0 where
  pub sound : (stream : List ℕ) (lines : List (List ℕ)) → ReadsAs stream lines → front_text stream ≡ ended lines
  pub broken : (stream : List ℕ) (fault : RecFault) (h : HasFault 0 stream fault) → front_text stream ≡ ended h.lines
