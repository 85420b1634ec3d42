-- Variable-length records in a stream of bytes. A record is a count of two bytes, the lowest first, so many bytes of data, and
-- one byte of padding where the count is odd. A count is at most 32,767.
use Rattle.std.specs.Prelude.{◌≡◌, ◌↔◌, ◌+◌, ◌%◌, ◌≤◌, ◌<◌, ◌⊎◌, ◌==◌, ℕ, zero, suc, nat_lt, List, [], ◌∷◌, ◌++◌, length, map, take, drop, flat_map, replicate, All, Result, Ok, Err, IsOkAnd, if◌then◌else◌}
use Rattle.byteorder.specs.Endian.{little_number, little_bytes}
use Rattle.vol_records.specs.declared.types.Rec.{Rec}
use Rattle.vol_records.specs.declared.types.RecFault.{RecFault}
use Rattle.vol_records.specs.declared.types.RecFault.TheVariants.{BadCount, Truncated, NoMemory}

-- how many bytes a record with so many bytes of data takes
abbrev pub room_of : ℕ → ℕ
room_of count = 2 + count + count % 2

-- The record at the front of what is left of a stream from byte `at` on, or its fault. A bad count comes before an end within
-- data or padding.
unfoldable pub front_record : ℕ → List ℕ → Result Rec RecFault
front_record at left =
    let count = little_number 2 left in
    if nat_lt (length left) 2 then Err (Truncated at)
    else if nat_lt 32767 count then Err (BadCount at)
    else if nat_lt (length left) (room_of count) then Err (Truncated at)
    else Ok (record { from = at + 2; len = count })

-- records in front of others
abbrev pub in_front : List Rec → Result (List Rec) RecFault → Result (List Rec) RecFault
in_front rs (Ok others) = Ok (rs ++ others)
in_front rs (Err fault) = Err fault

-- a record, and then those behind it; a fault stands for all
abbrev pub and_behind : Result Rec RecFault → (Rec → Result (List Rec) RecFault) → Result (List Rec) RecFault
and_behind (Ok r) behind = in_front (r ∷ []) (behind r)
and_behind (Err fault) behind = Err fault

-- the records, `most` at most, of what is left of a stream from byte `at` on: none where nothing is left, and else the record at
-- its front and the records of the rest
unfoldable pub records_from : ℕ → ℕ → List ℕ → Result (List Rec) RecFault
records_from zero at left = Ok []
records_from (suc most) at left =
    if length left == 0 then Ok []
    else and_behind (front_record at left) (λ r. records_from most (at + room_of r.len) (drop (room_of r.len) left))

-- the records of a stream, of which there are no more than bytes, or the first fault
unfoldable pub records_of : List ℕ → Result (List Rec) RecFault
records_of stream = records_from (length stream) 0 stream

-- the data of a record
abbrev pub data_at : List ℕ → Rec → List ℕ
data_at stream r = take r.len (drop r.from stream)

-- a line as a record: its length as the count, its bytes, and a zero where the length is odd
unfoldable pub spelt_line : List ℕ → List ℕ
spelt_line line = little_bytes 2 (length line) ++ (line ++ replicate (length line % 2) 0)

-- the stream of lines
unfoldable pub spelt : List (List ℕ) → List ℕ
spelt lines = flat_map spelt_line lines

-- a stream reads without a fault, and the data of its records are these lines
abbrev pub ReadsAs : List ℕ → List (List ℕ) → Type 0
ReadsAs stream lines = IsOkAnd (records_of stream) (λ places. map (data_at stream) places ≡ lines)

-- what is spelt reads as the lines
abbrev pub ReadsBack : Type 0
ReadsBack = (lines : List (List ℕ)) → All (λ line. length line ≤ 32767) lines → ReadsAs (spelt lines) lines

-- a stream begins with the record of this line: two bytes that say its length, its bytes, and any one byte of padding where the
-- length is odd; and `rest` is behind it
pub record BeginsWith (line stream rest : List ℕ) : Type 0 where
  pub count : List ℕ
  pub padding : List ℕ
  pub two_bytes : length count ≡ 2
  pub says_length : little_number 2 count ≡ length line
  pub even : length padding ≡ length line % 2
  pub in_order : stream ≡ count ++ (line ++ (padding ++ rest))

-- a stream is the records of these lines, one behind the other, and nothing else
abbrev pub AreRecordsOf : List (List ℕ) → List ℕ → Type 0
AreRecordsOf [] stream = stream ≡ []
AreRecordsOf (line ∷ lines) stream = (rest : List ℕ) × (BeginsWith line stream rest × AreRecordsOf lines rest)

-- a stream reads as exactly those lines of which it is the records, whatever the padding
abbrev pub ReadsExactly : Type 0
ReadsExactly =
    (stream : List ℕ) (lines : List (List ℕ))
    → ReadsAs stream lines ↔ (All (λ line. length line ≤ 32767) lines × AreRecordsOf lines stream)

-- What is left of a stream from byte `at` on begins with no record, and this is why: a whole count is too large, or the end
-- comes within the count, or behind a count that is good, within the data or the padding.
abbrev pub IsFaultAt : ℕ → List ℕ → RecFault → Type 0
IsFaultAt at left (BadCount byte) = (byte ≡ at) × ((2 ≤ length left) × (32767 < little_number 2 left))
IsFaultAt at left (Truncated byte) =
    (byte ≡ at) × ((0 < length left) × ((length left < 2) ⊎ ((little_number 2 left ≤ 32767) × (length left < room_of (little_number 2 left)))))
IsFaultAt at left NoMemory = ⊥

-- a stream is some records, and behind them comes this fault
pub record HasFault (at : ℕ) (stream : List ℕ) (fault : RecFault) : Type 0 where
  pub lines : List (List ℕ)
  pub front : List ℕ
  pub left : List ℕ
  pub in_order : stream ≡ front ++ left
  pub short : All (λ line. length line ≤ 32767) lines
  pub records : AreRecordsOf lines front
  pub here : IsFaultAt (at + length front) left fault

-- a stream has a fault exactly where what stands before it is records, and the fault says what is wrong at its byte
abbrev pub FaultsAreFirst : Type 0
FaultsAreFirst = (stream : List ℕ) (fault : RecFault) → (records_of stream ≡ Err fault) ↔ HasFault 0 stream fault

-- the lines that stand at these places
abbrev pub lines_at : List ℕ → List Rec → List (List ℕ)
lines_at bytes places = map (data_at bytes) places

-- each place is within the bytes and no longer than a count can tell, and the stream of the lines there has this length
pub record AreLines (bytes : List ℕ) (places : List Rec) (len : ℕ) : Type 0 where
  pub inside : All (λ r. r.from + r.len ≤ length bytes) places
  pub short : All (λ r. r.len ≤ 32767) places
  pub spelt_len : length (spelt (lines_at bytes places)) ≡ len
