-- The text of records: a line for each, and their count.
use Rattle.std.specs.Prelude.{◌≡◌, ◌≤◌, ◌⊎◌, ◌==◌, ◌++◌, ◌&&◌, ◌||◌, nat_le, ℕ, Bool, true, List, [], ◌∷◌, length, map, flat_map, All, Ok, codes, decimal, if◌then◌else◌}
use Rattle.plain_texts.specs.Reports.{newline}
use Rattle.run_script.specs.Lines.{lines_of}
use Rattle.vol_records.specs.declared.types.Rec.{Rec}
use Rattle.vol_records.specs.Records.{records_of, data_at, spelt}

-- a byte as it is printed: a full stop stands for one that is no printable character of ASCII
unfoldable pub printable : ℕ → ℕ
printable b = if nat_le 32 b && nat_le b 126 then b else 46

-- the line of a record
unfoldable pub record_line : List ℕ → Rec → List ℕ
record_line stream r = map printable (data_at stream r) ++ newline

-- how many records there are
unfoldable pub count_line : ℕ → List ℕ
count_line n = decimal n ++ codes " records\n"

-- the text of the records that stand at these places of a stream
abbrev pub records_text : List ℕ → List Rec → List ℕ
records_text stream places = flat_map (record_line stream) places ++ count_line (length places)

-- ---- a text and the records of its lines

-- a byte that is printed as it is, or ends a line
abbrev pub is_plain : ℕ → Bool
is_plain b = (nat_le 32 b && nat_le b 126) || (b == 10)

-- a text whose lines all end: it is empty, or its last byte is a line feed
abbrev pub AllLinesEnd : List ℕ → Type 0
AllLinesEnd text = (text ≡ []) ⊎ ((front : List ℕ) × (text ≡ front ++ 10 ∷ []))

-- A text of such bytes and such lines, none of which is too long for a record, is what is printed of the records of its lines, in
-- front of their count.
abbrev pub PrintsBack : Type 0
PrintsBack =
    (text : List ℕ) (places : List Rec) → All (λ b. is_plain b ≡ true) text → AllLinesEnd text → All (λ l. length l ≤ 32767) (lines_of text)
    → records_of (spelt (lines_of text)) ≡ Ok places → records_text (spelt (lines_of text)) places ≡ text ++ count_line (length (lines_of text))
