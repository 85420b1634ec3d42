-- The quota file: each of its blocks has 16 rows of 32 bytes.
use Rattle.std.specs.Prelude.{◌≡◌, ◌+◌, ◌*◌, ◌%◌, ◌<◌, ◌==◌, ℕ, [], ◌∷◌, bit_and, bit_or, if◌then◌else◌, Option, Some, None}
use Rattle.base_words.specs.Fields.{Block, field, put_field}
use Rattle.base_words.specs.Tables.{Table, laid}
use Rattle.fx_quota.specs.declared.types.Row.{Row}

-- where row i begins
abbrev pub row_start : ℕ → ℕ
row_start i = 32 * i

-- the flags of a row, 4 bytes at its beginning, of which the lowest bit says that the row is active
abbrev pub flags_at : Block → ℕ → ℕ
flags_at b i = field b (row_start i) 4

-- what the fields of row i say, each of 4 bytes: the owner's UIC at 4, the usage at 8, the quota at 12, the overdraft at 16
abbrev pub row_in : Block → ℕ → Row
row_in b i = record {
  uic = field b (row_start i + 4) 4;
  usage = field b (row_start i + 8) 4;
  quota = field b (row_start i + 12) 4;
  over = field b (row_start i + 16) 4;
}

-- row i, or none where it is not active
unfoldable pub row_at : Block → ℕ → Option Row
row_at b i = if flags_at b i % 2 == 1 then Some (row_in b i) else None

-- the fields of an active row that begins at `start`
abbrev pub row_table : ℕ → ℕ → Row → Table
row_table start flags r =
    (start, 4, bit_or flags 1) ∷ (start + 4, 4, r.uic) ∷ (start + 8, 4, r.usage)
    ∷ (start + 12, 4, r.quota) ∷ (start + 16, 4, r.over) ∷ []

-- the block in which row i is active and says r
unfoldable pub row_put : Block → ℕ → Row → Block
row_put b i r = laid (row_table (row_start i) (flags_at b i) r) b

-- the block in which row i is not active
unfoldable pub row_cleared : Block → ℕ → Block
row_cleared b i = put_field b (row_start i) 4 (bit_and (flags_at b i) 0xffff_fffe)

-- row i reads like this, and each other row as before
abbrev pub IsRowPut : Block → Block → ℕ → Option Row → Type 0
IsRowPut old new i row = (j : ℕ) → j < 16 → row_at new j ≡ (if j == i then row else row_at old j)
