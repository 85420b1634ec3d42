-- What rows read after one of them is written.
use Rattle.std.proofs.Common.{◌≡◌, ◌≢◌, ◌∙◌, ◌+◌, ◌*◌, ◌%◌, ◌^◌, ◌<◌, ◌≤◌, ◌==◌, ℕ, true, false, List, [], ◌∷◌, length, bit_and, bit_or, if◌then◌else◌, Some, None, inl, inr, refl, sym, arith, lit<}
use Rattle.std.specs.Int.{w32}
use Rattle.std.proofs.lemmas.Bool.{eq-eqb, ne_eqb, cases_lt, cases_eq}
use Rattle.std.proofs.lemmas.Bool.Decides.{nat_tests}
use Rattle.std.proofs.lemmas.Nat.{or_lt, and_le_r}
use Rattle.std.proofs.lemmas.Nat.Bits.{bit_at_lowest, bit_at_set_same, bit_at_clear_same}
use Rattle.base_words.specs.Fields.{field}
use Rattle.base_words.specs.Tables.{Table, laid}
use Rattle.base_words.proofs.Puts.{field-put_same}
use Rattle.base_words.proofs.Tables.{rises, end_of, field-laid, field-laid_below, field-laid_above}
use Rattle.fx_quota.specs.declared.types.Row.{Row}
use Rattle.fx_quota.specs.Rows.{flags_at, row_at, row_table, row_put, row_cleared}

-- the flag of an active row, set and cleared
flag-set : (flags : ℕ) → bit_or flags 1 % 2 ≡ 1
flag-set flags = sym (bit_at_lowest (bit_or flags 1)) ∙ bit_at_set_same w32 flags 0 (lit< tt)

flag-cleared : (flags : ℕ) → bit_and flags 0xffff_fffe % 2 ≡ 0
flag-cleared flags = sym (bit_at_lowest (bit_and flags 0xffff_fffe)) ∙ bit_at_clear_same w32 flags 0 (lit< tt)

-- a row whose fields are as before reads as before
row_at-same : (a b : List ℕ) (j : ℕ) → ((p : ℕ) → 32 * j ≤ p → p ≤ 32 * j + 16 → field a p 4 ≡ field b p 4) → row_at a j ≡ row_at b j
unfolding row_at
row_at-same a b j same =
    let flags = same (32 * j) (omega arith) (omega arith) in
    let uic = same (32 * j + 4) (omega arith) (omega arith) in
    let usage = same (32 * j + 8) (omega arith) (omega arith) in
    let quota = same (32 * j + 12) (omega arith) (omega arith) in
    let over = same (32 * j + 16) (omega arith) (omega arith) in
    rw (flags, uic, usage, quota, over) refl

-- a table within one row leaves the others
row_at-other : (b : List ℕ) (i j : ℕ) (table : Table) → length b ≡ 512 → rises (32 * i) table ≡ true → end_of (32 * i) table ≤ 32 * i + 32 → j ≢ i → row_at (laid table b) j ≡ row_at b j
row_at-other b i j table l r within ne =
    row_at-same (laid table b) b j (λ p low high.
    elim (cases_lt j i) [
      | inl below ↦ field-laid_below (32 * i) table b p 4 r l (omega arith)
      | inr above ↦ field-laid_above (32 * i) table b p 4 r l (omega arith)
    ])

-- the fields of a row stand in order
pub row_table-rises : (i flags : ℕ) (r : Row) → i < 16 → rises (32 * i) (row_table (32 * i) flags r) ≡ true
row_table-rises i flags r h = grind (arith, nat_tests)

-- what a row can hold
pub record Fits (r : Row) : Type 0 where
  pub uic : r.uic < 2 ^ 32
  pub usage : r.usage < 2 ^ 32
  pub quota : r.quota < 2 ^ 32
  pub over : r.over < 2 ^ 32

row_at-put_same : (b : List ℕ) (i : ℕ) (r : Row) → length b ≡ 512 → i < 16 → flags_at b i < 2 ^ 32 → Fits r → row_at (row_put b i r) i ≡ Some r
unfolding row_at row_put
row_at-put_same b i r l h flags_fit fits =
    let start = 32 * i in
    let table = row_table start (flags_at b i) r in
    let order = row_table-rises i (flags_at b i) r h in
    let flags = field-laid start table b 0 order l (or_lt 32 (flags_at b i) 1 flags_fit (lit< tt)) in
    let uic = field-laid start table b 1 order l fits.uic in
    let usage = field-laid start table b 2 order l fits.usage in
    let quota = field-laid start table b 3 order l fits.quota in
    let over = field-laid start table b 4 order l fits.over in
    rw (flags, flag-set (flags_at b i), uic, usage, quota, over) refl

row_at-put_other : (b : List ℕ) (i j : ℕ) (r : Row) → length b ≡ 512 → i < 16 → j ≢ i → row_at (row_put b i r) j ≡ row_at b j
unfolding row_put
row_at-put_other b i j r l h ne =
    row_at-other b i j (row_table (32 * i) (flags_at b i) r) l (row_table-rises i (flags_at b i) r h) (omega arith) ne

row_at-cleared_same : (b : List ℕ) (i : ℕ) → length b ≡ 512 → i < 16 → row_at (row_cleared b i) i ≡ None
unfolding row_at row_cleared
row_at-cleared_same b i l h =
    let fits : bit_and (flags_at b i) 0xffff_fffe < 256 ^ 4 = omega (arith, and_le_r (flags_at b i) 0xffff_fffe) in
    let flags = field-put_same b (32 * i) 4 (bit_and (flags_at b i) 0xffff_fffe) (omega arith) fits in
    rw (flags, flag-cleared (flags_at b i)) refl

row_at-cleared_other : (b : List ℕ) (i j : ℕ) → length b ≡ 512 → i < 16 → j ≢ i → row_at (row_cleared b i) j ≡ row_at b j
unfolding row_cleared
row_at-cleared_other b i j l h ne =
    row_at-other b i j ((32 * i, 4, bit_and (flags_at b i) 0xffff_fffe) ∷ []) l (grind (arith, nat_tests)) (omega arith) ne

-- the row that was written reads back, and the others read as before
pub row_at-put : (b : List ℕ) (i j : ℕ) (r : Row) → length b ≡ 512 → i < 16 → flags_at b i < 2 ^ 32 → Fits r → row_at (row_put b i r) j ≡ (if j == i then Some r else row_at b j)
row_at-put b i j r l h flags_fit fits =
    elim (cases_eq j i) [
      | inl e ↦ let test : (j == i) ≡ true = eq-eqb j i e in rw (test, e) (row_at-put_same b i r l h flags_fit fits)
      | inr ne ↦ let test : (j == i) ≡ false = ne_eqb j i ne in rw test (row_at-put_other b i j r l h ne)
    ]

-- the row that was cleared is not active, and the others read as before
pub row_at-cleared : (b : List ℕ) (i j : ℕ) → length b ≡ 512 → i < 16 → row_at (row_cleared b i) j ≡ (if j == i then None else row_at b j)
row_at-cleared b i j l h =
    elim (cases_eq j i) [
      | inl e ↦ let test : (j == i) ≡ true = eq-eqb j i e in rw (test, e) (row_at-cleared_same b i l h)
      | inr ne ↦ let test : (j == i) ≡ false = ne_eqb j i ne in rw test (row_at-cleared_other b i j l h ne)
    ]
