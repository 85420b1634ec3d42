-- What the fields of a table read once they are laid into a block.
use Rattle.std.proofs.Common.{◌≡◌, ◌∙◌, ◌+◌, ◌^◌, ◌<◌, ◌≤◌, ◌&&◌, ℕ, zero, suc, Bool, true, List, [], ◌∷◌, length, nat_le, refl, arith, le_refl}
use Rattle.std.proofs.lemmas.Bool.{and_parts, leb-true}
use Rattle.byteorder.specs.Endian.{little_bytes}
use Rattle.base_words.specs.Fields.{field, put_field}
use Rattle.base_words.specs.Tables.{zeros, Table, laid}
use Rattle.base_words.proofs.Puts.{length-put_field, field-put_below, field-put_same, field-put_field_above}

-- the fields stand one behind the other, the first at this offset or behind it, and end within a block
abbrev pub rises : ℕ → Table → Bool
rises start [] = nat_le start 512
rises start ((o, w, n) ∷ table) = nat_le start o && rises (o + w) table

-- the field at a place of the table
abbrev pub row : Table → ℕ → ℕ × ℕ × ℕ
row [] i = (0, 0, 0)
row (f ∷ table) zero = f
row (f ∷ table) (suc i) = row table i

pub length-zeros : length zeros ≡ 512
unfolding zeros
length-zeros = refl

pub rises-le : (start : ℕ) (table : Table) → rises start table ≡ true → start ≤ 512
rises-le start [] r = leb-true start 512 r
rises-le start ((o, w, n) ∷ table) r =
    let parts = and_parts (nat_le start o) (rises (o + w) table) r in
    let low = leb-true start o parts.0 in
    let rest = rises-le (o + w) table parts.1 in
    omega arith

pub length-laid : (start : ℕ) (table : Table) (b : List ℕ) → rises start table ≡ true → length b ≡ 512 → length (laid table b) ≡ 512
length-laid start [] b r l = l
length-laid start ((o, w, n) ∷ table) b r l =
    let parts = and_parts (nat_le start o) (rises (o + w) table) r in
    let ends = rises-le (o + w) table parts.1 in
    length-laid (o + w) table (put_field b o w n) parts.1 (length-put_field b o w n (omega arith) ∙ l)

-- a field in front of all of them stays
pub field-laid_below : (start : ℕ) (table : Table) (b : List ℕ) (p w : ℕ) → rises start table ≡ true → length b ≡ 512 → p + w ≤ start → field (laid table b) p w ≡ field b p w
field-laid_below start [] b p w r l h = refl
field-laid_below start ((o, v, n) ∷ table) b p w r l h =
    let parts = and_parts (nat_le start o) (rises (o + v) table) r in
    let low = leb-true start o parts.0 in
    let ends = rises-le (o + v) table parts.1 in
    field-laid_below (o + v) table (put_field b o v n) p w parts.1 (length-put_field b o v n (omega arith) ∙ l) (omega arith)
    ∙ field-put_below b o (little_bytes v n) p w (omega arith) (omega arith)

-- each field of the table reads as its number, where that has no more bytes than the field
pub field-laid : (start : ℕ) (table : Table) (b : List ℕ) (i : ℕ) → rises start table ≡ true → length b ≡ 512 → (row table i).2 < 256 ^ (row table i).1 → field (laid table b) (row table i).0 (row table i).1 ≡ (row table i).2
field-laid start [] b i r l fits = refl
field-laid start ((o, w, n) ∷ table) b zero r l fits =
    let parts = and_parts (nat_le start o) (rises (o + w) table) r in
    let ends = rises-le (o + w) table parts.1 in
    field-laid_below (o + w) table (put_field b o w n) o w parts.1 (length-put_field b o w n (omega arith) ∙ l) (omega arith)
    ∙ field-put_same b o w n (omega arith) fits
field-laid start ((o, w, n) ∷ table) b (suc i) r l fits =
    let parts = and_parts (nat_le start o) (rises (o + w) table) r in
    let ends = rises-le (o + w) table parts.1 in
    field-laid (o + w) table (put_field b o w n) i parts.1 (length-put_field b o w n (omega arith) ∙ l) fits

-- where a table ends
abbrev pub end_of : ℕ → Table → ℕ
end_of start [] = start
end_of start ((o, w, n) ∷ table) = end_of (o + w) table

le-end_of : (start : ℕ) (table : Table) → rises start table ≡ true → start ≤ end_of start table
le-end_of start [] r = le_refl start
le-end_of start ((o, w, n) ∷ table) r =
    let parts = and_parts (nat_le start o) (rises (o + w) table) r in
    let low = leb-true start o parts.0 in
    let rest = le-end_of (o + w) table parts.1 in
    omega arith

-- a field behind all of them stays
pub field-laid_above : (start : ℕ) (table : Table) (b : List ℕ) (p w : ℕ) → rises start table ≡ true → length b ≡ 512 → end_of start table ≤ p → field (laid table b) p w ≡ field b p w
field-laid_above start [] b p w r l h = refl
field-laid_above start ((o, v, n) ∷ table) b p w r l h =
    let parts = and_parts (nat_le start o) (rises (o + v) table) r in
    let ends = rises-le (o + v) table parts.1 in
    let behind = le-end_of (o + v) table parts.1 in
    field-laid_above (o + v) table (put_field b o v n) p w parts.1 (length-put_field b o v n (omega arith) ∙ l) h
    ∙ field-put_field_above b o v n p w (omega arith) (omega arith)
