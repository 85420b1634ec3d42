-- Writes within a block keep it whole.
use Rattle.std.proofs.Common.{◌≡◌, ◌∙◌, ◌+◌, ◌++◌, ℕ, true, [], ◌∷◌, take, drop, length, nat_le, arith, lit<}
use Rattle.std.proofs.lemmas.Bool.{and_parts}
use Rattle.byteorder.specs.Endian.{little_bytes}
use Rattle.byteorder.specs.Numbers.{length-bytes_low_first}
use Rattle.base_words.specs.Fields.{Block, IsWholeBlock, put_field, checksum, summed}
use Rattle.base_words.specs.Tables.{zeros, Table, laid}
use Rattle.base_words.proofs.Puts.{length-put}
use Rattle.base_words.proofs.Tables.{rises, rises-le, length-zeros}
use Rattle.vol_parts.specs.Laws.{WholeZeros, WholePut, WholeField, WholeSummed}
use Rattle.vol_parts.proofs.Bytes.{bytes-append, bytes-take, bytes-drop, bytes-replicate, bytes-little}

pub whole_zeros : WholeZeros
unfolding zeros
whole_zeros = record { long = length-zeros; bytes = bytes-replicate 512 0 (lit< tt) }

pub whole_put : WholePut
whole_put b o bytes whole are fits =
    let long = whole.long in
    record {
      long = length-put b o bytes (omega arith) ∙ whole.long;
      bytes = bytes-append (take o b) (bytes ++ drop (o + length bytes) b) (bytes-take o b whole.bytes)
          (bytes-append bytes (drop (o + length bytes) b) are (bytes-drop (o + length bytes) b whole.bytes));
    }

pub whole_field : WholeField
whole_field b o w n whole fits =
    let len = length-bytes_low_first 0 w n in
    whole_put b o (little_bytes w n) whole (bytes-little w n) (omega arith)

pub whole_summed : WholeSummed
unfolding summed
whole_summed b whole = whole_field b 510 2 (checksum b 255) whole (omega arith)

-- the fields of a table, which stand one behind the other and end within the block
pub whole-laid : (start : ℕ) (table : Table) (b : Block) → rises start table ≡ true → IsWholeBlock b → IsWholeBlock (laid table b)
whole-laid start [] b r whole = whole
whole-laid start ((o, w, n) ∷ table) b r whole =
    let parts = and_parts (nat_le start o) (rises (o + w) table) r in
    let ends = rises-le (o + w) table parts.1 in
    whole-laid (o + w) table (put_field b o w n) parts.1 (whole_field b o w n whole ends)
