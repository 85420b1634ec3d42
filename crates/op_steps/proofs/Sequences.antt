-- The sequence that a header's block tells is of 16 bits.
use Rattle.std.proofs.Common.{◌<◌, ◌^◌, ℕ, Bool, true, false, cond, arith}
use Rattle.std.specs.Prelude.{not, Result, Ok, Err}
use Rattle.base_words.specs.Fields.{Block, IsBytes, field, has_sum}
use Rattle.base_words.proofs.Puts.{field-lt}
use Rattle.fx_header.specs.declared.slot.Hdr.{Hdr}
use Rattle.fx_header.specs.declared.slot.Slot.{Slot as Head}
use Rattle.fx_header.specs.declared.slot.Slot.TheVariants as head
use Rattle.fx_header.specs.declared.slot.HeaderFault.{HeaderFault}
use Rattle.fx_header.specs.declared.slot.HeaderFault.TheVariants.{BadSum, BadLevel, BadOffsets, BadRvn, BadExtension, BadMap, BadEnd}
use Rattle.fx_header.specs.Headers.{is_free, has_level, has_offsets, is_on_this_volume, has_segment, has_map, has_end, header_read, fields_of}
use Rattle.op_law.specs.Entering.{slot_seq}

-- a slot with such a sequence
abbrev IsLow : Result Head HeaderFault → Type 0
IsLow r = slot_seq r < 2 ^ 16

-- the first test that fails is a fault, which tells none
by_tests : (free sum level offsets volume segment map ends : Bool) (seq : ℕ) (h : Hdr) → seq < 2 ^ 16 → h.seq < 2 ^ 16
    → IsLow (cond free (Ok (head.Free seq)) (cond (not sum) (Err BadSum) (cond (not level) (Err BadLevel) (cond (not offsets) (Err BadOffsets) (cond (not volume) (Err BadRvn)
    (cond (not segment) (Err BadExtension) (cond (not map) (Err BadMap) (cond (not ends) (Err BadEnd) (Ok (head.Used h))))))))))
by_tests true sum level offsets volume segment map ends seq h low lt = low
by_tests false false level offsets volume segment map ends seq h low lt = omega arith
by_tests false true false offsets volume segment map ends seq h low lt = omega arith
by_tests false true true false volume segment map ends seq h low lt = omega arith
by_tests false true true true false segment map ends seq h low lt = omega arith
by_tests false true true true true false map ends seq h low lt = omega arith
by_tests false true true true true true false ends seq h low lt = omega arith
by_tests false true true true true true true false seq h low lt = omega arith
by_tests false true true true true true true true seq h low lt = lt

pub sequence_low : (b : Block) → IsBytes b → slot_seq (header_read b) < 2 ^ 16
unfolding header_read fields_of
sequence_low b bytes =
    let low : field b 10 2 < 2 ^ 16 = field-lt b 10 2 bytes in
    by_tests (is_free b) (has_sum b) (has_level b) (has_offsets b) (is_on_this_volume b) (has_segment b) (has_map b) (has_end b) (field b 10 2) (fields_of b) low low
