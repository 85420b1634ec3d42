-- A first header with the mark and the end of fewer blocks has the areas of a header still.
use Rattle.std.proofs.Common.{◌≡◌, ◌<◌, ◌≤◌, ◌+◌, ◌*◌, ◌^◌, ℕ, Bool, true, false, cond, arith}
use Rattle.std.specs.Prelude.{min, nat_lt, Ok}
use Rattle.std.proofs.Math.Nat.{mul-le-mul_right}
use Rattle.base_words.specs.Fields.{Block, IsWholeBlock}
use Rattle.fx_header.specs.declared.slot.Hdr.{Hdr}
use Rattle.fx_header.specs.declared.slot.Slot.TheVariants.{Used}
use Rattle.fx_header.specs.Headers.{has_offsets, header_read, with_end, with_mark}
use Rattle.fx_header.proofs.SetterLemmas.{end-reads, mark-reads, ends-told}
use Rattle.fx_header.proofs.SoundLemmas.{reads-sound}
use Rattle.vol_parts.proofs.WholeHeaders.{whole_end}
use Rattle.vol_parts.specs.declared.geometry.Geometry.{Geometry}
use Rattle.vol_parts.specs.Parts.{IsGeometry}
use Rattle.vol_spell.proofs.Heads.{used_first, first_reads, first_segment}
use Rattle.op_law.specs.Sizes.{lowered}
use Rattle.op_steps.specs.declared.seeing.FileSeen.{FileSeen}
use Rattle.op_steps.specs.Seeing.{file_seen}
use Rattle.op_extend.specs.Seeing.{CanBeCut}

-- a header in use with another end and another mark, at most one block behind the blocks, is one in use
lowered_reads : (b : Block) (h : Hdr) (end byte mark : ℕ) → IsWholeBlock b → end < 2 ^ 32 → mark < 2 ^ 32 → header_read b ≡ Ok (Used h) → end ≤ h.blocks + 1 → byte ≤ 511 → mark ≤ h.blocks + 1
    → has_offsets (with_mark (with_end b end byte) mark) ≡ true
lowered_reads b h end byte mark whole fits few reads end_in byte_in mark_in =
    let ended = end-reads b h end byte whole.long fits reads end_in byte_in in
    let marked = mark-reads (with_end b end byte) (record h { end = end; byte = byte }) mark (whole_end b end byte whole).long few ended mark_in in
    (reads-sound (with_mark (with_end b end byte) mark) (record h { end = end; byte = byte; mark = mark }) marked).offsets

byte_low : (t : Bool) (byte : ℕ) → byte ≤ 511 → cond t 0 byte ≤ 511
byte_low true byte le = omega arith
byte_low false byte le = le

pub lowered_offsets : (g : Geometry) (f : FileSeen) (k : ℕ) → IsGeometry g → CanBeCut g f k → IsWholeBlock f.head.now → has_offsets (lowered f.head.now (file_seen g f).file (g.cluster * k)) ≡ true
lowered_offsets g f k geometry can whole =
    let h : Hdr = f.fields in
    let b : Block = f.head.now in
    let told = used_first b h can.seen.readable.reads in
    let reads = first_reads b h told in
    let first : h.seg ≡ 0 = first_segment b h told in
    let ends = ends-told b h (reads-sound b h reads) in
    let end_in : h.end ≤ h.blocks + 1 = (ends.0 first).0 in
    let mark_in : h.mark ≤ h.blocks + 1 = (ends.0 first).1 in
    let byte_in : h.byte ≤ 511 = ends.1 first in
    let more = can.more in
    let few = can.seen.whole.few in
    let up : g.cluster * k ≤ 16 * k = mul-le-mul_right k geometry.cluster_to in
    let limit : g.cluster * k + 1 < 2 ^ 32 = omega arith in
    lowered_reads b h (min h.end (g.cluster * k + 1)) (cond (nat_lt (g.cluster * k + 1) h.end) 0 h.byte) (min h.mark (g.cluster * k + 1)) whole
    (omega arith) (omega arith) reads (omega arith) (byte_low (nat_lt (g.cluster * k + 1) h.end) h.byte byte_in) (omega arith)
