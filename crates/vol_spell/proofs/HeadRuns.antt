-- The runs of a header stay where its mark, its end or its characteristics are written.
use Rattle.std.proofs.Common.{◌≡◌, ◌∙◌, ◌^◌, ℕ, List, length, sym, ap, arith, Ok, bit_or}
use Rattle.base_words.specs.Fields.{Block, field, put_field, summed}
use Rattle.base_words.specs.Tables.{laid}
use Rattle.base_words.proofs.Puts.{length-put_field}
use Rattle.fx_header.specs.declared.slot.Hdr.{Hdr}
use Rattle.fx_header.specs.declared.slot.Slot.TheVariants.{Used}
use Rattle.fx_header.specs.Pointers.{runs_of}
use Rattle.fx_header.specs.Headers.{runs_in, high_first_rows, header_read, with_flags, marked, scattered, with_mark, with_end}
use Rattle.fx_header.proofs.SoundLemmas.{Same, same-within, same-field_below, same-field_above, same-summed, same-same, same-map, reads-sound}
use Rattle.fx_header.proofs.SetterLemmas.{high-length, high-below, high-above}
use Rattle.base_words.proofs.Puts.{length-summed}

-- a block with the front, the count of words and the map area of another has its runs
same_runs : (n b : Block) (h : Hdr) → length n ≡ 512 → length b ≡ 512 → header_read b ≡ Ok (Used h) → Same n b 0 24 → Same n b 58 59 → Same n b 80 510 → runs_in n ≡ runs_in b
same_runs n b h long-n long-b reads front words area =
    let s = reads-sound b h reads in
    ap runs_of (same-map n b (long-n ∙ sym long-b) s.offsets s.map front words area).0

pub mark_runs : (b : Block) (h : Hdr) (mark : ℕ) → length b ≡ 512 → header_read b ≡ Ok (Used h) → runs_in (with_mark b mark) ≡ runs_in b
unfolding with_mark
mark_runs b h mark long reads =
    let m : List ℕ = put_field b 76 4 mark in
    let n : List ℕ = summed m in
    let len : length m ≡ 512 = length-put_field b 76 4 mark (omega arith) ∙ long in
    let low : Same n b 0 76 = same-same n m b 0 76 (same-summed m 0 76 len (omega arith)) (same-field_below b 76 4 mark 0 76 (omega arith) (omega arith)) in
    let area : Same n b 80 510 = same-same n m b 80 510 (same-summed m 80 510 len (omega arith)) (same-field_above b 76 4 mark 80 510 (omega arith) (omega arith)) in
    same_runs n b h (length-summed m len) long reads (same-within n b 0 76 0 24 low (omega arith) (omega arith)) (same-within n b 0 76 58 59 low (omega arith) (omega arith)) area

flags_runs : (b : Block) (h : Hdr) (flags : ℕ) → length b ≡ 512 → header_read b ≡ Ok (Used h) → runs_in (with_flags b flags) ≡ runs_in b
flags_runs b h flags long reads =
    let m : List ℕ = put_field b 52 4 flags in
    let n : List ℕ = summed m in
    let len : length m ≡ 512 = length-put_field b 52 4 flags (omega arith) ∙ long in
    let low : Same n b 0 52 = same-same n m b 0 52 (same-summed m 0 52 len (omega arith)) (same-field_below b 52 4 flags 0 52 (omega arith) (omega arith)) in
    let high : Same n b 56 510 = same-same n m b 56 510 (same-summed m 56 510 len (omega arith)) (same-field_above b 52 4 flags 56 510 (omega arith) (omega arith)) in
    same_runs n b h (length-summed m len) long reads (same-within n b 0 52 0 24 low (omega arith) (omega arith)) (same-within n b 56 510 58 59 high (omega arith) (omega arith))
    (same-within n b 56 510 80 510 high (omega arith) (omega arith))

pub marked_runs : (b : Block) (h : Hdr) → length b ≡ 512 → header_read b ≡ Ok (Used h) → runs_in (marked b) ≡ runs_in b
unfolding marked
marked_runs b h long reads = flags_runs b h (bit_or (field b 52 4) (2 ^ 15)) long reads

pub scattered_runs : (b : Block) (h : Hdr) → length b ≡ 512 → header_read b ≡ Ok (Used h) → runs_in (scattered b) ≡ runs_in b
unfolding scattered
scattered_runs b h long reads = flags_runs b h _ long reads

pub end_runs : (b : Block) (h : Hdr) (end byte : ℕ) → length b ≡ 512 → header_read b ≡ Ok (Used h) → runs_in (with_end b end byte) ≡ runs_in b
unfolding with_end
end_runs b h end byte long reads =
    let one : List ℕ = laid (high_first_rows 28 end) b in
    let m : List ℕ = put_field one 32 2 byte in
    let n : List ℕ = summed m in
    let len-one : length one ≡ 512 = high-length b 28 end (omega arith) ∙ long in
    let len : length m ≡ 512 = length-put_field one 32 2 byte (omega arith) ∙ len-one in
    let summing : Same n m 0 510 = same-summed m 0 510 len (omega arith) in
    let low : Same n b 0 28 =
    same-same n m b 0 28 (same-within n m 0 510 0 28 summing (omega arith) (omega arith))
    (same-same m one b 0 28 (same-field_below one 32 2 byte 0 28 (omega arith) (omega arith)) (high-below b 28 end 0 28 (omega arith) (omega arith))) in
    let high : Same n b 34 510 =
    same-same n m b 34 510 (same-within n m 0 510 34 510 summing (omega arith) (omega arith))
    (same-same m one b 34 510 (same-field_above one 32 2 byte 34 510 (omega arith) (omega arith)) (high-above b 28 end 34 510 (omega arith) (omega arith))) in
    same_runs n b h (length-summed m len) long reads (same-within n b 0 28 0 24 low (omega arith) (omega arith)) (same-within n b 34 510 58 59 high (omega arith) (omega arith))
    (same-within n b 34 510 80 510 high (omega arith) (omega arith))
