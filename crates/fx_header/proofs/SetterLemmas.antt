-- What a header tells after one of its fields was written.
use Rattle.std.proofs.Common.{◌≡◌, ◌∙◌, ◌+◌, ◌-◌, ◌/◌, ◌%◌, ◌^◌, ◌<◌, ◌≤◌, ◌==◌, ℕ, List, length, Bool, true, refl, sym, ap, arith, lit<, bit_and, bit_or, Ok}
use Rattle.std.proofs.lemmas.Nat.{or_lt, and_le_l, and_assoc, and_or_self, and_or_apart}
use Rattle.byteorder.specs.Endian.{little_bytes}
use Rattle.bitflags.specs.Sets.{without}
use Rattle.base_words.specs.Fields.{IsBytes, field, put_field, summed}
use Rattle.base_words.specs.Tables.{laid}
use Rattle.base_words.proofs.Puts.{length-put_field, length-summed, field-put_same, field-put_below, field-lt}
use Rattle.fx_header.specs.declared.slot.Hdr.{Hdr}
use Rattle.fx_header.specs.declared.slot.Slot.TheVariants.{Used}
use Rattle.fx_header.specs.Headers.{number_of, high_first, has_flag, blocks_of, end_of, byte_of, mark_of, segment_of, link_of, link_seq_of, has_end, fields_of, high_first_rows, header_read, EndsWithin, with_flags, marked, scattered, with_mark, with_end}
use Rattle.base_words.specs.Fields.{has_sum}
use Rattle.fx_header.proofs.SoundLemmas.{Sound, Ends, Same, same-front, same-field, same-byte, same-within, same-field_below, same-field_above, same-summed, same-same, sum-true, same-map, sound-reads, reads-sound, ends-of, ends-true}

-- the fields of a header, one by one
pub record Tells (b : List ℕ) (h : Hdr) : Type 0 where
  pub num : number_of b ≡ h.num
  pub seq : field b 10 2 ≡ h.seq
  pub owner : field b 60 4 ≡ h.owner
  pub dir : has_flag b (2 ^ 13) ≡ h.dir
  pub marked : has_flag b (2 ^ 15) ≡ h.marked
  pub blocks : blocks_of b ≡ h.blocks
  pub mark : mark_of b ≡ h.mark
  pub end : end_of b ≡ h.end
  pub byte : byte_of b ≡ h.byte
  pub seg : segment_of b ≡ h.seg
  pub ext : link_of b ≡ h.ext
  pub ext_seq : link_seq_of b ≡ h.ext_seq

pub tells-of : (b : List ℕ) (h : Hdr) → fields_of b ≡ h → Tells b h
unfolding fields_of
tells-of b h e = record {
  num = ap (λ g. g.num) e;
  seq = ap (λ g. g.seq) e;
  owner = ap (λ g. g.owner) e;
  dir = ap (λ g. g.dir) e;
  marked = ap (λ g. g.marked) e;
  blocks = ap (λ g. g.blocks) e;
  mark = ap (λ g. g.mark) e;
  end = ap (λ g. g.end) e;
  byte = ap (λ g. g.byte) e;
  seg = ap (λ g. g.seg) e;
  ext = ap (λ g. g.ext) e;
  ext_seq = ap (λ g. g.ext_seq) e;
}

pub tells-fields : (b : List ℕ) (h : Hdr) → Tells b h → fields_of b ≡ h
unfolding fields_of
tells-fields b h t = rw (t.num, t.seq, t.owner, t.dir, t.marked, t.blocks, t.mark, t.end, t.byte, t.seg, t.ext, t.ext_seq) refl

-- the first free byte of a first header lies in its block
abbrev pub ByteWithin : Hdr → Type 0
ByteWithin h = h.seg ≡ 0 → h.byte ≤ 511

-- what a sound header says of its ends, and that these fields pass the test
pub ends-told : (b : List ℕ) (h : Hdr) → Sound b h → EndsWithin h × ByteWithin h
ends-told b h s =
    let t = tells-of b h s.fields in
    let ends : (first : h.seg ≡ 0) → Ends b = λ first. ends-of b (t.seg ∙ first) s.ends in (
      λ first. (omega (arith, (ends first).end, t.end, t.blocks), omega (arith, (ends first).mark, t.mark, t.blocks)),
      λ first. omega (arith, (ends first).byte, t.byte),
    )

pub told-ends : (b : List ℕ) (h : Hdr) → Tells b h → EndsWithin h → ByteWithin h → has_end b ≡ true
told-ends b h t within byte =
    ends-true b (λ first.
    let seg : h.seg ≡ 0 = sym t.seg ∙ first in
    record {
      end = omega (arith, (within seg).0, t.end, t.blocks);
      byte = omega (arith, byte seg, t.byte);
      mark = omega (arith, (within seg).1, t.mark, t.blocks);
    })

-- a header of which a field between the front and the map area was written, and no byte of its map
still-sound : (n b : List ℕ) (h g : Hdr) → length n ≡ 512 → length b ≡ 512 → Sound b h → Same n b 0 28 → Same n b 58 59 → Same n b 80 510
    → has_sum n ≡ true → Tells n g → EndsWithin g → ByteWithin g → Sound n g
still-sound n b h g long-n long-b s low words area sum tells within byte =
    let front : Same n b 0 24 = same-within n b 0 28 0 24 low (omega arith) (omega arith) in
    let f = same-front n b front in
    let m = same-map n b (long-n ∙ sym long-b) s.offsets s.map front words area in
    record {
      used = f.used ∙ s.used;
      sum = sum;
      level = f.level ∙ s.level;
      offsets = f.offsets ∙ s.offsets;
      volume = f.volume ∙ s.volume;
      segment = f.segment ∙ s.segment;
      map = m.1;
      ends = told-ends n g tells within byte;
      fields = tells-fields n g tells;
    }

mark-sound : (b : List ℕ) (h : Hdr) (mark : ℕ) → length b ≡ 512 → mark < 2 ^ 32 → mark ≤ h.blocks + 1 → Sound b h → Sound (with_mark b mark) (record h { mark = mark })
unfolding with_mark
mark-sound b h mark long fits limit s =
    let m : List ℕ = put_field b 76 4 mark in
    let n : List ℕ = summed m in
    let len : length m ≡ 512 = length-put_field b 76 4 mark (omega arith) ∙ long in
    let low : Same n b 0 76 = same-same n m b 0 76 (same-summed m 0 76 len (omega arith)) (same-field_below b 76 4 mark 0 76 (omega arith) (omega arith)) in
    let area : Same n b 80 510 = same-same n m b 80 510 (same-summed m 80 510 len (omega arith)) (same-field_above b 76 4 mark 80 510 (omega arith) (omega arith)) in
    let t = tells-of b h s.fields in
    let e = ends-told b h s in
    let kept : (p w : ℕ) → p + w ≤ 76 → field n p w ≡ field b p w = λ p w h. same-field n b 0 76 p w low (omega arith) (omega arith) in
    let number : number_of n ≡ number_of b = rw (same-byte n b 0 76 13 low (omega arith) (omega arith), kept 8 2 (omega arith)) refl in
    let flags : field n 52 4 ≡ field b 52 4 = kept 52 4 (omega arith) in
    let written : field n 76 4 ≡ mark = same-field n m 0 510 76 4 (same-summed m 0 510 len (omega arith)) (omega arith) (omega arith) ∙ field-put_same b 76 4 mark (omega arith) (omega arith) in
    still-sound n b h (record h { mark = mark }) (length-summed m len) long s
    (same-within n b 0 76 0 28 low (omega arith) (omega arith)) (same-within n b 0 76 58 59 low (omega arith) (omega arith)) area (sum-true m len)
    (record {
      num = number ∙ t.num;
      seq = kept 10 2 (omega arith) ∙ t.seq;
      owner = kept 60 4 (omega arith) ∙ t.owner;
      dir = rw flags t.dir;
      marked = rw flags t.marked;
      blocks = rw (kept 24 2 (omega arith), kept 26 2 (omega arith)) t.blocks;
      mark = written;
      end = rw (kept 28 2 (omega arith), kept 30 2 (omega arith)) t.end;
      byte = kept 32 2 (omega arith) ∙ t.byte;
      seg = kept 4 2 (omega arith) ∙ t.seg;
      ext = rw (same-byte n b 0 76 19 low (omega arith) (omega arith), kept 14 2 (omega arith)) t.ext;
      ext_seq = kept 16 2 (omega arith) ∙ t.ext_seq;
    })
    (λ first. ((e.0 first).0, limit)) e.1

-- a header with other characteristics
flags-sound : (b : List ℕ) (h : Hdr) (flags : ℕ) (dir mark : Bool) → length b ≡ 512 → flags < 256 ^ 4
    → (bit_and flags (2 ^ 13) == 2 ^ 13) ≡ dir → (bit_and flags (2 ^ 15) == 2 ^ 15) ≡ mark → Sound b h → Sound (with_flags b flags) (record h { dir = dir; marked = mark })
flags-sound b h flags dir mark long fits is_dir is_marked s =
    let m : List ℕ = put_field b 52 4 flags in
    let n : List ℕ = summed m in
    let len : length m ≡ 512 = length-put_field b 52 4 flags (omega arith) ∙ long in
    let low : Same n b 0 52 = same-same n m b 0 52 (same-summed m 0 52 len (omega arith)) (same-field_below b 52 4 flags 0 52 (omega arith) (omega arith)) in
    let high : Same n b 56 510 = same-same n m b 56 510 (same-summed m 56 510 len (omega arith)) (same-field_above b 52 4 flags 56 510 (omega arith) (omega arith)) in
    let t = tells-of b h s.fields in
    let e = ends-told b h s in
    let below : (p w : ℕ) → p + w ≤ 52 → field n p w ≡ field b p w = λ p w h. same-field n b 0 52 p w low (omega arith) (omega arith) in
    let above : (p w : ℕ) → 56 ≤ p → p + w ≤ 510 → field n p w ≡ field b p w = λ p w h l. same-field n b 56 510 p w high (omega arith) (omega arith) in
    let written : field n 52 4 ≡ flags = same-field n m 0 510 52 4 (same-summed m 0 510 len (omega arith)) (omega arith) (omega arith) ∙ field-put_same b 52 4 flags (omega arith) fits in
    still-sound n b h (record h { dir = dir; marked = mark }) (length-summed m len) long s
    (same-within n b 0 52 0 28 low (omega arith) (omega arith)) (same-within n b 56 510 58 59 high (omega arith) (omega arith))
    (same-within n b 56 510 80 510 high (omega arith) (omega arith)) (sum-true m len)
    (record {
      num = rw (same-byte n b 0 52 13 low (omega arith) (omega arith), below 8 2 (omega arith)) t.num;
      seq = below 10 2 (omega arith) ∙ t.seq;
      owner = above 60 4 (omega arith) (omega arith) ∙ t.owner;
      dir = rw written is_dir;
      marked = rw written is_marked;
      blocks = rw (below 24 2 (omega arith), below 26 2 (omega arith)) t.blocks;
      mark = above 76 4 (omega arith) (omega arith) ∙ t.mark;
      end = rw (below 28 2 (omega arith), below 30 2 (omega arith)) t.end;
      byte = below 32 2 (omega arith) ∙ t.byte;
      seg = below 4 2 (omega arith) ∙ t.seg;
      ext = rw (same-byte n b 0 52 19 low (omega arith) (omega arith), below 14 2 (omega arith)) t.ext;
      ext_seq = below 16 2 (omega arith) ∙ t.ext_seq;
    })
    e.0 e.1

marked-sound : (b : List ℕ) (h : Hdr) → length b ≡ 512 → IsBytes b → Sound b h → Sound (marked b) (record h { marked = true })
unfolding marked
marked-sound b h long small s =
    let flags : ℕ = bit_or (field b 52 4) (2 ^ 15) in
    let t = tells-of b h s.fields in
    let fits : flags < 256 ^ 4 = or_lt 32 (field b 52 4) (2 ^ 15) (field-lt b 52 4 small) (lit< tt) in
    let set : bit_and flags (2 ^ 15) ≡ 2 ^ 15 = and_or_self (2 ^ 15) (field b 52 4) in
    let kept : bit_and flags (2 ^ 13) ≡ bit_and (field b 52 4) (2 ^ 13) = and_or_apart (2 ^ 13) (field b 52 4) (2 ^ 15) refl in
    flags-sound b h flags h.dir true long fits (rw kept t.dir) (rw set refl) s

scattered-sound : (b : List ℕ) (h : Hdr) → length b ≡ 512 → IsBytes b → Sound b h → Sound (scattered b) h
unfolding scattered
scattered-sound b h long small s =
    let flags : ℕ = without 32 (field b 52 4) (2 ^ 7) in
    let t = tells-of b h s.fields in
    let mask : ℕ = 2 ^ 32 - 1 - 2 ^ 7 in
    let fits : flags < 256 ^ 4 = omega (arith, and_le_l (field b 52 4) mask, field-lt b 52 4 small) in
    let directory : bit_and flags (2 ^ 13) ≡ bit_and (field b 52 4) (2 ^ 13) = and_assoc (2 ^ 13) (field b 52 4) mask in
    let deleted : bit_and flags (2 ^ 15) ≡ bit_and (field b 52 4) (2 ^ 15) = and_assoc (2 ^ 15) (field b 52 4) mask in
    flags-sound b h flags h.dir h.marked long fits (rw directory t.dir) (rw deleted t.marked) s

-- a number whose high word stands first reads back, and what lies in front of it and behind it stays
pub high-length : (b : List ℕ) (o n : ℕ) → o + 4 ≤ length b → length (laid (high_first_rows o n) b) ≡ length b
high-length b o n h =
    let one = length-put_field b o 2 (n / 2 ^ 16) (omega arith) in
    length-put_field (put_field b o 2 (n / 2 ^ 16)) (o + 2) 2 (n % 2 ^ 16) (omega arith) ∙ one

pub high-reads : (b : List ℕ) (o n : ℕ) → o + 4 ≤ length b → n < 2 ^ 32 → high_first (laid (high_first_rows o n) b) o ≡ n
high-reads b o n h fits =
    let one : List ℕ = put_field b o 2 (n / 2 ^ 16) in
    let len : length one ≡ length b = length-put_field b o 2 (n / 2 ^ 16) (omega arith) in
    let upper : field (laid (high_first_rows o n) b) o 2 ≡ n / 2 ^ 16 =
    field-put_below one (o + 2) (little_bytes 2 (n % 2 ^ 16)) o 2 (omega arith) (omega arith) ∙ field-put_same b o 2 (n / 2 ^ 16) (omega arith) (omega arith) in
    let lower : field (laid (high_first_rows o n) b) (o + 2) 2 ≡ n % 2 ^ 16 = field-put_same one (o + 2) 2 (n % 2 ^ 16) (omega arith) (omega arith) in
    omega (arith, upper, lower)

pub high-below : (b : List ℕ) (o n lo hi : ℕ) → o + 4 ≤ length b → hi ≤ o → Same (laid (high_first_rows o n) b) b lo hi
high-below b o n lo hi h l =
    let one : List ℕ = put_field b o 2 (n / 2 ^ 16) in
    let len : length one ≡ length b = length-put_field b o 2 (n / 2 ^ 16) (omega arith) in
    same-same (laid (high_first_rows o n) b) one b lo hi (same-field_below one (o + 2) 2 (n % 2 ^ 16) lo hi (omega arith) (omega arith))
    (same-field_below b o 2 (n / 2 ^ 16) lo hi (omega arith) l)

pub high-above : (b : List ℕ) (o n lo hi : ℕ) → o + 4 ≤ length b → o + 4 ≤ lo → Same (laid (high_first_rows o n) b) b lo hi
high-above b o n lo hi h l =
    let one : List ℕ = put_field b o 2 (n / 2 ^ 16) in
    let len : length one ≡ length b = length-put_field b o 2 (n / 2 ^ 16) (omega arith) in
    same-same (laid (high_first_rows o n) b) one b lo hi (same-field_above one (o + 2) 2 (n % 2 ^ 16) lo hi (omega arith) (omega arith))
    (same-field_above b o 2 (n / 2 ^ 16) lo hi (omega arith) (omega arith))

end-sound : (b : List ℕ) (h : Hdr) (end byte : ℕ) → length b ≡ 512 → end < 2 ^ 32 → end ≤ h.blocks + 1 → byte ≤ 511 → Sound b h
    → Sound (with_end b end byte) (record h { end = end; byte = byte })
unfolding with_end
end-sound b h end byte long fits limit small s =
    let one : List ℕ = laid (high_first_rows 28 end) b in
    let m : List ℕ = put_field one 32 2 byte in
    let n : List ℕ = summed m in
    let len-one : length one ≡ 512 = high-length b 28 end (omega arith) ∙ long in
    let len : length m ≡ 512 = length-put_field one 32 2 byte (omega arith) ∙ len-one in
    let summing : Same n m 0 510 = same-summed m 0 510 len (omega arith) in
    let low : Same n b 0 28 =
    same-same n m b 0 28 (same-within n m 0 510 0 28 summing (omega arith) (omega arith))
    (same-same m one b 0 28 (same-field_below one 32 2 byte 0 28 (omega arith) (omega arith)) (high-below b 28 end 0 28 (omega arith) (omega arith))) in
    let high : Same n b 34 510 =
    same-same n m b 34 510 (same-within n m 0 510 34 510 summing (omega arith) (omega arith))
    (same-same m one b 34 510 (same-field_above one 32 2 byte 34 510 (omega arith) (omega arith)) (high-above b 28 end 34 510 (omega arith) (omega arith))) in
    let middle : Same n one 0 32 =
    same-same n m one 0 32 (same-within n m 0 510 0 32 summing (omega arith) (omega arith)) (same-field_below one 32 2 byte 0 32 (omega arith) (omega arith)) in
    let t = tells-of b h s.fields in
    let e = ends-told b h s in
    let below : (p w : ℕ) → p + w ≤ 28 → field n p w ≡ field b p w = λ p w h. same-field n b 0 28 p w low (omega arith) (omega arith) in
    let above : (p w : ℕ) → 34 ≤ p → p + w ≤ 510 → field n p w ≡ field b p w = λ p w h l. same-field n b 34 510 p w high (omega arith) (omega arith) in
    let upper : field n 28 2 ≡ field one 28 2 = same-field n one 0 32 28 2 middle (omega arith) (omega arith) in
    let lower : field n 30 2 ≡ field one 30 2 = same-field n one 0 32 30 2 middle (omega arith) (omega arith) in
    let flags : field n 52 4 ≡ field b 52 4 = above 52 4 (omega arith) (omega arith) in
    still-sound n b h (record h { end = end; byte = byte }) (length-summed m len) long s low
    (same-within n b 34 510 58 59 high (omega arith) (omega arith)) (same-within n b 34 510 80 510 high (omega arith) (omega arith)) (sum-true m len)
    (record {
      num = rw (same-byte n b 0 28 13 low (omega arith) (omega arith), below 8 2 (omega arith)) t.num;
      seq = below 10 2 (omega arith) ∙ t.seq;
      owner = above 60 4 (omega arith) (omega arith) ∙ t.owner;
      dir = rw flags t.dir;
      marked = rw flags t.marked;
      blocks = rw (below 24 2 (omega arith), below 26 2 (omega arith)) t.blocks;
      mark = above 76 4 (omega arith) (omega arith) ∙ t.mark;
      end = rw (upper, lower) (high-reads b 28 end (omega arith) fits);
      byte = same-field n m 0 510 32 2 summing (omega arith) (omega arith) ∙ field-put_same one 32 2 byte (omega arith) (omega arith);
      seg = below 4 2 (omega arith) ∙ t.seg;
      ext = rw (same-byte n b 0 28 19 low (omega arith) (omega arith), below 14 2 (omega arith)) t.ext;
      ext_seq = below 16 2 (omega arith) ∙ t.ext_seq;
    })
    (λ first. (limit, (e.0 first).1)) (λ first. small)

-- the same of what is read
pub mark-reads : (b : List ℕ) (h : Hdr) (mark : ℕ) → length b ≡ 512 → mark < 2 ^ 32 → header_read b ≡ Ok (Used h) → mark ≤ h.blocks + 1
    → header_read (with_mark b mark) ≡ Ok (Used (record h { mark = mark }))
mark-reads b h mark long fits read limit = sound-reads (with_mark b mark) (record h { mark = mark }) (mark-sound b h mark long fits limit (reads-sound b h read))

pub marked-reads : (b : List ℕ) (h : Hdr) → length b ≡ 512 → IsBytes b → header_read b ≡ Ok (Used h) → header_read (marked b) ≡ Ok (Used (record h { marked = true }))
marked-reads b h long small read = sound-reads (marked b) (record h { marked = true }) (marked-sound b h long small (reads-sound b h read))

pub scattered-reads : (b : List ℕ) (h : Hdr) → length b ≡ 512 → IsBytes b → header_read b ≡ Ok (Used h) → header_read (scattered b) ≡ Ok (Used h)
scattered-reads b h long small read = sound-reads (scattered b) h (scattered-sound b h long small (reads-sound b h read))

pub end-reads : (b : List ℕ) (h : Hdr) (end byte : ℕ) → length b ≡ 512 → end < 2 ^ 32 → header_read b ≡ Ok (Used h) → end ≤ h.blocks + 1 → byte ≤ 511
    → header_read (with_end b end byte) ≡ Ok (Used (record h { end = end; byte = byte }))
end-reads b h end byte long fits read limit small =
    sound-reads (with_end b end byte) (record h { end = end; byte = byte }) (end-sound b h end byte long fits limit small (reads-sound b h read))
