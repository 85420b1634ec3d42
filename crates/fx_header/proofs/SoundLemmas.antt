-- A header that no test faults, and what its tests look at.
use Rattle.std.proofs.Common.{◌≡◌, ◌∙◌, ◌+◌, ◌-◌, ◌*◌, ◌<◌, ◌≤◌, ℕ, List, length, drop, get_or, slice_range, Bool, true, false, not, Result, Ok, Err, refl, sym, arith, length-take, length-drop}
use Rattle.std.specs.Prelude.{if◌then◌else◌, ◌==◌}
use Rattle.std.proofs.lemmas.List.{ext_get_or, get_or-take, get_or-drop}
use Rattle.byteorder.specs.Endian.{little_bytes}
use Rattle.byteorder.specs.Numbers.{length-bytes_low_first}
use Rattle.base_words.specs.Fields.{field, put, put_field, checksum, summed}
use Rattle.base_words.proofs.Puts.{field-same, get_or-put_below, get_or-put_above, get_or-summed_below, field-summed, checksum-summed}
use Rattle.fx_header.specs.declared.slot.Slot.{Slot}
use Rattle.fx_header.specs.declared.slot.Slot.TheVariants.{Free, Used}
use Rattle.fx_header.specs.declared.slot.Hdr.{Hdr}
use Rattle.fx_header.specs.declared.slot.HeaderFault.{HeaderFault}
use Rattle.std.proofs.lemmas.Bool.{and_parts, leb-true, le-leb, eqb-true, eq-eqb}
use Rattle.fx_header.specs.Headers.{ident_offset, map_offset, access_offset, reserved_offset, map_area, map_in_use, map_bytes, blocks_of, end_of, byte_of, mark_of, segment_of, is_free, has_level, has_offsets, is_on_this_volume, has_segment, has_map, has_end, fields_of, header_read}
use Rattle.base_words.specs.Fields.{has_sum}

-- all tests hold, and these are the fields
pub record Sound (b : List ℕ) (h : Hdr) : Type 0 where
  pub used : is_free b ≡ false
  pub sum : has_sum b ≡ true
  pub level : has_level b ≡ true
  pub offsets : has_offsets b ≡ true
  pub volume : is_on_this_volume b ≡ true
  pub segment : has_segment b ≡ true
  pub map : has_map b ≡ true
  pub ends : has_end b ≡ true
  pub fields : fields_of b ≡ h

pub sound-reads : (b : List ℕ) (h : Hdr) → Sound b h → header_read b ≡ Ok (Used h)
unfolding header_read
sound-reads b h s = rw (s.used, s.sum, s.level, s.offsets, s.volume, s.segment, s.map, s.ends, s.fields) refl

-- the slot is in use, and past a test that would have answered a fault
past-free : (t : Bool) (seq : ℕ) (others : Result Slot HeaderFault) (h : Hdr) → (if t then Ok (Free seq) else others) ≡ Ok (Used h) → (t ≡ false) × (others ≡ Ok (Used h))
past-free true seq others h e = absurd (cc)
past-free false seq others h e = (refl, e)

past-fault : (t : Bool) (f : HeaderFault) (others : Result Slot HeaderFault) (h : Hdr) → (if not t then Err f else others) ≡ Ok (Used h) → (t ≡ true) × (others ≡ Ok (Used h))
past-fault true f others h e = (refl, e)
past-fault false f others h e = absurd (cc)

of-used : (g h : Hdr) → ◌≡◌ {A = Result Slot HeaderFault} (Ok (Used g)) (Ok (Used h)) → g ≡ h
of-used g h e = cc

pub reads-sound : (b : List ℕ) (h : Hdr) → header_read b ≡ Ok (Used h) → Sound b h
unfolding header_read
reads-sound b h read =
    let used = past-free _ _ _ h read in
    let sum = past-fault _ _ _ h used.1 in
    let level = past-fault _ _ _ h sum.1 in
    let offsets = past-fault _ _ _ h level.1 in
    let volume = past-fault _ _ _ h offsets.1 in
    let segment = past-fault _ _ _ h volume.1 in
    let map = past-fault _ _ _ h segment.1 in
    let ends = past-fault _ _ _ h map.1 in
    record {
      used = used.0;
      sum = sum.0;
      level = level.0;
      offsets = offsets.0;
      volume = volume.0;
      segment = segment.0;
      map = map.0;
      ends = ends.0;
      fields = of-used (fields_of b) h ends.1;
    }

-- two blocks have the same bytes from lo up to hi
pub Same : List ℕ → List ℕ → ℕ → ℕ → Type 0
Same a b lo hi = (k : ℕ) → lo ≤ k → k < hi → get_or a k 0 ≡ get_or b k 0

pub same-of : (a b : List ℕ) (lo hi : ℕ) → ((k : ℕ) → lo ≤ k → k < hi → get_or a k 0 ≡ get_or b k 0) → Same a b lo hi
unfolding Same
same-of a b lo hi same = same

pub same-within : (a b : List ℕ) (lo hi from to : ℕ) → Same a b lo hi → lo ≤ from → to ≤ hi → Same a b from to
unfolding Same
same-within a b lo hi from to same h l k x y = same k (omega arith) (omega arith)

-- the tests that look at the front alone
pub record SameFront (a b : List ℕ) : Type 0 where
  pub used : is_free a ≡ is_free b
  pub level : has_level a ≡ has_level b
  pub offsets : has_offsets a ≡ has_offsets b
  pub volume : is_on_this_volume a ≡ is_on_this_volume b
  pub segment : has_segment a ≡ has_segment b

pub same-field : (a b : List ℕ) (lo hi p w : ℕ) → Same a b lo hi → lo ≤ p → p + w ≤ hi → field a p w ≡ field b p w
unfolding Same
same-field a b lo hi p w same h l = field-same a b p w (λ k x y. same k (omega arith) (omega arith))

pub same-byte : (a b : List ℕ) (lo hi k : ℕ) → Same a b lo hi → lo ≤ k → k < hi → get_or a k 0 ≡ get_or b k 0
unfolding Same
same-byte a b lo hi k same h l = same k h l

pub same-used : (a b : List ℕ) → Same a b 0 14 → is_free a ≡ is_free b
unfolding is_free
same-used a b same = rw (same-byte a b 0 14 13 same (omega arith) (omega arith), same-field a b 0 14 8 2 same (omega arith) (omega arith)) refl

pub same-level : (a b : List ℕ) → Same a b 0 14 → has_level a ≡ has_level b
unfolding has_level
same-level a b same = rw (same-byte a b 0 14 7 same (omega arith) (omega arith)) refl

pub same-offsets : (a b : List ℕ) → Same a b 0 14 → has_offsets a ≡ has_offsets b
unfolding has_offsets
same-offsets a b same =
    rw (
      same-byte a b 0 14 0 same (omega arith) (omega arith),
      same-byte a b 0 14 1 same (omega arith) (omega arith),
      same-byte a b 0 14 2 same (omega arith) (omega arith),
      same-byte a b 0 14 3 same (omega arith) (omega arith),
    ) refl

pub same-volume : (a b : List ℕ) → Same a b 0 14 → is_on_this_volume a ≡ is_on_this_volume b
unfolding is_on_this_volume
same-volume a b same = rw (same-byte a b 0 14 12 same (omega arith) (omega arith)) refl

pub same-segment : (a b : List ℕ) → Same a b 0 14 → has_segment a ≡ has_segment b
unfolding has_segment
same-segment a b same = rw (same-field a b 0 14 4 2 same (omega arith) (omega arith)) refl

pub same-front : (a b : List ℕ) → Same a b 0 24 → SameFront a b
same-front a b same = record {
  used = same-used a b (same-within a b 0 24 0 14 same (omega arith) (omega arith));
  level = same-level a b (same-within a b 0 24 0 14 same (omega arith) (omega arith));
  offsets = same-offsets a b (same-within a b 0 24 0 14 same (omega arith) (omega arith));
  volume = same-volume a b (same-within a b 0 24 0 14 same (omega arith) (omega arith));
  segment = same-segment a b (same-within a b 0 24 0 14 same (omega arith) (omega arith));
}

-- the bytes between two places
pub same-range : (a b : List ℕ) (lo hi p e : ℕ) → length a ≡ length b → Same a b lo hi → lo ≤ p → e ≤ hi → slice_range a p e ≡ slice_range b p e
unfolding Same
same-range a b lo hi p e long same h l =
    ext_get_or 0 (slice_range a p e) (slice_range b p e)
    (omega (arith, length-take (e - p) (drop p a), length-take (e - p) (drop p b), length-drop p a, length-drop p b))
    (λ i less.
    let count = length-take (e - p) (drop p a) in
    get_or-take (e - p) (drop p a) i 0 (omega arith) ∙ get_or-drop p a i 0 ∙ same (p + i) (omega arith) (omega arith)
    ∙ sym (get_or-take (e - p) (drop p b) i 0 (omega arith) ∙ get_or-drop p b i 0))

-- a write leaves what lies in front of it and behind it
pub same-put_below : (b : List ℕ) (o : ℕ) (bytes : List ℕ) (lo hi : ℕ) → o ≤ length b → hi ≤ o → Same (put b o bytes) b lo hi
unfolding Same
same-put_below b o bytes lo hi h l k x y = get_or-put_below b o bytes k 0 h (omega arith)

pub same-put_above : (b : List ℕ) (o : ℕ) (bytes : List ℕ) (lo hi : ℕ) → o ≤ length b → o + length bytes ≤ lo → Same (put b o bytes) b lo hi
unfolding Same
same-put_above b o bytes lo hi h l k x y = get_or-put_above b o bytes k 0 h (omega arith)

pub same-field_below : (b : List ℕ) (o w n lo hi : ℕ) → o ≤ length b → hi ≤ o → Same (put_field b o w n) b lo hi
same-field_below b o w n lo hi h l = same-put_below b o (little_bytes w n) lo hi h l

pub same-field_above : (b : List ℕ) (o w n lo hi : ℕ) → o ≤ length b → o + w ≤ lo → Same (put_field b o w n) b lo hi
same-field_above b o w n lo hi h l =
    let len = length-bytes_low_first 0 w n in
    same-put_above b o (little_bytes w n) lo hi h (omega arith)

pub same-summed : (b : List ℕ) (lo hi : ℕ) → length b ≡ 512 → hi ≤ 510 → Same (summed b) b lo hi
unfolding Same
same-summed b lo hi l h k x y = get_or-summed_below b k 0 l (omega arith)

pub same-same : (a b c : List ℕ) (lo hi : ℕ) → Same a b lo hi → Same b c lo hi → Same a c lo hi
unfolding Same
same-same a b c lo hi one two k x y = one k x y ∙ two k x y

-- what the tests say
pub record Areas (b : List ℕ) : Type 0 where
  pub ident : 40 ≤ ident_offset b
  pub map : ident_offset b ≤ map_offset b
  pub access : map_offset b ≤ access_offset b
  pub reserved : access_offset b ≤ reserved_offset b
  pub inside : reserved_offset b ≤ 255
  pub room : 154 ≤ map_area b

pub areas-of : (b : List ℕ) → has_offsets b ≡ true → Areas b
unfolding has_offsets
areas-of b t =
    let room = and_parts _ _ t in
    let inside = and_parts _ _ room.0 in
    let reserved = and_parts _ _ inside.0 in
    let access = and_parts _ _ reserved.0 in
    let map = and_parts _ _ access.0 in
    record {
      ident = leb-true 40 (ident_offset b) map.0;
      map = leb-true (ident_offset b) (map_offset b) map.1;
      access = leb-true (map_offset b) (access_offset b) access.1;
      reserved = leb-true (access_offset b) (reserved_offset b) reserved.1;
      inside = leb-true (reserved_offset b) 255 inside.1;
      room = leb-true 154 (map_area b) room.1;
    }

pub map-fits : (b : List ℕ) → has_map b ≡ true → map_in_use b ≤ map_area b
unfolding has_map
map-fits b t = leb-true (map_in_use b) (map_area b) (and_parts _ _ t).0

pub record Ends (b : List ℕ) : Type 0 where
  pub end : end_of b ≤ blocks_of b + 1
  pub byte : byte_of b ≤ 511
  pub mark : mark_of b ≤ blocks_of b + 1

-- a test that is asked only where another holds
then-true : (c t : Bool) → c ≡ true → (if c then t else true) ≡ true → t ≡ true
then-true true t e holds = holds
then-true false t e holds = absurd (cc)

when-true : (c t : Bool) → (c ≡ true → t ≡ true) → (if c then t else true) ≡ true
when-true true t f = f refl
when-true false t f = refl

pub ends-of : (b : List ℕ) → segment_of b ≡ 0 → has_end b ≡ true → Ends b
unfolding has_end
ends-of b first t =
    let mark = and_parts _ _ (then-true (segment_of b == 0) _ (eq-eqb (segment_of b) 0 first) t) in
    let byte = and_parts _ _ mark.0 in
    record {
      end = leb-true (end_of b) (blocks_of b + 1) byte.0;
      byte = leb-true (byte_of b) 511 byte.1;
      mark = leb-true (mark_of b) (blocks_of b + 1) mark.1;
    }

pub ends-true : (b : List ℕ) → (segment_of b ≡ 0 → Ends b) → has_end b ≡ true
unfolding has_end
ends-true b ends =
    when-true (segment_of b == 0) _ (λ first.
    let e = ends (eqb-true (segment_of b) 0 first) in
    rw (
      le-leb (end_of b) (blocks_of b + 1) e.end,
      le-leb (byte_of b) 511 e.byte,
      le-leb (mark_of b) (blocks_of b + 1) e.mark,
    ) refl)

-- a block with its checksum
pub sum-true : (b : List ℕ) → length b ≡ 512 → has_sum (summed b) ≡ true
unfolding has_sum
sum-true b l = eq-eqb (field (summed b) 510 2) (checksum (summed b) 255) (field-summed b l ∙ sym (checksum-summed b l))

-- a block that has the map area of another has its runs
pub same-area : (n b : List ℕ) → length n ≡ length b → has_offsets b ≡ true → has_map b ≡ true
    → Same n b 0 14 → Same n b 58 59 → Same n b 80 510 → (map_bytes n ≡ map_bytes b) × (has_map n ≡ true)
unfolding has_map
same-area n b long off fits front words area =
    let at = areas-of b off in
    let few = map-fits b fits in
    let start : map_offset n ≡ map_offset b = same-byte n b 0 14 1 front (omega arith) (omega arith) in
    let behind : access_offset n ≡ access_offset b = same-byte n b 0 14 2 front (omega arith) (omega arith) in
    let used : map_in_use n ≡ map_in_use b = same-byte n b 58 59 58 words (omega arith) (omega arith) in
    let bytes : map_bytes n ≡ map_bytes b =
    rw (start, used) (same-range n b 80 510 (2 * map_offset b) (2 * (map_offset b + map_in_use b)) long area (omega arith) (omega arith)) in
    (bytes, rw (bytes, used, behind, start) fits)

pub same-map : (n b : List ℕ) → length n ≡ length b → has_offsets b ≡ true → has_map b ≡ true
    → Same n b 0 24 → Same n b 58 59 → Same n b 80 510 → (map_bytes n ≡ map_bytes b) × (has_map n ≡ true)
same-map n b long off fits front words area =
    same-area n b long off fits (same-within n b 0 24 0 14 front (omega arith) (omega arith)) words area
