-- What a new header tells, and a free slot.
use Rattle.std.proofs.Common.{◌≡◌, ◌∙◌, ◌+◌, ◌-◌, ◌*◌, ◌/◌, ◌%◌, ◌^◌, ◌<◌, ◌≤◌, ◌==◌, ◌++◌, ℕ, List, [], ◌∷◌, length, take, drop, get_or, replicate, Bool, true, false, refl, sym, ap, subst, arith, length-append, length-take, bit_and, Ok}
use Rattle.std.specs.Prelude.{if◌then◌else◌}
use Rattle.std.proofs.lemmas.Bool.{ne_eqb, le-leb}
use Rattle.std.proofs.lemmas.List.{length-replicate}
use Rattle.byteorder.specs.Endian.{little_bytes}
use Rattle.base_words.specs.Fields.{field, put, put_field, summed}
use Rattle.base_words.specs.Tables.{zeros, Table, laid}
use Rattle.base_words.proofs.Puts.{length-put, length-put_field, length-summed, field-put_same, field-put_below, field-put_field_above}
use Rattle.base_words.proofs.Tables.{rises, row, length-zeros, length-laid, field-laid, field-laid_below, field-laid_above}
use Rattle.fx_header.specs.declared.slot.Hdr.{Hdr}
use Rattle.fx_header.specs.declared.slot.Slot.TheVariants.{Free}
use Rattle.fx_header.specs.Pointers.{blocks_in, runs_of}
use Rattle.fx_header.specs.Headers.{number_of, is_free, has_level, has_offsets, is_on_this_volume, has_segment, has_map, area_rows, id_rows, size_rows, owner_rows, new_rows, flags_of, filled, with_name, header_bytes, with_runs, freed, fields_of, header_read, map_offset, map_area, map_in_use, map_bytes, runs_in, EndsWithin, IsMade, ReadsBack}
use Rattle.base_words.specs.Fields.{has_sum}
use Rattle.fx_header.proofs.SoundLemmas.{Sound, Same, sound-reads, same-field, same-put_below, same-summed, same-same, sum-true}
use Rattle.fx_header.proofs.SetterLemmas.{Tells, ByteWithin, tells-fields, told-ends}
use Rattle.fx_header.proofs.RunsLemmas.{Fielded, field-byte, room-blocks, runs-written, runs-read, runs-sound}
use Rattle.fx_header.proofs.PartLemmas.{map-reads, map-runs}
use Rattle.fx_header.proofs.PointerLemmas.{runs_of-nil, rest_of-nil}

-- one table after another
laid-append : (xs ys : Table) (b : List ℕ) → laid (xs ++ ys) b ≡ laid ys (laid xs b)
laid-append [] ys b = refl
laid-append ((o, w, n) ∷ xs) ys b = laid-append xs ys (put_field b o w n)

laid-five : (v w x y z : Table) (b : List ℕ) → laid (v ++ (w ++ (x ++ (y ++ z)))) b ≡ laid z (laid y (laid x (laid w (laid v b))))
laid-five v w x y z b =
    laid-append v (w ++ (x ++ (y ++ z))) b ∙ laid-append w (x ++ (y ++ z)) (laid v b) ∙ laid-append x (y ++ z) (laid w (laid v b))
    ∙ laid-append y z (laid x (laid w (laid v b)))

-- the rows of a new header
record Rows (table : Table) (h : Hdr) : Type 0 where
  order : rises 0 table ≡ true
  ident : row table 0 ≡ (0, 1, 40)
  map : row table 1 ≡ (1, 1, 100)
  access : row table 2 ≡ (2, 1, 255)
  reserved : row table 3 ≡ (3, 1, 255)
  seg : row table 4 ≡ (4, 2, h.seg)
  level : row table 6 ≡ (7, 1, 2)
  low : row table 7 ≡ (8, 2, h.num % 2 ^ 16)
  seq : row table 8 ≡ (10, 2, h.seq)
  volume : row table 9 ≡ (12, 1, 0)
  high : row table 10 ≡ (13, 1, h.num / 2 ^ 16)
  next-low : row table 11 ≡ (14, 2, h.ext % 2 ^ 16)
  next-seq : row table 12 ≡ (16, 2, h.ext_seq)
  next-high : row table 14 ≡ (19, 1, h.ext / 2 ^ 16)
  upper : row table 15 ≡ (24, 2, h.blocks / 2 ^ 16)
  lower : row table 16 ≡ (26, 2, h.blocks % 2 ^ 16)
  end-upper : row table 17 ≡ (28, 2, h.end / 2 ^ 16)
  end-lower : row table 18 ≡ (30, 2, h.end % 2 ^ 16)
  byte : row table 19 ≡ (32, 2, h.byte)
  flags : row table 20 ≡ (52, 4, flags_of h)
  owner : row table 21 ≡ (60, 4, h.owner)
  mark : row table 26 ≡ (76, 4, h.mark)

new-rows : (h : Hdr) (parent : ℕ × ℕ) → Rows (new_rows h parent) h
unfolding area_rows size_rows owner_rows
new-rows h parent = record {
  order = refl;
  ident = refl;
  map = refl;
  access = refl;
  reserved = refl;
  seg = refl;
  level = refl;
  low = refl;
  seq = refl;
  volume = refl;
  high = refl;
  next-low = refl;
  next-seq = refl;
  next-high = refl;
  upper = refl;
  lower = refl;
  end-upper = refl;
  end-lower = refl;
  byte = refl;
  flags = refl;
  owner = refl;
  mark = refl;
}

-- a row of a table that is laid into zeros reads as its number
row-told : (table : Table) (i p w x : ℕ) → rises 0 table ≡ true → row table i ≡ (p, w, x) → x < 256 ^ w → field (laid table zeros) p w ≡ x
row-told table i p w x r e fits =
    let P : ℕ × ℕ × ℕ → Type 0 = λ f. f.2 < 256 ^ f.1 → field (laid table zeros) f.0 f.1 ≡ f.2 in
    subst P e (field-laid 0 table zeros i r length-zeros) fits

zero-number : field zeros 8 2 ≡ 0
unfolding zeros
zero-number = refl

zero-high : field zeros 13 1 ≡ 0
unfolding zeros
zero-high = refl

zero-words : field zeros 58 1 ≡ 0
unfolding zeros
zero-words = refl

-- the name is written behind the fields
pub length-filled : (n : ℕ) (text : List ℕ) → length (filled n text) ≡ n
length-filled n text =
    omega (arith, length-append (take n text) (replicate (n - length text) 32), length-take n text, length-replicate {A = ℕ} (n - length text) 32)

length-named : (b text : List ℕ) → length b ≡ 512 → length (with_name b text) ≡ 512
length-named b text l =
    let front = length-filled 20 text in
    let back = length-filled 66 (drop 20 text) in
    let one = length-put b 80 (filled 20 text) (omega arith) in
    length-put (put b 80 (filled 20 text)) 134 (filled 66 (drop 20 text)) (omega arith) ∙ one ∙ l

same-named : (b text : List ℕ) → length b ≡ 512 → Same (summed (with_name b text)) b 0 80
same-named b text l =
    let front = length-filled 20 text in
    let one : List ℕ = put b 80 (filled 20 text) in
    let len : length one ≡ 512 = length-put b 80 (filled 20 text) (omega arith) ∙ l in
    same-same (summed (with_name b text)) (with_name b text) b 0 80 (same-summed (with_name b text) 0 80 (length-named b text l) (omega arith))
    (same-same (with_name b text) one b 0 80 (same-put_below one 134 (filled 66 (drop 20 text)) 0 80 (omega arith) (omega arith))
    (same-put_below b 80 (filled 20 text) 0 80 (omega arith) (omega arith)))

-- the characteristics say again what they were made of
flag-dir : (d m : Bool) → (bit_and ((if d then 2 ^ 13 else 0) + (if m then 2 ^ 15 else 0)) (2 ^ 13) == 2 ^ 13) ≡ d
flag-dir true true = refl
flag-dir true false = refl
flag-dir false true = refl
flag-dir false false = refl

flag-marked : (d m : Bool) → (bit_and ((if d then 2 ^ 13 else 0) + (if m then 2 ^ 15 else 0)) (2 ^ 15) == 2 ^ 15) ≡ m
flag-marked true true = refl
flag-marked true false = refl
flag-marked false true = refl
flag-marked false false = refl

flags-fit : (d m : Bool) → (if d then 2 ^ 13 else 0) + (if m then 2 ^ 15 else 0) < 2 ^ 32
flags-fit true true = omega arith
flags-fit true false = omega arith
flags-fit false true = omega arith
flags-fit false false = omega arith

-- the numbers of a header fit their fields
pub record Ranges (h : Hdr) : Type 0 where
  pub from : 1 ≤ h.num
  pub num : h.num < 2 ^ 24
  pub seq : h.seq < 2 ^ 16
  pub owner : h.owner < 2 ^ 32
  pub blocks : h.blocks < 2 ^ 32
  pub mark : h.mark < 2 ^ 32
  pub end : h.end < 2 ^ 32
  pub byte : h.byte < 2 ^ 16
  pub seg : h.seg ≤ 15
  pub ext : h.ext < 2 ^ 24
  pub ext_seq : h.ext_seq < 2 ^ 16

-- what a new header tells, and the tests that it passes without its runs
pub record Told (n : List ℕ) (h : Hdr) : Type 0 where
  pub used : is_free n ≡ false
  pub level : has_level n ≡ true
  pub offsets : has_offsets n ≡ true
  pub volume : is_on_this_volume n ≡ true
  pub segment : has_segment n ≡ true
  pub tells : Tells n h

-- from its rows
laid-told : (table : Table) (n : List ℕ) (h : Hdr) → Rows table h → Ranges h → Same n (laid table zeros) 0 80 → Told n h
unfolding is_free has_level has_offsets is_on_this_volume has_segment
laid-told table n h rows fits same =
    let t : List ℕ = laid table zeros in
    let told : (i p w x : ℕ) → row table i ≡ (p, w, x) → x < 256 ^ w → p + w ≤ 80 → field n p w ≡ x =
    λ i p w x e f l. same-field n t 0 80 p w same (omega arith) l ∙ row-told table i p w x rows.order e f in
    let byte : (i p x : ℕ) → row table i ≡ (p, 1, x) → x < 256 → p + 1 ≤ 80 → get_or n p 0 ≡ x =
    λ i p x e f l. sym (field-byte n p) ∙ told i p 1 x e f l in
    let number : number_of n ≡ h.num =
    omega (arith, told 7 8 2 (h.num % 2 ^ 16) rows.low (omega arith) (omega arith), byte 10 13 (h.num / 2 ^ 16) rows.high (omega (arith, fits.num)) (omega arith)) in
    let seg : field n 4 2 ≡ h.seg = told 4 4 2 h.seg rows.seg (omega (arith, fits.seg)) (omega arith) in
    let flags : field n 52 4 ≡ flags_of h = told 20 52 4 (flags_of h) rows.flags (flags-fit h.dir h.marked) (omega arith) in
    record {
      used = ne_eqb (number_of n) 0 (λ z. absurd (omega (arith, fits.from, number, z)));
      level = rw (byte 6 7 2 rows.level (omega arith) (omega arith)) refl;
      offsets = rw (
        byte 0 0 40 rows.ident (omega arith) (omega arith),
        byte 1 1 100 rows.map (omega arith) (omega arith),
        byte 2 2 255 rows.access (omega arith) (omega arith),
        byte 3 3 255 rows.reserved (omega arith) (omega arith),
      ) refl;
      volume = rw (byte 9 12 0 rows.volume (omega arith) (omega arith)) refl;
      segment = rw seg (le-leb h.seg 15 fits.seg);
      tells = record {
        num = number;
        seq = told 8 10 2 h.seq rows.seq (omega (arith, fits.seq)) (omega arith);
        owner = told 21 60 4 h.owner rows.owner (omega (arith, fits.owner)) (omega arith);
        dir = rw flags (flag-dir h.dir h.marked);
        marked = rw flags (flag-marked h.dir h.marked);
        blocks = omega (arith, told 15 24 2 (h.blocks / 2 ^ 16) rows.upper (omega (arith, fits.blocks)) (omega arith), told 16 26 2 (h.blocks % 2 ^ 16) rows.lower (omega arith) (omega arith));
        mark = told 26 76 4 h.mark rows.mark (omega (arith, fits.mark)) (omega arith);
        end = omega (arith, told 17 28 2 (h.end / 2 ^ 16) rows.end-upper (omega (arith, fits.end)) (omega arith), told 18 30 2 (h.end % 2 ^ 16) rows.end-lower (omega arith) (omega arith));
        byte = told 19 32 2 h.byte rows.byte (omega (arith, fits.byte)) (omega arith);
        seg = seg;
        ext = omega (arith, told 11 14 2 (h.ext % 2 ^ 16) rows.next-low (omega arith) (omega arith), byte 14 19 (h.ext / 2 ^ 16) rows.next-high (omega (arith, fits.ext)) (omega arith));
        ext_seq = told 12 16 2 h.ext_seq rows.next-seq (omega (arith, fits.ext_seq)) (omega arith);
      };
    }

pub new-told : (h : Hdr) (text : List ℕ) (parent : ℕ × ℕ) → Ranges h → Told (header_bytes h text parent) h
unfolding header_bytes
new-told h text parent fits =
    let rows = new-rows h parent in
    laid-told (new_rows h parent) (summed (with_name (laid (new_rows h parent) zeros) text)) h rows fits
    (same-named (laid (new_rows h parent) zeros) text (length-laid 0 (new_rows h parent) zeros rows.order length-zeros))

pub new-fielded : (h : Hdr) (text : List ℕ) (parent : ℕ × ℕ) → Ranges h → Fielded (header_bytes h text parent) h
new-fielded h text parent fits =
    let told = new-told h text parent fits in
    record {
      used = told.used;
      level = told.level;
      offsets = told.offsets;
      volume = told.volume;
      segment = told.segment;
      tells = told.tells;
    }

pub new-sum : (h : Hdr) (text : List ℕ) (parent : ℕ × ℕ) → has_sum (header_bytes h text parent) ≡ true
unfolding header_bytes
new-sum h text parent =
    let rows = new-rows h parent in
    let t : List ℕ = laid (new_rows h parent) zeros in
    sum-true (with_name t text) (length-named t text (length-laid 0 (new_rows h parent) zeros rows.order length-zeros))

-- what is said of any new header
pub new-made : (h : Hdr) (text : List ℕ) (parent : ℕ × ℕ) → Ranges h → IsMade (header_bytes h text parent)
new-made h text parent fits =
    let told = new-told h text parent fits in
    record { used = told.used; sum = new-sum h text parent; level = told.level; offsets = told.offsets; volume = told.volume; segment = told.segment }

pub new-fields : (h : Hdr) (text : List ℕ) (parent : ℕ × ℕ) → Ranges h → fields_of (header_bytes h text parent) ≡ h
new-fields h text parent fits = tells-fields (header_bytes h text parent) h (new-told h text parent fits).tells

-- the rows of a new header are laid one part after another
pub new-laid : (h : Hdr) (parent : ℕ × ℕ) (b : List ℕ)
    → laid (owner_rows (flags_of h) h.owner parent h.mark) (laid (size_rows h.blocks h.end h.byte) (laid (id_rows 14 h.ext h.ext_seq) (laid (id_rows 8 h.num h.seq) (laid (area_rows h.seg) b))))
    ≡ laid (new_rows h parent) b
new-laid h parent b =
    sym (laid-five (area_rows h.seg) (id_rows 8 h.num h.seq) (id_rows 14 h.ext h.ext_seq) (size_rows h.blocks h.end h.byte) (owner_rows (flags_of h) h.owner parent h.mark) b)

pub length-header : (h : Hdr) (text : List ℕ) (parent : ℕ × ℕ) → length (header_bytes h text parent) ≡ 512
unfolding header_bytes
length-header h text parent =
    let rows = new-rows h parent in
    length-summed (with_name (laid (new_rows h parent) zeros) text) (length-named (laid (new_rows h parent) zeros) text (length-laid 0 (new_rows h parent) zeros rows.order length-zeros))

-- its map area has 155 words
pub header-area : (h : Hdr) (text : List ℕ) (parent : ℕ × ℕ) → map_area (header_bytes h text parent) ≡ 155
unfolding header_bytes
header-area h text parent =
    let rows = new-rows h parent in
    let t : List ℕ = laid (new_rows h parent) zeros in
    let n : List ℕ = summed (with_name t text) in
    let same : Same n t 0 80 = same-named t text (length-laid 0 (new_rows h parent) zeros rows.order length-zeros) in
    let map : get_or n 1 0 ≡ 100 =
    sym (field-byte n 1) ∙ same-field n t 0 80 1 1 same (omega arith) (omega arith) ∙ row-told (new_rows h parent) 1 1 1 100 rows.order rows.map (omega arith) in
    let access : get_or n 2 0 ≡ 255 =
    sym (field-byte n 2) ∙ same-field n t 0 80 2 1 same (omega arith) (omega arith) ∙ row-told (new_rows h parent) 2 2 1 255 rows.order rows.access (omega arith) in
    rw (access, map) refl

-- a map area of which no word is in use has no runs, and its last pointer ends there
empty-bytes : (b : List ℕ) → map_in_use b ≡ 0 → map_bytes b ≡ []
empty-bytes b e = let none : 2 * (map_offset b + map_in_use b) - 2 * map_offset b ≡ 0 = omega (arith, e) in rw none refl

empty-map : (b : List ℕ) → map_in_use b ≡ 0 → has_map b ≡ true
unfolding has_map
empty-map b e = rw (empty-bytes b e, e, rest_of-nil, le-leb 0 (map_area b) (omega arith)) refl

empty-runs : (b : List ℕ) → map_in_use b ≡ 0 → runs_in b ≡ []
empty-runs b e = ap runs_of (empty-bytes b e) ∙ runs_of-nil

-- so is that of a new header
rows-between : (h : Hdr) (parent : ℕ × ℕ) → field (laid (new_rows h parent) zeros) 58 1 ≡ 0
unfolding area_rows size_rows owner_rows
rows-between h parent =
    let front : Table = area_rows h.seg ++ id_rows 8 h.num h.seq ++ id_rows 14 h.ext h.ext_seq ++ size_rows h.blocks h.end h.byte ++ (52, 4, flags_of h) ∷ [] in
    let behind : Table = (60, 4, h.owner) ∷ id_rows 66 parent.0 parent.1 ++ (76, 4, h.mark) ∷ [] in
    ap (λ b. field b 58 1) (laid-append front behind zeros)
    ∙ field-laid_below 60 behind (laid front zeros) 58 1 refl (length-laid 0 front zeros refl length-zeros) (omega arith)
    ∙ field-laid_above 0 front zeros 58 1 refl length-zeros (omega arith) ∙ zero-words

header-empty : (h : Hdr) (text : List ℕ) (parent : ℕ × ℕ) → map_in_use (header_bytes h text parent) ≡ 0
unfolding header_bytes
header-empty h text parent =
    let rows = new-rows h parent in
    let t : List ℕ = laid (new_rows h parent) zeros in
    let n : List ℕ = summed (with_name t text) in
    let same : Same n t 0 80 = same-named t text (length-laid 0 (new_rows h parent) zeros rows.order length-zeros) in
    sym (field-byte n 58) ∙ same-field n t 0 80 58 1 same (omega arith) (omega arith) ∙ rows-between h parent

-- a new header reads back
module _ (h : Hdr) (text : List ℕ) (parent : ℕ × ℕ) (fits : Ranges h) (within : EndsWithin h) (byte : ByteWithin h) where
  new-sound : Sound (header_bytes h text parent) h
  new-sound =
      let b : List ℕ = header_bytes h text parent in
      let told = new-told h text parent fits in
      record {
        used = told.used;
        sum = new-sum h text parent;
        level = told.level;
        offsets = told.offsets;
        volume = told.volume;
        segment = told.segment;
        map = empty-map b (header-empty h text parent);
        ends = told-ends b h told.tells within byte;
        fields = new-fields h text parent fits;
      }

  pub new-reads : ReadsBack (header_bytes h text parent) h
  new-reads =
      let b : List ℕ = header_bytes h text parent in
      let f = new-fielded h text parent fits in
      let long = length-header h text parent in
      let read = sound-reads b h new-sound in
      record {
        empty = (read, empty-runs b (header-empty h text parent));
        map = λ runs room. (map-reads b runs long f.offsets room.0 room.1 h read, map-runs b runs long f.offsets room.0 room.1);
        runs = λ runs room ends.
            let few = room-blocks b runs f.offsets room in (
              sound-reads (with_runs b runs) (record h { blocks = blocks_in runs }) (runs-sound b h runs long f room.0 room.1 few ends byte),
              runs-read (with_runs b runs) b runs room.0 (runs-written b runs long f.offsets room.0 room.1 few),
            );
      }

-- a free slot reads as free
pub freed-reads : (seq : ℕ) → seq < 2 ^ 16 → header_read (freed seq) ≡ Ok (Free seq)
unfolding freed header_read is_free
freed-reads seq fits =
    let m : List ℕ = put_field zeros 10 2 seq in
    let len : length m ≡ 512 = length-put_field zeros 10 2 seq (omega (arith, length-zeros)) ∙ length-zeros in
    let same : Same (summed m) m 0 510 = same-summed m 0 510 len (omega arith) in
    let low : field (summed m) 8 2 ≡ 0 =
    same-field (summed m) m 0 510 8 2 same (omega arith) (omega arith) ∙ field-put_below zeros 10 (little_bytes 2 seq) 8 2 (omega (arith, length-zeros)) (omega arith) ∙ zero-number in
    let high : get_or (summed m) 13 0 ≡ 0 =
    sym (field-byte (summed m) 13) ∙ same-field (summed m) m 0 510 13 1 same (omega arith) (omega arith)
    ∙ field-put_field_above zeros 10 2 seq 13 1 (omega (arith, length-zeros)) (omega arith) ∙ zero-high in
    let told : field (summed m) 10 2 ≡ seq =
    same-field (summed m) m 0 510 10 2 same (omega arith) (omega arith) ∙ field-put_same zeros 10 2 seq (omega (arith, length-zeros)) (omega arith) in
    rw (low, high, told) refl
