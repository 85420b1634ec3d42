-- What a header tells after its runs were written.
use Rattle.std.proofs.Common.{◌≡◌, ◌∙◌, ◌+◌, ◌*◌, ◌/◌, ◌^◌, ◌<◌, ◌≤◌, ℕ, List, length, drop, get_or, true, false, refl, sym, ap, arith, Ok}
use Rattle.std.proofs.lemmas.Bool.{le-leb}
use Rattle.std.proofs.lemmas.List.{get_or-drop}
use Rattle.base_words.specs.Fields.{field, put, put_field, summed}
use Rattle.base_words.specs.Tables.{laid}
use Rattle.base_words.proofs.Puts.{length-put, length-put_field, length-summed, field-put_same}
use Rattle.base_words.proofs.Ranges.{slice_range-put_same}
use Rattle.fx_header.specs.declared.run.Run.{Run}
use Rattle.fx_header.specs.declared.slot.Hdr.{Hdr}
use Rattle.fx_header.specs.declared.slot.Slot.TheVariants.{Used}
use Rattle.fx_header.specs.Pointers.{AreRuns, merged, map_words, blocks_in, runs_of}
use Rattle.fx_header.specs.Headers.{map_offset, access_offset, map_area, map_in_use, map_bytes, runs_in, blocks_of, is_free, has_level, has_offsets, is_on_this_volume, has_segment, has_map, high_first_rows, header_read, EndsWithin, HasRoom, with_words, with_runs, with_map}
use Rattle.base_words.specs.Fields.{has_sum}
use Rattle.fx_header.proofs.SpellLemmas.{runs_of-words, rest_of-words, even-words, few-blocks}
use Rattle.fx_header.proofs.SoundLemmas.{Sound, Same, areas-of, same-front, same-field, same-byte, same-within, same-range, same-put_below, same-field_below, same-field_above, same-summed, same-same, sum-true, sound-reads, reads-sound}
use Rattle.fx_header.proofs.SetterLemmas.{Tells, ByteWithin, tells-of, tells-fields, ends-told, told-ends, high-length, high-reads, high-below, high-above}

-- a byte is a field of one byte
pub field-byte : (b : List ℕ) (o : ℕ) → field b o 1 ≡ get_or b o 0
field-byte b o = let at : get_or (drop o b) 0 0 ≡ get_or b (o + 0) 0 = get_or-drop o b 0 0 in let same : o + 0 ≡ o = omega arith in rw (at, same) (omega arith)

-- a block whose map area has the pointers of runs
pub record Mapped (n b : List ℕ) (runs : List Run) : Type 0 where
  pub long : length n ≡ 512
  pub front : Same n b 0 58
  pub behind : Same n b 59 80
  pub words : map_bytes n ≡ map_words runs
  pub used : map_in_use n ≡ length (map_words runs) / 2

pub words-mapped : (b : List ℕ) (runs : List Run) → length b ≡ 512 → has_offsets b ≡ true → AreRuns runs → length (map_words runs) ≤ 2 * map_area b
    → Mapped (with_words b (map_words runs)) b runs
words-mapped b runs long off are room =
    let areas = areas-of b off in
    let words : List ℕ = map_words runs in
    let start : ℕ = 2 * map_offset b in
    let p : List ℕ = put b start words in
    let q : List ℕ = put_field p 58 1 (length words / 2) in
    let ends : start + length words ≤ 510 = omega (arith, areas.inside, areas.reserved) in
    let begins : 80 ≤ start = omega (arith, areas.ident, areas.map) in
    let len-p : length p ≡ 512 = length-put b start words (omega arith) ∙ long in
    let len-q : length q ≡ 512 = length-put_field p 58 1 (length words / 2) (omega arith) ∙ len-p in
    let from-p : Same q p 59 510 = same-field_above p 58 1 (length words / 2) 59 510 (omega arith) (omega arith) in
    let front : Same q b 0 58 =
    same-same q p b 0 58 (same-field_below p 58 1 (length words / 2) 0 58 (omega arith) (omega arith)) (same-put_below b start words 0 58 (omega arith) (omega arith)) in
    let behind : Same q b 59 80 =
    same-same q p b 59 80 (same-within q p 59 510 59 80 from-p (omega arith) (omega arith)) (same-put_below b start words 59 80 (omega arith) (omega arith)) in
    let even = even-words runs are in
    let used : get_or q 58 0 ≡ length words / 2 =
    sym (field-byte q 58) ∙ field-put_same p 58 1 (length words / 2) (omega arith) (omega (arith, areas.inside, areas.reserved)) in
    let offset : map_offset q ≡ map_offset b = same-byte q b 0 58 1 front (omega arith) (omega arith) in
    let stop : 2 * (map_offset b + length words / 2) ≡ start + length words = omega arith in
    let bytes : map_bytes q ≡ words =
    rw (offset, used, stop) (same-range q p 59 510 start (start + length words) (len-q ∙ sym len-p) from-p (omega arith) (omega arith)
    ∙ slice_range-put_same b start words (start + length words) (omega arith) refl) in
    record { long = len-q; front = front; behind = behind; words = bytes; used = used }

-- and keeps them where a part in front of the map area is written
still-mapped : (n q b : List ℕ) (runs : List Run) → has_offsets b ≡ true → AreRuns runs → length (map_words runs) ≤ 2 * map_area b → Mapped q b runs
    → length n ≡ 512 → Same n q 0 14 → Same n q 58 510 → (map_bytes n ≡ map_words runs) × (map_in_use n ≡ length (map_words runs) / 2)
still-mapped n q b runs off are room w long front area =
    let areas = areas-of b off in
    let even = even-words runs are in
    let first : map_offset q ≡ map_offset b = same-byte q b 0 58 1 w.front (omega arith) (omega arith) in
    let offset : map_offset n ≡ map_offset q = same-byte n q 0 14 1 front (omega arith) (omega arith) in
    let used : map_in_use n ≡ map_in_use q = same-byte n q 58 510 58 area (omega arith) (omega arith) in
    let count = w.used in
    let bytes : map_bytes n ≡ map_bytes q =
    rw (offset, used) (same-range n q 58 510 (2 * map_offset q) (2 * (map_offset q + map_in_use q)) (long ∙ sym w.long) area
    (omega (arith, areas.ident, areas.map, first)) (omega (arith, areas.inside, areas.reserved, first, count))) in
    (bytes ∙ w.words, used ∙ w.used)

-- what a header tells whose runs were written
pub record Written (n b : List ℕ) (runs : List Run) : Type 0 where
  pub long : length n ≡ 512
  pub front : Same n b 0 24
  pub middle : Same n b 28 58
  pub behind : Same n b 59 80
  pub words : map_bytes n ≡ map_words runs
  pub used : map_in_use n ≡ length (map_words runs) / 2
  pub blocks : blocks_of n ≡ blocks_in runs
  pub sum : has_sum n ≡ true

pub runs-written : (b : List ℕ) (runs : List Run) → length b ≡ 512 → has_offsets b ≡ true → AreRuns runs → length (map_words runs) ≤ 2 * map_area b
    → blocks_in runs < 2 ^ 32 → Written (with_runs b runs) b runs
unfolding with_runs
runs-written b runs long off are room fits =
    let q : List ℕ = with_words b (map_words runs) in
    let m : List ℕ = laid (high_first_rows 24 (blocks_in runs)) q in
    let n : List ℕ = summed m in
    let w = words-mapped b runs long off are room in
    let len-q : length q ≡ 512 = w.long in
    let len-m : length m ≡ 512 = high-length q 24 (blocks_in runs) (omega arith) ∙ len-q in
    let summing : Same n m 0 510 = same-summed m 0 510 len-m (omega arith) in
    let low : Same n q 0 24 =
    same-same n m q 0 24 (same-within n m 0 510 0 24 summing (omega arith) (omega arith)) (high-below q 24 (blocks_in runs) 0 24 (omega arith) (omega arith)) in
    let high : Same n q 28 510 =
    same-same n m q 28 510 (same-within n m 0 510 28 510 summing (omega arith) (omega arith)) (high-above q 24 (blocks_in runs) 28 510 (omega arith) (omega arith)) in
    let map = still-mapped n q b runs off are room w (length-summed m len-m)
    (same-within n q 0 24 0 14 low (omega arith) (omega arith)) (same-within n q 28 510 58 510 high (omega arith) (omega arith)) in
    let upper : field n 24 2 ≡ field m 24 2 = same-field n m 0 510 24 2 summing (omega arith) (omega arith) in
    let lower : field n 26 2 ≡ field m 26 2 = same-field n m 0 510 26 2 summing (omega arith) (omega arith) in
    record {
      long = length-summed m len-m;
      front = same-same n q b 0 24 low (same-within q b 0 58 0 24 w.front (omega arith) (omega arith));
      middle = same-same n q b 28 58 (same-within n q 28 510 28 58 high (omega arith) (omega arith)) (same-within q b 0 58 28 58 w.front (omega arith) (omega arith));
      behind = same-same n q b 59 80 (same-within n q 28 510 59 80 high (omega arith) (omega arith)) w.behind;
      words = map.0;
      used = map.1;
      blocks = rw (upper, lower) (high-reads q 24 (blocks_in runs) (omega arith) fits);
      sum = sum-true m len-m;
    }

-- the same of a header whose runs alone were written
pub map-mapped : (b : List ℕ) (runs : List Run) → length b ≡ 512 → has_offsets b ≡ true → AreRuns runs → length (map_words runs) ≤ 2 * map_area b
    → Mapped (with_map b runs) b runs × (has_sum (with_map b runs) ≡ true)
unfolding with_map
map-mapped b runs long off are room =
    let q : List ℕ = with_words b (map_words runs) in
    let n : List ℕ = summed q in
    let w = words-mapped b runs long off are room in
    let summing : Same n q 0 510 = same-summed q 0 510 w.long (omega arith) in
    let map = still-mapped n q b runs off are room w (length-summed q w.long)
    (same-within n q 0 510 0 14 summing (omega arith) (omega arith)) (same-within n q 0 510 58 510 summing (omega arith) (omega arith)) in (
      record {
        long = length-summed q w.long;
        front = same-same n q b 0 58 (same-within n q 0 510 0 58 summing (omega arith) (omega arith)) w.front;
        behind = same-same n q b 59 80 (same-within n q 0 510 59 80 summing (omega arith) (omega arith)) w.behind;
        words = map.0;
        used = map.1;
      },
      sum-true q w.long,
    )

-- the runs of a header are those that were written, with adjacent ones merged
pub runs-read : (n b : List ℕ) (runs : List Run) → AreRuns runs → Written n b runs → runs_in n ≡ merged runs
runs-read n b runs are w = ap runs_of w.words ∙ runs_of-words runs are

-- a header that is sound but for its runs
pub record Fielded (b : List ℕ) (h : Hdr) : Type 0 where
  pub used : is_free b ≡ false
  pub level : has_level b ≡ true
  pub offsets : has_offsets b ≡ true
  pub volume : is_on_this_volume b ≡ true
  pub segment : has_segment b ≡ true
  pub tells : Tells b h

pub sound-fielded : (b : List ℕ) (h : Hdr) → Sound b h → Fielded b h
sound-fielded b h s = record { used = s.used; level = s.level; offsets = s.offsets; volume = s.volume; segment = s.segment; tells = tells-of b h s.fields }

-- the pointers that were written fit their words
pub map-true : (n b : List ℕ) (runs : List Run) → has_offsets b ≡ true → AreRuns runs → length (map_words runs) ≤ 2 * map_area b → Same n b 0 24
    → map_bytes n ≡ map_words runs → map_in_use n ≡ length (map_words runs) / 2 → has_map n ≡ true
unfolding has_map
map-true n b runs off are room front words used =
    let none = rest_of-words runs are in
    let start : map_offset n ≡ map_offset b = same-byte n b 0 24 1 front (omega arith) (omega arith) in
    let behind : access_offset n ≡ access_offset b = same-byte n b 0 24 2 front (omega arith) (omega arith) in
    rw (words, none, used, behind, start, le-leb (length (map_words runs) / 2) (map_area b) (omega arith)) refl

-- runs that have room have fewer blocks than a number of four bytes
pub room-blocks : (b : List ℕ) (runs : List Run) → has_offsets b ≡ true → HasRoom b runs → blocks_in runs < 2 ^ 32
room-blocks b runs off room =
    let areas = areas-of b off in
    omega (arith, few-blocks runs room.0, room.1, areas.inside, areas.reserved)

-- is sound with runs
pub runs-sound : (b : List ℕ) (h : Hdr) (runs : List Run) → length b ≡ 512 → Fielded b h → AreRuns runs → length (map_words runs) ≤ 2 * map_area b
    → blocks_in runs < 2 ^ 32 → EndsWithin (record h { blocks = blocks_in runs }) → ByteWithin h
    → Sound (with_runs b runs) (record h { blocks = blocks_in runs })
runs-sound b h runs long f are room fits within byte =
    let n : List ℕ = with_runs b runs in
    let w = runs-written b runs long f.offsets are room fits in
    let same = same-front n b w.front in
    let t = f.tells in
    let front : (p w : ℕ) → p + w ≤ 24 → field n p w ≡ field b p w = λ p v h. same-field n b 0 24 p v w.front (omega arith) (omega arith) in
    let middle : (p w : ℕ) → 28 ≤ p → p + w ≤ 58 → field n p w ≡ field b p w = λ p v h l. same-field n b 28 58 p v w.middle (omega arith) (omega arith) in
    let behind : (p w : ℕ) → 59 ≤ p → p + w ≤ 80 → field n p w ≡ field b p w = λ p v h l. same-field n b 59 80 p v w.behind (omega arith) (omega arith) in
    let flags : field n 52 4 ≡ field b 52 4 = middle 52 4 (omega arith) (omega arith) in
    let told : Tells n (record h { blocks = blocks_in runs }) = record {
      num = rw (same-byte n b 0 24 13 w.front (omega arith) (omega arith), front 8 2 (omega arith)) t.num;
      seq = front 10 2 (omega arith) ∙ t.seq;
      owner = behind 60 4 (omega arith) (omega arith) ∙ t.owner;
      dir = rw flags t.dir;
      marked = rw flags t.marked;
      blocks = w.blocks;
      mark = behind 76 4 (omega arith) (omega arith) ∙ t.mark;
      end = rw (middle 28 2 (omega arith) (omega arith), middle 30 2 (omega arith) (omega arith)) t.end;
      byte = middle 32 2 (omega arith) (omega arith) ∙ t.byte;
      seg = front 4 2 (omega arith) ∙ t.seg;
      ext = rw (same-byte n b 0 24 19 w.front (omega arith) (omega arith), front 14 2 (omega arith)) t.ext;
      ext_seq = front 16 2 (omega arith) ∙ t.ext_seq;
    } in
    record {
      used = same.used ∙ f.used;
      sum = w.sum;
      level = same.level ∙ f.level;
      offsets = same.offsets ∙ f.offsets;
      volume = same.volume ∙ f.volume;
      segment = same.segment ∙ f.segment;
      map = map-true n b runs f.offsets are room w.front w.words w.used;
      ends = told-ends n (record h { blocks = blocks_in runs }) told within byte;
      fields = tells-fields n (record h { blocks = blocks_in runs }) told;
    }

pub runs-reads : (b : List ℕ) (h : Hdr) (runs : List Run) → length b ≡ 512 → AreRuns runs → length (map_words runs) ≤ 2 * map_area b → blocks_in runs < 2 ^ 32
    → header_read b ≡ Ok (Used h) → h.end ≤ blocks_in runs + 1 → h.mark ≤ blocks_in runs + 1
    → header_read (with_runs b runs) ≡ Ok (Used (record h { blocks = blocks_in runs }))
runs-reads b h runs long are room fits read end mark =
    let s = reads-sound b h read in
    sound-reads (with_runs b runs) (record h { blocks = blocks_in runs }) (runs-sound b h runs long (sound-fielded b h s) are room fits (λ first. (end, mark)) (ends-told b h s).1)
