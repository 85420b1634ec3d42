-- What a header tells after its runs alone were written, its blocks, the next header of its file, or its owner.
use Rattle.std.proofs.Common.{◌≡◌, ◌∙◌, ◌+◌, ◌*◌, ◌/◌, ◌%◌, ◌^◌, ◌<◌, ◌≤◌, ℕ, List, length, true, refl, sym, ap, arith, Ok}
use Rattle.base_words.specs.Fields.{field, summed, has_sum, put_field}
use Rattle.base_words.specs.Tables.{Table, laid}
use Rattle.base_words.proofs.Puts.{length-put_field, length-summed, field-put_same}
use Rattle.base_words.proofs.Tables.{rises, end_of, length-laid, field-laid, field-laid_below, field-laid_above}
use Rattle.fx_header.specs.declared.run.Run.{Run}
use Rattle.fx_header.specs.declared.slot.Hdr.{Hdr}
use Rattle.fx_header.specs.declared.slot.Slot.TheVariants.{Used}
use Rattle.fx_header.specs.Pointers.{AreRuns, merged, map_words, runs_of}
use Rattle.fx_header.specs.Headers.{map_offset, access_offset, map_area, runs_in, blocks_of, link_of, link_seq_of, has_offsets, has_map, fields_of, header_read, high_first_rows, id_rows, with_map, with_blocks, with_link, with_owner, KeepsTests, LeavesRuns, EndsWithin}
use Rattle.fx_header.proofs.SpellLemmas.{runs_of-words}
use Rattle.fx_header.proofs.SoundLemmas.{Same, same-of, same-field, same-byte, same-within, same-summed, same-same, same-field_below, same-field_above, same-used, same-level, same-offsets, same-volume, same-segment, same-area, sum-true, sound-reads, reads-sound}
use Rattle.fx_header.proofs.SetterLemmas.{Tells, ByteWithin, tells-of, tells-fields, ends-told, told-ends, high-length, high-reads, high-below, high-above}
use Rattle.fx_header.proofs.RunsLemmas.{field-byte, map-mapped, map-true}

-- the fields of a header of which no other part was written
tells-again : (n b : List ℕ) (h : Hdr) (blocks ext seq : ℕ) → Same n b 0 14 → Same n b 28 58 → Same n b 59 80
    → blocks_of n ≡ blocks → link_of n ≡ ext → link_seq_of n ≡ seq → Tells b h → Tells n (record h { blocks = blocks; ext = ext; ext_seq = seq })
tells-again n b h blocks ext seq low middle high is_blocks is_link is_seq t =
    let front : (p w : ℕ) → p + w ≤ 14 → field n p w ≡ field b p w = λ p w h. same-field n b 0 14 p w low (omega arith) (omega arith) in
    let inner : (p w : ℕ) → 28 ≤ p → p + w ≤ 58 → field n p w ≡ field b p w = λ p w h l. same-field n b 28 58 p w middle (omega arith) (omega arith) in
    let behind : (p w : ℕ) → 59 ≤ p → p + w ≤ 80 → field n p w ≡ field b p w = λ p w h l. same-field n b 59 80 p w high (omega arith) (omega arith) in
    let flags : field n 52 4 ≡ field b 52 4 = inner 52 4 (omega arith) (omega arith) in
    record {
      num = rw (same-byte n b 0 14 13 low (omega arith) (omega arith), front 8 2 (omega arith)) t.num;
      seq = front 10 2 (omega arith) ∙ t.seq;
      owner = behind 60 4 (omega arith) (omega arith) ∙ t.owner;
      dir = rw flags t.dir;
      marked = rw flags t.marked;
      blocks = is_blocks;
      mark = behind 76 4 (omega arith) (omega arith) ∙ t.mark;
      end = rw (inner 28 2 (omega arith) (omega arith), inner 30 2 (omega arith) (omega arith)) t.end;
      byte = inner 32 2 (omega arith) (omega arith) ∙ t.byte;
      seg = front 4 2 (omega arith) ∙ t.seg;
      ext = is_link;
      ext_seq = is_seq;
    }

fields-again : (n b : List ℕ) (blocks ext seq : ℕ) → Same n b 0 14 → Same n b 28 58 → Same n b 59 80
    → blocks_of n ≡ blocks → link_of n ≡ ext → link_seq_of n ≡ seq → fields_of n ≡ record (fields_of b) { blocks = blocks; ext = ext; ext_seq = seq }
fields-again n b blocks ext seq low middle high is_blocks is_link is_seq =
    tells-fields n (record (fields_of b) { blocks = blocks; ext = ext; ext_seq = seq })
    (tells-again n b (fields_of b) blocks ext seq low middle high is_blocks is_link is_seq (tells-of b (fields_of b) refl))

-- and the tests
tests-again : (n b : List ℕ) → has_sum n ≡ true → Same n b 0 14 → KeepsTests b n
tests-again n b sum low =
    let start : map_offset n ≡ map_offset b = same-byte n b 0 14 1 low (omega arith) (omega arith) in
    let behind : access_offset n ≡ access_offset b = same-byte n b 0 14 2 low (omega arith) (omega arith) in
    record {
      used = same-used n b low;
      sum = sum;
      level = same-level n b low;
      offsets = same-offsets n b low;
      volume = same-volume n b low;
      segment = same-segment n b low;
      area = rw (start, behind) refl;
    }

-- the runs that no write touched
runs-again : (n b : List ℕ) → length n ≡ length b → Same n b 0 14 → Same n b 58 510 → LeavesRuns b n
runs-again n b long low area off fits =
    let same = same-area n b long off fits low (same-within n b 58 510 58 59 area (omega arith) (omega arith)) (same-within n b 58 510 80 510 area (omega arith) (omega arith)) in
    (ap runs_of same.0, same.1)

-- what it reads as, if its ends lie within its blocks
reads-again : (n b : List ℕ) (h g : Hdr) → KeepsTests b n → has_map n ≡ true → header_read b ≡ Ok (Used h) → fields_of n ≡ g → EndsWithin g → ByteWithin g
    → header_read n ≡ Ok (Used g)
reads-again n b h g kept map read fields within byte =
    let s = reads-sound b h read in
    sound-reads n g (record {
      used = kept.used ∙ s.used;
      sum = kept.sum;
      level = kept.level ∙ s.level;
      offsets = kept.offsets ∙ s.offsets;
      volume = kept.volume ∙ s.volume;
      segment = kept.segment ∙ s.segment;
      map = map;
      ends = told-ends n g (tells-of n g fields) within byte;
      fields = fields;
    })

-- ---- the runs alone

module _ (b : List ℕ) (runs : List Run) (long : length b ≡ 512) (off : has_offsets b ≡ true) (are : AreRuns runs) (room : length (map_words runs) ≤ 2 * map_area b) where
  pub map-runs : runs_in (with_map b runs) ≡ merged runs
  map-runs = ap runs_of (map-mapped b runs long off are room).0.words ∙ runs_of-words runs are

  pub map-fits : has_map (with_map b runs) ≡ true
  map-fits =
      let w = (map-mapped b runs long off are room).0 in
      map-true (with_map b runs) b runs off are room (same-within (with_map b runs) b 0 58 0 24 w.front (omega arith) (omega arith)) w.words w.used

  pub map-fields : fields_of (with_map b runs) ≡ fields_of b
  unfolding fields_of
  map-fields =
      let n : List ℕ = with_map b runs in
      let w = (map-mapped b runs long off are room).0 in
      let kept : (p v : ℕ) → p + v ≤ 58 → field n p v ≡ field b p v = λ p v h. same-field n b 0 58 p v w.front (omega arith) (omega arith) in
      fields-again n b (blocks_of b) (link_of b) (link_seq_of b)
      (same-within n b 0 58 0 14 w.front (omega arith) (omega arith)) (same-within n b 0 58 28 58 w.front (omega arith) (omega arith)) w.behind
      (rw (kept 24 2 (omega arith), kept 26 2 (omega arith)) refl)
      (rw (same-byte n b 0 58 19 w.front (omega arith) (omega arith), kept 14 2 (omega arith)) refl)
      (kept 16 2 (omega arith))

  pub map-tests : KeepsTests b (with_map b runs)
  map-tests =
      let m = map-mapped b runs long off are room in
      tests-again (with_map b runs) b m.1 (same-within (with_map b runs) b 0 58 0 14 m.0.front (omega arith) (omega arith))

  pub map-reads : (h : Hdr) → header_read b ≡ Ok (Used h) → header_read (with_map b runs) ≡ Ok (Used h)
  map-reads h read =
      let s = reads-sound b h read in
      let ends = ends-told b h s in
      reads-again (with_map b runs) b h h map-tests map-fits read (map-fields ∙ s.fields) ends.0 ends.1

-- ---- the blocks

-- what stays of a header whose blocks were written
record Around (n b : List ℕ) (from to : ℕ) : Type 0 where
  long : length n ≡ 512
  sum : has_sum n ≡ true
  low : Same n b 0 from
  high : Same n b to 510

blocks-around : (b : List ℕ) (blocks : ℕ) → length b ≡ 512 → Around (with_blocks b blocks) b 24 28
unfolding with_blocks
blocks-around b blocks long =
    let m : List ℕ = laid (high_first_rows 24 blocks) b in
    let n : List ℕ = summed m in
    let len : length m ≡ 512 = high-length b 24 blocks (omega arith) ∙ long in
    let summing : Same n m 0 510 = same-summed m 0 510 len (omega arith) in
    record {
      long = length-summed m len;
      sum = sum-true m len;
      low = same-same n m b 0 24 (same-within n m 0 510 0 24 summing (omega arith) (omega arith)) (high-below b 24 blocks 0 24 (omega arith) (omega arith));
      high = same-same n m b 28 510 (same-within n m 0 510 28 510 summing (omega arith) (omega arith)) (high-above b 24 blocks 28 510 (omega arith) (omega arith));
    }

pub blocks-told : (b : List ℕ) (blocks : ℕ) → length b ≡ 512 → blocks < 2 ^ 32 → blocks_of (with_blocks b blocks) ≡ blocks
unfolding with_blocks
blocks-told b blocks long fits =
    let m : List ℕ = laid (high_first_rows 24 blocks) b in
    let n : List ℕ = summed m in
    let len : length m ≡ 512 = high-length b 24 blocks (omega arith) ∙ long in
    let summing : Same n m 0 510 = same-summed m 0 510 len (omega arith) in
    let upper : field n 24 2 ≡ field m 24 2 = same-field n m 0 510 24 2 summing (omega arith) (omega arith) in
    let lower : field n 26 2 ≡ field m 26 2 = same-field n m 0 510 26 2 summing (omega arith) (omega arith) in
    rw (upper, lower) (high-reads b 24 blocks (omega arith) fits)

module _ (b : List ℕ) (blocks : ℕ) (long : length b ≡ 512) where
  pub blocks-fields : blocks < 2 ^ 32 → fields_of (with_blocks b blocks) ≡ record (fields_of b) { blocks = blocks }
  unfolding fields_of
  blocks-fields fits =
      let n : List ℕ = with_blocks b blocks in
      let w = blocks-around b blocks long in
      let kept : (p v : ℕ) → p + v ≤ 24 → field n p v ≡ field b p v = λ p v h. same-field n b 0 24 p v w.low (omega arith) (omega arith) in
      fields-again n b blocks (link_of b) (link_seq_of b)
      (same-within n b 0 24 0 14 w.low (omega arith) (omega arith)) (same-within n b 28 510 28 58 w.high (omega arith) (omega arith)) (same-within n b 28 510 59 80 w.high (omega arith) (omega arith))
      (blocks-told b blocks long fits)
      (rw (same-byte n b 0 24 19 w.low (omega arith) (omega arith), kept 14 2 (omega arith)) refl)
      (kept 16 2 (omega arith))

  pub blocks-tests : KeepsTests b (with_blocks b blocks)
  blocks-tests =
      let w = blocks-around b blocks long in
      tests-again (with_blocks b blocks) b w.sum (same-within (with_blocks b blocks) b 0 24 0 14 w.low (omega arith) (omega arith))

  pub blocks-runs : LeavesRuns b (with_blocks b blocks)
  blocks-runs =
      let n : List ℕ = with_blocks b blocks in
      let w = blocks-around b blocks long in
      runs-again n b (w.long ∙ sym long) (same-within n b 0 24 0 14 w.low (omega arith) (omega arith)) (same-within n b 28 510 58 510 w.high (omega arith) (omega arith))

  pub blocks-reads : (h : Hdr) → blocks < 2 ^ 32 → header_read b ≡ Ok (Used h) → EndsWithin (record h { blocks = blocks })
      → header_read (with_blocks b blocks) ≡ Ok (Used (record h { blocks = blocks }))
  blocks-reads h fits read within =
      let s = reads-sound b h read in
      reads-again (with_blocks b blocks) b h (record h { blocks = blocks }) blocks-tests (blocks-runs s.offsets s.map).1 read
      (blocks-fields fits ∙ ap (λ (g : Hdr). record g { blocks = blocks }) s.fields) within (ends-told b h s).1

-- ---- the next header

-- a table leaves what lies in front of it and behind it
same-laid_below : (start : ℕ) (table : Table) (b : List ℕ) (lo hi : ℕ) → rises start table ≡ true → length b ≡ 512 → hi ≤ start → Same (laid table b) b lo hi
same-laid_below start table b lo hi r long h =
    same-of (laid table b) b lo hi (λ k x y. sym (field-byte (laid table b) k) ∙ field-laid_below start table b k 1 r long (omega arith) ∙ field-byte b k)

same-laid_above : (start : ℕ) (table : Table) (b : List ℕ) (lo hi : ℕ) → rises start table ≡ true → length b ≡ 512 → end_of start table ≤ lo → Same (laid table b) b lo hi
same-laid_above start table b lo hi r long h =
    same-of (laid table b) b lo hi (λ k x y. sym (field-byte (laid table b) k) ∙ field-laid_above start table b k 1 r long (omega arith) ∙ field-byte b k)

link-around : (b : List ℕ) (num seq : ℕ) → length b ≡ 512 → Around (with_link b num seq) b 14 20
unfolding with_link
link-around b num seq long =
    let m : List ℕ = laid (id_rows 14 num seq) b in
    let n : List ℕ = summed m in
    let len : length m ≡ 512 = length-laid 14 (id_rows 14 num seq) b refl long in
    let summing : Same n m 0 510 = same-summed m 0 510 len (omega arith) in
    record {
      long = length-summed m len;
      sum = sum-true m len;
      low = same-same n m b 0 14 (same-within n m 0 510 0 14 summing (omega arith) (omega arith)) (same-laid_below 14 (id_rows 14 num seq) b 0 14 refl long (omega arith));
      high = same-same n m b 20 510 (same-within n m 0 510 20 510 summing (omega arith) (omega arith)) (same-laid_above 14 (id_rows 14 num seq) b 20 510 refl long (omega arith));
    }

pub link-told : (b : List ℕ) (num seq : ℕ) → length b ≡ 512 → num < 2 ^ 24 → seq < 2 ^ 16
    → (link_of (with_link b num seq) ≡ num) × (link_seq_of (with_link b num seq) ≡ seq)
unfolding with_link
link-told b num seq long fits seq-fits =
    let table : Table = id_rows 14 num seq in
    let m : List ℕ = laid table b in
    let n : List ℕ = summed m in
    let len : length m ≡ 512 = length-laid 14 table b refl long in
    let summing : Same n m 0 510 = same-summed m 0 510 len (omega arith) in
    let low : field n 14 2 ≡ num % 2 ^ 16 = same-field n m 0 510 14 2 summing (omega arith) (omega arith) ∙ field-laid 14 table b 0 refl long (omega arith) in
    let next : field n 16 2 ≡ seq = same-field n m 0 510 16 2 summing (omega arith) (omega arith) ∙ field-laid 14 table b 1 refl long (omega arith) in
    let high : field n 19 1 ≡ num / 2 ^ 16 = same-field n m 0 510 19 1 summing (omega arith) (omega arith) ∙ field-laid 14 table b 3 refl long (omega arith) in
    (omega (arith, low, sym (field-byte n 19) ∙ high), next)

module _ (b : List ℕ) (num seq : ℕ) (long : length b ≡ 512) where
  pub link-fields : num < 2 ^ 24 → seq < 2 ^ 16 → fields_of (with_link b num seq) ≡ record (fields_of b) { ext = num; ext_seq = seq }
  unfolding fields_of
  link-fields fits seq-fits =
      let n : List ℕ = with_link b num seq in
      let w = link-around b num seq long in
      let read = link-told b num seq long fits seq-fits in
      let kept : (p v : ℕ) → 20 ≤ p → p + v ≤ 510 → field n p v ≡ field b p v = λ p v h l. same-field n b 20 510 p v w.high (omega arith) (omega arith) in
      fields-again n b (blocks_of b) num seq
      w.low (same-within n b 20 510 28 58 w.high (omega arith) (omega arith)) (same-within n b 20 510 59 80 w.high (omega arith) (omega arith))
      (rw (kept 24 2 (omega arith) (omega arith), kept 26 2 (omega arith) (omega arith)) refl)
      read.0
      read.1

  pub link-tests : KeepsTests b (with_link b num seq)
  link-tests =
      let w = link-around b num seq long in
      tests-again (with_link b num seq) b w.sum w.low

  pub link-runs : LeavesRuns b (with_link b num seq)
  link-runs =
      let n : List ℕ = with_link b num seq in
      let w = link-around b num seq long in
      runs-again n b (w.long ∙ sym long) w.low (same-within n b 20 510 58 510 w.high (omega arith) (omega arith))

  pub link-reads : (h : Hdr) → num < 2 ^ 24 → seq < 2 ^ 16 → header_read b ≡ Ok (Used h)
      → header_read (with_link b num seq) ≡ Ok (Used (record h { ext = num; ext_seq = seq }))
  link-reads h fits seq-fits read =
      let s = reads-sound b h read in
      let ends = ends-told b h s in
      reads-again (with_link b num seq) b h (record h { ext = num; ext_seq = seq }) link-tests (link-runs s.offsets s.map).1 read
      (link-fields fits seq-fits ∙ ap (λ (g : Hdr). record g { ext = num; ext_seq = seq }) s.fields) ends.0 ends.1

-- ---- the owner

owner-around : (b : List ℕ) (owner : ℕ) → length b ≡ 512 → Around (with_owner b owner) b 60 64
unfolding with_owner
owner-around b owner long =
    let m : List ℕ = put_field b 60 4 owner in
    let n : List ℕ = summed m in
    let len : length m ≡ 512 = length-put_field b 60 4 owner (omega arith) ∙ long in
    record {
      long = length-summed m len;
      sum = sum-true m len;
      low = same-same n m b 0 60 (same-summed m 0 60 len (omega arith)) (same-field_below b 60 4 owner 0 60 (omega arith) (omega arith));
      high = same-same n m b 64 510 (same-summed m 64 510 len (omega arith)) (same-field_above b 60 4 owner 64 510 (omega arith) (omega arith));
    }

pub owner-told : (b : List ℕ) (owner : ℕ) → length b ≡ 512 → owner < 2 ^ 32 → field (with_owner b owner) 60 4 ≡ owner
unfolding with_owner
owner-told b owner long fits =
    let m : List ℕ = put_field b 60 4 owner in
    let n : List ℕ = summed m in
    let len : length m ≡ 512 = length-put_field b 60 4 owner (omega arith) ∙ long in
    same-field n m 0 510 60 4 (same-summed m 0 510 len (omega arith)) (omega arith) (omega arith) ∙ field-put_same b 60 4 owner (omega arith) (omega arith)

module _ (b : List ℕ) (owner : ℕ) (long : length b ≡ 512) where
  pub owner-fields : owner < 2 ^ 32 → fields_of (with_owner b owner) ≡ record (fields_of b) { owner = owner }
  owner-fields fits =
      let n : List ℕ = with_owner b owner in
      let w = owner-around b owner long in
      let t = tells-of b (fields_of b) refl in
      let kept : (p v : ℕ) → p + v ≤ 60 → field n p v ≡ field b p v = λ p v h. same-field n b 0 60 p v w.low (omega arith) (omega arith) in
      let flags : field n 52 4 ≡ field b 52 4 = kept 52 4 (omega arith) in
      tells-fields n (record (fields_of b) { owner = owner }) (record {
        num = rw (same-byte n b 0 60 13 w.low (omega arith) (omega arith), kept 8 2 (omega arith)) t.num;
        seq = kept 10 2 (omega arith) ∙ t.seq;
        owner = owner-told b owner long fits;
        dir = rw flags t.dir;
        marked = rw flags t.marked;
        blocks = rw (kept 24 2 (omega arith), kept 26 2 (omega arith)) t.blocks;
        mark = same-field n b 64 510 76 4 w.high (omega arith) (omega arith) ∙ t.mark;
        end = rw (kept 28 2 (omega arith), kept 30 2 (omega arith)) t.end;
        byte = kept 32 2 (omega arith) ∙ t.byte;
        seg = kept 4 2 (omega arith) ∙ t.seg;
        ext = rw (same-byte n b 0 60 19 w.low (omega arith) (omega arith), kept 14 2 (omega arith)) t.ext;
        ext_seq = kept 16 2 (omega arith) ∙ t.ext_seq;
      })

  pub owner-tests : KeepsTests b (with_owner b owner)
  owner-tests =
      let w = owner-around b owner long in
      tests-again (with_owner b owner) b w.sum (same-within (with_owner b owner) b 0 60 0 14 w.low (omega arith) (omega arith))

  pub owner-runs : LeavesRuns b (with_owner b owner)
  owner-runs off fits =
      let n : List ℕ = with_owner b owner in
      let w = owner-around b owner long in
      let same =
      same-area n b (w.long ∙ sym long) off fits (same-within n b 0 60 0 14 w.low (omega arith) (omega arith)) (same-within n b 0 60 58 59 w.low (omega arith) (omega arith))
      (same-within n b 64 510 80 510 w.high (omega arith) (omega arith)) in
      (ap runs_of same.0, same.1)

  pub owner-reads : (h : Hdr) → owner < 2 ^ 32 → header_read b ≡ Ok (Used h) → header_read (with_owner b owner) ≡ Ok (Used (record h { owner = owner }))
  owner-reads h fits read =
      let s = reads-sound b h read in
      let ends = ends-told b h s in
      reads-again (with_owner b owner) b h (record h { owner = owner }) owner-tests (owner-runs s.offsets s.map).1 read
      (owner-fields fits ∙ ap (λ (g : Hdr). record g { owner = owner }) s.fields) ends.0 ends.1
