-- What is written reads back.
use Rattle.std.proofs.Common.{◌≡◌, ◌∙◌, ◌*◌, ◌+◌, ◌≤◌, ◌<◌, ◌^◌, List, ℕ, length, slice_range, Ok, refl, sym, ap, arith, lit<, lit≤}
use Rattle.std.proofs.lemmas.Bool.{and_from, le-leb, eq-eqb}
use Rattle.base_words.specs.Fields.{field, checksum, summed}
use Rattle.base_words.specs.Tables.{laid, zeros}
use Rattle.base_words.proofs.Puts.{field-put_same, checksum-lt, checksum-summed, field-summed}
use Rattle.base_words.proofs.Ranges.{slice_range-put_same}
use Rattle.base_words.proofs.Keeping.{Keeps, put-keeps, put_field-keeps, summed-keeps, keeps-keeps}
use Rattle.base_words.proofs.Tables.{length-zeros, length-laid, field-laid}
use Rattle.fx_home.specs.declared.home.Home.{Home}
use Rattle.fx_home.specs.declared.scb.Scb.{Scb}
use Rattle.fx_home.specs.Homes.{IsWithinLimits, format_name, has_format, has_level, has_sum1, has_cluster, has_files, has_layout, home_in, home_read, home_table, with_sum1, with_label, with_format, home_bytes, has_scb_level, scb_read, scb_table, scb_bytes}
use Rattle.base_words.specs.Fields.{has_sum as has_scb_sum}
use Rattle.base_words.specs.Fields.{has_sum as has_sum2}
use Rattle.fx_home.proofs.Reading.{Passes, home_read-passes}

sum1-keeps : (b : List ℕ) → length b ≡ 512 → Keeps 58 b (with_sum1 b)
unfolding with_sum1
sum1-keeps b l = put_field-keeps 58 b 2 (checksum b 29) l (lit≤ tt)

label-keeps : (b label : List ℕ) → length b ≡ 512 → length label ≡ 12 → Keeps 472 b (with_label label b)
unfolding with_label
label-keeps b label l len = put-keeps 472 b label l (omega arith)

format-keeps : (b : List ℕ) → length b ≡ 512 → Keeps 496 b (with_format b)
unfolding with_format
format-keeps b l = put-keeps 496 b format_name l (lit≤ tt)

field-with_sum1 : (b : List ℕ) → length b ≡ 512 → field (with_sum1 b) 58 2 ≡ checksum b 29
unfolding with_sum1
field-with_sum1 b l =
    let small = checksum-lt b 29 in
    field-put_same b 58 2 (checksum b 29) (omega arith) (omega arith)

label-with_label : (b label : List ℕ) → length b ≡ 512 → length label ≡ 12 → slice_range (with_label label b) 472 484 ≡ label
unfolding with_label
label-with_label b label l len = slice_range-put_same b 472 label 484 (omega arith) (omega arith)

name-with_format : (b : List ℕ) → length b ≡ 512 → slice_range (with_format b) 496 508 ≡ format_name
unfolding with_format
name-with_format b l = slice_range-put_same b 496 format_name 508 (omega arith) refl

-- what reads back from a home block
record Reads (h : Home) (b : List ℕ) : Type 0 where
  homelbn : field b 0 4 ≡ 1
  level : field b 12 2 ≡ 513
  cluster : field b 14 2 ≡ h.cluster
  bitmap_vbn : field b 22 2 ≡ 4 * h.cluster + 1
  bitmap_lbn : field b 24 4 ≡ 4 * h.cluster
  files : field b 28 4 ≡ h.files
  bitmap_size : field b 32 2 ≡ 1

table-reads : (h : Home) → IsWithinLimits h → Reads h (laid (home_table h) zeros)
unfolding home_table
table-reads h limits =
    let low = limits.cluster_high in
    let high = limits.files_high in
    record {
      homelbn = field-laid 0 (home_table h) zeros 0 refl length-zeros (lit< tt);
      level = field-laid 0 (home_table h) zeros 3 refl length-zeros (lit< tt);
      cluster = field-laid 0 (home_table h) zeros 4 refl length-zeros (omega arith);
      bitmap_vbn = field-laid 0 (home_table h) zeros 8 refl length-zeros (omega arith);
      bitmap_lbn = field-laid 0 (home_table h) zeros 9 refl length-zeros (omega arith);
      files = field-laid 0 (home_table h) zeros 10 refl length-zeros (omega arith);
      bitmap_size = field-laid 0 (home_table h) zeros 11 refl length-zeros (lit< tt);
    }

length-home_table : (h : Home) → length (laid (home_table h) zeros) ≡ 512
unfolding home_table
length-home_table h = length-laid 0 (home_table h) zeros refl length-zeros

-- a block that keeps these fields reads the same
reads-keeps : (h : Home) (o : ℕ) (a b : List ℕ) → 34 ≤ o → Keeps o a b → Reads h a → Reads h b
reads-keeps h o a b behind k r = record {
  homelbn = k.fields 0 4 (omega arith) ∙ r.homelbn;
  level = k.fields 12 2 (omega arith) ∙ r.level;
  cluster = k.fields 14 2 (omega arith) ∙ r.cluster;
  bitmap_vbn = k.fields 22 2 (omega arith) ∙ r.bitmap_vbn;
  bitmap_lbn = k.fields 24 4 (omega arith) ∙ r.bitmap_lbn;
  files = k.fields 28 4 (omega arith) ∙ r.files;
  bitmap_size = k.fields 32 2 (omega arith) ∙ r.bitmap_size;
}

-- a block with these fields, texts and sums passes the tests
reads-passes : (h : Home) (b : List ℕ) → IsWithinLimits h → Reads h b → slice_range b 496 508 ≡ format_name → field b 58 2 ≡ checksum b 29 → field b 510 2 ≡ checksum b 255 → Passes b
unfolding has_format has_level has_sum1 has_sum2 has_cluster has_files has_layout
reads-passes h b limits r format sum1 sum2 = record {
  format = rw format refl;
  level = rw r.level refl;
  sum1 = eq-eqb _ _ sum1;
  sum2 = eq-eqb _ _ sum2;
  cluster = rw r.cluster (and_from _ _ (le-leb _ _ limits.cluster_low) (le-leb _ _ limits.cluster_high));
  files = rw r.files (and_from _ _ (le-leb _ _ limits.files_low) (le-leb _ _ limits.files_high));
  layout = rw (r.homelbn, r.bitmap_vbn, r.cluster, r.bitmap_lbn, r.bitmap_size) (and_from _ _ (and_from _ _ (eq-eqb (4 * h.cluster + 1) _ refl) (eq-eqb (4 * h.cluster) _ refl)) refl);
}

home_in-reads : (h : Home) (b : List ℕ) → Reads h b → slice_range b 472 484 ≡ h.label → home_in b ≡ h
unfolding home_in
home_in-reads h b r label = rw (r.cluster, r.files, label) refl

pub home_read-home_bytes : (h : Home) → IsWithinLimits h → length h.label ≡ 12 → home_read (home_bytes h) ≡ Ok h
unfolding home_bytes
home_read-home_bytes h limits label_length =
    let a = laid (home_table h) zeros in
    let b = with_sum1 a in
    let c = with_label h.label b in
    let d = with_format c in
    let e = summed d in
    let ab = sum1-keeps a (length-home_table h) in
    let bc = label-keeps b h.label ab.long label_length in
    let cd = format-keeps c bc.long in
    let de = summed-keeps d cd.long in
    let ce = keeps-keeps 496 510 c d e (lit≤ tt) cd de in
    let be = keeps-keeps 472 496 b c e (lit≤ tt) bc ce in
    let ae = keeps-keeps 58 472 a b e (lit≤ tt) ab be in
    let reads = reads-keeps h 58 a e (lit≤ tt) ae (table-reads h limits) in
    let format = de.ranges 496 508 (lit≤ tt) ∙ name-with_format c bc.long in
    let label = ce.ranges 472 484 (lit≤ tt) ∙ label-with_label b h.label ab.long label_length in
    let sum1 = be.fields 58 2 (lit≤ tt) ∙ field-with_sum1 a (length-home_table h) ∙ sym (ae.sums 29 (lit≤ tt)) in
    let sum2 = field-summed d cd.long ∙ sym (checksum-summed d cd.long) in
    home_read-passes e (reads-passes h e limits reads format sum1 sum2) ∙ ap Ok (home_in-reads h e reads label)

length-scb_table : (s : Scb) → length (laid (scb_table s) zeros) ≡ 512
unfolding scb_table
length-scb_table s = length-laid 0 (scb_table s) zeros refl length-zeros

-- what reads back from a storage control block
record ScbReads (s : Scb) (b : List ℕ) : Type 0 where
  level : field b 0 2 ≡ 513
  cluster : field b 2 2 ≡ s.cluster
  blocks : field b 4 4 ≡ s.blocks

scb_table-reads : (s : Scb) → s.cluster < 2 ^ 16 → s.blocks < 2 ^ 32 → ScbReads s (laid (scb_table s) zeros)
unfolding scb_table
scb_table-reads s cluster blocks = record {
  level = field-laid 0 (scb_table s) zeros 0 refl length-zeros (lit< tt);
  cluster = field-laid 0 (scb_table s) zeros 1 refl length-zeros cluster;
  blocks = field-laid 0 (scb_table s) zeros 2 refl length-zeros blocks;
}

-- a block with these fields and this sum is read
scb_read-reads : (s : Scb) (b : List ℕ) → ScbReads s b → field b 510 2 ≡ checksum b 255 → scb_read b ≡ Ok s
unfolding scb_read has_scb_level has_scb_sum
scb_read-reads s b r sum = rw (r.level, eq-eqb (field b 510 2) (checksum b 255) sum, r.cluster, r.blocks) refl

pub scb_read-scb_bytes : (s : Scb) → s.cluster < 2 ^ 16 → s.blocks < 2 ^ 32 → scb_read (scb_bytes s) ≡ Ok s
unfolding scb_bytes
scb_read-scb_bytes s cluster blocks =
    let a = laid (scb_table s) zeros in
    let keeps = summed-keeps a (length-scb_table s) in
    let reads = scb_table-reads s cluster blocks in
    let sum = field-summed a (length-scb_table s) ∙ sym (checksum-summed a (length-scb_table s)) in
    scb_read-reads s (summed a) (record {
      level = keeps.fields 0 2 (lit≤ tt) ∙ reads.level;
      cluster = keeps.fields 2 2 (lit≤ tt) ∙ reads.cluster;
      blocks = keeps.fields 4 4 (lit≤ tt) ∙ reads.blocks;
    }) sum
