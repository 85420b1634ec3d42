-- Blocks that say what they should are a fresh volume.
use Rattle.std.proofs.Common.{◌≡◌, ◌∙◌, ◌+◌, ◌-◌, ◌*◌, ◌/◌, ◌%◌, ◌<◌, ◌≤◌, ◌==◌, ◌&&◌, nat_le, nat_lt, ℕ, false, List, [], ◌∷◌, length, map, slice_get, Result, Ok, Some, refl, sym, ap, subst, arith}
use Rattle.std.specs.Prelude.{if◌then◌else◌}
use Rattle.std.specs.List.{range_with_len}
use Rattle.std.proofs.lemmas.Bool.{lt-ltb, ne_eqb, le-ltb, lt-leb, and_right}
use Rattle.vol_init.specs.Made.{IsClear}
use Rattle.std.proofs.lemmas.Bool.Decides.{nat_tests}
use Rattle.base_words.specs.Fields.{Block}
use Rattle.base_words.specs.Tables.{zeros}
use Rattle.fx_home.specs.Homes.{scb_read}
use Rattle.fx_header.specs.declared.slot.Slot.{Slot}
use Rattle.fx_header.specs.declared.slot.Slot.TheVariants.{Used}
use Rattle.fx_header.specs.declared.slot.HeaderFault.{HeaderFault}
use Rattle.fx_header.specs.Headers.{header_read}
use Rattle.fx_header.specs.Pointers.{blocks_in}
use Rattle.fx_bitmap.specs.Bits.{bit_at}
use Rattle.fx_dir.specs.Writing.{packed}
use Rattle.fx_dir.specs.Directory.{directory, all_entries}
use Rattle.fx_dir.specs.Entries.{rises}
use Rattle.vol_parts.specs.Parts.{storage_blocks}
use Rattle.vol_parts.specs.Volumes.{Volume, header_lbn, header_at, block_at, head, Told, told, runs, first_lbn, bitmap_lbn, body, rows_in, active_rows, is_used_number, is_free_cluster}
use Rattle.vol_parts.proofs.Alone.{IsOnly, alone, alone_told}
use Rattle.vol_init.specs.declared.layout.Layout.{Layout}
use Rattle.vol_init.specs.Layouts.{IsLayout, total, reserved_clusters, clusters_of, blocks_of, header_of, runs_of, main_entries, quota_rows}
use Rattle.vol_init.specs.Fresh.{IsFresh, layout_of}
use Rattle.vol_init.proofs.Doubles.{ordered_once}
use Rattle.vol_parts.specs.Warnings.{has_doubles, has_surplus}
use Rattle.vol_init.proofs.EntryLemmas.{main-rises}
use Rattle.vol_init.specs.declared.part.Part.{Part}
use Rattle.vol_init.specs.declared.part.Part.TheVariants.{HomeCopy, HeaderCopy, Numbers, Header, Control, Storage, Main, Lost, Quota}
use Rattle.vol_init.specs.Parts.{first_block, part_of, home_copy_bytes, header_block, control_block, quota_block, is_free, SaysHeader, SaysControl, SaysQuota, Says}
use Rattle.vol_init.proofs.PlaceLemmas.{Places, places, bitmap-some, part-home-copy, part-header-copy, part-numbers, part-header, part-control, part-storage, part-main, part-lost, part-quota}
use Rattle.vol_init.proofs.ZeroLemmas.{freed-none}
use Rattle.vol_init.proofs.HeaderLemmas.{runs-some, runs-fit}
use Rattle.vol_init.proofs.BlockLemmas.{picked, rows-first, body-run}

-- the blocks of a volume say what their parts should, at this layout and with these directories
pub record Stands (l : Layout) (first second : List Block) (v : Volume) : Type 0 where
  pub limits : IsLayout l
  pub room : reserved_clusters l ≤ total l
  pub main_count : length first ≡ l.cluster
  pub main : directory first ≡ Ok main_entries
  pub listed : all_entries first ≡ main_entries
  pub main_packed : Some first ≡ packed l.cluster main_entries
  pub lost_count : length second ≡ l.cluster
  pub lost : directory second ≡ Ok []
  pub lost_packed : Some second ≡ packed l.cluster []
  pub says : (lbn : ℕ) (part : Part) → part_of l lbn ≡ Some part → 1 < lbn → lbn < l.blocks → Says l v.home first second part (block_at v lbn)

head-of : (v : Volume) (n : ℕ) (r : Result Slot HeaderFault) → header_lbn v n < length v.blocks → header_read (header_at v n) ≡ r → head v n ≡ r
unfolding head
head-of v n r inside e = rw (lt-ltb (header_lbn v n) (length v.blocks) inside) e

-- the directories and QUOTA.SYS have one cluster
one-cluster : (l : Layout) → (1 ≤ clusters_of l 4) × (clusters_of l 4 ≡ 1)
unfolding clusters_of
one-cluster l = (omega arith, refl)

one-cluster-lost : (l : Layout) → (1 ≤ clusters_of l 11) × (clusters_of l 11 ≡ 1)
unfolding clusters_of
one-cluster-lost l = (omega arith, refl)

one-cluster-quota : (l : Layout) → (1 ≤ clusters_of l 10) × (clusters_of l 10 ≡ 1)
unfolding clusters_of
one-cluster-quota l = (omega arith, refl)

before : (n : ℕ) → 1 ≤ n → nat_lt (n - 1) 11 ≡ nat_le n 11
before n from = grind (arith, nat_tests)

front : (low high q : ℕ) → q < high → (nat_le low q && nat_lt q high) ≡ nat_le low q
front low high q small = grind (arith, nat_tests)

-- ---- the parts of a volume that stands

header-says : (v : Volume) (main lost : List Block) (n : ℕ) → Stands (layout_of v) main lost v → Places (layout_of v) → 1 ≤ n → n ≤ v.home.files
    → (header_lbn v n < length v.blocks) × SaysHeader (layout_of v) n (header_at v n)
header-says v main lost n s p from to =
    let l : Layout = layout_of v in
    let inside : 4 * v.home.cluster + n < length v.blocks = omega (arith, p.index, p.bitmap, p.main, p.lost, p.quota) in
    (inside, s.says (4 * v.home.cluster + n) (Header n) (part-header l n p from to) (omega (arith, p.some)) inside)

used-of : (v : Volume) (main lost : List Block) (n : ℕ) → Stands (layout_of v) main lost v → Places (layout_of v) → 1 ≤ n → n ≤ 11
    → head v n ≡ Ok (Used (header_of (layout_of v) n))
used-of v main lost n s p from to =
    let h = header-says v main lost n s p from (omega (arith, s.limits.files_low)) in
    head-of v n _ h.0 (h.1.used to)

-- a header that is made is the first one of its file and the last, and lists the file's blocks
made-only : (l : Layout) (n : ℕ) → IsOnly (header_of l n)
unfolding header_of
made-only l n = record { first = refl; last = refl }

made-blocks : (l : Layout) (n blocks : ℕ) → blocks ≡ blocks_of l n → (header_of l n).blocks ≡ blocks
unfolding header_of
made-blocks l n blocks e = sym e

-- so it is all that there is of the file
told-of : (v : Volume) (main lost : List Block) (n : ℕ) → Stands (layout_of v) main lost v → Places (layout_of v) → 1 ≤ n → n ≤ 11
    → told v n ≡ alone n (header_of (layout_of v) n) (runs_of (layout_of v) n)
told-of v main lost n s p from to =
    let l = layout_of v in
    let lists = (header-says v main lost n s p from (omega (arith, s.limits.files_low))).1.lies to in
    let fit = runs-fit l n s.limits s.room in
    alone_told v n (header_of l n) (used-of v main lost n s p from to) (made-only l n) (made-blocks l n _ (ap blocks_in lists ∙ fit.count))
    ∙ ap (alone n (header_of l n)) lists

lie-of : (v : Volume) (main lost : List Block) (n : ℕ) → Stands (layout_of v) main lost v → Places (layout_of v) → 1 ≤ n → n ≤ 11
    → runs v n ≡ runs_of (layout_of v) n
unfolding runs
lie-of v main lost n s p from to = ap (λ (t : Told). t.runs) (told-of v main lost n s p from to)

no-more : (v : Volume) (main lost : List Block) (n : ℕ) → Stands (layout_of v) main lost v → Places (layout_of v) → 1 ≤ n → n ≤ 11 → has_surplus v n ≡ false
unfolding has_surplus
no-more v main lost n s p from to = ap (λ (t : Told). t.surplus) (told-of v main lost n s p from to)

-- the run of a file with clusters
run-of : (v : Volume) (main lost : List Block) (n : ℕ) → Stands (layout_of v) main lost v → Places (layout_of v) → 1 ≤ n → n ≤ 11 → 1 ≤ clusters_of (layout_of v) n
    → runs v n ≡ record { lbn = first_block (layout_of v) n; count = v.home.cluster * clusters_of (layout_of v) n } ∷ []
run-of v main lost n s p from to some = lie-of v main lost n s p from to ∙ runs-some (layout_of v) n some

bitmap-lies : (v : Volume) (main lost : List Block) → Stands (layout_of v) main lost v → Places (layout_of v) → bitmap_lbn v ≡ first_block (layout_of v) 2
bitmap-lies v main lost s p = ap first_lbn (run-of v main lost 2 s p (omega arith) (omega arith) (bitmap-some (layout_of v) p.some))

numbers-of : (v : Volume) (main lost : List Block) (n : ℕ) → Stands (layout_of v) main lost v → Places (layout_of v) → 1 ≤ n → n ≤ 4096
    → is_used_number v n ≡ nat_le n 11
unfolding is_used_number
numbers-of v main lost n s p from to =
    let inside : 4 * v.home.cluster < length v.blocks = omega (arith, p.index, p.bitmap, p.main, p.lost, p.quota) in
    let says : (i : ℕ) → i < 4096 → bit_at (block_at v (4 * v.home.cluster)) i ≡ nat_lt i 11 =
    s.says (4 * v.home.cluster) Numbers (part-numbers (layout_of v) p) (omega (arith, p.some)) inside in
    says (n - 1) (omega arith) ∙ before n from

clusters-of : (v : Volume) (main lost : List Block) (q : ℕ) → Stands (layout_of v) main lost v → Places (layout_of v) → q < 4096 * storage_blocks (total (layout_of v))
    → is_free_cluster v q ≡ is_free (layout_of v) q
unfolding is_free_cluster
clusters-of v main lost q s p small =
    let l : Layout = layout_of v in
    let k : ℕ = q / 4096 in
    let below : k < storage_blocks (total l) = omega arith in
    let inside : first_block l 2 + 1 + k < length v.blocks = omega (arith, p.bitmap, p.main, p.lost, p.quota) in
    let says : (i : ℕ) → i < 4096 → bit_at (block_at v (first_block l 2 + 1 + k)) i ≡ is_free l (4096 * k + i) =
    s.says (first_block l 2 + 1 + k) (Storage k) (part-storage l k p below) (omega (arith, p.index, p.some)) inside in
    let whole : 4096 * k + q % 4096 ≡ q = omega arith in
    let there : bit_at (block_at v (first_block l 2 + 1 + k)) (q % 4096) ≡ is_free l q = says (q % 4096) (omega arith) ∙ ap (is_free l) whole in
    rw (bitmap-lies v main lost s p) there

control-says : (v : Volume) (main lost : List Block) → Stands (layout_of v) main lost v → Places (layout_of v) → SaysControl (layout_of v) (block_at v (first_block (layout_of v) 2))
control-says v main lost s p =
    let l : Layout = layout_of v in
    s.says (first_block l 2) Control (part-control l p) (omega (arith, p.index, p.some)) (omega (arith, p.bitmap, p.main, p.lost, p.quota))

control-of : (v : Volume) (main lost : List Block) → Stands (layout_of v) main lost v → Places (layout_of v)
    → scb_read (block_at v (bitmap_lbn v)) ≡ Ok (record { cluster = v.home.cluster; blocks = length v.blocks })
control-of v main lost s p = rw (bitmap-lies v main lost s p) (control-says v main lost s p).reads

-- the blocks of a directory
main-body : (v : Volume) (main lost : List Block) → Stands (layout_of v) main lost v → Places (layout_of v) → body v 4 ≡ main
main-body v main lost s p =
    let l : Layout = layout_of v in
    let run = run-of v main lost 4 s p (omega arith) (omega arith) (one-cluster l).0 in
    let count : v.home.cluster * clusters_of l 4 ≡ length main = rw ((one-cluster l).1, s.main_count) (omega arith) in
    let there : (i : ℕ) → i < length main → slice_get main i ≡ Some (block_at v (first_block l 4 + i)) = λ i h.
    s.says (first_block l 4 + i) (Main i) (part-main l i p (omega (arith, s.main_count))) (omega (arith, p.index, p.bitmap, p.some)) (omega (arith, p.main, p.lost, p.quota, s.main_count)) in
    body-run v 4 _ run ∙ ap (λ n. map (block_at v) (range_with_len (first_block l 4) n)) count ∙ picked (block_at v) main (first_block l 4) there

lost-body : (v : Volume) (main lost : List Block) → Stands (layout_of v) main lost v → Places (layout_of v) → body v 11 ≡ lost
lost-body v main lost s p =
    let l : Layout = layout_of v in
    let run = run-of v main lost 11 s p (omega arith) (omega arith) (one-cluster-lost l).0 in
    let count : v.home.cluster * clusters_of l 11 ≡ length lost = rw ((one-cluster-lost l).1, s.lost_count) (omega arith) in
    let there : (i : ℕ) → i < length lost → slice_get lost i ≡ Some (block_at v (first_block l 11 + i)) = λ i h.
    s.says (first_block l 11 + i) (Lost i) (part-lost l i p (omega (arith, s.lost_count))) (omega (arith, p.index, p.bitmap, p.main, p.some)) (omega (arith, p.lost, p.quota, s.lost_count)) in
    body-run v 11 _ run ∙ ap (λ n. map (block_at v) (range_with_len (first_block l 11) n)) count ∙ picked (block_at v) lost (first_block l 11) there

quota-says : (v : Volume) (main lost : List Block) (k : ℕ) → Stands (layout_of v) main lost v → Places (layout_of v) → k < v.home.cluster
    → SaysQuota (layout_of v) k (block_at v (first_block (layout_of v) 10 + k))
quota-says v main lost k s p h =
    s.says (first_block (layout_of v) 10 + k) (Quota k) (part-quota (layout_of v) k p h) (omega (arith, p.index, p.bitmap, p.main, p.lost, p.some)) (omega (arith, p.quota))

rows-of : (v : Volume) (main lost : List Block) → Stands (layout_of v) main lost v → Places (layout_of v) → active_rows v ≡ quota_rows (layout_of v)
unfolding active_rows
rows-of v main lost s p =
    let l : Layout = layout_of v in
    let a : ℕ = first_block l 10 in
    let run = run-of v main lost 10 s p (omega arith) (omega arith) (one-cluster-quota l).0 in
    let count : v.home.cluster * clusters_of l 10 ≡ v.home.cluster = rw (one-cluster-quota l).1 (omega arith) in
    let zeroth : a + 0 ≡ a = omega arith in
    let first : rows_in (block_at v a) ≡ quota_rows l = rw zeroth at (quota-says v main lost 0 s p (omega (arith, p.some))).rows in
    let others : (j : ℕ) → a < j → j < a + v.home.cluster → rows_in (block_at v j) ≡ [] = λ j low high.
    let k : ℕ = j - a in
    let same : a + k ≡ j = omega arith in
    let later = ne_eqb k 0 (λ e. omega arith) in
    let says : rows_in (block_at v j) ≡ (if k == 0 then quota_rows l else []) = rw same at (quota-says v main lost k s p (omega arith)).rows in
    says ∙ rw later refl in
    rw (body-run v 10 _ run ∙ ap (λ n. map (block_at v) (range_with_len a n)) count) (rows-first (block_at v) (quota_rows l) a v.home.cluster p.some first others)

stands-once : (v : Volume) (main lost : List Block) → Stands (layout_of v) main lost v → has_doubles v 4 ≡ false
stands-once v main lost s =
    let p : Places (layout_of v) = places (layout_of v) s.limits s.room in
    ordered_once v 4 (ap (λ bs. rises (all_entries bs)) (main-body v main lost s p) ∙ ap rises s.listed ∙ main-rises)

stands-fresh : (v : Volume) (main lost : List Block) → Stands (layout_of v) main lost v → IsFresh v
stands-fresh v main lost s =
    let p : Places (layout_of v) = places (layout_of v) s.limits s.room in
    record {
      limits = s.limits;
      room = s.room;
      used = λ n from to. used-of v main lost n s p from to;
      lie = λ n from to. lie-of v main lost n s p from to;
      no_more = λ n from to. no-more v main lost n s p from to;
      free = λ n from to. (let h = header-says v main lost n s p (omega arith) to in head-of v n _ h.0 (h.1.free from));
      control = control-of v main lost s p;
      numbers = λ n h. numbers-of v main lost n s p h.from (omega (arith, h.to, s.limits.files_high));
      clusters = λ q h. clusters-of v main lost q s p (omega arith) ∙ front (reserved_clusters (layout_of v)) (total (layout_of v)) q h;
      main = rw (main-body v main lost s p) s.main;
      once = stands-once v main lost s;
      lost = rw (lost-body v main lost s p) s.lost;
      rows = rows-of v main lost s p;
    }

stands-clear : (v : Volume) (main lost : List Block) → Stands (layout_of v) main lost v → IsClear v
stands-clear v main lost s =
    let l : Layout = layout_of v in
    let p : Places l = places l s.limits s.room in
    record {
      clusters = λ q past inside. clusters-of v main lost q s p inside ∙ and_right (nat_le (reserved_clusters l) q) (nat_lt q (total l)) (le-ltb q (total l) past);
      numbers = λ n past inside. numbers-of v main lost n s p (omega arith) inside ∙ lt-leb n 11 (omega (arith, s.limits.files_low));
    }

-- the blocks of a volume whose bytes are exact
pub record IsExact (v : Volume) : Type 0 where
  pub home_copy : block_at v (2 * v.home.cluster) ≡ home_copy_bytes v.home
  pub header_copy : block_at v (3 * v.home.cluster) ≡ block_at v (4 * v.home.cluster + 1)
  pub headers : (n : ℕ) → 1 ≤ n → n ≤ 11 → block_at v (4 * v.home.cluster + n) ≡ header_block (layout_of v) n
  pub slots : (n : ℕ) → 11 < n → n ≤ v.home.files → block_at v (4 * v.home.cluster + n) ≡ zeros
  pub control : block_at v (first_block (layout_of v) 2) ≡ control_block (layout_of v)
  pub main : Some (body v 4) ≡ packed v.home.cluster main_entries
  pub lost : Some (body v 11) ≡ packed v.home.cluster []
  pub quota : (k : ℕ) → k < v.home.cluster → block_at v (first_block (layout_of v) 10 + k) ≡ quota_block (layout_of v) k

stands-exact : (v : Volume) (main lost : List Block) → Stands (layout_of v) main lost v → IsExact v
stands-exact v main lost s =
    let l : Layout = layout_of v in
    let p : Places l = places l s.limits s.room in
    let inside : 4 * v.home.cluster + 1 < length v.blocks = omega (arith, p.index, p.bitmap, p.main, p.lost, p.quota) in
    let home : block_at v (2 * v.home.cluster) ≡ home_copy_bytes v.home =
    s.says (2 * v.home.cluster) HomeCopy (part-home-copy l) (omega (arith, p.some)) (omega (arith, inside)) in
    let header : block_at v (3 * v.home.cluster) ≡ header_block l 1 =
    s.says (3 * v.home.cluster) HeaderCopy (part-header-copy l p) (omega (arith, p.some)) (omega (arith, inside)) in
    let system : (n : ℕ) → 1 ≤ n → n ≤ 11 → block_at v (4 * v.home.cluster + n) ≡ header_block l n = λ n from to.
    (header-says v main lost n s p from (omega (arith, s.limits.files_low))).1.written to in
    record {
      home_copy = home;
      header_copy = header ∙ sym (system 1 (omega arith) (omega arith));
      headers = system;
      slots = λ n from to. (header-says v main lost n s p (omega arith) to).1.freed from ∙ freed-none;
      control = (control-says v main lost s p).bytes;
      main = ap (λ bs. Some bs) (main-body v main lost s p) ∙ s.main_packed;
      lost = ap (λ bs. Some bs) (lost-body v main lost s p) ∙ s.lost_packed;
      quota = λ k h. (quota-says v main lost k s p h).bytes;
    }

pub exact : (v : Volume) (l : Layout) (main lost : List Block) → layout_of v ≡ l → Stands l main lost v → IsExact v
exact v l main lost e s =
    let P : Layout → Type 0 = λ k. Stands k main lost v in
    stands-exact v main lost (subst P (sym e) s)

pub clear : (v : Volume) (l : Layout) (main lost : List Block) → layout_of v ≡ l → Stands l main lost v → IsClear v
clear v l main lost e s =
    let P : Layout → Type 0 = λ k. Stands k main lost v in
    stands-clear v main lost (subst P (sym e) s)

pub fresh : (v : Volume) (l : Layout) (main lost : List Block) → layout_of v ≡ l → Stands l main lost v → IsFresh v
fresh v l main lost e s =
    let P : Layout → Type 0 = λ k. Stands k main lost v in
    stands-fresh v main lost (subst P (sym e) s)
