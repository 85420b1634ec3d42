-- What the blocks spell is what they tell as a volume.
use Rattle.std.proofs.Common.{◌≡◌, ◌<◌, ◌+◌, ◌-◌, ◌/◌, ◌%◌, ℕ, zero, suc, Bool, true, false, List, [], ◌∷◌, Some, length, map, slice_get, refl, sym, ap, subst, ◌∙◌, arith, cond, append-nil, ◌⊎◌, inl, inr, take}
use Rattle.base_words.proofs.Listing.{same_or_not}
use Rattle.fx_dir.specs.Directory.{directory}
use Rattle.std.proofs.lemmas.Bool.Decides.{nat_tests}
use Rattle.std.specs.Prelude.{◌==◌, ◌&&◌, ◌||◌, not, Result, Ok, Err, flat_map, slice_index_or}
use Rattle.std.specs.List.{range_with_len}
use Rattle.std.proofs.lemmas.Bool.{and_parts, lt-ltb}
use Rattle.base_words.specs.Fields.{Block}
use Rattle.fx_header.specs.declared.run.Run.{Run}
use Rattle.fx_header.specs.declared.slot.Hdr.{Hdr}
use Rattle.fx_header.specs.declared.slot.Slot.{Slot as Head}
use Rattle.fx_header.specs.declared.slot.Slot.TheVariants as head
use Rattle.fx_header.specs.declared.slot.HeaderFault.{HeaderFault}
use Rattle.fx_header.specs.Headers.{header_read}
use Rattle.fx_header.specs.Pointers.{lbns_in}
use Rattle.fx_bitmap.specs.Bits.{bit_at}
use Rattle.plain_cat.specs.declared.cat.Cat.{Cat}
use Rattle.plain_cat.specs.declared.cat.Slot.TheVariants as slot
use Rattle.vol_spell.specs.declared.owner.Owner.TheVariants.{InFile}
use Rattle.vol_spell.specs.Owners.{Owners}
use Rattle.vol_spell.specs.Spread.{blocks_at}
use Rattle.vol_parts.specs.declared.geometry.Geometry.{Geometry}
use Rattle.vol_parts.specs.declared.geometry.Part.TheVariants.{Header}
use Rattle.vol_parts.specs.Chains.{Headers, as_first}
use Rattle.vol_parts.specs.ChainLaws.{IsSlot, IsSameSlot}
use Rattle.vol_parts.specs.Volumes.{Volume, IsNumber, headers_of, runs_with, factor, header_lbn, header_at, head as head_of, fields_in, Told, told_by as told_by_head, told as told_in, runs, body, first_lbn, bitmap_lbn, quota_lbn, geometry_of, is_free_cluster, is_used_number, rows_in, active_rows}
use Rattle.vol_parts.specs.Catalogues.{is_structure, slot_with, slot_of, files_of, rows_sorted, written_blocks, entries_in, plain_entries}
use Rattle.vol_parts.specs.Fatal.{is_system_header}
use Rattle.plain_rules.specs.SystemFiles.{system_seq}
use Rattle.plain_rules.specs.SystemFiles.{is_system_directory}
use Rattle.vol_spell.specs.Reading.{IsFileNumber, volume_of, header_place, header_block, head_told, told_of, body_blocks, number_bit, quota_places, rows_told}
use Rattle.vol_spell.specs.Spelling.{Spells}
use Rattle.vol_spell.specs.Telling.{IsToldBy, VolumeTells}
use Rattle.vol_spell.proofs.SameSlots.{told_same}
use Rattle.vol_spell.proofs.Parts.{slot_there, told, part_owned}
use Rattle.vol_spell.proofs.Frames.{on_volume, structure_number}

-- a function's values along a range
pub map_range_is : {A : Type 0} (f : ℕ → A) (a k : ℕ) (xs : List A) → length xs ≡ k → ((i : ℕ) → i < k → slice_get xs i ≡ Some (f (a + i))) → xs ≡ map f (range_with_len a k)
map_range_is f a zero [] len each = refl
map_range_is f a zero (x ∷ xs) len each = absurd (omega arith)
map_range_is f a (suc k) [] len each = absurd (omega arith)
map_range_is f a (suc k) (x ∷ xs) len each =
    let first : x ≡ f a = (let h : Some x ≡ Some (f (a + 0)) = each 0 (omega arith) in let z : a + 0 ≡ a = omega arith in let e : x ≡ f (a + 0) = cc in e ∙ ap f z) in
    let rest = map_range_is f (a + 1) k xs (omega arith) (λ i lt. each (suc i) (omega arith) ∙ ap (λ j. Some (f j)) (let z : a + suc i ≡ a + 1 + i = omega arith in z)) in
    λ i. first i ∷ rest i

pub head_there : (v : Volume) (n : ℕ) → header_lbn v n < length v.blocks → head_of v n ≡ header_read (header_at v n)
unfolding head_of
head_there v n lt = rw (lt-ltb (header_lbn v n) (length v.blocks) lt) refl

-- the header slots, read by their blocks
abbrev headers_seen : Volume → Headers
headers_seen v = record {
  files = v.home.files;
  says = λ m. fields_in (header_read (header_at v m));
  lists = λ m. runs_with (fields_in (header_read (header_at v m))) (header_at v m);
}

-- where all header slots are inside the blocks, what is told of a file is told by these
pub told_there : (v : Volume) (n : ℕ) → ((m : ℕ) → IsNumber v m → head_of v m ≡ header_read (header_at v m)) → IsNumber v n → told_in v n ≡ told_by_head (headers_seen v) n (head_told (header_at v n))
told_there v n heads is =
    ap (λ r. told_by_head (headers_of v) n (as_first r)) (heads n is)
    ∙ told_same (headers_seen v) (headers_of v) n (head_told (header_at v n)) (record { files = refl; slots = same }) (record { from = is.from; to = is.to })
  where
    same : (m : ℕ) → IsSlot (headers_seen v) m → IsSameSlot (headers_seen v) (headers_of v) m
    same m k =
        let e = heads m (record { from = k.from; to = k.to }) in
        record { says = ap fields_in e; lists = ap (λ r. runs_with (fields_in r) (header_at v m)) e }

pub runs_there : (v : Volume) (n : ℕ) (t : Told) → told_in v n ≡ t → runs v n ≡ t.runs
unfolding runs
runs_there v n t e = ap (λ (x : Told). x.runs) e

pub body_there : (v : Volume) (n : ℕ) (rs : List Run) → runs v n ≡ rs → body v n ≡ blocks_at v.blocks (lbns_in rs)
unfolding body
body_there v n rs e = ap (λ xs. blocks_at v.blocks (lbns_in xs)) e

pub free_cluster_at : (v : Volume) (q lbn : ℕ) → bitmap_lbn v ≡ lbn → is_free_cluster v q ≡ bit_at (slice_index_or v.blocks (lbn + 1 + q / 4096) []) (q % 4096)
unfolding is_free_cluster
free_cluster_at v q lbn e = ap (λ x. bit_at (slice_index_or v.blocks (x + 1 + q / 4096) []) (q % 4096)) e

used_number_at : (g : Geometry) (bs : List Block) (n : ℕ) → is_used_number (volume_of g bs) n ≡ number_bit g bs n
unfolding is_used_number
used_number_at g bs n = refl

pub rows_there : (v : Volume) (blocks : List Block) → body v 10 ≡ blocks → active_rows v ≡ flat_map rows_in blocks
unfolding active_rows
rows_there v blocks e = ap (λ xs. flat_map rows_in xs) e

pub slot_there_of : (v : Volume) (n : ℕ) (t : Told) (blocks : List Block) → told_in v n ≡ t → body v n ≡ blocks → slot_of v n ≡ slot_with (factor v) n t.head blocks
unfolding slot_of
slot_there_of v n t blocks e f = ap (λ (x : Told). slot_with (factor v) n x.head (body v n)) e ∙ ap (λ xs. slot_with (factor v) n t.head xs) f

-- the slot of a file that holds parts does not tell of its blocks
pub no_dir : (n : ℕ) (f : Hdr) → is_system_directory n ≡ false → is_system_header n (Some f) ≡ true → f.dir ≡ false
no_dir n f d e = by_dir f.dir refl where
  by_dir : (t : Bool) → f.dir ≡ t → f.dir ≡ false
  by_dir false h = h
  by_dir true h =
      let all = and_parts (f.seq == system_seq n) ((not (f.dir) || is_system_directory n) && ((f.dir || not (is_system_directory n)) && not f.marked)) e in
      let one = (and_parts (not (f.dir) || is_system_directory n) ((f.dir || not (is_system_directory n)) && not f.marked) all.1).0 in
      let t : not true || false ≡ true = ap (λ x. not true || x) (sym d) ∙ ap (λ x. not x || is_system_directory n) (sym h) ∙ one in
      let u : false ≡ true = t in
      absurd (cc)

blind : (factor n : ℕ) (r : Result Head HeaderFault) (xs ys : List Block) → is_structure n ≡ true → is_system_directory n ≡ false → is_system_header n (fields_in r) ≡ true → slot_with factor n r xs ≡ slot_with factor n r ys
blind factor n (Err fault) xs ys st d e = refl
blind factor n (Ok (head.Free seq)) xs ys st d e = refl
blind factor n (Ok (head.Used f)) xs ys st d e =
    let h : f.dir ≡ false = no_dir n f d e in
    let here : (zs : List Block) → written_blocks n f zs ≡ [] = λ zs. ap (λ t. cond (f.dir || t) [] (cond (f.mark == 0) zs (take (f.mark - 1) zs))) st ∙ ap (λ t. cond (t || true) [] (cond (f.mark == 0) zs (take (f.mark - 1) zs))) h in
    let none : (zs : List Block) → entries_in f zs ≡ [] = λ zs. ap (λ t. cond t (plain_entries (directory zs)) []) h in
    ap (λ w. slot.Used (record { seq = f.seq; owner = record { 0 = f.owner }; dir = f.dir; clusters = f.blocks / factor; mark = f.mark; end = f.end; byte = f.byte; marked = f.marked; written = w; entries = entries_in f xs })) (here xs ∙ sym (here ys))
    ∙ ap (λ es. slot.Used (record { seq = f.seq; owner = record { 0 = f.owner }; dir = f.dir; clusters = f.blocks / factor; mark = f.mark; end = f.end; byte = f.byte; marked = f.marked; written = written_blocks n f ys; entries = es })) (none xs ∙ sym (none ys))

pub no_directory : (n : ℕ) → is_structure n ≡ true → is_system_directory n ≡ false
no_directory n e = grind (arith, nat_tests)

pub which_structure : (n : ℕ) → is_structure n ≡ true → (n ≡ 1) ⊎ ((n ≡ 2) ⊎ (n ≡ 10))
which_structure n e = elim (same_or_not n 1) [
  | inl one ↦ inl one
  | inr a ↦ elim (same_or_not n 2) [
    | inl two ↦ inr (inl two)
    | inr b ↦ inr (inr (grind (arith, nat_tests)))
  ]
]

-- the blocks of a file, as its slot tells of them
pub seen : (g : Geometry) (bs : List Block) (n : ℕ) (t : Told) → (is_structure n ≡ true → is_system_header n (fields_in t.head) ≡ true)
    → slot_with g.cluster n t.head (blocks_at bs (lbns_in t.runs)) ≡ slot_with g.cluster n t.head (body_blocks bs n t)
seen g bs n t system = by_kind (is_structure n) refl where
  by_kind : (k : Bool) → is_structure n ≡ k → slot_with g.cluster n t.head (blocks_at bs (lbns_in t.runs)) ≡ slot_with g.cluster n t.head (body_blocks bs n t)
  by_kind true e = blind g.cluster n t.head _ _ e (no_directory n e) (system e)
  by_kind false e = ap (λ k. slot_with g.cluster n t.head (blocks_at bs (cond k [] (lbns_in t.runs)))) (sym e)

module _ (g : Geometry) (bs : List Block) (own : Owners) (c : Cat) (s : Spells g bs own c) where
  v_head : (n : ℕ) → IsFileNumber g n → head_of (volume_of g bs) n ≡ header_read (header_block g bs n)
  v_head n is = head_there (volume_of g bs) n (on_volume g bs own c s (header_place g n) (InFile 1) (part_owned g bs own c s (Header n) is))

  v_told : (n : ℕ) → IsFileNumber g n → told_in (volume_of g bs) n ≡ told_of g bs n
  v_told n is = told_there (volume_of g bs) n (λ m k. v_head m (record { from = k.from; to = k.to })) (record { from = is.from; to = is.to })

  v_runs : (n : ℕ) → IsFileNumber g n → runs (volume_of g bs) n ≡ (told_of g bs n).runs
  v_runs n is = runs_there (volume_of g bs) n (told_of g bs n) (v_told n is)

  v_body : (n : ℕ) → IsFileNumber g n → body (volume_of g bs) n ≡ blocks_at bs (lbns_in (told_of g bs n).runs)
  v_body n is = body_there (volume_of g bs) n _ (v_runs n is)

  v_bitmap : bitmap_lbn (volume_of g bs) ≡ g.bitmap_lbn
  v_bitmap = ap first_lbn (v_runs 2 (structure_number g bs own c s 2 refl) ∙ s.structures.bitmap.run)

  v_quota : quota_lbn (volume_of g bs) ≡ g.quota_lbn
  v_quota = ap first_lbn (v_runs 10 (structure_number g bs own c s 10 refl) ∙ s.structures.quota.run)

  v_geometry : geometry_of (volume_of g bs) ≡ g
  v_geometry =
      ap (λ k. record { blocks = k; cluster = g.cluster; files = g.files; bitmap_lbn = bitmap_lbn (volume_of g bs); quota_lbn = quota_lbn (volume_of g bs) }) s.counts.blocks
      ∙ ap (λ k. record { blocks = g.blocks; cluster = g.cluster; files = g.files; bitmap_lbn = k; quota_lbn = quota_lbn (volume_of g bs) }) v_bitmap
      ∙ ap (λ k. record { blocks = g.blocks; cluster = g.cluster; files = g.files; bitmap_lbn = g.bitmap_lbn; quota_lbn = k }) v_quota

  v_rows : active_rows (volume_of g bs) ≡ rows_told g bs
  v_rows = rows_there (volume_of g bs) _ (v_body 10 (structure_number g bs own c s 10 refl)) ∙ ap (λ rs. flat_map rows_in (blocks_at bs (lbns_in rs))) s.structures.quota.run
      ∙ ap (λ ls. flat_map rows_in (blocks_at bs ls)) (append-nil (quota_places g))

  system : (n : ℕ) → is_structure n ≡ true → is_system_header n (fields_in (told_of g bs n).head) ≡ true
  system n e =
      let P : ℕ → Type 0 = λ k. is_system_header k (fields_in (told_of g bs k).head) ≡ true in
      elim (which_structure n e) [
        | inl one ↦ subst P (sym one) s.structures.index.header
        | inr more ↦ elim more [ inl two ↦ subst P (sym two) s.structures.bitmap.header | inr ten ↦ subst P (sym ten) s.structures.quota.header ]
      ]

  v_files : c.files ≡ files_of (volume_of g bs)
  unfolding files_of
  v_files = map_range_is (slot_of (volume_of g bs)) 1 g.files c.files s.counts.slots each where
    each : (i : ℕ) → i < g.files → slice_get c.files i ≡ Some (slot_of (volume_of g bs) (1 + i))
    each i lt =
        let is : IsFileNumber g (1 + i) = record { from = omega arith; to = omega arith } in
        let z : 1 + i - 1 ≡ i = omega arith in
        let t = told g bs own c s (1 + i) is in
        ap (slice_get c.files) (sym z) ∙ slot_there g bs own c s (1 + i) is
        ∙ ap (λ x. Some x) (sym (slot_there_of (volume_of g bs) (1 + i) (told_of g bs (1 + i)) _ (v_told (1 + i) is) (v_body (1 + i) is) ∙ seen g bs (1 + i) (told_of g bs (1 + i)) (system (1 + i)) ∙ t.slot))

  pub told_by : IsToldBy g bs c
  told_by = record {
    geometry = v_geometry;
    heads = v_head;
    told = v_told;
    runs = v_runs;
    bodies = v_body;
    cluster_bits = λ q. free_cluster_at (volume_of g bs) q g.bitmap_lbn v_bitmap;
    number_bits = λ n. used_number_at g bs n;
    rows = v_rows;
    files = v_files;
    quota = s.rows.quota ∙ ap rows_sorted (sym v_rows);
  }

pub volume_tells : VolumeTells
volume_tells g bs own c s = told_by g bs own c s
