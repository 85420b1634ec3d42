-- Where the bitmaps lie: the storage bitmap behind the storage control block, apart from the block of the index-file bitmap.
use Rattle.std.proofs.Common.{◌≡◌, ◌≢◌, ◌<◌, ◌≤◌, ◌+◌, ◌*◌, ◌/◌, ℕ, true, false, List, [], ◌∷◌, Some, slice_get, refl, sym, ap, inr, arith}
use Rattle.std.specs.Prelude.{◌&&◌}
use Rattle.std.proofs.lemmas.Bool.{and_parts, and_from, eqb-true, lt-ltb, le-leb}
use Rattle.fx_home.specs.Homes.{IsWithinLimits}
use Rattle.fx_header.specs.declared.run.Run.{Run}
use Rattle.vol_parts.specs.Parts.{storage_blocks}
use Rattle.vol_parts.specs.Volumes.{Volume, factor, total, fields, told, runs, first_lbn, bitmap_lbn, is_in_run}
use Rattle.vol_parts.specs.Fatal.{in_whole_clusters, stated_clusters, is_stated_run, are_stated, has_one_header, is_system_header, is_system_file, IsInRun}
use Rattle.vol_sound.specs.Freeing.{HasSystem}
use Rattle.vol_repair.specs.Touched.{IsBitPlace}

-- a file of one run of so many blocks, which begins at this LBN
pub record IsOneRun (v : Volume) (n lbn blocks : ℕ) : Type 0 where
  pub run : Run
  pub there : slice_get (runs v n) 0 ≡ Some run
  pub from : run.lbn ≡ lbn
  pub count : run.count ≡ blocks

-- a run of a stated size, and where that of the index file begins
stated_run : (v : Volume) (n clusters : ℕ) (rs : List Run) → are_stated v n (Some clusters) rs ≡ true → (r : Run) × (rs ≡ r ∷ []) × (is_stated_run v n clusters r ≡ true)
stated_run v n clusters [] e = absurd (let f : false ≡ true = e in cc)
stated_run v n clusters (r ∷ []) e = (r, refl, e)
stated_run v n clusters (r ∷ q ∷ rs) e = absurd (let f : false ≡ true = e in cc)

in_run_by : (f q : ℕ) (r : Run) → r.lbn < f * (q + 1) → f * q < r.lbn + r.count → is_in_run f q r ≡ true
unfolding is_in_run
in_run_by f q r a b = and_from _ _ (lt-ltb r.lbn (f * (q + 1)) a) (lt-ltb (f * q) (r.lbn + r.count) b)

-- a block of a run lies in a cluster of it
block_in_run : (f l : ℕ) (r : Run) → 1 ≤ f → r.lbn ≤ l → l < r.lbn + r.count → is_in_run f (l / f) r ≡ true
block_in_run f l r low from to =
    let down : f * (l / f) ≤ l = omega arith in
    let up : l < f * (l / f + 1) = omega arith in
    in_run_by f (l / f) r (omega arith) (omega arith)

room : (f k x : ℕ) → 1 ≤ f → x < k → x < f * in_whole_clusters f k
room f k x low lt = omega arith

module _ (v : Volume) (within : IsWithinLimits v.home) (system : HasSystem v) where
  low : 1 ≤ factor v
  low = within.cluster_low

  index_stated : are_stated v 1 (Some (in_whole_clusters (factor v) (4 * factor v + 1 + v.home.files))) (runs v 1) ≡ true
  unfolding is_system_file stated_clusters
  index_stated =
      let e : is_system_file v 1 ≡ true = system.files.sound 1 (omega arith) (omega arith) in
      let a = and_parts (is_system_header 1 (fields v 1)) (has_one_header (fields v 1) (told v 1) && are_stated v 1 (stated_clusters v 1) (runs v 1)) e in
      (and_parts (has_one_header (fields v 1) (told v 1)) (are_stated v 1 (stated_clusters v 1) (runs v 1)) a.1).1

  bitmap_stated : are_stated v 2 (Some (in_whole_clusters (factor v) (1 + storage_blocks (total v)))) (runs v 2) ≡ true
  unfolding is_system_file stated_clusters
  bitmap_stated =
      let e : is_system_file v 2 ≡ true = system.files.sound 2 (omega arith) (omega arith) in
      let a = and_parts (is_system_header 2 (fields v 2)) (has_one_header (fields v 2) (told v 2) && are_stated v 2 (stated_clusters v 2) (runs v 2)) e in
      (and_parts (has_one_header (fields v 2) (told v 2)) (are_stated v 2 (stated_clusters v 2) (runs v 2)) a.1).1

  index_run : IsOneRun v 1 0 (factor v * in_whole_clusters (factor v) (4 * factor v + 1 + v.home.files))
  index_run =
      let h = stated_run v 1 _ (runs v 1) index_stated in
      let a = and_parts _ _ h.2 in
      let b = and_parts _ _ a.1 in
      record { run = h.0; there = ap (λ rs. slice_get rs 0) h.1; from = eqb-true h.0.lbn 0 b.1; count = eqb-true _ _ a.0 }

  bitmap_run : IsOneRun v 2 (bitmap_lbn v) (factor v * in_whole_clusters (factor v) (1 + storage_blocks (total v)))
  bitmap_run =
      let h = stated_run v 2 _ (runs v 2) bitmap_stated in
      let a = and_parts _ _ h.2 in
      record { run = h.0; there = ap (λ rs. slice_get rs 0) h.1; from = sym (ap first_lbn h.1); count = eqb-true _ _ a.0 }

  -- no block of the storage bitmap is that of the index-file bitmap
  pub bitmaps_apart : (k : ℕ) → k ≤ storage_blocks (total v) → bitmap_lbn v + k ≢ 4 * factor v
  bitmaps_apart k few e =
      let i = index_run in
      let b = bitmap_run in
      let l : ℕ = 4 * factor v in
      let files = within.files_low in
      let mine = room (factor v) (4 * factor v + 1 + v.home.files) (4 * factor v) low (omega arith) in
      let theirs = room (factor v) (1 + storage_blocks (total v)) k low (omega arith) in
      let i_from = i.from in
      let i_count = i.count in
      let b_from = b.from in
      let b_count = b.count in
      let one : IsInRun v (4 * factor v / factor v) 1 0 =
      record { number = record { from = omega arith; to = omega arith }; run = i.run; there = i.there; inside = block_in_run (factor v) (4 * factor v) i.run low (omega arith) (omega arith) } in
      let two : IsInRun v (4 * factor v / factor v) 2 0 =
      record { number = record { from = omega arith; to = omega arith }; run = b.run; there = b.there; inside = block_in_run (factor v) (4 * factor v) b.run low (omega arith) (omega arith) } in
      let same = (system.apart (4 * factor v / factor v) 1 0 2 0 (omega arith) (omega arith) one two).0 in
      omega arith

  -- and each of them is the place of bits
  pub storage_place : (k : ℕ) → k < storage_blocks (total v) → IsBitPlace v (bitmap_lbn v + 1 + k)
  storage_place k lt = inr (and_from _ _ (le-leb (bitmap_lbn v + 1) (bitmap_lbn v + 1 + k) (omega arith)) (lt-ltb (bitmap_lbn v + 1 + k) (bitmap_lbn v + 1 + storage_blocks (total v)) (omega arith)))
