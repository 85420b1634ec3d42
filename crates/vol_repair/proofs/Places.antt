-- Where the files lie that a repair keeps: apart from one another, and what lies in each that a repair may write.
use Rattle.std.proofs.Common.{◌≡◌, ◌∙◌, ◌<◌, ◌≤◌, ◌+◌, ◌-◌, ◌*◌, ◌/◌, ◌%◌, ◌⊎◌, ℕ, zero, suc, Bool, true, false, not, List, [], ◌∷◌, Some, None, length, slice_get, refl, sym, ap, subst, inl, inr, arith}
use Rattle.std.specs.Prelude.{◌==◌, ◌&&◌, ◌||◌, nat_lt, nat_le}
use Rattle.std.specs.List.{range_with_len}
use Rattle.std.proofs.Math.Nat.{mul-div-le}
use Rattle.std.proofs.lemmas.Bool.{and_parts, and_from, or_cases, both_ways, not-false, ltb-true, leb-true, eqb-true, lt-ltb, eq-eqb, cases_Bool}
use Rattle.base_words.specs.Fields.{Block}
use Rattle.base_words.specs.Lists.{Has}
use Rattle.base_words.proofs.Listing.{has_parted, has_first, has_second, has_any, has_at}
use Rattle.fx_home.specs.declared.home.Home.{Home}
use Rattle.fx_home.specs.Homes.{IsWithinLimits}
use Rattle.fx_header.specs.declared.run.Run.{Run}
use Rattle.fx_header.specs.Pointers.{lbns_in}
use Rattle.vol_parts.specs.Parts.{is_among, storage_blocks}
use Rattle.vol_parts.specs.Volumes.{Volume, volume, IsNumber, factor, total, header_lbn, fields, told, runs, is_in_run, is_in_file, first_lbn, bitmap_lbn}
use Rattle.vol_parts.specs.Fatal.{has_one_header, in_whole_clusters, is_system_header, stated_clusters, are_stated, is_system_file, is_off_bounds}
use Rattle.vol_faults.specs.Conditions.{has_run_off}
use Rattle.vol_sound.specs.Sound.{has_cut, is_sound}
use Rattle.vol_sound.specs.Kept.{is_marked_directory}
use Rattle.vol_sound.specs.Freeing.{HasSystem, is_header_place}
use Rattle.vol_sound.proofs.Cuts.{in_range, range_in, sound_parts, sound_alone}
use Rattle.vol_sound.proofs.Bodies.{IsBlockOf}
use Rattle.vol_repair.specs.Touched.{places, is_remade, IsDirPlace, IsRowPlace, IsBitPlace, IsTouchable}

-- ---- the blocks of runs

-- a block of runs is in one of them
pub block_of : (rs : List Run) (l : ℕ) → Has (lbns_in rs) l → IsBlockOf rs l
block_of [] l t = absurd t
block_of (r ∷ rs) l t = elim (has_parted (range_with_len r.lbn r.count) (lbns_in rs) l t) [
  | inl here ↦ let h = in_range r.lbn r.count l here in record { place = 0; run = r; there = refl; from = h.0; to = h.1 }
  | inr behind ↦ let h = block_of rs l behind in record { place = suc h.place; run = h.run; there = h.there; from = h.from; to = h.to }
]

-- and a block in one of them is a block of the runs
pub in_blocks : (rs : List Run) (k l : ℕ) (r : Run) → slice_get rs k ≡ Some r → r.lbn ≤ l → l < r.lbn + r.count → Has (lbns_in rs) l
in_blocks [] k l r e a b = absurd (let z : None ≡ Some r = e in cc)
in_blocks (q ∷ rs) zero l r e a b =
    let same : q ≡ r = (let z : Some q ≡ Some r = e in cc) in
    has_first (range_with_len q.lbn q.count) (lbns_in rs) l (subst (λ (x : Run). Has (range_with_len x.lbn x.count) l) (sym same) (range_in r.lbn r.count l a b))
in_blocks (q ∷ rs) (suc k) l r e a b = has_second (range_with_len q.lbn q.count) (lbns_in rs) l (in_blocks rs k l r e a b)

in_run_by : (f q : ℕ) (r : Run) → r.lbn < f * (q + 1) → f * q < r.lbn + r.count → is_in_run f q r ≡ true
unfolding is_in_run
in_run_by f q r a b = and_from _ _ (lt-ltb r.lbn (f * (q + 1)) a) (lt-ltb (f * q) (r.lbn + r.count) b)

-- a block lies in a run's cluster
block_in_run : (f l : ℕ) (r : Run) → 1 ≤ f → r.lbn ≤ l → l < r.lbn + r.count → is_in_run f (l / f) r ≡ true
block_in_run f l r low from to =
    let down : f * (l / f) ≤ l = omega arith in
    let up : l < f * (l / f + 1) = omega arith in
    in_run_by f (l / f) r (omega arith) (omega arith)

in_file_by : (v : Volume) (q n k : ℕ) (r : Run) → slice_get (runs v n) k ≡ Some r → is_in_run (factor v) q r ≡ true → is_in_file v q n ≡ true
in_file_by v q n k r e t = has_any (is_in_run (factor v) q) (runs v n) r (has_at (runs v n) k r e) t

-- a run of whole clusters of the volume ends before these do
run_inside : (v : Volume) (r : Run) → is_off_bounds v r ≡ false → r.lbn + r.count ≤ factor v * total v
unfolding is_off_bounds
run_inside v r off =
    let t = not-false _ off in
    let u = (and_parts (r.lbn % factor v == 0) ((r.count % factor v == 0) && nat_le (r.lbn + r.count) (factor v * total v)) t).1 in
    let w = (and_parts (r.count % factor v == 0) (nat_le (r.lbn + r.count) (factor v * total v)) u).1 in
    leb-true _ _ w

-- ---- files of a stated size

-- the one run of such a file
pub record IsOneRun (v : Volume) (rs : List Run) (n clusters : ℕ) : Type 0 where
  pub run : Run
  pub alone : rs ≡ run ∷ []
  pub count : run.count ≡ factor v * clusters
  pub begins : n ≡ 1 → run.lbn ≡ 0

one_run : (v : Volume) (n clusters : ℕ) (rs : List Run) → are_stated v n (Some clusters) rs ≡ true → IsOneRun v rs n clusters
one_run v n clusters [] e = absurd (let f : false ≡ true = e in cc)
one_run v n clusters (r ∷ []) e =
    let a = and_parts (r.count == factor v * clusters) (nat_le (r.lbn + r.count) (factor v * total v) && (not (n == 1) || (r.lbn == 0))) e in
    let b = and_parts (nat_le (r.lbn + r.count) (factor v * total v)) (not (n == 1) || (r.lbn == 0)) a.1 in
    record { run = r; alone = refl; count = eqb-true _ _ a.0; begins = λ one. eqb-true r.lbn 0 (by_first (n == 1) (r.lbn == 0) (eq-eqb n 1 one) b.1) }
  where
    by_first : (a b : Bool) → a ≡ true → (not a || b) ≡ true → b ≡ true
    by_first true b t e = e
    by_first false b t e = absurd (let z : false ≡ true = t in cc)
one_run v n clusters (r ∷ q ∷ rs) e = absurd (let f : false ≡ true = e in cc)

stated_run : (v : Volume) (n clusters : ℕ) → stated_clusters v n ≡ Some clusters → is_system_file v n ≡ true → IsOneRun v (runs v n) n clusters
unfolding is_system_file
stated_run v n clusters s e =
    let p = and_parts (is_system_header n (fields v n)) (has_one_header (fields v n) (told v n) && are_stated v n (stated_clusters v n) (runs v n)) e in
    let q = and_parts (has_one_header (fields v n) (told v n)) (are_stated v n (stated_clusters v n) (runs v n)) p.1 in
    one_run v n clusters (runs v n) (sym (ap (λ o. are_stated v n o (runs v n)) s) ∙ q.1)

index_run : (v : Volume) → is_system_file v 1 ≡ true → IsOneRun v (runs v 1) 1 (in_whole_clusters (factor v) (4 * factor v + 1 + v.home.files))
unfolding stated_clusters
index_run v e = stated_run v 1 (in_whole_clusters (factor v) (4 * factor v + 1 + v.home.files)) refl e

bitmap_run : (v : Volume) → is_system_file v 2 ≡ true → IsOneRun v (runs v 2) 2 (in_whole_clusters (factor v) (1 + storage_blocks (total v)))
unfolding stated_clusters
bitmap_run v e = stated_run v 2 (in_whole_clusters (factor v) (1 + storage_blocks (total v))) refl e

-- so many blocks have room in whole clusters
room : (f k x : ℕ) → 1 ≤ f → x < k → x < f * in_whole_clusters f k
room f k x low lt = omega arith

run_has : (rs : List Run) (r : Run) (l : ℕ) → rs ≡ r ∷ [] → r.lbn ≤ l → l < r.lbn + r.count → Has (lbns_in rs) l
run_has rs r l alone a b = in_blocks rs 0 l r (ap (λ xs. slice_get xs 0) alone) a b

-- ---- files that are kept

-- a number is that of a system file or of a sound one
pub record IsKeptFile (v : Volume) (n : ℕ) : Type 0 where
  pub number : IsNumber v n
  pub kind : (n ≤ 11) ⊎ (is_sound v n ≡ true)

-- a block is one of such a file
pub record IsKeptPlace (v : Volume) (l : ℕ) : Type 0 where
  pub file : ℕ
  pub kept : IsKeptFile v file
  pub block : Has (places v file) l

-- what a directory is that a repair may write
pub remade_kinds : (v : Volume) (n : ℕ) → is_remade v n ≡ true → (n ≡ 4) ⊎ ((n ≡ 11) ⊎ ((is_sound v n ≡ true) × (is_marked_directory v n ≡ true)))
remade_kinds v n e = elim (or_cases (n == 4) ((n == 11) || (is_sound v n && is_marked_directory v n)) e) [
  | inl main ↦ inl (eqb-true n 4 main)
  | inr more ↦ elim (or_cases (n == 11) (is_sound v n && is_marked_directory v n) more) [
    | inl lost ↦ inr (inl (eqb-true n 11 lost))
    | inr marked ↦ inr (inr (and_parts (is_sound v n) (is_marked_directory v n) marked))
  ]
]

module _ (home : Home) (first : List Block) (within : IsWithinLimits home) (system : HasSystem (volume home first)) where
  abbrev v : Volume
  v = volume home first

  low : 1 ≤ home.cluster
  low = within.cluster_low

  pub low_kept_file : (n : ℕ) → 1 ≤ n → n ≤ 11 → IsKeptFile v n
  low_kept_file n a b = let f = within.files_low in record { number = record { from = a; to = (let h : n ≤ home.files = omega arith in h) }; kind = inl b }

  pub sound_kept_file : (n : ℕ) → IsNumber v n → is_sound v n ≡ true → IsKeptFile v n
  sound_kept_file n is s = record { number = is; kind = inr s }

  cut_of : (n : ℕ) → IsKeptFile v n → has_cut v n ≡ true
  cut_of n k = elim k.kind [ inl few ↦ system.cuts n k.number.from few | inr s ↦ (sound_parts v n s).cut ]

  inside_of : (n : ℕ) → IsKeptFile v n → has_run_off v n ≡ false
  inside_of n k = elim k.kind [ inl few ↦ system.inside n k.number.from few | inr s ↦ (sound_parts v n s).inside ]

  -- a file's run has the cluster of a block of the file
  in_run : (n l : ℕ) (t : Has (places v n) l) → is_in_run home.cluster (l / home.cluster) (block_of (runs v n) l t).run ≡ true
  in_run n l t = let b = block_of (runs v n) l t in block_in_run home.cluster l b.run low b.from b.to

  in_file : (n l : ℕ) → Has (places v n) l → is_in_file v (l / home.cluster) n ≡ true
  in_file n l t = let b = block_of (runs v n) l t in in_file_by v (l / home.cluster) n b.place b.run b.there (in_run n l t)

  -- no block is in two files that are kept
  pub kept_apart : (n m l : ℕ) → IsKeptFile v n → IsKeptFile v m → Has (places v n) l → Has (places v m) l → n ≡ m
  kept_apart n m l a b t u = by_kinds a.kind b.kind where
    by_kinds : (n ≤ 11) ⊎ (is_sound v n ≡ true) → (m ≤ 11) ⊎ (is_sound v m ≡ true) → n ≡ m
    by_kinds (inr s) other = sound_alone v (l / home.cluster) n m a.number b.number (sound_parts v n s) (cut_of m b) (in_file n l t) (in_file m l u)
    by_kinds (inl few) (inr s) = sym (sound_alone v (l / home.cluster) m n b.number a.number (sound_parts v m s) (cut_of n a) (in_file m l u) (in_file n l t))
    by_kinds (inl few) (inl less) =
        let x = block_of (runs v n) l t in
        let y = block_of (runs v m) l u in
        (system.apart (l / home.cluster) n x.place m y.place few less
        (record { number = a.number; run = x.run; there = x.there; inside = in_run n l t })
        (record { number = b.number; run = y.run; there = y.there; inside = in_run m l u })).0

  -- each block of a file that is kept is one of the volume's
  pub kept_on : (n l : ℕ) → IsKeptFile v n → Has (places v n) l → l < length first
  unfolding has_run_off
  kept_on n l k t = by_off (cases_Bool (is_off_bounds v x.run)) where
    x : IsBlockOf (runs v n) l
    x = block_of (runs v n) l t

    by_off : (is_off_bounds v x.run ≡ true) ⊎ (is_off_bounds v x.run ≡ false) → l < length first
    by_off (inl bad) = absurd (both_ways _ (inside_of n k) (has_any (is_off_bounds v) (runs v n) x.run (has_at (runs v n) x.place x.run x.there) bad))
    by_off (inr good) =
        let to = x.to in
        let end : x.run.lbn + x.run.count ≤ home.cluster * (length first / home.cluster) = run_inside v x.run good in
        let all : home.cluster * (length first / home.cluster) ≤ length first = mul-div-le (length first) home.cluster in
        omega arith

  -- ---- fixed places

  -- the index file has all blocks up to its last header slot
  pub in_front : (l : ℕ) → l < 4 * home.cluster + 1 + home.files → Has (places v 1) l
  in_front l lt =
      let h = index_run v (system.files.sound 1 (omega arith) (omega arith)) in
      let begins = h.begins refl in
      let count : h.run.count ≡ home.cluster * in_whole_clusters home.cluster (4 * home.cluster + 1 + home.files) = h.count in
      let enough = room home.cluster (4 * home.cluster + 1 + home.files) l low lt in
      run_has (runs v 1) h.run l h.alone (omega arith) (omega arith)

  pub header_in_front : (l : ℕ) → is_header_place v l ≡ true → Has (places v 1) l
  header_in_front l e =
      let h = and_parts (nat_le (header_lbn v 1) l) (nat_lt l (header_lbn v 1 + v.home.files)) e in
      let hi : l < header_lbn v 1 + home.files = ltb-true _ _ h.1 in
      in_front l (omega arith)

  -- the storage control block and the storage bitmap are in file 2
  pub in_bitmap : (k : ℕ) → k < 1 + storage_blocks (total v) → Has (places v 2) (bitmap_lbn v + k)
  in_bitmap k lt =
      let h = bitmap_run v (system.files.sound 2 (omega arith) (omega arith)) in
      let count : h.run.count ≡ home.cluster * in_whole_clusters home.cluster (1 + storage_blocks (total v)) = h.count in
      let begins : bitmap_lbn v ≡ h.run.lbn = ap first_lbn h.alone in
      let enough = room home.cluster (1 + storage_blocks (total v)) k low lt in
      run_has (runs v 2) h.run (bitmap_lbn v + k) h.alone (omega arith) (omega arith)

  pub storage_in_bitmap : (l : ℕ) → is_among (bitmap_lbn v + 1) (storage_blocks (total v)) l ≡ true → Has (places v 2) l
  storage_in_bitmap l e =
      let h = and_parts (nat_le (bitmap_lbn v + 1) l) (nat_lt l (bitmap_lbn v + 1 + storage_blocks (total v))) e in
      let lo = leb-true _ _ h.0 in
      let hi = ltb-true _ _ h.1 in
      let there : bitmap_lbn v + (l - bitmap_lbn v) ≡ l = omega arith in
      subst (λ (k : ℕ). Has (places v 2) k) there (in_bitmap (l - bitmap_lbn v) (omega arith))

  -- ---- what a repair may write

  dir_kept : (l : ℕ) (d : IsDirPlace v l) → IsKeptFile v d.dir
  dir_kept l d = elim (remade_kinds v d.dir d.remade) [
    | inl main ↦ low_kept_file d.dir (omega arith) (omega arith)
    | inr more ↦ elim more [
      | inl lost ↦ low_kept_file d.dir (omega arith) (omega arith)
      | inr marked ↦ sound_kept_file d.dir d.number marked.0
    ]
  ]

  -- a directory's block lies in a file that is kept only if that is the directory
  pub dir_in : (n l : ℕ) → IsKeptFile v n → Has (places v n) l → IsDirPlace v l → is_remade v n ≡ true
  dir_in n l k t d = subst (λ (m : ℕ). is_remade v m ≡ true) (sym (kept_apart n d.dir l k (dir_kept l d) t d.block)) d.remade

  -- a quota block lies in file 10 alone
  pub row_in : (n l : ℕ) → IsKeptFile v n → Has (places v n) l → IsRowPlace v l → n ≡ 10
  row_in n l k t r = kept_apart n 10 l k (low_kept_file 10 (omega arith) (omega arith)) t r

  -- a block of bits is that of file 1 behind its first four clusters, or lies in file 2 behind the control block
  pub bit_in : (n l : ℕ) → IsKeptFile v n → Has (places v n) l → IsBitPlace v l → ((n ≡ 1) × (l ≡ 4 * home.cluster)) ⊎ ((n ≡ 2) × (is_among (bitmap_lbn v + 1) (storage_blocks (total v)) l ≡ true))
  bit_in n l k t b = elim b [
    | inl index ↦ inl (kept_apart n 1 l k (low_kept_file 1 (omega arith) (omega arith)) t (in_front l (omega arith)), index)
    | inr storage ↦ inr (kept_apart n 2 l k (low_kept_file 2 (omega arith) (omega arith)) t (storage_in_bitmap l storage), storage)
  ]

  -- each of these places is in a file that is kept
  pub touchable_kept : (l : ℕ) → IsTouchable v l → IsKeptPlace v l
  touchable_kept l t = elim t [
    | inl d ↦ record { file = d.dir; kept = dir_kept l d; block = d.block }
    | inr more ↦ elim more [
      | inl r ↦ record { file = 10; kept = low_kept_file 10 (omega arith) (omega arith); block = r }
      | inr b ↦ elim b [
        | inl index ↦ record { file = 1; kept = low_kept_file 1 (omega arith) (omega arith); block = in_front l (omega arith) }
        | inr storage ↦ record { file = 2; kept = low_kept_file 2 (omega arith) (omega arith); block = storage_in_bitmap l storage }
      ]
    ]
  ]

  -- such a place is one of the volume's
  pub touchable_on : (l : ℕ) → IsTouchable v l → l < length first
  touchable_on l t = let k = touchable_kept l t in kept_on k.file l k.kept k.block

  -- Which blocks of a file that is kept may be written: all of a directory of these kinds, or of file 10, the one block of file 1, and
  -- those of file 2 behind its first.
  pub touched_in : (n l : ℕ) → IsKeptFile v n → Has (places v n) l → IsTouchable v l
      → (is_remade v n ≡ true) ⊎ ((n ≡ 10) ⊎ (((n ≡ 1) × (l ≡ 4 * home.cluster)) ⊎ ((n ≡ 2) × (is_among (bitmap_lbn v + 1) (storage_blocks (total v)) l ≡ true))))
  touched_in n l k t u = elim u [
    | inl d ↦ inl (dir_in n l k t d)
    | inr more ↦ elim more [
      | inl r ↦ inr (inl (row_in n l k t r))
      | inr b ↦ inr (inr (bit_in n l k t b))
    ]
  ]

  -- of the index file only the block of its bitmap may be
  pub index_still : (l : ℕ) → Has (places v 1) l → IsTouchable v l → l ≡ 4 * home.cluster
  index_still l t u = elim (touched_in 1 l (low_kept_file 1 (omega arith) (omega arith)) t u) [
    | inl d ↦ absurd (not_remade d)
    | inr more ↦ elim more [
      | inl r ↦ absurd (omega arith)
      | inr b ↦ elim b [
        | inl index ↦ index.1
        | inr storage ↦ absurd (let z = storage.0 in omega arith)
      ]
    ]
  ] where
    not_remade : is_remade v 1 ≡ true → ⊥
    not_remade d = elim (remade_kinds v 1 d) [
      | inl main ↦ omega arith
      | inr more ↦ elim more [
        | inl lost ↦ omega arith
        | inr marked ↦ (let above = (sound_parts v 1 marked.0).above in omega arith)
      ]
    ]

  -- no such place is a header slot
  pub touchable_apart : (l : ℕ) → IsTouchable v l → is_header_place v l ≡ false
  touchable_apart l t = by_place (cases_Bool (is_header_place v l)) where
    by_place : (is_header_place v l ≡ true) ⊎ (is_header_place v l ≡ false) → is_header_place v l ≡ false
    by_place (inr other) = other
    by_place (inl slot) =
        let h = and_parts (nat_le (header_lbn v 1) l) (nat_lt l (header_lbn v 1 + v.home.files)) slot in
        let lo : 4 * home.cluster + 1 ≤ l = leb-true _ _ h.0 in
        let at = index_still l (header_in_front l slot) t in
        absurd (omega arith)

  -- nor is it the home block's
  pub touchable_behind : IsTouchable v 1 → ⊥
  touchable_behind t =
      let c = low in
      let at = index_still 1 (in_front 1 (omega arith)) t in
      omega arith

  -- a header slot is no such place
  pub slot_still : (m : ℕ) → IsNumber v m → IsTouchable v (header_lbn v m) → ⊥
  slot_still m is t =
      let to : m ≤ home.files = is.to in
      let from = is.from in
      let at = index_still (header_lbn v m) (in_front (header_lbn v m) (omega arith)) t in
      omega arith
