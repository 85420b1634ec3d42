-- No block of a sound file or of another system file is a header slot; so these files keep their blocks where slots become free, and a
-- sound file stays sound.
use Rattle.std.proofs.Common.{◌≡◌, ◌∙◌, ◌<◌, ◌≤◌, ◌+◌, ◌*◌, ◌/◌, ◌⊎◌, ℕ, suc, true, false, not, List, [], ◌∷◌, Option, Some, None, length, map, slice_get, refl, ap, inl, inr, arith, cond}
use Rattle.std.specs.Prelude.{◌==◌, ◌&&◌, ◌||◌, nat_lt, nat_le}
use Rattle.std.specs.List.{range_with_len}
use Rattle.std.proofs.Math.Nat.{mul-div-le}
use Rattle.std.proofs.lemmas.Bool.{and_parts, and_from, ltb-true, leb-true, eqb-true, lt-ltb, cases_Bool}
use Rattle.base_words.specs.Fields.{Block}
use Rattle.base_words.specs.Lists.{Has}
use Rattle.base_words.proofs.Listing.{has_parted, has_any, has_at}
use Rattle.fx_home.specs.declared.home.Home.{Home}
use Rattle.fx_home.specs.Homes.{IsWithinLimits}
use Rattle.fx_header.specs.declared.run.Run.{Run}
use Rattle.fx_header.specs.declared.slot.Hdr.{Hdr}
use Rattle.fx_header.specs.Pointers.{lbns_in}
use Rattle.fx_dir.specs.Directory.{directory}
use Rattle.vol_parts.specs.declared.finding.Finding.{Finding}
use Rattle.vol_parts.specs.declared.finding.Finding.TheVariants as finding
use Rattle.vol_parts.specs.Volumes.{Volume, volume, IsNumber, factor, total, header_lbn, block_at, fields, Told, told, runs, body, is_in_run, is_in_file}
use Rattle.vol_parts.specs.Fatal.{is_one_header, has_one_header, in_whole_clusters, is_system_header, stated_clusters, are_stated, is_system_file, IsInRun, has_dir_size, found_in, dir_test, dir_fault}
use Rattle.vol_sound.specs.Sound.{is_sound}
use Rattle.vol_sound.specs.Freeing.{HasSystem, is_header_place, LeavesOthers, IsSameTold}
use Rattle.vol_sound.proofs.Cuts.{in_range, sound_parts, sound_alone}

-- ---- the runs of the index file

-- a run from LBN 0 on that has at least so many blocks, and ends before the volume's clusters do
pub record IsFrontRun (v : Volume) (r : Run) (blocks : ℕ) : Type 0 where
  pub begins : r.lbn ≡ 0
  pub enough : blocks ≤ r.count
  pub inside : r.lbn + r.count ≤ factor v * total v

front_run : (v : Volume) (clusters : ℕ) (rs : List Run) → are_stated v 1 (Some clusters) rs ≡ true → (r : Run) × (slice_get rs 0 ≡ Some r) × IsFrontRun v r (factor v * clusters)
front_run v clusters [] e = absurd (let f : false ≡ true = e in cc)
front_run v clusters (r ∷ []) e =
    let a = and_parts (r.count == factor v * clusters) (nat_le (r.lbn + r.count) (factor v * total v) && (not (1 == 1) || (r.lbn == 0))) e in
    let b = and_parts (nat_le (r.lbn + r.count) (factor v * total v)) (not (1 == 1) || (r.lbn == 0)) a.1 in
    let count : r.count ≡ factor v * clusters = eqb-true _ _ a.0 in
    (r, refl, record { begins = eqb-true r.lbn 0 b.1; enough = omega arith; inside = leb-true _ _ b.0 })
front_run v clusters (r ∷ q ∷ rs) e = absurd (let f : false ≡ true = e in cc)

-- the index file has one from LBN 0 to its last header slot
index_run : (v : Volume) → is_system_file v 1 ≡ true → (r : Run) × (slice_get (runs v 1) 0 ≡ Some r) × IsFrontRun v r (factor v * in_whole_clusters (factor v) (4 * factor v + 1 + v.home.files))
unfolding is_system_file stated_clusters
index_run v e =
    let p = and_parts (is_system_header 1 (fields v 1)) (has_one_header (fields v 1) (told v 1) && are_stated v 1 (stated_clusters v 1) (runs v 1)) e in
    let q = and_parts (has_one_header (fields v 1) (told v 1)) (are_stated v 1 (stated_clusters v 1) (runs v 1)) p.1 in
    front_run v (in_whole_clusters (factor v) (4 * factor v + 1 + v.home.files)) (runs v 1) q.1

-- so the clusters of header slots are in it
room : (f k x : ℕ) → 1 ≤ f → x < k → x < f * in_whole_clusters f k
room f k x low lt = omega arith

within_slots : (v : Volume) (l : ℕ) → is_header_place v l ≡ true → l < 4 * factor v + 1 + v.home.files
within_slots v l e =
    let h = and_parts (nat_le (header_lbn v 1) l) (nat_lt l (header_lbn v 1 + v.home.files)) e in
    let hi : l < header_lbn v 1 + v.home.files = ltb-true _ _ h.1 in
    omega arith

in_run_by : (f q : ℕ) (r : Run) → r.lbn < f * (q + 1) → f * q < r.lbn + r.count → is_in_run f q r ≡ true
unfolding is_in_run
in_run_by f q r a b = and_from _ _ (lt-ltb r.lbn (f * (q + 1)) a) (lt-ltb (f * q) (r.lbn + r.count) b)

slot_in_index : (v : Volume) (l : ℕ) → 1 ≤ factor v → is_system_file v 1 ≡ true → is_header_place v l ≡ true → (r : Run) × (slice_get (runs v 1) 0 ≡ Some r) × (is_in_run (factor v) (l / factor v) r ≡ true)
slot_in_index v l low e here =
    let h = index_run v e in
    let r = h.0 in
    let begins = h.2.begins in
    let enough = h.2.enough in
    let lt = room (factor v) (4 * factor v + 1 + v.home.files) l low (within_slots v l here) in
    let down : factor v * (l / factor v) ≤ l = omega arith in
    let some : 1 ≤ factor v * (l / factor v + 1) = omega arith in
    (r, h.1, in_run_by (factor v) (l / factor v) r (omega arith) (omega arith))

-- ---- the blocks of runs

pub record IsBlockOf (rs : List Run) (l : ℕ) : Type 0 where
  pub place : ℕ
  pub run : Run
  pub there : slice_get rs place ≡ Some run
  pub from : run.lbn ≤ l
  pub to : l < run.lbn + run.count

block_of : (rs : List Run) (l : ℕ) → Has (lbns_in rs) l → IsBlockOf rs l
block_of [] l t = absurd t
block_of (r ∷ rs) l t = elim (has_parted (range_with_len r.lbn r.count) (lbns_in rs) l t) [
  | inl here ↦ let h = in_range r.lbn r.count l here in record { place = 0; run = r; there = refl; from = h.0; to = h.1 }
  | inr behind ↦ let h = block_of rs l behind in record { place = suc h.place; run = h.run; there = h.there; from = h.from; to = h.to }
]

-- a block lies in a run's cluster
block_in_run : (f l : ℕ) (r : Run) → 1 ≤ f → r.lbn ≤ l → l < r.lbn + r.count → is_in_run f (l / f) r ≡ true
block_in_run f l r low from to =
    let down : f * (l / f) ≤ l = omega arith in
    let up : l < f * (l / f + 1) = omega arith in
    in_run_by f (l / f) r (omega arith) (omega arith)

pub map_same : {A : Type 0} (f g : ℕ → A) (xs : List ℕ) → ((x : ℕ) → Has xs x → f x ≡ g x) → map f xs ≡ map g xs
map_same f g [] same = refl
map_same f g (x ∷ xs) same = let a = same x (inl refl) in let b = map_same f g xs (λ y t. same y (inr t)) in λ i. a i ∷ b i

in_file_by : (v : Volume) (q n k : ℕ) (r : Run) → slice_get (runs v n) k ≡ Some r → is_in_run (factor v) q r ≡ true → is_in_file v q n ≡ true
in_file_by v q n k r e t = has_any (is_in_run (factor v) q) (runs v n) r (has_at (runs v n) k r e) t

module _ (home : Home) (old : List Block) (within : IsWithinLimits home) (system : HasSystem (volume home old)) where
  abbrev v : Volume
  v = volume home old

  low : 1 ≤ home.cluster
  low = within.cluster_low

  -- each header slot is in front of the end of the volume
  pub header_on : (m : ℕ) → IsNumber v m → header_lbn v m < length old
  header_on m is =
      let h = index_run v (system.files.sound 1 (omega arith) (omega arith)) in
      let begins = h.2.begins in
      let enough = h.2.enough in
      let inside = h.2.inside in
      let to : m ≤ home.files = is.to in
      let lt = room home.cluster (4 * home.cluster + 1 + home.files) (4 * home.cluster + m) low (omega arith) in
      let all : home.cluster * (length old / home.cluster) ≤ length old = mul-div-le (length old) home.cluster in
      omega arith

  -- no block of a sound file is a header slot
  pub sound_apart : (n l : ℕ) → IsNumber v n → is_sound v n ≡ true → Has (lbns_in (runs v n)) l → is_header_place v l ≡ false
  sound_apart n l is s t = by_place (cases_Bool (is_header_place v l)) where
    by_place : (is_header_place v l ≡ true) ⊎ (is_header_place v l ≡ false) → is_header_place v l ≡ false
    by_place (inr other) = other
    by_place (inl slot) =
        let parts = sound_parts v n s in
        let above = parts.above in
        let a = slot_in_index v l low (system.files.sound 1 (omega arith) (omega arith)) slot in
        let b = block_of (runs v n) l t in
        let mine = in_file_by v (l / home.cluster) n b.place b.run b.there (block_in_run home.cluster l b.run low b.from b.to) in
        let first = in_file_by v (l / home.cluster) 1 0 a.0 a.1 a.2 in
        let files = within.files_low in
        let one : IsNumber v 1 = record { from = omega arith; to = (let h : 1 ≤ home.files = omega arith in h) } in
        let same = sound_alone v (l / home.cluster) n 1 is one parts (system.cuts 1 (omega arith) (omega arith)) mine first in
        absurd (omega arith)

  -- nor is one of a system file but the index file
  pub system_apart : (n l : ℕ) → 1 < n → n ≤ 11 → Has (lbns_in (runs v n)) l → is_header_place v l ≡ false
  system_apart n l above few t = by_place (cases_Bool (is_header_place v l)) where
    number : (k : ℕ) → 1 ≤ k → k ≤ 11 → IsNumber v k
    number k a b = let f = within.files_low in record { from = a; to = (let h : k ≤ home.files = omega arith in h) }

    by_place : (is_header_place v l ≡ true) ⊎ (is_header_place v l ≡ false) → is_header_place v l ≡ false
    by_place (inr other) = other
    by_place (inl slot) =
        let a = slot_in_index v l low (system.files.sound 1 (omega arith) (omega arith)) slot in
        let b = block_of (runs v n) l t in
        let mine : IsInRun v (l / home.cluster) n b.place = record { number = number n (omega arith) few; run = b.run; there = b.there; inside = block_in_run home.cluster l b.run low b.from b.to } in
        let first : IsInRun v (l / home.cluster) 1 0 = record { number = number 1 (omega arith) (omega arith); run = a.0; there = a.1; inside = a.2 } in
        let same = (system.apart (l / home.cluster) n b.place 1 0 few (omega arith) mine first).0 in
        absurd (omega arith)

module _ (home : Home) (old new : List Block) (others : LeavesOthers home old new) where
  -- a file of which the same is told, and of which no block is a header slot, has the same blocks
  pub body_by : (n : ℕ) → told (volume home new) n ≡ told (volume home old) n → ((l : ℕ) → Has (lbns_in (runs (volume home old) n)) l → is_header_place (volume home old) l ≡ false)
      → body (volume home new) n ≡ body (volume home old) n
  unfolding body runs
  body_by n same apart =
      ap (λ (t : Told). map (block_at (volume home new)) (lbns_in t.runs)) same
      ∙ map_same (block_at (volume home new)) (block_at (volume home old)) (lbns_in (told (volume home old) n).runs) (λ l t. others.others l (apart l t))

-- what is wrong with a directory stays where what is told of it and its blocks do
pub dir_stays : (home : Home) (old new : List Block) (n : ℕ) → IsSameTold (volume home old) (volume home new) n → body (volume home new) n ≡ body (volume home old) n
    → dir_fault (volume home new) n ≡ dir_fault (volume home old) n
unfolding dir_fault runs
dir_stays home old new n same blocks = ap (dir_test (volume home new) n) same.fields ∙ by_fields (fields (volume home old) n) where
  tested : Hdr → Told → List Run → List Block → Option Finding
  tested f t rs bs = cond (not f.dir) None (cond (is_one_header f t && has_dir_size home.cluster f rs) (found_in n (directory bs)) (Some (finding.DirSize n)))

  by_fields : (o : Option Hdr) → dir_test (volume home new) n o ≡ dir_test (volume home old) n o
  by_fields None = refl
  by_fields (Some f) =
      ap (λ (t : Told). tested f t t.runs (body (volume home new) n)) same.told
      ∙ ap (tested f (told (volume home old) n) (told (volume home old) n).runs) blocks
