-- The catalogue of a volume with no fatal finding is spelt, and so is that of one which has findings on which the spelling does not rest.
use Rattle.std.proofs.Common.{◌≡◌, ◌≢◌, ◌<◌, ◌≤◌, ◌+◌, ◌-◌, ◌*◌, ◌/◌, ◌%◌, ◌⊎◌, ℕ, zero, suc, Bool, true, false, not, List, [], ◌∷◌, Option, Some, None, length, map, slice_get, refl, sym, ap, subst, ◌∙◌, inl, inr, arith, cond, append-nil}
use Rattle.std.specs.Prelude.{◌↔◌, ◌==◌, ◌&&◌, ◌||◌, nat_lt, nat_le, is_some, Result, Ok, Err, slice_index_or, if◌then◌else◌, count_by}
use Rattle.std.specs.List.{range_with_len, list_any, find}
use Rattle.std.proofs.Math.Nat.{mul-div-le}
use Rattle.std.proofs.lemmas.Bool.Decides.{nat_tests}
use Rattle.std.proofs.lemmas.Bool.{and_parts, ltb-true, leb-true, eqb-true, eq-eqb, le-leb, not-false, cases_lt}
use Rattle.std.proofs.lemmas.List.FromFn.{length-range_with_len, length-map-range_with_len}
use Rattle.base_words.specs.Fields.{Block, AreWholeBlocks}
use Rattle.fx_home.specs.declared.home.Home.{Home}
use Rattle.fx_home.specs.declared.home.HomeFault.{HomeFault}
use Rattle.fx_home.specs.declared.home.HomeFault.TheVariants.{BadFormat, BadLevel, BadSum1, BadSum2, BadCluster, BadFiles, BadLayout}
use Rattle.fx_home.specs.declared.scb.Scb.{Scb}
use Rattle.fx_home.specs.declared.scb.ScbFault.TheVariants as scb
use Rattle.fx_home.specs.declared.scb.ScbFault.{ScbFault}
use Rattle.fx_home.specs.Homes.{IsWithinLimits, has_format, has_level, has_sum1, has_cluster, has_files, has_layout, home_in, home_read, scb_read}
use Rattle.base_words.specs.Fields.{has_sum as has_sum2}
use Rattle.fx_home.proofs.Reading.{home_in-within}
use Rattle.fx_header.specs.declared.run.Run.{Run}
use Rattle.fx_header.specs.declared.slot.Hdr.{Hdr}
use Rattle.fx_header.specs.declared.slot.Slot.{Slot as Head}
use Rattle.fx_header.specs.declared.slot.Slot.TheVariants as head
use Rattle.fx_header.specs.declared.slot.HeaderFault.{HeaderFault}
use Rattle.fx_header.specs.declared.slot.HeaderFault.TheVariants.{BadSum}
use Rattle.fx_header.specs.Headers.{header_read}
use Rattle.fx_header.specs.Pointers.{blocks_in, lbns_in}
use Rattle.fx_dir.specs.declared.RawEnt.{RawEnt}
use Rattle.fx_dir.specs.declared.DirFault.{DirFault}
use Rattle.fx_dir.specs.declared.DirFault.TheVariants as dir
use Rattle.fx_dir.specs.Directory.{directory}
use Rattle.fx_quota.specs.declared.types.Row.{Row}
use Rattle.plain_cat.specs.declared.cat.Cat.{Cat}
use Rattle.plain_cat.specs.declared.cat.Slot.{Slot}
use Rattle.plain_rules.specs.Lookups.{clusters_in, file_most}
use Rattle.vol_spell.specs.declared.owner.Owner.{Owner}
use Rattle.vol_spell.specs.declared.owner.Owner.TheVariants.{Free, InFile, Outside, Leaked}
use Rattle.base_words.specs.Lists.{Has, Once}
use Rattle.vol_spell.specs.Owners.{Outs, nothing}
use Rattle.vol_spell.specs.Counts.{is_same_owner}
use Rattle.vol_spell.specs.Spread.{blocks_at}
use Rattle.base_words.proofs.Listing.{same_or_not, has_at}
use Rattle.vol_spell.proofs.Placing.{has_ranged, ranged_has, length-blocks_at}
use Rattle.vol_parts.specs.declared.finding.Finding.{Finding}
use Rattle.vol_parts.specs.declared.finding.Finding.TheVariants as finding
use Rattle.vol_parts.specs.declared.geometry.Geometry.{Geometry}
use Rattle.vol_parts.specs.Parts.{IsGeometry, storage_blocks}
use Rattle.vol_parts.specs.Volumes.{Volume, volume, factor, total, numbers, IsNumber, block_at, header_lbn, head as head_of, fields_in, used_slot, fields, headers_of, Told, told as told_in, is_slot_of, is_in_slots, runs, body, is_in_run, is_in_file, is_in_files, first_lbn, bitmap_lbn, quota_lbn, geometry_of, is_free_cluster, is_used_number, active_rows}
use Rattle.vol_parts.specs.Chains.{as_first, chain_of, is_broken, is_well_split}
use Rattle.vol_parts.specs.Catalogues.{is_structure, slot_with, slot_of, files_of, rows_sorted, is_outside_cluster, is_outside_number, catalogue}
use Rattle.vol_parts.specs.Fatal.{is_one_header, has_one_header, is_system_header, chain_test, chain_fault, stated_clusters, are_stated, is_system_file, in_whole_clusters, scb_test, scb_fault, is_off_bounds, is_too_large, IsInRun, IsShared, has_dir_size, found_in, dir_test, dir_fault, IsFatalIn, has_two_rows}
use Rattle.plain_rules.specs.SystemFiles.{is_system_directory}
use Rattle.vol_parts.specs.Findings.{home_at, IsFatalBy, IsCatalogueBy}
use Rattle.vol_spell.specs.Reading.{IsFileNumber, total_of, header_block, told_of, chain_told, clusters_of, clusters_told, body_blocks, cluster_bit, number_bit, quota_places, rows_told}
use Rattle.vol_spell.specs.Spelling.{IsHomeOf, IsHead, IsBlank, IsWhole, AreWhole, dir_found, size_in, has_one_at_most, Tells, IsStructure, run_for, HasStructures, Spells}
use Rattle.vol_spell.specs.Accepting.{owner_found, cluster_owner, number_owner, owners_told, IsSpelt, CatalogueIsSpelt, IsBeside, BesideIsSpelt}
use Rattle.vol_spell.proofs.Heads.{slot_used}
use Rattle.vol_spell.proofs.OneHeader.{one_sized, none_split}
use Rattle.vol_parts.proofs.Alone.{file_told, none_told}
use Rattle.vol_spell.proofs.Parts.{room}
use Rattle.vol_spell.proofs.SlotFiles.{IsSoundChain, one_file}
use Rattle.vol_spell.proofs.Adds.{size_by}
use Rattle.vol_spell.proofs.Told.{head_there, told_there, runs_there, body_there, free_cluster_at, rows_there, slot_there_of, no_dir, no_directory, which_structure, seen}
use Rattle.vol_spell.proofs.Picking.{found_is, found_none, any_place, place_any, has_any, get_along, along_get, count_along, map_along, once_by_place, two_counted}
use Rattle.vol_spell.proofs.Clusters.{IsInRunAt, run_of, of_run, clusters_once, within_total}

-- ---- single tests

past : (t : Bool) (f : HomeFault) (others : Result Home HomeFault) (h : Home) → (if not t then Err f else others) ≡ Ok h → (t ≡ true) × (others ≡ Ok h)
past true f others h e = (refl, e)
past false f others h e = absurd (cc)

-- a home block that is read is within the limits
pub limits_of : (b : Block) (h : Home) → home_read b ≡ Ok h → IsWithinLimits h
unfolding home_read
limits_of b h e =
    let format = past (has_format b) BadFormat _ h e in
    let level = past (has_level b) BadLevel _ h format.1 in
    let first = past (has_sum1 b) BadSum1 _ h level.1 in
    let second = past (has_sum2 b) BadSum2 _ h first.1 in
    let cluster = past (has_cluster b) BadCluster _ h second.1 in
    let files = past (has_files b) BadFiles _ h cluster.1 in
    let layout = past (has_layout b) BadLayout _ h files.1 in
    let same : home_in b ≡ h = (let k : ◌≡◌ {A = Result Home HomeFault} (Ok (home_in b)) (Ok h) = layout.1 in cc) in
    subst (λ (x : Home). IsWithinLimits x) same (home_in-within b cluster.0 files.0)

head_past : (v : Volume) (n : ℕ) → nat_lt (header_lbn v n) (length v.blocks) ≡ false → head_of v n ≡ Err BadSum
unfolding head_of
head_past v n e = rw e refl

off_whole : (v : Volume) (r : Run) → is_off_bounds v r ≡ false → IsWhole (geometry_of v) r
unfolding is_off_bounds
off_whole v r e =
    let t = on (r.lbn % factor v == 0) (r.count % factor v == 0) (nat_le (r.lbn + r.count) (factor v * total v)) e in
    record { begins = eqb-true (r.lbn % factor v) 0 t.0; ends = eqb-true (r.count % factor v) 0 t.1; inside = leb-true (r.lbn + r.count) (factor v * total v) t.2 } where
      on : (a b c : Bool) → not (a && (b && c)) ≡ false → (a ≡ true) × (b ≡ true) × (c ≡ true)
      on true true true e = (refl, refl, refl)
      on true true false e = absurd (let f : true ≡ false = e in cc)
      on true false c e = absurd (let f : true ≡ false = e in cc)
      on false b c e = absurd (let f : true ≡ false = e in cc)

all_whole : (v : Volume) (rs : List Run) → ((k : ℕ) (r : Run) → slice_get rs k ≡ Some r → is_off_bounds v r ≡ false) → AreWhole (geometry_of v) rs
all_whole v [] on = tt
all_whole v (r ∷ rs) on = (off_whole v r (on 0 r refl), all_whole v rs (λ k x e. on (suc k) x e))

whole_at : (g : Geometry) (rs : List Run) (k : ℕ) (r : Run) → AreWhole g rs → slice_get rs k ≡ Some r → IsWhole g r
whole_at g [] k r w e = absurd (let f : None ≡ Some r = e in cc)
whole_at g (x ∷ rs) zero r w e = subst (λ (y : Run). IsWhole g y) (let f : Some x ≡ Some r = e in cc) w.0
whole_at g (x ∷ rs) (suc k) r w e = whole_at g rs k r w.1 e

-- what a directory's findings can be
data IsDirFinding (n : ℕ) (f : Finding) : Type 0 where
  Size : f ≡ finding.DirSize n → IsDirFinding n f
  Record : f ≡ finding.DirRecord n → IsDirFinding n f
  Order : f ≡ finding.DirOrder n → IsDirFinding n f
  Mixed : f ≡ finding.DirClash n → IsDirFinding n f

some_is : (f k : Finding) → Some k ≡ Some f → f ≡ k
some_is f k e = cc

dir_finding_in : (n : ℕ) (r : Result (List RawEnt) DirFault) (f : Finding) → found_in n r ≡ Some f → IsDirFinding n f
dir_finding_in n (Ok es) f e = absurd (let h : None ≡ Some f = e in cc)
dir_finding_in n (Err (dir.BadRecord vbn)) f e = Record (some_is f (finding.DirRecord n) e)
dir_finding_in n (Err dir.BadOrder) f e = Order (some_is f (finding.DirOrder n) e)
dir_finding_in n (Err dir.Clash) f e = Mixed (some_is f (finding.DirClash n) e)
dir_finding_in n (Err dir.NoMemory) f e = absurd (let h : None ≡ Some f = e in cc)

dir_finding : (v : Volume) (n : ℕ) (h : Option Hdr) (f : Finding) → dir_test v n h ≡ Some f → IsDirFinding n f
dir_finding v n None f e = absurd (let h : None ≡ Some f = e in cc)
dir_finding v n (Some h) f e = by_tests (not h.dir) (is_one_header h (told_in v n) && has_dir_size (factor v) h (runs v n)) e where
  by_tests : (a b : Bool) → cond a None (cond b (found_in n (directory (body v n))) (Some (finding.DirSize n))) ≡ Some f → IsDirFinding n f
  by_tests true b e = absurd (let h : None ≡ Some f = e in cc)
  by_tests false true e = dir_finding_in n (directory (body v n)) f e
  by_tests false false e = Size (some_is f (finding.DirSize n) e)

fault_of : (v : Volume) (n : ℕ) → dir_fault v n ≡ dir_test v n (fields v n)
unfolding dir_fault
fault_of v n = refl

-- one run of a stated size
pub record IsOneRun (v : Volume) (n k : ℕ) (rs : List Run) : Type 0 where
  pub run : Run
  pub one : rs ≡ run ∷ []
  pub count : run.count ≡ factor v * k
  pub inside : run.lbn + run.count ≤ factor v * total v
  pub begins : (n == 1) ≡ true → run.lbn ≡ 0

one_run : (v : Volume) (n k : ℕ) (rs : List Run) → are_stated v n (Some k) rs ≡ true → IsOneRun v n k rs
one_run v n k [] e = absurd (let f : false ≡ true = e in cc)
one_run v n k (r ∷ []) e =
    let a = and_parts (r.count == factor v * k) (nat_le (r.lbn + r.count) (factor v * total v) && (not (n == 1) || (r.lbn == 0))) e in
    let b = and_parts (nat_le (r.lbn + r.count) (factor v * total v)) (not (n == 1) || (r.lbn == 0)) a.1 in
    record {
      run = r;
      one = refl;
      count = eqb-true r.count (factor v * k) a.0;
      inside = leb-true (r.lbn + r.count) (factor v * total v) b.0;
      begins = λ t. eqb-true r.lbn 0 (starts (n == 1) (r.lbn == 0) t b.1);
    } where
      starts : (a b : Bool) → a ≡ true → not a || b ≡ true → b ≡ true
      starts true b t e = e
      starts false b t e = absurd (cc)
one_run v n k (r ∷ q ∷ rs) e = absurd (let f : false ≡ true = e in cc)

system_parts : (v : Volume) (n k : ℕ) → is_system_file v n ≡ true → stated_clusters v n ≡ Some k → (is_system_header n (fields v n) ≡ true) × IsOneRun v n k (runs v n)
unfolding is_system_file
system_parts v n k e st =
    let p = and_parts (is_system_header n (fields v n)) (has_one_header (fields v n) (told_in v n) && are_stated v n (stated_clusters v n) (runs v n)) e in
    let q = and_parts (has_one_header (fields v n) (told_in v n)) (are_stated v n (stated_clusters v n) (runs v n)) p.1 in
    (p.0, one_run v n k (runs v n) (ap (λ o. are_stated v n o (runs v n)) (sym st) ∙ q.1))

-- a system file has one header
system_one : (v : Volume) (n : ℕ) → is_system_file v n ≡ true → has_one_at_most (fields v n) (told_in v n) ≡ true
unfolding is_system_file
system_one v n e =
    let p = and_parts (is_system_header n (fields v n)) (has_one_header (fields v n) (told_in v n) && are_stated v n (stated_clusters v n) (runs v n)) e in
    at_most (fields v n) (told_in v n) (and_parts (has_one_header (fields v n) (told_in v n)) (are_stated v n (stated_clusters v n) (runs v n)) p.1).0
  where
    at_most : (o : Option Hdr) (t : Told) → has_one_header o t ≡ true → has_one_at_most o t ≡ true
    at_most None t e = refl
    at_most (Some f) t e = e

-- the tests of the chain of a file in use
chain_fault_is : (v : Volume) (n : ℕ) (f : Hdr) → fields v n ≡ Some f
    → chain_fault v n ≡ cond (is_broken f (chain_of (headers_of v) n f)) (Some (finding.ChainBroken n)) (cond (is_well_split (factor v) (chain_of (headers_of v) n f)) None (Some (finding.ChainSplit n)))
unfolding chain_fault
chain_fault_is v n f e = ap (chain_test v n) e

stated_index : (v : Volume) → stated_clusters v 1 ≡ Some (in_whole_clusters (factor v) (4 * factor v + 1 + v.home.files))
unfolding stated_clusters
stated_index v = refl

stated_bitmap : (v : Volume) → stated_clusters v 2 ≡ Some (in_whole_clusters (factor v) (1 + storage_blocks (total v)))
unfolding stated_clusters
stated_bitmap v = refl

stated_quota : (v : Volume) → stated_clusters v 10 ≡ Some 1
unfolding stated_clusters
stated_quota v = refl

same_run : (r : Run) (lbn count : ℕ) → r.lbn ≡ lbn → r.count ≡ count → r ≡ record { lbn = lbn; count = count }
same_run r lbn count a b = λ i. record { lbn = a i; count = b i }

same_scb : (s : Scb) (cluster blocks : ℕ) → s.cluster ≡ cluster → s.blocks ≡ blocks → s ≡ record { cluster = cluster; blocks = blocks }
same_scb s cluster blocks a b = λ i. record { cluster = a i; blocks = b i }

scb_right : (v : Volume) (r : Result Scb ScbFault) → scb_test v r ≡ None → r ≡ Ok (record { cluster = factor v; blocks = length v.blocks })
scb_right v (Err fault) e = absurd (let f : Some fault ≡ None = e in cc)
scb_right v (Ok s) e = by_tests (s.cluster == factor v) (s.blocks == length v.blocks) refl refl e where
  by_tests : (a b : Bool) → (s.cluster == factor v) ≡ a → (s.blocks == length v.blocks) ≡ b
      → cond (not a) (Some scb.BadCluster) (cond (not b) (Some scb.BadSize) None) ≡ None
      → ◌≡◌ {A = Result Scb ScbFault} (Ok s) (Ok (record { cluster = factor v; blocks = length v.blocks }))
  by_tests true true t u e = ap (λ x. Ok x) (same_scb s (factor v) (length v.blocks) (eqb-true s.cluster (factor v) t) (eqb-true s.blocks (length v.blocks) u))
  by_tests true false t u e = absurd (cc)
  by_tests false b t u e = absurd (cc)

scb_of : (v : Volume) → scb_fault v ≡ scb_test v (scb_read (block_at v (bitmap_lbn v)))
unfolding scb_fault
scb_of v = refl

dir_same : (v : Volume) (n : ℕ) (h : Option Hdr) → dir_found (geometry_of v) n h (told_in v n) (body v n) ≡ dir_test v n h
unfolding runs
dir_same v n None = refl
dir_same v n (Some h) = refl

-- what is no directory has nothing wrong with it as one
dir_blind : (g : Geometry) (n : ℕ) (h : Option Hdr) (t : Told) (blocks : List Block) → is_system_directory n ≡ false → is_system_header n h ≡ true → dir_found g n h t blocks ≡ None
dir_blind g n None t blocks d e = refl
dir_blind g n (Some h) t blocks d e = rw (no_dir n h d e) refl

number_bit_is : (v : Volume) (n : ℕ) → is_used_number v n ≡ number_bit (geometry_of v) v.blocks n
unfolding is_used_number
number_bit_is v n = refl

slot_from : (v : Volume) (i : ℕ) (s : Slot) → slice_get (files_of v) i ≡ Some s → slot_of v (1 + i) ≡ s
unfolding files_of
slot_from v i s e = (along_get (slot_of v) 1 v.home.files i s e).1

length-files_of : (v : Volume) → length (files_of v) ≡ v.home.files
unfolding files_of
length-files_of v = length-map-range_with_len (slot_of v) 1 v.home.files

-- a file whose blocks are those of few clusters lists few
few_by : (g : Geometry) (n : ℕ) (r : Result Head HeaderFault) (rs : List Run) → 1 ≤ g.cluster → IsHead n r → AreWhole g rs → blocks_in rs ≡ size_in (fields_in r)
    → ((f : Hdr) → fields_in r ≡ Some f → nat_lt file_most (f.blocks / g.cluster) ≡ false) → length (clusters_of g.cluster rs) ≤ file_most
few_by g n r rs low is w size few = by_head r (size_by g n r rs [] (slot_with g.cluster n r []) low is w size refl) is few where
  at_most : (x k : ℕ) → x ≡ k → nat_lt file_most x ≡ false → k ≤ file_most
  at_most x k e t = grind (arith, nat_tests)

  by_head : (q : Result Head HeaderFault) → clusters_in (slot_with g.cluster n q []) ≡ length (clusters_of g.cluster rs) → IsHead n q
      → ((f : Hdr) → fields_in q ≡ Some f → nat_lt file_most (f.blocks / g.cluster) ≡ false) → length (clusters_of g.cluster rs) ≤ file_most
  by_head (Ok (head.Used f)) count is few = at_most (f.blocks / g.cluster) (length (clusters_of g.cluster rs)) count (few f refl)
  by_head (Ok (head.Free seq)) count is few = let none : 0 ≡ length (clusters_of g.cluster rs) = count in omega arith
  by_head (Err fault) count is few = absurd is

-- what is told as a first header is as it is read, or free
first_head_is : (n : ℕ) (r : Result Head HeaderFault) → IsHead n r → IsHead n (as_first r)
first_head_is n (Ok (head.Used f)) is = by_seg (f.seg == 0) where
  by_seg : (t : Bool) → IsHead n (if t then Ok (head.Used f) else Ok (head.Free f.seq))
  by_seg true = is
  by_seg false = tt
first_head_is n (Ok (head.Free seq)) is = tt
first_head_is n (Err fault) is = is

-- ---- owners by test

not_free : (free : Bool) (o : Option ℕ) (n : ℕ) → cond free Free (owner_found o) ≡ InFile n → (free ≡ false) × (o ≡ Some n)
not_free true o n e = absurd (let f : Free ≡ InFile n = e in cc)
not_free false None n e = absurd (let f : Leaked ≡ InFile n = e in cc)
not_free false (Some m) n e = (refl, ap (λ x. Some x) (let f : InFile m ≡ InFile n = e in cc))

in_file_owner : (v : Volume) (q n : ℕ) → cluster_owner v q ≡ InFile n → (is_free_cluster v q ≡ false) × (find (is_in_file v q) (numbers v) ≡ Some n)
unfolding cluster_owner
in_file_owner v q n e = not_free (is_free_cluster v q) (find (is_in_file v q) (numbers v)) n e

owner_in_file : (v : Volume) (q n : ℕ) → is_free_cluster v q ≡ false → find (is_in_file v q) (numbers v) ≡ Some n → cluster_owner v q ≡ InFile n
unfolding cluster_owner
owner_in_file v q n a b = rw (a, b) refl

free_owner : (v : Volume) (q : ℕ) → (is_free_cluster v q ≡ true) ↔ (cluster_owner v q ≡ Free)
unfolding cluster_owner
free_owner v q = ((λ e. rw e refl), (λ e. back (is_free_cluster v q) (find (is_in_file v q) (numbers v)) e)) where
  back : (free : Bool) (o : Option ℕ) → cond free Free (owner_found o) ≡ Free → free ≡ true
  back true o e = refl
  back false None e = absurd (let f : Leaked ≡ Free = e in cc)
  back false (Some m) e = absurd (let f : InFile m ≡ Free = e in cc)

-- leaked is what is not free and in no file
leaked_by : (test : ℕ → Bool) (ns : List ℕ) (used : Bool) → (used && not (list_any test ns)) ≡ is_same_owner Leaked (cond (not used) Free (owner_found (find test ns)))
unfolding is_same_owner
leaked_by test ns used = by_test used (find test ns) refl where
  by_any : (t : Bool) → find test ns ≡ None → list_any test ns ≡ t → not t ≡ true
  by_any false e t = refl
  by_any true e t = let h = any_place test ns t in
      absurd (let f : false ≡ true = sym (found_none test ns h.item e (has_at ns h.place h.item h.there)) ∙ h.passes in cc)

  by_test : (used : Bool) (o : Option ℕ) → find test ns ≡ o → (used && not (list_any test ns)) ≡ is_same_owner Leaked (cond (not used) Free (owner_found o))
  by_test false o e = refl
  by_test true None e = by_any (list_any test ns) e refl
  by_test true (Some n) e =
      let h = found_is test ns n e in
      ap not (has_any test ns n h.0 h.1)

leaked_owner : (v : Volume) (q : ℕ) → is_outside_cluster v q ≡ is_same_owner Leaked (cluster_owner v q)
unfolding cluster_owner is_outside_cluster is_in_files
leaked_owner v q = leaked_by (is_in_file v q) (numbers v) (not (is_free_cluster v q)) ∙ ap (λ t. is_same_owner Leaked (cond t Free (owner_found (find (is_in_file v q) (numbers v))))) (twice (is_free_cluster v q)) where
  twice : (t : Bool) → not (not t) ≡ t
  twice true = refl
  twice false = refl

in_slots_owner : (v : Volume) (m n : ℕ) → number_owner v m ≡ InFile n → (is_used_number v m ≡ true) × (find (is_slot_of v m) (numbers v) ≡ Some n)
unfolding number_owner
in_slots_owner v m n e = let h = not_free (not (is_used_number v m)) (find (is_slot_of v m) (numbers v)) n e in (not_not (is_used_number v m) h.0, h.1) where
  not_not : (t : Bool) → not t ≡ false → t ≡ true
  not_not true e = refl
  not_not false e = sym e

owner_in_slots : (v : Volume) (m n : ℕ) → is_used_number v m ≡ true → find (is_slot_of v m) (numbers v) ≡ Some n → number_owner v m ≡ InFile n
unfolding number_owner
owner_in_slots v m n a b = rw (a, b) refl

free_number_owner : (v : Volume) (m : ℕ) → (is_used_number v m ≡ false) ↔ (number_owner v m ≡ Free)
unfolding number_owner
free_number_owner v m = ((λ e. rw e refl), (λ e. back (is_used_number v m) (find (is_slot_of v m) (numbers v)) e)) where
  back : (a : Bool) (o : Option ℕ) → cond (not a) Free (owner_found o) ≡ Free → a ≡ false
  back false o e = refl
  back true None e = absurd (let f : Leaked ≡ Free = e in cc)
  back true (Some n) e = absurd (let f : InFile n ≡ Free = e in cc)

leaked_number_owner : (v : Volume) (m : ℕ) → is_outside_number v m ≡ is_same_owner Leaked (number_owner v m)
unfolding number_owner is_outside_number is_in_slots
leaked_number_owner v m = leaked_by (is_slot_of v m) (numbers v) (is_used_number v m)

never_outside : (v : Volume) (q node : ℕ) → cluster_owner v q ≢ Outside node
unfolding cluster_owner
never_outside v q node e = by_tests (is_free_cluster v q) (find (is_in_file v q) (numbers v)) e where
  by_tests : (free : Bool) (o : Option ℕ) → cond free Free (owner_found o) ≡ Outside node → ⊥
  by_tests true o e = cc
  by_tests false None e = cc
  by_tests false (Some n) e = cc

number_never_outside : (v : Volume) (m node : ℕ) → number_owner v m ≢ Outside node
unfolding number_owner
number_never_outside v m node e = by_tests (is_used_number v m) (find (is_slot_of v m) (numbers v)) e where
  by_tests : (a : Bool) (o : Option ℕ) → cond (not a) Free (owner_found o) ≡ Outside node → ⊥
  by_tests false o e = cc
  by_tests true None e = cc
  by_tests true (Some n) e = cc

-- ---- a volume in which nothing fatal is found

module _ (home : Home) (bs : List Block) (read : home_read (home_at bs) ≡ Ok home) (within : IsWithinLimits home) (from : 64 ≤ length bs) (to : length bs ≤ 65536) (blocks : AreWholeBlocks bs) (weak : (f : Finding) → IsFatalIn (volume home bs) f → IsBeside f) where
  abbrev v : Volume
  v = volume home bs

  abbrev g : Geometry
  g = geometry_of (volume home bs)

  low : 1 ≤ g.cluster
  low = within.cluster_low

  number_is : (n : ℕ) → IsFileNumber g n → IsNumber (volume home bs) n
  number_is n is = record { from = is.from; to = is.to }

  v_head : (n : ℕ) → IsFileNumber g n → head_of v n ≡ header_read (header_block g bs n)
  v_head n is = by_test (nat_lt (header_lbn v n) (length bs)) refl where
    by_test : (b : Bool) → nat_lt (header_lbn v n) (length bs) ≡ b → head_of v n ≡ header_read (header_block g bs n)
    by_test true e = head_there v n (ltb-true (header_lbn v n) (length bs) e)
    by_test false e = absurd (weak (finding.Header n BadSum) (number_is n is, head_past v n e))

  v_fields : (n : ℕ) → IsFileNumber g n → fields v n ≡ fields_in (told_of g bs n).head
  v_fields n is = ap (λ r. fields_in (as_first r)) (v_head n is)

  v_told : (n : ℕ) → IsFileNumber g n → told_in v n ≡ told_of g bs n
  v_told n is = told_there v n (λ m k. v_head m (record { from = k.from; to = k.to })) (number_is n is)

  v_runs : (n : ℕ) → IsFileNumber g n → runs v n ≡ (told_of g bs n).runs
  v_runs n is = runs_there v n (told_of g bs n) (v_told n is)

  v_body : (n : ℕ) → IsFileNumber g n → body v n ≡ blocks_at bs (lbns_in (told_of g bs n).runs)
  v_body n is = body_there v n (told_of g bs n).runs (v_runs n is)

  v_reads : (n : ℕ) → IsFileNumber g n → IsHead n (header_read (header_block g bs n))
  v_reads n is = subst (λ (r : Result Head HeaderFault). IsHead n r) (v_head n is) (by_head (head_of v n) refl) where
    by_head : (r : Result Head HeaderFault) → head_of v n ≡ r → IsHead n r
    by_head (Err fault) e = absurd (weak (finding.Header n fault) (number_is n is, e))
    by_head (Ok (head.Free seq)) e = tt
    by_head (Ok (head.Used f)) e = elim (same_or_not f.num n) [
      | inl same ↦ same
      | inr ne ↦ absurd (weak (finding.WrongNumber n) (number_is n is, (f, ap fields_in e, ne)))
    ]

  v_tells : (n : ℕ) → IsFileNumber g n → IsHead n (told_of g bs n).head
  v_tells n is = first_head_is n (header_read (header_block g bs n)) (v_reads n is)

  v_whole_runs : (n : ℕ) → IsFileNumber g n → AreWhole g (runs v n)
  v_whole_runs n is = all_whole v (runs v n) (λ k r e. on k r e (is_off_bounds v r) refl) where
    on : (k : ℕ) (r : Run) → slice_get (runs v n) k ≡ Some r → (b : Bool) → is_off_bounds v r ≡ b → is_off_bounds v r ≡ false
    on k r e false t = t
    on k r e true t = absurd (weak (finding.Runs n) (number_is n is, place_any (is_off_bounds v) (runs v n) k r e t))

  v_whole : (n : ℕ) → IsFileNumber g n → AreWhole g (told_of g bs n).runs
  v_whole n is = subst (λ (rs : List Run). AreWhole g rs) (v_runs n is) (v_whole_runs n is)

  -- a cluster is in one run alone
  v_one : (q n m i j : ℕ) (r s : Run) → IsFileNumber g n → IsFileNumber g m → slice_get (told_of g bs n).runs i ≡ Some r → slice_get (told_of g bs m).runs j ≡ Some s
      → is_in_run g.cluster q r ≡ true → is_in_run g.cluster q s ≡ true → (n ≡ m) × (i ≡ j)
  v_one q n m i j r s is_n is_m at_n at_m in_n in_m = elim (same_or_not n m) [
    | inl a ↦ elim (same_or_not i j) [ inl b ↦ (a, b) | inr ne ↦ absurd (weak (finding.SharedCluster q) (shared (inr ne))) ]
    | inr ne ↦ absurd (weak (finding.SharedCluster q) (shared (inl ne)))
  ] where
    in_run : (k p : ℕ) (x : Run) → IsFileNumber g k → slice_get (told_of g bs k).runs p ≡ Some x → is_in_run g.cluster q x ≡ true → IsInRun (volume home bs) q k p
    in_run k p x is e t = record { number = number_is k is; run = x; there = ap (λ rs. slice_get rs p) (v_runs k is) ∙ e; inside = t }

    shared : (n ≢ m) ⊎ (i ≢ j) → IsShared (volume home bs) q
    shared apart = record { n = n; i = i; m = m; j = j; one = in_run n i r is_n at_n in_n; other = in_run m j s is_m at_m in_m; apart = apart }

  v_once : (n : ℕ) → IsFileNumber g n → Once (clusters_told g (told_of g bs n))
  v_once n is = clusters_once g (told_of g bs n).runs low (v_whole n is) (λ q i j r s a b t u. (v_one q n n i j r s is is a b t u).1)

  -- a file has a cluster exactly where it is one of those that its header tells
  v_in_file : (q n : ℕ) → IsFileNumber g n → Has (clusters_told g (told_of g bs n)) q ↔ (is_in_file v q n ≡ true)
  v_in_file q n is = (
    (λ t. let h = run_of g (told_of g bs n).runs q low (v_whole n is) t in place_any (is_in_run (factor v) q) (runs v n) h.place h.run (ap (λ rs. slice_get rs h.place) (v_runs n is) ∙ h.there) h.inside),
    (λ e. let h = any_place (is_in_run (factor v) q) (runs v n) e in of_run g (told_of g bs n).runs q h.place h.item low (v_whole n is) (ap (λ rs. slice_get rs h.place) (sym (v_runs n is)) ∙ h.there) h.passes),
  )

  v_number : (n : ℕ) → Has (numbers v) n → IsFileNumber g n
  v_number n t = let h = has_ranged 1 home.files n t in record { from = h.0; to = (let lt = h.1 in omega arith) }

  v_numbers : (n : ℕ) → IsFileNumber g n → Has (numbers v) n
  v_numbers n is = let a = is.from in let b = is.to in ranged_has 1 home.files n a (let lt : n < 1 + home.files = omega arith in lt)

  v_in_total : (q n : ℕ) → IsFileNumber g n → Has (clusters_told g (told_of g bs n)) q → q < total v
  v_in_total q n is t =
      let h = run_of g (told_of g bs n).runs q low (v_whole n is) t in
      within_total g h.run q (whole_at g (told_of g bs n).runs h.place h.run (v_whole n is) h.there) h.inside

  v_in_files : (q n : ℕ) → IsFileNumber g n → is_in_file v q n ≡ true → is_in_files v q ≡ true
  unfolding is_in_files
  v_in_files q n is e = has_any (is_in_file v q) (numbers v) n (v_numbers n is) e

  v_owner : (q n : ℕ) → IsFileNumber g n → Has (clusters_told g (told_of g bs n)) q → cluster_owner v q ≡ InFile n
  v_owner q n is t = owner_in_file v q n (by_free (is_free_cluster v q) refl) (by_found (find (is_in_file v q) (numbers v)) refl) where
    mine : is_in_file v q n ≡ true
    mine = (v_in_file q n is).0 t

    run : IsInRunAt g.cluster q (told_of g bs n).runs
    run = run_of g (told_of g bs n).runs q low (v_whole n is) t

    by_free : (b : Bool) → is_free_cluster v q ≡ b → is_free_cluster v q ≡ false
    by_free false e = e
    by_free true e = absurd (weak (finding.FreeCluster q) (v_in_total q n is t, e, v_in_files q n is mine))

    by_found : (o : Option ℕ) → find (is_in_file v q) (numbers v) ≡ o → find (is_in_file v q) (numbers v) ≡ Some n
    by_found None e = absurd (let f : false ≡ true = sym (found_none (is_in_file v q) (numbers v) n e (v_numbers n is)) ∙ mine in cc)
    by_found (Some m) e =
        let h = found_is (is_in_file v q) (numbers v) m e in
        let is_m = v_number m h.0 in
        let other = run_of g (told_of g bs m).runs q low (v_whole m is_m) ((v_in_file q m is_m).1 h.1) in
        let same = (v_one q m n other.place run.place other.run run.run is_m is other.there run.there other.inside run.inside).0 in
        e ∙ ap (λ x. Some x) same

  -- ---- the lists of owners

  cluster_at : (q : ℕ) (o : Owner) → q < total v → cluster_owner v q ≡ o → slice_get (map (cluster_owner v) (range_with_len 0 (total v))) q ≡ Some o
  cluster_at q o lt e = get_along (cluster_owner v) 0 (total v) q lt ∙ ap (λ x. Some (cluster_owner v x)) (let z : 0 + q ≡ q = omega arith in z) ∙ ap (λ x. Some x) e

  cluster_from : (q : ℕ) (o : Owner) → slice_get (map (cluster_owner v) (range_with_len 0 (total v))) q ≡ Some o → (q < total v) × (cluster_owner v q ≡ o)
  cluster_from q o e = let h = along_get (cluster_owner v) 0 (total v) q o e in (h.0, ap (cluster_owner v) (let z : q ≡ 0 + q = omega arith in z) ∙ h.1)

  number_at : (n : ℕ) (o : Owner) → IsFileNumber g n → number_owner v n ≡ o → slice_get (map (number_owner v) (numbers v)) (n - 1) ≡ Some o
  number_at n o is e =
      let a = is.from in
      let b : n ≤ home.files = is.to in
      get_along (number_owner v) 1 home.files (n - 1) (omega arith) ∙ ap (λ x. Some (number_owner v x)) (let z : 1 + (n - 1) ≡ n = omega arith in z) ∙ ap (λ x. Some x) e

  number_from : (i : ℕ) (o : Owner) → slice_get (map (number_owner v) (numbers v)) i ≡ Some o → (i < home.files) × (number_owner v (1 + i) ≡ o)
  number_from i o e = along_get (number_owner v) 1 home.files i o e

  number_from_at : (n : ℕ) (o : Owner) → IsFileNumber g n → slice_get (map (number_owner v) (numbers v)) (n - 1) ≡ Some o → number_owner v n ≡ o
  number_from_at n o is e = let a = is.from in ap (number_owner v) (let z : n ≡ 1 + (n - 1) = omega arith in z) ∙ (number_from (n - 1) o e).1

  v_clusters : (n q : ℕ) → IsFileNumber g n → Has (clusters_told g (told_of g bs n)) q ↔ (slice_get (map (cluster_owner v) (range_with_len 0 (total v))) q ≡ Some (InFile n))
  v_clusters n q is = (
    (λ t. cluster_at q (InFile n) (v_in_total q n is t) (v_owner q n is t)),
    (λ e. let h = in_file_owner v q n (cluster_from q (InFile n) e).1 in (v_in_file q n is).1 (found_is (is_in_file v q) (numbers v) n h.1).1),
  )

  v_known : (q n : ℕ) → slice_get (map (cluster_owner v) (range_with_len 0 (total v))) q ≡ Some (InFile n) → IsFileNumber g n
  v_known q n e = let h = in_file_owner v q n (cluster_from q (InFile n) e).1 in v_number n (found_is (is_in_file v q) (numbers v) n h.1).0

  -- a number is one of a file's exactly where it is among the header slots that are told of the file
  v_in_slots : (m n : ℕ) → IsFileNumber g n → Has (told_of g bs n).slots m ↔ (is_slot_of v m n ≡ true)
  v_in_slots m n is = (
    (λ t. has_any (λ k. k == m) (told_in v n).slots m (subst (λ (x : Told). Has x.slots m) (sym (v_told n is)) t) (eq-eqb m m refl)),
    (λ e.
        let h = any_place (λ k. k == m) (told_in v n).slots e in
        let same : h.item ≡ m = eqb-true h.item m h.passes in
        subst (λ (x : Told). Has x.slots m) (v_told n is) (subst (λ k. Has (told_in v n).slots k) same (has_at (told_in v n).slots h.place h.item h.there))),
  )

  -- a number among the slots of a file has a header
  v_used_slot : (m n : ℕ) → IsFileNumber g n → Has (told_of g bs n).slots m → IsFileNumber g m × (is_some (used_slot v m) ≡ true)
  v_used_slot m n is t =
      let h = slot_used g bs n m (record { from = is.from; to = is.to }) t in
      let number = h.number in
      let is_m : IsFileNumber g m = record { from = number.from; to = number.to } in
      (is_m, ap (λ r. is_some (fields_in r)) (v_head m is_m) ∙ h.used)

  v_system : (n : ℕ) → 1 ≤ n → n ≤ 11 → is_system_file v n ≡ true
  v_system n a b = by_test (is_system_file v n) refl where
    by_test : (t : Bool) → is_system_file v n ≡ t → is_system_file v n ≡ true
    by_test true e = e
    by_test false e = absurd (weak (finding.SystemFile n) (a, b, e))

  -- a system file has one header, with all its blocks
  v_headed : (n : ℕ) → IsFileNumber g n → n ≤ 11 → has_one_at_most (fields_in (told_of g bs n).head) (told_of g bs n) ≡ true
  v_headed n is low =
      ap (λ o. has_one_at_most o (told_of g bs n)) (sym (v_fields n is)) ∙ ap (has_one_at_most (fields v n)) (sym (v_told n is)) ∙ system_one v n (v_system n is.from low)

  -- the chain of another file in use has all of its blocks, and is well split
  v_chain : (n : ℕ) → IsFileNumber g n → 11 < n → (f : Hdr) → fields v n ≡ Some f
      → (is_broken f (chain_of (headers_of v) n f) ≡ false) × (is_well_split (factor v) (chain_of (headers_of v) n f) ≡ true)
  v_chain n is above f used = by_tests (is_broken f (chain_of (headers_of v) n f)) (is_well_split (factor v) (chain_of (headers_of v) n f)) refl refl where
    by_tests : (a b : Bool) → is_broken f (chain_of (headers_of v) n f) ≡ a → is_well_split (factor v) (chain_of (headers_of v) n f) ≡ b
        → (is_broken f (chain_of (headers_of v) n f) ≡ false) × (is_well_split (factor v) (chain_of (headers_of v) n f) ≡ true)
    by_tests false true t u = (t, u)
    by_tests true b t u =
        absurd (weak (finding.ChainBroken n) (number_is n is, above, chain_fault_is v n f used ∙ ap (λ x. cond x (Some (finding.ChainBroken n)) (cond (is_well_split (factor v) (chain_of (headers_of v) n f)) None (Some (finding.ChainSplit n)))) t))
    by_tests false false t u =
        absurd (weak (finding.ChainSplit n) (
          number_is n is,
          above,
          chain_fault_is v n f used ∙ ap (λ x. cond x (Some (finding.ChainBroken n)) (cond (is_well_split (factor v) (chain_of (headers_of v) n f)) None (Some (finding.ChainSplit n)))) t
              ∙ ap (λ x. cond x None (Some (finding.ChainSplit n))) u,
        ))

  v_size_above : (n : ℕ) → IsFileNumber g n → 11 < n → blocks_in (told_of g bs n).runs ≡ size_in (fields_in (told_of g bs n).head)
  v_size_above n is above = subst (λ (t : Told). blocks_in t.runs ≡ size_in (fields_in t.head)) (v_told n is) (by_fields (fields v n) refl) where
    by_fields : (o : Option Hdr) → fields v n ≡ o → blocks_in (told_in v n).runs ≡ size_in (fields_in (told_in v n).head)
    by_fields None e = subst (λ (t : Told). blocks_in t.runs ≡ size_in (fields_in t.head)) (sym (none_told v n e)) (ap size_in (sym e))
    by_fields (Some f) e =
        subst (λ (t : Told). blocks_in t.runs ≡ size_in (fields_in t.head)) (sym (file_told v n f e))
        (eqb-true (blocks_in (chain_of (headers_of v) n f).runs) f.blocks (not-false _ (v_chain n is above f e).0))

  v_size : (n : ℕ) → IsFileNumber g n → blocks_in (told_of g bs n).runs ≡ size_in (fields_in (told_of g bs n).head)
  v_size n is = elim (cases_lt 11 n) [ inl above ↦ v_size_above n is above | inr low ↦ one_sized g bs n (v_headed n is low) ]

  v_few : (n : ℕ) → IsFileNumber g n → 11 < n → length (clusters_told g (told_of g bs n)) ≤ file_most
  v_few n is above = few_by g n (told_of g bs n).head (told_of g bs n).runs low (v_tells n is) (v_whole n is) (v_size n is) (λ f e. by_test f e (is_too_large v (Some f)) refl) where
    by_test : (f : Hdr) → fields_in (told_of g bs n).head ≡ Some f → (t : Bool) → is_too_large v (Some f) ≡ t → is_too_large v (Some f) ≡ false
    by_test f e false t = t
    by_test f e true t = absurd (weak (finding.Clusters n) (number_is n is, above, ap (is_too_large v) (v_fields n is ∙ e) ∙ t))

  v_split : (n : ℕ) → IsFileNumber g n → 11 < n → is_well_split g.cluster (chain_told (told_of g bs n)) ≡ true
  v_split n is above = subst (λ (t : Told). is_well_split g.cluster (chain_told t) ≡ true) (v_told n is) (by_fields (fields v n) refl) where
    by_fields : (o : Option Hdr) → fields v n ≡ o → is_well_split (factor v) (chain_told (told_in v n)) ≡ true
    by_fields None e = ap (λ (t : Told). is_well_split (factor v) (chain_told t)) (none_told v n e) ∙ none_split (factor v) 0
    by_fields (Some f) e = ap (λ (t : Told). is_well_split (factor v) (chain_told t)) (file_told v n f e) ∙ (v_chain n is above f e).1

  v_sound : (n : ℕ) → IsFileNumber g n → IsSoundChain g bs n
  v_sound n is = record { whole = v_whole n is; size = v_size n is; split = v_split n is; system = v_headed n is }

  -- files that share a cluster are one
  v_apart : (n k : ℕ) → IsFileNumber g n → IsFileNumber g k → (q : ℕ) → Has (clusters_told g (told_of g bs n)) q → Has (clusters_told g (told_of g bs k)) q → n ≡ k
  v_apart n k is_n is_k q t u =
      let a = run_of g (told_of g bs n).runs q low (v_whole n is_n) t in
      let b = run_of g (told_of g bs k).runs q low (v_whole k is_k) u in
      (v_one q n k a.place b.place a.run b.run is_n is_k a.there b.there a.inside b.inside).0

  -- so a slot is among those of one file
  v_one_file : (m n k : ℕ) → IsFileNumber g n → IsFileNumber g k → Has (told_of g bs n).slots m → Has (told_of g bs k).slots m → k ≡ n
  v_one_file m n k is_n is_k t u = one_file g bs k n m low (v_sound k is_k) (v_sound n is_n) (v_apart k n is_k is_n) u t

  v_slot_owner : (m n : ℕ) → IsFileNumber g n → Has (told_of g bs n).slots m → IsFileNumber g m × (number_owner v m ≡ InFile n)
  v_slot_owner m n is t = (is_m, owner_in_slots v m n (by_bit (is_used_number v m) refl) (by_found (find (is_slot_of v m) (numbers v)) refl)) where
    is_m : IsFileNumber g m
    is_m = (v_used_slot m n is t).0

    by_bit : (b : Bool) → is_used_number v m ≡ b → is_used_number v m ≡ true
    by_bit true e = e
    by_bit false e = absurd (weak (finding.FreeNumber m) (number_is m is_m, e, (v_used_slot m n is t).1))

    by_found : (o : Option ℕ) → find (is_slot_of v m) (numbers v) ≡ o → find (is_slot_of v m) (numbers v) ≡ Some n
    by_found None e = absurd (let f : false ≡ true = sym (found_none (is_slot_of v m) (numbers v) n e (v_numbers n is)) ∙ (v_in_slots m n is).0 t in cc)
    by_found (Some k) e =
        let h = found_is (is_slot_of v m) (numbers v) k e in
        let is_k = v_number k h.0 in
        e ∙ ap (λ x. Some x) (v_one_file m n k is is_k t ((v_in_slots m k is_k).1 h.1))

  v_slots : (n m : ℕ) → IsFileNumber g n → Has (told_of g bs n).slots m ↔ (IsFileNumber g m × (slice_get (map (number_owner v) (numbers v)) (m - 1) ≡ Some (InFile n)))
  v_slots n m is = (
    (λ t. let h = v_slot_owner m n is t in (h.0, number_at m (InFile n) h.0 h.1)),
    (λ x. let h = in_slots_owner v m n (number_from_at m (InFile n) x.0 x.1) in (v_in_slots m n is).1 (found_is (is_slot_of v m) (numbers v) n h.1).1),
  )

  v_cluster_bits : (q : ℕ) → q < total v → (cluster_bit g bs q ≡ true) ↔ (slice_get (map (cluster_owner v) (range_with_len 0 (total v))) q ≡ Some Free)
  v_cluster_bits q lt =
      let bit : is_free_cluster v q ≡ cluster_bit g bs q = free_cluster_at v q (bitmap_lbn v) refl in (
        (λ e. cluster_at q Free lt ((free_owner v q).0 (bit ∙ e))),
        (λ e. sym bit ∙ (free_owner v q).1 (cluster_from q Free e).1),
      )

  v_number_bits : (n : ℕ) → IsFileNumber g n → (number_bit g bs n ≡ false) ↔ (slice_get (map (number_owner v) (numbers v)) (n - 1) ≡ Some Free)
  v_number_bits n is =
      let bit : is_used_number v n ≡ number_bit g bs n = number_bit_is v n in (
        (λ e. number_at n Free is ((free_number_owner v n).0 (bit ∙ e))),
        (λ e. sym bit ∙ (free_number_owner v n).1 (number_from_at n Free is e)),
      )

  v_known_numbers : (i n : ℕ) → slice_get (map (number_owner v) (numbers v)) i ≡ Some (InFile n) → IsFileNumber g n
  v_known_numbers i n e = let h = in_slots_owner v (1 + i) n (number_from i (InFile n) e).1 in v_number n (found_is (is_slot_of v (1 + i)) (numbers v) n h.1).0

  v_outs : (node : ℕ) → Outs node (owners_told v) nothing nothing
  v_outs node = record {
    clusters = record { all = λ q. ((λ e. absurd (never_outside v q node (cluster_from q (Outside node) e).1)), (λ t. elim t [ inl f ↦ absurd f | inr f ↦ absurd f ])); once = tt };
    numbers = record { all = λ i. ((λ e. absurd (number_never_outside v (1 + i) node (number_from i (Outside node) e).1)), (λ t. elim t [ inl f ↦ absurd f | inr f ↦ absurd f ])); once = tt };
  }

  -- ---- the volume's own structures

  first_number : (n : ℕ) → 1 ≤ n → n ≤ 11 → IsFileNumber g n
  first_number n a b = let f = within.files_low in record { from = a; to = (let h : n ≤ home.files = omega arith in h) }

  one : IsFileNumber g 1
  one = first_number 1 (omega arith) (omega arith)

  two : IsFileNumber g 2
  two = first_number 2 (omega arith) (omega arith)

  ten : IsFileNumber g 10
  ten = first_number 10 (omega arith) (omega arith)

  index_parts : (is_system_header 1 (fields v 1) ≡ true) × IsOneRun v 1 (in_whole_clusters (factor v) (4 * factor v + 1 + v.home.files)) (runs v 1)
  index_parts = system_parts v 1 (in_whole_clusters (factor v) (4 * factor v + 1 + v.home.files)) (v_system 1 (omega arith) (omega arith)) (stated_index v)

  bitmap_parts : (is_system_header 2 (fields v 2) ≡ true) × IsOneRun v 2 (in_whole_clusters (factor v) (1 + storage_blocks (total v))) (runs v 2)
  bitmap_parts = system_parts v 2 (in_whole_clusters (factor v) (1 + storage_blocks (total v))) (v_system 2 (omega arith) (omega arith)) (stated_bitmap v)

  quota_parts : (is_system_header 10 (fields v 10) ≡ true) × IsOneRun v 10 1 (runs v 10)
  quota_parts = system_parts v 10 1 (v_system 10 (omega arith) (omega arith)) (stated_quota v)

  structure : (n : ℕ) (r q : Run) → IsFileNumber g n → is_system_header n (fields v n) ≡ true → runs v n ≡ r ∷ [] → r ≡ q → IsStructure g bs n q
  structure n r q is h one same = record {
    header = ap (is_system_header n) (sym (v_fields n is)) ∙ h;
    run = sym (v_runs n is) ∙ one ∙ ap (λ x. x ∷ []) same;
  }

  v_bitmap_file : IsStructure g bs 2 (run_for g g.bitmap_lbn (1 + storage_blocks (total_of g)))
  v_bitmap_file = let p = bitmap_parts in let o = p.1 in structure 2 o.run _ two p.0 o.one (same_run o.run (bitmap_lbn v) _ (sym (ap first_lbn o.one)) o.count)

  v_index_file : IsStructure g bs 1 (run_for g 0 (4 * g.cluster + 1 + g.files))
  v_index_file = let p = index_parts in let o = p.1 in structure 1 o.run _ one p.0 o.one (same_run o.run 0 _ (o.begins refl) o.count)

  v_quota_file : IsStructure g bs 10 (record { lbn = g.quota_lbn; count = g.cluster })
  v_quota_file =
      let p = quota_parts in
      let o = p.1 in
      let k : factor v * 1 ≡ factor v = omega arith in
      structure 10 o.run _ ten p.0 o.one (same_run o.run (quota_lbn v) (factor v) (sym (ap first_lbn o.one)) (o.count ∙ k))

  v_control : scb_read (slice_index_or bs g.bitmap_lbn []) ≡ Ok (record { cluster = g.cluster; blocks = g.blocks })
  v_control = scb_right v (scb_read (block_at v (bitmap_lbn v))) (sym (scb_of v) ∙ by_fault (scb_fault v) refl) where
    by_fault : (o : Option ScbFault) → scb_fault v ≡ o → scb_fault v ≡ None
    by_fault None e = e
    by_fault (Some fault) e = absurd (weak (finding.Scb fault) e)

  v_structures : HasStructures g bs
  v_structures = record {
    home = subst (λ (r : Result Home HomeFault). IsHomeOf g r) (sym read) (refl, refl);
    control = v_control;
    index = v_index_file;
    bitmap = v_bitmap_file;
    quota = v_quota_file;
  }

  v_geometry : IsGeometry g
  v_geometry =
      let b = bitmap_parts.1 in
      let q = quota_parts.1 in
      let bl : bitmap_lbn v ≡ b.run.lbn = ap first_lbn b.one in
      let ql : quota_lbn v ≡ q.run.lbn = ap first_lbn q.one in
      let r : 0 < factor v * in_whole_clusters (factor v) (1 + storage_blocks (total v)) = room (factor v) (1 + storage_blocks (total v)) 0 low (omega arith) in
      let c1 = b.count in
      let c2 = q.count in
      let i1 = b.inside in
      let i2 = q.inside in
      let lo = low in
      let all : factor v * total v ≤ length bs = mul-div-le (length bs) (factor v) in
      record {
        blocks_from = from;
        blocks_to = to;
        cluster_from = within.cluster_low;
        cluster_to = within.cluster_high;
        files_from = within.files_low;
        files_to = within.files_high;
        bitmap = (let h : bitmap_lbn v < length bs = before (bitmap_lbn v) b.run.lbn b.run.count (factor v * in_whole_clusters (factor v) (1 + storage_blocks (total v))) (factor v * total v) (length bs) bl c1 r i1 all in h);
        quota = (let h : quota_lbn v < length bs = before (quota_lbn v) q.run.lbn q.run.count (factor v * 1) (factor v * total v) (length bs) ql c2 (omega arith) i2 all in h);
      } where
        before : (l x k m t n : ℕ) → l ≡ x → k ≡ m → 0 < m → x + k ≤ t → t ≤ n → l < n
        before l x k m t n a b c d e = omega arith

  -- ---- files and rows

  v_structure_header : (n : ℕ) → is_structure n ≡ true → is_system_header n (fields_in (told_of g bs n).head) ≡ true
  v_structure_header n e =
      let P : ℕ → Type 0 = λ k. is_system_header k (fields_in (told_of g bs k).head) ≡ true in
      elim (which_structure n e) [
        | inl a ↦ subst P (sym a) v_index_file.header
        | inr more ↦ elim more [ inl b ↦ subst P (sym b) v_bitmap_file.header | inr c ↦ subst P (sym c) v_quota_file.header ]
      ]

  v_dir_test : (n : ℕ) → IsFileNumber g n → dir_test v n (fields v n) ≡ None
  v_dir_test n is = by_found (dir_test v n (fields v n)) refl where
    said : (f k : Finding) → dir_test v n (fields v n) ≡ Some f → f ≡ k → dir_fault v n ≡ Some k
    said f k e same = fault_of v n ∙ e ∙ ap (λ x. Some x) same

    by_found : (o : Option Finding) → dir_test v n (fields v n) ≡ o → dir_test v n (fields v n) ≡ None
    by_found None e = e
    by_found (Some f) e = absurd (elim (dir_finding v n (fields v n) f e) [
      | Size same ↦ weak (finding.DirSize n) (number_is n is, said f (finding.DirSize n) e same)
      | Record same ↦ weak (finding.DirRecord n) (number_is n is, said f (finding.DirRecord n) e same)
      | Order same ↦ weak (finding.DirOrder n) (number_is n is, said f (finding.DirOrder n) e same)
      | Mixed same ↦ weak (finding.DirClash n) (number_is n is, said f (finding.DirClash n) e same)
    ])

  v_dir_all : (n : ℕ) → IsFileNumber g n → dir_found g n (fields_in (told_of g bs n).head) (told_of g bs n) (blocks_at bs (lbns_in (told_of g bs n).runs)) ≡ None
  v_dir_all n is =
      ap (λ h. dir_found g n h (told_of g bs n) (blocks_at bs (lbns_in (told_of g bs n).runs))) (sym (v_fields n is))
      ∙ ap (λ t. dir_found g n (fields v n) t (blocks_at bs (lbns_in (told_of g bs n).runs))) (sym (v_told n is))
      ∙ ap (λ xs. dir_found g n (fields v n) (told_in v n) xs) (sym (v_body n is)) ∙ dir_same v n (fields v n) ∙ v_dir_test n is

  v_dir : (n : ℕ) → IsFileNumber g n → dir_found g n (fields_in (told_of g bs n).head) (told_of g bs n) (body_blocks bs n (told_of g bs n)) ≡ None
  v_dir n is = by_kind (is_structure n) refl where
    by_kind : (k : Bool) → is_structure n ≡ k → dir_found g n (fields_in (told_of g bs n).head) (told_of g bs n) (body_blocks bs n (told_of g bs n)) ≡ None
    by_kind true e = dir_blind g n (fields_in (told_of g bs n).head) _ _ (no_directory n e) (v_structure_header n e)
    by_kind false e =
        ap (λ t. dir_found g n (fields_in (told_of g bs n).head) (told_of g bs n) (blocks_at bs (cond t [] (lbns_in (told_of g bs n).runs)))) e ∙ v_dir_all n is

  v_files : (n : ℕ) (s : Slot) → IsFileNumber g n → slice_get (files_of v) (n - 1) ≡ Some s → Tells g (owners_told v) n (told_of g bs n) (body_blocks bs n (told_of g bs n)) s
  v_files n s is at = record {
    reads = v_tells n is;
    whole = v_whole n is;
    once = v_once n is;
    runs = λ q. v_clusters n q is;
    few = v_few n is;
    split = v_split n is;
    slots = λ m. v_slots n m is;
    system = v_headed n is;
    size = v_size n is;
    dir = v_dir n is;
    slot =
        (let a = is.from in
        sym (seen g bs n (told_of g bs n) (v_structure_header n)) ∙ sym (slot_there_of v n (told_of g bs n) (blocks_at bs (lbns_in (told_of g bs n).runs)) (v_told n is) (v_body n is))
        ∙ ap (slot_of v) (let z : n ≡ 1 + (n - 1) = omega arith in z) ∙ slot_from v (n - 1) s at);
  }

  v_blank : (m : ℕ) → IsFileNumber g m → slice_get (map (number_owner v) (numbers v)) (m - 1) ≡ Some Free → IsBlank (header_block g bs m)
  v_blank m is at = sym (ap fields_in (v_head m is)) ∙ by_fields (fields_in (head_of v m)) refl where
    by_fields : (o : Option Hdr) → fields_in (head_of v m) ≡ o → fields_in (head_of v m) ≡ None
    by_fields None e = e
    by_fields (Some f) e = absurd (weak (finding.FreeNumber m) (number_is m is, (free_number_owner v m).1 (number_from_at m Free is at), ap is_some e))

  v_quota_body : body v 10 ≡ blocks_at bs (quota_places g)
  v_quota_body = v_body 10 ten ∙ ap (λ rs. blocks_at bs (lbns_in rs)) v_quota_file.run ∙ ap (λ ls. blocks_at bs ls) (append-nil (quota_places g))

  v_rows : active_rows v ≡ rows_told g bs
  v_rows = rows_there v (blocks_at bs (quota_places g)) v_quota_body

  v_row_owners : Once (map (λ (r : Row). r.uic) (rows_told g bs))
  v_row_owners = once_by_place (λ (r : Row). r.uic) (rows_told g bs) (λ i j a b s t e. elim (same_or_not i j) [
    | inl same ↦ same
    | inr ne ↦ absurd (weak (finding.QuotaRow (record { 0 = a.uic })) (twice i j a b s t e ne))
  ]) where
    twice : (i j : ℕ) (a b : Row) → slice_get (rows_told g bs) i ≡ Some a → slice_get (rows_told g bs) j ≡ Some b → a.uic ≡ b.uic → i ≢ j → has_two_rows (active_rows v) a.uic ≡ true
    twice i j a b s t e ne =
        let two : 2 ≤ count_by (λ (r : Row). r.uic == a.uic) (active_rows v) =
        two_counted (λ (r : Row). r.uic == a.uic) (active_rows v) i j a b (ap (λ xs. slice_get xs i) v_rows ∙ s) (ap (λ xs. slice_get xs j) v_rows ∙ t) ne (eq-eqb a.uic a.uic refl) (eq-eqb b.uic a.uic (sym e)) in
        le-leb 2 (count_by (λ (r : Row). r.uic == a.uic) (active_rows v)) two

  v_row_count : length (body v 10) ≡ g.cluster
  v_row_count = ap (λ xs. length xs) v_quota_body ∙ length-blocks_at bs (quota_places g) ∙ length-range_with_len g.quota_lbn g.cluster

  v_spelt : Spells g bs (owners_told v) (catalogue v)
  unfolding catalogue
  v_spelt = record {
    counts = record {
      geometry = v_geometry;
      blocks = refl;
      clusters = length-map-range_with_len (cluster_owner v) 0 (total v);
      numbers = length-map-range_with_len (number_owner v) 1 home.files;
      slots = length-files_of v;
    };
    whole = blocks;
    structures = v_structures;
    constants = record { factor = refl; total = refl; reserved = refl; rows = ap (λ k. 16 * k) v_row_count };
    files = v_files;
    slots = record { heads = v_reads; blank = v_blank };
    rows = record {
      quota = ap rows_sorted v_rows;
      once = v_row_owners;
    };
    owners = record {
      cluster_bits = v_cluster_bits;
      number_bits = v_number_bits;
      known = v_known;
      known_numbers = v_known_numbers;
      leaked = count_along (is_same_owner Leaked) (cluster_owner v) (is_outside_cluster v) (range_with_len 0 (total v)) (leaked_owner v);
      leaked_numbers = map_along (is_same_owner Leaked) (number_owner v) (is_outside_number v) (numbers v) (leaked_number_owner v);
    };
  }

  pub is_spelt : IsSpelt bs (catalogue v)
  is_spelt = record { home = home; read = read; spelt = v_spelt; outs = v_outs }

pub catalogue_is_spelt : CatalogueIsSpelt
catalogue_is_spelt bs c from to blocks at = by_home (home_read (home_at bs)) refl at.weak at.told where
  by_home : (r : Result Home HomeFault) → home_read (home_at bs) ≡ r → ((f : Finding) → IsFatalBy bs r f → ⊥) → IsCatalogueBy bs r c → IsSpelt bs c
  by_home (Err fault) e weak told = absurd told
  by_home (Ok home) e weak told = subst (λ (x : Cat). IsSpelt bs x) (sym told) (is_spelt home bs e (limits_of (home_at bs) home e) from to blocks (λ f i. absurd (weak f i)))

pub beside_is_spelt : BesideIsSpelt
beside_is_spelt home bs from to whole read beside = is_spelt home bs read (limits_of (home_at bs) home read) from to whole beside
