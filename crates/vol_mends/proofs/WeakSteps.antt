-- Blocks that spell a catalogue that can be mended have no fatal finding.
use Rattle.std.proofs.Common.{◌≡◌, ◌≢◌, ◌<◌, ◌≤◌, ◌+◌, ◌-◌, ◌*◌, ◌/◌, ◌∙◌, ℕ, Bool, true, false, cond, not, List, [], ◌∷◌, Option, Some, None, length, slice_get, get_or, refl, sym, ap, subst, arith, ◌⊎◌, inl, inr}
use Rattle.std.specs.Prelude.{◌==◌, ◌||◌, ◌&&◌, is_some, Result, Ok, Err, count_by, slice_index_or}
use Rattle.std.specs.List.{list_any}
use Rattle.std.proofs.lemmas.Bool.{and_parts, and_from, eq-eqb, eqb-true, leb-true, ltb-true}
use Rattle.base_words.specs.Fields.{Block}
use Rattle.fx_home.specs.declared.home.Home.{Home}
use Rattle.fx_home.specs.declared.home.HomeFault.{HomeFault}
use Rattle.fx_home.specs.declared.scb.ScbFault.TheVariants.{BadCluster, BadSize}
use Rattle.fx_home.specs.Homes.{home_read, scb_read}
use Rattle.fx_header.specs.declared.run.Run.{Run}
use Rattle.fx_header.specs.declared.slot.Hdr.{Hdr}
use Rattle.fx_header.specs.declared.slot.HeaderFault.{HeaderFault}
use Rattle.fx_header.specs.Headers.{header_read}
use Rattle.fx_header.specs.Pointers.{blocks_in, lbns_in}
use Rattle.fx_dir.specs.Directory.{directory}
use Rattle.fx_quota.specs.declared.types.Row.{Row}
use Rattle.plain_cat.specs.declared.cat.Cat.{Cat}
use Rattle.plain_cat.specs.declared.cat.File.{File}
use Rattle.plain_cat.specs.declared.cat.Slot.{Slot}
use Rattle.plain_cat.specs.declared.cat.Slot.TheVariants.{Used, Free}
use Rattle.plain_rules.specs.Lookups.{file_at, row_of, clusters_in, file_most}
use Rattle.plain_rules.proofs.Standing.{stands_at}
use Rattle.plain_laws.proofs.Standing.{file_from}
use Rattle.plain_mends.specs.Sound.{IsSystemFile}
use Rattle.vol_spell.specs.declared.owner.Owner.TheVariants.{InFile}
use Rattle.vol_spell.specs.declared.owner.Owner.TheVariants as owner
use Rattle.base_words.specs.Lists.{Has}
use Rattle.vol_spell.specs.Owners.{Owners}
use Rattle.vol_spell.specs.Spread.{blocks_at}
use Rattle.base_words.proofs.Listing.{same_or_not}
use Rattle.vol_parts.specs.declared.finding.Finding.{Finding}
use Rattle.vol_parts.specs.declared.finding.Finding.TheVariants as finding
use Rattle.vol_parts.specs.declared.geometry.Geometry.{Geometry}
use Rattle.vol_parts.specs.Parts.{storage_blocks}
use Rattle.vol_parts.specs.Volumes.{Volume, volume, IsNumber, factor, total, head as head_of, used_slot, fields_in, fields, headers_of, Told, told as told_in, runs, body, bitmap_lbn, is_free_cluster, is_used_number, is_in_files, active_rows}
use Rattle.vol_parts.specs.Chains.{HeaderChain, chain_of, is_broken, is_well_split}
use Rattle.vol_parts.specs.Catalogues.{is_structure, file_of, catalogue}
use Rattle.vol_parts.proofs.Alone.{file_told as file_told_in}
use Rattle.vol_parts.specs.Fatal.{is_one_header, has_one_header, chain_test, chain_fault, in_whole_clusters, stated_clusters, are_stated, is_system_header, is_system_file, scb_test, scb_fault, is_off_bounds, is_too_large, IsInRun, IsShared, is_cluster_run, has_dir_size, found_in, dir_test, dir_fault, has_two_rows, is_rowless, HasNoRoom, IsFatalIn}
use Rattle.plain_rules.specs.SystemFiles.{is_system_directory}
use Rattle.vol_parts.specs.Findings.{home_at, IsFatalBy, IsFatal, IsCatalogueBy}
use Rattle.vol_faults.specs.CatFindings.{IsFatalOf}
use Rattle.vol_spell.specs.Reading.{IsFileNumber, total_of, header_block, told_of, chain_told, clusters_told, body_blocks, rows_told}
use Rattle.vol_spell.specs.Accepting.{IsBeside}
use Rattle.vol_spell.specs.Spelling.{IsHomeOf, dir_found, size_in, has_one_at_most, Tells, Spells}
use Rattle.vol_spell.proofs.Owned.{each_is_owned}
use Rattle.vol_spell.proofs.Parts.{slot_there, told}
use Rattle.vol_spell.proofs.Told.{no_dir, no_directory}
use Rattle.vol_spell.proofs.Picking.{any_place}
use Rattle.vol_spell.proofs.Clusters.{of_run}
use Rattle.vol_spell.proofs.Adds.{size_told}
use Rattle.vol_mends.specs.Weak.{NoOuts, shut, SpeltIsWeak}
use Rattle.vol_mends.proofs.Views.{v, v_head, v_told, v_fields, v_runs, v_body, v_bitmap, v_rows, v_total, v_cluster_bit, v_number_bit, system}
use Rattle.vol_mends.proofs.Tests.{head_fault, head_number, TellsFile, tells_file, told_file, system_header, stated_one, whole_within, whole_at, one_place, cluster_run, once_counted, rows_any}
use Rattle.vol_mends.proofs.Telling.{same_free, in_files, catalogue_is}

clash : (b : Bool) → b ≡ true → b ≡ false → ⊥
clash b t f = let both : true ≡ false = sym t ∙ f in cc both

-- the system files of a catalogue are there
abbrev pub HasSystems : Cat → Type 0
HasSystems c = (n : ℕ) → 1 ≤ n → n ≤ 11 → (f : File) × (file_at c n ≡ Some f) × IsSystemFile n f

-- each owner of a file has a quota row
abbrev pub HasOwners : Cat → Type 0
HasOwners c = (n : ℕ) (f : File) → file_at c n ≡ Some f → is_some (row_of f.owner c.quota) ≡ true

module _ (label : List ℕ) (g : Geometry) (bs : List Block) (own : Owners) (c : Cat) (s : Spells g bs own c) (outs : NoOuts own) (systems : HasSystems c) where
  abbrev w : Volume
  w = v label g bs own c s

  low : 1 ≤ g.cluster
  low = s.counts.geometry.cluster_from

  number : (n : ℕ) → IsNumber w n → IsFileNumber g n
  number n is = record { from = is.from; to = is.to }

  tells : (n : ℕ) → IsFileNumber g n → Tells g own n (told_of g bs n) (body_blocks bs n (told_of g bs n)) (get_or c.files (n - 1) (Free 0))
  tells n is = told g bs own c s n is

  -- ---- headers

  no_header : (n : ℕ) (fault : HeaderFault) → IsNumber w n → head_of w n ≡ Err fault → ⊥
  no_header n fault is e = head_fault n (header_read (header_block g bs n)) fault (s.slots.heads n (number n is)) (sym (v_head label g bs own c s n (number n is)) ∙ e)

  right_number : (n : ℕ) (f : Hdr) → IsNumber w n → used_slot w n ≡ Some f → f.num ≡ n
  right_number n f is e = head_number n (header_read (header_block g bs n)) f (s.slots.heads n (number n is)) (sym (ap fields_in (v_head label g bs own c s n (number n is))) ∙ e)

  -- the header of a file that stands in the catalogue
  header_of : (n : ℕ) (f : File) → IsFileNumber g n → file_at c n ≡ Some f → TellsFile g.cluster n (told_of g bs n).head (body_blocks bs n (told_of g bs n)) f
  header_of n f is at =
      let both : Some (get_or c.files (n - 1) (Free 0)) ≡ Some (Used f) = sym (slot_there g bs own c s n is) ∙ stands_at c n f at in
      let same : get_or c.files (n - 1) (Free 0) ≡ Used f = cc both in
      tells_file g.cluster n (told_of g bs n).head (body_blocks bs n (told_of g bs n)) f ((tells n is).slot ∙ same)

  -- and the file of a header that is in use
  file_told : (n : ℕ) (h : Hdr) → IsFileNumber g n → fields_in (told_of g bs n).head ≡ Some h → slice_get c.files (n - 1) ≡ Some (Used (file_of g.cluster n h (body_blocks bs n (told_of g bs n))))
  file_told n h is e = slot_there g bs own c s n is ∙ ap (λ (x : Slot). Some x) (sym (tells n is).slot ∙ told_file g.cluster n (told_of g bs n).head (body_blocks bs n (told_of g bs n)) h e)

  file_there : (n : ℕ) (h : Hdr) → IsFileNumber g n → fields_in (told_of g bs n).head ≡ Some h → file_at c n ≡ Some (file_of g.cluster n h (body_blocks bs n (told_of g bs n)))
  file_there n h is e = let from = is.from in file_from c n (file_of g.cluster n h (body_blocks bs n (told_of g bs n))) (omega (arith, from)) (file_told n h is e)

  -- ---- system files

  total_same : factor w * total w ≡ g.cluster * total_of g
  total_same = ap (λ k. g.cluster * k) (v_total label g bs own c s)

  inside : (n : ℕ) (r : Run) → IsFileNumber g n → (told_of g bs n).runs ≡ r ∷ [] → r.lbn + r.count ≤ factor w * total w
  inside n r is one =
      let i = (whole_at g (told_of g bs n).runs 0 r (tells n is).whole (ap (λ rs. slice_get rs 0) one)).inside in
      let e = total_same in
      omega (arith, i, e)

  runs_are : (n : ℕ) (r : Run) → IsFileNumber g n → (told_of g bs n).runs ≡ r ∷ [] → runs w n ≡ r ∷ []
  runs_are n r is one = v_runs label g bs own c s n is ∙ one

  -- a directory has one run of one cluster
  dir_run : (n : ℕ) (h : Hdr) → IsFileNumber g n → fields_in (told_of g bs n).head ≡ Some h → h.dir ≡ true → is_cluster_run g.cluster (told_of g bs n).runs ≡ true
  dir_run n h is e dir =
      let found : dir_found g n (Some h) (told_of g bs n) (body_blocks bs n (told_of g bs n)) ≡ None =
      ap (λ o. dir_found g n o (told_of g bs n) (body_blocks bs n (told_of g bs n))) (sym e) ∙ (tells n is).dir in
      by_size h.dir dir (is_one_header h (told_of g bs n) && has_dir_size g.cluster h (told_of g bs n).runs) refl found
    where
      by_size : (b : Bool) → b ≡ true → (z : Bool) → (is_one_header h (told_of g bs n) && has_dir_size g.cluster h (told_of g bs n).runs) ≡ z
          → cond (not b) None (cond z (found_in n (directory (body_blocks bs n (told_of g bs n)))) (Some (finding.DirSize n))) ≡ None → is_cluster_run g.cluster (told_of g bs n).runs ≡ true
      by_size false b z is_z f = absurd (cc b)
      by_size true b true is_z f =
          let sized = (and_parts (is_one_header h (told_of g bs n)) (has_dir_size g.cluster h (told_of g bs n).runs) is_z).1 in
          (and_parts (is_cluster_run g.cluster (told_of g bs n).runs) _ sized).0
      by_size true b false is_z f = absurd (cc f)

  stated : (n : ℕ) → IsFileNumber g n → ((is_system_directory n ≡ true) → is_cluster_run g.cluster (told_of g bs n).runs ≡ true) → are_stated w n (stated_clusters w n) (runs w n) ≡ true
  unfolding stated_clusters
  stated n is dir = by_one (n == 1) refl where
    quota_part : (b : Bool) → (n == 10) ≡ b → (d : Bool) → is_system_directory n ≡ d → (a1 : (n == 1) ≡ false) → are_stated w n (cond (d || b) (Some 1) None) (runs w n) ≡ true
    quota_part b e true i a1 =
        let r = cluster_run g.cluster (told_of g bs n).runs (dir i) in
        let k = r.count in
        stated_one w n 1 r.run (runs w n) (runs_are n r.run is r.one) (omega (arith, k)) (inside n r.run is r.one) (λ t. absurd (clash (n == 1) t a1))
    quota_part true e false i a1 =
        let ten : n ≡ 10 = eqb-true n 10 e in
        let q : Run = record { lbn = g.quota_lbn; count = g.cluster } in
        let one : (told_of g bs n).runs ≡ q ∷ [] = ap (λ k. (told_of g bs k).runs) ten ∙ s.structures.quota.run in
        stated_one w n 1 q (runs w n) (runs_are n q is one) (omega arith) (inside n q is one) (λ t. absurd (clash (n == 1) t a1))
    quota_part false e false i a1 = refl

    by_two : (b : Bool) → (n == 2) ≡ b → (a1 : (n == 1) ≡ false) → are_stated w n (cond b (Some (in_whole_clusters g.cluster (1 + storage_blocks (total w)))) (cond (is_system_directory n || (n == 10)) (Some 1) None)) (runs w n) ≡ true
    by_two true e a1 =
        let two : n ≡ 2 = eqb-true n 2 e in
        let r : Run = record { lbn = g.bitmap_lbn; count = g.cluster * in_whole_clusters g.cluster (1 + storage_blocks (total_of g)) } in
        let one : (told_of g bs n).runs ≡ r ∷ [] = ap (λ k. (told_of g bs k).runs) two ∙ s.structures.bitmap.run in
        stated_one w n (in_whole_clusters g.cluster (1 + storage_blocks (total w))) r (runs w n) (runs_are n r is one)
        (ap (λ k. g.cluster * in_whole_clusters g.cluster (1 + storage_blocks k)) (sym (v_total label g bs own c s))) (inside n r is one) (λ t. absurd (clash (n == 1) t a1))
    by_two false e a1 = quota_part (n == 10) refl (is_system_directory n) refl a1

    by_one : (b : Bool) → (n == 1) ≡ b
        → are_stated w n (cond b (Some (in_whole_clusters g.cluster (4 * g.cluster + 1 + g.files))) (cond (n == 2) (Some (in_whole_clusters g.cluster (1 + storage_blocks (total w)))) (cond (is_system_directory n || (n == 10)) (Some 1) None))) (runs w n) ≡ true
    by_one true e =
        let first : n ≡ 1 = eqb-true n 1 e in
        let r : Run = record { lbn = 0; count = g.cluster * in_whole_clusters g.cluster (4 * g.cluster + 1 + g.files) } in
        let one : (told_of g bs n).runs ≡ r ∷ [] = ap (λ k. (told_of g bs k).runs) first ∙ s.structures.index.run in
        stated_one w n (in_whole_clusters g.cluster (4 * g.cluster + 1 + g.files)) r (runs w n) (runs_are n r is one) refl (inside n r is one) (λ t. refl)
    by_one false e = by_two (n == 2) refl e

  -- it has one header
  one_header : (n : ℕ) (h : Hdr) → IsFileNumber g n → n ≤ 11 → fields_in (told_of g bs n).head ≡ Some h → has_one_header (fields w n) (told_in w n) ≡ true
  one_header n h is to at =
      ap (λ o. has_one_header o (told_in w n)) (v_fields label g bs own c s n is ∙ at) ∙ ap (is_one_header h) (v_told label g bs own c s n is)
      ∙ ap (λ o. has_one_at_most o (told_of g bs n)) (sym at) ∙ (tells n is).system to

  system_file : (n : ℕ) → 1 ≤ n → n ≤ 11 → is_system_file w n ≡ true
  unfolding is_system_file
  system_file n from to =
      let files = s.counts.geometry.files_from in
      let is : IsFileNumber g n = record { from = from; to = omega (arith, to, files) } in
      let m = systems n from to in
      let t = header_of n m.0 is m.1 in
      let dir : t.hdr.dir ≡ is_system_directory n = ap (λ (x : File). x.dir) t.is ∙ m.2.dir in
      and_from (is_system_header n (fields w n)) (has_one_header (fields w n) (told_in w n) && are_stated w n (stated_clusters w n) (runs w n))
      (ap (is_system_header n) (v_fields label g bs own c s n is ∙ t.at) ∙ system_header g.cluster n t.hdr (body_blocks bs n (told_of g bs n)) m.0 t.is m.2)
      (and_from (has_one_header (fields w n) (told_in w n)) (are_stated w n (stated_clusters w n) (runs w n)) (one_header n t.hdr is to t.at)
      (stated n is (λ d. dir_run n t.hdr is t.at (dir ∙ d))))

  -- ---- the storage control block

  control : scb_fault w ≡ None
  unfolding scb_fault
  control =
      let read : scb_read (slice_index_or bs (bitmap_lbn w) []) ≡ Ok (record { cluster = g.cluster; blocks = g.blocks }) = ap (λ l. scb_read (slice_index_or bs l [])) (v_bitmap label g bs own c s) ∙ s.structures.control in
      ap (λ r. scb_test w r) read
      ∙ (ap (λ b. cond (not b) (Some BadCluster) (cond (not (g.blocks == length bs)) (Some BadSize) None)) (eq-eqb g.cluster g.cluster refl)
      ∙ ap (λ b. cond (not b) (Some BadSize) None) (eq-eqb g.blocks (length bs) (sym s.counts.blocks)))

  -- ---- chains of headers

  -- the chain of a file in use
  chain_is : (n : ℕ) (h : Hdr) → IsFileNumber g n → fields w n ≡ Some h → chain_told (told_of g bs n) ≡ chain_of (headers_of w) n h
  chain_is n h is at = ap chain_told (sym (v_told label g bs own c s n is)) ∙ ap chain_told (file_told_in w n h at)

  chain_fine : (n : ℕ) → IsNumber w n → 11 < n → chain_fault w n ≡ None
  unfolding chain_fault
  chain_fine n k high = by_fields (fields w n) refl where
    is : IsFileNumber g n
    is = number n k

    by_fields : (o : Option Hdr) → fields w n ≡ o → chain_test w n o ≡ None
    by_fields None at = refl
    by_fields (Some h) at =
        let chain = chain_is n h is at in
        let size : blocks_in (told_of g bs n).runs ≡ h.blocks = (tells n is).size ∙ ap size_in (sym (v_fields label g bs own c s n is) ∙ at) in
        let same : blocks_in (chain_of (headers_of w) n h).runs ≡ h.blocks = ap (λ (x : HeaderChain). blocks_in x.runs) (sym chain) ∙ size in
        let whole : is_broken h (chain_of (headers_of w) n h) ≡ false = ap not (eq-eqb _ _ same) in
        let split : is_well_split g.cluster (chain_of (headers_of w) n h) ≡ true = ap (is_well_split g.cluster) (sym chain) ∙ (tells n is).split high in
        ap (λ b. cond b (Some (finding.ChainBroken n)) (cond (is_well_split g.cluster (chain_of (headers_of w) n h)) None (Some (finding.ChainSplit n)))) whole
        ∙ ap (λ b. cond b None (Some (finding.ChainSplit n))) split

  no_chain_fault : (n : ℕ) (f : Finding) → IsNumber w n → 11 < n → chain_fault w n ≡ Some f → ⊥
  no_chain_fault n f k high e = let both : None ≡ Some f = sym (chain_fine n k high) ∙ e in cc both

  -- ---- runs and clusters

  in_bounds : (n : ℕ) → IsNumber w n → list_any (is_off_bounds w) (runs w n) ≡ true → ⊥
  in_bounds n k e =
      let is = number n k in
      let p = any_place (is_off_bounds w) (runs w n) e in
      let at : slice_get (told_of g bs n).runs p.place ≡ Some p.item = ap (λ rs. slice_get rs p.place) (sym (v_runs label g bs own c s n is)) ∙ p.there in
      let r = whole_at g (told_of g bs n).runs p.place p.item (tells n is).whole at in
      let i = r.inside in
      let t = total_same in
      clash (is_off_bounds w p.item) p.passes (whole_within w p.item r.begins r.ends (omega (arith, i, t)))

  not_large : (n : ℕ) → IsNumber w n → 11 < n → is_too_large w (fields w n) ≡ true → ⊥
  not_large n k high e = by_head (fields_in (told_of g bs n).head) refl (ap (is_too_large w) (sym (v_fields label g bs own c s n (number n k))) ∙ e) where
    is : IsFileNumber g n
    is = number n k

    by_head : (o : Option Hdr) → fields_in (told_of g bs n).head ≡ o → is_too_large w o ≡ true → ⊥
    by_head None at large = let x : false ≡ true = large in cc x
    by_head (Some h) at large =
        let size = size_told g own n (told_of g bs n) (body_blocks bs n (told_of g bs n)) (get_or c.files (n - 1) (Free 0)) low (tells n is) in
        let both : Some (get_or c.files (n - 1) (Free 0)) ≡ Some (Used (file_of g.cluster n h (body_blocks bs n (told_of g bs n)))) = sym (slot_there g bs own c s n is) ∙ file_told n h is at in
        let same : get_or c.files (n - 1) (Free 0) ≡ Used (file_of g.cluster n h (body_blocks bs n (told_of g bs n))) = cc both in
        let mine : h.blocks / g.cluster ≡ length (clusters_told g (told_of g bs n)) = ap clusters_in (sym same) ∙ size in
        let few : length (clusters_told g (told_of g bs n)) ≤ file_most = (tells n is).few high in
        let much : file_most < h.blocks / g.cluster = ltb-true file_most (h.blocks / g.cluster) large in
        omega (arith, mine, few, much)

  cluster_in : (q n i : ℕ) → IsInRun w q n i → IsFileNumber g n × Has (clusters_told g (told_of g bs n)) q
  cluster_in q n i r =
      let is = number n r.number in
      let at : slice_get (told_of g bs n).runs i ≡ Some r.run = ap (λ rs. slice_get rs i) (sym (v_runs label g bs own c s n is)) ∙ r.there in
      (is, of_run g (told_of g bs n).runs q i r.run low (tells n is).whole at r.inside)

  not_shared : (q : ℕ) → IsShared w q → ⊥
  not_shared q sh = by_number (same_or_not sh.n sh.m) where
    a : IsFileNumber g sh.n × Has (clusters_told g (told_of g bs sh.n)) q
    a = cluster_in q sh.n sh.i sh.one

    b : IsFileNumber g sh.m × Has (clusters_told g (told_of g bs sh.m)) q
    b = cluster_in q sh.m sh.j sh.other

    one_file : sh.n ≡ sh.m
    one_file =
        let both : Some (InFile sh.n) ≡ Some (InFile sh.m) = sym (((tells sh.n a.0).runs q).0 a.1) ∙ ((tells sh.m b.0).runs q).0 b.1 in
        cc both

    one_run : sh.n ≡ sh.m → sh.i ≡ sh.j
    one_run same =
        let at : slice_get (told_of g bs sh.n).runs sh.i ≡ Some sh.one.run = ap (λ rs. slice_get rs sh.i) (sym (v_runs label g bs own c s sh.n a.0)) ∙ sh.one.there in
        let also : slice_get (told_of g bs sh.n).runs sh.j ≡ Some sh.other.run =
        ap (λ k. slice_get (told_of g bs k).runs sh.j) same ∙ (ap (λ rs. slice_get rs sh.j) (sym (v_runs label g bs own c s sh.m b.0)) ∙ sh.other.there) in
        one_place g (told_of g bs sh.n).runs q sh.i sh.j sh.one.run sh.other.run low (tells sh.n a.0).whole (tells sh.n a.0).once at also sh.one.inside sh.other.inside

    by_apart : sh.n ≡ sh.m → (sh.n ≢ sh.m) ⊎ (sh.i ≢ sh.j) → ⊥
    by_apart same (inl n) = n same
    by_apart same (inr i) = i (one_run same)

    by_number : (sh.n ≡ sh.m) ⊎ (sh.n ≢ sh.m) → ⊥
    by_number (inl same) = by_apart same sh.apart
    by_number (inr other) = other one_file

  -- ---- directories

  dir_fine : (n : ℕ) → IsNumber w n → dir_fault w n ≡ None
  unfolding dir_fault
  dir_fine n k = by_kind (is_structure n) refl where
    is : IsFileNumber g n
    is = number n k

    same : (o : Option Hdr) (t : Told) (blocks : List Block) → dir_found g n o t blocks ≡ None → told_in w n ≡ t → runs w n ≡ t.runs → body w n ≡ blocks → dir_test w n o ≡ None
    same None t blocks f a r b = refl
    same (Some h) t blocks f a r b =
        ap (λ x. cond (not h.dir) None (cond (is_one_header h x && has_dir_size g.cluster h (runs w n)) (found_in n (directory (body w n))) (Some (finding.DirSize n)))) a
        ∙ (ap (λ x. cond (not h.dir) None (cond (is_one_header h t && has_dir_size g.cluster h x) (found_in n (directory (body w n))) (Some (finding.DirSize n)))) r
        ∙ (ap (λ y. cond (not h.dir) None (cond (is_one_header h t && has_dir_size g.cluster h t.runs) (found_in n (directory y)) (Some (finding.DirSize n)))) b ∙ f))

    blind : (o : Option Hdr) → is_structure n ≡ true → is_system_header n o ≡ true → dir_test w n o ≡ None
    blind None e h = refl
    blind (Some h) e sys =
        ap (λ d. cond (not d) None (cond (is_one_header h (told_in w n) && has_dir_size g.cluster h (runs w n)) (found_in n (directory (body w n))) (Some (finding.DirSize n)))) (no_dir n h (no_directory n e) sys)

    by_kind : (b : Bool) → is_structure n ≡ b → dir_test w n (fields w n) ≡ None
    by_kind true e = blind (fields w n) e (ap (is_system_header n) (v_fields label g bs own c s n is) ∙ system label g bs own c s n e)
    by_kind false e =
        same (fields w n) (told_of g bs n) (body_blocks bs n (told_of g bs n))
        (ap (λ o. dir_found g n o (told_of g bs n) (body_blocks bs n (told_of g bs n))) (v_fields label g bs own c s n is) ∙ (tells n is).dir) (v_told label g bs own c s n is)
        (v_runs label g bs own c s n is)
        (v_body label g bs own c s n is ∙ ap (λ b. blocks_at bs (cond b [] (lbns_in (told_of g bs n).runs))) (sym e))

  no_dir_fault : (n : ℕ) (f : Finding) → IsNumber w n → dir_fault w n ≡ Some f → ⊥
  no_dir_fault n f k e = let both : None ≡ Some f = sym (dir_fine n k) ∙ e in cc both

  -- ---- quota rows

  one_row : (u : ℕ) → has_two_rows (active_rows w) u ≡ true → ⊥
  one_row u e =
      let two : 2 ≤ count_by (λ (r : Row). r.uic == u) (active_rows w) = leb-true 2 (count_by (λ (r : Row). r.uic == u) (active_rows w)) e in
      let few : count_by (λ (r : Row). r.uic == u) (rows_told g bs) ≤ 1 = once_counted u (rows_told g bs) s.rows.once in
      let same : count_by (λ (r : Row). r.uic == u) (active_rows w) ≡ count_by (λ (r : Row). r.uic == u) (rows_told g bs) = ap (λ rs. count_by (λ (r : Row). r.uic == u) rs) (v_rows label g bs own c s) in
      omega (arith, two, few, same)

  has_row : HasOwners c → (n : ℕ) → IsNumber w n → is_rowless (active_rows w) (fields w n) ≡ true → ⊥
  has_row owners n k e = by_head (fields_in (told_of g bs n).head) refl (ap (λ rs. is_rowless rs (fields w n)) (sym (v_rows label g bs own c s)) ∙ e) where
    is : IsFileNumber g n
    is = number n k

    by_head : (o : Option Hdr) → fields_in (told_of g bs n).head ≡ o → is_rowless (rows_told g bs) (fields w n) ≡ true → ⊥
    by_head None at none = let x : false ≡ true = ap (is_rowless (rows_told g bs)) (sym at ∙ sym (v_fields label g bs own c s n is)) ∙ none in cc x
    by_head (Some h) at none =
        let f : File = file_of g.cluster n h (body_blocks bs n (told_of g bs n)) in
        let row : is_some (row_of f.owner c.quota) ≡ true = owners n f (file_there n h is at) in
        let any = rows_any f.owner (rows_told g bs) (ap (λ rs. is_some (row_of f.owner rs)) (sym s.rows.quota) ∙ row) in
        let lacks : not (list_any (λ (r : Row). r.uic == h.owner) (rows_told g bs)) ≡ true = ap (is_rowless (rows_told g bs)) (sym at ∙ sym (v_fields label g bs own c s n is)) ∙ none in
        let both : false ≡ true = ap not (sym any) ∙ lacks in
        cc both

  -- ---- bits

  no_free_cluster : (q : ℕ) → q < total w → is_free_cluster w q ≡ true → is_in_files w q ≡ true → ⊥
  no_free_cluster q lt free inside =
      let total = v_total label g bs own c s in
      let r = each_is_owned.clusters g bs own c q s (omega (arith, lt, total)) in
      let free_is : r.0 ≡ owner.Free = same_free r.0 (sym r.2.bit ∙ (sym (v_cluster_bit label g bs own c s q) ∙ free)) in
      let f = in_files label g bs own c s q inside in
      let file_is : r.0 ≡ InFile f.0 = (r.2.files f.0 f.1).0 f.2 in
      let both : owner.Free ≡ InFile f.0 = sym free_is ∙ file_is in
      cc both

  no_free_number : (n : ℕ) → IsNumber w n → is_used_number w n ≡ false → is_some (used_slot w n) ≡ true → ⊥
  no_free_number n k unused used =
      let is = number n k in
      let free : slice_get own.numbers (n - 1) ≡ Some owner.Free = (s.owners.number_bits n is).0 (sym (v_number_bit label g bs own c s n) ∙ unused) in
      let none : used_slot w n ≡ None = ap fields_in (v_head label g bs own c s n is) ∙ s.slots.blank n is free in
      let both : false ≡ true = sym (ap is_some none) ∙ used in
      cc both

  -- ---- all

  on_cat : (P : Cat → Type 0) → P (catalogue w) → P (shut c)
  on_cat P p = subst P (sym (catalogue_is label g bs own c s outs)) p

  -- a fatal finding is one on which the spelling of a catalogue does not rest, also where owners lack rows
  beside : (f : Finding) → IsFatalIn w f → IsBeside f
  beside (finding.Home fault) e = e
  beside (finding.Header n fault) e = no_header n fault e.0 e.1
  beside (finding.WrongNumber n) e = e.1.2 (right_number n e.1.0 e.0 e.1.1)
  beside (finding.SystemFile n) e = clash (is_system_file w n) (system_file n e.0 e.1) e.2
  beside (finding.Scb fault) e = let both : None ≡ Some fault = sym control ∙ e in cc both
  beside (finding.ChainBroken n) e = no_chain_fault n (finding.ChainBroken n) e.0 e.1 e.2
  beside (finding.ChainSplit n) e = no_chain_fault n (finding.ChainSplit n) e.0 e.1 e.2
  beside (finding.Runs n) e = in_bounds n e.0 e.1
  beside (finding.Clusters n) e = not_large n e.0 e.1 e.2
  beside (finding.SharedCluster q) e = not_shared q e
  beside (finding.DirSize n) e = no_dir_fault n (finding.DirSize n) e.0 e.1
  beside (finding.DirRecord n) e = no_dir_fault n (finding.DirRecord n) e.0 e.1
  beside (finding.DirOrder n) e = no_dir_fault n (finding.DirOrder n) e.0 e.1
  beside (finding.DirClash n) e = no_dir_fault n (finding.DirClash n) e.0 e.1
  beside (finding.QuotaRow o) e = one_row o.0 e
  beside (finding.NoQuotaRow n) e = tt
  beside (finding.FreeCluster q) e = no_free_cluster q e.0 e.1 e.2
  beside (finding.FreeNumber n) e = no_free_number n e.0 e.1 e.2
  beside (finding.SystemEntry n) e = tt
  beside (finding.MarkedDir n) e = tt
  beside (finding.DirLoop n) e = tt
  beside (finding.NoRoom n) e = tt
  beside f e = e

  -- it is one of the catalogue, where each owner has a row
  found : HasOwners c → (f : Finding) → IsFatalIn w f → IsFatalOf (shut c) f
  found owners (finding.Home fault) e = beside (finding.Home fault) e
  found owners (finding.Header n fault) e = beside (finding.Header n fault) e
  found owners (finding.WrongNumber n) e = beside (finding.WrongNumber n) e
  found owners (finding.SystemFile n) e = beside (finding.SystemFile n) e
  found owners (finding.Scb fault) e = beside (finding.Scb fault) e
  found owners (finding.ChainBroken n) e = beside (finding.ChainBroken n) e
  found owners (finding.ChainSplit n) e = beside (finding.ChainSplit n) e
  found owners (finding.Runs n) e = beside (finding.Runs n) e
  found owners (finding.Clusters n) e = beside (finding.Clusters n) e
  found owners (finding.SharedCluster q) e = beside (finding.SharedCluster q) e
  found owners (finding.DirSize n) e = beside (finding.DirSize n) e
  found owners (finding.DirRecord n) e = beside (finding.DirRecord n) e
  found owners (finding.DirOrder n) e = beside (finding.DirOrder n) e
  found owners (finding.DirClash n) e = beside (finding.DirClash n) e
  found owners (finding.QuotaRow o) e = beside (finding.QuotaRow o) e
  found owners (finding.NoQuotaRow n) e = has_row owners n e.0 e.1
  found owners (finding.FreeCluster q) e = beside (finding.FreeCluster q) e
  found owners (finding.FreeNumber n) e = beside (finding.FreeNumber n) e
  found owners (finding.SystemEntry n) e = on_cat (λ x. IsFatalOf x (finding.SystemEntry n)) e
  found owners (finding.MarkedDir n) e = on_cat (λ x. IsFatalOf x (finding.MarkedDir n)) e.1
  found owners (finding.DirLoop n) e = on_cat (λ x. IsFatalOf x (finding.DirLoop n)) e
  found owners (finding.NoRoom n) e = on_cat (λ x. IsFatalOf x (finding.NoRoom n)) e
  found owners f e = e

-- ---- the home block

-- what holds of the volume of a home block that says the cluster factor and the file numbers
on_home : (g : Geometry) (home : Home) (P : Home → Type 0) → IsHomeOf g (Ok home) → P (record { cluster = g.cluster; files = g.files; label = home.label }) → P home
on_home g home P h p =
    let same : record { cluster = g.cluster; files = g.files; label = home.label } ≡ home =
    ap (λ (k : ℕ). record { cluster = k; files = g.files; label = home.label }) (sym h.0) ∙ ap (λ (k : ℕ). record { cluster = home.cluster; files = k; label = home.label }) (sym h.1) in
    subst P same p

-- the blocks tell the catalogue with nothing open
pub tells_shut : (g : Geometry) (bs : List Block) (own : Owners) (c : Cat) → Spells g bs own c → NoOuts own → IsCatalogueBy bs (home_read (home_at bs)) (shut c)
tells_shut g bs own c s outs = by_home (home_read (home_at bs)) s.structures.home where
  by_home : (r : Result Home HomeFault) → IsHomeOf g r → IsCatalogueBy bs r (shut c)
  by_home (Err fault) h = absurd h
  by_home (Ok home) h = on_home g home (λ x. shut c ≡ catalogue (volume x bs)) h (catalogue_is home.label g bs own c s outs)

-- where the system files are there, and each owner of a file has a quota row, the fatal findings are those of the catalogue
pub spelt_findings : (g : Geometry) (bs : List Block) (own : Owners) (c : Cat) (f : Finding) → Spells g bs own c → NoOuts own → HasSystems c → HasOwners c → IsFatal bs f → IsFatalOf (shut c) f
spelt_findings g bs own c f s outs systems owners e = by_home (home_read (home_at bs)) s.structures.home e where
  by_home : (r : Result Home HomeFault) → IsHomeOf g r → IsFatalBy bs r f → IsFatalOf (shut c) f
  by_home (Err fault) h k = absurd h
  by_home (Ok home) h k = on_home g home (λ x. IsFatalIn (volume x bs) f → IsFatalOf (shut c) f) h (found home.label g bs own c s outs systems owners f) k

-- also where owners lack rows, the spelling does not rest on any of them
pub spelt_beside : (g : Geometry) (home : Home) (bs : List Block) (own : Owners) (c : Cat) (f : Finding) → Spells g bs own c → NoOuts own → HasSystems c → home_read (home_at bs) ≡ Ok home → IsFatalIn (volume home bs) f → IsBeside f
spelt_beside g home bs own c f s outs systems read =
    on_home g home (λ x. IsFatalIn (volume x bs) f → IsBeside f) (subst (λ (r : Result Home HomeFault). IsHomeOf g r) read s.structures.home) (beside home.label g bs own c s outs systems f)

-- and so is the one that there is no room for a lost file
pub room_lacks : (g : Geometry) (bs : List Block) (own : Owners) (c : Cat) (n : ℕ) → Spells g bs own c → NoOuts own → HasNoRoom (shut c) n → IsFatal bs (finding.NoRoom n)
room_lacks g bs own c n s outs lacks = by_home (home_read (home_at bs)) (tells_shut g bs own c s outs) where
  by_home : (r : Result Home HomeFault) → IsCatalogueBy bs r (shut c) → IsFatalBy bs r (finding.NoRoom n)
  by_home (Err fault) t = absurd t
  by_home (Ok home) t = subst (λ (x : Cat). HasNoRoom x n) t lacks

pub spelt_is_weak : SpeltIsWeak
spelt_is_weak g bs own c s outs may = record {
  weak = λ f e. may.sound f (spelt_findings g bs own c f s outs may.systems may.owners e);
  told = tells_shut g bs own c s outs;
}
