-- Where a repair begins, no finding on which the spelling of a catalogue rests holds, and the catalogue is the one that it begins with.
use Rattle.std.proofs.Common.{◌≡◌, ◌∙◌, ◌<◌, ◌≤◌, ◌+◌, ◌*◌, ◌/◌, ℕ, suc, Bool, true, false, not, List, [], ◌∷◌, Option, Some, None, length, map, take, refl, sym, ap, subst, inl, inr, arith, cond}
use Rattle.std.specs.Prelude.{◌==◌, ◌&&◌, ◌||◌, nat_le, is_some, Result, Ok, Err, replicate}
use Rattle.std.specs.List.{range_with_len, list_any, count_by, sum_by}
use Rattle.std.proofs.lemmas.Bool.{or_left, or_right, or_from, eqb-true, eq-eqb, le-leb, lt-leb, cases_lt}
use Rattle.std.proofs.lemmas.List.Sums.{sum_by-cons}
use Rattle.base_words.specs.Fields.{Block}
use Rattle.base_words.specs.Lists.{Has}
use Rattle.base_words.proofs.Listing.{has_any, any_has}
use Rattle.fx_home.specs.declared.home.Home.{Home}
use Rattle.fx_home.specs.declared.scb.Scb.{Scb}
use Rattle.fx_home.specs.declared.scb.ScbFault.{ScbFault}
use Rattle.fx_home.specs.declared.scb.ScbFault.TheVariants as scb
use Rattle.fx_home.specs.Homes.{IsWithinLimits, scb_read}
use Rattle.fx_header.specs.declared.run.Run.{Run}
use Rattle.fx_header.specs.declared.slot.Hdr.{Hdr}
use Rattle.fx_header.specs.Pointers.{lbns_in}
use Rattle.plain_rules.specs.Lookups.{clusters_in}
use Rattle.plain_rules.specs.SystemFiles.{is_system_directory}
use Rattle.vol_parts.specs.declared.finding.Finding.{Finding}
use Rattle.vol_parts.specs.declared.finding.Finding.TheVariants as finding
use Rattle.vol_parts.specs.Parts.{storage_blocks}
use Rattle.vol_parts.specs.Volumes.{Volume, volume, IsNumber, total, numbers, block_at, used_slot, fields, Told, told, is_slot_of, is_in_slots, runs, body, is_in_run, is_in_file, is_in_files, first_lbn, bitmap_lbn, is_free_cluster, is_used_number}
use Rattle.vol_parts.specs.Catalogues.{is_outside_cluster, is_outside_number, catalogue}
use Rattle.vol_parts.specs.Fatal.{in_whole_clusters, is_system_header, has_one_header, stated_clusters, are_stated, is_system_file, scb_test, scb_fault, chain_fault, is_off_bounds, is_too_large, dir_fault, IsFatalIn}
use Rattle.vol_parts.proofs.Alone.{none_told}
use Rattle.vol_parts.proofs.FewClusters.{sound-few}
use Rattle.vol_faults.specs.Conditions.{has_run_off}
use Rattle.vol_sound.specs.Sound.{is_sound, is_kept}
use Rattle.vol_sound.specs.Freeing.{HasSystem, IsSameTold}
use Rattle.vol_sound.specs.Begun.{is_kept_file, most_rows, is_in_kept_file, is_in_kept, is_leaked, is_leaked_number, begun}
use Rattle.vol_spell.specs.Accepting.{IsBeside}
use Rattle.vol_sound.specs.Kept.{IsBegun, IsKeptRight}
use Rattle.vol_sound.proofs.Cuts.{in_range, number_in, number_of, system_header, system_slots, sound_kept, low_kept, kept_parts}
use Rattle.vol_sound.proofs.Freed.{in_file_same}
use Rattle.vol_sound.proofs.Settled.{used_kept, no_bad_header, own_numbers, no_bad_chain, no_bad_runs, none_shared, kinds}
use Rattle.vol_sound.proofs.KeptSlots.{low_same, sound_same, files_are, dirs_are}

-- ---- lists and tests

any_alike : (f g : ℕ → Bool) (xs : List ℕ) → ((x : ℕ) → Has xs x → f x ≡ g x) → list_any f xs ≡ list_any g xs
any_alike f g [] same = refl
any_alike f g (x ∷ xs) same = let a = same x (inl refl) in let b = any_alike f g xs (λ y t. same y (inr t)) in λ i. a i || b i

map_alike : (f g : ℕ → Bool) (xs : List ℕ) → ((x : ℕ) → Has xs x → f x ≡ g x) → map f xs ≡ map g xs
map_alike f g [] same = refl
map_alike f g (x ∷ xs) same = let a = same x (inl refl) in let b = map_alike f g xs (λ y t. same y (inr t)) in λ i. a i ∷ b i

count_alike : (f g : ℕ → Bool) (xs : List ℕ) → ((x : ℕ) → Has xs x → f x ≡ g x) → count_by f xs ≡ count_by g xs
count_alike f g [] same = refl
count_alike f g (x ∷ xs) same =
    sum_by-cons (λ y. cond (f y) 1 0) x xs
    ∙ ap (λ t. cond t 1 0 + count_by f xs) (same x (inl refl))
    ∙ ap (λ k. cond (g x) 1 0 + k) (count_alike f g xs (λ y t. same y (inr t)))
    ∙ sym (sum_by-cons (λ y. cond (g y) 1 0) x xs)

map_length : (f g : ℕ → Block) (xs : List ℕ) → length (map f xs) ≡ length (map g xs)
map_length f g [] = refl
map_length f g (x ∷ xs) = ap suc (map_length f g xs)

alike : (a b : Bool) → (a ≡ true → b ≡ true) → (b ≡ true → a ≡ true) → a ≡ b
alike true b f g = sym (f refl)
alike false true f g = g refl
alike false false f g = refl

cleared : (a k : Bool) → (not (a && not k) && not k) ≡ (not a && not k)
cleared true true = refl
cleared true false = refl
cleared false true = refl
cleared false false = refl

set_bit : (a k : Bool) → ((a || k) && not k) ≡ (a && not k)
set_bit true true = refl
set_bit true false = refl
set_bit false true = refl
set_bit false false = refl

module _ (home : Home) (old new : List Block) (within : IsWithinLimits home) (system : HasSystem (volume home old)) (b : IsBegun home old new) where
  abbrev v : Volume
  v = volume home old

  abbrev p : Volume
  p = volume home new

  count : length new ≡ length old
  count = b.freed.freed.count

  -- ---- clusters

  in_file_alike : (q n : ℕ) → IsNumber v n → is_in_file p q n ≡ is_in_kept_file v q n
  unfolding is_in_kept_file is_kept_file runs
  in_file_alike q n is = elim (kinds home old new within system b.freed n is) [
    | inl low ↦ in_file_same home old new q n (low_same home old new within system b n is.from low).told ∙ sym (ap (λ t. t && is_in_file v q n) (or_left (nat_le n 11) (is_sound v n) (le-leb n 11 low)))
    | inr more ↦ elim more [
      | inl s ↦ in_file_same home old new q n (sound_same home old new within system b n is s.1).told ∙ sym (ap (λ t. t && is_in_file v q n) (or_right (nat_le n 11) (is_sound v n) s.1))
      | inr none ↦ ap (λ (t : Told). list_any (is_in_run home.cluster q) t.runs) (none_told p n none.1) ∙ sym (ap (λ t. t && is_in_file v q n) (or_from (nat_le n 11) (is_sound v n) (lt-leb n 11 none.0) none.2))
    ]
  ]

  files_have : (q : ℕ) → is_in_files p q ≡ is_in_kept v q
  unfolding is_in_files is_in_kept
  files_have q = any_alike (is_in_file p q) (is_in_kept_file v q) (numbers v) (λ n t. in_file_alike q n (number_of v n t))

  leaked_alike : (q : ℕ) → q < total v → is_outside_cluster p q ≡ is_leaked v q
  unfolding is_outside_cluster is_leaked
  leaked_alike q lt =
      ap (λ t. not t && not (is_in_files p q)) (b.clusters q lt) ∙ ap (λ t. not (is_free_cluster v q && not (is_in_kept v q)) && not t) (files_have q)
      ∙ cleared (is_free_cluster v q) (is_in_kept v q)

  leaked_count : count_by (is_outside_cluster p) (range_with_len 0 (total p)) ≡ count_by (is_leaked v) (range_with_len 0 (total v))
  leaked_count =
      ap (λ k. count_by (is_outside_cluster p) (range_with_len 0 (k / home.cluster))) count
      ∙ count_alike (is_outside_cluster p) (is_leaked v) (range_with_len 0 (total v)) (λ q t. leaked_alike q (let lt = (in_range 0 (total v) q t).1 in let l : q < total v = omega arith in l))

  -- ---- numbers

  slot_kept : (m n : ℕ) → IsNumber v n → Has (told p n).slots m → is_kept v m ≡ true
  slot_kept m n is t = elim (kinds home old new within system b.freed n is) [
    | inl low ↦ by_system low (low_same home old new within system b n is.from low)
    | inr more ↦ elim more [
      | inl s ↦ sound_kept v n m is s.1 (subst (λ (x : Told). Has x.slots m) (sound_same home old new within system b n is s.1).told t)
      | inr none ↦ absurd (subst (λ (x : Told). Has x.slots m) (none_told p n none.1) t)
    ]
  ] where
    by_system : n ≤ 11 → IsSameTold v p n → is_kept v m ≡ true
    by_system low same = elim (subst (λ (ns : List ℕ). Has ns m) (ap (λ (x : Told). x.slots) same.told ∙ system_slots v n (system_header v n (system.files.sound n is.from low))) t) [
      | inl e ↦ low_kept v m (omega arith)
      | inr none ↦ absurd none
    ]

  slot_by : (m n : ℕ) → Has (told p n).slots m → is_slot_of p m n ≡ true
  slot_by m n t = has_any (λ k. k == m) (told p n).slots m t (eq-eqb m m refl)

  slot_has : (m n : ℕ) → is_slot_of p m n ≡ true → Has (told p n).slots m
  slot_has m n e = let h = any_has (λ k. k == m) (told p n).slots e in subst (λ (k : ℕ). Has (told p n).slots k) (eqb-true h.0 m h.2) h.1

  kept_slot : (m : ℕ) → IsNumber v m → is_kept v m ≡ true → (n : ℕ) × IsNumber v n × Has (told p n).slots m
  kept_slot m is kept = elim (cases_lt 11 m) [
    | inl above ↦ (let k = kept_parts v m kept above in (k.file, k.number, subst (λ (x : Told). Has x.slots m) (sym (sound_same home old new within system b k.file k.number k.sound).told) k.slot))
    | inr low ↦ (m, is, subst (λ (ns : List ℕ). Has ns m) (sym (ap (λ (x : Told). x.slots) (low_same home old new within system b m is.from low).told ∙ system_slots v m (system_header v m (system.files.sound m is.from low)))) (inl refl))
  ]

  slots_have : (m : ℕ) → IsNumber v m → is_in_slots p m ≡ is_kept v m
  unfolding is_in_slots
  slots_have m is = alike (list_any (is_slot_of p m) (numbers v)) (is_kept v m)
      (λ e. let h = any_has (is_slot_of p m) (numbers v) e in slot_kept m h.0 (number_of v h.0 h.1) (slot_has m h.0 h.2))
      (λ e. let h = kept_slot m is e in has_any (is_slot_of p m) (numbers v) h.0 (number_in v h.0 h.1) (slot_by m h.0 h.2))

  leaked_number_alike : (n : ℕ) → IsNumber v n → is_outside_number p n ≡ is_leaked_number v n
  unfolding is_outside_number is_leaked_number
  leaked_number_alike n is =
      ap (λ t. t && not (is_in_slots p n)) (b.numbers n is) ∙ ap (λ t. (is_used_number v n || is_kept v n) && not t) (slots_have n is)
      ∙ set_bit (is_used_number v n) (is_kept v n)

  -- ---- the catalogue

  rows_alike : 16 * length (body p 10) ≡ most_rows v
  unfolding body runs
  rows_alike =
      ap (λ (t : Told). 16 * length (map (block_at p) (lbns_in t.runs))) (low_same home old new within system b 10 (omega arith) (omega arith)).told
      ∙ ap (λ k. 16 * k) (map_length (block_at p) (block_at v) (lbns_in (told v 10).runs))

  catalogue_is : catalogue p ≡ begun v
  unfolding catalogue begun
  catalogue_is =
      let files = files_are home old new within system b in
      let whole : total p ≡ total v = ap (λ k. k / home.cluster) count in
      let rows = rows_alike in
      let sorted = b.rows in
      let leaked = leaked_count in
      let flags : map (is_outside_number p) (numbers v) ≡ map (is_leaked_number v) (numbers v) = map_alike (is_outside_number p) (is_leaked_number v) (numbers v) (λ n t. leaked_number_alike n (number_of v n t)) in
      λ i. record {
        factor = home.cluster;
        total = whole i;
        reserved = sum_by clusters_in (take 11 (files i));
        rows = rows i;
        files = files i;
        quota = sorted i;
        opens = replicate 64 None;
        leaked = leaked i;
        leaked_numbers = flags i;
      }

  -- ---- the findings

  stated_alike : (n : ℕ) (o : Option ℕ) (rs : List Run) → are_stated p n o rs ≡ are_stated v n o rs
  stated_alike n None rs = refl
  stated_alike n (Some k) [] = refl
  stated_alike n (Some k) (r ∷ []) = ap (λ x. (r.count == home.cluster * k) && (nat_le (r.lbn + r.count) (home.cluster * (x / home.cluster)) && (not (n == 1) || (r.lbn == 0)))) count
  stated_alike n (Some k) (r ∷ q ∷ rs) = refl

  stated_same : (n : ℕ) → stated_clusters p n ≡ stated_clusters v n
  unfolding stated_clusters
  stated_same n = ap (λ x. cond (n == 1) (Some (in_whole_clusters home.cluster (4 * home.cluster + 1 + home.files))) (cond (n == 2) (Some (in_whole_clusters home.cluster (1 + storage_blocks (x / home.cluster)))) (cond (is_system_directory n || (n == 10)) (Some 1) None))) count

  system_stands : (n : ℕ) → 1 ≤ n → n ≤ 11 → is_system_file p n ≡ true
  unfolding is_system_file runs
  system_stands n from to =
      let same = low_same home old new within system b n from to in
      ap (λ o. is_system_header n o && (has_one_header o (told p n) && are_stated p n (stated_clusters p n) (told p n).runs)) same.fields
      ∙ ap (λ (t : Told). is_system_header n (fields v n) && (has_one_header (fields v n) t && are_stated p n (stated_clusters p n) t.runs)) same.told
      ∙ ap (λ o. is_system_header n (fields v n) && (has_one_header (fields v n) (told v n) && are_stated p n o (told v n).runs)) (stated_same n)
      ∙ ap (λ t. is_system_header n (fields v n) && (has_one_header (fields v n) (told v n) && t)) (stated_alike n (stated_clusters v n) (told v n).runs)
      ∙ system.files.sound n from to

  bitmap_same : bitmap_lbn p ≡ bitmap_lbn v
  unfolding runs
  bitmap_same = ap (λ (t : Told). first_lbn t.runs) (low_same home old new within system b 2 (omega arith) (omega arith)).told

  control_stands : scb_fault p ≡ None
  unfolding scb_fault
  control_stands =
      ap (λ l. scb_test p (scb_read (block_at p l))) bitmap_same ∙ ap (λ x. scb_test p (scb_read x)) b.control ∙ tested (scb_read (block_at v (bitmap_lbn v))) ∙ system.control
    where
      tested : (r : Result Scb ScbFault) → scb_test p r ≡ scb_test v r
      tested (Err fault) = refl
      tested (Ok s) = ap (λ k. cond (not (s.cluster == home.cluster)) (Some scb.BadCluster) (cond (not (s.blocks == k)) (Some scb.BadSize) None)) count

  was : (n : ℕ) → IsNumber p n → IsNumber v n
  was n is = record { from = is.from; to = is.to }

  no_off : (n : ℕ) → IsNumber p n → list_any (is_off_bounds p) (runs p n) ≡ true → ⊥
  unfolding has_run_off
  no_off n is e = let z : false ≡ true = sym (no_bad_runs home old new within system b.freed n (was n is)) ∙ e in cc

  no_dir : (n : ℕ) (f : Finding) → IsNumber p n → dir_fault p n ≡ Some f → ⊥
  no_dir n f is e = let z : None ≡ Some f = sym (dirs_are home old new within system b n (was n is)) ∙ e in cc

  no_chain : (n : ℕ) (f : Finding) → IsNumber p n → 11 < n → chain_fault p n ≡ Some f → ⊥
  no_chain n f is above e = let z : None ≡ Some f = sym (no_bad_chain home old new within system b.freed n (was n is) above) ∙ e in cc

  no_large : (n : ℕ) → IsNumber p n → 11 < n → is_too_large p (fields p n) ≡ true → ⊥
  no_large n is above e = let z : false ≡ true = sym (sound-few p n (no_bad_chain home old new within system b.freed n (was n is) above)) ∙ e in cc

  no_free_cluster : (q : ℕ) → q < total p → is_free_cluster p q ≡ true → is_in_files p q ≡ true → ⊥
  no_free_cluster q lt free has =
      let less : q < total v = subst (λ (k : ℕ). q < k / home.cluster) count lt in
      let kept : is_in_kept v q ≡ true = sym (files_have q) ∙ has in
      by_bit (is_free_cluster v q) (is_in_kept v q) kept (sym (b.clusters q less) ∙ free)
    where
      by_bit : (a k : Bool) → k ≡ true → (a && not k) ≡ true → ⊥
      by_bit true true e f = let z : false ≡ true = f in cc
      by_bit false true e f = let z : false ≡ true = f in cc
      by_bit a false e f = let z : false ≡ true = e in cc

  no_free_number : (n : ℕ) → IsNumber p n → is_used_number p n ≡ false → is_some (used_slot p n) ≡ true → ⊥
  no_free_number n is clear used = by_slot (used_slot p n) refl used where
    by_slot : (o : Option Hdr) → used_slot p n ≡ o → is_some o ≡ true → ⊥
    by_slot None u e = let z : false ≡ true = e in cc
    by_slot (Some f) u e =
        let kept = used_kept home old new within system b.freed n f (was n is) u in
        let z : true ≡ false = sym (or_right (is_used_number v n) (is_kept v n) kept) ∙ sym (b.numbers n (was n is)) ∙ clear in
        cc

  findings_are : (f : Finding) → IsFatalIn p f → IsBeside f
  findings_are (finding.Header n fault) h = absurd (no_bad_header home old new within system b.freed n fault (was n h.0) h.1)
  findings_are (finding.WrongNumber n) h = absurd (h.1.2 (own_numbers home old new within system b.freed n h.1.0 (was n h.0) h.1.1))
  findings_are (finding.SystemFile n) h = absurd (let z : true ≡ false = sym (system_stands n h.0 h.1) ∙ h.2 in cc)
  findings_are (finding.Scb fault) h = absurd (let z : None ≡ Some fault = sym control_stands ∙ h in cc)
  findings_are (finding.ChainBroken n) h = absurd (no_chain n (finding.ChainBroken n) h.0 h.1 h.2)
  findings_are (finding.ChainSplit n) h = absurd (no_chain n (finding.ChainSplit n) h.0 h.1 h.2)
  findings_are (finding.Runs n) h = absurd (no_off n h.0 h.1)
  findings_are (finding.Clusters n) h = absurd (no_large n h.0 h.1 h.2)
  findings_are (finding.SharedCluster q) h = absurd (none_shared home old new within system b.freed q h)
  findings_are (finding.DirSize n) h = absurd (no_dir n (finding.DirSize n) h.0 h.1)
  findings_are (finding.DirRecord n) h = absurd (no_dir n (finding.DirRecord n) h.0 h.1)
  findings_are (finding.DirOrder n) h = absurd (no_dir n (finding.DirOrder n) h.0 h.1)
  findings_are (finding.DirClash n) h = absurd (no_dir n (finding.DirClash n) h.0 h.1)
  findings_are (finding.QuotaRow owner) h = absurd (let z : false ≡ true = sym (b.once owner.0) ∙ h in cc)
  findings_are (finding.FreeCluster q) h = absurd (no_free_cluster q h.0 h.1 h.2)
  findings_are (finding.FreeNumber n) h = absurd (no_free_number n h.0 h.1 h.2)
  findings_are (finding.NoQuotaRow n) h = tt
  findings_are (finding.SystemEntry n) h = tt
  findings_are (finding.MarkedDir n) h = tt
  findings_are (finding.DirLoop n) h = tt
  findings_are (finding.NoRoom n) h = tt
  findings_are f h = h

  pub kept_is_right : IsKeptRight v p
  kept_is_right = record { findings = findings_are; catalogue = catalogue_is }
