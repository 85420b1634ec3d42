-- A fresh volume has none of the fatal findings that its headers, runs, bitmaps, directories and quota rows tell.
use Rattle.std.proofs.Common.{◌≡◌, ◌≢◌, ◌∙◌, ◌+◌, ◌-◌, ◌*◌, ◌%◌, ◌<◌, ◌≤◌, ℕ, Bool, true, false, cond, [], Some, None, Result, Ok, Err, length, refl, sym, ap, arith, ⊎_elim}
use Rattle.std.specs.Prelude.{◌||◌, ◌==◌, not, nat_le, is_some, slice_get}
use Rattle.std.specs.List.{list_any}
use Rattle.std.proofs.lemmas.Bool.{cases_lt, cases_eq, le-leb, lt-leb, leb-false, eq-eqb, ne_eqb, both_ways}
use Rattle.std.proofs.Math.Nat.{mul-le-mul_left, add-mul-mod_self_left}
use Rattle.fx_header.specs.declared.slot.Hdr.{Hdr}
use Rattle.fx_header.specs.declared.slot.Slot.{Slot as Head}
use Rattle.fx_header.specs.declared.slot.Slot.TheVariants as head
use Rattle.fx_header.specs.declared.slot.HeaderFault.{HeaderFault}
use Rattle.vol_parts.specs.Volumes.{Volume, IsNumber, factor, total, head as head_of, fields_in, used_slot, fields, told, runs, is_in_run, is_in_files, is_free_cluster, is_used_number, active_rows}
use Rattle.vol_parts.specs.Fatal.{is_system_header, has_one_header, in_whole_clusters, stated_clusters, are_stated, is_system_file, scb_fault, chain_fault, is_off_bounds, is_too_large, IsInRun, IsShared, dir_fault, has_two_rows, is_rowless}
use Rattle.vol_init.specs.declared.layout.Layout.{Layout}
use Rattle.vol_init.specs.Layouts.{IsLayout, index_clusters, bitmap_clusters, clusters_of, first_cluster, reserved_clusters, header_of, quota_rows}
use Rattle.vol_init.specs.Fresh.{layout_of, IsFresh}
use Rattle.vol_init.proofs.Ranges.{by_number}
use Rattle.vol_init.proofs.Clusters.{owner, is_owner, run_at, one_run, no_run, only_run, in_run_of}
use Rattle.vol_init.proofs.Files.{used_fields, free_fields, free_runs, one_header, reserved_in_files}

-- ---- headers

pub no_bad_header : (v : Volume) (n : ℕ) (fault : HeaderFault) → IsFresh v → IsNumber v n → head_of v n ≡ Err fault → ⊥
no_bad_header v n fault is number e =
    ⊎_elim (λ (h : 11 < n). let here = is.free n h number.to in let none : ◌≡◌ {A = Result Head HeaderFault} (Ok (head.Free 0)) (Err fault) = sym here ∙ e in cc)
    (λ (h : n ≤ 11). let here = is.used n number.from h in let none : ◌≡◌ {A = Result Head HeaderFault} (Ok (head.Used (header_of (layout_of v) n))) (Err fault) = sym here ∙ e in cc)
    (cases_lt 11 n)

number_of : (l : Layout) (n : ℕ) → (header_of l n).num ≡ n
unfolding header_of
number_of l n = refl

pub no_wrong_number : (v : Volume) (n : ℕ) (f : Hdr) → IsFresh v → IsNumber v n → used_slot v n ≡ Some f → f.num ≢ n → ⊥
no_wrong_number v n f is number e wrong =
    ⊎_elim (λ (h : 11 < n). let none : None ≡ Some f = sym (ap fields_in (is.free n h number.to)) ∙ e in cc)
    (λ (h : n ≤ 11).
    let one : Some (header_of (layout_of v) n) ≡ Some f = sym (ap fields_in (is.used n number.from h)) ∙ e in
    let same : header_of (layout_of v) n ≡ f = cc in
    wrong (ap (λ (x : Hdr). x.num) (sym same) ∙ number_of (layout_of v) n))
    (cases_lt 11 n)

pub none_too_large : (v : Volume) (n : ℕ) → IsFresh v → IsNumber v n → 11 < n → is_too_large v (fields v n) ≡ false
none_too_large v n is number high = rw (free_fields v n is high number.to) refl

-- ---- system files

system_header : (l : Layout) (n : ℕ) → 1 ≤ n → n ≤ 11 → is_system_header n (Some (header_of l n)) ≡ true
unfolding header_of
system_header l n low high = by_number (λ k. is_system_header k (Some (header_of l k)) ≡ true) refl refl refl refl refl refl refl refl refl refl refl n low high

-- a file with clusters ends inside the whole clusters
ends_inside : (v : Volume) (n : ℕ) → IsFresh v → 1 ≤ n → n ≤ 11 → 1 ≤ clusters_of (layout_of v) n
    → factor v * first_cluster (layout_of v) n + factor v * clusters_of (layout_of v) n ≤ factor v * total v
ends_inside v n is low high some =
    let l = layout_of v in
    let last : ℕ = first_cluster l n + (clusters_of l n - 1) in
    let below = (is_owner l n last low high (omega arith) (omega arith)).1 in
    let room = is.room in
    let end : first_cluster l n + clusters_of l n ≤ total v = omega arith in
    let whole : factor v * (first_cluster l n + clusters_of l n) ≤ factor v * total v = mul-le-mul_left (factor v) end in
    omega arith

some_clusters : (f b : ℕ) → 1 ≤ f → 1 ≤ b → 1 ≤ in_whole_clusters f b
some_clusters f b low some =
    let room : b ≤ f * in_whole_clusters f b = omega arith in
    ⊎_elim (λ (h : 0 < in_whole_clusters f b). h)
    (λ (h : in_whole_clusters f b ≤ 0). let none : in_whole_clusters f b ≡ 0 = omega arith in let past : b ≤ f * 0 = rw none at room in absurd (omega arith))
    (cases_lt 0 (in_whole_clusters f b))

stated_run : (v : Volume) (n k : ℕ) → IsFresh v → 1 ≤ n → n ≤ 11 → stated_clusters v n ≡ Some k → clusters_of (layout_of v) n ≡ k → 1 ≤ k
    → (not (n == 1) || (factor v * first_cluster (layout_of v) n == 0)) ≡ true → are_stated v n (stated_clusters v n) (runs v n) ≡ true
stated_run v n k is low high stated size some begins =
    let l = layout_of v in
    let more : 1 ≤ clusters_of l n = omega arith in
    let count : factor v * clusters_of l n ≡ factor v * k = ap (λ x. factor v * x) size in
    rw (stated, is.lie n low high, one_run l n more, eq-eqb (factor v * clusters_of l n) (factor v * k) count, le-leb (factor v * first_cluster l n + factor v * clusters_of l n) (factor v * total v) (ends_inside v n is low high more), begins) refl

index_some : (l : Layout) → IsLayout l → 1 ≤ index_clusters l
unfolding index_clusters
index_some l is = some_clusters l.cluster (4 * l.cluster + 1 + l.files) is.cluster_low (omega arith)

bitmap_some : (l : Layout) → IsLayout l → 1 ≤ bitmap_clusters l
unfolding bitmap_clusters
bitmap_some l is = some_clusters l.cluster _ is.cluster_low (omega arith)

system_runs : (v : Volume) (n : ℕ) → IsFresh v → 1 ≤ n → n ≤ 11 → are_stated v n (stated_clusters v n) (runs v n) ≡ true
unfolding stated_clusters index_clusters bitmap_clusters clusters_of first_cluster
system_runs v n is low high =
    let l = layout_of v in
    let at_zero : factor v * 0 ≡ 0 = omega arith in
    by_number (λ k. are_stated v k (stated_clusters v k) (runs v k) ≡ true)
    (stated_run v 1 (index_clusters l) is (omega arith) (omega arith) refl refl (index_some l is.limits) (eq-eqb (factor v * 0) 0 at_zero))
    (stated_run v 2 (bitmap_clusters l) is (omega arith) (omega arith) refl refl (bitmap_some l is.limits) refl)
    refl
    (stated_run v 4 1 is (omega arith) (omega arith) refl refl (omega arith) refl)
    refl refl refl refl refl
    (stated_run v 10 1 is (omega arith) (omega arith) refl refl (omega arith) refl)
    (stated_run v 11 1 is (omega arith) (omega arith) refl refl (omega arith) refl)
    n low high

system_one : (v : Volume) (n : ℕ) → IsFresh v → 1 ≤ n → n ≤ 11 → has_one_header (fields v n) (told v n) ≡ true
system_one v n is low high = ap (λ o. has_one_header o (told v n)) (used_fields v n is low high) ∙ one_header v n is low high

pub system_files : (v : Volume) (n : ℕ) → IsFresh v → 1 ≤ n → n ≤ 11 → is_system_file v n ≡ true
unfolding is_system_file
system_files v n is low high =
    let heads = ap (is_system_header n) (used_fields v n is low high) ∙ system_header (layout_of v) n low high in
    rw (heads, system_one v n is low high, system_runs v n is low high) refl

pub no_control_fault : (v : Volume) → IsFresh v → scb_fault v ≡ None
unfolding scb_fault
no_control_fault v is = rw (is.control, eq-eqb (factor v) (factor v) refl, eq-eqb (length v.blocks) (length v.blocks) refl) refl

-- the chains of other files are whole, since there are none
pub no_chain_fault : (v : Volume) (n : ℕ) → IsFresh v → IsNumber v n → 11 < n → chain_fault v n ≡ None
unfolding chain_fault
no_chain_fault v n is number high = rw (free_fields v n is high number.to) refl

-- ---- runs and clusters

whole_times : (f a : ℕ) → 1 ≤ f → f * a % f ≡ 0
whole_times f a some =
    let front : f * a ≡ 0 + f * a = omega arith in
    let none : 0 % f ≡ 0 = omega arith in
    ap (λ x. x % f) front ∙ add-mul-mod_self_left 0 f a ∙ none

on_bounds : (v : Volume) (a k : ℕ) → 1 ≤ factor v → factor v * a + factor v * k ≤ factor v * total v → is_off_bounds v (run_at (factor v) a k) ≡ false
unfolding is_off_bounds
on_bounds v a k some inside =
    let f : ℕ = factor v in
    rw (eq-eqb (f * a % f) 0 (whole_times f a some), eq-eqb (f * k % f) 0 (whole_times f k some), le-leb (f * a + f * k) (f * total v) inside) refl

pub none_off : (v : Volume) (n : ℕ) → IsFresh v → IsNumber v n → list_any (is_off_bounds v) (runs v n) ≡ false
none_off v n is number =
    ⊎_elim (λ (h : 11 < n). rw (free_runs v n is h number.to) refl)
    (λ (h : n ≤ 11). ⊎_elim (λ (some : 0 < clusters_of l n).
    rw (is.lie n number.from h, one_run l n some, on_bounds v (first_cluster l n) (clusters_of l n) is.limits.cluster_low (ends_inside v n is number.from h some)) refl)
    (λ (none : clusters_of l n ≤ 0). rw (is.lie n number.from h, no_run l n (omega arith)) refl)
    (cases_lt 0 (clusters_of l n)))
    (cases_lt 11 n) where
      l : Layout
      l = layout_of v

-- a run that has a cluster is the only one of the cluster's owner
pub record IsOwned (v : Volume) (q n i : ℕ) : Type 0 where
  pub number : n ≡ owner (index_clusters (layout_of v)) (bitmap_clusters (layout_of v)) q
  pub place : i ≡ 0

owned : (v : Volume) (q n i : ℕ) → IsFresh v → IsInRun v q n i → IsOwned v q n i
owned v q n i is at =
    ⊎_elim (λ (h : 11 < n). let none = free_runs v n is h at.number.to in let there = at.there in let past : slice_get [] i ≡ Some at.run = rw none at there in absurd (cc))
    (λ (h : n ≤ 11).
    let l = layout_of v in
    let lie = is.lie n at.number.from h in
    let there = at.there in
    let only = only_run l n i at.run (rw lie at there) in
    let of = in_run_of l n q is.limits.cluster_low (ap (is_in_run (factor v) q) (sym only.run) ∙ at.inside) in
    record { number = (is_owner l n q at.number.from h of.low of.high).0; place = only.place })
    (cases_lt 11 n)

pub none_shared : (v : Volume) (q : ℕ) → IsFresh v → IsShared v q → ⊥
none_shared v q is s =
    let one = owned v q s.n s.i is s.one in
    let other = owned v q s.m s.j is s.other in
    ⊎_elim (λ (h : s.n ≢ s.m). h (one.number ∙ sym other.number)) (λ (h : s.i ≢ s.j). h (one.place ∙ sym other.place)) s.apart

pub no_free_cluster : (v : Volume) (q : ℕ) → IsFresh v → q < total v → is_free_cluster v q ≡ true → is_in_files v q ≡ true → ⊥
no_free_cluster v q is inside free used =
    let low = reserved_in_files v q is used in
    both_ways (is_free_cluster v q) (is.clusters q inside ∙ lt-leb (reserved_clusters (layout_of v)) q low) free

pub no_free_number : (v : Volume) (n : ℕ) → IsFresh v → IsNumber v n → is_used_number v n ≡ false → is_some (used_slot v n) ≡ true → ⊥
no_free_number v n is number free used =
    let high = leb-false n 11 (sym (is.numbers n number) ∙ free) in
    let past : false ≡ true = ap (λ r. is_some (fields_in r)) (sym (is.free n high number.to)) ∙ used in
    cc

-- ---- directories

each_dir : (v : Volume) (n : ℕ) → IsFresh v → 1 ≤ n → n ≤ 11 → dir_fault v n ≡ None
unfolding dir_fault header_of clusters_of
each_dir v n is low high =
    let l = layout_of v in
    let f : ℕ = factor v in
    let one : f * 1 ≡ f = omega arith in
    let plain : (k : ℕ) → 1 ≤ k → k ≤ 11 → (header_of l k).dir ≡ false → dir_fault v k ≡ None = λ k a b e. rw (used_fields v k is a b, e) refl in
    by_number (λ k. dir_fault v k ≡ None)
    (plain 1 (omega arith) (omega arith) refl) (plain 2 (omega arith) (omega arith) refl) (plain 3 (omega arith) (omega arith) refl)
    (rw (used_fields v 4 is (omega arith) (omega arith), one_header v 4 is (omega arith) (omega arith), is.lie 4 (omega arith) (omega arith), one_run l 4 (omega arith), one, eq-eqb f f refl, eq-eqb (f + 1) (f + 1) refl, is.main) refl)
    (plain 5 (omega arith) (omega arith) refl) (plain 6 (omega arith) (omega arith) refl) (plain 7 (omega arith) (omega arith) refl)
    (plain 8 (omega arith) (omega arith) refl) (plain 9 (omega arith) (omega arith) refl) (plain 10 (omega arith) (omega arith) refl)
    (rw (used_fields v 11 is (omega arith) (omega arith), one_header v 11 is (omega arith) (omega arith), is.lie 11 (omega arith) (omega arith), one_run l 11 (omega arith), one, eq-eqb f f refl, eq-eqb (f + 1) (f + 1) refl, is.lost) refl)
    n low high

pub no_dir_fault : (v : Volume) (n : ℕ) → IsFresh v → IsNumber v n → dir_fault v n ≡ None
unfolding dir_fault
no_dir_fault v n is number =
    ⊎_elim (λ (h : 11 < n). rw (free_fields v n is h number.to) refl)
    (λ (h : n ≤ 11). each_dir v n is number.from h)
    (cases_lt 11 n)

-- ---- quota rows

two_owners : (l : Layout) (uic : ℕ) → has_two_rows (quota_rows l) uic ≡ false
unfolding quota_rows
two_owners l uic =
    ⊎_elim (λ (h : 65537 ≡ uic). rw (sym h) refl)
    (λ (h : 65537 ≢ uic). rw (ne_eqb 65537 uic h) (one_at_most (65540 == uic)))
    (cases_eq 65537 uic) where
      one_at_most : (t : Bool) → nat_le 2 (0 + cond t 1 0) ≡ false
      one_at_most true = refl
      one_at_most false = refl

pub none_twice : (v : Volume) (uic : ℕ) → IsFresh v → has_two_rows (active_rows v) uic ≡ false
none_twice v uic is = rw is.rows (two_owners (layout_of v) uic)

owner_has_row : (l : Layout) (n : ℕ) → is_rowless (quota_rows l) (Some (header_of l n)) ≡ false
unfolding quota_rows header_of
owner_has_row l n = refl

pub none_rowless : (v : Volume) (n : ℕ) → IsFresh v → IsNumber v n → is_rowless (active_rows v) (fields v n) ≡ false
none_rowless v n is number =
    ⊎_elim (λ (h : 11 < n). rw (free_fields v n is h number.to) refl)
    (λ (h : n ≤ 11). rw (is.rows, used_fields v n is number.from h) (owner_has_row (layout_of v) n))
    (cases_lt 11 n)
