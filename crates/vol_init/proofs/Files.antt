-- What stands under the numbers of a fresh volume, and its catalogue.
use Rattle.std.proofs.Common.{◌≡◌, ◌∙◌, ◌+◌, ◌-◌, ◌*◌, ◌/◌, ◌<◌, ◌≤◌, ℕ, Bool, true, false, [], ◌++◌, Some, None, Ok, map, take, replicate, length, refl, sym, ap, arith, ⊎_elim}
use Rattle.std.specs.Prelude.{◌&&◌, ◌==◌, not}
use Rattle.std.specs.List.{range_with_len, list_any, sum_by}
use Rattle.std.proofs.lemmas.Bool.{cases_lt, le-leb, lt-leb, eq-eqb}
use Rattle.std.proofs.lemmas.List.{take_at}
use Rattle.std.proofs.lemmas.List.FromFn.{length-map-range_with_len}
use Rattle.std.proofs.Math.Nat.{mul-div_cancel_left}
use Rattle.fx_header.specs.Pointers.{blocks_in}
use Rattle.fx_header.specs.declared.slot.Slot.TheVariants.{Used}
use Rattle.plain_cat.specs.declared.cat.Slot.TheVariants.{Free}
use Rattle.plain_rules.specs.Lookups.{clusters_in}
use Rattle.vol_parts.specs.Chains.{as_first}
use Rattle.vol_parts.specs.Fatal.{is_one_header}
use Rattle.vol_parts.specs.Warnings.{has_surplus}
use Rattle.vol_parts.specs.Volumes.{Volume, IsNumber, total, fields_in, fields, Told, told, runs, body, is_slot_of, is_in_slots, is_in_file, is_in_files, is_free_cluster}
use Rattle.vol_parts.specs.Catalogues.{written_blocks, entries_in, slot_of, files_of, rows_sorted, is_outside_cluster, is_outside_number, catalogue}
use Rattle.vol_parts.proofs.Sizes.{runs-none, length-body}
use Rattle.vol_parts.proofs.Alone.{one_told}
use Rattle.vol_init.specs.declared.layout.Layout.{Layout}
use Rattle.vol_init.specs.Layouts.{clusters_of, reserved_clusters, header_of, quota_rows, entries_of, system_slot, fresh}
use Rattle.vol_init.specs.Fresh.{layout_of, IsFresh}
use Rattle.vol_init.proofs.Ranges.{by_number, split_map, constant_map, none_counted, any_number, number_any}
use Rattle.vol_init.proofs.HeaderLemmas.{runs-fit}
use Rattle.vol_init.proofs.Clusters.{IsOf, is_owner, has_owner, one_run, no_run, in_runs_of, of_in_runs}

-- ---- numbers

-- a header that is made is the first one of its file
pub first_made : (l : Layout) (n : ℕ) → as_first (Ok (Used (header_of l n))) ≡ Ok (Used (header_of l n))
unfolding header_of
first_made l n = refl

pub used_fields : (v : Volume) (n : ℕ) → IsFresh v → 1 ≤ n → n ≤ 11 → fields v n ≡ Some (header_of (layout_of v) n)
used_fields v n is low high = ap (λ r. fields_in (as_first r)) (is.used n low high) ∙ ap fields_in (first_made (layout_of v) n)

pub free_fields : (v : Volume) (n : ℕ) → IsFresh v → 11 < n → n ≤ v.home.files → fields v n ≡ None
free_fields v n is low high = ap (λ r. fields_in (as_first r)) (is.free n low high)

pub free_runs : (v : Volume) (n : ℕ) → IsFresh v → 11 < n → n ≤ v.home.files → runs v n ≡ []
free_runs v n is low high = runs-none v n (free_fields v n is low high)

-- the header of a system file is all that there is of the file
without_more : (l : Layout) (n : ℕ) (t : Told) → t.surplus ≡ false → blocks_in t.runs ≡ (header_of l n).blocks → is_one_header (header_of l n) t ≡ true
unfolding header_of
without_more l n t none count = rw (none, eq-eqb _ _ count) refl

same_blocks : (l : Layout) (n : ℕ) → (header_of l n).blocks ≡ l.cluster * clusters_of l n
unfolding header_of
same_blocks l n = refl

pub one_header : (v : Volume) (n : ℕ) → IsFresh v → 1 ≤ n → n ≤ 11 → is_one_header (header_of (layout_of v) n) (told v n) ≡ true
unfolding runs has_surplus
one_header v n is low high =
    let l = layout_of v in
    let fit = runs-fit l n is.limits is.room in
    without_more l n (told v n) (is.no_more n low high) (ap blocks_in (is.lie n low high) ∙ fit.count ∙ sym (same_blocks l n))

-- so its number is that of a slot of the file
own_slot : (v : Volume) (n : ℕ) → IsFresh v → 1 ≤ n → n ≤ 11 → is_slot_of v n n ≡ true
own_slot v n is low high =
    let alone = one_told v n (header_of (layout_of v) n) (used_fields v n is low high) (one_header v n is low high) in
    ap (λ (t : Told). list_any (λ k. k == n) t.slots) alone ∙ rw (eq-eqb n n refl) refl

pub in_slots : (v : Volume) (n : ℕ) → IsFresh v → 1 ≤ n → n ≤ 11 → is_in_slots v n ≡ true
unfolding is_in_slots
in_slots v n is low high =
    let many = is.limits.files_low in
    number_any (is_slot_of v n) 1 v.home.files n low (omega arith) (own_slot v n is low high)

-- a number of a cluster's file is a system file's
pub in_file_of : (v : Volume) (n q : ℕ) → IsFresh v → IsNumber v n → is_in_file v q n ≡ true → (n ≤ 11) × IsOf (layout_of v) n q
in_file_of v n q is number e =
    ⊎_elim (λ (h : 11 < n). let none = free_runs v n is h number.to in let past : false ≡ true = rw none at e in absurd (cc))
    (λ (h : n ≤ 11). let lie = is.lie n number.from h in (h, in_runs_of (layout_of v) n q is.limits.cluster_low (rw lie at e)))
    (cases_lt 11 n)

pub of_in_files : (v : Volume) (q : ℕ) → IsFresh v → q < reserved_clusters (layout_of v) → is_in_files v q ≡ true
unfolding is_in_files
of_in_files v q is h =
    let own = has_owner (layout_of v) q h in
    let many = is.limits.files_low in
    let low = own.from in
    let high = own.to in
    let here : is_in_file v q own.number ≡ true = rw (is.lie own.number low high) (of_in_runs (layout_of v) own.number q is.limits.cluster_low own.is) in
    number_any (is_in_file v q) 1 v.home.files own.number low (omega arith) here

-- a cluster in a file is a reserved one
pub reserved_in_files : (v : Volume) (q : ℕ) → IsFresh v → is_in_files v q ≡ true → q < reserved_clusters (layout_of v)
unfolding is_in_files
reserved_in_files v q is e =
    let h = any_number (is_in_file v q) 1 v.home.files e in
    let high = h.high in
    let w = in_file_of v h.number q is (record { from = h.low; to = omega arith }) h.passes in
    let of = w.1 in
    (is_owner (layout_of v) h.number q h.low w.0 of.low of.high).1

-- ---- slots

empty_body : (v : Volume) (n : ℕ) → runs v n ≡ [] → body v n ≡ []
unfolding body
empty_body v n e = rw e refl

no_body : (v : Volume) (n : ℕ) → IsFresh v → 1 ≤ n → n ≤ 11 → clusters_of (layout_of v) n ≡ 0 → body v n ≡ []
no_body v n is low high none = empty_body v n (is.lie n low high ∙ no_run (layout_of v) n none)

-- no block of a system file can be seen but as entries
IsSeen : Volume → ℕ → Type 0
IsSeen v n =
    (written_blocks n (header_of (layout_of v) n) (body v n) ≡ []) × (entries_in (header_of (layout_of v) n) (body v n) ≡ entries_of n)

system_seen : (v : Volume) (n : ℕ) → IsFresh v → 1 ≤ n → n ≤ 11 → IsSeen v n
unfolding IsSeen header_of clusters_of
system_seen v n is low high =
    let none : (k : ℕ) → 1 ≤ k → k ≤ 11 → clusters_of (layout_of v) k ≡ 0 → body v k ≡ [] = λ k a b e. no_body v k is a b e in
    by_number (IsSeen v) (refl, refl) (refl, refl) (none 3 (omega arith) (omega arith) refl, refl) (refl, rw is.main refl)
    (none 5 (omega arith) (omega arith) refl, refl) (none 6 (omega arith) (omega arith) refl, refl) (none 7 (omega arith) (omega arith) refl, refl)
    (none 8 (omega arith) (omega arith) refl, refl) (none 9 (omega arith) (omega arith) refl, refl) (refl, refl) (refl, rw is.lost refl) n low high

pub used_slot : (v : Volume) (n : ℕ) → IsFresh v → 1 ≤ n → n ≤ 11 → slot_of v n ≡ system_slot (layout_of v) n
unfolding slot_of header_of IsSeen
used_slot v n is low high =
    let seen = system_seen v n is low high in
    let size : v.home.cluster * clusters_of (layout_of v) n / v.home.cluster ≡ clusters_of (layout_of v) n = mul-div_cancel_left (clusters_of (layout_of v) n) is.limits.cluster_low in
    rw (is.used n low high, size, seen.0, seen.1) refl

pub free_slot : (v : Volume) (n : ℕ) → IsFresh v → 11 < n → n ≤ v.home.files → slot_of v n ≡ Free 0
unfolding slot_of
free_slot v n is low high = rw (is.free n low high) refl

pub files_are : (v : Volume) → IsFresh v → files_of v ≡ map (system_slot (layout_of v)) (range_with_len 1 11) ++ replicate (v.home.files - 11) (Free 0)
unfolding files_of
files_are v is =
    let many = is.limits.files_low in
    let all : 11 + (v.home.files - 11) ≡ v.home.files = omega arith in
    ap (λ k. map (slot_of v) (range_with_len 1 k)) (sym all)
    ∙ split_map (slot_of v) (system_slot (layout_of v)) (Free 0) 1 11 (v.home.files - 11)
    (λ n low high. used_slot v n is low (omega arith)) (λ n low high. free_slot v n is (omega arith) (omega arith))

-- ---- the catalogue

reserved_are : (l : Layout) → sum_by clusters_in (map (system_slot l) (range_with_len 1 11)) ≡ reserved_clusters l
unfolding clusters_of
reserved_are l = omega arith

front_reserved : (v : Volume) → IsFresh v → sum_by clusters_in (take 11 (files_of v)) ≡ reserved_clusters (layout_of v)
front_reserved v is =
    let l = layout_of v in
    let systems = map (system_slot l) (range_with_len 1 11) in
    ap (λ fs. sum_by clusters_in (take 11 fs)) (files_are v is)
    ∙ ap (λ fs. sum_by clusters_in fs) (take_at systems (replicate (v.home.files - 11) (Free 0)) 11 (length-map-range_with_len (system_slot l) 1 11)) ∙ reserved_are l

quota_blocks : (v : Volume) → IsFresh v → length (body v 10) ≡ v.home.cluster
unfolding clusters_of
quota_blocks v is =
    length-body v 10 ∙ ap blocks_in (is.lie 10 (omega arith) (omega arith) ∙ one_run (layout_of v) 10 (omega arith)) ∙ omega arith

pub outside_cluster : (v : Volume) (q : ℕ) → IsFresh v → q < total v → is_outside_cluster v q ≡ false
unfolding is_outside_cluster
outside_cluster v q is h =
    ⊎_elim (λ (x : q < reserved_clusters (layout_of v)). rw (of_in_files v q is x) (and_none (not (is_free_cluster v q))))
    (λ (x : reserved_clusters (layout_of v) ≤ q). rw (is.clusters q h, le-leb (reserved_clusters (layout_of v)) q x) refl)
    (cases_lt q (reserved_clusters (layout_of v))) where
      and_none : (t : Bool) → (t && false) ≡ false
      and_none true = refl
      and_none false = refl

pub outside_number : (v : Volume) (n : ℕ) → IsFresh v → IsNumber v n → is_outside_number v n ≡ false
unfolding is_outside_number
outside_number v n is number =
    ⊎_elim (λ (h : 11 < n). rw (is.numbers n number, lt-leb n 11 h) refl)
    (λ (h : n ≤ 11). rw (is.numbers n number, le-leb n 11 h, in_slots v n is number.from h) refl)
    (cases_lt 11 n)

rows_are : (l : Layout) → rows_sorted (quota_rows l) ≡ (fresh l).quota
unfolding quota_rows fresh
rows_are l = refl

pub catalogue_is : (v : Volume) → IsFresh v → catalogue v ≡ fresh (layout_of v)
unfolding catalogue fresh
catalogue_is v is =
    let none = none_counted (is_outside_cluster v) 0 (total v) (λ q low high. outside_cluster v q is (omega arith)) in
    let numbers_none = constant_map (is_outside_number v) false 1 v.home.files (λ n low high. outside_number v n is (record { from = low; to = omega arith })) in
    rw (front_reserved v is, quota_blocks v is, files_are v is, is.rows, rows_are (layout_of v), none, numbers_none) refl
