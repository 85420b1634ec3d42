-- Nothing is found in a fresh volume that mending puts right.
use Rattle.std.proofs.Common.{◌≡◌, ◌∙◌, ◌+◌, ◌-◌, ◌*◌, ◌<◌, ◌≤◌, ℕ, false, cond, List, [], ◌∷◌, ◌++◌, Some, map, filter, replicate, refl, ap, arith, ⊎_elim}
use Rattle.std.specs.Prelude.{◌||◌, ◌&&◌, not}
use Rattle.std.specs.List.{range_with_len, list_any, count_by, sum_by}
use Rattle.std.proofs.lemmas.Bool.{cases_lt, eq-eqb}
use Rattle.std.proofs.lemmas.List.Folds.{sum_by-replicate}
use Rattle.std.proofs.lemmas.List.Sums.{sum_by-append}
use Rattle.base_words.specs.Fields.{Block}
use Rattle.fx_dir.specs.declared.RawEnt.{RawEnt}
use Rattle.fx_dir.specs.Lists.{Each, In}
use Rattle.fx_dir.specs.Entries.{has, plain}
use Rattle.fx_dir.specs.Directory.{entries_at, all_entries}
use Rattle.fx_dir.proofs.Finding.{reads_set}
use Rattle.plain_cat.specs.declared.cat.Slot.TheVariants.{Free}
use Rattle.plain_rules.specs.Accounts.{share, charge}
use Rattle.plain_rules.specs.Mending.{is_own, stays, system_names, is_true, numbers_from}
use Rattle.vol_parts.specs.Volumes.{Volume, IsNumber, numbers, fields_in, used_slot, Told, is_in_slots, body}
use Rattle.vol_parts.proofs.Alone.{none_told}
use Rattle.vol_parts.specs.Warnings.{is_marked, names_none, is_second, has_doubles, is_lost_file, has_surplus, is_further, is_stray, is_miscounted, warnings}
use Rattle.fx_dir.specs.Laws.{has_double}
use Rattle.vol_init.specs.declared.layout.Layout.{Layout}
use Rattle.vol_init.specs.Layouts.{clusters_of, reserved_clusters, header_of, main_entries, quota_rows, system_slot, fresh}
use Rattle.vol_init.specs.Fresh.{layout_of, IsFresh}
use Rattle.vol_init.proofs.Ranges.{by_number, none_from, none_kept}
use Rattle.vol_init.proofs.Files.{used_fields, free_fields, catalogue_is}
use Rattle.vol_init.proofs.Entries.{main_places, places_are, none_lost}

-- ---- files and entries

none_marked : (l : Layout) → numbers_from is_marked 1 (fresh l).files ≡ []
unfolding fresh
none_marked l = none_from is_marked (system_slot l) (Free 0) 1 11 (l.files - 11) (λ n low high. refl) (λ n. refl)

none_lost_files : (l : Layout) → numbers_from (is_lost_file (fresh l)) 1 (fresh l).files ≡ []
unfolding fresh
none_lost_files l = none_from (is_lost_file (fresh l)) (system_slot l) (Free 0) 1 11 (l.files - 11) (λ n low high. none_lost l n low (omega arith)) (λ n. refl)

all_named : (l : Layout) → filter (names_none (fresh l)) main_places ≡ []
unfolding names_none fresh main_entries
all_named l = refl

none_second : (l : Layout) → filter (is_second (fresh l)) main_places ≡ []
unfolding is_second fresh main_entries stays is_own system_names
none_second l = refl

-- ---- doubles

-- blocks without entries have none twice
no_entry : (bs : List Block) → Each (λ e. In [] (plain e)) (all_entries bs) → has_double (map entries_at bs) ≡ false
no_entry [] each = refl
no_entry (b ∷ bs) each = by_entries (entries_at b) each (λ rest. no_entry bs rest) where
  by_entries : (es : List RawEnt) → Each (λ e. In [] (plain e)) (es ++ all_entries bs) → (Each (λ e. In [] (plain e)) (all_entries bs) → has_double (map entries_at bs) ≡ false)
      → (list_any (has (all_entries bs)) es || has_double (map entries_at bs)) ≡ false
  by_entries [] each rest = rest each
  by_entries (e ∷ es) each rest = absurd each.0

no_double_lost : (v : Volume) → IsFresh v → has_double (map entries_at (body v 11)) ≡ false
no_double_lost v is = no_entry (body v 11) (reads_set (body v 11) [] is.lost).complete

double_dir : (v : Volume) (n : ℕ) → IsFresh v → has_doubles v 4 ≡ false → 1 ≤ n → n ≤ 11 → has_doubles v n ≡ false
unfolding has_doubles header_of
double_dir v n is once low high =
    let plain_file : (k : ℕ) → 1 ≤ k → k ≤ 11 → (header_of (layout_of v) k).dir ≡ false → has_doubles v k ≡ false = λ k a b e. rw (used_fields v k is a b, e) refl in
    by_number (λ k. has_doubles v k ≡ false)
    (plain_file 1 (omega arith) (omega arith) refl) (plain_file 2 (omega arith) (omega arith) refl) (plain_file 3 (omega arith) (omega arith) refl)
    once
    (plain_file 5 (omega arith) (omega arith) refl) (plain_file 6 (omega arith) (omega arith) refl) (plain_file 7 (omega arith) (omega arith) refl)
    (plain_file 8 (omega arith) (omega arith) refl) (plain_file 9 (omega arith) (omega arith) refl) (plain_file 10 (omega arith) (omega arith) refl)
    (rw (used_fields v 11 is (omega arith) (omega arith)) (no_double_lost v is))
    n low high

unnumbered : (v : Volume) (n : ℕ) → IsFresh v → 11 < n → n ≤ v.home.files → has_doubles v n ≡ false
unfolding has_doubles
unnumbered v n is low high = rw (free_fields v n is low high) refl

no_double : (v : Volume) (n : ℕ) → IsFresh v → has_doubles v 4 ≡ false → IsNumber v n → has_doubles v n ≡ false
no_double v n is once number =
    ⊎_elim (λ (h : 11 < n). unnumbered v n is h number.to) (λ (h : n ≤ 11). double_dir v n is once number.from h) (cases_lt 11 n)

-- ---- chains

surplus_none : (v : Volume) (n : ℕ) → IsFresh v → IsNumber v n → has_surplus v n ≡ false
unfolding has_surplus
surplus_none v n is number =
    ⊎_elim (λ (h : 11 < n). ap (λ (t : Told). t.surplus) (none_told v n (free_fields v n is h number.to))) (λ (h : n ≤ 11). is.no_more n number.from h) (cases_lt 11 n)

first_one : (l : Layout) (n : ℕ) → is_further (Some (header_of l n)) ≡ false
unfolding header_of
first_one l n = refl

not_further : (v : Volume) (n : ℕ) → IsFresh v → IsNumber v n → is_further (used_slot v n) ≡ false
not_further v n is number =
    ⊎_elim (λ (h : 11 < n). ap (λ r. is_further (fields_in r)) (is.free n h number.to))
    (λ (h : n ≤ 11). ap (λ r. is_further (fields_in r)) (is.used n number.from h) ∙ first_one (layout_of v) n)
    (cases_lt 11 n)

stray_none : (v : Volume) (n : ℕ) → IsFresh v → IsNumber v n → is_stray v n ≡ false
unfolding is_stray
stray_none v n is number = ap (λ t. t && not (is_in_slots v n)) (not_further v n is number)

no_file_has_more : (v : Volume) → IsFresh v → filter (has_surplus v) (numbers v) ≡ []
no_file_has_more v is = none_kept (has_surplus v) 1 v.home.files (λ n low high. surplus_none v n is (record { from = low; to = omega arith }))

no_stray : (v : Volume) → IsFresh v → filter (is_stray v) (numbers v) ≡ []
no_stray v is = none_kept (is_stray v) 1 v.home.files (λ n low high. stray_none v n is (record { from = low; to = omega arith }))

-- ---- usage

system_cost : (l : Layout) → sum_by (share (fresh l) (record { 0 = 65537 })) (map (system_slot l) (range_with_len 1 11)) ≡ l.cluster * reserved_clusters l + 11
unfolding fresh clusters_of
system_cost l = omega arith

system_charge : (l : Layout) → charge (fresh l) (record { 0 = 65537 }) ≡ l.cluster * reserved_clusters l + 11
unfolding fresh
system_charge l =
    let systems = map (system_slot l) (range_with_len 1 11) in
    let share_of = share (fresh l) (record { 0 = 65537 }) in
    let none : (l.files - 11) * 0 ≡ 0 = omega arith in
    sum_by-append share_of systems (replicate (l.files - 11) (Free 0)) ∙ rw (system_cost l, sum_by-replicate share_of (l.files - 11) (Free 0), none) (omega arith)

user_charge : (l : Layout) → charge (fresh l) (record { 0 = 65540 }) ≡ 0
unfolding fresh
user_charge l =
    let systems = map (system_slot l) (range_with_len 1 11) in
    let share_of = share (fresh l) (record { 0 = 65540 }) in
    let none : (l.files - 11) * 0 ≡ 0 = omega arith in
    sum_by-append share_of systems (replicate (l.files - 11) (Free 0)) ∙ rw (sum_by-replicate share_of (l.files - 11) (Free 0), none) refl

none_miscounted : (l : Layout) → filter (is_miscounted (fresh l)) (fresh l).quota ≡ []
unfolding quota_rows fresh
none_miscounted l = rw (system_charge l, user_charge l, eq-eqb (l.cluster * reserved_clusters l + 11) (l.cluster * reserved_clusters l + 11) refl) refl

-- ---- all findings

no_numbers_leaked : (l : Layout) → count_by is_true (fresh l).leaked_numbers ≡ 0
unfolding fresh
no_numbers_leaked l =
    let none : l.files * 0 ≡ 0 = omega arith in
    sum_by-replicate (λ t. cond (is_true t) 1 0) l.files false ∙ none

no_clusters_leaked : (l : Layout) → (fresh l).leaked ≡ 0
unfolding fresh
no_clusters_leaked l = refl

no_directory_doubled : (v : Volume) → IsFresh v → has_doubles v 4 ≡ false → filter (has_doubles v) (numbers v) ≡ []
no_directory_doubled v is once = none_kept (has_doubles v) 1 v.home.files (λ n low high. no_double v n is once (record { from = low; to = omega arith }))

pub no_warnings : (v : Volume) → IsFresh v → has_doubles v 4 ≡ false → warnings v ≡ []
unfolding warnings
no_warnings v is once =
    let l = layout_of v in
    rw (catalogue_is v is, none_marked l, places_are l, all_named l, none_second l, no_directory_doubled v is once, none_lost_files l, no_file_has_more v is, no_stray v is, no_clusters_leaked l, no_numbers_leaked l, none_miscounted l) refl
