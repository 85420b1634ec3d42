-- Of each rank the first finding is found, or that there is none.
use Rattle.std.proofs.Common.{◌≡◌, ◌<◌, ◌≤◌, ◌+◌, ◌⊎◌, ◌∙◌, ℕ, zero, suc, true, false, List, [], ◌∷◌, Option, Some, None, Result, Ok, Err, length, sum_by, refl, sym, ap, subst, arith, inl, inr, ⊎_elim}
use Rattle.std.specs.Prelude.{◌==◌, is_some, slice_get}
use Rattle.std.specs.List.{list_any, count_by}
use Rattle.std.proofs.lemmas.Bool.{cases_lt, eqb-true, false_from_ne_true, leb-true}
use Rattle.std.proofs.lemmas.List.Sums.{sum_by-cons}
use Rattle.std.proofs.lemmas.Option.{same_Some}
use Rattle.fx_home.specs.declared.scb.ScbFault.{ScbFault}
use Rattle.fx_header.specs.declared.slot.HeaderFault.{HeaderFault}
use Rattle.fx_header.specs.declared.slot.Slot.{Slot}
use Rattle.fx_quota.specs.declared.types.Row.{Row}
use Rattle.plain_rules.specs.Lookups.{file_at}
use Rattle.plain_rules.specs.Mending.{mended}
use Rattle.plain_rules.specs.SystemFiles.{entries_of, is_system_entry}
use Rattle.vol_parts.specs.declared.finding.Finding.{Finding}
use Rattle.vol_parts.specs.declared.finding.Finding.TheVariants as finding
use Rattle.vol_parts.specs.Catalogues.{catalogue}
use Rattle.vol_parts.specs.Conditions.{HasAllRunsInside, IsFirstDirFault}
use Rattle.vol_parts.specs.Fatal.{IsFatalIn, is_system_file, scb_fault, chain_fault, is_off_bounds, is_too_large, dir_fault, has_two_rows, is_rowless, is_marked_dir}
use Rattle.vol_parts.specs.Findings.{rank, subject}
use Rattle.vol_parts.specs.Volumes.{Volume, IsNumber, total, head, used_slot, fields, runs, is_in_files, is_free_cluster, is_used_number, active_rows}
use Rattle.vol_parts.proofs.FirstLemmas.{first-directory}
use Rattle.vol_faults.specs.Conditions.{is_bad_header, has_bad_chain}
use Rattle.vol_faults.specs.Counts.{times}
use Rattle.vol_faults.specs.Whole.{NoneBelow}
use Rattle.vol_faults.proofs.ChainLemmas.{chains-found, chain-kind}
use Rattle.vol_faults.proofs.FirstLemmas.{headers-found, wrong-number}
use Rattle.vol_faults.proofs.Found.{found_none, found_some}
use Rattle.vol_faults.proofs.LiftLemmas.{first-of-volume}
use Rattle.vol_faults.proofs.PlaceLemmas.{one-place}
use Rattle.vol_faults.proofs.ReachLemmas.{path-number}
use Rattle.vol_faults.proofs.RoomLemmas.{no-room-exact}
use Rattle.vol_faults.proofs.SharingLemmas.{times-shared, shared-times, shared-found}
use Rattle.vol_analyze.proofs.Chains.{chain_settled}
use Rattle.vol_analyze.proofs.Seeking.{HasFirst, IsJudged, IsSettled, at_most, both, moved, nothing, number, same, seek, seek_kind, three}

-- ---- headers

header_judged : (v : Volume) (n : ℕ) (r : Result Slot HeaderFault) → head v n ≡ r → IsNumber v n → is_bad_header v n ≡ true → IsJudged v 1 n
unfolding is_bad_header
header_judged v n (Err fault) e i bad = inl (finding.Header n fault, record { ranked = refl; about = refl; fatal = (i, e) })
header_judged v n (Ok slot) e i bad = inl (finding.WrongNumber n, record { ranked = refl; about = refl; fatal = (i, wrong-number n (head v n) slot e bad) })

judge_header : (v : Volume) (n : ℕ) → IsSettled (IsNumber v n × (is_bad_header v n ≡ true)) → IsJudged v 1 n
judge_header v n (inl h) = header_judged v n (head v n) refl h.0 h.1
judge_header v n (inr none) = inr (λ f a.
    let is = a.about in
    let w = (headers-found v).only f a.ranked a.fatal in
    let low = w.0 in
    let high = w.1 in
    none (record { from = omega arith; to = omega arith }, subst (λ (m : ℕ). is_bad_header v m ≡ true) is w.2))

pub headers : (v : Volume) → HasFirst v 1
headers v = seek v 1 (v.home.files + 1) (λ n. judge_header v n (both (number v n) (same (is_bad_header v n) true)))
    (λ f e h. let high = ((headers-found v).only f e h).1 in omega arith)

-- ---- system files, the control block, chains of headers, runs and sizes

system_only : (f : Finding) → rank f ≡ 2 → f ≡ finding.SystemFile (subject f)
system_only (finding.SystemFile n) e = refl
system_only f e = absurd (omega arith)

pub systems : (v : Volume) → HasFirst v 2
systems v = seek_kind v 2 finding.SystemFile 12 (record { ranked = λ n. refl; about = λ n. refl; only = system_only })
    (λ n. three (at_most 1 n) (at_most n 11) (same (is_system_file v n) false)) (λ n h. let high = h.1 in omega arith)

no_scb : (v : Volume) → scb_fault v ≡ None → (g : Finding) → rank g ≡ 3 → IsFatalIn v g → ⊥
no_scb v none (finding.Scb fault) e h = absurd (cc (none, h))
no_scb v none g e h = absurd (omega arith)

scb_first : (v : Volume) (o : Option ScbFault) → scb_fault v ≡ o → HasFirst v 3
scb_first v None e = (None, no_scb v e)
scb_first v (Some fault) e = (Some (finding.Scb fault), record { rank_is = refl; fatal = e; least = λ g is h. omega arith })

pub control : (v : Volume) → HasFirst v 3
control v = scb_first v (scb_fault v) refl

chain_judged : (v : Volume) (n : ℕ) (o : Option Finding) → chain_fault v n ≡ o → IsNumber v n → 11 < n → IsJudged v 4 n
chain_judged v n (Some f) e i above = elim (chain-kind v n f e) [
  | inl is ↦ inl (finding.ChainBroken n, record { ranked = refl; about = refl; fatal = (i, above, e ∙ ap Some is) })
  | inr is ↦ inl (finding.ChainSplit n, record { ranked = refl; about = refl; fatal = (i, above, e ∙ ap Some is) })
]
chain_judged v n None e i above = inr (λ f a.
    let w = (chains-found v).only f a.ranked a.fatal in
    let here : has_bad_chain v n ≡ true = subst (λ (m : ℕ). has_bad_chain v m ≡ true) a.about w.2 in
    absurd (let g : false ≡ true = ap is_some (sym e) ∙ here in cc))

judge_chain : (v : Volume) (n : ℕ) → IsSettled (IsNumber v n × (12 ≤ n)) → IsJudged v 4 n
judge_chain v n (inl h) = chain_judged v n (chain_fault v n) refl h.0 h.1
judge_chain v n (inr none) = inr (λ f a.
    let is = a.about in
    let w = (chains-found v).only f a.ranked a.fatal in
    let low = w.0 in
    let high = w.1 in
    none (record { from = omega arith; to = omega arith }, omega arith))

pub chains : (v : Volume) → HasFirst v 4
chains v = seek v 4 (v.home.files + 1) (λ n. judge_chain v n (both (number v n) (at_most 12 n)))
    (λ f e h. let w = (chains-found v).only f e h in let low = w.0 in let high = w.1 in omega arith)

runs_only : (f : Finding) → rank f ≡ 5 → f ≡ finding.Runs (subject f)
runs_only (finding.Runs n) e = refl
runs_only f e = absurd (omega arith)

pub run_bounds : (v : Volume) → HasFirst v 5
run_bounds v = seek_kind v 5 finding.Runs (v.home.files + 1) (record { ranked = λ n. refl; about = λ n. refl; only = runs_only })
    (λ n. both (number v n) (same (list_any (is_off_bounds v) (runs v n)) true)) (λ n h. let high = h.0.to in omega arith)

clusters_only : (f : Finding) → rank f ≡ 6 → f ≡ finding.Clusters (subject f)
clusters_only (finding.Clusters n) e = refl
clusters_only f e = absurd (omega arith)

pub sizes : (v : Volume) → HasFirst v 6
sizes v = seek_kind v 6 finding.Clusters (v.home.files + 1) (record { ranked = λ n. refl; about = λ n. refl; only = clusters_only })
    (λ n. three (number v n) (at_most 12 n) (same (is_too_large v (fields v n)) true)) (λ n h. let high = h.0.to in omega arith)

-- ---- shared clusters

shared_only : (f : Finding) → rank f ≡ 7 → f ≡ finding.SharedCluster (subject f)
shared_only (finding.SharedCluster q) e = refl
shared_only f e = absurd (omega arith)

all_inside : (v : Volume) → NoneBelow v 7 → HasAllRunsInside v
all_inside v none = record {
  inside = λ n i. record { inside = false_from_ne_true (list_any (is_off_bounds v) (runs v n)) (λ e. none (finding.Runs n) (omega arith) (i, e)) };
}

pub sharing : (v : Volume) → NoneBelow v 7 → HasFirst v 7
sharing v none = seek_kind v 7 finding.SharedCluster (total v) (record { ranked = λ n. refl; about = λ n. refl; only = shared_only })
    (λ q. moved (times-shared v q) (shared-times v q) (at_most 2 (times v q)))
    (λ q h. let low = ((shared-found v (all_inside v none)).only (finding.SharedCluster q) refl h).1 in omega arith)

-- ---- directories

-- of the directories up to a number the first fault, or that none has one
abbrev AreDirsSought : Volume → ℕ → Type 0
AreDirsSought v b = ((f : Finding) × IsFirstDirFault v (Some f)) ⊎ ((n : ℕ) → 1 ≤ n → n ≤ b → dir_fault v n ≡ None)

one_dir : (v : Volume) (b : ℕ) (o : Option Finding) → dir_fault v (suc b) ≡ o → suc b ≤ v.home.files
    → ((n : ℕ) → 1 ≤ n → n ≤ b → dir_fault v n ≡ None) → AreDirsSought v (suc b)
one_dir v b (Some f) e inside none = inl (f, (suc b, record { from = omega arith; to = inside }, e, λ m from less. none m from (omega arith)))
one_dir v b None e inside none = inr (λ n from to. ⊎_elim (λ (less : n < suc b). none n from (omega arith))
    (λ (more : suc b ≤ n). let is : n ≡ suc b = omega arith in subst (λ (m : ℕ). dir_fault v m ≡ None) (sym is) e)
    (cases_lt n (suc b)))

dirs_under : (v : Volume) (b : ℕ) → b ≤ v.home.files → AreDirsSought v b
dirs_under v zero inside = inr (λ n from to. absurd (omega arith))
dirs_under v (suc b) inside = ⊎_elim inl (one_dir v b (dir_fault v (suc b)) refl inside) (dirs_under v b (omega arith))

pub directories : (v : Volume) → HasFirst v 8
directories v = ⊎_elim (λ w. (Some w.0, first-directory v (Some w.0) w.1)) (λ none. (None, first-directory v None (λ n i. none n i.from i.to)))
    (dirs_under v v.home.files (omega arith))

-- ---- quota rows

place_sum : (rs : List Row) (i : ℕ) (r : Row) → slice_get rs i ≡ Some r → r.uic ≤ sum_by (λ (x : Row). x.uic) rs
place_sum [] i r e = absurd (cc)
place_sum (x ∷ rs) zero r e =
    let is : x ≡ r = same_Some x r e in
    let more = sum_by-cons (λ (y : Row). y.uic) x rs in
    subst (λ (y : Row). y.uic ≤ sum_by (λ (z : Row). z.uic) (x ∷ rs)) is (omega (arith, more))
place_sum (x ∷ rs) (suc i) r e =
    let rest = place_sum rs i r e in
    omega (arith, rest, sum_by-cons (λ (y : Row). y.uic) x rs)

owner_low : (rs : List Row) (n : ℕ) → has_two_rows rs n ≡ true → n ≤ sum_by (λ (x : Row). x.uic) rs
owner_low rs n two =
    let count = leb-true 2 (count_by (λ (r : Row). r.uic == n) rs) two in
    let w = one-place (λ (r : Row). r.uic == n) rs (omega arith) in
    let p = w.1 in
    let is : p.value.uic ≡ n = eqb-true p.value.uic n p.passes in
    let low = place_sum rs w.0 p.value p.there in
    omega arith

double_only : (f : Finding) → rank f ≡ 9 → f ≡ finding.QuotaRow (record { 0 = subject f })
double_only (finding.QuotaRow owner) e = refl
double_only f e = absurd (omega arith)

pub doubles : (v : Volume) → HasFirst v 9
doubles v = seek_kind v 9 (λ n. finding.QuotaRow (record { 0 = n })) (suc (sum_by (λ (x : Row). x.uic) (active_rows v)))
    (record { ranked = λ n. refl; about = λ n. refl; only = double_only })
    (λ n. same (has_two_rows (active_rows v) n) true) (λ n h. let low = owner_low (active_rows v) n h in omega arith)

rowless_only : (f : Finding) → rank f ≡ 10 → f ≡ finding.NoQuotaRow (subject f)
rowless_only (finding.NoQuotaRow n) e = refl
rowless_only f e = absurd (omega arith)

pub rowless : (v : Volume) → HasFirst v 10
rowless v = seek_kind v 10 finding.NoQuotaRow (v.home.files + 1) (record { ranked = λ n. refl; about = λ n. refl; only = rowless_only })
    (λ n. both (number v n) (same (is_rowless (active_rows v) (fields v n)) true)) (λ n h. let high = h.0.to in omega arith)

-- ---- bitmaps

free_only : (f : Finding) → rank f ≡ 11 → f ≡ finding.FreeCluster (subject f)
free_only (finding.FreeCluster q) e = refl
free_only f e = absurd (omega arith)

pub free_clusters : (v : Volume) → HasFirst v 11
free_clusters v = seek_kind v 11 finding.FreeCluster (total v) (record { ranked = λ n. refl; about = λ n. refl; only = free_only })
    (λ q. three (at_most (suc q) (total v)) (same (is_free_cluster v q) true) (same (is_in_files v q) true)) (λ q h. h.0)

numbers_only : (f : Finding) → rank f ≡ 12 → f ≡ finding.FreeNumber (subject f)
numbers_only (finding.FreeNumber n) e = refl
numbers_only f e = absurd (omega arith)

pub free_numbers : (v : Volume) → HasFirst v 12
free_numbers v = seek_kind v 12 finding.FreeNumber (v.home.files + 1) (record { ranked = λ n. refl; about = λ n. refl; only = numbers_only })
    (λ n. three (number v n) (same (is_used_number v n) false) (same (is_some (used_slot v n)) true)) (λ n h. let high = h.0.to in omega arith)

-- ---- the catalogue

entry_only : (f : Finding) → rank f ≡ 13 → f ≡ finding.SystemEntry (subject f)
entry_only (finding.SystemEntry n) e = refl
entry_only f e = absurd (omega arith)

pub entries : (v : Volume) → HasFirst v 13
entries v = seek_kind v 13 finding.SystemEntry 12 (record { ranked = λ n. refl; about = λ n. refl; only = entry_only })
    (λ n. three (at_most 1 n) (at_most n 11) (same (list_any (is_system_entry n) (entries_of (catalogue v) 4)) false)) (λ n h. let high = h.1 in omega arith)

marked_only : (f : Finding) → rank f ≡ 14 → f ≡ finding.MarkedDir (subject f)
marked_only (finding.MarkedDir n) e = refl
marked_only f e = absurd (omega arith)

pub marked : (v : Volume) → HasFirst v 14
marked v = seek_kind v 14 finding.MarkedDir (v.home.files + 1) (record { ranked = λ n. refl; about = λ n. refl; only = marked_only })
    (λ n. both (number v n) (same (is_marked_dir (file_at (catalogue v) n)) true)) (λ n h. let high = h.0.to in omega arith)

loop_only : (f : Finding) → rank f ≡ 15 → f ≡ finding.DirLoop (subject f)
loop_only (finding.DirLoop n) e = refl
loop_only f e = absurd (omega arith)

pub loops : (v : Volume) → HasFirst v 15
loops v = seek_kind v 15 finding.DirLoop (suc (length (catalogue v).files)) (record { ranked = λ n. refl; about = λ n. refl; only = loop_only })
    (λ n. chain_settled (catalogue v) n n) (λ n h. let inside = (path-number (catalogue v) n n h).1 in omega arith)

room_by : (v : Volume) → IsSettled (mended (catalogue v) ≡ None) → HasFirst v 16
room_by v (inl none) =
    let w = (no-room-exact (catalogue v)).1 none in
    (Some (finding.NoRoom w.0), first-of-volume v 16 (Some (finding.NoRoom w.0)) (omega arith) (omega arith) (found_some (catalogue v) (Some w.0) w.0 w.1 refl))
room_by v (inr some) = (
  None,
  first-of-volume v 16 None (omega arith) (omega arith) (found_none (catalogue v) None (λ n h. some ((no-room-exact (catalogue v)).0 (n, h))) refl),
)

pub room : (v : Volume) → HasFirst v 16
room v = room_by v (nothing (mended (catalogue v)))

-- ---- the ranks without a fatal finding

none_late : (v : Volume) (g : Finding) → rank g ≡ 17 → IsFatalIn v g → ⊥
none_late v (finding.Marked n) e h = h
none_late v (finding.NamesNone name ver dir) e h = h
none_late v (finding.Second name ver dir) e h = h
none_late v (finding.Doubles n) e h = h
none_late v (finding.Lost n) e h = h
none_late v (finding.Surplus n) e h = h
none_late v (finding.Stray n) e h = h
none_late v (finding.LeakedClusters k) e h = h
none_late v (finding.LeakedNumbers k) e h = h
none_late v (finding.Usage owner has should) e h = h
none_late v g e h = absurd (omega arith)

pub late : (v : Volume) → HasFirst v 17
late v = (None, none_late v)
