-- Where the system files lie: in the first clusters, apart from one another.
use Rattle.std.proofs.Common.{◌≡◌, ◌∙◌, ◌+◌, ◌*◌, ◌<◌, ◌≤◌, ℕ, zero, suc, Bool, true, false, [], ◌∷◌, Some, slice_get, refl, sym, arith, ⊎_elim}
use Rattle.std.specs.Prelude.{◌&&◌, ◌||◌, nat_le, nat_lt, if◌then◌else◌}
use Rattle.std.specs.List.{list_any}
use Rattle.std.proofs.lemmas.Bool.{lt-ltb, le-ltb, le-leb, leb-true, ltb-true, ne_eqb, eq-eqb, and_parts, cases_lt}
use Rattle.fx_header.specs.declared.run.Run.{Run}
use Rattle.vol_parts.specs.Volumes.{is_in_run}
use Rattle.vol_init.specs.declared.layout.Layout.{Layout}
use Rattle.vol_init.specs.Layouts.{index_clusters, bitmap_clusters, clusters_of, first_cluster, reserved_clusters, runs_of}
use Rattle.vol_init.proofs.Ranges.{by_number}
use Rattle.base_words.proofs.Numbers.{from-first, to-last}

-- ---- the file that has a cluster

-- the number of the file that has a cluster, where so many clusters are the index file's, and so many BITMAP.SYS's
abbrev pub owner : ℕ → ℕ → ℕ → ℕ
owner a b q =
    if nat_lt q a then 1 else if nat_lt q (a + b) then 2 else if nat_lt q (a + b + 1) then 4 else if nat_lt q (a + b + 2) then 11 else 10

in_index : (a b q : ℕ) → q < a → owner a b q ≡ 1
in_index a b q h = rw (lt-ltb q a h) refl

in_bitmap : (a b q : ℕ) → a ≤ q → q < a + b → owner a b q ≡ 2
in_bitmap a b q low h = rw (le-ltb q a low, lt-ltb q (a + b) h) refl

in_main : (a b q : ℕ) → q ≡ a + b → owner a b q ≡ 4
in_main a b q e =
    let first : a ≤ q = omega arith in
    let second : a + b ≤ q = omega arith in
    let here : q < a + b + 1 = omega arith in
    rw (le-ltb q a first, le-ltb q (a + b) second, lt-ltb q (a + b + 1) here) refl

in_lost : (a b q : ℕ) → q ≡ a + b + 1 → owner a b q ≡ 11
in_lost a b q e =
    let first : a ≤ q = omega arith in
    let second : a + b ≤ q = omega arith in
    let third : a + b + 1 ≤ q = omega arith in
    let here : q < a + b + 2 = omega arith in
    rw (le-ltb q a first, le-ltb q (a + b) second, le-ltb q (a + b + 1) third, lt-ltb q (a + b + 2) here) refl

in_quota : (a b q : ℕ) → q ≡ a + b + 2 → owner a b q ≡ 10
in_quota a b q e =
    let first : a ≤ q = omega arith in
    let second : a + b ≤ q = omega arith in
    let third : a + b + 1 ≤ q = omega arith in
    let fourth : a + b + 2 ≤ q = omega arith in
    rw (le-ltb q a first, le-ltb q (a + b) second, le-ltb q (a + b + 1) third, le-ltb q (a + b + 2) fourth) refl

-- first clusters and counts by number
abbrev pub IsOwnerBy : ℕ → ℕ → ℕ → ℕ → ℕ → ℕ → Type 0
IsOwnerBy a b q n first count = first ≤ q → q < first + count → (n ≡ owner a b q) × (q < a + b + 3)

owns_none : (a b q n first : ℕ) → IsOwnerBy a b q n first 0
owns_none a b q n first low high = absurd (omega arith)

owns_index : (a b q : ℕ) → IsOwnerBy a b q 1 0 a
owns_index a b q low high = let here : q < a = omega arith in (sym (in_index a b q here), omega arith)

owns_bitmap : (a b q : ℕ) → IsOwnerBy a b q 2 a b
owns_bitmap a b q low high = (sym (in_bitmap a b q low high), omega arith)

owns_main : (a b q : ℕ) → IsOwnerBy a b q 4 (a + b) 1
owns_main a b q low high = let here : q ≡ a + b = omega arith in (sym (in_main a b q here), omega arith)

owns_lost : (a b q : ℕ) → IsOwnerBy a b q 11 (a + b + 1) 1
owns_lost a b q low high = let here : q ≡ a + b + 1 = omega arith in (sym (in_lost a b q here), omega arith)

owns_quota : (a b q : ℕ) → IsOwnerBy a b q 10 (a + b + 2) 1
owns_quota a b q low high = let here : q ≡ a + b + 2 = omega arith in (sym (in_quota a b q here), omega arith)

abbrev pub IsOwner : Layout → ℕ → ℕ → Type 0
IsOwner l q n = IsOwnerBy (index_clusters l) (bitmap_clusters l) q n (first_cluster l n) (clusters_of l n)

-- the number of each file that a cluster is in is the cluster's owner, and the cluster is a reserved one
pub is_owner : (l : Layout) (n q : ℕ) → 1 ≤ n → n ≤ 11 → IsOwner l q n
unfolding first_cluster clusters_of
is_owner l n q low high =
    let a = index_clusters l in
    let b = bitmap_clusters l in
    let none : (k : ℕ) → IsOwnerBy a b q k (a + b + 2) 0 = λ k. owns_none a b q k (a + b + 2) in
    by_number (IsOwner l q) (owns_index a b q) (owns_bitmap a b q) (none 3) (owns_main a b q) (none 5) (none 6) (none 7) (none 8) (none 9) (owns_quota a b q) (owns_lost a b q) n low high

-- a cluster of a number
pub record IsOf (l : Layout) (n q : ℕ) : Type 0 where
  pub low : first_cluster l n ≤ q
  pub high : q < first_cluster l n + clusters_of l n

-- each reserved cluster is in a file
pub record HasOwner (l : Layout) (q : ℕ) : Type 0 where
  pub number : ℕ
  pub from : 1 ≤ number
  pub to : number ≤ 11
  pub is : IsOf l number q

pub has_owner : (l : Layout) (q : ℕ) → q < reserved_clusters l → HasOwner l q
unfolding first_cluster clusters_of
has_owner l q h =
    let a = index_clusters l in
    let b = bitmap_clusters l in
    ⊎_elim (λ (x : q < a). record { number = 1; from = omega arith; to = omega arith; is = record { low = omega arith; high = omega arith } })
    (λ (x : a ≤ q). ⊎_elim (λ (y : q < a + b). record { number = 2; from = omega arith; to = omega arith; is = record { low = x; high = y } })
    (λ (y : a + b ≤ q). ⊎_elim (λ (z : q < a + b + 1). record { number = 4; from = omega arith; to = omega arith; is = record { low = y; high = z } })
    (λ (z : a + b + 1 ≤ q). ⊎_elim (λ (w : q < a + b + 2). record { number = 11; from = omega arith; to = omega arith; is = record { low = z; high = omega arith } })
    (λ (w : a + b + 2 ≤ q). record { number = 10; from = omega arith; to = omega arith; is = record { low = w; high = omega arith } })
    (cases_lt q (a + b + 2)))
    (cases_lt q (a + b + 1)))
    (cases_lt q (a + b)))
    (cases_lt q a)

-- the run of so many clusters from a first one on
abbrev pub run_at : ℕ → ℕ → ℕ → Run
run_at f a k = record { lbn = f * a; count = f * k }

within : (f a k q : ℕ) → 1 ≤ f → is_in_run f q (run_at f a k) ≡ (nat_le a q && nat_lt q (a + k))
unfolding is_in_run
within f a k q some =
    let ends : f * a + f * k ≡ f * (a + k) = omega arith in
    rw (ends, from-first f a q some, to-last f (a + k) q some) refl

pub one_run : (l : Layout) (n : ℕ) → 1 ≤ clusters_of l n → runs_of l n ≡ run_at l.cluster (first_cluster l n) (clusters_of l n) ∷ []
unfolding runs_of
one_run l n some = rw (ne_eqb (clusters_of l n) 0 (λ e. omega arith)) refl

pub no_run : (l : Layout) (n : ℕ) → clusters_of l n ≡ 0 → runs_of l n ≡ []
unfolding runs_of
no_run l n none = rw (eq-eqb (clusters_of l n) 0 none) refl

-- the run of a file, if it has one
pub record IsOnly (l : Layout) (n i : ℕ) (r : Run) : Type 0 where
  pub place : i ≡ 0
  pub run : r ≡ run_at l.cluster (first_cluster l n) (clusters_of l n)
  pub some : 1 ≤ clusters_of l n

only_one : (l : Layout) (n i : ℕ) (r x : Run) → 1 ≤ clusters_of l n → x ≡ run_at l.cluster (first_cluster l n) (clusters_of l n) → slice_get (x ∷ []) i ≡ Some r → IsOnly l n i r
only_one l n zero r x some is e = record { place = refl; run = (let same : x ≡ r = cc in sym same ∙ is); some = some }
only_one l n (suc i) r x some is e = absurd (cc)

pub only_run : (l : Layout) (n i : ℕ) (r : Run) → slice_get (runs_of l n) i ≡ Some r → IsOnly l n i r
only_run l n i r e =
    ⊎_elim (λ (h : 0 < clusters_of l n). only_one l n i r _ h refl (rw (one_run l n h) at e))
    (λ (h : clusters_of l n ≤ 0). let none = no_run l n (omega arith) in let past : slice_get [] i ≡ Some r = rw none at e in absurd (cc))
    (cases_lt 0 (clusters_of l n))

-- a cluster in the run of a file is one of the file's
pub in_run_of : (l : Layout) (n q : ℕ) → 1 ≤ l.cluster → is_in_run l.cluster q (run_at l.cluster (first_cluster l n) (clusters_of l n)) ≡ true → IsOf l n q
in_run_of l n q some e =
    let parts = and_parts _ _ (sym (within l.cluster (first_cluster l n) (clusters_of l n) q some) ∙ e) in
    record { low = leb-true _ _ parts.0; high = ltb-true _ _ parts.1 }

pub of_in_runs : (l : Layout) (n q : ℕ) → 1 ≤ l.cluster → IsOf l n q → list_any (is_in_run l.cluster q) (runs_of l n) ≡ true
of_in_runs l n q some of =
    let low = of.low in
    let high = of.high in
    let more : 1 ≤ clusters_of l n = omega arith in
    rw (one_run l n more, within l.cluster (first_cluster l n) (clusters_of l n) q some, le-leb (first_cluster l n) q low, lt-ltb q (first_cluster l n + clusters_of l n) high) refl

pub in_runs_of : (l : Layout) (n q : ℕ) → 1 ≤ l.cluster → list_any (is_in_run l.cluster q) (runs_of l n) ≡ true → IsOf l n q
in_runs_of l n q some e =
    ⊎_elim (λ (h : 0 < clusters_of l n). in_run_of l n q some (or_none _ (rw (one_run l n h) at e)))
    (λ (h : clusters_of l n ≤ 0). let none = no_run l n (omega arith) in let past : false ≡ true = rw none at e in absurd (cc))
    (cases_lt 0 (clusters_of l n)) where
      or_none : (t : Bool) → (t || false) ≡ true → t ≡ true
      or_none true e = refl
      or_none false e = e
