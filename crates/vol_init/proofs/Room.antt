-- How many clusters and numbers of a fresh volume are free.
use Rattle.std.proofs.Common.{◌≡◌, ◌∙◌, ◌+◌, ◌-◌, ◌<◌, ◌≤◌, ℕ, zero, suc, Bool, true, false, cond, List, [], ◌∷◌, ◌++◌, Some, map, replicate, length, refl, sym, ap, arith}
use Rattle.std.specs.Prelude.{slice_get}
use Rattle.std.specs.List.{range_with_len, count_by, sum_by}
use Rattle.std.proofs.lemmas.Bool.{ne_eqb}
use Rattle.std.proofs.lemmas.List.Sums.{sum_by-cons}
use Rattle.plain_cat.specs.declared.cat.Slot.{Slot}
use Rattle.plain_cat.specs.declared.cat.Slot.TheVariants.{Free}
use Rattle.plain_rules.specs.Lookups.{clusters_in, free_clusters, is_set, is_free_number}
use Rattle.vol_init.specs.declared.layout.Layout.{Layout}
use Rattle.vol_init.specs.Layouts.{IsLayout, total, reserved_clusters, system_slot, fresh}
use Rattle.vol_init.proofs.Ranges.{by_number}

-- free slots have no clusters
none_in_free : (m seq : ℕ) → sum_by clusters_in (replicate m (Free seq)) ≡ 0
none_in_free zero seq = refl
none_in_free (suc m) seq = sum_by-cons clusters_in (Free seq) (replicate m (Free seq)) ∙ rw (none_in_free m seq) refl

pub clusters_free : (l : Layout) → free_clusters (fresh l) ≡ total l - reserved_clusters l
unfolding fresh
clusters_free l = rw (none_in_free (l.files - 11) 0) (omega arith)

-- ---- numbers

all_counted : (p : ℕ → Bool) (a m : ℕ) → ((n : ℕ) → a ≤ n → n < a + m → p n ≡ true) → count_by p (range_with_len a m) ≡ m
all_counted p a zero each = refl
all_counted p a (suc m) each =
    let rest = all_counted p (a + 1) m (λ n low high. each n (omega arith) (omega arith)) in
    let more = sum_by-cons (λ x. cond (p x) 1 0) a (range_with_len (a + 1) m) in
    more ∙ rw (each a (omega arith) (omega arith), rest) (omega arith)

-- a test that fails on the front of a range and holds behind it
counted_behind : (p : ℕ → Bool) (a k m : ℕ) → ((n : ℕ) → a ≤ n → n < a + k → p n ≡ false) → ((n : ℕ) → a + k ≤ n → n < a + k + m → p n ≡ true)
    → count_by p (range_with_len a (k + m)) ≡ m
counted_behind p a zero m first later =
    let none : 0 + m ≡ m = omega arith in
    rw none (all_counted p a m (λ n low high. later n (omega arith) (omega arith)))
counted_behind p a (suc k) m first later =
    let more : suc k + m ≡ suc (k + m) = omega arith in
    let rest = counted_behind p (a + 1) k m (λ n low high. first n (omega arith) (omega arith)) (λ n low high. later n (omega arith) (omega arith)) in
    let step = sum_by-cons (λ x. cond (p x) 1 0) a (range_with_len (a + 1) (k + m)) in
    rw more (step ∙ rw (first a (omega arith) (omega arith), rest) (omega arith))

same_slot : (s : Slot) (m i : ℕ) → i < m → slice_get (replicate m s) i ≡ Some s
same_slot s zero i h = absurd (omega arith)
same_slot s (suc m) zero h = refl
same_slot s (suc m) (suc i) h = same_slot s m i (omega arith)

slot_behind : (xs : List Slot) (s : Slot) (m i : ℕ) → length xs ≤ i → i < length xs + m → slice_get (xs ++ replicate m s) i ≡ Some s
slot_behind [] s m i past inside = same_slot s m i (omega arith)
slot_behind (x ∷ xs) s m zero past inside = absurd (omega arith)
slot_behind (x ∷ xs) s m (suc i) past inside = slot_behind xs s m i (omega arith) (omega arith)

none_set : (m i : ℕ) → is_set (slice_get (replicate m false) i) ≡ false
none_set zero i = refl
none_set (suc m) zero = refl
none_set (suc m) (suc i) = none_set m i

system_taken : (l : Layout) (n : ℕ) → 1 ≤ n → n ≤ 11 → is_free_number (fresh l) n ≡ false
unfolding fresh
system_taken l n low high = by_number (λ k. is_free_number (fresh l) k ≡ false) refl refl refl refl refl refl refl refl refl refl refl n low high

other_free : (l : Layout) (n : ℕ) → 11 < n → n ≤ l.files → is_free_number (fresh l) n ≡ true
unfolding fresh
other_free l n low high =
    let systems = map (system_slot l) (range_with_len 1 11) in
    let slot = slot_behind systems (Free 0) (l.files - 11) (n - 1) (omega arith) (omega arith) in
    rw (ne_eqb n 0 (λ e. omega arith), slot, none_set l.files (n - 1)) refl

pub numbers_free : (l : Layout) → IsLayout l → count_by (is_free_number (fresh l)) (range_with_len 1 l.files) ≡ l.files - 11
numbers_free l h =
    let all : 11 + (l.files - 11) ≡ l.files = omega (arith, h.files_low) in
    ap (λ k. count_by (is_free_number (fresh l)) (range_with_len 1 k)) (sym all)
    ∙ counted_behind (is_free_number (fresh l)) 1 11 (l.files - 11) (λ n low high. system_taken l n low (omega arith)) (λ n low high. other_free l n (omega arith) (omega arith))
