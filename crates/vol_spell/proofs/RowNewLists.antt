-- Rows in order of owner, with one more at any place, and how many rows are active.
use Rattle.std.proofs.Common.{◌≡◌, ◌≢◌, ◌⊎◌, ◌+◌, ◌-◌, ◌<◌, ◌≤◌, ◌++◌, ℕ, suc, Bool, true, false, List, [], ◌∷◌, Option, Some, None, length, map, cond, refl, sym, ap, ◌∙◌, inl, inr, arith}
use Rattle.std.specs.Prelude.{nat_lt}
use Rattle.std.specs.List.{range_with_len, filter_map, cons_option}
use Rattle.std.proofs.lemmas.Bool.Decides.{nat_tests}
use Rattle.std.proofs.lemmas.List.Elements.{filter_map-append}
use Rattle.std.proofs.lemmas.List.FromFn.{length-range_with_len}
use Rattle.std.proofs.Math.ListN.{length-append}
use Rattle.fx_quota.specs.declared.types.Row.{Row}
use Rattle.plain_cat.specs.declared.cat.QuotaRow.{QuotaRow}
use Rattle.plain_rules.specs.Changes.{with_row}
use Rattle.vol_parts.specs.Catalogues.{quota_row, rows_sorted}
use Rattle.base_words.specs.Lists.{Has, Once}
use Rattle.vol_spell.proofs.Placing.{has_ranged}
use Rattle.vol_spell.proofs.RowLists.{range_joined}

-- ---- rows in order

-- rows of two owners go in in either order
row-swap : (a b : QuotaRow) (rs : List QuotaRow) → a.owner.0 ≢ b.owner.0 → with_row a (with_row b rs) ≡ with_row b (with_row a rs)
row-swap a b [] ne = by (nat_lt a.owner.0 b.owner.0) (nat_lt b.owner.0 a.owner.0) refl refl where
  by : (s t : Bool) → nat_lt a.owner.0 b.owner.0 ≡ s → nat_lt b.owner.0 a.owner.0 ≡ t → cond s (a ∷ b ∷ []) (b ∷ a ∷ []) ≡ cond t (b ∷ a ∷ []) (a ∷ b ∷ [])
  by true true d e = absurd (grind (arith, nat_tests))
  by true false d e = refl
  by false true d e = refl
  by false false d e = absurd (ne (grind (arith, nat_tests)))
row-swap a b (r ∷ rs) ne = by (nat_lt a.owner.0 r.owner.0) (nat_lt b.owner.0 r.owner.0) refl refl (row-swap a b rs ne) where
  pair : (s t : Bool) → nat_lt a.owner.0 b.owner.0 ≡ s → nat_lt b.owner.0 a.owner.0 ≡ t → (xs : List QuotaRow) → cond s (a ∷ b ∷ xs) (b ∷ a ∷ xs) ≡ cond t (b ∷ a ∷ xs) (a ∷ b ∷ xs)
  pair true true d e xs = absurd (grind (arith, nat_tests))
  pair true false d e xs = refl
  pair false true d e xs = refl
  pair false false d e xs = absurd (ne (grind (arith, nat_tests)))

  by : (s t : Bool) → nat_lt a.owner.0 r.owner.0 ≡ s → nat_lt b.owner.0 r.owner.0 ≡ t → with_row a (with_row b rs) ≡ with_row b (with_row a rs) → with_row a (cond t (b ∷ r ∷ rs) (r ∷ with_row b rs)) ≡ with_row b (cond s (a ∷ r ∷ rs) (r ∷ with_row a rs))
  by true true d e ih = rw (d, e) (pair (nat_lt a.owner.0 b.owner.0) (nat_lt b.owner.0 a.owner.0) refl refl (r ∷ rs))
  by true false d e ih =
      let after : nat_lt b.owner.0 a.owner.0 ≡ false = grind (arith, nat_tests) in
      rw (d, after, e) refl
  by false true d e ih =
      let after : nat_lt a.owner.0 b.owner.0 ≡ false = grind (arith, nat_tests) in
      rw (e, after, d) refl
  by false false d e ih = rw (d, e) (ap (λ l. r ∷ l) ih)

-- one row more, at any place
pub sorted-more : (r : Row) (ys zs : List Row) → (Has (map (λ r. r.uic) (ys ++ zs)) r.uic → ⊥) → rows_sorted (ys ++ r ∷ zs) ≡ with_row (quota_row r) (rows_sorted (ys ++ zs))
sorted-more r [] zs away = refl
sorted-more r (y ∷ ys) zs away =
    ap (with_row (quota_row y)) (sorted-more r ys zs (λ t. away (inr t))) ∙ row-swap (quota_row y) (quota_row r) (rows_sorted (ys ++ zs)) (λ e. away (inl e))

-- its owner and the others
owner-more : (r : Row) (ys zs : List Row) (n : ℕ) → Has (map (λ r. r.uic) (ys ++ r ∷ zs)) n → (r.uic ≡ n) ⊎ Has (map (λ r. r.uic) (ys ++ zs)) n
owner-more r [] zs n (inl e) = inl e
owner-more r [] zs n (inr t) = inr t
owner-more r (y ∷ ys) zs n (inl e) = inr (inl e)
owner-more r (y ∷ ys) zs n (inr t) = elim (owner-more r ys zs n t) [ inl e ↦ inl e | inr u ↦ inr (inr u) ]

-- each owner still has one
pub once-more : (r : Row) (ys zs : List Row) → (Has (map (λ r. r.uic) (ys ++ zs)) r.uic → ⊥) → Once (map (λ r. r.uic) (ys ++ zs)) → Once (map (λ r. r.uic) (ys ++ r ∷ zs))
once-more r [] zs away once = (away, once)
once-more r (y ∷ ys) zs away once =
    (λ t. elim (owner-more r ys zs y.uic t) [ inl e ↦ away (inl (sym e)) | inr u ↦ once.0 u ], once-more r ys zs (λ t. away (inr t)) once.1)

-- ---- how many

with-length : (r : QuotaRow) (rs : List QuotaRow) → length (with_row r rs) ≡ suc (length rs)
with-length r [] = refl
with-length r (x ∷ rs) = by (nat_lt r.owner.0 x.owner.0) (with-length r rs) where
  by : (t : Bool) → length (with_row r rs) ≡ suc (length rs) → length (cond t (r ∷ x ∷ rs) (x ∷ with_row r rs)) ≡ suc (suc (length rs))
  by true ih = refl
  by false ih = ap suc ih

pub sorted-length : (rs : List Row) → length (rows_sorted rs) ≡ length rs
sorted-length [] = refl
sorted-length (r ∷ rs) = with-length (quota_row r) (rows_sorted rs) ∙ ap suc (sorted-length rs)

module _ {X Y : Type 0} where
  given_few : (h : X → Option Y) (xs : List X) → length (filter_map h xs) ≤ length xs
  given_few h [] = omega arith
  given_few h (x ∷ xs) = by (h x) (given_few h xs) where
    by : (o : Option Y) → length (filter_map h xs) ≤ length xs → length (cons_option o (filter_map h xs)) ≤ suc (length xs)
    by None le = omega arith
    by (Some y) le = omega arith

  -- where something is given of each item, as much is given
  pub given_all : (h : X → Option Y) (xs : List X) → ((x : X) → Has xs x → h x ≡ None → ⊥) → length (filter_map h xs) ≡ length xs
  given_all h [] all = refl
  given_all h (x ∷ xs) all = by (h x) refl (given_all h xs (λ y t. all y (inr t))) where
    by : (o : Option Y) → h x ≡ o → length (filter_map h xs) ≡ length xs → length (cons_option o (filter_map h xs)) ≡ suc (length xs)
    by None e ih = absurd (all x (inl refl) e)
    by (Some y) e ih = ap suc ih

  given_same : (h k : X → Option Y) (xs : List X) → ((x : X) → Has xs x → k x ≡ h x) → filter_map k xs ≡ filter_map h xs
  given_same h k [] same = refl
  given_same h k (x ∷ xs) same = ap (λ o. cons_option o (filter_map k xs)) (same x (inl refl)) ∙ ap (cons_option (h x)) (given_same h k xs (λ y t. same y (inr t)))

-- Something is given of each of so many numbers but j, at which nothing is given, or of j too.
module _ {Y : Type 0} (h : ℕ → Option Y) (n j : ℕ) (lt : j < n) (none : h j ≡ None) where
  abbrev pub before : List Y
  before = filter_map h (range_with_len 0 j)

  abbrev pub behind : List Y
  behind = filter_map h (range_with_len (j + 1) (n - (j + 1)))

  parted : range_with_len 0 n ≡ range_with_len 0 j ++ j ∷ range_with_len (j + 1) (n - (j + 1))
  parted =
      let m : ℕ = n - (j + 1) in
      let all : n ≡ j + suc m = omega arith in
      let at : 0 + j ≡ j = omega arith in
      ap (range_with_len 0) all ∙ range_joined 0 j (suc m) ∙ ap (λ a. range_with_len 0 j ++ range_with_len a (suc m)) at

  pub given_without : filter_map h (range_with_len 0 n) ≡ before ++ behind
  given_without =
      ap (filter_map h) parted ∙ filter_map-append h (range_with_len 0 j) (j ∷ range_with_len (j + 1) (n - (j + 1)))
      ∙ ap (λ o. before ++ cons_option o behind) none

  pub given_with : (k : ℕ → Option Y) (y : Y) → k j ≡ Some y → ((i : ℕ) → i ≢ j → k i ≡ h i) → filter_map k (range_with_len 0 n) ≡ before ++ y ∷ behind
  given_with k y at same =
      let low : filter_map k (range_with_len 0 j) ≡ before = given_same h k (range_with_len 0 j) (λ i t. same i (let w = has_ranged 0 j i t in let high = w.1 in omega arith)) in
      let high : filter_map k (range_with_len (j + 1) (n - (j + 1))) ≡ behind = given_same h k (range_with_len (j + 1) (n - (j + 1))) (λ i t. same i (let w = has_ranged (j + 1) (n - (j + 1)) i t in let from = w.0 in omega arith)) in
      ap (filter_map k) parted ∙ filter_map-append k (range_with_len 0 j) (j ∷ range_with_len (j + 1) (n - (j + 1)))
      ∙ ap (λ o. filter_map k (range_with_len 0 j) ++ cons_option o (filter_map k (range_with_len (j + 1) (n - (j + 1))))) at
      ∙ ap (λ l. l ++ y ∷ filter_map k (range_with_len (j + 1) (n - (j + 1)))) low ∙ ap (λ l. before ++ y ∷ l) high

  pub given_fewer : length (filter_map h (range_with_len 0 n)) < n
  given_fewer =
      let a : length before ≤ length (range_with_len 0 j) = given_few h (range_with_len 0 j) in
      let b : length behind ≤ length (range_with_len (j + 1) (n - (j + 1))) = given_few h (range_with_len (j + 1) (n - (j + 1))) in
      let c = length-range_with_len 0 j in
      let d = length-range_with_len (j + 1) (n - (j + 1)) in
      let e : length (filter_map h (range_with_len 0 n)) ≡ length before + length behind = ap length given_without ∙ length-append before behind in
      omega arith
