-- The rows once [1,1] has one: a row more in the place of one that is not active, or in the place of the last one where each is.
use Rattle.std.proofs.Common.{◌≡◌, ◌≢◌, ◌∙◌, ◌+◌, ◌-◌, ◌≤◌, ◌<◌, ◌++◌, ◌⊎◌, ℕ, zero, suc, true, false, List, [], ◌∷◌, Option, Some, None, length, take, cond, refl, sym, ap, subst, inl, inr, arith, append-nil, eq-eqb, ne_eqb}
use Rattle.std.specs.Prelude.{◌==◌, nat_lt, if◌then◌else◌}
use Rattle.std.specs.List.{range_with_len, list_any, filter_map, cons_option}
use Rattle.std.proofs.lemmas.Bool.{lt-ltb}
use Rattle.std.proofs.lemmas.Bool.Decides.{nat_tests}
use Rattle.std.proofs.lemmas.List.{map-append}
use Rattle.std.proofs.lemmas.List.FromFn.{length-range_with_len}
use Rattle.base_words.specs.Lists.{Has, Once}
use Rattle.base_words.proofs.Listing.{once_first, has_first}
use Rattle.fx_quota.specs.declared.types.Row.{Row}
use Rattle.plain_rules.specs.Changes.{with_row}
use Rattle.vol_parts.specs.Catalogues.{quota_row, rows_sorted}
use Rattle.vol_parts.proofs.Ranges.{filter_map-more}
use Rattle.vol_init.specs.Layouts.{system_owner}
use Rattle.vol_spell.proofs.Placing.{has_ranged}
use Rattle.vol_spell.proofs.RowNewLists.{before, behind, given_without, given_with, given_fewer, given_all, sorted-more, once-more}
use Rattle.vol_sound.specs.Begun.{system_row, with_system_row}
use Rattle.vol_repair.proofs.RowFirsts.{owners, any_owner, not_any}

pub given_same : {X Y : Type 0} (h k : X → Option Y) (xs : List X) → ((x : X) → Has xs x → k x ≡ h x) → filter_map k xs ≡ filter_map h xs
given_same h k [] same = refl
given_same h k (x ∷ xs) same = ap (λ o. cons_option o (filter_map k xs)) (same x (inl refl)) ∙ ap (cons_option (h x)) (given_same h k xs (λ y t. same y (inr t)))

take_front : (xs ys : List Row) (j : ℕ) → length xs ≡ j → take j (xs ++ ys) ≡ xs
take_front [] ys zero e = refl
take_front [] ys (suc j) e = absurd (omega (arith, e))
take_front (x ∷ xs) ys zero e = absurd (omega (arith, e))
take_front (x ∷ xs) ys (suc j) e = ap (λ zs. x ∷ zs) (take_front xs ys j (omega (arith, e)))

owners_joined : (xs ys : List Row) → owners (xs ++ ys) ≡ owners xs ++ owners ys
owners_joined xs ys = map-append (λ (r : Row). r.uic) xs ys

-- rows that have one of [1,1] need no more
pub system_there : (most : ℕ) (rs : List Row) → list_any (λ n. n == system_owner) (owners rs) ≡ true → with_system_row most rs ≡ rs
system_there most rs e = ap (λ t. cond t rs (system_row ∷ cond (nat_lt (length rs) most) rs (take (most - 1) rs))) (sym (any_owner system_owner rs) ∙ e)

-- the rows in order are those that a repair begins with, and no owner has two
pub record IsSystemMade (most : ℕ) (old new : List Row) : Type 0 where
  pub sorted : rows_sorted new ≡ rows_sorted (with_system_row most old)
  pub once : Once (owners new)

-- Of so many rows the one of number j becomes that of [1,1], who had none.
module _ (h k : ℕ → Option Row) (n j : ℕ) (lt : j < n) (set : (i : ℕ) → k i ≡ (if i == j then Some system_row else h i))
    (none : list_any (λ u. u == system_owner) (owners (filter_map h (range_with_len 0 n))) ≡ false) (one : Once (owners (filter_map h (range_with_len 0 n)))) where
  abbrev old : List Row
  old = filter_map h (range_with_len 0 n)

  abbrev new : List Row
  new = filter_map k (range_with_len 0 n)

  here : k j ≡ Some system_row
  here = set j ∙ ap (λ t. cond t (Some system_row) (h j)) (eq-eqb j j refl)

  elsewhere : (i : ℕ) → i ≢ j → k i ≡ h i
  elsewhere i ne = set i ∙ ap (λ t. cond t (Some system_row) (h i)) (ne_eqb i j ne)

  away : Has (owners old) system_owner → ⊥
  away = not_any system_owner old none

  with_one : with_system_row n old ≡ system_row ∷ cond (nat_lt (length old) n) old (take (n - 1) old)
  with_one = ap (λ t. cond t old (system_row ∷ cond (nat_lt (length old) n) old (take (n - 1) old))) (sym (any_owner system_owner old) ∙ none)

  -- ---- where the row was not active

  free_made : h j ≡ None → IsSystemMade n old new
  free_made free =
      let front = before h n j lt free in
      let back = behind h n j lt free in
      let was : old ≡ front ++ back = given_without h n j lt free in
      let is : new ≡ front ++ system_row ∷ back = given_with h n j lt free k system_row here elsewhere in
      let apart : Has (owners (front ++ back)) system_owner → ⊥ = subst (λ (rs : List Row). Has (owners rs) system_owner → ⊥) was away in
      let room : nat_lt (length old) n ≡ true = lt-ltb (length old) n (given_fewer h n j lt free) in
      let more : with_system_row n old ≡ system_row ∷ old = with_one ∙ ap (λ t. system_row ∷ cond t old (take (n - 1) old)) room in
      record {
        sorted = ap rows_sorted is ∙ sorted-more system_row front back apart ∙ ap (λ rs. with_row (quota_row system_row) (rows_sorted rs)) (sym was) ∙ ap rows_sorted (sym more);
        once = subst (λ (rs : List Row). Once (owners rs)) (sym is) (once-more system_row front back apart (subst (λ (rs : List Row). Once (owners rs)) was one));
      }

  -- ---- where each row is active, and it is the last one

  module _ (last : j + 1 ≡ n) (each : (i : ℕ) → i < n → h i ≡ None → ⊥) where
    abbrev front : List Row
    front = filter_map h (range_with_len 0 j)

    abbrev end : List Row
    end = cons_option (h j) []

    was : old ≡ front ++ end
    was = ap (λ m. filter_map h (range_with_len 0 m)) (sym last) ∙ filter_map-more h j

    is : new ≡ front ++ system_row ∷ []
    is =
        ap (λ m. filter_map k (range_with_len 0 m)) (sym last) ∙ filter_map-more k j ∙ ap (λ o. filter_map k (range_with_len 0 j) ++ cons_option o []) here
        ∙ ap (λ rs. rs ++ system_row ∷ []) (given_same h k (range_with_len 0 j) (λ i t. elsewhere i (let w = (has_ranged 0 j i t).1 in omega arith)))

    long : (m : ℕ) → m ≤ n → length (filter_map h (range_with_len 0 m)) ≡ m
    long m few = given_all h (range_with_len 0 m) (λ i t. each i (let w = (has_ranged 0 m i t).1 in omega arith)) ∙ length-range_with_len 0 m

    full : nat_lt (length old) n ≡ false
    full = let all = long n (omega arith) in grind (arith, nat_tests)

    less : take (n - 1) old ≡ front
    less =
        let e : n - 1 ≡ j = omega arith in
        ap (λ m. take m old) e ∙ ap (take j) was ∙ take_front front end j (long j (omega arith))

    most : with_system_row n old ≡ system_row ∷ front
    most = with_one ∙ ap (λ t. system_row ∷ cond t old (take (n - 1) old)) full ∙ ap (λ rs. system_row ∷ rs) less

    one_less : Once (owners front)
    one_less = once_first (owners front) (owners end) (subst Once (ap owners was ∙ owners_joined front end) one)

    apart : Has (owners (front ++ [])) system_owner → ⊥
    apart t = away (subst (λ (ns : List ℕ). Has ns system_owner) (sym (ap owners was ∙ owners_joined front end)) (has_first (owners front) (owners end) system_owner (subst (λ (rs : List Row). Has (owners rs) system_owner) (append-nil front) t)))

    full_made : IsSystemMade n old new
    full_made = record {
      sorted = ap rows_sorted is ∙ sorted-more system_row front [] apart ∙ ap (λ rs. with_row (quota_row system_row) (rows_sorted rs)) (append-nil front) ∙ ap rows_sorted (sym most);
      once = subst (λ (rs : List Row). Once (owners rs)) (sym is) (once-more system_row front [] apart (subst (λ (rs : List Row). Once (owners rs)) (sym (append-nil front)) one_less));
    }

  pub system_made : (h j ≡ None) ⊎ ((j + 1 ≡ n) × ((i : ℕ) → i < n → h i ≡ None → ⊥)) → IsSystemMade n old new
  system_made (inl free) = free_made free
  system_made (inr w) = full_made w.0 w.1
