-- Places in lists, and lists that grow by one.
use Rattle.std.proofs.Common.{◌≡◌, ◌<◌, ◌≤◌, ◌+◌, ◌++◌, ℕ, zero, suc, nat_lt, Bool, true, false, List, [], ◌∷◌, Some, None, take, length, get_or, refl, arith, cond, ap, sym, ◌∙◌}
use Rattle.std.specs.List.{range_with_len, position, position_or_len, insert}
use Rattle.std.proofs.lemmas.List.Quantifiers.{position-Some}
use Rattle.std.proofs.lemmas.List.Sums.{fails_before_first}
use Rattle.lock_db.specs.declared.resource.Resource.{Resource}
use Rattle.dlm_core.specs.declared.homes.Home.{Home}
use Rattle.dlm_core.specs.States.{put_before}
use Rattle.dlm_core.specs.Deaths.{bereft_table, bereft_tables}

not-lt : (a b : ℕ) → nat_lt a b ≡ false → b ≤ a
not-lt a b e = grind arith

module _ {X : Type 0} where
  put-at : (p : X → Bool) (x : X) (xs : List X) (i : ℕ) (d : X) → i < length xs → p (get_or xs i d) ≡ true → ((k : ℕ) → k < i → p (get_or xs k d) ≡ false) → insert xs i x ≡ put_before p x xs
  put-at p x [] i d l t f = absurd (omega arith)
  put-at p x (k ∷ ks) zero d l t f = rw t refl
  put-at p x (k ∷ ks) (suc i) d l t f =
      let first : p k ≡ false = f 0 (omega arith) in
      rw first (ap (λ (ys : List X). k ∷ ys) (put-at p x ks i d (omega arith) t (λ j m. f (suc j) (omega arith))))

  pub put_some : (p : X → Bool) (x : X) (xs : List X) (i : ℕ) → position p xs ≡ Some i → insert xs i x ≡ put_before p x xs
  put_some p x xs i e = let s = position-Some p xs i x e in put-at p x xs i x s.0 s.1 s.2

  none-passes : (p : X → Bool) (x : X) (xs : List X) → position p xs ≡ None → (k : ℕ) → k < length xs → p (get_or xs k x) ≡ false
  none-passes p x xs e k l =
      (elim (nat_lt (position_or_len p xs) (length xs)) as (λ b. nat_lt (position_or_len p xs) (length xs) ≡ b → cond b (Some (position_or_len p xs)) None ≡ None → p (get_or xs k x) ≡ false) [
        | true ↦ λ f g. cc
        | false ↦ λ f g. let past = not-lt (position_or_len p xs) (length xs) f in fails_before_first p xs k x (omega (arith, past, l))
      ]) refl e

  put-last : (p : X → Bool) (x d : X) (xs : List X) → ((k : ℕ) → k < length xs → p (get_or xs k d) ≡ false) → xs ++ (x ∷ []) ≡ put_before p x xs
  put-last p x d [] f = refl
  put-last p x d (k ∷ ks) f =
      let first : p k ≡ false = f 0 (omega arith) in
      rw first (ap (λ (ys : List X). k ∷ ys) (put-last p x d ks (λ j m. f (suc j) (omega arith))))

  pub put_none : (p : X → Bool) (x : X) (xs : List X) → position p xs ≡ None → xs ++ (x ∷ []) ≡ put_before p x xs
  put_none p x xs e = put-last p x x xs (none-passes p x xs e)

  pub take_full : (xs : List X) (i : ℕ) → length xs ≤ i → take i xs ≡ xs
  take_full [] zero l = refl
  take_full [] (suc i) l = refl
  take_full (x ∷ xs) zero l = absurd (omega arith)
  take_full (x ∷ xs) (suc i) l = ap (λ (ys : List X). x ∷ ys) (take_full xs i (omega arith))

pub range_more : (a n : ℕ) → range_with_len a (n + 1) ≡ range_with_len a n ++ (a + n) ∷ []
range_more a n = let e : n + 1 ≡ suc n = omega arith in rw e (range-more a n)
  where
    range-more : (a n : ℕ) → range_with_len a (suc n) ≡ range_with_len a n ++ (a + n) ∷ []
    range-more a zero = let e : a + 0 ≡ a = omega arith in rw e refl
    range-more a (suc n) = let e : (a + 1) + n ≡ a + suc n = omega arith in ap (λ (ys : List ℕ). a ∷ ys) (range-more (a + 1) n ∙ ap (λ (k : ℕ). range_with_len (a + 1) n ++ k ∷ []) e)

bereft-more : (d : ℕ) (hs : List Home) (ts : List (List Resource)) (i : ℕ) (h : Home) (t : List Resource) → i < length hs → i < length ts → h ≡ get_or hs i h → t ≡ get_or ts i t
    → bereft_tables d (take (suc i) hs) (take (suc i) ts) ≡ bereft_tables d (take i hs) (take i ts) ++ (bereft_table d h t ∷ [])
bereft-more d [] ts i h t a b e f = absurd (omega arith)
bereft-more d (k ∷ hs) [] i h t a b e f = absurd (omega arith)
bereft-more d (k ∷ hs) (u ∷ ts) zero h t a b e f = let x : h ≡ k = e in let y : t ≡ u = f in rw (x, y) refl
bereft-more d (k ∷ hs) (u ∷ ts) (suc i) h t a b e f = ap (λ (ys : List (List Resource)). bereft_table d k u ∷ ys) (bereft-more d hs ts i h t (omega arith) (omega arith) e f)

pub bereft_more : (d : ℕ) (hs : List Home) (ts : List (List Resource)) (i : ℕ) (h : Home) (t : List Resource) → i < length hs → i < length ts → h ≡ get_or hs i h → t ≡ get_or ts i t
    → bereft_tables d (take (i + 1) hs) (take (i + 1) ts) ≡ bereft_tables d (take i hs) (take i ts) ++ (bereft_table d h t ∷ [])
bereft_more d hs ts i h t a b e f = let k : i + 1 ≡ suc i = omega arith in rw k (bereft-more d hs ts i h t a b e f)

get-same : (hs : List Home) (i : ℕ) (d e : Home) → i < length hs → get_or hs i d ≡ get_or hs i e
get-same [] i d e l = absurd (omega arith)
get-same (h ∷ hs) zero d e l = refl
get-same (h ∷ hs) (suc i) d e l = get-same hs i d e (omega arith)

pub bereft_step : (d : ℕ) (hs : List Home) (ts : List (List Resource)) (i : ℕ) (e : Home) (t u : List Resource) (all new : List (List Resource)) → length hs ≡ length ts → i < length ts → t ≡ get_or ts i t → u ≡ bereft_table d (get_or hs i e) t
    → all ≡ bereft_tables d (take i hs) (take i ts) → new ≡ all ++ (u ∷ []) → new ≡ bereft_tables d (take (i + 1) hs) (take (i + 1) ts)
bereft_step d hs ts i e t u all new n l at is so far =
    let h : i < length hs = omega (arith, n, l) in
    far ∙ rw (is, so) (sym (bereft_more d hs ts i (get_or hs i e) t h l (get-same hs i e (get_or hs i e) h) at))

pub bereft_all : (d : ℕ) (hs : List Home) (ts : List (List Resource)) (i : ℕ) → length hs ≡ length ts → length ts ≤ i → bereft_tables d (take i hs) (take i ts) ≡ bereft_tables d hs ts
bereft_all d hs ts i e l = rw (take_full hs i (omega (arith, e, l)), take_full ts i l) refl
