-- The locks of entries, each once.
use Rattle.std.proofs.Common.{◌≡◌, ◌∙◌, ◌||◌, Bool, true, false, List, [], ◌∷◌, ◌++◌, filter, not, if◌then◌else◌, refl, ap, append-nil, arith}
use Rattle.std.specs.List.{IsDistinct, AllByRecursion, list_any}
use Rattle.std.proofs.lemmas.Map.Keys.{IsDistinct-head, IsDistinct-tail, IsDistinct-cons}
use Rattle.std.proofs.lemmas.List.Elements.{filter-append}
use Rattle.lock_db.specs.declared.name.LockName.{LockName}
use Rattle.lock_db.specs.Names.{is_same}
use Rattle.node_cache.specs.Cached.{Cached, is_under, locks_of, joined}

-- a filter that keeps all that pass a test finds one where there is one
any-filter : (p q : LockName → Bool) → ((l : LockName) → q l ≡ true → p l ≡ true) → (ls : List LockName) → list_any q (filter p ls) ≡ list_any q ls
any-filter p q keeps [] = refl
any-filter p q keeps (l ∷ ls) = (elim (p l) as (λ b. p l ≡ b → list_any q (if b then l ∷ filter p ls else filter p ls) ≡ (q l || list_any q ls)) [
  | true ↦ λ t. ap (λ b. q l || b) (any-filter p q keeps ls)
  | false ↦ λ t. (elim (q l) as (λ b. q l ≡ b → list_any q (filter p ls) ≡ (b || list_any q ls)) [
    | true ↦ λ u. let k = keeps l u in absurd cc
    | false ↦ λ u. any-filter p q keeps ls
  ]) refl
]) refl

same-along : (a b c : LockName) → is_same a c ≡ false → is_same b c ≡ true → not (is_same a b) ≡ true
same-along a b c other same = grind arith

-- one more entry, whose lock joins those before it
pub locks_of-push : (es : List Cached) (e : Cached) → locks_of (es ++ e ∷ []) ≡ joined e.lock (locks_of es)
locks_of-push [] e = refl
locks_of-push (x ∷ es) e =
    let other : LockName → Bool = λ l. not (is_same x.lock l) in
    let found : LockName → Bool = λ l. is_same l e.lock in
    let ls = locks_of es in
    ap (λ l. x.lock ∷ filter other l) (locks_of-push es e)
    ∙ (elim (is_same x.lock e.lock) as (λ b. is_same x.lock e.lock ≡ b → x.lock ∷ filter other (if list_any found ls then ls else ls ++ e.lock ∷ []) ≡ (if b || list_any found (filter other ls) then x.lock ∷ filter other ls else x.lock ∷ (filter other ls ++ e.lock ∷ []))) [
      | true ↦ λ t. elim (list_any found ls) as (λ b. x.lock ∷ filter other (if b then ls else ls ++ e.lock ∷ []) ≡ x.lock ∷ filter other ls) [
        | true ↦ refl
        | false ↦ ap (λ l. x.lock ∷ l) (filter-append other ls (e.lock ∷ []) ∙ rw t (append-nil (filter other ls)))
      ]
      | false ↦ λ t. rw (any-filter other found (λ l u. same-along x.lock l e.lock t u) ls) (elim (list_any found ls) as (λ b. x.lock ∷ filter other (if b then ls else ls ++ e.lock ∷ []) ≡ (if b then x.lock ∷ filter other ls else x.lock ∷ (filter other ls ++ e.lock ∷ []))) [
        | true ↦ refl
        | false ↦ ap (λ l. x.lock ∷ l) (filter-append other ls (e.lock ∷ []) ∙ rw t refl)
      ])
    ]) refl

fresh-filter : (p : LockName → Bool) (l : LockName) (ls : List LockName) → AllByRecursion (λ k. is_same l k ≡ false) ls → AllByRecursion (λ k. is_same l k ≡ false) (filter p ls)
fresh-filter p l [] h = h
fresh-filter p l (k ∷ ls) h = elim (p k) as (λ b. AllByRecursion (λ m. is_same l m ≡ false) (if b then k ∷ filter p ls else filter p ls)) [
  | true ↦ (h.0, fresh-filter p l ls h.1)
  | false ↦ fresh-filter p l ls h.1
]

distinct-filter : (p : LockName → Bool) (ls : List LockName) → IsDistinct is_same ls → IsDistinct is_same (filter p ls)
distinct-filter p [] h = h
distinct-filter p (l ∷ ls) h = elim (p l) as (λ b. IsDistinct is_same (if b then l ∷ filter p ls else filter p ls)) [
  | true ↦ IsDistinct-cons is_same l (filter p ls) (fresh-filter p l ls (IsDistinct-head is_same l ls h)) (distinct-filter p ls (IsDistinct-tail is_same l ls h))
  | false ↦ distinct-filter p ls (IsDistinct-tail is_same l ls h)
]

fresh-others : (l : LockName) (ls : List LockName) → AllByRecursion (λ k. is_same l k ≡ false) (filter (λ k. not (is_same l k)) ls)
fresh-others l [] = tt
fresh-others l (k ∷ ls) = (elim (is_same l k) as (λ b. is_same l k ≡ b → AllByRecursion (λ m. is_same l m ≡ false) (if not b then k ∷ filter (λ m. not (is_same l m)) ls else filter (λ m. not (is_same l m)) ls)) [
  | true ↦ λ t. fresh-others l ls
  | false ↦ λ t. (t, fresh-others l ls)
]) refl

pub distinct-nil : IsDistinct is_same []
unfolding IsDistinct
distinct-nil = tt

-- no lock comes twice
pub distinct-locks_of : (es : List Cached) → IsDistinct is_same (locks_of es)
distinct-locks_of [] = distinct-nil
distinct-locks_of (e ∷ es) =
    let other : LockName → Bool = λ l. not (is_same e.lock l) in
    IsDistinct-cons is_same e.lock (filter other (locks_of es)) (fresh-others e.lock (locks_of es)) (distinct-filter other (locks_of es) (distinct-locks_of es))

not-along : (lock a b : LockName) → is_same lock a ≡ false → is_same lock b ≡ true → not (is_same a b) ≡ true
not-along lock a b other same = grind arith

-- a lock is listed where an entry is under it
pub any-locks_of : (lock : LockName) (es : List Cached) → list_any (is_same lock) (locks_of es) ≡ list_any (is_under lock) es
any-locks_of lock [] = refl
any-locks_of lock (e ∷ es) = (elim (is_same lock e.lock) as (λ b. is_same lock e.lock ≡ b → (b || list_any (is_same lock) (filter (λ l. not (is_same e.lock l)) (locks_of es))) ≡ (b || list_any (is_under lock) es)) [
  | true ↦ λ t. refl
  | false ↦ λ t. any-filter (λ l. not (is_same e.lock l)) (is_same lock) (λ l u. not-along lock e.lock l t u) (locks_of es) ∙ any-locks_of lock es
]) refl
