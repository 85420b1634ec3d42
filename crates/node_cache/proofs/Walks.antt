-- Lists of locks, and parts of them.
use Rattle.std.proofs.Common.{◌≡◌, ◌∙◌, ◌≤◌, ◌<◌, ◌+◌, ◌-◌, ◌||◌, ℕ, zero, suc, Bool, true, false, List, [], ◌∷◌, ◌++◌, length, map, take, drop, set, refl, sym, ap, arith}
use Rattle.std.specs.List.{list_any, slice_range}
use Rattle.std.proofs.lemmas.List.{take_all, take_more_set, take-append-le, length-append, length-take-le, length-drop, length-map, map-append}
use Rattle.lock_db.specs.declared.name.LockName.{LockName}
use Rattle.lock_db.specs.Names.{is_same}
use Rattle.node_cache.specs.Cached.{Cached, is_under}

-- one that is put behind those in use, where there is room
pub appended : (locks : List LockName) (len : ℕ) (lock : LockName) → len < 64 → length locks ≡ 64 → take (len + 1) (set locks len lock) ≡ take 64 (take len locks ++ lock ∷ [])
appended locks len lock h full =
    let short : length (take len locks) ≡ len = length-take-le len locks (omega (arith, full)) in
    let fits : length (take len locks ++ lock ∷ []) ≤ 64 = omega (arith, short, length-append (take len locks) (lock ∷ [])) in
    take_more_set locks len lock (omega (arith, full)) ∙ sym (take_all 64 (take len locks ++ lock ∷ []) fits)

-- and where there is none
pub not_appended : (locks : List LockName) (lock : LockName) → length locks ≡ 64 → take 64 locks ≡ take 64 (take 64 locks ++ lock ∷ [])
not_appended locks lock full =
    let all : take 64 locks ≡ locks = take_all 64 locks (omega (arith, full)) in
    rw all (sym all ∙ sym (take-append-le 64 locks (lock ∷ []) (omega (arith, full))))

any-behind : (p : LockName → Bool) (x : LockName) (xs : List LockName) → list_any p xs ≡ true → list_any p (x ∷ xs) ≡ true
any-behind p x xs h = elim (p x) as (λ b. (b || list_any p xs) ≡ true) [
  | true ↦ refl
  | false ↦ h
]

-- what is among some of them is among all
pub any-drop : (p : LockName → Bool) (n : ℕ) (xs : List LockName) → list_any p (drop n xs) ≡ true → list_any p xs ≡ true
any-drop p zero xs h = h
any-drop p (suc n) [] h = h
any-drop p (suc n) (x ∷ xs) h = any-behind p x xs (any-drop p n xs h)

pub any-take : (p : LockName → Bool) (n : ℕ) (xs : List LockName) → list_any p (take n xs) ≡ true → list_any p xs ≡ true
any-take p zero xs h = absurd cc
any-take p (suc n) [] h = h
any-take p (suc n) (x ∷ xs) h = (elim (p x) as (λ b. (b || list_any p (take n xs)) ≡ true → (b || list_any p xs) ≡ true) [
  | true ↦ λ t. refl
  | false ↦ λ t. any-take p n xs t
]) h

-- a place that is found in a part of them
pub near-found : (p : LockName → Bool) (xs : List LockName) (from to at : ℕ) → from ≤ to → to ≤ length xs → true ≡ list_any p (slice_range xs from to) → at < length (slice_range xs from to)
    → (from + at + 1 ≤ length xs) × (list_any p xs ≡ true)
near-found p xs from to at h k met within =
    let long : length (slice_range xs from to) ≡ to - from = length-take-le (to - from) (drop from xs) (omega (arith, length-drop from xs)) in
    (omega (arith, long), any-drop p from xs (any-take p (to - from) (drop from xs) (sym met)))

-- the locks of entries
abbrev pub locks_in : List Cached → List LockName
locks_in es = map (λ (e : Cached). e.lock) es

take-again : (n : ℕ) (xs ys : List LockName) → take n (take n xs ++ ys) ≡ take n (xs ++ ys)
take-again zero xs ys = refl
take-again (suc n) [] ys = refl
take-again (suc n) (x ∷ xs) ys = ap (λ l. x ∷ l) (take-again n xs ys)

-- one more of them
pub walked-push : (es : List Cached) (e : Cached) → take 64 (take 64 (locks_in es) ++ e.lock ∷ []) ≡ take 64 (locks_in (es ++ e ∷ []))
walked-push es e = take-again 64 (locks_in es) (e.lock ∷ []) ∙ ap (take 64) (sym (map-append (λ (x : Cached). x.lock) es (e ∷ [])))

-- all of them, where they are few
pub walked-all : (es : List Cached) → length es ≤ 64 → take 64 (locks_in es) ≡ locks_in es
walked-all es few = take_all 64 (locks_in es) (omega (arith, few, length-map es (λ (e : Cached). e.lock)))

-- a lock is among them where an entry is under it
pub any-locks_in : (lock : LockName) (es : List Cached) → list_any (is_same lock) (locks_in es) ≡ list_any (is_under lock) es
any-locks_in lock [] = refl
any-locks_in lock (e ∷ es) = ap (λ b. is_under lock e || b) (any-locks_in lock es)
