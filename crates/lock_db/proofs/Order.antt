-- The table in order of name.
use Rattle.std.proofs.Common.{◌≡◌, ◌<◌, ◌+◌, ◌||◌, ◌++◌, ℕ, zero, suc, Bool, true, false, not, List, [], ◌∷◌, Option, Some, None, filter, find, if◌then◌else◌, refl, arith, ap, sym, ◌∙◌, length, take, drop, get_or, unwrap_or, add-one, drop-cons, ltb, ◌≤◌, Result, Ok, Err, MatchResult}
use Rattle.std.specs.List.{list_all}
use Rattle.std.proofs.lemmas.List.{take-append-drop, append-nil, get_or_default}
use Rattle.std.proofs.lemmas.List.Elements.{filter-append}
use Rattle.std.specs.List.Sorted.{IsNonDecreasingBy, IsSearchInRange, IsBinarySearchResult}
use Rattle.std.specs.Ordering.{ordering_index}
use borrow.Author.Tests.{ltb-true, ltb-false}
use Rattle.std.specs.declared.cmp.Ordering.{Ordering}
use Rattle.std.specs.declared.cmp.Ordering.TheVariants.{Less, Equal, Greater}
use Rattle.lock_db.specs.declared.name.LockName.{LockName}
use Rattle.lock_db.specs.declared.resource.Resource.{Resource}
use Rattle.lock_db.specs.Names.{is_same, is_before, order_of}
use Rattle.lock_db.specs.Queues.{or_else}
use Rattle.lock_db.specs.Resources.{fresh, is_used}
use Rattle.lock_db.specs.Tables.{resource_at, kept, placed, IsAt, IsGap, is_ordered}
use Rattle.lock_db.proofs.Lists.{and-left, and-right, and-both, or-if_right, contrapositive, list_all-head, list_all-tail, list_all-weaker, list_all-every, list_all-passing, list_all-joined, filter-all, filter-none, find-absent, find-append, find-filter, list_all-parts, list_all-take, list_all-drop}
use Rattle.lock_db.proofs.Names.{is_same-refl, is_same-same, is_before-trans, is_before-not_same, is_after-not_same, is_before-not_after, is_before-other, is_before-itself}

abbrev pub before : LockName → Resource → Bool
before name r = is_before r.name name

abbrev pub after : LockName → Resource → Bool
after name r = is_before name r.name

abbrev pub same : LockName → Resource → Bool
same name r = is_same r.name name

ordered-head : (r : Resource) (t : List Resource) → is_ordered (r ∷ t) ≡ true → list_all (after r.name) t ≡ true
ordered-head r t e = and-left (list_all (after r.name) t) (is_ordered t) e

ordered-tail : (r : Resource) (t : List Resource) → is_ordered (r ∷ t) ≡ true → is_ordered t ≡ true
ordered-tail r t e = and-right (list_all (after r.name) t) (is_ordered t) e

-- what comes after a name comes neither before it nor at it
after-not_before : (name : LockName) (t : List Resource) → list_all (after name) t ≡ true → list_all (λ r. not (before name r)) t ≡ true
after-not_before name t e = list_all-weaker (after name) (λ r. not (before name r)) t (λ r h. rw (is_before-not_after name r.name h) refl) e

after-not_same : (name : LockName) (t : List Resource) → list_all (after name) t ≡ true → list_all (λ r. not (same name r)) t ≡ true
after-not_same name t e = list_all-weaker (after name) (λ r. not (same name r)) t (λ r h. rw (is_after-not_same name r.name h) refl) e

before-not_same : (name : LockName) (t : List Resource) → list_all (before name) t ≡ true → list_all (λ r. not (same name r)) t ≡ true
before-not_same name t e = list_all-weaker (before name) (λ r. not (same name r)) t (λ r h. rw (is_before-not_same r.name name h) refl) e

pub drop-cons_more : (t : List Resource) (i : ℕ) (d : Resource) → i < length t → drop i t ≡ get_or t i d ∷ drop (i + 1) t
drop-cons_more t i d l = rw add-one (drop-cons t i d l)

-- around a resource: what stands in front of it comes before it, and what stands behind it comes after it
ordered-front : (xs ys : List Resource) (x : Resource) → is_ordered (xs ++ (x ∷ ys)) ≡ true → list_all (before x.name) xs ≡ true
ordered-front [] ys x e = refl
ordered-front (y ∷ xs) ys x e =
    let all = list_all-parts (after y.name) xs (x ∷ ys) (ordered-head y (xs ++ (x ∷ ys)) e) in
    and-both (before x.name y) (list_all (before x.name) xs) (list_all-head (after y.name) x ys all.1) (ordered-front xs ys x (ordered-tail y (xs ++ (x ∷ ys)) e))

ordered-back : (xs ys : List Resource) (x : Resource) → is_ordered (xs ++ (x ∷ ys)) ≡ true → list_all (after x.name) ys ≡ true
ordered-back [] ys x e = ordered-head x ys e
ordered-back (y ∷ xs) ys x e = ordered-back xs ys x (ordered-tail y (xs ++ (x ∷ ys)) e)

before-not_after : (name : LockName) (t : List Resource) → list_all (before name) t ≡ true → list_all (λ r. not (after name r)) t ≡ true
before-not_after name t e = list_all-weaker (before name) (λ r. not (after name r)) t (λ r h. rw (is_before-not_after r.name name h) refl) e

-- a table around the place of a name
filter-before : (name : LockName) (xs ys : List Resource) → list_all (before name) xs ≡ true → list_all (λ r. not (before name r)) ys ≡ true → filter (before name) (xs ++ ys) ≡ xs
filter-before name xs ys e f = filter-append (before name) xs ys ∙ rw (filter-all (before name) xs e, filter-none (before name) ys f) (append-nil xs)

filter-after : (name : LockName) (xs ys : List Resource) → list_all (λ r. not (after name r)) xs ≡ true → list_all (after name) ys ≡ true → filter (after name) (xs ++ ys) ≡ ys
filter-after name xs ys e f = filter-append (after name) xs ys ∙ rw (filter-none (after name) xs e, filter-all (after name) ys f) refl

-- where a resource of the name stands, and what putting another in its place gives
pub record StandsAt (name : LockName) (t : List Resource) (i : ℕ) : Type 0 where
  pub here : (d : Resource) → find (same name) t ≡ Some (get_or t i d)
  pub instead : (r : Resource) → r.name ≡ name → placed r t ≡ take i t ++ (kept r ++ drop (i + 1) t)

pub IsAt-stands : (name : LockName) (t : List Resource) (i : ℕ) → is_ordered t ≡ true → IsAt name t i → StandsAt name t i
IsAt-stands name t i o a =
    let d : Resource = fresh name in
    let x : Resource = get_or t i d in
    let xs : List Resource = take i t in
    let ys : List Resource = drop (i + 1) t in
    let parts : t ≡ xs ++ (x ∷ ys) = sym (take-append-drop i t) ∙ ap (λ u. xs ++ u) (drop-cons_more t i d a.within) in
    let named : x.name ≡ name = a.named d in
    let ordered : is_ordered (xs ++ (x ∷ ys)) ≡ true = rw (← parts) o in
    let front : list_all (before name) xs ≡ true = rw named at (ordered-front xs ys x ordered) in
    let back : list_all (after name) ys ≡ true = rw named at (ordered-back xs ys x ordered) in
    let first : before name x ≡ false = rw named (is_before-itself name) in
    let last : after name x ≡ false = rw named (is_before-itself name) in
    let itself : same name x ≡ true = rw named (is_same-refl name) in
    record {
      here = λ e.
          let found : find (same name) (xs ++ (x ∷ ys)) ≡ Some x = find-append (same name) xs (x ∷ ys) ∙ rw (find-absent (same name) xs (before-not_same name xs front), itself) refl in
          ap (find (same name)) parts ∙ found ∙ ap Some (get_or_default t i d e a.within);
      instead = λ r n.
          let ahead : filter (before name) t ≡ xs = ap (filter (before name)) parts ∙ filter-before name xs (x ∷ ys) front (and-both (not (before name x)) _ (rw first refl) (after-not_before name ys back)) in
          let beyond : filter (after name) t ≡ ys =
          ap (filter (after name)) parts ∙ filter-append (after name) xs (x ∷ ys) ∙ rw (filter-none (after name) xs (before-not_after name xs front), last, filter-all (after name) ys back) refl in
          rw (n, ahead, beyond) refl;
    }

-- where none stands, and what putting one there gives
pub record StandsNot (name : LockName) (t : List Resource) (i : ℕ) : Type 0 where
  pub none : find (same name) t ≡ None
  pub new : (r : Resource) → r.name ≡ name → placed r t ≡ take i t ++ (kept r ++ drop i t)

pub IsGap-stands : (name : LockName) (t : List Resource) (i : ℕ) → IsGap name t i → StandsNot name t i
IsGap-stands name t i g =
    let xs : List Resource = take i t in
    let ys : List Resource = drop i t in
    let parts : t ≡ xs ++ ys = sym (take-append-drop i t) in
    let front : list_all (before name) xs ≡ true = list_all-take (before name) t i g.within (fresh name) (λ j l. g.earlier j (fresh name) l) in
    let back : list_all (after name) ys ≡ true = list_all-drop (after name) t i (fresh name) (λ j l h. g.later j (fresh name) l h) in
    record {
      none = find-absent (same name) t (rw parts (list_all-joined (λ r. not (same name r)) xs ys (before-not_same name xs front) (after-not_same name ys back)));
      new = λ r n.
          let ahead : filter (before name) t ≡ xs = ap (filter (before name)) parts ∙ filter-before name xs ys front (after-not_before name ys back) in
          let beyond : filter (after name) t ≡ ys = ap (filter (after name)) parts ∙ filter-after name xs ys (before-not_after name xs front) back in
          rw (n, ahead, beyond) refl;
    }

order-equal : (a b : LockName) → order_of a b ≡ Equal → a ≡ b
order-equal a b e =
    (elim (is_before a b) as (λ x. (if x then Less else (if is_same a b then Equal else Greater)) ≡ Equal → a ≡ b) [
      | true ↦ λ g. cc
      | false ↦ (elim (is_same a b) as (λ x. is_same a b ≡ x → (if x then Equal else Greater) ≡ Equal → a ≡ b) [ true ↦ λ h g. is_same-same a b h | false ↦ λ h g. cc ]) refl
    ]) e

order-less : (a b : LockName) → order_of a b ≡ Less → is_before a b ≡ true
order-less a b e =
    (elim (is_before a b) as (λ x. (if x then Less else (if is_same a b then Equal else Greater)) ≡ Less → x ≡ true) [
      | true ↦ λ g. refl
      | false ↦ (elim (is_same a b) as (λ x. (if x then Equal else Greater) ≡ Less → false ≡ true) [ true ↦ λ g. cc | false ↦ λ g. cc ])
    ]) e

order-greater : (a b : LockName) → order_of a b ≡ Greater → is_before b a ≡ true
order-greater a b e =
    (elim (is_before a b) as (λ x. is_before a b ≡ x → (if x then Less else (if is_same a b then Equal else Greater)) ≡ Greater → is_before b a ≡ true) [
      | true ↦ λ h g. cc
      | false ↦ λ h. (elim (is_same a b) as (λ x. is_same a b ≡ x → (if x then Equal else Greater) ≡ Greater → is_before b a ≡ true) [ true ↦ λ k g. cc | false ↦ λ k g. is_before-other a b k h ]) refl
    ]) refl e

-- the order with one name rises along the table
order-later : (a name : LockName) → is_before name a ≡ true → order_of a name ≡ Greater
order-later a name h = rw (is_before-not_after name a h, is_after-not_same name a h) refl

index-le : (o : Ordering) → ordering_index o ≤ 2
index-le Less = omega arith
index-le Equal = omega arith
index-le Greater = omega arith

order-rises : (name : LockName) (a b : LockName) → is_before a b ≡ true → ordering_index (order_of a name) ≤ ordering_index (order_of b name)
order-rises name a b h =
    (elim (is_before a name) as (λ x. is_before a name ≡ x → ordering_index (if x then Less else (if is_same a name then Equal else Greater)) ≤ ordering_index (order_of b name)) [
      | true ↦ λ e. omega arith
      | false ↦ λ e.
          (elim (is_same a name) as (λ x. is_same a name ≡ x → ordering_index (if x then Equal else Greater) ≤ ordering_index (order_of b name)) [
            | true ↦ λ k. let here = is_same-same a name k in rw (order-later b name (rw here at h)) (omega arith)
            | false ↦ λ k. rw (order-later b name (is_before-trans name a b (is_before-other a name k e) h)) (omega arith)
          ]) refl
    ]) refl

list_all-at : (p : Resource → Bool) (t : List Resource) (k : ℕ) (d : Resource) → list_all p t ≡ true → k < length t → p (get_or t k d) ≡ true
list_all-at p [] k d e l = absurd (omega arith)
list_all-at p (r ∷ t) zero d e l = list_all-head p r t e
list_all-at p (r ∷ t) (suc k) d e l = list_all-at p t k d (list_all-tail p r t e) (omega arith)

ordered-places : (t : List Resource) (i j : ℕ) (d : Resource) → is_ordered t ≡ true → i < j → j < length t → is_before (get_or t i d).name (get_or t j d).name ≡ true
ordered-places [] i j d o l m = absurd (omega arith)
ordered-places (r ∷ t) i zero d o l m = absurd (omega arith)
ordered-places (r ∷ t) zero (suc j) d o l m = list_all-at (after r.name) t j d (ordered-head r t o) (omega arith)
ordered-places (r ∷ t) (suc i) (suc j) d o l m = ordered-places t i j d (ordered-tail r t o) (omega arith) (omega arith)

order_index-rises : (name : LockName) (t : List Resource) → is_ordered t ≡ true → IsNonDecreasingBy (λ (r : Resource). ordering_index (order_of r.name name)) t
order_index-rises name t o i j d l m =
    (elim (ltb i j) as (λ b. ltb i j ≡ b → ordering_index (order_of (get_or t i d).name name) ≤ ordering_index (order_of (get_or t j d).name name)) [
      | true ↦ λ e. order-rises name (get_or t i d).name (get_or t j d).name (ordered-places t i j d o (ltb-true i j e) m)
      | false ↦ λ e. let same : i ≡ j = omega (arith, ltb-false i j e) in rw same (omega arith)
    ]) refl

pub searched : (name : LockName) (t : List Resource) (r : Result ℕ ℕ) → is_ordered t ≡ true → IsSearchInRange r (length t) → IsBinarySearchResult (λ (s : Resource). order_of s.name name) t r
    → MatchResult r (IsAt name t) (IsGap name t)
searched name t (Ok i) o b f = record { within = b; named = λ d. order-equal (get_or t i d).name name (f d) }
searched name t (Err i) o b f =
    let p = f (order_index-rises name t o) in
    record { within = b; earlier = λ j d l. order-less (get_or t j d).name name (p.0 j d (omega arith) l); later = λ j d l h. order-greater (get_or t j d).name name (p.1 j d l h) }

-- the resource of the name itself, after it is put in its place
abbrev pub vacated : Resource → Resource
vacated r = if is_used r then r else fresh r.name

pub placed-here : (r : Resource) (t : List Resource) → resource_at r.name (placed r t) ≡ vacated r
placed-here r t =
    let xs : List Resource = filter (before r.name) t in
    let ys : List Resource = filter (after r.name) t in
    let ahead : find (same r.name) xs ≡ None = find-absent (same r.name) xs (before-not_same r.name xs (list_all-passing (before r.name) t)) in
    let behind : find (same r.name) ys ≡ None = find-absent (same r.name) ys (after-not_same r.name ys (list_all-passing (after r.name) t)) in
    let itself = is_same-refl r.name in
    ap (λ o. unwrap_or o (fresh r.name)) (find-append (same r.name) xs (kept r ++ ys) ∙ ap (λ o. or_else o (find (same r.name) (kept r ++ ys))) ahead)
    ∙ (elim (is_used r) as (λ b. unwrap_or (find (same r.name) ((if b then r ∷ [] else []) ++ ys)) (fresh r.name) ≡ (if b then r else fresh r.name))
    [ true ↦ rw itself refl | false ↦ rw behind refl ])

or_else-last : {A : Type 0} (o : Option A) → or_else o None ≡ o
or_else-last None = refl
or_else-last (Some a) = refl

same-other : (name other : LockName) → is_same other name ≡ false → is_same name other ≡ false
same-other name other e = contrapositive (is_same name other) (is_same other name) (λ k. let h = is_same-same name other k in rw h (is_same-refl other)) e

-- a test that the name passes, each resource of that name passes
same-passes : (name : LockName) (p : Resource → Bool) (s : Resource) → (s.name ≡ name → p s ≡ true) → (p s || not (same name s)) ≡ true
same-passes name p s h =
    (elim (same name s) as (λ b. same name s ≡ b → (p s || not b) ≡ true)
    [ true ↦ λ k. rw (h (is_same-same s.name name k)) refl | false ↦ λ k. or-if_right (p s) true refl ]) refl

not-same_from : (name : LockName) (s : Resource) (p : Resource → Bool) → p s ≡ true → (s.name ≡ name → p s ≡ false) → not (same name s) ≡ true
not-same_from name s p g h =
    (elim (same name s) as (λ b. same name s ≡ b → not b ≡ true)
    [ true ↦ λ k. let f = h (is_same-same s.name name k) in cc | false ↦ λ k. refl ]) refl

-- no other name's resource is touched
pub placed-other : (name : LockName) (r : Resource) (t : List Resource) → is_same r.name name ≡ false → resource_at name (placed r t) ≡ resource_at name t
placed-other name r t n =
    let xs : List Resource = filter (before r.name) t in
    let ys : List Resource = filter (after r.name) t in
    let not_kept : find (same name) (kept r ++ ys) ≡ find (same name) ys =
    (elim (is_used r) as (λ b. find (same name) ((if b then r ∷ [] else []) ++ ys) ≡ find (same name) ys) [ true ↦ rw n refl | false ↦ refl ]) in
    let split : find (same name) (placed r t) ≡ or_else (find (same name) xs) (find (same name) ys) =
    find-append (same name) xs (kept r ++ ys) ∙ ap (or_else (find (same name) xs)) not_kept in
    let whole : find (same name) (placed r t) ≡ find (same name) t =
    (elim (is_before name r.name) as (λ b. is_before name r.name ≡ b → find (same name) (placed r t) ≡ find (same name) t) [
      | true ↦ λ h.
          let front : find (same name) xs ≡ find (same name) t = find-filter (same name) (before r.name) t (list_all-every (λ s. before r.name s || not (same name s)) t (λ s. same-passes name (before r.name) s (λ k. rw k h))) in
          let back : find (same name) ys ≡ None = find-absent (same name) ys (list_all-weaker (after r.name) (λ s. not (same name s)) ys (λ s g. not-same_from name s (after r.name) g (λ k. rw k (is_before-not_after name r.name h))) (list_all-passing (after r.name) t)) in
          split ∙ rw (front, back) (or_else-last (find (same name) t))
      | false ↦ λ h.
          let later : is_before r.name name ≡ true = is_before-other name r.name (same-other name r.name n) h in
          let front : find (same name) xs ≡ None = find-absent (same name) xs (list_all-weaker (before r.name) (λ s. not (same name s)) xs (λ s g. not-same_from name s (before r.name) g (λ k. rw k h)) (list_all-passing (before r.name) t)) in
          let back : find (same name) ys ≡ find (same name) t = find-filter (same name) (after r.name) t (list_all-every (λ s. after r.name s || not (same name s)) t (λ s. same-passes name (after r.name) s (λ k. rw k later))) in
          split ∙ rw (front, back) refl
    ]) refl in
    ap (λ o. unwrap_or o (fresh name)) whole
