-- Rows of locks: the names in them, and what a row more or less makes of them.
use Rattle.std.proofs.Common.{◌≡◌, ◌≢◌, ◌⊎◌, ℕ, zero, suc, true, false, not, List, [], ◌∷◌, ◌++◌, Some, None, slice_get, refl, cond, ap, sym, subst, ◌∙◌, inl, inr}
use Rattle.std.specs.List.{AllByRecursion}
use Rattle.std.proofs.lemmas.List.{map-append}
use Rattle.plain_cat.specs.declared.mode.Mode.{Mode}
use Rattle.lock_db.specs.declared.name.LockName.{LockName}
use Rattle.lock_db.specs.declared.resource.Resource.{Resource}
use Rattle.lock_db.specs.Names.{is_same}
use Rattle.lock_db.specs.Laws.{stands_at}
use Rattle.lock_db.proofs.Names.{is_same-refl, is_same-same}
use Rattle.base_words.specs.Lists.{Has, Once, AreApart}
use Rattle.base_words.proofs.Listing.{has_parted, has_first, has_second, once_in_a_row, once_first, once_second, once_apart}
use Rattle.node_locks.specs.Held.{system_of, Row, joined, names_of, IsGranted, IsWaiting, StandInOrder, HoldsItsLocks, without, taken_out, put_in}
use Rattle.node_locks.proofs.Standing.{AllGranted, AlikeAt, ComesTo, comes-in_order, named-first, in_order-rest, alike-in_order, in_order-push}

-- the names of all rows
abbrev pub all_names : List Row → List LockName
all_names rows = names_of (joined rows)

names-append : (ls ms : Row) → names_of (ls ++ ms) ≡ names_of ls ++ names_of ms
names-append ls ms = map-append (λ (k : LockName × Mode). k.0) ls ms

-- ---- a row without a name

is_same-not : (a b : LockName) → a ≢ b → is_same a b ≡ false
is_same-not a b ne = (elim (is_same a b) as (λ v. is_same a b ≡ v → v ≡ false) [ true ↦ λ e. absurd (ne (is_same-same a b e)) | false ↦ λ e. refl ]) refl

is_same-yes : (a b : LockName) → a ≡ b → is_same a b ≡ true
is_same-yes a b e = rw e (is_same-refl b)

pub without-names : (name : LockName) (ls : Row) (x : LockName) → Has (names_of (without name ls)) x → Has (names_of ls) x × (x ≢ name)
without-names name [] x h = absurd h
without-names name (l ∷ ls) x h =
    (elim (is_same l.0 name) as (λ b. is_same l.0 name ≡ b → Has (names_of (cond (not b) (l ∷ without name ls) (without name ls))) x → Has (names_of (l ∷ ls)) x × (x ≢ name)) [
      | true ↦ λ e k. let r = without-names name ls x k in (inr r.0, r.1)
      | false ↦ λ e k. elim k [
        | inl same ↦ (inl same, (λ f. let y : is_same l.0 name ≡ true = is_same-yes l.0 name (same ∙ f) in cc))
        | inr i ↦ let r = without-names name ls x i in (inr r.0, r.1)
      ]
    ]) refl h

pub without-stays : (name : LockName) (ls : Row) (x : LockName) → Has (names_of ls) x → x ≢ name → Has (names_of (without name ls)) x
without-stays name [] x h ne = h
without-stays name (l ∷ ls) x h ne =
    (elim (is_same l.0 name) as (λ b. is_same l.0 name ≡ b → Has (names_of (cond (not b) (l ∷ without name ls) (without name ls))) x) [
      | true ↦ λ e. elim h [ inl same ↦ absurd (ne (sym same ∙ is_same-same l.0 name e)) | inr i ↦ without-stays name ls x i ne ]
      | false ↦ λ e. elim h [ inl same ↦ inl same | inr i ↦ inr (without-stays name ls x i ne) ]
    ]) refl

without-once : (name : LockName) (ls : Row) → Once (names_of ls) → Once (names_of (without name ls))
without-once name [] o = tt
without-once name (l ∷ ls) o =
    let rest : Once (names_of (without name ls)) = without-once name ls o.1 in
    (elim (is_same l.0 name) as (λ b. Once (names_of (cond (not b) (l ∷ without name ls) (without name ls))))
    [ true ↦ rest | false ↦ ((λ i. o.0 (without-names name ls l.0 i).0), rest) ])

pub without-absent : (name : LockName) (ls : Row) → (Has (names_of ls) name → ⊥) → without name ls ≡ ls
without-absent name [] f = refl
without-absent name (l ∷ ls) f =
    let rest : without name ls ≡ ls = without-absent name ls (λ i. f (inr i)) in
    let ne : is_same l.0 name ≡ false = is_same-not l.0 name (λ e. f (inl e)) in
    rw ne (ap (λ (ys : Row). l ∷ ys) rest)

pub without-first : (l : LockName × Mode) (ls : Row) → Once (names_of (l ∷ ls)) → without l.0 (l ∷ ls) ≡ ls
without-first l ls o = let yes : is_same l.0 l.0 ≡ true = is_same-refl l.0 in rw yes (without-absent l.0 ls o.0)

-- a lock in front of a row
order-cons : (t : List Resource) (n : ℕ) (l : LockName × Mode) (ls ms : Row) → StandInOrder t n (l ∷ ls) → (ls ≡ [] → ms ≡ []) → StandInOrder t n ms → StandInOrder t n (l ∷ ms)
order-cons t n l ls [] s e r = named-first t n l ls s
order-cons t n l [] (m ∷ ms) s e r = let k : m ∷ ms ≡ [] = e refl in cc
order-cons t n l (k ∷ ls) (m ∷ ms) s e r = (s.0, r)

order-without : (t : List Resource) (n : ℕ) (name : LockName) (ls : Row) → StandInOrder t n ls → StandInOrder t n (without name ls)
order-without t n name [] s = tt
order-without t n name (l ∷ ls) s =
    let rest : StandInOrder t n (without name ls) = order-without t n name ls (in_order-rest t n l ls s) in
    (elim (is_same l.0 name) as (λ b. StandInOrder t n (cond (not b) (l ∷ without name ls) (without name ls)))
    [ true ↦ rest | false ↦ order-cons t n l ls (without name ls) s (λ e. ap (without name) e) rest ])

pub granted-without : (t : List Resource) (n : ℕ) (name : LockName) (ls : Row) → AllGranted t n ls → AllGranted t n (without name ls)
granted-without t n name [] g = tt
granted-without t n name (l ∷ ls) g =
    let rest : AllGranted t n (without name ls) = granted-without t n name ls g.1 in
    (elim (is_same l.0 name) as (λ b. AllGranted t n (cond (not b) (l ∷ without name ls) (without name ls))) [ true ↦ rest | false ↦ (g.0, rest) ])

-- ---- rows, and a place among them

-- the names of a row and of those behind it
pub split : (ls : Row) (rows : List Row) (x : LockName) → Has (all_names (ls ∷ rows)) x → Has (names_of ls) x ⊎ Has (all_names rows) x
split ls rows x h = has_parted (names_of ls) (all_names rows) x (subst (λ (xs : List LockName). Has xs x) (names-append ls (joined rows)) h)

front : (ls : Row) (rows : List Row) (x : LockName) → Has (names_of ls) x → Has (all_names (ls ∷ rows)) x
front ls rows x h = subst (λ (xs : List LockName). Has xs x) (sym (names-append ls (joined rows))) (has_first (names_of ls) (all_names rows) x h)

behind : (ls : Row) (rows : List Row) (x : LockName) → Has (all_names rows) x → Has (all_names (ls ∷ rows)) x
behind ls rows x h = subst (λ (xs : List LockName). Has xs x) (sym (names-append ls (joined rows))) (has_second (names_of ls) (all_names rows) x h)

pub once-parts : (ls : Row) (rows : List Row) → Once (all_names (ls ∷ rows)) → Once (names_of ls ++ all_names rows)
once-parts ls rows o = subst (λ (xs : List LockName). Once xs) (names-append ls (joined rows)) o

once-both : (ls : Row) (rows : List Row) → Once (names_of ls) → Once (all_names rows) → AreApart (names_of ls) (all_names rows) → Once (all_names (ls ∷ rows))
once-both ls rows a b apart = subst (λ (xs : List LockName). Once xs) (sym (names-append ls (joined rows))) (once_in_a_row (names_of ls) (all_names rows) a b apart)

pub row-in : (rows : List Row) (i : ℕ) (ls : Row) (x : LockName) → slice_get rows i ≡ Some ls → Has (names_of ls) x → Has (all_names rows) x
row-in [] i ls x at h = cc
row-in (r ∷ rows) zero ls x at h = let same : r ≡ ls = cc in front r rows x (subst (λ (k : Row). Has (names_of k) x) (sym same) h)
row-in (r ∷ rows) (suc i) ls x at h = behind r rows x (row-in rows i ls x at h)

-- two rows have no name in common
pub rows-apart : (rows : List Row) (i j : ℕ) (ls ms : Row) (x : LockName) → Once (all_names rows) → slice_get rows i ≡ Some ls → slice_get rows j ≡ Some ms → j ≢ i → Has (names_of ls) x → Has (names_of ms) x → ⊥
rows-apart [] i j ls ms x o a b ne h k = cc
rows-apart (r ∷ rows) zero zero ls ms x o a b ne h k = ne refl
rows-apart (r ∷ rows) zero (suc j) ls ms x o a b ne h k =
    let same : r ≡ ls = cc in
    once_apart (names_of r) (all_names rows) (once-parts r rows o) x (subst (λ (y : Row). Has (names_of y) x) (sym same) h) (row-in rows j ms x b k)
rows-apart (r ∷ rows) (suc i) zero ls ms x o a b ne h k =
    let same : r ≡ ms = cc in
    once_apart (names_of r) (all_names rows) (once-parts r rows o) x (subst (λ (y : Row). Has (names_of y) x) (sym same) k) (row-in rows i ls x a h)
rows-apart (r ∷ rows) (suc i) (suc j) ls ms x o a b ne h k = rows-apart rows i j ls ms x (once_second (names_of r) (all_names rows) (once-parts r rows o)) a b (λ e. ne (ap suc e)) h k

pub order-at : (t : List Resource) (n : ℕ) (rows : List Row) (i : ℕ) (ls : Row) → AllByRecursion (StandInOrder t n) rows → slice_get rows i ≡ Some ls → StandInOrder t n ls
order-at t n [] i ls s at = cc
order-at t n (r ∷ rows) zero ls s at = let same : r ≡ ls = cc in subst (StandInOrder t n) same s.0
order-at t n (r ∷ rows) (suc i) ls s at = order-at t n rows i ls s.1 at

-- by its being there
pub order-of : (t : List Resource) (n : ℕ) (rows : List Row) (ls : Row) → AllByRecursion (StandInOrder t n) rows → Has rows ls → StandInOrder t n ls
order-of t n [] ls s i = absurd i
order-of t n (r ∷ rows) ls s i = elim i [ inl e ↦ subst (StandInOrder t n) e s.0 | inr h ↦ order-of t n rows ls s.1 h ]

-- ---- a lock taken out

taken-names : (rows : List Row) (i : ℕ) (name x : LockName) → Has (all_names (taken_out i name rows)) x → Has (all_names rows) x
taken-names [] i name x h = h
taken-names (r ∷ rows) zero name x h = elim (split (without name r) rows x h) [ inl a ↦ front r rows x (without-names name r x a).0 | inr b ↦ behind r rows x b ]
taken-names (r ∷ rows) (suc i) name x h = elim (split r (taken_out i name rows) x h) [ inl a ↦ front r rows x a | inr b ↦ behind r rows x (taken-names rows i name x b) ]

taken-stays : (rows : List Row) (i : ℕ) (name x : LockName) → Has (all_names rows) x → x ≢ name → Has (all_names (taken_out i name rows)) x
taken-stays [] i name x h ne = h
taken-stays (r ∷ rows) zero name x h ne = elim (split r rows x h) [ inl a ↦ front (without name r) rows x (without-stays name r x a ne) | inr b ↦ behind (without name r) rows x b ]
taken-stays (r ∷ rows) (suc i) name x h ne = elim (split r rows x h) [ inl a ↦ front r (taken_out i name rows) x a | inr b ↦ behind r (taken_out i name rows) x (taken-stays rows i name x b ne) ]

taken-once : (rows : List Row) (i : ℕ) (name : LockName) → Once (all_names rows) → Once (all_names (taken_out i name rows))
taken-once [] i name o = o
taken-once (r ∷ rows) zero name o =
    let p = once-parts r rows o in
    once-both (without name r) rows (without-once name r (once_first (names_of r) (all_names rows) p)) (once_second (names_of r) (all_names rows) p)
    (λ x a b. once_apart (names_of r) (all_names rows) p x (without-names name r x a).0 b)
taken-once (r ∷ rows) (suc i) name o =
    let p = once-parts r rows o in
    once-both r (taken_out i name rows) (once_first (names_of r) (all_names rows) p) (taken-once rows i name (once_second (names_of r) (all_names rows) p))
    (λ x a b. once_apart (names_of r) (all_names rows) p x a (taken-names rows i name x b))

-- nothing is taken out where the name is nowhere
pub taken-absent : (rows : List Row) (i : ℕ) (name : LockName) → (Has (all_names rows) name → ⊥) → taken_out i name rows ≡ rows
taken-absent [] i name f = refl
taken-absent (r ∷ rows) zero name f = ap (λ (x : Row). x ∷ rows) (without-absent name r (λ h. f (front r rows name h)))
taken-absent (r ∷ rows) (suc i) name f = ap (λ (x : List Row). r ∷ x) (taken-absent rows i name (λ h. f (behind r rows name h)))

-- the row itself, and the others
pub taken-at : (rows : List Row) (i : ℕ) (name : LockName) (ls : Row) → slice_get rows i ≡ Some ls → slice_get (taken_out i name rows) i ≡ Some (without name ls)
taken-at [] i name ls at = cc
taken-at (r ∷ rows) zero name ls at = let same : r ≡ ls = cc in ap (λ (x : Row). Some (without name x)) same
taken-at (r ∷ rows) (suc i) name ls at = taken-at rows i name ls at

pub taken-else : (rows : List Row) (i j : ℕ) (name : LockName) → j ≢ i → slice_get (taken_out i name rows) j ≡ slice_get rows j
taken-else [] i j name ne = refl
taken-else (r ∷ rows) zero zero name ne = absurd (ne refl)
taken-else (r ∷ rows) zero (suc j) name ne = refl
taken-else (r ∷ rows) (suc i) zero name ne = refl
taken-else (r ∷ rows) (suc i) (suc j) name ne = taken-else rows i j name (λ e. ne (ap suc e))

-- the name is nowhere then
taken-gone : (rows : List Row) (i : ℕ) (name : LockName) (ls : Row) → Once (all_names rows) → slice_get rows i ≡ Some ls → Has (names_of ls) name → Has (all_names (taken_out i name rows)) name → ⊥
taken-gone [] i name ls o at h k = cc
taken-gone (r ∷ rows) zero name ls o at h k =
    let same : r ≡ ls = cc in
    elim (split (without name r) rows name k) [
      | inl a ↦ (without-names name r name a).1 refl
      | inr b ↦ once_apart (names_of r) (all_names rows) (once-parts r rows o) name (subst (λ (y : Row). Has (names_of y) name) (sym same) h) b
    ]
taken-gone (r ∷ rows) (suc i) name ls o at h k =
    let p = once-parts r rows o in
    elim (split r (taken_out i name rows) name k) [
      | inl a ↦ once_apart (names_of r) (all_names rows) p name a (row-in rows i ls name at h)
      | inr b ↦ taken-gone rows i name ls (once_second (names_of r) (all_names rows) p) at h b
    ]

taken-order : (t : List Resource) (n : ℕ) (rows : List Row) (i : ℕ) (name : LockName) → AllByRecursion (StandInOrder t n) rows → AllByRecursion (StandInOrder t n) (taken_out i name rows)
taken-order t n [] i name s = s
taken-order t n (r ∷ rows) zero name s = (order-without t n name r s.0, s.1)
taken-order t n (r ∷ rows) (suc i) name s = (s.0, taken-order t n rows i name s.1)

-- ---- a lock put in

push-names : (ls : Row) (l : LockName × Mode) (x : LockName) → Has (names_of (ls ++ l ∷ [])) x → Has (names_of ls) x ⊎ (l.0 ≡ x)
push-names ls l x h = elim (has_parted (names_of ls) (l.0 ∷ []) x (subst (λ (xs : List LockName). Has xs x) (names-append ls (l ∷ [])) h)) [ inl a ↦ inl a | inr b ↦ elim b [ inl e ↦ inr e | inr z ↦ absurd z ] ]

push-stays : (ls : Row) (l : LockName × Mode) (x : LockName) → Has (names_of ls) x ⊎ (l.0 ≡ x) → Has (names_of (ls ++ l ∷ [])) x
push-stays ls l x h =
    subst (λ (xs : List LockName). Has xs x) (sym (names-append ls (l ∷ []))) (elim h [ inl a ↦ has_first (names_of ls) (l.0 ∷ []) x a | inr e ↦ has_second (names_of ls) (l.0 ∷ []) x (inl e) ])

push-once : (ls : Row) (l : LockName × Mode) → Once (names_of ls) → (Has (names_of ls) l.0 → ⊥) → Once (names_of (ls ++ l ∷ []))
push-once ls l o f =
    subst (λ (xs : List LockName). Once xs) (sym (names-append ls (l ∷ []))) (once_in_a_row (names_of ls) (l.0 ∷ []) o ((λ x. x), tt) (λ x h k. elim k [ inl e ↦ f (rw e h) | inr z ↦ z ]))

put-names : (rows : List Row) (k : ℕ) (l : LockName × Mode) (x : LockName) → Has (all_names (put_in k l rows)) x → Has (all_names rows) x ⊎ (l.0 ≡ x)
put-names [] k l x h = inl h
put-names (r ∷ rows) zero l x h = elim (split (r ++ l ∷ []) rows x h) [ inl a ↦ elim (push-names r l x a) [ inl b ↦ inl (front r rows x b) | inr e ↦ inr e ] | inr b ↦ inl (behind r rows x b) ]
put-names (r ∷ rows) (suc k) l x h = elim (split r (put_in k l rows) x h) [ inl a ↦ inl (front r rows x a) | inr b ↦ elim (put-names rows k l x b) [ inl c ↦ inl (behind r rows x c) | inr e ↦ inr e ] ]

put-stays : (rows : List Row) (k : ℕ) (l : LockName × Mode) (x : LockName) → Has (all_names rows) x → Has (all_names (put_in k l rows)) x
put-stays [] k l x h = h
put-stays (r ∷ rows) zero l x h = elim (split r rows x h) [ inl a ↦ front (r ++ l ∷ []) rows x (push-stays r l x (inl a)) | inr b ↦ behind (r ++ l ∷ []) rows x b ]
put-stays (r ∷ rows) (suc k) l x h = elim (split r rows x h) [ inl a ↦ front r (put_in k l rows) x a | inr b ↦ behind r (put_in k l rows) x (put-stays rows k l x b) ]

put-there : (rows : List Row) (k : ℕ) (l : LockName × Mode) (ms : Row) → slice_get rows k ≡ Some ms → Has (all_names (put_in k l rows)) l.0
put-there [] k l ms at = cc
put-there (r ∷ rows) zero l ms at = front (r ++ l ∷ []) rows l.0 (push-stays r l l.0 (inr refl))
put-there (r ∷ rows) (suc k) l ms at = behind r (put_in k l rows) l.0 (put-there rows k l ms at)

put-once : (rows : List Row) (k : ℕ) (l : LockName × Mode) → Once (all_names rows) → (Has (all_names rows) l.0 → ⊥) → Once (all_names (put_in k l rows))
put-once [] k l o f = o
put-once (r ∷ rows) zero l o f =
    let p = once-parts r rows o in
    once-both (r ++ l ∷ []) rows (push-once r l (once_first (names_of r) (all_names rows) p) (λ a. f (front r rows l.0 a))) (once_second (names_of r) (all_names rows) p)
    (λ x a b. elim (push-names r l x a) [ inl c ↦ once_apart (names_of r) (all_names rows) p x c b | inr e ↦ f (behind r rows l.0 (subst (λ (y : LockName). Has (all_names rows) y) (sym e) b)) ])
put-once (r ∷ rows) (suc k) l o f =
    let p = once-parts r rows o in
    once-both r (put_in k l rows) (once_first (names_of r) (all_names rows) p) (put-once rows k l (once_second (names_of r) (all_names rows) p) (λ b. f (behind r rows l.0 b)))
    (λ x a b. elim (put-names rows k l x b) [ inl c ↦ once_apart (names_of r) (all_names rows) p x a c | inr e ↦ f (front r rows l.0 (subst (λ (y : LockName). Has (names_of r) y) (sym e) a)) ])

put-order : (u : List Resource) (n : ℕ) (rows : List Row) (k : ℕ) (l : LockName × Mode) (ms : Row) → slice_get rows k ≡ Some ms → AllByRecursion (StandInOrder u n) rows → AllGranted u n ms → IsGranted u n l ⊎ IsWaiting u n l
    → AllByRecursion (StandInOrder u n) (put_in k l rows)
put-order u n [] k l ms at s g new = s
put-order u n (r ∷ rows) zero l ms at s g new = let same : r ≡ ms = cc in (in_order-push u n r l (subst (AllGranted u n) (sym same) g) new, s.1)
put-order u n (r ∷ rows) (suc k) l ms at s g new = (s.0, put-order u n rows k l ms at s.1 g new)

-- ---- rows that tell how a node stands at all names but one

pub record HoldsBut (name : LockName) (t : List Resource) (n : ℕ) (rows : List Row) : Type 0 where
  pub once : Once (all_names rows)
  pub in_order : AllByRecursion (StandInOrder t n) rows
  pub free : Has (all_names rows) name → ⊥
  pub no_other : (other : LockName) → other ≢ name → (Has (all_names rows) other → ⊥) → stands_at other (system_of n) t ≡ None

-- a node stands as it stood at all names but one
abbrev pub AlikeBut : LockName → ℕ → List Resource → List Resource → Type 0
AlikeBut name n t u = (other : LockName) → other ≢ name → stands_at other (system_of n) u ≡ stands_at other (system_of n) t

pub but-absent : (name : LockName) (t : List Resource) (n : ℕ) (rows : List Row) → HoldsItsLocks t n rows → (Has (all_names rows) name → ⊥) → HoldsBut name t n rows
but-absent name t n rows h f = record { once = h.once; in_order = h.in_order; free = f; no_other = λ other ne g. h.no_other other g }

pub but-taken : (name : LockName) (t : List Resource) (n : ℕ) (rows : List Row) (i : ℕ) (ls : Row) → HoldsItsLocks t n rows → slice_get rows i ≡ Some ls → Has (names_of ls) name → HoldsBut name t n (taken_out i name rows)
but-taken name t n rows i ls h at has = record {
  once = taken-once rows i name h.once;
  in_order = taken-order t n rows i name h.in_order;
  free = taken-gone rows i name ls h.once at has;
  no_other = λ other ne f. h.no_other other (λ k. f (taken-stays rows i name other k ne));
}

pub alike-row : (name : LockName) (t u : List Resource) (n : ℕ) (ls : Row) → AlikeBut name n t u → (Has (names_of ls) name → ⊥) → AlikeAt n t u ls
alike-row name t u n ls a f x h = a x (λ e. f (subst (λ (y : LockName). Has (names_of ls) y) e h))

alike-rows : (name : LockName) (t u : List Resource) (n : ℕ) (rows : List Row) → AlikeBut name n t u → (Has (all_names rows) name → ⊥) → AllByRecursion (StandInOrder t n) rows → AllByRecursion (StandInOrder u n) rows
alike-rows name t u n [] a f s = s
alike-rows name t u n (r ∷ rows) a f s = (alike-in_order n t u r (alike-row name t u n r a (λ h. f (front r rows name h))) s.0, alike-rows name t u n rows a (λ h. f (behind r rows name h)) s.1)

pub but-later : (name : LockName) (t u : List Resource) (n : ℕ) (rows : List Row) → AlikeBut name n t u → HoldsBut name t n rows → HoldsBut name u n rows
but-later name t u n rows a h = record { once = h.once; in_order = alike-rows name t u n rows a h.free h.in_order; free = h.free; no_other = λ other ne f. a other ne ∙ h.no_other other ne f }

pub but-gone : (name : LockName) (u : List Resource) (n : ℕ) (rows : List Row) → ((other : LockName) → (other ≡ name) ⊎ (other ≢ name)) → HoldsBut name u n rows → stands_at name (system_of n) u ≡ None → HoldsItsLocks u n rows
but-gone name u n rows test h e = record {
  once = h.once;
  in_order = h.in_order;
  no_other = λ other f. elim (test other) [ inl same ↦ rw same e | inr ne ↦ h.no_other other ne f ];
}

pub but-put : (u : List Resource) (n : ℕ) (rows : List Row) (k : ℕ) (l : LockName × Mode) (ms : Row) → HoldsBut l.0 u n rows → slice_get rows k ≡ Some ms → AllGranted u n ms → IsGranted u n l ⊎ IsWaiting u n l → HoldsItsLocks u n (put_in k l rows)
but-put u n rows k l ms h at g new = record {
  once = put-once rows k l h.once h.free;
  in_order = put-order u n rows k l ms at h.in_order g new;
  no_other = λ other f. h.no_other other (λ e. f (subst (λ (y : LockName). Has (all_names (put_in k l rows)) y) (sym e) (put-there rows k l ms at))) (λ i. f (put-stays rows k l other i));
}

-- ---- the rows of another node

comes-rows : (m : ℕ) (t u : List Resource) (rows : List Row) → ComesTo m t u → AllByRecursion (StandInOrder t m) rows → AllByRecursion (StandInOrder u m) rows
comes-rows m t u [] o s = s
comes-rows m t u (r ∷ rows) o s = (comes-in_order m t u r o s.0, comes-rows m t u rows o s.1)

pub comes-holds : (m : ℕ) (t u : List Resource) (rows : List Row) → ComesTo m t u → HoldsItsLocks t m rows → HoldsItsLocks u m rows
comes-holds m t u rows o h = record { once = h.once; in_order = comes-rows m t u rows o h.in_order; no_other = λ name f. o.nothing name (h.no_other name f) }
