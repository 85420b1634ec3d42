-- What a node keeps behind its answer: of the locks that it kept those that stay, and of those that it used those that were lowered.
use Rattle.std.proofs.Common.{◌≡◌, ◌≢◌, ◌⊎◌, ◌≤◌, ◌+◌, ◌++◌, ◌||◌, not, Bool, true, false, cond, List, [], ◌∷◌, length, refl, sym, ap, subst, ◌∙◌, inl, inr, arith}
use Rattle.lock_db.specs.declared.name.LockName.{LockName}
use Rattle.lock_db.specs.declared.name.LockName.TheVariants.{X, V}
use Rattle.lock_db.specs.Names.{is_same}
use Rattle.lock_db.proofs.Names.{is_same-same}
use Rattle.plain_cat.specs.declared.mode.Mode.{Mode}
use Rattle.plain_cat.specs.declared.mode.Mode.TheVariants.{NL}
use Rattle.base_words.specs.Lists.{Has, Once}
use Rattle.base_words.proofs.Listing.{has_parted}
use Rattle.node_locks.specs.Held.{Row, joined, names_of, without}
use Rattle.node_cache.specs.Cached.{Cached}
use Rattle.core_space.specs.declared.run.Phase.TheVariants as phase
use Rattle.core_space.specs.Rule.{has_any}
use Rattle.core_state.specs.Worlds.{NodeState, rows_of}
use Rattle.core_state.specs.Stocks.{roomless}
use Rattle.core_state.specs.Caches.{has_entry, keeps, lowered_of}
use Rattle.core_state.specs.Stores.{IsKeptLow, IsKeptX, AreKept, HasStore}
use Rattle.core_state.specs.Events.{stays, staying, used_locks}
use Rattle.core_state.proofs.Holding.{named_there}
use Rattle.core_state.proofs.Naming.{named_by, without_none, from_without}
use Rattle.core_state.proofs.Keeping.{names_first, names_second, row_of_name}
use Rattle.core_state.proofs.Sweeps.{has_filter, in_filter, filter_once}
use Rattle.core_state.proofs.PutBacks.{keeps_entry, entry_under, under_guards, stays_under, has_lowered, lowered_is}

-- ---- at most as many locks as entries

-- on a name there is one at most
pub one_less : (name : LockName) (ls : Row) → Once (names_of ls) → length ls ≤ length (without name ls) + 1
one_less name [] once = omega arith
one_less name (l ∷ ls) once = by_test (is_same l.0 name) refl (one_less name ls once.1) where
  by_test : (b : Bool) → is_same l.0 name ≡ b → length ls ≤ length (without name ls) + 1 → length (l ∷ ls) ≤ length (cond (not b) (l ∷ without name ls) (without name ls)) + 1
  by_test true e le =
      let same : length (without name ls) ≡ length ls = ap length (without_none ls name (λ h. once.0 (subst (Has (names_of ls)) (sym (is_same-same l.0 name e)) h))) in
      omega (arith, same)
  by_test false e le = omega (arith, le)

no_more : (ls : Row) → ((l : LockName × Mode) → Has ls l → has_entry [] l.0 ≡ true) → length ls ≤ 0
no_more [] under = omega arith
no_more (l ∷ ls) under = absurd (let f : false ≡ true = under l (inl refl) in cc)

-- where each lock has an entry under it, and they are on names of their own
few_under : (ls : Row) (es : List Cached) → Once (names_of ls) → ((l : LockName × Mode) → Has ls l → has_entry es l.0 ≡ true) → length ls ≤ length es
few_under ls [] once under = no_more ls under
few_under ls (e ∷ es) once under =
    let a : length ls ≤ length (without e.lock ls) + 1 = one_less e.lock ls once in
    let b : length (without e.lock ls) ≤ length es = few_under (without e.lock ls) es (filter_once (λ l. not (is_same l.0 e.lock)) ls once)
    (λ l h. let k = from_without ls e.lock l h in further l.0 k.1 (under l k.0)) in
    omega (arith, a, b) where
      further : (name : LockName) → name ≢ e.lock → has_entry (e ∷ es) name ≡ true → has_entry es name ≡ true
      further name ne h = by_test (is_same name e.lock) refl h where
        by_test : (t : Bool) → is_same name e.lock ≡ t → (t || has_entry es name) ≡ true → has_entry es name ≡ true
        by_test true same f = absurd (ne (is_same-same name e.lock same))
        by_test false same f = f

-- ---- what is kept

-- what the node keeps then
abbrev pub kept_then : NodeState → Row
kept_then s = staying s ++ lowered_of s.cache (used_locks s)

-- X stays with a stock alone
x_stays : (s : NodeState) (l : LockName × Mode) → l.0 ≡ X → stays s l ≡ true → has_any (roomless s.stock) ≡ true
x_stays s l is e = sym (ap (λ (k : LockName). cond (is_same k X) (has_any (roomless s.stock)) (has_entry s.cache k)) is) ∙ e

-- any other lock stays with an entry alone
other_stays : (s : NodeState) (l : LockName × Mode) → l.0 ≢ X → stays s l ≡ true → has_entry s.cache l.0 ≡ true
other_stays s l ne e = by_test (is_same l.0 X) refl e where
  by_test : (b : Bool) → is_same l.0 X ≡ b → cond b (has_any (roomless s.stock)) (has_entry s.cache l.0) ≡ true → has_entry s.cache l.0 ≡ true
  by_test true same f = absurd (ne (is_same-same l.0 X same))
  by_test false same f = f

module _ (s : NodeState) (store : HasStore s.run.phase s.kept s.cache) where
  -- each lock that is kept then, but X, has an entry under it
  has_its : (l : LockName × Mode) → Has (kept_then s) l → l.0 ≢ X → has_entry s.cache l.0 ≡ true
  has_its l h ne = elim (has_parted (staying s) (lowered_of s.cache (used_locks s)) l h) [
    | inl a ↦ other_stays s l ne (has_filter (stays s) s.kept l a).1
    | inr b ↦ (lowered_is s.cache (used_locks s) l b).0
  ]

  few_then : Once (names_of (kept_then s)) → length (without X (without V (kept_then s))) ≤ 64
  few_then once =
      let two : Row = without V (kept_then s) in
      let once_two : Once (names_of two) = filter_once (λ l. not (is_same l.0 V)) (kept_then s) once in
      let a : length (without X two) ≤ length s.cache = few_under (without X two) s.cache (filter_once (λ l. not (is_same l.0 X)) two once_two)
      (λ l h. let k = from_without two X l h in has_its l (from_without (kept_then s) V l k.0).0 k.1) in
      let b = store.cache.fits in
      omega (arith, a, b)

  -- where a stock is there, the rules have not come to search all free space
  module _ (not_last : has_any (roomless s.stock) ≡ true → s.run.phase ≡ phase.Last → ⊥) where
    kept_so : AreKept phase.Off (kept_then s)
    kept_so l h = elim (has_parted (staying s) (lowered_of s.cache (used_locks s)) l h) [ inl a ↦ by_kept a (store.kept l (has_filter (stays s) s.kept l a).0) | inr b ↦ inl (lowered_so b) ] where
      by_kept : Has (staying s) l → IsKeptLow l ⊎ IsKeptX s.run.phase l → IsKeptLow l ⊎ IsKeptX phase.Off l
      by_kept a (inl low) = inl low
      by_kept a (inr x) = inr (x.0, elim x.1 [ inl f ↦ inl f | inr f ↦ absurd (not_last (x_stays s l x.0 (has_filter (stays s) s.kept l a).1) f) ])

      lowered_so : Has (lowered_of s.cache (used_locks s)) l → IsKeptLow l
      lowered_so b = let k = lowered_is s.cache (used_locks s) l b in (under_guards s.cache store.guarding l.0 k.0, k.1)

    pub store_then : Once (names_of (kept_then s)) → HasStore phase.Off (kept_then s) s.cache
    store_then once = record { kept = kept_so; few = few_then once; cache = store.cache; guarding = store.guarding }

  -- the lock of each entry is among them
  pub entry_kept : (e : Cached) → Has s.cache e → Has (names_of (joined (rows_of s))) e.lock → Has (names_of (kept_then s)) e.lock
  entry_kept e has held = elim (row_of_name s e.lock held) [
    | inl a ↦
        let k = named_by s.kept e.lock a in
        names_first (staying s) (lowered_of s.cache (used_locks s)) e.lock (named_there (staying s) e.lock k.0 (in_filter (stays s) s.kept (e.lock, k.0) k.1 (stays_under s e.lock k.0 (store.guarding e has) entry)))
    | inr b ↦
        let k = named_by (used_locks s) e.lock (elim b [ inl c ↦ names_first s.asked s.claims e.lock c | inr d ↦ names_second s.asked s.claims e.lock d ]) in
        names_second (staying s) (lowered_of s.cache (used_locks s)) e.lock (named_there (lowered_of s.cache (used_locks s)) e.lock NL (has_lowered (keeps s.cache) (used_locks s) (e.lock, k.0) NL k.1 (keeps_entry s.cache (e.lock, k.0) entry)))
  ] where
    entry : has_entry s.cache e.lock ≡ true
    entry = entry_under s.cache e has
