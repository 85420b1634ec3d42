-- The locks on a name among those of a row.
use Rattle.std.proofs.Common.{◌≡◌, ◌≢◌, ◌⊎◌, ◌||◌, not, Bool, true, false, cond, [], ◌∷◌, Some, None, find, refl, sym, ap, subst, ◌∙◌, inl, inr}
use Rattle.lock_db.specs.declared.name.LockName.{LockName}
use Rattle.lock_db.specs.Names.{is_same}
use Rattle.lock_db.proofs.Names.{is_same-refl, is_same-same}
use Rattle.plain_cat.specs.declared.mode.Mode.{Mode}
use Rattle.base_words.specs.Lists.{Has, Once}
use Rattle.node_locks.specs.Held.{Row, names_of, without}
use Rattle.core_state.specs.Asks.{has_asked}
use Rattle.core_state.specs.Events.{mode_of_lock, mode_in}
use Rattle.core_state.proofs.Holding.{named_there}

pub same_name : (a b : LockName) → (a ≡ b) ⊎ (a ≢ b)
same_name a b = by_test (is_same a b) refl where
  by_test : (t : Bool) → is_same a b ≡ t → (a ≡ b) ⊎ (a ≢ b)
  by_test true e = inl (is_same-same a b e)
  by_test false e = inr (λ f. let g : is_same a a ≡ false = subst (λ (x : LockName). is_same a x ≡ false) (sym f) e in let h : true ≡ false = sym (is_same-refl a) ∙ g in absurd (cc))

pub none_of : (ls : Row) (l : LockName × Mode) → ls ≡ [] → Has ls l → ⊥
none_of ls l e h = subst (λ (ks : Row). Has ks l) e h

pub one_of : (ls : Row) (k l : LockName × Mode) → ls ≡ k ∷ [] → Has ls l → k ≡ l
one_of ls k l e h = elim (subst (λ (ks : Row). Has ks l) e h) [ inl f ↦ f | inr g ↦ absurd g ]

pub has_one : (ls : Row) (k : LockName × Mode) → ls ≡ k ∷ [] → Has ls k
has_one ls k e = subst (λ (ks : Row). Has ks k) (sym e) (inl refl)

-- a name of a row is that of a lock
pub named_by : (ls : Row) (name : LockName) → Has (names_of ls) name → (mode : Mode) × Has ls (name, mode)
named_by [] name h = absurd h
named_by (k ∷ ls) name (inl e) = (k.1, inl (ap (λ (x : LockName). (x, k.1)) e))
named_by (k ∷ ls) name (inr h) = let r = named_by ls name h in (r.0, inr r.1)

-- ---- without a name

pub stays_without : (ls : Row) (name : LockName) (l : LockName × Mode) → Has ls l → l.0 ≢ name → Has (without name ls) l
stays_without [] name l h ne = absurd h
stays_without (k ∷ ls) name l h ne = by_test (is_same k.0 name) refl h (λ t. stays_without ls name l t ne) where
  by_test : (b : Bool) → is_same k.0 name ≡ b → Has (k ∷ ls) l → (Has ls l → Has (without name ls) l) → Has (cond (not b) (k ∷ without name ls) (without name ls)) l
  by_test true e (inl f) rest = absurd (ne (ap (λ (x : LockName × Mode). x.0) (sym f) ∙ is_same-same k.0 name e))
  by_test true e (inr t) rest = rest t
  by_test false e (inl f) rest = inl f
  by_test false e (inr t) rest = inr (rest t)

pub from_without : (ls : Row) (name : LockName) (l : LockName × Mode) → Has (without name ls) l → Has ls l × (l.0 ≢ name)
from_without [] name l h = absurd h
from_without (k ∷ ls) name l h = by_test (is_same k.0 name) refl h (λ t. from_without ls name l t) where
  by_test : (b : Bool) → is_same k.0 name ≡ b → Has (cond (not b) (k ∷ without name ls) (without name ls)) l → (Has (without name ls) l → Has ls l × (l.0 ≢ name)) → Has (k ∷ ls) l × (l.0 ≢ name)
  by_test true e t rest = let r = rest t in (inr r.0, r.1)
  by_test false e (inl f) rest = (
    inl f,
    λ g. absurd (
        let same : k.0 ≡ name = ap (λ (x : LockName × Mode). x.0) f ∙ g in
        let yes : is_same k.0 name ≡ true = subst (λ (m : LockName). is_same k.0 m ≡ true) same (is_same-refl k.0) in
        let z : true ≡ false = sym yes ∙ e in
        cc),
  )
  by_test false e (inr t) rest = let r = rest t in (inr r.0, r.1)

-- a row that has no lock on a name stays
pub without_none : (ls : Row) (name : LockName) → (Has (names_of ls) name → ⊥) → without name ls ≡ ls
without_none [] name none = refl
without_none (k ∷ ls) name none = by_test (is_same k.0 name) refl (without_none ls name (λ h. none (inr h))) where
  by_test : (b : Bool) → is_same k.0 name ≡ b → without name ls ≡ ls → cond (not b) (k ∷ without name ls) (without name ls) ≡ k ∷ ls
  by_test true e rest = absurd (none (inl (is_same-same k.0 name e)))
  by_test false e rest = ap (λ ks. k ∷ ks) rest

-- ---- the mode of a lock

same_here : (k : LockName × Mode) (name : LockName) → k.0 ≡ name → is_same k.0 name ≡ true
same_here k name e = subst (λ (m : LockName). is_same k.0 m ≡ true) e (is_same-refl k.0)

pub mode_is : (ls : Row) (name : LockName) (mode : Mode) → Once (names_of ls) → Has ls (name, mode) → mode_in name ls ≡ Some mode
mode_is [] name mode once h = absurd h
mode_is (k ∷ ls) name mode once (inl e) =
    ap (λ b. mode_of_lock (cond b (Some k) (find (λ (l : LockName × Mode). is_same l.0 name) ls))) (same_here k name (ap (λ (x : LockName × Mode). x.0) e)) ∙ ap (λ (x : LockName × Mode). Some x.1) e
mode_is (k ∷ ls) name mode once (inr h) = by_test (is_same k.0 name) refl (mode_is ls name mode once.1 h) where
  by_test : (b : Bool) → is_same k.0 name ≡ b → mode_in name ls ≡ Some mode → mode_of_lock (cond b (Some k) (find (λ (l : LockName × Mode). is_same l.0 name) ls)) ≡ Some mode
  by_test true e rest = absurd (once.0 (subst (λ (m : LockName). Has (names_of ls) m) (sym (is_same-same k.0 name e)) (named_there ls name mode h)))
  by_test false e rest = rest

pub mode_has : (ls : Row) (name : LockName) (mode : Mode) → mode_in name ls ≡ Some mode → Has ls (name, mode)
mode_has [] name mode e = absurd (let f : None ≡ Some mode = e in cc)
mode_has (k ∷ ls) name mode e = by_test (is_same k.0 name) refl e (λ g. mode_has ls name mode g) where
  by_test : (b : Bool) → is_same k.0 name ≡ b → mode_of_lock (cond b (Some k) (find (λ (l : LockName × Mode). is_same l.0 name) ls)) ≡ Some mode → (mode_in name ls ≡ Some mode → Has ls (name, mode)) → Has (k ∷ ls) (name, mode)
  by_test true f g rest =
      let h : Some k.1 ≡ Some mode = g in
      let m : k.1 ≡ mode = cc in
      inl (λ i. (is_same-same k.0 name f i, m i))
  by_test false f g rest = inr (rest g)

pub mode_none : (ls : Row) (name : LockName) → mode_in name ls ≡ None → Has (names_of ls) name → ⊥
mode_none [] name e h = h
mode_none (k ∷ ls) name e h = by_test (is_same k.0 name) refl e h (λ g t. mode_none ls name g t) where
  by_test : (b : Bool) → is_same k.0 name ≡ b → mode_of_lock (cond b (Some k) (find (λ (l : LockName × Mode). is_same l.0 name) ls)) ≡ None → Has (names_of (k ∷ ls)) name → (mode_in name ls ≡ None → Has (names_of ls) name → ⊥) → ⊥
  by_test true f g t rest = absurd (let z : Some k.1 ≡ None = g in cc)
  by_test false f g (inl t) rest = absurd (let z : true ≡ false = sym (same_here k name t) ∙ f in cc)
  by_test false f g (inr t) rest = rest g t

-- ---- what is asked for

pub asked_is : (ls : Row) (name : LockName) → has_asked name ls ≡ true → Has (names_of ls) name
asked_is [] name e = absurd (let f : false ≡ true = e in cc)
asked_is (l ∷ ls) name e = by_test (is_same l.0 name) refl e (λ g. asked_is ls name g) where
  by_test : (b : Bool) → is_same l.0 name ≡ b → (b || has_asked name ls) ≡ true → (has_asked name ls ≡ true → Has (names_of ls) name) → Has (names_of (l ∷ ls)) name
  by_test true f g rest = inl (is_same-same l.0 name f)
  by_test false f g rest = inr (rest g)

pub is_asked : (ls : Row) (name : LockName) → Has (names_of ls) name → has_asked name ls ≡ true
is_asked [] name h = absurd h
is_asked (l ∷ ls) name h = by_test (is_same l.0 name) refl h (λ t. is_asked ls name t) where
  by_test : (b : Bool) → is_same l.0 name ≡ b → Has (names_of (l ∷ ls)) name → (Has (names_of ls) name → has_asked name ls ≡ true) → (b || has_asked name ls) ≡ true
  by_test true e t rest = refl
  by_test false e (inl f) rest = absurd (let z : true ≡ false = sym (same_here l name f) ∙ e in cc)
  by_test false e (inr t) rest = rest t

pub not_asked : (ls : Row) (name : LockName) → has_asked name ls ≡ false → Has (names_of ls) name → ⊥
not_asked ls name e h = absurd (let f : true ≡ false = sym (is_asked ls name h) ∙ e in cc)

-- whether a lock on a name is asked for does not change with that on another
pub has_asked_without : (one other : LockName) (ls : Row) → other ≢ one → has_asked one (without other ls) ≡ has_asked one ls
has_asked_without one other [] ne = refl
has_asked_without one other (k ∷ ls) ne = by_test (is_same k.0 other) refl (has_asked_without one other ls ne) where
  apart_from : is_same k.0 other ≡ true → (b : Bool) → is_same k.0 one ≡ b → is_same k.0 one ≡ false
  apart_from e true f = absurd (ne (sym (is_same-same k.0 other e) ∙ is_same-same k.0 one f))
  apart_from e false f = f

  by_test : (b : Bool) → is_same k.0 other ≡ b → has_asked one (without other ls) ≡ has_asked one ls → has_asked one (cond (not b) (k ∷ without other ls) (without other ls)) ≡ (is_same k.0 one || has_asked one ls)
  by_test true e rest = rest ∙ sym (ap (λ b. b || has_asked one ls) (apart_from e (is_same k.0 one) refl))
  by_test false e rest = ap (λ b. is_same k.0 one || b) rest
