-- What was added to a list and taken back.
use Rattle.std.proofs.Common.{◌≡◌, ◌≤◌, ◌++◌, List, [], ◌∷◌, ℕ, Bool, true, false, cond, length, Option, Some, None, inl, inr, refl, sym, ap, subst, ◌∙◌, arith}
use Rattle.std.specs.Prelude.{◌||◌, not, filter, option_to_list, IsNone, IsSome}
use Rattle.lock_db.specs.declared.name.LockName.{LockName}
use Rattle.lock_db.specs.declared.name.LockName.TheVariants.{X, V}
use Rattle.lock_db.specs.declared.askers.Standing.{Standing}
use Rattle.lock_db.specs.declared.resource.Resource.{Resource}
use Rattle.lock_db.specs.Names.{is_same}
use Rattle.lock_db.specs.Laws.{stands_at}
use Rattle.lock_db.specs.Queues.{lock_of}
use Rattle.lock_db.specs.Tables.{resource_at, converted}
use Rattle.lock_db.proofs.Blocks.{converted-leaves}
use Rattle.lock_db.proofs.Names.{is_same-refl, is_same-same}
use Rattle.plain_cat.specs.declared.mode.Mode.{Mode}
use Rattle.plain_cat.specs.declared.mode.Mode.TheVariants.{NL}
use Rattle.base_words.specs.Lists.{Has}
use Rattle.node_locks.specs.Held.{system_of, names_of, StandInOrder}
use Rattle.core_state.specs.Asks.{has_asked}

-- ---- the last item

abbrev front : {A : Type 0} → List A → List A
front [] = []
front (x ∷ []) = []
front (x ∷ (y ∷ xs)) = x ∷ front (y ∷ xs)

front_of : {A : Type 0} (xs : List A) (x : A) → front (xs ++ x ∷ []) ≡ xs
front_of [] x = refl
front_of (y ∷ []) x = refl
front_of (y ∷ (z ∷ xs)) x = ap (λ l. y ∷ l) (front_of (z ∷ xs) x)

has_last : {A : Type 0} (xs : List A) (x : A) → xs ++ x ∷ [] ≡ [] → ⊥
has_last [] x e = absurd (cc)
has_last (y ∷ xs) x e = absurd (cc)

-- an item that was pushed is the one that is popped
pub popped : {A : Type 0} (xs ys : List A) (x : A) (o : Option A) → xs ++ x ∷ [] ≡ ys ++ option_to_list o → (IsNone o → xs ++ x ∷ [] ≡ []) → ys ≡ xs
popped xs ys x None e none = absurd (has_last xs x (none refl))
popped xs ys x (Some y) e none = sym (front_of ys y) ∙ sym (ap front e) ∙ front_of xs x

-- ---- the last lock

-- a lock that was pushed is the one that is removed, where no other has its name
pub removed : (ls : List (LockName × Mode)) (name : LockName) (mode : Mode) → has_asked name ls ≡ false → filter (λ l. not (is_same l.0 name)) (ls ++ (name, mode) ∷ []) ≡ ls
removed [] name mode none = ap (λ b. cond (not b) ((name, mode) ∷ []) []) (is_same-refl name)
removed (l ∷ ls) name mode none = by_test (is_same l.0 name) none (removed ls name mode) where
  by_test : (b : Bool) → (b || has_asked name ls) ≡ false → (has_asked name ls ≡ false → filter (λ l. not (is_same l.0 name)) (ls ++ (name, mode) ∷ []) ≡ ls)
      → cond (not b) (l ∷ filter (λ l. not (is_same l.0 name)) (ls ++ (name, mode) ∷ [])) (filter (λ l. not (is_same l.0 name)) (ls ++ (name, mode) ∷ [])) ≡ l ∷ ls
  by_test true e back = absurd (let f : true ≡ false = e in cc)
  by_test false e back = ap (λ xs. l ∷ xs) (back e)

-- ---- no other has its name

pub unnamed : (ls : List (LockName × Mode)) (name : LockName) → (Has (names_of ls) name → ⊥) → has_asked name ls ≡ false
unnamed [] name no_other = refl
unnamed (l ∷ ls) name no_other = by_test (is_same l.0 name) refl (unnamed ls name (λ h. no_other (inr h))) where
  by_test : (b : Bool) → is_same l.0 name ≡ b → has_asked name ls ≡ false → (b || has_asked name ls) ≡ false
  by_test true e rest = absurd (no_other (inl (is_same-same l.0 name e)))
  by_test false e rest = rest

stands_not : {s : Standing} (t : List Resource) (n : ℕ) (k name : LockName) → k ≡ name → stands_at k (system_of n) t ≡ Some s → stands_at name (system_of n) t ≡ None → ⊥
stands_not {s} t n k name e stands none = absurd (let f : Some s ≡ None = sym stands ∙ ap (λ m. stands_at m (system_of n) t) e ∙ none in cc)

-- a node has asked for no lock at a name where its file system has nothing
pub stands_nowhere : (t : List Resource) (n : ℕ) (ls : List (LockName × Mode)) (name : LockName) → StandInOrder t n ls → stands_at name (system_of n) t ≡ None → Has (names_of ls) name → ⊥
stands_nowhere t n [] name stand none h = h
stands_nowhere t n (l ∷ []) name (inl s) none (inl e) = stands_not t n l.0 name e s none
stands_nowhere t n (l ∷ []) name (inr (inl s)) none (inl e) = stands_not t n l.0 name e s none
stands_nowhere t n (l ∷ []) name (inr (inr s)) none (inl e) = stands_not t n l.0 name e s none
stands_nowhere t n (l ∷ []) name stand none (inr h) = h
stands_nowhere t n (l ∷ (k ∷ ls)) name stand none (inl e) = stands_not t n l.0 name e stand.0 none
stands_nowhere t n (l ∷ (k ∷ ls)) name stand none (inr h) = stands_nowhere t n (k ∷ ls) name stand.1 none h

-- a list without some of its items is no longer
pub length_filter : {A : Type 0} (p : A → Bool) (xs : List A) → length (filter p xs) ≤ length xs
length_filter p [] = omega arith
length_filter p (x ∷ xs) = by_test (p x) (length_filter p xs) where
  by_test : (b : Bool) → length (filter p xs) ≤ length xs → length (cond b (x ∷ filter p xs) (filter p xs)) ≤ length (x ∷ xs)
  by_test true le = omega arith
  by_test false le = omega arith

-- X stands as it stood where V is lowered
pub x_stands : (n : ℕ) (value : List ℕ) (t u : List Resource) → u ≡ converted V (system_of n) NL value t → IsSome (lock_of (system_of n) (resource_at X t).askers) → IsSome (lock_of (system_of n) (resource_at X u).askers)
x_stands n value t u e some = subst (λ (r : Resource). IsSome (lock_of (system_of n) r.askers)) (sym (ap (resource_at X) e ∙ converted-leaves V (system_of n) NL value t X (λ f. absurd (let h : X ≡ V = f in cc)))) some
