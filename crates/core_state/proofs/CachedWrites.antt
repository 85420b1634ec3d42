-- The writes of a hold: under which lock a part was raised, and what more writes raise.
use Rattle.std.proofs.Common.{◌≡◌, ◌≤◌, ◌&&◌, ◌||◌, ◌⊎◌, ℕ, Bool, true, false, cond, not, List, [], ◌∷◌, refl, sym, ap, subst, inl, inr, arith}
use Rattle.std.specs.List.{list_any}
use Rattle.lock_db.specs.declared.name.LockName.{LockName}
use Rattle.lock_db.specs.declared.name.LockName.TheVariants.{S, A, Q, X, V}
use Rattle.lock_db.proofs.Names.{is_same-same, is_same-refl}
use Rattle.base_words.specs.Lists.{Has}
use Rattle.vol_parts.specs.declared.geometry.Geometry.{Geometry}
use Rattle.node_locks.specs.declared.sequences.Raise.{Raise}
use Rattle.op_law.specs.declared.need.PlanWrite.{PlanWrite}
use Rattle.core_state.specs.Raises.{is_first_part, is_under, writes_first, writes_second, frees, raise_by, raise_of}
use Rattle.core_state.specs.Stores.{part_raise}
use Rattle.plain_rules.proofs.Ordered.{or_cases}

-- ---- tests of lists

pub and_first : (a b : Bool) → (a && b) ≡ true → a ≡ true
and_first true b e = refl
and_first false b e = absurd (let f : false ≡ true = e in cc)

-- one of a list passes
any_one : (p : PlanWrite → Bool) (ws : List PlanWrite) → list_any p ws ≡ true → (w : PlanWrite) × Has ws w × (p w ≡ true)
any_one p [] e = absurd (let f : false ≡ true = e in cc)
any_one p (w ∷ ws) e = elim (or_cases (p w) (list_any p ws) e) [
  | inl f ↦ (w, inl refl, f)
  | inr f ↦ let h = any_one p ws f in (h.0, inr h.1, h.2)
]

one_any : (p : PlanWrite → Bool) (ws : List PlanWrite) (w : PlanWrite) → Has ws w → p w ≡ true → list_any p ws ≡ true
one_any p [] w h e = absurd h
one_any p (x ∷ ws) w (inl is) e = ap (λ b. b || list_any p ws) (subst (λ y. p y ≡ true) (sym is) e)
one_any p (x ∷ ws) w (inr h) e = any_or (p x) (list_any p ws) (one_any p ws w h e) where
  any_or : (a b : Bool) → b ≡ true → (a || b) ≡ true
  any_or true b f = refl
  any_or false b f = f

-- ---- the lock of a write

under_is : (name : LockName) (w : PlanWrite) → is_under name w ≡ true → w.lock ≡ name
under_is name w e = is_same-same w.lock name e

first_under : (g : Geometry) (name : LockName) (w : PlanWrite) → writes_first g name w ≡ true → w.lock ≡ name
first_under g name w e = under_is name w (and_first (is_under name w) (is_first_part g name w.lbn) e)

second_under : (g : Geometry) (name : LockName) (w : PlanWrite) → writes_second g name w ≡ true → w.lock ≡ name
second_under g name w e = under_is name w (and_first (is_under name w) (not (is_first_part g name w.lbn)) e)

frees_under : (g : Geometry) (name : LockName) (w : PlanWrite) → frees g name w ≡ true → w.lock ≡ name
frees_under g (S n) w e = first_under g (S n) w (and_first (writes_first g (S n) w) _ e)
frees_under g (A n) w e = absurd (let f : false ≡ true = e in cc)
frees_under g Q w e = absurd (let f : false ≡ true = e in cc)
frees_under g X w e = absurd (let f : false ≡ true = e in cc)
frees_under g V w e = absurd (let f : false ≡ true = e in cc)

-- what was raised was freed, or written
raised_by : (freed wrote : Bool) → 1 ≤ raise_by freed wrote → (freed ≡ true) ⊎ (wrote ≡ true)
raised_by true wrote le = inl refl
raised_by false true le = inr refl
raised_by false false le = absurd (let f : 1 ≤ 0 = le in omega arith)

-- a raised part has a write under its lock
pub raises_under : (g : Geometry) (name : LockName) (lbn : ℕ) (ws : List PlanWrite) → 1 ≤ part_raise g name lbn ws → (w : PlanWrite) × Has ws w × (w.lock ≡ name)
raises_under g name lbn ws le = by_part (is_first_part g name lbn) le where
  freed : list_any (frees g name) ws ≡ true → (w : PlanWrite) × Has ws w × (w.lock ≡ name)
  freed e = let h = any_one (frees g name) ws e in (h.0, h.1, frees_under g name h.0 h.2)

  by_part : (b : Bool) → 1 ≤ cond b (raise_of g name ws).first (raise_of g name ws).second → (w : PlanWrite) × Has ws w × (w.lock ≡ name)
  by_part true le = elim (raised_by (list_any (frees g name) ws) (list_any (writes_first g name) ws) le) [
    | inl e ↦ freed e
    | inr e ↦ let h = any_one (writes_first g name) ws e in (h.0, h.1, first_under g name h.0 h.2)
  ]
  by_part false le = elim (raised_by (list_any (frees g name) ws) (list_any (writes_second g name) ws) le) [
    | inl e ↦ freed e
    | inr e ↦ let h = any_one (writes_second g name) ws e in (h.0, h.1, second_under g name h.0 h.2)
  ]

-- a part that a write is to is raised
wrote_raises : (freed wrote : Bool) → wrote ≡ true → 1 ≤ raise_by freed wrote
wrote_raises true wrote e = omega arith
wrote_raises false true e = omega arith
wrote_raises false false e = absurd (let f : false ≡ true = e in cc)

freed_raises : (freed wrote : Bool) → freed ≡ true → raise_by freed wrote ≡ 2
freed_raises true wrote e = refl
freed_raises false wrote e = absurd (let f : false ≡ true = e in cc)

pub both_true : (a b : Bool) → a ≡ true → b ≡ true → (a && b) ≡ true
both_true a b e f = (λ i. e i && f i)

pub write_raises : (g : Geometry) (ws : List PlanWrite) (w : PlanWrite) → Has ws w → 1 ≤ part_raise g w.lock w.lbn ws
write_raises g ws w h = by_part (is_first_part g w.lock w.lbn) refl where
  by_part : (b : Bool) → is_first_part g w.lock w.lbn ≡ b → 1 ≤ cond b (raise_of g w.lock ws).first (raise_of g w.lock ws).second
  by_part true e = wrote_raises (list_any (frees g w.lock) ws) (list_any (writes_first g w.lock) ws) (one_any (writes_first g w.lock) ws w h (both_true (is_under w.lock w) (is_first_part g w.lock w.lbn) (is_same-refl w.lock) e))
  by_part false e = wrote_raises (list_any (frees g w.lock) ws) (list_any (writes_second g w.lock) ws)
      (one_any (writes_second g w.lock) ws w h (both_true (is_under w.lock w) (not (is_first_part g w.lock w.lbn)) (is_same-refl w.lock) (ap not e)))

-- where a slot was freed under a lock, both of its parts are raised by two
pub frees_raises : (g : Geometry) (name : LockName) (lbn : ℕ) (ws : List PlanWrite) (w : PlanWrite) → Has ws w → frees g name w ≡ true → part_raise g name lbn ws ≡ 2
frees_raises g name lbn ws w h e = by_part (is_first_part g name lbn) where
  any : list_any (frees g name) ws ≡ true
  any = one_any (frees g name) ws w h e

  by_part : (b : Bool) → cond b (raise_of g name ws).first (raise_of g name ws).second ≡ 2
  by_part true = freed_raises (list_any (frees g name) ws) (list_any (writes_first g name) ws) any
  by_part false = freed_raises (list_any (frees g name) ws) (list_any (writes_second g name) ws) any

-- ---- more writes raise no less

any_more : (p : PlanWrite → Bool) (ws more : List PlanWrite) → ((w : PlanWrite) → Has ws w → Has more w) → list_any p ws ≡ true → list_any p more ≡ true
any_more p ws more in_all e = let h = any_one p ws e in one_any p more h.0 (in_all h.0 h.1) h.2

more_raised : (a b x y : Bool) → (a ≡ true → x ≡ true) → (b ≡ true → y ≡ true) → raise_by a b ≤ raise_by x y
more_raised true b x y f g = subst (λ k. 2 ≤ raise_by k y) (sym (f refl)) (omega arith)
more_raised false true true y f g = omega arith
more_raised false true false y f g = subst (λ k. 1 ≤ raise_by false k) (sym (g refl)) (omega arith)
more_raised false false x y f g = omega arith

pub part_raise_more : (g : Geometry) (name : LockName) (lbn : ℕ) (ws more : List PlanWrite) → ((w : PlanWrite) → Has ws w → Has more w) → part_raise g name lbn ws ≤ part_raise g name lbn more
part_raise_more g name lbn ws more in_all = by_part (is_first_part g name lbn) where
  by_part : (b : Bool) → cond b (raise_of g name ws).first (raise_of g name ws).second ≤ cond b (raise_of g name more).first (raise_of g name more).second
  by_part true = more_raised (list_any (frees g name) ws) (list_any (writes_first g name) ws) (list_any (frees g name) more) (list_any (writes_first g name) more)
      (any_more (frees g name) ws more in_all) (any_more (writes_first g name) ws more in_all)
  by_part false = more_raised (list_any (frees g name) ws) (list_any (writes_second g name) ws) (list_any (frees g name) more) (list_any (writes_second g name) more)
      (any_more (frees g name) ws more in_all) (any_more (writes_second g name) ws more in_all)

-- ---- the same writes under a lock raise its parts alike

same_test : (a b : Bool) → (a ≡ true → b ≡ true) → (b ≡ true → a ≡ true) → a ≡ b
same_test true b f g = sym (f refl)
same_test false true f g = g refl
same_test false false f g = refl

-- the writes that pass a test are under the lock
any_under : (name : LockName) (p : PlanWrite → Bool) (ws us : List PlanWrite) → ((w : PlanWrite) → p w ≡ true → w.lock ≡ name) → ((w : PlanWrite) → Has ws w → w.lock ≡ name → Has us w) → list_any p ws ≡ true → list_any p us ≡ true
any_under name p ws us under into e = let h = any_one p ws e in one_any p us h.0 (into h.0 h.1 (under h.0 h.2)) h.2

any_alike : (name : LockName) (p : PlanWrite → Bool) (ws us : List PlanWrite) → ((w : PlanWrite) → p w ≡ true → w.lock ≡ name) → ((w : PlanWrite) → Has ws w → w.lock ≡ name → Has us w) → ((w : PlanWrite) → Has us w → w.lock ≡ name → Has ws w)
    → list_any p ws ≡ list_any p us
any_alike name p ws us under into back = same_test (list_any p ws) (list_any p us) (any_under name p ws us under into) (any_under name p us ws under back)

pub raise_alike : (g : Geometry) (name : LockName) (ws us : List PlanWrite) → ((w : PlanWrite) → Has ws w → w.lock ≡ name → Has us w) → ((w : PlanWrite) → Has us w → w.lock ≡ name → Has ws w) → raise_of g name ws ≡ raise_of g name us
raise_alike g name ws us into back = λ i. record { first = raise_by (freed i) (first i); second = raise_by (freed i) (second i) } where
  freed : list_any (frees g name) ws ≡ list_any (frees g name) us
  freed = any_alike name (frees g name) ws us (frees_under g name) into back

  first : list_any (writes_first g name) ws ≡ list_any (writes_first g name) us
  first = any_alike name (writes_first g name) ws us (first_under g name) into back

  second : list_any (writes_second g name) ws ≡ list_any (writes_second g name) us
  second = any_alike name (writes_second g name) ws us (second_under g name) into back

pub part_raise_alike : (g : Geometry) (name : LockName) (lbn : ℕ) (ws us : List PlanWrite) → ((w : PlanWrite) → Has ws w → w.lock ≡ name → Has us w) → ((w : PlanWrite) → Has us w → w.lock ≡ name → Has ws w)
    → part_raise g name lbn ws ≡ part_raise g name lbn us
part_raise_alike g name lbn ws us into back = ap (λ (k : Raise). cond (is_first_part g name lbn) k.first k.second) (raise_alike g name ws us into back)
