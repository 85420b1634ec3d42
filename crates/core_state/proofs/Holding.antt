-- The names of the locks that are held in a mode or a stronger one.
use Rattle.std.proofs.Common.{◌≡◌, ◌≤◌, Bool, true, false, cond, List, [], ◌∷◌, map, refl, ap, inl, inr, arith}
use Rattle.std.specs.Prelude.{filter, nat_le}
use Rattle.std.proofs.lemmas.Bool.Decides.{nat_tests}
use Rattle.lock_db.specs.declared.name.LockName.{LockName}
use Rattle.plain_cat.specs.Modes.{rank}
use Rattle.plain_cat.specs.declared.mode.Mode.{Mode}
use Rattle.plain_cat.specs.declared.mode.Mode.TheVariants.{CR}
use Rattle.base_words.specs.Lists.{Has}
use Rattle.op_law.specs.Laws.{held_in}

-- a lock on this name in this mode or a stronger one
pub record HasIn (mode : Mode) (locks : List (LockName × Mode)) (name : LockName) : Type 0 where
  pub in_mode : Mode
  pub has : Has locks (name, in_mode)
  pub strong : rank mode ≤ rank in_mode

abbrev strong_in : Mode → LockName × Mode → Bool
strong_in mode k = nat_le (rank mode) (rank k.1)

abbrev named : List (LockName × Mode) → List LockName
named ks = map (λ (k : LockName × Mode). k.0) ks

pub is_in_held : (mode : Mode) (locks : List (LockName × Mode)) (name : LockName) → HasIn mode locks name → Has (held_in mode locks) name
is_in_held mode [] name h = absurd h.has
is_in_held mode (l ∷ locks) name h =
    let behind : Has locks (name, h.in_mode) → Has (held_in mode locks) name = λ t. is_in_held mode locks name (record { in_mode = h.in_mode; has = t; strong = h.strong }) in
    by_test (strong_in mode l) refl behind where
      by_test : (b : Bool) → strong_in mode l ≡ b → (Has locks (name, h.in_mode) → Has (held_in mode locks) name) → Has (named (cond b (l ∷ filter (strong_in mode) locks) (filter (strong_in mode) locks))) name
      by_test true e behind = elim h.has [ inl f ↦ inl (ap (λ (k : LockName × Mode). k.0) f) | inr t ↦ inr (behind t) ]
      by_test false e behind = elim h.has [
        | inl f ↦ absurd (let g : rank l.1 ≡ rank h.in_mode = ap (λ (k : LockName × Mode). rank k.1) f in let le : rank mode ≤ rank h.in_mode = h.strong in grind (arith, nat_tests))
        | inr t ↦ behind t
      ]

pub in_held_is : (mode : Mode) (locks : List (LockName × Mode)) (name : LockName) → Has (held_in mode locks) name → HasIn mode locks name
in_held_is mode [] name t = absurd t
in_held_is mode (l ∷ locks) name t =
    let further : Has (held_in mode locks) name → HasIn mode (l ∷ locks) name = λ u. let h = in_held_is mode locks name u in record { in_mode = h.in_mode; has = inr h.has; strong = h.strong } in
    by_test (strong_in mode l) refl further t where
      by_test : (b : Bool) → strong_in mode l ≡ b → (Has (held_in mode locks) name → HasIn mode (l ∷ locks) name)
          → Has (named (cond b (l ∷ filter (strong_in mode) locks) (filter (strong_in mode) locks))) name → HasIn mode (l ∷ locks) name
      by_test true e further (inl f) = record { in_mode = l.1; has = inl (ap (λ n. (n, l.1)) f); strong = grind (arith, nat_tests) }
      by_test true e further (inr u) = further u
      by_test false e further u = further u

-- more locks, more names
pub held_grows : (mode : Mode) (xs ys : List (LockName × Mode)) (name : LockName) → ((l : LockName × Mode) → Has xs l → Has ys l) → Has (held_in mode xs) name → Has (held_in mode ys) name
held_grows mode xs ys name more t =
    let h = in_held_is mode xs name t in
    is_in_held mode ys name (record { in_mode = h.in_mode; has = more (name, h.in_mode) h.has; strong = h.strong })

-- a weaker mode, more names
pub held_weaker : (strong weak : Mode) (xs : List (LockName × Mode)) (name : LockName) → rank weak ≤ rank strong → Has (held_in strong xs) name → Has (held_in weak xs) name
held_weaker strong weak xs name le t =
    let h = in_held_is strong xs name t in
    is_in_held weak xs name (record { in_mode = h.in_mode; has = h.has; strong = (let a : rank strong ≤ rank h.in_mode = h.strong in omega arith) })

pub named_there : (ls : List (LockName × Mode)) (name : LockName) (mode : Mode) → Has ls (name, mode) → Has (named ls) name
named_there [] name mode h = absurd h
named_there (l ∷ ls) name mode (inl e) = inl (ap (λ (k : LockName × Mode). k.0) e)
named_there (l ∷ ls) name mode (inr h) = inr (named_there ls name mode h)

-- a name that is held is one of the names
pub held_named : (mode : Mode) (ls : List (LockName × Mode)) (name : LockName) → Has (held_in mode ls) name → Has (map (λ (k : LockName × Mode). k.0) ls) name
held_named mode ls name h = let k = in_held_is mode ls name h in named_there ls name k.in_mode k.has

-- more locks of CR or stronger, more names
pub strong_grows : (mode : Mode) (xs ys : List (LockName × Mode)) (name : LockName) → rank CR ≤ rank mode → ((l : LockName × Mode) → rank CR ≤ rank l.1 → Has xs l → Has ys l) → Has (held_in mode xs) name → Has (held_in mode ys) name
strong_grows mode xs ys name low more t =
    let h = in_held_is mode xs name t in
    let a : rank mode ≤ rank h.in_mode = h.strong in
    let b : rank CR ≤ rank h.in_mode = omega arith in
    is_in_held mode ys name (record { in_mode = h.in_mode; has = more (name, h.in_mode) b h.has; strong = h.strong })
