-- Claimed locks keep what one of their owners has seen.
use Rattle.std.proofs.Common.{◌≡◌, ◌&&◌, ◌||◌, ◌⊎◌, ◌≤◌, inl, inr, ℕ, nat_lt, Bool, true, false, List, [], ◌∷◌, Option, Some, None, is_some, filter, find, refl, arith, ap, sym, subst, ◌∙◌, cond, Contains}
use Rattle.std.specs.List.{list_any}
use Rattle.std.proofs.lemmas.Bool.Decides.{nat_tests}
use Rattle.plain_cat.specs.declared.mode.Mode.{Mode}
use Rattle.lock_db.specs.declared.name.LockName.{LockName}
use Rattle.lock_db.specs.Names.{is_same}
use Rattle.lock_db.proofs.Lists.{and-left, and-right, find-passes, list_any-none}
use Rattle.lock_db.proofs.Names.{is_same-same, is_same-refl}
use Rattle.lock_db.proofs.Rules.{Contains-cases, Contains-first, Contains-later}
use Rattle.dlm_core.specs.declared.holds.Hold.{Hold}
use Rattle.dlm_core.specs.States.{in_turn}
use Rattle.dlm_core.specs.Recoveries.{is_strong, later, latest, unmarked, kept_by, held_block}
use Rattle.dlm_core.specs.Restored.{has_lock, IsOfHolder}

true-false : true ≡ false → ⊥
true-false e = cc

module _ {X : Type 0} where
  pub find-contains : (p : X → Bool) (xs : List X) (a : X) → find p xs ≡ Some a → Contains xs a
  find-contains p [] a f = cc
  find-contains p (x ∷ xs) a f =
      (elim (p x) as (λ b. cond b (Some x) (find p xs) ≡ Some a → Contains (x ∷ xs) a) [
        | true ↦ λ g. let is : x ≡ a = cc in subst (λ (y : X). Contains (x ∷ xs) y) is (Contains-first x xs)
        | false ↦ λ g. Contains-later x xs a (find-contains p xs a g)
      ]) f

  -- what passes is an element of the filter, and the other way round
  pub filter-contains : (p : X → Bool) (xs : List X) (a : X) → Contains (filter p xs) a → Contains xs a × (p a ≡ true)
  filter-contains p [] a c = absurd (none a c)
    where
      none : (a : X) → Contains [] a → ⊥
      none a (k, l, e) = omega arith
  filter-contains p (x ∷ xs) a c =
      (elim (p x) as (λ b. p x ≡ b → Contains (cond b (x ∷ filter p xs) (filter p xs)) a → Contains (x ∷ xs) a × (p a ≡ true)) [
        | true ↦ λ e k. (elim (Contains-cases x (filter p xs) a k) [
          | inl h ↦ (subst (λ (y : X). Contains (x ∷ xs) y) h (Contains-first x xs), subst (λ (y : X). p y ≡ true) h e)
          | inr h ↦ let r = filter-contains p xs a h in (Contains-later x xs a r.0, r.1)
        ])
        | false ↦ λ e k. let r = filter-contains p xs a k in (Contains-later x xs a r.0, r.1)
      ]) refl c

  pub contains-filter : (p : X → Bool) (xs : List X) (a : X) → p a ≡ true → Contains xs a → Contains (filter p xs) a
  contains-filter p [] a e c = c
  contains-filter p (x ∷ xs) a e c =
      (elim (Contains-cases x xs a c) [
        | inl h ↦
            let t : p x ≡ true = ap p h ∙ e in
            subst (λ (ys : List X). Contains ys a) (sym (kept-first p x xs t)) (subst (λ (y : X). Contains (x ∷ filter p xs) y) h (Contains-first x (filter p xs)))
        | inr h ↦ (elim (p x) as (λ b. Contains (cond b (x ∷ filter p xs) (filter p xs)) a) [ true ↦ Contains-later x (filter p xs) a (contains-filter p xs a e h) | false ↦ contains-filter p xs a e h ])
      ])
    where
      kept-first : (p : X → Bool) (x : X) (xs : List X) → p x ≡ true → filter p (x ∷ xs) ≡ x ∷ filter p xs
      kept-first p x xs t = rw t refl

  not-any : (p : X → Bool) (xs : List X) (a : X) → list_any p xs ≡ false → Contains xs a → p a ≡ false
  not-any p [] a e c = absurd (none a c)
    where
      none : (a : X) → Contains [] a → ⊥
      none a (k, l, f) = omega arith
  not-any p (x ∷ xs) a e c =
      (elim (Contains-cases x xs a c) [
        | inl h ↦ ap p (sym h) ∙ or-first (p x) (list_any p xs) e
        | inr h ↦ not-any p xs a (or-second (p x) (list_any p xs) e) h
      ])
    where
      or-first : (a b : Bool) → (a || b) ≡ false → a ≡ false
      or-first true b k = cc
      or-first false b k = refl

      or-second : (a b : Bool) → (a || b) ≡ false → b ≡ false
      or-second true b k = cc
      or-second false b k = k

  some-filter : (p : X → Bool) (xs : List X) → list_any p xs ≡ true → (y : X) × ((ys : List X) × (filter p xs ≡ y ∷ ys))
  some-filter p [] e = cc
  some-filter p (x ∷ xs) e =
      (elim (p x) as (λ b. (b || list_any p xs) ≡ true → (y : X) × ((ys : List X) × (cond b (x ∷ filter p xs) (filter p xs) ≡ y ∷ ys))) [
        | true ↦ λ k. (x, (filter p xs, refl))
        | false ↦ λ k. some-filter p xs k
      ]) e

-- the lock of the greatest version, of some and of one more
record Last (hs : List Hold) (a : Hold) : Type 0 where
  last : Hold
  is : in_turn later hs (Some a) ≡ Some last
  from : (a ≡ last) ⊎ Contains hs last
  first : a.seen.version ≤ last.seen.version
  each : (h : Hold) → Contains hs h → h.seen.version ≤ last.seen.version

not-less : (a b : ℕ) → nat_lt a b ≡ false → b ≤ a
not-less a b e = grind (arith, nat_tests)

less-so : (a b : ℕ) → nat_lt a b ≡ true → a ≤ b
less-so a b e = grind (arith, nat_tests)

last-of : (hs : List Hold) (a : Hold) → Last hs a
last-of [] a = record { last = a; is = refl; from = inl refl; first = omega arith; each = λ h c. absurd (none h c) }
  where
    none : (h : Hold) → Contains [] h → ⊥
    none h (k, l, e) = omega arith
last-of (k ∷ hs) a =
    (elim (nat_lt a.seen.version k.seen.version) as (λ b. nat_lt a.seen.version k.seen.version ≡ b → Last (k ∷ hs) a) [
      | true ↦ λ e.
          let r = last-of hs k in
          let le : a.seen.version ≤ k.seen.version = less-so a.seen.version k.seen.version e in
          record {
            last = r.last;
            is = rw e r.is;
            from = elim r.from [ inl h ↦ inr (subst (λ (y : Hold). Contains (k ∷ hs) y) h (Contains-first k hs)) | inr h ↦ inr (Contains-later k hs r.last h) ];
            first = let f = r.first in omega (arith, le, f);
            each = λ h c. elim (Contains-cases k hs h c) [ inl q ↦ subst (λ (y : Hold). y.seen.version ≤ r.last.seen.version) q r.first | inr q ↦ r.each h q ];
          }
      | false ↦ λ e.
          let r = last-of hs a in
          let le : k.seen.version ≤ a.seen.version = not-less a.seen.version k.seen.version e in
          record {
            last = r.last;
            is = rw e r.is;
            from = elim r.from [ inl h ↦ inl h | inr h ↦ inr (Contains-later k hs r.last h) ];
            first = r.first;
            each = λ h c. elim (Contains-cases k hs h c) [ inl q ↦ subst (λ (y : Hold). y.seen.version ≤ r.last.seen.version) q (let f = r.first in omega (arith, le, f)) | inr q ↦ r.each h q ];
          }
    ]) refl

and-yes : (b c : Bool) → c ≡ true → b ≡ (b && c)
and-yes true c e = sym e
and-yes false c e = refl

and-no : (b c : Bool) → c ≡ false → false ≡ (b && c)
and-no true c e = sym e
and-no false c e = refl

and-last : (a b : Bool) → (a && b) ≡ false → a ≡ true → b ≡ false
and-last true b e f = e
and-last false b e f = cc

strong-some : (o : Option Mode) → is_strong o ≡ true → is_some o ≡ true
strong-some None e = cc
strong-some (Some m) e = refl

module _ (hs : List Hold) (x : LockName) (some : has_lock x hs ≡ true) where
  abbrev strong : Hold → Bool
  strong h = is_same h.name x && is_strong h.belief

  abbrev locks : Hold → Bool
  locks h = is_same h.name x && is_some h.belief

  kept-strong : (h : Hold) → find strong hs ≡ Some h → IsOfHolder hs x h.seen
  kept-strong h f =
      let passes : strong h ≡ true = find-passes strong hs h f in
      let is : is_strong h.belief ≡ true = and-right (is_same h.name x) (is_strong h.belief) passes in
      record {
        holder = h;
        claimed = find-contains strong hs h f;
        on_name = is_same-same h.name x (and-left (is_same h.name x) (is_strong h.belief) passes);
        has_lock = strong-some h.belief is;
        bytes = refl;
        counted = refl;
        mark = and-yes h.seen.valid (is_strong h.belief) is;
        weak = λ e. absurd (true-false (sym is ∙ e));
      }

  kept-last : (y : Hold) (ys : List Hold) → filter locks hs ≡ y ∷ ys → find strong hs ≡ None → (r : Last ys y) → IsOfHolder hs x (record r.last.seen { valid = false })
  kept-last y ys fe none r =
      let here : Contains (y ∷ ys) r.last = (elim r.from [ inl h ↦ subst (λ (k : Hold). Contains (y ∷ ys) k) h (Contains-first y ys) | inr h ↦ Contains-later y ys r.last h ]) in
      let k = filter-contains locks hs r.last (subst (λ (ks : List Hold). Contains ks r.last) (sym fe) here) in
      let no_strong : (h : Hold) → Contains hs h → is_same h.name x ≡ true → is_strong h.belief ≡ false = λ h c n. and-last (is_same h.name x) (is_strong h.belief) (not-any strong hs h (list_any-none strong hs none) c) n in
      let named : is_same r.last.name x ≡ true = and-left (is_same r.last.name x) (is_some r.last.belief) k.1 in
      record {
        holder = r.last;
        claimed = k.0;
        on_name = is_same-same r.last.name x named;
        has_lock = and-right (is_same r.last.name x) (is_some r.last.belief) k.1;
        bytes = refl;
        counted = refl;
        mark = and-no r.last.seen.valid (is_strong r.last.belief) (no_strong r.last k.0 named);
        weak = λ e h c n s.
            let same : is_same h.name x ≡ true = rw n (is_same-refl x) in
            let in_filter : Contains (y ∷ ys) h = subst (λ (ks : List Hold). Contains ks h) fe (contains-filter locks hs h (rw (same, s) refl) c) in
            (no_strong h c same, elim (Contains-cases y ys h in_filter) [ inl q ↦ subst (λ (j : Hold). j.seen.version ≤ r.last.seen.version) q r.first | inr q ↦ r.each h q ]);
      }

  pub kept-holder : IsOfHolder hs x (held_block x hs)
  kept-holder =
      (elim (find strong hs) as (λ f. find strong hs ≡ f → IsOfHolder hs x (kept_by f (latest x hs))) [
        | Some h ↦ λ f. kept-strong h f
        | None ↦ λ f.
            let g = some-filter locks hs some in
            let r = last-of g.1.0 g.0 in
            let is : latest x hs ≡ Some r.last = ap (λ (ks : List Hold). in_turn later ks None) g.1.1 ∙ r.is in
            subst (λ (o : Option Hold). IsOfHolder hs x (unmarked o)) (sym is) (kept-last g.0 g.1.0 g.1.1 f r)
      ]) refl
