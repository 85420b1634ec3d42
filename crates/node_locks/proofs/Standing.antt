-- How a node's locks stand in a table, and in a later one.
use Rattle.std.proofs.Common.{◌≡◌, ◌⊎◌, ◌-◌, ℕ, suc, Bool, true, false, List, [], ◌∷◌, ◌++◌, Some, None, slice_get, length, option_map, option_and_then, is_some, unwrap_or, if◌then◌else◌, refl, sym, ap, subst, ◌∙◌, inl, inr, arith}
use Rattle.plain_cat.specs.declared.mode.Mode.{Mode}
use Rattle.lock_db.specs.declared.name.LockName.{LockName}
use Rattle.lock_db.specs.declared.resource.Resource.{Resource}
use Rattle.lock_db.specs.Queues.{is_queued, held}
use Rattle.lock_db.specs.Laws.{stands_at}
use Rattle.base_words.specs.Lists.{Has}
use Rattle.node_locks.specs.Held.{system_of, has_lock, names_of, IsGranted, IsWaiting, StandInOrder, is_queued_at, waits_at, held_locks}
use Rattle.node_locks.specs.HeldLaws.{StandsStill, GoesOn}

pub queued-granted : (t : List Resource) (n : ℕ) (l : LockName × Mode) → IsGranted t n l → is_queued_at t n l ≡ false
queued-granted t n l g = ap (λ o. unwrap_or (option_map is_queued o) false) g

pub queued-waiting : (t : List Resource) (n : ℕ) (l : LockName × Mode) → IsWaiting t n l → is_queued_at t n l ≡ true
queued-waiting t n l (inl w) = ap (λ o. unwrap_or (option_map is_queued o) false) w
queued-waiting t n l (inr w) = ap (λ o. unwrap_or (option_map is_queued o) false) w

-- each of the locks is granted
abbrev pub AllGranted : List Resource → ℕ → List (LockName × Mode) → Type 0
AllGranted t n [] = Unit {0}
AllGranted t n (l ∷ ls) = IsGranted t n l × AllGranted t n ls

-- where nothing waits, all locks are granted
granted-last : (t : List Resource) (n : ℕ) (l : LockName × Mode) → IsGranted t n l ⊎ IsWaiting t n l → is_queued_at t n l ≡ false → IsGranted t n l
granted-last t n l (inl g) q = g
granted-last t n l (inr w) q = let k = queued-waiting t n l w in cc

pub granted-all : (t : List Resource) (n : ℕ) (ls : List (LockName × Mode)) → StandInOrder t n ls → waits_at t n ls ≡ false → AllGranted t n ls
granted-all t n [] s q = tt
granted-all t n (l ∷ []) s q = (granted-last t n l s q, tt)
granted-all t n (l ∷ (k ∷ ls)) s q = (s.0, granted-all t n (k ∷ ls) s.1 q)

-- and the other way round
pub in_order-granted : (t : List Resource) (n : ℕ) (ls : List (LockName × Mode)) → AllGranted t n ls → StandInOrder t n ls
in_order-granted t n [] g = tt
in_order-granted t n (l ∷ []) g = inl g.0
in_order-granted t n (l ∷ (k ∷ ls)) g = (g.0, in_order-granted t n (k ∷ ls) g.1)

pub waits-granted : (t : List Resource) (n : ℕ) (ls : List (LockName × Mode)) → AllGranted t n ls → waits_at t n ls ≡ false
waits-granted t n [] g = refl
waits-granted t n (l ∷ []) g = queued-granted t n l g.0
waits-granted t n (l ∷ (k ∷ ls)) g = waits-granted t n (k ∷ ls) g.1

-- locks that are granted in a later table too
pub granted-later : (t u : List Resource) (n : ℕ) (ls : List (LockName × Mode)) → ((l : LockName × Mode) → Has (names_of ls) l.0 → IsGranted t n l → IsGranted u n l) → AllGranted t n ls → AllGranted u n ls
granted-later t u n [] h g = tt
granted-later t u n (l ∷ ls) h g = (h l (inl refl) g.0, granted-later t u n ls (λ k i. h k (inr i)) g.1)

pub held-idle : (t : List Resource) (n : ℕ) (ls : List (LockName × Mode)) → waits_at t n ls ≡ false → held_locks t n ls ≡ ls
held-idle t n [] q = refl
held-idle t n (l ∷ []) q = rw q refl
held-idle t n (l ∷ (k ∷ ls)) q = ap (λ ys. l ∷ ys) (held-idle t n (k ∷ ls) q)

-- one lock more, the last one
pub in_order-push : (t : List Resource) (n : ℕ) (ls : List (LockName × Mode)) (l : LockName × Mode) → AllGranted t n ls → IsGranted t n l ⊎ IsWaiting t n l → StandInOrder t n (ls ++ l ∷ [])
in_order-push t n [] l g s = s
in_order-push t n (k ∷ []) l g s = (g.0, s)
in_order-push t n (k ∷ (j ∷ ls)) l g s = (g.0, in_order-push t n (j ∷ ls) l g.1 s)

pub waits-push : (t : List Resource) (n : ℕ) (ls : List (LockName × Mode)) (l : LockName × Mode) → waits_at t n (ls ++ l ∷ []) ≡ is_queued_at t n l
waits-push t n [] l = refl
waits-push t n (k ∷ []) l = refl
waits-push t n (k ∷ (j ∷ ls)) l = waits-push t n (j ∷ ls) l

pub held-push : (t : List Resource) (n : ℕ) (ls : List (LockName × Mode)) (l : LockName × Mode) → held_locks t n (ls ++ l ∷ []) ≡ ls ++ held_locks t n (l ∷ [])
held-push t n [] l = refl
held-push t n (k ∷ []) l = refl
held-push t n (k ∷ (j ∷ ls)) l = ap (λ ys. k ∷ ys) (held-push t n (j ∷ ls) l)

-- the last lock of a list
pub waits-last : (t : List Resource) (n : ℕ) (ls : List (LockName × Mode)) (l : LockName × Mode) → slice_get ls (length ls - 1) ≡ Some l → waits_at t n ls ≡ is_queued_at t n l
waits-last t n [] l e = cc
waits-last t n (k ∷ []) l e = let is : k ≡ l = cc in ap (is_queued_at t n) is
waits-last t n (k ∷ (j ∷ ls)) l e =
    let whole : length (k ∷ (j ∷ ls)) - 1 ≡ suc (length ls) = omega arith in
    let rest : length (j ∷ ls) - 1 ≡ length ls = omega arith in
    waits-last t n (j ∷ ls) l (rw rest (rw whole at e))

-- What a node's locks in one table are in a later one: what is granted stays so, what waits may be granted, no lock goes, and nothing
-- comes.
pub record ComesTo (m : ℕ) (t u : List Resource) : Type 0 where
  pub granted : (l : LockName × Mode) → IsGranted t m l → IsGranted u m l
  pub waiting : (l : LockName × Mode) → IsWaiting t m l → IsGranted u m l ⊎ IsWaiting u m l
  pub lasting : (name : LockName) → has_lock name (system_of m) t ≡ true → has_lock name (system_of m) u ≡ true
  pub nothing : (name : LockName) → stands_at name (system_of m) t ≡ None → stands_at name (system_of m) u ≡ None

-- a lock that is the last of a row
comes-last : (m : ℕ) (t u : List Resource) (l : LockName × Mode) → ComesTo m t u → IsGranted t m l ⊎ IsWaiting t m l → IsGranted u m l ⊎ IsWaiting u m l
comes-last m t u l o (inl g) = inl (o.granted l g)
comes-last m t u l o (inr w) = o.waiting l w

pub comes-in_order : (m : ℕ) (t u : List Resource) (ls : List (LockName × Mode)) → ComesTo m t u → StandInOrder t m ls → StandInOrder u m ls
comes-in_order m t u [] o s = tt
comes-in_order m t u (l ∷ []) o s = comes-last m t u l o s
comes-in_order m t u (l ∷ (k ∷ ls)) o s = (o.granted l s.0, comes-in_order m t u (k ∷ ls) o s.1)

held-last : (m : ℕ) (t u : List Resource) (l x : LockName × Mode) → ComesTo m t u → IsGranted t m l ⊎ IsWaiting t m l → Has (held_locks t m (l ∷ [])) x → Has (held_locks u m (l ∷ [])) x
held-last m t u l x o (inl g) h =
    let before = queued-granted t m l g in
    let after = queued-granted u m l (o.granted l g) in
    rw after (rw before at h)
held-last m t u l x o (inr w) h = let before = queued-waiting t m l w in absurd (rw before at h)

-- what a node holds it goes on to hold
comes-held : (m : ℕ) (t u : List Resource) (ls : List (LockName × Mode)) (x : LockName × Mode) → ComesTo m t u → StandInOrder t m ls → Has (held_locks t m ls) x → Has (held_locks u m ls) x
comes-held m t u [] x o s h = h
comes-held m t u (l ∷ []) x o s h = held-last m t u l x o s h
comes-held m t u (l ∷ (k ∷ ls)) x o s h = elim h [ inl e ↦ inl e | inr r ↦ inr (comes-held m t u (k ∷ ls) x o s.1 r) ]

-- and who waits for nothing goes on so
pub comes-on : (m : ℕ) (t u : List Resource) (ls : List (LockName × Mode)) → ComesTo m t u → StandInOrder t m ls → GoesOn t u m ls
comes-on m t u ls o s = record {
  waits = λ q. waits-granted u m ls (granted-later t u m ls (λ l i g. o.granted l g) (granted-all t m ls s q));
  holds = λ x h. comes-held m t u ls x o s h;
  lasting = λ name i h. o.lasting name h;
}

-- at each name a node stands as it stood
abbrev pub StandsAlike : ℕ → List Resource → List Resource → Type 0
StandsAlike m t u = (name : LockName) → stands_at name (system_of m) u ≡ stands_at name (system_of m) t

pub alike-comes : (m : ℕ) (t u : List Resource) → StandsAlike m t u → ComesTo m t u
alike-comes m t u a = record { granted = λ l g. a l.0 ∙ g; waiting = λ l w. inr (elim w [ inl e ↦ inl (a l.0 ∙ e) | inr e ↦ inr (a l.0 ∙ e) ]); lasting = λ name h. ap (λ o. is_some (option_and_then held o)) (a name) ∙ h; nothing = λ name e. a name ∙ e }

-- a row at whose names a node stands as it stood
abbrev pub AlikeAt : ℕ → List Resource → List Resource → List (LockName × Mode) → Type 0
AlikeAt m t u ls = (name : LockName) → Has (names_of ls) name → stands_at name (system_of m) u ≡ stands_at name (system_of m) t

queued-alike : (m : ℕ) (t u : List Resource) (l : LockName × Mode) → stands_at l.0 (system_of m) u ≡ stands_at l.0 (system_of m) t → is_queued_at u m l ≡ is_queued_at t m l
queued-alike m t u l e = ap (λ o. unwrap_or (option_map is_queued o) false) e

waits-alike : (m : ℕ) (t u : List Resource) (ls : List (LockName × Mode)) → AlikeAt m t u ls → waits_at u m ls ≡ waits_at t m ls
waits-alike m t u [] a = refl
waits-alike m t u (l ∷ []) a = queued-alike m t u l (a l.0 (inl refl))
waits-alike m t u (l ∷ (k ∷ ls)) a = waits-alike m t u (k ∷ ls) (λ name i. a name (inr i))

held-alike : (m : ℕ) (t u : List Resource) (ls : List (LockName × Mode)) → AlikeAt m t u ls → held_locks u m ls ≡ held_locks t m ls
held-alike m t u [] a = refl
held-alike m t u (l ∷ []) a = ap (λ b. if b then [] else l ∷ []) (queued-alike m t u l (a l.0 (inl refl)))
held-alike m t u (l ∷ (k ∷ ls)) a = ap (λ ys. l ∷ ys) (held-alike m t u (k ∷ ls) (λ name i. a name (inr i)))

pub stands-still : (m : ℕ) (t u : List Resource) (ls : List (LockName × Mode)) → AlikeAt m t u ls → StandsStill t u m ls
stands-still m t u ls a = record { waits = waits-alike m t u ls a; holds = held-alike m t u ls a; stands = a }

-- in the same table, and over two changes of it
pub still-same : (t : List Resource) (m : ℕ) (ls : List (LockName × Mode)) → StandsStill t t m ls
still-same t m ls = record { waits = refl; holds = refl; stands = λ name h. refl }

pub still-then : (t u v : List Resource) (m : ℕ) (ls : List (LockName × Mode)) → StandsStill t u m ls → StandsStill u v m ls → StandsStill t v m ls
still-then t u v m ls a b = record { waits = b.waits ∙ a.waits; holds = b.holds ∙ a.holds; stands = λ name h. b.stands name h ∙ a.stands name h }

pub goes-same : (t : List Resource) (m : ℕ) (ls : List (LockName × Mode)) → GoesOn t t m ls
goes-same t m ls = record { waits = λ q. q; holds = λ l h. h; lasting = λ name i h. h }

pub goes-then : (t u v : List Resource) (m : ℕ) (ls : List (LockName × Mode)) → GoesOn t u m ls → GoesOn u v m ls → GoesOn t v m ls
goes-then t u v m ls a b = record { waits = λ q. b.waits (a.waits q); holds = λ l h. b.holds l (a.holds l h); lasting = λ name i h. b.lasting name i (a.lasting name i h) }

-- a row that stands still loses nothing
pub goes-still : (t u : List Resource) (m : ℕ) (ls : List (LockName × Mode)) → StandsStill t u m ls → GoesOn t u m ls
goes-still t u m ls s = record {
  waits = λ q. s.waits ∙ q;
  holds = λ l h. subst (λ (ks : List (LockName × Mode)). Has ks l) (sym s.holds) h;
  lasting = λ name i h. ap (λ o. is_some (option_and_then held o)) (s.stands name i) ∙ h;
}

alike-last : (m : ℕ) (t u : List Resource) (l : LockName × Mode) → stands_at l.0 (system_of m) u ≡ stands_at l.0 (system_of m) t → IsGranted t m l ⊎ IsWaiting t m l → IsGranted u m l ⊎ IsWaiting u m l
alike-last m t u l e (inl g) = inl (e ∙ g)
alike-last m t u l e (inr (inl w)) = inr (inl (e ∙ w))
alike-last m t u l e (inr (inr w)) = inr (inr (e ∙ w))

pub alike-in_order : (m : ℕ) (t u : List Resource) (ls : List (LockName × Mode)) → AlikeAt m t u ls → StandInOrder t m ls → StandInOrder u m ls
alike-in_order m t u [] a s = tt
alike-in_order m t u (l ∷ []) a s = alike-last m t u l (a l.0 (inl refl)) s
alike-in_order m t u (l ∷ (k ∷ ls)) a s = (a l.0 (inl refl) ∙ s.0, alike-in_order m t u (k ∷ ls) (λ name i. a name (inr i)) s.1)

-- what a node holds is granted
granted-one : (t : List Resource) (n : ℕ) (l x : LockName × Mode) → IsGranted t n l ⊎ IsWaiting t n l → Has (held_locks t n (l ∷ [])) x → IsGranted t n x
granted-one t n l x (inl g) h = let q = queued-granted t n l g in elim (rw q at h) [ inl e ↦ rw (← e) g | inr z ↦ absurd z ]
granted-one t n l x (inr w) h = let q = queued-waiting t n l w in absurd (rw q at h)

pub granted-held : (t : List Resource) (n : ℕ) (ls : List (LockName × Mode)) (x : LockName × Mode) → StandInOrder t n ls → Has (held_locks t n ls) x → IsGranted t n x
granted-held t n [] x s h = absurd h
granted-held t n (l ∷ []) x s h = granted-one t n l x s h
granted-held t n (l ∷ (k ∷ ls)) x s h = elim h [ inl e ↦ rw (← e) s.0 | inr r ↦ granted-held t n (k ∷ ls) x s.1 r ]

-- a lock that a node asked for and has is one that it holds
held-one : (t : List Resource) (n : ℕ) (l x : LockName × Mode) → IsGranted t n l → l ≡ x → Has (held_locks t n (l ∷ [])) x
held-one t n l x g e = let q = queued-granted t n l g in rw q (inl e)

pub held-granted : (t : List Resource) (n : ℕ) (ls : List (LockName × Mode)) (x : LockName × Mode) → StandInOrder t n ls → Has ls x → IsGranted t n x → Has (held_locks t n ls) x
held-granted t n [] x s i g = i
held-granted t n (l ∷ []) x s i g = elim i [ inl e ↦ held-one t n l x (rw e g) e | inr z ↦ absurd z ]
held-granted t n (l ∷ (k ∷ ls)) x s i g = elim i [ inl e ↦ inl e | inr r ↦ inr (held-granted t n (k ∷ ls) x s.1 r g) ]

-- what a node holds it asked for
asked-one : (t : List Resource) (n : ℕ) (l x : LockName × Mode) (queued : Bool) → Has (if queued then [] else l ∷ []) x → Has (l ∷ []) x
asked-one t n l x true h = absurd h
asked-one t n l x false h = h

pub held-asked : (t : List Resource) (n : ℕ) (ls : List (LockName × Mode)) (x : LockName × Mode) → Has (held_locks t n ls) x → Has ls x
held-asked t n [] x h = h
held-asked t n (l ∷ []) x h = asked-one t n l x (is_queued_at t n l) h
held-asked t n (l ∷ (k ∷ ls)) x h = elim h [ inl e ↦ inl e | inr r ↦ inr (held-asked t n (k ∷ ls) x r) ]

-- how a lock that a node asked for stands
stands-last : (t : List Resource) (n : ℕ) (l : LockName × Mode) (mode : Mode) → IsGranted t n l ⊎ IsWaiting t n l → IsGranted t n (l.0, mode) → l ≡ (l.0, mode)
stands-last t n l mode (inl g) k = let same : l.1 ≡ mode = cc in ap (λ (x : Mode). let p : LockName × Mode = (l.0, x) in p) same
stands-last t n l mode (inr (inl w)) k = cc
stands-last t n l mode (inr (inr w)) k = cc

pub asked-granted : (t : List Resource) (n : ℕ) (ls : List (LockName × Mode)) (name : LockName) (mode : Mode) → StandInOrder t n ls → Has (names_of ls) name → IsGranted t n (name, mode) → Has ls (name, mode)
asked-granted t n [] name mode s i g = i
asked-granted t n (l ∷ []) name mode s i g = elim i [ inl e ↦ inl (rw (← e) (stands-last t n l mode s (rw e g))) | inr z ↦ absurd z ]
asked-granted t n (l ∷ (k ∷ ls)) name mode s i g = elim i [ inl e ↦ inl (rw (← e) (stands-last t n l mode (inl s.0) (rw e g))) | inr r ↦ inr (asked-granted t n (k ∷ ls) name mode s.1 r g) ]

-- where the last lock waits
waiting-one : (t : List Resource) (n : ℕ) (l : LockName × Mode) → IsGranted t n l ⊎ IsWaiting t n l → is_queued_at t n l ≡ true → IsWaiting t n l
waiting-one t n l (inl g) q = let k = queued-granted t n l g in cc
waiting-one t n l (inr w) q = w

pub waiting-last : (t : List Resource) (n : ℕ) (front : List (LockName × Mode)) (l : LockName × Mode) → StandInOrder t n (front ++ l ∷ []) → is_queued_at t n l ≡ true → IsWaiting t n l
waiting-last t n [] l s q = waiting-one t n l s q
waiting-last t n (k ∷ []) l s q = waiting-one t n l s.1 q
waiting-last t n (k ∷ (j ∷ ls)) l s q = waiting-last t n (j ∷ ls) l s.1 q

-- how the lock on a name stands
pub named-first : (t : List Resource) (n : ℕ) (l : LockName × Mode) (ls : List (LockName × Mode)) → StandInOrder t n (l ∷ ls) → IsGranted t n l ⊎ IsWaiting t n l
named-first t n l [] s = s
named-first t n l (j ∷ ls) s = inl s.0

pub in_order-rest : (t : List Resource) (n : ℕ) (l : LockName × Mode) (ls : List (LockName × Mode)) → StandInOrder t n (l ∷ ls) → StandInOrder t n ls
in_order-rest t n l [] s = tt
in_order-rest t n l (j ∷ ls) s = s.1

pub stands-named : (t : List Resource) (n : ℕ) (ls : List (LockName × Mode)) (name : LockName) → StandInOrder t n ls → Has (names_of ls) name → (l : LockName × Mode) × (l.0 ≡ name) × (IsGranted t n l ⊎ IsWaiting t n l)
stands-named t n [] name s i = absurd i
stands-named t n (l ∷ ls) name s i = elim i [ inl e ↦ (l, e, named-first t n l ls s) | inr r ↦ stands-named t n ls name (in_order-rest t n l ls s) r ]
