-- The claims of a name stand in order.
use Rattle.std.proofs.Common.{◌≡◌, ◌==◌, ◌&&◌, ◌||◌, ◌++◌, ℕ, Bool, true, false, not, List, [], ◌∷◌, Option, Some, None, is_some, filter, find, refl, arith, ap, sym, subst, ◌∙◌, cond, if◌then◌else◌}
use Rattle.std.specs.List.{list_all}
use Rattle.std.proofs.lemmas.Bool.Decides.{nat_tests}
use Rattle.plain_cat.specs.declared.mode.Mode.{Mode}
use Rattle.lock_db.specs.declared.name.LockName.{LockName}
use Rattle.lock_db.specs.declared.name.Owner.{Owner}
use Rattle.lock_db.specs.Names.{is_same, is_before, same_owner}
use Rattle.lock_db.proofs.Lists.{and-left, and-right, and-both, not-true, list_all-head, list_all-tail, list_all-weaker, list_all-filter, list_all-joined, list_all-passing}
use Rattle.lock_db.proofs.Names.{is_same-same}
use Rattle.dlm_core.specs.declared.messages.Letter.{Letter}
use Rattle.dlm_core.specs.declared.messages.Letter.TheVariants.{Ask, Drop, Grant, Claim}
use Rattle.dlm_core.specs.declared.messages.Message.{Message}
use Rattle.dlm_core.specs.declared.holds.Hold.{Hold}
use Rattle.dlm_core.specs.declared.blocks.Seen.{Seen}
use Rattle.lock_db.specs.declared.resource.Resource.{Resource}
use Rattle.dlm_core.specs.declared.queue.Waiter.{Waiter}
use Rattle.dlm_core.specs.declared.events.Event.{Event}
use Rattle.dlm_core.specs.declared.events.Event.TheVariants as event
use Rattle.dlm_core.specs.Modes.{crosses, lowers}
use Rattle.dlm_core.specs.States.{State, recovery, hold_at, asked_hold, is_at, is_lower, is_earlier_on, is_earlier, noted, put_before, is_between, past_first, start}
use Rattle.dlm_core.specs.Steps.{called, ask_after, drop_after, served, taken, goes_before, put_last, taken_from, taken_all, is_served}
use Rattle.dlm_core.specs.Recoveries.{is_with, is_open, block_for, closed, recovered_with, ended, ended_if, all_ended, again, reclaimed_lock, reclaimed, asked_again, all_asked_again}
use Rattle.dlm_core.specs.Deaths.{was_master, left_holds, bereft, killed}
use Rattle.dlm_core.specs.Events.{arrived, received, pass_after, names_living, played, after}
use Rattle.dlm_core.specs.Runs.{after_all}
use Rattle.dlm_core.specs.Order.{is_taken_first, goes_in_front, in_order, AsksAreTakenInOrder, may_stand_first, queue_in_order, QueueIsInOrder}
use Rattle.dlm_core.proofs.Trails.{taken-stays, ended-stays}
use Rattle.dlm_core.proofs.Endings.{taken-holds, all-ended-holds}

-- ---- what is noted stands in order of names, and on one name as the asks are to be taken

-- each stands before those behind it
abbrev sorted : List Hold → Bool
sorted [] = true
sorted (h ∷ hs) = list_all (is_earlier h) hs && sorted hs

before-trans : (a b c : LockName) → is_before a b ≡ true → is_before b c ≡ true → is_before a c ≡ true
before-trans a b c e f = grind (arith, nat_tests)

before-same : (a b c : LockName) → is_before a b ≡ true → is_same b c ≡ true → is_before a c ≡ true
before-same a b c e f = grind (arith, nat_tests)

same-before : (a b c : LockName) → is_same a b ≡ true → is_before b c ≡ true → is_before a c ≡ true
same-before a b c e f = grind (arith, nat_tests)

same-trans : (a b c : LockName) → is_same a b ≡ true → is_same b c ≡ true → is_same a c ≡ true
same-trans a b c e f = grind (arith, nat_tests)

before-other : (a b : LockName) → is_before a b ≡ true → is_same a b ≡ false
before-other a b e = grind (arith, nat_tests)

before-or : (a b : LockName) → is_before a b ≡ false → is_same a b ≡ false → is_before b a ≡ true
before-or a b e f = grind (arith, nat_tests)

same-turned : (a b : LockName) → is_same a b ≡ true → is_same b a ≡ true
same-turned a b e = grind (arith, nat_tests)

lower-trans : (a b c : Owner) → is_lower a b ≡ true → is_lower b c ≡ true → is_lower a c ≡ true
lower-trans a b c e f = grind (arith, nat_tests)

lower-or : (a b : Owner) → is_lower a b ≡ false → same_owner a b ≡ false → is_lower b a ≡ true
lower-or a b e f = grind (arith, nat_tests)

on-trans : (x y z : Bool) (a b c : Owner) → is_earlier_on x y a b ≡ true → is_earlier_on y z b c ≡ true → is_earlier_on x z a c ≡ true
on-trans true true true a b c e f = lower-trans a b c e f
on-trans true true false a b c e f = refl
on-trans true false true a b c e f = cc
on-trans true false false a b c e f = refl
on-trans false true z a b c e f = cc
on-trans false false true a b c e f = cc
on-trans false false false a b c e f = lower-trans a b c e f

on-or : (x y : Bool) (a b : Owner) → is_earlier_on x y a b ≡ false → same_owner a b ≡ false → is_earlier_on y x b a ≡ true
on-or true true a b e f = lower-or a b e f
on-or true false a b e f = cc
on-or false true a b e f = refl
on-or false false a b e f = lower-or a b e f

-- the order by its two parts
data Earlier (h k : Hold) : Type 0 where
  ByName : is_before h.name k.name ≡ true → Earlier h k
  OnName : is_same h.name k.name ≡ true → is_earlier_on (is_some h.belief) (is_some k.belief) h.owner k.owner ≡ true → Earlier h k

earlier-of : (h k : Hold) → is_earlier h k ≡ true → Earlier h k
earlier-of h k e =
    (elim (is_before h.name k.name) as (λ b. is_before h.name k.name ≡ b → (b || (is_same h.name k.name && is_earlier_on (is_some h.belief) (is_some k.belief) h.owner k.owner)) ≡ true → Earlier h k) [
      | true ↦ λ f g. Earlier.ByName f
      | false ↦ λ f g. Earlier.OnName (and-left (is_same h.name k.name) _ g) (and-right (is_same h.name k.name) _ g)
    ]) refl e

of-earlier : (h k : Hold) → Earlier h k → is_earlier h k ≡ true
of-earlier h k (Earlier.ByName e) = rw e refl
of-earlier h k (Earlier.OnName e f) = rw (e, f) (or-yes (is_before h.name k.name))
  where
    or-yes : (b : Bool) → (b || true) ≡ true
    or-yes true = refl
    or-yes false = refl

both-earlier : (h k j : Hold) → Earlier h k → Earlier k j → Earlier h j
both-earlier h k j (Earlier.ByName a) (Earlier.ByName b) = Earlier.ByName (before-trans h.name k.name j.name a b)
both-earlier h k j (Earlier.ByName a) (Earlier.OnName b c) = Earlier.ByName (before-same h.name k.name j.name a b)
both-earlier h k j (Earlier.OnName a d) (Earlier.ByName b) = Earlier.ByName (same-before h.name k.name j.name a b)
both-earlier h k j (Earlier.OnName a d) (Earlier.OnName b c) = Earlier.OnName (same-trans h.name k.name j.name a b) (on-trans (is_some h.belief) (is_some k.belief) (is_some j.belief) h.owner k.owner j.owner d c)

earlier-trans : (h k j : Hold) → is_earlier h k ≡ true → is_earlier k j ≡ true → is_earlier h j ≡ true
earlier-trans h k j e f = of-earlier h j (both-earlier h k j (earlier-of h k e) (earlier-of k j f))

-- of two that are not about one owner and name one is earlier
earlier-or : (h k : Hold) → is_at h.owner h.name k ≡ false → is_earlier h k ≡ false → is_earlier k h ≡ true
earlier-or h k n e =
    (elim (is_same h.name k.name) as (λ b. is_same h.name k.name ≡ b → is_earlier k h ≡ true) [
      | true ↦ λ f.
          let out : is_earlier_on (is_some h.belief) (is_some k.belief) h.owner k.owner ≡ false = or-last (is_before h.name k.name) (is_same h.name k.name) _ e f in
          let apart : same_owner h.owner k.owner ≡ false = grind (arith, nat_tests) in
          of-earlier k h (Earlier.OnName (same-turned h.name k.name f) (on-or (is_some h.belief) (is_some k.belief) h.owner k.owner out apart))
      | false ↦ λ f. of-earlier k h (Earlier.ByName (before-or h.name k.name (or-first (is_before h.name k.name) _ e) f))
    ]) refl
  where
    or-first : (a b : Bool) → (a || b) ≡ false → a ≡ false
    or-first true b q = cc
    or-first false b q = refl

    or-last : (a b c : Bool) → (a || (b && c)) ≡ false → b ≡ true → c ≡ false
    or-last true b c q r = cc
    or-last false true c q r = q
    or-last false false c q r = cc

-- ---- lists in order

all-put : (q : Hold → Bool) (p : Hold → Bool) (h : Hold) (hs : List Hold) → q h ≡ true → list_all q hs ≡ true → list_all q (put_before p h hs) ≡ true
all-put q p h [] e a = and-both (q h) true e refl
all-put q p h (k ∷ ks) e a =
    (elim (p k) as (λ b. list_all q (if b then h ∷ (k ∷ ks) else k ∷ put_before p h ks) ≡ true) [
      | true ↦ and-both (q h) (list_all q (k ∷ ks)) e a
      | false ↦ and-both (q k) (list_all q (put_before p h ks)) (list_all-head q k ks a) (all-put q p h ks e (list_all-tail q k ks a))
    ])

put-sorted : (h : Hold) (hs : List Hold) → list_all (λ k. not (is_at h.owner h.name k)) hs ≡ true → sorted hs ≡ true → sorted (put_before (λ k. is_earlier h k) h hs) ≡ true
put-sorted h [] a s = refl
put-sorted h (k ∷ ks) a s =
    let later : list_all (is_earlier k) ks ≡ true = and-left (list_all (is_earlier k) ks) (sorted ks) s in
    let rest : sorted ks ≡ true = and-right (list_all (is_earlier k) ks) (sorted ks) s in
    (elim (is_earlier h k) as (λ b. is_earlier h k ≡ b → sorted (if b then h ∷ (k ∷ ks) else k ∷ put_before (λ j. is_earlier h j) h ks) ≡ true) [
      | true ↦ λ e. and-both (list_all (is_earlier h) (k ∷ ks)) (sorted (k ∷ ks)) (and-both (is_earlier h k) (list_all (is_earlier h) ks) e (list_all-weaker (is_earlier k) (is_earlier h) ks (λ j q. earlier-trans h k j e q) later)) s
      | false ↦ λ e.
          let out : is_at h.owner h.name k ≡ false = not-true (is_at h.owner h.name k) (list_all-head (λ (j : Hold). not (is_at h.owner h.name j)) k ks a) in
          and-both (list_all (is_earlier k) (put_before (λ j. is_earlier h j) h ks)) (sorted (put_before (λ j. is_earlier h j) h ks)) (all-put (is_earlier k) (λ j. is_earlier h j) h ks (earlier-or h k out e) later)
          (put-sorted h ks (list_all-tail (λ (j : Hold). not (is_at h.owner h.name j)) k ks a) rest)
    ]) refl

sorted-filter : (p : Hold → Bool) (hs : List Hold) → sorted hs ≡ true → sorted (filter p hs) ≡ true
sorted-filter p [] s = refl
sorted-filter p (k ∷ ks) s =
    let rest = sorted-filter p ks (and-right (list_all (is_earlier k) ks) (sorted ks) s) in
    (elim (p k) as (λ b. sorted (cond b (k ∷ filter p ks) (filter p ks)) ≡ true)
    [ true ↦ and-both (list_all (is_earlier k) (filter p ks)) (sorted (filter p ks)) (list_all-filter (is_earlier k) p ks (and-left (list_all (is_earlier k) ks) (sorted ks) s)) rest | false ↦ rest ])

noted-sorted : (h : Hold) (hs : List Hold) → sorted hs ≡ true → sorted (noted h hs) ≡ true
noted-sorted h hs s = put-sorted h (filter (λ k. not (is_at h.owner h.name k)) hs) (list_all-passing (λ (k : Hold). not (is_at h.owner h.name k)) hs) (sorted-filter (λ (k : Hold). not (is_at h.owner h.name k)) hs s)

order-filter : (p : Hold → Bool) (hs : List Hold) → in_order hs ≡ true → in_order (filter p hs) ≡ true
order-filter p [] s = refl
order-filter p (k ∷ ks) s =
    let rest = order-filter p ks (and-right (list_all (goes_in_front k) ks) (in_order ks) s) in
    (elim (p k) as (λ b. in_order (cond b (k ∷ filter p ks) (filter p ks)) ≡ true)
    [ true ↦ and-both (list_all (goes_in_front k) (filter p ks)) (in_order (filter p ks)) (list_all-filter (goes_in_front k) p ks (and-left (list_all (goes_in_front k) ks) (in_order ks) s)) rest | false ↦ rest ])

-- what is earlier goes in front
taken-on : (x y : Bool) (a b : Owner) → is_earlier_on x y a b ≡ true → is_taken_first x y a b ≡ true
taken-on true true a b e = e
taken-on true false a b e = refl
taken-on false true a b e = cc
taken-on false false a b e = e

front-of : (h k : Hold) → is_earlier h k ≡ true → goes_in_front h k ≡ true
front-of h k e =
    (elim (earlier-of h k e) [
      | Earlier.ByName f ↦ rw (before-other h.name k.name f) refl
      | Earlier.OnName f g ↦ rw (f, taken-on (is_some h.belief) (is_some k.belief) h.owner k.owner g) refl
    ])

sorted-order : (hs : List Hold) → sorted hs ≡ true → in_order hs ≡ true
sorted-order [] s = refl
sorted-order (k ∷ ks) s =
    and-both (list_all (goes_in_front k) ks) (in_order ks) (list_all-weaker (is_earlier k) (goes_in_front k) ks (λ j e. front-of k j e) (and-left (list_all (is_earlier k) ks) (sorted ks) s)) (sorted-order ks (and-right (list_all (is_earlier k) ks) (sorted ks) s))

-- the names of two lists are apart
order-joined : (p : LockName → Bool) (xs ys : List Hold) → list_all (λ h. not (p h.name)) xs ≡ true → list_all (λ h. p h.name) ys ≡ true → in_order xs ≡ true → in_order ys ≡ true → in_order (xs ++ ys) ≡ true
order-joined p [] ys a b s t = t
order-joined p (h ∷ xs) ys a b s t =
    let out : p h.name ≡ false = not-true (p h.name) (list_all-head (λ (k : Hold). not (p k.name)) h xs a) in
    let others : list_all (goes_in_front h) ys ≡ true = list_all-weaker (λ (k : Hold). p k.name) (goes_in_front h) ys (λ k e. apart h k out e) b in
    and-both (list_all (goes_in_front h) (xs ++ ys)) (in_order (xs ++ ys)) (list_all-joined (goes_in_front h) xs ys (and-left (list_all (goes_in_front h) xs) (in_order xs) s) others)
    (order-joined p xs ys (list_all-tail (λ (k : Hold). not (p k.name)) h xs a) b (and-right (list_all (goes_in_front h) xs) (in_order xs) s) t)
  where
    apart : (h k : Hold) → p h.name ≡ false → p k.name ≡ true → goes_in_front h k ≡ true
    apart h k out e =
        (elim (is_same h.name k.name) as (λ b. is_same h.name k.name ≡ b → (not b || is_taken_first (is_some h.belief) (is_some k.belief) h.owner k.owner) ≡ true) [
          | true ↦ λ f. absurd (let q : true ≡ false = sym e ∙ ap p (sym (is_same-same h.name k.name f)) ∙ out in cc)
          | false ↦ λ f. refl
        ]) refl

-- ---- each event

record Ordered (s : State) : Type 0 where
  holds : sorted s.holds ≡ true
  claims : in_order s.claims ≡ true

ended-order : (d : ℕ) (s : State) → in_order s.claims ≡ true → in_order (ended_if d s).claims ≡ true
ended-order d s o =
    (elim (is_open d s.awaited) as (λ b. in_order (if b then s else ended d s).claims ≡ true) [
      | true ↦ o
      | false ↦ subst (λ (hs : List Hold). in_order hs ≡ true) (sym (ended-stays d s).claims) (order-filter (λ (h : Hold). is_with false d s h.name) s.claims o)
    ])

all-ended-order : (ds : List ℕ) (s : State) → in_order s.claims ≡ true → in_order (all_ended ds s).claims ≡ true
all-ended-order [] s o = o
all-ended-order (d ∷ ds) s o = all-ended-order ds (ended_if d s) (ended-order d s o)

ended-ordered : (ds : List ℕ) (s : State) → Ordered s → Ordered (all_ended ds s)
ended-ordered ds s o = record { holds = ap sorted (all-ended-holds ds s) ∙ o.holds; claims = all-ended-order ds s o.claims }

called-ordered : (old : Option Mode) (h : Hold) (l : Letter) (fill : ℕ) (s : State) → Ordered s → Ordered (called old h l fill s)
called-ordered old h l fill s o = record { holds = noted-sorted _ s.holds o.holds; claims = o.claims }

ask-ordered : (h : Hold) (mode : Mode) (fill : ℕ) (s : State) → Ordered s → Ordered (ask_after h mode fill s)
ask-ordered h mode fill s o =
    (elim (is_some h.wait) as (λ b. Ordered (if b then s else if crosses h.belief mode then s else called h.belief (asked_hold h mode) (Ask mode) fill s)) [
      | true ↦ o
      | false ↦ (elim (crosses h.belief mode) as (λ b. Ordered (if b then s else called h.belief (asked_hold h mode) (Ask mode) fill s)) [ true ↦ o | false ↦ called-ordered h.belief (asked_hold h mode) (Ask mode) fill s o ])
    ])

drop-ordered : (h : Hold) (fill : ℕ) (s : State) → Ordered s → Ordered (drop_after h fill s)
drop-ordered h fill s o =
    (elim (is_some h.wait) as (λ b. Ordered (if b then s else if is_some h.belief then called h.belief (record h { belief = None }) Drop fill s else s)) [
      | true ↦ o
      | false ↦ (elim (is_some h.belief) as (λ b. Ordered (if b then called h.belief (record h { belief = None }) Drop fill s else s)) [ true ↦ called-ordered h.belief (record h { belief = None }) Drop fill s o | false ↦ o ])
    ])

taken-ordered : (m : Message) (s : State) → Ordered s → Ordered (taken m s)
taken-ordered m s o = record { holds = ap sorted (taken-holds m.letter m _ _ s) ∙ o.holds; claims = ap in_order (taken-stays m.letter m _ _ s).claims ∙ o.claims }

arrived-ordered : (m : Message) (s : State) → Ordered s → Ordered (arrived m s)
arrived-ordered m s o = (elim (is_some (recovery m.name s)) as (λ b. Ordered (if b then record s { kept = s.kept ++ (m ∷ []) } else taken m s)) [ true ↦ record { holds = o.holds; claims = o.claims } | false ↦ taken-ordered m s o ])

received-ordered : (m : Message) (l : Letter) (s : State) → Ordered s → Ordered (received m l s)
received-ordered m (Ask w) s o = arrived-ordered m s o
received-ordered m Drop s o = arrived-ordered m s o
received-ordered m (Grant w v) s o = record { holds = noted-sorted _ s.holds o.holds; claims = o.claims }
received-ordered m (Claim d) s o = ended-ordered s.recoveries _ (record { holds = o.holds; claims = o.claims })

pass-ordered : (from to : ℕ) (f : Option Message) (s : State) → Ordered s → Ordered (pass_after from to f s)
pass-ordered from to None s o = o
pass-ordered from to (Some m) s o = received-ordered m m.letter (record s { mail = past_first (is_between from to) s.mail }) (record { holds = o.holds; claims = o.claims })

bereft-ordered : (d : ℕ) (s : State) → Ordered s → Ordered (bereft d s)
bereft-ordered d s o =
    let left : List Hold = left_holds d s in
    let living : sorted left ≡ true = sorted-filter (λ (h : Hold). not (h.owner.node == d)) s.holds o.holds in
    let old : Hold → Bool = λ h. not (h.owner.node == d) && not (was_master d s h.name) in
    let older : List Hold = filter old s.claims in
    let newer : List Hold = filter (λ h. was_master d s h.name) left in
    let names : list_all (λ (h : Hold). not (was_master d s h.name)) older ≡ true = list_all-weaker old (λ (h : Hold). not (was_master d s h.name)) older (λ h e. and-right (not (h.owner.node == d)) (not (was_master d s h.name)) e) (list_all-passing old s.claims) in
    record {
      holds = living;
      claims = order-joined (λ y. was_master d s y) older newer names (list_all-passing (λ (h : Hold). was_master d s h.name) left) (order-filter old s.claims o.claims) (order-filter (λ (h : Hold). was_master d s h.name) left (sorted-order left living));
    }

killed-ordered : (d : ℕ) (s : State) → Ordered s → Ordered (killed d s)
killed-ordered d s o =
    let b = bereft-ordered d s o in
    let e = ended-ordered (served (bereft d s)).recoveries (served (bereft d s)) (record { holds = b.holds; claims = b.claims }) in
    record { holds = e.holds; claims = e.claims }

played-ordered : (e : Event) (s : State) → Ordered s → Ordered (played e s)
played-ordered (event.Ask owner name mode fill) s o = ask-ordered (hold_at owner name s.holds) mode fill s o
played-ordered (event.Drop owner name fill) s o = drop-ordered (hold_at owner name s.holds) fill s o
played-ordered (event.Pass from to) s o = pass-ordered from to (find (is_between from to) s.mail) s o
played-ordered (event.Kill d) s o = killed-ordered d s o

after-ordered : (e : Event) (s : State) → Ordered s → Ordered (after e s)
after-ordered e s o = (elim (names_living e s) as (λ b. Ordered (if b then played e s else s)) [ true ↦ played-ordered e s o | false ↦ o ])

all-ordered : (es : List Event) (s : State) → Ordered s → Ordered (after_all s es)
all-ordered [] s o = o
all-ordered (e ∷ es) s o = all-ordered es (after e s) (after-ordered e s o)

pub asks-in_order : AsksAreTakenInOrder
asks-in_order rule nodes es dead l =
    let s : State = after_all (start rule nodes) es in
    let o = all-ordered es (start rule nodes) (record { holds = refl; claims = refl }) in
    order-filter (λ (h : Hold). is_with true dead s h.name) s.claims o.claims

-- ---- the asks that wait stand in order

module _ {X : Type 0} where
  all-placed : (q p : X → Bool) (h : X) (hs : List X) → q h ≡ true → list_all q hs ≡ true → list_all q (put_before p h hs) ≡ true
  all-placed q p h [] e a = and-both (q h) true e refl
  all-placed q p h (k ∷ ks) e a =
      (elim (p k) as (λ b. list_all q (if b then h ∷ (k ∷ ks) else k ∷ put_before p h ks) ≡ true) [
        | true ↦ and-both (q h) (list_all q (k ∷ ks)) e a
        | false ↦ and-both (q k) (list_all q (put_before p h ks)) (list_all-head q k ks a) (all-placed q p h ks e (list_all-tail q k ks a))
      ])

data Fore (a b : Waiter) : Type 0 where
  ByName : is_before a.name b.name ≡ true → Fore a b
  OnName : is_same a.name b.name ≡ true → (a.converts || not b.converts) ≡ true → Fore a b

fore-of : (a b : Waiter) → may_stand_first a b ≡ true → Fore a b
fore-of a b e =
    (elim (is_before a.name b.name) as (λ c. is_before a.name b.name ≡ c → (c || (is_same a.name b.name && (a.converts || not b.converts))) ≡ true → Fore a b) [
      | true ↦ λ f g. Fore.ByName f
      | false ↦ λ f g. Fore.OnName (and-left (is_same a.name b.name) _ g) (and-right (is_same a.name b.name) _ g)
    ]) refl e

of-fore : (a b : Waiter) → Fore a b → may_stand_first a b ≡ true
of-fore a b (Fore.ByName e) = rw e refl
of-fore a b (Fore.OnName e f) = rw (e, f) (or-yes (is_before a.name b.name))
  where
    or-yes : (b : Bool) → (b || true) ≡ true
    or-yes true = refl
    or-yes false = refl

converts-trans : (x y z : Bool) → (x || not y) ≡ true → (y || not z) ≡ true → (x || not z) ≡ true
converts-trans true y z e f = refl
converts-trans false true z e f = cc
converts-trans false false z e f = f

both-fore : (a b c : Waiter) → Fore a b → Fore b c → Fore a c
both-fore a b c (Fore.ByName e) (Fore.ByName f) = Fore.ByName (before-trans a.name b.name c.name e f)
both-fore a b c (Fore.ByName e) (Fore.OnName f g) = Fore.ByName (before-same a.name b.name c.name e f)
both-fore a b c (Fore.OnName e g) (Fore.ByName f) = Fore.ByName (same-before a.name b.name c.name e f)
both-fore a b c (Fore.OnName e g) (Fore.OnName f h) = Fore.OnName (same-trans a.name b.name c.name e f) (converts-trans a.converts b.converts c.converts g h)

fore-trans : (a b c : Waiter) → may_stand_first a b ≡ true → may_stand_first b c ≡ true → may_stand_first a c ≡ true
fore-trans a b c e f = of-fore a c (both-fore a b c (fore-of a b e) (fore-of b c f))

-- what goes before stands first, and what it does not go before may stand in front of it
goes-fore : (a b : Waiter) → goes_before a b ≡ true → may_stand_first a b ≡ true
goes-fore a b e =
    (elim (is_before a.name b.name) as (λ c. is_before a.name b.name ≡ c → (c || (is_same a.name b.name && (a.converts && not b.converts))) ≡ true → may_stand_first a b ≡ true) [
      | true ↦ λ f g. of-fore a b (Fore.ByName f)
      | false ↦ λ f g.
          let on = and-right (is_same a.name b.name) (a.converts && not b.converts) g in
          of-fore a b (Fore.OnName (and-left (is_same a.name b.name) _ g) (ap (λ (c : Bool). c || not b.converts) (and-left a.converts (not b.converts) on)))
    ]) refl e

stays-fore : (a b : Waiter) → goes_before a b ≡ false → may_stand_first b a ≡ true
stays-fore a b e =
    (elim (is_same a.name b.name) as (λ c. is_same a.name b.name ≡ c → may_stand_first b a ≡ true) [
      | true ↦ λ f. of-fore b a (Fore.OnName (same-turned a.name b.name f) (turned a.converts b.converts (last (is_before a.name b.name) (is_same a.name b.name) (a.converts && not b.converts) e f)))
      | false ↦ λ f. of-fore b a (Fore.ByName (before-or a.name b.name (first (is_before a.name b.name) _ e) f))
    ]) refl
  where
    turned : (x y : Bool) → (x && not y) ≡ false → (y || not x) ≡ true
    turned true true q = refl
    turned true false q = cc
    turned false true q = refl
    turned false false q = refl

    first : (x y : Bool) → (x || y) ≡ false → x ≡ false
    first true y q = cc
    first false y q = refl

    last : (x y z : Bool) → (x || (y && z)) ≡ false → y ≡ true → z ≡ false
    last true y z q r = cc
    last false true z q r = q
    last false false z q r = cc

queue-put : (w : Waiter) (q : List Waiter) → queue_in_order q ≡ true → queue_in_order (put_before (goes_before w) w q) ≡ true
queue-put w [] s = refl
queue-put w (k ∷ ks) s =
    let later : list_all (may_stand_first k) ks ≡ true = and-left (list_all (may_stand_first k) ks) (queue_in_order ks) s in
    let rest : queue_in_order ks ≡ true = and-right (list_all (may_stand_first k) ks) (queue_in_order ks) s in
    (elim (goes_before w k) as (λ b. goes_before w k ≡ b → queue_in_order (if b then w ∷ (k ∷ ks) else k ∷ put_before (goes_before w) w ks) ≡ true) [
      | true ↦ λ e.
          let f = goes-fore w k e in
          and-both (list_all (may_stand_first w) (k ∷ ks)) (queue_in_order (k ∷ ks)) (and-both (may_stand_first w k) (list_all (may_stand_first w) ks) f (list_all-weaker (may_stand_first k) (may_stand_first w) ks (λ j q. fore-trans w k j f q) later)) s
      | false ↦ λ e. and-both (list_all (may_stand_first k) (put_before (goes_before w) w ks)) (queue_in_order (put_before (goes_before w) w ks)) (all-placed (may_stand_first k) (goes_before w) w ks (stays-fore w k e) later) (queue-put w ks rest)
    ]) refl

queue-filter : (p : Waiter → Bool) (q : List Waiter) → queue_in_order q ≡ true → queue_in_order (filter p q) ≡ true
queue-filter p [] s = refl
queue-filter p (k ∷ ks) s =
    let rest = queue-filter p ks (and-right (list_all (may_stand_first k) ks) (queue_in_order ks) s) in
    (elim (p k) as (λ b. queue_in_order (cond b (k ∷ filter p ks) (filter p ks)) ≡ true)
    [ true ↦ and-both (list_all (may_stand_first k) (filter p ks)) (queue_in_order (filter p ks)) (list_all-filter (may_stand_first k) p ks (and-left (list_all (may_stand_first k) ks) (queue_in_order ks) s)) rest | false ↦ rest ])

abbrev Queued : State → Type 0
Queued s = queue_in_order s.queue ≡ true

put-queued : (m : Message) (old : Option Mode) (w : Mode) (q : List Waiter) → queue_in_order q ≡ true → queue_in_order (put_last m old w q) ≡ true
put-queued m old w q s =
    let one : Waiter = record { owner = m.owner; name = m.name; mode = w; converts = is_some old } in
    (elim (lowers old w) as (λ b. queue_in_order (if b then q else put_before (goes_before one) one q) ≡ true) [ true ↦ s | false ↦ queue-put one q s ])

taken-queued : (l : Letter) (m : Message) (old : Option Mode) (t : List Resource) (s : State) → Queued s → Queued (taken_from m l old t s)
taken-queued (Ask w) m old t s o = queue-filter _ (put_last m old w s.queue) (put-queued m old w s.queue o)
taken-queued Drop m old t s o = queue-filter _ s.queue o
taken-queued (Grant w v) m old t s o = o
taken-queued (Claim d) m old t s o = o

taken_all-queued : (ms : List Message) (s : State) → Queued s → Queued (taken_all ms s)
taken_all-queued [] s o = o
taken_all-queued (m ∷ ms) s o = taken_all-queued ms (taken m s) (taken-queued m.letter m _ _ s o)

reclaim-queued : (w : Option Mode) (h : Hold) (b : Seen) (s : State) → Queued s → Queued (reclaimed_lock h w b s)
reclaim-queued None h b s o = o
reclaim-queued (Some w) h b s o = o

reclaimed-queued : (bs : LockName → Seen) (hs : List Hold) (s : State) → Queued s → Queued (reclaimed bs hs s)
reclaimed-queued bs [] s o = o
reclaimed-queued bs (h ∷ hs) s o = reclaimed-queued bs hs (reclaimed_lock h h.belief (bs h.name) s) (reclaim-queued h.belief h (bs h.name) s o)

again-queued : (w : Option Mode) (h : Hold) (b : Seen) (s : State) → Queued s → Queued (asked_again h w b s)
again-queued None h b s o = o
again-queued (Some w) h b s o = queue-filter _ (put_last (again h w b s) _ w s.queue) (put-queued (again h w b s) _ w s.queue o)

asked-queued : (bs : LockName → Seen) (hs : List Hold) (s : State) → Queued s → Queued (all_asked_again bs hs s)
asked-queued bs [] s o = o
asked-queued bs (h ∷ hs) s o = asked-queued bs hs (asked_again h h.wait (bs h.name) s) (again-queued h.wait h (bs h.name) s o)

recovered-queued : (bs : LockName → Seen) (hs : List Hold) (ms : List Message) (s : State) → Queued s → Queued (recovered_with bs hs ms s)
recovered-queued bs hs ms s o = taken_all-queued ms (all_asked_again bs hs (reclaimed bs hs s)) (asked-queued bs hs (reclaimed bs hs s) (reclaimed-queued bs hs s o))

ended-queued : (d : ℕ) (s : State) → Queued s → Queued (ended_if d s)
ended-queued d s o =
    (elim (is_open d s.awaited) as (λ b. Queued (if b then s else ended d s)) [
      | true ↦ o
      | false ↦
          let hs : List Hold = filter (λ h. is_with true d s h.name) s.claims in
          let bs : LockName → Seen = block_for s.rule hs (filter (λ b. is_with true d s b.name) s.claimed_blocks) in
          recovered-queued bs hs (filter (λ m. is_with true d s m.name) s.kept) (closed d s) o
    ])

all-ended-queued : (ds : List ℕ) (s : State) → Queued s → Queued (all_ended ds s)
all-ended-queued [] s o = o
all-ended-queued (d ∷ ds) s o = all-ended-queued ds (ended_if d s) (ended-queued d s o)

ask-queued : (h : Hold) (mode : Mode) (fill : ℕ) (s : State) → Queued s → Queued (ask_after h mode fill s)
ask-queued h mode fill s o =
    (elim (is_some h.wait) as (λ b. Queued (if b then s else if crosses h.belief mode then s else called h.belief (asked_hold h mode) (Ask mode) fill s)) [
      | true ↦ o
      | false ↦ (elim (crosses h.belief mode) as (λ b. Queued (if b then s else called h.belief (asked_hold h mode) (Ask mode) fill s)) [ true ↦ o | false ↦ o ])
    ])

drop-queued : (h : Hold) (fill : ℕ) (s : State) → Queued s → Queued (drop_after h fill s)
drop-queued h fill s o =
    (elim (is_some h.wait) as (λ b. Queued (if b then s else if is_some h.belief then called h.belief (record h { belief = None }) Drop fill s else s)) [
      | true ↦ o
      | false ↦ (elim (is_some h.belief) as (λ b. Queued (if b then called h.belief (record h { belief = None }) Drop fill s else s)) [ true ↦ o | false ↦ o ])
    ])

arrived-queued : (m : Message) (s : State) → Queued s → Queued (arrived m s)
arrived-queued m s o = (elim (is_some (recovery m.name s)) as (λ b. Queued (if b then record s { kept = s.kept ++ (m ∷ []) } else taken m s)) [ true ↦ o | false ↦ taken-queued m.letter m _ _ s o ])

received-queued : (m : Message) (l : Letter) (s : State) → Queued s → Queued (received m l s)
received-queued m (Ask w) s o = arrived-queued m s o
received-queued m Drop s o = arrived-queued m s o
received-queued m (Grant w v) s o = o
received-queued m (Claim d) s o = all-ended-queued s.recoveries _ o

pass-queued : (from to : ℕ) (f : Option Message) (s : State) → Queued s → Queued (pass_after from to f s)
pass-queued from to None s o = o
pass-queued from to (Some m) s o = received-queued m m.letter (record s { mail = past_first (is_between from to) s.mail }) o

played-queued : (e : Event) (s : State) → Queued s → Queued (played e s)
played-queued (event.Ask owner name mode fill) s o = ask-queued (hold_at owner name s.holds) mode fill s o
played-queued (event.Drop owner name fill) s o = drop-queued (hold_at owner name s.holds) fill s o
played-queued (event.Pass from to) s o = pass-queued from to (find (is_between from to) s.mail) s o
played-queued (event.Kill d) s o = all-ended-queued (served (bereft d s)).recoveries (served (bereft d s))
    (queue-filter (λ w. not (is_served (bereft d s) w)) (bereft d s).queue (queue-filter (λ w. not (w.owner.node == d) && not (was_master d s w.name)) s.queue o))

all-queued : (es : List Event) (s : State) → Queued s → Queued (after_all s es)
all-queued [] s o = o
all-queued (e ∷ es) s o = all-queued es (after e s) ((elim (names_living e s) as (λ b. Queued (if b then played e s else s)) [ true ↦ played-queued e s o | false ↦ o ]))

pub queue-ordered : QueueIsInOrder
queue-ordered rule nodes es l = all-queued es (start rule nodes) refl
