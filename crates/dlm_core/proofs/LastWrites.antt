-- Holders have the last write, over every list of events and deaths.
use Rattle.std.proofs.Common.{◌≡◌, ◌&&◌, ◌||◌, ◌++◌, ◌⊎◌, ◌≤◌, inl, inr, ℕ, ◌-◌, Bool, true, false, not, List, [], ◌∷◌, Option, Some, None, is_some, filter, find, refl, arith, ap, sym, subst, ◌∙◌, if◌then◌else◌, option_and_then, Contains}
use Rattle.std.proofs.lemmas.List.Elements.{Contains-append_right}
use Rattle.plain_cat.specs.declared.mode.Mode.{Mode}
use Rattle.lock_db.specs.declared.name.LockName.{LockName}
use Rattle.lock_db.specs.declared.name.Owner.{Owner}
use Rattle.lock_db.specs.declared.askers.Standing.{Standing}
use Rattle.lock_db.specs.declared.askers.Asker.{Asker}
use Rattle.lock_db.specs.declared.resource.Resource.{Resource}
use Rattle.lock_db.specs.Names.{is_same}
use Rattle.lock_db.specs.Queues.{held, standing_of, mode_of}
use Rattle.lock_db.specs.Resources.{fresh, is_used, is_writing_held}
use Rattle.lock_db.specs.Tables.{resource_at}
use Rattle.lock_db.proofs.Lists.{and-left, and-right, not-true}
use Rattle.dlm_core.specs.declared.messages.Letter.{Letter}
use Rattle.dlm_core.specs.declared.messages.Letter.TheVariants.{Ask, Drop, Grant, Claim}
use Rattle.dlm_core.specs.declared.messages.Message.{Message}
use Rattle.dlm_core.specs.declared.holds.Hold.{Hold}
use Rattle.dlm_core.specs.declared.homes.Awaited.{Awaited}
use Rattle.dlm_core.specs.declared.events.Event.{Event}
use Rattle.dlm_core.specs.declared.events.Event.TheVariants as event
use Rattle.dlm_core.specs.declared.events.Told.TheVariants as told
use Rattle.dlm_core.specs.declared.rules.BlockRule.TheVariants.{OfHolders}
use Rattle.dlm_core.specs.Modes.{lowers, crosses, writes}
use Rattle.dlm_core.specs.States.{State, lives, home, recovery, table_at, told_at, hold_at, asked_hold, is_between, past_first, start}
use Rattle.dlm_core.specs.Steps.{is_call, called, ask_after, drop_after, served, taken}
use Rattle.dlm_core.specs.Recoveries.{is_strong}
use Rattle.dlm_core.specs.Restored.{has_lock}
use Rattle.dlm_core.specs.Deaths.{was_master, bereft, with_ended, killed}
use Rattle.dlm_core.specs.Events.{arrived, is_claimed, claimed, received, received_told, pass_told, pass_after, names_living, answer_of, played, after, told_of}
use Rattle.dlm_core.specs.Lanes.{IsSound}
use Rattle.dlm_core.specs.Runs.{after_all}
use Rattle.dlm_core.specs.Values.{call_writes, bytes_if, write_of, is_gone, may_be_gone, read_after, readable, readable_of, HoldersHaveTheLastWrite}
use Rattle.dlm_core.proofs.Ahead.{marked, OK, wrote, gone-val, lower-weak}
use Rattle.dlm_core.proofs.Beliefs.{hold-owner, hold-name}
use Rattle.dlm_core.proofs.Sending.{start-sound, start-empty}
use Rattle.dlm_core.proofs.Takes.{served-sound}
use Rattle.dlm_core.proofs.Dying.{bereft-pre, recovery-stays}
use Rattle.dlm_core.proofs.Passing.{claim-sound}
use Rattle.dlm_core.proofs.Sound.{after-sound, awaited-sound}
use Rattle.dlm_core.proofs.Tracing.{Each, each-both, Says}
use Rattle.dlm_core.proofs.Truth.{each-find, ask-no_grant, drop-no_grant}
use Rattle.dlm_core.proofs.Holding.{lock_in, calls_in, block_in, seen_block, ValOf, val-more, more-ok, GrantOK, Values, values-more, served-values, Coming, Comes1, each-coming}
use Rattle.dlm_core.proofs.Turns.{rewrote, called-values}
use Rattle.dlm_core.proofs.Arrivals.{zeros, unused, granted-values, claim-values, keep-values, taken-values}
use Rattle.dlm_core.proofs.Losses.{bereft-values, claims-values}
use Rattle.dlm_core.proofs.Endings.{unused-nobody, table-fresh, taken-recovery, all-ended-holds, all-ended-values}
use Rattle.dlm_core.proofs.Kept.{killed-open, killed-told, rule-stays, start-recovers}

true-false : true ≡ false → ⊥
true-false e = cc

contains-first : (v : List ℕ) (vs : List (List ℕ)) → Contains (v ∷ vs) v
contains-first v vs = (0, omega arith, refl)

contains-behind : (v u : List ℕ) (vs : List (List ℕ)) → Contains vs u → Contains (v ∷ vs) u
contains-behind v u vs c = Contains-append_right (v ∷ []) vs u c

-- ---- a name at which nobody is left begins again

-- What may be read is what could be, or zeros where nobody is left.
abbrev Fewer : (LockName → List (List ℕ)) → (LockName → List (List ℕ)) → State → LockName → Type 0
Fewer R Q s x = ((v : List ℕ) → Contains (R x) v → Contains (Q x) v) ⊎ ((recovery x s ≡ None) × ((is_used (told_at x s) ≡ false) × Contains (Q x) zeros))

nobody-locks : (x : LockName) (s : State) → is_used (told_at x s) ≡ false → (o : Owner) → lock_in None x s o ≡ None
nobody-locks x s u o = ap (λ (xs : List Asker). option_and_then held (standing_of o xs)) (unused (told_at x s).askers u)

shrink-val : (R Q : LockName → List (List ℕ)) (s : State) (x : LockName) → IsSound s → Fewer R Q s x → ValOf (recovery x s) (R x) x s → ValOf (recovery x s) (Q x) x s
shrink-val R Q s x i (inl h) v = val-more (recovery x s) (R x) (Q x) x s h v
shrink-val R Q s x i (inr g) v =
    subst (λ (r : Option ℕ). ValOf r (Q x) x s) (sym g.0) (
    gone-val (Q x) (lock_in None x s) (calls_in None x s) (block_in x s) (λ o. ap is_writing_held (nobody-locks x s g.1.0 o))
    (subst (λ (b : Option (List ℕ)). OK (Q x) b) (sym (table-fresh x (table_at (home s.nodes x) s.tables) (i.tables_are (home s.nodes x)) g.1.0)) g.1.1))

shrink-read : (R Q : LockName → List (List ℕ)) (s : State) (o : Owner) (x : LockName) → IsSound s → Fewer R Q s x → is_strong (hold_at o x s.holds).belief ≡ true → OK (R x) (seen_block (hold_at o x s.holds).seen) → OK (Q x) (seen_block (hold_at o x s.holds).seen)
shrink-read R Q s o x i (inl h) e a = more-ok (R x) (Q x) (seen_block (hold_at o x s.holds).seen) h a
shrink-read R Q s o x i (inr g) e a = absurd (true-false (sym e ∙ ap is_strong (unused-nobody x s i g.0 g.1.0 o)))

shrink-one : (R Q : LockName → List (List ℕ)) (s : State) (m : Message) (w : Mode) (v : Bool) → Fewer R Q s m.name → Coming s m w → (is_strong (Some w) ≡ true → OK (R m.name) (marked v m.value)) → is_strong (Some w) ≡ true → OK (Q m.name) (marked v m.value)
shrink-one R Q s m w v (inl h) c g e = more-ok (R m.name) (Q m.name) (marked v m.value) h (g e)
shrink-one R Q s m w v (inr f) c g e =
    let none : standing_of m.owner (told_at m.name s).askers ≡ None = ap (standing_of m.owner) (unused (told_at m.name s).askers f.1.0) in
    absurd (let z : Some w ≡ None = ap (λ (z : Option Standing). option_and_then held z) (sym c.has ∙ none) in cc)

shrink-says : (R Q : LockName → List (List ℕ)) (s : State) (m : Message) (l : Letter) → Fewer R Q s m.name → Says (λ w v. Coming s m w) l → Says (λ w v. is_strong (Some w) ≡ true → OK (R m.name) (marked v m.value)) l
    → Says (λ w v. is_strong (Some w) ≡ true → OK (Q m.name) (marked v m.value)) l
shrink-says R Q s m (Ask w) f c g = tt
shrink-says R Q s m Drop f c g = tt
shrink-says R Q s m (Grant w v) f c g = shrink-one R Q s m w v f c g
shrink-says R Q s m (Claim d) f c g = tt

shrink : (R Q : LockName → List (List ℕ)) (s : State) → IsSound s → ((x : LockName) → Fewer R Q s x) → Values R s → Values Q s
shrink R Q s i f a = record {
  val = λ x. shrink-val R Q s x i (f x) (a.val x);
  read = λ o x e. shrink-read R Q s o x i (f x) e (a.read o x e);
  given = each-both (Comes1 s) (GrantOK R) (GrantOK Q) s.mail (λ m c g. shrink-says R Q s m m.letter (f m.name) c g) (each-coming s [] s.mail i refl) a.given;
  waits = a.waits;
}

-- ---- what each event makes of it

-- what may be read on the way: zeros beside the rest
abbrev on_way : Option (List ℕ) → Bool → Bool → List (List ℕ) → List (List ℕ)
on_way (Some v) gone may vs = v ∷ []
on_way None gone may vs = if gone || may then zeros ∷ vs else vs

abbrev Way : (LockName → List (List ℕ)) → Event → State → LockName → List (List ℕ)
Way R e s x = on_way (write_of e x s) (is_gone x (after e s)) (may_be_gone e x s (after e s)) (R x)

abbrev Next : (LockName → List (List ℕ)) → Event → State → LockName → List (List ℕ)
Next R e s x = read_after (write_of e x s) (is_gone x (after e s)) (may_be_gone e x s (after e s)) (R x)

gone-so : (x : LockName) (s : State) → is_gone x s ≡ true → (is_some (recovery x s) ≡ false) × (is_used (told_at x s) ≡ false)
gone-so x s e = (not-true (is_some (recovery x s)) (and-left (not (is_some (recovery x s))) (not (is_used (told_at x s))) e), not-true (is_used (told_at x s)) (and-right (not (is_some (recovery x s))) (not (is_used (told_at x s))) e))

none-of : (o : Option ℕ) → is_some o ≡ false → o ≡ None
none-of None e = refl
none-of (Some k) e = cc

fewer-at : (w : Option (List ℕ)) (g m : Bool) (vs : List (List ℕ)) (R Q : LockName → List (List ℕ)) (s : State) (x : LockName) → is_gone x s ≡ g → R x ≡ on_way w g m vs → Q x ≡ read_after w g m vs → Fewer R Q s x
fewer-at (Some v) g m vs R Q s x ge re qe = inl (λ u c. subst (λ (us : List (List ℕ)). Contains us u) (re ∙ sym qe) c)
fewer-at None true m vs R Q s x ge re qe = let k = gone-so x s ge in inr (none-of (recovery x s) k.0, (k.1, subst (λ (us : List (List ℕ)). Contains us zeros) (sym qe) (contains-first zeros [])))
fewer-at None false true vs R Q s x ge re qe = inl (λ u c. subst (λ (us : List (List ℕ)). Contains us u) (re ∙ sym qe) c)
fewer-at None false false vs R Q s x ge re qe = inl (λ u c. subst (λ (us : List (List ℕ)). Contains us u) (re ∙ sym qe) c)

end-event : (R : LockName → List (List ℕ)) (e : Event) (s : State) → IsSound (after e s) → Values (Way R e s) (after e s) → Values (Next R e s) (after e s)
end-event R e s i a = shrink (Way R e s) (Next R e s) (after e s) i (λ x. fewer-at (write_of e x s) (is_gone x (after e s)) (may_be_gone e x s (after e s)) (R x) (Way R e s) (Next R e s) (after e s) x refl refl refl) a

-- what could be read before may be, where nothing is written
way-more : (g m : Bool) (vs : List (List ℕ)) (v : List ℕ) → Contains vs v → Contains (on_way None g m vs) v
way-more true m vs v c = contains-behind zeros v vs c
way-more false true vs v c = contains-behind zeros v vs c
way-more false false vs v c = c

way-wrote : (w : Option (List ℕ)) (g m : Bool) (vs : List (List ℕ)) (v : List ℕ) → Contains (wrote w vs) v → Contains (on_way w g m vs) v
way-wrote (Some u) g m vs v c = c
way-wrote None g m vs v c = way-more g m vs v c

way-gone : (g m : Bool) (vs : List (List ℕ)) → (g || m) ≡ true → Contains (on_way None g m vs) zeros
way-gone true m vs e = contains-first zeros vs
way-gone false true vs e = contains-first zeros vs
way-gone false false vs e = cc

or-left : (a b : Bool) → a ≡ true → (a || b) ≡ true
or-left true b e = refl
or-left false b e = cc

or-right : (a b : Bool) → b ≡ true → (a || b) ≡ true
or-right true b e = refl
or-right false b e = e

-- ---- an owner's call

waits-none : (o : Option Mode) → is_some o ≡ false → o ≡ None
waits-none None e = refl
waits-none (Some m) e = cc

same-write : (R : LockName → List (List ℕ)) (b c : Bool) (n : LockName) (fill : ℕ) (x : LockName) (w : Option (List ℕ)) (v : List ℕ) → w ≡ bytes_if (is_same n x && c) fill → b ≡ c → Contains (rewrote R b n fill x) v → Contains (wrote w (R x)) v
same-write R b c n fill x w v we e k = subst (λ (us : List (List ℕ)). Contains us v) (ap (λ (d : Bool). wrote (bytes_if (is_same n x && d) fill) (R x)) e ∙ ap (λ (u : Option (List ℕ)). wrote u (R x)) (sym we)) k

-- what is believed after an ask that does not write was as strong before
ask-up : (old : Option Mode) (mode : Mode) (b : Bool) → lowers old mode ≡ b → writes old (Ask mode) ≡ false → is_strong (if b then Some mode else old) ≡ true → is_strong old ≡ true
ask-up None mode true e w k = cc
ask-up None mode false e w k = k
ask-up (Some h) mode false e w k = k
ask-up (Some h) mode true e w k = absurd (true-false (sym k ∙ lower-weak h mode e (quiet h mode e w)))
  where
    quiet : (h mode : Mode) → lowers (Some h) mode ≡ true → writes (Some h) (Ask mode) ≡ false → is_writing_held (Some h) ≡ false
    quiet h mode e w = last (is_writing_held (Some h)) (lowers (Some h) mode) w e
      where
        last : (a b : Bool) → (a && b) ≡ false → b ≡ true → a ≡ false
        last true b x y = absurd (true-false (sym y ∙ x))
        last false b x y = refl

cross-silent : (old : Option Mode) (mode : Mode) → crosses old mode ≡ true → writes old (Ask mode) ≡ false
cross-silent None mode e = cc
cross-silent (Some k) mode e = grind arith

quiet-more : (c b : Bool) (fill : ℕ) (vs : List (List ℕ)) (v : List ℕ) → b ≡ false → Contains vs v → Contains (wrote (bytes_if (c && b) fill) vs) v
quiet-more true b fill vs v e k = subst (λ (d : Bool). Contains (wrote (bytes_if d fill) vs) v) (sym e) k
quiet-more false b fill vs v e k = k

abbrev Written : (LockName → List (List ℕ)) → LockName → Bool → ℕ → LockName → List (List ℕ)
Written R n b fill x = wrote (bytes_if (is_same n x && b) fill) (R x)

ask-case : (R : LockName → List (List ℕ)) (s : State) (h : Hold) (mode : Mode) (fill : ℕ) → hold_at h.owner h.name s.holds ≡ h → IsSound s → Values R s → Values (Written R h.name (call_writes h (Ask mode)) fill) (ask_after h mode fill s)
ask-case R s h mode fill at i a =
    (elim (is_some h.wait) as (λ b. is_some h.wait ≡ b → Values (Written R h.name (not b && writes h.belief (Ask mode)) fill) (if b then s else if crosses h.belief mode then s else called h.belief (asked_hold h mode) (Ask mode) fill s)) [
      | true ↦ λ e. values-more R (Written R h.name false fill) s (λ x v k. quiet-more (is_same h.name x) false fill (R x) v refl k) a
      | false ↦ λ e.
          (elim (crosses h.belief mode) as (λ b. crosses h.belief mode ≡ b → Values (Written R h.name (writes h.belief (Ask mode)) fill) (if b then s else called h.belief (asked_hold h mode) (Ask mode) fill s)) [
            | true ↦ λ c. values-more R (Written R h.name (writes h.belief (Ask mode)) fill) s (λ x v k. quiet-more (is_same h.name x) (writes h.belief (Ask mode)) fill (R x) v (cross-silent h.belief mode c) k) a
            | false ↦ λ c. go (lowers h.belief mode) refl (waits-none h.wait e)
          ]) refl
    ]) refl
  where
    go : (b : Bool) → lowers h.belief mode ≡ b → h.wait ≡ None → Values (Written R h.name (writes h.belief (Ask mode)) fill) (called h.belief (if b then record h { belief = Some mode } else record h { wait = Some mode }) (Ask mode) fill s)
    go true l w = called-values R s h.belief (record h { belief = Some mode }) (Ask mode) fill i refl (ap (λ (k : Hold). k.belief) at) (ap (λ (k : Hold). k.wait) at ∙ w) (ap (λ (k : Hold). k.seen) (sym at)) (λ q k. ask-up h.belief mode true l q k) a
    go false l w = called-values R s h.belief (record h { wait = Some mode }) (Ask mode) fill i refl (ap (λ (k : Hold). k.belief) at) (ap (λ (k : Hold). k.wait) at ∙ w) (ap (λ (k : Hold). k.seen) (sym at)) (λ q k. ask-up h.belief mode false l q k) a

drop-case : (R : LockName → List (List ℕ)) (s : State) (h : Hold) (fill : ℕ) → hold_at h.owner h.name s.holds ≡ h → IsSound s → Values R s → Values (Written R h.name (call_writes h Drop) fill) (drop_after h fill s)
drop-case R s h fill at i a =
    (elim (is_some h.wait) as (λ b. is_some h.wait ≡ b → Values (Written R h.name (not b && writes h.belief Drop) fill) (if b then s else if is_some h.belief then called h.belief (record h { belief = None }) Drop fill s else s)) [
      | true ↦ λ e. values-more R (Written R h.name false fill) s (λ x v k. quiet-more (is_same h.name x) false fill (R x) v refl k) a
      | false ↦ λ e.
          (elim (is_some h.belief) as (λ b. is_some h.belief ≡ b → Values (Written R h.name (writes h.belief Drop) fill) (if b then called h.belief (record h { belief = None }) Drop fill s else s)) [
            | true ↦ λ c. called-values R s h.belief (record h { belief = None }) Drop fill i refl (ap (λ (k : Hold). k.belief) at) (ap (λ (k : Hold). k.wait) at ∙ waits-none h.wait e) (ap (λ (k : Hold). k.seen) (sym at)) (λ q k. cc) a
            | false ↦ λ c. values-more R (Written R h.name (writes h.belief Drop) fill) s (λ x v k. quiet-more (is_same h.name x) (writes h.belief Drop) fill (R x) v (silent h.belief c) k) a
          ]) refl
    ]) refl
  where
    silent : (o : Option Mode) → is_some o ≡ false → writes o Drop ≡ false
    silent None e = refl
    silent (Some m) e = cc

hold-itself : (o : Owner) (x : LockName) (s : State) → hold_at (hold_at o x s.holds).owner (hold_at o x s.holds).name s.holds ≡ hold_at o x s.holds
hold-itself o x s = rw (hold-owner o x s.holds, hold-name o x s.holds) refl

written-as : (R : LockName → List (List ℕ)) (n m : LockName) (b c : Bool) (fill : ℕ) (x : LockName) (v : List ℕ) → n ≡ m → c ≡ true → Contains (Written R n b fill x) v → Contains (wrote (bytes_if (is_same m x && (c && b)) fill) (R x)) v
written-as R n m b c fill x v e f k = rw (← e, f) k

-- ---- a delivery

from-call : (R : LockName → List (List ℕ)) (s : State) (from to : ℕ) (m : Message) (Q : LockName → List (List ℕ)) → IsSound s → find (is_between from to) s.mail ≡ Some m → is_call m.letter ≡ true → Values Q s
    → (recovery m.name s ≡ None → is_used (told_at m.name (taken m (record s { mail = past_first (is_between from to) s.mail }))) ≡ false → Contains (Q m.name) zeros) → Values Q (arrived m (record s { mail = past_first (is_between from to) s.mail }))
from-call R s from to m Q i f c a z =
    (elim (is_some (recovery m.name s)) as (λ b. is_some (recovery m.name s) ≡ b
    → Values Q (if b then record s { mail = past_first (is_between from to) s.mail; kept = s.kept ++ (m ∷ []) } else taken m (record s { mail = past_first (is_between from to) s.mail }))) [
      | true ↦ λ e. keep-values Q s from to m i f c e a
      | false ↦ λ e. taken-values Q s from to m i f c (none-of (recovery m.name s) e) a (z (none-of (recovery m.name s) e))
    ]) refl

awaited-val : (r : Option ℕ) (vs : List (List ℕ)) (x : LockName) (s : State) (ws : List Awaited) → ValOf r vs x s → ValOf r vs x (record s { awaited = ws })
awaited-val None vs x s ws v = v
awaited-val (Some d) vs x s ws v = v

awaited-values : (R : LockName → List (List ℕ)) (s : State) (ws : List Awaited) → Values R s → Values R (record s { awaited = ws })
awaited-values R s ws a = record { val = λ x. awaited-val (recovery x s) (R x) x s ws (a.val x); read = a.read; given = a.given; waits = a.waits }

from-claim : (Q : LockName → List (List ℕ)) (s : State) (from to : ℕ) (m : Message) (d : ℕ) → IsSound s → s.rule ≡ OfHolders → find (is_between from to) s.mail ≡ Some m → m.letter ≡ Claim d → Values Q s
    → ((x : LockName) → is_some (recovery x s) ≡ true → has_lock x s.holds ≡ false → Contains (Q x) zeros) → Values Q (claimed m d (record s { mail = past_first (is_between from to) s.mail }))
from-claim Q s from to m d i ru f l a zs =
    let t : State = record s { mail = past_first (is_between from to) s.mail } in
    let ws : List Awaited = filter (λ w. not (is_claimed d m.from w)) s.awaited in
    (all-ended-values Q s.recoveries (record t { awaited = ws }) (awaited-sound t ws (claim-sound s from to m d i f l)) ru (awaited-values Q t ws (claim-values Q s from to m d f l a)) zs).values

-- how the state after a claim notes beliefs
claim-holds : (s : State) (from to : ℕ) (m : Message) (d : ℕ) → (claimed m d (record s { mail = past_first (is_between from to) s.mail })).holds ≡ s.holds
claim-holds s from to m d = all-ended-holds s.recoveries (record s { mail = past_first (is_between from to) s.mail; awaited = filter (λ w. not (is_claimed d m.from w)) s.awaited })

both-true : (a b : Bool) → a ≡ true → b ≡ true → (a && b) ≡ true
both-true a b e f = rw (e, f) refl

-- a name at which a call leaves nobody
taken-gone : (R : LockName → List (List ℕ)) (s : State) (from to : ℕ) (m : Message) → after (event.Pass from to) s ≡ arrived m (record s { mail = past_first (is_between from to) s.mail }) → recovery m.name s ≡ None
    → is_used (told_at m.name (taken m (record s { mail = past_first (is_between from to) s.mail }))) ≡ false → Contains (Way R (event.Pass from to) s m.name) zeros
taken-gone R s from to m is o u =
    let e : Event = event.Pass from to in
    let t : State = record s { mail = past_first (is_between from to) s.mail } in
    let now : arrived m t ≡ taken m t = ap (λ (r : Option ℕ). if is_some r then record t { kept = t.kept ++ (m ∷ []) } else taken m t) o in
    let open_name : is_some (recovery m.name (taken m t)) ≡ false = ap is_some (taken-recovery m.letter m (mode_of m.owner (told_at m.name t).askers) (table_at (home t.nodes m.name) t.tables) t m.name ∙ o) in
    let gone : is_gone m.name (after e s) ≡ true = ap (is_gone m.name) (is ∙ now) ∙ both-true (not (is_some (recovery m.name (taken m t)))) (not (is_used (told_at m.name (taken m t)))) (ap not open_name) (ap not u) in
    way-gone (is_gone m.name (after e s)) (may_be_gone e m.name s (after e s)) (R m.name) (or-left (is_gone m.name (after e s)) (may_be_gone e m.name s (after e s)) gone)

-- a name that is being recovered, on which nobody believes a lock
claim-gone : (R : LockName → List (List ℕ)) (s : State) (from to : ℕ) (m : Message) (d : ℕ) (x : LockName) → after (event.Pass from to) s ≡ claimed m d (record s { mail = past_first (is_between from to) s.mail })
    → is_some (recovery x s) ≡ true → has_lock x s.holds ≡ false → Contains (Way R (event.Pass from to) s x) zeros
claim-gone R s from to m d x is g h =
    let e : Event = event.Pass from to in
    let lock : has_lock x (after e s).holds ≡ false = ap (λ (z : State). has_lock x z.holds) is ∙ ap (has_lock x) (claim-holds s from to m d) ∙ h in
    let may : may_be_gone e x s (after e s) ≡ true = both-true (is_some (recovery x s) || false) (not (has_lock x (after e s).holds)) (or-left (is_some (recovery x s)) false g) (ap not lock) in
    way-gone (is_gone x (after e s)) (may_be_gone e x s (after e s)) (R x) (or-right (is_gone x (after e s)) (may_be_gone e x s (after e s)) may)

letter-values : (R : LockName → List (List ℕ)) (s : State) (from to : ℕ) (m : Message) (l : Letter) → IsSound s → s.rule ≡ OfHolders → find (is_between from to) s.mail ≡ Some m → m.letter ≡ l
    → after (event.Pass from to) s ≡ received m l (record s { mail = past_first (is_between from to) s.mail }) → Values (Way R (event.Pass from to) s) s → Values (Way R (event.Pass from to) s) (received m l (record s { mail = past_first (is_between from to) s.mail }))
letter-values R s from to m (Ask w) i ru f k is a = from-call R s from to m (Way R (event.Pass from to) s) i f (ap is_call k) a (taken-gone R s from to m is)
letter-values R s from to m Drop i ru f k is a = from-call R s from to m (Way R (event.Pass from to) s) i f (ap is_call k) a (taken-gone R s from to m is)
letter-values R s from to m (Grant w v) i ru f k is a = granted-values (Way R (event.Pass from to) s) s from to m w v f k a
letter-values R s from to m (Claim d) i ru f k is a = from-claim (Way R (event.Pass from to) s) s from to m d i ru f k a (λ x g h. claim-gone R s from to m d x is g h)

pass-values : (R : LockName → List (List ℕ)) (s : State) (from to : ℕ) → IsSound s → s.rule ≡ OfHolders → after (event.Pass from to) s ≡ pass_after from to (find (is_between from to) s.mail) s → Values (Way R (event.Pass from to) s) s
    → Values (Way R (event.Pass from to) s) (pass_after from to (find (is_between from to) s.mail) s)
pass-values R s from to i ru is a =
    (elim (find (is_between from to) s.mail) as (λ o. find (is_between from to) s.mail ≡ o → after (event.Pass from to) s ≡ pass_after from to o s → Values (Way R (event.Pass from to) s) (pass_after from to o s)) [
      | None ↦ λ f q. a
      | Some m ↦ λ f q. letter-values R s from to m m.letter i ru f refl q a
    ]) refl is

-- ---- a death

kill-gone : (R : LockName → List (List ℕ)) (s : State) (d : ℕ) (x : LockName) → IsSound s → after (event.Kill d) s ≡ killed d s → is_some (recovery x (bereft d s)) ≡ false → is_used (told_at x (bereft d s)) ≡ false → Contains (Way R (event.Kill d) s x) zeros
kill-gone R s d x i is n u =
    let e : Event = event.Kill d in
    let z : State = bereft d s in
    let open_name : recovery x z ≡ None = none-of (recovery x z) n in
    let still : is_some (recovery x (killed d s)) ≡ false = ap is_some (killed-open x d s open_name) in
    let told : told_at x (killed d s) ≡ told_at x z = killed-told x d s i open_name in
    let gone : is_gone x (after e s) ≡ true = ap (is_gone x) is ∙ both-true (not (is_some (recovery x (killed d s)))) (not (is_used (told_at x (killed d s)))) (ap not still) (ap not (ap is_used told ∙ u)) in
    way-gone (is_gone x (after e s)) (may_be_gone e x s (after e s)) (R x) (or-left (is_gone x (after e s)) (may_be_gone e x s (after e s)) gone)

lost-or : (x : LockName) (d : ℕ) (s : State) → IsSound s → lives d s ≡ true → is_some (recovery x (bereft d s)) ≡ true → (is_some (recovery x s) || (lives d s && was_master d s x)) ≡ true
lost-or x d s i l e =
    (elim (was_master d s x) as (λ b. was_master d s x ≡ b → (is_some (recovery x s) || (lives d s && b)) ≡ true) [
      | true ↦ λ w. or-right (is_some (recovery x s)) (lives d s && true) (both-true (lives d s) true l refl)
      | false ↦ λ w. or-left (is_some (recovery x s)) (lives d s && false) (ap is_some (sym (recovery-stays d s i x w)) ∙ e)
    ]) refl

kill-may : (R : LockName → List (List ℕ)) (s : State) (d : ℕ) (x : LockName) → IsSound s → lives d s ≡ true → after (event.Kill d) s ≡ killed d s → is_some (recovery x (bereft d s)) ≡ true → has_lock x (bereft d s).holds ≡ false → Contains (Way R (event.Kill d) s x) zeros
kill-may R s d x i l is g h =
    let e : Event = event.Kill d in
    let hold1 : (killed d s).holds ≡ (bereft d s).holds = all-ended-holds (served (bereft d s)).recoveries (served (bereft d s)) in
    let lock : has_lock x (after e s).holds ≡ false = ap (λ (z : State). has_lock x z.holds) is ∙ ap (has_lock x) hold1 ∙ h in
    let may : may_be_gone e x s (after e s) ≡ true = both-true (is_some (recovery x s) || (lives d s && was_master d s x)) (not (has_lock x (after e s).holds)) (lost-or x d s i l g) (ap not lock) in
    way-gone (is_gone x (after e s)) (may_be_gone e x s (after e s)) (R x) (or-right (is_gone x (after e s)) (may_be_gone e x s (after e s)) may)

kill-values : (R : LockName → List (List ℕ)) (s : State) (d : ℕ) → IsSound s → s.rule ≡ OfHolders → lives d s ≡ true → after (event.Kill d) s ≡ killed d s → Values (Way R (event.Kill d) s) s → Values (Way R (event.Kill d) s) (killed d s)
kill-values R s d i ru l is a =
    let Q : LockName → List (List ℕ) = Way R (event.Kill d) s in
    let z : State = bereft d s in
    let b : Values Q z = bereft-values Q d s i a (λ x n u. kill-gone R s d x i is n u) in
    let so : IsSound (served z) = served-sound z (bereft-pre d s i) in
    let c : Values Q (served z) = served-values Q z so b in
    let f = all-ended-values Q (served z).recoveries (served z) so ru c (λ x g h. kill-may R s d x i l is g h) in
    claims-values Q d (with_ended (served z)) f.values

-- ---- each event

play-values : (R : LockName → List (List ℕ)) (e : Event) (s : State) → IsSound s → s.rule ≡ OfHolders → Values R s → names_living e s ≡ true → after e s ≡ played e s → Values (Way R e s) (played e s)
play-values R (event.Ask owner name mode fill) s i ru a n is =
    let e : Event = event.Ask owner name mode fill in
    let h : Hold = hold_at owner name s.holds in
    values-more (Written R h.name (call_writes h (Ask mode)) fill) (Way R e s) (ask_after h mode fill s)
    (λ x v k. way-wrote (write_of e x s) (is_gone x (after e s)) (may_be_gone e x s (after e s)) (R x) v (written-as R h.name name (call_writes h (Ask mode)) (lives owner.node s) fill x v (hold-name owner name s.holds) n k))
    (ask-case R s h mode fill (hold-itself owner name s) i a)
play-values R (event.Drop owner name fill) s i ru a n is =
    let e : Event = event.Drop owner name fill in
    let h : Hold = hold_at owner name s.holds in
    values-more (Written R h.name (call_writes h Drop) fill) (Way R e s) (drop_after h fill s)
    (λ x v k. way-wrote (write_of e x s) (is_gone x (after e s)) (may_be_gone e x s (after e s)) (R x) v (written-as R h.name name (call_writes h Drop) (lives owner.node s) fill x v (hold-name owner name s.holds) n k))
    (drop-case R s h fill (hold-itself owner name s) i a)
play-values R (event.Pass from to) s i ru a n is =
    let e : Event = event.Pass from to in
    pass-values R s from to i ru is (values-more R (Way R e s) s (λ x v k. way-more (is_gone x (after e s)) (may_be_gone e x s (after e s)) (R x) v k) a)
play-values R (event.Kill d) s i ru a n is =
    let e : Event = event.Kill d in
    kill-values R s d i ru n is (values-more R (Way R e s) s (λ x v k. way-more (is_gone x (after e s)) (may_be_gone e x s (after e s)) (R x) v k) a)

-- an event whose node does not live writes nothing
no-write : (e : Event) (s : State) (x : LockName) → names_living e s ≡ false → write_of e x s ≡ None
no-write (event.Ask owner name mode fill) s x n = ap (λ (b : Bool). bytes_if (is_same name x && (b && call_writes (hold_at owner name s.holds) (Ask mode))) fill) n ∙ off (is_same name x)
  where
    off : (c : Bool) → bytes_if (c && false) fill ≡ None
    off true = refl
    off false = refl
no-write (event.Drop owner name fill) s x n = ap (λ (b : Bool). bytes_if (is_same name x && (b && call_writes (hold_at owner name s.holds) Drop)) fill) n ∙ off (is_same name x)
  where
    off : (c : Bool) → bytes_if (c && false) fill ≡ None
    off true = refl
    off false = refl
no-write (event.Pass from to) s x n = refl
no-write (event.Kill d) s x n = refl

way-values : (R : LockName → List (List ℕ)) (e : Event) (s : State) → IsSound s → s.rule ≡ OfHolders → Values R s → Values (Way R e s) (after e s)
way-values R e s i ru a =
    (elim (names_living e s) as (λ b. names_living e s ≡ b → Values (Way R e s) (after e s)) [
      | true ↦ λ n.
          let is : after e s ≡ played e s = ap (λ (b : Bool). if b then played e s else s) n in
          subst (λ (z : State). Values (Way R e s) z) (sym is) (play-values R e s i ru a n is)
      | false ↦ λ n.
          let is : after e s ≡ s = ap (λ (b : Bool). if b then played e s else s) n in
          subst (λ (z : State). Values (Way R e s) z) (sym is) (values-more R (Way R e s) s
          (λ x v k. way-wrote (write_of e x s) (is_gone x (after e s)) (may_be_gone e x s (after e s)) (R x) v (subst (λ (w : Option (List ℕ)). Contains (wrote w (R x)) v) (sym (no-write e s x n)) k)) a)
    ]) refl

after-values : (R : LockName → List (List ℕ)) (e : Event) (s : State) → IsSound s → s.rule ≡ OfHolders → Values R s → Values (Next R e s) (after e s)
after-values R e s i ru a = end-event R e s (after-sound e s i) (way-values R e s i ru a)

-- ---- every list

all-values : (es : List Event) (s : State) (R : LockName → List (List ℕ)) → IsSound s → s.rule ≡ OfHolders → Values R s → Values (λ x. readable x s es (R x)) (after_all s es)
all-values [] s R i ru a = a
all-values (e ∷ es) s R i ru a = all-values es (after e s) (Next R e s) (after-sound e s i) (rule-stays e s ∙ ru) (after-values R e s i ru a)

start-values : (n : ℕ) → 1 ≤ n → Values (λ x. zeros ∷ []) (start OfHolders n)
start-values n l =
    let s : State = start OfHolders n in
    let i : IsSound s = start-sound OfHolders n l in
    record {
      val = λ x.
          let none : recovery x s ≡ None = start-recovers n x in
          let empty : table_at (home n x) s.tables ≡ [] = start-empty OfHolders n (home n x - 1) in
          let told : told_at x s ≡ fresh x = ap (resource_at x) empty in
          subst (λ (r : Option ℕ). ValOf r (zeros ∷ []) x s) (sym none)
          (gone-val (zeros ∷ []) (lock_in None x s) (calls_in None x s) (block_in x s) (λ o. ap (λ (r : Resource). is_writing_held (option_and_then held (standing_of o r.askers))) told)
          (subst (λ (r : Resource). OK (zeros ∷ []) (marked r.valid r.value)) (sym told) (contains-first zeros [])));
      read = λ o x e. cc;
      given = tt;
      waits = λ o x. tt;
    }

run-values : (nodes : ℕ) (es : List Event) → 1 ≤ nodes → Values (λ x. readable_of x nodes es) (after_all (start OfHolders nodes) es)
run-values nodes es l = all-values es (start OfHolders nodes) (λ x. zeros ∷ []) (start-sound OfHolders nodes l) refl (start-values nodes l)

-- ---- what is told

received-reads : (Q : LockName → List (List ℕ)) (m : Message) (l : Letter) (o : Owner) (x : LockName) (w : Mode) (v : List ℕ) → received_told m l ≡ told.Granted o x w v true → is_strong (Some w) ≡ true
    → Says (λ n u. is_strong (Some n) ≡ true → OK (Q m.name) (marked u m.value)) l → Contains (Q x) v
received-reads Q m (Ask n) o x w v e k g = cc
received-reads Q m Drop o x w v e k g = cc
received-reads Q m (Claim d) o x w v e k g = cc
received-reads Q m (Grant n u) o x w v e k g =
    let ex : m.name ≡ x = cc in
    let ew : n ≡ w = cc in
    let ev : m.value ≡ v = cc in
    let eu : u ≡ true = cc in
    let ok : OK (Q m.name) (marked u m.value) = g (rw ew k) in
    let ok2 : OK (Q m.name) (marked true m.value) = subst (λ (b : Bool). OK (Q m.name) (marked b m.value)) eu ok in
    subst (λ (y : LockName). Contains (Q y) v) ex (subst (λ (z : List ℕ). Contains (Q m.name) z) ev ok2)

pass-reads : (Q : LockName → List (List ℕ)) (s : State) (from to : ℕ) (f : Option Message) (o : Owner) (x : LockName) (w : Mode) (v : List ℕ) → find (is_between from to) s.mail ≡ f → pass_told f ≡ told.Granted o x w v true → is_strong (Some w) ≡ true → Each (GrantOK Q) s.mail
    → Contains (Q x) v
pass-reads Q s from to None o x w v f e k a = cc
pass-reads Q s from to (Some m) o x w v f e k a = received-reads Q m m.letter o x w v e k (each-find (GrantOK Q) (is_between from to) s.mail m a f)

answer-reads : (Q : LockName → List (List ℕ)) (s : State) (e : Event) (o : Owner) (x : LockName) (w : Mode) (v : List ℕ) → answer_of e s ≡ told.Granted o x w v true → is_strong (Some w) ≡ true → Each (GrantOK Q) s.mail → Contains (Q x) v
answer-reads Q s (event.Ask owner name mode fill) o x w v e k a = let h : Hold = hold_at owner name s.holds in absurd (ask-no_grant (is_some h.wait) (crosses h.belief mode) o x w v true e)
answer-reads Q s (event.Drop owner name fill) o x w v e k a = let h : Hold = hold_at owner name s.holds in absurd (drop-no_grant (is_some h.wait) (is_some h.belief) o x w v true e)
answer-reads Q s (event.Pass from to) o x w v e k a = pass-reads Q s from to (find (is_between from to) s.mail) o x w v refl e k a
answer-reads Q s (event.Kill d) o x w v e k a = cc

event-reads : (Q : LockName → List (List ℕ)) (s : State) (e : Event) (o : Owner) (x : LockName) (w : Mode) (v : List ℕ) → told_of e s ≡ told.Granted o x w v true → is_strong (Some w) ≡ true → Values Q s → Contains (Q x) v
event-reads Q s e o x w v t k a =
    (elim (names_living e s) as (λ b. (if b then answer_of e s else told.Dead) ≡ told.Granted o x w v true → Contains (Q x) v) [
      | true ↦ λ q. answer-reads Q s e o x w v q k a.given
      | false ↦ λ q. cc
    ]) t

pub holders-have : HoldersHaveTheLastWrite
holders-have = record {
  reads = λ nodes es e o x w v l k t. event-reads (λ y. readable_of y nodes es) (after_all (start OfHolders nodes) es) e o x w v t k (run-values nodes es l);
  holds = λ nodes es o x l k v.
      let s : State = after_all (start OfHolders nodes) es in
      subst (λ (b : Bool). OK (readable_of x nodes es) (marked b (hold_at o x s.holds).seen.value)) v ((run-values nodes es l).read o x k);
}
