-- The tables go by calls, and every grant that is on its way was given.
use Rattle.std.proofs.Common.{◌≡◌, ◌≢◌, ◌==◌, ◌++◌, ◌&&◌, ◌⊎◌, inl, inr, ℕ, Bool, true, false, not, List, [], ◌∷◌, Option, Some, None, is_some, filter, find, map, refl, ap, sym, subst, ◌∙◌, cond, if◌then◌else◌, append_assoc, Contains}
use Rattle.std.proofs.lemmas.List.{append-nil}
use Rattle.plain_cat.specs.declared.mode.Mode.{Mode}
use Rattle.lock_db.specs.declared.name.LockName.{LockName}
use Rattle.lock_db.specs.declared.name.Owner.{Owner}
use Rattle.lock_db.specs.declared.resource.Resource.{Resource}
use Rattle.dlm_core.specs.declared.messages.Letter.{Letter}
use Rattle.dlm_core.specs.declared.messages.Letter.TheVariants.{Ask, Drop, Grant, Claim}
use Rattle.dlm_core.specs.declared.messages.Message.{Message}
use Rattle.dlm_core.specs.declared.holds.Hold.{Hold}
use Rattle.dlm_core.specs.declared.homes.Awaited.{Awaited}
use Rattle.dlm_core.specs.declared.events.Event.{Event}
use Rattle.dlm_core.specs.declared.events.Event.TheVariants as event
use Rattle.dlm_core.specs.declared.events.Told.TheVariants as told
use Rattle.dlm_core.specs.Modes.{crosses}
use Rattle.dlm_core.specs.States.{State, recovery, lives, hold_at, asked_hold, is_between, past_first, start}
use Rattle.dlm_core.specs.Steps.{is_grant, is_call, called, ask_after, drop_after, taken}
use Rattle.dlm_core.specs.Recoveries.{is_open}
use Rattle.dlm_core.specs.Deaths.{is_lost, was_master, left_awaited, bereft_tables, bereft, with_ended, killed}
use Rattle.dlm_core.specs.Events.{arrived, is_claimed, received, received_told, pass_told, pass_after, names_living, answer_of, played, told_of, after}
use Rattle.dlm_core.specs.Lanes.{IsSound}
use Rattle.dlm_core.specs.Runs.{after_all, delivered, left_by, undelivered, call_in, is_claim, brings_claim, may_recover, with_claim, with_first, left_to, IsDue, IsStep, GoesByCalls, TablesGoByCalls, GivesByCall, GivesByDeath, GivesBetween, GivenBy, Gives, StaysOnItsWay, WasGiven, TellsTruly, GrantsAreTrue, AllGoTogether}
use Rattle.dlm_core.specs.Runs.IsStep.{Restores, Keeps}
use Rattle.dlm_core.specs.Runs.GivenBy.{ByCall, ByDeath, InRecovery}
use Rattle.dlm_core.specs.Runs.GoesByCalls.{Stays, Calls, Recovers, Dies}
use Rattle.dlm_core.proofs.Safety.{sound-safe}
use Rattle.dlm_core.proofs.Sending.{start-sound}
use Rattle.lock_db.proofs.Lists.{or-false_right}
use Rattle.dlm_core.proofs.Serving.{eq-self}
use Rattle.dlm_core.proofs.Dying.{recovery-lost, recovery-stays}
use Rattle.dlm_core.proofs.Passing.{call-first, claim-sound}
use Rattle.dlm_core.proofs.Sound.{after-sound, awaited-sound}
use Rattle.dlm_core.proofs.Tracing.{Each, each-append, each-weaker, each-both, each-contained, each-filter, Says, says-weaker, IsNew, Goes}
use Rattle.dlm_core.proofs.Trails.{take-makes, with-ended-goes, bereft_mail, killed-goes}
use Rattle.dlm_core.proofs.ByCalls.{event-owed, none-some, call-only, true-false}

-- ---- a claim that arrives

claim-left : (s : State) (from to : ℕ) (m : Message) (d : ℕ) → find (is_between from to) s.mail ≡ Some m → m.letter ≡ Claim d
    → left_to (event.Pass from to) s ≡ record s { awaited = filter (λ w. not (is_claimed d m.from w)) s.awaited }
claim-left s from to m d f e = ap (λ (o : Option Message). with_first o s) f ∙ ap (λ (l : Letter). with_claim m l s) e

claim-goes : (s : State) (from to : ℕ) (m : Message) (d : ℕ) → IsSound s → find (is_between from to) s.mail ≡ Some m → m.letter ≡ Claim d
    → Goes s.nodes (left_to (event.Pass from to) s) (record s { mail = past_first (is_between from to) s.mail }) (received m (Claim d) (record s { mail = past_first (is_between from to) s.mail }))
claim-goes s from to m d i f e =
    let z : State = record s { mail = past_first (is_between from to) s.mail } in
    let ws : List Awaited = filter (λ w. not (is_claimed d m.from w)) s.awaited in
    let y : State = record z { awaited = ws } in
    let r : State = record s { awaited = ws } in
    let g : Goes s.nodes r y (with_ended y) = with-ended-goes r y (awaited-sound z ws (claim-sound s from to m d i f e)) (record { rule = refl; nodes = refl; living = refl; homes = refl; awaited = refl; claims = refl; blocks = refl; kept = refl }) in
    subst (λ (k : State). Goes s.nodes k z (received m (Claim d) z)) (sym (claim-left s from to m d f e)) (record { chain = g.chain; sent = g.sent; sends = g.sends; given = g.given })

-- ---- the tables go by calls

ask-stays : (h : Hold) (mode : Mode) (fill : ℕ) (s : State) → (ask_after h mode fill s).tables ≡ s.tables
ask-stays h mode fill s =
    (elim (is_some h.wait) as (λ b. (if b then s else if crosses h.belief mode then s else called h.belief (asked_hold h mode) (Ask mode) fill s).tables ≡ s.tables) [
      | true ↦ refl
      | false ↦ (elim (crosses h.belief mode) as (λ b. (if b then s else called h.belief (asked_hold h mode) (Ask mode) fill s).tables ≡ s.tables) [ true ↦ refl | false ↦ refl ])
    ])

drop-stays : (h : Hold) (fill : ℕ) (s : State) → (drop_after h fill s).tables ≡ s.tables
drop-stays h fill s =
    (elim (is_some h.wait) as (λ b. (if b then s else if is_some h.belief then called h.belief (record h { belief = None }) Drop fill s else s).tables ≡ s.tables) [
      | true ↦ refl
      | false ↦ (elim (is_some h.belief) as (λ b. (if b then called h.belief (record h { belief = None }) Drop fill s else s).tables ≡ s.tables) [ true ↦ refl | false ↦ refl ])
    ])

arrived-calls : (s : State) (from to : ℕ) (m : Message) → IsSound s → names_living (event.Pass from to) s ≡ true → find (is_between from to) s.mail ≡ Some m → is_call m.letter ≡ true
    → GoesByCalls (event.Pass from to) s (arrived m (record s { mail = past_first (is_between from to) s.mail }))
arrived-calls s from to m i n f c =
    let z : State = record s { mail = past_first (is_between from to) s.mail } in
    (elim (is_some (recovery m.name s)) as (λ b. is_some (recovery m.name s) ≡ b → GoesByCalls (event.Pass from to) s (if b then record z { kept = z.kept ++ (m ∷ []) } else taken m z)) [
      | true ↦ λ e. Stays (rw (n, f, call-only s m true true c e) refl) refl
      | false ↦ λ e.
          let o = none-some (recovery m.name s) e in
          let k = take-makes m.letter from to m (past_first (is_between from to) s.mail) s refl c (call-first s from to m i f c o) in
          Calls m k.table (rw (n, f, call-only s m true false c e) refl) k.makes k.becomes
    ]) refl

received-calls : (s : State) (from to : ℕ) (m : Message) (l : Letter) → IsSound s → names_living (event.Pass from to) s ≡ true → find (is_between from to) s.mail ≡ Some m → m.letter ≡ l
    → GoesByCalls (event.Pass from to) s (received m l (record s { mail = past_first (is_between from to) s.mail }))
received-calls s from to m (Ask w) i n f e = arrived-calls s from to m i n f (ap is_call e)
received-calls s from to m Drop i n f e = arrived-calls s from to m i n f (ap is_call e)
received-calls s from to m (Grant w v) i n f e = Stays (rw (n, f, e) refl) refl
received-calls s from to m (Claim d) i n f e = Recovers (rw (n, f, e) refl) (claim-goes s from to m d i f e).chain

pass-calls : (s : State) (from to : ℕ) (o : Option Message) → IsSound s → names_living (event.Pass from to) s ≡ true → find (is_between from to) s.mail ≡ o → GoesByCalls (event.Pass from to) s (pass_after from to o s)
pass-calls s from to None i n f = Stays (rw (n, f) refl) refl
pass-calls s from to (Some m) i n f = received-calls s from to m m.letter i n f refl

nothing-called : (e : Event) (s : State) → names_living e s ≡ false → call_in e s ≡ None
nothing-called e s n = rw n refl

played-calls : (e : Event) (s : State) → IsSound s → names_living e s ≡ true → GoesByCalls e s (played e s)
played-calls (event.Ask owner name mode fill) s i n = Stays (rw n refl) (ask-stays (hold_at owner name s.holds) mode fill s)
played-calls (event.Drop owner name fill) s i n = Stays (rw n refl) (drop-stays (hold_at owner name s.holds) fill s)
played-calls (event.Pass from to) s i n = pass-calls s from to (find (is_between from to) s.mail) i n refl
played-calls (event.Kill node) s i n = Dies node refl n (killed-goes node s i).chain

pub after-goes : (e : Event) (s : State) → IsSound s → GoesByCalls e s (after e s)
after-goes e s i = (elim (names_living e s) as (λ b. names_living e s ≡ b → GoesByCalls e s (if b then played e s else s)) [ true ↦ λ n. played-calls e s i n | false ↦ λ n. Stays (nothing-called e s n) refl ]) refl

-- ---- every grant that is on its way was given

pub each-past : (P : Message → Type 0) (p : Message → Bool) (ms : List Message) → Each P ms → Each P (past_first p ms)
each-past P p [] a = tt
each-past P p (m ∷ ms) a = (elim (p m) as (λ b. Each P (if b then ms else m ∷ past_first p ms)) [ true ↦ a.1 | false ↦ (a.0, each-past P p ms a.1) ])

some-message : (a b : Message) → Some a ≡ Some b → a ≡ b
some-message a b e = cc

pub each-find : (P : Message → Type 0) (p : Message → Bool) (ms : List Message) (m : Message) → Each P ms → find p ms ≡ Some m → P m
each-find P p [] m a f = cc
each-find P p (k ∷ ms) m a f =
    (elim (p k) as (λ b. cond b (Some k) (find p ms) ≡ Some m → P m)
    [ true ↦ λ g. subst (λ (z : Message). P z) (some-message k m g) a.0 | false ↦ λ g. each-find P p ms m a.1 g ]) f

each-left : (P : Message → Type 0) (e : Event) (s : State) → Each P s.mail → Each P (left_by e s)
each-left P (event.Ask owner name mode fill) s a = a
each-left P (event.Drop owner name fill) s a = a
each-left P (event.Pass from to) s a = each-past P (is_between from to) s.mail a
each-left P (event.Kill node) s a = each-filter P (λ m. not (is_lost node m)) s.mail a

each-undelivered : (P : Message → Type 0) (e : Event) (s : State) → Each P s.mail → Each P (undelivered e s)
each-undelivered P e s a = (elim (names_living e s) as (λ b. Each P (if b then left_by e s else s.mail)) [ true ↦ each-left P e s a | false ↦ a ])

-- a message that an event has sent, which is given if it is a grant
abbrev IsSent : State → Event → Message → Type 0
IsSent s e m = Says (λ w v. Gives s e m w v) m.letter

-- What is true of each message that is on its way stays true, and the event has sent the others.
abbrev OldOrNew : (Message → Type 0) → State → Event → Message → Type 0
OldOrNew P s e m = P m ⊎ IsSent s e m

-- what an event has sent
record EventSent (s : State) (e : Event) : Type 0 where
  sent : List Message
  sends : (after e s).mail ≡ undelivered e s ++ sent
  given : Each (λ (m : Message). Says (λ w v. GivenBy s e m w v) m.letter) sent

step-due : (n : ℕ) (r : State) (m : Message) (ts us : List (List Resource)) → IsStep n r m ts us → IsDue r m.name
step-due n r m ts us (Restores t d c k e) = d
step-due n r m ts us (Keeps t d c k e) = d

-- the messages that are sent with a claim
record ClaimIn (b : Bool) (o : Option Message) : Type 0 where
  living : b ≡ true
  message : Message
  dead : ℕ
  found : o ≡ Some message
  letter : message.letter ≡ Claim dead

claim-letter : (l : Letter) → is_claim l ≡ true → (d : ℕ) × (l ≡ Claim d)
claim-letter (Ask w) e = cc
claim-letter Drop e = cc
claim-letter (Grant w v) e = cc
claim-letter (Claim d) e = (d, refl)

claim-in : (b : Bool) (o : Option Message) → brings_claim (if b then o else None) ≡ true → ClaimIn b o
claim-in false o e = cc
claim-in true None e = cc
claim-in true (Some m) e = let k = claim-letter m.letter e in record { living = refl; message = m; dead = k.0; found = refl; letter = k.1 }

claim-given : (s : State) (from to : ℕ) (last : List (List Resource)) (m : Message) (w : Mode) (v : Bool) (r : State) → left_to (event.Pass from to) s ≡ r → r.tables ≡ s.tables → ((x : LockName) → recovery x r ≡ recovery x s)
    → may_recover (event.Pass from to) s ≡ true → (after (event.Pass from to) s).tables ≡ last
    → GivesBetween s.nodes (left_to (event.Pass from to) s) s.tables last m w v → GivenBy s (event.Pass from to) m w v
claim-given s from to last m w v r is same names may end g =
    let e : Event = event.Pass from to in
    let due = step-due s.nodes (left_to e s) g.call g.before g.behind g.step in
    let named : recovery m.name s ≡ Some due.dead = sym (ap (recovery m.name) is ∙ names m.name) ∙ ap (λ (x : LockName). recovery x (left_to e s)) (sym g.on_name) ∙ due.recovers in
    let first : (left_to e s).tables ≡ s.tables = ap (λ (k : State). k.tables) is ∙ same in
    InRecovery may (ap is_some named)
    (subst (λ (ts : List (List Resource)). GivesBetween s.nodes (left_to e s) ts (after e s).tables m w v) (sym first)
    (subst (λ (us : List (List Resource)). GivesBetween s.nodes (left_to e s) s.tables us m w v) (sym end) g))

claim-sent : (s : State) (from to : ℕ) → IsSound s → may_recover (event.Pass from to) s ≡ true → EventSent s (event.Pass from to)
claim-sent s from to i may =
    let e : Event = event.Pass from to in
    let c = claim-in (names_living e s) (find (is_between from to) s.mail) may in
    let m : Message = c.message in
    let d : ℕ = c.dead in
    let z : State = record s { mail = past_first (is_between from to) s.mail } in
    let next : State = received m (Claim d) z in
    let is : after e s ≡ next = ap (λ (b : Bool). if b then played e s else s) c.living ∙ ap (λ (o : Option Message). pass_after from to o s) c.found ∙ ap (λ (l : Letter). received m l z) c.letter in
    let left : undelivered e s ≡ z.mail = ap (λ (b : Bool). if b then left_by e s else s.mail) c.living in
    let r : State = record s { awaited = filter (λ w. not (is_claimed d m.from w)) s.awaited } in
    let g = claim-goes s from to m d i c.found c.letter in
    record {
      sent = g.sent;
      sends = ap (λ (y : State). y.mail) is ∙ g.sends ∙ ap (λ (ms : List Message). ms ++ g.sent) (sym left);
      given = each-weaker (IsNew s.nodes (left_to e s) s.tables next.tables) (λ (k : Message). Says (λ w v. GivenBy s e k w v) k.letter) g.sent
          (λ k p. says-weaker (λ w v. GivesBetween s.nodes (left_to e s) s.tables next.tables k w v) (λ w v. GivenBy s e k w v) k.letter
          (λ w v q. claim-given s from to next.tables k w v r (claim-left s from to m d c.found c.letter) refl (λ x. refl) may (ap (λ (y : State). y.tables) is) q) p) g.given;
    }

-- what is sent at a death
open-new : (d : ℕ) (ws : List Awaited) (ns : List ℕ) → is_open d (ws ++ map (λ n. record { dead = d; node = n }) ns) ≡ false → ns ≡ []
open-new d [] [] e = refl
open-new d [] (n ∷ ns) e = absurd (let k : true ≡ false = sym (rw (eq-self d) refl) ∙ e in true-false k)
open-new d (w ∷ ws) ns e = open-new d ws ns (or-false_right (w.dead == d) (is_open d (ws ++ map (λ n. record { dead = d; node = n }) ns)) e)

kill-named : (d : ℕ) (s : State) (x : LockName) → IsSound s → IsDue (bereft d s) x → (bereft d s).living ≢ [] → is_some (recovery x s) ≡ true
kill-named d s x i due l =
    (elim (was_master d s x) as (λ b. was_master d s x ≡ b → is_some (recovery x s) ≡ true) [
      | true ↦ λ w.
          let is : Some due.dead ≡ Some d = sym due.recovers ∙ recovery-lost d s i x w in
          let at : due.dead ≡ d = cc in
          absurd (l (open-new d (left_awaited d (bereft d s).homes s.awaited) (bereft d s).living (ap (λ (k : ℕ). is_open k (bereft d s).awaited) (sym at) ∙ due.all_came)))
      | false ↦ λ w. ap is_some (sym (recovery-stays d s i x w) ∙ due.recovers)
    ]) refl

plain-says : (P : Mode → Bool → Type 0) (l : Letter) → is_grant l ≡ false → Says P l
plain-says P (Ask w) q = tt
plain-says P Drop q = tt
plain-says P (Grant w v) q = cc
plain-says P (Claim d) q = tt

kill-given : (d : ℕ) (s : State) (m : Message) (w : Mode) (v : Bool) → IsSound s → (bereft d s).living ≢ [] → names_living (event.Kill d) s ≡ true → (after (event.Kill d) s).tables ≡ (killed d s).tables
    → GivesBetween s.nodes (bereft d s) (bereft_tables d s.homes s.tables) (killed d s).tables m w v → GivenBy s (event.Kill d) m w v
kill-given d s m w v i l may end g =
    let due = step-due s.nodes (bereft d s) g.call g.before g.behind g.step in
    let named : IsDue (bereft d s) m.name = subst (λ (x : LockName). IsDue (bereft d s) x) g.on_name due in
    InRecovery may (kill-named d s m.name i named l) (subst (λ (us : List (List Resource)). GivesBetween s.nodes (bereft d s) (bereft_tables d s.homes s.tables) us m w v) (sym end) g)

kill-sent : (d : ℕ) (s : State) → IsSound s → (after (event.Kill d) s).living ≢ [] → names_living (event.Kill d) s ≡ true → EventSent s (event.Kill d)
kill-sent d s i lives may =
    let e : Event = event.Kill d in
    let k = killed-goes d s i in
    let is : after e s ≡ killed d s = ap (λ (b : Bool). if b then killed d s else s) may in
    let still : (bereft d s).living ≢ [] = λ q. lives (ap (λ (y : State). y.living) is ∙ k.living ∙ q) in
    let left : undelivered e s ≡ (bereft_mail d s).mail = ap (λ (b : Bool). if b then left_by e s else s.mail) may in
    let P : Message → Type 0 = λ m. Says (λ w v. GivenBy s e m w v) m.letter in
    record {
      sent = k.first ++ (k.later ++ k.last);
      sends = ap (λ (y : State). y.mail) is ∙ k.sends ∙ ap (λ (ms : List Message). ms ++ (k.first ++ (k.later ++ k.last))) (sym left);
      given = each-append P k.first (k.later ++ k.last)
          (each-weaker (λ (m : Message). Says (λ w v. GivesByDeath s d m w v) m.letter) P k.first
          (λ m p. says-weaker (λ w v. GivesByDeath s d m w v) (λ w v. GivenBy s e m w v) m.letter (λ w v q. ByDeath d refl may q) p) k.by_death)
          (each-append P k.later k.last
          (each-weaker (IsNew s.nodes (bereft d s) (bereft_tables d s.homes s.tables) (killed d s).tables) P k.later
          (λ m p. says-weaker (λ w v. GivesBetween s.nodes (bereft d s) (bereft_tables d s.homes s.tables) (killed d s).tables m w v) (λ w v. GivenBy s e m w v) m.letter
          (λ w v q. kill-given d s m w v i still may (ap (λ (y : State). y.tables) is) q) p) k.in_recovery)
          (each-weaker (λ (m : Message). is_grant m.letter ≡ false) P k.last (λ m q. plain-says (λ w v. GivenBy s e m w v) m.letter q) k.claims));
    }

recover-sent : (e : Event) (s : State) → IsSound s → (after e s).living ≢ [] → may_recover e s ≡ true → EventSent s e
recover-sent (event.Ask owner name mode fill) s i l may = cc
recover-sent (event.Drop owner name fill) s i l may = cc
recover-sent (event.Pass from to) s i l may = claim-sent s from to i may
recover-sent (event.Kill node) s i l may = kill-sent node s i l may

call-sent : (e : Event) (s : State) → IsSound s → may_recover e s ≡ false → EventSent s e
call-sent e s i may =
    let o = event-owed e s i may in
    record {
      sent = o.sent;
      sends = o.sends;
      given = each-weaker (λ (m : Message). Says (λ w v. GivesByCall s e m w v) m.letter) (λ (m : Message). Says (λ w v. GivenBy s e m w v) m.letter) o.sent
          (λ m p. says-weaker (λ w v. GivesByCall s e m w v) (λ w v. GivenBy s e m w v) m.letter (λ w v q. ByCall q) p) o.given;
    }

event-sends : (e : Event) (s : State) → IsSound s → (after e s).living ≢ [] → EventSent s e
event-sends e s i l = (elim (may_recover e s) as (λ b. may_recover e s ≡ b → EventSent s e) [ true ↦ λ may. recover-sent e s i l may | false ↦ λ may. call-sent e s i may ]) refl

-- the messages that an event has sent
event-sent : (s : State) (e : Event) (g : EventSent s e) → Each (IsSent s e) g.sent
event-sent s e g =
    each-both (λ (m : Message). Says (λ w v. GivenBy s e m w v) m.letter) (λ (m : Message). Contains g.sent m) (IsSent s e) g.sent
    (λ m k c. says-weaker (λ w v. GivenBy s e m w v) (λ w v. Gives s e m w v) m.letter (λ w v q. record { gives = q; sent = g.sent; sends = g.sends; among = c }) k) g.given (each-contained g.sent)

after-new : (P : Message → Type 0) (s : State) (e : Event) → IsSound s → (after e s).living ≢ [] → Each P s.mail → Each (OldOrNew P s e) (after e s).mail
after-new P s e i l a =
    let g = event-sends e s i l in
    let new : Each (OldOrNew P s e) g.sent = each-weaker (IsSent s e) (OldOrNew P s e) g.sent (λ m k. inr k) (event-sent s e g) in
    let old : Each (OldOrNew P s e) (undelivered e s) = each-weaker P (OldOrNew P s e) (undelivered e s) (λ m k. inl k) (each-undelivered P e s a) in
    subst (λ (ms : List Message). Each (OldOrNew P s e) ms) (sym g.sends) (each-append (OldOrNew P s e) (undelivered e s) g.sent old new)

-- a state of a run is sound
pub all-sound : (es : List Event) (s : State) → IsSound s → IsSound (after_all s es)
all-sound [] s i = i
all-sound (e ∷ es) s i = all-sound es (after e s) (after-sound e s i)

pub all-together : AllGoTogether
all-together rule nodes es l = sound-safe (after_all (start rule nodes) es) (all-sound es (start rule nodes) (start-sound rule nodes l))

pub all-calls : TablesGoByCalls
all-calls rule nodes es e l = after-goes e (after_all (start rule nodes) es) (all-sound es (start rule nodes) (start-sound rule nodes l))

after-append : (es fs : List Event) (s : State) → after_all s (es ++ fs) ≡ after_all (after_all s es) fs
after-append [] fs s = refl
after-append (e ∷ es) fs s = after-append es fs (after e s)

stays-longer : (m : Message) (s : State) (es : List Event) (e : Event) → StaysOnItsWay m s es → Contains (after_all s (es ++ (e ∷ []))).mail m → StaysOnItsWay m s (es ++ (e ∷ []))
stays-longer m s [] e a c = (a, c)
stays-longer m s (f ∷ es) e a c = (a.0, stays-longer m (after f s) es e a.1 c)

-- a grant that is on its way was given
abbrev IsGiven : State → List Event → Message → Type 0
IsGiven s es m = Says (λ w v. WasGiven s es m w v) m.letter

given-longer : (s0 : State) (es : List Event) (e : Event) (m : Message) (w : Mode) (v : Bool) → WasGiven s0 es m w v → Contains (after_all s0 (es ++ (e ∷ []))).mail m → WasGiven s0 (es ++ (e ∷ [])) m w v
given-longer s0 es e m w v g c =
    let more : List Event = g.later ++ (e ∷ []) in
    let are : es ++ (e ∷ []) ≡ g.earlier ++ (g.giver ∷ more) = ap (λ (fs : List Event). fs ++ (e ∷ [])) g.are ∙ append_assoc g.earlier (g.giver ∷ g.later) (e ∷ []) in
    let state : after_all s0 (es ++ (e ∷ [])) ≡ after_all (after g.giver (after_all s0 g.earlier)) more = ap (after_all s0) are ∙ after-append g.earlier (g.giver ∷ more) s0 in
    let last : Contains (after_all (after g.giver (after_all s0 g.earlier)) more).mail m = subst (λ (z : State). Contains z.mail m) state c in
    record { earlier = g.earlier; giver = g.giver; later = more; are = are; gives = g.gives; stays = stays-longer m (after g.giver (after_all s0 g.earlier)) g.later e g.stays last }

given-now : (s0 : State) (es : List Event) (e : Event) (m : Message) (w : Mode) (v : Bool) → Gives (after_all s0 es) e m w v → Contains (after_all s0 (es ++ (e ∷ []))).mail m → WasGiven s0 (es ++ (e ∷ [])) m w v
given-now s0 es e m w v g c =
    record { earlier = es; giver = e; later = []; are = refl; gives = g; stays = subst (λ (z : State). Contains z.mail m) (after-append es (e ∷ []) s0) c }

says-given : (s0 : State) (es : List Event) (e : Event) (m : Message) (l : Letter) → (Says (λ w v. WasGiven s0 es m w v) l) ⊎ (Says (λ w v. Gives (after_all s0 es) e m w v) l) → Contains (after_all s0 (es ++ (e ∷ []))).mail m
    → Says (λ w v. WasGiven s0 (es ++ (e ∷ [])) m w v) l
says-given s0 es e m (Ask w) g c = tt
says-given s0 es e m Drop g c = tt
says-given s0 es e m (Grant w v) (inl g) c = given-longer s0 es e m w v g c
says-given s0 es e m (Grant w v) (inr g) c = given-now s0 es e m w v g c
says-given s0 es e m (Claim d) g c = tt

-- as long as anybody lives, each grant that is on its way was given
abbrev AllGiven : State → List Event → Type 0
AllGiven s0 es = (after_all s0 es).living ≢ [] → Each (IsGiven s0 es) (after_all s0 es).mail

-- where nobody lives nothing happens any more
nobody-lives : (k : ℕ) (s : State) → s.living ≡ [] → lives k s ≡ false
nobody-lives k s e = rw e refl

nobody-named : (e : Event) (s : State) → s.living ≡ [] → names_living e s ≡ false
nobody-named (event.Ask owner name mode fill) s q = nobody-lives owner.node s q
nobody-named (event.Drop owner name fill) s q = nobody-lives owner.node s q
nobody-named (event.Pass from to) s q = ap (λ (b : Bool). b && lives to s) (nobody-lives from s q)
nobody-named (event.Kill node) s q = nobody-lives node s q

lived-before : (e : Event) (s : State) → (after e s).living ≢ [] → s.living ≢ []
lived-before e s l q = l (ap (λ (b : Bool). (if b then played e s else s).living) (nobody-named e s q) ∙ q)

step-given : (s0 : State) (es : List Event) (e : Event) → IsSound (after_all s0 es) → AllGiven s0 es → AllGiven s0 (es ++ (e ∷ []))
step-given s0 es e i before l =
    let s : State = after_all s0 es in
    let last : after_all s0 (es ++ (e ∷ [])) ≡ after e s = after-append es (e ∷ []) s0 in
    let still : (after e s).living ≢ [] = λ q. l (ap (λ (z : State). z.living) last ∙ q) in
    let a : Each (IsGiven s0 es) s.mail = before (lived-before e s still) in
    let ms : List Message = (after_all s0 (es ++ (e ∷ []))).mail in
    let new : Each (OldOrNew (IsGiven s0 es) s e) ms = subst (λ (z : State). Each (OldOrNew (IsGiven s0 es) s e) z.mail) (sym last) (after-new (IsGiven s0 es) s e i still a) in
    each-both (OldOrNew (IsGiven s0 es) s e) (λ (m : Message). Contains ms m) (IsGiven s0 (es ++ (e ∷ []))) ms (λ m g c. says-given s0 es e m m.letter g c) new (each-contained ms)

all-given : (s0 : State) (done es : List Event) → IsSound (after_all s0 done) → AllGiven s0 done → AllGiven s0 (done ++ es)
all-given s0 done [] i a = subst (λ (fs : List Event). AllGiven s0 fs) (sym (append-nil done)) a
all-given s0 done (e ∷ es) i a =
    let more : List Event = done ++ (e ∷ []) in
    let i2 : IsSound (after_all s0 more) = subst (λ (s : State). IsSound s) (sym (after-append done (e ∷ []) s0)) (after-sound e (after_all s0 done) i) in
    subst (λ (fs : List Event). AllGiven s0 fs) (append_assoc done (e ∷ []) es) (all-given s0 more es i2 (step-given s0 done e i a))

told-given : (s0 : State) (es : List Event) (from to : ℕ) (m : Message) (l : Letter) (o : Owner) (x : LockName) (w : Mode) (u : List ℕ) (v : Bool) → delivered (event.Pass from to) (after_all s0 es) ≡ Some m → m.letter ≡ l
    → received_told m l ≡ told.Granted o x w u v → Says (λ n b. WasGiven s0 es m n b) l → TellsTruly s0 es (event.Pass from to) o x w u v
told-given s0 es from to m (Ask n) o x w u v f k e g = cc
told-given s0 es from to m Drop o x w u v f k e g = cc
told-given s0 es from to m (Claim d) o x w u v f k e g = cc
told-given s0 es from to m (Grant n b) o x w u v f k e g =
    let eo : m.owner ≡ o = cc in
    let ex : m.name ≡ x = cc in
    let ew : n ≡ w = cc in
    let eu : m.value ≡ u = cc in
    let ev : b ≡ v = cc in
    record { grant = m; comes = f; letter = k ∙ rw (ew, ev) refl; to_owner = eo; on_name = ex; block = eu; given = rw (← ew, ← ev) g }

pass-told : (s0 : State) (es : List Event) (from to : ℕ) (f : Option Message) (o : Owner) (x : LockName) (w : Mode) (u : List ℕ) (v : Bool) → names_living (event.Pass from to) (after_all s0 es) ≡ true
    → find (is_between from to) (after_all s0 es).mail ≡ f → pass_told f ≡ told.Granted o x w u v → Each (IsGiven s0 es) (after_all s0 es).mail → TellsTruly s0 es (event.Pass from to) o x w u v
pass-told s0 es from to None o x w u v n f e a = cc
pass-told s0 es from to (Some m) o x w u v n f e a = told-given s0 es from to m m.letter o x w u v (rw n f) refl e (each-find (IsGiven s0 es) (is_between from to) (after_all s0 es).mail m a f)

pub ask-no_grant : (b c : Bool) (o : Owner) (x : LockName) (w : Mode) (u : List ℕ) (v : Bool) → (if b then told.Busy else if c then told.BadConvert else told.Done) ≡ told.Granted o x w u v → ⊥
ask-no_grant true c o x w u v e = cc
ask-no_grant false true o x w u v e = cc
ask-no_grant false false o x w u v e = cc

pub drop-no_grant : (b c : Bool) (o : Owner) (x : LockName) (w : Mode) (u : List ℕ) (v : Bool) → (if b then told.Busy else if c then told.Done else told.NotHeld) ≡ told.Granted o x w u v → ⊥
drop-no_grant true c o x w u v e = cc
drop-no_grant false true o x w u v e = cc
drop-no_grant false false o x w u v e = cc

answer-told : (s0 : State) (es : List Event) (e : Event) (o : Owner) (x : LockName) (w : Mode) (u : List ℕ) (v : Bool) → Each (IsGiven s0 es) (after_all s0 es).mail → names_living e (after_all s0 es) ≡ true
    → answer_of e (after_all s0 es) ≡ told.Granted o x w u v → TellsTruly s0 es e o x w u v
answer-told s0 es (event.Ask owner name mode fill) o x w u v a n e = let h : Hold = hold_at owner name (after_all s0 es).holds in absurd (ask-no_grant (is_some h.wait) (crosses h.belief mode) o x w u v e)
answer-told s0 es (event.Drop owner name fill) o x w u v a n e = let h : Hold = hold_at owner name (after_all s0 es).holds in absurd (drop-no_grant (is_some h.wait) (is_some h.belief) o x w u v e)
answer-told s0 es (event.Pass from to) o x w u v a n e = pass-told s0 es from to (find (is_between from to) (after_all s0 es).mail) o x w u v n refl e a
answer-told s0 es (event.Kill node) o x w u v a n e = cc

event-told : (s0 : State) (es : List Event) (e : Event) (o : Owner) (x : LockName) (w : Mode) (u : List ℕ) (v : Bool) → AllGiven s0 es → told_of e (after_all s0 es) ≡ told.Granted o x w u v → TellsTruly s0 es e o x w u v
event-told s0 es e o x w u v a t =
    (elim (names_living e (after_all s0 es)) as (λ b. names_living e (after_all s0 es) ≡ b → (if b then answer_of e (after_all s0 es) else told.Dead) ≡ told.Granted o x w u v → TellsTruly s0 es e o x w u v) [
      | true ↦ λ n q. answer-told s0 es e o x w u v (a (λ z. true-false (sym n ∙ nobody-named e (after_all s0 es) z))) n q
      | false ↦ λ n q. cc
    ]) refl t

pub grants-true : GrantsAreTrue
grants-true rule nodes es e o x w u v l t = event-told (start rule nodes) es e o x w u v (all-given (start rule nodes) [] es (start-sound rule nodes l) (λ k. tt)) t
