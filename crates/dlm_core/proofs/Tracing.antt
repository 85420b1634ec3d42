-- By which steps the tables change, and which grants are sent then.
use Rattle.std.proofs.Common.{◌≡◌, ◌++◌, ℕ, Bool, true, false, List, [], ◌∷◌, Option, Some, None, is_some, filter, refl, arith, ap, sym, subst, ◌∙◌, cond, if◌then◌else◌, append_assoc, Contains}
use Rattle.std.proofs.lemmas.List.{append-nil}
use Rattle.std.proofs.lemmas.List.Elements.{filter-append, Contains-append_right}
use Rattle.plain_cat.specs.declared.mode.Mode.{Mode}
use Rattle.lock_db.specs.declared.name.LockName.{LockName}
use Rattle.lock_db.specs.declared.name.Owner.{Owner}
use Rattle.lock_db.specs.declared.askers.Standing.{Standing}
use Rattle.lock_db.specs.declared.askers.Standing.TheVariants.{Granted}
use Rattle.lock_db.specs.declared.resource.Resource.{Resource}
use Rattle.lock_db.specs.Queues.{standing_of, is_queued, wanted}
use Rattle.lock_db.specs.Tables.{resource_at, released}
use Rattle.lock_db.proofs.Owners.{same_owner-refl}
use Rattle.lock_db.proofs.Names.{is_same-refl}
use Rattle.dlm_core.specs.declared.messages.Letter.{Letter}
use Rattle.dlm_core.specs.declared.messages.Letter.TheVariants.{Ask, Drop, Grant, Claim}
use Rattle.dlm_core.specs.declared.messages.Message.{Message}
use Rattle.dlm_core.specs.declared.queue.Waiter.{Waiter}
use Rattle.dlm_core.specs.Modes.{crosses}
use Rattle.dlm_core.specs.States.{State, recovery, put_before}
use Rattle.dlm_core.specs.Steps.{stands_as, ask_made}
use Rattle.dlm_core.specs.Lanes.{IsLane, LaneOf, IsGrantOf, has_kind, letters_of, standing_at, IsSound, is_of, waiters_of, queued_as}
use Rattle.dlm_core.specs.Lanes.IsLane.{Sends, Stands, Comes}
use Rattle.dlm_core.specs.Runs.{MakesCall, IsStep, AreSteps, Leads, Waits, GivesBetween}
use Rattle.dlm_core.specs.Runs.MakesCall.{Requests, Converts, Releases}
use Rattle.dlm_core.proofs.Mails.{letters-append, letters-one}
use Rattle.dlm_core.proofs.Others.{can-lock, fits-so}
use Rattle.dlm_core.proofs.Passing.{kind-itself, CanAsk, CanDrop}

module _ {X : Type 0} where
  -- each of a list
  abbrev pub Each : (X → Type 0) → List X → Type 0
  Each P [] = Unit {0}
  Each P (m ∷ ms) = P m × Each P ms

  pub each-append : (P : X → Type 0) (ms ns : List X) → Each P ms → Each P ns → Each P (ms ++ ns)
  each-append P [] ns a b = b
  each-append P (m ∷ ms) ns a b = (a.0, each-append P ms ns a.1 b)

  pub each-weaker : (P Q : X → Type 0) (ms : List X) → ((m : X) → P m → Q m) → Each P ms → Each Q ms
  each-weaker P Q [] w a = tt
  each-weaker P Q (m ∷ ms) w a = (w m a.0, each-weaker P Q ms w a.1)

  -- what holds of each by where it stands in a longer list
  pub each-split : (P : X → Type 0) (all before ms : List X) → all ≡ before ++ ms → ((as1 bs : List X) (m : X) → all ≡ as1 ++ (m ∷ bs) → P m) → Each P ms
  each-split P all before [] e h = tt
  each-split P all before (m ∷ ms) e h = (h before ms m e, each-split P all (before ++ (m ∷ [])) ms (e ∙ sym (append_assoc before (m ∷ []) ms)) h)

  pub each-both : (P Q R : X → Type 0) (ms : List X) → ((m : X) → P m → Q m → R m) → Each P ms → Each Q ms → Each R ms
  each-both P Q R [] w a b = tt
  each-both P Q R (m ∷ ms) w a b = (w m a.0 b.0, each-both P Q R ms w a.1 b.1)

  contains-at : (as1 bs : List X) (m : X) → Contains (as1 ++ (m ∷ bs)) m
  contains-at as1 bs m = Contains-append_right as1 (m ∷ bs) m (0, omega arith, refl)

  -- each is an element
  pub each-contained : (all : List X) → Each (λ m. Contains all m) all
  each-contained all = each-split (λ m. Contains all m) all [] all refl (λ as1 bs m e. subst (λ (z : List X). Contains z m) (sym e) (contains-at as1 bs m))

  pub each-filter : (P : X → Type 0) (p : X → Bool) (ms : List X) → Each P ms → Each P (filter p ms)
  each-filter P p [] a = tt
  each-filter P p (m ∷ ms) a = (elim (p m) as (λ b. Each P (cond b (m ∷ filter p ms) (filter p ms))) [ true ↦ (a.0, each-filter P p ms a.1) | false ↦ each-filter P p ms a.1 ])

  pub each-put : (P : X → Type 0) (p : X → Bool) (x : X) (ms : List X) → P x → Each P ms → Each P (put_before p x ms)
  each-put P p x [] h a = (h, tt)
  each-put P p x (m ∷ ms) h a = (elim (p m) as (λ b. Each P (if b then x ∷ (m ∷ ms) else m ∷ put_before p x ms)) [ true ↦ (h, a) | false ↦ (a.0, each-put P p x ms h a.1) ])

-- what a letter says, if it is a grant
abbrev pub Says : (Mode → Bool → Type 0) → Letter → Type 0
Says P (Ask w) = Unit {0}
Says P Drop = Unit {0}
Says P (Grant w v) = P w v
Says P (Claim d) = Unit {0}

pub says-weaker : (P Q : Mode → Bool → Type 0) (l : Letter) → ((w : Mode) (v : Bool) → P w v → Q w v) → Says P l → Says Q l
says-weaker P Q (Ask w) h a = tt
says-weaker P Q Drop h a = tt
says-weaker P Q (Grant w v) h a = h w v a
says-weaker P Q (Claim d) h a = tt

-- ---- in a sound state the table has what a grant on its way says

not-empty : (xs : List Letter) (l : Letter) (ys : List Letter) → xs ++ (l ∷ ys) ≡ [] → ⊥
not-empty [] l ys e = cc
not-empty (x ∷ xs) l ys e = cc

-- a grant among the grants of a lane is the one of it
only-one : (w v : Mode) (b : Bool) (xs ys : List Letter) → IsGrantOf w (xs ++ (Grant v b ∷ ys)) → v ≡ w
only-one w v b [] ys g = g.0
only-one w v b (Ask m ∷ xs) ys g = absurd g
only-one w v b (Drop ∷ xs) ys g = absurd g
only-one w v b (Grant m c ∷ xs) ys g = absurd (not-empty xs (Grant v b) ys g.1)
only-one w v b (Claim d ∷ xs) ys g = absurd g

lane-gave : (o : Owner) (x : LockName) (st : Option Standing) (calls grants : List Letter) (qu : List Waiter) (be wa : Option Mode) (v : Mode) (b : Bool) (xs ys : List Letter)
    → grants ≡ xs ++ (Grant v b ∷ ys) → IsLane o x st calls grants qu be wa → st ≡ Some (Granted v)
lane-gave o x st calls grants qu be wa v b xs ys e (Sends lock before s gr q ca lo mw) = absurd (not-empty xs (Grant v b) ys (sym e ∙ gr))
lane-gave o x st calls grants qu be wa v b xs ys e (Stands w wt s ca gr q ra) = absurd (not-empty xs (Grant v b) ys (sym e ∙ gr))
lane-gave o x st calls grants qu be wa v b xs ys e (Comes w wt s ca ig q ra) =
    let k : v ≡ w = only-one w v b xs ys (subst (λ (ls : List Letter). IsGrantOf w ls) e ig) in
    s ∙ ap (λ (z : Mode). Some (Granted z)) (sym k)

of-lane : (r : Option ℕ) (o : Owner) (x : LockName) (s : State) (v : Mode) (b : Bool) (xs ys : List Letter) → letters_of true o x s.mail ≡ xs ++ (Grant v b ∷ ys) → LaneOf r o x s → standing_at o x s ≡ Some (Granted v)
of-lane None o x s v b xs ys e l = lane-gave o x (standing_at o x s) _ (letters_of true o x s.mail) _ _ _ v b xs ys e l
of-lane (Some d) o x s v b xs ys e l = absurd (not-empty xs (Grant v b) ys (sym e ∙ l.no_grants))

pub sound-gave : (s : State) (m : Message) (xs ys : List Message) (v : Mode) (b : Bool) → IsSound s → m.letter ≡ Grant v b → s.mail ≡ xs ++ (m ∷ ys) → standing_at m.owner m.name s ≡ Some (Granted v)
sound-gave s m xs ys v b i l e =
    let kind = kind-itself true m (ap (has_kind true) l) in
    let at : letters_of true m.owner m.name s.mail ≡ letters_of true m.owner m.name xs ++ (Grant v b ∷ letters_of true m.owner m.name ys) =
    ap (letters_of true m.owner m.name) e ∙ letters-append true m.owner m.name xs (m ∷ ys)
    ∙ ap (λ (ls : List Letter). letters_of true m.owner m.name xs ++ ls) (letters-append true m.owner m.name (m ∷ []) ys ∙ ap (λ (ls : List Letter). ls ++ letters_of true m.owner m.name ys) (letters-one true m.owner m.name m kind ∙ ap (λ (z : Letter). z ∷ []) l)) in
    of-lane (recovery m.name s) m.owner m.name s v b (letters_of true m.owner m.name xs) (letters_of true m.owner m.name ys) at (i.lanes m.owner m.name)

says-standing : (s : State) (m : Message) (l : Letter) (xs ys : List Message) → IsSound s → m.letter ≡ l → s.mail ≡ xs ++ (m ∷ ys) → Says (λ w v. standing_at m.owner m.name s ≡ Some (Granted w)) l
says-standing s m (Ask w) xs ys i l e = tt
says-standing s m Drop xs ys i l e = tt
says-standing s m (Grant w v) xs ys i l e = sound-gave s m xs ys w v i l e
says-standing s m (Claim d) xs ys i l e = tt

abbrev pub Stood : State → Message → Type 0
Stood s m = Says (λ w v. standing_at m.owner m.name s ≡ Some (Granted w)) m.letter

pub each-stood : (s : State) (before new : List Message) → IsSound s → s.mail ≡ before ++ new → Each (Stood s) new
each-stood s before new i e = each-split (Stood s) s.mail before new e (λ xs ys m k. says-standing s m m.letter xs ys i refl k)

-- ---- who waits at its master stands in a queue of the table

not-no_waiter : (xs : List Waiter) (w : Waiter) (ys : List Waiter) → xs ++ (w ∷ ys) ≡ [] → ⊥
not-no_waiter [] w ys e = cc
not-no_waiter (x ∷ xs) w ys e = cc

only-waiter : (xs ys : List Waiter) (w one : Waiter) → xs ++ (w ∷ ys) ≡ one ∷ [] → w ≡ one
only-waiter [] ys w one e = cc
only-waiter (x ∷ xs) ys w one e = let k : xs ++ (w ∷ ys) ≡ [] = cc in absurd (not-no_waiter xs w ys k)

queued-wants : (be : Option Mode) (w : Mode) → (is_queued (queued_as be w) ≡ true) × (wanted (queued_as be w) ≡ w)
queued-wants None w = (refl, refl)
queued-wants (Some m) w = (refl, refl)

abbrev pub WaitsIn : State → Waiter → Type 0
WaitsIn s w = Waits s.nodes s.tables w.owner w.name w.mode

lane-waits : (s : State) (w : Waiter) (calls grants : List Letter) (qu xs ys : List Waiter) (be wa : Option Mode) → qu ≡ xs ++ (w ∷ ys) → IsLane w.owner w.name (standing_at w.owner w.name s) calls grants qu be wa → WaitsIn s w
lane-waits s w calls grants qu xs ys be wa e (Sends lock before st gr q ca lo mw) = absurd (not-no_waiter xs w ys (sym e ∙ q))
lane-waits s w calls grants qu xs ys be wa e (Stands n wt st ca gr q ra) =
    let one : Waiter = record { owner = w.owner; name = w.name; mode = n; converts = is_some be } in
    let is : w ≡ one = only-waiter xs ys w one (sym e ∙ q) in
    record { standing = queued_as be n; stands = st; queued = (queued-wants be n).0; wants = (queued-wants be n).1 ∙ sym (ap (λ (z : Waiter). z.mode) is) }
lane-waits s w calls grants qu xs ys be wa e (Comes n wt st ca ig q ra) = absurd (not-no_waiter xs w ys (sym e ∙ q))

waits-of : (r : Option ℕ) (s : State) (w : Waiter) (xs ys : List Waiter) → waiters_of w.owner w.name s.queue ≡ xs ++ (w ∷ ys) → LaneOf r w.owner w.name s → WaitsIn s w
waits-of None s w xs ys e l = lane-waits s w _ _ (waiters_of w.owner w.name s.queue) xs ys _ _ e l
waits-of (Some d) s w xs ys e l = absurd (not-no_waiter xs w ys (sym e ∙ l.no_waiters))

-- the name of whoever waits at a master is not being recovered
open-of : (r : Option ℕ) (s : State) (w : Waiter) (xs ys : List Waiter) → waiters_of w.owner w.name s.queue ≡ xs ++ (w ∷ ys) → LaneOf r w.owner w.name s → r ≡ None
open-of None s w xs ys e l = refl
open-of (Some d) s w xs ys e l = absurd (not-no_waiter xs w ys (sym e ∙ l.no_waiters))

of-itself : (w : Waiter) → is_of w.owner w.name w ≡ true
of-itself w = rw (same_owner-refl w.owner, is_same-refl w.name) refl

waiter-at : (w : Waiter) (xs ys : List Waiter) → waiters_of w.owner w.name (xs ++ (w ∷ ys)) ≡ waiters_of w.owner w.name xs ++ (w ∷ waiters_of w.owner w.name ys)
waiter-at w xs ys = filter-append (is_of w.owner w.name) xs (w ∷ ys) ∙ ap (λ (b : Bool). waiters_of w.owner w.name xs ++ cond b (w ∷ waiters_of w.owner w.name ys) (waiters_of w.owner w.name ys)) (of-itself w)

pub queue-waits : (s : State) → IsSound s → Each (WaitsIn s) s.queue
queue-waits s i =
    each-split (WaitsIn s) s.queue [] s.queue refl
    (λ xs ys w e. waits-of (recovery w.name s) s w (waiters_of w.owner w.name xs) (waiters_of w.owner w.name ys) (ap (waiters_of w.owner w.name) e ∙ waiter-at w xs ys) (i.lanes w.owner w.name))

pub queue-open : (s : State) → IsSound s → Each (λ (w : Waiter). recovery w.name s ≡ None) s.queue
queue-open s i =
    each-split (λ (w : Waiter). recovery w.name s ≡ None) s.queue [] s.queue refl
    (λ xs ys w e. open-of (recovery w.name s) s w (waiters_of w.owner w.name xs) (waiters_of w.owner w.name ys) (ap (waiters_of w.owner w.name) e ∙ waiter-at w xs ys) (i.lanes w.owner w.name))

-- ---- steps

pub leads-here : (n : ℕ) (r : State) (a b : List (List Resource)) → b ≡ a → Leads n r a b
leads-here n r a b e = record { stops = []; steps = e }

pub leads-then : (n : ℕ) (r : State) (m : Message) (a b c : List (List Resource)) → IsStep n r m a b → Leads n r b c → Leads n r a c
leads-then n r m a b c s l = record { stops = b ∷ l.stops; steps = ((m, s), l.steps) }

steps-join : (n : ℕ) (r : State) (vs ws : List (List (List Resource))) (a b c : List (List Resource)) → AreSteps n r a vs b → AreSteps n r b ws c → AreSteps n r a (vs ++ ws) c
steps-join n r [] ws a b c e l = subst (λ (z : List (List Resource)). AreSteps n r z ws c) e l
steps-join n r (v ∷ vs) ws a b c k l = (k.0, steps-join n r vs ws v b c k.1 l)

pub leads-join : (n : ℕ) (r : State) (a b c : List (List Resource)) → Leads n r a b → Leads n r b c → Leads n r a c
leads-join n r a b c k l = record { stops = k.stops ++ l.stops; steps = steps-join n r k.stops l.stops a b c k.steps l.steps }

pub leads-one : (n : ℕ) (r : State) (m : Message) (a b : List (List Resource)) → IsStep n r m a b → Leads n r a b
leads-one n r m a b s = leads-then n r m a b b s (leads-here n r b b refl)

-- a message that is sent between two tables, which is given if it is a grant
abbrev pub IsNew : ℕ → State → List (List Resource) → List (List Resource) → Message → Type 0
IsNew n r a b m = Says (λ w v. GivesBetween n r a b m w v) m.letter

new-wider : (n : ℕ) (r : State) (a b c d : List (List Resource)) (m : Message) → Leads n r a b → Leads n r c d → IsNew n r b c m → IsNew n r a d m
new-wider n r a b c d m l t g =
    says-weaker (λ w v. GivesBetween n r b c m w v) (λ w v. GivesBetween n r a d m w v) m.letter
    (λ w v k. record {
      before = k.before;
      behind = k.behind;
      call = k.call;
      starts = leads-join n r a b k.before l k.starts;
      step = k.step;
      ends = leads-join n r k.behind c d k.ends t;
      on_name = k.on_name;
      asks = k.asks;
      gave = k.gave;
      version = k.version;
    }) g

-- from one state to another the tables go by steps of recoveries, and the messages that are sent are given
pub record Goes (n : ℕ) (r : State) (s t : State) : Type 0 where
  pub chain : Leads n r s.tables t.tables
  pub sent : List Message
  pub sends : t.mail ≡ s.mail ++ sent
  pub given : Each (IsNew n r s.tables t.tables) sent

pub goes-none : (n : ℕ) (r s t : State) → t.tables ≡ s.tables → t.mail ≡ s.mail → Goes n r s t
goes-none n r s t e f = record { chain = leads-here n r s.tables t.tables e; sent = []; sends = f ∙ sym (append-nil s.mail); given = tt }

pub goes-join : (n : ℕ) (r a b c : State) → Goes n r a b → Goes n r b c → Goes n r a c
goes-join n r a b c f g = record {
  chain = leads-join n r a.tables b.tables c.tables f.chain g.chain;
  sent = f.sent ++ g.sent;
  sends = g.sends ∙ ap (λ (ms : List Message). ms ++ g.sent) f.sends ∙ append_assoc a.mail f.sent g.sent;
  given = each-append (IsNew n r a.tables c.tables) f.sent g.sent
      (each-weaker (IsNew n r a.tables b.tables) (IsNew n r a.tables c.tables) f.sent (λ m k. new-wider n r a.tables a.tables b.tables c.tables m (leads-here n r a.tables a.tables refl) g.chain k) f.given)
      (each-weaker (IsNew n r b.tables c.tables) (IsNew n r a.tables c.tables) g.sent (λ m k. new-wider n r a.tables b.tables c.tables c.tables m f.chain (leads-here n r c.tables c.tables refl) k) g.given);
}

-- ---- calls

pub one-ask : (m : Message) (w : Mode) (t : List Resource) (lock old : Option Mode) → m.letter ≡ Ask w → standing_of m.owner (resource_at m.name t).askers ≡ stands_as lock → crosses lock w ≡ false → old ≡ lock → MakesCall m t (ask_made m old w t)
one-ask m w t None old l st c o = rw o (Requests w l st (rw (fits-so m w None t st c) refl))
one-ask m w t (Some k) old l st c o = rw o (Converts k w l (can-lock (Some k) (standing_of m.owner (resource_at m.name t).askers) st) c (rw (fits-so m w (Some k) t st c) refl))

pub ask-makes : (m : Message) (w : Mode) (t : List Resource) (c : CanAsk m w t) (old : Option Mode) → m.letter ≡ Ask w → old ≡ c.lock → MakesCall m t (ask_made m old w t)
ask-makes m w t c old l o = one-ask m w t c.lock old l c.stands c.along o

pub drop-makes : (m : Message) (t : List Resource) (c : CanDrop m t) → m.letter ≡ Drop → MakesCall m t (released m.name m.owner m.value t)
drop-makes m t c l = Releases c.lock l (can-lock (Some c.lock) (standing_of m.owner (resource_at m.name t).askers) c.stands) refl
