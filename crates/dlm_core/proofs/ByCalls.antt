-- Where an event is no death and brings no claim, the grants that it sends are given by the call that it delivers.
use Rattle.std.proofs.Common.{◌≡◌, ◌≢◌, ◌++◌, ◌&&◌, ◌-◌, ◌≤◌, ℕ, Bool, true, false, not, List, [], ◌∷◌, Option, Some, None, is_some, map, filter, find, set, length, refl, ap, sym, subst, ◌∙◌, cond, if◌then◌else◌}
use Rattle.std.proofs.lemmas.List.{append-nil}
use Rattle.plain_cat.specs.declared.mode.Mode.{Mode}
use Rattle.lock_db.specs.declared.resource.Resource.{Resource}
use Rattle.lock_db.specs.Names.{is_same}
use Rattle.lock_db.specs.Queues.{standing_of, mode_of}
use Rattle.lock_db.specs.Tables.{released}
use Rattle.lock_db.specs.Laws.{LeavesOthers}
use Rattle.lock_db.proofs.Names.{is_same-same, is_same-refl}
use Rattle.dlm_core.specs.declared.messages.Letter.{Letter}
use Rattle.dlm_core.specs.declared.messages.Letter.TheVariants.{Ask, Drop, Grant, Claim}
use Rattle.dlm_core.specs.declared.messages.Message.{Message}
use Rattle.dlm_core.specs.declared.holds.Hold.{Hold}
use Rattle.dlm_core.specs.declared.queue.Waiter.{Waiter}
use Rattle.dlm_core.specs.declared.blocks.Version.{Version}
use Rattle.dlm_core.specs.declared.events.Event.{Event}
use Rattle.dlm_core.specs.declared.events.Event.TheVariants as event
use Rattle.dlm_core.specs.Modes.{lowers, crosses}
use Rattle.dlm_core.specs.States.{State, home, recovery, table_at, told_at, hold_at, asked_hold, is_between, past_first, put_before, version_at}
use Rattle.dlm_core.specs.Steps.{is_call, call_to, called, ask_after, drop_after, ask_made, drop_made, put_last, goes_before, versions_after, with_table, is_served, grant_of, grants_of, served, taken_from, taken}
use Rattle.dlm_core.specs.Events.{arrived, received, pass_after, names_living, played, after}
use Rattle.dlm_core.specs.Lanes.{IsSound, standing_at}
use Rattle.dlm_core.specs.Runs.{left_by, undelivered, only_call, call_in, may_recover, Gave, IsAskedFor, GivesByCall}
use Rattle.dlm_core.specs.Runs.IsAskedFor.{Queues, Comes}
use Rattle.dlm_core.proofs.Firsts.{past-none}
use Rattle.dlm_core.proofs.Serving.{not-served}
use Rattle.dlm_core.proofs.Takes.{told-other}
use Rattle.dlm_core.proofs.Passing.{First, call-first, ask-call, drop-call, taken-sound, head-drop, can-drop, CanDrop}
use Rattle.dlm_core.proofs.Tracing.{Each, each-weaker, each-filter, each-put, each-stood, queue-waits, WaitsIn, Says, Stood}

pub true-false : true ≡ false → ⊥
true-false e = cc

pub none-some : (o : Option ℕ) → is_some o ≡ false → o ≡ None
none-some None e = refl
none-some (Some k) e = cc

-- ---- what an event sends, and that its grants are given by the call that it delivers

abbrev IsOwed : State → Event → Message → Type 0
IsOwed s e m = Says (λ w v. GivesByCall s e m w v) m.letter

-- an event may give a grant by a call that it delivers, whatever comes of it
pub record SendsByCall (s : State) (e : Event) (next : State) : Type 0 where
  pub sent : List Message
  pub sends : next.mail ≡ left_by e s ++ sent
  pub given : next ≡ after e s → Each (λ (m : Message). Says (λ w v. GivesByCall s e m w v) m.letter) sent

sends-nothing : (s : State) (e : Event) (next : State) → next.mail ≡ left_by e s → SendsByCall s e next
sends-nothing s e next f = record { sent = []; sends = f ∙ sym (append-nil (left_by e s)); given = λ q. tt }

sends-call : (s : State) (e : Event) (next : State) (m : Message) (l : Letter) → m.letter ≡ l → is_call l ≡ true → next.mail ≡ left_by e s ++ (m ∷ []) → SendsByCall s e next
sends-call s e next m l k c f = record { sent = m ∷ []; sends = f; given = λ q. (plain m.letter (ap is_call k ∙ c), tt) }
  where
    plain : (l : Letter) → is_call l ≡ true → Says (λ w v. GivesByCall s e m w v) l
    plain (Ask w) q = tt
    plain Drop q = tt
    plain (Grant w v) q = cc
    plain (Claim d) q = tt

-- ---- a call

-- who is not queued any more waits for the name of the call
abbrev pub Passes : State → Message → State → Waiter → Type 0
Passes s m z w = IsAskedFor s.nodes s.tables m w.owner w.name w.mode × (is_served z w ≡ true → w.name ≡ m.name)

waiting-named : (s : State) (m : Message) (t : List Resource) (z : State) (w : Waiter) → 1 ≤ s.nodes → length s.tables ≡ s.nodes → LeavesOthers m.name (table_at (home s.nodes m.name) s.tables) t
    → z.nodes ≡ s.nodes → z.tables ≡ set s.tables (home s.nodes m.name - 1) t → WaitsIn s w → is_served z w ≡ true → w.name ≡ m.name
waiting-named s m t z w l h o en et q served1 =
    (elim (is_same m.name w.name) as (λ b. is_same m.name w.name ≡ b → w.name ≡ m.name) [
      | true ↦ λ e. sym (is_same-same m.name w.name e)
      | false ↦ λ e.
          let d : w.name ≢ m.name = λ k. true-false (sym (rw k (is_same-refl m.name)) ∙ e) in
          let at : told_at w.name z ≡ told_at w.name s = rw (en, et) (told-other s.nodes m.name w.name s.tables t l h d o) in
          let st : standing_at w.owner w.name z ≡ Some q.standing = ap (λ (r : Resource). standing_of w.owner r.askers) at ∙ q.stands in
          absurd (true-false (sym served1 ∙ not-served w.owner w.name z w q.standing refl refl st q.queued))
    ]) refl

pub passes-old : (s : State) (m : Message) (t : List Resource) (z : State) (ws : List Waiter) → 1 ≤ s.nodes → length s.tables ≡ s.nodes → LeavesOthers m.name (table_at (home s.nodes m.name) s.tables) t
    → z.nodes ≡ s.nodes → z.tables ≡ set s.tables (home s.nodes m.name - 1) t → Each (WaitsIn s) ws → Each (Passes s m z) ws
passes-old s m t z ws l h o en et a = each-weaker (WaitsIn s) (Passes s m z) ws (λ w q. (Queues q, waiting-named s m t z w l h o en et q)) a

pub passes-put : (s : State) (m : Message) (z : State) (old : Option Mode) (w : Mode) (ws : List Waiter) → m.letter ≡ Ask w → Each (Passes s m z) ws → Each (Passes s m z) (put_last m old w ws)
passes-put s m z old w ws l a =
    let one : Waiter = record { owner = m.owner; name = m.name; mode = w; converts = is_some old } in
    (elim (lowers old w) as (λ b. Each (Passes s m z) (if b then ws else put_before (goes_before one) one ws)) [ true ↦ a | false ↦ each-put (Passes s m z) (goes_before one) one ws (Comes refl refl l, λ k. refl) a ])

module _ {X : Type 0} where
  pub each-passing : (p : X → Bool) (xs : List X) → Each (λ (x : X). p x ≡ true) (filter p xs)
  each-passing p [] = tt
  each-passing p (x ∷ xs) =
      (elim (p x) as (λ b. p x ≡ b → Each (λ (y : X). p y ≡ true) (cond b (x ∷ filter p xs) (filter p xs))) [ true ↦ λ e. (e, each-passing p xs) | false ↦ λ e. each-passing p xs ]) refl

grants-owed : (s : State) (e : Event) (m : Message) (z : State) (ws : List Waiter) → z.nodes ≡ s.nodes → z.tables ≡ (after e s).tables → z.versions ≡ (after e s).versions → call_in e s ≡ Some m → Each (Passes s m z) ws → Each (λ (w : Waiter). is_served z w ≡ true) ws
    → Each (Stood z) (map (grant_of z) ws) → Each (IsOwed s e) (map (grant_of z) ws)
grants-owed s e m z [] en et ev c a b d = tt
grants-owed s e m z (w ∷ ws) en et ev c a b d =
    let now : Gave z.nodes z.tables w.owner w.name w.mode (told_at w.name z).value (told_at w.name z).valid = record { granted = d.0; block = refl; mark = refl } in
    let there : Gave s.nodes (after e s).tables w.owner w.name w.mode (told_at w.name z).value (told_at w.name z).valid =
    subst (λ (ts : List (List Resource)). Gave s.nodes ts w.owner w.name w.mode (told_at w.name z).value (told_at w.name z).valid) et
    (subst (λ (n : ℕ). Gave n z.tables w.owner w.name w.mode (told_at w.name z).value (told_at w.name z).valid) en now) in
    (record { call = m; delivers = c; on_name = sym (a.0.1 b.0); asks = a.0.0; gave = there; version = ap (λ (vs : List Version). version_at w.name vs) ev }, grants-owed s e m z ws en et ev c a.1 b.1 d.1)

served-owed : (s : State) (e : Event) (m : Message) (z : State) → z.nodes ≡ s.nodes → call_in e s ≡ Some m → z.mail ≡ left_by e s → Each (Passes s m z) z.queue → IsSound (served z) → SendsByCall s e (served z)
served-owed s e m z en c f a i = record {
  sent = grants_of z z.queue;
  sends = ap (λ (ms : List Message). ms ++ grants_of z z.queue) f;
  given = λ q. grants-owed s e m z (filter (is_served z) z.queue) en (ap (λ (y : State). y.tables) q) (ap (λ (y : State). y.versions) q) c (each-filter (Passes s m z) (is_served z) z.queue a) (each-passing (is_served z) z.queue)
      (each-stood (served z) z.mail (grants_of z z.queue) i refl);
}

take-owed : (l : Letter) (s : State) (from to : ℕ) (m : Message) → m.letter ≡ l → is_call l ≡ true → IsSound s → First s from to m → call_in (event.Pass from to) s ≡ Some m
    → IsSound (taken_from m l (mode_of m.owner (told_at m.name s).askers) (table_at (home s.nodes m.name) s.tables) (record s { mail = past_first (is_between from to) s.mail }))
    → SendsByCall s (event.Pass from to) (taken_from m l (mode_of m.owner (told_at m.name s).askers) (table_at (home s.nodes m.name) s.tables) (record s { mail = past_first (is_between from to) s.mail }))
take-owed (Ask w) s from to m l k i a c j =
    let t : List Resource = table_at (home s.nodes m.name) s.tables in
    let old : Option Mode = mode_of m.owner (told_at m.name s).askers in
    let t2 : List Resource = ask_made m old w t in
    let pre : State = with_table m.name t2 (record s { mail = past_first (is_between from to) s.mail; queue = put_last m old w s.queue; versions = versions_after m old t s.holds s.versions }) in
    let call = ask-call s from to m w i a l in
    let all : Each (Passes s m pre) s.queue = passes-old s m t2 pre s.queue i.some_node i.each_has_one call.others refl refl (queue-waits s i) in
    served-owed s (event.Pass from to) m pre refl c refl (passes-put s m pre old w s.queue l all) j
take-owed Drop s from to m l k i a c j =
    let t : List Resource = table_at (home s.nodes m.name) s.tables in
    let old : Option Mode = mode_of m.owner (told_at m.name s).askers in
    let t2 : List Resource = released m.name m.owner m.value t in
    let pre : State = with_table m.name (drop_made m old t) (record s { mail = past_first (is_between from to) s.mail; versions = versions_after m old t s.holds s.versions }) in
    let can : CanDrop m t = head-drop m t _ _ _ _ _ l a.head in
    let is : drop_made m old t ≡ t2 = can-drop m t old refl can in
    let call = drop-call s from to m i a l in
    let all : Each (Passes s m pre) s.queue = passes-old s m t2 pre s.queue i.some_node i.each_has_one call.others refl (ap (λ (u : List Resource). set s.tables (home s.nodes m.name - 1) u) is) (queue-waits s i) in
    served-owed s (event.Pass from to) m pre refl c refl all j
take-owed (Grant w v) s from to m l k i a c j = cc
take-owed (Claim d) s from to m l k i a c j = cc

-- ---- each event

ask-owed : (s : State) (e : Event) (h : Hold) (mode : Mode) (fill : ℕ) → s.mail ≡ left_by e s → SendsByCall s e (ask_after h mode fill s)
ask-owed s e h mode fill f =
    (elim (is_some h.wait) as (λ b. SendsByCall s e (if b then s else if crosses h.belief mode then s else called h.belief (asked_hold h mode) (Ask mode) fill s)) [
      | true ↦ sends-nothing s e s f
      | false ↦ (elim (crosses h.belief mode) as (λ b. SendsByCall s e (if b then s else called h.belief (asked_hold h mode) (Ask mode) fill s)) [
        | true ↦ sends-nothing s e s f
        | false ↦
            let m : Message = call_to (asked_hold h mode).owner (asked_hold h mode).name h.belief (Ask mode) fill s in
            sends-call s e (called h.belief (asked_hold h mode) (Ask mode) fill s) m (Ask mode) refl refl (ap (λ (ms : List Message). ms ++ (m ∷ [])) f)
      ])
    ])

drop-owed : (s : State) (e : Event) (h : Hold) (fill : ℕ) → s.mail ≡ left_by e s → SendsByCall s e (drop_after h fill s)
drop-owed s e h fill f =
    (elim (is_some h.wait) as (λ b. SendsByCall s e (if b then s else if is_some h.belief then called h.belief (record h { belief = None }) Drop fill s else s)) [
      | true ↦ sends-nothing s e s f
      | false ↦ (elim (is_some h.belief) as (λ b. SendsByCall s e (if b then called h.belief (record h { belief = None }) Drop fill s else s)) [
        | true ↦
            let m : Message = call_to h.owner h.name h.belief Drop fill s in
            sends-call s e (called h.belief (record h { belief = None }) Drop fill s) m Drop refl refl (ap (λ (ms : List Message). ms ++ (m ∷ [])) f)
        | false ↦ sends-nothing s e s f
      ])
    ])

pub call-only : (s : State) (m : Message) (b c : Bool) → is_call m.letter ≡ b → is_some (recovery m.name s) ≡ c → only_call s m ≡ (if b && not c then Some m else None)
call-only s m b c e f = rw (e, f) refl

arrived-owed : (s : State) (from to : ℕ) (m : Message) → IsSound s → names_living (event.Pass from to) s ≡ true → find (is_between from to) s.mail ≡ Some m → is_call m.letter ≡ true
    → SendsByCall s (event.Pass from to) (arrived m (record s { mail = past_first (is_between from to) s.mail }))
arrived-owed s from to m i n f c =
    let z : State = record s { mail = past_first (is_between from to) s.mail } in
    (elim (is_some (recovery m.name s)) as (λ b. is_some (recovery m.name s) ≡ b → SendsByCall s (event.Pass from to) (if b then record z { kept = z.kept ++ (m ∷ []) } else taken m z)) [
      | true ↦ λ e. sends-nothing s (event.Pass from to) (record z { kept = z.kept ++ (m ∷ []) }) refl
      | false ↦ λ e.
          let o = none-some (recovery m.name s) e in
          let is : call_in (event.Pass from to) s ≡ Some m = rw (n, f, call-only s m true false c e) refl in
          take-owed m.letter s from to m refl c i (call-first s from to m i f c o) is (taken-sound s from to m i f c o)
    ]) refl

received-owed : (s : State) (from to : ℕ) (m : Message) (l : Letter) → IsSound s → names_living (event.Pass from to) s ≡ true → find (is_between from to) s.mail ≡ Some m → m.letter ≡ l → may_recover (event.Pass from to) s ≡ false
    → SendsByCall s (event.Pass from to) (received m l (record s { mail = past_first (is_between from to) s.mail }))
received-owed s from to m (Ask w) i n f e r = arrived-owed s from to m i n f (ap is_call e)
received-owed s from to m Drop i n f e r = arrived-owed s from to m i n f (ap is_call e)
received-owed s from to m (Grant w v) i n f e r = sends-nothing s (event.Pass from to) (received m (Grant w v) (record s { mail = past_first (is_between from to) s.mail })) refl
received-owed s from to m (Claim d) i n f e r = let k : may_recover (event.Pass from to) s ≡ true = rw (n, f, e) refl in absurd (true-false (sym k ∙ r))

pass-owed : (s : State) (from to : ℕ) (o : Option Message) → IsSound s → names_living (event.Pass from to) s ≡ true → find (is_between from to) s.mail ≡ o → may_recover (event.Pass from to) s ≡ false
    → SendsByCall s (event.Pass from to) (pass_after from to o s)
pass-owed s from to None i n f r = sends-nothing s (event.Pass from to) s (sym (past-none (is_between from to) s.mail f))
pass-owed s from to (Some m) i n f r = received-owed s from to m m.letter i n f refl r

pub played-owed : (e : Event) (s : State) → IsSound s → names_living e s ≡ true → may_recover e s ≡ false → SendsByCall s e (played e s)
played-owed (event.Ask owner name mode fill) s i n r = ask-owed s (event.Ask owner name mode fill) (hold_at owner name s.holds) mode fill refl
played-owed (event.Drop owner name fill) s i n r = drop-owed s (event.Drop owner name fill) (hold_at owner name s.holds) fill refl
played-owed (event.Pass from to) s i n r = pass-owed s from to (find (is_between from to) s.mail) i n refl r
played-owed (event.Kill node) s i n r = absurd (true-false (sym n ∙ r))

-- what an event has sent
pub record SentByCall (s : State) (e : Event) : Type 0 where
  pub sent : List Message
  pub sends : (after e s).mail ≡ undelivered e s ++ sent
  pub given : Each (λ (m : Message). Says (λ w v. GivesByCall s e m w v) m.letter) sent

of-played : (e : Event) (s : State) → names_living e s ≡ true → SendsByCall s e (played e s) → SentByCall s e
of-played e s n p =
    let is : after e s ≡ played e s = rw n refl in
    let left : undelivered e s ≡ left_by e s = rw n refl in
    record { sent = p.sent; sends = ap (λ (y : State). y.mail) is ∙ p.sends ∙ ap (λ (ms : List Message). ms ++ p.sent) (sym left); given = p.given (sym is) }

nothing-sent : (e : Event) (s : State) → names_living e s ≡ false → SentByCall s e
nothing-sent e s n =
    let is : after e s ≡ s = rw n refl in
    let left : undelivered e s ≡ s.mail = rw n refl in
    record { sent = []; sends = ap (λ (y : State). y.mail) is ∙ sym left ∙ sym (append-nil (undelivered e s)); given = tt }

pub event-owed : (e : Event) (s : State) → IsSound s → may_recover e s ≡ false → SentByCall s e
event-owed e s i r =
    (elim (names_living e s) as (λ b. names_living e s ≡ b → SentByCall s e) [ true ↦ λ n. of-played e s n (played-owed e s i n r) | false ↦ λ n. nothing-sent e s n ]) refl
