-- The state stays sound when a message arrives.
use Rattle.std.proofs.Common.{◌≡◌, ◌==◌, ◌++◌, inl, inr, ℕ, Bool, true, false, not, List, [], ◌∷◌, Option, Some, None, is_some, find, length, append_assoc, refl, ap, sym, subst, ◌∙◌, if◌then◌else◌}
use Rattle.std.specs.List.{list_all}
use Rattle.std.proofs.lemmas.List.{append-nil}
use Rattle.plain_cat.specs.declared.mode.Mode.{Mode}
use Rattle.lock_db.specs.declared.name.LockName.{LockName}
use Rattle.lock_db.specs.declared.name.Owner.{Owner}
use Rattle.lock_db.specs.declared.askers.Standing.{Standing}
use Rattle.lock_db.specs.declared.askers.Standing.TheVariants.{Granted}
use Rattle.lock_db.specs.declared.askers.Asker.{Asker}
use Rattle.lock_db.specs.declared.resource.Resource.{Resource}
use Rattle.lock_db.specs.Resources.{is_used}
use Rattle.lock_db.specs.Queues.{standing_of, mode_of}
use Rattle.lock_db.specs.Tables.{resource_at, IsTable, released, recovered}
use Rattle.lock_db.proofs.Lists.{and-right, and-both, list_all-find, list_all-joined}
use Rattle.lock_db.proofs.Owners.{same_owner-refl}
use Rattle.lock_db.proofs.Names.{is_same-refl, is_same-same}
use Rattle.lock_db.specs.Names.{is_same, same_owner}
use Rattle.lock_db.proofs.Steps.{IsTable-released, IsTable-recovered}
use Rattle.lock_db.proofs.Blocks.{released-leaves, recovered-leaves, recovered-at}
use Rattle.lock_db.proofs.Standings.{releases-leave}
use Rattle.dlm_core.specs.declared.messages.Letter.{Letter}
use Rattle.dlm_core.specs.declared.messages.Letter.TheVariants.{Ask, Drop, Grant, Claim}
use Rattle.dlm_core.specs.declared.messages.Message.{Message}
use Rattle.dlm_core.specs.declared.holds.Hold.{Hold}
use Rattle.dlm_core.specs.declared.blocks.Block.{Block}
use Rattle.dlm_core.specs.declared.blocks.Version.{Version}
use Rattle.dlm_core.specs.declared.queue.Waiter.{Waiter}
use Rattle.dlm_core.specs.Modes.{lowers, crosses, is_lowering}
use Rattle.dlm_core.specs.States.{State, home, recovery, table_at, told_at, hold_at, noted, is_at, is_between, past_first, put_before}
use Rattle.dlm_core.specs.Steps.{is_grant, is_call, stands_as, goes_before, ask_made, put_last, drop_made, versions_after, taken_from, taken, granted}
use Rattle.dlm_core.specs.Lanes.{is_about, has_kind, is_kind, letters_of, waiters_of, is_of, LaneOf, LaneAt, standing_at, is_addressed, is_kept, IsSound, raises, queued_as}
use Rattle.dlm_core.specs.Lanes.IsLane.{Stands}
use Rattle.dlm_core.proofs.Modes.{lowering-not_across, raises-not_across, raises-not_lower}
use Rattle.dlm_core.proofs.Mails.{letters-append, letters-one, letters-none, letters-first, letters-past, past-all}
use Rattle.dlm_core.proofs.Beliefs.{at-owner, at-name, noted-here, noted-other, once-noted, filter-put_yes, filter-put_no}
use Rattle.dlm_core.proofs.Others.{ask-made, Made, can-mode, released-serves, drop-is}
use Rattle.dlm_core.proofs.Growing.{lane-granted, lane-head, Head}
use Rattle.dlm_core.proofs.Growing.Head.{Raise, Lower, Leave}
use Rattle.dlm_core.proofs.Serving.{PreLane}
use Rattle.dlm_core.proofs.Takes.{Call, call-sound, served-sound}
use Rattle.dlm_core.proofs.Sending.{not-about}
use Rattle.lock_db.proofs.Places.{not-zero}

about-itself : (m : Message) → is_about m.owner m.name m ≡ true
about-itself m = rw (same_owner-refl m.owner, is_same-refl m.name) refl

pub kind-itself : (g : Bool) (m : Message) → has_kind g m.letter ≡ true → is_kind g m.owner m.name m ≡ true
kind-itself g m e = rw (e, about-itself m) refl

kind-other : (g : Bool) (p : Owner) (y : LockName) (m : Message) → has_kind g m.letter ≡ false → is_kind g p y m ≡ false
kind-other g p y m e = rw e refl

pub call-no_grant : (l : Letter) → is_call l ≡ true → is_grant l ≡ false
call-no_grant (Ask w) e = refl
call-no_grant Drop e = refl
call-no_grant (Grant w v) e = cc
call-no_grant (Claim d) e = cc

-- A call that is the first of its pair, on a name that is not being recovered, and how its owner stands.
pub record First (s : State) (from to : ℕ) (m : Message) : Type 0 where
  pub first : find (is_between from to) s.mail ≡ Some m
  pub open_name : recovery m.name s ≡ None
  pub head : Head m.owner m.name (standing_at m.owner m.name s) m.letter (letters_of false m.owner m.name (past_first (is_between from to) s.mail))
      (letters_of true m.owner m.name (past_first (is_between from to) s.mail)) (waiters_of m.owner m.name s.queue) (hold_at m.owner m.name s.holds).belief (hold_at m.owner m.name s.holds).wait
  pub grants : (p : Owner) (y : LockName) → letters_of true p y (past_first (is_between from to) s.mail) ≡ letters_of true p y s.mail
  pub calls : (p : Owner) (y : LockName) → is_about p y m ≡ false → letters_of false p y (past_first (is_between from to) s.mail) ≡ letters_of false p y s.mail
  pub addressed : list_all (is_addressed s) (past_first (is_between from to) s.mail) ≡ true

pub call-first : (s : State) (from to : ℕ) (m : Message) → IsSound s → find (is_between from to) s.mail ≡ Some m → is_call m.letter ≡ true → recovery m.name s ≡ None → First s from to m
call-first s from to m i f e n =
    let ms : List Message = past_first (is_between from to) s.mail in
    let lane : LaneOf None m.owner m.name s = subst (λ (o : Option ℕ). LaneOf o m.owner m.name s) n (i.lanes m.owner m.name) in
    let gr : (p : Owner) (y : LockName) → letters_of true p y ms ≡ letters_of true p y s.mail = λ p y. letters-past true p y from to s.mail m f (kind-other true p y m (call-no_grant m.letter e)) in
    let he = lane-head m.owner m.name (standing_at m.owner m.name s) m.letter (letters_of false m.owner m.name s.mail) (letters_of false m.owner m.name ms) (letters_of true m.owner m.name s.mail)
    (waiters_of m.owner m.name s.queue) (hold_at m.owner m.name s.holds).belief (hold_at m.owner m.name s.holds).wait
    (letters-first s false m.owner m.name from to s.mail m i.addressed f (kind-itself false m e)) lane in
    record {
      first = f;
      open_name = n;
      head = rw (gr m.owner m.name) he;
      grants = gr;
      calls = λ p y a. letters-past false p y from to s.mail m f (not-about false p y m a);
      addressed = past-all (is_between from to) (is_addressed s) s.mail i.addressed;
    }

ask-same : (v w : Mode) (l : Letter) → l ≡ Ask v → l ≡ Ask w → v ≡ w
ask-same v w l e f = cc

true-not_false : true ≡ false → ⊥
true-not_false e = cc

-- who is put into the queue
abbrev one_of : Message → Mode → Bool → Waiter
one_of m w b = record { owner = m.owner; name = m.name; mode = w; converts = b }

put-raise : (m : Message) (old : Option Mode) (w : Mode) (q : List Waiter) → lowers old w ≡ false → put_last m old w q ≡ put_before (goes_before (one_of m w (is_some old))) (one_of m w (is_some old)) q
put-raise m old w q e = rw e refl

put-lower : (m : Message) (old : Option Mode) (w : Mode) (q : List Waiter) → lowers old w ≡ true → put_last m old w q ≡ q
put-lower m old w q e = rw e refl

waiters-own : (m : Message) (w : Mode) (b : Bool) (q : List Waiter) → waiters_of m.owner m.name q ≡ [] → waiters_of m.owner m.name (put_before (goes_before (one_of m w b)) (one_of m w b) q) ≡ one_of m w b ∷ []
waiters-own m w b q e = filter-put_yes (goes_before (one_of m w b)) (is_of m.owner m.name) (one_of m w b) q (rw (same_owner-refl m.owner, is_same-refl m.name) refl) e

put-other : (m : Message) (old : Option Mode) (w : Mode) (q : List Waiter) (p : Owner) (y : LockName) → is_about p y m ≡ false → waiters_of p y (put_last m old w q) ≡ waiters_of p y q
put-other m old w q p y e =
    (elim (lowers old w) as (λ b. waiters_of p y (if b then q else put_before (goes_before (one_of m w (is_some old))) (one_of m w (is_some old)) q) ≡ waiters_of p y q)
    [ true ↦ refl | false ↦ filter-put_no (goes_before (one_of m w (is_some old))) (is_of p y) (one_of m w (is_some old)) q e ])

ask-own : (m : Message) (w : Mode) (t : List Resource) (rest grants : List Letter) (qu : List Waiter) (q : List Waiter) (be wa old : Option Mode) → IsTable t → m.letter ≡ Ask w → qu ≡ waiters_of m.owner m.name q
    → mode_of m.owner (resource_at m.name t).askers ≡ old
    → Head m.owner m.name (standing_of m.owner (resource_at m.name t).askers) m.letter rest grants qu be wa
    → PreLane m.owner m.name (standing_of m.owner (resource_at m.name (ask_made m old w t)).askers) rest grants (waiters_of m.owner m.name (put_last m old w q)) be wa
ask-own m w t rest grants qu q be wa old tab l qe oe (Raise v lv re st gr e wt ra) =
    let same : v ≡ w = ask-same v w m.letter lv l in
    let up : raises be w ≡ true = rw (← same) ra in
    let is : old ≡ be = sym oe ∙ can-mode be (standing_of m.owner (resource_at m.name t).askers) st in
    let made = ask-made m w be t tab st (raises-not_across be w up) in
    let one : waiters_of m.owner m.name (put_last m be w q) ≡ one_of m w (is_some be) ∷ [] = rw (put-raise m be w q (raises-not_lower be w up)) (waiters-own m w (is_some be) q (sym qe ∙ e)) in
    let waits : wa ≡ Some w = wt ∙ ap Some same in
    rw is (
    elim made.own [
      | inl g ↦ inr (record { mode = w; waited = waits; granted = g; no_calls = re; no_grants = gr; alone = one; raise = up })
      | inr g ↦ inl (Stands w waits g.1 re gr one up)
    ])
ask-own m w t rest grants qu q be wa old tab l qe oe (Lower k v lv st d close) =
    let same : v ≡ w = ask-same v w m.letter lv l in
    let down : is_lowering k w ≡ true = rw (← same) d in
    let is : old ≡ Some k = sym oe ∙ can-mode (Some k) (standing_of m.owner (resource_at m.name t).askers) st in
    let made = ask-made m w (Some k) t tab st (lowering-not_across k w down) in
    let stays : waiters_of m.owner m.name (put_last m (Some k) w q) ≡ qu = rw (put-lower m (Some k) w q down) (sym qe) in
    rw (is, stays) (
    elim made.own [
      | inl g ↦ inl (close (standing_of m.owner (resource_at m.name (ask_made m (Some k) w t)).askers) (g ∙ ap (λ (z : Mode). Some (Granted z)) (sym same)))
      | inr g ↦ absurd (true-not_false (sym down ∙ g.0))
    ])
ask-own m w t rest grants qu q be wa old tab l qe oe (Leave k lv st close) = let n : Ask w ≡ Drop = sym l ∙ lv in cc

-- what an ask makes of the table
pub record CanAsk (m : Message) (w : Mode) (t : List Resource) : Type 0 where
  pub lock : Option Mode
  pub stands : standing_of m.owner (resource_at m.name t).askers ≡ stands_as lock
  pub along : crosses lock w ≡ false

pub head-ask : (m : Message) (w : Mode) (t : List Resource) (rest grants : List Letter) (qu : List Waiter) (be wa : Option Mode) → m.letter ≡ Ask w
    → Head m.owner m.name (standing_of m.owner (resource_at m.name t).askers) m.letter rest grants qu be wa → CanAsk m w t
head-ask m w t rest grants qu be wa l (Raise v lv re st gr e wt ra) = record { lock = be; stands = st; along = rw (← ask-same v w m.letter lv l) (raises-not_across be v ra) }
head-ask m w t rest grants qu be wa l (Lower k v lv st d close) = record { lock = Some k; stands = st; along = rw (← ask-same v w m.letter lv l) (lowering-not_across k v d) }
head-ask m w t rest grants qu be wa l (Leave k lv st close) = let n : Ask w ≡ Drop = sym l ∙ lv in cc

can-made : (m : Message) (w : Mode) (t : List Resource) (old : Option Mode) → IsTable t → mode_of m.owner (resource_at m.name t).askers ≡ old → (c : CanAsk m w t) → Made m w c.lock t (ask_made m old w t)
can-made m w t old tab o c =
    let is : old ≡ c.lock = sym o ∙ can-mode c.lock (standing_of m.owner (resource_at m.name t).askers) c.stands in
    rw is (ask-made m w c.lock t tab c.stands c.along)

pub ask-call : (s : State) (from to : ℕ) (m : Message) (w : Mode) → IsSound s → First s from to m → m.letter ≡ Ask w
    → Call s m (past_first (is_between from to) s.mail) (ask_made m (mode_of m.owner (told_at m.name s).askers) w (table_at (home s.nodes m.name) s.tables)) (put_last m (mode_of m.owner (told_at m.name s).askers) w s.queue)
ask-call s from to m w i a l =
    let t : List Resource = table_at (home s.nodes m.name) s.tables in
    let old : Option Mode = mode_of m.owner (told_at m.name s).askers in
    let tab = i.tables_are (home s.nodes m.name) in
    let made = can-made m w t old tab refl (head-ask m w t _ _ _ _ _ l a.head) in
    record {
      open_name = a.open_name;
      table = made.table;
      others = made.others;
      here = made.here;
      queue = λ p y e. put-other m old w s.queue p y e;
      grants = a.grants;
      calls = a.calls;
      addressed = a.addressed;
      own = ask-own m w t _ _ (waiters_of m.owner m.name s.queue) s.queue _ _ old tab l refl refl a.head;
    }

pub record CanDrop (m : Message) (t : List Resource) : Type 0 where
  pub lock : Mode
  pub stands : standing_of m.owner (resource_at m.name t).askers ≡ stands_as (Some lock)

pub head-drop : (m : Message) (t : List Resource) (rest grants : List Letter) (qu : List Waiter) (be wa : Option Mode) → m.letter ≡ Drop
    → Head m.owner m.name (standing_of m.owner (resource_at m.name t).askers) m.letter rest grants qu be wa → CanDrop m t
head-drop m t rest grants qu be wa l (Raise v lv re st gr e wt ra) = let z : Drop ≡ Ask v = sym l ∙ lv in cc
head-drop m t rest grants qu be wa l (Lower k v lv st d close) = let z : Drop ≡ Ask v = sym l ∙ lv in cc
head-drop m t rest grants qu be wa l (Leave k lv st close) = record { lock = k; stands = st }

pub can-drop : (m : Message) (t : List Resource) (old : Option Mode) → mode_of m.owner (resource_at m.name t).askers ≡ old → CanDrop m t → drop_made m old t ≡ released m.name m.owner m.value t
can-drop m t old o c =
    let is : old ≡ Some c.lock = sym o ∙ can-mode (Some c.lock) (standing_of m.owner (resource_at m.name t).askers) c.stands in
    rw is (drop-is m c.lock t c.stands)

drop-own : (m : Message) (t t2 : List Resource) (rest grants : List Letter) (qu : List Waiter) (be wa : Option Mode) → m.letter ≡ Drop → standing_of m.owner (resource_at m.name t2).askers ≡ None
    → Head m.owner m.name (standing_of m.owner (resource_at m.name t).askers) m.letter rest grants qu be wa
    → PreLane m.owner m.name (standing_of m.owner (resource_at m.name t2).askers) rest grants qu be wa
drop-own m t t2 rest grants qu be wa l n (Raise v lv re st gr e wt ra) = let z : Drop ≡ Ask v = sym l ∙ lv in cc
drop-own m t t2 rest grants qu be wa l n (Lower k v lv st d close) = let z : Drop ≡ Ask v = sym l ∙ lv in cc
drop-own m t t2 rest grants qu be wa l n (Leave k lv st close) = inl (close (standing_of m.owner (resource_at m.name t2).askers) n)

pub drop-call : (s : State) (from to : ℕ) (m : Message) → IsSound s → First s from to m → m.letter ≡ Drop
    → Call s m (past_first (is_between from to) s.mail) (released m.name m.owner m.value (table_at (home s.nodes m.name) s.tables)) s.queue
drop-call s from to m i a l =
    let t : List Resource = table_at (home s.nodes m.name) s.tables in
    let tab = i.tables_are (home s.nodes m.name) in
    record {
      open_name = a.open_name;
      table = IsTable-released m.name m.owner m.value t tab;
      others = released-leaves m.name m.owner m.value t;
      here = λ p e. released-serves m.name p m.owner m.value t tab e;
      queue = λ p y e. refl;
      grants = a.grants;
      calls = a.calls;
      addressed = a.addressed;
      own = drop-own m t (released m.name m.owner m.value t) _ _ _ _ _ l (releases-leave m.name m.owner m.value t) a.head;
    }

-- a call is taken
take-sound : (s : State) (from to : ℕ) (m : Message) (l : Letter) → IsSound s → find (is_between from to) s.mail ≡ Some m → is_call l ≡ true → recovery m.name s ≡ None → m.letter ≡ l
    → IsSound (taken_from m l (mode_of m.owner (told_at m.name s).askers) (table_at (home s.nodes m.name) s.tables) (record s { mail = past_first (is_between from to) s.mail }))
take-sound s from to m (Ask w) i f c n e =
    let a = call-first s from to m i f (rw e refl) n in
    served-sound _ (call-sound s m (past_first (is_between from to) s.mail) _ _ (versions_after m (mode_of m.owner (told_at m.name s).askers) (table_at (home s.nodes m.name) s.tables) s.holds s.versions) i (ask-call s from to m w i a e))
take-sound s from to m Drop i f c n e =
    let a = call-first s from to m i f (rw e refl) n in
    let t : List Resource = table_at (home s.nodes m.name) s.tables in
    let old : Option Mode = mode_of m.owner (told_at m.name s).askers in
    let vs : List Version = versions_after m old t s.holds s.versions in
    let is : drop_made m old t ≡ released m.name m.owner m.value t = can-drop m t old refl (head-drop m t _ _ _ _ _ e a.head) in
    rw is (served-sound _ (call-sound s m (past_first (is_between from to) s.mail) _ s.queue vs i (drop-call s from to m i a e)))
take-sound s from to m (Grant w v) i f c n e = cc
take-sound s from to m (Claim d) i f c n e = cc

pub taken-sound : (s : State) (from to : ℕ) (m : Message) → IsSound s → find (is_between from to) s.mail ≡ Some m → is_call m.letter ≡ true → recovery m.name s ≡ None → IsSound (taken m (record s { mail = past_first (is_between from to) s.mail }))
taken-sound s from to m i f c n = take-sound s from to m m.letter i f c n refl

used-some : (o : Owner) (xs : List Asker) (st : Standing) → standing_of o xs ≡ Some st → not (length xs == 0) ≡ true
used-some o [] st e = cc
used-some o (a ∷ rest) st e = not-zero (length rest)

pub used-by : (x : LockName) (o : Owner) (t : List Resource) (st : Standing) → standing_of o (resource_at x t).askers ≡ Some st → is_used (resource_at x t) ≡ true
used-by x o t st e = used-some o (resource_at x t).askers st e

pub askers-recovered : (x : LockName) (v : List ℕ) (b : Bool) (t : List Resource) → is_used (resource_at x t) ≡ true → (resource_at x (recovered x v b t)).askers ≡ (resource_at x t).askers
askers-recovered x v b t u = ap (λ (r : Resource). r.askers) (recovered-at x v b t u)

-- a call behind which the value block is recovered
pub call-again : (s : State) (m : Message) (ms : List Message) (t : List Resource) (q : List Waiter) (v : List ℕ) (b : Bool) (st : Standing) → Call s m ms t q → standing_of m.owner (resource_at m.name t).askers ≡ Some st → Call s m ms (recovered m.name v b t) q
call-again s m ms t q v b st c e =
    let same = askers-recovered m.name v b t (used-by m.name m.owner t st e) in
    record {
      open_name = c.open_name;
      table = IsTable-recovered m.name v b t c.table;
      others = λ y d. recovered-leaves m.name v b t y d ∙ c.others y d;
      here = λ p n. rw same (c.here p n);
      queue = c.queue;
      grants = c.grants;
      calls = c.calls;
      addressed = c.addressed;
      own = rw same c.own;
    }

-- how who has asked stands
pub ask-stands : (s : State) (from to : ℕ) (m : Message) (w : Mode) → IsSound s → First s from to m → m.letter ≡ Ask w
    → (st : Standing) × (standing_of m.owner (resource_at m.name (ask_made m (mode_of m.owner (told_at m.name s).askers) w (table_at (home s.nodes m.name) s.tables))).askers ≡ Some st)
ask-stands s from to m w i a l =
    let t : List Resource = table_at (home s.nodes m.name) s.tables in
    let can = head-ask m w t _ _ _ _ _ l a.head in
    let made = can-made m w t (mode_of m.owner (told_at m.name s).askers) (i.tables_are (home s.nodes m.name)) refl can in
    elim made.own [ inl g ↦ (Granted w, g) | inr g ↦ (queued_as can.lock w, g.1) ]

-- a grant comes
grant-own : (o : Option ℕ) (s : State) (from to : ℕ) (m : Message) (w : Mode) (v : Bool) → IsSound s → find (is_between from to) s.mail ≡ Some m → m.letter ≡ Grant w v
    → LaneOf o m.owner m.name s → LaneOf o m.owner m.name (granted m w v (record s { mail = past_first (is_between from to) s.mail }))
grant-own None s from to m w v i f l lane =
    let h : Hold = record { owner = m.owner; name = m.name; belief = Some w; wait = None; seen = record { value = m.value; valid = v; version = m.version } } in
    let ms : List Message = past_first (is_between from to) s.mail in
    let calls = letters-past false m.owner m.name from to s.mail m f (kind-other false m.owner m.name m (ap (has_kind false) l)) in
    let grants : letters_of true m.owner m.name s.mail ≡ Grant w v ∷ letters_of true m.owner m.name ms =
    letters-first s true m.owner m.name from to s.mail m i.addressed f (kind-itself true m (ap (has_kind true) l)) ∙ ap (λ (z : Letter). z ∷ letters_of true m.owner m.name ms) l in
    rw (calls, noted-here h s.holds) (lane-granted (hold_at m.owner m.name s.holds).wait w v (letters_of true m.owner m.name ms) grants lane)
grant-own (Some d) s from to m w v i f l lane =
    let ms : List Message = past_first (is_between from to) s.mail in
    let grants : letters_of true m.owner m.name s.mail ≡ m.letter ∷ letters_of true m.owner m.name ms =
    letters-first s true m.owner m.name from to s.mail m i.addressed f (kind-itself true m (ap (has_kind true) l)) in
    absurd (let n : m.letter ∷ letters_of true m.owner m.name ms ≡ [] = sym grants ∙ lane.no_grants in cc)

-- a lane of which nothing has arrived
pub lane-stays : (o : Option ℕ) (s : State) (ms : List Message) (hs : List Hold) (bs : List Block) (p : Owner) (y : LockName) → letters_of false p y ms ≡ letters_of false p y s.mail → letters_of true p y ms ≡ letters_of true p y s.mail
    → hold_at p y hs ≡ hold_at p y s.holds → LaneOf o p y s → LaneOf o p y (record s { mail = ms; holds = hs; blocks = bs })
lane-stays None s ms hs bs p y a b c lane = rw (a, b, c) lane
lane-stays (Some d) s ms hs bs p y a b c lane = record { lane = rw (a, c) lane.lane; no_grants = b ∙ lane.no_grants; no_waiters = lane.no_waiters }

pub grant-sound : (s : State) (from to : ℕ) (m : Message) (w : Mode) (v : Bool) → IsSound s → find (is_between from to) s.mail ≡ Some m → m.letter ≡ Grant w v
    → IsSound (granted m w v (record s { mail = past_first (is_between from to) s.mail }))
grant-sound s from to m w v i f l =
    let h : Hold = record { owner = m.owner; name = m.name; belief = Some w; wait = None; seen = record { value = m.value; valid = v; version = m.version } } in
    let ms : List Message = past_first (is_between from to) s.mail in
    let next : State = granted m w v (record s { mail = ms }) in
    record {
      some_node = i.some_node;
      each_has_one = i.each_has_one;
      each_has_master = i.each_has_master;
      tables_are = i.tables_are;
      lost = i.lost;
      addressed = past-all (is_between from to) (is_addressed s) s.mail i.addressed;
      kept_back = i.kept_back;
      once = once-noted h s.holds i.once;
      claimed_once = i.claimed_once;
      claimed_together = i.claimed_together;
      lanes = λ p y. (elim (is_at p y h) as (λ b. is_at p y h ≡ b → LaneAt p y next) [
        | true ↦ λ a. rw (← at-owner p y h a, ← at-name p y h a) (grant-own (recovery m.name s) s from to m w v i f l (i.lanes m.owner m.name))
        | false ↦ λ a. lane-stays (recovery y s) s ms (noted h s.holds) next.blocks p y (letters-past false p y from to s.mail m f (not-about false p y m a)) (letters-past true p y from to s.mail m f (not-about true p y m a)) (noted-other p y h s.holds a) (i.lanes p y)
      ]) refl;
    }

-- a claim comes: no lane has it
pub claim-sound : (s : State) (from to : ℕ) (m : Message) (d : ℕ) → IsSound s → find (is_between from to) s.mail ≡ Some m → m.letter ≡ Claim d → IsSound (record s { mail = past_first (is_between from to) s.mail })
claim-sound s from to m d i f l =
    let ms : List Message = past_first (is_between from to) s.mail in
    record {
      some_node = i.some_node;
      each_has_one = i.each_has_one;
      each_has_master = i.each_has_master;
      tables_are = i.tables_are;
      lost = i.lost;
      addressed = past-all (is_between from to) (is_addressed s) s.mail i.addressed;
      kept_back = i.kept_back;
      once = i.once;
      claimed_once = i.claimed_once;
      claimed_together = i.claimed_together;
      lanes = λ p y. lane-stays (recovery y s) s ms s.holds s.blocks p y (letters-past false p y from to s.mail m f (kind-other false p y m (ap (has_kind false) l))) (letters-past true p y from to s.mail m f (kind-other true p y m (ap (has_kind true) l))) refl (i.lanes p y);
    }

-- a call is kept back
kept-calls : (s : State) (from to : ℕ) (m : Message) (p : Owner) (y : LockName) → IsSound s → find (is_between from to) s.mail ≡ Some m → is_call m.letter ≡ true
    → letters_of false p y (s.kept ++ (m ∷ [])) ++ letters_of false p y (past_first (is_between from to) s.mail) ≡ letters_of false p y s.kept ++ letters_of false p y s.mail
kept-calls s from to m p y i f c =
    let ms : List Message = past_first (is_between from to) s.mail in
    let k : List Letter = letters_of false p y s.kept in
    (elim (is_about p y m) as (λ b. is_about p y m ≡ b → letters_of false p y (s.kept ++ (m ∷ [])) ++ letters_of false p y ms ≡ k ++ letters_of false p y s.mail) [
      | true ↦ λ e.
          let kind : is_kind false p y m ≡ true = rw (e, c) refl in
          let at : letters_of false p y s.mail ≡ m.letter ∷ letters_of false p y ms = letters-first s false p y from to s.mail m i.addressed f kind in
          let put : letters_of false p y (s.kept ++ (m ∷ [])) ≡ k ++ (m.letter ∷ []) = letters-append false p y s.kept (m ∷ []) ∙ ap (λ (ls : List Letter). k ++ ls) (letters-one false p y m kind) in
          rw (put, at) (append_assoc k (m.letter ∷ []) (letters_of false p y ms))
      | false ↦ λ e.
          let none : is_kind false p y m ≡ false = not-about false p y m e in
          let at : letters_of false p y ms ≡ letters_of false p y s.mail = letters-past false p y from to s.mail m f none in
          let put : letters_of false p y (s.kept ++ (m ∷ [])) ≡ k = letters-append false p y s.kept (m ∷ []) ∙ ap (λ (ls : List Letter). k ++ ls) (letters-none false p y m none) ∙ append-nil k in
          rw (put, at) refl
    ]) refl

keep-lane : (o : Option ℕ) (s : State) (from to : ℕ) (m : Message) (p : Owner) (y : LockName) → IsSound s → find (is_between from to) s.mail ≡ Some m → is_call m.letter ≡ true → (o ≡ None → is_about p y m ≡ false)
    → LaneOf o p y s → LaneOf o p y (record s { mail = past_first (is_between from to) s.mail; kept = s.kept ++ (m ∷ []) })
keep-lane None s from to m p y i f c k lane =
    let out : is_about p y m ≡ false = k refl in
    rw (letters-past false p y from to s.mail m f (not-about false p y m out), letters-past true p y from to s.mail m f (not-about true p y m out)) lane
keep-lane (Some d) s from to m p y i f c k lane =
    let gr : letters_of true p y (past_first (is_between from to) s.mail) ≡ letters_of true p y s.mail = letters-past true p y from to s.mail m f (kind-other true p y m (call-no_grant m.letter c)) in
    record { lane = rw (kept-calls s from to m p y i f c) lane.lane; no_grants = gr ∙ lane.no_grants; no_waiters = lane.no_waiters }

-- what is kept back is of a name that is being recovered
kept-of : (s : State) (m : Message) (p : Owner) (y : LockName) → is_some (recovery m.name s) ≡ true → recovery y s ≡ None → is_about p y m ≡ false
kept-of s m p y r n =
    (elim (is_about p y m) as (λ b. is_about p y m ≡ b → b ≡ false) [
      | true ↦ λ e.
          let named : m.name ≡ y = is_same-same m.name y (and-right (same_owner m.owner p) (is_same m.name y) e) in
          let k : is_some (recovery y s) ≡ true = subst (λ (z : LockName). is_some (recovery z s) ≡ true) named r in
          let g : true ≡ false = sym k ∙ ap is_some n in
          g
      | false ↦ λ e. refl
    ]) refl

pub keep-sound : (s : State) (from to : ℕ) (m : Message) → IsSound s → find (is_between from to) s.mail ≡ Some m → is_call m.letter ≡ true → is_some (recovery m.name s) ≡ true
    → IsSound (record s { mail = past_first (is_between from to) s.mail; kept = s.kept ++ (m ∷ []) })
keep-sound s from to m i f c r = record {
  some_node = i.some_node;
  each_has_one = i.each_has_one;
  each_has_master = i.each_has_master;
  tables_are = i.tables_are;
  lost = i.lost;
  addressed = past-all (is_between from to) (is_addressed s) s.mail i.addressed;
  kept_back = list_all-joined (is_kept s) s.kept (m ∷ []) i.kept_back (and-both (is_kept s m) true (and-both (is_call m.letter) (is_addressed s m) c (list_all-find (is_addressed s) (is_between from to) s.mail m i.addressed f)) refl);
  once = i.once;
  claimed_once = i.claimed_once;
  claimed_together = i.claimed_together;
  lanes = λ p y. keep-lane (recovery y s) s from to m p y i f c (kept-of s m p y r) (i.lanes p y);
}
