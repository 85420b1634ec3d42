-- The state stays sound when an owner asks or gives up its lock.
use Rattle.std.proofs.Common.{◌≡◌, ◌==◌, ◌&&◌, ◌++◌, ℕ, ◌-◌, ◌≤◌, zero, suc, Bool, true, false, not, List, [], ◌∷◌, Option, Some, None, is_some, map, get_or, append_assoc, refl, arith, ap, sym, subst, ◌∙◌, if◌then◌else◌}
use Rattle.std.specs.List.{range_with_len}
use Rattle.std.proofs.lemmas.List.{append-nil, length-replicate}
use Rattle.std.proofs.lemmas.List.FromFn.{length-map-range_with_len}
use Rattle.plain_cat.specs.declared.mode.Mode.{Mode}
use Rattle.lock_db.specs.declared.name.LockName.{LockName}
use Rattle.lock_db.specs.declared.name.Owner.{Owner}
use Rattle.lock_db.specs.declared.askers.Standing.{Standing}
use Rattle.lock_db.specs.declared.resource.Resource.{Resource}
use Rattle.lock_db.specs.Queues.{standing_of}
use Rattle.lock_db.specs.Tables.{resource_at, IsTable}
use Rattle.lock_db.proofs.Lists.{and-both, list_all-joined}
use Rattle.dlm_core.specs.declared.messages.Letter.{Letter}
use Rattle.dlm_core.specs.declared.messages.Letter.TheVariants.{Ask, Drop, Grant, Claim}
use Rattle.dlm_core.specs.declared.messages.Message.{Message}
use Rattle.dlm_core.specs.declared.holds.Hold.{Hold}
use Rattle.dlm_core.specs.declared.rules.BlockRule.{BlockRule}
use Rattle.dlm_core.specs.declared.queue.Waiter.{Waiter}
use Rattle.dlm_core.specs.Modes.{lowers, crosses}
use Rattle.dlm_core.specs.States.{State, home, own_home, master, recovery, hold_at, noted, asked_hold, is_at, start}
use Rattle.dlm_core.specs.Steps.{seen_after, is_call, stands_as, call_to, called, ask_after, drop_after}
use Rattle.dlm_core.specs.Lanes.{is_about, has_kind, is_kind, letters_of, waiters_of, IsLane, IsClaimed, LaneOf, LaneAt, last_ask, standing_at, goes_between, is_addressed, IsSound}
use Rattle.dlm_core.specs.Lanes.IsLane.{Sends}
use Rattle.dlm_core.proofs.Mails.{letters-append, letters-one, letters-none}
use Rattle.dlm_core.proofs.Beliefs.{at-owner, at-name, at-itself, noted-here, noted-other, hold-owner, hold-name, once-noted}
use Rattle.dlm_core.proofs.Growing.{lane-lowered, lane-asked, lane-dropped}

-- nobody has asked for anything
pub own-recovers : (ns : List ℕ) (i : ℕ) → (get_or (map own_home ns) i (record { master = 0; recovers = None })).recovers ≡ None
own-recovers [] i = refl
own-recovers (n ∷ ns) zero = refl
own-recovers (n ∷ ns) (suc i) = own-recovers ns i

pub start-empty : (rule : BlockRule) (n i : ℕ) → get_or (start rule n).tables i [] ≡ []
start-empty rule zero i = refl
start-empty rule (suc n) zero = refl
start-empty rule (suc n) (suc i) = start-empty rule n i

start-lane : (rule : BlockRule) (n : ℕ) (o : Owner) (x : LockName) → LaneOf None o x (start rule n)
start-lane rule n o x =
    let st : standing_at o x (start rule n) ≡ None = ap (λ (t : List Resource). standing_of o (resource_at x t).askers) (start-empty rule n (home n x - 1)) in
    Sends None [] st refl refl refl refl tt

pub empty-table : IsTable []
empty-table = record { ordered = refl; used = refl; settled_all = tt }

pub start-sound : (rule : BlockRule) (n : ℕ) → 1 ≤ n → IsSound (start rule n)
start-sound rule n l = record {
  some_node = l;
  each_has_one = length-replicate n [];
  each_has_master = length-map-range_with_len own_home 1 n;
  tables_are = λ k. subst (λ (t : List Resource). IsTable t) (sym (start-empty rule n (k - 1))) empty-table;
  lost = λ k r. start-empty rule n (k - 1);
  addressed = refl;
  kept_back = refl;
  once = refl;
  claimed_once = refl;
  claimed_together = λ a b x m k d e f. cc;
  lanes = λ o x. subst (λ (d : Option ℕ). LaneOf d o x (start rule n)) (sym (own-recovers (range_with_len 1 n) (home n x - 1))) (start-lane rule n o x);
}

-- an owner's call is noted and sent
waits-none : (o : Option Mode) → is_some o ≡ false → o ≡ None
waits-none None e = refl
waits-none (Some m) e = cc

-- the lane with more calls at its end
abbrev More : Option ℕ → Owner → LockName → State → List Letter → Option Mode → Option Mode → Type 0
More None o x s ls be wa = IsLane o x (standing_at o x s) (letters_of false o x s.mail ++ ls) (letters_of true o x s.mail) (waiters_of o x s.queue) be wa
More (Some d) o x s ls be wa = IsClaimed o x (hold_at o x s.claims) (letters_of false o x s.kept) (letters_of false o x s.mail ++ ls) (letters_of true o x s.mail) (waiters_of o x s.queue) be wa

-- whatever the lane is, this makes it grow
abbrev Grows : Owner → LockName → List Letter → Option Mode → Option Mode → Option Mode → Option Mode → Type 0
Grows o x ls be wa be1 wa1 = (st : Option Standing) (calls grants : List Letter) (qu : List Waiter) → IsLane o x st calls grants qu be wa → IsLane o x st (calls ++ ls) grants qu be1 wa1

grown : (d : Option ℕ) (o : Owner) (x : LockName) (s : State) (ls : List Letter) (be1 wa1 : Option Mode) → Grows o x ls (hold_at o x s.holds).belief (hold_at o x s.holds).wait be1 wa1 → LaneOf d o x s → More d o x s ls be1 wa1
grown None o x s ls be1 wa1 g l = g _ _ _ _ l
grown (Some d) o x s ls be1 wa1 g l =
    let c : List Letter = letters_of false o x s.mail in
    let k : List Letter = letters_of false o x s.kept in
    let a : List Letter = last_ask (hold_at o x s.claims).wait in
    let e : (a ++ (k ++ c)) ++ ls ≡ a ++ (k ++ (c ++ ls)) = append_assoc a (k ++ c) ls ∙ ap (λ (ys : List Letter). a ++ ys) (append_assoc k c ls) in
    record { lane = subst (λ (ys : List Letter). IsLane o x (stands_as (hold_at o x s.claims).belief) ys [] [] be1 wa1) e (g _ _ _ _ l.lane); no_grants = l.no_grants; no_waiters = l.no_waiters }

-- the lane of whoever calls, with what it believes now
call-kind : (g : Bool) (l : Letter) → is_call l ≡ true → has_kind g l ≡ not g
call-kind true (Ask w) e = refl
call-kind true Drop e = refl
call-kind true (Grant w v) e = cc
call-kind true (Claim d) e = cc
call-kind false (Ask w) e = refl
call-kind false Drop e = refl
call-kind false (Grant w v) e = cc
call-kind false (Claim d) e = cc

called-calls : (s : State) (old : Option Mode) (h : Hold) (l : Letter) (fill : ℕ) → is_call l ≡ true
    → letters_of false h.owner h.name (s.mail ++ (call_to h.owner h.name old l fill s ∷ [])) ≡ letters_of false h.owner h.name s.mail ++ (l ∷ [])
called-calls s old h l fill e =
    let m : Message = call_to h.owner h.name old l fill s in
    let own : is_about h.owner h.name m ≡ true = at-itself h in
    let call : is_kind false h.owner h.name m ≡ true = rw (call-kind false l e, own) refl in
    letters-append false h.owner h.name s.mail (m ∷ []) ∙ ap (λ (ls : List Letter). letters_of false h.owner h.name s.mail ++ ls) (letters-one false h.owner h.name m call)

called-grants : (s : State) (old : Option Mode) (h : Hold) (l : Letter) (fill : ℕ) → is_call l ≡ true
    → letters_of true h.owner h.name (s.mail ++ (call_to h.owner h.name old l fill s ∷ [])) ≡ letters_of true h.owner h.name s.mail
called-grants s old h l fill e =
    let m : Message = call_to h.owner h.name old l fill s in
    let grant : is_kind true h.owner h.name m ≡ false = rw (call-kind true l e) refl in
    letters-append true h.owner h.name s.mail (m ∷ []) ∙ ap (λ (ls : List Letter). letters_of true h.owner h.name s.mail ++ ls) (letters-none true h.owner h.name m grant) ∙ append-nil (letters_of true h.owner h.name s.mail)

-- what is noted of who has called
abbrev pub calling : State → Option Mode → Hold → Letter → ℕ → Hold
calling s old h l fill = record h { seen = seen_after old h (call_to h.owner h.name old l fill s) }

called-own : (d : Option ℕ) (s : State) (old : Option Mode) (h : Hold) (l : Letter) (fill : ℕ) → is_call l ≡ true → More d h.owner h.name s (l ∷ []) h.belief h.wait → LaneOf d h.owner h.name (called old h l fill s)
called-own None s old h l fill e lane = rw (called-calls s old h l fill e, called-grants s old h l fill e, noted-here (calling s old h l fill) s.holds) lane
called-own (Some d) s old h l fill e lane =
    record { lane = rw (called-calls s old h l fill e, noted-here (calling s old h l fill) s.holds) lane.lane; no_grants = called-grants s old h l fill e ∙ lane.no_grants; no_waiters = lane.no_waiters }

pub not-about : (g : Bool) (p : Owner) (y : LockName) (m : Message) → is_about p y m ≡ false → is_kind g p y m ≡ false
not-about g p y m e = (elim (has_kind g m.letter) as (λ b. (b && is_about p y m) ≡ false) [ true ↦ e | false ↦ refl ])

called-other : (d : Option ℕ) (s : State) (old : Option Mode) (h : Hold) (l : Letter) (fill : ℕ) (p : Owner) (y : LockName) → is_at p y h ≡ false → LaneOf d p y s → LaneOf d p y (called old h l fill s)
called-other d s old h l fill p y e lane =
    let m : Message = call_to h.owner h.name old l fill s in
    let none : (g : Bool) → letters_of g p y (s.mail ++ (m ∷ [])) ≡ letters_of g p y s.mail =
    λ g. letters-append g p y s.mail (m ∷ []) ∙ ap (λ (ls : List Letter). letters_of g p y s.mail ++ ls) (letters-none g p y m (not-about g p y m e)) ∙ append-nil (letters_of g p y s.mail) in
    called-kept d s old h l fill p y (none false) (none true) (noted-other p y (calling s old h l fill) s.holds e) lane
  where
    called-kept : (d : Option ℕ) (s : State) (old : Option Mode) (h : Hold) (l : Letter) (fill : ℕ) (p : Owner) (y : LockName)
        → letters_of false p y (s.mail ++ (call_to h.owner h.name old l fill s ∷ [])) ≡ letters_of false p y s.mail
        → letters_of true p y (s.mail ++ (call_to h.owner h.name old l fill s ∷ [])) ≡ letters_of true p y s.mail
        → hold_at p y (noted (calling s old h l fill) s.holds) ≡ hold_at p y s.holds → LaneOf d p y s → LaneOf d p y (called old h l fill s)
    called-kept None s old h l fill p y a b c lane = rw (a, b, c) lane
    called-kept (Some d) s old h l fill p y a b c lane = record { lane = rw (a, c) lane.lane; no_grants = b ∙ lane.no_grants; no_waiters = lane.no_waiters }

call-between : (l : Letter) (at : ℕ) (m : Message) → is_call l ≡ true → m.from ≡ m.owner.node → m.to ≡ at → goes_between l at m ≡ true
call-between (Ask w) at m e f t = and-both (m.from == m.owner.node) (m.to == at) (grind arith) (grind arith)
call-between Drop at m e f t = and-both (m.from == m.owner.node) (m.to == at) (grind arith) (grind arith)
call-between (Grant w v) at m e f t = cc
call-between (Claim d) at m e f t = cc

called-sound : (s : State) (old : Option Mode) (h : Hold) (l : Letter) (fill : ℕ) → IsSound s → is_call l ≡ true → More (recovery h.name s) h.owner h.name s (l ∷ []) h.belief h.wait → IsSound (called old h l fill s)
called-sound s old h l fill i e lane = record {
  some_node = i.some_node;
  each_has_one = i.each_has_one;
  each_has_master = i.each_has_master;
  tables_are = i.tables_are;
  lost = i.lost;
  addressed = list_all-joined (is_addressed s) s.mail (call_to h.owner h.name old l fill s ∷ []) i.addressed
      (and-both (is_addressed s (call_to h.owner h.name old l fill s)) true (call-between l (master h.name s) (call_to h.owner h.name old l fill s) e refl refl) refl);
  kept_back = i.kept_back;
  once = once-noted (calling s old h l fill) s.holds i.once;
  claimed_once = i.claimed_once;
  claimed_together = i.claimed_together;
  lanes = λ p y. (elim (is_at p y h) as (λ b. is_at p y h ≡ b → LaneAt p y (called old h l fill s)) [
    | true ↦ λ a. rw (← at-owner p y h a, ← at-name p y h a) (called-own (recovery h.name s) s old h l fill e lane)
    | false ↦ λ a. called-other (recovery y s) s old h l fill p y a (i.lanes p y)
  ]) refl;
}

-- what an owner that does not wait asks for
ask-grows : (o : Owner) (x : LockName) (h : Hold) (mode : Mode) (b : Bool) → lowers h.belief mode ≡ b → crosses h.belief mode ≡ false → h.wait ≡ None
    → Grows o x (Ask mode ∷ []) h.belief h.wait (if b then record h { belief = Some mode } else record h { wait = Some mode }).belief (if b then record h { belief = Some mode } else record h { wait = Some mode }).wait
ask-grows o x h mode true d c w st calls grants qu l = rw w (lane-lowered mode (rw w at l) d)
ask-grows o x h mode false d c w st calls grants qu l = lane-asked mode (rw w at l) d c

if-owner : (b : Bool) (h : Hold) (m n : Option Mode) → (if b then record h { belief = m } else record h { wait = n }).owner ≡ h.owner
if-owner true h m n = refl
if-owner false h m n = refl

if-name : (b : Bool) (h : Hold) (m n : Option Mode) → (if b then record h { belief = m } else record h { wait = n }).name ≡ h.name
if-name true h m n = refl
if-name false h m n = refl

-- what an owner believes stands under its own name
more-at : (s : State) (o : Owner) (x : LockName) (h k : Hold) (ls : List Letter) → hold_at o x s.holds ≡ h → k.owner ≡ h.owner → k.name ≡ h.name → IsSound s → Grows o x ls h.belief h.wait k.belief k.wait
    → More (recovery k.name s) k.owner k.name s ls k.belief k.wait
more-at s o x h k ls e own named i g =
    let a : k.owner ≡ o = own ∙ sym (ap (λ (z : Hold). z.owner) e) ∙ hold-owner o x s.holds in
    let b : k.name ≡ x = named ∙ sym (ap (λ (z : Hold). z.name) e) ∙ hold-name o x s.holds in
    let g2 : Grows o x ls (hold_at o x s.holds).belief (hold_at o x s.holds).wait k.belief k.wait = subst (λ (z : Hold). Grows o x ls z.belief z.wait k.belief k.wait) (sym e) g in
    let l : More (recovery x s) o x s ls k.belief k.wait = grown (recovery x s) o x s ls k.belief k.wait g2 (i.lanes o x) in
    let l2 : More (recovery x s) k.owner x s ls k.belief k.wait = subst (λ (z : Owner). More (recovery x s) z x s ls k.belief k.wait) (sym a) l in
    subst (λ (z : LockName). More (recovery z s) k.owner z s ls k.belief k.wait) (sym b) l2

pub ask-sound : (s : State) (o : Owner) (x : LockName) (mode : Mode) (fill : ℕ) (h : Hold) → IsSound s → hold_at o x s.holds ≡ h → IsSound (ask_after h mode fill s)
ask-sound s o x mode fill h i e =
    (elim (is_some h.wait) as (λ b. is_some h.wait ≡ b → IsSound (if b then s else if crosses h.belief mode then s else called h.belief (asked_hold h mode) (Ask mode) fill s)) [
      | true ↦ λ w. i
      | false ↦ λ w.
          (elim (crosses h.belief mode) as (λ b. crosses h.belief mode ≡ b → IsSound (if b then s else called h.belief (asked_hold h mode) (Ask mode) fill s)) [
            | true ↦ λ c. i
            | false ↦ λ c.
                let none : h.wait ≡ None = waits-none h.wait w in
                let k : Hold = asked_hold h mode in
                let own : k.owner ≡ h.owner = if-owner (lowers h.belief mode) h (Some mode) (Some mode) in
                let named : k.name ≡ h.name = if-name (lowers h.belief mode) h (Some mode) (Some mode) in
                called-sound s h.belief k (Ask mode) fill i refl (more-at s o x h k (Ask mode ∷ []) e own named i (ask-grows o x h mode (lowers h.belief mode) refl c none))
          ]) refl
    ]) refl

drop-grows : (o : Owner) (x : LockName) (h : Hold) (m : Mode) → h.belief ≡ Some m → h.wait ≡ None → Grows o x (Drop ∷ []) h.belief h.wait None h.wait
drop-grows o x h m e w st calls grants qu l = rw w (lane-dropped m (rw w at l) e)

pub drop-sound : (s : State) (o : Owner) (x : LockName) (fill : ℕ) (h : Hold) → IsSound s → hold_at o x s.holds ≡ h → IsSound (drop_after h fill s)
drop-sound s o x fill h i e =
    (elim (is_some h.wait) as (λ b. is_some h.wait ≡ b → IsSound (if b then s else if is_some h.belief then called h.belief (record h { belief = None }) Drop fill s else s)) [
      | true ↦ λ w. i
      | false ↦ λ w.
          (elim h.belief as (λ b. h.belief ≡ b → IsSound (if is_some b then called b (record h { belief = None }) Drop fill s else s)) [
            | None ↦ λ c. i
            | Some m ↦ λ c.
                let none : h.wait ≡ None = waits-none h.wait w in
                called-sound s (Some m) (record h { belief = None }) Drop fill i refl (more-at s o x h (record h { belief = None }) (Drop ∷ []) e refl refl i (drop-grows o x h m c none))
          ]) refl
    ]) refl
