-- What is known of a node that goes on with its command.
use Rattle.std.proofs.Common.{◌≡◌, ◌≤◌, ◌<◌, ◌+◌, ◌-◌, ◌++◌, ℕ, zero, suc, Bool, true, false, cond, List, [], ◌∷◌, Option, Some, None, length, map, slice_get, slice_set, refl, sym, ap, subst, ◌∙◌, inl, inr, arith}
use Rattle.std.specs.Prelude.{◌&&◌, ◌||◌, slice_index_or, not, option_map, IfSome, IsSome, is_some}
use Rattle.lock_db.specs.declared.name.LockName.{LockName}
use Rattle.lock_db.specs.declared.name.LockName.TheVariants.{A}
use Rattle.lock_db.specs.declared.name.Owner.{Owner}
use Rattle.lock_db.specs.declared.resource.Resource.{Resource}
use Rattle.lock_db.specs.Queues.{standing_of}
use Rattle.lock_db.specs.declared.resource.Asked.{Asked}
use Rattle.lock_db.specs.declared.resource.Asked.TheVariants as locked_so
use Rattle.lock_db.specs.Resources.{asked_answer}
use Rattle.lock_db.specs.Tables.{resource_at, released}
use Rattle.plain_cat.specs.declared.mode.Mode.{Mode}
use Rattle.plain_cat.specs.declared.mode.Mode.TheVariants.{CW, EX}
use Rattle.plain_cat.specs.declared.command.Cmd.{Cmd}
use Rattle.plain_cat.specs.declared.reply.Reply.{Reply}
use Rattle.plain_cat.specs.declared.script.Script.{Script}
use Rattle.node_locks.specs.Held.{system_of, Row, names_of, HoldsItsLocks, waits_at}
use Rattle.node_locks.specs.Taking.{taken, taken_now, MayTake}
use Rattle.node_locks.specs.Sweeping.{MayGiveAll as MayGiveNamed}
use Rattle.node_locks.specs.Sequences.{raised_block}
use Rattle.node_locks.proofs.Rows.{order-of}
use Rattle.base_words.specs.Lists.{Has, Touches}
use Rattle.vol_parts.specs.declared.geometry.Geometry.{Geometry}
use Rattle.vol_parts.specs.Parts.{IsGeometry}
use Rattle.vol_under.specs.Guards.{guard_of, MayWrite}
use Rattle.vol_under.specs.UnderWay.{UnderWay, bare}
use Rattle.vol_under.proofs.Nodes.{next_in}
use Rattle.op_law.specs.declared.need.Need.{Need}
use Rattle.op_law.specs.declared.need.Need.TheVariants as need
use Rattle.op_law.specs.declared.need.Plan.{Plan}
use Rattle.op_law.specs.declared.need.PlanWrite.{PlanWrite}
use Rattle.op_law.specs.declared.need.Ask.{Ask as PlanAsk}
use Rattle.op_law.specs.declared.seen.Seen.{Seen}
use Rattle.op_law.specs.Needs.{need_of, IsNext}
use Rattle.op_law.specs.Fits.{FitsSeen}
use Rattle.op_law.specs.Laws.{planned}
use Rattle.core_space.specs.declared.run.Phase.TheVariants as phase
use Rattle.core_state.specs.Worlds.{NodeState, Plain, IsOfWorld, node_at, set_node, rows_of, rows_in, rows_at, state_of}
use Rattle.core_state.specs.Raises.{raise_of}
use Rattle.core_state.specs.Asks.{has_asked, writes_by, reply_by, writes_now, asker_of}
use Rattle.core_state.specs.Fallen.{living}
use Rattle.core_state.proofs.Falling.{answers_left}
use Rattle.core_state.specs.Goods.{IsAt, IsNode, Good, decided, HasRoom}
use Rattle.core_state.specs.Event.{Event}
use Rattle.core_state.specs.Event as event
use Rattle.core_state.specs.Events.{happens, happen, block_used, cache_looked, cache_used, cache_written, turned, locking, caching, looking, using, planning, writing, asking, answering, would_go, asked_by, or_use, by_need, by_end, by_write, by_plan, by_command, by_turn, gives_back_in, stands, is_held_up, event_of, event_now, readied, command_in, command_at, plan_in, plan_at, tried_in, tried_at}
use Rattle.base_words.specs.Fields.{block_at}
use Rattle.core_state.specs.declared.node.Node.{Node}
use Rattle.core_state.proofs.Nodes.{at_here, length_node, told_at}
use Rattle.core_state.proofs.Keeping.{has_asked_row}
use Rattle.core_state.proofs.Rows.{asks_last}
use Rattle.core_state.proofs.CachedPlans.{guard_within}
use Rattle.core_state.proofs.Turning.{under_command, drive, seen_on, may_need, may_take, asks_now, here, planned_at}
use Rattle.core_state.proofs.Trying.{nobody_asks, StandsSo, stands_so, goes_as_request}
use Rattle.core_state.proofs.Opens.{locked, no_lock, has_its}
use Rattle.core_state.proofs.Preparing.{has_prepared, readied_same}
use Rattle.core_step.specs.Giving.{MayGiveAll, MayLeaveAll}
use Rattle.core_step.specs.Asks.{going_ask, aim_of, GoesAsRequest, MayAsk}
use Rattle.core_step.specs.declared.asks.Aim.{Aim}
use Rattle.core_step.specs.Ready.{Makes, IsReady, IsSearching, SearchesAsNeeded}
use Rattle.core_step.specs.declared.turns.Turn.TheVariants as turn
use Rattle.core_step.specs.declared.turns.Kind.TheVariants as kind
use Rattle.core_step.specs.Turns.{is_queued_in, told}
use Rattle.core_step.proofs.Caching.{write_no_look}
use Rattle.core_step.proofs.Steps.{happen_here, is_there}
use Rattle.core_step.proofs.Lists.{unnamed, stands_nowhere}
use Rattle.core_step.proofs.Outcomes.{makes_as}
use Rattle.core_step.proofs.SpaceStates.{some_at}

-- ---- what the operation of a node tells

pub need_told : {O : Type 0} (cmd_is : O → Cmd) (o : Option O) (x : Cmd) (seen : Seen) (next : Need) → option_map cmd_is o ≡ Some x → IfSome o (λ op. need_of (cmd_is op) seen ≡ next) → need_of x seen ≡ next
need_told cmd_is None x seen next e n = absurd (let f : None ≡ Some x = e in cc)
need_told cmd_is (Some op) x seen next e n = let f : Some (cmd_is op) ≡ Some x = e in let h : x ≡ cmd_is op = cc in ap (λ y. need_of y seen) h ∙ n

pub fits_told : {O : Type 0} (cmd_is : O → Cmd) (o : Option O) (x : Cmd) (seen : Seen) → option_map cmd_is o ≡ Some x → FitsSeen x seen → IfSome o (λ op. FitsSeen (cmd_is op) seen)
fits_told cmd_is None x seen e fits = absurd (let f : None ≡ Some x = e in cc)
fits_told cmd_is (Some op) x seen e fits = let f : Some (cmd_is op) ≡ Some x = e in let h : x ≡ cmd_is op = cc in subst (λ (y : Cmd). FitsSeen y seen) h fits

-- what a node searches for is what the operation would say
pub searched_told : {O : Type 0} (cmd_is : O → Cmd) (o : Option O) (s : NodeState) (x : Cmd) (k : ℕ) (b : Bool) → s.cmd ≡ option_map cmd_is o → option_map cmd_is o ≡ Some x → SearchesAsNeeded s → IsSearching s x k b
    → IfSome o (λ op. need_of (cmd_is op) s.seen ≡ need.Space k b)
searched_told cmd_is None s x k b cmd e asks is = absurd (let f : None ≡ Some x = e in cc)
searched_told cmd_is (Some op) s x k b cmd e asks is =
    let f : Some (cmd_is op) ≡ Some x = e in
    let h : x ≡ cmd_is op = cc in
    subst (λ (y : Cmd). need_of y s.seen ≡ need.Space k b) h (asks x k b (cmd ∙ e) is)

-- ---- the locks can all be given back

pub may_each : (g : Geometry) (n : ℕ) (ws : List PlanWrite) (ls : Row) (t : List Resource) → MayGiveNamed n (λ name u. raised_block name (raise_of g name ws) (resource_at name u)) (names_of ls) t → MayGiveAll g n ws ls t
may_each g n ws [] t may = tt
may_each g n ws (l ∷ ls) t may = (may.0, may_each g n ws ls (released l.0 (system_of n) (raised_block l.0 (raise_of g l.0 ws) (resource_at l.0 t)) t) may.1)

-- the same, where the value blocks stay
pub may_leave_each : (n : ℕ) (ls : Row) (t : List Resource) → MayGiveNamed n (λ name u. (resource_at name u).value) (names_of ls) t → MayLeaveAll n ls t
may_leave_each n [] t may = tt
may_leave_each n (l ∷ ls) t may = (may.0, may_leave_each n ls (released l.0 (system_of n) (resource_at l.0 t).value t) may.1)

-- ---- how many nodes have decided

pub decided_few : (ns : List NodeState) → decided ns ≤ length ns
decided_few [] = omega arith
decided_few (s ∷ ns) = by_test (is_some s.plan) (decided_few ns) where
  by_test : (t : Bool) → decided ns ≤ length ns → cond t 1 0 + decided ns ≤ suc (length ns)
  by_test true le = omega arith
  by_test false le = omega arith

first_counts : (k : ℕ) → 1 ≤ 1 + k
first_counts k = omega arith

others_count : (k : ℕ) → 1 ≤ k → 1 ≤ 0 + k
others_count k le = omega arith

changed_counts : (a b d e : ℕ) → e ≡ b → (a + d) + b ≡ (e + d) + a
changed_counts a b d e same = omega arith

later_counts : (a b c d e : ℕ) → d + b ≡ e + c → (a + d) + b ≡ (a + e) + c
later_counts a b c d e same = omega arith

at_decided : (ns : List NodeState) (k : ℕ) (s : NodeState) → slice_get ns k ≡ Some s → is_some s.plan ≡ true → 1 ≤ decided ns
at_decided [] k s e made = absurd (let f : None ≡ Some s = e in cc)
at_decided (x ∷ ns) zero s e made =
    let f : Some x ≡ Some s = e in
    let h : x ≡ s = cc in
    let one : is_some x.plan ≡ true = ap (λ y. is_some y.plan) h ∙ made in
    subst (λ (t : Bool). 1 ≤ cond t 1 0 + decided ns) (sym one) (first_counts (decided ns))
at_decided (x ∷ ns) (suc k) s e made = by_test (is_some x.plan) (at_decided ns k s e made) where
  by_test : (t : Bool) → 1 ≤ decided ns → 1 ≤ cond t 1 0 + decided ns
  by_test true le = first_counts (decided ns)
  by_test false le = others_count (decided ns) le

pub has_decided : (ns : List NodeState) (n : ℕ) (s : NodeState) → node_at ns n ≡ Some s → is_some s.plan ≡ true → 1 ≤ decided ns
has_decided ns zero s e made = absurd (let f : None ≡ Some s = e in cc)
has_decided ns (suc k) s e made = at_decided ns k s e made

-- a node with another plan
decided_place : (ns : List NodeState) (k : ℕ) (s r : NodeState) → slice_get ns k ≡ Some s → decided (slice_set ns k r) + cond (is_some s.plan) 1 0 ≡ decided ns + cond (is_some r.plan) 1 0
decided_place [] k s r e = absurd (let f : None ≡ Some s = e in cc)
decided_place (x ∷ ns) zero s r e =
    let f : Some x ≡ Some s = e in
    let h : x ≡ s = cc in
    changed_counts (cond (is_some r.plan) 1 0) (cond (is_some s.plan) 1 0) (decided ns) (cond (is_some x.plan) 1 0) (ap (λ y. cond (is_some y.plan) 1 0) h)
decided_place (x ∷ ns) (suc k) s r e =
    later_counts (cond (is_some x.plan) 1 0) (cond (is_some s.plan) 1 0) (cond (is_some r.plan) 1 0) (decided (slice_set ns k r)) (decided ns) (decided_place ns k s r e)

pub decided_set : (ns : List NodeState) (n : ℕ) (s r : NodeState) → node_at ns n ≡ Some s → decided (set_node ns n r) + cond (is_some s.plan) 1 0 ≡ decided ns + cond (is_some r.plan) 1 0
decided_set ns zero s r e = absurd (let f : None ≡ Some s = e in cc)
decided_set ns (suc k) s r e = decided_place ns k s r e

-- ---- behind the writes of a plan

-- an ask that goes on is the plan's, was not granted yet, and would be
pub record IsGoing (t : List Resource) (n : ℕ) (tried : Bool) (ask : Option PlanAsk) (a : PlanAsk) : Type 0 where
  pub is : ask ≡ Some a
  pub not_yet : tried ≡ false
  pub goes : would_go t n a ≡ true

pub going_is : (t : List Resource) (n : ℕ) (tried : Bool) (ask : Option PlanAsk) (a : PlanAsk) → going_ask t n tried ask ≡ Some a → IsGoing t n tried ask a
going_is t n tried None a e = absurd (let f : None ≡ Some a = e in cc)
going_is t n true (Some b) a e = absurd (let f : None ≡ Some a = e in cc)
going_is t n false (Some b) a e = by_goes (would_go t n b) refl e where
  by_goes : (g : Bool) → would_go t n b ≡ g → cond g (Some b) None ≡ Some a → IsGoing t n false (Some b) a
  by_goes true is f = let h : b ≡ a = cc in record { is = ap Some h; not_yet = refl; goes = ap (would_go t n) (sym h) ∙ is }
  by_goes false is f = absurd (let g : None ≡ Some a = f in cc)

-- where none goes on, the command ends as by an answer
ends : (w : Plain) (n : ℕ) (s : NodeState) (x : Cmd) (r : Reply) (tried : Bool) (ask : Option PlanAsk) → going_ask w.locks n tried ask ≡ None → happens w n s (by_end x r tried ask) ≡ happens w n s (event.Answer x (reply_by ask tried r))
ends w n s x r tried None none = refl
ends w n s x r true (Some a) none = refl
ends w n s x r false (Some a) none = ap (asked_by w n s x a) (refused (would_go w.locks n a) none) where
  refused : (g : Bool) → cond g (Some a) None ≡ None → g ≡ false
  refused true e = absurd (let f : Some a ≡ None = e in cc)
  refused false e = refl

-- ---- the node

module _ {w : Plain} (good : Good w) {n : ℕ} (r : IsReady w n) where
  abbrev s : NodeState
  s = r.state

  node : IsNode w n s
  node = good.nodes n s r.at

  is_at : IsAt w n s r.cmd
  is_at = under_command w good n s r.at r.cmd r.has r.free

  pub fits : FitsSeen r.cmd s.seen
  fits = record {
    order = is_at.seen;
    node = n;
    blocks = (drive w good n s r.at r.cmd r.has r.free).base;
    own = (drive w good n s r.at r.cmd r.has r.free).own;
    cat = good.running.cat;
    on = seen_on w good n s r.at r.cmd r.has r.free;
  }

  -- it stands nowhere
  still : stands w n s ≡ false
  still = λ i. r.granted i || (not (r.gives i) && r.free i)

  pub calmly : s.run.phase ≡ phase.Back → ⊥
  calmly f = absurd (let g : true ≡ false = sym (ap (gives_back_in w n s) f) ∙ r.gives in cc)

  -- it goes on, and prepares nothing for it
  pub event_is : Makes w n (or_use w s (by_plan r.cmd s s.plan))
  event_is = record {
    event = ap (λ v. event_now v n) stays ∙ ap (event_of w n) r.at ∙ (λ i. cond (r.on i) event.Rest (cond (still i) event.Stand (or_use w s (by_turn s (r.gives i))))) ∙ ap (λ o. or_use w s (by_command s o)) r.has;
    stays = stays;
  } where
    held : is_held_up w n s ≡ false
    held = λ i. r.on i || (r.gives i || still i)

    stays : readied w n ≡ w
    stays = readied_same w n s r.at (has_prepared w n s r.cmd held r.has ∙ r.served)

  pub has_plan : (o : Option Plan) → plan_at w n ≡ o → s.plan ≡ o
  has_plan o e = sym (ap plan_in r.at) ∙ e

  pub event_need : plan_at w n ≡ None → (next : Need) → need_of r.cmd s.seen ≡ next → Makes w n (or_use w s (by_need s next))
  event_need none next e = makes_as event_is (ap (λ o. or_use w s (by_plan r.cmd s o)) (has_plan None none) ∙ ap (λ nd. or_use w s (by_need s nd)) e)

  pub event_write : (p : Plan) → s.plan ≡ Some p → (o : Option PlanWrite) → slice_get (writes_by p.ask s.tried p.writes) s.done ≡ o → Makes w n (by_write r.cmd p s.tried o)
  event_write p plan o e = makes_as event_is (ap (λ q. or_use w s (by_plan r.cmd s q)) plan ∙ ap (λ v. or_use w s (by_write r.cmd p s.tried v)) e ∙ write_no_look w s r.cmd p s.tried o)

  -- where its ask would be granted, it makes it
  pub event_ask : (p : Plan) → s.plan ≡ Some p → slice_get (writes_by p.ask s.tried p.writes) s.done ≡ None → (a : PlanAsk) → going_ask w.locks n s.tried p.ask ≡ Some a → Makes w n (event.Ask r.cmd a)
  event_ask p plan last a going = let i = going_is w.locks n s.tried p.ask a going in makes_as (event_write p plan None last) (λ k. by_end r.cmd p.reply (i.not_yet k) (i.is k))

  -- and else it ends as an answer does
  pub ends_as : (p : Plan) → going_ask w.locks n s.tried p.ask ≡ None → happen w n (by_end r.cmd p.reply s.tried p.ask) ≡ happen w n (event.Answer r.cmd (reply_by p.ask s.tried p.reply))
  ends_as p none = sym (happen_here w n s (by_end r.cmd p.reply s.tried p.ask) r.at) ∙ ends w n s r.cmd p.reply s.tried p.ask none ∙ happen_here w n s (event.Answer r.cmd (reply_by p.ask s.tried p.reply)) r.at

  -- which is what it tells
  pub ends_told : (p : Plan) (a : Reply) (new : Plain) → new ≡ happen w n (event.Answer r.cmd a) → told new n (by_end r.cmd p.reply s.tried p.ask) ≡ turn.Answered
  ends_told p a new is = by_end_told s.tried p.ask where
    gone : command_at new n ≡ None
    gone = ap (λ v. command_at v n) (is ∙ sym (happen_here w n s (event.Answer r.cmd a) r.at)) ∙ ap command_in (at_here w.nodes n (turned (answering s r.cmd a)) s r.at)

    by_end_told : (b : Bool) (o : Option PlanAsk) → told new n (by_end r.cmd p.reply b o) ≡ turn.Answered
    by_end_told b None = refl
    by_end_told true (Some q) = refl
    by_end_told false (Some q) = ap (λ o. cond (is_some o) (turn.Moved kind.Tried) turn.Answered) gone

  -- the ask may be made
  pub may_ask : (p : Plan) → s.plan ≡ Some p → (a : PlanAsk) → going_ask w.locks n s.tried p.ask ≡ Some a → MayAsk (A a.file) (asker_of n a) a.mode w.locks
  may_ask p plan a going = by_stand (stands_so w good n s r.at r.cmd r.has r.free p plan a i.is i.not_yet) where
    i : IsGoing w.locks n s.tried p.ask a
    i = going_is w.locks n s.tried p.ask a going

    me : Owner
    me = asker_of n a

    by_stand : StandsSo w good n s r.at r.cmd r.has r.free p plan a i.is → MayAsk (A a.file) me a.mode w.locks
    by_stand (inl none) = record {
      new = λ e. none;
      lock = λ has. absurd (let g : true ≡ false = sym has ∙ no_lock me (resource_at (A a.file) w.locks).askers none in cc);
      across = λ has e. absurd (let g : true ≡ false = sym has ∙ no_lock me (resource_at (A a.file) w.locks).askers none in cc);
    }
    by_stand (inr k) = record {
      new = λ e. absurd (let g : true ≡ false = sym (has_its me (resource_at (A a.file) w.locks).askers k.0 k.1) ∙ e in cc);
      lock = λ has. ap is_some (locked me (resource_at (A a.file) w.locks).askers k.0 k.1);
      across = λ has e. absurd (let g : EX ≡ CW = sym k.3 ∙ e in cc);
    }

  -- a conversion goes where a request would
  pub goes_as : (p : Plan) → s.plan ≡ Some p → s.tried ≡ false → GoesAsRequest w.locks n p.ask
  goes_as p plan not_yet a is = goes_as_request w good n s r.at r.cmd r.has r.free p plan a is not_yet

  has_rows : HoldsItsLocks w.locks n (rows_of s)
  has_rows = subst (λ (rs : List Row). HoldsItsLocks w.locks n rs) (ap rows_in r.at) (good.locked.1 n)

  -- a lock that its command needs is new to it
  new_lock : plan_at w n ≡ None → (name : LockName) (mode : Mode) → IsNext r.cmd s.seen (need.Lock name mode) → Has (names_of s.asked) name → ⊥
  new_lock none name mode is h = (may_need w good n s r.at r.cmd r.has r.free (need.Lock name mode) is).new (subst (λ (ls : Row). Has (names_of ls) name) (asks_now w good n s r.at r.cmd r.has r.free (has_plan None none)) h)

  -- so it may be taken, and stands in a queue where it is not granted at once
  pub may_lock : plan_at w n ≡ None → (name : LockName) (mode : Mode) → IsNext r.cmd s.seen (need.Lock name mode) → MayTake name (system_of n) w.locks
  may_lock none name mode is =
      let may = may_need w good n s r.at r.cmd r.has r.free (need.Lock name mode) is in
      (asks_last w.locks n name mode (rows_at w.nodes) s.kept s.asked s.claims good.locked.0 good.locked.1 (ap rows_in r.at) node.rests (may_take w good n s r.at r.cmd r.has r.free (has_plan None none) calmly name may.own may.new) r.free).took.may

  pub lock_waits : plan_at w n ≡ None → (name : LockName) (mode : Mode) → IsNext r.cmd s.seen (need.Lock name mode)
      → waits_at (taken name (system_of n) mode w.locks) n (s.asked ++ (name, mode) ∷ []) ≡ not (taken_now name (system_of n) mode w.locks)
  lock_waits none name mode is =
      let may = may_need w good n s r.at r.cmd r.has r.free (need.Lock name mode) is in
      (asks_last w.locks n name mode (rows_at w.nodes) s.kept s.asked s.claims good.locked.0 good.locked.1 (ap rows_in r.at) node.rests (may_take w good n s r.at r.cmd r.has r.free (has_plan None none) calmly name may.own may.new) r.free).waits

  -- it has not asked for that lock yet
  apart : (name : LockName) → (Has (names_of s.asked) name → ⊥) → (q : NodeState) → node_at w.nodes n ≡ Some q → has_asked name q.asked ≡ false
  apart name new q at =
      let f : Some s ≡ Some q = sym r.at ∙ at in
      let h : s ≡ q = cc in
      subst (λ (y : NodeState). has_asked name y.asked ≡ false) h (unnamed s.asked name new)

  pub lock_apart : plan_at w n ≡ None → (name : LockName) (mode : Mode) → IsNext r.cmd s.seen (need.Lock name mode) → (q : NodeState) → node_at w.nodes n ≡ Some q → (has_asked name q.asked ≡ false) × (has_asked name q.seen.locks ≡ false)
  lock_apart none name mode is q at =
      let may = may_need w good n s r.at r.cmd r.has r.free (need.Lock name mode) is in
      let f : Some s ≡ Some q = sym r.at ∙ at in
      let h : s ≡ q = cc in
      (apart name (new_lock none name mode is) q at, subst (λ (y : NodeState). has_asked name y.seen.locks ≡ false) h (unnamed s.seen.locks name may.new))

  pub ask_apart : (p : Plan) → s.plan ≡ Some p → (a : PlanAsk) → going_ask w.locks n s.tried p.ask ≡ Some a → (q : NodeState) → node_at w.nodes n ≡ Some q → has_asked (A a.file) q.asked ≡ false
  ask_apart p plan a going q at =
      let i = going_is w.locks n s.tried p.ask a going in
      let none : standing_of (system_of n) (resource_at (A a.file) w.locks).askers ≡ None = nobody_asks w good n s r.at r.cmd r.has r.free p plan a i.is i.not_yet n in
      apart (A a.file) (stands_nowhere w.locks n s.asked (A a.file) (order-of w.locks n (rows_of s) s.asked has_rows.in_order (has_asked_row s)) none) q at

  within : (lbn : ℕ) → lbn < length (drive w good n s r.at r.cmd r.has r.free).base → lbn < length w.blocks
  within lbn lt = subst (λ (k : ℕ). lbn < k) (sym (drive w good n s r.at r.cmd r.has r.free).over.count) lt

  pub look_within : (name : LockName) (lbn : ℕ) → IsNext r.cmd s.seen (need.Block name lbn) → lbn < length w.blocks
  look_within name lbn is = within lbn (may_need w good n s r.at r.cmd r.has r.free (need.Block name lbn) is).within

  pub fetch_within : (lbn : ℕ) → IsNext r.cmd s.seen (need.Bare lbn) → lbn < length w.blocks
  fetch_within lbn is = within lbn (may_need w good n s r.at r.cmd r.has r.free (need.Bare lbn) is).within

  -- the geometry that it has seen is one of a volume, and that of the world
  pub has_geometry : IsGeometry s.seen.geometry
  has_geometry = (drive w good n s r.at r.cmd r.has r.free).spelt.counts.geometry

  pub world_geometry : IsGeometry w.geometry
  world_geometry = subst (λ (g : Geometry). IsGeometry g) node.geometry has_geometry

  -- the next write is to a block of the volume
  pub write_within : (p : Plan) → s.plan ≡ Some p → (v : PlanWrite) → slice_get (writes_by p.ask s.tried p.writes) s.done ≡ Some v → v.lbn < length w.blocks
  write_within p plan v next =
      let now = here w good n s r.at r.cmd r.has r.free in
      let ws : List PlanWrite = writes_by p.ask s.tried p.writes in
      let touched : Touches (bare (map planned (writes_now s.tried s.plan))) v.lbn = subst (λ (o : Option Plan). Touches (bare (map planned (writes_now s.tried o))) v.lbn) (sym plan) (next_in (map planned ws) s.done (planned v) (planned_at ws s.done v next)) in
      let mine = subst (λ (u : UnderWay). (l : ℕ) → Touches (bare u.plan) l → MayWrite n u.write (guard_of w.geometry good.running.drive.own l)) now (good.running.drive.plan_guarded n) in
      subst (λ (k : ℕ). v.lbn < k) (sym good.running.drive.over.count) (guard_within w.geometry good.running.drive.base good.running.drive.own good.running.cat good.running.drive.spelt n v.lbn _ (mine v.lbn touched))

-- ---- what its turn leaves

same_room : (a b k : ℕ) → a ≤ b → a + k ≤ b + k
same_room a b k le = omega arith

from_counts : (d a b l x y : ℕ) → d + a ≡ b + x → (b + l) + x ≤ y + a → d + l ≤ y
from_counts d a b l x y e le = omega arith

-- an event that leaves the history, and the plan of its node
module _ (w : Plain) (n : ℕ) (s : NodeState) (at : node_at w.nodes n ≡ Some s) where
  pub kept_room : (e : Event) (q : NodeState) (spare : ℕ) → (happens w n s e).script ≡ w.script → (happens w n s e).nodes ≡ set_node w.nodes n q → living (happens w n s e).history w.script.nodes ≡ living w.history w.script.nodes → is_some q.plan ≡ is_some s.plan
      → HasRoom w spare → (new : Plain) → new ≡ happen w n e → HasRoom new spare
  kept_room e q spare script nodes live plan room new is = subst (λ (v : Plain). HasRoom v spare) (sym (is ∙ sym (happen_here w n s e at))) (record {
    few = subst (λ (ns : List NodeState). length ns ≤ 8) (sym nodes) (subst (λ (k : ℕ). k ≤ 8) (sym (length_node w.nodes n q)) room.few);
    lines = subst (λ (c : Script). length c.lines ≤ 4096) (sym script) room.lines;
    places = subst (λ (c : Script). decided (happens w n s e).nodes + living (happens w n s e).history c.nodes ≤ spare) (sym script)
        (subst (λ (k : ℕ). decided (happens w n s e).nodes + k ≤ spare) (sym live)
        (subst (λ (ns : List NodeState). decided ns + living w.history w.script.nodes ≤ spare) (sym nodes)
        (from_counts (decided (set_node w.nodes n q)) (cond (is_some s.plan) 1 0) (decided w.nodes) (living w.history w.script.nodes) (cond (is_some q.plan) 1 0) spare (decided_set w.nodes n s q at)
        (subst (λ (t : Bool). (decided w.nodes + living w.history w.script.nodes) + cond t 1 0 ≤ spare + cond (is_some s.plan) 1 0) (sym plan) (same_room (decided w.nodes + living w.history w.script.nodes) spare (cond (is_some s.plan) 1 0) room.places)))));
  })

module _ {w : Plain} (good : Good w) {n : ℕ} (r : IsReady w n) where
  abbrev me : NodeState
  me = r.state

  abbrev weight : NodeState → ℕ
  weight x = cond (is_some x.plan) 1 0

  -- for how many entries the history has to have room
  abbrev lives : ℕ
  lives = living w.history w.script.nodes

  abbrev needed : ℕ
  needed = decided w.nodes + lives

  pub command_is : command_at w n ≡ Some r.cmd
  command_is = ap command_in r.at ∙ r.has

  pub room_after : (e : Event) (q : NodeState) (spare spare' : ℕ) → (happens w n me e).script ≡ w.script → (happens w n me e).nodes ≡ set_node w.nodes n q → living (happens w n me e).history w.script.nodes ≡ lives → needed + weight q ≤ spare' + weight me
      → HasRoom w spare → (new : Plain) → new ≡ happen w n e → HasRoom new spare'
  room_after e q spare spare' script nodes live le room new is = subst (λ (v : Plain). HasRoom v spare') (sym (is ∙ sym (happen_here w n me e r.at))) (record {
    few = subst (λ (ns : List NodeState). length ns ≤ 8) (sym nodes) (subst (λ (k : ℕ). k ≤ 8) (sym (length_node w.nodes n q)) room.few);
    lines = subst (λ (c : Script). length c.lines ≤ 4096) (sym script) room.lines;
    places = subst (λ (c : Script). decided (happens w n me e).nodes + living (happens w n me e).history c.nodes ≤ spare') (sym script)
        (subst (λ (k : ℕ). decided (happens w n me e).nodes + k ≤ spare') (sym live)
        (subst (λ (ns : List NodeState). decided ns + lives ≤ spare') (sym nodes) (from_counts (decided (set_node w.nodes n q)) (weight me) (decided w.nodes) lives (weight q) spare' (decided_set w.nodes n me q r.at) le)));
  })

  pub lock_room : (name : LockName) (mode : Mode) (spare : ℕ) → HasRoom w spare → (new : Plain) → new ≡ happen w n (event.Lock name mode) → HasRoom new spare
  lock_room name mode spare room new is = room_after (event.Lock name mode) (turned (locking me name mode)) spare spare refl refl refl (same_room needed spare (weight me) room.places) room new is

  pub look_room : (name : LockName) (lbn : ℕ) (spare : ℕ) → HasRoom w spare → (new : Plain) → new ≡ happen w n (event.Look name lbn) → HasRoom new spare
  look_room name lbn spare room new is =
      room_after (event.Look name lbn) (turned (caching (cache_looked w n me name lbn) (looking me lbn (block_at w.blocks lbn)))) spare spare refl refl refl (same_room needed spare (weight me) room.places) room new is

  pub use_room : (name : LockName) (lbn : ℕ) (spare : ℕ) → HasRoom w spare → (new : Plain) → new ≡ happen w n (event.Use name lbn) → HasRoom new spare
  use_room name lbn spare room new is =
      room_after (event.Use name lbn) (turned (caching (cache_used w me name lbn) (using me lbn (block_used w me name lbn)))) spare spare refl refl refl (same_room needed spare (weight me) room.places) room new is

  pub fetch_room : (lbn : ℕ) (spare : ℕ) → HasRoom w spare → (new : Plain) → new ≡ happen w n (event.Fetch lbn) → HasRoom new spare
  fetch_room lbn spare room new is = room_after (event.Fetch lbn) (turned (looking me lbn (block_at w.blocks lbn))) spare spare refl refl refl (same_room needed spare (weight me) room.places) room new is

  pub write_room : (v : PlanWrite) (spare : ℕ) → HasRoom w spare → (new : Plain) → new ≡ happen w n (event.Write v) → HasRoom new spare
  write_room v spare room new is = room_after (event.Write v) (turned (caching (cache_written w me v) (writing me))) spare spare refl refl refl (same_room needed spare (weight me) room.places) room new is

  pub plan_room : (p : Plan) (spare spare' : ℕ) → me.plan ≡ None → 16 ≤ spare' → HasRoom w spare → (new : Plain) → new ≡ happen w n (event.Plan p) → HasRoom new spare'
  plan_room p spare spare' none wide room new is = subst (λ (v : Plain). HasRoom v spare') (sym (is ∙ sym (happen_here w n me (event.Plan p) r.at))) (record {
    few = subst (λ (k : ℕ). k ≤ 8) (sym (length_node w.nodes n (turned (planning me p)))) room.few;
    lines = room.lines;
    places = (let a = decided_few (set_node w.nodes n (turned (planning me p))) in let b = length_node w.nodes n (turned (planning me p)) in let few = room.few in let count = good.counted in omega arith);
  })

  pub answer_room : (x : Cmd) (a : Reply) (spare spare' : ℕ) → is_some me.plan ≡ true → spare' + 1 ≡ spare → HasRoom w spare → (new : Plain) → new ≡ happen w n (event.Answer x a) → HasRoom new spare'
  answer_room x a spare spare' made less room new is = room_after (event.Answer x a) (turned (answering me x a)) spare spare' refl refl (ap (λ k. w.script.nodes - k) (answers_left w.history n x a w.script.nodes))
      (subst (λ (t : Bool). needed + 0 ≤ spare' + cond t 1 0) (sym made) (answered_counts needed spare spare' less room.places)) room new is where
        answered_counts : (d s s' : ℕ) → s' + 1 ≡ s → d ≤ s → d + 0 ≤ s' + 1
        answered_counts d s s' e le = omega arith

  pub ask_room : (x : Cmd) (a : PlanAsk) (spare : ℕ) → would_go w.locks n a ≡ true → HasRoom w spare → (new : Plain) → new ≡ happen w n (event.Ask x a) → HasRoom new spare
  ask_room x a spare goes room new is = room_after (event.Ask x a) (turned (asking me a)) spare spare (ap (λ b. (asked_by w n me x a b).script) goes) (ap (λ b. (asked_by w n me x a b).nodes) goes)
      (ap (λ b. living (asked_by w n me x a b).history w.script.nodes) goes) (same_room needed spare (weight me) room.places) room new is

  -- what an ask that is granted answers
  pub ask_told : (a : PlanAsk) → would_go w.locks n a ≡ true → (new : Plain) → new ≡ happen w n (event.Ask r.cmd a) → told new n (event.Ask r.cmd a) ≡ turn.Moved kind.Tried
  ask_told a goes new e =
      let there : command_at new n ≡ Some r.cmd = ap (λ v. command_at v n) (e ∙ sym (happen_here w n me (event.Ask r.cmd a) r.at) ∙ ap (asked_by w n me r.cmd a) goes) ∙ ap command_in (at_here w.nodes n (turned (asking me a)) me r.at) ∙ r.has in
      ap (λ o. cond (is_some o) (turn.Moved kind.Tried) turn.Answered) there

  -- what a request answers
  pub lock_told : plan_at w n ≡ None → (name : LockName) (mode : Mode) → IsNext r.cmd me.seen (need.Lock name mode) → (t : Bool) → taken_now name (system_of n) mode w.locks ≡ t
      → (new : Plain) → new ≡ happen w n (event.Lock name mode) → told new n (event.Lock name mode) ≡ cond (not t) turn.Waiting (turn.Moved kind.Locked)
  lock_told none name mode is t goes new e =
      let q : NodeState = turned (locking me name mode) in
      let v : Plain = happens w n me (event.Lock name mode) in
      let there : node_at v.nodes n ≡ Some q = at_here w.nodes n q me r.at in
      let queued : is_queued_in v n (node_at v.nodes n) ≡ not t = ap (is_queued_in v n) there ∙ lock_waits good r none name mode is ∙ ap not goes in
      ap (λ y. told y n (event.Lock name mode)) (e ∙ sym (happen_here w n me (event.Lock name mode) r.at)) ∙ ap (λ b. cond b turn.Waiting (turn.Moved kind.Locked)) queued

  -- and what a write leaves of the drive
  pub write_leaves : (v : PlanWrite) → (happen w n (event.Write v)).blocks ≡ slice_set w.blocks v.lbn v.block
  write_leaves v = sym (ap (λ (y : Plain). y.blocks) (happen_here w n me (event.Write v) r.at))

-- ---- the item that tells the node

none_at : {A : Type 0} (xs : List A) (k : ℕ) → length xs ≤ k → slice_get xs k ≡ None
none_at [] k over = refl
none_at (x ∷ xs) zero over = absurd (omega arith)
none_at (x ∷ xs) (suc k) over = none_at xs k (omega arith)

granted_goes : (t : Bool) → asked_answer t ≡ locked_so.Granted → t ≡ true
granted_goes true e = refl
granted_goes false e = absurd (let f : locked_so.Queued ≡ locked_so.Granted = e in cc)

queued_goes : (t : Bool) → asked_answer t ≡ locked_so.Queued → t ≡ false
queued_goes true e = absurd (let f : locked_so.Granted ≡ locked_so.Queued = e in cc)
queued_goes false e = refl

pub goes_granted : (t : Bool) (a : Asked) → a ≡ asked_answer t → a ≡ locked_so.Granted → t ≡ true
goes_granted t a e g = granted_goes t (sym e ∙ g)

pub goes_queued : (t : Bool) (a : Asked) → a ≡ asked_answer t → a ≡ locked_so.Queued → t ≡ false
goes_queued t a e q = queued_goes t (sym e ∙ q)

-- the item d tells the node that goes on
pub record IsItem {O : Type 0} (cmd_is : O → Cmd) {w : Plain} {n : ℕ} (r : IsReady w n) (d : Node O) : Type 0 where
  pub at : node_at w.nodes n ≡ Some (state_of cmd_is d)

pub item_of : {O : Type 0} (cmd_is : O → Cmd) (xs : List (Node O)) {w : Plain} {n : ℕ} (r : IsReady w n) (d : Node O) → w.nodes ≡ map (state_of cmd_is) xs → IsOfWorld w n → d ≡ slice_index_or xs (n - 1) d → IsItem cmd_is r d
item_of cmd_is xs {w} {n} r d nodes node is = record {
  at = ap (λ ns. node_at ns n) nodes ∙ told_at (state_of cmd_is) xs n d node.from (subst (λ (ns : List NodeState). n ≤ length ns) nodes node.to) is;
}

module _ {O : Type 0} {cmd_is : O → Cmd} {w : Plain} {n : ℕ} {r : IsReady w n} {d : Node O} (it : IsItem cmd_is r d) where
  pub tells : state_of cmd_is d ≡ r.state
  tells = let f : Some (state_of cmd_is d) ≡ Some r.state = sym it.at ∙ r.at in cc

  -- any node of the number is this one
  pub one_node : (q : NodeState) → node_at w.nodes n ≡ Some q → state_of cmd_is d ≡ q
  one_node q at = let f : Some (state_of cmd_is d) ≡ Some q = sym it.at ∙ at in cc

  -- it has a plan, or none
  pub item_plan : (o : Option Plan) → d.plan ≡ o → plan_at w n ≡ o
  item_plan o e = ap plan_in it.at ∙ e

  pub op_is : option_map cmd_is d.op ≡ Some r.cmd
  op_is = ap (λ y. y.cmd) tells ∙ r.has

  pub op_there : IsSome d.op
  op_there = is_there cmd_is d.op (ap is_some op_is)

  pub op_fits : Good w → IfSome d.op (λ op. FitsSeen (cmd_is op) d.seen)
  op_fits good = fits_told cmd_is d.op r.cmd d.seen op_is (subst (λ (y : NodeState). FitsSeen r.cmd y.seen) (sym tells) (fits good r))

  pub op_need : (next : Need) → IfSome d.op (λ op. need_of (cmd_is op) d.seen ≡ next) → IsNext r.cmd r.state.seen next
  op_need next e = subst (λ (y : NodeState). need_of r.cmd y.seen ≡ next) tells (need_told cmd_is d.op r.cmd d.seen next op_is e)

  pub item_geometry : Good w → IsGeometry d.seen.geometry
  item_geometry good = subst (λ (y : NodeState). IsGeometry y.seen.geometry) (sym tells) (has_geometry good r)

  pub plan_now : (p : Plan) → d.plan ≡ Some p → r.state.plan ≡ Some p
  plan_now p e = sym (ap (λ y. y.plan) tells) ∙ e

  pub no_plan_now : d.plan ≡ None → IsSome (plan_at w n) → ⊥
  no_plan_now e some =
      let none : plan_at w n ≡ None = item_plan None e in
      let f : false ≡ true = sym (ap is_some none) ∙ some in
      absurd (cc)

  pub next_now : (p : Plan) (ws : List PlanWrite) (v : PlanWrite) → ws ≡ writes_by p.ask d.tried p.writes → d.done < length ws → v ≡ slice_index_or ws d.done v → slice_get (writes_by p.ask r.state.tried p.writes) r.state.done ≡ Some v
  next_now p ws v same lt e = subst (λ (y : NodeState). slice_get (writes_by p.ask y.tried p.writes) y.done ≡ Some v) tells (subst (λ (vs : List PlanWrite). slice_get vs d.done ≡ Some v) same (some_at ws d.done v lt e))

  pub last_now : (p : Plan) (ws : List PlanWrite) → ws ≡ writes_by p.ask d.tried p.writes → length ws ≤ d.done → slice_get (writes_by p.ask r.state.tried p.writes) r.state.done ≡ None
  last_now p ws same over = subst (λ (y : NodeState). slice_get (writes_by p.ask y.tried p.writes) y.done ≡ None) tells (subst (λ (us : List PlanWrite). slice_get us d.done ≡ None) same (none_at ws d.done over))

  -- the ask that it tells is the node's
  pub item_aim : (t : List Resource) (p : Plan) (o : Option Aim) → o ≡ option_map aim_of (going_ask t n d.tried p.ask) → o ≡ option_map aim_of (going_ask t n r.state.tried p.ask)
  item_aim t p o e = e ∙ ap (λ (y : NodeState). option_map aim_of (going_ask t n y.tried p.ask)) tells

module _ {w : Plain} (good : Good w) {n : ℕ} (r : IsReady w n) where
  pub tried_is : tried_at w n ≡ r.state.tried
  tried_is = ap tried_in r.at

  pub plan_is : (p : Plan) → r.state.plan ≡ Some p → plan_at w n ≡ Some p
  plan_is p e = ap plan_in r.at ∙ e

  pub place_kept : (p : Plan) → r.state.plan ≡ Some p → (spare : ℕ) → HasRoom w spare → 0 < spare
  place_kept p plan spare room = let one = has_decided w.nodes n r.state r.at (ap is_some plan) in let le = room.places in omega arith

-- an aim is that of an ask
pub record IsAimed (o : Option PlanAsk) (aim : Aim) : Type 0 where
  pub made : PlanAsk
  pub is : o ≡ Some made
  pub same : aim ≡ aim_of made

pub aimed : (o : Option PlanAsk) (aim : Aim) → option_map aim_of o ≡ Some aim → IsAimed o aim
aimed None aim e = absurd (let f : None ≡ Some aim = e in cc)
aimed (Some a) aim e =
    let f : Some (aim_of a) ≡ Some aim = e in
    let g : aim_of a ≡ aim = cc in
    record { made = a; is = refl; same = sym g }

pub aims_none : (o : Option PlanAsk) → option_map aim_of o ≡ None → o ≡ None
aims_none None e = refl
aims_none (Some a) e = absurd (let f : Some (aim_of a) ≡ None = e in cc)

-- an ask that has the aim of one that would be granted would be too
pub same_aim : (t : List Resource) (n : ℕ) (a b : PlanAsk) → aim_of a ≡ aim_of b → would_go t n a ≡ true → would_go t n b ≡ true
same_aim t n a b e goes = ap (λ (k : Aim). taken_now (A k.file) (record { node = n; part = k.chan }) k.mode t) (sym e) ∙ goes

pub none_of : {A : Type 0} (o : Option A) → is_some o ≡ false → o ≡ None
none_of None e = refl
none_of (Some a) e = absurd (let f : true ≡ false = e in cc)
