-- What is known of a node that begins a command.
use Rattle.std.proofs.Common.{◌≡◌, ◌≤◌, ◌-◌, ◌++◌, ◌||◌, ◌⊎◌, ℕ, Bool, true, false, cond, List, Option, Some, None, Result, Ok, Err, length, map, slice_set, refl, sym, ap, subst, ◌∙◌, inl, inr}
use Rattle.std.specs.Prelude.{◌&&◌, not, slice_index_or, option_map, is_some, is_none, OnOk}
use Rattle.lock_db.specs.declared.name.LockName.TheVariants.{X, V}
use Rattle.plain_cat.specs.declared.command.Cmd.{Cmd}
use Rattle.plain_cat.specs.declared.mode.Mode.TheVariants.{CR, PW}
use Rattle.plain_rules.specs.Own.{next_command}
use Rattle.node_locks.specs.Held.{waits_at}
use Rattle.op_law.specs.declared.need.Need.{Need}
use Rattle.op_law.specs.declared.need.Need.TheVariants as need
use Rattle.op_law.specs.declared.need.Plan.{Plan}
use Rattle.op_law.specs.Needs.{need_of}
use Rattle.op_law.specs.Laws.{Lawful}
use Rattle.extent_cache.specs.Takings.{holds_enough}
use Rattle.core_space.specs.declared.run.Phase.{Phase}
use Rattle.core_space.specs.declared.run.Phase.TheVariants as phase
use Rattle.core_space.specs.declared.run.SpaceRun.{SpaceRun}
use Rattle.core_space.specs.declared.event.SpaceEvent.TheVariants as space
use Rattle.core_space.specs.Rule.{is_due, is_shared, is_writer, fill_event, event_in, space_event, next_fill, written_first, after_looks}
use Rattle.core_state.specs.Worlds.{NodeState, Plain, node_at, with_node, current, or_next, state_of}
use Rattle.core_state.specs.Asks.{has_asked}
use Rattle.core_state.specs.Channels.{channel_now}
use Rattle.core_state.specs.Stocks.{roomless}
use Rattle.core_state.specs.Searches.{IsOff, Spaces}
use Rattle.core_state.specs.Goods.{HasCommand, IsNode, Good, HasRoom}
use Rattle.core_state.specs.Event.{Event}
use Rattle.core_state.specs.Event as event
use Rattle.core_state.specs.Events.{mode_in, space_locks, space_state, space_need, phase_begun, by_rule, serves, serving, served_for, served_by, served, is_out, is_ended, is_wanted, gives_back_in, gives_back, stands, is_held_up, by_back, by_need, by_plan, by_command, by_turn, event_of, event_now, next_event, prepared, readied, begun, or_use, happen, after_turn}
use Rattle.core_state.specs.declared.node.Node.{Node}
use Rattle.core_state.proofs.Naming.{none_of}
use Rattle.core_state.proofs.Nodes.{at_here, set_node_twice}
use Rattle.core_state.proofs.Turning.{under_command}
use Rattle.core_state.proofs.Claiming.{mine}
use Rattle.core_state.proofs.Comes.{v_low}
use Rattle.core_state.proofs.Standing.{at_rest_so}
use Rattle.core_state.proofs.Beginning.{begins}
use Rattle.core_state.proofs.Preparing.{rests_prepared, has_prepared, begins_prepared, readied_is, readied_same}
use Rattle.core_step.specs.Ready.{Makes, IsBegun, Begins, forgotten}
use Rattle.core_step.specs.Giving.{MayLeaveAll}
use Rattle.core_step.specs.Memory.{takes_none}
use Rattle.core_state.proofs.Leaving.{leaves_may}
use Rattle.core_step.proofs.Caching.{takes_or_use}
use Rattle.core_step.proofs.Ready.{may_leave_each}
use Rattle.core_step.proofs.Steps.{happen_here}
use Rattle.core_step.proofs.Setting.{set_so, reset_so, set_room, reset_room}

or_true : (g : Bool) → (g || true) ≡ true
or_true true = refl
or_true false = refl

-- ---- which event comes

module _ (w : Plain) (n : ℕ) (s : NodeState) (at : node_at w.nodes n ≡ Some s) where
  -- of a node that prepares nothing
  makes_now : (k : Event) → prepared w n s ≡ s → event_of w n (Some s) ≡ k → Makes w n k
  makes_now k same is = let stays : readied w n ≡ w = readied_same w n s at same in record { event = ap (λ v. event_now v n) stays ∙ ap (event_of w n) at ∙ is; stays = stays }

  pub rests : is_out s ≡ true → Makes w n event.Rest
  rests out = makes_now event.Rest (rests_prepared w n s (ap (λ t. t || (gives_back w n s || stands w n s)) out)) (ap (λ t. cond t event.Rest (cond (stands w n s) event.Stand (or_use w s (by_turn s (gives_back w n s))))) out)

  pub stands_still : is_out s ≡ false → stands w n s ≡ true → Makes w n event.Stand
  stands_still on waits = makes_now event.Stand (rests_prepared w n s ((λ i. on i || (gives_back w n s || waits i)) ∙ or_true (gives_back w n s))) (λ i. cond (on i) event.Rest (cond (waits i) event.Stand (or_use w s (by_turn s (gives_back w n s)))))

  pub gives_so : is_out s ≡ false → stands w n s ≡ false → gives_back w n s ≡ true → Makes w n (or_use w s (by_back s))
  gives_so on still gives = makes_now (or_use w s (by_back s)) (rests_prepared w n s (λ i. on i || (gives i || stands w n s))) (λ i. cond (on i) event.Rest (cond (still i) event.Stand (or_use w s (by_turn s (gives i)))))

  pub leaves : is_out s ≡ false → stands w n s ≡ false → gives_back w n s ≡ false → s.cmd ≡ None → next_command w.script n w.history ≡ None → Makes w n event.Leave
  leaves on still keeps_it idle none =
      makes_now event.Leave (begins_prepared w n s None (λ i. on i || (keeps_it i || still i)) idle none ∙ ap (λ o. served_by s o s.plan) idle)
      ((λ i. cond (on i) event.Rest (cond (still i) event.Stand (or_use w s (by_turn s (keeps_it i))))) ∙ ap (λ o. or_use w s (by_command s o)) idle)

  -- a turn in which nothing happens is one of a node that is over
  pub rests_so : happen w n event.Stand ≡ happen w n event.Rest
  rests_so = sym (happen_here w n s event.Stand at) ∙ happen_here w n s event.Rest at

  -- and so is one in which the rules for space do not go on
  pub ends_so : happen w n event.Stand ≡ happen w n event.SpaceEnd
  ends_so = sym (happen_here w n s event.Stand at) ∙ happen_here w n s event.SpaceEnd at

-- the locks that it keeps go back as it leaves
pub leaves_can : (w : Plain) (good : Good w) (n : ℕ) (s : NodeState) → node_at w.nodes n ≡ Some s → is_out s ≡ false → s.cmd ≡ None → next_command w.script n w.history ≡ None → gives_back w n s ≡ false → MayLeaveAll n s.kept w.locks
leaves_can w good n s at on idle none keeps_it = may_leave_each n s.kept w.locks (leaves_may w good n s at on idle none keeps_it)

-- ---- a command begins

module _ (w : Plain) (good : Good w) (n : ℕ) (x : Cmd) (b : Begins w n x) where
  abbrev s : NodeState
  s = b.state

  abbrev w1 : Plain
  w1 = with_node w n (begun s x)

  node : IsNode w n s
  node = good.nodes n s b.at

  idle_so : HasCommand w n s None
  idle_so = subst (HasCommand w n s) b.idle node.command

  no_plan : s.plan ≡ None
  no_plan = idle_so.plan

  no_channel : s.seen.channel ≡ None
  no_channel = node.channel ∙ ap (channel_now s.opens) b.idle

  off : IsOff s.claims s.run s.seen
  off = elim (at_rest_so s.kept s.claims s.run s.stock s.seen (subst (λ (o : Option Cmd). Spaces o s.kept s.claims s.run s.stock s.seen) b.idle node.space)) [
    | inl h ↦ h
    | inr h ↦ absurd (let z : true ≡ false = sym (ap (gives_back_in w n s) h.back) ∙ b.gives in cc)
  ]

  off_phase : s.run.phase ≡ phase.Off
  off_phase = ap (λ (r : SpaceRun). r.phase) off.run

  free : waits_at w.locks n s.asked ≡ false
  free = ap (waits_at w.locks n) idle_so.asked

  still : stands w n s ≡ false
  still = λ i. b.granted i || (not (b.gives i) && free i)

  held : is_held_up w n s ≡ false
  held = λ i. b.on i || (b.gives i || still i)

  pub at_begun : node_at w1.nodes n ≡ Some (begun s x)
  at_begun = at_here w.nodes n (begun s x) s b.at

  gives_begun : gives_back w1 n (begun s x) ≡ false
  gives_begun =
      ap (gives_back_in w1 n (begun s x)) off_phase
      ∙ ap (λ e. is_due (space_locks s) (roomless s.stock) (is_wanted w n) (has_asked V s.asked) e) (sym ended)
      ∙ ap (gives_back_in w n s) (sym off_phase) ∙ b.gives where
        ended : is_ended w n s ≡ false
        ended = λ i. is_none (or_next (b.idle i) (b.next i))

  pub begun_now : IsBegun w1 n
  begun_now = record { state = begun s x; at = at_begun; cmd = x; has = refl; on = b.on; gives = gives_begun; free = free; granted = b.granted }

  pub room_begun : (spare : ℕ) → HasRoom w spare → HasRoom w1 spare
  room_begun spare room = set_room w n s (begun s x) b.at refl spare room

  -- its turn is that of the node with the command
  same_world : readied w1 n ≡ readied w n
  same_world =
      readied_is w1 n (begun s x) (served (begun s x)) at_begun (has_prepared w1 n (begun s x) x (λ i. b.on i || (gives_begun i || (b.granted i || (not (gives_begun i) && free i)))) refl)
      ∙ ap (λ ns. record w { nodes = ns }) (set_node_twice w.nodes n (begun s x) (served (begun s x)))
      ∙ sym (readied_is w n s (served (begun s x)) b.at (begins_prepared w n s (Some x) held b.idle b.next))

  pub same_event : next_event w1 n ≡ next_event w n
  same_event = ap (λ v. event_now v n) same_world

  pub same_turn : after_turn w1 n ≡ after_turn w n
  same_turn = ap (λ v. happen v n (event_now v n)) same_world

  -- without the command the node is as it was
  pub back : forgotten (begun s x) ≡ s
  back = λ i. record s { cmd = sym b.idle i; seen = record s.seen { channel = sym no_channel i } }

  pub room_back : (spare : ℕ) → HasRoom w1 spare → HasRoom w spare
  room_back spare room = reset_room w n s (begun s x) b.at refl spare room

  -- an item that tells the node with its command, and forgets it
  pub forget_so : {A : Type 0} (f : A → NodeState) (xs : List A) (v : Plain) (e d : A) → v.nodes ≡ map f xs → v ≡ w1 → 1 ≤ n → n ≤ length w.nodes → e ≡ slice_index_or xs (n - 1) e → f d ≡ forgotten (f e)
      → record v { nodes = map f (slice_set xs (n - 1) d) } ≡ w
  forget_so f xs v e d told same from to is forgot = reset_so w n s (begun s x) b.at f xs v e d told same from to is (λ mine. forgot ∙ ap forgotten mine ∙ back)

  -- an item that tells the node, and has begun the command
  pub begun_so : {A : Type 0} (f : A → NodeState) (xs : List A) (e d : A) → w.nodes ≡ map f xs → 1 ≤ n → n ≤ length (map f xs) → e ≡ slice_index_or xs (n - 1) e → f d ≡ begun (f e) x → record w { nodes = map f (slice_set xs (n - 1) d) } ≡ w1
  begun_so f xs e d told from to is begins = set_so w n s (begun s x) b.at f xs e d told from to is (λ mine. begins ∙ ap (λ y. begun y x) mine)

  -- ---- it may take memory

  -- of a node whose rules for space are at their beginning
  module _ (q : NodeState) (first : (q.run.phase ≡ phase.Off) ⊎ (q.run.phase ≡ phase.Fill)) (same_kept : q.kept ≡ s.kept) (same_claims : q.claims ≡ s.claims) where
    low : is_writer (mode_in V (q.kept ++ q.claims)) ≡ false
    low = (λ i. is_writer (mode_in V (same_kept i ++ same_claims i))) ∙ v_low w good n s b.at (mine w good n s b.at b.on).once (λ m h. none_of s.claims (V, m) off.claims h)

    by_fill : (p : Phase) (k : ℕ) (c : Bool) (a : Bool) → is_shared (space_locks q).x ≡ a → takes_none w.locks n (by_rule q p (space_need k c) (fill_event (space_state q) (space_need k c))) ≡ false
    by_fill p k c false e = ap (λ t. takes_none w.locks n (by_rule q p (space_need k c) (cond (not t) (space.Ask X CR) (cond (not (is_writer (space_locks q).v)) (space.Ask V PW) (written_first q.run (after_looks (next_fill (space_state q) (space_need k c)) space.LowerV)))))) e
    by_fill p k c true e = (λ i. takes_none w.locks n (by_rule q p (space_need k c) (cond (not (e i)) (space.Ask X CR) (cond (not (low i)) (space.Ask V PW) (written_first q.run (after_looks (next_fill (space_state q) (space_need k c)) space.LowerV))))))

    by_test : (p : Phase) (k : ℕ) (c : Bool) (t : Bool) → takes_none w.locks n (by_rule q p (space_need k c) (cond t space.Enough (fill_event (space_state q) (space_need k c)))) ≡ false
    by_test p k c true = refl
    by_test p k c false = by_fill p k c (is_shared (space_locks q).x) refl

    by_phase : (p : Phase) → (p ≡ phase.Off) ⊎ (p ≡ phase.Fill) → (k : ℕ) (c : Bool) → takes_none w.locks n (by_rule q (phase_begun p) (space_need k c) (event_in p (space_state q) (space_need k c))) ≡ false
    by_phase p (inl e) k c = subst (λ (h : Phase). takes_none w.locks n (by_rule q (phase_begun h) (space_need k c) (event_in h (space_state q) (space_need k c))) ≡ false) (sym e) (by_test phase.Fill k c (holds_enough k c (space_state q).stock))
    by_phase p (inr e) k c = subst (λ (h : Phase). takes_none w.locks n (by_rule q (phase_begun h) (space_need k c) (event_in h (space_state q) (space_need k c))) ≡ false) (sym e) (by_fill phase.Fill k c (is_shared (space_locks q).x) refl)

    by_serves : (k : ℕ) (c : Bool) (t : Bool) → takes_none w.locks n (cond t event.SpaceEnd (by_rule q (phase_begun q.run.phase) (space_need k c) (space_event (space_state q) (space_need k c)))) ≡ false
    by_serves k c true = refl
    by_serves k c false = by_phase q.run.phase first k c

    by_next : (nd : Need) → takes_none w.locks n (by_need q nd) ≡ false
    by_next (need.Lock name mode) = refl
    by_next (need.Block name lbn) = refl
    by_next (need.Bare lbn) = refl
    by_next (need.Space k c) = by_serves k c (serves q k c)
    by_next (need.Ready p) = refl

  -- the node that has prepared
  abbrev EventBy : NodeState → Type 0
  EventBy q = takes_none w.locks n (event_of (with_node w n q) n (Some q)) ≡ false

  begun_event : EventBy (begun s x)
  begun_event =
      (λ i. takes_none w.locks n (cond (b.on i) event.Rest (cond (b.granted i || (not (gives_begun i) && free i)) event.Stand (or_use w1 (begun s x) (by_turn (begun s x) (gives_begun i))))))
      ∙ ap (λ o. takes_none w.locks n (or_use w1 (begun s x) (by_plan x (begun s x) o))) no_plan
      ∙ takes_or_use w.locks n w1 (begun s x) (by_need (begun s x) (need_of x (begun s x).seen)) ∙ by_next (begun s x) (inl off_phase) refl refl (need_of x (begun s x).seen)

  served_event : (k : ℕ) (c : Bool) → EventBy (serving (begun s x) k c)
  served_event k c =
      let q : NodeState = serving (begun s x) k c in
      let v : Plain = with_node w n q in
      (λ i. takes_none w.locks n (cond (b.on i) event.Rest (cond (b.granted i || free i) event.Stand (or_use v q (by_command q (Some x))))))
      ∙ ap (λ o. takes_none w.locks n (or_use v q (by_plan x q o))) no_plan
      ∙ takes_or_use w.locks n v q (by_need q (need_of x q.seen)) ∙ by_next (serving (begun s x) k c) (inr refl) refl refl (need_of x (serving (begun s x) k c).seen)

  by_test_event : (k : ℕ) (c : Bool) (t : Bool) → EventBy (cond t (serving (begun s x) k c) (begun s x))
  by_test_event k c true = served_event k c
  by_test_event k c false = begun_event

  by_need_event : (nd : Need) → EventBy (served_for (begun s x) nd)
  by_need_event (need.Lock name mode) = begun_event
  by_need_event (need.Block name lbn) = begun_event
  by_need_event (need.Bare lbn) = begun_event
  by_need_event (need.Space k c) = by_test_event k c (serves (begun s x) k c)
  by_need_event (need.Ready p) = begun_event

  by_plan_event : (o : Option Plan) → o ≡ None → EventBy (served_by (begun s x) (Some x) o)
  by_plan_event None e = by_need_event (need_of x (begun s x).seen)
  by_plan_event (Some p) e = absurd (let f : Some p ≡ None = e in cc)

  pub idle_takes : takes_none w.locks n (next_event w n) ≡ false
  idle_takes =
      ap (λ v. takes_none w.locks n (event_now v n)) (readied_is w n s (served (begun s x)) b.at (begins_prepared w n s (Some x) held b.idle b.next))
      ∙ ap (λ o. takes_none w.locks n (event_of (with_node w n (served (begun s x))) n o)) (at_here w.nodes n (served (begun s x)) s b.at)
      ∙ by_plan_event s.plan no_plan

  pub good_begun : Lawful x → Good w1
  good_begun law = begins w good n s b.at x b.idle b.on off b.next law

has_begun : (w : Plain) (n : ℕ) (s : NodeState) → node_at w.nodes n ≡ Some s → is_out s ≡ false → gives_back w n s ≡ false → waits_at w.locks n s.asked ≡ false → waits_at w.locks n s.claims ≡ false → (o : Option Cmd) → s.cmd ≡ o → is_some o ≡ true → IsBegun w n
has_begun w n s at on gives free granted None e some = absurd (let f : false ≡ true = some in cc)
has_begun w n s at on gives free granted (Some x) e some = record { state = s; at = at; cmd = x; has = e; on = on; gives = gives; free = free; granted = granted }

told_some : {A B : Type 0} (f : A → B) (o : Option A) → is_some (option_map f o) ≡ is_some o
told_some f None = refl
told_some f (Some a) = refl

told_none : {A B : Type 0} (f : A → B) (o : Option A) → is_some o ≡ false → option_map f o ≡ None
told_none f None e = refl
told_none f (Some a) e = absurd (let g : true ≡ false = e in cc)

-- where no request of a node stands
pub not_standing : (a g b : Bool) → g ≡ false → (a || (not g && b)) ≡ false → (a ≡ false) × (b ≡ false)
not_standing true g b f e = absurd (let z : true ≡ false = e in cc)
not_standing false true b f e = absurd (let z : true ≡ false = f in cc)
not_standing false false b f e = (refl, e)

pub not_claimed : (w : Plain) (n : ℕ) (s : NodeState) → stands w n s ≡ false → waits_at w.locks n s.claims ≡ false
not_claimed w n s still = first (waits_at w.locks n s.claims) (not (gives_back w n s) && waits_at w.locks n s.asked) still where
  first : (a b : Bool) → (a || b) ≡ false → a ≡ false
  first true b e = absurd (let z : true ≡ false = e in cc)
  first false b e = refl

-- a node whose item has an operation has begun its command
pub item_begun : {O : Type 0} (cmd_is : O → Cmd) (w : Plain) (n : ℕ) (d : Node O) → node_at w.nodes n ≡ Some (state_of cmd_is d) → is_out (state_of cmd_is d) ≡ false → gives_back w n (state_of cmd_is d) ≡ false → stands w n (state_of cmd_is d) ≡ false → true ≡ is_some d.op → IsBegun w n
item_begun cmd_is w n d at on gives still some =
    let its = not_standing (waits_at w.locks n d.claims) (gives_back w n (state_of cmd_is d)) (waits_at w.locks n d.asked) gives still in
    has_begun w n (state_of cmd_is d) at on gives its.1 its.0 (option_map cmd_is d.op) refl (told_some cmd_is d.op ∙ sym some)

pub item_idle : {O : Type 0} (cmd_is : O → Cmd) (d : Node O) → false ≡ is_some d.op → (state_of cmd_is d).cmd ≡ None
item_idle cmd_is d none = told_none cmd_is d.op (sym none)

-- the command of a node that has begun it obeys the law
pub lawful_now : (w : Plain) (good : Good w) (n : ℕ) (r : IsBegun w n) (s : NodeState) (x : Cmd) → node_at w.nodes n ≡ Some s → current w n s ≡ Some x → Lawful x
lawful_now w good n r s x at now =
    let f : Some r.state ≡ Some s = sym r.at ∙ at in
    let h : r.state ≡ s = cc in
    let c : s.cmd ≡ Some r.cmd = ap (λ y. y.cmd) (sym h) ∙ r.has in
    let e : Some r.cmd ≡ Some x = sym (ap (λ o. or_next o (next_command w.script n w.history)) c) ∙ now in
    let k : r.cmd ≡ x = cc in
    subst (λ (y : Cmd). Lawful y) k (under_command w good n r.state r.at r.cmd r.has r.free).lawful

-- and so does one that begins
pub lawful_begun : (w : Plain) (n : ℕ) (x : Cmd) (b : Begins w n x) → Lawful x → (s : NodeState) (y : Cmd) → node_at w.nodes n ≡ Some s → current w n s ≡ Some y → Lawful y
lawful_begun w n x b law s y at now =
    let f : Some b.state ≡ Some s = sym b.at ∙ at in
    let h : b.state ≡ s = cc in
    let c : s.cmd ≡ None = ap (λ z. z.cmd) (sym h) ∙ b.idle in
    let e : Some x ≡ Some y = sym b.next ∙ sym (ap (λ o. or_next o (next_command w.script n w.history)) c) ∙ now in
    let k : x ≡ y = cc in
    subst (λ (z : Cmd). Lawful z) k law

-- what is asked of a node that goes on is not asked of one that is held up
pub lawful_held : (w : Plain) (n : ℕ) (s : NodeState) → node_at w.nodes n ≡ Some s → is_held_up w n s ≡ true → (q : NodeState) (x : Cmd) → node_at w.nodes n ≡ Some q → is_held_up w n q ≡ false → Lawful x
lawful_held w n s at held q x there calm =
    let f : Some s ≡ Some q = sym at ∙ there in
    let h : s ≡ q = cc in
    let g : true ≡ false = sym held ∙ ap (is_held_up w n) h ∙ calm in
    absurd (cc)

pub held_out : (w : Plain) (n : ℕ) (s : NodeState) → is_out s ≡ true → is_held_up w n s ≡ true
held_out w n s e = ap (λ t. t || (gives_back w n s || stands w n s)) e

pub held_still : (w : Plain) (n : ℕ) (s : NodeState) → stands w n s ≡ true → is_held_up w n s ≡ true
held_still w n s e = ap (λ t. is_out s || (gives_back w n s || t)) e ∙ ap (λ t. is_out s || t) (or_true (gives_back w n s)) ∙ or_true (is_out s)

pub held_giving : (w : Plain) (n : ℕ) (s : NodeState) → gives_back w n s ≡ true → is_held_up w n s ≡ true
held_giving w n s e = ap (λ t. is_out s || (t || stands w n s)) e ∙ or_true (is_out s)

pub lawful_left : (w : Plain) (n : ℕ) (s : NodeState) → node_at w.nodes n ≡ Some s → s.cmd ≡ None → next_command w.script n w.history ≡ None → (q : NodeState) (x : Cmd) → node_at w.nodes n ≡ Some q → current w n q ≡ Some x → Lawful x
lawful_left w n s at idle none q x there now =
    let f : Some s ≡ Some q = sym at ∙ there in
    let h : s ≡ q = cc in
    let c : current w n s ≡ None = ap (λ o. or_next o (next_command w.script n w.history)) idle ∙ none in
    let g : None ≡ Some x = sym c ∙ ap (current w n) h ∙ now in
    absurd (cc)

pub always_ok : {A E : Type 0} (r : Result A E) (P : Type 0) → P → OnOk r P
always_ok (Ok a) P p = p
always_ok (Err e) P p = tt

-- a node without a command, for which there is one more, may take memory
pub more_takes : (w : Plain) (good : Good w) (n : ℕ) (s : NodeState) → node_at w.nodes n ≡ Some s → is_out s ≡ false → stands w n s ≡ false → gives_back w n s ≡ false → s.cmd ≡ None → is_some (next_command w.script n w.history) ≡ true → takes_none w.locks n (next_event w n) ≡ false
more_takes w good n s at on still gives idle some = by_line (next_command w.script n w.history) refl some where
  by_line : (o : Option Cmd) → next_command w.script n w.history ≡ o → is_some o ≡ true → takes_none w.locks n (next_event w n) ≡ false
  by_line None e t = absurd (let f : false ≡ true = t in cc)
  by_line (Some x) e t = idle_takes w good n x (record { state = s; at = at; idle = idle; on = on; gives = gives; granted = not_claimed w n s still; next = e })
