-- The event of a turn is read off the world after it.
use Rattle.std.proofs.Common.{◌≡◌, ◌+◌, ◌-◌, ◌++◌, ℕ, Bool, true, false, cond, List, [], ◌∷◌, Option, Some, None, length, slice_get, refl, sym, ap, ◌∙◌, arith}
use Rattle.std.specs.Prelude.{◌&&◌, not, nat_lt, is_some, codes}
use Rattle.base_words.specs.Fields.{Block, block_at}
use Rattle.lock_db.specs.declared.name.LockName.{LockName}
use Rattle.lock_db.specs.declared.name.LockName.TheVariants.{V}
use Rattle.lock_db.specs.declared.resource.Resource.{Resource}
use Rattle.plain_cat.specs.declared.mode.Mode.{Mode}
use Rattle.plain_cat.specs.declared.command.Cmd.{Cmd}
use Rattle.plain_cat.specs.declared.reply.Reply.{Reply}
use Rattle.plain_cat.specs.declared.reply.Refusal.{Refusal}
use Rattle.plain_cat.specs.declared.history.Entry.TheVariants.{Done}
use Rattle.node_locks.specs.Held.{waits_at}
use Rattle.op_law.specs.declared.need.PlanWrite.{PlanWrite}
use Rattle.op_law.specs.declared.need.Ask.{Ask as PlanAsk}
use Rattle.op_law.specs.declared.seen.Seen.{Seen}
use Rattle.core_space.specs.declared.run.Phase.{Phase}
use Rattle.core_state.specs.Worlds.{NodeState, Plain, node_at, with_node}
use Rattle.core_state.specs.Event.{Event}
use Rattle.core_state.specs.Event as event
use Rattle.core_state.specs.Events.{told_by, decision_on, turned, locking, claiming, caching, looking, using, space_looking, space_using, space_writing, writing, lowering, lowering_both, returning, planning, asking, answering, leaving, cache_looked, cache_used, cache_written, block_used, would_go, asked_by, answered_by, happens, happen_at, prepared, readied, event_of, event_now, next_event, after_turn, command_in, command_at}
use Rattle.core_state.proofs.Nodes.{at_here}
use Rattle.core_state.proofs.Preparing.{readied_is}
use Rattle.core_step.specs.declared.turns.Turn.{Turn}
use Rattle.core_step.specs.declared.turns.Turn.TheVariants as turn
use Rattle.core_step.specs.declared.turns.Kind.TheVariants as kind
use Rattle.core_step.specs.Turns.{told, is_queued_in, is_claim_queued_in}
use Rattle.run_trace.specs.declared.marks.Mark.{Mark}
use Rattle.run_trace.specs.Texts.{asked_text, answer_text, block_text, event_text}
use Rattle.run_trace.specs.Steps.{last_entry, turn_in, turn_text}
use Rattle.run_trace.specs.Reads.{mark_of, asked_or, last_asked, locked_read, waiting_read, block_or, last_block, looked_read, plan_write, plan_writes, space_write, wrote_read, lowered_read, planned_read, ask_read, tried_read, answer_read, over_read, turn_read, read_in}
use Rattle.run_trace.proofs.Growing.{is_less, not_less, longer, last_more, and_not}
use Rattle.run_trace.proofs.Fitting.{Alike, prepared_alike, AsksBy, Fits, event_fits}

told_blocks : (o : Option Refusal) (seen : Seen) → (told_by o seen).blocks ≡ seen.blocks
told_blocks (Some r) seen = refl
told_blocks None seen = refl

module _ (w : Plain) (n : ℕ) (p : NodeState) (at : node_at w.nodes n ≡ Some p) (m : Mark) (asked : m.asked ≡ length p.asked) (looked : m.looked ≡ length p.seen.blocks) (done : m.done ≡ p.done) (claimed : m.claimed ≡ waits_at w.locks n p.claims) (alive : p.over ≡ false) where
  -- what is read of a node that stands as q is what is read of it in the world
  read_so : (x : Plain) (q : NodeState) (t : Turn) (e : Event) → node_at x.nodes n ≡ Some q → turn_read m t x.locks (length x.nodes) (last_entry x.history) n q ≡ event_text x.locks (length x.nodes) n q e
      → read_in m t x n (node_at x.nodes n) ≡ turn_in x n e (node_at x.nodes n)
  read_so x q t e here h = ap (read_in m t x n) here ∙ (h ∙ sym (ap (turn_in x n e) here))

  -- ---- locks

  asked_same : (q : NodeState) → q.asked ≡ p.asked → nat_lt m.asked (length q.asked) ≡ false
  asked_same q e = (λ i. nat_lt (asked i) (length (e i))) ∙ not_less (length p.asked)

  asked_more : (l : LockName × Mode) → nat_lt m.asked (length (p.asked ++ l ∷ [])) ≡ true
  asked_more l = ap (λ k. nat_lt k (length (p.asked ++ l ∷ []))) asked ∙ longer p.asked l

  last_is : (t : List Resource) (count : ℕ) (l : LockName × Mode) → last_asked t count n (p.asked ++ l ∷ []) ≡ asked_text t count n l
  last_is t count l = ap (asked_or t count n) (last_more p.asked l)

  -- nothing, where it waited before, or does not wait
  quiet : (count : ℕ) (q : NodeState) → q.asked ≡ p.asked → q.claims ≡ p.claims → waiting_read m w.locks count n q ≡ []
  unfolding waiting_read
  quiet count q a c =
      let x : nat_lt m.asked (length q.asked) ≡ false = asked_same q a in
      let y : (waits_at w.locks n q.claims && not m.claimed) ≡ false = (λ i. waits_at w.locks n (c i) && not (claimed i)) ∙ and_not (waits_at w.locks n p.claims) in
      (λ i. cond (x i) (last_asked w.locks count n q.asked) (cond (y i) (last_asked w.locks count n q.claims) []))

  lock_read : (t : List Resource) (count : ℕ) (q : NodeState) (l : LockName × Mode) → q.asked ≡ p.asked ++ l ∷ [] → locked_read m t count n q ≡ asked_text t count n l
  unfolding locked_read
  lock_read t count q l a =
      let x : nat_lt m.asked (length q.asked) ≡ true = ap (λ ls. nat_lt m.asked (length ls)) a ∙ asked_more l in
      (λ i. cond (x i) (last_asked t count n q.asked) (last_asked t count n q.claims)) ∙ (ap (last_asked t count n) a ∙ last_is t count l)

  lock_waits : (t : List Resource) (count : ℕ) (q : NodeState) (l : LockName × Mode) → q.asked ≡ p.asked ++ l ∷ [] → waiting_read m t count n q ≡ asked_text t count n l
  unfolding waiting_read
  lock_waits t count q l a =
      let x : nat_lt m.asked (length q.asked) ≡ true = ap (λ ls. nat_lt m.asked (length ls)) a ∙ asked_more l in
      (λ i. cond (x i) (last_asked t count n q.asked) (cond (waits_at t n q.claims && not m.claimed) (last_asked t count n q.claims) [])) ∙ (ap (last_asked t count n) a ∙ last_is t count l)

  claim_read : (t : List Resource) (count : ℕ) (q : NodeState) (l : LockName × Mode) → q.asked ≡ p.asked → q.claims ≡ l ∷ [] → locked_read m t count n q ≡ asked_text t count n l
  unfolding locked_read
  claim_read t count q l a c =
      let x : nat_lt m.asked (length q.asked) ≡ false = asked_same q a in
      (λ i. cond (x i) (last_asked t count n q.asked) (last_asked t count n q.claims)) ∙ ap (last_asked t count n) c

  claim_waits : (t : List Resource) (count : ℕ) (q : NodeState) (l : LockName × Mode) → q.asked ≡ p.asked → q.claims ≡ l ∷ [] → waits_at t n q.claims ≡ true → m.claimed ≡ false → waiting_read m t count n q ≡ asked_text t count n l
  unfolding waiting_read
  claim_waits t count q l a c now before =
      let x : nat_lt m.asked (length q.asked) ≡ false = asked_same q a in
      (λ i. cond (x i) (last_asked t count n q.asked) (cond (now i && not (before i)) (last_asked t count n q.claims) [])) ∙ ap (last_asked t count n) c

  -- ---- blocks

  seen_more : (verb : List ℕ) (b : ℕ × Block) (q : NodeState) → q.seen.blocks ≡ p.seen.blocks ++ b ∷ [] → looked_read verb m q ≡ block_text verb b.0 []
  unfolding looked_read
  seen_more verb b q e =
      let x : nat_lt m.looked (length q.seen.blocks) ≡ true = (λ i. nat_lt (looked i) (length (e i))) ∙ longer p.seen.blocks b in
      (λ i. cond (x i) (last_block verb [] q.seen.blocks) (last_block verb (codes " for space") q.run.looked)) ∙ (ap (last_block verb []) e ∙ ap (block_or verb []) (last_more p.seen.blocks b))

  space_seen : (verb : List ℕ) (b : ℕ × Block) (q : NodeState) → q.seen.blocks ≡ p.seen.blocks → q.run.looked ≡ p.run.looked ++ b ∷ [] → looked_read verb m q ≡ block_text verb b.0 (codes " for space")
  unfolding looked_read
  space_seen verb b q e f =
      let x : nat_lt m.looked (length q.seen.blocks) ≡ false = (λ i. nat_lt (looked i) (length (e i))) ∙ not_less (length p.seen.blocks) in
      (λ i. cond (x i) (last_block verb [] q.seen.blocks) (last_block verb (codes " for space") q.run.looked)) ∙ (ap (last_block verb (codes " for space")) f ∙ ap (block_or verb (codes " for space")) (last_more p.run.looked b))

  wrote : (v : PlanWrite) (q : NodeState) → q.done ≡ p.done + 1 → q.plan ≡ p.plan → slice_get (plan_writes p.plan) p.done ≡ Some v → wrote_read m q ≡ plan_write (Some v)
  unfolding wrote_read
  wrote v q d e f =
      let lt : nat_lt m.done q.done ≡ true = is_less m.done q.done (omega arith) in
      let k : q.done - 1 ≡ p.done = omega arith in
      (λ i. cond (lt i) (plan_write (slice_get (plan_writes q.plan) (q.done - 1))) (space_write q.run.phase (slice_get q.run.writes (q.run.made - 1))))
      ∙ ap plan_write ((λ i. slice_get (plan_writes (e i)) (k i)) ∙ f)

  space_wrote : (v : PlanWrite) (q : NodeState) → q.done ≡ p.done → q.run.made ≡ p.run.made + 1 → q.run.writes ≡ p.run.writes → slice_get p.run.writes p.run.made ≡ Some v → wrote_read m q ≡ space_write q.run.phase (Some v)
  unfolding wrote_read
  space_wrote v q d e ws f =
      let lt : nat_lt m.done q.done ≡ false = (λ i. nat_lt (done i) (d i)) ∙ not_less p.done in
      let k : q.run.made - 1 ≡ p.run.made = omega arith in
      (λ i. cond (lt i) (plan_write (slice_get (plan_writes q.plan) (q.done - 1))) (space_write q.run.phase (slice_get q.run.writes (q.run.made - 1))))
      ∙ ap (space_write q.run.phase) ((λ i. slice_get (ws i) (k i)) ∙ f)

  tried : (a : PlanAsk) → AsksBy p a → tried_read p.plan ≡ ask_read (Some a)
  unfolding tried_read
  tried a h = ap tried_read h.is ∙ ap ask_read h.ask

  -- ---- the events

  abbrev pub Reads : Event → Type 0
  Reads e = read_in m (told (happens w n p e) n e) (happens w n p e) n (node_at (happens w n p e).nodes n) ≡ turn_in (happens w n p e) n e (node_at (happens w n p e).nodes n)

  rest_reads : Reads event.Rest
  unfolding turn_read event_text over_read
  rest_reads = read_so (happens w n p event.Rest) (turned p) turn.Over event.Rest (at_here w.nodes n (turned p) p at) (ap over_read alive)

  stand_reads : Reads event.Stand
  unfolding turn_read event_text
  stand_reads = read_so (happens w n p event.Stand) (turned p) turn.Waiting event.Stand (at_here w.nodes n (turned p) p at) (quiet (length (happens w n p event.Stand).nodes) (turned p) refl refl)

  end_reads : Reads event.SpaceEnd
  unfolding turn_read event_text
  end_reads = read_so (happens w n p event.SpaceEnd) (turned p) turn.Waiting event.SpaceEnd (at_here w.nodes n (turned p) p at) (quiet (length (happens w n p event.SpaceEnd).nodes) (turned p) refl refl)

  leave_reads : Reads event.Leave
  unfolding turn_read event_text over_read
  leave_reads = read_so (happens w n p event.Leave) (turned (leaving p)) turn.Over event.Leave (at_here w.nodes n (turned (leaving p)) p at) refl

  lock_reads : (name : LockName) (mode : Mode) → Reads (event.Lock name mode)
  unfolding turn_read event_text
  lock_reads name mode = by (is_queued_in x n (node_at x.nodes n)) where
    x : Plain
    x = happens w n p (event.Lock name mode)

    q : NodeState
    q = turned (locking p name mode)

    by : (b : Bool) → read_in m (cond b turn.Waiting (turn.Moved kind.Locked)) x n (node_at x.nodes n) ≡ turn_in x n (event.Lock name mode) (node_at x.nodes n)
    by true = read_so x q turn.Waiting (event.Lock name mode) (at_here w.nodes n q p at) (lock_waits x.locks (length x.nodes) q (name, mode) refl)
    by false = read_so x q (turn.Moved kind.Locked) (event.Lock name mode) (at_here w.nodes n q p at) (lock_read x.locks (length x.nodes) q (name, mode) refl)

  claim_reads : (ph : Phase) (name : LockName) (mode : Mode) → waits_at w.locks n p.claims ≡ false → Reads (event.Claim ph name mode)
  unfolding turn_read event_text
  claim_reads ph name mode still = by (is_claim_queued_in x n (node_at x.nodes n)) refl where
    x : Plain
    x = happens w n p (event.Claim ph name mode)

    q : NodeState
    q = turned (claiming p ph name mode)

    here : node_at x.nodes n ≡ Some q
    here = at_here w.nodes n q p at

    by : (b : Bool) → is_claim_queued_in x n (node_at x.nodes n) ≡ b → read_in m (cond b turn.Waiting (turn.Moved kind.Locked)) x n (node_at x.nodes n) ≡ turn_in x n (event.Claim ph name mode) (node_at x.nodes n)
    by true e = read_so x q turn.Waiting (event.Claim ph name mode) here (claim_waits x.locks (length x.nodes) q (name, mode) refl refl (sym (ap (is_claim_queued_in x n) here) ∙ e) (claimed ∙ still))
    by false e = read_so x q (turn.Moved kind.Locked) (event.Claim ph name mode) here (claim_read x.locks (length x.nodes) q (name, mode) refl refl)

  look_reads : (name : LockName) (lbn : ℕ) → Reads (event.Look name lbn)
  unfolding turn_read event_text
  look_reads name lbn =
      let q : NodeState = turned (caching (cache_looked w n p name lbn) (looking p lbn (block_at w.blocks lbn))) in
      read_so (happens w n p (event.Look name lbn)) q (turn.Moved kind.Looked) (event.Look name lbn) (at_here w.nodes n q p at) (seen_more (codes "read ") (lbn, block_at w.blocks lbn) q refl)

  use_reads : (name : LockName) (lbn : ℕ) → Reads (event.Use name lbn)
  unfolding turn_read event_text
  use_reads name lbn =
      let q : NodeState = turned (caching (cache_used w p name lbn) (using p lbn (block_used w p name lbn))) in
      read_so (happens w n p (event.Use name lbn)) q (turn.Moved kind.Used) (event.Use name lbn) (at_here w.nodes n q p at) (seen_more (codes "hit ") (lbn, block_used w p name lbn) q refl)

  fetch_reads : (lbn : ℕ) → Reads (event.Fetch lbn)
  unfolding turn_read event_text
  fetch_reads lbn =
      let q : NodeState = turned (looking p lbn (block_at w.blocks lbn)) in
      read_so (happens w n p (event.Fetch lbn)) q (turn.Moved kind.Looked) (event.Fetch lbn) (at_here w.nodes n q p at) (seen_more (codes "read ") (lbn, block_at w.blocks lbn) q refl)

  space_look_reads : (k : ℕ) (c : Bool) (lbn : ℕ) → Reads (event.SpaceLook k c lbn)
  unfolding turn_read event_text
  space_look_reads k c lbn =
      let b : Block = block_at w.blocks lbn in
      let q : NodeState = turned (caching (cache_looked w n p V lbn) (space_looking p k c lbn b)) in
      read_so (happens w n p (event.SpaceLook k c lbn)) q (turn.Moved kind.Looked) (event.SpaceLook k c lbn) (at_here w.nodes n q p at)
      (space_seen (codes "read ") (lbn, b) q (told_blocks (decision_on p k c lbn b).short p.seen) refl)

  space_use_reads : (k : ℕ) (c : Bool) (lbn : ℕ) → Reads (event.SpaceUse k c lbn)
  unfolding turn_read event_text
  space_use_reads k c lbn =
      let b : Block = block_used w p V lbn in
      let q : NodeState = turned (caching (cache_used w p V lbn) (space_using p k c lbn b)) in
      read_so (happens w n p (event.SpaceUse k c lbn)) q (turn.Moved kind.Used) (event.SpaceUse k c lbn) (at_here w.nodes n q p at)
      (space_seen (codes "hit ") (lbn, b) q (told_blocks (decision_on p k c lbn b).short p.seen) refl)

  lower_v_reads : Reads event.LowerV
  unfolding turn_read event_text lowered_read
  lower_v_reads = read_so (happens w n p event.LowerV) (turned (lowering p)) (turn.Moved kind.Lowered) event.LowerV (at_here w.nodes n (turned (lowering p)) p at) refl

  lower_x_reads : Reads event.LowerX
  unfolding turn_read event_text lowered_read
  lower_x_reads = read_so (happens w n p event.LowerX) (turned (lowering_both p)) (turn.Moved kind.Lowered) event.LowerX (at_here w.nodes n (turned (lowering_both p)) p at) refl

  return_reads : Reads event.Return
  unfolding turn_read event_text
  return_reads = read_so (happens w n p event.Return) (turned (returning p)) (turn.Moved kind.Returned) event.Return (at_here w.nodes n (turned (returning p)) p at) refl

  space_write_reads : (v : PlanWrite) → slice_get p.run.writes p.run.made ≡ Some v → Reads (event.SpaceWrite v)
  unfolding turn_read event_text
  space_write_reads v h =
      let q : NodeState = turned (caching (cache_written w p v) (space_writing p v)) in
      read_so (happens w n p (event.SpaceWrite v)) q (turn.Moved kind.Wrote) (event.SpaceWrite v) (at_here w.nodes n q p at) (space_wrote v q refl refl refl h)

  write_reads : (v : PlanWrite) → slice_get (plan_writes p.plan) p.done ≡ Some v → Reads (event.Write v)
  unfolding turn_read event_text
  write_reads v h =
      let q : NodeState = turned (caching (cache_written w p v) (writing p)) in
      read_so (happens w n p (event.Write v)) q (turn.Moved kind.Wrote) (event.Write v) (at_here w.nodes n q p at) (wrote v q refl refl h)

  plan_reads : (d : _) → Reads (event.Plan d)
  unfolding turn_read event_text planned_read
  plan_reads d = read_so (happens w n p (event.Plan d)) (turned (planning p d)) (turn.Moved kind.Planned) (event.Plan d) (at_here w.nodes n (turned (planning p d)) p at) refl

  answered_reads : (x : Cmd) (r : Reply) (e : Event) → event_text (answered_by w n p x r).locks (length (answered_by w n p x r).nodes) n (turned (answering p x r)) e ≡ answer_text x r (answering p x r).kept
      → read_in m turn.Answered (answered_by w n p x r) n (node_at (answered_by w n p x r).nodes n) ≡ turn_in (answered_by w n p x r) n e (node_at (answered_by w n p x r).nodes n)
  unfolding turn_read answer_read
  answered_reads x r e h =
      let q : NodeState = turned (answering p x r) in
      read_so (answered_by w n p x r) q turn.Answered e (at_here w.nodes n q p at) (ap (λ o. answer_read o q.kept) (last_more w.history (Done n x r)) ∙ sym h)

  answer_reads : (x : Cmd) (r : Reply) → Reads (event.Answer x r)
  unfolding event_text
  answer_reads x r = answered_reads x r (event.Answer x r) refl

  ask_reads : (x : Cmd) (a : PlanAsk) → p.cmd ≡ Some x → AsksBy p a → Reads (event.Ask x a)
  unfolding turn_read event_text
  ask_reads x a cmd asks = by (would_go w.locks n a) where
    AsksSo : Bool → Type 0
    AsksSo b = read_in m (told (asked_by w n p x a b) n (event.Ask x a)) (asked_by w n p x a b) n (node_at (asked_by w n p x a b).nodes n) ≡ turn_in (asked_by w n p x a b) n (event.Ask x a) (node_at (asked_by w n p x a b).nodes n)

    going : AsksSo true
    going =
        let y : Plain = asked_by w n p x a true in
        let q : NodeState = turned (asking p a) in
        let here : node_at y.nodes n ≡ Some q = at_here w.nodes n q p at in
        let c : command_at y n ≡ Some x = ap command_in here ∙ cmd in
        ap (λ t. read_in m t y n (node_at y.nodes n)) (λ i. cond (is_some (c i)) (turn.Moved kind.Tried) turn.Answered)
        ∙ read_so y q (turn.Moved kind.Tried) (event.Ask x a) here (tried a asks ∙ sym (λ i. cond (is_some (cmd i)) (ask_read (Some a)) (answer_text x a.refused q.kept)))

    refused : AsksSo false
    refused =
        let y : Plain = asked_by w n p x a false in
        let q : NodeState = turned (answering p x a.refused) in
        let here : node_at y.nodes n ≡ Some q = at_here w.nodes n q p at in
        let c : command_at y n ≡ None = ap command_in here in
        ap (λ t. read_in m t y n (node_at y.nodes n)) (λ i. cond (is_some (c i)) (turn.Moved kind.Tried) turn.Answered)
        ∙ answered_reads x a.refused (event.Ask x a) refl

    by : (b : Bool) → AsksSo b
    by true = going
    by false = refused

  pub reads : (e : Event) → Fits w n p e → Reads e
  reads event.Rest h = rest_reads
  reads event.Stand h = stand_reads
  reads event.Leave h = leave_reads
  reads (event.Lock name mode) h = lock_reads name mode
  reads (event.Look name lbn) h = look_reads name lbn
  reads (event.Use name lbn) h = use_reads name lbn
  reads (event.Fetch lbn) h = fetch_reads lbn
  reads (event.Claim ph name mode) h = claim_reads ph name mode h
  reads (event.SpaceLook k c lbn) h = space_look_reads k c lbn
  reads (event.SpaceUse k c lbn) h = space_use_reads k c lbn
  reads (event.SpaceWrite v) h = space_write_reads v h
  reads event.LowerV h = lower_v_reads
  reads event.LowerX h = lower_x_reads
  reads event.Return h = return_reads
  reads event.SpaceEnd h = end_reads
  reads (event.Plan d) h = plan_reads d
  reads (event.Write v) h = write_reads v h
  reads (event.Ask x a) h = ask_reads x a h.0 h.1
  reads (event.Answer x r) h = answer_reads x r

-- What is read off the world after a turn, beside how the node stood before it, is the event of that turn.
pub turn_is_read : (old : Plain) (n : ℕ) (s : NodeState) → node_at old.nodes n ≡ Some s → s.over ≡ false
    → read_in (mark_of old.locks n s) (told (after_turn old n) n (next_event old n)) (after_turn old n) n (node_at (after_turn old n).nodes n) ≡ turn_text old n
unfolding turn_text mark_of
turn_is_read old n s at alive =
    let p : NodeState = prepared old n s in
    let r : Plain = with_node old n p in
    let ready : readied old n ≡ r = readied_is old n s p at refl in
    let here : node_at r.nodes n ≡ Some p = at_here old.nodes n p s at in
    let e : Event = event_of r n (Some p) in
    let like : Alike s p = prepared_alike old n s in
    let next : next_event old n ≡ e = ap (λ v. event_now v n) ready ∙ ap (event_of r n) here in
    let after : after_turn old n ≡ happens r n p e = (λ i. happen_at (ready i) n (node_at (ready i).nodes n) (next i)) ∙ ap (λ o. happen_at r n o e) here in
    let main = reads r n p here (mark_of old.locks n s) (sym (ap length like.asked)) (sym (ap length like.blocks)) (sym like.done) (sym (ap (waits_at old.locks n) like.claims)) (like.over ∙ alive) e (event_fits r n p) in
    (λ i. read_in (mark_of old.locks n s) (told (after i) n (next i)) (after i) n (node_at (after i).nodes n)) ∙ (main ∙ sym (λ i. turn_in (after i) n (next i) (node_at (after i).nodes n)))
