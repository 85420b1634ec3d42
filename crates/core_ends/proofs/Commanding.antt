-- Each event of a node's command leaves less to be done.
use Rattle.std.proofs.Common.{◌≡◌, ◌≢◌, ◌≤◌, ◌<◌, ◌+◌, ◌-◌, ◌++◌, ◌||◌, ℕ, Bool, true, false, cond, List, [], ◌∷◌, Option, Some, None, length, slice_get, refl, sym, ap, ◌∙◌, arith}
use Rattle.std.proofs.lemmas.List.{length-append}
use Rattle.base_words.specs.Fields.{Block}
use Rattle.lock_db.specs.declared.name.LockName.{LockName}
use Rattle.lock_db.specs.declared.name.LockName.TheVariants.{X}
use Rattle.plain_cat.specs.declared.mode.Mode.{Mode}
use Rattle.plain_cat.specs.declared.command.Cmd.{Cmd}
use Rattle.plain_cat.specs.declared.reply.Reply.{Reply}
use Rattle.plain_rules.specs.Own.{NodePast, lines_of, after_answer}
use Rattle.node_locks.specs.Held.{Row, waits_at, without}
use Rattle.node_cache.specs.Cached.{Cached}
use Rattle.op_law.specs.declared.need.Need.{Need}
use Rattle.op_law.specs.declared.need.Need.TheVariants as need
use Rattle.op_law.specs.declared.need.Ask.{Ask as PlanAsk}
use Rattle.op_law.specs.declared.need.Plan.{Plan}
use Rattle.op_law.specs.declared.need.PlanWrite.{PlanWrite}
use Rattle.op_law.specs.Needs.{need_of, IsNext}
use Rattle.op_law.specs.Laws.{takes_lock}
use Rattle.core_space.specs.declared.run.Phase.TheVariants as phase
use Rattle.core_space.specs.Rule.{is_reader, no_run}
use Rattle.core_state.specs.Worlds.{NodeState, Plain, node_at, set_node}
use Rattle.core_state.specs.Asks.{writes_by, lock_of_ask, own_of, with_ask}
use Rattle.core_state.specs.Caches.{lowered_of}
use Rattle.core_state.specs.Event.{Event}
use Rattle.core_state.specs.Event as event
use Rattle.core_state.specs.Goods.{Good}
use Rattle.core_state.specs.Events.{is_out, turned, locking, planning, caching, writing, asking, leaving, answering, staying, used_locks, cache_looked, cache_used, cache_written, block_used, has_current, or_use, by_space, by_need, by_end, by_write, by_plan, would_go, answered_by, asked_by, happens}
use Rattle.base_words.specs.Fields.{block_at}
use Rattle.base_words.specs.Faults.{next as one_more}
use Rattle.core_state.proofs.Keeping.{kept_once}
use Rattle.core_state.proofs.Turning.{may_need, seen_so}
use Rattle.core_ends.specs.Measure.{one_if, plan_steps, steps_of, answers_left, return_by, return_left, left_in, left_from, left}
use Rattle.core_ends.proofs.Standing.{mine}
use Rattle.core_ends.proofs.Sums.{node_less, alive_left, steps_on}
use Rattle.core_ends.proofs.Bounds.{answer_less, has_answer, room}
use Rattle.core_ends.proofs.Keeping.{mode_without, no_more, answer_keeps}

answered_more : (p : NodePast) (x : Cmd) (r : Reply) → ((after_answer p x r).answered ≡ p.answered + 1) × ((after_answer p x r).dead ≡ p.dead)
unfolding after_answer
answered_more p x r = (refl, refl)

asks_more : (ls : Row) (o : Option PlanAsk) → length ls ≤ length (with_ask ls o)
asks_more ls None = omega arith
asks_more ls (Some a) = let e = length-append ls (lock_of_ask a ∷ []) in omega arith

module _ (w : Plain) (good : Good w) (n : ℕ) (s : NodeState) (at : node_at w.nodes n ≡ Some s) (on : is_out s ≡ false) (x : Cmd) (has : s.cmd ≡ Some x) (calmly : s.run.phase ≡ phase.Back → ⊥) where
  -- an event leaves less
  abbrev pub FallsBy : Event → Type 0
  FallsBy e = left (happens w n s e) < left w

  -- a state of the node that has less left
  pub falls_to : (t : NodeState) → left_in w.script n t < left_in w.script n s → left_from w.script 1 (set_node w.nodes n t) < left w
  falls_to t less = node_less w n s t at less

  -- ---- an answer

  pub answer_falls : (r : Reply) → left (answered_by w n s x r) < left w
  answer_falls r = falls_to t less where
    t : NodeState
    t = turned (answering s x r)

    back : return_left t.seen.geometry t.stock t.kept t.run ≤ return_left s.seen.geometry s.stock s.kept s.run
    back = no_more s.seen.geometry s.seen.geometry s.stock s.stock s.kept (staying s ++ lowered_of s.cache (used_locks s)) s.run no_run calmly (λ e. absurd (let z : phase.Off ≡ phase.Back = e in cc)) (answer_keeps s (kept_once s (mine w good n s at).once))

    left_t : left_in w.script n t ≡ (answers_left (length (lines_of n w.script.lines)) (s.past.answered + 1) - 0) + return_left t.seen.geometry t.stock t.kept t.run
    left_t =
        alive_left w.script n t (ap (λ b. s.over || b) (answered_more s.past x r).1 ∙ on)
        ∙ ap (λ k. (answers_left (length (lines_of n w.script.lines)) k - 0) + return_left t.seen.geometry t.stock t.kept t.run) (answered_more s.past x r).0

    less : left_in w.script n t < left_in w.script n s
    less =
        let a = alive_left w.script n s on in
        let b = left_t in
        let h = answer_less (length (lines_of n w.script.lines)) s.past.answered (steps_of s) (return_left s.seen.geometry s.stock s.kept s.run) (return_left t.seen.geometry t.stock t.kept t.run) (has_answer w good n s at x has) back in
        omega arith

  -- ---- behind the writes of a plan

  ask_falls : (p : Plan) (a : PlanAsk) → s.plan ≡ Some p → s.tried ≡ false → (b : Bool) → left (asked_by w n s x a b) < left w
  ask_falls p a plan tried false = answer_falls a.refused
  ask_falls p a plan tried true =
      falls_to (turned (asking s a)) (steps_on w.script n s (turned (asking s a)) on refl refl (room w good n s at x has)
      (let l = asks_more s.asked (own_of (Some a)) in
      let q = ap (λ (o : Option Plan). plan_steps o s.done s.tried) plan in
      let q' = ap (λ (o : Option Plan). plan_steps o s.done true) plan in
      let z = ap one_if tried in
      omega arith) (omega arith))

  end_falls : (p : Plan) → s.plan ≡ Some p → (b : Bool) → s.tried ≡ b → (o : Option PlanAsk) → FallsBy (or_use w s (by_end x p.reply b o))
  end_falls p plan b tried None = answer_falls p.reply
  end_falls p plan true tried (Some a) = answer_falls p.reply
  end_falls p plan false tried (Some a) = ask_falls p a plan tried (would_go w.locks n a)

  write_falls : (p : Plan) → s.plan ≡ Some p → (o : Option PlanWrite) → FallsBy (or_use w s (by_write x p s.tried o))
  write_falls p plan (Some v) =
      let t : NodeState = turned (caching (cache_written w s v) (writing s)) in
      falls_to t (steps_on w.script n s t on refl refl (room w good n s at x has)
      (let q = ap (λ (o : Option Plan). plan_steps o s.done s.tried) plan in
      let q' = ap (λ (o : Option Plan). plan_steps o (s.done + 1) s.tried) plan in
      omega arith) (omega arith))
  write_falls p plan None = end_falls p plan s.tried refl p.ask

  -- ---- what it needs

  sees_falls : (lbn : ℕ) (b : Block) (es : List Cached) (reads hits : ℕ) → left_from w.script 1 (set_node w.nodes n (seen_so s lbn b es reads hits)) < left w
  sees_falls lbn b es reads hits =
      let t : NodeState = seen_so s lbn b es reads hits in
      falls_to t (steps_on w.script n s t on refl refl (room w good n s at x has) (let l = length-append s.seen.blocks ((lbn, b) ∷ []) in omega arith) (omega arith))

  look_falls : (name : LockName) (lbn : ℕ) (b : Bool) → FallsBy (cond b (event.Use name lbn) (event.Look name lbn))
  look_falls name lbn true = sees_falls lbn (block_used w s name lbn) (cache_used w s name lbn) s.reads (one_more s.hits)
  look_falls name lbn false = sees_falls lbn (block_at w.blocks lbn) (cache_looked w n s name lbn) (one_more s.reads) s.hits

  lock_falls : (name : LockName) (mode : Mode) → takes_lock x name ≡ true → FallsBy (event.Lock name mode)
  lock_falls name mode own =
      let t : NodeState = turned (locking s name mode) in
      let not_x : name ≢ X = λ e. absurd (let f : false ≡ true = sym (ap (takes_lock x) e) ∙ own in cc) in
      let same : return_left s.seen.geometry s.stock (without name s.kept) s.run ≡ return_left s.seen.geometry s.stock s.kept s.run
      = ap (λ o. cond (is_reader o) (return_by s.seen.geometry s.stock s.run s.run.phase) 0) (mode_without name s.kept not_x) in
      falls_to t (steps_on w.script n s t on refl refl (room w good n s at x has) (let l = length-append s.asked ((name, mode) ∷ []) in omega arith) (omega arith))

  module _ (free : waits_at w.locks n s.asked ≡ false) (spaces : s.plan ≡ None → (clusters : ℕ) (number : Bool) → IsNext x s.seen (need.Space clusters number) → FallsBy (or_use w s (by_space s clusters number))) where
    need_falls : s.plan ≡ None → (d : Need) → IsNext x s.seen d → FallsBy (or_use w s (by_need s d))
    need_falls none (need.Lock name mode) is = lock_falls name mode (may_need w good n s at x has free (need.Lock name mode) is).own
    need_falls none (need.Block name lbn) is = look_falls name lbn (has_current w s name lbn)
    need_falls none (need.Bare lbn) is = sees_falls lbn (block_at w.blocks lbn) s.cache (one_more s.reads) s.hits
    need_falls none (need.Space clusters number) is = spaces none clusters number is
    need_falls none (need.Ready p) is =
        let t : NodeState = turned (planning s p) in
        falls_to t (steps_on w.script n s t on refl refl (room w good n s at x has) (let q = ap (λ (o : Option Plan). plan_steps o s.done s.tried) none in omega arith) (omega arith))

    pub plan_falls : (o : Option Plan) → s.plan ≡ o → FallsBy (or_use w s (by_plan x s o))
    plan_falls None e = need_falls e (need_of x s.seen) refl
    plan_falls (Some p) e = write_falls p e (slice_get (writes_by p.ask s.tried p.writes) s.done)

-- a node without a command leaves
pub leave_falls : (w : Plain) (n : ℕ) (s : NodeState) → node_at w.nodes n ≡ Some s → is_out s ≡ false → steps_of s ≡ 0 → left (happens w n s event.Leave) < left w
leave_falls w n s at on none =
    let a = alive_left w.script n s on in
    node_less w n s (turned (leaving s)) at (omega arith)
