-- No command makes as many events as are allowed for, and no close more than 191; and a command has its answer left.
use Rattle.std.proofs.Common.{◌≡◌, ◌⊎◌, ◌≤◌, ◌<◌, ◌+◌, ◌-◌, ◌*◌, min, ℕ, zero, suc, Bool, true, false, cond, List, [], ◌∷◌, Option, Some, None, length, slice_get, refl, sym, ap, subst, ◌∙◌, inl, inr, arith}
use Rattle.std.specs.Prelude.{sum_by}
use Rattle.std.proofs.lemmas.List.{length-append, length-take}
use Rattle.std.proofs.lemmas.List.Sums.{sum_by-cons}
use Rattle.std.specs.List.{count_by}
use Rattle.lock_db.specs.declared.name.LockName.TheVariants.{V}
use Rattle.lock_db.specs.Names.{is_same}
use Rattle.plain_cat.specs.declared.command.Cmd.{Cmd}
use Rattle.plain_cat.specs.declared.command.Cmd.TheVariants as cmd
use Rattle.plain_cat.specs.declared.script.LineCmd.{LineCmd}
use Rattle.plain_rules.specs.Lookups.{file_most}
use Rattle.plain_rules.specs.Mending.{is_true}
use Rattle.plain_rules.specs.Own.{NodePast, lines_of, or_close}
use Rattle.vol_parts.specs.declared.geometry.Geometry.{Geometry}
use Rattle.node_locks.specs.Held.{Row, waits_at}
use Rattle.op_law.specs.declared.need.Ask.{Ask}
use Rattle.op_law.specs.declared.need.Plan.{Plan}
use Rattle.op_law.specs.declared.need.PlanWrite.{PlanWrite}
use Rattle.op_law.specs.Bounds.{most_writes, IsBrief}
use Rattle.op_law.specs.Knows.{takes_space}
use Rattle.core_space.specs.declared.run.Phase.{Phase}
use Rattle.core_space.specs.declared.run.Phase.TheVariants as phase
use Rattle.core_space.specs.declared.run.SpaceRun.{SpaceRun}
use Rattle.core_state.specs.Worlds.{Stock, NodeState, Plain, node_at}
use Rattle.core_state.specs.Asks.{writes_by, own_ask, with_ask, lock_of_ask}
use Rattle.core_state.specs.Searches.{Spaces, Off, Back, Busy}
use Rattle.core_state.specs.Goods.{IsAtPlan, IsIdle, HasCommand, HasFewAnswers, Good}
use Rattle.core_state.proofs.Commands.{closes_one}
use Rattle.core_state.proofs.Midway.{drive_so}
use Rattle.core_state.proofs.Standing.{come_by}
use Rattle.core_ends.specs.Measure.{one_if, plan_steps, by_claim, rule_steps, steps_of, command_steps, answers_left, rest_of}
use Rattle.core_ends.proofs.Standing.{me, now, seen_on}

-- ---- the parts

claim_few : (claims : Row) (a b c k : ℕ) → a ≤ k → b ≤ k → c ≤ k → by_claim claims a b c ≤ k
claim_few [] a b c k la lb lc = la
claim_few (l ∷ ls) a b c k la lb lc = by_test (is_same l.0 V) where
  by_test : (t : Bool) → cond t c b ≤ k
  by_test true = lc
  by_test false = lb

min_few : (k n : ℕ) → min k n ≤ k
min_few k n = omega arith

pub rule_few : (g : Geometry) (stock : Stock) (claims : Row) (run : SpaceRun) (p : Phase) → rule_steps g stock claims run p ≤ 500
rule_few g stock claims run phase.Off = omega arith
rule_few g stock claims run phase.Fill = let m = min_few 60 (length run.looked + run.made) in claim_few claims 200 1 (130 + min 60 (length run.looked + run.made)) 500 (omega arith) (omega arith) (omega arith)
rule_few g stock claims run phase.Drain = omega arith
rule_few g stock claims run phase.Last = let m = min_few 60 (length run.looked + run.made) in claim_few claims 400 401 (402 + min 60 (length run.looked + run.made)) 500 (omega arith) (omega arith) (omega arith)
rule_few g stock claims run phase.Back = omega arith

by_few : (o : Option Ask) (b : Bool) (ws : List PlanWrite) → length (writes_by o b ws) ≤ length ws
by_few None b ws = omega arith
by_few (Some a) true ws = omega arith
by_few (Some a) false ws = let e = length-take a.at ws in omega arith

ask_few : (ls : Row) (o : Option Ask) → length (with_ask ls o) ≤ length ls + 1
ask_few ls None = omega arith
ask_few ls (Some a) = let e = length-append ls (lock_of_ask a ∷ []) in omega arith

tried_few : (b : Bool) → one_if b ≤ 1
tried_few true = omega arith
tried_few false = omega arith

most_few : (x : Cmd) → most_writes x ≤ 16 * file_most + 1
most_few (cmd.Lookup reg dir name ver) = omega arith
most_few (cmd.List dir) = omega arith
most_few (cmd.Stat file) = omega arith
most_few (cmd.Create reg dir name ver blocks owner) = omega arith
most_few (cmd.MkDir reg dir name owner) = omega arith
most_few (cmd.Extend file blocks) = omega arith
most_few (cmd.Trunc file blocks) = omega arith
most_few (cmd.Delete dir name ver) = omega arith
most_few (cmd.Rename dir name ver to to_ver) = omega arith
most_few (cmd.OpenFile chan file mode) = omega arith
most_few (cmd.CloseFile chan) = omega arith
most_few (cmd.ReadBlock chan vbn) = omega arith
most_few (cmd.WriteBlock chan vbn text) = omega arith
most_few (cmd.QuotaSet owner quota over) = omega arith
most_few (cmd.QuotaShow owner) = omega arith

-- a channel that is open counts
one_open : (bs : List Bool) (k : ℕ) → slice_get bs k ≡ Some true → 1 ≤ sum_by (λ (t : Bool). cond (is_true t) 1 0) bs
one_open [] k e = absurd (let f : None ≡ Some true = e in cc)
one_open (b ∷ bs) zero e =
    let f : Some b ≡ Some true = e in
    let g : b ≡ true = cc in
    let h : cond (is_true b) 1 0 ≡ 1 = ap (λ (t : Bool). cond (is_true t) 1 0) g in
    subst (λ (k : ℕ). 1 ≤ k) (sym (sum_by-cons (λ (t : Bool). cond (is_true t) 1 0) b bs)) (with_one (cond (is_true b) 1 0) (sum_by (λ (t : Bool). cond (is_true t) 1 0) bs) h) where
      with_one : (a r : ℕ) → a ≡ 1 → 1 ≤ a + r
      with_one a r e = omega arith
one_open (b ∷ bs) (suc k) e = subst (λ (k : ℕ). 1 ≤ k) (sym (sum_by-cons (λ (t : Bool). cond (is_true t) 1 0) b bs)) (with_rest (cond (is_true b) 1 0) (sum_by (λ (t : Bool). cond (is_true t) 1 0) bs) (one_open bs k e)) where
  with_rest : (a r : ℕ) → 1 ≤ r → 1 ≤ a + r
  with_rest a r le = omega arith

there : {T : Type 0} (xs : List T) (k : ℕ) (x : T) → slice_get xs k ≡ Some x → k < length xs
there [] k x e = absurd (let f : None ≡ Some x = e in cc)
there (y ∷ xs) zero x e = omega arith
there (y ∷ xs) (suc k) x e = let h = there xs k x e in omega arith

behind : {T : Type 0} (xs : List T) (k : ℕ) → slice_get xs k ≡ None → length xs ≤ k
behind [] k e = omega arith
behind (y ∷ xs) zero e = absurd (let f : Some y ≡ None = e in cc)
behind (y ∷ xs) (suc k) e = let h = behind xs k e in omega arith

-- ---- a node

-- it answers a line, or closes a channel behind its lines
pub data HasAnswer (lines answered steps : ℕ) : Type 0 where
  Line : answered < lines → steps < command_steps → HasAnswer lines answered steps
  Close : lines ≤ answered → answered < lines + 8 → steps < 192 → HasAnswer lines answered steps

pub answer_left : (lines answered steps : ℕ) → HasAnswer lines answered steps → steps < answers_left lines answered
answer_left lines answered steps (Line lt le) = omega arith
answer_left lines answered steps (Close low high le) = omega arith

pub answer_less : (lines answered steps r q : ℕ) → HasAnswer lines answered steps → q ≤ r → (answers_left lines (answered + 1) - 0) + q < (answers_left lines answered - steps) + r
answer_less lines answered steps r q (Line lt le) more = omega arith
answer_less lines answered steps r q (Close low high le) more = omega arith

module _ (w : Plain) (good : Good w) (n : ℕ) (s : NodeState) (at : node_at w.nodes n ≡ Some s) where
  -- no rule for space is begun for a command that takes no space
  idle_rules : s.run.phase ≡ phase.Off ⊎ (s.run.phase ≡ phase.Back) → rule_steps s.seen.geometry s.stock s.claims s.run s.run.phase ≡ 0
  idle_rules (inl e) = ap (rule_steps s.seen.geometry s.stock s.claims s.run) e
  idle_rules (inr e) = ap (rule_steps s.seen.geometry s.stock s.claims s.run) e

  pub without_steps : s.cmd ≡ None → steps_of s ≡ 0
  without_steps e =
      let i : IsIdle s.seen s.asked s.plan s.done = subst (HasCommand w n s) e (me w good n s at).command in
      let a = ap (λ (ls : Row). length ls) i.asked in
      let b : length s.seen.blocks ≡ 0 = ap (λ bs. length bs) i.blocks in
      let p = ap (λ (o : Option Plan). plan_steps o s.done s.tried) i.plan in
      let r = idle_rules (by_space (me w good n s at).space) in
      omega arith where
        by_space : Spaces s.cmd s.kept s.claims s.run s.stock s.seen → s.run.phase ≡ phase.Off ⊎ (s.run.phase ≡ phase.Back)
        by_space (Off h) = inl (ap (λ (k : SpaceRun). k.phase) h.run)
        by_space (Back h) = inr h.back
        by_space (Busy x f r) = absurd (let z : Some x ≡ None = sym f ∙ e in cc)

  module _ (x : Cmd) (has : s.cmd ≡ Some x) where
    brief : IsBrief x s.seen
    brief = (now w good n s at x has).lawful.brief n s.seen (drive_so w good n s at).base (drive_so w good n s at).own good.running.cat (now w good n s at x has).seen (seen_on w good n s at x has)

    asked_few : length s.asked ≤ 20
    asked_few =
        let a = ask_few s.seen.locks (own_ask s.tried s.plan) in
        let b = ap (λ (ls : Row). length ls) (now w good n s at x has).same in
        let c = brief.locks in
        omega arith

    plan_few : plan_steps s.plan s.done s.tried ≤ 2 + most_writes x
    plan_few = by_plan s.plan refl (now w good n s at x has).plan where
      by_plan : (o : Option Plan) → s.plan ≡ o → IsAtPlan x (waits_at w.locks n s.asked) s.seen s.done s.tried o → plan_steps o s.done s.tried ≤ 2 + most_writes x
      by_plan None e i = omega arith
      by_plan (Some p) e i = let a = i.2 in let b = by_few p.ask s.tried p.writes in let c = brief.writes p i.0 in let d = tried_few s.tried in omega arith

    pub steps_few : steps_of s < command_steps
    steps_few =
        let a = asked_few in
        let b = brief.blocks in
        let c = rule_few s.seen.geometry s.stock s.claims s.run s.run.phase in
        let d = plan_few in
        let e = most_few x in
        omega arith

    close_few : (chan : ℕ) → x ≡ cmd.CloseFile chan → steps_of s < 192
    close_few chan is =
        let a = asked_few in
        let b = brief.blocks in
        let c = idle_rules (by_space (me w good n s at).space) in
        let d = plan_few in
        let e : most_writes x ≡ 40 = ap most_writes is in
        omega arith where
          by_space : Spaces s.cmd s.kept s.claims s.run s.stock s.seen → s.run.phase ≡ phase.Off ⊎ (s.run.phase ≡ phase.Back)
          by_space (Off h) = inl (ap (λ (k : SpaceRun). k.phase) h.run)
          by_space (Back h) = inr h.back
          by_space (Busy y f r) =
              let g : Some y ≡ Some (cmd.CloseFile chan) = sym f ∙ has ∙ ap Some is in
              let same : y ≡ cmd.CloseFile chan = cc in
              absurd (let z : false ≡ true = sym (ap takes_space same) ∙ (come_by y s.kept s.claims s.run s.stock s.seen r).takes in cc)

    -- one that takes space is of a line
    pub line_left : takes_space x ≡ true → s.past.answered < length (lines_of n w.script.lines)
    line_left takes = by_line (slice_get (lines_of n w.script.lines) s.past.answered) refl (subst (λ (p : NodePast). or_close p (slice_get (lines_of n w.script.lines) p.answered) ≡ Some x) (sym (me w good n s at).past) (now w good n s at x has).next) where
      by_line : (o : Option LineCmd) → slice_get (lines_of n w.script.lines) s.past.answered ≡ o → or_close s.past o ≡ Some x → s.past.answered < length (lines_of n w.script.lines)
      by_line (Some l) e next = there (lines_of n w.script.lines) s.past.answered l e
      by_line None e next = let c = closes_one 1 s.past.channels x next in absurd (let z : false ≡ true = sym (ap takes_space c.is) ∙ takes in cc)

    -- so its answer is left
    pub has_answer : HasAnswer (length (lines_of n w.script.lines)) s.past.answered (steps_of s)
    has_answer = by_line (slice_get (lines_of n w.script.lines) s.past.answered) refl (subst (λ (p : NodePast). or_close p (slice_get (lines_of n w.script.lines) p.answered) ≡ Some x) (sym (me w good n s at).past) (now w good n s at x has).next) where
      few : HasFewAnswers w.script n s.past
      few = subst (HasFewAnswers w.script n) (sym (me w good n s at).past) (good.few n)

      by_line : (o : Option LineCmd) → slice_get (lines_of n w.script.lines) s.past.answered ≡ o → or_close s.past o ≡ Some x → HasAnswer (length (lines_of n w.script.lines)) s.past.answered (steps_of s)
      by_line (Some l) e next = Line (there (lines_of n w.script.lines) s.past.answered l e) steps_few
      by_line None e next =
          let c = closes_one 1 s.past.channels x next in
          Close (behind (lines_of n w.script.lines) s.past.answered e) (by_count few (one_open s.past.channels (c.chan - 1) c.open_now)) (close_few c.chan c.is) where
            by_count : HasFewAnswers w.script n s.past → 1 ≤ count_by is_true s.past.channels → s.past.answered < length (lines_of n w.script.lines) + 8
            by_count (inl le) one = omega arith
            by_count (inr le) one = omega arith

    pub room : steps_of s < rest_of w.script n s
    room = answer_left (length (lines_of n w.script.lines)) s.past.answered (steps_of s) has_answer
