-- A node answers: the history has one entry more, and the locks go back.
use Rattle.std.proofs.Common.{◌≡◌, ◌≢◌, ◌≤◌, ◌+◌, ◌++◌, ℕ, zero, suc, Bool, true, false, List, [], ◌∷◌, Option, Some, None, length, map, take, slice_get, refl, sym, ap, subst, ◌∙◌, inl, inr, arith}
use Rattle.std.specs.Prelude.{◌&&◌, ◌||◌, ◌-◌, ◌⊎◌, not, cond, is_some, nat_lt, replicate, slice_index_or}
use Rattle.std.proofs.lemmas.Bool.Decides.{nat_tests}
use Rattle.std.proofs.lemmas.Option.{slice_get_within}
use Rattle.base_words.specs.Fields.{Block}
use Rattle.lock_db.specs.declared.name.LockName.{LockName}
use Rattle.lock_db.specs.declared.resource.Resource.{Resource}
use Rattle.lock_db.specs.declared.name.LockName.TheVariants.{A, X}
use Rattle.lock_db.specs.Tables.{IsTable, resource_at, released}
use Rattle.lock_db.proofs.Steps.{IsTable-released}
use Rattle.plain_cat.specs.declared.mode.Mode.TheVariants.{CR, PR, PW}
use Rattle.plain_cat.specs.declared.command.Cmd.{Cmd}
use Rattle.plain_cat.specs.declared.command.Cmd.TheVariants as command
use Rattle.plain_cat.specs.declared.reply.Reply.{Reply}
use Rattle.plain_cat.specs.declared.reply.Reply.TheVariants as reply
use Rattle.plain_cat.specs.declared.script.Script.{Script}
use Rattle.plain_cat.specs.declared.cat.File.{File}
use Rattle.plain_cat.specs.declared.cat.Open.{Open}
use Rattle.plain_cat.specs.InForm.{is_eighth, InForm}
use Rattle.plain_cat.specs.declared.history.Entry.{Entry}
use Rattle.plain_cat.specs.declared.history.Entry.TheVariants.{Done}
use Rattle.plain_cat.specs.declared.cat.Cat.{Cat}
use Rattle.plain_rules.specs.declared.outcome.Outcome.{Outcome}
use Rattle.plain_rules.specs.Accounts.{Accounted}
use Rattle.plain_rules.specs.Lookups.{channel_at, file_at, is_open}
use Rattle.plain_rules.specs.Changes.{with_channel}
use Rattle.plain_rules.specs.Answers.{told, removed, closed, close_of, close_outcome, outcome, Answer}
use Rattle.plain_rules.specs.Own.{NodePast, past, is_closed, after_answer, after_entry, command_after}
use Rattle.plain_histories.proofs.Commanding.{past_count}
use Rattle.plain_histories.proofs.Moving.{answer_moved}
use Rattle.plain_histories.proofs.Naming.{answer_names}
use Rattle.plain_rules.proofs.Keeps.{accounts_kept}
use Rattle.plain_past.specs.Laws.{is_of}
use Rattle.plain_past.proofs.Growing.{past_grows, past_of_others, own_grows, replays_grow}
use Rattle.node_locks.specs.Held.{system_of, names_of, HoldsItsLocks, AreHeld, waits_at, Row, with_rows}
use Rattle.node_locks.specs.Sweeping.{all_given}
use Rattle.node_locks.specs.PuttingBack.{Values, all_back}
use Rattle.node_locks.specs.Sequences.{first_sequence, second_sequence, raised_block}
use Rattle.base_words.specs.Lists.{Has, StandsIn, written}
use Rattle.base_words.proofs.Listing.{has_first, has_second}
use Rattle.node_locks.specs.Channels.{AllGoOn as RowsGoOn}
use Rattle.node_locks.proofs.Channels.{channels_give}
use Rattle.node_locks.proofs.Keeping.{rows_go_on}
use Rattle.vol_spell.specs.Owners.{Owners, Things, nothing, Outs}
use Rattle.base_words.proofs.ListWrites.{stands_joined}
use Rattle.vol_parts.specs.declared.geometry.Geometry.{Geometry}
use Rattle.vol_spell.specs.Spelling.{AreBlank, Spells}
use Rattle.vol_under.specs.UnderWay.{PlannedWrite, bare, UnderWay, writes_to, outs_after, outs_at, together, resting, idle, changed}
use Rattle.vol_under.specs.Guards.{guard_of}
use Rattle.vol_under.specs.Under.{IsUnder}
use Rattle.vol_under.proofs.Guarding.{wider_write}
use Rattle.vol_under.proofs.Nodes.{changed_here}
use Rattle.core_state.specs.Committed.{IsUnderOn, of_it}
use Rattle.core_state.specs.Staying.{IsGuarded, IsFreedBy}
use Rattle.core_state.proofs.Committed.{alike_on}
use Rattle.core_state.proofs.Heads.{guarded_or_freed}
use Rattle.op_law.specs.declared.need.Need.TheVariants as need
use Rattle.op_law.specs.declared.need.Plan.{Plan}
use Rattle.op_law.specs.declared.need.PlanWrite.{PlanWrite}
use Rattle.op_law.specs.Needs.{IsNext}
use Rattle.op_law.specs.declared.seen.Chan.{Chan}
use Rattle.op_law.specs.Knows.{has_channel}
use Rattle.op_law.specs.Fits.{things}
use Rattle.op_law.specs.Laws.{held_in, planned, under_way, IsRight}
use Rattle.core_state.specs.Worlds.{Stock, empty_stock, NodeState, Plain, node_at, set_node, rows_of, rows_in, rows_at}
use Rattle.core_state.specs.Raises.{raise_of}
use Rattle.core_state.specs.Asks.{writes_now, granted_ask, knows_now}
use Rattle.core_state.specs.Opens.{open_now, AreOpensLocked}
use Rattle.core_state.specs.Channels.{names_in_form, opened, channel_seen, channel_now, let_go, closed_off, HasOpens}
use Rattle.core_state.specs.Goods.{held_by, under_with, nodes_under, IsAt, IsNode, HasFewAnswers, Good}
use Rattle.core_space.specs.declared.run.Phase.TheVariants as phase
use Rattle.core_space.specs.declared.run.SpaceRun.{SpaceRun}
use Rattle.core_space.specs.Rule.{no_run, has_any}
use Rattle.core_space.specs.Laws.{things_of}
use Rattle.core_state.specs.Stocks.{roomless, things_in, taken_now, stock_now, looked_now}
use Rattle.core_state.specs.Caches.{keeps, raised_values, lowered_of}
use Rattle.core_state.specs.Stores.{hold_writes, HasStore, HasNothing, IsStocked}
use Rattle.core_state.specs.Searches.{Rules, Served, Given, Shared, Fills, Grabs, Filled, Drains, Alone, Looking, Taking, Taken, Refused, Spaces, Off, Back, Busy}
use Rattle.core_state.specs.Events.{given_back, all_writes, turned, stays, staying, going, used_locks, answering, all_put_back, locks_after, answered_by}
use Rattle.plain_histories.specs.Usages.{AreNear}
use Rattle.plain_histories.proofs.Stating.{answer_near, answer_small}
use Rattle.core_state.specs.Fallen.{falls}
use Rattle.core_state.proofs.StockSizes.{few_ready}
use Rattle.core_state.proofs.Falling.{answers_fell, answers_left}
use Rattle.core_state.proofs.Numbers.{Keeps as Numbers, answer_stays}
use Rattle.core_state.proofs.Opens.{opens_given}
use Rattle.core_state.proofs.Ends.{EndsSo}
use Rattle.core_state.proofs.Channels.{open_at, channel_from, IsNodeNumber, opens_go_on, others_go_on, channels_go_on}
use Rattle.core_state.proofs.Switching.{locks_go_on}
use Rattle.core_state.proofs.Commands.{names_channel}
use Rattle.core_state.proofs.SmallBegun.{few_go_on}
use Rattle.core_state.proofs.Nodes.{at_here, all_set}
use Rattle.core_state.proofs.Driving.{law_grows, reply_grows}
use Rattle.core_state.proofs.Holding.{in_held_is, is_in_held}
use Rattle.core_state.proofs.Running.{are_sole, under_grown}
use Rattle.core_state.proofs.Sweeps.{AreLetGo, in_filter, lets_go}
use Rattle.core_state.proofs.PutBacks.{is_low, OpensStay, opens_back}
use Rattle.core_state.proofs.CachedBacks.{used_once, used_apart, used_may, gone_once, gone_apart}
use Rattle.core_state.proofs.KeptReplies.{kept_then, store_then}
use Rattle.core_state.proofs.CachedReplies.{writes_then, cached_then}
use Rattle.node_locks.proofs.Nodes.{rows_here as own_rows}
use Rattle.core_state.proofs.Backing.{none_in_stock}
use Rattle.core_state.proofs.Blanks.{plan_outside, writes_blank}
use Rattle.core_state.proofs.Taking.{AnswersBy, its_outs, its_seen, changed_twice, widens, answers_by}
use Rattle.core_state.proofs.SmallTables.{IsSequence, is_first, is_second, both_little}
use Rattle.core_state.proofs.SmallWorlds.{small_answered}
use Rattle.core_state.proofs.Keeping.{rebuilt, held_set, LosesNothing, kept_once}
use Rattle.core_state.proofs.Standing.{calm, all_taken, none_taken, back_taken}
use Rattle.core_state.proofs.Turning.{take_none, under_command, here, space_now, writes_more}
use Rattle.node_locks.proofs.Standing.{goes-then, goes-same}

-- ---- locks that go back

-- they go back by their names
given_names : (g : Geometry) (n : ℕ) (ws : List PlanWrite) (ls : Row) (t : List Resource) → all_given n (λ name u. raised_block name (raise_of g name ws) (resource_at name u)) (names_of ls) t ≡ given_back g n ws ls t
given_names g n ws [] t = refl
given_names g n ws (l ∷ ls) t = given_names g n ws ls (released l.0 (system_of n) (raised_block l.0 (raise_of g l.0 ws) (resource_at l.0 t)) t)

-- ---- small steps

at_end : {A : Type 0} (xs : List A) (k : ℕ) → slice_get xs k ≡ None → length xs ≤ k
at_end [] k e = omega arith
at_end (x ∷ xs) zero e = absurd (let f : Some x ≡ None = e in cc)
at_end (x ∷ xs) (suc k) e = let le = at_end xs k e in omega arith

length_planned : (ws : List PlanWrite) → length (map planned ws) ≡ length ws
length_planned [] = refl
length_planned (w ∷ ws) = ap suc (length_planned ws)

taken_whole : {A : Type 0} (xs : List A) → take (length xs) xs ≡ xs
taken_whole [] = refl
taken_whole (x ∷ xs) = ap (λ ys. x ∷ ys) (taken_whole xs)

-- an entry of node n is none of another
not_of : (n m : ℕ) (x : Cmd) (r : Reply) → m ≢ n → is_of m (Done n x r) ≡ false
not_of n m x r ne = grind (arith, nat_tests)

own_entry : (n : ℕ) (p : NodePast) (x : Cmd) (r : Reply) → after_entry n p (Done n x r) ≡ after_answer p x r
own_entry n p x r = grind (arith, nat_tests)

-- ---- a channel gives its lock back

-- the rows of the nodes lose nothing by it
pub record ClosesOff (t after : List Resource) (rows : ℕ → List Row) : Type 0 where
  pub table : IsTable after
  pub goes_on : RowsGoOn t after rows

-- as where nothing changes
all_stay : (t : List Resource) (rows : ℕ → List Row) → IsTable t → AreHeld t rows → ClosesOff t t rows
all_stay t rows table held = record { table = table; goes_on = record { held = held; goes_on = λ m xs i. goes-same t m xs } }

no_system : (chan : ℕ) → is_eighth chan ≡ true → chan ≢ 0
no_system chan e f = let low = (channel_from chan e).0 in absurd (omega arith)

pub closes_off : (n : ℕ) (had : Option Chan) (x : Cmd) (r : Reply) (t : List Resource) (rows : ℕ → List Row) → names_in_form x ≡ true → IsTable t → AreHeld t rows → ClosesOff t (closed_off n had x r t) rows
closes_off n had (command.CloseFile chan) r t rows form table held = by_reply (is_closed r) had where
  by_reply : (b : Bool) (o : Option Chan) → ClosesOff t (cond b (let_go n chan o t) t) rows
  by_reply false o = all_stay t rows table held
  by_reply true None = all_stay t rows table held
  by_reply true (Some p) = record {
    table = IsTable-released (A p.file.num) (record { node = n; part = chan }) (replicate 16 0) t table;
    goes_on = channels_give t (record { node = n; part = chan }) (A p.file.num) (replicate 16 0) rows (no_system chan form) table held;
  }
closes_off n had y r t rows form table held = all_stay t rows table held

-- ---- what a close answers

some_true : (opens : List (Option Chan)) (k : ℕ) → slice_get (map is_some opens) k ≡ Some true → is_some (slice_index_or opens k None) ≡ true
some_true [] k e = absurd (let f : None ≡ Some true = e in cc)
some_true (o ∷ opens) zero e = let f : Some (is_some o) ≡ Some true = e in let g : is_some o ≡ true = cc in g
some_true (o ∷ opens) (suc k) e = some_true opens k e

closed_replies : (c : Cat) (k : ℕ) (f : Option File) → is_closed (closed c k f).reply ≡ true
closed_replies c k None = refl
closed_replies c k (Some f) = by_test (f.marked && not (is_open c k)) where
  by_test : (b : Bool) → is_closed (cond b (told (removed c k f) (reply.Closed true)) (told c (reply.Closed false))).reply ≡ true
  by_test true = refl
  by_test false = refl

-- that of a channel with a file open closes it
close_replies : (c d : Cat) (n chan : ℕ) (r : Reply) (o : Open) → channel_at c n chan ≡ Some o → Answer c n (command.CloseFile chan) r d → is_closed r ≡ true
unfolding outcome close_outcome
close_replies c d n chan r o at a = ap (λ (y : Outcome). is_closed y.reply) (sym a.2) ∙ ap (λ k. is_closed (close_of c n chan k).reply) at ∙ closed_replies (with_channel c n chan None) o.file (file_at c o.file)

-- the number of a node of the world
pub node_number : (w : Plain) → Good w → (n : ℕ) (s : NodeState) → node_at w.nodes n ≡ Some s → IsNodeNumber n
node_number w good zero s at = absurd (let f : None ≡ Some s = at in cc)
node_number w good (suc k) s at = record { from = omega arith; to = (let lt = slice_get_within w.nodes k s at in let count = good.counted in let le = few_nodes w.script good.form in omega arith) } where
  few_nodes : (c : Script) → InForm c → c.nodes ≤ 8
  few_nodes c form = let is = form.nodes in grind (arith, nat_tests)

-- ---- the answer

-- node n, whose command is at the end of the writes that it makes, answers with the reply that goes with them, by what is so of the
-- catalogue
module _ (w : Plain) (good : Good w) (n : ℕ) (s : NodeState) (at : node_at w.nodes n ≡ Some s) (x : Cmd) (cmd : s.cmd ≡ Some x) (free : waits_at w.locks n s.asked ≡ false) (granted : waits_at w.locks n s.claims ≡ false) (calmly : s.run.phase ≡ phase.Back → ⊥)
    (p : Plan) (is : IsNext x s.seen (need.Ready p)) (ws : List PlanWrite) (made : writes_now s.tried s.plan ≡ ws) (last : slice_get ws s.done ≡ None) (part : s.done ≤ length ws) (r : Reply) (know : Cat → Bool)
    (law : IsRight n x s.seen.geometry ws (under_way x s.seen ws know) r) (known : know good.running.cat ≡ true) (ends : EndsSo x s.seen.channel (granted_ask s.tried s.plan) r) where
  abbrev entry : Entry
  entry = Done n x r

  -- the locks once those of the command are put back and those that go have gone, and then that of its channel
  abbrev mid : List Resource
  mid = all_put_back w n s

  abbrev after : List Resource
  after = locks_after w n s x r

  abbrev rested : NodeState
  rested = turned (answering s x r)

  mine : IsNode w n s
  mine = good.nodes n s at

  now : IsAt w n s x
  now = under_command w good n s at x cmd free

  right : IsRight n x w.geometry ws (under_way x s.seen ws know) r
  right = subst (λ (g : Geometry). IsRight n x g ws (under_way x s.seen ws know) r) mine.geometry law

  whole : s.done ≡ length (map planned ws)
  whole = let le = at_end ws s.done last in let ge = part in let e = length_planned ws in omega arith

  abbrev cat : Cat
  cat = good.running.cat

  abbrev base : List Block
  base = good.running.drive.base

  abbrev own : Owners
  own = good.running.drive.own

  abbrev left_seen : List (ℕ × Block)
  left_seen = looked_now s.run

  abbrev stock : Things
  stock = stock_now s.stock s.run

  abbrev me : UnderWay
  me = record (under_way x s.seen ws (knows_now n x s.seen s.tried s.plan)) { read = held_in PR (held_by w.locks n s); write = held_in PW (held_by w.locks n s); seen = left_seen ++ s.seen.blocks; done = s.done; stock = stock }

  here_now : nodes_under w.locks w.nodes n ≡ me
  here_now = here w good n s at x cmd free ∙ ap (λ vs. record me { plan = map planned vs }) made

  -- a command that has decided was given all that its rules for space have taken
  needs_none : (k : ℕ) (b : Bool) → IsNext x s.seen (need.Space k b) → ⊥
  needs_none k b e = absurd (let f : need.Ready p ≡ need.Space k b = sym is ∙ e in cc)

  settled_by : Rules x s.kept s.claims s.run s.stock s.seen → taken_now s.run ≡ nothing
  settled_by (Served h) = absurd (needs_none _ _ h.needs.next)
  settled_by (Given h) = ap taken_now h.run
  settled_by (Shared h) = absurd (needs_none _ _ h.needs.next)
  settled_by (Fills h) = absurd (needs_none _ _ h.filling.needs.next)
  settled_by (Grabs h) = absurd (needs_none _ _ h.filling.needs.next)
  settled_by (Filled h) = absurd (needs_none _ _ h.needs.next)
  settled_by (Drains h) = absurd (needs_none _ _ h.needs.next)
  settled_by (Alone h) = absurd (needs_none _ _ h.needs.next)
  settled_by (Looking h) = absurd (needs_none _ _ h.needs.next)
  settled_by (Taking h) = absurd (needs_none _ _ h.needs.next)
  settled_by (Taken h) = all_taken s.run.phase s.run.writes s.run.made h.all
  settled_by (Refused h) = none_taken s.run.phase s.run.writes s.run.made h.writes h.made

  settled : Spaces (Some x) s.kept s.claims s.run s.stock s.seen → taken_now s.run ≡ nothing
  settled (Off h) = ap taken_now h.run
  settled (Back h) = back_taken s.run.phase s.run.writes s.run.made (inr h.back)
  settled (Busy y e r) = let f : Some x ≡ Some y = e in let g : x ≡ y = cc in settled_by (subst (λ (z : Cmd). Rules z s.kept s.claims s.run s.stock s.seen) (sym g) r)

  -- where all free space was searched, nothing is in its stock
  empty_by : s.run.phase ≡ phase.Last → Rules x s.kept s.claims s.run s.stock s.seen → s.stock ≡ empty_stock
  empty_by last (Served h) = absurd (needs_none _ _ h.needs.next)
  empty_by last (Given h) = absurd (let f : phase.Fill ≡ phase.Last = sym (ap (λ (k : SpaceRun). k.phase) h.run) ∙ last in cc)
  empty_by last (Shared h) = absurd (needs_none _ _ h.needs.next)
  empty_by last (Fills h) = absurd (needs_none _ _ h.filling.needs.next)
  empty_by last (Grabs h) = absurd (needs_none _ _ h.filling.needs.next)
  empty_by last (Filled h) = absurd (needs_none _ _ h.needs.next)
  empty_by last (Drains h) = absurd (needs_none _ _ h.needs.next)
  empty_by last (Alone h) = absurd (needs_none _ _ h.needs.next)
  empty_by last (Looking h) = absurd (needs_none _ _ h.needs.next)
  empty_by last (Taking h) = absurd (needs_none _ _ h.needs.next)
  empty_by last (Taken h) = h.found.claimed_so.empty
  empty_by last (Refused h) = h.claimed_so.empty

  empty_at_last : s.run.phase ≡ phase.Last → Spaces (Some x) s.kept s.claims s.run s.stock s.seen → s.stock ≡ empty_stock
  empty_at_last last (Off h) = absurd (let f : phase.Off ≡ phase.Last = sym (ap (λ (k : SpaceRun). k.phase) h.run) ∙ last in cc)
  empty_at_last last (Back h) = absurd (let f : phase.Back ≡ phase.Last = sym h.back ∙ last in cc)
  empty_at_last last (Busy y e r) = let f : Some x ≡ Some y = e in let g : x ≡ y = cc in empty_by last (subst (λ (z : Cmd). Rules z s.kept s.claims s.run s.stock s.seen) (sym g) r)

  -- its rules for space have made all of their writes
  made_by : Rules x s.kept s.claims s.run s.stock s.seen → take s.run.made s.run.writes ≡ s.run.writes
  made_by (Served h) = absurd (needs_none _ _ h.needs.next)
  made_by (Given h) = subst (λ (k : SpaceRun). take k.made k.writes ≡ k.writes) (sym h.run) refl
  made_by (Shared h) = absurd (needs_none _ _ h.needs.next)
  made_by (Fills h) = absurd (needs_none _ _ h.filling.needs.next)
  made_by (Grabs h) = absurd (needs_none _ _ h.filling.needs.next)
  made_by (Filled h) = absurd (needs_none _ _ h.needs.next)
  made_by (Drains h) = absurd (needs_none _ _ h.needs.next)
  made_by (Alone h) = absurd (needs_none _ _ h.needs.next)
  made_by (Looking h) = absurd (needs_none _ _ h.needs.next)
  made_by (Taking h) = absurd (needs_none _ _ h.needs.next)
  made_by (Taken h) = subst (λ (k : ℕ). take k s.run.writes ≡ s.run.writes) (sym h.all) (taken_whole s.run.writes)
  made_by (Refused h) = ap (λ (vs : List PlanWrite). take s.run.made vs) h.writes ∙ take_none s.run.made ∙ sym h.writes

  run_made : take s.run.made s.run.writes ≡ s.run.writes
  run_made = elim (calm x s.kept s.claims s.run s.stock s.seen calmly (space_now w good n s at x cmd free)) [
    | inl off ↦ subst (λ (k : SpaceRun). take k.made k.writes ≡ k.writes) (sym off.run) refl
    | inr rules ↦ made_by rules
  ]

  -- so all writes are made under locks that it holds
  all_made : hold_writes s ≡ all_writes s
  all_made =
      let a : s.done ≡ length ws = whole ∙ length_planned ws in
      let b : take s.done (writes_now s.tried s.plan) ≡ writes_now s.tried s.plan = (λ i. take (a i) (made i)) ∙ taken_whole ws ∙ sym made in
      λ i. run_made i ++ b i

  in_hold : (v : PlanWrite) → Has ws v → Has (hold_writes s) v
  in_hold v h = subst (λ (zs : List PlanWrite). Has zs v) (sym all_made) (has_second s.run.writes (writes_now s.tried s.plan) v (subst (λ (zs : List PlanWrite). Has zs v) (sym made) h))

  -- what it has outside then
  abbrev kept_stock : Things
  kept_stock = stock_now s.stock no_run

  stock_is : stock ≡ kept_stock
  stock_is = ap (together (things_in s.stock)) (settled (space_now w good n s at x cmd free))

  left : outs_at s.done me ≡ nothing
  left = ap (λ k. outs_after me.took (take k me.plan)) whole ∙ ap (outs_after me.took) (taken_whole (map planned ws)) ∙ right.left

  idle_now : idle me ≡ resting kept_stock
  idle_now = λ i. resting (together (left i) (stock_is i))

  answered : AnswersBy w.geometry cat base own (nodes_under w.locks w.nodes) w.blocks n me x r
  answered =
      answers_by w.geometry cat (nodes_under w.locks w.nodes) w.blocks n me here_now good.running.drive (are_sole w.locks w.nodes good.locked.0 good.locked.1) know
      (law_grows w.geometry n (under_way x s.seen ws know) (held_in PR (held_by w.locks n s)) (held_in PW (held_by w.locks n s)) left_seen s.done stock (writes_more w good n s at x cmd free) right.lawful)
      (λ base own spelt stands outs l t. wider_write n (held_in PW s.seen.locks) (held_in PW (held_by w.locks n s)) (writes_more w good n s at x cmd free) (guard_of w.geometry own l)
      (right.guarded base own cat stock spelt known ((stands_joined base left_seen s.seen.blocks).0 stands).1 outs l t))
      x r known whole
      (reply_grows w.geometry n (under_way x s.seen ws know) x r (held_in PR (held_by w.locks n s)) (held_in PW (held_by w.locks n s)) left_seen s.done stock (writes_more w good n s at x cmd free) right.reply)

  abbrev cat_then : Cat
  cat_then = answered.cat

  abbrev new : Owners
  new = answered.new

  -- the committed blocks, with the writes of the command
  abbrev committed : List Block
  committed = written (writes_to me.done me) base

  under_idle : IsUnderOn w.geometry cat_then committed new (changed (nodes_under w.locks w.nodes) n (resting kept_stock)) w.blocks
  under_idle = subst (λ (v : UnderWay). IsUnderOn w.geometry cat_then committed new (changed (nodes_under w.locks w.nodes) n v) w.blocks) idle_now answered.under

  -- all writes are done
  all_done : take s.done (map planned ws) ≡ map planned ws
  all_done = ap (λ (k : ℕ). take k (map planned ws)) whole ∙ taken_whole (map planned ws)

  stands : StandsIn base s.seen.blocks
  stands = ((stands_joined base left_seen s.seen.blocks).0 (its_seen w.geometry cat (nodes_under w.locks w.nodes) w.blocks n me here_now good.running.drive)).1

  outs : Outs n own (things s.seen.clusters s.seen.number) stock
  outs = its_outs w.geometry cat (nodes_under w.locks w.nodes) w.blocks n me here_now good.running.drive

  out_then : Outs n new nothing kept_stock
  out_then = subst (λ (v : UnderWay). Outs n new v.took v.stock) (changed_here (nodes_under w.locks w.nodes) n (resting kept_stock)) (under_idle.outs n)

  -- a block that may be cached stays so, or its directory was freed
  guarded : (name : LockName) (l : ℕ) → IsGuarded w.geometry own cat name l → IsGuarded w.geometry new cat_then name l ⊎ IsFreedBy w.geometry ws name
  guarded name l = guarded_or_freed w.geometry base own new cat cat_then n (held_in PW s.seen.locks) ws name l good.running.drive.spelt spelt_then
      (right.named base own cat stock good.running.drive.spelt known stands outs) (right.dirs base own cat stock good.running.drive.spelt known stands outs) where
        spelt_then : Spells w.geometry (written (bare (map planned ws)) base) new cat_then
        spelt_then = subst (λ (vs : List PlannedWrite). Spells w.geometry (written (bare vs) base) new cat_then) all_done under_idle.spelt

  -- the slots of numbers outside are free then
  blank_then : AreBlank w.geometry committed new
  blank_then = subst (λ (vs : List PlannedWrite). AreBlank w.geometry (written (bare vs) base) new) (sym all_done)
      (writes_blank w.geometry base own new cat (things s.seen.clusters s.seen.number) ws good.running.drive.spelt (right.slots base own cat stock good.running.drive.spelt known stands outs)
      (plan_outside n me.write own new (things s.seen.clusters s.seen.number) stock outs answered.moves kept_stock out_then (ap (λ (t : Things). t.numbers) (sym stock_is)))
      good.running.blank)

  all_mine : HoldsItsLocks w.locks n (rows_of s)
  all_mine = subst (λ (rs : List Row). HoldsItsLocks w.locks n rs) (ap rows_in at) (good.locked.1 n)

  abbrev values : Values
  values = raised_values w.geometry (all_writes s)

  abbrev raises : LockName → List Resource → List ℕ
  raises name u = raised_block name (raise_of w.geometry name (all_writes s)) (resource_at name u)

  given : AreLetGo w.locks n (kept_then s) (rows_at w.nodes) mid
  given = subst (AreLetGo w.locks n (kept_then s) (rows_at w.nodes)) (given_names w.geometry n (all_writes s) (going s) (all_back n (keeps s.cache) values (used_locks s) w.locks))
      (lets_go (keeps s.cache) values raises (stays s) w.locks n (rows_at w.nodes) s.kept s.asked s.claims good.locked.0 good.locked.1 (ap rows_in at) mine.rests free granted (is_low s.cache) (kept_once s all_mine.once) (used_apart w good n s at free granted))

  -- its rows are empty then, but for what stays, and the other nodes lose nothing
  abbrev rows_then : ℕ → List Row
  rows_then = with_rows (rows_at w.nodes) n (rows_of rested)

  held_mid : AreHeld mid rows_then
  held_mid = given.held

  let_off : ClosesOff mid after rows_then
  let_off = closes_off n (channel_seen s.opens x) x r mid rows_then now.form given.table held_mid

  others_rows : (m : ℕ) → m ≢ n → rows_then m ≡ rows_at w.nodes m
  others_rows m ne = grind (arith, nat_tests)

  rows_here : rows_then n ≡ rows_of rested
  rows_here = own_rows (rows_at w.nodes) n (rows_of rested)

  others_go : (m : ℕ) (q : NodeState) → m ≢ n → node_at w.nodes m ≡ Some q → LosesNothing w.locks after m q
  others_go m q ne e ls i =
      let first = given.others m ls ne (subst (λ (rs : List Row). Has rs ls) (sym (ap rows_in e)) i) in
      let second = let_off.goes_on.goes_on m ls (subst (λ (rs : List Row). Has rs ls) (sym (others_rows m ne ∙ ap rows_in e)) i) in
      goes-then w.locks mid after m ls first second

  rests_then : waits_at after n (kept_then s) ≡ false
  rests_then =
      let second = let_off.goes_on.goes_on n (kept_then s) (subst (λ (rs : List Row). Has rs (kept_then s)) (sym rows_here) (inl refl)) in
      second.waits given.rests

  -- ---- what stays

  held_then : AreHeld after (rows_at (set_node w.nodes n rested))
  held_then = held_set after w.nodes n s rested at let_off.goes_on.held

  -- with a stock the rules have not come to search all free space
  not_last : has_any (roomless s.stock) ≡ true → s.run.phase ≡ phase.Last → ⊥
  not_last some last =
      absurd (let f : true ≡ false = sym some ∙ ap (λ (k : Stock). has_any (roomless k)) (empty_at_last last (space_now w good n s at x cmd free)) in cc)

  store_so : HasStore phase.Off (kept_then s) s.cache
  store_so = store_then s mine.store not_last (kept_once rested held_mine.once) where
    held_mine : HoldsItsLocks after n (rows_of rested)
    held_mine = subst (λ (rs : List Row). HoldsItsLocks after n rs) (ap rows_in (at_here w.nodes n rested s at)) (held_then n)

  stocked_then : IsStocked rested
  stocked_then = record { holds = elim (good.running.stocked n s at).holds [ inl none ↦ inl (nothing_then (none_in_stock s.stock s.run none.stock)) | inr h ↦ by_any (has_any (roomless s.stock)) refl h ]; few = inl (few_ready s x cmd p is (good.running.stocked n s at).few) } where
    no_list : (xs : List ℕ) → nat_lt 0 (length xs) ≡ false → xs ≡ []
    no_list [] e = refl
    no_list (y ∷ xs) e = absurd (let f : true ≡ false = sym (some (length xs)) ∙ e in cc) where
      some : (k : ℕ) → nat_lt 0 (suc k) ≡ true
      some k = grind (arith, nat_tests)

    neither : (a b : Bool) → (a || b) ≡ false → (a ≡ false) × (b ≡ false)
    neither true b e = absurd (let f : true ≡ false = e in cc)
    neither false b e = (refl, e)

    nothing_then : has_any (roomless s.stock) ≡ false → HasNothing rested
    nothing_then e =
        let tests = neither (nat_lt 0 (length s.stock.clusters)) (nat_lt 0 (length s.stock.numbers)) e in
        record { given = refl; stock = λ i. together (things_of (no_list s.stock.clusters tests.0 i) (no_list s.stock.numbers tests.1 i)) nothing }

    by_any : (b : Bool) → has_any (roomless s.stock) ≡ b → Has (held_in CR s.kept) X → HasNothing rested ⊎ Has (held_in CR (kept_then s)) X
    by_any false e h = inl (nothing_then e)
    by_any true e h =
        let k = in_held_is CR s.kept X h in
        inr (is_in_held CR (kept_then s) X (record { in_mode = k.in_mode; has = has_first (staying s) (lowered_of s.cache (used_locks s)) (X, k.in_mode) (in_filter (stays s) s.kept (X, k.in_mode) k.has e); strong = k.strong }))

  -- ---- the drive

  abbrev alone_now : UnderWay
  alone_now = resting kept_stock

  under_then : IsUnderOn w.geometry cat_then committed new (changed (nodes_under w.locks w.nodes) n (under_with after n rested rested.cmd)) w.blocks
  under_then =
      let read : List LockName = held_in PR (held_by after n rested) in
      let write : List LockName = held_in PW (held_by after n rested) in
      let b : UnderWay = record alone_now { read = read; write = write } in
      let one : IsUnder w.geometry cat_then (changed (nodes_under w.locks w.nodes) n alone_now) w.blocks = of_it w.geometry cat_then committed new (changed (nodes_under w.locks w.nodes) n alone_now) w.blocks under_idle in
      let two = widens w.geometry cat_then (changed (nodes_under w.locks w.nodes) n alone_now) w.blocks n alone_now (changed_here (nodes_under w.locks w.nodes) n alone_now) one read write (λ name h. absurd h) (λ name h. absurd h) in
      alike_on w.geometry cat_then committed new (changed (changed (nodes_under w.locks w.nodes) n alone_now) n b) (changed (nodes_under w.locks w.nodes) n b) w.blocks (λ m. changed_twice (nodes_under w.locks w.nodes) n alone_now b m) two

  busy : s.cmd ≡ None → ⊥
  busy none = absurd (let f : Some x ≡ None = sym cmd ∙ none in cc)

  alive : s.past.dead ≡ false
  alive = by_death s.past.dead refl where
    by_death : (b : Bool) → s.past.dead ≡ b → s.past.dead ≡ false
    by_death true e = absurd (busy (mine.gone e).cmd)
    by_death false e = e

  grows : past n (w.history ++ entry ∷ []) ≡ after_answer s.past x r
  grows = past_grows n w.history entry ∙ own_entry n (past n w.history) x r ∙ ap (λ y. after_answer y x r) (sym mine.past)

  kept : Numbers good.running.cat cat_then
  kept = answer_stays good.running.cat cat_then n x r good.running.named answered.answer

  -- ---- its channels

  number : IsNodeNumber n
  number = node_number w good n s at

  channel_is_so : s.seen.channel ≡ channel_seen s.opens x
  channel_is_so = mine.channel ∙ ap (channel_now s.opens) cmd

  ends_so : EndsSo x (channel_seen s.opens x) (granted_ask s.tried s.plan) r
  ends_so = subst (λ (o : Option Chan). EndsSo x o (granted_ask s.tried s.plan) r) channel_is_so ends

  opens_used : OpensStay n (keeps s.cache) values (used_locks s) (open_now good.running.cat w.nodes) w.locks
  opens_used = opens_back n s.cache values (open_now good.running.cat w.nodes) mine.store.guarding (used_locks s) w.locks good.locked.0 (used_may w good n s at free granted) good.running.opens

  opens_locked : AreOpensLocked after (open_now cat_then (set_node w.nodes n rested))
  opens_locked = locks_go_on good.running.cat cat_then w.nodes n s rested at refl x r mid given.table
      (opens_given w.geometry n (all_writes s) (going s) (all_back n (keeps s.cache) values (used_locks s) w.locks) (open_now good.running.cat w.nodes) opens_used.0 opens_used.1)
      (answer_moved good.running.cat cat_then n x r answered.answer).opens good.running.named.places number now.form (good.running.opened n s at) ends_so

  -- what a close of an open channel answers
  close_is : (chan : ℕ) → x ≡ command.CloseFile chan → slice_get s.past.channels (chan - 1) ≡ Some true → is_closed r ≡ true
  close_is chan e is_open_so =
      let its = channel_from chan (subst (λ (y : Cmd). names_in_form y ≡ true) e now.form) in
      let has = (good.running.opened n s at).each chan its.0 its.1 in
      by_open (opened s.opens chan) refl (some_true s.opens (chan - 1) (ap (λ cs. slice_get cs (chan - 1)) (mine.channels alive) ∙ is_open_so)) has where
        by_open : (o : Option Chan) → opened s.opens chan ≡ o → is_some o ≡ true → has_channel good.running.cat n (Some chan) o ≡ true → is_closed r ≡ true
        by_open None f some has = absurd (let g : false ≡ true = some in cc)
        by_open (Some p) f some has =
            let o = open_at good.running.cat n chan p has in
            close_replies good.running.cat cat_then n chan r o.open_is o.at (subst (λ (y : Cmd). Answer good.running.cat n y r cat_then) e answered.answer)

  few_then : HasFewAnswers w.script n (past n (w.history ++ entry ∷ []))
  few_then = subst (HasFewAnswers w.script n) (sym grows) (few_go_on w.script n s.past x r (ap (λ p. length p.channels) mine.past ∙ past_count n w.history) (ap (command_after w.script n) mine.past ∙ now.next) close_is
      (subst (HasFewAnswers w.script n) (sym mine.past) (good.few n)))

  -- no sequence is raised by more than two
  little : (seq : List ℕ → ℕ) → IsSequence seq → (name : LockName) → seq (resource_at name mid).value ≤ seq (resource_at name w.locks).value + 2
  little seq is name = both_little seq is w.geometry n (all_writes s) (keeps s.cache) (used_locks s) (going s) w.locks (used_once w good n s at free granted) (gone_once w good n s at free granted) (used_may w good n s at free granted) (gone_apart w good n s at free granted) name

  pub answers_keep : Good (answered_by w n s x r)
  unfolding after_answer
  answers_keep = rebuilt w good n s rested at after w.blocks (w.history ++ entry ∷ [])
      (record {
        cat = cat_then;
        replayed = replays_grow w.opening w.script w.history good.running.cat entry cat_then good.running.replayed answered.answer;
        base = committed;
        own = new;
        blank = blank_then;
        cached = cached_then w good n s at free granted x r (w.history ++ entry ∷ []) all_made let_off.table held_then rests_then others_go cat_then new ws in_hold guarded;
        drive = under_grown w.geometry cat_then committed new w.locks after w.nodes n s rested w.blocks at
            (λ m q k ne e h. rows_go_on w.locks after m (rows_of q) k (others_go m q ne e) h) under_then;
        accounted = subst (λ (o : Outcome). Accounted o.after) answered.answer.2 (accounts_kept good.running.cat n x answered.answer.0 good.running.accounted answered.answer.1);
        near = subst (AreNear cat_then) (sym (answers_fell w.history n x r)) (answer_near good.running.cat cat_then n x r (falls w.history) good.running.near answered.answer);
        sized = answer_small good.running.cat cat_then n x r good.running.sized answered.answer;
        fell = answers_fell w.history n x r ∙ good.running.fell ∙ sym (answers_left w.history n x r w.script.nodes);
        system = λ m le. kept m le (good.running.system m le);
        named = answer_names good.running.cat cat_then n x r (names_channel x now.form) good.running.named answered.answer;
        opens = opens_locked;
        opened = all_set w.nodes n s rested at (λ m q. HasOpens cat_then m q.opens)
            (opens_go_on good.running.cat cat_then n s.opens x r answered.answer number now.form good.running.named (good.running.opened n s at) (channel_seen s.opens x) (granted_ask s.tried s.plan) ends_so)
            (λ m q ne e. others_go_on good.running.cat cat_then n s.opens x r answered.answer number now.form good.running.named (good.running.opened n s at) m q.opens (node_number w good m q e) ne (good.running.opened m q e));
      })
      (let_off.table, held_then)
      (own_grows w.script w.history entry good.own (sym (ap (λ y. y.dead) mine.past) ∙ alive, now.next))
      (small_answered w good.small n s rested at mid (little first_sequence is_first) (little second_sequence is_second) (channel_seen s.opens x) x r w.blocks cmd refl)
      few_then
      (λ m ne. past_of_others m w.history entry (not_of n m x r ne))
      others_go stocked_then
      (writes_then w good n s at free granted x r (w.history ++ entry ∷ []) all_made let_off.table held_then rests_then others_go)
      (record {
        past = sym grows;
        geometry = mine.geometry;
        channels = λ on. channels_go_on s.past s.opens x (channel_seen s.opens x) (granted_ask s.tried s.plan) r ends_so (mine.channels alive);
        channel = refl;
        store = store_so;
        rests = rests_then;
        asks = λ e. absurd (let f : false ≡ true = e in cc);
        command = record { locks = refl; blocks = refl; space = record { clusters = refl; number = refl; short = refl }; asked = refl; plan = refl; done = refl };
        space = Off (record { run = refl; claims = refl; space = record { clusters = refl; number = refl; short = refl } });
        over = λ o. absurd (busy (mine.over o).0.cmd);
        gone = λ o. absurd (let f : true ≡ false = sym o ∙ alive in cc);
      })
