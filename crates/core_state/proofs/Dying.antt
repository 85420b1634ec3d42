-- A node dies: the history has one entry more, all its locks are gone, and its opens are closed. Of what the other nodes have cached,
-- nothing is current any more under the locks that it held in PW.
use Rattle.std.proofs.Common.{◌≡◌, ◌≢◌, ◌≤◌, ◌<◌, ◌⊎◌, ◌==◌, ◌+◌, ◌-◌, ◌*◌, ◌++◌, ◌↔◌, ◌||◌, ℕ, zero, suc, Bool, true, false, cond, eqb, List, [], ◌∷◌, Option, Some, None, length, map, take, slice_get, refl, sym, ap, subst, ◌∙◌, inl, inr, arith}
use Rattle.std.specs.Prelude.{drop, filter, is_none, replicate, nat_lt}
use Rattle.std.specs.List.{list_any, range_with_len, sum_by}
use Rattle.std.proofs.lemmas.Bool.{and_parts}
use Rattle.std.proofs.lemmas.Bool.Decides.{nat_tests}
use Rattle.std.proofs.Math.Nat.{div-le_self}
use Rattle.std.proofs.lemmas.Option.{slice_get_within}
use Rattle.plain_cat.specs.InForm.{is_eighth}
use Rattle.plain_cat.specs.declared.command.Cmd.{Cmd}
use Rattle.plain_cat.specs.declared.command.Cmd.TheVariants as cmd
use Rattle.plain_cat.specs.declared.history.Stage.{Stage}
use Rattle.plain_cat.specs.declared.history.Stage.TheVariants as stage
use Rattle.plain_cat.specs.declared.history.Entry.{Entry}
use Rattle.plain_cat.specs.declared.cat.Cat.{Cat}
use Rattle.plain_cat.specs.declared.cat.Open.{Open}
use Rattle.plain_rules.specs.Lookups.{joined, channel_at, place, clusters_in}
use Rattle.plain_rules.specs.Own.{NodePast, past, next_command}
use Rattle.plain_rules.specs.Stages.{staged}
use Rattle.plain_rules.specs.Replaying.{dead, MayLeak}
use Rattle.plain_past.specs.Laws.{is_of}
use Rattle.plain_past.proofs.Growing.{past_grows, past_of_others, own_grows, replays_grow}
use Rattle.plain_histories.specs.Opens.{IsChannel, OpensNameFiles}
use Rattle.plain_histories.specs.Moves.{switched_by, switched_next, IsElsewhere}
use Rattle.plain_histories.proofs.Keeping.{stage_keeps, dead_keeps}
use Rattle.plain_histories.proofs.Naming.{stage_names, dead_names}
use Rattle.plain_histories.specs.Usages.{AreNear}
use Rattle.plain_histories.proofs.Stating.{stage_near, dead_near, stage_small, dead_small}
use Rattle.plain_histories.proofs.Closing.{own_closed, others_left}
use Rattle.plain_histories.proofs.DeathStages.{deaths_account, deaths_taken}
use Rattle.lock_db.specs.declared.name.LockName.{LockName}
use Rattle.lock_db.specs.declared.name.LockName.TheVariants.{A}
use Rattle.lock_db.specs.declared.name.Owner.{Owner}
use Rattle.lock_db.specs.declared.resource.Resource.{Resource}
use Rattle.lock_db.specs.declared.askers.Standing.TheVariants.{Granted}
use Rattle.lock_db.specs.Names.{is_same}
use Rattle.lock_db.specs.Tables.{IsTable, dropped}
use Rattle.lock_db.specs.Laws.{stands_at}
use Rattle.lock_db.proofs.Steps.{IsTable-dropped}
use Rattle.node_locks.proofs.Dropping.{granted_stays, nothing_comes, own_go, first_stays, second_stays}
use Rattle.node_cache.proofs.Entries.{cache-nil}
use Rattle.node_locks.specs.Held.{Row, AreHeld}
use Rattle.node_locks.specs.HeldLaws.{IsLeftByDeath}
use Rattle.node_locks.proofs.Dying.{dying_holds}
use Rattle.node_locks.proofs.Keeping.{rows_go_on}
use Rattle.base_words.specs.Fields.{Block}
use Rattle.base_words.specs.Lists.{Has, written}
use Rattle.vol_spell.specs.Owners.{Owners, Things, nothing, Outs}
use Rattle.base_words.proofs.Listing.{same_or_not, has_second, filtered}
use Rattle.vol_spell.specs.Reading.{total_of}
use Rattle.vol_spell.specs.Spelling.{AreBlank, Spells}
use Rattle.vol_spell.proofs.Clusters.{once_range}
use Rattle.vol_under.specs.UnderWay.{PlannedWrite, bare, UnderWay, first_stage, writes_to, stage_after, stage_at, outs_after, together, all_out, resting, changed, AreSole, StandsAt}
use Rattle.vol_under.proofs.Nodes.{changed_here}
use Rattle.vol_under.specs.Ending.{AreNumbersOf}
use Rattle.op_law.specs.declared.need.PlanWrite.{PlanWrite}
use Rattle.op_law.specs.declared.seen.Chan.{Chan}
use Rattle.op_law.specs.Fits.{things}
use Rattle.op_law.specs.Knows.{has_channel}
use Rattle.op_law.specs.Laws.{held_in, planned}
use Rattle.plain_cat.specs.declared.mode.Mode.TheVariants.{PW}
use Rattle.core_state.specs.Staying.{IsGuarded, IsFreedBy}
use Rattle.core_state.specs.Committed.{IsUnderOn, on_its_own}
use Rattle.core_state.proofs.Guarded.{deaths_stay}
use Rattle.core_state.proofs.Heads.{guarded_or_freed}
use Rattle.core_state.specs.Worlds.{NodeState, Plain, node_at, set_node, rows_of, rows_in, rows_at}
use Rattle.core_state.specs.Asks.{writes_now}
use Rattle.core_state.specs.Opens.{is_channel, open_of, open_with, asked_in, asked_at, open_now, open_stands, AreOpensLocked}
use Rattle.core_state.specs.Channels.{names_in_form, opened, HasOpens}
use Rattle.core_state.specs.Stocks.{stock_now}
use Rattle.core_state.specs.Searches.{Off}
use Rattle.core_state.specs.Stores.{AreCached}
use Rattle.core_state.specs.Goods.{under_with, nodes_under, IsIdle, HasCommand, IsNode, HasFewAnswers, Good}
use Rattle.core_state.specs.Small.{is_begun, has_command, owed, AreSmall}
use Rattle.core_state.specs.Fallen.{falls}
use Rattle.core_state.specs.Events.{is_out, is_over}
use Rattle.core_state.specs.Deaths.{writes_done, stage_now, outside_now, has_number, numbers_that, numbers_of, death_of, gone, died_by, died_at, died}
use Rattle.core_state.proofs.Falling.{death_fell, death_left, fewer_fallen}
use Rattle.core_state.proofs.Nodes.{at_here, at_else, all_set}
use Rattle.core_state.proofs.Channels.{as_open, channel_from, IsNodeNumber, channel_is, none_there}
use Rattle.core_state.proofs.Running.{under_here, under_grown, are_sole}
use Rattle.core_state.proofs.Keeping.{altered, rebuilt, held_set, LosesNothing}
use Rattle.core_state.proofs.SmallCounts.{sum_more}
use Rattle.core_state.proofs.SmallWorlds.{small_event}
use Rattle.core_state.proofs.Answering.{node_number}
use Rattle.core_state.proofs.Midway.{all_known}
use Rattle.core_state.proofs.Leaking.{same_files, LeaksOn, Stops, stop_on, stopped_out, may_leak, death_on}
use Rattle.core_state.proofs.Cached.{written_by}
use Rattle.core_state.proofs.CachedTruth.{committed_truth}
use Rattle.core_state.proofs.Blanks.{death_outside, writes_blank}
use Rattle.core_state.proofs.CachedDone.{take_planned, given, given_out, writes_made, made_named, made_leave, made_fill}
use Rattle.core_state.proofs.CachedDeaths.{death_writes, death_cached}
use Rattle.core_state.proofs.Opens.{channel_parts}
use Rattle.core_state.proofs.Seeking.{neither}

-- ---- small steps

abbrev one : Bool → ℕ
one b = cond b 1 0

-- a node with a command owes three at least, and so four with its death
owed_less : (s : NodeState) → 4 * one (has_command s) ≤ owed s + 4
owed_less s = by_test (has_command s) where
  by_test : (b : Bool) → 4 * one b ≤ owed s + 4
  by_test true = omega arith
  by_test false = omega arith

-- ---- the numbers that are leaked

has_filtered : (p : ℕ → Bool) (xs : List ℕ) (x : ℕ) → Has (filter p xs) x ↔ (Has xs x × (p x ≡ true))
has_filtered p [] x = ((λ h. absurd h), (λ h. absurd h.0))
has_filtered p (y ∷ xs) x = by_test (p y) refl (has_filtered p xs x) where
  by_test : (b : Bool) → p y ≡ b → (Has (filter p xs) x ↔ (Has xs x × (p x ≡ true))) → Has (cond b (y ∷ filter p xs) (filter p xs)) x ↔ (((y ≡ x) ⊎ Has xs x) × (p x ≡ true))
  by_test true e rest = (
    (λ h. elim h [ inl f ↦ (inl f, sym (ap p f) ∙ e) | inr t ↦ let r = rest.0 t in (inr r.0, r.1) ]),
    (λ h. elim h.0 [ inl f ↦ inl f | inr t ↦ inr (rest.1 (t, h.1)) ]),
  )
  by_test false e rest = (
    (λ h. let r = rest.0 h in (inr r.0, r.1)),
    (λ h. elim h.0 [ inl f ↦ absurd (let g : true ≡ false = sym h.1 ∙ sym (ap p f) ∙ e in cc) | inr t ↦ rest.1 (t, h.1) ]),
  )

has_range : (a k x : ℕ) → a ≤ x → x < a + k → Has (range_with_len a k) x
has_range a zero x low high = absurd (omega arith)
has_range a (suc k) x low high = by_first (a == x) refl (λ more. has_range (a + 1) k x more (omega arith)) where
  is_same : (a == x) ≡ true → a ≡ x
  is_same e = grind (arith, nat_tests)

  is_above : (a == x) ≡ false → a + 1 ≤ x
  is_above e = grind (arith, nat_tests)

  by_first : (b : Bool) → (a == x) ≡ b → (a + 1 ≤ x → Has (range_with_len (a + 1) k) x) → Has (range_with_len a (suc k)) x
  by_first true e more = inl (is_same e)
  by_first false e more = inr (more (is_above e))

-- a number that is among things from 0
any_has : (is : List ℕ) (n : ℕ) → list_any (λ i. i + 1 == n) is ≡ true → Has (map (λ i. i + 1) is) n
any_has [] n e = absurd (let f : false ≡ true = e in cc)
any_has (i ∷ is) n e = by_first (i + 1 == n) refl e (any_has is n) where
  same : (a b : ℕ) → (a == b) ≡ true → a ≡ b
  same a b e = grind (arith, nat_tests)

  by_first : (b : Bool) → (i + 1 == n) ≡ b → (b || list_any (λ i. i + 1 == n) is) ≡ true → (list_any (λ i. i + 1 == n) is ≡ true → Has (map (λ i. i + 1) is) n) → Has (map (λ i. i + 1) (i ∷ is)) n
  by_first true f e rest = inl (same (i + 1) n f)
  by_first false f e rest = inr (rest e)

has_any : (is : List ℕ) (n : ℕ) → Has (map (λ i. i + 1) is) n → list_any (λ i. i + 1 == n) is ≡ true
has_any [] n h = absurd h
has_any (i ∷ is) n (inl e) = ap (λ b. b || list_any (λ i. i + 1 == n) is) (same (i + 1) n e) where
  same : (a b : ℕ) → a ≡ b → (a == b) ≡ true
  same a b e = grind (arith, nat_tests)
has_any (i ∷ is) n (inr h) = either (i + 1 == n) (has_any is n h) where
  either : (b : Bool) → list_any (λ i. i + 1 == n) is ≡ true → (b || list_any (λ i. i + 1 == n) is) ≡ true
  either true e = refl
  either false e = e

few_numbers : (is : List ℕ) (most n : ℕ) → ((i : ℕ) → Has is i → i < most) → Has (map (λ i. i + 1) is) n → (1 ≤ n) × (n ≤ most)
few_numbers [] most n few h = absurd h
few_numbers (i ∷ is) most n few (inl e) = let lt = few i (inl refl) in (omega arith, omega arith)
few_numbers (i ∷ is) most n few (inr h) = few_numbers is most n (λ j t. few j (inr t)) h

-- the numbers of a death are those among its things
numbers_are : (t : Things) → ((i : ℕ) → Has t.numbers i → i < 4096) → AreNumbersOf (numbers_of t) t
unfolding numbers_that
numbers_are t few = record {
  same = λ n. (
    (λ h. any_has t.numbers n ((has_filtered (has_number t) (range_with_len 1 4096) n).0 h).1),
    (λ h. let k = few_numbers t.numbers 4096 n few h in let low = k.0 in let high = k.1 in (has_filtered (has_number t) (range_with_len 1 4096) n).1 (has_range 1 4096 n low (omega arith), has_any t.numbers n h)),
  );
  once = filtered.once (has_number t) (range_with_len 1 4096) (once_range 1 4096);
}

-- ---- its channels

-- the channel that a command switches is one of eight
switched_form : (y : Cmd) (k : ℕ) → names_in_form y ≡ true → switched_by y ≡ Some k → (1 ≤ k) × (k ≤ 8)
switched_form (cmd.OpenFile chan file mode) k form e =
    let f : chan ≡ k = (let g : Some chan ≡ Some k = e in cc) in
    subst (λ (j : ℕ). (1 ≤ j) × (j ≤ 8)) f (channel_from chan (and_parts (is_eighth chan) _ form).0)
switched_form (cmd.CloseFile chan) k form e =
    let f : chan ≡ k = (let g : Some chan ≡ Some k = e in cc) in
    subst (λ (j : ℕ). (1 ≤ j) × (j ≤ 8)) f (channel_from chan form)
switched_form other k form e = absurd (let f : None ≡ Some k = e in cc)

-- a node whose channels have nothing open
all_closed : (d : Cat) (n : ℕ) → ((chan : ℕ) → 1 ≤ chan → chan ≤ 8 → channel_at d n chan ≡ None) → HasOpens d n (replicate 8 None)
all_closed d n none = record {
  count = refl;
  each = λ chan low high. ap (has_channel d n (Some chan)) (none_there 8 (chan - 1)) ∙ ap is_none (none chan low high);
}

-- an owner's locks of opens stay
stands_on : (name : LockName) (n : ℕ) (owner : Owner) (t : List Resource) (o : Option Open) → IsTable t → owner.node ≢ n → stands_at name owner t ≡ open_stands name o → stands_at name owner (dropped n t) ≡ open_stands name o
stands_on name n owner t None is far e = nothing_comes name n owner t is far e
stands_on name n owner t (Some o) is far e = by_name (is_same name (A o.file)) e where
  by_name : (b : Bool) → stands_at name owner t ≡ cond b (Some (Granted o.mode)) None → stands_at name owner (dropped n t) ≡ cond b (Some (Granted o.mode)) None
  by_name true f = granted_stays name n owner o.mode t is far f
  by_name false f = nothing_comes name n owner t is far f

-- a place behind all opens has nothing
none_behind : (os : List (Option Open)) (i : ℕ) → length os ≤ i → joined (slice_get os i) ≡ None
none_behind [] i le = refl
none_behind (o ∷ os) zero le = absurd (omega arith)
none_behind (o ∷ os) (suc i) le = none_behind os i (omega arith)

far_place : (c : Cat) (node chan : ℕ) → OpensNameFiles c → 8 < node → channel_at c node chan ≡ None
far_place c node chan named lt = none_behind c.opens (place node chan) (behind (length c.opens) named.places) where
  behind : (k : ℕ) → k ≡ 64 → k ≤ 8 * (node - 1) + (chan - 1)
  behind k e = omega arith

-- an idle node stops where it stands
idle_staged : (c d : Cat) (n : ℕ) (next : Option Cmd) (new : Option ℕ) → staged c n None stage.Idle new ≡ Some d → staged c n next stage.Idle new ≡ Some d
unfolding staged
idle_staged c d n next new e = e

-- a death leaves the clusters of the volume
total_dead : (c : Cat) (n clusters : ℕ) (numbers : List ℕ) → (dead c n clusters numbers).total ≡ c.total
unfolding dead
total_dead c n clusters numbers = refl

few_of : (lost volume blocks total reserved leaked used : ℕ) → lost ≤ total - reserved - leaked - used → total ≡ volume → volume ≤ blocks → blocks ≤ 65536 → lost < 4294967296
few_of lost volume blocks total reserved leaked used some is within most = omega arith

-- ---- the death

module _ (w : Plain) (good : Good w) (n : ℕ) (s : NodeState) (at : node_at w.nodes n ≡ Some s) (on : is_out s ≡ false) where
  abbrev c : Cat
  c = good.running.cat

  abbrev under : ℕ → UnderWay
  under = nodes_under w.locks w.nodes

  abbrev after : List Resource
  after = dropped n w.locks

  mine : IsNode w n s
  mine = good.nodes n s at

  not_over : s.over ≡ false
  not_over = (neither s.over s.past.dead on).0

  alive : s.past.dead ≡ false
  alive = (neither s.over s.past.dead on).1

  pub alive_by : (past n w.history).dead ≡ false
  alive_by = sym (ap (λ (p : NodePast). p.dead) mine.past) ∙ alive

  number : IsNodeNumber n
  number = node_number w good n s at

  pub in_script : (1 ≤ n) × (n ≤ w.script.nodes)
  in_script = by_number n at where
    by_number : (k : ℕ) → node_at w.nodes k ≡ Some s → (1 ≤ k) × (k ≤ w.script.nodes)
    by_number zero e = absurd (let f : None ≡ Some s = e in cc)
    by_number (suc k) e = let lt = slice_get_within w.nodes k s e in let count = good.counted in (omega arith, omega arith)

  sole : AreSole under
  sole = are_sole w.locks w.nodes good.locked.0 good.locked.1

  stands : under n ≡ under_with w.locks n s s.cmd
  stands = under_here w.locks w.nodes n s at

  -- ---- what it knows

  known : (under n).knows c ≡ true
  known = subst (λ (v : UnderWay). v.knows c ≡ true) (sym stands) (by_cmd s.cmd refl) where
    by_cmd : (o : Option Cmd) → s.cmd ≡ o → (under_with w.locks n s o).knows c ≡ true
    by_cmd None e = refl
    by_cmd (Some x) e = all_known w good n s at x e

  -- ---- where it stands

  none_taken : (k : ℕ) → take k (map planned (let ws : List PlanWrite = [] in ws)) ≡ []
  none_taken zero = refl
  none_taken (suc k) = refl

  -- a node that has no command has its stock outside
  idle_out : IsIdle s.seen s.asked s.plan s.done → outside_now s ≡ together nothing (stock_now s.stock s.run)
  idle_out idle =
      (λ i. together (outs_after (things (idle.space.clusters i) (idle.space.number i)) (take s.done (map planned (writes_now s.tried (idle.plan i))))) (stock_now s.stock s.run))
      ∙ ap (λ ws. together (outs_after nothing ws) (stock_now s.stock s.run)) (none_taken s.done)

  idle_stage : IsIdle s.seen s.asked s.plan s.done → stage_after stage.Idle (take s.done (map planned (writes_now s.tried s.plan))) ≡ stage.Idle
  idle_stage idle = ap (λ o. stage_after stage.Idle (take s.done (map planned (writes_now s.tried o)))) idle.plan ∙ ap (stage_after stage.Idle) (none_taken s.done)

  out_is : all_out (under n) ≡ outside_now s
  out_is = ap all_out stands ∙ by_cmd s.cmd mine.command where
    by_cmd : (o : Option Cmd) → HasCommand w n s o → all_out (under_with w.locks n s o) ≡ outside_now s
    by_cmd None idle = sym (idle_out idle)
    by_cmd (Some x) i = refl

  stage_is : stage_at (under n).done (under n) ≡ stage_now s
  stage_is = ap (λ (v : UnderWay). stage_at v.done v) stands ∙ by_cmd s.cmd mine.command where
    by_cmd : (o : Option Cmd) → HasCommand w n s o → stage_at (under_with w.locks n s o).done (under_with w.locks n s o) ≡ stage_after (first_stage o) (writes_done s)
    by_cmd None idle = sym (idle_stage idle)
    by_cmd (Some x) i = refl

  cmd_under : (under n).cmd ≡ s.cmd
  cmd_under = ap (λ (v : UnderWay). v.cmd) stands ∙ by_cmd s.cmd where
    by_cmd : (o : Option Cmd) → (under_with w.locks n s o).cmd ≡ o
    by_cmd None = refl
    by_cmd (Some x) = refl

  -- ---- the drive

  abbrev base : List Block
  base = good.running.drive.base

  abbrev own : Owners
  own = good.running.drive.own

  drive_on : IsUnderOn w.geometry c base own under w.blocks
  drive_on = on_its_own w.geometry c under w.blocks good.running.drive

  -- what its writes done leave
  law : Stops w.geometry c base own under n
  law = stop_on w.geometry c base own under w.blocks n sole drive_on known

  -- what it has outside is of the volume
  few_out : (i : ℕ) → Has (all_out (under n)).numbers i → i < 4096
  few_out i h =
      let out : Outs n law.new nothing (all_out (under n)) = stopped_out w.geometry c base own under w.blocks n sole drive_on law in
      let there = (out.numbers.all i).1 (inr h) in
      let lt : i < length law.new.numbers = slice_get_within law.new.numbers i _ there in
      let counts = law.spelt.counts in
      let count : length law.new.numbers ≡ w.geometry.files = counts.numbers in
      let most = counts.geometry.files_to in
      omega arith

  numbers_are_so : AreNumbersOf (numbers_of (outside_now s)) (all_out (under n))
  numbers_are_so = subst (λ (t : Things). AreNumbersOf (numbers_of t) (all_out (under n))) out_is (numbers_are (all_out (under n)) few_out)

  abbrev leaked : List ℕ
  leaked = numbers_of (outside_now s)

  abbrev lost : ℕ
  lost = length (outside_now s).clusters

  -- the catalogue of its stage, and the one after its death
  abbrev x : Cat
  x = law.cat

  abbrev d : Cat
  d = dead x n lost leaked

  -- the committed blocks then
  abbrev base_then : List Block
  base_then = written (writes_to (under n).done (under n)) base

  dies : LeaksOn w.geometry x base_then law.new under w.blocks n (all_out (under n)) leaked
  dies = death_on w.geometry c base own under w.blocks n sole drive_on law leaked numbers_are_so

  count_is : length (all_out (under n)).clusters ≡ lost
  count_is = ap (λ (t : Things). length t.clusters) out_is

  at_stage : StandsAt c n s.cmd (stage_now s) x
  at_stage = subst (λ (o : Option Cmd). StandsAt c n o (stage_now s) x) cmd_under (subst (λ (k : Stage). StandsAt c n (under n).cmd k x) stage_is law.stage)

  leak_is : MayLeak x lost leaked
  leak_is = subst (λ (k : ℕ). MayLeak x k leaked) count_is (may_leak w.geometry c base own under w.blocks n sole drive_on law leaked numbers_are_so)

  drive : IsUnderOn w.geometry d base_then dies.new (changed under n (resting nothing)) w.blocks
  drive = subst (λ (k : ℕ). IsUnderOn w.geometry (dead x n k leaked) base_then dies.new (changed under n (resting nothing)) w.blocks) count_is dies.under

  -- they are fewer than 2 ^ 32
  pub few_lost : lost < 4294967296
  few_lost = few_of lost (total_of w.geometry) w.geometry.blocks x.total x.reserved x.leaked (sum_by clusters_in (drop 11 x.files)) leak_is.0
      (sym (total_dead x n lost leaked) ∙ drive.spelt.constants.total) (div-le_self w.geometry.blocks w.geometry.cluster) drive.spelt.counts.geometry.blocks_to

  -- ---- the history

  abbrev entry : Entry
  entry = death_of n s

  abbrev history : List Entry
  history = w.history ++ entry ∷ []

  grows : past n history ≡ record (past n w.history) { dead = true }
  grows = past_grows n w.history entry ∙ ap (λ b. cond b (record (past n w.history) { dead = true }) (past n w.history)) (same n) where
    same : (k : ℕ) → eqb k k ≡ true
    same k = grind (arith, nat_tests)

  not_of : (m : ℕ) → m ≢ n → is_of m entry ≡ false
  not_of m ne = apart m n ne where
    apart : (a b : ℕ) → a ≢ b → (b == a) ≡ false
    apart a b ne = grind (arith, nat_tests)

  next_staged : staged c n (next_command w.script n w.history) (stage_now s) at_stage.0 ≡ Some x
  next_staged = by_cmd s.cmd mine.command at_stage.0 at_stage.2 where
    by_cmd : (o : Option Cmd) → HasCommand w n s o → (new : Option ℕ) → staged c n o (stage_after (first_stage o) (writes_done s)) new ≡ Some x → staged c n (next_command w.script n w.history) (stage_after (first_stage o) (writes_done s)) new ≡ Some x
    by_cmd None idle new e =
        let none = idle_stage idle in
        subst (λ (k : Stage). staged c n (next_command w.script n w.history) k new ≡ Some x) (sym none) (idle_staged c x n (next_command w.script n w.history) new (subst (λ (k : Stage). staged c n None k new ≡ Some x) none e))
    by_cmd (Some y) i new e = ap (λ o. staged c n o (stage_after (first_stage (Some y)) (writes_done s)) new) i.next ∙ e

  -- ---- the catalogue

  fewer : falls w.history < 8
  fewer =
      let lt = fewer_fallen w.history n w.script.nodes alive_by in_script.0 in_script.1 in
      let few = few_nodes in
      let same = good.running.fell in
      omega arith where
        few_nodes : w.script.nodes ≤ 8
        few_nodes = let is = good.form.nodes in grind (arith, nat_tests)

  near : AreNear d (falls history)
  near = subst (AreNear d) (sym (death_fell w.history n (stage_now s) lost (record { items = leaked; room = 0 })))
      (dead_near x n lost leaked (falls w.history + 1) (stage_near c x n s.cmd (stage_now s) at_stage.0 (falls w.history) good.running.sized good.running.named at_stage.1 good.running.near at_stage.2))

  -- ---- the channels

  elsewhere : (m chan : ℕ) → m ≢ n → IsElsewhere n (switched_next s.cmd) m chan
  elsewhere m chan ne k e = by_cmd s.cmd mine.command e where
    by_cmd : (o : Option Cmd) → HasCommand w n s o → switched_next o ≡ Some k → IsChannel n k × ((n ≡ m) × (k ≡ chan) → ⊥)
    by_cmd None idle f = absurd (let g : None ≡ Some k = f in cc)
    by_cmd (Some y) i f = let p = switched_form y k i.form f in (channel_is n k number p.0 p.1, λ q. ne (sym q.0))

  other_channel : (m chan : ℕ) → m ≢ n → IsChannel m chan → channel_at d m chan ≡ channel_at c m chan
  other_channel m chan ne its = others_left c x n m chan s.cmd (stage_now s) at_stage.0 lost leaked number.from its (λ e. ne (sym e)) (elsewhere m chan ne) at_stage.1 at_stage.2

  named_stage : OpensNameFiles x
  named_stage = stage_names c x n s.cmd (stage_now s) at_stage.0 good.running.named at_stage.1 at_stage.2

  named : OpensNameFiles d
  named = dead_names x n lost leaked named_stage

  open_else : (owner : Owner) → owner.node ≢ n → open_of d owner ≡ open_of c owner
  open_else owner ne = by_channel (is_channel owner) refl where
    by_size : (b : Bool) → nat_lt 8 owner.node ≡ b → (1 ≤ owner.node) × (1 ≤ owner.part) × (owner.part ≤ 8) → channel_at d owner.node owner.part ≡ channel_at c owner.node owner.part
    by_size true e p = let lt = above owner.node e in far_place d owner.node owner.part named lt ∙ sym (far_place c owner.node owner.part good.running.named lt) where
      above : (k : ℕ) → nat_lt 8 k ≡ true → 8 < k
      above k e = grind (arith, nat_tests)
    by_size false e p = other_channel owner.node owner.part ne (record { node_from = p.0; node_to = within owner.node e; from = p.1; to = p.2 }) where
      within : (k : ℕ) → nat_lt 8 k ≡ false → k ≤ 8
      within k e = grind (arith, nat_tests)

    by_channel : (b : Bool) → is_channel owner ≡ b → cond b (channel_at d owner.node owner.part) None ≡ cond b (channel_at c owner.node owner.part) None
    by_channel true e = by_size (nat_lt 8 owner.node) refl (channel_parts owner e)
    by_channel false e = refl

  own_none : (chan : ℕ) → 1 ≤ chan → chan ≤ 8 → channel_at d n chan ≡ None
  own_none chan low high = own_closed x n chan lost leaked low high

  abbrev nodes : List NodeState
  nodes = set_node w.nodes n (gone s)

  opens_locked : AreOpensLocked after (open_now d nodes)
  opens_locked name owner low = elim (same_or_not owner.node n) [ inl e ↦ own e | inr ne ↦ other ne ] where
    own : owner.node ≡ n → stands_at name owner after ≡ open_stands name (open_now d nodes owner)
    own e = own_go name n owner w.locks good.locked.0 e ∙ sym (ap (open_stands name) (asks_not ∙ by_channel (is_channel owner) refl)) where
      asks_not : open_now d nodes owner ≡ open_of d owner
      asks_not = ap (λ a. open_with owner.part a (open_of d owner)) (ap (asked_at nodes) e ∙ ap asked_in (at_here w.nodes n (gone s) s at))

      by_channel : (b : Bool) → is_channel owner ≡ b → cond b (channel_at d owner.node owner.part) None ≡ None
      by_channel true is = let p = channel_parts owner is in ap (λ k. channel_at d k owner.part) e ∙ own_none owner.part p.1 p.2
      by_channel false is = refl

    other : owner.node ≢ n → stands_at name owner after ≡ open_stands name (open_now d nodes owner)
    other ne =
        let same : open_now d nodes owner ≡ open_now c w.nodes owner = (λ i. open_with owner.part (ap asked_in (at_else w.nodes n owner.node (gone s) ne) i) (open_else owner ne i)) in
        stands_on name n owner w.locks (open_now c w.nodes owner) good.locked.0 ne (good.running.opens name owner low) ∙ ap (open_stands name) (sym same)

  other_opens : (m : ℕ) (q : NodeState) → m ≢ n → node_at w.nodes m ≡ Some q → HasOpens d m q.opens
  other_opens m q ne e = record { count = its.count; each = λ chan low high. by_open chan low high (opened q.opens chan) (its.each chan low high) } where
    its : HasOpens c m q.opens
    its = good.running.opened m q e

    by_open : (chan : ℕ) → 1 ≤ chan → chan ≤ 8 → (o : Option Chan) → has_channel c m (Some chan) o ≡ true → has_channel d m (Some chan) o ≡ true
    by_open chan low high None f = ap is_none (other_channel m chan ne (channel_is m chan (node_number w good m q e) low high)) ∙ f
    by_open chan low high (Some p) f =
        let there : IsChannel m chan = channel_is m chan (node_number w good m q e) low high in
        as_open d m chan p
        ∙ dead_keeps x n m chan lost leaked p.file p.mode number.from there (λ k. ne (sym k))
        (stage_keeps c x n m chan s.cmd (stage_now s) at_stage.0 p.file p.mode there (elsewhere m chan ne) at_stage.1 at_stage.2 (sym (as_open c m chan p) ∙ f))

  -- ---- the locks

  left : IsLeftByDeath n (rows_of (gone s)) (rows_at w.nodes) w.locks after
  left = dying_holds w.locks n (rows_of (gone s)) (rows_at w.nodes) good.locked.0 good.locked.1 refl

  others_go : (m : ℕ) (q : NodeState) → m ≢ n → node_at w.nodes m ≡ Some q → LosesNothing w.locks after m q
  others_go m q ne e ls i = left.others m ls ne (subst (λ (rs : List Row). Has rs ls) (sym (ap rows_in e)) i)

  small : AreSmall (altered w after w.blocks nodes history)
  small = small_event w good.small n s (gone s) at after w.blocks history 0 (one (is_begun entry))
      (λ name. let le = first_stays name n w.locks good.locked.0 in omega arith)
      (λ name. let le = second_stays name n w.locks good.locked.0 in omega arith)
      (sum_more (λ e. one (is_begun e)) w.history entry) (let a = owed_less s in omega arith)

  -- ---- the cached blocks

  held_then : AreHeld after (rows_at nodes)
  held_then = held_set after w.nodes n s (gone s) at left.held

  abbrev v : Plain
  v = altered w after w.blocks nodes history

  -- the writes that are done, as they are planned
  made_is : base_then ≡ written (bare (map planned (writes_made w good n s at))) base
  made_is = ap (λ (ws : List (ℕ × Block)). written ws base) (ap (λ (u : UnderWay). writes_to u.done u) stands ∙ by_cmd s.cmd mine.command) where
    by_cmd : (o : Option Cmd) → HasCommand w n s o → writes_to (under_with w.locks n s o).done (under_with w.locks n s o) ≡ bare (map planned (take s.done (writes_now s.tried s.plan)))
    by_cmd None idle = sym (λ i. bare (map planned (take (idle.done i) (writes_now s.tried (idle.plan i)))))
    by_cmd (Some y) i = ap (λ (ps : List PlannedWrite). bare ps) (take_planned s.done (writes_now s.tried s.plan))

  -- a block that may be cached stays so, and under its lock, unless a write under that has freed its directory
  guarded_then : (name : LockName) (l : ℕ) → IsGuarded w.geometry own c name l → IsGuarded w.geometry dies.new d name l ⊎ IsFreedBy w.geometry (writes_made w good n s at) name
  guarded_then name l is = elim (guarded_or_freed w.geometry base own law.new c x n (held_in PW s.seen.locks) (writes_made w good n s at) name l good.running.drive.spelt
      (subst (λ (bs : List Block). Spells w.geometry bs law.new x) made_is law.spelt) (made_named w good n s at) (made_leave w good n s at) is) [
        | inl h ↦ inl (deaths_stay w.geometry n law.new dies.new x d name l dies.moves (same_files x n lost leaked) h)
        | inr freed ↦ inr freed
      ]

  -- the slots of numbers outside are free then
  blank_then : AreBlank w.geometry base_then dies.new
  blank_then = subst (λ (bs : List Block). AreBlank w.geometry bs dies.new) (sym made_is)
      (writes_blank w.geometry base own dies.new c (given w good n s at) (writes_made w good n s at) good.running.drive.spelt (made_fill w good n s at)
      (death_outside n (under n).write own law.new (given w good n s at) (stock_now s.stock s.run) (given_out w good n s at) law.moves dies.new dies.moves none_out) good.running.blank) where
        none_out : Outs n dies.new nothing nothing
        none_out = subst (λ (u : UnderWay). Outs n dies.new u.took u.stock) (changed_here under n (resting nothing)) (dies.under.outs n)

  cached_then : AreCached v dies.new d
  cached_then = death_cached w good n s at history others_go held_then own dies.new c d good.running.cached
      (λ e none t. committed_truth w v own dies.new c d s (writes_made w good n s at) e refl refl
      (λ y h. has_second (take s.run.made s.run.writes) (writes_made w good n s at) y h) (let k : written_by w s e ≡ 0 = none in omega (arith, k)) (guarded_then e.lock e.lbn) t)

  -- ---- the whole

  pub death_good : Good (died_by w n s)
  death_good = rebuilt w good n s (gone s) at after w.blocks history
      (record {
        cat = d;
        replayed = replays_grow w.opening w.script w.history c entry d good.running.replayed (at_stage.0, x, at_stage.1, next_staged, leak_is, refl);
        base = base_then;
        own = dies.new;
        drive = under_grown w.geometry d base_then dies.new w.locks after w.nodes n s (gone s) w.blocks at
            (λ m q k ne e h. rows_go_on w.locks after m (rows_of q) k (others_go m q ne e) h) drive;
        accounted = deaths_account c x n s.cmd (stage_now s) at_stage.0 (falls w.history) lost leaked good.running.accounted good.running.sized good.running.named good.running.near fewer at_stage.1 at_stage.2;
        near = near;
        sized = dead_small x n lost leaked (stage_small c x n s.cmd (stage_now s) at_stage.0 good.running.sized at_stage.1 at_stage.2);
        fell = death_fell w.history n (stage_now s) lost (record { items = leaked; room = 0 }) ∙ ap (λ k. k + 1) good.running.fell
            ∙ sym (death_left w.history n (stage_now s) lost (record { items = leaked; room = 0 }) w.script.nodes alive_by in_script.0 in_script.1);
        system = λ i le. deaths_taken c x n s.cmd (stage_now s) at_stage.0 i lost leaked good.running.named at_stage.1 at_stage.2 le (good.running.system i le);
        named = named;
        opens = opens_locked;
        opened = all_set w.nodes n s (gone s) at (λ m q. HasOpens d m q.opens) (all_closed d n own_none) other_opens;
        cached = cached_then;
        blank = blank_then;
      })
      (IsTable-dropped n w.locks good.locked.0, held_then)
      (own_grows w.script w.history entry good.own alive_by)
      small
      (subst (HasFewAnswers w.script n) (sym grows) (good.few n))
      (λ m ne. past_of_others m w.history entry (not_of m ne))
      others_go
      (record { holds = inl (record { given = refl; stock = refl }); few = inl (omega arith) })
      (death_writes w good n s at history others_go held_then)
      (record {
        past = ap (λ (p : NodePast). record p { dead = true }) mine.past ∙ sym grows;
        geometry = mine.geometry;
        channels = λ e. absurd (let f : true ≡ false = e in cc);
        channel = refl;
        store = record { kept = λ l h. absurd h; few = omega arith; cache = cache-nil; guarding = λ e h. absurd h };
        rests = refl;
        asks = λ e. absurd (let f : false ≡ true = e in cc);
        command = record { locks = refl; blocks = refl; space = record { clusters = refl; number = refl; short = refl }; asked = refl; plan = refl; done = refl };
        space = Off (record { run = refl; claims = refl; space = record { clusters = refl; number = refl; short = refl } });
        over = λ o. absurd (let f : true ≡ false = sym o ∙ not_over in cc);
        gone = λ o. record { cmd = refl; asked = refl; kept = refl; claims = refl; stock = refl; cache = refl };
      })

-- a node that lives, of any world that keeps the rules
pub dies_keep : (w : Plain) → Good w → (n : ℕ) → is_over w n ≡ false → Good (died w n)
dies_keep w good n on = by_node (node_at w.nodes n) refl (ap (λ b. b) on) where
  by_node : (o : Option NodeState) → node_at w.nodes n ≡ o → is_over w n ≡ false → Good (died_at w n o)
  by_node None e f = good
  by_node (Some s) e f = death_good w good n s e (sym (ap is_over_of e) ∙ f) where
    is_over_of : Option NodeState → Bool
    is_over_of None = true
    is_over_of (Some q) = is_out q
