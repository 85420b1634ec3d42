-- A node changes alone, and begins a command.
use Rattle.std.proofs.Common.{◌≡◌, ◌⊎◌, ◌≢◌, ◌≤◌, ◌+◌, ◌*◌, ℕ, Bool, true, false, cond, List, [], Option, Some, None, is_some, map, refl, sym, ap, subst, ◌∙◌, inl, inr, arith}
use Rattle.lock_db.specs.declared.name.LockName.{LockName}
use Rattle.lock_db.specs.declared.name.LockName.TheVariants.{X}
use Rattle.plain_cat.specs.declared.mode.Mode.{Mode}
use Rattle.plain_cat.specs.declared.mode.Mode.TheVariants.{CR}
use Rattle.plain_cat.specs.declared.command.Cmd.{Cmd}
use Rattle.plain_rules.specs.Own.{next_command}
use Rattle.node_locks.specs.Held.{names_of, AreHeld, waits_at, without}
use Rattle.op_law.proofs.Going.{seen_goes_on}
use Rattle.base_words.specs.Lists.{Has}
use Rattle.vol_spell.specs.Owners.{Things, nothing, Outs}
use Rattle.vol_under.specs.UnderWay.{UnderWay, changed, AreSole}
use Rattle.core_state.specs.Committed.{IsUnderOn}
use Rattle.node_cache.specs.Cached.{Cached}
use Rattle.op_law.specs.Fits.{things}
use Rattle.op_law.specs.Going.{GoesOn}
use Rattle.op_law.specs.Laws.{held_in, planned, Lawful}
use Rattle.core_space.specs.declared.run.SpaceRun.{SpaceRun}
use Rattle.core_space.specs.Rule.{no_run}
use Rattle.core_state.specs.Worlds.{NodeState, Plain, node_at, with_node, rows_of, rows_at}
use Rattle.core_state.specs.Asks.{writes_now, granted_ask, own_ask, with_ask, is_claiming}
use Rattle.core_state.specs.Stocks.{stock_now}
use Rattle.core_state.specs.Searches.{IsOff, Off}
use Rattle.core_state.specs.Stores.{HasFewNumbers, IsStocked, hold_writes, IsCachedAt}
use Rattle.core_state.specs.Small.{lent, owed_in, owed, has_command}
use Rattle.core_state.specs.Goods.{under_with, nodes_under, IsAtPlan, IsIdle, HasCommand, IsNode, Good}
use Rattle.core_state.specs.Events.{is_out, begun}
use Rattle.core_state.proofs.Commands.{next_names}
use Rattle.core_state.proofs.Holding.{in_held_is, is_in_held}
use Rattle.core_state.proofs.Naming.{stays_without}
use Rattle.core_state.proofs.StockSizes.{few_idle}
use Rattle.core_state.proofs.Switching.{AsksAlike}
use Rattle.core_state.proofs.Running.{under_now, under_here, are_sole}
use Rattle.core_state.proofs.CachedKinds.{quiet_cached, quiet_writes}
use Rattle.core_state.proofs.Taking.{its_outs, its_seen, its_guards, becomes}
use Rattle.core_state.proofs.SmallWorlds.{OwesLess, small_set}
use Rattle.core_state.proofs.Keeping.{still_driven, rebuilt, held_same, loses_nothing}
use Rattle.core_state.proofs.Seeking.{neither}

-- what holds of what a node has outside stays, where it was given the same, has the same in stock, and keeps X
pub stays_stocked : (s r : NodeState) → things r.seen.clusters r.seen.number ≡ things s.seen.clusters s.seen.number → stock_now r.stock r.run ≡ stock_now s.stock s.run → (Has (held_in CR s.kept) X → Has (held_in CR r.kept) X)
    → (HasFewNumbers s → HasFewNumbers r) → IsStocked s → IsStocked r
stays_stocked s r given stock keeps few h = record {
  holds = elim h.holds [
    | inl e ↦ inl (record { given = given ∙ e.given; stock = stock ∙ e.stock })
    | inr k ↦ inr (keeps k)
  ];
  few = few h.few;
}

-- X stays without the lock on another name
pub x_stays_without : (ls : List (LockName × Mode)) (name : LockName) → name ≢ X → Has (held_in CR ls) X → Has (held_in CR (without name ls)) X
x_stays_without ls name ne h =
    let k = in_held_is CR ls X h in
    is_in_held CR (without name ls) X (record { in_mode = k.in_mode; has = stays_without ls name (X, k.in_mode) k.has (λ e. ne (sym e)); strong = k.strong })

-- ---- a node of a good world

module _ (w : Plain) (good : Good w) (n : ℕ) (s : NodeState) (at : node_at w.nodes n ≡ Some s) where
  node : IsNode w n s
  node = good.nodes n s at

  -- the node's locks
  pub held_at : AreHeld w.locks (rows_at w.nodes)
  held_at = good.locked.1

  sole : AreSole (nodes_under w.locks w.nodes)
  sole = are_sole w.locks w.nodes good.locked.0 good.locked.1

  -- a change of the node alone, in which it writes nothing more
  pub alone : (r : NodeState) → rows_of r ≡ rows_of s → AsksAlike (granted_ask s.tried s.plan) (granted_ask r.tried r.plan) → r.opens ≡ s.opens → OwesLess s r → IsStocked r → IsUnderOn w.geometry good.running.cat good.running.drive.base good.running.drive.own (changed (nodes_under w.locks w.nodes) n (under_with w.locks n r r.cmd)) w.blocks
      → hold_writes r ≡ hold_writes s → ((e : Cached) → Has r.cache e → Has s.cache e ⊎ IsCachedAt (with_node w n r) good.running.drive.own good.running.cat n r e) → IsNode (with_node w n r) n r → Good (with_node w n r)
  alone r same alike opens owes stocked drive wrote mine is = rebuilt w good n s r at w.locks w.blocks w.history
      (still_driven w good n s r at w.locks w.blocks alike opens good.running.drive.base good.running.drive.own good.running.blank (under_now w.geometry good.running.cat good.running.drive.base good.running.drive.own w.locks w.locks w.nodes n s r w.blocks at (λ m q ne e. refl) drive) good.running.opens
      (quiet_cached w sole good.writers n s r at same wrote good.running.drive.own good.running.cat good.running.cached mine))
      (good.locked.0, held_same w.locks w.nodes n s r at same held_at) good.own (small_set w good.small n s r at w.blocks owes) (good.few n) (λ m ne. refl) (λ m q ne e. loses_nothing w.locks m q) stocked (quiet_writes w sole good.writers n s r at same wrote) is

  -- ---- begun

  begins_under : (x : Cmd) → s.cmd ≡ None → IsIdle s.seen s.asked s.plan s.done
      → IsUnderOn w.geometry good.running.cat good.running.drive.base good.running.drive.own (changed (nodes_under w.locks w.nodes) n (under_with w.locks n (begun s x) (Some x))) w.blocks
  begins_under x none idle =
      let u : UnderWay = under_with w.locks n s None in
      let v : UnderWay = under_with w.locks n (begun s x) (Some x) in
      let is : nodes_under w.locks w.nodes n ≡ u = under_here w.locks w.nodes n s at ∙ ap (under_with w.locks n s) none in
      let took : things s.seen.clusters s.seen.number ≡ nothing = λ i. things (idle.space.clusters i) (idle.space.number i) in
      let no_plan : map planned (writes_now s.tried s.plan) ≡ [] = ap (λ o. map planned (writes_now s.tried o)) idle.plan in
      becomes w.geometry good.running.cat (nodes_under w.locks w.nodes) w.blocks n u is good.running.drive refl v no_plan idle.done
      (subst (λ (k : Things). Outs n good.running.drive.own k (stock_now s.stock s.run)) (sym took) (its_outs w.geometry good.running.cat (nodes_under w.locks w.nodes) w.blocks n u is good.running.drive))
      (its_seen w.geometry good.running.cat (nodes_under w.locks w.nodes) w.blocks n u is good.running.drive)
      (its_guards w.geometry good.running.cat (nodes_under w.locks w.nodes) w.blocks n u is good.running.drive)

  begins_owe : (x : Cmd) → s.cmd ≡ None → s.run ≡ no_run → OwesLess s (begun s x)
  begins_owe x none off =
      let a : owed s ≡ lent s = ap (λ (o : Option Cmd). cond (is_some o) (owed_in s.run.phase (is_claiming s.claims) (lent s)) (lent s)) none in
      let b : has_command s ≡ false = ap is_some none in
      let c : owed (begun s x) ≡ 4 + lent s = ap (λ (h : SpaceRun). owed_in h.phase (is_claiming s.claims) (lent s)) off in
      counts (owed (begun s x)) (owed s) (lent s) (has_command s) a b c where
        counts : (new old more : ℕ) (had : Bool) → old ≡ more → had ≡ false → new ≡ 4 + more → new + 4 * cond had 1 0 ≤ old + 4 * 1
        counts new old more had a b c = let d : 4 * cond had 1 0 ≡ 0 = ap (λ (k : Bool). 4 * cond k 1 0) b in omega arith

  pub begins : (x : Cmd) → s.cmd ≡ None → is_out s ≡ false → IsOff s.claims s.run s.seen → next_command w.script n w.history ≡ Some x → Lawful x → Good (with_node w n (begun s x))
  begins x none on off next law =
      let idle : IsIdle s.seen s.asked s.plan s.done = subst (HasCommand w n s) none node.command in
      let goes : GoesOn x = seen_goes_on x law.searches in
      let still = neither s.over s.past.dead on in
      alone (begun s x) refl (λ part o low. refl) refl (begins_owe x none off.run) (stays_stocked s (begun s x) refl refl (λ h. h) (λ f. inl (few_idle s none f)) (good.running.stocked n s at)) (begins_under x none idle) refl (λ e h. inl h) (record {
        past = node.past;
        geometry = node.geometry;
        channels = node.channels;
        channel = refl;
        store = node.store;
        rests = node.rests;
        asks = λ e. absurd (let f : true ≡ false = sym e ∙ ap (waits_at w.locks n) idle.asked in cc);
        command = record {
          next = next;
          form = next_names w.script good.form n w.history x next;
          lawful = law;
          seen = goes.first (begun s x).seen idle.locks idle.blocks idle.space;
          own = λ name h. absurd (subst (λ (ls : List (LockName × Mode)). Has (names_of ls) name) idle.locks h);
          plan = subst (IsAtPlan x (waits_at w.locks n s.asked) (begun s x).seen s.done s.tried) (sym idle.plan) idle.done;
          same = idle.asked ∙ sym (ap (λ o. with_ask s.seen.locks (own_ask s.tried o)) idle.plan ∙ idle.locks);
          waits = λ e. absurd (let f : true ≡ false = sym e ∙ ap (waits_at w.locks n) idle.asked in cc);
        };
        space = Off (record { run = off.run; claims = off.claims; space = record { clusters = off.space.clusters; number = off.space.number; short = off.space.short } });
        over = λ o. absurd (let f : true ≡ false = sym o ∙ still.0 in cc);
        gone = λ o. absurd (let f : true ≡ false = sym o ∙ still.1 in cc);
      })
