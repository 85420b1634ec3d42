-- A node leaves: it gives back all locks that it keeps, and has nothing then. The cached blocks of the other nodes stay what they are.
use Rattle.std.proofs.Common.{◌≡◌, ◌≢◌, ◌≤◌, ◌⊎◌, ◌+◌, ◌++◌, ◌&&◌, ◌||◌, not, ℕ, suc, Bool, true, false, cond, List, [], ◌∷◌, Option, Some, None, is_some, length, nat_lt, take, refl, sym, ap, subst, ◌∙◌, inl, inr, arith}
use Rattle.std.specs.Prelude.{is_none}
use Rattle.std.proofs.lemmas.Bool.Decides.{nat_tests}
use Rattle.base_words.specs.Fields.{Block}
use Rattle.lock_db.specs.declared.name.LockName.{LockName}
use Rattle.lock_db.specs.declared.name.LockName.TheVariants.{V}
use Rattle.lock_db.specs.declared.resource.Resource.{Resource}
use Rattle.lock_db.specs.Queues.{is_writing}
use Rattle.lock_db.specs.Tables.{resource_at, released}
use Rattle.lock_db.specs.Laws.{BlockStays}
use Rattle.plain_cat.specs.Modes.{rank}
use Rattle.plain_cat.specs.declared.mode.Mode.{Mode}
use Rattle.plain_cat.specs.declared.mode.Mode.TheVariants.{NL, CR, PW}
use Rattle.plain_cat.specs.declared.command.Cmd.{Cmd}
use Rattle.plain_cat.specs.declared.cat.Cat.{Cat}
use Rattle.plain_rules.specs.Own.{next_command}
use Rattle.node_locks.specs.Held.{system_of, Row, joined, names_of, HoldsItsLocks, AreHeld, waits_at, with_rows}
use Rattle.node_locks.specs.Sweeping.{all_given, without_all, all_taken_out, AreSwept, MayGiveAll as MayGiveNamed}
use Rattle.node_locks.proofs.Sweeping.{sweeping_holds, all_go}
use Rattle.node_locks.proofs.Keeping.{rows_go_on, may_change}
use Rattle.node_cache.specs.Cached.{Cached}
use Rattle.node_cache.proofs.Entries.{cache-nil}
use Rattle.node_locks.specs.Sequences.{first_sequence, second_sequence}
use Rattle.base_words.specs.Lists.{Has, Touches}
use Rattle.vol_spell.specs.Owners.{Owners, nothing}
use Rattle.base_words.proofs.Listing.{same_or_not, has_parted}
use Rattle.core_state.specs.Committed.{IsUnderOn}
use Rattle.vol_under.specs.UnderWay.{UnderWay, AreSole}
use Rattle.op_law.specs.declared.need.PlanWrite.{PlanWrite}
use Rattle.op_law.specs.Fits.{things}
use Rattle.core_space.specs.declared.run.Phase.TheVariants as phase
use Rattle.core_space.specs.declared.run.SpaceRun.{SpaceRun}
use Rattle.core_space.specs.Rule.{is_reader, has_any}
use Rattle.core_state.specs.Worlds.{Stock, empty_stock, course_of, NodeState, Plain, node_at, set_node, rows_of, rows_in, rows_at, or_next}
use Rattle.core_state.specs.Asks.{has_asked, is_claiming, writes_now}
use Rattle.core_state.specs.Opens.{open_now}
use Rattle.core_state.specs.Small.{owed_in, owed}
use Rattle.core_state.specs.Stocks.{roomless, stock_now, looked_now}
use Rattle.core_state.specs.Searches.{IsOff, Spaces, Off}
use Rattle.core_state.specs.Stores.{hold_writes, part_raise, IsWriter, AreCached, AreHeldWrites}
use Rattle.core_state.specs.Goods.{held_by, under_with, nodes_under, IsIdle, HasCommand, IsNode, Good}
use Rattle.core_state.specs.Events.{is_out, space_locks, is_wanted, is_ended, gives_back_in, gives_back, left_alone, turned, leaving}
use Rattle.core_state.proofs.StockSizes.{few_none}
use Rattle.core_state.proofs.Nodes.{at_here, at_else}
use Rattle.core_state.proofs.Holding.{in_held_is, held_grows}
use Rattle.core_state.proofs.Running.{kept_held, held_among, under_here, under_grown, are_sole}
use Rattle.core_state.proofs.Taking.{its_outs, its_seen, becomes}
use Rattle.core_state.proofs.Opens.{opens_left}
use Rattle.core_state.proofs.Keeping.{altered, still_driven, rebuilt, held_set, LosesNothing, kept_once, course_stays}
use Rattle.core_state.proofs.SmallTables.{IsSequence, is_first, is_second, released_own}
use Rattle.core_state.proofs.SmallWorlds.{OwesLess, small_left}
use Rattle.core_state.proofs.Seeking.{neither}
use Rattle.core_state.proofs.Sweeps.{out_first}
use Rattle.core_state.proofs.Standing.{at_rest_so}
use Rattle.core_state.proofs.Claiming.{mine}
use Rattle.core_state.proofs.Cached.{same_state, written_by, Stays, IsEventOf}
use Rattle.core_state.proofs.CachedEvents.{all_cached}
use Rattle.core_state.proofs.CachedUses.{sole_writer}
use Rattle.core_state.proofs.CachedAnswers.{none_raised, part_stays}
use Rattle.core_state.proofs.CachedOthers.{left_stays, somebody_there}
use Rattle.core_state.proofs.Lasting.{lock_named, goes_lasting}

-- ---- locks that go back with their value blocks as they are

-- they go back by their names
left_names : (n : ℕ) (ls : Row) (t : List Resource) → all_given n (λ name u. (resource_at name u).value) (names_of ls) t ≡ left_alone n ls t
left_names n [] t = refl
left_names n (l ∷ ls) t = left_names n ls (released l.0 (system_of n) (resource_at l.0 t).value t)

-- no sequence grows by it
left_little : (seq : List ℕ → ℕ) → IsSequence seq → (n : ℕ) (ls : Row) (t : List Resource) (name : LockName) → seq (resource_at name (left_alone n ls t)).value ≤ seq (resource_at name t).value + 0
left_little seq is n [] t name = omega arith
left_little seq is n (l ∷ ls) t name =
    let u : List Resource = released l.0 (system_of n) (resource_at l.0 t).value t in
    let a = left_little seq is n ls u name in
    let b : seq (resource_at name u).value ≤ seq (resource_at name t).value + 0 = released_own seq is l.0 name (system_of n) t in
    omega arith

no_list : (xs : List ℕ) → nat_lt 0 (length xs) ≡ false → xs ≡ []
no_list [] e = refl
no_list (y ∷ xs) e = absurd (let f : true ≡ false = sym (some (length xs)) ∙ e in cc) where
  some : (k : ℕ) → nat_lt 0 (suc k) ≡ true
  some k = grind (arith, nat_tests)

-- an empty stock
stock_empty : (stock : Stock) → has_any (roomless stock) ≡ false → stock ≡ empty_stock
stock_empty stock e =
    let tests = neither (nat_lt 0 (length stock.clusters)) (nat_lt 0 (length stock.numbers)) e in
    λ i. record { clusters = no_list stock.clusters tests.0 i; numbers = no_list stock.numbers tests.1 i }

module _ (w : Plain) (good : Good w) (n : ℕ) (s : NodeState) (at : node_at w.nodes n ≡ Some s) (on : is_out s ≡ false) (none : s.cmd ≡ None) (no_next : next_command w.script n w.history ≡ None) (keeps_it : gives_back w n s ≡ false) where
  abbrev cat : Cat
  cat = good.running.cat

  abbrev u : UnderWay
  u = under_with w.locks n s s.cmd

  abbrev r : NodeState
  r = turned (leaving s)

  abbrev after : List Resource
  after = left_alone n s.kept w.locks

  abbrev v : UnderWay
  v = under_with after n r r.cmd

  me : IsNode w n s
  me = good.nodes n s at

  idle : IsIdle s.seen s.asked s.plan s.done
  idle = subst (HasCommand w n s) none me.command

  -- no rule for space is begun
  off : IsOff s.claims s.run s.seen
  off = elim (at_rest_so s.kept s.claims s.run s.stock s.seen (subst (λ (o : Option Cmd). Spaces o s.kept s.claims s.run s.stock s.seen) none me.space)) [
    | inl h ↦ h
    | inr h ↦ absurd (let f : true ≡ false = sym (ap (gives_back_in w n s) h.back) ∙ keeps_it in cc)
  ]

  -- and its stock is empty
  empty : s.stock ≡ empty_stock
  empty = stock_empty s.stock (second_false (is_ended w n s) (has_any (roomless s.stock)) ended (neither (is_reader (space_locks s).x && (is_wanted w n && not (has_asked V s.asked))) (is_ended w n s && has_any (roomless s.stock)) not_due).1) where
    not_due : ((is_reader (space_locks s).x && (is_wanted w n && not (has_asked V s.asked))) || (is_ended w n s && has_any (roomless s.stock))) ≡ false
    not_due = sym (ap (λ (k : SpaceRun). gives_back_in w n s k.phase) off.run) ∙ keeps_it

    ended : is_ended w n s ≡ true
    ended = λ i. is_none (or_next (none i) (no_next i))

    second_false : (a b : Bool) → a ≡ true → (a && b) ≡ false → b ≡ false
    second_false true b e f = f
    second_false false b e f = absurd (let g : false ≡ true = e in cc)

  pub leaves_may : MayGiveNamed n (λ name t. (resource_at name t).value) (names_of s.kept) w.locks
  leaves_may = (sweeping_holds (λ name t. (resource_at name t).value) w.locks n 0 s.kept (names_of s.kept) (rows_of s) (rows_at w.nodes) good.locked.0 good.locked.1 (ap rows_in at) refl me.rests (kept_once s (mine w good n s at on).once) (λ name h. h)).0

  swept : AreSwept n 0 (without_all (names_of s.kept) s.kept) (all_taken_out 0 (names_of s.kept) (rows_of s)) (rows_of s) (rows_at w.nodes) w.locks after
  swept = subst (AreSwept n 0 (without_all (names_of s.kept) s.kept) (all_taken_out 0 (names_of s.kept) (rows_of s)) (rows_of s) (rows_at w.nodes) w.locks) (left_names n s.kept w.locks)
      (sweeping_holds (λ name t. (resource_at name t).value) w.locks n 0 s.kept (names_of s.kept) (rows_of s) (rows_at w.nodes) good.locked.0 good.locked.1 (ap rows_in at) refl me.rests (kept_once s (mine w good n s at on).once) (λ name h. h)).1

  held_then : AreHeld after (with_rows (rows_at w.nodes) n (rows_of r))
  held_then = subst (λ (rs : List Row). AreHeld after (with_rows (rows_at w.nodes) n rs))
      (out_first (names_of s.kept) s.kept (s.asked ∷ (s.claims ∷ [])) ∙ ap (λ (ls : Row). ls ∷ (s.asked ∷ (s.claims ∷ []))) (all_go s.kept (kept_once s (mine w good n s at on).once))) swept.held

  loses : (m : ℕ) (q : NodeState) → m ≢ n → node_at w.nodes m ≡ Some q → LosesNothing w.locks after m q
  loses m q ne e ls i = swept.others m ls ne (subst (λ (rs : List Row). Has rs ls) (sym (ap rows_in e)) i)

  nothing_seen : v.seen ≡ []
  nothing_seen = λ i. looked_now (off.run i) ++ idle.blocks i

  abbrev base : List Block
  base = good.running.drive.base

  abbrev own : Owners
  own = good.running.drive.own

  under_then : IsUnderOn w.geometry cat base own (nodes_under after (set_node w.nodes n r)) w.blocks
  under_then =
      let here = under_here w.locks w.nodes n s at in
      let up = becomes w.geometry cat (nodes_under w.locks w.nodes) w.blocks n u here good.running.drive (ap (λ o. (under_with w.locks n s o).plan) none) v (ap (λ o. (under_with after n r o).plan) none) (ap (λ o. (under_with after n r o).done) none)
      (its_outs w.geometry cat (nodes_under w.locks w.nodes) w.blocks n u here good.running.drive) (its_seen w.geometry cat (nodes_under w.locks w.nodes) w.blocks n u here good.running.drive)
      (λ l t. absurd (let k : Touches (let ss : List (ℕ × Block) = [] in ss) l = subst (λ (ss : List (ℕ × Block)). Touches ss l) nothing_seen t in k)) in
      under_grown w.geometry cat base own w.locks after w.nodes n s r w.blocks at (λ m q k ne e h. rows_go_on w.locks after m (rows_of q) k (loses m q ne e) h) up

  owes : OwesLess s r
  owes = let a : owed r ≡ 0 = ap (λ (o : Option Cmd). cond (is_some o) (owed_in s.run.phase (is_claiming s.claims) 0) 0) none in omega arith

  nothing_stocked : stock_now s.stock s.run ≡ nothing
  nothing_stocked = λ i. stock_now (empty i) (off.run i)

  -- ---- the cached blocks

  abbrev v_then : Plain
  v_then = altered w after w.blocks (set_node w.nodes n r) w.history

  -- the locks that it keeps write no value block
  kept_low : (l : LockName × Mode) → Has s.kept l → (l.1 ≡ NL) ⊎ (l.1 ≡ CR)
  kept_low l h = elim (me.store.kept l h) [
    | inl low ↦ inl low.1
    | inr x ↦ elim x.1 [ inl shared ↦ inr shared | inr last ↦ absurd (let f : phase.Off ≡ phase.Last = sym (ap (λ (k : SpaceRun). k.phase) off.run) ∙ last in cc) ]
  ]

  not_writing : (l : LockName × Mode) → Has s.kept l → is_writing l.1 ≡ false
  not_writing l h = elim (kept_low l h) [ inl e ↦ ap is_writing e | inr e ↦ ap is_writing e ]

  too_low : (mode : Mode) → (mode ≡ NL) ⊎ (mode ≡ CR) → rank PW ≤ rank mode → ⊥
  too_low mode (inl e) le = let f : rank mode ≡ rank NL = ap rank e in omega (arith, f, le)
  too_low mode (inr e) le = let f : rank mode ≡ rank CR = ap rank e in omega (arith, f, le)

  -- so it is no writer
  not_writer : (name : LockName) → IsWriter w n s name → ⊥
  not_writer name h =
      let k = in_held_is PW (held_by w.locks n s) name h in
      let there : Has (joined (rows_of s)) (name, k.in_mode) = held_among w.locks n (rows_of s) (name, k.in_mode) k.has in
      let parted = has_parted s.kept [] (name, k.in_mode) (subst (λ (ys : Row). Has (s.kept ++ (ys ++ [])) (name, k.in_mode)) off.claims (subst (λ (xs : Row). Has (s.kept ++ (xs ++ (s.claims ++ []))) (name, k.in_mode)) idle.asked there)) in
      elim parted [ inl a ↦ too_low k.in_mode (kept_low (name, k.in_mode) a) k.strong | inr b ↦ b ]

  -- and has written nothing
  no_writes : hold_writes s ≡ []
  no_writes = λ i. take (off.run i).made (off.run i).writes ++ take (idle.done i) (writes_now s.tried s.plan)

  nothing_written : (e : Cached) → written_by w s e ≡ 0
  nothing_written e = ap (part_raise w.geometry e.lock e.lbn) no_writes ∙ none_raised w.geometry e.lock e.lbn

  some_written : (e : Cached) → 1 ≤ written_by w s e → ⊥
  some_written e some = let f = nothing_written e in absurd (omega (arith, f, some))

  -- the others hold what they held
  writer_on : (m : ℕ) (q : NodeState) (name : LockName) → m ≢ n → node_at w.nodes m ≡ Some q → IsWriter w m q name → IsWriter v_then m q name
  writer_on m q name ne e h = held_grows PW (held_by w.locks m q) (held_by after m q) name (λ k i. rows_go_on w.locks after m (rows_of q) k (loses m q ne e) i) h

  writes_then : AreHeldWrites v_then
  writes_then m q x there has = elim (same_or_not m n) [
    | inl is ↦
        let here : q ≡ r = same_state q r (sym there ∙ ap (node_at v_then.nodes) is ∙ at_here w.nodes n r s at) in
        absurd (let f : Has (let ws : List PlanWrite = [] in ws) x = subst (λ (ws : List PlanWrite). Has ws x) no_writes (subst (λ (y : NodeState). Has (hold_writes y) x) here has) in f)
    | inr ne ↦
        let was : node_at w.nodes m ≡ Some q = sym (at_else w.nodes n m r ne) ∙ there in
        writer_on m q x.lock ne was (good.writers m q x was has)
  ]

  sole : AreSole (nodes_under w.locks w.nodes)
  sole = are_sole w.locks w.nodes good.locked.0 good.locked.1

  sole_then : AreSole (nodes_under after (set_node w.nodes n r))
  sole_then = are_sole after (set_node w.nodes n r) swept.table (held_set after w.nodes n s r at held_then)

  holds_of : (m : ℕ) (q : NodeState) → node_at w.nodes m ≡ Some q → HoldsItsLocks w.locks m (rows_of q)
  holds_of m q there = subst (λ (rs : List Row). HoldsItsLocks w.locks m rs) (ap rows_in there) (good.locked.1 m)

  leave_event : IsEventOf w v_then n s r
  leave_event = record {
    at = at;
    here = at_here w.nodes n r s at;
    others = λ m ne. at_else w.nodes n m r ne;
    geometry = refl;
    holders = λ m q name ne there h. writer_on m q name ne there h;
    lasting = λ m q name ne there h. goes_lasting w.locks after m q name (holds_of m q there) (loses m q ne there) h;
    sole = λ m q name there a b. sole_writer w sole good.writers n m s q name at there a b;
    sole_then = λ m q name there a b. sole_writer v_then sole_then writes_then n m r q name (at_here w.nodes n r s at) there a b;
    held_writes = λ e some. absurd (some_written e some);
    held_then = λ e some. absurd (some_written e some);
  }

  -- the value block of a lock that another node has stays
  block_stays : (m : ℕ) (q : NodeState) (name : LockName) → m ≢ n → node_at w.nodes m ≡ Some q → Has (names_of (joined (rows_of q))) name → BlockStays (resource_at name w.locks) (resource_at name after)
  block_stays m q name ne there h =
      left_stays n s.kept w.locks name (kept_once s (mine w good n s at on).once) (λ l k. may_change w.locks n l (rows_of s) (mine w good n s at on) (kept_held w.locks n s l me.rests k)) (λ l k f. not_writing l k)
      (somebody_there w.locks n m (rows_of q) name ne (holds_of m q there) h)

  cached_then : AreCached v_then own cat
  cached_then = all_cached w v_then n s r leave_event own own cat cat good.running.cached
      (λ m q e ne there has.
      let b = block_stays m q e.lock ne there (lock_named w.locks m (rows_of q) e.lock (holds_of m q there) (good.running.cached m q e there has).held) in
      record {
        goes = inl (Stays (part_stays w.geometry e.lock e.lbn (resource_at e.lock w.locks) (resource_at e.lock after) b) b.mark (omega arith) (λ h. absurd (not_writer e.lock h)));
        truth = λ none none_then t. record { block = t.block; guard = t.guard; kind = t.kind };
      })
      (λ e has. absurd has)

  pub leaves_keep : Good (altered w after w.blocks (set_node w.nodes n r) w.history)
  leaves_keep = rebuilt w good n s r at after w.blocks w.history
      (still_driven w good n s r at after w.blocks (λ part o low. refl) refl base own good.running.blank under_then (opens_left n s.kept w.locks (open_now cat w.nodes) good.locked.0 good.running.opens) cached_then)
      (swept.table, held_set after w.nodes n s r at held_then) good.own
      (small_left w good.small n s r at after w.blocks (left_little first_sequence is_first n s.kept w.locks) (left_little second_sequence is_second n s.kept w.locks) owes)
      (good.few n) (λ m ne. refl) loses
      (record { holds = inl (record { given = λ i. things (idle.space.clusters i) (idle.space.number i); stock = nothing_stocked }); few = few_none r empty })
      writes_then
      (record {
        past = me.past;
        geometry = me.geometry;
        channels = me.channels;
        channel = me.channel;
        store = record { kept = λ l h. absurd h; few = omega arith; cache = cache-nil; guarding = λ e h. absurd h };
        rests = refl;
        asks = λ e. absurd (let f : true ≡ false = sym e ∙ ap (waits_at after n) idle.asked in cc);
        command = course_stays (next_command w.script n w.history) w.locks after n (course_of s) (λ e. (swept.rest 1 s.asked (λ f. absurd (omega arith)) refl).waits ∙ e) s.cmd me.command;
        space = Off (record { run = off.run; claims = off.claims; space = off.space });
        over = λ e. (record { cmd = none; asked = idle.asked; kept = refl; claims = off.claims; stock = empty; cache = refl }, no_next);
        gone = λ e. absurd (let f : true ≡ false = sym e ∙ (neither s.over s.past.dead on).1 in cc);
      })
