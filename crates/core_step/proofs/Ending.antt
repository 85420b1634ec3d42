-- A node's command can end: its locks can be put back, and there is room for those that it keeps then.
use Rattle.std.proofs.Common.{◌≡◌, ◌≤◌, ◌+◌, ◌++◌, ℕ, Bool, true, false, cond, not, List, [], ◌∷◌, Option, Some, None, length, refl, sym, ap, subst, ◌∙◌, inl, inr, arith}
use Rattle.std.specs.Prelude.{is_some}
use Rattle.std.proofs.lemmas.List.{append-nil}
use Rattle.lock_db.specs.declared.name.LockName.{LockName}
use Rattle.lock_db.specs.declared.resource.Resource.{Resource}
use Rattle.lock_db.specs.Tables.{resource_at}
use Rattle.lock_db.proofs.Names.{is_same-refl}
use Rattle.plain_cat.specs.declared.mode.Mode.{Mode}
use Rattle.plain_cat.specs.declared.command.Cmd.{Cmd}
use Rattle.plain_cat.specs.declared.command.Cmd.TheVariants as cmd
use Rattle.plain_cat.specs.declared.reply.Reply.{Reply}
use Rattle.base_words.specs.Lists.{Once}
use Rattle.node_locks.specs.Held.{Row, names_of, AreHeld, HoldsItsLocks, waits_at, without, with_rows}
use Rattle.node_locks.specs.HeldLaws.{IsMoved}
use Rattle.node_locks.specs.PuttingBack.{Values, kept_of, MayPutBack, ArePutBack}
use Rattle.node_locks.specs.Sequences.{raised_block}
use Rattle.node_locks.specs.Sweeping.{MayGiveAll as MayGiveNamed}
use Rattle.node_locks.proofs.Moving.{moving_holds}
use Rattle.node_locks.proofs.PuttingBack.{putting_back_holds}
use Rattle.node_locks.proofs.Sweeping.{sweeping_holds}
use Rattle.op_law.specs.declared.need.Plan.{Plan}
use Rattle.op_law.specs.declared.seen.Chan.{Chan}
use Rattle.core_state.specs.Worlds.{NodeState, Plain, node_at, rows_of, rows_in, rows_at}
use Rattle.core_state.specs.Asks.{reply_by, own_ask}
use Rattle.core_state.specs.Caches.{keeps, raised_values, put_back_all}
use Rattle.core_state.specs.Channels.{names_in_form, opened, channel_seen}
use Rattle.core_state.specs.Events.{all_writes, stays, going, used_locks, given_back}
use Rattle.core_state.specs.Goods.{IsAt, IsNode, HasFewAnswers, Good}
use Rattle.core_state.specs.Opens.{open_now, AreOpensLocked}
use Rattle.core_state.specs.Raises.{raise_of}
use Rattle.core_state.proofs.Closing.{closing_lock, close_channel, form_now}
use Rattle.core_state.proofs.Keeping.{kept_once, names_first}
use Rattle.core_state.proofs.Opens.{opens_given}
use Rattle.core_state.proofs.PutBacks.{is_low, opens_back}
use Rattle.core_state.proofs.Rows.{IsFew, rows_same}
use Rattle.node_locks.proofs.Nodes.{rows_here as own_rows}
use Rattle.core_state.proofs.SmallBegun.{answers_fit}
use Rattle.core_state.proofs.Sweeps.{filter_names, filter_once}
use Rattle.core_state.proofs.Turning.{under_command, drive, seen_on}
use Rattle.core_step.specs.Giving.{MayLetGo, MayCloseOff, MayPutAllBack, MayEnd}
use Rattle.core_step.specs.Ready.{IsReady}
use Rattle.core_step.proofs.Few.{kept_few, ask_more, claims_few, few_length}
use Rattle.core_step.proofs.Ready.{may_each}

-- ---- the locks of a command, and behind them that of its rules for space, as one row

record AreJoined (t : List Resource) (n : ℕ) (rows : ℕ → List Row) (kept used : Row) : Type 0 where
  held : AreHeld t (with_rows rows n (kept ∷ (used ∷ ([] ∷ []))))
  free : waits_at t n used ≡ false

joins_none : (t : List Resource) (n : ℕ) (rows : ℕ → List Row) (kept asked : Row) → AreHeld t rows → rows n ≡ kept ∷ (asked ∷ ([] ∷ [])) → waits_at t n asked ≡ false → AreJoined t n rows kept (asked ++ [])
joins_none t n rows kept asked held is free = subst (λ (k : Row). AreJoined t n rows kept k) (sym (append-nil asked)) (record { held = rows_same t rows n (kept ∷ (asked ∷ ([] ∷ []))) is held; free = free })

joins_one : (t : List Resource) (n : ℕ) (rows : ℕ → List Row) (kept asked : Row) (l : LockName × Mode) → AreHeld t rows → rows n ≡ kept ∷ (asked ∷ ((l ∷ []) ∷ [])) → waits_at t n asked ≡ false → waits_at t n (l ∷ []) ≡ false
    → AreJoined t n rows kept (asked ++ l ∷ [])
joins_one t n rows kept asked l held is free granted =
    let own : List Row = kept ∷ (asked ∷ ((l ∷ []) ∷ [])) in
    let moved : IsMoved n 2 1 (l ∷ []) asked l own rows t = moving_holds t n 2 1 (l ∷ []) asked l own rows held is refl (inl refl) granted refl free in
    let gone : without l.0 (l ∷ []) ≡ [] = ap (λ (b : Bool). cond (not b) (l ∷ []) []) (is_same-refl l.0) in
    record { held = subst (λ (c : Row). AreHeld t (with_rows rows n (kept ∷ ((asked ++ l ∷ []) ∷ (c ∷ []))))) gone moved.held; free = moved.last.waits }

claims_join : (t : List Resource) (n : ℕ) (rows : ℕ → List Row) (kept asked claims : Row) → AreHeld t rows → rows n ≡ kept ∷ (asked ∷ (claims ∷ [])) → waits_at t n asked ≡ false → waits_at t n claims ≡ false → IsFew claims
    → AreJoined t n rows kept (asked ++ claims)
claims_join t n rows kept asked claims held is free granted (inl e) =
    subst (λ (c : Row). AreJoined t n rows kept (asked ++ c)) (sym e) (joins_none t n rows kept asked held (subst (λ (c : Row). rows n ≡ kept ∷ (asked ∷ (c ∷ []))) e is) free)
claims_join t n rows kept asked claims held is free granted (inr k) =
    subst (λ (c : Row). AreJoined t n rows kept (asked ++ c)) (sym k.1)
    (joins_one t n rows kept asked k.0 held (subst (λ (c : Row). rows n ≡ kept ∷ (asked ∷ (c ∷ []))) k.1 is) free (subst (λ (c : Row). waits_at t n c ≡ false) k.1 granted))

-- ---- the node

module _ {w : Plain} (good : Good w) {n : ℕ} (r : IsReady w n) where
  abbrev s : NodeState
  s = r.state

  node : IsNode w n s
  node = good.nodes n s r.at

  is_at : IsAt w n s r.cmd
  is_at = under_command w good n s r.at r.cmd r.has r.free

  once : Once (names_of s.kept)
  once = let held : HoldsItsLocks w.locks n (rows_of s) = subst (λ (rs : List Row). HoldsItsLocks w.locks n rs) (ap rows_in r.at) (good.locked.1 n) in kept_once s held.once

  joined_so : AreJoined w.locks n (rows_at w.nodes) s.kept (used_locks s)
  joined_so = claims_join w.locks n (rows_at w.nodes) s.kept s.asked s.claims good.locked.1 (ap rows_in r.at) r.free r.granted (claims_few node.space)

  -- ---- its locks are put back

  abbrev values : Values
  values = raised_values w.geometry (all_writes s)

  -- the table then, and the row of what is kept
  abbrev u : List Resource
  u = put_back_all w.geometry n (all_writes s) s.cache (used_locks s) w.locks

  abbrev row : Row
  row = s.kept ++ kept_of (keeps s.cache) (used_locks s)

  abbrev before : ℕ → List Row
  before = with_rows (rows_at w.nodes) n (s.kept ∷ (used_locks s ∷ ([] ∷ [])))

  abbrev after : ℕ → List Row
  after = with_rows before n (row ∷ ([] ∷ ([] ∷ [])))

  put_so : MayPutBack n (keeps s.cache) values (used_locks s) w.locks × ArePutBack n row ([] ∷ []) before w.locks u
  put_so = putting_back_holds (keeps s.cache) values w.locks n s.kept (used_locks s) ([] ∷ []) before good.locked.0 joined_so.held (own_rows (rows_at w.nodes) n (s.kept ∷ (used_locks s ∷ ([] ∷ [])))) node.rests joined_so.free (λ l h. is_low s.cache l)

  abbrev raises : LockName → List Resource → List ℕ
  raises name t = raised_block name (raise_of w.geometry name (all_writes s)) (resource_at name t)

  gives_so : MayGiveNamed n raises (names_of (going s)) u
  gives_so =
      (sweeping_holds raises u n 0 row (names_of (going s)) (row ∷ ([] ∷ ([] ∷ []))) after put_so.1.table put_so.1.held (own_rows before n (row ∷ ([] ∷ ([] ∷ [])))) refl put_so.1.own.waits
      (filter_once (λ l. not (stays s l)) s.kept once) (λ name h. names_first s.kept (kept_of (keeps s.cache) (used_locks s)) name (filter_names (λ l. not (stays s l)) s.kept name h))).0

  may_put : MayPutAllBack w.geometry n s w.locks
  may_put = record { puts = put_so.0; gives = may_each w.geometry n (all_writes s) (going s) u gives_so }

  -- ---- a channel that is closed has the lock that it gives back

  abbrev last : List Resource
  last = given_back w.geometry n (all_writes s) (going s) u

  opens_last : AreOpensLocked last (open_now good.running.cat w.nodes)
  opens_last = opens_given w.geometry n (all_writes s) (going s) u (open_now good.running.cat w.nodes) put_so.1.table
      (opens_back n s.cache values (open_now good.running.cat w.nodes) node.store.guarding (used_locks s) w.locks good.locked.0 put_so.0 good.running.opens).1

  closes_so : (x : Cmd) (a : Reply) → names_in_form x ≡ true → MayCloseOff n (channel_seen s.opens x) x a last
  closes_so (cmd.CloseFile chan) a form = λ closed. by_open (opened s.opens chan) refl where
    by_open : (o : Option Chan) → opened s.opens chan ≡ o → MayLetGo n chan o last
    by_open None e = tt
    by_open (Some p) e = let k = close_channel chan form in closing_lock w good n s r.at chan k.0 k.1 p e last opens_last
  closes_so other a form = tt

  -- ---- there is room for what it keeps

  asked_few : length s.asked ≤ 20
  asked_few =
      let d = drive w good n s r.at r.cmd r.has r.free in
      let brief = is_at.lawful.brief n s.seen d.base d.own good.running.cat is_at.seen (seen_on w good n s r.at r.cmd r.has r.free) in
      let few = brief.locks in
      let more = ask_more s.seen.locks (own_ask s.tried s.plan) in
      subst (λ (ls : Row). length ls ≤ 20) (sym is_at.same) (omega (arith, few, more))

  room_so : length s.kept + (length s.asked + length s.claims) ≤ 128
  room_so =
      let a = kept_few s.kept once node.store.few in
      let b = asked_few in
      let c = few_length s.claims (claims_few node.space) in
      omega (arith, a, b, c)

  may_end : length w.script.lines ≤ 4096 → (p : Plan) → s.plan ≡ Some p → MayEnd w.geometry n s w.locks
  may_end few p plan = record {
    cmd = ap is_some r.has;
    plan = ap is_some plan;
    few = answers_fit w.script n s.past few (subst (HasFewAnswers w.script n) (sym node.past) (good.few n));
    room = room_so;
    gives = may_put;
    closes = λ x q has_cmd has_plan. closes_so x (reply_by q.ask s.tried q.reply) (form_now w good n s r.at x has_cmd r.free);
  }

  pub may_end_at : length w.script.lines ≤ 4096 → (p : Plan) → r.state.plan ≡ Some p → (q : NodeState) → node_at w.nodes n ≡ Some q → MayEnd w.geometry n q w.locks
  may_end_at few p plan q at =
      let f : Some r.state ≡ Some q = sym r.at ∙ at in
      let h : r.state ≡ q = cc in
      subst (λ (y : NodeState). MayEnd w.geometry n y w.locks) h (may_end few p plan)
