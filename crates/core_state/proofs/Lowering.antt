-- A node lowers V, and behind it X, or gives X back.
use Rattle.std.proofs.Common.{◌≡◌, ◌≢◌, ◌≤◌, ◌+◌, ◌++◌, ◌⊎◌, ℕ, zero, suc, Bool, true, false, cond, List, [], ◌∷◌, Option, Some, None, is_some, length, take, slice_get, refl, sym, ap, subst, ◌∙◌, inl, inr, arith}
use Rattle.std.proofs.lemmas.List.{append-nil}
use Rattle.lock_db.specs.declared.name.LockName.{LockName}
use Rattle.lock_db.specs.declared.name.LockName.TheVariants.{A, X, V}
use Rattle.lock_db.specs.declared.resource.Resource.{Resource}
use Rattle.base_words.specs.Fields.{Block}
use Rattle.lock_db.specs.Queues.{lock_of}
use Rattle.lock_db.specs.Laws.{BlockIs}
use Rattle.lock_db.specs.Tables.{resource_at}
use Rattle.lock_db.proofs.Blocks.{converted-leaves, released-leaves}
use Rattle.plain_cat.specs.Modes.{rank}
use Rattle.plain_cat.specs.declared.mode.Mode.{Mode}
use Rattle.plain_cat.specs.declared.mode.Mode.TheVariants.{NL, CR, CW, PR, PW}
use Rattle.plain_cat.specs.declared.command.Cmd.{Cmd}
use Rattle.plain_cat.specs.declared.cat.Cat.{Cat}
use Rattle.node_locks.specs.Held.{HoldsItsLocks, has_lock, system_of, Row, names_of, AreHeld, with_rows, IsGranted, waits_at, held_locks, all_held, without}
use Rattle.node_locks.specs.Sequences.{first_sequence, second_sequence, raised_block}
use Rattle.node_locks.proofs.Standing.{goes-still, held-asked}
use Rattle.node_locks.proofs.Keeping.{held_are_granted, rows_go_on}
use Rattle.base_words.specs.Lists.{Has, Touches}
use Rattle.vol_spell.specs.Owners.{Owners, Things, nothing, Outs}
use Rattle.base_words.proofs.Listing.{has_parted, has_first, has_second}
use Rattle.vol_parts.specs.declared.geometry.Geometry.{Geometry}
use Rattle.vol_under.specs.UnderWay.{UnderWay, together, changed, AreSole}
use Rattle.core_state.specs.Committed.{IsUnderOn}
use Rattle.vol_under.specs.Keeping.{IsBitmap}
use Rattle.op_law.specs.declared.need.PlanWrite.{PlanWrite}
use Rattle.op_law.specs.Fits.{things}
use Rattle.op_law.specs.Laws.{held_in}
use Rattle.core_space.specs.declared.run.Phase.{Phase}
use Rattle.core_space.specs.declared.run.Phase.TheVariants as phase
use Rattle.core_state.specs.Worlds.{empty_stock, Course, course_of, NodeState, Plain, node_at, set_node, rows_of, rows_in, rows_at}
use Rattle.core_state.specs.Asks.{has_asked, is_claiming, granted_ask, writes_now}
use Rattle.core_state.specs.Opens.{open_with, open_now, AreOpensLocked}
use Rattle.core_state.specs.Raises.{raise_of}
use Rattle.core_state.specs.Small.{lent, owed_in, owed, AreSmall}
use Rattle.core_state.specs.Stocks.{things_in, stock_now, looked_now}
use Rattle.core_state.specs.Searches.{begun_run, next_back, AreUnderV, IsGoingBack, LooksOn, WritesBack, HasFilled, IsDraining, IsGivingBack, Served, Alone, Spaces, Off, Busy}
use Rattle.core_state.specs.Stores.{IsKeptLow, IsKeptX, AreKept, HasStore, IsStocked, hold_writes}
use Rattle.core_state.specs.Waiting.{IsAside, WaitsAside}
use Rattle.core_state.specs.Goods.{under_with, nodes_under, IsNode, Good, held_by}
use Rattle.core_state.specs.Events.{is_out, turned, lowering, lowering_both, returning, v_lowered, x_lowered, x_returned}
use Rattle.core_state.proofs.StockSizes.{few_stays, few_none}
use Rattle.core_state.proofs.Holding.{HasIn, in_held_is, is_in_held, held_grows}
use Rattle.core_state.proofs.Naming.{one_of, named_by, asked_is, is_asked, stays_without, from_without}
use Rattle.core_state.proofs.Running.{at_any, under_grown, claims_held, are_sole}
use Rattle.core_state.proofs.Opens.{opens_converted, opens_released}
use Rattle.core_state.proofs.Keeping.{altered, still_driven, rebuilt, held_set, LosesNothing, row_of_name}
use Rattle.core_state.proofs.Rows.{AreLowered, v_lock, v_lowers, x_lock, x_lowers, x_returns}
use Rattle.core_state.proofs.SmallTables.{is_first, is_second, lowered_once, converted_same, released_own}
use Rattle.core_state.proofs.SmallWorlds.{small_lowered}
use Rattle.core_state.proofs.Beginning.{stays_stocked}
use Rattle.core_state.proofs.Standing.{all_taken, back_taken, with_nothing}
use Rattle.core_state.proofs.Turning.{Rest, rest_of, has_name, guarding_of}
use Rattle.node_locks.proofs.Nodes.{rows_here as own_rows}
use Rattle.core_state.proofs.Claiming.{mine, space_node}
use Rattle.core_state.proofs.Claims.{keeps_on, owed_at}
use Rattle.core_state.proofs.Backs.{back_over}
use Rattle.core_state.proofs.Midway.{lowers_them, here_so, drive_so, outs_so, law_so, wide_so, plan_apart}
use Rattle.core_state.proofs.Returning.{not_its, holds_v, back_drive}
use Rattle.core_state.proofs.CachedTables.{Kept, put_back_block}
use Rattle.core_state.proofs.CachedLooks.{store_without}
use Rattle.core_state.proofs.CachedLowering.{store_more, all_higher, command_apart, IsLoweredTo, lowered_writes, lowered_cached}
use Rattle.core_state.proofs.Lasting.{free_lasting, lock_named, goes_lasting}

pub no_run_left : (o : Option ℕ) → o ≡ None → is_some o ≡ true → ⊥
no_run_left o e f = absurd (let g : false ≡ true = sym (ap is_some e) ∙ f in cc)

-- behind the last of some writes there is none
none_last : (ws : List PlanWrite) (k : ℕ) → k ≡ length ws → slice_get ws k ≡ None
none_last [] zero e = refl
none_last [] (suc k) e = refl
none_last (w ∷ ws) zero e = absurd (let f : 0 ≡ suc (length ws) = e in omega (arith, f))
none_last (w ∷ ws) (suc k) e = none_last ws k (let f : suc k ≡ suc (length ws) = e in omega (arith, f))

-- and where there is none behind the first k, these are all
all_first : (ws : List PlanWrite) (k : ℕ) → slice_get ws k ≡ None → take k ws ≡ ws
all_first [] zero e = refl
all_first [] (suc k) e = refl
all_first (w ∷ ws) zero e = absurd (let f : Some w ≡ None = e in cc)
all_first (w ∷ ws) (suc k) e = ap (λ (vs : List PlanWrite). w ∷ vs) (all_first ws k e)

module _ (w : Plain) (good : Good w) (n : ℕ) (s : NodeState) (at : node_at w.nodes n ≡ Some s) (on : is_out s ≡ false) (granted : waits_at w.locks n s.claims ≡ false) (claims : s.claims ≡ (V, PW) ∷ []) where
  abbrev cat : Cat
  cat = good.running.cat

  abbrev g : Geometry
  g = s.seen.geometry

  abbrev u : UnderWay
  u = under_with w.locks n s s.cmd

  me : IsNode w n s
  me = good.nodes n s at

  at_rows : rows_at w.nodes n ≡ s.kept ∷ (s.asked ∷ (((V, PW) ∷ []) ∷ []))
  at_rows = ap rows_in at ∙ ap (λ (ls : Row). s.kept ∷ (s.asked ∷ (ls ∷ []))) claims

  free_v : waits_at w.locks n ((V, PW) ∷ []) ≡ false
  free_v = ap (waits_at w.locks n) (sym claims) ∙ granted

  has_v : Has s.claims (V, PW)
  has_v = subst (λ (ls : Row). Has ls (V, PW)) (sym claims) (inl refl)

  pub granted_v : IsGranted w.locks n (V, PW)
  granted_v = (held_are_granted w.locks n (V, PW) (rows_of s) (mine w good n s at on)).0 (claims_held w.locks n s (V, PW) granted has_v)

  abbrev value : List ℕ
  value = raised_block V (raise_of w.geometry V s.run.writes) (resource_at V w.locks)

  abbrev mid : List Resource
  mid = v_lowered w n s

  abbrev kept_mid : Row
  kept_mid = s.kept ++ (V, NL) ∷ []

  pub lock_v : lock_of (system_of n) (resource_at V w.locks).askers ≡ Some PW
  lock_v = v_lock w.locks n value (rows_at w.nodes) s.kept s.asked good.locked.0 good.locked.1 at_rows me.rests free_v granted_v

  v_so : AreLowered w.locks n (kept_mid ∷ (s.asked ∷ ([] ∷ []))) kept_mid s.asked (rows_at w.nodes) mid
  v_so = v_lowers w.locks n value (rows_at w.nodes) s.kept s.asked good.locked.0 good.locked.1 at_rows me.rests free_v granted_v

  v_not_a : (f : ℕ) → V ≢ A f
  v_not_a f e = cc

  x_not_a : (f : ℕ) → X ≢ A f
  x_not_a f e = cc

  not_cw : NL ≢ CW
  not_cw e = cc

  opens_mid : AreOpensLocked mid (open_now cat w.nodes)
  opens_mid = opens_converted V n PW NL value w.locks (open_now cat w.nodes) good.locked.0 v_not_a lock_v not_cw good.running.opens

  -- the value block of V is raised, and those of all locks but X stay
  pub record AreRaised (after : List Resource) : Type 0 where
    pub block : BlockIs value true (resource_at V after)
    pub elsewhere : (name : LockName) → name ≢ V → name ≢ X → resource_at name after ≡ resource_at name w.locks

  v_not_x : V ≢ X
  v_not_x e = cc

  raised_mid : AreRaised mid
  raised_mid = record {
    block = put_back_block n w.locks (V, PW) value lock_v (Some NL) (Kept refl) true refl;
    elsewhere = λ name not_v not_x. converted-leaves V (system_of n) NL value w.locks name not_v;
  }

  raised_on : (after : List Resource) → ((name : LockName) → name ≢ X → resource_at name after ≡ resource_at name mid) → AreRaised after
  raised_on after same = record {
    block = subst (BlockIs value true) (sym (same V v_not_x)) raised_mid.block;
    elsewhere = λ name not_v not_x. same name not_x ∙ raised_mid.elsewhere name not_v not_x;
  }

  -- V is kept in NL
  keeps_v : (p : Phase) (l : LockName × Mode) → Has ((V, NL) ∷ []) l → IsKeptLow l ⊎ IsKeptX p l
  keeps_v p l (inl e) = inl (subst IsKeptLow e (refl, refl))
  keeps_v p l (inr f) = absurd f

  keeps_mid : (p : Phase) → (s.run.phase ≡ phase.Last → ⊥) → AreKept p kept_mid
  keeps_mid p not_last l i = elim (has_parted s.kept ((V, NL) ∷ []) l i) [ inl a ↦ keeps_on s.run.phase p s.kept (inl not_last) me.store.kept l a | inr a ↦ keeps_v p l a ]

  store_mid : (p : Phase) → (s.run.phase ≡ phase.Last → ⊥) → HasStore p kept_mid s.cache
  store_mid p not_last = store_more s.run.phase p s.kept ((V, NL) ∷ []) s.cache refl me.store (keeps_mid p not_last)

  -- ---- whatever more it gives

  module _ (r : NodeState) (after : List Resource) (low : AreLowered w.locks n (r.kept ∷ (s.asked ∷ ([] ∷ []))) r.kept s.asked (rows_at w.nodes) after) (same_rest : rest_of r ≡ rest_of s) (same_cmd : r.cmd ≡ s.cmd) (same_course : course_of r ≡ course_of s) (no_claims : r.claims ≡ [])
      (same_cache : r.cache ≡ s.cache) (wrote : hold_writes r ≡ take s.done (writes_now s.tried s.plan)) (keeps_most : (l : LockName × Mode) → l.0 ≢ X → Has kept_mid l → Has r.kept l) (raised : AreRaised after) where
    same_asked : r.asked ≡ s.asked
    same_asked = ap (λ (d : Course). d.asked) same_course

    rows_so : rows_of r ≡ r.kept ∷ (s.asked ∷ ([] ∷ []))
    rows_so = λ i. r.kept ∷ (same_asked i ∷ (no_claims i ∷ []))

    -- its other locks are held still
    holds_on : (mode : Mode) → rank CR ≤ rank mode → (name : LockName) → (name ≡ V → ⊥) → (name ≡ X → ⊥) → Has (held_in mode (held_by w.locks n s)) name → Has (held_in mode (held_by after n r)) name
    holds_on mode some name not_v not_x h = is_in_held mode (held_by after n r) name (record { in_mode = k.in_mode; has = subst (λ (rs : List Row). Has (all_held after n rs) (name, k.in_mode)) (sym rows_so) (by_place (has_parted (held_locks w.locks n s.kept) (held_locks w.locks n s.asked ++ (held_locks w.locks n s.claims ++ [])) (name, k.in_mode) k.has)); strong = k.strong }) where
      k : HasIn mode (held_by w.locks n s) name
      k = in_held_is mode (held_by w.locks n s) name h

      not_low : k.in_mode ≡ NL → ⊥
      not_low e = let le : rank mode ≤ rank NL = subst (λ (m : Mode). rank mode ≤ rank m) e k.strong in absurd (omega arith)

      not_kept : Has s.kept (name, k.in_mode) → ⊥
      not_kept a = elim (me.store.kept (name, k.in_mode) a) [ inl e ↦ not_low e.1 | inr e ↦ not_x e.0 ]

      not_claimed : Has s.claims (name, k.in_mode) → ⊥
      not_claimed a = not_v (ap (λ (y : LockName × Mode). y.0) (sym (one_of s.claims (V, PW) (name, k.in_mode) claims a)))

      in_asked : Has (held_locks w.locks n s.asked) (name, k.in_mode) → Has (all_held after n (r.kept ∷ (s.asked ∷ ([] ∷ [])))) (name, k.in_mode)
      in_asked a = has_second (held_locks after n r.kept) (held_locks after n s.asked ++ (held_locks after n [] ++ [])) (name, k.in_mode)
          (has_first (held_locks after n s.asked) (held_locks after n [] ++ []) (name, k.in_mode) (subst (λ (ls : Row). Has ls (name, k.in_mode)) (sym low.asked_still.holds) a))

      by_place : Has (held_locks w.locks n s.kept) (name, k.in_mode) ⊎ Has (held_locks w.locks n s.asked ++ (held_locks w.locks n s.claims ++ [])) (name, k.in_mode) → Has (all_held after n (r.kept ∷ (s.asked ∷ ([] ∷ [])))) (name, k.in_mode)
      by_place (inl a) = absurd (not_kept (held-asked w.locks n s.kept (name, k.in_mode) a))
      by_place (inr a) = elim (has_parted (held_locks w.locks n s.asked) (held_locks w.locks n s.claims ++ []) (name, k.in_mode) a) [
        | inl c ↦ in_asked c
        | inr c ↦ absurd (not_claimed (held-asked w.locks n s.claims (name, k.in_mode) (subst (λ (ls : Row). Has ls (name, k.in_mode)) (append-nil (held_locks w.locks n s.claims)) c)))
      ]

    loses : (m : ℕ) (q : NodeState) → m ≢ n → node_at w.nodes m ≡ Some q → LosesNothing w.locks after m q
    loses m q ne e ls i = low.others m ls ne (subst (λ (rs : List Row). Has rs ls) (sym (ap rows_in e)) i)

    -- and so are those of which a conversion waits, or which are in NL
    lasting_on : (name : LockName) → name ≢ X → has_lock name (system_of n) w.locks ≡ true → has_lock name (system_of n) after ≡ true
    lasting_on name not_x h = elim (row_of_name s name (lock_named w.locks n (rows_of s) name (mine w good n s at on) h)) [
      | inl a ↦ let k = named_by s.kept name a in kept_on k.0 (has_first s.kept ((V, NL) ∷ []) (name, k.0) k.1)
      | inr b ↦ elim b [
        | inl c ↦ (goes-still w.locks after n s.asked low.asked_still).lasting name c h
        | inr d ↦
            let k = named_by s.claims name d in
            let is_v : V ≡ name = ap (λ (l : LockName × Mode). l.0) (one_of s.claims (V, PW) (name, k.0) claims k.1) in
            kept_on NL (has_second s.kept ((V, NL) ∷ []) (name, NL) (inl (ap (λ (y : LockName). (y, NL)) is_v)))
      ]
    ] where
      rows_after : List Row
      rows_after = r.kept ∷ (s.asked ∷ ([] ∷ []))

      holds_after : HoldsItsLocks after n rows_after
      holds_after = subst (λ (rs : List Row). HoldsItsLocks after n rs) (own_rows (rows_at w.nodes) n rows_after) (low.held n)

      kept_on : (mode : Mode) → Has kept_mid (name, mode) → has_lock name (system_of n) after ≡ true
      kept_on mode k = free_lasting after n rows_after r.kept name holds_after (inl refl) low.rests (has_name r.kept name mode (keeps_most (name, mode) not_x k))

    others_on : (m : ℕ) (q : NodeState) (k : LockName × Mode) → m ≢ n → node_at w.nodes m ≡ Some q → Has (held_by w.locks m q) k → Has (held_by after m q) k
    others_on m q k ne e h = rows_go_on w.locks after m (rows_of q) k (loses m q ne e) h

    held_then : AreHeld after (rows_at (set_node w.nodes n r))
    held_then = held_set after w.nodes n s r at (subst (λ (rs : List Row). AreHeld after (with_rows (rows_at w.nodes) n rs)) (sym rows_so) low.held)

    -- where its rules have made all their writes, each under V
    lowered : AreUnderV s.run.writes → slice_get s.run.writes s.run.made ≡ None → IsLoweredTo w n s r after
    lowered under none = record {
      at = at;
      under = under;
      made = all_first s.run.writes s.run.made none;
      apart = command_apart w good n s at (not_its w good n s at on granted claims);
      left = wrote;
      writer = holds_v w good n s at on granted claims;
      block = raised.block;
      elsewhere = raised.elsewhere;
      holds = holds_on PW (omega arith);
      others = others_on;
      lasting = lasting_on;
      others_lasting = λ m q name ne e k. goes_lasting w.locks after m q name (subst (λ (rs : List Row). HoldsItsLocks w.locks m rs) (ap rows_in e) (good.locked.1 m)) (loses m q ne e) k;
      cache = same_cache;
    }

    abbrev read : List LockName
    read = held_in PR (held_by after n r)

    abbrev write : List LockName
    write = held_in PW (held_by after n r)

    abbrev v : UnderWay
    v = record u { seen = s.seen.blocks; read = read; write = write }

    abbrev base : List Block
    base = good.running.drive.base

    abbrev own : Owners
    own = good.running.drive.own

    pub lowers_so : AreUnderV s.run.writes → slice_get s.run.writes s.run.made ≡ None → v ≡ under_with after n r r.cmd → ((l : ℕ) → Touches s.seen.blocks l → IsBitmap g l → ⊥)
        → (WaitsAside s.run.phase s.asked s.seen.number → WaitsAside r.run.phase s.asked s.seen.number) → AreOpensLocked after (open_now cat w.nodes) → AreSmall (altered w after w.blocks (set_node w.nodes n r) w.history) → IsStocked r → HasStore r.run.phase r.kept r.cache
        → Spaces s.cmd r.kept r.claims r.run r.stock r.seen → Good (altered w after w.blocks (set_node w.nodes n r) w.history)
    lowers_so under none there apart asks opens small stocked store space =
        let drive_now = lowers_them g cat (nodes_under w.locks w.nodes) w.blocks n u (here_so w good n s at) (drive_so w good n s at) s.seen.blocks (λ y h. has_second (looked_now s.run) s.seen.blocks y h)
        (law_so w good n s at [] u.read u.write u.stock (wide_so w good n s at)) read write (holds_on PR (omega arith)) (holds_on PW (omega arith)) apart (plan_apart w good n s at (not_its w good n s at on granted claims)) in
        let under_then = under_grown w.geometry cat base own w.locks after w.nodes n s r w.blocks at others_on
        (subst (λ (k : UnderWay). IsUnderOn w.geometry cat base own (changed (nodes_under w.locks w.nodes) n k) w.blocks) there (back_drive w good n s at on granted claims base own v w.blocks drive_now)) in
        let sole : AreSole (nodes_under w.locks w.nodes) = are_sole w.locks w.nodes good.locked.0 good.locked.1 in
        let is : IsLoweredTo w n s r after = lowered under none in
        rebuilt w good n s r at after w.blocks w.history
        (still_driven w good n s r at after w.blocks (λ part o low. ap (λ (d : Course). open_with part (granted_ask d.tried d.plan) o) same_course) (ap (λ (k : Rest). k.opens) same_rest) base own good.running.blank under_then opens
        (lowered_cached w sole good.writers n s r after is (are_sole after (set_node w.nodes n r) low.table held_then) (guarding_of w good) (all_higher w good) own cat good.running.cached))
        (low.table, held_then) good.own small (good.few n) (λ m ne. refl) loses stocked
        (lowered_writes w sole good.writers n s r after is)
        (space_node w good n s at on after w.blocks r same_rest same_cmd same_course (λ e. low.asked_still.waits ∙ e) (λ e. asks) store low.rests space)

  -- ---- sequences

  first_mid : (name : LockName) → first_sequence (resource_at name mid).value ≤ first_sequence (resource_at name w.locks).value + 1
  first_mid name = lowered_once first_sequence is_first w.geometry s.run.writes name (system_of n) NL w.locks (ap is_some lock_v)

  second_mid : (name : LockName) → second_sequence (resource_at name mid).value ≤ second_sequence (resource_at name w.locks).value + 1
  second_mid name = lowered_once second_sequence is_second w.geometry s.run.writes name (system_of n) NL w.locks (ap is_some lock_v)

  -- ---- the stock was filled, and V is lowered

  pub v_keeps : (x : Cmd) → s.cmd ≡ Some x → HasFilled x s.kept s.claims s.run s.stock s.seen → Good (altered w mid w.blocks (set_node w.nodes n (turned (lowering s))) w.history)
  v_keeps x cmd h = lowers_so r mid v_so refl refl refl refl refl refl (λ l ne i. i) raised_mid h.locks (none_last s.run.writes s.run.made h.all) there h.needs.apart (subst (λ (p : Phase). WaitsAside p s.asked s.seen.number) h.fill) opens_mid
      (small_lowered w good.small n s r at mid mid w.blocks first_mid second_mid (λ name. omega arith) (λ name. omega arith) refl owes)
      (stays_stocked s r refl stock_same (λ k. held_grows CR s.kept kept_mid X (λ l i. has_first s.kept ((V, NL) ∷ []) l i) k) (few_stays s r refl refl refl) (good.running.stocked n s at))
      (store_mid phase.Fill not_last)
      (Busy x cmd (Served (record { run = refl; claims = refl; needs = h.needs; enough = h.enough }))) where
        r : NodeState
        r = turned (lowering s)

        not_last : s.run.phase ≡ phase.Last → ⊥
        not_last f = absurd (let z : phase.Fill ≡ phase.Last = sym h.fill ∙ f in cc)

        stock_same : stock_now r.stock r.run ≡ stock_now s.stock s.run
        stock_same = ap (together (things_in s.stock)) (sym (all_taken s.run.phase s.run.writes s.run.made h.all))

        there : record u { seen = s.seen.blocks; read = held_in PR (held_by mid n r); write = held_in PW (held_by mid n r) } ≡ under_with mid n r r.cmd
        there = λ i. record (at_any n s s.cmd (held_by mid n r)) { seen = s.seen.blocks; stock = sym stock_same i }

        owes : owed r + 1 ≤ owed s
        owes =
            let a : owed s ≡ 4 = owed_at s x cmd ∙ (λ i. owed_in (h.fill i) (is_claiming (claims i)) (lent s)) in
            let b : owed r ≡ 3 = owed_at r x cmd in
            omega arith

  -- ---- the stock went back

  module _ (none : slice_get s.run.writes s.run.made ≡ None) (no_next : next_back g s.stock s.run ≡ None) (which : (s.run.phase ≡ phase.Drain) ⊎ (s.run.phase ≡ phase.Back)) (goes : IsGoingBack g s.stock s.run) (shared : Has s.kept (X, CR)) where
    no_more : stock_now s.stock s.run ≡ things_in s.stock
    no_more = ap (together (things_in s.stock)) (back_taken s.run.phase s.run.writes s.run.made which) ∙ with_nothing (things_in s.stock)

    empty_by : IsGoingBack g s.stock s.run → s.stock ≡ empty_stock
    empty_by (LooksOn more writes made) = absurd (no_run_left (next_back g s.stock s.run) no_next more)
    empty_by (WritesBack b) = back_over g n u.took cat s.stock s.run (drive_so w good n s at).base (drive_so w good n s at).own (drive_so w good n s at).spelt
        (subst (λ (k : Things). Outs n (drive_so w good n s at).own u.took k) no_more (outs_so w good n s at)) b none

    pub empty : s.stock ≡ empty_stock
    empty = empty_by goes

    under_v : IsGoingBack g s.stock s.run → AreUnderV s.run.writes
    under_v (LooksOn more writes made) = λ v h. absurd (subst (λ (ws : List PlanWrite). Has ws v) writes h)
    under_v (WritesBack b) = b.locks

    nothing_now : (q : Phase) → stock_now s.stock (begun_run q) ≡ nothing
    nothing_now phase.Off = λ i. together (things_in (empty i)) nothing
    nothing_now phase.Fill = λ i. together (things_in (empty i)) nothing
    nothing_now phase.Drain = λ i. together (things_in (empty i)) nothing
    nothing_now phase.Last = λ i. together (things_in (empty i)) nothing
    nothing_now phase.Back = λ i. together (things_in (empty i)) nothing

    was_nothing : stock_now s.stock s.run ≡ nothing
    was_nothing = no_more ∙ ap things_in empty

    not_last : s.run.phase ≡ phase.Last → ⊥
    not_last f = elim which [ inl e ↦ absurd (let z : phase.Drain ≡ phase.Last = sym e ∙ f in cc) | inr e ↦ absurd (let z : phase.Back ≡ phase.Last = sym e ∙ f in cc) ]

    abbrev less : Row
    less = without X kept_mid

    stays_less : (l : LockName × Mode) → l.0 ≢ X → Has kept_mid l → Has less l
    stays_less l not_x h = stays_without kept_mid X l h not_x

    store_less : (q : Phase) → HasStore q less s.cache
    store_less q = store_without q kept_mid s.cache X (store_mid q not_last)

    keeps_low : AreKept phase.Last (less ++ (X, NL) ∷ [])
    keeps_low l i = elim (has_parted less ((X, NL) ∷ []) l i) [
      | inl a ↦ (store_less phase.Last).kept l a
      | inr a ↦ elim a [ inl e ↦ inr (ap (λ (y : LockName × Mode). y.0) (sym e), inr refl) | inr f ↦ absurd f ]
    ]

    -- too little was found: X is lowered too
    abbrev t_low : List Resource
    t_low = x_lowered n mid

    x_so : AreLowered w.locks n ((less ++ (X, NL) ∷ []) ∷ (s.asked ∷ ([] ∷ []))) (less ++ (X, NL) ∷ []) s.asked (rows_at w.nodes) t_low
    x_so = x_lowers w.locks n value (rows_at w.nodes) s.kept s.asked good.locked.0 good.locked.1 at_rows me.rests free_v CR shared granted_v refl (λ e. absurd (let f : CR ≡ PR = e in cc))

    pub lock_x : lock_of (system_of n) (resource_at X mid).askers ≡ Some CR
    lock_x = x_lock w.locks n value (rows_at w.nodes) s.kept s.asked good.locked.0 good.locked.1 at_rows me.rests free_v CR shared granted_v

    not_aside : s.run.phase ≡ phase.Drain → IsAside s.run.phase → ⊥
    not_aside d (inl e) = absurd (let z : phase.Drain ≡ phase.Off = sym d ∙ e in cc)
    not_aside d (inr e) = absurd (let z : phase.Drain ≡ phase.Back = sym d ∙ e in cc)

    pub x_keeps : (x : Cmd) → s.cmd ≡ Some x → IsDraining x s.kept s.claims s.run s.stock s.seen → Good (altered w t_low w.blocks (set_node w.nodes n (turned (lowering_both s))) w.history)
    x_keeps x cmd h = lowers_so r t_low x_so refl refl refl refl refl refl (λ l ne i. has_first less ((X, NL) ∷ []) l (stays_less l ne i))
        (raised_on t_low (λ name ne. converted-leaves X (system_of n) NL (resource_at X mid).value mid name ne)) (under_v goes) none there h.needs.apart (λ a. elim a [ inl b ↦ absurd (not_aside h.drain b) | inr b ↦ inr b ])
        (opens_converted X n CR NL (resource_at X mid).value mid (open_now cat w.nodes) v_so.table x_not_a lock_x not_cw opens_mid)
        (small_lowered w good.small n s r at t_low mid w.blocks first_mid second_mid
        (λ name. let e = converted_same first_sequence is_first X name (system_of n) NL mid (ap is_some lock_x) in omega arith) (λ name. let e = converted_same second_sequence is_second X name (system_of n) NL mid (ap is_some lock_x) in omega arith) refl owes)
        (record { holds = inl (record { given = λ i. things (h.needs.none.clusters i) (h.needs.none.number i); stock = nothing_now phase.Last }); few = few_none r empty })
        (store_more phase.Last phase.Last less ((X, NL) ∷ []) s.cache refl (store_less phase.Last) keeps_low)
        (Busy x cmd (Alone (record { run = refl; claims = inl (refl, has_second less ((X, NL) ∷ []) (X, NL) (inl refl)); empty = empty; needs = h.needs }))) where
          r : NodeState
          r = turned (lowering_both s)

          stock_same : stock_now r.stock r.run ≡ stock_now s.stock s.run
          stock_same = nothing_now phase.Last ∙ sym was_nothing

          there : record u { seen = s.seen.blocks; read = held_in PR (held_by t_low n r); write = held_in PW (held_by t_low n r) } ≡ under_with t_low n r r.cmd
          there = λ i. record (at_any n s s.cmd (held_by t_low n r)) { seen = s.seen.blocks; stock = sym stock_same i }

          owes : owed r + 1 ≤ owed s
          owes =
              let a : owed s ≡ 4 = owed_at s x cmd ∙ (λ i. owed_in (h.drain i) (is_claiming (claims i)) (lent s)) in
              let b : owed r ≡ 3 = owed_at r x cmd in
              omega arith

    -- the give-back is over: X goes back
    abbrev t_back : List Resource
    t_back = x_returned n mid

    back_so : AreLowered w.locks n (less ∷ (s.asked ∷ ([] ∷ []))) less s.asked (rows_at w.nodes) t_back
    back_so = x_returns w.locks n value (rows_at w.nodes) s.kept s.asked good.locked.0 good.locked.1 at_rows me.rests free_v CR shared granted_v

    pub return_keeps : IsGivingBack s.kept s.claims s.run s.stock s.seen → Good (altered w t_back w.blocks (set_node w.nodes n (turned (returning s))) w.history)
    return_keeps h = lowers_so r t_back back_so refl refl refl refl refl refl stays_less
        (raised_on t_back (λ name ne. released-leaves X (system_of n) (resource_at X mid).value mid name ne)) (under_v goes) none there h.apart (λ a. inl (inl refl))
        (opens_released X n (resource_at X mid).value mid (open_now cat w.nodes) v_so.table opens_mid)
        (small_lowered w good.small n s r at t_back mid w.blocks first_mid second_mid
        (λ name. released_own first_sequence is_first X name (system_of n) mid) (λ name. released_own second_sequence is_second X name (system_of n) mid) refl (owes s.cmd))
        (record { holds = inl (record { given = λ i. things (h.space.clusters i) (h.space.number i); stock = nothing_now phase.Off }); few = few_none r empty })
        (store_less phase.Off)
        (Off (record { run = refl; claims = refl; space = h.space })) where
          r : NodeState
          r = turned (returning s)

          stock_same : stock_now r.stock r.run ≡ stock_now s.stock s.run
          stock_same = nothing_now phase.Off ∙ sym was_nothing

          there : record u { seen = s.seen.blocks; read = held_in PR (held_by t_back n r); write = held_in PW (held_by t_back n r) } ≡ under_with t_back n r r.cmd
          there = λ i. record (at_any n s s.cmd (held_by t_back n r)) { seen = s.seen.blocks; stock = sym stock_same i }

          lent_before : lent s ≡ 1
          lent_before = ap (λ b. cond b 1 0) (is_asked s.kept X (named_in s.kept shared)) where
            named_in : (ls : Row) → Has ls (X, CR) → Has (names_of ls) X
            named_in [] k = absurd k
            named_in (l ∷ ls) (inl e) = inl (ap (λ (y : LockName × Mode). y.0) e)
            named_in (l ∷ ls) (inr k) = inr (named_in ls k)

          lent_after : lent r ≡ 0
          lent_after = ap (λ b. cond b 1 0) (asked_not less none_left) where
            none_left : Has (names_of less) X → ⊥
            none_left k = let l = named_by less X k in (from_without kept_mid X (X, l.0) l.1).1 refl

            asked_not : (ls : Row) → (Has (names_of ls) X → ⊥) → has_asked X ls ≡ false
            asked_not ls away = by_test (has_asked X ls) refl where
              by_test : (b : Bool) → has_asked X ls ≡ b → has_asked X ls ≡ false
              by_test true e = absurd (away (asked_is ls X e))
              by_test false e = e

          owes : (o : Option Cmd) → cond (is_some o) (owed_in phase.Off false (lent r)) (lent r) + 1 ≤ cond (is_some o) (owed_in s.run.phase (is_claiming s.claims) (lent s)) (lent s)
          owes None = let a = lent_before in let b = lent_after in omega arith
          owes (Some y) = let a = lent_before in let b = lent_after in let c : owed_in s.run.phase (is_claiming s.claims) (lent s) ≡ 4 + lent s = ap (λ (p : Phase). owed_in p (is_claiming s.claims) (lent s)) h.back in omega arith
