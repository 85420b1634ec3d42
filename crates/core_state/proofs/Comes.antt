-- Which event comes by the rules for space, and how the node stands then.
use Rattle.std.proofs.Common.{◌≡◌, ◌≢◌, ◌⊎◌, ◌++◌, ◌<◌, ◌≤◌, ◌∷◌, [], ℕ, zero, suc, Bool, true, false, cond, List, Option, Some, None, is_some, length, slice_get, refl, sym, ap, subst, ◌∙◌, inl, inr, arith}
use Rattle.std.specs.Prelude.{◌&&◌, not, find, slice_index_or}
use Rattle.lock_db.specs.declared.name.LockName.{LockName}
use Rattle.lock_db.specs.declared.name.LockName.TheVariants.{X, V}
use Rattle.lock_db.specs.Names.{is_same}
use Rattle.plain_cat.specs.declared.mode.Mode.{Mode}
use Rattle.plain_cat.specs.declared.mode.Mode.TheVariants.{NL, CR, PW, EX}
use Rattle.plain_cat.specs.declared.command.Cmd.{Cmd}
use Rattle.node_locks.specs.Held.{Row, joined, names_of}
use Rattle.base_words.specs.Lists.{Has, Once}
use Rattle.op_law.specs.declared.need.PlanWrite.{PlanWrite}
use Rattle.op_law.specs.Events.{Space, space_of, has_space, HasNoSpace}
use Rattle.op_law.specs.Needs.{events_of}
use Rattle.extent_cache.specs.Takings.{holds_enough}
use Rattle.core_space.specs.declared.outcome.Search.TheVariants as search
use Rattle.core_space.specs.Searching.{places}
use Rattle.core_space.specs.Answering.{answered, answer, blocks_alone}
use Rattle.core_space.proofs.Taken.{takes_all}
use Rattle.core_space.specs.declared.event.SpaceEvent.{SpaceEvent}
use Rattle.core_space.specs.declared.event.SpaceEvent.TheVariants as space
use Rattle.core_space.specs.declared.run.Phase.{Phase}
use Rattle.core_space.specs.declared.run.Phase.TheVariants as phase
use Rattle.core_space.specs.declared.run.SpaceRun.{SpaceRun}
use Rattle.core_space.specs.declared.run.SpaceNeed.{SpaceNeed}
use Rattle.core_space.specs.Rule.{is_shared, is_exclusive, is_writer, put_of, after_writes, after_looks, written_first, by_search, fill_event, last_event, event_in, space_event, next_fill, next_give}
use Rattle.core_state.specs.Worlds.{empty_stock, NodeState, Plain, node_at, rows_of}
use Rattle.core_state.specs.Stocks.{roomless}
use Rattle.core_state.specs.Asks.{is_claiming}
use Rattle.core_state.specs.Stores.{AreKept}
use Rattle.core_state.specs.Searches.{begun_run, wanted_by, numbered_by, is_enough, next_back, NeedsSpace, IsOff, AsksShared, FillLooks, FillWrites, HasFilled, IsWritingBack, IsGoingBack, LooksOn, WritesBack, IsDraining, IsGivingBack, IsLooking, IsTaking, Rules, Served, Given, Shared, Fills, Grabs, Filled, Drains, Alone, Looking, Taking, Taken, Refused, Spaces, Off, Back, Busy}
use Rattle.core_state.specs.Goods.{IsNode, Good}
use Rattle.core_state.specs.Event.{Event}
use Rattle.core_state.specs.Event as event
use Rattle.core_state.specs.Events.{mode_of_lock, mode_in, space_locks, space_state, space_need, by_put, by_rule, phase_begun, may_serve, serves, by_space, is_out, gives_back_in, gives_back, by_back}
use Rattle.core_state.proofs.Naming.{none_of, one_of, mode_is, mode_has}
use Rattle.core_state.proofs.Holding.{named_there}
use Rattle.core_state.proofs.Keeping.{kept_once, kept_apart}
use Rattle.core_state.proofs.Seeking.{no_space, wants_some}
use Rattle.core_state.proofs.Standing.{calm}
use Rattle.core_state.proofs.Backing.{IsDue, due_is}
use Rattle.core_state.proofs.Fillings.{fill_over}

-- ---- the modes of two rows

mode_first : (name : LockName) (ls ks : Row) (m : Mode) → mode_in name ls ≡ Some m → mode_in name (ls ++ ks) ≡ Some m
mode_first name [] ks m e = absurd (let f : None ≡ Some m = e in cc)
mode_first name (l ∷ ls) ks m e = by_test (is_same l.0 name) e (mode_first name ls ks m) where
  by_test : (b : Bool) → mode_of_lock (cond b (Some l) (find (λ (k : LockName × Mode). is_same k.0 name) ls)) ≡ Some m → (mode_in name ls ≡ Some m → mode_in name (ls ++ ks) ≡ Some m) → mode_of_lock (cond b (Some l) (find (λ (k : LockName × Mode). is_same k.0 name) (ls ++ ks))) ≡ Some m
  by_test true f rest = f
  by_test false f rest = rest f

mode_second : (name : LockName) (ls ks : Row) → mode_in name ls ≡ None → mode_in name (ls ++ ks) ≡ mode_in name ks
mode_second name [] ks e = refl
mode_second name (l ∷ ls) ks e = by_test (is_same l.0 name) e (mode_second name ls ks) where
  by_test : (b : Bool) → mode_of_lock (cond b (Some l) (find (λ (k : LockName × Mode). is_same k.0 name) ls)) ≡ None → (mode_in name ls ≡ None → mode_in name (ls ++ ks) ≡ mode_in name ks) → mode_of_lock (cond b (Some l) (find (λ (k : LockName × Mode). is_same k.0 name) (ls ++ ks))) ≡ mode_in name ks
  by_test true f rest = absurd (let g : Some l.1 ≡ None = f in cc)
  by_test false f rest = rest f

has_mode_or_not : (name : LockName) (ls : Row) → ((m : Mode) × (mode_in name ls ≡ Some m)) ⊎ (mode_in name ls ≡ None)
has_mode_or_not name ls = by_mode (mode_in name ls) refl where
  by_mode : (o : Option Mode) → mode_in name ls ≡ o → ((m : Mode) × (mode_in name ls ≡ Some m)) ⊎ (mode_in name ls ≡ None)
  by_mode None e = inr e
  by_mode (Some m) e = inl (m, e)

no_mode : (name : LockName) (ls : Row) → ((m : Mode) → Has ls (name, m) → ⊥) → mode_in name ls ≡ None
no_mode name ls none = elim (has_mode_or_not name ls) [ inl k ↦ absurd (none k.0 (mode_has ls name k.0 k.1)) | inr e ↦ e ]

-- V is kept in NL alone
v_is_low : (p : Phase) (ls : Row) → AreKept p ls → (m : Mode) → mode_in V ls ≡ Some m → m ≡ NL
v_is_low p ls keeps m e = elim (keeps (V, m) (mode_has ls V m e)) [
  | inl f ↦ f.1
  | inr f ↦ absurd (let g : V ≡ X = f.0 in cc)
]

-- ---- a node

module _ (w : Plain) (good : Good w) (n : ℕ) (s : NodeState) (at : node_at w.nodes n ≡ Some s) (once : Once (names_of (joined (rows_of s)))) where
  me : IsNode w n s
  me = good.nodes n s at

  -- what it keeps and has claimed, by mode
  pub x_kept : (m : Mode) → Has s.kept (X, m) → mode_in X (s.kept ++ s.claims) ≡ Some m
  x_kept m h = mode_first X s.kept s.claims m (mode_is s.kept X m (kept_once s once) h)

  pub claimed_mode : (name : LockName) (m : Mode) → s.claims ≡ (name, m) ∷ [] → mode_in name (s.kept ++ s.claims) ≡ Some m
  claimed_mode name m claims =
      let there : Has s.claims (name, m) = subst (λ (ls : Row). Has ls (name, m)) (sym claims) (inl refl) in
      let not_kept : mode_in name s.kept ≡ None = no_mode name s.kept (λ k h. kept_apart s name once (named_there s.kept name k h) (inr (named_there s.claims name m there))) in
      mode_second name s.kept s.claims not_kept ∙ ap (mode_in name) claims ∙ mode_is ((name, m) ∷ []) name m ((λ t. t), tt) (inl refl)

  -- V is not held in PW, where it is not claimed
  pub v_low : ((m : Mode) → Has s.claims (V, m) → ⊥) → is_writer (mode_in V (s.kept ++ s.claims)) ≡ false
  v_low none = elim (has_mode_or_not V s.kept) [
    | inl k ↦ ap is_writer (mode_first V s.kept s.claims k.0 k.1 ∙ ap (λ (m : Mode). Some m) (v_is_low s.run.phase s.kept me.store.kept k.0 k.1))
    | inr e ↦ ap is_writer (mode_second V s.kept s.claims e ∙ no_mode V s.claims none)
  ]

  no_v : s.claims ≡ [] → (m : Mode) → Has s.claims (V, m) → ⊥
  no_v e m h = none_of s.claims (V, m) e h

  x_alone : (k : Mode) → s.claims ≡ (X, k) ∷ [] → (m : Mode) → Has s.claims (V, m) → ⊥
  x_alone k e m h = absurd (let f : X ≡ V = ap (λ (l : LockName × Mode). l.0) (one_of s.claims (X, k) (V, m) e h) in cc)

  -- ---- the event, step by step

  abbrev N : ℕ → Bool → SpaceNeed
  N k b = space_need k b

  by_fill : (p : Phase) (k : ℕ) (b shared writer : Bool) → is_shared (space_locks s).x ≡ shared → is_writer (space_locks s).v ≡ writer
      → by_rule s p (N k b) (fill_event (space_state s) (N k b)) ≡ by_rule s p (N k b) (cond (not shared) (space.Ask X CR) (cond (not writer) (space.Ask V PW) (written_first s.run (after_looks (next_fill (space_state s) (N k b)) space.LowerV))))
  by_fill p k b shared writer e f = λ i. by_rule s p (N k b) (cond (not (e i)) (space.Ask X CR) (cond (not (f i)) (space.Ask V PW) (written_first s.run (after_looks (next_fill (space_state s) (N k b)) space.LowerV))))

  by_last : (p : Phase) (k : ℕ) (b alone writer : Bool) → is_exclusive (space_locks s).x ≡ alone → is_writer (space_locks s).v ≡ writer
      → by_rule s p (N k b) (last_event (space_state s) (N k b)) ≡ by_rule s p (N k b) (cond (not alone) (space.Ask X EX) (cond (not writer) (space.Ask V PW) (written_first s.run (by_search (answer s.seen.geometry k b (blocks_alone s.run.looked))))))
  by_last p k b alone writer e f = λ i. by_rule s p (N k b) (cond (not (e i)) (space.Ask X EX) (cond (not (f i)) (space.Ask V PW) (written_first s.run (by_search (answer s.seen.geometry k b (blocks_alone s.run.looked))))))

  puts : (p : Phase) (k : ℕ) (b : Bool) (e : SpaceEvent) (v : PlanWrite) → slice_get s.run.writes s.run.made ≡ Some v → by_rule s p (N k b) (written_first s.run e) ≡ event.SpaceWrite v
  puts p k b e v next = ap (λ o. by_rule s p (N k b) (after_writes (put_of o) e)) next ∙ ap by_put next

  no_puts : (p : Phase) (k : ℕ) (b : Bool) (e : SpaceEvent) → slice_get s.run.writes s.run.made ≡ None → by_rule s p (N k b) (written_first s.run e) ≡ by_rule s p (N k b) e
  no_puts p k b e none = ap (λ o. by_rule s p (N k b) (after_writes (put_of o) e)) none

  looks : (p : Phase) (k : ℕ) (b : Bool) (o : Option ℕ) (e : SpaceEvent) (lbn : ℕ) → o ≡ Some lbn → by_rule s p (N k b) (after_looks o e) ≡ event.SpaceLook k b lbn
  looks p k b o e lbn f = ap (λ r. by_rule s p (N k b) (after_looks r e)) f

  nothing_left : s.run.writes ≡ [] → slice_get s.run.writes s.run.made ≡ None
  nothing_left e = ap (λ (ws : List PlanWrite). slice_get ws s.run.made) e

  at_end : (ws : List PlanWrite) (k : ℕ) → length ws ≤ k → slice_get ws k ≡ None
  at_end [] k le = refl
  at_end (x ∷ ws) zero le = absurd (omega arith)
  at_end (x ∷ ws) (suc k) le = at_end ws k (omega arith)

  some_there : (ws : List PlanWrite) (k : ℕ) → k < length ws → (v : PlanWrite) × (slice_get ws k ≡ Some v)
  some_there [] k lt = absurd (omega arith)
  some_there (x ∷ ws) zero lt = (x, refl)
  some_there (x ∷ ws) (suc k) lt = some_there ws k (omega arith)

  some_of : (o : Option ℕ) → is_some o ≡ true → (l : ℕ) × (o ≡ Some l)
  some_of None e = absurd (let f : false ≡ true = e in cc)
  some_of (Some l) e = (l, refl)

  -- ---- for its command

  -- which event comes, and how the node stands
  pub data Moves (x : Cmd) (e : Event) : Type 0 where
    ClaimsX : IsOff s.claims s.run s.seen → is_enough x s.seen s.stock ≡ false → is_shared (mode_in X (s.kept ++ s.claims)) ≡ false → e ≡ event.Claim phase.Fill X CR → Moves x e
    ClaimsV : IsOff s.claims s.run s.seen → is_enough x s.seen s.stock ≡ false → is_shared (mode_in X (s.kept ++ s.claims)) ≡ true → e ≡ event.Claim phase.Fill V PW → Moves x e
    ClaimsBehind : AsksShared x s.claims s.run s.stock s.seen → e ≡ event.Claim phase.Fill V PW → Moves x e
    ClaimsAlone : s.run ≡ begun_run phase.Last → s.claims ≡ [] → Has s.kept (X, NL) → s.stock ≡ empty_stock → e ≡ event.Claim phase.Last X EX → Moves x e
    ClaimsLast : s.run ≡ begun_run phase.Last → s.claims ≡ (X, EX) ∷ [] → s.stock ≡ empty_stock → e ≡ event.Claim phase.Last V PW → Moves x e
    FillLook : FillLooks x s.kept s.claims s.run s.stock s.seen → (lbn : ℕ) → next_fill (space_state s) (N (wanted_by x s.seen) (numbered_by x s.seen)) ≡ Some lbn → e ≡ event.SpaceLook (wanted_by x s.seen) (numbered_by x s.seen) lbn → Moves x e
    DrainLook : IsDraining x s.kept s.claims s.run s.stock s.seen → s.run.writes ≡ [] → s.run.made ≡ 0 → (lbn : ℕ) → next_back s.seen.geometry s.stock s.run ≡ Some lbn → e ≡ event.SpaceLook (wanted_by x s.seen) (numbered_by x s.seen) lbn → Moves x e
    LastLook : IsLooking x s.kept s.claims s.run s.stock s.seen → (lbn : ℕ) → answer s.seen.geometry (wanted_by x s.seen) (numbered_by x s.seen) (blocks_alone s.run.looked) ≡ search.Look lbn → e ≡ event.SpaceLook (wanted_by x s.seen) (numbered_by x s.seen) lbn → Moves x e
    FillWrite : FillWrites x s.kept s.claims s.run s.stock s.seen → (v : PlanWrite) → slice_get s.run.writes s.run.made ≡ Some v → e ≡ event.SpaceWrite v → Moves x e
    DrainWrite : IsDraining x s.kept s.claims s.run s.stock s.seen → IsWritingBack s.seen.geometry s.stock s.run → (v : PlanWrite) → slice_get s.run.writes s.run.made ≡ Some v → e ≡ event.SpaceWrite v → Moves x e
    LastWrite : IsTaking x s.kept s.claims s.run s.stock s.seen → (v : PlanWrite) → slice_get s.run.writes s.run.made ≡ Some v → e ≡ event.SpaceWrite v → Moves x e
    Lowers : HasFilled x s.kept s.claims s.run s.stock s.seen → e ≡ event.LowerV → Moves x e
    Drained : IsDraining x s.kept s.claims s.run s.stock s.seen → IsWritingBack s.seen.geometry s.stock s.run → slice_get s.run.writes s.run.made ≡ None → e ≡ event.LowerX → Moves x e

  module _ (x : Cmd) (needs : NeedsSpace x s.seen) (not_served : serves s (wanted_by x s.seen) (numbered_by x s.seen) ≡ false) where
    abbrev k : ℕ
    k = wanted_by x s.seen

    abbrev b : Bool
    b = numbered_by x s.seen

    -- the event where the stock is not enough
    starts : by_space s k b ≡ by_rule s (phase_begun s.run.phase) (N k b) (event_in s.run.phase (space_state s) (N k b))
    starts = ap (λ t. cond t event.SpaceEnd (by_rule s (phase_begun s.run.phase) (N k b) (space_event (space_state s) (N k b)))) not_served

    in_phase : (p : Phase) → s.run.phase ≡ p → by_space s k b ≡ by_rule s (phase_begun p) (N k b) (event_in p (space_state s) (N k b))
    in_phase p e = starts ∙ ap (λ q. by_rule s (phase_begun q) (N k b) (event_in q (space_state s) (N k b))) e

    phase_so : (p : Phase) → s.run ≡ begun_run p → s.run.phase ≡ p
    phase_so p e = ap (λ (r : SpaceRun). r.phase) e

    no_writes : (p : Phase) → s.run ≡ begun_run p → s.run.writes ≡ []
    no_writes p e = ap (λ (r : SpaceRun). r.writes) e

    -- so it is not, where no lock is claimed
    lacking : (p : Phase) → s.run.phase ≡ p → may_serve p false ≡ true → s.claims ≡ [] → is_enough x s.seen s.stock ≡ false
    lacking p e may none =
        let now : (may_serve p false && holds_enough k b (roomless s.stock)) ≡ false = (λ i. may_serve (sym e i) (is_claiming (sym none i)) && holds_enough k b (roomless s.stock)) ∙ not_served in
        let same : (true && holds_enough k b (roomless s.stock)) ≡ false = ap (λ t. t && holds_enough k b (roomless s.stock)) (sym may) ∙ now in
        same

    none_wanted : (sp : Space) → HasNoSpace sp → sp ≡ no_space
    none_wanted sp h = λ i. record { clusters = h.clusters i; number = h.number i; short = h.short i }

    wanting : has_space k b no_space ≡ false
    wanting = wants_some (events_of s.seen.geometry s.seen.channel x) s.seen.locks s.seen.blocks (space_of s.seen) k b needs.none needs.next

    filling : (shared writer : Bool) → s.run.phase ≡ phase.Fill → is_shared (space_locks s).x ≡ shared → is_writer (space_locks s).v ≡ writer
        → by_space s k b ≡ by_rule s phase.Fill (N k b) (cond (not shared) (space.Ask X CR) (cond (not writer) (space.Ask V PW) (written_first s.run (after_looks (next_fill (space_state s) (N k b)) space.LowerV))))
    filling shared writer e f h = in_phase phase.Fill e ∙ by_fill phase.Fill k b shared writer f h

    under_both : s.run.phase ≡ phase.Fill → Has s.kept (X, CR) → s.claims ≡ (V, PW) ∷ [] → by_space s k b ≡ by_rule s phase.Fill (N k b) (written_first s.run (after_looks (next_fill (space_state s) (N k b)) space.LowerV))
    under_both e shared claims = filling true true e (ap is_shared (x_kept CR shared)) (ap is_writer (claimed_mode V PW claims))

    off_moves : IsOff s.claims s.run s.seen → Moves x (by_space s k b)
    off_moves off = by_shared (is_shared (mode_in X (s.kept ++ s.claims))) refl where
      at_off : s.run.phase ≡ phase.Off
      at_off = phase_so phase.Off off.run

      lacks : is_enough x s.seen s.stock ≡ false
      lacks = lacking phase.Off at_off refl off.claims

      start : by_space s k b ≡ by_rule s phase.Fill (N k b) (fill_event (space_state s) (N k b))
      start = in_phase phase.Off at_off ∙ ap (λ t. by_rule s phase.Fill (N k b) (cond t space.Enough (fill_event (space_state s) (N k b)))) lacks

      by_shared : (t : Bool) → is_shared (mode_in X (s.kept ++ s.claims)) ≡ t → Moves x (by_space s k b)
      by_shared false e = ClaimsX off lacks e (start ∙ by_fill phase.Fill k b false (is_writer (space_locks s).v) e refl)
      by_shared true e = ClaimsV off lacks e (start ∙ by_fill phase.Fill k b true false e (v_low (no_v off.claims)))

    going_back : IsDraining x s.kept s.claims s.run s.stock s.seen → IsGoingBack s.seen.geometry s.stock s.run → Moves x (by_space s k b)
    going_back h goes = by_goes goes where
      start : by_space s k b ≡ by_rule s phase.Drain (N k b) (written_first s.run (after_looks (next_give (space_state s)) space.LowerX))
      start = in_phase phase.Drain h.drain

      by_next : IsWritingBack s.seen.geometry s.stock s.run → (o : Option PlanWrite) → slice_get s.run.writes s.run.made ≡ o → Moves x (by_space s k b)
      by_next back (Some v) e = DrainWrite h back v e (start ∙ puts phase.Drain k b (after_looks (next_give (space_state s)) space.LowerX) v e)
      by_next back None e = Drained h back e (start ∙ no_puts phase.Drain k b (after_looks (next_give (space_state s)) space.LowerX) e ∙ ap (λ r. by_rule s phase.Drain (N k b) (after_looks r space.LowerX)) back.all)

      by_goes : IsGoingBack s.seen.geometry s.stock s.run → Moves x (by_space s k b)
      by_goes (LooksOn more writes made) =
          let l = some_of (next_back s.seen.geometry s.stock s.run) more in
          DrainLook h writes made l.0 l.1 (start ∙ no_puts phase.Drain k b (after_looks (next_give (space_state s)) space.LowerX) (nothing_left writes) ∙ looks phase.Drain k b (next_give (space_state s)) space.LowerX l.0 l.1)
      by_goes (WritesBack back) = by_next back (slice_get s.run.writes s.run.made) refl

    last_start : s.run.phase ≡ phase.Last → (alone writer : Bool) → is_exclusive (space_locks s).x ≡ alone → is_writer (space_locks s).v ≡ writer
        → by_space s k b ≡ by_rule s phase.Last (N k b) (cond (not alone) (space.Ask X EX) (cond (not writer) (space.Ask V PW) (written_first s.run (by_search (answer s.seen.geometry k b (blocks_alone s.run.looked))))))
    last_start e alone writer f h = in_phase phase.Last e ∙ by_last phase.Last k b alone writer f h

    by_rules : Rules x s.kept s.claims s.run s.stock s.seen → Moves x (by_space s k b)
    by_rules (Served h) =
        let low : is_enough x s.seen s.stock ≡ false = lacking phase.Fill (phase_so phase.Fill h.run) refl h.claims in
        absurd (let f : true ≡ false = sym h.enough ∙ low in cc)
    by_rules (Given h) =
        let f : true ≡ false = sym h.has ∙ ap (has_space k b) (none_wanted (space_of s.seen) needs.none) ∙ wanting in
        absurd (cc)
    by_rules (Shared h) =
        ClaimsBehind h (filling true false (phase_so phase.Fill h.run) (ap is_shared (claimed_mode X CR h.claims)) (v_low (x_alone CR h.claims)))
    by_rules (Fills h) =
        let l = some_of (next_fill (space_state s) (N k b)) h.more in
        FillLook h l.0 l.1 (under_both h.filling.fill h.filling.shared h.filling.claims ∙ no_puts phase.Fill k b (after_looks (next_fill (space_state s) (N k b)) space.LowerV) (nothing_left h.writes) ∙ looks phase.Fill k b (next_fill (space_state s) (N k b)) space.LowerV l.0 l.1)
    by_rules (Grabs h) =
        let v = some_there s.run.writes s.run.made h.part in
        FillWrite h v.0 v.1 (under_both h.filling.fill h.filling.shared h.filling.claims ∙ puts phase.Fill k b (after_looks (next_fill (space_state s) (N k b)) space.LowerV) v.0 v.1)
    by_rules (Filled h) =
        Lowers h (under_both h.fill h.shared h.claims ∙ no_puts phase.Fill k b (after_looks (next_fill (space_state s) (N k b)) space.LowerV) (at_end s.run.writes s.run.made (let e = h.all in omega arith))
        ∙ ap (λ r. by_rule s phase.Fill (N k b) (after_looks r space.LowerV)) (fill_over s.seen.geometry k b s.stock (blocks_alone s.run.looked) h.enough))
    by_rules (Drains h) = going_back h h.goes
    by_rules (Alone h) = elim h.claims [
      | inl c ↦ ClaimsAlone h.run c.0 c.1 h.empty (last_start (phase_so phase.Last h.run) false (is_writer (space_locks s).v) (ap is_exclusive (x_kept NL c.1)) refl)
      | inr c ↦ ClaimsLast h.run c h.empty (last_start (phase_so phase.Last h.run) true false (ap is_exclusive (claimed_mode X EX c)) (v_low (x_alone EX c)))
    ]
    by_rules (Looking h) =
        let lbn = slice_index_or (places s.seen.geometry k b) (length (blocks_alone s.run.looked)) 0 in
        let look : answer s.seen.geometry k b (blocks_alone s.run.looked) ≡ search.Look lbn = ap (answered lbn) h.more in
        LastLook h lbn look (last_start h.claimed_so.last true true (ap is_exclusive (x_kept EX h.claimed_so.alone)) (ap is_writer (claimed_mode V PW h.claimed_so.claims))
        ∙ no_puts phase.Last k b (by_search (answer s.seen.geometry k b (blocks_alone s.run.looked))) (nothing_left h.writes) ∙ ap (λ o. by_rule s phase.Last (N k b) (by_search o)) look)
    by_rules (Taking h) =
        let v = some_there s.run.writes s.run.made h.part in
        LastWrite h v.0 v.1 (last_start h.found.claimed_so.last true true (ap is_exclusive (x_kept EX h.found.claimed_so.alone)) (ap is_writer (claimed_mode V PW h.found.claimed_so.claims))
        ∙ puts phase.Last k b (by_search (answer s.seen.geometry k b (blocks_alone s.run.looked))) v.0 v.1)
    by_rules (Taken h) =
        let all_taken = takes_all s.seen.geometry k b (blocks_alone s.run.looked) s.run.writes h.found.enough in
        let no_clusters : k ≡ 0 = sym (ap length (sym needs.none.clusters ∙ h.clusters) ∙ all_taken.clusters) in
        let no_number : b ≡ false = sym (ap is_some (sym needs.none.number ∙ h.number) ∙ all_taken.number) in
        let f : true ≡ false = (λ i. has_space (sym no_clusters i) (sym no_number i) no_space) ∙ wanting in
        absurd (cc)
    by_rules (Refused h) = absurd (let f : Some h.why ≡ None = sym h.short ∙ needs.none.short in cc)

    -- so one of these comes, where nothing is given back
    pub moves_so : (s.run.phase ≡ phase.Back → ⊥) → Spaces (Some x) s.kept s.claims s.run s.stock s.seen → Moves x (by_space s k b)
    moves_so not_back stands = elim (calm x s.kept s.claims s.run s.stock s.seen not_back stands) [ inl off ↦ off_moves off | inr r ↦ by_rules r ]

  -- ---- a give-back

  pub data BackMoves (e : Event) : Type 0 where
    BackClaims : IsDue s → e ≡ event.Claim phase.Back V PW → BackMoves e
    BackLooks : IsGivingBack s.kept s.claims s.run s.stock s.seen → s.run.writes ≡ [] → s.run.made ≡ 0 → (lbn : ℕ) → next_back s.seen.geometry s.stock s.run ≡ Some lbn → e ≡ event.SpaceLook 0 false lbn → BackMoves e
    BackWrites : IsGivingBack s.kept s.claims s.run s.stock s.seen → IsWritingBack s.seen.geometry s.stock s.run → (v : PlanWrite) → slice_get s.run.writes s.run.made ≡ Some v → e ≡ event.SpaceWrite v → BackMoves e
    Returns : IsGivingBack s.kept s.claims s.run s.stock s.seen → IsWritingBack s.seen.geometry s.stock s.run → slice_get s.run.writes s.run.made ≡ None → e ≡ event.Return → BackMoves e

  back_start : (writer : Bool) → is_writer (space_locks s).v ≡ writer → by_back s ≡ by_rule s phase.Back (N 0 false) (cond (not writer) (space.Ask V PW) (written_first s.run (after_looks (next_give (space_state s)) space.Return)))
  back_start writer e = λ i. by_rule s phase.Back (N 0 false) (cond (not (e i)) (space.Ask V PW) (written_first s.run (after_looks (next_give (space_state s)) space.Return)))

  due_moves : IsDue s → BackMoves (by_back s)
  due_moves due = BackClaims due (back_start false (v_low (no_v due.off.claims)))

  giving_moves : IsGivingBack s.kept s.claims s.run s.stock s.seen → BackMoves (by_back s)
  giving_moves h = by_goes h.goes where
    start : by_back s ≡ by_rule s phase.Back (N 0 false) (written_first s.run (after_looks (next_give (space_state s)) space.Return))
    start = back_start true (ap is_writer (claimed_mode V PW h.claims))

    by_next : IsWritingBack s.seen.geometry s.stock s.run → (o : Option PlanWrite) → slice_get s.run.writes s.run.made ≡ o → BackMoves (by_back s)
    by_next back (Some v) e = BackWrites h back v e (start ∙ puts phase.Back 0 false (after_looks (next_give (space_state s)) space.Return) v e)
    by_next back None e = Returns h back e (start ∙ no_puts phase.Back 0 false (after_looks (next_give (space_state s)) space.Return) e ∙ ap (λ r. by_rule s phase.Back (N 0 false) (after_looks r space.Return)) back.all)

    by_goes : IsGoingBack s.seen.geometry s.stock s.run → BackMoves (by_back s)
    by_goes (LooksOn more writes made) =
        let l = some_of (next_back s.seen.geometry s.stock s.run) more in
        BackLooks h writes made l.0 l.1 (start ∙ no_puts phase.Back 0 false (after_looks (next_give (space_state s)) space.Return) (nothing_left writes) ∙ looks phase.Back 0 false (next_give (space_state s)) space.Return l.0 l.1)
    by_goes (WritesBack back) = by_next back (slice_get s.run.writes s.run.made) refl

  back_so : s.run.phase ≡ phase.Back → Spaces s.cmd s.kept s.claims s.run s.stock s.seen → IsGivingBack s.kept s.claims s.run s.stock s.seen
  back_so e (Off h) = absurd (let f : phase.Off ≡ phase.Back = sym (ap (λ (r : SpaceRun). r.phase) h.run) ∙ e in cc)
  back_so e (Back h) = h
  back_so e (Busy x c r) = absurd (rules_not_back x r e) where
    begun_not : (p : Phase) → p ≢ phase.Back → s.run ≡ begun_run p → s.run.phase ≡ phase.Back → ⊥
    begun_not p other run f = other (sym (ap (λ (r : SpaceRun). r.phase) run) ∙ f)

    rules_not_back : (x : Cmd) → Rules x s.kept s.claims s.run s.stock s.seen → s.run.phase ≡ phase.Back → ⊥
    rules_not_back x (Served h) f = begun_not phase.Fill (λ g. cc) h.run f
    rules_not_back x (Given h) f = begun_not phase.Fill (λ g. cc) h.run f
    rules_not_back x (Shared h) f = begun_not phase.Fill (λ g. cc) h.run f
    rules_not_back x (Fills h) f = absurd (let g : phase.Fill ≡ phase.Back = sym h.filling.fill ∙ f in cc)
    rules_not_back x (Grabs h) f = absurd (let g : phase.Fill ≡ phase.Back = sym h.filling.fill ∙ f in cc)
    rules_not_back x (Filled h) f = absurd (let g : phase.Fill ≡ phase.Back = sym h.fill ∙ f in cc)
    rules_not_back x (Drains h) f = absurd (let g : phase.Drain ≡ phase.Back = sym h.drain ∙ f in cc)
    rules_not_back x (Alone h) f = begun_not phase.Last (λ g. cc) h.run f
    rules_not_back x (Looking h) f = absurd (let g : phase.Last ≡ phase.Back = sym h.claimed_so.last ∙ f in cc)
    rules_not_back x (Taking h) f = absurd (let g : phase.Last ≡ phase.Back = sym h.found.claimed_so.last ∙ f in cc)
    rules_not_back x (Taken h) f = absurd (let g : phase.Last ≡ phase.Back = sym h.found.claimed_so.last ∙ f in cc)
    rules_not_back x (Refused h) f = absurd (let g : phase.Last ≡ phase.Back = sym h.claimed_so.last ∙ f in cc)

  -- so one of these comes, where a give-back is under way or due
  pub back_moves_so : is_out s ≡ false → gives_back w n s ≡ true → BackMoves (by_back s)
  back_moves_so on gives = by_phase s.run.phase refl where
    by_phase : (p : Phase) → s.run.phase ≡ p → BackMoves (by_back s)
    by_phase phase.Back e = giving_moves (back_so e me.space)
    by_phase phase.Off e = due_moves (due_is w good n s at on e (ap (gives_back_in w n s) (sym e) ∙ gives))
    by_phase phase.Fill e = absurd (let f : false ≡ true = ap (gives_back_in w n s) (sym e) ∙ gives in cc)
    by_phase phase.Drain e = absurd (let f : false ≡ true = ap (gives_back_in w n s) (sym e) ∙ gives in cc)
    by_phase phase.Last e = absurd (let f : false ≡ true = ap (gives_back_in w n s) (sym e) ∙ gives in cc)
