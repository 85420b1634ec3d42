-- The event of a node's rules for space, by how it stands: each keeps the invariant.
use Rattle.std.proofs.Common.{◌≡◌, ◌≤◌, ◌<◌, ◌++◌, ◌&&◌, not, ℕ, zero, suc, Bool, true, false, cond, List, [], ◌∷◌, Option, Some, None, is_some, length, slice_get, refl, sym, ap, subst, ◌∙◌, inl, inr, arith}
use Rattle.std.specs.Prelude.{slice_index_or}
use Rattle.base_words.specs.Fields.{Block}
use Rattle.lock_db.specs.declared.name.LockName.{LockName}
use Rattle.lock_db.specs.declared.name.LockName.TheVariants.{X, V}
use Rattle.plain_cat.specs.declared.mode.Mode.{Mode}
use Rattle.plain_cat.specs.declared.mode.Mode.TheVariants.{NL, CR, CW, PR, PW, EX}
use Rattle.plain_cat.specs.declared.command.Cmd.{Cmd}
use Rattle.node_locks.specs.Held.{Row, names_of, HoldsItsLocks, waits_at}
use Rattle.base_words.specs.Lists.{Has, Once}
use Rattle.base_words.proofs.Listing.{has_parted, has_first, has_second}
use Rattle.vol_parts.specs.declared.geometry.Geometry.{Geometry}
use Rattle.vol_under.specs.Guards.{Lock, guard_of}
use Rattle.vol_under.specs.Under.{IsUnder}
use Rattle.vol_under.specs.Keeping.{IsBitmap}
use Rattle.op_law.specs.declared.need.Need.TheVariants as need
use Rattle.op_law.specs.declared.need.PlanWrite.{PlanWrite}
use Rattle.op_law.specs.Events.{space_of, has_space, HasNoSpace}
use Rattle.op_law.specs.Needs.{events_of, IsNext}
use Rattle.extent_cache.specs.Takings.{holds_enough}
use Rattle.core_space.specs.declared.outcome.Search.{Search}
use Rattle.core_space.specs.declared.outcome.Search.TheVariants as search
use Rattle.core_space.specs.Searching.{places}
use Rattle.core_space.specs.Answering.{answered, answer, blocks_alone}
use Rattle.core_space.proofs.Ending.{looks_in_order}
use Rattle.core_space.proofs.Looked.{places_lie}
use Rattle.core_space.proofs.Taken.{takes_all}
use Rattle.core_space.specs.declared.run.Phase.{Phase}
use Rattle.core_space.specs.declared.run.Phase.TheVariants as phase
use Rattle.core_space.specs.declared.run.SpaceRun.{SpaceRun}
use Rattle.core_space.specs.declared.run.SpaceNeed.{SpaceNeed}
use Rattle.core_space.specs.declared.event.SpaceEvent.{SpaceEvent}
use Rattle.core_space.specs.declared.event.SpaceEvent.TheVariants as space
use Rattle.core_space.specs.Filling.{clusters_to_take, lacks_number}
use Rattle.core_space.specs.Rule.{SpaceState, is_shared, is_exclusive, is_writer, put_of, after_writes, after_looks, next_fill, next_give, by_search, event_in, back_event}
use Rattle.core_space.proofs.Refused.{give_looked, fill_looked}
use Rattle.core_state.specs.Worlds.{NodeState, Plain, node_at, rows_of}
use Rattle.core_state.specs.Asks.{is_claiming}
use Rattle.core_state.specs.Event.{Event}
use Rattle.core_state.specs.Event as event
use Rattle.core_state.specs.Stocks.{roomless}
use Rattle.core_state.specs.Searches.{begun_run, wanted_by, numbered_by, NeedsSpace, IsOff, IsGoingBack, LooksOn, WritesBack, IsServed, IsGiven, AsksShared, FillLooks, FillWrites, HasFilled, IsDraining, IsGivingBack, AsksAlone, IsLooking, IsTaking, HasTaken, Rules, Served, Given, Shared, Fills, Grabs, Filled, Drains, Alone, Looking, Taking, Taken, Refused, Spaces, Off, Back, Busy}
use Rattle.core_state.specs.Stores.{AreKept}
use Rattle.core_state.specs.Goods.{nodes_under, IsNode, Good}
use Rattle.core_state.specs.Events.{mode_in, space_state, is_out, by_put, by_rule, phase_begun, may_serve, serves, space_need, gives_back_in, gives_back, by_back, happens, or_use}
use Rattle.core_state.proofs.Naming.{none_of, one_of, mode_is, mode_has}
use Rattle.core_state.proofs.Keeping.{kept_once, claims_once, kept_apart}
use Rattle.core_state.proofs.Sweeps.{once_names}
use Rattle.core_state.proofs.Seeking.{no_space, next_lies, wants_some, wants_nothing}
use Rattle.core_state.proofs.Turning.{drive, may_need, space_now}
use Rattle.core_state.proofs.Serving.{needs_now}
use Rattle.core_state.proofs.Claiming.{mine}
use Rattle.core_state.proofs.Claims.{shared_keeps, fill_keeps, claimed_fill_keeps, alone_keeps, last_keeps}
use Rattle.core_state.proofs.Fillings.{fill_over}
use Rattle.core_state.proofs.Looks.{space_seen_so, drain_look_keeps, fill_look_keeps, last_look_keeps}
use Rattle.core_state.proofs.CachedTurns.{SeesIt, space_turn}
use Rattle.core_state.proofs.Grabs.{fill_write_keeps, drain_write_keeps, last_write_keeps}
use Rattle.core_state.proofs.Backing.{IsDue, due_is, back_claim_keeps}
use Rattle.core_state.proofs.Midway.{drive_so}
use Rattle.core_state.proofs.Returning.{back_look_keeps, back_write_keeps}
use Rattle.core_state.proofs.Lowering.{v_keeps, x_keeps, return_keeps}

-- ---- the events, by what they ask of

abbrev pub fill_so : Bool → Bool → Option PlanWrite → Option ℕ → SpaceEvent
fill_so a b o l = cond (not a) (space.Ask X CR) (cond (not b) (space.Ask V PW) (after_writes (put_of o) (after_looks l space.LowerV)))

abbrev pub drain_so : Option PlanWrite → Option ℕ → SpaceEvent
drain_so o l = after_writes (put_of o) (after_looks l space.LowerX)

abbrev pub last_so : Bool → Bool → Option PlanWrite → Search → SpaceEvent
last_so a b o r = cond (not a) (space.Ask X EX) (cond (not b) (space.Ask V PW) (after_writes (put_of o) (by_search r)))

abbrev pub back_so : Bool → Option PlanWrite → Option ℕ → SpaceEvent
back_so b o l = cond (not b) (space.Ask V PW) (after_writes (put_of o) (after_looks l space.Return))

-- ---- small steps

pub none_at : (ws : List PlanWrite) (k : ℕ) → ws ≡ [] → slice_get ws k ≡ None
none_at ws k e = ap (λ vs. slice_get vs k) e ∙ none k where
  none : (k : ℕ) → slice_get (let vs : List PlanWrite = [] in vs) k ≡ None
  none zero = refl
  none (suc k) = refl

pub none_behind : (ws : List PlanWrite) (k : ℕ) → length ws ≤ k → slice_get ws k ≡ None
none_behind [] k le = none_at [] k refl
none_behind (w ∷ ws) zero le = absurd (omega arith)
none_behind (w ∷ ws) (suc k) le = none_behind ws k (omega arith)

pub record IsAt (ws : List PlanWrite) (k : ℕ) : Type 0 where
  pub write : PlanWrite
  pub at : slice_get ws k ≡ Some write

pub some_at : (ws : List PlanWrite) (k : ℕ) → k < length ws → IsAt ws k
some_at [] k lt = absurd (omega arith)
some_at (w ∷ ws) zero lt = record { write = w; at = refl }
some_at (w ∷ ws) (suc k) lt = let r = some_at ws k (omega arith) in record { write = r.write; at = r.at }

pub record IsThere (o : Option ℕ) : Type 0 where
  pub it : ℕ
  pub is : o ≡ Some it

pub there_is : (o : Option ℕ) → is_some o ≡ true → IsThere o
there_is None e = absurd (let f : false ≡ true = e in cc)
there_is (Some k) e = record { it = k; is = refl }

pub not_writer : (ls : Row) → (Has ls (V, PW) → ⊥) → is_writer (mode_in V ls) ≡ false
not_writer ls none = by_mode (mode_in V ls) refl where
  by_mode : (o : Option Mode) → mode_in V ls ≡ o → is_writer o ≡ false
  by_mode None e = refl
  by_mode (Some NL) e = refl
  by_mode (Some CR) e = refl
  by_mode (Some CW) e = refl
  by_mode (Some PR) e = refl
  by_mode (Some PW) e = absurd (none (mode_has ls V PW e))
  by_mode (Some EX) e = refl

-- V is kept in NL alone
pub v_not_kept : (p : Phase) (ls : Row) → AreKept p ls → Has ls (V, PW) → ⊥
v_not_kept p ls keeps h = elim (keeps (V, PW) h) [
  | inl e ↦ absurd (let f : PW ≡ NL = e.1 in cc)
  | inr e ↦ absurd (let f : V ≡ X = e.0 in cc)
]

module _ (w : Plain) (good : Good w) (n : ℕ) (s : NodeState) (at : node_at w.nodes n ≡ Some s) (on : is_out s ≡ false) where
  abbrev ls : Row
  ls = s.kept ++ s.claims

  abbrev st : SpaceState
  st = space_state s

  abbrev g : Geometry
  g = s.seen.geometry

  me : IsNode w n s
  me = good.nodes n s at

  all_mine : HoldsItsLocks w.locks n (rows_of s)
  all_mine = mine w good n s at on

  once_locks : Once (names_of ls)
  once_locks = once_names s.kept s.claims (kept_once s all_mine.once) (claims_once s all_mine.once) (λ name h k. kept_apart s name all_mine.once h (inr k))

  mode_kept : (name : LockName) (m : Mode) → Has s.kept (name, m) → mode_in name ls ≡ Some m
  mode_kept name m h = mode_is ls name m once_locks (has_first s.kept s.claims (name, m) h)

  mode_claimed : (l : LockName × Mode) → s.claims ≡ l ∷ [] → mode_in l.0 ls ≡ Some l.1
  mode_claimed l e = mode_is ls l.0 l.1 once_locks (has_second s.kept s.claims l (subst (λ (ks : Row). Has ks l) (sym e) (inl refl)))

  writer_now : s.claims ≡ (V, PW) ∷ [] → is_writer (mode_in V ls) ≡ true
  writer_now e = ap is_writer (mode_claimed (V, PW) e)

  no_writer : ((m : LockName × Mode) → Has s.claims m → m.0 ≡ V → ⊥) → is_writer (mode_in V ls) ≡ false
  no_writer none = not_writer ls (λ h. elim (has_parted s.kept s.claims (V, PW) h) [ inl a ↦ v_not_kept s.run.phase s.kept me.store.kept a | inr a ↦ none (V, PW) a refl ])

  no_claim : s.claims ≡ [] → (m : LockName × Mode) → Has s.claims m → m.0 ≡ V → ⊥
  no_claim e m h f = none_of s.claims m e h

  x_claim : (mode : Mode) → s.claims ≡ (X, mode) ∷ [] → (m : LockName × Mode) → Has s.claims m → m.0 ≡ V → ⊥
  x_claim mode e m h f = absurd (let z : X ≡ V = ap (λ (l : LockName × Mode). l.0) (one_of s.claims (X, mode) m e h) ∙ f in cc)

  abbrev GoodBy : Event → Type 0
  GoodBy e = Good (happens w n s (or_use w s e))

  -- ---- a command needs space

  module _ (x : Cmd) (cmd : s.cmd ≡ Some x) (free : waits_at w.locks n s.asked ≡ false) (no_plan : s.plan ≡ None) (granted : waits_at w.locks n s.claims ≡ false) (is : IsNext x s.seen (need.Space (wanted_by x s.seen) (numbered_by x s.seen))) (not_served : serves s (wanted_by x s.seen) (numbered_by x s.seen) ≡ false) where
    abbrev k : ℕ
    k = wanted_by x s.seen

    abbrev b : Bool
    b = numbered_by x s.seen

    abbrev nd : SpaceNeed
    nd = space_need k b

    abbrev under : IsUnder g good.running.cat (nodes_under w.locks w.nodes) w.blocks
    under = drive w good n s at x cmd free

    abbrev now_by : Event
    now_by = by_rule s (phase_begun s.run.phase) nd (event_in s.run.phase st nd)

    at_phase : (p : Phase) → s.run.phase ≡ p → now_by ≡ by_rule s (phase_begun p) nd (event_in p st nd)
    at_phase p e = ap (λ q. by_rule s (phase_begun q) nd (event_in q st nd)) e

    fill_to : s.run.phase ≡ phase.Fill → (a c : Bool) (o : Option PlanWrite) (l : Option ℕ) → is_shared (mode_in X ls) ≡ a → is_writer (mode_in V ls) ≡ c → slice_get s.run.writes s.run.made ≡ o → next_fill st nd ≡ l → now_by ≡ by_rule s phase.Fill nd (fill_so a c o l)
    fill_to ph a c o l ea ec eo el = at_phase phase.Fill ph ∙ (λ i. by_rule s phase.Fill nd (fill_so (ea i) (ec i) (eo i) (el i)))

    drain_to : s.run.phase ≡ phase.Drain → (o : Option PlanWrite) (l : Option ℕ) → slice_get s.run.writes s.run.made ≡ o → next_give st ≡ l → now_by ≡ by_rule s phase.Drain nd (drain_so o l)
    drain_to ph o l eo el = at_phase phase.Drain ph ∙ (λ i. by_rule s phase.Drain nd (drain_so (eo i) (el i)))

    last_to : s.run.phase ≡ phase.Last → (a c : Bool) (o : Option PlanWrite) (r : Search) → is_exclusive (mode_in X ls) ≡ a → is_writer (mode_in V ls) ≡ c → slice_get s.run.writes s.run.made ≡ o → answer g k b (blocks_alone s.run.looked) ≡ r → now_by ≡ by_rule s phase.Last nd (last_so a c o r)
    last_to ph a c o r ea ec eo er = at_phase phase.Last ph ∙ (λ i. by_rule s phase.Last nd (last_so (ea i) (ec i) (eo i) (er i)))

    abbrev put_now : Option PlanWrite
    put_now = slice_get s.run.writes s.run.made

    has_none : HasNoSpace (space_of s.seen)
    has_none = (may_need w good n s at x cmd free (need.Space k b) is).1

    wanted : (wanted_by x s.seen ≡ 0) × (numbered_by x s.seen ≡ false) → ⊥
    wanted z = wants_nothing b k (sym z.0) (sym z.1) (wants_some (events_of g s.seen.channel x) s.seen.locks s.seen.blocks (space_of s.seen) k b has_none is)

    not_enough : may_serve s.run.phase (is_claiming s.claims) ≡ true → holds_enough k b (roomless s.stock) ≡ false
    not_enough may = by_test (holds_enough k b (roomless s.stock)) refl where
      by_test : (t : Bool) → holds_enough k b (roomless s.stock) ≡ t → holds_enough k b (roomless s.stock) ≡ false
      by_test true e = absurd (let f : true ≡ false = sym (λ i. may i && e i) ∙ not_served in cc)
      by_test false e = e

    -- a look at a block of a bitmap
    looks_by : s.claims ≡ (V, PW) ∷ [] → (lbn : ℕ) → (lbn < length under.base) × IsBitmap g lbn × (guard_of g under.own lbn ≡ Some (Lock V)) → SeesIt w good n s lbn (λ c es reads hits. space_seen_so s k b lbn c es reads hits)
        → GoodBy (event.SpaceLook k b lbn)
    looks_by claims lbn its sees = space_turn w good n s at granted claims k b lbn (subst (λ (j : ℕ). lbn < j) (sym under.over.count) its.0) (subst (λ (h : Geometry). IsBitmap h lbn) me.geometry its.1) sees

    lies : (lbn : ℕ) → Has (places g 1 true) lbn → (lbn < length under.base) × IsBitmap g lbn × (guard_of g under.own lbn ≡ Some (Lock V))
    lies lbn h = places_lie g 1 true lbn under.base under.own good.running.cat h under.spelt

    -- ---- by how it stands

    off_keeps : IsOff s.claims s.run s.seen → GoodBy now_by
    off_keeps h = by_shared (is_shared (mode_in X ls)) refl where
      ph : s.run.phase ≡ phase.Off
      ph = ap (λ (y : SpaceRun). y.phase) h.run

      lacking : holds_enough k b (roomless s.stock) ≡ false
      lacking = not_enough (λ i. may_serve (ph i) (is_claiming (h.claims i)))

      needs : NeedsSpace x s.seen
      needs = (needs_now w good n s at x cmd free no_plan k b is h.claims).needs

      to : (a c : Bool) → is_shared (mode_in X ls) ≡ a → is_writer (mode_in V ls) ≡ c → now_by ≡ by_rule s phase.Fill nd (fill_so a c put_now (next_fill st nd))
      to a c ea ec = at_phase phase.Off ph ∙ (λ i. by_rule s phase.Fill nd (cond (lacking i) space.Enough (fill_so (ea i) (ec i) put_now (next_fill st nd))))

      by_shared : (a : Bool) → is_shared (mode_in X ls) ≡ a → GoodBy now_by
      by_shared false e = subst GoodBy (sym (to false (is_writer (mode_in V ls)) e refl)) (shared_keeps w good n s at on x cmd free no_plan h needs lacking e)
      by_shared true e = subst GoodBy (sym (to true false e (no_writer (no_claim h.claims)))) (fill_keeps w good n s at on x cmd free no_plan h needs lacking e)

    shared_so : AsksShared x s.claims s.run s.stock s.seen → GoodBy now_by
    shared_so h = subst GoodBy (sym (fill_to (ap (λ (y : SpaceRun). y.phase) h.run) true false put_now (next_fill st nd) (ap is_shared (mode_claimed (X, CR) h.claims)) (no_writer (x_claim CR h.claims)) refl refl))
        (claimed_fill_keeps w good n s at on x cmd free no_plan h granted)

    fills_so : FillLooks x s.kept s.claims s.run s.stock s.seen → GoodBy now_by
    fills_so h =
        let l = there_is (next_fill st nd) h.more in
        subst GoodBy (sym (fill_to h.filling.fill true true None (Some l.it) (ap is_shared (mode_kept X CR h.filling.shared)) (writer_now h.filling.claims) (none_at s.run.writes s.run.made h.writes) l.is))
        (let its = lies l.it (fill_looked g (clusters_to_take k (length s.stock.clusters)) (lacks_number b s.stock.numbers) (blocks_alone s.run.looked) l.it l.is) in
        looks_by h.filling.claims l.it its (λ c es reads hits there store entries. fill_look_keeps w good n s at x cmd free no_plan granted h.filling.claims h.writes h.made l.it c es reads hits its there store entries h l.is))

    grabs_so : FillWrites x s.kept s.claims s.run s.stock s.seen → GoodBy now_by
    grabs_so h =
        let v = some_at s.run.writes s.run.made h.part in
        subst GoodBy (sym (fill_to h.filling.fill true true (Some v.write) (next_fill st nd) (ap is_shared (mode_kept X CR h.filling.shared)) (writer_now h.filling.claims) v.at refl ∙ ap by_put v.at))
        (fill_write_keeps w good n s at x cmd free no_plan granted h.filling.claims h.filling.needs v.write v.at h)

    filled_so : HasFilled x s.kept s.claims s.run s.stock s.seen → GoodBy now_by
    filled_so h =
        let le : length s.run.writes ≤ s.run.made = let e = h.all in omega arith in
        subst GoodBy (sym (fill_to h.fill true true None None (ap is_shared (mode_kept X CR h.shared)) (writer_now h.claims) (none_behind s.run.writes s.run.made le) (fill_over g k b s.stock (blocks_alone s.run.looked) h.enough)))
        (v_keeps w good n s at on granted h.claims x cmd h)

    drains_so : IsDraining x s.kept s.claims s.run s.stock s.seen → GoodBy now_by
    drains_so h = by_goes h.goes where
      by_next : (o : Option ℕ) → next_give st ≡ o → slice_get s.run.writes s.run.made ≡ None → IsGoingBack g s.stock s.run → GoodBy now_by
      by_next (Some l) e none (LooksOn more writes made) = subst GoodBy (sym (drain_to h.drain None (Some l) none e))
          (let its = lies l (give_looked g s.stock.clusters s.stock.numbers s.run.looked l e) in
          looks_by h.claims l its (λ c es reads hits there store entries. drain_look_keeps w good n s at x cmd free no_plan granted h.claims writes made l c es reads hits its there store entries h k b))
      by_next (Some l) e none (WritesBack back) = absurd (let f : Some l ≡ None = sym e ∙ back.all in cc)
      by_next None e none goes = subst GoodBy (sym (drain_to h.drain None None none e)) (x_keeps w good n s at on granted h.claims none e (inl h.drain) goes h.shared x cmd h)

      by_put_now : (o : Option PlanWrite) → slice_get s.run.writes s.run.made ≡ o → IsGoingBack g s.stock s.run → GoodBy now_by
      by_put_now None e goes = by_next (next_give st) refl e goes
      by_put_now (Some v) e (LooksOn more writes made) = absurd (let f : Some v ≡ None = sym e ∙ none_at s.run.writes s.run.made writes in cc)
      by_put_now (Some v) e (WritesBack back) = subst GoodBy (sym (drain_to h.drain (Some v) (next_give st) e refl ∙ ap by_put e))
          (drain_write_keeps w good n s at x cmd free no_plan granted h.claims h.needs v e h back)

      by_goes : IsGoingBack g s.stock s.run → GoodBy now_by
      by_goes goes = by_put_now (slice_get s.run.writes s.run.made) refl goes

    alone_so : AsksAlone x s.kept s.claims s.run s.stock s.seen → GoodBy now_by
    alone_so h = elim h.claims [
      | inl e ↦ subst GoodBy (sym (last_to ph false (is_writer (mode_in V ls)) put_now (answer g k b (blocks_alone s.run.looked)) (ap is_exclusive (mode_kept X NL e.1)) refl refl refl)) (alone_keeps w good n s at on x cmd free no_plan h.run e.0 e.1 h.empty h.needs)
      | inr e ↦ subst GoodBy (sym (last_to ph true false put_now (answer g k b (blocks_alone s.run.looked)) (ap is_exclusive (mode_claimed (X, EX) e)) (no_writer (x_claim EX e)) refl refl)) (last_keeps w good n s at on x cmd free no_plan h.run e granted h.empty h.needs)
    ] where
      ph : s.run.phase ≡ phase.Last
      ph = ap (λ (y : SpaceRun). y.phase) h.run

    looking_so : IsLooking x s.kept s.claims s.run s.stock s.seen → GoodBy now_by
    looking_so h =
        let bs : List Block = blocks_alone s.run.looked in
        let lbn : ℕ = slice_index_or (places g k b) (length bs) 0 in
        let looks : answer g k b bs ≡ search.Look lbn = ap (answered lbn) h.more in
        let next : slice_get (places g k b) (length bs) ≡ Some lbn = looks_in_order g k b bs lbn looks in
        subst GoodBy (sym (last_to h.claimed_so.last true true None (search.Look lbn) (ap is_exclusive (mode_kept X EX h.claimed_so.alone)) (writer_now h.claimed_so.claims) (none_at s.run.writes s.run.made h.writes) looks))
        (let its = next_lies g k b (length bs) lbn under.base under.own good.running.cat next under.spelt in
        looks_by h.claimed_so.claims lbn its (λ c es reads hits there store entries. last_look_keeps w good n s at x cmd free no_plan granted h.claimed_so.claims h.writes h.made lbn c es reads hits its there store entries h next))

    taking_so : IsTaking x s.kept s.claims s.run s.stock s.seen → GoodBy now_by
    taking_so h =
        let v = some_at s.run.writes s.run.made h.part in
        let c = h.found.claimed_so in
        subst GoodBy (sym (last_to c.last true true (Some v.write) (answer g k b (blocks_alone s.run.looked)) (ap is_exclusive (mode_kept X EX c.alone)) (writer_now c.claims) v.at refl ∙ ap by_put v.at))
        (last_write_keeps w good n s at x cmd free no_plan granted c.claims h.needs v.write v.at h)

    -- a command that was given space does not need it
    pub taken_not : HasTaken x s.kept s.claims s.run s.stock s.seen → ⊥
    taken_not h =
        let all_so = takes_all g k b (blocks_alone s.run.looked) s.run.writes h.found.enough in
        let no_clusters : wanted_by x s.seen ≡ 0 = sym (ap length (sym has_none.clusters ∙ h.clusters) ∙ all_so.clusters) in
        let no_number : numbered_by x s.seen ≡ false = sym (ap is_some (sym has_none.number ∙ h.number) ∙ all_so.number) in
        wanted (no_clusters, no_number)

    given_not : IsGiven x s.claims s.run s.seen → ⊥
    given_not h =
        let none : has_space k b no_space ≡ false = wants_some (events_of g s.seen.channel x) s.seen.locks s.seen.blocks (space_of s.seen) k b has_none is in
        let same : space_of s.seen ≡ no_space = λ i. record { clusters = has_none.clusters i; number = has_none.number i; short = has_none.short i } in
        absurd (let f : true ≡ false = sym h.has ∙ ap (has_space k b) same ∙ none in cc)

    served_not : IsServed x s.claims s.run s.stock s.seen → ⊥
    served_not h =
        let may : may_serve s.run.phase (is_claiming s.claims) ≡ true = λ i. may_serve ((h.run i).phase) (is_claiming (h.claims i)) in
        absurd (let f : true ≡ false = sym h.enough ∙ not_enough may in cc)

    by_rules : Rules x s.kept s.claims s.run s.stock s.seen → GoodBy now_by
    by_rules (Served h) = absurd (served_not h)
    by_rules (Given h) = absurd (given_not h)
    by_rules (Shared h) = shared_so h
    by_rules (Fills h) = fills_so h
    by_rules (Grabs h) = grabs_so h
    by_rules (Filled h) = filled_so h
    by_rules (Drains h) = drains_so h
    by_rules (Alone h) = alone_so h
    by_rules (Looking h) = looking_so h
    by_rules (Taking h) = taking_so h
    by_rules (Taken h) = absurd (taken_not h)
    by_rules (Refused h) = absurd (let f : Some h.why ≡ None = sym h.short ∙ has_none.short in cc)

    pub rules_keep : (s.run.phase ≡ phase.Back → ⊥) → GoodBy now_by
    rules_keep calmly = by_stand (space_now w good n s at x cmd free) where
      by_stand : Spaces (Some x) s.kept s.claims s.run s.stock s.seen → GoodBy now_by
      by_stand (Off h) = off_keeps h
      by_stand (Back h) = absurd (calmly h.back)
      by_stand (Busy y e r) = let f : Some x ≡ Some y = e in let z : x ≡ y = cc in by_rules (subst (λ (c : Cmd). Rules c s.kept s.claims s.run s.stock s.seen) (sym z) r)

  -- ---- a give-back

  abbrev back_now : Event
  back_now = by_rule s phase.Back (space_need 0 false) (back_event st)

  back_to : (c : Bool) (o : Option PlanWrite) (l : Option ℕ) → is_writer (mode_in V ls) ≡ c → slice_get s.run.writes s.run.made ≡ o → next_give st ≡ l → back_now ≡ by_rule s phase.Back (space_need 0 false) (back_so c o l)
  back_to c o l ec eo el = λ i. by_rule s phase.Back (space_need 0 false) (back_so (ec i) (eo i) (el i))

  due_keeps : IsDue s → GoodBy back_now
  due_keeps due = subst GoodBy (sym (back_to false (slice_get s.run.writes s.run.made) (next_give st) (no_writer (no_claim due.off.claims)) refl refl)) (back_claim_keeps w good n s at on due)

  giving_keeps : waits_at w.locks n s.claims ≡ false → IsGivingBack s.kept s.claims s.run s.stock s.seen → GoodBy back_now
  giving_keeps granted h = by_put_now (slice_get s.run.writes s.run.made) refl h.goes where
    under : IsUnder g good.running.cat (nodes_under w.locks w.nodes) w.blocks
    under = drive_so w good n s at

    by_next : (o : Option ℕ) → next_give st ≡ o → slice_get s.run.writes s.run.made ≡ None → IsGoingBack g s.stock s.run → GoodBy back_now
    by_next (Some l) e none (LooksOn more writes made) =
        let at_it = places_lie g 1 true l (drive_so w good n s at).base (drive_so w good n s at).own good.running.cat (give_looked g s.stock.clusters s.stock.numbers s.run.looked l e) (drive_so w good n s at).spelt in
        subst GoodBy (sym (back_to true None (Some l) (writer_now h.claims) none e))
        (space_turn w good n s at granted h.claims 0 false l (subst (λ (j : ℕ). l < j) (sym (drive_so w good n s at).over.count) at_it.0) (subst (λ (y : Geometry). IsBitmap y l) me.geometry at_it.1)
        (λ c es reads hits there store entries. back_look_keeps w good n s at on granted h.claims h writes l c es reads hits at_it.1 there store entries 0 false))
    by_next (Some l) e none (WritesBack back) = absurd (let f : Some l ≡ None = sym e ∙ back.all in cc)
    by_next None e none goes = subst GoodBy (sym (back_to true None None (writer_now h.claims) none e)) (return_keeps w good n s at on granted h.claims none e (inr h.back) goes h.shared h)

    by_put_now : (o : Option PlanWrite) → slice_get s.run.writes s.run.made ≡ o → IsGoingBack g s.stock s.run → GoodBy back_now
    by_put_now None e goes = by_next (next_give st) refl e goes
    by_put_now (Some v) e (LooksOn more writes made) = absurd (let f : Some v ≡ None = sym e ∙ none_at s.run.writes s.run.made writes in cc)
    by_put_now (Some v) e (WritesBack back) = subst GoodBy (sym (back_to true (Some v) (next_give st) (writer_now h.claims) e refl ∙ ap by_put e)) (back_write_keeps w good n s at on granted h.claims h back v e)

  back_phase : s.run.phase ≡ phase.Back → Spaces s.cmd s.kept s.claims s.run s.stock s.seen → IsGivingBack s.kept s.claims s.run s.stock s.seen
  back_phase e (Off h) = absurd (let f : phase.Off ≡ phase.Back = sym (ap (λ (y : SpaceRun). y.phase) h.run) ∙ e in cc)
  back_phase e (Back h) = h
  back_phase e (Busy x c r) = absurd (by_rule_of r) where
    fill_not : s.run.phase ≡ phase.Fill → ⊥
    fill_not p = absurd (let f : phase.Fill ≡ phase.Back = sym p ∙ e in cc)

    last_not : s.run.phase ≡ phase.Last → ⊥
    last_not p = absurd (let f : phase.Last ≡ phase.Back = sym p ∙ e in cc)

    of_run : (p : Phase) → s.run ≡ begun_run p → s.run.phase ≡ p
    of_run p f = ap (λ (y : SpaceRun). y.phase) f

    by_rule_of : Rules x s.kept s.claims s.run s.stock s.seen → ⊥
    by_rule_of (Served h) = fill_not (of_run phase.Fill h.run)
    by_rule_of (Given h) = fill_not (of_run phase.Fill h.run)
    by_rule_of (Shared h) = fill_not (of_run phase.Fill h.run)
    by_rule_of (Fills h) = fill_not h.filling.fill
    by_rule_of (Grabs h) = fill_not h.filling.fill
    by_rule_of (Filled h) = fill_not h.fill
    by_rule_of (Drains h) = absurd (let f : phase.Drain ≡ phase.Back = sym h.drain ∙ e in cc)
    by_rule_of (Alone h) = last_not (of_run phase.Last h.run)
    by_rule_of (Looking h) = last_not h.claimed_so.last
    by_rule_of (Taking h) = last_not h.found.claimed_so.last
    by_rule_of (Taken h) = last_not h.found.claimed_so.last
    by_rule_of (Refused h) = last_not h.claimed_so.last

  pub backs_keep : waits_at w.locks n s.claims ≡ false → gives_back w n s ≡ true → GoodBy (by_back s)
  backs_keep granted gives = by_phase s.run.phase refl gives where
    by_phase : (p : Phase) → s.run.phase ≡ p → gives_back_in w n s p ≡ true → GoodBy (by_back s)
    by_phase phase.Off e due = due_keeps (due_is w good n s at on e due)
    by_phase phase.Fill e due = absurd (let f : false ≡ true = due in cc)
    by_phase phase.Drain e due = absurd (let f : false ≡ true = due in cc)
    by_phase phase.Last e due = absurd (let f : false ≡ true = due in cc)
    by_phase phase.Back e due = giving_keeps granted (back_phase e me.space)
