-- Each event of the rules for space leaves less to be done.
use Rattle.std.proofs.Common.{◌≡◌, ◌≤◌, ◌<◌, ◌+◌, ◌-◌, ◌++◌, ◌&&◌, min, ℕ, Bool, true, false, cond, List, [], ◌∷◌, Option, Some, None, is_some, length, slice_get, refl, sym, ap, subst, ◌∙◌, inl, inr, arith}
use Rattle.std.proofs.lemmas.List.{length-append, length-drop}
use Rattle.std.specs.Prelude.{slice_index_or}
use Rattle.base_words.specs.Fields.{Block}
use Rattle.lock_db.specs.declared.name.LockName.{LockName}
use Rattle.lock_db.specs.declared.name.LockName.TheVariants.{X, V}
use Rattle.plain_cat.specs.declared.mode.Mode.{Mode}
use Rattle.plain_cat.specs.declared.mode.Mode.TheVariants.{NL, CR, PW, EX}
use Rattle.plain_cat.specs.declared.command.Cmd.{Cmd}
use Rattle.plain_cat.specs.declared.reply.Refusal.{Refusal}
use Rattle.node_locks.specs.Held.{Row, names_of, HoldsItsLocks, waits_at, without}
use Rattle.node_cache.specs.Cached.{Cached}
use Rattle.base_words.specs.Lists.{Has, Once}
use Rattle.base_words.proofs.Listing.{has_parted, has_first, has_second}
use Rattle.vol_parts.specs.declared.geometry.Geometry.{Geometry}
use Rattle.vol_parts.specs.Parts.{IsGeometry}
use Rattle.op_law.specs.declared.need.Need.TheVariants as need
use Rattle.op_law.specs.declared.need.PlanWrite.{PlanWrite}
use Rattle.op_law.specs.declared.seen.Seen.{Seen}
use Rattle.op_law.specs.Events.{space_of, has_space, HasNoSpace}
use Rattle.op_law.specs.Needs.{events_of, IsNext}
use Rattle.extent_cache.specs.Takings.{holds_enough}
use Rattle.core_space.specs.declared.outcome.Search.{Search}
use Rattle.core_space.specs.declared.outcome.Search.TheVariants as search
use Rattle.core_space.specs.Searching.{places}
use Rattle.core_space.specs.Answering.{answered, answer, blocks_alone}
use Rattle.core_space.proofs.Taken.{takes_all}
use Rattle.core_space.specs.declared.run.Phase.{Phase}
use Rattle.core_space.specs.declared.run.Phase.TheVariants as phase
use Rattle.core_space.specs.declared.run.SpaceRun.{SpaceRun}
use Rattle.core_space.specs.declared.run.SpaceNeed.{SpaceNeed}
use Rattle.core_space.specs.declared.event.SpaceEvent.TheVariants as space
use Rattle.core_space.specs.declared.event.Decision.{Decision}
use Rattle.core_space.specs.Filling.{clusters_to_take, lacks_number, fill_place, filled}
use Rattle.core_space.specs.Giving.{give_place, give_writes}
use Rattle.core_space.specs.Rule.{SpaceState, is_shared, is_exclusive, is_writer, is_reader, no_run, next_fill, next_give, event_in, back_event, looks_on, decides, give_by, fill_or_give, fill_by, search_by, decision_in}
use Rattle.core_state.specs.Worlds.{Stock, NodeState, Plain, node_at, set_node, rows_of}
use Rattle.core_state.specs.Asks.{is_claiming}
use Rattle.core_state.specs.Event.{Event}
use Rattle.core_state.specs.Event as event
use Rattle.core_state.specs.Stocks.{roomless}
use Rattle.core_state.specs.Searches.{begun_run, wanted_by, numbered_by, lacks_by, IsOff, IsGoingBack, LooksOn, WritesBack, IsWritingBack, IsGivingBack, IsServed, IsGiven, AsksShared, IsFilling, FillLooks, FillWrites, HasFilled, IsDraining, AsksAlone, IsLooking, IsTaking, HasTaken, Rules, Served, Given, Shared, Fills, Grabs, Filled, Drains, Alone, Looking, Taking, Taken, Refused, Spaces, Off, Back, Busy}
use Rattle.core_state.specs.Goods.{IsNode, Good}
use Rattle.core_state.specs.Events.{mode_in, space_state, is_out, by_put, by_rule, phase_begun, may_serve, serves, space_need, gives_back_in, gives_back, by_back, happens, or_use, has_current, block_used, cache_looked, cache_used, cache_written, turned, caching, claiming, lowering, lowering_both, returning, space_writing, told_by, given_by, stocked_by, is_last, ready_of, ready_left}
use Rattle.base_words.specs.Faults.{next as one_more}
use Rattle.base_words.specs.Fields.{block_at}
use Rattle.core_state.proofs.Naming.{none_of, one_of, mode_is, from_without}
use Rattle.core_state.proofs.Keeping.{kept_once, claims_once, kept_apart}
use Rattle.core_state.proofs.Sweeps.{once_names}
use Rattle.core_state.proofs.Seeking.{no_space, wants_some, wants_nothing}
use Rattle.core_state.proofs.Turning.{may_need, space_now}
use Rattle.core_state.proofs.Fillings.{fill_over}
use Rattle.core_state.proofs.Looks.{come_so, space_seen_so}
use Rattle.core_state.proofs.Backing.{IsDue, due_is}
use Rattle.core_state.proofs.Midway.{drive_so}
use Rattle.core_state.proofs.Rulings.{fill_so, last_so, back_so, none_at, none_behind, some_at, there_is, not_writer, v_not_kept, drain_so}
use Rattle.core_ends.specs.Measure.{plan_steps, looks_left, give_left_by, give_left, by_claim, rule_steps, return_by, return_left, steps_of, rest_of, left_from, left}
use Rattle.core_ends.proofs.Standing.{at_work, me, mine}
use Rattle.core_ends.proofs.Sums.{node_less, steps_on, steps_over, back_on}
use Rattle.core_ends.proofs.Bounds.{steps_few, room, line_left}
use Rattle.core_ends.proofs.Keeping.{reader_has, has_reader, reads_left, none_left, no_more}
use Rattle.core_ends.proofs.Counting.{looks_less, looks_few, back_few, looked_few, found_few, filled_few, writes_left, write_within, blocks_few}

-- ---- small steps

told_blocks : (o : Option Refusal) (seen : Seen) → (told_by o seen).blocks ≡ seen.blocks
told_blocks None seen = refl
told_blocks (Some r) seen = refl

told_geometry : (o : Option Refusal) (seen : Seen) → (told_by o seen).geometry ≡ seen.geometry
told_geometry None seen = refl
told_geometry (Some r) seen = refl

given_blocks : (p : Phase) (b : Bool) (v : PlanWrite) (seen : Seen) → (given_by p b v seen).blocks ≡ seen.blocks
given_blocks phase.Off b v seen = refl
given_blocks phase.Fill b v seen = refl
given_blocks phase.Drain b v seen = refl
given_blocks phase.Last true v seen = refl
given_blocks phase.Last false v seen = refl
given_blocks phase.Back b v seen = refl

given_geometry : (p : Phase) (b : Bool) (v : PlanWrite) (seen : Seen) → (given_by p b v seen).geometry ≡ seen.geometry
given_geometry phase.Off b v seen = refl
given_geometry phase.Fill b v seen = refl
given_geometry phase.Drain b v seen = refl
given_geometry phase.Last true v seen = refl
given_geometry phase.Last false v seen = refl
given_geometry phase.Back b v seen = refl

by_v : (claims : Row) (a b c : ℕ) → claims ≡ (V, PW) ∷ [] → by_claim claims a b c ≡ c
by_v claims a b c e = ap (λ ls. by_claim ls a b c) e

by_x : (claims : Row) (mode : Mode) (a b c : ℕ) → claims ≡ (X, mode) ∷ [] → by_claim claims a b c ≡ b
by_x claims mode a b c e = ap (λ ls. by_claim ls a b c) e

by_none : (claims : Row) (a b c : ℕ) → claims ≡ [] → by_claim claims a b c ≡ a
by_none claims a b c e = ap (λ ls. by_claim ls a b c) e

-- what a give-back has left by these writes
give_most : (g : Geometry) (stock : Stock) (run : SpaceRun) (ws : List PlanWrite) → length run.writes ≤ 17 → give_left_by g stock run ws ≤ 18 + looks_left g stock run.looked
give_most g stock run [] le = omega arith
give_most g stock run (y ∷ ws) le = omega arith

-- ---- X is in CR where it was

no_reader : (ls : Row) → (Has ls (X, CR) → ⊥) → is_reader (mode_in X ls) ≡ false
no_reader ls none = by_test (is_reader (mode_in X ls)) refl where
  by_test : (b : Bool) → is_reader (mode_in X ls) ≡ b → is_reader (mode_in X ls) ≡ false
  by_test false e = e
  by_test true e = absurd (none (reader_has ls e))

module _ (w : Plain) (good : Good w) (n : ℕ) (s : NodeState) (at : node_at w.nodes n ≡ Some s) (on : is_out s ≡ false) where
  abbrev ls : Row
  ls = s.kept ++ s.claims

  abbrev st : SpaceState
  st = space_state s

  abbrev g : Geometry
  g = s.seen.geometry

  geo : IsGeometry g
  geo = (drive_so w good n s at).spelt.counts.geometry

  its : IsNode w n s
  its = me w good n s at

  all_mine : HoldsItsLocks w.locks n (rows_of s)
  all_mine = mine w good n s at

  once_kept : Once (names_of s.kept)
  once_kept = kept_once s all_mine.once

  once_locks : Once (names_of ls)
  once_locks = once_names s.kept s.claims once_kept (claims_once s all_mine.once) (λ name h k. kept_apart s name all_mine.once h (inr k))

  mode_kept : (name : LockName) (m : Mode) → Has s.kept (name, m) → mode_in name ls ≡ Some m
  mode_kept name m h = mode_is ls name m once_locks (has_first s.kept s.claims (name, m) h)

  mode_claimed : (l : LockName × Mode) → s.claims ≡ l ∷ [] → mode_in l.0 ls ≡ Some l.1
  mode_claimed l e = mode_is ls l.0 l.1 once_locks (has_second s.kept s.claims l (subst (λ (ks : Row). Has ks l) (sym e) (inl refl)))

  writer_now : s.claims ≡ (V, PW) ∷ [] → is_writer (mode_in V ls) ≡ true
  writer_now e = ap is_writer (mode_claimed (V, PW) e)

  no_writer : ((m : LockName × Mode) → Has s.claims m → m.0 ≡ V → ⊥) → is_writer (mode_in V ls) ≡ false
  no_writer none = not_writer ls (λ h. elim (has_parted s.kept s.claims (V, PW) h) [ inl a ↦ v_not_kept s.run.phase s.kept its.store.kept a | inr a ↦ none (V, PW) a refl ])

  no_claim : s.claims ≡ [] → (m : LockName × Mode) → Has s.claims m → m.0 ≡ V → ⊥
  no_claim e m h f = none_of s.claims m e h

  x_claim : (mode : Mode) → s.claims ≡ (X, mode) ∷ [] → (m : LockName × Mode) → Has s.claims m → m.0 ≡ V → ⊥
  x_claim mode e m h f = absurd (let z : X ≡ V = ap (λ (l : LockName × Mode). l.0) (one_of s.claims (X, mode) m e h) ∙ f in cc)

  abbrev pub FallsTo : NodeState → Type 0
  FallsTo t = left_from w.script 1 (set_node w.nodes n t) < left w

  abbrev pub FallsBy : Event → Type 0
  FallsBy e = left (happens w n s (or_use w s e)) < left w

  abbrev rules_now : ℕ
  rules_now = rule_steps g s.stock s.claims s.run s.run.phase

  abbrev back_now : ℕ
  back_now = return_left g s.stock s.kept s.run

  rules_at : (p : Phase) → s.run.phase ≡ p → rules_now ≡ rule_steps g s.stock s.claims s.run p
  rules_at p e = ap (rule_steps g s.stock s.claims s.run) e

  -- ---- a look

  -- of a block that is read, or found cached
  look_turns : (k : ℕ) (c : Bool) (lbn : ℕ) → ((b : Block) (es : List Cached) (reads hits : ℕ) → FallsTo (space_seen_so s k c lbn b es reads hits)) → FallsBy (event.SpaceLook k c lbn)
  look_turns k c lbn sees = by_test (has_current w s V lbn) where
    by_test : (b : Bool) → left (happens w n s (cond b (event.SpaceUse k c lbn) (event.SpaceLook k c lbn))) < left w
    by_test true = sees (block_used w s V lbn) (cache_used w s V lbn) s.reads (one_more s.hits)
    by_test false = sees (block_at w.blocks lbn) (cache_looked w n s V lbn) (one_more s.reads) s.hits

  module _ (lbn : ℕ) (b : Block) (es : List Cached) (reads hits : ℕ) where
    abbrev more : List (ℕ × Block)
    more = s.run.looked ++ (lbn, b) ∷ []

    abbrev come : Decision → NodeState
    come d = come_so s more d es reads hits

    abbrev run_of : Decision → SpaceRun
    run_of d = record { phase = d.phase; looked = more; writes = d.writes; made = 0; ready = ready_of d.phase d.writes }

    come_steps : (d : Decision) → steps_of (come d) ≡ length s.asked + (length s.seen.blocks + (rule_steps g s.stock s.claims (run_of d) d.phase + plan_steps s.plan s.done s.tried))
    come_steps d = λ i. length s.asked + (length (told_blocks d.short s.seen i) + (rule_steps (told_geometry d.short s.seen i) s.stock s.claims (run_of d) d.phase + plan_steps s.plan s.done s.tried))

    come_back : (d : Decision) → return_left (come d).seen.geometry s.stock s.kept (run_of d) ≡ return_left g s.stock s.kept (run_of d)
    come_back d = ap (λ h. return_left h s.stock s.kept (run_of d)) (told_geometry d.short s.seen)

    counted : length more ≡ length s.run.looked + 1
    counted = length-append s.run.looked ((lbn, b) ∷ [])

    -- one that a give-back makes leaves less of it
    give_less : (d : Decision) → length d.writes ≤ 17 → s.run.writes ≡ [] → give_place g s.stock.clusters s.stock.numbers s.run.looked ≡ Some lbn → give_left g s.stock (run_of d) < give_left g s.stock s.run
    give_less d few none next =
        let a = give_most g s.stock (run_of d) d.writes few in
        let c = looks_less g s.stock s.run.looked lbn b next in
        let e : give_left g s.stock s.run ≡ 18 + looks_left g s.stock s.run.looked = ap (give_left_by g s.stock s.run) none in
        omega arith

  give_now : s.run.writes ≡ [] → give_left g s.stock s.run ≤ 35
  give_now none =
      let e : give_left g s.stock s.run ≡ 18 + looks_left g s.stock s.run.looked = ap (give_left_by g s.stock s.run) none in
      let f = looks_few g s.stock s.run.looked geo in
      omega arith

  -- ---- a write

  abbrev run_after : SpaceRun
  run_after = record s.run { made = s.run.made + 1; ready = ready_left s.run.phase (is_last s.run) s.run.ready }

  abbrev wrote : PlanWrite → NodeState
  wrote v = turned (caching (cache_written w s v) (space_writing s v))

  abbrev stock_after : PlanWrite → Stock
  stock_after v = stocked_by s.run.phase (is_last s.run) g v s.stock

  wrote_steps : (v : PlanWrite) → steps_of (wrote v) ≡ length s.asked + (length s.seen.blocks + (rule_steps g (stock_after v) s.claims run_after s.run.phase + plan_steps s.plan s.done s.tried))
  wrote_steps v = λ i. length s.asked + (length (given_blocks s.run.phase (is_last s.run) v s.seen i) + (rule_steps (given_geometry s.run.phase (is_last s.run) v s.seen i) (stock_after v) s.claims run_after s.run.phase + plan_steps s.plan s.done s.tried))

  wrote_back : (v : PlanWrite) → return_left (wrote v).seen.geometry (stock_after v) s.kept run_after ≡ return_left g (stock_after v) s.kept run_after
  wrote_back v = ap (λ h. return_left h (stock_after v) s.kept run_after) (given_geometry s.run.phase (is_last s.run) v s.seen)

  -- what a give-back has left by its writes
  writes_so : (k : Stock) (r : SpaceRun) (v : PlanWrite) → r.writes ≡ s.run.writes → slice_get s.run.writes s.run.made ≡ Some v → give_left g k r ≡ length r.writes - r.made
  writes_so k r v same next = writes_left g k r r.writes s.run.made v (ap (λ ws. slice_get ws s.run.made) same ∙ next)

  write_few : IsWritingBack g s.stock s.run → length s.run.writes - s.run.made ≤ 17
  write_few back =
      let a = length-drop s.run.made s.run.writes in
      let b = ap (λ (ws : List PlanWrite). length ws) back.rest in
      let c = back_few g s.stock.clusters s.stock.numbers s.run.looked geo in
      omega arith

  -- ---- for a command that needs space

  module _ (x : Cmd) (has : s.cmd ≡ Some x) (free : waits_at w.locks n s.asked ≡ false) (no_plan : s.plan ≡ None) (granted : waits_at w.locks n s.claims ≡ false) (calmly : s.run.phase ≡ phase.Back → ⊥)
      (is : IsNext x s.seen (need.Space (wanted_by x s.seen) (numbered_by x s.seen))) (not_served : serves s (wanted_by x s.seen) (numbered_by x s.seen) ≡ false) where
    abbrev k : ℕ
    k = wanted_by x s.seen

    abbrev c : Bool
    c = numbered_by x s.seen

    abbrev nd : SpaceNeed
    nd = space_need k c

    abbrev now_by : Event
    now_by = by_rule s (phase_begun s.run.phase) nd (event_in s.run.phase st nd)

    has_room : steps_of s < rest_of w.script n s
    has_room = room w good n s at x has

    -- it goes on by steps
    steps_fall : (t : NodeState) → t.over ≡ s.over → t.past ≡ s.past → steps_of s < steps_of t → return_left t.seen.geometry t.stock t.kept t.run ≤ back_now → FallsTo t
    steps_fall t over past more le = node_less w n s t at (steps_on w.script n s t on over past has_room more le)

    look_falls : (lbn : ℕ) (b : Block) (es : List Cached) (reads hits : ℕ) (d : Decision) → (d.phase ≡ phase.Back → ⊥) → rules_now < rule_steps g s.stock s.claims (run_of lbn b es reads hits d) d.phase → FallsTo (come lbn b es reads hits d)
    look_falls lbn b es reads hits d ne less =
        steps_fall (come lbn b es reads hits d) refl refl (let a = come_steps lbn b es reads hits d in omega arith)
        (let a = come_back lbn b es reads hits d in let e = no_more g g s.stock s.stock s.kept s.kept s.run (run_of lbn b es reads hits d) calmly ne (λ f. f) in omega arith)

    wrote_falls : (v : PlanWrite) → rules_now < rule_steps g (stock_after v) s.claims run_after s.run.phase → FallsTo (wrote v)
    wrote_falls v less =
        steps_fall (wrote v) refl refl (let a = wrote_steps v in omega arith)
        (let a = wrote_back v in let e = no_more g g s.stock (stock_after v) s.kept s.kept s.run run_after calmly calmly (λ f. f) in omega arith)

    -- ---- events by state

    at_phase : (p : Phase) → s.run.phase ≡ p → now_by ≡ by_rule s (phase_begun p) nd (event_in p st nd)
    at_phase p e = ap (λ q. by_rule s (phase_begun q) nd (event_in q st nd)) e

    fill_to : s.run.phase ≡ phase.Fill → (a d : Bool) (o : Option PlanWrite) (l : Option ℕ) → is_shared (mode_in X ls) ≡ a → is_writer (mode_in V ls) ≡ d → slice_get s.run.writes s.run.made ≡ o → next_fill st nd ≡ l → now_by ≡ by_rule s phase.Fill nd (fill_so a d o l)
    fill_to ph a d o l ea ed eo el = at_phase phase.Fill ph ∙ (λ i. by_rule s phase.Fill nd (fill_so (ea i) (ed i) (eo i) (el i)))

    drain_to : s.run.phase ≡ phase.Drain → (o : Option PlanWrite) (l : Option ℕ) → slice_get s.run.writes s.run.made ≡ o → next_give st ≡ l → now_by ≡ by_rule s phase.Drain nd (drain_so o l)
    drain_to ph o l eo el = at_phase phase.Drain ph ∙ (λ i. by_rule s phase.Drain nd (drain_so (eo i) (el i)))

    last_to : s.run.phase ≡ phase.Last → (a d : Bool) (o : Option PlanWrite) (r : Search) → is_exclusive (mode_in X ls) ≡ a → is_writer (mode_in V ls) ≡ d → slice_get s.run.writes s.run.made ≡ o → answer g k c (blocks_alone s.run.looked) ≡ r → now_by ≡ by_rule s phase.Last nd (last_so a d o r)
    last_to ph a d o r ea ed eo er = at_phase phase.Last ph ∙ (λ i. by_rule s phase.Last nd (last_so (ea i) (ed i) (eo i) (er i)))

    abbrev put_now : Option PlanWrite
    put_now = slice_get s.run.writes s.run.made

    has_none : HasNoSpace (space_of s.seen)
    has_none = (may_need w good n s at x has free (need.Space k c) is).1

    wanted : (wanted_by x s.seen ≡ 0) × (numbered_by x s.seen ≡ false) → ⊥
    wanted z = wants_nothing c k (sym z.0) (sym z.1) (wants_some (events_of g s.seen.channel x) s.seen.locks s.seen.blocks (space_of s.seen) k c has_none is)

    not_enough : may_serve s.run.phase (is_claiming s.claims) ≡ true → holds_enough k c (roomless s.stock) ≡ false
    not_enough may = sym (ap (λ t. t && holds_enough k c (roomless s.stock)) may) ∙ not_served

    -- ---- a claim

    claim_falls : (p : Phase) (name : LockName) (mode : Mode) → (p ≡ phase.Back → ⊥) → rules_now < rule_steps g s.stock ((name, mode) ∷ []) (record s.run { phase = p }) p
        → (is_reader (mode_in X (without name ls)) ≡ true → is_reader (mode_in X s.kept) ≡ true) → FallsBy (event.Claim p name mode)
    claim_falls p name mode ne less goes =
        steps_fall (turned (claiming s p name mode)) refl refl (omega arith) (no_more g g s.stock s.stock s.kept (without name ls) s.run (record s.run { phase = p }) calmly ne goes)

    no_x_left : is_reader (mode_in X (without X ls)) ≡ true → is_reader (mode_in X s.kept) ≡ true
    no_x_left e = absurd ((from_without ls X (X, CR) (reader_has (without X ls) e)).1 refl)

    v_leaves : (Has s.claims (X, CR) → ⊥) → is_reader (mode_in X (without V ls)) ≡ true → is_reader (mode_in X s.kept) ≡ true
    v_leaves none e = has_reader s.kept once_kept (elim (has_parted s.kept s.claims (X, CR) (from_without ls V (X, CR) (reader_has (without V ls) e)).0) [ inl h ↦ h | inr h ↦ absurd (none h) ])

    not_fill : phase.Fill ≡ phase.Back → ⊥
    not_fill e = cc

    not_last : phase.Last ≡ phase.Back → ⊥
    not_last e = cc

    not_drain : phase.Drain ≡ phase.Back → ⊥
    not_drain e = cc

    off_falls : IsOff s.claims s.run s.seen → FallsBy now_by
    off_falls h = by_shared (is_shared (mode_in X ls)) refl where
      ph : s.run.phase ≡ phase.Off
      ph = ap (λ (y : SpaceRun). y.phase) h.run

      lacking : holds_enough k c (roomless s.stock) ≡ false
      lacking = not_enough (λ i. may_serve (ph i) (is_claiming (h.claims i)))

      to : (a d : Bool) → is_shared (mode_in X ls) ≡ a → is_writer (mode_in V ls) ≡ d → now_by ≡ by_rule s phase.Fill nd (fill_so a d put_now (next_fill st nd))
      to a d ea ed = at_phase phase.Off ph ∙ (λ i. by_rule s phase.Fill nd (cond (lacking i) space.Enough (fill_so (ea i) (ed i) put_now (next_fill st nd))))

      by_shared : (a : Bool) → is_shared (mode_in X ls) ≡ a → FallsBy now_by
      by_shared false e = subst FallsBy (sym (to false (is_writer (mode_in V ls)) e refl)) (claim_falls phase.Fill X CR not_fill (let a = rules_at phase.Off ph in omega arith) no_x_left)
      by_shared true e = subst FallsBy (sym (to true false e (no_writer (no_claim h.claims)))) (claim_falls phase.Fill V PW not_fill (let a = rules_at phase.Off ph in omega arith) (v_leaves (λ i. none_of s.claims (X, CR) h.claims i)))

    -- V, where X was claimed: then X in CR is kept, and may go back
    shared_falls : AsksShared x s.claims s.run s.stock s.seen → FallsBy now_by
    shared_falls h =
        subst FallsBy (sym (fill_to ph true false put_now (next_fill st nd) (ap is_shared (mode_claimed (X, CR) h.claims)) (no_writer (x_claim CR h.claims)) refl refl))
        (node_less w n s t at (steps_over w.script n s t on refl refl enough owed)) where
          ph : s.run.phase ≡ phase.Fill
          ph = ap (λ (y : SpaceRun). y.phase) h.run

          t : NodeState
          t = turned (claiming s phase.Fill V PW)

          was : rules_now ≡ 1
          was = rules_at phase.Fill ph ∙ by_x s.claims CR 200 1 (130 + min 60 (length s.run.looked + s.run.made)) h.claims

          most : (b : Bool) → cond b 80 0 ≤ 80
          most true = omega arith
          most false = omega arith

          owed : steps_of s + return_left t.seen.geometry t.stock t.kept t.run < steps_of t + back_now
          owed = let a = was in let b = most (is_reader (mode_in X (without V ls))) in omega arith

          enough : steps_of t ≤ rest_of w.script n s
          enough =
              let a = was in
              let b = steps_few w good n s at x has in
              let d = line_left w good n s at x has h.needs.come.takes in
              omega arith

    -- ---- filling

    fill_now : IsFilling x s.kept s.claims s.run (lacks_by x s.seen s.stock) s.seen → rules_now ≡ 130 + min 60 (length s.run.looked + s.run.made)
    fill_now h = rules_at phase.Fill h.fill ∙ by_v s.claims 200 1 (130 + min 60 (length s.run.looked + s.run.made)) h.claims

    fills_fall : FillLooks x s.kept s.claims s.run s.stock s.seen → FallsBy now_by
    fills_fall h =
        let l = there_is (next_fill st nd) h.more in
        subst FallsBy (sym (fill_to h.filling.fill true true None (Some l.it) (ap is_shared (mode_kept X CR h.filling.shared)) (writer_now h.filling.claims) (none_at s.run.writes s.run.made h.writes) l.is))
        (look_turns k c l.it (λ b es reads hits. looks l.it b es reads hits)) where
          few_looked : length s.run.looked ≤ 17
          few_looked = looked_few g 1 (lacks_by x s.seen s.stock) s.run.looked geo h.filling.in_order

          looks : (lbn : ℕ) (b : Block) (es : List Cached) (reads hits : ℕ) → FallsTo (space_seen_so s k c lbn b es reads hits)
          looks lbn b es reads hits = subst (λ (p : Phase). FallsTo (come lbn b es reads hits (decision_in p g (more lbn b es reads hits) (roomless s.stock) nd))) (sym h.filling.fill) (by_place (fill_place g (clusters_to_take k (length s.stock.clusters)) (lacks_number c s.stock.numbers) (blocks_alone (more lbn b es reads hits)))) where
            stays : (d : Decision) → d.phase ≡ phase.Fill → FallsTo (come lbn b es reads hits d)
            stays d e = look_falls lbn b es reads hits d (λ f. not_fill (sym e ∙ f))
                (let a = fill_now h.filling in
                let m = h.made in
                let f = few_looked in
                let v = counted lbn b es reads hits in
                let z : rule_steps g s.stock s.claims (run_of lbn b es reads hits d) d.phase ≡ 130 + min 60 (length (s.run.looked ++ (lbn, b) ∷ []) + 0)
                = ap (rule_steps g s.stock s.claims (run_of lbn b es reads hits d)) e ∙ by_v s.claims 200 1 (130 + min 60 (length (s.run.looked ++ (lbn, b) ∷ []) + 0)) h.filling.claims in
                omega arith)

            gives : (d : Decision) → d.phase ≡ phase.Drain → FallsTo (come lbn b es reads hits d)
            gives d e = look_falls lbn b es reads hits d (λ f. not_drain (sym e ∙ f))
                (let a = fill_now h.filling in
                let z : rule_steps g s.stock s.claims (run_of lbn b es reads hits d) d.phase ≡ 300 + (60 - give_left g s.stock (run_of lbn b es reads hits d)) = ap (rule_steps g s.stock s.claims (run_of lbn b es reads hits d)) e in
                omega arith)

            by_give : (o : Option ℕ) → FallsTo (come lbn b es reads hits (give_by phase.Drain g (s.run.looked ++ (lbn, b) ∷ []) (roomless s.stock) o))
            by_give (Some l) = gives (looks_on phase.Drain) refl
            by_give None = gives (decides phase.Drain (give_writes g s.stock.clusters s.stock.numbers (s.run.looked ++ (lbn, b) ∷ []))) refl

            by_filled : (o : Option (List PlanWrite)) → FallsTo (come lbn b es reads hits (fill_or_give g (s.run.looked ++ (lbn, b) ∷ []) (roomless s.stock) o))
            by_filled (Some ws) = stays (decides phase.Fill ws) refl
            by_filled None = by_give (give_place g s.stock.clusters s.stock.numbers (s.run.looked ++ (lbn, b) ∷ []))

            by_place : (o : Option ℕ) → FallsTo (come lbn b es reads hits (fill_by g (s.run.looked ++ (lbn, b) ∷ []) (roomless s.stock) nd o))
            by_place (Some l) = stays (looks_on phase.Fill) refl
            by_place None = by_filled (filled g k (length s.stock.clusters) (lacks_number c s.stock.numbers) (blocks_alone (s.run.looked ++ (lbn, b) ∷ [])))

    grabs_fall : FillWrites x s.kept s.claims s.run s.stock s.seen → FallsBy now_by
    grabs_fall h =
        let v = some_at s.run.writes s.run.made h.part in
        subst FallsBy (sym (fill_to h.filling.fill true true (Some v.write) (next_fill st nd) (ap is_shared (mode_kept X CR h.filling.shared)) (writer_now h.filling.claims) v.at refl ∙ ap by_put v.at))
        (wrote_falls v.write
        (let a = fill_now h.filling in
        let few = looked_few g 1 (lacks_by x s.seen s.stock) s.run.looked geo h.filling.in_order in
        let b = filled_few g k (length s.stock.clusters) (lacks_by x s.seen s.stock) (blocks_alone s.run.looked) s.run.writes h.enough in
        let d = blocks_few s.run.looked in
        let p = h.part in
        let z : rule_steps g (stock_after v.write) s.claims run_after s.run.phase ≡ 130 + min 60 (length s.run.looked + (s.run.made + 1))
        = ap (rule_steps g (stock_after v.write) s.claims run_after) h.filling.fill ∙ by_v s.claims 200 1 (130 + min 60 (length s.run.looked + (s.run.made + 1))) h.filling.claims in
        omega arith))

    filled_falls : HasFilled x s.kept s.claims s.run s.stock s.seen → FallsBy now_by
    filled_falls h =
        let le : length s.run.writes ≤ s.run.made = let e = h.all in omega arith in
        subst FallsBy (sym (fill_to h.fill true true None None (ap is_shared (mode_kept X CR h.shared)) (writer_now h.claims) (none_behind s.run.writes s.run.made le) (fill_over g k c s.stock (blocks_alone s.run.looked) h.enough)))
        (steps_fall (turned (lowering s)) refl refl
        (let a : rules_now ≡ 130 + min 60 (length s.run.looked + s.run.made) = rules_at phase.Fill h.fill ∙ by_v s.claims 200 1 (130 + min 60 (length s.run.looked + s.run.made)) h.claims in omega arith)
        (no_more g g s.stock s.stock s.kept (s.kept ++ (V, NL) ∷ []) s.run (begun_run phase.Fill) calmly not_fill goes)) where
          goes : is_reader (mode_in X (s.kept ++ (V, NL) ∷ [])) ≡ true → is_reader (mode_in X s.kept) ≡ true
          goes e = has_reader s.kept once_kept h.shared

    -- ---- the stock goes back

    drains_fall : IsDraining x s.kept s.claims s.run s.stock s.seen → FallsBy now_by
    drains_fall h = by_put_now (slice_get s.run.writes s.run.made) refl h.goes where
      was : rules_now ≡ 300 + (60 - give_left g s.stock s.run)
      was = rules_at phase.Drain h.drain

      looks : (lbn : ℕ) (b : Block) (es : List Cached) (reads hits : ℕ) → s.run.writes ≡ [] → next_give st ≡ Some lbn → FallsTo (space_seen_so s k c lbn b es reads hits)
      looks lbn b es reads hits none next = subst (λ (p : Phase). FallsTo (come lbn b es reads hits (decision_in p g (more lbn b es reads hits) (roomless s.stock) nd))) (sym h.drain) (by_give (give_place g s.stock.clusters s.stock.numbers (s.run.looked ++ (lbn, b) ∷ []))) where
        gives : (d : Decision) → d.phase ≡ phase.Drain → length d.writes ≤ 17 → FallsTo (come lbn b es reads hits d)
        gives d e few = look_falls lbn b es reads hits d (λ f. not_drain (sym e ∙ f))
            (let a = was in
            let l = give_less lbn b es reads hits d few none next in
            let m = give_now none in
            let z : rule_steps g s.stock s.claims (run_of lbn b es reads hits d) d.phase ≡ 300 + (60 - give_left g s.stock (run_of lbn b es reads hits d)) = ap (rule_steps g s.stock s.claims (run_of lbn b es reads hits d)) e in
            omega arith)

        by_give : (o : Option ℕ) → FallsTo (come lbn b es reads hits (give_by phase.Drain g (s.run.looked ++ (lbn, b) ∷ []) (roomless s.stock) o))
        by_give (Some l) = gives (looks_on phase.Drain) refl (omega arith)
        by_give None = gives (decides phase.Drain (give_writes g s.stock.clusters s.stock.numbers (s.run.looked ++ (lbn, b) ∷ []))) refl (back_few g s.stock.clusters s.stock.numbers (s.run.looked ++ (lbn, b) ∷ []) geo)

      x_goes : FallsBy event.LowerX
      x_goes = steps_fall (turned (lowering_both s)) refl refl (let a = was in omega arith)
          (let z = none_left g s.stock (without X (s.kept ++ (V, NL) ∷ []) ++ (X, NL) ∷ []) (begun_run phase.Last) (no_reader (without X (s.kept ++ (V, NL) ∷ []) ++ (X, NL) ∷ []) none) in omega arith) where
            none : Has (without X (s.kept ++ (V, NL) ∷ []) ++ (X, NL) ∷ []) (X, CR) → ⊥
            none i = elim (has_parted (without X (s.kept ++ (V, NL) ∷ [])) ((X, NL) ∷ []) (X, CR) i) [
              | inl a ↦ (from_without (s.kept ++ (V, NL) ∷ []) X (X, CR) a).1 refl
              | inr a ↦ elim a [ inl e ↦ absurd (let z : NL ≡ CR = ap (λ (l : LockName × Mode). l.1) e in cc) | inr f ↦ f ]
            ]

      by_next : (o : Option ℕ) → next_give st ≡ o → slice_get s.run.writes s.run.made ≡ None → IsGoingBack g s.stock s.run → FallsBy now_by
      by_next (Some l) e none (LooksOn more writes made) = subst FallsBy (sym (drain_to h.drain None (Some l) none e)) (look_turns k c l (λ b es reads hits. looks l b es reads hits writes e))
      by_next (Some l) e none (WritesBack back) = absurd (let f : Some l ≡ None = sym e ∙ back.all in cc)
      by_next None e none goes = subst FallsBy (sym (drain_to h.drain None None none e)) x_goes

      by_put_now : (o : Option PlanWrite) → slice_get s.run.writes s.run.made ≡ o → IsGoingBack g s.stock s.run → FallsBy now_by
      by_put_now None e goes = by_next (next_give st) refl e goes
      by_put_now (Some v) e (LooksOn more writes made) = absurd (let f : Some v ≡ None = sym e ∙ none_at s.run.writes s.run.made writes in cc)
      by_put_now (Some v) e (WritesBack back) = subst FallsBy (sym (drain_to h.drain (Some v) (next_give st) e refl ∙ ap by_put e))
          (wrote_falls v
          (let a = was in
          let p = writes_so s.stock s.run v refl e in
          let q = writes_so (stock_after v) run_after v refl e in
          let f = write_few back in
          let i = write_within s.run.writes s.run.made v e in
          let z : rule_steps g (stock_after v) s.claims run_after s.run.phase ≡ 300 + (60 - give_left g (stock_after v) run_after) = ap (rule_steps g (stock_after v) s.claims run_after) h.drain in
          omega arith))

    -- ---- the search of all free space

    alone_falls : AsksAlone x s.kept s.claims s.run s.stock s.seen → FallsBy now_by
    alone_falls h = elim h.claims [
      | inl e ↦ subst FallsBy (sym (last_to ph false (is_writer (mode_in V ls)) put_now (answer g k c (blocks_alone s.run.looked)) (ap is_exclusive (mode_kept X NL e.1)) refl refl refl))
          (claim_falls phase.Last X EX not_last (let a = was in let b = by_none s.claims 400 401 (402 + min 60 (length s.run.looked + s.run.made)) e.0 in omega arith) no_x_left)
      | inr e ↦ subst FallsBy (sym (last_to ph true false put_now (answer g k c (blocks_alone s.run.looked)) (ap is_exclusive (mode_claimed (X, EX) e)) (no_writer (x_claim EX e)) refl refl))
          (claim_falls phase.Last V PW not_last (let a = was in let b = by_x s.claims EX 400 401 (402 + min 60 (length s.run.looked + s.run.made)) e in omega arith)
          (v_leaves (λ i. absurd (let z : EX ≡ CR = ap (λ (l : LockName × Mode). l.1) (one_of s.claims (X, EX) (X, CR) e i) in cc))))
    ] where
      ph : s.run.phase ≡ phase.Last
      ph = ap (λ (y : SpaceRun). y.phase) h.run

      was : rules_now ≡ by_claim s.claims 400 401 (402 + min 60 (length s.run.looked + s.run.made))
      was = rules_at phase.Last ph

    looking_falls : IsLooking x s.kept s.claims s.run s.stock s.seen → FallsBy now_by
    looking_falls h =
        let bs : List Block = blocks_alone s.run.looked in
        let lbn : ℕ = slice_index_or (places g k c) (length bs) 0 in
        let looks_next : answer g k c bs ≡ search.Look lbn = ap (answered lbn) h.more in
        subst FallsBy (sym (last_to h.claimed_so.last true true None (search.Look lbn) (ap is_exclusive (mode_kept X EX h.claimed_so.alone)) (writer_now h.claimed_so.claims) (none_at s.run.writes s.run.made h.writes) looks_next))
        (look_turns k c lbn (λ b es reads hits. looks lbn b es reads hits)) where
          few : length s.run.looked ≤ 17
          few = looked_few g k c s.run.looked geo h.claimed_so.in_order

          looks : (lbn : ℕ) (b : Block) (es : List Cached) (reads hits : ℕ) → FallsTo (space_seen_so s k c lbn b es reads hits)
          looks lbn b es reads hits = subst (λ (p : Phase). FallsTo (come lbn b es reads hits (decision_in p g (more lbn b es reads hits) (roomless s.stock) nd))) (sym h.claimed_so.last) (by_search_of (answer g k c (blocks_alone (s.run.looked ++ (lbn, b) ∷ [])))) where
            goes : (d : Decision) → d.phase ≡ phase.Last → FallsTo (come lbn b es reads hits d)
            goes d e = look_falls lbn b es reads hits d (λ f. not_last (sym e ∙ f))
                (let a : rules_now ≡ 402 + min 60 (length s.run.looked + s.run.made) = rules_at phase.Last h.claimed_so.last ∙ by_v s.claims 400 401 (402 + min 60 (length s.run.looked + s.run.made)) h.claimed_so.claims in
                let m = h.made in
                let f = few in
                let v = counted lbn b es reads hits in
                let z : rule_steps g s.stock s.claims (run_of lbn b es reads hits d) d.phase ≡ 402 + min 60 (length (s.run.looked ++ (lbn, b) ∷ []) + 0)
                = ap (rule_steps g s.stock s.claims (run_of lbn b es reads hits d)) e ∙ by_v s.claims 400 401 (402 + min 60 (length (s.run.looked ++ (lbn, b) ∷ []) + 0)) h.claimed_so.claims in
                omega arith)

            by_search_of : (o : Search) → FallsTo (come lbn b es reads hits (search_by o))
            by_search_of (search.Look l) = goes (looks_on phase.Last) refl
            by_search_of (search.Short r) = goes (record { phase = phase.Last; writes = []; short = Some r }) refl
            by_search_of (search.Take ws) = goes (decides phase.Last ws) refl

    taking_falls : IsTaking x s.kept s.claims s.run s.stock s.seen → FallsBy now_by
    taking_falls h =
        let v = some_at s.run.writes s.run.made h.part in
        let d = h.found.claimed_so in
        subst FallsBy (sym (last_to d.last true true (Some v.write) (answer g k c (blocks_alone s.run.looked)) (ap is_exclusive (mode_kept X EX d.alone)) (writer_now d.claims) v.at refl ∙ ap by_put v.at))
        (wrote_falls v.write
        (let a : rules_now ≡ 402 + min 60 (length s.run.looked + s.run.made) = rules_at phase.Last d.last ∙ by_v s.claims 400 401 (402 + min 60 (length s.run.looked + s.run.made)) d.claims in
        let few = looked_few g k c s.run.looked geo d.in_order in
        let b = found_few g k c (blocks_alone s.run.looked) s.run.writes h.found.enough in
        let e = blocks_few s.run.looked in
        let p = h.part in
        let z : rule_steps g (stock_after v.write) s.claims run_after s.run.phase ≡ 402 + min 60 (length s.run.looked + (s.run.made + 1))
        = ap (rule_steps g (stock_after v.write) s.claims run_after) d.last ∙ by_v s.claims 400 401 (402 + min 60 (length s.run.looked + (s.run.made + 1))) d.claims in
        omega arith))

    -- ---- what does not come

    taken_not : HasTaken x s.kept s.claims s.run s.stock s.seen → ⊥
    taken_not h =
        let all_so = takes_all g k c (blocks_alone s.run.looked) s.run.writes h.found.enough in
        let no_clusters : wanted_by x s.seen ≡ 0 = sym (ap length (sym has_none.clusters ∙ h.clusters) ∙ all_so.clusters) in
        let no_number : numbered_by x s.seen ≡ false = sym (ap is_some (sym has_none.number ∙ h.number) ∙ all_so.number) in
        wanted (no_clusters, no_number)

    given_not : IsGiven x s.claims s.run s.seen → ⊥
    given_not h =
        let none : has_space k c no_space ≡ false = wants_some (events_of g s.seen.channel x) s.seen.locks s.seen.blocks (space_of s.seen) k c has_none is in
        let same : space_of s.seen ≡ no_space = λ i. record { clusters = has_none.clusters i; number = has_none.number i; short = has_none.short i } in
        absurd (let f : true ≡ false = sym h.has ∙ ap (has_space k c) same ∙ none in cc)

    served_not : IsServed x s.claims s.run s.stock s.seen → ⊥
    served_not h =
        let may : may_serve s.run.phase (is_claiming s.claims) ≡ true = λ i. may_serve ((h.run i).phase) (is_claiming (h.claims i)) in
        absurd (let f : true ≡ false = sym h.enough ∙ not_enough may in cc)

    by_rules : Rules x s.kept s.claims s.run s.stock s.seen → FallsBy now_by
    by_rules (Served h) = absurd (served_not h)
    by_rules (Given h) = absurd (given_not h)
    by_rules (Shared h) = shared_falls h
    by_rules (Fills h) = fills_fall h
    by_rules (Grabs h) = grabs_fall h
    by_rules (Filled h) = filled_falls h
    by_rules (Drains h) = drains_fall h
    by_rules (Alone h) = alone_falls h
    by_rules (Looking h) = looking_falls h
    by_rules (Taking h) = taking_falls h
    by_rules (Taken h) = absurd (taken_not h)
    by_rules (Refused h) = absurd (let f : Some h.why ≡ None = sym h.short ∙ has_none.short in cc)

    pub rules_fall : FallsBy now_by
    rules_fall = by_stand (space_now w good n s at x has free) where
      by_stand : Spaces (Some x) s.kept s.claims s.run s.stock s.seen → FallsBy now_by
      by_stand (Off h) = off_falls h
      by_stand (Back h) = absurd (calmly h.back)
      by_stand (Busy y e r) = let f : Some x ≡ Some y = e in let z : x ≡ y = cc in by_rules (subst (λ (q : Cmd). Rules q s.kept s.claims s.run s.stock s.seen) (sym z) r)

  -- ---- a give-back

  -- a command that was given what it wanted does not need it again
  pub not_again : (x : Cmd) → s.cmd ≡ Some x → waits_at w.locks n s.asked ≡ false → IsNext x s.seen (need.Space (wanted_by x s.seen) (numbered_by x s.seen)) → has_space (wanted_by x s.seen) (numbered_by x s.seen) (space_of s.seen) ≡ true → ⊥
  not_again x has free is given =
      let none : HasNoSpace (space_of s.seen) = (may_need w good n s at x has free (need.Space (wanted_by x s.seen) (numbered_by x s.seen)) is).1 in
      let wants : has_space (wanted_by x s.seen) (numbered_by x s.seen) no_space ≡ false = wants_some (events_of g s.seen.channel x) s.seen.locks s.seen.blocks (space_of s.seen) (wanted_by x s.seen) (numbered_by x s.seen) none is in
      let same : space_of s.seen ≡ no_space = λ i. record { clusters = none.clusters i; number = none.number i; short = none.short i } in
      absurd (let f : true ≡ false = sym given ∙ ap (has_space (wanted_by x s.seen) (numbered_by x s.seen)) same ∙ wants in cc)

  -- its command stands, and it has less to give back
  back_falls : (t : NodeState) → t.over ≡ s.over → t.past ≡ s.past → steps_of t ≡ steps_of s → return_left t.seen.geometry t.stock t.kept t.run < back_now → FallsTo t
  back_falls t over past same less = node_less w n s t at (back_on w.script n s t on over past same less)

  module _ (shared : Has s.kept (X, CR)) where
    reads : is_reader (mode_in X s.kept) ≡ true
    reads = has_reader s.kept once_kept shared

    back_at : (p : Phase) → s.run.phase ≡ p → back_now ≡ return_by g s.stock s.run p
    back_at p e = reads_left g s.stock s.kept s.run reads ∙ ap (return_by g s.stock s.run) e

  abbrev back_by : Event
  back_by = by_rule s phase.Back (space_need 0 false) (back_event st)

  back_to : (d : Bool) (o : Option PlanWrite) (l : Option ℕ) → is_writer (mode_in V ls) ≡ d → slice_get s.run.writes s.run.made ≡ o → next_give st ≡ l → back_by ≡ by_rule s phase.Back (space_need 0 false) (back_so d o l)
  back_to d o l ed eo el = λ i. by_rule s phase.Back (space_need 0 false) (back_so (ed i) (eo i) (el i))

  due_falls : IsDue s → FallsBy back_by
  due_falls due = subst FallsBy (sym (back_to false (slice_get s.run.writes s.run.made) (next_give st) (no_writer (no_claim due.off.claims)) refl refl)) (back_falls (turned (claiming s phase.Back V PW)) refl refl same less) where
    ph : s.run.phase ≡ phase.Off
    ph = ap (λ (y : SpaceRun). y.phase) due.off.run

    same : steps_of (turned (claiming s phase.Back V PW)) ≡ steps_of s
    same = let a = rules_at phase.Off ph in omega arith

    most : (b : Bool) (k : ℕ) → cond b (1 + min 60 k) 0 ≤ 61
    most true k = omega arith
    most false k = omega arith

    less : return_left g s.stock (without V ls) (record s.run { phase = phase.Back }) < back_now
    less = let a = back_at due.shared phase.Off ph in let b = most (is_reader (mode_in X (without V ls))) (give_left g s.stock (record s.run { phase = phase.Back })) in omega arith

  giving_falls : waits_at w.locks n s.claims ≡ false → IsGivingBack s.kept s.claims s.run s.stock s.seen → FallsBy back_by
  giving_falls granted h = by_put_now (slice_get s.run.writes s.run.made) refl h.goes where
    was : rules_now ≡ 0
    was = rules_at phase.Back h.back

    had : back_now ≡ 1 + min 60 (give_left g s.stock s.run)
    had = back_at h.shared phase.Back h.back

    looks : (lbn : ℕ) (b : Block) (es : List Cached) (reads_so hits : ℕ) → s.run.writes ≡ [] → next_give st ≡ Some lbn → FallsTo (space_seen_so s 0 false lbn b es reads_so hits)
    looks lbn b es reads_so hits none next = subst (λ (p : Phase). FallsTo (come lbn b es reads_so hits (decision_in p g (more lbn b es reads_so hits) (roomless s.stock) (space_need 0 false)))) (sym h.back) (by_give (give_place g s.stock.clusters s.stock.numbers (s.run.looked ++ (lbn, b) ∷ []))) where
      goes : (d : Decision) → d.phase ≡ phase.Back → length d.writes ≤ 17 → FallsTo (come lbn b es reads_so hits d)
      goes d e few = back_falls (come lbn b es reads_so hits d) refl refl
          (let a = was in
          let c = come_steps lbn b es reads_so hits d in
          let z : rule_steps g s.stock s.claims (run_of lbn b es reads_so hits d) d.phase ≡ 0 = ap (rule_steps g s.stock s.claims (run_of lbn b es reads_so hits d)) e in
          omega arith)
          (let a = had in
          let c = come_back lbn b es reads_so hits d in
          let l = give_less lbn b es reads_so hits d few none next in
          let m = give_now none in
          let z : return_left g s.stock s.kept (run_of lbn b es reads_so hits d) ≡ 1 + min 60 (give_left g s.stock (run_of lbn b es reads_so hits d))
          = reads_left g s.stock s.kept (run_of lbn b es reads_so hits d) (reads h.shared) ∙ ap (return_by g s.stock (run_of lbn b es reads_so hits d)) e in
          omega arith)

      by_give : (o : Option ℕ) → FallsTo (come lbn b es reads_so hits (give_by phase.Back g (s.run.looked ++ (lbn, b) ∷ []) (roomless s.stock) o))
      by_give (Some l) = goes (looks_on phase.Back) refl (omega arith)
      by_give None = goes (decides phase.Back (give_writes g s.stock.clusters s.stock.numbers (s.run.looked ++ (lbn, b) ∷ []))) refl (back_few g s.stock.clusters s.stock.numbers (s.run.looked ++ (lbn, b) ∷ []) geo)

    returns : FallsBy event.Return
    returns = back_falls (turned (returning s)) refl refl (let a = was in omega arith)
        (let a = had in let z = none_left g s.stock (without X (s.kept ++ (V, NL) ∷ [])) no_run (no_reader (without X (s.kept ++ (V, NL) ∷ [])) (λ i. (from_without (s.kept ++ (V, NL) ∷ []) X (X, CR) i).1 refl)) in omega arith)

    by_next : (o : Option ℕ) → next_give st ≡ o → slice_get s.run.writes s.run.made ≡ None → IsGoingBack g s.stock s.run → FallsBy back_by
    by_next (Some l) e none (LooksOn more writes made) = subst FallsBy (sym (back_to true None (Some l) (writer_now h.claims) none e)) (look_turns 0 false l (λ b es reads_so hits. looks l b es reads_so hits writes e))
    by_next (Some l) e none (WritesBack back) = absurd (let f : Some l ≡ None = sym e ∙ back.all in cc)
    by_next None e none goes = subst FallsBy (sym (back_to true None None (writer_now h.claims) none e)) returns

    by_put_now : (o : Option PlanWrite) → slice_get s.run.writes s.run.made ≡ o → IsGoingBack g s.stock s.run → FallsBy back_by
    by_put_now None e goes = by_next (next_give st) refl e goes
    by_put_now (Some v) e (LooksOn more writes made) = absurd (let f : Some v ≡ None = sym e ∙ none_at s.run.writes s.run.made writes in cc)
    by_put_now (Some v) e (WritesBack back) = subst FallsBy (sym (back_to true (Some v) (next_give st) (writer_now h.claims) e refl ∙ ap by_put e))
        (back_falls (wrote v) refl refl
        (let a = was in
        let c = wrote_steps v in
        let z : rule_steps g (stock_after v) s.claims run_after s.run.phase ≡ 0 = ap (rule_steps g (stock_after v) s.claims run_after) h.back in
        omega arith)
        (let a = had in
        let c = wrote_back v in
        let p = writes_so s.stock s.run v refl e in
        let q = writes_so (stock_after v) run_after v refl e in
        let f = write_few back in
        let i = write_within s.run.writes s.run.made v e in
        let z : return_left g (stock_after v) s.kept run_after ≡ 1 + min 60 (give_left g (stock_after v) run_after)
        = reads_left g (stock_after v) s.kept run_after (reads h.shared) ∙ ap (return_by g (stock_after v) run_after) h.back in
        omega arith))

  back_phase : s.run.phase ≡ phase.Back → Spaces s.cmd s.kept s.claims s.run s.stock s.seen → IsGivingBack s.kept s.claims s.run s.stock s.seen
  back_phase e (Off h) = absurd (let f : phase.Off ≡ phase.Back = sym (ap (λ (y : SpaceRun). y.phase) h.run) ∙ e in cc)
  back_phase e (Back h) = h
  back_phase e (Busy x f r) = absurd (at_work x s r (inr e))

  pub backs_fall : waits_at w.locks n s.claims ≡ false → gives_back w n s ≡ true → FallsBy (by_back s)
  backs_fall granted gives = by_phase s.run.phase refl gives where
    by_phase : (p : Phase) → s.run.phase ≡ p → gives_back_in w n s p ≡ true → FallsBy (by_back s)
    by_phase phase.Off e due = due_falls (due_is w good n s at on e due)
    by_phase phase.Fill e due = absurd (let f : false ≡ true = due in cc)
    by_phase phase.Drain e due = absurd (let f : false ≡ true = due in cc)
    by_phase phase.Last e due = absurd (let f : false ≡ true = due in cc)
    by_phase phase.Back e due = giving_falls granted (back_phase e its.space)
