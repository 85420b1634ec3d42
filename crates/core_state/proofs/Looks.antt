-- A look by the rules for space of a command: it keeps the invariant, whatever the rules come to by it.
use Rattle.std.proofs.Common.{◌≡◌, ◌<◌, ◌++◌, ◌⊎◌, ◌==◌, ℕ, Bool, true, false, cond, List, [], ◌∷◌, Option, Some, None, is_some, length, take, slice_get, refl, sym, ap, subst, ◌∙◌, inl, inr, arith}
use Rattle.std.specs.Prelude.{slice_index_or}
use Rattle.base_words.specs.Fields.{Block}
use Rattle.lock_db.specs.declared.name.LockName.{LockName}
use Rattle.lock_db.specs.declared.name.LockName.TheVariants.{V}
use Rattle.plain_cat.specs.declared.mode.Mode.TheVariants.{PR, PW}
use Rattle.plain_cat.specs.declared.command.Cmd.{Cmd}
use Rattle.plain_cat.specs.declared.cat.Cat.{Cat}
use Rattle.node_locks.specs.Held.{Row, names_of, waits_at}
use Rattle.base_words.specs.Lists.{Has, Touches, StandsIn}
use Rattle.vol_spell.specs.Owners.{Things, nothing, Outs}
use Rattle.base_words.proofs.ListWrites.{touches_joined, stands_joined}
use Rattle.base_words.proofs.Listing.{has_first}
use Rattle.vol_parts.specs.declared.geometry.Geometry.{Geometry}
use Rattle.vol_under.specs.Guards.{Lock, guard_of, MayLook}
use Rattle.vol_under.specs.UnderWay.{UnderWay, together, changed}
use Rattle.vol_under.specs.Under.{IsUnder}
use Rattle.vol_under.specs.Keeping.{IsBitmap}
use Rattle.op_law.specs.declared.need.PlanWrite.{PlanWrite}
use Rattle.op_law.specs.declared.seen.Seen.{Seen}
use Rattle.op_law.specs.Events.{space_of}
use Rattle.op_law.specs.Needs.{events_of}
use Rattle.op_law.specs.Fits.{things, HasSeen}
use Rattle.op_law.specs.Laws.{held_in, takes_lock}
use Rattle.core_space.specs.Searching.{Found, More, Short, Enough, places, found}
use Rattle.core_space.specs.Taking.{looked}
use Rattle.core_space.specs.Answering.{answered, blocks_alone}
use Rattle.core_space.proofs.Taken.{number_is_new}
use Rattle.core_space.specs.declared.run.Phase.{Phase}
use Rattle.core_space.specs.declared.run.Phase.TheVariants as phase
use Rattle.core_space.specs.declared.event.Decision.{Decision}
use Rattle.core_space.specs.Filling.{clusters_to_take, fill_place, filled}
use Rattle.core_space.specs.Giving.{give_place, give_writes}
use Rattle.core_space.specs.Rule.{looks_on, decides, give_by, fill_or_give, fill_by, search_by, decision_in}
use Rattle.core_state.specs.Worlds.{NodeState, Plain, node_at, with_node, rows_of}
use Rattle.node_cache.specs.Cached.{Cached}
use Rattle.core_state.specs.Committed.{IsUnderOn}
use Rattle.core_state.specs.Asks.{is_claiming, writes_now}
use Rattle.core_state.specs.Small.{lent, owed_in, owed}
use Rattle.core_state.specs.Stocks.{roomless, things_in, unwritten, taken_in, taken_by, stock_now, looked_now}
use Rattle.core_state.specs.Searches.{wanted_by, numbered_by, lacks_by, IsFilling, FillLooks, IsGoingBack, LooksOn, WritesBack, IsDraining, HasClaimed, IsLooking, Rules, Fills, Grabs, Drains, Looking, Taking, Refused, Busy}
use Rattle.core_state.specs.Stores.{AreKept, HasStore, IsCachedAt, HasFewNumbers}
use Rattle.core_state.specs.Goods.{under_with, nodes_under, IsAt, IsNode, Good, held_by}
use Rattle.core_state.specs.Events.{turned, space_need, told_by, looked_on, space_decided, decision_on}
use Rattle.core_state.proofs.StockSizes.{few_stays, few_none}
use Rattle.core_state.proofs.Holding.{is_in_held, held_weaker}
use Rattle.core_state.proofs.Running.{claims_held, at_locks}
use Rattle.core_state.proofs.Taking.{becomes, is_committed}
use Rattle.core_state.proofs.SmallWorlds.{owes_same}
use Rattle.core_state.proofs.Beginning.{alone, stays_stocked}
use Rattle.core_state.proofs.Seeking.{part_stands, part_touches, all_left, left_of, next_in_order, wants_some, some_writes, refused_why}
use Rattle.core_state.proofs.Wants.{wants_alike}
use Rattle.core_state.proofs.Standing.{none_taken}
use Rattle.core_state.proofs.Turning.{take_none, my_sole, under_command, here, drive, back, outs_now, seen_now, guards_now, stocked_now, is_node, goes, not_yet, plan_stays, asks_now, asks_then, no_wait, no_writes_now, me}
use Rattle.core_state.proofs.Serving.{no_number}
use Rattle.core_state.proofs.Claims.{keeps_on, owed_at}
use Rattle.core_state.proofs.Fillings.{fill_at, fill_some}
use Rattle.core_state.proofs.Givings.{give_once, give_under}

-- before the first write nothing is taken
pub taken_zero : (p : Phase) (ws : List PlanWrite) → taken_by p ws 0 ≡ nothing
taken_zero p ws = by_test (0 == length ws) p where
  by_test : (b : Bool) (q : Phase) → cond b nothing (taken_in q ws 0) ≡ nothing
  by_test true q = refl
  by_test false phase.Off = refl
  by_test false phase.Fill = refl
  by_test false phase.Drain = refl
  by_test false phase.Last = refl
  by_test false phase.Back = refl

pub some_is : (o : Option ℕ) (k : ℕ) → o ≡ Some k → is_some o ≡ true
some_is o k e = ap is_some e

-- a node whose rules for space have come to this by what they have looked at, with this cache and these counts
abbrev pub come_so : NodeState → List (ℕ × Block) → Decision → List Cached → ℕ → ℕ → NodeState
come_so s looks d es reads hits = turned (record (space_decided s looks d) { cache = es; reads = reads; hits = hits })

-- by a look at one block more
abbrev pub space_seen_so : NodeState → ℕ → Bool → ℕ → Block → List Cached → ℕ → ℕ → NodeState
space_seen_so s k c lbn b es reads hits = come_so s (looked_on s.run lbn b).looked (decision_on s k c lbn b) es reads hits

module _ (w : Plain) (good : Good w) (n : ℕ) (s : NodeState) (at : node_at w.nodes n ≡ Some s) (x : Cmd) (cmd : s.cmd ≡ Some x) (free : waits_at w.locks n s.asked ≡ false) (no_plan : s.plan ≡ None)
    (granted : waits_at w.locks n s.claims ≡ false) (claims : s.claims ≡ (V, PW) ∷ []) (no_writes : s.run.writes ≡ []) (not_made : s.run.made ≡ 0) where
  abbrev cat : Cat
  cat = good.running.cat

  abbrev g : Geometry
  g = s.seen.geometry

  abbrev u : UnderWay
  u = at_locks n s x (held_by w.locks n s)

  abbrev under : IsUnder g cat (nodes_under w.locks w.nodes) w.blocks
  under = drive w good n s at x cmd free

  now : IsAt w n s x
  now = under_command w good n s at x cmd free

  abbrev left : List (ℕ × Block)
  left = looked_now s.run

  pub holds : Has (held_in PW (held_by w.locks n s)) V
  holds = is_in_held PW (held_by w.locks n s) V (record { in_mode = PW; has = claims_held w.locks n s (V, PW) granted (subst (λ (ls : Row). Has ls (V, PW)) (sym claims) (inl refl)); strong = omega arith })

  -- it looks at this block, which the drive has, and its cache becomes this one
  module _ (lbn : ℕ) (b : Block) (es : List Cached) (reads hits : ℕ) (lies : (lbn < length under.base) × IsBitmap g lbn × (guard_of g under.own lbn ≡ Some (Lock V))) (there_at : slice_get w.blocks lbn ≡ Some b)
      (store : HasStore s.run.phase s.kept es) (entries : (r : NodeState) → rows_of r ≡ rows_of s → (e : Cached) → Has es e → Has s.cache e ⊎ IsCachedAt (with_node w n r) good.running.drive.own good.running.cat n r e) where
    abbrev more : List (ℕ × Block)
    more = s.run.looked ++ (lbn, b) ∷ []

    abbrev come_as : Decision → NodeState
    come_as d = come_so s more d es reads hits

    may : MayLook (held_in PR (held_by w.locks n s)) (guard_of g under.own lbn)
    may = subst (MayLook (held_in PR (held_by w.locks n s))) (sym lies.2) (held_weaker PW PR (held_by w.locks n s) V (omega arith) holds)

    stands_here : slice_get under.base lbn ≡ Some b
    stands_here =
        sym (is_committed g cat (nodes_under w.locks w.nodes) w.blocks n u (here w good n s at x cmd free) under (my_sole w good n s at x cmd free) (no_writes_now w good n s at x cmd free no_plan) lbn may)
        ∙ there_at

    old_stands : StandsIn under.base s.run.looked
    old_stands = part_stands under.base u.seen s.run.looked (λ y k. has_first left s.seen.blocks y (all_left s.run.writes s.run.made s.run.looked y no_writes k)) (seen_now w good n s at x cmd free)

    more_stands : StandsIn under.base more
    more_stands = (stands_joined under.base s.run.looked ((lbn, b) ∷ [])).1 (old_stands, (stands_here, tt))

    more_guarded : (l : ℕ) → Touches more l → MayLook (held_in PR (held_by w.locks n s)) (guard_of g under.own l)
    more_guarded l t = elim ((touches_joined s.run.looked ((lbn, b) ∷ []) l).0 t) [
      | inl k ↦ guards_now w good n s at x cmd free l (part_touches u.seen s.run.looked (λ y m. has_first left s.seen.blocks y (all_left s.run.writes s.run.made s.run.looked y no_writes m)) l k)
      | inr k ↦ elim k [ inl e ↦ subst (λ (j : ℕ). MayLook (held_in PR (held_by w.locks n s)) (guard_of g under.own j)) e may | inr f ↦ absurd f ]
    ]

    all_stand : (ws : List PlanWrite) → StandsIn under.base (unwritten ws more ++ s.seen.blocks)
    all_stand ws = (stands_joined under.base (unwritten ws more) s.seen.blocks).1
        (part_stands under.base more (unwritten ws more) (λ y k. (left_of ws more y k).0) more_stands, ((stands_joined under.base left s.seen.blocks).0 (seen_now w good n s at x cmd free)).1)

    all_guarded : (ws : List PlanWrite) (l : ℕ) → Touches (unwritten ws more ++ s.seen.blocks) l → MayLook (held_in PR (held_by w.locks n s)) (guard_of g under.own l)
    all_guarded ws l t = elim ((touches_joined (unwritten ws more) s.seen.blocks l).0 t) [
      | inl k ↦ more_guarded l (part_touches more (unwritten ws more) (λ y m. (left_of ws more y m).0) l k)
      | inr k ↦ guards_now w good n s at x cmd free l ((touches_joined left s.seen.blocks l).1 (inr k))
    ]

    stock_so : (d : Decision) → stock_now s.stock (come_as d).run ≡ stock_now s.stock s.run
    stock_so d = (λ i. together_with (taken_zero d.phase d.writes i)) ∙ sym (λ i. together_with (none_taken s.run.phase s.run.writes s.run.made no_writes not_made i)) where
      together_with : Things → Things
      together_with t = together (things_in s.stock) t

    -- the node as the look leaves it: where its rules have come to this, and it was given nothing
    left_so : (d : Decision) → things (come_as d).seen.clusters (come_as d).seen.number ≡ things s.seen.clusters s.seen.number → (come_as d).seen.blocks ≡ s.seen.blocks
        → (HasFewNumbers s → HasFewNumbers (come_as d)) → owed (come_as d) ≡ owed s → IsNode (with_node w n (come_as d)) n (come_as d) → Good (with_node w n (come_as d))
    left_so d took blocks few owes node =
        let r : NodeState = come_as d in
        let v : UnderWay = at_locks n r x (held_by w.locks n s) in
        let seen_is : unwritten (take 0 d.writes) more ++ s.seen.blocks ≡ v.seen = ap (λ ss. unwritten (take 0 d.writes) more ++ ss) (sym blocks) in
        let outs : Outs n under.own v.took v.stock = subst (λ (k : Things). Outs n under.own v.took k) (sym (stock_so d)) (subst (λ (k : Things). Outs n under.own k (stock_now s.stock s.run)) (sym took) (outs_now w good n s at x cmd free)) in
        let drive_now = becomes g cat (nodes_under w.locks w.nodes) w.blocks n u (here w good n s at x cmd free) under (no_writes_now w good n s at x cmd free no_plan) v (no_writes_now w good n s at x cmd free no_plan) (not_yet w good n s at x cmd free no_plan) outs
        (subst (StandsIn under.base) seen_is (all_stand (take 0 d.writes)))
        (subst (λ (ss : List (ℕ × Block)). (l : ℕ) → Touches ss l → MayLook (held_in PR (held_by w.locks n s)) (guard_of g under.own l)) seen_is (all_guarded (take 0 d.writes))) in
        let there : v ≡ under_with w.locks n r r.cmd = ap (under_with w.locks n r) (sym cmd) in
        alone w good n s at r refl (λ part o low. refl) refl (owes_same s r owes refl) (stays_stocked s r took (stock_so d) (λ h. h) few (stocked_now w good n s at x cmd free))
        (subst (λ (k : UnderWay). IsUnderOn w.geometry cat good.running.drive.base good.running.drive.own (changed (nodes_under w.locks w.nodes) n k) w.blocks) there (back w good n s at x cmd free v w.blocks drive_now))
        (ap (λ (ws : List PlanWrite). ws ++ take s.done (writes_now s.tried s.plan)) (sym (ap (λ (ws : List PlanWrite). take s.run.made ws) no_writes ∙ take_none s.run.made))) (entries r refl) node

    -- it goes on with what it needs
    goes_so : (d : Decision) → d.short ≡ None → AreKept d.phase s.kept → owed (come_as d) ≡ owed s → Rules x s.kept s.claims (come_as d).run s.stock s.seen → Good (with_node w n (come_as d))
    goes_so d none keeps owes rules =
        let r : NodeState = come_as d in
        let same : told_by d.short s.seen ≡ s.seen = ap (λ o. told_by o s.seen) none in
        left_so d (ap (λ (k : Seen). things k.clusters k.number) same) (ap (λ (k : Seen). k.blocks) same) (few_stays s r refl same refl) owes
        (is_node w good n s at x cmd free w.locks w.blocks r refl (ap (λ (k : Seen). k.geometry) same) (ap (λ (k : Seen). k.channel) same) refl (record { kept = keeps; few = store.few; cache = store.cache; guarding = store.guarding }) (me w good n s at x cmd free).rests
        (subst (λ (k : Seen). HasSeen x k) (sym same) now.seen) (subst (λ (k : Seen). (name : LockName) → Has (names_of k.locks) name → takes_lock x name ≡ true) (sym same) now.own)
        (plan_stays w good n s at x cmd free w.locks r no_plan refl refl)
        (asks_then w good n s at x cmd free r no_plan refl (asks_now w good n s at x cmd free no_plan ∙ ap (λ (k : Seen). k.locks) (sym same)))
        (Busy x refl (subst (λ (k : Seen). Rules x s.kept s.claims r.run s.stock k) (sym same) rules))
        (no_wait w good n s at x cmd free r.seen))

    -- ---- while the stock goes back

    -- by what is left to be looked at
    back_so : (p : Phase) → AreKept p s.kept → ((d : Decision) → d.phase ≡ p → owed (come_as d) ≡ owed s)
        → ((d : Decision) → d.phase ≡ p → IsGoingBack g s.stock (come_as d).run → Rules x s.kept s.claims (come_as d).run s.stock s.seen)
        → (o : Option ℕ) → give_place g s.stock.clusters s.stock.numbers more ≡ o → Good (with_node w n (come_as (give_by p g more (roomless s.stock) o)))
    back_so p keeps owes rules (Some l) e = goes_so (looks_on p) refl keeps (owes (looks_on p) refl) (rules (looks_on p) refl (LooksOn (some_is (give_place g s.stock.clusters s.stock.numbers more) l e) refl refl))
    back_so p keeps owes rules None e =
        let d : Decision = decides p (give_writes g s.stock.clusters s.stock.numbers more) in
        goes_so d refl keeps (owes d refl) (rules d refl (WritesBack (record {
          rest = refl;
          within = omega arith;
          all = e;
          once = give_once g s.stock.clusters s.stock.numbers more under.base under.own cat under.spelt;
          locks = give_under g s.stock.clusters s.stock.numbers more;
        })))

    pub drain_look_keeps : IsDraining x s.kept s.claims s.run s.stock s.seen → (k : ℕ) (c : Bool) → Good (with_node w n (space_seen_so s k c lbn b es reads hits))
    drain_look_keeps h k c = subst (λ (p : Phase). Good (with_node w n (come_as (decision_in p g more (roomless s.stock) (space_need k c))))) (sym h.drain)
        (back_so phase.Drain (keeps_on s.run.phase phase.Drain s.kept (inl not_last) (me w good n s at x cmd free).store.kept) owes rules (give_place g s.stock.clusters s.stock.numbers more) refl) where
          not_last : s.run.phase ≡ phase.Last → ⊥
          not_last f = absurd (let z : phase.Drain ≡ phase.Last = sym h.drain ∙ f in cc)

          owes : (d : Decision) → d.phase ≡ phase.Drain → owed (come_as d) ≡ owed s
          owes d e = owed_at (come_as d) x cmd ∙ (λ i. owed_in (e i) (is_claiming s.claims) (lent s)) ∙ sym (owed_at s x cmd ∙ ap (λ p. owed_in p (is_claiming s.claims) (lent s)) h.drain)

          rules : (d : Decision) → d.phase ≡ phase.Drain → IsGoingBack g s.stock (come_as d).run → Rules x s.kept s.claims (come_as d).run s.stock s.seen
          rules d e goes_back = Drains (record { drain = e; shared = h.shared; claims = h.claims; needs = h.needs; goes = goes_back })

    -- ---- while it is filled

    pub fill_look_keeps : FillLooks x s.kept s.claims s.run s.stock s.seen → fill_place g (clusters_to_take (wanted_by x s.seen) (length s.stock.clusters)) (lacks_by x s.seen s.stock) (blocks_alone s.run.looked) ≡ Some lbn
        → Good (with_node w n (space_seen_so s (wanted_by x s.seen) (numbered_by x s.seen) lbn b es reads hits))
    fill_look_keeps h next = subst (λ (p : Phase). Good (with_node w n (come_as (decision_in p g more (roomless s.stock) (space_need (wanted_by x s.seen) (numbered_by x s.seen)))))) (sym h.filling.fill)
        (by_place (fill_place g wanted (lacks_by x s.seen s.stock) (blocks_alone more)) refl) where
          wanted : ℕ
          wanted = clusters_to_take (wanted_by x s.seen) (length s.stock.clusters)

          not_last : s.run.phase ≡ phase.Last → ⊥
          not_last f = absurd (let z : phase.Fill ≡ phase.Last = sym h.filling.fill ∙ f in cc)

          was : owed s ≡ 4
          was = owed_at s x cmd ∙ (λ i. owed_in (h.filling.fill i) (is_claiming (h.filling.claims i)) (lent s))

          owes : (p : Phase) → (p ≡ phase.Fill) ⊎ (p ≡ phase.Drain) → (d : Decision) → d.phase ≡ p → owed (come_as d) ≡ owed s
          owes p which d e = owed_at (come_as d) x cmd ∙ (λ i. owed_in (e i) (is_claiming (h.filling.claims i)) (lent s)) ∙ elim which [ inl f ↦ ap (λ q. owed_in q true (lent s)) f | inr f ↦ ap (λ q. owed_in q true (lent s)) f ] ∙ sym was

          keeps : (p : Phase) → AreKept p s.kept
          keeps p = keeps_on s.run.phase p s.kept (inl not_last) (me w good n s at x cmd free).store.kept

          in_order : more ≡ looked g 1 (lacks_by x s.seen s.stock) (blocks_alone more)
          in_order = next_in_order g 1 (lacks_by x s.seen s.stock) s.run.looked lbn b h.filling.in_order (fill_at g wanted (lacks_by x s.seen s.stock) (blocks_alone s.run.looked) lbn next)

          filling_on : (d : Decision) → d.phase ≡ phase.Fill → IsFilling x s.kept s.claims (come_as d).run (lacks_by x s.seen s.stock) s.seen
          filling_on d e = record { fill = e; shared = h.filling.shared; claims = h.filling.claims; needs = h.filling.needs; in_order = in_order }

          by_filled : (o : Option (List PlanWrite)) → filled g (wanted_by x s.seen) (length s.stock.clusters) (lacks_by x s.seen s.stock) (blocks_alone more) ≡ o → Good (with_node w n (come_as (fill_or_give g more (roomless s.stock) o)))
          by_filled (Some ws) e =
              let d : Decision = decides phase.Fill ws in
              goes_so d refl (keeps phase.Fill) (owes phase.Fill (inl refl) d refl) (Grabs (record {
                filling = filling_on d refl;
                enough = e;
                part = fill_some g (wanted_by x s.seen) (numbered_by x s.seen) s.stock (blocks_alone more) ws h.lacking e;
              }))
          by_filled None e = back_so phase.Drain (keeps phase.Drain) (owes phase.Drain (inr refl)) rules (give_place g s.stock.clusters s.stock.numbers more) refl where
            rules : (d : Decision) → d.phase ≡ phase.Drain → IsGoingBack g s.stock (come_as d).run → Rules x s.kept s.claims (come_as d).run s.stock s.seen
            rules d f goes_back = Drains (record { drain = f; shared = h.filling.shared; claims = h.filling.claims; needs = h.filling.needs; goes = goes_back })

          by_place : (o : Option ℕ) → fill_place g wanted (lacks_by x s.seen s.stock) (blocks_alone more) ≡ o → Good (with_node w n (come_as (fill_by g more (roomless s.stock) (space_need (wanted_by x s.seen) (numbered_by x s.seen)) o)))
          by_place (Some l) e =
              let d : Decision = looks_on phase.Fill in
              goes_so d refl (keeps phase.Fill) (owes phase.Fill (inl refl) d refl) (Fills (record {
                filling = filling_on d refl;
                lacking = h.lacking;
                more = some_is (fill_place g wanted (lacks_by x s.seen s.stock) (blocks_alone more)) l e;
                writes = refl;
                made = refl;
              }))
          by_place None e = by_filled (filled g (wanted_by x s.seen) (length s.stock.clusters) (lacks_by x s.seen s.stock) (blocks_alone more)) refl

    -- ---- while all free space is searched

    module _ (h : IsLooking x s.kept s.claims s.run s.stock s.seen) (next : slice_get (places g (wanted_by x s.seen) (numbered_by x s.seen)) (length (blocks_alone s.run.looked)) ≡ Some lbn) where
      in_order : more ≡ looked g (wanted_by x s.seen) (numbered_by x s.seen) (blocks_alone more)
      in_order = next_in_order g (wanted_by x s.seen) (numbered_by x s.seen) s.run.looked lbn b h.claimed_so.in_order next

      claimed_on : (d : Decision) → d.phase ≡ phase.Last → HasClaimed x s.kept s.claims (come_as d).run s.stock s.seen
      claimed_on d e = record { last = e; alone = h.claimed_so.alone; claims = h.claimed_so.claims; empty = h.claimed_so.empty; come = h.claimed_so.come; in_order = in_order }

      last_owes : (d : Decision) → d.phase ≡ phase.Last → owed (come_as d) ≡ owed s
      last_owes d e = owed_at (come_as d) x cmd ∙ (λ i. owed_in (e i) (is_claiming s.claims) (lent s)) ∙ sym (owed_at s x cmd ∙ ap (λ p. owed_in p (is_claiming s.claims) (lent s)) h.claimed_so.last)

      last_kept : AreKept phase.Last s.kept
      last_kept = keeps_on s.run.phase phase.Last s.kept (inr refl) (me w good n s at x cmd free).store.kept

      by_found : (f : Found) → found g (wanted_by x s.seen) (numbered_by x s.seen) (blocks_alone more) ≡ f → (next_lbn : ℕ) → Good (with_node w n (come_as (search_by (answered next_lbn f))))
      by_found More e next_lbn =
          let d : Decision = looks_on phase.Last in
          goes_so d refl last_kept (last_owes d refl) (Looking (record { claimed_so = claimed_on d refl; needs = h.needs; more = e; writes = refl; made = refl }))
      by_found (Enough ws) e next_lbn =
          let d : Decision = decides phase.Last ws in
          goes_so d refl last_kept (last_owes d refl) (Taking (record {
            found = record {
              claimed_so = claimed_on d refl;
              enough = e;
              above = number_is_new g (wanted_by x s.seen) (numbered_by x s.seen) (blocks_alone more) ws under.base under.own cat e under.spelt (subst (StandsIn under.base) in_order more_stands) (λ m from to. good.running.system m to);
            };
            needs = h.needs;
            part = some_writes g (wanted_by x s.seen) (numbered_by x s.seen) (blocks_alone more) ws (wants_some (events_of g s.seen.channel x) s.seen.locks s.seen.blocks (space_of s.seen) (wanted_by x s.seen) (numbered_by x s.seen) h.needs.none h.needs.next) e;
            ready = refl;
          }))
      by_found (Short why) e next_lbn =
          let d : Decision = record { phase = phase.Last; writes = []; short = Some why } in
          let r : NodeState = come_as d in
          let wants_same : numbered_by x r.seen ≡ numbered_by x s.seen = wants_alike x r.seen s.seen refl refl in
          left_so d (sym (λ i. things (h.needs.none.clusters i) (h.needs.none.number i))) refl (λ f. few_none r h.claimed_so.empty) (last_owes d refl)
          (is_node w good n s at x cmd free w.locks w.blocks r refl refl refl refl (record { kept = last_kept; few = store.few; cache = store.cache; guarding = store.guarding }) (me w good n s at x cmd free).rests
          ((goes w good n s at x cmd free).refused s.seen (wanted_by x s.seen) (numbered_by x s.seen) why now.seen h.needs.next (refused_why g (wanted_by x s.seen) (numbered_by x s.seen) (blocks_alone more) why e))
          now.own (plan_stays w good n s at x cmd free w.locks r no_plan refl refl) (asks_then w good n s at x cmd free r no_plan refl (asks_now w good n s at x cmd free no_plan))
          (Busy x refl (Refused (record {
            claimed_so = record {
              last = refl;
              alone = h.claimed_so.alone;
              claims = h.claimed_so.claims;
              empty = h.claimed_so.empty;
              come = record { takes = h.claimed_so.come.takes; before = h.claimed_so.come.before; after = h.claimed_so.come.after; locks = h.claimed_so.come.locks; blocks = h.claimed_so.come.blocks; quota = h.claimed_so.come.quota; behind = λ l k. absurd (no_number s.seen.number h.needs.none.number l.0 (h.claimed_so.come.behind l k)) };
              in_order = in_order ∙ ap (λ c. looked g (wanted_by x s.seen) c (blocks_alone more)) (sym wants_same);
            };
            why = why;
            too_little = ap (λ c. found g (wanted_by x s.seen) c (blocks_alone more)) wants_same ∙ e;
            writes = refl;
            made = refl;
            clusters = refl;
            number = refl;
            short = refl;
          })))
          (no_wait w good n s at x cmd free r.seen))

      pub last_look_keeps : Good (with_node w n (space_seen_so s (wanted_by x s.seen) (numbered_by x s.seen) lbn b es reads hits))
      last_look_keeps = subst (λ (p : Phase). Good (with_node w n (come_as (decision_in p g more (roomless s.stock) (space_need (wanted_by x s.seen) (numbered_by x s.seen)))))) (sym h.claimed_so.last)
          (by_found (found g (wanted_by x s.seen) (numbered_by x s.seen) (blocks_alone more)) refl (slice_index_or (places g (wanted_by x s.seen) (numbered_by x s.seen)) (length (blocks_alone more)) 0))
