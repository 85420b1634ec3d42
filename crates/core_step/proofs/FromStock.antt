-- A node that has begun a command, and what it is given from the stock.
use Rattle.std.proofs.Common.{◌≡◌, ◌≤◌, ◌⊎◌, ℕ, Bool, true, false, cond, Option, Some, None, length, refl, sym, ap, subst, ◌∙◌, inl, inr}
use Rattle.std.specs.Prelude.{◌&&◌, ◌||◌, not, is_some, option_map, IfSome, IsSome}
use Rattle.plain_cat.specs.declared.command.Cmd.{Cmd}
use Rattle.plain_rules.specs.Lookups.{header_most}
use Rattle.vol_parts.specs.Parts.{IsGeometry}
use Rattle.op_law.specs.declared.need.Need.{Need}
use Rattle.op_law.specs.declared.need.Need.TheVariants as need
use Rattle.op_law.specs.declared.need.Plan.{Plan}
use Rattle.op_law.specs.Events.{space_of, has_space, HasNoSpace}
use Rattle.op_law.specs.Needs.{events_of, need_of, IsNext}
use Rattle.op_law.specs.Fits.{FitsSeen}
use Rattle.op_law.specs.Knows.{wanted}
use Rattle.op_law.specs.Laws.{IsSearch}
use Rattle.core_space.specs.Answering.{blocks_alone}
use Rattle.core_space.proofs.Taken.{takes_all}
use Rattle.core_space.specs.declared.run.Phase.TheVariants as phase
use Rattle.core_space.specs.declared.run.SpaceRun.{SpaceRun}
use Rattle.core_space.specs.Rule.{TakesMemory}
use Rattle.core_state.specs.Worlds.{NodeState, Plain, node_at, with_node, state_of}
use Rattle.core_state.specs.Goods.{IsAt, IsNode, Good}
use Rattle.core_state.specs.Event.{Event}
use Rattle.core_state.specs.Event as event
use Rattle.core_state.specs.Events.{space_state, serves, serving, served_for, served_by, served, by_space, by_need, gives_back_in, stands, is_held_up, plan_in, plan_at, or_use, event_now, next_event, readied, happen, after_turn}
use Rattle.core_state.specs.Searches.{wanted_by, numbered_by, NeedsSpace, HasTaken, Rules, Served, Given, Shared, Fills, Grabs, Filled, Drains, Alone, Looking, Taking, Taken, Refused}
use Rattle.core_state.proofs.Preparing.{has_prepared, readied_is}
use Rattle.core_state.proofs.Seeking.{space_wanted, wants_some, wants_nothing, no_space}
use Rattle.core_state.proofs.Serving.{so, enough_now, serve_keeps}
use Rattle.core_state.proofs.Standing.{calm}
use Rattle.core_state.proofs.Wants.{wants_alike}
use Rattle.core_state.proofs.Turning.{under_command, drive, seen_on, may_need, space_now}
use Rattle.core_state.proofs.Comes.{Moves, ClaimsX, ClaimsV, ClaimsBehind, ClaimsAlone, ClaimsLast, FillLook, DrainLook, LastLook, FillWrite, DrainWrite, LastWrite, Lowers, Drained}
use Rattle.core_step.specs.Ready.{Makes, IsBegun, IsReady, NeedsNow, LacksSpace, IsSearching, IsNotSearching, is_searching, SearchesAsNeeded, IsGivenAll}
use Rattle.core_state.specs.declared.node.Node.{Node}
use Rattle.core_state.proofs.Outside.{none_wanted}
use Rattle.core_step.specs.Spaces.{unserved}
use Rattle.core_step.specs.Moving.{CanMove}
use Rattle.core_step.specs.Memory.{takes_none}
use Rattle.core_step.proofs.Caching.{takes_or_use}
use Rattle.core_step.proofs.Steps.{is_there}
use Rattle.core_step.proofs.Ready.{need_told, fits_told, event_is, event_need}
use Rattle.core_step.proofs.Doing.{once_now, its_moves, can_move}
use Rattle.core_step.proofs.Setting.{set_at}

module _ {w : Plain} (good : Good w) {n : ℕ} (b : IsBegun w n) where
  abbrev s : NodeState
  s = b.state

  abbrev x : Cmd
  x = b.cmd

  node : IsNode w n s
  node = good.nodes n s b.at

  is_at : IsAt w n s x
  is_at = under_command w good n s b.at x b.has b.free

  pub begun_fits : FitsSeen x s.seen
  begun_fits = record {
    order = is_at.seen;
    node = n;
    blocks = (drive w good n s b.at x b.has b.free).base;
    own = (drive w good n s b.at x b.has b.free).own;
    cat = good.running.cat;
    on = seen_on w good n s b.at x b.has b.free;
  }

  pub begun_geometry : IsGeometry s.seen.geometry
  begun_geometry = (drive w good n s b.at x b.has b.free).spelt.counts.geometry

  begun_calmly : s.run.phase ≡ phase.Back → ⊥
  begun_calmly f = absurd (let g : true ≡ false = sym (ap (gives_back_in w n s) f) ∙ b.gives in cc)

  still : stands w n s ≡ false
  still = λ i. b.granted i || (not (b.gives i) && b.free i)

  held : is_held_up w n s ≡ false
  held = λ i. b.on i || (b.gives i || still i)

  -- what it searches for its command needs
  pub begun_searches : SearchesAsNeeded s
  begun_searches y k c has is = (let f : Some x ≡ Some y = sym b.has ∙ has in let e : x ≡ y = cc in subst (λ (z : Cmd). IsSearching s z k c → IsNext z s.seen (need.Space k c)) e (for_it k c) is) where
    by_needs : (k : ℕ) (c : Bool) → IsSearching s x k c → NeedsSpace x s.seen → IsNext x s.seen (need.Space k c)
    by_needs k c h needs = needs.next ∙ (λ i. need.Space (h.wants.clusters_are i) (h.wants.number_is i))

    none_is : (k : ℕ) (c : Bool) → IsSearching s x k c → space_of s.seen ≡ no_space
    none_is k c h = λ i. record { clusters = h.none.clusters i; number = h.none.number i; short = h.none.short i }

    given_not : (k : ℕ) (c : Bool) → IsSearching s x k c → has_space (wanted_by x s.seen) (numbered_by x s.seen) (space_of s.seen) ≡ true → ⊥
    given_not k c h e =
        let z = none_wanted (wanted_by x s.seen) (numbered_by x s.seen) (ap (has_space (wanted_by x s.seen) (numbered_by x s.seen)) (sym (none_is k c h)) ∙ e) in
        h.wants.some (sym h.wants.clusters_are ∙ z.0, sym h.wants.number_is ∙ z.1)

    taken_not : (k : ℕ) (c : Bool) → IsSearching s x k c → HasTaken x s.kept s.claims s.run s.stock s.seen → ⊥
    taken_not k c h t =
        let all_so = takes_all s.seen.geometry (wanted_by x s.seen) (numbered_by x s.seen) (blocks_alone s.run.looked) s.run.writes t.found.enough in
        h.wants.some (sym h.wants.clusters_are ∙ sym (ap length (sym h.none.clusters ∙ t.clusters) ∙ all_so.clusters), sym h.wants.number_is ∙ sym (ap is_some (sym h.none.number ∙ t.number) ∙ all_so.number))

    by_rules : (k : ℕ) (c : Bool) → IsSearching s x k c → Rules x s.kept s.claims s.run s.stock s.seen → IsNext x s.seen (need.Space k c)
    by_rules k c h (Served r) = by_needs k c h r.needs
    by_rules k c h (Given r) = absurd (given_not k c h r.has)
    by_rules k c h (Shared r) = by_needs k c h r.needs
    by_rules k c h (Fills r) = by_needs k c h r.filling.needs
    by_rules k c h (Grabs r) = by_needs k c h r.filling.needs
    by_rules k c h (Filled r) = by_needs k c h r.needs
    by_rules k c h (Drains r) = by_needs k c h r.needs
    by_rules k c h (Alone r) = by_needs k c h r.needs
    by_rules k c h (Looking r) = by_needs k c h r.needs
    by_rules k c h (Taking r) = by_needs k c h r.needs
    by_rules k c h (Taken r) = absurd (taken_not k c h r)
    by_rules k c h (Refused r) = absurd (let f : Some r.why ≡ None = sym r.short ∙ h.none.short in cc)

    for_it : (k : ℕ) (c : Bool) → IsSearching s x k c → IsNext x s.seen (need.Space k c)
    for_it k c h = elim (calm x s.kept s.claims s.run s.stock s.seen begun_calmly (space_now w good n s b.at x b.has b.free)) [
      | inl off ↦ absurd (let f : false ≡ true = ap (λ (r : SpaceRun). is_searching r.phase) (sym off.run) ∙ h.rules in cc)
      | inr r ↦ by_rules k c h r
    ]

  -- with a plan it is given nothing
  pub planned_served : (o : Option Plan) → is_some o ≡ true → served_by s (Some x) o ≡ s
  planned_served None e = absurd (let f : false ≡ true = e in cc)
  planned_served (Some p) e = refl

  abbrev pub ready_planned : IsSome (plan_at w n) → IsReady w n
  ready_planned made = record {
    state = s;
    at = b.at;
    cmd = x;
    has = b.has;
    on = b.on;
    gives = b.gives;
    free = b.free;
    granted = b.granted;
    served = ap (λ o. served_by s o s.plan) b.has ∙ planned_served s.plan (ap (λ o. is_some o) (sym (ap plan_in b.at)) ∙ made);
  }

  module _ (none : plan_at w n ≡ None) where
    no_plan : s.plan ≡ None
    no_plan = sym (ap plan_in b.at) ∙ none

    unserved_so : (nd : Need) → LacksSpace w n nd → served_for s nd ≡ s
    unserved_so (need.Lock name mode) l = refl
    unserved_so (need.Block name lbn) l = refl
    unserved_so (need.Bare lbn) l = refl
    unserved_so (need.Space k c) l = ap (λ t. cond t (serving s k c) s) (l s k c b.at refl)
    unserved_so (need.Ready p) l = refl

    pub nothing_served : (nd : Need) → need_of x s.seen ≡ nd → LacksSpace w n nd → served s ≡ s
    nothing_served nd e lacks = (λ i. served_by s (b.has i) (no_plan i)) ∙ ap (served_for s) e ∙ unserved_so nd lacks

    -- it is given nothing where it needs no space, or its stock is not enough
    abbrev pub ready_unserved : (nd : Need) → need_of x s.seen ≡ nd → LacksSpace w n nd → IsReady w n
    ready_unserved nd e lacks = record { state = s; at = b.at; cmd = x; has = b.has; on = b.on; gives = b.gives; free = b.free; granted = b.granted; served = nothing_served nd e lacks }

    -- ---- it is given what its stock has

    module _ (k : ℕ) (c : Bool) (is : IsNext x s.seen (need.Space k c)) (may : serves s k c ≡ true) where
      abbrev r : NodeState
      r = serving s k c

      abbrev v : Plain
      v = with_node w n r

      pub at_served : node_at v.nodes n ≡ Some r
      at_served = set_at w n s r b.at

      pub good_served : Good v
      good_served = serve_keeps w good n s b.at x b.has b.free no_plan k c is may

      -- it needs no space then
      needs_none : (j : ℕ) (d : Bool) → IsNext x r.seen (need.Space j d) → ⊥
      needs_none j d e =
          let m = (may_need v good_served n r at_served x b.has b.free (need.Space j d) e).0 in
          let its = so w good n s b.at x b.has b.free no_plan k c is may in
          let same_k : k ≡ j = its.clusters ∙ sym m.clusters_are in
          let same_c : c ≡ d = its.number ∙ wants_alike x s.seen r.seen refl refl ∙ sym m.number_is in
          let had : has_space j d (space_of r.seen) ≡ true = (λ i. has_space (sym same_k i) (sym same_c i) (space_of r.seen)) ∙ enough_now w good n s b.at x b.has b.free no_plan k c is may in
          let lacks : has_space j d (space_of r.seen) ≡ false = space_wanted (events_of r.seen.geometry r.seen.channel x) r.seen.locks r.seen.blocks (space_of r.seen) j d e in
          absurd (let f : true ≡ false = sym had ∙ lacks in cc)

      pub given_served : IsGivenAll v n
      given_served q y j d at has e =
          let f : Some r ≡ Some q = sym at_served ∙ at in
          let g : r ≡ q = cc in
          let h : Some x ≡ Some y = sym b.has ∙ ap (λ (z : NodeState). z.cmd) g ∙ has in
          let i : x ≡ y = cc in
          needs_none j d (subst (λ (z : Cmd). IsNext z r.seen (need.Space j d)) (sym i) (subst (λ (z : NodeState). IsNext y z.seen (need.Space j d)) (sym g) e))

      pub none_served : plan_at v n ≡ None
      none_served = ap plan_in at_served ∙ no_plan

      served_once : (nd : Need) → IsNext x r.seen nd → served_for r nd ≡ r
      served_once (need.Lock name mode) e = refl
      served_once (need.Block name lbn) e = refl
      served_once (need.Bare lbn) e = refl
      served_once (need.Space j d) e = absurd (needs_none j d e)
      served_once (need.Ready p) e = refl

      pub served_all : served r ≡ r
      served_all = (λ i. served_by r (b.has i) (no_plan i)) ∙ served_once (need_of x r.seen) refl

      abbrev pub ready_served : IsReady v n
      ready_served = record { state = r; at = at_served; cmd = x; has = b.has; on = b.on; gives = refl; free = b.free; granted = b.granted; served = served_all }

      readied_so : readied w n ≡ v
      readied_so = readied_is w n s r b.at (has_prepared w n s x held b.has ∙ (λ i. served_by s (b.has i) (no_plan i)) ∙ ap (served_for s) is ∙ ap (λ t. cond t r s) may)

      same_world : readied v n ≡ readied w n
      same_world = (event_is good_served ready_served).stays ∙ sym readied_so

      pub served_event : next_event v n ≡ next_event w n
      served_event = ap (λ u. event_now u n) same_world

      pub served_turn : after_turn v n ≡ after_turn w n
      served_turn = ap (λ u. happen u n (event_now u n)) same_world

      -- and its event may take memory
      pub served_takes : takes_none w.locks n (next_event w n) ≡ false
      served_takes = ap (takes_none w.locks n) (sym served_event ∙ (event_need good_served ready_served none_served (need_of x r.seen) refl).event) ∙ takes_or_use w.locks n v r (by_need r (need_of x r.seen)) ∙ by_next (need_of x r.seen) refl where
        by_next : (nd : Need) → IsNext x r.seen nd → takes_none w.locks n (by_need r nd) ≡ false
        by_next (need.Lock name mode) e = refl
        by_next (need.Block name lbn) e = refl
        by_next (need.Bare lbn) e = refl
        by_next (need.Space j d) e = absurd (needs_none j d e)
        by_next (need.Ready p) e = refl

      -- without it the node is as it was
      pub unserved_is : unserved r s.run.phase s.stock.clusters s.stock.numbers ≡ s
      unserved_is =
          let its = (so w good n s b.at x b.has b.free no_plan k c is may).needs.none in
          λ i. record s { seen = record s.seen { clusters = sym its.clusters i; number = sym its.number i; short = sym its.short i } }

-- ---- the rules for space of a node that is not given what it needs

module _ {w : Plain} (good : Good w) {n : ℕ} (r : IsReady w n) (none : plan_at w n ≡ None) (k : ℕ) (c : Bool) (is : IsNext r.cmd r.state.seen (need.Space k c)) (lacks : serves r.state k c ≡ false) where
  abbrev q : NodeState
  q = r.state

  q_plan : q.plan ≡ None
  q_plan = sym (ap plan_in r.at) ∙ none

  q_calmly : q.run.phase ≡ phase.Back → ⊥
  q_calmly f = absurd (let g : true ≡ false = sym (ap (gives_back_in w n q) f) ∙ r.gives in cc)

  q_search : IsSearch r.cmd q.seen.locks (wanted q.seen r.cmd) k c
  q_search = (may_need w good n q r.at r.cmd r.has r.free (need.Space k c) is).0

  q_none : HasNoSpace (space_of q.seen)
  q_none = (may_need w good n q r.at r.cmd r.has r.free (need.Space k c) is).1

  pub few_wanted : k ≤ header_most
  few_wanted = q_search.few

  as_wanted : need.Space k c ≡ need.Space (wanted_by r.cmd q.seen) (numbered_by r.cmd q.seen)
  as_wanted = λ i. need.Space (q_search.clusters_are i) (q_search.number_is i)

  is_wanted_so : IsNext r.cmd q.seen (need.Space (wanted_by r.cmd q.seen) (numbered_by r.cmd q.seen))
  is_wanted_so = is ∙ as_wanted

  lacks_so : serves q (wanted_by r.cmd q.seen) (numbered_by r.cmd q.seen) ≡ false
  lacks_so = (λ i. serves q (sym q_search.clusters_are i) (sym q_search.number_is i)) ∙ lacks

  same_space : by_space q k c ≡ by_space q (wanted_by r.cmd q.seen) (numbered_by r.cmd q.seen)
  same_space = λ i. by_space q (q_search.clusters_are i) (q_search.number_is i)

  -- the event can be made
  pub space_can : CanMove w n q (by_space q k c)
  space_can = subst (CanMove w n q) (sym same_space) (can_move w good n q r.at r.on r.granted r.cmd r.has r.free q_plan q_calmly is_wanted_so lacks_so)

  pub space_makes : Makes w n (or_use w q (by_space q k c))
  space_makes = event_need good r none (need.Space k c) is

  -- one that takes no memory comes in the midst of its rules alone
  midst : (e : Event) → Moves w good n q r.at (once_now w good n q r.at r.on r.granted) r.cmd e → (takes_none w.locks n e ≡ false) ⊎ (is_searching q.run.phase ≡ true)
  midst e (ClaimsX off l h f) = inl (ap (takes_none w.locks n) f)
  midst e (ClaimsV off l h f) = inl (ap (takes_none w.locks n) f)
  midst e (ClaimsBehind h f) = inl (ap (takes_none w.locks n) f)
  midst e (ClaimsAlone run claims has empty f) = inl (ap (takes_none w.locks n) f)
  midst e (ClaimsLast run claims empty f) = inl (ap (takes_none w.locks n) f)
  midst e (FillLook h lbn next f) = inl (ap (takes_none w.locks n) f)
  midst e (DrainLook h writes made lbn next f) = inl (ap (takes_none w.locks n) f)
  midst e (LastLook h lbn next f) = inl (ap (takes_none w.locks n) f)
  midst e (FillWrite h v next f) = inr (ap is_searching h.filling.fill)
  midst e (DrainWrite h back v next f) = inr (ap is_searching h.drain)
  midst e (LastWrite h v next f) = inr (ap is_searching h.found.claimed_so.last)
  midst e (Lowers h f) = inr (ap is_searching h.fill)
  midst e (Drained h back l f) = inr (ap is_searching h.drain)

  q_moves : Moves w good n q r.at (once_now w good n q r.at r.on r.granted) r.cmd (by_space q k c)
  q_moves = subst (Moves w good n q r.at (once_now w good n q r.at r.on r.granted) r.cmd) (sym same_space) (its_moves w good n q r.at r.on r.granted r.cmd r.has r.free q_plan q_calmly is_wanted_so lacks_so)

  -- where it is not in the midst of them, it may take memory
  pub midst_takes : ((j : ℕ) (d : Bool) → IsSearching q r.cmd j d → j ≤ header_most → ⊥) → takes_none w.locks n (next_event w n) ≡ false
  midst_takes not_so = ap (takes_none w.locks n) space_makes.event ∙ takes_or_use w.locks n w q (by_space q k c) ∙ elim (midst (by_space q k c) q_moves) [
    | inl e ↦ e
    | inr e ↦ absurd (not_so k c (record {
      rules = e;
      none = q_none;
      wants = record {
        takes = q_search.takes;
        clusters_are = sym q_search.clusters_are;
        number_is = sym q_search.number_is;
        some = λ z. wants_nothing c k (sym z.0) (sym z.1) (wants_some (events_of q.seen.geometry q.seen.channel r.cmd) q.seen.locks q.seen.blocks (space_of q.seen) k c q_none is);
      };
    }) few_wanted)
  ]

  -- nor where the rule itself says that it takes memory
  last_takes : TakesMemory (space_state q) → (e : Event) → Moves w good n q r.at (once_now w good n q r.at r.on r.granted) r.cmd e → takes_none w.locks n e ≡ false
  last_takes t e (ClaimsX off l h f) = ap (takes_none w.locks n) f
  last_takes t e (ClaimsV off l h f) = ap (takes_none w.locks n) f
  last_takes t e (ClaimsBehind h f) = ap (takes_none w.locks n) f
  last_takes t e (ClaimsAlone run claims has empty f) = ap (takes_none w.locks n) f
  last_takes t e (ClaimsLast run claims empty f) = ap (takes_none w.locks n) f
  last_takes t e (FillLook h lbn next f) = ap (takes_none w.locks n) f
  last_takes t e (DrainLook h writes made lbn next f) = ap (takes_none w.locks n) f
  last_takes t e (LastLook h lbn next f) = ap (takes_none w.locks n) f
  last_takes t e (FillWrite h v next f) = absurd (let z : phase.Fill ≡ phase.Last = sym h.filling.fill ∙ t.searches in cc)
  last_takes t e (DrainWrite h back v next f) = absurd (let z : phase.Drain ≡ phase.Last = sym h.drain ∙ t.searches in cc)
  last_takes t e (LastWrite h v next f) = absurd (let z : Some v ≡ None = sym next ∙ t.made in cc)
  last_takes t e (Lowers h f) = absurd (let z : phase.Fill ≡ phase.Last = sym h.fill ∙ t.searches in cc)
  last_takes t e (Drained h back l f) = absurd (let z : phase.Drain ≡ phase.Last = sym h.drain ∙ t.searches in cc)

  pub rule_takes : TakesMemory (space_state q) → takes_none w.locks n (next_event w n) ≡ false
  rule_takes t = ap (takes_none w.locks n) space_makes.event ∙ takes_or_use w.locks n w q (by_space q k c) ∙ last_takes t (by_space q k c) q_moves

-- ---- a node that has begun its command, whatever it needs

module _ {w : Plain} (good : Good w) {n : ℕ} (b : IsBegun w n) (none : plan_at w n ≡ None) where
  -- where its rules for space are not begun, its next event may take memory
  pub begun_takes : IsNotSearching b.state → takes_none w.locks n (next_event w n) ≡ false
  begun_takes not_so = by_need_of (need_of b.cmd b.state.seen) refl where
    lacks_none : (nd : Need) → ((k : ℕ) (c : Bool) → nd ≡ need.Space k c → ⊥) → LacksSpace w n nd
    lacks_none nd other q k c at e = absurd (other k c e)

    plain : (nd : Need) (e : need_of b.cmd b.state.seen ≡ nd) (other : (k : ℕ) (c : Bool) → nd ≡ need.Space k c → ⊥) → takes_none w.locks n (by_need b.state nd) ≡ false → takes_none w.locks n (next_event w n) ≡ false
    plain nd e other t = ap (takes_none w.locks n) (event_need good (ready_unserved good b none nd e (lacks_none nd other)) none nd e).event ∙ takes_or_use w.locks n w b.state (by_need b.state nd) ∙ t

    by_serves : (k : ℕ) (c : Bool) → need_of b.cmd b.state.seen ≡ need.Space k c → (t : Bool) → serves b.state k c ≡ t → takes_none w.locks n (next_event w n) ≡ false
    by_serves k c e true f = served_takes good b none k c e f
    by_serves k c e false f = midst_takes good (ready_unserved good b none (need.Space k c) e (one_state k c f)) none k c e f (λ j d h le. not_so b.cmd j d b.has h le) where
      one_state : (k : ℕ) (c : Bool) → serves b.state k c ≡ false → LacksSpace w n (need.Space k c)
      one_state k c f q j d at g =
          let h : Some b.state ≡ Some q = sym b.at ∙ at in
          let i : b.state ≡ q = cc in
          let a : k ≡ j = cc in
          let m : c ≡ d = cc in
          (λ z. serves (sym i z) (sym a z) (sym m z)) ∙ f

    by_need_of : (nd : Need) → need_of b.cmd b.state.seen ≡ nd → takes_none w.locks n (next_event w n) ≡ false
    by_need_of (need.Lock name mode) e = plain (need.Lock name mode) e (λ k c f. absurd (let z : need.Lock name mode ≡ need.Space k c = f in cc)) refl
    by_need_of (need.Block name lbn) e = plain (need.Block name lbn) e (λ k c f. absurd (let z : need.Block name lbn ≡ need.Space k c = f in cc)) refl
    by_need_of (need.Bare lbn) e = plain (need.Bare lbn) e (λ k c f. absurd (let z : need.Bare lbn ≡ need.Space k c = f in cc)) refl
    by_need_of (need.Space k c) e = by_serves k c e (serves b.state k c) refl
    by_need_of (need.Ready p) e = plain (need.Ready p) e (λ k c f. absurd (let z : need.Ready p ≡ need.Space k c = f in cc)) refl

abbrev pub begun_of : {w : Plain} {n : ℕ} → IsReady w n → IsBegun w n
begun_of r = record { state = r.state; at = r.at; cmd = r.cmd; has = r.has; on = r.on; gives = r.gives; free = r.free; granted = r.granted }

-- where its command was given all that it needs, its next event may take memory
pub given_takes : {w : Plain} (good : Good w) {n : ℕ} (r : IsReady w n) (none : plan_at w n ≡ None) → IsGivenAll w n → takes_none w.locks n (next_event w n) ≡ false
given_takes {w} good {n} r none given = by_next (need_of r.cmd r.state.seen) refl where
  by_next : (nd : Need) → need_of r.cmd r.state.seen ≡ nd → takes_none w.locks n (next_event w n) ≡ false
  by_next (need.Lock name mode) e = ap (takes_none w.locks n) (event_need good r none (need.Lock name mode) e).event
  by_next (need.Block name lbn) e = ap (takes_none w.locks n) (event_need good r none (need.Block name lbn) e).event ∙ takes_or_use w.locks n w r.state (event.Look name lbn)
  by_next (need.Bare lbn) e = ap (takes_none w.locks n) (event_need good r none (need.Bare lbn) e).event
  by_next (need.Space k c) e = absurd (given r.state r.cmd k c r.at r.has e)
  by_next (need.Ready p) e = ap (takes_none w.locks n) (event_need good r none (need.Ready p) e).event

-- ---- its item

module _ {O : Type 0} (cmd_is : O → Cmd) {w : Plain} {n : ℕ} (b : IsBegun w n) (d : Node O) (here : node_at w.nodes n ≡ Some (state_of cmd_is d)) where
  tells_begun : state_of cmd_is d ≡ b.state
  tells_begun = let f : Some (state_of cmd_is d) ≡ Some b.state = sym here ∙ b.at in cc

  op_now : option_map cmd_is d.op ≡ Some b.cmd
  op_now = ap (λ y. y.cmd) tells_begun ∙ b.has

  pub begun_op : IsSome d.op
  begun_op = is_there cmd_is d.op (ap is_some op_now)

  pub begun_op_fits : Good w → IfSome d.op (λ op. FitsSeen (cmd_is op) d.seen)
  begun_op_fits good = fits_told cmd_is d.op b.cmd d.seen op_now (subst (λ (y : NodeState). FitsSeen b.cmd y.seen) (sym tells_begun) (begun_fits good b))

  pub begun_op_geometry : Good w → IsGeometry d.seen.geometry
  begun_op_geometry good = subst (λ (y : NodeState). IsGeometry y.seen.geometry) (sym tells_begun) (begun_geometry good b)

  pub begun_op_searches : Good w → SearchesAsNeeded (state_of cmd_is d)
  begun_op_searches good = subst SearchesAsNeeded (sym tells_begun) (begun_searches good b)

  pub begun_need : (nd : Need) → IfSome d.op (λ op. need_of (cmd_is op) d.seen ≡ nd) → IsNext b.cmd b.state.seen nd
  begun_need nd e = subst (λ (y : NodeState). need_of b.cmd y.seen ≡ nd) tells_begun (need_told cmd_is d.op b.cmd d.seen nd op_now e)

  pub needs_it_now : (nd : Need) → IfSome d.op (λ op. need_of (cmd_is op) d.seen ≡ nd) → NeedsNow w n nd
  needs_it_now nd e q y at has =
      let f : Some b.state ≡ Some q = sym b.at ∙ at in
      let h : b.state ≡ q = cc in
      let c : Some b.cmd ≡ Some y = sym b.has ∙ ap (λ (z : NodeState). z.cmd) h ∙ has in
      let i : b.cmd ≡ y = cc in
      subst (λ (z : Cmd). IsNext z q.seen nd) i (subst (λ (z : NodeState). IsNext b.cmd z.seen nd) h (begun_need nd e))

  pub serves_it : (k : ℕ) (c : Bool) (t : Bool) → serves (state_of cmd_is d) k c ≡ t → (q : NodeState) → node_at w.nodes n ≡ Some q → serves q k c ≡ t
  serves_it k c t e q at = let f : Some (state_of cmd_is d) ≡ Some q = sym here ∙ at in let h : state_of cmd_is d ≡ q = cc in subst (λ (z : NodeState). serves z k c ≡ t) h e

  pub not_searching : IsNotSearching (state_of cmd_is d) → IsNotSearching b.state
  not_searching e = subst IsNotSearching tells_begun e

  pub lacks_it : (k : ℕ) (c : Bool) → serves (state_of cmd_is d) k c ≡ false → LacksSpace w n (need.Space k c)
  lacks_it k c e q j m at f =
      let a : k ≡ j = cc in
      let h : c ≡ m = cc in
      (λ i. serves q (sym a i) (sym h i)) ∙ serves_it k c false e q at
