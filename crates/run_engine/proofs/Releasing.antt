-- A command keeps its locks until the turn that appends its entry, and gives them back in that turn.
use Rattle.std.proofs.Common.{◌≡◌, ◌∙◌, ◌⊎◌, ◌++◌, ℕ, Bool, true, false, cond, [], ◌∷◌, Option, Some, None, refl, sym, ap, subst, inl, inr, append-nil}
use Rattle.plain_cat.specs.declared.mode.Mode.{Mode}
use Rattle.plain_cat.specs.declared.mode.Mode.TheVariants.{NL}
use Rattle.plain_cat.specs.declared.command.Cmd.{Cmd}
use Rattle.plain_cat.specs.declared.reply.Reply.{Reply}
use Rattle.plain_cat.specs.declared.history.Entry.TheVariants.{Done}
use Rattle.plain_rules.specs.Own.{next_command}
use Rattle.lock_db.specs.declared.name.LockName.{LockName}
use Rattle.lock_db.specs.declared.name.LockName.TheVariants.{X}
use Rattle.lock_db.specs.declared.askers.Standing.TheVariants.{Granted}
use Rattle.lock_db.specs.Laws.{stands_at}
use Rattle.base_words.specs.Lists.{Has}
use Rattle.node_locks.specs.Held.{system_of, Row, names_of, joined, StandInOrder, HoldsItsLocks}
use Rattle.node_locks.proofs.Nodes.{has_name_or_not}
use Rattle.node_locks.proofs.Standing.{asked-granted}
use Rattle.op_law.specs.declared.need.Ask.{Ask as PlanAsk}
use Rattle.op_law.specs.declared.need.Need.{Need}
use Rattle.op_law.specs.declared.need.Need.TheVariants as need
use Rattle.op_law.specs.declared.need.Plan.{Plan}
use Rattle.op_law.specs.Needs.{need_of}
use Rattle.core_state.specs.Worlds.{NodeState, Plain, node_at, with_node, rows_of, rows_in}
use Rattle.core_state.specs.Asks.{with_ask, own_of, lock_of_ask}
use Rattle.core_state.specs.Event.{Event}
use Rattle.core_state.specs.Event as event
use Rattle.core_state.specs.Events.{is_held_up, prepared_by, served_for, served_by, served, serves, serving, prepared, readied_at, readied, event_now, next_event, turned, would_go, asked_by, answering, answered_by, happens, happen_at, after_turn}
use Rattle.core_state.specs.Stores.{IsKeptLow, IsKeptX}
use Rattle.core_state.specs.Goods.{Good}
use Rattle.core_state.proofs.Nodes.{at_here}
use Rattle.core_state.proofs.Keeping.{row_of_name}
use Rattle.run_engine.specs.Releases.{asked_in, asked_at, KeepsItsLocks, GivesItsLocksBack, IsTwoPhase}

-- ---- what an event of node n, which stands as s, makes of its locks

-- the history and the command's locks stay, or one entry comes and they go; the node stands as r then
pub record Goes (v new : Plain) (n : ℕ) (s r : NodeState) : Type 0 where
  pub at : node_at new.nodes n ≡ Some r
  pub way : ((new.history ≡ v.history) × ((more : Row) × (r.asked ≡ s.asked ++ more)))
      ⊎ ((cmd : Cmd) × ((reply : Reply) × ((new.history ≡ v.history ++ Done n cmd reply ∷ []) × (r.asked ≡ []) × (r.claims ≡ []))))

module _ (v : Plain) (n : ℕ) (s : NodeState) (at : node_at v.nodes n ≡ Some s) where
  abbrev Outcome : Plain → Type 0
  Outcome new = (r : NodeState) × Goes v new n s r

  kept : (u : Plain) (r : NodeState) → u.nodes ≡ v.nodes → u.history ≡ v.history → r.asked ≡ s.asked → Outcome (with_node u n r)
  kept u r nodes same asked = (
    r,
    record {
      at = at_here u.nodes n r s (ap (λ ns. node_at ns n) nodes ∙ at);
      way = inl (same, ([], asked ∙ sym (append-nil s.asked)));
    },
  )

  grown : (u : Plain) (r : NodeState) (more : Row) → u.nodes ≡ v.nodes → u.history ≡ v.history → r.asked ≡ s.asked ++ more → Outcome (with_node u n r)
  grown u r more nodes same asked = (r, record { at = at_here u.nodes n r s (ap (λ ns. node_at ns n) nodes ∙ at); way = inl (same, (more, asked)) })

  answered : (x : Cmd) (a : Reply) → Outcome (answered_by v n s x a)
  answered x a = (turned (answering s x a), record { at = at_here v.nodes n (turned (answering s x a)) s at; way = inr (x, (a, (refl, refl, refl))) })

  -- the lock of an ask of the file system is one more
  with_more : (o : Option PlanAsk) → (more : Row) × (with_ask s.asked o ≡ s.asked ++ more)
  with_more None = ([], sym (append-nil s.asked))
  with_more (Some a) = (lock_of_ask a ∷ [], refl)

  goes : (e : Event) → Outcome (happens v n s e)
  goes event.Rest = kept v _ refl refl refl
  goes event.Stand = kept v _ refl refl refl
  goes event.Leave = kept _ _ refl refl refl
  goes (event.Lock name mode) = grown _ _ ((name, mode) ∷ []) refl refl refl
  goes (event.Look name lbn) = kept v _ refl refl refl
  goes (event.Use name lbn) = kept v _ refl refl refl
  goes (event.Fetch lbn) = kept v _ refl refl refl
  goes (event.Claim q name mode) = kept _ _ refl refl refl
  goes (event.SpaceLook clusters number lbn) = kept v _ refl refl refl
  goes (event.SpaceUse clusters number lbn) = kept v _ refl refl refl
  goes event.LowerV = kept _ _ refl refl refl
  goes event.LowerX = kept _ _ refl refl refl
  goes event.Return = kept _ _ refl refl refl
  goes event.SpaceEnd = kept v _ refl refl refl
  goes (event.SpaceWrite x) = kept _ _ refl refl refl
  goes (event.Plan q) = kept v _ refl refl refl
  goes (event.Write x) = kept _ _ refl refl refl
  goes (event.Ask x a) = by_outcome (would_go v.locks n a) where
    by_outcome : (b : Bool) → Outcome (asked_by v n s x a b)
    by_outcome true = let m = with_more (own_of (Some a)) in grown _ _ m.0 refl refl m.1
    by_outcome false = answered x a.refused
  goes (event.Answer x r) = answered x r

-- ---- before its event a node prepares, and that leaves its locks

served_asked : (s : NodeState) (cmd : Option Cmd) (plan : Option Plan) → (served_by s cmd plan).asked ≡ s.asked
served_asked s None plan = refl
served_asked s (Some x) (Some p) = refl
served_asked s (Some x) None = by_need (need_of x s.seen) where
  by_need : (q : Need) → (served_for s q).asked ≡ s.asked
  by_need (need.Lock name mode) = refl
  by_need (need.Block name lbn) = refl
  by_need (need.Bare lbn) = refl
  by_need (need.Space clusters number) = elim (serves s clusters number) as (λ b. (cond b (serving s clusters number) s).asked ≡ s.asked) [ true ↦ refl | false ↦ refl ]
  by_need (need.Ready p) = refl

begun_asked : (s : NodeState) (cmd next : Option Cmd) → (prepared_by s cmd next).asked ≡ s.asked
begun_asked s (Some x) next = refl
begun_asked s None (Some x) = refl
begun_asked s None None = refl

prepared_asked : (w : Plain) (n : ℕ) (s : NodeState) → (prepared w n s).asked ≡ s.asked
prepared_asked w n s =
    let p = prepared_by s s.cmd (next_command w.script n w.history) in
    elim (is_held_up w n s) as (λ b. (cond b s (served p)).asked ≡ s.asked) [ true ↦ refl | false ↦ served_asked p p.cmd p.plan ∙ begun_asked s s.cmd (next_command w.script n w.history) ]

-- ---- a turn

-- the event of a node in this world
abbrev turn_from : Plain → ℕ → Plain
turn_from v n = happen_at v n (node_at v.nodes n) (event_now v n)

-- what a node's file system holds after its entry
low_after : (new : Plain) (n : ℕ) (r : NodeState) → Good new → node_at new.nodes n ≡ Some r → r.asked ≡ [] → r.claims ≡ []
    → (name : LockName) (mode : Mode) → stands_at name (system_of n) new.locks ≡ Some (Granted mode) → (mode ≡ NL) ⊎ (name ≡ X)
low_after new n r good at asked claims name mode granted = by_name (has_name_or_not (names_of (joined (rows_of r))) name) where
  holds : HoldsItsLocks new.locks n (rows_of r)
  holds = subst (λ (o : Option NodeState). HoldsItsLocks new.locks n (rows_in o)) at (good.locked.1 n)

  by_kept : IsKeptLow (name, mode) ⊎ IsKeptX r.run.phase (name, mode) → (mode ≡ NL) ⊎ (name ≡ X)
  by_kept (inl low) = inl low.1
  by_kept (inr x) = inr x.0

  by_row : Has (names_of r.kept) name ⊎ (Has (names_of r.asked) name ⊎ Has (names_of r.claims) name) → (mode ≡ NL) ⊎ (name ≡ X)
  by_row (inl k) = by_kept ((good.nodes n r at).store.kept (name, mode) (asked-granted new.locks n r.kept name mode holds.in_order.0 k granted))
  by_row (inr (inl a)) = absurd (subst (λ (ls : Row). Has (names_of ls) name) asked a)
  by_row (inr (inr c)) = absurd (subst (λ (ls : Row). Has (names_of ls) name) claims c)

  by_name : Has (names_of (joined (rows_of r))) name ⊎ (Has (names_of (joined (rows_of r))) name → ⊥) → (mode ≡ NL) ⊎ (name ≡ X)
  by_name (inl h) = by_row (row_of_name r name h)
  by_name (inr absent) = absurd (let e : None ≡ Some (Granted mode) = sym (holds.no_other name absent) ∙ granted in cc)

turn_goes : (w v new : Plain) (n : ℕ) (s p : NodeState) → Good new → node_at w.nodes n ≡ Some s → v.history ≡ w.history → p.asked ≡ s.asked → (r : NodeState) × Goes v new n p r
    → KeepsItsLocks w new n ⊎ GivesItsLocksBack w new n
turn_goes w v new n s p good at same asked (r, g) = by_way g.way where
  before : asked_at w n ≡ s.asked
  before = ap asked_in at

  after : asked_at new n ≡ r.asked
  after = ap asked_in g.at

  by_way : ((new.history ≡ v.history) × ((more : Row) × (r.asked ≡ p.asked ++ more))) ⊎ ((cmd : Cmd) × ((reply : Reply) × ((new.history ≡ v.history ++ Done n cmd reply ∷ []) × (r.asked ≡ []) × (r.claims ≡ []))))
      → KeepsItsLocks w new n ⊎ GivesItsLocksBack w new n
  by_way (inl k) = inl (record { history = k.0 ∙ same; more = k.1.0; asked = after ∙ k.1.1 ∙ ap (λ (ls : Row). ls ++ k.1.0) (asked ∙ sym before) })
  by_way (inr a) = inr (record {
    cmd = a.0;
    reply = a.1.0;
    history = a.1.1.0 ∙ ap (λ h. h ++ Done n a.0 a.1.0 ∷ []) same;
    asked = after ∙ a.1.1.1;
    low = low_after new n r good g.at a.1.1.1 a.1.1.2;
  })

pub turns_are_two_phase : (w : Plain) (n : ℕ) → Good w → Good (after_turn w n) → IsTwoPhase w n
turns_are_two_phase w n good good_new = by_node (node_at w.nodes n) refl where
  nothing : node_at w.nodes n ≡ None → after_turn w n ≡ w
  nothing e =
      let same : readied w n ≡ w = ap (λ o. readied_at w n o) e in
      let none : node_at (readied w n).nodes n ≡ None = ap (λ (v : Plain). node_at v.nodes n) same ∙ e in
      ap (λ o. happen_at (readied w n) n o (next_event w n)) none ∙ same

  by_node : (o : Option NodeState) → node_at w.nodes n ≡ o → IsTwoPhase w n
  by_node None e = record {
    standing = subst (λ (ls : Row). StandInOrder w.locks n ls) (sym (ap asked_in e)) tt;
    turn = inl (record {
      history = ap (λ (v : Plain). v.history) (nothing e);
      more = [];
      asked = ap (λ (v : Plain). asked_at v n) (nothing e) ∙ sym (append-nil (asked_at w n));
    });
  }
  by_node (Some s) e =
      let p = prepared w n s in
      let v = with_node w n p in
      let holds : HoldsItsLocks w.locks n (rows_of s) = subst (λ (o : Option NodeState). HoldsItsLocks w.locks n (rows_in o)) e (good.locked.1 n) in
      let at_v : node_at v.nodes n ≡ Some p = at_here w.nodes n p s e in
      let is : after_turn w n ≡ happens v n p (event_now v n) = ap (λ o. turn_from (readied_at w n o) n) e ∙ ap (λ o. happen_at v n o (event_now v n)) at_v in
      let goes_on = goes v n p at_v (event_now v n) in
      record {
        standing = subst (λ (ls : Row). StandInOrder w.locks n ls) (sym (ap asked_in e)) holds.in_order.1.0;
        turn = turn_goes w v (after_turn w n) n s p good_new e refl (prepared_asked w n s) (subst (λ (u : Plain). (r : NodeState) × Goes v u n p r) (sym is) goes_on);
      }
