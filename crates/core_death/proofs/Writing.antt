-- Whether the next event of a node is a write.
use Rattle.std.proofs.Common.{◌≡◌, ◌≤◌, ◌<◌, ◌⊎◌, ◌||◌, ℕ, zero, suc, Bool, true, false, cond, List, [], ◌∷◌, Option, Some, None, length, slice_get, refl, sym, ap, subst, ◌∙◌, inl, inr, arith}
use Rattle.std.specs.Prelude.{◌&&◌, nat_lt}
use Rattle.std.proofs.lemmas.Bool.Decides.{nat_tests}
use Rattle.lock_db.specs.declared.name.LockName.{LockName}
use Rattle.lock_db.specs.declared.name.LockName.TheVariants.{V}
use Rattle.plain_cat.specs.declared.command.Cmd.{Cmd}
use Rattle.plain_cat.specs.declared.reply.Reply.{Reply}
use Rattle.plain_rules.specs.Own.{next_command}
use Rattle.node_locks.specs.Held.{Row, HoldsItsLocks, joined, names_of}
use Rattle.base_words.specs.Lists.{Once}
use Rattle.extent_cache.specs.Takings.{holds_enough}
use Rattle.op_law.specs.declared.need.Need.{Need}
use Rattle.op_law.specs.declared.need.Need.TheVariants as need
use Rattle.op_law.specs.declared.need.Plan.{Plan}
use Rattle.op_law.specs.declared.need.PlanWrite.{PlanWrite}
use Rattle.op_law.specs.declared.need.Ask.{Ask as PlanAsk}
use Rattle.op_law.specs.Needs.{need_of}
use Rattle.core_space.specs.declared.event.SpaceEvent.{SpaceEvent}
use Rattle.core_space.specs.declared.event.SpaceEvent.TheVariants as space
use Rattle.core_space.specs.declared.run.Phase.{Phase}
use Rattle.core_space.specs.declared.run.Phase.TheVariants as phase
use Rattle.core_space.specs.declared.run.SpaceNeed.{SpaceNeed}
use Rattle.core_space.specs.declared.run.SpaceRun.{SpaceRun}
use Rattle.core_space.specs.Rule.{space_event, back_event}
use Rattle.core_state.specs.Worlds.{NodeState, Plain, node_at, with_node, rows_of, rows_in}
use Rattle.core_state.specs.Stocks.{roomless}
use Rattle.core_state.specs.Asks.{is_claiming, writes_by}
use Rattle.core_state.specs.Searches.{wanted_by, numbered_by, NeedsSpace, Rules, Served, Given, Shared, Fills, Grabs, Filled, Drains, Alone, Looking, Taking, Taken, Refused, Spaces, Off, Back, Busy}
use Rattle.core_state.specs.Goods.{HasCommand, IsNode, Good}
use Rattle.core_state.specs.Event.{Event}
use Rattle.core_state.specs.Event as event
use Rattle.core_state.specs.Events.{space_need, space_state, phase_begun, may_serve, serves, by_rule, by_put, by_space, by_need, by_end, by_write, by_plan, by_command, by_back, by_turn, gives_back, gives_back_in, stands, event_of, event_now, is_out, is_over, is_over_in, serving, served_for, served_by, served, is_held_up, prepared, prepared_by, has_current, or_use, next_event, is_write}
use Rattle.core_state.proofs.Nodes.{at_here}
use Rattle.core_state.proofs.Preparing.{rests_prepared, has_prepared, readied_is, readied_same}
use Rattle.core_state.proofs.Comes.{Moves, ClaimsX, ClaimsV, ClaimsBehind, ClaimsAlone, ClaimsLast, FillLook, DrainLook, LastLook, FillWrite, DrainWrite, LastWrite, Lowers, Drained, moves_so, BackMoves, BackClaims, BackLooks, BackWrites, Returns, back_moves_so}
use Rattle.core_death.specs.Seats.{has_space_write, has_write_in, has_write, has_next}

-- ---- whether a write is left

is_less : (a b : ℕ) → a < b → nat_lt a b ≡ true
is_less a b lt = grind (arith, nat_tests)

is_not : (a b : ℕ) → b ≤ a → nat_lt a b ≡ false
is_not a b le = grind (arith, nat_tests)

is_all : (a b : ℕ) → a ≡ b → nat_lt a b ≡ false
is_all a b e = is_not a b (omega arith)

within : (ws : List PlanWrite) (k : ℕ) (v : PlanWrite) → slice_get ws k ≡ Some v → k < length ws
within [] k v e = absurd (let f : None ≡ Some v = e in cc)
within (w ∷ ws) zero v e = omega arith
within (w ∷ ws) (suc k) v e = let lt = within ws k v e in omega arith

beyond : (ws : List PlanWrite) (k : ℕ) → slice_get ws k ≡ None → length ws ≤ k
beyond [] k e = omega arith
beyond (w ∷ ws) zero e = absurd (let f : Some w ≡ None = e in cc)
beyond (w ∷ ws) (suc k) e = let le = beyond ws k e in omega arith

none_left : (ws : List PlanWrite) (k : ℕ) → nat_lt k (length ws) ≡ false → slice_get ws k ≡ None
none_left ws k e = by_write (slice_get ws k) refl where
  by_write : (o : Option PlanWrite) → slice_get ws k ≡ o → o ≡ None
  by_write None f = refl
  by_write (Some v) f = absurd (let g : true ≡ false = sym (is_less k (length ws) (within ws k v f)) ∙ e in cc)

some_left : (ws : List PlanWrite) (k : ℕ) (v : PlanWrite) → slice_get ws k ≡ Some v → nat_lt k (length ws) ≡ true
some_left ws k v e = is_less k (length ws) (within ws k v e)

nothing_left : (ws : List PlanWrite) (k : ℕ) → slice_get ws k ≡ None → nat_lt k (length ws) ≡ false
nothing_left ws k e = is_not k (length ws) (beyond ws k e)

-- ---- where none is left, no event is a write

no_rule : (s : NodeState) (p : Phase) (k : SpaceNeed) (e : SpaceEvent) → slice_get s.run.writes s.run.made ≡ None → is_write (by_rule s p k e) ≡ false
no_rule s p k space.Enough none = refl
no_rule s p k (space.Ask name mode) none = refl
no_rule s p k space.LowerX none = refl
no_rule s p k (space.Look lbn) none = refl
no_rule s p k (space.Put lbn b) none = ap (λ o. is_write (by_put o)) none
no_rule s p k space.LowerV none = refl
no_rule s p k space.Return none = refl
no_rule s p k (space.Short r) none = refl

no_space_write : (s : NodeState) (k : ℕ) (number b : Bool) → slice_get s.run.writes s.run.made ≡ None
    → is_write (cond b event.SpaceEnd (by_rule s (phase_begun s.run.phase) (space_need k number) (space_event (space_state s) (space_need k number)))) ≡ false
no_space_write s k number true none = refl
no_space_write s k number false none = no_rule s (phase_begun s.run.phase) (space_need k number) (space_event (space_state s) (space_need k number)) none

no_need : (s : NodeState) (next : Need) → slice_get s.run.writes s.run.made ≡ None → is_write (by_need s next) ≡ false
no_need s (need.Lock name mode) none = refl
no_need s (need.Block name lbn) none = refl
no_need s (need.Bare lbn) none = refl
no_need s (need.Space k number) none = no_space_write s k number (serves s k number) none
no_need s (need.Ready p) none = refl

no_end : (x : Cmd) (r : Reply) (tried : Bool) (o : Option PlanAsk) → is_write (by_end x r tried o) ≡ false
no_end x r tried None = refl
no_end x r true (Some a) = refl
no_end x r false (Some a) = refl

no_command : (s : NodeState) (o : Option Cmd) → s.plan ≡ None → slice_get s.run.writes s.run.made ≡ None → is_write (by_command s o) ≡ false
no_command s None plan none = refl
no_command s (Some x) plan none = ap (λ p. is_write (by_plan x s p)) plan ∙ no_need s (need_of x s.seen) none

no_turn : (s : NodeState) (gives : Bool) → s.plan ≡ None → slice_get s.run.writes s.run.made ≡ None → is_write (by_turn s gives) ≡ false
no_turn s true plan none = no_rule s phase.Back (space_need 0 false) (back_event (space_state s)) none
no_turn s false plan none = no_command s s.cmd plan none

-- no look is a write, whether it is a use of a cached block or not
no_use : (b : Bool) (name : LockName) (lbn : ℕ) → is_write (cond b (event.Use name lbn) (event.Look name lbn)) ≡ false
no_use true name lbn = refl
no_use false name lbn = refl

no_space_use : (b : Bool) (k : ℕ) (c : Bool) (lbn : ℕ) → is_write (cond b (event.SpaceUse k c lbn) (event.SpaceLook k c lbn)) ≡ false
no_space_use true k c lbn = refl
no_space_use false k c lbn = refl

use_write : (w : Plain) (s : NodeState) (e : Event) → is_write (or_use w s e) ≡ is_write e
use_write w s event.Rest = refl
use_write w s event.Stand = refl
use_write w s event.Leave = refl
use_write w s (event.Lock name mode) = refl
use_write w s (event.Look name lbn) = no_use (has_current w s name lbn) name lbn
use_write w s (event.Use name lbn) = refl
use_write w s (event.Fetch lbn) = refl
use_write w s (event.Claim p name mode) = refl
use_write w s (event.SpaceLook k c lbn) = no_space_use (has_current w s V lbn) k c lbn
use_write w s (event.SpaceUse k c lbn) = refl
use_write w s (event.SpaceWrite v) = refl
use_write w s event.LowerV = refl
use_write w s event.LowerX = refl
use_write w s event.Return = refl
use_write w s event.SpaceEnd = refl
use_write w s (event.Plan p) = refl
use_write w s (event.Write v) = refl
use_write w s (event.Ask x a) = refl
use_write w s (event.Answer x r) = refl

no_event : (out held gives : Bool) (w : Plain) (s : NodeState) → s.plan ≡ None → slice_get s.run.writes s.run.made ≡ None → is_write (cond out event.Rest (cond held event.Stand (or_use w s (by_turn s gives)))) ≡ false
no_event true held gives w s plan none = refl
no_event false true gives w s plan none = refl
no_event false false gives w s plan none = use_write w s (by_turn s gives) ∙ no_turn s gives plan none

-- a node has decided on nothing, and its rules for space have nothing to write
record IsQuiet (s : NodeState) : Type 0 where
  pub plan : s.plan ≡ None
  pub none : slice_get s.run.writes s.run.made ≡ None

-- so it stands once it has prepared for its event
begun_quiet : (s : NodeState) (o next : Option Cmd) → IsQuiet s → IsQuiet (prepared_by s o next)
begun_quiet s (Some x) next q = q
begun_quiet s None None q = q
begun_quiet s None (Some x) q = record { plan = q.plan; none = q.none }

given_quiet : (s : NodeState) (k : ℕ) (number b : Bool) → IsQuiet s → IsQuiet (cond b (serving s k number) s)
given_quiet s k number true q = record { plan = q.plan; none = q.none }
given_quiet s k number false q = q

needed_quiet : (s : NodeState) (next : Need) → IsQuiet s → IsQuiet (served_for s next)
needed_quiet s (need.Lock name mode) q = q
needed_quiet s (need.Block name lbn) q = q
needed_quiet s (need.Bare lbn) q = q
needed_quiet s (need.Space k number) q = given_quiet s k number (serves s k number) q
needed_quiet s (need.Ready p) q = q

served_quiet : (s : NodeState) (o : Option Cmd) (plan : Option Plan) → IsQuiet s → IsQuiet (served_by s o plan)
served_quiet s (Some x) None q = needed_quiet s (need_of x s.seen) q
served_quiet s (Some x) (Some p) q = q
served_quiet s None plan q = q

prepared_quiet : (s r : NodeState) (held : Bool) → IsQuiet s → IsQuiet r → IsQuiet (cond held s (served r))
prepared_quiet s r true q k = q
prepared_quiet s r false q k = served_quiet r r.cmd r.plan k

-- ---- whether the rules for space write

module _ (w : Plain) (good : Good w) (n : ℕ) (s : NodeState) (at : node_at w.nodes n ≡ Some s) where
  me : IsNode w n s
  me = good.nodes n s at

  once : Once (names_of (joined (rows_of s)))
  once = has_rows.once where
    has_rows : HoldsItsLocks w.locks n (rows_of s)
    has_rows = subst (λ (rs : List Row). HoldsItsLocks w.locks n rs) (ap rows_in at) (good.locked.1 n)

  none_begun : (made : ℕ) (ws : List PlanWrite) → made ≡ 0 → ws ≡ [] → nat_lt made (length ws) ≡ false
  none_begun made ws e f = λ i. nat_lt (e i) (length (f i))

  -- they have nothing to write, or its command needs space that the stock does not serve
  abbrev Asks : Cmd → Type 0
  Asks x = NeedsSpace x s.seen × (serves s (wanted_by x s.seen) (numbered_by x s.seen) ≡ false)

  rules_ask : (x : Cmd) → Rules x s.kept s.claims s.run s.stock s.seen → (has_space_write s ≡ false) ⊎ Asks x
  rules_ask x (Served h) = inl (ap (λ (r : SpaceRun). nat_lt r.made (length r.writes)) h.run)
  rules_ask x (Given h) = inl (ap (λ (r : SpaceRun). nat_lt r.made (length r.writes)) h.run)
  rules_ask x (Shared h) = inl (ap (λ (r : SpaceRun). nat_lt r.made (length r.writes)) h.run)
  rules_ask x (Fills h) = inl (none_begun s.run.made s.run.writes h.made h.writes)
  rules_ask x (Grabs h) = inr (h.filling.needs, λ i. may_serve (h.filling.fill i) (is_claiming (h.filling.claims i)) && holds_enough (wanted_by x s.seen) (numbered_by x s.seen) (roomless s.stock))
  rules_ask x (Filled h) = inl (is_all s.run.made (length s.run.writes) h.all)
  rules_ask x (Drains h) = inr (h.needs, λ i. may_serve (h.drain i) (is_claiming s.claims) && holds_enough (wanted_by x s.seen) (numbered_by x s.seen) (roomless s.stock))
  rules_ask x (Alone h) = inl (ap (λ (r : SpaceRun). nat_lt r.made (length r.writes)) h.run)
  rules_ask x (Looking h) = inl (none_begun s.run.made s.run.writes h.made h.writes)
  rules_ask x (Taking h) = inr (h.needs, λ i. may_serve (h.found.claimed_so.last i) (is_claiming s.claims) && holds_enough (wanted_by x s.seen) (numbered_by x s.seen) (roomless s.stock))
  rules_ask x (Taken h) = inl (is_all s.run.made (length s.run.writes) h.all)
  rules_ask x (Refused h) = inl (none_begun s.run.made s.run.writes h.made h.writes)

  spaces_ask : (s.run.phase ≡ phase.Back → ⊥) → Spaces s.cmd s.kept s.claims s.run s.stock s.seen → (has_space_write s ≡ false) ⊎ ((x : Cmd) × (s.cmd ≡ Some x) × Asks x)
  spaces_ask calmly (Off h) = inl (ap (λ (r : SpaceRun). nat_lt r.made (length r.writes)) h.run)
  spaces_ask calmly (Back h) = absurd (calmly h.back)
  spaces_ask calmly (Busy x e r) = elim (rules_ask x r) [ inl none ↦ inl none | inr a ↦ inr (x, e, a) ]

  -- what comes is a write where one is left
  moves_write : (x : Cmd) (e : Event) → Moves w good n s at once x e → has_space_write s ≡ is_write e
  moves_write x e (ClaimsX off lacks shared is) = ap (λ (r : SpaceRun). nat_lt r.made (length r.writes)) off.run ∙ sym (ap is_write is)
  moves_write x e (ClaimsV off lacks shared is) = ap (λ (r : SpaceRun). nat_lt r.made (length r.writes)) off.run ∙ sym (ap is_write is)
  moves_write x e (ClaimsBehind h is) = ap (λ (r : SpaceRun). nat_lt r.made (length r.writes)) h.run ∙ sym (ap is_write is)
  moves_write x e (ClaimsAlone run claims kept empty is) = ap (λ (r : SpaceRun). nat_lt r.made (length r.writes)) run ∙ sym (ap is_write is)
  moves_write x e (ClaimsLast run claims empty is) = ap (λ (r : SpaceRun). nat_lt r.made (length r.writes)) run ∙ sym (ap is_write is)
  moves_write x e (FillLook h lbn next is) = none_begun s.run.made s.run.writes h.made h.writes ∙ sym (ap is_write is)
  moves_write x e (DrainLook h writes made lbn next is) = none_begun s.run.made s.run.writes made writes ∙ sym (ap is_write is)
  moves_write x e (LastLook h lbn next is) = none_begun s.run.made s.run.writes h.made h.writes ∙ sym (ap is_write is)
  moves_write x e (FillWrite h v next is) = some_left s.run.writes s.run.made v next ∙ sym (ap is_write is)
  moves_write x e (DrainWrite h back v next is) = some_left s.run.writes s.run.made v next ∙ sym (ap is_write is)
  moves_write x e (LastWrite h v next is) = some_left s.run.writes s.run.made v next ∙ sym (ap is_write is)
  moves_write x e (Lowers h is) = is_all s.run.made (length s.run.writes) h.all ∙ sym (ap is_write is)
  moves_write x e (Drained h back none is) = nothing_left s.run.writes s.run.made none ∙ sym (ap is_write is)

  back_write : (e : Event) → BackMoves w good n s at once e → has_space_write s ≡ is_write e
  back_write e (BackClaims due is) = ap (λ (r : SpaceRun). nat_lt r.made (length r.writes)) due.off.run ∙ sym (ap is_write is)
  back_write e (BackLooks h writes made lbn next is) = none_begun s.run.made s.run.writes made writes ∙ sym (ap is_write is)
  back_write e (BackWrites h back v next is) = some_left s.run.writes s.run.made v next ∙ sym (ap is_write is)
  back_write e (Returns h back none is) = nothing_left s.run.writes s.run.made none ∙ sym (ap is_write is)

  -- ---- the event of the node

  abbrev by_tests : Bool → Bool → Bool → Event
  by_tests out held gives = cond out event.Rest (cond held event.Stand (or_use w s (by_turn s gives)))

  event_same : prepared w n s ≡ s → next_event w n ≡ by_tests (is_out s) (stands w n s) (gives_back w n s)
  event_same is = ap (λ v. event_now v n) (readied_same w n s at is) ∙ ap (event_of w n) at

  out_is : is_over w n ≡ is_out s
  out_is = ap is_over_in at

  -- one that has nothing to write makes none
  quiet_writes : IsQuiet s → is_write (next_event w n) ≡ false
  quiet_writes q =
      let r : NodeState = prepared w n s in
      let quiet : IsQuiet r = prepared_quiet s (prepared_by s s.cmd (next_command w.script n w.history)) (is_held_up w n s) q (begun_quiet s s.cmd (next_command w.script n w.history) q) in
      ap (λ v. is_write (event_now v n)) (readied_is w n s r at refl)
      ∙ ap (λ o. is_write (event_of (with_node w n r) n o)) (at_here w.nodes n r s at)
      ∙ no_event (is_out r) (stands (with_node w n r) n r) (gives_back (with_node w n r) n r) (with_node w n r) r quiet.plan quiet.none

  -- one that is over makes none
  pub over_writes : is_over w n ≡ true → false ≡ is_write (next_event w n)
  over_writes over =
      let e : is_out s ≡ true = sym out_is ∙ over in
      sym (ap is_write (event_same (rests_prepared w n s (ap (λ b. b || (gives_back w n s || stands w n s)) e))) ∙ ap (λ b. is_write (by_tests b (stands w n s) (gives_back w n s))) e)

  held_so : (a b c : Bool) → c ≡ true → (a || (b || c)) ≡ true
  held_so true b c e = refl
  held_so false true c e = refl
  held_so false false c e = e

  -- nor does one that waits
  pub standing_writes : is_over w n ≡ false → stands w n s ≡ true → false ≡ is_write (next_event w n)
  standing_writes on held =
      let e : is_out s ≡ false = sym out_is ∙ on in
      sym (ap is_write (event_same (rests_prepared w n s (held_so (is_out s) (gives_back w n s) (stands w n s) held))) ∙ (λ i. is_write (by_tests (e i) (held i) (gives_back w n s))))

  given_so : (a b c : Bool) → b ≡ true → (a || (b || c)) ≡ true
  given_so true b c e = refl
  given_so false b c e = ap (λ t. t || c) e

  -- one that gives its stock back makes one where one is left
  giving_writes : is_over w n ≡ false → stands w n s ≡ false → gives_back w n s ≡ true → has_space_write s ≡ is_write (next_event w n)
  giving_writes on still gives =
      let e : is_out s ≡ false = sym out_is ∙ on in
      back_write (by_back s) (back_moves_so w good n s at once e gives)
      ∙ sym (use_write w s (by_back s))
      ∙ sym (ap is_write (event_same (rests_prepared w n s (given_so (is_out s) (gives_back w n s) (stands w n s) gives))) ∙ (λ i. is_write (by_tests (e i) (still i) (gives i))))

  -- ---- a node that goes on

  module _ (on : is_out s ≡ false) (still : stands w n s ≡ false) (gives : gives_back w n s ≡ false) where
    calmly : s.run.phase ≡ phase.Back → ⊥
    calmly f = absurd (let g : true ≡ false = sym (ap (gives_back_in w n s) f) ∙ gives in cc)

    held : is_held_up w n s ≡ false
    held = λ i. on i || (gives i || still i)

    event_on : (x : Cmd) → s.cmd ≡ Some x → served s ≡ s → next_event w n ≡ or_use w s (by_plan x s s.plan)
    event_on x has same = event_same (has_prepared w n s x held has ∙ same) ∙ (λ i. by_tests (on i) (still i) (gives i)) ∙ ap (λ o. or_use w s (by_command s o)) has

    by_space_now : s.plan ≡ None → (x : Cmd) → s.cmd ≡ Some x → Asks x → has_space_write s ≡ is_write (next_event w n)
    by_space_now plan x has asks =
        let k : ℕ = wanted_by x s.seen in
        let b : Bool = numbered_by x s.seen in
        let wants : need_of x s.seen ≡ need.Space k b = asks.0.next in
        let same : served s ≡ s = (λ i. served_by s (has i) (plan i)) ∙ ap (served_for s) wants ∙ ap (λ t. cond t (serving s k b) s) asks.1 in
        moves_write x (by_space s k b) (moves_so w good n s at once x asks.0 asks.1 calmly (subst (λ (o : Option Cmd). Spaces o s.kept s.claims s.run s.stock s.seen) has me.space))
        ∙ sym (use_write w s (by_space s k b))
        ∙ sym (ap is_write (event_on x has same ∙ ap (λ p. or_use w s (by_plan x s p)) plan ∙ ap (λ o. or_use w s (by_need s o)) wants))

    quiet_now : s.plan ≡ None → has_space_write s ≡ false → has_space_write s ≡ is_write (next_event w n)
    quiet_now plan none = none ∙ sym (quiet_writes (record { plan = plan; none = none_left s.run.writes s.run.made none }))

    unplanned : s.plan ≡ None → has_space_write s ≡ is_write (next_event w n)
    unplanned plan = elim (spaces_ask calmly me.space) [ inl none ↦ quiet_now plan none | inr a ↦ by_space_now plan a.0 a.1 a.2 ]

    abbrev writes : Plan → List PlanWrite
    writes p = writes_by p.ask s.tried p.writes

    planned : (x : Cmd) → s.cmd ≡ Some x → (p : Plan) → s.plan ≡ Some p → has_write_in s (Some p) ≡ is_write (next_event w n)
    planned x has p plan = by_left (slice_get (writes p) s.done) refl
        ∙ sym (use_write w s (by_plan x s (Some p)))
        ∙ sym (ap is_write (event_on x has (λ i. served_by s (has i) (plan i)) ∙ ap (λ o. or_use w s (by_plan x s o)) plan)) where
          by_left : (o : Option PlanWrite) → slice_get (writes p) s.done ≡ o → has_write_in s (Some p) ≡ is_write (by_write x p s.tried o)
          by_left None e = nothing_left (writes p) s.done e ∙ sym (no_end x p.reply s.tried p.ask)
          by_left (Some v) e = some_left (writes p) s.done v e

    by_cmd : (o : Option Cmd) → s.cmd ≡ o → HasCommand w n s o → (p : Plan) → s.plan ≡ Some p → has_write_in s (Some p) ≡ is_write (next_event w n)
    by_cmd (Some x) has i p plan = planned x has p plan
    by_cmd None has idle p plan = absurd (let f : None ≡ Some p = sym idle.plan ∙ plan in cc)

    by_made : (o : Option Plan) → s.plan ≡ o → has_write_in s o ≡ is_write (next_event w n)
    by_made None plan = unplanned plan
    by_made (Some p) plan = by_cmd s.cmd refl me.command p plan

  -- another makes one where one is left
  going_writes : is_over w n ≡ false → stands w n s ≡ false → gives_back w n s ≡ false → has_write s ≡ is_write (next_event w n)
  going_writes on still gives = by_made (sym out_is ∙ on) still gives s.plan refl

  -- both
  pub next_writes : is_over w n ≡ false → stands w n s ≡ false → (gives : Bool) → gives_back w n s ≡ gives → has_next gives s ≡ is_write (next_event w n)
  next_writes on still true gives = giving_writes on still gives
  next_writes on still false gives = going_writes on still gives
