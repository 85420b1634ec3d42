-- The event of a node's rules for space, as it is found.
use Rattle.std.proofs.Common.{◌≡◌, ℕ, Bool, true, false, cond, Option, Some, None, slice_get, refl, sym, ap, ◌∙◌}
use Rattle.std.specs.Prelude.{not}
use Rattle.base_words.specs.Fields.{Block}
use Rattle.lock_db.specs.declared.name.LockName.{LockName}
use Rattle.lock_db.specs.declared.name.LockName.TheVariants.{X, V}
use Rattle.plain_cat.specs.declared.mode.Mode.{Mode}
use Rattle.plain_cat.specs.declared.mode.Mode.TheVariants.{CR, PW, EX}
use Rattle.node_locks.specs.Held.{system_of}
use Rattle.node_locks.specs.Taking.{taken_now}
use Rattle.op_law.specs.declared.need.PlanWrite.{PlanWrite}
use Rattle.extent_cache.specs.Takings.{holds_enough}
use Rattle.core_space.specs.declared.outcome.Search.{Search}
use Rattle.core_space.specs.declared.outcome.Search.TheVariants as search
use Rattle.core_space.specs.Answering.{answer, blocks_alone}
use Rattle.core_space.specs.declared.run.Phase.{Phase}
use Rattle.core_space.specs.declared.run.Phase.TheVariants as phase
use Rattle.core_space.specs.declared.run.SpaceNeed.{SpaceNeed}
use Rattle.core_space.specs.declared.event.SpaceEvent.{SpaceEvent}
use Rattle.core_space.specs.declared.event.SpaceEvent.TheVariants as space
use Rattle.core_space.specs.Rule.{is_shared, is_exclusive, is_writer, put_of, after_writes, after_looks, next_fill, next_give, by_search, fill_event, event_in, space_event, back_event}
use Rattle.core_state.specs.Worlds.{NodeState, Plain, node_at}
use Rattle.core_state.specs.Event as event
use Rattle.core_state.specs.Events.{space_state, turned, claiming, happens, happen}
use Rattle.core_state.proofs.Nodes.{at_here}
use Rattle.core_step.specs.Moving.{IsClaimable, IsPut}
use Rattle.core_step.specs.Spaces.{write_of}
use Rattle.core_step.specs.Turns.{is_claim_queued_in, told}
use Rattle.core_step.specs.declared.turns.Turn.TheVariants as turn
use Rattle.core_step.specs.declared.turns.Kind.TheVariants as kind
use Rattle.core_step.proofs.Steps.{happen_here}

-- ---- a write that comes next is the next of those that were decided on

module _ (s : NodeState) (lbn : ℕ) (b : Block) where
  abbrev put : SpaceEvent
  put = space.Put lbn b

  by_write : (o : Option PlanWrite) → slice_get s.run.writes s.run.made ≡ o → (e : SpaceEvent) → (e ≡ put → ⊥) → after_writes (put_of o) e ≡ put → IsPut s lbn b
  by_write None at e other is = absurd (other is)
  by_write (Some v) at e other is =
      let f : space.Put v.lbn v.block ≡ space.Put lbn b = is in
      let g : v.lbn ≡ lbn = cc in
      let h : v.block ≡ b = cc in
      record { write = v; next = at; to = g; block = h }

  written : (e : SpaceEvent) → (e ≡ put → ⊥) → after_writes (put_of (slice_get s.run.writes s.run.made)) e ≡ put → IsPut s lbn b
  written e other is = by_write (slice_get s.run.writes s.run.made) refl e other is

  not_look : (o : Option ℕ) (e : SpaceEvent) → (e ≡ put → ⊥) → after_looks o e ≡ put → ⊥
  not_look None e other is = other is
  not_look (Some l) e other is = absurd (let f : space.Look l ≡ space.Put lbn b = is in cc)

  not_search : (r : Search) → by_search r ≡ put → ⊥
  not_search (search.Look l) is = absurd (let f : space.Look l ≡ space.Put lbn b = is in cc)
  not_search (search.Short r) is = absurd (let f : space.Short r ≡ space.Put lbn b = is in cc)
  not_search (search.Take ws) is = absurd (let f : space.Enough ≡ space.Put lbn b = is in cc)

  behind_v : (t : Bool) (e : SpaceEvent) → (e ≡ put → IsPut s lbn b) → cond (not t) (space.Ask V PW) e ≡ put → IsPut s lbn b
  behind_v true e go is = go is
  behind_v false e go is = absurd (let f : space.Ask V PW ≡ space.Put lbn b = is in cc)

  behind_x : (m : Mode) (t : Bool) (e : SpaceEvent) → (e ≡ put → IsPut s lbn b) → cond (not t) (space.Ask X m) e ≡ put → IsPut s lbn b
  behind_x m true e go is = go is
  behind_x m false e go is = absurd (let f : space.Ask X m ≡ space.Put lbn b = is in cc)

  by_give : (last : SpaceEvent) → (last ≡ put → ⊥) → after_writes (put_of (slice_get s.run.writes s.run.made)) (after_looks (next_give (space_state s)) last) ≡ put → IsPut s lbn b
  by_give last other is = written (after_looks (next_give (space_state s)) last) (not_look (next_give (space_state s)) last other) is

  pub back_puts : back_event (space_state s) ≡ put → IsPut s lbn b
  back_puts is = behind_v (is_writer (space_state s).locks.v) (after_writes (put_of (slice_get s.run.writes s.run.made)) (after_looks (next_give (space_state s)) space.Return))
      (by_give space.Return (λ e. absurd (let f : space.Return ≡ space.Put lbn b = e in cc))) is

  by_fill : (need : SpaceNeed) → fill_event (space_state s) need ≡ put → IsPut s lbn b
  by_fill need is =
      let last = after_looks (next_fill (space_state s) need) space.LowerV in
      let rest = after_writes (put_of (slice_get s.run.writes s.run.made)) last in
      behind_x CR (is_shared (space_state s).locks.x) (cond (not (is_writer (space_state s).locks.v)) (space.Ask V PW) rest)
      (behind_v (is_writer (space_state s).locks.v) rest (written last (not_look (next_fill (space_state s) need) space.LowerV (λ e. absurd (let f : space.LowerV ≡ space.Put lbn b = e in cc))))) is

  by_enough : (need : SpaceNeed) (t : Bool) → cond t space.Enough (fill_event (space_state s) need) ≡ put → IsPut s lbn b
  by_enough need true is = absurd (let f : space.Enough ≡ space.Put lbn b = is in cc)
  by_enough need false is = by_fill need is

  by_phase : (need : SpaceNeed) (p : Phase) → event_in p (space_state s) need ≡ put → IsPut s lbn b
  by_phase need phase.Off is = by_enough need (holds_enough need.clusters need.number (space_state s).stock) is
  by_phase need phase.Fill is = by_fill need is
  by_phase need phase.Drain is = by_give space.LowerX (λ e. absurd (let f : space.LowerX ≡ space.Put lbn b = e in cc)) is
  by_phase need phase.Last is =
      let found = answer (space_state s).geometry need.clusters need.number (blocks_alone s.run.looked) in
      let rest = after_writes (put_of (slice_get s.run.writes s.run.made)) (by_search found) in
      behind_x EX (is_exclusive (space_state s).locks.x) (cond (not (is_writer (space_state s).locks.v)) (space.Ask V PW) rest)
      (behind_v (is_writer (space_state s).locks.v) rest (written (by_search found) (not_search found))) is
  by_phase need phase.Back is = back_puts is

  pub space_puts : (need : SpaceNeed) → space_event (space_state s) need ≡ put → IsPut s lbn b
  space_puts need is = by_phase need s.run.phase is

-- the write that is made is the next one
pub put_write : (s : NodeState) (lbn : ℕ) (b : Block) (p : IsPut s lbn b) (v : PlanWrite) → write_of (Some s) ≡ Some v → p.write ≡ v
put_write s lbn b p v e = let f : Some p.write ≡ Some v = sym p.next ∙ e in cc

-- ---- what a claim answers

pub claim_told : (w : Plain) (n : ℕ) (s : NodeState) → node_at w.nodes n ≡ Some s → (p : Phase) (name : LockName) (mode : Mode) → IsClaimable w n name mode → (t : Bool) → taken_now name (system_of n) mode w.locks ≡ t
    → (new : Plain) → new ≡ happen w n (event.Claim p name mode) → told new n (event.Claim p name mode) ≡ cond (not t) turn.Waiting (turn.Moved kind.Locked)
claim_told w n s at p name mode may t goes new e =
    let q : NodeState = turned (claiming s p name mode) in
    let v : Plain = happens w n s (event.Claim p name mode) in
    let there : node_at v.nodes n ≡ Some q = at_here w.nodes n q s at in
    let queued : is_claim_queued_in v n (node_at v.nodes n) ≡ not t = ap (is_claim_queued_in v n) there ∙ may.waits ∙ ap not goes in
    ap (λ y. told y n (event.Claim p name mode)) (e ∙ sym (happen_here w n s (event.Claim p name mode) at)) ∙ ap (λ b. cond b turn.Waiting (turn.Moved kind.Locked)) queued
