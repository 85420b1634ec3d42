-- Turns in rotation come to an end within those of a run, and to one: after it nothing changes.
use Rattle.std.proofs.Common.{◌≡◌, ◌≤◌, ◌<◌, ◌+◌, ◌-◌, ℕ, zero, suc, true, false, Option, Some, None, length, refl, sym, ap, subst, ◌∙◌, inl, inr, arith}
use Rattle.std.proofs.lemmas.Bool.{false≢true, cases_lt}
use Rattle.core_state.specs.Worlds.{Plain}
use Rattle.core_state.specs.Goods.{Good, IsAccepted}
use Rattle.core_state.specs.Deaths.{after_step}
use Rattle.core_state.specs.Events.{is_over}
use Rattle.core_state.specs.Ends.{AllOver}
use Rattle.core_ends.specs.Turns.{IsEnough}
use Rattle.run_engine.specs.Walks.{first_from, or_first, next_from, Rotation, with_turn, after_next, rotation, rotated, budget_of}
use Rattle.run_engine.proofs.Enough.{enough_at_first, enough_after, over_at_last}
use Rattle.run_engine.proofs.Rotating.{found_within, next_found, none_next, rotation_none, rotation_more}
use Rattle.run_engine.proofs.Staying.{step_stays}

-- ---- nothing changes once every node is over

alive_next : (w : Plain) (from n : ℕ) → next_from w from ≡ Some n → is_over w n ≡ false
unfolding next_from
alive_next w from n e = by (first_from w from (length w.nodes + 1 - from)) refl e where
  by : (o : Option ℕ) → first_from w from (length w.nodes + 1 - from) ≡ o → or_first o (first_from w 1 (length w.nodes)) ≡ Some n → is_over w n ≡ false
  by (Some m) is f = let h : m ≡ n = cc in (found_within w from (length w.nodes + 1 - from) n (is ∙ ap Some h)).alive
  by None is f = (found_within w 1 (length w.nodes) n f).alive

turn_fixed : (r : Rotation) → AllOver r.world → (o : Option ℕ) → next_from r.world r.from ≡ o → with_turn r o ≡ r
turn_fixed r over None e = refl
turn_fixed r over (Some n) e = absurd (false≢true (sym (alive_next r.world r.from n e) ∙ over n))

next_fixed : (r : Rotation) → AllOver r.world → after_next r ≡ r
unfolding after_next
next_fixed r over = turn_fixed r over (next_from r.world r.from) refl

rotation_fixed : (j k : ℕ) (r : Rotation) → AllOver (rotation k r).world → rotation (j + k) r ≡ rotation k r
unfolding rotation
rotation_fixed zero k r over = let e : 0 + k ≡ k = omega arith in ap (λ i. rotation i r) e
rotation_fixed (suc j) k r over =
    let e : suc j + k ≡ suc (j + k) = omega arith in
    let same = rotation_fixed j k r over in
    ap (λ i. rotation i r) e ∙ (ap after_next same ∙ next_fixed (rotation k r) over)

-- so two ends are one
one_after : (k l : ℕ) (w : Plain) → k ≤ l → AllOver (rotated k 1 w) → rotated l 1 w ≡ rotated k 1 w
one_after k l w le over =
    let r : Rotation = record { world = w; from = 1 } in
    let e : (l - k) + k ≡ l = omega arith in
    ap (λ j. (rotation j r).world) (sym e) ∙ ap (λ (x : Rotation). x.world) (rotation_fixed (l - k) k r over)

pub one_end : (k l : ℕ) (w : Plain) → AllOver (rotated k 1 w) → AllOver (rotated l 1 w) → rotated k 1 w ≡ rotated l 1 w
one_end k l w over other = elim (cases_lt k l) [
  | inl lt ↦ sym (one_after k l w (omega arith) over)
  | inr le ↦ one_after l k w le other
]

-- ---- the end comes

-- k turns have led to a world that keeps the rules, for which the turns that are left are enough
record IsUnderWay (budget k : ℕ) (old w : Plain) (from : ℕ) : Type 0 where
  at : rotation k (record { world = old; from = 1 }) ≡ record { world = w; from = from }
  good : Good w
  accepted : IsAccepted w.opening
  low : 1 ≤ from
  top : from ≤ length w.nodes + 1
  enough : IsEnough (budget - k) w from

pub record EndsWithin (budget : ℕ) (old : Plain) : Type 0 where
  pub turns : ℕ
  pub few : turns ≤ budget
  pub over : AllOver (rotated turns 1 old)

module _ (keeps : (w : Plain) (n : ℕ) → Good w → Good (after_step w n)) (budget : ℕ) (old : Plain) where
  ended : (k : ℕ) (w : Plain) (from : ℕ) → k ≤ budget → IsUnderWay budget k old w from → AllOver w → EndsWithin budget old
  ended k w from few h over = record { turns = k; few = few; over = subst AllOver (sym (ap (λ (r : Rotation). r.world) h.at)) over }

  next_way : (k : ℕ) (w : Plain) (from n : ℕ) → k < budget → IsUnderWay budget k old w from → next_from w from ≡ Some n → IsUnderWay budget (k + 1) old (after_step w n) (n + 1)
  next_way k w from n lt h next =
      let found = next_found w from n h.low next in
      let stays = step_stays w n in
      let good = keeps w n h.good in
      let accepted : IsAccepted (after_step w n).opening = subst IsAccepted (sym stays.opening) h.accepted in
      let count : length (after_step w n).nodes ≡ length w.nodes = stays.count in
      let to = found.to in
      record {
        at = rotation_more k (record { world = old; from = 1 }) w from n (after_step w n) h.at (sym next) refl;
        good = good;
        accepted = accepted;
        low = omega arith;
        top = omega (arith, to, count);
        enough = enough_after budget k w from n (after_step w n) lt h.low h.top (sym next) refl h.good good accepted h.enough;
      }

  to_end : (left k : ℕ) (w : Plain) (from : ℕ) → k + left ≡ budget → IsUnderWay budget k old w from → EndsWithin budget old
  to_end zero k w from e h = ended k w from (omega arith) h (over_at_last budget k w from (omega arith) h.enough)
  to_end (suc left) k w from e h = by (next_from w from) refl (λ n way. to_end left (k + 1) (after_step w n) (n + 1) (omega arith) way) where
    by : (o : Option ℕ) → next_from w from ≡ o → ((n : ℕ) → IsUnderWay budget (k + 1) old (after_step w n) (n + 1) → EndsWithin budget old) → EndsWithin budget old
    by None none on = ended k w from (omega arith) h (none_next w from none)
    by (Some n) next on = on n (next_way k w from n (omega arith) h next)

pub ends_within : ((w : Plain) (n : ℕ) → Good w → Good (after_step w n)) → (w : Plain) → Good w → IsAccepted w.opening → EndsWithin (budget_of w) w
ends_within keeps w good accepted =
    to_end keeps (budget_of w) w (budget_of w) 0 w 1 (omega arith) (record {
      at = rotation_none (record { world = w; from = 1 });
      good = good;
      accepted = accepted;
      low = omega arith;
      top = omega arith;
      enough = enough_at_first w (budget_of w) refl good accepted;
    })
