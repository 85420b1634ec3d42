-- What a step of a node leaves as it was: the script, the opening catalogue, the places of the volume's parts; and that nodes die only
-- where the script kills them, and nothing is mended.
use Rattle.std.proofs.Common.{◌≡◌, ◌||◌, ◌++◌, not, ℕ, Bool, true, false, cond, List, [], ◌∷◌, Option, Some, None, refl, sym, ap, subst, ◌∙◌}
use Rattle.std.proofs.lemmas.List.Folds.{list_any-append}
use Rattle.plain_cat.specs.declared.command.Cmd.{Cmd}
use Rattle.plain_cat.specs.declared.reply.Reply.{Reply}
use Rattle.plain_cat.specs.declared.script.Script.{Script}
use Rattle.plain_cat.specs.declared.history.Entry.{Entry}
use Rattle.plain_cat.specs.declared.history.Entry.TheVariants.{Done}
use Rattle.plain_rules.specs.Own.{IsKill, is_mending}
use Rattle.plain_past.proofs.Growing.{killed_grows}
use Rattle.core_state.specs.Worlds.{NodeState, Plain, node_at}
use Rattle.core_state.specs.Event.{Event}
use Rattle.core_state.specs.Event as event
use Rattle.core_state.specs.Deaths.{death_of, kills_at, is_due, died_at, died, after_step}
use Rattle.core_state.specs.Events.{would_go, asked_by, answered_by, readied_at, readied, next_event, happens, happen_at, after_turn, is_over}
use Rattle.node_seat.specs.Keeping.{IsOrderly}
use Rattle.core_state.proofs.Kills.{any_kill}
use Rattle.std.proofs.lemmas.Bool.{and_parts}

pub record Follows (old new : Plain) : Type 0 where
  pub script : new.script ≡ old.script
  pub opening : new.opening ≡ old.opening
  pub geometry : new.geometry ≡ old.geometry
  pub orderly : IsOrderly old.script old.history → IsOrderly old.script new.history

-- one entry more, which is no mending
one_more : (s : Script) (h : List Entry) (e : Entry) → IsKill s e → is_mending e ≡ false → IsOrderly s h → IsOrderly s (h ++ e ∷ [])
one_more s h e kill plain o = record {
  killed = killed_grows s h e o.killed kill;
  unmended = list_any-append is_mending h (e ∷ []) ∙ ap (λ b. b || (is_mending e || false)) o.unmended ∙ ap (λ b. b || false) plain;
}

-- the history has no entry more
as_before : (old new : Plain) → new.script ≡ old.script → new.opening ≡ old.opening → new.geometry ≡ old.geometry → new.history ≡ old.history → Follows old new
as_before old new s o g h = record { script = s; opening = o; geometry = g; orderly = λ k. subst (λ (es : List Entry). IsOrderly old.script es) (sym h) k }

pub stays_still : (w : Plain) → Follows w w
stays_still w = as_before w w refl refl refl refl

pub then_follows : (a b c : Plain) → Follows a b → Follows b c → Follows a c
then_follows a b c p q = record {
  script = q.script ∙ p.script;
  opening = q.opening ∙ p.opening;
  geometry = q.geometry ∙ p.geometry;
  orderly = λ k.
      let P : Script → Type 0 = λ s. IsOrderly s b.history in
      let Q : Script → Type 0 = λ s. IsOrderly s c.history in
      subst Q p.script (q.orderly (subst P (sym p.script) (p.orderly k)));
}

answer_follows : (w : Plain) (n : ℕ) (s : NodeState) (x : Cmd) (r : Reply) → Follows w (answered_by w n s x r)
unfolding is_mending
answer_follows w n s x r = record { script = refl; opening = refl; geometry = refl; orderly = λ k. one_more w.script w.history (Done n x r) tt refl k }

event_follows : (w : Plain) (n : ℕ) (s : NodeState) (e : Event) → Follows w (happens w n s e)
event_follows w n s event.Rest = as_before w _ refl refl refl refl
event_follows w n s event.Stand = as_before w _ refl refl refl refl
event_follows w n s event.Leave = as_before w _ refl refl refl refl
event_follows w n s (event.Lock name mode) = as_before w _ refl refl refl refl
event_follows w n s (event.Look name lbn) = as_before w _ refl refl refl refl
event_follows w n s (event.Use name lbn) = as_before w _ refl refl refl refl
event_follows w n s (event.Fetch lbn) = as_before w _ refl refl refl refl
event_follows w n s (event.Claim q name mode) = as_before w _ refl refl refl refl
event_follows w n s (event.SpaceLook clusters number lbn) = as_before w _ refl refl refl refl
event_follows w n s (event.SpaceUse clusters number lbn) = as_before w _ refl refl refl refl
event_follows w n s event.LowerV = as_before w _ refl refl refl refl
event_follows w n s event.LowerX = as_before w _ refl refl refl refl
event_follows w n s event.Return = as_before w _ refl refl refl refl
event_follows w n s event.SpaceEnd = as_before w _ refl refl refl refl
event_follows w n s (event.SpaceWrite v) = as_before w _ refl refl refl refl
event_follows w n s (event.Plan q) = as_before w _ refl refl refl refl
event_follows w n s (event.Write v) = as_before w _ refl refl refl refl
event_follows w n s (event.Ask x a) = by_outcome (would_go w.locks n a) where
  by_outcome : (b : Bool) → Follows w (asked_by w n s x a b)
  by_outcome true = as_before w _ refl refl refl refl
  by_outcome false = answer_follows w n s x a.refused
event_follows w n s (event.Answer x r) = answer_follows w n s x r

at_follows : (w : Plain) (n : ℕ) (o : Option NodeState) (e : Event) → Follows w (happen_at w n o e)
at_follows w n None e = as_before w w refl refl refl refl
at_follows w n (Some s) e = event_follows w n s e

readied_follows : (w : Plain) (n : ℕ) (o : Option NodeState) → Follows w (readied_at w n o)
readied_follows w n None = as_before w w refl refl refl refl
readied_follows w n (Some s) = as_before w _ refl refl refl refl

turn_follows : (w : Plain) (n : ℕ) → Follows w (after_turn w n)
turn_follows w n = then_follows w (readied w n) (after_turn w n) (readied_follows w n (node_at w.nodes n)) (at_follows (readied w n) n (node_at (readied w n).nodes n) (next_event w n))

-- ---- a death comes where the script has a kill for the node

died_follows : (w : Plain) (n : ℕ) (o : Option NodeState) → kills_at w n o ≡ true → Follows w (died_at w n o)
unfolding is_mending
died_follows w n None e = as_before w w refl refl refl refl
died_follows w n (Some s) e = record { script = refl; opening = refl; geometry = refl; orderly = λ k. one_more w.script w.history (death_of n s) (any_kill w n s w.script.kills e) refl k }

pub step_follows : (w : Plain) (n : ℕ) → Follows w (after_step w n)
step_follows w n = by_due (is_due w n) refl where
  by_due : (b : Bool) → is_due w n ≡ b → Follows w (cond b (died w n) (after_turn w n))
  by_due true e = died_follows w n (node_at w.nodes n) (and_parts (not (is_over w n)) (kills_at w n (node_at w.nodes n)) e).1
  by_due false e = turn_follows w n
