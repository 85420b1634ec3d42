-- A turn leaves a world one.
use Rattle.std.proofs.Common.{◌≡◌, ◌≤◌, ◌-◌, ℕ, Bool, true, false, Option, Some, None, Result, Ok, Err, refl, sym, ap, subst, ◌∙◌}
use Rattle.std.specs.Prelude.{OnOk, OnErr}
use Rattle.plain_cat.specs.declared.command.Cmd.{Cmd}
use Rattle.plain_cat.specs.declared.script.Script.{Script}
use Rattle.op_law.specs.Laws.{Lawful}
use Rattle.core_state.specs.Worlds.{NodeState, Plain, node_at, current}
use Rattle.core_state.specs.Goods.{Good, HasOnly, HasRoom, HasLists, IsAccepted, IsWorld}
use Rattle.core_state.specs.Fallen.{living}
use Rattle.core_state.proofs.Falling.{answers_left}
use Rattle.core_state.specs.Event.{Event}
use Rattle.core_state.specs.Event as event
use Rattle.core_state.specs.Events.{would_go, asked_by, happens, happen_at, is_held_up, readied_at, readied, next_event, happen, after_turn}
use Rattle.core_state.specs.Uses.{UsesTheDrives}
use Rattle.core_state.proofs.Turns.{turn_keeps}
use Rattle.core_state.proofs.Uses.{uses_right}
use Rattle.core_state.proofs.Openings.{accepted_after}

script_stays : (w : Plain) (n : ℕ) (s : NodeState) (e : Event) → (happens w n s e).script ≡ w.script
script_stays w n s event.Rest = refl
script_stays w n s event.Stand = refl
script_stays w n s event.Leave = refl
script_stays w n s (event.Lock name mode) = refl
script_stays w n s (event.Look name lbn) = refl
script_stays w n s (event.Use name lbn) = refl
script_stays w n s (event.Fetch lbn) = refl
script_stays w n s (event.Claim p name mode) = refl
script_stays w n s (event.SpaceLook clusters number lbn) = refl
script_stays w n s (event.SpaceUse clusters number lbn) = refl
script_stays w n s event.SpaceEnd = refl
script_stays w n s (event.SpaceWrite v) = refl
script_stays w n s event.LowerV = refl
script_stays w n s event.LowerX = refl
script_stays w n s event.Return = refl
script_stays w n s (event.Plan p) = refl
script_stays w n s (event.Write v) = refl
script_stays w n s (event.Ask x a) = by_outcome (would_go w.locks n a) where
  by_outcome : (b : Bool) → (asked_by w n s x a b).script ≡ w.script
  by_outcome true = refl
  by_outcome false = refl
script_stays w n s (event.Answer x r) = refl

script_here : (w : Plain) (n : ℕ) (e : Event) → (happen w n e).script ≡ w.script
script_here w n e = by_node (node_at w.nodes n) where
  by_node : (o : Option NodeState) → (happen_at w n o e).script ≡ w.script
  by_node None = refl
  by_node (Some s) = script_stays w n s e

script_readied : (w : Plain) (n : ℕ) → (readied w n).script ≡ w.script
script_readied w n = by_node (node_at w.nodes n) where
  by_node : (o : Option NodeState) → (readied_at w n o).script ≡ w.script
  by_node None = refl
  by_node (Some s) = refl

-- no turn changes the script
pub script_after : (w : Plain) (n : ℕ) → (after_turn w n).script ≡ w.script
script_after w n = script_here (readied w n) n (next_event w n) ∙ script_readied w n

pub world_kept : {T E : Type 0} (r : Result T E) (takes : Cmd → Type 0) (w new : Plain) (spare spare' : ℕ) (n : ℕ) → IsWorld takes w spare → OnOk r (new ≡ after_turn w n)
    → OnOk r ((s : NodeState) (x : Cmd) → node_at w.nodes n ≡ Some s → is_held_up w n s ≡ false → current w n s ≡ Some x → Lawful x)
    → OnErr r (new ≡ w) → HasRoom new spare' → IsWorld takes new spare'
world_kept (Ok t) takes w new spare spare' n is moved lawful same room = record {
  good = subst (λ (v : Plain). Good v) (sym moved) (turn_keeps w is.good n lawful);
  accepted = subst (λ (v : Plain). IsAccepted v.opening) (sym moved) (accepted_after w n is.accepted);
  room = room;
  taken = subst (λ (v : Plain). HasOnly takes v.script) (sym moved) (subst (λ (c : Script). HasOnly takes c) (sym (script_after w n)) is.taken);
}
world_kept (Err e) takes w new spare spare' n is moved lawful same room = record {
  good = subst (λ (v : Plain). Good v) (sym same) is.good;
  accepted = subst (λ (v : Plain). IsAccepted v.opening) (sym same) is.accepted;
  room = room;
  taken = subst (λ (v : Plain). HasOnly takes v.script) (sym same) is.taken;
}

-- as many nodes live as before
lives_stay : (w : Plain) (n : ℕ) (s : NodeState) (e : Event) → living (happens w n s e).history (happens w n s e).script.nodes ≡ living w.history w.script.nodes
lives_stay w n s (event.Ask x a) = by_outcome (would_go w.locks n a) where
  by_outcome : (b : Bool) → living (asked_by w n s x a b).history (asked_by w n s x a b).script.nodes ≡ living w.history w.script.nodes
  by_outcome true = refl
  by_outcome false = ap (λ k. w.script.nodes - k) (answers_left w.history n x a.refused w.script.nodes)
lives_stay w n s (event.Answer x r) = ap (λ k. w.script.nodes - k) (answers_left w.history n x r w.script.nodes)
lives_stay w n s other = refl

lives_here : (w : Plain) (n : ℕ) (e : Event) → living (happen w n e).history (happen w n e).script.nodes ≡ living w.history w.script.nodes
lives_here w n e = by_node (node_at w.nodes n) where
  by_node : (o : Option NodeState) → living (happen_at w n o e).history (happen_at w n o e).script.nodes ≡ living w.history w.script.nodes
  by_node None = refl
  by_node (Some s) = lives_stay w n s e

lives_readied : (w : Plain) (n : ℕ) → living (readied w n).history (readied w n).script.nodes ≡ living w.history w.script.nodes
lives_readied w n = by_node (node_at w.nodes n) where
  by_node : (o : Option NodeState) → living (readied_at w n o).history (readied_at w n o).script.nodes ≡ living w.history w.script.nodes
  by_node None = refl
  by_node (Some s) = refl

-- so the lists for their deaths are enough
pub lists_kept : {T E : Type 0} (r : Result T E) (w new : Plain) (lists n : ℕ) → HasLists w lists → OnOk r (new ≡ after_turn w n) → OnErr r (new ≡ w) → HasLists new lists
lists_kept (Ok t) w new lists n has moved same =
    subst (λ (v : Plain). HasLists v lists) (sym moved) (subst (λ (k : ℕ). k ≤ lists) (sym (lives_here (readied w n) n (next_event w n) ∙ lives_readied w n)) has)
lists_kept (Err e) w new lists n has moved same = subst (λ (v : Plain). HasLists v lists) (sym same) has

-- a cached block that a turn uses is the drive's
pub uses_kept : {T E : Type 0} (r : Result T E) (takes : Cmd → Type 0) (w v : Plain) (spare n : ℕ) → IsWorld takes w spare
    → OnOk r ((s : NodeState) (x : Cmd) → node_at w.nodes n ≡ Some s → is_held_up w n s ≡ false → current w n s ≡ Some x → Lawful x) → w ≡ v → OnOk r (UsesTheDrives v n)
uses_kept (Ok t) takes w v spare n is lawful same = subst (λ (y : Plain). UsesTheDrives y n) same (uses_right w is.good n lawful)
uses_kept (Err e) takes w v spare n is lawful same = tt
