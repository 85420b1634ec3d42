-- What a node has prepared before its event.
use Rattle.std.proofs.Common.{◌≡◌, ℕ, true, false, cond, Option, Some, None, ap, ◌∙◌}
use Rattle.plain_cat.specs.declared.command.Cmd.{Cmd}
use Rattle.plain_rules.specs.Own.{next_command}
use Rattle.core_state.specs.Worlds.{NodeState, Plain, node_at, with_node}
use Rattle.core_state.specs.Events.{is_held_up, served, prepared_by, prepared, readied_at, readied}
use Rattle.core_state.proofs.Nodes.{set_node_same}

module _ (w : Plain) (n : ℕ) (s : NodeState) where
  -- a node that is over, waits or gives its stock back prepares nothing
  pub rests_prepared : is_held_up w n s ≡ true → prepared w n s ≡ s
  rests_prepared e = ap (λ t. cond t s (served (prepared_by s s.cmd (next_command w.script n w.history)))) e

  -- one that has a command may be given space
  pub has_prepared : (x : Cmd) → is_held_up w n s ≡ false → s.cmd ≡ Some x → prepared w n s ≡ served s
  has_prepared x on has = (λ i. cond (on i) s (served (prepared_by s (has i) (next_command w.script n w.history))))

  -- one without a command begins its next one, where there is one
  pub begins_prepared : (o : Option Cmd) → is_held_up w n s ≡ false → s.cmd ≡ None → next_command w.script n w.history ≡ o → prepared w n s ≡ served (prepared_by s None o)
  begins_prepared o on none next = (λ i. cond (on i) s (served (prepared_by s (none i) (next i))))

-- the world in which it has prepared
pub readied_is : (w : Plain) (n : ℕ) (s p : NodeState) → node_at w.nodes n ≡ Some s → prepared w n s ≡ p → readied w n ≡ with_node w n p
readied_is w n s p at is = ap (readied_at w n) at ∙ ap (with_node w n) is

-- which is the same where it has prepared nothing
pub readied_same : (w : Plain) (n : ℕ) (s : NodeState) → node_at w.nodes n ≡ Some s → prepared w n s ≡ s → readied w n ≡ w
readied_same w n s at is = readied_is w n s s at is ∙ ap (λ ns. record w { nodes = ns }) (set_node_same w.nodes n s at)
