-- Once every node of a world is over, its drive spells the catalogue to which the history leads.
use Rattle.std.proofs.Common.{◌≡◌, ◌||◌, ◌++◌, ℕ, Bool, true, false, List, [], ◌∷◌, Option, Some, None, refl, sym, ap, subst, ◌∙◌, inl, inr}
use Rattle.lock_db.specs.declared.name.LockName.{LockName}
use Rattle.lock_db.specs.declared.name.LockName.TheVariants.{X}
use Rattle.plain_cat.specs.declared.mode.Mode.{Mode}
use Rattle.plain_cat.specs.declared.mode.Mode.TheVariants.{PR, PW, CR}
use Rattle.plain_cat.specs.declared.command.Cmd.{Cmd}
use Rattle.plain_rules.specs.Own.{past, next_command}
use Rattle.base_words.specs.Lists.{Has}
use Rattle.vol_spell.specs.Owners.{nothing}
use Rattle.vol_under.specs.UnderWay.{UnderWay, resting, AreSole}
use Rattle.vol_under.specs.Stopping.{IsLeft}
use Rattle.vol_under.proofs.Stops.{world_stops}
use Rattle.op_law.specs.Laws.{held_in}
use Rattle.core_state.specs.Worlds.{NodeState, Plain, node_at}
use Rattle.core_state.specs.Stocks.{stock_now, looked_now}
use Rattle.core_state.specs.Stores.{IsGone}
use Rattle.core_state.specs.Searches.{IsOff, Spaces}
use Rattle.core_state.specs.Events.{is_over_in, is_over}
use Rattle.core_state.specs.Goods.{held_by, command_under, under_with, under_by, nodes_under, IsIdle, HasCommand, IsNode, Good}
use Rattle.core_state.proofs.Standing.{at_rest_so}

-- a node that has nothing has nothing under way, holds nothing, and keeps nothing from other nodes
node_rests : (w : Plain) (n : ℕ) (s : NodeState) → IsNode w n s → IsGone s.cmd s.asked s.kept s.claims s.stock s.cache → under_with w.locks n s s.cmd ≡ resting nothing
node_rests w n s me gone = λ i. record (command_under n s.seen s.tried s.plan s.done (gone.cmd i)) {
  read = held_in PR (held_by w.locks n (record s { kept = gone.kept i; asked = gone.asked i; claims = gone.claims i }));
  write = held_in PW (held_by w.locks n (record s { kept = gone.kept i; asked = gone.asked i; claims = gone.claims i }));
  seen = looked_now (off.run i) ++ idle.blocks i;
  stock = stock_now (gone.stock i) (off.run i);
} where
  idle : IsIdle s.seen s.asked s.plan s.done
  idle = subst (HasCommand w n s) gone.cmd me.command

  off : IsOff s.claims s.run s.seen
  off = elim (at_rest_so s.kept s.claims s.run s.stock s.seen (subst (λ (o : Option Cmd). Spaces o s.kept s.claims s.run s.stock s.seen) gone.cmd me.space)) [
    | inl h ↦ h
    | inr h ↦ absurd (subst (λ (ls : List (LockName × Mode)). Has ls (X, CR)) gone.kept h.shared)
  ]

module _ (w : Plain) (good : Good w) (over : (n : ℕ) → is_over w n ≡ true) where
  -- a node that is over has nothing, and no command is left but where it is dead
  node_left : (n : ℕ) (s : NodeState) → node_at w.nodes n ≡ Some s → IsGone s.cmd s.asked s.kept s.claims s.stock s.cache × ((past n w.history).dead ≡ false → next_command w.script n w.history ≡ None)
  node_left n s at = by_out s.over s.past.dead refl refl (ap is_over_in (sym at) ∙ over n) where
    mine : IsNode w n s
    mine = good.nodes n s at

    by_out : (o d : Bool) → s.over ≡ o → s.past.dead ≡ d → (o || d) ≡ true → IsGone s.cmd s.asked s.kept s.claims s.stock s.cache × ((past n w.history).dead ≡ false → next_command w.script n w.history ≡ None)
    by_out true d e f out = ((mine.over e).0, λ alive. (mine.over e).1)
    by_out false true e f out = (mine.gone f, λ alive. absurd (let g : true ≡ false = sym f ∙ ap (λ y. y.dead) mine.past ∙ alive in cc))
    by_out false false e f out = absurd (let g : false ≡ true = out in cc)

  -- a node that is not dead has no command left
  pub none_left : (n : ℕ) → (past n w.history).dead ≡ false → next_command w.script n w.history ≡ None
  none_left n alive = by (node_at w.nodes n) refl where
    by : (o : Option NodeState) → node_at w.nodes n ≡ o → next_command w.script n w.history ≡ None
    by None at = good.strangers n at
    by (Some s) at = (node_left n s at).1 alive

  -- nothing is under way
  pub all_rest : (n : ℕ) → nodes_under w.locks w.nodes n ≡ resting nothing
  all_rest n = by (node_at w.nodes n) refl where
    by : (o : Option NodeState) → node_at w.nodes n ≡ o → under_by w.locks n o ≡ resting nothing
    by None at = refl
    by (Some s) at = node_rests w n s (good.nodes n s at) (node_left n s at).0

-- where no node has anything under way, the drive spells the catalogue to which the history leads
module _ (w : Plain) (good : Good w) (rests : (n : ℕ) → nodes_under w.locks w.nodes n ≡ resting nothing) where
  none_writes : (n : ℕ) (name : LockName) → Has (nodes_under w.locks w.nodes n).write name → ⊥
  none_writes n name h = subst (λ (u : UnderWay). Has u.write name) (rests n) h

  sole : AreSole (nodes_under w.locks w.nodes)
  sole = record { writers = λ n m name h k. absurd (none_writes n name h); readers = λ n m name h k. absurd (none_writes n name h) }

  pub drive_left : IsLeft w.geometry good.running.cat (nodes_under w.locks w.nodes) [] w.blocks
  drive_left = world_stops w.geometry good.running.cat (nodes_under w.locks w.nodes) w.blocks [] sole good.running.drive tt (λ n. inr (rests n))
      (λ n ms d once among goes. absurd (among n (first n ms)))
    where
      first : (n : ℕ) (ms : List ℕ) → Has (n ∷ ms) n
      first n ms = inl refl
