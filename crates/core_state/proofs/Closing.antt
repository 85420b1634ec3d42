-- A channel that is closed holds the lock that it gives back.
use Rattle.std.proofs.lemmas.Bool.Decides.{nat_tests}
use Rattle.std.proofs.Common.{◌≡◌, ◌≤◌, ◌==◌, ℕ, Bool, true, false, cond, List, Option, Some, None, IsSome, is_some, refl, sym, ap, ◌∙◌, arith}
use Rattle.lock_db.specs.declared.name.LockName.TheVariants.{A}
use Rattle.lock_db.specs.declared.name.Owner.{Owner}
use Rattle.lock_db.specs.declared.askers.Standing.TheVariants.{Granted}
use Rattle.lock_db.specs.declared.resource.Resource.{Resource}
use Rattle.lock_db.specs.Queues.{lock_of}
use Rattle.lock_db.specs.Tables.{resource_at}
use Rattle.lock_db.specs.Laws.{stands_at}
use Rattle.plain_cat.specs.declared.command.Cmd.{Cmd}
use Rattle.plain_cat.specs.declared.command.Cmd.TheVariants as cmd
use Rattle.plain_cat.specs.declared.cat.Cat.{Cat}
use Rattle.plain_cat.specs.declared.cat.Open.{Open}
use Rattle.plain_rules.specs.Lookups.{channel_at}
use Rattle.node_locks.specs.Held.{waits_at}
use Rattle.op_law.specs.declared.need.Ask.{Ask}
use Rattle.op_law.specs.declared.seen.Chan.{Chan}
use Rattle.op_law.specs.Knows.{has_channel}
use Rattle.core_state.specs.Worlds.{NodeState, Plain, node_at}
use Rattle.core_state.specs.Asks.{granted_ask}
use Rattle.core_state.specs.Opens.{AreOpensLocked, open_of, open_asked, open_with, asked_in, open_now, open_stands}
use Rattle.core_state.specs.Channels.{names_in_form, opened}
use Rattle.core_state.specs.Goods.{Good}
use Rattle.core_state.proofs.Opens.{locked, stands_there}
use Rattle.core_state.proofs.Channels.{IsOpenAt, open_at, channel_from, IsNodeNumber}
use Rattle.core_state.proofs.Switching.{channel_test}
use Rattle.core_state.proofs.Turning.{under_command}
use Rattle.core_state.proofs.Answering.{node_number}
use Rattle.core_state.proofs.Trying.{asker_has_file}

-- an open of a file
is_file_open : (o : Open) (f : ℕ) → o.file ≡ f → o ≡ record { file = f; mode = o.mode }
is_file_open o f e = λ i. record { file = e i; mode = o.mode }

-- The channel of a node, which has a file open by the node, has the lock of that file in each table that has those of all opens: so it is
-- once the locks of the node's command were put back.
pub closing_lock : (w : Plain) (good : Good w) (n : ℕ) (s : NodeState) → node_at w.nodes n ≡ Some s → (chan : ℕ) → 1 ≤ chan → chan ≤ 8 → (p : Chan) → opened s.opens chan ≡ Some p
    → (t : List Resource) → AreOpensLocked t (open_now good.running.cat w.nodes) → IsSome (lock_of (record { node = n; part = chan }) (resource_at (A p.file.num) t).askers)
closing_lock w good n s at chan low high p has t locked_so = by_ask (granted_ask s.tried s.plan) refl where
  c : Cat
  c = good.running.cat

  me : Owner
  me = record { node = n; part = chan }

  number : IsNodeNumber n
  number = node_number w good n s at

  there : IsOpenAt c n chan p
  there = open_at c n chan p (ap (has_channel c n (Some chan)) (sym has) ∙ (good.running.opened n s at).each chan low high)

  of_me : open_of c me ≡ Some there.open_is
  of_me = ap (λ b. cond b (channel_at c n chan) None) (channel_test n chan number.from low high) ∙ there.at

  stands : (o : Option Ask) → granted_ask s.tried s.plan ≡ o → stands_at (A p.file.num) me t ≡ open_stands (A p.file.num) (open_with chan o (open_of c me))
  stands o e = locked_so (A p.file.num) me low
      ∙ ap (λ a. open_stands (A p.file.num) (open_with chan a (open_of c me))) (ap asked_in at ∙ e)

  is_locked : (o : Open) → o.file ≡ p.file.num → (a : Option Ask) → granted_ask s.tried s.plan ≡ a → open_with chan a (open_of c me) ≡ Some o → IsSome (lock_of me (resource_at (A p.file.num) t).askers)
  is_locked o file a e is =
      let granted : stands_at (A p.file.num) me t ≡ Some (Granted o.mode) = stands a e ∙ ap (open_stands (A p.file.num)) (is ∙ ap Some (is_file_open o p.file.num file)) ∙ stands_there p.file.num o.mode in
      ap is_some (locked me (resource_at (A p.file.num) t).askers o.mode granted)

  by_ask : (a : Option Ask) → granted_ask s.tried s.plan ≡ a → IsSome (lock_of me (resource_at (A p.file.num) t).askers)
  by_ask None e = is_locked there.open_is there.file None e of_me
  by_ask (Some b) e = by_part (b.chan == chan) refl where
    same_part : (k j : ℕ) → (k == j) ≡ true → k ≡ j
    same_part k j e = grind (arith, nat_tests)

    by_part : (k : Bool) → (b.chan == chan) ≡ k → IsSome (lock_of me (resource_at (A p.file.num) t).askers)
    by_part true same =
        let file : b.file ≡ there.open_is.file = sym (asker_has_file w good n s b at e chan (same_part b.chan chan same) low there.open_is there.at) in
        is_locked (open_asked b) (file ∙ there.file) (Some b) e (ap (λ k. cond k (Some (open_asked b)) (open_of c me)) same)
    by_part false same = is_locked there.open_is there.file (Some b) e (ap (λ k. cond k (Some (open_asked b)) (open_of c me)) same ∙ of_me)

-- the channel of a close in form is one of eight
pub close_channel : (chan : ℕ) → names_in_form (cmd.CloseFile chan) ≡ true → (1 ≤ chan) × (chan ≤ 8)
close_channel chan form = channel_from chan form

-- a command under way is in form
pub form_now : (w : Plain) (good : Good w) (n : ℕ) (s : NodeState) → node_at w.nodes n ≡ Some s → (x : Cmd) → s.cmd ≡ Some x → waits_at w.locks n s.asked ≡ false → names_in_form x ≡ true
form_now w good n s at x has free = (under_command w good n s at x has free).form
