-- The next write of a plan is under a lock that its node holds in PW, and that guards blocks.
use Rattle.std.proofs.Common.{◌≡◌, ◌<◌, ℕ, Bool, true, false, not, List, Option, Some, None, length, map, slice_get, refl, sym, ap, subst}
use Rattle.lock_db.specs.declared.name.LockName.{LockName}
use Rattle.lock_db.specs.declared.name.LockName.TheVariants.{S, A, Q, X, V}
use Rattle.plain_cat.specs.declared.mode.Mode.TheVariants.{PW}
use Rattle.plain_cat.specs.declared.command.Cmd.{Cmd}
use Rattle.node_locks.specs.Held.{waits_at}
use Rattle.base_words.specs.Fields.{Block}
use Rattle.plain_cat.specs.declared.cat.Cat.{Cat}
use Rattle.vol_spell.specs.declared.owner.Owner.{Owner as Possessor}
use Rattle.base_words.specs.Lists.{Has, Touches}
use Rattle.vol_spell.specs.Owners.{Owners}
use Rattle.vol_parts.specs.declared.geometry.Part.{Part}
use Rattle.vol_parts.specs.Parts.{part_of}
use Rattle.vol_spell.specs.Reading.{owner_at}
use Rattle.vol_spell.specs.Spelling.{Spells}
use Rattle.vol_spell.proofs.Parts.{are_parts}
use Rattle.vol_spell.proofs.Frames.{on_volume}
use Rattle.vol_parts.specs.declared.geometry.Geometry.{Geometry}
use Rattle.vol_under.specs.Guards.{guard_by, guard_by_owner, guard_of, MayWrite}
use Rattle.vol_under.specs.UnderWay.{bare, UnderWay}
use Rattle.vol_under.proofs.Nodes.{next_in}
use Rattle.op_law.specs.declared.need.Plan.{Plan}
use Rattle.op_law.specs.declared.need.PlanWrite.{PlanWrite}
use Rattle.op_law.specs.declared.need.Ask.{Ask}
use Rattle.op_law.specs.Knows.{knows, is_granted}
use Rattle.op_law.specs.Laws.{held_in, planned, takes_lock, IsNamed, IsPlan}
use Rattle.core_state.specs.Worlds.{NodeState, Plain, node_at}
use Rattle.node_locks.specs.Sequences.{guards_blocks}
use Rattle.core_state.specs.Stocks.{stock_now}
use Rattle.core_state.specs.Asks.{writes_by, writes_now}
use Rattle.core_state.specs.Goods.{IsAtPlan, Good, held_by}
use Rattle.core_state.proofs.Holding.{held_named}
use Rattle.core_state.proofs.Trying.{still_granted}
use Rattle.core_state.proofs.Turning.{under_command, drive, here, outs_now, seen_on, known, writes_more, made_of, planned_at}
use Rattle.core_state.proofs.Outside.{first_among}
use Rattle.core_state.proofs.Fillings.{get_has}
use Rattle.core_state.proofs.CachedWrites.{both_true}

-- ---- a block that is guarded is one of the volume's

module _ (g : Geometry) (bs : List Block) (own : Owners) (c : Cat) (s : Spells g bs own c) where
  pub guard_within : (node l : ℕ) (locks : List LockName) → MayWrite node locks (guard_of g own l) → l < length bs
  guard_within node l locks may = by_part (part_of g l) refl may where
    by_owner : (o : Option Possessor) → owner_at g own l ≡ o → MayWrite node locks (guard_by_owner o) → l < length bs
    by_owner None e may = absurd may
    by_owner (Some o) e may = on_volume g bs own c s l o e

    by_part : (p : Option Part) → part_of g l ≡ p → MayWrite node locks (guard_by p (owner_at g own l)) → l < length bs
    by_part (Some p) e may = on_volume g bs own c s l _ ((are_parts g bs own c s).owned l p e)
    by_part None e may = by_owner (owner_at g own l) refl may

-- ---- small steps

-- a lock that a command takes itself guards blocks
own_guards : (x : Cmd) (name : LockName) → takes_lock x name ≡ true → guards_blocks name ≡ true
own_guards x (S n) e = refl
own_guards x (A f) e = absurd (let g : false ≡ true = e in cc)
own_guards x Q e = refl
own_guards x X e = absurd (let g : false ≡ true = e in cc)
own_guards x V e = refl

module _ (w : Plain) (good : Good w) (n : ℕ) (s : NodeState) (at : node_at w.nodes n ≡ Some s) (x : Cmd) (cmd : s.cmd ≡ Some x) (free : waits_at w.locks n s.asked ≡ false) (p : Plan) (plan : s.plan ≡ Some p) where
  made : IsAtPlan x (waits_at w.locks n s.asked) s.seen s.done s.tried (Some p)
  made = made_of w good n s at x cmd free p plan

  whole : IsPlan n x s.seen p p.ask
  whole = (under_command w good n s at x cmd free).lawful.plans n s.seen p (under_command w good n s at x cmd free).seen made.0

  abbrev Named : PlanWrite → Type 0
  Named v = IsNamed n (held_in PW s.seen.locks) v.lock (guard_of s.seen.geometry good.running.drive.own v.lbn)

  named_by : (b : Bool) → s.tried ≡ b → (o : Option Ask) → p.ask ≡ o → (v : PlanWrite) → Has (writes_by o b p.writes) v → Named v
  named_by b t None ask v h =
      let law : IsPlan n x s.seen p None = subst (IsPlan n x s.seen p) ask whole in
      law.named good.running.drive.base good.running.drive.own good.running.cat (stock_now s.stock s.run) (drive w good n s at x cmd free).spelt (known w good n s at x cmd free)
      (seen_on w good n s at x cmd free).stands (outs_now w good n s at x cmd free) v h
  named_by true t (Some a) ask v h =
      let law : IsPlan n x s.seen p (Some a) = subst (IsPlan n x s.seen p) ask whole in
      law.1.named good.running.drive.base good.running.drive.own good.running.cat (stock_now s.stock s.run) (drive w good n s at x cmd free).spelt
      (both_true (knows n x s.seen good.running.cat) (is_granted n a good.running.cat) (known w good n s at x cmd free) (still_granted w good n s at x cmd free p plan a ask t))
      (seen_on w good n s at x cmd free).stands (outs_now w good n s at x cmd free) v h
  named_by false t (Some a) ask v h = by_granted (is_granted n a good.running.cat) refl where
    law : IsPlan n x s.seen p (Some a)
    law = subst (IsPlan n x s.seen p) ask whole

    by_granted : (c : Bool) → is_granted n a good.running.cat ≡ c → Named v
    by_granted true e = law.1.named good.running.drive.base good.running.drive.own good.running.cat (stock_now s.stock s.run) (drive w good n s at x cmd free).spelt
        (both_true (knows n x s.seen good.running.cat) (is_granted n a good.running.cat) (known w good n s at x cmd free) e)
        (seen_on w good n s at x cmd free).stands (outs_now w good n s at x cmd free) v (first_among a.at p.writes v h)
    by_granted false e = law.2.named good.running.drive.base good.running.drive.own good.running.cat (stock_now s.stock s.run) (drive w good n s at x cmd free).spelt
        (both_true (knows n x s.seen good.running.cat) (not (is_granted n a good.running.cat)) (known w good n s at x cmd free) (ap not e))
        (seen_on w good n s at x cmd free).stands (outs_now w good n s at x cmd free) v h

  module _ (v : PlanWrite) (next : slice_get (writes_by p.ask s.tried p.writes) s.done ≡ Some v) where
    its : Named v
    its = named_by s.tried refl p.ask refl v (get_has (writes_by p.ask s.tried p.writes) s.done v next)

    -- under a lock that the node holds
    pub plan_named : IsNamed n (held_in PW (held_by w.locks n s)) v.lock (guard_of w.geometry good.running.drive.own v.lbn)
    plan_named = record {
      held = writes_more w good n s at x cmd free v.lock its.held;
      guards = (subst (λ (g : Geometry). IsNamed n (held_in PW s.seen.locks) v.lock (guard_of g good.running.drive.own v.lbn)) (good.nodes n s at).geometry its).guards;
    }

    -- that guards blocks
    pub plan_guards : guards_blocks v.lock ≡ true
    plan_guards = own_guards x v.lock ((under_command w good n s at x cmd free).own v.lock (held_named PW s.seen.locks v.lock its.held))

    -- and the block is one of the volume
    pub plan_within : v.lbn < length w.blocks
    plan_within =
        let now = here w good n s at x cmd free in
        let ws : List PlanWrite = writes_by p.ask s.tried p.writes in
        let touched : Touches (bare (map planned (writes_now s.tried s.plan))) v.lbn = subst (λ (o : Option Plan). Touches (bare (map planned (writes_now s.tried o))) v.lbn) (sym plan) (next_in (map planned ws) s.done (planned v) (planned_at ws s.done v next)) in
        let mine = subst (λ (u : UnderWay). (l : ℕ) → Touches (bare u.plan) l → MayWrite n u.write (guard_of w.geometry good.running.drive.own l)) now (good.running.drive.plan_guarded n) in
        subst (λ (k : ℕ). v.lbn < k) (sym good.running.drive.over.count) (guard_within w.geometry good.running.drive.base good.running.drive.own good.running.cat good.running.drive.spelt n v.lbn _ (mine v.lbn touched))
