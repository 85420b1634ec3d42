-- The writes of a plan that are done, on the committed blocks: each is under the lock that it names, they leave the runs of
-- directories, and they fill no header slots but those of files and of the number that the command was given.
use Rattle.std.proofs.Common.{◌≡◌, ◌&&◌, ℕ, zero, suc, Bool, true, false, not, List, [], ◌∷◌, Option, Some, None, map, take, refl, sym, ap, subst}
use Rattle.base_words.specs.Fields.{Block}
use Rattle.lock_db.specs.declared.name.LockName.{LockName}
use Rattle.plain_cat.specs.declared.mode.Mode.TheVariants.{PW}
use Rattle.plain_cat.specs.declared.command.Cmd.{Cmd}
use Rattle.plain_cat.specs.declared.reply.Reply.{Reply}
use Rattle.plain_cat.specs.declared.cat.Cat.{Cat}
use Rattle.node_locks.specs.Held.{waits_at}
use Rattle.base_words.specs.Lists.{Has, StandsIn}
use Rattle.vol_spell.specs.Owners.{Owners, Things, nothing, Outs}
use Rattle.base_words.proofs.ListWrites.{stands_joined}
use Rattle.vol_parts.specs.declared.geometry.Geometry.{Geometry}
use Rattle.vol_parts.specs.declared.geometry.Part.TheVariants.{Header}
use Rattle.vol_parts.specs.Parts.{part_of}
use Rattle.vol_spell.specs.Reading.{header_block}
use Rattle.vol_spell.specs.Spelling.{Spells}
use Rattle.vol_under.specs.Guards.{guard_of}
use Rattle.vol_under.specs.UnderWay.{PlannedWrite}
use Rattle.op_law.specs.declared.need.Plan.{Plan}
use Rattle.op_law.specs.declared.need.PlanWrite.{PlanWrite}
use Rattle.op_law.specs.declared.need.Ask.{Ask}
use Rattle.op_law.specs.Fits.{things}
use Rattle.op_law.specs.Knows.{knows, is_granted}
use Rattle.op_law.specs.Laws.{held_in, planned, under_way, IsNamed, AreNamed, KeepsRuns, LeavesDirs, MayFill, LeavesSlots, IsRight, IsPlan}
use Rattle.core_state.specs.Worlds.{NodeState, Plain, node_at}
use Rattle.core_state.specs.Stocks.{stock_now, looked_now}
use Rattle.core_state.specs.Asks.{writes_by, writes_now}
use Rattle.core_state.specs.Goods.{under_with, IsAtPlan, IsAt, HasCommand, IsNode, Good}
use Rattle.core_state.proofs.Trying.{still_granted}
use Rattle.core_state.proofs.Midway.{first_known, drive_so, outs_so, seen_so}
use Rattle.core_state.proofs.Outside.{first_among}
use Rattle.core_state.proofs.CachedWrites.{both_true}

-- the first of the planned writes are the first writes, planned
pub take_planned : (k : ℕ) (ws : List PlanWrite) → take k (map planned ws) ≡ map planned (take k ws)
take_planned zero ws = refl
take_planned (suc k) [] = refl
take_planned (suc k) (w ∷ ws) = ap (λ (ps : List PlannedWrite). planned w ∷ ps) (take_planned k ws)

-- a write under the lock that it names, which leaves a directory's runs, and fills no slot of a number but a file's or one of these
record IsSoundWrite (n : ℕ) (locks : List LockName) (g : Geometry) (base : List Block) (own : Owners) (took : Things) (v : PlanWrite) : Type 0 where
  named : IsNamed n locks v.lock (guard_of g own v.lbn)
  leaves : (i : ℕ) → part_of g v.lbn ≡ Some (Header i) → KeepsRuns (header_block g base i) v.block
  fills : (i : ℕ) → part_of g v.lbn ≡ Some (Header i) → MayFill own took i v.block

module _ (w : Plain) (good : Good w) (n : ℕ) (s : NodeState) (at : node_at w.nodes n ≡ Some s) where
  abbrev cat : Cat
  cat = good.running.cat

  abbrev base : List Block
  base = good.running.drive.base

  abbrev own : Owners
  own = good.running.drive.own

  me : IsNode w n s
  me = good.nodes n s at

  -- what its command was given
  abbrev pub given : Things
  given = things s.seen.clusters s.seen.number

  abbrev Sound : PlanWrite → Type 0
  Sound v = IsSoundWrite n (held_in PW s.seen.locks) s.seen.geometry base own given v

  spelt : Spells s.seen.geometry base own cat
  spelt = (drive_so w good n s at).spelt

  stands : StandsIn base s.seen.blocks
  stands = ((stands_joined base (looked_now s.run) s.seen.blocks).0 (seen_so w good n s at)).1

  module _ (x : Cmd) (cmd_is : s.cmd ≡ Some x) where
    now : IsAt w n s x
    now = subst (HasCommand w n s) cmd_is me.command

    outs : Outs n own (things s.seen.clusters s.seen.number) (stock_now s.stock s.run)
    outs = subst (λ (o : Option Cmd). Outs n own (under_with w.locks n s o).took (under_with w.locks n s o).stock) cmd_is (outs_so w good n s at)

    -- what the law of a plan says of its writes
    by_law : (ws : List PlanWrite) (r : Reply) (know : Cat → Bool) → IsRight n x s.seen.geometry ws (under_way x s.seen ws know) r → know cat ≡ true → (v : PlanWrite) → Has ws v → Sound v
    by_law ws r know right known v h = record {
      named = right.named base own cat (stock_now s.stock s.run) spelt known stands outs v h;
      leaves = right.dirs base own cat (stock_now s.stock s.run) spelt known stands outs v h;
      fills = right.slots base own cat (stock_now s.stock s.run) spelt known stands outs v h;
    }

    by_plan : (o : Option Plan) → s.plan ≡ o → IsAtPlan x (waits_at w.locks n s.asked) s.seen s.done s.tried o → (v : PlanWrite) → Has (writes_now s.tried o) v → Sound v
    by_plan None e i v h = absurd h
    by_plan (Some p) e i v h = by_tried s.tried refl p.ask refl v h where
      whole : IsPlan n x s.seen p p.ask
      whole = now.lawful.plans n s.seen p now.seen i.0

      first : knows n x s.seen cat ≡ true
      first = first_known w good n s at x cmd_is

      by_tried : (b : Bool) → s.tried ≡ b → (o : Option Ask) → p.ask ≡ o → (v : PlanWrite) → Has (writes_by o b p.writes) v → Sound v
      by_tried b t None ask v h = by_law p.writes p.reply (knows n x s.seen) (subst (IsPlan n x s.seen p) ask whole) first v h
      by_tried true t (Some a) ask v h =
          let law : IsPlan n x s.seen p (Some a) = subst (IsPlan n x s.seen p) ask whole in
          by_law p.writes p.reply (λ c. knows n x s.seen c && is_granted n a c) law.1 (both_true (knows n x s.seen cat) (is_granted n a cat) first (still_granted w good n s at x cmd_is i.1 p e a ask t)) v h
      by_tried false t (Some a) ask v h = by_granted (is_granted n a cat) refl where
        law : IsPlan n x s.seen p (Some a)
        law = subst (IsPlan n x s.seen p) ask whole

        by_granted : (c : Bool) → is_granted n a cat ≡ c → Sound v
        by_granted true g = by_law p.writes p.reply (λ c. knows n x s.seen c && is_granted n a c) law.1 (both_true (knows n x s.seen cat) (is_granted n a cat) first g) v (first_among a.at p.writes v h)
        by_granted false g = by_law (take a.at p.writes) a.refused (λ c. knows n x s.seen c && not (is_granted n a c)) law.2 (both_true (knows n x s.seen cat) (not (is_granted n a cat)) first (ap not g)) v h

  -- the writes that are done, of a command or of none
  abbrev pub writes_made : List PlanWrite
  writes_made = take s.done (writes_now s.tried s.plan)

  sound : (v : PlanWrite) → Has writes_made v → Sound v
  sound v h = by_cmd s.cmd refl me.command where
    by_cmd : (o : Option Cmd) → s.cmd ≡ o → HasCommand w n s o → Sound v
    by_cmd None e idle = absurd (subst (λ (o : Option Plan). Has (writes_now s.tried o) v) idle.plan (first_among s.done (writes_now s.tried s.plan) v h))
    by_cmd (Some x) e i = by_plan x e s.plan refl i.plan v (first_among s.done (writes_now s.tried s.plan) v h)

  pub made_named : AreNamed n (held_in PW s.seen.locks) w.geometry own writes_made
  made_named v h = subst (λ (g : Geometry). IsNamed n (held_in PW s.seen.locks) v.lock (guard_of g own v.lbn)) me.geometry (sound v h).named

  pub made_fill : LeavesSlots w.geometry own given writes_made
  made_fill v h = subst (λ (g : Geometry). (i : ℕ) → part_of g v.lbn ≡ Some (Header i) → MayFill own given i v.block) me.geometry (sound v h).fills

  -- what the command was given is outside
  pub given_out : Outs n own given (stock_now s.stock s.run)
  given_out = by_cmd s.cmd refl me.command where
    by_cmd : (o : Option Cmd) → s.cmd ≡ o → HasCommand w n s o → Outs n own given (stock_now s.stock s.run)
    by_cmd None e idle =
        let none : nothing ≡ given = λ i. things (sym idle.space.clusters i) (sym idle.space.number i) in
        subst (λ (t : Things). Outs n own t (stock_now s.stock s.run)) none (subst (λ (o : Option Cmd). Outs n own (under_with w.locks n s o).took (under_with w.locks n s o).stock) e (outs_so w good n s at))
    by_cmd (Some x) e i = outs x e

  pub made_leave : LeavesDirs w.geometry base writes_made
  made_leave v h = subst (λ (g : Geometry). (i : ℕ) → part_of g v.lbn ≡ Some (Header i) → KeepsRuns (header_block g base i) v.block) me.geometry (sound v h).leaves
