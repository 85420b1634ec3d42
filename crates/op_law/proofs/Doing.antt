-- The law of a command that writes, and asks for nothing.
use Rattle.std.proofs.Common.{◌≡◌, ℕ, Bool, List, [], Option, Some, None, map, true, sym, subst}
use Rattle.base_words.specs.Fields.{Block}
use Rattle.lock_db.specs.declared.name.LockName.{LockName}
use Rattle.plain_cat.specs.declared.mode.Mode.{Mode}
use Rattle.plain_cat.specs.declared.mode.Mode.TheVariants.{PW}
use Rattle.plain_cat.specs.declared.command.Cmd.{Cmd}
use Rattle.plain_cat.specs.declared.reply.Reply.{Reply}
use Rattle.plain_cat.specs.declared.reply.Reply.TheVariants as reply
use Rattle.plain_cat.specs.declared.reply.Refusal.{Refusal}
use Rattle.plain_cat.specs.declared.cat.Cat.{Cat}
use Rattle.plain_rules.specs.Answers.{Answer}
use Rattle.base_words.specs.Lists.{StandsIn}
use Rattle.vol_spell.specs.Owners.{Owners, Things, nothing, Outs}
use Rattle.vol_parts.specs.declared.geometry.Geometry.{Geometry}
use Rattle.vol_spell.specs.Spelling.{Spells}
use Rattle.vol_under.specs.Chains.{Steps, Replied, IsChain}
use Rattle.vol_under.specs.UnderWay.{outs_after, UnderWay}
use Rattle.vol_under.proofs.Reach.{steps_lawful, steps_reply}
use Rattle.vol_under.proofs.Steps.{stands_first}
use Rattle.op_law.specs.declared.need.Need.{Need}
use Rattle.op_law.specs.declared.need.Need.TheVariants as need
use Rattle.op_law.specs.declared.need.Plan.{Plan}
use Rattle.op_law.specs.declared.need.PlanWrite.{PlanWrite}
use Rattle.op_law.specs.declared.seen.Seen.{Seen}
use Rattle.op_law.specs.declared.seen.Chan.{Chan}
use Rattle.op_law.specs.Events.{Space, space_of, HasNoSpace, SearchesOnce}
use Rattle.op_law.specs.Knows.{knows}
use Rattle.op_law.specs.Needs.{events_of, IsNext}
use Rattle.op_law.specs.Fits.{HasSeen, things, IsSeenOn}
use Rattle.op_law.specs.Rows.{plain_plan}
use Rattle.op_law.specs.Laws.{held_in, planned, under_way, MayNeed, AreNamed, LeavesDirs, LeavesSlots, KeepsOut, IsRight, WritesNothing, IsPlan, Lawful}
use Rattle.op_law.proofs.Walking.{EveryPlan, every_plan, ObeysBy, IsFine, next_fine, may_need}
use Rattle.op_law.proofs.Brief.{Briefs, briefs}
use Rattle.op_law.proofs.Ends.{LeavesNothing, EndsBy, left_by}
use Rattle.op_law.proofs.Naming.{named_guards}

-- a plan asks for nothing, and where it is refused it writes nothing
pub record IsShaped (p : Plan) : Type 0 where
  pub ask : p.ask ≡ None
  pub refused : WritesNothing p p.reply

module _ (x : Cmd) (node : ℕ) (seen : Seen) where
  -- the node once the plan is made
  abbrev pub busy : Plan → UnderWay
  busy p = under_way x seen p.writes (knows node x seen)

  -- writes that are under these locks, each under the one that it names, and are a chain on these blocks with which the reply goes
  pub record AreDone (bs : List Block) (own : Owners) (c : Cat) (stock : Things) (held : List (LockName × Mode)) (ws : List PlanWrite) (r : Reply) : Type 0 where
    pub named : AreNamed node (held_in PW held) seen.geometry own ws
    pub dirs : LeavesDirs seen.geometry bs ws
    pub slots : LeavesSlots seen.geometry own (things seen.clusters seen.number) ws
    pub kept_out : KeepsOut (things seen.clusters seen.number) (held_in PW held) ws
    pub steps : Steps (Replied seen.geometry node (under_way x seen ws (knows node x seen)) x r c stock) seen.geometry node (Some x) (held_in PW held) c stock (map planned ws) bs own

  -- a plan of which they are the writes and the reply
  abbrev pub IsDone : List Block → Owners → Cat → Things → List (LockName × Mode) → Plan → Type 0
  IsDone bs own c stock held p = AreDone bs own c stock held p.writes p.reply

  -- a refusal that is the command's answer
  pub refusal_done : (bs : List Block) (own : Owners) (c : Cat) (stock : Things) → Spells seen.geometry bs own c → Outs node own (things seen.clusters seen.number) stock → (r : Refusal) → Answer c node x (reply.Refused r) c
      → (held : List (LockName × Mode)) → IsDone bs own c stock held (plain_plan (reply.Refused r))
  refusal_done bs own c stock s outs r answer held = record { named = λ w t. absurd t; dirs = λ w t. absurd t; slots = λ w t. absurd t; kept_out = λ w t. absurd t; steps = (c, stands_first c node (Some x), s, outs, c.opens, answer) }

  -- writes that are done on all blocks that have what was seen, and on which this is known, are right with their reply
  pub done_right : (know : Cat → Bool) (ws : List PlanWrite) (r : Reply)
      → ((base : List Block) (own : Owners) (c : Cat) (stock : Things) → Spells seen.geometry base own c → know c ≡ true → StandsIn base seen.blocks → Outs node own (things seen.clusters seen.number) stock → AreDone base own c stock seen.locks ws r)
      → outs_after (things seen.clusters seen.number) (map planned ws) ≡ nothing → IsRight node x seen.geometry ws (under_way x seen ws know) r
  done_right know ws r done left =
      let u : UnderWay = under_way x seen ws know in
      let chain : IsChain seen.geometry node u x r = λ base own c stock s known stands outs. (done base own c stock s known stands outs).steps in
      record {
        named = λ base own c stock s known stands outs. (done base own c stock s known stands outs).named;
        guarded = λ base own c stock s known stands outs. named_guards node (held_in PW seen.locks) seen.geometry own ws (done base own c stock s known stands outs).named;
        lawful = steps_lawful seen.geometry node u x r chain;
        reply = steps_reply seen.geometry node u x r chain;
        left = left;
        dirs = λ base own c stock s known stands outs. (done base own c stock s known stands outs).dirs;
        slots = λ base own c stock s known stands outs. (done base own c stock s known stands outs).slots;
        kept_out = λ base own c stock s known stands outs. (done base own c stock s known stands outs).kept_out;
      }

-- A command that searches for space at most once, whose plans ask for nothing, refuse without a write and leave nothing outside,
-- and which on all blocks that have what it has seen needs what it may, is brief, and has a plan that is done.
pub record Does (x : Cmd) : Type 0 where
  pub searches : (g : Geometry) (channel : Option Chan) → SearchesOnce (events_of g channel x)
  pub shaped : (g : Geometry) (channel : Option Chan) → EveryPlan IsShaped (events_of g channel x)
  pub ends : (g : Geometry) (channel : Option Chan) (space : Space) → EndsBy (things space.clusters space.number) (HasNoSpace space) (events_of g channel x)
  pub obeys : (node : ℕ) (seen : Seen) (bs : List Block) (own : Owners) (c : Cat) (stock : Things) → Spells seen.geometry bs own c → Outs node own (things seen.clusters seen.number) stock → knows node x seen c ≡ true
      → ObeysBy x seen.geometry bs own c seen (IsDone x node seen bs own c stock) (events_of seen.geometry seen.channel x) []
  pub brief : Briefs x

module _ (x : Cmd) (does : Does x) (node : ℕ) (seen : Seen) (has : HasSeen x seen) where
  fine : (bs : List Block) (own : Owners) (c : Cat) (stock : Things) (next : Need) → Spells seen.geometry bs own c → knows node x seen c ≡ true → StandsIn bs seen.blocks → Outs node own (things seen.clusters seen.number) stock → IsNext x seen next
      → IsFine x seen bs own c (IsDone x node seen bs own c stock) next
  fine bs own c stock next s known stands outs goes =
      next_fine x seen bs own c (IsDone x node seen bs own c stock) next (does.searches seen.geometry seen.channel) (does.obeys node seen bs own c stock s outs known) stands has goes

  may : (bs : List Block) (own : Owners) (c : Cat) (next : Need) → IsSeenOn node x seen bs own c → IsNext x seen next → MayNeed x seen bs own c next
  may bs own c next on goes =
      may_need x seen bs own c (IsDone x node seen bs own c on.stock) next (fine bs own c on.stock next on.spelt on.known on.stands on.outs goes)

  module _ (p : Plan) (ready : IsNext x seen (need.Ready p)) where
    shaped_so : IsShaped p
    shaped_so = every_plan IsShaped (events_of seen.geometry seen.channel x) seen.locks seen.blocks (space_of seen) p (does.shaped seen.geometry seen.channel) ready

    right : IsRight node x seen.geometry p.writes (busy x node seen p) p.reply
    right = done_right x node seen (knows node x seen) p.writes p.reply (λ base own c stock s known stands outs. fine base own c stock (need.Ready p) s known stands outs ready)
        (subst (LeavesNothing (things seen.clusters seen.number) p) shaped_so.ask
        (left_by (space_of seen) p (events_of seen.geometry seen.channel x) (HasNoSpace (space_of seen)) seen.locks seen.blocks (does.ends seen.geometry seen.channel (space_of seen)) has ready))

    plan_right : IsPlan node x seen p p.ask
    plan_right = subst (λ a. IsPlan node x seen p a) (sym shaped_so.ask) right

pub does_lawful : (x : Cmd) → Does x → Lawful x
does_lawful x does = record {
  searches = does.searches;
  needs = λ node seen bs own c next has on goes. may x does node seen has bs own c next on goes;
  plans = λ node seen p has ready. plan_right x does node seen has p ready;
  refusals = λ seen p has ready. (shaped_so x does 0 seen has p ready).refused;
  brief = briefs x does.brief;
}
