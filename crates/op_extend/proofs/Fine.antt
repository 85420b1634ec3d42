-- A command is lawful whose next need is fine on all blocks that have what it has seen. This is as with the walk along its events, and
-- besides it goes by what was seen.
use Rattle.std.proofs.Common.{◌≡◌, ℕ, true, Option, sym, subst}
use Rattle.base_words.specs.Fields.{Block}
use Rattle.std.specs.Prelude.{List}
use Rattle.base_words.specs.Lists.{StandsIn}
use Rattle.plain_cat.specs.declared.command.Cmd.{Cmd}
use Rattle.plain_cat.specs.declared.cat.Cat.{Cat}
use Rattle.vol_spell.specs.Owners.{Owners, Things, Outs}
use Rattle.vol_parts.specs.declared.geometry.Geometry.{Geometry}
use Rattle.vol_spell.specs.Spelling.{Spells}
use Rattle.op_law.specs.declared.need.Need.{Need}
use Rattle.op_law.specs.declared.need.Need.TheVariants as need
use Rattle.op_law.specs.declared.need.Plan.{Plan}
use Rattle.op_law.specs.declared.seen.Seen.{Seen}
use Rattle.op_law.specs.declared.seen.Chan.{Chan}
use Rattle.op_law.specs.Events.{Space, space_of, HasNoSpace, SearchesOnce}
use Rattle.op_law.specs.Fits.{HasSeen, things, IsSeenOn}
use Rattle.op_law.specs.Knows.{knows}
use Rattle.op_law.specs.Laws.{MayNeed, IsRight, IsPlan, Lawful}
use Rattle.op_law.specs.Needs.{events_of, IsNext}
use Rattle.op_law.proofs.Brief.{Briefs, briefs}
use Rattle.op_law.proofs.Doing.{busy, IsDone, IsShaped, done_right}
use Rattle.op_law.proofs.Ends.{LeavesNothing, EndsBy, left_by}
use Rattle.op_law.proofs.Walking.{EveryPlan, every_plan, IsFine, may_need}

-- whatever it needs next is fine
abbrev pub FineBySeen : Cmd → Type 0
FineBySeen x = (node : ℕ) (seen : Seen) → HasSeen x seen → (bs : List Block) (own : Owners) (c : Cat) (stock : Things) (next : Need) → Spells seen.geometry bs own c → knows node x seen c ≡ true → StandsIn bs seen.blocks
    → Outs node own (things seen.clusters seen.number) stock → IsNext x seen next → IsFine x seen bs own c (IsDone x node seen bs own c stock) next

pub record DoesBySeen (x : Cmd) : Type 0 where
  pub searches : (g : Geometry) (channel : Option Chan) → SearchesOnce (events_of g channel x)
  pub shaped : (g : Geometry) (channel : Option Chan) → EveryPlan IsShaped (events_of g channel x)
  pub ends : (g : Geometry) (channel : Option Chan) (space : Space) → EndsBy (things space.clusters space.number) (HasNoSpace space) (events_of g channel x)
  pub fine : FineBySeen x
  pub brief : Briefs x

module _ (x : Cmd) (does : DoesBySeen x) (node : ℕ) (seen : Seen) (has : HasSeen x seen) where
  may : (bs : List Block) (own : Owners) (c : Cat) (next : Need) → IsSeenOn node x seen bs own c → IsNext x seen next → MayNeed x seen bs own c next
  may bs own c next on goes =
      may_need x seen bs own c (IsDone x node seen bs own c on.stock) next (does.fine node seen has bs own c on.stock next on.spelt on.known on.stands on.outs goes)

  module _ (p : Plan) (ready : IsNext x seen (need.Ready p)) where
    shaped_so : IsShaped p
    shaped_so = every_plan IsShaped (events_of seen.geometry seen.channel x) seen.locks seen.blocks (space_of seen) p (does.shaped seen.geometry seen.channel) ready

    right : IsRight node x seen.geometry p.writes (busy x node seen p) p.reply
    right = done_right x node seen (knows node x seen) p.writes p.reply (λ base own c stock s known stands outs. does.fine node seen has base own c stock (need.Ready p) s known stands outs ready)
        (subst (LeavesNothing (things seen.clusters seen.number) p) shaped_so.ask
        (left_by (space_of seen) p (events_of seen.geometry seen.channel x) (HasNoSpace (space_of seen)) seen.locks seen.blocks (does.ends seen.geometry seen.channel (space_of seen)) has ready))

    plan_right : IsPlan node x seen p p.ask
    plan_right = subst (λ a. IsPlan node x seen p a) (sym shaped_so.ask) right

pub lawful_by_seen : (x : Cmd) → DoesBySeen x → Lawful x
lawful_by_seen x does = record {
  searches = does.searches;
  needs = λ node seen bs own c next has on goes. may x does node seen has bs own c next on goes;
  plans = λ node seen p has ready. plan_right x does node seen has p ready;
  refusals = λ seen p has ready. (shaped_so x does 0 seen has p ready).refused;
  brief = briefs x does.brief;
}
