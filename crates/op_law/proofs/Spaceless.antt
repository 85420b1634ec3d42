-- The law of a command that writes, searches for no space and asks for nothing. It was given nothing, so nothing is outside before
-- its first write.
use Rattle.std.proofs.Common.{◌≡◌, ℕ, true, List, [], Option, subst, sym}
use Rattle.base_words.specs.Fields.{Block}
use Rattle.plain_cat.specs.declared.command.Cmd.{Cmd}
use Rattle.plain_cat.specs.declared.cat.Cat.{Cat}
use Rattle.base_words.specs.Lists.{StandsIn}
use Rattle.vol_spell.specs.Owners.{Owners, Things, nothing, Outs}
use Rattle.vol_parts.specs.declared.geometry.Geometry.{Geometry}
use Rattle.vol_spell.specs.Spelling.{Spells}
use Rattle.op_law.specs.declared.need.Need.{Need}
use Rattle.op_law.specs.declared.need.Need.TheVariants as need
use Rattle.op_law.specs.declared.need.Plan.{Plan}
use Rattle.op_law.specs.declared.seen.Seen.{Seen}
use Rattle.op_law.specs.declared.seen.Chan.{Chan}
use Rattle.op_law.specs.Events.{Events, Take, Look, Fetch, Find, Make, Space, space_of, HasNoSpace, HasNoSearch, SearchesOnce}
use Rattle.op_law.specs.Knows.{knows}
use Rattle.op_law.specs.Needs.{events_of, IsNext}
use Rattle.op_law.specs.Fits.{HasSeen, things, IsSeenOn}
use Rattle.op_law.specs.Laws.{MayNeed, IsRight, IsPlan, Lawful}
use Rattle.op_law.proofs.Walking.{EveryPlan, every_plan, ObeysBy, kept, IsFine, next_fine, may_need}
use Rattle.op_law.proofs.Brief.{Briefs, briefs}
use Rattle.op_law.proofs.Ends.{LeavesNothing, EndsBy, left_by, nothing_given}
use Rattle.op_law.proofs.Doing.{busy, IsShaped, IsDone, done_right}

-- where nothing is searched for, it is at most once
pub once : (es : Events) → HasNoSearch es → SearchesOnce es
once (Take name mode next) none = once next none
once (Look name lbn next) none = λ b. once (next b) (none b)
once (Fetch lbn next) none = λ b. once (next b) (none b)
once (Find clusters number next) none = absurd none
once (Make plan) none = tt

-- A command that searches for no space, whose plans ask for nothing, refuse without a write and leave nothing outside, and which,
-- where nothing was given, on all blocks that have what it has seen needs what it may, is brief, and has a plan that is done.
pub record DoesSpaceless (x : Cmd) : Type 0 where
  pub searches : (g : Geometry) (channel : Option Chan) → HasNoSearch (events_of g channel x)
  pub shaped : (g : Geometry) (channel : Option Chan) → EveryPlan IsShaped (events_of g channel x)
  pub ends : (g : Geometry) (channel : Option Chan) (space : Space) → EndsBy (things space.clusters space.number) (HasNoSpace space) (events_of g channel x)
  pub obeys : (node : ℕ) (seen : Seen) (bs : List Block) (own : Owners) (c : Cat) (stock : Things) → Spells seen.geometry bs own c → things seen.clusters seen.number ≡ nothing → Outs node own nothing stock
      → knows node x seen c ≡ true → ObeysBy x seen.geometry bs own c seen (IsDone x node seen bs own c stock) (events_of seen.geometry seen.channel x) []
  pub brief : Briefs x

module _ (x : Cmd) (does : DoesSpaceless x) (node : ℕ) (seen : Seen) (has : HasSeen x seen) where
  given_none : things seen.clusters seen.number ≡ nothing
  given_none = nothing_given (space_of seen)
      (kept (events_of seen.geometry seen.channel x) (space_of seen) (HasNoSpace (space_of seen)) seen.locks seen.blocks (does.searches seen.geometry seen.channel) has)

  fine : (bs : List Block) (own : Owners) (c : Cat) (stock : Things) (next : Need) → Spells seen.geometry bs own c → knows node x seen c ≡ true → StandsIn bs seen.blocks → Outs node own (things seen.clusters seen.number) stock → IsNext x seen next
      → IsFine x seen bs own c (IsDone x node seen bs own c stock) next
  fine bs own c stock next s known stands outs goes =
      let es = events_of seen.geometry seen.channel x in
      next_fine x seen bs own c (IsDone x node seen bs own c stock) next (once es (does.searches seen.geometry seen.channel))
      (does.obeys node seen bs own c stock s given_none (subst (λ t. Outs node own t stock) given_none outs) known) stands has goes

  may : (bs : List Block) (own : Owners) (c : Cat) (next : Need) → IsSeenOn node x seen bs own c → IsNext x seen next → MayNeed x seen bs own c next
  may bs own c next on goes =
      may_need x seen bs own c (IsDone x node seen bs own c on.stock) next (fine bs own c on.stock next on.spelt on.known on.stands on.outs goes)

  module _ (p : Plan) (ready : IsNext x seen (need.Ready p)) where
    shaped_so : IsShaped p
    shaped_so = every_plan IsShaped (events_of seen.geometry seen.channel x) seen.locks seen.blocks (space_of seen) p (does.shaped seen.geometry seen.channel) ready

    right : IsRight node x seen.geometry p.writes (busy x node seen p) p.reply
    right = done_right x node seen (knows node x seen) p.writes p.reply (λ base own c stock s known stands outs. fine base own c stock (need.Ready p) s known stands outs ready)
        (subst (LeavesNothing (things seen.clusters seen.number) p) shaped_so.ask
        (left_by (space_of seen) p (events_of seen.geometry seen.channel x) (HasNoSpace (space_of seen)) seen.locks seen.blocks (does.ends seen.geometry seen.channel (space_of seen)) has ready))

    plan_right : IsPlan node x seen p p.ask
    plan_right = subst (λ a. IsPlan node x seen p a) (sym shaped_so.ask) right

pub spaceless_lawful : (x : Cmd) → DoesSpaceless x → Lawful x
spaceless_lawful x does = record {
  searches = λ g channel. once (events_of g channel x) (does.searches g channel);
  needs = λ node seen bs own c next has on goes. may x does node seen has bs own c next on goes;
  plans = λ node seen p has ready. plan_right x does node seen has p ready;
  refusals = λ seen p has ready. (shaped_so x does 0 seen has p ready).refused;
  brief = briefs x does.brief;
}
