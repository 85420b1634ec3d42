-- The law of a command that only looks.
use Rattle.std.proofs.Common.{◌≡◌, ◌∙◌, ℕ, Bool, true, false, List, [], Option, None, map, refl, sym, ap, subst}
use Rattle.std.specs.Prelude.{◌&&◌}
use Rattle.base_words.specs.Fields.{Block}
use Rattle.plain_cat.specs.declared.command.Cmd.{Cmd}
use Rattle.plain_cat.specs.declared.reply.Reply.{Reply}
use Rattle.plain_cat.specs.declared.reply.Reply.TheVariants as reply
use Rattle.plain_cat.specs.declared.cat.Cat.{Cat}
use Rattle.plain_rules.specs.Answers.{Answer}
use Rattle.base_words.specs.Lists.{Has, Touches}
use Rattle.vol_spell.specs.Owners.{Owners, nothing}
use Rattle.vol_parts.specs.declared.geometry.Geometry.{Geometry}
use Rattle.vol_spell.specs.Spelling.{Spells}
use Rattle.vol_under.specs.UnderWay.{bare, outs_after}
use Rattle.vol_under.proofs.Steps.{idle_lawful}
use Rattle.op_law.specs.declared.need.Plan.{Plan}
use Rattle.op_law.specs.declared.need.Need.TheVariants as need
use Rattle.op_law.specs.declared.seen.Seen.{Seen}
use Rattle.op_law.specs.declared.seen.Chan.{Chan}
use Rattle.op_law.specs.Events.{space_of, HasNoSpace, HasNoSearch, SearchesOnce}
use Rattle.op_law.specs.Needs.{events_of, IsNext}
use Rattle.op_law.specs.Fits.{HasSeen}
use Rattle.op_law.specs.Knows.{channel_of, has_channel, knows}
use Rattle.op_law.specs.Fits.{things}
use Rattle.op_law.specs.Laws.{planned, under_way, IsRight, WritesNothing, IsPlan, Lawful}
use Rattle.op_law.proofs.Replying.{looks_reply}
use Rattle.op_law.proofs.Brief.{Briefs, briefs}
use Rattle.op_law.proofs.Walking.{EveryPlan, every_plan, Obeys, kept, next_fine, may_need}
use Rattle.op_law.proofs.Spaceless.{once as none_once}

-- a plan that writes nothing and asks for nothing
pub record IsPlain (p : Plan) : Type 0 where
  pub writes : p.writes ≡ []
  pub ask : p.ask ≡ None

-- the reply is the command's answer, and the catalogue stays, at each node whose channel has this open
abbrev pub IsAnswer : Cmd → Option Chan → Cat → Plan → Type 0
IsAnswer x channel c p = (node : ℕ) → has_channel c node (channel_of x) channel ≡ true → Answer c node x p.reply c

-- A command that only looks: it searches for no space, writes nothing, and on all blocks its plan is its answer, and it is brief.
pub record OnlyLooks (x : Cmd) : Type 0 where
  pub searches : (g : Geometry) (channel : Option Chan) → HasNoSearch (events_of g channel x)
  pub plain : (g : Geometry) (channel : Option Chan) → EveryPlan IsPlain (events_of g channel x)
  pub obeys : (g : Geometry) (channel : Option Chan) (seen : Seen) (bs : List Block) (own : Owners) (c : Cat) → Spells g bs own c → Obeys x g bs own c seen (IsAnswer x channel c) (events_of g channel x) []
  pub brief : Briefs x

pub both_first : (a b : Bool) → (a && b) ≡ true → a ≡ true
both_first true b e = refl
both_first false b e = e

module _ (x : Cmd) (looks : OnlyLooks x) where
  once : (g : Geometry) (channel : Option Chan) → SearchesOnce (events_of g channel x)
  once g channel = none_once (events_of g channel x) (looks.searches g channel)

  module _ (node : ℕ) (seen : Seen) (p : Plan) (has : HasSeen x seen) (is : IsNext x seen (need.Ready p)) where
    none : HasNoSpace (space_of seen)
    none = kept (events_of seen.geometry seen.channel x) (space_of seen) (HasNoSpace (space_of seen)) seen.locks seen.blocks (looks.searches seen.geometry seen.channel) has

    is_plain : IsPlain p
    is_plain = every_plan IsPlain (events_of seen.geometry seen.channel x) seen.locks seen.blocks (space_of seen) p (looks.plain seen.geometry seen.channel) is

    no_writes : map planned p.writes ≡ []
    no_writes = ap (map planned) is_plain.writes

    took_nothing : things seen.clusters seen.number ≡ nothing
    took_nothing = ap (λ n. things seen.clusters n) none.number ∙ ap (λ cs. things cs None) none.clusters

    right : IsRight node x seen.geometry p.writes (under_way x seen p.writes (knows node x seen)) p.reply
    right =
        let u = under_way x seen p.writes (knows node x seen) in
        record {
          named = λ base own c stock spelt known stands outs w h. absurd (subst (λ ws. Has ws w) is_plain.writes h);
          dirs = λ base own c stock spelt known stands outs w h. absurd (subst (λ ws. Has ws w) is_plain.writes h);
          slots = λ base own c stock spelt known stands outs w h. absurd (subst (λ ws. Has ws w) is_plain.writes h);
          kept_out = λ base own c stock spelt known stands outs w h. absurd (subst (λ ws. Has ws w) is_plain.writes h);
          guarded = λ base own c stock spelt known stands outs l touches. absurd (subst (λ ws. Touches (bare ws) l) no_writes touches);
          lawful = idle_lawful seen.geometry node u no_writes;
          reply = looks_reply seen.geometry node u x p.reply no_writes (λ base own c spelt knows stands.
              next_fine x seen base own c (λ held. IsAnswer x seen.channel c) (need.Ready p) (once seen.geometry seen.channel) (looks.obeys seen.geometry seen.channel seen base own c spelt) stands has is
              node (both_first (has_channel c node (channel_of x) seen.channel) _ knows));
          left = ap (λ ws. outs_after (things seen.clusters seen.number) ws) no_writes ∙ took_nothing;
        }

    plan : IsPlan node x seen p p.ask
    plan = subst (λ a. IsPlan node x seen p a) (sym is_plain.ask) right

    nothing_written : WritesNothing p p.reply
    nothing_written = by_reply p.reply where
      by_reply : (r : Reply) → WritesNothing p r
      by_reply (reply.Refused r) = (is_plain.writes, is_plain.ask)
      by_reply other = tt

  pub only_looks_lawful : Lawful x
  only_looks_lawful = record {
    searches = once;
    needs = λ node seen bs own c next has on is. may_need x seen bs own c (λ held. IsAnswer x seen.channel c) next
        (next_fine x seen bs own c (λ held. IsAnswer x seen.channel c) next (once seen.geometry seen.channel) (looks.obeys seen.geometry seen.channel seen bs own c on.spelt) on.stands has is);
    plans = plan;
    refusals = λ seen p has is. nothing_written 0 seen p has is;
    brief = briefs x looks.brief;
  }
