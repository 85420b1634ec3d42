use Rattle.std.proofs.Common.{◌≡◌, Some, cond, refl, sym, ap, subst, ◌∙◌, rules, arith}
use Rattle.core_space.specs.Rule.{space_event, TakesMemory}
use Rattle.core_state.specs.Worlds.{state_of, plain_of}
use Rattle.core_state.specs.Event as event
use Rattle.core_state.specs.Events.{by_rule, by_space, or_use, phase_begun, space_state}
use Rattle.core_step.specs.Moving.{CanMove}
use Rattle.core_step.proofs.FromStock.{few_wanted, space_can, space_makes, rule_takes}
use Rattle.core_step.proofs.Outcomes.{makes_as, lacking}
use Rattle.core_step.proofs.Ready.{IsItem, item_of, item_geometry, one_node, tells}
use Rattle.core_step.proofs.Ruled.{space_puts}
use Rattle.core_step.proofs.step.by_space.Goals as goal

pub space_event-requires-clause-geometry : goal.space_event-requires-clause-geometry
space_event-requires-clause-geometry g c =
    let it : IsItem g.O.Operation.cmd_is c.requires.ready c.index-at.result.now = item_of g.O.Operation.cmd_is c.args.core.now.nodes.items c.requires.ready c.index-at.result.now refl c.requires.node c.index-at.ensures in
    item_geometry it c.requires.good

pub space_event-requires-clause-need : goal.space_event-requires-clause-need
space_event-requires-clause-need g c =
    let it : IsItem g.O.Operation.cmd_is c.requires.ready c.index-at.result.now = item_of g.O.Operation.cmd_is c.args.core.now.nodes.items c.requires.ready c.index-at.result.now refl c.requires.node c.index-at.ensures in
    let is = c.requires.needs c.requires.ready.state c.requires.ready.cmd c.requires.ready.at c.requires.ready.has in
    let lacks = c.requires.lacks c.requires.ready.state c.args.need.clusters c.args.need.number c.requires.ready.at refl in
    let few = few_wanted c.requires.good c.requires.ready c.requires.plan c.args.need.clusters c.args.need.number is lacks in omega arith

pub returns-in_err-event : goal.returns-in_err-event
returns-in_err-event g c =
    let it : IsItem g.O.Operation.cmd_is c.requires.ready c.index-at.result.now = item_of g.O.Operation.cmd_is c.args.core.now.nodes.items c.requires.ready c.index-at.result.now refl c.requires.node c.index-at.ensures in
    let is = c.requires.needs c.requires.ready.state c.requires.ready.cmd c.requires.ready.at c.requires.ready.has in
    let lacks = c.requires.lacks c.requires.ready.state c.args.need.clusters c.args.need.number c.requires.ready.at refl in
    lacking _ (search rules) refl (rule_takes c.requires.good c.requires.ready c.requires.plan c.args.need.clusters c.args.need.number is lacks (subst (λ q. TakesMemory (space_state q)) (tells it) c.in_err-event.ensures.memory)) refl c.requires.room

pub by_rule-requires-clause-need : goal.by_rule-requires-clause-need
by_rule-requires-clause-need g c =
    let it : IsItem g.O.Operation.cmd_is c.requires.ready c.index-at.result.now = item_of g.O.Operation.cmd_is c.args.core.now.nodes.items c.requires.ready c.index-at.result.now refl c.requires.node c.index-at.ensures in
    let is = c.requires.needs c.requires.ready.state c.requires.ready.cmd c.requires.ready.at c.requires.ready.has in
    let lacks = c.requires.lacks c.requires.ready.state c.args.need.clusters c.args.need.number c.requires.ready.at refl in
    let few = few_wanted c.requires.good c.requires.ready c.requires.plan c.args.need.clusters c.args.need.number is lacks in omega arith

pub by_rule-requires-clause-makes : goal.by_rule-requires-clause-makes
by_rule-requires-clause-makes g c s at =
    let it : IsItem g.O.Operation.cmd_is c.requires.ready c.index-at.result.now = item_of g.O.Operation.cmd_is c.args.core.now.nodes.items c.requires.ready c.index-at.result.now refl c.requires.node c.index-at.ensures in
    let is = c.requires.needs c.requires.ready.state c.requires.ready.cmd c.requires.ready.at c.requires.ready.has in
    let lacks = c.requires.lacks c.requires.ready.state c.args.need.clusters c.args.need.number c.requires.ready.at refl in
    let one : Some c.requires.ready.state ≡ Some s = sym c.requires.ready.at ∙ at in
    let same : c.requires.ready.state ≡ s = cc in
    let mine : (state_of g.O.Operation.cmd_is c.index-at.result.now) ≡ s = one_node it s at in
    let found = c.in_ok-event.ensures.event in
    let begun = c.phase_begun-phase.ensures in
    let is_event = ap (λ q. by_space q c.args.need.clusters c.args.need.number) same ∙ ap (λ t. cond t event.SpaceEnd (by_rule s (phase_begun s.run.phase) c.args.need (space_event (space_state s) c.args.need))) (c.requires.lacks s c.args.need.clusters c.args.need.number at refl) ∙ (λ i. by_rule s (phase_begun (sym mine i).run.phase) c.args.need (space_event (space_state (sym mine i)) c.args.need)) ∙ (λ i. by_rule s (sym begun i) c.args.need (sym found i)) in
    makes_as (space_makes c.requires.good c.requires.ready c.requires.plan c.args.need.clusters c.args.need.number is lacks) (λ i. or_use (plain_of g.O.Operation.cmd_is c.args.core.now) (same i) (is_event i))

pub by_rule-requires-clause-can : goal.by_rule-requires-clause-can
by_rule-requires-clause-can g c s at =
    let it : IsItem g.O.Operation.cmd_is c.requires.ready c.index-at.result.now = item_of g.O.Operation.cmd_is c.args.core.now.nodes.items c.requires.ready c.index-at.result.now refl c.requires.node c.index-at.ensures in
    let is = c.requires.needs c.requires.ready.state c.requires.ready.cmd c.requires.ready.at c.requires.ready.has in
    let lacks = c.requires.lacks c.requires.ready.state c.args.need.clusters c.args.need.number c.requires.ready.at refl in
    let one : Some c.requires.ready.state ≡ Some s = sym c.requires.ready.at ∙ at in
    let same : c.requires.ready.state ≡ s = cc in
    let mine : (state_of g.O.Operation.cmd_is c.index-at.result.now) ≡ s = one_node it s at in
    let found = c.in_ok-event.ensures.event in
    let begun = c.phase_begun-phase.ensures in
    let is_event = ap (λ q. by_space q c.args.need.clusters c.args.need.number) same ∙ ap (λ t. cond t event.SpaceEnd (by_rule s (phase_begun s.run.phase) c.args.need (space_event (space_state s) c.args.need))) (c.requires.lacks s c.args.need.clusters c.args.need.number at refl) ∙ (λ i. by_rule s (phase_begun (sym mine i).run.phase) c.args.need (space_event (space_state (sym mine i)) c.args.need)) ∙ (λ i. by_rule s (sym begun i) c.args.need (sym found i)) in
    let can = space_can c.requires.good c.requires.ready c.requires.plan c.args.need.clusters c.args.need.number is lacks in
    subst (λ e. CanMove (plain_of g.O.Operation.cmd_is c.args.core.now) c.args.node s e) is_event (subst (λ q. CanMove (plain_of g.O.Operation.cmd_is c.args.core.now) c.args.node q (by_space c.requires.ready.state c.args.need.clusters c.args.need.number)) same can)

pub by_rule-requires-clause-puts : goal.by_rule-requires-clause-puts
by_rule-requires-clause-puts g c s lbn b at put =
    let it : IsItem g.O.Operation.cmd_is c.requires.ready c.index-at.result.now = item_of g.O.Operation.cmd_is c.args.core.now.nodes.items c.requires.ready c.index-at.result.now refl c.requires.node c.index-at.ensures in
    let is = c.requires.needs c.requires.ready.state c.requires.ready.cmd c.requires.ready.at c.requires.ready.has in
    let lacks = c.requires.lacks c.requires.ready.state c.args.need.clusters c.args.need.number c.requires.ready.at refl in
    let one : Some c.requires.ready.state ≡ Some s = sym c.requires.ready.at ∙ at in
    let same : c.requires.ready.state ≡ s = cc in
    let mine : (state_of g.O.Operation.cmd_is c.index-at.result.now) ≡ s = one_node it s at in
    let found = c.in_ok-event.ensures.event in
    let begun = c.phase_begun-phase.ensures in
    space_puts s lbn b c.args.need ((λ i. space_event (space_state (sym mine i)) c.args.need) ∙ sym found ∙ put)
