use Rattle.std.proofs.Common.{◌≡◌, true, refl, sym, subst, rules}
use Rattle.op_law.specs.declared.need.Need.TheVariants as need
use Rattle.std.specs.Prelude.{IfSome}
use Rattle.op_law.specs.Needs.{need_of}
use Rattle.core_state.specs.Worlds.{state_of}
use Rattle.core_state.proofs.Nodes.{told_at}
use Rattle.core_step.proofs.FromStock.{ready_unserved, begun_takes, begun_op, begun_op_fits, begun_op_geometry, begun_op_searches, begun_need, needs_it_now, serves_it, lacks_it, not_searching}
use Rattle.core_step.proofs.Outcomes.{lacking}
use Rattle.core_step.proofs.step.unplanned.Goals as goal

pub next_need-requires-clause-op : goal.next_need-requires-clause-op
next_need-requires-clause-op g c =
    let here = told_at (state_of g.O.Operation.cmd_is) c.args.core.now.nodes.items c.args.node c.index-at.result.now c.requires.node.from c.requires.node.to c.index-at.ensures in
    begun_op g.O.Operation.cmd_is c.requires.begun c.index-at.result.now here

pub next_need-requires-clause-fits : goal.next_need-requires-clause-fits
next_need-requires-clause-fits g c =
    let here = told_at (state_of g.O.Operation.cmd_is) c.args.core.now.nodes.items c.args.node c.index-at.result.now c.requires.node.from c.requires.node.to c.index-at.ensures in
    begun_op_fits g.O.Operation.cmd_is c.requires.begun c.index-at.result.now here c.requires.good

pub next_need-requires-clause-geometry : goal.next_need-requires-clause-geometry
next_need-requires-clause-geometry g c =
    let here = told_at (state_of g.O.Operation.cmd_is) c.args.core.now.nodes.items c.args.node c.index-at.result.now c.requires.node.from c.requires.node.to c.index-at.ensures in
    begun_op_geometry g.O.Operation.cmd_is c.requires.begun c.index-at.result.now here c.requires.good

pub next_need-requires-clause-searches : goal.next_need-requires-clause-searches
next_need-requires-clause-searches g c =
    let here = told_at (state_of g.O.Operation.cmd_is) c.args.core.now.nodes.items c.args.node c.index-at.result.now c.requires.node.from c.requires.node.to c.index-at.ensures in
    begun_op_searches g.O.Operation.cmd_is c.requires.begun c.index-at.result.now here c.requires.good

pub returns-in_err-need : goal.returns-in_err-need
returns-in_err-need g c =
    let here = told_at (state_of g.O.Operation.cmd_is) c.args.core.now.nodes.items c.args.node c.index-at.result.now c.requires.node.from c.requires.node.to c.index-at.ensures in
    lacking _ (search rules) refl (begun_takes c.requires.good c.requires.begun c.requires.plan (not_searching g.O.Operation.cmd_is c.requires.begun c.index-at.result.now here c.in_err-need.ensures.memory)) refl c.requires.room

pub by_stock-requires-clause-needs : goal.by_stock-requires-clause-needs
by_stock-requires-clause-needs g c =
    let here = told_at (state_of g.O.Operation.cmd_is) c.args.core.now.nodes.items c.args.node c.index-at.result.now c.requires.node.from c.requires.node.to c.index-at.ensures in
    (needs_it_now g.O.Operation.cmd_is c.requires.begun c.index-at.result.now here (need.Space c.in-Space.clusters c.in-Space.number) (subst (λ y. IfSome c.index-at.result.now.op (λ op. need_of (g.O.Operation.cmd_is op) c.index-at.result.now.seen ≡ y)) c.in-Space.is c.in_ok-need.ensures.need))

pub by_stock-requires-clause-serves : goal.by_stock-requires-clause-serves
by_stock-requires-clause-serves g c =
    let here = told_at (state_of g.O.Operation.cmd_is) c.args.core.now.nodes.items c.args.node c.index-at.result.now c.requires.node.from c.requires.node.to c.index-at.ensures in
    serves_it g.O.Operation.cmd_is c.requires.begun c.index-at.result.now here c.in-Space.clusters c.in-Space.number true (sym c.if-serves.ensures)

pub by_need-requires-clause-ready : goal.by_need-requires-clause-ready
by_need-requires-clause-ready g c =
    let here = told_at (state_of g.O.Operation.cmd_is) c.args.core.now.nodes.items c.args.node c.index-at.result.now c.requires.node.from c.requires.node.to c.index-at.ensures in
    let is = begun_need g.O.Operation.cmd_is c.requires.begun c.index-at.result.now here (need.Space c.in-Space.clusters c.in-Space.number) (subst (λ y. IfSome c.index-at.result.now.op (λ op. need_of (g.O.Operation.cmd_is op) c.index-at.result.now.seen ≡ y)) c.in-Space.is c.in_ok-need.ensures.need) in
    ready_unserved c.requires.good c.requires.begun c.requires.plan (need.Space c.in-Space.clusters c.in-Space.number) is (lacks_it g.O.Operation.cmd_is c.requires.begun c.index-at.result.now here c.in-Space.clusters c.in-Space.number (sym c.if-serves.ensures))

pub by_need-requires-clause-needs : goal.by_need-requires-clause-needs
by_need-requires-clause-needs g c =
    let here = told_at (state_of g.O.Operation.cmd_is) c.args.core.now.nodes.items c.args.node c.index-at.result.now c.requires.node.from c.requires.node.to c.index-at.ensures in
    (needs_it_now g.O.Operation.cmd_is c.requires.begun c.index-at.result.now here (need.Space c.in-Space.clusters c.in-Space.number) (subst (λ y. IfSome c.index-at.result.now.op (λ op. need_of (g.O.Operation.cmd_is op) c.index-at.result.now.seen ≡ y)) c.in-Space.is c.in_ok-need.ensures.need))

pub by_need-requires-clause-lacks : goal.by_need-requires-clause-lacks
by_need-requires-clause-lacks g c =
    let here = told_at (state_of g.O.Operation.cmd_is) c.args.core.now.nodes.items c.args.node c.index-at.result.now c.requires.node.from c.requires.node.to c.index-at.ensures in
    lacks_it g.O.Operation.cmd_is c.requires.begun c.index-at.result.now here c.in-Space.clusters c.in-Space.number (sym c.if-serves.ensures)

pub by_need-requires-in_default : goal.by_need-requires-in_default
by_need-requires-in_default g c =
    let here = told_at (state_of g.O.Operation.cmd_is) c.args.core.now.nodes.items c.args.node c.index-at.result.now c.requires.node.from c.requires.node.to c.index-at.ensures in
    let is = begun_need g.O.Operation.cmd_is c.requires.begun c.index-at.result.now here _ c.in_ok-need.ensures.need in
    record {
      good = c.requires.good;
      node = c.requires.node;
      ready = ready_unserved c.requires.good c.requires.begun c.requires.plan _ is (λ s k b at e. absurd (c.in_default.not-Space k b e));
      plan = c.requires.plan;
      needs = needs_it_now g.O.Operation.cmd_is c.requires.begun c.index-at.result.now here _ c.in_ok-need.ensures.need;
      lacks = λ s k b at e. absurd (c.in_default.not-Space k b e);
      room = c.requires.room;
    }
