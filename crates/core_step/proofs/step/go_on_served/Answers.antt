use Rattle.std.proofs.Common.{◌≡◌, Some, refl, sym, ap, ◌∙◌, rules}
use Rattle.core_state.specs.Worlds.{state_of}
use Rattle.core_state.proofs.Nodes.{told_at}
use Rattle.core_step.proofs.FromStock.{begun_of, given_takes, begun_op, begun_op_fits, begun_op_geometry, begun_op_searches, needs_it_now}
use Rattle.core_step.proofs.Outcomes.{lacking}
use Rattle.core_step.proofs.step.go_on_served.Goals as goal

pub next_need-requires-clause-op : goal.next_need-requires-clause-op
next_need-requires-clause-op g c =
    let here = told_at (state_of g.O.Operation.cmd_is) c.args.core.now.nodes.items c.args.node c.index.result.now c.requires.node.from c.requires.node.to c.index.ensures in
    begun_op g.O.Operation.cmd_is (begun_of c.requires.ready) c.index.result.now here

pub next_need-requires-clause-fits : goal.next_need-requires-clause-fits
next_need-requires-clause-fits g c =
    let here = told_at (state_of g.O.Operation.cmd_is) c.args.core.now.nodes.items c.args.node c.index.result.now c.requires.node.from c.requires.node.to c.index.ensures in
    begun_op_fits g.O.Operation.cmd_is (begun_of c.requires.ready) c.index.result.now here c.requires.good

pub next_need-requires-clause-geometry : goal.next_need-requires-clause-geometry
next_need-requires-clause-geometry g c =
    let here = told_at (state_of g.O.Operation.cmd_is) c.args.core.now.nodes.items c.args.node c.index.result.now c.requires.node.from c.requires.node.to c.index.ensures in
    begun_op_geometry g.O.Operation.cmd_is (begun_of c.requires.ready) c.index.result.now here c.requires.good

pub next_need-requires-clause-searches : goal.next_need-requires-clause-searches
next_need-requires-clause-searches g c =
    let here = told_at (state_of g.O.Operation.cmd_is) c.args.core.now.nodes.items c.args.node c.index.result.now c.requires.node.from c.requires.node.to c.index.ensures in
    begun_op_searches g.O.Operation.cmd_is (begun_of c.requires.ready) c.index.result.now here c.requires.good

pub returns-in_err-need : goal.returns-in_err-need
returns-in_err-need g c =
    lacking _ (search rules) refl (given_takes c.requires.good c.requires.ready c.requires.plan c.requires.given) refl c.requires.room

pub by_need-requires-clause-needs : goal.by_need-requires-clause-needs
by_need-requires-clause-needs g c =
    let here = told_at (state_of g.O.Operation.cmd_is) c.args.core.now.nodes.items c.args.node c.index.result.now c.requires.node.from c.requires.node.to c.index.ensures in
    needs_it_now g.O.Operation.cmd_is (begun_of c.requires.ready) c.index.result.now here _ c.in_ok-need.ensures.need

pub by_need-requires-clause-lacks : goal.by_need-requires-clause-lacks
by_need-requires-clause-lacks g c s k b at e =
    let here = told_at (state_of g.O.Operation.cmd_is) c.args.core.now.nodes.items c.args.node c.index.result.now c.requires.node.from c.requires.node.to c.index.ensures in
    absurd (c.requires.given s c.requires.ready.cmd k b at (ap (λ q. q.cmd) (let f : Some c.requires.ready.state ≡ Some s = sym c.requires.ready.at ∙ at in let h : s ≡ c.requires.ready.state = cc in h) ∙ c.requires.ready.has) (needs_it_now g.O.Operation.cmd_is (begun_of c.requires.ready) c.index.result.now here _ c.in_ok-need.ensures.need s c.requires.ready.cmd at (ap (λ q. q.cmd) (let f : Some c.requires.ready.state ≡ Some s = sym c.requires.ready.at ∙ at in let h : s ≡ c.requires.ready.state = cc in h) ∙ c.requires.ready.has) ∙ e))
