use Rattle.std.proofs.Common.{◌≤◌, ◌<◌, ◌∙◌, ap, sym, subst, arith}
use Rattle.op_law.specs.Behind.{goes_on_by, FollowsBy}
use Rattle.op_steps.specs.Seeing.{file_seen}
use Rattle.op_steps.proofs.Links.{slot_look, behind_next, next_within, next_need, goes_along}
use Rattle.op_steps.proofs.chains.links_seen.Goals as goal

pub slot_seen-requires-clause-number : goal.slot_seen-requires-clause-number
slot_seen-requires-clause-number c =
    let g = c.args.g.now in
    let more : c.loop.counter < c.args.count = (let t = c.loop-test.true in omega arith) in
    subst (λ n. n ≤ g.files) (sym c.next_number.ensures)
    (next_within g c.args.mode c.args.count (file_seen g c.args.f.now) c.args.rest c.loop.counter c.loop.last.now c.loop.behind more c.loop.invariant)

pub returns-in-Next-clause-need : goal.returns-in-Next-clause-need
returns-in-Next-clause-need c = λ next space.
    let g = c.args.g.now in
    let f = file_seen g c.args.f.now in
    let more : c.loop.counter < c.args.count = (let t = c.loop-test.true in omega arith) in
    let then = behind_next g c.args.mode c.args.count f c.args.rest c.loop.counter c.loop.last.now c.loop.behind more c.loop.invariant next in
    next_need g c.args.mode c.args.count f c.args.rest c.loop.counter c.loop.last.now c.loop.behind more c.loop.invariant next space
    ∙ ap (λ n. goes_on_by (slot_look g c.args.mode n then) c.loop.behind space) (sym c.next_number.ensures)
    ∙ c.in-Next.ensures.need then space

pub loop-preserved : goal.loop-preserved
loop-preserved c =
    let g = c.args.g.now in
    let more : c.loop.counter < c.args.count = (let t = c.loop-test.true in omega arith) in
    goes_along g c.args.mode c.args.count (file_seen g c.args.f.now) c.args.rest c.loop.counter c.loop.last.now c.loop.behind more c.loop.invariant c.in-Seen.block.now c.in-Seen.others
    c.in-Seen.ensures.head
    (λ next space. ap (λ n. goes_on_by (slot_look g c.args.mode n next) c.loop.behind space) (sym c.next_number.ensures) ∙ c.in-Seen.ensures.need next space)
    (λ next space h. c.in-Seen.ensures.follows next space (subst (λ n. FollowsBy (slot_look g c.args.mode n next) c.loop.behind space) (sym c.next_number.ensures) h))
