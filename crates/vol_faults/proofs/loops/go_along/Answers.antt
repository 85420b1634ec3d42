use Rattle.std.proofs.Common.{◌∙◌, sym}
use Rattle.vol_faults.specs.Walking.{IsGone, IsAlong, place_of}
use Rattle.vol_faults.proofs.WalkLemmas.{step-inside, open-inside, along-not, gone-along, if-ok}
use Rattle.vol_faults.proofs.loops.go_along.Goals as goal

pub go-requires-clause-places : goal.go-requires-clause-places
go-requires-clause-places c = step-inside c.args.cat.now c.args.n c.args.e.now c.args.walk.now c.requires.walk (sym c.is_step.ensures ∙ c.if-is_step.true)

pub go-requires-clause-begins : goal.go-requires-clause-begins
go-requires-clause-begins c = λ p there. open-inside c.args.cat.now c.args.walk.now c.args.e.now.fid.num p c.requires.walk there

pub returns-then-is_step : goal.returns-then-is_step
returns-then-is_step c =
    let w = c.args.walk.now in
    let e = c.args.e.now in
    if-ok c.go.result (IsGone c.args.n e.fid.num w c.go.new.walk (place_of w e.fid.num)) (IsAlong c.args.cat.now c.args.n e w c.go.new.walk)
    (λ found g. gone-along c.args.cat.now c.args.n e w c.go.new.walk found c.requires.walk c.requires.end c.requires.next (sym c.is_step.ensures ∙ c.if-is_step.true) g)
    c.go.ensures

pub returns-else-is_step : goal.returns-else-is_step
returns-else-is_step c = along-not c.args.cat.now c.args.n c.args.e.now c.args.walk.now c.requires.walk c.requires.end (sym c.is_step.ensures ∙ c.if-is_step.false)
