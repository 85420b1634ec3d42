use Rattle.std.proofs.Common.{◌≡◌, ◌∙◌, ℕ, replicate, ap, arith}
use Rattle.core_state.specs.Mounting.{at_rest}
use Rattle.core_state.proofs.mounting.all_resting.Goals as goal

pub returns : goal.returns
returns g c =
    let done = c.loop-test.false in
    let end = c.loop.auto.counter-end in
    let count : c.loop.counter ≡ c.args.count = omega arith in
    c.loop.invariant ∙ ap (λ (k : ℕ). replicate k (at_rest c.args.geometry)) count
