use Rattle.std.proofs.Common.{◌≡◌, ◌-◌, arith}
use Rattle.fx_header.specs.Pointers.{blocks_in}
use Rattle.vol_parts.specs.Volumes.{volume, runs}
use Rattle.vol_parts.proofs.Alone.{broken-left}
use Rattle.vol_parts.proofs.chains.is_broken.Goals as goal

pub returns : goal.returns
returns c =
    let v = volume c.args.home.now c.args.blocks.now in
    let f = c.args.first.now in
    let done = rw c.in-None.ensures.steps.0 at c.loop-run.invariant in
    let left : c.loop-run.left ≡ f.blocks - blocks_in (runs v c.args.n) = omega (arith, done) in
    broken-left v c.args.n f c.loop-run.left c.requires.first left
