use Rattle.std.proofs.Common.{arith}
use Rattle.vol_parts.specs.Volumes.{volume}
use Rattle.vol_parts.proofs.Headers.{used-stands}
use Rattle.vol_parts.proofs.one_slot.used_slot_runs.Goals as goal

pub bounds-blocks-slot_lbn : goal.bounds-blocks-slot_lbn
bounds-blocks-slot_lbn c =
    let s = (used-stands (volume c.args.home.now c.args.blocks.now) c.args.n c.requires.used).stands in
    omega (arith, s.inside, c.slot_lbn.ensures)

pub runs-requires-clause-offsets : goal.runs-requires-clause-offsets
runs-requires-clause-offsets c =
    let s = (used-stands (volume c.args.home.now c.args.blocks.now) c.args.n c.requires.used).stands in
    rw c.slot_lbn.ensures s.sound.offsets

pub runs-requires-clause-map : goal.runs-requires-clause-map
runs-requires-clause-map c =
    let s = (used-stands (volume c.args.home.now c.args.blocks.now) c.args.n c.requires.used).stands in
    rw c.slot_lbn.ensures s.sound.map
