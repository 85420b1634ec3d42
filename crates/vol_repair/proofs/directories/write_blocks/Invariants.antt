-- The blocks before number i are written.
use Rattle.std.proofs.Common.{◌≡◌, ℕ, take}
use Rattle.base_words.specs.Lists.{written}
use Rattle.vol_repair.specs.Aims.{Aim, Holds}
use Rattle.vol_repair.specs.Remaking.{laid}
use Rattle.vol_repair.specs.Steps.{IsStep}
use Rattle.vol_repair.proofs.directories.write_blocks.Given as goal

abbrev pub invariant-loop-i : goal.invariant-loop-i
invariant-loop-i g l =
    let I = g.I.ImageDev in
    record {
      blocks : l.m.blocks ≡ written (take l.i (laid l.lbn l.blocks)) l.fn.m.blocks;
      step : (a : Aim) → ((k : ℕ) → Holds a (written (take k (laid l.lbn l.blocks)) l.fn.m.blocks))
          → IsStep (Holds a) l.fn.m.blocks l.m.blocks (I.told l.fn.m.image) (I.told l.m.image) (I.faults l.fn.m.image) (I.faults l.m.image) ⊥;
    }
