use Rattle.std.proofs.Common.{List}
use Rattle.base_words.specs.Fields.{Block}
use Rattle.vol_repair.specs.BitSteps.{AreBitsSet, IsBitTurn}
use Rattle.vol_repair.specs.Steps.{IsStep}
use Rattle.vol_repair.specs.Touched.{IsTouched}
use Rattle.vol_repair.proofs.bits.set_clusters.Given as goal

abbrev pub invariant-loop-k : goal.invariant-loop-k
invariant-loop-k g l =
    let I = g.I.ImageDev in
    record {
      step : (first old : List Block) → AreBitsSet l.home first old l.fn.m.blocks 0 → IsStep (IsTouched l.home first) l.fn.m.blocks l.m.blocks (I.told l.fn.m.image) (I.told l.m.image) (I.faults l.fn.m.image) (I.faults l.m.image) ⊥;
      turn : (first old : List Block) → AreBitsSet l.home first old l.fn.m.blocks 0 → IsBitTurn l.home first old l.m.blocks l.counts.items l.control l.k;
    }
