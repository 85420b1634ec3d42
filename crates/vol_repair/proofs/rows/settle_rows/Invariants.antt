use Rattle.std.proofs.Common.{List}
use Rattle.base_words.specs.Fields.{Block}
use Rattle.vol_repair.specs.Steps.{IsStep}
use Rattle.vol_repair.specs.Touched.{IsTouched, IsGround}
use Rattle.vol_repair.proofs.RowSettling.{AreSettledTo}
use Rattle.vol_repair.proofs.rows.settle_rows.Given as goal

abbrev pub invariant-loop-j : goal.invariant-loop-j
invariant-loop-j g l =
    let I = g.I.ImageDev in
    record {
      step : (first : List Block) → IsGround l.home first l.fn.m.blocks → IsStep (IsTouched l.home first) l.fn.m.blocks l.m.blocks (I.told l.fn.m.image) (I.told l.m.image) (I.faults l.fn.m.image) (I.faults l.m.image) ⊥;
      settled : (first : List Block) → IsGround l.home first l.fn.m.blocks → AreSettledTo l.home first l.fn.m.blocks l.m.blocks l.j l.seen.items;
    }
