-- The directories of the numbers below n are remade.
use Rattle.std.proofs.Common.{List}
use Rattle.base_words.specs.Fields.{Block}
use Rattle.vol_repair.specs.Phases.{IsBeforeDirs}
use Rattle.vol_repair.specs.Remaking.{IsSoFar}
use Rattle.vol_repair.specs.Steps.{IsStep}
use Rattle.vol_repair.specs.Touched.{IsTouched}
use Rattle.vol_repair.proofs.directories.make_directories.Given as goal

abbrev pub invariant-loop-n : goal.invariant-loop-n
invariant-loop-n g l =
    let I = g.I.ImageDev in
    record {
      step : (first : List Block) → IsBeforeDirs l.home first l.sound l.fn.m.blocks
          → IsStep (IsTouched l.home first) l.fn.m.blocks l.m.blocks (I.told l.fn.m.image) (I.told l.m.image) (I.faults l.fn.m.image) (I.faults l.m.image) ⊥;
      so_far : (first : List Block) → IsBeforeDirs l.home first l.sound l.fn.m.blocks → IsSoFar l.home first l.fn.m.blocks l.n l.m.blocks;
    }
