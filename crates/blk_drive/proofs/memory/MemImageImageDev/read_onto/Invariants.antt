use Rattle.std.proofs.Common.{vec_len}
use Rattle.std.specs.Vec.{vec_capacity}
use Rattle.blk_drive.proofs.Loads.{HasRead}
use Rattle.blk_drive.proofs.memory.MemImageImageDev.read_onto.Given as goal

abbrev pub invariant-loop-at : goal.invariant-loop-at
invariant-loop-at l =
    HasRead l.fn.self.blocks l.self.blocks l.lbn l.at l.fn.all.items l.all.items (vec_len l.fn.all) (vec_len l.all) (vec_capacity l.fn.all) (vec_capacity l.all)
    l.fn.self.faults l.self.faults l.fn.self.lost l.self.lost
