use Rattle.std.proofs.Common.{vec_len}
use Rattle.std.specs.Vec.{vec_capacity}
use Rattle.run_trace.proofs.Copies.{HasRead}
use Rattle.run_trace.proofs.copied.CopiedImageDev.read_onto.Given as goal

abbrev pub invariant-loop-at : goal.invariant-loop-at
invariant-loop-at l =
    HasRead l.fn.self l.fn.self l.lbn l.at l.fn.all.items l.all.items (vec_len l.fn.all) (vec_len l.all) (vec_capacity l.fn.all) (vec_capacity l.all)
