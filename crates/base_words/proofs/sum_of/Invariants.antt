use Rattle.std.proofs.Common.{◌≡◌}
use Rattle.base_words.specs.Fields.{checksum}
use Rattle.base_words.proofs.sum_of.Given as goal

abbrev pub invariant-loop-k : goal.invariant-loop-k
invariant-loop-k l = l.sum ≡ checksum l.b l.k
