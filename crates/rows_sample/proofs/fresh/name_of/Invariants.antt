use Rattle.std.proofs.Common.{◌≡◌, take}
use Rattle.rows_sample.proofs.fresh.name_of.Given as goal

abbrev pub invariant-loop-byte : goal.invariant-loop-byte
invariant-loop-byte l = l.name ≡ take l.byte-index l.text
