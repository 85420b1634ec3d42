use Rattle.std.proofs.Common.{◌≡◌, ◌++◌, replicate}
use Rattle.base_words.specs.Tables.{zeros}
use Rattle.plain_vol.proofs.channels.push_zeros.Given as goal

abbrev pub invariant-loop-i : goal.invariant-loop-i
invariant-loop-i l = l.blocks ≡ l.initial.blocks ++ replicate l._i zeros
