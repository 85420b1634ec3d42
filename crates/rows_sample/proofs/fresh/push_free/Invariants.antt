use Rattle.std.proofs.Common.{◌≡◌, ◌++◌, replicate}
use Rattle.plain_cat.specs.declared.cat.Slot.TheVariants.{Free}
use Rattle.rows_sample.proofs.fresh.push_free.Given as goal

abbrev pub invariant-loop-i : goal.invariant-loop-i
invariant-loop-i l = l.files ≡ l.initial.files ++ replicate l._i (Free 0)
