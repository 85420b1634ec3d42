-- The ask of a CLOSE.
use Rattle.std.specs.Prelude.{ℕ, Option, Some, None}
use Rattle.plain_cat.specs.declared.mode.Mode.{Mode}
use Rattle.plain_cat.specs.declared.mode.Mode.TheVariants.{EX}
use Rattle.op_law.specs.declared.need.Ask.{Ask}
use Rattle.op_law.specs.Channels.{close_ask}

-- whether no other channel has the file of number n open, unless the mode of this one says so
abbrev pub ask_by : ℕ → ℕ → Mode → Option Ask
ask_by n chan EX = None
ask_by n chan other = Some (close_ask n chan)
