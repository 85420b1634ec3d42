-- What stages leave of what the channels have open.
use Rattle.std.specs.Prelude.{◌≡◌, ◌⊎◌, ℕ, Option, Some, None, slice_set}
use Rattle.plain_cat.specs.declared.command.Cmd.{Cmd}
use Rattle.plain_cat.specs.declared.command.Cmd.TheVariants as cmd
use Rattle.plain_cat.specs.declared.history.Stage.{Stage}
use Rattle.plain_cat.specs.declared.cat.Cat.{Cat}
use Rattle.plain_rules.specs.Lookups.{place}
use Rattle.vol_under.specs.UnderWay.{StandsAt}

-- all channels have open what they had, or the command is a CLOSE of this channel, which has nothing open any more
abbrev pub KeepsOpens : Cat → ℕ → Option Cmd → Cat → Type 0
KeepsOpens c n command d = (d.opens ≡ c.opens) ⊎ ((chan : ℕ) × (command ≡ Some (cmd.CloseFile chan)) × (d.opens ≡ slice_set c.opens (place n chan) None))

abbrev pub StagesKeepOpens : Type 0
StagesKeepOpens = (c d : Cat) (n : ℕ) (command : Option Cmd) (s : Stage) → StandsAt c n command s d → KeepsOpens c n command d
