-- The commands that only look.
use Rattle.plain_cat.specs.declared.command.Cmd.{Cmd}
use Rattle.plain_cat.specs.declared.command.Cmd.TheVariants.{Lookup, List, Stat}

abbrev pub IsLook : Cmd → Type 0
IsLook (Lookup reg dir name ver) = Unit {0}
IsLook (List dir) = Unit {0}
IsLook (Stat file) = Unit {0}
IsLook other = ⊥
