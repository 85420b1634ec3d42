-- The command that removes an entry of a directory.
use Rattle.plain_cat.specs.declared.command.Cmd.{Cmd}
use Rattle.plain_cat.specs.declared.command.Cmd.TheVariants.{Delete}

-- a DELETE, of any directory, name and version
abbrev pub IsDelete : Cmd → Type 0
IsDelete (Delete dir name ver) = Unit {0}
IsDelete other = ⊥
