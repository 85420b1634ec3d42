-- The commands by which a channel opens a file, and closes it.
use Rattle.std.specs.Prelude.{◌≡◌, true}
use Rattle.plain_cat.specs.InForm.{is_eighth}
use Rattle.plain_cat.specs.declared.command.Cmd.{Cmd}
use Rattle.plain_cat.specs.declared.command.Cmd.TheVariants.{OpenFile, CloseFile}

-- an OPEN, on any channel, of any identifier, and in any mode
abbrev pub IsOpen : Cmd → Type 0
IsOpen (OpenFile chan file mode) = Unit {0}
IsOpen other = ⊥

-- a CLOSE of a channel in form
abbrev pub IsClose : Cmd → Type 0
IsClose (CloseFile chan) = is_eighth chan ≡ true
IsClose other = ⊥

-- either
abbrev pub IsAccess : Cmd → Type 0
IsAccess (OpenFile chan file mode) = IsOpen (OpenFile chan file mode)
IsAccess (CloseFile chan) = IsClose (CloseFile chan)
IsAccess other = ⊥
