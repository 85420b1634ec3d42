-- The commands that move a block of a file that a channel has open.
use Rattle.std.specs.Prelude.{◌≡◌, ◌&&◌, true}
use Rattle.plain_cat.specs.InForm.{is_count, is_text}
use Rattle.plain_cat.specs.declared.command.Cmd.{Cmd}
use Rattle.plain_cat.specs.declared.command.Cmd.TheVariants.{ReadBlock, WriteBlock}

-- a READ with its virtual block in form
abbrev pub IsRead : Cmd → Type 0
IsRead (ReadBlock chan vbn) = is_count vbn ≡ true
IsRead other = ⊥

-- a WRITE with its virtual block and its text in form
abbrev pub IsWrite : Cmd → Type 0
IsWrite (WriteBlock chan vbn text) = is_count vbn && is_text text ≡ true
IsWrite other = ⊥

-- either
abbrev pub MovesData : Cmd → Type 0
MovesData (ReadBlock chan vbn) = IsRead (ReadBlock chan vbn)
MovesData (WriteBlock chan vbn text) = IsWrite (WriteBlock chan vbn text)
MovesData other = ⊥
