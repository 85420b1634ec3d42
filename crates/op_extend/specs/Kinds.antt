-- The commands that give a file more clusters, or fewer.
use Rattle.std.specs.Prelude.{◌≡◌, true}
use Rattle.plain_cat.specs.InForm.{is_within, is_count}
use Rattle.plain_cat.specs.declared.command.Cmd.{Cmd}
use Rattle.plain_cat.specs.declared.command.Cmd.TheVariants.{Extend, Trunc}

-- An EXTEND with its number of blocks in form. Its file may be any identifier, since it may come out of a register.
abbrev pub IsExtend : Cmd → Type 0
IsExtend (Extend file blocks) = is_within 1 65536 blocks ≡ true
IsExtend other = ⊥

-- the same of a TRUNC
abbrev pub IsTrunc : Cmd → Type 0
IsTrunc (Trunc file blocks) = is_count blocks ≡ true
IsTrunc other = ⊥

-- either
abbrev pub ChangesSize : Cmd → Type 0
ChangesSize (Extend file blocks) = IsExtend (Extend file blocks)
ChangesSize (Trunc file blocks) = IsTrunc (Trunc file blocks)
ChangesSize other = ⊥
