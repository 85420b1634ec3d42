-- The commands that make a file.
use Rattle.std.specs.Prelude.{◌≡◌, ◌&&◌, true}
use Rattle.base_words.specs.Names.{is_name}
use Rattle.plain_cat.specs.InForm.{is_dir_name, is_version, is_count, is_owner}
use Rattle.plain_cat.specs.declared.command.Cmd.{Cmd}
use Rattle.plain_cat.specs.declared.command.Cmd.TheVariants.{Create, MkDir}

-- A CREATE or a MKDIR with name, version, number of blocks and owner in form. Its directory may be any identifier, since it may
-- come out of a register.
abbrev pub IsMake : Cmd → Type 0
IsMake (Create reg dir name ver blocks owner) = (is_name name && (is_version ver && (is_count blocks && is_owner owner))) ≡ true
IsMake (MkDir reg dir name owner) = (is_dir_name name && is_owner owner) ≡ true
IsMake other = ⊥
