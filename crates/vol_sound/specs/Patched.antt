-- What holds of the catalogue that mending gets from a repair.
use Rattle.std.specs.Prelude.{◌≡◌, ℕ, true, Some}
use Rattle.plain_cat.specs.declared.cat.File.{File}
use Rattle.plain_rules.specs.Lookups.{file_at}
use Rattle.vol_parts.specs.Volumes.{Volume}
use Rattle.vol_sound.specs.Begun.{has_row, patched}

-- each owner of a file has a row
abbrev pub OwnersHaveRows : Type 0
OwnersHaveRows = (v : Volume) (n : ℕ) (f : File) → file_at (patched v) n ≡ Some f → has_row (patched v) f.owner.0 ≡ true
