-- The entries of a directory's blocks pack exactly where those of the catalogue fit.
use Rattle.std.specs.Prelude.{◌≡◌, ℕ, List, is_some, map}
use Rattle.fx_dir.specs.declared.RawEnt.{RawEnt}
use Rattle.fx_dir.specs.Writing.{packed}
use Rattle.plain_rules.specs.Directories.{fits}
use Rattle.vol_parts.specs.Catalogues.{plain_entry}

-- k blocks can be written of these entries exactly where the catalogue's entries fit in k blocks
abbrev pub PackingFits : Type 0
PackingFits = (k : ℕ) (es : List RawEnt) → is_some (packed k es) ≡ fits k (map plain_entry es)
