-- The entry that is looked for in a directory, by its name and version.
use Rattle.std.specs.Prelude.{◌==◌, ◌&&◌, ◌||◌, ℕ, Bool, List, Option}
use Rattle.std.specs.List.{find}
use Rattle.std.specs.Str.{bytes_eq}
use Rattle.fx_dir.specs.declared.RawEnt.{RawEnt}
use Rattle.fx_dir.specs.declared.Version.{Version}

-- a version is the one that is looked for, where 0 means each
unfoldable pub is_of : ℕ → ℕ → Bool
is_of ver v = (ver == 0) || (v == ver)

-- an entry has this name, and this version, where 0 means each
unfoldable pub is_wanted : List ℕ → ℕ → RawEnt → Bool
is_wanted name ver e = bytes_eq e.name name && is_of ver e.ver

-- the first entry of this name and version: where the version is 0, the highest of the name
abbrev pub wanted_in : List ℕ → ℕ → List RawEnt → Option RawEnt
wanted_in name ver es = find (is_wanted name ver) es

-- what an entry says besides its name
abbrev pub version_of : RawEnt → Version
version_of e = record { ver = e.ver; num = e.num; seq = e.seq }
