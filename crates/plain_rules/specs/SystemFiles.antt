-- The system files and their entries.
use Rattle.std.specs.Prelude.{nat_le, if◌then◌else◌, ℕ, Bool, ◌==◌, ◌||◌, List, None, Option, Some, [], ◌&&◌}
use Rattle.plain_cat.specs.declared.entries.DirEnt.{DirEnt}
use Rattle.plain_cat.specs.declared.cat.File.{File}
use Rattle.plain_cat.specs.declared.cat.Cat.{Cat}
use Rattle.plain_rules.specs.Lookups.{file_at}
use Rattle.plain_rules.specs.Mending.{is_own}

-- the sequence of a system file's identifier: its own number up to 9, then 1
abbrev pub system_seq : ℕ → ℕ
system_seq n = if nat_le n 9 then n else 1

-- the master file directory and [SYSLOST]
abbrev pub is_system_directory : ℕ → Bool
is_system_directory n = (n == 4) || (n == 11)

-- the entries of a file that is a directory
abbrev pub listed : Option File → List DirEnt
listed None = []
listed (Some f) = if f.dir then f.entries else []

-- the entries of the directory of this number
abbrev pub entries_of : Cat → ℕ → List DirEnt
entries_of c n = listed (file_at c n)

-- whether an entry of the master file directory is the own entry of system file n
unfoldable pub is_system_entry : ℕ → DirEnt → Bool
is_system_entry n e = is_own (record { dir = 4; entry = e }) && ((e.fid.num == n) && (e.fid.seq == system_seq n))
