-- Where entries lead to, step by step.
use Rattle.std.specs.Prelude.{◌==◌, ◌&&◌, not, ℕ, Bool, List, is_some}
use Rattle.std.specs.List.{list_any}
use Rattle.plain_cat.specs.declared.entries.DirEnt.{DirEnt}
use Rattle.plain_cat.specs.declared.cat.Cat.{Cat}
use Rattle.plain_rules.specs.Lookups.{in_use}
use Rattle.plain_rules.specs.SystemFiles.{is_system_entry}
use Rattle.plain_rules.specs.SystemFiles.{entries_of}

-- an entry of directory n names a file in use, and is not the master file directory's own
unfoldable pub is_step : Cat → ℕ → DirEnt → Bool
is_step c n e = is_some (in_use c e.fid) && not ((n == 4) && is_system_entry 4 e)

abbrev pub is_step_to : Cat → ℕ → ℕ → DirEnt → Bool
is_step_to c n m e = is_step c n e && (e.fid.num == m)

-- directory n has an entry that leads to number m
unfoldable pub leads : Cat → ℕ → ℕ → Bool
leads c n m = list_any (is_step_to c n m) (entries_of c n)

-- a number is one of these
abbrev pub waits : List ℕ → ℕ → Bool
waits left m = list_any (λ x. x == m) left
