-- The command that gives an entry another name and version.
use Rattle.std.specs.Prelude.{◌≡◌, ◌&&◌, true, ℕ, List}
use Rattle.base_words.specs.Names.{is_name}
use Rattle.plain_cat.specs.InForm.{is_version}
use Rattle.plain_cat.specs.declared.command.Cmd.{Cmd}
use Rattle.plain_cat.specs.declared.command.Cmd.TheVariants.{Rename}
use Rattle.plain_rules.specs.Lookups.{versions, entry_of}
use Rattle.plain_rules.specs.Directories.{new_version}
use Rattle.plain_rules.specs.Answers.{first_refusal}
use Rattle.vol_parts.specs.declared.geometry.Geometry.{Geometry}
use Rattle.op_law.specs.Events.{Events}
use Rattle.op_law.specs.Refusing.{unless_refused, if_entry}
use Rattle.op_law.specs.Moving.{SeenDir, entries_of, rename_refusals, renamed_as}

-- A RENAME whose new name and version are in form. Its directory and the old name may be any.
abbrev pub IsRename : Cmd → Type 0
IsRename (Rename dir name ver to to_ver) = (is_name to && is_version to_ver) ≡ true
IsRename other = ⊥

-- what comes behind the directory
abbrev pub rename_in : Geometry → List ℕ → ℕ → List ℕ → ℕ → SeenDir → Events
rename_in g name ver to to_ver d = if_entry (entry_of (versions name (entries_of d)) ver) (λ e.
    unless_refused (first_refusal (rename_refusals g (entries_of d) to to_ver)) (renamed_as d e to (new_version to_ver (versions to (entries_of d)))))
