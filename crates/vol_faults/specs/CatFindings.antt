-- The fatal findings that a catalogue alone tells: of the system files' entries, of marked directories, of loops, and of
-- lost files for which there is no room.
use Rattle.std.specs.Prelude.{◌≡◌, ◌≤◌, ℕ, true, false, Option, Some, None}
use Rattle.std.specs.List.{list_any}
use Rattle.plain_cat.specs.declared.cat.Cat.{Cat}
use Rattle.plain_rules.specs.Lookups.{file_at}
use Rattle.vol_parts.specs.declared.finding.Finding.{Finding}
use Rattle.vol_parts.specs.declared.finding.Finding.TheVariants as finding
use Rattle.vol_parts.specs.Fatal.{is_marked_dir, Path, HasNoRoom}
use Rattle.plain_rules.specs.SystemFiles.{is_system_entry}
use Rattle.plain_rules.specs.SystemFiles.{entries_of}
use Rattle.vol_parts.specs.Findings.{rank, subject}

-- a fatal finding of these kinds holds of a catalogue
abbrev pub IsFatalOf : Cat → Finding → Type 0
IsFatalOf c (finding.SystemEntry n) = (1 ≤ n) × (n ≤ 11) × (list_any (is_system_entry n) (entries_of c 4) ≡ false)
IsFatalOf c (finding.MarkedDir n) = is_marked_dir (file_at c n) ≡ true
IsFatalOf c (finding.DirLoop n) = Path c n n
IsFatalOf c (finding.NoRoom n) = HasNoRoom c n
IsFatalOf c f = ⊥

-- a finding of this rank holds of a catalogue, and none that holds has a lower number
pub record IsLeastIn (c : Cat) (k : ℕ) (f : Finding) : Type 0 where
  pub rank_is : rank f ≡ k
  pub fatal : IsFatalOf c f
  pub least : (g : Finding) → rank g ≡ k → IsFatalOf c g → subject f ≤ subject g

-- the first finding of a rank that holds of a catalogue, or none where none holds
abbrev pub IsFirstIn : Cat → ℕ → Option Finding → Type 0
IsFirstIn c k None = (g : Finding) → rank g ≡ k → IsFatalOf c g → ⊥
IsFirstIn c k (Some f) = IsLeastIn c k f
