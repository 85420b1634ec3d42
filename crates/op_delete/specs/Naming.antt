-- The file that an entry names, told by what was seen behind the directory.
use Rattle.std.specs.Prelude.{◌≡◌, ◌≤◌, ◌/◌, ℕ, List, [], ◌∷◌, Option, Some, None, IfSome, length, option_map}
use Rattle.base_words.specs.Fields.{Block}
use Rattle.fx_header.specs.declared.slot.Hdr.{Hdr}
use Rattle.lock_db.specs.declared.name.LockName.{LockName}
use Rattle.lock_db.specs.declared.name.LockName.TheVariants.{S}
use Rattle.plain_cat.specs.declared.mode.Mode.{Mode}
use Rattle.plain_cat.specs.declared.entries.DirEnt.{DirEnt}
use Rattle.plain_rules.specs.Lookups.{extra}
use Rattle.vol_parts.specs.declared.geometry.Geometry.{Geometry}
use Rattle.vol_spell.specs.Reading.{header_place, fields_told}
use Rattle.op_law.specs.declared.need.Plan.{Plan}
use Rattle.op_law.specs.declared.seeing.Rest.{Rest}
use Rattle.op_law.specs.Events.{Events, Make, Space}
use Rattle.op_law.specs.Moving.{SeenDir}
use Rattle.op_law.specs.Refusing.{SeenFile, seen_file, used_in, if_file, if_entry}
use Rattle.op_law.specs.Removing.{delete_in}
use Rattle.op_law.specs.Behind.{goes_on_by, first_seen, FollowsBy}
use Rattle.op_steps.specs.declared.seeing.FileSeen.{FileSeen}
use Rattle.op_delete.specs.declared.naming.Told.{Told}
use Rattle.op_delete.specs.declared.naming.Told.TheVariants as told
use Rattle.op_steps.specs.Seeing.{file_seen}
use Rattle.op_delete.specs.Deleting.{file_goes}
use Rattle.op_delete.specs.Seeing.{IsBegun}

-- behind the header of a number: what comes next, where the file of this sequence is in use there, or else this plan
abbrev pub if_used : Geometry → ℕ → ℕ → Plan → (SeenFile → Events) → Block → Events
if_used g n seq plan next b = if_file (Make plan) next (option_map (seen_file g n b) (used_in seq b))

-- the number of the first lock, where it is a file's, and the locks behind it
abbrev pub file_locked : List (LockName × Mode) → Option (ℕ × List (LockName × Mode))
file_locked [] = None
file_locked (l ∷ locks) = by_name l.0 where
  by_name : LockName → Option (ℕ × List (LockName × Mode))
  by_name (S n) = Some (n, locks)
  by_name other = None

-- that number is one of the volume's
abbrev pub LockIsOf : Geometry → List (LockName × Mode) → Type 0
LockIsOf g locks = IfSome (file_locked locks) (λ p. p.0 ≤ g.files)

-- if the header of this number was seen first, then its file has no other header
abbrev pub IsLone : Geometry → ℕ → List (ℕ × Block) → Type 0
IsLone g n [] = Unit {0}
IsLone g n (x ∷ seen) = x.0 ≡ header_place g n → (h : Hdr) → fields_told x.1 ≡ Some h → extra (h.blocks / g.cluster) ≡ 0

-- what was seen from these events on passes all that comes before the next
pub record Passes (es : Events) (rest : Rest) (next : Events) (behind : Rest) (space : Space) : Type 0 where
  pub need : goes_on_by es rest space ≡ goes_on_by next behind space
  pub follows : FollowsBy next behind space

-- the file in use of a number, by the block that was seen first, and what was seen behind it
pub record IsFileOf (g : Geometry) (n : ℕ) (rest : Rest) (f : FileSeen) (behind : Rest) : Type 0 where
  pub number : f.num ≡ n
  pub head : first_seen rest.blocks.now ≡ Some (f.head.now, behind.blocks.now)
  pub begun : IsBegun g f behind.blocks.now

abbrev pub IsFirstFile : Geometry → ℕ → Rest → Told → Type 0
IsFirstFile g n rest (told.File f behind) = IsFileOf g n rest f behind
IsFirstFile g n rest (told.Next need) = ⊥
IsFirstFile g n rest (told.Nothing) = Unit {0}

-- at a header either more was seen behind it, by which its file is in use, or no lock and no other block
abbrev pub IsPassed : Geometry → Events → Rest → (SeenFile → Events) → Space → Told → Type 0
IsPassed g es rest next space (told.File f behind) = Passes es rest (next (file_seen g f)) behind space
IsPassed g es rest next space (told.Next need) = ⊥
IsPassed g es rest next space (told.Nothing) = (rest.locks.now ≡ []) × (length rest.blocks.now ≤ 1)

-- What was seen behind a directory tells the file of the entry, or what the command needs next; or it is no more than a lock and
-- a header.
abbrev pub IsTold : Geometry → SeenDir → Option DirEnt → Rest → Space → Told → Type 0
IsTold g d o rest space (told.File f behind) = Passes (if_entry o (delete_in g d)) rest (file_goes g d o (file_seen g f)) behind space
IsTold g d o rest space (told.Next need) = goes_on_by (if_entry o (delete_in g d)) rest space ≡ need
IsTold g d o rest space (told.Nothing) = (length rest.locks.now ≤ 1) × (length rest.blocks.now ≤ 1)

-- of the file that is told the first header was seen, and what was seen behind it
abbrev pub TellsFile : Geometry → Told → Type 0
TellsFile g (told.File f behind) = IsBegun g f behind.blocks.now
TellsFile g (told.Next need) = Unit {0}
TellsFile g (told.Nothing) = Unit {0}
