-- The file that an entry names, as the command has seen it.
use Rattle.std.specs.Prelude.{◌≡◌, ◌≤◌, ◌/◌, ℕ, List, [], ◌∷◌, Some}
use Rattle.base_words.specs.Fields.{Block}
use Rattle.fx_header.specs.declared.slot.Hdr.{Hdr}
use Rattle.plain_rules.specs.Lookups.{extra}
use Rattle.vol_parts.specs.declared.geometry.Geometry.{Geometry}
use Rattle.vol_spell.specs.Reading.{fields_told}
use Rattle.op_law.specs.declared.need.Need.{Need}
use Rattle.op_law.specs.declared.need.Need.TheVariants as need
use Rattle.op_law.specs.declared.need.Plan.{Plan}
use Rattle.op_law.specs.Events.{Events, Space}
use Rattle.op_law.specs.Readable.{AreInside}
use Rattle.op_law.specs.Refusing.{SeenFile}
use Rattle.op_law.specs.Behind.{goes_on_by, FollowsBy}
use Rattle.op_steps.specs.Chains.{AreHeaders}
use Rattle.op_steps.specs.Seeing.{file_seen, IsReadable}
use Rattle.op_steps.specs.declared.seeing.FileSeen.{FileSeen}
use Rattle.op_delete.specs.declared.seeing.Named.{Named}
use Rattle.op_delete.specs.declared.seeing.Named.TheVariants as named

-- behind the header of the file that an entry names: its plan, where no such file is in use
abbrev pub behind_named : Geometry → Plan → (SeenFile → Events) → Space → Named → Need
behind_named g plan next space (named.File f rest) = goes_on_by (next (file_seen g f)) rest space
behind_named g plan next space (named.Nothing) = need.Ready plan
behind_named g plan next space (named.Next need) = need

-- what was seen behind it follows what comes there
abbrev pub FollowsNamed : Geometry → (SeenFile → Events) → Space → Named → Type 0
FollowsNamed g next space (named.File f rest) = FollowsBy (next (file_seen g f)) rest space
FollowsNamed g next space (named.Nothing) = Unit {0}
FollowsNamed g next space (named.Next need) = Unit {0}

-- If b is the first header of a file, then behind it the file's other headers were seen, or the first of them.
abbrev pub IsFollowed : Geometry → Block → List (ℕ × Block) → Type 0
IsFollowed g b seen = (h : Hdr) → fields_told b ≡ Some h → AreHeaders g (extra (h.blocks / g.cluster)) h b seen

-- so it is with the header that was seen first
abbrev pub HeadIsFollowed : Geometry → List (ℕ × Block) → Type 0
HeadIsFollowed g [] = Unit {0}
HeadIsFollowed g (x ∷ seen) = IsFollowed g x.1 seen

-- The first header of a file alone was seen, and behind it these blocks: the file's other headers, or the first of them.
pub record IsBegun (g : Geometry) (f : FileSeen) (seen : List (ℕ × Block)) : Type 0 where
  pub number : f.num ≤ g.files
  pub alone : f.rest.now ≡ []
  pub readable : IsReadable f
  pub inside : AreInside f.head.now
  pub headers : AreHeaders g (extra (f.fields.blocks / g.cluster)) f.fields f.head.now seen

abbrev pub ShowsFile : Geometry → Named → Type 0
ShowsFile g (named.File f rest) = IsBegun g f rest.blocks.now
ShowsFile g (named.Nothing) = Unit {0}
ShowsFile g (named.Next need) = Unit {0}
