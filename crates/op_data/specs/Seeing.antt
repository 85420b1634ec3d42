-- A file as the command has seen it, in order to read or to write its blocks.
use Rattle.std.specs.Prelude.{◌≡◌, ◌≤◌, ◌-◌, ◌*◌, ◌/◌, ℕ, List, [], ◌∷◌, Some}
use Rattle.base_words.specs.Fields.{Block}
use Rattle.fx_header.specs.declared.slot.Hdr.{Hdr}
use Rattle.plain_cat.specs.declared.mode.Mode.TheVariants.{PR, PW}
use Rattle.plain_rules.specs.Lookups.{header_most}
use Rattle.vol_parts.specs.declared.geometry.Geometry.{Geometry}
use Rattle.vol_spell.specs.Reading.{fields_told}
use Rattle.op_law.specs.declared.need.Need.{Need}
use Rattle.op_law.specs.declared.seeing.Rest.{Rest}
use Rattle.op_law.specs.Behind.{goes_on_by, first_seen}
use Rattle.op_law.specs.Channels.{within, read_in, write_in}
use Rattle.op_law.specs.Events.{Events, Space}
use Rattle.op_law.specs.Headers.{through_part}
use Rattle.op_law.specs.Refusing.{SeenFile}
use Rattle.op_steps.specs.declared.seeing.FileSeen.{FileSeen}
use Rattle.op_steps.specs.Chains.{AreHeaders}
use Rattle.op_steps.specs.Seeing.{file_seen, IsReadable, IsReadableAs}
use Rattle.op_data.specs.declared.seeing.Opened.{Opened}
use Rattle.op_data.specs.declared.seeing.Opened.TheVariants as opened

-- what comes behind the first header of a file in order to read a virtual block of it
abbrev pub read_file : Geometry → ℕ → SeenFile → Events
read_file g vbn = within g vbn (λ f. through_part g PR vbn f (read_in vbn))

-- the same in order to write a text to it
abbrev pub write_file : Geometry → ℕ → List ℕ → SeenFile → Events
write_file g vbn text = within g vbn (λ f. through_part g PW vbn f (write_in g vbn text))

-- behind the header of a file that is in use
abbrev pub behind_open : Geometry → (SeenFile → Events) → Space → Opened → Need
behind_open g next space (opened.File f rest) = goes_on_by (next (file_seen g f)) rest space
behind_open g next space (opened.Next need) = need

-- The file has at most this number, and it can be read by its first header, which alone was seen of it: it is the first of these blocks.
pub record IsShown (top : ℕ) (seen : List (ℕ × Block)) (f : FileSeen) (rest : Rest) : Type 0 where
  pub number : f.num ≤ top
  pub alone : f.rest.now ≡ []
  pub readable : IsReadable f
  pub head : first_seen seen ≡ Some (f.head.now, rest.blocks.now)

abbrev pub ShowsFile : ℕ → List (ℕ × Block) → Opened → Type 0
ShowsFile top seen (opened.File f rest) = IsShown top seen f rest
ShowsFile top seen (opened.Next need) = Unit {0}

-- The same of the file of this number, by its first header and by the blocks that were seen behind that.
abbrev pub IsFileOf : ℕ → Block → List (ℕ × Block) → Opened → Type 0
IsFileOf n b behind (opened.File f rest) = IsReadableAs n b f × (rest.blocks.now ≡ behind)
IsFileOf n b behind (opened.Next need) = Unit {0}

-- If a file of these fields has this virtual block, then behind its first header b those up to the header that lists the block were
-- seen, or the first of them.
abbrev pub IsFollowed : Geometry → ℕ → Hdr → Block → List (ℕ × Block) → Type 0
IsFollowed g vbn h b seen = 1 ≤ vbn → vbn ≤ h.blocks → AreHeaders g ((vbn - 1) / (header_most * g.cluster)) h b seen

-- so it is with the header that was seen first
abbrev pub HeadIsFollowed : Geometry → ℕ → List (ℕ × Block) → Type 0
HeadIsFollowed g vbn [] = Unit {0}
HeadIsFollowed g vbn (x ∷ seen) = (h : Hdr) → fields_told x.1 ≡ Some h → IsFollowed g vbn h x.1 seen
