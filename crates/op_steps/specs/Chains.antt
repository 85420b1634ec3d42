-- A file of which more headers than the first one are seen.
use Rattle.std.specs.Prelude.{◌≡◌, ◌≤◌, ℕ, zero, suc, List, [], ◌∷◌, All, take, drop, length}
use Rattle.base_words.specs.Fields.{Block}
use Rattle.fx_header.specs.declared.slot.Hdr.{Hdr}
use Rattle.vol_parts.specs.declared.geometry.Geometry.{Geometry}
use Rattle.vol_spell.specs.Reading.{header_place}
use Rattle.op_law.specs.declared.need.Need.{Need}
use Rattle.op_law.specs.declared.seeing.Rest.{Rest}
use Rattle.op_law.specs.Behind.{goes_on_by, FollowsBy}
use Rattle.op_law.specs.Events.{Events, Space}
use Rattle.op_law.specs.Headers.{next_number}
use Rattle.op_law.specs.Readable.{EndsInside}
use Rattle.op_law.specs.Refusing.{SeenFile}
use Rattle.op_law.specs.SeenFiles.{runs_by}
use Rattle.op_steps.specs.declared.seeing.FileSeen.{FileSeen}
use Rattle.op_steps.specs.declared.chains.Chained.{Chained}
use Rattle.op_steps.specs.declared.chains.Chained.TheVariants as chained
use Rattle.op_steps.specs.Seeing.{file_seen, IsReadable}

-- Behind this header so many more were seen, or the first of them: each link leads to a number of the volume, and what was seen there
-- is its header.
abbrev pub AreBehind : Geometry → ℕ → Block → List (ℕ × Block) → Type 0
AreBehind g zero b seen = Unit {0}
AreBehind g (suc k) b [] = next_number b ≤ g.files
AreBehind g (suc k) b (x ∷ seen) = (next_number b ≤ g.files) × (x.0 ≡ header_place g (next_number b)) × AreBehind g k x.1 seen

-- Of a file of these fields, whose first header this is, so many headers more were seen, or the first of them, and the runs that they
-- list end inside, as far as the file's blocks go.
pub record AreHeaders (g : Geometry) (k : ℕ) (h : Hdr) (b : Block) (seen : List (ℕ × Block)) : Type 0 where
  pub linked : AreBehind g k b seen
  pub inside : All EndsInside (runs_by h.blocks b (take k seen))

-- behind the headers of a file, or what comes before them
abbrev pub behind_chain : Geometry → (SeenFile → Events) → Space → Chained → Need
behind_chain g next space (chained.File f rest) = goes_on_by (next (file_seen g f)) rest space
behind_chain g next space (chained.Next need) = need

-- what was seen behind them follows what comes there
abbrev pub FollowsChain : Geometry → (SeenFile → Events) → Space → Chained → Type 0
FollowsChain g next space (chained.File f rest) = FollowsBy (next (file_seen g f)) rest space
FollowsChain g next space (chained.Next need) = Unit {0}

-- the same file, by its first header and so many more, which are the first of what was seen behind that
pub record HasMore (k : ℕ) (f : FileSeen) (seen : List (ℕ × Block)) (more : FileSeen) (rest : Rest) : Type 0 where
  pub number : more.num ≡ f.num
  pub head : more.head.now ≡ f.head.now
  pub fields : more.fields ≡ f.fields
  pub headers : more.rest.now ≡ take k seen
  pub count : length more.rest.now ≡ k
  pub behind : rest.blocks.now ≡ drop k seen
  pub readable : IsReadable more

abbrev pub ShowsMore : ℕ → FileSeen → List (ℕ × Block) → Chained → Type 0
ShowsMore k f seen (chained.File more rest) = HasMore k f seen more rest
ShowsMore k f seen (chained.Next need) = Unit {0}
