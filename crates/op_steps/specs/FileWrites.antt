-- The writes of a new file: a directory's own blocks, and the header.
use Rattle.std.specs.Prelude.{◌≡◌, ◌≤◌, ◌<◌, ◌⊎◌, ◌++◌, ◌^◌, ℕ, true, List, [], ◌∷◌, Some, length}
use Rattle.base_words.specs.Fields.{Block}
use Rattle.base_words.specs.Names.{is_name}
use Rattle.lock_db.specs.declared.name.LockName.TheVariants.{S}
use Rattle.plain_cat.specs.declared.ids.Fid.{Fid}
use Rattle.plain_cat.specs.declared.history.Stage.TheVariants as stage
use Rattle.plain_cat.specs.declared.cat.Cat.{Cat}
use Rattle.plain_cat.specs.declared.cat.File.{File}
use Rattle.plain_rules.specs.Lookups.{header_most}
use Rattle.plain_rules.specs.Changes.{with_file, new_file, new_dir}
use Rattle.base_words.specs.Lists.{Has}
use Rattle.vol_spell.specs.Owners.{Owners}
use Rattle.vol_parts.specs.declared.geometry.Geometry.{Geometry}
use Rattle.vol_spell.specs.Reading.{IsFileNumber}
use Rattle.vol_under.specs.Chains.{End}
use Rattle.op_law.specs.declared.need.PlanWrite.{PlanWrite}
use Rattle.op_law.specs.Laws.{AreNamed}
use Rattle.op_law.specs.Writing.{holding, empty_handed, header_write}
use Rattle.op_law.specs.Entering.{NewEntry, new_header, body_writes}
use Rattle.op_steps.specs.Chained.{Chain, StepsOf, StageOf, after_writes, StandsOn, OthersStay}

-- a new file of so many clusters, or a new directory of one
abbrev pub IsNewFile : Geometry → File → ℕ → Type 0
IsNewFile g f clusters = (f ≡ new_file f.seq f.owner clusters) ⊎ ((f ≡ new_dir f.seq f.owner g.cluster) × (clusters ≡ 1))

-- what is to be made can be written, under this number and with these clusters
pub record CanBeMade (g : Geometry) (n : ℕ) (e : NewEntry) (qs : List ℕ) : Type 0 where
  pub number : IsFileNumber g n
  pub above : 11 < n
  pub kind : IsNewFile g e.file (length qs)
  pub few : length qs ≤ header_most
  pub seq : e.file.seq < 2 ^ 16
  pub owner : e.file.owner.0 < 2 ^ 32
  pub name : is_name e.name ≡ true
  pub ver : e.ver ≤ 32767

-- a directory's own blocks, and the header
abbrev pub file_writes : Geometry → Fid → ℕ → NewEntry → List ℕ → List PlanWrite
file_writes g parent n e qs = body_writes g n e.file qs ++ header_write g n (new_header g parent n e qs) stage.Lost empty_handed ∷ []

-- the writes are steps, and so are the writes behind them that are steps on what they leave
abbrev pub FileSteps : End → Type 0
FileSteps end = (k : Chain) (parent : Fid) (n : ℕ) (e : NewEntry) (qs : List ℕ) (ws : List PlanWrite) (x : Cat) (bs : List Block) (own : Owners)
    → StandsOn k (holding qs (Some n)) x bs own → CanBeMade k.geometry n e qs → Has k.locks (S n) → StageOf k stage.Charged x → StageOf k stage.Lost (with_file x n e.file)
    → ((new : Owners) → StandsOn k empty_handed (with_file x n e.file) (after_writes (file_writes k.geometry parent n e qs) bs) new → OthersStay k.geometry n bs (after_writes (file_writes k.geometry parent n e qs) bs)
    → StepsOf end k ws (after_writes (file_writes k.geometry parent n e qs) bs) new)
    → StepsOf end k (file_writes k.geometry parent n e qs ++ ws) bs own

-- they are under the lock of the number, which guards what they touch, unless it is outside at the node
abbrev pub FileGuards : Type 0
FileGuards = (k : Chain) (parent : Fid) (n : ℕ) (e : NewEntry) (qs : List ℕ) (x : Cat) (bs : List Block) (own : Owners)
    → StandsOn k (holding qs (Some n)) x bs own → IsFileNumber k.geometry n → Has k.locks (S n) → AreNamed k.node k.locks k.geometry own (file_writes k.geometry parent n e qs)
