-- What a volume is made of, and the blocks that are written for it so far.
use Rattle.std.specs.Prelude.{◌≡◌, ◌≤◌, ◌<◌, ℕ, List, [], Option, Some, None, Ok, length, slice_get}
use Rattle.base_words.specs.Fields.{Block}
use Rattle.fx_dir.specs.Writing.{packed}
use Rattle.fx_dir.specs.Directory.{directory, all_entries}
use Rattle.vol_init.specs.declared.layout.Layout.{Layout}
use Rattle.vol_init.specs.Layouts.{IsLayout, reserved_clusters, total, main_entries}
use Rattle.vol_init.specs.declared.part.Part.{Part}
use Rattle.vol_init.specs.declared.plan.Plan.{Plan}
use Rattle.vol_init.specs.Refusals.{home_of}
use Rattle.vol_init.specs.Parts.{part_of, Says}
use Rattle.base_words.specs.Fields.{block_at as block_in}

-- The system files have room, the home block is that of the layout, and the two directories have one cluster each and the
-- entries of a fresh volume, packed: those of the system files, and none.
pub record IsPlan (p : Plan) : Type 0 where
  pub limits : IsLayout p.layout
  pub room : reserved_clusters p.layout ≤ total p.layout
  pub cluster : p.home.cluster ≡ p.layout.cluster
  pub files : p.home.files ≡ p.layout.files
  pub main_count : length p.main.items ≡ p.layout.cluster
  pub main : directory p.main.items ≡ Ok main_entries
  pub listed : all_entries p.main.items ≡ main_entries
  pub main_packed : Some p.main.items ≡ packed p.layout.cluster main_entries
  pub lost_count : length p.lost.items ≡ p.layout.cluster
  pub lost : directory p.lost.items ≡ Ok []
  pub lost_packed : Some p.lost.items ≡ packed p.layout.cluster []

-- the plan is that of a layout and a label
pub record IsOf (l : Layout) (label : List ℕ) (p : Plan) : Type 0 where
  pub layout : p.layout ≡ l
  pub home : p.home ≡ home_of l.cluster l.files label

-- a block says what its part says, and stays where it is no part
abbrev pub SaysAt : Plan → Option Part → (old new : Block) → Type 0
SaysAt p None old new = new ≡ old
SaysAt p (Some part) old new = Says p.layout p.home p.main.items p.lost.items part new

-- a block says what the part at its LBN says
abbrev pub IsAt : Plan → ℕ → (old new : Block) → Type 0
IsAt p lbn old new = SaysAt p (part_of p.layout lbn) old new

-- the parts from LBN 2 to below an end are written, the other blocks there stay, and so do all blocks from there on
pub record ArePut (p : Plan) (end : ℕ) (old new : List Block) : Type 0 where
  pub there : (lbn : ℕ) → 1 < lbn → lbn < end → IsAt p lbn (block_in old lbn) (block_in new lbn)
  pub rest : (lbn : ℕ) → end ≤ lbn → block_in new lbn ≡ block_in old lbn

-- a block of an image, where that tells its blocks
abbrev pub told_at : Option (List Block) → ℕ → Option Block
told_at None lbn = None
told_at (Some bs) lbn = slice_get bs lbn
