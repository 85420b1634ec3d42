-- Of which parameters a volume is made, and why of others it is not.
use Rattle.std.specs.Prelude.{◌≡◌, ◌-◌, ◌&&◌, ◌++◌, not, nat_le, nat_lt, ℕ, Bool, List, length, replicate, Option, Some, None, if◌then◌else◌}
use Rattle.base_words.specs.Faults.{Rose}
use Rattle.base_words.specs.Fields.{Block}
use Rattle.base_words.specs.Names.{is_part}
use Rattle.fx_home.specs.declared.home.Home.{Home}
use Rattle.vol_init.specs.declared.layout.Layout.{Layout}
use Rattle.vol_init.specs.Layouts.{reserved_clusters, total}
use Rattle.vol_init.specs.declared.fault.InitFault.{InitFault}
use Rattle.vol_init.specs.declared.fault.InitFault.TheVariants.{BadCluster, BadFiles, BadLabel, TooSmall, NoMemory, ImageFault}

-- a cluster has 1 to 16 blocks
unfoldable pub is_cluster : ℕ → Bool
is_cluster cluster = nat_le 1 cluster && nat_le cluster 16

-- there are 32 to 4,096 file numbers
unfoldable pub are_files : ℕ → Bool
are_files files = nat_le 32 files && nat_le files 4096

-- a label has 1 to 12 of the characters that a name may have
unfoldable pub is_label : List ℕ → Bool
is_label label = nat_le 1 (length label) && nat_le (length label) 12 && is_part label

-- the system files need more clusters than there are
unfoldable pub is_too_small : Layout → Bool
is_too_small l = nat_lt (total l) (reserved_clusters l)

-- why a volume of this layout and label is not made: the first of these that holds, if one does
unfoldable pub refusal : Layout → List ℕ → Option InitFault
refusal l label =
    if not (is_cluster l.cluster) then Some BadCluster
    else if not (are_files l.files) then Some BadFiles
    else if not (is_label label) then Some BadLabel
    else if is_too_small l then Some TooSmall
    else None

-- the layout of a volume that is made of these blocks
abbrev pub layout_for : ℕ → ℕ → List Block → Layout
layout_for cluster files bs = record { cluster = cluster; files = files; blocks = length bs }

-- a label, filled with spaces
abbrev pub full_label : List ℕ → List ℕ
full_label label = label ++ replicate (12 - length label) 32

-- what the home block of a new volume says
abbrev pub home_of : ℕ → ℕ → List ℕ → Home
home_of cluster files label = record { cluster = cluster; files = files; label = full_label label }

-- A fault has a cause: where nothing is refused memory may run out, and a fault of the image is counted; the others are
-- refusals.
abbrev pub HasInitCause : Option InitFault → (before now : ℕ) → InitFault → Type 0
HasInitCause refused before now NoMemory = refused ≡ None
HasInitCause refused before now ImageFault = (refused ≡ None) × Rose before now
HasInitCause refused before now BadCluster = refused ≡ Some BadCluster
HasInitCause refused before now BadFiles = refused ≡ Some BadFiles
HasInitCause refused before now BadLabel = refused ≡ Some BadLabel
HasInitCause refused before now TooSmall = refused ≡ Some TooSmall
