-- Where the fixed parts of a volume lie that can be read, and how much of it is free.
use Rattle.std.specs.Prelude.{◌≡◌, not, ℕ, Bool, List, Result, Ok, Err}
use Rattle.std.specs.List.{count_by, range_with_len}
use Rattle.base_words.specs.Fields.{Block}
use Rattle.fx_home.specs.declared.home.Home.{Home}
use Rattle.fx_home.specs.declared.home.HomeFault.{HomeFault}
use Rattle.vol_parts.specs.declared.geometry.Geometry.{Geometry}
use Rattle.vol_parts.specs.Volumes.{Volume, volume, total, numbers, geometry_of, is_free_cluster, is_used_number}

-- how many clusters the storage bitmap calls free
abbrev pub free_clusters : Volume → ℕ
free_clusters v = count_by (is_free_cluster v) (range_with_len 0 (total v))

-- the index-file bitmap calls a number free
abbrev pub is_free_number : Volume → ℕ → Bool
is_free_number v n = not (is_used_number v n)

-- how many numbers the index-file bitmap calls free
abbrev pub free_numbers : Volume → ℕ
free_numbers v = count_by (is_free_number v) (numbers v)

abbrev pub IsGeometryBy : List Block → Result Home HomeFault → Geometry → Type 0
IsGeometryBy bs (Err fault) g = ⊥
IsGeometryBy bs (Ok home) g = g ≡ geometry_of (volume home bs)

abbrev pub AreFreeBy : List Block → Result Home HomeFault → ℕ → ℕ → Type 0
AreFreeBy bs (Err fault) clusters files = ⊥
AreFreeBy bs (Ok home) clusters files = (clusters ≡ free_clusters (volume home bs)) × (files ≡ free_numbers (volume home bs))
