-- All clusters and all file numbers are free by their bits, outside at a node, leaked, or a file's.
use Rattle.std.specs.Prelude.{◌≡◌, ◌+◌, Bool, true, false, List, count_by, sum_by}
use Rattle.base_words.specs.Fields.{Block}
use Rattle.plain_cat.specs.declared.cat.Cat.{Cat}
use Rattle.plain_rules.specs.Lookups.{clusters_in, free_clusters, free_count}
use Rattle.vol_spell.specs.declared.owner.Owner.{Owner}
use Rattle.vol_spell.specs.declared.owner.Owner.TheVariants.{Free, InFile, Outside, Leaked}
use Rattle.vol_spell.specs.Owners.{Owners}
use Rattle.vol_spell.specs.Counts.{is_same_owner}
use Rattle.vol_parts.specs.declared.geometry.Geometry.{Geometry}
use Rattle.vol_spell.specs.Reading.{total_of}
use Rattle.vol_spell.specs.Spelling.{Spells}

-- an owner is a node
unfoldable pub is_outside : Owner → Bool
is_outside Free = false
is_outside (InFile n) = false
is_outside (Outside node) = true
is_outside Leaked = false

-- the clusters add up, so that those that the catalogue counts as free are free by their bits or outside at a node
pub record CountsAdd (g : Geometry) (own : Owners) (c : Cat) : Type 0 where
  pub all : total_of g ≡ count_by (is_same_owner Free) own.clusters + count_by is_outside own.clusters + c.leaked + sum_by clusters_in c.files
  pub free : free_clusters c ≡ count_by (is_same_owner Free) own.clusters + count_by is_outside own.clusters

abbrev pub ClustersAddUp : Type 0
ClustersAddUp = (g : Geometry) (bs : List Block) (own : Owners) (c : Cat) → Spells g bs own c → CountsAdd g own c

-- the file numbers add up, so that those that there are to take by the catalogue are free by their bits or outside at a node
abbrev pub NumbersAddUp : Type 0
NumbersAddUp = (g : Geometry) (bs : List Block) (own : Owners) (c : Cat) → Spells g bs own c → free_count c ≡ count_by (is_same_owner Free) own.numbers + count_by is_outside own.numbers
