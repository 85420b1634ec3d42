-- Each cluster and each file number has one owner, and the blocks tell which.
use Rattle.std.specs.Prelude.{◌≡◌, ◌<◌, ◌-◌, ◌↔◌, not, ℕ, true, List, Some, is_some, slice_get}
use Rattle.base_words.specs.Fields.{Block}
use Rattle.plain_cat.specs.declared.cat.Cat.{Cat}
use Rattle.vol_spell.specs.declared.owner.Owner.{Owner}
use Rattle.vol_spell.specs.declared.owner.Owner.TheVariants.{Free, InFile}
use Rattle.base_words.specs.Lists.{Has, Once}
use Rattle.vol_spell.specs.Owners.{Owners}
use Rattle.vol_spell.specs.Counts.{is_same_owner}
use Rattle.vol_parts.specs.declared.geometry.Geometry.{Geometry}
use Rattle.vol_spell.specs.Reading.{IsFileNumber, total_of, header_block, told_of, fields_told, clusters_told, cluster_bit, number_bit}
use Rattle.vol_spell.specs.Spelling.{Spells}

-- Cluster q is of owner o alone: its bit is set exactly where o is nobody, and it is in the runs of a file exactly where o is
-- that file. Where o is a node or it is leaked, the bit is clear and no file has it.
pub record IsClusterOf (g : Geometry) (bs : List Block) (q : ℕ) (o : Owner) : Type 0 where
  pub bit : cluster_bit g bs q ≡ is_same_owner Free o
  pub files : (n : ℕ) → IsFileNumber g n → Has (clusters_told g (told_of g bs n)) q ↔ (o ≡ InFile n)
  pub once : (n : ℕ) → IsFileNumber g n → Once (clusters_told g (told_of g bs n))
  pub known : (n : ℕ) → o ≡ InFile n → IsFileNumber g n

-- Number n is of owner o alone: its bit is clear exactly where o is nobody, it has a file's first header exactly where o is the
-- file of that number, and it is among the header slots of a file exactly where o is that file. Where o is a node or it is leaked,
-- the bit is set and it is among the slots of no file.
pub record IsNumberOf (g : Geometry) (bs : List Block) (n : ℕ) (o : Owner) : Type 0 where
  pub bit : number_bit g bs n ≡ not (is_same_owner Free o)
  pub file : (is_some (fields_told (header_block g bs n)) ≡ true) ↔ (o ≡ InFile n)
  pub slots : (m : ℕ) → IsFileNumber g m → Has (told_of g bs m).slots n ↔ (o ≡ InFile m)
  pub known : (m : ℕ) → o ≡ InFile m → IsFileNumber g m

-- each cluster and each number has one owner
pub record EachIsOwned : Type 0 where
  pub clusters : (g : Geometry) (bs : List Block) (own : Owners) (c : Cat) (q : ℕ) → Spells g bs own c → q < total_of g → (o : Owner) × (slice_get own.clusters q ≡ Some o) × IsClusterOf g bs q o
  pub numbers : (g : Geometry) (bs : List Block) (own : Owners) (c : Cat) (n : ℕ) → Spells g bs own c → IsFileNumber g n → (o : Owner) × (slice_get own.numbers (n - 1) ≡ Some o) × IsNumberOf g bs n o
