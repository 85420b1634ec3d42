-- What is free by the catalogue is free by the bits, where nothing is outside at any node.
use Rattle.std.specs.Prelude.{◌≡◌, ◌↔◌, ◌++◌, not, ℕ, true, false, List, count_by}
use Rattle.std.specs.List.{range_with_len}
use Rattle.base_words.specs.Fields.{Block}
use Rattle.plain_cat.specs.declared.cat.Cat.{Cat}
use Rattle.plain_rules.specs.Lookups.{free_clusters, is_free_number, free_count}
use Rattle.vol_spell.specs.declared.owner.Owner.{Owner}
use Rattle.base_words.specs.Lists.{Has, Once}
use Rattle.vol_spell.specs.Owners.{Owners, nothing, AreOut, Outs}
use Rattle.vol_parts.specs.declared.geometry.Geometry.{Geometry}
use Rattle.vol_spell.specs.Reading.{IsFileNumber, total_of, cluster_bit, number_bit}
use Rattle.vol_spell.specs.Spelling.{Spells}

-- what is outside at a node may be told by other lists of the same things
abbrev pub OutAlike : Type 0
OutAlike = (n : ℕ) (xs : List Owner) (took stock took' stock' : List ℕ) → Once (took' ++ stock') → ((q : ℕ) → Has (took ++ stock) q ↔ Has (took' ++ stock') q) → AreOut n xs took stock → AreOut n xs took' stock'

-- As many clusters are free as bits are set, and there are as many numbers to take as bits are clear. A number whose bit is clear is a
-- free one of the catalogue.
pub record IsFreeByBits (g : Geometry) (bs : List Block) (c : Cat) : Type 0 where
  pub clusters : free_clusters c ≡ count_by (cluster_bit g bs) (range_with_len 0 (total_of g))
  pub numbers : free_count c ≡ count_by (λ n. not (number_bit g bs n)) (range_with_len 1 g.files)
  pub spare : (n : ℕ) → IsFileNumber g n → number_bit g bs n ≡ false → is_free_number c n ≡ true

abbrev pub FreeByBits : Type 0
FreeByBits = (g : Geometry) (bs : List Block) (own : Owners) (c : Cat) → Spells g bs own c → ((n : ℕ) → Outs n own nothing nothing) → IsFreeByBits g bs c
