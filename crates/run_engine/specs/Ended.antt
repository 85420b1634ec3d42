-- The end of a run: the catalogue to which its history leads, and what the drive has then.
use Rattle.std.specs.Prelude.{ℕ, List}
use Rattle.std.specs.List.{count_by, range_with_len}
use Rattle.base_words.specs.Fields.{Block}
use Rattle.plain_cat.specs.declared.cat.Cat.{Cat}
use Rattle.plain_rules.specs.Replaying.{Replays}
use Rattle.vol_spell.specs.Owners.{Owners, nothing, Outs}
use Rattle.vol_parts.specs.declared.geometry.Geometry.{Geometry}
use Rattle.vol_spell.specs.Reading.{total_of, cluster_bit}
use Rattle.vol_spell.specs.Spelling.{Spells}
use Rattle.core_state.specs.Worlds.{Plain}

-- how many clusters the storage bitmap calls free
abbrev pub free_bits : Geometry → List Block → ℕ
free_bits g bs = count_by (cluster_bit g bs) (range_with_len 0 (total_of g))

-- the blocks spell a catalogue, and nothing is outside at any node
pub record IsSpelt (g : Geometry) (bs : List Block) (c : Cat) : Type 0 where
  pub own : Owners
  pub spelt : Spells g bs own c
  pub outs : (n : ℕ) → Outs n own nothing nothing

-- the history of a world replays to this catalogue, and its drive spells it
pub record HasEnded (w : Plain) (c : Cat) : Type 0 where
  pub replayed : Replays w.opening w.script w.history c
  pub drive : IsSpelt w.geometry w.blocks c
