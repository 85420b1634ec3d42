-- Blocks that spell a catalogue with nothing outside at any node, and catalogues that differ in owners and entries alone.
use Rattle.std.specs.Prelude.{◌≡◌, List, [], map}
use Rattle.base_words.specs.Fields.{Block}
use Rattle.plain_cat.specs.declared.cat.Cat.{Cat}
use Rattle.plain_cat.specs.declared.cat.Slot.{Slot}
use Rattle.plain_cat.specs.declared.cat.Slot.TheVariants.{Used, Free}
use Rattle.vol_parts.specs.declared.geometry.Geometry.{Geometry}
use Rattle.vol_spell.specs.Owners.{Owners}
use Rattle.vol_spell.specs.Spelling.{Spells}
use Rattle.vol_mends.specs.Weak.{NoOuts}

-- a slot but for the owner and the entries of its file
abbrev pub bare : Slot → Slot
bare (Free seq) = Free seq
bare (Used f) = Used (record f { owner = record { 0 = 0 }; entries = [] })

-- the files of two catalogues are the same but for their owners and their entries
abbrev pub IsSameBut : Cat → Cat → Type 0
IsSameBut c d = map bare d.files ≡ map bare c.files

-- the blocks spell the catalogue, and no node holds anything outside
pub record IsSpeltAs (g : Geometry) (bs : List Block) (c : Cat) : Type 0 where
  pub own : Owners
  pub spelt : Spells g bs own c
  pub none : NoOuts own

-- the blocks spell a catalogue whose files are those of c but for their owners and their entries
pub record TellsAlike (g : Geometry) (c : Cat) (bs : List Block) : Type 0 where
  pub cat : Cat
  pub spelt : IsSpeltAs g bs cat
  pub alike : IsSameBut c cat
