-- The catalogue that is read of a volume has its one form.
use Rattle.std.specs.Prelude.{◌≡◌, ◌≤◌, List, length}
use Rattle.base_words.specs.Fields.{Block, AreWholeBlocks}
use Rattle.plain_cat.specs.declared.cat.Cat.{Cat}
use Rattle.plain_rules.specs.OneForm.{HasOneForm}
use Rattle.vol_spell.specs.Owners.{Owners}
use Rattle.vol_parts.specs.declared.geometry.Geometry.{Geometry}
use Rattle.vol_parts.specs.Findings.{CatOf}
use Rattle.vol_spell.specs.Spelling.{Spells}

-- a catalogue that blocks spell has it, where it has eight channels for each of eight nodes, which are no matter of blocks
abbrev pub SpeltHasOneForm : Type 0
SpeltHasOneForm = (g : Geometry) (bs : List Block) (own : Owners) (c : Cat) → Spells g bs own c → length c.opens ≡ 64 → HasOneForm c

-- and so does that of a volume of whole blocks with no fatal finding
abbrev pub ReadHasOneForm : Type 0
ReadHasOneForm = (bs : List Block) (c : Cat) → 64 ≤ length bs → length bs ≤ 65536 → AreWholeBlocks bs → CatOf bs c → HasOneForm c
