-- Blocks that mend to a catalogue.
use Rattle.std.specs.Prelude.{◌≡◌, ℕ, List, None}
use Rattle.base_words.specs.Fields.{Block}
use Rattle.plain_cat.specs.declared.cat.Cat.{Cat}
use Rattle.plain_rules.specs.Mending.{mended}
use Rattle.plain_mends.specs.Resuming.{MendsTo}
use Rattle.plain_mends.specs.Sound.{IsSound}
use Rattle.vol_spell.specs.Owners.{Owners}
use Rattle.vol_parts.specs.declared.geometry.Geometry.{Geometry}
use Rattle.vol_parts.specs.declared.finding.Finding.{Finding}
use Rattle.vol_parts.specs.declared.finding.Finding.TheVariants.{NoRoom}
use Rattle.vol_parts.specs.Findings.{IsFatal, CatOf}
use Rattle.vol_spell.specs.Spelling.{Spells}
use Rattle.vol_mends.specs.Weak.{NoOuts, shut, CanMend}

-- the blocks have no fatal finding, and mending the catalogue that they tell ends with d
pub record Mends (bs : List Block) (d : Cat) : Type 0 where
  pub cat : Cat
  pub told : CatOf bs cat
  pub ends : MendsTo cat d

-- blocks mend to what the catalogue that they spell mends to
abbrev pub SpeltMends : Type 0
SpeltMends = (g : Geometry) (bs : List Block) (own : Owners) (c d : Cat) → Spells g bs own c → NoOuts own → CanMend (shut c) → MendsTo (shut c) d → Mends bs d

-- a catalogue in order can be mended, also once nothing is open, unless there is no room for a lost file
pub record SoundCanMend : Type 0 where
  pub open_too : (c : Cat) → IsSound c → (mended c ≡ None → ⊥) → CanMend c
  pub shut_too : (c : Cat) → IsSound c → (mended c ≡ None → ⊥) → CanMend (shut c)

-- Blocks that spell a catalogue in order can be read: the one fatal finding that they may have is that there is no room for a lost file.
pub record SoundIsReadable : Type 0 where
  -- Mending gives up where it holds,
  pub only : (g : Geometry) (bs : List Block) (own : Owners) (c : Cat) (f : Finding) → Spells g bs own c → NoOuts own → IsSound c → IsFatal bs f → (mended c ≡ None) × ((n : ℕ) × (f ≡ NoRoom n))
  -- and it holds where mending gives up.
  pub lacking : (g : Geometry) (bs : List Block) (own : Owners) (c : Cat) → Spells g bs own c → NoOuts own → IsSound c → mended c ≡ None → (n : ℕ) × IsFatal bs (NoRoom n)
  -- Mending is the same with nothing open.
  pub same : (c : Cat) → IsSound c → mended (shut c) ≡ mended c
