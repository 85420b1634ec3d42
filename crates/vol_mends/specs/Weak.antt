-- Blocks that spell a catalogue that can be mended.
use Rattle.std.specs.Prelude.{◌≡◌, ◌≤◌, ℕ, true, List, Some, None, is_some, replicate}
use Rattle.base_words.specs.Fields.{Block}
use Rattle.plain_cat.specs.declared.cat.Cat.{Cat}
use Rattle.plain_cat.specs.declared.cat.File.{File}
use Rattle.plain_rules.specs.Lookups.{file_at, row_of}
use Rattle.plain_mends.specs.Sound.{IsSystemFile}
use Rattle.vol_spell.specs.Owners.{Owners, Outs, nothing}
use Rattle.vol_parts.specs.declared.geometry.Geometry.{Geometry}
use Rattle.vol_parts.specs.declared.finding.Finding.{Finding}
use Rattle.vol_parts.specs.Findings.{CatOf}
use Rattle.vol_faults.specs.CatFindings.{IsFatalOf}
use Rattle.vol_spell.specs.Spelling.{Spells}

-- no node holds anything outside
abbrev pub NoOuts : Owners → Type 0
NoOuts own = (node : ℕ) → Outs node own nothing nothing

-- no channel has a file open
abbrev pub shut : Cat → Cat
shut c = record c { opens = replicate 64 None }

-- A catalogue that can be mended: the system files are there, each owner of a file has a quota row, and none of the fatal findings
-- that a catalogue can have holds.
pub record CanMend (c : Cat) : Type 0 where
  pub systems : (n : ℕ) → 1 ≤ n → n ≤ 11 → (f : File) × (file_at c n ≡ Some f) × IsSystemFile n f
  pub owners : (n : ℕ) (f : File) → file_at c n ≡ Some f → is_some (row_of f.owner c.quota) ≡ true
  pub sound : (f : Finding) → IsFatalOf c f → ⊥

-- blocks that spell a catalogue which can be mended once nothing is open have no fatal finding, and tell it with nothing open
abbrev pub SpeltIsWeak : Type 0
SpeltIsWeak = (g : Geometry) (bs : List Block) (own : Owners) (c : Cat) → Spells g bs own c → NoOuts own → CanMend (shut c) → CatOf bs (shut c)
