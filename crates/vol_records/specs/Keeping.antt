-- A file whose data change, and nothing else of it.
use Rattle.std.specs.Prelude.{◌≡◌, ℕ, false, List, Some}
use Rattle.base_words.specs.Fields.{Block}
use Rattle.plain_cat.specs.declared.cat.Cat.{Cat}
use Rattle.plain_cat.specs.declared.cat.File.{File}
use Rattle.plain_rules.specs.Lookups.{file_at}
use Rattle.plain_rules.specs.Changes.{with_file}
use Rattle.vol_parts.specs.declared.geometry.Geometry.{Geometry}
use Rattle.vol_parts.specs.Findings.{Accepts}
use Rattle.vol_spell.specs.Owners.{Owners}
use Rattle.vol_spell.specs.Reading.{IsFileNumber}
use Rattle.vol_spell.specs.Spelling.{Spells}
use Rattle.vol_spell.specs.Views.{IsSameFile}
use Rattle.vol_mends.specs.Weak.{NoOuts}
use Rattle.vol_mends.specs.Told.{IsTold}
use Rattle.vol_mends.specs.Clean.{KeepsClean}

-- a file with another mark and end, and with other blocks
abbrev pub with_data : File → ℕ → ℕ → ℕ → List Block → File
with_data f mark end byte blocks = record f { mark = mark; end = end; byte = byte; written = blocks }

-- Accepted blocks that tell the catalogue c, in which nothing is outside; and the file f of number n, which is no directory.
pub record HasPlainFile (g : Geometry) (bs : List Block) (own : Owners) (c : Cat) (n : ℕ) (f : File) : Type 0 where
  pub accepted : Accepts bs
  pub told : IsTold g bs c
  pub spells : Spells g bs own c
  pub outs : NoOuts own
  pub at : file_at c n ≡ Some f
  pub flat : f.dir ≡ false

-- blocks are accepted and tell this catalogue
pub record AreAccepted (g : Geometry) (bs : List Block) (c : Cat) : Type 0 where
  pub accepted : Accepts bs
  pub told : IsTold g bs c

-- Where the data of that file have changed alone, each other file has the header and the blocks that it had, and the blocks stay
-- clean, they are accepted still.
abbrev pub DataIsAccepted : Type 0
DataIsAccepted = (g : Geometry) (bs new : List Block) (own : Owners) (c : Cat) (n : ℕ) (f : File) (mark end byte : ℕ) (blocks : List Block) → HasPlainFile g bs own c n f
    → Spells g new own (with_file c n (with_data f mark end byte blocks)) → ((m : ℕ) → IsFileNumber g m → (m ≡ n → ⊥) → IsSameFile g bs new m) → KeepsClean g bs new
    → AreAccepted g new (with_file c n (with_data f mark end byte blocks))
