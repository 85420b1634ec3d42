-- Blocks that mend as a catalogue does.
use Rattle.std.specs.Prelude.{◌≡◌, ℕ, List, Some, None}
use Rattle.base_words.specs.Fields.{Block}
use Rattle.plain_cat.specs.declared.history.Mended.{Mended}
use Rattle.plain_cat.specs.declared.cat.Cat.{Cat}
use Rattle.plain_rules.specs.Mending.{mended}
use Rattle.plain_mends.specs.Resuming.{MendsTo}
use Rattle.vol_parts.specs.declared.finding.Finding.{Finding}
use Rattle.vol_parts.specs.declared.finding.Finding.TheVariants.{NoRoom}
use Rattle.vol_parts.specs.Findings.{IsFatal, Accepts, CatOf}
use Rattle.vol_mends.specs.Weak.{shut}
use Rattle.vol_mends.specs.Mends.{Mends}
use Rattle.vol_rebuild.specs.Rebuilt.{IsRebuilt}

-- the new blocks are accepted, and tell the catalogue to which c is mended, by what was done
pub record IsMended (c : Cat) (new : List Block) (done : Mended) : Type 0 where
  pub after : Cat
  pub mends : mended c ≡ Some (after, done)
  pub accepted : Accepts new
  pub left : CatOf new after

-- These blocks mend as the catalogue c does, if it can be mended: it cannot if [SYSLOST] lacks room for a lost file.
pub record MendsAs (bs : List Block) (c : Cat) : Type 0 where
  -- If it can, the blocks have no fatal finding, and tell it with nothing open.
  pub told : (d : Cat) → MendsTo c d → CatOf bs (shut c)
  -- Its mending is the same with nothing open.
  pub same : mended (shut c) ≡ mended c
  -- The blocks mend to the same catalogue.
  pub mends : (d : Cat) → MendsTo c d → Mends bs d
  -- What mending makes of the blocks is accepted, and tells that catalogue.
  pub rebuilt : (new : List Block) (done : Mended) → IsRebuilt bs new done → IsMended c new done
  -- If it cannot, the blocks have the fatal finding that there is no room,
  pub lacking : mended c ≡ None → (n : ℕ) × IsFatal bs (NoRoom n)
  -- and they have no other one, nor that one if it can.
  pub roomless : (f : Finding) → IsFatal bs f → (mended c ≡ None) × ((n : ℕ) × (f ≡ NoRoom n))
