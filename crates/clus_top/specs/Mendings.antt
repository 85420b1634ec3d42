-- What a mending of a volume leaves, and what is printed of it.
use Rattle.std.specs.Prelude.{◌≡◌, ◌++◌, ℕ, List}
use Rattle.base_words.specs.Fields.{Block}
use Rattle.plain_cat.specs.declared.cat.Cat.{Cat}
use Rattle.plain_cat.specs.declared.history.Mended.{Mended}
use Rattle.vol_parts.specs.declared.finding.Finding.{Finding}
use Rattle.vol_parts.specs.Findings.{IsFatal}
use Rattle.plain_texts.specs.Reports.{newline, mended_text}
use Rattle.vol_mends.specs.Mends.{Mends}
use Rattle.vol_rebuild.specs.Rebuilt.{IsRebuilt}

-- the new blocks are an accepted volume, which tells the catalogue to which that of the old ones is mended
pub record IsMendedImage (bs new : List Block) : Type 0 where
  pub done : Mended
  pub rebuilt : IsRebuilt bs new done

-- what is printed of what was done
abbrev pub mending_text : Mended → List ℕ
mending_text done = mended_text done ++ newline

-- a text tells what was done to these blocks
pub record IsMendingText (bs new : List Block) (text : List ℕ) : Type 0 where
  pub mended : IsMendedImage bs new
  pub written : text ≡ mending_text mended.done

-- The new blocks mend to the same as the old ones. If these have a fatal finding, they are the old ones.
pub record IsStillToMend (bs new : List Block) : Type 0 where
  pub mends : (z : Cat) → Mends bs z → Mends new z
  pub kept : (f : Finding) → IsFatal bs f → new ≡ bs
