-- That blocks have findings.
use Rattle.std.specs.Prelude.{List}
use Rattle.base_words.specs.Fields.{Block}
use Rattle.vol_parts.specs.declared.finding.Finding.{Finding}
use Rattle.vol_parts.specs.Findings.{AreFindings}

-- a list that is the findings of these blocks
pub record HaveFindings (bs : List Block) : Type 0 where
  pub findings : List Finding
  pub are : AreFindings bs findings
