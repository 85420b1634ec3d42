-- The quota blocks while they are written one by one.
use Rattle.std.specs.Prelude.{◌≡◌, ◌≢◌, ℕ, List, All}
use Rattle.base_words.specs.Fields.{Block}
use Rattle.plain_cat.specs.declared.cat.Cat.{Cat}
use Rattle.plain_cat.specs.declared.cat.QuotaRow.{QuotaRow}
use Rattle.vol_parts.specs.declared.geometry.Geometry.{Geometry}
use Rattle.vol_parts.specs.Volumes.{rows_in}
use Rattle.vol_mends.specs.Told.{IsTold, KeepsSingles}
use Rattle.vol_mends.specs.Clean.{KeepsClean}
use Rattle.vol_mends.specs.Rows.{sum_of, quota_block}

-- the rows of quota block k have the usages that the files of c cost
abbrev pub AreRight : Geometry → List Block → Cat → ℕ → Type 0
AreRight g bs c k = All (λ r. r.usage ≡ sum_of c r) (rows_in (quota_block g bs k))

-- the blocks tell the catalogue but for the usages; block k has the right ones, the other blocks as before
pub record IsQuotaSet (g : Geometry) (old new : List Block) (c : Cat) (k : ℕ) : Type 0 where
  pub rows : List QuotaRow
  pub told : IsTold g new (record c { quota = rows })
  pub here : AreRight g new c k
  pub elsewhere : (j : ℕ) → j ≢ k → quota_block g new j ≡ quota_block g old j
  pub singles : KeepsSingles g old new
  pub clean : KeepsClean g old new
