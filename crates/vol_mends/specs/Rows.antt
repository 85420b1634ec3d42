-- The writes of quota blocks whose rows say what the files of their owners cost.
use Rattle.std.specs.Prelude.{◌≡◌, ◌<◌, ℕ, List, [], All, length, map, slice_set, slice_index_or}
use Rattle.base_words.specs.Fields.{Block, IsWholeBlock}
use Rattle.fx_quota.specs.declared.types.Row.{Row}
use Rattle.plain_cat.specs.declared.cat.Cat.{Cat}
use Rattle.plain_cat.specs.declared.cat.QuotaRow.{QuotaRow}
use Rattle.plain_rules.specs.Accounts.{charge}
use Rattle.plain_mends.specs.Resuming.{IsOfUsage}
use Rattle.vol_parts.specs.declared.geometry.Geometry.{Geometry}
use Rattle.vol_parts.specs.declared.geometry.Part.TheVariants.{Quota}
use Rattle.vol_parts.specs.Volumes.{rows_in}
use Rattle.vol_spell.specs.Places.{place_of}
use Rattle.vol_mends.specs.Told.{IsTold, LeadsTo, KeepsSingles}
use Rattle.vol_mends.specs.Clean.{KeepsClean}

-- what the files of a row's owner cost
abbrev pub sum_of : Cat → Row → ℕ
sum_of c r = charge c (record { 0 = r.uic })

-- a row with the usage that is summed
abbrev pub summed : Cat → Row → Row
summed c r = record r { usage = sum_of c r }

-- quota block k
abbrev pub quota_block : Geometry → List Block → ℕ → Block
quota_block g bs k = slice_index_or bs (place_of g (Quota k)) []

-- a block for quota block k whose rows are those before it with their usages summed
pub record AreSums (g : Geometry) (bs : List Block) (c : Cat) (k : ℕ) (b : Block) : Type 0 where
  pub told : IsTold g bs c
  pub block : k < g.cluster
  pub whole : IsWholeBlock b
  pub rows : rows_in b ≡ map (summed c) (rows_in (quota_block g bs k))

-- the blocks after it: usages have changed alone
pub record UsageIsSet (g : Geometry) (bs : List Block) (c : Cat) (new : List Block) : Type 0 where
  pub change : QuotaRow → QuotaRow
  pub usages : IsOfUsage change
  pub leads : LeadsTo g bs c (record c { quota = map change c.quota }) new
  pub singles : KeepsSingles g bs new
  pub clean : KeepsClean g bs new

-- with it the usages of its rows are summed; and all are where those of each block are
pub record RowsAreSummed : Type 0 where
  pub leads : (g : Geometry) (bs : List Block) (c : Cat) (k : ℕ) (b : Block) → AreSums g bs c k b → UsageIsSet g bs c (slice_set bs (place_of g (Quota k)) b)
  pub all : (g : Geometry) (bs : List Block) (c : Cat) → IsTold g bs c → ((k : ℕ) → k < g.cluster → All (λ r. r.usage ≡ sum_of c r) (rows_in (quota_block g bs k)))
      → All (λ r. r.usage ≡ charge c r.owner) c.quota
  pub within : (g : Geometry) (bs : List Block) (c : Cat) (k : ℕ) → IsTold g bs c → k < g.cluster → place_of g (Quota k) < length bs
