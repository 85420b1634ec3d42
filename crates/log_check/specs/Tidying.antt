-- What the judge knows of a catalogue that an accepted volume led to.
use Rattle.std.specs.Prelude.{◌≡◌, All}
use Rattle.plain_cat.specs.declared.cat.Cat.{Cat}
use Rattle.plain_cat.specs.declared.cat.QuotaRow.{QuotaRow}
use Rattle.plain_rules.specs.Accounts.{charge}
use Rattle.plain_tidy.specs.Tidy.{IsTidy}

-- it is tidy, and the usage of each row is what its owner's files cost
pub record IsSettled (c : Cat) : Type 0 where
  pub tidy : IsTidy c
  pub usage : All (λ (r : QuotaRow). r.usage ≡ charge c r.owner) c.quota
