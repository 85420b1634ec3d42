-- What the judge says of an entry of a history.
use Rattle.plain_cat.specs.declared.history.Entry.{Entry}
use Rattle.plain_cat.specs.declared.cat.Cat.{Cat}
use Rattle.plain_rules.specs.Accounts.{Accounted}
use Rattle.plain_rules.specs.Checks.{IsLegal}
use Rattle.plain_vol.specs.declared.checking.Checked.{Checked}
use Rattle.plain_vol.specs.declared.checking.Checked.TheVariants.{Legal, Illegal}

-- legal with the catalogue to which the entry leads, or illegal where it leads to none
abbrev pub IsChecked : Cat → Entry → Checked → Type 0
IsChecked c e (Legal d) = IsLegal c e d
IsChecked c e Illegal = (d : Cat) → IsLegal c e d → ⊥

-- the catalogue after a legal entry is accounted for again
abbrev pub KeepsAccounts : Checked → Type 0
KeepsAccounts (Legal d) = Accounted d
KeepsAccounts Illegal = Unit {0}
