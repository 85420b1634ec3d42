-- The files that wait to be entered in [SYSLOST].
use Rattle.std.specs.Prelude.{◌≡◌, ◌≢◌, ℕ, Bool, true, false, List, [], All, Some, None}
use Rattle.std.specs.List.{Contains}
use Rattle.plain_cat.specs.declared.cat.Cat.{Cat}
use Rattle.plain_cat.specs.declared.cat.File.{File}
use Rattle.plain_cat.specs.declared.cat.QuotaRow.{QuotaRow}
use Rattle.plain_rules.specs.Lookups.{file_at}
use Rattle.plain_rules.specs.Accounts.{charge}
use Rattle.plain_rules.specs.Mending.{lost, enter}
use Rattle.plain_laws.specs.Clearing.{IsUnmarked, KeepsNames, AreOwned}
use Rattle.plain_mends.specs.Resuming.{AllStay}

-- A catalogue as mending finds it when it enters lost files: each entry stays, names are kept with their directories, and each system
-- file has its own entry.
pub record Settled (c : Cat) : Type 0 where
  pub stay : AllStay c
  pub names : KeepsNames c
  pub owned : AreOwned c

-- [SYSLOST] has no mark of 1, which says that nothing was written to it
abbrev pub LostIsWritten : Cat → Type 0
LostIsWritten c = (f : File) → file_at c 11 ≡ Some f → f.mark ≢ 1

-- for none of these is there room in [SYSLOST]
abbrev pub AreFull : Cat → List ℕ → Type 0
AreFull c ns = (n : ℕ) → Contains ns n → enter c n ≡ None

-- Nothing is left to mend: each entry stays, no file is lost or marked for delete, nothing is leaked, and the usage of each owner is
-- what its files cost.
pub record IsDone (c : Cat) : Type 0 where
  pub stay : AllStay c
  pub full : lost c false ≡ []
  pub empty : lost c true ≡ []
  pub marks : All IsUnmarked c.files
  pub clusters : c.leaked ≡ 0
  pub numbers : All (λ (b : Bool). b ≡ false) c.leaked_numbers
  pub usage : All (λ (r : QuotaRow). r.usage ≡ charge c r.owner) c.quota
