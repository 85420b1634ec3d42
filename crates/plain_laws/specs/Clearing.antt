-- What mending leaves, and what it needs for that. The catalogue of an accepted volume has all that is needed: where some
-- of it is missing, the volume has a fault that mending does not put right.
use Rattle.std.specs.Prelude.{◌≡◌, ◌≢◌, ◌≤◌, ℕ, Bool, true, false, All, Option, Some, None}
use Rattle.std.specs.List.{Contains}
use Rattle.plain_cat.specs.declared.history.Mended.{Mended}
use Rattle.plain_cat.specs.declared.cat.Cat.{Cat}
use Rattle.plain_cat.specs.declared.cat.File.{File}
use Rattle.plain_cat.specs.declared.cat.Slot.{Slot}
use Rattle.plain_cat.specs.declared.cat.Slot.TheVariants.{Used, Free}
use Rattle.plain_cat.specs.declared.cat.Open.{Open}
use Rattle.plain_cat.specs.declared.cat.QuotaRow.{QuotaRow}
use Rattle.plain_rules.specs.declared.places.Place.{Place}
use Rattle.plain_rules.specs.Lookups.{file_at}
use Rattle.plain_rules.specs.Accounts.{charge}
use Rattle.plain_rules.specs.Mending.{places, is_own, is_named}

-- a slot has no file that is marked for delete
abbrev pub IsUnmarked : Slot → Type 0
IsUnmarked (Free seq) = Unit {0}
IsUnmarked (Used f) = f.marked ≡ false

-- Nobody uses the volume, nothing is leaked, no file is marked for delete, and each owner's usage is what its files cost.
pub record Cleared (c : Cat) : Type 0 where
  pub opens : All (λ (o : Option Open). o ≡ None) c.opens
  pub clusters : c.leaked ≡ 0
  pub numbers : All (λ (b : Bool). b ≡ false) c.leaked_numbers
  pub marks : All IsUnmarked c.files
  pub usage : All (λ (r : QuotaRow). r.usage ≡ charge c r.owner) c.quota

-- each file is named by an entry of a directory
abbrev pub AreNamed : Cat → Type 0
AreNamed c = (n : ℕ) (f : File) → file_at c n ≡ Some f → is_named c (record { num = n; seq = f.seq }) ≡ true

-- the master file directory, which is file 4, has the entry that the system file f of number n keeps
abbrev pub HasOwnEntry : Cat → ℕ → File → Type 0
HasOwnEntry c n f = (p : Place) × Contains (places c) p × (is_own p ≡ true) × (p.entry.fid ≡ record { num = n; seq = f.seq })

-- [SYSLOST], where lost files are entered
pub record IsLostDirectory (c : Cat) (f : File) : Type 0 where
  -- It is a directory.
  pub directory : f.dir ≡ true
  -- It is not marked for delete.
  pub unmarked : f.marked ≡ false
  -- It has its own entry.
  pub own : HasOwnEntry c 11 f

-- names are not lost with the directories that have them
pub record KeepsNames (c : Cat) : Type 0 where
  -- A directory with an entry is not marked for delete.
  pub unmarked : (p : Place) (f : File) → Contains (places c) p → file_at c p.dir ≡ Some f → f.marked ≡ false
  -- A directory with an entry has no mark of 1, which says that nothing was written to it.
  pub written : (p : Place) (f : File) → Contains (places c) p → file_at c p.dir ≡ Some f → f.mark ≢ 1
  -- A file of the number 11 is [SYSLOST].
  pub lost : (f : File) → file_at c 11 ≡ Some f → IsLostDirectory c f

-- each system file, of a number up to 11, that is not marked for delete has its own entry
abbrev pub AreOwned : Cat → Type 0
AreOwned c = (n : ℕ) (f : File) → n ≤ 11 → file_at c n ≡ Some f → f.marked ≡ false → HasOwnEntry c n f

-- nothing was done
abbrev pub nothing_done : Mended
nothing_done = record { entered = 0; removed = 0; gone = 0; clusters = 0; numbers = 0 }
