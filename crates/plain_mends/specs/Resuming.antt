-- Mending that goes on after a part of it is done.
use Rattle.std.specs.Prelude.{◌≡◌, ◌==◌, ◌&&◌, ◌-◌, ◌+◌, not, ℕ, Bool, true, false, Some, slice_get, slice_set}
use Rattle.std.specs.List.{Contains}
use Rattle.plain_cat.specs.declared.history.Mended.{Mended}
use Rattle.plain_cat.specs.declared.cat.Cat.{Cat}
use Rattle.plain_cat.specs.declared.cat.File.{File}
use Rattle.plain_cat.specs.declared.cat.QuotaRow.{QuotaRow}
use Rattle.plain_rules.specs.declared.places.Place.{Place}
use Rattle.plain_rules.specs.Lookups.{file_at}
use Rattle.plain_rules.specs.Directories.{is_entry, without}
use Rattle.plain_rules.specs.Changes.{freed, with_entries}
use Rattle.plain_rules.specs.Mending.{places, same_place, stays, without_opens, mended, stripped}

-- mending ends with the catalogue d
abbrev pub MendsTo : Cat → Cat → Type 0
MendsTo c d = (m : Mended) × (mended c ≡ Some (d, m))

-- each entry stays
abbrev pub AllStay : Cat → Type 0
AllStay c = stripped c ≡ without_opens c

-- a directory has each name and version once
abbrev pub AreKeyed : Cat → Type 0
AreKeyed c = (i j : ℕ) (p q : Place) → slice_get (places c) i ≡ Some p → slice_get (places c) j ≡ Some q → same_place p q ≡ true → i ≡ j

-- an entry of the directory d that does not stay
pub record Goes (c : Cat) (p : Place) (d : File) : Type 0 where
  pub at : file_at c p.dir ≡ Some d
  pub dir : d.dir ≡ true
  pub entry : Contains d.entries p.entry
  pub goes : stays c p ≡ false

-- the catalogue without it
abbrev pub less_one : Cat → Place → File → Cat
less_one c p d = with_entries c p.dir d (without p.entry.name p.entry.ver d.entries)

-- whether an entry has another directory, name or version
abbrev pub is_other : Place → Place → Bool
is_other p q = not ((q.dir == p.dir) && is_entry p.entry.name p.entry.ver q.entry)

-- the slot of file n is free, and until the bitmaps are written its clusters and its number are leaked
abbrev pub leaving : Cat → ℕ → File → Cat
leaving c n f = record (freed c n f) { leaked = c.leaked + f.clusters; leaked_numbers = slice_set c.leaked_numbers (n - 1) true }

-- a row with the usage left out of account
abbrev pub unused : QuotaRow → QuotaRow
unused r = record r { usage = 0 }

-- a change of rows that changes usages alone
abbrev pub IsOfUsage : (QuotaRow → QuotaRow) → Type 0
IsOfUsage change = (r : QuotaRow) → unused (change r) ≡ unused r
