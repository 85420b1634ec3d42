-- Tidy catalogues: what an accepted volume contains and each history of answers, deaths and mendings leaves. Only opens, leaks and files
-- that are marked for delete are left to mend.
use Rattle.std.specs.Prelude.{◌≡◌, ℕ, Bool, true, false, Some, map, if◌then◌else◌}
use Rattle.std.specs.List.{Contains, count_by}
use Rattle.plain_cat.specs.declared.history.Mended.{Mended}
use Rattle.plain_cat.specs.declared.cat.Cat.{Cat}
use Rattle.plain_cat.specs.declared.cat.File.{File}
use Rattle.plain_cat.specs.declared.cat.Slot.{Slot}
use Rattle.plain_cat.specs.declared.cat.Slot.TheVariants.{Used, Free}
use Rattle.plain_rules.specs.declared.places.Place.{Place}
use Rattle.plain_rules.specs.Lookups.{file_at}
use Rattle.plain_rules.specs.Mending.{places, same_place, is_named, without_opens, without_leaks, with_sums, is_true}
use Rattle.plain_mends.specs.Resuming.{AllStay}
use Rattle.plain_mends.specs.Sound.{IsSound}

-- each entry stays, no two have the same directory, name and version, and each file that is not marked for delete is named by one
pub record IsTidy (c : Cat) : Type 0 where
  pub sound : IsSound c
  pub stay : AllStay c
  pub keyed : (p q : Place) → Contains (places c) p → Contains (places c) q → same_place p q ≡ true → p ≡ q
  pub named : (n : ℕ) (f : File) → file_at c n ≡ Some f → f.marked ≡ false → is_named c (record { num = n; seq = f.seq }) ≡ true

-- a slot whose file is not marked for delete, or whose number is free
abbrev pub less_marked : Slot → Slot
less_marked (Free seq) = Free seq
less_marked (Used f) = if f.marked then Free f.seq else Used f

-- the files that are marked for delete are gone
abbrev pub without_marked : Cat → Cat
without_marked c = record c { files = map less_marked c.files }

abbrev pub is_marked_slot : Slot → Bool
is_marked_slot (Free seq) = false
is_marked_slot (Used f) = f.marked

-- what a mending makes of a tidy catalogue
abbrev pub tidied : Cat → Cat
tidied c = with_sums (without_leaks (without_marked (without_opens c)))

-- what it does
abbrev pub tidy_counts : Cat → Mended
tidy_counts c = record {
  entered = 0;
  removed = 0;
  gone = count_by is_marked_slot c.files;
  clusters = c.leaked;
  numbers = count_by is_true c.leaked_numbers;
}
