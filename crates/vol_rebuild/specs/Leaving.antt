-- The entries that go, and the files that go.
use Rattle.std.specs.Prelude.{not, ℕ, Bool, false, List, filter}
use Rattle.plain_cat.specs.declared.cat.Cat.{Cat}
use Rattle.plain_cat.specs.declared.cat.Slot.{Slot}
use Rattle.plain_cat.specs.declared.cat.Slot.TheVariants.{Used, Free}
use Rattle.plain_rules.specs.declared.places.Place.{Place}
use Rattle.plain_rules.specs.Mending.{places, stays, is_gone, numbers_from}
use Rattle.vol_rebuild.specs.declared.entries.Leaver.{Leaver}

-- of these entries, those that do not stay
abbrev pub leavers_of : Cat → List Place → List Place
leavers_of c ps = filter (λ p. not (stays c p)) ps

-- the entries that do not stay
abbrev pub leavers : Cat → List Place
leavers c = leavers_of c (places c)

-- the place of an entry that goes
abbrev pub place_from : Leaver → Place
place_from l = record { dir = l.dir; entry = l.entry }

-- a slot's file is marked for delete, or in no directory
abbrev pub is_gone_slot : Cat → ℕ → Slot → Bool
is_gone_slot c n (Free seq) = false
is_gone_slot c n (Used f) = is_gone c n f

-- the numbers of such files
abbrev pub gone_numbers : Cat → List ℕ
gone_numbers c = numbers_from (is_gone_slot c) 1 c.files
