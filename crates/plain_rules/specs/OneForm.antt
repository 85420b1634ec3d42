-- The one form of a catalogue: each of its lists stands in one order, has nothing twice and has its one length, so that equal
-- volumes are equal values.
use Rattle.std.specs.Prelude.{◌≡◌, ◌&&◌, nat_lt, Bool, true, List, [], ◌∷◌, All, length}
use Rattle.std.specs.List.{list_all}
use Rattle.plain_cat.specs.declared.entries.DirEnt.{DirEnt}
use Rattle.plain_cat.specs.declared.cat.Cat.{Cat}
use Rattle.plain_cat.specs.declared.cat.Slot.{Slot}
use Rattle.plain_cat.specs.declared.cat.Slot.TheVariants.{Used, Free}
use Rattle.plain_cat.specs.declared.cat.QuotaRow.{QuotaRow}
use Rattle.plain_rules.specs.Directories.{before}

-- each entry comes before all behind it
abbrev pub rises : List DirEnt → Bool
rises [] = true
rises (e ∷ es) = list_all (before e) es && rises es

-- each row is of a lower owner than all behind it
abbrev pub owners_rise : List QuotaRow → Bool
owners_rise [] = true
owners_rise (r ∷ rs) = list_all (λ q. nat_lt r.owner.0 q.owner.0) rs && owners_rise rs

-- the entries of a slot's file are in order
abbrev pub HasOrder : Slot → Type 0
HasOrder (Free seq) = Unit {0}
HasOrder (Used f) = rises f.entries ≡ true

pub record HasOneForm (c : Cat) : Type 0 where
  -- The entries of each directory are by name and falling version, and no name and version comes twice.
  pub entries : All HasOrder c.files
  -- The quota rows are by rising owner, and no owner has two.
  pub rows : owners_rise c.quota ≡ true
  -- There are eight channels for each of eight nodes.
  pub opens : length c.opens ≡ 64
  -- Each number has one flag.
  pub flags : length c.leaked_numbers ≡ length c.files
