-- The small changes that mending makes, one by one: a catalogue that can be mended can be mended after each of them.
use Rattle.std.specs.Prelude.{◌≡◌, ◌<◌, ◌++◌, ℕ, Bool, true, false, List, [], ◌∷◌, Some, None, map, length, replicate}
use Rattle.base_words.specs.Fields.{Block}
use Rattle.plain_cat.specs.declared.cat.Cat.{Cat}
use Rattle.plain_cat.specs.declared.cat.File.{File}
use Rattle.plain_cat.specs.declared.cat.QuotaRow.{QuotaRow}
use Rattle.plain_rules.specs.declared.places.Place.{Place}
use Rattle.plain_rules.specs.Lookups.{file_at}
use Rattle.plain_rules.specs.Mending.{lost, enter, is_gone, stripped}
use Rattle.plain_mends.specs.Resuming.{MendsTo, AreKeyed, Goes, less_one, leaving, IsOfUsage}
use Rattle.plain_mends.specs.Waiting.{Settled, LostIsWritten, AreFull}
use Rattle.vol_spell.specs.Owners.{Owners}
use Rattle.vol_parts.specs.declared.geometry.Geometry.{Geometry}
use Rattle.vol_parts.specs.Findings.{CatOf}
use Rattle.vol_spell.specs.Spelling.{Spells}
use Rattle.vol_mends.specs.Weak.{NoOuts, CanMend}
use Rattle.vol_mends.specs.Mends.{Mends}

-- one change that mending makes to the catalogue c
pub data Change (c : Cat) : Cat → Type 0 where
  -- An entry that does not stay is gone.
  Removed : (p : Place) (f : File) → AreKeyed c → Goes c p f → Change c (less_one c p f)
  -- The next lost file that is not empty is entered in [SYSLOST].
  EnteredFull : {d : Cat} (n : ℕ) (ns : List ℕ) → Settled c → lost c false ≡ n ∷ ns → enter c n ≡ Some d → Change c d
  -- So is an empty one, where those that are not empty are all entered and there is no room for the empty ones before it.
  EnteredEmpty : {d : Cat} (ms : List ℕ) (n : ℕ) (ns : List ℕ) → Settled c → length c.files < 100000 → lost c false ≡ [] → lost c true ≡ ms ++ n ∷ ns → AreFull c ms → enter c n ≡ Some d → Change c d
  -- The slot of a file that nobody names or that is marked is free, where no lost file can be entered.
  Freed : (n : ℕ) (f : File) → Settled c → lost c false ≡ [] → AreFull c (lost c true) → file_at c n ≡ Some f → is_gone c n f ≡ true → Change c (leaving c n f)
  -- Other clusters and numbers are leaked.
  Leaked : (k : ℕ) (flags : List Bool) → length flags ≡ length c.leaked_numbers → Change c (record c { leaked = k; leaked_numbers = flags })
  -- Usages are others.
  Summed : (change : QuotaRow → QuotaRow) → IsOfUsage change → Change c (record c { quota = map change c.quota })

-- after each change, mending ends the same, and the catalogue can be mended
pub record GoesOn : Type 0 where
  pub ends : (c d z : Cat) → Change c d → MendsTo c z → MendsTo d z
  pub can : (c d : Cat) → Change c d → CanMend c → CanMend d

-- Blocks that spell the catalogue after a change have no fatal finding and tell this catalogue, where nothing was open. They mend to
-- what the catalogue mended to before the change.
pub record ChangeMends : Type 0 where
  pub tells : (g : Geometry) (bs : List Block) (own : Owners) (c d : Cat) → CanMend c → c.opens ≡ replicate 64 None → Change c d → Spells g bs own d → NoOuts own → CatOf bs d
  pub mends : (g : Geometry) (bs : List Block) (own : Owners) (c d z : Cat) → CanMend c → c.opens ≡ replicate 64 None → Change c d → Spells g bs own d → NoOuts own → MendsTo c z → Mends bs z

-- A write by which the catalogue that blocks tell changes so: the blocks after it have no fatal finding, tell the catalogue after the
-- change, and mend to the same.
abbrev pub WriteMends : Type 0
WriteMends = (g : Geometry) (bs new : List Block) (own : Owners) (c d z : Cat) → CatOf bs c → Change c d → Spells g new own d → NoOuts own → MendsTo c z → CatOf new d × Mends new z

-- the catalogue that blocks with no fatal finding tell is, once the entries that do not stay are gone, as mending finds it when it
-- enters lost files
abbrev pub StartIsSettled : Type 0
StartIsSettled = (bs : List Block) (c : Cat) → CatOf bs c → Settled (stripped c) × LostIsWritten (stripped c)
