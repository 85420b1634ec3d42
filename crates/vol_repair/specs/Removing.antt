-- Entries that go, and what their directories have without them.
use Rattle.std.specs.Prelude.{◌≡◌, ◌<◌, ◌==◌, ◌&&◌, not, ℕ, Bool, true, List, Some, All, filter, length, take}
use Rattle.std.specs.List.{list_any}
use Rattle.base_words.specs.Fields.{Block}
use Rattle.fx_dir.specs.declared.Move.{Move}
use Rattle.plain_cat.specs.declared.entries.DirEnt.{DirEnt}
use Rattle.plain_cat.specs.declared.cat.Cat.{Cat}
use Rattle.plain_cat.specs.declared.cat.File.{File}
use Rattle.plain_rules.specs.declared.places.Place.{Place}
use Rattle.plain_rules.specs.Lookups.{file_at}
use Rattle.plain_rules.specs.Directories.{is_entry}
use Rattle.plain_rules.specs.Mending.{same_place}
use Rattle.plain_rules.specs.SystemFiles.{is_system_entry}
use Rattle.vol_parts.specs.declared.geometry.Geometry.{Geometry}
use Rattle.vol_rebuild.specs.Places.{written_at}
use Rattle.vol_sound.specs.Begun.{names_main, names_dir}
use Rattle.vol_sound.specs.Leading.{leads_back}
use Rattle.vol_repair.specs.declared.removing.Leaver.{Leaver}
use Rattle.vol_repair.specs.Alike.{IsSpeltAs, TellsAlike}

-- the place of an entry that goes
abbrev pub place_from : Leaver → Place
place_from l = record { dir = l.dir; entry = l.entry }

-- one of these places tells the entry e of directory n
unfoldable pub is_told : List Place → ℕ → DirEnt → Bool
is_told ps n e = list_any (λ p. same_place p (record { dir = n; entry = e })) ps

-- the entries of directory n but those that these places tell
abbrev pub without_told : List Place → ℕ → List DirEnt → List DirEnt
without_told ps n es = filter (λ e. not (is_told ps n e)) es

-- a directory's entries have the name and the version of a place
abbrev pub lists : Place → List DirEnt → Bool
lists p es = list_any (is_entry p.entry.name p.entry.ver) es

-- the directory of a place, d, has an entry of its name and version
pub record IsListed (c : Cat) (p : Place) (d : File) : Type 0 where
  pub at : file_at c p.dir ≡ Some d
  pub dir : d.dir ≡ true
  pub there : lists p d.entries ≡ true

-- Moves at these places of blocks that spell the catalogue c: after each number of them the blocks tell its files, and after all of
-- them they spell d.
pub record MovesSpell (g : Geometry) (bs : List Block) (c d : Cat) (ls : List ℕ) (ms : List Move) : Type 0 where
  pub inside : All (λ l. l < length bs) ls
  pub alike : (k : ℕ) → TellsAlike g c (written_at ls (take k ms) bs)
  pub spelt : IsSpeltAs g (written_at ls ms bs) d

-- an entry of the master file directory names it, and is not its own
abbrev pub is_double : Place → Bool
is_double p = (p.dir == 4) && (names_main p.entry && not (is_system_entry 4 p.entry))

-- an entry names a directory, and is one of a directory that leads back to itself, but the master file directory
abbrev pub is_on_loop : Cat → Place → Bool
is_on_loop c p = (not (p.dir == 4) && leads_back c p.dir) && names_dir c p.entry
