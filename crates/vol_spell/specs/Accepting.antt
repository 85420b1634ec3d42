-- The owners that the blocks of a volume tell where nobody holds anything outside, and that a volume with no fatal finding
-- spells its catalogue with them. So does one that has no others than those on which the spelling does not rest.
use Rattle.std.specs.Prelude.{◌≡◌, ◌≤◌, not, ℕ, List, Option, Some, None, Ok, length, map, if◌then◌else◌}
use Rattle.std.specs.List.{range_with_len, find}
use Rattle.base_words.specs.Fields.{Block, AreWholeBlocks}
use Rattle.fx_home.specs.declared.home.Home.{Home}
use Rattle.fx_home.specs.Homes.{home_read}
use Rattle.plain_cat.specs.declared.cat.Cat.{Cat}
use Rattle.vol_spell.specs.declared.owner.Owner.{Owner}
use Rattle.vol_spell.specs.declared.owner.Owner.TheVariants.{Free, InFile, Leaked}
use Rattle.vol_spell.specs.Owners.{Owners, Outs, nothing}
use Rattle.vol_parts.specs.Volumes.{Volume, volume, total, numbers, is_slot_of, is_in_file, is_free_cluster, is_used_number, geometry_of}
use Rattle.vol_parts.specs.declared.finding.Finding.{Finding}
use Rattle.vol_parts.specs.declared.finding.Finding.TheVariants as finding
use Rattle.vol_parts.specs.Catalogues.{catalogue}
use Rattle.vol_parts.specs.Fatal.{IsFatalIn}
use Rattle.vol_parts.specs.Findings.{home_at, CatOf}
use Rattle.vol_spell.specs.Spelling.{Spells}

abbrev pub owner_found : Option ℕ → Owner
owner_found None = Leaked
owner_found (Some n) = InFile n

-- a cluster is free by its bit, else of the first file that has it, else leaked
unfoldable pub cluster_owner : Volume → ℕ → Owner
cluster_owner v q = if is_free_cluster v q then Free else owner_found (find (is_in_file v q) (numbers v))

-- a number is free by its bit, else of the first file that has it for a header slot, else leaked
unfoldable pub number_owner : Volume → ℕ → Owner
number_owner v m = if not (is_used_number v m) then Free else owner_found (find (is_slot_of v m) (numbers v))

abbrev pub owners_told : Volume → Owners
owners_told v = record { clusters = map (cluster_owner v) (range_with_len 0 (total v)); numbers = map (number_owner v) (numbers v) }

-- the blocks have a home block, and spell the catalogue by the geometry that it gives; no node holds anything outside
pub record IsSpelt (bs : List Block) (c : Cat) : Type 0 where
  pub home : Home
  pub read : home_read (home_at bs) ≡ Ok home
  pub spelt : Spells (geometry_of (volume home bs)) bs (owners_told (volume home bs)) c
  pub outs : (node : ℕ) → Outs node (owners_told (volume home bs)) nothing nothing

-- the catalogue of a volume of whole blocks with no fatal finding is spelt
abbrev pub CatalogueIsSpelt : Type 0
CatalogueIsSpelt = (bs : List Block) (c : Cat) → 64 ≤ length bs → length bs ≤ 65536 → AreWholeBlocks bs → CatOf bs c → IsSpelt bs c

-- the findings that the spelling of a catalogue does not rest on: an owner without a row, and what the catalogue alone tells
abbrev pub IsBeside : Finding → Type 0
IsBeside (finding.NoQuotaRow n) = Unit {0}
IsBeside (finding.SystemEntry n) = Unit {0}
IsBeside (finding.MarkedDir n) = Unit {0}
IsBeside (finding.DirLoop n) = Unit {0}
IsBeside (finding.NoRoom n) = Unit {0}
IsBeside f = ⊥

-- where no others hold, the blocks spell what they tell
abbrev pub BesideIsSpelt : Type 0
BesideIsSpelt = (home : Home) (bs : List Block) → 64 ≤ length bs → length bs ≤ 65536 → AreWholeBlocks bs → home_read (home_at bs) ≡ Ok home
    → ((f : Finding) → IsFatalIn (volume home bs) f → IsBeside f) → IsSpelt bs (catalogue (volume home bs))
