-- What mending puts right: the findings of a volume that has no fatal one.
use Rattle.std.specs.Prelude.{◌==◌, ◌&&◌, not, nat_lt, ℕ, Bool, false, List, [], ◌∷◌, ◌++◌, Option, Some, None, is_none, map, filter, if◌then◌else◌}
use Rattle.std.specs.List.{count_by}
use Rattle.base_words.specs.Fields.{Block}
use Rattle.fx_header.specs.declared.slot.Hdr.{Hdr}
use Rattle.fx_dir.specs.Directory.{entries_at}
use Rattle.plain_cat.specs.declared.cat.Cat.{Cat}
use Rattle.plain_cat.specs.declared.cat.Slot.{Slot}
use Rattle.plain_cat.specs.declared.cat.Slot.TheVariants.{Used, Free}
use Rattle.plain_cat.specs.declared.cat.QuotaRow.{QuotaRow}
use Rattle.plain_rules.specs.declared.places.Place.{Place}
use Rattle.plain_rules.specs.Lookups.{in_use, live}
use Rattle.plain_rules.specs.Accounts.{charge}
use Rattle.plain_rules.specs.Mending.{places, stays, is_lost, numbers_from, is_true}
use Rattle.vol_parts.specs.declared.finding.Finding.{Finding}
use Rattle.vol_parts.specs.declared.finding.Finding.TheVariants as finding
use Rattle.vol_parts.specs.Volumes.{Volume, numbers, used_slot, fields, told, is_in_slots, body}
use Rattle.vol_parts.specs.Catalogues.{catalogue}
use Rattle.fx_dir.specs.Laws.{has_double}

-- a file that is marked for delete
abbrev pub is_marked : ℕ → Slot → Bool
is_marked n (Free seq) = false
is_marked n (Used f) = f.marked

-- an entry that names no file in use
unfoldable pub names_none : Cat → Place → Bool
names_none c p = is_none (in_use c p.entry.fid)

-- an entry of a live file that keeps another one
unfoldable pub is_second : Cat → Place → Bool
is_second c p = not (is_none (live c p.entry.fid)) && not (stays c p)

abbrev pub names_none_found : Place → Finding
names_none_found p = finding.NamesNone p.entry.name p.entry.ver p.dir

abbrev pub second_found : Place → Finding
second_found p = finding.Second p.entry.name p.entry.ver p.dir

abbrev pub is_double_dir : Option Hdr → List Block → Bool
is_double_dir None blocks = false
is_double_dir (Some f) blocks = f.dir && has_double (map entries_at blocks)

unfoldable pub has_doubles : Volume → ℕ → Bool
has_doubles v n = is_double_dir (fields v n) (body v n)

-- a file that is not marked and stands in no directory
abbrev pub is_lost_file : Cat → ℕ → Slot → Bool
is_lost_file c n (Free seq) = false
is_lost_file c n (Used f) = is_lost c n f

-- something is listed behind the blocks of a file, or a link leads on
unfoldable pub has_surplus : Volume → ℕ → Bool
has_surplus v n = (told v n).surplus

-- a slot is used by another header than a file's first one
abbrev pub is_further : Option Hdr → Bool
is_further None = false
is_further (Some f) = nat_lt 0 f.seg

-- such a header is in the chain of no file
unfoldable pub is_stray : Volume → ℕ → Bool
is_stray v n = is_further (used_slot v n) && not (is_in_slots v n)

-- one finding where the number is not 0
abbrev pub if_any : (ℕ → Finding) → ℕ → List Finding
if_any found n = if n == 0 then [] else found n ∷ []

-- a row whose usage is not what the owner's files cost
abbrev pub is_miscounted : Cat → QuotaRow → Bool
is_miscounted c r = not (r.usage == charge c r.owner)

abbrev pub usage_found : Cat → QuotaRow → Finding
usage_found c r = finding.Usage r.owner r.usage (charge c r.owner)

-- All findings of a volume that has no fatal one: rank by rank, and each rank by rising number and in the order of entries.
unfoldable pub warnings : Volume → List Finding
warnings v = let c = catalogue v in
    map finding.Marked (numbers_from is_marked 1 c.files)
    ++ (map names_none_found (filter (names_none c) (places c))
    ++ (map second_found (filter (is_second c) (places c))
    ++ (map finding.Doubles (filter (has_doubles v) (numbers v))
    ++ (map finding.Lost (numbers_from (is_lost_file c) 1 c.files)
    ++ (map finding.Surplus (filter (has_surplus v) (numbers v))
    ++ (map finding.Stray (filter (is_stray v) (numbers v))
    ++ (if_any finding.LeakedClusters c.leaked
    ++ (if_any finding.LeakedNumbers (count_by is_true c.leaked_numbers)
    ++ map (usage_found c) (filter (is_miscounted c) c.quota)))))))))
