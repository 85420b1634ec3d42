-- The findings that are not fatal, kind by kind.
use Rattle.std.specs.Prelude.{◌++◌, ℕ, List, map, filter}
use Rattle.std.specs.List.{count_by}
use Rattle.plain_cat.specs.declared.cat.Cat.{Cat}
use Rattle.plain_rules.specs.declared.places.Place.{Place}
use Rattle.plain_rules.specs.Mending.{places, numbers_from, is_true}
use Rattle.vol_parts.specs.declared.finding.Finding.{Finding}
use Rattle.vol_parts.specs.declared.finding.Finding.TheVariants as finding
use Rattle.vol_parts.specs.Warnings.{is_marked, names_none, is_second, names_none_found, second_found, is_lost_file, if_any, is_miscounted, usage_found}

abbrev pub marked_of : Cat → List Finding
marked_of c = map finding.Marked (numbers_from is_marked 1 c.files)

-- of these entries, those that name no file
abbrev pub nameless_of : Cat → List Place → List Finding
nameless_of c ps = map names_none_found (filter (names_none c) ps)

-- of these entries, those of a live file that keeps another one
abbrev pub seconds_of : Cat → List Place → List Finding
seconds_of c ps = map second_found (filter (is_second c) ps)

abbrev pub lost_of : Cat → List Finding
lost_of c = map finding.Lost (numbers_from (is_lost_file c) 1 c.files)

abbrev pub leaks_of : Cat → List Finding
leaks_of c = if_any finding.LeakedClusters c.leaked ++ if_any finding.LeakedNumbers (count_by is_true c.leaked_numbers)

abbrev pub usages_of : Cat → List Finding
usages_of c = map (usage_found c) (filter (is_miscounted c) c.quota)

-- all of them, where these directories have doubles, these files surplus, and these headers are in no chain
abbrev pub findings_with : Cat → List ℕ → List ℕ → List ℕ → List Finding
findings_with c ds ss hs =
    marked_of c ++ (nameless_of c (places c) ++ (seconds_of c (places c)
    ++ (map finding.Doubles ds ++ (lost_of c ++ (map finding.Surplus ss ++ (map finding.Stray hs ++ (leaks_of c ++ usages_of c)))))))

-- of the findings that are not fatal those of the first kinds: of marked files, and of entries
abbrev pub early_of : Cat → List Finding
early_of c = marked_of c ++ (nameless_of c (places c) ++ seconds_of c (places c))

-- and those of the others, where these directories have doubles, these files surplus, and these headers are in no chain
abbrev pub late_of : Cat → List ℕ → List ℕ → List ℕ → List Finding
late_of c ds ss hs =
    map finding.Doubles ds ++ (lost_of c ++ (map finding.Surplus ss ++ (map finding.Stray hs ++ (leaks_of c ++ usages_of c))))
