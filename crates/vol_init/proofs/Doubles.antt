-- Blocks that list entries in order, one behind the other, have no entry twice.
use Rattle.std.proofs.Common.{◌≡◌, ◌∙◌, true, false, List, [], ◌∷◌, ◌++◌, ℕ, Option, Some, None, map, refl, sym}
use Rattle.std.specs.List.{list_any, list_all}
use Rattle.std.proofs.lemmas.Bool.{and_parts, and_right, or_from, both_ways, false_from_ne_true}
use Rattle.std.proofs.lemmas.List.Folds.{list_all-append}
use Rattle.base_words.specs.Fields.{Block}
use Rattle.fx_header.specs.declared.slot.Hdr.{Hdr}
use Rattle.fx_dir.specs.declared.RawEnt.{RawEnt}
use Rattle.fx_dir.specs.Lists.{joined}
use Rattle.fx_dir.specs.Entries.{same, before, rises, has}
use Rattle.fx_dir.specs.Directory.{entries_at, all_entries}
use Rattle.fx_dir.proofs.Cover.{rises-right}
use Rattle.fx_dir.proofs.Order.{same-self, same-both, before-other}
use Rattle.vol_parts.specs.Volumes.{Volume, fields, body}
use Rattle.vol_parts.specs.Warnings.{is_double_dir, has_doubles}
use Rattle.fx_dir.specs.Laws.{has_double}

other_before : (a b : RawEnt) → before a b ≡ true → same a b ≡ false
other_before a b e = false_from_ne_true (same a b) (λ t. both_ways (same b a) (before-other a b e) (same-both a a b (same-self a) t))

not_behind : (e : RawEnt) (xs : List RawEnt) → list_all (before e) xs ≡ true → has xs e ≡ false
not_behind e [] all = refl
not_behind e (x ∷ xs) all =
    let parts = and_parts (before e x) (list_all (before e) xs) all in
    or_from (same e x) (has xs e) (other_before e x parts.0) (not_behind e xs parts.1)

none_behind : (es xs : List RawEnt) → rises (es ++ xs) ≡ true → list_any (has xs) es ≡ false
none_behind [] xs order = refl
none_behind (e ∷ es) xs order =
    let parts = and_parts (list_all (before e) (es ++ xs)) (rises (es ++ xs)) order in
    let both = and_parts (list_all (before e) es) (list_all (before e) xs) (sym (list_all-append (before e) es xs) ∙ parts.0) in
    or_from (has xs e) (list_any (has xs) es) (not_behind e xs both.1) (none_behind es xs parts.1)

none_twice : (ess : List (List RawEnt)) → rises (joined ess) ≡ true → has_double ess ≡ false
none_twice [] order = refl
none_twice (es ∷ ess) order =
    or_from (list_any (has (joined ess)) es) (has_double ess) (none_behind es (joined ess) order) (none_twice ess (rises-right es (joined ess) order))

no_double_in : (o : Option Hdr) (bs : List Block) → rises (all_entries bs) ≡ true → is_double_dir o bs ≡ false
no_double_in None bs order = refl
no_double_in (Some f) bs order = and_right f.dir (has_double (map entries_at bs)) (none_twice (map entries_at bs) order)

pub ordered_once : (v : Volume) (n : ℕ) → rises (all_entries (body v n)) ≡ true → has_doubles v n ≡ false
unfolding has_doubles
ordered_once v n order = no_double_in (fields v n) (body v n) order
