-- The catalogue of blocks with no fatal finding, and that of an accepted volume.
use Rattle.std.proofs.Common.{◌≡◌, ◌≤◌, ◌<◌, ◌+◌, ◌-◌, ◌/◌, ◌∙◌, ◌⊎◌, inl, inr, ℕ, suc, Bool, true, false, cond, not, List, [], ◌∷◌, Option, Some, None, length, map, replicate, nat_lt, slice_get, refl, sym, ap, subst, arith}
use Rattle.std.specs.Prelude.{◌==◌, ◌&&◌, ◌||◌, is_some, is_none, filter, Result, Ok, Err}
use Rattle.std.specs.List.{Contains, list_any}
use Rattle.std.proofs.lemmas.Bool.{and_parts, and_from, or_cases, eqb-true}
use Rattle.std.proofs.lemmas.Bool.Decides.{nat_tests}
use Rattle.base_words.specs.Fields.{Block}
use Rattle.fx_home.specs.declared.home.Home.{Home}
use Rattle.fx_home.specs.declared.home.HomeFault.{HomeFault}
use Rattle.fx_home.specs.Homes.{home_read}
use Rattle.fx_header.specs.declared.slot.Hdr.{Hdr}
use Rattle.fx_quota.specs.declared.types.Row.{Row}
use Rattle.fx_dir.specs.Directory.{directory}
use Rattle.fx_dir.proofs.Order.{bytes_is}
use Rattle.plain_cat.specs.declared.ids.Uic.{Uic}
use Rattle.plain_cat.specs.declared.entries.DirEnt.{DirEnt}
use Rattle.plain_cat.specs.declared.cat.Cat.{Cat}
use Rattle.plain_cat.specs.declared.cat.File.{File}
use Rattle.plain_cat.specs.declared.cat.Slot.{Slot}
use Rattle.plain_cat.specs.declared.cat.Slot.TheVariants.{Used}
use Rattle.plain_cat.specs.declared.cat.QuotaRow.{QuotaRow}
use Rattle.plain_rules.specs.declared.places.Place.{Place}
use Rattle.plain_rules.specs.Lookups.{file_at, in_use, row_of, file_most}
use Rattle.plain_rules.specs.Answers.{has_entries}
use Rattle.plain_rules.specs.Changes.{with_row}
use Rattle.plain_rules.specs.Mending.{entries_in, numbers_from, places, system_names, is_name_of, is_own}
use Rattle.plain_rules.proofs.Standing.{stands_at}
use Rattle.base_words.specs.Lists.{Has}
use Rattle.base_words.proofs.Listing.{has_from, has_map, has_passed, any_has, none_left, none_right}
use Rattle.plain_laws.proofs.Places.{in_to}
use Rattle.plain_laws.proofs.Standing.{file_from}
use Rattle.plain_mends.specs.Resuming.{AreKeyed}
use Rattle.plain_mends.specs.Sound.{HasOwnName, IsSystemFile, LeadsTo, NumberPath, IsSound}
use Rattle.plain_rules.specs.SystemFiles.{is_system_entry}
use Rattle.plain_rules.specs.SystemFiles.{system_seq}
use Rattle.plain_rules.specs.SystemFiles.{is_system_directory}
use Rattle.plain_rules.specs.SystemFiles.{listed}
use Rattle.plain_rules.specs.SystemFiles.{entries_of}
use Rattle.plain_mends.specs.Sound.NumberPath.{One, More}
use Rattle.vol_parts.specs.declared.finding.Finding.{Finding}
use Rattle.vol_parts.specs.declared.finding.Finding.TheVariants as finding
use Rattle.vol_parts.specs.Volumes.{Volume, volume, IsNumber, factor, first_head, fields, told as told_in, runs, body, active_rows}
use Rattle.vol_parts.specs.Catalogues.{file_of, quota_row, slot_of, files_of, rows_sorted, catalogue}
use Rattle.vol_parts.specs.Fatal.{is_one_header, has_one_header, stated_clusters, are_stated, is_system_header, is_system_file, is_too_large, is_cluster_run, has_dir_size, found_in, dir_test, dir_fault, is_rowless, is_marked_dir, NamesFile, Path, IsFatalIn}
use Rattle.vol_parts.specs.Fatal.Path.{One as First, More as Next}
use Rattle.vol_parts.specs.Warnings.{names_none, names_none_found, is_marked, warnings}
use Rattle.vol_parts.specs.Findings.{CatOf, home_at, IsFatalBy, Weak, AreWarningsBy, IsCatalogueBy, IsFirstFatal}
use Rattle.vol_faults.specs.CatFindings.{IsFatalOf}
use Rattle.vol_faults.proofs.CatLemmas.{file-number, marked-number}
use Rattle.vol_faults.proofs.LiftLemmas.{catalogue-numbers}
use Rattle.vol_spell.proofs.Accepted.{limits_of}
use Rattle.vol_spell.proofs.Picking.{get_along, along_get}
use Rattle.vol_mends.specs.Weak.{CanMend}
use Rattle.vol_mends.specs.Accepted.{WeakCanMend, AcceptedIsSound}
use Rattle.vol_mends.proofs.Tests.{TellsFile, tells_file, told_file}
use Rattle.vol_mends.proofs.Singles.{placed, Single, place_made, single_keyed, single_one, single_slot, single_slots}
use Rattle.vol_mends.proofs.Telling.{is_true, is_false}

not_false : (b : Bool) → not b ≡ false → b ≡ true
not_false true e = refl
not_false false e = absurd (let x : true ≡ false = e in cc x)

-- ---- single tests

dir_is : (b d m : Bool) → (not b || d) && ((b || not d) && not m) ≡ true → (b ≡ d) × (m ≡ false)
dir_is true true true e = absurd (let x : false ≡ true = e in cc x)
dir_is true true false e = (refl, refl)
dir_is true false m e = absurd (let x : false ≡ true = e in cc x)
dir_is false true m e = absurd (let x : false ≡ true = e in cc x)
dir_is false false true e = absurd (let x : false ≡ true = e in cc x)
dir_is false false false e = (refl, refl)

system_from : (k n : ℕ) (h : Hdr) (blocks : List Block) → is_system_header n (Some h) ≡ true → IsSystemFile n (file_of k n h blocks)
system_from k n h blocks e =
    let a = and_parts (h.seq == system_seq n) ((not h.dir || is_system_directory n) && ((h.dir || not (is_system_directory n)) && not h.marked)) e in
    let b = dir_is h.dir (is_system_directory n) h.marked a.1 in
    record { seq = eqb-true h.seq (system_seq n) a.0; dir = b.0; unmarked = b.1 }

few : (x : ℕ) → nat_lt file_most x ≡ false → x ≤ file_most
few x e = grind (arith, nat_tests)

row_here : (b : Bool) (r : QuotaRow) (o : Option QuotaRow) → (b ≡ true) ⊎ (is_some o ≡ true) → is_some (cond b (Some r) o) ≡ true
row_here true r o h = refl
row_here false r o (inl h) = absurd (cc h)
row_here false r o (inr h) = h

row_found : (o : Uic) (row : QuotaRow) (rs : List QuotaRow) → ((row.owner.0 == o.0) ≡ true) ⊎ (is_some (row_of o rs) ≡ true) → is_some (row_of o (with_row row rs)) ≡ true
row_found o row [] h = row_here (row.owner.0 == o.0) row (row_of o []) h
row_found o row (r ∷ rs) h = by_order (nat_lt row.owner.0 r.owner.0) (λ k. row_found o row rs k) where
  onward : (b : Bool) → (r.owner.0 == o.0) ≡ b → (((row.owner.0 == o.0) ≡ true) ⊎ (is_some (row_of o rs) ≡ true) → is_some (row_of o (with_row row rs)) ≡ true)
      → ((row.owner.0 == o.0) ≡ true) ⊎ (is_some (cond b (Some r) (row_of o rs)) ≡ true) → is_some (cond b (Some r) (row_of o (with_row row rs))) ≡ true
  onward true e rest k = refl
  onward false e rest k = rest k

  by_order : (b : Bool) → (((row.owner.0 == o.0) ≡ true) ⊎ (is_some (row_of o rs) ≡ true) → is_some (row_of o (with_row row rs)) ≡ true)
      → is_some (row_of o (cond b (row ∷ r ∷ rs) (r ∷ with_row row rs))) ≡ true
  by_order true rest = row_here (row.owner.0 == o.0) row (row_of o (r ∷ rs)) h
  by_order false rest = onward (r.owner.0 == o.0) refl rest h

any_rows : (o : Uic) (rs : List Row) → list_any (λ (r : Row). r.uic == o.0) rs ≡ true → is_some (row_of o (rows_sorted rs)) ≡ true
any_rows o [] h = absurd (let e : false ≡ true = h in cc e)
any_rows o (r ∷ rs) h = row_found o (quota_row r) (rows_sorted rs) (by_case (λ k. any_rows o rs k) (or_cases (r.uic == o.0) (list_any (λ (x : Row). x.uic == o.0) rs) h)) where
  by_case : (list_any (λ (x : Row). x.uic == o.0) rs ≡ true → is_some (row_of o (rows_sorted rs)) ≡ true) → ((r.uic == o.0) ≡ true) ⊎ (list_any (λ (x : Row). x.uic == o.0) rs ≡ true)
      → ((r.uic == o.0) ≡ true) ⊎ (is_some (row_of o (rows_sorted rs)) ≡ true)
  by_case rest (inl e) = inl e
  by_case rest (inr e) = inr (rest e)

-- ---- entries

pub entry_place : (es : List DirEnt) (e : DirEnt) → Has es e → (k : ℕ) × (slice_get es k ≡ Some e)
entry_place [] e h = absurd h
entry_place (x ∷ xs) e (inl h) = (0, ap (λ (y : DirEnt). Some y) h)
entry_place (x ∷ xs) e (inr h) = let r = entry_place xs e h in (suc r.0, r.1)

listed_in : (o : Option File) (e : DirEnt) → Has (listed o) e → (f : File) × (o ≡ Some f) × (f.dir ≡ true) × Has f.entries e
listed_in None e h = absurd h
listed_in (Some f) e h = let r = by_dir f.dir h in (f, refl, r.0, r.1) where
  by_dir : (b : Bool) → Has (cond b f.entries []) e → (b ≡ true) × Has f.entries e
  by_dir true k = (refl, k)
  by_dir false k = absurd k

-- an entry of a directory stands among all entries
entry_in : (c : Cat) (n : ℕ) (e : DirEnt) → Has (entries_of c n) e → Has (places c) (placed n e)
entry_in c n e h = let r = listed_in (file_at c n) e h in in_to c (placed n e) (record { file = r.0; at = r.1; dir = r.2; entry = r.3 })

name_is : (name : List ℕ) (o : Option (List ℕ)) → is_name_of name o ≡ true → o ≡ Some name
name_is name None h = absurd (cc h)
name_is name (Some own) h = ap (λ (x : List ℕ). Some x) (sym (bytes_is name own h))

own_parts : (p : Place) → is_own p ≡ true → (p.entry.ver ≡ 1) × (slice_get system_names (p.entry.fid.num - 1) ≡ Some p.entry.name)
unfolding is_own
own_parts p h =
    let a = and_parts (p.dir == 4) ((p.entry.ver == 1) && is_name_of p.entry.name (slice_get system_names (p.entry.fid.num - 1))) h in
    let b = and_parts (p.entry.ver == 1) (is_name_of p.entry.name (slice_get system_names (p.entry.fid.num - 1))) a.1 in
    (eqb-true p.entry.ver 1 b.0, name_is p.entry.name (slice_get system_names (p.entry.fid.num - 1)) b.1)

system_parts : (n : ℕ) (e : DirEnt) → is_system_entry n e ≡ true → (is_own (placed 4 e) ≡ true) × (e.fid.num ≡ n)
unfolding is_system_entry
system_parts n e h =
    let a = and_parts (is_own (placed 4 e)) ((e.fid.num == n) && (e.fid.seq == system_seq n)) h in
    let b = and_parts (e.fid.num == n) (e.fid.seq == system_seq n) a.1 in
    (a.0, eqb-true e.fid.num n b.0)

-- ---- a volume with no fatal finding

module _ (v : Volume) (weak : (f : Finding) → IsFatalIn v f → ⊥) (enough : 11 ≤ v.home.files) where
  abbrev c : Cat
  c = catalogue v

  slot_is : (n : ℕ) → IsNumber v n → slice_get c.files (n - 1) ≡ Some (slot_of v n)
  unfolding catalogue files_of
  slot_is n is =
      let from = is.from in
      let to = is.to in
      let z : 1 + (n - 1) ≡ n = omega (arith, from) in
      get_along (slot_of v) 1 v.home.files (n - 1) (omega (arith, from, to)) ∙ ap (λ k. Some (slot_of v k)) z

  -- the header of a file
  told_at : (n : ℕ) (f : File) → file_at c n ≡ Some f → IsNumber v n × TellsFile (factor v) n (first_head v n) (body v n) f
  unfolding slot_of
  told_at n f at =
      let num = file-number c n f at in
      let all = catalogue-numbers v in
      let is : IsNumber v n = record { from = num.0; to = (let to = num.1 in omega (arith, to, all)) } in
      let both : Some (slot_of v n) ≡ Some (Used f) = sym (slot_is n is) ∙ stands_at c n f at in
      let one : slot_of v n ≡ Used f = cc both in
      (is, tells_file (factor v) n (first_head v n) (body v n) f one)

  -- the file of a header
  file_there : (n : ℕ) (h : Hdr) → IsNumber v n → fields v n ≡ Some h → file_at c n ≡ Some (file_of (factor v) n h (body v n))
  unfolding slot_of
  file_there n h is e =
      let from = is.from in
      file_from c n (file_of (factor v) n h (body v n)) (omega (arith, from)) (slot_is n is ∙ ap (λ (x : Slot). Some x) (told_file (factor v) n (first_head v n) (body v n) h e))

  systems : (n : ℕ) → 1 ≤ n → n ≤ 11 → (f : File) × (file_at c n ≡ Some f) × IsSystemFile n f
  unfolding is_system_file
  systems n from to = by_head (fields v n) refl (and_parts (is_system_header n (fields v n)) (has_one_header (fields v n) (told_in v n) && are_stated v n (stated_clusters v n) (runs v n)) good).0 where
    good : is_system_file v n ≡ true
    good = is_true (is_system_file v n) (λ e. weak (finding.SystemFile n) (from, to, e))

    by_head : (o : Option Hdr) → fields v n ≡ o → is_system_header n o ≡ true → (f : File) × (file_at c n ≡ Some f) × IsSystemFile n f
    by_head None e h = absurd (cc h)
    by_head (Some h) e s = (file_of (factor v) n h (body v n), file_there n h (record { from = from; to = omega (arith, to, enough) }) e, system_from (factor v) n h (body v n) s)

  sizes : (n : ℕ) (f : File) → 11 < n → file_at c n ≡ Some f → f.clusters ≤ file_most
  sizes n f high at =
      let r = told_at n f at in
      let t = r.1 in
      let small : is_too_large v (fields v n) ≡ false = is_false (is_too_large v (fields v n)) (λ e. weak (finding.Clusters n) (r.0, high, e)) in
      let mine : nat_lt file_most (t.hdr.blocks / factor v) ≡ false = ap (is_too_large v) (sym t.at) ∙ small in
      subst (λ (k : ℕ). k ≤ file_most) (ap (λ (x : File). x.clusters) t.is) (few (t.hdr.blocks / factor v) mine)

  owners : (n : ℕ) (f : File) → file_at c n ≡ Some f → is_some (row_of f.owner c.quota) ≡ true
  unfolding catalogue
  owners n f at =
      let r = told_at n f at in
      let t = r.1 in
      let some : is_rowless (active_rows v) (fields v n) ≡ false = is_false (is_rowless (active_rows v) (fields v n)) (λ e. weak (finding.NoQuotaRow n) (r.0, e)) in
      let mine : not (list_any (λ (x : Row). x.uic == t.hdr.owner) (active_rows v)) ≡ false = ap (is_rowless (active_rows v)) (sym t.at) ∙ some in
      let any = not_false (list_any (λ (x : Row). x.uic == t.hdr.owner) (active_rows v)) mine in
      subst (λ (o : Uic). is_some (row_of o (rows_sorted (active_rows v))) ≡ true) (ap (λ (x : File). x.owner) t.is) (any_rows (record { 0 = t.hdr.owner }) (active_rows v) any)

  entries : (n : ℕ) → 1 ≤ n → n ≤ 11 → list_any (is_system_entry n) (entries_of c 4) ≡ true
  entries n from to = is_true (list_any (is_system_entry n) (entries_of c 4)) (λ e. weak (finding.SystemEntry n) (from, to, e))

  single : Single (places c)
  unfolding catalogue files_of slot_of
  single = single_slots 1 c.files each where
    each : (k : ℕ) (s : Slot) → slice_get c.files k ≡ Some s → Single (map (placed (1 + k)) (entries_in s))
    each k s at =
        let r = along_get (slot_of v) 1 v.home.files k s at in
        subst (λ (x : Slot). Single (map (placed (1 + k)) (entries_in x))) r.1 (single_slot (1 + k) (factor v) (1 + k) (first_head v (1 + k)) (body v (1 + k)))

  keyed : AreKeyed c
  keyed i j p q a b one = single_keyed (places c) single i j p q a b one

  named : (e : DirEnt) (n : ℕ) → 1 ≤ n → n ≤ 11 → Contains (entries_of c 4) e → HasOwnName n e → e.fid.num ≡ n
  named e n from to there own =
      let own_one = any_has (is_system_entry n) (entries_of c 4) (entries n from to) in
      let sys = system_parts n own_one.0 own_one.2 in
      let a = own_parts (placed 4 own_one.0) sys.0 in
      let b = own_parts (placed 4 (record { name = e.name; ver = e.ver; fid = record { num = n; seq = 0 } })) own in
      let both : Some own_one.0.name ≡ Some e.name = sym a.1 ∙ (ap (λ (k : ℕ). slice_get system_names (k - 1)) sys.1 ∙ b.1) in
      let name : own_one.0.name ≡ e.name = cc both in
      let place = place_made (placed 4 own_one.0) (placed 4 e) refl name (a.0 ∙ sym b.0) in
      let one = single_one (places c) single (placed 4 own_one.0) (placed 4 e) (entry_in c 4 own_one.0 own_one.1) (entry_in c 4 e (has_from (entries_of c 4) e there)) place in
      ap (λ (p : Place). p.entry.fid.num) (sym one) ∙ sys.1

  closed : (n : ℕ) (f : File) → file_at c n ≡ Some f → has_entries (Some f) ≡ true → f.marked ≡ false
  closed n f at some =
      is_false f.marked (λ m. weak (finding.MarkedDir n) ((told_at n f at).0, ap is_marked_dir at ∙ and_from f.marked (has_entries (Some f)) m some))

  -- a directory has no mark
  no_mark : (n : ℕ) (f : File) → file_at c n ≡ Some f → f.dir ≡ true → f.mark ≡ 0
  unfolding dir_fault
  no_mark n f at dir =
      let r = told_at n f at in
      let t = r.1 in
      let is : t.hdr.dir ≡ true = ap (λ (x : File). x.dir) t.is ∙ dir in
      sym (ap (λ (x : File). x.mark) t.is) ∙ by_size r.0 t.hdr t.at is (is_one_header t.hdr (told_in v n) && has_dir_size (factor v) t.hdr (runs v n)) refl
    where
      by_size : IsNumber v n → (h : Hdr) → fields v n ≡ Some h → h.dir ≡ true → (b : Bool) → (is_one_header h (told_in v n) && has_dir_size (factor v) h (runs v n)) ≡ b → h.mark ≡ 0
      by_size number h at is true e =
          eqb-true h.mark 0 (and_parts (h.mark == 0) ((h.end == factor v + 1) && (h.byte == 0)) (and_parts (is_cluster_run (factor v) (runs v n)) ((h.mark == 0) && ((h.end == factor v + 1) && (h.byte == 0)))
          (and_parts (is_one_header h (told_in v n)) (has_dir_size (factor v) h (runs v n)) e).1).1).0
      by_size number h at is false e =
          absurd (weak (finding.DirSize n) (
            number,
            ap (dir_test v n) at
                ∙ (ap (λ b. cond (not b) None (cond (is_one_header h (told_in v n) && has_dir_size (factor v) h (runs v n)) (found_in n (directory (body v n))) (Some (finding.DirSize n)))) is
                ∙ ap (λ b. cond b (found_in n (directory (body v n))) (Some (finding.DirSize n))) e),
          ))

  can_mend : CanMend c
  can_mend = record { systems = systems; owners = owners; sound = sound } where
    sound : (f : Finding) → IsFatalOf c f → ⊥
    sound (finding.SystemEntry n) e = weak (finding.SystemEntry n) e
    sound (finding.MarkedDir n) e =
        let r = marked-number c n e in
        let all = catalogue-numbers v in
        weak (finding.MarkedDir n) (record { from = r.0; to = (let to = r.1 in omega (arith, to, all)) }, e)
    sound (finding.DirLoop n) e = weak (finding.DirLoop n) e
    sound (finding.NoRoom n) e = weak (finding.NoRoom n) e
    sound f e = e

  -- ---- each entry names a file

  module _ (named_all : (p : Place) → Has (places c) p → is_some (in_use c p.entry.fid) ≡ true) where
    names : (n m : ℕ) → LeadsTo c n m → NamesFile c n m
    names n m l =
        let there = has_from (entries_of c n) l.entry l.there in
        let k = entry_place (entries_of c n) l.entry there in
        record { place = k.0; entry = l.entry; there = k.1; used = named_all (placed n l.entry) (entry_in c n l.entry there); names = l.names; other = l.other }

    path : (n m : ℕ) → NumberPath c n m → Path c n m
    path n m (One l) = First (names n m l)
    path n m (More {k} p l) = Next (path n k p) (names k m l)

    count : length c.opens ≡ 64
    unfolding catalogue
    count = refl

    is_sound : IsSound c
    is_sound = record { systems = systems; sizes = sizes; owners = owners; entries = entries; named = named; closed = closed; ordered = λ n p. weak (finding.DirLoop n) (path n n p); channels = count }

-- ---- warnings

no_names_none : (v : Volume) → [] ≡ warnings v → (p : Place) → Has (places (catalogue v)) p → is_some (in_use (catalogue v) p.entry.fid) ≡ true
unfolding warnings names_none
no_names_none v e p h =
    by_case (none_left (map names_none_found (filter (names_none (catalogue v)) (places (catalogue v)))) _ (none_right (map finding.Marked (numbers_from is_marked 1 (catalogue v).files)) _ e))
    (in_use (catalogue v) p.entry.fid) refl
  where
    by_case : [] ≡ map names_none_found (filter (names_none (catalogue v)) (places (catalogue v))) → (o : Option File) → in_use (catalogue v) p.entry.fid ≡ o → is_some o ≡ true
    by_case none (Some f) at = refl
    by_case none None at =
        let passes : names_none (catalogue v) p ≡ true = ap (λ (o : Option File). is_none o) at in
        let stands = has_map names_none_found (filter (names_none (catalogue v)) (places (catalogue v))) p (has_passed (names_none (catalogue v)) (places (catalogue v)) p h passes) in
        absurd (subst (λ (fs : List Finding). Has fs (names_none_found p)) (sym none) stands)

-- ---- by the home block

many_files : (bs : List Block) (home : Home) → home_read (home_at bs) ≡ Ok home → 11 ≤ home.files
many_files bs home e = let low = (limits_of (home_at bs) home e).files_low in omega (arith, low)

can_by : (bs : List Block) (c : Cat) (r : Result Home HomeFault) → home_read (home_at bs) ≡ r → ((f : Finding) → IsFatalBy bs r f → ⊥) → IsCatalogueBy bs r c → CanMend c × AreKeyed c
can_by bs c (Err fault) e weak told = absurd told
can_by bs c (Ok home) e weak told =
    subst (λ (x : Cat). CanMend x × AreKeyed x) (sym told) (can_mend (volume home bs) weak (many_files bs home e), keyed (volume home bs) weak (many_files bs home e))

-- a directory that the blocks tell has no mark
mark_by : (bs : List Block) (c : Cat) (r : Result Home HomeFault) → home_read (home_at bs) ≡ r → ((f : Finding) → IsFatalBy bs r f → ⊥) → IsCatalogueBy bs r c
    → (n : ℕ) (f : File) → file_at c n ≡ Some f → f.dir ≡ true → f.mark ≡ 0
mark_by bs c (Err fault) e weak told = absurd told
mark_by bs c (Ok home) e weak told =
    subst (λ (x : Cat). (n : ℕ) (f : File) → file_at x n ≡ Some f → f.dir ≡ true → f.mark ≡ 0) (sym told) (no_mark (volume home bs) weak (many_files bs home e))

pub told_mark : (bs : List Block) (c : Cat) → CatOf bs c → (n : ℕ) (f : File) → file_at c n ≡ Some f → f.dir ≡ true → f.mark ≡ 0
told_mark bs c h = mark_by bs c (home_read (home_at bs)) refl h.weak h.told

-- the catalogue that blocks tell has nothing open
shut_by : (bs : List Block) (c : Cat) (r : Result Home HomeFault) → IsCatalogueBy bs r c → c.opens ≡ replicate 64 None
unfolding catalogue
shut_by bs c (Err fault) told = absurd told
shut_by bs c (Ok home) told = ap (λ (x : Cat). x.opens) told

pub told_shut : (bs : List Block) (c : Cat) → CatOf bs c → c.opens ≡ replicate 64 None
told_shut bs c h = shut_by bs c (home_read (home_at bs)) h.told

pub weak_can_mend : WeakCanMend
weak_can_mend bs c h = can_by bs c (home_read (home_at bs)) refl h.weak h.told

sound_by : (bs : List Block) (c : Cat) (r : Result Home HomeFault) → home_read (home_at bs) ≡ r → ((f : Finding) → IsFatalBy bs r f → ⊥) → AreWarningsBy bs r [] → IsCatalogueBy bs r c → IsSound c
sound_by bs c (Err fault) e weak none told = absurd told
sound_by bs c (Ok home) e weak none told = subst (λ (x : Cat). IsSound x) (sym told) (is_sound (volume home bs) weak (many_files bs home e) (no_names_none (volume home bs) none))

pub accepted_is_sound : AcceptedIsSound
accepted_is_sound bs c accepted h = by_case accepted where
  by_case : ((f : Finding) × IsFirstFatal bs f × ([] ≡ f ∷ [])) ⊎ (Weak bs × AreWarningsBy bs (home_read (home_at bs)) []) → IsSound c
  by_case (inl k) = absurd (cc (k.2))
  by_case (inr k) = sound_by bs c (home_read (home_at bs)) refl k.0 k.1 h.told
