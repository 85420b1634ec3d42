-- The catalogue of a volume that is accepted keeps the limits and the quotas.
use Rattle.std.proofs.Common.{◌≡◌, ◌≤◌, ◌<◌, ◌+◌, ◌++◌, ◌||◌, ℕ, zero, suc, Bool, true, false, cond, List, [], ◌∷◌, Option, Some, None, is_some, Result, Ok, Err, length, map, get_or, slice_get, nat_lt, refl, sym, ap, subst, ◌∙◌, inl, inr, arith}
use Rattle.std.specs.Prelude.{◌==◌, All, not, filter}
use Rattle.std.specs.List.{list_any, count_by, range_with_len}
use Rattle.std.proofs.lemmas.Bool.{cases_Bool}
use Rattle.std.proofs.lemmas.Bool.Decides.{nat_tests}
use Rattle.std.proofs.lemmas.List.Elements.{All-cons}
use Rattle.std.proofs.lemmas.Option.{slice_get-get_or}
use Rattle.base_words.specs.Fields.{Block, AreWholeBlocks}
use Rattle.fx_home.specs.declared.home.Home.{Home}
use Rattle.fx_home.specs.declared.home.HomeFault.{HomeFault}
use Rattle.fx_home.specs.Homes.{home_read}
use Rattle.fx_header.specs.declared.slot.Hdr.{Hdr}
use Rattle.fx_header.specs.declared.slot.Slot.{Slot as Head}
use Rattle.fx_header.specs.declared.slot.Slot.TheVariants as head
use Rattle.fx_header.specs.declared.slot.HeaderFault.{HeaderFault}
use Rattle.fx_quota.specs.declared.types.Row.{Row}
use Rattle.plain_cat.specs.declared.ids.Uic.{Uic}
use Rattle.plain_cat.specs.declared.cat.Cat.{Cat}
use Rattle.plain_cat.specs.declared.cat.QuotaRow.{QuotaRow}
use Rattle.plain_cat.specs.declared.cat.Slot.{Slot}
use Rattle.plain_rules.specs.Lookups.{row_of}
use Rattle.plain_rules.specs.Mending.{places, numbers_from, is_true}
use Rattle.plain_rules.specs.Changes.{with_row}
use Rattle.plain_rules.specs.Accounts.{charge, HasRow, IsCharged, Accounted}
use Rattle.vol_parts.specs.declared.finding.Finding.{Finding}
use Rattle.vol_parts.specs.declared.finding.Finding.TheVariants as finding
use Rattle.vol_parts.specs.Volumes.{Volume, volume, IsNumber, factor, body, numbers, fields, fields_in, active_rows}
use Rattle.vol_parts.specs.Volumes.{first_head}
use Rattle.vol_parts.specs.Catalogues.{quota_row, rows_sorted, slot_of, slot_with, files_of, catalogue}
use Rattle.vol_parts.specs.Fatal.{is_rowless}
use Rattle.vol_parts.specs.Warnings.{is_marked, names_none, is_second, names_none_found, second_found, has_doubles, has_surplus, is_stray, is_lost_file, if_any, is_miscounted, usage_found, warnings}
use Rattle.vol_parts.specs.Findings.{home_at, AreWarningsBy, Accepts, CatOf}
use Rattle.vol_spell.proofs.Accepted.{catalogue_is_spelt}
use Rattle.vol_analyze.proofs.Weakly.{cat-told, IsWeak, weak-volume, file-sizes}

-- ---- quota rows

pub same_number : (a : ℕ) → (a == a) ≡ true
same_number a = grind (arith, nat_tests)

some_either : (b : Bool) (r : QuotaRow) (o : Option QuotaRow) → is_some o ≡ true → is_some (cond b (Some r) o) ≡ true
some_either true r o e = refl
some_either false r o e = e

some_later : (b : Bool) (r : QuotaRow) (o p : Option QuotaRow) → (is_some o ≡ true → is_some p ≡ true) → is_some (cond b (Some r) o) ≡ true → is_some (cond b (Some r) p) ≡ true
some_later true r o p more e = refl
some_later false r o p more e = more e

first_some : (row : QuotaRow) (rows : List QuotaRow) → is_some (row_of row.owner (row ∷ rows)) ≡ true
first_some row rows = ap (λ b. is_some (cond b (Some row) (row_of row.owner rows))) (same_number row.owner.0)

-- a row that is put in is found
row_there : (row : QuotaRow) (rows : List QuotaRow) → is_some (row_of row.owner (with_row row rows)) ≡ true
row_there row [] = first_some row []
row_there row (r ∷ rs) = by_place (nat_lt row.owner.0 r.owner.0) (row_there row rs) where
  by_place : (b : Bool) → is_some (row_of row.owner (with_row row rs)) ≡ true → is_some (row_of row.owner (cond b (row ∷ r ∷ rs) (r ∷ with_row row rs))) ≡ true
  by_place true e = first_some row (r ∷ rs)
  by_place false e = some_either (r.owner.0 == row.owner.0) r (row_of row.owner (with_row row rs)) e

-- and so is each that was there
row_stays : (row : QuotaRow) (owner : Uic) (rows : List QuotaRow) → is_some (row_of owner rows) ≡ true → is_some (row_of owner (with_row row rows)) ≡ true
row_stays row owner [] e = absurd (let f : false ≡ true = e in cc)
row_stays row owner (r ∷ rs) e = by_place (nat_lt row.owner.0 r.owner.0) (row_stays row owner rs) where
  by_place : (b : Bool) → (is_some (row_of owner rs) ≡ true → is_some (row_of owner (with_row row rs)) ≡ true) → is_some (row_of owner (cond b (row ∷ r ∷ rs) (r ∷ with_row row rs))) ≡ true
  by_place true more = some_either (row.owner.0 == owner.0) row (row_of owner (r ∷ rs)) e
  by_place false more = some_later (r.owner.0 == owner.0) r (row_of owner rs) (row_of owner (with_row row rs)) more e

sorted_has : (rs : List Row) (owner : ℕ) → list_any (λ (r : Row). r.uic == owner) rs ≡ true → is_some (row_of (record { 0 = owner }) (rows_sorted rs)) ≡ true
sorted_has [] owner e = absurd (let f : false ≡ true = e in cc)
sorted_has (r ∷ rs) owner e = by_test (r.uic == owner) refl e (sorted_has rs owner) where
  same : (a b : ℕ) → (a == b) ≡ true → a ≡ b
  same a b e = grind (arith, nat_tests)

  by_test : (b : Bool) → (r.uic == owner) ≡ b → (b || list_any (λ (r : Row). r.uic == owner) rs) ≡ true
      → (list_any (λ (r : Row). r.uic == owner) rs ≡ true → is_some (row_of (record { 0 = owner }) (rows_sorted rs)) ≡ true) → is_some (row_of (record { 0 = owner }) (with_row (quota_row r) (rows_sorted rs))) ≡ true
  by_test true f e rest = subst (λ (k : ℕ). is_some (row_of (record { 0 = k }) (with_row (quota_row r) (rows_sorted rs))) ≡ true) (same r.uic owner f) (row_there (quota_row r) (rows_sorted rs))
  by_test false f e rest = row_stays (quota_row r) (record { 0 = owner }) (rows_sorted rs) (rest e)

-- ---- usages

behind_none : (xs ys : List Finding) → xs ++ ys ≡ [] → ys ≡ []
behind_none [] ys e = e
behind_none (x ∷ xs) ys e = absurd (let f : x ∷ (xs ++ ys) ≡ [] = e in cc)

none_mapped : (f : QuotaRow → Finding) (xs : List QuotaRow) → map f xs ≡ [] → xs ≡ []
none_mapped f [] e = refl
none_mapped f (x ∷ xs) e = absurd (let g : f x ∷ map f xs ≡ [] = e in cc)

all_counted : (c : Cat) (rows : List QuotaRow) → filter (is_miscounted c) rows ≡ [] → All (IsCharged c) rows
all_counted c [] e = λ i d lt. absurd (omega arith)
all_counted c (r ∷ rs) e = by_test (is_miscounted c r) refl e (all_counted c rs) where
  is_charge : (a b : ℕ) → not (a == b) ≡ false → (b ≤ a) × (a ≤ b + 1000000)
  is_charge a b e = let f : a ≡ b = grind (arith, nat_tests) in (omega arith, omega arith)

  by_test : (b : Bool) → is_miscounted c r ≡ b → cond b (r ∷ filter (is_miscounted c) rs) (filter (is_miscounted c) rs) ≡ [] → (filter (is_miscounted c) rs ≡ [] → All (IsCharged c) rs) → All (IsCharged c) (r ∷ rs)
  by_test true f e rest = absurd (let g : r ∷ filter (is_miscounted c) rs ≡ [] = e in cc)
  by_test false f e rest = All-cons (IsCharged c) r rs (is_charge r.usage (charge c r.owner) f) (rest e)

pub none_miscounted : (v : Volume) → [] ≡ warnings v → filter (is_miscounted (catalogue v)) (catalogue v).quota ≡ []
unfolding warnings
none_miscounted v e =
    let c = catalogue v in
    let counts = map (usage_found c) (filter (is_miscounted c) c.quota) in
    let numbers_leaked = if_any finding.LeakedNumbers (count_by is_true c.leaked_numbers) in
    let clusters_leaked = if_any finding.LeakedClusters c.leaked in
    let files_lost = map finding.Lost (numbers_from (is_lost_file c) 1 c.files) in
    let strays = map finding.Stray (filter (is_stray v) (numbers v)) in
    let surplus = map finding.Surplus (filter (has_surplus v) (numbers v)) in
    let doubles = map finding.Doubles (filter (has_doubles v) (numbers v)) in
    let seconds = map second_found (filter (is_second c) (places c)) in
    let nameless = map names_none_found (filter (names_none c) (places c)) in
    let marked = map finding.Marked (numbers_from is_marked 1 c.files) in
    none_mapped (usage_found c) (filter (is_miscounted c) c.quota)
    (behind_none numbers_leaked counts
    (behind_none clusters_leaked (numbers_leaked ++ counts)
    (behind_none strays (clusters_leaked ++ (numbers_leaked ++ counts))
    (behind_none surplus (strays ++ (clusters_leaked ++ (numbers_leaked ++ counts)))
    (behind_none files_lost (surplus ++ (strays ++ (clusters_leaked ++ (numbers_leaked ++ counts))))
    (behind_none doubles (files_lost ++ (surplus ++ (strays ++ (clusters_leaked ++ (numbers_leaked ++ counts)))))
    (behind_none seconds (doubles ++ (files_lost ++ (surplus ++ (strays ++ (clusters_leaked ++ (numbers_leaked ++ counts))))))
    (behind_none nameless (seconds ++ (doubles ++ (files_lost ++ (surplus ++ (strays ++ (clusters_leaked ++ (numbers_leaked ++ counts)))))))
    (behind_none marked (nameless ++ (seconds ++ (doubles ++ (files_lost ++ (surplus ++ (strays ++ (clusters_leaked ++ (numbers_leaked ++ counts))))))))
    (sym e))))))))))

pub no_warnings : (bs : List Block) (home : Home) → Accepts bs → home_read (home_at bs) ≡ Ok home → [] ≡ warnings (volume home bs)
no_warnings bs home (inl f) e = absurd (let g : [] ≡ f.0 ∷ [] = f.2 in cc)
no_warnings bs home (inr w) e = subst (λ (r : Result Home HomeFault). AreWarningsBy bs r []) e w.1

-- ---- files

pub mapped_range : (f : ℕ → Slot) (a k i : ℕ) (s : Slot) → slice_get (map f (range_with_len a k)) i ≡ Some s → (s ≡ f (a + i)) × (i < k)
mapped_range f a zero i s e = absurd (let g : None ≡ Some s = e in cc)
mapped_range f a (suc k) zero s e =
    let g : Some (f a) ≡ Some s = e in
    let h : s ≡ f a = cc in
    (h ∙ ap f (let z : a ≡ a + 0 = omega arith in z), omega arith)
mapped_range f a (suc k) (suc i) s e =
    let r = mapped_range f (a + 1) k i s e in
    let lt = r.1 in
    (r.0 ∙ ap f (let z : a + 1 + i ≡ a + suc i = omega arith in z), omega arith)

module _ (v : Volume) (weak : IsWeak v) where
  c : Cat
  c = catalogue v

  abbrev rows : List QuotaRow
  rows = rows_sorted (active_rows v)

  has_row : (n : ℕ) → IsNumber v n → HasRow rows (slot_of v n)
  unfolding slot_of
  has_row n number = by_head (first_head v n) refl where
    owned : (f : Hdr) → fields v n ≡ Some f → list_any (λ (r : Row). r.uic == f.owner) (active_rows v) ≡ true
    owned f e = elim (cases_Bool (list_any (λ (r : Row). r.uic == f.owner) (active_rows v))) [
      | inl is ↦ is
      | inr none ↦ absurd (weak.none (finding.NoQuotaRow n) (number, ap (is_rowless (active_rows v)) e ∙ ap not none))
    ]

    by_head : (r : Result Head HeaderFault) → first_head v n ≡ r → HasRow rows (slot_with (factor v) n r (body v n))
    by_head (Ok (head.Used f)) e = sorted_has (active_rows v) f.owner (owned f (ap fields_in e))
    by_head (Ok (head.Free seq)) e = tt
    by_head (Err fault) e = tt

  all_rows : (i : ℕ) (s : Slot) → slice_get (files_of v) i ≡ Some s → HasRow rows s
  unfolding files_of
  all_rows i s e =
      let r = mapped_range (slot_of v) 1 v.home.files i s e in
      let lt = r.1 in
      subst (HasRow rows) (sym r.0) (has_row (1 + i) (record { from = omega arith; to = omega arith }))

  quota_is : (catalogue v).quota ≡ rows
  unfolding catalogue
  quota_is = refl

  pub files_are : (catalogue v).files ≡ files_of v
  unfolding catalogue
  files_are = refl

-- ---- the whole

pub accepted_accounts : (bs : List Block) (c : Cat) → 64 ≤ length bs → length bs ≤ 65536 → AreWholeBlocks bs → Accepts bs → CatOf bs c → Accounted c
accepted_accounts bs c from to whole accepts told =
    let s = catalogue_is_spelt bs c from to whole told in
    let v = volume s.home bs in
    let is : c ≡ catalogue v = cat-told bs c s.home told s.read in
    let weak = weak-volume bs c s.home told s.read in
    let g = s.spelt.counts.geometry in
    let factor = s.spelt.constants.factor in
    let few = g.files_to in
    let count = s.spelt.counts.slots in
    let low = g.cluster_from in
    let high = g.cluster_to in
    record {
      factor_from = omega arith;
      factor_to = omega arith;
      numbers = omega arith;
      sizes = (file-sizes bs c (record { from = from; to = to }) whole told).sizes;
      owners = subst (λ (d : Cat). All (HasRow d.quota) d.files) (sym is) (owners v weak);
      usage = subst (λ (d : Cat). All (IsCharged d) d.quota) (sym is) (all_counted (catalogue v) (catalogue v).quota (none_miscounted v (no_warnings bs s.home accepts s.read)));
    } where
      owners : (v : Volume) → IsWeak v → All (HasRow (catalogue v).quota) (catalogue v).files
      owners v weak = λ i d lt. subst (λ (rows : List QuotaRow). HasRow rows (get_or (catalogue v).files i d)) (sym (quota_is v weak)) (all_rows v weak i (get_or (catalogue v).files i d)
          (ap (λ (fs : List Slot). slice_get fs i) (sym (files_are v weak)) ∙ slice_get-get_or (catalogue v).files i d lt))
