-- Single tests of headers, runs and rows.
use Rattle.std.proofs.Common.{◌≡◌, ◌≤◌, ◌+◌, ◌*◌, ◌/◌, ◌%◌, ◌∙◌, ℕ, zero, suc, Bool, true, false, cond, not, List, [], ◌∷◌, Some, length, map, slice_get, nat_le, nat_lt, refl, sym, ap, subst, arith, ◌⊎◌, inl, inr}
use Rattle.std.specs.Prelude.{◌==◌, ◌&&◌, ◌||◌, is_some, Result, Ok, Err, count_by}
use Rattle.std.specs.List.{range_with_len, list_any}
use Rattle.std.proofs.lemmas.Bool.{and_from, eq-eqb, eqb-true, le-leb}
use Rattle.std.proofs.lemmas.List.Sums.{sum_by-cons}
use Rattle.base_words.specs.Fields.{Block}
use Rattle.fx_header.specs.declared.run.Run.{Run}
use Rattle.fx_header.specs.declared.slot.Hdr.{Hdr}
use Rattle.fx_header.specs.declared.slot.Slot.{Slot as Head}
use Rattle.fx_header.specs.declared.slot.Slot.TheVariants as head
use Rattle.fx_header.specs.declared.slot.HeaderFault.{HeaderFault}
use Rattle.fx_quota.specs.declared.types.Row.{Row}
use Rattle.plain_cat.specs.declared.ids.Uic.{Uic}
use Rattle.plain_cat.specs.declared.cat.File.{File}
use Rattle.plain_cat.specs.declared.cat.Slot.TheVariants.{Used}
use Rattle.plain_cat.specs.declared.cat.QuotaRow.{QuotaRow}
use Rattle.plain_rules.specs.Lookups.{row_of}
use Rattle.plain_rules.specs.Changes.{with_row}
use Rattle.plain_mends.specs.Sound.{IsSystemFile}
use Rattle.base_words.specs.Lists.{Has, Once}
use Rattle.base_words.proofs.Listing.{once_second, once_apart}
use Rattle.vol_parts.specs.declared.geometry.Geometry.{Geometry}
use Rattle.vol_parts.specs.Volumes.{Volume, factor, total, fields_in, is_in_run}
use Rattle.vol_parts.specs.Catalogues.{slot_with, file_of, quota_row, rows_sorted}
use Rattle.vol_parts.specs.Fatal.{is_system_header, are_stated, is_off_bounds, is_cluster_run}
use Rattle.plain_rules.specs.SystemFiles.{is_system_directory}
use Rattle.vol_spell.specs.Reading.{clusters_of}
use Rattle.vol_spell.specs.Spelling.{IsHead, IsWhole, AreWhole}
use Rattle.vol_spell.proofs.Clusters.{run_has, of_run}
use Rattle.plain_mends.proofs.Skipping.{or_right}

-- ---- headers

pub head_fault : (n : ℕ) (r : Result Head HeaderFault) (fault : HeaderFault) → IsHead n r → r ≡ Err fault → ⊥
head_fault n r fault is e = subst (IsHead n) e is

pub head_number : (n : ℕ) (r : Result Head HeaderFault) (f : Hdr) → IsHead n r → fields_in r ≡ Some f → f.num ≡ n
head_number n (Ok (head.Used h)) f is e = let same : h ≡ f = cc e in ap (λ (x : Hdr). x.num) (sym same) ∙ is
head_number n (Ok (head.Free seq)) f is e = absurd (cc e)
head_number n (Err fault) f is e = absurd is

-- a header that tells a file
pub record TellsFile (k n : ℕ) (r : Result Head HeaderFault) (blocks : List Block) (f : File) : Type 0 where
  pub hdr : Hdr
  pub at : fields_in r ≡ Some hdr
  pub is : file_of k n hdr blocks ≡ f

pub tells_file : (k n : ℕ) (r : Result Head HeaderFault) (blocks : List Block) (f : File) → slot_with k n r blocks ≡ Used f → TellsFile k n r blocks f
tells_file k n (Ok (head.Used h)) blocks f e = record { hdr = h; at = refl; is = cc e }
tells_file k n (Ok (head.Free seq)) blocks f e = absurd (cc e)
tells_file k n (Err fault) blocks f e = absurd (cc e)

-- a header that is there tells a file
pub told_file : (k n : ℕ) (r : Result Head HeaderFault) (blocks : List Block) (h : Hdr) → fields_in r ≡ Some h → slot_with k n r blocks ≡ Used (file_of k n h blocks)
told_file k n (Ok (head.Used x)) blocks h e = let same : x ≡ h = cc e in ap (λ (y : Hdr). Used (file_of k n y blocks)) same
told_file k n (Ok (head.Free seq)) blocks h e = absurd (cc e)
told_file k n (Err fault) blocks h e = absurd (cc e)

dir_tests : (b d m : Bool) → b ≡ d → m ≡ false → (not b || d) && ((b || not d) && not m) ≡ true
dir_tests true d m e f = sym (ap (λ x. x && ((true || not x) && not m)) e) ∙ ap not f
dir_tests false d m e f = sym (ap (λ x. (true || x) && ((false || not x) && not m)) e) ∙ ap not f

pub system_header : (k n : ℕ) (h : Hdr) (blocks : List Block) (f : File) → file_of k n h blocks ≡ f → IsSystemFile n f → is_system_header n (Some h) ≡ true
system_header k n h blocks f is sys =
    let seq = ap (λ (x : File). x.seq) is ∙ sys.seq in
    let dir = ap (λ (x : File). x.dir) is ∙ sys.dir in
    let mark = ap (λ (x : File). x.marked) is ∙ sys.unmarked in
    and_from (h.seq == cond (nat_le n 9) n 1) ((not h.dir || is_system_directory n) && ((h.dir || not (is_system_directory n)) && not h.marked)) (eq-eqb h.seq (cond (nat_le n 9) n 1) seq)
    (dir_tests h.dir (is_system_directory n) h.marked dir mark)

-- ---- runs

pub stated_one : (v : Volume) (n k : ℕ) (r : Run) (rs : List Run) → rs ≡ r ∷ [] → r.count ≡ factor v * k → r.lbn + r.count ≤ factor v * total v → ((n == 1) ≡ true → r.lbn ≡ 0) → are_stated v n (Some k) rs ≡ true
stated_one v n k r rs one count inside begins =
    ap (are_stated v n (Some k)) one
    ∙ and_from (r.count == factor v * k) (nat_le (r.lbn + r.count) (factor v * total v) && (not (n == 1) || (r.lbn == 0))) (eq-eqb r.count (factor v * k) count)
    (and_from (nat_le (r.lbn + r.count) (factor v * total v)) (not (n == 1) || (r.lbn == 0)) (le-leb (r.lbn + r.count) (factor v * total v) inside) (first (n == 1) refl))
  where
    first : (b : Bool) → (n == 1) ≡ b → not b || (r.lbn == 0) ≡ true
    first true e = eq-eqb r.lbn 0 (begins e)
    first false e = refl

pub whole_within : (v : Volume) (r : Run) → r.lbn % factor v ≡ 0 → r.count % factor v ≡ 0 → r.lbn + r.count ≤ factor v * total v → is_off_bounds v r ≡ false
unfolding is_off_bounds
whole_within v r a b c =
    ap not (and_from (r.lbn % factor v == 0) ((r.count % factor v == 0) && nat_le (r.lbn + r.count) (factor v * total v)) (eq-eqb (r.lbn % factor v) 0 a)
    (and_from (r.count % factor v == 0) (nat_le (r.lbn + r.count) (factor v * total v)) (eq-eqb (r.count % factor v) 0 b) (le-leb (r.lbn + r.count) (factor v * total v) c)))

pub whole_at : (g : Geometry) (rs : List Run) (k : ℕ) (r : Run) → AreWhole g rs → slice_get rs k ≡ Some r → IsWhole g r
whole_at g [] k r w e = absurd (cc e)
whole_at g (x ∷ rs) zero r w e = subst (λ (y : Run). IsWhole g y) (let f : x ≡ r = cc e in f) w.0
whole_at g (x ∷ rs) (suc k) r w e = whole_at g rs k r w.1 e

-- a cluster that is listed once is in one run
pub one_place : (g : Geometry) (rs : List Run) (q i j : ℕ) (r t : Run) → 1 ≤ g.cluster → AreWhole g rs → Once (clusters_of g.cluster rs) → slice_get rs i ≡ Some r → slice_get rs j ≡ Some t
    → is_in_run g.cluster q r ≡ true → is_in_run g.cluster q t ≡ true → i ≡ j
one_place g [] q i j r t low w once a b x y = absurd (cc a)
one_place g (z ∷ rs) q zero zero r t low w once a b x y = refl
one_place g (z ∷ rs) q zero (suc j) r t low w once a b x y =
    let same : z ≡ r = cc a in
    let first : Has (range_with_len (z.lbn / g.cluster) (z.count / g.cluster)) q = (run_has g z q low w.0).1 (ap (is_in_run g.cluster q) same ∙ x) in
    absurd (once_apart (range_with_len (z.lbn / g.cluster) (z.count / g.cluster)) (clusters_of g.cluster rs) once q first (of_run g rs q j t low w.1 b y))
one_place g (z ∷ rs) q (suc i) zero r t low w once a b x y =
    let same : z ≡ t = cc b in
    let first : Has (range_with_len (z.lbn / g.cluster) (z.count / g.cluster)) q = (run_has g z q low w.0).1 (ap (is_in_run g.cluster q) same ∙ y) in
    absurd (once_apart (range_with_len (z.lbn / g.cluster) (z.count / g.cluster)) (clusters_of g.cluster rs) once q first (of_run g rs q i r low w.1 a x))
one_place g (z ∷ rs) q (suc i) (suc j) r t low w once a b x y =
    ap suc (one_place g rs q i j r t low w.1 (once_second (range_with_len (z.lbn / g.cluster) (z.count / g.cluster)) (clusters_of g.cluster rs) once) a b x y)

-- the run of a directory
pub record OneRun (factor : ℕ) (rs : List Run) : Type 0 where
  pub run : Run
  pub one : rs ≡ run ∷ []
  pub count : run.count ≡ factor

pub cluster_run : (factor : ℕ) (rs : List Run) → is_cluster_run factor rs ≡ true → OneRun factor rs
cluster_run factor [] e = absurd (cc e)
cluster_run factor (r ∷ []) e = record { run = r; one = refl; count = eqb-true r.count factor e }
cluster_run factor (r ∷ q ∷ rs) e = absurd (cc e)

-- ---- rows

none_counted : (u : ℕ) (rs : List Row) → (Has (map (λ (r : Row). r.uic) rs) u → ⊥) → count_by (λ (r : Row). r.uic == u) rs ≡ 0
none_counted u [] none = refl
none_counted u (r ∷ rs) none =
    sum_by-cons (λ (x : Row). cond (x.uic == u) 1 0) r rs
    ∙ (ap (λ k. cond (r.uic == u) 1 0 + k) (none_counted u rs (λ h. none (inr h))) ∙ not_first (r.uic == u) refl)
  where
    not_first : (b : Bool) → (r.uic == u) ≡ b → cond b 1 0 + 0 ≡ 0
    not_first true e = absurd (none (inl (eqb-true r.uic u e)))
    not_first false e = refl

pub once_counted : (u : ℕ) (rs : List Row) → Once (map (λ (r : Row). r.uic) rs) → count_by (λ (r : Row). r.uic == u) rs ≤ 1
once_counted u [] once = omega arith
once_counted u (r ∷ rs) once = by_first (r.uic == u) refl (sum_by-cons (λ (x : Row). cond (x.uic == u) 1 0) r rs) (once_counted u rs once.1) where
  by_first : (b : Bool) → (r.uic == u) ≡ b → count_by (λ (x : Row). x.uic == u) (r ∷ rs) ≡ cond (r.uic == u) 1 0 + count_by (λ (x : Row). x.uic == u) rs
      → count_by (λ (x : Row). x.uic == u) rs ≤ 1 → count_by (λ (x : Row). x.uic == u) (r ∷ rs) ≤ 1
  by_first true e sum few =
      let none : count_by (λ (x : Row). x.uic == u) rs ≡ 0 = none_counted u rs (subst (λ (k : ℕ). Has (map (λ (x : Row). x.uic) rs) k → ⊥) (eqb-true r.uic u e) once.0) in
      let all : count_by (λ (x : Row). x.uic == u) (r ∷ rs) ≡ 1 + count_by (λ (x : Row). x.uic == u) rs = sum ∙ ap (λ b. cond b 1 0 + count_by (λ (x : Row). x.uic == u) rs) e in
      omega (arith, all, none)
  by_first false e sum few =
      let all : count_by (λ (x : Row). x.uic == u) (r ∷ rs) ≡ 0 + count_by (λ (x : Row). x.uic == u) rs = sum ∙ ap (λ b. cond b 1 0 + count_by (λ (x : Row). x.uic == u) rs) e in
      omega (arith, all, few)

row_in : (o : Uic) (row : QuotaRow) (rs : List QuotaRow) → is_some (row_of o (with_row row rs)) ≡ true → ((row.owner.0 == o.0) ≡ true) ⊎ (is_some (row_of o rs) ≡ true)
row_in o row [] h = new (row.owner.0 == o.0) refl h where
  new : (b : Bool) → (row.owner.0 == o.0) ≡ b → is_some (cond b (Some row) (row_of o [])) ≡ true → ((row.owner.0 == o.0) ≡ true) ⊎ (is_some (row_of o []) ≡ true)
  new true e k = inl e
  new false e k = inr k
row_in o row (r ∷ rs) h = by_order (nat_lt row.owner.0 r.owner.0) h (λ k. row_in o row rs k) where
  new : (b : Bool) → (row.owner.0 == o.0) ≡ b → is_some (cond b (Some row) (row_of o (r ∷ rs))) ≡ true → ((row.owner.0 == o.0) ≡ true) ⊎ (is_some (row_of o (r ∷ rs)) ≡ true)
  new true e k = inl e
  new false e k = inr k

  here : (b : Bool) → (r.owner.0 == o.0) ≡ b → is_some (cond b (Some r) (row_of o (with_row row rs))) ≡ true → (is_some (row_of o (with_row row rs)) ≡ true → ((row.owner.0 == o.0) ≡ true) ⊎ (is_some (row_of o rs) ≡ true))
      → ((row.owner.0 == o.0) ≡ true) ⊎ (is_some (cond b (Some r) (row_of o rs)) ≡ true)
  here true e k rest = inr refl
  here false e k rest = rest k

  by_order : (b : Bool) → is_some (row_of o (cond b (row ∷ r ∷ rs) (r ∷ with_row row rs))) ≡ true → (is_some (row_of o (with_row row rs)) ≡ true → ((row.owner.0 == o.0) ≡ true) ⊎ (is_some (row_of o rs) ≡ true))
      → ((row.owner.0 == o.0) ≡ true) ⊎ (is_some (row_of o (r ∷ rs)) ≡ true)
  by_order true k rest = new (row.owner.0 == o.0) refl k
  by_order false k rest = here (r.owner.0 == o.0) refl k rest

pub rows_any : (o : Uic) (rs : List Row) → is_some (row_of o (rows_sorted rs)) ≡ true → list_any (λ (r : Row). r.uic == o.0) rs ≡ true
rows_any o [] h = absurd (let e : false ≡ true = h in cc e)
rows_any o (r ∷ rs) h = by_case (row_in o (quota_row r) (rows_sorted rs) h) (λ k. rows_any o rs k) where
  by_case : ((r.uic == o.0) ≡ true) ⊎ (is_some (row_of o (rows_sorted rs)) ≡ true) → (is_some (row_of o (rows_sorted rs)) ≡ true → list_any (λ (x : Row). x.uic == o.0) rs ≡ true)
      → (r.uic == o.0) || list_any (λ (x : Row). x.uic == o.0) rs ≡ true
  by_case (inl e) rest = ap (λ b. b || list_any (λ (x : Row). x.uic == o.0) rs) e
  by_case (inr k) rest = or_right (r.uic == o.0) (list_any (λ (x : Row). x.uic == o.0) rs) (rest k)

-- ---- along a range

pub count_range : {A : Type 0} (p : A → Bool) (r : ℕ → Bool) (a k : ℕ) (xs : List A) → length xs ≡ k → ((i : ℕ) (o : A) → slice_get xs i ≡ Some o → r (a + i) ≡ p o) → count_by r (range_with_len a k) ≡ count_by p xs
count_range p r a zero [] len same = refl
count_range p r a zero (x ∷ xs) len same = absurd (omega (arith, len))
count_range p r a (suc k) [] len same = absurd (omega (arith, len))
count_range p r a (suc k) (x ∷ xs) len same =
    let here : r a ≡ p x = (let z : a + 0 ≡ a = omega arith in ap r (sym z) ∙ same 0 x refl) in
    let rest = count_range p r (a + 1) k xs (omega (arith, len)) (λ i o at. ap r (let z : a + 1 + i ≡ a + suc i = omega arith in z) ∙ same (suc i) o at) in
    sum_by-cons (λ y. cond (r y) 1 0) a (range_with_len (a + 1) k)
    ∙ (ap (λ b. cond b 1 0 + count_by r (range_with_len (a + 1) k)) here
    ∙ (ap (λ m. cond (p x) 1 0 + m) rest ∙ sym (sum_by-cons (λ y. cond (p y) 1 0) x xs)))

pub map_range : {A : Type 0} (p : A → Bool) (r : ℕ → Bool) (a k : ℕ) (xs : List A) → length xs ≡ k → ((i : ℕ) (o : A) → slice_get xs i ≡ Some o → r (a + i) ≡ p o) → map r (range_with_len a k) ≡ map p xs
map_range p r a zero [] len same = refl
map_range p r a zero (x ∷ xs) len same = absurd (omega (arith, len))
map_range p r a (suc k) [] len same = absurd (omega (arith, len))
map_range p r a (suc k) (x ∷ xs) len same =
    let here : r a ≡ p x = (let z : a + 0 ≡ a = omega arith in ap r (sym z) ∙ same 0 x refl) in
    let rest = map_range p r (a + 1) k xs (omega (arith, len)) (λ i o at. ap r (let z : a + 1 + i ≡ a + suc i = omega arith in z) ∙ same (suc i) o at) in
    ap (λ b. b ∷ map r (range_with_len (a + 1) k)) here ∙ ap (λ bs. p x ∷ bs) rest
