-- Rows of flags that tell where entries lead.
use Rattle.std.proofs.Common.{◌≡◌, ◌≤◌, ◌<◌, ◌+◌, ◌-◌, ◌∙◌, ◌⊎◌, inl, inr, zero, suc, ℕ, Bool, true, false, cond, List, [], ◌∷◌, Some, None, Option, length, map, take, set, refl, sym, ap, subst, arith}
use Rattle.std.specs.Prelude.{◌&&◌, ◌||◌, slice_index_or}
use Rattle.std.specs.List.{range_with_len, list_any}
use Rattle.std.proofs.lemmas.Bool.{cases_lt}
use Rattle.std.proofs.lemmas.List.{length-map}
use Rattle.std.proofs.lemmas.List.FromFn.{length-map-range_with_len}
use Rattle.plain_cat.specs.declared.cat.Cat.{Cat}
use Rattle.plain_cat.specs.declared.cat.File.{File}
use Rattle.plain_rules.specs.Lookups.{file_at}
use Rattle.plain_rules.specs.SystemFiles.{listed}
use Rattle.vol_parts.specs.Fatal.Path.{One}
use Rattle.vol_faults.specs.Reaching.{is_step_to, leads}
use Rattle.vol_faults.proofs.CatLemmas.{file-number}
use Rattle.vol_faults.proofs.ReachLemmas.{leads-names, path-number}
use Rattle.vol_sound.specs.Leading.{leads_by}
use Rattle.vol_repair.specs.Reached.{flag_at, row_at, row_of, rows_of, either, passed_row, passed, AreRows}

-- ---- a row and another one

pub either_none : (us : List Bool) → either us [] ≡ us
either_none [] = refl
either_none (a ∷ us) = refl

pub length_either : (us vs : List Bool) → length (either us vs) ≡ length us
length_either [] vs = refl
length_either (a ∷ us) [] = refl
length_either (a ∷ us) (b ∷ vs) = ap suc (length_either us vs)

set_flag : (us vs : List Bool) (i : ℕ) → i < length us → flag_at vs i ≡ true → set (either us (take i vs)) i true ≡ either us (take (suc i) vs)
set_flag [] vs i lt e = absurd (omega (arith, lt))
set_flag (a ∷ us) [] i lt e = absurd (let z : false ≡ true = e in cc z)
set_flag (a ∷ us) (b ∷ vs) zero lt e = by a where
  is_set : b ≡ true
  is_set = e

  by : (x : Bool) → true ∷ us ≡ (x || b) ∷ either us []
  by true = ap (λ xs. true ∷ xs) (sym (either_none us))
  by false = (λ j. sym is_set j ∷ sym (either_none us) j)
set_flag (a ∷ us) (b ∷ vs) (suc i) lt e = ap (λ xs. (a || b) ∷ xs) (set_flag us vs i (omega (arith, lt)) e)

skip_flag : (us vs : List Bool) (i : ℕ) → flag_at vs i ≡ false → either us (take i vs) ≡ either us (take (suc i) vs)
skip_flag [] vs i e = refl
skip_flag (a ∷ us) [] zero e = refl
skip_flag (a ∷ us) [] (suc i) e = refl
skip_flag (a ∷ us) (b ∷ vs) zero e = by a where
  is_clear : b ≡ false
  is_clear = e

  by : (x : Bool) → x ∷ us ≡ (x || b) ∷ either us []
  by true = ap (λ xs. true ∷ xs) (sym (either_none us))
  by false = (λ j. sym is_clear j ∷ sym (either_none us) j)
skip_flag (a ∷ us) (b ∷ vs) (suc i) e = ap (λ xs. (a || b) ∷ xs) (skip_flag us vs i e)

pub joined_set : (us vs : List Bool) (i : ℕ) → i < length us → flag_at vs i ≡ true → set (either us (take i vs)) i true ≡ either us (take (i + 1) vs)
joined_set us vs i lt e = set_flag us vs i lt e ∙ ap (λ k. either us (take k vs)) (let z : suc i ≡ i + 1 = omega arith in z)

pub joined_skip : (us vs : List Bool) (i : ℕ) → flag_at vs i ≡ false → either us (take i vs) ≡ either us (take (i + 1) vs)
joined_skip us vs i e = skip_flag us vs i e ∙ ap (λ k. either us (take k vs)) (let z : suc i ≡ i + 1 = omega arith in z)

-- all flags that the row has are looked at
pub joined_all : (us vs : List Bool) (i : ℕ) → length us ≤ i → either us (take i vs) ≡ either us vs
joined_all [] vs i le = refl
joined_all (a ∷ us) [] zero le = refl
joined_all (a ∷ us) [] (suc i) le = refl
joined_all (a ∷ us) (b ∷ vs) zero le = absurd (omega (arith, le))
joined_all (a ∷ us) (b ∷ vs) (suc i) le = ap (λ xs. (a || b) ∷ xs) (joined_all us vs i (omega (arith, le)))

flag_either : (us vs : List Bool) (m : ℕ) → length vs ≤ length us → flag_at (either us vs) m ≡ (flag_at us m || flag_at vs m)
flag_either [] [] m le = refl
flag_either [] (b ∷ vs) m le = absurd (omega (arith, le))
flag_either (a ∷ us) [] m le = ends (flag_at (a ∷ us) m) where
  ends : (x : Bool) → x ≡ (x || false)
  ends true = refl
  ends false = refl
flag_either (a ∷ us) (b ∷ vs) zero le = refl
flag_either (a ∷ us) (b ∷ vs) (suc m) le = flag_either us vs m (omega (arith, le))

-- ---- rows that have passed a number

map_at : (f : List Bool → List Bool) → f [] ≡ [] → (rows : List (List Bool)) (n : ℕ) → row_at (map f rows) n ≡ f (row_at rows n)
map_at f none [] n = sym none
map_at f none (r ∷ rs) zero = refl
map_at f none (r ∷ rs) (suc n) = map_at f none rs n

passed_at : (x : ℕ) (rows : List (List Bool)) (n : ℕ) → row_at (passed x rows) n ≡ passed_row x (row_at rows x) (row_at rows n)
passed_at x rows n = map_at (passed_row x (row_at rows x)) refl rows n

length_passed : (x : ℕ) (through row : List Bool) → length (passed_row x through row) ≡ length row
length_passed x through row = by (flag_at row x) where
  by : (b : Bool) → length (cond b (either row through) row) ≡ length row
  by true = length_either row through
  by false = refl

past_rows : (rows : List (List Bool)) (n : ℕ) → length rows ≤ n → row_at rows n ≡ []
past_rows [] n le = refl
past_rows (r ∷ rs) zero le = absurd (omega (arith, le))
past_rows (r ∷ rs) (suc n) le = past_rows rs n (omega (arith, le))

module _ (c : Cat) (xs : List ℕ) (rows : List (List Bool)) (h : AreRows c xs rows) (x : ℕ) (number : x ≤ length c.files) where
  -- a row that leads anywhere has all flags
  whole_row : (n m : ℕ) → flag_at (row_at rows n) m ≡ true → length (row_at rows x) ≤ length (row_at rows n)
  whole_row n m e = by (cases_lt (length c.files) n) where
    by : (length c.files < n) ⊎ (n ≤ length c.files) → length (row_at rows x) ≤ length (row_at rows n)
    by (inl past) =
        let count = h.count in
        let none : flag_at (row_at rows n) m ≡ false = ap (λ r. flag_at r m) (past_rows rows n (omega (arith, past, count))) in
        absurd (let both : true ≡ false = sym e ∙ none in cc both)
    by (inr in_rows) = let a = h.long n in_rows in let b = h.long x number in omega (arith, a, b)

  flag_passed : (n m : ℕ) → flag_at (passed_row x (row_at rows x) (row_at rows n)) m ≡ (flag_at (row_at rows n) m || (flag_at (row_at rows n) x && flag_at (row_at rows x) m))
  flag_passed n m = by (flag_at (row_at rows n) x) refl where
    ends : (b : Bool) → b ≡ (b || false)
    ends true = refl
    ends false = refl

    by : (b : Bool) → flag_at (row_at rows n) x ≡ b → flag_at (cond b (either (row_at rows n) (row_at rows x)) (row_at rows n)) m ≡ (flag_at (row_at rows n) m || (b && flag_at (row_at rows x) m))
    by true e = flag_either (row_at rows n) (row_at rows x) m (whole_row n x e)
    by false e = ends (flag_at (row_at rows n) m)

  pub rows_passed : AreRows c (x ∷ xs) (passed x rows)
  unfolding leads_by
  rows_passed = record {
    count = length-map rows (passed_row x (row_at rows x)) ∙ h.count;
    long = λ n le. ap length (passed_at x rows n) ∙ (length_passed x (row_at rows x) (row_at rows n) ∙ h.long n le);
    each = λ n m. ap (λ r. flag_at r m) (passed_at x rows n) ∙ (flag_passed n m ∙ (λ i. h.each n m i || (h.each n x i && h.each x m i)));
  }

-- ---- the first rows

along_at : {X : Type 0} (f : ℕ → X) (a k q : ℕ) (d : X) → q < k → slice_index_or (map f (range_with_len a k)) q d ≡ f (a + q)
along_at f a zero q d lt = absurd (omega (arith, lt))
along_at f a (suc k) zero d lt = ap f (let e : a ≡ a + 0 = omega arith in e)
along_at f a (suc k) (suc q) d lt = along_at f (a + 1) k q d (omega (arith, lt)) ∙ ap f (let e : a + 1 + q ≡ a + suc q = omega arith in e)

along_past : {X : Type 0} (f : ℕ → X) (a k q : ℕ) (d : X) → k ≤ q → slice_index_or (map f (range_with_len a k)) q d ≡ d
along_past f a zero q d le = refl
along_past f a (suc k) zero d le = absurd (omega (arith, le))
along_past f a (suc k) (suc q) d le = along_past f (a + 1) k q d (omega (arith, le))

-- a number past the last one leads nowhere
leads_past : (c : Cat) (n m : ℕ) → length c.files < n → leads c n m ≡ false
unfolding leads
leads_past c n m past = by (file_at c n) refl where
  by : (o : Option File) → file_at c n ≡ o → list_any (is_step_to c n m) (listed o) ≡ false
  by None e = refl
  by (Some f) e = absurd (let k = (file-number c n f e).1 in omega (arith, k, past))

-- nothing leads past the last one
leads_to_past : (c : Cat) (n m : ℕ) → length c.files < m → leads c n m ≡ false
leads_to_past c n m past = by (leads c n m) refl where
  by : (b : Bool) → leads c n m ≡ b → b ≡ false
  by true e = absurd (let k = (path-number c n m (One (leads-names c n m e))).1 in omega (arith, k, past))
  by false e = refl

pub first_rows : (c : Cat) → AreRows c [] (rows_of c)
unfolding leads_by
first_rows c = record { count = length-map-range_with_len (row_of c) 0 (length c.files + 1); long = long; each = each } where
  here : (n : ℕ) → n ≤ length c.files → row_at (rows_of c) n ≡ row_of c n
  here n le = along_at (row_of c) 0 (length c.files + 1) n [] (omega (arith, le)) ∙ ap (row_of c) (let e : 0 + n ≡ n = omega arith in e)

  long : (n : ℕ) → n ≤ length c.files → length (row_at (rows_of c) n) ≡ length c.files + 1
  long n le = ap length (here n le) ∙ length-map-range_with_len (leads c n) 0 (length c.files + 1)

  by_to : (n m : ℕ) → (length c.files < m) ⊎ (m ≤ length c.files) → flag_at (row_of c n) m ≡ leads c n m
  by_to n m (inl past) = along_past (leads c n) 0 (length c.files + 1) m false (omega (arith, past)) ∙ sym (leads_to_past c n m past)
  by_to n m (inr le) = along_at (leads c n) 0 (length c.files + 1) m false (omega (arith, le)) ∙ ap (leads c n) (let e : 0 + m ≡ m = omega arith in e)

  by_from : (n m : ℕ) → (length c.files < n) ⊎ (n ≤ length c.files) → flag_at (row_at (rows_of c) n) m ≡ leads c n m
  by_from n m (inl past) = ap (λ r. flag_at r m) (along_past (row_of c) 0 (length c.files + 1) n [] (omega (arith, past))) ∙ sym (leads_past c n m past)
  by_from n m (inr le) = ap (λ r. flag_at r m) (here n le) ∙ by_to n m (cases_lt (length c.files) m)

  each : (n m : ℕ) → flag_at (row_at (rows_of c) n) m ≡ leads_by c [] n m
  each n m = by_from n m (cases_lt (length c.files) n)

-- the next one of the numbers, from the last to the first
pub next_passed : (c : Cat) (i : ℕ) (rows new : List (List Bool)) → i < length c.files → AreRows c (range_with_len (length c.files - i + 1) i) rows → new ≡ passed (length c.files - i) rows
    → AreRows c (range_with_len (length c.files - (i + 1) + 1) (i + 1)) new
next_passed c i rows new lt h is =
    let next : suc i ≡ i + 1 = omega arith in
    let from : length c.files - i ≡ length c.files - (i + 1) + 1 = omega (arith, lt) in
    subst (λ (rs : List (List Bool)). AreRows c (range_with_len (length c.files - (i + 1) + 1) (i + 1)) rs) (sym is)
    (subst (λ (k : ℕ). AreRows c (range_with_len (length c.files - (i + 1) + 1) k) (passed (length c.files - i) rows)) next
    (subst (λ (k : ℕ). AreRows c (range_with_len k (suc i)) (passed (length c.files - i) rows)) from
    (rows_passed c (range_with_len (length c.files - i + 1) i) rows h (length c.files - i) (omega arith))))
