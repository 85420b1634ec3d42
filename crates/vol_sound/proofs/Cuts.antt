-- What the words of soundness say of a file, one by one, and that a sound file has its clusters alone.
use Rattle.std.proofs.Common.{◌≡◌, ◌∙◌, ◌<◌, ◌≤◌, ◌+◌, ◌*◌, ◌%◌, ◌⊎◌, ℕ, zero, suc, Bool, true, false, not, List, [], ◌∷◌, Option, Some, None, refl, sym, ap, subst, inl, inr, arith, cond}
use Rattle.std.specs.Prelude.{◌==◌, ◌&&◌, ◌||◌, nat_lt, nat_le, is_none}
use Rattle.std.specs.List.{range_with_len, list_any, list_all, sum_by, count_by}
use Rattle.std.proofs.Math.Nat.{mul-le-mul_left}
use Rattle.std.proofs.lemmas.Bool.{and_parts, and_from, or_left, or_right, not_from_false, both_ways, not-true, not-false, ltb-true, leb-true, eqb-true, lt-ltb, le-leb, eq-eqb, cases_lt, cases_order, cases_Bool}
use Rattle.std.proofs.lemmas.List.Sums.{sum_by-cons}
use Rattle.base_words.specs.Lists.{Has}
use Rattle.base_words.proofs.Listing.{has_any, any_has}
use Rattle.fx_header.specs.declared.run.Run.{Run}
use Rattle.fx_header.specs.declared.slot.Hdr.{Hdr}
use Rattle.fx_header.specs.Pointers.{blocks_in}
use Rattle.vol_parts.specs.declared.finding.Finding.TheVariants as finding
use Rattle.vol_parts.specs.Chains.{chain_of, is_broken, is_well_split}
use Rattle.vol_parts.specs.Volumes.{Volume, IsNumber, factor, total, numbers, fields, headers_of, Told, told, is_slot_of, runs, is_in_run, is_in_file}
use Rattle.vol_parts.specs.Fatal.{is_one_header, has_one_header, is_system_header, stated_clusters, are_stated, is_system_file, chain_test, chain_fault, is_off_bounds, dir_fault}
use Rattle.vol_parts.proofs.Alone.{file_told, one_told}
use Rattle.vol_faults.proofs.PlaceLemmas.{some-count, term-sum, terms-sum}
use Rattle.vol_faults.specs.Counts.{times_in}
use Rattle.vol_faults.specs.Conditions.{has_run_off}
use Rattle.vol_sound.specs.Sound.{has_number, has_cut, times_in_cut, times_cut, is_unshared, shares_none, is_sound, is_sound_slot, is_kept}
use Rattle.vol_sound.specs.Freeing.{HasSystem}

-- ---- lists

pub all_has : (p : ℕ → Bool) (xs : List ℕ) (x : ℕ) → list_all p xs ≡ true → Has xs x → p x ≡ true
all_has p [] x e t = absurd t
all_has p (y ∷ xs) x e (inl same) = ap p (sym same) ∙ (and_parts (p y) (list_all p xs) e).0
all_has p (y ∷ xs) x e (inr t) = all_has p xs x (and_parts (p y) (list_all p xs) e).1 t

all_from : (p : ℕ → Bool) (xs : List ℕ) → ((x : ℕ) → Has xs x → p x ≡ true) → list_all p xs ≡ true
all_from p [] each = refl
all_from p (y ∷ xs) each = and_from (p y) (list_all p xs) (each y (inl refl)) (all_from p xs (λ x t. each x (inr t)))

pub in_range : (a k x : ℕ) → Has (range_with_len a k) x → (a ≤ x) × (x < a + k)
in_range a zero x t = absurd t
in_range a (suc k) x (inl e) = (omega arith, omega arith)
in_range a (suc k) x (inr t) = let h = in_range (a + 1) k x t in let lo = h.0 in let hi = h.1 in (omega arith, omega arith)

pub range_in : (a k x : ℕ) → a ≤ x → x < a + k → Has (range_with_len a k) x
range_in a zero x lo hi = absurd (omega arith)
range_in a (suc k) x lo hi = elim (cases_lt a x) [ inl more ↦ inr (range_in (a + 1) k x (omega arith) (omega arith)) | inr few ↦ inl (omega arith) ]

pub sum_less : (f g : ℕ → ℕ) (xs : List ℕ) → ((x : ℕ) → Has xs x → f x ≤ g x) → sum_by f xs ≤ sum_by g xs
sum_less f g [] each = omega arith
sum_less f g (x ∷ xs) each =
    let here = each x (inl refl) in
    let rest = sum_less f g xs (λ y t. each y (inr t)) in
    let a = sum_by-cons f x xs in
    let b = sum_by-cons g x xs in
    omega arith

pub number_in : (v : Volume) (n : ℕ) → IsNumber v n → Has (numbers v) n
number_in v n is = let a = is.from in let b : n ≤ v.home.files = is.to in range_in 1 v.home.files n a (let lt : n < 1 + v.home.files = omega arith in lt)

pub number_of : (v : Volume) (n : ℕ) → Has (numbers v) n → IsNumber v n
number_of v n t = let h = in_range 1 v.home.files n t in record { from = h.0; to = (let lt = h.1 in let le : n ≤ v.home.files = omega arith in le) }

pub none_is : {A : Type 0} (o : Option A) → is_none o ≡ true → o ≡ None
none_is None e = refl
none_is (Some x) e = absurd (let f : false ≡ true = e in cc)

-- ---- cuts

-- a file has a cut: its first header, with its number, and a chain in which nothing is wrong, if it is above number 11
pub record IsCut (v : Volume) (n : ℕ) : Type 0 where
  pub header : Hdr
  pub used : fields v n ≡ Some header
  pub own : header.num ≡ n
  pub chain : 11 < n → chain_fault v n ≡ None

pub cut_parts : (v : Volume) (n : ℕ) → has_cut v n ≡ true → IsCut v n
unfolding has_cut
cut_parts v n e =
    let p = and_parts (has_number n (fields v n)) (nat_le n 11 || is_none (chain_fault v n)) e in
    by_fields (fields v n) refl p.0 (λ above. none_is (chain_fault v n) (by_number above (nat_le n 11) refl p.1))
  where
    by_number : 11 < n → (b : Bool) → nat_le n 11 ≡ b → (b || is_none (chain_fault v n)) ≡ true → is_none (chain_fault v n) ≡ true
    by_number above true t u = absurd (let le = leb-true n 11 t in omega arith)
    by_number above false t u = u

    by_fields : (o : Option Hdr) → fields v n ≡ o → has_number n o ≡ true → (11 < n → chain_fault v n ≡ None) → IsCut v n
    by_fields None u t c = absurd (let f : false ≡ true = t in cc)
    by_fields (Some f) u t c = record { header = f; used = u; own = eqb-true f.num n t; chain = c }

pub cut_from : (v : Volume) (n : ℕ) → IsCut v n → has_cut v n ≡ true
unfolding has_cut
cut_from v n c =
    and_from (has_number n (fields v n)) (nat_le n 11 || is_none (chain_fault v n)) (ap (has_number n) c.used ∙ eq-eqb c.header.num n c.own) (by_number (cases_lt 11 n))
  where
    by_number : (11 < n) ⊎ (n ≤ 11) → (nat_le n 11 || is_none (chain_fault v n)) ≡ true
    by_number (inl above) = or_right (nat_le n 11) (is_none (chain_fault v n)) (ap is_none (c.chain above))
    by_number (inr low) = or_left (nat_le n 11) (is_none (chain_fault v n)) (le-leb n 11 low)

-- the chain of a file of whose chain nothing is said is whole
chain_whole : (v : Volume) (n : ℕ) (f : Hdr) → fields v n ≡ Some f → chain_fault v n ≡ None → is_broken f (chain_of (headers_of v) n f) ≡ false
unfolding chain_fault
chain_whole v n f used none = by_tests (is_broken f (chain_of (headers_of v) n f)) (is_well_split (factor v) (chain_of (headers_of v) n f)) refl (sym (ap (chain_test v n) used) ∙ none) where
  by_tests : (a b : Bool) → is_broken f (chain_of (headers_of v) n f) ≡ a → cond a (Some (finding.ChainBroken n)) (cond b None (Some (finding.ChainSplit n))) ≡ None
      → is_broken f (chain_of (headers_of v) n f) ≡ false
  by_tests false b t e = t
  by_tests true b t e = absurd (let k : Some (finding.ChainBroken n) ≡ None = e in cc)

-- the tests of a chain depend on the chain alone
pub chain_alike : (v p : Volume) (n : ℕ) (f : Hdr) → fields v n ≡ Some f → fields p n ≡ Some f → factor p ≡ factor v → chain_of (headers_of p) n f ≡ chain_of (headers_of v) n f
    → chain_fault p n ≡ chain_fault v n
unfolding chain_fault
chain_alike v p n f a b same chain =
    ap (chain_test p n) b
    ∙ ap (λ c. cond (is_broken f c) (Some (finding.ChainBroken n)) (cond (is_well_split (factor p) c) None (Some (finding.ChainSplit n)))) chain
    ∙ ap (λ k. cond (is_broken f (chain_of (headers_of v) n f)) (Some (finding.ChainBroken n)) (cond (is_well_split k (chain_of (headers_of v) n f)) None (Some (finding.ChainSplit n)))) same
    ∙ sym (ap (chain_test v n) a)

-- ---- system files

-- a system file has one header
pub record IsOneHeader (v : Volume) (n : ℕ) : Type 0 where
  pub header : Hdr
  pub used : fields v n ≡ Some header
  pub one : is_one_header header (told v n) ≡ true

pub system_header : (v : Volume) (n : ℕ) → is_system_file v n ≡ true → IsOneHeader v n
unfolding is_system_file
system_header v n e =
    let p = and_parts (is_system_header n (fields v n)) (has_one_header (fields v n) (told v n) && are_stated v n (stated_clusters v n) (runs v n)) e in
    let q = and_parts (has_one_header (fields v n) (told v n)) (are_stated v n (stated_clusters v n) (runs v n)) p.1 in
    by_fields (fields v n) refl q.0
  where
    by_fields : (o : Option Hdr) → fields v n ≡ o → has_one_header o (told v n) ≡ true → IsOneHeader v n
    by_fields None u t = absurd (let f : false ≡ true = t in cc)
    by_fields (Some f) u t = record { header = f; used = u; one = t }

-- whose slot is that of its number alone
pub system_slots : (v : Volume) (n : ℕ) → IsOneHeader v n → (told v n).slots ≡ n ∷ []
system_slots v n h = ap (λ (t : Told). t.slots) (one_told v n h.header h.used h.one)

pub system_whole : (v : Volume) (n : ℕ) (h : IsOneHeader v n) → is_broken h.header (chain_of (headers_of v) n h.header) ≡ false
system_whole v n h =
    let p = and_parts (h.header.ext == 0) (not (told v n).surplus && (blocks_in (told v n).runs == h.header.blocks)) h.one in
    let q = and_parts (not (told v n).surplus) (blocks_in (told v n).runs == h.header.blocks) p.1 in
    ap (λ (t : Told). not (blocks_in t.runs == h.header.blocks)) (sym (file_told v n h.header h.used)) ∙ ap not q.1

-- ---- whole files

-- a file in use whose chain has all of its blocks
pub record IsWholeFile (v : Volume) (n : ℕ) : Type 0 where
  pub header : Hdr
  pub used : fields v n ≡ Some header
  pub whole : is_broken header (chain_of (headers_of v) n header) ≡ false

-- that of a cut above number 11
pub whole_above : (v : Volume) (n : ℕ) → IsCut v n → 11 < n → IsWholeFile v n
whole_above v n c above = record { header = c.header; used = c.used; whole = chain_whole v n c.header c.used (c.chain above) }

pub cut_whole : (v : Volume) (n : ℕ) → HasSystem v → IsNumber v n → has_cut v n ≡ true → IsWholeFile v n
cut_whole v n system is cut = elim (cases_lt 11 n) [
  | inl above ↦ whole_above v n (cut_parts v n cut) above
  | inr low ↦ let h = system_header v n (system.files.sound n is.from low) in record { header = h.header; used = h.used; whole = system_whole v n h }
]

-- ---- clusters

run_in_total : (v : Volume) (q : ℕ) (r : Run) → is_off_bounds v r ≡ false → is_in_run (factor v) q r ≡ true → q < total v
unfolding is_off_bounds is_in_run
run_in_total v q r off e =
    let p = (and_parts (nat_lt r.lbn (factor v * (q + 1))) (nat_lt (factor v * q) (r.lbn + r.count)) e).1 in
    let lt : factor v * q < r.lbn + r.count = ltb-true (factor v * q) (r.lbn + r.count) p in
    let t = not-false _ off in
    let u = (and_parts (r.lbn % factor v == 0) ((r.count % factor v == 0) && nat_le (r.lbn + r.count) (factor v * total v)) t).1 in
    let w = (and_parts (r.count % factor v == 0) (nat_le (r.lbn + r.count) (factor v * total v)) u).1 in
    let le : r.lbn + r.count ≤ factor v * total v = leb-true _ _ w in
    below (factor v) q (total v) (omega arith)
  where
    below : (f q k : ℕ) → f * q < f * k → q < k
    below f q k lt = elim (cases_lt q k) [ inl less ↦ less | inr more ↦ absurd (let m : f * k ≤ f * q = mul-le-mul_left f more in omega arith) ]

-- a cluster of a file with runs of whole clusters is one of the volume
pub file_in_total : (v : Volume) (n q : ℕ) → has_run_off v n ≡ false → is_in_file v q n ≡ true → q < total v
unfolding has_run_off
file_in_total v n q off e =
    let h = any_has (is_in_run (factor v) q) (runs v n) e in
    run_in_total v q h.0 (none_off h.0 h.1 (cases_Bool (is_off_bounds v h.0))) h.2
  where
    none_off : (r : Run) → Has (runs v n) r → (is_off_bounds v r ≡ true) ⊎ (is_off_bounds v r ≡ false) → is_off_bounds v r ≡ false
    none_off r t (inl bad) = absurd (both_ways _ off (has_any (is_off_bounds v) (runs v n) r t bad))
    none_off r t (inr good) = good

-- ---- sound files

pub record IsSound (v : Volume) (n : ℕ) : Type 0 where
  pub above : 11 < n
  pub cut : has_cut v n ≡ true
  pub inside : has_run_off v n ≡ false
  pub dir : dir_fault v n ≡ None
  pub unshared : (q : ℕ) → q < total v → is_in_file v q n ≡ true → times_cut v q ≡ 1

pub sound_parts : (v : Volume) (n : ℕ) → is_sound v n ≡ true → IsSound v n
unfolding is_sound shares_none is_unshared
sound_parts v n e =
    let a = and_parts (nat_lt 11 n) (has_cut v n && (not (has_run_off v n) && (is_none (dir_fault v n) && shares_none v n))) e in
    let b = and_parts (has_cut v n) (not (has_run_off v n) && (is_none (dir_fault v n) && shares_none v n)) a.1 in
    let c = and_parts (not (has_run_off v n)) (is_none (dir_fault v n) && shares_none v n) b.1 in
    let d = and_parts (is_none (dir_fault v n)) (shares_none v n) c.1 in
    record {
      above = ltb-true 11 n a.0;
      cut = b.0;
      inside = not-true (has_run_off v n) c.0;
      dir = none_is (dir_fault v n) d.0;
      unshared = λ q lt t. eqb-true (times_cut v q) 1 (by_file (is_in_file v q n) (times_cut v q == 1) t (all_has (is_unshared v n) (range_with_len 0 (total v)) q d.1 (range_in 0 (total v) q (omega arith) (let l : q < 0 + total v = omega arith in l))));
    }
  where
    by_file : (a b : Bool) → a ≡ true → (not a || b) ≡ true → b ≡ true
    by_file true b t e = e
    by_file false b t e = absurd (cc)

pub sound_from : (v : Volume) (n : ℕ) → IsSound v n → is_sound v n ≡ true
unfolding is_sound shares_none is_unshared
sound_from v n s =
    and_from (nat_lt 11 n) _ (lt-ltb 11 n s.above)
    (and_from (has_cut v n) _ s.cut
    (and_from (not (has_run_off v n)) _ (not_from_false (has_run_off v n) s.inside)
    (and_from (is_none (dir_fault v n)) _ (ap is_none s.dir)
    (all_from (is_unshared v n) (range_with_len 0 (total v)) (λ q t. let lt = (in_range 0 (total v) q t).1 in by_file q (let l : q < total v = omega arith in l) (cases_Bool (is_in_file v q n)))))))
  where
    by_file : (q : ℕ) → q < total v → (is_in_file v q n ≡ true) ⊎ (is_in_file v q n ≡ false) → (not (is_in_file v q n) || (times_cut v q == 1)) ≡ true
    by_file q lt (inl t) = or_right (not (is_in_file v q n)) _ (eq-eqb (times_cut v q) 1 (s.unshared q lt t))
    by_file q lt (inr t) = or_left (not (is_in_file v q n)) _ (not_from_false (is_in_file v q n) t)

-- a cut counts the clusters that it has
pub cut_counts : (v : Volume) (q n : ℕ) → has_cut v n ≡ true → is_in_file v q n ≡ true → 1 ≤ times_in_cut v q n
unfolding times_in_cut times_in
cut_counts v q n cut e = rw cut (leb-true 1 (count_by (is_in_run (factor v) q) (runs v n)) (some-count (is_in_run (factor v) q) (runs v n) ∙ e))

-- and all cuts count what one of them does
pub times_some : (v : Volume) (q n : ℕ) → IsNumber v n → times_in_cut v q n ≤ times_cut v q
unfolding times_cut
times_some v q n is = let a = is.from in let b : n ≤ v.home.files = is.to in term-sum (times_in_cut v q) 1 v.home.files n a (let lt : n < 1 + v.home.files = omega arith in lt)

-- two cuts that have a cluster count it twice
times_two : (v : Volume) (q n m : ℕ) → IsNumber v n → IsNumber v m → n < m → 1 ≤ times_in_cut v q n → 1 ≤ times_in_cut v q m → 2 ≤ times_cut v q
unfolding times_cut
times_two v q n m is_n is_m below a b =
    let to : m ≤ v.home.files = is_m.to in
    let from = is_n.from in
    let both = terms-sum (times_in_cut v q) 1 v.home.files n m from below (let lt : m < 1 + v.home.files = omega arith in lt) in
    omega arith

-- a sound file shares no cluster with the cut of another one
pub sound_alone : (v : Volume) (q n m : ℕ) → IsNumber v n → IsNumber v m → IsSound v n → has_cut v m ≡ true → is_in_file v q n ≡ true → is_in_file v q m ≡ true → n ≡ m
sound_alone v q n m is_n is_m s cut t u =
    let one = s.unshared q (file_in_total v n q s.inside t) t in
    let a = cut_counts v q n s.cut t in
    let b = cut_counts v q m cut u in
    elim (cases_order n m) [
      | inl same ↦ same
      | inr more ↦ elim more [
        | inl below ↦ absurd (let two = times_two v q n m is_n is_m below a b in omega arith)
        | inr above ↦ absurd (let two = times_two v q m n is_m is_n above b a in omega arith)
      ]
    ]

-- ---- what is kept

-- each slot of a sound file is kept
pub sound_kept : (v : Volume) (n m : ℕ) → IsNumber v n → is_sound v n ≡ true → Has (told v n).slots m → is_kept v m ≡ true
unfolding is_kept is_sound_slot
sound_kept v n m is s t =
    or_right (nat_le m 11) (list_any (is_sound_slot v m) (numbers v))
    (has_any (is_sound_slot v m) (numbers v) n (number_in v n is) (and_from (is_sound v n) (is_slot_of v m n) s (has_any (λ k. k == m) (told v n).slots m t (eq-eqb m m refl))))

-- and so is that of each system file
pub low_kept : (v : Volume) (m : ℕ) → m ≤ 11 → is_kept v m ≡ true
unfolding is_kept
low_kept v m low = or_left (nat_le m 11) _ (le-leb m 11 low)

-- a slot that is kept is one of the two
pub record IsSoundSlot (v : Volume) (m : ℕ) : Type 0 where
  pub file : ℕ
  pub number : IsNumber v file
  pub sound : is_sound v file ≡ true
  pub slot : Has (told v file).slots m

pub kept_parts : (v : Volume) (m : ℕ) → is_kept v m ≡ true → 11 < m → IsSoundSlot v m
unfolding is_kept is_sound_slot
kept_parts v m e above = by_number (nat_le m 11) refl e where
  by_number : (b : Bool) → nat_le m 11 ≡ b → (b || list_any (is_sound_slot v m) (numbers v)) ≡ true → IsSoundSlot v m
  by_number true t u = absurd (let le = leb-true m 11 t in omega arith)
  by_number false t u =
      let h = any_has (is_sound_slot v m) (numbers v) u in
      let p = and_parts (is_sound v h.0) (is_slot_of v m h.0) h.2 in
      let s = any_has (λ k. k == m) (told v h.0).slots p.1 in
      record { file = h.0; number = number_of v h.0 h.1; sound = p.0; slot = subst (λ k. Has (told v h.0).slots k) (eqb-true s.0 m s.2) s.1 }
