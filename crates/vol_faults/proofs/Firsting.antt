-- The first entry of each file, when one entry more is looked at, and what it says of the entries that stay.
use Rattle.std.proofs.Common.{◌≡◌, ◌≢◌, ◌≤◌, ◌<◌, ◌+◌, ◌-◌, ◌∙◌, ◌++◌, ◌&&◌, ℕ, Bool, true, false, cond, filter, append-nil, List, [], ◌∷◌, Option, Some, None, length, get_or, set, map, take, refl, sym, ap, subst, inl, inr, arith}
use Rattle.std.proofs.lemmas.Grind.{get_or-set_at}
use Rattle.std.proofs.lemmas.List.Elements.{filter-append}
use Rattle.std.proofs.lemmas.List.{get_or-set_other, length-set, take_more, map-append}
use Rattle.std.proofs.lemmas.Option.{slice_get_past}
use Rattle.std.proofs.lemmas.Bool.{false≢true, eqb-true, ne_eqb, lt-ltb, cases_eq, cases_lt}
use Rattle.std.proofs.lemmas.Bool.Decides.{nat_tests}
use Rattle.std.specs.Prelude.{◌==◌, nat_lt, is_some, is_none, slice_get, if◌then◌else◌}
use Rattle.plain_cat.specs.declared.ids.Fid.{Fid}
use Rattle.plain_cat.specs.declared.cat.Cat.{Cat}
use Rattle.plain_cat.specs.declared.cat.File.{File}
use Rattle.plain_rules.specs.declared.places.Place.{Place}
use Rattle.plain_rules.specs.Lookups.{file_at, in_use, of_seq}
use Rattle.plain_rules.specs.Mending.{same_fid}
use Rattle.vol_faults.specs.declared.places.Spot.{Spot}
use Rattle.vol_faults.specs.Places.{place_of, first_of, first_in, place_in, first_at, AreFirsts, is_new}

-- an entry more, where one may have been found and this one may name the file
abbrev again : Option Place → Bool → Place → Option Place
again (Some q) names p = Some q
again None true p = Some p
again None false p = None

abbrev names : Place → ℕ → Option File → Bool
names p n None = false
names p n (Some f) = same_fid p.entry.fid (record { num = n; seq = f.seq })

again_if : (p q : Place) (b : Bool) → again (if b then Some q else None) false p ≡ (if b then Some q else None)
again_if p q true = refl
again_if p q false = refl

first_of_step : (b : Bool) (q : Place) (rest new : Option Place) (names : Bool) (p : Place)
    → new ≡ again rest names p → (if b then Some q else new) ≡ again (if b then Some q else rest) names p
first_of_step true q rest new names p e = refl
first_of_step false q rest new names p e = e

first_of_one : (b : Bool) (p : Place) → (if b then Some p else None) ≡ again None b p
first_of_one true p = refl
first_of_one false p = refl

first_of_push : (fid : Fid) (ps : List Place) (p : Place) → first_of fid (ps ++ p ∷ []) ≡ again (first_of fid ps) (same_fid p.entry.fid fid) p
first_of_push fid [] p = first_of_one (same_fid p.entry.fid fid) p
first_of_push fid (q ∷ qs) p =
    first_of_step (same_fid q.entry.fid fid) q (first_of fid qs) (first_of fid (qs ++ p ∷ [])) (same_fid p.entry.fid fid) p (first_of_push fid qs p)

first_in_push : (ps : List Place) (p : Place) (n : ℕ) (o : Option File) → first_in (ps ++ p ∷ []) n o ≡ again (first_in ps n o) (names p n o) p
first_in_push ps p n None = refl
first_in_push ps p n (Some f) = first_of_push (record { num = n; seq = f.seq }) ps p

and_first : (x y : Bool) → (x && y) ≡ true → x ≡ true
and_first true y h = refl
and_first false y h = h

and_second : (x y : Bool) → (x && y) ≡ true → y ≡ true
and_second true y h = h
and_second false y h = absurd (false≢true h)

and_last : (x y : Bool) → x ≡ true → (x && y) ≡ false → y ≡ false
and_last true y h e = e
and_last false y h e = absurd (false≢true h)

pub is_some_if : (b : Bool) (f : File) → is_some (if b then Some f else None) ≡ b
is_some_if true f = refl
is_some_if false f = refl

is_none_place : (x : Option Spot) → is_none (place_in x) ≡ is_none x
is_none_place None = refl
is_none_place (Some s) = refl

-- an entry names a file only by the file's number
names_num : (p : Place) (n : ℕ) (o : Option File) → names p n o ≡ true → p.entry.fid.num ≡ n
unfolding same_fid
names_num p n None h = absurd (false≢true h)
names_num p n (Some f) h = eqb-true p.entry.fid.num n (and_first (p.entry.fid.num == n) (p.entry.fid.seq == f.seq) h)

same_nums : (n a b : ℕ) → (a == b) ≡ ((n == n) && (b == a))
same_nums n a b = grind (arith, nat_tests)

-- and then the file of that number is in use under its identifier
names_own : (p : Place) (o : Option File) → is_some (of_seq p.entry.fid.seq o) ≡ names p p.entry.fid.num o
unfolding same_fid
names_own p None = refl
names_own p (Some f) = is_some_if (f.seq == p.entry.fid.seq) f ∙ same_nums p.entry.fid.num f.seq p.entry.fid.seq

-- the number of a file in use is one of the catalogue's
pub in_use_from : (c : Cat) (fid : Fid) → is_some (in_use c fid) ≡ true → 1 ≤ fid.num
in_use_from c fid h = elim (cases_eq fid.num 0) [
  | inl e ↦ absurd (false≢true (subst (λ (n : ℕ). is_some (of_seq fid.seq (file_at c n)) ≡ true) e h))
  | inr ne ↦ omega arith
]

past_none : (c : Cat) (seq n : ℕ) → 1 ≤ n → length c.files < n → is_some (of_seq seq (file_at c n)) ≡ false
past_none c seq n from past =
    let e : (n == 0) ≡ false = ne_eqb n 0 (λ z. absurd (omega arith)) in
    let g : slice_get c.files (n - 1) ≡ None = slice_get_past c.files (n - 1) (omega arith) in
    rw (e, g) refl

pub in_use_to : (c : Cat) (fid : Fid) → is_some (in_use c fid) ≡ true → fid.num ≤ length c.files
in_use_to c fid h = elim (cases_lt (length c.files) fid.num) [
  | inl past ↦ absurd (false≢true (sym (past_none c fid.seq fid.num (in_use_from c fid h) past) ∙ h))
  | inr within ↦ within
]

again_same : (x : Option Place) (b : Bool) (p : Place) → (b ≡ true → is_none x ≡ false) → again x b p ≡ x
again_same (Some q) b p h = refl
again_same None true p h = absurd (false≢true (sym (h refl)))
again_same None false p h = refl

again_new : (x : Option Place) (b : Bool) (p : Place) → is_none x ≡ true → b ≡ true → again x b p ≡ Some p
again_new (Some q) b p none h = absurd (false≢true none)
again_new None true p none h = refl
again_new None false p none h = absurd (false≢true h)

had : (c : Cat) (ps : List Place) (table : List (Option Spot)) (p : Place) (n : ℕ) → is_new c table p ≡ false → AreFirsts c ps table
    → 1 ≤ n → n ≤ length table → p.entry.fid.num ≡ n → names p n (file_at c n) ≡ true → is_none (first_in ps n (file_at c n)) ≡ false
had c ps table p n old first from to same h =
    let used : is_some (in_use c p.entry.fid) ≡ true =
    names_own p (file_at c p.entry.fid.num) ∙ subst (λ (k : ℕ). names p k (file_at c k) ≡ true) (sym same) h in
    let inside : nat_lt (p.entry.fid.num - 1) (length table) ≡ true = lt-ltb (p.entry.fid.num - 1) (length table) (omega arith) in
    let none : is_none (first_at table p.entry.fid.num) ≡ false =
    and_last (nat_lt (p.entry.fid.num - 1) (length table)) (is_none (first_at table p.entry.fid.num)) inside
    (and_last (is_some (in_use c p.entry.fid)) (nat_lt (p.entry.fid.num - 1) (length table) && is_none (first_at table p.entry.fid.num)) used old) in
    ap (λ (x : Option Place). is_none x) (sym (first.each n from to)) ∙ (is_none_place (first_at table n)
    ∙ subst (λ (k : ℕ). is_none (first_at table k) ≡ false) same none)

-- an entry of which the table needs nothing
pub firsts_same : (c : Cat) (ps : List Place) (table : List (Option Spot)) (p : Place) → is_new c table p ≡ false → AreFirsts c ps table
    → AreFirsts c (ps ++ p ∷ []) table
firsts_same c ps table p old first = record {
  long = first.long;
  each = λ n from to.
      let have : names p n (file_at c n) ≡ true → is_none (first_in ps n (file_at c n)) ≡ false =
      λ h. had c ps table p n old first from to (names_num p n (file_at c n) h) h in
      first.each n from to ∙ sym (first_in_push ps p n (file_at c n) ∙ again_same (first_in ps n (file_at c n)) (names p n (file_at c n)) p have);
}

elsewhere : (c : Cat) (ps : List Place) (table : List (Option Spot)) (s : Spot) (n : ℕ) → is_new c table (place_of s) ≡ true → AreFirsts c ps table
    → 1 ≤ n → n ≤ length table → ((place_of s).entry.fid.num ≡ n → ⊥)
    → place_in (first_at (set table (s.entry.now.fid.num - 1) (Some s)) n) ≡ first_in (ps ++ place_of s ∷ []) n (file_at c n)
elsewhere c ps table s n new first from to other =
    let p : Place = place_of s in
    let used : is_some (in_use c p.entry.fid) ≡ true =
    and_first (is_some (in_use c p.entry.fid)) (nat_lt (p.entry.fid.num - 1) (length table) && is_none (first_at table p.entry.fid.num)) new in
    let low : 1 ≤ s.entry.now.fid.num = in_use_from c p.entry.fid used in
    let apart : n - 1 ≢ s.entry.now.fid.num - 1 = λ e. other (omega arith) in
    let x : Option Place = first_in ps n (file_at c n) in
    ap place_in (get_or-set_other table (s.entry.now.fid.num - 1) (n - 1) (Some s) None apart)
    ∙ (first.each n from to
    ∙ sym (first_in_push ps p n (file_at c n)
    ∙ again_same x (names p n (file_at c n)) p (λ h. absurd (other (names_num p n (file_at c n) h)))))

at_it : (c : Cat) (ps : List Place) (table : List (Option Spot)) (s : Spot) (n : ℕ) → is_new c table (place_of s) ≡ true → AreFirsts c ps table
    → 1 ≤ n → n ≤ length table → (place_of s).entry.fid.num ≡ n
    → place_in (first_at (set table (s.entry.now.fid.num - 1) (Some s)) n) ≡ first_in (ps ++ place_of s ∷ []) n (file_at c n)
at_it c ps table s n new first from to same =
    let p : Place = place_of s in
    let used : is_some (in_use c p.entry.fid) ≡ true =
    and_first (is_some (in_use c p.entry.fid)) (nat_lt (p.entry.fid.num - 1) (length table) && is_none (first_at table p.entry.fid.num)) new in
    let none : is_none (first_at table p.entry.fid.num) ≡ true =
    and_second (nat_lt (p.entry.fid.num - 1) (length table)) (is_none (first_at table p.entry.fid.num))
    (and_second (is_some (in_use c p.entry.fid)) (nat_lt (p.entry.fid.num - 1) (length table) && is_none (first_at table p.entry.fid.num)) new) in
    let named : names p n (file_at c n) ≡ true =
    subst (λ (k : ℕ). names p k (file_at c k) ≡ true) same (sym (names_own p (file_at c p.entry.fid.num)) ∙ used) in
    let empty : is_none (first_in ps n (file_at c n)) ≡ true =
    ap (λ (x : Option Place). is_none x) (sym (first.each n from to)) ∙ (is_none_place (first_at table n)
    ∙ subst (λ (k : ℕ). is_none (first_at table k) ≡ true) same none) in
    let at : n - 1 ≡ s.entry.now.fid.num - 1 = ap (λ (k : ℕ). k - 1) (sym same) in
    ap place_in (get_or-set_at table (s.entry.now.fid.num - 1) (n - 1) (Some s) None at (omega arith))
    ∙ sym (first_in_push ps p n (file_at c n) ∙ again_new (first_in ps n (file_at c n)) (names p n (file_at c n)) p empty named)

-- an entry that the table takes
pub firsts_more : (c : Cat) (ps : List Place) (table : List (Option Spot)) (s : Spot) → is_new c table (place_of s) ≡ true → AreFirsts c ps table
    → AreFirsts c (ps ++ place_of s ∷ []) (set table (s.entry.now.fid.num - 1) (Some s))
firsts_more c ps table s new first = record {
  long = length-set table (s.entry.now.fid.num - 1) (Some s) ∙ first.long;
  each = λ n from to.
      elim (cases_eq (place_of s).entry.fid.num n) [
        | inl same ↦ at_it c ps table s n new first from (subst (λ (k : ℕ). n ≤ k) (length-set table (s.entry.now.fid.num - 1) (Some s)) to) same
        | inr other ↦ elsewhere c ps table s n new first from (subst (λ (k : ℕ). n ≤ k) (length-set table (s.entry.now.fid.num - 1) (Some s)) to) other
      ];
}

in_none : (n : ℕ) (o : Option File) → None ≡ first_in [] n o
in_none n None = refl
in_none n (Some f) = refl

-- no entry is looked at yet
pub firsts_none : (c : Cat) (table : List (Option Spot)) → length table ≡ length c.files → ((i : ℕ) → i < length table → get_or table i None ≡ None)
    → AreFirsts c [] table
firsts_none c table long none = record {
  long = long;
  each = λ n from to. ap place_in (none (n - 1) (omega arith)) ∙ in_none n (file_at c n);
}

-- one entry more
pub map_more : (xs : List Spot) (i : ℕ) (x : Spot) → i < length xs → x ≡ get_or xs i x
    → map place_of (take (i + 1) xs) ≡ map place_of (take i xs) ++ place_of x ∷ []
map_more xs i x lt is =
    ap (map place_of) (take_more xs i x lt ∙ ap (λ (y : Spot). take i xs ++ y ∷ []) (sym is)) ∙ map-append place_of (take i xs) (x ∷ [])

-- one entry more that passes a test
pub passing_more : (p : Place → Bool) (ps : List Place) (x : Place) → p x ≡ true → filter p (ps ++ x ∷ []) ≡ filter p ps ++ x ∷ []
passing_more p ps x h =
    filter-append p ps (x ∷ []) ∙ ap (λ (b : Bool). filter p ps ++ cond b (x ∷ []) []) h

-- and one that fails it
pub passing_same : (p : Place → Bool) (ps : List Place) (x : Place) → p x ≡ false → filter p (ps ++ x ∷ []) ≡ filter p ps
passing_same p ps x h =
    filter-append p ps (x ∷ []) ∙ (ap (λ (b : Bool). filter p ps ++ cond b (x ∷ []) []) h ∙ append-nil (filter p ps))
