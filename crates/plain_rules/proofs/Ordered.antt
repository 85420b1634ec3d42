-- Entries and quota rows in order: with one more, with fewer, and each changed.
use Rattle.std.proofs.Common.{◌≡◌, ◌⊎◌, ◌&&◌, ◌||◌, ◌==◌, ◌+◌, ◌<◌, not, nat_lt, cond, Bool, true, false, ℕ, List, [], ◌∷◌, Option, Some, None, map, is_some, refl, sym, ap, subst, ◌∙◌, inl, inr, arith}
use Rattle.std.specs.Prelude.{filter}
use Rattle.std.specs.List.{list_all}
use Rattle.std.specs.Str.{bytes_eq}
use Rattle.std.proofs.lemmas.Bool.Decides.{nat_tests}
use Rattle.std.proofs.lemmas.Slice.Eq.{bytes_eq-Decides}
use Rattle.plain_cat.specs.declared.ids.Uic.{Uic}
use Rattle.plain_cat.specs.declared.entries.DirEnt.{DirEnt}
use Rattle.plain_cat.specs.declared.cat.QuotaRow.{QuotaRow}
use Rattle.plain_rules.specs.Lookups.{versions, highest, first_with, row_of}
use Rattle.plain_rules.specs.Directories.{lower, before, inserted, is_entry, is_nil, is_taken}
use Rattle.plain_rules.specs.Changes.{with_row}
use Rattle.plain_rules.specs.OneForm.{rises, owners_rise}

and_cases : (a b : Bool) → (a && b) ≡ true → (a ≡ true) × (b ≡ true)
and_cases true b e = (refl, e)
and_cases false b e = absurd (cc e)

both : (a b : Bool) → a ≡ true → b ≡ true → (a && b) ≡ true
both true b e f = f
both false b e f = absurd (cc e)

pub or_cases : (a b : Bool) → (a || b) ≡ true → (a ≡ true) ⊎ (b ≡ true)
or_cases true b e = inl refl
or_cases false b e = inr e

or_false : (a b : Bool) → (a || b) ≡ false → (a ≡ false) × (b ≡ false)
or_false true b e = absurd (cc e)
or_false false b e = (refl, e)

or_left : (a b : Bool) → a ≡ true → (a || b) ≡ true
or_left true b e = refl
or_left false b e = absurd (cc e)

pub or_right : (a b : Bool) → b ≡ true → (a || b) ≡ true
or_right true b e = refl
or_right false b e = e

true_or : (b : Bool) → (b ≡ true) ⊎ (b ≡ false)
true_or true = inl refl
true_or false = inr refl

not_true : (b : Bool) → not b ≡ true → b ≡ false
not_true true e = absurd (cc e)
not_true false e = refl

-- ---- the order of names and entries

pub eq_refl : (n : ℕ) → (n == n) ≡ true
eq_refl n = grind (arith, nat_tests)

pub eq_is : (n m : ℕ) → (n == m) ≡ true → n ≡ m
eq_is n m e = grind (arith, nat_tests)

lt_no : (n : ℕ) → nat_lt n n ≡ false
lt_no n = grind (arith, nat_tests)

pub lt_trans : (x y z : ℕ) → nat_lt x y ≡ true → nat_lt y z ≡ true → nat_lt x z ≡ true
lt_trans x y z e f = grind (arith, nat_tests)

three : (x y : ℕ) → nat_lt x y ≡ false → (x == y) ≡ false → nat_lt y x ≡ true
three x y e f = grind (arith, nat_tests)

bytes_refl : (n : List ℕ) → bytes_eq n n ≡ true
bytes_refl n = grind (arith, bytes_eq-Decides)

bytes_is : (n m : List ℕ) → bytes_eq n m ≡ true → n ≡ m
bytes_is n m e = grind (arith, bytes_eq-Decides)

lower_no : (n : List ℕ) → lower n n ≡ false
lower_no [] = refl
lower_no (x ∷ xs) = step (nat_lt x x) (x == x) (lower xs xs) (lt_no x) (lower_no xs) where
  step : (a b d : Bool) → a ≡ false → d ≡ false → (a || (b && d)) ≡ false
  step true b d e f = e
  step false true d e f = f
  step false false d e f = refl

lower_total : (n m : List ℕ) → bytes_eq n m ≡ false → lower n m ≡ false → lower m n ≡ true
lower_total [] [] e f = absurd (let g : true ≡ false = e in cc g)
lower_total [] (y ∷ ys) e f = absurd (cc f)
lower_total (x ∷ xs) [] e f = refl
lower_total (x ∷ xs) (y ∷ ys) e f =
    let p = or_false (nat_lt x y) ((x == y) && lower xs ys) f in
    elim (true_or (x == y)) [
      | inr ne ↦ or_left (nat_lt y x) _ (three x y p.0 ne)
      | inl h ↦ (
          let xy : x ≡ y = eq_is x y h in
          let e2 : bytes_eq xs ys ≡ false = subst (λ (q : Bool). (q && bytes_eq xs ys) ≡ false) h e in
          let f2 : lower xs ys ≡ false = subst (λ (q : Bool). (q && lower xs ys) ≡ false) h p.1 in
          or_right (nat_lt y x) _ (both _ _ (subst (λ (q : ℕ). (q == x) ≡ true) xy (eq_refl x)) (lower_total xs ys e2 f2))
          )
    ]

lower_trans : (a b c : List ℕ) → lower a b ≡ true → lower b c ≡ true → lower a c ≡ true
lower_trans [] [] c e f = absurd (cc e)
lower_trans [] (y ∷ ys) [] e f = absurd (cc f)
lower_trans [] (y ∷ ys) (z ∷ zs) e f = refl
lower_trans (x ∷ xs) [] c e f = absurd (cc e)
lower_trans (x ∷ xs) (y ∷ ys) [] e f = absurd (cc f)
lower_trans (x ∷ xs) (y ∷ ys) (z ∷ zs) e f = elim (or_cases (nat_lt x y) _ e) [
  | inl h ↦ elim (or_cases (nat_lt y z) _ f) [
    | inl k ↦ or_left (nat_lt x z) _ (lt_trans x y z h k)
    | inr k ↦ or_left (nat_lt x z) _ (subst (λ (q : ℕ). nat_lt x q ≡ true) (eq_is y z (and_cases _ _ k).0) h)
  ]
  | inr h ↦ elim (or_cases (nat_lt y z) _ f) [
    | inl k ↦ or_left (nat_lt x z) _ (subst (λ (q : ℕ). nat_lt q z ≡ true) (sym (eq_is x y (and_cases _ _ h).0)) k)
    | inr k ↦ or_right (nat_lt x z) _ (both _ _ (subst (λ (q : ℕ). (x == q) ≡ true) (eq_is x y (and_cases _ _ h).0 ∙ eq_is y z (and_cases _ _ k).0) (eq_refl x)) (lower_trans xs ys zs (and_cases _ _ h).1 (and_cases _ _ k).1))
  ]
]

before_total : (a b : DirEnt) → is_entry a.name a.ver b ≡ false → before a b ≡ false → before b a ≡ true
unfolding is_entry before
before_total a b e f =
    let p = or_false (lower a.name b.name) _ f in
    elim (true_or (bytes_eq b.name a.name)) [
      | inr ne ↦ or_left (lower b.name a.name) _ (lower_total a.name b.name (apart ne) p.0)
      | inl h ↦ (
          let n : b.name ≡ a.name = bytes_is b.name a.name h in
          let back : bytes_eq a.name b.name ≡ true = subst (λ (q : List ℕ). bytes_eq q b.name ≡ true) n (bytes_refl b.name) in
          let e2 : (b.ver == a.ver) ≡ false = subst (λ (q : Bool). (q && (b.ver == a.ver)) ≡ false) h e in
          let f2 : nat_lt b.ver a.ver ≡ false = subst (λ (q : Bool). (q && nat_lt b.ver a.ver) ≡ false) back p.1 in
          or_right (lower b.name a.name) _ (both _ _ h (three b.ver a.ver f2 e2))
          )
    ] where
      apart : bytes_eq b.name a.name ≡ false → bytes_eq a.name b.name ≡ false
      apart ne = elim (true_or (bytes_eq a.name b.name)) [
        | inr f ↦ f
        | inl t ↦ (
            let n : a.name ≡ b.name = bytes_is a.name b.name t in
            let same : bytes_eq b.name a.name ≡ true = subst (λ (q : List ℕ). bytes_eq q a.name ≡ true) n (bytes_refl a.name) in
            let clash : true ≡ false = sym same ∙ ne in
            absurd (cc clash)
            )
      ]

before_trans : (a b c : DirEnt) → before a b ≡ true → before b c ≡ true → before a c ≡ true
unfolding before
before_trans a b c e f = elim (or_cases (lower a.name b.name) _ e) [
  | inl h ↦ elim (or_cases (lower b.name c.name) _ f) [
    | inl k ↦ or_left (lower a.name c.name) _ (lower_trans a.name b.name c.name h k)
    | inr k ↦ or_left (lower a.name c.name) _ (subst (λ (q : List ℕ). lower a.name q ≡ true) (bytes_is b.name c.name (and_cases _ _ k).0) h)
  ]
  | inr h ↦ elim (or_cases (lower b.name c.name) _ f) [
    | inl k ↦ or_left (lower a.name c.name) _ (subst (λ (q : List ℕ). lower q c.name ≡ true) (sym (bytes_is a.name b.name (and_cases _ _ h).0)) k)
    | inr k ↦ or_right (lower a.name c.name) _ (both _ _ (subst (λ (q : List ℕ). bytes_eq a.name q ≡ true) (bytes_is a.name b.name (and_cases _ _ h).0 ∙ bytes_is b.name c.name (and_cases _ _ k).0) (bytes_refl a.name)) (lt_trans c.ver b.ver a.ver (and_cases _ _ k).1 (and_cases _ _ h).1))
  ]
]

-- ---- entries in order

-- what each has, each of fewer has
all_kept : {X : Type 0} (p q : X → Bool) (xs : List X) → list_all p xs ≡ true → list_all p (filter q xs) ≡ true
all_kept p q [] h = refl
all_kept p q (x ∷ xs) h = let k = and_cases (p x) (list_all p xs) h in step (q x) k.0 (all_kept p q xs k.1) where
  step : (b : Bool) → p x ≡ true → list_all p (filter q xs) ≡ true → list_all p (cond b (x ∷ filter q xs) (filter q xs)) ≡ true
  step true h k = both (p x) (list_all p (filter q xs)) h k
  step false h k = k

-- fewer entries stay in order
pub rises_kept : (q : DirEnt → Bool) (es : List DirEnt) → rises es ≡ true → rises (filter q es) ≡ true
rises_kept q [] h = refl
rises_kept q (e ∷ es) h =
    let k = and_cases (list_all (before e) es) (rises es) h in step (q e) (all_kept (before e) q es k.0) (rises_kept q es k.1) where
      step : (b : Bool) → list_all (before e) (filter q es) ≡ true → rises (filter q es) ≡ true → rises (cond b (e ∷ filter q es) (filter q es)) ≡ true
      step true h k = both (list_all (before e) (filter q es)) (rises (filter q es)) h k
      step false h k = k

all_behind : (e x : DirEnt) (es : List DirEnt) → before e x ≡ true → list_all (before x) es ≡ true → list_all (before e) es ≡ true
all_behind e x [] h k = refl
all_behind e x (y ∷ es) h k =
    let p = and_cases (before x y) (list_all (before x) es) k in
    both (before e y) (list_all (before e) es) (before_trans e x y h p.0) (all_behind e x es h p.1)

all_inserted : (p : DirEnt → Bool) (e : DirEnt) (es : List DirEnt) → p e ≡ true → list_all p es ≡ true → list_all p (inserted e es) ≡ true
all_inserted p e [] h k = both (p e) true h refl
all_inserted p e (x ∷ es) h k =
    let l = and_cases (p x) (list_all p es) k in step (before e x) l.0 l.1 (all_inserted p e es h l.1) where
      step : (b : Bool) → p x ≡ true → list_all p es ≡ true → list_all p (inserted e es) ≡ true → list_all p (cond b (e ∷ x ∷ es) (x ∷ inserted e es)) ≡ true
      step true l m n = both (p e) (p x && list_all p es) h (both (p x) (list_all p es) l m)
      step false l m n = both (p x) (list_all p (inserted e es)) l n

-- no entry has this name and version
abbrev pub is_absent : List ℕ → ℕ → List DirEnt → Bool
is_absent name ver es = list_all (λ x. not (is_entry name ver x)) es

-- one entry more, of a name and version that none has, stays in order
pub rises_inserted : (e : DirEnt) (es : List DirEnt) → rises es ≡ true → is_absent e.name e.ver es ≡ true → rises (inserted e es) ≡ true
rises_inserted e [] h k = refl
rises_inserted e (x ∷ es) h k =
    let p = and_cases (list_all (before x) es) (rises es) h in
    let q = and_cases (not (is_entry e.name e.ver x)) (is_absent e.name e.ver es) k in
    step (before e x) refl p.0 p.1 (not_true (is_entry e.name e.ver x) q.0) (rises_inserted e es p.1 q.1) where
      step : (b : Bool) → before e x ≡ b → list_all (before x) es ≡ true → rises es ≡ true → is_entry e.name e.ver x ≡ false → rises (inserted e es) ≡ true
          → rises (cond b (e ∷ x ∷ es) (x ∷ inserted e es)) ≡ true
      step true is above rest other more =
          both (before e x && list_all (before e) es) (list_all (before x) es && rises es)
          (both (before e x) (list_all (before e) es) is (all_behind e x es is above)) (both (list_all (before x) es) (rises es) above rest)
      step false is above rest other more =
          both (list_all (before x) (inserted e es)) (rises (inserted e es)) (all_inserted (before x) e es (before_total e x other is) above) more

-- ---- what is not there

-- a version that is not taken among those of its name is not there
pub untaken_absent : (name : List ℕ) (ver : ℕ) (es : List DirEnt) → is_taken ver (versions name es) ≡ false → is_absent name ver es ≡ true
unfolding is_entry
untaken_absent name ver [] h = refl
untaken_absent name ver (e ∷ es) h = by_name (bytes_eq e.name name) (untaken_absent name ver es) h where
  by_version : (t : Bool) → (is_taken ver (versions name es) ≡ false → is_absent name ver es ≡ true) → is_some (cond t (Some e) (first_with ver (versions name es))) ≡ false
      → (not t && is_absent name ver es) ≡ true
  by_version true more k = absurd (cc k)
  by_version false more k = more k

  by_name : (b : Bool) → (is_taken ver (versions name es) ≡ false → is_absent name ver es ≡ true)
      → is_some (first_with ver (cond b (e ∷ versions name es) (versions name es))) ≡ false → (not (b && (e.ver == ver)) && is_absent name ver es) ≡ true
  by_name true more k = by_version (e.ver == ver) more k
  by_name false more k = more k

nil_untaken : (ver : ℕ) (vs : List DirEnt) → is_nil vs ≡ true → is_taken ver vs ≡ false
nil_untaken ver [] h = refl
nil_untaken ver (e ∷ es) h = absurd (cc h)

-- a name that no entry has is not there
pub unnamed_absent : (name : List ℕ) (ver : ℕ) (es : List DirEnt) → is_nil (versions name es) ≡ true → is_absent name ver es ≡ true
unnamed_absent name ver es h = untaken_absent name ver es (nil_untaken ver (versions name es) h)

-- what is not there is not there among fewer
pub absent_kept : (name : List ℕ) (ver : ℕ) (q : DirEnt → Bool) (es : List DirEnt) → is_absent name ver es ≡ true → is_absent name ver (filter q es) ≡ true
absent_kept name ver q es h = all_kept (λ x. not (is_entry name ver x)) q es h

named : (name : List ℕ) (es : List DirEnt) → list_all (λ (x : DirEnt). bytes_eq x.name name) (versions name es) ≡ true
named name [] = refl
named name (e ∷ es) = step (bytes_eq e.name name) refl (named name es) where
  step : (b : Bool) → bytes_eq e.name name ≡ b → list_all (λ (x : DirEnt). bytes_eq x.name name) (versions name es) ≡ true
      → list_all (λ (x : DirEnt). bytes_eq x.name name) (cond b (e ∷ versions name es) (versions name es)) ≡ true
  step true is more = both (bytes_eq e.name name) _ is more
  step false is more = more

-- of one name, what comes behind is a lower version
lower_version : (name : List ℕ) (e x : DirEnt) → bytes_eq e.name name ≡ true → bytes_eq x.name name ≡ true → before e x ≡ true → x.ver < e.ver
unfolding before
lower_version name e x h k b =
    let n : e.name ≡ x.name = bytes_is e.name name h ∙ sym (bytes_is x.name name k) in
    let l : lower e.name x.name ≡ false = subst (λ (m : List ℕ). lower e.name m ≡ false) n (lower_no e.name) in
    elim (or_cases (lower e.name x.name) _ b) [
      | inl t ↦ (let clash : true ≡ false = sym t ∙ l in absurd (cc clash))
      | inr t ↦ (let v = (and_cases (bytes_eq e.name x.name) (nat_lt x.ver e.ver) t).1 in grind (arith, nat_tests))
    ]

none_above : (name : List ℕ) (e : DirEnt) (m : ℕ) (es : List DirEnt) → bytes_eq e.name name ≡ true → list_all (λ (x : DirEnt). bytes_eq x.name name) es ≡ true
    → list_all (before e) es ≡ true → e.ver < m → is_taken m es ≡ false
none_above name e m [] h k b lt = refl
none_above name e m (x ∷ es) h k b lt =
    let p = and_cases (bytes_eq x.name name) (list_all (λ (y : DirEnt). bytes_eq y.name name) es) k in
    let q = and_cases (before e x) (list_all (before e) es) b in
    let below : x.ver < e.ver = lower_version name e x h p.0 q.0 in
    let other : (x.ver == m) ≡ false = grind (arith, nat_tests) in
    ap (λ (t : Bool). is_some (cond t (Some x) (first_with m es))) other ∙ none_above name e m es h p.1 q.1 lt

next_untaken : (name : List ℕ) (vs : List DirEnt) → list_all (λ (x : DirEnt). bytes_eq x.name name) vs ≡ true → rises vs ≡ true → is_taken (highest vs + 1) vs ≡ false
next_untaken name [] h k = refl
next_untaken name (e ∷ es) h k =
    let p = and_cases (bytes_eq e.name name) (list_all (λ (y : DirEnt). bytes_eq y.name name) es) h in
    let q = and_cases (list_all (before e) es) (rises es) k in
    let other : (e.ver == e.ver + 1) ≡ false = grind (arith, nat_tests) in
    ap (λ (t : Bool). is_some (cond t (Some e) (first_with (e.ver + 1) es))) other ∙ none_above name e (e.ver + 1) es p.0 p.1 q.0 (omega arith)

-- one more than the highest version is not there
pub next_absent : (name : List ℕ) (es : List DirEnt) → rises es ≡ true → is_absent name (highest (versions name es) + 1) es ≡ true
next_absent name es h =
    untaken_absent name (highest (versions name es) + 1) es (next_untaken name (versions name es) (named name es) (rises_kept (λ e. bytes_eq e.name name) es h))

-- ---- rows in order

abbrev is_above : ℕ → List QuotaRow → Bool
is_above m rs = list_all (λ q. nat_lt m q.owner.0) rs

above_map : (m : ℕ) (g : QuotaRow → QuotaRow) → ((r : QuotaRow) → (g r).owner ≡ r.owner) → (rs : List QuotaRow) → is_above m rs ≡ true → is_above m (map g rs) ≡ true
above_map m g same [] h = refl
above_map m g same (r ∷ rs) h =
    let p = and_cases (nat_lt m r.owner.0) (is_above m rs) h in
    both (nat_lt m (g r).owner.0) (is_above m (map g rs)) (subst (λ (u : Uic). nat_lt m u.0 ≡ true) (sym (same r)) p.0) (above_map m g same rs p.1)

-- rows that keep their owners stay in order
pub rows_map : (g : QuotaRow → QuotaRow) → ((r : QuotaRow) → (g r).owner ≡ r.owner) → (rs : List QuotaRow) → owners_rise rs ≡ true → owners_rise (map g rs) ≡ true
rows_map g same [] h = refl
rows_map g same (r ∷ rs) h =
    let p = and_cases (is_above r.owner.0 rs) (owners_rise rs) h in
    both (is_above (g r).owner.0 (map g rs)) (owners_rise (map g rs))
    (subst (λ (u : Uic). is_above u.0 (map g rs) ≡ true) (sym (same r)) (above_map r.owner.0 g same rs p.0)) (rows_map g same rs p.1)

above_trans : (m n : ℕ) (rs : List QuotaRow) → nat_lt m n ≡ true → is_above n rs ≡ true → is_above m rs ≡ true
above_trans m n [] h k = refl
above_trans m n (r ∷ rs) h k =
    let p = and_cases (nat_lt n r.owner.0) (is_above n rs) k in
    both (nat_lt m r.owner.0) (is_above m rs) (lt_trans m n r.owner.0 h p.0) (above_trans m n rs h p.1)

above_with : (m : ℕ) (row : QuotaRow) (rs : List QuotaRow) → nat_lt m row.owner.0 ≡ true → is_above m rs ≡ true → is_above m (with_row row rs) ≡ true
above_with m row [] h k = both (nat_lt m row.owner.0) true h refl
above_with m row (r ∷ rs) h k =
    let p = and_cases (nat_lt m r.owner.0) (is_above m rs) k in step (nat_lt row.owner.0 r.owner.0) p.0 p.1 (above_with m row rs h p.1) where
      step : (b : Bool) → nat_lt m r.owner.0 ≡ true → is_above m rs ≡ true → is_above m (with_row row rs) ≡ true → is_above m (cond b (row ∷ r ∷ rs) (r ∷ with_row row rs)) ≡ true
      step true l n more = both (nat_lt m row.owner.0) (nat_lt m r.owner.0 && is_above m rs) h (both (nat_lt m r.owner.0) (is_above m rs) l n)
      step false l n more = both (nat_lt m r.owner.0) (is_above m (with_row row rs)) l more

pub none_either : (b : Bool) (r : QuotaRow) (o : Option QuotaRow) → cond b (Some r) o ≡ None → (b ≡ false) × (o ≡ None)
none_either true r o h = absurd (cc h)
none_either false r o h = (refl, h)

-- and so do they with one more, of an owner that has none
pub rows_with : (row : QuotaRow) (rs : List QuotaRow) → row_of row.owner rs ≡ None → owners_rise rs ≡ true → owners_rise (with_row row rs) ≡ true
rows_with row [] none h = refl
rows_with row (r ∷ rs) none h =
    let p = and_cases (is_above r.owner.0 rs) (owners_rise rs) h in
    let q = none_either (r.owner.0 == row.owner.0) r (row_of row.owner rs) none in
    step (nat_lt row.owner.0 r.owner.0) refl q.0 p.0 p.1 (rows_with row rs q.1 p.1) where
      step : (b : Bool) → nat_lt row.owner.0 r.owner.0 ≡ b → (r.owner.0 == row.owner.0) ≡ false → is_above r.owner.0 rs ≡ true → owners_rise rs ≡ true
          → owners_rise (with_row row rs) ≡ true → owners_rise (cond b (row ∷ r ∷ rs) (r ∷ with_row row rs)) ≡ true
      step true is other above rest more =
          both (nat_lt row.owner.0 r.owner.0 && is_above row.owner.0 rs) (is_above r.owner.0 rs && owners_rise rs)
          (both (nat_lt row.owner.0 r.owner.0) (is_above row.owner.0 rs) is (above_trans row.owner.0 r.owner.0 rs is above)) (both (is_above r.owner.0 rs) (owners_rise rs) above rest)
      step false is other above rest more =
          let up : nat_lt r.owner.0 row.owner.0 ≡ true = grind (arith, nat_tests) in
          both (is_above r.owner.0 (with_row row rs)) (owners_rise (with_row row rs)) (above_with r.owner.0 row rs up above) more
