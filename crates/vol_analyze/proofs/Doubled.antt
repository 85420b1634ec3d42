-- An entry of a directory stands in two of its blocks exactly where the blocks have more entries than the directory.
use Rattle.std.proofs.Common.{◌≡◌, ◌≤◌, ◌+◌, ◌∙◌, ◌++◌, ◌||◌, Bool, true, false, not, List, [], ◌∷◌, length, refl, sym, ap, subst, inl, inr, cond, append_assoc, append-nil, arith, length-append}
use Rattle.std.proofs.lemmas.Bool.{false≢true, le-ltb, lt-ltb, cases_lt}
use Rattle.std.specs.Prelude.{nat_lt}
use Rattle.std.specs.List.{list_any}
use Rattle.fx_dir.specs.declared.RawEnt.{RawEnt}
use Rattle.fx_dir.specs.Lists.{joined}
use Rattle.fx_dir.specs.Entries.{same, has, fresh}
use Rattle.fx_dir.proofs.Meeting.{met}
use Rattle.fx_dir.proofs.Order.{same-self, same-both}
use Rattle.fx_dir.proofs.Cover.{has-append}
use Rattle.fx_dir.proofs.Finding.{neither}
use Rattle.fx_dir.specs.Laws.{has_double}

-- some of these entries are among those met
abbrev pub crosses : List RawEnt → List RawEnt → Bool
crosses d xs = list_any (has d) xs

or_false : (p q : Bool) → p ≡ false → q ≡ false → (p || q) ≡ false
or_false false q h k = k
or_false true q h k = h

or_true : (p q : Bool) → q ≡ true → (p || q) ≡ true
or_true true q h = refl
or_true false q h = h

same-back : (a b : RawEnt) → same a b ≡ true → same b a ≡ true
same-back a b h = same-both a a b (same-self a) h

same-other : (a b : RawEnt) → same a b ≡ false → same b a ≡ false
same-other a b h = go (same b a) refl where
  go : (t : Bool) → t ≡ same b a → t ≡ false
  go false e = refl
  go true e = absurd (false≢true (sym h ∙ same-back b a (sym e)))

or_step : (p r q s : Bool) → r ≡ (q || s) → (p || r) ≡ ((p || q) || s)
or_step true r q s e = refl
or_step false r q s e = e

crosses-append : (d xs ys : List RawEnt) → crosses d (xs ++ ys) ≡ (crosses d xs || crosses d ys)
crosses-append d [] ys = refl
crosses-append d (x ∷ xs) ys = or_step (has d x) (crosses d (xs ++ ys)) (crosses d xs) (crosses d ys) (crosses-append d xs ys)

-- none of ys is among b, and then none of b is among ys
head-none : (x : RawEnt) (ys : List RawEnt) (b : List RawEnt) → crosses (x ∷ b) ys ≡ false → has ys x ≡ false
head-none x [] b h = refl
head-none x (y ∷ ys) b h =
    let r = neither (same y x || has b y) (crosses (x ∷ b) ys) h in
    or_false (same x y) (has ys x) (same-other y x (neither (same y x) (has b y) r.0).0) (head-none x ys b r.1)

tail-none : (x : RawEnt) (ys : List RawEnt) (b : List RawEnt) → crosses (x ∷ b) ys ≡ false → crosses b ys ≡ false
tail-none x [] b h = refl
tail-none x (y ∷ ys) b h =
    let r = neither (same y x || has b y) (crosses (x ∷ b) ys) h in
    or_false (has b y) (crosses b ys) (neither (same y x) (has b y) r.0).1 (tail-none x ys b r.1)

crosses-back : (b ys : List RawEnt) → crosses b ys ≡ false → crosses ys b ≡ false
crosses-back [] ys h = refl
crosses-back (x ∷ b) ys h = or_false (has ys x) (crosses ys b) (head-none x ys b h) (crosses-back b ys (tail-none x ys b h))

crosses-both : (d b ys : List RawEnt) → crosses d ys ≡ false → crosses b ys ≡ false → crosses (d ++ b) ys ≡ false
crosses-both d b [] h k = refl
crosses-both d b (y ∷ ys) h k =
    let r = neither (has d y) (crosses d ys) h in
    let s = neither (has b y) (crosses b ys) k in
    or_false (has (d ++ b) y) (crosses (d ++ b) ys) (has-append d b y ∙ or_false (has d y) (has b y) r.0 s.0) (crosses-both d b ys r.1 s.1)

crosses-each : (d b ys : List RawEnt) → crosses (d ++ b) ys ≡ false → (crosses d ys ≡ false) × (crosses b ys ≡ false)
crosses-each d b [] h = (refl, refl)
crosses-each d b (y ∷ ys) h =
    let r = neither (has (d ++ b) y) (crosses (d ++ b) ys) h in
    let s = neither (has d y) (has b y) (sym (has-append d b y) ∙ r.0) in
    let t = crosses-each d b ys r.1 in
    (or_false (has d y) (crosses d ys) s.0 t.0, or_false (has b y) (crosses b ys) s.1 t.1)

pub fresh-clean : (d b : List RawEnt) → crosses d b ≡ false → fresh d b ≡ b
fresh-clean d [] h = refl
fresh-clean d (e ∷ b) h = let r = neither (has d e) (crosses d b) h in rw (r.0) (ap (λ (t : List RawEnt). e ∷ t) (fresh-clean d b r.1))

fresh-length : (d b : List RawEnt) → length (fresh d b) ≤ length b
fresh-length d [] = omega arith
fresh-length d (e ∷ b) = go (has d e) (fresh-length d b) where
  go : (p : Bool) → length (fresh d b) ≤ length b → length (cond (not p) (e ∷ fresh d b) (fresh d b)) ≤ length (e ∷ b)
  go true h = omega arith
  go false h = omega arith

fresh-whole : (d b : List RawEnt) → length b ≤ length (fresh d b) → crosses d b ≡ false
fresh-whole d [] h = refl
fresh-whole d (e ∷ b) h = go (has d e) (fresh-whole d b) h where
  go : (p : Bool) → (length b ≤ length (fresh d b) → crosses d b ≡ false)
      → length (e ∷ b) ≤ length (cond (not p) (e ∷ fresh d b) (fresh d b)) → (p || crosses d b) ≡ false
  go true ih h = absurd (omega (arith, fresh-length d b))
  go false ih h = ih (omega arith)

-- nothing is met twice: all entries are kept
met-clean : (d : List RawEnt) (gs : List (List RawEnt)) → crosses d (joined gs) ≡ false → has_double gs ≡ false → met d gs ≡ d ++ joined gs
met-clean d [] h k = sym (append-nil d)
met-clean d (b ∷ gs) h k =
    let r = neither (crosses d b) (crosses d (joined gs)) (sym (crosses-append d b (joined gs)) ∙ h) in
    let s = neither (crosses (joined gs) b) (has_double gs) k in
    let e : fresh d b ≡ b = fresh-clean d b r.0 in
    ap (λ (t : List RawEnt). met (d ++ t) gs) e
    ∙ (met-clean (d ++ b) gs (crosses-both d b (joined gs) r.1 (crosses-back (joined gs) b s.0)) s.1
    ∙ append_assoc d b (joined gs))

met-length : (d : List RawEnt) (gs : List (List RawEnt)) → length (met d gs) ≤ length d + length (joined gs)
met-length d [] = omega arith
met-length d (b ∷ gs) =
    omega (arith, met-length (d ++ fresh d b) gs, length-append d (fresh d b), length-append b (joined gs), fresh-length d b)

-- all entries are kept: nothing is met twice
met-whole : (d : List RawEnt) (gs : List (List RawEnt)) → length d + length (joined gs) ≤ length (met d gs)
    → (crosses d (joined gs) ≡ false) × (has_double gs ≡ false)
met-whole d [] h = (refl, refl)
met-whole d (b ∷ gs) h =
    let front : crosses d b ≡ false =
    fresh-whole d b (omega (arith, met-length (d ++ fresh d b) gs, length-append d (fresh d b), length-append b (joined gs))) in
    let e : fresh d b ≡ b = fresh-clean d b front in
    let long : length (d ++ b) + length (joined gs) ≤ length (met (d ++ b) gs) =
    subst (λ (t : List RawEnt). length (d ++ b) + length (joined gs) ≤ length (met (d ++ t) gs)) e
    (omega (arith, length-append d b, length-append b (joined gs))) in
    let r = met-whole (d ++ b) gs long in
    let s = crosses-each d b (joined gs) r.0 in (
      crosses-append d b (joined gs) ∙ or_false (crosses d b) (crosses d (joined gs)) front s.0,
      or_false (crosses (joined gs) b) (has_double gs) (crosses-back b (joined gs) s.1) r.1,
    )

pub none-crosses : (xs : List RawEnt) → crosses [] xs ≡ false
none-crosses [] = refl
none-crosses (x ∷ xs) = none-crosses xs

-- a double stands exactly where the blocks have more entries than are met
pub doubled_is : (gs : List (List RawEnt)) → nat_lt (length (met [] gs)) (length (joined gs)) ≡ has_double gs
doubled_is gs = go (has_double gs) refl where
  go : (t : Bool) → t ≡ has_double gs → nat_lt (length (met [] gs)) (length (joined gs)) ≡ t
  go false h = le-ltb (length (met [] gs)) (length (joined gs)) (omega (arith, ap length (met-clean [] gs (none-crosses (joined gs)) (sym h))))
  go true h = elim (cases_lt (length (met [] gs)) (length (joined gs))) [
    | inl less ↦ lt-ltb (length (met [] gs)) (length (joined gs)) less
    | inr whole ↦ absurd (false≢true (sym (met-whole [] gs (omega arith)).1 ∙ sym h))
  ]
