-- Filling blocks entry by entry packs them.
use Rattle.std.proofs.Common.{◌≡◌, ◌∙◌, ◌+◌, ◌-◌, ◌≤◌, ℕ, zero, suc, Bool, true, false, cond, List, [], ◌∷◌, Option, Some, None, leb, not, refl, sym, ap, arith}
use Rattle.std.specs.Prelude.{◌==◌, ◌||◌, ◌&&◌}
use Rattle.std.proofs.lemmas.Bool.Decides.{nat_tests}
use Rattle.base_words.specs.Packing.{cost, unfilled, over}
use Rattle.fx_dir.specs.declared.RawEnt.{RawEnt}
use Rattle.fx_dir.specs.Entries.{before}
use Rattle.fx_dir.specs.Moves.{inserted, key}
use Rattle.fx_dir.specs.Writing.{name_of}
use Rattle.fx_dir.specs.Filling.{Filled, in_next, pushed, filled_by, is_first, Tried, taken_in}
use Rattle.fx_dir.specs.Room.{is_none_left, has_room}

abbrev at : ℕ → ℕ → Option (List ℕ) → Filled
at k used last = record { behind = k; used = used; last = last; full = false }

-- ---- one entry after the other

-- where an entry had no room it stays so
stuck : (k used : ℕ) (last : Option (List ℕ)) (es : List RawEnt) → (filled_by (record { behind = k; used = used; last = last; full = true }) es).full ≡ true
unfolding pushed
stuck k used last [] = refl
stuck k used last (e ∷ es) = stuck k used last es

pub none_over : (k : ℕ) → over name_of k [] ≡ []
none_over zero = refl
none_over (suc k) = none_over k

-- the first entry in an empty block
begun : (k : ℕ) (e : RawEnt) (es : List RawEnt) → over name_of (suc k) (e ∷ es) ≡ over name_of k (cond (leb (cost None e.name) 510) (unfilled name_of (Some e.name) (cost None e.name) es) (e ∷ es))
begun k e es =
    let z : 0 + cost None e.name ≡ cost None e.name = omega arith in
    ap (λ n. over name_of k (cond (leb n 510) (unfilled name_of (Some e.name) n es) (e ∷ es))) z

-- an entry that has no room in an empty block has none at all
never : (k : ℕ) (e : RawEnt) (es : List RawEnt) → leb (cost None e.name) 510 ≡ false → over name_of k (e ∷ es) ≡ e ∷ es
never zero e es h = refl
never (suc k) e es h = begun k e es ∙ ap (λ t. over name_of k (cond t (unfilled name_of (Some e.name) (cost None e.name) es) (e ∷ es))) h ∙ never k e es h

abbrev IsRoom : List RawEnt → Type 0
IsRoom es = (k used : ℕ) (last : Option (List ℕ)) → (filled_by (at k used last) es).full ≡ not (is_none_left (over name_of k (unfilled name_of last used es)))

in_one_more : (k used : ℕ) (last : Option (List ℕ)) (name : List ℕ)
    → in_next (at (suc k) used last) name ≡ cond {A = Filled} (not (leb (cost None name) 510)) (record { behind = suc k; used = used; last = last; full = true }) (at k (cost None name) (Some name))
in_one_more k used last name =
    let some : (suc k == 0) ≡ false = grind (arith, nat_tests) in
    let less : suc k - 1 ≡ k = omega arith in
    ap (λ (b : Bool). cond {A = Filled} (b || not (leb (cost None name) 510)) (record { behind = suc k; used = used; last = last; full = true }) (at (suc k - 1) (cost None name) (Some name))) some
    ∙ ap (λ (m : ℕ). cond {A = Filled} (not (leb (cost None name) 510)) (record { behind = suc k; used = used; last = last; full = true }) (at m (cost None name) (Some name))) less

-- the entry begins the next block
next_room : (k used : ℕ) (last : Option (List ℕ)) (e : RawEnt) (es : List RawEnt) → IsRoom es → (filled_by (in_next (at k used last) e.name) es).full ≡ not (is_none_left (over name_of k (e ∷ es)))
next_room zero used last e es ih = stuck zero used last es
next_room (suc k) used last e es ih = ap (λ (f : Filled). (filled_by f es).full) (in_one_more k used last e.name) ∙ by_own (leb (cost None e.name) 510) refl ∙ sym (ap (λ l. not (is_none_left l)) (begun k e es)) where
  by_own : (t : Bool) → leb (cost None e.name) 510 ≡ t
      → (filled_by (cond {A = Filled} (not t) (record { behind = suc k; used = used; last = last; full = true }) (at k (cost None e.name) (Some e.name))) es).full
      ≡ not (is_none_left (over name_of k (cond t (unfilled name_of (Some e.name) (cost None e.name) es) (e ∷ es))))
  by_own true h = ih k (cost None e.name) (Some e.name)
  by_own false h = stuck (suc k) used last es ∙ sym (ap (λ l. not (is_none_left l)) (never k e es h))

pub room : (es : List RawEnt) → IsRoom es
unfolding pushed
room [] k used last = sym (ap (λ l. not (is_none_left l)) (none_over k))
room (e ∷ es) k used last = by_fit (leb (used + cost last e.name) 510) (room es) where
  by_fit : (t : Bool) → IsRoom es → (filled_by (cond {A = Filled} t (at k (used + cost last e.name) (Some e.name)) (in_next (at k used last) e.name)) es).full
      ≡ not (is_none_left (over name_of k (cond t (unfilled name_of (Some e.name) (used + cost last e.name) es) (e ∷ es))))
  by_fit true ih = ih k (used + cost last e.name) (Some e.name)
  by_fit false ih = next_room k used last e es ih

-- ---- with the new entry among them

abbrev pub to_come : RawEnt → Bool → List RawEnt → List RawEnt
to_come e true xs = inserted e xs
to_come e false xs = xs

pub taken : (e : RawEnt) (t : Tried) (x : RawEnt) (xs : List RawEnt) → filled_by (taken_in e t x).filled (to_come e (taken_in e t x).waiting xs) ≡ filled_by t.filled (to_come e t.waiting (x ∷ xs))
unfolding taken_in
taken e t x xs = by_waiting t.waiting (before e x) ∙ ap (filled_by t.filled) (same t.waiting) where
  next : Bool → Bool → Tried
  next w b = cond (w && b) (record { filled = pushed (pushed t.filled e.name) x.name; waiting = false }) (record { filled = pushed t.filled x.name; waiting = w })

  to_come_by : Bool → Bool → List RawEnt
  to_come_by true b = cond b (e ∷ x ∷ xs) (x ∷ inserted e xs)
  to_come_by false b = x ∷ xs

  same : (w : Bool) → to_come_by w (before e x) ≡ to_come e w (x ∷ xs)
  same true = refl
  same false = refl

  by_waiting : (w b : Bool) → filled_by (next w b).filled (to_come e (next w b).waiting xs) ≡ filled_by t.filled (to_come_by w b)
  by_waiting true true = refl
  by_waiting true false = refl
  by_waiting false b = refl

pub first_before : (name : List ℕ) (ver : ℕ) (x : RawEnt) → is_first name ver x.name x.ver ≡ before (key name ver) x
unfolding is_first before
first_before name ver x = refl

some_inserted : (e : RawEnt) (es : List RawEnt) → is_none_left (inserted e es) ≡ false
some_inserted e [] = refl
some_inserted e (x ∷ es) = by_place (before e x) where
  by_place : (t : Bool) → is_none_left (cond t (e ∷ x ∷ es) (x ∷ inserted e es)) ≡ false
  by_place true = refl
  by_place false = refl

pub no_block : (e : RawEnt) (es : List RawEnt) → has_room 0 e es ≡ false
unfolding has_room
no_block e es = some_inserted e es

pub all_room : (k : ℕ) (e : RawEnt) (es : List RawEnt) → has_room (suc k) e es ≡ not (filled_by (at k 0 None) (inserted e es)).full
unfolding has_room
all_room k e es = by_left (is_none_left (over name_of k (unfilled name_of None 0 (inserted e es)))) (filled_by (at k 0 None) (inserted e es)).full (room (inserted e es) k 0 None) where
  by_left : (t f : Bool) → f ≡ not t → t ≡ not f
  by_left true f h = sym (ap not h)
  by_left false f h = sym (ap not h)

-- ---- what the code has

pub took : (e : RawEnt) (t : Tried) (x : RawEnt) → (t.waiting && before e x) ≡ true → taken_in e t x ≡ record { filled = pushed (pushed t.filled e.name) x.name; waiting = false }
unfolding taken_in
took e t x h = ap (λ (b : Bool). cond {A = Tried} b (record { filled = pushed (pushed t.filled e.name) x.name; waiting = false }) (record { filled = pushed t.filled x.name; waiting = t.waiting })) h

pub passed : (e : RawEnt) (t : Tried) (x : RawEnt) → (t.waiting && before e x) ≡ false → taken_in e t x ≡ record { filled = pushed t.filled x.name; waiting = t.waiting }
unfolding taken_in
passed e t x h = ap (λ (b : Bool). cond {A = Tried} b (record { filled = pushed (pushed t.filled e.name) x.name; waiting = false }) (record { filled = pushed t.filled x.name; waiting = t.waiting })) h

abbrev pub start : ℕ → Filled
start k = record { behind = k - 1; used = 0; last = None; full = false }

-- what is filled in the end
abbrev pub ends : RawEnt → Tried → List RawEnt → Filled
ends e t xs = filled_by t.filled (to_come e t.waiting xs)

module _ (k : ℕ) (some : 1 ≤ k) (e : RawEnt) (t : Tried) (es : List RawEnt) (is : ends e t [] ≡ filled_by (start k) (inserted e es)) where
  whole : has_room k e es ≡ not (ends e t []).full
  whole =
      let n : suc (k - 1) ≡ k = omega arith in
      ap (λ m. has_room m e es) (sym n) ∙ all_room (k - 1) e es ∙ ap (λ (f : Filled). not f.full) (sym is)

  pub told_waiting : t.waiting ≡ true → not (pushed t.filled e.name).full ≡ has_room k e es
  told_waiting w = sym (whole ∙ ap (λ b. not (filled_by t.filled (to_come e b [])).full) w)

  pub told_all : t.waiting ≡ false → not t.filled.full ≡ has_room k e es
  told_all w = sym (whole ∙ ap (λ b. not (filled_by t.filled (to_come e b [])).full) w)
