-- The packing, block by block and entry by entry.
use Rattle.std.proofs.Common.{◌≡◌, ◌-◌, ◌+◌, ◌<◌, ◌≤◌, ◌∙◌, ℕ, zero, suc, Bool, true, false, cond, List, [], ◌∷◌, Option, Some, None, length, drop, slice_get, refl, sym, ap, arith, ◌⊎◌, inl, inr}
use Rattle.std.specs.Prelude.{leb}
use Rattle.std.proofs.lemmas.Bool.Decides.{nat_tests}
use Rattle.std.proofs.lemmas.List.{drop_all}
use Rattle.base_words.specs.Packing.{over, unfilled, cost, padded}
use Rattle.plain_cat.specs.declared.entries.DirEnt.{DirEnt}
use Rattle.plain_rules.specs.Directories.{is_nil, fits, before, inserted}

abbrev pub name_of : DirEnt → List ℕ
name_of e = e.name

-- one block more
pub over_next : (k i : ℕ) (es : List DirEnt) → i < k → over name_of (k - (i + 1)) (unfilled name_of None 0 es) ≡ over name_of (k - i) es
over_next k i es h = let e : k - i ≡ suc (k - (i + 1)) = omega arith in rw e refl

-- whether the entries that are left go into the current block and so many behind it
unfoldable pub packs : ℕ → ℕ → Option (List ℕ) → List DirEnt → Bool
packs more used last es = is_nil (over name_of more (unfilled name_of last used es))

pub fits_packs : (more : ℕ) (es : List DirEnt) → packs more 0 None es ≡ fits (more + 1) es
unfolding packs fits
fits_packs more es = let e : more + 1 ≡ suc more = omega arith in rw e refl

nothing_over : (k : ℕ) → over name_of k [] ≡ []
nothing_over zero = refl
nothing_over (suc k) = nothing_over k

pub packs_none : (more used : ℕ) (last : Option (List ℕ)) → packs more used last [] ≡ true
unfolding packs
packs_none more used last = ap is_nil (nothing_over more)

-- an entry for which the current block has room
pub packs_here : (more used : ℕ) (last : Option (List ℕ)) (e : DirEnt) (es : List DirEnt) → leb (used + cost last e.name) 510 ≡ true
    → packs more used last (e ∷ es) ≡ packs more (used + cost last e.name) (Some e.name) es
unfolding packs
packs_here more used last e es h =
    ap (λ (b : Bool). is_nil (over name_of more (cond b (unfilled name_of (Some e.name) (used + cost last e.name) es) (e ∷ es)))) h

-- an entry for which it has none
not_here : (more used : ℕ) (last : Option (List ℕ)) (e : DirEnt) (es : List DirEnt) → leb (used + cost last e.name) 510 ≡ false
    → packs more used last (e ∷ es) ≡ is_nil (over name_of more (e ∷ es))
unfolding packs
not_here more used last e es h =
    ap (λ (b : Bool). is_nil (over name_of more (cond b (unfilled name_of (Some e.name) (used + cost last e.name) es) (e ∷ es)))) h

own_cost : (e : DirEnt) → 0 + cost None e.name ≡ 14 + padded e.name
unfolding cost
own_cost e = omega arith

in_block : (m : ℕ) (e : DirEnt) (es : List DirEnt) (b : Bool) → leb (14 + padded e.name) 510 ≡ b
    → unfilled name_of None 0 (e ∷ es) ≡ cond b (unfilled name_of (Some e.name) (14 + padded e.name) es) (e ∷ es)
in_block m e es b h =
    ap (λ (n : ℕ). cond (leb n 510) (unfilled name_of (Some e.name) n es) (e ∷ es)) (own_cost e)
    ∙ ap (λ (b : Bool). cond b (unfilled name_of (Some e.name) (14 + padded e.name) es) (e ∷ es)) h

pub packs_next : (more used : ℕ) (last : Option (List ℕ)) (e : DirEnt) (es : List DirEnt) → leb (used + cost last e.name) 510 ≡ false
    → 0 < more → leb (14 + padded e.name) 510 ≡ true → packs more used last (e ∷ es) ≡ packs (more - 1) (14 + padded e.name) (Some e.name) es
unfolding packs
packs_next zero used last e es h few own = absurd (omega arith)
packs_next (suc m) used last e es h few own =
    let one : suc m - 1 ≡ m = omega arith in
    not_here (suc m) used last e es h ∙ next ∙ ap (λ (n : ℕ). packs n (14 + padded e.name) (Some e.name) es) (sym one)
  where
    next : is_nil (over name_of (suc m) (e ∷ es)) ≡ packs m (14 + padded e.name) (Some e.name) es
    next = ap (λ (l : List DirEnt). is_nil (over name_of m l)) (in_block m e es true own)

-- no block has room for it
stays_over : (k : ℕ) (e : DirEnt) (es : List DirEnt) → leb (14 + padded e.name) 510 ≡ false → over name_of k (e ∷ es) ≡ e ∷ es
stays_over zero e es h = refl
stays_over (suc k) e es h = ap (over name_of k) (in_block k e es false h) ∙ stays_over k e es h

pub packs_never : (more used : ℕ) (last : Option (List ℕ)) (e : DirEnt) (es : List DirEnt) → leb (used + cost last e.name) 510 ≡ false
    → leb (14 + padded e.name) 510 ≡ false → packs more used last (e ∷ es) ≡ false
packs_never more used last e es h own = not_here more used last e es h ∙ ap is_nil (stays_over more e es own)

pub packs_full : (used : ℕ) (last : Option (List ℕ)) (e : DirEnt) (es : List DirEnt) → leb (used + cost last e.name) 510 ≡ false → packs 0 used last (e ∷ es) ≡ false
packs_full used last e es h = not_here 0 used last e es h

-- what is left from a place on begins with what stands there
pub from_place : (xs : List DirEnt) (i : ℕ) (x : DirEnt) → slice_get xs i ≡ Some x → drop i xs ≡ x ∷ drop (i + 1) xs
from_place xs i x h = let one : suc i ≡ i + 1 = omega arith in by_place xs i h ∙ ap (λ (k : ℕ). x ∷ drop k xs) one where
  by_place : (xs : List DirEnt) (i : ℕ) → slice_get xs i ≡ Some x → drop i xs ≡ x ∷ drop (suc i) xs
  by_place [] i h = absurd (cc h)
  by_place (y ∷ ys) zero h = let e : y ≡ x = cc h in ap (λ (z : DirEnt). z ∷ ys) e
  by_place (y ∷ ys) (suc i) h = by_place ys i h

within : (m n : ℕ) → m ≤ n → leb m n ≡ true
within m n h = grind (arith, nat_tests)

beyond : (m n : ℕ) → n < m → leb m n ≡ false
beyond m n h = grind (arith, nat_tests)

-- the entry of place i goes into the current block
pub goes_on : (l : List DirEnt) (i left used cost_is used' left' : ℕ) (last : Option (List ℕ)) (x : DirEnt) → slice_get l i ≡ Some x → cost_is ≡ cost last x.name
    → used ≤ 510 → cost_is ≤ 510 - used → used' ≡ used + cost_is → left' ≡ left → packs left' used' (Some x.name) (drop (i + 1) l) ≡ packs left used last (drop i l)
goes_on l i left used cost_is used' left' last x at costs room h used_is left_is =
    let fits_here : leb (used + cost last x.name) 510 ≡ true = within (used + cost last x.name) 510 (rw (sym costs) (omega arith)) in
    (λ j. packs (left_is j) (used_is j) (Some x.name) (drop (i + 1) l))
    ∙ (λ j. packs left (used + costs j) (Some x.name) (drop (i + 1) l))
    ∙ sym (packs_here left used last x (drop (i + 1) l) fits_here)
    ∙ ap (packs left used last) (sym (from_place l i x at))

past : (used cost_is : ℕ) (last : Option (List ℕ)) (x : DirEnt) → cost_is ≡ cost last x.name → 510 - used < cost_is → leb (used + cost last x.name) 510 ≡ false
past used cost_is last x costs h = beyond (used + cost last x.name) 510 (rw (sym costs) (omega arith))

-- it goes into the next one
pub goes_next : (l : List DirEnt) (i left used cost_is alone used' left' : ℕ) (last : Option (List ℕ)) (x : DirEnt) → slice_get l i ≡ Some x → cost_is ≡ cost last x.name
    → 510 - used < cost_is → 0 < left → alone ≡ 14 + padded x.name → alone ≤ 510 → used' ≡ alone → left' ≡ left - 1
    → packs left' used' (Some x.name) (drop (i + 1) l) ≡ packs left used last (drop i l)
goes_next l i left used cost_is alone used' left' last x at costs h few own small used_is left_is =
    (λ j. packs (left_is j) (used_is j) (Some x.name) (drop (i + 1) l))
    ∙ (λ j. packs (left - 1) (own j) (Some x.name) (drop (i + 1) l))
    ∙ sym (packs_next left used last x (drop (i + 1) l) (past used cost_is last x costs h) few (within (14 + padded x.name) 510 (rw (sym own) small)))
    ∙ ap (packs left used last) (sym (from_place l i x at))

-- it goes into none
pub goes_nowhere : (l : List DirEnt) (i left used cost_is alone : ℕ) (last : Option (List ℕ)) (x : DirEnt) → slice_get l i ≡ Some x → cost_is ≡ cost last x.name
    → 510 - used < cost_is → alone ≡ 14 + padded x.name → (left ≡ 0) ⊎ (510 < alone) → packs left used last (drop i l) ≡ false
goes_nowhere l i left used cost_is alone last x at costs h own why =
    ap (packs left used last) (from_place l i x at) ∙ elim why [
      | inl none ↦ ap (λ (k : ℕ). packs k used last (x ∷ drop (i + 1) l)) none ∙ packs_full used last x (drop (i + 1) l) (past used cost_is last x costs h)
      | inr large ↦ packs_never left used last x (drop (i + 1) l) (past used cost_is last x costs h) (beyond (14 + padded x.name) 510 (rw (sym own) large))
    ]

-- nothing is left
pub gone_all : (l : List DirEnt) (i left used : ℕ) (last : Option (List ℕ)) → length l ≤ i → packs left used last (drop i l) ≡ true
gone_all l i left used last h = ap (packs left used last) (drop_all i l h) ∙ packs_none left used last

-- no entry goes into no block
pub fits_none : (k : ℕ) (e : DirEnt) (es : List DirEnt) → k ≡ 0 → fits k (inserted e es) ≡ false
unfolding fits
fits_none k e es h = ap (λ (k : ℕ). fits k (inserted e es)) h ∙ none es where
  first : (xs : List DirEnt) (x : DirEnt) (b : Bool) → fits 0 (cond b (e ∷ x ∷ xs) (x ∷ inserted e xs)) ≡ false
  first xs x true = refl
  first xs x false = refl

  none : (es : List DirEnt) → fits 0 (inserted e es) ≡ false
  none [] = refl
  none (x ∷ xs) = first xs x (before e x)
