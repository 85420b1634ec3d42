-- The locks that stay, as they are moved to the front.
use Rattle.std.proofs.Common.{◌≡◌, ◌∙◌, ◌≤◌, ◌<◌, ◌+◌, ℕ, Bool, true, false, List, [], ◌∷◌, ◌++◌, length, take, drop, set, get_or, filter, if◌then◌else◌, sym, ap, arith, add-zero}
use Rattle.std.proofs.lemmas.List.{take_more_set, take_more, drop-set-lt, get_or-drop, drop-drop, length-set, append-nil, take-append-le, take_all}
use Rattle.std.proofs.lemmas.List.Elements.{filter-append}
use Rattle.std.specs.List.{list_any}
use Rattle.lock_db.specs.declared.name.LockName.{LockName}
use Rattle.lock_db.specs.declared.name.LockName.TheVariants.{X}
use Rattle.lock_db.specs.Names.{is_same}
use Rattle.plain_cat.specs.declared.mode.Mode.{Mode}
use Rattle.node_cache.specs.Cached.{Cached}
use Rattle.node_cache.proofs.Walks.{locks_in, any-locks_in}
use Rattle.core_space.specs.Lasting.{stays_by}

-- those before a place are gone through: the first of the list are those of them that stay, and those behind the place are untouched
pub record AreMoved {A : Type 0} (p : A → Bool) (xs ys : List A) (kept at : ℕ) : Type 0 where
  pub few : kept ≤ at
  pub front : take kept xs ≡ filter p (take at ys)
  pub rest : drop at xs ≡ drop at ys
  pub long : length xs ≡ length ys

same-at : {A : Type 0} (xs ys : List A) (at : ℕ) (d : A) → drop at xs ≡ drop at ys → get_or xs at d ≡ get_or ys at d
same-at xs ys at d rest =
    ap (λ n. get_or xs n d) (sym (add-zero at)) ∙ sym (get_or-drop at xs 0 d) ∙ ap (λ l. get_or l 0 d) rest ∙ get_or-drop at ys 0 d ∙ ap (λ n. get_or ys n d) (add-zero at)

rest-on : {A : Type 0} (xs ys : List A) (at : ℕ) → drop at xs ≡ drop at ys → drop (at + 1) xs ≡ drop (at + 1) ys
rest-on xs ys at rest = sym (drop-drop 1 at xs) ∙ ap (drop 1) rest ∙ drop-drop 1 at ys

-- what the filter leaves of one more
one-more : {A : Type 0} (p : A → Bool) (ys : List A) (at : ℕ) (d : A) → at < length ys → filter p (take (at + 1) ys) ≡ filter p (take at ys) ++ filter p (get_or ys at d ∷ [])
one-more p ys at d within = ap (filter p) (take_more ys at d within) ∙ filter-append p (take at ys) (get_or ys at d ∷ [])

pub moved-stays : {A : Type 0} (p : A → Bool) (xs ys : List A) (kept at : ℕ) (d : A) → AreMoved p xs ys kept at → at < length ys → p (get_or xs at d) ≡ true → AreMoved p (set xs kept (get_or xs at d)) ys (kept + 1) (at + 1)
moved-stays p xs ys kept at d so within stays =
    let x = get_or xs at d in
    let same = same-at xs ys at d so.rest in
    let added : filter p (get_or ys at d ∷ []) ≡ x ∷ [] = ap (λ y. filter p (y ∷ [])) (sym same) ∙ ap (λ b. if b then x ∷ [] else []) stays in
    record {
      few = omega (arith, so.few);
      front = take_more_set xs kept x (omega (arith, so.few, so.long, within)) ∙ (λ i. so.front i ++ sym added i) ∙ sym (one-more p ys at d within);
      rest = drop-set-lt (at + 1) xs kept x (omega (arith, so.few)) ∙ rest-on xs ys at so.rest;
      long = length-set xs kept x ∙ so.long;
    }

pub moved-goes : {A : Type 0} (p : A → Bool) (xs ys : List A) (kept at : ℕ) (d : A) → AreMoved p xs ys kept at → at < length ys → p (get_or xs at d) ≡ false → AreMoved p xs ys kept (at + 1)
moved-goes p xs ys kept at d so within goes =
    let x = get_or xs at d in
    let same = same-at xs ys at d so.rest in
    let none : filter p (get_or ys at d ∷ []) ≡ [] = ap (λ y. filter p (y ∷ [])) (sym same) ∙ ap (λ b. if b then x ∷ [] else []) goes in
    record {
      few = omega (arith, so.few);
      front = so.front ∙ sym (append-nil (filter p (take at ys))) ∙ ap (λ l. filter p (take at ys) ++ l) (sym none) ∙ sym (one-more p ys at d within);
      rest = rest-on xs ys at so.rest;
      long = so.long;
    }

-- whether a lock stays, by a walk through the cache's locks
pub stays-so : (stocked : Bool) (es : List Cached) (walk : List LockName) (l : LockName × Mode) → walk ≡ locks_in es → (if is_same l.0 X then stocked else list_any (is_same l.0) walk) ≡ stays_by stocked es l
stays-so stocked es walk l e = ap (λ b. if is_same l.0 X then stocked else b) (ap (list_any (is_same l.0)) e ∙ any-locks_in l.0 es)

-- the first of a list in a longer room
pub cut : {A : Type 0} (k len : ℕ) (xs ys : List A) → len ≡ length xs → take k (take len (xs ++ ys)) ≡ take k xs
cut k len xs ys e = ap (take k) (take-append-le len xs ys (omega (arith, e)) ∙ take_all len xs (omega (arith, e)))
