-- The modes of X and V, as locks are added and go.
use Rattle.std.proofs.Common.{◌≡◌, ◌∙◌, Bool, true, false, not, List, [], ◌∷◌, ◌++◌, filter, Some, None, if◌then◌else◌, refl, sym, ap}
use Rattle.std.specs.List.{list_any}
use Rattle.lock_db.specs.declared.name.LockName.{LockName}
use Rattle.lock_db.specs.declared.name.LockName.TheVariants.{X}
use Rattle.lock_db.specs.Names.{is_same}
use Rattle.lock_db.proofs.Names.{is_same-same}
use Rattle.plain_cat.specs.declared.mode.Mode.{Mode}
use Rattle.node_cache.specs.Cached.{Cached, is_under}
use Rattle.core_space.specs.Lasting.{mode_on, noted, stays_by}

-- one more lock behind
pub mode_on-push : (n : LockName) (ls : List (LockName × Mode)) (l : LockName × Mode) → noted n l (mode_on n ls) ≡ mode_on n (ls ++ l ∷ [])
mode_on-push n [] l = refl
mode_on-push n (k ∷ ls) l = elim (is_same k.0 n) as (λ b. noted n l (if b then Some k.1 else mode_on n ls) ≡ (if b then Some k.1 else mode_on n (ls ++ l ∷ []))) [
  | true ↦ refl
  | false ↦ mode_on-push n ls l
]

-- the mode among those that stay by their names, and before them one of the name, or of another
abbrev Filtered : (LockName → Bool) → LockName → List (LockName × Mode) → Type 0
Filtered q n ls = (if not (q n) then None else mode_on n ls) ≡ mode_on n (filter (λ l. q l.0) ls)

filter-same : (q : LockName → Bool) (n : LockName) (l : LockName × Mode) (ls : List (LockName × Mode)) → is_same l.0 n ≡ true → l.0 ≡ n → Filtered q n ls → (if not (q n) then None else Some l.1) ≡ mode_on n (filter (λ k. q k.0) (l ∷ ls))
filter-same q n l ls t e so = (elim (q l.0) as (λ b. q l.0 ≡ b → (if not (q n) then None else Some l.1) ≡ mode_on n (if b then l ∷ filter (λ k. q k.0) ls else filter (λ k. q k.0) ls)) [
  | true ↦ λ u.
      let stays : q n ≡ true = ap q (sym e) ∙ u in
      rw (t, stays) refl
  | false ↦ λ u.
      let gone : q n ≡ false = ap q (sym e) ∙ u in
      let rest : None ≡ mode_on n (filter (λ k. q k.0) ls) = ap (λ b. if not b then None else mode_on n ls) (sym gone) ∙ so in
      rw gone rest
]) refl

filter-other : (q : LockName → Bool) (n : LockName) (l : LockName × Mode) (ls : List (LockName × Mode)) → is_same l.0 n ≡ false → Filtered q n ls → (if not (q n) then None else mode_on n ls) ≡ mode_on n (filter (λ k. q k.0) (l ∷ ls))
filter-other q n l ls t so = elim (q l.0) as (λ b. (if not (q n) then None else mode_on n ls) ≡ mode_on n (if b then l ∷ filter (λ k. q k.0) ls else filter (λ k. q k.0) ls)) [
  | true ↦ rw t so
  | false ↦ so
]

-- those that stay by their names
pub mode_on-filter : (q : LockName → Bool) (n : LockName) (ls : List (LockName × Mode)) → (if not (q n) then None else mode_on n ls) ≡ mode_on n (filter (λ l. q l.0) ls)
mode_on-filter q n [] = elim (q n) as (λ b. (if not b then None else mode_on n []) ≡ None) [
  | true ↦ refl
  | false ↦ refl
]
mode_on-filter q n (l ∷ ls) = (elim (is_same l.0 n) as (λ b. is_same l.0 n ≡ b → (if not (q n) then None else (if b then Some l.1 else mode_on n ls)) ≡ mode_on n (filter (λ k. q k.0) (l ∷ ls))) [
  | true ↦ λ t. filter-same q n l ls t (is_same-same l.0 n t) (mode_on-filter q n ls)
  | false ↦ λ t. filter-other q n l ls t (mode_on-filter q n ls)
]) refl

-- those that do not bear a name
pub mode_on-remove : (n name : LockName) (ls : List (LockName × Mode)) → (if is_same n name then None else mode_on n ls) ≡ mode_on n (filter (λ l. not (is_same l.0 name)) ls)
mode_on-remove n name ls = twice_not (is_same n name) ∙ mode_on-filter (λ k. not (is_same k name)) n ls where
  twice_not : (b : Bool) → (if b then None else mode_on n ls) ≡ (if not (not b) then None else mode_on n ls)
  twice_not true = refl
  twice_not false = refl

-- those that stay behind an answer
abbrev stays_named : Bool → List Cached → LockName → Bool
stays_named stocked es n = if is_same n X then stocked else list_any (is_under n) es

pub mode_on-staying : (n : LockName) (stocked : Bool) (es : List Cached) (ls : List (LockName × Mode)) → (if not (stays_named stocked es n) then None else mode_on n ls) ≡ mode_on n (filter (stays_by stocked es) ls)
mode_on-staying n stocked es ls = mode_on-filter (stays_named stocked es) n ls
