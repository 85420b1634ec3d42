-- A step on the resource in its place is the step on the table.
use Rattle.std.proofs.Common.{◌≡◌, ◌==◌, ◌<◌, ◌+◌, ◌++◌, ℕ, zero, suc, Bool, true, false, not, List, [], ◌∷◌, Some, None, IsSome, if◌then◌else◌, refl, arith, ap, sym, ◌∙◌, length, unwrap_or, option_map, get_or, get_or-set_same, set, take, drop, add-one}
use Rattle.std.proofs.lemmas.List.{set_split, set-get_or, get_or_default, take-append-drop, take-set, drop-set-lt}
use Rattle.std.specs.List.{insert}
use Rattle.plain_cat.specs.declared.mode.Mode.{Mode}
use Rattle.lock_db.specs.declared.name.LockName.{LockName}
use Rattle.lock_db.specs.declared.name.Owner.{Owner}
use Rattle.lock_db.specs.declared.askers.Standing.{Standing}
use Rattle.lock_db.specs.declared.askers.Standing.TheVariants.{Granted, Converting}
use Rattle.lock_db.specs.declared.askers.Asker.{Asker}
use Rattle.lock_db.specs.declared.resource.Resource.{Resource}
use Rattle.lock_db.specs.Queues.{with_standing, without, one_grant, granted_upto, settled, lock_of}
use Rattle.lock_db.specs.Resources.{fresh, is_used, goes_at_once, first_standing, asked_of, converts_at_once, written, conversion_writes, regranted, queued_up, mode_held, converted_of, try_converted_of, released_of, recovered_of}
use Rattle.lock_db.specs.Tables.{IsAt, IsGap, resource_at, kept, placed, asked, converted, converts_now, try_converted, released, recovered, is_ordered}
use Rattle.lock_db.proofs.Heads.{one_grant-some}
use Rattle.lock_db.proofs.Order.{drop-cons_more, IsAt-stands, IsGap-stands}

pub resource_at-here : (name : LockName) (t : List Resource) (i : ℕ) (d : Resource) → is_ordered t ≡ true → IsAt name t i → resource_at name t ≡ get_or t i d
resource_at-here name t i d o a = let s = IsAt-stands name t i o a in ap (λ f. unwrap_or f (fresh name)) (s.here d)

pub resource_at-gap : (name : LockName) (t : List Resource) (i : ℕ) → IsGap name t i → resource_at name t ≡ fresh name
resource_at-gap name t i g = let s = IsGap-stands name t i g in ap (λ f. unwrap_or f (fresh name)) s.none

resource_at-name : (name : LockName) (t : List Resource) (i : ℕ) → is_ordered t ≡ true → IsAt name t i → (resource_at name t).name ≡ name
resource_at-name name t i o a = ap (λ (r : Resource). r.name) (resource_at-here name t i (fresh name) o a) ∙ a.named (fresh name)

-- a lock is in the table
pub lock-there : (name : LockName) (t : List Resource) (i : ℕ) (owner : Owner) → IsGap name t i → IsSome (lock_of owner (resource_at name t).askers) → ⊥
lock-there name t i owner g l =
    let none : IsSome (lock_of owner (fresh name).askers) = rw (resource_at-gap name t i g) at l in
    cc

-- a resource that somebody asks for is in the table
pub used-there : (name : LockName) (t : List Resource) (i : ℕ) → IsGap name t i → is_used (resource_at name t) ≡ true → ⊥
used-there name t i g u =
    let none : is_used (fresh name) ≡ true = rw (resource_at-gap name t i g) at u in
    cc

kept-used : (r : Resource) → is_used r ≡ true → kept r ≡ r ∷ []
kept-used r u = rw u refl

pub placed-set : (name : LockName) (t : List Resource) (i : ℕ) (r : Resource) → is_ordered t ≡ true → IsAt name t i → r.name ≡ name → is_used r ≡ true → set t i r ≡ placed r t
placed-set name t i r o a n u =
    let s = IsAt-stands name t i o a in
    set_split t i r a.within ∙ sym (s.instead r n ∙ ap (λ ks. take i t ++ (ks ++ drop (i + 1) t)) (kept-used r u) ∙ rw add-one refl)

pub placed-insert : (name : LockName) (t : List Resource) (i : ℕ) (r : Resource) → IsGap name t i → r.name ≡ name → is_used r ≡ true → insert t i r ≡ placed r t
placed-insert name t i r g n u =
    let s = IsGap-stands name t i g in
    sym (s.new r n ∙ ap (λ ks. take i t ++ (ks ++ drop i t)) (kept-used r u))

pub not-zero : (n : ℕ) → not (suc n == 0) ≡ true
not-zero n = grind arith

used-push : (xs : List Asker) (a : Asker) → not (length (xs ++ a ∷ []) == 0) ≡ true
used-push [] a = refl
used-push (x ∷ xs) a = not-zero (length (xs ++ a ∷ []))

pub used-asked : (owner : Owner) (mode : Mode) (r : Resource) → is_used (asked_of owner mode r) ≡ true
used-asked owner mode r = used-push r.askers (record { owner = owner; standing = first_standing (goes_at_once owner mode r.askers) mode })

length-with : (owner : Owner) (s : Standing) (xs : List Asker) → length (with_standing owner s xs) ≡ length xs
length-with owner s [] = refl
length-with owner s (a ∷ xs) = ap suc (length-with owner s xs)

length-granted_upto : (k : ℕ) (xs : List Asker) → length (granted_upto k xs) ≡ length xs
unfolding granted_upto
length-granted_upto zero xs = refl
length-granted_upto (suc k) xs =
    (elim (one_grant xs) as (λ o. one_grant xs ≡ o → length (unwrap_or (option_map (granted_upto k) o) xs) ≡ length xs) [
      | None ↦ λ h. refl
      | Some ys ↦ λ h.
          let g = one_grant-some xs ys h in
          length-granted_upto k ys ∙ ap length g.after ∙ length-with g.head.owner _ xs
    ]) refl

used-lock : (owner : Owner) (xs : List Asker) → IsSome (lock_of owner xs) → not (length xs == 0) ≡ true
used-lock owner [] l = cc
used-lock owner (a ∷ xs) l = not-zero (length xs)

pub length-settled : (xs : List Asker) → length (settled xs) ≡ length xs
length-settled xs = length-granted_upto (length xs) xs

pub used-regranted : (owner : Owner) (mode : Mode) (r : Resource) → IsSome (lock_of owner r.askers) → is_used (regranted owner mode r) ≡ true
used-regranted owner mode r l =
    let xs : List Asker = with_standing owner (Granted mode) r.askers in
    rw (length-granted_upto (length xs) xs, length-with owner (Granted mode) r.askers) (used-lock owner r.askers l)

pub written-askers : (b : Bool) (value : List ℕ) (r : Resource) → (written b value r).askers ≡ r.askers
written-askers true value r = refl
written-askers false value r = refl

pub written-name : (b : Bool) (value : List ℕ) (r : Resource) → (written b value r).name ≡ r.name
written-name true value r = refl
written-name false value r = refl

pub used-converted : (owner : Owner) (mode : Mode) (value : List ℕ) (r : Resource) → IsSome (lock_of owner r.askers) → is_used (converted_of owner mode value r) ≡ true
used-converted owner mode value r l =
    let old : Mode = mode_held owner r in
    (elim (converts_at_once owner old mode r.askers) as (λ b. is_used (if b then written (conversion_writes old mode) value (regranted owner mode r) else queued_up owner old mode r) ≡ true) [
      | true ↦ rw (written-askers (conversion_writes old mode) value (regranted owner mode r)) (used-regranted owner mode r l)
      | false ↦ used-push (without owner r.askers) (record { owner = owner; standing = Converting old mode })
    ])

pub converted_of-name : (owner : Owner) (mode : Mode) (value : List ℕ) (r : Resource) → (converted_of owner mode value r).name ≡ r.name
converted_of-name owner mode value r =
    let old : Mode = mode_held owner r in
    (elim (converts_at_once owner old mode r.askers) as (λ b. (if b then written (conversion_writes old mode) value (regranted owner mode r) else queued_up owner old mode r).name ≡ r.name)
    [ true ↦ written-name (conversion_writes old mode) value (regranted owner mode r) | false ↦ refl ])

-- each step, where the resource is there
pub asked-here : (name : LockName) (t : List Resource) (i : ℕ) (owner : Owner) (mode : Mode) (d : Resource) → is_ordered t ≡ true → IsAt name t i → set t i (asked_of owner mode (get_or t i d)) ≡ asked name owner mode t
unfolding asked
asked-here name t i owner mode d o a =
    let r : Resource = resource_at name t in
    rw (← resource_at-here name t i d o a) (placed-set name t i (asked_of owner mode r) o a (resource_at-name name t i o a) (used-asked owner mode r))

pub asked-new : (name : LockName) (t : List Resource) (i : ℕ) (owner : Owner) (mode : Mode) → IsGap name t i → insert t i (asked_of owner mode (fresh name)) ≡ asked name owner mode t
unfolding asked
asked-new name t i owner mode g = rw (resource_at-gap name t i g) (placed-insert name t i (asked_of owner mode (fresh name)) g refl (used-asked owner mode (fresh name)))

pub converted-here : (name : LockName) (t : List Resource) (i : ℕ) (owner : Owner) (mode : Mode) (value : List ℕ) (d : Resource) → is_ordered t ≡ true → IsAt name t i → IsSome (lock_of owner (resource_at name t).askers)
    → set t i (converted_of owner mode value (get_or t i d)) ≡ converted name owner mode value t
unfolding converted
converted-here name t i owner mode value d o a l =
    let r : Resource = resource_at name t in
    rw (← resource_at-here name t i d o a) (placed-set name t i (converted_of owner mode value r) o a (converted_of-name owner mode value r ∙ resource_at-name name t i o a) (used-converted owner mode value r l))

pub try_converted-here : (name : LockName) (t : List Resource) (i : ℕ) (owner : Owner) (mode : Mode) (d : Resource) → is_ordered t ≡ true → IsAt name t i → IsSome (lock_of owner (resource_at name t).askers)
    → set t i (try_converted_of owner mode (get_or t i d)) ≡ try_converted name owner mode t
unfolding try_converted
try_converted-here name t i owner mode d o a l =
    let r : Resource = resource_at name t in
    let at : r ≡ get_or t i d = resource_at-here name t i d o a in
    let on_r : set t i (try_converted_of owner mode r) ≡ try_converted name owner mode t =
    (elim (converts_now name owner mode t) as (λ b. set t i (if b then regranted owner mode r else r) ≡ (if b then placed (regranted owner mode r) t else t)) [
      | true ↦ placed-set name t i (regranted owner mode r) o a (resource_at-name name t i o a) (used-regranted owner mode r l)
      | false ↦ ap (set t i) at ∙ set-get_or t i d
    ]) in
    ap (λ s. set t i (try_converted_of owner mode s)) (sym at) ∙ on_r

pub released-here : (name : LockName) (t : List Resource) (i : ℕ) (owner : Owner) (value : List ℕ) (d : Resource) → is_ordered t ≡ true → IsAt name t i
    → take i t ++ (kept (released_of owner value (get_or t i d)) ++ drop (i + 1) t) ≡ released name owner value t
unfolding released
released-here name t i owner value d o a =
    let r : Resource = resource_at name t in
    let s = IsAt-stands name t i o a in
    rw (← resource_at-here name t i d o a) (sym (s.instead (released_of owner value r) (written-name _ value _ ∙ resource_at-name name t i o a)))

pub recovered-here : (name : LockName) (t : List Resource) (i : ℕ) (value : List ℕ) (valid : Bool) (d : Resource) → is_ordered t ≡ true → IsAt name t i → is_used (resource_at name t) ≡ true
    → set t i (recovered_of value valid (get_or t i d)) ≡ recovered name value valid t
unfolding recovered
recovered-here name t i value valid d o a u =
    let r : Resource = resource_at name t in
    rw (← resource_at-here name t i d o a) (placed-set name t i (recovered_of value valid r) o a (resource_at-name name t i o a) u)

-- a resource that somebody asks for stays in its place
pub vacated-used : (t : List Resource) (i : ℕ) (d x : Resource) → i < length t → x ≡ get_or t i x → is_used x ≡ true → t ≡ take i t ++ (kept (get_or t i d) ++ drop (i + 1) t)
vacated-used t i d x l e u =
    let same : get_or t i d ≡ x = get_or_default t i d x l ∙ sym e in
    sym (take-append-drop i t) ∙ ap (λ v. take i t ++ v) (drop-cons_more t i x l ∙ ap (λ y. y ∷ drop (i + 1) t) (sym e) ∙ rw (same, kept-used x u) refl)

-- one that is changed in its place, and left out where nobody asks for it
pub vacated-set : (t : List Resource) (i : ℕ) (r d : Resource) → i < length t → take i (set t i r) ++ (kept (get_or (set t i r) i d) ++ drop (i + 1) (set t i r)) ≡ take i t ++ (kept r ++ drop (i + 1) t)
vacated-set t i r d l =
    let past : i < i + 1 = omega arith in
    rw (take-set t i r, get_or-set_same t i r d l, drop-set-lt (i + 1) t i r past) refl
