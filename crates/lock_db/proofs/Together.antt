-- Askers that stand together go on to do so.
use Rattle.std.proofs.Common.{◌≡◌, ◌||◌, ◌++◌, Bool, true, false, not, List, [], ◌∷◌, Option, Some, None, filter, find, refl, arith, cond, ◌∙◌, ap}
use Rattle.std.specs.List.{list_all}
use Rattle.std.proofs.lemmas.List.Folds.{list_all-append, list_all-map}
use Rattle.plain_cat.specs.declared.mode.Mode.{Mode}
use Rattle.plain_cat.specs.declared.mode.Mode.TheVariants.{PR, CW}
use Rattle.lock_db.specs.declared.name.Owner.{Owner}
use Rattle.lock_db.specs.declared.askers.Standing.{Standing}
use Rattle.lock_db.specs.declared.askers.Standing.TheVariants.{Granted, Converting}
use Rattle.lock_db.specs.declared.askers.Asker.{Asker}
use Rattle.lock_db.specs.Names.{same_owner}
use Rattle.lock_db.specs.Queues.{held, goes, goes_beside, standing_so, with_standing, without, is_upward}
use Rattle.lock_db.specs.Tables.{all_together, stand_together, go_together}
use Rattle.lock_db.proofs.Lists.{and-left, and-right, and-both, or-right, or-if_right, not-true, list_all-head, list_all-tail, list_all-filter, list_all-find, list_all-weaker, list_all-kept, list_all-both, list_all-absent}
use Rattle.lock_db.proofs.Modes.{compatible_modes-comm, goes_beside-lower}

pub all_together-head : (a : Asker) (xs : List Asker) → all_together (a ∷ xs) ≡ true → list_all (stand_together a) xs ≡ true
all_together-head a xs e = grind arith

pub all_together-tail : (a : Asker) (xs : List Asker) → all_together (a ∷ xs) ≡ true → all_together xs ≡ true
all_together-tail a xs e = grind arith

pub all_together-cons : (a : Asker) (xs : List Asker) → list_all (stand_together a) xs ≡ true → all_together xs ≡ true → all_together (a ∷ xs) ≡ true
all_together-cons a xs h t = grind arith

pub all_together-filter : (p : Asker → Bool) (xs : List Asker) → all_together xs ≡ true → all_together (filter p xs) ≡ true
all_together-filter p [] e = refl
all_together-filter p (a ∷ xs) e =
    let h = list_all-filter (stand_together a) p xs (all_together-head a xs e) in
    let t = all_together-filter p xs (all_together-tail a xs e) in
    elim (p a) as (λ b. all_together (cond b (a ∷ filter p xs) (filter p xs)) ≡ true) [ true ↦ all_together-cons a (filter p xs) h t | false ↦ t ]

pub all_together-push : (xs : List Asker) (b : Asker) → all_together xs ≡ true → list_all (λ a. stand_together a b) xs ≡ true → all_together (xs ++ b ∷ []) ≡ true
all_together-push [] b e f = refl
all_together-push (a ∷ xs) b e f =
    let t = all_together-push xs b (all_together-tail a xs e) (list_all-tail (λ x. stand_together x b) a xs f) in
    let h = all_together-head a xs e in
    let k = list_all-head (λ x. stand_together x b) a xs f in
    let g = list_all-append (stand_together a) xs (b ∷ []) in
    grind arith

-- what does not hold up an owner's mode
abbrev pub lets : Owner → Mode → Asker → Bool
lets owner m a = same_owner a.owner owner || goes_beside m (held a.standing)

pub standing_so-own : (owner : Owner) (s : Standing) (a : Asker) → same_owner a.owner owner ≡ true → standing_so owner s a ≡ record a { standing = s }
standing_so-own owner s a e = grind arith

pub standing_so-other : (owner : Owner) (s : Standing) (a : Asker) → same_owner a.owner owner ≡ false → standing_so owner s a ≡ a
standing_so-other owner s a e = grind arith

pub same_owner-between : (owner : Owner) (a b : Owner) → same_owner a owner ≡ true → same_owner b owner ≡ true → same_owner a b ≡ true
same_owner-between owner a b e f = grind arith

together-first : (owner : Owner) (m : Mode) (a b : Asker) → stand_together a b ≡ true → lets owner m b ≡ true → same_owner b.owner owner ≡ false → stand_together (record a { standing = Granted m }) b ≡ true
together-first owner m a b e g q =
    and-both (not (same_owner a.owner b.owner)) (goes_beside m (held b.standing)) (and-left _ _ e) (or-right (same_owner b.owner owner) _ g q)

go_together-some : (m : Mode) (h : Option Mode) → goes_beside m h ≡ true → go_together h (Some m) ≡ true
go_together-some m None e = refl
go_together-some m (Some h) e = compatible_modes-comm h m ∙ e

go_together-none : (h : Option Mode) → go_together h None ≡ true
go_together-none None = refl
go_together-none (Some h) = refl

some-go_together : (m : Mode) (h : Option Mode) → go_together h (Some m) ≡ true → goes_beside m h ≡ true
some-go_together m None e = refl
some-go_together m (Some h) e = compatible_modes-comm m h ∙ e

together-second : (owner : Owner) (m : Mode) (a b : Asker) → stand_together a b ≡ true → lets owner m a ≡ true → same_owner a.owner owner ≡ false → stand_together a (record b { standing = Granted m }) ≡ true
together-second owner m a b e f q =
    and-both (not (same_owner a.owner b.owner)) (go_together (held a.standing) (Some m)) (and-left _ _ e) (go_together-some m (held a.standing) (or-right (same_owner a.owner owner) _ f q))

pub stand_together-granted : (owner : Owner) (m : Mode) (a b : Asker) → stand_together a b ≡ true → lets owner m a ≡ true → lets owner m b ≡ true
    → stand_together (standing_so owner (Granted m) a) (standing_so owner (Granted m) b) ≡ true
stand_together-granted owner m a b e f g =
    let P : Type 0 = stand_together (standing_so owner (Granted m) a) (standing_so owner (Granted m) b) ≡ true in
    elim (same_owner a.owner owner) as (λ x. same_owner a.owner owner ≡ x → P) [
      | true ↦ λ p. (elim (same_owner b.owner owner) as (λ y. same_owner b.owner owner ≡ y → P) [
        | true ↦ λ q. let k = same_owner-between owner a.owner b.owner p q in absurd (grind arith)
        | false ↦ λ q. rw (standing_so-own owner (Granted m) a p, standing_so-other owner (Granted m) b q) (together-first owner m a b e g q)
      ]) refl
      | false ↦ λ p. (elim (same_owner b.owner owner) as (λ y. same_owner b.owner owner ≡ y → P) [
        | true ↦ λ q. rw (standing_so-other owner (Granted m) a p, standing_so-own owner (Granted m) b q) (together-second owner m a b e f p)
        | false ↦ λ q. rw (standing_so-other owner (Granted m) a p, standing_so-other owner (Granted m) b q) e
      ]) refl
    ] refl

pub all_together-granted : (owner : Owner) (m : Mode) (xs : List Asker) → all_together xs ≡ true → goes owner m xs ≡ true → all_together (with_standing owner (Granted m) xs) ≡ true
all_together-granted owner m [] e g = refl
all_together-granted owner m (a ∷ xs) e g =
    let t = all_together-granted owner m xs (all_together-tail a xs e) (list_all-tail (lets owner m) a xs g) in
    let h = list_all-both (stand_together a) (lets owner m) (λ b. stand_together (standing_so owner (Granted m) a) (standing_so owner (Granted m) b)) xs
    (λ b p q. stand_together-granted owner m a b p (list_all-head (lets owner m) a xs g) q) (all_together-head a xs e) (list_all-tail (lets owner m) a xs g) in
    all_together-cons (standing_so owner (Granted m) a) (with_standing owner (Granted m) xs) (list_all-map (stand_together (standing_so owner (Granted m) a)) (standing_so owner (Granted m)) xs ∙ h) t

lets-together : (owner : Owner) (m : Mode) (x a : Asker) → stand_together x a ≡ true → held a.standing ≡ Some m → lets owner m x ≡ true
lets-together owner m x a e h =
    let k : go_together (held x.standing) (held a.standing) ≡ true = and-right (not (same_owner x.owner a.owner)) (go_together (held x.standing) (held a.standing)) e in
    or-if_right (same_owner x.owner owner) (goes_beside m (held x.standing)) (some-go_together m (held x.standing) (rw h at k))

lets-beside : (owner : Owner) (m : Mode) (x y : Asker) → stand_together x y ≡ true → held x.standing ≡ Some m → lets owner m y ≡ true
lets-beside owner m x y e h =
    let k : go_together (held x.standing) (held y.standing) ≡ true = and-right (not (same_owner x.owner y.owner)) (go_together (held x.standing) (held y.standing)) e in
    or-if_right (same_owner y.owner owner) (goes_beside m (held y.standing)) (rw h at k)

-- a lock goes with the granted locks of all others
pub goes-held : (owner : Owner) (m : Mode) (xs : List Asker) (a : Asker) → all_together xs ≡ true → find (λ (x : Asker). same_owner x.owner owner) xs ≡ Some a → held a.standing ≡ Some m → goes owner m xs ≡ true
goes-held owner m [] a e f h = cc
goes-held owner m (x ∷ xs) a e f h =
    let P : Type 0 = goes owner m (x ∷ xs) ≡ true in
    (elim (same_owner x.owner owner) as (λ b. same_owner x.owner owner ≡ b → P) [
      | true ↦ λ p.
          let here : x ≡ a = grind arith in
          let held_here : held x.standing ≡ Some m = ap (λ (z : Asker). held z.standing) here ∙ h in
          let rest = list_all-weaker (stand_together x) (lets owner m) xs (λ y k. lets-beside owner m x y k held_here) (all_together-head x xs e) in
          and-both (lets owner m x) (goes owner m xs) (rw p refl) rest
      | false ↦ λ p.
          let there : find (λ (y : Asker). same_owner y.owner owner) xs ≡ Some a = grind arith in
          let rest = goes-held owner m xs a (all_together-tail x xs e) there h in
          let first = list_all-find (stand_together x) (λ (y : Asker). same_owner y.owner owner) xs a (all_together-head x xs e) there in
          and-both (lets owner m x) (goes owner m xs) (lets-together owner m x a first h) rest
    ]) refl

pub goes-lower : (owner : Owner) (old new : Mode) (xs : List Asker) → is_upward old new ≡ false → (old ≡ PR → new ≡ CW → ⊥) → goes owner old xs ≡ true → goes owner new xs ≡ true
goes-lower owner old new xs l n e = list_all-weaker (lets owner old) (lets owner new) xs (λ a k. let w = goes_beside-lower old new (held a.standing) l n in grind arith) e

-- a conversion that is queued stands together with the others, as the lock did
pub all_together-queued : (owner : Owner) (old new : Mode) (xs : List Asker) → all_together xs ≡ true → goes owner old xs ≡ true
    → all_together (without owner xs ++ (record { owner = owner; standing = Converting old new } ∷ [])) ≡ true
all_together-queued owner old new xs e g =
    all_together-push (without owner xs) (record { owner = owner; standing = Converting old new }) (all_together-filter (λ (a : Asker). not (same_owner a.owner owner)) xs e)
    (list_all-kept (lets owner old) (λ (a : Asker). not (same_owner a.owner owner)) (λ (a : Asker). stand_together a (record { owner = owner; standing = Converting old new })) xs
    (λ a p q. let k = go_together-some old (held a.standing) in grind arith) g)

asked-beside : (owner : Owner) (s : Standing) (xs : List Asker) → list_all (λ (x : Asker). not (same_owner x.owner owner)) xs ≡ true → (h : Option Mode) → held s ≡ h
    → ((m : Mode) → held s ≡ Some m → goes owner m xs ≡ true) → list_all (λ a. stand_together a (record { owner = owner; standing = s })) xs ≡ true
asked-beside owner s xs n None e g =
    list_all-weaker (λ (x : Asker). not (same_owner x.owner owner)) (λ a. stand_together a (record { owner = owner; standing = s })) xs
    (λ a k. and-both (not (same_owner a.owner owner)) (go_together (held a.standing) (held s)) k (rw e (go_together-none (held a.standing)))) n
asked-beside owner s xs n (Some m) e g =
    list_all-both (λ (x : Asker). not (same_owner x.owner owner)) (lets owner m) (λ a. stand_together a (record { owner = owner; standing = s })) xs
    (λ a k w. and-both (not (same_owner a.owner owner)) (go_together (held a.standing) (held s)) k
    (rw e (go_together-some m (held a.standing) (or-right (same_owner a.owner owner) (goes_beside m (held a.standing)) w (not-true (same_owner a.owner owner) k))))) n (g m e)

pub all_together-asked : (owner : Owner) (s : Standing) (xs : List Asker) → all_together xs ≡ true → find (λ (a : Asker). same_owner a.owner owner) xs ≡ None
    → ((m : Mode) → held s ≡ Some m → goes owner m xs ≡ true) → all_together (xs ++ (record { owner = owner; standing = s } ∷ [])) ≡ true
all_together-asked owner s xs e a g =
    let b : Asker = record { owner = owner; standing = s } in
    all_together-push xs b e (asked-beside owner s xs (list_all-absent (λ (x : Asker). same_owner x.owner owner) xs a) (held s) refl g)
