-- The rules of the lock manager hold.
use Rattle.std.proofs.Common.{◌≡◌, ◌&&◌, ◌||◌, ℕ, zero, suc, Bool, true, false, not, List, [], ◌∷◌, Some, None, Contains, filter, find, refl, arith, cond, ap, sym, ◌∙◌, length, unwrap_or, option_map, ◌⊎◌, inl, inr}
use Rattle.std.specs.List.{list_all, list_any}
use Rattle.plain_cat.specs.declared.mode.Mode.{Mode}
use Rattle.plain_cat.specs.Modes.{compatible_modes}
use Rattle.lock_db.specs.declared.name.Owner.{Owner}
use Rattle.lock_db.specs.declared.askers.Standing.TheVariants.{Granted}
use Rattle.lock_db.specs.declared.askers.Asker.{Asker}
use Rattle.lock_db.specs.Names.{same_owner}
use Rattle.lock_db.specs.Queues.{held, wanted, is_converting, is_waiting, goes_beside, or_else, head_of, with_standing, one_grant, granted_upto, settled}
use Rattle.lock_db.specs.Tables.{stand_together, all_together, go_together, IsSettled}
use Rattle.lock_db.specs.Laws.{GoTogether, StandsOnce, IsHeldUp, waiting_queue}
use Rattle.lock_db.proofs.Lists.{and-left, and-right, or-false_left, or-false_right, not-true, true-and_not, list_all-head, list_all-tail, list_all-find, list_any-none, find-passes}
use Rattle.lock_db.proofs.Modes.{compatible_modes-comm}
use Rattle.lock_db.proofs.Owners.{same_owner-refl}
use Rattle.lock_db.proofs.Together.{lets, all_together-head, all_together-tail, all_together-granted}
use Rattle.lock_db.proofs.Heads.{one_grant-some, one_grant-head, own-passes}

-- an element of a list is its first one, or one of the rest
module _ {X : Type 0} where
  pub Contains-cases : (x : X) (xs : List X) (a : X) → Contains (x ∷ xs) a → (x ≡ a) ⊎ Contains xs a
  Contains-cases x xs a (zero, l, e) = inl e
  Contains-cases x xs a (suc k, l, e) = inr (k, (omega arith), e)

  pub Contains-first : (x : X) (xs : List X) → Contains (x ∷ xs) x
  Contains-first x xs = (0, (omega arith), refl)

  pub Contains-later : (x : X) (xs : List X) (a : X) → Contains xs a → Contains (x ∷ xs) a
  Contains-later x xs a (k, l, e) = (suc k, (omega arith), e)

  pub list_all-contains : (p : X → Bool) (xs : List X) (a : X) → list_all p xs ≡ true → Contains xs a → p a ≡ true
  list_all-contains p [] a e c = absurd (omega (arith, c.1))
  list_all-contains p (x ∷ xs) a e c =
      elim (Contains-cases x xs a c) [ inl h ↦ rw (← h) (list_all-head p x xs e) | inr h ↦ list_all-contains p xs a (list_all-tail p x xs e) h ]

  -- where not all pass, one fails
  pub list_all-fails : (p : X → Bool) (xs : List X) → list_all p xs ≡ false → (a : X) × Contains xs a × (p a ≡ false)
  list_all-fails p [] e = cc
  list_all-fails p (x ∷ xs) e =
      (elim (p x) as (λ b. p x ≡ b → (b && list_all p xs) ≡ false → (a : X) × Contains (x ∷ xs) a × (p a ≡ false)) [
        | false ↦ λ h g. (x, Contains-first x xs, h)
        | true ↦ λ h g. let r = list_all-fails p xs g in (r.0, Contains-later x xs r.0 r.1, r.2)
      ]) refl e

together-modes : (a b : Asker) (m n : Mode) → stand_together a b ≡ true → held a.standing ≡ Some m → held b.standing ≡ Some n → compatible_modes m n ≡ true
together-modes a b m n e f g =
    let k : go_together (held a.standing) (held b.standing) ≡ true = and-right (not (same_owner a.owner b.owner)) (go_together (held a.standing) (held b.standing)) e in
    rw g at (rw f at k)

together-owners : (a b : Asker) → stand_together a b ≡ true → a.owner ≡ b.owner → ⊥
together-owners a b e s =
    let k : same_owner a.owner b.owner ≡ true = rw s (same_owner-refl b.owner) in
    true-and_not (same_owner a.owner b.owner) k (and-left (not (same_owner a.owner b.owner)) (go_together (held a.standing) (held b.standing)) e)

pub all_together-go : (xs : List Asker) → all_together xs ≡ true → GoTogether xs
all_together-go [] e a b m n c d o f g = absurd (omega (arith, c.1))
all_together-go (x ∷ xs) e a b m n c d o f g =
    let first = all_together-head x xs e in
    elim (Contains-cases x xs a c) [
      | inl h ↦ elim (Contains-cases x xs b d) [
        | inl k ↦ absurd (o (ap (λ (z : Asker). z.owner) (sym h ∙ k)))
        | inr k ↦ together-modes a b m n (rw h at (list_all-contains (stand_together x) xs b first k)) f g
      ]
      | inr h ↦ elim (Contains-cases x xs b d) [
        | inl k ↦ compatible_modes-comm m n ∙ together-modes b a n m (rw k at (list_all-contains (stand_together x) xs a first h)) g f
        | inr k ↦ all_together-go xs (all_together-tail x xs e) a b m n h k o f g
      ]
    ]

pub all_together-once : (xs : List Asker) → all_together xs ≡ true → StandsOnce xs
all_together-once [] e a b c d s = absurd (omega (arith, c.1))
all_together-once (x ∷ xs) e a b c d s =
    let first = all_together-head x xs e in
    elim (Contains-cases x xs a c) [
      | inl h ↦ elim (Contains-cases x xs b d) [
        | inl k ↦ sym h ∙ k
        | inr k ↦ absurd (together-owners a b (rw h at (list_all-contains (stand_together x) xs b first k)) s)
      ]
      | inr h ↦ elim (Contains-cases x xs b d) [
        | inl k ↦ absurd (together-owners b a (rw k at (list_all-contains (stand_together x) xs a first h)) (sym s))
        | inr k ↦ all_together-once xs (all_together-tail x xs e) a b h k s
      ]
    ]

pub IsSettled-held_up : (xs : List Asker) (a : Asker) → IsSettled xs → head_of xs ≡ Some a → IsHeldUp xs a
IsSettled-held_up xs a s h =
    let f = list_all-fails (lets a.owner (wanted a.standing)) xs (one_grant-head xs a s.idle h) in
    let b : Asker = f.0 in
    let other : same_owner b.owner a.owner ≡ false = or-false_left (same_owner b.owner a.owner) (goes_beside (wanted a.standing) (held b.standing)) f.2 in
    (b, f.1, (λ e. let k : same_owner b.owner a.owner ≡ true = rw e (same_owner-refl a.owner) in cc), or-false_right (same_owner b.owner a.owner) (goes_beside (wanted a.standing) (held b.standing)) f.2)

-- an owner's one asker is the first that is found under its name
pub own-find : (p : Asker → Bool) (xs : List Asker) (h : Asker) → all_together xs ≡ true → find p xs ≡ Some h → find (λ (x : Asker). same_owner x.owner h.owner) xs ≡ Some h
own-find p [] h e f = cc
own-find p (x ∷ xs) h e f =
    (elim (p x) as (λ b. cond b (Some x) (find p xs) ≡ Some h → find (λ (y : Asker). same_owner y.owner h.owner) (x ∷ xs) ≡ Some h) [
      | true ↦ λ g. let here : x ≡ h = cc in rw (here, same_owner-refl h.owner) refl
      | false ↦ λ g.
          let other : same_owner x.owner h.owner ≡ false = not-true (same_owner x.owner h.owner) (and-left (not (same_owner x.owner h.owner)) _ (list_all-find (stand_together x) p xs h (all_together-head x xs e) g)) in
          rw other (own-find p xs h (all_together-tail x xs e) g)
    ]) f

-- to grant one who does not wait leaves the waiting queue
waiting-granted : (owner : Owner) (m : Mode) (xs : List Asker) → list_all (λ (x : Asker). not (same_owner x.owner owner) || not (is_waiting x)) xs ≡ true → filter is_waiting (with_standing owner (Granted m) xs) ≡ filter is_waiting xs
waiting-granted owner m [] e = refl
waiting-granted owner m (x ∷ xs) e =
    let rest = waiting-granted owner m xs (list_all-tail (λ (y : Asker). not (same_owner y.owner owner) || not (is_waiting y)) x xs e) in
    let first = list_all-head (λ (y : Asker). not (same_owner y.owner owner) || not (is_waiting y)) x xs e in
    (elim (same_owner x.owner owner) as (λ b. (not b || not (is_waiting x)) ≡ true → filter is_waiting (cond b (record x { standing = Granted m }) x ∷ with_standing owner (Granted m) xs) ≡ filter is_waiting (x ∷ xs)) [
      | true ↦ λ g. rw (not-true (is_waiting x) g, rest) refl
      | false ↦ λ g. ap (λ ys. cond (is_waiting x) (x ∷ ys) ys) rest
    ]) first

-- where no conversion stands in the queue, none comes there by a grant
converting-granted : (owner : Owner) (m : Mode) (xs : List Asker) → list_any is_converting xs ≡ false → list_any is_converting (with_standing owner (Granted m) xs) ≡ false
converting-granted owner m [] e = refl
converting-granted owner m (x ∷ xs) e =
    let rest = converting-granted owner m xs (or-false_right (is_converting x) (list_any is_converting xs) e) in
    let first = or-false_left (is_converting x) (list_any is_converting xs) e in
    (elim (same_owner x.owner owner) as (λ b. list_any is_converting (cond b (record x { standing = Granted m }) x ∷ with_standing owner (Granted m) xs) ≡ false)
    [ true ↦ rest | false ↦ rw (first, rest) refl ])

no_conversions : (k : ℕ) (xs : List Asker) → list_any is_converting xs ≡ false → list_any is_converting (granted_upto k xs) ≡ false
unfolding granted_upto
no_conversions zero xs e = e
no_conversions (suc k) xs e =
    (elim (one_grant xs) as (λ o. one_grant xs ≡ o → list_any is_converting (unwrap_or (option_map (granted_upto k) o) xs) ≡ false) [
      | None ↦ λ h. e
      | Some ys ↦ λ h. let g = one_grant-some xs ys h in no_conversions k ys (rw g.after (converting-granted g.head.owner (wanted g.head.standing) xs e))
    ]) refl

pub some-same : (a b : Asker) → Some a ≡ Some b → a ≡ b
some-same a b e = cc

converting-not_waiting : (a : Asker) → is_converting a ≡ true → not (is_waiting a) ≡ true
converting-not_waiting a e = grind arith

conversions-first : (k : ℕ) (xs : List Asker) → all_together xs ≡ true → list_any is_converting (granted_upto k xs) ≡ true → filter is_waiting (granted_upto k xs) ≡ filter is_waiting xs
unfolding granted_upto
conversions-first zero xs e c = refl
conversions-first (suc k) xs e c =
    (elim (one_grant xs) as (λ o. one_grant xs ≡ o → list_any is_converting (unwrap_or (option_map (granted_upto k) o) xs) ≡ true → filter is_waiting (unwrap_or (option_map (granted_upto k) o) xs) ≡ filter is_waiting xs) [
      | None ↦ λ h d. refl
      | Some ys ↦ λ h d.
          let g = one_grant-some xs ys h in
          let m : Mode = wanted g.head.standing in
          let after_all : all_together ys ≡ true = rw g.after (all_together-granted g.head.owner m xs e g.fits) in
          let later = conversions-first k ys after_all d in
          (elim (find is_converting xs) as (λ o. find is_converting xs ≡ o → filter is_waiting (granted_upto k ys) ≡ filter is_waiting xs) [
            | None ↦ λ f.
                let none : list_any is_converting ys ≡ false = rw g.after (converting-granted g.head.owner m xs (list_any-none is_converting xs f)) in
                let gone = no_conversions k ys none in
                cc
            | Some a ↦ λ f.
                let first : a ≡ g.head = some-same a g.head (sym (ap (λ o. or_else o (find is_waiting xs)) f) ∙ g.first) in
                let own = own-find is_converting xs a e f in
                let not_waiting : not (is_waiting a) ≡ true = converting-not_waiting a (find-passes is_converting xs a f) in
                let stays = waiting-granted a.owner m xs (own-passes (λ x. not (is_waiting x)) a.owner xs a e own not_waiting) in
                later ∙ ap (filter is_waiting) g.after ∙ ap (λ (z : Asker). filter is_waiting (with_standing z.owner (Granted m) xs)) (sym first) ∙ stays
          ]) refl
    ]) refl c

pub settled-conversions_first : (xs : List Asker) → all_together xs ≡ true → list_any is_converting (settled xs) ≡ true → waiting_queue (settled xs) ≡ waiting_queue xs
settled-conversions_first xs e c = conversions-first (length xs) xs e c
