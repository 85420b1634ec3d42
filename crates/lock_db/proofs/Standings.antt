-- How an owner stands after a call.
use Rattle.std.proofs.Common.{◌≡◌, ◌==◌, ◌++◌, ℕ, zero, suc, Bool, true, false, not, List, [], ◌∷◌, Some, None, find, if◌then◌else◌, refl, cond, ap, sym, ◌∙◌, length, unwrap_or, option_map, ◌⊎◌, inl, inr, IsSome}
use Rattle.plain_cat.specs.declared.mode.Mode.{Mode}
use Rattle.plain_cat.specs.declared.mode.Mode.TheVariants.{PR, CW}
use Rattle.lock_db.specs.declared.name.Owner.{Owner}
use Rattle.lock_db.specs.declared.askers.Standing.{Standing}
use Rattle.lock_db.specs.declared.askers.Standing.TheVariants.{Granted, Converting}
use Rattle.lock_db.specs.declared.askers.Asker.{Asker}
use Rattle.lock_db.specs.declared.resource.Resource.{Resource}
use Rattle.lock_db.specs.Names.{same_owner}
use Rattle.lock_db.specs.Queues.{wanted, is_converting, is_waiting, is_queued, or_else, head_of, standing_so, with_standing, without, without_node, one_grant, granted_upto, settled, standing_of, lock_of}
use Rattle.lock_db.specs.Resources.{fresh, is_used, goes_at_once, first_standing, converts_at_once, written, conversion_writes, regranted, queued_up, mode_held, converted_of, released_of, dropped_of}
use Rattle.lock_db.specs.Tables.{resource_at, all_together}
use Rattle.lock_db.specs.Laws.{GrantsServeTheWaiting, RequestsStand, ConversionsStand, ReleasesLeaveNothing, DeathsLeaveNothing}
use Rattle.lock_db.proofs.Lists.{not-true, list_all-weaker, list_all-passing, find-passes, find-absent, find-push_yes}
use Rattle.lock_db.proofs.Owners.{same_owner-refl, same_owner-same}
use Rattle.lock_db.proofs.Together.{standing_so-own, standing_so-other, all_together-granted}
use Rattle.lock_db.proofs.Heads.{one_grant-some, head_of-some}
use Rattle.lock_db.proofs.Order.{vacated}
use Rattle.lock_db.proofs.Places.{written-askers}
use Rattle.lock_db.proofs.Steps.{IsSettled-at, standing_of-none, HasLock-lock_of, converts-goes, lock-is}
use Rattle.lock_db.proofs.Blocks.{asked-at, converted-at, released-at, dropped-at}
use Rattle.lock_db.proofs.Rules.{own-find, some-same}

-- the asker of an owner
abbrev owned : Owner → Asker → Bool
owned owner a = same_owner a.owner owner

-- a change of one owner's standing, seen at any owner
find-with : (owner other : Owner) (s : Standing) (xs : List Asker) → find (owned owner) (with_standing other s xs) ≡ option_map (standing_so other s) (find (owned owner) xs)
find-with owner other s [] = refl
find-with owner other s (a ∷ xs) =
    let rest = find-with owner other s xs in
    let same : owned owner (standing_so other s a) ≡ owned owner a = (elim (same_owner a.owner other) as (λ b. owned owner (cond b (record a { standing = s }) a) ≡ owned owner a) [ true ↦ refl | false ↦ refl ]) in
    rw same (
    (elim (owned owner a) as (λ b. cond b (Some (standing_so other s a)) (find (owned owner) (with_standing other s xs)) ≡ option_map (standing_so other s) (cond b (Some a) (find (owned owner) xs)))
    [ true ↦ refl | false ↦ rest ]))

head-find : (xs : List Asker) (h : Asker) → all_together xs ≡ true → head_of xs ≡ Some h → find (owned h.owner) xs ≡ Some h
head-find xs h e f =
    (elim (find is_converting xs) as (λ o. find is_converting xs ≡ o → or_else o (find is_waiting xs) ≡ Some h → find (owned h.owner) xs ≡ Some h)
    [ None ↦ λ c g. own-find is_waiting xs h e g | Some a ↦ λ c g. own-find is_converting xs h e (c ∙ g) ]) refl f

-- what grants make of an asker that is found: nothing, or a lock in the mode that it waits for
abbrev Served : Owner → List Asker → Asker → Type 0
Served owner ys a = (find (owned owner) ys ≡ Some a) ⊎ ((is_queued a.standing ≡ true) × (find (owned owner) ys ≡ Some (record a { standing = Granted (wanted a.standing) })))

same-head : (owner : Owner) (xs : List Asker) (a h : Asker) → find (owned owner) xs ≡ Some a → find (owned h.owner) xs ≡ Some h → same_owner a.owner h.owner ≡ true → a ≡ h
same-head owner xs a h f g e =
    let mine : a.owner ≡ owner = same_owner-same a.owner owner (find-passes (owned owner) xs a f) in
    let theirs : a.owner ≡ h.owner = same_owner-same a.owner h.owner e in
    let one : owner ≡ h.owner = sym mine ∙ theirs in
    some-same a h (sym f ∙ ap (λ o. find (owned o) xs) one ∙ g)

granted_upto-served : (k : ℕ) (owner : Owner) (xs : List Asker) (a : Asker) → all_together xs ≡ true → find (owned owner) xs ≡ Some a → Served owner (granted_upto k xs) a
unfolding granted_upto
granted_upto-served zero owner xs a e f = inl f
granted_upto-served (suc k) owner xs a e f =
    (elim (one_grant xs) as (λ o. one_grant xs ≡ o → Served owner (unwrap_or (option_map (granted_upto k) o) xs) a) [
      | None ↦ λ n. inl f
      | Some ys ↦ λ n.
          let g = one_grant-some xs ys n in
          let h : Asker = g.head in
          let m : Mode = wanted h.standing in
          let together : all_together ys ≡ true = rw g.after (all_together-granted h.owner m xs e g.fits) in
          let found : find (owned owner) ys ≡ Some (standing_so h.owner (Granted m) a) = ap (find (owned owner)) g.after ∙ find-with owner h.owner (Granted m) xs ∙ ap (option_map (standing_so h.owner (Granted m))) f in
          (elim (same_owner a.owner h.owner) as (λ b. same_owner a.owner h.owner ≡ b → Served owner (granted_upto k ys) a) [
            | true ↦ λ s.
                let head : a ≡ h = same-head owner xs a h f (head-find xs h e g.first) s in
                let waits : is_queued a.standing ≡ true = rw head (head_of-some xs h g.first) in
                let mode : wanted a.standing ≡ m = rw head refl in
                let now : find (owned owner) ys ≡ Some (record a { standing = Granted (wanted a.standing) }) = rw mode (found ∙ ap Some (standing_so-own h.owner (Granted m) a s)) in
                elim (granted_upto-served k owner ys (record a { standing = Granted (wanted a.standing) }) together now)
                [ inl r ↦ inr (waits, r) | inr r ↦ cc ]
            | false ↦ λ s. granted_upto-served k owner ys a together (found ∙ ap Some (standing_so-other h.owner (Granted m) a s))
          ]) refl
    ]) refl

granted_upto-none : (k : ℕ) (owner : Owner) (xs : List Asker) → find (owned owner) xs ≡ None → find (owned owner) (granted_upto k xs) ≡ None
unfolding granted_upto
granted_upto-none zero owner xs f = f
granted_upto-none (suc k) owner xs f =
    (elim (one_grant xs) as (λ o. one_grant xs ≡ o → find (owned owner) (unwrap_or (option_map (granted_upto k) o) xs) ≡ None) [
      | None ↦ λ n. f
      | Some ys ↦ λ n.
          let g = one_grant-some xs ys n in
          granted_upto-none k owner ys (ap (find (owned owner)) g.after ∙ find-with owner g.head.owner (Granted (wanted g.head.standing)) xs ∙ ap (option_map (standing_so g.head.owner (Granted (wanted g.head.standing)))) f)
    ]) refl

pub grants-serve : GrantsServeTheWaiting
grants-serve xs owner s e f =
    (elim (find (owned owner) xs) as (λ o. find (owned owner) xs ≡ o → option_map (λ (a : Asker). a.standing) o ≡ Some s → (standing_of owner (settled xs) ≡ Some s) ⊎ ((is_queued s ≡ true) × (standing_of owner (settled xs) ≡ Some (Granted (wanted s))))) [
      | None ↦ λ h g. cc
      | Some a ↦ λ h g.
          let is : a.standing ≡ s = cc in
          elim (granted_upto-served (length xs) owner xs a e h) [
            | inl r ↦ inl (ap (option_map (λ (b : Asker). b.standing)) r ∙ ap Some is)
            | inr r ↦ inr (rw (← is) r.0, ap (option_map (λ (b : Asker). b.standing)) r.1 ∙ ap (λ (t : Standing). Some (Granted (wanted t))) is)
          ]
    ]) refl f

-- a lock of which no conversion is queued stays
settled-granted : (owner : Owner) (m : Mode) (xs : List Asker) → all_together xs ≡ true → standing_of owner xs ≡ Some (Granted m) → standing_of owner (settled xs) ≡ Some (Granted m)
settled-granted owner m xs e f = elim (grants-serve xs owner (Granted m) e f) [ inl r ↦ r | inr r ↦ r.1 ]

standing-push : (owner : Owner) (s : Standing) (xs : List Asker) → find (owned owner) xs ≡ None → standing_of owner (xs ++ (record { owner = owner; standing = s } ∷ [])) ≡ Some s
standing-push owner s xs f =
    let b : Asker = record { owner = owner; standing = s } in
    ap (option_map (λ (a : Asker). a.standing)) (find-push_yes (owned owner) xs b (same_owner-refl owner) f)

pub requests-stand : RequestsStand
requests-stand name owner mode t n =
    let xs : List Asker = (resource_at name t).askers in
    ap (λ (r : Resource). standing_of owner r.askers) (asked-at name owner mode t)
    ∙ standing-push owner (first_standing (goes_at_once owner mode xs) mode) xs (standing_of-none owner xs n)

without-none : (owner : Owner) (xs : List Asker) → find (owned owner) (without owner xs) ≡ None
without-none owner xs = find-absent (owned owner) (without owner xs) (list_all-passing (λ a. not (owned owner a)) xs)

without_node-none : (owner : Owner) (xs : List Asker) → find (owned owner) (without_node owner.node xs) ≡ None
without_node-none owner xs =
    find-absent (owned owner) (without_node owner.node xs)
    (list_all-weaker (λ (a : Asker). not (a.owner.node == owner.node)) (λ a. not (owned owner a)) (without_node owner.node xs) (λ a e. rw (not-true (a.owner.node == owner.node) e) refl) (list_all-passing (λ (a : Asker). not (a.owner.node == owner.node)) xs))

-- an owner whose standing is changed stands so
standing-with : (owner : Owner) (s : Standing) (xs : List Asker) (a : Asker) → find (owned owner) xs ≡ Some a → standing_of owner (with_standing owner s xs) ≡ Some s
standing-with owner s xs a f =
    ap (option_map (λ (b : Asker). b.standing)) (find-with owner owner s xs ∙ ap (option_map (standing_so owner s)) f ∙ ap Some (standing_so-own owner s a (find-passes (owned owner) xs a f)))

converted-stands : (owner : Owner) (old mode : Mode) (value : List ℕ) (r : Resource) → all_together r.askers ≡ true → lock_of owner r.askers ≡ Some old → (old ≡ PR → mode ≡ CW → ⊥)
    → standing_of owner (converted_of owner mode value r).askers ≡ Some (if converts_at_once owner (mode_held owner r) mode r.askers then Granted mode else Converting old mode)
converted-stands owner old mode value r e l n =
    let xs : List Asker = r.askers in
    let h = HasLock-lock_of owner old xs l in
    rw (lock-is owner r old l) (
    (elim (converts_at_once owner old mode xs) as (λ b. converts_at_once owner old mode xs ≡ b → standing_of owner (if b then written (conversion_writes old mode) value (regranted owner mode r) else queued_up owner old mode r).askers ≡ Some (if b then Granted mode else Converting old mode)) [
      | true ↦ λ c.
          let together = all_together-granted owner mode xs e (converts-goes owner old mode xs e h n c) in
          ap (standing_of owner) (written-askers (conversion_writes old mode) value (regranted owner mode r))
          ∙ settled-granted owner mode (with_standing owner (Granted mode) xs) together (standing-with owner (Granted mode) xs h.asker h.found)
      | false ↦ λ c. standing-push owner (Converting old mode) (without owner xs) (without-none owner xs)
    ]) refl)

pub conversions-stand : ConversionsStand
conversions-stand name owner old mode value t s l n =
    let r : Resource = resource_at name t in
    let some : IsSome (lock_of owner r.askers) = rw l refl in
    let k = IsSettled-at name t s in
    ap (λ (q : Resource). standing_of owner q.askers) (converted-at name owner mode value t some) ∙ converted-stands owner old mode value r k.together l n

-- nobody stands at a resource that has vanished
vacated-none : (owner : Owner) (r : Resource) → find (owned owner) r.askers ≡ None → standing_of owner (vacated r).askers ≡ None
vacated-none owner r f = (elim (is_used r) as (λ b. standing_of owner (if b then r else fresh r.name).askers ≡ None) [ true ↦ ap (option_map (λ (a : Asker). a.standing)) f | false ↦ refl ])

pub releases-leave : ReleasesLeaveNothing
releases-leave name owner value t =
    let r : Resource = resource_at name t in
    let rest : List Asker = without owner r.askers in
    ap (λ (s : Resource). standing_of owner s.askers) (released-at name owner value t)
    ∙ vacated-none owner (released_of owner value r) (ap (find (owned owner)) (written-askers _ value (record r { askers = settled rest })) ∙ granted_upto-none (length rest) owner rest (without-none owner r.askers))

pub deaths-leave : DeathsLeaveNothing
deaths-leave name owner t s =
    let r : Resource = resource_at name t in
    let rest : List Asker = without_node owner.node r.askers in
    ap (λ (q : Resource). standing_of owner q.askers) (dropped-at name owner.node t s.ordered)
    ∙ vacated-none owner (dropped_of owner.node r) (granted_upto-none (length rest) owner rest (without_node-none owner r.askers))
