-- What an owner believes after a note.
use Rattle.std.proofs.Common.{◌≡◌, ◌||◌, Bool, true, false, not, List, [], ◌∷◌, Option, Some, None, find, filter, refl, cond, ap, sym, ◌∙◌, unwrap_or, if◌then◌else◌}
use Rattle.std.specs.List.{list_any}
use Rattle.lock_db.specs.declared.name.LockName.{LockName}
use Rattle.lock_db.specs.declared.name.Owner.{Owner}
use Rattle.lock_db.specs.Names.{is_same, same_owner}
use Rattle.lock_db.proofs.Lists.{and-left, and-right, not-true, or-false_left, or-false_right, and-both, list_any-none, find-none, find-filter, find-absent, find-passes, list_all-every, list_all-passing}
use Rattle.lock_db.proofs.Owners.{same_owner-same, same_owner-refl}
use Rattle.lock_db.proofs.Names.{is_same-same, is_same-refl}
use Rattle.dlm_core.specs.declared.holds.Hold.{Hold}
use Rattle.dlm_core.specs.States.{unseen, is_at, is_earlier, hold_at, put_before, noted}
use Rattle.dlm_core.specs.Lanes.{each_once}

pub at-owner : (o : Owner) (x : LockName) (h : Hold) → is_at o x h ≡ true → h.owner ≡ o
at-owner o x h e = same_owner-same h.owner o (and-left (same_owner h.owner o) (is_same h.name x) e)

pub at-name : (o : Owner) (x : LockName) (h : Hold) → is_at o x h ≡ true → h.name ≡ x
at-name o x h e = is_same-same h.name x (and-right (same_owner h.owner o) (is_same h.name x) e)

pub at-itself : (h : Hold) → is_at h.owner h.name h ≡ true
at-itself h = rw (same_owner-refl h.owner, is_same-refl h.name) refl

module _ {X : Type 0} where
  -- a search behind an insertion
  pub find-put_yes : (p q : X → Bool) (x : X) (xs : List X) → q x ≡ true → find q xs ≡ None → find q (put_before p x xs) ≡ Some x
  find-put_yes p q x [] t n = rw t refl
  find-put_yes p q x (k ∷ ks) t n =
      (elim (q k) as (λ c. q k ≡ c → cond c (Some k) (find q ks) ≡ None → find q (put_before p x (k ∷ ks)) ≡ Some x) [
        | true ↦ λ c g. cc
        | false ↦ λ c g. (elim (p k) as (λ b. find q (if b then x ∷ (k ∷ ks) else k ∷ put_before p x ks) ≡ Some x) [ true ↦ rw t refl | false ↦ rw c (find-put_yes p q x ks t g) ])
      ]) refl n

  pub find-put_no : (p q : X → Bool) (x : X) (xs : List X) → q x ≡ false → find q (put_before p x xs) ≡ find q xs
  find-put_no p q x [] t = rw t refl
  find-put_no p q x (k ∷ ks) t =
      let rest = find-put_no p q x ks t in
      (elim (p k) as (λ b. find q (if b then x ∷ (k ∷ ks) else k ∷ put_before p x ks) ≡ find q (k ∷ ks)) [ true ↦ rw t refl | false ↦ ap (λ (f : Option X). cond (q k) (Some k) f) rest ])

  pub filter-put_yes : (p q : X → Bool) (x : X) (xs : List X) → q x ≡ true → filter q xs ≡ [] → filter q (put_before p x xs) ≡ x ∷ []
  filter-put_yes p q x [] t n = rw t refl
  filter-put_yes p q x (k ∷ ks) t n =
      (elim (q k) as (λ c. q k ≡ c → cond c (k ∷ filter q ks) (filter q ks) ≡ [] → filter q (put_before p x (k ∷ ks)) ≡ x ∷ []) [
        | true ↦ λ c g. cc
        | false ↦ λ c g. (elim (p k) as (λ b. filter q (if b then x ∷ (k ∷ ks) else k ∷ put_before p x ks) ≡ x ∷ []) [ true ↦ rw (t, c, g) refl | false ↦ rw c (filter-put_yes p q x ks t g) ])
      ]) refl n

  pub filter-put_no : (p q : X → Bool) (x : X) (xs : List X) → q x ≡ false → filter q (put_before p x xs) ≡ filter q xs
  filter-put_no p q x [] t = rw t refl
  filter-put_no p q x (k ∷ ks) t =
      let rest = filter-put_no p q x ks t in
      (elim (p k) as (λ b. filter q (if b then x ∷ (k ∷ ks) else k ∷ put_before p x ks) ≡ filter q (k ∷ ks)) [ true ↦ rw t refl | false ↦ ap (λ (ys : List X). cond (q k) (k ∷ ys) ys) rest ])

  pub any-put : (p q : X → Bool) (x : X) (xs : List X) → q x ≡ false → list_any q xs ≡ false → list_any q (put_before p x xs) ≡ false
  any-put p q x xs t n = list_any-none q (put_before p x xs) (find-put_no p q x xs t ∙ find-none q xs n)

pub noted-here : (h : Hold) (hs : List Hold) → hold_at h.owner h.name (noted h hs) ≡ h
noted-here h hs =
    let p : Hold → Bool = is_at h.owner h.name in
    let gone : find p (filter (λ (k : Hold). not (p k)) hs) ≡ None = find-absent p (filter (λ (k : Hold). not (p k)) hs) (list_all-passing (λ (k : Hold). not (p k)) hs) in
    ap (λ (f : Option Hold). unwrap_or f (record { owner = h.owner; name = h.name; belief = None; wait = None; seen = unseen })) (find-put_yes (λ (k : Hold). is_earlier h k) p h (filter (λ (k : Hold). not (p k)) hs) (at-itself h) gone)

apart : (o : Owner) (x : LockName) (h k : Hold) → is_at o x h ≡ false → (not (is_at h.owner h.name k) || not (is_at o x k)) ≡ true
apart o x h k e =
    (elim (is_at h.owner h.name k) as (λ a. is_at h.owner h.name k ≡ a → (not a || not (is_at o x k)) ≡ true) [
      | true ↦ λ a.
          (elim (is_at o x k) as (λ b. is_at o x k ≡ b → not b ≡ true) [
            | true ↦ λ b.
                let ho : h.owner ≡ o = sym (at-owner h.owner h.name k a) ∙ at-owner o x k b in
                let hx : h.name ≡ x = sym (at-name h.owner h.name k a) ∙ at-name o x k b in
                let t : is_at o x h ≡ true = rw (← ho, ← hx) (at-itself h) in
                cc
            | false ↦ λ b. refl
          ]) refl
      | false ↦ λ a. refl
    ]) refl

pub noted-other : (o : Owner) (x : LockName) (h : Hold) (hs : List Hold) → is_at o x h ≡ false → hold_at o x (noted h hs) ≡ hold_at o x hs
noted-other o x h hs e =
    let kept : List Hold = filter (λ (k : Hold). not (is_at h.owner h.name k)) hs in
    ap (λ (f : Option Hold). unwrap_or f (record { owner = o; name = x; belief = None; wait = None; seen = unseen }))
    (find-put_no (λ (k : Hold). is_earlier h k) (is_at o x) h kept e ∙ find-filter (is_at o x) (λ (k : Hold). not (is_at h.owner h.name k)) hs (list_all-every (λ (k : Hold). not (is_at h.owner h.name k) || not (is_at o x k)) hs (λ k. apart o x h k e)))

pub hold-owner : (o : Owner) (x : LockName) (hs : List Hold) → (hold_at o x hs).owner ≡ o
hold-owner o x hs =
    (elim (find (is_at o x) hs) as (λ f. find (is_at o x) hs ≡ f → (unwrap_or f (record { owner = o; name = x; belief = None; wait = None; seen = unseen })).owner ≡ o)
    [ None ↦ λ e. refl | Some h ↦ λ e. at-owner o x h (find-passes (is_at o x) hs h e) ]) refl

pub hold-name : (o : Owner) (x : LockName) (hs : List Hold) → (hold_at o x hs).name ≡ x
hold-name o x hs =
    (elim (find (is_at o x) hs) as (λ f. find (is_at o x) hs ≡ f → (unwrap_or f (record { owner = o; name = x; belief = None; wait = None; seen = unseen })).name ≡ x)
    [ None ↦ λ e. refl | Some h ↦ λ e. at-name o x h (find-passes (is_at o x) hs h e) ]) refl

-- each belief stands once
any-filter : (p q : Hold → Bool) (hs : List Hold) → list_any p hs ≡ false → list_any p (filter q hs) ≡ false
any-filter p q [] e = refl
any-filter p q (k ∷ ks) e =
    (elim (p k) as (λ b. (b || list_any p ks) ≡ false → p k ≡ b → list_any p (filter q (k ∷ ks)) ≡ false) [
      | true ↦ λ f g. cc
      | false ↦ λ f g. (elim (q k) as (λ c. list_any p (cond c (k ∷ filter q ks) (filter q ks)) ≡ false) [ true ↦ rw g (any-filter p q ks f) | false ↦ any-filter p q ks f ])
    ]) e refl

pub once-filter : (q : Hold → Bool) (hs : List Hold) → each_once hs ≡ true → each_once (filter q hs) ≡ true
once-filter q [] e = refl
once-filter q (k ∷ ks) e =
    let first : list_any (is_at k.owner k.name) ks ≡ false = not-true (list_any (is_at k.owner k.name) ks) (and-left (not (list_any (is_at k.owner k.name) ks)) (each_once ks) e) in
    let rest = once-filter q ks (and-right (not (list_any (is_at k.owner k.name) ks)) (each_once ks) e) in
    (elim (q k) as (λ c. each_once (cond c (k ∷ filter q ks) (filter q ks)) ≡ true) [ true ↦ rw (any-filter (is_at k.owner k.name) q ks first) rest | false ↦ rest ])

pub at-turned : (h k : Hold) → is_at h.owner h.name k ≡ false → is_at k.owner k.name h ≡ false
at-turned h k e =
    (elim (is_at k.owner k.name h) as (λ b. is_at k.owner k.name h ≡ b → b ≡ false) [
      | true ↦ λ a.
          let ho : h.owner ≡ k.owner = at-owner k.owner k.name h a in
          let hx : h.name ≡ k.name = at-name k.owner k.name h a in
          let t : is_at h.owner h.name k ≡ true = rw (ho, hx) (at-itself k) in
          cc
      | false ↦ λ a. refl
    ]) refl

once-put : (p : Hold → Bool) (h : Hold) (ks : List Hold) → list_any (is_at h.owner h.name) ks ≡ false → each_once ks ≡ true → each_once (put_before p h ks) ≡ true
once-put p h [] n e = refl
once-put p h (k ∷ ks) n e =
    let here : is_at h.owner h.name k ≡ false = or-false_left (is_at h.owner h.name k) (list_any (is_at h.owner h.name) ks) n in
    let there : list_any (is_at h.owner h.name) ks ≡ false = or-false_right (is_at h.owner h.name k) (list_any (is_at h.owner h.name) ks) n in
    let first : list_any (is_at k.owner k.name) ks ≡ false = not-true (list_any (is_at k.owner k.name) ks) (and-left (not (list_any (is_at k.owner k.name) ks)) (each_once ks) e) in
    let rest = and-right (not (list_any (is_at k.owner k.name) ks)) (each_once ks) e in
    (elim (p k) as (λ b. each_once (if b then h ∷ (k ∷ ks) else k ∷ put_before p h ks) ≡ true) [
      | true ↦ and-both (not (list_any (is_at h.owner h.name) (k ∷ ks))) (each_once (k ∷ ks)) (ap not n) e
      | false ↦ and-both (not (list_any (is_at k.owner k.name) (put_before p h ks))) (each_once (put_before p h ks)) (ap not (any-put p (is_at k.owner k.name) h ks (at-turned h k here) first)) (once-put p h ks there rest)
    ])

pub once-noted : (h : Hold) (hs : List Hold) → each_once hs ≡ true → each_once (noted h hs) ≡ true
once-noted h hs e =
    let p : Hold → Bool = is_at h.owner h.name in
    let kept : List Hold = filter (λ (k : Hold). not (p k)) hs in
    let gone : list_any p kept ≡ false = list_any-none p kept (find-absent p kept (list_all-passing (λ (k : Hold). not (p k)) hs)) in
    once-put (λ (k : Hold). is_earlier h k) h kept gone (once-filter (λ (k : Hold). not (p k)) hs e)
