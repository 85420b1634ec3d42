-- What may be read once a node is dead.
use Rattle.std.proofs.Common.{◌≡◌, ◌≢◌, ◌==◌, ◌&&◌, ◌||◌, ◌++◌, ◌⊎◌, inl, inr, ℕ, Bool, true, false, not, List, [], ◌∷◌, Option, Some, None, is_some, map, find, refl, ap, sym, subst, ◌∙◌, cond, if◌then◌else◌, option_and_then, option_map, Contains}
use Rattle.std.specs.List.{list_any}
use Rattle.std.proofs.lemmas.List.{append-nil}
use Rattle.std.proofs.lemmas.List.Elements.{filter-append}
use Rattle.lock_db.specs.declared.name.LockName.{LockName}
use Rattle.lock_db.specs.declared.name.Owner.{Owner}
use Rattle.lock_db.specs.declared.askers.Asker.{Asker}
use Rattle.lock_db.specs.declared.resource.Resource.{Resource}
use Rattle.lock_db.specs.Names.{same_owner}
use Rattle.lock_db.specs.Queues.{held, standing_of}
use Rattle.lock_db.specs.Resources.{fresh, is_used, is_writing_held, is_writer_of, dropped_of}
use Rattle.lock_db.specs.Tables.{resource_at, IsTable, dropped, stand_together, all_together}
use Rattle.lock_db.proofs.Lists.{and-left, and-right, not-true, or-false_left, or-false_right, list_all-find, find-passes}
use Rattle.lock_db.proofs.Owners.{same_owner-same, same_owner-refl, owned}
use Rattle.lock_db.proofs.Together.{all_together-head, all_together-tail}
use Rattle.lock_db.proofs.Steps.{IsSettled-at}
use Rattle.lock_db.proofs.Blocks.{dropped-at}
use Rattle.dlm_core.specs.declared.messages.Message.{Message}
use Rattle.dlm_core.specs.declared.holds.Hold.{Hold}
use Rattle.dlm_core.specs.States.{State, home, master, recovery, table_at, told_at, hold_at}
use Rattle.dlm_core.specs.Recoveries.{is_strong}
use Rattle.dlm_core.specs.Lanes.{is_kind, letters_of, LaneOf, MayWait, standing_at, waiters_of, IsSound}
use Rattle.dlm_core.specs.Deaths.{lowest, was_master, is_lost, claim_from, with_claims, bereft}
use Rattle.dlm_core.proofs.Ahead.{marked, OK, ahead, Val, Stays, death-val, gone-val}
use Rattle.dlm_core.proofs.Takes.{eq-of, ne-of}
use Rattle.dlm_core.proofs.Restoring.{nothing_of}
use Rattle.dlm_core.proofs.Dying.{mails-stay, mails-go, kept-addressed, dropped-serves, hold-live, hold-dead, claims-lost, claims-live, claims-dead, may-at, recovery-lost, recovery-stays, table-stays}
use Rattle.dlm_core.proofs.Tracing.{Each, each-append, each-filter}
use Rattle.dlm_core.proofs.Holding.{calls_of, lock_in, calls_in, block_in, seen_block, ValOf, GrantOK, Values, val-same, lone, alone}
use Rattle.dlm_core.proofs.Arrivals.{zeros, block_at1, lock_at1, serves, nobody-stands}

true-false : true ≡ false → ⊥
true-false e = cc

-- ---- who of the dead node may write

-- an owner of the dead node whose lock may write
record WriterOf (d : ℕ) (xs : List Asker) : Type 0 where
  owner : Owner
  dead : (owner.node == d) ≡ true
  writes : is_writing_held (option_and_then held (standing_of owner xs)) ≡ true

-- who writes behind an asker is another owner
behind-owner : (a : Asker) (xs : List Asker) (q : Owner) → all_together (a ∷ xs) ≡ true → is_writing_held (option_and_then held (standing_of q xs)) ≡ true → same_owner a.owner q ≡ false
behind-owner a xs q t w =
    (elim (find (owned q) xs) as (λ f. find (owned q) xs ≡ f → is_writing_held (option_and_then held (option_map (λ (z : Asker). z.standing) f)) ≡ true → same_owner a.owner q ≡ false) [
      | None ↦ λ f k. cc
      | Some b ↦ λ f k.
          let one : stand_together a b ≡ true = list_all-find (stand_together a) (owned q) xs b (all_together-head a xs t) f in
          let apart : same_owner a.owner b.owner ≡ false = not-true (same_owner a.owner b.owner) (and-left (not (same_owner a.owner b.owner)) _ one) in
          let is : b.owner ≡ q = same_owner-same b.owner q (find-passes (owned q) xs b f) in
          ap (same_owner a.owner) (sym is) ∙ apart
    ]) refl w

writer-found : (d : ℕ) (xs : List Asker) → all_together xs ≡ true → list_any (is_writer_of d) xs ≡ true → WriterOf d xs
writer-found d [] t e = cc
writer-found d (a ∷ xs) t e =
    (elim (is_writer_of d a) as (λ b. is_writer_of d a ≡ b → (b || list_any (is_writer_of d) xs) ≡ true → WriterOf d (a ∷ xs)) [
      | true ↦ λ f g. record { owner = a.owner; dead = and-left (a.owner.node == d) (is_writing_held (held a.standing)) f; writes = rw (same_owner-refl a.owner) (and-right (a.owner.node == d) (is_writing_held (held a.standing)) f) }
      | false ↦ λ f g.
          let w = writer-found d xs (all_together-tail a xs t) g in
          record { owner = w.owner; dead = w.dead; writes = rw (behind-owner a xs w.owner t w.writes) w.writes }
    ]) refl e

and-false : (a b : Bool) → (a && b) ≡ false → a ≡ true → b ≡ false
and-false true b e f = e
and-false false b e f = cc

no-writer : (d : ℕ) (q : Owner) (xs : List Asker) → (q.node == d) ≡ true → list_any (is_writer_of d) xs ≡ false → is_writing_held (option_and_then held (standing_of q xs)) ≡ false
no-writer d q [] n e = refl
no-writer d q (a ∷ xs) n e =
    (elim (same_owner a.owner q) as (λ b. same_owner a.owner q ≡ b → is_writing_held (option_and_then held (option_map (λ (z : Asker). z.standing) (cond b (Some a) (find (owned q) xs)))) ≡ false) [
      | true ↦ λ f. and-false (a.owner.node == d) (is_writing_held (held a.standing)) (or-false_left (is_writer_of d a) (list_any (is_writer_of d) xs) e) (ap (λ (z : Owner). z.node == d) (same_owner-same a.owner q f) ∙ n)
      | false ↦ λ f. no-writer d q xs n (or-false_right (is_writer_of d a) (list_any (is_writer_of d) xs) e)
    ]) refl

-- ---- the block of a name that has not lost its master

used-not : (b : Bool) → b ≡ true → b ≡ false → ⊥
used-not b e f = cc

dropped-used : (x : LockName) (d : ℕ) (t : List Resource) → IsTable t → is_used (resource_at x (dropped d t)) ≡ true
    → block_at1 x (dropped d t) ≡ marked ((resource_at x t).valid && not (list_any (is_writer_of d) (resource_at x t).askers)) (resource_at x t).value
dropped-used x d t i u =
    let new : Resource = dropped_of d (resource_at x t) in
    let at = dropped-at x d t i.ordered in
    rw at (
    (elim (is_used new) as (λ b. is_used (if b then new else fresh new.name) ≡ true → marked (if b then new else fresh new.name).valid (if b then new else fresh new.name).value ≡ marked new.valid new.value) [
      | true ↦ λ q. refl
      | false ↦ λ q. cc
    ]) (ap is_used (sym at) ∙ u))

dropped-gone : (x : LockName) (d : ℕ) (t : List Resource) → IsTable t → is_used (resource_at x (dropped d t)) ≡ false → block_at1 x (dropped d t) ≡ Some zeros
dropped-gone x d t i u =
    let new : Resource = dropped_of d (resource_at x t) in
    let at = dropped-at x d t i.ordered in
    rw at (
    (elim (is_used new) as (λ b. is_used new ≡ b → is_used (if b then new else fresh new.name) ≡ false → marked (if b then new else fresh new.name).valid (if b then new else fresh new.name).value ≡ Some zeros) [
      | true ↦ λ e q. absurd (used-not (is_used new) e q)
      | false ↦ λ e q. refl
    ]) refl (ap is_used (sym at) ∙ u))

off-mark : (b : Bool) (v : List ℕ) → marked (b && false) v ≡ None
off-mark true v = refl
off-mark false v = refl

same-mark : (b : Bool) (v : List ℕ) → marked (b && true) v ≡ marked b v
same-mark true v = refl
same-mark false v = refl

module _ (R : LockName → List (List ℕ)) (d : ℕ) (s : State) (i : IsSound s) (a : Values R s) where
  abbrev z : State
  z = bereft d s

  abbrev dead : Owner → Bool
  dead p = p.node == d

  module _ (x : LockName) (w : was_master d s x ≡ false) where
    nm : master x s ≢ d
    nm = ne-of (master x s) d w

    mail-live : (p : Owner) → dead p ≡ false → calls_of p x z.mail ≡ calls_of p x s.mail
    mail-live p e = mails-stay s d false p x s.mail i.addressed (ne-of p.node d e) nm

    kept-live : (p : Owner) → dead p ≡ false → calls_of p x z.kept ≡ calls_of p x s.kept
    kept-live p e = mails-stay s d false p x s.kept (kept-addressed s i.kept_back) (ne-of p.node d e) nm

    mail-dead : (p : Owner) → dead p ≡ true → calls_of p x z.mail ≡ []
    mail-dead p e = mails-go s d false p x s.mail i.addressed (inl (eq-of p.node d e))

    kept-dead : (p : Owner) → dead p ≡ true → calls_of p x z.kept ≡ []
    kept-dead p e = mails-go s d false p x s.kept (kept-addressed s i.kept_back) (inl (eq-of p.node d e))

    abbrev t : List Resource
    t = table_at (home s.nodes x) s.tables

    told-left : told_at x z ≡ resource_at x (dropped d t)
    told-left = ap (resource_at x) (table-stays d s i x w)

    beside : recovery x s ≡ None → (p : Owner) → dead p ≡ false
        → (is_writing_held (lock_at1 x (dropped d t) p) ≡ false → is_writing_held (lock_in None x s p) ≡ false) × (Stays (lock_in None x s p) (lock_at1 x (dropped d t) p) (calls_in None x s p) (calls_of p x z.mail))
    beside n p e =
        let lane : LaneOf None p x s = subst (λ (r : Option ℕ). LaneOf r p x s) n (i.lanes p x) in
        let sv = dropped-serves x d p t (i.tables_are (home s.nodes x)) (ne-of p.node d e) in
        let k = serves (standing_of p (resource_at x (dropped d t)).askers) p x (standing_at p x s) (calls_of p x s.mail) (letters_of true p x s.mail) (waiters_of p x s.queue) (hold_at p x s.holds).belief (hold_at p x s.holds).wait sv lane in
        (k.0, subst (λ (ns : List Message). Stays (lock_in None x s p) (lock_at1 x (dropped d t) p) (calls_in None x s p) ns) (sym (mail-live p e)) k.1)

    marks : is_used (resource_at x (dropped d t)) ≡ true
        → ((block_at1 x (dropped d t) ≡ None) × ((q : Owner) × ((dead q ≡ true) × (is_writing_held (lock_in None x s q) ≡ true)))) ⊎ ((block_at1 x (dropped d t) ≡ block_in x s) × ((q : Owner) → dead q ≡ true → is_writing_held (lock_in None x s q) ≡ false))
    marks u =
        let r : Resource = resource_at x t in
        let at = dropped-used x d t (i.tables_are (home s.nodes x)) u in
        (elim (list_any (is_writer_of d) r.askers) as (λ b. list_any (is_writer_of d) r.askers ≡ b → block_at1 x (dropped d t) ≡ marked (r.valid && not b) r.value
        → ((block_at1 x (dropped d t) ≡ None) × ((q : Owner) × ((dead q ≡ true) × (is_writing_held (lock_in None x s q) ≡ true)))) ⊎ ((block_at1 x (dropped d t) ≡ block_in x s) × ((q : Owner) → dead q ≡ true → is_writing_held (lock_in None x s q) ≡ false))) [
          | true ↦ λ e k.
              let o = writer-found d r.askers (IsSettled-at x t (i.tables_are (home s.nodes x))).together e in
              inl (k ∙ off-mark r.valid r.value, (o.owner, (o.dead, o.writes)))
          | false ↦ λ e k. inr (k ∙ same-mark r.valid r.value, λ q n. no-writer d q r.askers n e)
        ]) refl at

    val-open : recovery x s ≡ None → (is_used (told_at x z) ≡ false → Contains (R x) zeros) → ValOf None (R x) x z
    val-open n zero1 =
        let v : ValOf None (R x) x s = subst (λ (r : Option ℕ). ValOf r (R x) x s) n (a.val x) in
        val-same (R x) (lock_at1 x (dropped d t)) (lock_in None x z) (λ o. calls_of o x z.mail) (calls_in None x z) (block_at1 x (dropped d t)) (block_in x z) (λ o. ap (λ (r : Resource). option_and_then held (standing_of o r.askers)) told-left) (λ o. refl)
        (ap (λ (r : Resource). marked r.valid r.value) told-left) (
        (elim (is_used (resource_at x (dropped d t))) as (λ b. is_used (resource_at x (dropped d t)) ≡ b → Val (R x) (lock_at1 x (dropped d t)) (λ o. calls_of o x z.mail) (block_at1 x (dropped d t))) [
          | true ↦ λ u. death-val (R x) (lock_in None x s) (lock_at1 x (dropped d t)) (calls_in None x s) (λ o. calls_of o x z.mail) (block_in x s) (block_at1 x (dropped d t)) dead
              (λ p e. (beside n p e).0) (λ p e. (beside n p e).1) mail-dead (marks u) (alone None x s i) v
          | false ↦ λ u. gone-val (R x) (lock_at1 x (dropped d t)) (λ o. calls_of o x z.mail) (block_at1 x (dropped d t)) (λ p. nobody-stands x (dropped d t) p u)
              (subst (λ (b : Option (List ℕ)). OK (R x) b) (sym (dropped-gone x d t (i.tables_are (home s.nodes x)) u)) (zero1 (ap is_used told-left ∙ u)))
        ]) refl)

    claim-is : (c : Owner) → is_strong (hold_at c x z.claims).belief ≡ true → (dead c ≡ false) × (hold_at c x z.claims ≡ hold_at c x s.claims)
    claim-is c e =
        (elim (dead c) as (λ b. dead c ≡ b → (b ≡ false) × (hold_at c x z.claims ≡ hold_at c x s.claims)) [
          | true ↦ λ f. absurd (true-false (sym e ∙ ap (λ (h : Hold). is_strong h.belief) (claims-dead d s c x w f)))
          | false ↦ λ f. (refl, claims-live d s c x w f)
        ]) refl

    joined-dead : (p : Owner) → dead p ≡ true → calls_of p x z.kept ++ calls_of p x z.mail ≡ []
    joined-dead p e = rw (kept-dead p e, mail-dead p e) refl

    joined-live : (p : Owner) → dead p ≡ false → calls_of p x z.kept ++ calls_of p x z.mail ≡ calls_of p x s.kept ++ calls_of p x s.mail
    joined-live p e = rw (kept-live p e, mail-live p e) refl

    val-claimed : (k : ℕ) → recovery x s ≡ Some k → ValOf (Some k) (R x) x z
    val-claimed k n c e =
        let f = claim-is c e in
        let strong : is_strong (lock_in (Some k) x s c) ≡ true = ap (λ (h : Hold). is_strong h.belief) (sym f.1) ∙ e in
        let v : Val (R x) (lock_in (Some k) x s) (calls_in (Some k) x s) (seen_block (hold_at c x s.claims).seen) = (let all : ValOf (Some k) (R x) x s = subst (λ (r : Option ℕ). ValOf r (R x) x s) n (a.val x) in all) c strong in
        subst (λ (h : Hold). Val (R x) (lock_in (Some k) x z) (calls_in (Some k) x z) (seen_block h.seen)) (sym f.1) (
        death-val (R x) (lock_in (Some k) x s) (lock_in (Some k) x z) (calls_in (Some k) x s) (calls_in (Some k) x z) (seen_block (hold_at c x s.claims).seen) (seen_block (hold_at c x s.claims).seen) dead
        (λ p g q. ap (λ (h : Hold). is_writing_held h.belief) (sym (claims-live d s p x w g)) ∙ q)
        (λ p g. inl (ap (λ (h : Hold). h.belief) (claims-live d s p x w g), joined-live p g))
        joined-dead
        (inr (refl, λ q g. quiet-dead k c strong f.0 q g))
        (alone (Some k) x s i) v)
      where
        quiet-dead : (k : ℕ) (c : Owner) → is_strong (lock_in (Some k) x s c) ≡ true → dead c ≡ false → (q : Owner) → dead q ≡ true → is_writing_held (lock_in (Some k) x s q) ≡ false
        quiet-dead k c st live q g =
            let apart : q ≢ c = λ h. true-false (sym g ∙ ap dead h ∙ live) in
            (elim (is_writing_held (lock_in (Some k) x s q)) as (λ b. is_writing_held (lock_in (Some k) x s q) ≡ b → b ≡ false) [
              | true ↦ λ e. absurd (true-false (sym st ∙ lone (Some k) x s i q c apart e))
              | false ↦ λ e. refl
            ]) refl

    val-left : (is_some (recovery x s) ≡ false → is_used (told_at x z) ≡ false → Contains (R x) zeros) → ValOf (recovery x s) (R x) x z
    val-left zero1 =
        (elim (recovery x s) as (λ r. recovery x s ≡ r → ValOf r (R x) x z) [
          | None ↦ λ n. val-open n (zero1 (ap is_some n))
          | Some k ↦ λ n. val-claimed k n
        ]) refl

  -- what is claimed when the master of a name dies
  claim-lost : (o : Owner) (x : LockName) → was_master d s x ≡ true → (hold_at o x z.claims ≡ nothing_of o x) ⊎ (hold_at o x z.claims ≡ hold_at o x s.holds)
  claim-lost o x w =
      (elim (dead o) as (λ b. dead o ≡ b → (hold_at o x z.claims ≡ nothing_of o x) ⊎ (hold_at o x z.claims ≡ hold_at o x s.holds)) [
        | true ↦ λ f. inl (claims-lost d s o x w ∙ hold-dead d o x s.holds f)
        | false ↦ λ f. inr (claims-lost d s o x w ∙ hold-live d o x s.holds f)
      ]) refl

  none-at : (o : Owner) (x : LockName) → was_master d s x ≡ true → calls_of o x z.kept ++ calls_of o x z.mail ≡ []
  none-at o x w =
      let at : master x s ≡ d = eq-of (master x s) d w in
      rw (mails-go s d false o x s.kept (kept-addressed s i.kept_back) (inr at), mails-go s d false o x s.mail i.addressed (inr at)) refl

  val-lost : (x : LockName) → was_master d s x ≡ true → ValOf (Some d) (R x) x z
  val-lost x w c e o free =
      let seen : OK (R x) (seen_block (hold_at c x z.claims).seen) = (elim (claim-lost c x w) [
        | inl f ↦ absurd (true-false (sym e ∙ ap (λ (h : Hold). is_strong h.belief) f))
        | inr f ↦ subst (λ (h : Hold). OK (R x) (seen_block h.seen)) (sym f) (a.read c x (ap (λ (h : Hold). is_strong h.belief) (sym f) ∙ e))
      ]) in
      subst (λ (ms : List Message). OK (R x) (ahead (hold_at o x z.claims).belief ms (seen_block (hold_at c x z.claims).seen))) (sym (none-at o x w)) seen

  all-waits : (o : Owner) (x : LockName) → MayWait (hold_at o x z.claims).belief (hold_at o x z.claims).wait
  all-waits o x =
      (elim (was_master d s x) as (λ b. was_master d s x ≡ b → MayWait (hold_at o x z.claims).belief (hold_at o x z.claims).wait) [
        | true ↦ λ w. (elim (claim-lost o x w) [
          | inl f ↦ subst (λ (h : Hold). MayWait h.belief h.wait) (sym f) tt
          | inr f ↦ subst (λ (h : Hold). MayWait h.belief h.wait) (sym f) (may-at (recovery x s) o x s (i.lanes o x))
        ])
        | false ↦ λ w. (elim (dead o) as (λ b. dead o ≡ b → MayWait (hold_at o x z.claims).belief (hold_at o x z.claims).wait) [
          | true ↦ λ f. subst (λ (h : Hold). MayWait h.belief h.wait) (sym (claims-dead d s o x w f)) tt
          | false ↦ λ f. subst (λ (h : Hold). MayWait h.belief h.wait) (sym (claims-live d s o x w f)) (a.waits o x)
        ]) refl
      ]) refl

  all-read : (o : Owner) (x : LockName) → is_strong (hold_at o x z.holds).belief ≡ true → OK (R x) (seen_block (hold_at o x z.holds).seen)
  all-read o x e =
      (elim (dead o) as (λ b. dead o ≡ b → OK (R x) (seen_block (hold_at o x z.holds).seen)) [
        | true ↦ λ f. absurd (true-false (sym e ∙ ap (λ (h : Hold). is_strong h.belief) (hold-dead d o x s.holds f)))
        | false ↦ λ f. subst (λ (h : Hold). OK (R x) (seen_block h.seen)) (sym (hold-live d o x s.holds f)) (a.read o x (ap (λ (h : Hold). is_strong h.belief) (sym (hold-live d o x s.holds f)) ∙ e))
      ]) refl

  pub bereft-values : ((x : LockName) → is_some (recovery x z) ≡ false → is_used (told_at x z) ≡ false → Contains (R x) zeros) → Values R z
  bereft-values zero1 = record {
    val = λ x. (elim (was_master d s x) as (λ b. was_master d s x ≡ b → ValOf (recovery x z) (R x) x z) [
      | true ↦ λ w. subst (λ (r : Option ℕ). ValOf r (R x) x z) (sym (recovery-lost d s i x w)) (val-lost x w)
      | false ↦ λ w. subst (λ (r : Option ℕ). ValOf r (R x) x z) (sym (recovery-stays d s i x w)) (val-left x w (λ n. zero1 x (ap is_some (recovery-stays d s i x w) ∙ n)))
    ]) refl;
    read = all-read;
    given = each-filter (GrantOK R) (λ m. not (is_lost d m)) s.mail a.given;
    waits = all-waits;
  }

-- ---- the claims are sent

claims-calls : (o : Owner) (x : LockName) (d n : ℕ) (ns : List ℕ) → calls_of o x (map (claim_from d n) ns) ≡ []
claims-calls o x d n [] = refl
claims-calls o x d n (k ∷ ns) = claims-calls o x d n ns

claims-plain : (R : LockName → List (List ℕ)) (d n : ℕ) (ns : List ℕ) → Each (GrantOK R) (map (claim_from d n) ns)
claims-plain R d n [] = tt
claims-plain R d n (k ∷ ns) = (tt, claims-plain R d n ns)

behind-claims : (o : Owner) (x : LockName) (d n : ℕ) (ns : List ℕ) (ms : List Message) → calls_of o x (ms ++ map (claim_from d n) ns) ≡ calls_of o x ms
behind-claims o x d n ns ms = filter-append (is_kind false o x) ms (map (claim_from d n) ns) ∙ ap (λ (ks : List Message). calls_of o x ms ++ ks) (claims-calls o x d n ns) ∙ append-nil (calls_of o x ms)

claims-val : (r : Option ℕ) (vs : List (List ℕ)) (x : LockName) (d : ℕ) (s : State) → ValOf r vs x s → ValOf r vs x (with_claims d s)
claims-val None vs x d s v = val-same vs (lock_in None x s) (lock_in None x (with_claims d s)) (calls_in None x s) (calls_in None x (with_claims d s)) (block_in x s) (block_in x (with_claims d s)) (λ o. refl) (λ o. behind-claims o x d (lowest s.living) s.living s.mail) refl v
claims-val (Some k) vs x d s v = λ c e.
    val-same vs (lock_in (Some k) x s) (lock_in (Some k) x (with_claims d s)) (calls_in (Some k) x s) (calls_in (Some k) x (with_claims d s)) (seen_block (hold_at c x s.claims).seen) (seen_block (hold_at c x s.claims).seen) (λ o. refl)
    (λ o. ap (λ (ms : List Message). calls_of o x s.kept ++ ms) (behind-claims o x d (lowest s.living) s.living s.mail)) refl (v c e)

pub claims-values : (R : LockName → List (List ℕ)) (d : ℕ) (s : State) → Values R s → Values R (with_claims d s)
claims-values R d s a = record {
  val = λ x. claims-val (recovery x s) (R x) x d s (a.val x);
  read = a.read;
  given = each-append (GrantOK R) s.mail (map (claim_from d (lowest s.living)) s.living) a.given (claims-plain R d (lowest s.living) s.living);
  waits = a.waits;
}
