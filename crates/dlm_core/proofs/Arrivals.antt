-- What may be read once a message has arrived.
use Rattle.std.proofs.Common.{◌≡◌, ◌≢◌, ◌==◌, ◌&&◌, ◌++◌, ◌⊎◌, inl, inr, ℕ, Bool, true, false, not, List, [], ◌∷◌, Option, Some, None, IsSome, is_some, find, length, refl, arith, ap, sym, subst, ◌∙◌, if◌then◌else◌, option_and_then, replicate, append_assoc, Contains, MatchBool}
use Rattle.std.proofs.lemmas.List.{append-nil}
use Rattle.std.proofs.lemmas.List.Elements.{filter-append}
use Rattle.plain_cat.specs.declared.mode.Mode.{Mode}
use Rattle.lock_db.specs.declared.name.LockName.{LockName}
use Rattle.lock_db.specs.declared.name.Owner.{Owner}
use Rattle.lock_db.specs.declared.askers.Standing.{Standing}
use Rattle.lock_db.specs.declared.askers.Standing.TheVariants.{Granted}
use Rattle.lock_db.specs.declared.askers.Asker.{Asker}
use Rattle.lock_db.specs.declared.resource.Resource.{Resource}
use Rattle.lock_db.specs.Names.{is_same, same_owner}
use Rattle.lock_db.specs.Queues.{held, is_writing, standing_of, mode_of, lock_of, without, settled}
use Rattle.lock_db.specs.Resources.{fresh, is_used, is_writing_held, conversion_writes, mode_held, written, released_of}
use Rattle.lock_db.specs.Tables.{resource_at, asked, converted, released}
use Rattle.lock_db.specs.Laws.{BlockStays, BlockIs}
use Rattle.lock_db.proofs.Lists.{and-right}
use Rattle.lock_db.proofs.Owners.{same_owner-same, Served}
use Rattle.lock_db.proofs.Names.{is_same-same, is_same-refl}
use Rattle.lock_db.proofs.Steps.{lock-is}
use Rattle.lock_db.proofs.Blocks.{requests-keep, conversions-write, released-at}
use Rattle.lock_db.proofs.Standings.{releases-leave}
use Rattle.dlm_core.specs.declared.messages.Letter.{Letter}
use Rattle.dlm_core.specs.declared.messages.Letter.TheVariants.{Ask, Drop, Grant, Claim}
use Rattle.dlm_core.specs.declared.messages.Message.{Message}
use Rattle.dlm_core.specs.declared.holds.Hold.{Hold}
use Rattle.dlm_core.specs.declared.blocks.Version.{Version}
use Rattle.dlm_core.specs.declared.queue.Waiter.{Waiter}
use Rattle.dlm_core.specs.Modes.{is_lowering, crosses, writes}
use Rattle.dlm_core.specs.States.{State, home, recovery, table_at, told_at, is_at, hold_at, noted, is_between, past_first}
use Rattle.dlm_core.specs.Steps.{is_call, stands_as, ask_made, put_last, drop_made, versions_after, taken_from, taken, granted}
use Rattle.dlm_core.specs.Recoveries.{is_strong}
use Rattle.dlm_core.specs.Lanes.{is_about, has_kind, is_kind, letters_of, IsLane, LaneOf, standing_at, waiters_of, queued_as, raises, IsSound}
use Rattle.dlm_core.specs.Lanes.IsLane.{Sends, Stands, Comes}
use Rattle.dlm_core.proofs.Ahead.{marked, OK, wrote_then, letters, next_lock, ahead, Val, Stays, step-val, gone-val, raise-writes, raise-keeps, lower-writes}
use Rattle.dlm_core.proofs.Mails.{mails-first, mails-past}
use Rattle.dlm_core.proofs.Modes.{raises-not_lower, raises-not_across, lowering-not_across}
use Rattle.dlm_core.proofs.Beliefs.{at-owner, at-name, noted-here, noted-other}
use Rattle.dlm_core.proofs.Others.{can-mode, can-lock, fits-so, ask-made, used_made}
use Rattle.dlm_core.proofs.Growing.{Head, stands-idle, some-standing, wanted-queued}
use Rattle.dlm_core.proofs.Growing.Head.{Raise, Lower, Leave}
use Rattle.dlm_core.proofs.Safety.{held-stands}
use Rattle.dlm_core.proofs.Takes.{Call, called_so, told-here, told-other, call-sound, served-sound}
use Rattle.dlm_core.proofs.Passing.{kind-itself, First, call-first, ask-call, drop-call, can-drop, head-drop}
use Rattle.dlm_core.proofs.Sending.{not-about}
use Rattle.dlm_core.proofs.Tracing.{Each, Says}
use Rattle.dlm_core.proofs.Truth.{each-past, each-find}
use Rattle.dlm_core.proofs.Holding.{calls_of, lock_in, calls_in, block_in, seen_block, ValOf, GrantOK, Values, val-same, alone, map-none, served-values}

true-false : true ≡ false → ⊥
true-false e = cc

-- ---- a grant

calls-past : (s : State) (from to : ℕ) (m : Message) (p : Owner) (y : LockName) → find (is_between from to) s.mail ≡ Some m → has_kind false m.letter ≡ false → calls_of p y (past_first (is_between from to) s.mail) ≡ calls_of p y s.mail
calls-past s from to m p y f k = mails-past false p y from to s.mail m f (rw k refl)

past-val : (r : Option ℕ) (vs : List (List ℕ)) (y : LockName) (s : State) (ms : List Message) → ((p : Owner) → calls_of p y ms ≡ calls_of p y s.mail) → ValOf r vs y s → ValOf r vs y (record s { mail = ms })
past-val None vs y s ms c v = val-same vs (lock_in None y s) (lock_in None y s) (calls_in None y s) (λ o. calls_of o y ms) (block_in y s) (block_in y s) (λ o. refl) c refl v
past-val (Some d) vs y s ms c v = λ k f.
    val-same vs (lock_in (Some d) y s) (lock_in (Some d) y s) (calls_in (Some d) y s) (λ o. calls_of o y s.kept ++ calls_of o y ms) (seen_block (hold_at k y s.claims).seen) (seen_block (hold_at k y s.claims).seen) (λ o. refl)
    (λ o. ap (λ (ns : List Message). calls_of o y s.kept ++ ns) (c o)) refl (v k f)

-- what holds notes is no matter of the blocks at the masters
holds-val : (r : Option ℕ) (vs : List (List ℕ)) (y : LockName) (s : State) (m : Message) (w : Mode) (v : Bool) → ValOf r vs y s → ValOf r vs y (granted m w v s)
holds-val None vs y s m w v a = a
holds-val (Some d) vs y s m w v a = a

grant-says : (R : LockName → List (List ℕ)) (m : Message) (w : Mode) (v : Bool) → m.letter ≡ Grant w v → GrantOK R m → is_strong (Some w) ≡ true → OK (R m.name) (marked v m.value)
grant-says R m w v e g = let k : Says (λ n u. is_strong (Some n) ≡ true → OK (R m.name) (marked u m.value)) (Grant w v) = subst (λ (l : Letter). Says (λ n u. is_strong (Some n) ≡ true → OK (R m.name) (marked u m.value)) l) e g in k

pub granted-values : (R : LockName → List (List ℕ)) (s : State) (from to : ℕ) (m : Message) (w : Mode) (v : Bool) → find (is_between from to) s.mail ≡ Some m → m.letter ≡ Grant w v → Values R s
    → Values R (granted m w v (record s { mail = past_first (is_between from to) s.mail }))
granted-values R s from to m w v f l a =
    let ms : List Message = past_first (is_between from to) s.mail in
    let h : Hold = record { owner = m.owner; name = m.name; belief = Some w; wait = None; seen = record { value = m.value; valid = v; version = m.version } } in
    let plain : has_kind false m.letter ≡ false = ap (has_kind false) l in
    let mine : is_strong (Some w) ≡ true → OK (R m.name) (marked v m.value) = grant-says R m w v l (each-find (GrantOK R) (is_between from to) s.mail m a.given f) in
    record {
      val = λ x. holds-val (recovery x s) (R x) x (record s { mail = ms }) m w v (past-val (recovery x s) (R x) x s ms (λ p. calls-past s from to m p x f plain) (a.val x));
      read = λ p y. (elim (is_at p y h) as (λ b. is_at p y h ≡ b → is_strong (hold_at p y (noted h s.holds)).belief ≡ true → OK (R y) (seen_block (hold_at p y (noted h s.holds)).seen)) [
        | true ↦ λ e. rw (← at-owner p y h e, ← at-name p y h e) (subst (λ (k : Hold). is_strong k.belief ≡ true → OK (R h.name) (seen_block k.seen)) (sym (noted-here h s.holds)) mine)
        | false ↦ λ e. subst (λ (k : Hold). is_strong k.belief ≡ true → OK (R y) (seen_block k.seen)) (sym (noted-other p y h s.holds e)) (a.read p y)
      ]) refl;
      given = each-past (GrantOK R) (is_between from to) s.mail a.given;
      waits = a.waits;
    }

-- ---- a claim, and a call that is kept back

pub claim-values : (R : LockName → List (List ℕ)) (s : State) (from to : ℕ) (m : Message) (d : ℕ) → find (is_between from to) s.mail ≡ Some m → m.letter ≡ Claim d → Values R s → Values R (record s { mail = past_first (is_between from to) s.mail })
claim-values R s from to m d f l a = record {
  val = λ x. past-val (recovery x s) (R x) x s (past_first (is_between from to) s.mail) (λ p. calls-past s from to m p x f (ap (has_kind false) l)) (a.val x);
  read = a.read;
  given = each-past (GrantOK R) (is_between from to) s.mail a.given;
  waits = a.waits;
}

kept-calls : (s : State) (from to : ℕ) (m : Message) (p : Owner) (y : LockName) → IsSound s → find (is_between from to) s.mail ≡ Some m → is_call m.letter ≡ true
    → calls_of p y (s.kept ++ (m ∷ [])) ++ calls_of p y (past_first (is_between from to) s.mail) ≡ calls_of p y s.kept ++ calls_of p y s.mail
kept-calls s from to m p y i f c =
    let ms : List Message = past_first (is_between from to) s.mail in
    let k : List Message = calls_of p y s.kept in
    (elim (is_kind false p y m) as (λ b. is_kind false p y m ≡ b → calls_of p y (s.kept ++ (m ∷ [])) ++ calls_of p y ms ≡ k ++ calls_of p y s.mail) [
      | true ↦ λ e.
          let put : calls_of p y (s.kept ++ (m ∷ [])) ≡ k ++ (m ∷ []) = filter-append (is_kind false p y) s.kept (m ∷ []) ∙ ap (λ (ns : List Message). k ++ ns) (rw e refl) in
          rw (put, mails-first s false p y from to s.mail m i.addressed f e) (append_assoc k (m ∷ []) (calls_of p y ms))
      | false ↦ λ e.
          let put : calls_of p y (s.kept ++ (m ∷ [])) ≡ k = filter-append (is_kind false p y) s.kept (m ∷ []) ∙ ap (λ (ns : List Message). k ++ ns) (rw e refl) ∙ append-nil k in
          rw (put, mails-past false p y from to s.mail m f e) refl
    ]) refl

keep-val : (r : Option ℕ) (vs : List (List ℕ)) (y : LockName) (s : State) (from to : ℕ) (m : Message) → IsSound s → find (is_between from to) s.mail ≡ Some m → is_call m.letter ≡ true → (r ≡ None → (p : Owner) → is_kind false p y m ≡ false)
    → ValOf r vs y s → ValOf r vs y (record s { mail = past_first (is_between from to) s.mail; kept = s.kept ++ (m ∷ []) })
keep-val None vs y s from to m i f c k v =
    val-same vs (lock_in None y s) (lock_in None y s) (calls_in None y s) (λ o. calls_of o y (past_first (is_between from to) s.mail)) (block_in y s) (block_in y s) (λ o. refl) (λ o. mails-past false o y from to s.mail m f (k refl o)) refl v
keep-val (Some d) vs y s from to m i f c k v = λ h e.
    val-same vs (lock_in (Some d) y s) (lock_in (Some d) y s) (calls_in (Some d) y s) (λ o. calls_of o y (s.kept ++ (m ∷ [])) ++ calls_of o y (past_first (is_between from to) s.mail)) (seen_block (hold_at h y s.claims).seen) (seen_block (hold_at h y s.claims).seen) (λ o. refl)
    (λ o. kept-calls s from to m o y i f c) refl (v h e)

not-open : (s : State) (m : Message) (y : LockName) → is_some (recovery m.name s) ≡ true → recovery y s ≡ None → (p : Owner) → is_kind false p y m ≡ false
not-open s m y r n p =
    (elim (is_kind false p y m) as (λ b. is_kind false p y m ≡ b → b ≡ false) [
      | true ↦ λ e.
          let about = and-right (has_kind false m.letter) (is_about p y m) e in
          let named : m.name ≡ y = is_same-same m.name y (and-right (same_owner m.owner p) (is_same m.name y) about) in
          sym (subst (λ (z : LockName). is_some (recovery z s) ≡ true) named r) ∙ ap is_some n
      | false ↦ λ e. refl
    ]) refl

pub keep-values : (R : LockName → List (List ℕ)) (s : State) (from to : ℕ) (m : Message) → IsSound s → find (is_between from to) s.mail ≡ Some m → is_call m.letter ≡ true → is_some (recovery m.name s) ≡ true → Values R s
    → Values R (record s { mail = past_first (is_between from to) s.mail; kept = s.kept ++ (m ∷ []) })
keep-values R s from to m i f c r a = record {
  val = λ x. keep-val (recovery x s) (R x) x s from to m i f c (not-open s m x r) (a.val x);
  read = a.read;
  given = each-past (GrantOK R) (is_between from to) s.mail a.given;
  waits = a.waits;
}

-- ---- a call is taken

abbrev pub zeros : List ℕ
zeros = replicate 16 0

abbrev pub block_at1 : LockName → List Resource → Option (List ℕ)
block_at1 x t = marked (resource_at x t).valid (resource_at x t).value

abbrev pub lock_at1 : LockName → List Resource → Owner → Option Mode
lock_at1 x t o = option_and_then held (standing_of o (resource_at x t).askers)

-- What the call of an owner makes of the block: behind its other calls it is what it was to be. Only a lock that may write changes it.
-- If nobody is left it is zeros.
pub record Made1 (s : State) (m : Message) (ms : List Message) (t : List Resource) : Type 0 where
  pub behind : is_used (resource_at m.name t) ≡ true → ahead (lock_at1 m.name t m.owner) (calls_of m.owner m.name ms) (block_at1 m.name t) ≡ ahead (lock_in None m.name s m.owner) (calls_in None m.name s m.owner) (block_in m.name s)
  pub quiet : is_used (resource_at m.name t) ≡ true → is_writing_held (lock_in None m.name s m.owner) ≡ false → block_at1 m.name t ≡ block_in m.name s
  pub gone : is_used (resource_at m.name t) ≡ false → block_at1 m.name t ≡ Some zeros

-- who is served by another's call has called nothing, and goes on writing
pub serves : (s2 : Option Standing) (o : Owner) (x : LockName) (st : Option Standing) (c : List Message) (grants : List Letter) (qu : List Waiter) (be wa : Option Mode) → Served st s2 → IsLane o x st (letters c) grants qu be wa
    → (is_writing_held (option_and_then held s2) ≡ false → is_writing_held (option_and_then held st) ≡ false) × (Stays (option_and_then held st) (option_and_then held s2) c c)
serves s2 o x st c grants qu be wa (inl e) l =
    let h : option_and_then held s2 ≡ option_and_then held st = ap (λ (z : Option Standing). option_and_then held z) e in
    (λ k. ap is_writing_held (sym h) ∙ k, inl (h, refl))
serves s2 o x st c grants qu be wa (inr (s0, b, i, a)) (Sends lock before s gr q ca lo mw) = absurd (stands-idle lock s0 (sym s ∙ b) i)
serves s2 o x st c grants qu be wa (inr (s0, b, i, a)) (Comes w wt s ca ig q ra) = absurd (stands-idle (Some w) s0 (sym s ∙ b) i)
serves s2 o x st c grants qu be wa (inr (s0, b, i, a)) (Stands w wt s ca gr q ra) =
    let is : s0 ≡ queued_as be w = some-standing s0 (queued_as be w) (sym b ∙ s) in
    let so : s2 ≡ Some (Granted w) = a ∙ rw is (ap (λ (n : Mode). Some (Granted n)) (wanted-queued be w)) in
    let now : option_and_then held s2 ≡ Some w = ap (λ (z : Option Standing). option_and_then held z) so in
    let none : c ≡ [] = map-none c ca in
    let was : option_and_then held st ≡ held (queued_as be w) = ap (λ (z : Option Standing). option_and_then held z) s in
    (λ k. ap is_writing_held was ∙ still be w ra (sym (ap is_writing_held now) ∙ k), inr (none, none))
  where
    still : (be : Option Mode) (w : Mode) → raises be w ≡ true → is_writing w ≡ false → is_writing_held (held (queued_as be w)) ≡ false
    still None w r q = refl
    still (Some b) w r q = raise-writes b w r q

pub unused : (xs : List Asker) → not (length xs == 0) ≡ false → xs ≡ []
unused [] e = refl
unused (a ∷ xs) e = absurd (let k : length (a ∷ xs) ≡ 0 = grind arith in omega (arith, k))

pub nobody-stands : (x : LockName) (t : List Resource) (o : Owner) → is_used (resource_at x t) ≡ false → is_writing_held (lock_at1 x t o) ≡ false
nobody-stands x t o e = ap (λ (xs : List Asker). is_writing_held (option_and_then held (standing_of o xs))) (unused (resource_at x t).askers e)

module _ (R : LockName → List (List ℕ)) (s : State) (m : Message) (ms : List Message) (t : List Resource) (q : List Waiter) (vs : List Version) (i : IsSound s) (c : Call s m ms t q) (a : Values R s)
    (calls : (p : Owner) (y : LockName) → is_about p y m ≡ false → calls_of p y ms ≡ calls_of p y s.mail) (made : Made1 s m ms t) (zero1 : is_used (resource_at m.name t) ≡ false → Contains (R m.name) zeros) (left : Each (GrantOK R) ms) where
  abbrev now : State
  now = called_so s m.name ms t q vs

  told-now : told_at m.name now ≡ resource_at m.name t
  told-now = told-here s.nodes m.name s.tables t i.some_node i.each_has_one

  lock-now : (o : Owner) → lock_in None m.name now o ≡ lock_at1 m.name t o
  lock-now o = ap (λ (r : Resource). option_and_then held (standing_of o r.askers)) told-now

  block-now : block_in m.name now ≡ block_at1 m.name t
  block-now = ap (λ (r : Resource). marked r.valid r.value) told-now

  apart : (p : Owner) → p ≢ m.owner → same_owner m.owner p ≡ false
  apart p d = (elim (same_owner m.owner p) as (λ b. same_owner m.owner p ≡ b → b ≡ false) [ true ↦ λ e. absurd (d (sym (same_owner-same m.owner p e))) | false ↦ λ e. refl ]) refl

  beside : (p : Owner) → p ≢ m.owner
      → (is_writing_held (lock_at1 m.name t p) ≡ false → is_writing_held (lock_in None m.name s p) ≡ false) × (Stays (lock_in None m.name s p) (lock_at1 m.name t p) (calls_in None m.name s p) (calls_of p m.name ms))
  beside p d =
      let e = apart p d in
      let lane : LaneOf None p m.name s = subst (λ (r : Option ℕ). LaneOf r p m.name s) c.open_name (i.lanes p m.name) in
      let k = serves (standing_of p (resource_at m.name t).askers) p m.name (standing_at p m.name s) (calls_of p m.name s.mail) (letters_of true p m.name s.mail) (waiters_of p m.name s.queue) (hold_at p m.name s.holds).belief (hold_at p m.name s.holds).wait (c.here p e) lane in
      let same : calls_of p m.name ms ≡ calls_of p m.name s.mail = calls p m.name (rw e refl) in
      (k.0, subst (λ (ns : List Message). Stays (lock_in None m.name s p) (lock_at1 m.name t p) (calls_in None m.name s p) ns) (sym same) k.1)

  val-here : ValOf None (R m.name) m.name now
  val-here =
      let v : ValOf None (R m.name) m.name s = subst (λ (r : Option ℕ). ValOf r (R m.name) m.name s) c.open_name (a.val m.name) in
      val-same (R m.name) (lock_at1 m.name t) (lock_in None m.name now) (λ o. calls_of o m.name ms) (calls_in None m.name now) (block_at1 m.name t) (block_in m.name now) lock-now (λ o. refl) block-now (
      (elim (is_used (resource_at m.name t)) as (λ b. is_used (resource_at m.name t) ≡ b → Val (R m.name) (lock_at1 m.name t) (λ o. calls_of o m.name ms) (block_at1 m.name t)) [
        | true ↦ λ u. step-val (R m.name) (lock_in None m.name s) (lock_at1 m.name t) (calls_in None m.name s) (λ o. calls_of o m.name ms) (block_in m.name s) (block_at1 m.name t) m.owner
            (λ p d. (beside p d).0) (λ p d. (beside p d).1) (made.behind u) (made.quiet u) (alone None m.name s i) v
        | false ↦ λ u. gone-val (R m.name) (lock_at1 m.name t) (λ o. calls_of o m.name ms) (block_at1 m.name t) (λ p. nobody-stands m.name t p u) (subst (λ (b : Option (List ℕ)). OK (R m.name) b) (sym (made.gone u)) (zero1 u))
      ]) refl)

  val-beside : (r : Option ℕ) (y : LockName) → is_same m.name y ≡ false → ValOf r (R y) y s → ValOf r (R y) y now
  val-beside None y e v =
      let d : y ≢ m.name = λ k. true-false (sym (rw k (is_same-refl m.name)) ∙ e) in
      let told : told_at y now ≡ told_at y s = told-other s.nodes m.name y s.tables t i.some_node i.each_has_one d c.others in
      val-same (R y) (lock_in None y s) (lock_in None y now) (calls_in None y s) (calls_in None y now) (block_in y s) (block_in y now) (λ o. ap (λ (z : Resource). option_and_then held (standing_of o z.askers)) told)
      (λ o. calls o y (other o y e)) (ap (λ (z : Resource). marked z.valid z.value) told) v
    where
      other : (o : Owner) (y : LockName) → is_same m.name y ≡ false → is_about o y m ≡ false
      other o y e = (elim (same_owner m.owner o) as (λ b. (b && is_same m.name y) ≡ false) [ true ↦ e | false ↦ refl ])
  val-beside (Some d) y e v = λ k f.
      val-same (R y) (lock_in (Some d) y s) (lock_in (Some d) y now) (calls_in (Some d) y s) (calls_in (Some d) y now) (seen_block (hold_at k y s.claims).seen) (seen_block (hold_at k y s.claims).seen) (λ o. refl)
      (λ o. ap (λ (ns : List Message). calls_of o y s.kept ++ ns) (calls o y (other o y e))) refl (v k f)
    where
      other : (o : Owner) (y : LockName) → is_same m.name y ≡ false → is_about o y m ≡ false
      other o y e = (elim (same_owner m.owner o) as (λ b. (b && is_same m.name y) ≡ false) [ true ↦ e | false ↦ refl ])

  pub call-values : Values R now
  call-values = record {
    val = λ y. (elim (is_same m.name y) as (λ b. is_same m.name y ≡ b → ValOf (recovery y s) (R y) y now) [
      | true ↦ λ e. subst (λ (z : LockName). ValOf (recovery z s) (R z) z now) (is_same-same m.name y e) (subst (λ (r : Option ℕ). ValOf r (R m.name) m.name now) (sym c.open_name) val-here)
      | false ↦ λ e. val-beside (recovery y s) y e (a.val y)
    ]) refl;
    read = a.read;
    given = left;
    waits = a.waits;
  }

-- ---- what the call of an owner makes of the block

block-stays : (r r2 : Resource) → BlockStays r r2 → marked r2.valid r2.value ≡ marked r.valid r.value
block-stays r r2 b = rw (b.bytes, b.mark) refl

block-is : (v : List ℕ) (r2 : Resource) → BlockIs v true r2 → marked r2.valid r2.value ≡ Some v
block-is v r2 b = rw (b.bytes_are, b.mark_is) refl

raise-silent : (be : Option Mode) (w : Mode) → raises be w ≡ true → writes be (Ask w) ≡ false
raise-silent None w r = refl
raise-silent (Some k) w r = let n : is_lowering k w ≡ false = raises-not_lower (Some k) w r in rw n (and-no (is_writing k))
  where
    and-no : (b : Bool) → (b && false) ≡ false
    and-no true = refl
    and-no false = refl

lower-speaks : (k w : Mode) → is_lowering k w ≡ true → writes (Some k) (Ask w) ≡ is_writing k
lower-speaks k w d = rw d (and-yes (is_writing k))
  where
    and-yes : (b : Bool) → (b && true) ≡ b
    and-yes true = refl
    and-yes false = refl

-- a conversion of a lock
converted-block : (x : LockName) (o : Owner) (k w : Mode) (v : List ℕ) (t : List Resource) → lock_of o (resource_at x t).askers ≡ Some k → (b : Bool) → conversion_writes k w ≡ b → block_at1 x (converted x o w v t) ≡ wrote_then b v (block_at1 x t)
converted-block x o k w v t l b e =
    let r : Resource = resource_at x t in
    let some : IsSome (lock_of o r.askers) = rw l refl in
    let c : conversion_writes (mode_held o r) w ≡ b = ap (λ (z : Mode). conversion_writes z w) (lock-is o r k l) ∙ e in
    let all = conversions-write x o w v t some in
    done b (subst (λ (z : Bool). MatchBool z (BlockIs v true (resource_at x (converted x o w v t))) (BlockStays r (resource_at x (converted x o w v t)))) c all)
  where
    done : (b : Bool) → MatchBool b (BlockIs v true (resource_at x (converted x o w v t))) (BlockStays (resource_at x t) (resource_at x (converted x o w v t))) → block_at1 x (converted x o w v t) ≡ wrote_then b v (block_at1 x t)
    done true k = block-is v (resource_at x (converted x o w v t)) k
    done false k = block-stays (resource_at x t) (resource_at x (converted x o w v t)) k

-- an ask of a lock that stands as this
pub ask-block : (m : Message) (w : Mode) (lock : Option Mode) (t : List Resource) (b : Bool) → standing_of m.owner (resource_at m.name t).askers ≡ stands_as lock → crosses lock w ≡ false → writes lock (Ask w) ≡ b
    → ((k : Mode) → lock ≡ Some k → conversion_writes k w ≡ b) → block_at1 m.name (ask_made m lock w t) ≡ wrote_then b m.value (block_at1 m.name t)
ask-block m w None t true st c e h = cc
ask-block m w None t false st c e h =
    rw (fits-so m w None t st c) (block-stays (resource_at m.name t) (resource_at m.name (asked m.name m.owner w t)) (requests-keep m.name m.owner w t).0)
ask-block m w (Some k) t b st c e h = rw (fits-so m w (Some k) t st c) (converted-block m.name m.owner k w m.value t (can-lock (Some k) (standing_of m.owner (resource_at m.name t).askers) st) b (h k refl))

-- the first of its owner's calls
pub first-calls : (s : State) (from to : ℕ) (m : Message) → IsSound s → First s from to m → has_kind false m.letter ≡ true → calls_of m.owner m.name s.mail ≡ m ∷ calls_of m.owner m.name (past_first (is_between from to) s.mail)
first-calls s from to m i a k = mails-first s false m.owner m.name from to s.mail m i.addressed a.first (kind-itself false m k)

used-not : (b : Bool) → b ≡ true → b ≡ false → ⊥
used-not b e f = cc

pub ask-made1 : (s : State) (from to : ℕ) (m : Message) (w : Mode) (old : Option Mode) (c grants : List Letter) (qu : List Waiter) (be wa : Option Mode) → IsSound s → m.letter ≡ Ask w
    → calls_of m.owner m.name s.mail ≡ m ∷ calls_of m.owner m.name (past_first (is_between from to) s.mail) → c ≡ letters (calls_of m.owner m.name (past_first (is_between from to) s.mail))
    → mode_of m.owner (told_at m.name s).askers ≡ old → Head m.owner m.name (standing_at m.owner m.name s) m.letter c grants qu be wa
    → Made1 s m (past_first (is_between from to) s.mail) (ask_made m old w (table_at (home s.nodes m.name) s.tables))
ask-made1 s from to m w old c grants qu be wa i l first ce oe (Raise v lv re st gr e wt ra) =
    let t : List Resource = table_at (home s.nodes m.name) s.tables in
    let ms : List Message = past_first (is_between from to) s.mail in
    let same : v ≡ w = let z : Ask v ≡ Ask w = sym lv ∙ l in cc in
    let up : raises be w ≡ true = rw (← same) ra in
    let is : old ≡ be = sym oe ∙ can-mode be (standing_at m.owner m.name s) st in
    let none : calls_of m.owner m.name ms ≡ [] = map-none (calls_of m.owner m.name ms) (sym ce ∙ re) in
    let silent : writes be (Ask w) ≡ false = raise-silent be w up in
    let stays : block_at1 m.name (ask_made m be w t) ≡ block_at1 m.name t = ask-block m w be t false st (raises-not_across be w up) silent (λ k q. raise-keeps k w (subst (λ (z : Option Mode). raises z w ≡ true) q up)) in
    let lock : lock_in None m.name s m.owner ≡ be = ap (λ (z : Option Standing). option_and_then held z) st ∙ held-stands be in
    rw is (record {
      behind = λ u. ap (λ (ns : List Message). ahead (lock_at1 m.name (ask_made m be w t) m.owner) ns (block_at1 m.name (ask_made m be w t))) none ∙ stays
          ∙ sym (ap (λ (ns : List Message). ahead (lock_in None m.name s m.owner) ns (block_in m.name s)) (first ∙ ap (λ (ns : List Message). m ∷ ns) none) ∙ ap (λ (z : Bool). wrote_then z m.value (block_in m.name s)) (ap (λ (z : Option Mode). writes z m.letter) lock ∙ ap (writes be) l ∙ silent));
      quiet = λ u k. stays;
      gone = λ u. absurd (used-not (is_used (resource_at m.name (ask_made m be w t))) (used_made m be w t (sym is ∙ sym oe)) u);
    })
ask-made1 s from to m w old c grants qu be wa i l first ce oe (Lower k v lv st d close) =
    let t : List Resource = table_at (home s.nodes m.name) s.tables in
    let ms : List Message = past_first (is_between from to) s.mail in
    let same : v ≡ w = let z : Ask v ≡ Ask w = sym lv ∙ l in cc in
    let down : is_lowering k w ≡ true = rw (← same) d in
    let is : old ≡ Some k = sym oe ∙ can-mode (Some k) (standing_at m.owner m.name s) st in
    let t2 : List Resource = ask_made m (Some k) w t in
    let speaks : writes (Some k) (Ask w) ≡ is_writing k = lower-speaks k w down in
    let now : block_at1 m.name t2 ≡ wrote_then (is_writing k) m.value (block_at1 m.name t) = ask-block m w (Some k) t (is_writing k) st (lowering-not_across k w down) speaks (λ j q. ap (λ (z : Mode). conversion_writes z w) (sym (let z : Some k ≡ Some j = q in let y : k ≡ j = cc in y)) ∙ lower-writes k w down) in
    let made = ask-made m w (Some k) t (i.tables_are (home s.nodes m.name)) st (lowering-not_across k w down) in
    let lock2 : lock_at1 m.name t2 m.owner ≡ Some w = ap (λ (z : Option Standing). option_and_then held z) (granted-so made.own) in
    let lock : lock_in None m.name s m.owner ≡ Some k = ap (λ (z : Option Standing). option_and_then held z) st in
    rw is (record {
      behind = λ u. ap (λ (z : Option Mode). ahead z (calls_of m.owner m.name ms) (block_at1 m.name t2)) lock2 ∙ ap (ahead (Some w) (calls_of m.owner m.name ms)) now
          ∙ sym (ap (λ (ns : List Message). ahead (lock_in None m.name s m.owner) ns (block_in m.name s)) first ∙ ap (λ (z : Option Mode). ahead z (m ∷ calls_of m.owner m.name ms) (block_in m.name s)) lock ∙ ap (λ (z : Letter). ahead (next_lock (Some k) z) (calls_of m.owner m.name ms) (wrote_then (writes (Some k) z) m.value (block_in m.name s))) l
          ∙ ap (λ (z : Option Mode). ahead z (calls_of m.owner m.name ms) (wrote_then (writes (Some k) (Ask w)) m.value (block_in m.name s))) (next-lower down) ∙ ap (λ (z : Bool). ahead (Some w) (calls_of m.owner m.name ms) (wrote_then z m.value (block_in m.name s))) speaks);
      quiet = λ u q. now ∙ ap (λ (z : Bool). wrote_then z m.value (block_at1 m.name t)) (sym (ap is_writing_held lock) ∙ q);
      gone = λ u. absurd (used-not (is_used (resource_at m.name t2)) (used_made m (Some k) w t (sym is ∙ sym oe)) u);
    })
  where
    granted-so : {st2 : Option Standing} → (st2 ≡ Some (Granted w)) ⊎ ((is_lowering k w ≡ false) × (st2 ≡ Some (queued_as (Some k) w))) → st2 ≡ Some (Granted w)
    granted-so (inl e) = e
    granted-so (inr e) = let z : Ask v ≡ Ask w = sym lv ∙ l in let same : v ≡ w = cc in absurd (true-false (sym d ∙ ap (is_lowering k) same ∙ e.0))

    next-lower : is_lowering k w ≡ true → next_lock (Some k) (Ask w) ≡ Some w
    next-lower e = rw e refl
ask-made1 s from to m w old c grants qu be wa i l first ce oe (Leave k lv st close) = let n : Ask w ≡ Drop = sym l ∙ lv in cc

-- a release, by whether anybody is left
released-block : (x : LockName) (o : Owner) (k : Mode) (v : List ℕ) (t : List Resource) → lock_of o (resource_at x t).askers ≡ Some k → is_used (resource_at x (released x o v t)) ≡ true → block_at1 x (released x o v t) ≡ wrote_then (is_writing k) v (block_at1 x t)
released-block x o k v t l u =
    let r : Resource = resource_at x t in
    let new : Resource = released_of o v r in
    let at = released-at x o v t in
    let c : is_writing (mode_held o r) ≡ is_writing k = ap is_writing (lock-is o r k l) in
    rw at (
    (elim (is_used new) as (λ b. is_used (if b then new else fresh new.name) ≡ true → marked (if b then new else fresh new.name).valid (if b then new else fresh new.name).value ≡ wrote_then (is_writing k) v (block_at1 x t)) [
      | true ↦ λ q. writes-so (is_writing (mode_held o r)) (record r { askers = settled (without o r.askers) }) ∙ ap (λ (b : Bool). wrote_then b v (block_at1 x t)) c
      | false ↦ λ q. cc
    ]) (ap is_used (sym at) ∙ u))
  where
    writes-so : (b : Bool) (r1 : Resource) → marked (written b v r1).valid (written b v r1).value ≡ wrote_then b v (marked r1.valid r1.value)
    writes-so true r1 = refl
    writes-so false r1 = refl

released-gone : (x : LockName) (o : Owner) (v : List ℕ) (t : List Resource) → is_used (resource_at x (released x o v t)) ≡ false → block_at1 x (released x o v t) ≡ Some zeros
released-gone x o v t u =
    let new : Resource = released_of o v (resource_at x t) in
    let at = released-at x o v t in
    rw at (
    (elim (is_used new) as (λ b. is_used new ≡ b → is_used (if b then new else fresh new.name) ≡ false → marked (if b then new else fresh new.name).valid (if b then new else fresh new.name).value ≡ Some zeros) [
      | true ↦ λ e q. absurd (used-not (is_used new) e q)
      | false ↦ λ e q. refl
    ]) refl (ap is_used (sym at) ∙ u))

drop-made1 : (s : State) (from to : ℕ) (m : Message) (c grants : List Letter) (qu : List Waiter) (be wa : Option Mode) → m.letter ≡ Drop
    → calls_of m.owner m.name s.mail ≡ m ∷ calls_of m.owner m.name (past_first (is_between from to) s.mail) → Head m.owner m.name (standing_at m.owner m.name s) m.letter c grants qu be wa
    → Made1 s m (past_first (is_between from to) s.mail) (released m.name m.owner m.value (table_at (home s.nodes m.name) s.tables))
drop-made1 s from to m c grants qu be wa l first (Raise v lv re st gr e wt ra) = let z : Drop ≡ Ask v = sym l ∙ lv in cc
drop-made1 s from to m c grants qu be wa l first (Lower k v lv st d close) = let z : Drop ≡ Ask v = sym l ∙ lv in cc
drop-made1 s from to m c grants qu be wa l first (Leave k lv st close) =
    let t : List Resource = table_at (home s.nodes m.name) s.tables in
    let ms : List Message = past_first (is_between from to) s.mail in
    let t2 : List Resource = released m.name m.owner m.value t in
    let has : lock_of m.owner (resource_at m.name t).askers ≡ Some k = can-lock (Some k) (standing_at m.owner m.name s) st in
    let lock2 : lock_at1 m.name t2 m.owner ≡ None = ap (λ (z : Option Standing). option_and_then held z) (releases-leave m.name m.owner m.value t) in
    let lock : lock_in None m.name s m.owner ≡ Some k = ap (λ (z : Option Standing). option_and_then held z) st in
    record {
      behind = λ u. ap (λ (z : Option Mode). ahead z (calls_of m.owner m.name ms) (block_at1 m.name t2)) lock2 ∙ ap (ahead None (calls_of m.owner m.name ms)) (released-block m.name m.owner k m.value t has u)
          ∙ sym (ap (λ (ns : List Message). ahead (lock_in None m.name s m.owner) ns (block_in m.name s)) first ∙ ap (λ (z : Option Mode). ahead z (m ∷ calls_of m.owner m.name ms) (block_in m.name s)) lock ∙ ap (λ (z : Letter). ahead (next_lock (Some k) z) (calls_of m.owner m.name ms) (wrote_then (writes (Some k) z) m.value (block_in m.name s))) l);
      quiet = λ u q. released-block m.name m.owner k m.value t has u ∙ ap (λ (z : Bool). wrote_then z m.value (block_at1 m.name t)) (sym (ap is_writing_held lock) ∙ q);
      gone = λ u. released-gone m.name m.owner m.value t u;
    }

-- ---- the master takes a call

about-calls : (s : State) (from to : ℕ) (m : Message) → find (is_between from to) s.mail ≡ Some m → (p : Owner) (y : LockName) → is_about p y m ≡ false → calls_of p y (past_first (is_between from to) s.mail) ≡ calls_of p y s.mail
about-calls s from to m f p y e = mails-past false p y from to s.mail m f (not-about false p y m e)

take-values : (R : LockName → List (List ℕ)) (s : State) (from to : ℕ) (m : Message) (l : Letter) → IsSound s → find (is_between from to) s.mail ≡ Some m → is_call l ≡ true → recovery m.name s ≡ None → m.letter ≡ l → Values R s
    → (is_used (told_at m.name (taken_from m l (mode_of m.owner (told_at m.name s).askers) (table_at (home s.nodes m.name) s.tables) (record s { mail = past_first (is_between from to) s.mail }))) ≡ false → Contains (R m.name) zeros)
    → Values R (taken_from m l (mode_of m.owner (told_at m.name s).askers) (table_at (home s.nodes m.name) s.tables) (record s { mail = past_first (is_between from to) s.mail }))
take-values R s from to m (Ask w) i f c n e a z =
    let b = call-first s from to m i f (rw e refl) n in
    let t : List Resource = table_at (home s.nodes m.name) s.tables in
    let old : Option Mode = mode_of m.owner (told_at m.name s).askers in
    let ms : List Message = past_first (is_between from to) s.mail in
    let vs : List Version = versions_after m old t s.holds s.versions in
    let t2 : List Resource = ask_made m old w t in
    let q : List Waiter = put_last m old w s.queue in
    let call = ask-call s from to m w i b e in
    let made : Made1 s m ms t2 = ask-made1 s from to m w old (letters_of false m.owner m.name ms) (letters_of true m.owner m.name ms) (waiters_of m.owner m.name s.queue) (hold_at m.owner m.name s.holds).belief (hold_at m.owner m.name s.holds).wait i e
    (first-calls s from to m i b (ap (has_kind false) e)) refl refl b.head in
    let zero1 : is_used (resource_at m.name t2) ≡ false → Contains (R m.name) zeros = λ u. z (ap is_used (told-here s.nodes m.name s.tables t2 i.some_node i.each_has_one) ∙ u) in
    served-values R (called_so s m.name ms t2 q vs) (served-sound (called_so s m.name ms t2 q vs) (call-sound s m ms t2 q vs i call))
    (call-values R s m ms t2 q vs i call a (about-calls s from to m f) made zero1 (each-past (GrantOK R) (is_between from to) s.mail a.given))
take-values R s from to m Drop i f c n e a z =
    let b = call-first s from to m i f (rw e refl) n in
    let t : List Resource = table_at (home s.nodes m.name) s.tables in
    let old : Option Mode = mode_of m.owner (told_at m.name s).askers in
    let ms : List Message = past_first (is_between from to) s.mail in
    let vs : List Version = versions_after m old t s.holds s.versions in
    let t2 : List Resource = released m.name m.owner m.value t in
    let is : drop_made m old t ≡ t2 = can-drop m t old refl (head-drop m t _ _ _ _ _ e b.head) in
    let call = drop-call s from to m i b e in
    let made : Made1 s m ms t2 = drop-made1 s from to m (letters_of false m.owner m.name ms) (letters_of true m.owner m.name ms) (waiters_of m.owner m.name s.queue) (hold_at m.owner m.name s.holds).belief (hold_at m.owner m.name s.holds).wait e
    (first-calls s from to m i b (ap (has_kind false) e)) b.head in
    let zero1 : is_used (resource_at m.name t2) ≡ false → Contains (R m.name) zeros = λ u. z (ap is_used (told-here s.nodes m.name s.tables (drop_made m old t) i.some_node i.each_has_one) ∙ ap (λ (us : List Resource). is_used (resource_at m.name us)) is ∙ u) in
    rw is (served-values R (called_so s m.name ms t2 s.queue vs) (served-sound (called_so s m.name ms t2 s.queue vs) (call-sound s m ms t2 s.queue vs i call))
    (call-values R s m ms t2 s.queue vs i call a (about-calls s from to m f) made zero1 (each-past (GrantOK R) (is_between from to) s.mail a.given)))
take-values R s from to m (Grant w v) i f c n e a z = cc
take-values R s from to m (Claim d) i f c n e a z = cc

pub taken-values : (R : LockName → List (List ℕ)) (s : State) (from to : ℕ) (m : Message) → IsSound s → find (is_between from to) s.mail ≡ Some m → is_call m.letter ≡ true → recovery m.name s ≡ None → Values R s
    → (is_used (told_at m.name (taken m (record s { mail = past_first (is_between from to) s.mail }))) ≡ false → Contains (R m.name) zeros) → Values R (taken m (record s { mail = past_first (is_between from to) s.mail }))
taken-values R s from to m i f c n a z = take-values R s from to m m.letter i f c n refl a z
