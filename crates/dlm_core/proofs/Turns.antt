-- What may be read once an owner has called, and once it has got a grant.
use Rattle.std.proofs.Common.{◌≡◌, ◌≢◌, ◌&&◌, ◌++◌, ℕ, Bool, true, false, List, [], ◌∷◌, Option, Some, None, refl, arith, ap, sym, subst, ◌∙◌, if◌then◌else◌, replicate, append_assoc}
use Rattle.std.proofs.lemmas.List.{append-nil}
use Rattle.std.proofs.lemmas.List.Elements.{filter-append}
use Rattle.plain_cat.specs.declared.mode.Mode.{Mode}
use Rattle.lock_db.specs.declared.name.LockName.{LockName}
use Rattle.lock_db.specs.declared.name.Owner.{Owner}
use Rattle.lock_db.specs.Names.{is_same, same_owner}
use Rattle.lock_db.specs.Resources.{is_writing_held}
use Rattle.lock_db.proofs.Owners.{same_owner-same, same_owner-refl}
use Rattle.lock_db.proofs.Names.{is_same-same, is_same-refl}
use Rattle.dlm_core.specs.declared.messages.Letter.{Letter}
use Rattle.dlm_core.specs.declared.messages.Letter.TheVariants.{Ask, Drop, Grant, Claim}
use Rattle.dlm_core.specs.declared.messages.Message.{Message}
use Rattle.dlm_core.specs.declared.holds.Hold.{Hold}
use Rattle.dlm_core.specs.declared.blocks.Seen.{Seen}
use Rattle.dlm_core.specs.Modes.{writes}
use Rattle.dlm_core.specs.States.{State, recovery, is_at, hold_at}
use Rattle.dlm_core.specs.Steps.{is_call, call_to, seen_after, called}
use Rattle.dlm_core.specs.Recoveries.{is_strong}
use Rattle.dlm_core.specs.Lanes.{is_about, has_kind, is_kind, IsSound}
use Rattle.dlm_core.specs.Values.{bytes_if}
use Rattle.dlm_core.proofs.Ahead.{marked, OK, wrote, lock_behind, letters, behind-writes, push-val, writes-held}
use Rattle.dlm_core.proofs.Beliefs.{at-owner, at-name, noted-here, noted-other}
use Rattle.dlm_core.proofs.Sending.{calling, not-about}
use Rattle.dlm_core.proofs.Tracing.{each-append, each-both, Says}
use Rattle.dlm_core.proofs.Holding.{calls_of, lock_in, calls_in, block_in, seen_block, ValOf, GrantOK, Values, val-same, lone, believed-apart, owner-behind, Coming, Comes1, each-coming}

true-false : true ≡ false → ⊥
true-false e = cc

-- ---- a call

-- what may be read of each name once this one is written
abbrev pub rewrote : (LockName → List (List ℕ)) → Bool → LockName → ℕ → LockName → List (List ℕ)
rewrote R b x fill y = wrote (bytes_if (is_same x y && b) fill) (R y)

call-has : (l : Letter) → is_call l ≡ true → has_kind false l ≡ true
call-has l e = e

module _ (R : LockName → List (List ℕ)) (s : State) (old : Option Mode) (h : Hold) (l : Letter) (fill : ℕ) (i : IsSound s) (c : is_call l ≡ true)
    (be : (hold_at h.owner h.name s.holds).belief ≡ old) (w : (hold_at h.owner h.name s.holds).wait ≡ None) (sn : h.seen ≡ (hold_at h.owner h.name s.holds).seen)
    (up : writes old l ≡ false → is_strong h.belief ≡ true → is_strong old ≡ true) (a : Values R s) where
  abbrev m1 : Message
  m1 = call_to h.owner h.name old l fill s

  abbrev next : State
  next = called old h l fill s

  abbrev Q : LockName → List (List ℕ)
  Q = rewrote R (writes old l) h.name fill

  calls-out : (p : Owner) (y : LockName) → is_about p y m1 ≡ false → calls_of p y next.mail ≡ calls_of p y s.mail
  calls-out p y e =
      let none : is_kind false p y m1 ≡ false = not-about false p y m1 e in
      filter-append (is_kind false p y) s.mail (m1 ∷ []) ∙ ap (λ (ms : List Message). calls_of p y s.mail ++ ms) (rw none refl) ∙ append-nil (calls_of p y s.mail)

  calls-own : calls_of h.owner h.name next.mail ≡ calls_of h.owner h.name s.mail ++ (m1 ∷ [])
  calls-own =
      let kind : is_kind false h.owner h.name m1 ≡ true = rw (c, same_owner-refl h.owner, is_same-refl h.name) refl in
      filter-append (is_kind false h.owner h.name) s.mail (m1 ∷ []) ∙ ap (λ (ms : List Message). calls_of h.owner h.name s.mail ++ ms) (rw kind refl)

  other-owner : (p : Owner) → p ≢ h.owner → is_about p h.name m1 ≡ false
  other-owner p d =
      (elim (same_owner h.owner p) as (λ b. same_owner h.owner p ≡ b → (b && is_same h.name h.name) ≡ false) [
        | true ↦ λ e. absurd (d (sym (same_owner-same h.owner p e)))
        | false ↦ λ e. refl
      ]) refl

  other-name : (p : Owner) (y : LockName) → is_same h.name y ≡ false → is_about p y m1 ≡ false
  other-name p y e = (elim (same_owner h.owner p) as (λ b. (b && is_same h.name y) ≡ false) [ true ↦ e | false ↦ refl ])

  q-other : (y : LockName) → is_same h.name y ≡ false → Q y ≡ R y
  q-other y e = rw e refl

  q-own : Q h.name ≡ wrote (if writes old l then Some (replicate 16 fill) else None) (R h.name)
  q-own = rw (is_same-refl h.name) refl

  val-out : (r : Option ℕ) (vs : List (List ℕ)) (y : LockName) → is_same h.name y ≡ false → ValOf r vs y s → ValOf r vs y next
  val-out None vs y e v = val-same vs (lock_in None y s) (lock_in None y next) (calls_in None y s) (calls_in None y next) (block_in y s) (block_in y next) (λ o. refl) (λ o. calls-out o y (other-name o y e)) refl v
  val-out (Some d) vs y e v = λ k f.
      val-same vs (lock_in (Some d) y s) (lock_in (Some d) y next) (calls_in (Some d) y s) (calls_in (Some d) y next) (seen_block (hold_at k y s.claims).seen) (seen_block (hold_at k y s.claims).seen) (λ o. refl)
      (λ o. ap (λ (ms : List Message). calls_of o y s.kept ++ ms) (calls-out o y (other-name o y e))) refl (v k f)

  val-own : (r : Option ℕ) → lock_behind (lock_in r h.name s h.owner) (letters (calls_in r h.name s h.owner)) ≡ old → ValOf r (R h.name) h.name s
      → ValOf r (wrote (if writes old l then Some (replicate 16 fill) else None) (R h.name)) h.name next
  val-own None lb v = push-val (R h.name) (lock_in None h.name s) (calls_in None h.name s) (calls_in None h.name next) (block_in h.name s) h.owner m1 old (writes old l) lb refl calls-own (λ p d. calls-out p h.name (other-owner p d)) v
  val-own (Some d) lb v = λ k f.
      push-val (R h.name) (lock_in (Some d) h.name s) (calls_in (Some d) h.name s) (calls_in (Some d) h.name next) (seen_block (hold_at k h.name s.claims).seen) h.owner m1 old (writes old l) lb refl
      (ap (λ (ms : List Message). calls_of h.owner h.name s.kept ++ ms) calls-own ∙ sym (append_assoc (calls_of h.owner h.name s.kept) (calls_of h.owner h.name s.mail) (m1 ∷ [])))
      (λ p q. ap (λ (ms : List Message). calls_of p h.name s.kept ++ ms) (calls-out p h.name (other-owner p q))) (v k f)

  behind : lock_behind (lock_in (recovery h.name s) h.name s h.owner) (letters (calls_in (recovery h.name s) h.name s h.owner)) ≡ old
  behind = owner-behind (recovery h.name s) h.owner h.name s (a.waits h.owner h.name) w (i.lanes h.owner h.name) ∙ be

  all-val : (y : LockName) → ValOf (recovery y s) (Q y) y next
  all-val y =
      (elim (is_same h.name y) as (λ b. is_same h.name y ≡ b → ValOf (recovery y s) (Q y) y next) [
        | true ↦ λ e. subst (λ (z : LockName). ValOf (recovery z s) (Q z) z next) (is_same-same h.name y e)
            (subst (λ (vs : List (List ℕ)). ValOf (recovery h.name s) vs h.name next) (sym q-own) (val-own (recovery h.name s) behind (a.val h.name)))
        | false ↦ λ e. subst (λ (vs : List (List ℕ)). ValOf (recovery y s) vs y next) (sym (q-other y e)) (val-out (recovery y s) (R y) y e (a.val y))
      ]) refl

  -- where the name is written, nobody else has a strong lock there
  holds-write : writes old l ≡ true → is_writing_held (hold_at h.owner h.name s.holds).belief ≡ true
  holds-write e = ap is_writing_held be ∙ writes-held old l e

  contains-here : (b : Bool) (v : List ℕ) (vs : List (List ℕ)) → OK vs (marked b v) → OK vs (marked b v)
  contains-here b v vs k = k

  own-read : (b : Bool) → writes old l ≡ b → is_strong h.belief ≡ true
      → OK (wrote (if b then Some (replicate 16 fill) else None) (R h.name)) (seen_block (if b then record { value = replicate 16 fill; valid = true; version = m1.version } else h.seen))
  own-read true e k = (0, omega arith, refl)
  own-read false e k = subst (λ (v : Seen). OK (R h.name) (seen_block v)) (sym sn) (a.read h.owner h.name (ap is_strong be ∙ up e k))

  other-read : (p : Owner) (y : LockName) (b : Bool) → writes old l ≡ b → is_at p y h ≡ false → is_strong (hold_at p y s.holds).belief ≡ true → OK (wrote (bytes_if (is_same h.name y && b) fill) (R y)) (seen_block (hold_at p y s.holds).seen)
  other-read p y false e n k =
      (elim (is_same h.name y) as (λ c. OK (wrote (bytes_if (c && false) fill) (R y)) (seen_block (hold_at p y s.holds).seen)) [ true ↦ a.read p y k | false ↦ a.read p y k ])
  other-read p y true e n k =
      (elim (is_same h.name y) as (λ c. is_same h.name y ≡ c → OK (wrote (bytes_if (c && true) fill) (R y)) (seen_block (hold_at p y s.holds).seen)) [
        | true ↦ λ f.
            let d : h.owner ≢ p = λ q. true-false (sym (rw (q, same_owner-refl p, f) refl) ∙ n) in
            let named : h.name ≡ y = is_same-same h.name y f in
            let writer : is_writing_held (hold_at h.owner y s.holds).belief ≡ true = subst (λ (z : LockName). is_writing_held (hold_at h.owner z s.holds).belief ≡ true) named (holds-write e) in
            absurd (true-false (sym k ∙ believed-apart y s i h.owner p d writer))
        | false ↦ λ f. a.read p y k
      ]) refl

  all-read : (p : Owner) (y : LockName) → is_strong (hold_at p y next.holds).belief ≡ true → OK (Q y) (seen_block (hold_at p y next.holds).seen)
  all-read p y =
      (elim (is_at p y h) as (λ b. is_at p y h ≡ b → is_strong (hold_at p y next.holds).belief ≡ true → OK (Q y) (seen_block (hold_at p y next.holds).seen)) [
        | true ↦ λ e.
            rw (← at-owner p y h e, ← at-name p y h e) (
            subst (λ (k : Hold). is_strong k.belief ≡ true → OK (Q h.name) (seen_block k.seen)) (sym (noted-here (calling s old h l fill) s.holds))
            (λ k. subst (λ (vs : List (List ℕ)). OK vs (seen_block (seen_after old h m1))) (sym q-own) (own-read (writes old l) refl k)))
        | false ↦ λ e. subst (λ (k : Hold). is_strong k.belief ≡ true → OK (Q y) (seen_block k.seen)) (sym (noted-other p y (calling s old h l fill) s.holds e)) (λ k. other-read p y (writes old l) refl e k)
      ]) refl

  -- no strong grant of a name that is written is on its way
  one-given : (m : Message) (v : Mode) (b u : Bool) → writes old l ≡ b → Coming s m v → (is_strong (Some v) ≡ true → OK (R m.name) (marked u m.value)) → is_strong (Some v) ≡ true → OK (wrote (bytes_if (is_same h.name m.name && b) fill) (R m.name)) (marked u m.value)
  one-given m v false u e k g st = (elim (is_same h.name m.name) as (λ c. OK (wrote (bytes_if (c && false) fill) (R m.name)) (marked u m.value)) [ true ↦ g st | false ↦ g st ])
  one-given m v true u e k g st =
      (elim (is_same h.name m.name) as (λ c. is_same h.name m.name ≡ c → OK (wrote (bytes_if (c && true) fill) (R m.name)) (marked u m.value)) [
        | true ↦ λ f.
            let named : h.name ≡ m.name = is_same-same h.name m.name f in
            let d : h.owner ≢ m.owner = λ q. absurd (let z : None ≡ Some v = sym w ∙ rw (q, named) k.waits in cc) in
            let open_name : recovery h.name s ≡ None = rw named k.open_name in
            let lb : lock_behind (lock_in None h.name s h.owner) (letters (calls_in None h.name s h.owner)) ≡ old = subst (λ (r : Option ℕ). lock_behind (lock_in r h.name s h.owner) (letters (calls_in r h.name s h.owner)) ≡ old) open_name behind in
            let writer : is_writing_held (lock_in None h.name s h.owner) ≡ true = behind-writes (lock_in None h.name s h.owner) old (letters (calls_in None h.name s h.owner)) lb (writes-held old l e) in
            let weak : is_strong (lock_in None h.name s m.owner) ≡ false = lone None h.name s i h.owner m.owner d writer in
            let has : lock_in None h.name s m.owner ≡ Some v = rw (named, k.has) refl in
            absurd (true-false (sym st ∙ sym (ap is_strong has) ∙ weak))
        | false ↦ λ f. g st
      ]) refl

  says-given : (m : Message) (l2 : Letter) → Says (λ v u. Coming s m v) l2 → Says (λ v u. is_strong (Some v) ≡ true → OK (R m.name) (marked u m.value)) l2 → Says (λ v u. is_strong (Some v) ≡ true → OK (Q m.name) (marked u m.value)) l2
  says-given m (Ask v) k g = tt
  says-given m Drop k g = tt
  says-given m (Grant v u) k g = one-given m v (writes old l) u refl k g
  says-given m (Claim d) k g = tt

  plain-given : (l2 : Letter) → is_call l2 ≡ true → Says (λ v u. is_strong (Some v) ≡ true → OK (Q h.name) (marked u (replicate 16 fill))) l2
  plain-given (Ask v) e = tt
  plain-given Drop e = tt
  plain-given (Grant v u) e = cc
  plain-given (Claim d) e = cc

  pub called-values : Values Q next
  called-values = record {
    val = all-val;
    read = all-read;
    given = each-append (GrantOK Q) s.mail (m1 ∷ [])
        (each-both (Comes1 s) (GrantOK R) (GrantOK Q) s.mail (λ m k g. says-given m m.letter k g) (each-coming s [] s.mail i refl) a.given) (plain-given l c, tt);
    waits = a.waits;
  }
