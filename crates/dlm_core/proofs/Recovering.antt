-- The state stays sound when a recovery ends.
use Rattle.std.proofs.Common.{◌≡◌, ◌==◌, ◌&&◌, ◌||◌, ◌++◌, inl, inr, ◌⊎◌, Contains, ℕ, zero, suc, ◌-◌, Bool, true, false, not, List, [], ◌∷◌, Option, Some, None, is_some, map, filter, find, set, get_or, append_assoc, refl, cond, ap, sym, subst, ◌∙◌, if◌then◌else◌, unwrap_or}
use Rattle.std.specs.List.{list_all, list_any}
use Rattle.std.proofs.lemmas.List.{append-nil}
use Rattle.dlm_core.proofs.Shapes.{length-homes}
use Rattle.plain_cat.specs.declared.mode.Mode.{Mode}
use Rattle.plain_cat.specs.Modes.{compatible_modes}
use Rattle.lock_db.specs.declared.name.LockName.{LockName}
use Rattle.lock_db.specs.declared.name.Owner.{Owner}
use Rattle.lock_db.specs.declared.resource.Resource.{Resource}
use Rattle.lock_db.specs.Queues.{standing_of, mode_of}
use Rattle.lock_db.specs.Names.{is_same}
use Rattle.lock_db.proofs.Names.{is_same-same, is_same-refl}
use Rattle.lock_db.specs.Tables.{resource_at, recovered}
use Rattle.lock_db.proofs.Lists.{and-left, and-right, and-both, not-true, or-false_left, or-false_right, list_all-head, list_all-tail, list_all-filter, list_all-weaker, list_all-kept, list_all-joined, list_all-passing, list_all-every, find-filter, find-absent, find-push_yes, find-push_no}
use Rattle.dlm_core.specs.declared.messages.Letter.{Letter}
use Rattle.dlm_core.specs.declared.messages.Letter.TheVariants.{Ask, Drop, Grant, Claim}
use Rattle.dlm_core.specs.declared.messages.Message.{Message}
use Rattle.dlm_core.specs.declared.holds.Hold.{Hold}
use Rattle.dlm_core.specs.declared.homes.Home.{Home}
use Rattle.dlm_core.specs.declared.blocks.Seen.{Seen}
use Rattle.dlm_core.specs.declared.blocks.Version.{Version}
use Rattle.dlm_core.specs.declared.queue.Waiter.{Waiter}
use Rattle.dlm_core.specs.States.{State, version_at, noted_version, home, home_at, master, recovery, table_at, told_at, is_at, hold_at, is_between, past_first}
use Rattle.dlm_core.specs.Steps.{is_call, stands_as, grants_of, ask_made, put_last, drop_made, with_table, versions_after, taken_from, taken, taken_all}
use Rattle.dlm_core.specs.Recoveries.{is_of_recovery, is_name_of, is_with, block_for, again, made_again, reclaimed_lock, reclaimed, asked_again, asked_again_one, all_asked_again, settled_home, closed, ended, is_open, ended_if, all_ended}
use Rattle.dlm_core.specs.Lanes.{is_kind, letters_of, LaneOf, LaneAt, last_ask, standing_at, goes_between, is_addressed, is_kept, each_once, GoTogether, IsSound}
use Rattle.dlm_core.proofs.Mails.{letters-append, letters-none, kind-name}
use Rattle.dlm_core.proofs.Beliefs.{at-owner, at-name, once-filter}
use Rattle.dlm_core.proofs.Takes.{Call, called_so, call-sound, served-sound}
use Rattle.dlm_core.proofs.Passing.{call-first, ask-call, ask-stands, call-again, taken-sound, call-no_grant}
use Rattle.dlm_core.specs.Runs.{claimed_block, IsDue, IsClaimOf, MakesCall, Leads}
use Rattle.dlm_core.specs.Runs.IsStep.{Restores}
use Rattle.dlm_core.proofs.Others.{can-mode}
use Rattle.dlm_core.proofs.Tracing.{Each, one-ask, leads-here, leads-then}
use Rattle.dlm_core.specs.Restored.{has_lock}
use Rattle.dlm_core.proofs.Restoring.{Restored, restore-none, restore-one, claim-none, nothing_of, not-lock, other-lock}
use Rattle.dlm_core.proofs.Serving.{eq-self}

-- ---- the homes of a recovery that ends

settled-at : (d : ℕ) (hs : List Home) (i : ℕ) → get_or (map (settled_home d) hs) i (record { master = 0; recovers = None }) ≡ settled_home d (get_or hs i (record { master = 0; recovers = None }))
settled-at d [] i = refl
settled-at d (h ∷ hs) zero = refl
settled-at d (h ∷ hs) (suc i) = settled-at d hs i

settled-master : (d : ℕ) (h : Home) → (settled_home d h).master ≡ h.master
settled-master d h = (elim (is_of_recovery d h.recovers) as (λ b. (if b then record h { recovers = None } else h).master ≡ h.master) [ true ↦ refl | false ↦ refl ])

settled-recovers : (d : ℕ) (h : Home) → (settled_home d h).recovers ≡ (if is_of_recovery d h.recovers then None else h.recovers)
settled-recovers d h = (elim (is_of_recovery d h.recovers) as (λ b. (if b then record h { recovers = None } else h).recovers ≡ (if b then None else h.recovers)) [ true ↦ refl | false ↦ refl ])

master-closed : (d : ℕ) (x : LockName) (s : State) → master x (closed d s) ≡ master x s
master-closed d x s = ap (λ (h : Home). h.master) (settled-at d s.homes (home s.nodes x - 1)) ∙ settled-master d (home_at (home s.nodes x) s.homes)

recovery-closed : (d : ℕ) (x : LockName) (s : State) → recovery x (closed d s) ≡ (if is_name_of d s x then None else recovery x s)
recovery-closed d x s = ap (λ (h : Home). h.recovers) (settled-at d s.homes (home s.nodes x - 1)) ∙ settled-recovers d (home_at (home s.nodes x) s.homes)

pub open-closed : (d : ℕ) (x : LockName) (s : State) → is_name_of d s x ≡ true → recovery x (closed d s) ≡ None
open-closed d x s e = recovery-closed d x s ∙ rw e refl

pub still-closed : (d : ℕ) (x : LockName) (s : State) → is_name_of d s x ≡ false → recovery x (closed d s) ≡ recovery x s
still-closed d x s e = recovery-closed d x s ∙ rw e refl

-- a home that is being recovered after that was so before
some-if : (b : Bool) (o : Option ℕ) → is_some (if b then None else o) ≡ true → is_some o ≡ true
some-if true o e = cc
some-if false o e = e

lost-closed : (d k : ℕ) (s : State) → is_some (home_at k (closed d s).homes).recovers ≡ true → is_some (home_at k s.homes).recovers ≡ true
lost-closed d k s e =
    let f : is_some (if is_of_recovery d (home_at k s.homes).recovers then None else (home_at k s.homes).recovers) ≡ true =
    sym (ap (λ (h : Home). is_some h.recovers) (settled-at d s.homes (k - 1)) ∙ ap is_some (settled-recovers d (home_at k s.homes))) ∙ e in
    some-if (is_of_recovery d (home_at k s.homes).recovers) (home_at k s.homes).recovers f

addressed-closed : (d : ℕ) (s : State) (m : Message) → is_addressed s m ≡ true → is_addressed (closed d s) m ≡ true
addressed-closed d s m e = subst (λ (n : ℕ). goes_between m.letter n m ≡ true) (sym (master-closed d m.name s)) e

kept-closed : (d : ℕ) (s : State) (m : Message) → is_kept s m ≡ true → is_kept (closed d s) m ≡ true
kept-closed d s m e = and-both (is_call m.letter) (is_addressed (closed d s) m) (and-left (is_call m.letter) (is_addressed s m) e) (addressed-closed d s m (and-right (is_call m.letter) (is_addressed s m) e))

-- ---- the claimed asks as messages

-- a claimed ask, to this master
abbrev pub asks_one : Option Mode → Seen → ℕ → Hold → List Message
asks_one None b at h = []
asks_one (Some w) b at h = record { from = h.owner.node; to = at; owner = h.owner; name = h.name; letter = Ask w; value = b.value; version = b.version } ∷ []

abbrev pub asks_of : (LockName → Seen) → (LockName → ℕ) → List Hold → List Message
asks_of bs at [] = []
asks_of bs at (h ∷ hs) = asks_one h.wait (bs h.name) (at h.name) h ++ asks_of bs at hs

asks-one-grants : (o : Owner) (x : LockName) (w : Option Mode) (b : Seen) (at : ℕ) (h : Hold) → letters_of true o x (asks_one w b at h) ≡ []
asks-one-grants o x None b at h = refl
asks-one-grants o x (Some w) b at h = refl

asks-one-here : (o : Owner) (x : LockName) (w : Option Mode) (b : Seen) (at : ℕ) (h : Hold) → is_at o x h ≡ true → letters_of false o x (asks_one w b at h) ≡ last_ask w
asks-one-here o x None b at h e = refl
asks-one-here o x (Some w) b at h e = rw e refl

asks-one-other : (o : Owner) (x : LockName) (w : Option Mode) (b : Seen) (at : ℕ) (h : Hold) → is_at o x h ≡ false → letters_of false o x (asks_one w b at h) ≡ []
asks-one-other o x None b at h e = refl
asks-one-other o x (Some w) b at h e = rw e refl

asks-grants : (o : Owner) (x : LockName) (bs : LockName → Seen) (at : LockName → ℕ) (hs : List Hold) → letters_of true o x (asks_of bs at hs) ≡ []
asks-grants o x bs at [] = refl
asks-grants o x bs at (h ∷ hs) =
    letters-append true o x (asks_one h.wait (bs h.name) (at h.name) h) (asks_of bs at hs) ∙ rw (asks-one-grants o x h.wait (bs h.name) (at h.name) h) (asks-grants o x bs at hs)

pub asks-none : (o : Owner) (x : LockName) (bs : LockName → Seen) (at : LockName → ℕ) (hs : List Hold) → list_any (is_at o x) hs ≡ false → letters_of false o x (asks_of bs at hs) ≡ []
asks-none o x bs at [] e = refl
asks-none o x bs at (h ∷ hs) e =
    letters-append false o x (asks_one h.wait (bs h.name) (at h.name) h) (asks_of bs at hs)
    ∙ rw (asks-one-other o x h.wait (bs h.name) (at h.name) h (or-false_left (is_at o x h) (list_any (is_at o x) hs) e)) (asks-none o x bs at hs (or-false_right (is_at o x h) (list_any (is_at o x) hs) e))

pub asks-calls : (o : Owner) (x : LockName) (bs : LockName → Seen) (at : LockName → ℕ) (hs : List Hold) → each_once hs ≡ true → letters_of false o x (asks_of bs at hs) ≡ last_ask (hold_at o x hs).wait
asks-calls o x bs at [] e = refl
asks-calls o x bs at (h ∷ hs) e =
    let b : Seen = bs h.name in
    let more = letters-append false o x (asks_one h.wait b (at h.name) h) (asks_of bs at hs) in
    let first : list_any (is_at h.owner h.name) hs ≡ false = not-true (list_any (is_at h.owner h.name) hs) (and-left (not (list_any (is_at h.owner h.name) hs)) (each_once hs) e) in
    let rest = and-right (not (list_any (is_at h.owner h.name) hs)) (each_once hs) e in
    (elim (is_at o x h) as (λ c. is_at o x h ≡ c → letters_of false o x (asks_of bs at (h ∷ hs)) ≡ last_ask (unwrap_or (cond c (Some h) (find (is_at o x) hs)) (nothing_of o x)).wait) [
      | true ↦ λ a.
          let own : h.owner ≡ o = at-owner o x h a in
          let named : h.name ≡ x = at-name o x h a in
          let none : list_any (is_at o x) hs ≡ false = rw (← own, ← named) first in
          more ∙ rw (asks-one-here o x h.wait b (at h.name) h a, asks-none o x bs at hs none) (append-nil (last_ask h.wait))
      | false ↦ λ a. more ∙ rw (asks-one-other o x h.wait b (at h.name) h a) (asks-calls o x bs at hs rest)
    ]) refl

asks-one-addressed : (s : State) (w : Option Mode) (b : Seen) (h : Hold) → list_all (is_addressed s) (asks_one w b (master h.name s) h) ≡ true
asks-one-addressed s None b h = refl
asks-one-addressed s (Some w) b h = and-both ((h.owner.node == h.owner.node) && (master h.name s == master h.name s)) true (and-both (h.owner.node == h.owner.node) (master h.name s == master h.name s) (eq-self h.owner.node) (eq-self (master h.name s))) refl

asks-addressed : (s : State) (bs : LockName → Seen) (hs : List Hold) → list_all (is_addressed s) (asks_of bs (λ x. master x s) hs) ≡ true
asks-addressed s bs [] = refl
asks-addressed s bs (h ∷ hs) = list_all-joined (is_addressed s) (asks_one h.wait (bs h.name) (master h.name s) h) (asks_of bs (λ x. master x s) hs) (asks-one-addressed s h.wait (bs h.name) h) (asks-addressed s bs hs)

kept-grants : (s : State) (o : Owner) (x : LockName) (ks : List Message) → list_all (is_kept s) ks ≡ true → letters_of true o x ks ≡ []
kept-grants s o x [] e = refl
kept-grants s o x (m ∷ ms) e =
    let c : is_call m.letter ≡ true = and-left (is_call m.letter) (is_addressed s m) (list_all-head (is_kept s) m ms e) in
    let none : is_kind true o x m ≡ false = rw (call-no_grant m.letter c) refl in
    letters-append true o x (m ∷ []) ms ∙ rw (letters-none true o x m none) (kept-grants s o x ms (list_all-tail (is_kept s) m ms e))

-- what a filter by names leaves of a lane
kind-filter : (p : LockName → Bool) (g : Bool) (o : Owner) (x : LockName) (ms : List Message) → p x ≡ true → letters_of g o x (filter (λ m. p m.name) ms) ≡ letters_of g o x ms
kind-filter p g o x ms e = ap (map (λ (m : Message). m.letter)) (kept-by (is_kind g o x) (λ m. p m.name) ms (λ m k. subst (λ (y : LockName). p y ≡ true) (sym (kind-name g o x m k)) e))
  where
    kept-by : (q r : Message → Bool) (ms : List Message) → ((m : Message) → q m ≡ true → r m ≡ true) → filter q (filter r ms) ≡ filter q ms
    kept-by q r [] h = refl
    kept-by q r (m ∷ ms) h =
        let t = kept-by q r ms h in
        (elim (q m) as (λ b. q m ≡ b → filter q (filter r (m ∷ ms)) ≡ cond b (m ∷ filter q ms) (filter q ms)) [
          | true ↦ λ e. rw (h m e, e) (ap (λ (ys : List Message). m ∷ ys) t)
          | false ↦ λ e. (elim (r m) as (λ c. filter q (cond c (m ∷ filter r ms) (filter r ms)) ≡ filter q ms) [ true ↦ rw e t | false ↦ t ])
        ]) refl

pub kind-filtered : (p : LockName → Bool) (g : Bool) (o : Owner) (x : LockName) (ms : List Message) → p x ≡ false → letters_of g o x (filter (λ m. p m.name) ms) ≡ []
kind-filtered p g o x [] e = refl
kind-filtered p g o x (m ∷ ms) e =
    let t = kind-filtered p g o x ms e in
    (elim (p m.name) as (λ b. p m.name ≡ b → letters_of g o x (cond b (m ∷ filter (λ (k : Message). p k.name) ms) (filter (λ (k : Message). p k.name) ms)) ≡ []) [
      | true ↦ λ f.
          let out : is_kind g o x m ≡ false = (elim (is_kind g o x m) as (λ b. is_kind g o x m ≡ b → b ≡ false) [
            | true ↦ λ k. absurd (let q : true ≡ false = sym f ∙ ap p (kind-name g o x m k) ∙ e in cc)
            | false ↦ λ k. refl
          ]) refl in
          letters-append g o x (m ∷ []) (filter (λ (k : Message). p k.name) ms) ∙ rw (letters-none g o x m out) t
      | false ↦ λ f. t
    ]) refl

pub hold-filter : (p : LockName → Bool) (o : Owner) (x : LockName) (hs : List Hold) → p x ≡ true → hold_at o x (filter (λ h. p h.name) hs) ≡ hold_at o x hs
hold-filter p o x hs e =
    ap (λ (f : Option Hold). unwrap_or f (nothing_of o x)) (find-filter (is_at o x) (λ h. p h.name) hs (list_all-every (λ h. p h.name || not (is_at o x h)) hs (λ h. one h)))
  where
    one : (h : Hold) → (p h.name || not (is_at o x h)) ≡ true
    one h = (elim (is_at o x h) as (λ b. is_at o x h ≡ b → (p h.name || not b) ≡ true) [
      | true ↦ λ a. rw (at-name o x h a, e) refl
      | false ↦ λ a. (elim (p h.name) as (λ c. (c || true) ≡ true) [ true ↦ refl | false ↦ refl ])
    ]) refl

-- beliefs of fewer go together
together-filter : (p : LockName → Bool) (hs : List Hold) → GoTogether hs → GoTogether (filter (λ h. p h.name) hs)
together-filter p hs g a b x m n d e f =
    (elim (p x) as (λ c. p x ≡ c → compatible_modes m n ≡ true) [
      | true ↦ λ t. g a b x m n d (sym (ap (λ (k : Hold). k.belief) (hold-filter p a x hs t)) ∙ e) (sym (ap (λ (k : Hold). k.belief) (hold-filter p b x hs t)) ∙ f)
      | false ↦ λ t. absurd (let z : (hold_at a x (filter (λ (h : Hold). p h.name) hs)).belief ≡ None = ap (λ (k : Hold). k.belief) (hold-filtered p a x hs t) in let q : Some m ≡ None = sym e ∙ z in cc)
    ]) refl
  where
    hold-filtered : (p : LockName → Bool) (o : Owner) (x : LockName) (hs : List Hold) → p x ≡ false → hold_at o x (filter (λ h. p h.name) hs) ≡ nothing_of o x
    hold-filtered p o x [] e = refl
    hold-filtered p o x (h ∷ hs) e =
        let t = hold-filtered p o x hs e in
        (elim (p h.name) as (λ b. p h.name ≡ b → hold_at o x (cond b (h ∷ filter (λ (k : Hold). p k.name) hs) (filter (λ (k : Hold). p k.name) hs)) ≡ nothing_of o x) [
          | true ↦ λ f.
              let out : is_at o x h ≡ false = (elim (is_at o x h) as (λ b. is_at o x h ≡ b → b ≡ false) [
                | true ↦ λ k. absurd (let q : true ≡ false = sym f ∙ ap p (at-name o x h k) ∙ e in cc)
                | false ↦ λ k. refl
              ]) refl in
              rw out t
          | false ↦ λ f. t
        ]) refl

pub any-filtered : (p : LockName → Bool) (o : Owner) (x : LockName) (hs : List Hold) → p x ≡ false → list_any (is_at o x) (filter (λ h. p h.name) hs) ≡ false
any-filtered p o x [] e = refl
any-filtered p o x (h ∷ hs) e =
    let t = any-filtered p o x hs e in
    (elim (p h.name) as (λ b. p h.name ≡ b → list_any (is_at o x) (cond b (h ∷ filter (λ (k : Hold). p k.name) hs) (filter (λ (k : Hold). p k.name) hs)) ≡ false) [
      | true ↦ λ f.
          let out : is_at o x h ≡ false = (elim (is_at o x h) as (λ b. is_at o x h ≡ b → b ≡ false) [
            | true ↦ λ k. absurd (let q : true ≡ false = sym f ∙ ap p (at-name o x h k) ∙ e in cc)
            | false ↦ λ k. refl
          ]) refl in
          rw out t
      | false ↦ λ f. t
    ]) refl

-- ---- the claimed locks are granted, and the claimed asks and what was kept back are in front of the mail

abbrev pub claims_of : ℕ → State → List Hold
claims_of d s = filter (λ h. is_with true d s h.name) s.claims

abbrev pub kept_of : ℕ → State → List Message
kept_of d s = filter (λ m. is_with true d s m.name) s.kept

abbrev pub at_hand : ℕ → (LockName → Seen) → State → List Message
at_hand d bs s = asks_of bs (λ x. master x (closed d s)) (claims_of d s) ++ kept_of d s

abbrev pub restored : ℕ → (LockName → Seen) → State → List (List Resource) → List Version → State
restored d bs s ts vs = record (closed d s) { tables = ts; versions = vs; mail = at_hand d bs s ++ s.mail }

abbrev pub IsRestored : ℕ → (LockName → Seen) → State → List (List Resource) → Type 0
IsRestored d bs s ts = Restored (is_name_of d s) bs s.nodes (closed d s).homes s.tables (claims_of d s) ts

not-true_so : (a : Bool) → a ≡ false → not a ≡ true
not-true_so a e = ap not e

hand-letters : (g : Bool) (o : Owner) (x : LockName) (d : ℕ) (bs : LockName → Seen) (s : State) (ms : List Message) (u v : List Letter)
    → letters_of g o x (asks_of bs (λ y. master y (closed d s)) (claims_of d s)) ≡ u → letters_of g o x (kept_of d s) ≡ v → letters_of g o x (at_hand d bs s ++ ms) ≡ (u ++ v) ++ letters_of g o x ms
hand-letters g o x d bs s ms u v e f =
    let as1 : List Message = asks_of bs (λ y. master y (closed d s)) (claims_of d s) in
    letters-append g o x (as1 ++ kept_of d s) ms ∙ ap (λ (ls : List Letter). ls ++ letters_of g o x ms) (letters-append g o x as1 (kept_of d s) ∙ rw (e, f) refl)

hand-theirs : (g : Bool) (o : Owner) (x : LockName) (d : ℕ) (bs : LockName → Seen) (s : State) (ms : List Message) → is_name_of d s x ≡ false → letters_of g o x (at_hand d bs s ++ ms) ≡ letters_of g o x ms
hand-theirs true o x d bs s ms e =
    hand-letters true o x d bs s ms [] [] (asks-grants o x bs (λ y. master y (closed d s)) (claims_of d s)) (kind-filtered (is_name_of d s) true o x s.kept e)
hand-theirs false o x d bs s ms e =
    hand-letters false o x d bs s ms [] [] (asks-none o x bs (λ y. master y (closed d s)) (claims_of d s) (any-filtered (is_name_of d s) o x s.claims e)) (kind-filtered (is_name_of d s) false o x s.kept e)

lane-theirs : (r : Option ℕ) (o : Owner) (x : LockName) (d : ℕ) (bs : LockName → Seen) (s : State) (ts : List (List Resource)) (vs : List Version) → IsRestored d bs s ts → is_name_of d s x ≡ false → LaneOf r o x s → LaneOf r o x (restored d bs s ts vs)
lane-theirs None o x d bs s ts vs r e lane =
    let st : standing_of o (resource_at x (table_at (home s.nodes x) ts)).askers ≡ standing_at o x s = ap (λ (z : Resource). standing_of o z.askers) (r.others x e) in
    rw (st, hand-theirs false o x d bs s s.mail e, hand-theirs true o x d bs s s.mail e) lane
lane-theirs (Some k) o x d bs s ts vs r e lane =
    let p : LockName → Bool = λ y. not (is_name_of d s y) in
    let t : p x ≡ true = not-true_so (is_name_of d s x) e in
    record { lane = rw (hold-filter p o x s.claims t, kind-filter p false o x s.kept t, hand-theirs false o x d bs s s.mail e) lane.lane; no_grants = hand-theirs true o x d bs s s.mail e ∙ lane.no_grants; no_waiters = lane.no_waiters }

lane-mine : (r : Option ℕ) (o : Owner) (x : LockName) (d : ℕ) (bs : LockName → Seen) (s : State) (ts : List (List Resource)) (vs : List Version) → IsSound s → IsRestored d bs s ts → is_name_of d s x ≡ true → is_of_recovery d r ≡ true → LaneOf r o x s
    → LaneOf None o x (restored d bs s ts vs)
lane-mine None o x d bs s ts vs i r e f lane = cc
lane-mine (Some k) o x d bs s ts vs i r e f lane =
    let hs : List Hold = claims_of d s in
    let same : hold_at o x hs ≡ hold_at o x s.claims = hold-filter (is_name_of d s) o x s.claims e in
    let a : List Letter = last_ask (hold_at o x s.claims).wait in
    let st : standing_of o (resource_at x (table_at (home s.nodes x) ts)).askers ≡ stands_as (hold_at o x s.claims).belief = r.ours o x e ∙ ap (λ (h : Hold). stands_as h.belief) same in
    let asks : letters_of false o x (asks_of bs (λ y. master y (closed d s)) hs) ≡ a =
    asks-calls o x bs (λ y. master y (closed d s)) hs (once-filter (λ h. is_name_of d s h.name) s.claims i.claimed_once) ∙ ap (λ (h : Hold). last_ask h.wait) same in
    let calls : letters_of false o x (at_hand d bs s ++ s.mail) ≡ a ++ (letters_of false o x s.kept ++ letters_of false o x s.mail) =
    hand-letters false o x d bs s s.mail a (letters_of false o x s.kept) asks (kind-filter (is_name_of d s) false o x s.kept e) ∙ append_assoc a (letters_of false o x s.kept) (letters_of false o x s.mail) in
    let grants : letters_of true o x (at_hand d bs s ++ s.mail) ≡ [] =
    hand-letters true o x d bs s s.mail [] [] (asks-grants o x bs (λ y. master y (closed d s)) hs) (kind-filter (is_name_of d s) true o x s.kept e ∙ kept-grants s o x s.kept i.kept_back) ∙ lane.no_grants in
    rw (st, calls, grants, lane.no_waiters) lane.lane

pub restored-sound : (d : ℕ) (bs : LockName → Seen) (s : State) (ts : List (List Resource)) (vs : List Version) → IsSound s → IsRestored d bs s ts → IsSound (restored d bs s ts vs)
restored-sound d bs s ts vs i r =
    let c : State = closed d s in
    let kept1 : list_all (is_kept s) (kept_of d s) ≡ true = list_all-filter (is_kept s) (λ m. is_with true d s m.name) s.kept i.kept_back in
    record {
      some_node = i.some_node;
      each_has_one = r.length_is;
      each_has_master = length-homes (settled_home d) s.homes ∙ i.each_has_master;
      tables_are = r.tables_are;
      lost = r.lost;
      addressed = list_all-joined (is_addressed c) (at_hand d bs s) s.mail
          (list_all-joined (is_addressed c) (asks_of bs (λ x. master x c) (claims_of d s)) (kept_of d s) (asks-addressed c bs (claims_of d s))
          (list_all-weaker (is_kept s) (is_addressed c) (kept_of d s) (λ m e. addressed-closed d s m (and-right (is_call m.letter) (is_addressed s m) e)) kept1))
          (list_all-weaker (is_addressed s) (is_addressed c) s.mail (λ m e. addressed-closed d s m e) i.addressed);
      kept_back = list_all-weaker (is_kept s) (is_kept c) (filter (λ m. is_with false d s m.name) s.kept) (λ m e. kept-closed d s m e) (list_all-filter (is_kept s) (λ m. is_with false d s m.name) s.kept i.kept_back);
      once = i.once;
      claimed_once = once-filter (λ h. is_with false d s h.name) s.claims i.claimed_once;
      claimed_together = together-filter (λ x. not (is_name_of d s x)) s.claims i.claimed_together;
      lanes = λ o x. (elim (is_name_of d s x) as (λ b. is_name_of d s x ≡ b → LaneAt o x (restored d bs s ts vs)) [
        | true ↦ λ e. subst (λ (q : Option ℕ). LaneOf q o x (restored d bs s ts vs)) (sym (open-closed d x s e)) (lane-mine (recovery x s) o x d bs s ts vs i r e e (i.lanes o x))
        | false ↦ λ e. subst (λ (q : Option ℕ). LaneOf q o x (restored d bs s ts vs)) (sym (still-closed d x s e)) (lane-theirs (recovery x s) o x d bs s ts vs r e (i.lanes o x))
      ]) refl;
    }

-- ---- the claimed locks, one after the other

of-some : (d : ℕ) (r : Option ℕ) → is_of_recovery d r ≡ true → is_some r ≡ true
of-some d None e = cc
of-some d (Some k) e = refl

none-has : (x : LockName) → has_lock x [] ≡ true → ⊥
none-has x e = cc

pub restore-start : (d : ℕ) (bs : LockName → Seen) (s : State) → IsSound s → Restored (is_name_of d s) bs s.nodes (closed d s).homes s.tables [] s.tables
restore-start d bs s i = record {
  length_is = i.each_has_one;
  tables_are = i.tables_are;
  ours = λ o x e. ap (λ (t : List Resource). standing_of o (resource_at x t).askers) (i.lost (home s.nodes x) (of-some d (recovery x s) e));
  blocks = λ x e f. absurd (none-has x f);
  others = λ x e. refl;
  lost = λ k e. i.lost k (lost-closed d k s e);
}

abbrev pub with_tables : State → List (List Resource) → List Version → State
with_tables c ts vs = record c { tables = ts; versions = vs }

-- a claim was made of a name whose recovery ends, and this is the value block that the name gets
pub record IsClaimable (r : State) (bs : LockName → Seen) (h : Hold) : Type 0 where
  pub made : Contains r.claims h
  pub due : IsDue r h.name
  pub block : bs h.name ≡ claimed_block r h.name

-- the version of a name
pub version-here : (x : LockName) (v : ℕ) (vs : List Version) → version_at x (noted_version x v vs) ≡ v
version-here x v vs =
    let p : Version → Bool = λ k. is_same k.name x in
    let one : Version = record { name = x; version = v } in
    let gone : find p (filter (λ (k : Version). not (p k)) vs) ≡ None = find-absent p (filter (λ (k : Version). not (p k)) vs) (list_all-passing (λ (k : Version). not (p k)) vs) in
    ap (λ (f : Option Version). (unwrap_or f (record { name = x; version = 0 })).version) (find-push_yes p (filter (λ (k : Version). not (p k)) vs) one (is_same-refl x) gone)

version-other : (x y : LockName) (v : ℕ) (vs : List Version) → is_same y x ≡ false → version_at x (noted_version y v vs) ≡ version_at x vs
version-other x y v vs e =
    let kept : List Version = filter (λ (k : Version). not (is_same k.name y)) vs in
    ap (λ (f : Option Version). (unwrap_or f (record { name = x; version = 0 })).version)
    (find-push_no (λ (k : Version). is_same k.name x) kept (record { name = y; version = v }) e
    ∙ find-filter (λ (k : Version). is_same k.name x) (λ (k : Version). not (is_same k.name y)) vs (list_all-every (λ (k : Version). not (is_same k.name y) || not (is_same k.name x)) vs (λ k. apart k)))
  where
    apart : (k : Version) → (not (is_same k.name y) || not (is_same k.name x)) ≡ true
    apart k = (elim (is_same k.name y) as (λ b. is_same k.name y ≡ b → (not b || not (is_same k.name x)) ≡ true) [
      | true ↦ λ f. rw (is_same-same k.name y f, e) refl
      | false ↦ λ f. refl
    ]) refl

lock-behind : (x : LockName) (h : Hold) (hs : List Hold) → (is_same h.name x && is_some h.belief) ≡ false → has_lock x (h ∷ hs) ≡ true → has_lock x hs ≡ true
lock-behind x h hs e f = let k : ((is_same h.name x && is_some h.belief) || has_lock x hs) ≡ has_lock x hs = rw e refl in sym k ∙ f

noted-next : (x : LockName) (bs : LockName → Seen) (h : Hold) (hs : List Hold) (vs : List Version) → (has_lock x (h ∷ hs) ≡ true) ⊎ (version_at x vs ≡ (bs x).version)
    → (has_lock x hs ≡ true) ⊎ (version_at x (noted_version h.name (bs h.name).version vs) ≡ (bs x).version)
noted-next x bs h hs vs a =
    (elim (is_same h.name x) as (λ b. is_same h.name x ≡ b → (has_lock x hs ≡ true) ⊎ (version_at x (noted_version h.name (bs h.name).version vs) ≡ (bs x).version)) [
      | true ↦ λ e. inr (subst (λ (y : LockName). version_at y (noted_version h.name (bs h.name).version vs) ≡ (bs y).version) (is_same-same h.name x e) (version-here h.name (bs h.name).version vs))
      | false ↦ λ e. elim a [
        | inl f ↦ inl (lock-behind x h hs (other-lock x h e) f)
        | inr f ↦ inr (version-other x h.name (bs h.name).version vs e ∙ f)
      ]
    ]) refl

pub record Reclaims (d : ℕ) (bs : LockName → Seen) (s : State) (hs : List Hold) (ts : List (List Resource)) (vs : List Version) : Type 0 where
  pub tables : List (List Resource)
  pub versions : List Version
  pub is : reclaimed bs hs (with_tables (closed d s) ts vs) ≡ with_tables (closed d s) tables versions
  pub all : IsRestored d bs s tables
  pub steps : (r : State) → Each (IsClaimable r bs) hs → Leads s.nodes r ts tables
  pub noted : (x : LockName) → (has_lock x hs ≡ true) ⊎ (version_at x vs ≡ (bs x).version) → version_at x versions ≡ (bs x).version

abbrev pub Restoring1 : ℕ → (LockName → Seen) → State → List Hold → List (List Resource) → Type 0
Restoring1 d bs s done ts = Restored (is_name_of d s) bs s.nodes (closed d s).homes s.tables done ts

reclaim-next : (be : Option Mode) (d : ℕ) (bs : LockName → Seen) (s : State) (done rest : List Hold) (h : Hold) (ts : List (List Resource)) (vs : List Version)
    → IsSound s → h.belief ≡ be → claims_of d s ≡ done ++ (h ∷ rest) → is_name_of d s h.name ≡ true → Restoring1 d bs s done ts
    → ((us : List (List Resource)) (ws : List Version) → Restoring1 d bs s (done ++ (h ∷ [])) us → Reclaims d bs s rest us ws)
    → Reclaims d bs s (h ∷ rest) ts vs
reclaim-next None d bs s done rest h ts vs i e all m r next =
    let once : each_once (done ++ (h ∷ rest)) ≡ true = subst (λ (hs : List Hold). each_once hs ≡ true) all (once-filter (λ k. is_name_of d s k.name) s.claims i.claimed_once) in
    let n = next ts vs (restore-none (is_name_of d s) bs s.nodes (closed d s).homes s.tables done rest h ts once e r) in
    record { tables = n.tables; versions = n.versions; is = ap (λ (be : Option Mode). reclaimed bs rest (reclaimed_lock h be (bs h.name) (with_tables (closed d s) ts vs))) e ∙ n.is; all = n.all; steps = λ p a. n.steps p a.1; noted = λ x a. n.noted x (elim a [ inl f ↦ inl (lock-behind x h rest (not-lock x h e) f) | inr f ↦ inr f ]) }
reclaim-next (Some b) d bs s done rest h ts vs i e all m r next =
    let once : each_once (done ++ (h ∷ rest)) ≡ true = subst (λ (hs : List Hold). each_once hs ≡ true) all (once-filter (λ k. is_name_of d s k.name) s.claims i.claimed_once) in
    let go : GoTogether (done ++ (h ∷ rest)) = subst (λ (hs : List Hold). GoTogether hs) all (together-filter (is_name_of d s) s.claims i.claimed_together) in
    let z : State = with_tables (closed d s) ts vs in
    let after : State = reclaimed_lock h (Some b) (bs h.name) z in
    let k : Message = again h b (bs h.name) z in
    let t : List Resource = table_at (home s.nodes h.name) ts in
    let old : Option Mode = mode_of h.owner (resource_at h.name t).askers in
    let none = claim-none (is_name_of d s) bs s.nodes (closed d s).homes s.tables done rest h ts once m r in
    let makes : MakesCall k t (ask_made k old b t) = one-ask k b t None old refl none refl (can-mode None (standing_of h.owner (resource_at h.name t).askers) none) in
    let is_claim : (p : State) → IsClaimable p bs h → IsClaimOf p k = λ p a. record { claim = h; made = a.made; of_owner = refl; on_name = refl; mode = b; asks = refl; claims = inl e; block = ap (λ (v : Seen). v.value) a.block } in
    let n = next after.tables after.versions
    (restore-one (is_name_of d s) bs s.nodes (closed d s).homes s.tables done rest h b (again h b (bs h.name) z) ts i.some_node once go m e refl refl refl (open-closed d h.name s m) r) in
    record { tables = n.tables; versions = n.versions; is = ap (λ (be : Option Mode). reclaimed bs rest (reclaimed_lock h be (bs h.name) z)) e ∙ n.is; all = n.all; steps = λ p a. leads-then s.nodes p k ts after.tables n.tables (Restores (ask_made k old b t) a.0.due (is_claim p a.0) makes (ap (λ (v : Seen). set ts (home s.nodes h.name - 1) (recovered h.name k.value v.valid (ask_made k old b t))) a.0.block)) (n.steps p a.1); noted = λ x a. n.noted x (noted-next x bs h rest vs a) }

pub reclaim-all : (d : ℕ) (bs : LockName → Seen) (s : State) (rest done : List Hold) (ts : List (List Resource)) (vs : List Version) → IsSound s → claims_of d s ≡ done ++ rest → list_all (λ h. is_name_of d s h.name) rest ≡ true
    → Restoring1 d bs s done ts → Reclaims d bs s rest ts vs
reclaim-all d bs s [] done ts vs i all m r =
    let e : done ≡ claims_of d s = sym (all ∙ append-nil done) in
    record { tables = ts; versions = vs; is = refl; all = subst (λ (hs : List Hold). Restoring1 d bs s hs ts) e r; steps = λ p a. leads-here s.nodes p ts ts refl; noted = λ x a. elim a [ inl f ↦ cc | inr f ↦ f ] }
reclaim-all d bs s (h ∷ rest) done ts vs i all m r =
    reclaim-next h.belief d bs s done rest h ts vs i refl all (list_all-head (λ (k : Hold). is_name_of d s k.name) h rest m) r
    (λ us ws n. reclaim-all d bs s rest (done ++ (h ∷ [])) us ws i (all ∙ sym (append_assoc done (h ∷ []) rest)) (list_all-tail (λ (k : Hold). is_name_of d s k.name) h rest m) n)

-- ---- the claimed asks and what was kept back

abbrev pub front : List Message → State → State
front ms z = record z { mail = ms ++ z.mail }

between-self : (m : Message) → is_between m.from m.to m ≡ true
between-self m = and-both (m.from == m.from) (m.to == m.to) (eq-self m.from) (eq-self m.to)

pub find-front : (m : Message) (ms : List Message) → find (is_between m.from m.to) (m ∷ ms) ≡ Some m
find-front m ms = rw (between-self m) refl

pub past-front : (m : Message) (ms : List Message) → past_first (is_between m.from m.to) (m ∷ ms) ≡ ms
past-front m ms = rw (between-self m) refl

pub none-some : (o : Option ℕ) → is_some o ≡ false → o ≡ None
none-some None e = refl
none-some (Some k) e = cc

pub asked-next : (R : State → Type 0) (w : Option Mode) (h : Hold) (hs : List Hold) (bs : LockName → Seen) (ms : List Message) (z : State) → recovery h.name z ≡ None → list_all (λ k. not (is_some (recovery k.name z))) hs ≡ true
    → IsSound (front ((asks_one w (bs h.name) (master h.name z) h ++ asks_of bs (λ x. master x z) hs) ++ ms) z)
    → ((y : State) → list_all (λ k. not (is_some (recovery k.name y))) hs ≡ true → IsSound (front (asks_of bs (λ x. master x y) hs ++ ms) y) → R y)
    → R (asked_again h w (bs h.name) z)
asked-next R None h hs bs ms z n t i next = next z t i
asked-next R (Some w) h hs bs ms z n t i next =
    let b : Seen = bs h.name in
    let m : Message = again h w b z in
    let rest : List Message = asks_of bs (λ x. master x z) hs ++ ms in
    let s : State = front (m ∷ rest) z in
    let old : Option Mode = mode_of h.owner (told_at h.name z).askers in
    let t1 : List Resource = table_at (home z.nodes h.name) z.tables in
    let f : find (is_between m.from m.to) s.mail ≡ Some m = find-front m (rest ++ z.mail) in
    let a = call-first s m.from m.to m i f refl n in
    let c0 = ask-call s m.from m.to m w i a refl in
    let c1 : Call s m (rest ++ z.mail) (ask_made m old w t1) (put_last m old w z.queue) =
    subst (λ (ns : List Message). Call s m ns (ask_made m old w t1) (put_last m old w z.queue)) (past-front m (rest ++ z.mail)) c0 in
    let st = ask-stands s m.from m.to m w i a refl in
    let c2 = call-again s m (rest ++ z.mail) (ask_made m old w t1) (put_last m old w z.queue) m.value b.valid st.0 c1 st.1 in
    let after : State = asked_again h (Some w) b z in
    let so = served-sound _ (call-sound s m (rest ++ z.mail) (made_again b.valid m old w t1) (put_last m old w z.queue) after.versions i c2) in
    let now : List Message = grants_of (called_so s m.name (rest ++ z.mail) (made_again b.valid m old w t1) (put_last m old w z.queue) after.versions) (put_last m old w z.queue) in
    next after t (subst (λ (ns : List Message). IsSound (record after { mail = ns })) (append_assoc rest z.mail now) so)

pub all-asked : (hs : List Hold) (bs : LockName → Seen) (ms : List Message) (z : State) → list_all (λ k. not (is_some (recovery k.name z))) hs ≡ true
    → IsSound (front (asks_of bs (λ x. master x z) hs ++ ms) z) → IsSound (front ms (all_asked_again bs hs z))
all-asked [] bs ms z n i = i
all-asked (h ∷ hs) bs ms z n i =
    asked-next (λ y. IsSound (front ms (all_asked_again bs hs y))) h.wait h hs bs ms z (none-some (recovery h.name z) (not-true (is_some (recovery h.name z)) (list_all-head (λ (k : Hold). not (is_some (recovery k.name z))) h hs n)))
    (list_all-tail (λ (k : Hold). not (is_some (recovery k.name z))) h hs n) i (λ y t j. all-asked hs bs ms y t j)

-- homes stay
asked-homes : (w : Option Mode) (h : Hold) (b : Seen) (z : State) → (asked_again h w b z).homes ≡ z.homes
asked-homes None h b z = refl
asked-homes (Some w) h b z = refl

pub asked-nodes : (w : Option Mode) (h : Hold) (b : Seen) (z : State) → (asked_again h w b z).nodes ≡ z.nodes
asked-nodes None h b z = refl
asked-nodes (Some w) h b z = refl

all-asked-homes : (hs : List Hold) (bs : LockName → Seen) (z : State) → (all_asked_again bs hs z).homes ≡ z.homes
all-asked-homes [] bs z = refl
all-asked-homes (h ∷ hs) bs z = all-asked-homes hs bs (asked_again_one bs h z) ∙ asked-homes h.wait h (bs h.name) z

pub all-asked-nodes : (hs : List Hold) (bs : LockName → Seen) (z : State) → (all_asked_again bs hs z).nodes ≡ z.nodes
all-asked-nodes [] bs z = refl
all-asked-nodes (h ∷ hs) bs z = all-asked-nodes hs bs (asked_again_one bs h z) ∙ asked-nodes h.wait h (bs h.name) z

pub recovery-asked : (hs : List Hold) (bs : LockName → Seen) (z : State) (x : LockName) → recovery x (all_asked_again bs hs z) ≡ recovery x z
recovery-asked hs bs z x =
    ap (λ (k : ℕ). (home_at (home k x) (all_asked_again bs hs z).homes).recovers) (all-asked-nodes hs bs z) ∙ ap (λ (ks : List Home). (home_at (home z.nodes x) ks).recovers) (all-asked-homes hs bs z)

-- a call at hand
abbrev pub is_open_call : State → Message → Bool
is_open_call z m = is_call m.letter && not (is_some (recovery m.name z))

pub take-next : (R : State → Type 0) (l : Letter) (m : Message) (ms : List Message) (z : State) (old : Option Mode) (t : List Resource) → IsSound (taken_from m l old t (record z { mail = ms ++ z.mail })) → list_all (is_open_call z) ms ≡ true
    → ((y : State) → list_all (is_open_call y) ms ≡ true → IsSound (front ms y) → R y) → R (taken_from m l old t z)
take-next R (Ask w) m ms z old t i n next =
    let after : State = taken_from m (Ask w) old t z in
    let q : List Waiter = put_last m old w z.queue in
    let now : List Message = grants_of (with_table m.name (ask_made m old w t) (record z { queue = q; versions = versions_after m old t z.holds z.versions })) q in
    next after n (subst (λ (ns : List Message). IsSound (record after { mail = ns })) (append_assoc ms z.mail now) i)
take-next R Drop m ms z old t i n next =
    let after : State = taken_from m Drop old t z in
    let now : List Message = grants_of (with_table m.name (drop_made m old t) (record z { versions = versions_after m old t z.holds z.versions })) z.queue in
    next after n (subst (λ (ns : List Message). IsSound (record after { mail = ns })) (append_assoc ms z.mail now) i)
take-next R (Grant w v) m ms z old t i n next = next z n i
take-next R (Claim d) m ms z old t i n next = next z n i

pub one-taken : (R : State → Type 0) (m : Message) (ms : List Message) (z : State) → list_all (is_open_call z) (m ∷ ms) ≡ true → IsSound (front (m ∷ ms) z)
    → ((y : State) → list_all (is_open_call y) ms ≡ true → IsSound (front ms y) → R y) → R (taken m z)
one-taken R m ms z n i next =
    let first = list_all-head (is_open_call z) m ms n in
    let call = and-left (is_call m.letter) (not (is_some (recovery m.name z))) first in
    let open_name = none-some (recovery m.name z) (not-true (is_some (recovery m.name z)) (and-right (is_call m.letter) (not (is_some (recovery m.name z))) first)) in
    let s : State = front (m ∷ ms) z in
    let so : IsSound (taken m (record s { mail = past_first (is_between m.from m.to) (m ∷ (ms ++ z.mail)) })) = taken-sound s m.from m.to m i (find-front m (ms ++ z.mail)) call open_name in
    let sound : IsSound (taken m (record s { mail = ms ++ z.mail })) = subst (λ (ns : List Message). IsSound (taken m (record s { mail = ns }))) (past-front m (ms ++ z.mail)) so in
    take-next R m.letter m ms z (mode_of m.owner (told_at m.name z).askers) (table_at (home z.nodes m.name) z.tables) sound (list_all-tail (is_open_call z) m ms n) next

pub all-taken : (ms : List Message) (z : State) → list_all (is_open_call z) ms ≡ true → IsSound (front ms z) → IsSound (taken_all ms z)
all-taken [] z n i = i
all-taken (m ∷ ms) z n i = one-taken (λ y. IsSound (taken_all ms y)) m ms z n i (λ y t j. all-taken ms y t j)

-- ---- a recovery ends

pub open-claims : (d : ℕ) (s : State) (c : State) → ((x : LockName) → is_name_of d s x ≡ true → recovery x c ≡ None) → list_all (λ k. not (is_some (recovery k.name c))) (claims_of d s) ≡ true
open-claims d s c h =
    list_all-weaker (λ k. is_name_of d s k.name) (λ k. not (is_some (recovery k.name c))) (claims_of d s) (λ k e. ap (λ (r : Option ℕ). not (is_some r)) (h k.name e)) (list_all-passing (λ k. is_name_of d s k.name) s.claims)

pub open-kept : (d : ℕ) (s : State) (c : State) → list_all (is_kept s) s.kept ≡ true → ((x : LockName) → is_name_of d s x ≡ true → recovery x c ≡ None) → list_all (is_open_call c) (kept_of d s) ≡ true
open-kept d s c k h =
    list_all-kept (is_kept s) (λ m. is_with true d s m.name) (is_open_call c) s.kept
    (λ m e f. and-both (is_call m.letter) (not (is_some (recovery m.name c))) (and-left (is_call m.letter) (is_addressed s m) e) (ap (λ (r : Option ℕ). not (is_some r)) (h m.name f))) k

pub ended-sound : (d : ℕ) (s : State) → IsSound s → IsSound (ended d s)
ended-sound d s i =
    let c : State = closed d s in
    let bs : LockName → Seen = block_for s.rule (filter (λ h. is_with true d s h.name) s.claims) (filter (λ b. is_with true d s b.name) s.claimed_blocks) in
    let hs : List Hold = claims_of d s in
    let ks : List Message = kept_of d s in
    let r = reclaim-all d bs s hs [] s.tables s.versions i refl (list_all-passing (λ h. is_name_of d s h.name) s.claims) (restore-start d bs s i) in
    let z : State = with_tables c r.tables r.versions in
    let so : IsSound (restored d bs s r.tables r.versions) = restored-sound d bs s r.tables r.versions i r.all in
    let asked : IsSound (front ks (all_asked_again bs hs z)) = all-asked hs bs ks z (open-claims d s z (λ x e. open-closed d x s e)) so in
    let kept1 = open-kept d s (all_asked_again bs hs z) i.kept_back (λ x e. recovery-asked hs bs z x ∙ open-closed d x s e) in
    let done : IsSound (taken_all ks (all_asked_again bs hs z)) = all-taken ks (all_asked_again bs hs z) kept1 asked in
    subst (λ (y : State). IsSound (taken_all ks (all_asked_again bs hs y))) (sym r.is) done

ended-if-sound : (d : ℕ) (s : State) → IsSound s → IsSound (ended_if d s)
ended-if-sound d s i = (elim (is_open d s.awaited) as (λ b. IsSound (if b then s else ended d s)) [ true ↦ i | false ↦ ended-sound d s i ])

pub all-ended-sound : (ds : List ℕ) (s : State) → IsSound s → IsSound (all_ended ds s)
all-ended-sound [] s i = i
all-ended-sound (d ∷ ds) s i = all-ended-sound ds (ended_if d s) (ended-if-sound d s i)
