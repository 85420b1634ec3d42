-- What serving the queue makes of each lane.
use Rattle.std.proofs.Common.{◌≡◌, ◌==◌, ◌++◌, ◌⊎◌, inl, inr, ℕ, Bool, true, false, not, List, [], ◌∷◌, Option, Some, None, is_some, map, filter, refl, arith, cond, ap, ◌∙◌}
use Rattle.std.specs.List.{list_all}
use Rattle.std.proofs.lemmas.List.{append-nil}
use Rattle.plain_cat.specs.declared.mode.Mode.{Mode}
use Rattle.lock_db.specs.declared.name.LockName.{LockName}
use Rattle.lock_db.specs.declared.name.Owner.{Owner}
use Rattle.lock_db.specs.declared.askers.Standing.{Standing}
use Rattle.lock_db.specs.declared.askers.Standing.TheVariants.{Granted}
use Rattle.lock_db.specs.Queues.{is_queued}
use Rattle.lock_db.proofs.Lists.{and-both, list_all-joined}
use Rattle.dlm_core.specs.declared.messages.Letter.{Letter}
use Rattle.dlm_core.specs.declared.messages.Letter.TheVariants.{Grant}
use Rattle.dlm_core.specs.declared.messages.Message.{Message}
use Rattle.dlm_core.specs.declared.queue.Waiter.{Waiter}
use Rattle.dlm_core.specs.States.{State, master, told_at, hold_at}
use Rattle.dlm_core.specs.Steps.{is_served, grant_of, grants_of, served}
use Rattle.dlm_core.specs.Lanes.{is_kind, letters_of, is_of, waiters_of, IsLane, LaneOf, IsGrantOf, raises, queued_as, standing_at, is_addressed}
use Rattle.dlm_core.specs.Lanes.IsLane.{Sends, Stands, Comes}
use Rattle.dlm_core.proofs.Mails.{letters-append}

module _ {X : Type 0} where
  pub filter-swap : (p q : X → Bool) (xs : List X) → filter p (filter q xs) ≡ filter q (filter p xs)
  filter-swap p q [] = refl
  filter-swap p q (x ∷ xs) =
      let r = filter-swap p q xs in
      (elim (p x) as (λ a. p x ≡ a → filter p (filter q (x ∷ xs)) ≡ filter q (cond a (x ∷ filter p xs) (filter p xs))) [
        | true ↦ λ ea. (elim (q x) as (λ b. q x ≡ b → filter p (cond b (x ∷ filter q xs) (filter q xs)) ≡ cond b (x ∷ filter q (filter p xs)) (filter q (filter p xs)))
            [ true ↦ λ eb. rw ea (ap (λ (ys : List X). x ∷ ys) r) | false ↦ λ eb. r ]) refl
        | false ↦ λ ea. (elim (q x) as (λ b. q x ≡ b → filter p (cond b (x ∷ filter q xs) (filter q xs)) ≡ filter q (filter p xs))
            [ true ↦ λ eb. rw ea r | false ↦ λ eb. r ]) refl
      ]) refl

filter-sent : (p : Owner) (y : LockName) (s : State) (ws : List Waiter) → filter (is_kind true p y) (map (grant_of s) ws) ≡ map (grant_of s) (filter (is_of p y) ws)
filter-sent p y s [] = refl
filter-sent p y s (w ∷ ws) =
    let t = filter-sent p y s ws in
    (elim (is_of p y w) as (λ b. cond b (grant_of s w ∷ filter (is_kind true p y) (map (grant_of s) ws)) (filter (is_kind true p y) (map (grant_of s) ws)) ≡ map (grant_of s) (cond b (w ∷ filter (is_of p y) ws) (filter (is_of p y) ws)))
    [ true ↦ ap (λ (ms : List Message). grant_of s w ∷ ms) t | false ↦ t ])

pub filter-calls : (p : Owner) (y : LockName) (s : State) (ws : List Waiter) → filter (is_kind false p y) (map (grant_of s) ws) ≡ []
filter-calls p y s [] = refl
filter-calls p y s (w ∷ ws) = filter-calls p y s ws

-- the letters of the grants that those get who stand in a queue
abbrev pub sent : State → List Waiter → List Letter
sent s ws = map (λ (m : Message). m.letter) (map (grant_of s) (filter (is_served s) ws))

-- who still waits
abbrev pub is_left : State → Waiter → Bool
is_left s w = not (is_served s w)

-- the grants about an owner and a name go to what of them waits
grants-sent : (p : Owner) (y : LockName) (s : State) (q : List Waiter) → letters_of true p y (grants_of s q) ≡ sent s (waiters_of p y q)
grants-sent p y s q =
    ap (map (λ (m : Message). m.letter)) (filter-sent p y s (filter (is_served s) q) ∙ ap (map (grant_of s)) (filter-swap (is_of p y) (is_served s) q))

-- and no call is among them
grants-calls : (p : Owner) (y : LockName) (s : State) (q : List Waiter) → letters_of false p y (grants_of s q) ≡ []
grants-calls p y s q = ap (map (λ (m : Message). m.letter)) (filter-calls p y s (filter (is_served s) q))

left-of : (p : Owner) (y : LockName) (s : State) (q : List Waiter) → waiters_of p y (filter (is_left s) q) ≡ filter (is_left s) (waiters_of p y q)
left-of p y s q = filter-swap (is_of p y) (is_left s) q

calls-behind : (p : Owner) (y : LockName) (s : State) (ms : List Message) (q : List Waiter) → letters_of false p y (ms ++ grants_of s q) ≡ letters_of false p y ms
calls-behind p y s ms q = letters-append false p y ms (grants_of s q) ∙ ap (λ (ls : List Letter). letters_of false p y ms ++ ls) (grants-calls p y s q) ∙ append-nil (letters_of false p y ms)

grants-behind : (p : Owner) (y : LockName) (s : State) (ms : List Message) (q : List Waiter) → letters_of true p y (ms ++ grants_of s q) ≡ letters_of true p y ms ++ sent s (waiters_of p y q)
grants-behind p y s ms q = letters-append true p y ms (grants_of s q) ∙ ap (λ (ls : List Letter). letters_of true p y ms ++ ls) (grants-sent p y s q)

-- an ask that the table has granted, before the grant is sent
pub record Due (owner : Owner) (name : LockName) (standing : Option Standing) (calls grants : List Letter) (queued : List Waiter) (belief wait : Option Mode) : Type 0 where
  pub mode : Mode
  pub waited : wait ≡ Some mode
  pub granted : standing ≡ Some (Granted mode)
  pub no_calls : calls ≡ []
  pub no_grants : grants ≡ []
  pub alone : queued ≡ record { owner = owner; name = name; mode = mode; converts = is_some belief } ∷ []
  pub raise : raises belief mode ≡ true

-- a lane before its name is served
abbrev pub PreLane : Owner → LockName → Option Standing → List Letter → List Letter → List Waiter → Option Mode → Option Mode → Type 0
PreLane p x st calls grants ws be wa = (IsLane p x st calls grants ws be wa) ⊎ (Due p x st calls grants ws be wa)

abbrev pub PreOf : Option ℕ → Owner → LockName → State → Type 0
PreOf None p x s =
    PreLane p x (standing_at p x s) (letters_of false p x s.mail) (letters_of true p x s.mail) (waiters_of p x s.queue) (hold_at p x s.holds).belief (hold_at p x s.holds).wait
PreOf (Some d) p x s = LaneOf (Some d) p x s

queued-waits : (belief : Option Mode) (w : Mode) → is_queued (queued_as belief w) ≡ true
queued-waits None w = refl
queued-waits (Some m) w = refl

-- who stands in a queue is not served
pub not-served : (p : Owner) (x : LockName) (s : State) (w : Waiter) (st : Standing) → w.owner ≡ p → w.name ≡ x → standing_at p x s ≡ Some st → is_queued st ≡ true → is_served s w ≡ false
not-served p x s w st o n e q = rw (o, n, e, q) refl

is-served : (p : Owner) (x : LockName) (s : State) (w : Waiter) (m : Mode) → w.owner ≡ p → w.name ≡ x → standing_at p x s ≡ Some (Granted m) → is_served s w ≡ true
is-served p x s w m o n e = rw (o, n, e) refl

-- one that waits, by whether it is served
sent-none : (s : State) (w : Waiter) → is_served s w ≡ false → sent s (w ∷ []) ≡ []
sent-none s w e = rw e refl

sent-one : (s : State) (w : Waiter) → is_served s w ≡ true → sent s (w ∷ []) ≡ Grant w.mode (told_at w.name s).valid ∷ []
sent-one s w e = rw e refl

left-one : (s : State) (w : Waiter) → is_served s w ≡ false → filter (is_left s) (w ∷ []) ≡ w ∷ []
left-one s w e = rw e refl

left-none : (s : State) (w : Waiter) → is_served s w ≡ true → filter (is_left s) (w ∷ []) ≡ []
left-none s w e = rw e refl

-- a lane is served
settles-here : (s : State) (p : Owner) (x : LockName) (calls grants : List Letter) (ws : List Waiter) (belief wait : Option Mode)
    → PreLane p x (standing_at p x s) calls grants ws belief wait → IsLane p x (standing_at p x s) calls (grants ++ sent s ws) (filter (is_left s) ws) belief wait
settles-here s p x calls grants ws belief wait (inl (Sends lock before st gr qu ca lo mw)) =
    let e : grants ++ sent s ws ≡ [] = rw (gr, qu) refl in
    let l : filter (is_left s) ws ≡ [] = rw qu refl in
    Sends lock before st e l ca lo mw
settles-here s p x calls grants ws belief wait (inl (Stands w wa st ca gr qu ra)) =
    let one : Waiter = record { owner = p; name = x; mode = w; converts = is_some belief } in
    let no : is_served s one ≡ false = not-served p x s one (queued_as belief w) refl refl st (queued-waits belief w) in
    let e : grants ++ sent s ws ≡ [] = rw (gr, qu, sent-none s one no) refl in
    let l : filter (is_left s) ws ≡ one ∷ [] = rw qu (left-one s one no) in
    Stands w wa st ca e l ra
settles-here s p x calls grants ws belief wait (inl (Comes w wa st ca ig qu ra)) =
    let e : grants ++ sent s ws ≡ grants = rw qu (append-nil grants) in
    let l : filter (is_left s) ws ≡ [] = rw qu refl in
    Comes w wa st ca (rw e ig) l ra
settles-here s p x calls grants ws belief wait (inr d) =
    let one : Waiter = record { owner = p; name = x; mode = d.mode; converts = is_some belief } in
    let yes : is_served s one ≡ true = is-served p x s one d.mode refl refl d.granted in
    let e : grants ++ sent s ws ≡ Grant d.mode (told_at x s).valid ∷ [] = rw (d.no_grants, d.alone) (sent-one s one yes) in
    let l : filter (is_left s) ws ≡ [] = rw d.alone (left-none s one yes) in
    let ig : IsGrantOf d.mode (grants ++ sent s ws) = rw e (refl, refl) in
    Comes d.mode d.waited d.granted d.no_calls ig l d.raise

pub served-lane : (o : Option ℕ) (s : State) (p : Owner) (x : LockName) → PreOf o p x s → LaneOf o p x (served s)
served-lane None s p x l =
    rw (calls-behind p x s s.mail s.queue, grants-behind p x s s.mail s.queue, left-of p x s s.queue)
    (settles-here s p x (letters_of false p x s.mail) (letters_of true p x s.mail) (waiters_of p x s.queue) (hold_at p x s.holds).belief (hold_at p x s.holds).wait l)
served-lane (Some d) s p x l =
    let g : letters_of true p x (s.mail ++ grants_of s s.queue) ≡ [] = grants-behind p x s s.mail s.queue ∙ rw (l.no_grants, l.no_waiters) refl in
    let w : waiters_of p x (filter (is_left s) s.queue) ≡ [] = left-of p x s s.queue ∙ rw l.no_waiters refl in
    record { lane = rw (calls-behind p x s s.mail s.queue) l.lane; no_grants = g; no_waiters = w }

-- grants are addressed to their owners
pub eq-self : (n : ℕ) → (n == n) ≡ true
eq-self n = grind arith

grants-addressed : (s : State) (ws : List Waiter) → list_all (is_addressed s) (map (grant_of s) ws) ≡ true
grants-addressed s [] = refl
grants-addressed s (w ∷ ws) =
    and-both (is_addressed s (grant_of s w)) (list_all (is_addressed s) (map (grant_of s) ws)) (and-both (master w.name s == master w.name s) (w.owner.node == w.owner.node) (eq-self (master w.name s)) (eq-self w.owner.node)) (grants-addressed s ws)

pub served-addressed : (s : State) → list_all (is_addressed s) s.mail ≡ true → list_all (is_addressed s) (s.mail ++ grants_of s s.queue) ≡ true
served-addressed s e = list_all-joined (is_addressed s) s.mail (grants_of s s.queue) e (grants-addressed s (filter (is_served s) s.queue))
