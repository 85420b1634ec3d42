-- Lists of messages and of waiters: what stands in them about one owner and one name.
use Rattle.std.proofs.Common.{◌≡◌, ◌==◌, ◌&&◌, ◌||◌, ◌++◌, ℕ, Bool, true, false, not, List, [], ◌∷◌, Some, map, filter, find, refl, arith, cond, ap, subst, ◌∙◌, if◌then◌else◌}
use Rattle.std.specs.List.{list_all}
use Rattle.std.proofs.lemmas.List.{map-append}
use Rattle.std.proofs.lemmas.List.Elements.{filter-append}
use Rattle.lock_db.specs.declared.name.LockName.{LockName}
use Rattle.lock_db.specs.declared.name.Owner.{Owner}
use Rattle.lock_db.specs.Names.{is_same, same_owner}
use Rattle.lock_db.proofs.Lists.{and-left, and-right, and-both, list_all-head, list_all-tail, list_all-weaker, find-passes, list_all-find}
use Rattle.lock_db.proofs.Owners.{same_owner-same}
use Rattle.lock_db.proofs.Names.{is_same-same}
use Rattle.dlm_core.specs.declared.messages.Message.{Message}
use Rattle.dlm_core.specs.declared.messages.Letter.{Letter}
use Rattle.dlm_core.specs.declared.messages.Letter.TheVariants.{Ask, Drop, Grant, Claim}
use Rattle.dlm_core.specs.States.{State, master, is_between, past_first}
use Rattle.dlm_core.specs.Lanes.{is_about, has_kind, is_kind, letters_of, goes_between, is_addressed}

pub letters-append : (g : Bool) (o : Owner) (x : LockName) (ms ns : List Message) → letters_of g o x (ms ++ ns) ≡ letters_of g o x ms ++ letters_of g o x ns
letters-append g o x ms ns =
    ap (map (λ (m : Message). m.letter)) (filter-append (is_kind g o x) ms ns) ∙ map-append (λ (m : Message). m.letter) (filter (is_kind g o x) ms) (filter (is_kind g o x) ns)

pub letters-one : (g : Bool) (o : Owner) (x : LockName) (m : Message) → is_kind g o x m ≡ true → letters_of g o x (m ∷ []) ≡ m.letter ∷ []
letters-one g o x m e = rw e refl

pub letters-none : (g : Bool) (o : Owner) (x : LockName) (m : Message) → is_kind g o x m ≡ false → letters_of g o x (m ∷ []) ≡ []
letters-none g o x m e = rw e refl

-- the first that passes p is the first that passes q, where all that pass q pass p
past-here : (p q : Message → Bool) (ms : List Message) (m : Message) → find p ms ≡ Some m → q m ≡ true → list_all (λ k. not (q k) || p k) ms ≡ true
    → filter q ms ≡ m ∷ filter q (past_first p ms)
past-here p q [] m f e h = cc
past-here p q (k ∷ ks) m f e h =
    let rest : find p ks ≡ Some m → filter q ks ≡ m ∷ filter q (past_first p ks) = λ g. past-here p q ks m g e (list_all-tail (λ (n : Message). not (q n) || p n) k ks h) in
    let first : (not (q k) || p k) ≡ true = list_all-head (λ (n : Message). not (q n) || p n) k ks h in
    (elim (p k) as (λ b. (not (q k) || b) ≡ true → cond b (Some k) (find p ks) ≡ Some m → filter q (k ∷ ks) ≡ m ∷ filter q (if b then ks else k ∷ past_first p ks)) [
      | true ↦ λ c g.
          let here : k ≡ m = cc in
          let passes : q k ≡ true = ap q here ∙ e in
          rw passes (ap (λ (n : Message). n ∷ filter q ks) here)
      | false ↦ λ c g.
          let fails : q k ≡ false = grind arith in
          rw fails (rest g)
    ]) first f

same-behind : (b : Bool) (k : Message) (ms ns : List Message) → ms ≡ ns → cond b (k ∷ ms) ms ≡ cond b (k ∷ ns) ns
same-behind b k ms ns e = rw e refl

-- what does not pass q leaves those that do
past-other : (p q : Message → Bool) (ms : List Message) (m : Message) → find p ms ≡ Some m → q m ≡ false → filter q (past_first p ms) ≡ filter q ms
past-other p q [] m f e = refl
past-other p q (k ∷ ks) m f e =
    let rest : find p ks ≡ Some m → filter q (past_first p ks) ≡ filter q ks = λ g. past-other p q ks m g e in
    (elim (p k) as (λ b. cond b (Some k) (find p ks) ≡ Some m → filter q (if b then ks else k ∷ past_first p ks) ≡ filter q (k ∷ ks)) [
      | true ↦ λ g.
          let here : k ≡ m = cc in
          let fails : q k ≡ false = ap q here ∙ e in
          rw fails refl
      | false ↦ λ g. same-behind (q k) k (filter q (past_first p ks)) (filter q ks) (rest g)
    ]) f

pub past-all : (p r : Message → Bool) (ms : List Message) → list_all r ms ≡ true → list_all r (past_first p ms) ≡ true
past-all p r [] e = refl
past-all p r (k ∷ ks) e =
    (elim (p k) as (λ b. list_all r (if b then ks else k ∷ past_first p ks) ≡ true)
    [ true ↦ list_all-tail r k ks e | false ↦ and-both (r k) (list_all r (past_first p ks)) (list_all-head r k ks e) (past-all p r ks (list_all-tail r k ks e)) ])

-- from which node a letter about an owner and a name comes, and to which it goes, by the master of the name
abbrev pub from_of : ℕ → Bool → Owner → ℕ
from_of at true o = at
from_of at false o = o.node

abbrev pub to_of : ℕ → Bool → Owner → ℕ
to_of at true o = o.node
to_of at false o = at

pub kind-owner : (g : Bool) (o : Owner) (x : LockName) (m : Message) → is_kind g o x m ≡ true → m.owner ≡ o
kind-owner g o x m e = same_owner-same m.owner o (and-left (same_owner m.owner o) (is_same m.name x) (and-right (has_kind g m.letter) (is_about o x m) e))

pub kind-name : (g : Bool) (o : Owner) (x : LockName) (m : Message) → is_kind g o x m ≡ true → m.name ≡ x
kind-name g o x m e = is_same-same m.name x (and-right (same_owner m.owner o) (is_same m.name x) (and-right (has_kind g m.letter) (is_about o x m) e))

pub kind-has : (g : Bool) (o : Owner) (x : LockName) (m : Message) → is_kind g o x m ≡ true → has_kind g m.letter ≡ true
kind-has g o x m e = and-left (has_kind g m.letter) (is_about o x m) e

between-at : (at : ℕ) (l : Letter) (g : Bool) (o : Owner) (m : Message) → m.owner ≡ o → has_kind g l ≡ true → goes_between l at m ≡ true → is_between (from_of at g o) (to_of at g o) m ≡ true
between-at at (Ask w) true o m e k h = cc
between-at at (Ask w) false o m e k h = subst (λ (z : Owner). ((m.from == z.node) && (m.to == at)) ≡ true) e h
between-at at Drop true o m e k h = cc
between-at at Drop false o m e k h = subst (λ (z : Owner). ((m.from == z.node) && (m.to == at)) ≡ true) e h
between-at at (Grant w v) true o m e k h = subst (λ (z : Owner). ((m.from == at) && (m.to == z.node)) ≡ true) e h
between-at at (Grant w v) false o m e k h = cc
between-at at (Claim d) true o m e k h = cc
between-at at (Claim d) false o m e k h = cc

pub addressed-between : (s : State) (g : Bool) (o : Owner) (x : LockName) (m : Message) → is_addressed s m ≡ true → is_kind g o x m ≡ true
    → is_between (from_of (master x s) g o) (to_of (master x s) g o) m ≡ true
addressed-between s g o x m a e =
    let k : goes_between m.letter (master x s) m ≡ true = subst (λ (z : LockName). goes_between m.letter (master z s) m ≡ true) (kind-name g o x m e) a in
    between-at (master x s) m.letter g o m (kind-owner g o x m e) (kind-has g o x m e) k

-- two messages from one node to another
between-two : (from to f t : ℕ) (m k : Message) → is_between from to m ≡ true → is_between f t m ≡ true → is_between f t k ≡ true → is_between from to k ≡ true
between-two from to f t m k a b c = grind arith

lets-weaker : (s : State) (g : Bool) (o : Owner) (x : LockName) (from to : ℕ) (m : Message) → is_addressed s m ≡ true → is_kind g o x m ≡ true → is_between from to m ≡ true
    → (k : Message) → is_addressed s k ≡ true → (not (is_kind g o x k) || is_between from to k) ≡ true
lets-weaker s g o x from to m a e p k b =
    (elim (is_kind g o x k) as (λ c. is_kind g o x k ≡ c → (not c || is_between from to k) ≡ true) [
      | true ↦ λ h. between-two from to (from_of (master x s) g o) (to_of (master x s) g o) m k p (addressed-between s g o x m a e) (addressed-between s g o x k b h)
      | false ↦ λ h. refl
    ]) refl

-- the first message of a pair is the first of its lane
pub mails-first : (s : State) (g : Bool) (o : Owner) (x : LockName) (from to : ℕ) (ms : List Message) (m : Message) → list_all (is_addressed s) ms ≡ true
    → find (is_between from to) ms ≡ Some m → is_kind g o x m ≡ true → filter (is_kind g o x) ms ≡ m ∷ filter (is_kind g o x) (past_first (is_between from to) ms)
mails-first s g o x from to ms m a f e =
    let mine = list_all-find (is_addressed s) (is_between from to) ms m a f in
    let p = find-passes (is_between from to) ms m f in
    past-here (is_between from to) (is_kind g o x) ms m f e (list_all-weaker (is_addressed s) (λ k. not (is_kind g o x k) || is_between from to k) ms (λ k b. lets-weaker s g o x from to m mine e p k b) a)

pub letters-first : (s : State) (g : Bool) (o : Owner) (x : LockName) (from to : ℕ) (ms : List Message) (m : Message) → list_all (is_addressed s) ms ≡ true
    → find (is_between from to) ms ≡ Some m → is_kind g o x m ≡ true → letters_of g o x ms ≡ m.letter ∷ letters_of g o x (past_first (is_between from to) ms)
letters-first s g o x from to ms m a f e = ap (map (λ (k : Message). k.letter)) (mails-first s g o x from to ms m a f e)

pub mails-past : (g : Bool) (o : Owner) (x : LockName) (from to : ℕ) (ms : List Message) (m : Message)
    → find (is_between from to) ms ≡ Some m → is_kind g o x m ≡ false → filter (is_kind g o x) (past_first (is_between from to) ms) ≡ filter (is_kind g o x) ms
mails-past g o x from to ms m f e = past-other (is_between from to) (is_kind g o x) ms m f e

pub letters-past : (g : Bool) (o : Owner) (x : LockName) (from to : ℕ) (ms : List Message) (m : Message)
    → find (is_between from to) ms ≡ Some m → is_kind g o x m ≡ false → letters_of g o x (past_first (is_between from to) ms) ≡ letters_of g o x ms
letters-past g o x from to ms m f e = ap (map (λ (k : Message). k.letter)) (mails-past g o x from to ms m f e)
