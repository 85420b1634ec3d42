-- What may be read of each name's value block, in a state and behind each event.
use Rattle.std.proofs.Common.{◌≡◌, ◌≢◌, ◌++◌, ℕ, Bool, true, false, List, [], ◌∷◌, Option, Some, None, map, filter, refl, ap, sym, subst, ◌∙◌, option_and_then, Contains}
use Rattle.std.proofs.lemmas.List.{append-nil}
use Rattle.std.proofs.lemmas.List.Elements.{filter-append}
use Rattle.plain_cat.specs.declared.mode.Mode.{Mode}
use Rattle.plain_cat.specs.Modes.{compatible_modes}
use Rattle.lock_db.specs.declared.name.LockName.{LockName}
use Rattle.lock_db.specs.declared.name.Owner.{Owner}
use Rattle.lock_db.specs.declared.askers.Standing.{Standing}
use Rattle.lock_db.specs.declared.askers.Standing.TheVariants.{Granted}
use Rattle.lock_db.specs.Queues.{held}
use Rattle.lock_db.specs.Resources.{is_writing_held}
use Rattle.lock_db.proofs.Steps.{IsSettled-at}
use Rattle.dlm_core.specs.declared.messages.Letter.{Letter}
use Rattle.dlm_core.specs.declared.messages.Letter.TheVariants.{Ask, Drop, Grant, Claim}
use Rattle.dlm_core.specs.declared.messages.Message.{Message}
use Rattle.dlm_core.specs.declared.blocks.Seen.{Seen}
use Rattle.dlm_core.specs.declared.queue.Waiter.{Waiter}
use Rattle.dlm_core.specs.States.{State, home, recovery, table_at, told_at, hold_at}
use Rattle.dlm_core.specs.Steps.{stands_as, is_served, grant_of, grants_of, served}
use Rattle.dlm_core.specs.Recoveries.{is_strong}
use Rattle.dlm_core.specs.Lanes.{has_kind, is_kind, letters_of, IsLane, LaneOf, IsGrantOf, MayWait, last_ask, standing_at, waiters_of, IsSound}
use Rattle.dlm_core.specs.Lanes.IsLane.{Sends, Stands, Comes}
use Rattle.dlm_core.proofs.Ahead.{marked, OK, lock_behind, letters, ahead, behind-lowered, behind-asked, IsFree, Val, IsAlone, writing-strong, weak-quiet}
use Rattle.dlm_core.proofs.Mails.{letters-append, letters-one}
use Rattle.dlm_core.proofs.Safety.{sound-safe, held-stands, granted-together}
use Rattle.dlm_core.proofs.Serving.{filter-calls}
use Rattle.dlm_core.proofs.Passing.{kind-itself}
use Rattle.dlm_core.proofs.Tracing.{Each, each-append, each-weaker, each-split, Says, says-weaker}

true-false : true ≡ false → ⊥
true-false e = cc

-- ---- an owner's lock, its calls and the block

abbrev pub calls_of : Owner → LockName → List Message → List Message
calls_of o x ms = filter (is_kind false o x) ms

abbrev pub lock_in : Option ℕ → LockName → State → Owner → Option Mode
lock_in None x s o = option_and_then held (standing_at o x s)
lock_in (Some d) x s o = (hold_at o x s.claims).belief

abbrev pub calls_in : Option ℕ → LockName → State → Owner → List Message
calls_in None x s o = calls_of o x s.mail
calls_in (Some d) x s o = calls_of o x s.kept ++ calls_of o x s.mail

abbrev pub block_in : LockName → State → Option (List ℕ)
block_in x s = marked (told_at x s).valid (told_at x s).value

abbrev pub seen_block : Seen → Option (List ℕ)
seen_block b = marked b.valid b.value

-- While a name is being recovered, what each strong claim has seen takes the place of the block at the master.
abbrev pub ValOf : Option ℕ → List (List ℕ) → LockName → State → Type 0
ValOf None vs x s = Val vs (lock_in None x s) (calls_in None x s) (block_in x s)
ValOf (Some d) vs x s = (c : Owner) → is_strong (hold_at c x s.claims).belief ≡ true → Val vs (lock_in (Some d) x s) (calls_in (Some d) x s) (seen_block (hold_at c x s.claims).seen)

-- a grant in a strong mode brings what may be read
abbrev pub GrantOK : (LockName → List (List ℕ)) → Message → Type 0
GrantOK R m = Says (λ w v. is_strong (Some w) ≡ true → OK (R m.name) (marked v m.value)) m.letter

-- What holds of all value blocks: of those at the masters, of what holders have seen and of what grants bring. Nobody claims to wait for
-- less than its lock.
pub record Values (R : LockName → List (List ℕ)) (s : State) : Type 0 where
  pub val : (x : LockName) → ValOf (recovery x s) (R x) x s
  pub read : (o : Owner) (x : LockName) → is_strong (hold_at o x s.holds).belief ≡ true → OK (R x) (seen_block (hold_at o x s.holds).seen)
  pub given : Each (GrantOK R) s.mail
  pub waits : (o : Owner) (x : LockName) → MayWait (hold_at o x s.claims).belief (hold_at o x s.claims).wait

-- more may be read
pub more-ok : (vs ws : List (List ℕ)) (b : Option (List ℕ)) → ((v : List ℕ) → Contains vs v → Contains ws v) → OK vs b → OK ws b
more-ok vs ws None h a = tt
more-ok vs ws (Some v) h a = h v a

pub val-more : (r : Option ℕ) (vs ws : List (List ℕ)) (x : LockName) (s : State) → ((v : List ℕ) → Contains vs v → Contains ws v) → ValOf r vs x s → ValOf r ws x s
val-more None vs ws x s h a = λ o f. more-ok vs ws _ h (a o f)
val-more (Some d) vs ws x s h a = λ c e o f. more-ok vs ws _ h (a c e o f)

pub values-more : (R Q : LockName → List (List ℕ)) (s : State) → ((x : LockName) (v : List ℕ) → Contains (R x) v → Contains (Q x) v) → Values R s → Values Q s
values-more R Q s h a = record {
  val = λ x. val-more (recovery x s) (R x) (Q x) x s (h x) (a.val x);
  read = λ o x e. more-ok (R x) (Q x) _ (h x) (a.read o x e);
  given = each-weaker (GrantOK R) (GrantOK Q) s.mail (λ m k. says-weaker (λ w v. is_strong (Some w) ≡ true → OK (R m.name) (marked v m.value)) (λ w v. is_strong (Some w) ≡ true → OK (Q m.name) (marked v m.value)) m.letter
      (λ w v g e. more-ok (R m.name) (Q m.name) (marked v m.value) (h m.name) (g e)) k) a.given;
  waits = a.waits;
}

ok-of : (vs : List (List ℕ)) (a b : Option (List ℕ)) → b ≡ a → OK vs a → OK vs b
ok-of vs a b e k = subst (λ (z : Option (List ℕ)). OK vs z) (sym e) k

-- the same locks, calls and block
pub val-same : (vs : List (List ℕ)) (L L2 : Owner → Option Mode) (C C2 : Owner → List Message) (cur cur2 : Option (List ℕ)) → ((o : Owner) → L2 o ≡ L o) → ((o : Owner) → C2 o ≡ C o) → cur2 ≡ cur → Val vs L C cur → Val vs L2 C2 cur2
val-same vs L L2 C C2 cur cur2 l c e v o f =
    let g : IsFree L o = λ p d. ap is_writing_held (sym (l p)) ∙ f p d in
    ok-of vs (ahead (L o) (C o) cur) (ahead (L2 o) (C2 o) cur2) (rw (l o, c o, e) refl) (v o g)

-- ---- who writes stands alone

strong-of : (m n : Mode) (a b : Option Mode) → a ≡ Some m → b ≡ Some n → compatible_modes m n ≡ true → is_writing_held a ≡ true → is_strong b ≡ false
strong-of m n a b e f c w = ap is_strong f ∙ writing-strong m n c (ap is_writing_held (sym e) ∙ w)

apart-modes : (a b : Option Mode) → ((m n : Mode) → a ≡ Some m → b ≡ Some n → compatible_modes m n ≡ true) → is_writing_held a ≡ true → is_strong b ≡ false
apart-modes None b h w = cc
apart-modes (Some m) None h w = refl
apart-modes (Some m) (Some n) h w = strong-of m n (Some m) (Some n) refl refl (h m n refl refl) w

pub lone : (r : Option ℕ) (x : LockName) (s : State) → IsSound s → (p q : Owner) → p ≢ q → is_writing_held (lock_in r x s p) ≡ true → is_strong (lock_in r x s q) ≡ false
lone None x s i p q d w =
    apart-modes (lock_in None x s p) (lock_in None x s q) (λ m n e f. granted-together p q m n (told_at x s).askers (IsSettled-at x (table_at (home s.nodes x) s.tables) (i.tables_are (home s.nodes x))).together d e f) w
lone (Some k) x s i p q d w = apart-modes (lock_in (Some k) x s p) (lock_in (Some k) x s q) (λ m n e f. i.claimed_together p q x m n d e f) w

pub alone : (r : Option ℕ) (x : LockName) (s : State) → IsSound s → IsAlone (lock_in r x s)
alone r x s i p q d w = weak-quiet (lock_in r x s q) (lone r x s i p q d w)

-- likewise of what is believed
pub believed-apart : (x : LockName) (s : State) → IsSound s → (p q : Owner) → p ≢ q → is_writing_held (hold_at p x s.holds).belief ≡ true → is_strong (hold_at q x s.holds).belief ≡ false
believed-apart x s i p q d w = apart-modes (hold_at p x s.holds).belief (hold_at q x s.holds).belief (λ m n e f. sound-safe s i p q x m n d e f) w

-- beside a strong lock nobody writes
pub strong-free : (r : Option ℕ) (x : LockName) (s : State) → IsSound s → (o : Owner) → is_strong (lock_in r x s o) ≡ true → IsFree (lock_in r x s) o
strong-free r x s i o w p d =
    (elim (is_writing_held (lock_in r x s p)) as (λ b. is_writing_held (lock_in r x s p) ≡ b → b ≡ false) [
      | true ↦ λ e. absurd (true-false (sym w ∙ lone r x s i p o d e))
      | false ↦ λ e. refl
    ]) refl

-- ---- what a lane says of its calls

pub map-none : (ms : List Message) → letters ms ≡ [] → ms ≡ []
map-none [] e = refl
map-none (m ∷ ms) e = cc

-- the calls of an owner that does not wait lower its lock to what it believes
lane-behind : (o : Owner) (x : LockName) (st : Option Standing) (calls grants : List Letter) (qu : List Waiter) (be : Option Mode) → IsLane o x st calls grants qu be None → lock_behind (option_and_then held st) calls ≡ be
lane-behind o x st calls grants qu be (Sends lock before s gr q ca lo mw) =
    rw (s, held-stands lock, ca, append-nil before) (behind-lowered lock be before lo)
lane-behind o x st calls grants qu be (Stands w wt s ca gr q ra) = cc
lane-behind o x st calls grants qu be (Comes w wt s ca ig q ra) = cc

letters-joined : (ms ns : List Message) → letters (ms ++ ns) ≡ letters ms ++ letters ns
letters-joined [] ns = refl
letters-joined (m ∷ ms) ns = ap (λ (ls : List Letter). m.letter ∷ ls) (letters-joined ms ns)

pub owner-behind : (r : Option ℕ) (o : Owner) (x : LockName) (s : State) → MayWait (hold_at o x s.claims).belief (hold_at o x s.claims).wait → (hold_at o x s.holds).wait ≡ None → LaneOf r o x s
    → lock_behind (lock_in r x s o) (letters (calls_in r x s o)) ≡ (hold_at o x s.holds).belief
owner-behind None o x s m w l =
    lane-behind o x (standing_at o x s) (letters_of false o x s.mail) (letters_of true o x s.mail) (waiters_of o x s.queue) (hold_at o x s.holds).belief
    (subst (λ (z : Option Mode). IsLane o x (standing_at o x s) (letters_of false o x s.mail) (letters_of true o x s.mail) (waiters_of o x s.queue) (hold_at o x s.holds).belief z) w l)
owner-behind (Some d) o x s m w l =
    let be : Option Mode = (hold_at o x s.claims).belief in
    let k : List Letter = letters_of false o x s.kept ++ letters_of false o x s.mail in
    let lane : IsLane o x (stands_as be) (last_ask (hold_at o x s.claims).wait ++ k) [] [] (hold_at o x s.holds).belief None =
    subst (λ (z : Option Mode). IsLane o x (stands_as be) (last_ask (hold_at o x s.claims).wait ++ k) [] [] (hold_at o x s.holds).belief z) w l.lane in
    let all : lock_behind be (last_ask (hold_at o x s.claims).wait ++ k) ≡ (hold_at o x s.holds).belief =
    ap (λ (z : Option Mode). lock_behind z (last_ask (hold_at o x s.claims).wait ++ k)) (sym (held-stands be)) ∙ lane-behind o x (stands_as be) (last_ask (hold_at o x s.claims).wait ++ k) [] [] (hold_at o x s.holds).belief lane in
    ap (lock_behind be) (letters-joined (calls_of o x s.kept) (calls_of o x s.mail)) ∙ sym (behind-asked be (hold_at o x s.claims).wait k m) ∙ all

-- ---- a grant that is on its way

-- its name is not being recovered, its owner has the lock, has called nothing behind it, and waits
pub record Coming (s : State) (m : Message) (w : Mode) : Type 0 where
  pub open_name : recovery m.name s ≡ None
  pub has : standing_at m.owner m.name s ≡ Some (Granted w)
  pub no_calls : calls_of m.owner m.name s.mail ≡ []
  pub waits : (hold_at m.owner m.name s.holds).wait ≡ Some w

not-empty : (xs : List Letter) (l : Letter) (ys : List Letter) → xs ++ (l ∷ ys) ≡ [] → ⊥
not-empty [] l ys e = cc
not-empty (x ∷ xs) l ys e = cc

only-one : (w v : Mode) (b : Bool) (xs ys : List Letter) → IsGrantOf w (xs ++ (Grant v b ∷ ys)) → w ≡ v
only-one w v b [] ys g = sym g.0
only-one w v b (Ask m ∷ xs) ys g = absurd g
only-one w v b (Drop ∷ xs) ys g = absurd g
only-one w v b (Grant m c ∷ xs) ys g = absurd (not-empty xs (Grant v b) ys g.1)
only-one w v b (Claim d ∷ xs) ys g = absurd g

lane-coming : (o : Owner) (x : LockName) (st : Option Standing) (calls grants : List Letter) (qu : List Waiter) (be wa : Option Mode) (v : Mode) (b : Bool) (xs ys : List Letter)
    → grants ≡ xs ++ (Grant v b ∷ ys) → IsLane o x st calls grants qu be wa → (st ≡ Some (Granted v)) × ((calls ≡ []) × (wa ≡ Some v))
lane-coming o x st calls grants qu be wa v b xs ys e (Sends lock before s gr q ca lo mw) = absurd (not-empty xs (Grant v b) ys (sym e ∙ gr))
lane-coming o x st calls grants qu be wa v b xs ys e (Stands w wt s ca gr q ra) = absurd (not-empty xs (Grant v b) ys (sym e ∙ gr))
lane-coming o x st calls grants qu be wa v b xs ys e (Comes w wt s ca ig q ra) =
    let k : w ≡ v = only-one w v b xs ys (subst (λ (ls : List Letter). IsGrantOf w ls) e ig) in
    (s ∙ ap (λ (z : Mode). Some (Granted z)) k, (ca, wt ∙ ap Some k))

of-coming : (r : Option ℕ) (s : State) (m : Message) (v : Mode) (b : Bool) (xs ys : List Letter) → recovery m.name s ≡ r → letters_of true m.owner m.name s.mail ≡ xs ++ (Grant v b ∷ ys) → LaneOf r m.owner m.name s → Coming s m v
of-coming None s m v b xs ys n e l =
    let k = lane-coming m.owner m.name (standing_at m.owner m.name s) (letters_of false m.owner m.name s.mail) (letters_of true m.owner m.name s.mail) (waiters_of m.owner m.name s.queue)
    (hold_at m.owner m.name s.holds).belief (hold_at m.owner m.name s.holds).wait v b xs ys e l in
    record { open_name = n; has = k.0; no_calls = map-none (calls_of m.owner m.name s.mail) k.1.0; waits = k.1.1 }
of-coming (Some d) s m v b xs ys n e l = absurd (not-empty xs (Grant v b) ys (sym e ∙ l.no_grants))

one-coming : (s : State) (m : Message) (xs ys : List Message) (v : Mode) (b : Bool) → IsSound s → m.letter ≡ Grant v b → s.mail ≡ xs ++ (m ∷ ys) → Coming s m v
one-coming s m xs ys v b i l e =
    let kind = kind-itself true m (ap (has_kind true) l) in
    let at : letters_of true m.owner m.name s.mail ≡ letters_of true m.owner m.name xs ++ (Grant v b ∷ letters_of true m.owner m.name ys) =
    ap (letters_of true m.owner m.name) e ∙ letters-append true m.owner m.name xs (m ∷ ys)
    ∙ ap (λ (ls : List Letter). letters_of true m.owner m.name xs ++ ls) (letters-append true m.owner m.name (m ∷ []) ys ∙ ap (λ (ls : List Letter). ls ++ letters_of true m.owner m.name ys) (letters-one true m.owner m.name m kind ∙ ap (λ (z : Letter). z ∷ []) l)) in
    of-coming (recovery m.name s) s m v b (letters_of true m.owner m.name xs) (letters_of true m.owner m.name ys) refl at (i.lanes m.owner m.name)

says-coming : (s : State) (m : Message) (l : Letter) (xs ys : List Message) → IsSound s → m.letter ≡ l → s.mail ≡ xs ++ (m ∷ ys) → Says (λ w v. Coming s m w) l
says-coming s m (Ask w) xs ys i l e = tt
says-coming s m Drop xs ys i l e = tt
says-coming s m (Grant w v) xs ys i l e = one-coming s m xs ys w v i l e
says-coming s m (Claim d) xs ys i l e = tt

abbrev pub Comes1 : State → Message → Type 0
Comes1 s m = Says (λ w v. Coming s m w) m.letter

pub each-coming : (s : State) (before new : List Message) → IsSound s → s.mail ≡ before ++ new → Each (Comes1 s) new
each-coming s before new i e = each-split (Comes1 s) s.mail before new e (λ xs ys m k. says-coming s m m.letter xs ys i refl k)

-- ---- grants are sent

calls-behind : (o : Owner) (x : LockName) (z : State) (ms : List Message) (ws : List Waiter) → calls_of o x (ms ++ map (grant_of z) ws) ≡ calls_of o x ms
calls-behind o x z ms ws = filter-append (is_kind false o x) ms (map (grant_of z) ws) ∙ ap (λ (ns : List Message). calls_of o x ms ++ ns) (filter-calls o x z ws) ∙ append-nil (calls_of o x ms)

served-val : (r : Option ℕ) (vs : List (List ℕ)) (x : LockName) (z : State) → ValOf r vs x z → ValOf r vs x (served z)
served-val None vs x z v = val-same vs (lock_in None x z) (lock_in None x (served z)) (calls_in None x z) (calls_in None x (served z)) (block_in x z) (block_in x (served z)) (λ o. refl) (λ o. calls-behind o x z z.mail (filter (is_served z) z.queue)) refl v
served-val (Some d) vs x z v = λ c e.
    val-same vs (lock_in (Some d) x z) (lock_in (Some d) x (served z)) (calls_in (Some d) x z) (calls_in (Some d) x (served z)) (seen_block (hold_at c x z.claims).seen) (seen_block (hold_at c x z.claims).seen) (λ o. refl)
    (λ o. ap (λ (ms : List Message). calls_of o x z.kept ++ ms) (calls-behind o x z z.mail (filter (is_served z) z.queue))) refl (v c e)

-- who has a strong lock and has called nothing behind it reads what may be read
strong-reads : (R : LockName → List (List ℕ)) (x : LockName) (s : State) (o : Owner) (w : Mode) → IsSound s → recovery x s ≡ None → standing_at o x s ≡ Some (Granted w) → calls_of o x s.mail ≡ [] → is_strong (Some w) ≡ true
    → ValOf (recovery x s) (R x) x s → OK (R x) (block_in x s)
strong-reads R x s o w i n e c w1 v =
    let here : ValOf None (R x) x s = subst (λ (r : Option ℕ). ValOf r (R x) x s) n v in
    let lock : lock_in None x s o ≡ Some w = ap (option_and_then held) e in
    let free : IsFree (lock_in None x s) o = strong-free None x s i o (ap is_strong lock ∙ w1) in
    ok-of (R x) (ahead (lock_in None x s o) (calls_in None x s o) (block_in x s)) (block_in x s) (ap (λ (ms : List Message). ahead (lock_in None x s o) ms (block_in x s)) (sym c)) (here o free)

new-given : (R : LockName → List (List ℕ)) (z : State) (ws : List Waiter) → IsSound (served z) → ((x : LockName) → ValOf (recovery x z) (R x) x z) → Each (Comes1 (served z)) (map (grant_of z) ws) → Each (GrantOK R) (map (grant_of z) ws)
new-given R z [] i v a = tt
new-given R z (w ∷ ws) i v a =
    let c = a.0 in
    (λ e. strong-reads R w.name (served z) w.owner w.mode i c.open_name c.has c.no_calls e (served-val (recovery w.name z) (R w.name) w.name z (v w.name)), new-given R z ws i v a.1)

pub served-values : (R : LockName → List (List ℕ)) (z : State) → IsSound (served z) → Values R z → Values R (served z)
served-values R z i a = record {
  val = λ x. served-val (recovery x z) (R x) x z (a.val x);
  read = a.read;
  given = each-append (GrantOK R) z.mail (grants_of z z.queue) a.given (new-given R z (filter (is_served z) z.queue) i a.val (each-coming (served z) z.mail (grants_of z z.queue) i refl));
  waits = a.waits;
}
