-- Lanes at whose end a call is sent, or whose first call is taken.
use Rattle.std.proofs.Common.{◌≡◌, ◌++◌, ◌⊎◌, inl, inr, Bool, true, false, List, [], ◌∷◌, Option, Some, None, refl, ap, sym, subst, ◌∙◌, if◌then◌else◌, option_and_then}
use Rattle.std.proofs.lemmas.List.{append-nil}
use Rattle.plain_cat.specs.declared.mode.Mode.{Mode}
use Rattle.lock_db.specs.declared.name.LockName.{LockName}
use Rattle.lock_db.specs.declared.name.Owner.{Owner}
use Rattle.lock_db.specs.declared.askers.Standing.{Standing}
use Rattle.lock_db.specs.declared.askers.Standing.TheVariants.{Granted}
use Rattle.lock_db.specs.Queues.{wanted, is_queued}
use Rattle.dlm_core.specs.declared.messages.Letter.{Letter}
use Rattle.dlm_core.specs.declared.messages.Letter.TheVariants.{Ask, Drop, Grant, Claim}
use Rattle.dlm_core.specs.declared.queue.Waiter.{Waiter}
use Rattle.dlm_core.specs.Modes.{is_lowering, lowers, crosses}
use Rattle.dlm_core.specs.Steps.{stands_as}
use Rattle.dlm_core.specs.Lanes.{IsLane, IsGrantOf, raises, queued_as, lowered, lowered_one, last_ask, MayWait}
use Rattle.dlm_core.specs.Lanes.IsLane.{Sends, Stands, Comes}
use Rattle.dlm_core.proofs.Modes.{raises-both}
use Rattle.lock_db.proofs.Owners.{Served}
use Rattle.dlm_core.proofs.Serving.{Due}

pub lowered-append : (t : Option Mode) (xs ys : List Letter) (u : Option Mode) → lowered t xs ≡ Some u → lowered t (xs ++ ys) ≡ lowered u ys
lowered-append t [] ys u e = let k : t ≡ u = cc in ap (λ (v : Option Mode). lowered v ys) k
lowered-append t (l ∷ xs) ys u e =
    (elim (lowered_one t l) as (λ o. option_and_then (λ (v : Option Mode). lowered v xs) o ≡ Some u → option_and_then (λ (v : Option Mode). lowered v (xs ++ ys)) o ≡ lowered u ys)
    [ None ↦ λ g. cc | Some v ↦ λ g. lowered-append v xs ys u g ]) e

lowers-one : (be : Option Mode) (m : Mode) → lowers be m ≡ true → lowered be (Ask m ∷ []) ≡ Some (Some m)
lowers-one None m e = cc
lowers-one (Some b) m e = rw e refl

pub some-standing : (a b : Standing) → Some a ≡ Some b → a ≡ b
some-standing a b e = cc

pub stands-idle : (lock : Option Mode) (s : Standing) → stands_as lock ≡ Some s → is_queued s ≡ true → ⊥
stands-idle None s e i = cc
stands-idle (Some m) s e i = let k : is_queued (Granted m) ≡ true = ap is_queued (some-standing (Granted m) s e) ∙ i in cc

pub wanted-queued : (be : Option Mode) (w : Mode) → wanted (queued_as be w) ≡ w
wanted-queued None w = refl
wanted-queued (Some m) w = refl

module _ {o : Owner} {x : LockName} {st : Option Standing} {calls grants : List Letter} {qu : List Waiter} {be : Option Mode} where
  -- an owner that waits for nothing asks for less
  pub lane-lowered : (m : Mode) → IsLane o x st calls grants qu be None → lowers be m ≡ true → IsLane o x st (calls ++ (Ask m ∷ [])) grants qu (Some m) None
  lane-lowered m (Sends lock before s gr q ca lo mw) l =
      let c : calls ≡ before = ca ∙ append-nil before in
      let k : lowered lock (before ++ (Ask m ∷ [])) ≡ Some (Some m) = lowered-append lock before (Ask m ∷ []) be lo ∙ lowers-one be m l in
      Sends lock (before ++ (Ask m ∷ [])) s gr q (rw c (sym (append-nil (before ++ (Ask m ∷ []))))) k tt
  lane-lowered m (Stands w wa s ca gr q ra) l = cc
  lane-lowered m (Comes w wa s ca ig q ra) l = cc

  -- or for something else, for which it waits
  pub lane-asked : (m : Mode) → IsLane o x st calls grants qu be None → lowers be m ≡ false → crosses be m ≡ false → IsLane o x st (calls ++ (Ask m ∷ [])) grants qu be (Some m)
  lane-asked m (Sends lock before s gr q ca lo mw) l c =
      let k : calls ≡ before = ca ∙ append-nil before in
      Sends lock before s gr q (ap (λ (ls : List Letter). ls ++ (Ask m ∷ [])) k) lo (raises-both be m c l)
  lane-asked m (Stands w wa s ca gr q ra) l c = cc
  lane-asked m (Comes w wa s ca ig q ra) l c = cc

  -- or gives its lock up
  pub lane-dropped : (m : Mode) → IsLane o x st calls grants qu be None → be ≡ Some m → IsLane o x st (calls ++ (Drop ∷ [])) grants qu None None
  lane-dropped m (Sends lock before s gr q ca lo mw) e =
      let c : calls ≡ before = ca ∙ append-nil before in
      let k : lowered lock (before ++ (Drop ∷ [])) ≡ Some None = lowered-append lock before (Drop ∷ []) be lo ∙ rw e refl in
      Sends lock (before ++ (Drop ∷ [])) s gr q (rw c (sym (append-nil (before ++ (Drop ∷ []))))) k tt
  lane-dropped m (Stands w wa s ca gr q ra) e = cc
  lane-dropped m (Comes w wa s ca ig q ra) e = cc

  -- A grant comes: it is the one of what is waited for, and nothing else is on its way or waits.
  pub lane-granted : (wa : Option Mode) (m : Mode) (v : Bool) (rest : List Letter) → grants ≡ Grant m v ∷ rest → IsLane o x st calls grants qu be wa → IsLane o x st calls rest qu (Some m) None
  lane-granted wa m v rest e (Sends lock before s gr q ca lo mw) = cc
  lane-granted wa m v rest e (Stands w wt s ca gr q ra) = cc
  lane-granted wa m v rest e (Comes w wt s ca ig q ra) =
      let k : IsGrantOf w (Grant m v ∷ rest) = subst (λ (ls : List Letter). IsGrantOf w ls) e ig in
      Sends (Some w) [] s k.1 q ca (ap (λ (n : Mode). Some (Some n)) (sym k.0)) tt

  -- a call on the name of another owner may be what serves this one
  pub lane-served : (wa : Option Mode) (s2 : Option Standing) → IsLane o x st calls grants qu be wa → Served st s2 → (IsLane o x s2 calls grants qu be wa) ⊎ (Due o x s2 calls grants qu be wa)
  lane-served wa s2 l (inl e) = inl (rw e l)
  lane-served wa s2 (Sends lock before s gr q ca lo mw) (inr (s0, b, i, a)) = absurd (stands-idle lock s0 (sym s ∙ b) i)
  lane-served wa s2 (Stands w wt s ca gr q ra) (inr (s0, b, i, a)) =
      let is : s0 ≡ queued_as be w = some-standing s0 (queued_as be w) (sym b ∙ s) in
      let g : s2 ≡ Some (Granted w) = a ∙ rw is (ap (λ (n : Mode). Some (Granted n)) (wanted-queued be w)) in
      inr (record { mode = w; waited = wt; granted = g; no_calls = ca; no_grants = gr; alone = q; raise = ra })
  lane-served wa s2 (Comes w wt s ca ig q ra) (inr (s0, b, i, a)) = absurd (stands-idle (Some w) s0 (sym s ∙ b) i)

-- What stands of an owner whose first call is taken.
pub data Head (o : Owner) (x : LockName) (st : Option Standing) (l : Letter) (rest grants : List Letter) (qu : List Waiter) (be wa : Option Mode) : Type 0 where
  -- it asks for what it waits for
  Raise : (w : Mode) → l ≡ Ask w → rest ≡ [] → st ≡ stands_as be → grants ≡ [] → qu ≡ [] → wa ≡ Some w → raises be w ≡ true → Head o x st l rest grants qu be wa
  -- it lowers its lock
  Lower : (k w : Mode) → l ≡ Ask w → st ≡ stands_as (Some k) → is_lowering k w ≡ true → ((s2 : Option Standing) → s2 ≡ Some (Granted w) → IsLane o x s2 rest grants qu be wa) → Head o x st l rest grants qu be wa
  -- it gives it up
  Leave : (k : Mode) → l ≡ Drop → st ≡ stands_as (Some k) → ((s2 : Option Standing) → s2 ≡ None → IsLane o x s2 rest grants qu be wa) → Head o x st l rest grants qu be wa

head-lower : (o : Owner) (x : LockName) (st : Option Standing) (l : Letter) (rest grants : List Letter) (qu : List Waiter) (be wa : Option Mode) (k w : Mode) (bs : List Letter)
    → st ≡ stands_as (Some k) → grants ≡ [] → qu ≡ [] → l ≡ Ask w → rest ≡ bs ++ last_ask wa → MayWait be wa
    → (b : Bool) → is_lowering k w ≡ b → option_and_then (λ (u : Option Mode). lowered u bs) (if b then Some (Some w) else None) ≡ Some be → Head o x st l rest grants qu be wa
head-lower o x st l rest grants qu be wa k w bs s gr q e r mw true d lo = Lower k w e s d (λ s2 z. Sends (Some w) bs z gr q r lo mw)
head-lower o x st l rest grants qu be wa k w bs s gr q e r mw false d lo = cc

head-sends : (o : Owner) (x : LockName) (st : Option Standing) (l : Letter) (rest grants : List Letter) (qu : List Waiter) (be wa : Option Mode) (lock : Option Mode) (before : List Letter)
    → st ≡ stands_as lock → grants ≡ [] → qu ≡ [] → l ∷ rest ≡ before ++ last_ask wa → lowered lock before ≡ Some be → MayWait be wa → Head o x st l rest grants qu be wa
head-sends o x st l rest grants qu be None lock [] s gr q ca lo mw = cc
head-sends o x st l rest grants qu be (Some w) lock [] s gr q ca lo mw =
    let is : lock ≡ be = cc in
    let first : l ≡ Ask w = cc in
    let last : rest ≡ [] = cc in
    Raise w first last (s ∙ ap stands_as is) gr q refl mw
head-sends o x st l rest grants qu be wa None (b ∷ bs) s gr q ca lo mw = cc
head-sends o x st l rest grants qu be wa (Some k) (Ask w ∷ bs) s gr q ca lo mw =
    let first : l ≡ Ask w = cc in
    let more : rest ≡ bs ++ last_ask wa = cc in
    head-lower o x st l rest grants qu be wa k w bs s gr q first more mw (is_lowering k w) refl lo
head-sends o x st l rest grants qu be wa (Some k) (Drop ∷ bs) s gr q ca lo mw =
    let first : l ≡ Drop = cc in
    let more : rest ≡ bs ++ last_ask wa = cc in
    Leave k first s (λ s2 z. Sends None bs z gr q more lo mw)
head-sends o x st l rest grants qu be wa (Some k) (Grant w v ∷ bs) s gr q ca lo mw = cc
head-sends o x st l rest grants qu be wa (Some k) (Claim d ∷ bs) s gr q ca lo mw = cc

pub lane-head : (o : Owner) (x : LockName) (st : Option Standing) (l : Letter) (calls rest grants : List Letter) (qu : List Waiter) (be wa : Option Mode) → calls ≡ l ∷ rest → IsLane o x st calls grants qu be wa → Head o x st l rest grants qu be wa
lane-head o x st l calls rest grants qu be wa e (Sends lock before s gr q ca lo mw) = head-sends o x st l rest grants qu be wa lock before s gr q (sym e ∙ ca) lo mw
lane-head o x st l calls rest grants qu be wa e (Stands w wt s ca gr q ra) = cc
lane-head o x st l calls rest grants qu be wa e (Comes w wt s ca ig q ra) = cc
