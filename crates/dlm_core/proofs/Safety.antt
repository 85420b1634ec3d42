-- What two owners believe of one name goes together.
use Rattle.std.proofs.Common.{◌≡◌, ◌≢◌, ◌||◌, ℕ, true, false, List, [], ◌∷◌, Option, Some, None, find, refl, ap, sym, ◌∙◌, if◌then◌else◌, option_and_then, option_map}
use Rattle.plain_cat.specs.declared.mode.Mode.{Mode}
use Rattle.plain_cat.specs.Modes.{compatible_modes}
use Rattle.lock_db.specs.declared.name.LockName.{LockName}
use Rattle.lock_db.specs.declared.name.Owner.{Owner}
use Rattle.lock_db.specs.declared.askers.Standing.{Standing}
use Rattle.lock_db.specs.declared.askers.Asker.{Asker}
use Rattle.lock_db.specs.Names.{same_owner}
use Rattle.lock_db.specs.Queues.{held, goes_beside, standing_of}
use Rattle.lock_db.specs.Tables.{all_together}
use Rattle.lock_db.proofs.Lists.{list_all-find, find-passes}
use Rattle.lock_db.proofs.Modes.{compatible_modes-comm}
use Rattle.lock_db.proofs.Owners.{same_owner-same}
use Rattle.lock_db.proofs.Together.{lets, goes-held}
use Rattle.lock_db.proofs.Steps.{IsSettled-at}
use Rattle.dlm_core.specs.declared.messages.Letter.{Letter}
use Rattle.dlm_core.specs.declared.messages.Letter.TheVariants.{Ask, Drop, Grant, Claim}
use Rattle.dlm_core.specs.declared.queue.Waiter.{Waiter}
use Rattle.dlm_core.specs.Modes.{is_lowering}
use Rattle.dlm_core.specs.States.{State, home, recovery, told_at, table_at, hold_at}
use Rattle.dlm_core.specs.Steps.{stands_as}
use Rattle.dlm_core.specs.Lanes.{IsLane, LaneOf, lowered, raises, IsSound, BeliefsGoTogether}
use Rattle.dlm_core.specs.Lanes.IsLane.{Sends, Stands, Comes}
use Rattle.dlm_core.proofs.Modes.{lowering-goes, raise-goes}
use Rattle.dlm_core.proofs.Others.{some-mode}

-- a mode that goes wherever another goes that is granted
pub record IsUnder (b : Mode) (granted : Option Mode) : Type 0 where
  pub mode : Mode
  pub has : granted ≡ Some mode
  pub under : (h : Option Mode) → goes_beside mode h ≡ true → goes_beside b h ≡ true

under-lower : (k w b : Mode) → is_lowering k w ≡ true → IsUnder b (Some w) → IsUnder b (Some k)
under-lower k w b l u =
    let is : w ≡ u.mode = some-mode w u.mode u.has in
    record { mode = k; has = refl; under = λ h g. u.under h (rw (← is) (lowering-goes k w h l g)) }

lowered-under : (t : Option Mode) (ls : List Letter) (b : Mode) → lowered t ls ≡ Some (Some b) → IsUnder b t
lowered-under t [] b e = let is : t ≡ Some b = cc in record { mode = b; has = is; under = λ h g. g }
lowered-under None (l ∷ ls) b e = cc
lowered-under (Some k) (Ask w ∷ ls) b e =
    (elim (is_lowering k w) as (λ c. is_lowering k w ≡ c → option_and_then (λ (u : Option Mode). lowered u ls) (if c then Some (Some w) else None) ≡ Some (Some b) → IsUnder b (Some k))
    [ true ↦ λ d g. under-lower k w b d (lowered-under (Some w) ls b g) | false ↦ λ d g. cc ]) refl e
lowered-under (Some k) (Drop ∷ ls) b e = let u = lowered-under None ls b e in let n : None ≡ Some u.mode = u.has in cc
lowered-under (Some k) (Grant w v ∷ ls) b e = cc
lowered-under (Some k) (Claim d ∷ ls) b e = cc

pub held-stands : (lock : Option Mode) → option_and_then held (stands_as lock) ≡ lock
held-stands None = refl
held-stands (Some m) = refl

-- what is believed goes wherever the granted lock goes
lane-under : (o : Owner) (x : LockName) (st : Option Standing) (calls grants : List Letter) (qu : List Waiter) (be wa : Option Mode) (b : Mode) → IsLane o x st calls grants qu be wa → be ≡ Some b → IsUnder b (option_and_then held st)
lane-under o x st calls grants qu be wa b (Sends lock before s gr q ca lo mw) e = rw (s, held-stands lock) (lowered-under lock before b (lo ∙ ap Some e))
lane-under o x st calls grants qu be wa b (Stands w wt s ca gr q ra) e = rw (s, e) (record { mode = b; has = refl; under = λ h g. g })
lane-under o x st calls grants qu be wa b (Comes w wt s ca ig q ra) e = rw s (record { mode = w; has = refl; under = λ h g. raise-goes b w h (ap (λ (z : Option Mode). raises z w) (sym e) ∙ ra) g })

-- the asker whose lock is granted
record HasAsker (owner : Owner) (m : Mode) (xs : List Asker) : Type 0 where
  asker : Asker
  found : find (λ (x : Asker). same_owner x.owner owner) xs ≡ Some asker
  holds : held asker.standing ≡ Some m

has-asker : (owner : Owner) (m : Mode) (xs : List Asker) → option_and_then held (standing_of owner xs) ≡ Some m → HasAsker owner m xs
has-asker owner m xs e =
    (elim (find (λ (x : Asker). same_owner x.owner owner) xs) as (λ f. find (λ (x : Asker). same_owner x.owner owner) xs ≡ f → option_and_then held (option_map (λ (a : Asker). a.standing) f) ≡ Some m → HasAsker owner m xs)
    [ None ↦ λ f g. cc | Some a ↦ λ f g. record { asker = a; found = f; holds = g } ]) refl e

pub granted-together : (a b : Owner) (m n : Mode) (xs : List Asker) → all_together xs ≡ true → a ≢ b → option_and_then held (standing_of a xs) ≡ Some m → option_and_then held (standing_of b xs) ≡ Some n
    → goes_beside m (Some n) ≡ true
granted-together a b m n xs t d e f =
    let p = has-asker a m xs e in
    let q = has-asker b n xs f in
    let g = goes-held a m xs p.asker t p.found p.holds in
    let k : lets a m q.asker ≡ true = list_all-find (lets a m) (λ (x : Asker). same_owner x.owner b) xs q.asker g q.found in
    let of_b : q.asker.owner ≡ b = same_owner-same q.asker.owner b (find-passes (λ (x : Asker). same_owner x.owner b) xs q.asker q.found) in
    (elim (same_owner q.asker.owner a) as (λ c. same_owner q.asker.owner a ≡ c → (c || goes_beside m (held q.asker.standing)) ≡ true → goes_beside m (Some n) ≡ true) [
      | true ↦ λ h z. absurd (d (sym (same_owner-same q.asker.owner a h) ∙ of_b))
      | false ↦ λ h z. ap (goes_beside m) (sym q.holds) ∙ z
    ]) refl k

-- two modes of which each goes wherever its lock goes
both-under : (m n : Mode) (g h : Option Mode) (u : IsUnder m g) (v : IsUnder n h) → compatible_modes u.mode v.mode ≡ true → compatible_modes m n ≡ true
both-under m n g h u v c =
    let one : compatible_modes m v.mode ≡ true = u.under (Some v.mode) c in
    let two : compatible_modes v.mode m ≡ true = compatible_modes-comm v.mode m ∙ one in
    compatible_modes-comm m n ∙ v.under (Some m) two

name-safe : (r : Option ℕ) (s : State) (a b : Owner) (x : LockName) (m n : Mode) → IsSound s → a ≢ b → (hold_at a x s.holds).belief ≡ Some m → (hold_at b x s.holds).belief ≡ Some n → LaneOf r a x s → LaneOf r b x s → compatible_modes m n ≡ true
name-safe None s a b x m n i d e f l k =
    let xs : List Asker = (told_at x s).askers in
    let u = lane-under a x (standing_of a xs) _ _ _ (hold_at a x s.holds).belief _ m l e in
    let v = lane-under b x (standing_of b xs) _ _ _ (hold_at b x s.holds).belief _ n k f in
    both-under m n _ _ u v (granted-together a b u.mode v.mode xs (IsSettled-at x (table_at (home s.nodes x) s.tables) (i.tables_are (home s.nodes x))).together d u.has v.has)
name-safe (Some q) s a b x m n i d e f l k =
    let u = lane-under a x (stands_as (hold_at a x s.claims).belief) _ _ _ (hold_at a x s.holds).belief _ m l.lane e in
    let v = lane-under b x (stands_as (hold_at b x s.claims).belief) _ _ _ (hold_at b x s.holds).belief _ n k.lane f in
    both-under m n _ _ u v (i.claimed_together a b x u.mode v.mode d (sym (held-stands (hold_at a x s.claims).belief) ∙ u.has) (sym (held-stands (hold_at b x s.claims).belief) ∙ v.has))

pub sound-safe : (s : State) → IsSound s → BeliefsGoTogether s
sound-safe s i a b x m n d e f = name-safe (recovery x s) s a b x m n i d e f (i.lanes a x) (i.lanes b x)
