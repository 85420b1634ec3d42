-- The state stays sound when a node dies.
use Rattle.std.proofs.Common.{◌≡◌, ◌≢◌, ◌==◌, ◌&&◌, ◌||◌, ◌++◌, ◌⊎◌, inl, inr, ℕ, zero, suc, ◌-◌, ◌<◌, Bool, true, false, not, List, [], ◌∷◌, Option, Some, None, is_some, map, filter, find, length, get_or, refl, arith, cond, ap, sym, subst, ◌∙◌, if◌then◌else◌, unwrap_or, option_map}
use Rattle.std.specs.List.{list_all, list_any}
use Rattle.std.proofs.lemmas.List.{append-nil, get_or-map}
use Rattle.dlm_core.proofs.Shapes.{length-homes, length-bereft}
use Rattle.std.proofs.lemmas.Bool.Decides.{nat_tests}
use Rattle.plain_cat.specs.declared.mode.Mode.{Mode}
use Rattle.plain_cat.specs.Modes.{compatible_modes}
use Rattle.lock_db.specs.declared.name.LockName.{LockName}
use Rattle.lock_db.specs.declared.name.Owner.{Owner}
use Rattle.lock_db.specs.declared.askers.Standing.{Standing}
use Rattle.lock_db.specs.declared.askers.Asker.{Asker}
use Rattle.lock_db.specs.declared.resource.Resource.{Resource}
use Rattle.lock_db.specs.Names.{is_same, same_owner}
use Rattle.lock_db.specs.Queues.{standing_of, without_node, settled, or_else}
use Rattle.lock_db.specs.Resources.{dropped_of}
use Rattle.lock_db.specs.Tables.{resource_at, IsTable, dropped, all_together}
use Rattle.lock_db.proofs.Lists.{and-left, and-right, and-both, not-true, or-if_right, or-false_left, or-false_right, list_all-head, list_all-tail, list_all-weaker, list_all-kept, list_all-joined, list_all-passing, list_all-every, find-filter, find-append}
use Rattle.lock_db.proofs.Names.{is_same-same}
use Rattle.lock_db.proofs.Owners.{same_owner-same}
use Rattle.lock_db.proofs.Together.{all_together-filter}
use Rattle.lock_db.proofs.Steps.{IsSettled-at, IsTable-dropped}
use Rattle.lock_db.proofs.Blocks.{dropped-at}
use Rattle.lock_db.proofs.Standings.{deaths-leave}
use Rattle.dlm_core.specs.declared.messages.Letter.{Letter}
use Rattle.dlm_core.specs.declared.messages.Letter.TheVariants.{Ask, Drop, Grant, Claim}
use Rattle.dlm_core.specs.declared.messages.Message.{Message}
use Rattle.dlm_core.specs.declared.holds.Hold.{Hold}
use Rattle.dlm_core.specs.declared.homes.Home.{Home}
use Rattle.dlm_core.specs.declared.queue.Waiter.{Waiter}
use Rattle.dlm_core.specs.States.{State, home, home_at, master, recovery, table_at, is_at, hold_at, is_between}
use Rattle.dlm_core.specs.Steps.{is_call, stands_as, served}
use Rattle.dlm_core.specs.Deaths.{lowest, without_dead, rehomed, bereft_table, bereft_tables, is_lost, was_master, left_holds, bereft, claim_from, with_claims, with_ended, killed}
use Rattle.dlm_core.specs.Lanes.{is_kind, letters_of, is_of, waiters_of, IsLane, LaneOf, MayWait, last_ask, standing_at, goes_between, is_addressed, is_kept, each_once, GoTogether, IsSound}
use Rattle.dlm_core.specs.Lanes.IsLane.{Sends, Stands, Comes}
use Rattle.dlm_core.proofs.Mails.{letters-append, from_of, to_of, addressed-between}
use Rattle.dlm_core.proofs.Beliefs.{at-owner, at-name, once-filter}
use Rattle.dlm_core.proofs.Others.{settled-serves, vacated-askers}
use Rattle.lock_db.proofs.Owners.{Served}
use Rattle.dlm_core.proofs.Growing.{lane-served}
use Rattle.dlm_core.proofs.Serving.{PreOf}
use Rattle.dlm_core.proofs.Takes.{IsPre, served-sound, home-low, home-high, eq-of, ne-of}
use Rattle.dlm_core.proofs.Safety.{sound-safe}
use Rattle.dlm_core.proofs.Recovering.{all-ended-sound}
use Rattle.dlm_core.proofs.Sending.{empty-table}
use Rattle.dlm_core.proofs.Restoring.{nothing_of}

true-false : true ≡ false → ⊥
true-false e = cc

ends-false : (a b : Bool) → b ≡ false → (a && b) ≡ false
ends-false true b e = e
ends-false false b e = refl

-- ---- what filters leave

module _ {X : Type 0} where
  pub kept-where : (p q r : X → Bool) (xs : List X) → list_all p xs ≡ true → ((x : X) → p x ≡ true → q x ≡ true → r x ≡ true) → filter q (filter r xs) ≡ filter q xs
  kept-where p q r [] a h = refl
  kept-where p q r (x ∷ xs) a h =
      let t = kept-where p q r xs (list_all-tail p x xs a) h in
      (elim (q x) as (λ b. q x ≡ b → filter q (filter r (x ∷ xs)) ≡ cond b (x ∷ filter q xs) (filter q xs)) [
        | true ↦ λ e. rw (h x (list_all-head p x xs a) e, e) (ap (λ (ys : List X). x ∷ ys) t)
        | false ↦ λ e. (elim (r x) as (λ c. filter q (cond c (x ∷ filter r xs) (filter r xs)) ≡ filter q xs) [ true ↦ rw e t | false ↦ t ])
      ]) refl

  gone-where : (p q r : X → Bool) (xs : List X) → list_all p xs ≡ true → ((x : X) → p x ≡ true → q x ≡ true → r x ≡ false) → filter q (filter r xs) ≡ []
  gone-where p q r [] a h = refl
  gone-where p q r (x ∷ xs) a h =
      let t = gone-where p q r xs (list_all-tail p x xs a) h in
      (elim (q x) as (λ b. q x ≡ b → filter q (filter r (x ∷ xs)) ≡ []) [
        | true ↦ λ e. rw (h x (list_all-head p x xs a) e) t
        | false ↦ λ e. (elim (r x) as (λ c. filter q (cond c (x ∷ filter r xs) (filter r xs)) ≡ []) [ true ↦ rw e t | false ↦ t ])
      ]) refl

-- ---- which messages are lost

lost-from : (d n : ℕ) (m : Message) → m.from ≡ d → is_lost d m ≡ true
lost-from d n m e = rw e (grind arith)

lost-to : (d n : ℕ) (m : Message) → m.to ≡ d → is_lost d m ≡ true
lost-to d n m e = or-if_right (m.from == d) (m.to == d) (grind arith)

not-lost : (d : ℕ) (m : Message) → m.from ≢ d → m.to ≢ d → is_lost d m ≡ false
not-lost d m e f = grind (arith, nat_tests)

from-is : (from to : ℕ) (m : Message) → is_between from to m ≡ true → m.from ≡ from
from-is from to m e = eq-of m.from from (and-left (m.from == from) (m.to == to) e)

to-is : (from to : ℕ) (m : Message) → is_between from to m ≡ true → m.to ≡ to
to-is from to m e = eq-of m.to to (and-right (m.from == from) (m.to == to) e)

-- both ends of a lane live, or one of them is dead
ends-live : (g : Bool) (d at : ℕ) (o : Owner) → o.node ≢ d → at ≢ d → (from_of at g o ≢ d) × (to_of at g o ≢ d)
ends-live true d at o a b = (b, a)
ends-live false d at o a b = (a, b)

keeps : (s : State) (d : ℕ) (g : Bool) (o : Owner) (x : LockName) → o.node ≢ d → master x s ≢ d → (m : Message) → is_addressed s m ≡ true → is_kind g o x m ≡ true → not (is_lost d m) ≡ true
keeps s d g o x a b m e k =
    let w = addressed-between s g o x m e k in
    let ends = ends-live g d (master x s) o a b in
    let f : m.from ≢ d = λ q. ends.0 (sym (from-is (from_of (master x s) g o) (to_of (master x s) g o) m w) ∙ q) in
    let t : m.to ≢ d = λ q. ends.1 (sym (to-is (from_of (master x s) g o) (to_of (master x s) g o) m w) ∙ q) in
    ap not (not-lost d m f t)

end-dead : (g : Bool) (d at : ℕ) (o : Owner) → (o.node ≡ d) ⊎ (at ≡ d) → (from_of at g o ≡ d) ⊎ (to_of at g o ≡ d)
end-dead true d at o (inl a) = inr a
end-dead true d at o (inr b) = inl b
end-dead false d at o (inl a) = inl a
end-dead false d at o (inr b) = inr b

loses : (s : State) (d : ℕ) (g : Bool) (o : Owner) (x : LockName) → (o.node ≡ d) ⊎ (master x s ≡ d) → (m : Message) → is_addressed s m ≡ true → is_kind g o x m ≡ true → not (is_lost d m) ≡ false
loses s d g o x a m e k =
    let w = addressed-between s g o x m e k in
    (elim (end-dead g d (master x s) o a) [
      | inl f ↦ ap not (lost-from d d m (from-is (from_of (master x s) g o) (to_of (master x s) g o) m w ∙ f))
      | inr t ↦ ap not (lost-to d d m (to-is (from_of (master x s) g o) (to_of (master x s) g o) m w ∙ t))
    ])

abbrev pub left_mail : ℕ → List Message → List Message
left_mail d ms = filter (λ m. not (is_lost d m)) ms

pub mails-stay : (s : State) (d : ℕ) (g : Bool) (o : Owner) (x : LockName) (ms : List Message) → list_all (is_addressed s) ms ≡ true → o.node ≢ d → master x s ≢ d → filter (is_kind g o x) (left_mail d ms) ≡ filter (is_kind g o x) ms
mails-stay s d g o x ms e a b = kept-where (is_addressed s) (is_kind g o x) (λ m. not (is_lost d m)) ms e (keeps s d g o x a b)

pub mails-go : (s : State) (d : ℕ) (g : Bool) (o : Owner) (x : LockName) (ms : List Message) → list_all (is_addressed s) ms ≡ true → (o.node ≡ d) ⊎ (master x s ≡ d) → filter (is_kind g o x) (left_mail d ms) ≡ []
mails-go s d g o x ms e a = gone-where (is_addressed s) (is_kind g o x) (λ m. not (is_lost d m)) ms e (loses s d g o x a)

letters-stay : (s : State) (d : ℕ) (g : Bool) (o : Owner) (x : LockName) (ms : List Message) → list_all (is_addressed s) ms ≡ true → o.node ≢ d → master x s ≢ d → letters_of g o x (left_mail d ms) ≡ letters_of g o x ms
letters-stay s d g o x ms e a b = ap (map (λ (m : Message). m.letter)) (mails-stay s d g o x ms e a b)

letters-go : (s : State) (d : ℕ) (g : Bool) (o : Owner) (x : LockName) (ms : List Message) → list_all (is_addressed s) ms ≡ true → (o.node ≡ d) ⊎ (master x s ≡ d) → letters_of g o x (left_mail d ms) ≡ []
letters-go s d g o x ms e a = ap (map (λ (m : Message). m.letter)) (mails-go s d g o x ms e a)

pub kept-addressed : (s : State) → list_all (is_kept s) s.kept ≡ true → list_all (is_addressed s) s.kept ≡ true
kept-addressed s e = list_all-weaker (is_kept s) (is_addressed s) s.kept (λ m k. and-right (is_call m.letter) (is_addressed s m) k) e

bereft-table_is : (d : ℕ) (h : Home) (t : List Resource) → IsTable t → IsTable (bereft_table d h t)
bereft-table_is d h t i = (elim (h.master == d) as (λ b. IsTable (if b then [] else dropped d t)) [ true ↦ empty-table | false ↦ IsTable-dropped d t i ])

tables-bereft : (d : ℕ) (hs : List Home) (ts : List (List Resource)) → ((i : ℕ) → IsTable (get_or ts i [])) → (i : ℕ) → IsTable (get_or (bereft_tables d hs ts) i [])
tables-bereft d hs [] a i = empty-table
tables-bereft d [] (t ∷ ts) a i = a i
tables-bereft d (h ∷ hs) (t ∷ ts) a zero = bereft-table_is d h t (a 0)
tables-bereft d (h ∷ hs) (t ∷ ts) a (suc i) = tables-bereft d hs ts (λ j. a (suc j)) i

abbrev no_home : Home
no_home = record { master = 0; recovers = None }

bereft-at : (d : ℕ) (hs : List Home) (ts : List (List Resource)) (i : ℕ) → length hs ≡ length ts → i < length ts → get_or (bereft_tables d hs ts) i [] ≡ bereft_table d (get_or hs i no_home) (get_or ts i [])
bereft-at d hs [] i e l = absurd (omega arith)
bereft-at d [] (t ∷ ts) i e l = absurd (omega (arith, e))
bereft-at d (h ∷ hs) (t ∷ ts) zero e l = refl
bereft-at d (h ∷ hs) (t ∷ ts) (suc i) e l = bereft-at d hs ts i (omega (arith, e)) (omega arith)

dropped-empty : (d : ℕ) → dropped d [] ≡ []
unfolding dropped
dropped-empty d = refl

lost-bereft : (d n : ℕ) (hs : List Home) (ts : List (List Resource)) → length hs ≡ length ts → ((i : ℕ) → is_some (get_or hs i no_home).recovers ≡ true → get_or ts i [] ≡ [])
    → (i : ℕ) → is_some (get_or (map (rehomed d n) hs) i no_home).recovers ≡ true → get_or (bereft_tables d hs ts) i [] ≡ []
lost-bereft d n [] [] e a i r = cc
lost-bereft d n [] (t ∷ ts) e a i r = cc
lost-bereft d n (h ∷ hs) [] e a i r = refl
lost-bereft d n (h ∷ hs) (t ∷ ts) e a zero r =
    (elim (h.master == d) as (λ b. is_some (if b then record { master = n; recovers = Some d } else h).recovers ≡ true → (if b then [] else dropped d t) ≡ []) [
      | true ↦ λ q. refl
      | false ↦ λ q. ap (dropped d) (a 0 q) ∙ dropped-empty d
    ]) r
lost-bereft d n (h ∷ hs) (t ∷ ts) e a (suc i) r = lost-bereft d n hs ts (omega (arith, e)) (λ j q. a (suc j) q) i r

-- how others stand once a node's locks and requests are dropped
node-apart : (o : Owner) (d : ℕ) → o.node ≢ d → (a : Owner) → (a.node == d) ≡ true → same_owner a o ≡ false
node-apart o d n a e = grind (arith, nat_tests)

without-other : (o : Owner) (d : ℕ) (xs : List Asker) → o.node ≢ d → standing_of o (without_node d xs) ≡ standing_of o xs
without-other o d xs n =
    ap (option_map (λ (a : Asker). a.standing)) (find-filter (λ (a : Asker). same_owner a.owner o) (λ (a : Asker). not (a.owner.node == d)) xs (list_all-every _ xs (λ a. one a))) where
      one : (a : Asker) → not (a.owner.node == d) || not (same_owner a.owner o) ≡ true
      one a =
          (elim (a.owner.node == d) as (λ b. (a.owner.node == d) ≡ b → not b || not (same_owner a.owner o) ≡ true)
          [ true ↦ λ e. rw (node-apart o d n a.owner e) refl | false ↦ λ e. refl ]) refl

pub dropped-serves : (x : LockName) (d : ℕ) (o : Owner) (t : List Resource) → IsTable t → o.node ≢ d → Served (standing_of o (resource_at x t).askers) (standing_of o (resource_at x (dropped d t)).askers)
dropped-serves x d o t i n =
    let xs : List Asker = (resource_at x t).askers in
    let together : all_together (without_node d xs) ≡ true = all_together-filter (λ (a : Asker). not (a.owner.node == d)) xs (IsSettled-at x t i).together in
    let k : Served (standing_of o (without_node d xs)) (standing_of o (settled (without_node d xs))) = settled-serves o (without_node d xs) together in
    let at : standing_of o (resource_at x (dropped d t)).askers ≡ standing_of o (settled (without_node d xs)) =
    ap (λ (r : Resource). standing_of o r.askers) (dropped-at x d t i.ordered) ∙ vacated-askers o (dropped_of d (resource_at x t)) in
    rw at (rw (without-other o d xs n) at k)

-- ---- the homes

module _ (d : ℕ) (s : State) (i : IsSound s) where
  place-in : (x : LockName) → home s.nodes x - 1 < length s.homes
  place-in x = let a = home-low s.nodes x in let b = home-high s.nodes x i.some_node in let c = i.each_has_master in omega (arith, a, b, c)

  rehomed-at : (x : LockName) → home_at (home s.nodes x) (bereft d s).homes ≡ rehomed d (lowest (without_dead d s.living)) (home_at (home s.nodes x) s.homes)
  rehomed-at x = get_or-map (rehomed d (lowest (without_dead d s.living))) s.homes (home s.nodes x - 1) no_home no_home (place-in x)

  stays-home : (x : LockName) → was_master d s x ≡ false → home_at (home s.nodes x) (bereft d s).homes ≡ home_at (home s.nodes x) s.homes
  stays-home x e = rehomed-at x ∙ rw e refl

  pub recovery-lost : (x : LockName) → was_master d s x ≡ true → recovery x (bereft d s) ≡ Some d
  recovery-lost x e = ap (λ (h : Home). h.recovers) (rehomed-at x) ∙ rw e refl

  pub recovery-stays : (x : LockName) → was_master d s x ≡ false → recovery x (bereft d s) ≡ recovery x s
  recovery-stays x e = ap (λ (h : Home). h.recovers) (stays-home x e)

  master-stays : (x : LockName) → was_master d s x ≡ false → master x (bereft d s) ≡ master x s
  master-stays x e = ap (λ (h : Home). h.master) (stays-home x e)

  pub table-stays : (x : LockName) → was_master d s x ≡ false → table_at (home s.nodes x) (bereft d s).tables ≡ dropped d (table_at (home s.nodes x) s.tables)
  table-stays x e =
      let a = place-in x in let b = i.each_has_master in let c = i.each_has_one in
      bereft-at d s.homes s.tables (home s.nodes x - 1) (b ∙ sym c) (omega (arith, a, b, c)) ∙ rw e refl

  -- what is still on its way is addressed as before
  still-between : (l : Letter) (m : Message) → goes_between l (master m.name s) m ≡ true → not (is_lost d m) ≡ true → goes_between l (master m.name (bereft d s)) m ≡ true
  still-between l m e n =
      (elim (was_master d s m.name) as (λ b. was_master d s m.name ≡ b → goes_between l (master m.name (bereft d s)) m ≡ true) [
        | true ↦ λ w. at-dead l m (eq-of (master m.name s) d w) e n
        | false ↦ λ w. subst (λ (k : ℕ). goes_between l k m ≡ true) (sym (master-stays m.name w)) e
      ]) refl
    where
      at-dead : (l : Letter) (m : Message) → master m.name s ≡ d → goes_between l (master m.name s) m ≡ true → not (is_lost d m) ≡ true → goes_between l (master m.name (bereft d s)) m ≡ true
      at-dead (Ask w) m q e n = absurd (true-false (sym n ∙ ap not (lost-to d d m (eq-of m.to (master m.name s) (and-right (m.from == m.owner.node) (m.to == master m.name s) e) ∙ q))))
      at-dead Drop m q e n = absurd (true-false (sym n ∙ ap not (lost-to d d m (eq-of m.to (master m.name s) (and-right (m.from == m.owner.node) (m.to == master m.name s) e) ∙ q))))
      at-dead (Grant w v) m q e n = absurd (true-false (sym n ∙ ap not (lost-from d d m (eq-of m.from (master m.name s) (and-left (m.from == master m.name s) (m.to == m.owner.node) e) ∙ q))))
      at-dead (Claim k) m q e n = refl

  mail-left : list_all (is_addressed (bereft d s)) (left_mail d s.mail) ≡ true
  mail-left = list_all-kept (is_addressed s) (λ m. not (is_lost d m)) (is_addressed (bereft d s)) s.mail (λ m e n. still-between m.letter m e n) i.addressed

  kept-left : list_all (is_kept (bereft d s)) (left_mail d s.kept) ≡ true
  kept-left = list_all-kept (is_kept s) (λ m. not (is_lost d m)) (is_kept (bereft d s)) s.kept
      (λ m e n. and-both (is_call m.letter) (is_addressed (bereft d s) m) (and-left (is_call m.letter) (is_addressed s m) e) (still-between m.letter m (and-right (is_call m.letter) (is_addressed s m) e) n)) i.kept_back

abbrev from_found : Owner → LockName → Option Hold → Hold
from_found o x f = unwrap_or f (nothing_of o x)

is-dead : (d : ℕ) (o : Owner) (x : LockName) (h : Hold) → is_at o x h ≡ true → (h.owner.node == d) ≡ (o.node == d)
is-dead d o x h e = ap (λ (z : Owner). z.node == d) (at-owner o x h e)

pub hold-live : (d : ℕ) (o : Owner) (x : LockName) (hs : List Hold) → (o.node == d) ≡ false → hold_at o x (filter (λ h. not (h.owner.node == d)) hs) ≡ hold_at o x hs
hold-live d o x hs e =
    ap (from_found o x) (find-filter (is_at o x) (λ h. not (h.owner.node == d)) hs (list_all-every (λ h. not (h.owner.node == d) || not (is_at o x h)) hs (λ h. one h)))
  where
    one : (h : Hold) → (not (h.owner.node == d) || not (is_at o x h)) ≡ true
    one h = (elim (is_at o x h) as (λ b. is_at o x h ≡ b → (not (h.owner.node == d) || not b) ≡ true) [
      | true ↦ λ a. rw (is-dead d o x h a, e) refl
      | false ↦ λ a. or-if_right (not (h.owner.node == d)) true refl
    ]) refl

find-dead : (d : ℕ) (o : Owner) (x : LockName) (p : Hold → Bool) (hs : List Hold) → ((h : Hold) → is_at o x h ≡ true → p h ≡ false) → find (is_at o x) (filter p hs) ≡ None
find-dead d o x p [] e = refl
find-dead d o x p (h ∷ hs) e =
    let t = find-dead d o x p hs e in
    (elim (is_at o x h) as (λ b. is_at o x h ≡ b → find (is_at o x) (filter p (h ∷ hs)) ≡ None) [
      | true ↦ λ a. rw (e h a) t
      | false ↦ λ a. (elim (p h) as (λ c. find (is_at o x) (cond c (h ∷ filter p hs) (filter p hs)) ≡ None) [ true ↦ rw a t | false ↦ t ])
    ]) refl

pub hold-dead : (d : ℕ) (o : Owner) (x : LockName) (hs : List Hold) → (o.node == d) ≡ true → hold_at o x (filter (λ h. not (h.owner.node == d)) hs) ≡ nothing_of o x
hold-dead d o x hs e = ap (from_found o x) (find-dead d o x (λ h. not (h.owner.node == d)) hs (λ h a. ap not (is-dead d o x h a ∙ e)))

or-none : (a : Option Hold) → or_else a None ≡ a
or-none None = refl
or-none (Some h) = refl

abbrev pub older : ℕ → State → List Hold
older d s = filter (λ h. not (h.owner.node == d) && not (was_master d s h.name)) s.claims

abbrev pub newer : ℕ → State → List Hold
newer d s = filter (λ h. was_master d s h.name) (left_holds d s)

of-name : (d : ℕ) (s : State) (o : Owner) (x : LockName) (h : Hold) → is_at o x h ≡ true → was_master d s h.name ≡ was_master d s x
of-name d s o x h e = ap (λ (y : LockName). was_master d s y) (at-name o x h e)

pub claims-lost : (d : ℕ) (s : State) (o : Owner) (x : LockName) → was_master d s x ≡ true → hold_at o x (older d s ++ newer d s) ≡ hold_at o x (left_holds d s)
claims-lost d s o x e =
    let none : find (is_at o x) (older d s) ≡ None =
    find-dead d o x (λ h. not (h.owner.node == d) && not (was_master d s h.name)) s.claims (λ h a. ends-false (not (h.owner.node == d)) (not (was_master d s h.name)) (ap not (of-name d s o x h a ∙ e))) in
    let there : find (is_at o x) (newer d s) ≡ find (is_at o x) (left_holds d s) =
    find-filter (is_at o x) (λ h. was_master d s h.name) (left_holds d s) (list_all-every (λ h. was_master d s h.name || not (is_at o x h)) (left_holds d s) (λ h. one h)) in
    let all : find (is_at o x) (older d s ++ newer d s) ≡ find (is_at o x) (left_holds d s) = rw (find-append (is_at o x) (older d s) (newer d s), none) there in
    ap (from_found o x) all
  where
    one : (h : Hold) → (was_master d s h.name || not (is_at o x h)) ≡ true
    one h = (elim (is_at o x h) as (λ b. is_at o x h ≡ b → (was_master d s h.name || not b) ≡ true) [
      | true ↦ λ a. rw (of-name d s o x h a, e) refl
      | false ↦ λ a. or-if_right (was_master d s h.name) true refl
    ]) refl

claims-older : (d : ℕ) (s : State) (o : Owner) (x : LockName) → was_master d s x ≡ false → hold_at o x (older d s ++ newer d s) ≡ hold_at o x (older d s)
claims-older d s o x e =
    let none : find (is_at o x) (newer d s) ≡ None = find-dead d o x (λ h. was_master d s h.name) (left_holds d s) (λ h a. of-name d s o x h a ∙ e) in
    let all : find (is_at o x) (older d s ++ newer d s) ≡ find (is_at o x) (older d s) = rw (find-append (is_at o x) (older d s) (newer d s), none) (or-none (find (is_at o x) (older d s))) in
    ap (from_found o x) all

pub claims-live : (d : ℕ) (s : State) (o : Owner) (x : LockName) → was_master d s x ≡ false → (o.node == d) ≡ false → hold_at o x (older d s ++ newer d s) ≡ hold_at o x s.claims
claims-live d s o x e f =
    claims-older d s o x e ∙ ap (from_found o x) (find-filter (is_at o x) (λ h. not (h.owner.node == d) && not (was_master d s h.name)) s.claims
    (list_all-every (λ h. (not (h.owner.node == d) && not (was_master d s h.name)) || not (is_at o x h)) s.claims (λ h. one h)))
  where
    one : (h : Hold) → ((not (h.owner.node == d) && not (was_master d s h.name)) || not (is_at o x h)) ≡ true
    one h = (elim (is_at o x h) as (λ b. is_at o x h ≡ b → ((not (h.owner.node == d) && not (was_master d s h.name)) || not b) ≡ true) [
      | true ↦ λ a. rw (is-dead d o x h a, f, of-name d s o x h a, e) refl
      | false ↦ λ a. or-if_right (not (h.owner.node == d) && not (was_master d s h.name)) true refl
    ]) refl

pub claims-dead : (d : ℕ) (s : State) (o : Owner) (x : LockName) → was_master d s x ≡ false → (o.node == d) ≡ true → hold_at o x (older d s ++ newer d s) ≡ nothing_of o x
claims-dead d s o x e f =
    claims-older d s o x e ∙ ap (from_found o x) (find-dead d o x (λ h. not (h.owner.node == d) && not (was_master d s h.name)) s.claims (λ h a. rw (is-dead d o x h a, f) refl))

-- each claim stands once
any-apart : (d : ℕ) (s : State) (h : Hold) (ys : List Hold) → was_master d s h.name ≡ false → list_all (λ k. was_master d s k.name) ys ≡ true → list_any (is_at h.owner h.name) ys ≡ false
any-apart d s h [] e a = refl
any-apart d s h (k ∷ ys) e a =
    let out : is_at h.owner h.name k ≡ false = (elim (is_at h.owner h.name k) as (λ b. is_at h.owner h.name k ≡ b → b ≡ false) [
      | true ↦ λ q. absurd (true-false (sym (list_all-head (λ (z : Hold). was_master d s z.name) k ys a) ∙ of-name d s h.owner h.name k q ∙ e))
      | false ↦ λ q. refl
    ]) refl in
    rw out (any-apart d s h ys e (list_all-tail (λ (z : Hold). was_master d s z.name) k ys a))

any-joined : (p : Hold → Bool) (xs ys : List Hold) → list_any p xs ≡ false → list_any p ys ≡ false → list_any p (xs ++ ys) ≡ false
any-joined p [] ys a b = b
any-joined p (x ∷ xs) ys a b = rw (or-false_left (p x) (list_any p xs) a) (any-joined p xs ys (or-false_right (p x) (list_any p xs) a) b)

once-joined : (d : ℕ) (s : State) (xs ys : List Hold) → list_all (λ k. not (was_master d s k.name)) xs ≡ true → list_all (λ k. was_master d s k.name) ys ≡ true → each_once xs ≡ true → each_once ys ≡ true → each_once (xs ++ ys) ≡ true
once-joined d s [] ys a b e f = f
once-joined d s (h ∷ xs) ys a b e f =
    let first : list_any (is_at h.owner h.name) xs ≡ false = not-true (list_any (is_at h.owner h.name) xs) (and-left (not (list_any (is_at h.owner h.name) xs)) (each_once xs) e) in
    let out : was_master d s h.name ≡ false = not-true (was_master d s h.name) (list_all-head (λ (k : Hold). not (was_master d s k.name)) h xs a) in
    and-both (not (list_any (is_at h.owner h.name) (xs ++ ys))) (each_once (xs ++ ys)) (ap not (any-joined (is_at h.owner h.name) xs ys first (any-apart d s h ys out b)))
    (once-joined d s xs ys (list_all-tail (λ (k : Hold). not (was_master d s k.name)) h xs a) b (and-right (not (list_any (is_at h.owner h.name) xs)) (each_once xs) e) f)

claims-once : (d : ℕ) (s : State) → IsSound s → each_once (older d s ++ newer d s) ≡ true
claims-once d s i =
    once-joined d s (older d s) (newer d s)
    (list_all-weaker (λ k. not (k.owner.node == d) && not (was_master d s k.name)) (λ k. not (was_master d s k.name)) (older d s) (λ k e. and-right (not (k.owner.node == d)) (not (was_master d s k.name)) e) (list_all-passing (λ k. not (k.owner.node == d) && not (was_master d s k.name)) s.claims))
    (list_all-passing (λ k. was_master d s k.name) (left_holds d s))
    (once-filter (λ k. not (k.owner.node == d) && not (was_master d s k.name)) s.claims i.claimed_once)
    (once-filter (λ k. was_master d s k.name) (left_holds d s) (once-filter (λ h. not (h.owner.node == d)) s.holds i.once))

-- what the living believe, by whether the owner lives
live-belief : (d : ℕ) (o : Owner) (x : LockName) (hs : List Hold) (m : Mode) → (hold_at o x (filter (λ h. not (h.owner.node == d)) hs)).belief ≡ Some m → (hold_at o x hs).belief ≡ Some m
live-belief d o x hs m e =
    (elim (o.node == d) as (λ b. (o.node == d) ≡ b → (hold_at o x hs).belief ≡ Some m) [
      | true ↦ λ f. absurd (let n : None ≡ Some m = sym (ap (λ (h : Hold). h.belief) (hold-dead d o x hs f)) ∙ e in cc)
      | false ↦ λ f. sym (ap (λ (h : Hold). h.belief) (hold-live d o x hs f)) ∙ e
    ]) refl

old-belief : (d : ℕ) (s : State) (o : Owner) (x : LockName) (m : Mode) → was_master d s x ≡ false → (hold_at o x (older d s ++ newer d s)).belief ≡ Some m → (hold_at o x s.claims).belief ≡ Some m
old-belief d s o x m w e =
    (elim (o.node == d) as (λ b. (o.node == d) ≡ b → (hold_at o x s.claims).belief ≡ Some m) [
      | true ↦ λ f. absurd (let n : None ≡ Some m = sym (ap (λ (h : Hold). h.belief) (claims-dead d s o x w f)) ∙ e in cc)
      | false ↦ λ f. sym (ap (λ (h : Hold). h.belief) (claims-live d s o x w f)) ∙ e
    ]) refl

claims-together : (d : ℕ) (s : State) → IsSound s → GoTogether (older d s ++ newer d s)
claims-together d s i a b x m n ne e f =
    (elim (was_master d s x) as (λ c. was_master d s x ≡ c → compatible_modes m n ≡ true) [
      | true ↦ λ w. sound-safe s i a b x m n ne (live-belief d a x s.holds m (sym (ap (λ (h : Hold). h.belief) (claims-lost d s a x w)) ∙ e)) (live-belief d b x s.holds n (sym (ap (λ (h : Hold). h.belief) (claims-lost d s b x w)) ∙ f))
      | false ↦ λ w. i.claimed_together a b x m n ne (old-belief d s a x m w e) (old-belief d s b x n w f)
    ]) refl

-- ---- the lanes

lane-may : (o : Owner) (x : LockName) (st : Option Standing) (calls grants : List Letter) (qu : List Waiter) (be wa : Option Mode) → IsLane o x st calls grants qu be wa → MayWait be wa
lane-may o x st calls grants qu be wa (Sends lock before s gr q ca lo mw) = mw
lane-may o x st calls grants qu be wa (Stands w wt s ca gr q ra) = rw wt ra
lane-may o x st calls grants qu be wa (Comes w wt s ca ig q ra) = rw wt ra

pub may-at : (r : Option ℕ) (o : Owner) (x : LockName) (s : State) → LaneOf r o x s → MayWait (hold_at o x s.holds).belief (hold_at o x s.holds).wait
may-at None o x s l = lane-may _ _ _ _ _ _ _ _ l
may-at (Some k) o x s l = lane-may _ _ _ _ _ _ _ _ l.lane

waiters-gone : (o : Owner) (x : LockName) (p : Waiter → Bool) (q : List Waiter) → ((w : Waiter) → is_of o x w ≡ true → p w ≡ false) → waiters_of o x (filter p q) ≡ []
waiters-gone o x p q h = gone-where (λ w. true) (is_of o x) p q (list_all-every (λ w. true) q (λ w. refl)) (λ w t e. h w e)

waiters-stay : (o : Owner) (x : LockName) (p : Waiter → Bool) (q : List Waiter) → ((w : Waiter) → is_of o x w ≡ true → p w ≡ true) → waiters_of o x (filter p q) ≡ waiters_of o x q
waiters-stay o x p q h = kept-where (λ w. true) (is_of o x) p q (list_all-every (λ w. true) q (λ w. refl)) (λ w t e. h w e)

waiter-owner : (o : Owner) (x : LockName) (w : Waiter) → is_of o x w ≡ true → w.owner ≡ o
waiter-owner o x w e = same_owner-same w.owner o (and-left (same_owner w.owner o) (is_same w.name x) e)

waiter-name : (o : Owner) (x : LockName) (w : Waiter) → is_of o x w ≡ true → w.name ≡ x
waiter-name o x w e = is_same-same w.name x (and-right (same_owner w.owner o) (is_same w.name x) e)

waiter-left : (d : ℕ) (s : State) (o : Owner) (x : LockName) (w : Waiter) → is_of o x w ≡ true → (not (w.owner.node == d) && not (was_master d s w.name)) ≡ (not (o.node == d) && not (was_master d s x))
waiter-left d s o x w e = rw (waiter-owner o x w e, waiter-name o x w e) refl

-- the lane of a name that has lost its master
lane-lost : (d : ℕ) (s : State) (o : Owner) (x : LockName) → IsSound s → was_master d s x ≡ true → LaneOf (Some d) o x (bereft d s)
lane-lost d s o x i w =
    let at : master x s ≡ d = eq-of (master x s) d w in
    let k : Hold = hold_at o x (left_holds d s) in
    let same : hold_at o x (older d s ++ newer d s) ≡ k = claims-lost d s o x w in
    let may : MayWait k.belief k.wait = (elim (o.node == d) as (λ b. (o.node == d) ≡ b → MayWait k.belief k.wait) [
      | true ↦ λ f. subst (λ (h : Hold). MayWait h.belief h.wait) (sym (hold-dead d o x s.holds f)) tt
      | false ↦ λ f. subst (λ (h : Hold). MayWait h.belief h.wait) (sym (hold-live d o x s.holds f)) (may-at (recovery x s) o x s (i.lanes o x))
    ]) refl in
    let mail : letters_of false o x (left_mail d s.mail) ≡ [] = letters-go s d false o x s.mail i.addressed (inr at) in
    let kept : letters_of false o x (left_mail d s.kept) ≡ [] = letters-go s d false o x s.kept (kept-addressed s i.kept_back) (inr at) in
    let lane : IsLane o x (stands_as k.belief) (last_ask k.wait ++ []) [] [] k.belief k.wait = Sends k.belief [] refl refl refl (append-nil (last_ask k.wait)) refl may in
    record {
      lane = rw (same, kept, mail) lane;
      no_grants = letters-go s d true o x s.mail i.addressed (inr at);
      no_waiters = waiters-gone o x (λ v. not (v.owner.node == d) && not (was_master d s v.name)) s.queue (λ v e. waiter-left d s o x v e ∙ ends-false (not (o.node == d)) (not (was_master d s x)) (ap not w));
    }

-- a lane of the dead node, of another name
lane-dead : (r : Option ℕ) (d : ℕ) (s : State) (o : Owner) (x : LockName) → IsSound s → was_master d s x ≡ false → (o.node == d) ≡ true → PreOf r o x (bereft d s)
lane-dead None d s o x i w f =
    let at : o.node ≡ d = eq-of o.node d f in
    let t : List Resource = table_at (home s.nodes x) s.tables in
    let st : standing_at o x (bereft d s) ≡ None = ap (λ (z : List Resource). standing_of o (resource_at x z).askers) (table-stays d s i x w) ∙ subst (λ (k : ℕ). standing_of o (resource_at x (dropped k t)).askers ≡ None) at (deaths-leave x o t (i.tables_are (home s.nodes x))) in
    let q : waiters_of o x (bereft d s).queue ≡ [] = waiters-gone o x (λ v. not (v.owner.node == d) && not (was_master d s v.name)) s.queue (λ v e. waiter-left d s o x v e ∙ rw f refl) in
    let lane : IsLane o x None [] [] [] None None = Sends None [] refl refl refl refl refl tt in
    inl (rw (st, letters-go s d false o x s.mail i.addressed (inl at), letters-go s d true o x s.mail i.addressed (inl at), q, hold-dead d o x s.holds f) lane)
lane-dead (Some k) d s o x i w f =
    let at : o.node ≡ d = eq-of o.node d f in
    let lane : IsLane o x None [] [] [] None None = Sends None [] refl refl refl refl refl tt in
    record {
      lane = rw (claims-dead d s o x w f, letters-go s d false o x s.kept (kept-addressed s i.kept_back) (inl at), letters-go s d false o x s.mail i.addressed (inl at), hold-dead d o x s.holds f) lane;
      no_grants = letters-go s d true o x s.mail i.addressed (inl at);
      no_waiters = waiters-gone o x (λ v. not (v.owner.node == d) && not (was_master d s v.name)) s.queue (λ v e. waiter-left d s o x v e ∙ rw f refl);
    }

-- any other lane
lane-live : (r : Option ℕ) (d : ℕ) (s : State) (o : Owner) (x : LockName) → IsSound s → was_master d s x ≡ false → (o.node == d) ≡ false → LaneOf r o x s → PreOf r o x (bereft d s)
lane-live None d s o x i w f lane =
    let no : o.node ≢ d = ne-of o.node d f in
    let nm : master x s ≢ d = ne-of (master x s) d w in
    let t : List Resource = table_at (home s.nodes x) s.tables in
    let sv = dropped-serves x d o t (i.tables_are (home s.nodes x)) no in
    let st : standing_at o x (bereft d s) ≡ standing_of o (resource_at x (dropped d t)).askers = ap (λ (z : List Resource). standing_of o (resource_at x z).askers) (table-stays d s i x w) in
    let q : waiters_of o x (bereft d s).queue ≡ waiters_of o x s.queue = waiters-stay o x (λ v. not (v.owner.node == d) && not (was_master d s v.name)) s.queue (λ v e. waiter-left d s o x v e ∙ rw (f, w) refl) in
    rw (st, letters-stay s d false o x s.mail i.addressed no nm, letters-stay s d true o x s.mail i.addressed no nm, q, hold-live d o x s.holds f)
    (lane-served (hold_at o x s.holds).wait (standing_of o (resource_at x (dropped d t)).askers) lane sv)
lane-live (Some k) d s o x i w f lane =
    let no : o.node ≢ d = ne-of o.node d f in
    let nm : master x s ≢ d = ne-of (master x s) d w in
    record {
      lane = rw (claims-live d s o x w f, letters-stay s d false o x s.kept (kept-addressed s i.kept_back) no nm, letters-stay s d false o x s.mail i.addressed no nm, hold-live d o x s.holds f) lane.lane;
      no_grants = letters-stay s d true o x s.mail i.addressed no nm ∙ lane.no_grants;
      no_waiters = waiters-stay o x (λ v. not (v.owner.node == d) && not (was_master d s v.name)) s.queue (λ v e. waiter-left d s o x v e ∙ rw (f, w) refl) ∙ lane.no_waiters;
    }

suc-less : (j : ℕ) → suc j - 1 ≡ j
suc-less j = omega arith

pub bereft-pre : (d : ℕ) (s : State) → IsSound s → IsPre (bereft d s)
bereft-pre d s i = record {
  some_node = i.some_node;
  each_has_one = length-bereft d s.homes s.tables ∙ i.each_has_one;
  each_has_master = length-homes (rehomed d (lowest (without_dead d s.living))) s.homes ∙ i.each_has_master;
  tables_are = λ k. tables-bereft d s.homes s.tables (λ j. subst (λ (n : ℕ). IsTable (get_or s.tables n [])) (suc-less j) (i.tables_are (suc j))) (k - 1);
  lost = λ k e. lost-bereft d (lowest (without_dead d s.living)) s.homes s.tables (i.each_has_master ∙ sym i.each_has_one)
      (λ j q. subst (λ (n : ℕ). get_or s.tables n [] ≡ []) (suc-less j) (i.lost (suc j) (subst (λ (n : ℕ). is_some (get_or s.homes n no_home).recovers ≡ true) (sym (suc-less j)) q))) (k - 1) e;
  addressed = mail-left d s i;
  kept_back = kept-left d s i;
  once = once-filter (λ h. not (h.owner.node == d)) s.holds i.once;
  claimed_once = claims-once d s i;
  claimed_together = claims-together d s i;
  lanes = λ o x. (elim (was_master d s x) as (λ b. was_master d s x ≡ b → PreOf (recovery x (bereft d s)) o x (bereft d s)) [
    | true ↦ λ w. subst (λ (r : Option ℕ). PreOf r o x (bereft d s)) (sym (recovery-lost d s i x w)) (lane-lost d s o x i w)
    | false ↦ λ w. subst (λ (r : Option ℕ). PreOf r o x (bereft d s)) (sym (recovery-stays d s i x w)) (
        (elim (o.node == d) as (λ b. (o.node == d) ≡ b → PreOf (recovery x s) o x (bereft d s)) [
          | true ↦ λ f. lane-dead (recovery x s) d s o x i w f
          | false ↦ λ f. lane-live (recovery x s) d s o x i w f (i.lanes o x)
        ]) refl)
  ]) refl;
}

-- ---- the claims are sent

claims-letters : (g : Bool) (o : Owner) (x : LockName) (d n : ℕ) (ns : List ℕ) → letters_of g o x (map (claim_from d n) ns) ≡ []
claims-letters true o x d n [] = refl
claims-letters false o x d n [] = refl
claims-letters true o x d n (k ∷ ns) = claims-letters true o x d n ns
claims-letters false o x d n (k ∷ ns) = claims-letters false o x d n ns

claims-addressed : (s : State) (d n : ℕ) (ns : List ℕ) → list_all (is_addressed s) (map (claim_from d n) ns) ≡ true
claims-addressed s d n [] = refl
claims-addressed s d n (k ∷ ns) = claims-addressed s d n ns

behind-claims : (g : Bool) (o : Owner) (x : LockName) (d n : ℕ) (ns : List ℕ) (ms : List Message) → letters_of g o x (ms ++ map (claim_from d n) ns) ≡ letters_of g o x ms
behind-claims g o x d n ns ms = letters-append g o x ms (map (claim_from d n) ns) ∙ ap (λ (ls : List Letter). letters_of g o x ms ++ ls) (claims-letters g o x d n ns) ∙ append-nil (letters_of g o x ms)

lane-behind : (r : Option ℕ) (d : ℕ) (s : State) (o : Owner) (x : LockName) → LaneOf r o x s → LaneOf r o x (with_claims d s)
lane-behind None d s o x l = rw (behind-claims false o x d (lowest s.living) s.living s.mail, behind-claims true o x d (lowest s.living) s.living s.mail) l
lane-behind (Some k) d s o x l =
    record { lane = rw (behind-claims false o x d (lowest s.living) s.living s.mail) l.lane; no_grants = behind-claims true o x d (lowest s.living) s.living s.mail ∙ l.no_grants; no_waiters = l.no_waiters }

claims-sound : (d : ℕ) (s : State) → IsSound s → IsSound (with_claims d s)
claims-sound d s i = record {
  some_node = i.some_node;
  each_has_one = i.each_has_one;
  each_has_master = i.each_has_master;
  tables_are = i.tables_are;
  lost = i.lost;
  addressed = list_all-joined (is_addressed s) s.mail (map (claim_from d (lowest s.living)) s.living) i.addressed (claims-addressed s d (lowest s.living) s.living);
  kept_back = i.kept_back;
  once = i.once;
  claimed_once = i.claimed_once;
  claimed_together = i.claimed_together;
  lanes = λ o x. lane-behind (recovery x s) d s o x (i.lanes o x);
}

pub with-ended-sound : (s : State) → IsSound s → IsSound (with_ended s)
with-ended-sound s i = all-ended-sound s.recoveries s i

pub killed-sound : (d : ℕ) (s : State) → IsSound s → IsSound (killed d s)
killed-sound d s i = claims-sound d (with_ended (served (bereft d s))) (with-ended-sound (served (bereft d s)) (served-sound (bereft d s) (bereft-pre d s i)))
