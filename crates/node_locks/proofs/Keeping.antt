-- What holds of the locks that nodes hold.
use Rattle.std.proofs.Common.{◌≡◌, ◌≢◌, ◌⊎◌, ◌≤◌, ℕ, Bool, true, false, not, List, [], ◌∷◌, ◌++◌, Some, None, Contains, find, option_map, cond, refl, ap, sym, ◌∙◌, inl, inr, arith}
use Rattle.std.specs.List.{AllByRecursion}
use Rattle.plain_cat.specs.declared.mode.Mode.{Mode}
use Rattle.plain_cat.specs.declared.mode.Mode.TheVariants.{NL, PR, PW}
use Rattle.plain_cat.specs.Modes.{rank, compatible_modes}
use Rattle.lock_db.specs.declared.name.LockName.{LockName}
use Rattle.lock_db.specs.declared.name.Owner.{Owner}
use Rattle.lock_db.specs.declared.askers.Standing.{Standing}
use Rattle.lock_db.specs.declared.askers.Standing.TheVariants.{Granted, Converting, Waiting}
use Rattle.lock_db.specs.declared.askers.Asker.{Asker}
use Rattle.lock_db.specs.declared.resource.Resource.{Resource}
use Rattle.lock_db.specs.Names.{same_owner}
use Rattle.lock_db.specs.Queues.{held, wanted, converts, waits, is_waiting, is_converting, or_else, head_of, goes, goes_beside, standing_of, lock_of}
use Rattle.lock_db.specs.Tables.{resource_at, all_together, IsTable}
use Rattle.lock_db.specs.Laws.{stands_at}
use Rattle.lock_db.proofs.Lists.{true-and_not, list_all-absent, list_all-find, find-passes, or-right}
use Rattle.lock_db.proofs.Owners.{same_owner-refl, same_owner-same}
use Rattle.lock_db.proofs.Together.{lets, goes-held, all_together-tail}
use Rattle.lock_db.proofs.Rules.{Contains-cases, Contains-first, all_together-once, IsSettled-held_up}
use Rattle.lock_db.proofs.Steps.{IsSettled-at, HasLock, HasLock-lock_of}
use Rattle.base_words.specs.Lists.{Has}
use Rattle.base_words.proofs.Listing.{same_or_not, has_parted, has_first, has_second}
use Rattle.node_locks.specs.Held.{system_of, Row, IsGranted, IsWaiting, StandInOrder, HoldsItsLocks, is_queued_at, held_locks, all_held, without}
use Rattle.node_locks.specs.HeldLaws.{WritersAreSole, HeldAreGranted, RowsAreGranted, RowsStandStill, RowsGoOn, StandsStill, GoesOn, AllAreHeld, FirstGoes, RestGoesOn, MayAsk, MayChange, WhoWaitsIsHeldUp, HoldersHold}
use Rattle.node_locks.proofs.Standing.{granted-all, granted-held, held-granted, held-asked, asked-granted, stands-named, waiting-last, waits-push, held-idle}
use Rattle.node_locks.proofs.Rows.{all_names, split, order-of, granted-without, without-first}
use Rattle.node_locks.proofs.Moving.{is-held}
use Rattle.node_locks.proofs.Converting.{beside-nl}
use Rattle.node_locks.proofs.Nodes.{systems-apart, has_name_or_not}

lock-granted : (t : List Resource) (n : ℕ) (l : LockName × Mode) → IsGranted t n l → lock_of (system_of n) (resource_at l.0 t).askers ≡ Some l.1
lock-granted t n l g = rw g refl

-- what a node holds of its rows is granted
rows-granted : (t : List Resource) (n : ℕ) (rows : List Row) (x : LockName × Mode) → AllByRecursion (StandInOrder t n) rows → Has (all_held t n rows) x → IsGranted t n x
rows-granted t n [] x s h = absurd h
rows-granted t n (r ∷ rows) x s h = elim (has_parted (held_locks t n r) (all_held t n rows) x h) [ inl a ↦ granted-held t n r x s.0 a | inr b ↦ rows-granted t n rows x s.1 b ]

-- and what is granted on a name in its rows it holds
rows-held : (t : List Resource) (n : ℕ) (rows : List Row) (name : LockName) (mode : Mode) → AllByRecursion (StandInOrder t n) rows → Has (all_names rows) name → IsGranted t n (name, mode) → Has (all_held t n rows) (name, mode)
rows-held t n [] name mode s i g = absurd i
rows-held t n (r ∷ rows) name mode s i g = elim (split r rows name i) [
  | inl a ↦ has_first (held_locks t n r) (all_held t n rows) (name, mode) (held-granted t n r (name, mode) s.0 (asked-granted t n r name mode s.0 a g) g)
  | inr b ↦ has_second (held_locks t n r) (all_held t n rows) (name, mode) (rows-held t n rows name mode s.1 b g)
]

holds-granted : (t : List Resource) (n : ℕ) (rows : List Row) (name : LockName) (mode : Mode) → HoldsItsLocks t n rows → IsGranted t n (name, mode) → Has (all_held t n rows) (name, mode)
holds-granted t n rows name mode h g = elim (has_name_or_not (all_names rows) name) [
  | inl i ↦ rows-held t n rows name mode h.in_order i g
  | inr f ↦ let none = h.no_other name f in cc
]

pub held_are_granted : HeldAreGranted
held_are_granted t n l rows h = ((λ i. rows-granted t n rows l h.in_order i), (λ g. holds-granted t n rows l.0 l.1 h g))

pub rows_are_granted : RowsAreGranted
rows_are_granted t n l ls rows h i =
    let s : StandInOrder t n ls = order-of t n rows ls h.in_order i in
    ((λ k. (held-asked t n ls l k, granted-held t n ls l s k)), (λ p. held-granted t n ls l s p.0 p.1))

pub rows_stand_still : RowsStandStill
rows_stand_still t u m [] a = refl
rows_stand_still t u m (r ∷ rows) a =
    let here : StandsStill t u m r = a r (inl refl) in
    let rest : all_held u m rows ≡ all_held t m rows = rows_stand_still t u m rows (λ ls i. a ls (inr i)) in
    rw (here.holds, rest) refl

pub rows_go_on : RowsGoOn
rows_go_on t u m [] l a h = h
rows_go_on t u m (r ∷ rows) l a h = elim (has_parted (held_locks t m r) (all_held t m rows) l h) [
  | inl i ↦ let here : GoesOn t u m r = a r (inl refl) in has_first (held_locks u m r) (all_held u m rows) l (here.holds l i)
  | inr i ↦ has_second (held_locks u m r) (all_held u m rows) l (rows_go_on t u m rows l (λ ls j. a ls (inr j)) i)
]

pub all_are_held : AllAreHeld
all_are_held t n ls q = held-idle t n ls q

pub first_goes : FirstGoes
first_goes l ls o = without-first l ls o

pub rest_goes_on : RestGoesOn
rest_goes_on t n name ls rows h i q = is-held t n (without name ls) (granted-without t n name ls (granted-all t n ls (order-of t n rows ls h.in_order i) q))

pub may_ask : MayAsk
may_ask t n name rows h f = h.no_other name f

pub may_change : MayChange
may_change t n l rows h i = lock-granted t n l (rows-granted t n rows l h.in_order i)

-- PW or more does not go with PR or more
never-together : (a b : Mode) → rank PW ≤ rank a → rank PR ≤ rank b → compatible_modes a b ≡ true → ⊥
never-together a b e f c = grind arith

-- two nodes' locks on a name go together
beside : (t : List Resource) (name : LockName) (n m : ℕ) (a b : Mode) → IsTable t → m ≢ n → IsGranted t n (name, a) → IsGranted t m (name, b) → compatible_modes a b ≡ true
beside t name n m a b is d g k =
    let xs : List Asker = (resource_at name t).askers in
    let s = IsSettled-at name t is in
    let one : HasLock (system_of n) a xs = HasLock-lock_of (system_of n) a xs (lock-granted t n (name, a) g) in
    let two : HasLock (system_of m) b xs = HasLock-lock_of (system_of m) b xs (lock-granted t m (name, b) k) in
    let all : goes (system_of n) a xs ≡ true = goes-held (system_of n) a xs one.asker s.together one.found (ap held one.stands) in
    let own : two.asker.owner ≡ system_of m = same_owner-same two.asker.owner (system_of m) (find-passes (λ (x : Asker). same_owner x.owner (system_of m)) xs two.asker two.found) in
    let other : same_owner two.asker.owner (system_of n) ≡ false = rw own (systems-apart n m (λ e. d (sym e))) in
    let let_by : lets (system_of n) a two.asker ≡ true = list_all-find (lets (system_of n) a) (λ (x : Asker). same_owner x.owner (system_of m)) xs two.asker all two.found in
    let goes_by : goes_beside a (held two.asker.standing) ≡ true = or-right (same_owner two.asker.owner (system_of n)) (goes_beside a (held two.asker.standing)) let_by other in
    rw two.stands at goes_by

pub writers_are_sole : WritersAreSole
writers_are_sole t n m name a b rows is are i j w r =
    elim (same_or_not m n) [
      | inl e ↦ sym e
      | inr d ↦
          let h : HoldsItsLocks t n (rows n) = are n in
          let k : HoldsItsLocks t m (rows m) = are m in
          absurd (never-together a b w r (beside t name n m a b is d (rows-granted t n (rows n) (name, a) h.in_order i) (rows-granted t m (rows m) (name, b) k.in_order j)))
    ]

-- the one asker of an owner tells how it stands
found-own : (xs : List Asker) (a : Asker) (owner : Owner) → all_together xs ≡ true → Contains xs a → a.owner ≡ owner → find (λ (x : Asker). same_owner x.owner owner) xs ≡ Some a
found-own [] a owner e c o = absurd (omega (arith, c.1))
found-own (x ∷ xs) a owner e c o =
    (elim (same_owner x.owner owner) as (λ b. same_owner x.owner owner ≡ b → cond b (Some x) (find (λ (y : Asker). same_owner y.owner owner) xs) ≡ Some a) [
      | true ↦ λ s. ap Some (all_together-once (x ∷ xs) e x a (Contains-first x xs) c (same_owner-same x.owner owner s ∙ sym o))
      | false ↦ λ s. elim (Contains-cases x xs a c) [
        | inl h ↦ let own : same_owner x.owner owner ≡ true = rw (h, o) (same_owner-refl owner) in cc
        | inr h ↦ found-own xs a owner (all_together-tail x xs e) h o
      ]
    ]) refl

-- what a node's file system has in the table, in another mode than NL, is granted
granted-mode : (s : Standing) (l : LockName × Mode) (mode : Mode) (t : List Resource) (n : ℕ) → IsGranted t n l ⊎ IsWaiting t n l → stands_at l.0 (system_of n) t ≡ Some s → held s ≡ Some mode → mode ≢ NL → s ≡ Granted mode
granted-mode s l mode t n (inl g) e k ne = let is : s ≡ Granted l.1 = cc in let has : held s ≡ Some l.1 = ap held is in let same : l.1 ≡ mode = cc in is ∙ ap (λ m. Granted m) same
granted-mode s l mode t n (inr (inl w)) e k ne = let is : s ≡ Waiting l.1 = cc in let has : held s ≡ None = ap held is in cc
granted-mode s l mode t n (inr (inr w)) e k ne = let is : s ≡ Converting NL l.1 = cc in let has : held s ≡ Some NL = ap held is in let same : mode ≡ NL = cc in absurd (ne same)

-- how the lock on a name stands
rows-named : (t : List Resource) (n : ℕ) (rows : List Row) (name : LockName) → AllByRecursion (StandInOrder t n) rows → Has (all_names rows) name → (l : LockName × Mode) × (l.0 ≡ name) × (IsGranted t n l ⊎ IsWaiting t n l)
rows-named t n [] name s i = absurd i
rows-named t n (r ∷ rows) name s i = elim (split r rows name i) [ inl a ↦ stands-named t n r name s.0 a | inr b ↦ rows-named t n rows name s.1 b ]

has-granted : (t : List Resource) (n : ℕ) (rows : List Row) (name : LockName) (s : Standing) (mode : Mode) → HoldsItsLocks t n rows → stands_at name (system_of n) t ≡ Some s → held s ≡ Some mode → mode ≢ NL → s ≡ Granted mode
has-granted t n rows name s mode h e k ne = elim (has_name_or_not (all_names rows) name) [
  | inl i ↦ let f = rows-named t n rows name h.in_order i in granted-mode s f.0 mode t n f.2 (rw f.1 e) k ne
  | inr f ↦ let none = h.no_other name f in cc
]

pub holders_hold : HoldersHold
holders_hold t m name a mode rows is h c o k ne =
    let xs : List Asker = (resource_at name t).askers in
    let settled = IsSettled-at name t is in
    let stands : stands_at name (system_of m) t ≡ Some a.standing = ap (option_map (λ (x : Asker). x.standing)) (found-own xs a (system_of m) settled.together c o) in
    holds-granted t m rows name mode h (stands ∙ ap Some (has-granted t m rows name a.standing mode h stands k ne))

-- the asker that stands so
found-standing : (owner : Owner) (xs : List Asker) (s : Standing) → standing_of owner xs ≡ Some s → (a : Asker) × (find (λ (x : Asker). same_owner x.owner owner) xs ≡ Some a) × (a.standing ≡ s)
found-standing owner xs s e =
    (elim (find (λ (x : Asker). same_owner x.owner owner) xs) as (λ o. find (λ (x : Asker). same_owner x.owner owner) xs ≡ o → option_map (λ (x : Asker). x.standing) o ≡ Some s → (a : Asker) × (find (λ (x : Asker). same_owner x.owner owner) xs ≡ Some a) × (a.standing ≡ s))
    [ None ↦ λ f g. cc | Some a ↦ λ f g. (a, f, (let same : a.standing ≡ s = cc in same)) ]) refl e

-- where somebody waits, somebody is next to be served
next-there : (p : Asker → Bool) (xs : List Asker) (a : Asker) → find p xs ≡ Some a → is_waiting a ≡ true → (h : Asker) × (head_of xs ≡ Some h)
next-there p xs a f w =
    (elim (find is_converting xs) as (λ o. (h : Asker) × (or_else o (find is_waiting xs) ≡ Some h)) [
      | Some h ↦ (h, refl)
      | None ↦ (elim (find is_waiting xs) as (λ o. find is_waiting xs ≡ o → (h : Asker) × (o ≡ Some h)) [
        | Some h ↦ λ e. (h, refl)
        | None ↦ λ e. absurd (true-and_not (is_waiting a) w (list_all-find (λ x. not (is_waiting x)) p xs a (list_all-absent is_waiting xs e) f))
      ]) refl
    ])

-- where somebody's conversion waits, too
next-converts : (p : Asker → Bool) (xs : List Asker) (a : Asker) → find p xs ≡ Some a → is_converting a ≡ true → (h : Asker) × (head_of xs ≡ Some h)
next-converts p xs a f w =
    (elim (find is_converting xs) as (λ o. find is_converting xs ≡ o → (h : Asker) × (or_else o (find is_waiting xs) ≡ Some h)) [
      | Some h ↦ λ e. (h, refl)
      | None ↦ λ e. absurd (true-and_not (is_converting a) w (list_all-find (λ x. not (is_converting x)) p xs a (list_all-absent is_converting xs e) f))
    ]) refl

-- what waits, and holds no more than NL
record Stuck (t : List Resource) (n : ℕ) (name : LockName) : Type 0 where
  asker : Asker
  found : find (λ (x : Asker). same_owner x.owner (system_of n)) (resource_at name t).askers ≡ Some asker
  next : (h : Asker) × (head_of (resource_at name t).askers ≡ Some h)
  lets_all : (m : Mode) → goes_beside m (held asker.standing) ≡ true

stuck : (t : List Resource) (n : ℕ) (l : LockName × Mode) → IsWaiting t n l → Stuck t n l.0
stuck t n l (inl w) =
    let own = found-standing (system_of n) (resource_at l.0 t).askers (Waiting l.1) w in
    record {
      asker = own.0;
      found = own.1;
      next = next-there (λ (x : Asker). same_owner x.owner (system_of n)) (resource_at l.0 t).askers own.0 own.1 (ap waits own.2);
      lets_all = λ m. ap (λ (s : Standing). goes_beside m (held s)) own.2;
    }
stuck t n l (inr w) =
    let own = found-standing (system_of n) (resource_at l.0 t).askers (Converting NL l.1) w in
    record {
      asker = own.0;
      found = own.1;
      next = next-converts (λ (x : Asker). same_owner x.owner (system_of n)) (resource_at l.0 t).askers own.0 own.1 (ap converts own.2);
      lets_all = λ m. ap (λ (s : Standing). goes_beside m (held s)) own.2 ∙ beside-nl m;
    }

pub who_waits_is_held_up : WhoWaitsIsHeldUp
who_waits_is_held_up t n l front rows is h i q =
    let xs : List Asker = (resource_at l.0 t).askers in
    let settled = IsSettled-at l.0 t is in
    let queued : is_queued_at t n l ≡ true = sym (waits-push t n front l) ∙ q in
    let waiting : IsWaiting t n l = waiting-last t n front l (order-of t n rows (front ++ l ∷ []) h.in_order i) queued in
    let own : Stuck t n l.0 = stuck t n l waiting in
    let up = IsSettled-held_up xs own.next.0 settled own.next.1 in
    let b : Asker = up.0 in
    let against : goes_beside (wanted own.next.0.standing) (held b.standing) ≡ false = up.3 in
    record {
      next = own.next.0;
      is_next = own.next.1;
      holder = b;
      stands = up.1;
      another = λ e.
          let found : find (λ (x : Asker). same_owner x.owner (system_of n)) xs ≡ Some b = found-own xs b (system_of n) settled.together up.1 e in
          let mine : find (λ (x : Asker). same_owner x.owner (system_of n)) xs ≡ Some own.asker = own.found in
          let same : own.asker ≡ b = cc in
          let by : goes_beside (wanted own.next.0.standing) (held b.standing) ≡ true = rw (← same) (own.lets_all (wanted own.next.0.standing)) in
          cc;
      against = against;
    }
