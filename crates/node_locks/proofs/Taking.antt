-- What is left where a lock is asked for.
use Rattle.std.proofs.Common.{◌≡◌, ◌≢◌, ◌⊎◌, ℕ, Bool, true, false, List, [], ◌∷◌, Some, None, IsSome, is_some, slice_get, option_and_then, not, ◌++◌, if◌then◌else◌, arith, refl, ap, sym, subst, ◌∙◌, inl, inr}
use Rattle.plain_cat.specs.declared.mode.Mode.{Mode}
use Rattle.plain_cat.specs.declared.mode.Mode.TheVariants.{NL, PR}
use Rattle.lock_db.specs.declared.name.LockName.{LockName}
use Rattle.lock_db.specs.declared.name.Owner.{Owner}
use Rattle.lock_db.specs.declared.askers.Standing.{Standing}
use Rattle.lock_db.specs.declared.resource.Resource.{Resource}
use Rattle.lock_db.specs.Queues.{held, settled_mode, standing_of, lock_of}
use Rattle.lock_db.specs.Resources.{goes_at_once}
use Rattle.lock_db.specs.Tables.{IsTable, resource_at, asked, converted, converts_now}
use Rattle.lock_db.specs.Laws.{stands_at}
use Rattle.lock_db.proofs.Steps.{IsTable-asked, IsTable-converted}
use Rattle.base_words.specs.Lists.{Has}
use Rattle.node_locks.specs.Held.{system_of, has_lock, Row, joined, names_of, IsGranted, HoldsItsLocks, AreHeld, waits_at, taken_out}
use Rattle.node_locks.specs.HeldLaws.{IsAskedFor, IsConverted}
use Rattle.node_locks.specs.Taking.{taken, taken_now, IsTaken, TakingHolds, TakingKeeps}
use Rattle.node_locks.proofs.Standing.{AllGranted, granted-all}
use Rattle.node_locks.proofs.Rows.{AlikeBut, order-at, taken-absent}
use Rattle.node_locks.proofs.Asking.{asked-elsewhere, asking_holds}
use Rattle.node_locks.proofs.Moving.{granted-in, left-held}
use Rattle.node_locks.proofs.Converting.{converted-elsewhere, converting_holds}
use Rattle.node_locks.proofs.Nodes.{name_or_not}

-- who stands nowhere has no lock there
pub no-lock : (name : LockName) (owner : Owner) (t : List Resource) → standing_of owner (resource_at name t).askers ≡ None → has_lock name owner t ≡ false
no-lock name owner t e = rw e refl

granted-of : (s : Standing) → settled_mode s ≡ Some NL → held s ≡ Some NL
granted-of s e = grind arith

nl-lock : (name : LockName) (owner : Owner) (t : List Resource) → lock_of owner (resource_at name t).askers ≡ Some NL → has_lock name owner t ≡ true
nl-lock name owner t e =
    (elim (standing_of owner (resource_at name t).askers) as (λ o. option_and_then settled_mode o ≡ Some NL → is_some (option_and_then held o) ≡ true)
    [ None ↦ λ g. cc | Some s ↦ λ g. rw (granted-of s g) refl ]) e

pub taking_keeps : TakingKeeps
taking_keeps t name owner mode is (inl n) = let b = no-lock name owner t n in rw b (IsTable-asked name owner mode t is n)
taking_keeps t name owner mode is (inr l) =
    let b = nl-lock name owner t l in
    let some : IsSome (lock_of owner (resource_at name t).askers) = rw l refl in
    rw b (IsTable-converted name owner mode (resource_at name t).value t is some (λ e f. let k : Some NL ≡ Some PR = sym l ∙ e in cc))

-- a node keeps its locks, if it does so on the name of a call and stands elsewhere as it stood
lasts : (name at : LockName) (n : ℕ) (t u : List Resource) → (name ≡ at) ⊎ (name ≢ at) → (has_lock at (system_of n) t ≡ true → has_lock at (system_of n) u ≡ true)
    → (name ≢ at → stands_at name (system_of n) u ≡ stands_at name (system_of n) t) → has_lock name (system_of n) t ≡ true → has_lock name (system_of n) u ≡ true
lasts name at n t u (inl e) here alike has = subst (λ (x : LockName). has_lock x (system_of n) u ≡ true) (sym e) (here (subst (λ (x : LockName). has_lock x (system_of n) t ≡ true) e has))
lasts name at n t u (inr d) here alike has = ap (λ o. is_some (option_and_then held o)) (alike d) ∙ has

taking-new : (t : List Resource) (n i k : ℕ) (ls ms : Row) (l : LockName × Mode) (own : List Row) (rows : ℕ → List Row) → AreHeld t rows → rows n ≡ own
    → slice_get own i ≡ Some ls → waits_at t n ls ≡ false → (Has (names_of (joined own)) l.0 → ⊥)
    → slice_get (taken_out i l.0 own) k ≡ Some ms → waits_at t n ms ≡ false → IsTaken n i k ls ms l own rows t (taken l.0 (system_of n) l.1 t)
taking-new t n i k ls ms l own rows held at_own from left free to idle =
    let u : List Resource = asked l.0 (system_of n) l.1 t in
    let h : HoldsItsLocks t n own = rw at_own at (held n) in
    let same : taken_out i l.0 own ≡ own = taken-absent own i l.0 free in
    let at : slice_get own k ≡ Some ms = rw same at to in
    let by : IsAskedFor n k ms l own rows t u = asking_holds t n k ms l own rows held at_own at idle free in
    let none : standing_of (system_of n) (resource_at l.0 t).askers ≡ None = h.no_other l.0 free in
    let b : has_lock l.0 (system_of n) t ≡ false = no-lock l.0 (system_of n) t none in
    let was : AllGranted t n ls = granted-all t n ls (order-at t n own i ls h.in_order from) left in
    let alike : AlikeBut l.0 n t u = λ other d. asked-elsewhere l.0 other n n l.1 t d in
    let now : taken_now l.0 (system_of n) l.1 t ≡ goes_at_once (system_of n) l.1 (resource_at l.0 t).askers = rw b refl in
    let so : taken l.0 (system_of n) l.1 t ≡ u = rw b refl in
    subst (IsTaken n i k ls ms l own rows t) (sym so) (record {
      may = inl none;
      held = rw same by.held;
      left = left-held l.0 t u n ls alike was;
      waits = by.waits ∙ ap not (sym now);
      last = by.last ∙ ap (λ (v : Bool). if v then ms ++ l ∷ [] else ms) (sym now);
      rest = λ j xs d e g. by.rest j xs e g;
      lasting = λ name. lasts name l.0 n t u (name_or_not name l.0) (λ e. absurd (let f : true ≡ false = sym e ∙ b in cc)) (λ d. alike name d);
      others = by.others;
    })

taking-kept : (t : List Resource) (n i k : ℕ) (ls ms : Row) (l : LockName × Mode) (own : List Row) (rows : ℕ → List Row) → IsTable t → AreHeld t rows → rows n ≡ own
    → slice_get own i ≡ Some ls → waits_at t n ls ≡ false → Has ls (l.0, NL)
    → slice_get (taken_out i l.0 own) k ≡ Some ms → waits_at t n ms ≡ false → IsTaken n i k ls ms l own rows t (taken l.0 (system_of n) l.1 t)
taking-kept t n i k ls ms l own rows is held at_own from left has to idle =
    let value : List ℕ = (resource_at l.0 t).value in
    let u : List Resource = converted l.0 (system_of n) l.1 value t in
    let h : HoldsItsLocks t n own = rw at_own at (held n) in
    let was : AllGranted t n ls = granted-all t n ls (order-at t n own i ls h.in_order from) left in
    let granted : IsGranted t n (l.0, NL) = granted-in t n ls (l.0, NL) was has in
    let lock : lock_of (system_of n) (resource_at l.0 t).askers ≡ Some NL = rw granted refl in
    let by : IsConverted n i k ls ms l own rows t u = converting_holds t n i k ls ms l value own rows is held at_own from has left to idle in
    let b : has_lock l.0 (system_of n) t ≡ true = nl-lock l.0 (system_of n) t lock in
    let now : taken_now l.0 (system_of n) l.1 t ≡ converts_now l.0 (system_of n) l.1 t = rw b refl in
    let so : taken l.0 (system_of n) l.1 t ≡ u = rw b refl in
    subst (IsTaken n i k ls ms l own rows t) (sym so) (record {
      may = inr lock;
      held = by.held;
      left = by.left;
      waits = by.waits ∙ ap not (sym now);
      last = by.last ∙ ap (λ (v : Bool). if v then ms ++ l ∷ [] else ms) (sym now);
      rest = by.rest;
      lasting = λ name. lasts name l.0 n t u (name_or_not name l.0) (λ e. by.lasting) (λ d. converted-elsewhere l.0 name n n l.1 value t d);
      others = by.others;
    })

pub taking_holds : TakingHolds
taking_holds t n i k ls ms l own rows is held at_own from left (inl free) to idle = taking-new t n i k ls ms l own rows held at_own from left free to idle
taking_holds t n i k ls ms l own rows is held at_own from left (inr has) to idle = taking-kept t n i k ls ms l own rows is held at_own from left has to idle
