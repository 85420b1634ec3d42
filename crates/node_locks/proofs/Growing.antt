-- What a node holds grows as it asks for more.
use Rattle.std.proofs.Common.{◌≡◌, ◌≢◌, List, None, Some, sym, subst, ◌∙◌}
use Rattle.lock_db.specs.declared.name.LockName.{LockName}
use Rattle.lock_db.specs.declared.askers.Standing.TheVariants.{Granted}
use Rattle.lock_db.specs.declared.resource.Resource.{Resource}
use Rattle.lock_db.specs.Tables.{asked}
use Rattle.lock_db.specs.Laws.{stands_at}
use Rattle.node_locks.specs.Held.{system_of, Row, IsGranted, HoldsItsLocks, put_in}
use Rattle.node_locks.specs.HeldLaws.{IsAskedFor, AskingGrows}
use Rattle.node_locks.proofs.Nodes.{rows_here}
use Rattle.node_locks.proofs.Asking.{asked-elsewhere, asking_holds}
use Rattle.node_locks.proofs.Keeping.{held_are_granted}

pub asking_grows : AskingGrows
asking_grows t n k ms l x own rows held at_own to idle free h =
    let u : List Resource = asked l.0 (system_of n) l.1 t in
    let before : HoldsItsLocks t n own = rw at_own at (held n) in
    let granted : IsGranted t n x = (held_are_granted t n x own before).0 h in
    let apart : x.0 ≢ l.0 = λ e.
    let none : stands_at l.0 (system_of n) t ≡ None = before.no_other l.0 free in
    let there : stands_at l.0 (system_of n) t ≡ Some (Granted x.1) = subst (λ (y : LockName). stands_at y (system_of n) t ≡ Some (Granted x.1)) e granted in
    absurd (let f : None ≡ Some (Granted x.1) = sym none ∙ there in cc) in
    let by : IsAskedFor n k ms l own rows t u = asking_holds t n k ms l own rows held at_own to idle free in
    let now : HoldsItsLocks u n (put_in k l own) = subst (λ (rs : List Row). HoldsItsLocks u n rs) (rows_here rows n (put_in k l own)) (by.held n) in
    (held_are_granted u n x (put_in k l own) now).1 (asked-elsewhere l.0 x.0 n n l.1 t apart ∙ granted)
