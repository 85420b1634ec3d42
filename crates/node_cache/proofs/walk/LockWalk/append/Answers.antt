use Rattle.std.proofs.Common.{◌≡◌, ◌∙◌, ◌++◌, [], ◌∷◌, List, take, ap, sym, arith}
use Rattle.lock_db.specs.declared.name.LockName.{LockName}
use Rattle.node_cache.proofs.Walks.{appended, not_appended}
use Rattle.node_cache.proofs.walk.LockWalk.append.Goals as goal
use Rattle.node_cache.proofs.walk.LockWalk.append.Goals.{then-self-lt-ENTRIES, else-self-lt-ENTRIES}

pub returns : goal.returns
returns c =
    let locks = c.self.inside.locks in
    let put : List LockName → List LockName = λ ls. take 64 (ls ++ c.args.lock ∷ []) in
    elim c.if-self-lt-ENTRIES.branch [
      | then-self-lt-ENTRIES w ↦ rw (w.self-inside-is) (appended locks c.self.inside.len c.args.lock w.if-self-lt-ENTRIES.true c.self.invariant.0 ∙ ap put c.self.view_is)
      | else-self-lt-ENTRIES w ↦
          let full : c.self.inside.len ≡ 64 = omega (arith, w.if-self-lt-ENTRIES.false, c.self.invariant.1) in
          rw (w.self-inside-is, full) (not_appended locks c.args.lock c.self.invariant.0 ∙ ap put (ap (λ n. take n locks) (sym full) ∙ c.self.view_is))
    ]
