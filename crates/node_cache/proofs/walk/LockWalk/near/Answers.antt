use Rattle.std.proofs.Common.{◌≡◌, length, take, arith}
use Rattle.std.proofs.lemmas.List.{length-take-le}
use Rattle.lock_db.specs.Names.{is_same}
use Rattle.node_cache.proofs.Walks.{near-found}
use Rattle.node_cache.proofs.walk.LockWalk.near.Goals as goal

pub returns : goal.returns
returns c =
    let w = c.self.inside in
    let all : length (take w.len w.locks) ≡ w.len = length-take-le w.len w.locks (omega (arith, c.self.invariant)) in
    let it = near-found (is_same c.args.lock) (take w.len w.locks) c.saturating_sub-from.result w.place c.in_ok-at.at (omega (arith, c.saturating_sub-from.ensures)) (omega (arith, all, c.self.invariant)) c.in_ok-at.ensures.found c.in_ok-at.ensures.place in
    rw (← c.self.view_is) it
