use Rattle.std.proofs.Common.{◌∙◌, sym}
use Rattle.node_cache.proofs.Pairs.{looked-none, looked-other, looked-one}
use Rattle.node_cache.proofs.cache.NodeCache.peek.Goals as goal

pub returns-in_err-held : goal.returns-in_err-held
returns-in_err-held c = rw (c.from_residual.ensures, ← c.self.view_is) (looked-none c.args.lbn c.args.lock c.args.seq c.self.inside.cache.entries c.self.invariant.0.apart (sym c.in_err-held.ensures))

pub returns-then-not-is_current : goal.returns-then-not-is_current
returns-then-not-is_current c =
    rw (← c.self.view_is) (looked-other c.args.lbn c.args.lock c.args.seq c.self.inside.cache.entries c.in_ok-held.held.now c.self.invariant.0.apart (sym c.in_ok-held.ensures) (sym c.is_current.ensures ∙ c.if-not-is_current.true))

pub returns : goal.returns
returns c = rw (← c.self.view_is) (looked-one c.args.lbn c.args.lock c.args.seq c.self.inside.cache.entries c.in_ok-held.held.now c.self.invariant.0.apart (sym c.in_ok-held.ensures) (sym c.is_current.ensures ∙ c.if-not-is_current.false))
