use Rattle.std.proofs.Common.{◌∙◌, List, is_some, ap}
use Rattle.node_cache.specs.Cached.{Cached, found}
use Rattle.node_cache.proofs.Pairs.{promoted-used, promoted-cache}
use Rattle.node_cache.proofs.cache.NodeCache.to_front.Goals as goal

pub invariant_of-self : goal.invariant_of-self
invariant_of-self c = rw (c.promote.ensures.entries) (promoted-cache c.args.lbn c.self.inside.cache.entries c.self.invariant.0, c.self.invariant.1)

pub returns : goal.returns
returns c lock seq at =
    let there = ap (λ (es : List Cached). is_some (found c.args.lbn lock seq es)) c.self.view_is ∙ at in
    rw (c.promote.ensures.entries, ← c.self.view_is) (promoted-used c.args.lbn lock seq c.self.inside.cache.entries c.self.invariant.0.apart there)
