use Rattle.std.proofs.Common.{◌∙◌, is_some, ap}
use Rattle.node_cache.proofs.Entries.{is_some-find}
use Rattle.node_cache.proofs.cache.NodeCache.holds_under.Goals as goal

pub returns-clause-held : goal.returns-clause-held
returns-clause-held c = c.is_some.ensures ∙ ap is_some c.first_under.ensures.first ∙ is_some-find c.args.lock c.args.self.now
