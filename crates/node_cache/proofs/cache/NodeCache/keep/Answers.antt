use Rattle.node_cache.specs.declared.held.Held.{Held}
use Rattle.node_cache.specs.Cached.{cached}
use Rattle.node_cache.specs.Views.{entries_of}
use Rattle.node_cache.proofs.Entries.{cache-kept}
use Rattle.node_cache.proofs.Pairs.{put-kept}
use Rattle.node_cache.proofs.cache.NodeCache.keep.Goals as goal

pub invariant_of-self-2 : goal.invariant_of-self-2
invariant_of-self-2 c =
    let new = cached c.args.lbn c.args.lock c.args.seq c.args.b.now in
    let held : Held = record { lock = c.args.lock; seq = c.args.seq; block = c.args.b.now } in
    let is = put-kept c.args.lbn held c.self.inside.cache c.self.invariant.0 c.self.invariant.1 in
    rw (c.in_ok-put.ensures.entries, is) (cache-kept new (entries_of c.self.inside.cache.entries) c.self.invariant.0, c.self.invariant.1)

pub returns-clause-ok : goal.returns-clause-ok
returns-clause-ok c =
    let held : Held = record { lock = c.args.lock; seq = c.args.seq; block = c.args.b.now } in
    rw (c.in_ok-put.ensures.entries, ← c.self.view_is) (put-kept c.args.lbn held c.self.inside.cache c.self.invariant.0 c.self.invariant.1)
