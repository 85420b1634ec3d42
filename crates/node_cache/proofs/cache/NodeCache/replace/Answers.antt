use Rattle.std.proofs.Common.{sym}
use Rattle.node_cache.specs.Cached.{cached}
use Rattle.node_cache.specs.Views.{entries_of}
use Rattle.node_cache.proofs.Entries.{cache-replaced, none-replaced}
use Rattle.node_cache.proofs.Pairs.{set_value-replaced, lookup-none}
use Rattle.node_cache.proofs.cache.NodeCache.replace.Goals as goal
use Rattle.node_cache.proofs.cache.NodeCache.replace.Goals.{in-Some, in_default}

pub invariant_of-self : goal.invariant_of-self
invariant_of-self c =
    let pairs = c.self.inside.cache.entries in
    let new = cached c.args.lbn c.args.lock c.args.seq c.args.b.now in
    elim c.match-peek_mut.branch [
      | in-Some w ↦
          let set = set_value-replaced c.args.lbn c.args.lock c.args.seq c.args.b.now pairs w.in-Some.held.now c.self.invariant.0.apart (sym w.in-Some.ensures.value) in
          rw (w.self-inside-is, w.renew.ensures, set) (cache-replaced new (entries_of pairs) c.self.invariant.0, c.self.invariant.1)
      | in_default w ↦ rw w.self-inside-is c.self.invariant
    ]

pub returns : goal.returns
returns c =
    let pairs = c.self.inside.cache.entries in
    let new = cached c.args.lbn c.args.lock c.args.seq c.args.b.now in
    elim c.match-peek_mut.branch [
      | in-Some w ↦
          let set = set_value-replaced c.args.lbn c.args.lock c.args.seq c.args.b.now pairs w.in-Some.held.now c.self.invariant.0.apart (sym w.in-Some.ensures.value) in
          rw (w.self-inside-is, ← c.self.view_is, w.renew.ensures) set
      | in_default w ↦
          rw (w.self-inside-is, ← c.self.view_is) (sym (none-replaced new (entries_of pairs) (lookup-none c.args.lbn pairs (sym w.in_default.ensures.value))))
    ]
