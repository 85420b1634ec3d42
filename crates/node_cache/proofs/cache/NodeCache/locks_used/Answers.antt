use Rattle.std.proofs.Common.{◌∙◌, map, ap, sym}
use Rattle.std.proofs.lemmas.List.{map-append}
use Rattle.std.specs.Map.Iter.{deref_pair}
use Rattle.node_cache.specs.Cached.{joined}
use Rattle.node_cache.specs.Views.{entry_of, entries_of}
use Rattle.node_cache.proofs.LockLists.{locks_of-push, distinct-locks_of}
use Rattle.node_cache.proofs.cache.NodeCache.locks_used.Goals as goal

pub loop-held-preserved : goal.loop-held-preserved
loop-held-preserved c =
    let so_far = entries_of (map deref_pair c.loop-held.yielded) in
    let entry = entry_of (c.in-Some.field-0-0.now, c.in-Some.held.now) in
    c.in_ok-join.ensures ∙ ap (joined c.in-Some.held.now.lock) c.loop-held.invariant ∙ sym (locks_of-push so_far entry) ∙ simp map-append

pub returns-clause-once : goal.returns-clause-once
returns-clause-once c = rw c.loop-held.invariant (distinct-locks_of (entries_of (map deref_pair c.loop-held.yielded)))
