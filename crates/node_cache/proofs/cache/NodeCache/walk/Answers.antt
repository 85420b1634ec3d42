use Rattle.std.proofs.Common.{◌≡◌, ◌≤◌, ◌∙◌, ◌++◌, [], ◌∷◌, List, length, map, take, ap}
use Rattle.std.proofs.lemmas.List.{map-append}
use Rattle.std.proofs.lemmas.Map.Iter.{iter_end}
use Rattle.std.specs.Map.Iter.{deref_pair}
use Rattle.lock_db.specs.declared.name.LockName.{LockName}
use Rattle.node_cache.specs.Cached.{Cached}
use Rattle.node_cache.specs.Views.{entry_of, entries_of}
use Rattle.node_cache.proofs.Walks.{walked-push, walked-all}
use Rattle.node_cache.proofs.cache.NodeCache.walk.Goals as goal

pub loop-held-preserved : goal.loop-held-preserved
loop-held-preserved c =
    let so_far = entries_of (map deref_pair c.loop-held.yielded) in
    let entry = entry_of (c.in-Some.field-0-0.now, c.in-Some.held.now) in
    c.append.ensures ∙ ap (λ (ls : List LockName). take 64 (ls ++ c.in-Some.held.now.lock ∷ [])) c.loop-held.invariant ∙ walked-push so_far entry ∙ simp map-append

pub returns : goal.returns
returns c =
    let so_far = entries_of (map deref_pair c.loop-held.yielded) in
    let pairs =
    iter_end deref_pair c.self.inside.cache.entries c.loop-held.yielded c.into_iter-held-iterator.result c.loop-held.held-iterator c.next.new.self c.next.result (c.into_iter-held-iterator.ensures.into_iter_gives ∙ c.iter-held-items.ensures.rest)
    c.loop-held.yielded_by c.in-None.is c.next.ensures.steps in
    let all : so_far ≡ c.args.self.now = ap entries_of pairs.0 ∙ c.self.view_is in
    let few : length so_far ≤ 64 = rw (all, ← c.self.view_is) c.self.invariant.0.fits in
    c.loop-held.invariant ∙ walked-all so_far few ∙ ap (map (λ (e : Cached). e.lock)) all
