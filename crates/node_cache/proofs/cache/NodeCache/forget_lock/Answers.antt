use Rattle.std.proofs.Common.{◌∙◌, not, ap, sym}
use Rattle.node_cache.specs.Cached.{is_for, without_lock}
use Rattle.node_cache.specs.Views.{entries_of}
use Rattle.node_cache.proofs.Entries.{first_out-under, first_out-without, cache-filter, none-under}
use Rattle.node_cache.proofs.Pairs.{entries-remove_entry}
use Rattle.node_cache.proofs.cache.NodeCache.forget_lock.Goals as goal

pub invariant_of-self : goal.invariant_of-self
invariant_of-self c =
    let pairs = c.self.inside.cache.entries in
    let es = entries_of pairs in
    rw (c.pop.ensures.entries, entries-remove_entry c.in-Some.lbn pairs, first_out-without c.in-Some.lbn es c.self.invariant.0.apart)
    (cache-filter (λ e. not (is_for c.in-Some.lbn e)) es c.self.invariant.0, c.self.invariant.1)

pub loop-lbn-smaller : goal.loop-lbn-smaller
loop-lbn-smaller c =
    let pairs = c.self.inside.cache.entries in
    let first = rw (← c.self.view_is) at (sym c.in-Some.ensures.first) in
    let out = first_out-under c.in-Some.lbn c.args.lock (entries_of pairs) c.self.invariant.0.apart first in
    rw (c.pop.ensures.entries, ← c.self.view_is, entries-remove_entry c.in-Some.lbn pairs) out.fewer

pub loop-lbn-preserved : goal.loop-lbn-preserved
loop-lbn-preserved c =
    let pairs = c.self.inside.cache.entries in
    let first = rw (← c.self.view_is) at (sym c.in-Some.ensures.first) in
    let out = first_out-under c.in-Some.lbn c.args.lock (entries_of pairs) c.self.invariant.0.apart first in
    rw (c.pop.ensures.entries, entries-remove_entry c.in-Some.lbn pairs)
    (out.others ∙ ap (without_lock c.args.lock) c.self.view_is ∙ c.loop-lbn.invariant)

pub returns : goal.returns
returns c = sym (none-under c.args.lock c.loop-lbn.self (sym c.first_under.ensures.first ∙ c.in_default.is)) ∙ c.loop-lbn.invariant
