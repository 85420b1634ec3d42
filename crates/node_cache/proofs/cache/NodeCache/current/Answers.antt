use Rattle.std.proofs.Common.{◌∙◌, Option, option_map, ap, sym, refl}
use Rattle.base_words.specs.Fields.{Block}
use Rattle.node_cache.specs.declared.held.Held.{Held}
use Rattle.node_cache.specs.Views.{entries_of}
use Rattle.node_cache.proofs.Entries.{cache-used}
use Rattle.node_cache.proofs.Pairs.{promoted-used, block-found}
use Rattle.node_cache.proofs.cache.NodeCache.current.Goals as goal
use Rattle.node_cache.proofs.cache.NodeCache.current.Goals.{in-Some, in-None}

pub invariant_of-self-2 : goal.invariant_of-self-2
invariant_of-self-2 c =
    let pairs = c.self.inside.cache.entries in
    let there = sym c.is_current.ensures ∙ c.if-not-is_current.false in
    let front = promoted-used c.args.lbn c.args.lock c.args.seq pairs c.self.invariant.0.apart there in
    rw (c.get.follows.holds-at-none, front) (cache-used c.args.lbn c.args.lock c.args.seq (entries_of pairs) c.self.invariant.0, c.self.invariant.1)

pub returns : goal.returns
returns c =
    let pairs = c.self.inside.cache.entries in
    let there = sym c.is_current.ensures ∙ c.if-not-is_current.false in
    let front = promoted-used c.args.lbn c.args.lock c.args.seq pairs c.self.invariant.0.apart there in
    let bytes = block-found c.args.lbn c.args.lock c.args.seq pairs c.self.invariant.0.apart there in
    let block : Option Held → Option Block = option_map (λ (h : Held). h.block) in
    rw (c.get.follows.holds-at-none, ← c.self.view_is) (
      (refl, λ _. tt, front),
      record {
        order = tt;
        block = elim c.match-get.branch [
          | in-Some w ↦ rw w.result-is (ap block w.in-Some.ensures.value ∙ bytes)
          | in-None w ↦ rw w.result-is (ap block w.in-None.ensures.value ∙ bytes)
        ];
      },
    )
