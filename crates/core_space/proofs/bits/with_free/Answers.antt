use Rattle.std.proofs.Common.{◌∙◌, ◌%◌, true, filter, take, get_or, sym, ap, arith}
use Rattle.std.proofs.lemmas.Bool.Decides.{nat_tests}
use Rattle.base_words.specs.Fields.{Block}
use Rattle.fx_bitmap.specs.Bits.{bits_put}
use Rattle.extent_cache.specs.Stock.{is_covered}
use Rattle.op_law.specs.Freeing.{with_free}
use Rattle.core_space.proofs.Loops.{none_freed}
use Rattle.base_words.proofs.Listing.{passes}
use Rattle.base_words.proofs.Listing.{fails}
use Rattle.op_law.proofs.Freed.{freed_more}
use Rattle.core_space.proofs.bits.with_free.Goals as goal
use Rattle.core_space.proofs.bits.with_free.Goals.{then-q-k, else-q-k}

pub loop-q-init : goal.loop-q-init
loop-q-init c = none_freed c.args.storage.now

pub loop-q-preserved : goal.loop-q-preserved
loop-q-preserved c =
    let qs = c.args.clusters.now in
    let i = c.loop-q.q-index in
    let k = c.args.k in
    let b = c.args.storage.now in
    let q = get_or qs i 0 in
    elim c.if-q-k.branch [
      | then-q-k w ↦
          w.block-is ∙ w.set_bits.ensures.block ∙ ap (λ (f : Block). bits_put f (q % 4096) 1 true) c.loop-q.invariant
          ∙ sym (ap (with_free b) (passes (λ c. is_covered k c) qs i c.loop-q-test.true (let e = w.if-q-k.true in grind (arith, nat_tests))) ∙ freed_more b (filter (λ c. is_covered k c) (take i qs)) q)
      | else-q-k w ↦
          w.block-is ∙ c.loop-q.invariant ∙ sym (ap (with_free b) (fails (λ c. is_covered k c) qs i c.loop-q-test.true (let e = w.if-q-k.false in grind (arith, nat_tests))))
    ]
