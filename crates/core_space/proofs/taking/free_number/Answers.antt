use Rattle.std.proofs.Common.{◌≡◌, ◌+◌, ◌-◌, sym, ap, ◌∙◌, arith}
use Rattle.std.specs.Prelude.{not, find}
use Rattle.std.specs.List.{range_with_len}
use Rattle.fx_bitmap.specs.Bits.{bit_at}
use Rattle.core_space.specs.Searching.{free_number}
use Rattle.core_space.proofs.Ranges.{find_here, find_on}
use Rattle.core_space.proofs.taking.free_number.Goals as goal

pub returns-then-not-bit : goal.returns-then-not-bit
unfolding free_number
returns-then-not-bit c =
    let lo = c.loop-n.auto.n in
    let hi = c.loop-n-test.true in
    sym (find_here (λ m. not (bit_at c.args.index.now (m - 1))) 1 (c.loop-n.n - 1) c.args.geometry.now.files c.loop-n.n c.loop-n.invariant (omega arith) (omega arith)
    (ap not (sym c.bit.ensures ∙ c.if-not-bit.true)))

pub loop-n-preserved : goal.loop-n-preserved
loop-n-preserved c =
    let lo = c.loop-n.auto.n in
    find_on (λ m. not (bit_at c.args.index.now (m - 1))) 1 (c.loop-n.n - 1) (c.loop-n.n + 1 - 1) c.loop-n.n c.loop-n.invariant (omega arith) (omega arith)
    (ap not (sym c.bit.ensures ∙ c.if-not-bit.false))

pub returns : goal.returns
unfolding free_number
returns c =
    let lo = c.loop-n.auto.n in
    let hi = c.loop-n-test.false in
    let all : c.loop-n.n - 1 ≡ c.args.geometry.now.files = omega arith in
    sym (ap (λ k. find (λ m. not (bit_at c.args.index.now (m - 1))) (range_with_len 1 k)) (sym all) ∙ c.loop-n.invariant)
