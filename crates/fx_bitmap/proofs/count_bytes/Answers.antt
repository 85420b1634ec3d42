use Rattle.std.proofs.Common.{◌≡◌, ◌∙◌, ◌*◌, ◌+◌, ◌<◌, ℕ, rules, ap, sym, refl, arith, get_or, count_ones}
use Rattle.std.proofs.lemmas.Nat.{ones_le_self}
use Rattle.fx_bitmap.specs.Bits.{bit_at, count_below, count_set_below}
use Rattle.fx_bitmap.proofs.Counts.{count_set-more, count_below-le}
use Rattle.fx_bitmap.proofs.count_bytes.Goals as goal

pub overflow_add-count : goal.overflow_add-count
overflow_add-count c =
    let before = count_below-le (bit_at c.args.b.now) (8 * c.loop-k.k) in
    let more = ones_le_self (get_or c.args.b.now c.loop-k.k 0) in
    let small : get_or c.args.b.now c.loop-k.k 0 < 256 = search rules in
    omega arith

pub loop-k-init : goal.loop-k-init
unfolding count_below
loop-k-init c = refl

pub loop-k-preserved : goal.loop-k-preserved
loop-k-preserved c =
    let small : get_or c.args.b.now c.loop-k.k 0 < 256 = search rules in
    ap (λ (n : ℕ). n + count_ones (get_or c.args.b.now c.loop-k.k 0)) c.loop-k.invariant
    ∙ sym (count_set-more c.args.b.now c.loop-k.k small)

pub returns-clause-count : goal.returns-clause-count
unfolding count_set_below
returns-clause-count c =
    let all : 8 * c.loop-k.k ≡ 8 * c.args.n = omega arith in
    c.loop-k.invariant ∙ ap (count_below (bit_at c.args.b.now)) all

pub returns-clause-most : goal.returns-clause-most
returns-clause-most c =
    let most = count_below-le (bit_at c.args.b.now) (8 * c.loop-k.k) in
    let is = c.loop-k.invariant in
    omega arith
