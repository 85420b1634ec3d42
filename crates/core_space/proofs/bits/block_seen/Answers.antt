use Rattle.std.proofs.Common.{◌==◌, [], sym, ap, arith}
use Rattle.std.proofs.lemmas.Bool.Decides.{nat_tests}
use Rattle.core_space.specs.Giving.{found_block}
use Rattle.core_space.proofs.Loops.{found_at, none_to}
use Rattle.core_space.proofs.bits.block_seen.Goals as goal

pub returns-then-seen-lbn : goal.returns-then-seen-lbn
returns-then-seen-lbn c =
    sym (ap found_block (found_at (λ b. b.0 == c.args.lbn) c.args.looked.now c.loop-seen.seen-index (0, []) c.loop-seen.invariant c.loop-seen-test.true
    (let e = c.if-seen-lbn.true in grind (arith, nat_tests))))

pub loop-seen-preserved : goal.loop-seen-preserved
loop-seen-preserved c =
    none_to (λ b. b.0 == c.args.lbn) c.args.looked.now c.loop-seen.seen-index (0, []) c.loop-seen.invariant c.loop-seen-test.true
    (let e = c.if-seen-lbn.false in grind (arith, nat_tests))
