use Rattle.std.proofs.Common.{arith}
use Rattle.fx_bitmap.proofs.Blocks.{bit_at-changed}
use Rattle.fx_bitmap.proofs.put_bit.Goals as goal

pub returns-clause-bits : goal.returns-clause-bits
returns-clause-bits c = λ j.
    bit_at-changed c.args.b.now c.args.i j c.with_bit.result c.args.value (omega arith) c.with_bit.ensures.put c.with_bit.ensures.others
