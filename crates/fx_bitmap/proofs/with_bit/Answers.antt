use Rattle.std.proofs.Common.{◌∙◌, sym}
use Rattle.fx_bitmap.proofs.Bytes.{byte_bit-set_same, byte_bit-set_other, byte_bit-clear_same, byte_bit-clear_other}
use Rattle.fx_bitmap.proofs.with_bit.Goals as goal

pub returns-then-value-clause-put : goal.returns-then-value-clause-put
returns-then-value-clause-put c = byte_bit-set_same c.args.byte c.args.k c.requires ∙ sym c.if-value.true

pub returns-then-value-clause-others : goal.returns-then-value-clause-others
returns-then-value-clause-others c = λ i l ne. byte_bit-set_other c.args.byte c.args.k i c.requires ne

pub returns-else-value-clause-put : goal.returns-else-value-clause-put
returns-else-value-clause-put c = byte_bit-clear_same c.args.byte c.args.k c.requires ∙ sym c.if-value.false

pub returns-else-value-clause-others : goal.returns-else-value-clause-others
returns-else-value-clause-others c = λ i l ne. byte_bit-clear_other c.args.byte c.args.k i c.requires l ne
