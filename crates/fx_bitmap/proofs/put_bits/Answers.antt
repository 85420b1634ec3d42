use Rattle.std.proofs.Common.{◌≡◌, ◌==◌, ◌∙◌, ap, ◌+◌, if◌then◌else◌, Bool, arith}
use Rattle.fx_bitmap.specs.Bits.{bit_at, bits_put, is_among}
use Rattle.fx_bitmap.proofs.Blocks.{block_of-same, one_more}
use Rattle.fx_bitmap.proofs.put_bits.Goals as goal

pub loop-i-preserved : goal.loop-i-preserved
loop-i-preserved c = record {
  long = c.put_bit.array_long;
  bytes = c.put_bit.ensures.bytes;
  bits = λ j h.
      c.put_bit.ensures.bits j
      ∙ ap (λ (old : Bool). if j == c.loop-i.i then c.args.value else old) (c.loop-i.invariant.bits j h)
      ∙ one_more c.args.from c.loop-i.i j c.args.value (bit_at c.args.b.now j) c.loop-i.auto.i;
}

pub returns-clause-block : goal.returns-clause-block
unfolding bits_put
returns-clause-block c =
    let last : c.loop-i.i ≡ c.args.from + c.args.n = omega arith in
    block_of-same c.loop-i.b (λ i. if is_among c.args.from c.args.n i then c.args.value else bit_at c.args.b.now i)
    c.loop-i.invariant.long c.loop-i.invariant.bytes (rw last at c.loop-i.invariant.bits)
