use Rattle.vol_init.proofs.ZeroLemmas.{numbers-put}
use Rattle.vol_init.proofs.blocks.numbers_block.Goals as goal

pub returns : goal.returns
returns c = λ i h. numbers-put c.zeros-b.result c.set_bits.new.b i c.zeros-b.ensures c.set_bits.ensures.bits h
