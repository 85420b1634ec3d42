use Rattle.std.proofs.Common.{subst, arith}
use Rattle.fx_header.specs.Headers.{ReadsBack}
use Rattle.vol_init.specs.Layouts.{header_of}
use Rattle.vol_init.proofs.HeaderLemmas.{few-blocks}
use Rattle.vol_init.proofs.blocks.bare_header.Goals as goal

pub new_header-requires-clause-number : goal.new_header-requires-clause-number
unfolding header_of
new_header-requires-clause-number c = rw c.header_of.ensures (omega arith, omega arith)

pub new_header-requires-clause-blocks : goal.new_header-requires-clause-blocks
unfolding header_of
new_header-requires-clause-blocks c = rw c.header_of.ensures (few-blocks c.args.layout.now c.args.n c.requires.layout c.requires.room)

pub new_header-requires-clause-mark : goal.new_header-requires-clause-mark
unfolding header_of
new_header-requires-clause-mark c = rw c.header_of.ensures (omega arith)

pub new_header-requires-clause-end : goal.new_header-requires-clause-end
unfolding header_of
new_header-requires-clause-end c = rw c.header_of.ensures (omega arith)

pub new_header-requires-clause-byte : goal.new_header-requires-clause-byte
unfolding header_of
new_header-requires-clause-byte c = rw c.header_of.ensures (omega arith)

pub new_header-requires-clause-seg : goal.new_header-requires-clause-seg
unfolding header_of
new_header-requires-clause-seg c = rw c.header_of.ensures (omega arith)

pub new_header-requires-clause-ext : goal.new_header-requires-clause-ext
unfolding header_of
new_header-requires-clause-ext c = rw c.header_of.ensures (omega arith)

pub returns-clause-reads : goal.returns-clause-reads
returns-clause-reads c = subst (ReadsBack c.new_header.result) c.header_of.ensures c.new_header.ensures.reads
