use Rattle.std.proofs.Common.{arith}
use Rattle.fx_header.proofs.PointerLemmas.{splits-whole, splits-cut}
use Rattle.fx_header.proofs.pointers.split_pointer.Goals as goal

pub returns : goal.returns
returns c = splits-whole c.args.p.now c.size_of_pointer-size.result c.run_of_pointer.result c.size_of_pointer-size.ensures c.run_of_pointer.ensures c.if-p-size.false

pub returns-then-p-lt2 : goal.returns-then-p-lt2
returns-then-p-lt2 c = splits-cut c.args.p.now (omega arith)

pub returns-then-p-size : goal.returns-then-p-size
returns-then-p-size c = splits-cut c.args.p.now (omega (arith, c.size_of_pointer-size.ensures))
