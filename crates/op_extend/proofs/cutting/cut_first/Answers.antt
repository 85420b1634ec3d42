use Rattle.std.proofs.Common.{sym, subst}
use Rattle.std.specs.Prelude.{IsTrue}
use Rattle.base_words.specs.Fields.{Block}
use Rattle.fx_header.specs.Headers.{has_offsets}
use Rattle.op_extend.proofs.Lowering.{lowered_offsets}
use Rattle.op_extend.proofs.cutting.cut_first.Goals as goal

pub cut_last-requires-clause-offsets : goal.cut_last-requires-clause-offsets
cut_last-requires-clause-offsets c =
    subst (λ (b : Block). IsTrue (has_offsets b)) (sym c.lower.ensures.lowered)
    (lowered_offsets c.args.g.now c.args.f.now c.args.k c.requires.geometry c.requires.can c.lower.ensures.whole)
