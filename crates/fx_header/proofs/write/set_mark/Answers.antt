use Rattle.std.proofs.Common.{◌∙◌, ap, arith}
use Rattle.base_words.specs.Fields.{summed}
use Rattle.fx_header.specs.Headers.{with_mark, header_read}
use Rattle.fx_header.proofs.SetterLemmas.{mark-reads}
use Rattle.fx_header.proofs.write.set_mark.Goals as goal

pub returns-clause-reads : goal.returns-clause-reads
unfolding with_mark
returns-clause-reads c h read limit =
    ap header_read (c.set_sum.ensures ∙ ap summed c.put_long.ensures) ∙ mark-reads c.args.b.now h c.args.mark c.told-b (omega arith) read limit
