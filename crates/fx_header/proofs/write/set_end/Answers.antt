use Rattle.std.proofs.Common.{◌∙◌, ap, arith}
use Rattle.base_words.specs.Fields.{summed, put_field}
use Rattle.fx_header.specs.Headers.{with_end, header_read}
use Rattle.fx_header.proofs.SetterLemmas.{end-reads}
use Rattle.fx_header.proofs.write.set_end.Goals as goal

pub returns-clause-reads : goal.returns-clause-reads
unfolding with_end
returns-clause-reads c h read limit small =
    ap header_read (c.set_sum.ensures ∙ ap summed (c.put_word.ensures ∙ ap (λ b. put_field b 32 2 c.args.byte) c.put_high_first.ensures))
    ∙ end-reads c.args.b.now h c.args.end c.args.byte c.told-b (omega arith) read limit small
