use Rattle.std.proofs.Common.{◌∙◌, ap, arith}
use Rattle.base_words.specs.Fields.{summed, put_field}
use Rattle.fx_header.specs.Headers.{freed, header_read}
use Rattle.fx_header.proofs.NewLemmas.{freed-reads}
use Rattle.fx_header.proofs.write.free_slot.Goals as goal

pub returns-clause-reads : goal.returns-clause-reads
unfolding freed
returns-clause-reads c =
    ap header_read (c.set_sum.ensures ∙ ap summed (c.put_word.ensures ∙ ap (λ b. put_field b 10 2 c.args.seq) c.zeros-b.ensures)) ∙ freed-reads c.args.seq (omega arith)
