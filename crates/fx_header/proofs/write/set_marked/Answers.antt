use Rattle.std.proofs.Common.{◌≡◌, ◌∙◌, ap, rules}
use Rattle.fx_header.specs.Headers.{marked, header_read}
use Rattle.fx_header.proofs.SetterLemmas.{marked-reads}
use Rattle.fx_header.proofs.write.set_marked.Goals as goal

is-written : (c : goal.After-set_sum) → c.set_sum.new.b ≡ marked c.args.b.now
unfolding marked
is-written c = search rules

pub returns-clause-reads : goal.returns-clause-reads
returns-clause-reads c h read = ap header_read (is-written c) ∙ marked-reads c.args.b.now h c.told-b c.fits-b read
