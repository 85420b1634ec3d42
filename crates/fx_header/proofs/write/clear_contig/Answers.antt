use Rattle.std.proofs.Common.{◌≡◌, ◌∙◌, ap, rules}
use Rattle.fx_header.specs.Headers.{scattered, header_read}
use Rattle.fx_header.proofs.SetterLemmas.{scattered-reads}
use Rattle.fx_header.proofs.write.clear_contig.Goals as goal

is-written : (c : goal.After-set_sum) → c.set_sum.new.b ≡ scattered c.args.b.now
unfolding scattered
is-written c = search rules

pub returns-clause-reads : goal.returns-clause-reads
returns-clause-reads c h read = ap header_read (is-written c) ∙ scattered-reads c.args.b.now h c.told-b c.fits-b read
