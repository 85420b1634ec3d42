use Rattle.std.proofs.Common.{◌≡◌, ◌∙◌, ap, sym, subst, arith}
use Rattle.base_words.specs.Fields.{summed}
use Rattle.fx_header.specs.Headers.{with_link, fields_of, header_read, KeepsTests, LeavesRuns}
use Rattle.fx_header.proofs.PartLemmas.{link-fields, link-tests, link-runs, link-reads}
use Rattle.fx_header.proofs.write.set_link.Goals as goal

is-written : (c : goal.After-set_sum) → c.set_sum.new.b ≡ with_link c.args.b.now c.args.num c.args.seq
unfolding with_link
is-written c = c.set_sum.ensures ∙ ap summed c.put_id.ensures

pub returns-clause-fields : goal.returns-clause-fields
returns-clause-fields c = ap fields_of (is-written c) ∙ link-fields c.args.b.now c.args.num c.args.seq c.told-b (omega (arith, c.requires)) (omega arith)

pub returns-clause-runs : goal.returns-clause-runs
returns-clause-runs c = subst (LeavesRuns c.args.b.now) (sym (is-written c)) (link-runs c.args.b.now c.args.num c.args.seq c.told-b)

pub returns-clause-tests : goal.returns-clause-tests
returns-clause-tests c = subst (KeepsTests c.args.b.now) (sym (is-written c)) (link-tests c.args.b.now c.args.num c.args.seq c.told-b)

pub returns-clause-reads : goal.returns-clause-reads
returns-clause-reads c h read = ap header_read (is-written c) ∙ link-reads c.args.b.now c.args.num c.args.seq c.told-b h (omega (arith, c.requires)) (omega arith) read
