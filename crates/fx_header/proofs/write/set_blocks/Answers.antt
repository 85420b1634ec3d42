use Rattle.std.proofs.Common.{◌≡◌, ◌∙◌, ap, sym, subst, arith}
use Rattle.base_words.specs.Fields.{summed}
use Rattle.fx_header.specs.Headers.{with_blocks, fields_of, header_read, KeepsTests, LeavesRuns}
use Rattle.fx_header.proofs.PartLemmas.{blocks-fields, blocks-tests, blocks-runs, blocks-reads}
use Rattle.fx_header.proofs.write.set_blocks.Goals as goal

is-written : (c : goal.After-set_sum) → c.set_sum.new.b ≡ with_blocks c.args.b.now c.args.blocks
unfolding with_blocks
is-written c = c.set_sum.ensures ∙ ap summed c.put_high_first.ensures

pub returns-clause-fields : goal.returns-clause-fields
returns-clause-fields c = ap fields_of (is-written c) ∙ blocks-fields c.args.b.now c.args.blocks c.told-b (omega arith)

pub returns-clause-runs : goal.returns-clause-runs
returns-clause-runs c = subst (LeavesRuns c.args.b.now) (sym (is-written c)) (blocks-runs c.args.b.now c.args.blocks c.told-b)

pub returns-clause-tests : goal.returns-clause-tests
returns-clause-tests c = subst (KeepsTests c.args.b.now) (sym (is-written c)) (blocks-tests c.args.b.now c.args.blocks c.told-b)

pub returns-clause-reads : goal.returns-clause-reads
returns-clause-reads c h read within = ap header_read (is-written c) ∙ blocks-reads c.args.b.now c.args.blocks c.told-b h (omega arith) read within
