use Rattle.std.proofs.Common.{◌≡◌, ◌∙◌, ap, sym, subst, arith}
use Rattle.base_words.specs.Fields.{summed}
use Rattle.fx_header.specs.Headers.{with_owner, fields_of, header_read, KeepsTests, LeavesRuns}
use Rattle.fx_header.proofs.PartLemmas.{owner-fields, owner-tests, owner-runs, owner-reads}
use Rattle.fx_header.proofs.write.set_owner.Goals as goal

is-written : (c : goal.After-set_sum) → c.set_sum.new.b ≡ with_owner c.args.b.now c.args.uic
unfolding with_owner
is-written c = c.set_sum.ensures ∙ ap summed c.put_long.ensures

pub returns-clause-fields : goal.returns-clause-fields
returns-clause-fields c = ap fields_of (is-written c) ∙ owner-fields c.args.b.now c.args.uic c.told-b (omega arith)

pub returns-clause-runs : goal.returns-clause-runs
returns-clause-runs c = subst (LeavesRuns c.args.b.now) (sym (is-written c)) (owner-runs c.args.b.now c.args.uic c.told-b)

pub returns-clause-tests : goal.returns-clause-tests
returns-clause-tests c = subst (KeepsTests c.args.b.now) (sym (is-written c)) (owner-tests c.args.b.now c.args.uic c.told-b)

pub returns-clause-reads : goal.returns-clause-reads
returns-clause-reads c h read = ap header_read (is-written c) ∙ owner-reads c.args.b.now c.args.uic c.told-b h (omega arith) read
