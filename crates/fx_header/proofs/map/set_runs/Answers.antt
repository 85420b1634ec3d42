use Rattle.std.proofs.Common.{◌≡◌, ◌∙◌, ◌≤◌, ◌*◌, length, ap, true, arith, rules}
use Rattle.fx_header.specs.Headers.{with_runs, has_offsets, runs_in, header_read, map_area}
use Rattle.fx_header.specs.Pointers.{map_words, lbns_in}
use Rattle.fx_header.proofs.RunsLemmas.{Written, runs-written, runs-read, runs-reads}
use Rattle.fx_header.proofs.SpellLemmas.{lbns_in-merged}
use Rattle.fx_header.proofs.map.set_runs.Goals as goal

is-written : (c : goal.After-set_sum) → c.set_sum.new.b ≡ with_runs c.args.b.now c.args.runs.now
unfolding with_runs
is-written c = search rules

offsets : (c : goal.After-set_sum) → has_offsets c.args.b.now ≡ true
offsets c = c.requires.offsets

room : (c : goal.After-set_sum) → length (map_words c.args.runs.now) ≤ 2 * map_area c.args.b.now
room c = search rules

written : (c : goal.After-set_sum) → Written (with_runs c.args.b.now c.args.runs.now) c.args.b.now c.args.runs.now
written c = runs-written c.args.b.now c.args.runs.now c.told-b (offsets c) c.requires.runs (room c) (omega arith)

pub returns-clause-runs : goal.returns-clause-runs
returns-clause-runs c t = ap runs_in (is-written c) ∙ runs-read (with_runs c.args.b.now c.args.runs.now) c.args.b.now c.args.runs.now c.requires.runs (written c)

pub returns-clause-blocks : goal.returns-clause-blocks
returns-clause-blocks c t = ap lbns_in (returns-clause-runs c t) ∙ lbns_in-merged c.args.runs.now

pub returns-clause-reads : goal.returns-clause-reads
returns-clause-reads c t h read end mark =
    ap header_read (is-written c)
    ∙ runs-reads c.args.b.now h c.args.runs.now c.told-b c.requires.runs (room c) (omega arith) read end mark
