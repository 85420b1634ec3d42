use Rattle.std.proofs.Common.{◌≡◌, ◌∙◌, ◌≤◌, ◌*◌, length, ap, sym, subst, true, rules}
use Rattle.fx_header.specs.Headers.{with_map, has_offsets, has_map, runs_in, fields_of, header_read, map_area, KeepsTests}
use Rattle.fx_header.specs.Pointers.{map_words, lbns_in}
use Rattle.fx_header.proofs.PartLemmas.{map-runs, map-fits, map-fields, map-tests, map-reads}
use Rattle.fx_header.proofs.SpellLemmas.{lbns_in-merged}
use Rattle.fx_header.proofs.map.set_map.Goals as goal

is-written : (c : goal.After-set_sum) → c.set_sum.new.b ≡ with_map c.args.b.now c.args.runs.now
unfolding with_map
is-written c = search rules

offsets : (c : goal.After-set_sum) → has_offsets c.args.b.now ≡ true
offsets c = c.requires.offsets

room : (c : goal.After-set_sum) → length (map_words c.args.runs.now) ≤ 2 * map_area c.args.b.now
room c = search rules

pub returns-clause-runs : goal.returns-clause-runs
returns-clause-runs c t = ap runs_in (is-written c) ∙ map-runs c.args.b.now c.args.runs.now c.told-b (offsets c) c.requires.runs (room c)

pub returns-clause-blocks : goal.returns-clause-blocks
returns-clause-blocks c t = ap lbns_in (returns-clause-runs c t) ∙ lbns_in-merged c.args.runs.now

pub returns-clause-map : goal.returns-clause-map
returns-clause-map c t = ap has_map (is-written c) ∙ map-fits c.args.b.now c.args.runs.now c.told-b (offsets c) c.requires.runs (room c)

pub returns-clause-fields : goal.returns-clause-fields
returns-clause-fields c t = ap fields_of (is-written c) ∙ map-fields c.args.b.now c.args.runs.now c.told-b (offsets c) c.requires.runs (room c)

pub returns-clause-tests : goal.returns-clause-tests
returns-clause-tests c t = subst (KeepsTests c.args.b.now) (sym (is-written c)) (map-tests c.args.b.now c.args.runs.now c.told-b (offsets c) c.requires.runs (room c))

pub returns-clause-reads : goal.returns-clause-reads
returns-clause-reads c t h read = ap header_read (is-written c) ∙ map-reads c.args.b.now c.args.runs.now c.told-b (offsets c) c.requires.runs (room c) h read
