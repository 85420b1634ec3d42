use Rattle.std.proofs.Common.{◌∙◌, sym, Some}
use Rattle.op_law.specs.Behind.{blocks_alone}
use Rattle.op_law.specs.Rows.{entries_seen}
use Rattle.op_law.proofs.Wanted.{entry-told}
use Rattle.op_law.proofs.events.entry_seen.Goals as goal

pub returns : goal.returns
returns c =
    let e = entry-told c.args.name.now c.args.ver (entries_seen (blocks_alone c.args.seen.now)) c.in-Some.v (sym c.version_seen.ensures ∙ c.in-Some.is) in
    let n = c.in_ok-copy.ensures in
    (λ i. Some (record { name = n i; ver = c.in-Some.v.ver; fid = record { num = c.in-Some.v.num; seq = c.in-Some.v.seq } })) ∙ sym e
