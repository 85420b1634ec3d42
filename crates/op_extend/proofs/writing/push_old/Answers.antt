use Rattle.std.proofs.Common.{◌≤◌, sym, subst}
use Rattle.std.specs.Prelude.{IsTrue}
use Rattle.base_words.specs.Fields.{Block}
use Rattle.fx_header.specs.Headers.{has_offsets}
use Rattle.op_extend.proofs.Rooms.{head_offsets, last_offsets, last_number}
use Rattle.op_extend.proofs.writing.push_old.Goals as goal

pub grown_last-requires-clause-offsets : goal.grown_last-requires-clause-offsets
grown_last-requires-clause-offsets c =
    let f = c.args.f.now in
    subst (λ (b : Block). IsTrue (has_offsets b)) (sym c.last_header-last.ensures.block)
    (last_offsets c.args.g.now f.num f.head.now f.rest.now (head_offsets f c.requires.whole.readable) c.requires.whole.whole.slots)

pub push_header-requires-clause-number : goal.push_header-requires-clause-number
push_header-requires-clause-number c =
    let f = c.args.f.now in
    subst (λ n. n ≤ c.args.g.now.files) (sym c.last_header-last.ensures.num) (last_number c.args.g.now f.num f.head.now f.rest.now c.requires.whole.number c.requires.whole.whole.slots)
