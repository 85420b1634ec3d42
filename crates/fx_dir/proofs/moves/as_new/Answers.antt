use Rattle.std.proofs.Common.{◌∙◌, sym}
use Rattle.fx_dir.proofs.Moving.{as_new-parts}
use Rattle.fx_dir.proofs.moves.as_new.Goals as goal

pub returns : goal.returns
returns c =
    let e = c.args.e.now in
    (λ i. record e { limit = c.marks_of-limit.ensures.limit i; flags = c.marks_of-limit.ensures.flags i }) ∙ sym (as_new-parts c.args.es.now e)
