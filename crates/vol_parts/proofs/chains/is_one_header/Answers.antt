use Rattle.std.proofs.Common.{◌∙◌, ◌==◌, ◌&&◌, sym, ap}
use Rattle.std.proofs.lemmas.Bool.{eq-eqb}
use Rattle.vol_parts.specs.Volumes.{volume, headers_of}
use Rattle.vol_parts.specs.Chains.{held}
use Rattle.vol_parts.proofs.Alone.{one_header}
use Rattle.vol_parts.proofs.chains.is_one_header.Goals as goal

pub returns-then-first-eq0 : goal.returns-then-first-eq0
returns-then-first-eq0 c =
    let v = volume c.args.home.now c.args.blocks.now in
    let f = c.args.first.now in
    c.has_blocks.ensures
    ∙ ap (λ t. t && (held (headers_of v) c.args.n == f.blocks)) (sym (eq-eqb f.ext 0 c.if-first-eq0.true))
    ∙ sym (one_header v c.args.n f c.requires.first)
