use Rattle.std.proofs.Common.{◌≡◌, ◌∙◌, length, ap, arith}
use Rattle.std.specs.List.{position_or_len}
use Rattle.std.specs.Prelude.{unwrap_or}
use Rattle.fx_dir.specs.Entries.{before}
use Rattle.fx_dir.proofs.Moving.{position-or, position_or_len-le}
use Rattle.fx_dir.proofs.moves.spot_of.Goals as goal

pub returns : goal.returns
returns c =
    let es = c.args.es.now in
    let spot : c.unwrap_or.result ≡ position_or_len (λ x. before c.args.e.now x) es = c.unwrap_or.ensures ∙ ap (λ o. unwrap_or o (length es)) c.first_behind.ensures ∙ position-or (λ x. before c.args.e.now x) es in
    record { spot = spot; bound = omega (arith, position_or_len-le (λ x. before c.args.e.now x) es) }
