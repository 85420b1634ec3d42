use Rattle.std.proofs.Common.{◌∙◌, sym, ap}
use Rattle.fx_dir.specs.Moves.{key}
use Rattle.fx_dir.specs.Walk.{last_met, is_behind}
use Rattle.fx_dir.proofs.Counting.{first_before}
use Rattle.fx_dir.proofs.room.is_behind.Goals as goal

pub returns-in-Some : goal.returns-in-Some
returns-in-Some c =
    let x = key c.args.own.now c.args.own_ver in
    c.is_first.ensures ∙ first_before c.in-Some.name.now c.args.last_ver x ∙ ap (λ o. is_behind (last_met o c.args.last_ver) x) (sym c.in-Some.is)
