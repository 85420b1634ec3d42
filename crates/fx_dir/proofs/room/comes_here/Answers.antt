use Rattle.std.proofs.Common.{◌∙◌, sym, ap}
use Rattle.std.specs.Prelude.{◌&&◌}
use Rattle.fx_dir.specs.Entries.{before}
use Rattle.fx_dir.specs.Moves.{key}
use Rattle.fx_dir.proofs.Counting.{first_before}
use Rattle.fx_dir.proofs.room.comes_here.Goals as goal

pub returns-then-waiting : goal.returns-then-waiting
returns-then-waiting c =
    let name = c.args.name.now in
    let ver = c.args.ver in
    let e = key c.args.own.now c.args.own_ver in
    c.is_first.ensures ∙ first_before name ver e ∙ ap (λ w. w && before (key name ver) e) (sym c.if-waiting.true)
