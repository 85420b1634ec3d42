use Rattle.std.proofs.Common.{◌≡◌, ◌∙◌, ap}
use Rattle.fx_quota.specs.Rows.{row_at, row_cleared}
use Rattle.fx_quota.proofs.Reading.{row_at-cleared}
use Rattle.fx_quota.proofs.clear_row.Goals as goal

pub returns-clause-rows : goal.returns-clause-rows
unfolding row_cleared
returns-clause-rows c = λ j h.
    let e : c.put_long.new.b ≡ row_cleared c.args.b.now c.args.i = cc in
    ap (λ b. row_at b j) e ∙ row_at-cleared c.args.b.now c.args.i j c.told-b c.requires
