use Rattle.std.proofs.Common.{◌≡◌, ◌∙◌, ap, rules, ◌*◌}
use Rattle.fx_quota.specs.Rows.{row_at, row_put}
use Rattle.base_words.proofs.Puts.{field-lt}
use Rattle.fx_quota.proofs.Reading.{Fits, row_at-put}
use Rattle.fx_quota.proofs.set_row.Goals as goal

pub returns-clause-rows : goal.returns-clause-rows
unfolding row_put
returns-clause-rows c = λ j h.
    let e : c.put_long-5.new.b ≡ row_put c.args.b.now c.args.i c.args.r.now = cc in
    let fits : Fits c.args.r.now = record { uic = search rules; usage = search rules; quota = search rules; over = search rules } in
    let flags = field-lt c.args.b.now (32 * c.args.i) 4 c.fits-b in
    ap (λ b. row_at b j) e ∙ row_at-put c.args.b.now c.args.i j c.args.r.now c.told-b c.requires flags fits
