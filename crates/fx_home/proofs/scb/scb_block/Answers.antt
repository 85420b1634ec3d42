use Rattle.std.proofs.Common.{◌≡◌, ◌∙◌, ap, rules}
use Rattle.fx_home.specs.Homes.{scb_bytes, scb_table, scb_read}
use Rattle.fx_home.proofs.Writing.{scb_read-scb_bytes}
use Rattle.fx_home.proofs.scb.scb_block.Goals as goal

pub returns-clause-reads_back : goal.returns-clause-reads_back
unfolding scb_bytes scb_table
returns-clause-reads_back c =
    let e : c.set_sum.new.b ≡ scb_bytes c.args.s.now = cc in
    ap scb_read e ∙ scb_read-scb_bytes c.args.s.now (search rules) (search rules)
