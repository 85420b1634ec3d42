use Rattle.std.proofs.Common.{◌≡◌, ◌∙◌, ap, rules}
use Rattle.fx_home.specs.Homes.{home_bytes, home_read}
use Rattle.fx_home.proofs.Writing.{home_read-home_bytes}
use Rattle.fx_home.proofs.home.home_block.Goals as goal

pub returns-clause-reads_back : goal.returns-clause-reads_back
unfolding home_bytes
returns-clause-reads_back c =
    let e : c.set_sum.new.b ≡ home_bytes c.args.h.now = cc in
    ap home_read e ∙ home_read-home_bytes c.args.h.now c.requires (search rules)
