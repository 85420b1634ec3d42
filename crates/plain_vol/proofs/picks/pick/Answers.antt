use Rattle.std.proofs.Common.{◌≡◌, length, ap, arith}
use Rattle.plain_rules.proofs.Picks.{no_number}
use Rattle.plain_vol.proofs.picks.pick.Goals as goal

pub returns : goal.returns
returns c =
    let all : length c.items.result.now ≡ length c.args.cat.now.files = ap length c.items.ensures in
    no_number c.args.cat.now (λ k lt. c.loop-n.invariant k (omega (arith, lt, all)))
