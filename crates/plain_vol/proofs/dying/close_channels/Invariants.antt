use Rattle.std.proofs.Common.{◌≡◌}
use Rattle.plain_rules.specs.Replaying.{closed_channels}
use Rattle.plain_vol.proofs.dying.close_channels.Given as goal

abbrev pub invariant-loop-chan : goal.invariant-loop-chan
invariant-loop-chan l = l.cat ≡ record l.fn.cat { opens = closed_channels l.node l.chan l.fn.cat.opens }
