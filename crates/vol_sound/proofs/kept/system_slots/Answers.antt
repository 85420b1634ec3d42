use Rattle.std.proofs.Common.{◌≡◌, ◌∙◌, ◌-◌, ap, arith}
use Rattle.vol_sound.specs.Slots.{system_slots}
use Rattle.vol_sound.proofs.KeptLemmas.{one-flag-more}
use Rattle.vol_sound.proofs.kept.system_slots.Goals as goal

pub loop-n-init : goal.loop-n-init
unfolding system_slots
loop-n-init c = record { so_far = cc; count = omega arith }

pub loop-n-preserved : goal.loop-n-preserved
loop-n-preserved c = record {
  so_far = c.in_ok-push.ensures.items ∙ one-flag-more c.loop-n.flags.items c.loop-n.n c.loop-n.auto.n c.loop-n.invariant.so_far;
  count = omega (arith, c.in_ok-push.ensures.len, c.loop-n.invariant.count);
}

pub returns-clause-first : goal.returns-clause-first
returns-clause-first c =
    let all : c.loop-n.n - 1 ≡ c.args.count = omega (arith, c.loop-n.auto.n-end) in
    c.loop-n.invariant.so_far ∙ ap system_slots all
