use Rattle.std.proofs.Common.{◌≡◌, ◌∙◌, ◌+◌, ◌-◌, ℕ, min, ap, refl, arith}
use Rattle.vol_parts.specs.Volumes.{volume}
use Rattle.vol_sound.specs.Sound.{times_in_cut, times_cut}
use Rattle.vol_sound.proofs.ClusterLemmas.{times-next}
use Rattle.vol_sound.proofs.sound.count_cuts.Goals as goal

pub count_cut-requires-clause-small : goal.count_cut-requires-clause-small
count_cut-requires-clause-small c q inside = omega (arith, c.loop-n.invariant q inside)

pub loop-n-preserved : goal.loop-n-preserved
loop-n-preserved c q inside =
    let v = volume c.args.home.now c.args.blocks.now in
    c.count_cut.ensures q inside ∙ ap (λ (k : ℕ). min 2 (k + times_in_cut v q c.loop-n.n)) (c.loop-n.invariant q inside)
    ∙ times-next (times_in_cut v q) c.loop-n.n c.loop-n.auto.n

pub returns : goal.returns
unfolding times_cut
returns c =
    let files : c.loop-n.n - 1 ≡ c.args.home.now.files = omega arith in
    record {
      all = omega arith;
      each = λ q inside. c.loop-n.invariant q inside ∙ rw files refl;
    }
