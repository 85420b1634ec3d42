use Rattle.std.proofs.Common.{◌≡◌, ◌∙◌, ◌+◌, ◌-◌, ℕ, min, ap, refl, arith}
use Rattle.vol_parts.specs.Volumes.{volume}
use Rattle.vol_faults.specs.Counts.{times_in}
use Rattle.vol_sound.specs.Clusters.{system_times}
use Rattle.vol_sound.proofs.ClusterLemmas.{times-next}
use Rattle.vol_sound.proofs.shared.count_system_files.Goals as goal

pub count_file-requires-clause-number : goal.count_file-requires-clause-number
count_file-requires-clause-number c = record { from = omega arith; to = omega (arith, c.requires.limits.files_low) }

pub count_file-requires-clause-small : goal.count_file-requires-clause-small
count_file-requires-clause-small c q inside = omega (arith, c.loop-n.invariant q inside)

pub loop-n-preserved : goal.loop-n-preserved
loop-n-preserved c q inside =
    let v = volume c.args.home.now c.args.blocks.now in
    c.count_file.ensures q inside ∙ ap (λ (k : ℕ). min 2 (k + times_in v q c.loop-n.n)) (c.loop-n.invariant q inside)
    ∙ times-next (times_in v q) c.loop-n.n c.loop-n.auto.n

pub returns : goal.returns
unfolding system_times
returns c =
    let files : c.loop-n.n - 1 ≡ 11 = omega arith in
    record {
      all = omega arith;
      each = λ q inside. c.loop-n.invariant q inside ∙ rw files refl;
    }
