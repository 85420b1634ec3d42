use Rattle.std.proofs.Common.{◌≡◌, ◌∙◌, ◌+◌, ◌-◌, ℕ, min, ap, refl, arith}
use Rattle.vol_parts.specs.Volumes.{volume}
use Rattle.vol_faults.specs.Counts.{times_in, times}
use Rattle.vol_faults.proofs.CountLemmas.{times-next}
use Rattle.vol_faults.proofs.counts.count_files.Goals as goal

pub count_file-requires-clause-small : goal.count_file-requires-clause-small
count_file-requires-clause-small c q = omega (arith, c.loop-n.invariant q)

pub loop-n-preserved : goal.loop-n-preserved
loop-n-preserved c q =
    let v = volume c.args.home.now c.args.blocks.now in
    c.count_file.ensures q ∙ ap (λ (k : ℕ). min 2 (k + times_in v q c.loop-n.n)) (c.loop-n.invariant q) ∙ times-next v q c.loop-n.n c.loop-n.auto.n

pub returns : goal.returns
unfolding times
returns c =
    let files : c.loop-n.n - 1 ≡ c.args.home.now.files = omega arith in
    record {
      all = omega arith;
      each = λ q small. c.loop-n.invariant q ∙ rw files refl;
    }
