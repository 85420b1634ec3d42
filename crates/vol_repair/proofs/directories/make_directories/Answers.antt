-- All numbers, one after another.
use Rattle.std.proofs.Common.{◌-◌, List, refl, arith}
use Rattle.std.specs.Prelude.{false, slice_index_or}
use Rattle.std.proofs.lemmas.Result.{err_from_is_err_and}
use Rattle.base_words.specs.Fields.{Block}
use Rattle.vol_parts.specs.Volumes.{volume}
use Rattle.vol_sound.specs.Sound.{is_sound}
use Rattle.vol_sound.proofs.KeptLemmas.{flags-count}
use Rattle.vol_repair.specs.Phases.{IsBeforeDirs}
use Rattle.vol_repair.specs.Remaking.{IsNext}
use Rattle.vol_repair.proofs.Stepping.{step_none, next_well, next_out}
use Rattle.vol_repair.proofs.DirsDone.{so_far_begins, next_is, so_far_next}
use Rattle.vol_repair.proofs.directories.make_directories.Goals as goal

pub loop-n-init : goal.loop-n-init
loop-n-init g c = record {
  step = λ first before. step_none _ _ _ _ (λ n. n) before.ground.touched;
  so_far = λ first before. so_far_begins c.args.home.now first c.args.sound.now c.args.m.now.blocks c.requires.limits before;
}

pub bounds-sound-n : goal.bounds-sound-n
bounds-sound-n g c =
    let all = flags-count (is_sound (volume c.args.home.now c.requires.before.0)) c.args.sound.now c.args.home.now.files c.requires.before.1.flags in
    omega (arith, all, c.loop-n.auto.n, c.loop-n-test.true)

pub remake-requires-clause-next : goal.remake-requires-clause-next
remake-requires-clause-next g c =
    let first = c.requires.before.0 in
    let before = c.requires.before.1 in (
      first,
      next_is c.args.home.now first c.args.sound.now c.args.m.now.blocks c.loop-n.m.blocks c.loop-n.n (slice_index_or c.args.sound.now (c.loop-n.n - 1) false) before (c.loop-n.invariant.so_far first before)
          (omega (arith, c.loop-n.auto.n)) (omega (arith, c.loop-n-test.true)) refl,
    )

pub returns-in_err-remake-clause-step : goal.returns-in_err-remake-clause-step
returns-in_err-remake-clause-step g c first before =
    let p = err_from_is_err_and c.from_residual.result c.from_residual.ensures.1 in
    let next = next_is c.args.home.now first c.args.sound.now c.args.m.now.blocks c.loop-n.m.blocks c.loop-n.n (slice_index_or c.args.sound.now (c.loop-n.n - 1) false) before (c.loop-n.invariant.so_far first before)
    (omega (arith, c.loop-n.auto.n)) (omega (arith, c.loop-n-test.true)) refl in
    next_out _ _ _ _ _ _ _ _ _ _ _ _ _ refl p.1 p.2 (c.loop-n.invariant.step first before) (c.in_err-remake.ensures.step first next)

pub loop-n-preserved : goal.loop-n-preserved
loop-n-preserved g c = record {
  step = λ first before. next_well _ _ _ _ _ _ _ _ _ _ _ refl (c.loop-n.invariant.step first before) (c.in_ok-remake.ensures.step first (next first before));
  so_far = λ first before. so_far_next c.args.home.now first c.args.m.now.blocks c.loop-n.m.blocks c.remake.new.m.blocks c.loop-n.n (c.loop-n.invariant.so_far first before) (c.in_ok-remake.ensures.ok first (next first before));
} where
  next : (first : List Block) → IsBeforeDirs c.args.home.now first c.args.sound.now c.args.m.now.blocks → IsNext c.args.home.now first (slice_index_or c.args.sound.now (c.loop-n.n - 1) false) c.loop-n.n c.loop-n.m.blocks
  next first before =
      next_is c.args.home.now first c.args.sound.now c.args.m.now.blocks c.loop-n.m.blocks c.loop-n.n (slice_index_or c.args.sound.now (c.loop-n.n - 1) false) before (c.loop-n.invariant.so_far first before)
      (omega (arith, c.loop-n.auto.n)) (omega (arith, c.loop-n-test.true)) refl
