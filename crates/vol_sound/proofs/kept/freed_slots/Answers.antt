use Rattle.std.proofs.Common.{◌≡◌, ◌∙◌, ◌+◌, ◌-◌, Bool, true, false, cond, sym, ap, arith}
use Rattle.std.specs.List.{count_by, range_with_len}
use Rattle.vol_parts.specs.Volumes.{volume}
use Rattle.vol_sound.specs.Sound.{is_freed, freed_slots}
use Rattle.vol_sound.proofs.KeptLemmas.{one-slot-more}
use Rattle.vol_sound.proofs.kept.freed_slots.Goals as goal
use Rattle.vol_sound.proofs.kept.freed_slots.Goals.{then-is_freed, else-is_freed}

pub loop-n-preserved : goal.loop-n-preserved
loop-n-preserved c =
    let v = volume c.args.home.now c.args.blocks.now in
    let n = c.loop-n.n in
    let more = one-slot-more v n c.loop-n.auto.n in
    elim c.if-is_freed.branch [
      | then-is_freed w ↦
          let test : is_freed v n ≡ true = sym w.if-is_freed.ensures in
          let count = more ∙ ap (λ (t : Bool). count_by (is_freed v) (range_with_len 1 (n - 1)) + cond t 1 0) test in
          record { count = omega (arith, count, w.freed-is, c.loop-n.invariant.count); bound = omega (arith, w.freed-is, c.loop-n.auto.n, c.loop-n.invariant.bound) }
      | else-is_freed w ↦
          let test : is_freed v n ≡ false = sym w.if-is_freed.ensures in
          let count = more ∙ ap (λ (t : Bool). count_by (is_freed v) (range_with_len 1 (n - 1)) + cond t 1 0) test in
          record { count = omega (arith, count, w.freed-is, c.loop-n.invariant.count); bound = omega (arith, w.freed-is, c.loop-n.auto.n, c.loop-n.invariant.bound) }
    ]

pub returns : goal.returns
unfolding freed_slots
returns c =
    let v = volume c.args.home.now c.args.blocks.now in
    let all : c.loop-n.n - 1 ≡ v.home.files = omega (arith, c.loop-n.auto.n-end) in
    c.loop-n.invariant.count ∙ ap (λ k. count_by (is_freed v) (range_with_len 1 k)) all
