use Rattle.std.proofs.Common.{◌≡◌, ◌+◌, ◌∙◌, ℕ, filter, ap, arith}
use Rattle.std.specs.List.{range_with_len}
use Rattle.std.proofs.lemmas.Grind.{common_steps}
use Rattle.vol_parts.specs.Volumes.{volume}
use Rattle.vol_parts.specs.Warnings.{has_doubles}
use Rattle.vol_analyze.proofs.Told.{told_long, told_number, told_slot, filter_next}
use Rattle.vol_analyze.proofs.doubles.doubles.Goals as goal

pub overflow_cast-n : goal.overflow_cast-n
overflow_cast-n c =
    omega (arith, told_long (volume c.args.home.now c.args.blocks.now) c.args.cat.now c.items-slot-items.result.now c.requires.told c.items-slot-items.ensures)

pub overflow_add-n : goal.overflow_add-n
overflow_add-n c =
    omega (arith, told_long (volume c.args.home.now c.args.blocks.now) c.args.cat.now c.items-slot-items.result.now c.requires.told c.items-slot-items.ensures)

pub has_doubles-requires-clause-number : goal.has_doubles-requires-clause-number
has_doubles-requires-clause-number c =
    told_number (volume c.args.home.now c.args.blocks.now) c.args.cat.now c.items-slot-items.result.now c.loop-i.i c.requires.told c.items-slot-items.ensures
    c.loop-i-test.true

pub has_doubles-requires-clause-runs : goal.has_doubles-requires-clause-runs
has_doubles-requires-clause-runs c = c.requires.runs.inside (c.loop-i.i + 1) (has_doubles-requires-clause-number c)

pub has_doubles-requires-clause-told : goal.has_doubles-requires-clause-told
has_doubles-requires-clause-told c =
    told_slot (volume c.args.home.now c.args.blocks.now) c.args.cat.now c.items-slot-items.result.now c.loop-i.i c.slot-item.result c.requires.told
    c.items-slot-items.ensures c.loop-i-test.true c.slot-item.is

pub has_doubles-requires-clause-sound : goal.has_doubles-requires-clause-sound
has_doubles-requires-clause-sound c = c.requires.sound.sound (c.loop-i.i + 1) (has_doubles-requires-clause-number c)

pub loop-i-preserved : goal.loop-i-preserved
loop-i-preserved c =
    grind (arith, common_steps, filter_next (has_doubles (volume c.args.home.now c.args.blocks.now)) c.loop-i.i, c.in_ok-has_doubles.ensures)

pub returns : goal.returns
returns c =
    let long = told_long (volume c.args.home.now c.args.blocks.now) c.args.cat.now c.items-slot-items.result.now c.requires.told c.items-slot-items.ensures in
    let end : c.loop-i.i ≡ c.args.home.now.files = omega (arith, long) in
    c.loop-i.invariant ∙ ap (λ (k : ℕ). filter (has_doubles (volume c.args.home.now c.args.blocks.now)) (range_with_len 1 k)) end
