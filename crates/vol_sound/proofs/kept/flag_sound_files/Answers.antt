use Rattle.std.proofs.Common.{◌≡◌, ◌∙◌, ◌-◌, flat_map, ap, arith}
use Rattle.std.specs.List.{range_with_len}
use Rattle.vol_parts.specs.Catalogues.{flagged}
use Rattle.vol_parts.specs.Volumes.{volume}
use Rattle.vol_parts.proofs.Flagging.{length-flagged, flags-more}
use Rattle.vol_sound.specs.Slots.{sound_slots, system_slots}
use Rattle.vol_sound.proofs.KeptLemmas.{all-kept}
use Rattle.vol_sound.proofs.kept.flag_sound_files.Goals as goal

pub loop-n-init : goal.loop-n-init
loop-n-init c = record { all = c.requires.all; whole = c.requires.first }

pub loop-n-preserved : goal.loop-n-preserved
loop-n-preserved c =
    let v = volume c.args.home.now c.args.blocks.now in
    let l = c.loop-n in
    record {
      all = rw c.flag_sound.ensures (length-flagged (sound_slots v l.n) l.flags ∙ l.invariant.all);
      whole = c.flag_sound.ensures ∙ flags-more (sound_slots v) l.n l.flags (system_slots v.home.files) l.auto.n l.invariant.whole;
    }

pub returns : goal.returns
returns c =
    let v = volume c.args.home.now c.args.blocks.now in
    let l = c.loop-n in
    let all : l.n - 1 ≡ v.home.files = omega (arith, l.auto.n-end) in
    l.invariant.whole ∙ ap (λ k. flagged (flat_map (sound_slots v) (range_with_len 1 k)) (system_slots v.home.files)) all ∙ all-kept v
