use Rattle.std.proofs.Common.{◌≡◌, ◌∙◌, ◌-◌, false, flat_map, replicate, ap, arith}
use Rattle.std.specs.List.{range_with_len}
use Rattle.vol_parts.specs.Catalogues.{flagged}
use Rattle.vol_parts.specs.Volumes.{volume, told}
use Rattle.vol_parts.proofs.Flagging.{length-flagged, flags-more, all-flagged}
use Rattle.vol_parts.proofs.flags.slot_flags.Goals as goal

pub loop-n-preserved : goal.loop-n-preserved
loop-n-preserved c =
    let v = volume c.args.home.now c.args.blocks.now in
    let l = c.loop-n in
    record {
      all = rw c.flag_file.ensures (length-flagged (told v l.n).slots l.flags ∙ l.invariant.all);
      whole = c.flag_file.ensures ∙ flags-more (λ n. (told v n).slots) l.n l.flags (replicate v.home.files false) l.auto.n l.invariant.whole;
    }

pub returns : goal.returns
returns c =
    let v = volume c.args.home.now c.args.blocks.now in
    let l = c.loop-n in
    let all : l.n - 1 ≡ v.home.files = omega (arith, l.auto.n-end) in
    l.invariant.whole ∙ ap (λ k. flagged (flat_map (λ n. (told v n).slots) (range_with_len 1 k)) (replicate v.home.files false)) all ∙ all-flagged v
