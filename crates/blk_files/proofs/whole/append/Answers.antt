use Rattle.std.proofs.Common.{◌≡◌, ◌∙◌, ◌+◌, ◌-◌, ◌++◌, take, drop, ap, sym, arith, append_assoc}
use Rattle.std.proofs.Math.Seq.{take-add}
use Rattle.blk_files.proofs.whole.append.Goals as goal

pub loop-at-preserved : goal.loop-at-preserved
loop-at-preserved c =
    let h = c.loop-at.invariant in
    let at = c.loop-at.at in
    let end = c.min-end.result in
    let more = c.args.more.now in
    let old = c.args.blocks.now.items in
    let rest = take (end - at) (drop at more) in
    let joined : at + (end - at) ≡ end = omega (arith, c.min-end.ensures, c.loop-at-test.true) in
    record {
      few = omega (arith, c.min-end.ensures);
      blocks =
          c.in_ok-extend_from_slice.ensures.items
          ∙ ap (λ xs. xs ++ rest) h.blocks
          ∙ append_assoc old (take at more) rest
          ∙ ap (λ xs. old ++ xs) (sym (take-add at (end - at) more) ∙ ap (λ n. take n more) joined);
    }
