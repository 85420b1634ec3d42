use Rattle.std.proofs.Common.{◌≡◌, ◌∙◌, ap, drop, length}
use Rattle.fx_dir.specs.Entries.{rises}
use Rattle.fx_dir.specs.Pieces.{if_whole}
use Rattle.fx_dir.proofs.Appending.{lacks, found, found-block, lacks-block}
use Rattle.fx_dir.proofs.records.push_block.Goals as goal

pub returns-then-not-whole : goal.returns-then-not-whole
returns-then-not-whole c = lacks-block c.args.b.now c.args.list.now.items (lacks _ _ _ _ c.in_ok-whole.ensures c.if-not-whole.true)

pub returns : goal.returns
returns c =
    let old = c.args.list.now.items in
    let new = c.push_records.new.list.items in
    let f = found _ _ _ _ c.in_ok-whole.ensures c.if-not-whole.false in
    let t : c.split_at.result.1.now ≡ drop (length old) new = c.split_at.ensures.back ∙ (λ i. drop ((ap length c.as_slice-at.ensures.value) i) (c.as_slice.ensures.value i)) in
    ap (λ q. if_whole q new) (c.rises.ensures ∙ ap rises t) ∙ found-block c.args.b.now old new f.0 f.1 f.2
