use Rattle.std.proofs.Common.{◌∙◌, sym, ap, Ok}
use Rattle.plain_cat.specs.declared.cat.Slot.TheVariants.{Used}
use Rattle.vol_parts.specs.Volumes.{volume}
use Rattle.vol_parts.proofs.Sizes.{slot-read}
use Rattle.vol_parts.proofs.catalogue.slot.Goals as goal

pub returns-in_ok-file-in-Ok-Used : goal.returns-in_ok-file-in-Ok-Used
returns-in_ok-file-in-Ok-Used c =
    let v = volume c.args.home.now c.args.blocks.now in
    ap Used c.in_ok-file-in-Ok-Used.ensures ∙ sym (slot-read v c.args.n _ (sym c.first_head.ensures ∙ c.in-Ok-Used.is ∙ ap Ok c.in-Ok-Used.field-0-is))
