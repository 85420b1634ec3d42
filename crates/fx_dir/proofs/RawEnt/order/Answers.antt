use Rattle.std.proofs.Common.{◌∙◌, ap}
use Rattle.std.specs.Ordering.{is_lt, is_eq}
use Rattle.fx_dir.specs.Entries.{lower}
use Rattle.std.specs.Str.{bytes_eq}
use Rattle.fx_dir.proofs.Rising.{order-before, order-same}
use Rattle.fx_dir.proofs.RawEnt.order.Goals as goal

pub returns : goal.returns
returns c =
    let a = c.args.self.now in
    let b = c.args.other.now in
    let l = c.name_order.ensures.lower ∙ (λ i. lower (c.bytes.ensures i) (c.bytes-2.ensures i)) in
    let e = c.name_order.ensures.equal ∙ (λ i. bytes_eq (c.bytes.ensures i) (c.bytes-2.ensures i)) in
    record {
      before = ap is_lt c.then.ensures ∙ order-before c.name_order.result c.cmp.result a b l e c.cmp.ensures;
      same = ap is_eq c.then.ensures ∙ order-same c.name_order.result c.cmp.result a b e c.cmp.ensures;
    }
