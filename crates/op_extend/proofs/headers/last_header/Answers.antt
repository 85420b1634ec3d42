use Rattle.std.proofs.Common.{◌≡◌, ◌∙◌, ◌-◌, ℕ, Some, length, slice_get, sym, ap}
use Rattle.base_words.specs.Fields.{Block}
use Rattle.op_law.specs.Headers.{slot_at, last_header}
use Rattle.op_extend.proofs.Lasts.{last_is}
use Rattle.op_extend.proofs.headers.last_header.Goals as goal

pub returns-in-Some : goal.returns-in-Some
returns-in-Some c =
    let g = c.args.g.now in
    let rest = c.args.rest.now in
    let x = c.in-Some.last.now in
    let at : slice_get rest (length rest - 1) ≡ Some x = sym c.in-Some.ensures.value in
    let is : last_header g c.args.n c.args.head.now rest ≡ (slot_at g x.0, x.1) = last_is g c.args.n c.args.head.now rest x at in
    record { num = c.slot_at.ensures ∙ sym (ap (λ (y : ℕ × Block). y.0) is); block = sym (ap (λ (y : ℕ × Block). y.1) is) }
