use Rattle.std.proofs.Common.{◌≡◌, sym, Some, None, slice_get, get_or, []}
use Rattle.plain_cat.proofs.OwnPlaces.{no_line, one_line}
use Rattle.plain_cat.proofs.script.Lines.own.Goals as goal

pub returns-in_err-place_at : goal.returns-in_err-place_at
returns-in_err-place_at c =
    let kept : slice_get (get_or c.self.inside.places.items c.args.node []) c.args.before ≡ None = rw (← c.deref-2.ensures.value) (sym c.in_err-place_at.ensures) in
    let none = no_line _ _ _ _ c.self.invariant kept in
    cc none

pub returns : goal.returns
returns c =
    let kept : slice_get (get_or c.self.inside.places.items c.args.node []) c.args.before ≡ Some c.in_ok-place_at.field-0 = rw (← c.deref-2.ensures.value) (sym c.in_ok-place_at.ensures) in
    let own = one_line _ _ _ _ _ c.self.invariant kept in
    cc own
