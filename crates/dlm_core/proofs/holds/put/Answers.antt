use Rattle.std.proofs.Common.{◌≡◌, ◌∙◌, Some, None}
use Rattle.std.specs.List.{position}
use Rattle.dlm_core.specs.declared.holds.Hold.{Hold}
use Rattle.dlm_core.specs.States.{is_earlier}
use Rattle.dlm_core.proofs.Placing.{put_some, put_none}
use Rattle.dlm_core.proofs.holds.put.Goals as goal

pub returns-in_ok-insert-in-Some : goal.returns-in_ok-insert-in-Some
returns-in_ok-insert-in-Some c =
    let a = c.place.ensures in
    let b = c.in-Some.is in
    let v = c.as_slice.ensures.value in
    let e : position (λ (k : Hold). is_earlier c.args.hold k) c.args.holds.now.items ≡ Some c.in-Some.i = cc in
    c.in_ok-insert-in-Some.ensures.items ∙ put_some (λ (k : Hold). is_earlier c.args.hold k) c.args.hold c.args.holds.now.items c.in-Some.i e

pub returns-in_ok-push-in-None : goal.returns-in_ok-push-in-None
returns-in_ok-push-in-None c =
    let a = c.place.ensures in
    let b = c.in-None.is in
    let v = c.as_slice.ensures.value in
    let e : position (λ (k : Hold). is_earlier c.args.hold k) c.args.holds.now.items ≡ None = cc in
    c.in_ok-push-in-None.ensures.items ∙ put_none (λ (k : Hold). is_earlier c.args.hold k) c.args.hold c.args.holds.now.items e
