use Rattle.std.proofs.Common.{◌∙◌, false, sym}
use Rattle.fx_dir.specs.Moves.{key}
use Rattle.fx_dir.specs.Filling.{filled_of, tried_of, pushed}
use Rattle.fx_dir.proofs.Counting.{took, passed}
use Rattle.fx_dir.proofs.room.taken_in.Goals as goal

pub returns-then-comes_here : goal.returns-then-comes_here
returns-then-comes_here c =
    let f = c.pushed-then-comes_here.ensures ∙ (λ j. pushed (c.pushed.ensures j) c.args.own.now) in
    (λ i. record { filled = f i; waiting = false }) ∙ sym (took (key c.args.name.now c.args.ver) (tried_of c.args.t) (key c.args.own.now c.args.own_ver) (sym c.comes_here.ensures ∙ c.if-comes_here.true))

pub returns : goal.returns
returns c =
    let f = c.pushed-2.ensures ∙ (λ j. pushed (filled_of c.args.t.filling) c.args.own.now) in
    (λ i. record { filled = f i; waiting = c.args.t.waiting }) ∙ sym (passed (key c.args.name.now c.args.ver) (tried_of c.args.t) (key c.args.own.now c.args.own_ver) (sym c.comes_here.ensures ∙ c.if-comes_here.false))
