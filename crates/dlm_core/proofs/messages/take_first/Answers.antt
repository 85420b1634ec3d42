use Rattle.std.proofs.Common.{◌≡◌, ◌<◌, ◌≤◌, ◌+◌, suc, arith, ap, sym, ◌∙◌, true, false, length, get_or, Some, List}
use Rattle.std.proofs.lemmas.List.{get_or_default}
use Rattle.std.specs.List.{remove}
use Rattle.dlm_core.specs.declared.messages.Message.{Message}
use Rattle.dlm_core.specs.States.{is_between}
use Rattle.dlm_core.proofs.Firsts.{find-at, past-at, find-more, find-all, past-none}
use Rattle.dlm_core.proofs.messages.take_first.Goals as goal

pub returns-then-is_between-clause-which : goal.returns-then-is_between-clause-which
returns-then-is_between-clause-which c =
    let xs : List Message = c.args.mail.now.items in
    let l : c.loop-i.i < length xs = omega (arith, c.args.mail.now.ok.0) in
    let at : c.index.result.now ≡ get_or xs c.loop-i.i c.index.result.now = rw (← c.loop-i.invariant.same) c.index.ensures in
    let got : c.remove.result ≡ get_or xs c.loop-i.i c.remove.result = rw (← c.loop-i.invariant.same) c.remove.ensures.value in
    let one : c.remove.result ≡ c.index.result.now = got ∙ get_or_default xs c.loop-i.i c.remove.result c.index.result.now l ∙ sym at in
    let t : is_between c.args.from c.args.to c.index.result.now ≡ true = sym c.is_between.ensures ∙ c.if-is_between.true in
    ap Some one ∙ sym (find-at (is_between c.args.from c.args.to) xs c.loop-i.i c.index.result.now c.loop-i.invariant.none l at t)

pub returns-then-is_between-clause-rest : goal.returns-then-is_between-clause-rest
returns-then-is_between-clause-rest c =
    let xs : List Message = c.args.mail.now.items in
    let l : c.loop-i.i < length xs = omega (arith, c.args.mail.now.ok.0) in
    let at : c.index.result.now ≡ get_or xs c.loop-i.i c.index.result.now = rw (← c.loop-i.invariant.same) c.index.ensures in
    let t : is_between c.args.from c.args.to c.index.result.now ≡ true = sym c.is_between.ensures ∙ c.if-is_between.true in
    c.remove.ensures.items ∙ ap (λ (ys : List Message). remove ys c.loop-i.i) c.loop-i.invariant.same
    ∙ sym (past-at (is_between c.args.from c.args.to) xs c.loop-i.i c.index.result.now c.loop-i.invariant.none l at t)

pub loop-i-preserved : goal.loop-i-preserved
loop-i-preserved c =
    let xs : List Message = c.args.mail.now.items in
    let l : c.loop-i.i < length xs = omega (arith, c.args.mail.now.ok.0) in
    let at : c.index.result.now ≡ get_or xs c.loop-i.i c.index.result.now = rw (← c.loop-i.invariant.same) c.index.ensures in
    let t : is_between c.args.from c.args.to c.index.result.now ≡ false = sym c.is_between.ensures ∙ c.if-is_between.false in
    let e : c.loop-i.i + 1 ≡ suc c.loop-i.i = omega arith in
    record { none = rw e (find-more (is_between c.args.from c.args.to) xs c.loop-i.i c.index.result.now c.loop-i.invariant.none l at t); same = c.loop-i.invariant.same }

pub returns-clause-which : goal.returns-clause-which
returns-clause-which c =
    let xs : List Message = c.args.mail.now.items in
    let l : length xs ≤ c.loop-i.i = omega (arith, c.args.mail.now.ok.0) in
    sym (find-all (is_between c.args.from c.args.to) xs c.loop-i.i c.loop-i.invariant.none l)

pub returns-clause-rest : goal.returns-clause-rest
returns-clause-rest c =
    let xs : List Message = c.args.mail.now.items in
    let l : length xs ≤ c.loop-i.i = omega (arith, c.args.mail.now.ok.0) in
    c.loop-i.invariant.same ∙ sym (past-none (is_between c.args.from c.args.to) xs (find-all (is_between c.args.from c.args.to) xs c.loop-i.i c.loop-i.invariant.none l))
