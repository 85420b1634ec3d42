use Rattle.std.proofs.Common.{◌∙◌, ◌≡◌, List, Option, ℕ, None, IfOk, ap, subst}
use Rattle.plain_cat.specs.declared.ids.Fid.{Fid}
use Rattle.plain_rules.specs.Lookups.{in_use}
use Rattle.vol_show.specs.Specifying.{entries_of, below}
use Rattle.vol_show.proofs.Downs.{down_begins, down_ends, down_goes}
use Rattle.vol_show.proofs.finding.+down.Goals as goal

pub returns-then-k-eq0 : goal.returns-then-k-eq0
returns-then-k-eq0 t c = down_begins c.args.cat.now c.args.way.now c.args.k c.if-k-eq0.true

pub returns-in_default : goal.returns-in_default
returns-in_default t c =
    let was = c.in_ok-fid.ensures in
    let is = c.in_default.is in
    let none : c.in_ok-fid.field-0 ≡ None = cc in
    down_ends c.args.cat.now c.args.way.now c.args.k c.in_ok-fid.field-0 c.if-k-eq0.false c.in_ok-fid.ensures none

pub returns : goal.returns
returns t c =
    let goes = down_goes c.args.cat.now c.args.way.now c.args.k c.in_ok-fid.field-0 c.in-Some.fid c.if-k-eq0.false c.in_ok-fid.ensures c.in-Some.is in
    let word = ap (λ (w : List ℕ). below w (entries_of (in_use c.args.cat.now c.in-Some.fid))) c.part.ensures in
    subst (λ (x : Option Fid). IfOk c.below.result (λ found. found ≡ x)) (word ∙ goes) c.below.ensures
