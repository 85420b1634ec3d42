use Rattle.std.proofs.Common.{◌≡◌, ◌∙◌, List, Option, Some, false, Ok, sym, ap, subst, arith}
use Rattle.std.specs.Prelude.{nat_le}
use Rattle.std.proofs.lemmas.Bool.Decides.{nat_tests}
use Rattle.plain_cat.specs.declared.cat.Cat.{Cat}
use Rattle.plain_cat.specs.declared.cat.File.{File}
use Rattle.plain_cat.specs.declared.entries.DirEnt.{DirEnt}
use Rattle.plain_rules.specs.Lookups.{versions, entry_of, in_use}
use Rattle.plain_rules.specs.Answers.{has_entries, unnamed}
use Rattle.plain_vol.specs.Makings.{Stands, lost, unnamed_in}
use Rattle.plain_vol.proofs.Deleting.{deletes}
use Rattle.plain_vol.proofs.naming.unnamed.Goals as goal

pub returns : goal.returns
returns c =
    let e : DirEnt = c.in-Some-entry_of.e.now in
    let found : entry_of (versions c.args.name.now c.in-Some.d.now.entries) c.args.ver ≡ Some e =
    sym (c.in-Some-entry_of.ensures ∙ ap (λ (es : List DirEnt). entry_of (versions c.args.name.now es) c.args.ver) c.items.ensures) in
    let empty : has_entries (in_use c.args.cat.now e.fid) ≡ false = ap has_entries (sym c.in_use-file.ensures) ∙ sym c.has_entries.ensures ∙ c.if-has_entries.false in
    let above : nat_le e.fid.num 11 ≡ false = grind (arith, nat_tests, c.if-e-le11.false) in
    let P : Option File → Type 0 =
    λ o. (after : Cat) → after.factor ≡ c.args.cat.now.factor → after.opens ≡ c.args.cat.now.opens → Stands after e.fid.num o → lost after e.fid.num c.loss_of.result ≡ unnamed after e.fid.num o in
    ap (λ (x : DirEnt). unnamed_in c.args.cat.now c.args.dir.num (Ok (record { entry = x; loss = c.loss_of.result }))) c.in_ok-copy.ensures
    ∙ deletes c.args.cat.now c.args.dir c.args.name.now c.args.ver c.in-Some.d.now e (sym c.in-Some.ensures.live) c.if-not-d.false found empty
    c.loss_of.result above (subst P c.in_use-file.ensures c.loss_of.ensures)
