use Rattle.std.proofs.Common.{◌≡◌, Some, subst}
use Rattle.fx_home.specs.declared.home.Home.{Home}
use Rattle.vol_init.specs.Made.{IsMade}
use Rattle.vol_init.specs.Refusals.{refusal, layout_for}
use Rattle.vol_init.proofs.MadeLemmas.{made-accepts, made-tells}
use Rattle.vol_init.proofs.RefusalLemmas.{refusal-caused}
use Rattle.vol_init.proofs.making.init.Goals as goal

pub returns-in-Some-clause-cause : goal.returns-in-Some-clause-cause
returns-in-Some-clause-cause g c =
    let e : refusal (layout_for c.args.cluster c.args.files c.args.m.now.blocks) c.args.label.now ≡ Some c.in-Some.fault =
    cc (c.in-Some.ensures.value, c.size.ensures.blocks) in
    refusal-caused _ _ _ _ c.in-Some.fault e

pub returns-clause-accepted : goal.returns-clause-accepted
returns-clause-accepted g c = made-accepts _ _ _ c.in_ok-make.ensures.ok

pub returns-clause-catalogue : goal.returns-clause-catalogue
returns-clause-catalogue g c =
    let P : Home → Type 0 = λ h. IsMade h c.args.m.now.blocks c.make.new.m.blocks in
    made-tells c.args.cluster c.args.files c.args.label.now _ _ (subst P c.in_ok-plan.ensures.of.home c.in_ok-make.ensures.ok)
