use Rattle.std.proofs.Common.{◌≤◌, ◌*◌, Result, arith, subst}
use Rattle.std.specs.Prelude.{IfOk}
use Rattle.plain_cat.specs.declared.reply.Refusal.{Refusal}
use Rattle.plain_rules.specs.Lookups.{header_most}
use Rattle.plain_rules.proofs.Usages.{usage_room}
use Rattle.plain_vol.specs.declared.sizing.Sizing.{Sizing}
use Rattle.plain_vol.proofs.sizing.extend.Goals as goal

pub charge-requires : goal.charge-requires
charge-requires c =
    let P : Result Sizing Refusal → Type 0 = λ o. IfOk o (λ (s : Sizing). s.change ≤ 16 * header_most) in
    let small : c.in-Ok.sizing.change ≤ 16 * header_most = subst P c.in-Ok.is c.larger.ensures.small in
    usage_room c.args.cat c.in-Ok.sizing.change c.requires.cat (omega (arith, small))
