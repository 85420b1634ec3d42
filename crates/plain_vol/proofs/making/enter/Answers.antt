use Rattle.std.proofs.Common.{◌≤◌, ◌+◌, ◌<◌, ◌^◌, ℕ, Result, sym, subst, arith}
use Rattle.std.specs.Prelude.{All, IfOk}
use Rattle.plain_cat.specs.declared.cat.QuotaRow.{QuotaRow}
use Rattle.plain_cat.specs.declared.reply.Refusal.{Refusal}
use Rattle.plain_rules.specs.Lookups.{header_most}
use Rattle.plain_rules.proofs.Usages.{cost_room}
use Rattle.plain_vol.specs.declared.making.Made.{Made}
use Rattle.plain_vol.proofs.making.enter.Goals as goal

pub charge-requires : goal.charge-requires
charge-requires c =
    let P : Result Made Refusal → Type 0 = λ o. IfOk o (λ (m : Made). m.file.clusters ≤ header_most) in
    let small : c.in-Ok.made.file.clusters ≤ header_most = subst P c.in-Ok.is c.requires.small in
    let Q : ℕ → Type 0 = λ n. All (λ (r : QuotaRow). r.usage + n < 2 ^ 32) c.args.cat.quota in
    subst Q (sym c.cost-all.ensures) (cost_room c.args.cat c.in-Ok.made.file.clusters c.requires.cat (omega (arith, small)))
