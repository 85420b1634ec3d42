use Rattle.std.proofs.Common.{◌≡◌, true, false, refl}
use Rattle.plain_rules.specs.Own.{newborn, after_answer, filled}
use Rattle.rows_sample.proofs.death_laws.nodes_give_their_own_commands.Goals as goal

pub returns : goal.returns
unfolding newborn after_answer filled
returns c = ((refl, ((refl, refl), tt)), (λ h. absurd (let f : true ≡ false = h.1.0.0 in cc)), (λ h. absurd (let f = h.1.0.1 in cc)))
