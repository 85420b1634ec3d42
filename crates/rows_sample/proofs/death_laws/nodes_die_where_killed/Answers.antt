use Rattle.std.proofs.Common.{◌≡◌, true, false, refl}
use Rattle.rows_sample.proofs.death_laws.nodes_die_where_killed.Goals as goal

pub returns : goal.returns
returns c = ((refl, (tt, tt)), (λ h. absurd (let f : false ≡ true = h.0 in cc)))
