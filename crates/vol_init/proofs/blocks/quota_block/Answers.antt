use Rattle.std.proofs.Common.{◌∙◌, ◌+◌, ◌*◌, ap, refl, arith}
use Rattle.std.proofs.lemmas.Bool.{eq-eqb, ne_eqb}
use Rattle.fx_quota.specs.declared.types.Row.{Row}
use Rattle.vol_parts.specs.Volumes.{rows_in}
use Rattle.vol_init.specs.Layouts.{quota_rows}
use Rattle.vol_init.proofs.ZeroLemmas.{zeros-rows, rows-put}
use Rattle.vol_init.proofs.blocks.quota_block.Goals as goal

pub returns-then-k-gt0-clause-rows : goal.returns-then-k-gt0-clause-rows
returns-then-k-gt0-clause-rows c = rw (ne_eqb c.args.k 0 (λ e. omega arith)) (ap rows_in c.zeros-b.ensures ∙ zeros-rows)

pub returns-clause-rows : goal.returns-clause-rows
unfolding quota_rows
returns-clause-rows c =
    let l = c.args.layout.now in
    let system : Row = record { uic = 65537; usage = l.cluster * c.reserved_clusters.result + 11; quota = l.blocks + l.files; over = 0 } in
    let user : Row = record { uic = 65540; usage = 0; quota = l.blocks + l.files; over = 0 } in
    let rows = rows-put c.zeros-b.result c.set_row.new.b c.set_row-2.new.b system user c.zeros-b.ensures c.set_row.ensures.rows c.set_row-2.ensures.rows in
    rw (eq-eqb c.args.k 0 (omega arith)) (rows ∙ rw c.reserved_clusters.ensures.value refl)
