-- An owner has a row where one is found.
use Rattle.std.proofs.Common.{◌∙◌, is_some, ap}
use Rattle.plain_rules.specs.Lookups.{row_of}
use Rattle.vol_repair.proofs.OwnerSteps.{row_found}
use Rattle.vol_repair.proofs.owners.has_row.Goals as goal

pub returns : goal.returns
returns c = c.is_some.ensures ∙ (ap is_some (c.row_of.ensures ∙ ap (row_of c.args.owner) c.items.ensures) ∙ row_found c.args.owner c.args.cat.now.quota)
