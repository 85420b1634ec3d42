use Rattle.std.proofs.Common.{List, subst}
use Rattle.std.specs.Prelude.{IfOk}
use Rattle.plain_rules.specs.declared.places.Place.{Place}
use Rattle.vol_faults.specs.Places.{AreFirsts}
use Rattle.vol_faults.proofs.keeping.all_firsts.Goals as goal

pub returns : goal.returns
returns c = subst (λ (ps : List Place). IfOk c.firsts.result (λ v. AreFirsts c.args.cat.now ps v.items)) c.requires c.firsts.ensures
