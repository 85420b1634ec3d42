use Rattle.std.proofs.Common.{◌∙◌, Option, ap}
use Rattle.std.specs.Prelude.{is_none}
use Rattle.vol_faults.specs.declared.places.Spot.{Spot}
use Rattle.vol_faults.proofs.Kept.{lost_then, none_of}
use Rattle.vol_faults.proofs.keeping.is_lost.Goals as goal

pub returns-then-not-file : goal.returns-then-not-file
returns-then-not-file c =
    none_of c.first_at.result c.is_none.result c.is_none.ensures
    ∙ (ap (λ (x : Option Spot). is_none x) c.first_at.ensures
    ∙ lost_then c.args.cat.now c.args.table.now c.args.n c.in-Used.file c.args.slot.now c.requires.firsts c.requires.number c.requires.here
    c.in-Used.is c.if-not-file.true)
