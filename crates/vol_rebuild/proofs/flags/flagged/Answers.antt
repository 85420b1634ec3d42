use Rattle.std.proofs.Common.{◌≡◌, List, Bool, map}
use Rattle.std.proofs.lemmas.Result.{IfOk-weaker}
use Rattle.plain_cat.specs.declared.cat.Cat.{Cat}
use Rattle.vol_parts.specs.declared.geometry.Geometry.{Geometry}
use Rattle.vol_parts.specs.Volumes.{volume, numbers, is_in_slots}
use Rattle.vol_mends.specs.Told.{IsTold}
use Rattle.vol_rebuild.specs.Space.{AreFlagged}
use Rattle.vol_rebuild.proofs.Flagging.{flagged_of}
use Rattle.vol_rebuild.proofs.flags.flagged.Goals as goal

pub returns : goal.returns
returns c =
    let v = volume c.home_of-home.result c.args.blocks.now in
    IfOk-weaker c.slot_flags.result (λ (flags : List Bool). flags ≡ map (is_in_slots v) (numbers v))
    (λ (flags : List Bool). (g : Geometry) (x : Cat) → IsTold g c.args.blocks.now x → AreFlagged g c.args.blocks.now flags)
    (λ flags seen g x t. flagged_of g c.args.blocks.now x c.home_of-home.result flags t c.home_of-home.ensures.read seen) c.slot_flags.ensures
