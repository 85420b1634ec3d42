use Rattle.std.proofs.Common.{◌∙◌, sym}
use Rattle.vol_repair.proofs.Keepings.{no_home_fault}
use Rattle.vol_repair.proofs.repairing.home_of.Goals as goal

pub unreachable-requires : goal.unreachable-requires
unreachable-requires c = no_home_fault c.args.blocks.now c.in_default.field-0 c.requires.none (sym c.read_home.ensures.value ∙ c.in_default.is)
