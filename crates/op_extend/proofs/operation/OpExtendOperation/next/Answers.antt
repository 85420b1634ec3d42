use Rattle.std.proofs.Common.{rules}
use Rattle.op_steps.proofs.OfVolume.{fits_volume}
use Rattle.op_extend.proofs.FitsFile.{fits_inside, fits_extend, fits_trunc}
use Rattle.op_extend.proofs.operation.OpExtendOperation.next.Goals as goal

pub extend_next-requires-clause-inside : goal.extend_next-requires-clause-inside
extend_next-requires-clause-inside c = fits_inside c.args.self.now c.args.seen.now (search rules) c.requires

pub extend_next-requires-clause-within : goal.extend_next-requires-clause-within
extend_next-requires-clause-within c = fits_volume c.args.self.now c.args.seen.now c.requires

pub trunc_next-requires-clause-inside : goal.trunc_next-requires-clause-inside
trunc_next-requires-clause-inside c = fits_inside c.args.self.now c.args.seen.now (search rules) c.requires

pub extend_next-requires-clause-begun : goal.extend_next-requires-clause-begun
extend_next-requires-clause-begun c = fits_extend c.args.self.now c.in-Extend.file c.in-Extend.blocks c.args.seen.now (let is = c.in-Extend.is in let view = c.self.view_is in cc) c.requires

pub trunc_next-requires-clause-begun : goal.trunc_next-requires-clause-begun
trunc_next-requires-clause-begun c = fits_trunc c.args.self.now c.in-Trunc.file c.in-Trunc.blocks c.args.seen.now (let is = c.in-Trunc.is in let view = c.self.view_is in cc) c.requires
