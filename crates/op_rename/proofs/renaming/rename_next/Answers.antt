use Rattle.std.proofs.Common.{subst, sym}
use Rattle.op_law.specs.Readable.{HeadIsReadable}
use Rattle.op_rename.proofs.renaming.rename_next.Goals as goal

pub rename_in-requires-clause-read : goal.rename_in-requires-clause-read
rename_in-requires-clause-read c = c.in-All.ensures.read (subst (HeadIsReadable c.args.dir) (sym c.all.ensures.blocks) c.requires.readable)
