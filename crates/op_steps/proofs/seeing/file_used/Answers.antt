use Rattle.std.proofs.Common.{refl}
use Rattle.op_steps.proofs.LoneFiles.{lone_readable}
use Rattle.op_steps.proofs.seeing.file_used.Goals as goal

pub returns-in-Some-clause-readable : goal.returns-in-Some-clause-readable
returns-in-Some-clause-readable c =
    record { number = refl; head = refl; alone = refl; readable = lone_readable _ refl c.in-Some.ensures.told c.requires.inside }
