use Rattle.op_extend.proofs.TruncLawful.{trunc_lawful}
use Rattle.op_extend.proofs.laws.trunc_obeys_the_law.Goals as goal

pub returns : goal.returns
returns c = trunc_lawful
