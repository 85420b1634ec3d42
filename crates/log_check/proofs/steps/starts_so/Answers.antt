use Rattle.std.proofs.Common.{length, drop}
use Rattle.std.proofs.lemmas.Bool.Decides.{Decides-eqb}
use Rattle.std.proofs.lemmas.Slice.Eq.{starts_is}
use Rattle.log_check.proofs.steps.starts_so.Goals as goal

pub returns-clause-begins : goal.returns-clause-begins
returns-clause-begins c =
    let s = starts_is Decides-eqb c.args.text.now c.args.line.now c.starts_with.result c.starts_with.ensures.value in
    (λ h. (drop (length c.args.line.now) c.args.text.now, s.0 h), λ b. s.1 b.0 b.1)

pub returns-clause-rest : goal.returns-clause-rest
returns-clause-rest c = (starts_is Decides-eqb c.args.text.now c.args.line.now c.starts_with.result c.starts_with.ensures.value).0
