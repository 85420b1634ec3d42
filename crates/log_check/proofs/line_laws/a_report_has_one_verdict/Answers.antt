use Rattle.log_check.proofs.OneVerdict.{one_verdict}
use Rattle.log_check.proofs.SomeVerdict.{some_verdict}
use Rattle.log_check.proofs.line_laws.a_report_has_one_verdict.Goals as goal

pub returns : goal.returns
returns c = record { some = some_verdict; one = one_verdict }
