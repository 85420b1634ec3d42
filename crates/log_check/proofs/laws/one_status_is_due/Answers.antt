use Rattle.log_check.proofs.OneStatus.{one_status}
use Rattle.log_check.proofs.SomeStatus.{some_status}
use Rattle.log_check.proofs.laws.one_status_is_due.Goals as goal

pub returns : goal.returns
returns c = record {
  some = some_status c.a_report_has_one_verdict.ensures.some c.there_are_findings.ensures;
  one = one_status c.a_report_has_one_verdict.ensures.one c.findings_are_one_list.ensures;
}
