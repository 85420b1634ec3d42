use Rattle.run_script.specs.Lines.{lines_of}
use Rattle.live_run.proofs.Answered.{one_verdict}
use Rattle.live_run.proofs.laws.one_live_status_is_due.Goals as goal

pub returns : goal.returns
returns c what bytes size bs =
    let have = c.there_are_findings.ensures bs in
    one_verdict what bytes size bs have.findings (c.a_text_says_one_thing.ensures (lines_of bytes)) (c.findings_are_one_list.ensures bs) have.are
