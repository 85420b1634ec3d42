use Rattle.run_script.specs.Lines.{lines_of}
use Rattle.clus_top.proofs.OneVerdict.{one_verdict}
use Rattle.clus_top.proofs.laws.one_status_is_due.Goals as goal

pub returns : goal.returns
returns c wanted bytes size bs count whole =
    one_verdict wanted bytes size bs (c.a_text_says_one_thing.ensures (lines_of bytes)) c.findings_are_one_list.ensures c.there_are_findings.ensures c.faults_are_first.ensures c.first_beyond_is_there.ensures c.first_beyond_is_one.ensures.one (record { one = c.room_is_lacking_where_mending_gives_up.ensures.one; exact = c.room_is_lacking_where_mending_gives_up.ensures.exact }) count whole
