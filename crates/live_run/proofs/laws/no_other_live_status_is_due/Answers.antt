use Rattle.run_script.specs.Lines.{lines_of}
use Rattle.live_run.proofs.Answered.{no_other}
use Rattle.live_run.proofs.laws.no_other_live_status_is_due.Goals as goal

pub returns : goal.returns
returns c what bytes size old new s due v = no_other what bytes size old new s (c.a_text_says_one_thing.ensures (lines_of bytes)) (c.findings_are_one_list.ensures old) v due
