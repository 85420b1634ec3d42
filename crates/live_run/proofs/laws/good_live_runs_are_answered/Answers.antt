use Rattle.run_script.specs.Lines.{lines_of}
use Rattle.live_run.proofs.Answered.{answered}
use Rattle.live_run.proofs.laws.good_live_runs_are_answered.Goals as goal

pub returns : goal.returns
returns c what bytes size bs new s good inside none v h =
    answered what bytes size bs new s (c.a_text_says_one_thing.ensures (lines_of bytes)) (c.findings_are_one_list.ensures bs) good inside none v h
