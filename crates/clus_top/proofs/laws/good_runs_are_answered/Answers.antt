use Rattle.run_script.specs.Lines.{lines_of}
use Rattle.clus_top.proofs.OneVerdict.{answered}
use Rattle.clus_top.proofs.laws.good_runs_are_answered.Goals as goal

pub returns : goal.returns
returns c wanted bytes size bs s good inside none v h =
    answered wanted bytes size bs s (c.a_text_says_one_thing.ensures (lines_of bytes)) (c.findings_are_one_list.ensures bs) good inside none v h
