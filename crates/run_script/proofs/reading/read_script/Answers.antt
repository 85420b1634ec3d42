use Rattle.std.proofs.lemmas.Result.{IfOk-weaker}
use Rattle.plain_cat.specs.InForm.{InForm}
use Rattle.run_script.specs.Lines.{lines_of}
use Rattle.run_script.specs.Spelling.{SpellsScript}
use Rattle.run_script.proofs.Spelt.{spelt_from, bad_from, over_from, each_script, each_bad_line, each_excess}
use Rattle.run_script.proofs.Formed.{spelt_in_form}
use Rattle.run_script.proofs.reading.read_script.Goals as goal

pub returns-clause-spelt : goal.returns-clause-spelt
returns-clause-spelt c = spelt_from (lines_of c.args.bytes.now) c.read_lines.result c.read_lines.ensures

pub returns-clause-form : goal.returns-clause-form
returns-clause-form c =
    IfOk-weaker c.read_lines.result (SpellsScript (lines_of c.args.bytes.now)) InForm (λ s h. spelt_in_form (lines_of c.args.bytes.now) s h)
    (spelt_from (lines_of c.args.bytes.now) c.read_lines.result c.read_lines.ensures)

pub returns-clause-bad : goal.returns-clause-bad
returns-clause-bad c n e = bad_from (lines_of c.args.bytes.now) c.read_lines.result n c.read_lines.ensures e

pub returns-clause-over : goal.returns-clause-over
returns-clause-over c e = over_from (lines_of c.args.bytes.now) c.read_lines.result c.read_lines.ensures e

pub returns-clause-each_script : goal.returns-clause-each_script
returns-clause-each_script c s h = each_script (lines_of c.args.bytes.now) c.read_lines.result s c.read_lines.ensures h

pub returns-clause-each_bad : goal.returns-clause-each_bad
returns-clause-each_bad c n h = each_bad_line (lines_of c.args.bytes.now) c.read_lines.result n c.read_lines.ensures h

pub returns-clause-each_over : goal.returns-clause-each_over
returns-clause-each_over c h = each_excess (lines_of c.args.bytes.now) c.read_lines.result c.read_lines.ensures h
