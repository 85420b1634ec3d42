use Rattle.std.proofs.Common.{◌≡◌, ◌∙◌, None, sym}
use Rattle.run_script.specs.Lines.{words_of}
use Rattle.run_script.specs.Steps.{line_of}
use Rattle.run_script.proofs.Commanded.{line-back, line-sound}
use Rattle.run_script.proofs.commands.read_node_command.Goals as goal

pub returns-in-Ok-clause-said : goal.returns-in-Ok-clause-said
returns-in-Ok-clause-said c = line-sound (words_of c.args.words.now) c.in-Ok.line c.in-Ok.ensures

pub returns-in-Ok-clause-each : goal.returns-in-Ok-clause-each
returns-in-Ok-clause-each c l h = sym c.in-Ok.ensures ∙ line-back l (words_of c.args.words.now) h

pub returns-in-Err-Bad-clause-each : goal.returns-in-Err-Bad-clause-each
returns-in-Err-Bad-clause-each c l h =
    let none : line_of (words_of c.args.words.now) ≡ None = rw c.in-Err-Bad.field-0-is at c.in-Err-Bad.ensures in
    sym none ∙ line-back l (words_of c.args.words.now) h
