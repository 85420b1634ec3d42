use Rattle.log_check.proofs.Speaking.{unsaid_reads, said_reads, given_speaks}
use Rattle.log_check.proofs.commands.read_command.Goals as goal

pub returns-in_default-clause-back : goal.returns-in_default-clause-back
returns-in_default-clause-back c = unsaid_reads c.args.words.now c.in_ok-line.field-0 c.in_ok-line.ensures.each c.in_default.is

pub returns-clause-form : goal.returns-clause-form
returns-clause-form c = given_speaks c.in-Some.line c.in_ok-given.given c.in_ok-given.ensures

pub returns-clause-back : goal.returns-clause-back
returns-clause-back c = said_reads c.args.words.now c.in_ok-line.field-0 c.in-Some.line c.in_ok-given.given c.in_ok-line.ensures.each c.in-Some.is c.in_ok-given.ensures
