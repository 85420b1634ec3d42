use Rattle.std.proofs.Common.{refl, sym}
use Rattle.op_steps.specs.Names.{dir_seen}
use Rattle.op_delete.proofs.Told.{lock_told, header_told}
use Rattle.op_delete.proofs.naming.file_told.Goals as goal

pub returns-in-None-clause-told : goal.returns-in-None-clause-told
returns-in-None-clause-told c = λ o space follows.
    header_told c.args.g.now (dir_seen c.args.d.now) o space c.args.rest follows c.header_passed.result (sym c.in-None.ensures) c.header_passed.ensures.file c.header_passed.ensures.passed

pub returns-in-Some-2-clause-told : goal.returns-in-Some-2-clause-told
returns-in-Some-2-clause-told c = λ o space follows.
    lock_told c.args.g.now (dir_seen c.args.d.now) o space c.args.rest follows c.in-Some.n (record { locks = c.in-Some.field-0-1; blocks = c.args.rest.blocks }) c.header_passed-in-Some-2.result (sym c.in-Some.ensures) refl c.requires.lone
    c.header_passed-in-Some-2.ensures.passed
