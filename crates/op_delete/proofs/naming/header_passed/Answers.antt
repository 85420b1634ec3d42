use Rattle.std.proofs.Common.{rules, refl, arith}
use Rattle.op_steps.proofs.LoneFiles.{lone_readable}
use Rattle.op_delete.proofs.Told.{first_is, first_inside, first_followed}
use Rattle.op_delete.proofs.naming.header_passed.Goals as goal

pub returns-clause-file : goal.returns-clause-file
returns-clause-file c =
    let one = c.in-len1-up.len_at_least in
    let head = first_is c.args.rest.blocks.now (omega arith) in
    let inside = first_inside c.args.rest.blocks.now _ _ head c.requires.inside in
    let followed = first_followed c.args.volume.now c.args.rest.blocks.now _ _ head c.requires.followed in
    record {
      number = refl;
      head = head;
      begun = record {
        number = c.requires.number;
        alone = refl;
        readable = lone_readable _ refl (search rules) inside;
        inside = inside;
        headers = followed _ (search rules);
      };
    }
