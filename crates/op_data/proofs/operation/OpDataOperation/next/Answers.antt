use Rattle.std.proofs.Common.{rules}
use Rattle.op_data.proofs.FitsFile.{fits_inside, read_followed, write_followed}
use Rattle.op_data.proofs.operation.OpDataOperation.next.Goals as goal

pub read_next-requires-clause-inside : goal.read_next-requires-clause-inside
read_next-requires-clause-inside c = fits_inside c.args.self.now c.args.seen.now (search rules) c.requires

pub read_next-requires-clause-followed : goal.read_next-requires-clause-followed
read_next-requires-clause-followed c = read_followed c.args.self.now c.in-ReadBlock.chan c.in-ReadBlock.vbn c.args.seen.now (search rules) c.requires

pub write_next-requires-clause-inside : goal.write_next-requires-clause-inside
write_next-requires-clause-inside c = fits_inside c.args.self.now c.args.seen.now (search rules) c.requires

pub write_next-requires-clause-followed : goal.write_next-requires-clause-followed
write_next-requires-clause-followed c = write_followed c.args.self.now c.in-WriteBlock.chan c.in-WriteBlock.vbn c.in-WriteBlock.text c.args.seen.now (search rules) c.requires
