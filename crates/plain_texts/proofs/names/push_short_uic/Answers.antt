use Rattle.std.proofs.Common.{◌/◌, ◌%◌}
use Rattle.plain_texts.proofs.Octal.{octal-digit}
use Rattle.plain_texts.proofs.names.push_short_uic.Goals as goal

pub returns : goal.returns
returns c =
    rw (octal-digit (c.args.owner.0 / 65536) c.requires.group, octal-digit (c.args.owner.0 % 65536) c.requires.member) c.push_bytes.ensures.ok
