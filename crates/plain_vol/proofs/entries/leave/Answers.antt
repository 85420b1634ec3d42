use Rattle.std.proofs.Common.{◌∙◌}
use Rattle.plain_rules.specs.Directories.{without}
use Rattle.plain_vol.proofs.Changing.{put_back}
use Rattle.plain_vol.proofs.entries.leave.Goals as goal

pub returns : goal.returns
returns c =
    c.set_slot.ensures
    ∙ put_back c.args.cat.now c.take_file.new.cat c.args.n c.take_file.result c.in-Some.dir c.leave_in.new.dir (λ d. record d { entries = without c.args.name.now c.args.ver d.entries }) c.take_file.ensures.file c.in-Some.is c.in-Some.ensures.taken
    c.leave_in.ensures
