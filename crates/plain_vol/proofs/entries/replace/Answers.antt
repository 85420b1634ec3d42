use Rattle.std.proofs.Common.{◌∙◌, ap}
use Rattle.plain_cat.specs.declared.cat.File.{File}
use Rattle.plain_rules.specs.Directories.{without, inserted}
use Rattle.plain_vol.proofs.Changing.{put_back}
use Rattle.plain_vol.proofs.entries.replace.Goals as goal

pub returns : goal.returns
returns c =
    c.set_slot.ensures
    ∙ put_back c.args.cat.now c.take_file.new.cat c.args.n c.take_file.result c.in-Some.dir c.enter_in.new.dir (λ d. record d { entries = inserted c.args.e (without c.args.name.now c.args.ver d.entries) }) c.take_file.ensures.file c.in-Some.is c.in-Some.ensures.taken
    (c.in_ok-enter_in.ensures.ok ∙ ap (λ (d : File). record d { entries = inserted c.args.e d.entries }) c.leave_in.ensures)
