use Rattle.std.proofs.Common.{◌∙◌, refl}
use Rattle.plain_vol.proofs.Changing.{put_back}
use Rattle.plain_vol.proofs.entering.put_entries.Goals as goal

pub returns : goal.returns
returns c =
    c.set_slot.ensures
    ∙ put_back c.args.cat.now c.take_file.new.cat c.args.n c.take_file.result c.in-Some.dir (record c.in-Some.dir { entries = c.args.entries }) (λ d. record d { entries = c.args.entries }) c.take_file.ensures.file c.in-Some.is c.in-Some.ensures.taken
    refl
