use Rattle.std.proofs.Common.{◌∙◌, refl}
use Rattle.std.specs.Prelude.{true}
use Rattle.plain_vol.specs.Makings.{marked}
use Rattle.plain_vol.proofs.Changing.{put_back}
use Rattle.plain_vol.proofs.naming.mark.Goals as goal

pub returns : goal.returns
returns c =
    c.set_slot.ensures
    ∙ put_back c.args.cat.now c.take_file.new.cat c.args.n c.take_file.result c.in-Some.file (record c.in-Some.file { marked = true }) marked c.take_file.ensures.file c.in-Some.is c.in-Some.ensures.taken
    refl
