use Rattle.std.proofs.Common.{◌∙◌}
use Rattle.plain_rules.specs.Changes.{written}
use Rattle.plain_vol.proofs.Changing.{put_back}
use Rattle.plain_vol.proofs.channels.rewrite.Goals as goal

pub returns : goal.returns
returns c =
    c.set_slot.ensures
    ∙ put_back c.args.cat.now c.take_file.new.cat c.args.n c.take_file.result c.in-Some.file c.write_in.new.file (λ f. written f c.args.vbn c.args.text.now) c.take_file.ensures.file c.in-Some.is c.in-Some.ensures.taken
    c.in_ok-write_in.ensures
