use Rattle.std.proofs.Common.{◌∙◌, ap}
use Rattle.plain_cat.specs.declared.cat.Cat.{Cat}
use Rattle.plain_rules.specs.Changes.{with_file}
use Rattle.plain_vol.proofs.Changing.{placed_back}
use Rattle.plain_vol.proofs.making.place.Goals as goal

pub returns : goal.returns
returns c =
    c.set_slot-2.ensures
    ∙ ap (λ (d : Cat). with_file d c.args.dir c.enter_in.new.dir) c.set_slot.ensures
    ∙ placed_back c.args.cat.now c.take_file.new.cat c.args.dir c.take_file.result c.in-Some.directory c.enter_in.new.dir c.args.e c.args.file c.take_file.ensures.file c.in-Some.is
    c.in-Some.ensures.taken c.in_ok-enter_in.ensures.ok
