use Rattle.std.proofs.Common.{◌∙◌, ap}
use Rattle.plain_cat.specs.declared.cat.Cat.{Cat}
use Rattle.plain_rules.specs.Changes.{grown}
use Rattle.plain_vol.proofs.Changing.{put_back}
use Rattle.plain_vol.proofs.sizing.grow.Goals as goal

pub returns : goal.returns
returns c =
    c.set_slot.ensures
    ∙ put_back c.args.cat.now c.take_file.new.cat c.args.n c.take_file.result c.in-Some.file c.grow_in.new.file (λ f. grown c.args.cat.now f c.args.k) c.take_file.ensures.file c.in-Some.is c.in-Some.ensures.taken
    (c.grow_in.ensures ∙ ap (λ (d : Cat). grown d c.in-Some.file c.args.k) c.in-Some.ensures.taken)
