use Rattle.std.proofs.Common.{◌∙◌, ap}
use Rattle.plain_cat.specs.declared.cat.Cat.{Cat}
use Rattle.plain_rules.specs.Changes.{cut}
use Rattle.plain_vol.proofs.Changing.{put_back}
use Rattle.plain_vol.proofs.sizing.cut.Goals as goal

pub returns : goal.returns
returns c =
    c.set_slot.ensures
    ∙ put_back c.args.cat.now c.take_file.new.cat c.args.n c.take_file.result c.in-Some.file c.cut_in.new.file (λ f. cut c.args.cat.now f c.args.k) c.take_file.ensures.file c.in-Some.is c.in-Some.ensures.taken
    (c.cut_in.ensures ∙ ap (λ (d : Cat). cut d c.in-Some.file c.args.k) c.in-Some.ensures.taken)
