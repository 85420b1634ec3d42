use Rattle.std.proofs.Common.{◌∙◌, sym, ap}
use Rattle.std.specs.Option.{option_copied}
use Rattle.vol_rebuild.proofs.Doubling.{single_file, single_free}
use Rattle.vol_rebuild.proofs.doubles.pack.Goals as goal

pub returns-in_default-clause-single : goal.returns-in_default-clause-single
returns-in_default-clause-single g c =
    single_free c.args.g.now c.args.m.now.blocks c.args.cat.now c.requires.told c.args.n c.requires.number (sym c.file_at.ensures ∙ ap option_copied c.in_default.is)

pub returns-then-not-dir-clause-single : goal.returns-then-not-dir-clause-single
returns-then-not-dir-clause-single g c =
    single_file c.args.g.now c.args.m.now.blocks c.args.cat.now c.requires.told c.args.n c.in-Some.dir.now (sym c.file_at.ensures ∙ ap option_copied c.in-Some.is) c.if-not-dir.true
