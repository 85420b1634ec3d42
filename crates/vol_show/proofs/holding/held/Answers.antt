use Rattle.std.proofs.Common.{◌∙◌, sym}
use Rattle.vol_show.proofs.Runs.{shown_runs}
use Rattle.vol_show.proofs.holding.held.Goals as goal

pub stream_of-requires-clause-runs : goal.stream_of-requires-clause-runs
stream_of-requires-clause-runs c number =
    shown_runs c.args.blocks.now c.args.cat.now c.in-Ok.home c.args.fid c.in-Ok.ensures.value c.requires.shown (sym c.is_plain.ensures ∙ c.if-not-is_plain.false) number
