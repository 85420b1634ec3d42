use Rattle.std.proofs.Common.{◌∙◌}
use Rattle.fx_dir.proofs.Rising.{neighbours}
use Rattle.fx_dir.proofs.entries.rises.Goals as goal

pub returns : goal.returns
returns c = c.each_before_next.ensures ∙ neighbours c.args.es.now
