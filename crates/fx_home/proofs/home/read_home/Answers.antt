use Rattle.fx_home.proofs.Reading.{home_in-within}
use Rattle.fx_home.proofs.home.read_home.Goals as goal

pub returns-else-not-has_layout-clause-within : goal.returns-else-not-has_layout-clause-within
returns-else-not-has_layout-clause-within c =
    rw c.home_in.ensures (home_in-within c.args.b.now (cc) (cc))
