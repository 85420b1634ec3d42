use Rattle.extent_cache.proofs.Membership.{holds-put_in}
use Rattle.extent_cache.proofs.laws.puts_are_exact.Goals as goal

pub returns : goal.returns
returns c = holds-put_in
