use Rattle.std.proofs.Common.{arith}
use Rattle.plain_laws.proofs.FitReplays.{answer_fits, lead_fits, replay_fits}
use Rattle.plain_laws.proofs.fitting.free_clusters_fit.Goals as goal

pub returns : goal.returns
returns _ = record { free = λ x h. omega (arith, h); answers = λ c node x r d. answer_fits c d node x r; entries = lead_fits; replays = replay_fits }
