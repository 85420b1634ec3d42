use Rattle.core_state.proofs.laws.cached_blocks_are_under_locks.Goals as goal

pub returns : goal.returns
returns _ = λ w n s e good at has. (good.running.cached n s e at has).held
