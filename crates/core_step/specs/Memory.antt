-- Which turns take no memory.
use Rattle.std.specs.Prelude.{ℕ, Bool, true, false, List, not}
use Rattle.lock_db.specs.declared.resource.Resource.{Resource}
use Rattle.core_state.specs.Event.{Event}
use Rattle.core_state.specs.Event as event
use Rattle.core_state.specs.Events.{would_go}

-- Whether the turn in which node n makes this event takes none: one in which nothing happens, a write, one that lowers a lock by the
-- rules for space, an answer, that of an ask which is not granted too, and the one in which the node leaves.
abbrev pub takes_none : List Resource → ℕ → Event → Bool
takes_none t n event.Rest = true
takes_none t n event.Stand = true
takes_none t n event.Leave = true
takes_none t n (event.SpaceWrite w) = true
takes_none t n event.LowerV = true
takes_none t n event.LowerX = true
takes_none t n event.Return = true
takes_none t n (event.Write w) = true
takes_none t n (event.Ask x a) = not (would_go t n a)
takes_none t n (event.Answer x r) = true
takes_none t n other = false
