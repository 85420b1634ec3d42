-- What each event makes of the state, and what it answers.
use Rattle.std.specs.Prelude.{◌==◌, ◌&&◌, not, ℕ, Bool, [], ◌∷◌, ◌++◌, Option, Some, None, filter, find, if◌then◌else◌, is_some}
use Rattle.dlm_core.specs.declared.messages.Letter.{Letter}
use Rattle.dlm_core.specs.declared.messages.Letter.TheVariants.{Ask, Drop, Grant, Claim}
use Rattle.dlm_core.specs.declared.messages.Message.{Message}
use Rattle.dlm_core.specs.declared.homes.Awaited.{Awaited}
use Rattle.dlm_core.specs.declared.events.Event.{Event}
use Rattle.dlm_core.specs.declared.events.Event.TheVariants as event
use Rattle.dlm_core.specs.declared.events.Told.{Told}
use Rattle.dlm_core.specs.declared.events.Told.TheVariants as told
use Rattle.dlm_core.specs.States.{State, is_between, past_first, hold_at, lives, recovery}
use Rattle.dlm_core.specs.Steps.{ask_told, ask_after, drop_told, drop_after, taken, granted}
use Rattle.dlm_core.specs.Deaths.{with_ended, killed}

-- an ask or a drop arrives at its master, which keeps it back while the name is being recovered
abbrev pub arrived : Message → State → State
arrived m s = if is_some (recovery m.name s) then record s { kept = s.kept ++ (m ∷ []) } else taken m s

-- a claim arrives
abbrev pub is_claimed : ℕ → ℕ → Awaited → Bool
is_claimed dead node w = (w.dead == dead) && (w.node == node)

abbrev pub claimed : Message → ℕ → State → State
claimed m dead s = with_ended (record s { awaited = filter (λ w. not (is_claimed dead m.from w)) s.awaited })

-- a message arrives
abbrev pub received : Message → Letter → State → State
received m (Ask mode) s = arrived m s
received m Drop s = arrived m s
received m (Grant mode valid) s = granted m mode valid s
received m (Claim dead) s = claimed m dead s

abbrev pub received_told : Message → Letter → Told
received_told m (Ask mode) = told.Done
received_told m Drop = told.Done
received_told m (Grant mode valid) = told.Granted m.owner m.name mode m.value valid
received_told m (Claim dead) = told.Done

-- the first message of a pair is delivered
abbrev pub pass_told : Option Message → Told
pass_told None = told.Nothing
pass_told (Some m) = received_told m m.letter

abbrev pub pass_after : ℕ → ℕ → Option Message → State → State
pass_after from to None s = s
pass_after from to (Some m) s = received m m.letter (record s { mail = past_first (is_between from to) s.mail })

-- an event names only nodes that live
abbrev pub names_living : Event → State → Bool
names_living (event.Ask owner name mode fill) s = lives owner.node s
names_living (event.Drop owner name fill) s = lives owner.node s
names_living (event.Pass from to) s = lives from s && lives to s
names_living (event.Kill node) s = lives node s

-- what such an event answers
abbrev pub answer_of : Event → State → Told
answer_of (event.Ask owner name mode fill) s = ask_told (hold_at owner name s.holds) mode
answer_of (event.Drop owner name fill) s = drop_told (hold_at owner name s.holds)
answer_of (event.Pass from to) s = pass_told (find (is_between from to) s.mail)
answer_of (event.Kill node) s = told.Done

-- the state after it
abbrev pub played : Event → State → State
played (event.Ask owner name mode fill) s = ask_after (hold_at owner name s.holds) mode fill s
played (event.Drop owner name fill) s = drop_after (hold_at owner name s.holds) fill s
played (event.Pass from to) s = pass_after from to (find (is_between from to) s.mail) s
played (event.Kill node) s = killed node s

-- what an event answers
abbrev pub told_of : Event → State → Told
told_of e s = if names_living e s then answer_of e s else told.Dead

-- the state after it
abbrev pub after : Event → State → State
after e s = if names_living e s then played e s else s
