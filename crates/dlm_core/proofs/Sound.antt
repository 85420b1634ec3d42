-- Each event leaves a sound state sound.
use Rattle.std.proofs.Common.{◌≡◌, ◌++◌, ◌∷◌, [], ℕ, true, false, List, Option, Some, None, is_some, find, filter, not, refl, ap, if◌then◌else◌}
use Rattle.lock_db.specs.declared.name.LockName.{LockName}
use Rattle.lock_db.specs.declared.name.Owner.{Owner}
use Rattle.dlm_core.specs.declared.messages.Letter.{Letter}
use Rattle.dlm_core.specs.declared.messages.Letter.TheVariants.{Ask, Drop, Grant, Claim}
use Rattle.dlm_core.specs.declared.messages.Message.{Message}
use Rattle.dlm_core.specs.declared.homes.Awaited.{Awaited}
use Rattle.dlm_core.specs.declared.events.Event.{Event}
use Rattle.dlm_core.specs.declared.events.Event.TheVariants as event
use Rattle.dlm_core.specs.States.{State, IsShaped, recovery, is_between, past_first, hold_at}
use Rattle.dlm_core.specs.Steps.{is_call, taken}
use Rattle.dlm_core.specs.Events.{arrived, is_claimed, received, pass_after, names_living, played, after}
use Rattle.dlm_core.specs.Lanes.{LaneOf, IsSound}
use Rattle.dlm_core.proofs.Sending.{ask-sound, drop-sound}
use Rattle.dlm_core.proofs.Passing.{taken-sound, grant-sound, claim-sound, keep-sound}
use Rattle.dlm_core.proofs.Dying.{killed-sound, with-ended-sound}
use Rattle.dlm_core.proofs.ByCalls.{none-some}

arrived-sound : (s : State) (from to : ℕ) (m : Message) → IsSound s → find (is_between from to) s.mail ≡ Some m → is_call m.letter ≡ true → IsSound (arrived m (record s { mail = past_first (is_between from to) s.mail }))
arrived-sound s from to m i f c =
    (elim (is_some (recovery m.name s)) as (λ b. is_some (recovery m.name s) ≡ b
    → IsSound (if b then record s { mail = past_first (is_between from to) s.mail; kept = s.kept ++ (m ∷ []) } else taken m (record s { mail = past_first (is_between from to) s.mail }))) [
      | true ↦ λ e. keep-sound s from to m i f c e
      | false ↦ λ e. taken-sound s from to m i f c (none-some (recovery m.name s) e)
    ]) refl

-- who is awaited is no matter of a lane
pub lane-awaited : (r : Option ℕ) (o : Owner) (x : LockName) (s : State) (ws : List Awaited) → LaneOf r o x s → LaneOf r o x (record s { awaited = ws })
lane-awaited None o x s ws l = l
lane-awaited (Some d) o x s ws l = l

pub awaited-sound : (s : State) (ws : List Awaited) → IsSound s → IsSound (record s { awaited = ws })
awaited-sound s ws i = record {
  some_node = i.some_node;
  each_has_one = i.each_has_one;
  each_has_master = i.each_has_master;
  tables_are = i.tables_are;
  lost = i.lost;
  addressed = i.addressed;
  kept_back = i.kept_back;
  once = i.once;
  claimed_once = i.claimed_once;
  claimed_together = i.claimed_together;
  lanes = λ o x. lane-awaited (recovery x s) o x s ws (i.lanes o x);
}

received-sound : (s : State) (from to : ℕ) (m : Message) (l : Letter) → IsSound s → find (is_between from to) s.mail ≡ Some m → m.letter ≡ l → IsSound (received m l (record s { mail = past_first (is_between from to) s.mail }))
received-sound s from to m (Ask w) i f e = arrived-sound s from to m i f (ap is_call e)
received-sound s from to m Drop i f e = arrived-sound s from to m i f (ap is_call e)
received-sound s from to m (Grant w v) i f e = grant-sound s from to m w v i f e
received-sound s from to m (Claim d) i f e =
    let t : State = record s { mail = past_first (is_between from to) s.mail } in
    let ws : List Awaited = filter (λ w. not (is_claimed d m.from w)) s.awaited in
    with-ended-sound (record t { awaited = ws }) (awaited-sound t ws (claim-sound s from to m d i f e))

pass-sound : (s : State) (from to : ℕ) → IsSound s → IsSound (pass_after from to (find (is_between from to) s.mail) s)
pass-sound s from to i =
    (elim (find (is_between from to) s.mail) as (λ o. find (is_between from to) s.mail ≡ o → IsSound (pass_after from to o s))
    [ None ↦ λ e. i | Some m ↦ λ e. received-sound s from to m m.letter i e refl ]) refl

played-sound : (e : Event) (s : State) → IsSound s → IsSound (played e s)
played-sound (event.Ask owner name mode fill) s i = ask-sound s owner name mode fill (hold_at owner name s.holds) i refl
played-sound (event.Drop owner name fill) s i = drop-sound s owner name fill (hold_at owner name s.holds) i refl
played-sound (event.Pass from to) s i = pass-sound s from to i
played-sound (event.Kill node) s i = killed-sound node s i

pub after-sound : (e : Event) (s : State) → IsSound s → IsSound (after e s)
after-sound e s i = (elim (names_living e s) as (λ b. IsSound (if b then played e s else s)) [ true ↦ played-sound e s i | false ↦ i ])

pub sound-shape : (s : State) → IsSound s → IsShaped s
sound-shape s i = record { some_node = i.some_node; each_has_one = i.each_has_one; each_has_master = i.each_has_master }
