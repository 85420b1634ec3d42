-- What each answer says of an event: why it was refused, and that nothing has changed then, or what it has done.
use Rattle.std.specs.Prelude.{◌≡◌, ◌++◌, ℕ, Bool, true, false, List, [], ◌∷◌, Option, Some, None, find, if◌then◌else◌, is_some, replicate, IsTrue}
use Rattle.plain_cat.specs.declared.mode.Mode.{Mode}
use Rattle.lock_db.specs.declared.name.LockName.{LockName}
use Rattle.lock_db.specs.declared.name.Owner.{Owner}
use Rattle.dlm_core.specs.declared.messages.Letter.{Letter}
use Rattle.dlm_core.specs.declared.messages.Letter.TheVariants.{Ask, Drop}
use Rattle.dlm_core.specs.declared.messages.Message.{Message}
use Rattle.dlm_core.specs.declared.holds.Hold.{Hold}
use Rattle.dlm_core.specs.declared.blocks.Block.{Block}
use Rattle.dlm_core.specs.declared.blocks.Seen.{Seen}
use Rattle.dlm_core.specs.declared.events.Event.{Event}
use Rattle.dlm_core.specs.declared.events.Event.TheVariants as event
use Rattle.dlm_core.specs.declared.events.Told.{Told}
use Rattle.dlm_core.specs.declared.events.Told.TheVariants as told
use Rattle.dlm_core.specs.Modes.{lowers, crosses, writes}
use Rattle.dlm_core.specs.States.{State, master, lives, is_between, is_at, hold_at, is_block_of, block_at}
use Rattle.dlm_core.specs.Steps.{next_version, last_version}
use Rattle.dlm_core.specs.Events.{names_living, told_of, after}

-- Of this owner and this name this is noted now. Of all others stands what stood before.
pub record Notes (before now : List Hold) (h : Hold) : Type 0 where
  pub here : hold_at h.owner h.name now ≡ h
  pub others : (owner : Owner) (name : LockName) → is_at owner name h ≡ false → hold_at owner name now ≡ hold_at owner name before

-- likewise of the value block that a node has of a name
pub record NotesBlock (before now : List Block) (b : Block) : Type 0 where
  pub here : block_at b.node b.name now ≡ b
  pub others : (node : ℕ) (name : LockName) → is_block_of node name b ≡ false → block_at node name now ≡ block_at node name before

-- A call that writes the value block carries one version more than its owner, or by the rule of all its node, has read or written. The
-- node notes what it writes, and so does the owner. Any other carries version 0, and notes nothing.
abbrev pub Wrote : Bool → Owner → LockName → ℕ → State → State → ℕ → Seen → Type 0
Wrote true owner name fill s next version seen =
    (version ≡ next_version (last_version s.rule owner name s))
    × NotesBlock s.blocks next.blocks (record { node = owner.node; name = name; value = replicate 16 fill; version = version })
    × (seen ≡ record { value = replicate 16 fill; valid = true; version = version })
Wrote false owner name fill s next version seen = (version ≡ 0) × (next.blocks ≡ s.blocks) × (seen ≡ (hold_at owner name s.holds).seen)

-- An owner that believes the old lock calls the master of a name. This one message is put behind all others: from its node to the
-- master, with these words and these bytes. Its node notes the new belief and the wait. All else stays.
pub record IsCalled (s next : State) (owner : Owner) (name : LockName) (old : Option Mode) (letter : Letter) (fill : ℕ) (belief wait : Option Mode) : Type 0 where
  pub version : ℕ
  pub seen : Seen
  pub sends : next.mail ≡ s.mail ++ (record { from = owner.node; to = master name s; owner = owner; name = name; letter = letter; value = replicate 16 fill; version = version } ∷ [])
  pub notes : Notes s.holds next.holds (record { owner = owner; name = name; belief = belief; wait = wait; seen = seen })
  pub wrote : Wrote (writes old letter) owner name fill s next version seen
  pub stays : next ≡ record s { mail = next.mail; holds = next.holds; blocks = next.blocks }

-- a lowering is believed at once, and anything else is waited for
abbrev pub believed : Option Mode → Mode → Option Mode
believed old mode = if lowers old mode then Some mode else old

abbrev pub waited : Option Mode → Mode → Option Mode
waited old mode = if lowers old mode then None else Some mode

-- An ask of an owner that believes and waits for this. It is sent, or its owner waits, or goes between CW and PR, or does not live.
abbrev pub AskIsAnswered : Owner → LockName → Option Mode → Option Mode → Mode → ℕ → State → State → Told → Type 0
AskIsAnswered owner name belief wait mode fill s next told.Done =
    (wait ≡ None) × IsCalled s next owner name belief (Ask mode) fill (believed belief mode) (waited belief mode)
AskIsAnswered owner name belief wait mode fill s next told.Busy = IsTrue (is_some wait) × (next ≡ s)
AskIsAnswered owner name belief wait mode fill s next told.BadConvert = IsTrue (crosses belief mode) × (next ≡ s)
AskIsAnswered owner name belief wait mode fill s next told.Dead = (lives owner.node s ≡ false) × (next ≡ s)
AskIsAnswered owner name belief wait mode fill s next t = ⊥

-- A drop of such an owner. It is sent, or its owner waits, or has no lock, or does not live.
abbrev pub DropIsAnswered : Owner → LockName → Option Mode → Option Mode → ℕ → State → State → Told → Type 0
DropIsAnswered owner name belief wait fill s next told.Done = (wait ≡ None) × IsCalled s next owner name belief Drop fill None None
DropIsAnswered owner name belief wait fill s next told.Busy = IsTrue (is_some wait) × (next ≡ s)
DropIsAnswered owner name belief wait fill s next told.NotHeld = (belief ≡ None) × (next ≡ s)
DropIsAnswered owner name belief wait fill s next told.Dead = (lives owner.node s ≡ false) × (next ≡ s)
DropIsAnswered owner name belief wait fill s next t = ⊥

-- A delivery finds no message, or a node does not live.
abbrev pub PassIsAnswered : ℕ → ℕ → State → State → Told → Type 0
PassIsAnswered from to s next told.Nothing = (find (is_between from to) s.mail ≡ None) × (next ≡ s)
PassIsAnswered from to s next told.Dead = (names_living (event.Pass from to) s ≡ false) × (next ≡ s)
PassIsAnswered from to s next told.Busy = ⊥
PassIsAnswered from to s next told.NotHeld = ⊥
PassIsAnswered from to s next told.BadConvert = ⊥
PassIsAnswered from to s next t = (m : Message) × (find (is_between from to) s.mail ≡ Some m)

-- A death is a death, or the node does not live any more.
abbrev pub KillIsAnswered : ℕ → State → State → Told → Type 0
KillIsAnswered node s next told.Done = lives node s ≡ true
KillIsAnswered node s next told.Dead = (lives node s ≡ false) × (next ≡ s)
KillIsAnswered node s next t = ⊥

abbrev pub IsAnswered : Event → State → State → Told → Type 0
IsAnswered (event.Ask owner name mode fill) s next t = AskIsAnswered owner name (hold_at owner name s.holds).belief (hold_at owner name s.holds).wait mode fill s next t
IsAnswered (event.Drop owner name fill) s next t = DropIsAnswered owner name (hold_at owner name s.holds).belief (hold_at owner name s.holds).wait fill s next t
IsAnswered (event.Pass from to) s next t = PassIsAnswered from to s next t
IsAnswered (event.Kill node) s next t = KillIsAnswered node s next t

-- so it is of each event in every state
abbrev pub AnswersAreTrue : Type 0
AnswersAreTrue = (s : State) (e : Event) → IsAnswered e s (after e s) (told_of e s)
