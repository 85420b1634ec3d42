-- What bodies that change the state in several steps make of it.
use Rattle.std.proofs.Common.{◌≡◌, ◌++◌, ℕ, false, List, [], ◌∷◌, Option, is_some, map, refl, if◌then◌else◌}
use Rattle.plain_cat.specs.declared.mode.Mode.{Mode}
use Rattle.lock_db.specs.declared.name.LockName.{LockName}
use Rattle.lock_db.specs.declared.name.Owner.{Owner}
use Rattle.dlm_core.specs.declared.messages.Letter.{Letter}
use Rattle.dlm_core.specs.declared.messages.Letter.TheVariants.{Ask}
use Rattle.dlm_core.specs.declared.messages.Message.{Message}
use Rattle.dlm_core.specs.declared.holds.Hold.{Hold}
use Rattle.dlm_core.specs.declared.events.Event.{Event}
use Rattle.dlm_core.specs.declared.events.Event.TheVariants as event
use Rattle.dlm_core.specs.Events.{played}
use Rattle.dlm_core.specs.Modes.{crosses, writes}
use Rattle.dlm_core.specs.States.{State, IsShaped, hold_at, asked_hold, noted, noted_block}
use Rattle.dlm_core.specs.Steps.{call_to, seen_after, called, ask_after}
use Rattle.dlm_core.specs.Deaths.{lowest, without_dead, rehomed, buried, with_claimed, without_mail, rehomed_to, bereft}
use Rattle.dlm_core.proofs.Shapes.{bereft_shape}

pub call-steps : (old : Option Mode) (h : Hold) (l : Letter) (fill : ℕ) (s a b d : State) (m : Message) → m ≡ call_to h.owner h.name old l fill s
    → a ≡ record s { blocks = if writes old m.letter then noted_block (record { node = m.owner.node; name = m.name; value = m.value; version = m.version }) s.blocks else s.blocks }
    → b ≡ record a { holds = noted (record h { seen = seen_after old h m }) a.holds } → d ≡ record b { mail = b.mail ++ m ∷ [] } → d ≡ called old h l fill s
call-steps old h l fill s a b d m em ea eb ed = rw (ed, eb, ea, em) refl

pub ask-steps : (h k : Hold) (mode : Mode) (fill : ℕ) (s t : State) → is_some h.wait ≡ false → crosses h.belief mode ≡ false → k ≡ asked_hold h mode → t ≡ called h.belief k (Ask mode) fill s → t ≡ ask_after h mode fill s
ask-steps h k mode fill s t ew ec ek et = rw (et, ek, ew, ec) refl

pub death-steps : (d : ℕ) (s v a b c e u : State) (living one two : List ℕ) → living ≡ without_dead d one → one ≡ v.living → v ≡ s → a ≡ buried d s → b ≡ with_claimed d a → c ≡ without_mail d b
    → e ≡ rehomed_to d two (map (rehomed d (lowest two)) c.homes) c → two ≡ living → u ≡ e → record u { living = living } ≡ bereft d s
death-steps d s v a b c e u living one two el eo ev ea eb ec ee et eu = rw (eu, ee, et, ec, eb, ea, el, eo, ev) refl

pub death-shape : (d : ℕ) (s t : State) → IsShaped s → t ≡ bereft d s → IsShaped t
death-shape d s t i e = rw e (bereft_shape d s i)

pub played-ask : (e : Event) (o : Owner) (x : LockName) (mode : Mode) (fill : ℕ) (h : Hold) (s v t : State) (hs : List Hold) → e ≡ event.Ask o x mode fill → h ≡ hold_at o x hs → hs ≡ v.holds → v ≡ s → t ≡ ask_after h mode fill s → t ≡ played e s
played-ask e o x mode fill h s v t hs ee eh ehs ev et = rw (et, ee, eh, ehs, ev) refl
