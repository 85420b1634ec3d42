-- What holds of the events of a command that makes a file where it holds at their ends: it searches for space once, a refusal
-- writes nothing, and nothing is asked.
use Rattle.std.proofs.Common.{ℕ, true, List, Option, Some, None, refl, sym, subst}
use Rattle.base_words.specs.Fields.{Block}
use Rattle.lock_db.specs.declared.name.LockName.{LockName}
use Rattle.lock_db.specs.declared.name.LockName.TheVariants.{Q}
use Rattle.plain_cat.specs.declared.mode.Mode.{Mode}
use Rattle.plain_cat.specs.declared.mode.Mode.TheVariants.{PW}
use Rattle.plain_cat.specs.declared.command.Cmd.{Cmd}
use Rattle.plain_cat.specs.declared.reply.Refusal.{Refusal}
use Rattle.plain_cat.specs.declared.reply.Refusal.TheVariants as refusal
use Rattle.plain_rules.specs.Answers.{first_refusal}
use Rattle.vol_parts.specs.declared.geometry.Geometry.{Geometry}
use Rattle.vol_spell.specs.Reading.{quota_places}
use Rattle.op_law.specs.declared.seen.Chan.{Chan}
use Rattle.op_law.specs.Events.{Events, Take, Look, Find, HasNoSearch, SearchesOnce}
use Rattle.op_law.specs.Rows.{refuses}
use Rattle.op_law.specs.Refusing.{unless_refused, if_space}
use Rattle.op_law.specs.Quotas.{rows_seen}
use Rattle.op_law.specs.Moving.{SeenDir, entries_of}
use Rattle.op_law.specs.Entering.{NewEntry, quota_refusals, into_slot, making_events}
use Rattle.op_law.specs.Needs.{events_of}
use Rattle.op_law.proofs.Walking.{EveryPlan}
use Rattle.op_law.proofs.Through.{all_so, directory_so}
use Rattle.op_law.proofs.Doing.{IsShaped}
use Rattle.op_create.specs.Kinds.{IsMake}
use Rattle.op_create.proofs.Makers.{Maker, to_make, maker_events, maker, events_are}

-- R is what holds behind the search for so many clusters, by what it gave
module _ (T : Events → Type 0) (R : ℕ → List ℕ → Option ℕ → Option Refusal → Events → Type 0)
    (take : (name : LockName) (mode : Mode) (next : Events) → T next → T (Take name mode next))
    (look : (name : LockName) (lbn : ℕ) (next : Block → Events) → ((b : Block) → T (next b)) → T (Look name lbn next))
    (find : (clusters : ℕ) (next : List ℕ → Option ℕ → Option Refusal → Events) → ((cs : List ℕ) (n : Option ℕ) (short : Option Refusal) → R clusters cs n short (next cs n short)) → T (Find clusters true next))
    (refused : (r : Refusal) → T (refuses r))
    (short_of : (clusters : ℕ) (cs : List ℕ) (n : Option ℕ) (r : Refusal) → R clusters cs n (Some r) (refuses r))
    (without : (clusters : ℕ) (cs : List ℕ) → R clusters cs None None (refuses refusal.IndexFull))
    (into : (clusters : ℕ) (g : Geometry) (d : SeenDir) (quota : List Block) (e : NewEntry) (cs : List ℕ) (n : ℕ) → R clusters cs (Some n) None (into_slot g d quota e cs n)) where
  making_so : (g : Geometry) (d : SeenDir) (e : NewEntry) → T (making_events g d e)
  making_so g d e = take Q PW _ (all_so T take look Q (quota_places g) _ (λ quota. by_refusal quota (first_refusal (quota_refusals g e (rows_seen quota))))) where
    by_space : (quota : List Block) (cs : List ℕ) (n : Option ℕ) (short : Option Refusal) → R e.file.clusters cs n short (if_space (into_slot g d quota e) cs n short)
    by_space quota cs n (Some r) = short_of e.file.clusters cs n r
    by_space quota cs None None = without e.file.clusters cs
    by_space quota cs (Some n) None = into e.file.clusters g d quota e cs n

    by_refusal : (quota : List Block) (o : Option Refusal) → T (unless_refused o (Find e.file.clusters true (if_space (into_slot g d quota e))))
    by_refusal quota None = find e.file.clusters (if_space (into_slot g d quota e)) (by_space quota)
    by_refusal quota (Some r) = refused r

  names_so : (g : Geometry) (m : Maker) → T (maker_events g m)
  names_so g m = directory_so T take look g m.dir PW _ (refused refusal.NoSuchFile) (refused refusal.NotDir)
      (λ h bs. let d : SeenDir = record { fid = m.dir; head = h; blocks = bs } in by_refusal d (first_refusal (m.refusals (entries_of d)))) where
        by_refusal : (d : SeenDir) (o : Option Refusal) → T (unless_refused o (making_events g d (to_make m (entries_of d))))
        by_refusal d None = making_so g d (to_make m (entries_of d))
        by_refusal d (Some r) = refused r

  pub makes_so : (x : Cmd) → IsMake x → (g : Geometry) (channel : Option Chan) → T (events_of g channel x)
  makes_so x is g channel = subst T (sym (events_are x is g channel)) (names_so g (maker g x is))

-- space is searched for at most once
pub makes_once : (x : Cmd) → IsMake x → (g : Geometry) (channel : Option Chan) → SearchesOnce (events_of g channel x)
makes_once x is g channel = makes_so SearchesOnce (λ clusters cs n short. HasNoSearch) (λ name mode next h. h) (λ name lbn next h. h) (λ clusters next h. h) (λ r. tt) (λ clusters cs n r. tt) (λ clusters cs. tt)
    (λ clusters g d quota e cs n b. tt) x is g channel

-- a plan asks for nothing, and where it is refused it writes nothing
pub makes_shaped : (x : Cmd) → IsMake x → (g : Geometry) (channel : Option Chan) → EveryPlan IsShaped (events_of g channel x)
makes_shaped x is g channel = makes_so (EveryPlan IsShaped) (λ clusters cs n short. EveryPlan IsShaped) (λ name mode next h. h) (λ name lbn next h. h) (λ clusters next h. h)
    (λ r. record { ask = refl; refused = (refl, refl) }) (λ clusters cs n r. record { ask = refl; refused = (refl, refl) }) (λ clusters cs. record { ask = refl; refused = (refl, refl) })
    (λ clusters g d quota e cs n b. record { ask = refl; refused = tt }) x is g channel
