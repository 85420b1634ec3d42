-- What holds of the events of EXTEND where it holds at their ends: it searches for space once, a refusal writes nothing, and nothing
-- is asked.
use Rattle.std.proofs.Common.{ℕ, Bool, List, Option, Some, None, refl}
use Rattle.std.specs.Prelude.{option_map}
use Rattle.base_words.specs.Fields.{Block}
use Rattle.fx_header.specs.declared.slot.Hdr.{Hdr}
use Rattle.lock_db.specs.declared.name.LockName.{LockName}
use Rattle.lock_db.specs.declared.name.LockName.TheVariants.{Q}
use Rattle.plain_cat.specs.declared.ids.Fid.{Fid}
use Rattle.plain_cat.specs.declared.mode.Mode.{Mode}
use Rattle.plain_cat.specs.declared.mode.Mode.TheVariants.{PW}
use Rattle.plain_cat.specs.declared.command.Cmd.TheVariants as cmd
use Rattle.plain_cat.specs.declared.reply.Refusal.{Refusal}
use Rattle.plain_cat.specs.declared.reply.Refusal.TheVariants as refusal
use Rattle.plain_rules.specs.Lookups.{extra, needs_header}
use Rattle.plain_rules.specs.Answers.{first_refusal}
use Rattle.vol_parts.specs.declared.geometry.Geometry.{Geometry}
use Rattle.vol_spell.specs.Reading.{quota_places}
use Rattle.op_law.specs.declared.seen.Chan.{Chan}
use Rattle.op_law.specs.Events.{Events, Take, Look, Find, HasNoSearch, SearchesOnce}
use Rattle.op_law.specs.Headers.{through_chain}
use Rattle.op_law.specs.Rows.{refuses, live_in}
use Rattle.op_law.specs.Refusing.{SeenFile, seen_file, unless_refused, if_file, if_given}
use Rattle.op_law.specs.Sizes.{growing_refusals, draft_refusals, into_headers, growing_events, extend_in, extend_events}
use Rattle.op_law.specs.Writing.{clusters_for}
use Rattle.op_law.specs.Needs.{events_of}
use Rattle.op_law.proofs.Links.{links_so}
use Rattle.op_law.proofs.Walking.{EveryPlan}
use Rattle.op_law.proofs.Through.{all_so, header_so}
use Rattle.op_law.proofs.Doing.{IsShaped}

-- R is what holds behind the search for so many clusters, and a number or none, by what it gave
module _ (T : Events → Type 0) (R : ℕ → Bool → List ℕ → Option ℕ → Option Refusal → Events → Type 0)
    (take : (name : LockName) (mode : Mode) (next : Events) → T next → T (Take name mode next))
    (look : (name : LockName) (lbn : ℕ) (next : Block → Events) → ((b : Block) → T (next b)) → T (Look name lbn next))
    (find : (clusters : ℕ) (number : Bool) (next : List ℕ → Option ℕ → Option Refusal → Events) → ((cs : List ℕ) (n : Option ℕ) (short : Option Refusal) → R clusters number cs n short (next cs n short)) → T (Find clusters number next))
    (refused : (r : Refusal) → T (refuses r))
    (short_of : (clusters : ℕ) (number : Bool) (cs : List ℕ) (n : Option ℕ) (r : Refusal) → R clusters number cs n (Some r) (refuses r))
    (grows : (clusters : ℕ) (number : Bool) (g : Geometry) (f : SeenFile) (quota : List Block) (cs : List ℕ) (n : Option ℕ) → R clusters number cs n None (into_headers g f quota clusters cs n)) where
  growing_so : (g : Geometry) (k : ℕ) (f : SeenFile) → T (growing_events g k f)
  growing_so g k f = take Q PW _ (all_so T take look Q (quota_places g) _ (λ quota. by_draft quota (first_refusal (draft_refusals g f quota k)))) where
    by_space : (quota : List Block) (cs : List ℕ) (n : Option ℕ) (short : Option Refusal) → R k (needs_header f.file.clusters k) cs n short (if_given (into_headers g f quota k) cs n short)
    by_space quota cs n (Some r) = short_of k (needs_header f.file.clusters k) cs n r
    by_space quota cs n None = grows k (needs_header f.file.clusters k) g f quota cs n

    by_draft : (quota : List Block) (o : Option Refusal) → T (unless_refused o (Find k (needs_header f.file.clusters k) (if_given (into_headers g f quota k))))
    by_draft quota None = find k (needs_header f.file.clusters k) (if_given (into_headers g f quota k)) (by_space quota)
    by_draft quota (Some r) = refused r

  in_so : (g : Geometry) (k : ℕ) (f : SeenFile) → T (extend_in g k f)
  in_so g k f = by_refusal (first_refusal (growing_refusals f k)) where
    by_refusal : (o : Option Refusal) → T (unless_refused o (through_chain g PW f (growing_events g k)))
    by_refusal None = links_so T take look g PW (extra f.file.clusters) f.head f (growing_events g k) (λ rest len. growing_so g k (record f { rest = rest }))
    by_refusal (Some r) = refused r

  pub extend_so : (file : Fid) (blocks : ℕ) (g : Geometry) (channel : Option Chan) → T (events_of g channel (cmd.Extend file blocks))
  unfolding events_of extend_events
  extend_so file blocks g channel = header_so T take look g file PW (λ b. if_file (refuses refusal.NoSuchFile) (extend_in g (clusters_for g blocks)) (option_map (seen_file g file.num b) (live_in file.seq b)))
      (refused refusal.NoSuchFile) (λ b. by_live b (live_in file.seq b)) where
        by_live : (b : Block) (o : Option Hdr) → T (if_file (refuses refusal.NoSuchFile) (extend_in g (clusters_for g blocks)) (option_map (seen_file g file.num b) o))
        by_live b None = refused refusal.NoSuchFile
        by_live b (Some h) = in_so g (clusters_for g blocks) (seen_file g file.num b h)

-- space is searched for at most once
into_no_search : (g : Geometry) (f : SeenFile) (quota : List Block) (k : ℕ) (cs : List ℕ) (n : Option ℕ) → HasNoSearch (into_headers g f quota k cs n)
into_no_search g f quota k cs None = tt
into_no_search g f quota k cs (Some n) = λ b. tt

pub extend_once : (file : Fid) (blocks : ℕ) (g : Geometry) (channel : Option Chan) → SearchesOnce (events_of g channel (cmd.Extend file blocks))
extend_once file blocks g channel = extend_so SearchesOnce (λ clusters number cs n short. HasNoSearch) (λ name mode next h. h) (λ name lbn next h. h) (λ clusters number next h. h) (λ r. tt) (λ clusters number cs n r. tt)
    (λ clusters number g f quota cs n. into_no_search g f quota clusters cs n) file blocks g channel

-- a plan asks for nothing, and where it is refused it writes nothing
into_shaped : (g : Geometry) (f : SeenFile) (quota : List Block) (k : ℕ) (cs : List ℕ) (n : Option ℕ) → EveryPlan IsShaped (into_headers g f quota k cs n)
into_shaped g f quota k cs None = record { ask = refl; refused = tt }
into_shaped g f quota k cs (Some n) = λ b. record { ask = refl; refused = tt }

pub extend_shaped : (file : Fid) (blocks : ℕ) (g : Geometry) (channel : Option Chan) → EveryPlan IsShaped (events_of g channel (cmd.Extend file blocks))
extend_shaped file blocks g channel = extend_so (EveryPlan IsShaped) (λ clusters number cs n short. EveryPlan IsShaped) (λ name mode next h. h) (λ name lbn next h. h) (λ clusters number next h. h)
    (λ r. record { ask = refl; refused = (refl, refl) }) (λ clusters number cs n r. record { ask = refl; refused = (refl, refl) }) (λ clusters number g f quota cs n. into_shaped g f quota clusters cs n) file blocks g channel
