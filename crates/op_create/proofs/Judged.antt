-- What comes next behind refusals of which none holds.
use Rattle.std.proofs.Common.{◌≡◌, ◌∙◌, ℕ, List, Option, None, ap}
use Rattle.base_words.specs.Fields.{Block}
use Rattle.plain_cat.specs.declared.ids.Fid.{Fid}
use Rattle.plain_cat.specs.declared.ids.Uic.{Uic}
use Rattle.plain_cat.specs.declared.reply.Refusal.{Refusal}
use Rattle.vol_parts.specs.declared.geometry.Geometry.{Geometry}
use Rattle.op_law.specs.declared.seen.Seen.{Seen}
use Rattle.op_law.specs.declared.seeing.Rest.{Rest}
use Rattle.op_law.specs.Events.{Events, Space}
use Rattle.op_law.specs.Refusing.{unless_refused}
use Rattle.op_law.specs.Writing.{clusters_for}
use Rattle.op_law.specs.Moving.{SeenDir, through_names}
use Rattle.op_law.specs.Entering.{NewEntry, numbered, made_of, making_events, create_in, create_events, mkdir_in, mkdir_events}
use Rattle.op_law.specs.Behind.{goes_on_by, HasFirst}
use Rattle.plain_rules.specs.Answers.{dir_name}
use Rattle.op_create.specs.declared.places.Place.{Place}
use Rattle.op_create.specs.Given.{through_place, behind_place}

-- the plan by the quota blocks, the clusters, the number and its slot
abbrev pub made_at : Geometry → SeenDir → NewEntry → List Block → List ℕ → ℕ → Block → Events
made_at g d e quota qs n slot = made_of g d quota (numbered slot e) n qs

-- where nothing is refused the place of the file comes next, and then the plan
pub place_next : (g : Geometry) (d : SeenDir) (e : NewEntry) (o : Option Refusal) (rest : Rest) (space : Space) (p : Place) → o ≡ None
    → goes_on_by (through_place g e.file.owner e.file.clusters (made_at g d e)) rest space ≡ behind_place (made_at g d e) space p
    → goes_on_by (unless_refused o (making_events g d e)) rest space ≡ behind_place (made_at g d e) space p
place_next g d e o rest space p none is = ap (λ r. goes_on_by (unless_refused r (making_events g d e)) rest space) none ∙ is

-- ---- all that was seen, from the directory on

pub create_first : (g : Geometry) (dir : Fid) (name : List ℕ) (ver blocks : ℕ) (owner : Uic) (seen : Seen) → HasFirst (create_events g dir name ver blocks owner) seen
    → HasFirst (through_names g dir (λ d. create_in g d name ver (clusters_for g blocks) owner)) seen
unfolding create_events
create_first g dir name ver blocks owner seen first = first

pub mkdir_first : (g : Geometry) (dir : Fid) (name : List ℕ) (owner : Uic) (seen : Seen) → HasFirst (mkdir_events g dir name owner) seen
    → HasFirst (through_names g dir (λ d. mkdir_in g d (dir_name name) owner)) seen
unfolding mkdir_events
mkdir_first g dir name owner seen first = first
