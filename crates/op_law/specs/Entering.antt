-- The commands that make a file and enter it in a directory.
use Rattle.std.specs.Prelude.{◌+◌, ◌*◌, ◌++◌, not, nat_lt, ℕ, Bool, true, List, [], ◌∷◌, Some, is_none, Result, Ok, Err, map, if◌then◌else◌}
use Rattle.base_words.specs.Fields.{Block}
use Rattle.fx_dir.specs.Writing.{block_of}
use Rattle.fx_header.specs.declared.slot.Hdr.{Hdr}
use Rattle.fx_header.specs.declared.slot.Slot.{Slot}
use Rattle.fx_header.specs.declared.slot.Slot.TheVariants.{Free, Used}
use Rattle.fx_header.specs.declared.slot.HeaderFault.{HeaderFault}
use Rattle.fx_header.specs.Headers.{header_read, header_bytes, with_runs}
use Rattle.lock_db.specs.declared.name.LockName.TheVariants.{S}
use Rattle.plain_cat.specs.declared.ids.Fid.{Fid}
use Rattle.plain_cat.specs.declared.ids.Uic.{Uic}
use Rattle.plain_cat.specs.declared.mode.Mode.TheVariants.{PW}
use Rattle.plain_cat.specs.declared.entries.DirEnt.{DirEnt}
use Rattle.plain_cat.specs.declared.history.Stage.TheVariants as stage
use Rattle.plain_cat.specs.declared.reply.Refusal.{Refusal}
use Rattle.plain_cat.specs.declared.reply.Refusal.TheVariants as refusal
use Rattle.plain_cat.specs.declared.cat.File.{File}
use Rattle.plain_cat.specs.declared.cat.QuotaRow.{QuotaRow}
use Rattle.plain_rules.specs.Lookups.{versions, row_of, header_most}
use Rattle.plain_rules.specs.Directories.{is_nil, entry, new_version, is_last_version, is_taken}
use Rattle.plain_rules.specs.Changes.{next_seq, new_file, new_dir}
use Rattle.plain_rules.specs.Answers.{first_refusal, over_quota, shown, dir_name}
use Rattle.vol_spell.specs.Spread.{spread}
use Rattle.vol_parts.specs.declared.geometry.Geometry.{Geometry}
use Rattle.vol_spell.specs.Reading.{header_place}
use Rattle.op_law.specs.declared.need.PlanWrite.{PlanWrite}
use Rattle.op_law.specs.Events.{Events, Take, Look, Find, Make}
use Rattle.op_law.specs.Refusing.{unless_refused, if_space}
use Rattle.op_law.specs.Writing.{holding, empty_handed, write_at, header_write, plan_of, clusters_for, runs_for}
use Rattle.op_law.specs.Quotas.{through_quota, rows_seen, owner_write, row_charged}
use Rattle.op_law.specs.Moving.{SeenDir, entries_of, through_names, is_full, insertion_writes}
use Rattle.plain_cat.specs.Names.{text_of}

-- what is to be made: the name and version of the entry, and the file, of which the sequence is still to come
pub record NewEntry : Type 0 where
  pub name : List ℕ
  pub ver : ℕ
  pub file : File

-- what the new file costs its owner
abbrev pub cost_of : Geometry → File → ℕ
cost_of g f = g.cluster * f.clusters + 1

-- ---- the header

-- the fields of a file's header
abbrev pub fields_for : Geometry → ℕ → File → Hdr
fields_for g n f = record {
  num = n;
  seq = f.seq;
  owner = f.owner.0;
  dir = f.dir;
  marked = f.marked;
  blocks = g.cluster * f.clusters;
  mark = f.mark;
  end = f.end;
  byte = f.byte;
  seg = 0;
  ext = 0;
  ext_seq = 0;
}

-- the header of a new file of these clusters under number n, which is entered in the directory `parent`
unfoldable pub new_header : Geometry → Fid → ℕ → NewEntry → List ℕ → Block
new_header g parent n e qs =
    with_runs (header_bytes (fields_for g n e.file) (text_of e.name e.ver) (parent.num, parent.seq)) (runs_for g qs)

-- the sequence that a slot has: of a free one that of its last use
abbrev pub slot_seq : Result Slot HeaderFault → ℕ
slot_seq (Ok (Free seq)) = seq
slot_seq (Ok (Used h)) = h.seq
slot_seq (Err fault) = 0

-- what is to be made, with the sequence that its slot gives it
abbrev pub numbered : Block → NewEntry → NewEntry
numbered slot e = record e { file = record e.file { seq = next_seq (slot_seq (header_read slot)) } }

-- ---- the plan

-- the blocks of a new directory of these clusters, each without an entry; other files' blocks are not written
unfoldable pub body_writes : Geometry → ℕ → File → List ℕ → List PlanWrite
body_writes g n f qs =
    if f.dir then map (λ l. write_at (S n) l (block_of []) stage.Charged (holding qs (Some n))) (spread g.cluster qs) else []

abbrev pub entry_for : ℕ → NewEntry → DirEnt
entry_for n e = entry e.name e.ver (record { num = n; seq = e.file.seq })

-- The owner is charged, a directory's own blocks are written, then the header, and the entry is inserted.
unfoldable pub making_writes : Geometry → SeenDir → List Block → NewEntry → ℕ → List ℕ → List PlanWrite
making_writes g d quota e n qs =
    owner_write g quota e.file.owner (row_charged (cost_of g e.file)) stage.Charged (holding qs (Some n))
    ++ (body_writes g n e.file qs
    ++ header_write g n (new_header g d.fid n e qs) stage.Lost empty_handed
    ∷ insertion_writes d (entry_for n e) stage.Lost stage.Done)

abbrev pub made_of : Geometry → SeenDir → List Block → NewEntry → ℕ → List ℕ → Events
made_of g d quota e n qs = Make (plan_of (making_writes g d quota e n qs) (shown (entry_for n e)))

-- ---- events

abbrev pub quota_refusals : Geometry → NewEntry → List QuotaRow → List (Bool × Refusal)
quota_refusals g e rows =
    (is_none (row_of e.file.owner rows), refusal.NoQuota) ∷ (over_quota (row_of e.file.owner rows) (cost_of g e.file), refusal.ExQuota) ∷ []

-- the lock of the new number, its slot, and the plan
abbrev pub into_slot : Geometry → SeenDir → List Block → NewEntry → List ℕ → ℕ → Events
into_slot g d quota e qs n = Take (S n) PW (Look (S n) (header_place g n) (λ slot. made_of g d quota (numbered slot e) n qs))

-- the quota, the space, the new slot
abbrev pub making_events : Geometry → SeenDir → NewEntry → Events
making_events g d e = through_quota g PW (λ quota.
    unless_refused (first_refusal (quota_refusals g e (rows_seen quota))) (Find e.file.clusters true (if_space (into_slot g d quota e))))

-- CREATE
abbrev pub create_refusals : Geometry → List DirEnt → List ℕ → ℕ → ℕ → List (Bool × Refusal)
create_refusals g entries name ver clusters =
    let es = versions name entries in
    (is_last_version ver es, refusal.BadVersion)
    ∷ (is_taken (new_version ver es) es, refusal.DupFile)
    ∷ (nat_lt header_most clusters, refusal.FileLimit)
    ∷ (is_full g entries name (new_version ver es), refusal.DirFull)
    ∷ []

abbrev pub create_in : Geometry → SeenDir → List ℕ → ℕ → ℕ → Uic → Events
create_in g d name ver clusters owner =
    unless_refused (first_refusal (create_refusals g (entries_of d) name ver clusters))
    (making_events g d (record { name = name; ver = new_version ver (versions name (entries_of d)); file = new_file 0 owner clusters }))

unfoldable pub create_events : Geometry → Fid → List ℕ → ℕ → ℕ → Uic → Events
create_events g dir name ver blocks owner = through_names g dir (λ d. create_in g d name ver (clusters_for g blocks) owner)

-- MKDIR: the entry's name is NAME.DIR
abbrev pub mkdir_refusals : Geometry → List DirEnt → List ℕ → List (Bool × Refusal)
mkdir_refusals g entries name = (not (is_nil (versions name entries)), refusal.DupFile) ∷ (is_full g entries name 1, refusal.DirFull) ∷ []

abbrev pub mkdir_in : Geometry → SeenDir → List ℕ → Uic → Events
mkdir_in g d name owner =
    unless_refused (first_refusal (mkdir_refusals g (entries_of d) name))
    (making_events g d (record { name = name; ver = 1; file = new_dir 0 owner g.cluster }))

unfoldable pub mkdir_events : Geometry → Fid → List ℕ → Uic → Events
mkdir_events g dir name owner = through_names g dir (λ d. mkdir_in g d (dir_name name) owner)
