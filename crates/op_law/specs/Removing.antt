-- The command that removes an entry, and its file once nobody has it open.
use Rattle.std.specs.Prelude.{◌==◌, ◌++◌, ℕ, List, [], ◌∷◌, length, option_map, if◌then◌else◌}
use Rattle.base_words.specs.Fields.{Block}
use Rattle.fx_header.specs.Headers.{marked}
use Rattle.lock_db.specs.declared.name.LockName.TheVariants.{S}
use Rattle.plain_cat.specs.declared.ids.Fid.{Fid}
use Rattle.plain_cat.specs.declared.mode.Mode.TheVariants.{PW, EX}
use Rattle.plain_cat.specs.declared.entries.DirEnt.{DirEnt}
use Rattle.plain_cat.specs.declared.history.Stage.TheVariants as stage
use Rattle.plain_cat.specs.declared.reply.Reply.TheVariants as reply
use Rattle.plain_cat.specs.declared.reply.Refusal.TheVariants as refusal
use Rattle.plain_rules.specs.Lookups.{versions, entry_of}
use Rattle.plain_rules.specs.Directories.{is_nil}
use Rattle.vol_parts.specs.declared.geometry.Geometry.{Geometry}
use Rattle.vol_spell.specs.Reading.{header_place}
use Rattle.op_law.specs.declared.need.PlanWrite.{PlanWrite}
use Rattle.op_law.specs.declared.need.Plan.{Plan}
use Rattle.op_law.specs.declared.need.Ask.{Ask}
use Rattle.op_law.specs.Events.{Events, Take, Look, Make}
use Rattle.op_law.specs.Rows.{refuses, is_number, look_all, entries_seen}
use Rattle.op_law.specs.SeenFiles.{file_places}
use Rattle.op_law.specs.Refusing.{SeenFile, seen_file, used_in, if_file, if_entry}
use Rattle.op_law.specs.Writing.{empty_handed, header_write, plan_of, asking_plan}
use Rattle.op_law.specs.Moving.{SeenDir, entries_of, through_names, removal_writes}
use Rattle.op_law.specs.Freeing.{SeenSpace, through_space, freeing_writes}
use Rattle.op_law.specs.Headers.{through_chain}

-- ---- looks

-- The header of a number under its lock in PW. Where the lock is the directory's it is held already.
abbrev pub under_lock : Geometry → ℕ → ℕ → (Block → Events) → Events
under_lock g dir n next =
    if n == dir then Look (S n) (header_place g n) next else Take (S n) PW (Look (S n) (header_place g n) next)

-- the file that an entry names, or else none is in use; a number out of range has no header
abbrev pub through_named : Geometry → ℕ → Fid → Events → (SeenFile → Events) → Events
through_named g dir fid otherwise next =
    if is_number g fid then under_lock g dir fid.num (λ b. if_file otherwise next (option_map (seen_file g fid.num b) (used_in fid.seq b)))
    else otherwise

-- no directory, or one whose blocks show no entry
abbrev pub if_empty : SeenFile → Events → Events
if_empty f next =
    if f.file.dir then look_all (S f.num) (file_places f) (λ bs. if is_nil (entries_seen bs) then next else refuses refusal.DirNotEmpty)
    else next

-- ---- writes

-- the write that marks a file for delete, unless it is marked
abbrev pub marking_writes : Geometry → SeenFile → List PlanWrite
marking_writes g f = if f.file.marked then [] else header_write g f.num (marked f.head) stage.Marked empty_handed ∷ []

-- the mark, and the removal of the entry: a file that was marked before stands at no stage until then
unfoldable pub unnaming_writes : Geometry → SeenDir → DirEnt → SeenFile → List PlanWrite
unnaming_writes g d e f =
    marking_writes g f ++ removal_writes d e (if f.file.marked then stage.Nothing else stage.Marked) stage.Unlinked

-- the ask whether nobody has the file open, behind so many writes
abbrev pub last_ask : ℕ → SeenFile → Ask
last_ask at f = record { at = at; file = f.num; chan = 0; mode = EX; refused = reply.Marked }

abbrev pub delete_plan : Geometry → SeenDir → DirEnt → SeenFile → SeenSpace → Plan
delete_plan g d e f s =
    let ws = unnaming_writes g d e f in
    asking_plan (ws ++ freeing_writes g f s) (last_ask (length ws) f) reply.Deleted

-- an entry whose file is not in use goes alone
abbrev pub entry_removed : SeenDir → DirEnt → Events
entry_removed d e = Make (plan_of (removal_writes d e stage.Nothing stage.Done) reply.EntryRemoved)

-- ---- DELETE

abbrev pub delete_in : Geometry → SeenDir → DirEnt → Events
delete_in g d e = through_named g d.fid.num e.fid (entry_removed d e) (λ first.
    through_chain g PW first (λ f. if_empty f (through_space g f (λ s. Make (delete_plan g d e f s)))))

unfoldable pub delete_events : Geometry → Fid → List ℕ → ℕ → Events
delete_events g dir name ver = through_names g dir (λ d. if_entry (entry_of (versions name (entries_of d)) ver) (delete_in g d))
