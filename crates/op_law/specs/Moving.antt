-- A directory as a command sees it, the writes that enter or remove an entry, and the command on names.
use Rattle.std.specs.Prelude.{◌-◌, ◌++◌, not, ℕ, Bool, List, [], ◌∷◌, unwrap_or, length, take, drop, map}
use Rattle.base_words.specs.Fields.{Block}
use Rattle.fx_dir.specs.declared.Move.{Move}
use Rattle.fx_dir.specs.Moves.{written, insertion, removal, packing_writes}
use Rattle.plain_cat.specs.declared.ids.Fid.{Fid}
use Rattle.plain_cat.specs.declared.mode.Mode.TheVariants.{PW}
use Rattle.plain_cat.specs.declared.entries.DirEnt.{DirEnt}
use Rattle.plain_cat.specs.declared.history.Stage.{Stage}
use Rattle.plain_cat.specs.declared.history.Stage.TheVariants as stage
use Rattle.plain_cat.specs.declared.reply.Reply.TheVariants as reply
use Rattle.plain_cat.specs.declared.reply.Refusal.{Refusal}
use Rattle.plain_cat.specs.declared.reply.Refusal.TheVariants as refusal
use Rattle.plain_rules.specs.Lookups.{versions, entry_of}
use Rattle.plain_rules.specs.Directories.{inserted, fits, entry, nowhere, new_version, is_last_version, is_taken}
use Rattle.plain_rules.specs.Answers.{first_refusal}
use Rattle.vol_parts.specs.declared.geometry.Geometry.{Geometry}
use Rattle.op_law.specs.declared.need.PlanWrite.{PlanWrite}
use Rattle.op_law.specs.Events.{Events, Make}
use Rattle.op_law.specs.Rows.{through_directory, entries_seen}
use Rattle.op_law.specs.Refusing.{unless_refused, if_entry}
use Rattle.op_law.specs.Writing.{body_write, plan_of}
use Rattle.vol_spell.specs.Entries.{raw_entry}

-- a directory as a command sees it: its identifier, the block of its header, and its blocks
pub record SeenDir : Type 0 where
  pub fid : Fid
  pub head : Block
  pub blocks : List Block

abbrev pub entries_of : SeenDir → List DirEnt
entries_of d = entries_seen d.blocks

-- a live directory's lock in PW, its header, all of its blocks, and what comes next
abbrev pub through_names : Geometry → Fid → (SeenDir → Events) → Events
through_names g dir next = through_directory g dir PW (λ h bs. next (record { fid = dir; head = h; blocks = bs }))

-- a new entry of this name and version has no room
unfoldable pub is_full : Geometry → List DirEnt → List ℕ → ℕ → Bool
is_full g entries name ver = not (fits g.cluster (inserted (entry name ver nowhere) entries))

-- ---- writes

abbrev pub move_write : SeenDir → Stage → Move → PlanWrite
move_write d s m = body_write d.fid.num d.head m.vbn m.block s

-- moves, of which the first k leave one stage and the others the next
abbrev pub moves_at : SeenDir → Stage → Stage → ℕ → List Move → List PlanWrite
moves_at d before after k ms = map (move_write d before) (take k ms) ++ map (move_write d after) (drop k ms)

abbrev pub insertion_moves : SeenDir → DirEnt → List Move
insertion_moves d e = unwrap_or (insertion d.blocks (raw_entry e)) []

-- the writes that enter an entry, of which the last decides
unfoldable pub insertion_writes : SeenDir → DirEnt → Stage → Stage → List PlanWrite
insertion_writes d e before after = let ms = insertion_moves d e in moves_at d before after (length ms - 1) ms

-- the writes that remove an entry, of which the first behind the packing decides
unfoldable pub removal_writes : SeenDir → DirEnt → Stage → Stage → List PlanWrite
removal_writes d e before after = moves_at d before after (packing_writes d.blocks) (removal d.blocks e.name e.ver)

-- the directory after an entry has been entered
abbrev pub with_new : SeenDir → DirEnt → SeenDir
with_new d e = record d { blocks = written (insertion_moves d e) d.blocks }

-- ---- RENAME

abbrev pub rename_refusals : Geometry → List DirEnt → List ℕ → ℕ → List (Bool × Refusal)
rename_refusals g entries to to_ver =
    let es = versions to entries in
    (is_last_version to_ver es, refusal.BadVersion)
    ∷ (is_taken (new_version to_ver es) es, refusal.DupFile)
    ∷ (is_full g entries to (new_version to_ver es), refusal.DirFull)
    ∷ []

-- the entry e gets the name and version of `new`: first both stand there
unfoldable pub rename_writes : SeenDir → DirEnt → DirEnt → List PlanWrite
rename_writes d e new = insertion_writes d new stage.Nothing stage.Both ++ removal_writes (with_new d new) e stage.Both stage.Done

abbrev pub renamed_as : SeenDir → DirEnt → List ℕ → ℕ → Events
renamed_as d e to ver = Make (plan_of (rename_writes d e (entry to ver e.fid)) (reply.Renamed to ver))

unfoldable pub rename_events : Geometry → Fid → List ℕ → ℕ → List ℕ → ℕ → Events
rename_events g dir name ver to to_ver = through_names g dir (λ d. if_entry (entry_of (versions name (entries_of d)) ver) (λ e.
    unless_refused (first_refusal (rename_refusals g (entries_of d) to to_ver)) (renamed_as d e to (new_version to_ver (versions to (entries_of d))))))
