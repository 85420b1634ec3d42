-- What is left of a command whose node died between its writes.
use Rattle.std.specs.Prelude.{◌&&◌, ◌*◌, not, nat_lt, nat_le, ℕ, Bool, true, false, List, Option, Some, None, option_and_then, if◌then◌else◌}
use Rattle.plain_cat.specs.declared.ids.Fid.{Fid}
use Rattle.plain_cat.specs.declared.ids.Uic.{Uic}
use Rattle.plain_cat.specs.declared.entries.DirEnt.{DirEnt}
use Rattle.plain_cat.specs.declared.command.Cmd.{Cmd}
use Rattle.plain_cat.specs.declared.command.Cmd.TheVariants as cmd
use Rattle.plain_cat.specs.declared.reply.Reply.{Reply}
use Rattle.plain_cat.specs.declared.reply.Reply.TheVariants as reply
use Rattle.plain_cat.specs.declared.history.Stage.{Stage}
use Rattle.plain_cat.specs.declared.history.Stage.TheVariants as stage
use Rattle.plain_cat.specs.declared.cat.Cat.{Cat}
use Rattle.plain_cat.specs.declared.cat.File.{File}
use Rattle.plain_cat.specs.declared.cat.Open.{Open}
use Rattle.plain_rules.specs.declared.outcome.Outcome.{Outcome}
use Rattle.plain_rules.specs.Lookups.{file_at, in_use, live, versions, entry_of, channel_at, is_open}
use Rattle.plain_rules.specs.Directories.{inserted, entry, new_version}
use Rattle.plain_rules.specs.Changes.{in_clusters, cost, with_file, freed, with_entries, charged, new_fid, new_file, new_dir, cut, is_past_mark, text_block, with_block, with_channel}
use Rattle.plain_rules.specs.Answers.{less_entry, outcome}

abbrev pub is_refusal : Reply → Bool
is_refusal (reply.Refused r) = true
is_refusal r = false

-- this, where the test holds
abbrev pub only_if : Bool → Cat → Option Cat
only_if true c = Some c
only_if false c = None

-- CREATE and MKDIR, with the new file f: the quota block, the header, and the insertion, whose last write does it
abbrev pub making_stage : Cat → ℕ → File → Outcome → Stage → Option Cat
making_stage c n f o stage.Charged = Some (charged c f.owner (cost c f.clusters))
making_stage c n f o stage.Lost = Some (with_file (charged c f.owner (cost c f.clusters)) n f)
making_stage c n f o stage.Done = Some o.after
making_stage c n f o s = None

unfoldable pub create_stage : Cat → ℕ → Uic → Option ℕ → Outcome → Stage → Option Cat
create_stage c blocks owner None o s = None
create_stage c blocks owner (Some n) o s = making_stage c n (new_file (new_fid c n).seq owner (in_clusters c blocks)) o s

unfoldable pub mkdir_stage : Cat → Uic → Option ℕ → Outcome → Stage → Option Cat
mkdir_stage c owner None o s = None
mkdir_stage c owner (Some n) o s = making_stage c n (new_dir (new_fid c n).seq owner c.factor) o s

-- EXTEND: the quota block, a new header if there is one, the last header, and the first header, whose write does it
unfoldable pub extend_stage : Cat → Option File → ℕ → Outcome → Stage → Option Cat
extend_stage c (Some f) blocks o stage.Charged = Some (charged c f.owner (c.factor * in_clusters c blocks))
extend_stage c (Some f) blocks o stage.Done = Some o.after
extend_stage c f blocks o s = None

-- TRUNC, where clusters go: the first header, which shortens the file, the other headers, the bitmaps, and the quota block
unfoldable pub trunc_stage : Cat → ℕ → Option File → ℕ → Outcome → Stage → Option Cat
trunc_stage c n (Some f) blocks o stage.Shortened =
    only_if (nat_lt (in_clusters c blocks) f.clusters) (with_file c n (cut c f (in_clusters c blocks)))
trunc_stage c n (Some f) blocks o stage.Done = only_if (nat_lt (in_clusters c blocks) f.clusters) o.after
trunc_stage c n f blocks o s = None

-- DELETE of a file in use: the mark unless it is there, the removal, and where no channel has the file open the headers,
-- the bitmaps and the quota block
abbrev pub unnaming_stage : Cat → ℕ → File → DirEnt → File → Outcome → Stage → Option Cat
unnaming_stage c dir d e f o stage.Marked = only_if (not f.marked) (with_file c e.fid.num (record f { marked = true }))
unnaming_stage c dir d e f o stage.Unlinked = Some (with_file (less_entry c dir d e) e.fid.num (record f { marked = true }))
unnaming_stage c dir d e f o stage.Freed = only_if (not (is_open c e.fid.num)) (freed (less_entry c dir d e) e.fid.num f)
unnaming_stage c dir d e f o stage.Done = only_if (not (is_open c e.fid.num)) o.after
unnaming_stage c dir d e f o s = None

-- DELETE of an entry whose file is not in use: the removal
abbrev pub entry_stage : Cat → ℕ → File → DirEnt → Option File → Outcome → Stage → Option Cat
entry_stage c dir d e (Some f) o s = unnaming_stage c dir d e f o s
entry_stage c dir d e None o stage.Done = Some o.after
entry_stage c dir d e None o s = None

unfoldable pub delete_stage : Cat → Fid → List ℕ → ℕ → Outcome → Stage → Option Cat
delete_stage c dir name ver o s = option_and_then (λ (d : File). option_and_then (λ (e : DirEnt).
    entry_stage c dir.num d e (in_use c e.fid) o s) (entry_of (versions name d.entries) ver)) (live c dir)

-- RENAME: the insertion, the removal
abbrev pub renaming_stage : Cat → ℕ → File → DirEnt → List ℕ → ℕ → Outcome → Stage → Option Cat
renaming_stage c dir d e to ver o stage.Both = Some (with_entries c dir d (inserted (entry to ver e.fid) d.entries))
renaming_stage c dir d e to ver o stage.Done = Some o.after
renaming_stage c dir d e to ver o s = None

unfoldable pub rename_stage : Cat → Fid → List ℕ → ℕ → List ℕ → ℕ → Outcome → Stage → Option Cat
rename_stage c dir name ver to to_ver o s = option_and_then (λ (d : File). option_and_then (λ (e : DirEnt).
    renaming_stage c dir.num d e to (new_version to_ver (versions to d.entries)) o s) (entry_of (versions name d.entries) ver)) (live c dir)

-- CLOSE of the last open of a marked file: the headers, the bitmaps, the quota block
abbrev pub closing_stage : Cat → ℕ → File → Outcome → Stage → Option Cat
closing_stage c n f o stage.Freed = only_if (f.marked && not (is_open c n)) (freed c n f)
closing_stage c n f o stage.Done = only_if (f.marked && not (is_open c n)) o.after
closing_stage c n f o s = None

unfoldable pub close_stage : Cat → ℕ → ℕ → Outcome → Stage → Option Cat
close_stage c node chan o s = option_and_then (λ (p : Open). option_and_then (λ (f : File).
    closing_stage (with_channel c node chan None) p.file f o s) (file_at c p.file)) (channel_at c node chan)

-- WRITE: the block, which shows where it lies below the mark or there is none, and the header where the end changes too
abbrev pub writing_stage : Cat → ℕ → File → ℕ → List ℕ → Outcome → Stage → Option Cat
writing_stage c n f vbn text o stage.DataOnly =
    only_if (not (is_past_mark f vbn) && nat_le f.end vbn) (with_file c n (record f { written = with_block f vbn (text_block text) }))
writing_stage c n f vbn text o stage.Done = Some o.after
writing_stage c n f vbn text o s = None

unfoldable pub write_stage : Cat → ℕ → ℕ → ℕ → List ℕ → Outcome → Stage → Option Cat
write_stage c node chan vbn text o s = option_and_then (λ (p : Open). option_and_then (λ (f : File).
    writing_stage c p.file f vbn text o s) (file_at c p.file)) (channel_at c node chan)

-- QUOTASET: the quota block
abbrev pub quota_stage : Outcome → Stage → Option Cat
quota_stage o stage.Done = Some o.after
quota_stage o s = None

-- a command that is not refused, at a stage that shows
unfoldable pub command_stage : Cat → ℕ → Cmd → Option ℕ → Outcome → Stage → Option Cat
command_stage c node (cmd.Lookup reg dir name ver) new o s = None
command_stage c node (cmd.List dir) new o s = None
command_stage c node (cmd.Stat file) new o s = None
command_stage c node (cmd.Create reg dir name ver blocks owner) new o s = create_stage c blocks owner new o s
command_stage c node (cmd.MkDir reg dir name owner) new o s = mkdir_stage c owner new o s
command_stage c node (cmd.Extend file blocks) new o s = extend_stage c (live c file) blocks o s
command_stage c node (cmd.Trunc file blocks) new o s = trunc_stage c file.num (live c file) blocks o s
command_stage c node (cmd.Delete dir name ver) new o s = delete_stage c dir name ver o s
command_stage c node (cmd.Rename dir name ver to to_ver) new o s = rename_stage c dir name ver to to_ver o s
command_stage c node (cmd.OpenFile chan file mode) new o s = None
command_stage c node (cmd.CloseFile chan) new o s = close_stage c node chan o s
command_stage c node (cmd.ReadBlock chan vbn) new o s = None
command_stage c node (cmd.WriteBlock chan vbn text) new o s = write_stage c node chan vbn text o s
command_stage c node (cmd.QuotaSet owner quota over) new o s = quota_stage o s
command_stage c node (cmd.QuotaShow owner) new o s = None

abbrev pub stage_of : Cat → ℕ → Cmd → Option ℕ → Outcome → Stage → Option Cat
stage_of c node cmd new o s = if is_refusal o.reply then None else command_stage c node cmd new o s

abbrev pub shown_stage : Cat → ℕ → Option Cmd → Option ℕ → Stage → Option Cat
shown_stage c node None new s = None
shown_stage c node (Some cmd) new s = stage_of c node cmd new (outcome c node cmd new) s

abbrev pub begun : Cat → Option Cmd → Option Cat
begun c None = None
begun c (Some cmd) = Some c

-- The catalogue where a node stopped at a stage of its next command, with new for the number that a new file or a new
-- header takes. There is none where the command has no such stage. A refused command has none that shows.
unfoldable pub staged : Cat → ℕ → Option Cmd → Stage → Option ℕ → Option Cat
staged c node next stage.Idle new = Some c
staged c node next stage.Nothing new = begun c next
staged c node next s new = shown_stage c node next new s
