use Rattle.std.proofs.Common.{◌≡◌, ◌&&◌, not, ◌∙◌, ℕ, Bool, true, false, cond, List, [], ◌∷◌, Option, Some, None, is_some, min, length, nat_le, refl, sym, ap}
use Rattle.plain_cat.specs.declared.ids.Fid.{Fid}
use Rattle.plain_cat.specs.declared.ids.Uic.{Uic}
use Rattle.plain_cat.specs.declared.mode.Mode.{Mode}
use Rattle.plain_cat.specs.declared.entries.DirEnt.{DirEnt}
use Rattle.plain_cat.specs.declared.command.Cmd.{Cmd}
use Rattle.plain_cat.specs.declared.command.Cmd.TheVariants as cmd
use Rattle.plain_cat.specs.declared.reply.Reply.TheVariants as reply
use Rattle.std.specs.List.{list_any}
use Rattle.plain_cat.specs.declared.reply.Refusal.{Refusal}
use Rattle.plain_cat.specs.declared.reply.Refusal.TheVariants as refusal
use Rattle.plain_cat.specs.declared.cat.Cat.{Cat}
use Rattle.plain_cat.specs.declared.cat.File.{File}
use Rattle.plain_cat.specs.declared.cat.Open.{Open}
use Rattle.plain_cat.specs.declared.cat.QuotaRow.{QuotaRow}
use Rattle.plain_rules.specs.declared.outcome.Outcome.{Outcome}
use Rattle.plain_rules.specs.Lookups.{file_at, in_use, live, versions, entry_of, channel_at, is_open, row_of}
use Rattle.plain_rules.specs.Changes.{in_clusters, with_file, block_of, written, with_channel, with_row}
use Rattle.plain_rules.specs.Directories.{new_version}
use Rattle.plain_rules.specs.Stages.{is_refusal}
use Rattle.plain_rules.specs.Answers.{told, refused, first_refusal, is_kept, extended, truncated, removed, renamed, conflicts, is_outside, is_reading, unless, in_directory_file, with_entry, lookup_outcome, list_outcome, stat_of, stat_outcome, create_refusal, create_made, create_outcome, dir_name, mkdir_refusal, mkdir_made, mkdir_outcome, extend_refusal, extend_of, extend_outcome, trunc_of, trunc_outcome, has_entries, less_entry, unnamed, delete_outcome, rename_refusal, rename_outcome, open_of, open_outcome, closed, close_of, close_outcome, read_of, read_open, read_outcome, write_of, write_open, write_outcome, quota_set_of, quota_set_outcome, quota_shown, quota_show_outcome, outcome}
use Rattle.plain_laws.specs.Refusing.{Refuses}

-- an outcome leaves the catalogue, or is no refusal
data Stays (c : Cat) (o : Outcome) : Type 0 where
  left : o.after ≡ c → Stays c o
  done : is_refusal o.reply ≡ false → Stays c o

stays_if : (c : Cat) (b : Bool) (o p : Outcome) → Stays c o → Stays c p → Stays c (cond b o p)
stays_if c true o p h k = h
stays_if c false o p h k = k

stays_unless : (c : Cat) (r : Option Refusal) (o : Outcome) → Stays c o → Stays c (unless c r o)
stays_unless c None o h = h
stays_unless c (Some r) o h = left refl

stays_in : (c : Cat) (f : Option File) (next : File → Outcome) → ((d : File) → Stays c (next d)) → Stays c (in_directory_file c f next)
stays_in c None next h = left refl
stays_in c (Some d) next h = stays_if c d.dir (next d) (refused c refusal.NotDir) (h d) (left refl)

stays_with : (c : Cat) (e : Option DirEnt) (next : DirEnt → Outcome) → ((x : DirEnt) → Stays c (next x)) → Stays c (with_entry c e next)
stays_with c None next h = left refl
stays_with c (Some e) next h = stays_if c (nat_le e.fid.num 11) (refused c refusal.NoPriv) (next e) (left refl) (h e)

stat_stays : (c : Cat) (f : Option File) → Stays c (stat_of c f)
stat_stays c None = left refl
stat_stays c (Some f) = left refl

create_stays : (c : Cat) (dir : ℕ) (d : File) (name : List ℕ) (ver blocks : ℕ) (owner : Uic) (new : Option ℕ) → Stays c (create_made c dir d name ver blocks owner new)
create_stays c dir d name ver blocks owner None = left refl
create_stays c dir d name ver blocks owner (Some n) = done refl

mkdir_stays : (c : Cat) (dir : ℕ) (d : File) (name : List ℕ) (owner : Uic) (new : Option ℕ) → Stays c (mkdir_made c dir d name owner new)
mkdir_stays c dir d name owner None = left refl
mkdir_stays c dir d name owner (Some n) = done refl

extend_stays : (c : Cat) (n : ℕ) (f : Option File) (blocks : ℕ) (new : Option ℕ) → Stays c (extend_of c n f blocks new)
extend_stays c n None blocks new = left refl
extend_stays c n (Some f) blocks new = stays_unless c (extend_refusal c n f blocks new) (extended c n f (in_clusters c blocks)) (done refl)

trunc_stays : (c : Cat) (n : ℕ) (f : Option File) (blocks : ℕ) → Stays c (trunc_of c n f blocks)
trunc_stays c n None blocks = left refl
trunc_stays c n (Some f) blocks =
    stays_if c (is_kept n f) (refused c refusal.NoPriv) (truncated c n f (min f.clusters (in_clusters c blocks))) (left refl) (done refl)

done_if : (c : Cat) (b : Bool) (o p : Outcome) → is_refusal o.reply ≡ false → is_refusal p.reply ≡ false → Stays c (cond b o p)
done_if c true o p h k = done h
done_if c false o p h k = done k

unnamed_stays : (c x : Cat) (n : ℕ) (f : Option File) → Stays c (unnamed x n f)
unnamed_stays c x n None = done refl
unnamed_stays c x n (Some f) =
    done_if c (is_open x n) (told (with_file x n (record f { marked = true })) reply.Marked) (told (removed x n f) reply.Deleted) refl refl

open_stays : (c : Cat) (node chan n : ℕ) (f : Option File) (mode : Mode) → Stays c (open_of c node chan n f mode)
open_stays c node chan n None mode = left refl
open_stays c node chan n (Some f) mode =
    stays_unless c (first_refusal ((is_kept n f, refusal.NoPriv) ∷ (list_any (conflicts n mode) c.opens, refusal.AccConflict) ∷ []))
    (told (with_channel c node chan (Some (record { file = n; mode = mode }))) reply.Opened) (done refl)

closed_stays : (c x : Cat) (n : ℕ) (f : Option File) → Stays c (closed x n f)
closed_stays c x n None = done refl
closed_stays c x n (Some f) =
    done_if c (f.marked && not (is_open x n)) (told (removed x n f) (reply.Closed true)) (told x (reply.Closed false)) refl refl

close_stays : (c : Cat) (node chan : ℕ) (o : Option Open) → Stays c (close_of c node chan o)
close_stays c node chan None = left refl
close_stays c node chan (Some o) = closed_stays c (with_channel c node chan None) o.file (file_at c o.file)

read_stays : (c : Cat) (f : Option File) (vbn : ℕ) → Stays c (read_of c f vbn)
read_stays c None vbn = left refl
read_stays c (Some f) vbn =
    stays_if c (is_outside c f vbn) (refused c refusal.EndOfFile) (told c (reply.Bytes (block_of f vbn))) (left refl) (left refl)

read_open_stays : (c : Cat) (o : Option Open) (vbn : ℕ) → Stays c (read_open c o vbn)
read_open_stays c None vbn = left refl
read_open_stays c (Some o) vbn = read_stays c (file_at c o.file) vbn

write_stays : (c : Cat) (n : ℕ) (f : Option File) (vbn : ℕ) (text : List ℕ) → Stays c (write_of c n f vbn text)
write_stays c n None vbn text = left refl
write_stays c n (Some f) vbn text =
    stays_if c (is_outside c f vbn) (refused c refusal.EndOfFile) (told (with_file c n (written f vbn text)) reply.Written) (left refl) (done refl)

write_open_stays : (c : Cat) (o : Option Open) (vbn : ℕ) (text : List ℕ) → Stays c (write_open c o vbn text)
write_open_stays c None vbn text = left refl
write_open_stays c (Some o) vbn text =
    stays_if c (is_reading o.mode) (refused c refusal.NoPriv) (write_of c o.file (file_at c o.file) vbn text) (left refl) (write_stays c o.file (file_at c o.file) vbn text)

quota_set_stays : (c : Cat) (r : Option QuotaRow) (owner : Uic) (quota over : ℕ) → Stays c (quota_set_of c r owner quota over)
quota_set_stays c (Some r) owner quota over = done refl
quota_set_stays c None owner quota over =
    let row : QuotaRow = record { owner = owner; usage = 0; quota = quota; over = over } in
    stays_if c (nat_le c.rows (length c.quota)) (refused c refusal.QuotaFull) (told (record c { quota = with_row row c.quota }) reply.QuotaKept) (left refl) (done refl)

quota_show_stays : (c : Cat) (r : Option QuotaRow) → Stays c (quota_shown c r)
quota_show_stays c None = left refl
quota_show_stays c (Some r) = left refl

delete_stays : (c : Cat) (dir : Fid) (name : List ℕ) (ver : ℕ) → Stays c (delete_outcome c dir name ver)
unfolding delete_outcome
delete_stays c dir name ver = stays_in c (live c dir) _ (λ d.
    stays_with c (entry_of (versions name d.entries) ver) _ (λ e.
    stays_if c (has_entries (in_use c e.fid)) (refused c refusal.DirNotEmpty) (unnamed (less_entry c dir.num d e) e.fid.num (in_use c e.fid)) (left refl)
    (unnamed_stays c (less_entry c dir.num d e) e.fid.num (in_use c e.fid))))

rename_stays : (c : Cat) (dir : Fid) (name : List ℕ) (ver : ℕ) (to : List ℕ) (to_ver : ℕ) → Stays c (rename_outcome c dir name ver to to_ver)
unfolding rename_outcome
rename_stays c dir name ver to to_ver = stays_in c (live c dir) _ (λ d.
    stays_with c (entry_of (versions name d.entries) ver) _ (λ e.
    stays_unless c (rename_refusal c d to to_ver) (renamed c dir.num d e to (new_version to_ver (versions to d.entries))) (done refl)))

-- each outcome leaves the catalogue, or is no refusal
outcome_stays : (c : Cat) (node : ℕ) (x : Cmd) (new : Option ℕ) → Stays c (outcome c node x new)
unfolding outcome lookup_outcome list_outcome stat_outcome create_outcome mkdir_outcome extend_outcome trunc_outcome open_outcome close_outcome read_outcome write_outcome quota_set_outcome quota_show_outcome
outcome_stays c node (cmd.Lookup reg dir name ver) new = stays_in c (live c dir) _ (λ d. left refl)
outcome_stays c node (cmd.List dir) new = stays_in c (live c dir) _ (λ d. left refl)
outcome_stays c node (cmd.Stat file) new = stat_stays c (live c file)
outcome_stays c node (cmd.Create reg dir name ver blocks owner) new = stays_in c (live c dir) _ (λ d.
    stays_unless c (create_refusal c d name ver blocks owner new) (create_made c dir.num d name ver blocks owner new) (create_stays c dir.num d name ver blocks owner new))
outcome_stays c node (cmd.MkDir reg dir name owner) new = stays_in c (live c dir) _ (λ d.
    stays_unless c (mkdir_refusal c d (dir_name name) owner new) (mkdir_made c dir.num d (dir_name name) owner new) (mkdir_stays c dir.num d (dir_name name) owner new))
outcome_stays c node (cmd.Extend file blocks) new = extend_stays c file.num (live c file) blocks new
outcome_stays c node (cmd.Trunc file blocks) new = trunc_stays c file.num (live c file) blocks
outcome_stays c node (cmd.Delete dir name ver) new = delete_stays c dir name ver
outcome_stays c node (cmd.Rename dir name ver to to_ver) new = rename_stays c dir name ver to to_ver
outcome_stays c node (cmd.OpenFile chan file mode) new =
    stays_if c (is_some (channel_at c node chan)) (refused c refusal.ChanBusy) (open_of c node chan file.num (live c file) mode) (left refl) (open_stays c node chan file.num (live c file) mode)
outcome_stays c node (cmd.CloseFile chan) new = close_stays c node chan (channel_at c node chan)
outcome_stays c node (cmd.ReadBlock chan vbn) new = read_open_stays c (channel_at c node chan) vbn
outcome_stays c node (cmd.WriteBlock chan vbn text) new = write_open_stays c (channel_at c node chan) vbn text
outcome_stays c node (cmd.QuotaSet owner quota over) new = quota_set_stays c (row_of owner c.quota) owner quota over
outcome_stays c node (cmd.QuotaShow owner) new = quota_show_stays c (row_of owner c.quota)

stayed : (c : Cat) (o : Outcome) (why : Refusal) (d : Cat) → Stays c o → o ≡ record { reply = reply.Refused why; after = d } → d ≡ c
stayed c o why d (left h) is = sym (ap (λ (p : Outcome). p.after) is) ∙ h
stayed c o why d (done h) is = let both : true ≡ false = sym (ap (λ (p : Outcome). is_refusal p.reply) is) ∙ h in absurd (cc both)

pub refusal_stays : (c : Cat) (node : ℕ) (x : Cmd) (why : Refusal) (d : Cat) → Refuses c node x why d → d ≡ c
refusal_stays c node x why d (new, pick, is) = stayed c (outcome c node x new) why d (outcome_stays c node x new) is
