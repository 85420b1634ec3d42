-- No command makes the number of a system file free.
use Rattle.std.proofs.Common.{◌≡◌, ◌≤◌, ◌<◌, ◌-◌, ◌*◌, ◌&&◌, ℕ, Bool, true, false, cond, List, [], ◌∷◌, Option, Some, None, slice_get, refl, ap, subst, ◌∙◌, arith}
use Rattle.std.specs.Prelude.{not, min, nat_le, is_some, ◌==◌}
use Rattle.std.specs.List.{list_any}
use Rattle.std.proofs.lemmas.Bool.Decides.{nat_tests}
use Rattle.plain_cat.specs.declared.command.Cmd.{Cmd}
use Rattle.plain_cat.specs.declared.command.Cmd.TheVariants as cmd
use Rattle.plain_cat.specs.declared.entries.DirEnt.{DirEnt}
use Rattle.plain_cat.specs.declared.ids.Uic.{Uic}
use Rattle.plain_cat.specs.declared.reply.Refusal.{Refusal}
use Rattle.plain_cat.specs.declared.reply.Refusal.TheVariants as refusal
use Rattle.plain_cat.specs.declared.reply.Reply.{Reply}
use Rattle.plain_cat.specs.declared.cat.Cat.{Cat}
use Rattle.plain_cat.specs.declared.mode.Mode.{Mode}
use Rattle.plain_cat.specs.declared.cat.File.{File}
use Rattle.plain_cat.specs.declared.cat.Open.{Open}
use Rattle.plain_cat.specs.declared.cat.QuotaRow.{QuotaRow}
use Rattle.plain_cat.specs.declared.cat.Slot.TheVariants.{Free}
use Rattle.plain_rules.specs.declared.outcome.Outcome.{Outcome}
use Rattle.plain_rules.specs.Lookups.{joined as open_joined, file_at, channel_at, place, in_use, live, is_open, entry_of, versions, is_free_slot, is_leaked, is_free_number, row_of}
use Rattle.plain_rules.specs.Directories.{inserted, without}
use Rattle.plain_rules.specs.Changes.{in_clusters, cost, with_file, freed, with_entries, charged, discharged, grown, cut, written, with_channel}
use Rattle.plain_rules.specs.Answers.{refused, unless, in_directory_file, entered, create_refusal, create_made, create_outcome, dir_name, mkdir_refusal, mkdir_made, mkdir_outcome, extend_of, extend_refusal, extend_outcome, trunc_of, trunc_outcome, with_entry, has_entries, unnamed, less_entry, delete_outcome, rename_refusal, rename_outcome, lookup_outcome, list_outcome, stat_of, stat_outcome, quota_set_of, quota_set_outcome, quota_shown, quota_show_outcome, removed, first_refusal, is_kept, conflicts, open_of, open_outcome, closed, close_of, close_outcome, is_outside, read_of, read_open, read_outcome, is_reading, write_of, write_open, write_outcome, outcome, Answer}
use Rattle.base_words.proofs.ListWrites.{get-set_else}
use Rattle.plain_histories.specs.Opens.{OpensNameFiles}
use Rattle.plain_histories.proofs.Numbers.{set_taken, above}

-- no number of a system file that is not free in c is free in d
abbrev pub Keeps : Cat → Cat → Type 0
Keeps c d = (n : ℕ) → n ≤ 11 → is_free_number c n ≡ false → is_free_number d n ≡ false

joined : (c d e : Cat) → Keeps c d → Keeps d e → Keeps c e
joined c d e s t = λ n le free. t n le (s n le free)

file_stays : (c : Cat) (k : ℕ) (f : File) → Keeps c (with_file c k f)
file_stays c k f = λ n le e. set_taken (n == 0) (not (is_leaked c n)) c.files (k - 1) (n - 1) f e

-- the number of a file that goes, which is no system file
freed_stays : (c : Cat) (k : ℕ) (f : File) → nat_le k 11 ≡ false → Keeps c (freed c k f)
freed_stays c k f no_system = λ n le e. ap (λ o. is_free_slot (cond (n == 0) None o) && not (is_leaked c n)) (get-set_else c.files (k - 1) (n - 1) (Free f.seq) (above k n no_system le)) ∙ e

-- ---- outcomes

if_stays : (c : Cat) (b : Bool) (x y : Outcome) → Keeps c x.after → Keeps c y.after → Keeps c (cond b x y).after
if_stays c true x y h k = h
if_stays c false x y h k = k

same_stays : (c : Cat) → Keeps c c
same_stays c = λ n le e. e

unless_stays : (c : Cat) (r : Option Refusal) (o : Outcome) → Keeps c o.after → Keeps c (unless c r o).after
unless_stays c None o h = h
unless_stays c (Some r) o h = same_stays c

in_stays : (c : Cat) (f : Option File) (next : File → Outcome) → ((d : File) → Keeps c (next d).after) → Keeps c (in_directory_file c f next).after
in_stays c None next h = same_stays c
in_stays c (Some d) next h = if_stays c d.dir (next d) _ (h d) (same_stays c)

entry_stays : (c : Cat) (e : Option DirEnt) (next : DirEnt → Outcome) → ((x : DirEnt) → nat_le x.fid.num 11 ≡ false → Keeps c (next x).after) → Keeps c (with_entry c e next).after
entry_stays c None next h = same_stays c
entry_stays c (Some e) next h = by_system (nat_le e.fid.num 11) refl where
  by_system : (b : Bool) → nat_le e.fid.num 11 ≡ b → Keeps c (cond b (refused c refusal.NoPriv) (next e)).after
  by_system true is = same_stays c
  by_system false is = h e is

unnamed_stays : (c : Cat) (n : ℕ) (f : Option File) → nat_le n 11 ≡ false → Keeps c (unnamed c n f).after
unnamed_stays c n None no_system = same_stays c
unnamed_stays c n (Some f) no_system = if_stays c (is_open c n) _ _ (file_stays c n (record f { marked = true })) (freed_stays (discharged c f.owner (cost c f.clusters)) n f no_system)

deleted_stays : (c : Cat) (dir : ℕ) (d : File) (e : DirEnt) (f : Option File) → nat_le e.fid.num 11 ≡ false → Keeps c (unnamed (less_entry c dir d e) e.fid.num f).after
deleted_stays c dir d e f no_system = joined c (less_entry c dir d e) (unnamed (less_entry c dir d e) e.fid.num f).after (file_stays c dir (record d { entries = without e.name e.ver d.entries })) (unnamed_stays (less_entry c dir d e) e.fid.num f no_system)

entered_stays : (c : Cat) (dir : ℕ) (d : File) (e : DirEnt) (f : File) → Keeps c (entered c dir d e f)
entered_stays c dir d e f =
    let first = charged c f.owner (cost c f.clusters) in
    let second = with_file first e.fid.num f in
    joined c second (with_entries second dir d (inserted e d.entries)) (file_stays first e.fid.num f) (file_stays second dir (record d { entries = inserted e d.entries }))

create_stays : (c : Cat) (dir : ℕ) (d : File) (name : List ℕ) (ver blocks : ℕ) (owner : Uic) (new : Option ℕ) → Keeps c (create_made c dir d name ver blocks owner new).after
create_stays c dir d name ver blocks owner None = same_stays c
create_stays c dir d name ver blocks owner (Some n) = entered_stays c dir d _ _

mkdir_stays : (c : Cat) (dir : ℕ) (d : File) (name : List ℕ) (owner : Uic) (new : Option ℕ) → Keeps c (mkdir_made c dir d name owner new).after
mkdir_stays c dir d name owner None = same_stays c
mkdir_stays c dir d name owner (Some n) = entered_stays c dir d _ _

extend_stays : (c : Cat) (n : ℕ) (f : Option File) (blocks : ℕ) (new : Option ℕ) → Keeps c (extend_of c n f blocks new).after
extend_stays c n None blocks new = same_stays c
extend_stays c n (Some f) blocks new = unless_stays c (extend_refusal c n f blocks new) _ (file_stays (charged c f.owner (c.factor * in_clusters c blocks)) n (grown c f (in_clusters c blocks)))

trunc_stays : (c : Cat) (n : ℕ) (f : Option File) (blocks : ℕ) → Keeps c (trunc_of c n f blocks).after
trunc_stays c n None blocks = same_stays c
trunc_stays c n (Some f) blocks = if_stays c _ _ _ (same_stays c)
    (file_stays (discharged c f.owner (c.factor * (f.clusters - min f.clusters (in_clusters c blocks)))) n (cut c f (min f.clusters (in_clusters c blocks))))

stat_stays : (c : Cat) (f : Option File) → Keeps c (stat_of c f).after
stat_stays c None = same_stays c
stat_stays c (Some f) = same_stays c

quota_stays : (c : Cat) (r : Option QuotaRow) (owner : Uic) (quota over : ℕ) → Keeps c (quota_set_of c r owner quota over).after
quota_stays c (Some r) owner quota over = λ n le e. e
quota_stays c None owner quota over = if_stays c _ _ _ (same_stays c) (λ n le e. e)

shown_stays : (c : Cat) (r : Option QuotaRow) → Keeps c (quota_shown c r).after
shown_stays c None = same_stays c
shown_stays c (Some r) = same_stays c

-- ---- commands on channels

open_stays : (c : Cat) (node chan n : ℕ) (f : Option File) (mode : Mode) → Keeps c (open_of c node chan n f mode).after
open_stays c node chan n None mode = same_stays c
open_stays c node chan n (Some f) mode = unless_stays c (first_refusal ((is_kept n f, refusal.NoPriv) ∷ (list_any (conflicts n mode) c.opens, refusal.AccConflict) ∷ [])) _ (λ m le e. e)

closed_stays : (c d : Cat) (n : ℕ) (f : Option File) → Keeps c d → nat_le n 11 ≡ false → Keeps c (closed d n f).after
closed_stays c d n None keeps no_system = keeps
closed_stays c d n (Some f) keeps no_system = if_stays c (f.marked && not (is_open d n)) _ _ (joined c d (removed d n f) keeps (freed_stays (discharged d f.owner (cost d f.clusters)) n f no_system)) keeps

close_stays : (c : Cat) (node chan : ℕ) (o : Option Open) → ((p : Open) → o ≡ Some p → nat_le p.file 11 ≡ false) → Keeps c (close_of c node chan o).after
close_stays c node chan None above = same_stays c
close_stays c node chan (Some o) above = closed_stays c (with_channel c node chan None) o.file (file_at c o.file) (λ m le e. e) (above o refl)

read_stays : (c : Cat) (f : Option File) (vbn : ℕ) → Keeps c (read_of c f vbn).after
read_stays c None vbn = same_stays c
read_stays c (Some f) vbn = if_stays c (is_outside c f vbn) _ _ (same_stays c) (same_stays c)

reads_stay : (c : Cat) (o : Option Open) (vbn : ℕ) → Keeps c (read_open c o vbn).after
reads_stay c None vbn = same_stays c
reads_stay c (Some o) vbn = read_stays c (file_at c o.file) vbn

write_stays : (c : Cat) (n : ℕ) (f : Option File) (vbn : ℕ) (text : List ℕ) → Keeps c (write_of c n f vbn text).after
write_stays c n None vbn text = same_stays c
write_stays c n (Some f) vbn text = if_stays c (is_outside c f vbn) _ _ (same_stays c) (file_stays c n (written f vbn text))

writes_stay : (c : Cat) (o : Option Open) (vbn : ℕ) (text : List ℕ) → Keeps c (write_open c o vbn text).after
writes_stay c None vbn text = same_stays c
writes_stay c (Some o) vbn text = if_stays c (is_reading o.mode) _ _ (same_stays c) (write_stays c o.file (file_at c o.file) vbn text)

-- an open is of no system file
open_above : (c : Cat) → OpensNameFiles c → (node chan : ℕ) (p : Open) → channel_at c node chan ≡ Some p → nat_le p.file 11 ≡ false
open_above c named node chan p e = above_is p.file (named.files (place node chan) p (some_in (slice_get c.opens (place node chan)) e)).above where
  some_in : (x : Option (Option Open)) → open_joined x ≡ Some p → x ≡ Some (Some p)
  some_in None e = absurd (let g : None ≡ Some p = e in cc)
  some_in (Some x) e = ap Some e

  above_is : (k : ℕ) → 11 < k → nat_le k 11 ≡ false
  above_is k lt = grind (arith, nat_tests)

outcome_stays : (c : Cat) (node : ℕ) (x : Cmd) (new : Option ℕ) → OpensNameFiles c → Keeps c (outcome c node x new).after
unfolding outcome lookup_outcome list_outcome stat_outcome create_outcome mkdir_outcome extend_outcome trunc_outcome delete_outcome rename_outcome quota_set_outcome quota_show_outcome open_outcome close_outcome read_outcome write_outcome
outcome_stays c node (cmd.Lookup reg dir name ver) new named = in_stays c (live c dir) _ (λ d. same_stays c)
outcome_stays c node (cmd.List dir) new named = in_stays c (live c dir) _ (λ d. same_stays c)
outcome_stays c node (cmd.Stat file) new named = stat_stays c (live c file)
outcome_stays c node (cmd.Create reg dir name ver blocks owner) new named = in_stays c (live c dir) _ (λ d. unless_stays c (create_refusal c d name ver blocks owner new) _ (create_stays c dir.num d name ver blocks owner new))
outcome_stays c node (cmd.MkDir reg dir name owner) new named = in_stays c (live c dir) _ (λ d. unless_stays c (mkdir_refusal c d (dir_name name) owner new) _ (mkdir_stays c dir.num d (dir_name name) owner new))
outcome_stays c node (cmd.Extend file blocks) new named = extend_stays c file.num (live c file) blocks new
outcome_stays c node (cmd.Trunc file blocks) new named = trunc_stays c file.num (live c file) blocks
outcome_stays c node (cmd.Delete dir name ver) new named = in_stays c (live c dir) _ (λ d. entry_stays c (entry_of (versions name d.entries) ver) _ (λ e no_system. if_stays c (has_entries (in_use c e.fid)) _ _ (same_stays c) (deleted_stays c dir.num d e (in_use c e.fid) no_system)))
outcome_stays c node (cmd.Rename dir name ver to to_ver) new named = in_stays c (live c dir) _ (λ d. entry_stays c (entry_of (versions name d.entries) ver) _ (λ e no_system. unless_stays c (rename_refusal c d to to_ver) _ (file_stays c dir.num _)))
outcome_stays c node (cmd.OpenFile chan file mode) new named = if_stays c (is_some (channel_at c node chan)) _ _ (same_stays c) (open_stays c node chan file.num (live c file) mode)
outcome_stays c node (cmd.CloseFile chan) new named = close_stays c node chan (channel_at c node chan) (λ p e. open_above c named node chan p e)
outcome_stays c node (cmd.ReadBlock chan vbn) new named = reads_stay c (channel_at c node chan) vbn
outcome_stays c node (cmd.WriteBlock chan vbn text) new named = writes_stay c (channel_at c node chan) vbn text
outcome_stays c node (cmd.QuotaSet owner quota over) new named = quota_stays c (row_of owner c.quota) owner quota over
outcome_stays c node (cmd.QuotaShow owner) new named = shown_stays c (row_of owner c.quota)

pub answer_stays : (c d : Cat) (node : ℕ) (x : Cmd) (r : Reply) → OpensNameFiles c → Answer c node x r d → Keeps c d
answer_stays c d node x r named a = subst (λ (o : Outcome). Keeps c o.after) a.2 (outcome_stays c node x a.0 named)
