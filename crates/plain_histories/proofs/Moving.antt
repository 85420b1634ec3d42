-- What an answer makes of the channels and of the files that they have open.
use Rattle.std.proofs.Common.{◌≡◌, ◌-◌, ◌+◌, ◌≤◌, ◌&&◌, ℕ, suc, Bool, true, false, cond, not, min, List, [], ◌∷◌, Option, Some, None, nat_le, slice_get, slice_set, refl, sym, ap, subst, ◌∙◌, arith}
use Rattle.std.specs.Prelude.{is_some, length}
use Rattle.std.specs.List.{list_any}
use Rattle.std.proofs.lemmas.Bool.Decides.{nat_tests}
use Rattle.plain_cat.specs.declared.ids.Fid.{Fid}
use Rattle.plain_cat.specs.declared.ids.Uic.{Uic}
use Rattle.plain_cat.specs.declared.mode.Mode.{Mode}
use Rattle.plain_cat.specs.declared.entries.DirEnt.{DirEnt}
use Rattle.plain_cat.specs.declared.command.Cmd.{Cmd}
use Rattle.plain_cat.specs.declared.command.Cmd.TheVariants as cmd
use Rattle.plain_cat.specs.declared.reply.Reply.{Reply}
use Rattle.plain_cat.specs.declared.reply.Reply.TheVariants as reply
use Rattle.plain_cat.specs.declared.reply.Refusal.{Refusal}
use Rattle.plain_cat.specs.declared.reply.Refusal.TheVariants as refusal
use Rattle.plain_cat.specs.declared.cat.Cat.{Cat}
use Rattle.plain_cat.specs.declared.cat.File.{File}
use Rattle.plain_cat.specs.declared.cat.Slot.{Slot}
use Rattle.plain_cat.specs.declared.cat.Slot.TheVariants.{Used, Free}
use Rattle.plain_cat.specs.declared.cat.Open.{Open}
use Rattle.plain_cat.specs.declared.cat.QuotaRow.{QuotaRow}
use Rattle.plain_rules.specs.declared.outcome.Outcome.{Outcome}
use Rattle.plain_rules.specs.Lookups.{slot_at, last_seq, file_at, in_use, live, versions, entry_of, channel_at, is_open, row_of, is_free_number}
use Rattle.plain_rules.specs.Directories.{inserted, without, entry, new_version}
use Rattle.plain_rules.specs.Changes.{in_clusters, with_file, with_entries, new_fid, new_file, new_dir, grown, cut, block_of, is_past_mark, ended, marked_up, written, with_row, with_channel}
use Rattle.plain_rules.specs.Answers.{told, refused, first_refusal, unless, in_directory_file, lookup_outcome, list_outcome, stat_of, stat_outcome, create_refusal, create_made, create_outcome, dir_name, mkdir_refusal, mkdir_made, mkdir_outcome, extend_refusal, extended, extend_of, extend_outcome, truncated, trunc_of, trunc_outcome, less_entry, entered, removed, unnamed, with_entry, has_entries, delete_outcome, rename_refusal, rename_outcome, is_kept, conflicts, open_of, open_outcome, closed, close_of, close_outcome, is_outside, is_reading, read_of, read_open, read_outcome, write_of, write_open, write_outcome, quota_set_of, quota_set_outcome, quota_shown, quota_show_outcome, outcome, IsPick, Answer}
use Rattle.plain_rules.specs.Own.{is_opened, is_closed}
use Rattle.plain_rules.proofs.Picks.{pick_is_free}
use Rattle.plain_rules.proofs.Standing.{stands_at, stands_in_use, stands_live, stands_free}
use Rattle.plain_histories.specs.Moves.{switched_by, opens_after}
use Rattle.plain_histories.proofs.Lists.{clash}
use Rattle.plain_histories.proofs.Files.{KeptAt, AllStay, OpenStay, same_stay, then_stay, then_open, slot_stay, free_stay, else_stay, file_from}

-- d has the channels of b, and of its files those that a channel has open
pub record Kept (b d : Cat) : Type 0 where
  pub opens : d.opens ≡ b.opens
  pub files : OpenStay b.files d

-- the same, by a command's outcome
pub record Moved (c : Cat) (n : ℕ) (x : Cmd) (o : Outcome) : Type 0 where
  pub opens : o.after.opens ≡ opens_after c.opens n x o.reply
  pub files : OpenStay c.files o.after

pub all_kept : (b d : Cat) → d.opens ≡ b.opens → AllStay b.files d.files → Kept b d
all_kept b d same stay = record { opens = same; files = λ j f at is. stay j f at }

pub same_kept : (c : Cat) → Kept c c
same_kept c = all_kept c c refl (same_stay c.files)

if_kept : (c : Cat) (t : Bool) (x y : Outcome) → Kept c x.after → Kept c y.after → Kept c (cond t x y).after
if_kept c true x y h k = h
if_kept c false x y h k = k

unless_kept : (c : Cat) (r : Option Refusal) (o : Outcome) → Kept c o.after → Kept c (unless c r o).after
unless_kept c None o h = h
unless_kept c (Some r) o h = same_kept c

in_kept : (c : Cat) (f : Option File) (next : File → Outcome) → ((d : File) → f ≡ Some d → Kept c (next d).after) → Kept c (in_directory_file c f next).after
in_kept c None next h = same_kept c
in_kept c (Some d) next h = if_kept c d.dir (next d) _ (h d refl) (same_kept c)

entry_kept : (c : Cat) (e : Option DirEnt) (next : DirEnt → Outcome) → ((x : DirEnt) → nat_le x.fid.num 11 ≡ false → Kept c (next x).after) → Kept c (with_entry c e next).after
entry_kept c None next h = same_kept c
entry_kept c (Some e) next h = by_system (nat_le e.fid.num 11) refl where
  by_system : (t : Bool) → nat_le e.fid.num 11 ≡ t → Kept c (cond t (refused c refusal.NoPriv) (next e)).after
  by_system true is = same_kept c
  by_system false is = h e is

-- ---- steps of the files

pub entries_stay : (c : Cat) (n : ℕ) (d : File) (es : List DirEnt) → slice_get c.files (n - 1) ≡ Some (Used d) → AllStay c.files (with_entries c n d es).files
entries_stay c n d es at = slot_stay c.files (n - 1) d (record d { entries = es }) at refl refl

-- a new file under a free number
pub placed_stay : (c : Cat) (n : ℕ) (f : File) → is_free_number c n ≡ true → AllStay c.files (slice_set c.files (n - 1) (Used f))
placed_stay c n f free = free_stay c.files (n - 1) (last_seq (slot_at c n)) (Used f) (stands_free c n free)

-- and with its entry in a directory
entered_stay : (c : Cat) (dir : ℕ) (d : File) (e : DirEnt) (f : File) → slice_get c.files (dir - 1) ≡ Some (Used d) → is_free_number c e.fid.num ≡ true
    → AllStay c.files (entered c dir d e f).files
entered_stay c dir d e f at free =
    let next : List Slot = slice_set c.files (e.fid.num - 1) (Used f) in
    let first : AllStay c.files next = placed_stay c e.fid.num f free in
    let own = first (dir - 1) d at in
    then_stay c.files next (slice_set next (dir - 1) (Used (record d { entries = inserted e d.entries }))) first
    (slot_stay next (dir - 1) own.file (record d { entries = inserted e d.entries }) own.at (sym own.seq) (sym own.dir))

-- a file is gone that no channel has open
pub gone_open : (c d : Cat) (n : ℕ) (s : Slot) → 1 ≤ n → d.files ≡ slice_set c.files (n - 1) s → is_open d n ≡ false → OpenStay c.files d
gone_open c d n s from files none j f at is = subst (λ (xs : List Slot). KeptAt xs j f) (sym files) (else_stay c.files (n - 1) j s f apart at) where
  apart : n - 1 ≡ j → ⊥
  apart e = let same : suc j ≡ n = omega arith in clash (is_open d n) (ap (is_open d) (sym same) ∙ is) none

-- ---- commands

create_kept : (c : Cat) (dir : ℕ) (d : File) (name : List ℕ) (ver blocks : ℕ) (owner : Uic) (new : Option ℕ) → IsPick c new → slice_get c.files (dir - 1) ≡ Some (Used d)
    → Kept c (create_made c dir d name ver blocks owner new).after
create_kept c dir d name ver blocks owner None pick at = same_kept c
create_kept c dir d name ver blocks owner (Some n) pick at = all_kept c _ refl
    (entered_stay c dir d (entry name (new_version ver (versions name d.entries)) (new_fid c n)) (new_file (new_fid c n).seq owner (in_clusters c blocks)) at (pick_is_free c n pick))

mkdir_kept : (c : Cat) (dir : ℕ) (d : File) (name : List ℕ) (owner : Uic) (new : Option ℕ) → IsPick c new → slice_get c.files (dir - 1) ≡ Some (Used d)
    → Kept c (mkdir_made c dir d name owner new).after
mkdir_kept c dir d name owner None pick at = same_kept c
mkdir_kept c dir d name owner (Some n) pick at = all_kept c _ refl
    (entered_stay c dir d (entry name 1 (new_fid c n)) (new_dir (new_fid c n).seq owner c.factor) at (pick_is_free c n pick))

stat_kept : (c : Cat) (f : Option File) → Kept c (stat_of c f).after
stat_kept c None = same_kept c
stat_kept c (Some f) = same_kept c

extend_kept : (c : Cat) (n : ℕ) (f : Option File) (blocks : ℕ) (new : Option ℕ) → ((g : File) → f ≡ Some g → slice_get c.files (n - 1) ≡ Some (Used g)) → Kept c (extend_of c n f blocks new).after
extend_kept c n None blocks new at = same_kept c
extend_kept c n (Some f) blocks new at = unless_kept c (extend_refusal c n f blocks new) (extended c n f (in_clusters c blocks))
    (all_kept c _ refl (slot_stay c.files (n - 1) f (grown c f (in_clusters c blocks)) (at f refl) refl refl))

trunc_kept : (c : Cat) (n : ℕ) (f : Option File) (blocks : ℕ) → ((g : File) → f ≡ Some g → slice_get c.files (n - 1) ≡ Some (Used g)) → Kept c (trunc_of c n f blocks).after
trunc_kept c n None blocks at = same_kept c
trunc_kept c n (Some f) blocks at = if_kept c (is_kept n f) (refused c refusal.NoPriv) (truncated c n f (min f.clusters (in_clusters c blocks))) (same_kept c)
    (all_kept c _ refl (slot_stay c.files (n - 1) f (cut c f (min f.clusters (in_clusters c blocks))) (at f refl) refl refl))

-- the file loses its entry: it is marked where a channel has it open, and else goes
unnamed_kept : (c : Cat) (n : ℕ) (f : Option File) → 1 ≤ n → ((g : File) → f ≡ Some g → KeptAt c.files (n - 1) g) → Kept c (unnamed c n f).after
unnamed_kept c n None from at = same_kept c
unnamed_kept c n (Some f) from at = by_open (is_open c n) refl where
  by_open : (t : Bool) → is_open c n ≡ t → Kept c (cond t (told (with_file c n (record f { marked = true })) reply.Marked) (told (removed c n f) reply.Deleted)).after
  by_open true is =
      let k : KeptAt c.files (n - 1) f = at f refl in
      all_kept c _ refl (slot_stay c.files (n - 1) k.file (record f { marked = true }) k.at (sym k.seq) (sym k.dir))
  by_open false is = record { opens = refl; files = gone_open c (removed c n f) n (Free f.seq) from refl is }

pub then_kept : (c b d : Cat) → b.opens ≡ c.opens → AllStay c.files b.files → Kept b d → Kept c d
then_kept c b d same stay k = record { opens = k.opens ∙ same; files = then_open c.files b.files d stay k.files }

no_system : (n : ℕ) → nat_le n 11 ≡ false → 1 ≤ n
no_system n e = grind (arith, nat_tests)

delete_kept : (c : Cat) (dir : Fid) (name : List ℕ) (ver : ℕ) → Kept c (delete_outcome c dir name ver).after
unfolding delete_outcome
delete_kept c dir name ver = in_kept c (live c dir) _ (λ d at. entry_kept c (entry_of (versions name d.entries) ver) _ (λ e above.
    if_kept c (has_entries (in_use c e.fid)) _ _ (same_kept c) (gone d at e above))) where
      gone : (d : File) → live c dir ≡ Some d → (e : DirEnt) → nat_le e.fid.num 11 ≡ false → Kept c (unnamed (less_entry c dir.num d e) e.fid.num (in_use c e.fid)).after
      gone d at e above =
          let less : Cat = less_entry c dir.num d e in
          let stay : AllStay c.files less.files = entries_stay c dir.num d (without e.name e.ver d.entries) (stands_live c dir d at) in
          then_kept c less _ refl stay (unnamed_kept less e.fid.num (in_use c e.fid) (no_system e.fid.num above) (λ g own. stay (e.fid.num - 1) g (stands_in_use c e.fid g own)))

rename_kept : (c : Cat) (dir : Fid) (name : List ℕ) (ver : ℕ) (to : List ℕ) (to_ver : ℕ) → Kept c (rename_outcome c dir name ver to to_ver).after
unfolding rename_outcome
rename_kept c dir name ver to to_ver = in_kept c (live c dir) _ (λ d at. entry_kept c (entry_of (versions name d.entries) ver) _ (λ e above.
    unless_kept c (rename_refusal c d to to_ver) _ (all_kept c _ refl (entries_stay c dir.num d _ (stands_live c dir d at)))))

read_kept : (c : Cat) (f : Option File) (vbn : ℕ) → Kept c (read_of c f vbn).after
read_kept c None vbn = same_kept c
read_kept c (Some f) vbn = if_kept c (is_outside c f vbn) (refused c refusal.EndOfFile) (told c (reply.Bytes (block_of f vbn))) (same_kept c) (same_kept c)

read_open_kept : (c : Cat) (o : Option Open) (vbn : ℕ) → Kept c (read_open c o vbn).after
read_open_kept c None vbn = same_kept c
read_open_kept c (Some o) vbn = read_kept c (file_at c o.file) vbn

-- a file with the sequence of f that is a directory where f is one
abbrev IsLike : File → File → Type 0
IsLike f g = (g.seq ≡ f.seq) × (g.dir ≡ f.dir)

like_if : (t : Bool) (f g h : File) → IsLike h f → IsLike h g → IsLike h (cond t f g)
like_if true f g h p q = p
like_if false f g h p q = q

written_like : (f : File) (vbn : ℕ) (text : List ℕ) → IsLike f (written f vbn text)
written_like f vbn text =
    let up : IsLike f (marked_up f vbn) = like_if (is_past_mark f vbn) (record f { mark = vbn + 1 }) f f (refl, refl) (refl, refl) in
    let end : IsLike f (ended (marked_up f vbn) vbn) = like_if (nat_le (marked_up f vbn).end vbn) (record (marked_up f vbn) { end = vbn + 1; byte = 0 }) (marked_up f vbn) f up up in
    (end.0, end.1)

write_kept : (c : Cat) (n : ℕ) (f : Option File) (vbn : ℕ) (text : List ℕ) → ((g : File) → f ≡ Some g → slice_get c.files (n - 1) ≡ Some (Used g)) → Kept c (write_of c n f vbn text).after
write_kept c n None vbn text at = same_kept c
write_kept c n (Some f) vbn text at = if_kept c (is_outside c f vbn) (refused c refusal.EndOfFile) (told (with_file c n (written f vbn text)) reply.Written) (same_kept c)
    (all_kept c _ refl (slot_stay c.files (n - 1) f (written f vbn text) (at f refl) (written_like f vbn text).0 (written_like f vbn text).1))

write_open_kept : (c : Cat) (o : Option Open) (vbn : ℕ) (text : List ℕ) → Kept c (write_open c o vbn text).after
write_open_kept c None vbn text = same_kept c
write_open_kept c (Some o) vbn text = if_kept c (is_reading o.mode) (refused c refusal.NoPriv) (write_of c o.file (file_at c o.file) vbn text) (same_kept c) (write_kept c o.file (file_at c o.file) vbn text (λ g at. stands_at c o.file g at))

quota_set_kept : (c : Cat) (r : Option QuotaRow) (owner : Uic) (quota over : ℕ) → Kept c (quota_set_of c r owner quota over).after
quota_set_kept c (Some r) owner quota over = all_kept c _ refl (same_stay c.files)
quota_set_kept c None owner quota over =
    if_kept c (nat_le c.rows (length c.quota)) (refused c refusal.QuotaFull) (told (record c { quota = with_row (record { owner = owner; usage = 0; quota = quota; over = over }) c.quota }) reply.QuotaKept)
    (same_kept c) (all_kept c _ refl (same_stay c.files))

quota_show_kept : (c : Cat) (r : Option QuotaRow) → Kept c (quota_shown c r).after
quota_show_kept c None = same_kept c
quota_show_kept c (Some r) = same_kept c

-- ---- OPEN and CLOSE

if_moved : (c : Cat) (n : ℕ) (x : Cmd) (t : Bool) (o p : Outcome) → Moved c n x o → Moved c n x p → Moved c n x (cond t o p)
if_moved c n x true o p h k = h
if_moved c n x false o p h k = k

open_moved : (c : Cat) (n chan : ℕ) (file : Fid) (mode : Mode) (f : Option File) → Moved c n (cmd.OpenFile chan file mode) (open_of c n chan file.num f mode)
open_moved c n chan file mode None = record { opens = refl; files = (same_kept c).files }
open_moved c n chan file mode (Some f) = by_refusal (first_refusal ((is_kept file.num f, refusal.NoPriv) ∷ (list_any (conflicts file.num mode) c.opens, refusal.AccConflict) ∷ [])) where
  by_refusal : (r : Option Refusal) → Moved c n (cmd.OpenFile chan file mode) (unless c r (told (with_channel c n chan (Some (record { file = file.num; mode = mode }))) reply.Opened))
  by_refusal None = record { opens = refl; files = λ j g at is. same_stay c.files j g at }
  by_refusal (Some r) = record { opens = refl; files = (same_kept c).files }

close_moved : (c : Cat) (n chan : ℕ) (o : Option Open) → Moved c n (cmd.CloseFile chan) (close_of c n chan o)
close_moved c n chan None = record { opens = refl; files = (same_kept c).files }
close_moved c n chan (Some o) = by_file (file_at c o.file) refl where
  after : Cat
  after = with_channel c n chan None

  left : Moved c n (cmd.CloseFile chan) (told after (reply.Closed false))
  left = record { opens = refl; files = λ j g at is. same_stay c.files j g at }

  by_file : (f : Option File) → file_at c o.file ≡ f → Moved c n (cmd.CloseFile chan) (closed after o.file f)
  by_file None at = left
  by_file (Some f) at = by_open (f.marked) (is_open after o.file) refl where
    by_open : (m t : Bool) → is_open after o.file ≡ t → Moved c n (cmd.CloseFile chan) (cond (m && not t) (told (removed after o.file f) (reply.Closed true)) (told after (reply.Closed false)))
    by_open true false none = record { opens = refl; files = gone_open c (removed after o.file f) o.file (Free f.seq) (file_from c o.file f at) refl none }
    by_open true true none = left
    by_open false t none = left

-- ---- all

moved_by : (c : Cat) (n : ℕ) (x : Cmd) (o : Outcome) → opens_after c.opens n x o.reply ≡ c.opens → Kept c o.after → Moved c n x o
moved_by c n x o same k = record { opens = k.opens ∙ sym same; files = k.files }

pub outcome_moved : (c : Cat) (n : ℕ) (x : Cmd) (new : Option ℕ) → IsPick c new → Moved c n x (outcome c n x new)
unfolding outcome lookup_outcome list_outcome stat_outcome create_outcome mkdir_outcome extend_outcome trunc_outcome open_outcome close_outcome read_outcome write_outcome quota_set_outcome quota_show_outcome
outcome_moved c n (cmd.Lookup reg dir name ver) new pick = moved_by c n (cmd.Lookup reg dir name ver) _ refl (in_kept c (live c dir) _ (λ d at. same_kept c))
outcome_moved c n (cmd.List dir) new pick = moved_by c n (cmd.List dir) _ refl (in_kept c (live c dir) _ (λ d at. same_kept c))
outcome_moved c n (cmd.Stat file) new pick = moved_by c n (cmd.Stat file) _ refl (stat_kept c (live c file))
outcome_moved c n (cmd.Create reg dir name ver blocks owner) new pick = moved_by c n (cmd.Create reg dir name ver blocks owner) _ refl (in_kept c (live c dir) _ (λ d at.
    unless_kept c (create_refusal c d name ver blocks owner new) _ (create_kept c dir.num d name ver blocks owner new pick (stands_live c dir d at))))
outcome_moved c n (cmd.MkDir reg dir name owner) new pick = moved_by c n (cmd.MkDir reg dir name owner) _ refl (in_kept c (live c dir) _ (λ d at.
    unless_kept c (mkdir_refusal c d (dir_name name) owner new) _ (mkdir_kept c dir.num d (dir_name name) owner new pick (stands_live c dir d at))))
outcome_moved c n (cmd.Extend file blocks) new pick = moved_by c n (cmd.Extend file blocks) _ refl (extend_kept c file.num (live c file) blocks new (λ g at. stands_live c file g at))
outcome_moved c n (cmd.Trunc file blocks) new pick = moved_by c n (cmd.Trunc file blocks) _ refl (trunc_kept c file.num (live c file) blocks (λ g at. stands_live c file g at))
outcome_moved c n (cmd.Delete dir name ver) new pick = moved_by c n (cmd.Delete dir name ver) _ refl (delete_kept c dir name ver)
outcome_moved c n (cmd.Rename dir name ver to to_ver) new pick = moved_by c n (cmd.Rename dir name ver to to_ver) _ refl (rename_kept c dir name ver to to_ver)
outcome_moved c n (cmd.OpenFile chan file mode) new pick = if_moved c n (cmd.OpenFile chan file mode) (is_some (channel_at c n chan)) (refused c refusal.ChanBusy) _
    (record { opens = refl; files = (same_kept c).files }) (open_moved c n chan file mode (live c file))
outcome_moved c n (cmd.CloseFile chan) new pick = close_moved c n chan (channel_at c n chan)
outcome_moved c n (cmd.ReadBlock chan vbn) new pick = moved_by c n (cmd.ReadBlock chan vbn) _ refl (read_open_kept c (channel_at c n chan) vbn)
outcome_moved c n (cmd.WriteBlock chan vbn text) new pick = moved_by c n (cmd.WriteBlock chan vbn text) _ refl (write_open_kept c (channel_at c n chan) vbn text)
outcome_moved c n (cmd.QuotaSet owner quota over) new pick = moved_by c n (cmd.QuotaSet owner quota over) _ refl (quota_set_kept c (row_of owner c.quota) owner quota over)
outcome_moved c n (cmd.QuotaShow owner) new pick = moved_by c n (cmd.QuotaShow owner) _ refl (quota_show_kept c (row_of owner c.quota))

others : (os : List (Option Open)) (n : ℕ) (x : Cmd) (r : Reply) → switched_by x ≡ None → opens_after os n x r ≡ os
others os n (cmd.OpenFile chan file mode) r e = absurd (let f : Some chan ≡ None = e in cc)
others os n (cmd.CloseFile chan) r e = absurd (let f : Some chan ≡ None = e in cc)
others os n x r e = refl

-- the outcome of a command that opens and closes nothing
pub kept_by : (c : Cat) (n : ℕ) (x : Cmd) (new : Option ℕ) → switched_by x ≡ None → IsPick c new → Kept c (outcome c n x new).after
kept_by c n x new none pick = let m = outcome_moved c n x new pick in record { opens = m.opens ∙ others c.opens n x (outcome c n x new).reply none; files = m.files }

-- an answer's move
pub answer_moved : (c d : Cat) (n : ℕ) (x : Cmd) (r : Reply) → Answer c n x r d → Moved c n x (record { reply = r; after = d })
answer_moved c d n x r (new, pick, is) = subst (Moved c n x) is (outcome_moved c n x new pick)

-- ---- by the reply

pub kept_reply : (os : List (Option Open)) (n : ℕ) (x : Cmd) (r : Reply) → is_opened r ≡ false → is_closed r ≡ false → opens_after os n x r ≡ os
kept_reply os n (cmd.OpenFile chan file mode) reply.Opened e k = absurd (let f : true ≡ false = e in cc)
kept_reply os n (cmd.CloseFile chan) (reply.Closed gone) e k = absurd (let f : true ≡ false = k in cc)
kept_reply os n x r e k = refl
