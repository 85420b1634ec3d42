-- No answer makes the number of a system file free.
use Rattle.std.proofs.Common.{◌≡◌, ◌≤◌, ◌<◌, ◌-◌, ◌*◌, ◌&&◌, ◌==◌, ◌∙◌, ℕ, zero, suc, Bool, true, false, cond, not, min, nat_le, List, [], ◌∷◌, Option, Some, None, slice_get, slice_set, refl, sym, ap, subst, arith}
use Rattle.std.proofs.lemmas.Bool.Decides.{nat_tests}
use Rattle.plain_cat.specs.declared.command.Cmd.{Cmd}
use Rattle.plain_cat.specs.declared.command.Cmd.TheVariants as cmd
use Rattle.plain_cat.specs.declared.entries.DirEnt.{DirEnt}
use Rattle.plain_cat.specs.declared.ids.Uic.{Uic}
use Rattle.plain_cat.specs.declared.mode.Mode.{Mode}
use Rattle.plain_cat.specs.declared.reply.Refusal.{Refusal}
use Rattle.plain_cat.specs.declared.reply.Refusal.TheVariants as refusal
use Rattle.plain_cat.specs.declared.reply.Reply.{Reply}
use Rattle.plain_cat.specs.declared.cat.Cat.{Cat}
use Rattle.plain_cat.specs.declared.cat.File.{File}
use Rattle.plain_cat.specs.declared.cat.Open.{Open}
use Rattle.plain_cat.specs.declared.cat.QuotaRow.{QuotaRow}
use Rattle.plain_cat.specs.declared.cat.Slot.{Slot}
use Rattle.plain_cat.specs.declared.cat.Slot.TheVariants.{Used, Free}
use Rattle.plain_rules.specs.declared.outcome.Outcome.{Outcome}
use Rattle.plain_rules.specs.Lookups.{file_at, in_use, live, is_open, entry_of, versions, channel_at, place, is_free_slot, is_leaked, is_free_number, row_of}
use Rattle.plain_rules.specs.Directories.{inserted, without}
use Rattle.plain_rules.specs.Changes.{in_clusters, cost, with_file, freed, with_entries, charged, discharged, grown, cut, written, with_channel}
use Rattle.plain_rules.specs.Answers.{refused, unless, in_directory_file, entered, create_refusal, create_made, create_outcome, dir_name, mkdir_refusal, mkdir_made, mkdir_outcome, extend_of, extend_refusal, extend_outcome, trunc_of, trunc_outcome, with_entry, has_entries, unnamed, less_entry, delete_outcome, rename_refusal, rename_outcome, lookup_outcome, list_outcome, stat_of, stat_outcome, open_of, open_outcome, closed, close_of, close_outcome, read_of, read_open, read_outcome, write_of, write_open, write_outcome, quota_set_of, quota_set_outcome, quota_shown, quota_show_outcome, outcome, Answer}
use Rattle.plain_histories.specs.Opens.{OpensNameFiles}
use Rattle.plain_histories.proofs.Having.{channel_in}
use Rattle.plain_histories.proofs.Lists.{set_else}

-- no number of a system file that is not free in c is free in d
abbrev pub StayTaken : Cat → Cat → Type 0
StayTaken c d = (i : ℕ) → i ≤ 11 → is_free_number c i ≡ false → is_free_number d i ≡ false

pub same_taken : (c : Cat) → StayTaken c c
same_taken c i le e = e

pub then_taken : (c d e : Cat) → StayTaken c d → StayTaken d e → StayTaken c e
then_taken c d e s t i le free = t i le (s i le free)

-- ---- a slot that is used

pub set_free : (files : List Slot) (i j : ℕ) (f : File) → is_free_slot (slice_get files j) ≡ false → is_free_slot (slice_get (slice_set files i (Used f)) j) ≡ false
set_free [] i j f e = e
set_free (s ∷ files) zero zero f e = refl
set_free (s ∷ files) zero (suc j) f e = e
set_free (s ∷ files) (suc i) zero f e = e
set_free (s ∷ files) (suc i) (suc j) f e = set_free files i j f e

pub set_taken : (b leaked : Bool) (files : List Slot) (i j : ℕ) (f : File) → (is_free_slot (cond b None (slice_get files j)) && leaked) ≡ false
    → (is_free_slot (cond b None (slice_get (slice_set files i (Used f)) j)) && leaked) ≡ false
set_taken true leaked files i j f e = refl
set_taken false leaked files i j f e = by_free (is_free_slot (slice_get files j)) refl where
  by_free : (t : Bool) → is_free_slot (slice_get files j) ≡ t → (is_free_slot (slice_get (slice_set files i (Used f)) j) && leaked) ≡ false
  by_free false g = ap (λ t. t && leaked) (set_free files i j f g)
  by_free true g = by_leaked leaked (sym (ap (λ t. t && leaked) g) ∙ e) where
    by_leaked : (l : Bool) → (true && l) ≡ false → (is_free_slot (slice_get (slice_set files i (Used f)) j) && l) ≡ false
    by_leaked true h = absurd (let k : true ≡ false = h in cc)
    by_leaked false h = by_last (is_free_slot (slice_get (slice_set files i (Used f)) j)) where
      by_last : (t : Bool) → (t && false) ≡ false
      by_last true = refl
      by_last false = refl

pub file_taken : (c : Cat) (k : ℕ) (f : File) → StayTaken c (with_file c k f)
file_taken c k f n le e = set_taken (n == 0) (not (is_leaked c n)) c.files (k - 1) (n - 1) f e

pub above : (k n : ℕ) → nat_le k 11 ≡ false → n ≤ 11 → k - 1 ≡ n - 1 → ⊥
above k n e le same = let lt : 11 < k = later k e in omega arith where
  later : (k : ℕ) → nat_le k 11 ≡ false → 11 < k
  later k e = grind (arith, nat_tests)

-- the number of a file that goes, which is no system file
pub freed_taken : (c : Cat) (k : ℕ) (f : File) → nat_le k 11 ≡ false → StayTaken c (freed c k f)
freed_taken c k f no_system n le e = ap (λ o. is_free_slot (cond (n == 0) None o) && not (is_leaked c n)) (set_else c.files (k - 1) (n - 1) (Free f.seq) (above k n no_system le)) ∙ e

-- ---- outcomes

if_taken : (c : Cat) (b : Bool) (x y : Outcome) → StayTaken c x.after → StayTaken c y.after → StayTaken c (cond b x y).after
if_taken c true x y h k = h
if_taken c false x y h k = k

unless_taken : (c : Cat) (r : Option Refusal) (o : Outcome) → StayTaken c o.after → StayTaken c (unless c r o).after
unless_taken c None o h = h
unless_taken c (Some r) o h = same_taken c

in_taken : (c : Cat) (f : Option File) (next : File → Outcome) → ((d : File) → StayTaken c (next d).after) → StayTaken c (in_directory_file c f next).after
in_taken c None next h = same_taken c
in_taken c (Some d) next h = if_taken c d.dir (next d) _ (h d) (same_taken c)

entry_taken : (c : Cat) (e : Option DirEnt) (next : DirEnt → Outcome) → ((x : DirEnt) → nat_le x.fid.num 11 ≡ false → StayTaken c (next x).after) → StayTaken c (with_entry c e next).after
entry_taken c None next h = same_taken c
entry_taken c (Some e) next h = by_system (nat_le e.fid.num 11) refl where
  by_system : (b : Bool) → nat_le e.fid.num 11 ≡ b → StayTaken c (cond b (refused c refusal.NoPriv) (next e)).after
  by_system true is = same_taken c
  by_system false is = h e is

unnamed_taken : (c : Cat) (n : ℕ) (f : Option File) → nat_le n 11 ≡ false → StayTaken c (unnamed c n f).after
unnamed_taken c n None no_system = same_taken c
unnamed_taken c n (Some f) no_system = if_taken c (is_open c n) _ _ (file_taken c n (record f { marked = true })) (freed_taken (discharged c f.owner (cost c f.clusters)) n f no_system)

deleted_taken : (c : Cat) (dir : ℕ) (d : File) (e : DirEnt) (f : Option File) → nat_le e.fid.num 11 ≡ false → StayTaken c (unnamed (less_entry c dir d e) e.fid.num f).after
deleted_taken c dir d e f no_system = then_taken c (less_entry c dir d e) (unnamed (less_entry c dir d e) e.fid.num f).after (file_taken c dir (record d { entries = without e.name e.ver d.entries })) (unnamed_taken (less_entry c dir d e) e.fid.num f no_system)

entered_taken : (c : Cat) (dir : ℕ) (d : File) (e : DirEnt) (f : File) → StayTaken c (entered c dir d e f)
entered_taken c dir d e f =
    let first = charged c f.owner (cost c f.clusters) in
    let second = with_file first e.fid.num f in
    then_taken c second (with_entries second dir d (inserted e d.entries)) (file_taken first e.fid.num f) (file_taken second dir (record d { entries = inserted e d.entries }))

create_taken : (c : Cat) (dir : ℕ) (d : File) (name : List ℕ) (ver blocks : ℕ) (owner : Uic) (new : Option ℕ) → StayTaken c (create_made c dir d name ver blocks owner new).after
create_taken c dir d name ver blocks owner None = same_taken c
create_taken c dir d name ver blocks owner (Some n) = entered_taken c dir d _ _

mkdir_taken : (c : Cat) (dir : ℕ) (d : File) (name : List ℕ) (owner : Uic) (new : Option ℕ) → StayTaken c (mkdir_made c dir d name owner new).after
mkdir_taken c dir d name owner None = same_taken c
mkdir_taken c dir d name owner (Some n) = entered_taken c dir d _ _

extend_taken : (c : Cat) (n : ℕ) (f : Option File) (blocks : ℕ) (new : Option ℕ) → StayTaken c (extend_of c n f blocks new).after
extend_taken c n None blocks new = same_taken c
extend_taken c n (Some f) blocks new = unless_taken c (extend_refusal c n f blocks new) _ (file_taken (charged c f.owner (c.factor * in_clusters c blocks)) n (grown c f (in_clusters c blocks)))

trunc_taken : (c : Cat) (n : ℕ) (f : Option File) (blocks : ℕ) → StayTaken c (trunc_of c n f blocks).after
trunc_taken c n None blocks = same_taken c
trunc_taken c n (Some f) blocks = if_taken c _ _ _ (same_taken c)
    (file_taken (discharged c f.owner (c.factor * (f.clusters - min f.clusters (in_clusters c blocks)))) n (cut c f (min f.clusters (in_clusters c blocks))))

stat_taken : (c : Cat) (f : Option File) → StayTaken c (stat_of c f).after
stat_taken c None = same_taken c
stat_taken c (Some f) = same_taken c

open_taken : (c : Cat) (node chan n : ℕ) (f : Option File) (mode : Mode) → StayTaken c (open_of c node chan n f mode).after
open_taken c node chan n None mode = same_taken c
open_taken c node chan n (Some f) mode = unless_taken c _ _ (λ i le e. e)

closed_taken : (c : Cat) (n : ℕ) (f : Option File) → nat_le n 11 ≡ false → StayTaken c (closed c n f).after
closed_taken c n None no_system = same_taken c
closed_taken c n (Some f) no_system = if_taken c _ _ _ (freed_taken (discharged c f.owner (cost c f.clusters)) n f no_system) (same_taken c)

-- what is open is no system file
pub open_above : (c : Cat) (node chan : ℕ) (p : Open) → OpensNameFiles c → channel_at c node chan ≡ Some p → nat_le p.file 11 ≡ false
open_above c node chan p names is = let lt : 11 < p.file = (names.files (place node chan) p (channel_in (slice_get c.opens (place node chan)) p is)).above in high p.file lt where
  high : (k : ℕ) → 11 < k → nat_le k 11 ≡ false
  high k lt = grind (arith, nat_tests)

close_taken : (c : Cat) (node chan : ℕ) (o : Option Open) → OpensNameFiles c → channel_at c node chan ≡ o → StayTaken c (close_of c node chan o).after
close_taken c node chan None names is = same_taken c
close_taken c node chan (Some p) names is = closed_taken (with_channel c node chan None) p.file (file_at c p.file) (open_above c node chan p names is)

read_taken : (c : Cat) (f : Option File) (vbn : ℕ) → StayTaken c (read_of c f vbn).after
read_taken c None vbn = same_taken c
read_taken c (Some f) vbn = if_taken c _ _ _ (same_taken c) (same_taken c)

read_open_taken : (c : Cat) (o : Option Open) (vbn : ℕ) → StayTaken c (read_open c o vbn).after
read_open_taken c None vbn = same_taken c
read_open_taken c (Some p) vbn = read_taken c (file_at c p.file) vbn

write_taken : (c : Cat) (n : ℕ) (f : Option File) (vbn : ℕ) (text : List ℕ) → StayTaken c (write_of c n f vbn text).after
write_taken c n None vbn text = same_taken c
write_taken c n (Some f) vbn text = if_taken c _ _ _ (same_taken c) (file_taken c n (written f vbn text))

write_open_taken : (c : Cat) (o : Option Open) (vbn : ℕ) (text : List ℕ) → StayTaken c (write_open c o vbn text).after
write_open_taken c None vbn text = same_taken c
write_open_taken c (Some p) vbn text = if_taken c _ _ _ (same_taken c) (write_taken c p.file (file_at c p.file) vbn text)

quota_taken : (c : Cat) (r : Option QuotaRow) (owner : Uic) (quota over : ℕ) → StayTaken c (quota_set_of c r owner quota over).after
quota_taken c (Some r) owner quota over = λ i le e. e
quota_taken c None owner quota over = if_taken c _ _ _ (same_taken c) (λ i le e. e)

shown_taken : (c : Cat) (r : Option QuotaRow) → StayTaken c (quota_shown c r).after
shown_taken c None = same_taken c
shown_taken c (Some r) = same_taken c

pub outcome_taken : (c : Cat) (node : ℕ) (x : Cmd) (new : Option ℕ) → OpensNameFiles c → StayTaken c (outcome c node x new).after
unfolding outcome lookup_outcome list_outcome stat_outcome create_outcome mkdir_outcome extend_outcome trunc_outcome delete_outcome rename_outcome open_outcome close_outcome read_outcome write_outcome quota_set_outcome quota_show_outcome
outcome_taken c node (cmd.Lookup reg dir name ver) new names = in_taken c (live c dir) _ (λ d. same_taken c)
outcome_taken c node (cmd.List dir) new names = in_taken c (live c dir) _ (λ d. same_taken c)
outcome_taken c node (cmd.Stat file) new names = stat_taken c (live c file)
outcome_taken c node (cmd.Create reg dir name ver blocks owner) new names = in_taken c (live c dir) _ (λ d. unless_taken c (create_refusal c d name ver blocks owner new) _ (create_taken c dir.num d name ver blocks owner new))
outcome_taken c node (cmd.MkDir reg dir name owner) new names = in_taken c (live c dir) _ (λ d. unless_taken c (mkdir_refusal c d (dir_name name) owner new) _ (mkdir_taken c dir.num d (dir_name name) owner new))
outcome_taken c node (cmd.Extend file blocks) new names = extend_taken c file.num (live c file) blocks new
outcome_taken c node (cmd.Trunc file blocks) new names = trunc_taken c file.num (live c file) blocks
outcome_taken c node (cmd.Delete dir name ver) new names = in_taken c (live c dir) _ (λ d. entry_taken c (entry_of (versions name d.entries) ver) _ (λ e no_system. if_taken c (has_entries (in_use c e.fid)) _ _ (same_taken c) (deleted_taken c dir.num d e (in_use c e.fid) no_system)))
outcome_taken c node (cmd.Rename dir name ver to to_ver) new names = in_taken c (live c dir) _ (λ d. entry_taken c (entry_of (versions name d.entries) ver) _ (λ e no_system. unless_taken c (rename_refusal c d to to_ver) _ (file_taken c dir.num _)))
outcome_taken c node (cmd.OpenFile chan file mode) new names = if_taken c _ _ _ (same_taken c) (open_taken c node chan file.num (live c file) mode)
outcome_taken c node (cmd.CloseFile chan) new names = close_taken c node chan (channel_at c node chan) names refl
outcome_taken c node (cmd.ReadBlock chan vbn) new names = read_open_taken c (channel_at c node chan) vbn
outcome_taken c node (cmd.WriteBlock chan vbn text) new names = write_open_taken c (channel_at c node chan) vbn text
outcome_taken c node (cmd.QuotaSet owner quota over) new names = quota_taken c (row_of owner c.quota) owner quota over
outcome_taken c node (cmd.QuotaShow owner) new names = shown_taken c (row_of owner c.quota)

pub answer_taken : (c d : Cat) (node : ℕ) (x : Cmd) (r : Reply) → OpensNameFiles c → Answer c node x r d → StayTaken c d
answer_taken c d node x r names a = subst (λ (o : Outcome). StayTaken c o.after) a.2 (outcome_taken c node x a.0 names)
