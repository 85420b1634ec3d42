-- What an answer makes of a catalogue in its one form.
use Rattle.std.proofs.Common.{◌≡◌, ◌==◌, ◌+◌, ◌-◌, ◌*◌, ◌∙◌, ℕ, Bool, true, false, cond, not, min, List, [], ◌∷◌, Option, Some, None, length, map, slice_get, slice_set, nat_le, refl, sym, subst}
use Rattle.std.proofs.lemmas.List.{length-set}
use Rattle.std.proofs.lemmas.List.Elements.{All-set}
use Rattle.std.proofs.lemmas.Option.{slice_get_within, get_or_from_slice_get}
use Rattle.plain_cat.specs.declared.ids.Fid.{Fid}
use Rattle.plain_cat.specs.declared.ids.Uic.{Uic}
use Rattle.plain_cat.specs.declared.mode.Mode.{Mode}
use Rattle.plain_cat.specs.declared.entries.DirEnt.{DirEnt}
use Rattle.plain_cat.specs.declared.command.Cmd.{Cmd}
use Rattle.plain_cat.specs.declared.command.Cmd.TheVariants as cmd
use Rattle.plain_cat.specs.declared.reply.Refusal.{Refusal}
use Rattle.plain_cat.specs.declared.reply.Refusal.TheVariants as refusal
use Rattle.plain_cat.specs.declared.cat.Cat.{Cat}
use Rattle.plain_cat.specs.declared.cat.File.{File}
use Rattle.plain_cat.specs.declared.cat.Slot.{Slot}
use Rattle.plain_cat.specs.declared.cat.Slot.TheVariants.{Used, Free}
use Rattle.plain_cat.specs.declared.cat.Open.{Open}
use Rattle.plain_cat.specs.declared.cat.QuotaRow.{QuotaRow}
use Rattle.plain_rules.specs.declared.outcome.Outcome.{Outcome}
use Rattle.plain_rules.specs.Lookups.{file_at, in_use, live, versions, entry_of, channel_at, place, row_of}
use Rattle.plain_rules.specs.Directories.{inserted, without, fits, entry, nowhere, is_entry, is_nil, is_last_version, is_taken, new_version}
use Rattle.plain_rules.specs.Changes.{in_clusters, cost, with_slot, with_file, raised, lowered, charged, discharged, new_fid, new_file, new_dir, grown, cut, marked_up, written, with_channel, with_row, allowed}
use Rattle.plain_rules.specs.Answers.{refused, unless, in_directory_file, with_entry, entered, lookup_outcome, list_outcome, stat_of, stat_outcome, create_checks, create_refusal, create_made, create_outcome, dir_name, mkdir_checks, mkdir_refusal, mkdir_made, mkdir_outcome, extend_refusal, extend_of, extend_outcome, trunc_of, trunc_outcome, less_entry, unnamed, delete_outcome, rename_refusal, rename_outcome, open_of, open_outcome, closed, close_of, close_outcome, read_of, read_open, read_outcome, write_of, write_open, write_outcome, quota_set_of, quota_set_outcome, quota_shown, quota_show_outcome, outcome}
use Rattle.plain_rules.specs.OneForm.{rises, HasOrder, HasOneForm}
use Rattle.plain_rules.proofs.Standing.{stands_at, stands_in_use, stands_live}
use Rattle.plain_rules.proofs.Kept.{are_false}
use Rattle.plain_rules.proofs.Ordered.{rises_kept, is_absent, rises_inserted, untaken_absent, unnamed_absent, absent_kept, rows_map, rows_with}

-- ---- one part changes

pub form_slot : (c : Cat) (n : ℕ) (s : Slot) → HasOneForm c → HasOrder s → HasOneForm (with_slot c n s)
form_slot c n s f h = record {
  entries = All-set HasOrder c.files (n - 1) s h f.entries;
  rows = f.rows;
  opens = f.opens;
  flags = f.flags ∙ sym (length-set c.files (n - 1) s);
}

pub form_rows : (c : Cat) (g : QuotaRow → QuotaRow) → ((r : QuotaRow) → (g r).owner ≡ r.owner) → HasOneForm c → HasOneForm (record c { quota = map g c.quota })
form_rows c g same f = record { entries = f.entries; rows = rows_map g same c.quota f.rows; opens = f.opens; flags = f.flags }

form_row : (c : Cat) (row : QuotaRow) → row_of row.owner c.quota ≡ None → HasOneForm c → HasOneForm (record c { quota = with_row row c.quota })
form_row c row none f = record { entries = f.entries; rows = rows_with row c.quota none f.rows; opens = f.opens; flags = f.flags }

pub form_opens : (c : Cat) (os : List (Option Open)) → length os ≡ length c.opens → HasOneForm c → HasOneForm (record c { opens = os })
form_opens c os same f = record { entries = f.entries; rows = f.rows; opens = same ∙ f.opens; flags = f.flags }

form_channel : (c : Cat) (node chan : ℕ) (o : Option Open) → HasOneForm c → HasOneForm (with_channel c node chan o)
form_channel c node chan o f = form_opens c (slice_set c.opens (place node chan) o) (length-set c.opens (place node chan) o) f

owner_if : (b : Bool) (x r : QuotaRow) → x.owner ≡ r.owner → (cond b x r).owner ≡ r.owner
owner_if true x r h = h
owner_if false x r h = refl

pub form_charged : (c : Cat) (owner : Uic) (k : ℕ) → HasOneForm c → HasOneForm (charged c owner k)
form_charged c owner k f = form_rows c (raised owner k) (λ r. owner_if (r.owner.0 == owner.0) (record r { usage = r.usage + k }) r refl) f

pub form_discharged : (c : Cat) (owner : Uic) (k : ℕ) → HasOneForm c → HasOneForm (discharged c owner k)
form_discharged c owner k f = form_rows c (lowered owner k) (λ r. owner_if (r.owner.0 == owner.0) (record r { usage = r.usage - k }) r refl) f

-- the entries of a file that stands are in order
pub stands_in_order : (c : Cat) (n : ℕ) (f : File) → HasOneForm c → slice_get c.files (n - 1) ≡ Some (Used f) → rises f.entries ≡ true
stands_in_order c n f h at =
    subst HasOrder (get_or_from_slice_get c.files (n - 1) (Used f) (Used f) at) (h.entries (n - 1) (Used f) (slice_get_within c.files (n - 1) (Used f) at))

-- ---- outcomes

form_if : (b : Bool) (o p : Outcome) → HasOneForm o.after → HasOneForm p.after → HasOneForm (cond b o p).after
form_if true o p h k = h
form_if false o p h k = k

form_unless : (c : Cat) (r : Option Refusal) (o : Outcome) → HasOneForm c → (r ≡ None → HasOneForm o.after) → HasOneForm (unless c r o).after
form_unless c None o f h = h refl
form_unless c (Some r) o f h = f

form_in : (c : Cat) (d : Option File) (next : File → Outcome) → HasOneForm c → ((x : File) → d ≡ Some x → HasOneForm (next x).after)
    → HasOneForm (in_directory_file c d next).after
form_in c None next f h = f
form_in c (Some d) next f h = form_if d.dir (next d) (refused c refusal.NotDir) (h d refl) f

form_entry : (c : Cat) (e : Option DirEnt) (next : DirEnt → Outcome) → HasOneForm c → ((x : DirEnt) → HasOneForm (next x).after) → HasOneForm (with_entry c e next).after
form_entry c None next f h = f
form_entry c (Some e) next f h = form_if (nat_le e.fid.num 11) (refused c refusal.NoPriv) (next e) f (h e)

-- a new file with its entry
entered_form : (c : Cat) (dir : ℕ) (d : File) (e : DirEnt) (f : File) → HasOneForm c → rises d.entries ≡ true → is_absent e.name e.ver d.entries ≡ true → rises f.entries ≡ true
    → HasOneForm (entered c dir d e f)
entered_form c dir d e f h order absent new =
    form_slot (with_file (charged c f.owner (cost c f.clusters)) e.fid.num f) dir (Used (record d { entries = inserted e d.entries }))
    (form_slot (charged c f.owner (cost c f.clusters)) e.fid.num (Used f) (form_charged c f.owner (cost c f.clusters) h) new) (rises_inserted e d.entries order absent)

create_absent : (c : Cat) (d : File) (name : List ℕ) (ver blocks : ℕ) (owner : Uic) (new : Option ℕ) → create_refusal c d name ver blocks owner new ≡ None
    → is_absent name (new_version ver (versions name d.entries)) d.entries ≡ true
unfolding create_refusal
create_absent c d name ver blocks owner new h =
    let f = are_false (create_checks c d name ver blocks owner new) h in
    untaken_absent name (new_version ver (versions name d.entries)) d.entries f.1.0

create_made_form : (c : Cat) (dir : ℕ) (d : File) (name : List ℕ) (ver blocks : ℕ) (owner : Uic) (new : Option ℕ) → HasOneForm c → rises d.entries ≡ true
    → is_absent name (new_version ver (versions name d.entries)) d.entries ≡ true → HasOneForm (create_made c dir d name ver blocks owner new).after
create_made_form c dir d name ver blocks owner None f order absent = f
create_made_form c dir d name ver blocks owner (Some n) f order absent =
    entered_form c dir d (entry name (new_version ver (versions name d.entries)) (new_fid c n)) (new_file (new_fid c n).seq owner (in_clusters c blocks)) f order absent refl

create_form : (c : Cat) (dir : Fid) (name : List ℕ) (ver blocks : ℕ) (owner : Uic) (new : Option ℕ) → HasOneForm c → HasOneForm (create_outcome c dir name ver blocks owner new).after
unfolding create_outcome
create_form c dir name ver blocks owner new f = form_in c (live c dir) _ f (λ d at.
    form_unless c (create_refusal c d name ver blocks owner new) (create_made c dir.num d name ver blocks owner new) f (λ passed.
    create_made_form c dir.num d name ver blocks owner new f (stands_in_order c dir.num d f (stands_live c dir d at)) (create_absent c d name ver blocks owner new passed)))

nil_of : (b : Bool) → not b ≡ false → b ≡ true
nil_of true h = refl
nil_of false h = absurd (cc h)

mkdir_absent : (c : Cat) (d : File) (name : List ℕ) (owner : Uic) (new : Option ℕ) → mkdir_refusal c d name owner new ≡ None → is_absent name 1 d.entries ≡ true
unfolding mkdir_refusal
mkdir_absent c d name owner new h =
    let f = are_false (mkdir_checks c d name owner new) h in
    unnamed_absent name 1 d.entries (nil_of (is_nil (versions name d.entries)) f.0)

mkdir_made_form : (c : Cat) (dir : ℕ) (d : File) (name : List ℕ) (owner : Uic) (new : Option ℕ) → HasOneForm c → rises d.entries ≡ true → is_absent name 1 d.entries ≡ true
    → HasOneForm (mkdir_made c dir d name owner new).after
mkdir_made_form c dir d name owner None f order absent = f
mkdir_made_form c dir d name owner (Some n) f order absent =
    entered_form c dir d (entry name 1 (new_fid c n)) (new_dir (new_fid c n).seq owner c.factor) f order absent refl

mkdir_form : (c : Cat) (dir : Fid) (name : List ℕ) (owner : Uic) (new : Option ℕ) → HasOneForm c → HasOneForm (mkdir_outcome c dir name owner new).after
unfolding mkdir_outcome
mkdir_form c dir name owner new f = form_in c (live c dir) _ f (λ d at.
    form_unless c (mkdir_refusal c d (dir_name name) owner new) (mkdir_made c dir.num d (dir_name name) owner new) f (λ passed.
    mkdir_made_form c dir.num d (dir_name name) owner new f (stands_in_order c dir.num d f (stands_live c dir d at)) (mkdir_absent c d (dir_name name) owner new passed)))

stat_form : (c : Cat) (f : Option File) → HasOneForm c → HasOneForm (stat_of c f).after
stat_form c None f = f
stat_form c (Some x) f = f

extend_form : (c : Cat) (n : ℕ) (f : Option File) (blocks : ℕ) (new : Option ℕ) → HasOneForm c → ((g : File) → f ≡ Some g → rises g.entries ≡ true) → HasOneForm (extend_of c n f blocks new).after
extend_form c n None blocks new h order = h
extend_form c n (Some f) blocks new h order = form_unless c (extend_refusal c n f blocks new) _ h (λ passed.
    form_slot (charged c f.owner (c.factor * in_clusters c blocks)) n (Used (grown c f (in_clusters c blocks))) (form_charged c f.owner (c.factor * in_clusters c blocks) h) (order f refl))

trunc_form : (c : Cat) (n : ℕ) (f : Option File) (blocks : ℕ) → HasOneForm c → ((g : File) → f ≡ Some g → rises g.entries ≡ true) → HasOneForm (trunc_of c n f blocks).after
trunc_form c n None blocks h order = h
trunc_form c n (Some f) blocks h order =
    let k = min f.clusters (in_clusters c blocks) in
    form_if _ _ _ h (form_slot (discharged c f.owner (c.factor * (f.clusters - k))) n (Used (cut c f k)) (form_discharged c f.owner (c.factor * (f.clusters - k)) h) (order f refl))

-- a directory with fewer entries
less_form : (c : Cat) (dir : ℕ) (d : File) (e : DirEnt) → HasOneForm c → rises d.entries ≡ true → HasOneForm (less_entry c dir d e)
less_form c dir d e f order =
    form_slot c dir (Used (record d { entries = without e.name e.ver d.entries })) f (rises_kept (λ x. not (is_entry e.name e.ver x)) d.entries order)

unnamed_form : (c : Cat) (n : ℕ) (f : Option File) → HasOneForm c → ((g : File) → f ≡ Some g → rises g.entries ≡ true) → HasOneForm (unnamed c n f).after
unnamed_form c n None h order = h
unnamed_form c n (Some f) h order = form_if _ _ _
    (form_slot c n (Used (record f { marked = true })) h (order f refl))
    (form_slot (discharged c f.owner (cost c f.clusters)) n (Free f.seq) (form_discharged c f.owner (cost c f.clusters) h) tt)

delete_form : (c : Cat) (dir : Fid) (name : List ℕ) (ver : ℕ) → HasOneForm c → HasOneForm (delete_outcome c dir name ver).after
unfolding delete_outcome
delete_form c dir name ver f = form_in c (live c dir) _ f (λ d at.
    form_entry c (entry_of (versions name d.entries) ver) _ f (λ e. form_if _ _ _ f
    (unnamed_form (less_entry c dir.num d e) e.fid.num (in_use c e.fid) (less_form c dir.num d e f (stands_in_order c dir.num d f (stands_live c dir d at)))
    (λ g own. stands_in_order c e.fid.num g f (stands_in_use c e.fid g own)))))

rename_absent : (c : Cat) (d : File) (to : List ℕ) (to_ver : ℕ) → rename_refusal c d to to_ver ≡ None → is_absent to (new_version to_ver (versions to d.entries)) d.entries ≡ true
unfolding rename_refusal
rename_absent c d to to_ver h =
    let v = new_version to_ver (versions to d.entries) in
    let f = are_false (
    (is_last_version to_ver (versions to d.entries), refusal.BadVersion)
    ∷ (is_taken v (versions to d.entries), refusal.DupFile)
    ∷ (not (fits c.factor (inserted (entry to v nowhere) d.entries)), refusal.DirFull)
    ∷ []) h in
    untaken_absent to v d.entries f.1.0

rename_form : (c : Cat) (dir : Fid) (name : List ℕ) (ver : ℕ) (to : List ℕ) (to_ver : ℕ) → HasOneForm c → HasOneForm (rename_outcome c dir name ver to to_ver).after
unfolding rename_outcome
rename_form c dir name ver to to_ver f = form_in c (live c dir) _ f (λ d at.
    form_entry c (entry_of (versions name d.entries) ver) _ f (λ e. form_unless c (rename_refusal c d to to_ver) _ f (λ passed.
    let order = stands_in_order c dir.num d f (stands_live c dir d at) in
    let v = new_version to_ver (versions to d.entries) in
    let left = without e.name e.ver d.entries in
    form_slot c dir.num (Used (record d { entries = inserted (entry to v e.fid) left })) f
    (rises_inserted (entry to v e.fid) left (rises_kept (λ x. not (is_entry e.name e.ver x)) d.entries order)
    (absent_kept to v (λ x. not (is_entry e.name e.ver x)) d.entries (rename_absent c d to to_ver passed))))))

open_form : (c : Cat) (node chan n : ℕ) (f : Option File) (mode : Mode) → HasOneForm c → HasOneForm (open_of c node chan n f mode).after
open_form c node chan n None mode h = h
open_form c node chan n (Some f) mode h = form_unless c _ _ h (λ passed. form_channel c node chan (Some (record { file = n; mode = mode })) h)

closed_form : (c : Cat) (n : ℕ) (f : Option File) → HasOneForm c → HasOneForm (closed c n f).after
closed_form c n None h = h
closed_form c n (Some f) h = form_if _ _ _ (form_slot (discharged c f.owner (cost c f.clusters)) n (Free f.seq) (form_discharged c f.owner (cost c f.clusters) h) tt) h

close_form : (c : Cat) (node chan : ℕ) (o : Option Open) → HasOneForm c → HasOneForm (close_of c node chan o).after
close_form c node chan None h = h
close_form c node chan (Some o) h = closed_form (with_channel c node chan None) o.file (file_at c o.file) (form_channel c node chan None h)

read_form : (c : Cat) (f : Option File) (vbn : ℕ) → HasOneForm c → HasOneForm (read_of c f vbn).after
read_form c None vbn h = h
read_form c (Some f) vbn h = form_if _ _ _ h h

read_open_form : (c : Cat) (o : Option Open) (vbn : ℕ) → HasOneForm c → HasOneForm (read_open c o vbn).after
read_open_form c None vbn h = h
read_open_form c (Some o) vbn h = read_form c (file_at c o.file) vbn h

entries_if : (b : Bool) (f g : File) → g.entries ≡ f.entries → (cond b g f).entries ≡ f.entries
entries_if true f g h = h
entries_if false f g h = refl

written_entries : (f : File) (vbn : ℕ) (text : List ℕ) → (written f vbn text).entries ≡ f.entries
written_entries f vbn text = entries_if _ (marked_up f vbn) _ refl ∙ entries_if _ f _ refl

write_form : (c : Cat) (n : ℕ) (f : Option File) (vbn : ℕ) (text : List ℕ) → HasOneForm c → ((g : File) → f ≡ Some g → rises g.entries ≡ true)
    → HasOneForm (write_of c n f vbn text).after
write_form c n None vbn text h order = h
write_form c n (Some f) vbn text h order = form_if _ _ _ h
    (form_slot c n (Used (written f vbn text)) h (subst (λ (es : List DirEnt). rises es ≡ true) (sym (written_entries f vbn text)) (order f refl)))

write_open_form : (c : Cat) (o : Option Open) (vbn : ℕ) (text : List ℕ) → HasOneForm c → HasOneForm (write_open c o vbn text).after
write_open_form c None vbn text h = h
write_open_form c (Some o) vbn text h = form_if _ _ _ h
    (write_form c o.file (file_at c o.file) vbn text h (λ g at. stands_in_order c o.file g h (stands_at c o.file g at)))

quota_set_form : (c : Cat) (r : Option QuotaRow) (owner : Uic) (quota over : ℕ) → HasOneForm c → row_of owner c.quota ≡ r → HasOneForm (quota_set_of c r owner quota over).after
quota_set_form c (Some x) owner quota over f is =
    form_rows c (allowed owner quota over) (λ r. owner_if (r.owner.0 == owner.0) (record r { quota = quota; over = over }) r refl) f
quota_set_form c None owner quota over f is = form_if _ _ _ f (form_row c (record { owner = owner; usage = 0; quota = quota; over = over }) is f)

quota_show_form : (c : Cat) (r : Option QuotaRow) → HasOneForm c → HasOneForm (quota_shown c r).after
quota_show_form c None f = f
quota_show_form c (Some r) f = f

-- the catalogue after any answer has the form again
pub outcome_form : (c : Cat) (node : ℕ) (x : Cmd) (new : Option ℕ) → HasOneForm c → HasOneForm (outcome c node x new).after
unfolding outcome lookup_outcome list_outcome stat_outcome extend_outcome trunc_outcome open_outcome close_outcome read_outcome write_outcome quota_set_outcome quota_show_outcome
outcome_form c node (cmd.Lookup reg dir name ver) new f = form_in c (live c dir) _ f (λ d at. f)
outcome_form c node (cmd.List dir) new f = form_in c (live c dir) _ f (λ d at. f)
outcome_form c node (cmd.Stat file) new f = stat_form c (live c file) f
outcome_form c node (cmd.Create reg dir name ver blocks owner) new f = create_form c dir name ver blocks owner new f
outcome_form c node (cmd.MkDir reg dir name owner) new f = mkdir_form c dir name owner new f
outcome_form c node (cmd.Extend file blocks) new f = extend_form c file.num (live c file) blocks new f (λ g at. stands_in_order c file.num g f (stands_live c file g at))
outcome_form c node (cmd.Trunc file blocks) new f = trunc_form c file.num (live c file) blocks f (λ g at. stands_in_order c file.num g f (stands_live c file g at))
outcome_form c node (cmd.Delete dir name ver) new f = delete_form c dir name ver f
outcome_form c node (cmd.Rename dir name ver to to_ver) new f = rename_form c dir name ver to to_ver f
outcome_form c node (cmd.OpenFile chan file mode) new f = form_if _ _ _ f (open_form c node chan file.num (live c file) mode f)
outcome_form c node (cmd.CloseFile chan) new f = close_form c node chan (channel_at c node chan) f
outcome_form c node (cmd.ReadBlock chan vbn) new f = read_open_form c (channel_at c node chan) vbn f
outcome_form c node (cmd.WriteBlock chan vbn text) new f = write_open_form c (channel_at c node chan) vbn text f
outcome_form c node (cmd.QuotaSet owner quota over) new f = quota_set_form c (row_of owner c.quota) owner quota over f refl
outcome_form c node (cmd.QuotaShow owner) new f = quota_show_form c (row_of owner c.quota) f
