-- Answers keep a catalogue tidy.
use Rattle.std.proofs.Common.{◌≡◌, ◌&&◌, ◌-◌, ◌+◌, ◌*◌, ◌<◌, ◌≤◌, ◌⊎◌, inl, inr, ◌∙◌, ℕ, Bool, true, false, cond, not, min, List, [], ◌∷◌, Option, Some, None, map, nat_le, refl, sym, ap, subst, arith}
use Rattle.std.specs.Prelude.{is_some, length}
use Rattle.std.specs.List.{list_any}
use Rattle.std.proofs.lemmas.Bool.{and_parts, cases_lt, cases_eq, eq-eqb}
use Rattle.std.proofs.lemmas.Bool.Decides.{nat_tests}
use Rattle.plain_cat.specs.declared.ids.Fid.{Fid}
use Rattle.plain_cat.specs.declared.ids.Uic.{Uic}
use Rattle.plain_cat.specs.declared.mode.Mode.{Mode}
use Rattle.plain_cat.specs.declared.entries.DirEnt.{DirEnt}
use Rattle.plain_cat.specs.declared.command.Cmd.{Cmd}
use Rattle.plain_cat.specs.declared.command.Cmd.TheVariants as cmd
use Rattle.plain_cat.specs.declared.reply.Reply.{Reply}
use Rattle.plain_cat.specs.declared.reply.Reply.TheVariants as reply
use Rattle.plain_cat.specs.declared.reply.Refusal.{Refusal}
use Rattle.plain_cat.specs.declared.reply.Refusal.TheVariants as refusal
use Rattle.plain_cat.specs.declared.cat.Cat.{Cat}
use Rattle.plain_cat.specs.declared.cat.File.{File}
use Rattle.plain_cat.specs.declared.cat.Slot.{Slot}
use Rattle.plain_cat.specs.declared.cat.Slot.TheVariants.{Used, Free}
use Rattle.plain_cat.specs.declared.cat.Open.{Open}
use Rattle.plain_cat.specs.declared.cat.QuotaRow.{QuotaRow}
use Rattle.plain_rules.specs.declared.outcome.Outcome.{Outcome}
use Rattle.plain_rules.specs.declared.places.Place.{Place}
use Rattle.plain_rules.specs.Lookups.{slot_at, last_seq, file_at, of_seq, in_use, live, versions, entry_of, channel_at, is_open, row_of, is_free_number}
use Rattle.plain_rules.specs.Directories.{is_nil, entry, new_version, is_taken}
use Rattle.plain_rules.specs.Changes.{in_clusters, cost, with_file, charged, discharged, new_fid, new_file, new_dir, grown, cut, block_of, is_past_mark, marked_up, written, with_channel, with_row, allowed}
use Rattle.plain_rules.specs.Answers.{told, refused, first_refusal, unless, in_directory_file, lookup_outcome, list_outcome, stat_of, stat_outcome, create_refusal, create_made, create_outcome, dir_name, mkdir_refusal, mkdir_made, mkdir_outcome, extend_refusal, extended, extend_of, extend_outcome, is_kept, truncated, trunc_of, trunc_outcome, removed, entered, with_entry, has_entries, unnamed, less_entry, delete_outcome, rename_refusal, rename_outcome, conflicts, open_of, open_outcome, closed, close_of, close_outcome, is_outside, read_of, read_open, read_outcome, is_reading, write_of, write_open, write_outcome, quota_set_of, quota_set_outcome, quota_shown, quota_show_outcome, outcome, IsPick, Answer}
use Rattle.plain_rules.proofs.Picks.{pick_is_free}
use Rattle.plain_rules.proofs.Standing.{stands_at, stands_free}
use Rattle.base_words.specs.Lists.{Has}
use Rattle.plain_laws.proofs.Standing.{file_from, file_other, set_same}
use Rattle.plain_laws.proofs.Places.{In}
use Rattle.plain_mends.specs.Sound.{IsSound}
use Rattle.plain_mends.proofs.SoundAnswers.{live_parts, used_part, entry_has, channel_sound, create_may, mkdir_may, rename_may, less_at, answer_sound}
use Rattle.plain_tidy.specs.Tidy.{IsTidy}
use Rattle.plain_tidy.proofs.Neat.{Neat, neat_from, tidy_from}
use Rattle.plain_tidy.proofs.Edits.{placed_neat, nobody_names, gone_neat, data_neat}
use Rattle.plain_tidy.proofs.Entries.{Leaves, leaves_neat, nobody_left, renamed_neat, enters_neat}

-- a catalogue in order that is tidy is tidy afterwards
abbrev Keeps : Cat → Cat → Type 0
Keeps c d = IsSound c → Neat c 0 → Neat d 0

same_keeps : (c : Cat) → Keeps c c
same_keeps c s h = h

-- ---- rows, channels and leaks change, and no file

in_beside : (c d : Cat) → d.files ≡ c.files → (p : Place) → In d p → In c p
in_beside c d files p i = record { file = i.file; at = sym (ap (λ (fs : List Slot). file_at (record c { files = fs }) p.dir) files) ∙ i.at; dir = i.dir; entry = i.entry }

pub beside_neat : (c d : Cat) (k : ℕ) → d.files ≡ c.files → Neat c k → Neat d k
beside_neat c d k files h = record {
  placed = λ n f e at has. h.placed n f e (sym (here n) ∙ at) has;
  one = λ p q i j same high. h.one p q (in_beside c d files p i) (in_beside c d files q j) same high;
  own = λ p i low. h.own p (in_beside c d files p i) low;
  alive = λ p i. let a = h.alive p (in_beside c d files p i) in record { file = a.file; at = here p.entry.fid.num ∙ a.at; seq = a.seq; free = a.free };
  keyed = λ p q i j m. h.keyed p q (in_beside c d files p i) (in_beside c d files q j) m;
  named = λ n f at free apart.
      let w = h.named n f (sym (here n) ∙ at) free apart in
      record { place = w.place; within = in_beside d c (sym files) w.place w.within; same = w.same };
} where
  here : (n : ℕ) → file_at d n ≡ file_at c n
  here n = ap (λ (fs : List Slot). file_at (record c { files = fs }) n) files

-- ---- by cases

if_keeps : (c : Cat) (t : Bool) (x y : Outcome) → (t ≡ true → Keeps c x.after) → (t ≡ false → Keeps c y.after) → Keeps c (cond t x y).after
if_keeps c true x y h k = h refl
if_keeps c false x y h k = k refl

unless_keeps : (c : Cat) (r : Option Refusal) (o : Outcome) → (r ≡ None → Keeps c o.after) → Keeps c (unless c r o).after
unless_keeps c None o h = h refl
unless_keeps c (Some r) o h = same_keeps c

in_keeps : (c : Cat) (f : Option File) (next : File → Outcome) → ((d : File) → f ≡ Some d → d.dir ≡ true → Keeps c (next d).after) → Keeps c (in_directory_file c f next).after
in_keeps c None next h = same_keeps c
in_keeps c (Some d) next h = if_keeps c d.dir (next d) (refused c refusal.NotDir) (h d refl) (λ e. same_keeps c)

entry_keeps : (c : Cat) (e : Option DirEnt) (next : DirEnt → Outcome) → ((x : DirEnt) → e ≡ Some x → 11 < x.fid.num → Keeps c (next x).after) → Keeps c (with_entry c e next).after
entry_keeps c None next h = same_keeps c
entry_keeps c (Some e) next h = if_keeps c (nat_le e.fid.num 11) (refused c refusal.NoPriv) (next e) (λ k. same_keeps c) (λ k. h e refl (above e.fid.num k)) where
  above : (n : ℕ) → nat_le n 11 ≡ false → 11 < n
  above n e = grind (arith, nat_tests)

-- ---- new files

-- a free number is above those of the system
free_high : (c : Cat) (n : ℕ) → IsSound c → is_free_number c n ≡ true → 11 < n
free_high c n s free = by_case (cases_lt 11 n) (cases_eq n 0) where
  by_case : (11 < n) ⊎ (n ≤ 11) → (n ≡ 0) ⊎ (n ≡ 0 → ⊥) → 11 < n
  by_case (inl high) other = high
  by_case (inr low) (inl none) = let both : false ≡ true = subst (λ (k : ℕ). is_free_number c k ≡ true) none free in absurd (cc both)
  by_case (inr low) (inr some) =
      let r = s.systems n (omega (arith, some)) low in
      let both : Some (Free (last_seq (slot_at c n))) ≡ Some (Used r.0) = sym (stands_free c n free) ∙ stands_at c n r.0 r.1 in
      absurd (cc both)

no_file : (c : Cat) (n : ℕ) (f : File) → is_free_number c n ≡ true → file_at c n ≡ Some f → ⊥
no_file c n f free at = let both : Some (Free (last_seq (slot_at c n))) ≡ Some (Used f) = sym (stands_free c n free) ∙ stands_at c n f at in absurd (cc both)

entered_keeps : (c : Cat) (dir : ℕ) (d : File) (e : DirEnt) (f : File) → file_at c dir ≡ Some d → d.dir ≡ true → is_free_number c e.fid.num ≡ true → f.entries ≡ [] → f.seq ≡ e.fid.seq → f.marked ≡ false
    → is_taken e.ver (versions e.name d.entries) ≡ false → Keeps c (entered c dir d e f)
entered_keeps c dir d e f at is free bare seq unmarked untaken s h =
    enters_neat c1 dir d e f at1 is high own seq unmarked (nobody_names c0 n f rises none bare h0) untaken (placed_neat c0 n f rises none bare h0)
  where
    n : ℕ
    n = e.fid.num

    c0 : Cat
    c0 = charged c f.owner (cost c f.clusters)

    c1 : Cat
    c1 = with_file c0 n f

    high : 11 < n
    high = free_high c n s free

    rises : 0 < n
    rises = omega (arith, high)

    none : (g : File) → file_at c0 n ≡ Some g → ⊥
    none g there = no_file c n g free there

    h0 : Neat c0 0
    h0 = beside_neat c c0 0 refl h

    apart : dir ≡ n → ⊥
    apart e = no_file c n d free (ap (λ k. file_at c k) (sym e) ∙ at)

    at1 : file_at c1 dir ≡ Some d
    at1 = file_other c0 n dir (Used f) rises apart ∙ at

    own : file_at c1 n ≡ Some f
    own = file_from c1 n f rises (set_same c.files (n - 1) (Used f) (Free (last_seq (slot_at c n))) (stands_free c n free))

create_keeps : (c : Cat) (dir : ℕ) (d : File) (name : List ℕ) (ver blocks : ℕ) (owner : Uic) (new : Option ℕ) → IsPick c new → file_at c dir ≡ Some d → d.dir ≡ true
    → is_taken (new_version ver (versions name d.entries)) (versions name d.entries) ≡ false → Keeps c (create_made c dir d name ver blocks owner new).after
create_keeps c dir d name ver blocks owner None pick at is untaken = same_keeps c
create_keeps c dir d name ver blocks owner (Some n) pick at is untaken =
    entered_keeps c dir d (entry name (new_version ver (versions name d.entries)) (new_fid c n)) (new_file (new_fid c n).seq owner (in_clusters c blocks)) at is (pick_is_free c n pick) refl refl refl untaken

mkdir_keeps : (c : Cat) (dir : ℕ) (d : File) (name : List ℕ) (owner : Uic) (new : Option ℕ) → IsPick c new → file_at c dir ≡ Some d → d.dir ≡ true
    → is_taken 1 (versions name d.entries) ≡ false → Keeps c (mkdir_made c dir d name owner new).after
mkdir_keeps c dir d name owner None pick at is untaken = same_keeps c
mkdir_keeps c dir d name owner (Some n) pick at is untaken =
    entered_keeps c dir d (entry name 1 (new_fid c n)) (new_dir (new_fid c n).seq owner c.factor) at is (pick_is_free c n pick) refl refl refl untaken

-- ---- files that change, and files that go

stat_keeps : (c : Cat) (f : Option File) → Keeps c (stat_of c f).after
stat_keeps c None = same_keeps c
stat_keeps c (Some f) = same_keeps c

extend_keeps : (c : Cat) (n : ℕ) (f : Option File) (blocks : ℕ) (new : Option ℕ) → ((g : File) → f ≡ Some g → file_at c n ≡ Some g) → Keeps c (extend_of c n f blocks new).after
extend_keeps c n None blocks new at = same_keeps c
extend_keeps c n (Some f) blocks new at = unless_keeps c (extend_refusal c n f blocks new) (extended c n f (in_clusters c blocks)) (λ passed s h.
    let k : ℕ = in_clusters c blocks in
    let c0 : Cat = charged c f.owner (c.factor * k) in
    data_neat c0 0 n f (grown c f k) (at f refl) refl refl refl refl (beside_neat c c0 0 refl h))

trunc_keeps : (c : Cat) (n : ℕ) (f : Option File) (blocks : ℕ) → ((g : File) → f ≡ Some g → file_at c n ≡ Some g) → Keeps c (trunc_of c n f blocks).after
trunc_keeps c n None blocks at = same_keeps c
trunc_keeps c n (Some f) blocks at =
    let k : ℕ = min f.clusters (in_clusters c blocks) in
    if_keeps c (is_kept n f) (refused c refusal.NoPriv) (truncated c n f k) (λ e. same_keeps c) (λ e s h.
    let c0 : Cat = discharged c f.owner (c.factor * (f.clusters - k)) in
    data_neat c0 0 n f (cut c f k) (at f refl) refl refl refl refl (beside_neat c c0 0 refl h))

-- a file without entries has none
pub no_entry : (f : File) → has_entries (Some f) ≡ false → (x : DirEnt) → f.dir ≡ true → Has f.entries x → ⊥
no_entry f bare x is has =
    let full : has_entries (Some f) ≡ true = ap (λ b. b && not (is_nil f.entries)) is ∙ ap not (not_nil f.entries has) in
    let both : true ≡ false = sym full ∙ bare in
    absurd (cc both)
  where
    not_nil : (es : List DirEnt) → Has es x → is_nil es ≡ false
    not_nil [] k = absurd k
    not_nil (y ∷ ys) k = refl

removed_neat : (c : Cat) (k n : ℕ) (f : File) → file_at c n ≡ Some f → ((x : DirEnt) → f.dir ≡ true → Has f.entries x → ⊥) → ((p : Place) → In c p → p.entry.fid.num ≡ n → ⊥) → ((m : ℕ) → (m ≡ n → ⊥) → m ≡ k → m ≡ 0)
    → Neat c k → Neat (removed c n f) 0
removed_neat c k n f at bare nobody only h =
    let c0 : Cat = discharged c f.owner (cost c f.clusters) in
    gone_neat c0 k n f (Free f.seq) at bare (λ p i. nobody p (in_beside c c0 refl p i)) (λ g is. absurd (cc is)) only (beside_neat c c0 k refl h)

unnamed_keeps : (c : Cat) (dir : ℕ) (d : File) (e : DirEnt) (f : Option File) → Leaves c dir d e → d.marked ≡ false → in_use c e.fid ≡ f → has_entries f ≡ false
    → Keeps c (unnamed (less_entry c dir d e) e.fid.num f).after
unnamed_keeps c dir d e None l free own bare s h =
    let a = h.alive (record { dir = dir; entry = e }) (record { file = d; at = l.at; dir = l.dir; entry = l.has }) in
    let there : in_use c e.fid ≡ Some a.file = ap (λ o. of_seq e.fid.seq o) a.at ∙ ap (λ b. cond b (Some a.file) None) (eq-eqb a.file.seq e.fid.seq a.seq) in
    let both : None ≡ Some a.file = sym own ∙ there in
    absurd (cc both)
unnamed_keeps c dir d e (Some f) l free own bare s h =
    let less : Cat = less_entry c dir d e in
    let n : ℕ = e.fid.num in
    if_keeps c (is_open less n) (told (with_file less n (record f { marked = true })) reply.Marked) (told (removed less n f) reply.Deleted)
    (λ k s h. gone_neat less n n f (Used (record f { marked = true })) there (no_entry f bare) (nobody_left c dir d e l h) marks (λ m other is. absurd (other is)) (leaves_neat c dir d e l h))
    (λ k s h. removed_neat less n n f there (no_entry f bare) (nobody_left c dir d e l h) (λ m other is. absurd (other is)) (leaves_neat c dir d e l h)) s h
  where
    there : file_at (less_entry c dir d e) e.fid.num ≡ Some f
    there = less_at c dir d e f (record { at = l.at; free = free; dir_is = l.dir; has = l.has; high = l.high }) (used_part c e.fid f own) bare

    marks : (g : File) → Used (record f { marked = true }) ≡ Used g → (g.marked ≡ true) × (g.dir ≡ f.dir) × (g.entries ≡ f.entries)
    marks g same = let is : record f { marked = true } ≡ g = cc same in (ap (λ (x : File). x.marked) (sym is), ap (λ (x : File). x.dir) (sym is), ap (λ (x : File). x.entries) (sym is))

delete_keeps : (c : Cat) (dir : Fid) (name : List ℕ) (ver : ℕ) → Keeps c (delete_outcome c dir name ver).after
unfolding delete_outcome
delete_keeps c dir name ver = in_keeps c (live c dir) _ (λ d at is. entry_keeps c (entry_of (versions name d.entries) ver) _ (λ e found high.
    if_keeps c (has_entries (in_use c e.fid)) (refused c refusal.DirNotEmpty) (unnamed (less_entry c dir.num d e) e.fid.num (in_use c e.fid)) (λ k. same_keeps c) (λ bare.
    let p = live_parts c dir d at in
    unnamed_keeps c dir.num d e (in_use c e.fid) (record { at = p.0; dir = is; has = entry_has name d.entries ver e found; high = high }) p.1 refl bare)))

rename_keeps : (c : Cat) (dir : Fid) (name : List ℕ) (ver : ℕ) (to : List ℕ) (to_ver : ℕ) → Keeps c (rename_outcome c dir name ver to to_ver).after
unfolding rename_outcome
rename_keeps c dir name ver to to_ver = in_keeps c (live c dir) _ (λ d at is. entry_keeps c (entry_of (versions name d.entries) ver) _ (λ e found high.
    unless_keeps c (rename_refusal c d to to_ver) _ (λ passed s h.
    let p = live_parts c dir d at in
    renamed_neat c dir.num d e (record { at = p.0; dir = is; has = entry_has name d.entries ver e found; high = high }) h to (new_version to_ver (versions to d.entries)) (rename_may c d to to_ver passed))))

-- ---- channels

channel_keeps : (c : Cat) (n chan : ℕ) (o : Option Open) → Keeps c (with_channel c n chan o)
channel_keeps c n chan o s h = beside_neat c (with_channel c n chan o) 0 refl h

open_keeps : (c : Cat) (n chan k : ℕ) (f : Option File) (mode : Mode) → Keeps c (open_of c n chan k f mode).after
open_keeps c n chan k None mode = same_keeps c
open_keeps c n chan k (Some f) mode =
    unless_keeps c (first_refusal ((is_kept k f, refusal.NoPriv) ∷ (list_any (conflicts k mode) c.opens, refusal.AccConflict) ∷ []))
    (told (with_channel c n chan (Some (record { file = k; mode = mode }))) reply.Opened) (λ passed. channel_keeps c n chan (Some (record { file = k; mode = mode })))

-- a file that is marked for delete has no entries, and no entry names it
closed_keeps : (c : Cat) (n : ℕ) (f : Option File) → ((g : File) → f ≡ Some g → file_at c n ≡ Some g) → Keeps c (closed c n f).after
closed_keeps c n None at = same_keeps c
closed_keeps c n (Some f) at =
    if_keeps c (f.marked && not (is_open c n)) (told (removed c n f) (reply.Closed true)) (told c (reply.Closed false)) (λ e s h.
    let marked : f.marked ≡ true = (and_parts f.marked (not (is_open c n)) e).0 in
    removed_neat c 0 n f (at f refl) (no_entry f (bare s marked (has_entries (Some f)) refl)) (λ p i number. nobody h marked p i number) (λ m other is. is) h) (λ e. same_keeps c)
  where
    bare : IsSound c → f.marked ≡ true → (b : Bool) → has_entries (Some f) ≡ b → b ≡ false
    bare s marked false is = refl
    bare s marked true is = let both : true ≡ false = sym marked ∙ s.closed n f (at f refl) is in absurd (cc both)

    nobody : Neat c 0 → f.marked ≡ true → (p : Place) → In c p → p.entry.fid.num ≡ n → ⊥
    nobody h marked p i number =
        let a = h.alive p i in
        let one : Some a.file ≡ Some f = sym a.at ∙ (ap (λ k. file_at c k) number ∙ at f refl) in
        let same : a.file ≡ f = cc one in
        let both : true ≡ false = sym marked ∙ (ap (λ (x : File). x.marked) (sym same) ∙ a.free) in
        absurd (cc both)

close_keeps : (c : Cat) (n chan : ℕ) (o : Option Open) → (IsSound c → IsSound (with_channel c n chan None)) → Keeps c (close_of c n chan o).after
close_keeps c n chan None sound s h = h
close_keeps c n chan (Some o) sound s h = closed_keeps (with_channel c n chan None) o.file (file_at c o.file) (λ g at. at) (sound s) (channel_keeps c n chan None s h)

read_keeps : (c : Cat) (f : Option File) (vbn : ℕ) → Keeps c (read_of c f vbn).after
read_keeps c None vbn = same_keeps c
read_keeps c (Some f) vbn = if_keeps c (is_outside c f vbn) (refused c refusal.EndOfFile) (told c (reply.Bytes (block_of f vbn))) (λ e. same_keeps c) (λ e. same_keeps c)

read_open_keeps : (c : Cat) (o : Option Open) (vbn : ℕ) → Keeps c (read_open c o vbn).after
read_open_keeps c None vbn = same_keeps c
read_open_keeps c (Some o) vbn = read_keeps c (file_at c o.file) vbn

-- what WRITE leaves of a file as it is
abbrev kept : File → File
kept f = record f { mark = 0; end = 0; byte = 0; written = [] }

kept_if : (b : Bool) (x y : File) → kept x ≡ kept y → kept (cond b x y) ≡ kept y
kept_if true x y h = h
kept_if false x y h = refl

kept_written : (f : File) (vbn : ℕ) (text : List ℕ) → kept (written f vbn text) ≡ kept f
kept_written f vbn text =
    kept_if (nat_le (marked_up f vbn).end vbn) (record (marked_up f vbn) { end = vbn + 1; byte = 0 }) (marked_up f vbn) refl
    ∙ kept_if (is_past_mark f vbn) (record f { mark = vbn + 1 }) f refl

write_keeps : (c : Cat) (n : ℕ) (f : Option File) (vbn : ℕ) (text : List ℕ) → ((g : File) → f ≡ Some g → file_at c n ≡ Some g) → Keeps c (write_of c n f vbn text).after
write_keeps c n None vbn text at = same_keeps c
write_keeps c n (Some f) vbn text at = if_keeps c (is_outside c f vbn) (refused c refusal.EndOfFile) (told (with_file c n (written f vbn text)) reply.Written) (λ e. same_keeps c) (λ e s h.
    let same = kept_written f vbn text in
    data_neat c 0 n f (written f vbn text) (at f refl) (ap (λ (x : File). x.seq) same) (ap (λ (x : File). x.marked) same) (ap (λ (x : File). x.dir) same) (ap (λ (x : File). x.entries) same) h)

write_open_keeps : (c : Cat) (o : Option Open) (vbn : ℕ) (text : List ℕ) → Keeps c (write_open c o vbn text).after
write_open_keeps c None vbn text = same_keeps c
write_open_keeps c (Some o) vbn text = if_keeps c (is_reading o.mode) (refused c refusal.NoPriv) (write_of c o.file (file_at c o.file) vbn text) (λ e. same_keeps c)
    (λ e. write_keeps c o.file (file_at c o.file) vbn text (λ g at. at))

quota_set_keeps : (c : Cat) (r : Option QuotaRow) (owner : Uic) (quota over : ℕ) → Keeps c (quota_set_of c r owner quota over).after
quota_set_keeps c (Some r) owner quota over = λ s h. beside_neat c (record c { quota = map (allowed owner quota over) c.quota }) 0 refl h
quota_set_keeps c None owner quota over =
    let row : QuotaRow = record { owner = owner; usage = 0; quota = quota; over = over } in
    if_keeps c (nat_le c.rows (length c.quota)) (refused c refusal.QuotaFull) (told (record c { quota = with_row row c.quota }) reply.QuotaKept) (λ e. same_keeps c)
    (λ e s h. beside_neat c (record c { quota = with_row row c.quota }) 0 refl h)

quota_show_keeps : (c : Cat) (r : Option QuotaRow) → Keeps c (quota_shown c r).after
quota_show_keeps c None = same_keeps c
quota_show_keeps c (Some r) = same_keeps c

outcome_keeps : (c : Cat) (n : ℕ) (x : Cmd) (new : Option ℕ) → IsPick c new → Keeps c (outcome c n x new).after
unfolding outcome lookup_outcome list_outcome stat_outcome create_outcome mkdir_outcome extend_outcome trunc_outcome open_outcome close_outcome read_outcome write_outcome quota_set_outcome quota_show_outcome
outcome_keeps c n (cmd.Lookup reg dir name ver) new pick = in_keeps c (live c dir) _ (λ d at is. same_keeps c)
outcome_keeps c n (cmd.List dir) new pick = in_keeps c (live c dir) _ (λ d at is. same_keeps c)
outcome_keeps c n (cmd.Stat file) new pick = stat_keeps c (live c file)
outcome_keeps c n (cmd.Create reg dir name ver blocks owner) new pick = in_keeps c (live c dir) _ (λ d at is.
    unless_keeps c (create_refusal c d name ver blocks owner new) (create_made c dir.num d name ver blocks owner new) (λ passed.
    create_keeps c dir.num d name ver blocks owner new pick (live_parts c dir d at).0 is (create_may c d name ver blocks owner new passed).0.untaken))
outcome_keeps c n (cmd.MkDir reg dir name owner) new pick = in_keeps c (live c dir) _ (λ d at is.
    unless_keeps c (mkdir_refusal c d (dir_name name) owner new) (mkdir_made c dir.num d (dir_name name) owner new) (λ passed.
    mkdir_keeps c dir.num d (dir_name name) owner new pick (live_parts c dir d at).0 is (mkdir_may c d (dir_name name) owner new passed).untaken))
outcome_keeps c n (cmd.Extend file blocks) new pick = extend_keeps c file.num (live c file) blocks new (λ g at. (live_parts c file g at).0)
outcome_keeps c n (cmd.Trunc file blocks) new pick = trunc_keeps c file.num (live c file) blocks (λ g at. (live_parts c file g at).0)
outcome_keeps c n (cmd.Delete dir name ver) new pick = delete_keeps c dir name ver
outcome_keeps c n (cmd.Rename dir name ver to to_ver) new pick = rename_keeps c dir name ver to to_ver
outcome_keeps c n (cmd.OpenFile chan file mode) new pick = if_keeps c (is_some (channel_at c n chan)) (refused c refusal.ChanBusy) (open_of c n chan file.num (live c file) mode) (λ e. same_keeps c)
    (λ e. open_keeps c n chan file.num (live c file) mode)
outcome_keeps c n (cmd.CloseFile chan) new pick = close_keeps c n chan (channel_at c n chan) (channel_sound c n chan None)
outcome_keeps c n (cmd.ReadBlock chan vbn) new pick = read_open_keeps c (channel_at c n chan) vbn
outcome_keeps c n (cmd.WriteBlock chan vbn text) new pick = write_open_keeps c (channel_at c n chan) vbn text
outcome_keeps c n (cmd.QuotaSet owner quota over) new pick = quota_set_keeps c (row_of owner c.quota) owner quota over
outcome_keeps c n (cmd.QuotaShow owner) new pick = quota_show_keeps c (row_of owner c.quota)

pub answer_tidy : (c d : Cat) (n : ℕ) (x : Cmd) (r : Reply) → IsTidy c → Answer c n x r d → IsTidy d
answer_tidy c d n x r t a =
    tidy_from d (answer_sound c d n x r t.sound a) (by_outcome a)
  where
    by_outcome : Answer c n x r d → Neat d 0
    by_outcome (new, pick, is) = subst (λ (o : Outcome). Neat o.after 0) is (outcome_keeps c n x new pick t.sound (neat_from c t))
