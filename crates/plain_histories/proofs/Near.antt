-- What an answer leaves of usages and of small files.
use Rattle.std.proofs.Common.{◌≡◌, ◌-◌, ◌+◌, ◌*◌, ◌≤◌, ◌==◌, ◌&&◌, ◌||◌, ◌⊎◌, inl, inr, ℕ, Bool, true, false, cond, not, min, List, [], ◌∷◌, Option, Some, None, nat_le, nat_lt, map, length, slice_get, slice_set, get_or, refl, sym, ap, subst, ◌∙◌, arith}
use Rattle.std.specs.Prelude.{is_some, All}
use Rattle.std.specs.List.{list_any}
use Rattle.std.proofs.lemmas.Bool.Decides.{nat_tests}
use Rattle.std.proofs.lemmas.List.Elements.{All-map}
use Rattle.plain_cat.specs.declared.ids.Fid.{Fid}
use Rattle.plain_cat.specs.declared.ids.Uic.{Uic}
use Rattle.plain_cat.specs.declared.mode.Mode.{Mode}
use Rattle.plain_cat.specs.declared.entries.DirEnt.{DirEnt}
use Rattle.plain_cat.specs.declared.command.Cmd.{Cmd}
use Rattle.plain_cat.specs.declared.command.Cmd.TheVariants as cmd
use Rattle.plain_cat.specs.declared.reply.Reply.{Reply}
use Rattle.plain_cat.specs.declared.reply.Reply.TheVariants as reply
use Rattle.plain_cat.specs.declared.reply.Refusal.{Refusal}
use Rattle.plain_cat.specs.declared.reply.Refusal.TheVariants as refusal
use Rattle.plain_cat.specs.declared.cat.Cat.{Cat}
use Rattle.plain_cat.specs.declared.cat.File.{File}
use Rattle.plain_cat.specs.declared.cat.Slot.{Slot}
use Rattle.plain_cat.specs.declared.cat.Slot.TheVariants.{Used, Free}
use Rattle.plain_cat.specs.declared.cat.Open.{Open}
use Rattle.plain_cat.specs.declared.cat.QuotaRow.{QuotaRow}
use Rattle.plain_rules.specs.declared.outcome.Outcome.{Outcome}
use Rattle.plain_rules.specs.Lookups.{slot_at, last_seq, file_at, in_use, live, versions, entry_of, channel_at, is_open, row_of, is_free_number, clusters_in, header_most, file_most}
use Rattle.plain_rules.specs.Directories.{inserted, without, entry, new_version}
use Rattle.plain_rules.specs.Changes.{in_clusters, cost, with_file, with_entries, charged, new_fid, new_file, new_dir, grown, cut, block_of, written, with_channel, with_row, allowed}
use Rattle.plain_rules.specs.Accounts.{share, charge}
use Rattle.plain_rules.specs.Answers.{told, refused, first_refusal, unless, in_directory_file, lookup_outcome, list_outcome, stat_of, stat_outcome, create_checks, create_refusal, create_made, create_outcome, dir_name, mkdir_refusal, mkdir_made, mkdir_outcome, extend_checks, extend_refusal, extended, extend_of, extend_outcome, truncated, trunc_of, trunc_outcome, less_entry, entered, removed, unnamed, with_entry, has_entries, delete_outcome, rename_refusal, rename_outcome, is_kept, conflicts, open_of, open_outcome, closed, close_of, close_outcome, is_outside, is_reading, read_of, read_open, read_outcome, write_of, write_open, write_outcome, quota_set_of, quota_set_outcome, quota_shown, quota_show_outcome, outcome, IsPick, Answer}
use Rattle.plain_rules.proofs.Picks.{pick_is_free}
use Rattle.plain_rules.proofs.Standing.{stands_at, stands_in_use, stands_live, stands_free}
use Rattle.plain_rules.proofs.Kept.{get_set, are_false, Stands, stands, stands_less, written-owner, written-clusters, grows}
use Rattle.plain_histories.proofs.Lists.{set_else}
use Rattle.plain_histories.proofs.Rows.{Within, AreSmall, set_small, more_within, less_within, same_within}
use Rattle.plain_rules.proofs.Keeps.{all_with_row}

-- usages are as far above as they were, and files stay small
pub record Keeps (c d : Cat) : Type 0 where
  pub near : (m : ℕ) → Within c m → Within d m
  pub small : AreSmall c.files → AreSmall d.files
  pub factor : d.factor ≡ c.factor

pub same_keeps : (c : Cat) → Keeps c c
same_keeps c = record { near = λ m h. h; small = λ h. h; factor = refl }

pub then_keeps : (b c d : Cat) → Keeps b c → Keeps c d → Keeps b d
then_keeps b c d h k = record { near = λ m a. k.near m (h.near m a); small = λ a. k.small (h.small a); factor = k.factor ∙ h.factor }

if_keeps : (c : Cat) (t : Bool) (x y : Outcome) → Keeps c x.after → Keeps c y.after → Keeps c (cond t x y).after
if_keeps c true x y h k = h
if_keeps c false x y h k = k

unless_keeps : (c : Cat) (r : Option Refusal) (o : Outcome) → (r ≡ None → Keeps c o.after) → Keeps c (unless c r o).after
unless_keeps c None o h = h refl
unless_keeps c (Some r) o h = same_keeps c

in_keeps : (c : Cat) (f : Option File) (next : File → Outcome) → ((d : File) → f ≡ Some d → Keeps c (next d).after) → Keeps c (in_directory_file c f next).after
in_keeps c None next h = same_keeps c
in_keeps c (Some d) next h = if_keeps c d.dir (next d) (refused c refusal.NotDir) (h d refl) (same_keeps c)

entry_keeps : (c : Cat) (e : Option DirEnt) (next : DirEnt → Outcome) → ((x : DirEnt) → Keeps c (next x).after) → Keeps c (with_entry c e next).after
entry_keeps c None next h = same_keeps c
entry_keeps c (Some e) next h = if_keeps c (nat_le e.fid.num 11) (refused c refusal.NoPriv) (next e) (same_keeps c) (h e)

-- ---- steps of the files

-- a slot's clusters, by what it costs
stands_small : (c : Cat) (n : ℕ) (f : File) (s : Slot) → slice_get c.files (n - 1) ≡ Some (Used f) → clusters_in s ≤ f.clusters → AreSmall c.files → AreSmall (slice_set c.files (n - 1) s)
stands_small c n f s at less small = set_small c.files (n - 1) s (λ le. let few = small (n - 1) (Used f) le at in omega (arith, less, few)) small

-- a file that keeps its owner and its clusters
pub file_keeps : (c : Cat) (n : ℕ) (f g : File) → slice_get c.files (n - 1) ≡ Some (Used f) → g.owner ≡ f.owner → g.clusters ≡ f.clusters → Keeps c (with_file c n g)
file_keeps c n f g at owner clusters = record {
  near = λ m h. same_within c n (Used f) (Used g) m at
      (λ p. ap (λ (x : Uic). cond (p.0 == x.0) (cost c g.clusters) 0) owner ∙ ap (λ (x : ℕ). cond (p.0 == f.owner.0) (cost c x) 0) clusters) h;
  small = stands_small c n f (Used g) at (omega (arith, clusters));
  factor = refl;
}

pub entries_keep : (c : Cat) (n : ℕ) (d : File) (es : List DirEnt) → slice_get c.files (n - 1) ≡ Some (Used d) → Keeps c (with_entries c n d es)
entries_keep c n d es at = file_keeps c n d (record d { entries = es }) at refl refl

-- a new file under a free number, whose owner is charged
pub placed_keep : (c : Cat) (n : ℕ) (f : File) → is_free_number c n ≡ true → f.clusters ≤ file_most → Keeps c (with_file (charged c f.owner (cost c f.clusters)) n f)
placed_keep c n f free few = record {
  near = λ m h. more_within c n (Free (last_seq (slot_at c n))) (Used f) f.owner (cost c f.clusters) m (stands_free c n free) (λ p. omega arith) h;
  small = set_small c.files (n - 1) (Used f) (λ le. few);
  factor = refl;
}

-- what stands in a directory's slot, also once a free one got a file
still_there : (c : Cat) (dir n : ℕ) (d f : File) → slice_get c.files (dir - 1) ≡ Some (Used d) → is_free_number c n ≡ true → slice_get (slice_set c.files (n - 1) (Used f)) (dir - 1) ≡ Some (Used d)
still_there c dir n d f at free = set_else c.files (n - 1) (dir - 1) (Used f) apart ∙ at where
  apart : n - 1 ≡ dir - 1 → ⊥
  apart e = let two : Some (Free (last_seq (slot_at c n))) ≡ Some (Used d) = sym (stands_free c n free) ∙ (ap (slice_get c.files) e ∙ at) in cc two

entered_keep : (c : Cat) (dir : ℕ) (d : File) (e : DirEnt) (f : File) → slice_get c.files (dir - 1) ≡ Some (Used d) → is_free_number c e.fid.num ≡ true → f.clusters ≤ file_most → Keeps c (entered c dir d e f)
entered_keep c dir d e f at free few =
    let next : Cat = with_file (charged c f.owner (cost c f.clusters)) e.fid.num f in
    then_keeps c next (with_entries next dir d (inserted e d.entries)) (placed_keep c e.fid.num f free few)
    (entries_keep next dir d (inserted e d.entries) (still_there c dir e.fid.num d f at free))

-- a file is gone, whose owner is charged less
pub removed_keep : (c : Cat) (n : ℕ) (f : File) → Stands c n f → Keeps c (removed c n f)
removed_keep c n f s = record {
  near = λ m h. less_within c n s.slot (Free f.seq) f.owner (cost c f.clusters) m s.at (λ p. let e = s.shares p in omega (arith, e)) h;
  small = set_small c.files (n - 1) (Free f.seq) (λ le. omega arith);
  factor = refl;
}

-- ---- commands

pub create_few : (c : Cat) (d : File) (name : List ℕ) (ver blocks : ℕ) (owner : Uic) (new : Option ℕ) → create_refusal c d name ver blocks owner new ≡ None → in_clusters c blocks ≤ header_most
unfolding create_refusal
create_few c d name ver blocks owner new h =
    let f = are_false (create_checks c d name ver blocks owner new) h in
    let limit : nat_lt header_most (in_clusters c blocks) ≡ false = f.1.1.0 in
    grind (arith, nat_tests)

later_false : (a b : Bool) → (a || b) ≡ false → b ≡ false
later_false true b h = absurd (let f : true ≡ false = h in cc)
later_false false b h = h

pub extend_few : (c : Cat) (n : ℕ) (f : File) (blocks : ℕ) (new : Option ℕ) → extend_refusal c n f blocks new ≡ None → f.clusters + in_clusters c blocks ≤ file_most
unfolding extend_refusal
extend_few c n f blocks new h =
    let g = are_false (extend_checks c n f (in_clusters c blocks) new) h in
    let limit : nat_lt file_most (f.clusters + in_clusters c blocks) ≡ false = later_false (nat_lt header_most (in_clusters c blocks)) _ g.1.0 in
    grind (arith, nat_tests)

create_keeps : (c : Cat) (dir : ℕ) (d : File) (name : List ℕ) (ver blocks : ℕ) (owner : Uic) (new : Option ℕ) → IsPick c new → slice_get c.files (dir - 1) ≡ Some (Used d) → in_clusters c blocks ≤ header_most
    → Keeps c (create_made c dir d name ver blocks owner new).after
create_keeps c dir d name ver blocks owner None pick at few = same_keeps c
create_keeps c dir d name ver blocks owner (Some n) pick at few =
    entered_keep c dir d (entry name (new_version ver (versions name d.entries)) (new_fid c n)) (new_file (new_fid c n).seq owner (in_clusters c blocks)) at (pick_is_free c n pick) (omega (arith, few))

mkdir_keeps : (c : Cat) (dir : ℕ) (d : File) (name : List ℕ) (owner : Uic) (new : Option ℕ) → IsPick c new → slice_get c.files (dir - 1) ≡ Some (Used d)
    → Keeps c (mkdir_made c dir d name owner new).after
mkdir_keeps c dir d name owner None pick at = same_keeps c
mkdir_keeps c dir d name owner (Some n) pick at =
    entered_keep c dir d (entry name 1 (new_fid c n)) (new_dir (new_fid c n).seq owner c.factor) at (pick_is_free c n pick) (omega arith)

stat_keeps : (c : Cat) (f : Option File) → Keeps c (stat_of c f).after
stat_keeps c None = same_keeps c
stat_keeps c (Some f) = same_keeps c

extend_keeps : (c : Cat) (n : ℕ) (f : Option File) (blocks : ℕ) (new : Option ℕ) → ((g : File) → f ≡ Some g → slice_get c.files (n - 1) ≡ Some (Used g)) → Keeps c (extend_of c n f blocks new).after
extend_keeps c n None blocks new at = same_keeps c
extend_keeps c n (Some f) blocks new at = unless_keeps c (extend_refusal c n f blocks new) (extended c n f (in_clusters c blocks)) (λ passed.
    let k : ℕ = in_clusters c blocks in
    let few : f.clusters + k ≤ file_most = extend_few c n f blocks new passed in
    record {
      near = λ m h. more_within c n (Used f) (Used (grown c f k)) f.owner (c.factor * k) m (at f refl) (λ p. grows (p.0 == f.owner.0) c.factor f.clusters k) h;
      small = set_small c.files (n - 1) (Used (grown c f k)) (λ le. few);
      factor = refl;
    })

-- the parts of a file that is cut to k clusters
pub shrinks : (c : Cat) (f : File) (k : ℕ) → k ≤ f.clusters → (p : Uic) → share c p (Used f) ≡ share c p (Used (cut c f k)) + cond (p.0 == f.owner.0) (c.factor * (f.clusters - k)) 0
shrinks c f k few p = ap (λ (x : ℕ). cond (p.0 == f.owner.0) (c.factor * x + 1) 0) parts ∙ grows (p.0 == f.owner.0) c.factor k (f.clusters - k) where
  parts : f.clusters ≡ k + (f.clusters - k)
  parts = omega arith

trunc_keeps : (c : Cat) (n : ℕ) (f : Option File) (blocks : ℕ) → ((g : File) → f ≡ Some g → slice_get c.files (n - 1) ≡ Some (Used g)) → Keeps c (trunc_of c n f blocks).after
trunc_keeps c n None blocks at = same_keeps c
trunc_keeps c n (Some f) blocks at =
    let k : ℕ = min f.clusters (in_clusters c blocks) in
    if_keeps c (is_kept n f) (refused c refusal.NoPriv) (truncated c n f k) (same_keeps c) (record {
      near = λ m h. less_within c n (Used f) (Used (cut c f k)) f.owner (c.factor * (f.clusters - k)) m (at f refl) (shrinks c f k (omega arith)) h;
      small = stands_small c n f (Used (cut c f k)) (at f refl) (omega arith);
      factor = refl;
    })

-- the slot of a file, once a directory has lost an entry
record Same (xs : List Slot) (i : ℕ) (f : File) : Type 0 where
  file : File
  at : slice_get xs i ≡ Some (Used file)
  owner : file.owner ≡ f.owner
  clusters : file.clusters ≡ f.clusters

same_there : (c : Cat) (dir : ℕ) (d : File) (es : List DirEnt) (n : ℕ) (f : File) → slice_get c.files (dir - 1) ≡ Some (Used d) → slice_get c.files (n - 1) ≡ Some (Used f)
    → Same (with_entries c dir d es).files (n - 1) f
same_there c dir d es n f at own = by_place (get_set c.files (dir - 1) (n - 1) (Used (record d { entries = es })) (Used f) own) where
  new : File
  new = record d { entries = es }

  by_place : (slice_get (slice_set c.files (dir - 1) (Used new)) (n - 1) ≡ Some (Used f)) ⊎ ((dir - 1 ≡ n - 1) × (slice_get (slice_set c.files (dir - 1) (Used new)) (n - 1) ≡ Some (Used new)))
      → Same (with_entries c dir d es).files (n - 1) f
  by_place (inl h) = record { file = f; at = h; owner = refl; clusters = refl }
  by_place (inr h) =
      let two : Some (Used d) ≡ Some (Used f) = sym at ∙ (ap (slice_get c.files) h.0 ∙ own) in
      let e : d ≡ f = cc two in
      record { file = new; at = h.1; owner = ap (λ (x : File). x.owner) e; clusters = ap (λ (x : File). x.clusters) e }

-- a file that has lost its entry is marked
pub marked_keep : (c : Cat) (dir : ℕ) (d : File) (e : DirEnt) (n : ℕ) (f : File) → slice_get c.files (dir - 1) ≡ Some (Used d) → slice_get c.files (n - 1) ≡ Some (Used f)
    → Keeps (less_entry c dir d e) (with_file (less_entry c dir d e) n (record f { marked = true }))
marked_keep c dir d e n f at own =
    let s = same_there c dir d (without e.name e.ver d.entries) n f at own in
    file_keeps (less_entry c dir d e) n s.file (record f { marked = true }) s.at (sym s.owner) (sym s.clusters)

unnamed_keeps : (c : Cat) (dir : ℕ) (d : File) (e : DirEnt) (n : ℕ) (f : Option File) → slice_get c.files (dir - 1) ≡ Some (Used d) → ((g : File) → f ≡ Some g → slice_get c.files (n - 1) ≡ Some (Used g))
    → Keeps (less_entry c dir d e) (unnamed (less_entry c dir d e) n f).after
unnamed_keeps c dir d e n None at own = same_keeps (less_entry c dir d e)
unnamed_keeps c dir d e n (Some f) at own =
    let less : Cat = less_entry c dir d e in
    let s = stands_less c dir n d f (without e.name e.ver d.entries) at (own f refl) in
    if_keeps less (is_open less n) (told (with_file less n (record f { marked = true })) reply.Marked) (told (removed less n f) reply.Deleted)
    (marked_keep c dir d e n f at (own f refl)) (removed_keep less n f s)

delete_keeps : (c : Cat) (dir : Fid) (name : List ℕ) (ver : ℕ) → Keeps c (delete_outcome c dir name ver).after
unfolding delete_outcome
delete_keeps c dir name ver = in_keeps c (live c dir) _ (λ d at. entry_keeps c (entry_of (versions name d.entries) ver) _ (λ e.
    if_keeps c (has_entries (in_use c e.fid)) (refused c refusal.DirNotEmpty) (unnamed (less_entry c dir.num d e) e.fid.num (in_use c e.fid)) (same_keeps c)
    (then_keeps c (less_entry c dir.num d e) (unnamed (less_entry c dir.num d e) e.fid.num (in_use c e.fid)).after (entries_keep c dir.num d (without e.name e.ver d.entries) (stands_live c dir d at))
    (unnamed_keeps c dir.num d e e.fid.num (in_use c e.fid) (stands_live c dir d at) (λ g own. stands_in_use c e.fid g own)))))

rename_keeps : (c : Cat) (dir : Fid) (name : List ℕ) (ver : ℕ) (to : List ℕ) (to_ver : ℕ) → Keeps c (rename_outcome c dir name ver to to_ver).after
unfolding rename_outcome
rename_keeps c dir name ver to to_ver = in_keeps c (live c dir) _ (λ d at. entry_keeps c (entry_of (versions name d.entries) ver) _ (λ e.
    unless_keeps c (rename_refusal c d to to_ver) _ (λ passed. entries_keep c dir.num d _ (stands_live c dir d at))))

channel_keeps : (c : Cat) (n chan : ℕ) (o : Option Open) → Keeps c (with_channel c n chan o)
channel_keeps c n chan o = record { near = λ m h. h; small = λ h. h; factor = refl }

open_keeps : (c : Cat) (n chan k : ℕ) (f : Option File) (mode : Mode) → Keeps c (open_of c n chan k f mode).after
open_keeps c n chan k None mode = same_keeps c
open_keeps c n chan k (Some f) mode =
    unless_keeps c (first_refusal ((is_kept k f, refusal.NoPriv) ∷ (list_any (conflicts k mode) c.opens, refusal.AccConflict) ∷ []))
    (told (with_channel c n chan (Some (record { file = k; mode = mode }))) reply.Opened) (λ passed. channel_keeps c n chan (Some (record { file = k; mode = mode })))

closed_keeps : (c : Cat) (n : ℕ) (f : Option File) → ((g : File) → f ≡ Some g → slice_get c.files (n - 1) ≡ Some (Used g)) → Keeps c (closed c n f).after
closed_keeps c n None at = same_keeps c
closed_keeps c n (Some f) at =
    if_keeps c (f.marked && not (is_open c n)) (told (removed c n f) (reply.Closed true)) (told c (reply.Closed false)) (removed_keep c n f (stands c n f (at f refl))) (same_keeps c)

pub close_keeps : (c : Cat) (n chan : ℕ) (o : Option Open) → Keeps c (close_of c n chan o).after
close_keeps c n chan None = same_keeps c
close_keeps c n chan (Some o) =
    then_keeps c (with_channel c n chan None) (closed (with_channel c n chan None) o.file (file_at c o.file)).after (channel_keeps c n chan None)
    (closed_keeps (with_channel c n chan None) o.file (file_at c o.file) (λ g at. stands_at c o.file g at))

read_keeps : (c : Cat) (f : Option File) (vbn : ℕ) → Keeps c (read_of c f vbn).after
read_keeps c None vbn = same_keeps c
read_keeps c (Some f) vbn = if_keeps c (is_outside c f vbn) (refused c refusal.EndOfFile) (told c (reply.Bytes (block_of f vbn))) (same_keeps c) (same_keeps c)

read_open_keeps : (c : Cat) (o : Option Open) (vbn : ℕ) → Keeps c (read_open c o vbn).after
read_open_keeps c None vbn = same_keeps c
read_open_keeps c (Some o) vbn = read_keeps c (file_at c o.file) vbn

write_keeps : (c : Cat) (n : ℕ) (f : Option File) (vbn : ℕ) (text : List ℕ) → ((g : File) → f ≡ Some g → slice_get c.files (n - 1) ≡ Some (Used g)) → Keeps c (write_of c n f vbn text).after
write_keeps c n None vbn text at = same_keeps c
write_keeps c n (Some f) vbn text at = if_keeps c (is_outside c f vbn) (refused c refusal.EndOfFile) (told (with_file c n (written f vbn text)) reply.Written) (same_keeps c)
    (file_keeps c n f (written f vbn text) (at f refl) (written-owner f vbn text) (written-clusters f vbn text))

write_open_keeps : (c : Cat) (o : Option Open) (vbn : ℕ) (text : List ℕ) → Keeps c (write_open c o vbn text).after
write_open_keeps c None vbn text = same_keeps c
write_open_keeps c (Some o) vbn text = if_keeps c (is_reading o.mode) (refused c refusal.NoPriv) (write_of c o.file (file_at c o.file) vbn text) (same_keeps c)
    (write_keeps c o.file (file_at c o.file) vbn text (λ g at. stands_at c o.file g at))

-- ---- rows

allowed_within : (c : Cat) (owner : Uic) (quota over m : ℕ) → Within c m → Within (record c { quota = map (allowed owner quota over) c.quota }) m
allowed_within c owner quota over m h = All-map (λ (r : QuotaRow). r.usage ≤ charge c r.owner + m) (allowed owner quota over) c.quota (λ i d lt. by_owner ((get_or c.quota i d).owner.0 == owner.0) (get_or c.quota i d) (h i d lt)) where
  by_owner : (b : Bool) (r : QuotaRow) → r.usage ≤ charge c r.owner + m → (cond b (record r { quota = quota; over = over }) r).usage ≤ charge c (cond b (record r { quota = quota; over = over }) r).owner + m
  by_owner true r near = near
  by_owner false r near = near

quota_set_keeps : (c : Cat) (r : Option QuotaRow) (owner : Uic) (quota over : ℕ) → Keeps c (quota_set_of c r owner quota over).after
quota_set_keeps c (Some r) owner quota over = record { near = λ m h. allowed_within c owner quota over m h; small = λ h. h; factor = refl }
quota_set_keeps c None owner quota over =
    let row : QuotaRow = record { owner = owner; usage = 0; quota = quota; over = over } in
    if_keeps c (nat_le c.rows (length c.quota)) (refused c refusal.QuotaFull) (told (record c { quota = with_row row c.quota }) reply.QuotaKept) (same_keeps c)
    (record { near = λ m h. all_with_row (λ (r : QuotaRow). r.usage ≤ charge c r.owner + m) row c.quota (omega arith) h; small = λ h. h; factor = refl })

quota_show_keeps : (c : Cat) (r : Option QuotaRow) → Keeps c (quota_shown c r).after
quota_show_keeps c None = same_keeps c
quota_show_keeps c (Some r) = same_keeps c

-- ---- all

pub outcome_keeps : (c : Cat) (n : ℕ) (x : Cmd) (new : Option ℕ) → IsPick c new → Keeps c (outcome c n x new).after
unfolding outcome lookup_outcome list_outcome stat_outcome create_outcome mkdir_outcome extend_outcome trunc_outcome open_outcome close_outcome read_outcome write_outcome quota_set_outcome quota_show_outcome
outcome_keeps c n (cmd.Lookup reg dir name ver) new pick = in_keeps c (live c dir) _ (λ d at. same_keeps c)
outcome_keeps c n (cmd.List dir) new pick = in_keeps c (live c dir) _ (λ d at. same_keeps c)
outcome_keeps c n (cmd.Stat file) new pick = stat_keeps c (live c file)
outcome_keeps c n (cmd.Create reg dir name ver blocks owner) new pick = in_keeps c (live c dir) _ (λ d at.
    unless_keeps c (create_refusal c d name ver blocks owner new) (create_made c dir.num d name ver blocks owner new) (λ passed.
    create_keeps c dir.num d name ver blocks owner new pick (stands_live c dir d at) (create_few c d name ver blocks owner new passed)))
outcome_keeps c n (cmd.MkDir reg dir name owner) new pick = in_keeps c (live c dir) _ (λ d at.
    unless_keeps c (mkdir_refusal c d (dir_name name) owner new) (mkdir_made c dir.num d (dir_name name) owner new) (λ passed. mkdir_keeps c dir.num d (dir_name name) owner new pick (stands_live c dir d at)))
outcome_keeps c n (cmd.Extend file blocks) new pick = extend_keeps c file.num (live c file) blocks new (λ g at. stands_live c file g at)
outcome_keeps c n (cmd.Trunc file blocks) new pick = trunc_keeps c file.num (live c file) blocks (λ g at. stands_live c file g at)
outcome_keeps c n (cmd.Delete dir name ver) new pick = delete_keeps c dir name ver
outcome_keeps c n (cmd.Rename dir name ver to to_ver) new pick = rename_keeps c dir name ver to to_ver
outcome_keeps c n (cmd.OpenFile chan file mode) new pick = if_keeps c (is_some (channel_at c n chan)) (refused c refusal.ChanBusy) (open_of c n chan file.num (live c file) mode) (same_keeps c)
    (open_keeps c n chan file.num (live c file) mode)
outcome_keeps c n (cmd.CloseFile chan) new pick = close_keeps c n chan (channel_at c n chan)
outcome_keeps c n (cmd.ReadBlock chan vbn) new pick = read_open_keeps c (channel_at c n chan) vbn
outcome_keeps c n (cmd.WriteBlock chan vbn text) new pick = write_open_keeps c (channel_at c n chan) vbn text
outcome_keeps c n (cmd.QuotaSet owner quota over) new pick = quota_set_keeps c (row_of owner c.quota) owner quota over
outcome_keeps c n (cmd.QuotaShow owner) new pick = quota_show_keeps c (row_of owner c.quota)

pub answer_keeps : (c d : Cat) (n : ℕ) (x : Cmd) (r : Reply) → Answer c n x r d → Keeps c d
answer_keeps c d n x r (new, pick, is) = subst (λ (o : Outcome). Keeps c o.after) is (outcome_keeps c n x new pick)
