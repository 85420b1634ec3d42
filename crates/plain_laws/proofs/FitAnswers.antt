use Rattle.std.proofs.Common.{◌≡◌, ◌+◌, ◌-◌, ◌≤◌, ◌∙◌, ◌⊎◌, inl, inr, ℕ, zero, suc, Bool, true, false, cond, min, List, [], ◌∷◌, Option, Some, None, drop, nat_lt, slice_get, set, refl, sym, ap, arith}
use Rattle.std.proofs.lemmas.Bool.Decides.{nat_tests}
use Rattle.std.proofs.lemmas.List.Sums.{sum_by-cons}
use Rattle.std.specs.List.{sum_by}
use Rattle.plain_cat.specs.declared.ids.Fid.{Fid}
use Rattle.plain_cat.specs.declared.ids.Uic.{Uic}
use Rattle.plain_cat.specs.declared.mode.Mode.{Mode}
use Rattle.plain_cat.specs.declared.entries.DirEnt.{DirEnt}
use Rattle.plain_cat.specs.declared.command.Cmd.{Cmd}
use Rattle.plain_cat.specs.declared.command.Cmd.TheVariants as cmd
use Rattle.plain_cat.specs.declared.reply.Refusal.{Refusal}
use Rattle.plain_cat.specs.declared.cat.Cat.{Cat}
use Rattle.plain_cat.specs.declared.cat.File.{File}
use Rattle.plain_cat.specs.declared.cat.Slot.{Slot}
use Rattle.plain_cat.specs.declared.cat.Slot.TheVariants.{Used, Free}
use Rattle.plain_cat.specs.declared.cat.Open.{Open}
use Rattle.plain_cat.specs.declared.cat.QuotaRow.{QuotaRow}
use Rattle.plain_rules.specs.declared.outcome.Outcome.{Outcome}
use Rattle.plain_rules.specs.Lookups.{slot_at, last_seq, file_at, in_use, live, versions, entry_of, channel_at, row_of, clusters_in, free_clusters, is_free_number}
use Rattle.plain_rules.specs.Directories.{inserted, without, entry, new_version}
use Rattle.plain_rules.specs.Changes.{in_clusters, cost, with_slot, with_file, with_entries, charged, new_fid, new_file, new_dir, grown, cut, marked_up, written, with_channel}
use Rattle.plain_rules.specs.Answers.{first_refusal, unless, in_directory_file, lookup_outcome, list_outcome, stat_of, stat_outcome, create_checks, create_refusal, create_made, create_outcome, dir_name, mkdir_checks, mkdir_refusal, mkdir_made, mkdir_outcome, extend_checks, extend_refusal, extend_of, extend_outcome, trunc_of, trunc_outcome, less_entry, entered, unnamed, with_entry, delete_outcome, rename_refusal, rename_outcome, open_of, open_outcome, closed, close_of, close_outcome, read_of, read_open, read_outcome, write_of, write_open, write_outcome, quota_set_of, quota_set_outcome, quota_shown, quota_show_outcome, outcome, IsPick}
use Rattle.plain_laws.specs.Fitting.{Fits}
use Rattle.plain_rules.proofs.Picks.{pick_is_free}
use Rattle.plain_rules.proofs.Standing.{stands_at, stands_in_use, stands_live, stands_free}
use Rattle.plain_rules.proofs.Kept.{get_set, passes, ended-clusters}

-- one slot gets at most k clusters more
sum_set : (xs : List Slot) (i j : ℕ) (old s : Slot) (k : ℕ) → slice_get xs i ≡ Some old → clusters_in s ≤ clusters_in old + k
    → sum_by clusters_in (drop j (set xs i s)) ≤ sum_by clusters_in (drop j xs) + k
sum_set [] i j old s k at few = absurd (cc at)
sum_set (x ∷ xs) zero zero old s k at few =
    let e : clusters_in x ≡ clusters_in old = let f : x ≡ old = cc at in ap clusters_in f in
    omega (arith, e, few, sum_by-cons clusters_in s xs, sum_by-cons clusters_in x xs)
sum_set (x ∷ xs) zero (suc j) old s k at few = omega arith
sum_set (x ∷ xs) (suc i) zero old s k at few =
    omega (arith, sum_set xs i zero old s k at few, sum_by-cons clusters_in x (set xs i s), sum_by-cons clusters_in x xs)
sum_set (x ∷ xs) (suc i) (suc j) old s k at few = sum_set xs i j old s k at few

-- one slot gets at most k clusters more, which were free
pub slot_fits : (c : Cat) (n : ℕ) (old s : Slot) (k : ℕ) → Fits c → slice_get c.files (n - 1) ≡ Some old → clusters_in s ≤ clusters_in old + k
    → k ≤ free_clusters c → Fits (with_slot c n s)
slot_fits c n old s k h at few free = let e = sum_set c.files (n - 1) 11 old s k at few in omega (arith, e, h, free)

-- one slot gets no cluster
pub less_fits : (c : Cat) (n : ℕ) (old s : Slot) → Fits c → slice_get c.files (n - 1) ≡ Some old → clusters_in s ≤ clusters_in old → Fits (with_slot c n s)
less_fits c n old s h at few = slot_fits c n old s 0 h at (omega (arith, few)) (omega arith)

-- a number has a slot of so many clusters
pub record Holds (c : Cat) (n k : ℕ) : Type 0 where
  pub slot : Slot
  pub at : slice_get c.files (n - 1) ≡ Some slot
  pub clusters : clusters_in slot ≡ k

pub holds : (c : Cat) (n : ℕ) (f : File) → slice_get c.files (n - 1) ≡ Some (Used f) → Holds c n f.clusters
holds c n f at = record { slot = Used f; at = at; clusters = refl }

-- also where a directory got other entries
pub holds_less : (c : Cat) (dir n : ℕ) (d f : File) (es : List DirEnt) → slice_get c.files (dir - 1) ≡ Some (Used d)
    → slice_get c.files (n - 1) ≡ Some (Used f) → Holds (with_entries c dir d es) n f.clusters
holds_less c dir n d f es at own = pick (get_set c.files (dir - 1) (n - 1) (Used (record d { entries = es })) (Used f) own) where
  pick : (slice_get (set c.files (dir - 1) (Used (record d { entries = es }))) (n - 1) ≡ Some (Used f))
      ⊎ ((dir - 1 ≡ n - 1) × (slice_get (set c.files (dir - 1) (Used (record d { entries = es }))) (n - 1) ≡ Some (Used (record d { entries = es }))))
      → Holds (with_entries c dir d es) n f.clusters
  pick (inl h) = record { slot = Used f; at = h; clusters = refl }
  pick (inr h) =
      let both : Some (Used d) ≡ Some (Used f) = sym at ∙ (ap (slice_get c.files) h.0 ∙ own) in
      let e : d ≡ f = cc both in
      record { slot = Used (record d { entries = es }); at = h.1; clusters = ap (λ (x : File). x.clusters) e }

-- a slot of at most so many clusters takes its place
pub held_fits : (c : Cat) (n k : ℕ) (s : Slot) → Fits c → Holds c n k → clusters_in s ≤ k → Fits (with_slot c n s)
held_fits c n k s h o few = let e = o.clusters in less_fits c n o.slot s h o.at (omega (arith, e, few))

pub entries_fit : (c : Cat) (n : ℕ) (d : File) (es : List DirEnt) → Fits c → slice_get c.files (n - 1) ≡ Some (Used d) → Fits (with_entries c n d es)
entries_fit c n d es h at = less_fits c n (Used d) (Used (record d { entries = es })) h at (omega arith)

-- either outcome fits
fits_if : (b : Bool) (x y : Outcome) → Fits x.after → Fits y.after → Fits (cond b x y).after
fits_if true x y h k = h
fits_if false x y h k = k

fits_unless : (c : Cat) (r : Option Refusal) (o : Outcome) → Fits c → (r ≡ None → Fits o.after) → Fits (unless c r o).after
fits_unless c None o a h = h refl
fits_unless c (Some r) o a h = a

fits_in : (c : Cat) (f : Option File) (next : File → Outcome) → Fits c → ((d : File) → f ≡ Some d → Fits (next d).after)
    → Fits (in_directory_file c f next).after
fits_in c None next a h = a
fits_in c (Some d) next a h = fits_if d.dir (next d) _ (h d refl) a

-- no test holds
abbrev AreFalse : List (Bool × Refusal) → Type 0
AreFalse [] = Unit {0}
AreFalse (check ∷ checks) = (check.0 ≡ false) × AreFalse checks

are_false : (checks : List (Bool × Refusal)) → first_refusal checks ≡ None → AreFalse checks
are_false [] h = tt
are_false (check ∷ checks) h = let p = passes check.0 check.1 (first_refusal checks) h in (p.0, are_false checks p.1)

-- what is not refused has room
pub create_room : (c : Cat) (d : File) (name : List ℕ) (ver blocks : ℕ) (owner : Uic) (new : Option ℕ)
    → create_refusal c d name ver blocks owner new ≡ None → in_clusters c blocks ≤ free_clusters c
unfolding create_refusal
create_room c d name ver blocks owner new h =
    let f = are_false (create_checks c d name ver blocks owner new) h in
    let room : nat_lt (free_clusters c) (in_clusters c blocks) ≡ false = f.1.1.1.1.1.1.1.0 in
    grind (arith, nat_tests)

pub mkdir_room : (c : Cat) (d : File) (name : List ℕ) (owner : Uic) (new : Option ℕ) → mkdir_refusal c d name owner new ≡ None → 1 ≤ free_clusters c
unfolding mkdir_refusal
mkdir_room c d name owner new h =
    let f = are_false (mkdir_checks c d name owner new) h in
    let room : nat_lt (free_clusters c) 1 ≡ false = f.1.1.1.1.1.0 in
    grind (arith, nat_tests)

extend_room : (c : Cat) (n : ℕ) (f : File) (blocks : ℕ) (new : Option ℕ) → extend_refusal c n f blocks new ≡ None → in_clusters c blocks ≤ free_clusters c
unfolding extend_refusal
extend_room c n f blocks new h =
    let g = are_false (extend_checks c n f (in_clusters c blocks) new) h in
    let room : nat_lt (free_clusters c) (in_clusters c blocks) ≡ false = g.1.1.1.1.0 in
    grind (arith, nat_tests)

-- a new file under a free number
pub placed_fits : (c : Cat) (n : ℕ) (f : File) → Fits c → is_free_number c n ≡ true → f.clusters ≤ free_clusters c
    → Fits (with_file (charged c f.owner (cost c f.clusters)) n f)
placed_fits c n f h free few =
    slot_fits c n (Free (last_seq (slot_at c n))) (Used f) f.clusters h (stands_free c n free) (omega arith) few

-- and with its entry in a directory
entered_fits : (c : Cat) (dir : ℕ) (d : File) (e : DirEnt) (f : File) → Fits c → slice_get c.files (dir - 1) ≡ Some (Used d)
    → is_free_number c e.fid.num ≡ true → f.clusters ≤ free_clusters c → Fits (entered c dir d e f)
entered_fits c dir d e f h at free few =
    entries_fit next dir d (inserted e d.entries) (placed_fits c e.fid.num f h free few) (still (get_set c.files (e.fid.num - 1) (dir - 1) (Used f) (Used d) at)) where
      next : Cat
      next = with_file (charged c f.owner (cost c f.clusters)) e.fid.num f

      still : (slice_get (set c.files (e.fid.num - 1) (Used f)) (dir - 1) ≡ Some (Used d))
          ⊎ ((e.fid.num - 1 ≡ dir - 1) × (slice_get (set c.files (e.fid.num - 1) (Used f)) (dir - 1) ≡ Some (Used f)))
          → slice_get (set c.files (e.fid.num - 1) (Used f)) (dir - 1) ≡ Some (Used d)
      still (inl g) = g
      still (inr g) =
          let both : Some (Free (last_seq (slot_at c e.fid.num))) ≡ Some (Used d) = sym (stands_free c e.fid.num free) ∙ (ap (slice_get c.files) g.0 ∙ at) in
          absurd (cc both)

create_made_fits : (c : Cat) (dir : ℕ) (d : File) (name : List ℕ) (ver blocks : ℕ) (owner : Uic) (new : Option ℕ) → Fits c → IsPick c new
    → slice_get c.files (dir - 1) ≡ Some (Used d) → in_clusters c blocks ≤ free_clusters c → Fits (create_made c dir d name ver blocks owner new).after
create_made_fits c dir d name ver blocks owner None h pick at few = h
create_made_fits c dir d name ver blocks owner (Some n) h pick at few =
    entered_fits c dir d (entry name (new_version ver (versions name d.entries)) (new_fid c n)) (new_file (new_fid c n).seq owner (in_clusters c blocks)) h at (pick_is_free c n pick) few

mkdir_made_fits : (c : Cat) (dir : ℕ) (d : File) (name : List ℕ) (owner : Uic) (new : Option ℕ) → Fits c → IsPick c new
    → slice_get c.files (dir - 1) ≡ Some (Used d) → 1 ≤ free_clusters c → Fits (mkdir_made c dir d name owner new).after
mkdir_made_fits c dir d name owner None h pick at few = h
mkdir_made_fits c dir d name owner (Some n) h pick at few =
    entered_fits c dir d (entry name 1 (new_fid c n)) (new_dir (new_fid c n).seq owner c.factor) h at (pick_is_free c n pick) few

create_fits : (c : Cat) (dir : Fid) (name : List ℕ) (ver blocks : ℕ) (owner : Uic) (new : Option ℕ) → Fits c → IsPick c new
    → Fits (create_outcome c dir name ver blocks owner new).after
unfolding create_outcome
create_fits c dir name ver blocks owner new h pick = fits_in c (live c dir) _ h (λ d at.
    fits_unless c (create_refusal c d name ver blocks owner new) (create_made c dir.num d name ver blocks owner new) h (λ passed.
    create_made_fits c dir.num d name ver blocks owner new h pick (stands_live c dir d at) (create_room c d name ver blocks owner new passed)))

mkdir_fits : (c : Cat) (dir : Fid) (name : List ℕ) (owner : Uic) (new : Option ℕ) → Fits c → IsPick c new
    → Fits (mkdir_outcome c dir name owner new).after
unfolding mkdir_outcome
mkdir_fits c dir name owner new h pick = fits_in c (live c dir) _ h (λ d at.
    fits_unless c (mkdir_refusal c d (dir_name name) owner new) (mkdir_made c dir.num d (dir_name name) owner new) h (λ passed.
    mkdir_made_fits c dir.num d (dir_name name) owner new h pick (stands_live c dir d at) (mkdir_room c d (dir_name name) owner new passed)))

stat_fits : (c : Cat) (f : Option File) → Fits c → Fits (stat_of c f).after
stat_fits c None h = h
stat_fits c (Some f) h = h

extend_fits : (c : Cat) (n : ℕ) (f : Option File) (blocks : ℕ) (new : Option ℕ) → Fits c → ((g : File) → f ≡ Some g → slice_get c.files (n - 1) ≡ Some (Used g))
    → Fits (extend_of c n f blocks new).after
extend_fits c n None blocks new h at = h
extend_fits c n (Some f) blocks new h at = fits_unless c (extend_refusal c n f blocks new) _ h (λ passed.
    slot_fits c n (Used f) (Used (grown c f (in_clusters c blocks))) (in_clusters c blocks) h (at f refl) (omega arith) (extend_room c n f blocks new passed))

trunc_fits : (c : Cat) (n : ℕ) (f : Option File) (blocks : ℕ) → Fits c → ((g : File) → f ≡ Some g → slice_get c.files (n - 1) ≡ Some (Used g))
    → Fits (trunc_of c n f blocks).after
trunc_fits c n None blocks h at = h
trunc_fits c n (Some f) blocks h at =
    fits_if _ _ _ h (less_fits c n (Used f) (Used (cut c f (min f.clusters (in_clusters c blocks)))) h (at f refl) (omega arith))

entry_fits : (c : Cat) (e : Option DirEnt) (next : DirEnt → Outcome) → Fits c → ((x : DirEnt) → Fits (next x).after) → Fits (with_entry c e next).after
entry_fits c None next h k = h
entry_fits c (Some e) next h k = fits_if _ _ _ h (k e)

unnamed_fits : (c : Cat) (dir : ℕ) (d : File) (e : DirEnt) (n : ℕ) (f : Option File) → Fits c → slice_get c.files (dir - 1) ≡ Some (Used d)
    → ((g : File) → f ≡ Some g → slice_get c.files (n - 1) ≡ Some (Used g)) → Fits (unnamed (less_entry c dir d e) n f).after
unnamed_fits c dir d e n None h at own = entries_fit c dir d (without e.name e.ver d.entries) h at
unnamed_fits c dir d e n (Some f) h at own =
    let less = without e.name e.ver d.entries in
    let fits : Fits (less_entry c dir d e) = entries_fit c dir d less h at in
    let o = holds_less c dir n d f less at (own f refl) in
    fits_if _ _ _ (held_fits (less_entry c dir d e) n f.clusters (Used (record f { marked = true })) fits o (omega arith))
    (held_fits (less_entry c dir d e) n f.clusters (Free f.seq) fits o (omega arith))

delete_fits : (c : Cat) (dir : Fid) (name : List ℕ) (ver : ℕ) → Fits c → Fits (delete_outcome c dir name ver).after
unfolding delete_outcome
delete_fits c dir name ver h = fits_in c (live c dir) _ h (λ d at.
    entry_fits c (entry_of (versions name d.entries) ver) _ h (λ e. fits_if _ _ _ h
    (unnamed_fits c dir.num d e e.fid.num (in_use c e.fid) h (stands_live c dir d at) (λ g own. stands_in_use c e.fid g own))))

rename_fits : (c : Cat) (dir : Fid) (name : List ℕ) (ver : ℕ) (to : List ℕ) (to_ver : ℕ) → Fits c → Fits (rename_outcome c dir name ver to to_ver).after
unfolding rename_outcome
rename_fits c dir name ver to to_ver h = fits_in c (live c dir) _ h (λ d at.
    entry_fits c (entry_of (versions name d.entries) ver) _ h (λ e. fits_unless c (rename_refusal c d to to_ver) _ h (λ passed.
    entries_fit c dir.num d _ h (stands_live c dir d at))))

open_fits : (c : Cat) (node chan n : ℕ) (f : Option File) (mode : Mode) → Fits c → Fits (open_of c node chan n f mode).after
open_fits c node chan n None mode h = h
open_fits c node chan n (Some f) mode h = fits_unless c _ _ h (λ passed. h)

closed_fits : (c : Cat) (n : ℕ) (f : Option File) → Fits c → ((g : File) → f ≡ Some g → slice_get c.files (n - 1) ≡ Some (Used g)) → Fits (closed c n f).after
closed_fits c n None h at = h
closed_fits c n (Some f) h at = fits_if _ _ _ (less_fits c n (Used f) (Free f.seq) h (at f refl) (omega arith)) h

close_fits : (c : Cat) (node chan : ℕ) (o : Option Open) → Fits c → Fits (close_of c node chan o).after
close_fits c node chan None h = h
close_fits c node chan (Some o) h =
    closed_fits (with_channel c node chan None) o.file (file_at c o.file) h (λ g at. stands_at c o.file g at)

read_fits : (c : Cat) (f : Option File) (vbn : ℕ) → Fits c → Fits (read_of c f vbn).after
read_fits c None vbn h = h
read_fits c (Some f) vbn h = fits_if _ _ _ h h

read_open_fits : (c : Cat) (o : Option Open) (vbn : ℕ) → Fits c → Fits (read_open c o vbn).after
read_open_fits c None vbn h = h
read_open_fits c (Some o) vbn h = read_fits c (file_at c o.file) vbn h

written-clusters : (f : File) (vbn : ℕ) (text : List ℕ) → (written f vbn text).clusters ≡ f.clusters
written-clusters f vbn text = ended-clusters _ (marked_up f vbn) _ refl ∙ ended-clusters _ f _ refl

write_fits : (c : Cat) (n : ℕ) (f : Option File) (vbn : ℕ) (text : List ℕ) → Fits c → ((g : File) → f ≡ Some g → slice_get c.files (n - 1) ≡ Some (Used g))
    → Fits (write_of c n f vbn text).after
write_fits c n None vbn text h at = h
write_fits c n (Some f) vbn text h at =
    let e = written-clusters f vbn text in
    fits_if _ _ _ h (less_fits c n (Used f) (Used (written f vbn text)) h (at f refl) (omega (arith, e)))

write_open_fits : (c : Cat) (o : Option Open) (vbn : ℕ) (text : List ℕ) → Fits c → Fits (write_open c o vbn text).after
write_open_fits c None vbn text h = h
write_open_fits c (Some o) vbn text h = fits_if _ _ _ h (write_fits c o.file (file_at c o.file) vbn text h (λ g at. stands_at c o.file g at))

quota_set_fits : (c : Cat) (r : Option QuotaRow) (owner : Uic) (quota over : ℕ) → Fits c → Fits (quota_set_of c r owner quota over).after
quota_set_fits c (Some r) owner quota over h = h
quota_set_fits c None owner quota over h = fits_if _ _ _ h h

quota_show_fits : (c : Cat) (r : Option QuotaRow) → Fits c → Fits (quota_shown c r).after
quota_show_fits c None h = h
quota_show_fits c (Some r) h = h

-- the catalogue after any answer fits
pub outcome_fits : (c : Cat) (node : ℕ) (x : Cmd) (new : Option ℕ) → Fits c → IsPick c new → Fits (outcome c node x new).after
unfolding outcome lookup_outcome list_outcome stat_outcome extend_outcome trunc_outcome open_outcome close_outcome read_outcome write_outcome quota_set_outcome quota_show_outcome
outcome_fits c node (cmd.Lookup reg dir name ver) new h pick = fits_in c (live c dir) _ h (λ d at. h)
outcome_fits c node (cmd.List dir) new h pick = fits_in c (live c dir) _ h (λ d at. h)
outcome_fits c node (cmd.Stat file) new h pick = stat_fits c (live c file) h
outcome_fits c node (cmd.Create reg dir name ver blocks owner) new h pick = create_fits c dir name ver blocks owner new h pick
outcome_fits c node (cmd.MkDir reg dir name owner) new h pick = mkdir_fits c dir name owner new h pick
outcome_fits c node (cmd.Extend file blocks) new h pick = extend_fits c file.num (live c file) blocks new h (λ g at. stands_live c file g at)
outcome_fits c node (cmd.Trunc file blocks) new h pick = trunc_fits c file.num (live c file) blocks h (λ g at. stands_live c file g at)
outcome_fits c node (cmd.Delete dir name ver) new h pick = delete_fits c dir name ver h
outcome_fits c node (cmd.Rename dir name ver to to_ver) new h pick = rename_fits c dir name ver to to_ver h
outcome_fits c node (cmd.OpenFile chan file mode) new h pick = fits_if _ _ _ h (open_fits c node chan file.num (live c file) mode h)
outcome_fits c node (cmd.CloseFile chan) new h pick = close_fits c node chan (channel_at c node chan) h
outcome_fits c node (cmd.ReadBlock chan vbn) new h pick = read_open_fits c (channel_at c node chan) vbn h
outcome_fits c node (cmd.WriteBlock chan vbn text) new h pick = write_open_fits c (channel_at c node chan) vbn text h
outcome_fits c node (cmd.QuotaSet owner quota over) new h pick = quota_set_fits c (row_of owner c.quota) owner quota over h
outcome_fits c node (cmd.QuotaShow owner) new h pick = quota_show_fits c (row_of owner c.quota) h
