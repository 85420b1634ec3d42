use Rattle.std.proofs.Common.{◌≡◌, ◌&&◌, ◌≤◌, ◌∙◌, ◌-◌, ℕ, Bool, true, false, cond, not, List, Option, Some, None, nat_le, nat_lt, slice_get, refl, sym, arith}
use Rattle.std.specs.Prelude.{option_and_then}
use Rattle.std.proofs.lemmas.Bool.Decides.{nat_tests}
use Rattle.plain_cat.specs.declared.ids.Fid.{Fid}
use Rattle.plain_cat.specs.declared.ids.Uic.{Uic}
use Rattle.plain_cat.specs.declared.entries.DirEnt.{DirEnt}
use Rattle.plain_cat.specs.declared.command.Cmd.{Cmd}
use Rattle.plain_cat.specs.declared.command.Cmd.TheVariants as cmd
use Rattle.plain_cat.specs.declared.reply.Refusal.{Refusal}
use Rattle.plain_cat.specs.declared.history.Stage.{Stage}
use Rattle.plain_cat.specs.declared.history.Stage.TheVariants as stage
use Rattle.plain_cat.specs.declared.cat.Cat.{Cat}
use Rattle.plain_cat.specs.declared.cat.File.{File}
use Rattle.plain_cat.specs.declared.cat.Slot.TheVariants.{Used, Free}
use Rattle.plain_rules.specs.declared.outcome.Outcome.{Outcome}
use Rattle.plain_rules.specs.Lookups.{file_at, in_use, live, versions, entry_of, channel_at, is_open, free_clusters}
use Rattle.plain_rules.specs.Directories.{inserted, without, entry, new_version}
use Rattle.plain_rules.specs.Changes.{in_clusters, with_file, freed, new_fid, new_file, new_dir, cut, is_past_mark, text_block, with_block, with_channel}
use Rattle.plain_rules.specs.Answers.{unless, in_directory_file, create_refusal, create_made, create_outcome, dir_name, mkdir_refusal, mkdir_made, mkdir_outcome, less_entry, outcome, IsPick}
use Rattle.plain_rules.specs.Stages.{is_refusal, only_if, making_stage, create_stage, mkdir_stage, extend_stage, trunc_stage, unnaming_stage, entry_stage, delete_stage, renaming_stage, rename_stage, closing_stage, close_stage, writing_stage, write_stage, quota_stage, command_stage, shown_stage, begun, staged}
use Rattle.plain_laws.specs.Fitting.{Fits}
use Rattle.plain_rules.proofs.Picks.{pick_is_free}
use Rattle.plain_rules.proofs.Standing.{stands_at, stands_in_use, stands_live}
use Rattle.plain_laws.proofs.FitAnswers.{less_fits, holds_less, held_fits, entries_fit, create_room, mkdir_room, placed_fits, outcome_fits}

-- a catalogue, where there is one, fits
abbrev pub FitsIf : Option Cat → Type 0
FitsIf None = Unit {0}
FitsIf (Some c) = Fits c

fits_only : (b : Bool) (c : Cat) → (b ≡ true → Fits c) → FitsIf (only_if b c)
fits_only true c h = h refl
fits_only false c h = tt

fits_then : {X : Type 0} (o : Option X) (next : X → Option Cat) → ((x : X) → o ≡ Some x → FitsIf (next x)) → FitsIf (option_and_then next o)
fits_then None next h = tt
fits_then (Some x) next h = h x refl

-- what is not refused has passed the checks
passed : (c : Cat) (r : Option Refusal) (o : Outcome) → is_refusal (unless c r o).reply ≡ false → r ≡ None
passed c None o h = refl
passed c (Some r) o h = let both : true ≡ false = h in absurd (cc both)

passed_if : (P : Type 0) (b : Bool) (o : Outcome) (p : Outcome) → is_refusal p.reply ≡ true → (is_refusal o.reply ≡ false → P) → is_refusal (cond b o p).reply ≡ false → P
passed_if P true o p refusing k h = k h
passed_if P false o p refusing k h = let both : true ≡ false = sym refusing ∙ h in absurd (cc both)

passed_in : (P : Type 0) (c : Cat) (f : Option File) (next : File → Outcome) → ((d : File) → is_refusal (next d).reply ≡ false → P)
    → is_refusal (in_directory_file c f next).reply ≡ false → P
passed_in P c None next k h = let both : true ≡ false = h in absurd (cc both)
passed_in P c (Some d) next k h = passed_if P d.dir (next d) _ refl (k d) h

create_passed : (c : Cat) (dir : Fid) (name : List ℕ) (ver blocks : ℕ) (owner : Uic) (new : Option ℕ)
    → is_refusal (create_outcome c dir name ver blocks owner new).reply ≡ false → in_clusters c blocks ≤ free_clusters c
unfolding create_outcome
create_passed c dir name ver blocks owner new h =
    passed_in (in_clusters c blocks ≤ free_clusters c) c (live c dir)
    (λ d. unless c (create_refusal c d name ver blocks owner new) (create_made c dir.num d name ver blocks owner new))
    (λ d k. create_room c d name ver blocks owner new (passed c (create_refusal c d name ver blocks owner new) (create_made c dir.num d name ver blocks owner new) k)) h

mkdir_passed : (c : Cat) (dir : Fid) (name : List ℕ) (owner : Uic) (new : Option ℕ)
    → is_refusal (mkdir_outcome c dir name owner new).reply ≡ false → 1 ≤ free_clusters c
unfolding mkdir_outcome
mkdir_passed c dir name owner new h =
    passed_in (1 ≤ free_clusters c) c (live c dir)
    (λ d. unless c (mkdir_refusal c d (dir_name name) owner new) (mkdir_made c dir.num d (dir_name name) owner new))
    (λ d k. mkdir_room c d (dir_name name) owner new (passed c (mkdir_refusal c d (dir_name name) owner new) (mkdir_made c dir.num d (dir_name name) owner new) k)) h

making_fits : (c : Cat) (n : ℕ) (f : File) (o : Outcome) (s : Stage) → Fits c → Fits o.after → IsPick c (Some n) → f.clusters ≤ free_clusters c
    → FitsIf (making_stage c n f o s)
making_fits c n f o stage.Charged h k pick few = h
making_fits c n f o stage.Lost h k pick few = placed_fits c n f h (pick_is_free c n pick) few
making_fits c n f o stage.Done h k pick few = k
making_fits c n f o s h k pick few = tt

create_fits : (c : Cat) (blocks : ℕ) (owner : Uic) (new : Option ℕ) (o : Outcome) (s : Stage) → Fits c → Fits o.after → IsPick c new
    → in_clusters c blocks ≤ free_clusters c → FitsIf (create_stage c blocks owner new o s)
unfolding create_stage
create_fits c blocks owner None o s h k pick few = tt
create_fits c blocks owner (Some n) o s h k pick few = making_fits c n (new_file (new_fid c n).seq owner (in_clusters c blocks)) o s h k pick few

mkdir_fits : (c : Cat) (owner : Uic) (new : Option ℕ) (o : Outcome) (s : Stage) → Fits c → Fits o.after → IsPick c new → 1 ≤ free_clusters c
    → FitsIf (mkdir_stage c owner new o s)
unfolding mkdir_stage
mkdir_fits c owner None o s h k pick few = tt
mkdir_fits c owner (Some n) o s h k pick few = making_fits c n (new_dir (new_fid c n).seq owner c.factor) o s h k pick few

extend_fits : (c : Cat) (f : Option File) (blocks : ℕ) (o : Outcome) (s : Stage) → Fits c → Fits o.after → FitsIf (extend_stage c f blocks o s)
unfolding extend_stage
extend_fits c (Some f) blocks o stage.Charged h k = h
extend_fits c (Some f) blocks o stage.Done h k = k
extend_fits c f blocks o s h k = tt

trunc_fits : (c : Cat) (n : ℕ) (f : Option File) (blocks : ℕ) (o : Outcome) (s : Stage) → Fits c → Fits o.after
    → ((g : File) → f ≡ Some g → slice_get c.files (n - 1) ≡ Some (Used g)) → FitsIf (trunc_stage c n f blocks o s)
unfolding trunc_stage
trunc_fits c n (Some f) blocks o stage.Shortened h k at =
    fits_only (nat_lt (in_clusters c blocks) f.clusters) (with_file c n (cut c f (in_clusters c blocks)))
    (λ less. less_fits c n (Used f) (Used (cut c f (in_clusters c blocks))) h (at f refl) (below (in_clusters c blocks) f.clusters less)) where
      below : (a b : ℕ) → nat_lt a b ≡ true → a ≤ b
      below a b h = grind (arith, nat_tests)
trunc_fits c n (Some f) blocks o stage.Done h k at = fits_only (nat_lt (in_clusters c blocks) f.clusters) o.after (λ less. k)
trunc_fits c n f blocks o s h k at = tt

unnaming_fits : (c : Cat) (dir : ℕ) (d : File) (e : DirEnt) (f : File) (o : Outcome) (s : Stage) → Fits c → Fits o.after
    → slice_get c.files (dir - 1) ≡ Some (Used d) → slice_get c.files (e.fid.num - 1) ≡ Some (Used f) → FitsIf (unnaming_stage c dir d e f o s)
unnaming_fits c dir d e f o stage.Marked h k at own =
    fits_only (not f.marked) (with_file c e.fid.num (record f { marked = true }))
    (λ p. less_fits c e.fid.num (Used f) (Used (record f { marked = true })) h own (omega arith))
unnaming_fits c dir d e f o stage.Unlinked h k at own =
    held_fits (less_entry c dir d e) e.fid.num f.clusters (Used (record f { marked = true }))
    (entries_fit c dir d (without e.name e.ver d.entries) h at) (holds_less c dir e.fid.num d f (without e.name e.ver d.entries) at own) (omega arith)
unnaming_fits c dir d e f o stage.Freed h k at own =
    fits_only (not (is_open c e.fid.num)) (freed (less_entry c dir d e) e.fid.num f)
    (λ p. held_fits (less_entry c dir d e) e.fid.num f.clusters (Free f.seq)
    (entries_fit c dir d (without e.name e.ver d.entries) h at) (holds_less c dir e.fid.num d f (without e.name e.ver d.entries) at own) (omega arith))
unnaming_fits c dir d e f o stage.Done h k at own = fits_only (not (is_open c e.fid.num)) o.after (λ p. k)
unnaming_fits c dir d e f o s h k at own = tt

entry_fits : (c : Cat) (dir : ℕ) (d : File) (e : DirEnt) (f : Option File) (o : Outcome) (s : Stage) → Fits c → Fits o.after
    → slice_get c.files (dir - 1) ≡ Some (Used d) → ((g : File) → f ≡ Some g → slice_get c.files (e.fid.num - 1) ≡ Some (Used g))
    → FitsIf (entry_stage c dir d e f o s)
entry_fits c dir d e (Some f) o s h k at own = unnaming_fits c dir d e f o s h k at (own f refl)
entry_fits c dir d e None o stage.Done h k at own = k
entry_fits c dir d e None o s h k at own = tt

delete_fits : (c : Cat) (dir : Fid) (name : List ℕ) (ver : ℕ) (o : Outcome) (s : Stage) → Fits c → Fits o.after → FitsIf (delete_stage c dir name ver o s)
unfolding delete_stage
delete_fits c dir name ver o s h k = fits_then (live c dir) _ (λ d at. fits_then (entry_of (versions name d.entries) ver) _ (λ e is.
    entry_fits c dir.num d e (in_use c e.fid) o s h k (stands_live c dir d at) (λ g own. stands_in_use c e.fid g own)))

renaming_fits : (c : Cat) (dir : ℕ) (d : File) (e : DirEnt) (to : List ℕ) (ver : ℕ) (o : Outcome) (s : Stage) → Fits c → Fits o.after
    → slice_get c.files (dir - 1) ≡ Some (Used d) → FitsIf (renaming_stage c dir d e to ver o s)
renaming_fits c dir d e to ver o stage.Both h k at = entries_fit c dir d (inserted (entry to ver e.fid) d.entries) h at
renaming_fits c dir d e to ver o stage.Done h k at = k
renaming_fits c dir d e to ver o s h k at = tt

rename_fits : (c : Cat) (dir : Fid) (name : List ℕ) (ver : ℕ) (to : List ℕ) (to_ver : ℕ) (o : Outcome) (s : Stage) → Fits c → Fits o.after
    → FitsIf (rename_stage c dir name ver to to_ver o s)
unfolding rename_stage
rename_fits c dir name ver to to_ver o s h k = fits_then (live c dir) _ (λ d at. fits_then (entry_of (versions name d.entries) ver) _ (λ e is.
    renaming_fits c dir.num d e to (new_version to_ver (versions to d.entries)) o s h k (stands_live c dir d at)))

closing_fits : (c : Cat) (n : ℕ) (f : File) (o : Outcome) (s : Stage) → Fits c → Fits o.after → slice_get c.files (n - 1) ≡ Some (Used f)
    → FitsIf (closing_stage c n f o s)
closing_fits c n f o stage.Freed h k at = fits_only (f.marked && not (is_open c n)) (freed c n f) (λ p. less_fits c n (Used f) (Free f.seq) h at (omega arith))
closing_fits c n f o stage.Done h k at = fits_only (f.marked && not (is_open c n)) o.after (λ p. k)
closing_fits c n f o s h k at = tt

close_fits : (c : Cat) (node chan : ℕ) (o : Outcome) (s : Stage) → Fits c → Fits o.after → FitsIf (close_stage c node chan o s)
unfolding close_stage
close_fits c node chan o s h k = fits_then (channel_at c node chan) _ (λ p is. fits_then (file_at c p.file) _ (λ f at.
    closing_fits (with_channel c node chan None) p.file f o s h k (stands_at c p.file f at)))

writing_fits : (c : Cat) (n : ℕ) (f : File) (vbn : ℕ) (text : List ℕ) (o : Outcome) (s : Stage) → Fits c → Fits o.after
    → slice_get c.files (n - 1) ≡ Some (Used f) → FitsIf (writing_stage c n f vbn text o s)
writing_fits c n f vbn text o stage.DataOnly h k at =
    fits_only (not (is_past_mark f vbn) && nat_le f.end vbn) (with_file c n (record f { written = with_block f vbn (text_block text) }))
    (λ p. less_fits c n (Used f) (Used (record f { written = with_block f vbn (text_block text) })) h at (omega arith))
writing_fits c n f vbn text o stage.Done h k at = k
writing_fits c n f vbn text o s h k at = tt

write_fits : (c : Cat) (node chan vbn : ℕ) (text : List ℕ) (o : Outcome) (s : Stage) → Fits c → Fits o.after → FitsIf (write_stage c node chan vbn text o s)
unfolding write_stage
write_fits c node chan vbn text o s h k = fits_then (channel_at c node chan) _ (λ p is. fits_then (file_at c p.file) _ (λ f at.
    writing_fits c p.file f vbn text o s h k (stands_at c p.file f at)))

quota_fits : (o : Outcome) (s : Stage) → Fits o.after → FitsIf (quota_stage o s)
quota_fits o stage.Done k = k
quota_fits o s k = tt

command_fits : (c : Cat) (node : ℕ) (x : Cmd) (new : Option ℕ) (s : Stage) → Fits c → IsPick c new → is_refusal (outcome c node x new).reply ≡ false
    → FitsIf (command_stage c node x new (outcome c node x new) s)
unfolding command_stage outcome
command_fits c node (cmd.Lookup reg dir name ver) new s h pick kept = tt
command_fits c node (cmd.List dir) new s h pick kept = tt
command_fits c node (cmd.Stat file) new s h pick kept = tt
command_fits c node (cmd.Create reg dir name ver blocks owner) new s h pick kept =
    create_fits c blocks owner new _ s h (outcome_fits c node (cmd.Create reg dir name ver blocks owner) new h pick) pick (create_passed c dir name ver blocks owner new kept)
command_fits c node (cmd.MkDir reg dir name owner) new s h pick kept =
    mkdir_fits c owner new _ s h (outcome_fits c node (cmd.MkDir reg dir name owner) new h pick) pick (mkdir_passed c dir name owner new kept)
command_fits c node (cmd.Extend file blocks) new s h pick kept =
    extend_fits c (live c file) blocks _ s h (outcome_fits c node (cmd.Extend file blocks) new h pick)
command_fits c node (cmd.Trunc file blocks) new s h pick kept =
    trunc_fits c file.num (live c file) blocks _ s h (outcome_fits c node (cmd.Trunc file blocks) new h pick) (λ g at. stands_live c file g at)
command_fits c node (cmd.Delete dir name ver) new s h pick kept =
    delete_fits c dir name ver _ s h (outcome_fits c node (cmd.Delete dir name ver) new h pick)
command_fits c node (cmd.Rename dir name ver to to_ver) new s h pick kept =
    rename_fits c dir name ver to to_ver _ s h (outcome_fits c node (cmd.Rename dir name ver to to_ver) new h pick)
command_fits c node (cmd.OpenFile chan file mode) new s h pick kept = tt
command_fits c node (cmd.CloseFile chan) new s h pick kept =
    close_fits c node chan _ s h (outcome_fits c node (cmd.CloseFile chan) new h pick)
command_fits c node (cmd.ReadBlock chan vbn) new s h pick kept = tt
command_fits c node (cmd.WriteBlock chan vbn text) new s h pick kept =
    write_fits c node chan vbn text _ s h (outcome_fits c node (cmd.WriteBlock chan vbn text) new h pick)
command_fits c node (cmd.QuotaSet owner quota over) new s h pick kept =
    quota_fits (outcome c node (cmd.QuotaSet owner quota over) new) s (outcome_fits c node (cmd.QuotaSet owner quota over) new h pick)
command_fits c node (cmd.QuotaShow owner) new s h pick kept = tt

fits_unless : (b : Bool) (o : Option Cat) → (b ≡ false → FitsIf o) → FitsIf (cond b None o)
fits_unless true o h = tt
fits_unless false o h = h refl

shown_fits : (c : Cat) (node : ℕ) (x : Option Cmd) (new : Option ℕ) (s : Stage) → Fits c → IsPick c new → FitsIf (shown_stage c node x new s)
shown_fits c node None new s h pick = tt
shown_fits c node (Some x) new s h pick =
    fits_unless (is_refusal (outcome c node x new).reply) (command_stage c node x new (outcome c node x new) s) (λ kept. command_fits c node x new s h pick kept)

begun_fits : (c : Cat) (x : Option Cmd) → Fits c → FitsIf (begun c x)
begun_fits c None h = tt
begun_fits c (Some x) h = h

-- the catalogue at any stage fits
pub staged_fits : (c : Cat) (node : ℕ) (x : Option Cmd) (s : Stage) (new : Option ℕ) → Fits c → IsPick c new → FitsIf (staged c node x s new)
unfolding staged
staged_fits c node x stage.Idle new h pick = h
staged_fits c node x stage.Nothing new h pick = begun_fits c x h
staged_fits c node x s new h pick = shown_fits c node x new s h pick
