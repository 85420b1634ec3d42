-- What a stage makes of the channels and of the files that they have open.
use Rattle.std.proofs.Common.{◌≡◌, ◌-◌, ◌&&◌, ◌≤◌, ◌⊎◌, inl, inr, ℕ, Bool, true, false, cond, not, List, Option, Some, None, nat_le, nat_lt, slice_get, refl, sym, subst}
use Rattle.std.specs.Prelude.{option_and_then}
use Rattle.plain_cat.specs.declared.ids.Fid.{Fid}
use Rattle.plain_cat.specs.declared.ids.Uic.{Uic}
use Rattle.plain_cat.specs.declared.entries.DirEnt.{DirEnt}
use Rattle.plain_cat.specs.declared.command.Cmd.{Cmd}
use Rattle.plain_cat.specs.declared.command.Cmd.TheVariants as cmd
use Rattle.plain_cat.specs.declared.reply.Reply.TheVariants as reply
use Rattle.plain_cat.specs.declared.history.Stage.{Stage}
use Rattle.plain_cat.specs.declared.history.Stage.TheVariants as stage
use Rattle.plain_cat.specs.declared.cat.Cat.{Cat}
use Rattle.plain_cat.specs.declared.cat.File.{File}
use Rattle.plain_cat.specs.declared.cat.Open.{Open}
use Rattle.plain_cat.specs.declared.cat.Slot.TheVariants.{Used, Free}
use Rattle.plain_rules.specs.declared.outcome.Outcome.{Outcome}
use Rattle.plain_rules.specs.Lookups.{file_at, of_seq, in_use, live, versions, entry_of, channel_at, is_open}
use Rattle.plain_rules.specs.Directories.{inserted, without, entry, new_version}
use Rattle.plain_rules.specs.Changes.{in_clusters, with_file, freed, new_fid, new_file, new_dir, cut, is_past_mark, text_block, with_block, with_channel}
use Rattle.plain_rules.specs.Answers.{told, removed, less_entry, closed, close_of, close_outcome, outcome, IsPick}
use Rattle.plain_rules.specs.Stages.{is_refusal, only_if, making_stage, create_stage, mkdir_stage, extend_stage, trunc_stage, unnaming_stage, entry_stage, delete_stage, renaming_stage, rename_stage, closing_stage, close_stage, writing_stage, write_stage, quota_stage, command_stage, shown_stage, begun, staged}
use Rattle.plain_rules.proofs.Picks.{pick_is_free}
use Rattle.plain_rules.proofs.Standing.{stands_at, stands_in_use, stands_live}
use Rattle.plain_histories.specs.Moves.{switched_next}
use Rattle.plain_histories.proofs.Lists.{not_true, right}
use Rattle.plain_histories.proofs.Files.{AllStay, same_stay, slot_stay, file_from}
use Rattle.plain_histories.proofs.Moving.{Kept, all_kept, same_kept, then_kept, entries_stay, placed_stay, gone_open, kept_by}

-- a catalogue, where there is one, has the channels and the open files of b
abbrev KeptIf : Cat → Option Cat → Type 0
KeptIf b None = Unit {0}
KeptIf b (Some d) = Kept b d

only_kept : (b : Cat) (t : Bool) (d : Cat) → (t ≡ true → Kept b d) → KeptIf b (only_if t d)
only_kept b true d h = h refl
only_kept b false d h = tt

then_if : {X : Type 0} (b : Cat) (o : Option X) (next : X → Option Cat) → ((x : X) → o ≡ Some x → KeptIf b (next x)) → KeptIf b (option_and_then next o)
then_if b None next h = tt
then_if b (Some x) next h = h x refl

making_kept : (c : Cat) (n : ℕ) (f : File) (o : Outcome) (s : Stage) → Kept c o.after → IsPick c (Some n) → KeptIf c (making_stage c n f o s)
making_kept c n f o stage.Charged k pick = all_kept c _ refl (same_stay c.files)
making_kept c n f o stage.Lost k pick = all_kept c _ refl (placed_stay c n f (pick_is_free c n pick))
making_kept c n f o stage.Done k pick = k
making_kept c n f o s k pick = tt

create_kept : (c : Cat) (blocks : ℕ) (owner : Uic) (new : Option ℕ) (o : Outcome) (s : Stage) → Kept c o.after → IsPick c new → KeptIf c (create_stage c blocks owner new o s)
unfolding create_stage
create_kept c blocks owner None o s k pick = tt
create_kept c blocks owner (Some n) o s k pick = making_kept c n (new_file (new_fid c n).seq owner (in_clusters c blocks)) o s k pick

mkdir_kept : (c : Cat) (owner : Uic) (new : Option ℕ) (o : Outcome) (s : Stage) → Kept c o.after → IsPick c new → KeptIf c (mkdir_stage c owner new o s)
unfolding mkdir_stage
mkdir_kept c owner None o s k pick = tt
mkdir_kept c owner (Some n) o s k pick = making_kept c n (new_dir (new_fid c n).seq owner c.factor) o s k pick

extend_kept : (c : Cat) (f : Option File) (blocks : ℕ) (o : Outcome) (s : Stage) → Kept c o.after → KeptIf c (extend_stage c f blocks o s)
unfolding extend_stage
extend_kept c (Some f) blocks o stage.Charged k = record { opens = refl; files = (same_kept c).files }
extend_kept c (Some f) blocks o stage.Done k = k
extend_kept c f blocks o s k = tt

trunc_kept : (c : Cat) (n : ℕ) (f : Option File) (blocks : ℕ) (o : Outcome) (s : Stage) → Kept c o.after
    → ((g : File) → f ≡ Some g → slice_get c.files (n - 1) ≡ Some (Used g)) → KeptIf c (trunc_stage c n f blocks o s)
unfolding trunc_stage
trunc_kept c n (Some f) blocks o stage.Shortened k at =
    only_kept c (nat_lt (in_clusters c blocks) f.clusters) (with_file c n (cut c f (in_clusters c blocks)))
    (λ less. all_kept c _ refl (slot_stay c.files (n - 1) f (cut c f (in_clusters c blocks)) (at f refl) refl refl))
trunc_kept c n (Some f) blocks o stage.Done k at = only_kept c (nat_lt (in_clusters c blocks) f.clusters) o.after (λ less. k)
trunc_kept c n f blocks o s k at = tt

unnaming_kept : (c : Cat) (dir : ℕ) (d : File) (e : DirEnt) (f : File) (o : Outcome) (s : Stage) → Kept c o.after → 1 ≤ e.fid.num
    → slice_get c.files (dir - 1) ≡ Some (Used d) → slice_get c.files (e.fid.num - 1) ≡ Some (Used f) → KeptIf c (unnaming_stage c dir d e f o s)
unnaming_kept c dir d e f o stage.Marked k from at own =
    only_kept c (not f.marked) (with_file c e.fid.num (record f { marked = true })) (λ p. all_kept c _ refl (slot_stay c.files (e.fid.num - 1) f (record f { marked = true }) own refl refl))
unnaming_kept c dir d e f o stage.Unlinked k from at own =
    let less : Cat = less_entry c dir d e in
    let stay : AllStay c.files less.files = entries_stay c dir d (without e.name e.ver d.entries) at in
    let g = stay (e.fid.num - 1) f own in
    then_kept c less _ refl stay (all_kept less _ refl (slot_stay less.files (e.fid.num - 1) g.file (record f { marked = true }) g.at (sym g.seq) (sym g.dir)))
unnaming_kept c dir d e f o stage.Freed k from at own =
    let less : Cat = less_entry c dir d e in
    let stay : AllStay c.files less.files = entries_stay c dir d (without e.name e.ver d.entries) at in
    only_kept c (not (is_open c e.fid.num)) (freed less e.fid.num f)
    (λ none. then_kept c less _ refl stay (record { opens = refl; files = gone_open less (freed less e.fid.num f) e.fid.num (Free f.seq) from refl (not_true (is_open c e.fid.num) none) }))
unnaming_kept c dir d e f o stage.Done k from at own = only_kept c (not (is_open c e.fid.num)) o.after (λ none. k)
unnaming_kept c dir d e f o s k from at own = tt

-- a file in use has a number
used_from : (c : Cat) (fid : Fid) (f : File) → in_use c fid ≡ Some f → 1 ≤ fid.num
used_from c fid f e = by_file (file_at c fid.num) refl e where
  by_file : (o : Option File) → file_at c fid.num ≡ o → of_seq fid.seq o ≡ Some f → 1 ≤ fid.num
  by_file None at h = absurd (let x : None ≡ Some f = h in cc)
  by_file (Some g) at h = file_from c fid.num g at

entry_kept : (c : Cat) (dir : ℕ) (d : File) (e : DirEnt) (f : Option File) (o : Outcome) (s : Stage) → Kept c o.after → slice_get c.files (dir - 1) ≡ Some (Used d)
    → ((g : File) → f ≡ Some g → in_use c e.fid ≡ Some g) → KeptIf c (entry_stage c dir d e f o s)
entry_kept c dir d e (Some f) o s k at own = unnaming_kept c dir d e f o s k (used_from c e.fid f (own f refl)) at (stands_in_use c e.fid f (own f refl))
entry_kept c dir d e None o stage.Done k at own = k
entry_kept c dir d e None o s k at own = tt

delete_kept : (c : Cat) (dir : Fid) (name : List ℕ) (ver : ℕ) (o : Outcome) (s : Stage) → Kept c o.after → KeptIf c (delete_stage c dir name ver o s)
unfolding delete_stage
delete_kept c dir name ver o s k = then_if c (live c dir) _ (λ d at. then_if c (entry_of (versions name d.entries) ver) _ (λ e is.
    entry_kept c dir.num d e (in_use c e.fid) o s k (stands_live c dir d at) (λ g own. own)))

renaming_kept : (c : Cat) (dir : ℕ) (d : File) (e : DirEnt) (to : List ℕ) (ver : ℕ) (o : Outcome) (s : Stage) → Kept c o.after → slice_get c.files (dir - 1) ≡ Some (Used d)
    → KeptIf c (renaming_stage c dir d e to ver o s)
renaming_kept c dir d e to ver o stage.Both k at = all_kept c _ refl (entries_stay c dir d (inserted (entry to ver e.fid) d.entries) at)
renaming_kept c dir d e to ver o stage.Done k at = k
renaming_kept c dir d e to ver o s k at = tt

rename_kept : (c : Cat) (dir : Fid) (name : List ℕ) (ver : ℕ) (to : List ℕ) (to_ver : ℕ) (o : Outcome) (s : Stage) → Kept c o.after → KeptIf c (rename_stage c dir name ver to to_ver o s)
unfolding rename_stage
rename_kept c dir name ver to to_ver o s k = then_if c (live c dir) _ (λ d at. then_if c (entry_of (versions name d.entries) ver) _ (λ e is.
    renaming_kept c dir.num d e to (new_version to_ver (versions to d.entries)) o s k (stands_live c dir d at)))

-- with the channel already closed
closing_kept : (c : Cat) (n : ℕ) (f : File) (o : Outcome) (s : Stage) → Kept c o.after → 1 ≤ n → KeptIf c (closing_stage c n f o s)
closing_kept c n f o stage.Freed k from = only_kept c (f.marked && not (is_open c n)) (freed c n f)
    (λ p. record { opens = refl; files = gone_open c (freed c n f) n (Free f.seq) from refl (not_true (is_open c n) (right f.marked (not (is_open c n)) p)) })
closing_kept c n f o stage.Done k from = only_kept c (f.marked && not (is_open c n)) o.after (λ p. k)
closing_kept c n f o s k from = tt

close_kept : (c : Cat) (node chan : ℕ) (o : Outcome) (s : Stage) → ((p : Open) → channel_at c node chan ≡ Some p → Kept (with_channel c node chan None) o.after)
    → KeptIf (with_channel c node chan None) (close_stage c node chan o s)
unfolding close_stage
close_kept c node chan o s k = then_if (with_channel c node chan None) (channel_at c node chan) _ (λ p is. then_if (with_channel c node chan None) (file_at c p.file) _ (λ f at.
    closing_kept (with_channel c node chan None) p.file f o s (k p is) (file_from c p.file f at)))

writing_kept : (c : Cat) (n : ℕ) (f : File) (vbn : ℕ) (text : List ℕ) (o : Outcome) (s : Stage) → Kept c o.after → slice_get c.files (n - 1) ≡ Some (Used f)
    → KeptIf c (writing_stage c n f vbn text o s)
writing_kept c n f vbn text o stage.DataOnly k at =
    only_kept c (not (is_past_mark f vbn) && nat_le f.end vbn) (with_file c n (record f { written = with_block f vbn (text_block text) }))
    (λ p. all_kept c _ refl (slot_stay c.files (n - 1) f (record f { written = with_block f vbn (text_block text) }) at refl refl))
writing_kept c n f vbn text o stage.Done k at = k
writing_kept c n f vbn text o s k at = tt

write_kept : (c : Cat) (node chan vbn : ℕ) (text : List ℕ) (o : Outcome) (s : Stage) → Kept c o.after → KeptIf c (write_stage c node chan vbn text o s)
unfolding write_stage
write_kept c node chan vbn text o s k = then_if c (channel_at c node chan) _ (λ p is. then_if c (file_at c p.file) _ (λ f at.
    writing_kept c p.file f vbn text o s k (stands_at c p.file f at)))

quota_kept : (c : Cat) (o : Outcome) (s : Stage) → Kept c o.after → KeptIf c (quota_stage o s)
quota_kept c o stage.Done k = k
quota_kept c o s k = tt

-- the close of an open channel, by its outcome
closed_kept : (c : Cat) (n : ℕ) (f : Option File) → ((g : File) → f ≡ Some g → 1 ≤ n) → Kept c (closed c n f).after
closed_kept c n None from = same_kept c
closed_kept c n (Some f) from = by_open f.marked (is_open c n) refl where
  by_open : (m t : Bool) → is_open c n ≡ t → Kept c (cond (m && not t) (told (removed c n f) (reply.Closed true)) (told c (reply.Closed false))).after
  by_open true false none = record { opens = refl; files = gone_open c (removed c n f) n (Free f.seq) (from f refl) refl none }
  by_open true true none = same_kept c
  by_open false t none = same_kept c

close_outcome_kept : (c : Cat) (node chan : ℕ) (p : Open) → channel_at c node chan ≡ Some p → Kept (with_channel c node chan None) (close_of c node chan (channel_at c node chan)).after
close_outcome_kept c node chan p is = subst (λ (o : Option Open). Kept (with_channel c node chan None) (close_of c node chan o).after) (sym is)
    (closed_kept (with_channel c node chan None) p.file (file_at c p.file) (λ g at. file_from c p.file g at))

by_outcome : (c : Cat) (node chan : ℕ) (new : Option ℕ) (p : Open) → channel_at c node chan ≡ Some p → Kept (with_channel c node chan None) (outcome c node (cmd.CloseFile chan) new).after
unfolding outcome close_outcome
by_outcome c node chan new p is = close_outcome_kept c node chan p is

-- what a stage keeps: all channels, or all but the one that the command closes
abbrev pub StageKept : Cat → ℕ → Option Cmd → Cat → Type 0
StageKept c n x d = Kept c d ⊎ ((k : ℕ) × (switched_next x ≡ Some k) × Kept (with_channel c n k None) d)

from_if : (b d : Cat) (o : Option Cat) → KeptIf b o → o ≡ Some d → Kept b d
from_if b d o k e = subst (KeptIf b) e k

command_kept : (c d : Cat) (n : ℕ) (x : Cmd) (new : Option ℕ) (s : Stage) → IsPick c new → command_stage c n x new (outcome c n x new) s ≡ Some d → StageKept c n (Some x) d
unfolding command_stage
command_kept c d n (cmd.Lookup reg dir name ver) new s pick e = absurd (let f : None ≡ Some d = e in cc)
command_kept c d n (cmd.List dir) new s pick e = absurd (let f : None ≡ Some d = e in cc)
command_kept c d n (cmd.Stat file) new s pick e = absurd (let f : None ≡ Some d = e in cc)
command_kept c d n (cmd.Create reg dir name ver blocks owner) new s pick e =
    inl (from_if c d _ (create_kept c blocks owner new _ s (kept_by c n (cmd.Create reg dir name ver blocks owner) new refl pick) pick) e)
command_kept c d n (cmd.MkDir reg dir name owner) new s pick e =
    inl (from_if c d _ (mkdir_kept c owner new _ s (kept_by c n (cmd.MkDir reg dir name owner) new refl pick) pick) e)
command_kept c d n (cmd.Extend file blocks) new s pick e =
    inl (from_if c d _ (extend_kept c (live c file) blocks _ s (kept_by c n (cmd.Extend file blocks) new refl pick)) e)
command_kept c d n (cmd.Trunc file blocks) new s pick e =
    inl (from_if c d _ (trunc_kept c file.num (live c file) blocks _ s (kept_by c n (cmd.Trunc file blocks) new refl pick) (λ g at. stands_live c file g at)) e)
command_kept c d n (cmd.Delete dir name ver) new s pick e =
    inl (from_if c d _ (delete_kept c dir name ver _ s (kept_by c n (cmd.Delete dir name ver) new refl pick)) e)
command_kept c d n (cmd.Rename dir name ver to to_ver) new s pick e =
    inl (from_if c d _ (rename_kept c dir name ver to to_ver _ s (kept_by c n (cmd.Rename dir name ver to to_ver) new refl pick)) e)
command_kept c d n (cmd.OpenFile chan file mode) new s pick e = absurd (let f : None ≡ Some d = e in cc)
command_kept c d n (cmd.CloseFile chan) new s pick e =
    inr (chan, refl, from_if (with_channel c n chan None) d _ (close_kept c n chan _ s (λ p is. by_outcome c n chan new p is)) e)
command_kept c d n (cmd.ReadBlock chan vbn) new s pick e = absurd (let f : None ≡ Some d = e in cc)
command_kept c d n (cmd.WriteBlock chan vbn text) new s pick e =
    inl (from_if c d _ (write_kept c n chan vbn text _ s (kept_by c n (cmd.WriteBlock chan vbn text) new refl pick)) e)
command_kept c d n (cmd.QuotaSet owner quota over) new s pick e =
    inl (from_if c d _ (quota_kept c (outcome c n (cmd.QuotaSet owner quota over) new) s (kept_by c n (cmd.QuotaSet owner quota over) new refl pick)) e)
command_kept c d n (cmd.QuotaShow owner) new s pick e = absurd (let f : None ≡ Some d = e in cc)

shown_kept : (c d : Cat) (n : ℕ) (x : Option Cmd) (new : Option ℕ) (s : Stage) → IsPick c new → shown_stage c n x new s ≡ Some d → StageKept c n x d
shown_kept c d n None new s pick e = absurd (let f : None ≡ Some d = e in cc)
shown_kept c d n (Some x) new s pick e = by_refusal (is_refusal (outcome c n x new).reply) e where
  by_refusal : (t : Bool) → cond t None (command_stage c n x new (outcome c n x new) s) ≡ Some d → StageKept c n (Some x) d
  by_refusal true h = absurd (let f : None ≡ Some d = h in cc)
  by_refusal false h = command_kept c d n x new s pick h

same_cat : (c d : Cat) (n : ℕ) (x : Option Cmd) → Some c ≡ Some d → StageKept c n x d
same_cat c d n x e = let same : c ≡ d = (let f : Some c ≡ Some d = e in cc) in inl (subst (Kept c) same (same_kept c))

begun_kept : (c d : Cat) (n : ℕ) (x : Option Cmd) → begun c x ≡ Some d → StageKept c n x d
begun_kept c d n None e = absurd (let f : None ≡ Some d = e in cc)
begun_kept c d n (Some x) e = same_cat c d n (Some x) e

pub stage_kept : (c d : Cat) (n : ℕ) (x : Option Cmd) (s : Stage) (new : Option ℕ) → IsPick c new → staged c n x s new ≡ Some d → StageKept c n x d
unfolding staged
stage_kept c d n x stage.Idle new pick e = same_cat c d n x e
stage_kept c d n x stage.Nothing new pick e = begun_kept c d n x e
stage_kept c d n x s new pick e = shown_kept c d n x new s pick e
