-- What a stage of a command leaves of the accounts and of the numbers of the system files.
use Rattle.std.proofs.Common.{◌≡◌, ◌-◌, ◌+◌, ◌*◌, ◌≤◌, ◌<◌, ◌==◌, ◌&&◌, ◌∙◌, ℕ, zero, suc, Bool, true, false, cond, not, List, [], ◌∷◌, Option, Some, None, nat_le, nat_lt, slice_get, slice_set, refl, sym, ap, subst, arith}
use Rattle.std.specs.Prelude.{option_and_then, is_some, is_none}
use Rattle.std.proofs.lemmas.Bool.Decides.{nat_tests}
use Rattle.plain_cat.specs.declared.ids.Fid.{Fid}
use Rattle.plain_cat.specs.declared.ids.Uic.{Uic}
use Rattle.plain_cat.specs.declared.entries.DirEnt.{DirEnt}
use Rattle.plain_cat.specs.declared.command.Cmd.{Cmd}
use Rattle.plain_cat.specs.declared.command.Cmd.TheVariants as cmd
use Rattle.plain_cat.specs.declared.history.Stage.{Stage}
use Rattle.plain_cat.specs.declared.history.Stage.TheVariants as stage
use Rattle.plain_cat.specs.declared.cat.Cat.{Cat}
use Rattle.plain_cat.specs.declared.cat.File.{File}
use Rattle.plain_cat.specs.declared.cat.Open.{Open}
use Rattle.plain_cat.specs.declared.cat.QuotaRow.{QuotaRow}
use Rattle.plain_cat.specs.declared.cat.Slot.TheVariants.{Used, Free}
use Rattle.plain_rules.specs.declared.outcome.Outcome.{Outcome}
use Rattle.plain_rules.specs.Lookups.{last_seq, slot_at, is_free_slot, is_set, is_leaked, file_at, in_use, live, versions, entry_of, channel_at, is_open, row_of, is_free_number, header_most}
use Rattle.plain_rules.specs.Directories.{inserted, without, entry, new_version}
use Rattle.plain_rules.specs.Changes.{in_clusters, cost, with_file, charged, freed, new_fid, new_file, new_dir, cut, is_past_mark, text_block, with_block, with_channel}
use Rattle.plain_rules.specs.Accounts.{share, HasRow, Accounted}
use Rattle.plain_rules.specs.Answers.{unless, less_entry, create_checks, create_refusal, create_made, create_outcome, dir_name, mkdir_checks, mkdir_refusal, mkdir_made, mkdir_outcome, delete_outcome, outcome, IsPick}
use Rattle.plain_rules.specs.Stages.{is_refusal, only_if, making_stage, create_stage, mkdir_stage, extend_stage, trunc_stage, unnaming_stage, entry_stage, delete_stage, renaming_stage, rename_stage, closing_stage, close_stage, writing_stage, write_stage, quota_stage, command_stage, shown_stage, begun, staged}
use Rattle.plain_rules.specs.Replaying.{flagged, dead}
use Rattle.plain_rules.proofs.Picks.{pick_is_free}
use Rattle.plain_rules.proofs.Standing.{stands_at, stands_in_use, stands_live, stands_free}
use Rattle.plain_rules.proofs.Usages.{product_le}
use Rattle.plain_rules.proofs.Accounting.{charge_accounts}
use Rattle.plain_rules.proofs.Kept.{are_false, size_at, row_at, entries_keep, opens_keep, Stands, stands, stands_less}
use Rattle.plain_rules.proofs.Keeps.{accounts_kept}
use Rattle.plain_histories.specs.Opens.{OpensNameFiles}
use Rattle.plain_histories.specs.Usages.{AreNear, HasSmallFiles}
use Rattle.plain_histories.proofs.Stating.{stage_near, eight_near}
use Rattle.plain_histories.proofs.Lows.{Low, low_of, accounted_of, dead_low, slot_low, charged_low}
use Rattle.plain_histories.proofs.Numbers.{StayTaken, same_taken, then_taken, file_taken, freed_taken, open_above, outcome_taken}
use Rattle.plain_histories.proofs.Stages.{passed, in_passed, delete_kept, delete_passed}

-- the accounts of d are in order but for the upper bound of usages, and no number of a system file is free
pub record Fair (c d : Cat) : Type 0 where
  pub low : Accounted c → Low d
  pub taken : StayTaken c d

same_fair : (c : Cat) → Fair c c
same_fair c = record { low = λ a. low_of c a; taken = same_taken c }

-- after a step that leaves the accounts in order
then_fair : (b c d : Cat) → (Accounted b → Accounted c) → StayTaken b c → Fair c d → Fair b d
then_fair b c d keeps taken f = record { low = λ a. f.low (keeps a); taken = then_taken b c d taken f.taken }

-- the same of a catalogue, where there is one
abbrev FairIf : Cat → Option Cat → Type 0
FairIf c None = Unit {0}
FairIf c (Some d) = Fair c d

only_fair : (c : Cat) (t : Bool) (d : Cat) → (t ≡ true → Fair c d) → FairIf c (only_if t d)
only_fair c true d h = h refl
only_fair c false d h = tt

if_fair : {X : Type 0} (c : Cat) (o : Option X) (next : X → Option Cat) → ((x : X) → o ≡ Some x → FairIf c (next x)) → FairIf c (option_and_then next o)
if_fair c None next h = tt
if_fair c (Some x) next h = h x refl

-- ---- steps of the files

same_le : (a b : ℕ) → a ≡ b → a ≤ b
same_le a b e = omega (arith, e)

-- a file that stands so, or costs as much, keeps its owner and its clusters
file_fair : (c : Cat) (n : ℕ) (f g : File) → Stands c n f → (Accounted c → HasRow c.quota (Used f)) → (Accounted c → c.factor * f.clusters ≤ 65536) → g.owner ≡ f.owner → g.clusters ≡ f.clusters → Fair c (with_file c n g)
file_fair c n f g s row size o k = record {
  low = λ a. slot_low c n s.slot (Used g) (low_of c a) s.at
      (subst (λ (x : ℕ). c.factor * x ≤ 65536) (sym k) (size a))
      (subst (λ (x : Uic). HasRow c.quota (Used (record f { owner = x }))) (sym o) (row a))
      (λ p. same_le (share c p (Used g)) (share c p s.slot) ((ap (λ (x : Uic). cond (p.0 == x.0) (cost c g.clusters) 0) o ∙ ap (λ (x : ℕ). cond (p.0 == f.owner.0) (cost c x) 0) k) ∙ sym (s.shares p)));
  taken = file_taken c n g;
}

stands_fair : (c : Cat) (n : ℕ) (f g : File) → slice_get c.files (n - 1) ≡ Some (Used f) → g.owner ≡ f.owner → g.clusters ≡ f.clusters → Fair c (with_file c n g)
stands_fair c n f g at o k = file_fair c n f g (stands c n f at) (λ a. row_at c (n - 1) (Used f) a at) (λ a. size_at c (n - 1) (Used f) a at) o k

-- a file is gone, which is no system file
gone_fair : (c : Cat) (n : ℕ) (f : File) → Stands c n f → nat_le n 11 ≡ false → Fair c (freed c n f)
gone_fair c n f s above = record {
  low = λ a. slot_low c n s.slot (Free f.seq) (low_of c a) s.at (omega arith) tt (λ p. omega arith);
  taken = freed_taken c n f above;
}

less_in : (b : Bool) (f k m : ℕ) → k ≤ m → f * k ≤ f * m → cond b (f * k + 1) 0 ≤ cond b (f * m + 1) 0
less_in true f k m le more = omega arith
less_in false f k m le more = omega arith

-- a file is cut
cut_fair : (c : Cat) (n : ℕ) (f : File) (k : ℕ) → slice_get c.files (n - 1) ≡ Some (Used f) → k ≤ f.clusters → Fair c (with_file c n (cut c f k))
cut_fair c n f k at le = record {
  low = λ a. slot_low c n (Used f) (Used (cut c f k)) (low_of c a) at (let size = size_at c (n - 1) (Used f) a at in omega (arith, below, size)) (row_at c (n - 1) (Used f) a at)
      (λ p. less_in (p.0 == f.owner.0) c.factor k f.clusters le below);
  taken = file_taken c n (cut c f k);
} where
  parts : f.clusters ≡ k + (f.clusters - k)
  parts = omega arith

  below : c.factor * k ≤ c.factor * f.clusters
  below = let e : c.factor * f.clusters ≡ c.factor * k + c.factor * (f.clusters - k) = ap (λ (x : ℕ). c.factor * x) parts ∙ (omega arith) in omega (arith, e)

charged_fair : (c : Cat) (o : Uic) (k : ℕ) → Fair c (charged c o k)
charged_fair c o k = record { low = λ a. charged_low c o k (low_of c a); taken = λ i le e. e }

-- a new file under a free number, whose owner has a row and is charged
placed_fair : (c : Cat) (n : ℕ) (f : File) → is_free_number c n ≡ true → (Accounted c → c.factor * f.clusters ≤ 65536) → is_some (row_of f.owner c.quota) ≡ true → Fair c (with_file (charged c f.owner (cost c f.clusters)) n f)
placed_fair c n f free size row = record {
  low = λ a. low_of (with_file (charged c f.owner (cost c f.clusters)) n f)
      (charge_accounts c n (Free (last_seq (slot_at c n))) (Used f) f.owner (cost c f.clusters) a (stands_free c n free) (size a) row (λ p. omega arith));
  taken = file_taken (charged c f.owner (cost c f.clusters)) n f;
}

-- the owner of a new file has a row
there : (o : Option QuotaRow) → is_none o ≡ false → is_some o ≡ true
there None h = absurd (let f : true ≡ false = h in cc)
there (Some r) h = refl

abbrev HasRoom : Cat → ℕ → Uic → Type 0
HasRoom c blocks owner = (in_clusters c blocks ≤ header_most) × (is_some (row_of owner c.quota) ≡ true)

create_row : (c : Cat) (d : File) (name : List ℕ) (ver blocks : ℕ) (owner : Uic) (new : Option ℕ) → create_refusal c d name ver blocks owner new ≡ None → HasRoom c blocks owner
unfolding create_refusal
create_row c d name ver blocks owner new h =
    let f = are_false (create_checks c d name ver blocks owner new) h in
    let limit : nat_lt header_most (in_clusters c blocks) ≡ false = f.1.1.0 in
    (grind (arith, nat_tests), there (row_of owner c.quota) f.1.1.1.1.0)

create_passed : (c : Cat) (dir : Fid) (name : List ℕ) (ver blocks : ℕ) (owner : Uic) (new : Option ℕ) → is_refusal (create_outcome c dir name ver blocks owner new).reply ≡ false → HasRoom c blocks owner
unfolding create_outcome
create_passed c dir name ver blocks owner new h =
    in_passed (HasRoom c blocks owner) c (live c dir) (λ (d : File). unless c (create_refusal c d name ver blocks owner new) (create_made c dir.num d name ver blocks owner new))
    (λ d at k. create_row c d name ver blocks owner new (passed c (create_refusal c d name ver blocks owner new) (create_made c dir.num d name ver blocks owner new) k)) h

mkdir_row : (c : Cat) (d : File) (name : List ℕ) (owner : Uic) (new : Option ℕ) → mkdir_refusal c d name owner new ≡ None → is_some (row_of owner c.quota) ≡ true
unfolding mkdir_refusal
mkdir_row c d name owner new h = let f = are_false (mkdir_checks c d name owner new) h in there (row_of owner c.quota) f.1.1.0

mkdir_passed : (c : Cat) (dir : Fid) (name : List ℕ) (owner : Uic) (new : Option ℕ) → is_refusal (mkdir_outcome c dir name owner new).reply ≡ false → is_some (row_of owner c.quota) ≡ true
unfolding mkdir_outcome
mkdir_passed c dir name owner new h =
    in_passed (is_some (row_of owner c.quota) ≡ true) c (live c dir) (λ (d : File). unless c (mkdir_refusal c d (dir_name name) owner new) (mkdir_made c dir.num d (dir_name name) owner new))
    (λ d at k. mkdir_row c d (dir_name name) owner new (passed c (mkdir_refusal c d (dir_name name) owner new) (mkdir_made c dir.num d (dir_name name) owner new) k)) h

-- ---- commands

making_fair : (c : Cat) (n : ℕ) (f : File) (o : Outcome) (s : Stage) → Fair c o.after → is_free_number c n ≡ true → (Accounted c → c.factor * f.clusters ≤ 65536) → is_some (row_of f.owner c.quota) ≡ true
    → FairIf c (making_stage c n f o s)
making_fair c n f o stage.Charged k free size row = charged_fair c f.owner (cost c f.clusters)
making_fair c n f o stage.Lost k free size row = placed_fair c n f free size row
making_fair c n f o stage.Done k free size row = k
making_fair c n f o s k free size row = tt

create_fair : (c : Cat) (blocks : ℕ) (owner : Uic) (new : Option ℕ) (o : Outcome) (s : Stage) → Fair c o.after → IsPick c new → HasRoom c blocks owner → FairIf c (create_stage c blocks owner new o s)
unfolding create_stage
create_fair c blocks owner None o s k pick room = tt
create_fair c blocks owner (Some n) o s k pick room = making_fair c n (new_file (new_fid c n).seq owner (in_clusters c blocks)) o s k (pick_is_free c n pick)
    (λ a. let high = a.factor_to in let le = product_le c.factor (in_clusters c blocks) high (omega (arith, room.0)) in omega (arith, le)) room.1

mkdir_fair : (c : Cat) (owner : Uic) (new : Option ℕ) (o : Outcome) (s : Stage) → Fair c o.after → IsPick c new → is_some (row_of owner c.quota) ≡ true → FairIf c (mkdir_stage c owner new o s)
unfolding mkdir_stage
mkdir_fair c owner None o s k pick row = tt
mkdir_fair c owner (Some n) o s k pick row = making_fair c n (new_dir (new_fid c n).seq owner c.factor) o s k (pick_is_free c n pick) (λ a. let high = a.factor_to in omega (arith, high)) row

extend_fair : (c : Cat) (f : Option File) (blocks : ℕ) (o : Outcome) (s : Stage) → Fair c o.after → FairIf c (extend_stage c f blocks o s)
unfolding extend_stage
extend_fair c (Some f) blocks o stage.Charged k = charged_fair c f.owner (c.factor * in_clusters c blocks)
extend_fair c (Some f) blocks o stage.Done k = k
extend_fair c f blocks o s k = tt

trunc_fair : (c : Cat) (n : ℕ) (f : Option File) (blocks : ℕ) (o : Outcome) (s : Stage) → Fair c o.after → ((g : File) → f ≡ Some g → slice_get c.files (n - 1) ≡ Some (Used g)) → FairIf c (trunc_stage c n f blocks o s)
unfolding trunc_stage
trunc_fair c n (Some f) blocks o stage.Shortened k at =
    only_fair c (nat_lt (in_clusters c blocks) f.clusters) (with_file c n (cut c f (in_clusters c blocks)))
    (λ less. cut_fair c n f (in_clusters c blocks) (at f refl) (below (in_clusters c blocks) f.clusters less)) where
      below : (a b : ℕ) → nat_lt a b ≡ true → a ≤ b
      below a b h = grind (arith, nat_tests)
trunc_fair c n (Some f) blocks o stage.Done k at = only_fair c (nat_lt (in_clusters c blocks) f.clusters) o.after (λ less. k)
trunc_fair c n f blocks o s k at = tt

unnaming_fair : (c : Cat) (dir : ℕ) (d : File) (e : DirEnt) (f : File) (o : Outcome) (s : Stage) → Fair c o.after → nat_le e.fid.num 11 ≡ false → slice_get c.files (dir - 1) ≡ Some (Used d)
    → slice_get c.files (e.fid.num - 1) ≡ Some (Used f) → FairIf c (unnaming_stage c dir d e f o s)
unnaming_fair c dir d e f o stage.Marked k above at own =
    only_fair c (not f.marked) (with_file c e.fid.num (record f { marked = true })) (λ p. stands_fair c e.fid.num f (record f { marked = true }) own refl refl)
unnaming_fair c dir d e f o stage.Unlinked k above at own =
    let less : Cat = less_entry c dir d e in
    let es : List DirEnt = without e.name e.ver d.entries in
    record {
      low = λ a. (file_fair less e.fid.num f (record f { marked = true }) (stands_less c dir e.fid.num d f es at own) (λ b. row_at c (e.fid.num - 1) (Used f) a own) (λ b. size_at c (e.fid.num - 1) (Used f) a own) refl refl).low (entries_keep c dir d es a at);
      taken = then_taken c less (with_file less e.fid.num (record f { marked = true })) (file_taken c dir (record d { entries = es })) (file_taken less e.fid.num (record f { marked = true }));
    }
unnaming_fair c dir d e f o stage.Freed k above at own =
    let less : Cat = less_entry c dir d e in
    let es : List DirEnt = without e.name e.ver d.entries in
    only_fair c (not (is_open c e.fid.num)) (freed less e.fid.num f)
    (λ p. then_fair c less (freed less e.fid.num f) (λ a. entries_keep c dir d es a at) (file_taken c dir (record d { entries = es })) (gone_fair less e.fid.num f (stands_less c dir e.fid.num d f es at own) above))
unnaming_fair c dir d e f o stage.Done k above at own = only_fair c (not (is_open c e.fid.num)) o.after (λ p. k)
unnaming_fair c dir d e f o s k above at own = tt

entry_fair : (c : Cat) (dir : ℕ) (d : File) (e : DirEnt) (f : Option File) (o : Outcome) (s : Stage) → Fair c o.after → nat_le e.fid.num 11 ≡ false → slice_get c.files (dir - 1) ≡ Some (Used d)
    → ((g : File) → f ≡ Some g → slice_get c.files (e.fid.num - 1) ≡ Some (Used g)) → FairIf c (entry_stage c dir d e f o s)
entry_fair c dir d e (Some f) o s k above at own = unnaming_fair c dir d e f o s k above at (own f refl)
entry_fair c dir d e None o stage.Done k above at own = k
entry_fair c dir d e None o s k above at own = tt

delete_fair : (c : Cat) (dir : Fid) (name : List ℕ) (ver : ℕ) (o : Outcome) (s : Stage) → Fair c o.after → is_refusal (delete_outcome c dir name ver).reply ≡ false → FairIf c (delete_stage c dir name ver o s)
unfolding delete_stage
delete_fair c dir name ver o s k kept = if_fair c (live c dir) _ (λ d at. if_fair c (entry_of (versions name d.entries) ver) _ (λ e is.
    entry_fair c dir.num d e (in_use c e.fid) o s k (delete_passed c dir name ver d e at is kept) (stands_live c dir d at) (λ g own. stands_in_use c e.fid g own)))

renaming_fair : (c : Cat) (dir : ℕ) (d : File) (e : DirEnt) (to : List ℕ) (ver : ℕ) (o : Outcome) (s : Stage) → Fair c o.after → slice_get c.files (dir - 1) ≡ Some (Used d) → FairIf c (renaming_stage c dir d e to ver o s)
renaming_fair c dir d e to ver o stage.Both k at = stands_fair c dir d (record d { entries = inserted (entry to ver e.fid) d.entries }) at refl refl
renaming_fair c dir d e to ver o stage.Done k at = k
renaming_fair c dir d e to ver o s k at = tt

rename_fair : (c : Cat) (dir : Fid) (name : List ℕ) (ver : ℕ) (to : List ℕ) (to_ver : ℕ) (o : Outcome) (s : Stage) → Fair c o.after → FairIf c (rename_stage c dir name ver to to_ver o s)
unfolding rename_stage
rename_fair c dir name ver to to_ver o s k = if_fair c (live c dir) _ (λ d at. if_fair c (entry_of (versions name d.entries) ver) _ (λ e is.
    renaming_fair c dir.num d e to (new_version to_ver (versions to d.entries)) o s k (stands_live c dir d at)))

-- a channel is closed, and with it its file is gone
last_fair : (c : Cat) (node chan : ℕ) (p : Open) (f : File) → nat_le p.file 11 ≡ false → slice_get c.files (p.file - 1) ≡ Some (Used f) → Fair c (freed (with_channel c node chan None) p.file f)
last_fair c node chan p f above at =
    let after : Cat = with_channel c node chan None in
    then_fair c after (freed after p.file f) (λ a. opens_keep c after.opens a) (λ i le e. e) (gone_fair after p.file f (stands after p.file f at) above)

closing_fair : (c : Cat) (node chan : ℕ) (p : Open) (f : File) (o : Outcome) (s : Stage) → Fair c o.after → nat_le p.file 11 ≡ false → slice_get c.files (p.file - 1) ≡ Some (Used f)
    → FairIf c (closing_stage (with_channel c node chan None) p.file f o s)
closing_fair c node chan p f o stage.Freed k above at =
    only_fair c (f.marked && not (is_open (with_channel c node chan None) p.file)) (freed (with_channel c node chan None) p.file f) (λ q. last_fair c node chan p f above at)
closing_fair c node chan p f o stage.Done k above at = only_fair c (f.marked && not (is_open (with_channel c node chan None) p.file)) o.after (λ q. k)
closing_fair c node chan p f o s k above at = tt

close_fair : (c : Cat) (node chan : ℕ) (o : Outcome) (s : Stage) → OpensNameFiles c → Fair c o.after → FairIf c (close_stage c node chan o s)
unfolding close_stage
close_fair c node chan o s names k = if_fair c (channel_at c node chan) _ (λ p is. if_fair c (file_at c p.file) _ (λ f at. closing_fair c node chan p f o s k (open_above c node chan p names is) (stands_at c p.file f at)))

writing_fair : (c : Cat) (n : ℕ) (f : File) (vbn : ℕ) (text : List ℕ) (o : Outcome) (s : Stage) → Fair c o.after → slice_get c.files (n - 1) ≡ Some (Used f) → FairIf c (writing_stage c n f vbn text o s)
writing_fair c n f vbn text o stage.DataOnly k at =
    let g : File = record f { written = with_block f vbn (text_block text) } in
    only_fair c (not (is_past_mark f vbn) && nat_le f.end vbn) (with_file c n g) (λ p. stands_fair c n f g at refl refl)
writing_fair c n f vbn text o stage.Done k at = k
writing_fair c n f vbn text o s k at = tt

write_fair : (c : Cat) (node chan vbn : ℕ) (text : List ℕ) (o : Outcome) (s : Stage) → Fair c o.after → FairIf c (write_stage c node chan vbn text o s)
unfolding write_stage
write_fair c node chan vbn text o s k = if_fair c (channel_at c node chan) _ (λ p is. if_fair c (file_at c p.file) _ (λ f at. writing_fair c p.file f vbn text o s k (stands_at c p.file f at)))

quota_fair : (c : Cat) (o : Outcome) (s : Stage) → Fair c o.after → FairIf c (quota_stage o s)
quota_fair c o stage.Done k = k
quota_fair c o s k = tt

-- ---- all

outcome_fair : (c : Cat) (n : ℕ) (x : Cmd) (new : Option ℕ) → OpensNameFiles c → IsPick c new → Fair c (outcome c n x new).after
outcome_fair c n x new names pick = record { low = λ a. low_of (outcome c n x new).after (accounts_kept c n x new a pick); taken = outcome_taken c n x new names }

create_kept : (c : Cat) (n reg : ℕ) (dir : Fid) (name : List ℕ) (ver blocks : ℕ) (owner : Uic) (new : Option ℕ) → is_refusal (outcome c n (cmd.Create reg dir name ver blocks owner) new).reply ≡ false → HasRoom c blocks owner
unfolding outcome
create_kept c n reg dir name ver blocks owner new kept = create_passed c dir name ver blocks owner new kept

mkdir_kept : (c : Cat) (n reg : ℕ) (dir : Fid) (name : List ℕ) (owner : Uic) (new : Option ℕ) → is_refusal (outcome c n (cmd.MkDir reg dir name owner) new).reply ≡ false → is_some (row_of owner c.quota) ≡ true
unfolding outcome
mkdir_kept c n reg dir name owner new kept = mkdir_passed c dir name owner new kept

command_fair : (c : Cat) (n : ℕ) (x : Cmd) (new : Option ℕ) (s : Stage) → OpensNameFiles c → IsPick c new → is_refusal (outcome c n x new).reply ≡ false → Fair c (outcome c n x new).after
    → FairIf c (command_stage c n x new (outcome c n x new) s)
unfolding command_stage
command_fair c n (cmd.Lookup reg dir name ver) new s names pick kept all = tt
command_fair c n (cmd.List dir) new s names pick kept all = tt
command_fair c n (cmd.Stat file) new s names pick kept all = tt
command_fair c n (cmd.Create reg dir name ver blocks owner) new s names pick kept all =
    create_fair c blocks owner new (outcome c n (cmd.Create reg dir name ver blocks owner) new) s all pick (create_kept c n reg dir name ver blocks owner new kept)
command_fair c n (cmd.MkDir reg dir name owner) new s names pick kept all =
    mkdir_fair c owner new (outcome c n (cmd.MkDir reg dir name owner) new) s all pick (mkdir_kept c n reg dir name owner new kept)
command_fair c n (cmd.Extend file blocks) new s names pick kept all = extend_fair c (live c file) blocks (outcome c n (cmd.Extend file blocks) new) s all
command_fair c n (cmd.Trunc file blocks) new s names pick kept all = trunc_fair c file.num (live c file) blocks (outcome c n (cmd.Trunc file blocks) new) s all (λ g at. stands_live c file g at)
command_fair c n (cmd.Delete dir name ver) new s names pick kept all = delete_fair c dir name ver (outcome c n (cmd.Delete dir name ver) new) s all (delete_kept c n dir name ver new kept)
command_fair c n (cmd.Rename dir name ver to to_ver) new s names pick kept all = rename_fair c dir name ver to to_ver (outcome c n (cmd.Rename dir name ver to to_ver) new) s all
command_fair c n (cmd.OpenFile chan file mode) new s names pick kept all = tt
command_fair c n (cmd.CloseFile chan) new s names pick kept all = close_fair c n chan (outcome c n (cmd.CloseFile chan) new) s names all
command_fair c n (cmd.ReadBlock chan vbn) new s names pick kept all = tt
command_fair c n (cmd.WriteBlock chan vbn text) new s names pick kept all = write_fair c n chan vbn text (outcome c n (cmd.WriteBlock chan vbn text) new) s all
command_fair c n (cmd.QuotaSet owner quota over) new s names pick kept all = quota_fair c (outcome c n (cmd.QuotaSet owner quota over) new) s all
command_fair c n (cmd.QuotaShow owner) new s names pick kept all = tt

fair_unless : (c : Cat) (b : Bool) (o : Option Cat) → (b ≡ false → FairIf c o) → FairIf c (cond b None o)
fair_unless c true o h = tt
fair_unless c false o h = h refl

shown_fair : (c : Cat) (n : ℕ) (x : Option Cmd) (new : Option ℕ) (s : Stage) → OpensNameFiles c → IsPick c new → FairIf c (shown_stage c n x new s)
shown_fair c n None new s names pick = tt
shown_fair c n (Some x) new s names pick =
    fair_unless c (is_refusal (outcome c n x new).reply) (command_stage c n x new (outcome c n x new) s) (λ kept. command_fair c n x new s names pick kept (outcome_fair c n x new names pick))

begun_fair : (c : Cat) (x : Option Cmd) → FairIf c (begun c x)
begun_fair c None = tt
begun_fair c (Some x) = same_fair c

staged_fair : (c : Cat) (n : ℕ) (x : Option Cmd) (s : Stage) (new : Option ℕ) → OpensNameFiles c → IsPick c new → FairIf c (staged c n x s new)
unfolding staged
staged_fair c n x stage.Idle new names pick = same_fair c
staged_fair c n x stage.Nothing new names pick = begun_fair c x
staged_fair c n x s new names pick = shown_fair c n x new s names pick

stage_fair : (c d : Cat) (n : ℕ) (x : Option Cmd) (s : Stage) (new : Option ℕ) → OpensNameFiles c → IsPick c new → staged c n x s new ≡ Some d → Fair c d
stage_fair c d n x s new names pick is = subst (FairIf c) is (staged_fair c n x s new names pick)

-- ---- the laws

pub deaths_account : (c d : Cat) (n : ℕ) (x : Option Cmd) (s : Stage) (new : Option ℕ) (k clusters : ℕ) (numbers : List ℕ) → Accounted c → HasSmallFiles c → OpensNameFiles c → AreNear c k → k < 8 → IsPick c new
    → staged c n x s new ≡ Some d → Accounted (dead d n clusters numbers)
unfolding dead
deaths_account c d n x s new k clusters numbers a small names near few pick is =
    let up : k + 1 ≤ 8 = omega (arith, few) in
    accounted_of (dead d n clusters numbers) (dead_low d n clusters numbers ((stage_fair c d n x s new names pick is).low a)) (eight_near d (k + 1) up (stage_near c d n x s new k small names pick near is))

-- leaks take numbers, and free none
set_more : (flags : List Bool) (i j : ℕ) → is_set (slice_get flags j) ≡ true → is_set (slice_get (slice_set flags i true) j) ≡ true
set_more [] i j e = e
set_more (b ∷ flags) zero zero e = refl
set_more (b ∷ flags) zero (suc j) e = e
set_more (b ∷ flags) (suc i) zero e = e
set_more (b ∷ flags) (suc i) (suc j) e = set_more flags i j e

flagged_more : (flags : List Bool) (ns : List ℕ) (j : ℕ) → is_set (slice_get flags j) ≡ true → is_set (slice_get (flagged flags ns) j) ≡ true
flagged_more flags [] j e = e
flagged_more flags (n ∷ ns) j e = flagged_more (slice_set flags (n - 1) true) ns j (set_more flags (n - 1) j e)

leaked_taken : (free a b : Bool) → (a ≡ true → b ≡ true) → (free && not a) ≡ false → (free && not b) ≡ false
leaked_taken true true b more e = ap not (more refl)
leaked_taken true false b more e = absurd (let f : true ≡ false = e in cc)
leaked_taken false a b more e = refl

dead_taken : (c : Cat) (n clusters : ℕ) (numbers : List ℕ) → StayTaken c (dead c n clusters numbers)
unfolding dead
dead_taken c n clusters numbers i le e =
    leaked_taken (is_free_slot (slot_at c i)) (is_leaked c i) (is_set (slice_get (flagged c.leaked_numbers numbers) (i - 1))) (flagged_more c.leaked_numbers numbers (i - 1)) e

pub deaths_taken : (c d : Cat) (n : ℕ) (x : Option Cmd) (s : Stage) (new : Option ℕ) (i clusters : ℕ) (numbers : List ℕ) → OpensNameFiles c → IsPick c new → staged c n x s new ≡ Some d
    → i ≤ 11 → is_free_number c i ≡ false → is_free_number (dead d n clusters numbers) i ≡ false
deaths_taken c d n x s new i clusters numbers names pick is le e = dead_taken d n clusters numbers i le ((stage_fair c d n x s new names pick is).taken i le e)
