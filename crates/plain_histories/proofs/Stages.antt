-- What a stage leaves of usages and of small files.
use Rattle.std.proofs.Common.{◌≡◌, ◌-◌, ◌+◌, ◌*◌, ◌≤◌, ◌<◌, ◌&&◌, ◌||◌, ℕ, Bool, true, false, cond, not, min, List, Option, Some, None, nat_le, nat_lt, slice_get, refl, sym, ap, subst, ◌∙◌, arith}
use Rattle.std.specs.Prelude.{option_and_then}
use Rattle.std.proofs.lemmas.Bool.Decides.{nat_tests}
use Rattle.plain_cat.specs.declared.ids.Fid.{Fid}
use Rattle.plain_cat.specs.declared.ids.Uic.{Uic}
use Rattle.plain_cat.specs.declared.entries.DirEnt.{DirEnt}
use Rattle.plain_cat.specs.declared.command.Cmd.{Cmd}
use Rattle.plain_cat.specs.declared.command.Cmd.TheVariants as cmd
use Rattle.plain_cat.specs.declared.reply.Refusal.{Refusal}
use Rattle.plain_cat.specs.declared.reply.Refusal.TheVariants as refusal
use Rattle.plain_cat.specs.declared.history.Stage.{Stage}
use Rattle.plain_cat.specs.declared.history.Stage.TheVariants as stage
use Rattle.plain_cat.specs.declared.cat.Cat.{Cat}
use Rattle.plain_cat.specs.declared.cat.File.{File}
use Rattle.plain_cat.specs.declared.cat.Open.{Open}
use Rattle.plain_cat.specs.declared.cat.Slot.TheVariants.{Used, Free}
use Rattle.plain_rules.specs.declared.outcome.Outcome.{Outcome}
use Rattle.plain_rules.specs.Lookups.{file_at, in_use, live, versions, entry_of, channel_at, is_open, place, is_free_number, header_most, file_most}
use Rattle.plain_rules.specs.Directories.{inserted, without, entry, new_version}
use Rattle.plain_rules.specs.Changes.{in_clusters, cost, with_file, charged, freed, new_fid, new_file, new_dir, cut, is_past_mark, text_block, with_block, with_channel}
use Rattle.plain_rules.specs.Accounts.{death_cost}
use Rattle.plain_rules.specs.Answers.{refused, unless, in_directory_file, with_entry, has_entries, unnamed, less_entry, create_refusal, create_made, create_outcome, extend_refusal, extended, extend_of, extend_outcome, truncated, trunc_of, trunc_outcome, delete_outcome, outcome, IsPick}
use Rattle.plain_rules.specs.Stages.{is_refusal, only_if, making_stage, create_stage, mkdir_stage, extend_stage, trunc_stage, unnaming_stage, entry_stage, delete_stage, renaming_stage, rename_stage, closing_stage, close_stage, writing_stage, write_stage, quota_stage, command_stage, shown_stage, begun, staged}
use Rattle.plain_rules.proofs.Picks.{pick_is_free}
use Rattle.plain_rules.proofs.Standing.{stands_at, stands_in_use, stands_live}
use Rattle.plain_rules.proofs.Usages.{product_le}
use Rattle.plain_rules.proofs.Kept.{stands_less}
use Rattle.plain_histories.specs.Opens.{OpensNameFiles}
use Rattle.plain_histories.proofs.Having.{channel_in}
use Rattle.plain_histories.proofs.Rows.{Within, AreSmall, wider, left_within, charged_within, set_small, less_small}
use Rattle.plain_histories.proofs.Near.{Keeps, same_keeps, then_keeps, file_keeps, entries_keep, placed_keep, marked_keep, create_few, extend_few, shrinks, outcome_keeps}

-- usages are above by the cost of one file more at most, and files stay small
pub record Adds (c d : Cat) : Type 0 where
  pub near : OpensNameFiles c → c.factor ≤ 16 → AreSmall c.files → (m : ℕ) → Within c m → Within d (m + death_cost)
  pub small : AreSmall c.files → AreSmall d.files
  pub factor : d.factor ≡ c.factor

more : (m : ℕ) → m ≤ m + death_cost
more m = omega arith

within_one : (m k : ℕ) → k ≤ death_cost → m + k ≤ m + death_cost
within_one m k le = omega (arith, le)

adds_by : (c d : Cat) → Keeps c d → Adds c d
adds_by c d k = record {
  near = λ names factor small m h. wider d m (m + death_cost) (more m) (k.near m h);
  small = k.small;
  factor = k.factor;
}

-- the same of a catalogue, where there is one
abbrev AddsIf : Cat → Option Cat → Type 0
AddsIf c None = Unit {0}
AddsIf c (Some d) = Adds c d

only_adds : (c : Cat) (t : Bool) (d : Cat) → (t ≡ true → Adds c d) → AddsIf c (only_if t d)
only_adds c true d h = h refl
only_adds c false d h = tt

then_adds : {X : Type 0} (c : Cat) (o : Option X) (next : X → Option Cat) → ((x : X) → o ≡ Some x → AddsIf c (next x)) → AddsIf c (option_and_then next o)
then_adds c None next h = tt
then_adds c (Some x) next h = h x refl

-- ---- costs

to_death : (k : ℕ) → k ≤ 16 * file_most → k ≤ death_cost
to_death k le = omega (arith, le)

one_more : (k : ℕ) → k ≤ 16 * file_most → k + 1 ≤ death_cost
one_more k le = omega (arith, le)

cost_le : (c : Cat) (k : ℕ) → c.factor ≤ 16 → k ≤ file_most → cost c k ≤ death_cost
cost_le c k factor few = one_more (c.factor * k) (product_le c.factor k factor few)

blocks_le : (c : Cat) (k : ℕ) → c.factor ≤ 16 → k ≤ file_most → c.factor * k ≤ death_cost
blocks_le c k factor few = to_death (c.factor * k) (product_le c.factor k factor few)

index_above : (n : ℕ) → nat_le n 11 ≡ false → 11 ≤ n - 1
index_above n e = let lt : 11 < n = later n e in omega (arith, lt) where
  later : (k : ℕ) → nat_le k 11 ≡ false → 11 < k
  later k e = grind (arith, nat_tests)

-- ---- what is not refused

pub passed : (c : Cat) (r : Option Refusal) (o : Outcome) → is_refusal (unless c r o).reply ≡ false → r ≡ None
passed c None o h = refl
passed c (Some r) o h = absurd (let f : true ≡ false = h in cc)

pub in_passed : (P : Type 0) (c : Cat) (f : Option File) (next : File → Outcome) → ((d : File) → f ≡ Some d → is_refusal (next d).reply ≡ false → P) → is_refusal (in_directory_file c f next).reply ≡ false → P
in_passed P c None next k h = absurd (let f : true ≡ false = h in cc)
in_passed P c (Some d) next k h = by_dir d.dir h where
  by_dir : (b : Bool) → is_refusal (cond b (next d) (refused c refusal.NotDir)).reply ≡ false → P
  by_dir true e = k d refl e
  by_dir false e = absurd (let f : true ≡ false = e in cc)

pub entry_passed : (c : Cat) (o : Option DirEnt) (next : DirEnt → Outcome) (e : DirEnt) → o ≡ Some e → is_refusal (with_entry c o next).reply ≡ false → nat_le e.fid.num 11 ≡ false
entry_passed c None next e at h = absurd (let f : None ≡ Some e = at in cc)
entry_passed c (Some x) next e at h =
    let same : x ≡ e = (let f : Some x ≡ Some e = at in cc) in
    subst (λ (y : DirEnt). nat_le y.fid.num 11 ≡ false) same (by_system (nat_le x.fid.num 11) refl h) where
      by_system : (b : Bool) → nat_le x.fid.num 11 ≡ b → is_refusal (cond b (refused c refusal.NoPriv) (next x)).reply ≡ false → nat_le x.fid.num 11 ≡ false
      by_system true is k = absurd (let f : true ≡ false = k in cc)
      by_system false is k = is

create_passed : (c : Cat) (dir : Fid) (name : List ℕ) (ver blocks : ℕ) (owner : Uic) (new : Option ℕ) → is_refusal (create_outcome c dir name ver blocks owner new).reply ≡ false → in_clusters c blocks ≤ header_most
unfolding create_outcome
create_passed c dir name ver blocks owner new h =
    in_passed (in_clusters c blocks ≤ header_most) c (live c dir) (λ (d : File). unless c (create_refusal c d name ver blocks owner new) (create_made c dir.num d name ver blocks owner new))
    (λ d at k. create_few c d name ver blocks owner new (passed c (create_refusal c d name ver blocks owner new) (create_made c dir.num d name ver blocks owner new) k)) h

extend_passed : (c : Cat) (n : ℕ) (o : Option File) (blocks : ℕ) (new : Option ℕ) (f : File) → o ≡ Some f → is_refusal (extend_of c n o blocks new).reply ≡ false → f.clusters + in_clusters c blocks ≤ file_most
extend_passed c n None blocks new f at h = absurd (let x : None ≡ Some f = at in cc)
extend_passed c n (Some g) blocks new f at h =
    let same : g ≡ f = (let x : Some g ≡ Some f = at in cc) in
    subst (λ (x : File). x.clusters + in_clusters c blocks ≤ file_most) same
    (extend_few c n g blocks new (passed c (extend_refusal c n g blocks new) (extended c n g (in_clusters c blocks)) h))

trunc_passed : (c : Cat) (n : ℕ) (o : Option File) (blocks : ℕ) (f : File) → o ≡ Some f → is_refusal (trunc_of c n o blocks).reply ≡ false → nat_le n 11 ≡ false
trunc_passed c n None blocks f at h = absurd (let x : None ≡ Some f = at in cc)
trunc_passed c n (Some g) blocks f at h = by_system (nat_le n 11) g.dir refl h where
  by_system : (a b : Bool) → nat_le n 11 ≡ a → is_refusal (cond (a || b) (refused c refusal.NoPriv) (truncated c n g (min g.clusters (in_clusters c blocks)))).reply ≡ false → nat_le n 11 ≡ false
  by_system true b is k = absurd (let x : true ≡ false = k in cc)
  by_system false b is k = is

pub delete_passed : (c : Cat) (dir : Fid) (name : List ℕ) (ver : ℕ) (d : File) (e : DirEnt) → live c dir ≡ Some d → entry_of (versions name d.entries) ver ≡ Some e
    → is_refusal (delete_outcome c dir name ver).reply ≡ false → nat_le e.fid.num 11 ≡ false
unfolding delete_outcome
delete_passed c dir name ver d e at is h =
    in_passed (nat_le e.fid.num 11 ≡ false) c (live c dir) (λ (x : File). with_entry c (entry_of (versions name x.entries) ver) (next x)) (λ x there k.
    let two : Some x ≡ Some d = sym there ∙ at in
    let same : x ≡ d = cc two in
    entry_passed c (entry_of (versions name x.entries) ver) (next x) e (ap (λ (y : File). entry_of (versions name y.entries) ver) same ∙ is) k) h where
      next : File → DirEnt → Outcome
      next x y = cond (has_entries (in_use c y.fid)) (refused c refusal.DirNotEmpty) (unnamed (less_entry c dir.num x y) y.fid.num (in_use c y.fid))

-- ---- commands

making_adds : (c : Cat) (n : ℕ) (f : File) (o : Outcome) (s : Stage) → Keeps c o.after → is_free_number c n ≡ true → f.clusters ≤ file_most → AddsIf c (making_stage c n f o s)
making_adds c n f o stage.Charged k free few = record {
  near = λ names factor small m h. wider (charged c f.owner (cost c f.clusters)) (m + cost c f.clusters) (m + death_cost) (within_one m (cost c f.clusters) (cost_le c f.clusters factor few))
      (charged_within c f.owner (cost c f.clusters) m h);
  small = λ h. h;
  factor = refl;
}
making_adds c n f o stage.Lost k free few = adds_by c (with_file (charged c f.owner (cost c f.clusters)) n f) (placed_keep c n f free few)
making_adds c n f o stage.Done k free few = adds_by c o.after k
making_adds c n f o s k free few = tt

create_adds : (c : Cat) (blocks : ℕ) (owner : Uic) (new : Option ℕ) (o : Outcome) (s : Stage) → Keeps c o.after → IsPick c new → in_clusters c blocks ≤ header_most → AddsIf c (create_stage c blocks owner new o s)
unfolding create_stage
create_adds c blocks owner None o s k pick few = tt
create_adds c blocks owner (Some n) o s k pick few = making_adds c n (new_file (new_fid c n).seq owner (in_clusters c blocks)) o s k (pick_is_free c n pick) (omega (arith, few))

mkdir_adds : (c : Cat) (owner : Uic) (new : Option ℕ) (o : Outcome) (s : Stage) → Keeps c o.after → IsPick c new → AddsIf c (mkdir_stage c owner new o s)
unfolding mkdir_stage
mkdir_adds c owner None o s k pick = tt
mkdir_adds c owner (Some n) o s k pick = making_adds c n (new_dir (new_fid c n).seq owner c.factor) o s k (pick_is_free c n pick) (omega arith)

extend_adds : (c : Cat) (f : Option File) (blocks : ℕ) (o : Outcome) (s : Stage) → Keeps c o.after → ((g : File) → f ≡ Some g → g.clusters + in_clusters c blocks ≤ file_most) → AddsIf c (extend_stage c f blocks o s)
unfolding extend_stage
extend_adds c (Some f) blocks o stage.Charged k few = record {
  near = λ names factor small m h. wider (charged c f.owner (c.factor * in_clusters c blocks)) (m + c.factor * in_clusters c blocks) (m + death_cost)
      (within_one m (c.factor * in_clusters c blocks) (blocks_le c (in_clusters c blocks) factor (part f.clusters (in_clusters c blocks) (few f refl))))
      (charged_within c f.owner (c.factor * in_clusters c blocks) m h);
  small = λ h. h;
  factor = refl;
} where
  part : (a b : ℕ) → a + b ≤ file_most → b ≤ file_most
  part a b le = omega (arith, le)
extend_adds c (Some f) blocks o stage.Done k few = adds_by c o.after k
extend_adds c f blocks o s k few = tt

cut_adds : (c : Cat) (n : ℕ) (f : File) (k : ℕ) → slice_get c.files (n - 1) ≡ Some (Used f) → nat_le n 11 ≡ false → k ≤ f.clusters → Adds c (with_file c n (cut c f k))
cut_adds c n f k at above less = record {
  near = λ names factor small m h. wider (with_file c n (cut c f k)) (m + c.factor * (f.clusters - k)) (m + death_cost)
      (within_one m (c.factor * (f.clusters - k)) (blocks_le c (f.clusters - k) factor (part f.clusters (small (n - 1) (Used f) (index_above n above) at))))
      (left_within c n (Used f) (Used (cut c f k)) f.owner (c.factor * (f.clusters - k)) m at (shrinks c f k less) h);
  small = less_small c.files (n - 1) (Used f) (Used (cut c f k)) at less;
  factor = refl;
} where
  part : (a : ℕ) → a ≤ file_most → a - k ≤ file_most
  part a le = omega (arith, le)

trunc_adds : (c : Cat) (n : ℕ) (f : Option File) (blocks : ℕ) (o : Outcome) (s : Stage) → Keeps c o.after → ((g : File) → f ≡ Some g → slice_get c.files (n - 1) ≡ Some (Used g))
    → ((g : File) → f ≡ Some g → nat_le n 11 ≡ false) → AddsIf c (trunc_stage c n f blocks o s)
unfolding trunc_stage
trunc_adds c n (Some f) blocks o stage.Shortened k at above =
    only_adds c (nat_lt (in_clusters c blocks) f.clusters) (with_file c n (cut c f (in_clusters c blocks)))
    (λ less. cut_adds c n f (in_clusters c blocks) (at f refl) (above f refl) (below (in_clusters c blocks) f.clusters less)) where
      below : (a b : ℕ) → nat_lt a b ≡ true → a ≤ b
      below a b h = grind (arith, nat_tests)
trunc_adds c n (Some f) blocks o stage.Done k at above = only_adds c (nat_lt (in_clusters c blocks) f.clusters) o.after (λ less. adds_by c o.after k)
trunc_adds c n f blocks o s k at above = tt

-- a file is gone that has lost its entry
freed_adds : (c : Cat) (dir : ℕ) (d : File) (e : DirEnt) (n : ℕ) (f : File) → nat_le n 11 ≡ false → slice_get c.files (dir - 1) ≡ Some (Used d) → slice_get c.files (n - 1) ≡ Some (Used f)
    → Adds c (freed (less_entry c dir d e) n f)
freed_adds c dir d e n f above at own = record {
  near = λ names factor small m h. wider (freed less n f) (m + cost c f.clusters) (m + death_cost) (within_one m (cost c f.clusters) (cost_le c f.clusters factor (small (n - 1) (Used f) (index_above n above) own)))
      (gone m (first.near m h));
  small = λ h. set_small less.files (n - 1) (Free f.seq) (λ le. omega arith) (first.small h);
  factor = refl;
} where
  less : Cat
  less = less_entry c dir d e

  first : Keeps c less
  first = entries_keep c dir d (without e.name e.ver d.entries) at

  gone : (m : ℕ) → Within less m → Within (freed less n f) (m + cost c f.clusters)
  gone m h =
      let s = stands_less c dir n d f (without e.name e.ver d.entries) at own in
      left_within less n s.slot (Free f.seq) f.owner (cost c f.clusters) m s.at (λ p. let q = s.shares p in omega (arith, q)) h

unnaming_adds : (c : Cat) (dir : ℕ) (d : File) (e : DirEnt) (f : File) (o : Outcome) (s : Stage) → Keeps c o.after → nat_le e.fid.num 11 ≡ false → slice_get c.files (dir - 1) ≡ Some (Used d)
    → slice_get c.files (e.fid.num - 1) ≡ Some (Used f) → AddsIf c (unnaming_stage c dir d e f o s)
unnaming_adds c dir d e f o stage.Marked k above at own =
    only_adds c (not f.marked) (with_file c e.fid.num (record f { marked = true }))
    (λ p. adds_by c (with_file c e.fid.num (record f { marked = true })) (file_keeps c e.fid.num f (record f { marked = true }) own refl refl))
unnaming_adds c dir d e f o stage.Unlinked k above at own =
    let less : Cat = less_entry c dir d e in
    let last : Cat = with_file less e.fid.num (record f { marked = true }) in
    adds_by c last (then_keeps c less last (entries_keep c dir d (without e.name e.ver d.entries) at) (marked_keep c dir d e e.fid.num f at own))
unnaming_adds c dir d e f o stage.Freed k above at own =
    only_adds c (not (is_open c e.fid.num)) (freed (less_entry c dir d e) e.fid.num f) (λ p. freed_adds c dir d e e.fid.num f above at own)
unnaming_adds c dir d e f o stage.Done k above at own = only_adds c (not (is_open c e.fid.num)) o.after (λ p. adds_by c o.after k)
unnaming_adds c dir d e f o s k above at own = tt

entry_adds : (c : Cat) (dir : ℕ) (d : File) (e : DirEnt) (f : Option File) (o : Outcome) (s : Stage) → Keeps c o.after → nat_le e.fid.num 11 ≡ false → slice_get c.files (dir - 1) ≡ Some (Used d)
    → ((g : File) → f ≡ Some g → slice_get c.files (e.fid.num - 1) ≡ Some (Used g)) → AddsIf c (entry_stage c dir d e f o s)
entry_adds c dir d e (Some f) o s k above at own = unnaming_adds c dir d e f o s k above at (own f refl)
entry_adds c dir d e None o stage.Done k above at own = adds_by c o.after k
entry_adds c dir d e None o s k above at own = tt

delete_adds : (c : Cat) (dir : Fid) (name : List ℕ) (ver : ℕ) (o : Outcome) (s : Stage) → Keeps c o.after → is_refusal (delete_outcome c dir name ver).reply ≡ false → AddsIf c (delete_stage c dir name ver o s)
unfolding delete_stage
delete_adds c dir name ver o s k kept = then_adds c (live c dir) _ (λ d at. then_adds c (entry_of (versions name d.entries) ver) _ (λ e is.
    entry_adds c dir.num d e (in_use c e.fid) o s k (delete_passed c dir name ver d e at is kept) (stands_live c dir d at) (λ g own. stands_in_use c e.fid g own)))

renaming_adds : (c : Cat) (dir : ℕ) (d : File) (e : DirEnt) (to : List ℕ) (ver : ℕ) (o : Outcome) (s : Stage) → Keeps c o.after → slice_get c.files (dir - 1) ≡ Some (Used d) → AddsIf c (renaming_stage c dir d e to ver o s)
renaming_adds c dir d e to ver o stage.Both k at = adds_by c _ (entries_keep c dir d (inserted (entry to ver e.fid) d.entries) at)
renaming_adds c dir d e to ver o stage.Done k at = adds_by c o.after k
renaming_adds c dir d e to ver o s k at = tt

rename_adds : (c : Cat) (dir : Fid) (name : List ℕ) (ver : ℕ) (to : List ℕ) (to_ver : ℕ) (o : Outcome) (s : Stage) → Keeps c o.after → AddsIf c (rename_stage c dir name ver to to_ver o s)
unfolding rename_stage
rename_adds c dir name ver to to_ver o s k = then_adds c (live c dir) _ (λ d at. then_adds c (entry_of (versions name d.entries) ver) _ (λ e is.
    renaming_adds c dir.num d e to (new_version to_ver (versions to d.entries)) o s k (stands_live c dir d at)))

-- a channel is closed, and with it its file is gone
last_adds : (c : Cat) (node chan : ℕ) (p : Open) (f : File) → channel_at c node chan ≡ Some p → slice_get c.files (p.file - 1) ≡ Some (Used f) → Adds c (freed (with_channel c node chan None) p.file f)
last_adds c node chan p f is at = record {
  near = λ names factor small m h. wider (freed after p.file f) (m + cost c f.clusters) (m + death_cost)
      (within_one m (cost c f.clusters) (cost_le c f.clusters factor (small (p.file - 1) (Used f) (from p.file (names.files (place node chan) p (channel_in (slice_get c.opens (place node chan)) p is)).above) at)))
      (left_within after p.file (Used f) (Free f.seq) f.owner (cost c f.clusters) m at (λ q. omega arith) h);
  small = λ h. set_small c.files (p.file - 1) (Free f.seq) (λ le. omega arith) h;
  factor = refl;
} where
  after : Cat
  after = with_channel c node chan None

  from : (n : ℕ) → 11 < n → 11 ≤ n - 1
  from n lt = omega (arith, lt)

closing_adds : (c : Cat) (node chan : ℕ) (p : Open) (f : File) (o : Outcome) (s : Stage) → Keeps c o.after → channel_at c node chan ≡ Some p → slice_get c.files (p.file - 1) ≡ Some (Used f)
    → AddsIf c (closing_stage (with_channel c node chan None) p.file f o s)
closing_adds c node chan p f o stage.Freed k is at =
    only_adds c (f.marked && not (is_open (with_channel c node chan None) p.file)) (freed (with_channel c node chan None) p.file f) (λ q. last_adds c node chan p f is at)
closing_adds c node chan p f o stage.Done k is at = only_adds c (f.marked && not (is_open (with_channel c node chan None) p.file)) o.after (λ q. adds_by c o.after k)
closing_adds c node chan p f o s k is at = tt

close_adds : (c : Cat) (node chan : ℕ) (o : Outcome) (s : Stage) → Keeps c o.after → AddsIf c (close_stage c node chan o s)
unfolding close_stage
close_adds c node chan o s k = then_adds c (channel_at c node chan) _ (λ p is. then_adds c (file_at c p.file) _ (λ f at. closing_adds c node chan p f o s k is (stands_at c p.file f at)))

writing_adds : (c : Cat) (n : ℕ) (f : File) (vbn : ℕ) (text : List ℕ) (o : Outcome) (s : Stage) → Keeps c o.after → slice_get c.files (n - 1) ≡ Some (Used f) → AddsIf c (writing_stage c n f vbn text o s)
writing_adds c n f vbn text o stage.DataOnly k at =
    let g : File = record f { written = with_block f vbn (text_block text) } in
    only_adds c (not (is_past_mark f vbn) && nat_le f.end vbn) (with_file c n g) (λ p. adds_by c (with_file c n g) (file_keeps c n f g at refl refl))
writing_adds c n f vbn text o stage.Done k at = adds_by c o.after k
writing_adds c n f vbn text o s k at = tt

write_adds : (c : Cat) (node chan vbn : ℕ) (text : List ℕ) (o : Outcome) (s : Stage) → Keeps c o.after → AddsIf c (write_stage c node chan vbn text o s)
unfolding write_stage
write_adds c node chan vbn text o s k = then_adds c (channel_at c node chan) _ (λ p is. then_adds c (file_at c p.file) _ (λ f at. writing_adds c p.file f vbn text o s k (stands_at c p.file f at)))

quota_adds : (c : Cat) (o : Outcome) (s : Stage) → Keeps c o.after → AddsIf c (quota_stage o s)
quota_adds c o stage.Done k = adds_by c o.after k
quota_adds c o s k = tt

-- ---- all

extend_kept : (c : Cat) (n : ℕ) (file : Fid) (blocks : ℕ) (new : Option ℕ) → is_refusal (outcome c n (cmd.Extend file blocks) new).reply ≡ false → (g : File) → live c file ≡ Some g → g.clusters + in_clusters c blocks ≤ file_most
unfolding outcome extend_outcome
extend_kept c n file blocks new kept g at = extend_passed c file.num (live c file) blocks new g at kept

trunc_kept : (c : Cat) (n : ℕ) (file : Fid) (blocks : ℕ) (new : Option ℕ) → is_refusal (outcome c n (cmd.Trunc file blocks) new).reply ≡ false → (g : File) → live c file ≡ Some g → nat_le file.num 11 ≡ false
unfolding outcome trunc_outcome
trunc_kept c n file blocks new kept g at = trunc_passed c file.num (live c file) blocks g at kept

create_kept : (c : Cat) (n reg : ℕ) (dir : Fid) (name : List ℕ) (ver blocks : ℕ) (owner : Uic) (new : Option ℕ) → is_refusal (outcome c n (cmd.Create reg dir name ver blocks owner) new).reply ≡ false → in_clusters c blocks ≤ header_most
unfolding outcome
create_kept c n reg dir name ver blocks owner new kept = create_passed c dir name ver blocks owner new kept

pub delete_kept : (c : Cat) (n : ℕ) (dir : Fid) (name : List ℕ) (ver : ℕ) (new : Option ℕ) → is_refusal (outcome c n (cmd.Delete dir name ver) new).reply ≡ false → is_refusal (delete_outcome c dir name ver).reply ≡ false
unfolding outcome
delete_kept c n dir name ver new kept = kept

command_adds : (c : Cat) (n : ℕ) (x : Cmd) (new : Option ℕ) (s : Stage) → IsPick c new → is_refusal (outcome c n x new).reply ≡ false → AddsIf c (command_stage c n x new (outcome c n x new) s)
unfolding command_stage
command_adds c n (cmd.Lookup reg dir name ver) new s pick kept = tt
command_adds c n (cmd.List dir) new s pick kept = tt
command_adds c n (cmd.Stat file) new s pick kept = tt
command_adds c n (cmd.Create reg dir name ver blocks owner) new s pick kept =
    let x : Cmd = cmd.Create reg dir name ver blocks owner in
    create_adds c blocks owner new (outcome c n x new) s (outcome_keeps c n x new pick) pick (create_kept c n reg dir name ver blocks owner new kept)
command_adds c n (cmd.MkDir reg dir name owner) new s pick kept =
    let x : Cmd = cmd.MkDir reg dir name owner in mkdir_adds c owner new (outcome c n x new) s (outcome_keeps c n x new pick) pick
command_adds c n (cmd.Extend file blocks) new s pick kept =
    let x : Cmd = cmd.Extend file blocks in
    extend_adds c (live c file) blocks (outcome c n x new) s (outcome_keeps c n x new pick) (λ g at. extend_kept c n file blocks new kept g at)
command_adds c n (cmd.Trunc file blocks) new s pick kept =
    let x : Cmd = cmd.Trunc file blocks in
    trunc_adds c file.num (live c file) blocks (outcome c n x new) s (outcome_keeps c n x new pick) (λ g at. stands_live c file g at) (λ g at. trunc_kept c n file blocks new kept g at)
command_adds c n (cmd.Delete dir name ver) new s pick kept =
    let x : Cmd = cmd.Delete dir name ver in delete_adds c dir name ver (outcome c n x new) s (outcome_keeps c n x new pick) (delete_kept c n dir name ver new kept)
command_adds c n (cmd.Rename dir name ver to to_ver) new s pick kept =
    let x : Cmd = cmd.Rename dir name ver to to_ver in rename_adds c dir name ver to to_ver (outcome c n x new) s (outcome_keeps c n x new pick)
command_adds c n (cmd.OpenFile chan file mode) new s pick kept = tt
command_adds c n (cmd.CloseFile chan) new s pick kept =
    let x : Cmd = cmd.CloseFile chan in close_adds c n chan (outcome c n x new) s (outcome_keeps c n x new pick)
command_adds c n (cmd.ReadBlock chan vbn) new s pick kept = tt
command_adds c n (cmd.WriteBlock chan vbn text) new s pick kept =
    let x : Cmd = cmd.WriteBlock chan vbn text in write_adds c n chan vbn text (outcome c n x new) s (outcome_keeps c n x new pick)
command_adds c n (cmd.QuotaSet owner quota over) new s pick kept =
    let x : Cmd = cmd.QuotaSet owner quota over in quota_adds c (outcome c n x new) s (outcome_keeps c n x new pick)
command_adds c n (cmd.QuotaShow owner) new s pick kept = tt

adds_unless : (c : Cat) (b : Bool) (o : Option Cat) → (b ≡ false → AddsIf c o) → AddsIf c (cond b None o)
adds_unless c true o h = tt
adds_unless c false o h = h refl

shown_adds : (c : Cat) (n : ℕ) (x : Option Cmd) (new : Option ℕ) (s : Stage) → IsPick c new → AddsIf c (shown_stage c n x new s)
shown_adds c n None new s pick = tt
shown_adds c n (Some x) new s pick =
    adds_unless c (is_refusal (outcome c n x new).reply) (command_stage c n x new (outcome c n x new) s) (λ kept. command_adds c n x new s pick kept)

begun_adds : (c : Cat) (x : Option Cmd) → AddsIf c (begun c x)
begun_adds c None = tt
begun_adds c (Some x) = adds_by c c (same_keeps c)

staged_adds : (c : Cat) (n : ℕ) (x : Option Cmd) (s : Stage) (new : Option ℕ) → IsPick c new → AddsIf c (staged c n x s new)
unfolding staged
staged_adds c n x stage.Idle new pick = adds_by c c (same_keeps c)
staged_adds c n x stage.Nothing new pick = begun_adds c x
staged_adds c n x s new pick = shown_adds c n x new s pick

pub stage_adds : (c d : Cat) (n : ℕ) (x : Option Cmd) (s : Stage) (new : Option ℕ) → IsPick c new → staged c n x s new ≡ Some d → Adds c d
stage_adds c d n x s new pick is = subst (AddsIf c) is (staged_adds c n x s new pick)
