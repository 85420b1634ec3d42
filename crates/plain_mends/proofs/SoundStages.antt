-- The stages of a command keep a catalogue in order.
use Rattle.std.proofs.Common.{◌≡◌, ◌&&◌, ◌*◌, ◌<◌, ◌≤◌, ℕ, Bool, true, false, cond, not, List, [], Option, Some, None, nat_le, nat_lt, refl, sym, ap, subst, arith, ◌∙◌}
use Rattle.std.specs.Prelude.{is_some, option_and_then}
use Rattle.std.proofs.lemmas.Bool.{and_parts}
use Rattle.std.proofs.lemmas.Bool.Decides.{nat_tests}
use Rattle.plain_cat.specs.declared.ids.Fid.{Fid}
use Rattle.plain_cat.specs.declared.ids.Uic.{Uic}
use Rattle.plain_cat.specs.declared.entries.DirEnt.{DirEnt}
use Rattle.plain_cat.specs.declared.command.Cmd.{Cmd}
use Rattle.plain_cat.specs.declared.command.Cmd.TheVariants as cmd
use Rattle.plain_cat.specs.declared.reply.Refusal.{Refusal}
use Rattle.plain_cat.specs.declared.reply.Refusal.TheVariants as refusal
use Rattle.plain_cat.specs.declared.history.Stage.{Stage}
use Rattle.plain_cat.specs.declared.history.Stage.TheVariants as stage
use Rattle.plain_cat.specs.declared.cat.Cat.{Cat}
use Rattle.plain_cat.specs.declared.cat.File.{File}
use Rattle.plain_rules.specs.declared.outcome.Outcome.{Outcome}
use Rattle.plain_rules.specs.Lookups.{file_at, in_use, live, versions, entry_of, channel_at, is_open, row_of, is_free_number, header_most, file_most}
use Rattle.plain_rules.specs.Directories.{inserted, entry, new_version}
use Rattle.plain_rules.specs.Changes.{in_clusters, cost, with_file, freed, with_entries, new_fid, new_file, new_dir, cut, is_past_mark, text_block, with_block, with_channel}
use Rattle.plain_rules.specs.Answers.{refused, unless, in_directory_file, create_refusal, create_made, create_outcome, dir_name, mkdir_refusal, mkdir_made, mkdir_outcome, with_entry, has_entries, unnamed, less_entry, delete_outcome, rename_refusal, renamed, rename_outcome, outcome, IsPick}
use Rattle.plain_rules.specs.Stages.{is_refusal, only_if, making_stage, create_stage, mkdir_stage, extend_stage, trunc_stage, unnaming_stage, entry_stage, delete_stage, renaming_stage, rename_stage, closing_stage, close_stage, writing_stage, write_stage, quota_stage, command_stage, shown_stage, begun, staged}
use Rattle.plain_mends.specs.Sound.{IsSound}
use Rattle.plain_rules.proofs.Picks.{pick_is_free}
use Rattle.plain_mends.proofs.SoundSteps.{edit_sound}
use Rattle.plain_mends.proofs.SoundAnswers.{used_part, live_parts, entry_has, charged_sound, channel_sound, placed_sound, removed_sound, create_may, mkdir_may, cut_sound, Loses, less_sound, unlinked_sound, mark_edit, more_edit, fresh_name, renamed_edge, rename_may, marked_high, data_sound, outcome_sound}
use Rattle.base_words.proofs.Booleans.{above_from}

-- a catalogue, where there is one, is in order
abbrev pub SoundIf : Option Cat → Type 0
SoundIf None = Unit {0}
SoundIf (Some c) = IsSound c

only_sound : (b : Bool) (c : Cat) → (b ≡ true → IsSound c) → SoundIf (only_if b c)
only_sound true c h = h refl
only_sound false c h = tt

then_sound : {X : Type 0} (o : Option X) (next : X → Option Cat) → ((x : X) → o ≡ Some x → SoundIf (next x)) → SoundIf (option_and_then next o)
then_sound None next h = tt
then_sound (Some x) next h = h x refl

-- ---- what is not refused

passed : (c : Cat) (r : Option Refusal) (o : Outcome) → is_refusal (unless c r o).reply ≡ false → r ≡ None
passed c None o h = refl
passed c (Some r) o h = absurd (let f : true ≡ false = h in cc f)

in_passed : (P : Type 0) (c : Cat) (f : Option File) (next : File → Outcome) → ((d : File) → f ≡ Some d → d.dir ≡ true → is_refusal (next d).reply ≡ false → P) → is_refusal (in_directory_file c f next).reply ≡ false → P
in_passed P c None next k h = absurd (let f : true ≡ false = h in cc f)
in_passed P c (Some d) next k h = by_dir d.dir refl h where
  by_dir : (b : Bool) → d.dir ≡ b → is_refusal (cond b (next d) (refused c refusal.NotDir)).reply ≡ false → P
  by_dir true is e = k d refl is e
  by_dir false is e = absurd (let f : true ≡ false = e in cc f)

entry_passed : (c : Cat) (o : Option DirEnt) (next : DirEnt → Outcome) (e : DirEnt) → o ≡ Some e → is_refusal (with_entry c o next).reply ≡ false
    → (11 < e.fid.num) × (is_refusal (next e).reply ≡ false)
entry_passed c None next e at h = absurd (let f : true ≡ false = h in cc f)
entry_passed c (Some x) next e at h =
    let same : x ≡ e = (let f : Some x ≡ Some e = at in cc f) in
    subst (λ (y : DirEnt). (11 < y.fid.num) × (is_refusal (next y).reply ≡ false)) same (by_system (nat_le x.fid.num 11) refl h) where
      by_system : (b : Bool) → nat_le x.fid.num 11 ≡ b → is_refusal (cond b (refused c refusal.NoPriv) (next x)).reply ≡ false → (11 < x.fid.num) × (is_refusal (next x).reply ≡ false)
      by_system true is k = absurd (let f : true ≡ false = k in cc f)
      by_system false is k = (above_from x.fid.num is, k)

create_passed : (c : Cat) (dir : Fid) (name : List ℕ) (ver blocks : ℕ) (owner : Uic) (new : Option ℕ) → is_refusal (create_outcome c dir name ver blocks owner new).reply ≡ false
    → (is_some (row_of owner c.quota) ≡ true) × (in_clusters c blocks ≤ header_most)
unfolding create_outcome
create_passed c dir name ver blocks owner new h =
    in_passed ((is_some (row_of owner c.quota) ≡ true) × (in_clusters c blocks ≤ header_most)) c (live c dir) (λ (d : File). unless c (create_refusal c d name ver blocks owner new) (create_made c dir.num d name ver blocks owner new))
    (λ d at is k. let m = create_may c d name ver blocks owner new (passed c (create_refusal c d name ver blocks owner new) (create_made c dir.num d name ver blocks owner new) k) in (m.0.row, m.1)) h

mkdir_passed : (c : Cat) (dir : Fid) (name : List ℕ) (owner : Uic) (new : Option ℕ) → is_refusal (mkdir_outcome c dir name owner new).reply ≡ false → is_some (row_of owner c.quota) ≡ true
unfolding mkdir_outcome
mkdir_passed c dir name owner new h =
    in_passed (is_some (row_of owner c.quota) ≡ true) c (live c dir) (λ (d : File). unless c (mkdir_refusal c d (dir_name name) owner new) (mkdir_made c dir.num d (dir_name name) owner new))
    (λ d at is k. (mkdir_may c d (dir_name name) owner new (passed c (mkdir_refusal c d (dir_name name) owner new) (mkdir_made c dir.num d (dir_name name) owner new) k)).row) h

record MayDelete (c : Cat) (d : File) (e : DirEnt) : Type 0 where
  dir_is : d.dir ≡ true
  high : 11 < e.fid.num
  bare : has_entries (in_use c e.fid) ≡ false

delete_passed : (c : Cat) (dir : Fid) (name : List ℕ) (ver : ℕ) (d : File) (e : DirEnt) → live c dir ≡ Some d → entry_of (versions name d.entries) ver ≡ Some e
    → is_refusal (delete_outcome c dir name ver).reply ≡ false → MayDelete c d e
unfolding delete_outcome
delete_passed c dir name ver d e at found h =
    in_passed (MayDelete c d e) c (live c dir) (λ (x : File). with_entry c (entry_of (versions name x.entries) ver) (next x)) (λ x there is k.
    let two : Some x ≡ Some d = sym there ∙ at in
    let same : x ≡ d = cc two in
    let r = entry_passed c (entry_of (versions name x.entries) ver) (next x) e (ap (λ (y : File). entry_of (versions name y.entries) ver) same ∙ found) k in
    record { dir_is = ap (λ (y : File). y.dir) (sym same) ∙ is; high = r.0; bare = by_entries x (has_entries (in_use c e.fid)) refl r.1 }) h where
      next : File → DirEnt → Outcome
      next x y = cond (has_entries (in_use c y.fid)) (refused c refusal.DirNotEmpty) (unnamed (less_entry c dir.num x y) y.fid.num (in_use c y.fid))

      by_entries : (x : File) (b : Bool) → has_entries (in_use c e.fid) ≡ b → is_refusal (cond b (refused c refusal.DirNotEmpty) (unnamed (less_entry c dir.num x e) e.fid.num (in_use c e.fid))).reply ≡ false → b ≡ false
      by_entries x true is k = absurd (let f : true ≡ false = k in cc f)
      by_entries x false is k = refl

record MayRename (d : File) (e : DirEnt) (c : Cat) (to : List ℕ) (to_ver : ℕ) : Type 0 where
  high : 11 < e.fid.num
  open_name : rename_refusal c d to to_ver ≡ None

rename_passed : (c : Cat) (dir : Fid) (name : List ℕ) (ver : ℕ) (to : List ℕ) (to_ver : ℕ) (d : File) (e : DirEnt) → live c dir ≡ Some d → entry_of (versions name d.entries) ver ≡ Some e
    → is_refusal (rename_outcome c dir name ver to to_ver).reply ≡ false → MayRename d e c to to_ver
unfolding rename_outcome
rename_passed c dir name ver to to_ver d e at found h =
    in_passed (MayRename d e c to to_ver) c (live c dir) (λ (x : File). with_entry c (entry_of (versions name x.entries) ver) (next x)) (λ x there is k.
    let two : Some x ≡ Some d = sym there ∙ at in
    let same : x ≡ d = cc two in
    let r = entry_passed c (entry_of (versions name x.entries) ver) (next x) e (ap (λ (y : File). entry_of (versions name y.entries) ver) same ∙ found) k in
    record { high = r.0; open_name = subst (λ (y : File). rename_refusal c y to to_ver ≡ None) same (passed c (rename_refusal c x to to_ver) (renamed c dir.num x e to (new_version to_ver (versions to x.entries))) r.1) }) h where
      next : File → DirEnt → Outcome
      next x y = unless c (rename_refusal c x to to_ver) (renamed c dir.num x y to (new_version to_ver (versions to x.entries)))

-- ---- commands

making_sound : (c : Cat) (n : ℕ) (f : File) (o : Outcome) (s : Stage) → IsSound c → IsSound o.after → is_free_number c n ≡ true → f.clusters ≤ file_most → f.entries ≡ [] → is_some (row_of f.owner c.quota) ≡ true
    → SoundIf (making_stage c n f o s)
making_sound c n f o stage.Charged h k free few bare row = charged_sound c f.owner (cost c f.clusters) h
making_sound c n f o stage.Lost h k free few bare row = placed_sound c n f free few bare row h
making_sound c n f o stage.Done h k free few bare row = k
making_sound c n f o s h k free few bare row = tt

create_sound : (c : Cat) (blocks : ℕ) (owner : Uic) (new : Option ℕ) (o : Outcome) (s : Stage) → IsSound c → IsSound o.after → IsPick c new → (is_some (row_of owner c.quota) ≡ true) × (in_clusters c blocks ≤ header_most)
    → SoundIf (create_stage c blocks owner new o s)
unfolding create_stage
create_sound c blocks owner None o s h k pick may = tt
create_sound c blocks owner (Some n) o s h k pick may = making_sound c n (new_file (new_fid c n).seq owner (in_clusters c blocks)) o s h k (pick_is_free c n pick) (omega (arith, may.1)) refl may.0

mkdir_sound : (c : Cat) (owner : Uic) (new : Option ℕ) (o : Outcome) (s : Stage) → IsSound c → IsSound o.after → IsPick c new → is_some (row_of owner c.quota) ≡ true → SoundIf (mkdir_stage c owner new o s)
unfolding mkdir_stage
mkdir_sound c owner None o s h k pick row = tt
mkdir_sound c owner (Some n) o s h k pick row = making_sound c n (new_dir (new_fid c n).seq owner c.factor) o s h k (pick_is_free c n pick) (omega arith) refl row

extend_sound : (c : Cat) (f : Option File) (blocks : ℕ) (o : Outcome) (s : Stage) → IsSound c → IsSound o.after → SoundIf (extend_stage c f blocks o s)
unfolding extend_stage
extend_sound c (Some f) blocks o stage.Charged h k = charged_sound c f.owner (c.factor * in_clusters c blocks) h
extend_sound c (Some f) blocks o stage.Done h k = k
extend_sound c f blocks o s h k = tt

trunc_sound : (c : Cat) (n : ℕ) (f : Option File) (blocks : ℕ) (o : Outcome) (s : Stage) → IsSound c → IsSound o.after → ((g : File) → f ≡ Some g → file_at c n ≡ Some g) → SoundIf (trunc_stage c n f blocks o s)
unfolding trunc_stage
trunc_sound c n (Some f) blocks o stage.Shortened h k at =
    only_sound (nat_lt (in_clusters c blocks) f.clusters) (with_file c n (cut c f (in_clusters c blocks)))
    (λ less. cut_sound c n f (in_clusters c blocks) (at f refl) (below (in_clusters c blocks) f.clusters less) h) where
      below : (a b : ℕ) → nat_lt a b ≡ true → a ≤ b
      below a b e = grind (arith, nat_tests)
trunc_sound c n (Some f) blocks o stage.Done h k at = only_sound (nat_lt (in_clusters c blocks) f.clusters) o.after (λ less. k)
trunc_sound c n f blocks o s h k at = tt

unnaming_sound : (c : Cat) (dir : ℕ) (d : File) (e : DirEnt) (f : File) (o : Outcome) (s : Stage) → IsSound c → IsSound o.after → Loses c dir d e → file_at c e.fid.num ≡ Some f → has_entries (Some f) ≡ false
    → SoundIf (unnaming_stage c dir d e f o s)
unnaming_sound c dir d e f o stage.Marked h k l own bare =
    only_sound (not f.marked) (with_file c e.fid.num (record f { marked = true })) (λ p. edit_sound c e.fid.num f (record f { marked = true }) own (mark_edit c e.fid.num f own l.high bare) h)
unnaming_sound c dir d e f o stage.Unlinked h k l own bare = unlinked_sound c dir d e f l own bare h
unnaming_sound c dir d e f o stage.Freed h k l own bare =
    only_sound (not (is_open c e.fid.num)) (freed (less_entry c dir d e) e.fid.num f) (λ p. removed_sound (less_entry c dir d e) e.fid.num f l.high (less_sound c dir d e l h))
unnaming_sound c dir d e f o stage.Done h k l own bare = only_sound (not (is_open c e.fid.num)) o.after (λ p. k)
unnaming_sound c dir d e f o s h k l own bare = tt

entry_sound : (c : Cat) (dir : ℕ) (d : File) (e : DirEnt) (f : Option File) (o : Outcome) (s : Stage) → IsSound c → IsSound o.after → Loses c dir d e → ((g : File) → f ≡ Some g → file_at c e.fid.num ≡ Some g)
    → has_entries f ≡ false → SoundIf (entry_stage c dir d e f o s)
entry_sound c dir d e (Some f) o s h k l own bare = unnaming_sound c dir d e f o s h k l (own f refl) bare
entry_sound c dir d e None o stage.Done h k l own bare = k
entry_sound c dir d e None o s h k l own bare = tt

delete_sound : (c : Cat) (dir : Fid) (name : List ℕ) (ver : ℕ) (o : Outcome) (s : Stage) → IsSound c → IsSound o.after → is_refusal (delete_outcome c dir name ver).reply ≡ false → SoundIf (delete_stage c dir name ver o s)
unfolding delete_stage
delete_sound c dir name ver o s h k kept = then_sound (live c dir) _ (λ d at. then_sound (entry_of (versions name d.entries) ver) _ (λ e found.
    let p = live_parts c dir d at in
    let m = delete_passed c dir name ver d e at found kept in
    entry_sound c dir.num d e (in_use c e.fid) o s h k (record { at = p.0; free = p.1; dir_is = m.dir_is; has = entry_has name d.entries ver e found; high = m.high }) (λ g own. used_part c e.fid g own) m.bare))

renaming_sound : (c : Cat) (dir : ℕ) (d : File) (e : DirEnt) (to : List ℕ) (ver : ℕ) (o : Outcome) (s : Stage) → IsSound o.after → IsSound (with_entries c dir d (inserted (entry to ver e.fid) d.entries))
    → SoundIf (renaming_stage c dir d e to ver o s)
renaming_sound c dir d e to ver o stage.Both k both = both
renaming_sound c dir d e to ver o stage.Done k both = k
renaming_sound c dir d e to ver o s k both = tt

rename_sound : (c : Cat) (dir : Fid) (name : List ℕ) (ver : ℕ) (to : List ℕ) (to_ver : ℕ) (o : Outcome) (s : Stage) → IsSound c → IsSound o.after → is_refusal (rename_outcome c dir name ver to to_ver).reply ≡ false
    → SoundIf (rename_stage c dir name ver to to_ver o s)
unfolding rename_stage
rename_sound c dir name ver to to_ver o s h k kept = then_sound (live c dir) _ (λ d at. then_sound (entry_of (versions name d.entries) ver) _ (λ e found.
    let p = live_parts c dir d at in
    let m = rename_passed c dir name ver to to_ver d e at found kept in
    let has = entry_has name d.entries ver e found in
    let new : DirEnt = entry to (new_version to_ver (versions to d.entries)) e.fid in
    renaming_sound c dir.num d e to (new_version to_ver (versions to d.entries)) o s k
    (edit_sound c dir.num d (record d { entries = inserted new d.entries }) p.0 (λ g.
    more_edit c dir.num d new d.entries p.0 p.1 (λ x i. i) (λ here j from to any. any) (fresh_name c dir.num d new g p.0 (rename_may c d to to_ver m.open_name))
    (renamed_edge c dir.num d e to (new_version to_ver (versions to d.entries)) has m.high) g) h)))

closing_sound : (c : Cat) (n : ℕ) (f : File) (o : Outcome) (s : Stage) → IsSound c → IsSound o.after → file_at c n ≡ Some f → SoundIf (closing_stage c n f o s)
closing_sound c n f o stage.Freed h k at =
    only_sound (f.marked && not (is_open c n)) (freed c n f) (λ p. removed_sound c n f (marked_high c n f h at (and_parts f.marked (not (is_open c n)) p).0) h)
closing_sound c n f o stage.Done h k at = only_sound (f.marked && not (is_open c n)) o.after (λ p. k)
closing_sound c n f o s h k at = tt

close_sound : (c : Cat) (node chan : ℕ) (o : Outcome) (s : Stage) → IsSound c → IsSound o.after → SoundIf (close_stage c node chan o s)
unfolding close_stage
close_sound c node chan o s h k = then_sound (channel_at c node chan) _ (λ p is. then_sound (file_at c p.file) _ (λ f at.
    closing_sound (with_channel c node chan None) p.file f o s (channel_sound c node chan None h) k at))

writing_sound : (c : Cat) (n : ℕ) (f : File) (vbn : ℕ) (text : List ℕ) (o : Outcome) (s : Stage) → IsSound c → IsSound o.after → file_at c n ≡ Some f → SoundIf (writing_stage c n f vbn text o s)
writing_sound c n f vbn text o stage.DataOnly h k at =
    let g : File = record f { written = with_block f vbn (text_block text) } in
    only_sound (not (is_past_mark f vbn) && nat_le f.end vbn) (with_file c n g) (λ p. data_sound c n f g at refl h)
writing_sound c n f vbn text o stage.Done h k at = k
writing_sound c n f vbn text o s h k at = tt

write_sound : (c : Cat) (node chan vbn : ℕ) (text : List ℕ) (o : Outcome) (s : Stage) → IsSound c → IsSound o.after → SoundIf (write_stage c node chan vbn text o s)
unfolding write_stage
write_sound c node chan vbn text o s h k = then_sound (channel_at c node chan) _ (λ p is. then_sound (file_at c p.file) _ (λ f at. writing_sound c p.file f vbn text o s h k at))

quota_sound : (o : Outcome) (s : Stage) → IsSound o.after → SoundIf (quota_stage o s)
quota_sound o stage.Done k = k
quota_sound o s k = tt

-- ---- all

command_sound : (c : Cat) (n : ℕ) (x : Cmd) (new : Option ℕ) (s : Stage) → IsSound c → IsPick c new → is_refusal (outcome c n x new).reply ≡ false → IsSound (outcome c n x new).after
    → SoundIf (command_stage c n x new (outcome c n x new) s)
unfolding command_stage outcome
command_sound c n (cmd.Lookup reg dir name ver) new s h pick kept k = tt
command_sound c n (cmd.List dir) new s h pick kept k = tt
command_sound c n (cmd.Stat file) new s h pick kept k = tt
command_sound c n (cmd.Create reg dir name ver blocks owner) new s h pick kept k = create_sound c blocks owner new _ s h k pick (create_passed c dir name ver blocks owner new kept)
command_sound c n (cmd.MkDir reg dir name owner) new s h pick kept k = mkdir_sound c owner new _ s h k pick (mkdir_passed c dir name owner new kept)
command_sound c n (cmd.Extend file blocks) new s h pick kept k = extend_sound c (live c file) blocks _ s h k
command_sound c n (cmd.Trunc file blocks) new s h pick kept k = trunc_sound c file.num (live c file) blocks _ s h k (λ g at. (live_parts c file g at).0)
command_sound c n (cmd.Delete dir name ver) new s h pick kept k = delete_sound c dir name ver _ s h k kept
command_sound c n (cmd.Rename dir name ver to to_ver) new s h pick kept k = rename_sound c dir name ver to to_ver _ s h k kept
command_sound c n (cmd.OpenFile chan file mode) new s h pick kept k = tt
command_sound c n (cmd.CloseFile chan) new s h pick kept k = close_sound c n chan _ s h k
command_sound c n (cmd.ReadBlock chan vbn) new s h pick kept k = tt
command_sound c n (cmd.WriteBlock chan vbn text) new s h pick kept k = write_sound c n chan vbn text _ s h k
command_sound c n (cmd.QuotaSet owner quota over) new s h pick kept k = quota_sound (outcome c n (cmd.QuotaSet owner quota over) new) s k
command_sound c n (cmd.QuotaShow owner) new s h pick kept k = tt

sound_unless : (b : Bool) (o : Option Cat) → (b ≡ false → SoundIf o) → SoundIf (cond b None o)
sound_unless true o h = tt
sound_unless false o h = h refl

shown_sound : (c : Cat) (n : ℕ) (x : Option Cmd) (new : Option ℕ) (s : Stage) → IsSound c → IsPick c new → SoundIf (shown_stage c n x new s)
shown_sound c n None new s h pick = tt
shown_sound c n (Some x) new s h pick =
    sound_unless (is_refusal (outcome c n x new).reply) (command_stage c n x new (outcome c n x new) s) (λ kept. command_sound c n x new s h pick kept (outcome_sound c n x new pick h))

begun_sound : (c : Cat) (x : Option Cmd) → IsSound c → SoundIf (begun c x)
begun_sound c None h = tt
begun_sound c (Some x) h = h

staged_sound : (c : Cat) (n : ℕ) (x : Option Cmd) (s : Stage) (new : Option ℕ) → IsSound c → IsPick c new → SoundIf (staged c n x s new)
unfolding staged
staged_sound c n x stage.Idle new h pick = h
staged_sound c n x stage.Nothing new h pick = begun_sound c x h
staged_sound c n x s new h pick = shown_sound c n x new s h pick

pub stage_sound : (c d : Cat) (n : ℕ) (x : Option Cmd) (s : Stage) (new : Option ℕ) → IsSound c → IsPick c new → staged c n x s new ≡ Some d → IsSound d
stage_sound c d n x s new h pick is = subst SoundIf is (staged_sound c n x s new h pick)
