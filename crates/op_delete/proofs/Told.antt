-- What stands behind a directory tells the file of the entry: its lock, and its header behind which more was seen.
use Rattle.op_law.specs.SeenFiles.{file_places}
use Rattle.std.proofs.Common.{◌≡◌, ◌≤◌, ◌-◌, ◌/◌, ◌∙◌, ℕ, Bool, true, false, cond, List, [], ◌∷◌, Option, Some, None, length, take, drop, slice_index_or, refl, sym, ap, subst, arith}
use Rattle.std.specs.Prelude.{◌==◌, nat_le, option_map}
use Rattle.std.proofs.lemmas.Bool.Decides.{nat_tests}
use Rattle.std.proofs.lemmas.List.{take_all}
use Rattle.base_words.specs.Fields.{Block}
use Rattle.fx_header.specs.declared.slot.Hdr.{Hdr}
use Rattle.lock_db.specs.declared.name.LockName.{LockName}
use Rattle.lock_db.specs.declared.name.LockName.TheVariants.{S, A, Q, X, V}
use Rattle.plain_cat.specs.declared.mode.Mode.{Mode}
use Rattle.plain_cat.specs.declared.mode.Mode.TheVariants.{PW}
use Rattle.plain_cat.specs.declared.entries.DirEnt.{DirEnt}
use Rattle.plain_cat.specs.declared.history.Stage.TheVariants as stage
use Rattle.plain_cat.specs.declared.reply.Reply.TheVariants as reply
use Rattle.plain_cat.specs.declared.reply.Refusal.TheVariants as refusal
use Rattle.plain_rules.specs.Directories.{is_nil}
use Rattle.plain_rules.specs.Lookups.{extra}
use Rattle.vol_parts.specs.declared.geometry.Geometry.{Geometry}
use Rattle.vol_spell.specs.Reading.{header_place, fields_told}
use Rattle.vol_spell.proofs.HeadSlots.{reads_fields}
use Rattle.op_law.specs.declared.need.Need.TheVariants as need
use Rattle.op_law.specs.declared.need.Plan.{Plan}
use Rattle.op_law.specs.declared.seeing.Rest.{Rest}
use Rattle.op_law.specs.Events.{Events, Take, Look, Make, Space, HasNoSpace, following, Follows}
use Rattle.op_law.specs.Behind.{goes_on_by, first_seen, FollowsBy}
use Rattle.op_law.specs.Rows.{is_number, refuses, look_all, entries_seen, plain_plan}
use Rattle.op_law.specs.Refusing.{SeenFile, seen_file, used_in, if_file, if_entry}
use Rattle.op_law.specs.Writing.{plan_of}
use Rattle.op_law.specs.Moving.{SeenDir, removal_writes}
use Rattle.op_law.specs.Freeing.{through_space}
use Rattle.op_law.specs.Headers.{through_links}
use Rattle.op_law.specs.Readable.{AreInside, HeadIsInside}
use Rattle.op_law.specs.Removing.{under_lock, entry_removed, delete_plan, delete_in}
use Rattle.op_law.proofs.Telling.{number_is}
use Rattle.op_delete.specs.declared.naming.Told.{Told}
use Rattle.op_delete.specs.declared.naming.Told.TheVariants as told
use Rattle.op_steps.proofs.Uses.{used_reads}
use Rattle.op_delete.specs.Deleting.{plan_by, whole_goes, file_goes}
use Rattle.op_delete.specs.Seeing.{IsFollowed, HeadIsFollowed}
use Rattle.op_delete.specs.Naming.{if_used, file_locked, LockIsOf, IsLone, IsFirstFile, IsPassed, IsTold}

abbrev Locks : Type 0
Locks = List (LockName × Mode)

abbrev Blocks : Type 0
Blocks = List (ℕ × Block)

-- the block that was seen first, and those behind it
pub first_is : (bs : Blocks) → 1 ≤ length bs → first_seen bs ≡ Some ((slice_index_or bs 0 (0, [])).1, take (length bs - 1) (drop 1 bs))
first_is [] few = absurd (omega arith)
first_is (b ∷ bs) few = ap (λ (xs : Blocks). Some (b.1, xs)) (sym (take_all (length (b ∷ bs) - 1) bs (omega arith)))

abbrev block_in : Option (Block × Blocks) → Block
block_in None = []
block_in (Some p) = p.0

abbrev others_in : Option (Block × Blocks) → Blocks
others_in None = []
others_in (Some p) = p.1

-- what holds of the first of what was seen holds of it
pub first_inside : (bs : Blocks) (b : Block) (behind : Blocks) → first_seen bs ≡ Some (b, behind) → HeadIsInside bs → AreInside b
first_inside [] b behind e inside = absurd (let none : ◌≡◌ {A = Option (Block × Blocks)} None (Some (b, behind)) = e in cc)
first_inside (x ∷ xs) b behind e inside = subst AreInside (ap block_in e) inside

pub first_followed : (g : Geometry) (bs : Blocks) (b : Block) (behind : Blocks) → first_seen bs ≡ Some (b, behind) → HeadIsFollowed g bs → IsFollowed g b behind
first_followed g [] b behind e followed = absurd (let none : ◌≡◌ {A = Option (Block × Blocks)} None (Some (b, behind)) = e in cc)
first_followed g (x ∷ xs) b behind e followed = subst (IsFollowed g b) (ap others_in e) (subst (λ (y : Block). IsFollowed g y xs) (ap block_in e) followed)

-- a lock or a block was seen
abbrev pub IsMore : Locks → Blocks → Type 0
IsMore locks blocks = locks ≡ [] → blocks ≡ [] → ⊥

-- ---- the first lock behind the header of a file that has no other header is no file's

looks_first : (name : LockName) (ls : List ℕ) (next : List Block → Events) (l : LockName × Mode) (locks : Locks) (space : Space) (given : Type 0)
    → ((bs : List Block) (blocks : Blocks) → Follows (next bs) (l ∷ locks) blocks space given → ⊥) → (blocks : Blocks) → Follows (look_all name ls next) (l ∷ locks) blocks space given → ⊥
looks_first name [] next l locks space given so blocks fs = so [] blocks fs
looks_first name (k ∷ ks) next l locks space given so [] fs = absurd (let t : length (l ∷ locks) ≡ 0 = ap length fs.0 in omega arith)
looks_first name (k ∷ ks) next l locks space given so (b ∷ blocks) fs = looks_first name ks (λ bs. next (b.1 ∷ bs)) l locks space given (λ bs. so (b.1 ∷ bs)) blocks fs.1

module _ (g : Geometry) (d : SeenDir) (o : Option DirEnt) (f : SeenFile) (m : ℕ) (mode : Mode) (locks : Locks) (space : Space) (given : Type 0) where
  abbrev room : Events
  room = through_space g f (λ s. Make (plan_by (λ e. delete_plan g d e f s) o))

  abbrev is_file : LockName → Bool
  is_file (S n) = true
  is_file other = false

  room_first : (blocks : Blocks) → Follows room ((S m, mode) ∷ locks) blocks space given → ⊥
  room_first blocks fs = let t : true ≡ false = ap (λ (l : LockName × Mode). is_file l.0) fs.0 in cc

  whole_first : (blocks : Blocks) → Follows (whole_goes g d o f) ((S m, mode) ∷ locks) blocks space given → ⊥
  whole_first blocks fs = by_dir f.file.dir fs where
    by_nil : (t : Bool) (xs : Blocks) → Follows (cond t room (refuses refusal.DirNotEmpty)) ((S m, mode) ∷ locks) xs space given → ⊥
    by_nil true xs fs = room_first xs fs
    by_nil false xs fs = absurd (let t : length ((S m, mode) ∷ locks) ≡ 0 = ap length fs.0 in omega arith)

    by_dir : (t : Bool) → Follows (cond t (look_all (S f.num) (file_places f) (λ bs. cond (is_nil (entries_seen bs)) room (refuses refusal.DirNotEmpty))) room) ((S m, mode) ∷ locks) blocks space given → ⊥
    by_dir true fs = looks_first (S f.num) (file_places f) (λ bs. cond (is_nil (entries_seen bs)) room (refuses refusal.DirNotEmpty)) (S m, mode) locks space given (λ bs. by_nil (is_nil (entries_seen bs))) blocks fs
    by_dir false fs = room_first blocks fs

  pub file_first : extra f.file.clusters ≡ 0 → (blocks : Blocks) → Follows (file_goes g d o f) ((S m, mode) ∷ locks) blocks space given → ⊥
  file_first lone blocks fs = whole_first blocks (subst (λ k. Follows (through_links g PW k f.head f (whole_goes g d o)) ((S m, mode) ∷ locks) blocks space given) lone fs)

-- ---- behind a directory

abbrev removed : SeenDir → DirEnt → Plan
removed d e = plan_of (removal_writes d e stage.Nothing stage.Done) reply.EntryRemoved

-- what comes behind the directory is the header of this number
pub record AtHeader (g : Geometry) (d : SeenDir) (o : Option DirEnt) (n : ℕ) : Type 0 where
  pub seq : ℕ
  pub plan : Plan
  pub is : if_entry o (delete_in g d) ≡ Look (S n) (header_place g n) (if_used g n seq plan (file_goes g d o))

-- its lock, and then its header
pub record AtLock (g : Geometry) (d : SeenDir) (o : Option DirEnt) (n : ℕ) : Type 0 where
  pub number : n ≤ g.files
  pub seq : ℕ
  pub plan : Plan
  pub is : if_entry o (delete_in g d) ≡ Take (S n) PW (Look (S n) (header_place g n) (if_used g n seq plan (file_goes g d o)))

-- one or the other
record IsThere (g : Geometry) (d : SeenDir) (o : Option DirEnt) : Type 0 where
  e : DirEnt
  number : e.fid.num ≤ g.files
  is : if_entry o (delete_in g d) ≡ under_lock g d.fid.num e.fid.num (if_used g e.fid.num e.fid.seq (removed d e) (file_goes g d o))

module _ (g : Geometry) (d : SeenDir) (o : Option DirEnt) (locks : Locks) (blocks : Blocks) (space : Space) (given : Type 0) where
  there : IsMore locks blocks → Follows (if_entry o (delete_in g d)) locks blocks space given → IsThere g d o
  there more fs = by_entry o refl fs where
    no_more : (p : Plan) → Follows (Make p) locks blocks space given → IsThere g d o
    no_more p fs = absurd (more fs.0 fs.1)

    by_number : (e : DirEnt) → o ≡ Some e → nat_le e.fid.num 11 ≡ false → (t : Bool) → is_number g e.fid ≡ t
        → Follows (cond t (under_lock g d.fid.num e.fid.num (if_used g e.fid.num e.fid.seq (removed d e) (file_goes g d (Some e)))) (entry_removed d e)) locks blocks space given → IsThere g d o
    by_number e is free true number fs =
        let at : Option DirEnt → Events = λ x. under_lock g d.fid.num e.fid.num (if_used g e.fid.num e.fid.seq (removed d e) (file_goes g d x)) in
        record {
          e = e;
          number = (number_is g e.fid number).to;
          is = ap (λ x. if_entry x (delete_in g d)) is ∙ ap (λ t. cond t (refuses refusal.NoPriv) (delete_in g d e)) free ∙ ap (λ t. cond t (at (Some e)) (entry_removed d e)) number ∙ ap at (sym is);
        }
    by_number e is free false number fs = no_more (removed d e) fs

    by_kept : (e : DirEnt) → o ≡ Some e → (t : Bool) → nat_le e.fid.num 11 ≡ t → Follows (cond t (refuses refusal.NoPriv) (delete_in g d e)) locks blocks space given → IsThere g d o
    by_kept e is true kept fs = no_more (plain_plan (reply.Refused refusal.NoPriv)) fs
    by_kept e is false free fs = by_number e is free (is_number g e.fid) refl fs

    by_entry : (x : Option DirEnt) → o ≡ x → Follows (if_entry x (delete_in g d)) locks blocks space given → IsThere g d o
    by_entry None is fs = no_more (plain_plan (reply.Refused refusal.NoSuchFile)) fs
    by_entry (Some e) is fs = by_kept e is (nat_le e.fid.num 11) refl fs

  abbrev header : DirEnt → Events
  header e = Look (S e.fid.num) (header_place g e.fid.num) (if_used g e.fid.num e.fid.seq (removed d e) (file_goes g d o))

  -- the lock of another file is the first
  other_file : (e : DirEnt) → e.fid.num ≤ g.files → if_entry o (delete_in g d) ≡ Take (S e.fid.num) PW (header e) → AtLock g d o e.fid.num
  other_file e number is = record { number = number; seq = e.fid.seq; plan = removed d e; is = is }

  -- the header of the directory itself is
  own_file : (e : DirEnt) → e.fid.num ≡ d.fid.num → if_entry o (delete_in g d) ≡ header e → AtHeader g d o d.fid.num
  own_file e same is = subst (AtHeader g d o) same (record { seq = e.fid.seq; plan = removed d e; is = is })

-- ---- by the locks

abbrev number_of : LockName → ℕ
number_of (S n) = n
number_of other = 0

no_lock : (l : LockName × Mode) (locks : Locks) → l ∷ locks ≡ [] → ⊥
no_lock l locks none = let t : length (l ∷ locks) ≡ 0 = ap length none in omega arith

no_block : (b : ℕ × Block) (blocks : Blocks) → b ∷ blocks ≡ [] → ⊥
no_block b blocks none = let t : length (b ∷ blocks) ≡ 0 = ap length none in omega arith

module _ (g : Geometry) (d : SeenDir) (o : Option DirEnt) (space : Space) (given : Type 0) where
  abbrev first : DirEnt → Events
  first e = header g d o [] [] space given e

  -- where the first lock is a file's it is another file, since behind the directory's own header no such lock comes
  pub locked_so : (m : ℕ) (mode : Mode) (locks : Locks) (blocks : Blocks) → IsLone g d.fid.num blocks → Follows (if_entry o (delete_in g d)) ((S m, mode) ∷ locks) blocks space given → AtLock g d o m
  locked_so m mode locks blocks lone fs = by_there (there g d o ((S m, mode) ∷ locks) blocks space given (λ none. absurd (no_lock (S m, mode) locks none)) fs) where
    by_used : (e : DirEnt) (b : Block) (xs : Blocks) (x : Option Hdr) → used_in e.fid.seq b ≡ x → ((h : Hdr) → fields_told b ≡ Some h → extra (h.blocks / g.cluster) ≡ 0)
        → Follows (if_file (Make (removed d e)) (file_goes g d o) (option_map (seen_file g e.fid.num b) x)) ((S m, mode) ∷ locks) xs space given → ⊥
    by_used e b xs None is one fs = no_lock (S m, mode) locks fs.0
    by_used e b xs (Some h) is one fs = file_first g d o (seen_file g e.fid.num b h) m mode locks space given (one h (reads_fields b h (used_reads e.fid.seq b h is))) xs fs

    by_blocks : (e : DirEnt) → e.fid.num ≡ d.fid.num → (xs : Blocks) → IsLone g d.fid.num xs → Follows (first e) ((S m, mode) ∷ locks) xs space given → ⊥
    by_blocks e own [] one fs = no_lock (S m, mode) locks fs.0
    by_blocks e own (x ∷ xs) one fs = by_used e x.1 xs (used_in e.fid.seq x.1) refl (one (fs.0 ∙ ap (header_place g) own)) fs.1

    by_same : (t : IsThere g d o) (u : Bool) → (t.e.fid.num == d.fid.num) ≡ u → AtLock g d o m
    by_same t true same =
        let is : if_entry o (delete_in g d) ≡ first t.e = t.is ∙ ap (λ u. cond u (first t.e) (Take (S t.e.fid.num) PW (first t.e))) same in
        absurd (by_blocks t.e (grind (arith, nat_tests)) blocks lone (subst (λ es. Follows es ((S m, mode) ∷ locks) blocks space given) is fs))
    by_same t false other =
        let is : if_entry o (delete_in g d) ≡ Take (S t.e.fid.num) PW (first t.e) = t.is ∙ ap (λ u. cond u (first t.e) (Take (S t.e.fid.num) PW (first t.e))) other in
        let taken : Follows (Take (S t.e.fid.num) PW (first t.e)) ((S m, mode) ∷ locks) blocks space given = subst (λ es. Follows es ((S m, mode) ∷ locks) blocks space given) is fs in
        let number : m ≡ t.e.fid.num = ap (λ (l : LockName × Mode). number_of l.0) taken.0 in
        subst (AtLock g d o) (sym number) (other_file g d o [] [] space given t.e t.number is)

    by_there : IsThere g d o → AtLock g d o m
    by_there t = by_same t (t.e.fid.num == d.fid.num) refl

  module _ (locks : Locks) (none : file_locked locks ≡ None) where
    other_lock : (n : ℕ) (next : Events) (ks : Locks) (blocks : Blocks) → file_locked ks ≡ None → IsMore ks blocks → Follows (Take (S n) PW next) ks blocks space given → ⊥
    other_lock n next [] blocks none more fs = more refl fs.0
    other_lock n next (k ∷ ks) blocks none more fs = let t : None ≡ Some (n, ks) = sym none ∙ ap (λ (l : LockName × Mode). file_locked (l ∷ ks)) fs.0 in cc

    -- otherwise its header is the directory's own
    header_so : (blocks : Blocks) → IsMore locks blocks → Follows (if_entry o (delete_in g d)) locks blocks space given → AtHeader g d o d.fid.num
    header_so blocks more fs = by_there (there g d o locks blocks space given more fs) where
      by_same : (t : IsThere g d o) (u : Bool) → (t.e.fid.num == d.fid.num) ≡ u → AtHeader g d o d.fid.num
      by_same t true same =
          own_file g d o [] [] space given t.e (grind (arith, nat_tests)) (t.is ∙ ap (λ u. cond u (first t.e) (Take (S t.e.fid.num) PW (first t.e))) same)
      by_same t false other =
          let is : if_entry o (delete_in g d) ≡ Take (S t.e.fid.num) PW (first t.e) = t.is ∙ ap (λ u. cond u (first t.e) (Take (S t.e.fid.num) PW (first t.e))) other in
          absurd (other_lock t.e.fid.num (first t.e) locks blocks none more (subst (λ es. Follows es locks blocks space given) is fs))

      by_there : IsThere g d o → AtHeader g d o d.fid.num
      by_there t = by_same t (t.e.fid.num == d.fid.num) refl

    pub unlocked_so : (b : ℕ × Block) (blocks : Blocks) → Follows (if_entry o (delete_in g d)) locks (b ∷ blocks) space given → AtHeader g d o d.fid.num
    unlocked_so b blocks fs = header_so (b ∷ blocks) (λ empty nothing. no_block b blocks nothing) fs

  -- and without a block nothing was seen
  pub nothing_so : (locks : Locks) → file_locked locks ≡ None → Follows (if_entry o (delete_in g d)) locks [] space given → locks ≡ []
  nothing_so [] none fs = refl
  nothing_so (k ∷ ks) none fs =
      let at = header_so (k ∷ ks) none [] (λ empty nothing. no_lock k ks empty) fs in
      let header : Follows (Look (S d.fid.num) (header_place g d.fid.num) (if_used g d.fid.num at.seq at.plan (file_goes g d o))) (k ∷ ks) [] space given = subst (λ es. Follows es (k ∷ ks) [] space given) at.is fs in
      header.0

  -- the first lock is of a number of the volume
  pub lock_so : (locks : Locks) (blocks : Blocks) → IsLone g d.fid.num blocks → Follows (if_entry o (delete_in g d)) locks blocks space given → LockIsOf g locks
  lock_so [] blocks lone fs = tt
  lock_so (k ∷ ks) blocks lone fs = by_name k.0 k.1 fs where
    by_name : (name : LockName) (mode : Mode) → Follows (if_entry o (delete_in g d)) ((name, mode) ∷ ks) blocks space given → LockIsOf g ((name, mode) ∷ ks)
    by_name (S n) mode fs = (locked_so n mode ks blocks lone fs).number
    by_name (A n) mode fs = tt
    by_name Q mode fs = tt
    by_name X mode fs = tt
    by_name V mode fs = tt

-- ---- what the code has seen

-- a file's lock, and the locks behind it
record IsLocked (n : ℕ) (locks behind : Locks) : Type 0 where
  mode : Mode
  is : locks ≡ (S n, mode) ∷ behind

abbrev number_first : Option (ℕ × Locks) → ℕ
number_first None = 0
number_first (Some p) = p.0

abbrev locks_behind : Option (ℕ × Locks) → Locks
locks_behind None = []
locks_behind (Some p) = p.1

locked_is : (n : ℕ) (locks behind : Locks) → file_locked locks ≡ Some (n, behind) → IsLocked n locks behind
locked_is n [] behind e = absurd (let t : None ≡ Some (n, behind) = e in cc)
locked_is n (k ∷ ks) behind e = by_name k.0 k.1 e where
  by_name : (name : LockName) (mode : Mode) → file_locked ((name, mode) ∷ ks) ≡ Some (n, behind) → IsLocked n ((name, mode) ∷ ks) behind
  by_name (S m) mode e =
      let number : m ≡ n = ap number_first e in
      let others : ks ≡ behind = ap locks_behind e in
      record { mode = mode; is = ap (λ k. (S k, mode) ∷ ks) number ∙ ap (λ ls. (S n, mode) ∷ ls) others }
  by_name (A m) mode e = absurd (let t : None ≡ Some (n, behind) = e in cc)
  by_name Q mode e = absurd (let t : None ≡ Some (n, behind) = e in cc)
  by_name X mode e = absurd (let t : None ≡ Some (n, behind) = e in cc)
  by_name V mode e = absurd (let t : None ≡ Some (n, behind) = e in cc)

-- what was told of the header of this number holds of the directory
abbrev pub TellsHeader : ℕ → Rest → Told → Type 0
TellsHeader n rest r =
    (g : Geometry) (seq lbn : ℕ) (plan : Plan) (next : SeenFile → Events) (space : Space)
    → FollowsBy (Look (S n) lbn (if_used g n seq plan next)) rest space → IsPassed g (Look (S n) lbn (if_used g n seq plan next)) rest next space r

module _ (g : Geometry) (d : SeenDir) (o : Option DirEnt) (space : Space) (rest : Rest) (follows : FollowsBy (if_entry o (delete_in g d)) rest space) where
  abbrev es : Events
  es = if_entry o (delete_in g d)

  abbrev header_of : ℕ → ℕ → Plan → Events
  header_of n seq plan = Look (S n) (header_place g n) (if_used g n seq plan (file_goes g d o))

  -- behind a lock of a file without a block its header comes next
  pub next_told : (n : ℕ) (behind : Locks) → file_locked rest.locks.now ≡ Some (n, behind) → rest.blocks.now ≡ [] → goes_on_by es rest space ≡ need.Block (S n) (header_place g n)
  next_told n behind locked none =
      let l = locked_is n rest.locks.now behind locked in
      let at = locked_so g d o space (HasNoSpace space) n l.mode behind [] tt (subst (λ ks. Follows es ks [] space (HasNoSpace space)) l.is (subst (λ bs. Follows es rest.locks.now bs space (HasNoSpace space)) none follows)) in
      ap (λ bs. following es rest.locks.now bs space) none ∙ ap (λ ks. following es ks [] space) l.is ∙ ap (λ x. following x ((S n, l.mode) ∷ behind) [] space) at.is

  -- what was told behind it
  pub lock_told : (n : ℕ) (behind : Rest) (r : Told) → file_locked rest.locks.now ≡ Some (n, behind.locks.now) → behind.blocks.now ≡ rest.blocks.now → IsLone g d.fid.num rest.blocks.now → TellsHeader n behind r
      → IsTold g d o rest space r
  lock_told n behind r locked same lone tells =
      let l = locked_is n rest.locks.now behind.locks.now locked in
      let held : Follows es ((S n, l.mode) ∷ behind.locks.now) behind.blocks.now space (HasNoSpace space) =
      subst (λ bs. Follows es ((S n, l.mode) ∷ behind.locks.now) bs space (HasNoSpace space)) (sym same) (subst (λ ks. Follows es ks rest.blocks.now space (HasNoSpace space)) l.is follows) in
      let at = locked_so g d o space (HasNoSpace space) n l.mode behind.locks.now behind.blocks.now (subst (IsLone g d.fid.num) (sym same) lone) held in
      let header : Events = header_of n at.seq at.plan in
      let path : goes_on_by es rest space ≡ goes_on_by header behind space =
      ap (λ ks. following es ks rest.blocks.now space) l.is ∙ ap (λ bs. following es ((S n, l.mode) ∷ behind.locks.now) bs space) (sym same)
      ∙ ap (λ x. following x ((S n, l.mode) ∷ behind.locks.now) behind.blocks.now space) at.is in
      let first : FollowsBy header behind space = (subst (λ x. Follows x ((S n, l.mode) ∷ behind.locks.now) behind.blocks.now space (HasNoSpace space)) at.is held).1 in
      by_told l header path r (tells g at.seq (header_place g n) at.plan (file_goes g d o) space first) where
        by_told : IsLocked n rest.locks.now behind.locks.now → (header : Events) → goes_on_by es rest space ≡ goes_on_by header behind space → (r : Told) → IsPassed g header behind (file_goes g d o) space r → IsTold g d o rest space r
        by_told l header path (told.File f more) passed = record { need = path ∙ passed.need; follows = passed.follows }
        by_told l header path (told.Next n) passed = absurd passed
        by_told l header path (told.Nothing) passed =
            let one : length rest.locks.now ≡ length ((S n, l.mode) ∷ behind.locks.now) = ap length l.is in
            let none : length behind.locks.now ≡ 0 = ap length passed.0 in
            let blocks : length behind.blocks.now ≡ length rest.blocks.now = ap length same in
            let few = passed.1 in
            (omega arith, omega arith)

  -- what was told where the first lock is no file's
  pub header_told : (r : Told) → file_locked rest.locks.now ≡ None → IsFirstFile g d.fid.num rest r → TellsHeader d.fid.num rest r → IsTold g d o rest space r
  header_told r none file tells = by_blocks rest.blocks.now refl where
    no_head : (r : Told) → rest.blocks.now ≡ [] → IsFirstFile g d.fid.num rest r → IsTold g d o rest space r
    no_head (told.File f more) empty file = absurd (let t : None ≡ Some (f.head.now, more.blocks.now) = ap first_seen (sym empty) ∙ file.head in cc)
    no_head (told.Next n) empty file = absurd file
    no_head (told.Nothing) empty file =
        let locks = nothing_so g d o space (HasNoSpace space) rest.locks.now none (subst (λ bs. Follows es rest.locks.now bs space (HasNoSpace space)) empty follows) in
        let a : length rest.locks.now ≡ 0 = ap length locks in
        let b : length rest.blocks.now ≡ 0 = ap length empty in
        (omega arith, omega arith)

    by_told : (header : Events) → es ≡ header → (r : Told) → IsPassed g header rest (file_goes g d o) space r → IsTold g d o rest space r
    by_told header is (told.File f more) passed = record { need = ap (λ x. goes_on_by x rest space) is ∙ passed.need; follows = passed.follows }
    by_told header is (told.Next n) passed = absurd passed
    by_told header is (told.Nothing) passed =
        let a : length rest.locks.now ≡ 0 = ap length passed.0 in
        let few = passed.1 in
        (omega arith, omega arith)

    by_blocks : (blocks : Blocks) → rest.blocks.now ≡ blocks → IsTold g d o rest space r
    by_blocks [] empty = no_head r empty file
    by_blocks (x ∷ xs) seen =
        let at = unlocked_so g d o space (HasNoSpace space) rest.locks.now none x xs (subst (λ bs. Follows es rest.locks.now bs space (HasNoSpace space)) seen follows) in
        by_told (header_of d.fid.num at.seq at.plan) at.is r
        (tells g at.seq (header_place g d.fid.num) at.plan (file_goes g d o) space (subst (λ x. FollowsBy x rest space) at.is follows))
