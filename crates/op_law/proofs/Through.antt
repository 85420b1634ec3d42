-- The events that commands have in common, walked along.
use Rattle.std.proofs.Common.{◌≡◌, ◌∙◌, ℕ, Bool, true, false, cond, List, [], ◌∷◌, Option, Some, None, refl, sym, ap, subst, inl, inr, arith}
use Rattle.std.specs.Prelude.{◌+◌, ◌-◌, ◌<◌, ◌++◌, nat_le, map, filter, option_map, Ok}
use Rattle.std.proofs.lemmas.Option.{get_or_from_slice_get}
use Rattle.base_words.specs.Fields.{Block}
use Rattle.fx_header.specs.declared.slot.Hdr.{Hdr}
use Rattle.fx_header.specs.declared.slot.Slot.TheVariants as head
use Rattle.fx_header.specs.Pointers.{lbns_in}
use Rattle.fx_dir.specs.Directory.{directory}
use Rattle.lock_db.specs.declared.name.LockName.{LockName}
use Rattle.lock_db.specs.declared.name.LockName.TheVariants.{S, Q}
use Rattle.plain_cat.specs.Modes.{rank}
use Rattle.plain_cat.specs.declared.ids.Fid.{Fid}
use Rattle.plain_cat.specs.declared.mode.Mode.{Mode}
use Rattle.plain_cat.specs.declared.mode.Mode.TheVariants.{PR, PW}
use Rattle.plain_cat.specs.declared.command.Cmd.{Cmd}
use Rattle.plain_cat.specs.declared.reply.Reply.TheVariants as reply
use Rattle.plain_cat.specs.declared.reply.Refusal.TheVariants as refusal
use Rattle.plain_cat.specs.declared.cat.Cat.{Cat}
use Rattle.plain_cat.specs.declared.cat.File.{File}
use Rattle.plain_rules.specs.Lookups.{live}
use Rattle.vol_spell.specs.declared.owner.Owner.TheVariants.{InFile}
use Rattle.base_words.specs.Lists.{Has}
use Rattle.vol_spell.specs.Owners.{Owners}
use Rattle.vol_spell.specs.Spread.{blocks_at}
use Rattle.vol_spell.proofs.Placing.{has_ranged}
use Rattle.vol_parts.specs.declared.geometry.Geometry.{Geometry}
use Rattle.vol_parts.specs.declared.geometry.Part.TheVariants.{Quota}
use Rattle.vol_parts.specs.Catalogues.{plain_entries, file_of}
use Rattle.vol_spell.specs.Reading.{IsFileNumber, owner_at, header_place, header_block, head_told, runs_told, quota_places}
use Rattle.vol_spell.specs.Places.{place_of}
use Rattle.vol_spell.specs.Spelling.{Spells}
use Rattle.vol_spell.proofs.Parts.{part_there, part_owned}
use Rattle.vol_spell.proofs.Frames.{on_volume}
use Rattle.vol_under.specs.Guards.{guard_by}
use Rattle.op_law.specs.declared.need.Plan.{Plan}
use Rattle.op_law.specs.declared.seen.Seen.{Seen}
use Rattle.op_law.specs.Events.{Events, Take, Look}
use Rattle.op_law.specs.Rows.{plain_plan, refuses, is_number, live_in, look_all, through_header, in_directory, through_directory, entries_seen}
use Rattle.vol_spell.specs.Entries.{places_in}
use Rattle.op_law.specs.Quotas.{through_quota}
use Rattle.op_law.specs.Order.{IsBefore}
use Rattle.op_law.specs.Laws.{held_in, ComesInTurn, Fixed, IsLockedLook}
use Rattle.op_law.proofs.Heads.{header_is, dir_told}
use Rattle.op_law.proofs.Telling.{live_reads, live_is, not_live, number_is}
use Rattle.vol_spell.specs.Files.{blocks_told}
use Rattle.vol_spell.proofs.HeadSlots.{dir_runs}
use Rattle.op_law.proofs.Looks.{IsUnder, header_under, block_under}
use Rattle.op_law.proofs.Walking.{ObeysBy}

-- ---- what holds of events where it holds of those behind each lock and look

module _ (Q : Events → Type 0) (take : (name : LockName) (mode : Mode) (next : Events) → Q next → Q (Take name mode next))
    (look : (name : LockName) (lbn : ℕ) (next : Block → Events) → ((b : Block) → Q (next b)) → Q (Look name lbn next)) where
  pub all_so : (name : LockName) (ls : List ℕ) (next : List Block → Events) → ((bs : List Block) → Q (next bs)) → Q (look_all name ls next)
  all_so name [] next so = so []
  all_so name (l ∷ ls) next so = look name l (λ b. look_all name ls (λ bs. next (b ∷ bs))) (λ b. all_so name ls (λ bs. next (b ∷ bs)) (λ bs. so (b ∷ bs)))

  pub header_so : (g : Geometry) (fid : Fid) (mode : Mode) (next : Block → Events) → Q (refuses refusal.NoSuchFile) → ((b : Block) → Q (next b)) → Q (through_header g fid mode next)
  header_so g fid mode next none so = by_number (is_number g fid) where
    by_number : (t : Bool) → Q (cond t (Take (S fid.num) mode (Look (S fid.num) (header_place g fid.num) next)) (refuses refusal.NoSuchFile))
    by_number true = take (S fid.num) mode _ (look (S fid.num) (header_place g fid.num) next so)
    by_number false = none

  pub directory_so : (g : Geometry) (fid : Fid) (mode : Mode) (next : Block → List Block → Events) → Q (refuses refusal.NoSuchFile) → Q (refuses refusal.NotDir)
      → ((b : Block) (bs : List Block) → Q (next b bs)) → Q (through_directory g fid mode next)
  directory_so g fid mode next none plain so = header_so g fid mode (λ b. in_directory fid b (next b) (live_in fid.seq b)) none (λ b. by_live b (live_in fid.seq b)) where
    by_dir : (b : Block) (t : Bool) → Q (cond t (look_all (S fid.num) (places_in b) (next b)) (refuses refusal.NotDir))
    by_dir b true = all_so (S fid.num) (places_in b) (next b) (so b)
    by_dir b false = plain

    by_live : (b : Block) (o : Option Hdr) → Q (in_directory fid b (next b) o)
    by_live b None = none
    by_live b (Some h) = by_dir b h.dir

-- ---- locks that are held

-- the last lock that was taken is held
pub last_held : (held : List (LockName × Mode)) (name : LockName) (mode : Mode) → Has (PR ∷ PW ∷ []) mode → Has (held_in PR (held ++ (name, mode) ∷ [])) name
last_held [] name mode allowed = by_mode allowed where
  by_mode : Has (PR ∷ PW ∷ []) mode → Has (held_in PR ((name, mode) ∷ [])) name
  by_mode (inl e) = subst (λ m. Has (held_in PR ((name, m) ∷ [])) name) e (inl refl)
  by_mode (inr (inl e)) = subst (λ m. Has (held_in PR ((name, m) ∷ [])) name) e (inl refl)
  by_mode (inr (inr none)) = absurd none
last_held (l ∷ held) name mode allowed = by_test (nat_le (rank PR) (rank l.1)) (last_held held name mode allowed) where
  by_test : (t : Bool) → Has (held_in PR (held ++ (name, mode) ∷ [])) name → Has (map (λ k. k.0) (cond t (l ∷ filter (λ k. nat_le (rank PR) (rank k.1)) (held ++ (name, mode) ∷ [])) (filter (λ k. nat_le (rank PR) (rank k.1)) (held ++ (name, mode) ∷ [])))) name
  by_test true t = inr t
  by_test false t = t

-- ---- a file and its blocks

-- the header of a file's number, the file that a header there tells, and its blocks
abbrev pub file_header : List Block → Geometry → Fid → Block
file_header bs g fid = header_block g bs fid.num

abbrev pub file_told : List Block → Geometry → Fid → Hdr → File
file_told bs g fid f = file_of g.cluster fid.num f (blocks_told g bs fid.num)

abbrev pub listed_blocks : List Block → Geometry → Fid → List Block
listed_blocks bs g fid = blocks_at bs (places_in (file_header bs g fid))

-- a live directory, and its blocks
pub record IsListed (g : Geometry) (bs : List Block) (c : Cat) (fid : Fid) (f : Hdr) : Type 0 where
  pub number : IsFileNumber g fid.num
  pub header : live_in fid.seq (file_header bs g fid) ≡ Some f
  pub dir : f.dir ≡ true
  pub live : live c fid ≡ Some (file_told bs g fid f)
  pub entries : (file_told bs g fid f).entries ≡ entries_seen (listed_blocks bs g fid)

-- ---- what a command may need

module _ (x : Cmd) (g : Geometry) (bs : List Block) (own : Owners) (c : Cat) (s : Spells g bs own c) (seen : Seen) (P : List (LockName × Mode) → Plan → Type 0) where
  abbrev O : Events → List (LockName × Mode) → Type 0
  O es held = ObeysBy x g bs own c seen P es held

  abbrev IsNew : List (LockName × Mode) → LockName → Type 0
  IsNew held name = Has (map (λ l. l.0) held) name → ⊥

  -- it comes behind all of these locks
  abbrev IsBehind : List (LockName × Mode) → LockName → Type 0
  IsBehind held name = (other : LockName) → Has (map (λ l. l.0) held) other → IsBefore g bs own c other name

  pub all_obeys : (name : LockName) (held : List (LockName × Mode)) (ls : List ℕ) (next : List Block → Events) → ((l : ℕ) → Has ls l → IsLockedLook g bs own c held name l)
      → O (next (blocks_at bs ls)) held → O (look_all name ls next) held
  all_obeys name held [] next guarded o = o
  all_obeys name held (l ∷ ls) next guarded o = (
    guarded l (inl refl),
    λ b at. all_obeys name held ls (λ more. next (b ∷ more)) (λ k m. guarded k (inr m))
        (subst (λ y. O (next (y ∷ blocks_at bs ls)) held) (get_or_from_slice_get bs l b [] at) o),
  )

  module _ (held : List (LockName × Mode)) (mode : Mode) (allowed : Has (PR ∷ PW ∷ []) mode) where
    under : (n l : ℕ) → IsUnder g bs own c n l → IsLockedLook g bs own c (held ++ (S n, mode) ∷ []) (S n) l
    under n l u = record { kind = u.kind; guard = u.guard; held = last_held held (S n) mode allowed; within = u.within }

    -- behind the lock of a number and the header there
    pub number_obeys : (n : ℕ) (next : Block → Events) → IsNew held (S n) → ComesInTurn held seen.number (S n) → IsBehind held (S n) → IsFileNumber g n → O (next (header_block g bs n)) (held ++ (S n, mode) ∷ [])
        → O (Take (S n) mode (Look (S n) (header_place g n) next)) held
    number_obeys n next new turn after is behind = (
      record { new = new; in_mode = allowed; own = refl; turn = turn; after = after },
      (
        under n (header_place g n) (header_under g bs own c s n is),
        λ b at. subst (λ y. O (next y) (held ++ (S n, mode) ∷ [])) (header_is g bs n (header_place g n) b refl at) behind,
      ),
    )

    -- behind Q and the quota blocks
    quota_under : (l : ℕ) → Has (quota_places g) l → IsLockedLook g bs own c (held ++ (Q, mode) ∷ []) Q l
    quota_under l t =
        let within = has_ranged g.quota_lbn g.cluster l t in
        let k : ℕ = l - g.quota_lbn in
        let low = within.0 in
        let high = within.1 in
        let lt : k < g.cluster = omega arith in
        let e : place_of g (Quota k) ≡ l = (let z : g.quota_lbn + (l - g.quota_lbn) ≡ l = omega arith in z) in
        let R : ℕ → Type 0 = λ y. IsLockedLook g bs own c (held ++ (Q, mode) ∷ []) Q y in
        subst R e (record {
          kind = Fixed (Quota k) (part_there g bs own c s (Quota k) lt);
          guard = ap (λ p. guard_by p (owner_at g own (place_of g (Quota k)))) (part_there g bs own c s (Quota k) lt);
          held = last_held held Q mode allowed;
          within = on_volume g bs own c s (place_of g (Quota k)) (InFile 10) (part_owned g bs own c s (Quota k) lt);
        })

    pub quota_obeys : (next : List Block → Events) → IsNew held Q → IsBehind held Q → O (next (blocks_at bs (quota_places g))) (held ++ (Q, mode) ∷ []) → O (through_quota g mode next) held
    quota_obeys next new after behind = (record { new = new; in_mode = allowed; own = refl; turn = tt; after = after }, all_obeys Q (held ++ (Q, mode) ∷ []) (quota_places g) next quota_under behind)

  module _ (fid : Fid) (held : List (LockName × Mode)) (new : IsNew held (S fid.num)) (turn : ComesInTurn held seen.number (S fid.num)) (after : IsBehind held (S fid.num)) (mode : Mode) (allowed : Has (PR ∷ PW ∷ []) mode) where
    -- the file's lock is held besides
    abbrev file_held : List (LockName × Mode)
    file_held = held ++ (S fid.num, mode) ∷ []

    -- behind a file's lock and its header
    pub header_obeys : (next : Block → Events) → (is_number g fid ≡ false → P held (plain_plan (reply.Refused refusal.NoSuchFile)))
        → (IsFileNumber g fid.num → O (next (header_block g bs fid.num)) file_held) → O (through_header g fid mode next) held
    header_obeys next out behind = by_number (is_number g fid) refl where
      by_number : (t : Bool) → is_number g fid ≡ t → O (cond t (Take (S fid.num) mode (Look (S fid.num) (header_place g fid.num) next)) (refuses refusal.NoSuchFile)) held
      by_number true e = let is = number_is g fid e in number_obeys held mode allowed fid.num next new turn after is (behind is)
      by_number false e = out e

    module _ (next : Block → List Block → Events) (none : live c fid ≡ None → (ls : List (LockName × Mode)) → P ls (plain_plan (reply.Refused refusal.NoSuchFile)))
        (plain : (f : Hdr) → live c fid ≡ Some (file_told bs g fid f) → f.dir ≡ false → P file_held (plain_plan (reply.Refused refusal.NotDir)))
        (listed : (f : Hdr) → IsListed g bs c fid f → O (next (file_header bs g fid) (listed_blocks bs g fid)) file_held) where
      lives : IsFileNumber g fid.num → (o : Option Hdr) → live_in fid.seq (file_header bs g fid) ≡ o → live c fid ≡ option_map (file_told bs g fid) o
      lives is o e = live_is g bs own c s fid is ∙ ap (option_map (file_told bs g fid)) e

      in_dir : IsFileNumber g fid.num → (f : Hdr) → live_in fid.seq (file_header bs g fid) ≡ Some f → f.dir ≡ true
          → O (look_all (S fid.num) (places_in (file_header bs g fid)) (next (file_header bs g fid))) file_held
      in_dir is f e d =
          let reads : head_told (file_header bs g fid) ≡ Ok (head.Used f) = live_reads fid.seq (head_told (file_header bs g fid)) f e in
          let places : lbns_in (runs_told (file_header bs g fid)) ≡ places_in (file_header bs g fid) = ap lbns_in (dir_told g bs own c s fid.num f is reads d) in
          let entries : (file_told bs g fid f).entries ≡ entries_seen (listed_blocks bs g fid) =
          ap (λ t. cond t (plain_entries (directory (blocks_told g bs fid.num))) []) d ∙ ap (λ rs. entries_seen (blocks_at bs (lbns_in rs))) (dir_runs g bs own c s fid.num f is reads d) in
          all_obeys (S fid.num) file_held (places_in (file_header bs g fid)) (next (file_header bs g fid))
          (λ l m. under held mode allowed fid.num l (block_under g bs own c s fid.num l f is reads d (subst (λ ls. Has ls l) (sym places) m)))
          (listed f (record { number = is; header = e; dir = d; live = lives is (Some f) e; entries = entries }))

      by_dir : IsFileNumber g fid.num → (f : Hdr) → live_in fid.seq (file_header bs g fid) ≡ Some f → (t : Bool) → f.dir ≡ t
          → O (cond t (look_all (S fid.num) (places_in (file_header bs g fid)) (next (file_header bs g fid))) (refuses refusal.NotDir)) file_held
      by_dir is f e true d = in_dir is f e d
      by_dir is f e false d = plain f (lives is (Some f) e) d

      by_live : IsFileNumber g fid.num → (o : Option Hdr) → live_in fid.seq (file_header bs g fid) ≡ o → O (in_directory fid (file_header bs g fid) (next (file_header bs g fid)) o) file_held
      by_live is None e = none (lives is None e) file_held
      by_live is (Some f) e = by_dir is f e f.dir refl

      -- behind a directory's lock, its header and its blocks
      pub directory_obeys : O (through_directory g fid mode next) held
      directory_obeys = header_obeys (λ b. in_directory fid b (next b) (live_in fid.seq b)) (λ e. none (not_live g bs own c s fid e) held) (λ is. by_live is (live_in fid.seq (file_header bs g fid)) refl)
