-- The law of TRUNC.
use Rattle.std.proofs.Common.{◌≡◌, ◌≤◌, ◌<◌, ◌+◌, ◌-◌, ◌*◌, ◌/◌, ◌∙◌, ◌++◌, inl, inr, ℕ, zero, suc, Bool, true, false, cond, List, [], ◌∷◌, Option, Some, None, length, map, take, refl, sym, ap, subst, arith, length-take}
use Rattle.std.specs.Prelude.{◌==◌, ◌||◌, min, nat_lt, option_map, Ok}
use Rattle.std.proofs.lemmas.Bool.Decides.{nat_tests}
use Rattle.std.proofs.lemmas.Option.{get_or_from_slice_get}
use Rattle.base_words.specs.Fields.{Block}
use Rattle.base_words.specs.Lists.{Has}
use Rattle.fx_header.specs.declared.slot.Hdr.{Hdr}
use Rattle.fx_header.specs.declared.slot.Slot.TheVariants as head
use Rattle.lock_db.specs.declared.name.LockName.{LockName}
use Rattle.lock_db.specs.declared.name.LockName.TheVariants.{S, Q, V}
use Rattle.plain_cat.specs.declared.ids.Fid.{Fid}
use Rattle.plain_cat.specs.declared.mode.Mode.{Mode}
use Rattle.plain_cat.specs.declared.mode.Mode.TheVariants.{PR, PW}
use Rattle.plain_cat.specs.declared.command.Cmd.{Cmd}
use Rattle.plain_cat.specs.declared.command.Cmd.TheVariants as cmd
use Rattle.plain_cat.specs.declared.history.Stage.TheVariants as stage
use Rattle.plain_cat.specs.declared.reply.Reply.{Reply}
use Rattle.plain_cat.specs.declared.reply.Reply.TheVariants as reply
use Rattle.plain_cat.specs.declared.reply.Refusal.{Refusal}
use Rattle.plain_cat.specs.declared.reply.Refusal.TheVariants as refusal
use Rattle.plain_cat.specs.declared.cat.Cat.{Cat}
use Rattle.plain_cat.specs.declared.cat.File.{File}
use Rattle.plain_rules.specs.Lookups.{live, file_at}
use Rattle.plain_rules.specs.Changes.{cut}
use Rattle.plain_rules.specs.Answers.{is_kept, Answer}
use Rattle.vol_spell.specs.declared.owner.Owner.TheVariants.{InFile}
use Rattle.vol_spell.specs.Owners.{Owners, Things, nothing, Outs}
use Rattle.vol_spell.specs.Spread.{blocks_at}
use Rattle.vol_parts.specs.declared.geometry.Geometry.{Geometry}
use Rattle.vol_parts.specs.declared.geometry.Part.{Part}
use Rattle.vol_parts.specs.declared.geometry.Part.TheVariants.{IndexBitmap, Storage}
use Rattle.vol_parts.specs.Catalogues.{file_of, is_structure}
use Rattle.vol_spell.specs.Reading.{IsFileNumber, header_block, quota_places, head_told, fields_told}
use Rattle.vol_spell.specs.Places.{place_of, IsPart, file_of_part}
use Rattle.vol_spell.specs.Spelling.{Spells}
use Rattle.vol_spell.proofs.Parts.{part_there, part_owned}
use Rattle.vol_spell.proofs.Frames.{on_volume}
use Rattle.vol_spell.proofs.HeadFiles.{sized, counted, mark_within, end_within, file_is, shown, length-shown}
use Rattle.vol_spell.proofs.HeadSlots.{reads_fields}
use Rattle.vol_under.specs.Guards.{Lock, guard_of}
use Rattle.vol_under.proofs.Steps.{stands_first}
use Rattle.op_law.specs.declared.need.Plan.{Plan}
use Rattle.op_law.specs.declared.need.PlanWrite.{PlanWrite}
use Rattle.op_law.specs.declared.seen.Seen.{Seen}
use Rattle.op_law.specs.Events.{Events, Make}
use Rattle.op_law.specs.Fits.{things}
use Rattle.op_law.specs.Freeing.{blocks_for, look_index, look_storage, freeing_tail}
use Rattle.op_law.specs.Headers.{through_chain}
use Rattle.op_law.specs.Needs.{events_of}
use Rattle.op_law.specs.Laws.{held_in, Fixed, IsLockedLook, Lawful}
use Rattle.op_law.specs.Refusing.{SeenFile, seen_file, unless_refused, if_file}
use Rattle.op_law.specs.Rows.{plain_plan, refuses, answers, live_in}
use Rattle.op_law.specs.Quotas.{owner_write, row_discharged}
use Rattle.op_law.specs.Sizes.{size_shown, cut_clusters, cut_numbers, headers_cut, cutting_writes, cut_to, keep_clusters, trunc_in, trunc_events}
use Rattle.op_law.specs.Writing.{empty_handed, plan_of, clusters_for}
use Rattle.op_law.proofs.Doing.{IsDone, refusal_done}
use Rattle.op_law.proofs.Levels.{AreUpTo, none_held, up_to_more, new_above, behind_above}
use Rattle.op_law.proofs.Links.{chain_obeys, chain_up_to}
use Rattle.op_law.proofs.Ordering.{file_level}
use Rattle.op_law.proofs.Spaceless.{spaceless_lawful}
use Rattle.op_law.proofs.Telling.{live_is, not_live}
use Rattle.op_law.proofs.Through.{file_told, header_obeys, quota_obeys, all_obeys, last_held}
use Rattle.op_law.proofs.Walking.{ObeysBy}
use Rattle.op_steps.proofs.Chaining.{live_at}
use Rattle.op_steps.specs.Files.{file_in}
use Rattle.op_steps.specs.BitmapWrites.{index_seen, storage_seen}
use Rattle.op_steps.proofs.Filters.{mapped}
use Rattle.op_steps.proofs.Named.{guarded, for_part}
use Rattle.op_extend.specs.Kinds.{IsTrunc}
use Rattle.op_extend.proofs.Growing.{IsLive, reads_live, kept_out}
use Rattle.op_extend.proofs.Locks.{head_locks, quota_locks, bitmap_locks, quota_held}
use Rattle.op_extend.proofs.TruncSteps.{cut_done}
use Rattle.op_extend.proofs.TruncReplies.{refuses_none, refuses_kept, stays_answer}
use Rattle.op_extend.proofs.TruncWalks.{trunc_no_search, trunc_shaped, trunc_end}
use Rattle.op_extend.proofs.TruncBrief.{trunc_brief}

-- ---- a cut to all clusters

-- what shows of blocks are not more than they are
few_written : (n : ℕ) (h : Hdr) (body : List Block) → length (file_of 1 n h body).written ≤ length body
few_written n h body = by_flat (h.dir || is_structure n) where
  by_mark : (t : Bool) → length (cond t body (take (h.mark - 1) body)) ≤ length body
  by_mark true = omega arith
  by_mark false = let e = length-take (h.mark - 1) body in omega arith

  by_flat : (t : Bool) → length (cond t [] (cond (h.mark == 0) body (take (h.mark - 1) body))) ≤ length body
  by_flat true = omega arith
  by_flat false = by_mark (h.mark == 0)

take_whole : {A : Type 0} (k : ℕ) (xs : List A) → length xs ≤ k → take k xs ≡ xs
take_whole k [] le = by_count k where
  by_count : {A : Type 0} (k : ℕ) → ◌≡◌ {A = List A} (take k []) []
  by_count zero = refl
  by_count (suc k) = refl
take_whole zero (x ∷ xs) le = absurd (omega arith)
take_whole (suc k) (x ∷ xs) le = ap (λ ys. x ∷ ys) (take_whole k xs (omega arith))

-- a mark and an end that are at most one block behind the blocks stay
same_cut : (c : Cat) (f : File) → f.mark ≤ c.factor * f.clusters + 1 → f.end ≤ c.factor * f.clusters + 1 → length f.written ≤ c.factor * f.clusters → cut c f f.clusters ≡ f
same_cut c f mark end written =
    let m : min f.mark (c.factor * f.clusters + 1) ≡ f.mark = omega arith in
    let e : min f.end (c.factor * f.clusters + 1) ≡ f.end = omega arith in
    let t : nat_lt (c.factor * f.clusters + 1) f.end ≡ false = grind (arith, nat_tests) in
    let w : take (c.factor * f.clusters) f.written ≡ f.written = take_whole (c.factor * f.clusters) f.written written in
    rw (m, e, t, w) refl

module _ (g : Geometry) (bs : List Block) (own : Owners) (c : Cat) (s : Spells g bs own c) (n : ℕ) (h : Hdr) (is : IsFileNumber g n) (reads : head_told (header_block g bs n) ≡ Ok (head.Used h)) (f : File) (at : file_at c n ≡ Some f) where
  all_kept : cut c f f.clusters ≡ f
  all_kept =
      let e : f ≡ file_of g.cluster n h (shown g bs own c n h s is reads) = file_is g bs own c n h s is reads f at in
      let size : h.blocks ≡ g.cluster * (h.blocks / g.cluster) = sized g bs own c n h s is reads ∙ ap (λ z. g.cluster * z) (sym (counted g bs own c n h s is reads)) in
      let limit : c.factor * (h.blocks / g.cluster) ≡ h.blocks = ap (λ w. w * (h.blocks / g.cluster)) s.constants.factor ∙ sym size in
      let m = mark_within g bs own c n h s is reads in
      let d = end_within g bs own c n h s is reads in
      let few = few_written n h (shown g bs own c n h s is reads) in
      let len : length (shown g bs own c n h s is reads) ≡ h.blocks = length-shown g bs own c n h s is reads ∙ sym (sized g bs own c n h s is reads) in
      subst (λ (y : File). cut c y y.clusters ≡ y) (sym e)
      (same_cut c (file_of g.cluster n h (shown g bs own c n h s is reads)) (omega arith) (omega arith) (omega arith))

-- ---- the walk

-- the block of the index-file bitmap is no matter where no number becomes free
index_any : (g : Geometry) (f : SeenFile) (k : ℕ) (quota storage : List Block) (a b : Block) → cut_numbers g f k ≡ []
    → cutting_writes g f k (record { quota = quota; index = a; storage = storage }) ≡ cutting_writes g f k (record { quota = quota; index = b; storage = storage })
unfolding cutting_writes
index_any g f k quota storage a b none =
    let qs = cut_clusters g f k in
    let row = owner_write g quota f.file.owner (row_discharged (g.cluster * (f.file.clusters - k))) stage.Done empty_handed in
    let same : freeing_tail g stage.Shortened qs (cut_numbers g f k) storage a ≡ freeing_tail g stage.Shortened qs (cut_numbers g f k) storage b =
    ap (λ ns. freeing_tail g stage.Shortened qs ns storage a) none ∙ ap (λ ns. freeing_tail g stage.Shortened qs ns storage b) (sym none) in
    ap (λ (ws : List PlanWrite). headers_cut g f k ++ (ws ++ row)) same

module _ (file : Fid) (blocks : ℕ) (node : ℕ) (seen : Seen) (bs : List Block) (own : Owners) (c : Cat) (stock : Things) (s : Spells seen.geometry bs own c)
    (given : things seen.clusters seen.number ≡ nothing) (outs : Outs node own nothing stock) where
  abbrev g : Geometry
  g = seen.geometry

  abbrev x : Cmd
  x = cmd.Trunc file blocks

  abbrev n : ℕ
  n = file.num

  abbrev k : ℕ
  k = clusters_for seen.geometry blocks

  abbrev Done : List (LockName × Mode) → Plan → Type 0
  Done held p = IsDone (cmd.Trunc file blocks) node seen bs own c stock held p

  abbrev O : Events → List (LockName × Mode) → Type 0
  O es held = ObeysBy (cmd.Trunc file blocks) seen.geometry bs own c seen Done es held

  before : Outs node own (things seen.clusters seen.number) stock
  before = subst (λ t. Outs node own t stock) (sym given) outs

  refused_so : (r : Refusal) → Answer c node (cmd.Trunc file blocks) (reply.Refused r) c → (held : List (LockName × Mode)) → Done held (plain_plan (reply.Refused r))
  refused_so r answer held = refusal_done x node seen bs own c stock s before r answer held

  -- an answer that writes nothing
  unchanged : (r : Reply) → Answer c node (cmd.Trunc file blocks) r c → (held : List (LockName × Mode)) → Done held (plain_plan r)
  unchanged r answer held = record {
    named = λ w t. absurd t;
    dirs = λ w t. absurd t;
    slots = λ w t. absurd t;
    kept_out = λ w t. absurd t;
    steps = (c, stands_first c node (Some x), s, before, c.opens, answer);
  }

  -- a look at a block of a bitmap
  part_look : (held : List (LockName × Mode)) → Has (held_in PR held) V → (p : Part) → IsPart g p → guard_of g own (place_of g p) ≡ Some (Lock V) → IsLockedLook g bs own c held V (place_of g p)
  part_look held has p is guard = record {
    kind = Fixed p (part_there g bs own c s p is);
    guard = guard;
    held = has;
    within = on_volume g bs own c s (place_of g p) (InFile (file_of_part p)) (part_owned g bs own c s p is);
  }

  -- at that of the index-file bitmap, if there is a number
  index_obeys : (held : List (LockName × Mode)) → Has (held_in PR held) V → (ns : List ℕ) (next : Block → Events) → O (next (index_seen seen.geometry bs)) held → (ns ≡ [] → O (next []) held) → O (look_index seen.geometry ns next) held
  index_obeys held has [] next o none = none refl
  index_obeys held has (m ∷ ns) next o none =
      let by = guarded g bs own c s in
      (part_look held has IndexBitmap tt by.index, λ b at. subst (λ y. O (next y) held) (get_or_from_slice_get bs (place_of g IndexBitmap) b [] at) o)

  module _ (h : Hdr) (lives : IsLive seen.geometry bs c file h) (free : is_kept file.num (file_told bs seen.geometry file h) ≡ false) where
    abbrev f : File
    f = file_told bs seen.geometry file h

    abbrev sf : SeenFile
    sf = file_in seen.geometry bs file.num h

    reads : head_told (header_block seen.geometry bs file.num) ≡ Ok (head.Used h)
    reads = reads_live g bs c file h lives

    used : fields_told (header_block seen.geometry bs file.num) ≡ Some h
    used = reads_fields (header_block g bs n) h reads

    above : 11 < file.num
    above = (kept_out n h.dir free).0

    at_file : file_at c n ≡ Some f
    at_file = live_at c file f lives.live

    -- the locks that are held come before Q and V
    low : AreUpTo seen.geometry bs own 0 ((S file.num, PW) ∷ [])
    low = let first = file_level g bs own c s n h lives.number reads in up_to_more g bs own 0 0 [] (S n) PW (none_held g bs own 0) (omega arith) (omega arith)

    up : AreUpTo seen.geometry bs own 15 (head_locks seen.geometry bs file.num)
    up = chain_up_to g bs own c s n h lives.number used PW ((S n, PW) ∷ []) low

    up_q : AreUpTo seen.geometry bs own 16 (quota_locks seen.geometry bs file.num)
    up_q = up_to_more g bs own 15 16 (head_locks g bs n) Q PW up (omega arith) (omega arith)

    -- its locks and looks where clusters go
    module _ (goes : nat_lt (clusters_for seen.geometry blocks) (file_told bs seen.geometry file h).clusters ≡ true) where
      abbrev qs : List ℕ
      qs = cut_clusters seen.geometry (file_in seen.geometry bs file.num h) (clusters_for seen.geometry blocks)

      abbrev ns : List ℕ
      ns = cut_numbers seen.geometry (file_in seen.geometry bs file.num h) (clusters_for seen.geometry blocks)

      abbrev quota : List Block
      quota = blocks_at bs (quota_places seen.geometry)

      abbrev with_space : Block → List Block → Events
      with_space index storage = Make (plan_of (cutting_writes g sf k (record { quota = quota; index = index; storage = storage })) (size_shown g k))

      abbrev storage : List Block
      storage = storage_seen seen.geometry bs qs

      done : Done (bitmap_locks g bs n) (plan_of (cutting_writes g sf k (record { quota = quota; index = index_seen g bs; storage = storage })) (size_shown g k))
      done = cut_done file blocks node seen bs own c s stock outs h lives free goes

      storage_obeys : (index : Block) → Done (bitmap_locks g bs n) (plan_of (cutting_writes g sf k (record { quota = quota; index = index; storage = storage })) (size_shown g k))
          → O (look_storage g (blocks_for g qs) (with_space index)) (bitmap_locks g bs n)
      storage_obeys index is =
          let by = guarded g bs own c s in
          let ks = blocks_for g qs in
          let has = last_held (quota_locks g bs n) V PW (inr (inl refl)) in
          all_obeys x g bs own c s seen Done V (bitmap_locks g bs n) (map (λ k. place_of g (Storage k)) ks) _
          (λ l t. let m = mapped (λ k. place_of g (Storage k)) ks l t in
          subst (λ y. IsLockedLook g bs own c (bitmap_locks g bs n) V y) m.2 (part_look (bitmap_locks g bs n) has (Storage m.0) (for_part g qs m.0 m.1) (ap (guard_of g own) m.2 ∙ by.storage qs l t)))
          is

      cut_obeys : O (cut_to seen.geometry (file_in seen.geometry bs file.num h) (clusters_for seen.geometry blocks)) (head_locks seen.geometry bs file.num)
      cut_obeys =
          let has = last_held (quota_locks g bs n) V PW (inr (inl refl)) in
          let none : ns ≡ [] → Done (bitmap_locks g bs n) (plan_of (cutting_writes g sf k (record { quota = quota; index = []; storage = storage })) (size_shown g k)) =
          (λ e. subst (λ (ws : List PlanWrite). Done (bitmap_locks g bs n) (plan_of ws (size_shown g k))) (index_any g sf k quota storage (index_seen g bs) [] e) done) in
          quota_obeys x g bs own c s seen Done (head_locks g bs n) PW (inr (inl refl)) _ (new_above g bs own 15 (head_locks g bs n) Q up (omega arith)) (behind_above g bs own c 15 (head_locks g bs n) Q up (omega arith)) (
            record {
              new = new_above g bs own 16 (quota_locks g bs n) V up_q (omega arith);
              in_mode = inr (inl refl);
              own = refl;
              turn = quota_held g bs n;
              after = behind_above g bs own c 16 (quota_locks g bs n) V up_q (omega arith);
            },
            index_obeys (bitmap_locks g bs n) has ns (λ index. look_storage g (blocks_for g qs) (with_space index)) (storage_obeys (index_seen g bs) done) (λ e. storage_obeys [] (none e)),
          )

    by_less : (t : Bool) → nat_lt (clusters_for seen.geometry blocks) (file_told bs seen.geometry file h).clusters ≡ t
        → O (cond t (cut_to seen.geometry (file_in seen.geometry bs file.num h) (clusters_for seen.geometry blocks)) (answers (size_shown seen.geometry (file_told bs seen.geometry file h).clusters))) (head_locks seen.geometry bs file.num)
    by_less true goes = cut_obeys goes
    by_less false stays =
        unchanged (size_shown g f.clusters)
        (stays_answer g c s.constants.factor node file blocks f lives.live free stays at_file (all_kept g bs own c s n h lives.number reads f at_file)) (head_locks g bs n)

    behind_header : O (through_chain seen.geometry PW (seen_file seen.geometry file.num (header_block seen.geometry bs file.num) h) (keep_clusters seen.geometry (clusters_for seen.geometry blocks))) ((S file.num, PW) ∷ [])
    behind_header =
        chain_obeys x g bs own c s seen Done n h lives.number used PW (inr (inl refl)) ((S n, PW) ∷ []) low (keep_clusters g k) above
        (by_less (nat_lt k f.clusters) refl)

  abbrev in_file : Hdr → Bool → Events
  in_file h t = unless_refused (cond t (Some refusal.NoPriv) None) (through_chain g PW (seen_file g n (header_block g bs n) h) (keep_clusters g k))

  by_kept : (h : Hdr) → IsLive seen.geometry bs c file h → (t : Bool) → is_kept n (file_told bs g file h) ≡ t → O (in_file h t) ((S file.num, PW) ∷ [])
  by_kept h lives true kept = refused_so refusal.NoPriv (refuses_kept g c s.constants.factor node file blocks (file_told bs g file h) lives.live kept) ((S n, PW) ∷ [])
  by_kept h lives false free = behind_header h lives free

  lives_so : IsFileNumber seen.geometry file.num → (o : Option Hdr) → live_in file.seq (header_block seen.geometry bs file.num) ≡ o → live c file ≡ option_map (file_told bs seen.geometry file) o
  lives_so is o e = live_is g bs own c s file is ∙ ap (option_map (file_told bs g file)) e

  none : live c file ≡ None → (held : List (LockName × Mode)) → Done held (plain_plan (reply.Refused refusal.NoSuchFile))
  none e = refused_so refusal.NoSuchFile (refuses_none g c s.constants.factor node file blocks e)

  by_live : IsFileNumber seen.geometry file.num → (o : Option Hdr) → live_in file.seq (header_block seen.geometry bs file.num) ≡ o
      → O (if_file (refuses refusal.NoSuchFile) (trunc_in seen.geometry (clusters_for seen.geometry blocks)) (option_map (seen_file seen.geometry file.num (header_block seen.geometry bs file.num)) o)) ((S file.num, PW) ∷ [])
  by_live is None e = none (lives_so is None e) ((S n, PW) ∷ [])
  by_live is (Some h) e = by_kept h (record { number = is; header = e; live = lives_so is (Some h) e }) (is_kept n (file_told bs g file h)) refl

  -- on these blocks the command needs what it may, and its plan is done
  trunc_obeys : O (events_of seen.geometry seen.channel (cmd.Trunc file blocks)) []
  unfolding events_of trunc_events
  trunc_obeys = header_obeys x g bs own c s seen Done file [] (λ t. t) (inl (λ t. t)) (λ other t. absurd t) PW (inr (inl refl))
      (λ b. if_file (refuses refusal.NoSuchFile) (trunc_in g k) (option_map (seen_file g n b) (live_in file.seq b)))
      (λ e. none (not_live g bs own c s file e) []) (λ is. by_live is (live_in file.seq (header_block g bs n)) refl)

-- TRUNC is lawful
pub trunc_lawful : (x : Cmd) → IsTrunc x → Lawful x
trunc_lawful (cmd.Trunc file blocks) is = spaceless_lawful (cmd.Trunc file blocks) (record {
  searches = trunc_no_search file blocks;
  shaped = trunc_shaped file blocks;
  ends = trunc_end file blocks;
  obeys = λ node seen bs own c stock s given outs known. trunc_obeys file blocks node seen bs own c stock s given outs;
  brief = trunc_brief file blocks;
})
trunc_lawful other is = absurd is
