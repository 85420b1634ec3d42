-- The writes of TRUNC as they are done on the blocks of a volume.
use Rattle.std.proofs.Common.{◌≡◌, ◌≤◌, ◌<◌, ◌-◌, ◌+◌, ◌*◌, ◌∙◌, ◌++◌, inl, inr, ℕ, true, false, List, [], Some, map, length, drop, refl, sym, ap, subst, arith, length-drop, append-nil}
use Rattle.std.specs.Prelude.{nat_lt, Ok}
use Rattle.std.proofs.lemmas.Bool.Decides.{nat_tests}
use Rattle.std.proofs.lemmas.List.{length-map, drop-map}
use Rattle.base_words.specs.Fields.{Block}
use Rattle.base_words.specs.Lists.{Has}
use Rattle.base_words.proofs.Listing.{has_map}
use Rattle.fx_header.specs.declared.slot.Hdr.{Hdr}
use Rattle.fx_header.specs.declared.slot.Slot.TheVariants as head
use Rattle.lock_db.specs.declared.name.LockName.{LockName}
use Rattle.lock_db.specs.declared.name.LockName.TheVariants.{S, Q, V}
use Rattle.plain_cat.specs.declared.ids.Fid.{Fid}
use Rattle.plain_cat.specs.declared.mode.Mode.{Mode}
use Rattle.plain_cat.specs.declared.mode.Mode.TheVariants.{PW}
use Rattle.plain_cat.specs.declared.command.Cmd.{Cmd}
use Rattle.plain_cat.specs.declared.command.Cmd.TheVariants as cmd
use Rattle.plain_cat.specs.declared.history.Stage.{Stage}
use Rattle.plain_cat.specs.declared.history.Stage.TheVariants as stage
use Rattle.plain_cat.specs.declared.cat.Cat.{Cat}
use Rattle.plain_cat.specs.declared.cat.File.{File}
use Rattle.plain_rules.specs.Lookups.{extra}
use Rattle.plain_rules.specs.Changes.{discharged}
use Rattle.plain_rules.specs.Answers.{is_kept}
use Rattle.vol_spell.specs.Owners.{Owners, Things, nothing, Outs}
use Rattle.vol_spell.specs.Spread.{blocks_at}
use Rattle.vol_spell.proofs.Placing.{length-blocks_at}
use Rattle.vol_parts.specs.declared.geometry.Geometry.{Geometry}
use Rattle.vol_parts.specs.declared.geometry.Part.TheVariants.{Storage}
use Rattle.vol_spell.specs.Reading.{header_block, quota_places, head_told}
use Rattle.vol_spell.specs.Places.{place_of}
use Rattle.vol_spell.specs.Spelling.{IsBlank, Spells}
use Rattle.vol_spell.specs.Files.{IsFileThere}
use Rattle.vol_under.specs.Chains.{End, Replied}
use Rattle.vol_under.specs.Refilling.{HaveBlankSlots}
use Rattle.vol_under.specs.UnderWay.{StandsAt, stage_after, outs_after}
use Rattle.op_law.specs.declared.need.PlanWrite.{PlanWrite}
use Rattle.op_law.specs.declared.seen.Seen.{Seen}
use Rattle.op_law.specs.Fits.{things}
use Rattle.op_law.specs.Freeing.{SeenSpace, blocks_for}
use Rattle.op_law.specs.Headers.{slot_at, slots_seen, numbers_of}
use Rattle.op_law.specs.Knows.{knows}
use Rattle.op_law.specs.Laws.{held_in, planned, under_way, AreNamed, most_outside, LeaveFew, LeavesDirs, LeavesSlots}
use Rattle.op_law.specs.Refusing.{SeenFile}
use Rattle.op_law.specs.Sizes.{size_shown, cut_clusters, cut_numbers, headers_cut, cutting_writes}
use Rattle.op_law.specs.Writing.{empty_handed, clusters_for}
use Rattle.op_law.proofs.Doing.{AreDone}
use Rattle.op_law.proofs.Naming.{both_named, both_leave, no_header_leaves, both_fill, no_header_fills}
use Rattle.op_law.proofs.Through.{file_told}
use Rattle.op_law.proofs.RemovalEnds.{both_few}
use Rattle.op_steps.specs.Chained.{Chain, StepsOf, after_writes, StandsOn}
use Rattle.op_steps.specs.Files.{file_in}
use Rattle.op_steps.specs.GoneWrites.{cut_things}
use Rattle.op_steps.specs.SlotWrites.{AreHeadsWritten, AreFreed}
use Rattle.op_steps.proofs.Chaining.{live_at}
use Rattle.op_steps.specs.BitmapWrites.{brought, index_seen, storage_seen}
use Rattle.op_steps.specs.Standing.{AreUnder, AreBeside}
use Rattle.op_steps.specs.TailWrites.{tail_writes}
use Rattle.op_steps.proofs.Endings.{held_keeps_out, stage_both}
use Rattle.op_steps.proofs.Filters.{mapped}
use Rattle.op_steps.proofs.HeaderSlots.{numbers_there, numbers_few, no_q, no_v}
use Rattle.op_steps.proofs.Tails.{tail_steps, tail_stands, tail_guards, tail_no_header, tail_stage, tail_leaves_few}
use Rattle.op_steps.proofs.Turns.{brought_is}
use Rattle.op_steps.proofs.CutSteps.{cut_steps}
use Rattle.op_steps.proofs.HeaderWrites.{cut_guards, cut_leaves, cut_fills, cut_leaves_few, cut_ends}
use Rattle.op_extend.proofs.Growing.{IsLive, reads_live, kept_out}
use Rattle.op_extend.proofs.Locks.{bitmap_locks, bitmaps_held, quota_in_bitmaps, file_in_bitmaps}
use Rattle.op_extend.proofs.Rooms.{has_dropped}
use Rattle.op_extend.proofs.TruncEnds.{cutting_outs}
use Rattle.op_extend.proofs.TruncReplies.{cut_for, cut_after, cuts_answer, stands_shortened, stands_cut}

-- the numbers of the headers that go are among those of the file
gone_numbers : (g : Geometry) (f : SeenFile) (k m : ℕ) → Has (cut_numbers g f k) m → Has (numbers_of g f) m
gone_numbers g f k m t = inr (has_dropped (extra k) (slots_seen g f.rest) m (subst (λ (ns : List ℕ). Has ns m) (sym (drop-map (λ (x : ℕ × Block). slot_at g x.0) (extra k) f.rest)) t))

gone_few : (g : Geometry) (bs : List Block) (n : ℕ) (h : Hdr) (k : ℕ) → length (cut_numbers g (file_in g bs n h) k) ≤ most_outside
gone_few g bs n h k =
    let rest = (file_in g bs n h).rest in
    let all = numbers_few g bs n h in
    let many : length (slots_seen g rest) ≡ length rest = length-map rest _ in
    let left : length (slots_seen g (drop (extra k) rest)) ≡ length (drop (extra k) rest) = length-map (drop (extra k) rest) _ in
    omega (arith, length-drop (extra k) rest)

module _ (file : Fid) (blocks : ℕ) (node : ℕ) (seen : Seen) (bs : List Block) (own : Owners) (c : Cat) (s : Spells seen.geometry bs own c) (stock : Things) (outs : Outs node own nothing stock)
    (h : Hdr) (lives : IsLive seen.geometry bs c file h) (free : is_kept file.num (file_told bs seen.geometry file h) ≡ false) (goes : nat_lt (clusters_for seen.geometry blocks) (file_told bs seen.geometry file h).clusters ≡ true) where
  abbrev g : Geometry
  g = seen.geometry

  abbrev x : Cmd
  x = cmd.Trunc file blocks

  abbrev n : ℕ
  n = file.num

  abbrev j : ℕ
  j = clusters_for seen.geometry blocks

  abbrev f : File
  f = file_told bs seen.geometry file h

  abbrev sf : SeenFile
  sf = file_in seen.geometry bs file.num h

  abbrev qs : List ℕ
  qs = cut_clusters seen.geometry (file_in seen.geometry bs file.num h) (clusters_for seen.geometry blocks)

  abbrev ns : List ℕ
  ns = cut_numbers seen.geometry (file_in seen.geometry bs file.num h) (clusters_for seen.geometry blocks)

  abbrev fewer : ℕ
  fewer = seen.geometry.cluster * ((file_told bs seen.geometry file h).clusters - clusters_for seen.geometry blocks)

  -- the headers, and the others
  abbrev heads : List PlanWrite
  heads = headers_cut seen.geometry (file_in seen.geometry bs file.num h) (clusters_for seen.geometry blocks)

  abbrev tail_on : List Block → List PlanWrite
  tail_on b = tail_writes g stage.Shortened qs ns f.owner fewer stage.Done b

  abbrev all : List PlanWrite
  all = heads ++ tail_on bs

  -- the locks that the plan has
  abbrev pub held : List (LockName × Mode)
  held = bitmap_locks seen.geometry bs file.num

  abbrev names : List LockName
  names = held_in PW (bitmap_locks seen.geometry bs file.num)

  in_file : (m : ℕ) → Has (numbers_of seen.geometry (file_in seen.geometry bs file.num h)) m → Has names (S m)
  in_file m t = file_in_bitmaps g bs n h m t

  in_q : Has names Q
  in_q = quota_in_bitmaps g bs n

  in_v : Has names V
  in_v = bitmaps_held g bs n

  reads : head_told (header_block g bs n) ≡ Ok (head.Used h)
  reads = reads_live g bs c file h lives

  apart : (11 < n) × (h.dir ≡ false)
  apart = kept_out n h.dir free

  there : IsFileThere g c bs n h f
  there = record { number = lives.number; above = apart.0; reads = reads; file = live_at c file f lives.live }

  -- ---- what guards them, and what they leave

  heads_named : AreNamed node names g own heads
  heads_named = cut_guards g n h f j c bs own node names s there in_file

  all_named : AreNamed node names g own all
  all_named = both_named node names g own heads (tail_on bs) heads_named (tail_guards g stage.Shortened qs ns f.owner fewer stage.Done bs bs own c node names s in_v in_q)

  all_leave : LeavesDirs g bs all
  all_leave =
      both_leave g bs heads (tail_on bs) (cut_leaves g n h f j c bs own s there apart.1)
      (no_header_leaves g bs (tail_on bs) (tail_no_header g stage.Shortened qs ns f.owner fewer stage.Done bs bs own c s))

  all_fill : (took : Things) → LeavesSlots g own took all
  all_fill took =
      both_fill g own took heads (tail_on bs) (cut_fills g n h f j c bs own took s there)
      (no_header_fills g own took (tail_on bs) (tail_no_header g stage.Shortened qs ns f.owner fewer stage.Done bs bs own c s))

  all_few : LeaveFew all
  all_few = both_few heads (tail_on bs) (cut_leaves_few g n h f j c bs own s there) (tail_leaves_few g stage.Shortened qs ns f.owner fewer stage.Done bs (gone_few g bs n h j))

  -- ---- what the last ones go by stands

  -- the writes of the headers are under the locks of the file's numbers
  heads_under : AreUnder (map S (numbers_of g sf)) heads
  heads_under w t = (cut_guards g n h f j c bs own node (map S (numbers_of g sf)) s there (λ m u. has_map S (numbers_of g sf) m u) w t).held

  beside : (lock : LockName) → (Has (map S (numbers_of g sf)) lock → ⊥) → AreBeside node names g own heads lock
  beside lock other = record { named = heads_named; names = map S (numbers_of g sf); under = heads_under; beside = other }

  abbrev second : List Block
  second = after_writes heads bs

  tail_is : tail_on second ≡ tail_on bs
  tail_is = tail_stands node names g stage.Shortened qs ns f.owner fewer stage.Done heads bs own c s (beside V (no_v (numbers_of g sf))) (beside Q (no_q (numbers_of g sf)))

  -- ---- the steps

  abbrev k : Chain
  k = record { geometry = g; node = node; cmd = Some (cmd.Trunc file blocks); locks = names; cat = c; stock = stock }

  abbrev short_cat : Cat
  short_cat = cut_for c n f j

  abbrev last_cat : Cat
  last_cat = cut_after g c n f j

  short_stage : StandsAt c node (Some (cmd.Trunc file blocks)) stage.Shortened short_cat
  short_stage = stands_shortened g c s.constants.factor node file blocks f lives.live free goes

  last_stage : StandsAt c node (Some (cmd.Trunc file blocks)) stage.Done (discharged short_cat f.owner fewer)
  last_stage = stands_cut g c s.constants.factor node file blocks f lives.live free goes

  abbrev end : End
  end = Replied g node (under_way x seen all (knows node x seen)) x (size_shown g j) c stock

  -- what was looked at before
  abbrev pub space : SeenSpace
  space = record { quota = blocks_at bs (quota_places seen.geometry); index = index_seen seen.geometry bs; storage = storage_seen seen.geometry bs qs }

  ends : outs_after (things seen.clusters seen.number) (map planned (cutting_writes g sf j space)) ≡ nothing
  ends =
      let places : List ℕ = map (λ b. place_of g (Storage b)) (blocks_for g qs) in
      cutting_outs g sf j space (length-blocks_at bs places ∙ length-map (blocks_for g qs) (λ b. place_of g (Storage b))) (things seen.clusters seen.number)

  module _ (new : Owners) (written : AreHeadsWritten k (numbers_of g sf) (cut_things g sf j) short_cat bs second new) (freed : AreFreed g second ns) where
    outs_then : Outs node new (brought qs ns) stock
    outs_then = subst (λ (t : Things). Outs node new t stock) (brought_is qs ns) written.outs

    blank_then : HaveBlankSlots g second (brought qs ns).numbers
    blank_then i t =
        let m = mapped (λ a. a - 1) ns i t in
        let e : m.0 - 1 ≡ i = m.2 in
        let from = (numbers_there g bs own c s n h lives.number m.0 (gone_numbers g sf j m.0 m.1)).from in
        let place : m.0 ≡ i + 1 = omega arith in
        subst (λ (a : ℕ). IsBlank (header_block g second a)) place (freed m.0 m.1)

    stage_so : StandsAt c node (Some (cmd.Trunc file blocks)) (stage_after stage.Nothing (map planned all)) last_cat
    stage_so =
        subst (λ (t : Stage). StandsAt c node (Some (cmd.Trunc file blocks)) t last_cat)
        (sym (stage_both heads (tail_on bs) stage.Nothing ∙ ap (λ (t : Stage). stage_after t (map planned (tail_on bs))) (cut_ends g sf j stage.Nothing)))
        (subst (λ (ws : List PlanWrite). StandsAt c node (Some (cmd.Trunc file blocks)) (stage_after stage.Shortened (map planned ws)) last_cat) tail_is
        (tail_stage k stage.Shortened qs ns f.owner fewer stage.Done short_cat second new written.spelt short_stage last_stage))

    last_end : (bs' : List Block) (new' : Owners) → StandsOn k empty_handed (discharged short_cat f.owner fewer) bs' new' → end bs' new'
    unfolding cutting_writes
    last_end bs' new' on = (
      last_cat,
      stage_so,
      on.spelt,
      subst (λ t. Outs node new' t stock) (sym ends) on.outs,
      c.opens,
      cuts_answer g c s.constants.factor node file blocks f lives.live free goes,
    )

    tail_chain : StepsOf end k (tail_on bs) second new
    tail_chain =
        subst (λ (ws : List PlanWrite). StepsOf end k ws second new) (append-nil (tail_on second) ∙ tail_is)
        (tail_steps end k stage.Shortened qs ns f.owner fewer stage.Done [] short_cat second new written.spelt outs_then blank_then short_stage last_stage (λ new' on stays. last_end _ new' on))

  all_steps : StepsOf end k all bs own
  all_steps =
      cut_steps end k n h f j (tail_on bs) c bs own (record { spelt = s; outs = outs }) there apart.1 (let lt : clusters_for g blocks < f.clusters = grind (arith, nat_tests) in omega arith) (in_file n (inl refl)) short_stage
      (λ new written freed. tail_chain new written freed)

  pub cut_done : AreDone x node seen bs own c stock held (cutting_writes g sf j space) (size_shown g j)
  unfolding cutting_writes
  cut_done = record {
    named = all_named;
    dirs = all_leave;
    slots = all_fill (things seen.clusters seen.number);
    kept_out = held_keeps_out (things seen.clusters seen.number) names all in_v all_few;
    steps = all_steps;
  }
