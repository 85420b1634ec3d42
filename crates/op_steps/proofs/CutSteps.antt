-- The headers of a file that loses clusters are steps.
use Rattle.std.proofs.Common.{◌≡◌, ◌≢◌, ◌∙◌, ◌≤◌, ◌++◌, ℕ, false, List, [], ◌∷◌, None, take, drop, length, slice_set, refl, sym, ap, subst, inl, inr, arith}
use Rattle.std.proofs.lemmas.List.{take-append-drop, take-map}
use Rattle.base_words.specs.Fields.{Block}
use Rattle.base_words.specs.Lists.{Has}
use Rattle.base_words.proofs.Listing.{has_first, has_second}
use Rattle.fx_header.specs.declared.run.Run.{Run}
use Rattle.fx_header.specs.declared.slot.Hdr.{Hdr}
use Rattle.fx_header.specs.Headers.{header_read, runs_in}
use Rattle.fx_header.specs.Pointers.{merged}
use Rattle.lock_db.specs.declared.name.LockName.TheVariants.{S}
use Rattle.plain_cat.specs.declared.cat.Cat.{Cat}
use Rattle.plain_cat.specs.declared.cat.File.{File}
use Rattle.plain_cat.specs.declared.cat.Slot.TheVariants as slot
use Rattle.plain_cat.specs.declared.history.Stage.TheVariants as stage
use Rattle.plain_rules.specs.Changes.{with_file, with_slot, cut}
use Rattle.plain_rules.specs.Lookups.{extra}
use Rattle.vol_parts.specs.declared.geometry.Geometry.{Geometry}
use Rattle.vol_parts.specs.Chains.{Headers}
use Rattle.vol_spell.specs.Owners.{Owners}
use Rattle.vol_spell.specs.Reading.{IsFileNumber, header_place, header_block, headers_at}
use Rattle.vol_spell.specs.Spelling.{Spells}
use Rattle.vol_spell.specs.Views.{IsSameFile}
use Rattle.vol_spell.proofs.Slots.{slot_same, file_there}
use Rattle.vol_under.specs.Chains.{End}
use Rattle.op_law.specs.declared.need.PlanWrite.{PlanWrite}
use Rattle.op_law.specs.Headers.{slot_at, numbers_of, last_header, kept_headers, gone_headers, cut_last, slots_freed}
use Rattle.op_law.specs.Refusing.{SeenFile}
use Rattle.op_law.specs.Sizes.{cut_first, cut_last_writes, cut_clusters, cut_numbers, headers_cut}
use Rattle.op_law.specs.Writing.{holding, empty_handed, with_numbers, header_write, runs_for}
use Rattle.op_steps.specs.Chained.{Chain, StepsOf, StageOf, StandsOn, after_writes}
use Rattle.op_steps.specs.GoneWrites.{cut_things, CutSteps}
use Rattle.op_steps.specs.SlotWrites.{AreHeadsWritten, AreFreed}
use Rattle.op_steps.proofs.ChainFiles.{heads, slot_whole, chain_file, chain_counted}
use Rattle.op_steps.proofs.CutFirst.{dir, first_for, reads_after, tail_within, relisted, sole, sole_is, sole_has, start, next, first, start_is, start_are, start_has, last_other}
use Rattle.op_steps.proofs.CutOwners.{left, kept_slot, gone_slot, apart, gone_once, gone_outside, numbers_are_gone, outs_then}
use Rattle.op_steps.proofs.CutParts.{IsCutHere, cut_here, drop-map}
use Rattle.op_steps.proofs.FileNow.{IsNow, now_has, seen_with, seen_now}
use Rattle.op_steps.proofs.GrownFacts.{used_is}
use Rattle.op_steps.proofs.HeaderBlocks.{IsHeaderOf, lists_last}
use Rattle.op_steps.proofs.HeadersFor.{chain_clusters, chain_numbers}
use Rattle.op_steps.proofs.HeadSteps.{IsPartWritten, part_steps}
use Rattle.op_steps.proofs.LastHeaders as last
use Rattle.op_steps.proofs.LeadMoves.{IsSameLink, lead_end, lead_behind, lead_slot}
use Rattle.op_steps.proofs.Leading.{IsLast}
use Rattle.op_steps.proofs.SlotSteps.{AreStill, spare_steps, same_then}
use Rattle.op_steps.proofs.WholeFiles.{placed, slots_placed, last_placed}

-- The headers in the slots ks stay behind the first one, and those in the slots gs go.
module _ (end : End) (k : Chain) (n : ℕ) (h : Hdr) (f : File) (kept : ℕ) (ws : List PlanWrite) (x : Cat) (bs : List Block) (own : Owners) (on : StandsOn k empty_handed x bs own) (flat : f.dir ≡ false) (is : List ℕ) (m : ℕ) (y : Hdr) (cs ds : List ℕ)
    (now : IsNow k.geometry own x n h f bs is m y cs ds) (le : kept ≤ length (cs ++ ds)) (gs : List ℕ) (gone_is : gone_headers (seen_with k.geometry bs n h is) kept ≡ placed k.geometry bs gs) (lock : Has k.locks (S n))
    (leaves : StageOf k stage.Shortened (with_file x n (cut x f kept))) where
  abbrev g : Geometry
  g = k.geometry

  abbrev s : SeenFile
  s = seen_with k.geometry bs n h is

  abbrev x1 : Cat
  x1 = with_file x n (cut x f kept)

  abbrev qs : List ℕ
  qs = cut_clusters k.geometry s kept

  abbrev ns : List ℕ
  ns = cut_numbers k.geometry s kept

  abbrev freed_slots : List PlanWrite
  freed_slots = slots_freed k.geometry stage.Shortened qs ns (placed k.geometry bs gs)

  -- what follows behind all of them
  abbrev Ends : Owners → List Block → Type 0
  Ends new after = AreHeadsWritten k (numbers_of k.geometry s) (cut_things k.geometry s kept) x1 bs after new → AreFreed k.geometry after ns → StepsOf end k ws after new

  -- the slots that go, on blocks where the others are written
  module _ (ks : List ℕ) (split : ks ++ gs ≡ is) where
    abbrev new : Owners
    new = left k n h f kept x bs own on is m y cs ds now ks gs split

    numbers : numbers_of k.geometry s ≡ n ∷ is
    numbers = ap (λ is'. n ∷ is') (slots_placed g bs is)

    gone_in : (j : ℕ) → Has gs j → Has (n ∷ is) j
    gone_in j t = inr (subst (λ is'. Has is' j) split (has_second ks gs j t))

    free_rest : (bs' : List Block) → Spells k.geometry bs' new x1 → ((i : ℕ) → Has gs i → header_block k.geometry bs' i ≡ header_block k.geometry bs i)
        → ((j : ℕ) → IsFileNumber k.geometry j → (Has (n ∷ is) j → ⊥) → IsSameFile k.geometry bs bs' j) → Ends new (after_writes freed_slots bs') → StepsOf end k (freed_slots ++ ws) bs' new
    free_rest bs' spelt same others rest =
        let outs = outs_then k n h f kept x bs own on is m y cs ds now ks gs split gone_is in
        let still : AreStill end k stage.Shortened qs ns bs ws x1 new outs leaves bs' gs = record {
          spelt = spelt;
          once = gone_once k n h f kept x bs own on is m y cs ds now ks gs split;
          number = λ i t. (gone_slot k n h f kept x bs own on is m y cs ds now ks gs split i t).0;
          outside = gone_outside k n h f kept x bs own on is m y cs ds now ks gs split;
          same = same;
        } in
        spare_steps end k stage.Shortened qs ns bs ws x1 new outs leaves gs bs' still
        (λ spared. rest (record {
          spelt = spared.spelt;
          outs = outs;
          others = λ j number none.
              let away : Has (n ∷ is) j → ⊥ = subst (λ is'. Has is' j → ⊥) numbers none in
              same_then g bs bs' _ j (others j number away) (spared.others j number (λ t. away (gone_in j t)));
        }) (λ i t. spared.blank i (subst (λ is'. Has is' i) (numbers_are_gone k n h f kept x bs own on is m y cs ds now ks gs split gone_is) t)))

  -- the whole, by the headers that stay
  abbrev writes_for : List (ℕ × Block) → List PlanWrite
  writes_for seen =
      with_numbers ns (header_write k.geometry n (cut_first k.geometry s kept seen) stage.Shortened (holding qs None)) ∷ (cut_last_writes k.geometry s kept qs ns seen ++ freed_slots)

  -- the first one is the last one that stays
  sole_steps : (split : [] ++ gs ≡ is) → IsCutHere k.geometry (headers_at k.geometry bs) n h [] (cs ++ ds) kept
      → ((next_owners : Owners) → Ends next_owners (after_writes (writes_for []) bs)) → StepsOf end k (writes_for [] ++ ws) bs own
  sole_steps split kept_here rest =
      let b = sole k n h f kept x bs own on flat is m y cs ds now le gs split kept_here in
      let to = new [] split in
      part_steps end k n n (slot.Used (cut x f kept)) (with_numbers ns (header_write g n b stage.Shortened (holding qs None))) (freed_slots ++ ws) x bs own to on.spelt lock refl
      (first_for k n h f kept x bs own on flat is m y cs ds now le [] gs split 0 0 b (merged (runs_for g kept_here.ds)) (sole_is k n h f kept x bs own on flat is m y cs ds now le gs split kept_here) (sole_has k n h f kept x bs own on flat is m y cs ds now le gs split kept_here))
      (outs_then k n h f kept x bs own on is m y cs ds now [] gs split gone_is) leaves
      (λ w.
      free_rest [] split (slice_set bs (header_place g n) b) w.spelt
      (λ i t. w.kept i (λ e. apart k n h f kept x bs own on is m y cs ds now [] gs split i (inl (sym e)) t))
      (λ j number none. w.others j number (λ e. none (inl (sym e))) (λ e. none (inl (sym e)))) (rest to))

  -- another one is
  module _ (i : ℕ) (ks : List ℕ) (split : (i ∷ ks) ++ gs ≡ is) (kept_here : IsCutHere k.geometry (headers_at k.geometry bs) n h (i ∷ ks) (cs ++ ds) kept) where
    abbrev seen : ℕ × Block
    seen = (header_place k.geometry i, header_block k.geometry bs i)

    abbrev others : List (ℕ × Block)
    others = placed k.geometry bs ks

    abbrev to : Owners
    to = new (i ∷ ks) split

    abbrev z : Hdr
    z = first k n h f kept x bs own on flat is m y cs ds now le i ks gs split kept_here seen others

    abbrev bs1 : List Block
    bs1 = next k n h f kept x bs own on flat is m y cs ds now le i ks gs split kept_here seen others

    abbrev b1 : Block
    b1 = start k n h f kept x bs own on flat is m y cs ds now le i ks gs split kept_here seen others

    b1_is : IsHeaderOf b1 z (runs_in (header_block k.geometry bs n))
    b1_is = start_is k n h f kept x bs own on flat is m y cs ds now le i ks gs split kept_here seen others

    low : 1 ≤ k.geometry.cluster
    low = on.spelt.counts.geometry.cluster_from

    has : Has (i ∷ ks) kept_here.m
    has = lead_behind g (headers_at g bs) n h i ks kept_here.m kept_here.x kept_here.cs kept_here.lead

    other : kept_here.m ≢ n
    other = last_other k n h f kept x bs own on flat is m y cs ds now le i ks gs split kept_here seen others

    -- the file behind the first write
    now1 : Spells k.geometry bs1 to x1 → IsNow k.geometry to x1 n z (cut x f kept) bs1 (i ∷ ks) kept_here.m kept_here.x kept_here.cs kept_here.ds
    now1 spelt =
        let whole = start_has k n h f kept x bs own on flat is m y cs ds now le i ks gs split kept_here seen others in
        let reads = reads_after k n h f kept x bs own on flat is m y cs ds now le (i ∷ ks) gs split h.ext h.ext_seq b1 (runs_in (header_block g bs n)) b1_is whole in
        record {
          spelt = spelt;
          there = record { number = now.there.number; above = now.there.above; reads = reads; file = file_there x n f (cut x f kept) now.there.number.from now.there.file };
          slots = chain_numbers g bs1 n z (n ∷ i ∷ ks) (take kept (cs ++ ds)) low reads whole;
          clusters = chain_clusters g bs1 n z (n ∷ i ∷ ks) (take kept (cs ++ ds)) low reads whole ∙ kept_here.parts;
          are = start_are k n h f kept x bs own on flat is m y cs ds now le i ks gs split kept_here seen others;
        }

    -- the last header that stays
    abbrev b2 : Block
    b2 = cut_last k.geometry s kept (header_block k.geometry bs kept_here.m)

    abbrev z2 : Hdr
    z2 = record kept_here.x { ext = 0; ext_seq = 0 }

    abbrev listed : List Run
    listed = merged (runs_for k.geometry kept_here.ds)

    m_number : IsFileNumber k.geometry kept_here.m
    m_number = (kept_slot k n h f kept x bs own on is m y cs ds now (i ∷ ks) gs split kept_here.m (inr has)).0

    b2_is : IsHeaderOf b2 z2 listed
    b2_is =
        let rs = runs_in (header_block g bs kept_here.m) in
        let ends = lead_end g (headers_at g bs) n h (i ∷ ks) kept_here.m kept_here.x kept_here.cs now.are.says kept_here.lead in
        relisted k n h f kept x bs own on flat is m y cs ds now le (i ∷ ks) gs split kept_here (header_block g bs kept_here.m) kept_here.x rs
        (record { whole = slot_whole g bs own x kept_here.m on.spelt m_number; reads = used_is (header_read (header_block g bs kept_here.m)) kept_here.x ends.says; runs = refl })

    link : IsSameLink kept_here.x z2
    link = record { num = refl; seq = refl; seg = refl }

    lists_ds : (hs : Headers) → hs.lists kept_here.m ≡ listed → IsLast k.geometry hs kept_here.m kept_here.ds
    lists_ds hs lists = lists_last g kept_here.ds on.spelt.counts.geometry (tail_within k n h f kept x bs own on flat is m y cs ds now le (i ∷ ks) gs split kept_here) hs kept_here.m lists

    abbrev bs2 : List Block
    bs2 = slice_set bs1 (header_place k.geometry kept_here.m) b2

    same_x : with_slot x1 n (slot.Used (cut x f kept)) ≡ x1
    same_x = slot_same x1 n (cut x f kept) (file_there x n f (cut x f kept) now.there.number.from now.there.file)

    abbrev second : ℕ × Block → PlanWrite
    second l = with_numbers ns (header_write k.geometry l.0 (cut_last k.geometry s kept l.1) stage.Shortened (holding qs None))

    then_last : (w : IsPartWritten k n n b1 (cut_things k.geometry s kept) x1 bs bs1 to) → Ends to (after_writes freed_slots bs2) → StepsOf end k (second (kept_here.m, header_block k.geometry bs kept_here.m) ∷ (freed_slots ++ ws)) bs1 to
    then_last w rest =
        let at = now1 w.spelt in
        let for = last.last_for g to x1 n z (cut x f kept) bs1 i ks kept_here.m kept_here.x kept_here.cs kept_here.ds at (dir k n h f kept x bs own on flat is m y cs ds now le (i ∷ ks) gs split) b2 z2 listed b2_is link lists_ds k.node in
        part_steps end k n kept_here.m (slot.Used (cut x f kept)) (second (kept_here.m, header_block g bs kept_here.m)) (freed_slots ++ ws) x1 bs1 to to w.spelt lock refl for w.outs (subst (StageOf k stage.Shortened) (sym same_x) leaves)
        (λ v.
        free_rest (i ∷ ks) split bs2 (subst (λ c. Spells g bs2 to c) same_x v.spelt)
        (λ j t.
        let none = apart k n h f kept x bs own on is m y cs ds now (i ∷ ks) gs split in
        v.kept j (λ e. none j (inr (subst (λ q. Has (i ∷ ks) q) (sym e) has)) t) ∙ w.kept j (λ e. none j (inl (sym e)) t))
        (λ j number none.
        let not_n : j ≢ n = λ e. none (inl (sym e)) in
        let not_m : j ≢ kept_here.m = λ e. none (inr (subst (λ is'. Has is' j) split (has_first (i ∷ ks) gs j (subst (λ q. Has (i ∷ ks) q) (sym e) has)))) in
        same_then g bs bs1 bs2 j (w.others j number not_n not_n) (v.others j number not_n not_m))
        rest)

    both_steps : ((next_owners : Owners) → Ends next_owners (after_writes (writes_for (placed k.geometry bs (i ∷ ks))) bs)) → StepsOf end k (writes_for (placed k.geometry bs (i ∷ ks)) ++ ws) bs own
    both_steps rest =
        let at : last_header g (slot_at g (header_place g i)) (header_block g bs i) (placed g bs ks) ≡ (kept_here.m, header_block g bs kept_here.m) =
        last_placed g bs i ks ∙ ap (λ j. (j, header_block g bs j)) (lead_slot g (headers_at g bs) n h (i ∷ ks) kept_here.m kept_here.x kept_here.cs kept_here.lead) in
        let P : ℕ × Block → Type 0 = λ l. ((next_owners : Owners) → Ends next_owners (after_writes (second l ∷ freed_slots) bs1)) → StepsOf end k (second l ∷ (freed_slots ++ ws)) bs1 to in
        part_steps end k n n (slot.Used (cut x f kept)) (with_numbers ns (header_write g n b1 stage.Shortened (holding qs None))) (cut_last_writes g s kept qs ns (placed g bs (i ∷ ks)) ++ (freed_slots ++ ws)) x bs own to on.spelt lock refl
        (first_for k n h f kept x bs own on flat is m y cs ds now le (i ∷ ks) gs split h.ext h.ext_seq b1 (runs_in (header_block g bs n)) b1_is (start_has k n h f kept x bs own on flat is m y cs ds now le i ks gs split kept_here seen others))
        (outs_then k n h f kept x bs own on is m y cs ds now (i ∷ ks) gs split gone_is) leaves
        (λ w. subst P (sym at) (λ go. then_last w (go to)) rest)

  all_steps : (ks : List ℕ) (split : ks ++ gs ≡ is) → IsCutHere k.geometry (headers_at k.geometry bs) n h ks (cs ++ ds) kept
      → ((next_owners : Owners) → Ends next_owners (after_writes (writes_for (placed k.geometry bs ks)) bs)) → StepsOf end k (writes_for (placed k.geometry bs ks) ++ ws) bs own
  all_steps [] split kept_here rest = sole_steps split kept_here rest
  all_steps (i ∷ ks) split kept_here rest = both_steps i ks split kept_here rest

-- what the whole of the writes leaves, for a file that is seen so
abbrev Goes : End → (k : Chain) (n : ℕ) (f : File) (kept : ℕ) (ws : List PlanWrite) (x : Cat) (bs : List Block) (own : Owners) → SeenFile → Type 0
Goes end k n f kept ws x bs own s =
    ((new : Owners) → AreHeadsWritten k (numbers_of k.geometry s) (cut_things k.geometry s kept) (with_file x n (cut x f kept)) bs (after_writes (headers_cut k.geometry s kept) bs) new
    → AreFreed k.geometry (after_writes (headers_cut k.geometry s kept) bs) (cut_numbers k.geometry s kept) → StepsOf end k ws (after_writes (headers_cut k.geometry s kept) bs) new)
    → StepsOf end k (headers_cut k.geometry s kept ++ ws) bs own

pub cut_steps : (end : End) → CutSteps end
unfolding headers_cut
cut_steps end k n h f kept ws x bs own on there flat le lock leaves rest =
    let g : Geometry = k.geometry in
    let now = now_has g own x n h f bs on.spelt there in
    let hs = heads g bs own x n h on.spelt there.number there.above there.reads in
    let count : f.clusters ≡ length (hs.cs ++ hs.ds) =
    ap (λ (z : File). z.clusters) (chain_file g bs own x n h on.spelt there.number there.above there.reads f there.file) ∙ chain_counted g bs own x n h on.spelt there.number there.above there.reads ∙ ap length hs.clusters in
    let fits : kept ≤ length (hs.cs ++ hs.ds) = omega arith in
    let ks : List ℕ = take (extra kept) hs.is in
    let gs : List ℕ = drop (extra kept) hs.is in
    let s : SeenFile = seen_with g bs n h hs.is in
    let kept_is : kept_headers s kept ≡ placed g bs ks = take-map (λ m. (header_place g m, header_block g bs m)) (extra kept) hs.is in
    let gone_is : gone_headers s kept ≡ placed g bs gs = drop-map (λ m. (header_place g m, header_block g bs m)) (extra kept) hs.is in
    let here : IsCutHere g (headers_at g bs) n h ks (hs.cs ++ hs.ds) kept = cut_here g on.spelt.counts.geometry.cluster_from (headers_at g bs) n h hs.is hs.m hs.x hs.cs hs.ds hs.are kept fits in
    let split : ks ++ gs ≡ hs.is = take-append-drop (extra kept) hs.is in
    let qs : List ℕ = cut_clusters g s kept in
    let ns : List ℕ = cut_numbers g s kept in
    let all_writes : List (ℕ × Block) → List (ℕ × Block) → List PlanWrite =
    λ stay go. with_numbers ns (header_write g n (cut_first g s kept stay) stage.Shortened (holding qs None)) ∷ (cut_last_writes g s kept qs ns stay ++ slots_freed g stage.Shortened qs ns go) in
    let P : List (ℕ × Block) → List (ℕ × Block) → Type 0 =
    λ stay go.
    ((new : Owners) → AreHeadsWritten k (numbers_of g s) (cut_things g s kept) (with_file x n (cut x f kept)) bs (after_writes (all_writes stay go) bs) new → AreFreed g (after_writes (all_writes stay go) bs) ns → StepsOf end k ws (after_writes (all_writes stay go) bs) new)
    → StepsOf end k (all_writes stay go ++ ws) bs own in
    let all : P (placed g bs ks) (placed g bs gs) = all_steps end k n h f kept ws x bs own on flat hs.is hs.m hs.x hs.cs hs.ds now fits gs gone_is lock leaves ks split here in
    let as_seen : P (kept_headers s kept) (gone_headers s kept) = subst (λ go. P (kept_headers s kept) go) (sym gone_is) (subst (λ stay. P stay (placed g bs gs)) (sym kept_is) all) in
    subst (Goes end k n f kept ws x bs own) (sym (seen_now g own x n h f bs hs.is hs.m hs.x hs.cs hs.ds now)) as_seen rest
