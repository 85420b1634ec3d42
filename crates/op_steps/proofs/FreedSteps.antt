-- The slots of the headers of a file that goes whole.
use Rattle.std.proofs.Common.{◌≡◌, ◌≢◌, ◌∙◌, ◌<◌, ◌-◌, ◌^◌, ◌++◌, ℕ, List, ◌∷◌, Some, None, drop, slice_get, slice_set, refl, sym, ap, subst, inl, inr, arith}
use Rattle.std.specs.Prelude.{Ok}
use Rattle.std.proofs.lemmas.Option.{slice_get_within}
use Rattle.base_words.specs.Fields.{Block}
use Rattle.base_words.specs.Lists.{Has}
use Rattle.base_words.proofs.Listing.{has_mapped, has_or_not}
use Rattle.fx_header.specs.declared.slot.Hdr.{Hdr}
use Rattle.fx_header.specs.declared.slot.Slot.TheVariants as head
use Rattle.fx_header.specs.Headers.{header_read, freed}
use Rattle.fx_header.proofs.NewLemmas.{freed-reads}
use Rattle.plain_cat.specs.declared.cat.Cat.{Cat}
use Rattle.plain_cat.specs.declared.cat.File.{File}
use Rattle.plain_cat.specs.declared.cat.Slot.TheVariants as slot
use Rattle.plain_cat.specs.declared.history.Stage.TheVariants as stage
use Rattle.plain_rules.specs.Changes.{freed as without}
use Rattle.vol_parts.specs.declared.geometry.Geometry.{Geometry}
use Rattle.vol_parts.specs.Chains.{as_first}
use Rattle.vol_parts.specs.Volumes.{Told, fields_in}
use Rattle.vol_parts.proofs.WholeHeaders.{whole_freed}
use Rattle.vol_spell.specs.declared.owner.Owner.TheVariants.{InFile}
use Rattle.vol_spell.specs.Files.{IsFileThere}
use Rattle.vol_spell.specs.Kinds.{IsHeaderFor}
use Rattle.vol_spell.specs.Owners.{Owners, IsFileMove, Things, nothing, Outs}
use Rattle.vol_spell.specs.Reading.{header_place, header_block, told_of, nobody, body_blocks, clusters_told}
use Rattle.vol_spell.specs.Spelling.{IsHead, IsBlank, Tells}
use Rattle.vol_spell.proofs.Heads.{first_reads}
use Rattle.vol_spell.proofs.HeadFiles.{not_structure}
use Rattle.vol_spell.proofs.OneHeader.{none_split}
use Rattle.vol_spell.proofs.Viewing.{none_set}
use Rattle.vol_spell.proofs.HeadSlots.{no_parts}
use Rattle.vol_under.specs.Chains.{End}
use Rattle.vol_under.specs.Filing.{brought_out, AreFiled, Gives}
use Rattle.vol_under.proofs.Files.{file_gives}
use Rattle.op_law.specs.declared.need.PlanWrite.{PlanWrite}
use Rattle.op_law.specs.Entering.{slot_seq}
use Rattle.op_law.specs.Freeing.{rising, all_clusters, headers_freed}
use Rattle.op_law.specs.Headers.{numbers_of}
use Rattle.op_law.specs.Refusing.{SeenFile}
use Rattle.op_law.specs.Writing.{holding, empty_handed, with_numbers, header_write}
use Rattle.op_steps.specs.Chained.{Chain, StageOf, StandsOn, after_writes}
use Rattle.op_steps.specs.Files.{file_in}
use Rattle.op_steps.specs.GoneWrites.{freed_things, FreedSteps}
use Rattle.op_steps.specs.HeadWrites.{IsHeadWritten}
use Rattle.op_steps.specs.SlotWrites.{AreHeadsWritten, AreFreed}
use Rattle.op_steps.proofs.ChainFiles.{slot_on, slot_whole, slot_kept, chain_owned, chain_within, chain_file}
use Rattle.op_steps.proofs.ChainNumbers.{places_for, before_are, once_places, to_place, numbers_once, numbers_owned, numbers_low, behind_has, behind_once, place_has}
use Rattle.op_steps.proofs.HeadSteps.{head_steps}
use Rattle.op_steps.proofs.Ascending.{rising_has, has_rising, once_rising}
use Rattle.op_steps.proofs.Sequences.{sequence_low}
use Rattle.op_steps.proofs.SlotSteps.{AreStill, AreSpared, spare_writes, spare_steps, same_then}
use Rattle.op_steps.proofs.WholeFiles.{begins, numbers_are, whole_clusters}

module _ (k : Chain) (n : ℕ) (h : Hdr) (f : File) (x : Cat) (bs : List Block) (own : Owners) (on : StandsOn k empty_handed x bs own) (is : IsFileThere k.geometry x bs n h f) where
  abbrev g : Geometry
  g = k.geometry

  abbrev slots : List ℕ
  slots = (told_of k.geometry bs n).slots

  abbrev cs : List ℕ
  cs = clusters_told k.geometry (told_of k.geometry bs n)

  -- the clusters and the numbers of the file
  abbrev pub gone : Things
  gone = record { clusters = rising k.geometry (clusters_told k.geometry (told_of k.geometry bs n)); numbers = places_for (told_of k.geometry bs n).slots }

  abbrev pub new : Owners
  new = brought_out k.node gone own

  filed : AreFiled n own gone
  filed = record {
    clusters = λ q t. (chain_owned g bs own x n h on.spelt is.number is.above is.reads q).0 (rising_has g cs q t);
    numbers = λ i t.
        let m = has_mapped (λ j. j - 1) slots i t in
        subst (λ (j : ℕ). slice_get own.numbers j ≡ Some (InFile n)) m.2 ((numbers_owned g bs own x n h on.spelt is.number is.reads m.0).0 m.1).1;
    clusters_once = once_rising g cs;
    numbers_once = once_places slots (numbers_low g bs own x n h on.spelt is.number is.reads) (numbers_once g bs own x n h on.spelt is.number is.reads);
  }

  pub gives : Gives k.node n own (brought_out k.node gone own) nothing gone k.stock
  gives = file_gives k.node n own nothing gone k.stock filed on.outs

  -- ---- the first header

  numbered : slice_get own.numbers (n - 1) ≡ Some (InFile n)
  numbered = ((numbers_owned g bs own x n h on.spelt is.number is.reads n).0 (subst (λ (ns : List ℕ). Has ns n) (sym (begins g bs n h is.reads)) (inl refl))).1

  seq_low : h.seq < 2 ^ 16
  seq_low =
      let low = sequence_low (header_block g bs n) (slot_whole g bs own x n on.spelt is.number).bytes in
      subst (λ r. slot_seq r < 2 ^ 16) (first_reads (header_block g bs n) h is.reads) low

  reads : header_read (freed h.seq) ≡ Ok (head.Free h.seq)
  reads = freed-reads h.seq seq_low

  no_cluster : (q : ℕ) → slice_get new.clusters q ≡ Some (InFile n) → ⊥
  no_cluster q e =
      let mine = (gives.clusters q).0 e in
      let t = (chain_owned g bs own x n h on.spelt is.number is.above is.reads q).1 mine.0 in
      mine.1 (has_rising g cs q t (chain_within g bs own x n h on.spelt is.number is.above is.reads q t))

  no_number : (i : ℕ) → slice_get new.numbers i ≡ Some (InFile n) → ⊥
  no_number i e =
      let mine = (gives.numbers i).0 e in
      let lt = slice_get_within own.numbers i (InFile n) mine.0 in
      let all = on.spelt.counts.numbers in
      mine.1 (place_has g bs own x n h on.spelt is.number is.reads i (omega arith) mine.0)

  tells : Tells k.geometry new n (nobody h.seq) (body_blocks bs n (nobody h.seq)) (slot.Free h.seq)
  tells = record {
    reads = tt;
    whole = tt;
    once = tt;
    runs = λ q. ((λ t. absurd t), (λ e. absurd (no_cluster q e)));
    few = λ above. omega arith;
    split = λ above. none_split k.geometry.cluster h.seq;
    system = λ low. refl;
    slots = λ m. ((λ t. absurd t), (λ u. absurd (no_number (m - 1) u.1)));
    size = refl;
    dir = refl;
    slot = refl;
  }

  seq_is : f.seq ≡ h.seq
  seq_is = ap (λ (y : File). y.seq) (chain_file g bs own x n h on.spelt is.number is.above is.reads f is.file)

  pub freed_for : IsHeaderFor k.geometry bs k.node n n own new x (freed h.seq) (slot.Free f.seq)
  freed_for =
      let len = slot_on g bs own x n on.spelt is.number in
      record {
        whole = whole_freed h.seq;
        number = is.number;
        slot = inl refl;
        owned = subst (IsFileMove k.node n) (sym numbered) refl;
        head = subst (IsHead n) (sym reads) tt;
        alike = λ ne. absurd (ne refl);
        parts = no_parts n (not_structure n is.above);
        moves = gives.moves;
        tells = subst (λ (q : ℕ). Tells g new n (told_of g (slice_set bs (header_place g n) (freed h.seq)) n) (body_blocks bs n (told_of g (slice_set bs (header_place g n) (freed h.seq)) n)) (slot.Free q)) (sym seq_is)
            (subst (λ (z : Told). Tells g new n z (body_blocks bs n z) (slot.Free h.seq)) (sym (none_set g bs n (freed h.seq) h.seq len (ap as_first reads))) tells);
        reserved = λ old low at. let above = is.above in absurd (omega arith);
      }

  abbrev sf : SeenFile
  sf = file_in k.geometry bs n h

  -- what is outside then are these
  pub things_are : freed_things k.geometry (file_in k.geometry bs n h) ≡ gone
  things_are =
      before_are (numbers_of g sf) (all_clusters g sf)
      ∙ ap (λ (ns : List ℕ). record { clusters = all_clusters g sf; numbers = places_for ns }) (numbers_are g bs n h is.reads)
      ∙ ap (λ (qs : List ℕ). record { clusters = rising g qs; numbers = places_for slots }) (whole_clusters g bs n h is.reads)

  pub outs_then : Outs k.node new (freed_things k.geometry (file_in k.geometry bs n h)) k.stock
  outs_then = subst (λ (t : Things). Outs k.node new t k.stock) (sym things_are) gives.outs

  -- ---- the others

  abbrev pub others : List ℕ
  others = drop 1 (told_of k.geometry bs n).slots

  abbrev pub first : PlanWrite
  first = with_numbers (numbers_of k.geometry sf) (header_write k.geometry n (freed h.seq) stage.Freed (holding (all_clusters k.geometry sf) None))

  abbrev pub next : List Block
  next = slice_set bs (header_place k.geometry n) (freed h.seq)

  apart : (m : ℕ) → Has others m → m ≢ n
  apart m t e = (behind_once g bs own x n h on.spelt is.number is.reads).0 (subst (λ (j : ℕ). Has others j) e t)

  module _ (end : End) (ws : List PlanWrite) (leaves : StageOf k stage.Freed (without x n f)) (w : IsHeadWritten k n (freed h.seq) (freed_things k.geometry sf) (without x n f) bs next new) where
    still : AreStill end k stage.Freed (all_clusters k.geometry sf) (numbers_of k.geometry sf) bs ws (without x n f) new w.outs leaves next others
    still = record {
      spelt = w.spelt;
      once = (behind_once g bs own x n h on.spelt is.number is.reads).1;
      number = λ m t. ((numbers_owned g bs own x n h on.spelt is.number is.reads m).0 (behind_has g bs own x n h on.spelt is.number is.reads m t)).0;
      outside = λ m t. (gives.outs.numbers.all (m - 1)).1 (inl (to_place slots m (behind_has g bs own x n h on.spelt is.number is.reads m t)));
      same = λ m t. slot_kept g bs n m (freed h.seq) (apart m t);
    }

    abbrev after : List Block
    after = after_writes (spare_writes k stage.Freed (all_clusters k.geometry sf) (numbers_of k.geometry sf) bs others) next

    first_blank : IsBlank (header_block k.geometry next n)
    first_blank = ap (λ (y : Block). fields_in (header_read y)) w.file.header ∙ ap fields_in reads

    module _ (spared : AreSpared k others (without x n f) next after new) where
      numbers_begin : numbers_of k.geometry sf ≡ n ∷ others
      numbers_begin = numbers_are g bs n h is.reads ∙ begins g bs n h is.reads

      outside_all : (i : ℕ) → (Has (numbers_of k.geometry sf) i → ⊥) → (i ≢ n) × (Has others i → ⊥)
      outside_all i none =
          let P : List ℕ → Type 0 = λ ns. Has ns i → ⊥ in
          let away : Has (n ∷ others) i → ⊥ = subst P numbers_begin none in
          ((λ e. away (inl (sym e))), (λ t. away (inr t)))

      pub all_written : AreHeadsWritten k (numbers_of k.geometry sf) (freed_things k.geometry sf) (without x n f) bs after new
      all_written = record {
        spelt = spared.spelt;
        outs = w.outs;
        others = λ i number none. let away = outside_all i none in same_then g bs next after i (w.others i number away.0) (spared.others i number away.1);
      }

      pub all_freed : AreFreed k.geometry after (numbers_of k.geometry sf)
      all_freed m t = by_place (subst (λ (ns : List ℕ). Has ns m) numbers_begin t) where
        by_place : Has (n ∷ others) m → IsBlank (header_block k.geometry after m)
        by_place (inr u) = spared.blank m u
        by_place (inl e) = elim (has_or_not others n) [
          | inl u ↦ absurd ((behind_once g bs own x n h on.spelt is.number is.reads).0 u)
          | inr none ↦ subst (λ (j : ℕ). IsBlank (header_block g after j)) e (subst (λ (b : Block). IsBlank b) (sym (spared.kept n none)) first_blank)
        ]

pub freed_steps : (end : End) → FreedSteps end
unfolding headers_freed
freed_steps end k n h f ws x bs own on is lock leaves rest =
    let tail : List PlanWrite = spare_writes k stage.Freed (all_clusters k.geometry (sf k n h f x bs own on is)) (numbers_of k.geometry (sf k n h f x bs own on is)) bs (others k n h f x bs own on is) in
    head_steps end k n (slot.Free f.seq) (first k n h f x bs own on is) (tail ++ ws) x bs own (new k n h f x bs own on is) on.spelt lock refl (freed_for k n h f x bs own on is)
    (outs_then k n h f x bs own on is) leaves
    (λ w.
    spare_steps end k stage.Freed (all_clusters k.geometry (sf k n h f x bs own on is)) (numbers_of k.geometry (sf k n h f x bs own on is)) bs ws (without x n f) (new k n h f x bs own on is) w.outs leaves
    (others k n h f x bs own on is) (next k n h f x bs own on is) (still k n h f x bs own on is end ws leaves w)
    (λ spared. rest (new k n h f x bs own on is) (all_written k n h f x bs own on is end ws leaves w spared) (all_freed k n h f x bs own on is end ws leaves w spared)))
