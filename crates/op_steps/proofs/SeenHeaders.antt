-- The headers that a command has seen behind the first one of a file, on blocks that spell a catalogue and have what it has seen: they
-- are the file's, in order, as far as they were seen, and the runs that they list end inside.
use Rattle.std.proofs.Common.{◌≡◌, ◌≤◌, ◌<◌, ◌-◌, ◌*◌, ◌/◌, ◌∙◌, ◌++◌, ℕ, zero, suc, List, [], ◌∷◌, Some, All, length, map, take, drop, flat_map, refl, sym, ap, subst, arith}
use Rattle.std.proofs.Math.ListN.{take-append-drop}
use Rattle.std.proofs.lemmas.List.{length-map}
use Rattle.std.proofs.lemmas.List.Concat.{flat_map-append}
use Rattle.base_words.specs.Fields.{Block}
use Rattle.base_words.specs.Lists.{StandsIn}
use Rattle.fx_header.specs.declared.run.Run.{Run}
use Rattle.fx_header.specs.declared.slot.Hdr.{Hdr}
use Rattle.fx_header.specs.Headers.{header_read}
use Rattle.lock_db.specs.declared.name.LockName.{LockName}
use Rattle.plain_cat.specs.declared.mode.Mode.{Mode}
use Rattle.plain_cat.specs.declared.cat.Cat.{Cat}
use Rattle.plain_rules.specs.Lookups.{extra, header_most}
use Rattle.vol_parts.specs.declared.geometry.Geometry.{Geometry}
use Rattle.vol_parts.specs.ChainLaws.{AreLinked}
use Rattle.vol_parts.specs.Chains.{cut}
use Rattle.vol_parts.specs.Volumes.{fields_in, chain_from}
use Rattle.vol_spell.specs.Owners.{Owners}
use Rattle.vol_spell.specs.Reading.{IsFileNumber, header_place, header_block, headers_at, fields_told, told_of}
use Rattle.vol_spell.specs.Spelling.{AreWhole, Spells}
use Rattle.vol_spell.proofs.Parts.{told}
use Rattle.op_law.specs.Events.{Events, Space, Follows}
use Rattle.op_law.specs.Headers.{link_in, next_number, through_links, through_chain, through_part, placed, others_told, headers_behind, part_file}
use Rattle.op_law.specs.Readable.{EndsInside}
use Rattle.op_law.specs.Refusing.{SeenFile, seen_file}
use Rattle.op_law.specs.SeenFiles.{runs_by, runs_seen}
use Rattle.op_law.proofs.Chains.{file_chain, says_first, others_are, others_count}
use Rattle.op_law.proofs.Heads.{front_whole, runs_inside}
use Rattle.op_law.proofs.LinksSeen.{links_seen}
use Rattle.op_law.proofs.SeenRuns.{part_runs, part_within}
use Rattle.op_steps.specs.Chains.{AreBehind, AreHeaders}

-- the first of the headers that are linked behind b are headers behind it
linked_behind : (g : Geometry) (bs : List Block) (k : ℕ) (others : List (ℕ × Hdr)) (b : Block) (h : Hdr) (blocks : List (ℕ × Block)) → AreLinked (headers_at g bs) h others → fields_in (header_read b) ≡ Some h → k ≤ length others
    → take k blocks ≡ take (length blocks) (take k (map (placed g bs) (map (λ (o : ℕ × Hdr). o.0) others))) → AreBehind g k b blocks
linked_behind g bs zero others b h blocks linked reads le seen = tt
linked_behind g bs (suc k) [] b h blocks linked reads le seen = absurd (omega arith)
linked_behind g bs (suc k) ((m, y) ∷ others) b h [] linked reads le seen =
    let same : next_number b ≡ m = ap link_in reads ∙ linked.1 in
    subst (λ j. j ≤ g.files) (sym same) linked.0.to
linked_behind g bs (suc k) ((m, y) ∷ others) b h (x ∷ blocks) linked reads le seen =
    let same : next_number b ≡ m = ap link_in reads ∙ linked.1 in
    let all : ◌≡◌ {A = List (ℕ × Block)} (x ∷ take k blocks) (placed g bs m ∷ take (length blocks) (take k (map (placed g bs) (map (λ (o : ℕ × Hdr). o.0) others)))) = seen in
    let here : x ≡ placed g bs m = (cc) in
    let behind : take k blocks ≡ take (length blocks) (take k (map (placed g bs) (map (λ (o : ℕ × Hdr). o.0) others))) = (cc) in
    let place : x.0 ≡ header_place g (next_number b) = ap (λ (z : ℕ × Block). z.0) here ∙ ap (header_place g) (sym same) in
    let reads_it : fields_in (header_read x.1) ≡ Some y = ap (λ (z : ℕ × Block). fields_in (header_read z.1)) here ∙ linked.2 in (
      subst (λ j. j ≤ g.files) (sym same) linked.0.to,
      place,
      linked_behind g bs k others x.1 y blocks linked.4 reads_it (omega arith) behind,
    )

-- fewer of the first are the first of them
first_first : {A : Type 0} (j k : ℕ) (xs : List A) → (i : ℕ) × (take j (take k xs) ≡ take i xs)
first_first zero k xs = (0, refl)
first_first (suc j) zero xs = (0, refl)
first_first (suc j) (suc k) [] = (0, refl)
first_first (suc j) (suc k) (x ∷ xs) = let behind = first_first j k xs in (suc behind.0, ap (λ ys. x ∷ ys) behind.1)

module _ (g : Geometry) (bs : List Block) (own : Owners) (c : Cat) (s : Spells g bs own c) (n : ℕ) (h : Hdr) (is : IsFileNumber g n) (used : fields_told (header_block g bs n) ≡ Some h) where
  -- the runs of a file by the first of its other headers end inside
  pub part_inside : (k : ℕ) → All EndsInside (runs_seen (part_file g bs n h k))
  part_inside k =
      let ns : List ℕ = (told_of g bs n).slots in
      let lists = (headers_at g bs).lists in
      let all : flat_map lists ns ≡ flat_map lists (take (suc k) ns) ++ flat_map lists (drop (suc k) ns) =
      ap (flat_map lists) (sym (take-append-drop (suc k) ns)) ∙ flat_map-append lists (take (suc k) ns) (drop (suc k) ns) in
      let runs : (told_of g bs n).runs ≡ cut h.blocks (flat_map lists (take (suc k) ns) ++ flat_map lists (drop (suc k) ns)) =
      ap (λ o. (chain_from (headers_at g bs) n o).runs) used ∙ ap (λ o. cut h.blocks (flat_map lists (chain_from (headers_at g bs) n o).slots)) (sym used) ∙ ap (cut h.blocks) all in
      let front = front_whole g h.blocks (flat_map lists (take (suc k) ns)) (flat_map lists (drop (suc k) ns)) (subst (AreWhole g) runs (told g bs own c s n is).whole) in
      subst (λ (rs : List Run). All EndsInside rs) (sym (part_runs g bs n h used k)) (runs_inside g _ s.counts.geometry front)

  -- what was seen behind the first header are k others, or the first of them
  pub seen_headers : (mode : Mode) (k : ℕ) (next : SeenFile → Events) (locks : List (LockName × Mode)) (blocks : List (ℕ × Block)) (space : Space) (given : Type 0) → k ≤ length (others_told g bs n) → StandsIn bs blocks
      → Follows (through_links g mode k (header_block g bs n) (seen_file g n (header_block g bs n) h) next) locks blocks space given → AreHeaders g k h (header_block g bs n) blocks
  seen_headers mode k next locks blocks space given le stands follows =
      let chain = file_chain g bs n h used in
      let are = others_are g bs n h used in
      let count : length (others_told g bs n) ≡ length chain.others = ap length are ∙ length-map chain.others _ in
      let seen : take k blocks ≡ take (length blocks) (take k (headers_behind g bs n)) = links_seen g bs mode next space given n h used k le locks blocks stands follows in
      let first = first_first (length blocks) k (headers_behind g bs n) in
      record {
        linked = linked_behind g bs k chain.others (header_block g bs n) h blocks chain.linked (says_first g bs n h used) (omega arith)
            (seen ∙ ap (λ (ns : List ℕ). take (length blocks) (take k (map (placed g bs) ns))) are);
        inside = subst (λ (xs : List (ℕ × Block)). All EndsInside (runs_by h.blocks (header_block g bs n) xs)) (sym (seen ∙ first.1)) (part_inside first.0);
      }

  module _ (above : 11 < n) (mode : Mode) (next : SeenFile → Events) (locks : List (LockName × Mode)) (blocks : List (ℕ × Block)) (space : Space) (given : Type 0) (stands : StandsIn bs blocks) where
    -- so it is along all headers of a file that is no system file
    pub chain_headers : Follows (through_chain g mode (seen_file g n (header_block g bs n) h) next) locks blocks space given → AreHeaders g (extra (h.blocks / g.cluster)) h (header_block g bs n) blocks
    chain_headers follows =
        let count : length (others_told g bs n) ≡ extra (h.blocks / g.cluster) = others_count g bs own c s n h is used above in
        seen_headers mode (extra (h.blocks / g.cluster)) next locks blocks space given (omega arith) stands follows

    -- and along those up to that which lists a virtual block
    pub part_headers : (vbn : ℕ) → 1 ≤ vbn → vbn ≤ h.blocks → Follows (through_part g mode vbn (seen_file g n (header_block g bs n) h) next) locks blocks space given
        → AreHeaders g ((vbn - 1) / (header_most * g.cluster)) h (header_block g bs n) blocks
    part_headers vbn from to follows =
        seen_headers mode ((vbn - 1) / (header_most * g.cluster)) next locks blocks space given (part_within g bs own c s n h is used above vbn from to) stands follows
