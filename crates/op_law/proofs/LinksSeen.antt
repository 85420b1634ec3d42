-- What a command has seen along the links of a file, on blocks that spell a catalogue and have what it has seen. The blocks that were
-- seen there are those of the file's other headers, as far as they were seen (`links_seen`; all: `links_all`, `links_part`). Where all that were asked for were seen,
-- the rest of what was seen follows the events behind them, with the headers that stand there (`links_follow`).
use Rattle.std.proofs.Common.{◌≡◌, ◌≤◌, ◌∙◌, ℕ, zero, suc, List, [], ◌∷◌, ◌++◌, Some, length, map, take, drop, append_assoc, append-nil, refl, sym, ap, subst, arith}
use Rattle.std.proofs.lemmas.List.{length-map, take_all, length-take}
use Rattle.base_words.specs.Fields.{Block}
use Rattle.base_words.specs.Lists.{StandsIn}
use Rattle.fx_header.specs.declared.slot.Hdr.{Hdr}
use Rattle.fx_header.specs.Headers.{header_read}
use Rattle.lock_db.specs.declared.name.LockName.{LockName}
use Rattle.plain_cat.specs.declared.mode.Mode.{Mode}
use Rattle.vol_parts.specs.declared.geometry.Geometry.{Geometry}
use Rattle.vol_parts.specs.ChainLaws.{AreLinked}
use Rattle.vol_parts.specs.Volumes.{fields_in}
use Rattle.vol_spell.specs.Reading.{header_place, header_block, headers_at, fields_told}
use Rattle.op_law.specs.Events.{Events, Space, Follows}
use Rattle.op_law.specs.Headers.{link_in, next_number, with_header, through_links, placed, others_told, headers_behind, part_file}
use Rattle.op_law.specs.Refusing.{SeenFile, seen_file}
use Rattle.op_law.proofs.Chains.{file_chain, says_first, others_are}
use Rattle.op_law.proofs.Heads.{header_is}

module _ (g : Geometry) (bs : List Block) (mode : Mode) (next : SeenFile → Events) (space : Space) (given : Type 0) where
  abbrev numbers_in : List (ℕ × Hdr) → List ℕ
  numbers_in others = map (λ o. o.0) others

  seen_along : (k : ℕ) (others : List (ℕ × Hdr)) (b : Block) (h : Hdr) (f : SeenFile) (locks : List (LockName × Mode)) (blocks : List (ℕ × Block)) → AreLinked (headers_at g bs) h others
      → fields_in (header_read b) ≡ Some h → k ≤ length others → StandsIn bs blocks → Follows (through_links g mode k b f next) locks blocks space given
      → take k blocks ≡ take (length blocks) (take k (map (placed g bs) (numbers_in others)))
  seen_along zero others b h f locks [] linked reads le stands follows = refl
  seen_along zero others b h f locks (x ∷ blocks) linked reads le stands follows = refl
  seen_along (suc k) [] b h f locks blocks linked reads le stands follows = absurd (omega arith)
  seen_along (suc k) ((m, y) ∷ others) b h f [] blocks linked reads le stands follows =
      let Q : List (ℕ × Block) → Type 0 = λ xs. take (suc k) xs ≡ take (length xs) (take (suc k) (map (placed g bs) (m ∷ numbers_in others))) in
      subst Q (sym follows.0) refl
  seen_along (suc k) ((m, y) ∷ others) b h f (l ∷ locks) [] linked reads le stands follows = refl
  seen_along (suc k) ((m, y) ∷ others) b h f (l ∷ locks) (x ∷ blocks) linked reads le stands follows =
      let same : next_number b ≡ m = ap link_in reads ∙ linked.1 in
      let place : x.0 ≡ header_place g m = follows.1.0 ∙ ap (header_place g) same in
      let block : header_block g bs m ≡ x.1 = header_is g bs m x.0 x.1 place stands.0 in
      let says : fields_in (header_read x.1) ≡ Some y = ap (λ z. fields_in (header_read z)) (sym block) ∙ linked.2 in
      let behind = seen_along k others x.1 y (with_header g (next_number b) x.1 f) locks blocks linked.4 says (omega arith) stands.1 follows.1.1 in
      λ i. (place i, sym block i) ∷ behind i

  follow_along : (k : ℕ) (others : List (ℕ × Hdr)) (b : Block) (h : Hdr) (f : SeenFile) (locks : List (LockName × Mode)) (blocks : List (ℕ × Block)) → AreLinked (headers_at g bs) h others
      → fields_in (header_read b) ≡ Some h → k ≤ length others → StandsIn bs blocks → k ≤ length blocks → Follows (through_links g mode k b f next) locks blocks space given
      → Follows (next (record f { rest = f.rest ++ take k (map (placed g bs) (numbers_in others)) })) (drop k locks) (drop k blocks) space given
  follow_along zero others b h f locks blocks linked reads le stands enough follows =
      subst (λ (xs : List (ℕ × Block)). Follows (next (record f { rest = xs })) locks blocks space given) (sym (append-nil f.rest)) follows
  follow_along (suc k) [] b h f locks blocks linked reads le stands enough follows = absurd (omega arith)
  follow_along (suc k) ((m, y) ∷ others) b h f [] blocks linked reads le stands enough follows =
      let none : length blocks ≡ 0 = ap length follows.0 in
      absurd (omega arith)
  follow_along (suc k) ((m, y) ∷ others) b h f (l ∷ locks) [] linked reads le stands enough follows = absurd (omega arith)
  follow_along (suc k) ((m, y) ∷ others) b h f (l ∷ locks) (x ∷ blocks) linked reads le stands enough follows =
      let same : next_number b ≡ m = ap link_in reads ∙ linked.1 in
      let place : x.0 ≡ header_place g m = follows.1.0 ∙ ap (header_place g) same in
      let block : header_block g bs m ≡ x.1 = header_is g bs m x.0 x.1 place stands.0 in
      let says : fields_in (header_read x.1) ≡ Some y = ap (λ z. fields_in (header_read z)) (sym block) ∙ linked.2 in
      let behind = follow_along k others x.1 y (with_header g (next_number b) x.1 f) locks blocks linked.4 says (omega arith) stands.1 (omega arith) follows.1.1 in
      let seen : (header_place g (next_number b), x.1) ≡ placed g bs m = (λ i. (header_place g (same i), sym block i)) in
      let all : (f.rest ++ (header_place g (next_number b), x.1) ∷ []) ++ take k (map (placed g bs) (numbers_in others)) ≡ f.rest ++ placed g bs m ∷ take k (map (placed g bs) (numbers_in others)) =
      append_assoc f.rest ((header_place g (next_number b), x.1) ∷ []) (take k (map (placed g bs) (numbers_in others))) ∙ ap (λ p. f.rest ++ p ∷ take k (map (placed g bs) (numbers_in others))) seen in
      subst (λ (xs : List (ℕ × Block)). Follows (next (record f { rest = xs })) (drop k locks) (drop k blocks) space given) all behind

  module _ (n : ℕ) (h : Hdr) (used : fields_told (header_block g bs n) ≡ Some h) (k : ℕ) (le : k ≤ length (others_told g bs n)) (locks : List (LockName × Mode)) (blocks : List (ℕ × Block)) (stands : StandsIn bs blocks)
      (follows : Follows (through_links g mode k (header_block g bs n) (seen_file g n (header_block g bs n) h) next) locks blocks space given) where
    few : k ≤ length (file_chain g bs n h used).others
    few = let count : length (others_told g bs n) ≡ length (file_chain g bs n h used).others = ap length (others_are g bs n h used) ∙ length-map (file_chain g bs n h used).others _ in omega arith

    -- the blocks that were seen are those of the first k other headers of the file, as far as they were seen
    pub links_seen : take k blocks ≡ take (length blocks) (take k (headers_behind g bs n))
    links_seen =
        seen_along k (file_chain g bs n h used).others (header_block g bs n) h (seen_file g n (header_block g bs n) h) locks blocks (file_chain g bs n h used).linked (says_first g bs n h used) few stands follows
        ∙ ap (λ (ns : List ℕ). take (length blocks) (take k (map (placed g bs) ns))) (sym (others_are g bs n h used))

    -- where all of them were seen, what was seen behind them follows what comes there
    pub links_follow : k ≤ length blocks → Follows (next (part_file g bs n h k)) (drop k locks) (drop k blocks) space given
    links_follow enough =
        subst (λ (ns : List ℕ). Follows (next (record (seen_file g n (header_block g bs n) h) { rest = take k (map (placed g bs) ns) })) (drop k locks) (drop k blocks) space given) (sym (others_are g bs n h used))
        (follow_along k (file_chain g bs n h used).others (header_block g bs n) h (seen_file g n (header_block g bs n) h) locks blocks (file_chain g bs n h used).linked (says_first g bs n h used) few stands enough follows)

    -- and these are all
    pub links_all : k ≤ length blocks → take k blocks ≡ take k (headers_behind g bs n)
    links_all enough =
        let some = length-take k (headers_behind g bs n) in
        links_seen ∙ take_all (length blocks) (take k (headers_behind g bs n)) (omega arith)

    -- so the file by the blocks that were seen is the file as it stands
    pub links_part : k ≤ length blocks → record (seen_file g n (header_block g bs n) h) { rest = take k blocks } ≡ part_file g bs n h k
    links_part enough = ap (λ xs. record (seen_file g n (header_block g bs n) h) { rest = xs }) (links_all enough)
