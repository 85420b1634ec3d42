-- A file as a command sees it with all of its headers: what it has is what is told of the file.
use Rattle.std.proofs.Common.{◌≡◌, ◌∙◌, ◌+◌, ◌-◌, ◌*◌, ◌++◌, ℕ, List, [], ◌∷◌, Ok, map, drop, flat_map, refl, sym, ap, inl, inr, arith}
use Rattle.base_words.specs.Fields.{Block}
use Rattle.base_words.specs.Lists.{Has}
use Rattle.fx_header.specs.declared.run.Run.{Run}
use Rattle.fx_header.specs.declared.slot.Hdr.{Hdr}
use Rattle.fx_header.specs.declared.slot.Slot.TheVariants.{Used}
use Rattle.vol_parts.specs.declared.geometry.Geometry.{Geometry}
use Rattle.vol_parts.specs.Chains.{cut, chain_of, last_slot}
use Rattle.vol_parts.specs.Volumes.{Told, told_with, told_by}
use Rattle.vol_parts.proofs.Walks.{walk-begins}
use Rattle.plain_cat.specs.declared.cat.Cat.{Cat}
use Rattle.vol_spell.specs.Owners.{Owners}
use Rattle.vol_spell.specs.Spelling.{Spells}
use Rattle.vol_spell.proofs.Parts.{slot_number}
use Rattle.vol_spell.specs.Reading.{IsFileNumber, header_place, header_block, headers_at, head_told, told_of, clusters_of, clusters_told}
use Rattle.op_law.specs.Headers.{slot_at, slots_seen, numbers_of, last_header}
use Rattle.op_law.specs.Refusing.{seen_file}
use Rattle.op_law.specs.SeenFiles.{runs_seen, runs_listed, file_clusters}
use Rattle.op_steps.specs.Chained.{FilesStay}
use Rattle.op_steps.specs.Files.{file_in}

-- the headers of these numbers, each with its place
abbrev pub placed : Geometry → List Block → List ℕ → List (ℕ × Block)
placed g bs is = map (λ m. (header_place g m, header_block g bs m)) is

-- the numbers of headers that stand at their places
pub slots_placed : (g : Geometry) (bs : List Block) (is : List ℕ) → slots_seen g (placed g bs is) ≡ is
slots_placed g bs [] = refl
slots_placed g bs (i ∷ is) =
    let e : 4 * g.cluster + i - 4 * g.cluster ≡ i = omega arith in
    ap (λ z. z ∷ slots_seen g (placed g bs is)) e ∙ ap (λ ms. i ∷ ms) (slots_placed g bs is)

-- the last one of such headers
pub last_placed : (g : Geometry) (bs : List Block) (i : ℕ) (is : List ℕ) → last_header g (slot_at g (header_place g i)) (header_block g bs i) (placed g bs is) ≡ (last_slot i is, header_block g bs (last_slot i is))
last_placed g bs i [] = let e : 4 * g.cluster + i - 4 * g.cluster ≡ i = omega arith in ap (λ j. (j, header_block g bs i)) e
last_placed g bs i (j ∷ is) = last_placed g bs j is

-- the same headers on other blocks
pub placed_same : (g : Geometry) (bs new : List Block) (is : List ℕ) → ((m : ℕ) → Has is m → header_block g new m ≡ header_block g bs m) → placed g new is ≡ placed g bs is
placed_same g bs new [] same = refl
placed_same g bs new (i ∷ is) same =
    ap (λ (b : Block). (header_place g i, b) ∷ placed g new is) (same i (inl refl)) ∙ ap (λ xs. (header_place g i, header_block g bs i) ∷ xs) (placed_same g bs new is (λ m t. same m (inr t)))

-- the file is seen the same where the same is told of it and its headers stay
pub whole_same : (g : Geometry) (bs new : List Block) (n : ℕ) (h : Hdr) → told_of g new n ≡ told_of g bs n → header_block g new n ≡ header_block g bs n
    → ((m : ℕ) → Has (drop 1 (told_of g bs n).slots) m → header_block g new m ≡ header_block g bs m) → file_in g new n h ≡ file_in g bs n h
whole_same g bs new n h told first same =
    ap (λ (b : Block). record (seen_file g n b h) { rest = placed g new (drop 1 (told_of g new n).slots) }) first
    ∙ ap (λ (t : Told). record (seen_file g n (header_block g bs n) h) { rest = placed g new (drop 1 t.slots) }) told
    ∙ ap (λ (xs : List (ℕ × Block)). record (seen_file g n (header_block g bs n) h) { rest = xs }) (placed_same g bs new (drop 1 (told_of g bs n).slots) same)

module _ (g : Geometry) (bs : List Block) (n : ℕ) (h : Hdr) (reads : head_told (header_block g bs n) ≡ Ok (Used h)) where
  told_is : told_of g bs n ≡ told_with (Ok (Used h)) (chain_of (headers_at g bs) n h)
  told_is = ap (told_by (headers_at g bs) n) reads

  -- the slots begin with the number
  pub begins : (told_of g bs n).slots ≡ n ∷ drop 1 (told_of g bs n).slots
  begins =
      let b = walk-begins (headers_at g bs) 15 n h h.blocks in
      let slots : (told_of g bs n).slots ≡ n ∷ b.0 = ap (λ (t : Told). t.slots) told_is ∙ b.1 in
      slots ∙ ap (λ ns. n ∷ drop 1 ns) (sym slots)

  pub numbers_are : numbers_of g (file_in g bs n h) ≡ (told_of g bs n).slots
  numbers_are = ap (λ ns. n ∷ ns) (slots_placed g bs (drop 1 (told_of g bs n).slots)) ∙ sym begins

  -- what the headers list
  lists_placed : (is : List ℕ) → flat_map (λ (x : ℕ × Block). runs_listed x.1) (placed g bs is) ≡ flat_map (headers_at g bs).lists is
  lists_placed [] = refl
  lists_placed (i ∷ is) = ap (λ rs. (headers_at g bs).lists i ++ rs) (lists_placed is)

  pub whole_runs : runs_seen (file_in g bs n h) ≡ (told_of g bs n).runs
  whole_runs =
      ap (λ rs. cut h.blocks (runs_listed (header_block g bs n) ++ rs)) (lists_placed (drop 1 (told_of g bs n).slots))
      ∙ ap (λ ns. cut h.blocks (flat_map (headers_at g bs).lists ns)) (sym begins)
      ∙ ap (λ (t : Told). cut h.blocks (flat_map (headers_at g bs).lists t.slots)) told_is
      ∙ ap (λ (t : Told). t.runs) (sym told_is)

  pub whole_clusters : file_clusters g (file_in g bs n h) ≡ clusters_told g (told_of g bs n)
  whole_clusters = ap (λ (rs : List Run). clusters_of g.cluster rs) whole_runs

-- the file is seen the same where each file is
pub whole_stays : (g : Geometry) (bs new : List Block) (own : Owners) (x : Cat) (n : ℕ) (h : Hdr) → Spells g bs own x → IsFileNumber g n → FilesStay g bs new → file_in g new n h ≡ file_in g bs n h
whole_stays g bs new own x n h s is stays =
    let mine = stays n is in
    whole_same g bs new n h mine.told mine.header (λ m t. (stays m (slot_number g bs own x s n m is (behind_one (told_of g bs n).slots m t))).header)
  where
    behind_one : (ns : List ℕ) (m : ℕ) → Has (drop 1 ns) m → Has ns m
    behind_one [] m t = absurd t
    behind_one (i ∷ ns) m t = inr t
