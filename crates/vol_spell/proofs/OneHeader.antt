-- Files that have one header.
use Rattle.std.proofs.Common.{◌≡◌, ◌∙◌, ◌≤◌, ◌*◌, ◌==◌, ◌&&◌, ◌||◌, nat_lt, ℕ, suc, min, not, Bool, true, false, List, [], ◌∷◌, Option, Some, None, Ok, length, flat_map, refl, sym, ap, subst, inl, inr, arith, append-nil}
use Rattle.std.proofs.Math.Nat.{mul-le-mul_right}
use Rattle.std.proofs.lemmas.Bool.Decides.{nat_tests}
use Rattle.std.proofs.lemmas.Bool.{and_parts, le-leb, eqb-true, eq-eqb}
use Rattle.base_words.specs.Fields.{Block}
use Rattle.fx_header.specs.declared.run.Run.{Run}
use Rattle.fx_header.specs.declared.slot.Hdr.{Hdr}
use Rattle.fx_header.specs.declared.slot.Slot.TheVariants.{Used}
use Rattle.fx_header.specs.Headers.{runs_in}
use Rattle.fx_header.specs.Pointers.{blocks_in}
use Rattle.plain_rules.specs.Lookups.{header_most, file_most, extra}
use Rattle.vol_parts.specs.declared.geometry.Geometry.{Geometry}
use Rattle.vol_parts.specs.Chains.{held, cut, has_link, chain_with, chain_of, is_well_split}
use Rattle.vol_parts.specs.ChainLaws.{IsSplitOf}
use Rattle.vol_parts.specs.Fatal.{is_one_header}
use Rattle.vol_parts.specs.Volumes.{fields_in, Told, runs_with, chain_from, told_with}
use Rattle.vol_parts.proofs.Cuts.{cut-counts, cut-leaves}
use Rattle.vol_parts.proofs.Linked.{alone-slots}
use Rattle.vol_parts.proofs.Listed.{runs-some}
use Rattle.vol_parts.proofs.Splits.{split-counts, few-in-one}
use Rattle.vol_spell.specs.Reading.{header_block, headers_at, head_told, fields_told, told_of, alone, nobody, chain_told, clusters_of, clusters_told}
use Rattle.vol_spell.specs.Spelling.{AreWhole, size_in, has_one_at_most}
use Rattle.vol_spell.proofs.Heads.{used_reads, used_first}
use Rattle.vol_spell.proofs.Runs.{size_of_runs}

-- a file may have as many clusters as one header lists
pub within_file : (clusters : ℕ) → clusters ≤ header_most → clusters ≤ file_most
within_file clusters few = omega arith

-- ---- its slots

module _ (g : Geometry) (bs : List Block) (n : ℕ) (f : Hdr) (used : fields_told (header_block g bs n) ≡ Some f) where
  -- what is told of the file's chain is told by its fields
  by_fields : (P : Option Hdr → Told → Type 0) → P (fields_in (told_of g bs n).head) (told_of g bs n) → P (Some f) (told_with (head_told (header_block g bs n)) (chain_of (headers_at g bs) n f))
  by_fields P h = let Q : Option Hdr → Type 0 = λ o. P o (told_with (head_told (header_block g bs n)) (chain_from (headers_at g bs) n o)) in subst Q used h

  told_is : told_of g bs n ≡ told_with (head_told (header_block g bs n)) (chain_of (headers_at g bs) n f)
  told_is = ap (λ o. told_with (head_told (header_block g bs n)) (chain_from (headers_at g bs) n o)) used

  -- a file of one header has the slot of its number
  pub one_slot : has_one_at_most (fields_in (told_of g bs n).head) (told_of g bs n) ≡ true → (told_of g bs n).slots ≡ n ∷ []
  one_slot one =
      let parts = and_parts (f.ext == 0) (not (chain_of (headers_at g bs) n f).surplus && (blocks_in (chain_of (headers_at g bs) n f).runs == f.blocks)) (by_fields (λ o t. has_one_at_most o t ≡ true) one) in
      ap (λ (t : Told). t.slots) told_is ∙ alone-slots (headers_at g bs) 15 n f f.blocks (inl (eqb-true f.ext 0 parts.0))

  -- a file that is well split has so many clusters by its headers
  split_of : 1 ≤ g.cluster → AreWhole g (told_of g bs n).runs → blocks_in (told_of g bs n).runs ≡ size_in (fields_in (told_of g bs n).head)
      → is_well_split g.cluster (chain_told (told_of g bs n)) ≡ true → IsSplitOf g.cluster f (length (clusters_told g (told_of g bs n))) (chain_of (headers_at g bs) n f)
  split_of low whole size split =
      let all : length (clusters_told g (told_of g bs n)) * g.cluster ≡ blocks_in (told_of g bs n).runs = size_of_runs g (told_of g bs n).runs low whole in
      let said : blocks_in (chain_of (headers_at g bs) n f).runs ≡ f.blocks = by_fields (λ o t. blocks_in t.runs ≡ size_in o) size in
      let same : blocks_in (told_of g bs n).runs ≡ f.blocks = ap (λ (t : Told). blocks_in t.runs) told_is ∙ said in
      let turned : length (clusters_told g (told_of g bs n)) * g.cluster ≡ g.cluster * length (clusters_told g (told_of g bs n)) = omega arith in
      record {
        some = low;
        blocks = sym same ∙ sym all ∙ turned;
        whole = ap not (eq-eqb _ _ said);
        split = by_fields (λ o t. is_well_split g.cluster (chain_told t) ≡ true) split;
      }

  -- so it has one header where it has no more clusters than a header lists
  pub few_slot : 1 ≤ g.cluster → AreWhole g (told_of g bs n).runs → blocks_in (told_of g bs n).runs ≡ size_in (fields_in (told_of g bs n).head)
      → is_well_split g.cluster (chain_told (told_of g bs n)) ≡ true → length (clusters_told g (told_of g bs n)) ≤ header_most → (told_of g bs n).slots ≡ n ∷ []
  few_slot low whole size split few =
      ap (λ (t : Told). t.slots) told_is
      ∙ few-in-one (headers_at g bs) n f g.cluster (length (clusters_told g (told_of g bs n))) (split_of low whole size split) few

  -- it has a header for each 77 clusters that are begun, and one at least
  pub split_slots : 1 ≤ g.cluster → AreWhole g (told_of g bs n).runs → blocks_in (told_of g bs n).runs ≡ size_in (fields_in (told_of g bs n).head)
      → is_well_split g.cluster (chain_told (told_of g bs n)) ≡ true → length (told_of g bs n).slots ≡ suc (extra (length (clusters_told g (told_of g bs n))))
  split_slots low whole size split =
      ap (λ (t : Told). length t.slots) told_is
      ∙ split-counts (headers_at g bs) n f g.cluster (length (clusters_told g (told_of g bs n))) (split_of low whole size split)

  -- its slot says and lists what its header does
  says : (headers_at g bs).says n ≡ Some f
  says = ap fields_in (used_reads (header_block g bs n) f used)

  lists : (headers_at g bs).lists n ≡ runs_in (header_block g bs n)
  lists = ap (λ o. runs_with o (header_block g bs n)) says

  -- and so has one whose first header lists all of its blocks
  pub enough_slot : f.blocks ≤ blocks_in (runs_in (header_block g bs n)) → (told_of g bs n).slots ≡ n ∷ []
  enough_slot enough =
      let all : f.blocks ≤ held (headers_at g bs) n = subst (λ (rs : List Run). f.blocks ≤ blocks_in rs) (sym lists) enough in
      ap (λ (t : Told). t.slots) told_is ∙ alone-slots (headers_at g bs) 15 n f f.blocks (inr all)

  -- so what is told of it is told by this header
  pub told_alone : (told_of g bs n).slots ≡ n ∷ [] → told_of g bs n ≡ alone n f (header_block g bs n)
  told_alone one =
      let slots : (chain_of (headers_at g bs) n f).slots ≡ n ∷ [] = by_fields (λ o t. t.slots ≡ n ∷ []) one in
      let all : flat_map (headers_at g bs).lists (n ∷ []) ≡ runs_in (header_block g bs n) = append-nil ((headers_at g bs).lists n) ∙ lists in
      told_is
      ∙ ap (λ r. told_with r (chain_of (headers_at g bs) n f)) (used_first (header_block g bs n) f used)
      ∙ ap (λ ns. told_with (Ok (Used f)) (chain_with (headers_at g bs) f.blocks ns)) slots
      ∙ (λ i. record { head = Ok (Used f); slots = n ∷ []; parts = lists i ∷ []; runs = cut f.blocks (all i); surplus = has_link (says i) || nat_lt f.blocks (blocks_in (all i)) })

-- ---- what it says

-- a file of one header has the blocks that it says
pub one_sized : (g : Geometry) (bs : List Block) (n : ℕ) → has_one_at_most (fields_in (told_of g bs n).head) (told_of g bs n) ≡ true → blocks_in (told_of g bs n).runs ≡ size_in (fields_in (told_of g bs n).head)
one_sized g bs n one = by_fields (fields_told (header_block g bs n)) one where
  by_fields : (o : Option Hdr) → has_one_at_most o (told_with (head_told (header_block g bs n)) (chain_from (headers_at g bs) n o)) ≡ true → blocks_in (chain_from (headers_at g bs) n o).runs ≡ size_in o
  by_fields None e = refl
  by_fields (Some f) e =
      let t = chain_of (headers_at g bs) n f in
      let parts = and_parts (f.ext == 0) (not t.surplus && (blocks_in t.runs == f.blocks)) e in
      let size = and_parts (not t.surplus) (blocks_in t.runs == f.blocks) parts.1 in
      eqb-true (blocks_in t.runs) f.blocks size.1

-- one header with all blocks of the file has as many as it says
pub alone_size : (f : Hdr) (b : Block) → f.blocks ≤ blocks_in (runs_in b) → blocks_in (cut f.blocks (runs_in b)) ≡ f.blocks
alone_size f b enough = cut-counts f.blocks (runs_in b) ∙ (let e : min f.blocks (blocks_in (runs_in b)) ≡ f.blocks = omega arith in e)

-- and one with as many as it says lists all blocks of the file
pub alone_enough : (f : Hdr) (b : Block) → blocks_in (cut f.blocks (runs_in b)) ≡ f.blocks → f.blocks ≤ blocks_in (runs_in b)
alone_enough f b size = let e : min f.blocks (blocks_in (runs_in b)) ≡ f.blocks = sym (cut-counts f.blocks (runs_in b)) ∙ size in omega arith

-- where nothing else is listed, the file's runs are those that the header lists
pub alone_whole : (n : ℕ) (f : Hdr) (b : Block) → is_one_header f (alone n f b) ≡ true → cut f.blocks (runs_in b) ≡ runs_in b
alone_whole n f b one =
    let parts = and_parts (f.ext == 0) (not (alone n f b).surplus && (blocks_in (cut f.blocks (runs_in b)) == f.blocks)) one in
    let last = and_parts (not (alone n f b).surplus) (blocks_in (cut f.blocks (runs_in b)) == f.blocks) parts.1 in
    cut-leaves f.blocks (runs_in b) (runs-some b) (ltb-le f.blocks (blocks_in (runs_in b)) (no_surplus (not (f.ext == 0)) (nat_lt f.blocks (blocks_in (runs_in b))) last.0))
  where
    no_surplus : (a t : Bool) → not (a || t) ≡ true → t ≡ false
    no_surplus true t e = absurd (cc)
    no_surplus false false e = refl
    no_surplus false true e = absurd (cc)

    ltb-le : (a m : ℕ) → nat_lt a m ≡ false → m ≤ a
    ltb-le a m e = grind (arith, nat_tests)

-- one header whose file has no more clusters than it can list is well split
pub alone_split : (g : Geometry) (n : ℕ) (f : Hdr) (b : Block) → 1 ≤ g.cluster → AreWhole g (cut f.blocks (runs_in b)) → length (clusters_of g.cluster (cut f.blocks (runs_in b))) ≤ header_most
    → is_well_split g.cluster (chain_told (alone n f b)) ≡ true
unfolding is_well_split
alone_split g n f b low w few =
    let size = size_of_runs g (cut f.blocks (runs_in b)) low w in
    let most : length (clusters_of g.cluster (cut f.blocks (runs_in b))) * g.cluster ≤ header_most * g.cluster = mul-le-mul_right g.cluster few in
    let room : blocks_in (cut f.blocks (runs_in b)) ≤ header_most * g.cluster = omega arith in
    le-leb (blocks_in (cut f.blocks (runs_in b))) (header_most * g.cluster) room

-- and so is what has no header
pub none_split : (factor seq : ℕ) → is_well_split factor (chain_told (nobody seq)) ≡ true
unfolding is_well_split
none_split factor seq = refl
