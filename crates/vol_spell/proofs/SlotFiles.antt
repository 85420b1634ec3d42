-- A header slot is one file's, where no two files share a cluster.
use Rattle.std.proofs.Common.{◌≡◌, ◌≢◌, ◌∙◌, ◌<◌, ◌≤◌, ◌+◌, ◌-◌, ◌*◌, ◌/◌, ◌==◌, ◌⊎◌, ◌++◌, ℕ, zero, suc, not, true, false, List, [], ◌∷◌, Option, Some, None, length, take, map, flat_map, sum_by, slice_get, refl, sym, ap, subst, inl, inr, arith}
use Rattle.std.proofs.lemmas.Bool.{and_parts, eqb-true, eq-eqb, cases_lt}
use Rattle.std.proofs.lemmas.List.Sums.{sum_by-cons}
use Rattle.std.proofs.lemmas.List.Concat.{flat_map-append}
use Rattle.std.specs.List.{range_with_len}
use Rattle.base_words.specs.Fields.{Block}
use Rattle.base_words.specs.Lists.{Has}
use Rattle.base_words.proofs.Listing.{same_or_not, has_second, place_of}
use Rattle.fx_header.specs.declared.run.Run.{Run}
use Rattle.fx_header.specs.declared.slot.Hdr.{Hdr}
use Rattle.fx_header.specs.Headers.{header_read}
use Rattle.fx_header.specs.Pointers.{blocks_in, lbns_in}
use Rattle.plain_rules.specs.Lookups.{header_most}
use Rattle.vol_parts.specs.declared.geometry.Geometry.{Geometry}
use Rattle.vol_parts.specs.Chains.{Headers, held, slots_from, most_headers, chain_of, is_broken, are_parts_filled, is_well_split}
use Rattle.vol_parts.specs.Volumes.{fields_in, chain_from}
use Rattle.vol_parts.proofs.Walks.{walk, walk-none, walk-begins, begins-there, slots-rise}
use Rattle.vol_parts.proofs.Linked.{alone-slots, whole-listed}
use Rattle.vol_parts.proofs.Cuts.{cut-takes}
use Rattle.vol_parts.proofs.Runs.{length-lbns_in}
use Rattle.vol_parts.proofs.Alone.{first-is}
use Rattle.vol_spell.specs.Reading.{header_block, headers_at, fields_told, told_of, chain_told, clusters_told}
use Rattle.vol_spell.specs.Spelling.{AreWhole, size_in, has_one_at_most}
use Rattle.vol_spell.proofs.OneHeader.{one_slot}
use Rattle.vol_spell.proofs.Runs.{has_cluster}

-- ---- blocks of a chain

-- the first block that the header in slot m lists is one of these
pub record ListsBlock (h : Headers) (m : ℕ) (ls : List ℕ) : Type 0 where
  pub block : ℕ
  pub first : slice_get (lbns_in (h.lists m)) 0 ≡ Some block
  pub has : Has ls block

take_along : (xs ys : List ℕ) (k : ℕ) → length xs ≤ k → take k (xs ++ ys) ≡ xs ++ take (k - length xs) ys
take_along [] ys k le = let e : k - 0 ≡ k = omega arith in ap (λ n. take n ys) (sym e)
take_along (x ∷ xs) ys zero le = absurd (omega arith)
take_along (x ∷ xs) ys (suc k) le =
    let e : suc k - suc (length xs) ≡ k - length xs = omega arith in
    rw e (ap (λ zs. x ∷ zs) (take_along xs ys k (omega arith)))

-- a list that has an item begins with one
begins : (xs : List ℕ) → 1 ≤ length xs → (x : ℕ) × (slice_get xs 0 ≡ Some x)
begins [] some = absurd (omega arith)
begins (x ∷ xs) some = (x, refl)

-- and its first one is there after a cut that leaves one
first_left : (xs ys : List ℕ) (k x : ℕ) → 1 ≤ k → slice_get xs 0 ≡ Some x → Has (take k (xs ++ ys)) x
first_left [] ys k x some e = absurd (let f : None ≡ Some x = e in cc)
first_left (y ∷ xs) ys zero x some e = absurd (omega arith)
first_left (y ∷ xs) ys (suc k) x some e = inl (let f : Some y ≡ Some x = e in cc)

-- the first slot of a walk has the first of the blocks that are left
first_lists : (h : Headers) (n left : ℕ) (others : List ℕ) → 1 ≤ held h n → 1 ≤ left → ListsBlock h n (take left (lbns_in (flat_map h.lists (n ∷ others))))
first_lists h n left others some any =
    let x = begins (lbns_in (h.lists n)) (let e = length-lbns_in (h.lists n) in omega (arith, e, some)) in
    record {
      block = x.0;
      first = x.1;
      has = subst (λ (ls : List ℕ). Has (take left ls) x.0) (sym (flat_map-append (λ (r : Run). range_with_len r.lbn r.count) (h.lists n) (flat_map h.lists others)))
          (first_left (lbns_in (h.lists n)) (lbns_in (flat_map h.lists others)) left x.0 any x.1);
    }

-- and a later one has what it has of those that are left behind the first
later_lists : (h : Headers) (n left m : ℕ) (others : List ℕ) → held h n ≤ left → ListsBlock h m (take (left - held h n) (lbns_in (flat_map h.lists others)))
    → ListsBlock h m (take left (lbns_in (flat_map h.lists (n ∷ others))))
later_lists h n left m others le is =
    let here = lbns_in (h.lists n) in
    let there = lbns_in (flat_map h.lists others) in
    let long : length here ≡ held h n = length-lbns_in (h.lists n) in
    let parted : take left (here ++ there) ≡ here ++ take (left - held h n) there = take_along here there left (omega (arith, long, le)) ∙ ap (λ k. here ++ take (left - k) there) long in
    record {
      block = is.block;
      first = is.first;
      has = subst (λ (ls : List ℕ). Has ls is.block)
          (sym (ap (take left) (flat_map-append (λ (r : Run). range_with_len r.lbn r.count) (h.lists n) (flat_map h.lists others)) ∙ parted))
          (has_second here (take (left - held h n) there) is.block is.has);
    }

-- the last header has all blocks that are left
last_holds : (h : Headers) (n left : ℕ) → left ≤ sum_by (held h) (n ∷ []) → left ≤ held h n
last_holds h n left le = let e = sum_by-cons (held h) n [] in omega (arith, e, le)

one_lists : (h : Headers) (n left m : ℕ) (ns : List ℕ) → ns ≡ n ∷ [] → 1 ≤ left → left ≤ sum_by (held h) ns → Has ns m → ListsBlock h m (take left (lbns_in (flat_map h.lists ns)))
one_lists h n left m ns e some all t =
    let enough : left ≤ held h n = last_holds h n left (subst (λ (xs : List ℕ). left ≤ sum_by (held h) xs) e all) in
    subst (λ (xs : List ℕ). ListsBlock h m (take left (lbns_in (flat_map h.lists xs)))) (sym e)
    (elim (subst (λ (xs : List ℕ). Has xs m) e t) [
      | inl same ↦ subst (λ (j : ℕ). ListsBlock h j (take left (lbns_in (flat_map h.lists (n ∷ []))))) same (first_lists h n left [] (omega (arith, enough, some)) some)
      | inr none ↦ absurd none
    ])

-- each slot of a walk that ends with all blocks, and of which all headers but the last list as many as they can, lists one of them
slots_list : (h : Headers) (full k n : ℕ) (f : Hdr) (left m : ℕ) → 1 ≤ full → 1 ≤ left → left ≤ sum_by (held h) (slots_from h k n f left)
    → are_parts_filled full left (map h.lists (slots_from h k n f left)) ≡ true → Has (slots_from h k n f left) m
    → ListsBlock h m (take left (lbns_in (flat_map h.lists (slots_from h k n f left))))
slots_list h full zero n f left m room some all filled t = absurd (subst (λ (ns : List ℕ). Has ns m) (walk-none h n f left) t)
slots_list h full (suc zero) n f left m room some all filled t = one_lists h n left m (slots_from h (suc zero) n f left) one some all t where
  one : slots_from h (suc zero) n f left ≡ n ∷ []
  one =
      elim (walk h zero n f left) [
        | inl g ↦ g.slots ∙ ap (λ ns. n ∷ ns) (walk-none h f.ext g.next (left - held h n))
        | inr e ↦ e.slots
      ]
slots_list h full (suc (suc k)) n f left m room some all filled t =
    elim (walk h (suc k) n f left) [
      | inl g ↦
          let rest = slots_from h (suc k) f.ext g.next (left - held h n) in
          let next = walk-begins h k f.ext g.next (left - held h n) in
          let slots : slots_from h (suc (suc k)) n f left ≡ n ∷ f.ext ∷ next.0 = g.slots ∙ ap (λ ns. n ∷ ns) next.1 in
          let parts = and_parts (blocks_in (h.lists n) == full) (are_parts_filled full (left - held h n) (map h.lists (f.ext ∷ next.0)))
          (ap (λ ns. are_parts_filled full left (map h.lists ns)) (sym slots) ∙ filled) in
          let holds : held h n ≡ full = eqb-true _ _ parts.0 in
          let more = g.more in
          let sum : sum_by (held h) (slots_from h (suc (suc k)) n f left) ≡ held h n + sum_by (held h) rest = ap (sum_by (held h)) g.slots ∙ sum_by-cons (held h) n rest in
          let behind : are_parts_filled full (left - held h n) (map h.lists rest) ≡ true = ap (λ ns. are_parts_filled full (left - held h n) (map h.lists ns)) next.1 ∙ parts.1 in
          subst (λ (ns : List ℕ). ListsBlock h m (take left (lbns_in (flat_map h.lists ns)))) (sym g.slots)
          (elim (subst (λ (ns : List ℕ). Has ns m) g.slots t) [
            | inl same ↦ subst (λ (j : ℕ). ListsBlock h j (take left (lbns_in (flat_map h.lists (n ∷ rest))))) same (first_lists h n left rest (omega (arith, holds, room)) some)
            | inr u ↦ later_lists h n left m rest (omega (arith, more)) (slots_list h full (suc k) f.ext g.next (left - held h n) m room (omega (arith, more)) (omega (arith, sum, all, more)) behind u)
          ])
      | inr e ↦ one_lists h n left m (slots_from h (suc (suc k)) n f left) e.slots some all t
    ]

-- so each slot but the first of a chain that is not broken and well split lists one of the file's blocks
chain_lists : (h : Headers) (factor n : ℕ) (f : Hdr) (m : ℕ) → 1 ≤ factor → is_broken f (chain_of h n f) ≡ false → is_well_split factor (chain_of h n f) ≡ true
    → Has (chain_of h n f).slots m → m ≢ n → ListsBlock h m (lbns_in (chain_of h n f).runs)
unfolding is_well_split
chain_lists h factor n f m low whole split t other =
    let listed = whole-listed h n f whole in
    let filled : are_parts_filled (header_most * factor) f.blocks (chain_of h n f).parts ≡ true = ap (λ b. are_parts_filled (header_most * factor) b (chain_of h n f).parts) (sym listed.1) ∙ split in
    let lists = flat_map h.lists (slots_from h most_headers n f f.blocks) in
    subst (λ (ls : List ℕ). ListsBlock h m ls) (sym (cut-takes f.blocks lists))
    (slots_list h (header_most * factor) most_headers n f f.blocks m (omega arith) (some_blocks (cases_lt 0 f.blocks)) listed.0 filled t)
  where
    some_blocks : (0 < f.blocks) ⊎ (f.blocks ≤ 0) → 1 ≤ f.blocks
    some_blocks (inl some) = omega arith
    some_blocks (inr none) =
        let one : slots_from h most_headers n f f.blocks ≡ n ∷ [] = alone-slots h 15 n f f.blocks (inr (omega arith)) in
        absurd (elim (subst (λ (ns : List ℕ). Has ns m) one t) [ inl same ↦ other (sym same) | inr none ↦ none ])

-- ---- files

-- The chain of a file is not broken; that of a file above number 11 is well split, and that of a system file has one header.
pub record IsSoundChain (g : Geometry) (bs : List Block) (n : ℕ) : Type 0 where
  pub whole : AreWhole g (told_of g bs n).runs
  pub size : blocks_in (told_of g bs n).runs ≡ size_in (fields_in (told_of g bs n).head)
  pub split : 11 < n → is_well_split g.cluster (chain_told (told_of g bs n)) ≡ true
  pub system : n ≤ 11 → has_one_at_most (fields_in (told_of g bs n).head) (told_of g bs n) ≡ true

-- a file in use has fields
used_fields : (g : Geometry) (bs : List Block) (n m : ℕ) → Has (told_of g bs n).slots m → (f : Hdr) × (fields_told (header_block g bs n) ≡ Some f)
used_fields g bs n m t = by_fields (fields_told (header_block g bs n)) refl t where
  by_fields : (o : Option Hdr) → fields_told (header_block g bs n) ≡ o → Has (chain_from (headers_at g bs) n o).slots m → (f : Hdr) × (fields_told (header_block g bs n) ≡ Some f)
  by_fields None e u = absurd u
  by_fields (Some f) e u = (f, e)

-- a slot of another number in such a chain lists a block of the file
slot_lists : (g : Geometry) (bs : List Block) (n m : ℕ) → 1 ≤ g.cluster → IsSoundChain g bs n → Has (told_of g bs n).slots m → m ≢ n → ListsBlock (headers_at g bs) m (lbns_in (told_of g bs n).runs)
slot_lists g bs n m low sound t other = by_fields (fields_told (header_block g bs n)) sound.size (by_kind (cases_lt 11 n)) t where
  by_kind : (11 < n) ⊎ (n ≤ 11) → is_well_split g.cluster (chain_told (told_of g bs n)) ≡ true
  by_kind (inl above) = sound.split above
  by_kind (inr first) =
      let used = used_fields g bs n m t in
      let one = one_slot g bs n used.0 used.1 (sound.system first) in
      absurd (elim (subst (λ (ns : List ℕ). Has ns m) one t) [ inl same ↦ other (sym same) | inr none ↦ none ])

  by_fields : (o : Option Hdr) → blocks_in (chain_from (headers_at g bs) n o).runs ≡ size_in o → is_well_split g.cluster (chain_from (headers_at g bs) n o) ≡ true
      → Has (chain_from (headers_at g bs) n o).slots m → ListsBlock (headers_at g bs) m (lbns_in (chain_from (headers_at g bs) n o).runs)
  by_fields None size split u = absurd u
  by_fields (Some f) size split u = chain_lists (headers_at g bs) g.cluster n f m low (ap not (eq-eqb _ _ size)) split u other

-- the slot of a file's own number is in no chain of another
first_own : (g : Geometry) (bs : List Block) (n k : ℕ) (f : Hdr) → fields_told (header_block g bs n) ≡ Some f → Has (told_of g bs k).slots n → n ≡ k
first_own g bs n k f used t = by_fields (fields_told (header_block g bs k)) refl t where
  by_fields : (o : Option Hdr) → fields_told (header_block g bs k) ≡ o → Has (chain_from (headers_at g bs) k o).slots n → n ≡ k
  by_fields None e u = absurd u
  by_fields (Some x) e u =
      let h = headers_at g bs in
      let mine = first-is (header_read (header_block g bs n)) f used in
      let theirs = first-is (header_read (header_block g bs k)) x e in
      let place = place_of (slots_from (headers_at g bs) 16 k x x.blocks) n u in
      let there = slots-rise (headers_at g bs) 16 k x x.blocks place.0 n (ap fields_in theirs.0) place.1 in
      let same : Some there.header ≡ Some f = sym there.says ∙ ap fields_in mine.0 in
      let one : there.header.seg ≡ f.seg = (let e : there.header ≡ f = cc in ap (λ (y : Hdr). y.seg) e) in
      let first : place.0 ≡ 0 = omega (arith, there.segment, one, mine.1, theirs.1) in
      let both : Some n ≡ Some k = sym place.1 ∙ ap (slice_get (slots_from (headers_at g bs) 16 k x x.blocks)) first ∙ begins-there (headers_at g bs) 15 k x x.blocks in
      cc

-- a slot is in the chain of one file, where those that share a cluster are one
pub one_file : (g : Geometry) (bs : List Block) (n k m : ℕ) → 1 ≤ g.cluster → IsSoundChain g bs n → IsSoundChain g bs k
    → ((q : ℕ) → Has (clusters_told g (told_of g bs n)) q → Has (clusters_told g (told_of g bs k)) q → n ≡ k)
    → Has (told_of g bs n).slots m → Has (told_of g bs k).slots m → n ≡ k
one_file g bs n k m low first other apart t u = by_own (same_or_not m n) (same_or_not m k) where
  by_own : (m ≡ n) ⊎ (m ≢ n) → (m ≡ k) ⊎ (m ≢ k) → n ≡ k
  by_own (inl e) either =
      let used = used_fields g bs n m t in
      first_own g bs n k used.0 used.1 (subst (λ (j : ℕ). Has (told_of g bs k).slots j) e u)
  by_own (inr ne) (inl e) =
      let used = used_fields g bs k m u in
      sym (first_own g bs k n used.0 used.1 (subst (λ (j : ℕ). Has (told_of g bs n).slots j) e t))
  by_own (inr ne) (inr nf) =
      let a = slot_lists g bs n m low first t ne in
      let b = slot_lists g bs k m low other u nf in
      let same : a.block ≡ b.block = (let e : Some a.block ≡ Some b.block = sym a.first ∙ b.first in cc) in
      let mine = has_cluster g (told_of g bs n) a.block low first.whole a.has in
      let theirs = has_cluster g (told_of g bs k) b.block low other.whole b.has in
      apart (a.block / g.cluster) mine (subst (λ (l : ℕ). Has (clusters_told g (told_of g bs k)) (l / g.cluster)) (sym same) theirs)
