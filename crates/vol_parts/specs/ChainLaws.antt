-- What holds of every cut and of every chain of headers.
use Rattle.std.specs.Prelude.{◌≡◌, ◌+◌, ◌*◌, ◌-◌, ◌/◌, ◌%◌, ◌<◌, ◌≤◌, ◌⊎◌, ℕ, suc, min, true, false, List, [], ◌∷◌, Some, None, All, length, map, take, slice_get}
use Rattle.std.specs.List.{list_any, sum_by}
use Rattle.base_words.specs.Lists.{Has, Once}
use Rattle.fx_header.specs.declared.run.Run.{Run}
use Rattle.fx_header.specs.declared.slot.Hdr.{Hdr}
use Rattle.fx_header.specs.Pointers.{blocks_in, lbns_in}
use Rattle.plain_rules.specs.Lookups.{header_most}
use Rattle.vol_parts.specs.Volumes.{Volume, factor, fields, listed_in}
use Rattle.vol_parts.specs.Fatal.{chain_fault, is_off_bounds, is_too_large}
use Rattle.vol_parts.specs.Chains.{Headers, HeaderChain, held, follows, slots_from, cut, most_headers, chain_with, chain_of, is_broken, is_well_split}

-- ---- cuts

-- a run has a block at least
abbrev pub HasBlocks : Run → Type 0
HasBlocks r = 1 ≤ r.count

-- a cut has the first blocks of the runs, in their order
abbrev pub CutTakesFirst : Type 0
CutTakesFirst = (k : ℕ) (rs : List Run) → lbns_in (cut k rs) ≡ take k (lbns_in rs)

-- so many as were asked for, or all
abbrev pub CutCounts : Type 0
CutCounts = (k : ℕ) (rs : List Run) → blocks_in (cut k rs) ≡ min k (blocks_in rs)

-- where there are no more than those, the runs stay as they are
abbrev pub CutLeavesAll : Type 0
CutLeavesAll = (k : ℕ) (rs : List Run) → All HasBlocks rs → blocks_in rs ≤ k → cut k rs ≡ rs

-- no run of a cut is empty
abbrev pub CutHasBlocks : Type 0
CutHasBlocks = (k : ℕ) (rs : List Run) → All HasBlocks rs → All HasBlocks (cut k rs)

-- runs that begin and end at bounds of clusters, inside the whole clusters, do so after a cut at such a bound
abbrev pub CutStaysInside : Type 0
CutStaysInside =
    (v : Volume) (k : ℕ) (rs : List Run) → k % factor v ≡ 0 → list_any (is_off_bounds v) rs ≡ false → list_any (is_off_bounds v) (cut k rs) ≡ false

-- the runs that a header lists are such runs
abbrev pub ListedHaveBlocks : Type 0
ListedHaveBlocks = (v : Volume) (n : ℕ) → All HasBlocks (listed_in v n)

-- ---- the slots of a chain

-- a number of a header slot
pub record IsSlot (h : Headers) (n : ℕ) : Type 0 where
  pub from : 1 ≤ n
  pub to : n ≤ h.files

-- the slot m is used, by a header with this SEG_NUM
pub record IsSegment (h : Headers) (m s : ℕ) : Type 0 where
  pub header : Hdr
  pub says : h.says m ≡ Some header
  pub segment : header.seg ≡ s

-- the first slot is the one that the walk begins at
abbrev pub BeginsThere : Type 0
BeginsThere = (h : Headers) (k n : ℕ) (f : Hdr) (left : ℕ) → slice_get (slots_from h (suc k) n f left) 0 ≡ Some n

-- there are at most so many as were asked for
abbrev pub SlotsAreFew : Type 0
SlotsAreFew = (h : Headers) (k n : ℕ) (f : Hdr) (left : ℕ) → length (slots_from h k n f left) ≤ k

-- each is the number of a slot
abbrev pub SlotsAreNumbers : Type 0
SlotsAreNumbers = (h : Headers) (k n : ℕ) (f : Hdr) (left m : ℕ) → IsSlot h n → Has (slots_from h k n f left) m → IsSlot h m

-- their SEG_NUMs rise by one from slot to slot
abbrev pub SegmentsRise : Type 0
SegmentsRise =
    (h : Headers) (k n : ℕ) (f : Hdr) (left i m : ℕ) → h.says n ≡ Some f → slice_get (slots_from h k n f left) i ≡ Some m
    → IsSegment h m (f.seg + i)

-- so no slot stands twice in a chain
abbrev pub SlotsStandOnce : Type 0
SlotsStandOnce = (h : Headers) (k n : ℕ) (f : Hdr) (left : ℕ) → h.says n ≡ Some f → Once (slots_from h k n f left)

-- ---- chains that are known

-- a header without a link has a chain of one slot, and so has one that lists all blocks of the file
abbrev pub OneIsAlone : Type 0
OneIsAlone =
    (h : Headers) (n : ℕ) (f : Hdr) → (f.ext ≡ 0) ⊎ (f.blocks ≤ held h n) → chain_of h n f ≡ chain_with h f.blocks (n ∷ [])

-- one without a link that lists just these blocks lists the file's runs, and nothing behind them
abbrev pub OneIsWhole : Type 0
OneIsWhole =
    (h : Headers) (n : ℕ) (f : Hdr) → h.says n ≡ Some f → f.ext ≡ 0 → held h n ≡ f.blocks → All HasBlocks (h.lists n)
    → ((chain_of h n f).runs ≡ h.lists n) × ((chain_of h n f).surplus ≡ false)

-- these slots, each with what its header says, are linked behind the header f, in this order
abbrev pub AreLinked : Headers → Hdr → List (ℕ × Hdr) → Type 0
AreLinked h f [] = Unit {0}
AreLinked h f ((m, x) ∷ others) =
    IsSlot h m × (f.ext ≡ m) × (h.says m ≡ Some x) × (follows f x ≡ true) × AreLinked h x others

-- of so many blocks from slot n on the last one lies in the last of these slots
abbrev pub EndInLast : Headers → ℕ → ℕ → List (ℕ × Hdr) → Type 0
EndInLast h left n [] = left ≤ held h n
EndInLast h left n ((m, x) ∷ others) = (held h n < left) × EndInLast h (left - held h n) m others

-- headers that are linked so, of which the last has the last block, are the file's
abbrev pub LinkedAreChain : Type 0
LinkedAreChain =
    (h : Headers) (k n : ℕ) (f : Hdr) (left : ℕ) (others : List (ℕ × Hdr)) → length others < k → AreLinked h f others
    → EndInLast h left n others → slots_from h k n f left ≡ n ∷ map (λ o. o.0) others

-- by sums: the slots but the last have fewer blocks together, and all have as many
abbrev pub SumsEndInLast : Type 0
SumsEndInLast =
    (h : Headers) (left n : ℕ) (others : List (ℕ × Hdr))
    → (1 ≤ length others → sum_by (held h) (take (length others) (n ∷ map (λ o. o.0) others)) < left)
    → left ≤ sum_by (held h) (n ∷ map (λ o. o.0) others) → EndInLast h left n others

-- ---- chains that stay

-- the slot m says and lists the same in both
pub record IsSameSlot (h g : Headers) (m : ℕ) : Type 0 where
  pub says : g.says m ≡ h.says m
  pub lists : g.lists m ≡ h.lists m

-- where the slots of a chain that is not broken stay, the chain stays
abbrev pub ChainStays : Type 0
ChainStays =
    (h g : Headers) (n : ℕ) (f : Hdr) → g.files ≡ h.files → is_broken f (chain_of h n f) ≡ false
    → ((m : ℕ) → Has (chain_of h n f).slots m → IsSameSlot h g m) → chain_of g n f ≡ chain_of h n f

-- ---- chains that are well split

-- a chain of so many clusters that is well split and not broken
pub record IsSplitOf (factor : ℕ) (f : Hdr) (clusters : ℕ) (c : HeaderChain) : Type 0 where
  pub some : 1 ≤ factor
  pub blocks : f.blocks ≡ factor * clusters
  pub whole : is_broken f c ≡ false
  pub split : is_well_split factor c ≡ true

-- it has a header for each 77 clusters that are begun, and one at least
abbrev pub SplitCounts : Type 0
SplitCounts =
    (h : Headers) (n : ℕ) (f : Hdr) (factor clusters : ℕ) → IsSplitOf factor f clusters (chain_of h n f)
    → length (chain_of h n f).slots ≡ suc ((clusters - 1) / header_most)

-- so it has at most 1,232 clusters
abbrev pub SplitIsFew : Type 0
SplitIsFew =
    (h : Headers) (n : ℕ) (f : Hdr) (factor clusters : ℕ) → IsSplitOf factor f clusters (chain_of h n f)
    → clusters ≤ most_headers * header_most

-- and where it has at most 77, it has one header
abbrev pub FewAreInOne : Type 0
FewAreInOne =
    (h : Headers) (n : ℕ) (f : Hdr) (factor clusters : ℕ) → IsSplitOf factor f clusters (chain_of h n f)
    → clusters ≤ header_most → (chain_of h n f).slots ≡ n ∷ []

-- a file whose chain has no fault has at most 1,232 clusters, also if its last cluster is not whole
abbrev pub SoundIsFew : Type 0
SoundIsFew = (v : Volume) (n : ℕ) → chain_fault v n ≡ None → is_too_large v (fields v n) ≡ false
