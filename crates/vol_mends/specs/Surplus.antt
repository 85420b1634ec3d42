-- The last header of a file, cut to the blocks that the file has in it.
use Rattle.std.specs.Prelude.{◌≡◌, ◌≢◌, ◌≤◌, ◌<◌, ◌-◌, ◌⊎◌, ◌++◌, ℕ, zero, suc, false, List, Some, All}
use Rattle.fx_header.specs.declared.run.Run.{Run}
use Rattle.fx_header.specs.declared.slot.Hdr.{Hdr}
use Rattle.fx_header.specs.Pointers.{merged}
use Rattle.vol_parts.specs.Chains.{Headers, HeaderChain, held, next_header, cut, most_headers, chain_of, is_well_split}
use Rattle.vol_parts.specs.ChainLaws.{HasBlocks, IsSameSlot}

-- a header without its link
abbrev pub unlinked : Hdr → Hdr
unlinked x = record x { ext = 0; ext_seq = 0 }

-- The header x in slot m lists the first `rest` blocks of its runs alone, with adjacent runs merged, and has no link; the other slots
-- stay. No header lists a run without a block.
pub record IsCutAt (h g : Headers) (m : ℕ) (x : Hdr) (rest : ℕ) : Type 0 where
  pub files : g.files ≡ h.files
  pub says : g.says m ≡ Some (unlinked x)
  pub lists : g.lists m ≡ merged (cut rest (h.lists m))
  pub others : (i : ℕ) → i ≢ m → IsSameSlot h g i
  pub some : (i : ℕ) → All HasBlocks (g.lists i)

-- Of so many blocks from the slot n on, whose header is f, along the links, the last `rest` ones lie in the slot m, whose header is x;
-- k slots at most.
abbrev pub EndsAt : Headers → ℕ → ℕ → Hdr → ℕ → ℕ → Hdr → ℕ → Type 0
EndsAt h zero n f left m x rest = ⊥
EndsAt h (suc k) n f left m x rest =
    ((left ≤ held h n) × (n ≡ m) × (f ≡ x) × (left ≡ rest))
    ⊎ ((held h n < left) × ((y : Hdr) × (next_header h f ≡ Some y) × EndsAt h k f.ext y (left - held h n) m x rest))

-- the same runs, but that from one of them on adjacent ones are merged
pub record AreMerged (old new : List Run) : Type 0 where
  pub front : List Run
  pub back : List Run
  pub was : old ≡ front ++ back
  pub now : new ≡ front ++ merged back

-- what is told of the file then: the same slots, the same runs but for merged ones, split as well as before, and nothing behind them
pub record IsChainCut (old new : HeaderChain) : Type 0 where
  pub slots : new.slots ≡ old.slots
  pub runs : AreMerged old.runs new.runs
  pub split : (factor : ℕ) → is_well_split factor new ≡ is_well_split factor old
  pub surplus : new.surplus ≡ false

-- a file whose last header is cut so, and whose first header says the same but for a link that is gone
abbrev pub LastIsCut : Type 0
LastIsCut = (h g : Headers) (n : ℕ) (f first : Hdr) (m : ℕ) (x : Hdr) (rest : ℕ) → h.says n ≡ Some f → EndsAt h most_headers n f f.blocks m x rest → IsCutAt h g m x rest → g.says n ≡ Some first → first.blocks ≡ f.blocks
    → IsChainCut (chain_of h n f) (chain_of g n first)
