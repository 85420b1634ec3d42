-- The entries of a directory, block by block, and the first fault.
use Rattle.std.specs.Prelude.{◌≡◌, ◌+◌, min, ℕ, List, [], ◌∷◌, ◌++◌, Option, Some, None, unwrap_or, Result, Ok, Err, true, map, if◌then◌else◌}
use Rattle.base_words.specs.Fields.{Block}
use Rattle.fx_dir.specs.declared.RawEnt.{RawEnt}
use Rattle.fx_dir.specs.declared.DirFault.{DirFault}
use Rattle.fx_dir.specs.declared.DirFault.TheVariants.{BadRecord, BadOrder, Clash, NoMemory}
use Rattle.fx_dir.specs.Lists.{Each, In, joined}
use Rattle.fx_dir.specs.Entries.{rises, fresh, any_clash, plain}
use Rattle.fx_dir.specs.Records.{block_entries}

-- The entries es met so far with those of one more block: what is new of it comes behind them.
abbrev pub one_more : ℕ → List RawEnt → Option (List RawEnt) → Result (List RawEnt) DirFault
one_more vbn es None = Err (BadRecord vbn)
one_more vbn es (Some fs) =
    if rises (es ++ fresh es fs) then (if any_clash es fs then Err Clash else Ok (es ++ fresh es fs)) else Err BadOrder

abbrev pub and_then : Result (List RawEnt) DirFault → (List RawEnt → Result (List RawEnt) DirFault) → Result (List RawEnt) DirFault
and_then (Ok es) f = f es
and_then (Err fault) f = Err fault

-- the VBN of the block after this one, as far as 32 bits go
abbrev pub next_vbn : ℕ → ℕ
next_vbn vbn = min (vbn + 1) 4294967295

-- the entries, where es were met before these blocks, of which the first has this VBN
abbrev pub read_on : ℕ → List RawEnt → List Block → Result (List RawEnt) DirFault
read_on vbn es [] = Ok es
read_on vbn es (b ∷ bs) = and_then (one_more vbn es (block_entries b)) (λ fs. read_on (next_vbn vbn) fs bs)

-- The entries of a directory: each entry of its blocks once, as it is met first, or the first fault. In each block that
-- is, in this order, a block that is no list of records in order, entries out of order, a clash.
abbrev pub directory : List Block → Result (List RawEnt) DirFault
directory bs = read_on 1 [] bs

abbrev pub plainly : Result (List RawEnt) DirFault → Result (List RawEnt) DirFault
plainly (Ok es) = Ok (map plain es)
plainly (Err fault) = Err fault

-- the same without the version limits and the flags of records
abbrev pub dir_entries : List Block → Result (List RawEnt) DirFault
dir_entries bs = plainly (directory bs)

-- a call answers this, unless memory ran out
abbrev pub Gives : {V A : Type 0} → (V → A) → Result A DirFault → Result V DirFault → Type 0
Gives view given (Ok v) = given ≡ Ok (view v)
Gives view given (Err NoMemory) = Unit {0}
Gives view given (Err (BadRecord vbn)) = given ≡ Err (BadRecord vbn)
Gives view given (Err BadOrder) = given ≡ Err BadOrder
Gives view given (Err Clash) = given ≡ Err Clash

-- the entries of all records of these blocks
abbrev pub entries_at : Block → List RawEnt
entries_at b = unwrap_or (block_entries b) []

abbrev pub all_entries : List Block → List RawEnt
all_entries bs = joined (map entries_at bs)

-- These are the entries of the blocks as a set: in order, so that none comes twice, each the entry of a record, and of
-- each record every entry. A name and version that stands in two records has one file identifier in both, while the
-- version limits and the flags of the two may differ.
pub record IsSetOf (bs : List Block) (es : List RawEnt) : Type 0 where
  pub rising : rises es ≡ true
  pub sound : Each (λ e. In (all_entries bs) e) es
  pub complete : Each (λ e. In (map plain es) (plain e)) (all_entries bs)

abbrev pub ReadsSet : Type 0
ReadsSet = (bs : List Block) (es : List RawEnt) → directory bs ≡ Ok es → IsSetOf bs es
