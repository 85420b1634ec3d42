-- The chain of headers of a file: the first header, and those to which the links lead, as far as the file's blocks go.
use Rattle.std.specs.Prelude.{◌+◌, ◌*◌, ◌-◌, ◌==◌, ◌&&◌, ◌||◌, not, nat_le, nat_lt, ℕ, zero, suc, Bool, true, false, List, [], ◌∷◌, Option, Some, None, Result, Ok, Err, map, flat_map, if◌then◌else◌}
use Rattle.fx_header.specs.declared.run.Run.{Run}
use Rattle.fx_header.specs.declared.slot.Hdr.{Hdr}
use Rattle.fx_header.specs.declared.slot.Slot.{Slot}
use Rattle.fx_header.specs.declared.slot.Slot.TheVariants.{Free, Used}
use Rattle.fx_header.specs.declared.slot.HeaderFault.{HeaderFault}
use Rattle.fx_header.specs.Pointers.{blocks_in}
use Rattle.plain_rules.specs.Lookups.{header_most}

-- ---- what the slots say

-- what the header slots of a volume say, by number: the fields, where the slot is used, be it by a first header or by another one,
-- and the runs that its header lists
pub record Headers : Type 0 where
  pub files : ℕ
  pub says : ℕ → Option Hdr
  pub lists : ℕ → List Run

-- what a slot says of a file: that of another header than a file's first one is told as a free one
abbrev pub as_first : Result Slot HeaderFault → Result Slot HeaderFault
as_first (Ok (Used f)) = if f.seg == 0 then Ok (Used f) else Ok (Free f.seq)
as_first (Ok (Free seq)) = Ok (Free seq)
as_first (Err fault) = Err fault

-- the blocks of the runs that the header in a slot lists
abbrev pub held : Headers → ℕ → ℕ
held h n = blocks_in (h.lists n)

-- ---- the links

-- the header x is the one that the link of f names, and it is the next of the file
unfoldable pub follows : Hdr → Hdr → Bool
follows f x = (x.num == f.ext) && ((x.seq == f.ext_seq) && (x.seg == f.seg + 1))

abbrev pub only_following : Hdr → Option Hdr → Option Hdr
only_following f None = None
only_following f (Some x) = if follows f x then Some x else None

-- the next header of the file behind f, if the link names the number of a slot that is used and follows
unfoldable pub next_header : Headers → Hdr → Option Hdr
next_header h f = if nat_le 1 f.ext && nat_le f.ext h.files then only_following f (h.says f.ext) else None

abbrev pub slots_behind : Option Hdr → (Hdr → List ℕ) → List ℕ
slots_behind None slots = []
slots_behind (Some x) slots = slots x

-- the slots from n on, whose header says f, along the links until `left` blocks lie in them; k at most
unfoldable pub slots_from : Headers → ℕ → ℕ → Hdr → ℕ → List ℕ
slots_from h zero n f left = []
slots_from h (suc k) n f left =
    n ∷ (if nat_le left (held h n) then [] else slots_behind (next_header h f) (λ x. slots_from h k f.ext x (left - held h n)))

-- ---- the file

-- the first k blocks of a run
abbrev pub front_of : Run → ℕ → Run
front_of r k = record { lbn = r.lbn; count = k }

-- the first k blocks of runs
unfoldable pub cut : ℕ → List Run → List Run
cut zero rs = []
cut (suc k) [] = []
cut (suc k) (r ∷ rs) =
    if nat_le (suc k) r.count then front_of r (suc k) ∷ [] else r ∷ cut (suc k - r.count) rs

-- a file has at most so many headers
abbrev pub most_headers : ℕ
most_headers = 16

-- what the chain of a file says: the numbers of its slots, the runs that each of them lists, the runs of the file, and whether
-- something is listed behind these, or a link leads on
pub record HeaderChain : Type 0 where
  pub slots : List ℕ
  pub parts : List (List Run)
  pub runs : List Run
  pub surplus : Bool

abbrev pub has_link : Option Hdr → Bool
has_link None = false
has_link (Some f) = not (f.ext == 0)

-- the last of these slots, the first of which is n
abbrev pub last_slot : ℕ → List ℕ → ℕ
last_slot n [] = n
last_slot n (m ∷ ms) = last_slot m ms

-- the last of these slots has a link
abbrev pub ends_with_link : Headers → List ℕ → Bool
ends_with_link h [] = false
ends_with_link h (n ∷ ns) = has_link (h.says (last_slot n ns))

-- what slots tell of a file of so many blocks
abbrev pub chain_with : Headers → ℕ → List ℕ → HeaderChain
chain_with h blocks slots = record {
  slots = slots;
  parts = map h.lists slots;
  runs = cut blocks (flat_map h.lists slots);
  surplus = ends_with_link h slots || nat_lt blocks (blocks_in (flat_map h.lists slots));
}

-- the chain of the file whose first header is in slot n and says f
abbrev pub chain_of : Headers → ℕ → Hdr → HeaderChain
chain_of h n f = chain_with h f.blocks (slots_from h most_headers n f f.blocks)

-- ---- what can be wrong with it

-- the chain ends before the blocks do that the first header says
abbrev pub is_broken : Hdr → HeaderChain → Bool
is_broken f c = not (blocks_in c.runs == f.blocks)

-- the runs of all headers but the last have `full` blocks each, and those that are left for the last one are at most as many
abbrev pub are_filled : ℕ → ℕ → List Run → List (List Run) → Bool
are_filled full left part [] = nat_le left full
are_filled full left part (next ∷ parts) = (blocks_in part == full) && are_filled full (left - blocks_in part) next parts

abbrev pub are_parts_filled : ℕ → ℕ → List (List Run) → Bool
are_parts_filled full left [] = true
are_parts_filled full left (part ∷ parts) = are_filled full left part parts

-- each header but the last lists as many clusters as a header can, and the last one at most as many of the file's
unfoldable pub is_well_split : ℕ → HeaderChain → Bool
is_well_split factor c = are_parts_filled (header_most * factor) (blocks_in c.runs) c.parts
