-- The slots of a file's headers that become free: their numbers, the locks of these, and what is outside then.
use Rattle.std.proofs.Common.{◌≡◌, ◌≤◌, ◌+◌, ◌-◌, ◌*◌, ℕ, List, [], ◌∷◌, Option, Some, None, map, drop, length, refl, ap, subst, inl, inr, arith, length-drop}
use Rattle.base_words.specs.Fields.{Block}
use Rattle.base_words.specs.Lists.{Has}
use Rattle.fx_header.specs.declared.slot.Hdr.{Hdr}
use Rattle.lock_db.specs.declared.name.LockName.TheVariants.{S, Q, V}
use Rattle.plain_cat.specs.declared.cat.Cat.{Cat}
use Rattle.plain_cat.specs.declared.history.Stage.{Stage}
use Rattle.plain_cat.specs.declared.history.Stage.TheVariants as stage
use Rattle.vol_parts.specs.declared.geometry.Geometry.{Geometry}
use Rattle.vol_parts.specs.Chains.{most_headers}
use Rattle.vol_parts.specs.Volumes.{chain_from}
use Rattle.vol_parts.proofs.Walks.{slots-few}
use Rattle.vol_spell.specs.Owners.{Owners, Things}
use Rattle.vol_spell.specs.Reading.{IsFileNumber, header_place, header_block, headers_at, fields_told, told_of}
use Rattle.vol_spell.specs.Spelling.{Spells}
use Rattle.vol_spell.proofs.Parts.{slot_number}
use Rattle.vol_under.specs.UnderWay.{outs_after}
use Rattle.op_law.specs.Fits.{things}
use Rattle.op_law.specs.Freeing.{all_clusters, headers_freed}
use Rattle.op_law.specs.Headers.{slots_seen, numbers_of, slots_freed}
use Rattle.op_law.specs.Laws.{numbers_before, planned, most_outside}
use Rattle.op_law.specs.Refusing.{SeenFile}
use Rattle.op_steps.specs.Files.{file_in}
use Rattle.op_steps.specs.BitmapWrites.{brought}
use Rattle.op_steps.proofs.Turns.{brought_is}

-- ---- the numbers of headers

-- of headers that stand at their places
pub seen_numbers : (g : Geometry) (bs : List Block) (ms : List ℕ) → slots_seen g (map (λ m. (header_place g m, header_block g bs m)) ms) ≡ ms
seen_numbers g bs [] = refl
seen_numbers g bs (m ∷ ms) = let e : 4 * g.cluster + m - 4 * g.cluster ≡ m = omega arith in let rest = seen_numbers g bs ms in λ i. e i ∷ rest i

pub has_dropped : (ms : List ℕ) (m : ℕ) → Has (drop 1 ms) m → Has ms m
has_dropped [] m t = t
has_dropped (n ∷ ms) m t = inr t

-- those of a file are those of its slots
pub numbers_slots : (g : Geometry) (bs : List Block) (n : ℕ) (h : Hdr) (m : ℕ) → Has (numbers_of g (file_in g bs n h)) m → Has (n ∷ (told_of g bs n).slots) m
numbers_slots g bs n h m (inl e) = inl e
numbers_slots g bs n h m (inr t) =
    let ms = (told_of g bs n).slots in
    inr (has_dropped ms m (subst (λ (ns : List ℕ). Has ns m) (seen_numbers g bs (drop 1 ms)) t))

pub numbers_there : (g : Geometry) (bs : List Block) (own : Owners) (x : Cat) → Spells g bs own x → (n : ℕ) (h : Hdr) → IsFileNumber g n → (m : ℕ) → Has (numbers_of g (file_in g bs n h)) m → IsFileNumber g m
numbers_there g bs own x s n h is m t = elim (numbers_slots g bs n h m t) [
  | inl e ↦ subst (IsFileNumber g) e is
  | inr u ↦ slot_number g bs own x s n m is u
]

-- a file has at most 16
told_few : (g : Geometry) (bs : List Block) (n : ℕ) → length (told_of g bs n).slots ≤ most_headers
told_few g bs n = by_fields (fields_told (header_block g bs n)) where
  by_fields : (o : Option Hdr) → length (chain_from (headers_at g bs) n o).slots ≤ most_headers
  by_fields None = omega arith
  by_fields (Some f) = slots-few (headers_at g bs) most_headers n f f.blocks

pub numbers_few : (g : Geometry) (bs : List Block) (n : ℕ) (h : Hdr) → length (numbers_of g (file_in g bs n h)) ≤ most_outside
numbers_few g bs n h =
    let ms = (told_of g bs n).slots in
    let same : length (slots_seen g (file_in g bs n h).rest) ≡ length (drop 1 ms) = ap (λ (ns : List ℕ). length ns) (seen_numbers g bs (drop 1 ms)) in
    let less = length-drop 1 ms in
    let few = told_few g bs n in
    omega arith

-- ---- the locks

-- Q and V are the locks of no number
pub no_q : (ns : List ℕ) → Has (map S ns) Q → ⊥
no_q [] t = t
no_q (n ∷ ns) (inl e) = absurd (let f : S n ≡ Q = e in cc)
no_q (n ∷ ns) (inr t) = no_q ns t

pub no_v : (ns : List ℕ) → Has (map S ns) V → ⊥
no_v [] t = t
no_v (n ∷ ns) (inl e) = absurd (let f : S n ≡ V = e in cc)
no_v (n ∷ ns) (inr t) = no_v ns t

-- ---- what is outside

module _ (g : Geometry) (st : Stage) (qs ns : List ℕ) where
  pub slots_outs : (slots : List (ℕ × Block)) (o : Things) → o ≡ brought qs ns → outs_after o (map planned (slots_freed g st qs ns slots)) ≡ brought qs ns
  slots_outs [] o e = e
  slots_outs (y ∷ slots) o e = slots_outs slots (numbers_before ns (things qs None)) (brought_is qs ns)

module _ (g : Geometry) (f : SeenFile) where
  pub headers_outs : (o : Things) → outs_after o (map planned (headers_freed g f)) ≡ brought (all_clusters g f) (numbers_of g f)
  unfolding headers_freed
  headers_outs o = slots_outs g stage.Freed (all_clusters g f) (numbers_of g f) f.rest (numbers_before (numbers_of g f) (things (all_clusters g f) None)) (brought_is (all_clusters g f) (numbers_of g f))
