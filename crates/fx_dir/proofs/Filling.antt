-- Blocks that are filled one after another.
use Rattle.std.proofs.Common.{◌≡◌, ◌∙◌, ◌≤◌, ◌<◌, ◌++◌, true, false, ℕ, zero, suc, List, [], ◌∷◌, None, map, length, slice_set, slice_index_or, refl, sym, ap, subst, arith, append_assoc, not}
use Rattle.base_words.specs.Fields.{Block}
use Rattle.base_words.specs.Packing.{size, filled, unfilled, pack, over}
use Rattle.fx_dir.specs.declared.RawEnt.{RawEnt}
use Rattle.fx_dir.specs.Lists.{Each, joined}
use Rattle.fx_dir.specs.Entries.{rises, same, has, without}
use Rattle.fx_dir.specs.Moves.{place, rising, falling, less_last, insert_writes, remove_writes}
use Rattle.fx_dir.specs.Writing.{IsRanged, name_of, block_of, if_fits}
use Rattle.fx_dir.specs.Pieces.{insertion_by, removal_by}
use Rattle.std.proofs.lemmas.List.{length-map}
use Rattle.fx_dir.proofs.Finding.{each-joined}
use Rattle.fx_dir.proofs.Greedy.{pack-room, pack-length, size-filter}
use Rattle.fx_dir.proofs.Groups.{take-out}
use Rattle.fx_dir.proofs.Mixing.{pack-joined}
use Rattle.fx_dir.proofs.Seeing.{map-set_at}

-- what goes into a block has room in it
pub group-room : (es g : List RawEnt) → g ≡ filled name_of None 0 es → size name_of None g ≤ 510
group-room es g h = subst (λ (t : List RawEnt). size name_of None t ≤ 510) (sym h) (pack-room 1 es).0

-- and so has what is left of it
pub rest-room : (e : RawEnt) (es g : List RawEnt) → g ≡ filled name_of None 0 es → size name_of None (without e g) ≤ 510
rest-room e es g h = let r = group-room es g h in let s = size-filter (λ x. not (same e x)) None g in omega arith

-- one block more
pub blocks-step : (all blocks more : List Block) (group es rest : List RawEnt) (b : Block) (n : ℕ) → blocks ++ map block_of (pack name_of (suc n) es) ≡ all → more ≡ blocks ++ b ∷ [] → b ≡ block_of group
    → group ≡ filled name_of None 0 es → rest ≡ unfilled name_of None 0 es → more ++ map block_of (pack name_of n rest) ≡ all
blocks-step all blocks more group es rest b n h l k f u =
    let e : b ≡ block_of (filled name_of None 0 es) = k ∙ ap block_of f in
    (λ i. l i ++ map block_of (pack name_of n (u i))) ∙ append_assoc blocks (b ∷ []) (map block_of (pack name_of n (unfilled name_of None 0 es)))
    ∙ (λ i. blocks ++ e i ∷ map block_of (pack name_of n (unfilled name_of None 0 es))) ∙ h

pub over-next : (all es rest : List RawEnt) (n : ℕ) → over name_of (suc n) es ≡ all → rest ≡ unfilled name_of None 0 es → over name_of n rest ≡ all
over-next all es rest n h u = ap (over name_of n) u ∙ h

-- ---- the block that has an entry

module _ (e : RawEnt) (es : List RawEnt) where
  pub place-here : (n : ℕ) → has (filled name_of None 0 es) e ≡ true → place e (pack name_of (suc n) es) ≡ 0
  place-here n h = rw h refl

  pub block-here : (n : ℕ) → has (filled name_of None 0 es) e ≡ true → slice_index_or (pack name_of (suc n) es) (place e (pack name_of (suc n) es)) [] ≡ filled name_of None 0 es
  block-here n h = rw h refl

  pub place-on : (rest : List RawEnt) (n : ℕ) → has (filled name_of None 0 es) e ≡ false → rest ≡ unfilled name_of None 0 es → place e (pack name_of (suc n) es) ≡ suc (place e (pack name_of n rest))
  place-on rest n h u = rw (h, u) refl

  pub block-on : (rest : List RawEnt) (n : ℕ) → has (filled name_of None 0 es) e ≡ false → rest ≡ unfilled name_of None 0 es
      → slice_index_or (pack name_of (suc n) es) (place e (pack name_of (suc n) es)) [] ≡ slice_index_or (pack name_of n rest) (place e (pack name_of n rest)) []
  block-on rest n h u = rw (h, u) refl

-- ---- what has no room

pub none-left : {X : Type 0} (xs : List X) (n : ℕ) → n ≡ length xs → n ≤ 0 → xs ≡ []
none-left [] n e h = refl
none-left (x ∷ xs) n e h = absurd (omega arith)

pub some-left : {Y : Type 0} (xs : List RawEnt) (n : ℕ) (y : Y) → n ≡ length xs → 0 < n → if_fits xs y ≡ None
some-left [] n y e h = absurd (omega arith)
some-left (x ∷ xs) n y e h = refl

pub length-blocks : (k : ℕ) (es : List RawEnt) → length (map block_of (pack name_of k es)) ≡ k
length-blocks k es = length-map (pack name_of k es) block_of ∙ pack-length k es

-- ---- the blocks where the block of an entry lacks it

pub blocks-lacking : (e : RawEnt) (gs : List (List RawEnt)) → rises (joined gs) ≡ true → slice_set (map block_of gs) (place e gs) (block_of (without e (slice_index_or gs (place e gs) []))) ≡ map block_of (map (without e) gs)
blocks-lacking e gs r = map-set_at block_of gs (place e gs) (without e (slice_index_or gs (place e gs) [])) ∙ ap (map block_of) (take-out e gs r)

block-index : (gs : List (List RawEnt)) (i : ℕ) → i < length gs → slice_index_or (map block_of gs) i [] ≡ block_of (slice_index_or gs i [])
block-index [] i h = absurd (omega arith)
block-index (g ∷ gs) zero h = refl
block-index (g ∷ gs) (suc i) h = block-index gs i (omega arith)

pub insertion-is : (old : List Block) (left : List (List RawEnt)) (e : RawEnt) (gs : List (List RawEnt)) → rises (joined gs) ≡ true → place e gs < length gs
    → insertion_by old (map block_of left) (map block_of gs) (place e gs) (block_of (without e (slice_index_or gs (place e gs) []))) ≡ insert_writes old left e gs
insertion-is old left e gs r h = λ i.
    (rising 1 old (map block_of left) ++ less_last (suc (place e gs)) (falling 1 (map block_of left) (blocks-lacking e gs r i)))
    ++ record { vbn = suc (place e gs); block = block-index gs (place e gs) h i } ∷ []

pub removal-is : (old : List Block) (left : List (List RawEnt)) (e : RawEnt) (rest : List (List RawEnt)) → rises (joined left) ≡ true
    → removal_by old (map block_of left) (place e left) (block_of (without e (slice_index_or left (place e left) []))) (map block_of rest) ≡ remove_writes old left e rest
removal-is old left e rest r = λ i.
    rising 1 old (map block_of left) ++ record { vbn = suc (place e left); block = block_of (without e (slice_index_or left (place e left) [])) } ∷ rising 1 (blocks-lacking e left r i) (map block_of rest)

-- the entries of a packing that leaves none over rise as they do
pub pack-rises : (k : ℕ) (es : List RawEnt) → over name_of k es ≡ [] → rises es ≡ true → rises (joined (pack name_of k es)) ≡ true
pack-rises k es o r = subst (λ (t : List RawEnt). rises t ≡ true) (sym (pack-joined k es o)) r

-- and are in the ranges that its groups are in
pub pack-ranged : (k : ℕ) (es : List RawEnt) → over name_of k es ≡ [] → Each (λ g. Each IsRanged g) (pack name_of k es) → Each IsRanged es
pack-ranged k es o n = subst (λ (t : List RawEnt). Each IsRanged t) (pack-joined k es o) (each-joined IsRanged (pack name_of k es) n)
