-- The blocks of a new directory, each without an entry.
use Rattle.std.proofs.Common.{◌≡◌, ◌<◌, ◌/◌, ℕ, suc, Bool, true, false, List, [], ◌∷◌, Option, Some, None, length, map, refl, ap, subst, ◌∙◌, inl, inr, arith, cond, Ok}
use Rattle.std.specs.List.{zip}
use Rattle.base_words.specs.Fields.{Block, IsWholeBlock}
use Rattle.fx_dir.specs.Directory.{directory, read_on, one_more, and_then, next_vbn}
use Rattle.fx_dir.specs.Records.{block_entries}
use Rattle.fx_dir.specs.Writing.{block_of}
use Rattle.fx_dir.proofs.Written.{block-read}
use Rattle.vol_parts.proofs.Groups.{whole_entries}
use Rattle.lock_db.specs.declared.name.LockName.TheVariants.{S}
use Rattle.plain_cat.specs.declared.cat.File.{File}
use Rattle.plain_cat.specs.declared.cat.Cat.{Cat}
use Rattle.plain_cat.specs.declared.history.Stage.TheVariants as stage
use Rattle.vol_spell.specs.declared.owner.Owner.TheVariants.{Outside}
use Rattle.base_words.specs.Lists.{Has, Once, written}
use Rattle.vol_spell.specs.Owners.{Owners, Things, Outs}
use Rattle.vol_spell.specs.Spread.{blocks_at, spread}
use Rattle.base_words.proofs.Listing.{once_first}
use Rattle.vol_spell.proofs.Placing.{spread_in, spread_once, blocks_written}
use Rattle.vol_parts.specs.declared.geometry.Geometry.{Geometry}
use Rattle.vol_spell.specs.Reading.{owner_at}
use Rattle.vol_spell.specs.Spelling.{Spells}
use Rattle.vol_spell.proofs.Frames.{on_volume}
use Rattle.vol_under.specs.UnderWay.{PlannedWrite, bare}
use Rattle.vol_under.specs.Freeing.{IsOutsideWrite}
use Rattle.op_law.specs.declared.need.PlanWrite.{PlanWrite}
use Rattle.op_law.specs.Entering.{body_writes}
use Rattle.op_law.specs.Fits.{things}
use Rattle.op_law.specs.Laws.{planned}
use Rattle.op_law.specs.Writing.{holding, write_at}
use Rattle.op_steps.specs.Chained.{after_writes}
use Rattle.op_steps.proofs.FileHeads.{IsBare}

-- ---- a block without an entry

pub whole_empty : IsWholeBlock (block_of [])
whole_empty = whole_entries [] tt tt (omega arith)

empty_read : block_entries (block_of []) ≡ Some []
empty_read = block-read [] (record { form = tt; ranged = tt }) refl (omega arith)

-- of such blocks a directory has no entry
empty_blocks : (vbn : ℕ) (ls : List ℕ) → read_on vbn [] (map (λ l. block_of []) ls) ≡ Ok []
empty_blocks vbn [] = refl
empty_blocks vbn (l ∷ ls) = ap (λ o. and_then (one_more vbn [] o) (λ fs. read_on (next_vbn vbn) fs (map (λ k. block_of []) ls))) empty_read ∙ empty_blocks (next_vbn vbn) ls

-- ---- the writes

-- a write of such a block of a new directory
abbrev empty_write : ℕ → List ℕ → ℕ → PlanWrite
empty_write n qs l = write_at (S n) l (block_of []) stage.Charged (holding qs (Some n))

zipped : (n : ℕ) (qs ls : List ℕ) → bare (map planned (map (empty_write n qs) ls)) ≡ zip ls (map (λ l. block_of []) ls)
zipped n qs [] = refl
zipped n qs (l ∷ ls) = ap (λ ws. (l, block_of []) ∷ ws) (zipped n qs ls)

length-empty : (ls : List ℕ) → length (map (λ l. block_of []) ls) ≡ length ls
length-empty [] = refl
length-empty (l ∷ ls) = ap suc (length-empty ls)

-- a block of clusters that a node has outside
pub outside_at : (g : Geometry) (node : ℕ) (own : Owners) (qs : List ℕ) (number : Option ℕ) (stock : Things) (l : ℕ) → Outs node own (things qs number) stock → Has (spread g.cluster qs) l → owner_at g own l ≡ Some (Outside node)
outside_at g node own qs None stock l outs t = (outs.clusters.all (l / g.cluster)).1 (inl (spread_in g.cluster qs l t))
outside_at g node own qs (Some n) stock l outs t = (outs.clusters.all (l / g.cluster)).1 (inl (spread_in g.cluster qs l t))

-- The writes of a new file's own blocks: each is to a block outside, and a directory's blocks have no entries after them.
pub record AreBody (g : Geometry) (node n : ℕ) (f : File) (qs : List ℕ) (bs : List Block) (own : Owners) (vs : List PlanWrite) : Type 0 where
  pub each : (w : PlannedWrite) → Has (map planned vs) w → IsOutsideWrite g node own stage.Charged (things qs (Some n)) w
  pub bare : IsBare f (blocks_at (after_writes vs bs) (spread g.cluster qs))

module _ (g : Geometry) (node n : ℕ) (f : File) (qs : List ℕ) (stock : Things) (bs : List Block) (own : Owners) (x : Cat) (spelt : Spells g bs own x) (outs : Outs node own (things qs (Some n)) stock) where
  each_empty : (ls : List ℕ) → ((l : ℕ) → Has ls l → Has (spread g.cluster qs) l) → (w : PlannedWrite) → Has (map planned (map (empty_write n qs) ls)) w → IsOutsideWrite g node own stage.Charged (things qs (Some n)) w
  each_empty [] among w t = absurd t
  each_empty (l ∷ ls) among w (inl e) =
      let here : IsOutsideWrite g node own stage.Charged (things qs (Some n)) (planned (empty_write n qs l)) = record {
        whole = whole_empty;
        owner = outside_at g node own qs (Some n) stock l outs (among l (inl refl));
        stage = refl;
        outs = refl;
      } in
      subst (λ (v : PlannedWrite). IsOutsideWrite g node own stage.Charged (things qs (Some n)) v) e here
  each_empty (l ∷ ls) among w (inr t) = each_empty ls (λ k u. among k (inr u)) w t

  bare_after : directory (blocks_at (after_writes (map (empty_write n qs) (spread g.cluster qs)) bs) (spread g.cluster qs)) ≡ Ok []
  bare_after =
      let ls : List ℕ = spread g.cluster qs in
      let once : Once ls = spread_once g.cluster qs (once_first qs stock.clusters outs.clusters.once) in
      let inside : (l : ℕ) → Has ls l → l < length bs = λ l t. on_volume g bs own x spelt l (Outside node) (outside_at g node own qs (Some n) stock l outs t) in
      ap (λ ws. directory (blocks_at (written ws bs) ls)) (zipped n qs ls)
      ∙ ap (λ (body : List Block). directory body) (blocks_written bs ls (map (λ l. block_of []) ls) once (length-empty ls) inside)
      ∙ empty_blocks 1 ls

  by_kind : (d : Bool) → f.dir ≡ d → AreBody g node n f qs bs own (cond d (map (empty_write n qs) (spread g.cluster qs)) [])
  by_kind true e = record { each = each_empty (spread g.cluster qs) (λ l t. t); bare = λ d. bare_after }
  by_kind false e = record { each = λ w t. absurd t; bare = λ d. absurd (cc) }

  pub are_body : AreBody g node n f qs bs own (body_writes g n f qs)
  unfolding body_writes
  are_body = by_kind f.dir refl
