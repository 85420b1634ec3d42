-- The writes of a search are to blocks that lie apart.
use Rattle.std.proofs.Common.{◌≡◌, ◌≤◌, ◌<◌, ◌+◌, ◌/◌, ◌++◌, ℕ, true, false, List, [], ◌∷◌, Option, Some, None, map, refl, sym, subst, inl, inr, arith}
use Rattle.base_words.specs.Fields.{Block}
use Rattle.plain_cat.specs.declared.cat.Cat.{Cat}
use Rattle.plain_cat.specs.declared.reply.Refusal.TheVariants.{IndexFull}
use Rattle.base_words.specs.Lists.{Has, Once}
use Rattle.vol_spell.specs.Owners.{Owners}
use Rattle.vol_parts.specs.declared.geometry.Geometry.{Geometry}
use Rattle.vol_parts.specs.declared.geometry.Part.TheVariants.{IndexBitmap, Storage}
use Rattle.vol_spell.specs.Reading.{total_of}
use Rattle.vol_spell.specs.Places.{place_of, IsPart}
use Rattle.vol_spell.specs.Spelling.{Spells}
use Rattle.vol_spell.proofs.Parts.{are_parts}
use Rattle.op_law.specs.declared.need.PlanWrite.{PlanWrite}
use Rattle.core_space.specs.Searching.{More, Short, Enough, free_number, number_write, taken_in, cluster_write, cluster_writes, found_number}
use Rattle.core_space.specs.Taking.{WritesApart}
use Rattle.core_space.proofs.Ways.{enough_of}
use Rattle.core_space.proofs.Chosen.{LiesIn, has_taken_in}

abbrev pub lbns : List PlanWrite → List ℕ
lbns ws = map (λ w. w.lbn) ws

-- a block of the storage bitmap from block k on
record IsFrom (g : Geometry) (k l : ℕ) : Type 0 where
  block : ℕ
  behind : k ≤ block
  inside : IsPart g (Storage block)
  place : l ≡ place_of g (Storage block)

further : (g : Geometry) (k l : ℕ) → IsFrom g (k + 1) l → IsFrom g k l
further g k l f = let h = f.behind in record { block = f.block; behind = omega arith; inside = f.inside; place = f.place }

one_from : (g : Geometry) (number : Option ℕ) (before : List ℕ) (k : ℕ) (b : Block) (qs : List ℕ) (rest : List PlanWrite) (l : ℕ) → ((q : ℕ) → Has qs q → LiesIn g k q) → (Has (lbns rest) l → IsFrom g (k + 1) l)
    → Has (lbns (cluster_write g number before k b qs ++ rest)) l → IsFrom g k l
one_from g number before k b [] rest l lies next t = further g k l (next t)
one_from g number before k b (q ∷ qs) rest l lies next (inl e) =
    let h = lies q (inl refl) in
    let lt = h.inside in
    let block = h.block in
    let in_bitmap : k < (total_of g + 4095) / 4096 = omega arith in
    record { block = k; behind = omega arith; inside = in_bitmap; place = sym e }
one_from g number before k b (q ∷ qs) rest l lies next (inr t) = further g k l (next t)

all_from : (g : Geometry) (wanted : ℕ) (number : Option ℕ) (before : List ℕ) (k : ℕ) (bs : List Block) (l : ℕ) → Has (lbns (cluster_writes g wanted number before k bs)) l → IsFrom g k l
unfolding cluster_writes
all_from g wanted number before k [] l t = absurd t
all_from g wanted number before k (b ∷ bs) l t =
    let qs = taken_in g wanted before k b in
    one_from g number before k b qs (cluster_writes g wanted number (before ++ qs) (k + 1) bs) l (λ q u. (has_taken_in g wanted before k b q u).0) (all_from g wanted number (before ++ qs) (k + 1) bs l) t

one_once : (g : Geometry) (number : Option ℕ) (before : List ℕ) (k : ℕ) (b : Block) (qs : List ℕ) (rest : List PlanWrite) → ((l : ℕ) → Has (lbns rest) l → IsFrom g (k + 1) l) → Once (lbns rest) → Once (lbns (cluster_write g number before k b qs ++ rest))
one_once g number before k b [] rest next once = once
one_once g number before k b (q ∷ qs) rest next once = (
  (λ t.
      let f = next (place_of g (Storage k)) t in
      let h = f.behind in
      let same : g.bitmap_lbn + 1 + k ≡ g.bitmap_lbn + 1 + f.block = f.place in
      absurd (omega arith)),
  once,
)

all_once : (g : Geometry) (wanted : ℕ) (number : Option ℕ) (before : List ℕ) (k : ℕ) (bs : List Block) → Once (lbns (cluster_writes g wanted number before k bs))
unfolding cluster_writes
all_once g wanted number before k [] = tt
all_once g wanted number before k (b ∷ bs) =
    let qs = taken_in g wanted before k b in
    one_once g number before k b qs (cluster_writes g wanted number (before ++ qs) (k + 1) bs) (all_from g wanted number (before ++ qs) (k + 1) bs) (all_once g wanted number (before ++ qs) (k + 1) bs)

number_once : (g : Geometry) (clusters : ℕ) (index : Block) (n : Option ℕ) (bs : List Block) (ws : List PlanWrite) (base : List Block) (own : Owners) (c : Cat) → found_number g clusters index n bs ≡ Enough ws → Spells g base own c → Once (lbns ws)
number_once g clusters index None bs ws base own c e s = absurd (let f : Short IndexFull ≡ Enough ws = e in cc)
number_once g clusters index (Some n) bs ws base own c e s =
    let enough = enough_of g clusters (Some n) (number_write g n index ∷ []) bs ws e in
    let parts = are_parts g base own c s in
    subst (λ (vs : List PlanWrite). Once (lbns vs)) (sym enough.1) (
      (λ t.
          let f = all_from g clusters (Some n) [] 0 bs (place_of g IndexBitmap) t in
          absurd (let same : IndexBitmap ≡ Storage f.block = parts.apart IndexBitmap (Storage f.block) tt f.inside f.place in cc)),
      all_once g clusters (Some n) [] 0 bs,
    )

pub writes_apart : WritesApart
writes_apart g clusters false bs ws base own c e s =
    let enough = enough_of g clusters None [] bs ws e in
    subst (λ (vs : List PlanWrite). Once (lbns vs)) (sym enough.1) (all_once g clusters None [] 0 bs)
writes_apart g clusters true [] ws base own c e s = absurd (let f : More ≡ Enough ws = e in cc)
writes_apart g clusters true (index ∷ bs) ws base own c e s = number_once g clusters index (free_number g index) bs ws base own c e s
