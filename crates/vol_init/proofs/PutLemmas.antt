-- One part more is written.
use Rattle.std.proofs.Common.{◌≡◌, ◌≢◌, ◌∙◌, ◌+◌, ◌*◌, ◌<◌, ◌≤◌, ℕ, List, Option, refl, sym, subst, inl, inr, arith}
use Rattle.std.proofs.lemmas.Bool.{cases_lt}
use Rattle.base_words.specs.Fields.{Block}
use Rattle.vol_init.specs.declared.plan.Plan.{Plan}
use Rattle.vol_init.specs.declared.part.Part.{Part}
use Rattle.base_words.specs.Fields.{block_at as block_in}
use Rattle.vol_init.specs.Plans.{IsPlan, SaysAt, IsAt, ArePut}
use Rattle.vol_init.specs.Layouts.{reserved_clusters}
use Rattle.vol_init.proofs.PlaceLemmas.{places, part-none, parts-end}

pub none-put : (p : Plan) (bs : List Block) → ArePut p 2 bs bs
none-put p bs = record { there = λ lbn low high. absurd (omega arith); rest = λ lbn h. refl }

pub put-more : (p : Plan) (lbn : ℕ) (start old new : List Block) → ArePut p lbn start old → IsAt p lbn (block_in old lbn) (block_in new lbn)
    → ((k : ℕ) → k ≢ lbn → block_in new k ≡ block_in old k) → ArePut p (lbn + 1) start new
put-more p lbn start old new h at others = record {
  there = λ k low high. elim (cases_lt k lbn) [
    | inl before ↦
        (let ne : k ≢ lbn = omega arith in
        let P : Block → Type 0 = λ b. IsAt p k (block_in start k) b in
        subst P (sym (others k ne)) (h.there k low before))
    | inr after ↦
        (let e : lbn ≡ k = omega arith in
        let P : Block → Type 0 = λ b. IsAt p lbn b (block_in new lbn) in
        let Q : ℕ → Type 0 = λ j. IsAt p j (block_in start j) (block_in new j) in
        subst Q e (subst P (h.rest lbn (omega arith)) at))
  ];
  rest = λ k h'. (let ne : k ≢ lbn = omega arith in others k ne ∙ h.rest k (omega arith));
}

pub low-more : (lbn : ℕ) (start old new : List Block) → 1 < lbn → ((k : ℕ) → k < 2 → block_in old k ≡ block_in start k)
    → ((k : ℕ) → k ≢ lbn → block_in new k ≡ block_in old k) → (k : ℕ) → k < 2 → block_in new k ≡ block_in start k
low-more lbn start old new h low others k small = (let ne : k ≢ lbn = omega arith in others k ne ∙ low k small)

-- the system files lie inside the volume, behind the home block
pub record PartsLie (p : Plan) : Type 0 where
  pub some : 2 ≤ p.layout.cluster * reserved_clusters p.layout
  pub inside : p.layout.cluster * reserved_clusters p.layout ≤ p.layout.blocks

pub parts-lie : (p : Plan) → IsPlan p → PartsLie p
parts-lie p h =
    let q = places p.layout h.limits h.room in
    let e = parts-end p.layout in
    record {
      some = omega (arith, q.some, q.index, q.bitmap, q.main, q.lost, e);
      inside = omega (arith, q.quota, e);
    }

-- no part lies behind the system files, so all are written
pub put-all : (p : Plan) (end n : ℕ) (old new : List Block) → IsPlan p → p.layout.cluster * reserved_clusters p.layout ≤ end → end ≤ n
    → ArePut p end old new → ArePut p n old new
put-all p end n old new h e far put = record {
  there = λ lbn low high. elim (cases_lt lbn end) [
    | inl before ↦ put.there lbn low before
    | inr after ↦
        (let none = part-none p.layout lbn (places p.layout h.limits h.room) (omega (arith, parts-end p.layout)) in
        let P : Option Part → Type 0 = λ o. SaysAt p o (block_in old lbn) (block_in new lbn) in
        subst P (sym none) (put.rest lbn after))
  ];
  rest = λ lbn behind. put.rest lbn (omega arith);
}
