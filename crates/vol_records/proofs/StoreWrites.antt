-- The writes by which bytes are stored, one after the other.
use Rattle.std.proofs.Common.{◌≡◌, ◌∙◌, ◌≤◌, ◌<◌, ◌+◌, ◌++◌, ℕ, zero, suc, List, [], ◌∷◌, Some, length, take, drop, slice_get, slice_set, refl, sym, ap, subst, arith, append-nil, append_assoc}
use Rattle.std.proofs.lemmas.Option.{slice_get_within}
use Rattle.base_words.specs.Fields.{Block, IsWholeBlock}
use Rattle.base_words.specs.Lists.{written}
use Rattle.fx_header.specs.declared.slot.Hdr.{Hdr}
use Rattle.fx_header.specs.Pointers.{lbns_in}
use Rattle.plain_cat.specs.declared.cat.Cat.{Cat}
use Rattle.plain_cat.specs.declared.cat.File.{File}
use Rattle.vol_parts.specs.declared.geometry.Geometry.{Geometry}
use Rattle.vol_spell.specs.Owners.{Owners}
use Rattle.vol_spell.proofs.Placing.{length-blocks_at}
use Rattle.vol_spell.specs.Files.{blocks_told}
use Rattle.vol_spell.specs.Reading.{told_of}
use Rattle.vol_records.specs.Making.{placed}
use Rattle.vol_records.proofs.StoreSteps.{IsBare, block_made}

-- ---- lists

pub none_written : (k : ℕ) (bs : List Block) → written (take k []) bs ≡ bs
none_written zero bs = refl
none_written (suc k) bs = refl

-- what holds after each number of writes
pub through : (R : List Block → Type 0) (ws vs : List (ℕ × Block)) (bs : List Block) → ((n : ℕ) → R (written (take n ws) bs)) → ((n : ℕ) → R (written (take n vs) (written ws bs))) → (n : ℕ) → R (written (take n (ws ++ vs)) bs)
through R [] vs bs f g n = g n
through R (w ∷ ws) vs bs f g zero = f 0
through R (w ∷ ws) vs bs f g (suc n) = through R ws vs (slice_set bs w.0 w.1) (λ m. f (suc m)) g n

drop_cons : (xs : List ℕ) (j l : ℕ) (ls : List ℕ) → drop j xs ≡ l ∷ ls → (slice_get xs j ≡ Some l) × (drop (suc j) xs ≡ ls)
drop_cons [] zero l ls e = absurd (cc e)
drop_cons [] (suc j) l ls e = absurd (cc e)
drop_cons (x ∷ xs) zero l ls e =
    let first : x ≡ l = cc e in
    let rest : xs ≡ ls = cc e in
    (ap (λ y. Some y) first, rest)
drop_cons (x ∷ xs) (suc j) l ls e = drop_cons xs j l ls e

take_set : (xs : List Block) (j : ℕ) (b : Block) → j < length xs → take (suc j) (slice_set xs j b) ≡ take j xs ++ b ∷ []
take_set [] j b lt = absurd (omega (arith, lt))
take_set (x ∷ xs) zero b lt = refl
take_set (x ∷ xs) (suc j) b lt = ap (λ ys. x ∷ ys) (take_set xs j b (omega (arith, lt)))

-- ---- the blocks of the file

module _ (g : Geometry) (own : Owners) (c : Cat) (n : ℕ) (h : Hdr) (f : File) (hb : Block) (stands : List ℕ) where
  -- after these writes the file shows nothing still, and its first blocks are those before them and these
  pub record AreWritten (j : ℕ) (ws : List (ℕ × Block)) (cs bs : List Block) : Type 0 where
    pub bare : (k : ℕ) → IsBare g own c n h f hb stands (written (take k ws) bs)
    pub all : IsBare g own c n h f hb stands (written ws bs)
    pub blocks : take (j + length cs) (blocks_told g (written ws bs) n) ≡ take j (blocks_told g bs n) ++ cs

  pub are_written : (ls : List ℕ) (cs : List Block) (j : ℕ) (bs : List Block) → IsBare g own c n h f hb stands bs → drop j stands ≡ ls → length cs ≤ length ls → ((k : ℕ) (b : Block) → slice_get cs k ≡ Some b → IsWholeBlock b)
      → AreWritten j (placed ls cs) cs bs
  are_written ls [] j bs is at room whole = none_placed ls where
    still : AreWritten j [] [] bs
    still = record {
      bare = λ k. subst (λ (x : List Block). IsBare g own c n h f hb stands x) (sym (none_written k bs)) is;
      all = is;
      blocks = ap (λ k. take k (blocks_told g bs n)) (let z : j + 0 ≡ j = omega arith in z) ∙ sym (append-nil (take j (blocks_told g bs n)));
    }

    none_placed : (ms : List ℕ) → AreWritten j (placed ms []) [] bs
    none_placed [] = still
    none_placed (m ∷ ms) = still
  are_written [] (b ∷ cs) j bs is at room whole = absurd (omega (arith, room))
  are_written (l ∷ ls) (b ∷ cs) j bs is at room whole =
      let d = drop_cons stands j l ls at in
      let here : slice_get (lbns_in (told_of g bs n).runs) j ≡ Some l = ap (λ (xs : List ℕ). slice_get xs j) is.places ∙ d.0 in
      let made = block_made g own c n h f hb stands bs is j l b (whole 0 b refl) here in
      let rest = are_written ls cs (suc j) (slice_set bs l b) made.bare d.1 (omega (arith, room)) (λ k x e. whole (suc k) x e) in
      let inside : j < length (blocks_told g bs n) = blocks_within bs l here in
      record {
        bare = λ k. each k is rest.bare;
        all = rest.all;
        blocks = ap (λ k. take k (blocks_told g (written (placed ls cs) (slice_set bs l b)) n)) (let z : j + suc (length cs) ≡ suc j + length cs = omega arith in z)
            ∙ (rest.blocks
            ∙ (ap (λ ys. take (suc j) ys ++ cs) made.blocks
            ∙ (ap (λ ys. ys ++ cs) (take_set (blocks_told g bs n) j b inside)
            ∙ append_assoc (take j (blocks_told g bs n)) (b ∷ []) cs)));
      }
    where
      blocks_within : (bs : List Block) (l : ℕ) → slice_get (lbns_in (told_of g bs n).runs) j ≡ Some l → j < length (blocks_told g bs n)
      blocks_within bs l e =
          let lt = slice_get_within (lbns_in (told_of g bs n).runs) j l e in
          let len = length-blocks_at bs (lbns_in (told_of g bs n).runs) in
          omega (arith, lt, len)

      each : (k : ℕ) → IsBare g own c n h f hb stands bs → ((m : ℕ) → IsBare g own c n h f hb stands (written (take m (placed ls cs)) (slice_set bs l b))) → IsBare g own c n h f hb stands (written (take k ((l, b) ∷ placed ls cs)) bs)
      each zero i rest = i
      each (suc k) i rest = rest k
